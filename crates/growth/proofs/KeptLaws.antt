-- What is there between turns stays there when nothing past the level stacks changes: the table, the changes and the flood's stack lie past them.
-- Assumes nothing.
use Prim.Native.Nat.{ℕ, ◌+◌, ◌*◌, ◌≤◌, ◌<◌}
use native.Mathlib.Omega.{arith}
use native.Mathlib.Decide.{dec_lt}
use mathlib.Core.Path.{◌≡◌, ◌∙◌}
use mathlib.Core.List.{List}
use lib.ListN.{length, get_or}
use Rattle.rules.specs.Refusals.{most_spans}
use Rattle.space.specs.Space.{Clear}
use Rattle.net.specs.declared.Sections.{Sections}
use Rattle.net.specs.Table.{net_at}
use Rattle.net.proofs.Tables.{net_few, net_same, lent_same}
use Rattle.growth.specs.Floods.{IdsBelowNext}
use Rattle.growth.specs.Turns.{Left, Between}

module _ (ar con : List ℕ) (at : Sections) (next : ℕ) (fs : List ℕ) (j : ℕ) (ids ws : List ℕ) (v : Between ar con at next fs j ids ws) where
  -- few spans, and room for all sections
  pub few_spans : length ar ≤ most_spans
  few_spans = net_few at.table ar ws v.lent.closed

  pub room_for : 13 * length ar ≤ length ws
  room_for = omega (arith, v.laid.past, v.lent.room)

  -- the expansion's flags lie where the flood's stack is
  pub flags_at : at.stack ≡ at.changes + 3 * length ar
  flags_at = omega (arith, v.laid.changes, v.laid.stack)

  pub flags_clear : Clear at.changes (at.changes + 4 * length ar) ws
  flags_clear = record {
    blank = λ x l u. elim (dec_lt x (at.changes + 3 * length ar)) [
      | yes h ↦ v.changes.blank x l h
      | no h ↦ v.stack.zeros x (omega (arith, flags_at)) (omega (arith, flags_at))
    ];
  }

  module _ (ws' : List ℕ) (size : length ws' ≡ length ws) (past : (x : ℕ) → 9 * length ar ≤ x → get_or ws' x 0 ≡ get_or ws x 0) where
    pub kept_net : net_at at.table ar ws' ≡ net_at at.table ar ws
    kept_net = net_same at.table ar ws ws' v.lent.room size (λ x h. past x (omega (arith, v.laid.past)))

    pub kept_between : (next' : ℕ) (fs' : List ℕ) (j' : ℕ) (ids' : List ℕ) → j' < 8 → IdsBelowNext (length ar) next' ids' → Left (length ar) fs' j' ws' → Between ar con at next' fs' j' ids' ws'
    kept_between next' fs' j' ids' t b f = record {
      lent = lent_same at.table ar con ws ws' size kept_net v.lent;
      both_ways = rw kept_net v.both_ways;
      laid = v.laid;
      turn = t;
      ids_below = b;
      changes = record { blank = λ x a u. past x (omega (arith, v.laid.changes)) ∙ v.changes.blank x a u };
      stack = record { zeros = λ x a u. past x (omega (arith, v.laid.stack)) ∙ v.stack.zeros x a u };
      left = f;
    }
