-- The expansion of the turn's stack: what it asks is there (`Ready`), and afterwards all is there for the floods, with the stack's entries expanded as the rule does.
-- Assumes nothing.
use Prim.Native.Nat.{ℕ, ◌+◌, ◌*◌, ◌≤◌, ◌<◌}
use native.Mathlib.Omega.{arith}
use mathlib.Core.Path.{◌≡◌, sym, ap, ◌∙◌}
use mathlib.Core.Bool.{Bool}
use mathlib.Core.Logic.{inl, inr, ⊎_elim}
use mathlib.Core.List.{List, []}
use lib.ListN.{length, get_or, set}
use Rattle.rules.specs.Field.{none}
use Rattle.rules.specs.Net.{Net, spans}
use Rattle.rules.specs.Growth.{Spread, expand, expand_strays}
use Rattle.rules.specs.Reasons.{Story, expand_tells}
use Rattle.rules.specs.Refusals.{most_spans}
use Rattle.laws.proofs.Basics.{All, All_map}
use Rattle.laws.proofs.Grows.{Inside, expand_down}
use Rattle.space.specs.Space.{sec}
use Rattle.net.specs.declared.Sections.{Sections}
use Rattle.net.specs.Table.{net_at}
use Rattle.net.proofs.Tables.{spans-at}
use Rattle.flood.specs.Stack.{marks_at}
use Rattle.expand.specs.Layout.{Entries, Kept, Given}
use Rattle.expand.proofs.Lists.{all_at, list_at-sec}
use Rattle.levels.specs.Levels.{Stacked}
use Rattle.levels.proofs.LevelLaws.{slots}
use Rattle.levels.proofs.CarryLaws.{stacked_used}
use Rattle.levels.proofs.TurnLaws.{expand_stack}
use Rattle.growth.specs.Floods.{IdsBelowNext, EntriesAt}
use Rattle.growth.specs.Turns.{stacks_at, stack_of, Ready, Expanded}
use Rattle.growth.proofs.SpreadLaws.{expand_ids_below}
use Rattle.growth.proofs.StackLaws.{stack_at, stacks_changed}
use Rattle.growth.proofs.KeptLaws.{few_spans, room_for, flags_clear, kept_between}

module _ (ar con : List ℕ) (at : Sections) (next : ℕ) (fs : List ℕ) (j : ℕ) (ids ws : List ℕ) (v : Ready ar con at next fs j ids ws) where
  -- the stack's section lies among the eight
  section : length ar + j * length ar + length ar ≤ 9 * length ar
  section = omega (arith, slots j 8 (length ar) v.between.turn)

  room : 13 * length ar ≤ length ws
  room = room_for ar con at next fs j ids ws v.between

  few : length ar ≤ most_spans
  few = few_spans ar con at next fs j ids ws v.between

  stack_is : get_or (stacks_at (length ar) ws fs) j [] ≡ stack_of (length ar) fs j ws
  stack_is = stack_at (length ar) ws fs j (omega (arith, v.fits.eight, v.between.turn)) (omega (arith, section, v.fits.most j))

  pub stack_inside : All (λ e. (e ≡ none → ⊥) → e < length ar) (stack_of (length ar) fs j ws)
  stack_inside = rw (← stack_is) (v.stacked.inside j)

  stack_ends : length ar + j * length ar + get_or fs j 0 ≤ length ws
  stack_ends = omega (arith, section, room, v.fits.most j)

  stack_entries : Entries (length ar) (length ar + j * length ar) (get_or fs j 0) ws
  stack_entries = record {
    filled = v.fits.most j;
    spans = all_at (λ e. (e ≡ none → ⊥) → e < length ar) ws (length ar + j * length ar) (get_or fs j 0) (rw (list_at-sec ws (length ar + j * length ar) (get_or fs j 0) stack_ends) stack_inside);
  }

  ready_given : Given (length ar) (length ar + j * length ar) at.changes at.table (get_or fs j 0) ids ws
  ready_given =
      let b = v.between in
      record {
        sizes = record {
          few = few;
          idents = b.ids_below.size;
          low = omega arith;
          apart = omega (arith, section, b.laid.changes);
          past = omega (arith, b.laid.changes, b.laid.past);
          room = b.lent.room;
          close = b.lent.place;
        };
        entries = stack_entries;
        clear = flags_clear ar con at next fs j ids ws b;
      }

  module _ (level : ℕ) (ids' ws' : List ℕ)
      (e : record { marks = marks_at (length ar) ids' ws'; stack = stack_of (length ar) fs j ws' } ≡ expand (net_at at.table ar ws) level (marks_at (length ar) ids ws) (stack_of (length ar) fs j ws))
      (k : Kept (length ar) (length ar + j * length ar) (get_or fs j 0) ws ws') where
    abbrev N : Net
    N = net_at at.table ar ws

    n_of : spans N ≡ length ar
    n_of = spans-at at.table ar ws

    past_section : (x : ℕ) → 9 * length ar ≤ x → get_or ws' x 0 ≡ get_or ws x 0
    past_section x h = k.same x (omega arith) (inr (omega (arith, section, v.fits.most j)))

    stacks' : stacks_at (length ar) ws' fs ≡ set (stacks_at (length ar) ws fs) j (stack_of (length ar) fs j ws')
    stacks' = stacks_changed (length ar) ws fs ws' (omega (arith, room)) k.size j v.between.turn v.fits.eight v.fits.most
        (λ x h q. k.same x h (⊎_elim (λ (y : x < length ar + j * length ar). inl y) (λ (y : length ar + j * length ar + length ar ≤ x). inr (omega (arith, v.fits.most j))) q))

    rule_stack : stack_of (length ar) fs j ws' ≡ (expand N level (marks_at (length ar) ids ws) (stack_of (length ar) fs j ws)).stack
    rule_stack = ap (λ (p : Spread). p.stack) e

    rule_ids : ids' ≡ (expand N level (marks_at (length ar) ids ws) (stack_of (length ar) fs j ws)).marks.ids
    rule_ids = ap (λ (p : Spread). p.marks.ids) e

    inside_net : All (Inside N) (stack_of (length ar) fs j ws)
    inside_net = All_map (stack_of (length ar) fs j ws) (λ x f q. omega (arith, f q, n_of)) stack_inside

    below' : IdsBelowNext (length ar) next ids'
    below' = rw rule_ids (rw n_of at (expand_ids_below N level next (marks_at (length ar) ids ws) (stack_of (length ar) fs j ws) inside_net (rw n_of v.between.ids_below)))

    inside' : All (λ x. (x ≡ none → ⊥) → x < length ar) (stack_of (length ar) fs j ws')
    inside' =
        rw rule_stack (All_map (expand N level (marks_at (length ar) ids ws) (stack_of (length ar) fs j ws)).stack (λ x f q. omega (arith, f q, n_of))
        (expand_down N level (marks_at (length ar) ids ws) (stack_of (length ar) fs j ws) inside_net).1)

    stacked' : Stacked (length ar) (stacks_at (length ar) ws' fs) j
    stacked' =
        rw stacks' (stacked_used (length ar) j (stack_of (length ar) fs j ws') (stacks_at (length ar) ws fs) v.stacked v.between.turn
        (rw stack_is (rw rule_stack (expand_stack N level _ _))) inside')

    expanded : Expanded ar con at next fs j level ids ws ids' ws'
    expanded = record {
      ready = record {
        between = kept_between ar con at next fs j ids ws v.between ws' k.size past_section next fs j ids' v.between.turn below'
            (record { fits = λ _. v.fits; stacked = λ _. stacked' });
        fits = v.fits;
        stacked = stacked';
      };
      size = k.size;
      past = past_section;
      same = e ∙ ap (expand N level (marks_at (length ar) ids ws)) (sym stack_is);
      stacks = stacks';
    }

  -- the same with the stack's place and fill as the code has them
  module _ (a fill : ℕ) (ea : a ≡ length ar + j * length ar) (ef : fill ≡ get_or fs j 0) where
    pub given_as : Given (length ar) a at.changes at.table fill ids ws
    given_as = rw (ea, ef) ready_given

    pub held_as : EntriesAt (length ar) a fill ws
    held_as = rw (ea, ef) (record { entries = stack_entries; past = omega arith; room = stack_ends; close = omega (arith, section, few) })

    pub expanded_as : (level : ℕ) (ids' ws' : List ℕ)
        → record { marks = marks_at (length ar) ids' ws'; stack = sec a fill ws' } ≡ expand (net_at at.table ar ws) level (marks_at (length ar) ids ws) (sec a fill ws)
        → Kept (length ar) a fill ws ws' → Expanded ar con at next fs j level ids ws ids' ws'
    expanded_as level ids' ws' e k = expanded level ids' ws' (rw (← ea, ← ef) e) (rw (← ea, ← ef) k)

    pub strays_as : (level : ℕ) (o : Bool) → o ≡ expand_strays (net_at at.table ar ws) level (marks_at (length ar) ids ws) (sec a fill ws)
        → o ≡ expand_strays (net_at at.table ar ws) level (marks_at (length ar) ids ws) (get_or (stacks_at (length ar) ws fs) j [])
    strays_as level o e = e ∙ rw (ea, ef, stack_is)

    pub told_as : (level : ℕ) (y y' : Story) → y' ≡ expand_tells (net_at at.table ar ws) level (marks_at (length ar) ids ws) (sec a fill ws) y
        → y' ≡ expand_tells (net_at at.table ar ws) level (marks_at (length ar) ids ws) (get_or (stacks_at (length ar) ws fs) j []) y
    told_as level y y' e = e ∙ rw (ea, ef, stack_is)
