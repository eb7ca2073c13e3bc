-- The floods from the turn's stack: what they ask is there (`Ready`), and afterwards all is there for the next turn, with the stacks as they were. Assumes nothing.
use Prim.Native.Nat.{ℕ, ◌+◌, ◌*◌, ◌≤◌}
use native.Mathlib.Omega.{arith}
use mathlib.Core.Path.{◌≡◌}
use mathlib.Core.List.{List}
use lib.ListN.{length, get_or}
use Rattle.space.specs.Space.{sec}
use Rattle.net.specs.declared.Sections.{Sections}
use Rattle.net.specs.Table.{net_at}
use Rattle.flood.specs.Stack.{Placed}
use Rattle.levels.specs.Levels.{Stacked}
use Rattle.growth.specs.Floods.{FloodedFrom}
use Rattle.growth.specs.Turns.{stacks_at, stack_of, Between, Ready, Flooded}
use Rattle.growth.proofs.FloodLaws.{past_same}
use Rattle.growth.proofs.StackLaws.{stacks_past}
use Rattle.growth.proofs.KeptLaws.{room_for, kept_between}

pub between_placed : (ar con dist : List ℕ) (at : Sections) (next : ℕ) (fs : List ℕ) (j : ℕ) (ids ws : List ℕ) → Between ar con at next fs j ids ws → length dist ≡ length ar
    → Placed (length ar) at dist ids
between_placed ar con dist at next fs j ids ws v d = record {
  dists = d;
  idents = v.ids_below.size;
  low = omega (arith, v.laid.stack);
  apart = omega (arith, v.laid.stack, v.laid.past);
}

module _ (ar con dist : List ℕ) (at : Sections) (next : ℕ) (fs : List ℕ) (j : ℕ) (ids ws : List ℕ) (v : Ready ar con at next fs j ids ws)
    (a fill : ℕ) (ea : a ≡ length ar + j * length ar) (ef : fill ≡ get_or fs j 0) (level r : ℕ) (ids' ws' : List ℕ)
    (e₀ : FloodedFrom (net_at at.table ar ws) dist level (sec a fill ws) (length ar) next ids ws r ids' ws') (size : length ws' ≡ length ws) where
  e : FloodedFrom (net_at at.table ar ws) dist level (stack_of (length ar) fs j ws) (length ar) next ids ws r ids' ws'
  e = rw (← ea, ← ef) e₀

  past : (x : ℕ) → length ar ≤ x → get_or ws' x 0 ≡ get_or ws x 0
  past x h = past_same (length ar) x ws ws' h e.past

  stacks : stacks_at (length ar) ws' fs ≡ stacks_at (length ar) ws fs
  stacks = stacks_past (length ar) ws fs ws' (omega (arith, room_for ar con at next fs j ids ws v.between)) size past

  stacked' : Stacked (length ar) (stacks_at (length ar) ws' fs) j
  stacked' = rw stacks v.stacked

  pub flooded : Flooded ar con dist at next fs j level ids ws r ids' ws'
  flooded = record {
    size = size;
    past = past;
    out = e.out;
    ready = λ o. record {
      between = kept_between ar con at next fs j ids ws v.between ws' size (λ x h. past x (omega arith)) r fs j ids' v.between.turn (e.below o)
          (record { fits = λ _. v.fits; stacked = λ _. stacked' });
      fits = v.fits;
      stacked = stacked';
    };
    same = e.same;
    stacks = stacks;
  }
