-- Demand 3 of the outcome of the region entry itself: where it refuses nothing, the ids and max_region that it gives are rooms.
-- It holds because the outcome is then that of the rules, and a field that 1 to 8 let pass is one that 1 to 6 let pass. Assumes nothing.
use Prim.Native.Nat.{ℕ, ◌<◌}
use native.Mathlib.Omega.{arith}
use native.Mathlib.Decide.{ℕ_discrete}
use mathlib.Core.Path.{◌≡◌}
use mathlib.Core.List.{List, [], ◌∷◌}
use lib.ListN.{length}
use lib.Dec.{eqb}
use mathlib.Core.Bool.{not}
use borrow.Author.Tests.{eqb-true, eqb-false, not-true, not-false}
use Rattle.rules.specs.Field.{Field, Bytes}
use Rattle.rules.specs.Refusals.{region_refusal}
use Rattle.rules.specs.Growth.{first_id, stops}
use Rattle.rules.specs.Numbering.{Form}
use Rattle.rules.specs.Outcomes.{Sizes, RegionOutcome, region_outcome}
use Rattle.laws.proofs.Basics.{if-ind}
use Rattle.rooms.specs.Rooms.{Rooms}
use Rattle.rooms.specs.Dense.{first_in, past_in}
use Rattle.rooms.proofs.Rooms.{entry_rooms, first_is}
use Rattle.rooms.proofs.Dense.{formed_rooms}

pub first_some : (b : ℕ) → 0 < first_id b
first_some b = elim (ℕ_discrete b 0) [ yes z ↦ omega (arith, (first_is b).0 z) | no z ↦ omega (arith, (first_is b).1 (omega arith)) ]

-- in either form of the numbers
pub not_refused_gives_rooms : (form : Form) (F : Field) (dist : List ℕ) (most : ℕ) (z : Sizes) (work ids : List ℕ) → Bytes F
    → (region_outcome form F dist most z work ids).refused ≡ 0
    → Rooms F (first_in form z.border) (region_outcome form F dist most z work ids).ids (past_in form (region_outcome form F dist most z work ids).most)
unfolding region_outcome
not_refused_gives_rooms form F dist most z work ids bytes =
    let r = region_refusal F (length dist ∷ length ids ∷ []) (length work) dist most in
    let stop = stops F dist most z.border in
    if-ind (λ (o : RegionOutcome). o.refused ≡ 0 → Rooms F (first_in form z.border) o.ids (past_in form o.most)) (not (eqb r 0))
    (λ e h. absurd (eqb-false _ _ (not-true _ e) h))
    (λ e. if-ind (λ (o : RegionOutcome). o.refused ≡ 0 → Rooms F (first_in form z.border) o.ids (past_in form o.most)) (not (eqb stop 0))
    (λ u h. absurd (eqb-false _ _ (not-true _ u) h))
    (λ u _. formed_rooms form F z.border _
    (entry_rooms F (length dist ∷ length ids ∷ []) (length work) dist most (eqb-true _ _ (not-false _ e)) bytes z.border z.least z.merge (eqb-true _ _ (not-false _ u)))
    (first_some z.border)))
