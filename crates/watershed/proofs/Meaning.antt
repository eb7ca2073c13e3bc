-- What the distance means, in the caller's words: a call of the distance entry that returns 0 leaves raw values that are costs of chains, and blurred
-- values of at most max_distance. They are the theorems of the rules read through the entry's promise, so that no reader has to join the two.
use Prim.Native.Nat.{ℕ, ◌*◌, ◌≤◌, ◌<◌}
use native.Mathlib.Omega.{arith}
use mathlib.Core.Path.{◌≡◌, refl, sym, ◌∙◌}
use mathlib.Core.Bool.{false}
use mathlib.Core.List.{List, [], ◌∷◌}
use lib.ListN.{length, get_or}
use lib.Dec.{eqb}
use borrow.Author.Tests.{eqb-true, eqb-false}
use Rattle.rules.specs.Field.{Field, spans, Bytes}
use Rattle.rules.specs.Open.{open_field}
use Rattle.rules.specs.Refusals.{refusal, too_far}
use Rattle.rules.specs.Distance.{raw, greatest, blur}
use Rattle.rules.specs.Outcomes.{DistanceOutcome, distance_outcome}
use Rattle.laws.proofs.Basics.{if-ind}
use Rattle.laws.proofs.Cells.{passed}
use Rattle.meaning.specs.Moves.{Single, Chain, Cheapest}
use Rattle.meaning.specs.Open.{span_at, least}
use Rattle.meaning.proofs.Blurred.{blurred_at_most_max_distance, distances_not_too_far}
use Rattle.meaning.proofs.Places.{few}
use Rattle.meaning.proofs.Chains.{raw_is_a_chain's_cost, raw-not_below_cheapest}
use Rattle.meaning.proofs.OneSpan.{one-span-raw_is_cheapest}
use Rattle.meaning.proofs.OpenField.{open_spans_lem}
use Rattle.meaning.proofs.Open.{open_raw_is_twice_the_least}
use Rattle.std.specs.Prelude.{Result}
use Rattle.checker.specs.declared.Refusal.{Refusal}
use Rattle.watershed.specs.Answer.{refused_by, most_in, Answers}

-- an outcome that is not a refusal: the field passes, and the lists and the number are the rules'
record Given (F : Field) (lens : List ℕ) (o : DistanceOutcome) : Type 0 where
  passes : refusal F lens ≡ 0
  most : o.most ≡ greatest (raw F)
  blurred : o.blurred ≡ blur F (raw F)
  raw : o.raw ≡ raw F

given : (F : Field) (raw₀ blurred₀ : List ℕ) → (distance_outcome F raw₀ blurred₀).refused ≡ 0 → Given F (length raw₀ ∷ length blurred₀ ∷ []) (distance_outcome F raw₀ blurred₀)
unfolding distance_outcome
given F raw₀ blurred₀ =
    if-ind (λ (o : DistanceOutcome). o.refused ≡ 0 → Given F (length raw₀ ∷ length blurred₀ ∷ []) o)
    (eqb (refusal F (length raw₀ ∷ length blurred₀ ∷ [])) 0)
    (λ e _. record { passes = eqb-true _ _ e; most = refl; blurred = refl; raw = refl })
    (λ e h. absurd (eqb-false _ _ e h))

-- raw₀ and blurred₀ are the two lists before the call; r, l and m what it returns and leaves
module _ (F : Field) (raw₀ blurred₀ : List ℕ) (r : Result ℕ Refusal) (l m : List ℕ) (a : Answers (distance_outcome F raw₀ blurred₀) r l m) (e : refused_by r ≡ 0) where
  gave : Given F (length raw₀ ∷ length blurred₀ ∷ []) (distance_outcome F raw₀ blurred₀)
  gave = given F raw₀ blurred₀ (sym a.refused ∙ e)

  raw_is : l ≡ raw F
  raw_is = a.raw ∙ gave.raw

  -- "No blurred value exceeds max_distance."
  pub call_blurred_at_most_max_distance : (s : ℕ) → get_or m s 0 ≤ most_in r
  call_blurred_at_most_max_distance s = rw (a.blurred ∙ gave.blurred, a.most ∙ gave.most) (blurred_at_most_max_distance F s)

  -- so the region entry never refuses 8 what this entry gives
  pub call_not_too_far : Bytes F → too_far m (most_in r) ≡ false
  call_not_too_far bytes = rw (a.blurred ∙ gave.blurred, a.most ∙ gave.most) (distances_not_too_far F _ gave.passes bytes)

  module _ (bytes : Bytes F) (s : ℕ) (h : s < spans F) where
    -- "every raw value is the cost of some chain of moves .. ending at a span that started with 0"
    pub call_raw_is_a_chain's_cost : Chain F s (get_or l s 0)
    call_raw_is_a_chain's_cost = rw raw_is (raw_is_a_chain's_cost F _ gave.passes bytes s h)

    -- "so no raw value is below the cheapest such chain"
    pub call_raw-not_below_cheapest : (k : ℕ) → Cheapest F s k → k ≤ get_or l s 0
    call_raw-not_below_cheapest = rw raw_is (raw-not_below_cheapest F _ gave.passes bytes s h)

    -- with one span a cell it is the cheapest chain's
    pub call_one-span-raw_is_cheapest : Single F → Cheapest F s (get_or l s 0)
    call_one-span-raw_is_cheapest single = rw raw_is (one-span-raw_is_cheapest F _ gave.passes bytes single s h)

-- "On an open field the raw value at (x,z) is exactly twice the least of x, z, w−1−x and h−1−z."
pub call_open_raw_is_twice_the_least : (w h : ℕ) (raw₀ blurred₀ : List ℕ) (r : Result ℕ Refusal) (l m : List ℕ) → Answers (distance_outcome (open_field w h) raw₀ blurred₀) r l m → refused_by r ≡ 0
    → (x z : ℕ) → x < w → z < h → get_or l (span_at w x z) 0 ≡ 2 * least w h x z
call_open_raw_is_twice_the_least w h raw₀ blurred₀ r l m a e x z p q =
    let g = given (open_field w h) raw₀ blurred₀ (sym a.refused ∙ e) in
    rw (a.raw ∙ g.raw) (open_raw_is_twice_the_least w h x z (omega (arith, few (open_field w h) _ (passed _ _ g.passes), open_spans_lem w h)) p q)
