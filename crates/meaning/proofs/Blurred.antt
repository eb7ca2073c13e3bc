-- "No blurred value exceeds max_distance": a rounded mean of nine values is at most the greatest of them. As no raw value is above 510, neither is
-- max_distance, and what the distance entry gives is never refused 8; nor does the sum of a blur come near 65,535.
use Prim.Native.Nat.{ℕ, zero, suc, ◌+◌, ◌*◌, ◌≤◌, ◌<◌}
use native.Mathlib.Omega.{arith}
use native.Mathlib.Decide.{dec_lt}
use mathlib.Core.Path.{◌≡◌, refl}
use mathlib.Core.Bool.{false}
use mathlib.Core.List.{List, [], ◌∷◌}
use lib.ListN.{length, get_or, get_or-eq_default}
use lib.Dec.{ltb}
use borrow.Author.Tests.{le-ltb}
use Rattle.rules.specs.Base.{◌or◌, any}
use Rattle.rules.specs.Field.{Field, spans, near, corner, Bytes}
use Rattle.rules.specs.Refusals.{refusal, too_far}
use Rattle.rules.specs.Distance.{raw, greatest, term, blur_at, blur}
use Rattle.laws.proofs.Basics.{if-ind, tab-each, get_d_any}
use Rattle.laws.proofs.Lengths.{raw-length}
use Rattle.laws.proofs.Cells.{passed}
use Rattle.meaning.specs.Sums.{blur_sum}
use Rattle.meaning.proofs.Sums.{raw_low}

-- ---------------------------------------------------------------- the greatest element

element_below : (l : List ℕ) (i : ℕ) → get_or l i 0 ≤ greatest l
unfolding greatest
element_below [] i = omega arith
element_below (x ∷ l) zero = omega arith
element_below (x ∷ l) (suc i) = omega (arith, element_below l i)

-- what is read is at most the greatest element, or it is the default
read_below : (l : List ℕ) (i c : ℕ) → c ≤ greatest l → get_or l i c ≤ greatest l
read_below l i c h =
    elim (dec_lt i (length l)) [ yes g ↦ rw (get_d_any l i c 0 g) (element_below l i) | no g ↦ let e : get_or l i c ≡ c = get_or-eq_default l c (omega arith) in omega arith ]

greatest_below : (l : List ℕ) (m : ℕ) → ((i : ℕ) → i < length l → get_or l i 0 ≤ m) → greatest l ≤ m
unfolding greatest
greatest_below [] m h = omega arith
greatest_below (x ∷ l) m h = omega (arith, h 0 (omega arith), greatest_below l m (λ i g. h (suc i) (omega arith)))

pub none_above : (l : List ℕ) (m : ℕ) → ((i : ℕ) → get_or l i 0 ≤ m) → any (ltb m) l ≡ false
unfolding any ◌or◌
none_above [] m h = refl
none_above (x ∷ l) m h = rw (le-ltb m x (h 0)) (none_above l m (λ i. h (suc i)))

-- ---------------------------------------------------------------- the blur

module _ (F : Field) (l : List ℕ) where
  term_below : (s c d : ℕ) → c ≤ greatest l → term F l s c d ≤ 2 * greatest l
  unfolding term
  term_below s c d h = omega (arith, read_below l (near F s d) c h, read_below l (corner F s d) c h)

  sum_below : (s : ℕ) → blur_sum F l s ≤ 9 * greatest l + 5
  sum_below s =
      let c = get_or l s 0 in
      let h : c ≤ greatest l = element_below l s in
      omega (arith, term_below s c 0 h, term_below s c 1 h, term_below s c 2 h, term_below s c 3 h)

  blur_at_below : (s : ℕ) → blur_at F l s ≤ greatest l
  unfolding blur_at
  blur_at_below s = if-ind (λ r. r ≤ greatest l) _ (λ _. element_below l s) (λ _. omega (arith, sum_below s))

  blur_below : (s : ℕ) → get_or (blur F l) s 0 ≤ greatest l
  unfolding blur
  blur_below s = tab-each (λ r. r ≤ greatest l) (spans F) 0 (blur_at F l) 0 s (omega arith) blur_at_below

-- "No blurred value exceeds max_distance."
pub blurred_at_most_max_distance : (F : Field) (s : ℕ) → get_or (blur F (raw F)) s 0 ≤ greatest (raw F)
blurred_at_most_max_distance F s = blur_below F (raw F) s

module _ (F : Field) (lens : List ℕ) (ok : refusal F lens ≡ 0) (bytes : Bytes F) where
  pub max_distance_at_most_510 : greatest (raw F) ≤ 510
  max_distance_at_most_510 =
      greatest_below (raw F) 510 (λ i g. rw (get_d_any (raw F) i 0 65535 g) (raw_low F lens (passed F lens ok) bytes i (omega (arith, raw-length F))))

  -- the sum of a blur: no more than nine times 510, and 5
  pub no_blur-sum-exceeds_4595 : (s : ℕ) → blur_sum F (raw F) s ≤ 4595
  no_blur-sum-exceeds_4595 s = omega (arith, sum_below F (raw F) s, max_distance_at_most_510)

  -- 8: "max_distance above 510, or a distance above max_distance"
  pub distances_not_too_far : too_far (blur F (raw F)) (greatest (raw F)) ≡ false
  unfolding too_far ◌or◌
  distances_not_too_far = rw (le-ltb 510 (greatest (raw F)) max_distance_at_most_510) (none_above (blur F (raw F)) (greatest (raw F)) (blurred_at_most_max_distance F))
