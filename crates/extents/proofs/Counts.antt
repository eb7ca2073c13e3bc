-- "The counts over all ids, plus spans of id 0, plus flagged spans, come to n.": a span that is not refused 10 has id 0, a flag, or one of the ids from 1 to
-- max_region, and no two of these. Assumes nothing.
use Prim.Native.Nat.{ℕ, zero, suc, ◌+◌, ◌-◌, ◌≤◌, ◌<◌}
use native.Mathlib.Omega.{arith}
use native.Mathlib.Decide.{ℕ_discrete, dec_lt}
use mathlib.Core.Path.{◌≡◌, refl, sym}
use mathlib.Core.Bool.{Bool, true, false}
use mathlib.Core.List.{List, [], ◌∷◌}
use lib.ListN.{length, get_or}
use lib.Dec.{eqb, ltb}
use borrow.Author.Tests.{eqb-true, eq-eqb, ne_eqb, le-leb, lt-leb, leb-false, ltb-false, not-true, not-false}
use Rattle.rules.specs.Base.{◌and◌, when◌then◌else◌, upto, any}
use Rattle.rules.specs.Field.{Field, spans}
use Rattle.rules.specs.Growth.{flagged}
use Rattle.rules.specs.Sizes.{Extent, shown, extent_of, too_great, wrong_ids}
use Rattle.laws.specs.Sums.{sum_to}
use Rattle.laws.proofs.Sums.{sum_same}
use Rattle.laws.proofs.Basics.{both, neither, if-ind, if_ind₂}
use Rattle.extents.proofs.Meaning.{spans_with, extent_count}

-- one summand is one more
sum_bump : (f g : ℕ → ℕ) (m j : ℕ) → j < m → ((i : ℕ) → i < m → (i ≡ j → ⊥) → f i ≡ g i) → f j ≡ suc (g j) → sum_to f m ≡ suc (sum_to g m)
unfolding sum_to
sum_bump f g zero j h e b = absurd (omega arith)
sum_bump f g (suc m) j h e b = elim (ℕ_discrete j m) [
  | yes q ↦
      let s : sum_to f m ≡ sum_to g m = sum_same f g m (λ i l. e i (omega arith) (λ z. omega arith)) in
      let b' : f m ≡ suc (g m) = rw q at b in
      omega arith
  | no q ↦
      let s = sum_bump f g m j (omega arith) (λ i l n. e i (omega arith) n) b in
      let k : f m ≡ g m = e m (omega arith) (λ z. q (sym z)) in
      omega arith
]

module _ (p : ℕ → Bool) (ids : List ℕ) (s : ℕ) where
  with_yes : p (get_or ids s 0) ≡ true → spans_with p ids (suc s) ≡ suc (spans_with p ids s)
  unfolding spans_with upto when◌then◌else◌
  with_yes e = rw e

  with_no : p (get_or ids s 0) ≡ false → spans_with p ids (suc s) ≡ spans_with p ids s
  unfolding spans_with upto when◌then◌else◌
  with_no e = rw e

-- no id is too great
pub none_of : (p : ℕ → Bool) (l : List ℕ) → any p l ≡ false → (i : ℕ) → i < length l → p (get_or l i 0) ≡ false
unfolding any
none_of p [] e i h = absurd (omega arith)
none_of p (x ∷ l) e zero h = (neither _ _ e).0
none_of p (x ∷ l) e (suc i) h = none_of p l (neither _ _ e).1 i (omega arith)

-- an unflagged id is at most max_region
pub within : (most r : ℕ) → too_great most r ≡ false → r < 0x8000 → r ≤ most
unfolding too_great ◌and◌
within most r e h = let f : ltb most r ≡ false = rw (lt-leb 0x8000 r h) at e in ltb-false most r f

-- how many of the first s spans id i + 1 shows
unfoldable counts : List ℕ → ℕ → ℕ → ℕ → ℕ
counts ids most s i = when shown most (suc i) then spans_with (λ r. eqb r (suc i)) ids s else 0

module _ (ids : List ℕ) (most s : ℕ) where
  -- a span that has another id
  count_same : (i : ℕ) → (shown most (suc i) ≡ true → get_or ids s 0 ≡ suc i → ⊥) → counts ids most (suc s) i ≡ counts ids most s i
  unfolding counts
  count_same i n =
      if_ind₂ (λ (x y : ℕ). x ≡ y) (shown most (suc i)) (λ t. with_no (λ r. eqb r (suc i)) ids s (ne_eqb _ _ (n t))) (λ _. refl)

  -- or this one
  count_more : (i : ℕ) → shown most (suc i) ≡ true → get_or ids s 0 ≡ suc i → counts ids most (suc s) i ≡ suc (counts ids most s i)
  unfolding counts when◌then◌else◌
  count_more i t e = rw t (with_yes (λ r. eqb r (suc i)) ids s (eq-eqb _ _ e))

pub shown_low : (most id : ℕ) → shown most id ≡ true → id < 0x8000
unfolding shown
shown_low most id e = leb-false 0x8000 id (not-true _ (both _ _ e).1)

pub is_shown : (most id : ℕ) → 0 < id → id ≤ most → id < 0x8000 → shown most id ≡ true
unfolding shown ◌and◌
is_shown most id p h g = rw (le-leb 1 id p, le-leb id most h, lt-leb 0x8000 id g)

-- of none
sum_zero : (f : ℕ → ℕ) (m : ℕ) → ((i : ℕ) → f i ≡ 0) → sum_to f m ≡ 0
unfolding sum_to
sum_zero f zero h = refl
sum_zero f (suc m) h = omega (arith, h m, sum_zero f m h)

with_none : (p : ℕ → Bool) (ids : List ℕ) → spans_with p ids 0 ≡ 0
unfolding spans_with upto
with_none p ids = refl

count_none : (ids : List ℕ) (most i : ℕ) → counts ids most 0 i ≡ 0
unfolding counts
count_none ids most i = if-ind (λ (n : ℕ). n ≡ 0) (shown most (suc i)) (λ _. with_none (λ r. eqb r (suc i)) ids) (λ _. refl)

-- of the first s spans
sums : (ids : List ℕ) (most s : ℕ) → ((i : ℕ) → i < s → too_great most (get_or ids i 0) ≡ false)
    → sum_to (counts ids most s) most + spans_with (λ r. eqb r 0) ids s + spans_with flagged ids s ≡ s
sums ids most zero h = let a = sum_zero (counts ids most 0) most (count_none ids most) in let b = with_none (λ r. eqb r 0) ids in let c = with_none flagged ids in omega arith
sums ids most (suc s) h =
    let ih = sums ids most s (λ i l. h i (omega arith)) in
    let r = get_or ids s 0 in
    elim (dec_lt r 0x8000) [
      | no l ↦
          let big : 0x8000 ≤ r = omega (arith, l) in
          let a : sum_to (counts ids most (suc s)) most ≡ sum_to (counts ids most s) most =
          sum_same _ _ most (λ i _. count_same ids most s i (λ t e. let q = shown_low most (suc i) t in omega arith)) in
          let b = with_no (λ r. eqb r 0) ids s (ne_eqb r 0 (λ e. omega arith)) in
          let c = with_yes flagged ids s (le-leb 0x8000 r (omega arith)) in
          omega arith
      | yes l ↦ elim (ℕ_discrete r 0) [
        | yes z ↦
            let a : sum_to (counts ids most (suc s)) most ≡ sum_to (counts ids most s) most = sum_same _ _ most (λ i _. count_same ids most s i (λ t e. omega arith)) in
            let b = with_yes (λ r. eqb r 0) ids s (eq-eqb _ _ z) in
            let c = with_no flagged ids s (lt-leb 0x8000 r l) in
            omega arith
        | no z ↦
            let some : 0 < r = omega (arith, z) in
            let m = within most r (h s (omega arith)) l in
            let e : r ≡ suc (r - 1) = omega arith in
            let a : sum_to (counts ids most (suc s)) most ≡ suc (sum_to (counts ids most s) most) =
            sum_bump (counts ids most (suc s)) (counts ids most s) most (r - 1) (omega arith)
            (λ i _ n. count_same ids most s i (λ t q. n (omega arith)))
            (count_more ids most s (r - 1) (is_shown most (suc (r - 1)) (omega arith) (omega arith) (omega arith)) e) in
            let b = with_no (λ r. eqb r 0) ids s (ne_eqb _ _ z) in
            let c = with_no flagged ids s (lt-leb 0x8000 r l) in
            omega arith
      ]
    ]

count_is : (F : Field) (ids : List ℕ) (most i : ℕ) → (extent_of F ids most (suc i)).count ≡ counts ids most (spans F) i
unfolding extent_of counts
count_is F ids most i = if_ind₂ (λ (e : Extent) (n : ℕ). e.count ≡ n) (shown most (suc i)) (λ _. extent_count F ids (suc i)) (λ _. refl)

-- the counts over all ids from 1 to max_region, spans of id 0 and flagged spans come to n
pub counts_come_to_n : (F : Field) (ids : List ℕ) (most : ℕ) → wrong_ids (spans F) ids most ≡ false
    → sum_to (λ i. (extent_of F ids most (suc i)).count) most + spans_with (λ r. eqb r 0) ids (spans F) + spans_with flagged ids (spans F) ≡ spans F
unfolding wrong_ids
counts_come_to_n F ids most e =
    let n = neither _ _ e in
    let l : length ids ≡ spans F = eqb-true _ _ (not-false _ n.0) in
    let a = sum_same (λ i. (extent_of F ids most (suc i)).count) (counts ids most (spans F)) most (λ i _. count_is F ids most i) in
    let b = sums ids most (spans F) (λ i h. none_of (too_great most) ids n.1 i (omega arith)) in
    rw a b
