-- Laws of neighbour lists. Assumes nothing.
use Prim.Native.Nat.{ℕ, zero, suc, ◌+◌, ◌-◌, ◌≤◌, ◌<◌}
use native.Mathlib.Omega.{arith}
use native.Mathlib.Numerals.{add-one}
use native.Mathlib.Decide.{ℕ_discrete}
use mathlib.Core.Path.{◌≡◌, refl, sym, ap, ◌∙◌}
use mathlib.Core.Bool.{Bool, true, false}
use mathlib.Core.List.{List, [], ◌∷◌, ◌++◌, map, append_assoc, append-nil}
use lib.ListN.{drop_of_length-le, length, get_or, set, take, drop}
use lib.Seq.{get_or-take, take-take, drop-cons, take-suc-set, drop-set-lt, length-take-le}
use lib.Dec.{eqb}
use borrow.Author.Tests.{le-ltb, eq-eqb, ne_eqb}
use Rattle.rules.specs.Base.{◌and◌, when◌then◌else◌, many}
use Rattle.rules.specs.Contour.{trim}
use Rattle.rules.specs.Merge.{tidy}
use Rattle.laws.specs.Squeeze.{squeeze}
use Rattle.laws.proofs.Tidy.{tidy_is, trim_same, trim-other}
use Rattle.pool.specs.Lists.{map_to, again, swap_one}
use Rattle.std.specs.List.{count_by}
use Rattle.std.proofs.lemmas.List.{get_or_default}
use Rattle.std.proofs.lemmas.List.Recursion.{is_count_by}
use Rattle.std.proofs.lemmas.List.Edits.{map_over_more}

-- ---- adjacent duplicates

pub trim_short : (l : List ℕ) → length l ≤ 1 → trim l ≡ l
unfolding trim when◌then◌else◌ ◌and◌
trim_short l h = rw (le-ltb 1 (length l) h)

-- ---- the code's turns

module _ (l : List ℕ) (i : ℕ) where
  pub again_past : length l ≤ i + 1 → false ≡ again l i
  unfolding again
  again_past h = rw (← add-one i, drop_of_length-le l h)

  pub again-at : (b : Bool) → i + 1 < length l → b ≡ eqb (get_or l i 0) (get_or l (i + 1) 0) → b ≡ again l i
  unfolding again
  again-at b h e = rw (← add-one i, drop-cons l (i + 1) 0 h) e

  module _ (h : i < length l) (w : ℕ) (r : Bool) (e : r ≡ again l i) where
    pub keep-stays : r ≡ true → take w l ++ squeeze (drop (i + 1) l) ≡ take w l ++ squeeze (drop i l)
    unfolding squeeze again when◌then◌else◌
    keep-stays t = rw (drop-cons l i 0 h, add-one i, ← e, t)

    pub keep_moves : r ≡ false → w ≤ i → take (w + 1) (set l w (get_or l i 0)) ++ squeeze (drop (i + 1) (set l w (get_or l i 0))) ≡ take w l ++ squeeze (drop i l)
    unfolding squeeze again when◌then◌else◌
    keep_moves t g =
        let hw : w < length l = omega arith in
        let hi : w < suc i = omega arith in
        rw (add-one w, add-one i, take-suc-set l w (get_or l i 0) hw, drop-set-lt (suc i) l w (get_or l i 0) hi, drop-cons l i 0 h, ← e, t) (append_assoc (take w l) _ _)

pub squeeze_done : (l l₀ : List ℕ) (w i : ℕ) → take w l ++ squeeze (drop i l) ≡ squeeze l₀ → length l ≤ i → take w l ≡ squeeze l₀
unfolding squeeze
squeeze_done l l₀ w i e h = rw (drop_of_length-le l h, append-nil) at e

pub trim_low : (l : List ℕ) (k : ℕ) → k ≤ length l → k ≤ 1 → take k l ≡ trim (take k l)
trim_low l k h g = sym (trim_short (take k l) (rw (length-take-le k l h) g))

module _ (l : List ℕ) (k : ℕ) (h : k ≤ length l) (g : 1 < k) where
  pub trim_drops : get_or l 0 0 ≡ get_or l (k - 1) 0 → take (k - 1) l ≡ trim (take k l)
  trim_drops e =
      let n = length-take-le k l h in
      sym (trim_same (take k l) (k - 1) (rw n g) (rw n refl) (rw (get_or-take k l 0 0 (omega arith), get_or-take k l (k - 1) 0 (omega arith)) e)
      ∙ take-take (k - 1) k l (omega arith))

  pub trim_keeps : (get_or l 0 0 ≡ get_or l (k - 1) 0 → ⊥) → take k l ≡ trim (take k l)
  trim_keeps e =
      let n = length-take-le k l h in
      sym (trim-other (take k l) (k - 1) (rw n g) (rw n refl) (rw (get_or-take k l 0 0 (omega arith), get_or-take k l (k - 1) 0 (omega arith)) e))

pub tidy-joins : (l l' : List ℕ) (k r : ℕ) → take k l' ≡ squeeze l → take r l' ≡ trim (take k l') → take r l' ≡ tidy l
tidy-joins l l' k r e f = f ∙ ap trim e ∙ sym (tidy_is l)

-- ---- a list under f, entry by entry

pub swapped_more : (f : ℕ → ℕ) (xs ys : List ℕ) (i v : ℕ) → i < length xs → length ys ≡ length xs → ys ≡ map f (take i xs) ++ drop i xs → v ≡ f (get_or ys i 0)
    → set ys i v ≡ map f (take (i + 1) xs) ++ drop (i + 1) xs
swapped_more f xs ys i v h n e g = ap (λ (z : ℕ). set ys i z) g ∙ map_over_more f xs ys i (get_or ys i 0) h e (get_or_default ys i 0 (get_or ys i 0) (omega arith))

pub swap-hit : (old new r v : ℕ) → r ≡ old → v ≡ new → v ≡ swap_one old new r
unfolding swap_one when◌then◌else◌
swap-hit old new r v h e = rw (eq-eqb r old h) e

pub swap-miss : (old new r v : ℕ) → (r ≡ old → ⊥) → v ≡ r → v ≡ swap_one old new r
unfolding swap_one when◌then◌else◌
swap-miss old new r v h e = rw (ne_eqb r old h) e

-- the first i entries under f, for loops by index: numbering and watershed have them

pub map_to-at : (f : ℕ → ℕ) (i j : ℕ) (l : List ℕ) → i ≤ j → get_or (map_to f i l) j 0 ≡ get_or l j 0
unfolding map_to
map_to-at f zero j l h = refl
map_to-at f (suc i) j [] h = refl
map_to-at f (suc i) zero (x ∷ l) h = absurd (omega arith)
map_to-at f (suc i) (suc j) (x ∷ l) h = map_to-at f i j l (omega arith)

map_to-set : (f : ℕ → ℕ) (i v : ℕ) (l : List ℕ) → v ≡ f (get_or l i 0) → set (map_to f i l) i v ≡ map_to f (suc i) l
unfolding map_to
map_to-set f i v [] e = go i
  where
    go : (i : ℕ) → set (map_to f i []) i v ≡ map_to f (suc i) []
    go zero = refl
    go (suc i) = refl
map_to-set f zero v (x ∷ l) e = ap (λ (y : ℕ). y ∷ l) e
map_to-set f (suc i) v (x ∷ l) e = ap (λ (y : List ℕ). f x ∷ y) (map_to-set f i v l e)

pub map_to-start : (f : ℕ → ℕ) (l : List ℕ) → l ≡ map_to f 0 l
unfolding map_to
map_to-start f l = refl

pub map_to_go : (f : ℕ → ℕ) (l₀ l : List ℕ) (i v : ℕ) → l ≡ map_to f i l₀ → v ≡ f (get_or l i 0) → set l i v ≡ map_to f (i + 1) l₀
map_to_go f l₀ l i v e g =
    let q : get_or l i 0 ≡ get_or l₀ i 0 = ap (λ (y : List ℕ). get_or y i 0) e ∙ map_to-at f i i l₀ (omega arith) in
    ap (λ (y : List ℕ). set y i v) e ∙ map_to-set f i v l₀ (g ∙ ap f q) ∙ ap (λ (j : ℕ). map_to f j l₀) (sym (add-one i))

map_to_all : (f : ℕ → ℕ) (i : ℕ) (l : List ℕ) → length l ≤ i → map_to f i l ≡ map f l
unfolding map_to
map_to_all f zero [] h = refl
map_to_all f zero (x ∷ l) h = absurd (omega arith)
map_to_all f (suc i) [] h = refl
map_to_all f (suc i) (x ∷ l) h = ap (λ (y : List ℕ). f x ∷ y) (map_to_all f i l (omega arith))

pub map_to-end : (f : ℕ → ℕ) (l₀ l : List ℕ) (i : ℕ) → l ≡ map_to f i l₀ → length l ≡ length l₀ → length l ≤ i → l ≡ map f l₀
map_to-end f l₀ l i e n h = e ∙ map_to_all f i l₀ (omega arith)

-- ---- how often

pub many-count : (r : ℕ) (l : List ℕ) → many (eqb r) l ≡ count_by (λ x. eqb x r) l
unfolding many when◌then◌else◌
many-count r = is_count_by (many (eqb r)) (λ x. eqb x r) refl (λ x xs. elim (ℕ_discrete r x) [
  | yes d ↦ rw (eq-eqb r x d, eq-eqb x r (sym d)) (omega arith)
  | no d ↦ rw (ne_eqb r x d, ne_eqb x r (λ p. d (sym p))) refl
])
