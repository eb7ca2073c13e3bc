-- The removal of adjacent duplicates is one pass over the runs and then the test of the last entry against the first; its fuel is never seen.
-- Each turn either drops the entry in hand or goes on to the next, so a turn for each entry is enough.
use Prim.Native.Nat.{ℕ, zero, suc, ◌+◌, ◌-◌, ◌≤◌, ◌<◌, ◌%◌}
use native.Mathlib.Omega.{arith}
use native.Mathlib.Nat.{mod-eq_of_lt, mod_self}
use native.Mathlib.Decide.{ℕ_discrete}
use mathlib.Core.Path.{◌≡◌, refl, sym, ap, ◌∙◌}
use mathlib.Core.List.{List, [], ◌∷◌, ◌++◌, append_assoc, append-nil}
use lib.ListN.{length, get_or, take, drop, length-append}
use lib.Seq.{take_at, get_or_at, get_or-append-add}
use borrow.Author.Tests.{eq-eqb, ne_eqb, lt-ltb, le-ltb}
use Rattle.rules.specs.Base.{◌and◌, when◌then◌else◌}
use Rattle.rules.specs.Contour.{trim}
use Rattle.rules.specs.Merge.{dedup, tidy}
use Rattle.laws.specs.Squeeze.{squeeze}

-- ---------------------------------------------------------------- a turn

dedup_done : (k i : ℕ) (l : List ℕ) → length l ≤ i → dedup k i l ≡ l
unfolding dedup when◌then◌else◌ ◌and◌
dedup_done zero i l h = refl
dedup_done (suc k) i l h = rw (le-ltb i (length l) h)

module _ (k i : ℕ) (l : List ℕ) (h : i < length l) (g : 1 < length l) where
  dedup-drop : get_or l i 0 ≡ get_or l ((i + 1) % length l) 0 → dedup (suc k) i l ≡ dedup k i (take i l ++ drop (suc i) l)
  unfolding dedup when◌then◌else◌ ◌and◌
  dedup-drop e = rw (lt-ltb i (length l) h, lt-ltb 1 (length l) g, eq-eqb _ _ e)

  dedup-keep : (get_or l i 0 ≡ get_or l ((i + 1) % length l) 0 → ⊥) → dedup (suc k) i l ≡ dedup k (suc i) l
  unfolding dedup when◌then◌else◌ ◌and◌
  dedup-keep e = rw (lt-ltb i (length l) h, lt-ltb 1 (length l) g, ne_eqb _ _ e)

pub trim_same : (l : List ℕ) (m : ℕ) → 1 < length l → length l - 1 ≡ m → get_or l 0 0 ≡ get_or l m 0 → trim l ≡ take m l
unfolding trim when◌then◌else◌ ◌and◌
trim_same l m h q e = rw (lt-ltb 1 (length l) h, q, eq-eqb (get_or l 0 0) (get_or l m 0) e)

pub trim-other : (l : List ℕ) (m : ℕ) → 1 < length l → length l - 1 ≡ m → (get_or l 0 0 ≡ get_or l m 0 → ⊥) → trim l ≡ l
unfolding trim when◌then◌else◌ ◌and◌
trim-other l m h q e = rw (lt-ltb 1 (length l) h, q, ne_eqb (get_or l 0 0) (get_or l m 0) e)

-- ---------------------------------------------------------------- the last entry

drop_next : (p : List ℕ) (x : ℕ) (q : List ℕ) → take (length p) (p ++ (x ∷ q)) ++ drop (suc (length p)) (p ++ (x ∷ q)) ≡ p ++ q
drop_next [] x q = refl
drop_next (z ∷ p) x q = ap (λ (l : List ℕ). z ∷ l) (drop_next p x q)

-- of several entries
last-after : (k z : ℕ) (p : List ℕ) (x : ℕ) → dedup (suc k) (suc (length p)) (z ∷ (p ++ (x ∷ []))) ≡ trim (z ∷ (p ++ (x ∷ [])))
last-after k z p x =
    let n : length (p ++ (x ∷ [])) ≡ suc (length p) = length-append p (x ∷ []) ∙ omega arith in
    let i : suc (length p) < suc (length (p ++ (x ∷ []))) = omega arith in
    let g : 1 < suc (length (p ++ (x ∷ []))) = omega arith in
    let w : suc (length p) + 1 ≡ suc (length (p ++ (x ∷ []))) = omega arith in
    let m : (suc (length p) + 1) % suc (length (p ++ (x ∷ []))) ≡ 0 = rw w (mod_self _) in
    let a : get_or (p ++ (x ∷ [])) (length p) 0 ≡ x = get_or_at p x [] 0 (length p) refl in
    let b : get_or (z ∷ (p ++ (x ∷ []))) ((suc (length p) + 1) % suc (length (p ++ (x ∷ [])))) 0 ≡ z = ap (λ (j : ℕ). get_or (z ∷ (p ++ (x ∷ []))) j 0) m in
    let e₀ : get_or (z ∷ (p ++ (x ∷ []))) (length (p ++ (x ∷ []))) 0 ≡ x = ap (λ (j : ℕ). get_or (z ∷ (p ++ (x ∷ []))) j 0) n ∙ a in
    let t : take (length (p ++ (x ∷ []))) (z ∷ (p ++ (x ∷ []))) ≡ z ∷ p = ap (λ (j : ℕ). take j (z ∷ (p ++ (x ∷ [])))) n ∙ ap (λ (l : List ℕ). z ∷ l) (take_at p (x ∷ []) (length p) refl) in
    elim (ℕ_discrete x z) [
      | yes e ↦ dedup-drop k (suc (length p)) (z ∷ (p ++ (x ∷ []))) i g (a ∙ e ∙ sym b)
          ∙ ap (λ (l : List ℕ). dedup k (suc (length p)) (z ∷ l)) (drop_next p x [] ∙ append-nil p)
          ∙ dedup_done k (suc (length p)) (z ∷ p) (omega arith)
          ∙ sym (trim_same (z ∷ (p ++ (x ∷ []))) (length (p ++ (x ∷ []))) g (omega arith) (sym e ∙ sym e₀) ∙ t)
      | no e ↦ dedup-keep k (suc (length p)) (z ∷ (p ++ (x ∷ []))) i g (λ f. e (sym a ∙ f ∙ b))
          ∙ dedup_done k (suc (suc (length p))) (z ∷ (p ++ (x ∷ []))) (omega arith)
          ∙ sym (trim-other (z ∷ (p ++ (x ∷ []))) (length (p ++ (x ∷ []))) g (omega arith) (λ f. e (sym e₀ ∙ sym f)))
    ]

last_is : (k : ℕ) (p : List ℕ) (x : ℕ) → dedup (suc k) (length p) (p ++ (x ∷ [])) ≡ trim (p ++ (x ∷ []))
unfolding dedup trim when◌then◌else◌ ◌and◌
last_is k [] x = refl
last_is k (z ∷ p) x = last-after k z p x

-- ---------------------------------------------------------------- the runs

squeeze-same : (x y : ℕ) (l : List ℕ) → x ≡ y → squeeze (x ∷ y ∷ l) ≡ squeeze (y ∷ l)
unfolding squeeze when◌then◌else◌
squeeze-same x y l e = rw (eq-eqb x y e)

squeeze-other : (x y : ℕ) (l : List ℕ) → (x ≡ y → ⊥) → squeeze (x ∷ y ∷ l) ≡ x ∷ squeeze (y ∷ l)
unfolding squeeze when◌then◌else◌
squeeze-other x y l e = rw (ne_eqb x y e)

squeeze-one : (x : ℕ) → squeeze (x ∷ []) ≡ x ∷ []
unfolding squeeze when◌then◌else◌
squeeze-one x = refl

get_or_next : (p : List ℕ) (x y : ℕ) (q : List ℕ) → get_or (p ++ (x ∷ y ∷ q)) (length p + 1) 0 ≡ y
get_or_next p x y q = get_or-append-add p (x ∷ y ∷ q) 1 0

-- the entries of p are kept, x is in hand
dedup_is : (k : ℕ) (p : List ℕ) (x : ℕ) (q : List ℕ) → suc (length q) ≤ k → dedup k (length p) (p ++ (x ∷ q)) ≡ trim (p ++ squeeze (x ∷ q))
dedup_is zero p x q h = absurd (omega arith)
dedup_is (suc k) p x [] h = rw (squeeze-one x) (last_is k p x)
dedup_is (suc k) p x (y ∷ q) h =
    let l = p ++ (x ∷ y ∷ q) in
    let n : length (p ++ (x ∷ y ∷ q)) ≡ length p + suc (suc (length q)) = length-append p (x ∷ y ∷ q) in
    let i : length p < length (p ++ (x ∷ y ∷ q)) = omega arith in
    let g : 1 < length (p ++ (x ∷ y ∷ q)) = omega arith in
    let m : (length p + 1) % length (p ++ (x ∷ y ∷ q)) ≡ length p + 1 = mod-eq_of_lt (omega arith) in
    let a : get_or (p ++ (x ∷ y ∷ q)) (length p) 0 ≡ x = get_or_at p x (y ∷ q) 0 (length p) refl in
    let b : get_or (p ++ (x ∷ y ∷ q)) ((length p + 1) % length (p ++ (x ∷ y ∷ q))) 0 ≡ y = ap (λ (j : ℕ). get_or (p ++ (x ∷ y ∷ q)) j 0) m ∙ get_or_next p x y q in
    elim (ℕ_discrete x y) [
      | yes e ↦ dedup-drop k (length p) (p ++ (x ∷ y ∷ q)) i g (a ∙ e ∙ sym b) ∙ ap (λ (r : List ℕ). dedup k (length p) r) (drop_next p x (y ∷ q))
          ∙ dedup_is k p y q (omega arith) ∙ ap (λ (r : List ℕ). trim (p ++ r)) (sym (squeeze-same x y q e))
      | no e ↦
          let s : length (p ++ (x ∷ [])) ≡ suc (length p) = length-append p (x ∷ []) ∙ omega arith in
          dedup-keep k (length p) (p ++ (x ∷ y ∷ q)) i g (λ f. e (sym a ∙ f ∙ b))
          ∙ (rw (s, append_assoc p (x ∷ []) (y ∷ q), append_assoc p (x ∷ []) (squeeze (y ∷ q))) at (dedup_is k (p ++ (x ∷ [])) y q (omega arith)))
          ∙ ap (λ (r : List ℕ). trim (p ++ r)) (sym (squeeze-other x y q e))
    ]

none_is : (k : ℕ) → dedup k 0 [] ≡ trim (squeeze [])
unfolding dedup trim squeeze when◌then◌else◌ ◌and◌
none_is zero = refl
none_is (suc k) = refl

dedup_from_first : (k : ℕ) (l : List ℕ) → length l ≤ k → dedup k 0 l ≡ trim (squeeze l)
dedup_from_first k [] h = none_is k
dedup_from_first k (x ∷ l) h = dedup_is k [] x l h

pub tidy_is : (l : List ℕ) → tidy l ≡ trim (squeeze l)
unfolding tidy
tidy_is l = dedup_from_first (suc (length l)) l (omega arith)

-- the rule's fuel is one for each entry and one more; any that is one for each entry gives the same
pub tidy_fuel : (k : ℕ) (l : List ℕ) → length l ≤ k → dedup k 0 l ≡ tidy l
tidy_fuel k l h = dedup_from_first k l h ∙ sym (tidy_is l)
