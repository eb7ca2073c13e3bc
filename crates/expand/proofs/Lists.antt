-- Lists that stand in the workspace, entry by entry: a store elsewhere leaves them, and one at their end adds to them.
-- Each is read off the places it stands at, so places that are the same give the same list. Assumes nothing.
use mathlib.Core.Path.{◌≡◌, refl, sym, ap, ◌∙◌}
use mathlib.Core.List.{List, [], ◌∷◌, ◌++◌}
use Prim.Native.Nat.{ℕ, zero, suc, ◌+◌, ◌-◌, ◌*◌, ◌≤◌, ◌<◌}
use native.Mathlib.Omega.{arith}
use native.Mathlib.Nat.{add-zero}
use native.Mathlib.Numerals.{add-one}
use lib.ListN.{length, get_or, set, take, length-set}
use lib.Seq.{ext_get_or, get_or-set_same, get_or-set_other}
use Rattle.rules.specs.Growth.{Marks, put}
use Rattle.space.specs.Space.{sec}
use Rattle.space.proofs.Laws.{length-sec, get_or-sec}
use Rattle.flood.specs.Stack.{marks_at}
use Rattle.laws.proofs.Basics.{All}
use Rattle.expand.specs.Layout.{Change, list_at, changes_at, applied}

-- ---------------------------------------------------------------- entries

pub list_at_cong : (ws ws' : List ℕ) (b k : ℕ) → ((x : ℕ) → b ≤ x → x < b + k → get_or ws' x 0 ≡ get_or ws x 0) → list_at ws' b k ≡ list_at ws b k
unfolding list_at
list_at_cong ws ws' b zero h = refl
list_at_cong ws ws' b (suc k) h = rw (h b (omega arith) (omega arith), list_at_cong ws ws' (b + 1) k (λ x l u. h x (omega arith) (omega arith)))

list_at-last : (ws : List ℕ) (b k : ℕ) → list_at ws b (suc k) ≡ list_at ws b k ++ (get_or ws (b + k) 0 ∷ [])
unfolding list_at
list_at-last ws b zero = rw (add-zero b)
list_at-last ws b (suc k) =
    let e : b + 1 + k ≡ b + suc k = omega arith in
    ap (λ (l : List ℕ). get_or ws b 0 ∷ l) (rw e at (list_at-last ws (b + 1) k))

pub list_at_snoc : (ws : List ℕ) (b k : ℕ) → list_at ws b (k + 1) ≡ list_at ws b k ++ (get_or ws (b + k) 0 ∷ [])
list_at_snoc ws b k = rw (add-one k) (list_at-last ws b k)

-- what is left of the entries from j on
pub list_at_next : (ws : List ℕ) (n j fill : ℕ) → j < fill → list_at ws (n + j) (fill - j) ≡ get_or ws (n + j) 0 ∷ list_at ws (n + (j + 1)) (fill - (j + 1))
unfolding list_at
list_at_next ws n j fill h =
    let e : fill - j ≡ suc (fill - (j + 1)) = omega arith in
    let f : n + j + 1 ≡ n + (j + 1) = omega arith in
    rw (e, f)

pub length-list_at : (ws : List ℕ) (b k : ℕ) → length (list_at ws b k) ≡ k
unfolding list_at
length-list_at ws b zero = refl
length-list_at ws b (suc k) = ap suc (length-list_at ws (b + 1) k)

pub get_or-list_at : (ws : List ℕ) (b k i : ℕ) → i < k → get_or (list_at ws b k) i 0 ≡ get_or ws (b + i) 0
unfolding list_at
get_or-list_at ws b zero i h = absurd (omega arith)
get_or-list_at ws b (suc k) zero h = rw (add-zero b)
get_or-list_at ws b (suc k) (suc i) h =
    let e : b + 1 + i ≡ b + suc i = omega arith in
    rw e at (get_or-list_at ws (b + 1) k i (omega arith))

-- the entries are a section
pub list_at-sec : (ws : List ℕ) (a k : ℕ) → a + k ≤ length ws → list_at ws a k ≡ sec a k ws
list_at-sec ws a k h =
    ext_get_or 0 (list_at ws a k) (sec a k ws) (length-list_at ws a k ∙ sym (length-sec a k ws h))
    (λ i l. let g : i < k = rw (length-list_at ws a k) at l in get_or-list_at ws a k i g ∙ sym (get_or-sec a k i ws g))

-- what holds of each entry
pub all_at : (P : ℕ → Type 0) (ws : List ℕ) (b k : ℕ) → All P (list_at ws b k) → (j : ℕ) → j < k → P (get_or ws (b + j) 0)
unfolding list_at
all_at P ws b zero h j l = absurd (omega arith)
all_at P ws b (suc k) h zero l = rw (add-zero b) h.0
all_at P ws b (suc k) h (suc j) l =
    let e : b + 1 + j ≡ b + suc j = omega arith in
    rw e at (all_at P ws (b + 1) k h.1 j (omega arith))

pub all_of : (P : ℕ → Type 0) (ws : List ℕ) (b k : ℕ) → ((j : ℕ) → j < k → P (get_or ws (b + j) 0)) → All P (list_at ws b k)
unfolding list_at
all_of P ws b zero h = tt
all_of P ws b (suc k) h =
    (rw (add-zero b) at (h 0 (omega arith)), all_of P ws (b + 1) k (λ j l. let e : b + suc j ≡ b + 1 + j = omega arith in rw e at (h (suc j) (omega arith))))

pub seam : (A : List ℕ) (x : ℕ) (B : List ℕ) → A ++ (x ∷ B) ≡ (A ++ (x ∷ [])) ++ B
seam [] x B = refl
seam (a ∷ A) x B = ap (λ (l : List ℕ). a ∷ l) (seam A x B)

-- ---------------------------------------------------------------- changes

changes_at-last : (ws : List ℕ) (b k : ℕ)
    → changes_at ws b (suc k) ≡ changes_at ws b k ++ (record { span = get_or ws (b + 3 * k) 0; id = get_or ws (b + 3 * k + 1) 0; far = get_or ws (b + 3 * k + 2) 0 } ∷ [])
unfolding changes_at
changes_at-last ws b zero = let e : b + 3 * 0 ≡ b = omega arith in rw e
changes_at-last ws b (suc k) =
    let e : b + 3 + 3 * k ≡ b + 3 * suc k = omega arith in
    ap (λ (l : List Change). record { span = get_or ws b 0; id = get_or ws (b + 1) 0; far = get_or ws (b + 2) 0 } ∷ l) (rw e at (changes_at-last ws (b + 3) k))

pub changes_at_snoc : (ws : List ℕ) (b k : ℕ)
    → changes_at ws b (k + 1) ≡ changes_at ws b k ++ (record { span = get_or ws (b + 3 * k) 0; id = get_or ws (b + 3 * k + 1) 0; far = get_or ws (b + 3 * k + 2) 0 } ∷ [])
changes_at_snoc ws b k = rw (add-one k) (changes_at-last ws b k)

pub applied_snoc : (cs : List Change) (c : Change) (out : Marks) → applied (cs ++ (c ∷ [])) out ≡ put (applied cs out) c.span c.id c.far
unfolding applied
applied_snoc [] c out = refl
applied_snoc (x ∷ cs) c out = applied_snoc cs c (put out x.span x.id x.far)

pub changes_at_cong : (ws ws' : List ℕ) (b k : ℕ) → ((x : ℕ) → b ≤ x → x < b + 3 * k → get_or ws' x 0 ≡ get_or ws x 0) → changes_at ws' b k ≡ changes_at ws b k
unfolding changes_at
changes_at_cong ws ws' b zero h = refl
changes_at_cong ws ws' b (suc k) h =
    rw (h b (omega arith) (omega arith), h (b + 1) (omega arith) (omega arith), h (b + 2) (omega arith) (omega arith), changes_at_cong ws ws' (b + 3) k (λ x l u. h x (omega arith) (omega arith)))

-- ---------------------------------------------------------------- four stores, read elsewhere, and at each

module _ (l : List ℕ) (a b c d p q r s : ℕ) (x : ℕ) where
  pub four_else : (x ≡ a → ⊥) → (x ≡ b → ⊥) → (x ≡ c → ⊥) → (x ≡ d → ⊥) → get_or (set (set (set (set l a p) b q) c r) d s) x 0 ≡ get_or l x 0
  four_else ha hb hc hd =
      get_or-set_other (set (set (set l a p) b q) c r) d x s 0 hd ∙ get_or-set_other (set (set l a p) b q) c x r 0 hc ∙ get_or-set_other (set l a p) b x q 0 hb ∙ get_or-set_other l a x p 0 ha

  pub four-first : x ≡ a → a < length l → (a ≡ b → ⊥) → (a ≡ c → ⊥) → (a ≡ d → ⊥) → get_or (set (set (set (set l a p) b q) c r) d s) x 0 ≡ p
  four-first e h hb hc hd =
      rw e (get_or-set_other (set (set (set l a p) b q) c r) d a s 0 hd ∙ get_or-set_other (set (set l a p) b q) c a r 0 hc ∙ get_or-set_other (set l a p) b a q 0 hb ∙ get_or-set_same l a p 0 h)

  pub four-second : x ≡ b → b < length l → (b ≡ c → ⊥) → (b ≡ d → ⊥) → get_or (set (set (set (set l a p) b q) c r) d s) x 0 ≡ q
  four-second e h hc hd =
      rw e (get_or-set_other (set (set (set l a p) b q) c r) d b s 0 hd ∙ get_or-set_other (set (set l a p) b q) c b r 0 hc ∙ get_or-set_same (set l a p) b q 0 (rw (length-set l a p) h))

  pub four_third : x ≡ c → c < length l → (c ≡ d → ⊥) → get_or (set (set (set (set l a p) b q) c r) d s) x 0 ≡ r
  four_third e h hd = rw e (get_or-set_other (set (set (set l a p) b q) c r) d c s 0 hd ∙ get_or-set_same (set (set l a p) b q) c r 0 (simp length-set h))

  pub four-last : x ≡ d → d < length l → get_or (set (set (set (set l a p) b q) c r) d s) x 0 ≡ s
  four-last e h = rw e (get_or-set_same (set (set (set l a p) b q) c r) d s 0 (simp length-set h))

-- ---------------------------------------------------------------- what a phase is lent

pub marks_same : (n : ℕ) (ids ws ws' : List ℕ) → take n ws' ≡ take n ws → marks_at n ids ws' ≡ marks_at n ids ws
marks_same n ids ws ws' e = rw e
