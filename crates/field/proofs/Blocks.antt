-- What an empty block spares: each of its cells has no span, so a walk over it changes nothing and a test of it holds.
-- Assumes nothing.
use Prim.Native.Nat.{ℕ, zero, suc, ◌+◌, ◌<◌, ◌≤◌}
use native.Mathlib.Omega.{arith}
use native.Mathlib.Numerals.{add-one}
use mathlib.Core.Path.{◌≡◌, refl, sym, ap, ◌∙◌}
use mathlib.Core.Bool.{Bool, true, false, ◌&&◌}
use mathlib.Core.List.{List}
use lib.ListN.{get_or}
use lib.Dec.{eqb}
use borrow.Author.Tests.{eqb-true, eq-eqb, ne_eqb}
use Rattle.rules.specs.Base.{◌and◌, upto, every}
use Rattle.rules.specs.Field.{Field}
use Rattle.rules.specs.Rows.{over_cell, downto}
use Rattle.laws.proofs.Basics.{both, every-at, code_and}
use Rattle.field.specs.Blocks.{empty_to, empty_block}

-- ---------------------------------------------------------------- the loop of the test

pub block_part : (ks : List ℕ) (c k : ℕ) → (k ≡ 16 → ⊥) → false ≡ empty_block ks c k
unfolding empty_block ◌and◌
block_part ks c k n = rw (ne_eqb k 16 n)

module _ (ks : List ℕ) (c j : ℕ) (e : Bool) (q : e ≡ empty_to ks c j) where
  pub block_go : (e && eqb (get_or ks (c + j) 0) 0) ≡ empty_to ks c (j + 1)
  unfolding empty_to every
  block_go = rw (add-one, ← q) (code_and e (eqb (get_or ks (c + j) 0) 0))

  pub block_end : (k : ℕ) → k ≡ 16 → j ≤ 16 → 16 ≤ j → e ≡ empty_block ks c k
  unfolding empty_block ◌and◌
  block_end k p h g = let z : j ≡ 16 = omega arith in rw (eq-eqb k 16 p) (q ∙ ap (empty_to ks c) z)

-- ---------------------------------------------------------------- what it spares

-- a walk that changes nothing at each step
pub upto_still {ℓ} : {A : Type ℓ} (n : ℕ) (f : ℕ → A → A) (a : A) → ((i : ℕ) (x : A) → i < n → f i x ≡ x) → a ≡ upto n f a
unfolding upto
upto_still zero f a h = refl
upto_still (suc n) f a h = upto_still n f a (λ i x l. h i x (omega arith)) ∙ sym (h n (upto n f a) (omega arith))

pub downto_still {ℓ} : {A : Type ℓ} (n : ℕ) (f : ℕ → A → A) (a : A) → ((i : ℕ) (x : A) → i < n → f i x ≡ x) → a ≡ downto n f a
unfolding downto
downto_still zero f a h = refl
downto_still (suc n) f a h = sym (h n a (omega arith)) ∙ downto_still n f (f n a) (λ i x l. h i x (omega arith)) ∙ refl

module _ (ks : List ℕ) (c k : ℕ) (r : Bool) (e : r ≡ empty_block ks c k) (t : r ≡ true) where
  pub block_none : (j : ℕ) → j < k → get_or ks (c + j) 0 ≡ 0
  unfolding empty_block empty_to
  block_none j h =
      let b = both _ _ (sym e ∙ t) in
      let z : k ≡ 16 = eqb-true k 16 b.0 in
      eqb-true _ _ (every-at 16 (λ i. eqb (get_or ks (c + i) 0) 0) b.1 j (omega arith))

-- a walk over a cell without spans
pub still_cell : (F : Field) (f : ℕ → List ℕ → List ℕ) (c : ℕ) (l : List ℕ) → get_or F.count c 0 ≡ 0 → over_cell F f c l ≡ l
unfolding over_cell upto
still_cell F f c l e = rw e
