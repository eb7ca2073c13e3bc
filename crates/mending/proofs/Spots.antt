-- A span's cell and layer, looked for cell by cell: what is left of its number, in the cells that are left, gives the rest.
-- Assumes nothing.
use Prim.Native.Nat.{ℕ, zero, suc, ◌+◌, ◌-◌, ◌≤◌, ◌<◌}
use native.Mathlib.Omega.{arith}
use mathlib.Core.Path.{◌≡◌, refl, sym, ap, ◌∙◌}
use mathlib.Core.List.{List, [], ◌∷◌}
use lib.ListN.{length, get_or, drop, drop_of_length-le}
use borrow.Author.Tests.{lt-ltb, le-ltb}
use Rattle.rules.specs.Base.{when◌then◌else◌}
use Rattle.rules.specs.Field.{cell_of}
use Rattle.mending.specs.Patch.{layer_of}

drop_here : (l : List ℕ) (c : ℕ) → c < length l → drop c l ≡ get_or l c 0 ∷ drop (c + 1) l
drop_here [] c h = absurd (omega arith)
drop_here (x ∷ l) zero h = refl
drop_here (x ∷ l) (suc c) h = let p : suc c + 1 ≡ suc (c + 1) = omega arith in rw p (drop_here l c (omega arith))

-- the first cell of those that are left has it, or not
cell_here : (k left : ℕ) (ks : List ℕ) → left < k → cell_of (k ∷ ks) left ≡ 0
unfolding cell_of when◌then◌else◌
cell_here k left ks h = rw (lt-ltb left k h)

cell-not : (k left : ℕ) (ks : List ℕ) → k ≤ left → cell_of (k ∷ ks) left ≡ suc (cell_of ks (left - k))
unfolding cell_of when◌then◌else◌
cell-not k left ks h = rw (le-ltb left k h)

layer_here : (k left : ℕ) (ks : List ℕ) → left < k → layer_of (k ∷ ks) left ≡ left
unfolding layer_of when◌then◌else◌
layer_here k left ks h = rw (lt-ltb left k h)

layer_not : (k left : ℕ) (ks : List ℕ) → k ≤ left → layer_of (k ∷ ks) left ≡ layer_of ks (left - k)
unfolding layer_of when◌then◌else◌
layer_not k left ks h = rw (le-ltb left k h)

cell-none : (left : ℕ) → cell_of [] left ≡ 0
unfolding cell_of
cell-none left = refl

layer_none : (left : ℕ) → layer_of [] left ≡ left
unfolding layer_of
layer_none left = refl

-- ---------------------------------------------------------------- as the code goes

module _ (ks : List ℕ) (s : ℕ) where
  pub cell-start : cell_of ks s ≡ 0 + cell_of (drop 0 ks) s
  cell-start = omega arith

  pub layer_start : layer_of ks s ≡ layer_of (drop 0 ks) s
  layer_start = refl

  module _ (c left : ℕ) where
    module _ (k : ℕ) (l : c < length ks) (e : k ≡ get_or ks c 0) where
      left_is : drop c ks ≡ k ∷ drop (c + 1) ks
      left_is = rw e (drop_here ks c l)

      pub cell_found : cell_of ks s ≡ c + cell_of (drop c ks) left → left < k → c ≡ cell_of ks s
      cell_found f h = omega (arith, f, ap (λ (x : List ℕ). cell_of x left) left_is, cell_here k left (drop (c + 1) ks) h)

      pub layer_found : layer_of ks s ≡ layer_of (drop c ks) left → left < k → left ≡ layer_of ks s
      layer_found f h = sym (f ∙ ap (λ (x : List ℕ). layer_of x left) left_is ∙ layer_here k left (drop (c + 1) ks) h)

      pub cell_on_lem : cell_of ks s ≡ c + cell_of (drop c ks) left → k ≤ left → cell_of ks s ≡ c + 1 + cell_of (drop (c + 1) ks) (left - k)
      cell_on_lem f h = omega (arith, f, ap (λ (x : List ℕ). cell_of x left) left_is, cell-not k left (drop (c + 1) ks) h)

      pub layer_on : layer_of ks s ≡ layer_of (drop c ks) left → k ≤ left → layer_of ks s ≡ layer_of (drop (c + 1) ks) (left - k)
      layer_on f h = f ∙ ap (λ (x : List ℕ). layer_of x left) left_is ∙ layer_not k left (drop (c + 1) ks) h

    pub cell-end : cell_of ks s ≡ c + cell_of (drop c ks) left → length ks ≤ c → c ≤ length ks → length ks ≡ cell_of ks s
    cell-end f h i = omega (arith, f, h, i, ap (λ (x : List ℕ). cell_of x left) (drop_of_length-le ks h), cell-none left)

    pub layer_end : layer_of ks s ≡ layer_of (drop c ks) left → length ks ≤ c → left ≡ layer_of ks s
    layer_end f h = sym (f ∙ ap (λ (x : List ℕ). layer_of x left) (drop_of_length-le ks h) ∙ layer_none left)
