-- What pass 1 reads at a span stands in cells before the span's own: one to the left, one above, or above and one to the right.
-- Spans stand as their cells do, so it is earlier in their order too. What pass 2 reads stands in other cells than the span's own. Assumes nothing.
use Prim.Native.Nat.{ℕ, ◌+◌, ◌*◌, ◌-◌, ◌/◌, ◌%◌, ◌<◌}
use native.Mathlib.Omega.{arith}
use native.Mathlib.Nat.{mod-le, mod-lt, div-le_self, div-eq_of_lt}
use native.Mathlib.Decide.{dec_lt, ℕ_discrete}
use mathlib.Core.Path.{◌≡◌, refl, sym, ap, ◌∙◌}
use mathlib.Core.Bool.{false}
use borrow.Author.Tests.{eqb-false}
use Rattle.rules.specs.Field.{Field, spans, near, cell_of, cell_to, leaves, con_of}
use Rattle.laws.proofs.Basics.{tests}
use Rattle.laws.proofs.Cells.{near_none, before, before_lt, cell_of_in}
use Rattle.laws.proofs.Passes.{wide_pos, none-near}
use Rattle.laws.proofs.Rows.{Earlier, Apart}
use Rattle.field.specs.Lent.{Stands, Reached}
use Rattle.field.proofs.Places.{sum_is, stands_in, reaches, near_stands}

-- ---------------------------------------------------------------- cells before a cell

up_0 : (w h c : ℕ) → leaves w h c 0 ≡ false → cell_to w c 0 < c
unfolding leaves cell_to
up_0 w h c e = let k = eqb-false (c % w) 0 e in omega (arith, mod-le c w)

up_3 : (w h c : ℕ) → c < w * h → leaves w h c 3 ≡ false → cell_to w c 3 < c
unfolding leaves cell_to
up_3 w h c g e = let k = eqb-false (c / w) 0 e in omega (arith, div-le_self c w, wide_pos w h c g)

-- one row up and one column on
up_32 : (w h c : ℕ) → c < w * h → leaves w h c 3 ≡ false → leaves w h (cell_to w c 3) 2 ≡ false → cell_to w (cell_to w c 3) 2 < c
unfolding leaves cell_to
up_32 w h c g e f =
    let k : c / w ≡ 0 → ⊥ = eqb-false (c / w) 0 e in
    let two : 1 < w = omega tests in
    elim (dec_lt c w) [ yes l ↦ absurd (k (div-eq_of_lt l)) | no l ↦ omega arith ]

module _ (F : Field) (ok : Reached F) where
  -- a neighbour that is there stands in the cell across, and the way there stays in the grid
  pub inner : (c s d : ℕ) → Stands F c s → d < 4 → near F s d < spans F → (leaves F.w F.h c d ≡ false) × Stands F (cell_to F.w c d) (near F s d)
  inner c s d v g i =
      let k : near F s d ≡ 65535 → ⊥ = λ z. omega (arith, ok.celled.few) in
      let r = reaches F ok s d v.span g (λ z. k (near_none F s d z)) in
      (ap (λ (x : ℕ). leaves F.w F.h x d) (sym v.cell) ∙ r.inner, near_stands F ok c s d v g k)

  -- a neighbour's neighbour is there only where the neighbour is
  through : (s d e : ℕ) → near F (near F s d) e < spans F → s < spans F → d < 4 → near F s d < spans F
  through s d e i l g =
      elim (ℕ_discrete (con_of F s d) 255) [
        | yes z ↦ let m : near F (near F s d) e ≡ 65535 = rw (near_none F s d z) (none-near F e (omega (arith, ok.celled.linked, ok.celled.few))) in absurd (omega (arith, ok.celled.few))
        | no z ↦ (reaches F ok s d l g z).inside
      ]

  -- spans stand as their cells do
  in_order : (s t : ℕ) → s < spans F → t < spans F → cell_of F.count t < cell_of F.count s → t < s
  in_order s t h g k =
      let a = cell_of_in F.count t (rw (sum_is F ok.celled) g) in
      let b = cell_of_in F.count s (rw (sum_is F ok.celled) h) in
      let e = before_lt F.count (cell_of F.count t) (cell_of F.count s) (t - before F.count (cell_of F.count t)) (omega arith) k in
      omega arith

  module _ (c s : ℕ) (v : Stands F c s) where
    in_grid : c < F.w * F.h
    in_grid = stands_in F ok.celled c s v

    pub before_0 : near F s 0 < spans F → cell_of F.count (near F s 0) < c
    before_0 i = let r = inner c s 0 v (omega arith) i in omega (arith, r.1.cell, up_0 F.w F.h c r.0)

    pub before_03 : near F (near F s 0) 3 < spans F → cell_of F.count (near F (near F s 0) 3) < c
    unfolding cell_to
    before_03 i =
        let r = inner c s 0 v (omega arith) (through s 0 3 i v.span (omega arith)) in
        let q = inner (cell_to F.w c 0) (near F s 0) 3 r.1 (omega arith) i in
        omega (arith, q.1.cell, up_0 F.w F.h c r.0)

    pub before_3 : near F s 3 < spans F → cell_of F.count (near F s 3) < c
    before_3 i = let r = inner c s 3 v (omega arith) i in omega (arith, r.1.cell, up_3 F.w F.h c in_grid r.0)

    pub before_32 : near F (near F s 3) 2 < spans F → cell_of F.count (near F (near F s 3) 2) < c
    before_32 i =
        let r = inner c s 3 v (omega arith) (through s 3 2 i v.span (omega arith)) in
        let q = inner (cell_to F.w c 3) (near F s 3) 2 r.1 (omega arith) i in
        omega (arith, q.1.cell, up_32 F.w F.h c in_grid r.0 q.0)

  pub earlier : (s : ℕ) → s < spans F → Earlier F s
  earlier s h =
      let v : Stands F (cell_of F.count s) s = record { span = h; cell = refl } in
      record {
        first = λ i. in_order s _ h i (before_0 (cell_of F.count s) s v i);
        second = λ i. in_order s _ h i (before_03 (cell_of F.count s) s v i);
        third = λ i. in_order s _ h i (before_3 (cell_of F.count s) s v i);
        fourth = λ i. in_order s _ h i (before_32 (cell_of F.count s) s v i);
      }

  -- pass 2
  pub apart : (s : ℕ) → s < spans F → Apart F s
  unfolding cell_to leaves
  apart s h =
      let c = cell_of F.count s in
      let v : Stands F c s = record { span = h; cell = refl } in
      let p = wide_pos F.w F.h c (in_grid c s v) in
      record {
        first = λ i e. let r = inner c s 2 v (omega arith) i in omega (arith, r.1.cell);
        second = λ i e.
            let r = inner c s 2 v (omega arith) (through s 2 1 i h (omega arith)) in
            let q = inner (cell_to F.w c 2) (near F s 2) 1 r.1 (omega arith) i in
            omega (arith, q.1.cell);
        third = λ i e. let r = inner c s 1 v (omega arith) i in omega (arith, r.1.cell);
        fourth = λ i e.
            let r = inner c s 1 v (omega arith) (through s 1 0 i h (omega arith)) in
            let q = inner (cell_to F.w c 1) (near F s 1) 0 r.1 (omega arith) i in
            let n : (c + F.w) % F.w ≡ 0 → ⊥ = eqb-false ((c + F.w) % F.w) 0 q.0 in
            omega (arith, q.1.cell, mod-lt (c + F.w) p);
      }
