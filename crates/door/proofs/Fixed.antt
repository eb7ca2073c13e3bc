-- A build's lists are fixed: a row of pass 1 or of pass 2, worked out again from the build's own lists, comes out as it is.
-- A row is not touched after its turn, so what it was made from is still there.
use Prim.Native.Nat.{ℕ, zero, suc, ◌≤◌, ◌<◌}
use native.Mathlib.Omega.{arith}
use native.Mathlib.Decide.{dec_lt, ℕ_discrete}
use mathlib.Core.Path.{◌≡◌, refl, sym, ◌∙◌}
use mathlib.Core.List.{List}
use lib.ListN.{length}
use borrow.Author.Tests.{eqb-true, not-false}
use Rattle.rules.specs.Base.{upto}
use Rattle.rules.specs.Field.{Field, spans}
use Rattle.rules.specs.Refusals.{wrong_length, wrong_cells}
use Rattle.rules.specs.Distance.{start, far, lower, pass1, raw}
use Rattle.rules.specs.Rows.{downto, from_start, pass1_row, pass2_row}
use Rattle.rules.specs.Refresh.{value_to, values_row, from_pass1}
use Rattle.laws.proofs.Basics.{both}
use Rattle.laws.proofs.Cells.{Passed}
use Rattle.laws.proofs.Lengths.{start-length, pass1-length}
use Rattle.laws.proofs.Rows.{pass1_by_rows, pass2_by_rows}
use Rattle.door.specs.Edit.{row_of}
use Rattle.door.proofs.Agree.{downto-ind, lower_stores, start_stores, value_stores, up_size, up_keeps, down_size, down_keeps, Same, earlier, pass1-same, pass2-same, values_stored}

module _ (F : Field) (lens : List ℕ) (ok : Passed F lens) where
  -- ---------------------------------------------------------------- pass 1

  pub pass1_keeps : (y t : ℕ) (l : List ℕ) → (row_of F t ≡ y → ⊥) → far (pass1_row F y l) t ≡ far l t
  unfolding pass1_row
  pass1_keeps y t l n = up_keeps F (from_start F) (start_stores F) lens ok y t l n

  pub pass1_size : (y : ℕ) (l : List ℕ) → length (pass1_row F y l) ≡ length l
  unfolding pass1_row
  pass1_size y l = up_size F (from_start F) (start_stores F) y l

  rows_size : (n : ℕ) (l : List ℕ) → length (upto n (pass1_row F) l) ≡ length l
  unfolding upto
  rows_size zero l = refl
  rows_size (suc n) l = pass1_size n _ ∙ rows_size n l

  -- rows before k are as they were after k rows
  later : (n k t : ℕ) (l : List ℕ) → row_of F t < k → k ≤ n → far (upto n (pass1_row F) l) t ≡ far (upto k (pass1_row F) l) t
  unfolding upto
  later zero k t l h g = absurd (omega arith)
  later (suc n) k t l h g =
      elim (ℕ_discrete k (suc n)) [ yes e ↦ rw e | no e ↦ pass1_keeps n t (upto n (pass1_row F) l) (λ z. omega arith) ∙ later n k t l h (omega arith) ]

  rows_fixed : (n y : ℕ) (l : List ℕ) → length l ≡ spans F → y < n → (s : ℕ) → s < spans F → row_of F s ≡ y
      → far (pass1_row F y (upto n (pass1_row F) l)) s ≡ far (upto n (pass1_row F) l) s
  unfolding upto
  rows_fixed n y l e h s i r =
      pass1-same F lens ok y (upto n (pass1_row F) l) (upto y (pass1_row F) l) (rows_size n l ∙ e) (rows_size y l ∙ e)
      (λ t j z. later n y t l (omega arith) (omega arith)) s i r
      ∙ sym (later n (suc y) s l (omega arith) h)

  by_rows : upto F.h (pass1_row F) (start F) ≡ pass1 F (start F)
  unfolding wrong_cells wrong_length
  by_rows =
      pass1_by_rows F (earlier F lens ok) (not-false _ ok.cells) (eqb-true _ _ (both _ _ (both _ _ (both _ _ (not-false _ ok.lengths)).0).0).1) (start F)
      (start-length F)

  pub pass1_fixed : (y : ℕ) → y < F.h → (s : ℕ) → s < spans F → row_of F s ≡ y → far (pass1_row F y (pass1 F (start F))) s ≡ far (pass1 F (start F)) s
  pass1_fixed y h s i r = rw by_rows at (rows_fixed F.h y (start F) (start-length F) h s i r)

  -- ---------------------------------------------------------------- pass 2

  row2_keeps : (y t : ℕ) (l : List ℕ) → (row_of F t ≡ y → ⊥) → far (pass2_row F y l) t ≡ far l t
  unfolding pass2_row
  row2_keeps y t l n = down_keeps F (lower F 2 1 1 0) (lower_stores F 2 1 1 0) lens ok y t l n

  row2_size : (y : ℕ) (l : List ℕ) → length (pass2_row F y l) ≡ length l
  unfolding pass2_row
  row2_size y l = down_size F (lower F 2 1 1 0) (lower_stores F 2 1 1 0) y l

  -- rows from n on are not touched by the rows below n
  touched_no_more : (n t : ℕ) (l : List ℕ) → n ≤ row_of F t → far (downto n (pass2_row F) l) t ≡ far l t
  touched_no_more n t l h = downto-ind (λ x. far x t ≡ far l t) (pass2_row F) l n refl (λ k x g p. row2_keeps k t x (λ z. omega arith) ∙ p)

  rows2_size : (n : ℕ) (l : List ℕ) → length (downto n (pass2_row F) l) ≡ length l
  rows2_size n l = downto-ind (λ x. length x ≡ length l) (pass2_row F) l n refl (λ k x g p. row2_size k x ∙ p)

  rows2_fixed : (n : ℕ) (p l : List ℕ) → length p ≡ spans F → length l ≡ spans F → Same F 0 n l p → (y : ℕ) → y < n → (s : ℕ) → s < spans F → row_of F s ≡ y
      → far (from_pass1 F p y (downto n (pass2_row F) l)) s ≡ far (downto n (pass2_row F) l) s
  unfolding downto from_pass1 values_row
  rows2_fixed zero p l np nl v y h s i r = absurd (omega arith)
  rows2_fixed (suc n) p l np nl v y h s i r =
      let m = pass2_row F n l in
      let q = downto n (pass2_row F) m in
      elim (dec_lt y n) [
        | yes g ↦ rows2_fixed n p m np (row2_size n l ∙ nl) (λ t j a b. row2_keeps n t l (λ z. omega arith) ∙ v t j a (omega arith)) y g s i r
        | no g ↦
            let e : y ≡ n = omega arith in
            let nq : length q ≡ spans F = rows2_size n m ∙ row2_size n l ∙ nl in
            let same : Same F n (suc (suc n)) (values_row F p n q) l = λ t j a b.
            elim (ℕ_discrete (row_of F t) n) [
              | yes z ↦ values_stored F lens ok p n q np nq t j z ∙ sym (v t j (omega arith) (omega arith))
              | no z ↦ up_keeps F (value_to p) (value_stores p) lens ok n t q z ∙ touched_no_more n t m (omega arith) ∙ row2_keeps n t l z
            ] in
            rw e
            (pass2-same F lens ok n (values_row F p n q) l (up_size F (value_to p) (value_stores p) n q ∙ nq) nl same s i (omega arith) (omega arith)
            ∙ sym (touched_no_more n s m (omega arith)))
      ]

  pub raw_fixed : (y : ℕ) → y < F.h → (s : ℕ) → s < spans F → row_of F s ≡ y → far (from_pass1 F (pass1 F (start F)) y (raw F)) s ≡ far (raw F) s
  unfolding raw
  raw_fixed y h s i r =
      let p = pass1 F (start F) in
      let n = pass1-length F (start F) ∙ start-length F in
      rw (pass2_by_rows F p) at (rows2_fixed F.h p p n n (λ t j a b. refl) y h s i r)
