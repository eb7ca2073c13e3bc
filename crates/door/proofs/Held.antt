-- "rows outside them hold what they held", for any lists: a row redone is stored to, and no other row.
-- Assumes nothing.
use Prim.Native.Nat.{ℕ, zero, suc, ◌+◌, ◌-◌, ◌≤◌, ◌<◌}
use native.Mathlib.Omega.{arith}
use mathlib.Core.Path.{◌≡◌, refl, ◌∙◌}
use mathlib.Core.Logic.{◌⊎◌, inl, inr}
use mathlib.Core.List.{List, [], ◌∷◌}
use lib.ListN.{length, get_or}
use lib.Dec.{leb, eqb}
use borrow.Author.Tests.{eqb-true, eqb-false}
use Rattle.rules.specs.Base.{◌and◌}
use Rattle.rules.specs.Field.{Field, spans}
use Rattle.rules.specs.Refusals.{refusal}
use Rattle.rules.specs.Distance.{far}
use Rattle.rules.specs.Rows.{pass1_row, blur_to, blur_row}
use Rattle.rules.specs.Refresh.{Rect, as_stored, Redone, onward, backward, from_pass1, Rows, one_more, blur_rows, redone1, redone2, refreshed, refresh_refusal, refresh_outcome, RefreshOutcome}
use Rattle.laws.proofs.Basics.{both, tests, if-ind, upto-ind, get_d_any}
use Rattle.laws.proofs.Cells.{Passed, passed}
use Rattle.door.specs.Edit.{row_of, InField, Held}
use Rattle.door.proofs.Accepted.{three_lengths, accepted, rows_in}
use Rattle.door.proofs.Agree.{blur_stores, up_size, up_keeps, from_keeps, from_size}
use Rattle.door.proofs.Fixed.{pass1_keeps, pass1_size}

module _ (F : Field) (lens : List ℕ) (ok : Passed F lens) where
  -- ---------------------------------------------------------------- pass 1

  pub onward_size : (z1 k y : ℕ) (l : List ℕ) → length (onward F z1 k y l).values ≡ length l
  unfolding onward
  onward_size z1 zero y l = refl
  onward_size z1 (suc k) y l =
      if-ind (λ (o : Redone). length o.values ≡ length l) _ (λ _. pass1_size F lens ok y l) (λ _. onward_size z1 k (suc y) (pass1_row F y l) ∙ pass1_size F lens ok y l)

  pub onward_from : (z1 k y : ℕ) (l : List ℕ) → y ≤ suc (onward F z1 k y l).end
  unfolding onward
  onward_from z1 zero y l = omega arith
  onward_from z1 (suc k) y l =
      let r = onward_from z1 k (suc y) (pass1_row F y l) in
      if-ind (λ (o : Redone). y ≤ suc o.end) _ (λ _. omega arith) (λ _. omega arith)

  onward-held : (z1 k y : ℕ) (l : List ℕ) (s : ℕ) → (row_of F s < y) ⊎ ((onward F z1 k y l).end < row_of F s) → far (onward F z1 k y l).values s ≡ far l s
  unfolding onward
  onward-held z1 zero y l s = λ c. refl
  onward-held z1 (suc k) y l s =
      let m = pass1_row F y l in
      let n = onward_from z1 k (suc y) m in
      if-ind (λ (o : Redone). (row_of F s < y) ⊎ (o.end < row_of F s) → far o.values s ≡ far l s) (leb (z1 + 1) y and as_stored F y l m)
      (λ _ c. elim c [ inl a ↦ pass1_keeps F lens ok y s l (λ e. omega arith) | inr a ↦ pass1_keeps F lens ok y s l (λ e. omega arith) ])
      (λ _ c. elim c [
        | inl a ↦ onward-held z1 k (suc y) m s (inl (omega arith)) ∙ pass1_keeps F lens ok y s l (λ e. omega arith)
        | inr a ↦ onward-held z1 k (suc y) m s (inr a) ∙ pass1_keeps F lens ok y s l (λ e. omega arith)
      ])

  -- ---------------------------------------------------------------- pass 2

  module _ (z0 : ℕ) (p : List ℕ) where
    pub backward_size : (y : ℕ) (l : List ℕ) → length (backward F z0 p y l).values ≡ length l
    unfolding backward
    backward_size zero l = refl
    backward_size (suc y) l =
        if-ind (λ (o : Redone). length o.values ≡ length l) _ (λ _. from_size F lens ok p y l) (λ _. backward_size y (from_pass1 F p y l) ∙ from_size F lens ok p y l)

    pub backward_to : (y : ℕ) (l : List ℕ) → (backward F z0 p y l).end ≤ y
    unfolding backward
    backward_to zero l = omega arith
    backward_to (suc y) l =
        let r = backward_to y (from_pass1 F p y l) in
        if-ind (λ (o : Redone). o.end ≤ suc y) _ (λ _. omega arith) (λ _. omega arith)

    backward-held : (y : ℕ) (l : List ℕ) (s : ℕ) → (row_of F s < (backward F z0 p y l).end) ⊎ (y ≤ row_of F s) → far (backward F z0 p y l).values s ≡ far l s
    unfolding backward
    backward-held zero l s = λ c. refl
    backward-held (suc y) l s =
        let m = from_pass1 F p y l in
        let n = backward_to y m in
        if-ind (λ (o : Redone). (row_of F s < o.end) ⊎ (suc y ≤ row_of F s) → far o.values s ≡ far l s) (leb y (z0 - 1) and as_stored F y l m)
        (λ _ c. elim c [ inl a ↦ from_keeps F lens ok p y s l (λ e. omega arith) | inr a ↦ from_keeps F lens ok p y s l (λ e. omega arith) ])
        (λ _ c. elim c [
          | inl a ↦ backward-held y m s (inl a) ∙ from_keeps F lens ok p y s l (λ e. omega arith)
          | inr a ↦ backward-held y m s (inr (omega arith)) ∙ from_keeps F lens ok p y s l (λ e. omega arith)
        ])

  -- ---------------------------------------------------------------- the blur

  blur_row_size : (r : List ℕ) (y : ℕ) (l : List ℕ) → length (blur_row F r y l) ≡ length l
  unfolding blur_row
  blur_row_size r y l = up_size F (blur_to F r) (blur_stores F r) y l

  pub blur_rows_size : (r : List ℕ) (v : Rows) (l : List ℕ) → length (blur_rows F r v l) ≡ length l
  unfolding blur_rows
  blur_rows_size r v l = upto-ind (λ k x. length x ≡ length l) _ l _ refl (λ k x h p. blur_row_size r _ x ∙ p)

  pub blur_rows-held : (r : List ℕ) (v : Rows) (l : List ℕ) (s : ℕ) → (row_of F s < v.first) ⊎ (v.last < row_of F s) → far (blur_rows F r v l) s ≡ far l s
  unfolding blur_rows blur_row
  blur_rows-held r v l s c =
      upto-ind (λ k x. far x s ≡ far l s) (λ i. blur_row F r (v.first + i)) l (suc v.last - v.first) refl
      (λ k x h p.
      up_keeps F (blur_to F r) (blur_stores F r) lens ok (v.first + k) s x (λ e. elim c [ inl a ↦ omega arith | inr a ↦ omega arith ])
      ∙ p)

  -- ---------------------------------------------------------------- all of it

  -- as a caller reads it
  read_held : (n : ℕ) (l m : List ℕ) (s : ℕ) → s < n → length l ≡ n → length m ≡ n → far m s ≡ far l s → get_or m s 0 ≡ get_or l s 0
  read_held n l m s h p q e = get_d_any m s 0 65535 (rw q h) ∙ e ∙ get_d_any l s 65535 0 (rw p h)

  module _ (q : Rect) (p r b : List ℕ) (np : length p ≡ spans F) (nr : length r ≡ spans F) (nb : length b ≡ spans F) where
    refreshed-held : Held F (refreshed F q p r b) p r b
    unfolding refreshed redone1 redone2
    refreshed-held =
        record {
          pass1 = λ s h c. read_held (spans F) p (redone1 F q p).values s h np (onward_size q.z1 _ _ p ∙ np) (onward-held q.z1 (F.h - (q.z0 - 1)) (q.z0 - 1) p s c);
          raw = λ s h c. read_held (spans F) r (redone2 F q (redone1 F q p) r).values s h nr (backward_size q.z0 _ _ r ∙ nr)
              (backward-held q.z0 (redone1 F q p).values (suc (redone1 F q p).end) r s c);
          blurred = λ s h c. read_held (spans F) b (blur_rows F _ _ b) s h nb (blur_rows_size _ _ b ∙ nb) (blur_rows-held _ _ b s c);
        }

-- ---------------------------------------------------------------- "All rows are clipped to the field."

module _ (F : Field) (lens : List ℕ) (ok : Passed F lens) where
  onward-within : (z1 k y : ℕ) (l : List ℕ) → y + k ≡ F.h → 0 < F.h → (onward F z1 k y l).end < F.h
  unfolding onward
  onward-within z1 zero y l e h = omega arith
  onward-within z1 (suc k) y l e h = if-ind (λ (o : Redone). o.end < F.h) _ (λ _. omega arith) (λ _. onward-within z1 k (suc y) (pass1_row F y l) (omega arith) h)

  -- pass 2 goes back as far as pass 1 began, or farther
  backward_past : (z0 : ℕ) (p : List ℕ) (y : ℕ) (l : List ℕ) → (backward F z0 p y l).end ≤ z0 - 1
  unfolding backward
  backward_past z0 p zero l = omega arith
  backward_past z0 p (suc y) l =
      if-ind (λ (o : Redone). o.end ≤ z0 - 1) _ (λ t. omega (tests, (both _ _ t).0)) (λ _. backward_past z0 p y (from_pass1 F p y l))

  rows_nested : (q : Rect) (p r b : List ℕ) → q.z0 ≤ q.z1 → q.z1 < F.h → InField F (refreshed F q p r b)
  unfolding refreshed redone1 redone2 one_more
  rows_nested q p r b g h =
      let a = onward-within q.z1 (F.h - (q.z0 - 1)) (q.z0 - 1) p (omega arith) (omega arith) in
      let c = backward_past q.z0 (redone1 F q p).values (suc (redone1 F q p).end) r in
      record { pass1-last = a; pass2-first = c; pass2-last = refl; blur-first = omega arith; blur-last = omega arith; blur_in = omega arith }

pub rows_in_field : (F : Field) (q : Rect) (p r b : List ℕ) → (refresh_outcome F q p r b).refused ≡ 0 → InField F (refresh_outcome F q p r b)
unfolding refresh_outcome
rows_in_field F q p r b =
    if-ind (λ (o : RefreshOutcome). o.refused ≡ 0 → InField F o) (eqb (refresh_refusal F q p r b) 0)
    (λ e _.
    let v = accepted F q p r b (eqb-true _ _ e) in
    let z = rows_in F q v.rect in
    rows_nested F _ (passed F _ v.field) q p r b z.0 z.1)
    (λ e k. absurd (eqb-false _ _ e k))

-- ---------------------------------------------------------------- what rows outside hold

-- of any input: a refused call leaves every list as it was
pub rows_outside_hold : (F : Field) (q : Rect) (p r b : List ℕ) → Held F (refresh_outcome F q p r b) p r b
unfolding refresh_outcome refresh_refusal
rows_outside_hold F q p r b =
    if-ind (λ (o : RefreshOutcome). Held F o p r b) (eqb (refresh_refusal F q p r b) 0)
    (λ e.
    let k : refusal F (length p ∷ length r ∷ length b ∷ []) ≡ 0 = (accepted F q p r b (eqb-true _ _ e)).field in
    let n = three_lengths F (length p) (length r) (length b) k in
    refreshed-held F _ (passed F _ k) q p r b n.0 n.1 n.2)
    (λ _. record { pass1 = λ s h c. refl; raw = λ s h c. refl; blurred = λ s h c. refl })
