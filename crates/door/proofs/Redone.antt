-- Where the stored lists are those of the field before the edit, pass 1, pass 2 and the blur come to those of the field after it.
-- The rows redone are right, since the row beside is; once a row past the edit comes out as stored, all further rows start from what they started from.
use Prim.Native.Nat.{ℕ, zero, suc, ◌+◌, ◌*◌, ◌-◌, ◌≤◌, ◌<◌}
use native.Mathlib.Omega.{arith}
use native.Mathlib.Decide.{dec_lt, ℕ_discrete}
use mathlib.Core.Path.{◌≡◌, refl, sym, ap, ◌∙◌}
use mathlib.Core.Logic.{◌⊎◌, inl, inr}
use mathlib.Core.Bool.{true}
use mathlib.Core.List.{List}
use lib.ListN.{length, get_or}
use lib.Dec.{leb}
use borrow.Author.Tests.{eqb-true, leb-true}
use Rattle.rules.specs.Base.{◌and◌}
use Rattle.rules.specs.Field.{Field, spans, near, corner, con_of, cell_of}
use Rattle.rules.specs.Distance.{start, far, lower, pass1, raw, term, greatest, blur_at, blur}
use Rattle.rules.specs.Rows.{over_cell, column, row_up, row_down, pass1_row, pass2_row, blur_to, blur_row}
use Rattle.rules.specs.Refresh.{Rect, repainted, cell_as_stored, as_stored, Redone, onward, backward, values_row, from_pass1, Rows, one_more, blur_rows, redone1, redone2, refreshed}
use Rattle.laws.proofs.Basics.{both, if-ind, upto-ind, every-at, tab-at, get_d_any}
use Rattle.laws.proofs.Cells.{Passed}
use Rattle.laws.proofs.Lengths.{start-length, pass1-length, raw-length, blur-length}
use Rattle.door.specs.Edit.{row_of, Edited}
use Rattle.door.proofs.Places.{row_in, row_cell, of_cell}
use Rattle.door.proofs.Agree.{blur_stores, up_size, up_keeps, Same, all_same, pass1-same, pass1_alike, from_keeps, from_size, from_same, blur_stored, blur_at-same}
use Rattle.door.proofs.Fixed.{pass1_keeps, pass1_size, pass1_fixed, raw_fixed}
use Rattle.door.proofs.Starts.{start_before, start-after}

-- ---------------------------------------------------------------- a row that comes out as stored

pub as_stored_lem : (F : Field) (lens : List ℕ) → Passed F lens → (y : ℕ) (l m : List ℕ) → length l ≡ spans F → length m ≡ spans F → as_stored F y l m ≡ true
    → (s : ℕ) → s < spans F → row_of F s ≡ y → far m s ≡ far l s
unfolding as_stored cell_as_stored
as_stored_lem F lens ok y l m p q e s h r =
    let v = row_cell F lens ok y s h r in
    let x = cell_of F.count s - F.w * y in
    let c : F.w * y + x ≡ cell_of F.count s = omega arith in
    let j = s - get_or F.index (F.w * y + x) 0 in
    let o = of_cell F lens ok (F.w * y + x) s h (sym c) in
    let i : get_or F.index (F.w * y + x) 0 + j ≡ s = omega arith in
    let a : get_or m (get_or F.index (F.w * y + x) 0 + j) 0 ≡ get_or l (get_or F.index (F.w * y + x) 0 + j) 0 = eqb-true _ _ (every-at _ _ (every-at F.w _ e x (omega arith)) j (omega arith)) in
    let z : get_or m s 0 ≡ get_or l s 0 = rw i at a in
    get_d_any m s 65535 0 (rw q h) ∙ z ∙ get_d_any l s 0 65535 (rw p h)

-- ---------------------------------------------------------------- before and after an edit

module _ (F : Field) (lens : List ℕ) (ok : Passed F lens) (q : Rect) (area : List ℕ) (edit : Edited F q area) (lens' : List ℕ) (ok' : Passed (repainted F area) lens') where
  abbrev G : Field
  G = repainted F area

  -- pass 1 and raw before, and after
  abbrev P : List ℕ
  P = pass1 F (start F)

  abbrev P' : List ℕ
  P' = pass1 G (start G)

  abbrev R : List ℕ
  R = raw F

  abbrev R' : List ℕ
  R' = raw G

  P_size : length P ≡ spans F
  P_size = pass1-length F (start F) ∙ start-length F

  P'_size : length P' ≡ spans F
  P'_size = pass1-length G (start G) ∙ start-length G ∙ edit.size

  R'_size : length R' ≡ spans F
  R'_size = raw-length G ∙ edit.size

  -- a span of the field after is one of the field before
  there : (s : ℕ) → s < spans F → s < spans G
  there s h = omega (arith, edit.size)

  -- the two lists hold the same in row y
  abbrev In-row : ℕ → List ℕ → List ℕ → Type 0
  In-row y l m = (s : ℕ) → s < spans F → row_of F s ≡ y → far l s ≡ far m s

  -- ---------------------------------------------------------------- pass 1

  -- rows whose spans start as before, after a row that is as before
  same_row : (y : ℕ) → y < F.h → ((s : ℕ) → s < spans F → row_of F s ≡ y → (suc (row_of F s) < q.z0) ⊎ (suc q.z1 < row_of F s))
      → ((s : ℕ) → s < spans F → suc (row_of F s) ≡ y → far P s ≡ far P' s) → In-row y P P'
  same_row y h out v s i r =
      sym (pass1_fixed F lens ok y h s i r)
      ∙ pass1_alike F lens ok area y (λ t j e. elim (out t j e) [ inl a ↦ start_before F lens ok q area edit t j a | inr a ↦ start-after F lens ok q area edit t j a ])
      P P' P_size P'_size v s i r
      ∙ pass1_fixed G lens' ok' y h s (there s i) r

  -- the rows before the one before the rectangle
  head-same : (y : ℕ) → y ≤ q.z0 - 1 → Same F 0 y P P'
  head-same zero g s i a b = absurd (omega arith)
  head-same (suc y) g s i a b =
      elim (dec_lt (row_of F s) y) [
        | yes d ↦ head-same y (omega arith) s i a d
        | no d ↦
            same_row y (omega (arith, row_in F lens ok s i)) (λ t j e. inl (omega arith)) (λ t j e. head-same y (omega arith) t j (omega arith) (omega arith))
            s i (omega arith)
      ]

  -- all rows from row y on, if row y is the same and the edit is before it
  tail-same : (y n : ℕ) → q.z1 < y → In-row y P P' → y ≤ n → In-row n P P'
  tail-same y zero g v h s i r = v s i (omega arith)
  tail-same y (suc n) g v h s i r =
      elim (ℕ_discrete y (suc n)) [
        | yes e ↦ v s i (omega arith)
        | no e ↦
            same_row (suc n) (omega (arith, row_in F lens ok s i)) (λ t j z. inr (omega arith)) (λ t j z. tail-same y n g v (omega arith) t j (omega arith)) s i r
      ]

  -- rows before y are redone, the others are stored
  record Between (y : ℕ) (l : List ℕ) : Type 0 where
    size : length l ≡ spans F
    done : Same F 0 y l P'
    todo : Same F y F.h l P

  -- all of pass 1 is done, and the rows after its last are as they were
  record Pass1-done (o : Redone) : Type 0 where
    values : o.values ≡ P'
    rest : Same F (suc o.end) F.h P P'
    low : o.end < F.h

  between_next : (y : ℕ) (l : List ℕ) → y < F.h → Between y l → Between (suc y) (pass1_row G y l)
  between_next y l h v =
      record {
        size = pass1_size G lens' ok' y l ∙ v.size;
        done = λ s i a b.
            elim (ℕ_discrete (row_of F s) y) [
              | yes e ↦
                  pass1-same G lens' ok' y l P' (v.size ∙ sym edit.size) (P'_size ∙ sym edit.size)
                  (λ t j z. v.done t (omega (arith, edit.size)) (omega arith) (omega arith)) s (there s i) e
                  ∙ pass1_fixed G lens' ok' y h s (there s i) e
              | no e ↦ pass1_keeps G lens' ok' y s l e ∙ v.done s i a (omega arith)
            ];
        todo = λ s i a b. pass1_keeps G lens' ok' y s l (λ e. omega arith) ∙ v.todo s i (omega arith) b;
      }

  onward_done : (k y : ℕ) (l : List ℕ) → y + k ≡ F.h → 0 < F.h → Between y l → Pass1-done (onward G q.z1 k y l)
  unfolding onward
  onward_done zero y l e p v =
      record {
        values = all_same F lens ok l P' v.size P'_size (λ s i a b. v.done s i a (omega arith));
        rest = λ s i a b. absurd (omega arith);
        low = omega arith;
      }
  onward_done (suc k) y l e p v =
      let m = pass1_row G y l in
      let u = between_next y l (omega arith) v in
      if-ind Pass1-done (leb (q.z1 + 1) y and as_stored G y l m)
      (λ t.
      let w = both _ _ t in
      let g : q.z1 + 1 ≤ y = leb-true _ _ w.0 in
      let row : In-row y P P' = λ s i r.
      sym (v.todo s i (omega arith) (row_in F lens ok s i))
      ∙ sym (as_stored_lem G lens' ok' y l m (v.size ∙ sym edit.size) (u.size ∙ sym edit.size) w.1 s (there s i) r)
      ∙ u.done s i (omega arith) (omega arith) in
      let rest : Same F (suc y) F.h P P' = λ s i a b. tail-same y (row_of F s) (omega arith) row (omega arith) s i refl in
      record {
        values = all_same F lens ok m P' u.size P'_size
            (λ s i a b. elim (dec_lt (row_of F s) (suc y)) [ yes d ↦ u.done s i a d | no d ↦ u.todo s i (omega arith) b ∙ rest s i (omega arith) b ]);
        rest = rest;
        low = omega arith;
      })
      (λ _. onward_done k (suc y) m (omega arith) p u)

  -- ---------------------------------------------------------------- pass 2

  -- the areas are not looked at
  from_repainted : (p : List ℕ) (y : ℕ) (l : List ℕ) → from_pass1 F p y l ≡ from_pass1 G p y l
  unfolding from_pass1 values_row pass2_row row_down row_up column over_cell lower near con_of
  from_repainted p y l = refl

  -- a row whose pass 1 values are as before, above a row that is as before
  same_row2 : (y : ℕ) → y < F.h → In-row y P P' → In-row (suc y) R R' → In-row y R R'
  same_row2 y h u v s i r =
      sym (raw_fixed F lens ok y h s i r)
      ∙ from_same F lens ok P P' y R R' P_size P'_size (raw-length F) R'_size
      (λ t j a b. u t j (omega arith)) (λ t j a b. v t j (omega arith)) s i (omega arith) (omega arith)
      ∙ ap (λ (l : List ℕ). far l s) (from_repainted P' y R')
      ∙ raw_fixed G lens' ok' y h s (there s i) r

  -- rows y to b, b not included, if their pass 1 values are as before and row b is
  descends : (k y b : ℕ) → y + k ≡ b → b ≤ F.h → Same F y b P P' → In-row b R R' → Same F y b R R'
  descends zero y b e g u v s i a c = absurd (omega arith)
  descends (suc k) y b e g u v s i a c =
      elim (ℕ_discrete (row_of F s) y) [
        | no z ↦ descends k (suc y) b (omega arith) g (λ t j f h. u t j (omega arith) h) v s i (omega arith) c
        | yes z ↦
            same_row2 y (omega arith) (λ t j r. u t j (omega arith) (omega arith))
            (λ t j r. elim (dec_lt (suc y) b) [ yes d ↦ descends k (suc y) b (omega arith) g (λ t j f h. u t j (omega arith) h) v t j (omega arith) (omega arith) | no d ↦ v t j (omega arith) ])
            s i z
      ]

  -- rows from y on are redone, the others are stored
  record Between2 (y : ℕ) (l : List ℕ) : Type 0 where
    size : length l ≡ spans F
    done : Same F y F.h l R'
    todo : Same F 0 y l R

  -- all of pass 2 is done, and the rows before its last are as they were
  record Pass2-done (o : Redone) : Type 0 where
    values : o.values ≡ R'
    rest : Same F 0 o.end R R'

  between2_next : (y : ℕ) (l : List ℕ) → y < F.h → Between2 (suc y) l → Between2 y (from_pass1 G P' y l)
  between2_next y l h v =
      let n : length P' ≡ spans G = P'_size ∙ sym edit.size in
      record {
        size = from_size G lens' ok' P' y l ∙ v.size;
        done = λ s i a b.
            elim (ℕ_discrete (row_of F s) y) [
              | yes e ↦
                  from_same G lens' ok' P' P' y l R' n n (v.size ∙ sym edit.size) (raw-length G)
                  (λ t j c d. refl) (λ t j c d. v.done t (omega (arith, edit.size)) c (row_in G lens' ok' t j)) s (there s i) (omega arith) (omega arith)
                  ∙ raw_fixed G lens' ok' y h s (there s i) e
              | no e ↦ from_keeps G lens' ok' P' y s l e ∙ v.done s i (omega arith) b
            ];
        todo = λ s i a b. from_keeps G lens' ok' P' y s l (λ e. omega arith) ∙ v.todo s i a (omega arith);
      }

  backward_done : (y : ℕ) (l : List ℕ) → y ≤ F.h → Between2 y l → Pass2-done (backward G q.z0 P' y l)
  unfolding backward
  backward_done zero l g v =
      record { values = all_same F lens ok l R' v.size R'_size (λ s i a b. v.done s i a b); rest = λ s i a b. absurd (omega arith) }
  backward_done (suc y) l g v =
      let m = from_pass1 G P' y l in
      let u = between2_next y l g v in
      if-ind Pass2-done (leb y (q.z0 - 1) and as_stored G y l m)
      (λ t.
      let w = both _ _ t in
      let b : y ≤ q.z0 - 1 = leb-true _ _ w.0 in
      let row : In-row y R R' = λ s i r.
      sym (v.todo s i (omega arith) (omega arith))
      ∙ sym (as_stored_lem G lens' ok' y l m (v.size ∙ sym edit.size) (u.size ∙ sym edit.size) w.1 s (there s i) r)
      ∙ u.done s i (omega arith) (row_in F lens ok s i) in
      let rest : Same F 0 y R R' = descends y 0 y (omega arith) (omega arith) (head-same y b) row in
      record {
        values = all_same F lens ok m R' u.size R'_size
            (λ s i a c. elim (dec_lt (row_of F s) y) [ yes d ↦ u.todo s i a d ∙ rest s i a d | no d ↦ u.done s i (omega arith) c ]);
        rest = rest;
      })
      (λ _. backward_done y m (omega arith) u)

  -- ---------------------------------------------------------------- the blur

  blur_at-repainted : (l : List ℕ) (s : ℕ) → blur_at F l s ≡ blur_at G l s
  unfolding blur_at term corner near con_of
  blur_at-repainted l s = refl

  -- raw before and after differ in rows a to b alone
  module _ (a b : ℕ) (bh : b < F.h) (lower_rows : Same F 0 a R R') (upper_rows : Same F (suc b) F.h R R') where
    abbrev rows : Rows
    rows = one_more G (record { first = a; last = b })

    -- k rows are blurred
    record Blurring (k : ℕ) (m : List ℕ) : Type 0 where
      size : length m ≡ spans F
      done : (s : ℕ) → s < spans F → rows.first ≤ row_of F s → row_of F s < rows.first + k → far m s ≡ blur_at G R' s
      held : (s : ℕ) → s < spans F → (row_of F s < rows.first) ⊎ (rows.first + k ≤ row_of F s) → far m s ≡ far (blur F R) s

    blurring_next : (k : ℕ) (m : List ℕ) → Blurring k m → Blurring (suc k) (blur_row G R' (rows.first + k) m)
    unfolding blur_row
    blurring_next k m v =
        let y = rows.first + k in
        let keeps : (s : ℕ) → (row_of F s ≡ y → ⊥) → far (row_up G (blur_to G R') y m) s ≡ far m s = λ s n. up_keeps G (blur_to G R') (blur_stores G R') lens' ok' y s m n in
        record {
          size = up_size G (blur_to G R') (blur_stores G R') y m ∙ v.size;
          done = λ s i c d.
              elim (ℕ_discrete (row_of F s) y) [ yes e ↦ blur_stored G lens' ok' R' y m (v.size ∙ sym edit.size) s (there s i) e | no e ↦ keeps s e ∙ v.done s i c (omega arith) ];
          held = λ s i c. elim c [ inl d ↦ keeps s (λ e. omega arith) ∙ v.held s i (inl d) | inr d ↦ keeps s (λ e. omega arith) ∙ v.held s i (inr (omega arith)) ];
        }

    -- rows that are not blurred again are right
    not_blurred : (s : ℕ) → s < spans F → (row_of F s < rows.first) ⊎ (rows.last < row_of F s) → far (blur F R) s ≡ blur_at G R' s
    unfolding blur one_more
    not_blurred s i c =
        let z : 0 + s ≡ s = omega arith in
        tab-at (spans F) 0 (blur_at F R) s 65535 i
        ∙ ap (blur_at F R) z
        ∙ blur_at-same F lens ok R R' (raw-length F) R'_size s i
        (λ t j d e. elim c [ inl f ↦ lower_rows t j (omega arith) (omega arith) | inr f ↦ upper_rows t j (omega (arith, row_in F lens ok s i)) (row_in F lens ok t j) ])
        ∙ blur_at-repainted R' s

    blurred_done : blur_rows G R' rows (blur F R) ≡ blur G R'
    unfolding blur_rows blur one_more
    blurred_done =
        let n = suc rows.last - rows.first in
        let v : Blurring n (blur_rows G R' rows (blur F R)) = upto-ind Blurring (λ i. blur_row G R' (rows.first + i)) (blur F R) n
        (record { size = blur-length F R; done = λ s i c d. absurd (omega arith); held = λ s i c. refl }) (λ k m h u. blurring_next k m u) in
        all_same F lens ok (blur_rows G R' rows (blur F R)) (blur G R') v.size (blur-length G R' ∙ edit.size)
        (λ s i c d.
        let z : 0 + s ≡ s = omega arith in
        let right : blur_at G R' s ≡ far (blur G R') s = sym (tab-at (spans G) 0 (blur_at G R') s 65535 (there s i) ∙ ap (blur_at G R') z) in
        elim (dec_lt (row_of F s) rows.first) [
          | yes e ↦ v.held s i (inl e) ∙ not_blurred s i (inl e) ∙ right
          | no e ↦ elim (dec_lt rows.last (row_of F s)) [
            | yes f ↦ v.held s i (inr (omega arith)) ∙ not_blurred s i (inr f) ∙ right
            | no f ↦ v.done s i (omega arith) (omega arith) ∙ right
          ]
        ])

  -- ---------------------------------------------------------------- all of it

  pass2_done : (v : List ℕ) (e : ℕ) → v ≡ P' → e < F.h → Same F (suc e) F.h P P' → Pass2-done (backward G q.z0 v (suc e) R)
  pass2_done v e z h u =
      rw z
      (backward_done (suc e) R h
      (record {
        size = raw-length F;
        done = descends (F.h - suc e) (suc e) F.h (omega arith) (omega arith) u (λ s i r. absurd (omega (arith, row_in F lens ok s i)));
        todo = λ s i a b. refl;
      }))

  blur_done : (v : List ℕ) (a b : ℕ) → v ≡ R' → b < F.h → Same F 0 a R R' → Same F (suc b) F.h R R' → blur_rows G v (one_more G (record { first = a; last = b })) (blur F R) ≡ blur G R'
  blur_done v a b z h u w = rw z (blurred_done a b h u w)

  module _ (z0_low : q.z0 ≤ q.z1) (z1_in : q.z1 < F.h) where
    one_done : Pass1-done (redone1 G q P)
    unfolding redone1
    one_done =
        onward_done (F.h - (q.z0 - 1)) (q.z0 - 1) P (omega arith) (omega arith)
        (record { size = P_size; done = head-same (q.z0 - 1) (omega arith); todo = λ s i a b. refl })

    two_done : Pass2-done (redone2 G q (redone1 G q P) R)
    unfolding redone2
    two_done = pass2_done (redone1 G q P).values (redone1 G q P).end one_done.values one_done.low one_done.rest

    rest2 : Same F (suc (redone1 G q P).end) F.h R R'
    rest2 =
        descends (F.h - suc (redone1 G q P).end) (suc (redone1 G q P).end) F.h (omega (arith, one_done.low)) (omega arith) one_done.rest
        (λ s i r. absurd (omega (arith, row_in F lens ok s i)))

    pub refreshed-pass1 : (refreshed G q P R (blur F R)).pass1 ≡ P'
    unfolding refreshed
    refreshed-pass1 = one_done.values

    pub refreshed-raw : (refreshed G q P R (blur F R)).raw ≡ R'
    unfolding refreshed
    refreshed-raw = two_done.values

    pub refreshed_blurred : (refreshed G q P R (blur F R)).blurred ≡ blur G R'
    unfolding refreshed
    refreshed_blurred =
        blur_done (redone2 G q (redone1 G q P) R).values (redone2 G q (redone1 G q P) R).end (redone1 G q P).end two_done.values one_done.low two_done.rest rest2

    pub refreshed_most : (refreshed G q P R (blur F R)).most ≡ greatest R'
    unfolding refreshed
    refreshed_most = ap greatest two_done.values
