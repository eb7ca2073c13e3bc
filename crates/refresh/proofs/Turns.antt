-- Rows redone, as the loops over them have it: the row as a part of the list, values that stay at most 510, and what is left to do after a row.
-- A row's spans are its part, and no row but its own is stored to. Assumes nothing.
use Prim.Native.Nat.{ℕ, suc, ◌+◌, ◌*◌, ◌-◌, ◌/◌, ◌≤◌, ◌<◌}
use native.Mathlib.Omega.{arith}
use native.Mathlib.Nat.{mul-suc}
use native.Mathlib.Numerals.{add-one}
use native.Mathlib.Decide.{dec_lt, ℕ_discrete}
use mathlib.Core.Path.{◌≡◌, refl, sym, ap, ◌∙◌}
use mathlib.Core.Logic.{◌⊎◌, inl, inr}
use mathlib.Core.Bool.{Bool, true, false}
use mathlib.Core.List.{List, []}
use lib.ListN.{length, get_or, set, length-set}
use lib.Seq.{ext_get_or, get_or-set_same, get_or-set_other}
use lib.Dec.{eqb, leb}
use borrow.Author.Tests.{eq-eqb, le-leb}
use Rattle.rules.specs.Base.{◌and◌, when◌then◌else◌, upto}
use Rattle.rules.specs.Field.{Field, spans, cell_of}
use Rattle.rules.specs.Distance.{far}
use Rattle.rules.specs.Rows.{downto, pass1_row, pass2_row, blur_row}
use Rattle.rules.specs.Refresh.{cell_as_stored, as_stored, Redone, onward, backward, value_to, values_row, from_pass1, blur_rows}
use Rattle.laws.proofs.Basics.{and_no, same_test, every-at, every_all, upto-ind, get_d_any}
use Rattle.laws.proofs.Cells.{passed}
use Rattle.meaning.proofs.Places.{layer_in}
use Rattle.field.specs.Lent.{lent, Sound}
use Rattle.field.proofs.Loops.{every_ext}
use Rattle.distance.specs.Value.{Low, LowBefore}
use Rattle.door.specs.Edit.{row_of}
use Rattle.door.proofs.Places.{row_is, layer_cell, row_cell}
use Rattle.door.proofs.Agree.{value_stores, up_size, up_keeps, values_stored}
use Rattle.door.proofs.Fixed.{pass1_keeps}
use Rattle.door.proofs.Redone.{as_stored_lem}
use Rattle.refresh.specs.Part.{RowPart, part_to, same_part}
use Rattle.refresh.specs.Redo.{redone, pass1_rows, pass2_rows, blur_till, Kept}

-- ---------------------------------------------------------------- a part that is a row

-- what a part holds that was copied
module _ (p l : List ℕ) (a b : ℕ) (np : b ≤ length p) (nl : b ≤ length l) where
  record Copied (k : ℕ) (m : List ℕ) : Type 0 where
    size : length m ≡ length l
    part : (s : ℕ) → a ≤ s → s < a + k → far m s ≡ get_or p s 0
    rest : (s : ℕ) → (s < a) ⊎ (a + k ≤ s) → far m s ≡ far l s

  copied : a ≤ b → Copied (b - a) (part_to p a b l)
  unfolding part_to value_to
  copied h =
      upto-ind Copied (λ i m. set m (a + i) (get_or p (a + i) 0)) l (b - a)
      (record { size = refl; part = λ s i j. absurd (omega arith); rest = λ s i. refl })
      (λ k m g v.
      let j : a + k < length m = omega (arith, v.size) in
      record {
        size = length-set m (a + k) _ ∙ v.size;
        part = λ s c d. elim (ℕ_discrete s (a + k)) [ yes e ↦ rw e (get_or-set_same m (a + k) _ 65535 j) | no e ↦ get_or-set_other m (a + k) s _ 65535 e ∙ v.part s c (omega arith) ];
        rest = λ s c. elim c [ inl d ↦ get_or-set_other m (a + k) s _ 65535 (λ e. omega arith) ∙ v.rest s (inl d) | inr d ↦ get_or-set_other m (a + k) s _ 65535 (λ e. omega arith) ∙ v.rest s (inr (omega arith)) ];
      })

pub part_size : (p l : List ℕ) (a b : ℕ) → length (part_to p a b l) ≡ length l
unfolding part_to value_to
part_size p l a b = upto-ind (λ k m. length m ≡ length l) _ l (b - a) refl (λ k m h e. length-set m (a + k) _ ∙ e)

-- a whole list
pub whole_copied : (p l : List ℕ) (n : ℕ) → length p ≡ n → length l ≡ n → part_to p 0 n l ≡ p
whole_copied p l n np nl =
    let v = copied p l 0 n (omega arith) (omega arith) (omega arith) in
    ext_get_or 65535 (part_to p 0 n l) p (v.size ∙ nl ∙ sym np) (λ s h. v.part s (omega arith) (omega (arith, v.size)) ∙ get_d_any p s 0 65535 (omega (arith, v.size)))

-- a part that was kept is compared as the list that it is of
pub kept_same : (p l m : List ℕ) (a b : ℕ) → a ≤ b → b ≤ length p → b ≤ length l → same_part (part_to p a b l) m a b ≡ same_part p m a b
unfolding same_part
kept_same p l m a b h np nl =
    let v = copied p l a b np nl h in
    every_ext (b - a) _ _
    (λ i g.
    let e : get_or (part_to p a b l) (a + i) 0 ≡ get_or p (a + i) 0 = get_d_any (part_to p a b l) (a + i) 0 65535 (omega (arith, v.size)) ∙ v.part (a + i) (omega arith) (omega arith) in
    ap (λ (x : ℕ). eqb (get_or m (a + i) 0) x) e)

module _ (F : Field) (ok : Sound F) (y a b : ℕ) (part : RowPart F y a b) where
  pub row_copied : (p l : List ℕ) → length p ≡ spans F → length l ≡ spans F → part_to p a b l ≡ values_row F p y l
  unfolding values_row
  row_copied p l np nl =
      let v = copied p l a b (omega (arith, part.within)) (omega (arith, part.within)) part.order in
      let o = passed F [] ok in
      ext_get_or 65535 (part_to p a b l) (values_row F p y l) (v.size ∙ sym (up_size F (value_to p) (value_stores p) y l))
      (λ s i.
      let h : s < spans F = omega (arith, v.size) in
      elim (ℕ_discrete (row_of F s) y) [
        | yes e ↦
            let w = part.whole s h e in
            v.part s w.0 (omega arith) ∙ get_d_any p s 0 65535 (omega arith) ∙ sym (values_stored F [] o p y l np nl s h e)
        | no e ↦ v.rest s (elim (dec_lt s a) [
          | yes c ↦ inl c
          | no c ↦ inr (elim (dec_lt s b) [ yes d ↦ absurd (e (part.inside s (omega arith) d)) | no d ↦ omega arith ])
        ]) ∙ sym (up_keeps F (value_to p) (value_stores p) [] o y s l e)
      ])

  pub row_compared : (l m : List ℕ) → length l ≡ spans F → length m ≡ spans F → same_part l m a b ≡ as_stored F y l m
  unfolding same_part as_stored cell_as_stored
  row_compared l m nl nm =
      let o = passed F [] ok in
      same_test (same_part l m a b) (as_stored F y l m)
      (λ e.
      every_all F.w _ (λ x h.
      every_all (get_or F.count (F.w * y + x) 0) _ (λ j g.
      let c = F.w * y + x in
      let s = get_or F.index c 0 + j in
      let r : row_of F s ≡ y = ap (λ (z : ℕ). z / F.w) (layer_cell F [] o c j g) ∙ row_is F.w y x h in
      let w = part.whole s (layer_in F [] o c j g) r in
      let q : a + (s - a) ≡ s = omega arith in
      let t : eqb (get_or m (a + (s - a)) 0) (get_or l (a + (s - a)) 0) ≡ true = every-at (b - a) (λ i. eqb (get_or m (a + i) 0) (get_or l (a + i) 0)) e (s - a) (omega arith) in
      rw q at t)))
      (λ e.
      every_all (b - a) _ (λ i g.
      let s = a + i in
      let h : s < spans F = omega (arith, part.within) in
      let r = part.inside s (omega arith) (omega arith) in
      let t : far m s ≡ far l s = as_stored_lem F [] o y l m nl nm e s h r in
      eq-eqb _ _ (get_d_any m s 0 65535 (omega arith) ∙ t ∙ get_d_any l s 65535 0 (omega arith))))

-- ---------------------------------------------------------------- one row, as the code has it

module _ (F : Field) (y a b : ℕ) (part : RowPart F y a b) where
  pub part_order : a ≤ b
  part_order = part.order

  pub part_in : (l : List ℕ) → length l ≡ spans F → b ≤ length l
  part_in l n = omega (arith, part.within)

  pub part_low : (l : List ℕ) → Low F l → b ≤ length l
  part_low l v = omega (arith, part.within, v.size)

  pub part_before : (c : ℕ) (l : List ℕ) → LowBefore F c l → b ≤ length l
  part_before c l v = omega (arith, part.within, v.size)

  pub part_kept : (p l m : List ℕ) → length l ≡ spans F → m ≡ part_to p a b l → b ≤ length m
  part_kept p l m n e = rw e (omega (arith, part.within, part_size p l a b))

  module _ (ok : Sound F) (p k k' : List ℕ) (np : Low F p) (nk : length k ≡ spans F) (e : k' ≡ part_to p a b k) where
    pub redo_same : (p' : List ℕ) (r : Bool) → Low F p' → r ≡ same_part k' p' a b → r ≡ as_stored F y p p'
    redo_same p' r n q =
        q ∙ ap (λ (x : List ℕ). same_part x p' a b) e ∙ kept_same p k p' a b part.order (omega (arith, part.within, np.size)) (omega (arith, part.within))
        ∙ row_compared F ok y a b part p p' np.size n.size

    pub redo_kept : Kept F y (y + 1) k k'
    redo_kept =
        let v = copied p k a b (omega (arith, part.within, np.size)) (omega (arith, part.within)) part.order in
        rw e
        (record {
          size = v.size;
          held = λ s h c. v.rest s (elim (dec_lt s a) [
            | yes d ↦ inl d
            | no d ↦ inr (elim (dec_lt s b) [
              | yes g ↦ let r = part.inside s (omega arith) g in absurd (elim c [ inl f ↦ omega arith | inr f ↦ omega arith ])
              | no g ↦ omega arith
            ])
          ]);
        })

  -- pass 2 from pass 1
  module _ (ok : Sound F) (p l m : List ℕ) (np : Low F p) (nl : Low F l) (e : m ≡ part_to p a b l) where
    pub from_row : (n : List ℕ) → n ≡ pass2_row F y m → n ≡ from_pass1 F p y l
    unfolding from_pass1
    from_row n q = q ∙ ap (pass2_row F y) (e ∙ row_copied F ok y a b part p l np.size nl.size)

    pub from_low : Low F m
    from_low =
        let v = copied p l a b (omega (arith, part.within, np.size)) (omega (arith, part.within, nl.size)) part.order in
        rw e
        (record {
          size = v.size ∙ nl.size;
          low = λ s h. elim (dec_lt s a) [
            | yes c ↦ rw (v.rest s (inl c)) (nl.low s h)
            | no c ↦ elim (dec_lt s b) [
              | yes d ↦ rw (v.part s (omega arith) (omega arith) ∙ get_d_any p s 0 65535 (omega (arith, np.size))) (np.low s h)
              | no d ↦ rw (v.rest s (inr (omega arith))) (nl.low s h)
            ]
          ];
        })

-- a row of pass 1 leaves every value at most 510
pub pass1_low : (F : Field) → Sound F → (y : ℕ) (l m : List ℕ) → Low F l → m ≡ pass1_row F y l → LowBefore F (F.w * (y + 1)) m → Low F m
pass1_low F ok y l m v e u =
    record {
      size = u.size;
      low = λ s h. elim (dec_lt (cell_of F.count s) (F.w * (y + 1))) [
        | yes c ↦ u.low s h c
        | no c ↦
            let q : F.w * (y + 1) ≡ F.w * y + F.w = rw add-one (mul-suc F.w y) in
            rw (ap (λ (x : List ℕ). far x s) e ∙ pass1_keeps F [] (passed F [] ok) y s l (λ r. omega (arith, row_cell F [] (passed F [] ok) y s h r))) (v.low s h)
      ];
    }

-- ---------------------------------------------------------------- rows that are redone whatever they come to

module _ (F : Field) (a y : ℕ) (l m n : List ℕ) (h : a ≤ y) (e : m ≡ pass1_rows F a y l) where
  pub pass1_go : n ≡ pass1_row F y m → n ≡ pass1_rows F a (y + 1) l
  unfolding pass1_rows upto
  pass1_go g =
      let q : y + 1 - a ≡ suc (y - a) = omega arith in
      let r : a + (y - a) ≡ y = omega arith in
      rw (q, r, ← e) g

pub pass1-first : (F : Field) (a : ℕ) (l : List ℕ) → l ≡ pass1_rows F a a l
unfolding pass1_rows upto
pass1-first F a l = let q : a - a ≡ 0 = omega arith in rw q

pub pass1-last : (F : Field) (a b y : ℕ) (l m : List ℕ) → y ≤ b → b ≤ y → m ≡ pass1_rows F a y l → m ≡ pass1_rows F a b l
pass1-last F a b y l m h g e = let q : b ≡ y = omega arith in rw q e

module _ (F : Field) (p : List ℕ) (a y : ℕ) (z l m : List ℕ) where
  pub pass2_go : a < y → z ≡ pass2_rows F p a y l → m ≡ from_pass1 F p (y - 1) l → z ≡ pass2_rows F p a (y - 1) m
  unfolding pass2_rows downto
  pass2_go h e g =
      let k = y - 1 - a in
      let q : y - a ≡ suc k = omega arith in
      let r : a + k ≡ y - 1 = omega arith in
      e ∙ ap (λ (n : ℕ). downto n (λ i. from_pass1 F p (a + i)) l) q ∙ ap (downto k (λ i. from_pass1 F p (a + i))) (ap (λ (n : ℕ). from_pass1 F p n l) r ∙ sym g)

  pub pass2-last : y ≤ a → z ≡ pass2_rows F p a y l → l ≡ z
  unfolding pass2_rows downto
  pass2-last h e = let q : y - a ≡ 0 = omega arith in sym (rw q at e)

module _ (F : Field) (r : List ℕ) (a y : ℕ) (l m n : List ℕ) (h : a ≤ y) (e : m ≡ blur_till F r a y l) where
  pub blur_go : n ≡ blur_row F r y m → n ≡ blur_till F r a (y + 1) l
  unfolding blur_till upto
  blur_go g =
      let q : y + 1 - a ≡ suc (y - a) = omega arith in
      let z : a + (y - a) ≡ y = omega arith in
      rw (q, z, ← e) g

pub blur-first : (F : Field) (r : List ℕ) (a : ℕ) (l : List ℕ) → l ≡ blur_till F r a a l
unfolding blur_till upto
blur-first F r a l = let q : a - a ≡ 0 = omega arith in rw q

pub blur-last : (F : Field) (r : List ℕ) (a b y : ℕ) (l m : List ℕ) → y ≤ b + 1 → b + 1 ≤ y → m ≡ blur_till F r a y l → m ≡ blur_rows F r (record { first = a; last = b }) l
unfolding blur_till blur_rows
blur-last F r a b y l m h g e = let q : suc b ≡ y = omega arith in rw q e

-- ---------------------------------------------------------------- rows until one comes out as stored

onward-step : (F : Field) (z1 k y : ℕ) (l : List ℕ) → onward F z1 (suc k) y l
    ≡ (when leb (z1 + 1) y and as_stored F y l (pass1_row F y l) then redone (pass1_row F y l) y else onward F z1 k (suc y) (pass1_row F y l))
unfolding onward
onward-step F z1 k y l = refl

module _ (F : Field) (z1 y : ℕ) (z : Redone) (l m : List ℕ) (e : z ≡ onward F z1 (F.h - y) y l) where
  module _ (h : y < F.h) (g : m ≡ pass1_row F y l) (t : Bool) (f : t ≡ as_stored F y l m) where
    one-turn : z ≡ (when leb (z1 + 1) y and as_stored F y l m then redone m y else onward F z1 (F.h - (y + 1)) (y + 1) m)
    one-turn =
        let k = F.h - (y + 1) in
        let q : F.h - y ≡ suc k = omega arith in
        let r : suc y ≡ y + 1 = omega arith in
        rw g
        (e ∙ ap (λ (n : ℕ). onward F z1 n y l) q ∙ onward-step F z1 k y l
        ∙ ap (λ (n : ℕ). when leb (z1 + 1) y and as_stored F y l (pass1_row F y l) then redone (pass1_row F y l) y else onward F z1 k n (pass1_row F y l)) r)

    pub onward_go : t ≡ false → z ≡ onward F z1 (F.h - (y + 1)) (y + 1) m
    unfolding when◌then◌else◌ ◌and◌
    onward_go c = let s : as_stored F y l m ≡ false = sym f ∙ c in rw (and_no (leb (z1 + 1) y)) at (rw s at one-turn)

    pub onward_stop : z1 + 1 ≤ y → t ≡ true → redone m y ≡ z
    unfolding when◌then◌else◌ ◌and◌
    onward_stop b c = let s : as_stored F y l m ≡ true = sym f ∙ c in sym (rw (le-leb (z1 + 1) y b, s) at one-turn)

pub onward-end : (w h : ℕ) (is ks ar cs : List ℕ) (z1 y : ℕ) (z : Redone) (l : List ℕ) → z ≡ onward (lent w h is ks ar cs) z1 (h - y) y l → h ≤ y → y ≤ h → redone l (h - 1) ≡ z
unfolding onward
onward-end w h is ks ar cs z1 y z l e i j =
    let q : h - y ≡ 0 = omega arith in
    let r : y ≡ h = omega arith in
    let x : z ≡ redone l (y - 1) = e ∙ ap (λ (n : ℕ). onward (lent w h is ks ar cs) z1 n y l) q in
    sym (x ∙ ap (λ (n : ℕ). redone l (n - 1)) r)

module _ (F : Field) (z0 : ℕ) (p : List ℕ) (y : ℕ) (z : Redone) (l m : List ℕ) (e : z ≡ backward F z0 p y l) where
  module _ (h : 0 < y) (g : m ≡ from_pass1 F p (y - 1) l) (t : Bool) (f : t ≡ as_stored F (y - 1) l m) where
    one-back : z ≡ (when leb (y - 1) (z0 - 1) and as_stored F (y - 1) l m then redone m (y - 1) else backward F z0 p (y - 1) m)
    unfolding backward
    one-back = let q : y ≡ suc (y - 1) = omega arith in rw g (rw q at e)

    pub backward_go : t ≡ false → z ≡ backward F z0 p (y - 1) m
    unfolding when◌then◌else◌ ◌and◌
    backward_go c = let s : as_stored F (y - 1) l m ≡ false = sym f ∙ c in rw (and_no (leb (y - 1) (z0 - 1))) at (rw s at one-back)

    pub backward_stop : y ≤ z0 → t ≡ true → redone m (y - 1) ≡ z
    unfolding when◌then◌else◌ ◌and◌
    backward_stop b c = let s : as_stored F (y - 1) l m ≡ true = sym f ∙ c in sym (rw (le-leb (y - 1) (z0 - 1) (omega arith), s) at one-back)

pub backward-end : (F : Field) (z0 : ℕ) (p : List ℕ) (y : ℕ) (z : Redone) (l : List ℕ) → z ≡ backward F z0 p y l → y ≤ 0 → redone l 0 ≡ z
unfolding backward
backward-end F z0 p y z l e h = let q : y ≡ 0 = omega arith in sym (rw q at e)

-- ---------------------------------------------------------------- the rows of the list that was lent for comparing

module _ (F : Field) (k l m : List ℕ) where
  pub kept_up : (a y : ℕ) → a ≤ y → Kept F a y k l → Kept F y (y + 1) l m → Kept F a (y + 1) k m
  kept_up a y h u v =
      record { size = v.size ∙ u.size; held = λ s i c. elim c [ inl d ↦ v.held s i (inl (omega arith)) ∙ u.held s i (inl d) | inr d ↦ v.held s i (inr d) ∙ u.held s i (inr (omega arith)) ] }

  pub kept_down : (y b : ℕ) → 0 < y → y ≤ b → Kept F y b k l → Kept F (y - 1) (y - 1 + 1) l m → Kept F (y - 1) b k m
  kept_down y b h g u v =
      record { size = v.size ∙ u.size; held = λ s i c. elim c [ inl d ↦ v.held s i (inl d) ∙ u.held s i (inl (omega arith)) | inr d ↦ v.held s i (inr (omega arith)) ∙ u.held s i (inr d) ] }

pub kept_none : (F : Field) (a : ℕ) (l : List ℕ) → Kept F a a l l
kept_none F a l = record { size = refl; held = λ s i c. refl }

pub kept_all : (F : Field) (a y x : ℕ) (k l : List ℕ) → x < F.h → y ≤ F.h → F.h ≤ y → Kept F a y k l → Kept F a (F.h - 1 + 1) k l
kept_all F a y x k l p h g v = let q : F.h - 1 + 1 ≡ y = omega arith in rw q v

pub kept_zero : (F : Field) (b y : ℕ) (k l : List ℕ) → y ≤ 0 → Kept F y b k l → Kept F 0 b k l
kept_zero F b y k l h v = let q : y ≡ 0 = omega arith in rw q at v

pub kept_size : (F : Field) (a b : ℕ) (k l : List ℕ) → length k ≡ spans F → Kept F a b k l → length l ≡ spans F
kept_size F a b k l e v = v.size ∙ e
