-- The walk as the code goes: a span is added as the rule adds it, a cell's spans stand at its place, and the cells' spans in turn are all spans.
-- After s spans at most s are counted, so nothing wraps. Assumes nothing.
use Prim.Native.Nat.{ℕ, zero, suc, ◌+◌, ◌-◌, ◌*◌, ◌/◌, ◌%◌, ◌≤◌, ◌<◌, min, max}
use native.Mathlib.Omega.{arith}
use native.Mathlib.Nat.{mod-le, div-le_self}
use native.Mathlib.Numerals.{add-one}
use mathlib.Core.Path.{◌≡◌, refl, sym, ap, ◌∙◌}
use mathlib.Core.List.{List}
use lib.ListN.{length, get_or}
use lib.Dec.{eqb}
use borrow.Author.Tests.{eq-eqb, ne_eqb}
use Rattle.rules.specs.Base.{when◌then◌else◌, upto}
use Rattle.rules.specs.Field.{Field, spans, area_of}
use Rattle.rules.specs.Sizes.{Extent, nothing, added, noted, extent}
use Rattle.laws.proofs.Basics.{if-ind, upto-ind, upto_join, upto_ext, upto_next, get_d_any}
use Rattle.laws.proofs.Cells.{before, before_next, before_none, cell_of_at, cells_sum}
use Rattle.extents.proofs.Meaning.{added_count}
use Rattle.field.specs.Lent.{lent, Celled}
use Rattle.sizes.specs.Walk.{note_at}

-- a cell's place in its row and its row are no more than its number
pub rest_le : (c w : ℕ) → c % w ≤ c
rest_le c w = mod-le c w

pub part_le : (c w : ℕ) → c / w ≤ c
part_le c w = div-le_self c w

-- ---------------------------------------------------------------- one span

module _ (a x z : ℕ) (e : Extent) where
  pub add_first : e.count ≡ 0 → ◌≡◌ {A = Extent} (record { count = 1; area = a; x_least = x; x_past = x + 1; z_least = z; z_past = z + 1 }) (added a x z e)
  unfolding added when◌then◌else◌
  add_first h = rw (eq-eqb e.count 0 h, add-one x, add-one z)

  pub add_more : (e.count ≡ 0 → ⊥) → (l p m q : ℕ) → l ≡ min e.x_least x → p ≡ max e.x_past (x + 1) → m ≡ min e.z_least z → q ≡ max e.z_past (z + 1)
      → ◌≡◌ {A = Extent} (record { count = e.count + 1; area = e.area; x_least = l; x_past = p; z_least = m; z_past = q }) (added a x z e)
  unfolding added when◌then◌else◌
  add_more h l p m q l= p= m= q= =
      let p' = rw (add-one x) at p= in
      let q' = rw (add-one z) at q= in
      rw (ne_eqb e.count 0 h, add-one e.count, l=, p', m=, q')

module _ (area ids : List ℕ) (id x z s : ℕ) (e : Extent) where
  pub note_has : get_or ids s 0 ≡ id → (r : Extent) → r ≡ added (get_or area s 0) x z e → r ≡ note_at area ids id x z s e
  unfolding note_at when◌then◌else◌
  note_has h r q = rw (eq-eqb _ _ h) q

  pub note_not : (get_or ids s 0 ≡ id → ⊥) → e ≡ note_at area ids id x z s e
  unfolding note_at when◌then◌else◌
  note_not h = rw (ne_eqb _ _ h)

  pub note_count : (note_at area ids id x z s e).count ≤ suc e.count
  unfolding note_at
  note_count = if-ind (λ (r : Extent). r.count ≤ suc e.count) (eqb (get_or ids s 0) id) (λ _. let q = added_count (get_or area s 0) x z e in omega arith) (λ _. omega arith)

-- ---------------------------------------------------------------- the spans of a cell

-- j of them
pub record Seen (area ids : List ℕ) (id first x z : ℕ) (e₀ : Extent) (e : Extent) (j spans : ℕ) : Type 0 where
  pub within : j ≤ spans
  pub low : e.count ≤ first + j
  pub same : e ≡ upto j (λ i. note_at area ids id x z (first + i)) e₀

module _ (area ids : List ℕ) (id first x z : ℕ) (e₀ : Extent) where
  pub seen_none : (spans : ℕ) → e₀.count ≤ first → Seen area ids id first x z e₀ e₀ 0 spans
  unfolding upto
  seen_none spans h = record { within = omega arith; low = omega arith; same = refl }

  module _ (e : Extent) (j spans : ℕ) (v : Seen area ids id first x z e₀ e j spans) where
    pub seen_next : j < spans → (r : Extent) → r ≡ note_at area ids id x z (first + j) e → Seen area ids id first x z e₀ r (j + 1) spans
    seen_next h r q = record {
      within = omega arith;
      low = let k = note_count area ids id x z (first + j) e in let m : r.count ≤ suc e.count = rw q k in omega (arith, v.low);
      same = q ∙ ap (note_at area ids id x z (first + j)) v.same ∙ sym (upto_next j (λ i. note_at area ids id x z (first + i)) e₀);
    }

    pub seen_all : spans ≤ j → e ≡ upto spans (λ i. note_at area ids id x z (first + i)) e₀
    seen_all h = let q : j ≡ spans = omega (arith, v.within) in rw q at v.same

-- ---------------------------------------------------------------- all cells

-- c cells
pub record Walked (F : Field) (ids : List ℕ) (id : ℕ) (e : Extent) (first c : ℕ) : Type 0 where
  pub within : c ≤ F.w * F.h
  pub starts : first ≡ before F.count c
  pub low : e.count ≤ first
  pub same : e ≡ upto (before F.count c) (noted F ids id) nothing

module _ (w h : ℕ) (is ks ar cs ids : List ℕ) (id : ℕ) (ok : Celled (lent w h is ks ar cs)) where
  abbrev F : Field
  F = lent w h is ks ar cs

  -- all spans are before the end
  total : before ks (length ks) ≡ length ar
  total = omega (arith, cells_sum is ks 0 (length ar) ok.cells)

  -- the spans of cell c
  pub cell_fits : (c : ℕ) → c < w * h → before ks c + get_or ks c 0 ≤ length ar
  cell_fits c l = rw (← before_next ks c, ← total) (rises (suc c) (length ks) (omega (arith, ok.counted)))
    where
      rises : (a b : ℕ) → a ≤ b → before ks a ≤ before ks b
      rises a b h = let e : a + (b - a) ≡ b = omega arith in rw e at (on a (b - a))
        where
          on : (a k : ℕ) → before ks a ≤ before ks (a + k)
          on a zero = let e : a + 0 ≡ a = omega arith in rw e (omega arith)
          on a (suc k) = let e : a + suc k ≡ suc (a + k) = omega arith in rw (e, before_next ks (a + k)) (omega (arith, on a k))

  -- a span of a cell, as the rule has it
  span_is_lem : (c j : ℕ) (e : Extent) → c < w * h → j < get_or ks c 0 → note_at ar ids id (c % w) (c / w) (before ks c + j) e ≡ noted F ids id (before ks c + j) e
  unfolding note_at noted area_of
  span_is_lem c j e l g =
      let s : before ks c + j < length ar = omega (arith, cell_fits c l) in
      rw (cell_of_at ks c j g, get_d_any ar (before ks c + j) 256 0 s)

  pub walked_none : (e : Extent) → e ≡ nothing → Walked F ids id e 0 0
  unfolding upto
  walked_none e q = record {
    within = omega arith;
    starts = sym (before_none ks);
    low = rw q (omega arith);
    same = rw (before_none ks) q;
  }

  module _ (e : Extent) (first c : ℕ) (v : Walked F ids id e first c) where
    pub walked_next : c < w * h → (spans x z : ℕ) → spans ≡ get_or ks c 0 → x ≡ c % w → z ≡ c / w → (r : Extent)
        → r ≡ upto spans (λ i. note_at ar ids id x z (first + i)) e → Walked F ids id r (first + spans) (c + 1)
    walked_next l spans x z p x= z= r q =
        let b : before ks (c + 1) ≡ before ks c + get_or ks c 0 = rw (add-one c) (before_next ks c) in
        let q' : r ≡ upto (get_or ks c 0) (λ i. note_at ar ids id (c % w) (c / w) (before ks c + i)) e = rw (p, x=, z=, v.starts) at q in
        let k : upto (get_or ks c 0) (λ i. note_at ar ids id (c % w) (c / w) (before ks c + i)) e ≡ upto (get_or ks c 0) (λ i. noted F ids id (before ks c + i)) e =
        upto_ext (get_or ks c 0) _ _ e (λ i y g. span_is_lem c i y l g) in
        let m : r ≡ upto (before ks c + get_or ks c 0) (noted F ids id) nothing =
        q' ∙ k ∙ ap (upto (get_or ks c 0) (λ i. noted F ids id (before ks c + i))) v.same ∙ sym (upto_join (before ks c) (get_or ks c 0) (noted F ids id) nothing) in
        record {
          within = omega arith;
          starts = omega (arith, v.starts, b);
          low = let n = counted_by spans x z e in let u : r.count ≤ e.count + spans = rw q n in omega (arith, v.low);
          same = rw b m;
        }
      where
        counted_by : (m x z : ℕ) (e : Extent) → (upto m (λ i. note_at ar ids id x z (first + i)) e).count ≤ e.count + m
        counted_by m x z e =
            upto-ind (λ i (y : Extent). y.count ≤ e.count + i) (λ i. note_at ar ids id x z (first + i)) e m (omega arith)
            (λ i y _ g. let n = note_count ar ids id x z (first + i) y in omega arith)

    -- where cell c begins
    pub walked_fits : c < w * h → (spans : ℕ) → spans ≡ get_or ks c 0 → first + spans ≤ length ar
    walked_fits l spans p = omega (arith, cell_fits c l, v.starts)

    pub walked_all : w * h ≤ c → (e ≡ extent F ids id) × (e.count ≤ 65000)
    unfolding extent
    walked_all l =
        let d : c ≡ length ks = omega (arith, v.within, ok.counted) in
        let b : before ks c ≡ length ar = ap (before ks) d ∙ total in
        (v.same ∙ rw b, omega (arith, v.low, v.starts, b, ok.few))
