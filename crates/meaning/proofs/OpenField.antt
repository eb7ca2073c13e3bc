-- Where the connections of an open field lead, and where its spans start.
use Prim.Native.Nat.{ℕ, zero, suc, ◌+◌, ◌*◌, ◌-◌, ◌/◌, ◌%◌, ◌≤◌, ◌<◌}
use native.Mathlib.Omega.{arith}
use native.Mathlib.Nat.{zero-add, add-zero, mul_comm, suc-mul}
use native.Mathlib.Decide.{dec_lt}
use mathlib.Core.Path.{◌≡◌, refl, sym, ap, ◌∙◌}
use mathlib.Core.Bool.{true, false}
use mathlib.Core.List.{List}
use lib.ListN.{get_or, replicate, get_or-replicate, get_or-eq_default}
use lib.Arith.{digits_lt, digits_div, digits_mod}
use lib.Dec.{eqb}
use borrow.Author.Tests.{eq-eqb, ne_eqb, le-leb, lt-leb}
use Rattle.rules.specs.Base.{when◌then◌else◌, upto}
use Rattle.rules.specs.Field.{spans, area_of, near, cell_of, cell_to, leaves, con_of}
use Rattle.rules.specs.Open.{open_con, flat, open_field}
use Rattle.rules.specs.Distance.{same}
use Rattle.laws.proofs.Basics.{if-ind, tests, tab-at, length-tab}
use Rattle.laws.proofs.Cells.{near_none, near_is}
use Rattle.meaning.specs.Open.{span_at}

-- a, which is 0 or 1, is 1 exactly where P holds
abbrev pub Marks : ℕ → Type 0 → Type 0
Marks a P = (1 ≤ a → P) × (P → 1 ≤ a)

pub cell_of_ones : (n s : ℕ) → s < n → cell_of (replicate n 1) s ≡ s
unfolding cell_of
cell_of_ones zero s h = absurd (omega arith)
cell_of_ones (suc n) s h =
    if-ind (λ c. c ≡ s) _ (λ e. omega tests)
    (λ e. let r = cell_of_ones n (s - 1) (omega tests) in omega tests)

pub open_spans_lem : (w h : ℕ) → spans (open_field w h) ≡ w * h
unfolding flat open_field
open_spans_lem w h = length-tab (w * h) 0 _

module _ (w h : ℕ) (few : w * h ≤ 65535) where
  -- a span of the field
  pub in_field : (x z : ℕ) → x < w → z < h → span_at w x z < w * h
  in_field x z p q = omega (arith, digits_lt {q = z} {m = h} {r = x} {c = w} q p, mul_comm w h)

  -- ---------------------------------------------------------------- connections

  pub con_at : (s d : ℕ) → s < w * h → d < 4 → con_of (open_field w h) s d ≡ (when leaves w h s d then 255 else 0)
  unfolding con_of flat open_field open_con
  con_at s d g k =
      let a : (0 + (4 * s + d)) / 4 ≡ s = omega arith in
      let b : (0 + (4 * s + d)) % 4 ≡ d = omega arith in
      tab-at (4 * (w * h)) 0 (open_con w h) (4 * s + d) 255 (omega arith) ∙ rw (a, b) refl

  -- none has no neighbour
  pub open_none : (d : ℕ) → near (open_field w h) 65535 d ≡ 65535
  unfolding con_of flat open_field
  open_none d = near_none (open_field w h) 65535 d (get_or-eq_default (open_field w h).con 255 (omega (arith, length-tab (4 * (w * h)) 0 (open_con w h))))

  missing : (s d : ℕ) → s < w * h → d < 4 → leaves w h s d ≡ true → near (open_field w h) s d ≡ 65535
  unfolding when◌then◌else◌
  missing s d g k e = near_none (open_field w h) s d (con_at s d g k ∙ rw e refl)

  pub leading : (s d : ℕ) → s < w * h → d < 4 → leaves w h s d ≡ false → cell_to w s d < w * h → near (open_field w h) s d ≡ cell_to w s d
  unfolding when◌then◌else◌ flat open_field
  leading s d g k e i =
      let c : con_of (open_field w h) s d ≡ 0 = con_at s d g k ∙ rw e refl in
      near_is (open_field w h) s d (λ z. omega arith) ∙ rw (c, cell_of_ones (w * h) s g, tab-at (w * h) 0 (λ (c : ℕ). c) (cell_to w s d) 0 i) (omega arith)

  -- ---------------------------------------------------------------- neighbours by their places

  module _ (P : ℕ → Type 0) (x z : ℕ) (p : x < w) (q : z < h) where
    column : span_at w x z % w ≡ x
    column = digits_mod z p

    row : span_at w x z / w ≡ z
    row = digits_div z p

    inside : span_at w x z < w * h
    inside = in_field x z p q

    -- neighbour 0 is at (x-1,z)
    pub to_left : (x ≡ 0 → P 65535) → ((y : ℕ) → suc y ≡ x → P (span_at w y z)) → P (near (open_field w h) (span_at w x z) 0)
    unfolding leaves cell_to
    to_left a b =
        elim (dec_lt 0 x) [
          | no g ↦ rw (missing (span_at w x z) 0 inside (omega arith) (eq-eqb (span_at w x z % w) 0 (omega (arith, column)))) (a (omega arith))
          | yes g ↦
              let e : span_at w x z - 1 ≡ span_at w (x - 1) z = omega arith in
              rw (leading (span_at w x z) 0 inside (omega arith) (ne_eqb (span_at w x z % w) 0 (λ k. omega (arith, column))) (omega (arith, inside)), e) (b (x - 1) (omega arith))
        ]

    -- neighbour 2 at (x+1,z)
    pub to_right : (w ≡ suc x → P 65535) → (suc x < w → P (span_at w (suc x) z)) → P (near (open_field w h) (span_at w x z) 2)
    unfolding leaves cell_to
    to_right a b =
        elim (dec_lt (suc x) w) [
          | no g ↦ rw (missing (span_at w x z) 2 inside (omega arith) (le-leb w (span_at w x z % w + 1) (omega (arith, column)))) (a (omega arith))
          | yes g ↦
              let e : span_at w x z + 1 ≡ span_at w (suc x) z = omega arith in
              rw (leading (span_at w x z) 2 inside (omega arith) (lt-leb w (span_at w x z % w + 1) (omega (arith, column))) (omega (arith, in_field (suc x) z g q)), e) (b g)
        ]

    -- neighbour 1 at (x,z+1)
    pub to_down : (h ≡ suc z → P 65535) → (suc z < h → P (span_at w x (suc z))) → P (near (open_field w h) (span_at w x z) 1)
    unfolding leaves cell_to
    to_down a b =
        elim (dec_lt (suc z) h) [
          | no g ↦ rw (missing (span_at w x z) 1 inside (omega arith) (le-leb h (span_at w x z / w + 1) (omega (arith, row)))) (a (omega arith))
          | yes g ↦
              let e : span_at w x z + w ≡ span_at w x (suc z) = omega (arith, suc-mul z w) in
              rw (leading (span_at w x z) 1 inside (omega arith) (lt-leb h (span_at w x z / w + 1) (omega (arith, row))) (omega (arith, in_field x (suc z) p g)), e) (b g)
        ]

    -- neighbour 3 at (x,z-1)
    pub to_up : (z ≡ 0 → P 65535) → ((y : ℕ) → suc y ≡ z → P (span_at w x y)) → P (near (open_field w h) (span_at w x z) 3)
    unfolding leaves cell_to
    to_up a b =
        elim (dec_lt 0 z) [
          | no g ↦ rw (missing (span_at w x z) 3 inside (omega arith) (eq-eqb (span_at w x z / w) 0 (omega (arith, row)))) (a (omega arith))
          | yes g ↦
              let o : suc (z - 1) ≡ z = omega arith in
              let m : z * w ≡ (z - 1) * w + w = ap (λ (y : ℕ). y * w) (sym o) ∙ suc-mul (z - 1) w in
              let e : span_at w x z - w ≡ span_at w x (z - 1) = omega arith in
              rw (leading (span_at w x z) 3 inside (omega arith) (ne_eqb (span_at w x z / w) 0 (λ k. omega (arith, row))) (omega (arith, inside)), e) (b (z - 1) o)
        ]

  -- ---------------------------------------------------------------- neighbours of the span's own area

  area_at : (s : ℕ) → s < w * h → area_of (open_field w h) s ≡ 1
  unfolding area_of flat open_field
  area_at s g = tab-at (w * h) 0 (λ _. 1) s 256 g

  area_none : area_of (open_field w h) 65535 ≡ 256
  unfolding area_of flat open_field
  area_none = get_or-eq_default (open_field w h).area 256 (omega (arith, open_spans_lem w h))

  -- 1 where t has the area of s
  abbrev alike : ℕ → ℕ → ℕ
  alike s t = when eqb (area_of (open_field w h) t) (area_of (open_field w h) s) then 1 else 0

  alike_at : (s t : ℕ) → s < w * h → t < w * h → alike s t ≡ 1
  unfolding when◌then◌else◌
  alike_at s t g k = rw (area_at s g, area_at t k) refl

  alike_none : (s : ℕ) → s < w * h → alike s 65535 ≡ 0
  unfolding when◌then◌else◌
  alike_none s g = rw (area_at s g, area_none) refl

  module _ (x z : ℕ) (p : x < w) (q : z < h) where
    inner : span_at w x z < w * h
    inner = in_field x z p q

    pub same_left : Marks (same (open_field w h) (span_at w x z) 0) (0 < x)
    unfolding same
    same_left =
        to_left (λ t. Marks (alike (span_at w x z) t) (0 < x)) x z p q
        (λ e. (λ g. absurd (omega (arith, alike_none (span_at w x z) inner)), λ g. absurd (omega arith)))
        (λ y e. (λ _. omega arith, λ _. omega (arith, alike_at (span_at w x z) (span_at w y z) inner (in_field y z (omega arith) q))))

    pub same_down : Marks (same (open_field w h) (span_at w x z) 1) (suc z < h)
    unfolding same
    same_down =
        to_down (λ t. Marks (alike (span_at w x z) t) (suc z < h)) x z p q
        (λ e. (λ g. absurd (omega (arith, alike_none (span_at w x z) inner)), λ g. absurd (omega arith)))
        (λ e. (λ _. omega arith, λ _. omega (arith, alike_at (span_at w x z) (span_at w x (suc z)) inner (in_field x (suc z) p e))))

    pub same-right : Marks (same (open_field w h) (span_at w x z) 2) (suc x < w)
    unfolding same
    same-right =
        to_right (λ t. Marks (alike (span_at w x z) t) (suc x < w)) x z p q
        (λ e. (λ g. absurd (omega (arith, alike_none (span_at w x z) inner)), λ g. absurd (omega arith)))
        (λ e. (λ _. omega arith, λ _. omega (arith, alike_at (span_at w x z) (span_at w (suc x) z) inner (in_field (suc x) z e q))))

    pub same_up : Marks (same (open_field w h) (span_at w x z) 3) (0 < z)
    unfolding same
    same_up =
        to_up (λ t. Marks (alike (span_at w x z) t) (0 < z)) x z p q
        (λ e. (λ g. absurd (omega (arith, alike_none (span_at w x z) inner)), λ g. absurd (omega arith)))
        (λ y e. (λ _. omega arith, λ _. omega (arith, alike_at (span_at w x z) (span_at w x y) inner (in_field x y p (omega arith)))))

  -- ---------------------------------------------------------------- cells

  pub count_at_lem : (c : ℕ) → c < w * h → get_or (open_field w h).count c 0 ≡ 1
  unfolding flat open_field
  count_at_lem c g = get_or-replicate (w * h) c 1 0 g

  index_at : (c : ℕ) → c < w * h → get_or (open_field w h).index c 0 ≡ c
  unfolding flat open_field
  index_at c g = tab-at (w * h) 0 (λ (c : ℕ). c) c 0 g ∙ zero-add c

  -- a cell's only span has the cell's number
  pub only_span : (P : List ℕ → Type 0) (c : ℕ) (l : List ℕ) (f : ℕ → List ℕ → List ℕ) → c < w * h
      → P (f c l) → P (upto (get_or (open_field w h).count c 0) (λ j l. f (get_or (open_field w h).index c 0 + j) l) l)
  unfolding upto
  only_span P c l f g v = rw (count_at_lem c g, index_at c g, add-zero c) v
