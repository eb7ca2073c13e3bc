-- Four strips painted one over the other are the rule's painting.
-- A strip's columns or rows are clipped to the field, where every span is, so its test is the rule's; the rule looks at the last strip first.
use Prim.Native.Nat.{ℕ, zero, suc, ◌-◌, ◌*◌, ◌/◌, ◌%◌, ◌≤◌, ◌<◌, min}
use native.Mathlib.Omega.{arith}
use native.Mathlib.Nat.{mod-lt, div-lt_iff_lt-mul, zero-add, mul-zero, mul_comm, mul-le-mul_right}
use mathlib.Core.Path.{◌≡◌, refl, sym, ap, ◌∙◌}
use mathlib.Core.Bool.{Bool, true, false, not}
use mathlib.Core.List.{List}
use lib.ListN.{length, get_or, replicate, length-replicate, get_or-replicate}
use lib.Seq.{ext_get_or}
use lib.Dec.{eqb, leb, ltb}
use borrow.Author.Tests.{ne_eqb, eq-eqb, le-leb, lt-ltb, leb-true, ltb-true}
use Rattle.rules.specs.Base.{◌and◌, when◌then◌else◌, tab}
use Rattle.rules.specs.Field.{Field, spans, cell_of}
use Rattle.rules.specs.Net.{area_of}
use Rattle.rules.specs.Growth.{walkable, paint_of, painted, first_id}
use Rattle.laws.proofs.Basics.{tab-at, length-tab, same_test}
use Rattle.laws.proofs.Cells.{cell_of_in}
use Rattle.paint.specs.Paint.{Plot, put_if, walk_in, in_rect}
use Rattle.paint.proofs.PutLaws.{put_if-at, put_if-length}
use Rattle.paint.proofs.CellLaws.{cells, rect_true, rect_make}

-- ---------------------------------------------------------------- a strip's test is the rule's

module _ (w h b : ℕ) (count : List ℕ) (s : ℕ) (hx : cell_of count s % w < w) (hz : cell_of count s / w < h) where
  left_strip : in_rect w count 0 (min b w) 0 h s ≡ ltb (cell_of count s % w) b
  left_strip = same_test _ _
      (λ e. let r = rect_true w count 0 (min b w) 0 h s e in lt-ltb (cell_of count s % w) b (omega arith))
      (λ e. let r = ltb-true (cell_of count s % w) b e in rect_make w count 0 (min b w) 0 h s (omega arith) (omega arith) (omega arith) hz)

  right_strip : in_rect w count (w - min b w) w 0 h s ≡ leb (w - b) (cell_of count s % w)
  right_strip = same_test _ _
      (λ e. let r = rect_true w count (w - min b w) w 0 h s e in le-leb (w - b) (cell_of count s % w) (omega arith))
      (λ e. let r = leb-true (w - b) (cell_of count s % w) e in rect_make w count (w - min b w) w 0 h s (omega arith) hx (omega arith) hz)

  low_strip : in_rect w count 0 w 0 (min b h) s ≡ ltb (cell_of count s / w) b
  low_strip = same_test _ _
      (λ e. let r = rect_true w count 0 w 0 (min b h) s e in lt-ltb (cell_of count s / w) b (omega arith))
      (λ e. let r = ltb-true (cell_of count s / w) b e in rect_make w count 0 w 0 (min b h) s (omega arith) hx (omega arith) (omega arith))

  high_strip : in_rect w count 0 w (h - min b h) h s ≡ leb (h - b) (cell_of count s / w)
  high_strip = same_test _ _
      (λ e. let r = rect_true w count 0 w (h - min b h) h s e in le-leb (h - b) (cell_of count s / w) (omega arith))
      (λ e. let r = leb-true (h - b) (cell_of count s / w) e in rect_make w count 0 w (h - min b h) h s (omega arith) hx (omega arith) hz)

-- ---------------------------------------------------------------- four strips

-- the last strip that holds a span is the first that the rule asks for
last-first : (k p₁ p₂ p₃ p₄ : Bool)
    → ◌≡◌ {A = ℕ} (when k and p₄ then 0x8004 else (when k and p₃ then 0x8003 else (when k and p₂ then 0x8002 else (when k and p₁ then 0x8001 else 0))))
    (when not k then 0 else (when p₄ then 0x8004 else (when p₃ then 0x8003 else (when p₂ then 0x8002 else (when p₁ then 0x8001 else 0)))))
unfolding when◌then◌else◌ ◌and◌
last-first true p₁ p₂ p₃ p₄ = refl
last-first false p₁ p₂ p₃ p₄ = refl

put_on : (area : List ℕ) (p : ℕ → Bool) (v : ℕ) (l m : List ℕ) (s x : ℕ) (b : Bool) → m ≡ put_if (walk_in area p) v l → s < length l → get_or l s 0 ≡ x → p s ≡ b
    → get_or m s 0 ≡ (when not (eqb (get_or area s 256) 0) and b then v else x)
unfolding walk_in
put_on area p v l m s x b e h g q = rw (e, put_if-at (walk_in area p) v l s h, g, q)

put-length : (area : List ℕ) (p : ℕ → Bool) (v n : ℕ) (l m : List ℕ) → m ≡ put_if (walk_in area p) v l → length l ≡ n → length m ≡ n
put-length area p v n l m e h = rw (e, put_if-length (walk_in area p) v l) h

-- every span is in the field
inside : (w h : ℕ) (index count : List ℕ) (n s : ℕ) → Plot index count n → length count ≡ w * h → s < n → (cell_of count s % w < w) × (cell_of count s / w < h)
inside w h index count n s p e g =
    let k = cells index count n p in
    let c = cell_of_in count s (omega (arith, k.sum)) in
    let m : cell_of count s < h * w = omega (arith, mul_comm w h) in
    let z : 0 < w = some w (cell_of count s) m in
    (mod-lt (cell_of count s) z, (div-lt_iff_lt-mul z).1 m)
  where
    some : (w c : ℕ) → c < h * w → 0 < w
    some zero c l = absurd (omega (arith, mul-zero h))
    some (suc w) c l = omega arith

module _ (w h b : ℕ) (index count area : List ℕ) (p : Plot index count (length area)) (size : length count ≡ w * h) (b' : ℕ) (eb : b' ≡ b) (bw bh : ℕ) (ew : bw ≡ min b' w) (eh : bh ≡ min b' h)
    (l₀ l₁ l₂ l₃ l₄ : List ℕ) (zeros : l₀ ≡ replicate (length area) 0)
    (e₁ : l₁ ≡ put_if (walk_in area (in_rect w count 0 bw 0 h)) 0x8001 l₀)
    (e₂ : l₂ ≡ put_if (walk_in area (in_rect w count (w - bw) w 0 h)) 0x8002 l₁)
    (e₃ : l₃ ≡ put_if (walk_in area (in_rect w count 0 w 0 bh)) 0x8003 l₂)
    (e₄ : l₄ ≡ put_if (walk_in area (in_rect w count 0 w (h - bh) h)) 0x8004 l₃) where
  n₀ : length l₀ ≡ length area
  n₀ = rw zeros (length-replicate (length area) _)

  n₁ : length l₁ ≡ length area
  n₁ = put-length area _ _ _ l₀ l₁ e₁ n₀

  n₂ : length l₂ ≡ length area
  n₂ = put-length area _ _ _ l₁ l₂ e₂ n₁

  n₃ : length l₃ ≡ length area
  n₃ = put-length area _ _ _ l₂ l₃ e₃ n₂

  n₄ : length l₄ ≡ length area
  n₄ = put-length area _ _ _ l₃ l₄ e₄ n₃

  span-painted : (s : ℕ) → s < length area → (F : Field) → F.w ≡ w → F.h ≡ h → F.count ≡ count → F.area ≡ area → get_or l₄ s 0 ≡ paint_of F b s
  unfolding paint_of walkable area_of
  span-painted s g F fw fh fc fa =
      let i = inside w h index count (length area) s p size g in
      let c = cell_of count s in
      let fb : bw ≡ min b w = ew ∙ ap (λ (q : ℕ). min q w) eb in
      let fd : bh ≡ min b h = eh ∙ ap (λ (q : ℕ). min q h) eb in
      let z : get_or l₀ s 0 ≡ 0 = rw zeros (get_or-replicate (length area) s 0 0 g) in
      let q₁ = put_on area _ 0x8001 l₀ l₁ s _ (ltb (c % w) b) e₁ (rw n₀ g) z (rw fb (left_strip w h b count s i.0 i.1)) in
      let q₂ = put_on area _ 0x8002 l₁ l₂ s _ (leb (w - b) (c % w)) e₂ (rw n₁ g) q₁ (rw fb (right_strip w h b count s i.0 i.1)) in
      let q₃ = put_on area _ 0x8003 l₂ l₃ s _ (ltb (c / w) b) e₃ (rw n₂ g) q₂ (rw fd (low_strip w h b count s i.0 i.1)) in
      let q₄ = put_on area _ 0x8004 l₃ l₄ s _ (leb (h - b) (c / w)) e₄ (rw n₃ g) q₃ (rw fd (high_strip w h b count s i.0 i.1)) in
      rw (fw, fh, fc, fa) (q₄ ∙ last-first (not (eqb (get_or area s 256) 0)) (ltb (c % w) b) (leb (w - b) (c % w)) (ltb (c / w) b) (leb (h - b) (c / w)))

  pub border_done : (b ≡ 0 → ⊥) → (F : Field) → F.w ≡ w → F.h ≡ h → F.count ≡ count → F.area ≡ area → l₄ ≡ (painted F b).ids
  unfolding painted when◌then◌else◌
  border_done nz F fw fh fc fa =
      rw (ne_eqb b 0 nz)
      (ext_get_or 0 l₄ (tab (spans F) 0 (paint_of F b)) (n₄ ∙ sym (length-tab (spans F) 0 (paint_of F b) ∙ ap length fa))
      (λ s g.
      let k : s < length area = rw n₄ at g in
      let m : s < spans F = rw fa k in
      span-painted s k F fw fh fc fa ∙ sym (tab-at (spans F) 0 (paint_of F b) s 0 m ∙ ap (paint_of F b) (zero-add s))))

-- ---------------------------------------------------------------- no border

pub border-none : (b : ℕ) (area l : List ℕ) → b ≡ 0 → l ≡ replicate (length area) 0 → (w h : ℕ) (count : List ℕ) → (F : Field) → F.w ≡ w → F.h ≡ h → F.count ≡ count → F.area ≡ area
    → l ≡ (painted F b).ids
unfolding painted when◌then◌else◌
border-none b area l e z w h count F fw fh fc fa = rw (eq-eqb b 0 e, fa) z

pub first-none : (b : ℕ) → b ≡ 0 → 1 ≡ first_id b
unfolding first_id when◌then◌else◌
first-none b e = rw (eq-eqb b 0 e)

pub first_some : (b : ℕ) → (b ≡ 0 → ⊥) → 5 ≡ first_id b
unfolding first_id when◌then◌else◌
first_some b e = rw (ne_eqb b 0 e)

-- ---------------------------------------------------------------- the rows are those of the field

pub rows_all : (w h m : ℕ) → m ≡ w * h → h * w ≤ m
rows_all w h m e = omega (arith, mul_comm w h)

pub rows_within : (w h b bh m : ℕ) → m ≡ w * h → bh ≡ min b h → bh * w ≤ m
rows_within w h b bh m e f = let l : bh ≤ h = omega arith in omega (arith, mul-le-mul_right w l, mul_comm w h)
