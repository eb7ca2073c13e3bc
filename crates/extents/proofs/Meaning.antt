-- What a record of sizes says: each of its floats is exact, and the counts of all ids, spans of id 0 and flagged spans come to all spans.
-- A place is no greater than the number of cells, so every product stays far below 2 to the 53. Assumes nothing.
use Prim.Native.Nat.{ℕ, zero, suc, ◌-◌, ◌*◌, ◌/◌, ◌%◌, ◌≤◌}
use native.Mathlib.Omega.{arith}
use native.Mathlib.Nat.{mod-le, div-le_self, mul-le-mul, zero-mul}
use mathlib.Core.Path.{◌≡◌, refl, sym, ap, ◌∙◌}
use mathlib.Core.Bool.{Bool, false}
use mathlib.Core.List.{List, [], ◌∷◌}
use lib.ListN.{length, get_or}
use lib.Dec.{eqb, ltb}
use borrow.Author.Tests.{eqb-true}
use lib.Ieee.{binary64, round}
use lib.Ieee.Exact.{HasValue}
use Rattle.rules.specs.Base.{when◌then◌else◌, upto}
use Rattle.rules.specs.Field.{Field, spans, cell_of, area_of}
use Rattle.rules.specs.Sizes.{Extent, nothing, added, noted, extent, shown, extent_of, metres, RoomSize, sized, zero64, zeros}
use Rattle.laws.proofs.Basics.{if-ind, if_ind₂, upto-ind}
use Rattle.extents.proofs.Exact.{exact}

-- ---------------------------------------------------------------- exactness

-- what bounds an extent of s spans in at most m cells
pub record Bounded (m s : ℕ) (e : Extent) : Type 0 where
  pub count : e.count ≤ s
  pub x₀ : e.x_least ≤ m
  pub x₁ : e.x_past ≤ suc m
  pub z₀ : e.z_least ≤ m
  pub z₁ : e.z_past ≤ suc m

cell_le : (ks : List ℕ) (s : ℕ) → cell_of ks s ≤ length ks
unfolding cell_of
cell_le [] s = omega arith
cell_le (k ∷ ks) s = if-ind (λ (c : ℕ). c ≤ suc (length ks)) (ltb s k) (λ _. omega arith) (λ _. omega (arith, cell_le ks (s - k)))

added_bounded : (m s a x z : ℕ) (e : Extent) → x ≤ m → z ≤ m → Bounded m s e → Bounded m (suc s) (added a x z e)
unfolding added
added_bounded m s a x z e hx hz b =
    if-ind (λ (r : Extent). Bounded m (suc s) r) (eqb e.count 0)
    (λ _. record { count = omega arith; x₀ = hx; x₁ = omega arith; z₀ = hz; z₁ = omega arith })
    (λ _. record { count = omega (arith, b.count); x₀ = omega (arith, b.x₀); x₁ = omega (arith, b.x₁); z₀ = omega (arith, b.z₀); z₁ = omega (arith, b.z₁) })

bounded_on : (m s : ℕ) (e : Extent) → Bounded m s e → Bounded m (suc s) e
bounded_on m s e b = record { count = omega (arith, b.count); x₀ = b.x₀; x₁ = b.x₁; z₀ = b.z₀; z₁ = b.z₁ }

none_bounded : (m s : ℕ) → Bounded m s nothing
none_bounded m s = record { count = omega arith; x₀ = omega arith; x₁ = omega arith; z₀ = omega arith; z₁ = omega arith }

pub extent_bounded : (F : Field) (ids : List ℕ) (id : ℕ) → Bounded (length F.count) (spans F) (extent F ids id)
unfolding extent noted
extent_bounded F ids id =
    upto-ind (λ s (e : Extent). Bounded (length F.count) s e) (noted F ids id) nothing (spans F) (none_bounded (length F.count) 0)
    (λ s e _ b.
    let c = cell_of F.count s in
    let l = cell_le F.count s in
    if-ind (λ (r : Extent). Bounded (length F.count) (suc s) r) (eqb (get_or ids s 0) id)
    (λ _. added_bounded (length F.count) s (area_of F s) (c % F.w) (c / F.w) e (omega (arith, mod-le c F.w)) (omega (arith, div-le_self c F.w)) b)
    (λ _. bounded_on (length F.count) s e b))

pub extent_of_bounded : (F : Field) (ids : List ℕ) (most id : ℕ) → Bounded (length F.count) (spans F) (extent_of F ids most id)
unfolding extent_of
extent_of_bounded F ids most id =
    if-ind (λ (e : Extent). Bounded (length F.count) (spans F) e) (shown most id) (λ _. extent_bounded F ids id) (λ _. none_bounded (length F.count) (spans F))

-- each value is the number itself, over a power of two: nothing was rounded
pub record ExactSize (k : ℕ) (e : Extent) (r : RoomSize) : Type 0 where
  pub floor : HasValue r.floor false (e.count * k * k) 4096
  pub x_least : HasValue r.x_least false (e.x_least * k) 64
  pub x_past : HasValue r.x_past false (e.x_past * k) 64
  pub z_least : HasValue r.z_least false (e.z_least * k) 64
  pub z_past : HasValue r.z_past false (e.z_past * k) 64

edge_exact : (c k : ℕ) → c ≤ 65537 → k ≤ 256 → HasValue (metres (c * k) 64) false (c * k) 64
unfolding metres
edge_exact c k h g = exact (c * k) 6 (omega (arith, edge_few c k h g)) (omega arith)
  where
    edge_few : (c k : ℕ) → c ≤ 65537 → k ≤ 256 → c * k ≤ 65537 * 256
    edge_few c k h g = mul-le-mul h g

floor_exact : (c k : ℕ) → c ≤ 65000 → k ≤ 256 → HasValue (metres (c * k * k) 4096) false (c * k * k) 4096
unfolding metres
floor_exact c k h g = exact (c * k * k) 12 (omega (arith, floor_few c k h g)) (omega arith)
  where
    floor_few : (c k : ℕ) → c ≤ 65000 → k ≤ 256 → c * k * k ≤ 65000 * 256 * 256
    floor_few c k h g = mul-le-mul (mul-le-mul h g) g

-- of a field of at most 65,536 cells and 65,000 spans, and a scale of at most 256
pub size_exact : (F : Field) (ids : List ℕ) (most k id : ℕ) → length F.count ≤ 65536 → spans F ≤ 65000 → k ≤ 256
    → ExactSize k (extent_of F ids most id) (sized k (extent_of F ids most id))
unfolding sized
size_exact F ids most k id cells few scale =
    let b = extent_of_bounded F ids most id in
    record {
      floor = floor_exact _ k (omega (arith, b.count)) scale;
      x_least = edge_exact _ k (omega (arith, b.x₀)) scale;
      x_past = edge_exact _ k (omega (arith, b.x₁)) scale;
      z_least = edge_exact _ k (omega (arith, b.z₀)) scale;
      z_past = edge_exact _ k (omega (arith, b.z₁)) scale;
    }

-- "zeros throughout"
zero_edge : round binary64 false 0 64 ≡ zero64
unfolding round
zero_edge = refl

zero_floor : round binary64 false 0 4096 ≡ zero64
unfolding round
zero_floor = refl

pub nothing_is_zeros : (k : ℕ) → sized k nothing ≡ zeros
unfolding sized metres
nothing_is_zeros k =
    let a : 0 * k ≡ 0 = zero-mul k in
    let b : 0 * k * k ≡ 0 = ap (λ (x : ℕ). x * k) a ∙ zero-mul k in
    rw (b, a, zero_edge, zero_floor)

-- ---------------------------------------------------------------- the counts

-- how many of the first s ids p holds of
unfoldable pub spans_with : (ℕ → Bool) → List ℕ → ℕ → ℕ
spans_with p ids s = upto s (λ i t. when p (get_or ids i 0) then suc t else t) 0

-- one more
pub added_count : (a x z : ℕ) (e : Extent) → (added a x z e).count ≡ suc e.count
unfolding added
added_count a x z e = if-ind (λ (r : Extent). r.count ≡ suc e.count) (eqb e.count 0) (λ t. ap suc (sym (eqb-true _ _ t))) (λ _. refl)

noted_count : (F : Field) (ids : List ℕ) (id s : ℕ) (e : Extent) → (noted F ids id s e).count ≡ (when eqb (get_or ids s 0) id then suc e.count else e.count)
unfolding noted
noted_count F ids id s e =
    if_ind₂ (λ (r : Extent) (n : ℕ). r.count ≡ n) (eqb (get_or ids s 0) id) (λ _. added_count (area_of F s) _ _ e) (λ _. refl)

-- an extent counts the spans that have its id
pub extent_count : (F : Field) (ids : List ℕ) (id : ℕ) → (extent F ids id).count ≡ spans_with (λ r. eqb r id) ids (spans F)
unfolding extent spans_with upto
extent_count F ids id = go (spans F)
  where
    go : (s : ℕ) → (upto s (noted F ids id) nothing).count ≡ upto s (λ i t. when eqb (get_or ids i 0) id then suc t else t) 0
    go zero = refl
    go (suc s) = noted_count F ids id s _ ∙ ap (λ (n : ℕ). when eqb (get_or ids s 0) id then suc n else n) (go s)
