-- What the passes start from and go by, as laws of the rules alone: columns of a grid, neighbours that there are not, and the values at the start.
-- Assumes nothing.
use Prim.Native.Nat.{ℕ, zero, suc, ◌+◌, ◌*◌, ◌-◌, ◌/◌, ◌%◌, ◌≤◌, ◌<◌}
use native.Mathlib.Omega.{arith}
use native.Mathlib.Nat.{zero-mul, zero-add, suc-mul, mul_comm, div-add-mod', div-lt_iff_lt-mul, mod-lt}
use native.Mathlib.Numerals.{add-one}
use mathlib.Core.Path.{◌≡◌, refl, ap, ◌∙◌}
use mathlib.Core.Bool.{false}
use lib.ListN.{length, get_or-eq_default}
use lib.Arith.{digits_lt, digits_mod}
use borrow.Author.Tests.{eqb-true, ltb-false}
use Rattle.rules.specs.Field.{Field, spans, none, cell_to, leaves, area_of, near, con_of}
use Rattle.rules.specs.Distance.{same, start_at, start, far}
use Rattle.laws.proofs.Basics.{if-ind, tests, four_ways, tab-at}
use Rattle.laws.proofs.Cells.{near_none}

-- ---------------------------------------------------------------- numbers

pub wide_pos : (w h c : ℕ) → c < w * h → 0 < w
wide_pos zero h c g = absurd (omega (arith, zero-mul h))
wide_pos (suc w) h c g = omega arith

pub mod_pred : (c w : ℕ) → 0 < w → 0 < c % w → (c - 1) % w + 1 ≡ c % w
mod_pred c w p g =
    let l = mod-lt c p in
    let e : c - 1 ≡ c / w * w + (c % w - 1) = omega (arith, div-add-mod' c w) in
    let r : (c - 1) % w ≡ c % w - 1 = rw e (digits_mod (c / w) (omega arith)) in
    omega arith

-- the cell across is in the grid where the way does not leave it
pub across_in : (w h c d : ℕ) → c < w * h → d < 4 → leaves w h c d ≡ false → cell_to w c d < w * h
unfolding leaves cell_to
across_in w h c zero g l e = omega arith
across_in w h c (suc zero) g l e =
    let p = wide_pos w h c g in
    let q : c / w + 1 < h = omega tests in
    let z : (c / w + 1) * w + c % w < h * w = digits_lt q (mod-lt c p) in
    let y : (c / w + 1) * w ≡ c / w * w + w = rw add-one (suc-mul (c / w) w) in
    omega (arith, div-add-mod' c w, mul_comm h w)
across_in w h c (suc (suc zero)) g l e =
    let p = wide_pos w h c g in
    let q : c % w + 1 < w = omega tests in
    let y : c / w < h = (div-lt_iff_lt-mul p).1 (rw (mul_comm h w) g) in
    let z : c / w * w + (c % w + 1) < h * w = digits_lt y q in
    omega (arith, div-add-mod' c w, mul_comm h w)
across_in w h c (suc (suc (suc zero))) g l e = omega arith
across_in w h c (suc (suc (suc (suc d)))) g l e = absurd (omega arith)

-- ---------------------------------------------------------------- neighbours

-- no span has no neighbour, the connections being those of at most 65,535 spans
pub none-near : (F : Field) (d : ℕ) → length F.con ≤ 4 * 65535 → near F none d ≡ none
unfolding con_of
none-near F d h = near_none F none d (get_or-eq_default F.con 255 (omega arith))

pub same_le : (F : Field) (s d : ℕ) → same F s d ≤ 1
unfolding same
same_le F s d = if-ind (λ r. r ≤ 1) _ (λ _. omega arith) (λ _. omega arith)

-- a neighbour that there is not has another area
pub missing_not-same : (F : Field) (s d : ℕ) → spans F ≤ 65535 → area_of F s < 256 → near F s d ≡ none → same F s d ≡ 0
unfolding same area_of
missing_not-same F s d few byte e =
    if-ind (λ r. r ≡ 0) _
    (λ i.
    let past : area_of F (near F s d) ≡ 256 = rw e (get_or-eq_default F.area 256 few) in
    absurd (omega (arith, eqb-true (area_of F (near F s d)) (area_of F s) i)))
    (λ _. refl)

-- one that does not count is enough
pub same_fewer : (F : Field) (s d : ℕ) → d < 4 → same F s d ≡ 0 → same F s 0 + same F s 1 + same F s 2 + same F s 3 < 4
same_fewer F s =
    let a = same_le F s 0 in
    let b = same_le F s 1 in
    let c = same_le F s 2 in
    let e = same_le F s 3 in
    four_ways (λ d. same F s d ≡ 0 → same F s 0 + same F s 1 + same F s 2 + same F s 3 < 4) (λ z. omega arith) (λ z. omega arith) (λ z. omega arith) (λ z. omega arith)

-- ---------------------------------------------------------------- the start

pub start-at : (F : Field) (s : ℕ) → s < spans F → far (start F) s ≡ start_at F s
unfolding start
start-at F s h = tab-at (spans F) 0 (start_at F) s 65535 h ∙ ap (start_at F) (zero-add s)

-- a span that lacks a neighbour starts with 0
pub start_edge : (F : Field) (s d : ℕ) → spans F ≤ 65535 → s < spans F → area_of F s < 256 → d < 4 → near F s d ≡ none → far (start F) s ≡ 0
unfolding start_at
start_edge F s d few h byte g e =
    start-at F s h ∙ if-ind (λ r. r ≡ 0) _ (λ _. refl) (λ i. absurd (omega (arith, ltb-false, same_fewer F s d g (missing_not-same F s d few byte e))))
