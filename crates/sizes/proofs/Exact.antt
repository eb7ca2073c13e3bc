-- Whole numbers as 64-bit floats, multiplied, and divided by a power of two: nothing is rounded, since every product stays below 2 to the 53.
-- What is worked out step by step is the one value a / c that the rule names. Assumes nothing.
use Prim.Native.Nat.{ℕ, ◌*◌, ◌^◌, ◌≤◌, ◌<◌}
use native.Mathlib.Omega.{arith}
use native.Mathlib.Nat.{mul-one, one-mul, mul_assoc, mul-pos, mul_right_comm, mul-mul-mul_comm, mul-le-mul}
use mathlib.Core.Path.{◌≡◌, refl, sym, ap, ◌∙◌, subst}
use mathlib.Core.Bool.{true, false, true≢false}
use lib.IntN.{pos}
use lib.Pow.{pow_pos}
use lib.Ieee.{Float, nan, inf, fin, binary64, up, down, round, mul, div, of_int, of_bits}
use lib.Ieee.Exact.{HasValue}
use lib.Ieee.Scale.{round_same}
use lib.Ieee.Fits.{down_pos}
use Rattle.rules.specs.Sizes.{metres}
use Rattle.extents.proofs.Exact.{exact}

-- a product of two values that are not negative
pub mul_value : (x y : Float) (a c b d : ℕ) → 0 < c → 0 < d → HasValue x false a c → HasValue y false b d → mul binary64 x y ≡ round binary64 false (a * b) (c * d)
unfolding mul
mul_value nan y a c b d C D h k = absurd h
mul_value (inf s) y a c b d C D h k = absurd h
mul_value (fin true m e) y a c b d C D h k = absurd (true≢false h.0)
mul_value (fin false m e) nan a c b d C D h k = absurd k
mul_value (fin false m e) (inf s) a c b d C D h k = absurd k
mul_value (fin false m e) (fin true n i) a c b d C D h k = absurd (true≢false k.0)
mul_value (fin false m e) (fin false n i) a c b d C D h k =
    round_same binary64 false (m * up e * (n * up i)) (down e * down i) (a * b) (c * d) (mul-pos (down_pos e) (down_pos i)) (mul-pos C D)
    (mul-mul-mul_comm (m * up e) (n * up i) c d ∙ ap (λ (z : ℕ). z * (n * up i * d)) h.1 ∙ ap (λ (z : ℕ). a * down e * z) k.1 ∙ mul-mul-mul_comm a (down e) b (down i))

-- divided by 2 ^ t
pub div_value : (x : Float) (a c t : ℕ) → 0 < c → HasValue x false a c → div binary64 x (fin false 1 (pos t)) ≡ round binary64 false a (c * 2 ^ t)
unfolding div
div_value nan a c t C h = absurd h
div_value (inf s) a c t C h = absurd h
div_value (fin true m e) a c t C h = absurd (true≢false h.0)
div_value (fin false m e) a c t C h =
    round_same binary64 false (m * up e * 1) (1 * 2 ^ t * down e) a (c * 2 ^ t) (mul-pos (mul-pos (omega arith) (pow_pos t)) (down_pos e)) (mul-pos C (pow_pos t))
    (ap (λ (z : ℕ). z * (c * 2 ^ t)) (mul-one (m * up e)) ∙ sym (mul_assoc (m * up e) c (2 ^ t)) ∙ ap (λ (z : ℕ). z * 2 ^ t) h.1 ∙ mul_right_comm a (down e) (2 ^ t)
    ∙ mul_assoc a (2 ^ t) (down e) ∙ ap (λ (z : ℕ). a * (z * down e)) (sym (one-mul (2 ^ t))))

-- a whole number
pub whole : (n : ℕ) → n < 2 ^ 53 → HasValue (of_int binary64 (pos n)) false n 1
unfolding of_int
whole n h = exact n 0 h (omega arith)

sixty_four : of_bits binary64 0x4050_0000_0000_0000 ≡ fin false 1 (pos 6)
unfolding of_bits
sixty_four = refl

four_thousand : of_bits binary64 0x40b0_0000_0000_0000 ≡ fin false 1 (pos 12)
unfolding of_bits
four_thousand = refl

product : (x : Float) (a b : ℕ) → a * b < 2 ^ 53 → b < 2 ^ 53 → HasValue x false a 1 → HasValue (mul binary64 x (of_int binary64 (pos b))) false (a * b) 1
product x a b h g v = subst (λ (z : Float). HasValue z false (a * b) 1) (sym (mul_value x (of_int binary64 (pos b)) a 1 b 1 (omega arith) (omega arith) v (whole b g))) (exact (a * b) 0 h (omega arith))

few_times : (c k : ℕ) → c ≤ 4294967295 → k ≤ 65535 → c * k ≤ 4294967295 * 65535
few_times c k h g = mul-le-mul h g

pub edge_is : (c k : ℕ) → c < 2 ^ 32 → k < 2 ^ 16
    → div binary64 (mul binary64 (of_int binary64 (pos c)) (of_int binary64 (pos k))) (of_bits binary64 0x4050_0000_0000_0000) ≡ metres (c * k) 64
unfolding metres
edge_is c k h g =
    let few : c * k < 2 ^ 53 = edge_few c k h g in
    ap (div binary64 (mul binary64 (of_int binary64 (pos c)) (of_int binary64 (pos k)))) sixty_four
    ∙ div_value (mul binary64 (of_int binary64 (pos c)) (of_int binary64 (pos k))) (c * k) 1 6 (omega arith) (product (of_int binary64 (pos c)) c k few (omega arith) (whole c (omega arith)))
  where
    edge_few : (c k : ℕ) → c < 2 ^ 32 → k < 2 ^ 16 → c * k < 2 ^ 53
    edge_few c k h g = let m = few_times c k (omega arith) (omega arith) in omega arith

-- a number and a side's square
few_square : (c k : ℕ) → c ≤ 65535 → k ≤ 65535 → c * k * k ≤ 65535 * 65535 * 65535
few_square c k h g = mul-le-mul (mul-le-mul h g) g

pub floor_is_lem : (c k : ℕ) → c ≤ 65535 → k < 2 ^ 16
    → div binary64 (mul binary64 (mul binary64 (of_int binary64 (pos c)) (of_int binary64 (pos k))) (of_int binary64 (pos k))) (of_bits binary64 0x40b0_0000_0000_0000) ≡ metres (c * k * k) 4096
unfolding metres
floor_is_lem c k h g =
    let once : c * k < 2 ^ 53 = omega (arith, few_times c k (omega arith) (omega arith)) in
    let few : c * k * k < 2 ^ 53 = omega (arith, few_square c k h (omega arith)) in
    let x = mul binary64 (of_int binary64 (pos c)) (of_int binary64 (pos k)) in
    let v = product (of_int binary64 (pos c)) c k once (omega arith) (whole c (omega arith)) in
    ap (div binary64 (mul binary64 x (of_int binary64 (pos k)))) four_thousand
    ∙ div_value (mul binary64 x (of_int binary64 (pos k))) (c * k * k) 1 12 (omega arith) (product x (c * k) k few (omega arith) v)
