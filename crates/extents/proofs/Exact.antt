-- A whole number below 2 to the 53 over a power of two is a value of the 64-bit format, so nothing is rounded. Assumes nothing.
use Prim.Native.Nat.{ℕ, ◌+◌, ◌-◌, ◌*◌, ◌^◌, ◌≤◌, ◌<◌}
use native.Mathlib.Omega.{arith}
use native.Mathlib.Nat.{mul_assoc, lt_of_lt_of_le}
use mathlib.Core.Path.{◌≡◌, sym, ap, ◌∙◌}
use mathlib.Core.Bool.{false}
use lib.Pow.{pow-add, pow_pos, pow_mono, shl_lt}
use lib.Ieee.{binary64, round}
use lib.Ieee.Exact.{HasValue, round_exact}
use Rattle.rules.specs.Sizes.{metres}

split : (a l t : ℕ) → t ≤ l → a * 2 ^ l ≡ a * 2 ^ (l - t) * 2 ^ t
split a l t h =
    let e : l - t + t ≡ l = omega arith in
    ap (λ (x : ℕ). a * 2 ^ x) (sym e) ∙ ap (λ (x : ℕ). a * x) (pow-add 2 (l - t) t) ∙ sym (mul_assoc a (2 ^ (l - t)) (2 ^ t))

below : (a t : ℕ) → a < 2 ^ 53 → t ≤ 1074 → a * 2 ^ (1074 - t) < 2 ^ (1074 + 1024)
below a t h g = let e : 53 + (1074 - t) ≤ 1074 + 1024 = omega arith in lt_of_lt_of_le (shl_lt 53 (1074 - t) h) (pow_mono e)

-- a / 2 ^ t is a value of the format
pub exact : (a t : ℕ) → a < 2 ^ 53 → t ≤ 1074 → HasValue (round binary64 false a (2 ^ t)) false a (2 ^ t)
exact a t h g = round_exact binary64 false a (2 ^ t) a (1074 - t) (pow_pos t) h (below a t h g) (split a 1074 t g)

-- an edge in metres
pub metres_edge : (c k : ℕ) → c * k < 2 ^ 53 → HasValue (metres (c * k) 64) false (c * k) 64
unfolding metres
metres_edge c k h = exact (c * k) 6 h (omega arith)
