-- Sums over the first k numbers: at most, the same, or so many times as much, where each term is. By induction on k.
use Prim.Native.Nat.{ℕ, zero, suc, ◌*◌, ◌≤◌, ◌<◌}
use native.Mathlib.Omega.{arith}
use native.Mathlib.Nat.{mul-zero, mul-add}
use mathlib.Core.Path.{◌≡◌, refl, sym}
use Rattle.laws.specs.Sums.{sum_to}

pub sum_le : (f g : ℕ → ℕ) (k : ℕ) → ((x : ℕ) → x < k → g x ≤ f x) → sum_to g k ≤ sum_to f k
unfolding sum_to
sum_le f g zero h = omega arith
sum_le f g (suc k) h = omega (arith, h k (omega arith), sum_le f g k (λ x l. h x (omega arith)))

pub sum_same : (f g : ℕ → ℕ) (k : ℕ) → ((x : ℕ) → x < k → f x ≡ g x) → sum_to f k ≡ sum_to g k
unfolding sum_to
sum_same f g zero h = refl
sum_same f g (suc k) h = omega (arith, h k (omega arith), sum_same f g k (λ x l. h x (omega arith)))

pub sum_times : (c : ℕ) (f : ℕ → ℕ) (k : ℕ) → sum_to (λ x. c * f x) k ≡ c * sum_to f k
unfolding sum_to
sum_times c f zero = sym (mul-zero c)
sum_times c f (suc k) = rw (sum_times c f k) (sym (mul-add c (f k) (sum_to f k)))
