-- Sums over the records: two of them change, the others do not grow.
use Prim.Native.Nat.{ℕ, zero, suc, ◌+◌, ◌≤◌, ◌<◌}
use native.Mathlib.Omega.{arith}
use native.Mathlib.Decide.{ℕ_discrete}
use mathlib.Core.Path.{◌≡◌, refl, sym, ap}
use Rattle.laws.specs.Sums.{sum_to}
use Rattle.laws.proofs.Sums.{sum_le}
use Rattle.pool.specs.Pool.{without}
use Rattle.pool.proofs.CarryLaws.{without-same, without_other}

pub without-two : (f g : ℕ → ℕ) (i n x : ℕ) → ((x ≡ i → ⊥) → (x ≡ n → ⊥) → f x ≡ g x) → without (without f i) n x ≡ without (without g i) n x
without-two f g i n x h =
    elim (ℕ_discrete x n) [
      | yes e ↦ rw (e, without-same (without f i) n, without-same (without g i) n) refl
      | no e ↦ rw (without_other (without f i) n x e, without_other (without g i) n x e) (elim (ℕ_discrete x i) [
        | yes d ↦ rw (d, without-same f i, without-same g i) refl
        | no d ↦ rw (without_other f i x d, without_other g i x d) (h d e)
      ])
    ]

sum_past : (f : ℕ → ℕ) (i k : ℕ) → k ≤ i → sum_to (without f i) k ≡ sum_to f k
unfolding sum_to
sum_past f i zero h = refl
sum_past f i (suc k) h = omega (arith, without_other f i k (λ e. omega arith), sum_past f i k (omega arith))

sum-without : (f : ℕ → ℕ) (i k : ℕ) → i < k → sum_to f k ≡ f i + sum_to (without f i) k
unfolding sum_to
sum-without f i zero h = absurd (omega arith)
sum-without f i (suc k) h =
    elim (ℕ_discrete k i) [
      | yes e ↦
          let z : without f i k ≡ 0 = rw e (without-same f i) in
          let w : f k ≡ f i = ap f e in
          omega (arith, sum_past f i k (omega arith))
      | no e ↦ omega (arith, without_other f i k e, sum-without f i k (omega arith))
    ]

module _ (f : ℕ → ℕ) (i n m : ℕ) (hi : i < m) (hn : n < m) (ne : i ≡ n → ⊥) where
  -- all but two, and the two
  pub sum_split : sum_to f m ≡ f i + f n + sum_to (without (without f i) n) m
  sum_split = omega (arith, sum-without f i m hi, sum-without (without f i) n m hn, without_other f i n (λ e. ne (sym e)))

  pub sum-two : (g : ℕ → ℕ) → ((x : ℕ) → x < m → (x ≡ i → ⊥) → (x ≡ n → ⊥) → g x ≤ f x) → g i + g n ≤ f i + f n → sum_to g m ≤ sum_to f m
  sum-two g h two =
      let rest : sum_to (without (without g i) n) m ≤ sum_to (without (without f i) n) m =
      sum_le (without (without f i) n) (without (without g i) n) m (λ x l. one x l) in
      let a : sum_to g m ≡ g i + g n + sum_to (without (without g i) n) m =
      omega (arith, sum-without g i m hi, sum-without (without g i) n m hn, without_other g i n (λ e. ne (sym e))) in
      omega (arith, sum_split)
    where
      one : (x : ℕ) → x < m → without (without g i) n x ≤ without (without f i) n x
      one x l =
          elim (ℕ_discrete x n) [
            | yes e ↦ rw (e, without-same (without g i) n) (omega arith)
            | no e ↦ rw (without_other (without g i) n x e, without_other (without f i) n x e) (elim (ℕ_discrete x i) [
              | yes d ↦ rw (d, without-same g i) (omega arith)
              | no d ↦ rw (without_other g i x d, without_other f i x d) (h x l d e)
            ])
          ]
