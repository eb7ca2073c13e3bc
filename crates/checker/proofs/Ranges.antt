-- `all` over the numbers below n, where its closure is p, answers `every n p`. Assumes nothing.
use Prim.Native.Nat.{ℕ, ◌<◌}
use native.Mathlib.Omega.{arith}
use mathlib.Core.Path.{◌≡◌, refl, sym}
use mathlib.Core.Bool.{Bool, true, false}
use lib.ListN.{length, get_or}
use Rattle.std.specs.Bool.{MatchBool}
use Rattle.std.specs.List.{AllWithin, HoldsAt, range_with_len}
use Rattle.std.proofs.lemmas.List.FromFn.{length-range_with_len, get_or-range_with_len}
use Rattle.rules.specs.Base.{every}
use Rattle.laws.proofs.Basics.{every_all}
use Rattle.field.proofs.Loops.{every_halt}

pub every_of_all : (n : ℕ) (p : ℕ → Bool) (r : Bool)
    → MatchBool r (AllWithin (λ x. p x ≡ true) (range_with_len 0 n) 0 (length (range_with_len 0 n)))
    ((k : ℕ) × (k < length (range_with_len 0 n)) × HoldsAt (λ x. p x ≡ false) (range_with_len 0 n) k)
    → r ≡ every n p
every_of_all n p true m =
    sym (every_all n p
    (λ i h.
    let l : i < length (range_with_len 0 n) = omega (arith, length-range_with_len 0 n) in
    let e : get_or (range_with_len 0 n) i 0 ≡ i = omega (arith, get_or-range_with_len 0 n i 0 h) in
    rw e at (m i 0 (omega arith) l)))
every_of_all n p false (k, h, z) =
    let l : k < n = omega (arith, length-range_with_len 0 n) in
    let e : get_or (range_with_len 0 n) k 0 ≡ k = omega (arith, get_or-range_with_len 0 n k 0 l) in
    let f : p k ≡ false = rw e at (z 0) in
    every_halt p n k false l (sym f) refl
