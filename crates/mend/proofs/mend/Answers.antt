-- The verdict decides: a sound field is left as it is, a refusal 1 to 4 is given, 5 or 6 is mended.
use Prim.Native.Nat.{◌≤◌}
use native.Mathlib.Omega.{arith}
use Rattle.mend.proofs.Ends.{ends_refused, ends_sound, ends_mends}
use borrow.Author.Rules.{rules}
use Rattle.mend.proofs.mend.Goals as goal

pub mend_all-requires : goal.mend_all-requires
mend_all-requires c = let past : 5 ≤ c.number.result = omega (arith, c.if-number-lt-LINKS.false) in search (rules, ends_mends)

pub returns-in-Ok : goal.returns-in-Ok
returns-in-Ok c = search (rules, ends_sound)

pub returns-then-number-lt-LINKS : goal.returns-then-number-lt-LINKS
returns-then-number-lt-LINKS c = search (rules, ends_refused)
