-- Plain ids, not 0 and not flagged, as a code tests for them: two tests, one after the other.
-- Each outcome of the two settles the rule's test.
use Prim.Native.Nat.{ℕ, ◌≤◌, ◌<◌}
use mathlib.Core.Path.{◌≡◌}
use mathlib.Core.Bool.{true, false, not}
use lib.Dec.{eqb}
use borrow.Author.Tests.{eq-eqb, ne_eqb, lt-leb, le-leb}
use Rattle.rules.specs.Base.{◌and◌}
use Rattle.rules.specs.Growth.{plain}
use Rattle.laws.proofs.Basics.{and_no}

pub plain_zero : (r : ℕ) → r ≡ 0 → plain r ≡ false
unfolding ◌and◌
plain_zero r e = rw (eq-eqb r 0 e)

pub plain-flagged : (r : ℕ) → 32768 ≤ r → plain r ≡ false
plain-flagged r h = rw (le-leb 32768 r h) (and_no (not (eqb r 0)))

pub plain_yes : (r : ℕ) → (r ≡ 0 → ⊥) → r < 32768 → plain r ≡ true
unfolding ◌and◌
plain_yes r n h = rw (ne_eqb r 0 n, lt-leb 32768 r h)
