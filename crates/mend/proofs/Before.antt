-- What it says that none of refusals 1 to 4 is given: the field's cells are in order.
-- Each of the four tests that did not come to its number did not hold. Assumes nothing.
use Prim.Native.Nat.{ℕ, ◌≤◌}
use native.Mathlib.Omega.{arith}
use mathlib.Core.Path.{◌≡◌, refl, sym, ◌∙◌}
use mathlib.Core.Bool.{Bool, true, false, true≢false}
use mathlib.Core.List.{[]}
use lib.Dec.{leb}
use borrow.Author.Tests.{ltb-false, leb-true, le-leb, not-false}
use Rattle.rules.specs.Base.{◌and◌, when◌then◌else◌}
use Rattle.rules.specs.Field.{Field}
use Rattle.rules.specs.Refusals.{too_wide, too_many, wrong_length, wrong_cells, refusal}
use Rattle.laws.proofs.Basics.{both, neither}
use Rattle.field.specs.Lent.{Celled}
use Rattle.field.proofs.Passed.{celled_of}
use Rattle.mend.specs.Answer.{before_links}

-- a choice that did not come to k
past : (b : Bool) (x k r : ℕ) → x ≡ (when b then k else r) → (x ≡ k → ⊥) → (b ≡ false) × (x ≡ r)
unfolding when◌then◌else◌
past true x k r e n = absurd (n e)
past false x k r e n = (refl, e)

only : (b : Bool) (u : ℕ) → (leb 1 u and leb u 4) ≡ b → before_links u ≡ 0 → b ≡ false
unfolding before_links when◌then◌else◌
only true u f e = let z : u ≡ 0 = rw f at e in absurd (omega (arith, leb-true 1 u (both _ _ f).0))
only false u f e = refl

-- what comes to 0 is none of 1 to 4
module _ (u : ℕ) (e : before_links u ≡ 0) where
  pub links_only : (leb 1 u and leb u 4) ≡ false
  links_only = only (leb 1 u and leb u 4) u refl e

  links_not : (k : ℕ) → 1 ≤ k → k ≤ 4 → u ≡ k → ⊥
  unfolding ◌and◌
  links_not k a b f = true≢false (sym (rw (le-leb 1 u (omega arith)) (le-leb u 4 (omega arith))) ∙ links_only)

-- so the field's cells are in order
pub ends_celled : (F : Field) → before_links (refusal F []) ≡ 0 → Celled F
unfolding refusal too_wide too_many wrong_cells
ends_celled F z =
    let p = past (too_wide F) (refusal F []) 1 _ refl (links_not (refusal F []) z 1 (omega arith) (omega arith)) in
    let q = past (too_many F) (refusal F []) 2 _ p.1 (links_not (refusal F []) z 2 (omega arith) (omega arith)) in
    let r = past (wrong_length F []) (refusal F []) 3 _ q.1 (links_not (refusal F []) z 3 (omega arith) (omega arith)) in
    let s = past (wrong_cells F) (refusal F []) 4 _ r.1 (links_not (refusal F []) z 4 (omega arith) (omega arith)) in
    let v = neither _ _ p.0 in
    celled_of F [] (ltb-false _ _ v.0) (ltb-false _ _ v.1) (ltb-false _ _ q.0) r.0 (not-false _ s.0)
