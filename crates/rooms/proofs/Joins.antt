-- Chains of connections through spans of one class. Assumes nothing.
use Prim.Native.Nat.{ℕ}
use native.Mathlib.Omega.{arith}
use mathlib.Core.Path.{◌≡◌, refl}
use mathlib.Core.Bool.{true}
use borrow.Author.Tests.{eqb-false, ne_eqb, lt-leb, leb-false, not-true}
use Rattle.rules.specs.Base.{◌and◌}
use Rattle.rules.specs.Net.{Net}
use Rattle.rules.specs.Growth.{plain}
use Rattle.laws.proofs.Basics.{both}
use Rattle.rooms.specs.Rooms.{Plain}
use Rattle.rooms.specs.Linked.{Linked, stay, goes, comes}

module _ (N : Net) (C : ℕ → Type 0) where
  pub joined-head : {s t : ℕ} → Linked N C s t → C s
  joined-head (stay c) = c
  joined-head (goes d h c p) = c
  joined-head (comes v d h e c p) = c

  pub joined_trans : {s t u : ℕ} → Linked N C s t → Linked N C t u → Linked N C s u
  joined_trans (stay c) q = q
  joined_trans (goes d h c p) q = goes d h c (joined_trans p q)
  joined_trans (comes v d h e c p) q = comes v d h e c (joined_trans p q)

  pub joined_sym : {s t : ℕ} → Linked N C s t → Linked N C t s
  joined_sym (stay c) = stay c
  joined_sym (goes {s = s} d h c p) = joined_trans (joined_sym p) (comes s d h refl (joined-head p) (stay c))
  joined_sym (comes {s = s} v d h e c p) = joined_trans (joined_sym p) (goes d h (joined-head p) (rw e (stay c)))

pub joined-map : (N : Net) {C D : ℕ → Type 0} → ((u : ℕ) → C u → D u) → {s t : ℕ} → Linked N C s t → Linked N D s t
joined-map N f (stay c) = stay (f _ c)
joined-map N f (goes d h c p) = goes d h (f _ c) (joined-map N f p)
joined-map N f (comes v d h e c p) = comes v d h e (f _ c) (joined-map N f p)

pub plain_true : (r : ℕ) → plain r ≡ true → Plain r
plain_true r e =
    let a = both _ _ e in
    let nz : r ≡ 0 → ⊥ = eqb-false r 0 (not-true _ a.0) in
    let lt = leb-false 0x8000 r (not-true _ a.1) in
    (omega arith, omega arith)

pub true_plain : (r : ℕ) → Plain r → plain r ≡ true
unfolding ◌and◌
true_plain r p = rw (ne_eqb r 0 (λ e. omega arith), lt-leb 0x8000 r p.1)
