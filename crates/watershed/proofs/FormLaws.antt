-- The dense form as the code makes it: ids less what comes before the first id, flagged ones and 0 as they were.
-- Each law is one way out of a function, over plain numbers and lists.
use Prim.Native.Nat.{ℕ, ◌-◌, ◌≤◌, ◌<◌}
use native.Mathlib.Omega.{arith}
use mathlib.Core.Path.{◌≡◌, refl, sym, ap, ◌∙◌}
use mathlib.Core.List.{List, [], ◌∷◌, map}
use borrow.Author.Tests.{eq-eqb, ne_eqb, leb-true, leb-false}
use Rattle.rules.specs.Base.{when◌then◌else◌}
use Rattle.rules.specs.Growth.{flagged, first_id}
use Rattle.rules.specs.Numbering.{Regions}
use Rattle.laws.proofs.Basics.{if-ind}
use Rattle.rooms.specs.Dense.{lower, lowered, shifted}
use Rattle.watershed.specs.Form.{form_of}
use Rattle.watershed.specs.declared.form.Form.{Form}
use Rattle.watershed.specs.declared.form.Form.TheVariants.{Dense, Compared}

module _ (b : ℕ) where
  pub first-without : b ≡ 0 → 1 ≡ first_id b
  unfolding first_id when◌then◌else◌
  first-without e = rw (eq-eqb b 0 e)

  pub first-with : (b ≡ 0 → ⊥) → 5 ≡ first_id b
  unfolding first_id when◌then◌else◌
  first-with e = rw (ne_eqb b 0 e)

module _ (d r : ℕ) where
  pub lower-flagged : 0x8000 ≤ r → r ≡ lower d r
  unfolding lower
  lower-flagged h = if-ind (λ (n : ℕ). r ≡ n) (flagged r) (λ _. refl) (λ e. absurd (omega (arith, leb-false 0x8000 r e)))

  pub lower-plain : r < 0x8000 → (x : ℕ) → x ≡ r - d → x ≡ lower d r
  unfolding lower
  lower-plain h x e = if-ind (λ (n : ℕ). x ≡ n) (flagged r) (λ t. absurd (omega (arith, leb-true 0x8000 r t))) (λ _. e)

lower-same : (r : ℕ) → lower 0 r ≡ r
unfolding lower
lower-same r = if-ind (λ (n : ℕ). n ≡ r) (flagged r) (λ _. refl) (λ _. omega arith)

-- less 0
pub lower-none : (ids : List ℕ) (d : ℕ) → d ≡ 0 → ids ≡ map (lower d) ids
lower-none [] d e = refl
lower-none (r ∷ ids) d e =
    ap (λ (x : ℕ). x ∷ ids) (sym (lower-same r) ∙ ap (λ (y : ℕ). lower y r) (sym e)) ∙ ap (λ (l : List ℕ). lower d r ∷ l) (lower-none ids d e)

-- the two forms
module _ (form : Form) (first : ℕ) (ids : List ℕ) (k o u : ℕ) where
  pub form_compared : form ≡ Compared
      → ◌≡◌ {A = Regions} (record { ids = ids; most = k; over = o; cut = u }) (shifted (form_of form) first (record { ids = ids; most = k; over = o; cut = u }))
  unfolding form_of shifted
  form_compared e = rw e refl

  pub form_dense : form ≡ Dense → (f d x : ℕ) (ids' : List ℕ) → f ≡ first → d ≡ f - 1 → ids' ≡ map (lower d) ids → x ≡ k - f
      → ◌≡◌ {A = Regions} (record { ids = ids'; most = x; over = o; cut = u }) (shifted (form_of form) first (record { ids = ids; most = k; over = o; cut = u }))
  unfolding form_of shifted lowered
  form_dense e f d x ids' ef ed ei ex = rw (e, ei, ed, ex, ef) refl
