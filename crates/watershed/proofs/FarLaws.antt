-- Refusals 7 and 8 as the code tests for them, and the order of the tests.
-- Each test that fails gives its number, after those before it have passed.
use Prim.Native.Nat.{ℕ, ◌+◌, ◌*◌, ◌≤◌, ◌<◌}
use native.Mathlib.Omega.{arith}
use mathlib.Core.Path.{◌≡◌, refl, sym, ap, ◌∙◌}
use mathlib.Core.Bool.{Bool, true, false}
use mathlib.Core.List.{List}
use lib.Dec.{ltb}
use borrow.Author.Tests.{lt-ltb, le-ltb, eq-eqb, ne_eqb}
use Rattle.rules.specs.Base.{◌or◌, when◌then◌else◌, any}
use Rattle.rules.specs.Field.{Field, spans}
use Rattle.rules.specs.Refusals.{refusal, too_short, too_far, region_refusal, most_spans}
use Rattle.checker.specs.Answer.{number_of, verdict_number}
use Rattle.checker.specs.declared.Refusal.{Refusal}
use Rattle.checker.specs.declared.Refusal.TheVariants.{TooShort, TooFar}
use Rattle.std.specs.Prelude.{Result, Ok, Err}
use Rattle.field.proofs.Passed.{reached_of}
use Rattle.watershed.specs.Stages.{own_refusal}
use Rattle.checker.proofs.Numbers.{number_pos}

module _ (dist : List ℕ) (most : ℕ) where
  pub far_most : 510 < most → ltb 510 most ≡ too_far dist most
  unfolding too_far ◌or◌
  far_most h = rw (lt-ltb 510 most h) refl

  pub far-any : most ≤ 510 → (r : Bool) → r ≡ any (ltb most) dist → r ≡ too_far dist most
  unfolding too_far ◌or◌
  far-any h r e = rw (le-ltb 510 most h) e

-- ---------------------------------------------------------------- the order

pub few_spans : (F : Field) (lens : List ℕ) (v : Result Unit Refusal) → verdict_number v ≡ refusal F lens → v ≡ Ok tt → spans F ≤ most_spans
few_spans F lens v e z = (reached_of F lens (sym e ∙ ap verdict_number z)).celled.few

-- 7 after 1 to 6 have passed
pub short_seven : (F : Field) (lens : List ℕ) (work : ℕ) (dist : List ℕ) (most : ℕ) → refusal F lens ≡ 0 → work < 128 * spans F + 4096
    → 7 ≡ region_refusal F lens work dist most
unfolding region_refusal when◌then◌else◌ too_short
short_seven F lens work dist most e h = rw (eq-eqb (refusal F lens) 0 e, lt-ltb work (128 * spans F + 4096) h)

module _ (F : Field) (lens : List ℕ) (work : ℕ) (dist : List ℕ) (most : ℕ) (v : Result Unit Refusal) (e : verdict_number v ≡ refusal F lens) where
  pub first_refused : (r : Refusal) → v ≡ Err r → number_of r ≡ region_refusal F lens work dist most
  unfolding region_refusal when◌then◌else◌
  first_refused r z =
      let n : number_of r ≡ refusal F lens = ap verdict_number (sym z) ∙ e in
      rw (ne_eqb (refusal F lens) 0 (λ k. omega (arith, number_pos r))) n

  module _ (z : v ≡ Ok tt) where
    none : refusal F lens ≡ 0
    none = sym e ∙ ap verdict_number z

    -- both in their order, as one number
    pub then_own : (short far : Bool) → short ≡ ltb work (128 * spans F + 4096) → far ≡ too_far dist most → (u : Result Unit Refusal) → verdict_number u ≡ own_refusal short far
        → verdict_number u ≡ region_refusal F lens work dist most
    unfolding region_refusal when◌then◌else◌ too_short own_refusal
    then_own short far p q u h = h ∙ rw (eq-eqb (refusal F lens) 0 none, p, q)

    -- each way out of the code is a case of it: 7 whatever the distances, else 8, else none
    pub then_seven : work < 128 * spans F + 4096 → 7 ≡ region_refusal F lens work dist most
    unfolding own_refusal when◌then◌else◌
    then_seven h = then_own true (too_far dist most) (sym (lt-ltb work (128 * spans F + 4096) h)) refl (Err TooShort) refl

    module _ (h : 128 * spans F + 4096 ≤ work) where
      pub then_eight : true ≡ too_far dist most → 8 ≡ region_refusal F lens work dist most
      unfolding own_refusal when◌then◌else◌
      then_eight f = then_own false true (sym (le-ltb work (128 * spans F + 4096) h)) f (Err TooFar) refl

      pub then_none : false ≡ too_far dist most → 0 ≡ region_refusal F lens work dist most
      unfolding own_refusal when◌then◌else◌
      then_none f = then_own false false (sym (le-ltb work (128 * spans F + 4096) h)) f (Ok tt) refl
