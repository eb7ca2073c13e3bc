-- A list of another length: the checker's verdict, with lists that are one too long, is the first of refusals 1 to 3. Assumes nothing.
use Prim.Native.Nat.{ℕ}
use mathlib.Core.Path.{◌≡◌, sym, ap, ◌∙◌}
use mathlib.Core.List.{[], ◌∷◌}
use Rattle.std.specs.Prelude.{Result, Ok, Err}
use Rattle.rules.specs.Field.{Field}
use Rattle.rules.specs.Refusals.{refusal}
use Rattle.checker.specs.Answer.{number_of, verdict_number}
use Rattle.checker.specs.declared.Refusal.{Refusal}

module _ (F : Field) (n : ℕ) (v : Result Unit Refusal) (e : verdict_number v ≡ refusal F (n ∷ n ∷ [])) where
  pub long_refused : (k : ℕ) (x : Refusal) → v ≡ Err x → k ≡ number_of x → k ≡ refusal F (n ∷ n ∷ [])
  long_refused k x z f = f ∙ ap verdict_number (sym z) ∙ e

  pub long_sound : v ≡ Ok tt → 0 ≡ refusal F (n ∷ n ∷ [])
  long_sound z = ap verdict_number (sym z) ∙ e
