-- What a call of `mend` leaves, read through its promise: an answer that refuses nothing leaves a field that is refused nothing,
-- and the same call again changes nothing. Assumes nothing.
use Prim.Native.Nat.{ℕ, ◌*◌, ◌≤◌}
use mathlib.Core.Path.{◌≡◌, sym, ap, ◌∙◌}
use mathlib.Core.List.{List, []}
use lib.ListN.{length}
use Rattle.rules.specs.Field.{Field}
use Rattle.rules.specs.Refusals.{refusal}
use Rattle.rules.specs.Mend.{MendOutcome, relinked, mend_outcome}
use Rattle.mend.specs.Answer.{mend_refused_by, changes_in, outcome}
use Rattle.std.specs.Prelude.{Result, Ok}
use Rattle.mend.specs.declared.MendRefusal.{MendRefusal}
use Rattle.mend.proofs.Mended.{mend_sound, sound_same, mend_fits}

module _ (F : Field) (changes : List ℕ) (a : Result ℕ MendRefusal) (con l : List ℕ) (e : outcome a con l ≡ mend_outcome F changes) (z : mend_refused_by a ≡ 0) where
  -- "The result is never refused 5 or 6"
  pub call_leaves_sound : refusal (relinked F con) [] ≡ 0
  call_leaves_sound =
      rw (ap (λ (v : MendOutcome). v.con) e) (mend_sound F changes (sym (ap (λ (v : MendOutcome). v.refused) e) ∙ z))

  -- "mending twice is mending once"
  pub call_twice : (again : List ℕ) (b : Result ℕ MendRefusal) (con' l' : List ℕ) → outcome b con' l' ≡ mend_outcome (relinked F con) again
      → (mend_refused_by b ≡ 0) × (changes_in b ≡ 0) × (con' ≡ con) × (l' ≡ again)
  call_twice again b con' l' f =
      let g = f ∙ sound_same (relinked F con) call_leaves_sound again in (
        ap (λ (v : MendOutcome). v.refused) g,
        ap (λ (v : MendOutcome). v.count) g,
        ap (λ (v : MendOutcome). v.con) g,
        ap (λ (v : MendOutcome). v.changes) g,
      )

-- every change has its place in the list
pub call_fits : (F : Field) (changes : List ℕ) (a : Result ℕ MendRefusal) (con l : List ℕ) (k : ℕ) → outcome a con l ≡ mend_outcome F changes → a ≡ Ok k
    → 3 * k ≤ length changes
call_fits F changes a con l k e z =
    let f : outcome (Ok k) con l ≡ mend_outcome F changes = ap (λ (v : Result ℕ MendRefusal). outcome v con l) (sym z) ∙ e in
    rw (ap (λ (v : MendOutcome). v.count) f) (mend_fits F changes (sym (ap (λ (v : MendOutcome). v.refused) f)))
