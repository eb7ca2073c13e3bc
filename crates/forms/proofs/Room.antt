-- What is written and when: 24 exactly when there is no room, nothing where refused, and no place past the output.
-- By cases on the file's refusal and on the room. Assumes nothing.
use Prim.Native.Nat.{ℕ, ◌≤◌, ◌<◌}
use native.Mathlib.Omega.{arith}
use native.Mathlib.Decide.{dec_lt, ℕ_discrete}
use mathlib.Core.Path.{◌≡◌, refl, sym, ap, subst, ◌∙◌}
use mathlib.Core.List.{List, ◌++◌}
use lib.ListN.{length, take, drop, length-append, length-drop}
use lib.Seq.{take-append_seam, drop-append_seam}
use borrow.Author.Tests.{ne_eqb, lt-ltb, le-ltb}
use Rattle.rules.specs.Base.{when◌then◌else◌}
use Rattle.rules.specs.Stored.{StoredOutcome, given_out}

-- an outcome
abbrev pub gives : ℕ → ℕ → List ℕ → StoredOutcome
gives r n out = record { refused = r; long = n; out = out }

pub given_refused : (r : ℕ) (t out₀ : List ℕ) → (r ≡ 0 → ⊥) → given_out r t out₀ ≡ gives r 0 out₀
unfolding given_out when◌then◌else◌
given_refused r t out₀ n = rw (ne_eqb r 0 n)

pub given_full : (t out₀ : List ℕ) → length out₀ < length t → given_out 0 t out₀ ≡ gives 24 0 out₀
unfolding given_out when◌then◌else◌
given_full t out₀ h = rw (lt-ltb (length out₀) (length t) h)

pub given_done : (t out₀ : List ℕ) → length t ≤ length out₀ → given_out 0 t out₀ ≡ gives 0 (length t) (t ++ drop (length t) out₀)
unfolding given_out when◌then◌else◌
given_done t out₀ h = rw (le-ltb (length out₀) (length t) h)

-- the three cases
pub given_cases : (P : StoredOutcome → Type 0) (r : ℕ) (t out₀ : List ℕ) → ((r ≡ 0 → ⊥) → P (gives r 0 out₀)) → (r ≡ 0 → length out₀ < length t → P (gives 24 0 out₀))
    → (r ≡ 0 → length t ≤ length out₀ → P (gives 0 (length t) (t ++ drop (length t) out₀))) → P (given_out r t out₀)
given_cases P r t out₀ f g h =
    elim (ℕ_discrete r 0) [
      | no n ↦ subst P (sym (given_refused r t out₀ n)) (f n)
      | yes e ↦ elim (dec_lt (length out₀) (length t)) [
        | yes l ↦ subst P (sym (ap (λ k. given_out k t out₀) e ∙ given_full t out₀ l)) (g e l)
        | no l ↦ let le : length t ≤ length out₀ = omega arith in subst P (sym (ap (λ k. given_out k t out₀) e ∙ given_done t out₀ le)) (h e le)
      ]
    ]

-- "24 no room (exactly when the output would exceed the list lent ..)", of a file that is not refused itself
pub record NoRoom (r : ℕ) (t out₀ : List ℕ) (o : StoredOutcome) : Type 0 where
  pub given : r ≡ 0 → length out₀ < length t → o.refused ≡ 24
  pub only : o.refused ≡ 24 → (r ≡ 24 → ⊥) → (r ≡ 0) × (length out₀ < length t)

pub room_exactly : (r : ℕ) (t out₀ : List ℕ) → NoRoom r t out₀ (given_out r t out₀)
room_exactly r t out₀ =
    given_cases (NoRoom r t out₀) r t out₀
    (λ n. record { given = λ e l. absurd (n e); only = λ e f. absurd (f e) })
    (λ z l. record { given = λ e k. refl; only = λ e f. (z, l) })
    (λ z l. record { given = λ e k. absurd (omega arith); only = λ e f. absurd (omega arith) })

-- "nothing is written then", and places past the output keep what they held
pub record Kept (out₀ : List ℕ) (o : StoredOutcome) : Type 0 where
  pub refused : (o.refused ≡ 0 → ⊥) → (o.long ≡ 0) × (o.out ≡ out₀)
  pub past : drop o.long o.out ≡ drop o.long out₀
  pub length-same : length o.out ≡ length out₀

pub kept : (r : ℕ) (t out₀ : List ℕ) → Kept out₀ (given_out r t out₀)
kept r t out₀ =
    given_cases (Kept out₀) r t out₀
    (λ n. record { refused = λ e. (refl, refl); past = refl; length-same = refl })
    (λ z l. record { refused = λ e. (refl, refl); past = refl; length-same = refl })
    (λ z l. record { refused = λ e. absurd (e refl); past = drop-append_seam t (drop (length t) out₀); length-same = simp (length-append, length-drop) (omega arith) })

-- an accepted conversion
pub record Done (r : ℕ) (t out₀ : List ℕ) (o : StoredOutcome) : Type 0 where
  pub fine : r ≡ 0
  pub room : length t ≤ length out₀
  pub bytes : take o.long o.out ≡ t

pub accepted : (r : ℕ) (t out₀ : List ℕ) → (given_out r t out₀).refused ≡ 0 → Done r t out₀ (given_out r t out₀)
accepted r t out₀ =
    given_cases (λ o. o.refused ≡ 0 → Done r t out₀ o) r t out₀
    (λ n e. absurd (n e))
    (λ z l e. absurd (omega arith))
    (λ z l e. record { fine = z; room = l; bytes = take-append_seam t (drop (length t) out₀) })
