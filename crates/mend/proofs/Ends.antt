-- The entry's four ends: a refusal 1 to 4, a sound field, a list without room, and the mending.
-- The verdict tells the first two, the count of changes the others apart. Assumes nothing.
use Prim.Native.Nat.{ℕ, ◌+◌, ◌*◌, ◌/◌, ◌≤◌, ◌<◌}
use native.Mathlib.Omega.{arith}
use native.Mathlib.Nat.{div-add-mod'}
use mathlib.Core.Path.{◌≡◌, refl, sym, ap, ◌∙◌}
use mathlib.Core.Bool.{true}
use mathlib.Core.List.{List, [], ◌∷◌}
use lib.ListN.{length}
use lib.Dec.{leb}
use borrow.Author.Tests.{eq-eqb, ne_eqb, lt-ltb, le-ltb, lt-leb, le-leb}
use Rattle.rules.specs.Base.{◌and◌, when◌then◌else◌, every}
use Rattle.rules.specs.Field.{Field, spans}
use Rattle.rules.specs.Refusals.{wrong_length, refusal}
use Rattle.rules.specs.Mend.{MendOutcome, changed, mend_refusal, mend_outcome}
use Rattle.field.specs.Lent.{lent}
use Rattle.checker.specs.Answer.{number_of, verdict_number}
use Rattle.checker.specs.declared.Refusal.{Refusal}
use Rattle.std.specs.Prelude.{Result, Ok, Err}
use Rattle.checker.proofs.Numbers.{number_pos}
use Rattle.mend.specs.Walk.{state, ground, walk, Ready}
use Rattle.mend.specs.Answer.{before_links}
use Rattle.mend.proofs.Before.{links_only, ends_celled}
use Rattle.mend.proofs.WalkLaws.{walk_keeps}
use Rattle.mend.proofs.Walked.{walk_counts, walk_writes}
use Rattle.mend.proofs.Mended.{sound_same}

-- ---------------------------------------------------------------- refusals 1 to 4

-- two lists of n numbers refuse nothing
lens_same : (F : Field) → refusal F (spans F ∷ spans F ∷ []) ≡ refusal F []
unfolding refusal wrong_length every ◌and◌
lens_same F = rw (eq-eqb (spans F) (spans F) refl)

-- an answer from the state that is left
made_outcome : {a b c d : List ℕ} {m k : ℕ} → state a b m ≡ state c d k
    → ◌≡◌ {A = MendOutcome} (record { refused = 0; count = m; con = a; changes = b }) (record { refused = 0; count = k; con = c; changes = d })
made_outcome e = ap (λ v. record { refused = 0; count = v.found; con = v.con; changes = v.changes }) e

-- a number is one of 1 to 4, or past them
low_before : (u : ℕ) → 0 < u → u < 5 → (leb 1 u and leb u 4) ≡ true
unfolding ◌and◌
low_before u p l = rw (le-leb 1 u p) (le-leb u 4 (omega arith))

high_before : (u : ℕ) → 5 ≤ u → before_links u ≡ 0
unfolding before_links ◌and◌ when◌then◌else◌
high_before u l = rw (le-leb 1 u (omega arith), lt-leb u 4 (omega arith))

module _ (w h : ℕ) (is ks ar cs : List ℕ) where
  -- the verdict, with two lists of n numbers as the entry's own
  module _ (n : ℕ) (l : n ≡ length ar) (v : Result Unit Refusal) (e : verdict_number v ≡ refusal (lent w h is ks ar cs) (n ∷ n ∷ [])) where
    own_number : verdict_number v ≡ refusal (lent w h is ks ar cs) []
    own_number =
        let q : verdict_number v ≡ refusal (lent w h is ks ar cs) (length ar ∷ length ar ∷ []) = rw l at e in
        q ∙ lens_same (lent w h is ks ar cs)

    pub ends_sound : (ch : List ℕ) → v ≡ Ok tt
        → ◌≡◌ {A = MendOutcome} (record { refused = 0; count = 0; con = cs; changes = ch }) (mend_outcome (lent w h is ks ar cs) ch)
    ends_sound ch z = sym (sound_same (lent w h is ks ar cs) (sym own_number ∙ ap verdict_number z) ch)

    module _ (r : Refusal) (z : v ≡ Err r) (k : ℕ) (f : k ≡ number_of r) where
      given : refusal (lent w h is ks ar cs) [] ≡ number_of r
      given = sym own_number ∙ ap verdict_number z

      pub ends_refused : (ch : List ℕ) → k < 5
          → ◌≡◌ {A = MendOutcome} (record { refused = number_of r; count = 0; con = cs; changes = ch }) (mend_outcome (lent w h is ks ar cs) ch)
      unfolding mend_outcome mend_refusal when◌then◌else◌
      ends_refused ch y =
          rw (given, low_before (number_of r) (number_pos r) (omega (arith, f)), ne_eqb (number_of r) 0 (λ q. omega (arith, number_pos r)))

      pub ends_mends : 5 ≤ k → before_links (refusal (lent w h is ks ar cs) []) ≡ 0
      ends_mends y = rw given (high_before (number_of r) (omega (arith, f)))

  -- a field with none of them
  module _ (ok : before_links (refusal (lent w h is ks ar cs) []) ≡ 0) (ch : List ℕ) where
    pub ready_none : Ready (lent w h is ks ar cs) ch 0 0 (4 * length ar)
    ready_none = let v = ends_celled (lent w h is ks ar cs) ok in record { celled = v; places = omega arith; few = omega (arith, v.few) }

    -- after the count
    module _ (cs₁ ch₁ : List ℕ) (found : ℕ) (e : state cs₁ ch₁ found ≡ walk (ground w h is ks ar) 0 0 (4 * length ar) (state cs ch 0)) where
      as_was : state cs₁ ch₁ found ≡ state cs ch (changed (lent w h is ks ar cs))
      as_was = e ∙ walk_counts w h is ks ar cs ch (4 * length ar)

      con_was : cs₁ ≡ cs
      con_was = ap (λ v. v.con) as_was

      changes_was : ch₁ ≡ ch
      changes_was = ap (λ v. v.changes) as_was

      found_is : found ≡ changed (lent w h is ks ar cs)
      found_is = ap (λ v. v.found) as_was

      module _ (room : ℕ) (r : room ≡ length ch / 3) where
        fits : 3 * room ≤ length ch
        fits = omega (arith, div-add-mod' (length ch) 3)

        pub ends_full : room < found
            → ◌≡◌ {A = MendOutcome} (record { refused = 27; count = 0; con = cs₁; changes = ch₁ }) (mend_outcome (lent w h is ks ar cs) ch)
        unfolding mend_outcome mend_refusal when◌then◌else◌
        ends_full l =
            let g : length ch / 3 < changed (lent w h is ks ar cs) = omega (arith, found_is) in
            rw (con_was, changes_was, links_only (refusal (lent w h is ks ar cs) []) ok, lt-ltb _ _ g)

        pub ready_all : Ready (lent w h is ks ar cs₁) ch₁ room 0 (4 * length ar)
        ready_all =
            rw (con_was, changes_was)
            (let v = ends_celled (lent w h is ks ar cs) ok in record { celled = v; places = fits; few = omega (arith, v.few) })

        module _ (cs₂ ch₂ : List ℕ) (made : ℕ) (f : state cs₂ ch₂ made ≡ walk (ground w h is ks ar) room 0 (4 * length ar) (state cs₁ ch₁ 0)) where
          pub made_small : made < 4294967296
          made_small =
              let q : made ≤ 0 + 4 * length ar = rw (← f) at (walk_keeps (ground w h is ks ar) room 0 (4 * length ar) (state cs₁ ch₁ 0)).found in
              omega (arith, (ends_celled (lent w h is ks ar cs) ok).few)

          pub ends_made : found ≤ room
              → ◌≡◌ {A = MendOutcome} (record { refused = 0; count = made; con = cs₂; changes = ch₂ }) (mend_outcome (lent w h is ks ar cs) ch)
          unfolding mend_outcome mend_refusal when◌then◌else◌
          ends_made l =
              let a : changed (lent w h is ks ar cs) ≤ room = omega (arith, found_is) in
              let b : changed (lent w h is ks ar cs) ≤ length ch / 3 = omega arith in
              let z : state cs₂ ch₂ made ≡ walk (ground w h is ks ar) room 0 (4 * length ar) (state cs ch 0) = rw (con_was, changes_was) at f in
              let y = z ∙ walk_writes w h is ks ar cs ch room (ends_celled (lent w h is ks ar cs) ok) a fits in
              rw (links_only (refusal (lent w h is ks ar cs) []) ok, le-ltb _ _ b) (made_outcome y)
