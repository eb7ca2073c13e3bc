-- What stays, stays: setting connections that do not stay to none changes nothing for the others, in whatever order it is done.
-- One that stays is answered by one that stays, which is therefore not set to none; one that does not is answered by none, before and after. Assumes nothing.
use Prim.Native.Nat.{ℕ, ◌+◌, ◌%◌, ◌<◌}
use native.Mathlib.Omega.{arith}
use native.Mathlib.Nat.{mod-lt}
use native.Mathlib.Decide.{ℕ_discrete}
use mathlib.Core.Path.{◌≡◌, sym, ◌∙◌}
use mathlib.Core.Bool.{true, false, true≢false}
use mathlib.Core.List.{List}
use borrow.Author.Tests.{eq-eqb, ne_eqb}
use Rattle.rules.specs.Base.{◌and◌, ◌or◌}
use Rattle.rules.specs.Field.{Field, spans, con_of, near}
use Rattle.rules.specs.Refusals.{good_con, good_back}
use Rattle.rules.specs.Mend.{stays, relinked}
use Rattle.laws.proofs.Basics.{both, same_test}
use Rattle.field.specs.Lent.{Celled}
use Rattle.checker.proofs.Counted.{has_link}
use Rattle.checker.proofs.Halves.{stands_there, leads_back, answer_some, answer_good}

-- none stays none
pub none_stays : (F : Field) (s d : ℕ) → con_of F s d ≡ 255 → stays F s d ≡ true
unfolding stays good_con good_back ◌or◌ ◌and◌
none_stays F s d e = rw (eq-eqb (con_of F s d) 255 e)

-- a connection that is not none
linked : (F : Field) (s d : ℕ) → (con_of F s d ≡ 255 → ⊥) → has_link F d s ≡ true
unfolding has_link
linked F s d n = rw (ne_eqb (con_of F s d) 255 n)

-- y in place of F's connection of span t in direction e: the same, or none where that does not stay
pub data Loses (F : Field) (t e y : ℕ) : Type 0 where
  same : y ≡ con_of F t e → Loses F t e y
  loses : y ≡ 255 → stays F t e ≡ false → Loses F t e y

-- F and the field with other connections, each of which is the same, or none where it did not stay
module _ (F : Field) (ok : Celled F) (con : List ℕ) (ok' : Celled (relinked F con))
    (some : (t e : ℕ) → t < spans F → e < 4 → Loses F t e (con_of (relinked F con) t e)) where
  near_same : (s d : ℕ) → con_of (relinked F con) s d ≡ con_of F s d → near (relinked F con) s d ≡ near F s d
  unfolding near
  near_same s d e = rw e

  reach-same : (s d : ℕ) → con_of (relinked F con) s d ≡ con_of F s d → good_con (relinked F con) s d ≡ good_con F s d
  unfolding good_con
  reach-same s d e = rw e

  module _ (s d : ℕ) (h : s < spans F) (l : d < 4) (e : con_of (relinked F con) s d ≡ con_of F s d) where
    turn_in : (d + 2) % 4 < 4
    turn_in = mod-lt (d + 2) (omega arith)

    -- it stays
    pub stays_on : stays F s d ≡ true → stays (relinked F con) s d ≡ true
    unfolding stays good_back ◌or◌ ◌and◌
    stays_on g =
        elim (ℕ_discrete (con_of F s d) 255) [
          | yes n ↦ none_stays (relinked F con) s d (e ∙ n)
          | no n ↦
              let k = linked F s d n in
              let t = near F s d in
              let r : good_con F s d ≡ true = (both _ _ g).0 in
              let b : stays F t ((d + 2) % 4) ≡ true = answer_good F ok s d h l k g in
              let a : con_of (relinked F con) t ((d + 2) % 4) ≡ con_of F t ((d + 2) % 4) =
              kept t ((d + 2) % 4) b (some t ((d + 2) % 4) (stands_there F ok s d h l k g).span turn_in) in
              rw (reach-same s d e, r, e, ne_eqb (con_of F s d) 255 n, near_same s d e, near_same t ((d + 2) % 4) a)
              (eq-eqb _ _ (leads_back F ok s d h l k g))
        ]
      where
        kept : (t e : ℕ) → stays F t e ≡ true → Loses F t e (con_of (relinked F con) t e) → con_of (relinked F con) t e ≡ con_of F t e
        kept t e b (same p) = p
        kept t e b (loses p q) = absurd (true≢false (sym b ∙ q))

    -- and did before
    stayed : stays (relinked F con) s d ≡ true → stays F s d ≡ true
    unfolding stays good_back ◌or◌ ◌and◌
    stayed g =
        elim (ℕ_discrete (con_of F s d) 255) [
          | yes n ↦ none_stays F s d n
          | no n ↦
              let k = linked (relinked F con) s d (λ z. n (sym e ∙ z)) in
              let t = near (relinked F con) s d in
              let r : good_con F s d ≡ true = sym (reach-same s d e) ∙ (both _ _ g).0 in
              let a : con_of (relinked F con) t ((d + 2) % 4) ≡ con_of F t ((d + 2) % 4) =
              kept t ((d + 2) % 4) (answer_some (relinked F con) ok' s d h l k g)
              (some t ((d + 2) % 4) (stands_there (relinked F con) ok' s d h l k g).span turn_in) in
              rw (r, ne_eqb (con_of F s d) 255 n, ← near_same s d e, ← near_same t ((d + 2) % 4) a)
              (eq-eqb _ _ (leads_back (relinked F con) ok' s d h l k g))
        ]
      where
        kept : (t e : ℕ) → (con_of (relinked F con) t e ≡ 255 → ⊥) → Loses F t e (con_of (relinked F con) t e) → con_of (relinked F con) t e ≡ con_of F t e
        kept t e b (same p) = p
        kept t e b (loses p q) = absurd (b p)

    pub decides_same : stays (relinked F con) s d ≡ stays F s d
    decides_same = same_test _ _ stayed stays_on
