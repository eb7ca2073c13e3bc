-- Laws of an id looked for in a list, whether it is there, and its first place; and of an entry above a limit.
use Prim.Native.Nat.{ℕ, zero, suc, ◌+◌, ◌-◌, ◌≤◌, ◌<◌}
use native.Mathlib.Omega.{arith}
use native.Mathlib.Decide.{ℕ_discrete, dec_lt}
use mathlib.Core.Path.{◌≡◌, refl, sym, ap, ◌∙◌}
use mathlib.Core.Bool.{Bool, true, false, false≢true, cond}
use mathlib.Core.List.{List, [], ◌∷◌}
use lib.ListN.{length, get_or, take, drop, length-drop}
use lib.Seq.{drop-drop, take-length}
use lib.Dec.{eqb, ltb}
use borrow.Author.Tests.{eq-eqb, ne_eqb, lt-ltb, le-ltb}
use Rattle.rules.specs.Base.{◌or◌, when◌then◌else◌, any}
use Rattle.rules.specs.Merge.{place}
use Rattle.rules.specs.Records.{has}
use Rattle.laws.proofs.Basics.{code_or}
use Rattle.std.specs.List.{list_any, position_or_len}
use Rattle.std.specs.Option.{unwrap_or}
use Rattle.std.proofs.Common.{Option, Some, None}

-- ---- by the first entry

pub has_cons : (x : ℕ) (l : List ℕ) (v : ℕ) → (x ≡ v → ⊥) → has (x ∷ l) v ≡ has l v
unfolding any ◌or◌
has_cons x l v h = rw (ne_eqb v x (λ e. h (sym e)))

pub has-head : (l : List ℕ) (v : ℕ) → has (v ∷ l) v ≡ true
unfolding any ◌or◌
has-head l v = rw (eq-eqb v v refl)

pub place_other : (x : ℕ) (l : List ℕ) (v : ℕ) → (x ≡ v → ⊥) → place (x ∷ l) v ≡ suc (place l v)
unfolding place when◌then◌else◌
place_other x l v h = rw (ne_eqb x v h)

pub place-first : (x : ℕ) (l : List ℕ) (v : ℕ) → x ≡ v → place (x ∷ l) v ≡ 0
unfolding place when◌then◌else◌
place-first x l v h = rw (eq-eqb x v h)

-- ---- its first place

-- entries without r are passed over
pub place_past : (k : ℕ) (l : List ℕ) (r : ℕ) → k ≤ length l → has (take k l) r ≡ false → place l r ≡ k + place (drop k l) r
unfolding place any ◌or◌ when◌then◌else◌
place_past zero l r h e = omega arith
place_past (suc k) [] r h e = absurd (omega arith)
place_past (suc k) (x ∷ l) r h e =
    elim (ℕ_discrete x r) [
      | yes q ↦ absurd (false≢true (sym e ∙ ap (λ v. has (x ∷ take k l) v) (sym q) ∙ has-head (take k l) x))
      | no q ↦ rw (place_other x l r q) (omega (arith, place_past k l r (omega arith) (sym (has_cons x (take k l) r q) ∙ e)))
    ]

module _ (l : List ℕ) (r i : ℕ) (e : place l r ≡ i + place (drop i l) r) where
  pub place_block : (b : Bool) → b ≡ has (take (i + 16 - i) (drop i l)) r → b ≡ false → i + 16 ≤ length l → place l r ≡ (i + 16) + place (drop (i + 16) l) r
  place_block b q f h =
      let n : i + 16 - i ≡ 16 = omega arith in
      let z = place_past 16 (drop i l) r (rw (length-drop i l) (omega arith)) (rw n at (sym q ∙ f)) in
      omega (arith, e, z ∙ ap (λ m. 16 + place m r) (drop-drop 16 i l))

  pub place_rest : (p : ℕ) → i ≤ length l → p ≡ place (take (length l - i) (drop i l)) r → i + p ≡ place l r
  place_rest p h q =
      let z : take (length l - i) (drop i l) ≡ drop i l = rw (← length-drop i l) (take-length (drop i l)) in
      omega (arith, e, q ∙ ap (λ m. place m r) z)

pub place-within : (l : List ℕ) (r : ℕ) → place l r ≤ length l
unfolding place when◌then◌else◌
place-within [] r = omega arith
place-within (x ∷ l) r = elim (ℕ_discrete x r) [
  | yes q ↦ rw (place-first x l r q) (omega arith)
  | no q ↦ rw (place_other x l r q) (omega (arith, place-within l r))
]

-- before it stands something else
pub place_before : (l : List ℕ) (r j : ℕ) → j < place l r → get_or l j 0 ≡ r → ⊥
unfolding place when◌then◌else◌
place_before [] r j h e = omega arith
place_before (x ∷ l) r zero h e = omega (arith, place-first x l r e)
place_before (x ∷ l) r (suc j) h e = elim (ℕ_discrete x r) [
  | yes q ↦ omega (arith, place-first x l r q)
  | no q ↦ place_before l r j (omega (arith, place_other x l r q)) e
]

-- and there it stands, if it is there
pub place-holds : (l : List ℕ) (r : ℕ) → place l r < length l → get_or l (place l r) 0 ≡ r
unfolding place when◌then◌else◌
place-holds [] r h = absurd (omega arith)
place-holds (x ∷ l) r h = elim (ℕ_discrete x r) [
  | yes q ↦ rw (place-first x l r q) q
  | no q ↦ rw (place_other x l r q) (place-holds l r (omega (arith, place_other x l r q)))
]

-- ---------------------------------------------------------------- as the slice's own methods say it

pub any_listed : (p : ℕ → Bool) (l : List ℕ) → list_any p l ≡ any p l
unfolding any ◌or◌
any_listed p [] = refl
any_listed p (x ∷ l) = rw (any_listed p l, code_or (p x) (any p l)) refl

pub has_listed : (l : List ℕ) (r : ℕ) → list_any (λ y. eqb y r) l ≡ has l r
unfolding any
has_listed [] r = refl
has_listed (x ∷ l) r = elim (ℕ_discrete x r) [
  | yes q ↦ rw (eq-eqb x r q, q) (sym (has-head l r))
  | no q ↦ rw (ne_eqb x r q) (has_listed l r ∙ sym (has_cons x l r q))
]

place_nil : (r : ℕ) → 0 ≡ place [] r
unfolding place
place_nil r = refl

place_listed : (l : List ℕ) (r : ℕ) → position_or_len (λ x. eqb x r) l ≡ place l r
place_listed [] r = place_nil r
place_listed (x ∷ l) r = elim (ℕ_discrete x r) [
  | yes q ↦ rw (eq-eqb x r q) (sym (place-first x l r q))
  | no q ↦ rw (ne_eqb x r q) (omega (arith, place_listed l r, place_other x l r q))
]

pub place_found : (l : List ℕ) (r : ℕ) (o : Option ℕ) → o ≡ cond (ltb (position_or_len (λ x. eqb x r) l) (length l)) (Some (position_or_len (λ x. eqb x r) l)) None
    → unwrap_or o (length l) ≡ place l r
place_found l r o e = elim (dec_lt (place l r) (length l)) [
  | yes q ↦ rw (e, place_listed l r, lt-ltb _ _ q) refl
  | no q ↦ let w = place-within l r in rw (e, place_listed l r, le-ltb (place l r) (length l) (omega arith)) (omega arith)
]
