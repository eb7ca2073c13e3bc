-- A number in decimal, by its last digit: the rule's five digits are as many as a number of 16 bits has.
-- Assumes nothing.
use Prim.Native.Nat.{ℕ, suc, ◌+◌, ◌*◌, ◌/◌, ◌%◌, ◌≤◌, ◌<◌}
use native.Mathlib.Omega.{arith}
use native.Mathlib.Decide.{dec_lt}
use mathlib.Core.Path.{◌≡◌, refl, sym, ap, subst, ◌∙◌}
use mathlib.Core.List.{List, [], ◌∷◌, ◌++◌}
use borrow.Author.Tests.{lt-ltb, le-ltb}
use Rattle.rules.specs.Base.{when◌then◌else◌}
use Rattle.rules.specs.Listing.{digits, decimal}
use Rattle.file.specs.Written.{Room, Wrote}
use Rattle.file.proofs.Writing.{room_first, room_then, wrote_then}

one : (k v : ℕ) → v < 10 → digits (suc k) v ≡ (48 + v % 10) ∷ []
unfolding digits when◌then◌else◌
one k v h = rw (lt-ltb v 10 h)

more : (k v : ℕ) → 10 ≤ v → digits (suc k) v ≡ digits k (v / 10) ++ ((48 + v % 10) ∷ [])
unfolding digits when◌then◌else◌
more k v h = rw (le-ltb v 10 h)

-- one digit more than enough changes nothing: of a number below ten, and then of one below ten times as much
enough_one : (v : ℕ) → v < 10 → digits 1 v ≡ digits 2 v
enough_one v h = one 0 v h ∙ sym (one 1 v h)

enough : (k b : ℕ) → ((u : ℕ) → u < b → digits k u ≡ digits (suc k) u) → (v : ℕ) → v < b * 10 → digits (suc k) v ≡ digits (suc (suc k)) v
enough k b e v h =
    elim (dec_lt v 10) [
      | yes g ↦ one k v g ∙ sym (one (suc k) v g)
      | no g ↦
          let n : 10 ≤ v = omega arith in
          more k v n ∙ ap (λ (l : List ℕ). l ++ ((48 + v % 10) ∷ [])) (e (v / 10) (omega arith)) ∙ sym (more (suc k) v n)
    ]

four : (u : ℕ) → u < 10000 → digits 4 u ≡ digits 5 u
four = enough 3 1000 (enough 2 100 (enough 1 10 enough_one))

module _ (out : List ℕ) (at v : ℕ) (h : Room out at (decimal v)) (d : ℕ) (e : d ≡ 48 + v % 10) where
  module _ (l : v < 10) where
    only : decimal v ≡ d ∷ []
    only = one 4 v l ∙ ap (λ (x : ℕ). x ∷ []) (sym e)

    pub only_room : Room out at (d ∷ [])
    only_room = subst (λ (t : List ℕ). Room out at t) only h

    pub only_wrote : (r : ℕ) (out' : List ℕ) → Wrote out at (d ∷ []) r out' → Wrote out at (decimal v) r out'
    only_wrote r out' g = subst (λ (t : List ℕ). Wrote out at t r out') (sym only) g

  module _ (l : 10 ≤ v) (s : v < 65536) where
    last : decimal v ≡ decimal (v / 10) ++ (d ∷ [])
    last = more 4 v l ∙ ap (λ (t : List ℕ). t ++ ((48 + v % 10) ∷ [])) (four (v / 10) (omega arith)) ∙ ap (λ (x : ℕ). decimal (v / 10) ++ (x ∷ [])) (sym e)

    room : Room out at (decimal (v / 10) ++ (d ∷ []))
    room = subst (λ (t : List ℕ). Room out at t) last h

    module _ (r : ℕ) (out' : List ℕ) (g : Wrote out at (decimal (v / 10)) r out') where
      pub last_room : Room out' r (d ∷ [])
      last_room = room_then out at (decimal (v / 10)) (d ∷ []) room r out' g

      pub last-wrote : (q : ℕ) (out'' : List ℕ) → Wrote out' r (d ∷ []) q out'' → Wrote out at (decimal v) q out''
      last-wrote q out'' k = subst (λ (t : List ℕ). Wrote out at t q out'') (sym last) (wrote_then out at (decimal (v / 10)) (d ∷ []) room r out' g q out'' k)

pub shorter_room : (out : List ℕ) (at v : ℕ) → Room out at (decimal v) → 10 ≤ v → v < 65536 → Room out at (decimal (v / 10))
shorter_room out at v h l s = room_first out at (decimal (v / 10)) ((48 + v % 10) ∷ []) (room out at v h (48 + v % 10) refl l s)
