-- The entry's ways out are the cases of its outcome: 9 is asked for where 1 to 6 have passed, 10 where 9 has too. Assumes nothing.
use Prim.Native.Nat.{ℕ, ◌*◌}
use native.Mathlib.Omega.{arith}
use mathlib.Core.Path.{◌≡◌, refl, sym, ap, ◌∙◌}
use mathlib.Core.Bool.{Bool, true, false}
use mathlib.Core.List.{List, [], ◌∷◌}
use lib.ListN.{length}
use lib.Dec.{eqb}
use lib.Ieee.{Float}
use borrow.Author.Tests.{eqb-true, eq-eqb, ne_eqb, not-false}
use Rattle.rules.specs.Base.{◌and◌, when◌then◌else◌, every}
use Rattle.rules.specs.Field.{Field, spans}
use Rattle.rules.specs.Refusals.{wrong_length, refusal}
use Rattle.rules.specs.Sizes.{Extent, RoomSize, shown, extent, extent_of, nothing, metres, sized, wrong_scale, wrong_ids, measure_refusal, measure_outcome}
use Rattle.laws.proofs.Basics.{neither}
use Rattle.checker.specs.Answer.{number_of, verdict_number}
use Rattle.checker.specs.declared.Refusal.{Refusal}
use Rattle.std.specs.Prelude.{Result, Ok, Err}
use Rattle.checker.proofs.Numbers.{number_pos}
use Rattle.field.specs.Lent.{Celled}
use Rattle.field.proofs.Passed.{reached_of}
use Rattle.sizes.specs.declared.metres.Room.{Room}
use Rattle.sizes.specs.declared.SizeRefusal.TheVariants as size
use Rattle.sizes.specs.Answer.{room_of, outcome}

-- two lists of n numbers refuse nothing
lens_own : (F : Field) → refusal F (spans F ∷ spans F ∷ []) ≡ refusal F []
unfolding refusal wrong_length every ◌and◌
lens_own F = rw (eq-eqb (spans F) (spans F) refl)

-- an extent in metres, value by value
pub sized_is : (k : ℕ) (e : Extent) (f a b c d : Float) → f ≡ metres (e.count * k * k) 4096 → a ≡ metres (e.x_least * k) 64 → b ≡ metres (e.x_past * k) 64
    → c ≡ metres (e.z_least * k) 64 → d ≡ metres (e.z_past * k) 64
    → ◌≡◌ {A = RoomSize} (record { floor = f; x_least = a; x_past = b; z_least = c; z_past = d; area = e.area; count = e.count }) (sized k e)
unfolding sized
sized_is k e f a b c d p q r s t = rw (p, q, r, s, t)

module _ (F : Field) (ids : List ℕ) (most id : ℕ) where
  pub extent-shown : (b : Bool) → b ≡ shown most id → b ≡ true → (e : Extent) → e ≡ extent F ids id → e ≡ extent_of F ids most id
  unfolding extent_of when◌then◌else◌
  extent-shown b p t e q = let z : shown most id ≡ true = sym p ∙ t in rw z q

  pub extent-none : (b : Bool) → b ≡ shown most id → b ≡ false → (e : Extent) → e ≡ nothing → e ≡ extent_of F ids most id
  unfolding extent_of when◌then◌else◌
  extent-none b p t e q = let z : shown most id ≡ false = sym p ∙ t in rw z q

pub measure_celled : (F : Field) (v : Result Unit Refusal) → verdict_number v ≡ refusal F (spans F ∷ spans F ∷ []) → v ≡ Ok tt → Celled F
measure_celled F v e y = (reached_of F (spans F ∷ spans F ∷ []) (sym e ∙ ap verdict_number y)).celled

pub measure_long : (n : ℕ) (ids : List ℕ) (most : ℕ) (x : Bool) → x ≡ wrong_ids n ids most → x ≡ false → length ids ≡ n
unfolding wrong_ids
measure_long n ids most x q u = eqb-true _ _ (not-false _ (neither _ _ (sym q ∙ u)).0)

first_given : (F : Field) (ids : List ℕ) (most k : ℕ) → (refusal F [] ≡ 0 → ⊥) → measure_refusal F ids most k ≡ refusal F []
unfolding measure_refusal when◌then◌else◌
first_given F ids most k z = rw (ne_eqb (refusal F []) 0 z)

module _ (F : Field) (ids : List ℕ) (most k id : ℕ) (v : Result Unit Refusal) (e : verdict_number v ≡ refusal F (spans F ∷ spans F ∷ [])) where
  pub measure_refused : (r : Refusal) → v ≡ Err r → outcome (Err (size.Field r)) ≡ measure_outcome F ids most k id
  unfolding measure_outcome when◌then◌else◌
  measure_refused r y =
      let n : number_of r ≡ refusal F [] = ap verdict_number (sym y) ∙ e ∙ lens_own F in
      let m : number_of r ≡ measure_refusal F ids most k = n ∙ sym (first_given F ids most k (λ q. omega (arith, number_pos r))) in
      rw (ne_eqb (measure_refusal F ids most k) 0 (λ q. omega (arith, number_pos r)), m)

  module _ (y : v ≡ Ok tt) where
    sound : refusal F [] ≡ 0
    sound = sym (lens_own F) ∙ sym e ∙ ap verdict_number y

    none : eqb (refusal F []) 0 ≡ true
    none = eq-eqb (refusal F []) 0 sound

    pub measure_scale : (b : Bool) → b ≡ wrong_scale k → b ≡ true → outcome (Err size.WrongScale) ≡ measure_outcome F ids most k id
    unfolding measure_outcome measure_refusal when◌then◌else◌
    measure_scale b p t = let z : wrong_scale k ≡ true = sym p ∙ t in rw (none, z)

    module _ (b : Bool) (p : b ≡ wrong_scale k) (t : b ≡ false) where
      good : wrong_scale k ≡ false
      good = sym p ∙ t

      pub measure_ids : (x : Bool) → x ≡ wrong_ids (spans F) ids most → x ≡ true → outcome (Err size.WrongIds) ≡ measure_outcome F ids most k id
      unfolding measure_outcome measure_refusal when◌then◌else◌
      measure_ids x q u = let z : wrong_ids (spans F) ids most ≡ true = sym q ∙ u in rw (none, good, z)

      module _ (x : Bool) (q : x ≡ wrong_ids (spans F) ids most) (u : x ≡ false) where
        listed : wrong_ids (spans F) ids most ≡ false
        listed = sym q ∙ u

        pub measure_done : (m : Room) (a : Extent) → a ≡ extent_of F ids most id → room_of m ≡ sized k a → outcome (Ok m) ≡ measure_outcome F ids most k id
        unfolding measure_outcome measure_refusal when◌then◌else◌
        measure_done m a f g = rw (none, good, listed, ← f) (ap (λ (r : RoomSize). record { refused = 0; room = r }) g)
