-- Refusals 1 to 7 as the code asks for them: one list of ids, whose length the checker is told twice. Assumes nothing.
use Prim.Native.Nat.{ℕ, ◌+◌, ◌*◌, ◌≤◌, ◌<◌}
use native.Mathlib.Omega.{arith}
use native.Mathlib.Decide.{dec_lt}
use mathlib.Core.Path.{◌≡◌, refl, sym, ap, ◌∙◌}
use mathlib.Core.Bool.{Bool, true, false, not}
use mathlib.Core.List.{List, [], ◌∷◌}
use lib.ListN.{length}
use lib.Dec.{eqb}
use borrow.Author.Tests.{eqb-true, eq-eqb, ne_eqb, lt-ltb, le-ltb, not-false}
use Rattle.rules.specs.Base.{◌and◌, when◌then◌else◌, every}
use Rattle.rules.specs.Field.{Field, spans}
use Rattle.rules.specs.Refusals.{wrong_length, refusal, too_short, most_spans}
use Rattle.rules.specs.Plain.{rooms_refusal}
use Rattle.laws.proofs.Basics.{if-ind}
use Rattle.checker.specs.Answer.{number_of, verdict_number}
use Rattle.checker.specs.declared.Refusal.{Refusal}
use Rattle.std.specs.Prelude.{Result, Ok, Err}
use Rattle.checker.proofs.Numbers.{number_pos}
use Rattle.field.proofs.Passed.{reached_of, sound_of, own_lengths}
use Rattle.plain.specs.Stages.{Admitted}

twice : (b : Bool) → (true and b) and b ≡ true and b
unfolding ◌and◌
twice true = refl
twice false = refl

once : (F : Field) (a : ℕ) → wrong_length F (a ∷ a ∷ []) ≡ wrong_length F (a ∷ [])
unfolding wrong_length every
once F a = rw (twice (eqb a (spans F)))

pub told-once : (F : Field) (a : ℕ) → refusal F (a ∷ a ∷ []) ≡ refusal F (a ∷ [])
unfolding refusal
told-once F a = rw (once F a)

pub check_few : (F : Field) (a : ℕ) (v : Result Unit Refusal) → verdict_number v ≡ refusal F (a ∷ a ∷ []) → v ≡ Ok tt → spans F ≤ most_spans
check_few F a v e z = (reached_of F (a ∷ a ∷ []) (sym e ∙ ap verdict_number z)).celled.few

module _ (F : Field) (a work : ℕ) (v : Result Unit Refusal) (e : verdict_number v ≡ refusal F (a ∷ a ∷ [])) where
  pub check_refused : (r : Refusal) → v ≡ Err r → number_of r ≡ rooms_refusal F (a ∷ []) work
  unfolding rooms_refusal when◌then◌else◌
  check_refused r z =
      let n : number_of r ≡ refusal F (a ∷ []) = ap verdict_number (sym z) ∙ e ∙ told-once F a in
      rw (ne_eqb (refusal F (a ∷ [])) 0 (λ k. omega (arith, number_pos r))) n

  module _ (z : v ≡ Ok tt) where
    none : eqb (refusal F (a ∷ [])) 0 ≡ true
    none = eq-eqb (refusal F (a ∷ [])) 0 (sym (told-once F a) ∙ sym e ∙ ap verdict_number z)

    pub check_short : work < 128 * spans F + 4096 → 7 ≡ rooms_refusal F (a ∷ []) work
    unfolding rooms_refusal when◌then◌else◌ too_short
    check_short h = rw (none, lt-ltb work (128 * spans F + 4096) h)

    pub check_sound : 128 * spans F + 4096 ≤ work → 0 ≡ rooms_refusal F (a ∷ []) work
    unfolding rooms_refusal when◌then◌else◌ too_short
    check_sound h = rw (none, le-ltb work (128 * spans F + 4096) h)

-- what none of them leaves
module _ (F : Field) (a work : ℕ) (e : rooms_refusal F (a ∷ []) work ≡ 0) where
  pub rooms_accepted : refusal F (a ∷ []) ≡ 0
  unfolding rooms_refusal
  rooms_accepted = accepted (refusal F (a ∷ [])) (when too_short F work then 7 else 0) e
    where
      accepted : (r s : ℕ) → (when not (eqb r 0) then r else s) ≡ 0 → r ≡ 0
      accepted r s = if-ind (λ (x : ℕ). x ≡ 0 → r ≡ 0) (not (eqb r 0)) (λ _ h. h) (λ f _. eqb-true r 0 (not-false _ f))

  pub rooms_roomy : 128 * spans F + 4096 ≤ work
  unfolding rooms_refusal when◌then◌else◌ too_short
  rooms_roomy = elim (dec_lt work (128 * spans F + 4096)) [
    | yes h ↦
        let n : eqb (refusal F (a ∷ [])) 0 ≡ true = eq-eqb (refusal F (a ∷ [])) 0 rooms_accepted in
        absurd (let q : ◌≡◌ {A = ℕ} 7 0 = rw (n, lt-ltb work (128 * spans F + 4096) h) at e in omega (arith, q))
    | no h ↦ omega (arith, h)
  ]

pub rooms_admitted : (F : Field) (ws ids : List ℕ) (v : Result Unit Refusal) → verdict_number v ≡ rooms_refusal F (length ids ∷ []) (length ws) → v ≡ Ok tt → Admitted F ws ids
rooms_admitted F ws ids v e z =
    let n : rooms_refusal F (length ids ∷ []) (length ws) ≡ 0 = sym e ∙ ap verdict_number z in
    let p = rooms_accepted F (length ids) (length ws) n in
    record {
      sound = sound_of F (length ids ∷ []) p;
      idents = (own_lengths F (length ids) (length ids) (told-once F (length ids) ∙ p)).0;
      room = rooms_roomy F (length ids) (length ws) n;
    }
