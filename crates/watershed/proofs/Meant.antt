-- What the distance means, of a call of the distance entry, as the entry's promise has it: where nothing is refused the two lists and max_distance have each sentence
-- of the request. It is the theorem of the rules read through the equations of the promise; a refusal's number is not 0. Assumes nothing.
use Prim.Native.Nat.{ℕ, ◌<◌}
use native.Mathlib.Omega.{arith}
use mathlib.Core.Path.{◌≡◌, sym, ◌∙◌}
use mathlib.Core.List.{List, [], ◌∷◌}
use lib.ListN.{length, get_or}
use lib.Dec.{eqb}
use borrow.Author.Tests.{eqb-true, eqb-false}
use Rattle.rules.specs.Field.{Field, Bytes}
use Rattle.rules.specs.Refusals.{refusal}
use Rattle.rules.specs.Distance.{raw, greatest, blur}
use Rattle.rules.specs.Outcomes.{DistanceOutcome, distance_outcome}
use Rattle.laws.proofs.Basics.{if-ind}
use Rattle.meaning.specs.Meant.{Meant}
use Rattle.meaning.proofs.Meant.{distances_mean}
use Rattle.field.specs.Lent.{lent}
use Rattle.checker.specs.Answer.{verdict_number}
use Rattle.std.specs.Prelude.{Result, Ok, Err}
use Rattle.checker.specs.declared.Refusal.{Refusal}
use Rattle.checker.proofs.Numbers.{number_pos}
use Rattle.watershed.specs.Answer.{Answers, GivesDistances}
use Rattle.watershed.proofs.Outcome.{done_out}
use Rattle.watershed.proofs.StageLaws.{areas_are_bytes}

pub refused_no_meaning : (F : Field) (r : Refusal) (l m : List ℕ) → GivesDistances F (Err r) l m
refused_no_meaning F r l m = record { meant = λ e. absurd (omega (arith, number_pos r)) }

-- an outcome that is not a refusal means what the rules' distances mean
outcome_means : (F : Field) (raw₀ blurred₀ : List ℕ) → Bytes F → (distance_outcome F raw₀ blurred₀).refused ≡ 0
    → Meant F (distance_outcome F raw₀ blurred₀).most (distance_outcome F raw₀ blurred₀).raw (distance_outcome F raw₀ blurred₀).blurred
unfolding distance_outcome
outcome_means F raw₀ blurred₀ bytes =
    if-ind (λ (o : DistanceOutcome). o.refused ≡ 0 → Meant F o.most o.raw o.blurred) (eqb (refusal F (length raw₀ ∷ length blurred₀ ∷ [])) 0)
    (λ e _. distances_mean F _ (eqb-true _ _ e) bytes)
    (λ e h. absurd (eqb-false _ _ e h))

-- raw₀ and blurred₀ are the two lists before the call; r, l and m what it returns and leaves
pub call_means : (F : Field) (raw₀ blurred₀ : List ℕ) (r : Result ℕ Refusal) (l m : List ℕ) → Bytes F → Answers (distance_outcome F raw₀ blurred₀) r l m → GivesDistances F r l m
call_means F raw₀ blurred₀ r l m bytes a =
    record { meant = λ e. rw (a.most, a.raw, a.blurred) (outcome_means F raw₀ blurred₀ bytes (sym a.refused ∙ e)) }

-- the entry's way out that is no refusal
pub done_means : (w h : ℕ) (is ks ar cs l m : List ℕ) (v : Result Unit Refusal) → verdict_number v ≡ refusal (lent w h is ks ar cs) (length l ∷ length m ∷ []) → v ≡ Ok tt
    → (x y : List ℕ) (k : ℕ) → x ≡ raw (lent w h is ks ar cs) → y ≡ blur (lent w h is ks ar cs) x → k ≡ greatest x → ((i : ℕ) → get_or ar i 0 < 256)
    → GivesDistances (lent w h is ks ar cs) (Ok k) x y
done_means w h is ks ar cs l m v e z x y k p q g bytes =
    call_means (lent w h is ks ar cs) l m (Ok k) x y (areas_are_bytes w h is ks ar cs bytes) (done_out (lent w h is ks ar cs) l m v e z x y k p q g)
