-- Two results that satisfy the promise of an entry coincide: the promise is one equation,
-- a refusal's number is none of 0, 11 and 31, and no two refusals have the same. Assumes nothing.
use Prim.Native.Nat.{ℕ}
use native.Mathlib.Omega.{arith}
use Rattle.std.specs.Prelude.{Result, Ok, Err}
use mathlib.Core.Path.{◌≡◌, refl, sym, ap, ◌∙◌}
use mathlib.Core.List.{List}
use Rattle.rules.specs.Refresh.{Rows, StagesOutcome, RefreshOutcome}
use Rattle.checker.proofs.Numbers.{number_pos, number_low, number_not_11, number_same}
use Rattle.refresh.specs.Answer.{stages_refused_by, stages_most_in, stages_given, refresh_number_of, refresh_refused_by, refresh_most_in, pass1_rows_in, pass2_rows_in, blur_rows_in, refresh_given}
use Rattle.checker.specs.declared.Refusal.{Refusal}
use Rattle.refresh.specs.declared.RefreshRefusal.{RefreshRefusal}
use Rattle.refresh.specs.declared.RefreshRefusal.TheVariants as own
use Rattle.refresh.proofs.Entries.{number_over}
use Rattle.refresh.specs.declared.Refreshed.{Refreshed}

-- ---------------------------------------------------------------- `build_distance_stages`

stages_same : (a b : Result ℕ Refusal) → stages_refused_by a ≡ stages_refused_by b → stages_most_in a ≡ stages_most_in b → a ≡ b
stages_same (Err r) (Err s) e f = ap Err (number_same r s e)
stages_same (Err r) (Ok k) e f = absurd (omega (arith, number_pos r))
stages_same (Ok k) (Err s) e f = absurd (omega (arith, number_pos s))
stages_same (Ok k) (Ok j) e f = ap Ok f

pub one_stages_answer : (o : StagesOutcome) (a b : Result ℕ Refusal) (l m n x y z : List ℕ)
    → stages_given a l m n ≡ o → stages_given b x y z ≡ o → (a ≡ b) × (l ≡ x) × (m ≡ y) × (n ≡ z)
one_stages_answer o a b l m n x y z p q =
    let e = p ∙ sym q in (
      stages_same a b (ap (λ v. v.refused) e) (ap (λ v. v.most) e),
      ap (λ v. v.pass1) e,
      ap (λ v. v.raw) e,
      ap (λ v. v.blurred) e,
    )

-- ---------------------------------------------------------------- `refresh_distance_field`

-- what an answer says beside the refusal
record Same (a b : Result Refreshed RefreshRefusal) : Type 0 where
  most : refresh_most_in a ≡ refresh_most_in b
  first : pass1_rows_in a ≡ pass1_rows_in b
  second : pass2_rows_in a ≡ pass2_rows_in b
  third : blur_rows_in a ≡ blur_rows_in b

done_same : (a b : Refreshed) → Same (Ok a) (Ok b) → a ≡ b
done_same a b u =
    let p = ap (λ (v : Rows). v.first) u.first in
    let p' = ap (λ (v : Rows). v.last) u.first in
    let q = ap (λ (v : Rows). v.first) u.second in
    let q' = ap (λ (v : Rows). v.last) u.second in
    let r = ap (λ (v : Rows). v.first) u.third in
    let r' = ap (λ (v : Rows). v.last) u.third in
    rw (u.most, p, p', q, q', r, r')

refusal_same : (a b : RefreshRefusal) → refresh_number_of a ≡ refresh_number_of b → a ≡ b
refusal_same (own.Field r) (own.Field s) e = ap own.Field (number_same r s e)
refusal_same (own.Field r) own.WrongRect e = absurd (number_not_11 r e)
refusal_same (own.Field r) own.WrongStored e = absurd (omega (arith, number_low r))
refusal_same own.WrongRect (own.Field s) e = absurd (number_not_11 s (sym e))
refusal_same own.WrongRect own.WrongRect e = refl
refusal_same own.WrongRect own.WrongStored e = absurd (omega arith)
refusal_same own.WrongStored (own.Field s) e = absurd (omega (arith, number_low s))
refusal_same own.WrongStored own.WrongRect e = absurd (omega arith)
refusal_same own.WrongStored own.WrongStored e = refl

answer_same : (a b : Result Refreshed RefreshRefusal) → refresh_refused_by a ≡ refresh_refused_by b → Same a b → a ≡ b
answer_same (Err r) (Err s) e u = ap Err (refusal_same r s e)
answer_same (Err r) (Ok j) e u = absurd (omega (arith, number_over r))
answer_same (Ok k) (Err s) e u = absurd (omega (arith, number_over s))
answer_same (Ok k) (Ok j) e u = ap Ok (done_same k j u)

pub one_refresh_answer : (o : RefreshOutcome) (a b : Result Refreshed RefreshRefusal) (l m n x y z : List ℕ)
    → refresh_given a l m n ≡ o → refresh_given b x y z ≡ o → (a ≡ b) × (l ≡ x) × (m ≡ y) × (n ≡ z)
one_refresh_answer o a b l m n x y z p q =
    let e = p ∙ sym q in (
      answer_same a b (ap (λ v. v.refused) e) record {
        most = ap (λ v. v.most) e;
        first = ap (λ v. v.pass1_rows) e;
        second = ap (λ v. v.pass2_rows) e;
        third = ap (λ v. v.blur_rows) e;
      },
      ap (λ v. v.pass1) e,
      ap (λ v. v.raw) e,
      ap (λ v. v.blurred) e,
    )
