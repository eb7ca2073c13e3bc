-- The numbers of the entries' answers, and the answers as the rules have them.
use Rattle.std.specs.Prelude.{ℕ, Bool, not, List, [], ◌∷◌, length, eqb, Result, Ok, Err}
use Rattle.rules.specs.Base.{when◌then◌else◌}
use Rattle.rules.specs.Field.{Field}
use Rattle.rules.specs.Refusals.{refusal}
use Rattle.rules.specs.Refresh.{wrong_rect, wrong_stored, Rect, Rows, no_rows, StagesOutcome, RefreshOutcome}
use Rattle.checker.specs.Answer.{number_of}
use Rattle.checker.specs.declared.Refusal.{Refusal}
use Rattle.refresh.specs.declared.Refreshed.{Refreshed}
use Rattle.refresh.specs.declared.RefreshRefusal.{RefreshRefusal}
use Rattle.refresh.specs.declared.RefreshRefusal.TheVariants as own

-- the rectangle that a caller gives
abbrev pub rect : ℕ → ℕ → ℕ → ℕ → Rect
rect x0 z0 x1 z1 = record { x0 = x0; z0 = z0; x1 = x1; z1 = z1 }

-- of the build: the refusal number, 0 for none, and max_distance, 0 where refused
abbrev pub stages_refused_by : Result ℕ Refusal → ℕ
stages_refused_by (Ok m) = 0
stages_refused_by (Err r) = number_of r

abbrev pub stages_most_in : Result ℕ Refusal → ℕ
stages_most_in (Ok m) = m
stages_most_in (Err r) = 0

-- an answer of the build with the three lists at exit
abbrev pub stages_given : Result ℕ Refusal → List ℕ → List ℕ → List ℕ → StagesOutcome
stages_given a p r b = record { refused = stages_refused_by a; most = stages_most_in a; pass1 = p; raw = r; blurred = b }

-- the numbers of the refresh's refusals
abbrev pub refresh_number_of : RefreshRefusal → ℕ
refresh_number_of (own.Field r) = number_of r
refresh_number_of own.WrongRect = 11
refresh_number_of own.WrongStored = 31

-- of the refresh: the refusal number, 0 for none
abbrev pub refresh_refused_by : Result Refreshed RefreshRefusal → ℕ
refresh_refused_by (Ok v) = 0
refresh_refused_by (Err e) = refresh_number_of e

-- max_distance and the rows redone, 0 where refused
abbrev pub refresh_most_in : Result Refreshed RefreshRefusal → ℕ
refresh_most_in (Ok v) = v.max_distance
refresh_most_in (Err e) = 0

abbrev pub pass1_rows_in : Result Refreshed RefreshRefusal → Rows
pass1_rows_in (Ok v) = record { first = v.pass1_first; last = v.pass1_last }
pass1_rows_in (Err e) = no_rows

abbrev pub pass2_rows_in : Result Refreshed RefreshRefusal → Rows
pass2_rows_in (Ok v) = record { first = v.pass2_first; last = v.pass2_last }
pass2_rows_in (Err e) = no_rows

abbrev pub blur_rows_in : Result Refreshed RefreshRefusal → Rows
blur_rows_in (Ok v) = record { first = v.blur_first; last = v.blur_last }
blur_rows_in (Err e) = no_rows

-- an answer of the refresh with the three lists at exit
abbrev pub refresh_given : Result Refreshed RefreshRefusal → List ℕ → List ℕ → List ℕ → RefreshOutcome
refresh_given a p r b =
    record {
      refused = refresh_refused_by a;
      most = refresh_most_in a;
      pass1_rows = pass1_rows_in a;
      pass2_rows = pass2_rows_in a;
      blur_rows = blur_rows_in a;
      pass1 = p;
      raw = r;
      blurred = b;
    }

-- of two lengths the first that is not n, or the second
unfoldable pub odd_length : ℕ → ℕ → ℕ → ℕ
odd_length n a b = when eqb a n then b else a

-- 11 and 31 in their order
unfoldable pub own_refusal : Bool → Bool → ℕ
own_refusal rect stored = when rect then 11 else when stored then 31 else 0

-- the refusal of a refresh, given the length of the blurred list in its place
unfoldable pub refusal_of : Field → Rect → List ℕ → List ℕ → ℕ → ℕ
refusal_of F q p r own =
    let k = refusal F (length p ∷ length r ∷ own ∷ []) in
    when not (eqb k 0) then k else own_refusal (wrong_rect F q) (wrong_stored p r)

abbrev pub refresh_verdict_number : Result Unit RefreshRefusal → ℕ
refresh_verdict_number (Ok _) = 0
refresh_verdict_number (Err e) = refresh_number_of e
