-- The conversions with their numbers in a lent list.
use Rattle.std.specs.Prelude.{ℕ, List, [], ◌∷◌, length, eqb}
use Rattle.rules.specs.Base.{when◌then◌else◌}
use Rattle.rules.specs.Stored.{StoredOutcome, IdOutcome}

-- what is given, and the two lists at exit
pub record IntoOutcome : Type 0 where
  pub given : ℕ
  pub out : List ℕ
  pub answer : List ℕ

abbrev pub leaves : ℕ → List ℕ → List ℕ → IntoOutcome
leaves k out answer = record { given = k; out = out; answer = answer }

-- with two places the outcome's refusal and length, in that order; "another length refused 3" with nothing changed
unfoldable pub stored_into : StoredOutcome → List ℕ → List ℕ → IntoOutcome
stored_into o out₀ answer₀ = when eqb (length answer₀) 2 then leaves o.refused o.out (o.refused ∷ o.long ∷ []) else leaves 3 out₀ answer₀

-- "in the order named": refusal, id, stretch
abbrev pub id_numbers : IdOutcome → List ℕ
id_numbers o = o.refused ∷ o.id ∷ o.stretch ∷ []

pub record IdIntoOutcome : Type 0 where
  pub given : ℕ
  pub answer : List ℕ

abbrev pub leaves_id : ℕ → List ℕ → IdIntoOutcome
leaves_id k answer = record { given = k; answer = answer }

-- the same of one span's id, with three places
unfoldable pub id_into : IdOutcome → List ℕ → IdIntoOutcome
id_into o answer₀ = when eqb (length answer₀) 3 then leaves_id o.refused (id_numbers o) else leaves_id 3 answer₀
