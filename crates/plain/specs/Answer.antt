-- The numbers of the entry's answer, and the answer as the rule has it.
use Rattle.std.specs.Prelude.{ℕ, ◌≡◌, List, Result, Ok, Err}
use Rattle.rules.specs.Field.{Field}
use Rattle.rules.specs.Plain.{RoomsOutcome}
use Rattle.checker.specs.declared.Refusal.{Refusal}
use Rattle.checker.specs.Answer.{number_of}
use Rattle.plain.specs.PlainRooms.{PlainRooms}

-- the refusal number, 0 for none
abbrev pub rooms_refused_by : Result ℕ Refusal → ℕ
rooms_refused_by (Err r) = number_of r
rooms_refused_by (Ok m) = 0

-- max_region, 0 where refused
abbrev pub rooms_most_in : Result ℕ Refusal → ℕ
rooms_most_in (Err r) = 0
rooms_most_in (Ok m) = m

-- an answer with the two lists at exit
abbrev pub outcome : Result ℕ Refusal → List ℕ → List ℕ → RoomsOutcome
outcome r workspace ids = record { refused = rooms_refused_by r; most = rooms_most_in r; workspace = workspace; ids = ids }

-- of an answer that refuses nothing, with l the ids at exit: they are plain rooms
pub record GivesPlainRooms (F : Field) (border : ℕ) (r : Result ℕ Refusal) (l : List ℕ) : Type 0 where
  pub rooms : rooms_refused_by r ≡ 0 → PlainRooms F border l (rooms_most_in r)
