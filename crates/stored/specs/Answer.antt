-- The numbers of an answer, and the answer as the rule has it.
use Rattle.std.specs.Prelude.{ℕ, ◌≡◌, true, List, Result, Ok, Err}
use Rattle.rules.specs.Stored.{StoredOutcome, read_refusal, new_fine}
use Rattle.stored.specs.declared.StoredRefusal.{StoredRefusal}
use Rattle.stored.specs.declared.StoredRefusal.TheVariants.{Malformed, NotLongest, NoRoom, WrongNumber}

abbrev pub stored_number : StoredRefusal → ℕ
stored_number Malformed = 22
stored_number NotLongest = 23
stored_number NoRoom = 24
stored_number WrongNumber = 25

-- the refusal number, 0 for none
abbrev pub stored_refused_by : Result ℕ StoredRefusal → ℕ
stored_refused_by (Err r) = stored_number r
stored_refused_by (Ok n) = 0

-- how many bytes were written, 0 where refused
abbrev pub bytes_in : Result ℕ StoredRefusal → ℕ
bytes_in (Err r) = 0
bytes_in (Ok n) = n

-- an answer with the lent list at exit
abbrev pub outcome : Result ℕ StoredRefusal → List ℕ → StoredOutcome
outcome r out = record { refused = stored_refused_by r; long = bytes_in r; out = out }

-- the number of a full read's refusal, 0 for none
abbrev pub checked_number : Result Unit StoredRefusal → ℕ
checked_number (Ok u) = 0
checked_number (Err r) = stored_number r

-- a full read: its refusal, and where there is none a file of the new form
pub record CheckedAs (file : List ℕ) (r : Result Unit StoredRefusal) : Type 0 where
  pub refusal : checked_number r ≡ read_refusal file
  pub fine : read_refusal file ≡ 0 → new_fine file ≡ true
