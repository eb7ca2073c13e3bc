-- The numbers of the entry's answer, and the answer as the rule has it.
use Rattle.std.specs.Prelude.{List, ℕ, leb, Result, Ok, Err}
use Rattle.rules.specs.Base.{◌and◌, when◌then◌else◌}
use Rattle.rules.specs.Mend.{MendOutcome}
use Rattle.checker.specs.Answer.{number_of}
use Rattle.mend.specs.declared.MendRefusal.{MendRefusal}
use Rattle.mend.specs.declared.MendRefusal.TheVariants.{Field, NoRoom}

-- the number of a refusal
abbrev pub mend_number : MendRefusal → ℕ
mend_number (Field r) = number_of r
mend_number NoRoom = 27

-- the refusal number, 0 for none
abbrev pub mend_refused_by : Result ℕ MendRefusal → ℕ
mend_refused_by (Ok k) = 0
mend_refused_by (Err r) = mend_number r

-- how many changes, 0 where refused
abbrev pub changes_in : Result ℕ MendRefusal → ℕ
changes_in (Ok k) = k
changes_in (Err r) = 0

-- an answer with the two lists at exit
abbrev pub outcome : Result ℕ MendRefusal → List ℕ → List ℕ → MendOutcome
outcome r con changes = record { refused = mend_refused_by r; count = changes_in r; con = con; changes = changes }

-- refusals 1 to 4 as they are, 0 for the others and for none
unfoldable pub before_links : ℕ → ℕ
before_links r = when leb 1 r and leb r 4 then r else 0
