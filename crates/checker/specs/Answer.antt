-- Numbers for the answers.
use Rattle.std.specs.Prelude.{ℕ, Result, Ok, Err}
use Rattle.checker.specs.declared.Refusal.{Refusal}
use Rattle.checker.specs.declared.Refusal.TheVariants.{TooWide, TooMany, WrongLength, WrongCells, WrongReach, WrongBack, TooShort, TooFar, NoIds, NoSum}

-- the table of the refusal numbers
abbrev pub number_of : Refusal → ℕ
number_of TooWide = 1
number_of TooMany = 2
number_of WrongLength = 3
number_of WrongCells = 4
number_of WrongReach = 5
number_of WrongBack = 6
number_of TooShort = 7
number_of TooFar = 8
number_of NoIds = 12
number_of NoSum = 13

-- "none is given otherwise": 0
abbrev pub verdict_number : Result Unit Refusal → ℕ
verdict_number (Ok _) = 0
verdict_number (Err r) = number_of r
