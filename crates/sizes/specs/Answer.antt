-- The numbers of the entry's answer, and the answer as the rule has it.
use Rattle.std.specs.Prelude.{ℕ, Result, Ok, Err}
use Rattle.rules.specs.Sizes.{RoomSize, MeasureOutcome, zeros}
use Rattle.checker.specs.Answer.{number_of}
use Rattle.sizes.specs.declared.metres.Room.{Room}
use Rattle.sizes.specs.declared.SizeRefusal.{SizeRefusal}
use Rattle.sizes.specs.declared.SizeRefusal.TheVariants.{Field, WrongScale, WrongIds}

-- the rule's record of the code's
abbrev pub room_of : Room → RoomSize
room_of r = record {
  floor = r.size.floor;
  x_least = r.size.x_least;
  x_past = r.size.x_past;
  z_least = r.size.z_least;
  z_past = r.size.z_past;
  area = r.area;
  count = r.count;
}

-- the number of a refusal
abbrev pub size_number : SizeRefusal → ℕ
size_number (Field r) = number_of r
size_number WrongScale = 9
size_number WrongIds = 10

-- the refusal number, 0 for none
abbrev pub measure_refused_by : Result Room SizeRefusal → ℕ
measure_refused_by (Err r) = size_number r
measure_refused_by (Ok m) = 0

-- "with a record of zeros" where refused
abbrev pub room_in : Result Room SizeRefusal → RoomSize
room_in (Err r) = zeros
room_in (Ok m) = room_of m

abbrev pub outcome : Result Room SizeRefusal → MeasureOutcome
outcome r = record { refused = measure_refused_by r; room = room_in r }
