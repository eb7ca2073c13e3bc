-- What the exported function of plain rooms promises: each number is the outcome's, and so is each lent list at exit.
use Rattle.std.specs.Prelude.{ℕ, ◌≡◌, List}
use Rattle.rules.specs.Field.{Field}
use Rattle.rules.specs.Plain.{RoomsOutcome}
use Rattle.plain.specs.PlainRooms.{PlainRooms}
use Rattle.gussetraft.specs.declared.roomids.Rooms.{Rooms}

pub record GivesRooms (o : RoomsOutcome) (r : Rooms) (workspace ids : List ℕ) : Type 0 where
  pub refusal : r.refusal ≡ o.refused
  pub most : r.max_region ≡ o.most
  pub cleared : workspace ≡ o.workspace
  pub numbers : ids ≡ o.ids

-- of a call that returns 0, with ids as it leaves them
pub record LeavesPlainRooms (F : Field) (border : ℕ) (r : Rooms) (ids : List ℕ) : Type 0 where
  pub rooms : r.refusal ≡ 0 → PlainRooms F border ids r.max_region
