-- What the exported functions promise: each number is the outcome's, and so is each lent list at exit.
use Rattle.std.specs.Prelude.{ℕ, ◌≡◌, List}
use Rattle.rules.specs.Field.{Field}
use Rattle.rules.specs.Numbering.{Form}
use Rattle.rules.specs.Outcomes.{DistanceOutcome, RegionOutcome}
use Rattle.rules.specs.Mend.{MendOutcome}
use Rattle.rules.specs.Refresh.{StagesOutcome}
use Rattle.meaning.specs.Meant.{Meant}
use Rattle.rooms.specs.Rooms.{Rooms}
use Rattle.rooms.specs.Dense.{first_in, past_in}
use Rattle.gussetraft.specs.declared.Distances.{Distances}
use Rattle.gussetraft.specs.declared.Regions.{Regions}
use Rattle.gussetraft.specs.declared.Mending.{Mending}

pub record Gives (o : DistanceOutcome) (r : Distances) (raw blurred : List ℕ) : Type 0 where
  pub refusal : r.refusal ≡ o.refused
  pub most : r.max_distance ≡ o.most
  pub first : raw ≡ o.raw
  pub second : blurred ≡ o.blurred

-- what the distance means (document 02, A13), of a call that returns 0, with the lists as it leaves them
pub record LeavesDistances (F : Field) (r : Distances) (raw blurred : List ℕ) : Type 0 where
  pub meant : r.refusal ≡ 0 → Meant F r.max_distance raw blurred

pub record GivesRegions (o : RegionOutcome) (r : Regions) (workspace ids : List ℕ) : Type 0 where
  pub refusal : r.refusal ≡ o.refused
  pub most : r.max_region ≡ o.most
  pub over : r.overlaps ≡ o.over
  pub cut : r.cut ≡ o.cut
  pub cleared : workspace ≡ o.workspace
  pub numbers : ids ≡ o.ids

-- demand 3 of a call that returns 0, with ids as it leaves them
pub record LeavesRooms (form : Form) (F : Field) (border : ℕ) (r : Regions) (ids : List ℕ) : Type 0 where
  pub rooms : r.refusal ≡ 0 → Rooms F (first_in form border) ids (past_in form r.max_region)

pub record GivesMending (o : MendOutcome) (r : Mending) (con changes : List ℕ) : Type 0 where
  pub refusal : r.refusal ≡ o.refused
  pub many : r.count ≡ o.count
  pub left : con ≡ o.con
  pub listed : changes ≡ o.changes

pub record GivesStages (o : StagesOutcome) (r : Distances) (pass1 raw blurred : List ℕ) : Type 0 where
  pub refusal : r.refusal ≡ o.refused
  pub most : r.max_distance ≡ o.most
  pub first : pass1 ≡ o.pass1
  pub second : raw ≡ o.raw
  pub third : blurred ≡ o.blurred
