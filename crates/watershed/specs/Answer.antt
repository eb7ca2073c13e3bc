-- Document 01's numbers for the answer of each entry, and the promise that uses them.
use Rattle.std.specs.Prelude.{ℕ, ◌≡◌, List, Result, Ok, Err}
use Rattle.rules.specs.Field.{Field}
use Rattle.rules.specs.Numbering.{Form}
use Rattle.rules.specs.Numbering as rules
use Rattle.rules.specs.Outcomes.{DistanceOutcome, RegionOutcome}
use Rattle.meaning.specs.Meant.{Meant}
use Rattle.rooms.specs.Rooms.{Rooms}
use Rattle.rooms.specs.Dense.{first_in, past_in}
use Rattle.checker.specs.Answer.{number_of}
use Rattle.checker.specs.declared.Refusal.{Refusal}
use Rattle.numbering.specs.declared.Regions.{Regions}

-- the refusal number, 0 for none
abbrev pub refused_by : Result ℕ Refusal → ℕ
refused_by (Err r) = number_of r
refused_by (Ok m) = 0

-- max_distance: "A refusal returns its number with zero for each other number"
abbrev pub most_in : Result ℕ Refusal → ℕ
most_in (Err r) = 0
most_in (Ok m) = m

-- an answer, with l and m the two lists at exit, is the outcome
pub record Answers (o : DistanceOutcome) (r : Result ℕ Refusal) (l m : List ℕ) : Type 0 where
  pub refused : refused_by r ≡ o.refused
  pub most : most_in r ≡ o.most
  pub raw : l ≡ o.raw
  pub blurred : m ≡ o.blurred

-- what the distance means (document 02, A13), of an answer that refuses nothing, with l and m the two lists at exit
pub record GivesDistances (F : Field) (r : Result ℕ Refusal) (l m : List ℕ) : Type 0 where
  pub meant : refused_by r ≡ 0 → Meant F (most_in r) l m

-- the same of the region entry's answer: the refusal number, max_region, the overlap count, the number of records cut short
abbrev pub regions_refused_by : Result Regions Refusal → ℕ
regions_refused_by (Err r) = number_of r
regions_refused_by (Ok v) = 0

abbrev pub max_region_in : Result Regions Refusal → ℕ
max_region_in (Err r) = 0
max_region_in (Ok v) = v.max_region

abbrev pub overlaps_in : Result Regions Refusal → ℕ
overlaps_in (Err r) = 0
overlaps_in (Ok v) = v.overlaps

abbrev pub cut_in : Result Regions Refusal → ℕ
cut_in (Err r) = 0
cut_in (Ok v) = v.cut

-- its numbers, with l the ids
abbrev pub regions_of : Result Regions Refusal → List ℕ → rules.Regions
regions_of r l = record { ids = l; most = max_region_in r; over = overlaps_in r; cut = cut_in r }

-- an answer, with ws the workspace and l the ids at exit, is the outcome
pub record AnswersRegions (o : RegionOutcome) (r : Result Regions Refusal) (ws l : List ℕ) : Type 0 where
  pub refused : regions_refused_by r ≡ o.refused
  pub most : max_region_in r ≡ o.most
  pub over : overlaps_in r ≡ o.over
  pub cut : cut_in r ≡ o.cut
  pub workspace : ws ≡ o.workspace
  pub ids : l ≡ o.ids

-- demand 3 of an answer that refuses nothing, with l the ids at exit: they are rooms. In the dense form the first has id 1 and the last
-- max_region; in the compared form the first has id 1, or 5 with a border, and the last max_region - 1
pub record GivesRooms (form : Form) (F : Field) (border : ℕ) (r : Result Regions Refusal) (l : List ℕ) : Type 0 where
  pub rooms : regions_refused_by r ≡ 0 → Rooms F (first_in form border) l (past_in form (max_region_in r))
