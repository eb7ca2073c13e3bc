-- The outcome of each public entry on ANY input: the numbers it returns and every lent list at exit, refusals included.
use Rattle.std.specs.Prelude.{ℕ, List, [], ◌∷◌, length, replicate, not, eqb}
use Rattle.rules.specs.Base.{when◌then◌else◌}
use Rattle.rules.specs.Field.{Field}
use Rattle.rules.specs.Refusals.{refusal, region_refusal}
use Rattle.rules.specs.Distance.{raw, greatest, blur}
use Rattle.rules.specs.Growth.{grown, stops}
use Rattle.rules.specs.Numbering.{Form, regions, formed}

-- "The distance entry writes raw and blurred distances (u16 each) and gives max_distance.": most is max_distance
pub record DistanceOutcome : Type 0 where
  pub refused : ℕ
  pub most : ℕ
  pub raw : List ℕ
  pub blurred : List ℕ

-- "A refusal returns its number with zero for each other number, and all lent lists unchanged"; "Success returns 0 with the numbers"
unfoldable pub distance_outcome : Field → List ℕ → List ℕ → DistanceOutcome
distance_outcome F raw₀ blurred₀ =
    let r = refusal F (length raw₀ ∷ length blurred₀ ∷ []) in
    let l = raw F in
    when eqb r 0
    then record { refused = 0; most = greatest l; raw = l; blurred = blur F l }
    else record { refused = r; most = 0; raw = raw₀; blurred = blurred₀ }

-- "border size, least area, merge area (u16 each)"
pub record Sizes : Type 0 where
  pub border : ℕ
  pub least : ℕ
  pub merge : ℕ

-- "It gives max_region and the overlap count": most is max_region, over the overlap count; cut is the number of records cut short
pub record RegionOutcome : Type 0 where
  pub refused : ℕ
  pub most : ℕ
  pub over : ℕ
  pub cut : ℕ
  pub workspace : List ℕ
  pub ids : List ℕ

-- "A refusal returns its number with zero for each other number, and all lent lists unchanged, workspace too. Success returns 0 with
-- the numbers; the workspace, any extra part too, then holds zeros." In either form of the numbers.
-- "12 for ids, 13 for distances, only after 1 to 8 have passed; the id list is as before the call and the workspace is zeroed"
unfoldable pub region_outcome : Form → Field → List ℕ → ℕ → Sizes → List ℕ → List ℕ → RegionOutcome
region_outcome form F dist most z work₀ ids₀ =
    let r = region_refusal F (length dist ∷ length ids₀ ∷ []) (length work₀) dist most in
    let stop = stops F dist most z.border in
    let g = grown F dist most z.border in
    let v = formed form (regions F z.least z.merge g.ids g.next) in
    when not (eqb r 0) then record { refused = r; most = 0; over = 0; cut = 0; workspace = work₀; ids = ids₀ } else
    when not (eqb stop 0) then record { refused = stop; most = 0; over = 0; cut = 0; workspace = replicate (length work₀) 0; ids = ids₀ } else
    record { refused = 0; most = v.most; over = v.over; cut = v.cut; workspace = replicate (length work₀) 0; ids = v.ids }
