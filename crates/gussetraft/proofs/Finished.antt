-- A finished result, of a call: what `build_regions`, `gussetraft_build_regions` and `gussetraft_build_rooms` leave where they refuse nothing is never refused 10, and no
-- record from 1 to max_region is without spans. It is what their promises say of the ids, of every call. Assumes nothing.
use Prim.Native.Nat.{ℕ}
use mathlib.Core.Path.{◌≡◌, sym, ◌∙◌}
use mathlib.Core.List.{List}
use Rattle.rules.specs.Field.{Field}
use Rattle.rules.specs.Numbering.{dense}
use Rattle.rules.specs.Outcomes.{Sizes, region_outcome}
use Rattle.rules.specs.Plain.{rooms_outcome}
use Rattle.rooms.specs.Dense.{first_in, past_in}
use Rattle.extents.proofs.Finished.{Measured, finished_measured, rooms_finished, not_refused_sound}
use Rattle.plain.proofs.Measured.{plain-finished, plain_sound}
use Rattle.std.specs.Prelude.{Result}
use Rattle.checker.specs.declared.Refusal.{Refusal}
use Rattle.numbering.specs.declared.Regions as numbering
use Rattle.watershed.specs.Answer.{AnswersRegions, regions_refused_by, max_region_in}
use Rattle.watershed.specs.Answer as entry
use Rattle.gussetraft.specs.declared.Regions.{Regions}
use Rattle.gussetraft.specs.declared.roomids.Rooms.{Rooms}
use Rattle.gussetraft.specs.Exported.{GivesRegions, LeavesRooms}
use Rattle.gussetraft.specs.PlainRooms.{GivesRooms, LeavesPlainRooms}

-- r and ids' are what the call returns and leaves
pub regions_entry_measured : (F : Field) (dist : List ℕ) (most : ℕ) (z : Sizes) (ws ids : List ℕ) (r : Result numbering.Regions Refusal) (ws' ids' : List ℕ)
    → AnswersRegions (region_outcome dense F dist most z ws ids) r ws' ids' → entry.GivesRooms dense F z.border r ids' → regions_refused_by r ≡ 0 → Measured F ids' (max_region_in r)
unfolding first_in past_in
regions_entry_measured F dist most z ws ids r ws' ids' g l e =
    finished_measured F ids' (max_region_in r) (rooms_finished F ids' (max_region_in r) (l.rooms e) (not_refused_sound F dist most z ws ids (sym g.refused ∙ e)))

pub regions_call_measured : (F : Field) (dist : List ℕ) (most : ℕ) (z : Sizes) (ws ids : List ℕ) (r : Regions) (ws' ids' : List ℕ)
    → GivesRegions (region_outcome dense F dist most z ws ids) r ws' ids' → LeavesRooms dense F z.border r ids' → r.refusal ≡ 0 → Measured F ids' r.max_region
unfolding first_in past_in
regions_call_measured F dist most z ws ids r ws' ids' g l e =
    finished_measured F ids' r.max_region (rooms_finished F ids' r.max_region (l.rooms e) (not_refused_sound F dist most z ws ids (sym g.refusal ∙ e)))

pub rooms_call_measured : (F : Field) (border : ℕ) (ws ids : List ℕ) (r : Rooms) (ws' ids' : List ℕ)
    → GivesRooms (rooms_outcome F border ws ids) r ws' ids' → LeavesPlainRooms F border r ids' → r.refusal ≡ 0 → Measured F ids' r.max_region
rooms_call_measured F border ws ids r ws' ids' g l e =
    finished_measured F ids' r.max_region (plain-finished F border ids' r.max_region (l.rooms e) (plain_sound F border ws ids (sym g.refusal ∙ e)))
