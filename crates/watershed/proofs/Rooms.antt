-- Demand 3 of a call of the region entry, as the entry's promise has it: where nothing is refused the list of ids has (a), (b) and (c).
-- It is the outcome's theorem read through the equations of the promise; a refusal's number is not 0. Assumes nothing.
use Prim.Native.Nat.{ℕ}
use native.Mathlib.Omega.{arith}
use mathlib.Core.Path.{sym, ◌∙◌}
use mathlib.Core.List.{List}
use Rattle.rules.specs.Field.{Field, Bytes}
use Rattle.rules.specs.Numbering.{Form}
use Rattle.rules.specs.Outcomes.{Sizes, region_outcome}
use Rattle.rooms.proofs.Entry.{not_refused_gives_rooms}
use Rattle.checker.specs.declared.Refusal.{Refusal}
use Rattle.std.specs.Prelude.{Result, Err}
use Rattle.numbering.specs.declared.Regions as numbering
use Rattle.watershed.specs.Answer.{AnswersRegions, GivesRooms}
use Rattle.checker.proofs.Numbers.{number_pos}

pub refused_no_rooms : (form : Form) (F : Field) (border : ℕ) (r : Refusal) (l : List ℕ) → GivesRooms form F border (Err r) l
refused_no_rooms form F border r l = record { rooms = λ e. absurd (omega (arith, number_pos r)) }

-- dist, most and z are what the call is lent, ws and ids the two lists before it; r, ws' and ids' what it returns and leaves
pub call_gives_rooms : (form : Form) (F : Field) (dist : List ℕ) (most : ℕ) (z : Sizes) (ws ids : List ℕ) (r : Result numbering.Regions Refusal) (ws' ids' : List ℕ) → Bytes F
    → AnswersRegions (region_outcome form F dist most z ws ids) r ws' ids' → GivesRooms form F z.border r ids'
call_gives_rooms form F dist most z ws ids r ws' ids' bytes a =
    record { rooms = λ e. rw (a.ids, a.most) (not_refused_gives_rooms form F dist most z ws ids bytes (sym a.refused ∙ e)) }
