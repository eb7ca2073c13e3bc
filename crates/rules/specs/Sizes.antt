-- Floor sizes in metres: the record of one id of a finished result, and the outcome of its entry on ANY input.
use Rattle.std.specs.Prelude.{ℕ, suc, ◌*◌, ◌/◌, ◌%◌, min, max, Bool, false, not, List, [], length, get_or, leb, ltb, eqb, pos, Float}
use Rattle.std.specs.Float.{fin, binary64}
use Rattle.std.specs.Float.Ieee.{round}
use Rattle.rules.specs.Base.{◌and◌, ◌or◌, when◌then◌else◌, upto, any}
use Rattle.rules.specs.Field.{Field, spans, cell_of, area_of}
use Rattle.rules.specs.Refusals.{refusal}
use Rattle.rules.specs.Growth.{flagged}

-- what is known of an id after some of its spans: in cells, before anything is in metres
pub record Extent : Type 0 where
  pub count : ℕ
  pub area : ℕ
  pub x_least : ℕ
  pub x_past : ℕ
  pub z_least : ℕ
  pub z_past : ℕ

abbrev pub nothing : Extent
nothing = record { count = 0; area = 0; x_least = 0; x_past = 0; z_least = 0; z_past = 0 }

-- "The edges are the least x, the greatest x plus 1, and the same for z; the area code is that of the id's first span.":
-- a span of area a at (x, z) is added
unfoldable pub added : ℕ → ℕ → ℕ → Extent → Extent
added a x z e =
    when eqb e.count 0
    then record { count = 1; area = a; x_least = x; x_past = suc x; z_least = z; z_past = suc z }
    else record {
      count = suc e.count;
      area = e.area;
      x_least = min e.x_least x;
      x_past = max e.x_past (suc x);
      z_least = min e.z_least z;
      z_past = max e.z_past (suc z);
    }

-- span s, if it has the id
unfoldable pub noted : Field → List ℕ → ℕ → ℕ → Extent → Extent
noted F ids id s e =
    let c = cell_of F.count s in
    when eqb (get_or ids s 0) id then added (area_of F s) (c % F.w) (c / F.w) e else e

unfoldable pub extent : Field → List ℕ → ℕ → Extent
extent F ids id = upto (spans F) (noted F ids id) nothing

-- "A flagged id, one without spans and one outside 1 to max_region show zeros throughout."
unfoldable pub shown : ℕ → ℕ → Bool
shown most id = leb 1 id and leb id most and not (flagged id)

unfoldable pub extent_of : Field → List ℕ → ℕ → ℕ → Extent
extent_of F ids most id = when shown most id then extent F ids id else nothing

-- "Each is a 64-bit float, exact": the value a / c, of which nothing is rounded (`size_exact`)
unfoldable pub metres : ℕ → ℕ → Float
metres a c = round binary64 false a c

-- "a size record of floor size and four edge coordinates, beside the area code and the span count"
pub record RoomSize : Type 0 where
  pub floor : Float
  pub x_least : Float
  pub x_past : Float
  pub z_least : Float
  pub z_past : Float
  pub area : ℕ
  pub count : ℕ

-- "floor size is count·k·k/4096, an edge is a cell number times k/64"
unfoldable pub sized : ℕ → Extent → RoomSize
sized k e = record {
  floor = metres (e.count * k * k) 4096;
  x_least = metres (e.x_least * k) 64;
  x_past = metres (e.x_past * k) 64;
  z_least = metres (e.z_least * k) 64;
  z_past = metres (e.z_past * k) 64;
  area = e.area;
  count = e.count;
}

-- "9 for k 0 or above 256"
unfoldable pub wrong_scale : ℕ → Bool
wrong_scale k = eqb k 0 or ltb 256 k

-- an unflagged id above max_region
unfoldable pub too_great : ℕ → ℕ → Bool
too_great most r = not (flagged r) and ltb most r

-- 10: "An id list that isn't n long (here not a 3), or that holds an unflagged id above max_region, is refused."
unfoldable pub wrong_ids : ℕ → List ℕ → ℕ → Bool
wrong_ids n ids most = not (eqb (length ids) n) or any (too_great most) ids

-- "9 for k 0 or above 256, 10 for the id list, both after 1 to 6, in that order"; 0 for none of them
unfoldable pub measure_refusal : Field → List ℕ → ℕ → ℕ → ℕ
measure_refusal F ids most k =
    let r = refusal F [] in
    when not (eqb r 0) then r else
    when wrong_scale k then 9 else
    when wrong_ids (spans F) ids most then 10 else 0

pub record MeasureOutcome : Type 0 where
  pub refused : ℕ
  pub room : RoomSize

-- "zeros throughout"; "a record of zeros"
abbrev pub zero64 : Float
zero64 = fin false 0 (pos 0)

abbrev pub zeros : RoomSize
zeros = record { floor = zero64; x_least = zero64; x_past = zero64; z_least = zero64; z_past = zero64; area = 0; count = 0 }

unfoldable pub measure_outcome : Field → List ℕ → ℕ → ℕ → ℕ → MeasureOutcome
measure_outcome F ids most k id =
    let r = measure_refusal F ids most k in
    when eqb r 0
    then record { refused = 0; room = sized k (extent_of F ids most id) }
    else record { refused = r; room = zeros }
