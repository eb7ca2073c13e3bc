-- Region records.
use Rattle.std.specs.Prelude.{ℕ, suc, Bool, false, not, List, [], ◌∷◌, ◌++◌, map, length, get_or, set, ltb, eqb}
use Rattle.rules.specs.Base.{◌or◌, ◌and◌, when◌then◌else◌, upto, tab, keep, any}
use Rattle.rules.specs.Field.{Field, spans, cell_of}
use Rattle.rules.specs.Net.{net_of, area_of}
use Rattle.rules.specs.Growth.{plain}
use Rattle.rules.specs.Contour.{first_solid, contour, cut_short}

-- a record: list is its neighbour list, floors its floor list, cut the mark of a contour that was cut short
pub record Rec : Type 0 where
  pub id : ℕ
  pub count : ℕ
  pub area : ℕ
  pub visited : Bool
  pub overlap : Bool
  pub list : List ℕ
  pub floors : List ℕ
  pub cut : Bool

unfoldable pub fresh : ℕ → Rec
fresh i = record { id = i; count = 0; area = 0; visited = false; overlap = false; list = []; floors = []; cut = false }

unfoldable pub at : List Rec → ℕ → Rec
at rs i = get_or rs i (fresh 0)

abbrev pub has : List ℕ → ℕ → Bool
has l r = any (eqb r) l

-- "join the floor list once"
unfoldable pub once : List ℕ → ℕ → List ℕ
once l r = when has l r then l else l ++ (r ∷ [])

unfoldable pub once_all : List ℕ → List ℕ → List ℕ
once_all l [] = l
once_all l (r ∷ rs) = once_all (once l r) rs

-- "Unflagged nonzero ids below or above it in the cell", in layer order
unfoldable pub others : Field → List ℕ → ℕ → List ℕ
others F ids s =
    let c = cell_of F.count s in
    keep plain (map (λ t. get_or ids t 0) (keep (λ t. not (eqb t s)) (tab (get_or F.count c 0) (get_or F.index c 0) (λ t. t))))

-- "each span .. adds one to its record. Unflagged nonzero ids below or above it in the cell join the floor list once; its own id there
-- sets overlap. While the neighbour list is empty, the record takes the area, and the contour is walked from the span if it has a
-- solid edge, starting at the first solid direction of four, or none." "Every region record gets a mark" for a contour cut short.
unfoldable pub counted : Field → List ℕ → ℕ → Rec → Rec
counted F ids s r =
    let o = others F ids s in
    let d = first_solid (net_of F) ids s in
    let empty = eqb (length r.list) 0 in
    record {
      id = r.id;
      count = suc r.count;
      visited = r.visited;
      area = when empty then area_of (net_of F) s else r.area;
      overlap = r.overlap or has o (get_or ids s 0);
      list = when empty and ltb d 4 then contour (net_of F) ids s d else r.list;
      floors = once_all r.floors o;
      cut = r.cut or (empty and ltb d 4 and cut_short (net_of F) ids s d);
    }

-- "each span with an unflagged nonzero id adds one to its record"
unfoldable pub add_span : Field → List ℕ → ℕ → List Rec → List Rec
add_span F ids s rs =
    let r = get_or ids s 0 in
    when plain r then set rs r (counted F ids s (at rs r)) else rs

-- "Records run from 0 to the next id, both included. In scan order .."
unfoldable pub records : Field → List ℕ → ℕ → List Rec
records F ids next = upto (spans F) (add_span F ids) (tab (suc next) 0 fresh)
