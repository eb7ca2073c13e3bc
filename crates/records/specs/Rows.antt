-- The records while they are built: m of them, of n spans. Record i's floors lie from 62·slot i on in the floors' room.
use Rattle.std.specs.Prelude.{◌≡◌, Bool, true, List, [], ℕ, suc, ◌+◌, ◌*◌, ◌≤◌, ◌<◌, length, get_or, set, take, eqb, ltb}
use Rattle.rules.specs.Base.{◌and◌, ◌or◌, when◌then◌else◌, many}
use Rattle.rules.specs.Net.{Net, area_of}
use Rattle.rules.specs.Growth.{plain}
use Rattle.rules.specs.Contour.{first_solid, contour, cut_short}
use Rattle.rules.specs.Records.{Rec, at, has, once_all}
use Rattle.rules.specs.Refusals.{most_spans}
use Rattle.contour.specs.Pool.{pooled}
use Rattle.table.specs.Map.{border, areas_at, overlaps_at, visits_at, spare_at, cuts_at, pool_at, half_of, floors_from, floor_room, records_end}
use Rattle.table.specs.View.{recs_of, list_start, list_end, list_in, floors_start, floors_end, floors_in}
use Rattle.records.specs.Cell.{twins, others_from}
use Rattle.records.specs.declared.cell.Spans.{Spans}

-- how many spans have an id below i: the room of record i's floors begins there
unfoldable pub slot : List ℕ → ℕ → ℕ
slot ids i = many (λ x. ltb x i) ids

-- where record i's floors begin
unfoldable pub floors_at : List ℕ → ℕ → ℕ → ℕ
floors_at ids m i = floors_from m (length ids) + floor_room * slot ids i

-- is i one of the m records, and has it a list?
unfoldable pub walked : ℕ → List ℕ → ℕ → Bool
walked m ws i = ltb i m and ltb (list_start ws m i) (list_end ws m i)

-- a span of id x counts for record i
unfoldable pub mine : ℕ → ℕ → Bool
mine i x = plain x and eqb i x

-- record i after k spans: its list lies in the pool before top, its floors in their room
pub record Row (ids : List ℕ) (m top k i : ℕ) (ws : List ℕ) : Type 0 where
  pub from : pool_at m ≤ list_start ws m i
  pub order : list_start ws m i ≤ list_end ws m i
  pub till : list_end ws m i ≤ pool_at m + top
  pub floors : floors_start ws m i ≡ floors_at ids m i
  pub order' : floors_start ws m i ≤ floors_end ws m i
  pub till' : floors_end ws m i ≤ floors_start ws m i + floor_room * get_or ws (m + i) 0
  pub tally : get_or ws (m + i) 0 ≡ many (mine i) (take k ids)

-- all records after k spans, the pool filled up to top
pub record Keeping (ids : List ℕ) (m top k : ℕ) (ws : List ℕ) : Type 0 where
  pub few : m ≤ border
  pub spans : length ids ≤ most_spans
  pub room : records_end m (length ids) ≤ length ws
  pub below : (x : ℕ) → plain (get_or ids x 0) ≡ true → get_or ids x 0 < m
  pub rows : (i : ℕ) → i < m → Row ids m top k i ws
  pub used : top ≤ 4 * many (walked m ws) ids
  pub blank : (j : ℕ) → pool_at m + top ≤ j → j < floors_from m (length ids) → get_or ws j 0 ≡ 0
  pub spare : (x : ℕ) → x < 2 * m → get_or ws (spare_at m + x) 0 ≡ 0

-- nothing but record r is changed
pub record Change (m r : ℕ) (ws ws' : List ℕ) : Type 0 where
  pub size : length ws' ≡ length ws
  pub names : (x : ℕ) → x < m → (x ≡ r → ⊥) → get_or ws' x 0 ≡ get_or ws x 0
  pub counts : (x : ℕ) → x < m → (x ≡ r → ⊥) → get_or ws' (m + x) 0 ≡ get_or ws (m + x) 0
  pub areas : (x : ℕ) → x < m → (x ≡ r → ⊥) → get_or ws' (areas_at m + x) 0 ≡ get_or ws (areas_at m + x) 0
  pub overlaps : (x : ℕ) → x < m → (x ≡ r → ⊥) → get_or ws' (overlaps_at m + x) 0 ≡ get_or ws (overlaps_at m + x) 0
  pub visits : (x : ℕ) → x < m → (x ≡ r → ⊥) → get_or ws' (visits_at m + x) 0 ≡ get_or ws (visits_at m + x) 0
  pub starts : (x : ℕ) → x < m → (x ≡ r → ⊥) → list_start ws' m x ≡ list_start ws m x
  pub stops : (x : ℕ) → x < m → (x ≡ r → ⊥) → list_end ws' m x ≡ list_end ws m x
  pub starts' : (x : ℕ) → x < m → (x ≡ r → ⊥) → floors_start ws' m x ≡ floors_start ws m x
  pub stops' : (x : ℕ) → x < m → (x ≡ r → ⊥) → floors_end ws' m x ≡ floors_end ws m x
  pub lists : (x : ℕ) → x < m → (x ≡ r → ⊥) → list_in ws' m x ≡ list_in ws m x
  pub floors : (x : ℕ) → x < m → (x ≡ r → ⊥) → floors_in ws' m x ≡ floors_in ws m x
  pub cuts : (x : ℕ) → x < m → (x ≡ r → ⊥) → get_or ws' (cuts_at m + x) 0 ≡ get_or ws (cuts_at m + x) 0
  pub spare : (x : ℕ) → x < 2 * m → get_or ws' (spare_at m + x) 0 ≡ get_or ws (spare_at m + x) 0

-- one span more is counted in record r than has given its floors
pub record Slack (m r : ℕ) (ws : List ℕ) : Type 0 where
  pub slack : floors_end ws m r + floor_room ≤ floors_start ws m r + floor_room * get_or ws (m + r) 0

-- what a trace leaves: a list in the pool, which ends at t
pub record Traced (l : List ℕ) (ids : List ℕ) (base top : ℕ) (ws ws' : List ℕ) (t : ℕ) : Type 0 where
  pub end : t ≡ top + length l
  pub pool : ws' ≡ pooled ws base (half_of (length ids)) top l

-- ---- the rule's `counted`, part by part

unfoldable pub plus_one : Rec → Rec
plus_one r = record { id = r.id; count = suc r.count; area = r.area; visited = r.visited; overlap = r.overlap; list = r.list; floors = r.floors; cut = r.cut }

unfoldable pub overlaid : Bool → Rec → Rec
overlaid b r = record { id = r.id; count = r.count; area = r.area; visited = r.visited; overlap = r.overlap or b; list = r.list; floors = r.floors; cut = r.cut }

-- overlap as it is set
unfoldable pub marked : ℕ → ℕ → Bool → List ℕ → List ℕ
marked m r b ws = when b then set ws (overlaps_at m + r) 1 else ws

unfoldable pub floored : List ℕ → Rec → Rec
floored o r = record { id = r.id; count = r.count; area = r.area; visited = r.visited; overlap = r.overlap; list = r.list; floors = once_all r.floors o; cut = r.cut }

-- the list that a span gives: that of its contour, if it has a solid edge
unfoldable pub traced : Net → List ℕ → ℕ → List ℕ
traced N ids s = when ltb (first_solid N ids s) 4 then contour N ids s (first_solid N ids s) else []

unfoldable pub with_area : ℕ → Rec → Rec
with_area a r = record { id = r.id; count = r.count; area = a; visited = r.visited; overlap = r.overlap; list = r.list; floors = r.floors; cut = r.cut }

unfoldable pub with_list : List ℕ → Rec → Rec
with_list l r = record { id = r.id; count = r.count; area = r.area; visited = r.visited; overlap = r.overlap; list = l; floors = r.floors; cut = r.cut }

-- was the walk of that contour cut short?
unfoldable pub traced_cut : Net → List ℕ → ℕ → Bool
traced_cut N ids s = ltb (first_solid N ids s) 4 and cut_short N ids s (first_solid N ids s)

unfoldable pub with_cut : Bool → Rec → Rec
with_cut b r = record { id = r.id; count = r.count; area = r.area; visited = r.visited; overlap = r.overlap; list = r.list; floors = r.floors; cut = r.cut or b }

-- the mark as it is set
unfoldable pub cut_marked : ℕ → ℕ → Bool → List ℕ → List ℕ
cut_marked m r b ws = when b then set ws (cuts_at m + r) 1 else ws

-- the list, and the mark where its walk was cut short
unfoldable pub with_contour : List ℕ → Bool → Rec → Rec
with_contour l b r = with_cut b (with_list l r)

-- while the list is empty, the record takes the span's area and contour
unfoldable pub contoured : Net → List ℕ → ℕ → Rec → Rec
contoured N ids s r =
    let empty = eqb (length r.list) 0 in
    record {
      id = r.id;
      count = r.count;
      area = when empty then area_of N s else r.area;
      visited = r.visited;
      overlap = r.overlap;
      list = when empty then traced N ids s else r.list;
      floors = r.floors;
      cut = r.cut or (empty and traced_cut N ids s);
    }

-- what a span takes from its cell, the n spans from t on
unfoldable pub celled : List ℕ → ℕ → ℕ → ℕ → Rec → Rec
celled ids s n t r = floored (others_from ids s n t) (overlaid (twins ids s (get_or ids s 0) n t) (plus_one r))

-- ---- what a record has already

-- what span s takes from its cell, the n spans from t on, record x has: floors, and overlap where another of them has the span's id
pub record Took (ids : List ℕ) (s n t : ℕ) (x : Rec) : Type 0 where
  pub floors : (v : ℕ) → has (others_from ids s n t) v ≡ true → has x.floors v ≡ true
  pub overlap : twins ids s (get_or ids s 0) n t ≡ true → x.overlap ≡ true

-- so have the records of all spans of a cell
pub record Known (ids : List ℕ) (cell : Spans) (rs : List Rec) : Type 0 where
  pub took : (s : ℕ) → cell.from ≤ s → s < cell.from + cell.size → plain (get_or ids s 0) ≡ true → Took ids s cell.size cell.from (at rs (get_or ids s 0))

-- ---- what the parts of a count leave

-- record r is f of what it was, and the others are as they were
pub record Step (f : Rec → Rec) (ids : List ℕ) (m r top k : ℕ) (ws ws' : List ℕ) : Type 0 where
  pub keeping : Keeping ids m top k ws'
  pub same : recs_of ws' m ≡ set (recs_of ws m) r (f (at (recs_of ws m) r))
  pub size : length ws' ≡ length ws
  pub after : (j : ℕ) → records_end m (length ids) ≤ j → get_or ws' j 0 ≡ get_or ws j 0
