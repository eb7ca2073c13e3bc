-- The records as they lie in the workspace (Map.antt): m records, their lists' table at s, their floors' at t. Starts and ends are places in the workspace,
-- past the columns.
use Rattle.std.specs.Prelude.{ℕ, ◌+◌, ◌-◌, ◌*◌, ◌≤◌, ◌<◌, ◌≡◌, not, List, length, get_or, take, drop, eqb}
use Rattle.rules.specs.Base.{tab}
use Rattle.rules.specs.Records.{Rec}
use Rattle.space.specs.Space.{Frame}
use Rattle.table.specs.Map.{border, Names, areas_at, overlaps_at, visits_at, lists_at, floor_parts_at, cuts_at}

-- the numbers from a up to e
unfoldable pub part : ℕ → ℕ → List ℕ → List ℕ
part a e ws = take (e - a) (drop a ws)

-- a number in two halves, low at a, high m further on
unfoldable pub wide : List ℕ → ℕ → ℕ → ℕ
wide ws m a = get_or ws a 0 + 65536 * get_or ws (a + m) 0

abbrev pub start_of : List ℕ → ℕ → ℕ → ℕ → ℕ
start_of ws m s r = wide ws m (s + r)

abbrev pub end_of : List ℕ → ℕ → ℕ → ℕ → ℕ
end_of ws m s r = wide ws m (s + 2 * m + r)

-- the part of record r in the table at s
unfoldable pub list_at : List ℕ → ℕ → ℕ → ℕ → List ℕ
list_at ws m s r = part (start_of ws m s r) (end_of ws m s r) ws

unfoldable pub rec_at : List ℕ → ℕ → ℕ → ℕ → ℕ → Rec
rec_at ws m s t r = record {
  id = get_or ws r 0;
  count = get_or ws (m + r) 0;
  area = get_or ws (areas_at m + r) 0;
  overlap = not (eqb (get_or ws (overlaps_at m + r) 0) 0);
  visited = not (eqb (get_or ws (visits_at m + r) 0) 0);
  list = list_at ws m s r;
  floors = list_at ws m t r;
  cut = not (eqb (get_or ws (cuts_at m + r) 0) 0);
}

unfoldable pub view : List ℕ → ℕ → ℕ → ℕ → List Rec
view ws m s t = tab m 0 (rec_at ws m s t)

-- ---- the same with the tables where they are laid

abbrev pub list_start : List ℕ → ℕ → ℕ → ℕ
list_start ws m r = start_of ws m (lists_at m) r

abbrev pub list_end : List ℕ → ℕ → ℕ → ℕ
list_end ws m r = end_of ws m (lists_at m) r

-- the neighbours of record r
abbrev pub list_in : List ℕ → ℕ → ℕ → List ℕ
list_in ws m r = list_at ws m (lists_at m) r

abbrev pub floors_start : List ℕ → ℕ → ℕ → ℕ
floors_start ws m r = start_of ws m (floor_parts_at m) r

abbrev pub floors_end : List ℕ → ℕ → ℕ → ℕ
floors_end ws m r = end_of ws m (floor_parts_at m) r

-- its floors
abbrev pub floors_in : List ℕ → ℕ → ℕ → List ℕ
floors_in ws m r = list_at ws m (floor_parts_at m) r

abbrev pub record_at : List ℕ → ℕ → ℕ → Rec
record_at ws m r = rec_at ws m (lists_at m) (floor_parts_at m) r

unfoldable pub recs_of : List ℕ → ℕ → List Rec
recs_of ws m = view ws m (lists_at m) (floor_parts_at m)

-- ----

-- a table of parts lies in the workspace past the columns, and so do its parts
pub record Parts (m s : ℕ) (ws : List ℕ) : Type 0 where
  pub room : s + 4 * m ≤ length ws
  pub past : lists_at m ≤ s
  pub order : (r : ℕ) → r < m → start_of ws m s r ≤ end_of ws m s r
  pub within : (r : ℕ) → r < m → end_of ws m s r ≤ length ws
  pub far : (r : ℕ) → r < m → lists_at m ≤ start_of ws m s r

-- every number of a list that is not flagged is below m
pub record Under (m : ℕ) (l : List ℕ) : Type 0 where
  pub under : (x : ℕ) → x < length l → Names m (get_or l x 0)

pub record Below (m : ℕ) (l : List ℕ) : Type 0 where
  pub below : (x : ℕ) → x < length l → get_or l x 0 < m

-- records that can be read: ids, lists and floors name records, and a list may hold flagged ids too
pub record Held (m s t : ℕ) (ws : List ℕ) : Type 0 where
  pub few : m ≤ border
  pub lists : Parts m s ws
  pub floors : Parts m t ws
  pub ids : (r : ℕ) → r < m → get_or ws r 0 < m
  pub listed : (r : ℕ) → r < m → Under m (list_at ws m s r)
  pub floored : (r : ℕ) → r < m → Below m (list_at ws m t r)

-- m records, as they are laid
abbrev pub RecordsIn : ℕ → List ℕ → Type 0
RecordsIn m ws = Held m (lists_at m) (floor_parts_at m) ws

-- the part of record r in the table at s is a .. e now
pub record Placed (m s r a e : ℕ) (ws ws' : List ℕ) : Type 0 where
  pub start : start_of ws' m s r ≡ a
  pub stop : end_of ws' m s r ≡ e
  pub starts : (x : ℕ) → x < m → (x ≡ r → ⊥) → start_of ws' m s x ≡ start_of ws m s x
  pub stops : (x : ℕ) → x < m → (x ≡ r → ⊥) → end_of ws' m s x ≡ end_of ws m s x
  pub kept : Frame s (s + 4 * m) ws ws'
