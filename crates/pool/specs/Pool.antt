-- The pool of neighbour lists: two halves of p numbers, at h and at o, with the lists in the half at h. A merge writes the joined list past all lists and
-- renames the others where they are; where the half has no room for that, it writes all lists anew into the half at o, one after the other.
-- So the half at o is free between merges: beside each place of a list that was carried, as far from o as the place was from h, stands the record whose list it
-- was, and the places are linked (Links.antt): a merge renames in the lists that name the absorbed record, and looks at no other.
-- All lists together fit a half, since a merge never lengthens their sum.
use Rattle.std.specs.Prelude.{ℕ, ◌+◌, ◌-◌, ◌≤◌, ◌<◌, ◌≡◌, ◌⊎◌, not, List, [], ◌++◌, length, get_or, set, eqb}
use Rattle.rules.specs.Base.{◌or◌, when◌then◌else◌}
use Rattle.rules.specs.Merge.{place, around, tidy}
use Rattle.laws.specs.Sums.{sum_to}
use Rattle.space.specs.Space.{Frame}
use Rattle.table.specs.Map.{border, wide_end, spare_at, lists_at, floor_parts_at, cuts_at, pool_at}
use Rattle.table.specs.View.{part, Parts, list_start, list_end, list_in, floors_start, RecordsIn}
use Rattle.pool.specs.Part.{CopyRoom, renamed_list}
use Rattle.pool.specs.Bearers.{Bearers}
use Rattle.pool.specs.Links.{LinksPast, Mentions}

-- f with 0 at i
unfoldable pub without : (ℕ → ℕ) → ℕ → ℕ → ℕ
without f i x = when eqb x i then 0 else f x

-- how long record r's list is
unfoldable pub len_at : List ℕ → ℕ → ℕ → ℕ
len_at ws m r = list_end ws m r - list_start ws m r

-- the lists of all records before c but i and n
unfoldable pub rest_to : List ℕ → ℕ → ℕ → ℕ → ℕ → ℕ
rest_to ws m i n c = sum_to (without (without (len_at ws m) i) n) c

unfoldable pub count_at : List ℕ → ℕ → ℕ → ℕ
count_at ws m r = get_or ws (m + r) 0

-- a record's list after the renaming: a dead record's stays
unfoldable pub new_list : ℕ → ℕ → ℕ → List ℕ → List ℕ
new_list old new id l = when eqb id 0 then l else renamed_list old new l

-- the two halves lie apart, past the tables
pub record Halves (m p h o : ℕ) (ws : List ℕ) : Type 0 where
  pub past : pool_at m ≤ h
  pub past' : pool_at m ≤ o
  pub apart : (h + p ≤ o) ⊎ (o + p ≤ h)
  pub into : h + p ≤ length ws
  pub into' : o + p ≤ length ws
  pub fits : h + p < wide_end
  pub fits' : o + p < wide_end

pub record Pool (m p h o : ℕ) (ws : List ℕ) : Type 0 where
  pub held : RecordsIn m ws
  pub halves : Halves m p h o ws
  pub from : (r : ℕ) → r < m → h ≤ list_start ws m r
  pub upto : (r : ℕ) → r < m → list_end ws m r ≤ h + p
  pub floors : (r : ℕ) → r < m → (h + p ≤ floors_start ws m r) × (o + p ≤ floors_start ws m r)
  pub room : sum_to (len_at ws m) m ≤ p
  pub spans : sum_to (count_at ws m) m < 65536
  -- the records that bear one id, and a record that lists something bears its own number
  pub bearers : Bearers m ws
  pub owns : (x : ℕ) → x < m → (get_or ws x 0 ≡ 0 → ⊥) → (len_at ws m x ≡ 0 → ⊥) → get_or ws x 0 ≡ x
  -- the other column to spare
  pub blank : (x : ℕ) → x < m → get_or ws (spare_at m + x) 0 ≡ 0

-- one of the lists of x and y ends before the other starts
abbrev pub Beside : List ℕ → ℕ → ℕ → ℕ → Type 0
Beside ws m x y = (list_end ws m x ≤ list_start ws m y) ⊎ (list_end ws m y ≤ list_start ws m x)

-- the lists lie apart
pub record Apart (m : ℕ) (ws : List ℕ) : Type 0 where
  pub apart : (x y : ℕ) → x < m → y < m → (x ≡ y → ⊥) → Beside ws m x y

-- beside a place before top that is in a list stands the list's record
pub record Owned (m h o top : ℕ) (ws : List ℕ) : Type 0 where
  pub own : (x q : ℕ) → x < m → list_start ws m x ≤ q → q < list_end ws m x → q < top → get_or ws (o + (q - h)) 0 ≡ x

-- no list in the half at h goes past top, the lists lie apart, and linked places mention what they list; with top at the half's end nothing is known of them.
-- f says what an id is by now: after the lists are renamed, the ids still are to be
pub record Laid (m p h o top links : ℕ) (f : ℕ → ℕ) (ws : List ℕ) : Type 0 where
  pub room : LinksPast m p h o links ws
  pub from : h ≤ top
  pub upto : top ≤ h + p
  pub below : top < h + p → (x : ℕ) → x < m → list_end ws m x ≤ top
  pub apart : top < h + p → Apart m ws
  pub mentions : top < h + p → Mentions m p o links f ws

-- neither in the table of lists nor from a up to limit
abbrev pub Outside : ℕ → ℕ → ℕ → ℕ → Type 0
Outside m a limit j = ((j < lists_at m) ⊎ (floor_parts_at m ≤ j)) × ((j < a) ⊎ (limit ≤ j))

-- what one record's list needs to be carried to `to`
pub record Source (m x to limit : ℕ) (ws : List ℕ) : Type 0 where
  pub lists : Parts m (lists_at m) ws
  pub inside : x < m
  pub clear : CopyRoom (list_start ws m x) (list_end ws m x) to limit ws
  pub past : floor_parts_at m ≤ to
  pub fits : limit < wide_end

-- record x's list stands at to .. e, renamed
pub record Moved (m x old new to e : ℕ) (ws ws' : List ℕ) : Type 0 where
  pub start : list_start ws' m x ≡ to
  pub stop : list_end ws' m x ≡ e
  pub list : part to e ws' ≡ new_list old new (get_or ws x 0) (list_in ws m x)
  pub order : to ≤ e
  pub short : e ≤ to + len_at ws m x
  pub starts : (y : ℕ) → y < m → (y ≡ x → ⊥) → list_start ws' m y ≡ list_start ws m y
  pub stops : (y : ℕ) → y < m → (y ≡ x → ⊥) → list_end ws' m y ≡ list_end ws m y
  pub kept : (j : ℕ) → Outside m to (to + len_at ws m x) j → get_or ws' j 0 ≡ get_or ws j 0

-- i and n are passed by
pub record Next (m x i n old new to e : ℕ) (ws ws' : List ℕ) : Type 0 where
  pub skipped : (x ≡ i) ⊎ (x ≡ n) → (ws' ≡ ws) × (e ≡ to)
  pub moved : (x ≡ i → ⊥) → (x ≡ n → ⊥) → Moved m x old new to e ws ws'

-- what all others need to be carried to lo and on
pub record Sources (m i n lo limit : ℕ) (ws : List ℕ) : Type 0 where
  pub lists : Parts m (lists_at m) ws
  pub far : (r : ℕ) → r < m → (r ≡ i → ⊥) → (r ≡ n → ⊥) → floor_parts_at m ≤ list_start ws m r
  pub apart : (r : ℕ) → r < m → (r ≡ i → ⊥) → (r ≡ n → ⊥) → (list_end ws m r ≤ lo) ⊎ (limit ≤ list_start ws m r)
  pub past : floor_parts_at m ≤ lo
  pub into : limit ≤ length ws
  pub fits : limit < wide_end
  pub room : lo + rest_to ws m i n m ≤ limit

-- record x's list stands somewhere in lo .. hi, renamed
pub record There (m x old new lo hi : ℕ) (ws ws' : List ℕ) : Type 0 where
  pub from : lo ≤ list_start ws' m x
  pub order : list_start ws' m x ≤ list_end ws' m x
  pub upto : list_end ws' m x ≤ hi
  pub list : list_in ws' m x ≡ new_list old new (get_or ws x 0) (list_in ws m x)
  pub short : len_at ws' m x ≤ len_at ws m x

-- the records from c on are carried, but i and n
pub record Carried (m i n c old new lo hi limit : ℕ) (ws ws' : List ℕ) : Type 0 where
  pub order : lo ≤ hi
  pub room : hi + rest_to ws m i n c ≤ limit
  pub there : (x : ℕ) → c ≤ x → x < m → (x ≡ i → ⊥) → (x ≡ n → ⊥) → There m x old new lo hi ws ws'
  pub starts : (x : ℕ) → x < m → (x < c) ⊎ ((x ≡ i) ⊎ (x ≡ n)) → list_start ws' m x ≡ list_start ws m x
  pub stops : (x : ℕ) → x < m → (x < c) ⊎ ((x ≡ i) ⊎ (x ≡ n)) → list_end ws' m x ≡ list_end ws m x
  -- the last first
  pub apart : (x y : ℕ) → c ≤ x → x < y → y < m → (x ≡ i → ⊥) → (x ≡ n → ⊥) → (y ≡ i → ⊥) → (y ≡ n → ⊥) → list_end ws' m y ≤ list_start ws' m x
  pub kept : (j : ℕ) → Outside m lo limit j → get_or ws' j 0 ≡ get_or ws j 0

-- record x's list starts where it did, renamed
pub record Shrunk (m x old new : ℕ) (ws ws' : List ℕ) : Type 0 where
  pub order : list_start ws m x ≤ list_end ws' m x
  pub upto : list_end ws' m x ≤ list_end ws m x
  pub list : list_in ws' m x ≡ new_list old new (get_or ws x 0) (list_in ws m x)

-- and no other list has changed
pub record Renamed (m x old new : ℕ) (ws ws' : List ℕ) : Type 0 where
  pub shrunk : Shrunk m x old new ws ws'
  pub starts : (y : ℕ) → y < m → list_start ws' m y ≡ list_start ws m y
  pub stops : (y : ℕ) → y < m → (y ≡ x → ⊥) → list_end ws' m y ≡ list_end ws m y
  pub kept : (j : ℕ) → Outside m (list_start ws m x) (list_end ws m x) j → get_or ws' j 0 ≡ get_or ws j 0

-- i and n are passed by
pub record Passed (m x i n old new : ℕ) (ws ws' : List ℕ) : Type 0 where
  pub skipped : (x ≡ i) ⊎ (x ≡ n) → ws' ≡ ws
  pub renamed : (x ≡ i → ⊥) → (x ≡ n → ⊥) → Renamed m x old new ws ws'

-- lists that can be renamed where they are
pub record Rows (m : ℕ) (ws : List ℕ) : Type 0 where
  pub lists : Parts m (lists_at m) ws
  pub far : (r : ℕ) → r < m → floor_parts_at m ≤ list_start ws m r
  pub apart : Apart m ws

-- neither in the table of lists nor in the list of a record other than i and n
pub record Free (m i n j : ℕ) (ws : List ℕ) : Type 0 where
  pub table : (j < lists_at m) ⊎ (floor_parts_at m ≤ j)
  pub lists : (x : ℕ) → x < m → (x ≡ i → ⊥) → (x ≡ n → ⊥) → (j < list_start ws m x) ⊎ (list_end ws m x ≤ j)

-- all records but i and n are renamed where they are
pub record Swept (m i n old new : ℕ) (ws ws' : List ℕ) : Type 0 where
  pub done : (x : ℕ) → x < m → (x ≡ i → ⊥) → (x ≡ n → ⊥) → Shrunk m x old new ws ws'
  pub starts : (x : ℕ) → x < m → list_start ws' m x ≡ list_start ws m x
  pub stops : (x : ℕ) → x < m → (x ≡ i) ⊎ (x ≡ n) → list_end ws' m x ≡ list_end ws m x
  pub kept : (j : ℕ) → Free m i n j ws → get_or ws' j 0 ≡ get_or ws j 0

-- x stands beside the places a .. e of the half at h
pub record OwnedPart (h o a e x : ℕ) (ws ws' : List ℕ) : Type 0 where
  pub each : (q : ℕ) → a ≤ q → q < e → get_or ws' (o + (q - h)) 0 ≡ x
  pub kept : Frame (o + (a - h)) (o + (e - h)) ws ws'

-- all lists stand in the half at h, and lie apart
pub record Standing (m p h o : ℕ) (ws : List ℕ) : Type 0 where
  pub few : m ≤ border
  pub rows : Rows m ws
  pub halves : Halves m p h o ws
  pub from : (x : ℕ) → x < m → h ≤ list_start ws m x
  pub upto : (x : ℕ) → x < m → list_end ws m x ≤ h + p

-- two records, and where each lists the other
pub record EachLists (m n k i j : ℕ) (ws : List ℕ) : Type 0 where
  pub first : n < m
  pub second : i < m
  pub apart : i ≡ n → ⊥
  pub lists : k < len_at ws m n
  pub lists' : j < len_at ws m i

-- `merge_regions`: the lists of n and i without the entries k and j, from the one after each round, and then renamed
unfoldable pub joined_list : List ℕ → List ℕ → ℕ → ℕ → ℕ → ℕ → List ℕ
joined_list l l' k j old new = renamed_list old new (tidy (around l k ++ around l' j))

-- what the joined list needs to be written at to
pub record Target (m n i to limit : ℕ) (ws : List ℕ) : Type 0 where
  pub lists : Parts m (lists_at m) ws
  pub apart : (list_end ws m n ≤ to) ⊎ (limit ≤ list_start ws m n)
  pub apart' : (list_end ws m i ≤ to) ⊎ (limit ≤ list_start ws m i)
  pub past : floor_parts_at m ≤ to
  pub into : limit ≤ length ws
  pub fits : limit < wide_end
  pub room : to + len_at ws m n + len_at ws m i ≤ limit

-- record n's list is the joined one, at to .. e, and record i's is empty
pub record Absorbed (m n k i j old new to limit e : ℕ) (ws ws' : List ℕ) : Type 0 where
  pub first : list_start ws' m n ≡ to
  pub last : list_end ws' m n ≡ e
  pub bare : list_start ws' m i ≡ e
  pub bare' : list_end ws' m i ≡ e
  pub list : part to e ws' ≡ joined_list (list_in ws m n) (list_in ws m i) k j old new
  pub order : to ≤ e
  pub short : e ≤ to + len_at ws m n + len_at ws m i
  pub starts : (y : ℕ) → y < m → (y ≡ i → ⊥) → (y ≡ n → ⊥) → list_start ws' m y ≡ list_start ws m y
  pub stops : (y : ℕ) → y < m → (y ≡ i → ⊥) → (y ≡ n → ⊥) → list_end ws' m y ≡ list_end ws m y
  pub kept : (y : ℕ) → Outside m to limit y → get_or ws' y 0 ≡ get_or ws y 0

-- b and c are the halves h and o, in this order or the other
abbrev pub Sides : ℕ → ℕ → ℕ → ℕ → Type 0
Sides h o b c = ((b ≡ h) × (c ≡ o)) ⊎ ((b ≡ o) × (c ≡ h))

-- all lists stand in the half at b; the one at c is free
pub record Relisted (m p n k i j old new b c links : ℕ) (ws ws' : List ℕ) : Type 0 where
  pub joined : list_in ws' m n ≡ joined_list (list_in ws m n) (list_in ws m i) k j old new
  pub bare : list_in ws' m i ≡ []
  pub others : (x : ℕ) → x < m → (x ≡ i → ⊥) → (x ≡ n → ⊥) → list_in ws' m x ≡ new_list old new (get_or ws x 0) (list_in ws m x)
  pub parts : Parts m (lists_at m) ws'
  pub from : (x : ℕ) → x < m → b ≤ list_start ws' m x
  pub upto : (x : ℕ) → x < m → list_end ws' m x ≤ b + p
  pub room : sum_to (len_at ws' m) m ≤ p
  pub kept : (y : ℕ) → Outside m b (b + p) y → (y < c) ⊎ (c + p ≤ y) → y < links → get_or ws' y 0 ≡ get_or ws y 0

-- record i is live and lists the live record n first at j, and n lists i first at k; i's id is not n
pub record Listed (m n k i j : ℕ) (ws : List ℕ) : Type 0 where
  pub pair : EachLists m n k i j ws
  pub live : get_or ws i 0 ≡ 0 → ⊥
  pub live' : get_or ws n 0 ≡ 0 → ⊥
  pub other : get_or ws i 0 ≡ n → ⊥
  pub first : k ≡ place (list_in ws m n) (get_or ws i 0)
  pub first' : j ≡ place (list_in ws m i) (get_or ws n 0)

-- the marks of n and i: n bears what either bore, and i none
unfoldable pub remarked : ℕ → ℕ → ℕ → List ℕ → List ℕ
remarked m n i ws = when eqb (get_or ws (cuts_at m + i) 0) 0 then ws else set (set ws (cuts_at m + n) 1) (cuts_at m + i) 0

-- what that leaves
pub record Remarked (m n i : ℕ) (ws ws' : List ℕ) : Type 0 where
  pub size : length ws' ≡ length ws
  pub kept : (y : ℕ) → (y < cuts_at m) ⊎ (cuts_at m + m ≤ y) → get_or ws' y 0 ≡ get_or ws y 0
  pub others : (x : ℕ) → x < m → (x ≡ i → ⊥) → (x ≡ n → ⊥) → get_or ws' (cuts_at m + x) 0 ≡ get_or ws (cuts_at m + x) 0
  pub bare : get_or ws' (cuts_at m + i) 0 ≡ 0
  pub both : not (eqb (get_or ws' (cuts_at m + n) 0) 0) ≡ (not (eqb (get_or ws (cuts_at m + n) 0) 0) or not (eqb (get_or ws (cuts_at m + i) 0) 0))
