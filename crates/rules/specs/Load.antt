-- Loading in pieces (document 02, A2): "Take the field file in pieces of any length, an empty piece too." A loader takes a byte at a time; a piece is its bytes.
-- It is defined on ANY loader and lists of any length, so a caller may hand in numbers that no loading leads to.
use Rattle.std.specs.Prelude.{ℕ, zero, suc, ◌+◌, ◌-◌, ◌*◌, ◌%◌, Bool, List, [], ◌∷◌, ◌++◌, length, get_or, set, take, drop, leb, ltb, eqb}
use Rattle.rules.specs.Base.{◌and◌, when◌then◌else◌}
use Rattle.rules.specs.Field.{Field}
use Rattle.rules.specs.Outcomes.{Sizes}
use Rattle.rules.specs.File.{Level, Reading, refused, described, word, with_cell, with_span, empty_field}

-- ---------------------------------------------------------------- a whole file, with the place

-- what reading a file comes to: a refusal, "now with a position counted from 0", and the field so far; or what it describes
pub data Placed : Type 0 where
  refused_at : ℕ → ℕ → Field → Placed
  describes : Level → Placed

-- As `read_on`, for a field of at most so many spans, with the place in the file: "the kind byte of the record at fault, the first byte after the end record,
-- or, for a file cut short, the number of bytes received". The next record begins at place p. Of a span cut short, what came is in the field so far.
unfoldable pub read_on_at : ℕ → ℕ → ℕ → ℕ → ℕ → ℕ → List ℕ → Field → Sizes → Placed
read_on_at most zero p cells due promised bytes F z = refused_at 20 p F
read_on_at most (suc k) p cells due promised [] F z = refused_at 20 p F
read_on_at most (suc k) p cells (suc due) promised (kind ∷ rest) F z =
    let on = read_on_at most k (p + 6) cells due promised (drop 5 rest) (with_span (take 5 rest) F) z in
    let body = when leb 5 (length rest) then on else refused_at 20 (p + suc (length rest)) (with_span rest F) in
    when eqb kind 3 then body else refused_at 20 p F
read_on_at most (suc k) p (suc cells) zero promised (kind ∷ rest) F z =
    let c = get_or rest 0 0 in
    let on = read_on_at most k (p + 2) cells c (promised + c) (drop 1 rest) (with_cell promised c F) z in
    let fits = when ltb most (promised + c) then refused_at 21 p F else on in
    let body = when leb 1 (length rest) then fits else refused_at 20 (p + suc (length rest)) F in
    when eqb kind 2 then body else refused_at 20 p F
read_on_at most (suc k) p zero zero promised (kind ∷ rest) F z =
    let end = when eqb (length rest) 0 then describes (record { field = F; sizes = z }) else refused_at 20 (p + 1) F in
    when eqb kind 4 then end else refused_at 20 p F

-- as `read_file`, for a field of at most so many cells and spans
unfoldable pub read_file_at : ℕ → ℕ → List ℕ → Placed
read_file_at cells spans [] = refused_at 20 0 (empty_field 0 0)
read_file_at cells spans (kind ∷ rest) =
    let w = word rest 0 in
    let h = word rest 2 in
    let z : Sizes = record { border = word rest 4; least = word rest 6; merge = word rest 8 } in
    let on = read_on_at spans (length rest) 11 (w * h) 0 0 (drop 10 rest) (empty_field w h) z in
    let fits = when ltb cells (w * h) then refused_at 21 0 (empty_field 0 0) else on in
    let body = when leb 10 (length rest) then fits else refused_at 20 (suc (length rest)) (empty_field 0 0) in
    when eqb kind 1 then body else refused_at 20 0 (empty_field 0 0)

-- document 01's reading, the place left out
unfoldable pub reading_by : Placed → Reading
reading_by (refused_at n p F) = refused n
reading_by (describes L) = described L

-- the field so far, where the reading ends
unfoldable pub field_by : Placed → Field
field_by (refused_at n p F) = F
field_by (describes L) = L.field

-- ---------------------------------------------------------------- the loader

-- The numbers of a loader: the limits of refusal 21; the kind of the record under way (0: none), the bytes of its body so far and the place of its kind
-- byte; the bytes received; the header's numbers; the cells and spans so far and the spans of the last cell that are still to come; the refusal and its
-- position; and whether the end was declared.
pub record Loader : Type 0 where
  pub most_cells : ℕ
  pub most_spans : ℕ
  pub kind : ℕ
  pub got : ℕ
  pub start : ℕ
  pub received : ℕ
  pub w : ℕ
  pub h : ℕ
  pub border : ℕ
  pub least : ℕ
  pub merge : ℕ
  pub cells : ℕ
  pub spans : ℕ
  pub due : ℕ
  pub refusal : ℕ
  pub position : ℕ
  pub ended : ℕ

-- a loader and the lists that it is lent
pub record Loading : Type 0 where
  pub loader : Loader
  pub index : List ℕ
  pub count : List ℕ
  pub area : List ℕ
  pub con : List ℕ

-- before the first byte
unfoldable pub load_begin : ℕ → ℕ → Loader
load_begin cells spans = record {
  most_cells = cells;
  most_spans = spans;
  kind = 0;
  got = 0;
  start = 0;
  received = 0;
  w = 0;
  h = 0;
  border = 0;
  least = 0;
  merge = 0;
  cells = 0;
  spans = 0;
  due = 0;
  refusal = 0;
  position = 0;
  ended = 0;
}

-- neither refused nor ended
unfoldable pub going : Loader → Bool
going l = eqb l.refusal 0 and eqb l.ended 0

-- one more, in 32 bits: a count that has no more room stays where it is
unfoldable pub up : ℕ → ℕ
up n = when ltb n 4294967295 then n + 1 else n

-- refused, at that place
unfoldable pub refusing : ℕ → ℕ → Loader → Loader
refusing n p l = record {
  most_cells = l.most_cells;
  most_spans = l.most_spans;
  kind = l.kind;
  got = l.got;
  start = l.start;
  received = l.received;
  w = l.w;
  h = l.h;
  border = l.border;
  least = l.least;
  merge = l.merge;
  cells = l.cells;
  spans = l.spans;
  due = l.due;
  refusal = n;
  position = p;
  ended = l.ended;
}

-- a byte more was received: the record under way is now of that kind, began there and has so many bytes of its body
unfoldable pub onward : ℕ → ℕ → ℕ → Loader → Loader
onward kind start got l = record {
  most_cells = l.most_cells;
  most_spans = l.most_spans;
  kind = kind;
  got = got;
  start = start;
  received = up l.received;
  w = l.w;
  h = l.h;
  border = l.border;
  least = l.least;
  merge = l.merge;
  cells = l.cells;
  spans = l.spans;
  due = l.due;
  refusal = l.refusal;
  position = l.position;
  ended = l.ended;
}

-- other counts of cells, spans and spans due
unfoldable pub counted : ℕ → ℕ → ℕ → Loader → Loader
counted cells spans due l = record {
  most_cells = l.most_cells;
  most_spans = l.most_spans;
  kind = l.kind;
  got = l.got;
  start = l.start;
  received = l.received;
  w = l.w;
  h = l.h;
  border = l.border;
  least = l.least;
  merge = l.merge;
  cells = cells;
  spans = spans;
  due = due;
  refusal = l.refusal;
  position = l.position;
  ended = l.ended;
}

-- "Order: header, each cell followed by its spans, end.": the kind that is in place
unfoldable pub wanted : Loader → ℕ
wanted l =
    when eqb l.received 0 then 1 else
    when ltb 0 l.due then 3 else
    when ltb l.cells (l.w * l.h) then 2 else 4

-- a kind byte: "unknown kind, record out of place" is refused there
unfoldable pub kind_byte : Loader → ℕ → Loader
kind_byte l b = when eqb b (wanted l) then onward b l.received 0 l else refusing 20 l.received l

-- "numbers little-endian": a number of the header whose bytes are i and i + 1 of the body, after byte b came as number got
unfoldable pub number_with : ℕ → ℕ → ℕ → ℕ → ℕ
number_with i got old b =
    when eqb got i then b else
    when eqb got (i + 1) then old % 256 + 256 * b else old

unfoldable pub sized : Loader → ℕ → Loader
sized l b = record {
  most_cells = l.most_cells;
  most_spans = l.most_spans;
  kind = l.kind;
  got = l.got;
  start = l.start;
  received = l.received;
  w = number_with 0 l.got l.w b;
  h = number_with 2 l.got l.h b;
  border = number_with 4 l.got l.border b;
  least = number_with 6 l.got l.least b;
  merge = number_with 8 l.got l.merge b;
  cells = l.cells;
  spans = l.spans;
  due = l.due;
  refusal = l.refusal;
  position = l.position;
  ended = l.ended;
}

-- the header is read: "`refused 21`: over .. cells (at the header)"
unfoldable pub headed : Loader → Loader
headed l = when ltb l.most_cells (l.w * l.h) then refusing 21 l.start l else onward 0 l.start 0 l

-- a byte of the header's body
unfoldable pub header_byte : Loader → ℕ → Loader
header_byte l b =
    let m = sized l b in
    when ltb l.got 9 then onward 1 l.start (l.got + 1) m else headed m

-- the loader after a cell's count
unfoldable pub cell_on : Loader → ℕ → Loader
cell_on l b = onward 0 l.start 0 (counted (up l.cells) l.spans b l)

-- a cell's count: "or .. spans (at the cell that passes it)"; the cell's index is the number of spans before it
unfoldable pub cell_byte : Loading → ℕ → Loading
cell_byte x b =
    let l = x.loader in
    when ltb l.most_spans (l.spans + b)
    then record { loader = refusing 21 l.start l; index = x.index; count = x.count; area = x.area; con = x.con }
    else record {
      loader = cell_on l b;
      index = set x.index l.cells l.spans;
      count = set x.count l.cells b;
      area = x.area;
      con = x.con;
    }

-- the loader after a byte of a span's body, of which there are five
unfoldable pub span_on : Loader → Loader
span_on l =
    when ltb l.got 4
    then onward 3 l.start (l.got + 1) l
    else onward 0 l.start 0 (counted l.cells (up l.spans) (l.due - 1) l)

-- a byte of a span's body: its area, or one of its connections
unfoldable pub span_byte : Loading → ℕ → Loading
span_byte x b =
    let l = x.loader in
    when eqb l.got 0
    then record { loader = span_on l; index = x.index; count = x.count; area = set x.area l.spans b; con = x.con }
    else record { loader = span_on l; index = x.index; count = x.count; area = x.area; con = set x.con (4 * l.spans + (l.got - 1)) b }

-- the lists as they are, with another loader
unfoldable pub with : Loading → Loader → Loading
with x l = record { loader = l; index = x.index; count = x.count; area = x.area; con = x.con }

-- a byte, by the record under way; after the end record, "the first byte after the end record"
unfoldable pub taken : Loading → ℕ → Loading
taken x b =
    let l = x.loader in
    when eqb l.kind 0 then with x (kind_byte l b) else
    when eqb l.kind 1 then with x (header_byte l b) else
    when eqb l.kind 2 then cell_byte x b else
    when eqb l.kind 3 then span_byte x b else with x (refusing 20 l.received l)

-- "After a refusal or a declared end every further call gets the same answer and changes nothing."
unfoldable pub byte_in : Loading → ℕ → Loading
byte_in x b = when going x.loader then taken x b else x

-- a piece
unfoldable pub feed : List ℕ → Loading → Loading
feed [] x = x
feed (b ∷ bs) x = feed bs (byte_in x b)

-- the end was declared
unfoldable pub closed : Loader → Loader
closed l = record {
  most_cells = l.most_cells;
  most_spans = l.most_spans;
  kind = l.kind;
  got = l.got;
  start = l.start;
  received = l.received;
  w = l.w;
  h = l.h;
  border = l.border;
  least = l.least;
  merge = l.merge;
  cells = l.cells;
  spans = l.spans;
  due = l.due;
  refusal = l.refusal;
  position = l.position;
  ended = 1;
}

-- "A file is complete only when its end is declared.": without an end record it is "cut short", at "the number of bytes received"
unfoldable pub load_end : Loader → Loader
load_end l =
    when going l then (when eqb l.kind 4 then closed l else refusing 20 l.received l) else l

-- ---------------------------------------------------------------- a call

-- lists that take a field within the limits
unfoldable pub roomy : Loading → Bool
roomy x =
    let l = x.loader in
    leb l.most_cells (length x.index) and leb l.most_cells (length x.count) and leb l.most_spans (length x.area)
    and leb (4 * l.most_spans) (length x.con)

-- the refusal of the call itself, where the loader is still going: 3 for a list that is too short; nothing changes then
unfoldable pub piece_refusal : Loading → ℕ
piece_refusal x = when going x.loader then (when roomy x then 0 else 3) else 0

-- what a call with a piece leaves
unfoldable pub load_piece : List ℕ → Loading → Loading
load_piece piece x = when eqb (piece_refusal x) 0 then feed piece x else x

-- ---------------------------------------------------------------- what a caller is told at the end

-- l over the beginning of another list
unfoldable pub over : List ℕ → List ℕ → List ℕ
over l old = l ++ drop (length l) old

-- a refusal with its position, or the numbers of the field; and the lists
pub data Told : Type 0 where
  refused_told : ℕ → ℕ → List ℕ → List ℕ → List ℕ → List ℕ → Told
  loaded_told : ℕ → ℕ → Sizes → ℕ → List ℕ → List ℕ → List ℕ → List ℕ → Told

-- by a loader
unfoldable pub told : Loading → Told
told x =
    let l = x.loader in
    let z : Sizes = record { border = l.border; least = l.least; merge = l.merge } in
    when eqb l.refusal 0 then loaded_told l.w l.h z l.spans x.index x.count x.area x.con
    else refused_told l.refusal l.position x.index x.count x.area x.con

-- a place in 32 bits: 4,294,967,295 is there or later
unfoldable pub capped : ℕ → ℕ
capped p = when ltb p 4294967295 then p else 4294967295

-- by what reading the whole file comes to, over what the lists held
unfoldable pub told_by : List ℕ → List ℕ → List ℕ → List ℕ → Placed → Told
told_by index count area con (refused_at n p F) =
    refused_told n (capped p) (over F.index index) (over F.count count) (over F.area area) (over F.con con)
told_by index count area con (describes L) =
    let F = L.field in
    loaded_told F.w F.h L.sizes (length F.area) (over F.index index) (over F.count count) (over F.area area) (over F.con con)
