-- The file format: "records of one byte of kind and a body fixed by the kind, numbers little-endian: 1 header (w, h, border size,
-- least area, merge area: 10 bytes), 2 cell (count: 1 byte), 3 span (area, four connections: 5 bytes), 4 end (none). Order: header,
-- each cell followed by its spans, end."
use Rattle.std.specs.Prelude.{ℕ, zero, suc, ◌+◌, ◌*◌, List, [], ◌∷◌, ◌++◌, length, get_or, take, drop, leb, ltb, eqb}
use Rattle.rules.specs.Base.{◌and◌, when◌then◌else◌}
use Rattle.rules.specs.Field.{Field}
use Rattle.rules.specs.Outcomes.{Sizes}

-- what a file describes: a field, and the region entry's sizes
pub record Level : Type 0 where
  pub field : Field
  pub sizes : Sizes

-- what reading a file comes to
pub data Reading : Type 0 where
  refused : ℕ → Reading
  described : Level → Reading

-- "numbers little-endian": the two bytes from place i on
unfoldable pub word : List ℕ → ℕ → ℕ
word bytes i = get_or bytes i 0 + 256 * get_or bytes (i + 1) 0

-- the field with one cell more, of that count: its index is the number of spans before it
unfoldable pub with_cell : ℕ → ℕ → Field → Field
with_cell before k F = record {
  w = F.w;
  h = F.h;
  index = F.index ++ (before ∷ []);
  count = F.count ++ (k ∷ []);
  area = F.area;
  con = F.con;
}

-- the field with one span more, of that body
unfoldable pub with_span : List ℕ → Field → Field
with_span body F = record {
  w = F.w;
  h = F.h;
  index = F.index;
  count = F.count;
  area = F.area ++ take 1 body;
  con = F.con ++ take 4 (drop 1 body);
}

-- The records after the header. "`refused 20`: unknown kind, record out of place, cut short, bytes after the end. `refused 21`: over ..
-- 200 spans (at the cell that passes it). First met in the file": so many cells and spans of the last cell are still to come, promised is the number of
-- spans that the cells so far have promised, and F is the field so far. The first number is fuel, one for each byte: a record takes one at least.
unfoldable pub read_on : ℕ → ℕ → ℕ → ℕ → List ℕ → Field → Sizes → Reading
read_on zero cells due promised bytes F z = refused 20
read_on (suc k) cells due promised [] F z = refused 20
read_on (suc k) cells (suc due) promised (kind ∷ rest) F z =
    let on = read_on k cells due promised (drop 5 rest) (with_span (take 5 rest) F) z in
    when eqb kind 3 and leb 5 (length rest) then on else refused 20
read_on (suc k) (suc cells) zero promised (kind ∷ rest) F z =
    let c = get_or rest 0 0 in
    let on = read_on k cells c (promised + c) (drop 1 rest) (with_cell promised c F) z in
    let fits = when ltb 200 (promised + c) then refused 21 else on in
    when eqb kind 2 and leb 1 (length rest) then fits else refused 20
read_on (suc k) zero zero promised (kind ∷ rest) F z =
    when eqb kind 4 and eqb (length rest) 0 then described (record { field = F; sizes = z }) else refused 20

unfoldable pub empty_field : ℕ → ℕ → Field
empty_field w h = record { w = w; h = h; index = []; count = []; area = []; con = [] }

-- "`refused 21`: over 1,024 cells (at the header)"
unfoldable pub read_file : List ℕ → Reading
read_file [] = refused 20
read_file (kind ∷ rest) =
    let cells = word rest 0 * word rest 2 in
    let z : Sizes = record { border = word rest 4; least = word rest 6; merge = word rest 8 } in
    let on = read_on (length rest) cells 0 0 (drop 10 rest) (empty_field (word rest 0) (word rest 2)) z in
    let fits = when ltb 1024 cells then refused 21 else on in
    when eqb kind 1 and leb 10 (length rest) then fits else refused 20
