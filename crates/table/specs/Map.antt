-- Where the records lie in the workspace, m of them, of n spans. Columns of m numbers from 0 on: id, count, area, overlap, visited, two to spare; two tables of
-- parts, four columns each: lists and floors; the column of the marks `cut`. Then the pool, two halves of 4n numbers, and the floors, 62 numbers for each span.
use Rattle.std.specs.Prelude.{ℕ, ◌+◌, ◌*◌, ◌<◌}

-- ids from here on are flagged: there are no more records
abbrev pub border : ℕ
border = 0x8000

-- an id that is not flagged is a record's
abbrev pub Names : ℕ → ℕ → Type 0
Names m r = r < border → r < m

-- a number in two halves is below this
abbrev pub wide_end : ℕ
wide_end = 4294967296

abbrev pub areas_at : ℕ → ℕ
areas_at m = 2 * m

abbrev pub overlaps_at : ℕ → ℕ
overlaps_at m = 3 * m

abbrev pub visits_at : ℕ → ℕ
visits_at m = 4 * m

-- the two columns to spare
abbrev pub spare_at : ℕ → ℕ
spare_at m = 5 * m

-- the second of them, while records merge: the next record that bears the same id
abbrev pub nexts_at : ℕ → ℕ
nexts_at m = 6 * m

-- the table of the lists' parts
abbrev pub lists_at : ℕ → ℕ
lists_at m = 7 * m

-- that of the floors' parts
abbrev pub floor_parts_at : ℕ → ℕ
floor_parts_at m = 11 * m

-- the column of the marks `cut`
abbrev pub cuts_at : ℕ → ℕ
cuts_at m = 15 * m

-- the pool, past all columns
abbrev pub pool_at : ℕ → ℕ
pool_at m = 16 * m

-- a half of the pool
abbrev pub half_of : ℕ → ℕ
half_of n = 4 * n

-- where the floors begin
abbrev pub floors_from : ℕ → ℕ → ℕ
floors_from m n = pool_at m + 8 * n

-- the floors of one span
abbrev pub floor_room : ℕ
floor_room = 62

abbrev pub records_end : ℕ → ℕ → ℕ
records_end m n = pool_at m + 70 * n

-- past the records, the links of the lists' places: where they end
abbrev pub links_past : ℕ → ℕ → ℕ
links_past m n = records_end m n + 2 * half_of n + 2 * m
