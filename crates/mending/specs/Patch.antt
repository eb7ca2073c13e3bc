-- The mended file: the same bytes, with the connections that were changed set to none; and what is made of any bytes.
use Rattle.std.specs.Prelude.{ℕ, ◌+◌, ◌-◌, ◌*◌, ◌≤◌, List, [], ◌∷◌, length, get_or, set, eqb, ltb, Result, Ok, Err}
use Rattle.rules.specs.Base.{when◌then◌else◌, upto}
use Rattle.rules.specs.Field.{Field, cell_of}
use Rattle.rules.specs.File.{Reading, refused, described, read_file}
use Rattle.rules.specs.Mend.{mend_outcome}
use Rattle.file.specs.Reads.{file_number}
use Rattle.mend.specs.Answer.{mend_number}
use Rattle.mending.specs.declared.whole.Mended.{Mended}
use Rattle.mending.specs.declared.whole.FiledRefusal.{FiledRefusal}
use Rattle.mending.specs.declared.whole.FiledRefusal.TheVariants as why

-- the layer of span s in its cell, the spans being laid out cell by cell
unfoldable pub layer_of : List ℕ → ℕ → ℕ
layer_of [] s = s
layer_of (k ∷ ks) s = let rest = layer_of ks (s - k) in when ltb s k then s else rest

-- "1 header (.. 10 bytes), 2 cell (.. 1 byte), 3 span (area, four connections: 5 bytes) .. header, each cell followed by its spans": where connection d
-- of span s stands, after the header, its cell and those before it, the spans before it, its kind and its area
unfoldable pub con_place : List ℕ → ℕ → ℕ → ℕ
con_place count s d = 11 + 2 * (cell_of count s + 1) + 6 * s + 2 + d

-- change number k of a list, made in the file
unfoldable pub byte_mended : List ℕ → List ℕ → ℕ → List ℕ → List ℕ
byte_mended count changes k bytes = set bytes (con_place count (get_or changes (3 * k) 0) (get_or changes (3 * k + 1) 0)) 255

-- the first `made` of them
unfoldable pub bytes_mended : List ℕ → List ℕ → ℕ → List ℕ → List ℕ
bytes_mended count changes made bytes = upto made (byte_mended count changes) bytes

-- ---------------------------------------------------------------- the whole file

-- a refusal's number, 0 for none, and the bytes that the file then has
pub record MendedFile : Type 0 where
  pub number : ℕ
  pub bytes : List ℕ

-- the file of a field, changes being the list that is lent for them
unfoldable pub field_mended : Field → List ℕ → List ℕ → MendedFile
field_mended F changes bytes =
    let o = mend_outcome F changes in
    when eqb o.refused 0
    then record { number = 0; bytes = bytes_mended F.count o.changes o.count bytes }
    else record { number = o.refused; bytes = bytes }

unfoldable pub read_mended : Reading → List ℕ → List ℕ → MendedFile
read_mended (refused n) changes bytes = record { number = n; bytes = bytes }
read_mended (described L) changes bytes = field_mended L.field changes bytes

-- of any bytes
unfoldable pub mended_file : List ℕ → List ℕ → MendedFile
mended_file bytes changes = read_mended (read_file bytes) changes bytes

-- the number of a refusal
abbrev pub filed_number : FiledRefusal → ℕ
filed_number (why.File r) = file_number r
filed_number (why.Field r) = mend_number r

-- an answer with the bytes at exit
abbrev pub filed : Result Mended FiledRefusal → List ℕ → MendedFile
filed (Err r) bytes = record { number = filed_number r; bytes = bytes }
filed (Ok m) bytes = record { number = 0; bytes = bytes }

-- the changes that were made have their places
abbrev pub Placed : Result Mended FiledRefusal → List ℕ → Type 0
Placed (Err r) changes = Unit {0}
Placed (Ok m) changes = 3 * m.changes ≤ length changes
