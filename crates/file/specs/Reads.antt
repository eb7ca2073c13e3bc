-- The answers of the reader, in document 01's numbers and in the rule's words.
use Rattle.std.specs.Prelude.{ℕ, ◌*◌, ◌≤◌, ◌≡◌, List, length, take, eqb, Result, Ok, Err, Option, Some, None}
use Rattle.rules.specs.Base.{when◌then◌else◌}
use Rattle.rules.specs.Field.{Field}
use Rattle.rules.specs.Outcomes.{Sizes}
use Rattle.rules.specs.File.{Reading, refused, described, read_file}
use Rattle.rules.specs.Load.{Placed, refused_at, describes, read_file_at, field_by, capped, over, Loading, load_begin, load_end, feed, with}
use Rattle.field.specs.Lent.{lent}
use Rattle.load.specs.declared.Loader.{Loader}
use Rattle.load.specs.Numbers.{loading}
use Rattle.file.specs.declared.read.FileRefusal.{FileRefusal}
use Rattle.file.specs.declared.read.FileRefusal.TheVariants.{Malformed, TooLarge}
use Rattle.file.specs.declared.read.Header.{Header}

-- "`refused 20`: unknown kind, record out of place, cut short, bytes after the end. `refused 21`: over 1,024 cells .. or 200 spans"
abbrev pub file_number : FileRefusal → ℕ
file_number Malformed = 20
file_number TooLarge = 21

-- the region entry's sizes
abbrev pub sizes_of : Header → Sizes
sizes_of t = record { border = t.border; least = t.least; merge = t.merge }

-- lists that any file's field fits into
pub record Lists (index count area con : List ℕ) : Type 0 where
  pub cells₁ : 1024 ≤ length index
  pub cells₂ : 1024 ≤ length count
  pub spans₁ : 200 ≤ length area
  pub spans₂ : 800 ≤ length con

-- ---------------------------------------------------------------- the whole file

-- the field that lists hold at their beginning: so many cells, so many spans
abbrev pub first : ℕ → ℕ → ℕ → ℕ → List ℕ → List ℕ → List ℕ → List ℕ → Field
first w h c s index count area con = lent w h (take c index) (take c count) (take s area) (take (4 * s) con)

-- document 01's reading for each case of the answer, the lists being those at exit
abbrev pub reading_of : Result (Header × ℕ) FileRefusal → List ℕ → List ℕ → List ℕ → List ℕ → Reading
reading_of (Err x) index count area con = refused (file_number x)
reading_of (Ok (t, n)) index count area con =
    described (record { field = first t.w t.h (t.w * t.h) n index count area con; sizes = sizes_of t })

-- a described field is no larger than a file may have it
abbrev pub Few : Result (Header × ℕ) FileRefusal → Type 0
Few (Err x) = Unit {0}
Few (Ok (t, n)) = (t.w * t.h ≤ 1024) × (n ≤ 200)

-- the field so far where the reading of a file ends, refused or not: what the lent lists hold then
unfoldable pub held : List ℕ → Field
held bytes = field_by (read_file_at 1024 200 bytes)

-- the promise: the answer, and every list at exit
pub record Reads (bytes index count area con : List ℕ) (r : Result (Header × ℕ) FileRefusal) (index' count' area' con' : List ℕ) : Type 0 where
  pub same : reading_of r index' count' area' con' ≡ read_file bytes
  pub few : Few r
  pub indices : index' ≡ over (held bytes).index index
  pub counts : count' ≡ over (held bytes).count count
  pub areas : area' ≡ over (held bytes).area area
  pub cons : con' ≡ over (held bytes).con con

-- ---------------------------------------------------------------- by the loader

-- the answer that a loader's numbers are
abbrev pub header : Loader → Header
header l = record { w = l.w; h = l.h; border = l.border; least = l.least; merge = l.merge }

unfoldable pub reading_in : Loader → Result (Header × ℕ) FileRefusal
reading_in l =
    when eqb l.refusal 0 then Ok (header l, l.spans) else
    when eqb l.refusal 21 then Err TooLarge else Err Malformed

-- numbers of 16 bits
pub record Short (l : Loader) : Type 0 where
  pub w : l.w ≤ 65535
  pub h : l.h ≤ 65535
  pub border : l.border ≤ 65535
  pub least : l.least ≤ 65535
  pub merge : l.merge ≤ 65535

-- where the file is refused: "now with a position counted from 0"
unfoldable pub place_by : Placed → Option ℕ
place_by (refused_at n p F) = Some (capped p)
place_by (describes L) = None

-- by a loader's numbers
unfoldable pub place_in : Loader → Option ℕ
place_in l = when eqb l.refusal 0 then None else Some l.position

-- before the first byte
unfoldable pub begun : List ℕ → List ℕ → List ℕ → List ℕ → Loading
begun index count area con = record { loader = load_begin 1024 200; index = index; count = count; area = area; con = con }

-- the end declared
unfoldable pub finished : Loading → Loading
finished x = with x (load_end x.loader)

-- a whole file loaded and its end declared
pub record Whole (bytes index count area con : List ℕ) (l : Loader) (index' count' area' con' : List ℕ) : Type 0 where
  pub loads : loading l index' count' area' con' ≡ finished (feed bytes (begun index count area con))
