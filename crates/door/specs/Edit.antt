-- An edit of area codes in a rectangle, rows that hold what they held, and a refresh that comes to a build.
use Rattle.std.specs.Prelude.{ℕ, ◌/◌, ◌%◌, ◌≤◌, ◌<◌, ◌≡◌, ◌⊎◌, List, length, get_or}
use Rattle.rules.specs.Field.{Field, spans, cell_of}
use Rattle.rules.specs.Refresh.{Rect, Rows, StagesOutcome, RefreshOutcome}

-- the row and the column of a span: cells stand "row by row (x fastest)"
abbrev pub row_of : Field → ℕ → ℕ
row_of F s = cell_of F.count s / F.w

abbrev pub column_of : Field → ℕ → ℕ
column_of F s = cell_of F.count s % F.w

-- span s stands in the rectangle, both ends included
pub record Within (F : Field) (q : Rect) (s : ℕ) : Type 0 where
  pub left : q.x0 ≤ column_of F s
  pub right : column_of F s ≤ q.x1
  pub first : q.z0 ≤ row_of F s
  pub last : row_of F s ≤ q.z1

-- "a designer changes the area codes in one rectangle": the new codes are as many, and those of other spans are what they were
pub record Edited (F : Field) (q : Rect) (area : List ℕ) : Type 0 where
  pub size : length area ≡ spans F
  pub elsewhere : (s : ℕ) → s < spans F → (Within F q s → ⊥) → get_or area s 256 ≡ get_or F.area s 256

-- "all of them and max_distance afterwards equal a build from nothing"
pub record AsBuilt (o : RefreshOutcome) (b : StagesOutcome) : Type 0 where
  pub refused : o.refused ≡ b.refused
  pub most : o.most ≡ b.most
  pub pass1 : o.pass1 ≡ b.pass1
  pub raw : o.raw ≡ b.raw
  pub blurred : o.blurred ≡ b.blurred

-- "rows outside them hold what they held": m is the list l afterwards
abbrev pub HeldOutside : Field → Rows → List ℕ → List ℕ → Type 0
HeldOutside F r l m = (s : ℕ) → s < spans F → (row_of F s < r.first) ⊎ (r.last < row_of F s) → get_or m s 0 ≡ get_or l s 0

pub record Held (F : Field) (o : RefreshOutcome) (p r b : List ℕ) : Type 0 where
  pub pass1 : HeldOutside F o.pass1_rows p o.pass1
  pub raw : HeldOutside F o.pass2_rows r o.raw
  pub blurred : HeldOutside F o.blur_rows b o.blurred

-- "All rows are clipped to the field.": pass 1's rows are among pass 2's, which are among the blur's, which are rows of the field
pub record InField (F : Field) (o : RefreshOutcome) : Type 0 where
  pub pass1-last : o.pass1_rows.last < F.h
  pub pass2-first : o.pass2_rows.first ≤ o.pass1_rows.first
  pub pass2-last : o.pass2_rows.last ≡ o.pass1_rows.last
  pub blur-first : o.blur_rows.first ≤ o.pass2_rows.first
  pub blur-last : o.pass2_rows.last ≤ o.blur_rows.last
  pub blur_in : o.blur_rows.last < F.h
