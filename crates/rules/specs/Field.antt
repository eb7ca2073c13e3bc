-- The field as lent, and where a connection leads.
use Rattle.std.specs.Prelude.{ℕ, suc, ◌+◌, ◌*◌, ◌-◌, ◌/◌, ◌%◌, ◌<◌, Bool, true, List, [], ◌∷◌, length, get_or, leb, ltb, eqb}
use Rattle.rules.specs.Base.{when◌then◌else◌}

-- "Width w, height h; w·h cells, row by row (x fastest), each an index and a count; n spans, n being the length of the area list.
-- An area is a byte, 0 = not walkable. Connections are four bytes a span, in direction order"
pub record Field : Type 0 where
  pub w : ℕ
  pub h : ℕ
  pub index : List ℕ
  pub count : List ℕ
  pub area : List ℕ
  pub con : List ℕ

-- n
abbrev pub spans : Field → ℕ
spans F = length F.area

-- no span: a number past every list, so that what is read there is the default that the rule names
abbrev pub none : ℕ
none = 65535

-- the cell that holds span s, the spans being laid out cell by cell
unfoldable pub cell_of : List ℕ → ℕ → ℕ
cell_of [] s = 0
cell_of (k ∷ ks) s = let rest = suc (cell_of ks (s - k)) in when ltb s k then 0 else rest

-- "Directions: 0 is (-1,0), 1 is (0,1), 2 is (1,0), 3 is (0,-1)": the cell across from cell c
unfoldable pub cell_to : ℕ → ℕ → ℕ → ℕ
cell_to w c d = get_or ((c - 1) ∷ (c + w) ∷ (c + 1) ∷ (c - w) ∷ []) d c

-- there is no cell across
unfoldable pub leaves : ℕ → ℕ → ℕ → ℕ → Bool
leaves w h c d = get_or (eqb (c % w) 0 ∷ leb h (c / w + 1) ∷ leb w (c % w + 1) ∷ eqb (c / w) 0 ∷ []) d true

-- "255 is none, otherwise a layer of the neighbouring cell"
unfoldable pub con_of : Field → ℕ → ℕ → ℕ
con_of F s d = get_or F.con (4 * s + d) 255

-- ""Neighbour" below means the span that a connection leads to."
unfoldable pub near : Field → ℕ → ℕ → ℕ
near F s d =
    let k = con_of F s d in
    when eqb k 255 then none else get_or F.index (cell_to F.w (cell_of F.count s) d) 0 + k

-- "The corner neighbour in direction d is the neighbour's neighbour in direction d+1 (3 wraps to 0)."
unfoldable pub corner : Field → ℕ → ℕ → ℕ
corner F s d = near F (near F s d) ((d + 1) % 4)

-- the area of a span; no span has area 256
unfoldable pub area_of : Field → ℕ → ℕ
area_of F s = get_or F.area s 256

-- "An area is a byte"
abbrev pub Bytes : Field → Type 0
Bytes F = (s : ℕ) → s < spans F → area_of F s < 256
