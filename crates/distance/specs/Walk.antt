-- A part of a row, of the cells or of the spans, as the loops go, and the cell of each span; f is what is done to the list at a span.
use Rattle.std.specs.Prelude.{ℕ, zero, suc, ◌+◌, List, get_or, set, leb}
use Rattle.rules.specs.Base.{when◌then◌else◌, upto, tab}
use Rattle.rules.specs.Field.{Field, spans, cell_of}
use Rattle.rules.specs.Rows.{over_cell, downto, column}

-- k columns of row y from x on, upward and downward
unfoldable pub columns_up : Field → (ℕ → List ℕ → List ℕ) → ℕ → ℕ → ℕ → List ℕ → List ℕ
columns_up F f y x k l = upto k (λ j. column F f y (x + j)) l

unfoldable pub columns_down : Field → (ℕ → List ℕ → List ℕ) → ℕ → ℕ → ℕ → List ℕ → List ℕ
columns_down F f y x k l = downto k (λ j. column F f y (x + j)) l

-- the k cells from c on
unfoldable pub cells_up : Field → (ℕ → List ℕ → List ℕ) → ℕ → ℕ → List ℕ → List ℕ
cells_up F f c k l = upto k (λ j. over_cell F f (c + j)) l

-- the k spans from s on
unfoldable pub spans_up : (ℕ → List ℕ → List ℕ) → ℕ → ℕ → List ℕ → List ℕ
spans_up f s k l = upto k (λ j. f (s + j)) l

-- as many of the first s values as there are up to the last above 2
unfoldable pub high_to : List ℕ → ℕ → ℕ
high_to l zero = zero
high_to l (suc s) = when leb (get_or l s 0) 2 then high_to l s else suc s

-- a list with the cell of span s in its place, and with those of all spans
unfoldable pub note_cell : Field → ℕ → List ℕ → List ℕ
note_cell F s l = set l s (cell_of F.count s)

unfoldable pub cells_of : Field → List ℕ
cells_of F = tab (spans F) 0 (cell_of F.count)
