-- How far a cell of a field is from the field's edge.
use Rattle.std.specs.Prelude.{ℕ, ◌+◌, ◌*◌, ◌-◌, min}

-- the span at (x,z) of a field with one span a cell: "row by row (x fastest)"
abbrev pub span_at : ℕ → ℕ → ℕ → ℕ
span_at w x z = z * w + x

-- "the least of x, z, w−1−x and h−1−z"
unfoldable pub least : ℕ → ℕ → ℕ → ℕ → ℕ
least w h x z = min (min x z) (min (w - 1 - x) (h - 1 - z))
