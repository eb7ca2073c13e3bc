-- Painting over the spans of some cells, and what the code needs of the field for it.
use Rattle.std.specs.Prelude.{◌≡◌, Bool, not, List, ℕ, ◌/◌, ◌%◌, length, get_or, eqb, leb, ltb}
use Rattle.rules.specs.Base.{◌and◌, when◌then◌else◌, tab}
use Rattle.rules.specs.Field.{Field, spans, cell_of}
use Rattle.rules.specs.Refusals.{refusal}

-- the cells of a field of n spans that is not refused
pub record Plot (index count : List ℕ) (n : ℕ) : Type 0 where
  pub F : Field
  pub lens : List ℕ
  pub ok : refusal F lens ≡ 0
  pub index_is : F.index ≡ index
  pub count_is : F.count ≡ count
  pub n_is : spans F ≡ n

-- v wherever p holds, and the rest as it was
unfoldable pub put_if : (ℕ → Bool) → ℕ → List ℕ → List ℕ
put_if p v l = tab (length l) 0 (λ s. when p s then v else get_or l s 0)

-- walkable, and p holds
unfoldable pub walk_in : List ℕ → (ℕ → Bool) → ℕ → Bool
walk_in area p s = not (eqb (get_or area s 256) 0) and p s

unfoldable pub span_is : ℕ → ℕ → Bool
span_is i s = eqb s i

-- from a to below e
unfoldable pub between : ℕ → ℕ → ℕ → Bool
between a e s = leb a s and ltb s e

-- span s is in cell c
unfoldable pub in_cell : List ℕ → ℕ → ℕ → Bool
in_cell count c s = eqb (cell_of count s) c

-- span s is in a cell of columns x₀ to below x₁ and rows z₀ to below z₁
unfoldable pub in_rect : ℕ → List ℕ → ℕ → ℕ → ℕ → ℕ → ℕ → Bool
in_rect w count x₀ x₁ z₀ z₁ s = between x₀ x₁ (cell_of count s % w) and between z₀ z₁ (cell_of count s / w)
