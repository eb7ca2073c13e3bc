-- The spans of a row as a part of a list.
use Rattle.std.specs.Prelude.{ℕ, ◌+◌, ◌-◌, ◌≤◌, ◌<◌, ◌≡◌, List, get_or, eqb, Bool}
use Rattle.rules.specs.Base.{upto, every}
use Rattle.rules.specs.Field.{Field, spans}
use Rattle.rules.specs.Refresh.{value_to}
use Rattle.door.specs.Edit.{row_of}

-- of the w cells from cell c on, those before number r are empty, and number r is not, if there is one
pub record FirstCell (count : List ℕ) (c w r : ℕ) : Type 0 where
  pub low : r ≤ w
  pub empty : (x : ℕ) → x < r → get_or count (c + x) 0 ≡ 0
  pub full : r < w → 0 < get_or count (c + r) 0

-- those from number r on are empty, and the one before it is not, if there is one
pub record LastCell (count : List ℕ) (c w r : ℕ) : Type 0 where
  pub low : r ≤ w
  pub empty : (x : ℕ) → r ≤ x → x < w → get_or count (c + x) 0 ≡ 0
  pub full : 0 < r → 0 < get_or count (c + (r - 1)) 0

-- the part from a on, up to b, of list p put into list l
unfoldable pub part_to : List ℕ → ℕ → ℕ → List ℕ → List ℕ
part_to p a b l = upto (b - a) (λ i. value_to p (a + i)) l

-- whether list m holds in the part what list l holds there
unfoldable pub same_part : List ℕ → List ℕ → ℕ → ℕ → Bool
same_part l m a b = every (b - a) (λ i. eqb (get_or m (a + i) 0) (get_or l (a + i) 0))

-- the spans of row y are those from a on, up to b
pub record RowPart (F : Field) (y a b : ℕ) : Type 0 where
  pub order : a ≤ b
  pub within : b ≤ spans F
  pub inside : (s : ℕ) → a ≤ s → s < b → row_of F s ≡ y
  pub whole : (s : ℕ) → s < spans F → row_of F s ≡ y → (a ≤ s) × (s < b)
