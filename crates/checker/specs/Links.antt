-- Refusals 5 and 6, cell by cell and by halves of the connections, as the checker goes through them.
use Rattle.std.specs.Prelude.{ℕ, zero, suc, ◌+◌, ◌*◌, ◌%◌, ◌<◌, ◌≡◌, Bool, false, not, List, get_or, leb, ltb, eqb}
use Rattle.rules.specs.Base.{◌and◌, ◌or◌, when◌then◌else◌, every}
use Rattle.rules.specs.Field.{Field, cell_to, leaves}
use Rattle.rules.specs.Refusals.{good_con, good_back}
use Rattle.rules.specs.Mend.{stays}
use Rattle.field.specs.Lent.{Celled}

-- the span in layer j of cell c
abbrev pub span_in : Field → ℕ → ℕ → ℕ
span_in F c j = get_or F.index c 0 + j

-- cell c has a layer j, in a field whose cells are good
abbrev pub Layered : Field → ℕ → ℕ → Type 0
Layered F c j = Celled F × (j < get_or F.count c 0)

-- refusal 5 of one connection k, of a span in cell c: it is none, or it stays in the grid and names a layer of the cell across
unfoldable pub names : ℕ → ℕ → List ℕ → ℕ → ℕ → ℕ → Bool
names w h count c k d = eqb k 255 or (not (leaves w h c d) and ltb k (get_or count (cell_to w c d) 0))

-- the same of the connection in direction d of those that a span in cell c has
unfoldable pub names_at : ℕ → ℕ → List ℕ → ℕ → List ℕ → ℕ → Bool
names_at w h count c cons d = names w h count c (get_or cons d 0) d

-- refusals 5 and 6 of one span
unfoldable pub reach_at : Field → ℕ → Bool
reach_at F s = every 4 (good_con F s)

unfoldable pub back_at : Field → ℕ → Bool
back_at F s = every 4 (good_back F s)

-- of a span, the half that the walk asks
unfoldable pub half_at : Field → ℕ → Bool
half_at F s = stays F s 0 and stays F s 1

-- how many numbers below n p holds of
unfoldable pub how_many : ℕ → (ℕ → Bool) → ℕ
how_many zero p = 0
how_many (suc n) p = when p n then suc (how_many n p) else how_many n p

-- number i of the connections is not none, and is in the half o: 2 for directions 0 and 1, 0 for directions 2 and 3
unfoldable pub in_half : List ℕ → ℕ → ℕ → Bool
in_half con o i = not (eqb (get_or con i 0) 255) and leb 2 ((i + o) % 4)

-- how many of the m connections from number b on are so
unfoldable pub links_in : List ℕ → ℕ → ℕ → ℕ → ℕ
links_in con o b m = how_many m (λ j. in_half con o (b + j))

-- cell c has a cell across in directions 0 and 1
pub record Inner (w h c : ℕ) : Type 0 where
  pub side_0 : leaves w h c 0 ≡ false
  pub side_1 : leaves w h c 1 ≡ false

-- cell c is the one in column x of row z
pub record Column (w h c x z : ℕ) : Type 0 where
  pub place : c ≡ w * z + x
  pub column : x < w
  pub row : z < h

-- that cell has a cell across in directions 0 and 1
unfoldable pub inner_at : ℕ → ℕ → ℕ → ℕ → Bool
inner_at w h x z = ltb 0 x and ltb (z + 1) h

-- p holds of each span of cell c
unfoldable pub in_cell : Field → (ℕ → Bool) → ℕ → Bool
in_cell F p c = every (get_or F.count c 0) (λ j. p (get_or F.index c 0 + j))

-- p holds of each span of the k columns from x on in row z
unfoldable pub in_columns : Field → (ℕ → Bool) → ℕ → ℕ → ℕ → Bool
in_columns F p z x k = every k (λ j. in_cell F p (F.w * z + (x + j)))

-- p holds of each span of row z
unfoldable pub in_row : Field → (ℕ → Bool) → ℕ → Bool
in_row F p z = every F.w (λ x. in_cell F p (F.w * z + x))
