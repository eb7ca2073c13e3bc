-- The field as lent, what the refusals leave of it, and where a span stands.
use Rattle.std.specs.Prelude.{ℕ, ◌+◌, ◌*◌, ◌≤◌, ◌<◌, ◌≡◌, true, List, [], ◌∷◌, length, get_or}
use Rattle.rules.specs.Field.{Field, spans, cell_of}
use Rattle.rules.specs.Refusals.{good_cells, good_con, refusal, most_spans}

-- the lists and numbers that a caller lends, as one field
abbrev pub lent : ℕ → ℕ → List ℕ → List ℕ → List ℕ → List ℕ → Field
lent w h index count area con = record { w = w; h = h; index = index; count = count; area = area; con = con }

-- none of the refusals 1 to 6 meets the field
abbrev pub Sound : Field → Type 0
Sound F = refusal F [] ≡ 0

-- span s is there, in cell c
pub record Stands (F : Field) (c s : ℕ) : Type 0 where
  pub span : s < spans F
  pub cell : cell_of F.count s ≡ c

-- what refusals 1 to 4 leave; grid follows from the two before it, and is there for omega
pub record Celled (F : Field) : Type 0 where
  pub narrow : F.w ≤ 256
  pub short : F.h ≤ 256
  pub grid : F.w * F.h ≤ 65536
  pub few : spans F ≤ most_spans
  pub indexed : length F.index ≡ F.w * F.h
  pub counted : length F.count ≡ F.w * F.h
  pub linked : length F.con ≡ 4 * spans F
  pub cells : good_cells F.index F.count 0 (spans F) ≡ true

-- what refusals 1 to 5 leave: enough to follow a connection
pub record Reached (F : Field) : Type 0 where
  pub celled : Celled F
  pub reach : (s d : ℕ) → s < spans F → d < 4 → good_con F s d ≡ true

-- the four connections of span s, in direction order
unfoldable pub cons_at : List ℕ → ℕ → List ℕ
cons_at con s = get_or con (4 * s) 0 ∷ get_or con (4 * s + 1) 0 ∷ get_or con (4 * s + 2) 0 ∷ get_or con (4 * s + 3) 0 ∷ []

-- what is lent, a width, indices and connections, is F's, and F's span s stands in cell c
pub record Spot (F : Field) (w : ℕ) (index con : List ℕ) (c s : ℕ) : Type 0 where
  pub reached : Reached F
  pub wide : F.w ≡ w
  pub indexed : F.index ≡ index
  pub linked : F.con ≡ con
  pub stands : Stands F c s

-- the same with no more of the connections than the four of span s
pub record Leaf (F : Field) (w : ℕ) (index cons : List ℕ) (c s : ℕ) : Type 0 where
  pub reached : Reached F
  pub wide : F.w ≡ w
  pub indexed : F.index ≡ index
  pub four : cons ≡ cons_at F.con s
  pub stands : Stands F c s

-- there is such a field
pub record SomeSpot (w : ℕ) (index con : List ℕ) (c s : ℕ) : Type 0 where
  pub F : Field
  pub spot : Spot F w index con c s

-- there are such a field and such a span
pub record SomeLeaf (w : ℕ) (index cons : List ℕ) (c : ℕ) : Type 0 where
  pub F : Field
  pub s : ℕ
  pub leaf : Leaf F w index cons c s
