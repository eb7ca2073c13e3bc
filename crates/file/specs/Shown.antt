-- The listing as it is written, part by part.
use Rattle.std.specs.Prelude.{ℕ, zero, suc, ◌+◌, ◌*◌, ◌≤◌, ◌<◌, ◌≡◌, true, List, [], ◌∷◌, ◌++◌, length, get_or, take, drop, eqb}
use Rattle.rules.specs.Base.{when◌then◌else◌, tab}
use Rattle.rules.specs.Field.{Field}
use Rattle.rules.specs.Refusals.{good_cells}
use Rattle.rules.specs.Outcomes.{RegionOutcome}
use Rattle.rules.specs.Listing.{decimal, text, joined, cell_text}
use Rattle.field.specs.Lent.{lent}

-- text j of those that are joined: the byte between stands before it, unless it is the first
unfoldable pub led : ℕ → ℕ → List ℕ → List ℕ
led between j t = when eqb j 0 then t else between ∷ t

-- the byte before text j of those that are joined
unfoldable pub leader : ℕ → ℕ → List ℕ
leader between j = when eqb j 0 then [] else between ∷ []

-- texts j, j + 1, .., k of them, each led
unfoldable pub leds : ℕ → ℕ → ℕ → (ℕ → List ℕ) → List ℕ
leds between zero j f = []
leds between (suc k) j f = led between j (f j) ++ leds between k (suc j) f

-- "Layers in a cell are joined by `/`": the k ids from place i on
unfoldable pub layers_text : List ℕ → ℕ → ℕ → List ℕ
layers_text ids i k = joined 47 (tab k i (λ s. decimal (get_or ids s 0)))

-- layer j of a cell whose ids begin at i
unfoldable pub layer_text : List ℕ → ℕ → ℕ → List ℕ
layer_text ids i j = decimal (get_or ids (i + j) 0)

-- cell x of a row that begins at cell a
unfoldable pub cell_at : List ℕ → List ℕ → List ℕ → ℕ → ℕ → List ℕ
cell_at index count ids a x = cell_text ids (get_or index (a + x) 0) (get_or count (a + x) 0)

-- a name and a number
unfoldable pub named : List ℕ → ℕ → List ℕ
named name v = name ++ decimal v

-- the first line
unfoldable pub heading : ℕ → ℕ → ℕ → ℕ → List ℕ
heading most region over cut =
    named (text "max_distance ") most ++ (named (text " max_region ") region ++ (named (text " overlaps ") over
    ++ (named (text " cut ") cut ++ (10 ∷ []))))

-- the field, as far as the listing shows it
abbrev pub shown : ℕ → ℕ → List ℕ → List ℕ → Field
shown w h index count = lent w h index count [] []

-- the answer, as far as the listing shows it
abbrev pub numbered : ℕ → ℕ → ℕ → List ℕ → RegionOutcome
numbered region over cut ids = record { refused = 0; most = region; over = over; cut = cut; workspace = []; ids = ids }

-- a nonempty cell's ids are there
pub record Inside (ids : List ℕ) (i k : ℕ) : Type 0 where
  pub within : 0 < k → i + k ≤ length ids

-- what the listing shows of each cell is there
pub record Filled (cells : ℕ) (index count ids : List ℕ) : Type 0 where
  pub indices : length index ≡ cells
  pub counts : length count ≡ cells
  pub few : cells ≤ 1024
  pub inside : (c : ℕ) → Inside ids (get_or index c 0) (get_or count c 0)

-- a field as small as a file may have it, that refusals 1 to 4 let pass, and room for its listing
pub record Listable (w h : ℕ) (index count ids out : List ℕ) : Type 0 where
  pub high : h ≤ 256
  pub indices : length index ≡ w * h
  pub counts : length count ≡ w * h
  pub few_cells : w * h ≤ 1024
  pub few_spans : length ids ≤ 200
  pub cells : good_cells index count 0 (length ids) ≡ true
  pub room : 4096 ≤ length out

-- out begins with a text that ends at r, and all else is as it was
pub record Prints (out t : List ℕ) (r : ℕ) (out' : List ℕ) : Type 0 where
  pub ends : r ≡ length t
  pub bytes : take r out' ≡ t
  pub rest : drop r out' ≡ drop r out
