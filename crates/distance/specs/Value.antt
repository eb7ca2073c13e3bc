-- What a stage gives a span, and the bounds that keep every sum within 65,535.
use Rattle.std.specs.Prelude.{ℕ, ◌+◌, ◌*◌, ◌-◌, ◌%◌, ◌≤◌, ◌<◌, min, ◌≡◌, Bool, true, not, List, length, get_or, eqb, Option, Some, None}
use Rattle.rules.specs.Base.{every}
use Rattle.rules.specs.Field.{Field, spans, near, cell_of}
use Rattle.rules.specs.Distance.{far}
use Rattle.field.specs.Lent.{cons_at}

-- a span with the connections cons has a neighbour in each direction
unfoldable pub ringed : List ℕ → Bool
ringed cons = every 4 (λ d. not (eqb (get_or cons d 0) 255))

-- each of four connections is none or a layer, of which a cell has at most 63
pub record Layers (cons : List ℕ) : Type 0 where
  pub low : (d : ℕ) → d < 4 → (get_or cons d 0 ≡ 255 → ⊥) → get_or cons d 0 < 128

-- neighbour a plus 2 or its neighbour b plus 3, whichever is less
unfoldable pub side : Field → List ℕ → ℕ → ℕ → ℕ → ℕ
side F l s a b = min (far l (near F s a) + 2) (far l (near F (near F s a) b) + 3)

-- the least of v and of what a pass makes of it that looks at two sides
unfoldable pub least_from : Field → ℕ → ℕ → ℕ → ℕ → ℕ → ℕ → List ℕ → ℕ
least_from F v a b c e s l = min v (min (side F l s a b) (side F l s c e))

-- a span's value after a pass that looks at two sides
unfoldable pub least : Field → ℕ → ℕ → ℕ → ℕ → ℕ → List ℕ → ℕ
least F a b c e s l = least_from F (far l s) a b c e s l

-- the spans of the cells before c hold at most 510
pub record LowBefore (F : Field) (c : ℕ) (l : List ℕ) : Type 0 where
  pub size : length l ≡ spans F
  pub low : (t : ℕ) → t < spans F → cell_of F.count t < c → far l t ≤ 510

-- where a run of spans ends: at a span, or after all n
abbrev pub run_end : ℕ → Option ℕ → ℕ
run_end n None = n
run_end n (Some s) = s

-- of n spans, which have the connections con, the one that is given is there and has four neighbours
abbrev pub Goes : ℕ → List ℕ → Option ℕ → Type 0
Goes n con None = Unit {0}
Goes n con (Some s) = (s < n) × (ringed (cons_at con s) ≡ true)

-- pass 1 has gone through the rows before y, and through the columns before x of row y, whose spans hold at most twice their column
pub record Passing (F : Field) (y x : ℕ) (l : List ℕ) : Type 0 where
  pub rows : LowBefore F (F.w * y) l
  pub row : (t : ℕ) → t < spans F → F.w * y ≤ cell_of F.count t → cell_of F.count t < F.w * y + x → far l t ≤ 2 * (cell_of F.count t - F.w * y)

-- pass 1 has gone through the spans before s, which hold at most twice their column
pub record PassedTo (F : Field) (s : ℕ) (l : List ℕ) : Type 0 where
  pub size : length l ≡ spans F
  pub low : (t : ℕ) → t < s → far l t ≤ 2 * (cell_of F.count t % F.w)

-- every value is at most 510, as after pass 1
pub record Low (F : Field) (l : List ℕ) : Type 0 where
  pub size : length l ≡ spans F
  pub low : (t : ℕ) → t < spans F → far l t ≤ 510

-- a list with a value for each span, with room for the sums that neighbour a of span s and its neighbour b make
pub record Room (F : Field) (l : List ℕ) (s a b : ℕ) : Type 0 where
  pub size : length l ≡ spans F
  pub first : near F s a < spans F → far l (near F s a) ≤ 510
  pub second : near F (near F s a) b < spans F → far l (near F (near F s a) b) ≤ 510
