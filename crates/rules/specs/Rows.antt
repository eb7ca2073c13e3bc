-- The spans of a cell and the cells of a row, in the order in which the passes go through them, and what a pass does to one row.
-- f is what is done to the list at a span.
use Rattle.std.specs.Prelude.{ℕ, zero, suc, ◌+◌, ◌*◌, List, get_or, set}
use Rattle.rules.specs.Base.{upto}
use Rattle.rules.specs.Field.{Field}
use Rattle.rules.specs.Distance.{start_at, lower, blur_at}

-- "layers still upward"
unfoldable pub over_cell : Field → (ℕ → List ℕ → List ℕ) → ℕ → List ℕ → List ℕ
over_cell F f c l = upto (get_or F.count c 0) (λ j l. f (get_or F.index c 0 + j) l) l

-- f 0 (f 1 (.. (f (n - 1) a)))
unfoldable pub downto {ℓ} : {A : Type ℓ} → ℕ → (ℕ → A → A) → A → A
downto zero f a = a
downto (suc n) f a = downto n f (f n a)

-- column x of row y
unfoldable pub column : Field → (ℕ → List ℕ → List ℕ) → ℕ → ℕ → List ℕ → List ℕ
column F f y x l = over_cell F f (F.w * y + x) l

-- row y with its columns upward, and downward
unfoldable pub row_up : Field → (ℕ → List ℕ → List ℕ) → ℕ → List ℕ → List ℕ
row_up F f y l = upto F.w (column F f y) l

unfoldable pub row_down : Field → (ℕ → List ℕ → List ℕ) → ℕ → List ℕ → List ℕ
row_down F f y l = downto F.w (column F f y) l

-- the list with a span's value at the start
unfoldable pub start_to : Field → ℕ → List ℕ → List ℕ
start_to F s l = set l s (start_at F s)

-- a span's value of pass 1, worked out from where the span starts, whatever the list held for it
unfoldable pub from_start : Field → ℕ → List ℕ → List ℕ
from_start F s l = lower F 0 3 3 2 s (start_to F s l)

-- the blurred list with the blurred value of span s of the raw list l
unfoldable pub blur_to : Field → List ℕ → ℕ → List ℕ → List ℕ
blur_to F l s m = set m s (blur_at F l s)

-- row y of pass 1, of pass 2 and of the blur
unfoldable pub pass1_row : Field → ℕ → List ℕ → List ℕ
pass1_row F y l = row_up F (from_start F) y l

unfoldable pub pass2_row : Field → ℕ → List ℕ → List ℕ
pass2_row F y l = row_down F (lower F 2 1 1 0) y l

unfoldable pub blur_row : Field → List ℕ → ℕ → List ℕ → List ℕ
blur_row F l y m = row_up F (blur_to F l) y m
