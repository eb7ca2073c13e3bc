-- The fields that the figures speak of, and what document 01 calls open.
use Rattle.std.specs.Prelude.{ℕ, ◌*◌, ◌/◌, ◌%◌, replicate}
use Rattle.rules.specs.Base.{when◌then◌else◌, tab}
use Rattle.rules.specs.Field.{Field, leaves}

-- connection k of them all, that of span k / 4 in direction k % 4: none where there is no cell across, otherwise layer 0
unfoldable pub open_con : ℕ → ℕ → ℕ → ℕ
open_con w h k = when leaves w h (k / 4) (k % 4) then 255 else 0

-- one span a cell, all connected; a gives the area of each cell
unfoldable pub flat : ℕ → ℕ → (ℕ → ℕ) → Field
flat w h a = record {
  w = w;
  h = h;
  index = tab (w * h) 0 (λ c. c);
  count = replicate (w * h) 1;
  area = tab (w * h) 0 a;
  con = tab (4 * (w * h)) 0 (open_con w h);
}

-- ""Open" means one span a cell, area 1, all connected"
unfoldable pub open_field : ℕ → ℕ → Field
open_field w h = flat w h (λ c. 1)
