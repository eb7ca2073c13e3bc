-- The refusal numbers 1 to 8. "Checked in this order; the first that applies is given, and none is given otherwise."
use Rattle.std.specs.Prelude.{ℕ, ◌+◌, ◌*◌, ◌%◌, Bool, false, not, List, [], ◌∷◌, length, get_or, leb, ltb, eqb}
use Rattle.rules.specs.Base.{◌and◌, ◌or◌, when◌then◌else◌, every, any}
use Rattle.rules.specs.Field.{Field, spans, cell_of, cell_to, leaves, con_of, near}

-- 1: "w or h above 256"
unfoldable pub too_wide : Field → Bool
too_wide F = ltb 256 F.w or ltb 256 F.h

-- "Two customers have tiles of up to 65,000 spans. Raise limit 2 to that"
abbrev pub most_spans : ℕ
most_spans = 65000

-- 2: "n above" that
unfoldable pub too_many : Field → Bool
too_many F = ltb most_spans (spans F)

-- 3: "a lent list other than the workspace has the wrong length (w·h, n or 4n)";
-- lens are the lengths of the entry's own lists, which hold one number a span
unfoldable pub wrong_length : Field → List ℕ → Bool
wrong_length F lens =
    not (eqb (length F.index) (F.w * F.h) and eqb (length F.count) (F.w * F.h) and eqb (length F.con) (4 * spans F)
    and every (length lens) (λ i. eqb (get_or lens i 0) (spans F)))

-- 4: "a cell count above 63, a nonempty cell's index wrong, or counts not summing to n";
-- "A nonempty cell's index is the sum of the counts before it; an empty cell's index is not looked at."
unfoldable pub good_cells : List ℕ → List ℕ → ℕ → ℕ → Bool
good_cells [] [] before n = eqb before n
good_cells [] (k ∷ ks) before n = false
good_cells (i ∷ is) [] before n = false
good_cells (i ∷ is) (k ∷ ks) before n = leb k 63 and (eqb k 0 or eqb i before) and good_cells is ks (before + k) n

unfoldable pub wrong_cells : Field → Bool
wrong_cells F = not (good_cells F.index F.count 0 (spans F))

-- 5: "a connection leaves the grid or names a layer that the cell lacks"
unfoldable pub good_con : Field → ℕ → ℕ → Bool
good_con F s d =
    let c = cell_of F.count s in
    eqb (con_of F s d) 255 or (not (leaves F.w F.h c d) and ltb (con_of F s d) (get_or F.count (cell_to F.w c d) 0))

unfoldable pub wrong_reach : Field → Bool
wrong_reach F = not (every (spans F) (λ s. every 4 (good_con F s)))

-- 6: "a connection from s to t in direction d where t's connection in direction d+2 (modulo 4) doesn't lead to s"
unfoldable pub good_back : Field → ℕ → ℕ → Bool
good_back F s d = eqb (con_of F s d) 255 or eqb (near F (near F s d) ((d + 2) % 4)) s

unfoldable pub wrong_back : Field → Bool
wrong_back F = not (every (spans F) (λ s. every 4 (good_back F s)))

-- 1 to 6, 0 for none of them
unfoldable pub refusal : Field → List ℕ → ℕ
refusal F lens =
    when too_wide F then 1 else
    when too_many F then 2 else
    when wrong_length F lens then 3 else
    when wrong_cells F then 4 else
    when wrong_reach F then 5 else
    when wrong_back F then 6 else 0

-- 7: "region entry: workspace shorter than 128·n + 4,096 numbers"
unfoldable pub too_short : Field → ℕ → Bool
too_short F work = ltb work (128 * spans F + 4096)

-- 8: "region entry: max_distance above 510, or a distance above max_distance"
unfoldable pub too_far : List ℕ → ℕ → Bool
too_far dist most = ltb 510 most or any (ltb most) dist

-- 1 to 8, 0 for none of them; work is the length of the workspace
unfoldable pub region_refusal : Field → List ℕ → ℕ → List ℕ → ℕ → ℕ
region_refusal F lens work dist most =
    let r = refusal F lens in
    when not (eqb r 0) then r else
    when too_short F work then 7 else
    when too_far dist most then 8 else 0
