-- The table as it is filled, span by span.
use Rattle.std.specs.Prelude.{ℕ, zero, suc, ◌+◌, ◌*◌, List, get_or, set, eqb}
use Rattle.rules.specs.Base.{when◌then◌else◌, upto}
use Rattle.rules.specs.Field.{Field, none, cell_to, near}

-- where the connection in direction d leads, of a span in cell c that has the connections cons
unfoldable pub lead_at : ℕ → List ℕ → List ℕ → ℕ → ℕ → ℕ
lead_at w index cons c d = when eqb (get_or cons d 0) 255 then none else get_or index (cell_to w c d) 0 + get_or cons d 0

-- the four neighbours of span s in their places
unfoldable pub filled_at : Field → ℕ → ℕ → List ℕ → List ℕ
filled_at F table s ws =
    let p = table + 4 * s in
    set (set (set (set ws p (near F s 0)) (p + 1) (near F s 1)) (p + 2) (near F s 2)) (p + 3) (near F s 3)

-- those of k spans, from span `from` on
unfoldable pub filled : Field → ℕ → ℕ → ℕ → List ℕ → List ℕ
filled F table from zero ws = ws
filled F table from (suc k) ws = filled_at F table (from + k) (filled F table from k ws)

-- those of the k cells from c on
unfoldable pub filled_cells : Field → ℕ → ℕ → ℕ → List ℕ → List ℕ
filled_cells F table c k ws = upto k (λ j. filled F table (get_or F.index (c + j) 0) (get_or F.count (c + j) 0)) ws
