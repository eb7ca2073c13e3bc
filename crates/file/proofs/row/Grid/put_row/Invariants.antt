-- `row::Grid::put_row` meets its contract. The loop's invariant is `Underway`: the cells that are left and the line's end, written from here on, give what the whole row gives.
-- Cell x of row z is z·w + x, which is in the grid.
use Rattle.file.proofs.Joins.{Underway}
use Rattle.file.specs.Shown.{leds, cell_at, shown}
use Rattle.rules.specs.Listing.{row_text}
use Prim.Native.Nat.{◌-◌, ◌*◌}
use mathlib.Core.List.{[], ◌∷◌, ◌++◌}
use Rattle.file.proofs.row.Grid.put_row.Given as goal

abbrev pub invariant-loop-x : goal.invariant-loop-x
invariant-loop-x l =
    let g = l.self in
    Underway l.initial.out l.at (row_text (shown g.w g.h g.index.now g.count.now) g.ids.now l.z) l.out l.next
    (leds 32 (g.w - l.x) l.x (cell_at g.index.now g.count.now g.ids.now (l.z * g.w)) ++ (10 ∷ []))
