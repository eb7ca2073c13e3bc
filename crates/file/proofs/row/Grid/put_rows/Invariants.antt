-- `row::Grid::put_rows` meets its contract. The loop's invariant is `Underway`: the rows that are left, written from here on, give what all rows give.
-- Each turn writes the first of those that are left.
use Rattle.file.proofs.Joins.{Underway}
use Rattle.file.specs.Shown.{shown}
use Rattle.rules.specs.Listing.{rows_text}
use Prim.Native.Nat.{◌-◌}
use Rattle.file.proofs.row.Grid.put_rows.Given as goal

abbrev pub invariant-loop-z : goal.invariant-loop-z
invariant-loop-z l =
    let g = l.self in
    let F = shown g.w g.h g.index.now g.count.now in
    Underway l.initial.out l.at (rows_text F g.ids.now g.h 0) l.out l.next (rows_text F g.ids.now (g.h - l.z) l.z)
