-- `table::list_of` meets its contract. Straight line: the table's promises say that the part is in order and lies in the workspace.
use Rattle.table.proofs.ViewLaws.{part_is, part_order, part-within}
use Rattle.table.proofs.list_of.Goals as goal

pub slice_bounds-result-count : goal.slice_bounds-result-count
slice_bounds-result-count c = search part_order

pub slice_bounds-result-start : goal.slice_bounds-result-start
slice_bounds-result-start c = search part_order

pub slice_bounds-result-end : goal.slice_bounds-result-end
slice_bounds-result-end c = search part-within

pub returns : goal.returns
returns c = search part_is
