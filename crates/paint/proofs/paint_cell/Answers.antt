-- The answers that the check does not find alone.
use Prim.Native.Nat.{◌<◌}
use lib.ListN.{length}
use native.Mathlib.Omega.{arith}
use mathlib.Core.Path.{refl}
use Rattle.paint.proofs.CellLaws.{index_in, cell_inside, cell_done, spans-none, spans_more}
use borrow.Author.Rules.{rules}
use Rattle.paint.proofs.paint_cell.Goals as goal

pub offset_bounds-index-c : goal.offset_bounds-index-c
offset_bounds-index-c c = let i : c.args.c < length c.args.index.now = search index_in in omega (arith, i, c.type_inv.index)

pub bounds-index-c : goal.bounds-index-c
bounds-index-c c = search index_in

pub loop-i-init : goal.loop-i-init
loop-i-init c = (search rules, search rules, refl, search spans-none)

pub paint_span-requires : goal.paint_span-requires
paint_span-requires c = (search cell_inside, search rules)

pub loop-i-preserved : goal.loop-i-preserved
loop-i-preserved c = (search rules, search rules, search rules, search spans_more)

pub returns : goal.returns
returns c = search cell_done
