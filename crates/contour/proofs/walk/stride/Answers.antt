-- `stride` is the rule's `stride` on the walker and its list in the pool, and the net stays.
-- There is room where an id is to be listed (`Standing`), and that is in the pool, before the table.
use mathlib.Core.Path.{ap, ◌∙◌}
use Rattle.net.proofs.Tables.{slot_in, net_few}
use Rattle.contour.specs.Pool.{turned}
use Rattle.contour.proofs.PoolLaws.{stand_con, stand_at, stand_in, stride-turn, stride_note, stride-step, noted_dir}
use native.Mathlib.Omega.{arith}
use borrow.Author.Rules.{rules}
use Rattle.contour.proofs.walk.stride.Goals as goal

pub connections-cons-requires : goal.connections-cons-requires
connections-cons-requires c = search (rules, stand_con)

pub is_solid_edge-requires : goal.is_solid_edge-requires
is_solid_edge-requires c = (stand_at _ _ _ _ _ _ c.requires c.connections-cons.ensures, c.requires.dir)

pub across-r-requires : goal.across-r-requires
across-r-requires c = (stand_at _ _ _ _ _ _ c.requires c.connections-cons.ensures, c.requires.dir)

pub turn-requires : goal.turn-requires
turn-requires c = c.requires.dir

pub returns-then-r-v : goal.returns-then-r-v
returns-then-r-v c = stride-turn _ _ _ _ _ _ c.requires c.connections-cons.ensures _ c.is_solid_edge.ensures c.if-is_solid_edge.true _ c.across-r.ensures c.if-r-v.true _ c.turn.ensures

pub overflow_add-ws : goal.overflow_add-ws
overflow_add-ws c = omega (arith, (stand_in _ _ _ _ _ _ c.requires c.connections-cons.ensures _ c.is_solid_edge.ensures c.if-is_solid_edge.true _ c.across-r.ensures c.if-r-v.false))

pub offset_bounds-ws-pool : goal.offset_bounds-ws-pool
offset_bounds-ws-pool c = omega (arith, (stand_in _ _ _ _ _ _ c.requires c.connections-cons.ensures _ c.is_solid_edge.ensures c.if-is_solid_edge.true _ c.across-r.ensures c.if-r-v.false))

pub bounds-ws-pool : goal.bounds-ws-pool
bounds-ws-pool c = (stand_in _ _ _ _ _ _ c.requires c.connections-cons.ensures _ c.is_solid_edge.ensures c.if-is_solid_edge.true _ c.across-r.ensures c.if-r-v.false)

pub note-requires : goal.note-requires
note-requires c = omega (arith, (stand_in _ _ _ _ _ _ c.requires c.connections-cons.ensures _ c.is_solid_edge.ensures c.if-is_solid_edge.true _ c.across-r.ensures c.if-r-v.false))

pub turn-requires-then-is_solid_edge : goal.turn-requires-then-is_solid_edge
turn-requires-then-is_solid_edge c = noted_dir c.args.v _ c.across-r.result c.note.ensures c.requires.dir

pub returns-then-is_solid_edge : goal.returns-then-is_solid_edge
returns-then-is_solid_edge c = stride_note _ _ _ _ _ _ c.requires c.connections-cons.ensures _ c.is_solid_edge.ensures c.if-is_solid_edge.true _ c.across-r.ensures c.if-r-v.false _
    (c.turn-then-is_solid_edge.ensures ∙ ap turned c.note.ensures)

pub neighbour-to-requires : goal.neighbour-to-requires
neighbour-to-requires c = let v = stand_at _ _ _ _ _ _ c.requires c.connections-cons.ensures in
    (v.place, omega (arith, v.span, net_few _ _ _ v.closed), c.requires.dir, slot_in _ _ _ _ _ _ 0 v c.requires.dir)

pub step-requires : goal.step-requires
step-requires c = c.requires.dir

pub returns : goal.returns
returns c = stride-step _ _ _ _ _ _ c.requires c.connections-cons.ensures _ c.is_solid_edge.ensures c.if-is_solid_edge.false _ c.neighbour-to.ensures _ c.step.ensures
