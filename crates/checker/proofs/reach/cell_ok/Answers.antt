-- The answers that the check does not find alone.
use Rattle.rules.specs.Base.{every}
use Rattle.std.proofs.Common.{◌≡◌, ◌+◌, get_or}
use Rattle.field.specs.Seen.{seen}
use Rattle.checker.specs.Links.{reach_at, in_cell}
use Rattle.field.proofs.Loops.{every_go}
use Rattle.checker.proofs.Checks.{layers_halt, layers_end, layer_reach, con_room}
use borrow.Author.Rules.{rules}
use Rattle.checker.proofs.reach.cell_ok.Goals as goal

pub loop-j-init : goal.loop-j-init
unfolding every
loop-j-init c = search rules

pub connections-cons-requires : goal.connections-cons-requires
connections-cons-requires c = search (rules, con_room)

pub returns-then-not-span_ok : goal.returns-then-not-span_ok
returns-then-not-span_ok c =
    let F = seen c.args.field.now in
    let e : c.span_ok.result ≡ reach_at F (get_or F.index c.args.c 0 + c.loop-j.j) = search (rules, layer_reach) in
    search (rules, layers_halt)

pub loop-j-preserved : goal.loop-j-preserved
loop-j-preserved c = (search rules, search (rules, every_go, layer_reach))

pub returns : goal.returns
unfolding in_cell
returns c = search (rules, layers_end)
