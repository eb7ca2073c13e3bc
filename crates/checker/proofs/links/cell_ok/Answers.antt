-- The answers that the check does not find alone.
use Rattle.rules.specs.Base.{every}
use Rattle.checker.specs.Links.{in_cell}
use Rattle.field.proofs.Loops.{every_go}
use Rattle.checker.proofs.Checks.{layers_halt, layers_end}
use borrow.Author.Rules.{rules}
use Rattle.checker.proofs.links.cell_ok.Goals as goal

pub loop-j-init : goal.loop-j-init
unfolding every
loop-j-init c = search rules

pub returns-then-not-span_ok : goal.returns-then-not-span_ok
returns-then-not-span_ok c = search (rules, layers_halt)

pub loop-j-preserved : goal.loop-j-preserved
loop-j-preserved c = (search rules, search (rules, every_go))

pub returns : goal.returns
unfolding in_cell
returns c = search (rules, layers_end)
