-- The answers that the check does not find alone.
use Rattle.stored.proofs.Halving.{halves-first, halves_up, halves_down, halves_done}
use borrow.Author.Rules.{rules}
use Rattle.stored.proofs.id.choose.Goals as goal

pub loop-lo-init : goal.loop-lo-init
loop-lo-init c = search (rules, halves-first)

pub loop-lo-preserved-then-mark_at-span : goal.loop-lo-preserved-then-mark_at-span
loop-lo-preserved-then-mark_at-span c = search (rules, halves_up)

pub loop-lo-preserved : goal.loop-lo-preserved
loop-lo-preserved c = search (rules, halves_down)

pub returns : goal.returns
returns c = (search (rules, halves_done), search rules, search rules)
