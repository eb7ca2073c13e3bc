-- The answers that the check does not find alone.
use Rattle.rules.specs.Base.{every}
use Rattle.field.specs.Blocks.{empty_to}
use Rattle.field.proofs.Blocks.{block_part, block_go, block_end}
use borrow.Author.Rules.{rules}
use Rattle.field.proofs.block.is_empty.Goals as goal

pub returns-then-k-ne-BLOCK : goal.returns-then-k-ne-BLOCK
returns-then-k-ne-BLOCK c = search (rules, block_part)

pub loop-j-init : goal.loop-j-init
unfolding empty_to every
loop-j-init c = search rules

pub loop-j-preserved : goal.loop-j-preserved
loop-j-preserved c = (search rules, block_go _ _ _ _ c.loop-j.invariant.1)

pub returns : goal.returns
returns c = search (rules, block_end)
