-- The answers that the check does not find alone.
use Rattle.checker.specs.Links.{how_many, links_in}
use Rattle.checker.proofs.Counted.{part_room, part-turn, part_end}
use borrow.Author.Rules.{rules}
use Rattle.checker.proofs.tally.part.Goals as goal

pub loop-j-init : goal.loop-j-init
unfolding links_in how_many
loop-j-init c = search rules

pub counted-k-requires : goal.counted-k-requires
counted-k-requires c = search (rules, part_room)

pub loop-j-preserved : goal.loop-j-preserved
loop-j-preserved c = (search rules, search (rules, part-turn))

pub returns : goal.returns
returns c = search (rules, part_end)
