-- The answers that the check does not find alone.
use Rattle.checker.specs.Links.{how_many, links_in}
use Rattle.checker.proofs.Counted.{most_less, most_in_lem, most_byte, most_whole, parts_turn, parts_fit, part_end}
use borrow.Author.Rules.{rules}
use Rattle.checker.proofs.tally.links_in.Goals as goal

pub loop-b-init : goal.loop-b-init
unfolding links_in how_many
loop-b-init c = search rules

pub part-requires : goal.part-requires
part-requires c = (search rules, search (rules, most_in_lem), search rules, search (rules, most_byte), search rules)

pub overflow_add-k : goal.overflow_add-k
overflow_add-k c = search (rules, most_in_lem, parts_fit)

pub loop-b-smaller : goal.loop-b-smaller
loop-b-smaller c = search (rules, most_less)

pub loop-b-preserved : goal.loop-b-preserved
loop-b-preserved c = (search (rules, most_in_lem), search (rules, most_whole), search (rules, parts_turn))

pub returns : goal.returns
returns c = search (rules, part_end)
