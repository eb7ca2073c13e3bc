-- The answers that the check does not find alone.
use Rattle.table.proofs.SearchLaws.{place_block}
use borrow.Author.Rules.{rules}
use Rattle.table.proofs.search.pass_over.Goals as goal

pub loop-i-preserved : goal.loop-i-preserved
loop-i-preserved c = (search rules, place_block _ _ _ c.loop-i.invariant.1 _ c.holds.ensures (search rules) (search rules))
