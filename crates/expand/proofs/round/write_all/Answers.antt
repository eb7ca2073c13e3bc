-- The answers that the check does not find alone.
use borrow.Author.Rules.{rules}
use Rattle.expand.proofs.Writes.{writing_start, writing_span, writing_at, writing_small, writing_wide, writing_next, writing_end}
use Rattle.expand.proofs.round.write_all.Goals as goal

pub loop-i-init : goal.loop-i-init
loop-i-init c = search (rules, writing_start)

pub write_one-requires : goal.write_one-requires
write_one-requires c = (search (rules, writing_at), search (rules, writing_small), search (rules, writing_span), search (rules, writing_wide))

pub loop-i-preserved : goal.loop-i-preserved
loop-i-preserved c = search (rules, writing_next)

pub returns : goal.returns
returns c = search (rules, writing_end)
