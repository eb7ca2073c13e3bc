-- The answers that the check does not find alone.
use Rattle.refresh.proofs.Turns.{pass2_go, pass2-last}
use borrow.Author.Rules.{rules}
use Rattle.refresh.proofs.redo.pass2_rows.Goals as goal

pub loop-y-preserved : goal.loop-y-preserved
loop-y-preserved c = (search rules, search rules, search (rules, pass2_go), search rules)

pub returns : goal.returns
returns c = (search (rules, pass2-last), search rules)
