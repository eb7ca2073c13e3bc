-- Within the grid it is the test of a connection there; a connection that leaves the grid passes only if it is none.
use Rattle.checker.proofs.Answered.{side_in, link_out}
use borrow.Author.Rules.{rules}
use Rattle.checker.proofs.links.side_ok.Goals as goal

pub link_ok-requires : goal.link_ok-requires
link_ok-requires c = ((search rules, search rules), search rules, search rules, search (rules, side_in))

pub returns : goal.returns
returns c = search (rules, link_out)
