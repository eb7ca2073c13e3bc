-- The answers that the check does not find alone.
use Rattle.mend.proofs.WalkLaws.{ready_link, walk_none, walk-one, walk_end}
use borrow.Author.Rules.{rules}
use Rattle.mend.proofs.mend_span.Goals as goal

pub loop-d-init : goal.loop-d-init
loop-d-init c = (search rules, search rules, search rules, search (rules, walk_none))

pub mend_link-found-requires : goal.mend_link-found-requires
mend_link-found-requires c = record {
  ready = (search (rules, ready_link), search rules);
  s_value = (search rules, search rules);
}

pub loop-d-preserved : goal.loop-d-preserved
loop-d-preserved c = (search rules, search rules, search rules, search (rules, walk-one))

pub returns : goal.returns
returns c = search (rules, walk_end)
