-- The answers that the check does not find alone.
use borrow.Author.Rules.{rules}
use Rattle.expand.proofs.Blanks.{filling_start, filling_room, filling_next, filling_end}
use Rattle.expand.proofs.expand.fill_stack.Goals as goal

pub loop-s-init : goal.loop-s-init
loop-s-init c = search (rules, filling_start)

pub fill_one-fill-requires : goal.fill_one-fill-requires
fill_one-fill-requires c = record {
  area_len_bound = (search rules, search rules, search (rules, filling_room));
  s_in_bounds = (search rules, search rules);
}

pub loop-s-preserved : goal.loop-s-preserved
loop-s-preserved c = search (rules, filling_next)

pub returns : goal.returns
returns c = search (rules, filling_end)
