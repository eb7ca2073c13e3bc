-- The answers that the check does not find alone.
use Rattle.merge.proofs.PickLaws.{pick-listed, picked_go, picked-end, own_id}
use mathlib.Core.Path.{refl}
use borrow.Author.Rules.{rules}
use Rattle.merge.proofs.pick.pick.Goals as goal

pub loop-r-init : goal.loop-r-init
loop-r-init c = (search own_id, refl)

pub pick_one-best-requires : goal.pick_one-best-requires
pick_one-best-requires c = record {
  records_in = search rules;
  names = (search pick-listed, search rules);
}

pub loop-r-preserved : goal.loop-r-preserved
loop-r-preserved c = (search rules, search picked_go)

pub returns : goal.returns
returns c = record {
  id_value = search picked-end;
  id_lt_m = search rules;
}
