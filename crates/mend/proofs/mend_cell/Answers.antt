-- The answers that the check does not find alone.
use mathlib.Core.Path.{refl}
use Rattle.mend.proofs.WalkLaws.{ready_span, walk_none, walk_layer, walk_layers}
use borrow.Author.Rules.{rules}
use Rattle.mend.proofs.mend_cell.Goals as goal

pub loop-j-init : goal.loop-j-init
loop-j-init c = (search rules, search rules, search rules, search (rules, walk_none))

pub mend_span-found-requires : goal.mend_span-found-requires
mend_span-found-requires c = record {
  ready = (ready_span _ _ _ _ _ _ _ _ _ _ _ _ _ _ _ _ c.requires.0 c.loop-j.invariant.3 refl c.loop-j-test.true, search rules);
  s_value = search rules;
}

pub loop-j-preserved : goal.loop-j-preserved
loop-j-preserved c = (search rules, search rules, search rules, search (rules, walk_layer))

pub returns : goal.returns
returns c = search walk_layers
