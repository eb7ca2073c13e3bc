-- A span that is not walkable or has an id, and one that is stacked: the rule's test in each case (Blanks).
use mathlib.Core.Path.{refl}
use Rattle.expand.proofs.Blanks.{push_shut, fill_shut, push_held, fill-held, push_vacant, fill-vacant}
use Rattle.expand.proofs.expand.fill_one.Goals as goal
use Rattle.expand.proofs.expand.fill_one.Goals.{then-area-s-eq0-via-then-area-s-eq0, then-area-s-eq0-via-else-area-s-eq0+then-ids-s-ne0}

pub returns-then-area-s-eq0 : goal.returns-then-area-s-eq0
returns-then-area-s-eq0 c = elim c.then-area-s-eq0.branch [
  | then-area-s-eq0-via-then-area-s-eq0 w ↦ record {
    ws_after = push_shut _ _ _ _ _ _ c.requires.s_in_bounds.0 refl w.if-area-s-eq0.true;
    value = fill_shut _ _ c.args.ws.now _ _ _ c.requires.s_in_bounds.0 refl w.if-area-s-eq0.true;
  }
  | then-area-s-eq0-via-else-area-s-eq0+then-ids-s-ne0 w ↦ record {
    ws_after = push_held _ _ _ _ _ _ c.requires.s_in_bounds.0 refl _ refl w.if-ids-s-ne0.true;
    value = fill-held _ _ c.args.ws.now _ _ _ c.requires.s_in_bounds.0 refl _ refl w.if-ids-s-ne0.true;
  }
]

pub returns : goal.returns
returns c = record {
  ws_after = push_vacant _ _ _ _ _ _ c.requires.s_in_bounds.0 refl _ refl c.if-area-s-eq0.false c.if-ids-s-ne0.false;
  value = fill-vacant _ _ c.args.ws.now _ _ _ c.requires.s_in_bounds.0 refl _ refl c.if-area-s-eq0.false c.if-ids-s-ne0.false;
}
