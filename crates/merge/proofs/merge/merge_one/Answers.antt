-- `merge::merge::merge_one` meets its contract. By cases, in the rule's order. A record that may be merged is live (`turn-live`), as the picking asks;
-- the picked neighbour bears its own number (`Reps`), so it is another record, and live.
use mathlib.Core.Path.{refl, sym}
use Rattle.merge.proofs.TurnLaws.{one-not, one_own, one_tried, turn_apart, turn-live, turn-live_2}
use borrow.Author.Rules.{rules}
use Rattle.merge.proofs.merge.merge_one.Goals as goal

pub returns-then-not-may_merge : goal.returns-then-not-may_merge
returns-then-not-may_merge c = record {
  merges_after = one-not _ _ _ _ _ _ _ c.requires.pool_in.0 c.requires.reps.1 _ _ c.may_merge.ensures c.if-not-may_merge.true;
  pool_in_2 = (c.requires.pool_in.0, c.requires.pool_in.1, search rules, refl);
}

pub pick-id-requires : goal.pick-id-requires
pick-id-requires c = (c.requires.pool_in.0.held, c.requires.pool_in.0.bearers, c.requires.reps.1, turn-live _ _ _ _ _ _ _ c.requires.pool_in.0 c.requires.reps.1 c.args.round.merges _ c.may_merge.ensures c.if-not-may_merge.false)

pub returns-then-id-ws : goal.returns-then-id-ws
returns-then-id-ws c = record {
  merges_after = one_own _ _ _ _ _ _ _ c.requires.pool_in.0 c.requires.reps.1 _ _ c.may_merge.ensures c.if-not-may_merge.false _ _ c.pick-id.ensures.id_value c.if-id-ws.true;
  pool_in_2 = (c.requires.pool_in.0, c.requires.pool_in.1, search rules, refl);
}

pub try_merge-requires : goal.try_merge-requires
try_merge-requires c = record {
  pool_in = c.requires.pool_in;
  i_lt_m = (c.requires.reps.1, c.pick-id.ensures.id_lt_m, turn_apart _ _ _ _ _ _ _ c.requires.pool_in.0 c.requires.reps.1 c.args.round.merges _ c.may_merge.ensures c.if-not-may_merge.false _ _ c.pick-id.ensures.id_value c.requires.reps.0 c.if-id-ws.false);
  fact = (turn-live _ _ _ _ _ _ _ c.requires.pool_in.0 c.requires.reps.1 c.args.round.merges _ c.may_merge.ensures c.if-not-may_merge.false, turn-live_2 _ _ _ _ _ _ _ c.requires.pool_in.0 c.requires.reps.1 c.args.round.merges _ c.may_merge.ensures c.if-not-may_merge.false _ _ c.pick-id.ensures.id_value c.requires.reps.0 c.if-id-ws.false c.pick-id.ensures.id_lt_m, (λ w. c.if-id-ws.false (sym w)));
}

pub returns : goal.returns
returns c = record {
  merges_after = one_tried _ _ _ _ _ _ _ c.requires.pool_in.0 c.requires.reps.1 _ _ c.may_merge.ensures c.if-not-may_merge.false _ _ c.pick-id.ensures.id_value c.if-id-ws.false _ _ c.try_merge.ensures.merges_after;
  pool_in_2 = c.try_merge.ensures.pool_in_2;
}
