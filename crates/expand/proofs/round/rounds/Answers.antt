-- The answers that the check does not find alone.
use mathlib.Core.Path.{refl}
use native.Mathlib.Omega.{arith}
use borrow.Author.Rules.{rules}
use Rattle.expand.proofs.Wholes.{mutual_closed, lit_board, tried_mutual, tried_begun, going_start, gone_from, going-part, going-spans, going_few, going_end, written-closed, written_board, written-spans, going-last, going_next, going-closed, going_board, going_changes, told_from, told-end, told-last, told_next}
use Rattle.expand.proofs.round.rounds.Goals as goal

pub try_all-t-requires : goal.try_all-t-requires
try_all-t-requires c = record {
  closed = (search (rules, mutual_closed), search rules);
  board = (search (rules, lit_board), search rules);
  sizes = search rules;
}

pub loop-lo-init : goal.loop-lo-init
loop-lo-init c = (search (rules, going_start), refl)

pub tell_round-told-requires : goal.tell_round-told-requires
tell_round-told-requires c = let x = tried_mutual _ _ _ _ _ c.args.most _ _ c.requires.fact.0 c.requires.lit _ _ _ c.try_all-t.ensures.fact in
    let z = tried_begun _ _ _ _ _ c.args.most _ _ c.requires.fact.0 c.requires.lit _ _ _ c.try_all-t.ensures.fact in
    record {
      closed = (going-closed _ _ _ _ _ c.args.most _ _ x z _ _ _ _ _ _ c.loop-lo.invariant.0, going_board _ _ _ _ _ c.args.most _ _ x z _ _ _ _ _ _ c.loop-lo.invariant.0);
      spans = going_changes _ _ _ _ _ c.args.most _ _ x z _ _ _ _ _ _ c.loop-lo.invariant.0;
    }

pub write_all-requires : goal.write_all-requires
write_all-requires c = let x = tried_mutual _ _ _ _ _ c.args.most _ _ c.requires.fact.0 c.requires.lit _ _ _ c.try_all-t.ensures.fact in
    let z = tried_begun _ _ _ _ _ c.args.most _ _ c.requires.fact.0 c.requires.lit _ _ _ c.try_all-t.ensures.fact in
    record {
      past = (going-part _ _ _ _ _ c.args.most _ _ x z _ _ _ _ _ _ c.loop-lo.invariant.0, going_few _ _ _ _ _ c.args.most _ _ x z _ _ _ _ _ _ c.loop-lo.invariant.0);
      spans = going-spans _ _ _ _ _ c.args.most _ _ x z _ _ _ _ _ _ c.loop-lo.invariant.0;
    }

pub returns-then-left-eq1 : goal.returns-then-left-eq1
returns-then-left-eq1 c = let x = tried_mutual _ _ _ _ _ c.args.most _ _ c.requires.fact.0 c.requires.lit _ _ _ c.try_all-t.ensures.fact in
    let z = tried_begun _ _ _ _ _ c.args.most _ _ c.requires.fact.0 c.requires.lit _ _ _ c.try_all-t.ensures.fact in
    record {
      fact_2 = gone_from _ _ _ _ _ _ _ _ c.requires.fact.0 c.requires.lit _ _ _ c.try_all-t.ensures.fact _ _ _ _
          (going-last _ _ _ _ _ c.args.most _ _ x z _ _ _ _ _ _ c.loop-lo.invariant.0 _ _ c.write_all.ensures c.loop-lo-test.true c.if-left-eq1.true);
      story_value = told_from _ _ _ _ _ _ _ _ c.requires.fact.0 c.requires.lit _ _ _ c.try_all-t.ensures.fact _ _
          (told-last _ _ _ _ _ c.args.most _ _ x z _ _ _ _ _ _ c.loop-lo.invariant.0 _ _ c.write_all.ensures c.loop-lo-test.true _ _ _ c.loop-lo.invariant.1 c.tell_round-told.ensures c.if-left-eq1.true);
    }

pub try_beside-t-requires : goal.try_beside-t-requires
try_beside-t-requires c = let x = tried_mutual _ _ _ _ _ c.args.most _ _ c.requires.fact.0 c.requires.lit _ _ _ c.try_all-t.ensures.fact in
    let z = tried_begun _ _ _ _ _ c.args.most _ _ c.requires.fact.0 c.requires.lit _ _ _ c.try_all-t.ensures.fact in
    record {
      closed = (written-closed _ _ _ _ _ c.args.most _ _ x z _ _ _ _ _ _ c.loop-lo.invariant.0 _ _ c.write_all.ensures c.loop-lo-test.true, c.requires.fact.1);
      board = (written_board _ _ _ _ _ c.args.most _ _ x z _ _ _ _ _ _ c.loop-lo.invariant.0 _ _ c.write_all.ensures c.loop-lo-test.true, written-spans _ _ _ _ _ c.args.most _ _ x z _ _ _ _ _ _ c.loop-lo.invariant.0 _ _ c.write_all.ensures c.loop-lo-test.true);
    }

pub overflow_sub-left : goal.overflow_sub-left
overflow_sub-left c = omega (arith, c.loop-lo.invariant.0.some)

pub loop-lo-smaller : goal.loop-lo-smaller
loop-lo-smaller c = omega (arith, c.loop-lo.invariant.0.some)

pub loop-lo-preserved : goal.loop-lo-preserved
loop-lo-preserved c = let x = tried_mutual _ _ _ _ _ c.args.most _ _ c.requires.fact.0 c.requires.lit _ _ _ c.try_all-t.ensures.fact in
    let z = tried_begun _ _ _ _ _ c.args.most _ _ c.requires.fact.0 c.requires.lit _ _ _ c.try_all-t.ensures.fact in (
      going_next _ _ _ _ _ c.args.most _ _ x z _ _ _ _ _ _ c.loop-lo.invariant.0 _ _ c.write_all.ensures c.loop-lo-test.true _ _ _
          c.try_beside-t.ensures.fact c.try_beside-t.ensures.beside c.if-left-eq1.false,
      told_next _ _ _ _ _ c.args.most _ _ x z _ _ _ _ _ _ c.loop-lo.invariant.0 _ _ c.write_all.ensures c.loop-lo-test.true _ _ _
          c.try_beside-t.ensures.fact c.try_beside-t.ensures.beside _ _ _ c.loop-lo.invariant.1 c.tell_round-told.ensures,
    )

pub returns : goal.returns
returns c = let x = tried_mutual _ _ _ _ _ c.args.most _ _ c.requires.fact.0 c.requires.lit _ _ _ c.try_all-t.ensures.fact in
    let z = tried_begun _ _ _ _ _ c.args.most _ _ c.requires.fact.0 c.requires.lit _ _ _ c.try_all-t.ensures.fact in
    record {
      fact_2 = gone_from _ _ _ _ _ _ _ _ c.requires.fact.0 c.requires.lit _ _ _ c.try_all-t.ensures.fact _ _ _ _ (going_end _ _ _ _ _ c.args.most _ _ x z _ _ _ _ _ _ c.loop-lo.invariant.0 c.loop-lo-test.false);
      story_value = told_from _ _ _ _ _ _ _ _ c.requires.fact.0 c.requires.lit _ _ _ c.try_all-t.ensures.fact _ _ (told-end _ _ _ _ _ c.args.most _ _ x z _ _ _ _ _ _ c.loop-lo.invariant.0 _ _ c.loop-lo.invariant.1 c.loop-lo-test.false);
    }
