-- The change that is found is of a span, so it can look around, and its sum is the change's (Tellings).
use mathlib.Core.Path.{refl}
use native.Mathlib.Omega.{arith}
use Prim.Native.Nat.{◌<◌}
use Rattle.flood.specs.Stories.{story_of}
use Rattle.expand.proofs.Tellings.{told_none, told_still, sought_span, told_took, told-small, told_sight}
use Rattle.expand.proofs.story.tell_round.Goals as goal

pub returns-then-story-eq-NOBODY : goal.returns-then-story-eq-NOBODY
returns-then-story-eq-NOBODY c = told_none _ _ _ _ _ _ _ _ c.requires.spans c.requires.closed.1.few c.if-story-eq-NOBODY.true

pub returns-in_default : goal.returns-in_default
returns-in_default c = told_still _ _ _ _ _ _ _ (story_of c.args.story) c.requires.spans _ c.queued.ensures c.in_default.is

pub overflow_mul-far : goal.overflow_mul-far
overflow_mul-far c = let below : c.in-Some.i < c.args.hi = (c.queued.ensures.found _ c.in-Some.is).1 in
    omega (arith, below, c.requires.closed.1.most)

pub overflow_add-far : goal.overflow_add-far
overflow_add-far c = let below : c.in-Some.i < c.args.hi = (c.queued.ensures.found _ c.in-Some.is).1 in
    omega (arith, below, c.requires.closed.1.most)

pub overflow_add-far-2 : goal.overflow_add-far-2
overflow_add-far-2 c = let below : c.in-Some.i < c.args.hi = (c.queued.ensures.found _ c.in-Some.is).1 in
    omega (arith, below, c.requires.closed.1.most)

pub offset_bounds-ws-at : goal.offset_bounds-ws-at
offset_bounds-ws-at c = let below : c.in-Some.i < c.args.hi = (c.queued.ensures.found _ c.in-Some.is).1 in
    omega (arith, below, c.requires.closed.1.most)

pub bounds-ws-at : goal.bounds-ws-at
bounds-ws-at c = let below : c.in-Some.i < c.args.hi = (c.queued.ensures.found _ c.in-Some.is).1 in
    omega (arith, below, c.requires.closed.1.most)

pub source-requires : goal.source-requires
source-requires c = told_sight _ _ _ _ _ _ _ c.requires.closed.0 c.requires.closed.1 (sought_span _ _ _ _ _ _ _ _ c.requires.spans c.queued.ensures c.in-Some.is)

pub overflow_cast-result : goal.overflow_cast-result
overflow_cast-result c = let h = sought_span _ _ _ _ _ _ _ _ c.requires.spans c.queued.ensures c.in-Some.is in
    omega (arith, told-small _ _ _ _ _ _ _ (told_sight _ _ _ _ _ _ _ c.requires.closed.0 c.requires.closed.1 h) c.source.ensures)

pub returns : goal.returns
returns c = told_took _ _ _ _ _ _ _ (story_of c.args.story) c.requires.spans _ c.queued.ensures _ c.in-Some.is _ refl _ c.source.ensures
