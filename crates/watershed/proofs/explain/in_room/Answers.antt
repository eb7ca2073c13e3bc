-- Flooded where the span took no other's id, else expanded (ExplainLaws).
use mathlib.Core.Path.{◌∙◌}
use Rattle.watershed.proofs.ExplainLaws.{tells_flooded, tells_expanded}
use Rattle.watershed.proofs.explain.in_room.Goals as goal

pub returns-then-story-eq-NOBODY : goal.returns-then-story-eq-NOBODY
returns-then-story-eq-NOBODY c = λ n t e. c.with_room.ensures _ ∙ tells_flooded n _ _ _ _ _ t e c.if-story-eq-NOBODY.true

pub returns : goal.returns
returns c = λ n t e. c.with_room-2.ensures _ ∙ tells_expanded n _ _ _ _ _ t e c.if-story-eq-NOBODY.false
