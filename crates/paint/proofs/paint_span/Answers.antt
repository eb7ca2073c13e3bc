-- A store of one span, or nothing where it is not walkable.
-- Either is the list written where the test holds, by its elements.
use Rattle.paint.proofs.PutLaws.{span_none, span_set}
use Rattle.paint.proofs.paint_span.Goals as goal

pub returns-else-area-i-ne0 : goal.returns-else-area-i-ne0
returns-else-area-i-ne0 c = search span_none

pub returns-then-area-i-ne0 : goal.returns-then-area-i-ne0
returns-then-area-i-ne0 c = search span_set
