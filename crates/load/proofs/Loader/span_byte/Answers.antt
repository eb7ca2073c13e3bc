-- `Loader::span_byte` meets its contract: the first byte is the area, the others are connections.
-- Its promise holds for any cells, which it is not lent.
use mathlib.Core.Path.{◌∙◌}
use Rattle.load.proofs.Ways.{span_area, span_con}
use Rattle.load.proofs.Loader.span_byte.Goals as goal
use Rattle.load.proofs.Loader.span_byte.Goals.{then-self-eq0, else-self-eq0}

pub returns : goal.returns
returns c =
    elim c.if-self-eq0.branch [
      | then-self-eq0 w ↦ span_area _ _ _ _ _ _ _ w.if-self-eq0.true c.span_on.ensures (w.area-is ∙ w.put.ensures) w.con-is
      | else-self-eq0 w ↦ span_con _ _ _ _ _ _ _ w.if-self-eq0.false c.span_on.ensures w.area-is (w.con-is ∙ w.put-else-self-eq0.ensures)
    ]
