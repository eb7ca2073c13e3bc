-- Each branch is one of the four tests.
use Rattle.refresh.proofs.Entries.{rect_empty, rect_wide, rect_deep}
use Rattle.refresh.proofs.wrong_rect.Goals as goal

pub returns-then-x1-x0 : goal.returns-then-x1-x0
returns-then-x1-x0 c = rect_empty _ _ _ _ _ c.then-x1-x0.either

pub returns-then-field-x1 : goal.returns-then-field-x1
returns-then-field-x1 c = rect_wide _ _ _ _ _ c.if-x1-x0.false c.if-z1-z0.false c.if-field-x1.true

pub returns-else-field-x1 : goal.returns-else-field-x1
returns-else-field-x1 c = rect_deep _ _ _ _ _ c.if-x1-x0.false c.if-z1-z0.false c.if-field-x1.false
