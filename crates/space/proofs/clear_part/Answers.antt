-- The part is lent and comes back as zeros; nothing else changes (Laws).
use Rattle.space.proofs.Laws.{part_clear, part_frame}
use Rattle.space.proofs.clear_part.Goals as goal

pub returns : goal.returns
returns c = (part_clear _ _ _ _ c.requires.0 c.requires.1 c.clear.ensures, part_frame _ _ _ _ c.requires.0 c.requires.1 c.clear.ensures)
