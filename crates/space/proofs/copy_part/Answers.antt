-- The part is lent and comes back as the list; nothing else changes (Laws).
use mathlib.Core.Path.{refl}
use Rattle.space.proofs.Laws.{put-part, put_frame}
use Rattle.space.proofs.copy_part.Goals as goal

pub returns : goal.returns
returns c = (put-part _ _ _ _ _ refl c.requires c.copy.ensures, put_frame _ _ _ _ _ refl c.requires c.copy.ensures)
