-- What is copied whole is copied place by place, as the rule has it.
use Rattle.refresh.proofs.Parts.{copied_whole}
use Rattle.refresh.proofs.rows.copy_part.Goals as goal

pub returns : goal.returns
returns c = copied_whole _ _ _ _ _ c.requires.0 c.requires.1 c.requires.2 c.copy.ensures
