-- Two parts are one list where they are the same place by place, as the rule has it.
use Rattle.refresh.proofs.Parts.{same_whole}
use Rattle.refresh.proofs.rows.same_part.Goals as goal

pub returns : goal.returns
returns c = same_whole _ _ _ _ c.requires.1 c.requires.2 _ c.eq.ensures
