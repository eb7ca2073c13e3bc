-- `watershed::regions::too_far` meets its contract: either test alone refuses, and both passed leave the rule false.
use Rattle.watershed.proofs.FarLaws.{far_most, far-any}
use Rattle.watershed.proofs.regions.too_far.Goals as goal

pub returns-then-max_distance-gt-FARTHEST : goal.returns-then-max_distance-gt-FARTHEST
returns-then-max_distance-gt-FARTHEST c = far_most _ _ c.if-max_distance-gt-FARTHEST.true

pub returns-else-max_distance-gt-FARTHEST : goal.returns-else-max_distance-gt-FARTHEST
returns-else-max_distance-gt-FARTHEST c = far-any _ _ c.if-max_distance-gt-FARTHEST.false _ c.any_above.ensures
