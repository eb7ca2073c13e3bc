-- Each half has fewer merges, which is the measure.
use Rattle.trail.proofs.+follow.Given as goal

abbrev pub decreases-follow : goal.decreases-follow
decreases-follow l = l.left
