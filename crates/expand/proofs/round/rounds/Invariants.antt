-- The loop's invariant: the rounds still to come give, and tell, what all of them do, and what the next one changes is noted (`Going`). The measure is the rounds left.
use mathlib.Core.Path.{◌≡◌}
use lib.ListN.{length}
use Rattle.rules.specs.Reasons.{rounds_tell}
use Rattle.net.specs.Table.{net_at}
use Rattle.flood.specs.Stories.{story_of}
use Rattle.expand.specs.Front.{front_of, Going}
use Rattle.expand.proofs.round.rounds.Given as goal

abbrev pub invariant-loop-lo : goal.invariant-loop-lo
invariant-loop-lo l = Going l.area l.from l.at.changes l.at.table l.fill l.most l.initial.ids l.initial.ws l.ids l.ws l.lo l.t.noted l.t.strays l.left
    × (rounds_tell (net_at l.at.table l.area l.initial.ws) l.most (front_of (length l.area) l.from l.fill l.initial.ids l.initial.ws) (story_of l.initial.told)
    ≡ rounds_tell (net_at l.at.table l.area l.initial.ws) l.left (front_of (length l.area) l.from l.fill l.ids l.ws) (story_of l.told))

abbrev pub decreases-loop-lo : goal.decreases-loop-lo
decreases-loop-lo l = l.left
