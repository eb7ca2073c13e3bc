-- The loop's invariant: what is there is what the turns so far leave (`SomeTurns`), count - left of them; each turn adds one (TurnsLaws).
use mathlib.Core.Path.{◌≡◌}
use Prim.Native.Nat.{◌-◌, ◌*◌, ◌≤◌}
use lib.ListN.{length}
use Rattle.rules.specs.Reasons.{turns_tell}
use Rattle.net.specs.Table.{net_at}
use Rattle.flood.specs.Stories.{story_of}
use Rattle.growth.specs.Turns.{begun, SomeTurns}
use Rattle.growth.proofs.turns.turns.Given as goal

abbrev pub invariant-loop-left : goal.invariant-loop-left
invariant-loop-left l = (l.left ≤ l.count) × SomeTurns l.area l.con l.dist l.at l.count l.next l.initial.ids l.initial.ws (l.count - l.left) l.id l.l.fills l.l.turn l.ids l.ws
    × (story_of l.told ≡ turns_tell (net_at l.at.table l.area l.initial.ws) l.dist (2 * l.count) (l.count - l.left) (begun (length l.area) l.initial.ids l.initial.ws l.next) (story_of l.initial.told))
