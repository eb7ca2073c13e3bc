-- The loop's invariant: floods from the entries from j on give what floods from all give (`FloodedTo`).
use Rattle.flood.specs.Stories.{story_of}
use Rattle.growth.proofs.FloodLaws.{FloodedTo, FloodsTold}
use Rattle.growth.proofs.floods.flood_all.Given as goal

abbrev pub invariant-loop-j : goal.invariant-loop-j
invariant-loop-j l = FloodedTo l.area l.dist l.at.table l.stack.at l.stack.fill l.level l.next l.initial.ids l.initial.ws l.ids l.ws l.j l.f.next
    × FloodsTold l.area l.dist l.at.table l.stack.at l.stack.fill l.level l.next l.initial.ids l.initial.ws (story_of l.initial.f.story) l.ids l.ws l.j l.f.next (story_of l.f.story)
