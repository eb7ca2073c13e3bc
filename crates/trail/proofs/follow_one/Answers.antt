-- The merge is the id's own or not (Steps).
use borrow.Author.Rules.{rules}
use Rattle.trail.proofs.Steps.{follow_miss, follow_hit, hit_room}
use Rattle.trail.proofs.follow_one.Goals as goal

pub returns-then-ws-b : goal.returns-then-ws-b
returns-then-ws-b c = search (rules, follow_miss)

pub bounds-list-s : goal.bounds-list-s
bounds-list-s c = search (rules, hit_room)

pub returns : goal.returns
returns c = search (rules, follow_hit, hit_room)
