-- The span has the id, or not (WalkLaws).
use Rattle.sizes.proofs.WalkLaws.{note_has, note_not}
use borrow.Author.Rules.{rules}
use Rattle.sizes.proofs.walk.note.Goals as goal

pub returns-then-ids-s : goal.returns-then-ids-s
returns-then-ids-s c = search (rules, note_has)

pub returns : goal.returns
returns c = search (rules, note_not)
