-- `at` compares span and direction, as the rule's end of a walk does.
-- Another span answers at once.
use Rattle.contour.proofs.EdgeLaws.{back_no, back_dir}
use borrow.Author.Rules.{rules}
use Rattle.contour.proofs.walker.Walker.at.Goals as goal

pub returns-then-self-span : goal.returns-then-self-span
returns-then-self-span c = search (rules, back_dir)

pub returns-else-self-span : goal.returns-else-self-span
returns-else-self-span c = search (rules, back_no)
