-- `cell_ok` is the rule's test of one cell, test by test.
use borrow.Author.Tests.{lt-leb, le-leb, eq-eqb, ne_eqb}
use Rattle.rules.specs.Base.{◌and◌, ◌or◌}
use borrow.Author.Rules.{rules}
use Rattle.checker.proofs.cells.cell_ok.Goals as goal

pub returns-then-count-eq0 : goal.returns-then-count-eq0
unfolding ◌and◌ ◌or◌
returns-then-count-eq0 c = search (rules, le-leb, eq-eqb)

pub returns-else-count-eq0 : goal.returns-else-count-eq0
unfolding ◌and◌ ◌or◌
returns-else-count-eq0 c = search (rules, le-leb, ne_eqb)

pub returns-else-count-le-MOST_LAYERS : goal.returns-else-count-le-MOST_LAYERS
unfolding ◌and◌ ◌or◌
returns-else-count-le-MOST_LAYERS c = search (rules, lt-leb)
