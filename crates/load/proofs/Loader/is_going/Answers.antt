-- `Loader::is_going` meets its contract: the two tests are the rule's.
use borrow.Author.Tests.{eq-eqb, ne_eqb}
use Rattle.rules.specs.Base.{◌and◌}
use Rattle.rules.specs.Load.{going}
use Rattle.load.proofs.Loader.is_going.Goals as goal

pub returns-then-self-eq0 : goal.returns-then-self-eq0
unfolding going ◌and◌
returns-then-self-eq0 c = rw (eq-eqb c.args.self.refusal 0 c.if-self-eq0.true)

pub returns-else-self-eq0 : goal.returns-else-self-eq0
unfolding going ◌and◌
returns-else-self-eq0 c = rw (ne_eqb c.args.self.refusal 0 c.if-self-eq0.false)
