-- A length that no file has. What the stretch gives is found by `id_read`.
use Rattle.stored.proofs.Halving.{id_odd}
use borrow.Author.Rules.{rules}
use Rattle.stored.proofs.id.id_at.Goals as goal

pub returns-then-file-ne1 : goal.returns-then-file-ne1
returns-then-file-ne1 c = search (rules, id_odd)
