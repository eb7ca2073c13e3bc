-- `put::put` meets its contract: a store at a place is a text of one byte written there.
use Rattle.file.proofs.Writing.{written_byte}
use borrow.Author.Rules.{rules}
use Rattle.file.proofs.put.put.Goals as goal

pub returns : goal.returns
returns c = search (rules, written_byte)
