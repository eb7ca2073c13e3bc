-- The lower byte stands first.
use Rattle.rules.specs.File.{word}
use borrow.Author.Rules.{rules}
use Rattle.stored.proofs.bytes.word.Goals as goal

pub returns : goal.returns
unfolding word
returns c = search rules
