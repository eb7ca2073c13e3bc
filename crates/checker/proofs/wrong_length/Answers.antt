-- The checker's verdict, with lists that are one too long.
use Rattle.checker.proofs.Lengths.{long_refused, long_sound}
use borrow.Author.Rules.{rules}
use Rattle.checker.proofs.wrong_length.Goals as goal

pub returns-in-Err : goal.returns-in-Err
returns-in-Err c = search (rules, long_refused)

pub returns-in-Ok : goal.returns-in-Ok
returns-in-Ok c = search (rules, long_sound)
