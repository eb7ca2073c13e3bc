-- `answer::answer` meets its contract: the two arms are the two cases of the rule's reading.
use native.Mathlib.Omega.{arith}
use Rattle.file.proofs.Told.{few_of}
use Rattle.answer.proofs.Printed.{file_refused, file_described}
use borrow.Author.Rules.{rules}
use Rattle.answer.proofs.answer.Goals as goal

pub print_first-requires : goal.print_first-requires
print_first-requires c = (
  record {
    cells₁ = omega (arith, c.read_file.auto.index, c.requires.0.cells₁);
    cells₂ = omega (arith, c.read_file.auto.count, c.requires.0.cells₂);
    spans₁ = omega (arith, c.read_file.auto.area, c.requires.0.spans₁);
    spans₂ = omega (arith, c.read_file.auto.con, c.requires.0.spans₂);
  },
  c.requires.1,
  few_of _ c.read_file.ensures.few _ c.in-Ok.is,
)

pub returns-in-Err : goal.returns-in-Err
returns-in-Err c = search (rules, file_refused)

pub returns-in-Ok : goal.returns-in-Ok
returns-in-Ok c = search (rules, file_described)
