-- The two cases of the reading are the rule's; the field that was read is no larger than a file may have it.
use Rattle.file.proofs.Told.{few_of}
use Rattle.mending.proofs.Files.{file_refused, file_described}
use borrow.Author.Rules.{rules}
use Rattle.mending.proofs.whole.mend_file.Goals as goal

pub mend_first-requires : goal.mend_first-requires
mend_first-requires c = (record { cells₁ = search rules; cells₂ = search rules; spans₁ = search rules; spans₂ = search rules }, search (rules, few_of), search rules)

pub returns-in-Err : goal.returns-in-Err
returns-in-Err c = record {
  bytes_after = search (rules, file_refused);
  placed = search rules;
}

pub returns-in-Ok : goal.returns-in-Ok
returns-in-Ok c = record {
  bytes_after = search (rules, file_described);
  placed = search rules;
}
