-- What a file describes fits the lists, whose lengths the reading keeps.
use borrow.Author.Rules.{rules}
use Rattle.file.proofs.Told.{few_of}
use Rattle.measuring.proofs.whole.print_file.Goals as goal

pub print_first-requires : goal.print_first-requires
print_first-requires g c = (record { cells₁ = search rules; cells₂ = search rules; spans₁ = search rules; spans₂ = search rules }, search (rules, few_of))
