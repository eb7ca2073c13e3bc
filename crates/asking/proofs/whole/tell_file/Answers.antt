-- What a file describes fits the lists, whose lengths the reading keeps.
use borrow.Author.Rules.{rules}
use Rattle.file.proofs.Told.{few_of}
use Rattle.asking.proofs.whole.tell_file.Goals as goal

pub tell_first-requires : goal.tell_first-requires
tell_first-requires g c = (record { cells₁ = search rules; cells₂ = search rules; spans₁ = search rules; spans₂ = search rules }, search (rules, few_of))
