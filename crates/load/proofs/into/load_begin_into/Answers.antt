-- `into::load_begin_into` meets its contract: with 17 places the outcome, otherwise 3.
use Rattle.load.proofs.Stored.{begin_3, begin_given}
use borrow.Author.Rules.{rules}
use Rattle.load.proofs.into.load_begin_into.Goals as goal

pub returns-then-loader-ne-NUMBERS : goal.returns-then-loader-ne-NUMBERS
returns-then-loader-ne-NUMBERS c = record {
  given = search begin_3;
  limits = search rules;
}

pub returns : goal.returns
returns c = record {
  given = search begin_given;
  limits = search rules;
}
