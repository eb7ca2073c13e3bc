-- `into::load_end_into` meets its contract: with 17 places the outcome, otherwise 3.
use Rattle.load.proofs.Stored.{end_3, end_given}
use Rattle.load.proofs.into.load_end_into.Goals as goal

pub returns-then-loader-ne-NUMBERS : goal.returns-then-loader-ne-NUMBERS
returns-then-loader-ne-NUMBERS c = search end_3

pub returns : goal.returns
returns c = search end_given
