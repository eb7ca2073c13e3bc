-- Each end is the refusal (Ends): malformed, not the longest runs, a wrong number, none.
use Rattle.stored.proofs.Ends.{test_true, check_malformed, check_shorter, check_wrong, check_fine}
use borrow.Author.Rules.{rules}
use Rattle.stored.proofs.check.Goals as goal

pub returns-then-not-new_fine : goal.returns-then-not-new_fine
returns-then-not-new_fine c = search (rules, check_malformed)

pub longest_runs-requires : goal.longest_runs-requires
longest_runs-requires c = search (rules, test_true)

pub returns-then-not-longest_runs : goal.returns-then-not-longest_runs
returns-then-not-longest_runs c = search (rules, check_shorter)

pub numbers_right-requires : goal.numbers_right-requires
numbers_right-requires c = search (rules, test_true)

pub returns-then-not-numbers_right : goal.returns-then-not-numbers_right
returns-then-not-numbers_right c = search (rules, check_wrong)

pub returns : goal.returns
returns c = search (rules, check_fine)
