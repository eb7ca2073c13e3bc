-- Each end is the outcome (Ends): malformed, a number that does not fit, no room, written.
use Rattle.stored.proofs.Ends.{test_true, fits_room, pack_malformed, pack_unmarked, pack_full, pack_done}
use borrow.Author.Rules.{rules}
use Rattle.stored.proofs.pack.Goals as goal

pub returns-then-not-old_fine : goal.returns-then-not-old_fine
returns-then-not-old_fine c = search (rules, pack_malformed)

pub marks_fit-requires : goal.marks_fit-requires
marks_fit-requires c = search (rules, test_true)

pub returns-then-not-marks_fit : goal.returns-then-not-marks_fit
returns-then-not-marks_fit c = search (rules, pack_unmarked)

pub pack_fits-requires : goal.pack_fits-requires
pack_fits-requires c = search (rules, test_true)

pub returns-then-not-pack_fits : goal.returns-then-not-pack_fits
returns-then-not-pack_fits c = search (rules, pack_full)

pub write_runs-requires : goal.write_runs-requires
write_runs-requires c = (search (rules, test_true), search (rules, fits_room))

pub returns : goal.returns
returns c = search (rules, pack_done)
