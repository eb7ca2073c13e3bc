-- Each end is the outcome (Ends): the refusal of a full read, no room, written.
use Rattle.stored.proofs.Ends.{fits_room, unpack_refused, unpack_fine, unpack_full, unpack_done}
use borrow.Author.Rules.{rules}
use Rattle.stored.proofs.unpack.Goals as goal

pub returns-in_err-check : goal.returns-in_err-check
returns-in_err-check c = search (rules, unpack_refused)

pub unpack_fits-requires : goal.unpack_fits-requires
unpack_fits-requires c = search (rules, unpack_fine)

pub returns-then-not-unpack_fits : goal.returns-then-not-unpack_fits
returns-then-not-unpack_fits c = search (rules, unpack_full)

pub write_spans-requires : goal.write_spans-requires
write_spans-requires c = (search (rules, unpack_fine), search (rules, fits_room))

pub returns : goal.returns
returns c = unpack_done _ _ _ c.check.ensures _ _ _ c.in_ok-check.was c.unpack_fits.ensures c.if-not-unpack_fits.false c.write_spans.ensures
