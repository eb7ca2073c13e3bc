-- `write::write_listing` meets its contract: the first line and then the rows are the rule's listing.
-- There is room for both, by `Bounds.antt`.
use Rattle.file.proofs.Bounds.{listing-first, listing_rows, listing-filled, listing_done}
use Rattle.file.proofs.write.write_listing.Goals as goal

pub put_heading-next-requires : goal.put_heading-next-requires
put_heading-next-requires c = search listing-first

pub invariant_of-grid : goal.invariant_of-grid
invariant_of-grid c = search listing-filled

pub put_rows-requires : goal.put_rows-requires
put_rows-requires c = search listing_rows

pub returns : goal.returns
returns c = search listing_done
