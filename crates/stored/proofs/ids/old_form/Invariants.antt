-- The loop's invariant: the records of the spans left, written from here on, give what the whole gives.
-- Each turn writes the record of a span.
use lib.ListN.{drop}
use Rattle.rules.specs.Stored.{old_bytes}
use Rattle.stored.proofs.Fits.{Writes}
use Rattle.stored.proofs.ids.old_form.Given as goal

abbrev pub invariant-loop-id : goal.invariant-loop-id
invariant-loop-id l = Writes l.initial.out (old_bytes l.ids) l.at (old_bytes (drop l.id-index l.ids)) l.out
