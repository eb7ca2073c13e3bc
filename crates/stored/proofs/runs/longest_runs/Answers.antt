-- The answers that the check does not find alone.
use Rattle.forms.proofs.Bytes.{new_length}
use Rattle.stored.proofs.NewPlaces.{runs_below, longest-first, longest_goes, longest-stops, longest-end}
use borrow.Author.Rules.{rules}
use Rattle.stored.proofs.runs.longest_runs.Goals as goal

pub loop-j-init : goal.loop-j-init
loop-j-init c = (search (rules, new_length), search rules, search (rules, longest-first))

pub returns-then-not-record_follows : goal.returns-then-not-record_follows
returns-then-not-record_follows c = search (rules, longest-stops)

pub loop-j-preserved : goal.loop-j-preserved
loop-j-preserved c = (search rules, search (rules, runs_below), search (rules, longest_goes))

pub returns : goal.returns
returns c = search (rules, longest-end)
