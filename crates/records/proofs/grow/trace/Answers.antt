-- `trace` leaves the rule's traced list in the pool: the contour from the first solid direction, or nothing.
-- The pool has zeros from top on. No contour is not cut short.
use Rattle.contour.proofs.PoolLaws.{start_con, start-at}
use Rattle.records.proofs.TraceLaws.{trace_dir, trace_at, trace_cut_at, trace_none, trace_cut_none}
use borrow.Author.Rules.{rules}
use Rattle.records.proofs.grow.trace.Goals as goal

pub connections-cons-requires : goal.connections-cons-requires
connections-cons-requires c = search (rules, start_con)

pub first_solid-requires : goal.first_solid-requires
first_solid-requires c = start-at _ _ _ _ _ _ c.requires _ c.connections-cons.ensures

pub walk_contour-requires : goal.walk_contour-requires
walk_contour-requires c = (c.requires, trace_dir _ _ _ _ _ _ c.requires _ c.in-Some.ensures)

pub returns-in-Some : goal.returns-in-Some
returns-in-Some c = record {
  fact = trace_at _ _ _ _ _ _ c.requires _ c.in-Some.ensures _ _ c.walk_contour.ensures.ws_after c.walk_contour.ensures.end_value;
  cut_value = trace_cut_at _ _ _ _ _ _ c.requires _ c.in-Some.ensures _ c.walk_contour.ensures.cut_value;
}

pub returns-in-None : goal.returns-in-None
returns-in-None c = record {
  fact = trace_none _ _ _ _ _ _ c.requires c.in-None.ensures;
  cut_value = trace_cut_none _ _ _ _ _ _ c.requires c.in-None.ensures;
}
