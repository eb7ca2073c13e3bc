-- The answers that the check does not find alone.
use Rattle.distance.proofs.Values.{span_layers, ringed-at}
use Rattle.distance.proofs.Walks.{run-first}
use Rattle.distance.proofs.Bounds.{edge_run, edge_go}
use borrow.Author.Rules.{rules}
use Rattle.distance.proofs.pass.edges.Goals as goal

pub loop-k-init : goal.loop-k-init
loop-k-init c = (search (rules, run-first), search rules)

pub surrounded-requires : goal.surrounded-requires
surrounded-requires c = search (rules, span_layers)

pub returns-then-surrounded : goal.returns-then-surrounded
returns-then-surrounded c =
    (c.loop-k.invariant.0, c.loop-k.invariant.1, search rules, (c.loop-k-test.true, ringed-at _ _ _ c.connections-cons.ensures _ c.surrounded.ensures c.if-surrounded.true))

pub loop-k-preserved : goal.loop-k-preserved
loop-k-preserved c = (
  edge_run _ _ _ _ _ _ _ _ c.requires.0 c.loop-k.invariant.1 c.loop-k-test.true _ c.connections-cons.ensures _ c.surrounded.ensures c.if-surrounded.false c.codes_are_bytes.ensures _ _ c.loop-k.auto.k c.loop-k.invariant.0,
  edge_go _ _ _ _ _ _ _ _ c.requires.0 c.loop-k.invariant.1 c.loop-k-test.true _ c.connections-cons.ensures _ c.surrounded.ensures c.if-surrounded.false c.codes_are_bytes.ensures,
)
