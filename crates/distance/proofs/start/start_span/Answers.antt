-- `start_span` is the rule's test of four counts; one that is 0 decides.
use native.Mathlib.Omega.{arith}
use mathlib.Core.Path.{sym, ◌∙◌}
use Rattle.distance.proofs.Values.{ringed_there, start_none, start_all}
use borrow.Author.Rules.{rules}
use Rattle.distance.proofs.start.start_span.Goals as goal
use Rattle.distance.proofs.start.start_span.Goals.{else-same-via-then-same+then-same-2+then-same-3+else-same-4, else-same-via-then-same+then-same-2+else-same-3, else-same-via-then-same+else-same-2, else-same-via-else-same}

pub same-requires : goal.same-requires
same-requires c = (search rules, search rules, search rules, search rules, ringed_there _ 0 c.requires.3 (omega arith))

pub same-requires-then-same : goal.same-requires-then-same
same-requires-then-same c = (search rules, search rules, search rules, search rules, ringed_there _ 1 c.requires.3 (omega arith))

pub same-requires-then-same-2 : goal.same-requires-then-same-2
same-requires-then-same-2 c = (search rules, search rules, search rules, search rules, ringed_there _ 2 c.requires.3 (omega arith))

pub same-requires-then-same-3 : goal.same-requires-then-same-3
same-requires-then-same-3 c = (search rules, search rules, search rules, search rules, ringed_there _ 3 c.requires.3 (omega arith))

pub returns-then-same-4 : goal.returns-then-same-4
returns-then-same-4 c =
    start_all _ _ (sym c.same.ensures ∙ c.if-same.true) (sym c.same-then-same.ensures ∙ c.if-same-2.true) (sym c.same-then-same-2.ensures ∙ c.if-same-3.true) (sym c.same-then-same-3.ensures ∙ c.if-same-4.true)

pub returns : goal.returns
returns c =
    elim c.else-same.branch [
      | else-same-via-then-same+then-same-2+then-same-3+else-same-4 w ↦ start_none _ _ 3 (omega arith) (sym w.same-then-same-3.ensures ∙ w.if-same-4.false)
      | else-same-via-then-same+then-same-2+else-same-3 w ↦ start_none _ _ 2 (omega arith) (sym w.same-then-same-2.ensures ∙ w.if-same-3.false)
      | else-same-via-then-same+else-same-2 w ↦ start_none _ _ 1 (omega arith) (sym w.same-then-same.ensures ∙ w.if-same-2.false)
      | else-same-via-else-same w ↦ start_none _ _ 0 (omega arith) (sym c.same.ensures ∙ w.if-same.false)
    ]
