-- The invariant: `Joining`, what is left of the cell's spans joins the list so far, to the end that all of them join to; and the span's id
-- was met so far or is met in what is left, as it is in all. What was listed stays listed, so of a near span the layers that did not change have no effect.
use Prim.Native.Nat.{◌+◌, ◌-◌}
use mathlib.Core.Path.{◌≡◌}
use Rattle.rules.specs.Base.{◌or◌}
use Rattle.records.specs.Cell.{twins, Joining}
use Rattle.records.proofs.cell.join.Given as goal

abbrev pub invariant-loop-j : goal.invariant-loop-j
invariant-loop-j l = (Joining l.ids l.initial.part l.span.0 l.cell.from l.cell.size l.len l.part l.l.len l.j)
    × (l.twin or twins l.ids l.span.0 l.own (l.cell.size - l.j) (l.cell.from + l.j) ≡ twins l.ids l.span.0 l.own l.cell.size l.cell.from)
