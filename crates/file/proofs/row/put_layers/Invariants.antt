-- `row::put_layers` meets its contract. The loop's invariant is `Underway`: the layers that are left, written from here on, give what the whole cell gives.
-- Each turn writes the first of those that are left.
use Rattle.file.specs.Shown.{layers_text, leds, layer_text}
use Rattle.file.proofs.Joins.{Underway}
use Prim.Native.Nat.{◌-◌}
use lib.ListN.{length}
use Rattle.file.proofs.row.put_layers.Given as goal

abbrev pub invariant-loop-j : goal.invariant-loop-j
invariant-loop-j l = Underway l.initial.out l.at (layers_text l.layers 0 (length l.layers)) l.out l.next (leds 47 (length l.layers - l.j) l.j (layer_text l.layers 0))
