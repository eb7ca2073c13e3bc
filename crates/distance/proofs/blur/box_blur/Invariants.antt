-- Invariant: the spans below s are blurred, and the others still have their cells.
-- A list stored to at each place is the rule's list.
use Prim.Native.Nat.{◌≤◌, ◌-◌}
use mathlib.Core.Path.{◌≡◌}
use lib.ListN.{length}
use Rattle.rules.specs.Base.{upto}
use Rattle.rules.specs.Rows.{blur_to}
use Rattle.field.specs.Seen.{seen}
use Rattle.distance.proofs.blur.box_blur.Given as goal

abbrev pub invariant-loop-s : goal.invariant-loop-s
invariant-loop-s l = (l.s ≤ length l.field.area.now) × (l.s-end ≡ length l.field.area.now) × (length l.blurred ≡ length l.field.area.now) × (l.blurred ≡ upto l.s (blur_to (seen l.field) l.raw) l.initial.blurred) × (length l.blurred ≡ length l.initial.blurred)

abbrev pub decreases-loop-s : goal.decreases-loop-s
decreases-loop-s l = length l.field.area.now - l.s
