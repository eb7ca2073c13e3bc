-- The answers that the check does not find alone.
use mathlib.Core.Path.{refl}
use Rattle.rules.specs.Base.{upto}
use Rattle.distance.proofs.Walks.{row_fits, column_fits, column_in, column_indexed, cell-end}
use Rattle.distance.proofs.Bounds.{layer_stood, room_left, room_up, passing_in, start_go, passing_go, layers_go, passing_end}
use borrow.Author.Rules.{rules}
use native.Mathlib.Omega.{arith}
use Rattle.distance.proofs.pass.pass1_cell.Goals as goal

pub overflow_mul-c : goal.overflow_mul-c
overflow_mul-c c = search (rules, row_fits)

pub overflow_add-c : goal.overflow_add-c
overflow_add-c c = search (rules, column_fits)

pub bounds-field-c : goal.bounds-field-c
bounds-field-c c = search (rules, column_indexed)

pub bounds-field-c-2 : goal.bounds-field-c-2
bounds-field-c-2 c = search (rules, column_in)

pub loop-j-init : goal.loop-j-init
unfolding upto
loop-j-init c = (search rules, search rules, search rules, search rules, λ t h. absurd (omega arith))

pub from_start-requires : goal.from_start-requires
from_start-requires c = (search rules, search (rules, layer_stood), search (rules, room_left), search (rules, room_up))

pub bounds-raw-s : goal.bounds-raw-s
bounds-raw-s c = search (rules, passing_in)

pub loop-j-preserved : goal.loop-j-preserved
loop-j-preserved c = (search rules, search rules, start_go _ _ _ _ _ _ _ _ _ _ _ c.requires.0 refl refl c.loop-j-test.true _ _ c.loop-j.invariant.1 c.requires.1 c.loop-j.invariant.3 _ c.from_start.ensures _ c.loop-j.invariant.2, passing_go _ _ _ _ _ _ _ _ _ _ _ c.requires.0 refl refl c.loop-j-test.true _ _ c.loop-j.invariant.1 c.requires.1 c.loop-j.invariant.3 _ c.from_start.ensures, layers_go _ _ _ _ _ _ _ _ _ _ _ c.requires.0 refl refl c.loop-j-test.true _ _ c.loop-j.invariant.1 c.requires.1 c.loop-j.invariant.3 _ c.from_start.ensures c.codes_are_bytes.ensures c.loop-j.invariant.4)

pub returns : goal.returns
returns c = (cell-end _ _ _ _ _ _ _ _ refl refl c.loop-j.invariant.2 c.loop-j.invariant.0 (omega arith), passing_end _ _ _ _ _ _ _ _ _ _ _ c.requires.0 refl refl (omega arith) _ _ c.loop-j.invariant.1 c.loop-j.invariant.3 c.loop-j.invariant.4)
