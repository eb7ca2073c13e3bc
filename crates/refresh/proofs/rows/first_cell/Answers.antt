-- The answers that the check does not find alone.
use Rattle.refresh.proofs.Parts.{first_go, first_found, first-none}
use borrow.Author.Rules.{rules}
use native.Mathlib.Omega.{arith}
use Rattle.refresh.proofs.rows.first_cell.Goals as goal

pub loop-x-init : goal.loop-x-init
loop-x-init c = (search rules, λ t h. absurd (omega arith))

pub returns-then-count-c-ne0 : goal.returns-then-count-c-ne0
returns-then-count-c-ne0 c = search (rules, first_found)

pub loop-x-preserved : goal.loop-x-preserved
loop-x-preserved c = (search rules, search (rules, first_go))

pub returns : goal.returns
returns c = search (rules, first-none)
