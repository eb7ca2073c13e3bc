-- Zeros where growth worked, and zeros from there to the floors (StageLaws).
use native.Mathlib.Omega.{arith}
use Rattle.watershed.proofs.StageLaws.{readied_more, readied_none}
use Rattle.watershed.proofs.regions.ready_records.Goals as goal

pub returns-then-from-to : goal.returns-then-from-to
returns-then-from-to c = readied_more _ _ _ _ c.requires.4 (rw c.floors_from-to.ensures at c.clear_part.ensures).0 (rw c.floors_from-to.ensures at c.clear_part.ensures).1

pub returns-else-from-to : goal.returns-else-from-to
returns-else-from-to c = readied_none _ _ _ c.requires.4 (omega (arith, c.if-from-to.false, c.floors_from-to.ensures))
