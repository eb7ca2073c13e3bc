-- The records lie in the part that is lent, and come back in it (`built_in`).
use mathlib.Core.Path.{sym}
use Rattle.merge.proofs.ToldLaws.{part_length}
use Rattle.watershed.proofs.ExplainLaws.{built_in}
use Rattle.watershed.proofs.explain.build_in.Goals as goal

pub slice_bounds-build_records-end-2 : goal.slice_bounds-build_records-end-2
slice_bounds-build_records-end-2 c = sym (part_length _ _ c.requires.0)

pub returns : goal.returns
returns c = built_in _ _ _ _ _ _ c.requires.0 c.build_records.auto.ws c.build_records.ensures
