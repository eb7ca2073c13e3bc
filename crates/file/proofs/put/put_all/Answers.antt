-- `put::put_all` meets its contract: a text copied over a part of its length is written there.
use native.Mathlib.Omega.{arith}
use Rattle.file.proofs.Writing.{copied}
use Rattle.file.proofs.put.put_all.Goals as goal

pub returns : goal.returns
returns c = copied _ _ _ _ _ c.copy_from_slice.ensures.after (omega arith)
