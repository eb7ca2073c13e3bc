-- `bytes::put` meets its contract: a store past the end is none, in the rule too.
use mathlib.Core.Path.{sym}
use lib.Seq.{set_out}
use Rattle.load.proofs.bytes.put.Goals as goal

pub returns-else-i-list : goal.returns-else-i-list
returns-else-i-list g c = sym (set_out _ _ _ c.if-i-list.false)
