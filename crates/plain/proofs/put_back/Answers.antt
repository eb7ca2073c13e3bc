-- The part that is lent is the section (Stages).
use mathlib.Core.Path.{refl}
use lib.ListN.{length}
use Rattle.plain.proofs.Stages.{part_is}
use Rattle.plain.proofs.put_back.Goals as goal

pub returns : goal.returns
returns c = part_is c.args.kept (length c.args.ids.now) _ c.args.ws.now _ refl c.copy.ensures
