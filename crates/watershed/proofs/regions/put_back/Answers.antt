-- The part that is lent is the section (StageLaws).
use mathlib.Core.Path.{refl}
use lib.ListN.{length}
use Rattle.watershed.proofs.StageLaws.{part_is}
use Rattle.watershed.proofs.regions.put_back.Goals as goal

pub returns : goal.returns
returns c = part_is c.args.kept (length c.args.ids.now) _ c.args.ws.now _ refl c.copy.ensures
