-- The trail is written over zeros (`trail_laid`).
use Rattle.rules.specs.Reasons.{trail}
use Rattle.trail.specs.Noted.{mergings_from}
use Rattle.watershed.proofs.ExplainLaws.{trail_laid}
use Rattle.watershed.proofs.explain.lay_trail.Goals as goal

pub returns : goal.returns
returns c = trail_laid (trail (mergings_from c.args.ws.now c.args.b c.args.merges) c.args.id) c.args.list.now _ _ c.clear.ensures c.write_trail.ensures.value _ c.write_trail.ensures.list_after c.requires.1
