-- The entry's answer is the outcome, and its numbers are taken apart unchanged.
use Rattle.gussetraft.proofs.Apart.{gives_stages}
use Rattle.gussetraft.proofs.gussetraft_build_distance_stages.Goals as goal

pub returns : goal.returns
returns c = rw (← c.lend-field.ensures) (search gives_stages)
