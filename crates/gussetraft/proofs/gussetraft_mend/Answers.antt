-- The entry's answer is the outcome, and its numbers are taken apart unchanged.
use Rattle.gussetraft.proofs.Apart.{gives_mending}
use Rattle.gussetraft.proofs.gussetraft_mend.Goals as goal

pub returns : goal.returns
returns c = search gives_mending
