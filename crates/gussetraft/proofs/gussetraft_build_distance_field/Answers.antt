-- The entry's answer is the outcome, and its numbers are taken apart unchanged; what they mean is read off the entry's promise.
use Rattle.gussetraft.proofs.Apart.{gives_distances, leaves_distances}
use Rattle.gussetraft.proofs.gussetraft_build_distance_field.Goals as goal

pub returns : goal.returns
returns c = record {
  fact = rw (← c.lend-field.ensures) (gives_distances _ _ _ _ _ c.build_distance_field.ensures.fact c.numbers.ensures.0 c.numbers.ensures.1);
  meaning = rw (← c.lend-field.ensures) (leaves_distances _ _ _ _ _ c.build_distance_field.ensures.meaning c.numbers.ensures.0 c.numbers.ensures.1);
}
