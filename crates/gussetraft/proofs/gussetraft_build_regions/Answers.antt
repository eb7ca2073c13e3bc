-- The entry's answer is the outcome, and its numbers are taken apart unchanged.
use Rattle.gussetraft.proofs.Apart.{gives-regions, leaves_rooms}
use Rattle.gussetraft.proofs.gussetraft_build_regions.Goals as goal

pub returns : goal.returns
returns c = record {
  fact = rw (← c.lend-field.ensures) (gives-regions _ _ _ _ _ c.build_regions-answer.ensures.fact c.region_numbers.ensures.0 c.region_numbers.ensures.1 c.region_numbers.ensures.2 c.region_numbers.ensures.3);
  rooms = rw (← c.lend-field.ensures) (leaves_rooms _ _ _ _ _ _ c.build_regions-answer.ensures.rooms c.region_numbers.ensures.0 c.region_numbers.ensures.1);
}
