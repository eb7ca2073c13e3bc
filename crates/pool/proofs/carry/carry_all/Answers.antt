-- The answers that the check does not find alone.
use Rattle.pool.proofs.CarryLaws.{carry_source, carry_go}
use Rattle.pool.proofs.carry.carry_all.Goals as goal

pub carry_next-e-requires : goal.carry_next-e-requires
carry_next-e-requires c = search carry_source

pub loop-x-preserved : goal.loop-x-preserved
loop-x-preserved c = search carry_go
