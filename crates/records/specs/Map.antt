-- Where the records lie is the map of crate `table`; past them stands the table of neighbours.
use Rattle.contour.specs.declared.walk.Pool.{Pool}
use Rattle.table.specs.Map.{pool_at}
use Rattle.records.specs.declared.grow.Plan.{Plan}

-- the pool, and the table of neighbours
abbrev pub pool_in : Plan → Pool
pool_in plan = record { at = pool_at plan.records; table = plan.table }
