-- `pool::bearers::hand_over` meets its contract. Straight line: the ids of i's row, then the row's place (`joined_rows`).
use Rattle.pool.proofs.BearerLaws.{joined_rows}
use Rattle.pool.proofs.bearers.hand_over.Goals as goal

pub returns : goal.returns
returns c = search joined_rows
