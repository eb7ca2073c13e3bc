-- `pool::rename::rename_one` meets its contract. By cases: a dead record's list stays, i and n are passed by.
use Rattle.pool.proofs.RenameLaws.{passed_dead, passed_i, passed_n}
use Rattle.pool.proofs.rename.rename_one.Goals as goal
use Rattle.pool.proofs.rename.rename_one.Goals.{else-ws-x-ne-DEAD-via-then-ws-x-ne-DEAD+then-x-pair+else-x-pair-2, else-ws-x-ne-DEAD-via-then-ws-x-ne-DEAD+else-x-pair, else-ws-x-ne-DEAD-via-else-ws-x-ne-DEAD}

pub returns-else-ws-x-ne-DEAD : goal.returns-else-ws-x-ne-DEAD
returns-else-ws-x-ne-DEAD c =
    elim c.else-ws-x-ne-DEAD.branch [
      | else-ws-x-ne-DEAD-via-then-ws-x-ne-DEAD+then-x-pair+else-x-pair-2 w ↦ search passed_n
      | else-ws-x-ne-DEAD-via-then-ws-x-ne-DEAD+else-x-pair w ↦ search passed_i
      | else-ws-x-ne-DEAD-via-else-ws-x-ne-DEAD w ↦ search passed_dead
    ]
