-- `pool::rename::rename_list` meets its contract. By cases on whether the list's end has moved.
use Rattle.pool.proofs.RenameLaws.{renamed-same, renamed_less}
use Rattle.pool.proofs.rename.rename_list.Goals as goal

pub returns-then-left-end : goal.returns-then-left-end
returns-then-left-end c = search renamed_less

pub returns-else-left-end : goal.returns-else-left-end
returns-else-left-end c = search renamed-same
