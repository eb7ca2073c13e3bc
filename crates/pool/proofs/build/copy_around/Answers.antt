-- `pool::build::copy_around` meets its contract. Two copies, one after the other: `around_3`.
use Rattle.pool.proofs.PartLaws.{around_3, around_4}
use borrow.Author.Rules.{rules}
use Rattle.pool.proofs.build.copy_around.Goals as goal

pub returns : goal.returns
returns c = record {
  ws_after = search around_3;
  result_value = (search rules, search around_4);
}
