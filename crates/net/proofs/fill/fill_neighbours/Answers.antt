-- The answers that the check does not find alone.
use Prim.Native.Nat.{◌≤◌, ◌*◌}
use Rattle.field.specs.Seen.{seen}
use Rattle.field.proofs.Places.{first_of}
use Rattle.net.specs.Fill.{filled}
use Rattle.net.proofs.Fills.{block_more, filled_size, filled_room, table_filled, rest_kept}
use native.Mathlib.Omega.{arith}
use borrow.Author.Rules.{rules}
use Rattle.net.proofs.fill.fill_neighbours.Goals as goal

pub loop-c-init : goal.loop-c-init
unfolding filled first_of
loop-c-init c = search rules

pub fill_block-requires : goal.fill_block-requires
fill_block-requires c = record {
  reached = (search rules, search rules);
  k_bound = (search rules, search (rules, filled_room));
}

pub loop-c-preserved : goal.loop-c-preserved
loop-c-preserved c = (search rules, search rules, search (rules, block_more))

pub shape_of-ws : goal.shape_of-ws
shape_of-ws c = search (rules, filled_size)

pub returns : goal.returns
returns c = let a = c.args in
    let F = seen a.field.now in
    let v = c.loop-c.invariant in
    let all : F.w * F.h ≤ c.loop-c.c = omega (arith, v.1, c.loop-c-test.false) in
    record {
      ws_after = table_filled F c.requires.reached.celled _ _ _ _ v.2 v.0 all c.requires.table_le_last_place.1;
      frame = rest_kept F c.requires.reached.celled _ _ _ _ v.2 v.0 all;
    }
