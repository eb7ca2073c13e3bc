-- The answers that the check does not find alone.
use borrow.Author.Rules.{rules}
use Prim.Native.Nat.{◌-◌}
use Rattle.levels.proofs.LevelLaws.{moved_part}
use Rattle.levels.proofs.AppendLaws.{append-start, append_room, append-span, append_more, append_done, append_stacked}
use Rattle.levels.proofs.append_stacks.Goals as goal

pub loop-i-init : goal.loop-i-init
loop-i-init c = (search rules, search append-start, c.requires.stack_part.1.most (c.args.j - 1))

pub append_one-requires : goal.append_one-requires
append_one-requires c = record {
  stack_part = (search moved_part, search rules, search rules, search rules);
  j_in_bounds = (search append_room, search rules);
  entry = search append-span;
}

pub loop-i-preserved : goal.loop-i-preserved
loop-i-preserved c = (search rules, search append_more, search rules)

pub returns : goal.returns
returns c = record {
  fills_after = search append_done;
  kept = search rules;
  fact = search append_stacked;
  turn_value = search rules;
}
