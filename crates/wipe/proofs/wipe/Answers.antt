-- The answers that the check does not find alone.
use Prim.Native.Nat.{◌+◌}
use lib.ListN.{length}
use Rattle.wipe.proofs.Wiped.{wiped_start, wiped_block, wiped_all}
use native.Mathlib.Omega.{arith}
use Rattle.wipe.proofs.wipe.Goals as goal

pub loop-ws-init : goal.loop-ws-init
loop-ws-init c = wiped_start _

pub loop-ws-preserved : goal.loop-ws-preserved
loop-ws-preserved c = let w = c.loop-ws in
    wiped_block _ w.ws _ w.i (w.i + 2048) w.invariant (omega arith) (omega arith) c.wipe_block.ensures

pub returns : goal.returns
returns c = let w = c.loop-ws in
    wiped_all _ _ _ (wiped_block _ w.ws _ w.i (length w.ws) w.invariant (omega (arith, w.invariant.low)) (omega arith) c.wipe_block-2.ensures) w.invariant.size
