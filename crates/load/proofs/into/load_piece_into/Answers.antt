-- `into::load_piece_into` meets its contract: with 17 places the outcome, otherwise 3.
use Rattle.load.proofs.Stored.{piece_3, piece_taken, piece_short}
use mathlib.Core.Path.{refl}
use native.Mathlib.Omega.{arith}
use Rattle.load.proofs.into.load_piece_into.Goals as goal

pub returns-then-loader-ne-NUMBERS : goal.returns-then-loader-ne-NUMBERS
returns-then-loader-ne-NUMBERS c = record {
  fact = search piece_3;
  bytes = record { small = (λ i. omega (arith, c.type_inv.piece i)) };
}

pub returns-in-Ok-clause-fact : goal.returns-in-Ok-clause-fact
returns-in-Ok-clause-fact c =
    piece_taken _ _ _ _ _ _ _ _ _ _ _ _ c.if-loader-ne-NUMBERS.false _ c.read.ensures _ c.in-Ok.ensures c.put.ensures.refusal_value.0 c.put.ensures.refusal_value.1
    c.put.ensures.to_after

pub returns-in-Err-clause-fact : goal.returns-in-Err-clause-fact
returns-in-Err-clause-fact c =
    piece_short _ _ c.args.loader.now _ _ _ _ _ _ _ _ _ c.if-loader-ne-NUMBERS.false _ c.read.ensures c.in-Err.ensures refl refl
