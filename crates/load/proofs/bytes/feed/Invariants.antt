-- `bytes::feed` meets its contract. The loop's invariant: feeding the rest to the loader as it is gives what feeding the piece gave.
use mathlib.Core.Path.{◌≡◌}
use lib.ListN.{drop}
use Rattle.rules.specs.Load.{feed}
use Rattle.load.specs.Numbers.{loading}
use Rattle.load.proofs.bytes.feed.Given as goal

abbrev pub invariant-loop-b : goal.invariant-loop-b
invariant-loop-b l = feed l.piece (loading l.initial.m l.initial.index l.initial.count l.initial.area l.initial.con) ≡ feed (drop l.b-index l.piece) (loading l.m l.index l.count l.area l.con)
