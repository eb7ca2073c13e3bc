-- `Loader::span_on` meets its contract: the fifth byte ends the span.
use Rattle.load.proofs.Ways.{span_more, span_last, saturates}
use native.Mathlib.Omega.{arith}
use Rattle.load.proofs.Loader.span_on.Goals as goal

pub returns-then-self-lt4 : goal.returns-then-self-lt4
returns-then-self-lt4 c = search span_more

pub returns : goal.returns
returns c = span_last _ _ _ _ _ c.if-self-lt4.false (saturates _ _ (omega arith) c.saturating_add.ensures) c.saturating_sub.ensures c.counted-m.ensures c.onward-2.ensures
