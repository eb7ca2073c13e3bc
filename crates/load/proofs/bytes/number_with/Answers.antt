-- `bytes::number_with` meets its contract: the low byte, the high byte, or neither.
-- Two bytes make a number of 16 bits, so the sum fits.
use Rattle.load.proofs.Ways.{number_low, number_high, number_other}
use Rattle.load.proofs.bytes.number_with.Goals as goal

pub returns-then-got-i : goal.returns-then-got-i
returns-then-got-i c = search number_low

pub returns-then-got-i-2 : goal.returns-then-got-i-2
returns-then-got-i-2 c = search number_high

pub returns-else-got-i-2 : goal.returns-else-got-i-2
returns-else-got-i-2 c = search number_other
