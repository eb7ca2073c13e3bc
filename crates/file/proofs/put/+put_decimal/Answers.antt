-- What the call writes is all digits but the last, which is written after it.
use Rattle.file.proofs.Decimals.{only_room, only_wrote, last_room, last-wrote, shorter_room}
use native.Mathlib.Omega.{arith}
use borrow.Author.Rules.{rules}
use Rattle.file.proofs.put.+put_decimal.Goals as goal

pub put-requires : goal.put-requires
put-requires t c = search (rules, only_room)

pub returns-then-v-lt10 : goal.returns-then-v-lt10
returns-then-v-lt10 t c = search (rules, only_wrote)

pub put_decimal-next-requires : goal.put_decimal-next-requires
put_decimal-next-requires t c = (omega (arith, c.decreases), search (rules, shorter_room))

pub put-requires-2 : goal.put-requires-2
put-requires-2 t c = search (rules, last_room)

pub returns : goal.returns
returns t c = search (rules, last-wrote)
