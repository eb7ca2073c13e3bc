-- `trim` leaves the rule's `trim` of the list, and zeros after it.
-- A list of one stays; otherwise the last entry is dropped where it equals the first.
use Rattle.contour.proofs.PoolLaws.{trim_short, trim-other, trim-drop}
use borrow.Author.Rules.{rules}
use Rattle.contour.proofs.walk.trim.Goals as goal

pub returns-then-end-start-lt2 : goal.returns-then-end-start-lt2
returns-then-end-start-lt2 c = search (rules, trim_short)

pub returns-then-ws-pool : goal.returns-then-ws-pool
returns-then-ws-pool c = search (rules, trim-other)

pub returns : goal.returns
returns c = search (rules, trim-drop)
