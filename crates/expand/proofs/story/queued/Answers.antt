-- What `find` says of the numbers lo .. hi (`sought_first`).
use borrow.Author.Rules.{rules}
use lib.ListN.{get_or}
use Prim.Native.Nat.{ℕ, ◌+◌, ◌*◌}
use mathlib.Core.Path.{◌≡◌}
use Rattle.std.proofs.Common.{tests}
use Rattle.std.proofs.lemmas.Iterator.{first_from_Range}
use Rattle.expand.proofs.Tellings.{sought_first}
use Rattle.expand.proofs.story.queued.Goals as goal

pub returns : goal.returns
returns c = sought_first _ _ _ _ _ _ (first_from_Range _ _ _ _
    (λ (i : ℕ). get_or c.args.ws.now (c.args.changes + 3 * i) 0 ≡ c.args.s) (λ (i : ℕ). get_or c.args.ws.now (c.args.changes + 3 * i) 0 ≡ c.args.s → ⊥)
    c.find.ensures.ran (λ x q k. search (rules, tests)) (λ x q k. (search rules, search (rules, tests))))
