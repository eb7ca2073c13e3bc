-- What the iterator answers is what the rule's `any` says (SearchLaws).
use mathlib.Core.Path.{◌∙◌}
use lib.Dec.{ltb}
use Rattle.std.proofs.Common.{rules, tests}
use Rattle.std.proofs.lemmas.Iterator.{YieldsList-from_slice}
use Rattle.std.proofs.lemmas.Iterator.Search.{any_from_yields_List}
use Rattle.table.proofs.SearchLaws.{any_listed}
use Rattle.table.proofs.search.any_above.Goals as goal

pub returns : goal.returns
returns c =
    let l = c.args.l.now in
    any_from_yields_List (ltb c.args.most) _ _ c.any.result c.any.ensures.ran (YieldsList-from_slice l cc) (λ x b q k. search (rules, tests)) ∙ any_listed (ltb c.args.most) l
