-- What `position` gives is the place, or none where the place is past the list (SearchLaws).
use mathlib.Core.Path.{◌≡◌, ◌∙◌}
use lib.Dec.{eqb}
use native.Mathlib.Omega.{arith}
use Rattle.std.proofs.Common.{rules, tests}
use Rattle.std.proofs.lemmas.Iterator.{YieldsList-from_slice}
use Rattle.std.proofs.lemmas.Iterator.Search.{position_from_yields_List}
use Rattle.rules.specs.Merge.{place}
use Rattle.table.proofs.SearchLaws.{place_found, place-within}
use Rattle.table.proofs.search.scan.Goals as goal

pub returns : goal.returns
returns c =
    let l = c.args.l.now in
    let r = c.args.r in
    let o = position_from_yields_List (λ x. eqb x r) _ _ c.position.result c.position.ensures.ran (YieldsList-from_slice l cc) (λ x b q k. search (rules, tests)) in
    let e : c.unwrap_or.result ≡ place l r = c.unwrap_or.ensures ∙ place_found l r _ o in
    (e, omega (arith, place-within l r))
