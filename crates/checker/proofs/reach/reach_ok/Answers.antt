-- Every cell is asked. The spans of the cells in order are all spans in order, since refusal 4 has been ruled out.
use Rattle.std.proofs.Common.{rules, ◌≡◌, ◌∙◌, true, false, refl, tests, arith, length}
use Rattle.std.proofs.lemmas.Iterator.{cases_from_all, YieldsList-from_range}
use Rattle.field.specs.Seen.{seen}
use Rattle.checker.specs.Links.{reach_at, in_cell}
use Rattle.checker.proofs.Checks.{every_cells}
use Rattle.checker.proofs.Ranges.{every_of_all}
use Rattle.checker.proofs.reach.reach_ok.Goals as goal

pub returns : goal.returns
returns c =
    let F = seen c.args.field.now in
    let n = length F.count in
    every_of_all n (in_cell F (reach_at F)) _
    (cases_from_all _ _ _ (λ k. in_cell F (reach_at F) k ≡ true) (λ k. in_cell F (reach_at F) k ≡ false) c.all.ensures.ran
    (YieldsList-from_range 0 n n refl (omega arith)) (λ x q k. search (rules, tests)) (λ x q k. search (rules, tests)))
    ∙ every_cells F c.requires (reach_at F)
