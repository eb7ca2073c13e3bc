-- Every row is asked; the rows in order are all cells in order, and their spans all spans.
use Rattle.std.proofs.Common.{rules, ◌≡◌, ◌∙◌, true, false, refl, tests, arith}
use Rattle.std.proofs.lemmas.Iterator.{cases_from_all, YieldsList-from_range}
use Rattle.field.specs.Seen.{seen}
use Rattle.checker.specs.Links.{half_at, in_row}
use Rattle.checker.proofs.Answered.{all_rows}
use Rattle.checker.proofs.Ranges.{every_of_all}
use Rattle.checker.proofs.links.rows_ok.Goals as goal

pub returns : goal.returns
returns c =
    let F = seen c.args.field.now in
    every_of_all F.h (in_row F (half_at F)) _
    (cases_from_all _ _ _ (λ z. in_row F (half_at F) z ≡ true) (λ z. in_row F (half_at F) z ≡ false) c.all.ensures.ran
    (YieldsList-from_range 0 F.h F.h refl (omega arith)) (λ x q k. search (rules, tests)) (λ x q k. search (rules, tests)))
    ∙ all_rows F c.requires
