-- Every direction is asked.
use Rattle.std.proofs.Common.{rules, ◌≡◌, true, false, refl, tests}
use Rattle.std.proofs.lemmas.Iterator.{cases_from_all, YieldsList-from_range}
use Rattle.checker.specs.Links.{names_at}
use Rattle.checker.proofs.Ranges.{every_of_all}
use Rattle.checker.proofs.reach.span_ok.Goals as goal

pub returns : goal.returns
unfolding names_at
returns c =
    let a = c.args in
    every_of_all 4 (names_at a.w a.h a.count.now a.c a.cons) _
    (cases_from_all _ _ _ (λ d. names_at a.w a.h a.count.now a.c a.cons d ≡ true) (λ d. names_at a.w a.h a.count.now a.c a.cons d ≡ false) c.all.ensures.ran
    (YieldsList-from_range 0 4 4 refl refl) (λ x q k. search (rules, tests)) (λ x q k. search (rules, tests)))
