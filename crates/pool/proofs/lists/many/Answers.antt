-- `pool::lists::many` meets its contract: what std sums the rule counts.
use mathlib.Core.Path.{sym, ◌∙◌}
use mathlib.Core.Bool.{cond}
use lib.Dec.{eqb}
use native.Mathlib.Omega.{arith}
use Rattle.std.proofs.Common.{rules, of_calls, tests}
use Rattle.std.proofs.lemmas.Iterator.{YieldsList-from_slice, YieldsList-from_map}
use Rattle.std.proofs.lemmas.Iterator.Consumers.{sum_by_from_yields_List, fits_by_from_yields_list}
use Rattle.std.proofs.lemmas.List.Sums.{count_by-le-length}
use Rattle.pool.proofs.ListLaws.{many-count}
use Rattle.pool.proofs.lists.many.Goals as goal

pub sum-requires : goal.sum-requires
sum-requires c = record {
  can = search of_calls;
  finite = search of_calls;
  fits = fits_by_from_yields_list (λ x. cond (eqb x c.args.r) 1 0) c.args.l.now c.map.result _ (YieldsList-from_map _ _ (YieldsList-from_slice c.args.l.now cc) c.map.ensures.closure (λ x b q k. search (rules, tests))) (omega (arith, count_by-le-length (λ x. eqb x c.args.r) c.args.l.now));
}

pub returns : goal.returns
returns c =
    sum_by_from_yields_List (λ x. cond (eqb x c.args.r) 1 0) c.args.l.now c.map.result _ c.sum.ensures.ran (YieldsList-from_map _ _ (YieldsList-from_slice c.args.l.now cc) c.map.ensures.closure (λ x b q k. search (rules, tests))) ∙ sym (many-count c.args.r c.args.l.now)
