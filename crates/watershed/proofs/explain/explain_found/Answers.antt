-- What refusals 1 to 8 leave is what growth asks; where it is not stopped the reason is told, and the workspace is zeros either way (ExplainLaws).
use native.Mathlib.Omega.{arith}
use Prim.Native.Nat.{ℕ}
use mathlib.Core.Path.{refl, sym, ap, ◌∙◌}
use lib.ListN.{replicate}
use Rattle.growth.proofs.Stopped.{some_stop}
use Rattle.watershed.proofs.RegionOutcome.{admitted_by}
use Rattle.watershed.proofs.StageLaws.{few}
use Rattle.watershed.proofs.GrownLaws.{grown_of_lem}
use Rattle.watershed.proofs.ExplainLaws.{explains_stop, explains_reason}
use Rattle.watershed.proofs.explain.explain_found.Goals as goal

pub records_end-table-requires : goal.records_end-table-requires
records_end-table-requires c = let n = few _ _ _ _ _ _ c.args.dist.now _ _ (admitted_by _ c.args.dist.now _ c.args.ws.now c.args.trail.now c.requires.0) in
    (omega (arith, n), n)

pub overflow_cast-span : goal.overflow_cast-span
overflow_cast-span c = let n = few _ _ _ _ _ _ c.args.dist.now _ _ (admitted_by _ c.args.dist.now _ c.args.ws.now c.args.trail.now c.requires.0) in
    omega (arith, n, c.requires.1)

pub grow_regions-requires : goal.grow_regions-requires
grow_regions-requires c = (admitted_by _ _ _ c.args.ws.now c.args.trail.now c.requires.0, c.records_end-table.ensures)

pub returns-in-Err : goal.returns-in-Err
returns-in-Err c = explains_stop _ _ _ _ _ _ _ _ _ _ (c.wipe.ensures ∙ ap (λ (l : ℕ). replicate l 0) c.grow_regions.auto.ws) _ c.in-Err.ensures.fact.stops (some_stop _)
    (rw (c.number.ensures ∙ c.stop_refusal.ensures) at c.refused.ensures) (c.in-Err.ensures.fact.back (some_stop _))

pub explain_grown-r-requires : goal.explain_grown-r-requires
explain_grown-r-requires c = grown_of_lem _ _ _ _ _ _ _ _ _ _ c.args.ws.now _ _ c.requires.0 c.records_end-table.ensures c.requires.1 c.grow_regions.auto.ids c.grow_regions.auto.ws
    c.in-Ok.ensures.fact refl c.in-Ok.ensures.story_value

pub returns : goal.returns
returns c = explains_reason _ _ _ _ _ _ _ _ _ _ (c.wipe-2.ensures ∙ ap (λ (l : ℕ). replicate l 0) (c.explain_grown-r.auto.ws ∙ c.grow_regions.auto.ws)) _
    (sym c.in-Ok.ensures.fact.stops) (c.in-Ok.ensures.story_value refl) c.explain_grown-r.ensures
