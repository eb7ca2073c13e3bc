-- A refusal is given before anything is written; else the outcome is that of a field that is not refused (ExplainLaws).
use Rattle.watershed.proofs.StageLaws.{areas_are_bytes}
use Rattle.watershed.proofs.Why.{call_means}
use Rattle.watershed.proofs.ExplainLaws.{outcome_refused, none_refused, outcome-told}
use Rattle.watershed.proofs.explain.explain_span.Goals as goal

pub returns-then-refusal-ne0 : goal.returns-then-refusal-ne0
returns-then-refusal-ne0 c = let e = outcome_refused _ _ _ _ _ c.args.workspace.now c.args.trail.now _ c.check_explain-refusal.ensures c.if-refusal-ne0.true _ (c.refused.ensures _ _) in
    record {
      trail_after = e;
      means = call_means _ _ _ _ _ _ _ _ _ _ (areas_are_bytes _ _ _ _ _ _ c.codes_are_bytes.ensures) e;
    }

pub explain_found-requires : goal.explain_found-requires
explain_found-requires c = none_refused _ _ _ (record { border = 0; least = 0; merge = 0 }) _ c.args.workspace.now c.args.trail.now _ c.check_explain-refusal.ensures c.if-refusal-ne0.false

pub returns : goal.returns
returns c = let e = outcome-told _ _ _ _ _ c.args.workspace.now c.args.trail.now _ c.check_explain-refusal.ensures c.if-refusal-ne0.false _ c.explain_found.ensures in
    record {
      trail_after = e;
      means = call_means _ _ _ _ _ _ _ _ _ _ (areas_are_bytes _ _ _ _ _ _ c.codes_are_bytes.ensures) e;
    }
