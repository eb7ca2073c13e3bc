-- `watershed::regions::find_regions` meets its contract: each stage leaves what the next asks (StageLaws), and the last clears the workspace.
use Prim.Native.Nat.{ℕ}
use native.Mathlib.Omega.{arith}
use mathlib.Core.Path.{refl, ◌∙◌, ap}
use lib.ListN.{replicate}
use Rattle.growth.proofs.Stopped.{some_stop}
use Rattle.watershed.proofs.StageLaws.{areas_are_bytes, few, can_ready, given, fits, blank, ready, whole, finds_stop, finds-regions}
use Rattle.watershed.proofs.regions.find_regions.Goals as goal

pub records_end-table-requires : goal.records_end-table-requires
records_end-table-requires c = let n = few _ _ _ _ _ _ _ _ _ c.requires in
    (omega (arith, n), n)

pub grow_regions-requires : goal.grow_regions-requires
grow_regions-requires c = (c.requires, c.records_end-table.ensures)

pub returns-in-Err : goal.returns-in-Err
returns-in-Err c = record {
  fact = finds_stop _ _ _ _ _ _ _ _ _ _ c.in-Err.ensures.fact (some_stop _) _ c.stop_refusal.ensures _ refl;
  ws_after = c.wipe.ensures ∙ ap (λ (l : ℕ). replicate l 0) c.grow_regions.auto.ws;
  bytes = areas_are_bytes _ _ _ _ _ _ c.codes_are_bytes.ensures;
}

pub ready_records-requires : goal.ready_records-requires
ready_records-requires c = can_ready _ _ _ _ _ _ _ _ _ c.requires _ c.records_end-table.ensures c.codes_are_bytes.ensures _ _ _ _ _ _ c.in-Ok.ensures.fact refl c.grow_regions.auto.ws

pub build_records-requires : goal.build_records-requires
build_records-requires c = record {
  given = given _ _ _ _ _ _ _ _ _ c.requires _ c.records_end-table.ensures c.codes_are_bytes.ensures _ _ _ _ _ _ c.in-Ok.ensures.fact refl c.grow_regions.auto.ws _ c.ready_records.auto.ws c.ready_records.ensures;
  blank = (blank _ _ _ _ _ _ _ _ _ c.requires _ c.records_end-table.ensures c.codes_are_bytes.ensures _ _ _ _ _ _ c.in-Ok.ensures.fact refl c.grow_regions.auto.ws _ c.ready_records.auto.ws c.ready_records.ensures, fits _ _ _ _ _ _ _ _ _ c.requires _ c.records_end-table.ensures c.codes_are_bytes.ensures _ _ _ _ _ _ c.in-Ok.ensures.fact refl c.grow_regions.auto.ws);
}

pub merge_and_filter_regions-r-requires : goal.merge_and_filter_regions-r-requires
merge_and_filter_regions-r-requires c = ready _ _ _ _ _ _ _ _ _ c.requires _ c.records_end-table.ensures c.codes_are_bytes.ensures _ _ _ _ _ _ c.in-Ok.ensures.fact refl c.grow_regions.auto.ws _ c.ready_records.auto.ws c.ready_records.ensures _ c.build_records.ensures

pub shape_of-ws : goal.shape_of-ws
shape_of-ws c = c.wipe-2.auto.ws ∙ c.merge_and_filter_regions-r.auto.ws ∙ c.build_records.ensures.size ∙ c.ready_records.auto.ws ∙ c.grow_regions.auto.ws

pub returns : goal.returns
returns c = let size = c.merge_and_filter_regions-r.auto.ws ∙ c.build_records.ensures.size ∙ c.ready_records.auto.ws ∙ c.grow_regions.auto.ws in
    record {
      fact = finds-regions _ _ _ _ _ _ _ _ _ _ c.in-Ok.ensures.fact refl _ (whole _ _ _ _ _ _ _ _ _ c.requires _ c.records_end-table.ensures c.codes_are_bytes.ensures _ _ _ _ _ _ c.in-Ok.ensures.fact refl c.grow_regions.auto.ws _ c.ready_records.auto.ws c.ready_records.ensures _ c.build_records.ensures _ _ _ c.merge_and_filter_regions-r.ensures);
      ws_after = c.wipe-2.ensures ∙ ap (λ (l : ℕ). replicate l 0) size;
      bytes = areas_are_bytes _ _ _ _ _ _ c.codes_are_bytes.ensures;
    }
