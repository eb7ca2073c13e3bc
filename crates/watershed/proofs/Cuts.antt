-- The mark of a contour cut short, in the outcome of the region entry: ids, max_region and the overlap count are those of the rules without the
-- mark, and where every grown region has at most 10,000 spans none is counted. Assumes nothing.
use Prim.Native.Nat.{ℕ, ◌≤◌, ◌<◌}
use native.Mathlib.Omega.{arith}
use mathlib.Core.Path.{◌≡◌, refl, sym, ◌∙◌}
use mathlib.Core.Bool.{false, not}
use mathlib.Core.List.{List, [], ◌∷◌, map}
use lib.ListN.{length, length-map}
use lib.Seq.{ext_get_or}
use lib.Dec.{eqb}
use borrow.Author.Tests.{eqb-true, eqb-false, not-true, not-false}
use Rattle.rules.specs.Base.{many}
use Rattle.rules.specs.Field.{Field, spans}
use Rattle.rules.specs.Refusals.{region_refusal}
use Rattle.rules.specs.Growth.{grown, stops}
use Rattle.rules.specs.Records.{Rec, fresh, at, records}
use Rattle.rules.specs.Numbering.{Form, dense, compared, Regions, formed, condensed}
use Rattle.rules.specs.Outcomes.{Sizes, RegionOutcome, region_outcome}
use Rattle.laws.proofs.Basics.{if-ind}
use Rattle.laws.proofs.Lengths.{records-length, grown-length}
use Rattle.laws.proofs.MergeEnds.{at_map}
use Rattle.rooms.specs.Bare.{bare, bare_regions}
use Rattle.rooms.proofs.Bare.{Unmarked, mark_only_carried, none_cut}
use Rattle.rooms.proofs.Rooms.{accepted}
use Rattle.field.specs.Lent.{Sound}
use Rattle.field.proofs.Passed.{sound_of}
use Rattle.records.proofs.CountLaws.{mine_le}
use Rattle.records.proofs.Fits.{never_marked}
use Rattle.std.specs.Prelude.{Result}
use Rattle.checker.specs.declared.Refusal.{Refusal}
use Rattle.numbering.specs.declared.Regions as numbering
use Rattle.watershed.specs.Answer.{regions_refused_by, max_region_in, overlaps_in, cut_in, AnswersRegions}

bare_is : (r : Rec) → r.cut ≡ false → bare r ≡ r
unfolding bare
bare_is r e = rw e refl

bare-fresh : bare (fresh 0) ≡ fresh 0
unfolding bare fresh
bare-fresh = refl

-- regions of at most 10,000 spans leave no mark
uncut : (F : Field) → Sound F → (ids : List ℕ) → length ids ≡ spans F → (next : ℕ) → ((i : ℕ) → many (eqb i) ids ≤ 10000)
    → map bare (records F ids next) ≡ records F ids next
unfolding at
uncut F s ids size next few =
    let rs = records F ids next in
    ext_get_or (fresh 0) (map bare rs) rs (length-map rs bare) (λ i h.
    let l : i < length rs = rw (length-map rs bare) at h in
    at_map bare bare-fresh rs i
    ∙ bare_is (at rs i) (never_marked F s ids size next i (omega (arith, records-length F ids next)) (omega (arith, few i, mine_le i ids))))

-- a form keeps the number
formed_cut : (form : Form) (v : Regions) → (formed form v).cut ≡ v.cut
unfolding formed condensed
formed_cut dense v = refl
formed_cut compared v = refl

-- and hangs on no mark
formed_unmarked : (form : Form) (a b : Regions) → Unmarked a b → ((formed form a).ids ≡ (formed form b).ids) × ((formed form a).most ≡ (formed form b).most) × ((formed form a).over ≡ (formed form b).over)
unfolding formed condensed
formed_unmarked dense a b u = (rw u.ids refl, rw (u.ids, u.most) refl, u.over)
formed_unmarked compared a b u = (u.ids, u.most, u.over)

module _ (form : Form) (F : Field) (dist : List ℕ) (most : ℕ) (z : Sizes) (ws ids : List ℕ) where
  abbrev grown_ids : List ℕ
  grown_ids = (grown F dist most z.border).ids

  abbrev next : ℕ
  next = (grown F dist most z.border).next

  -- no region of more than 10,000 spans: none is counted as cut short
  outcome_uncut : ((i : ℕ) → many (eqb i) grown_ids ≤ 10000) → (region_outcome form F dist most z ws ids).cut ≡ 0
  unfolding region_outcome
  outcome_uncut few =
      if-ind (λ (o : RegionOutcome). o.cut ≡ 0) (not (eqb (region_refusal F (length dist ∷ length ids ∷ []) (length ws) dist most) 0)) (λ _. refl)
      (λ e. if-ind (λ (o : RegionOutcome). o.cut ≡ 0) (not (eqb (stops F dist most z.border) 0)) (λ _. refl)
      (λ _.
      let p = accepted F (length dist ∷ length ids ∷ []) (length ws) dist most (eqb-true _ _ (not-false _ e)) in
      formed_cut form _ ∙ none_cut F z.least z.merge grown_ids next (uncut F (sound_of F (length dist ∷ length ids ∷ []) p) grown_ids (grown-length F dist most z.border) next few)))

  -- ids, max_region and the overlap count are those of the rules without the mark
  outcome_unmarked : (region_outcome form F dist most z ws ids).refused ≡ 0
      → let v = formed form (bare_regions F z.least z.merge grown_ids next) in
      let o = region_outcome form F dist most z ws ids in
      (v.ids ≡ o.ids) × (v.most ≡ o.most) × (v.over ≡ o.over)
  unfolding region_outcome
  outcome_unmarked =
      if-ind (λ (o : RegionOutcome). let v = formed form (bare_regions F z.least z.merge grown_ids next) in o.refused ≡ 0 → (v.ids ≡ o.ids) × (v.most ≡ o.most) × (v.over ≡ o.over))
      (not (eqb (region_refusal F (length dist ∷ length ids ∷ []) (length ws) dist most) 0))
      (λ e h. absurd (eqb-false _ _ (not-true _ e) h))
      (λ _. if-ind (λ (o : RegionOutcome). let v = formed form (bare_regions F z.least z.merge grown_ids next) in o.refused ≡ 0 → (v.ids ≡ o.ids) × (v.most ≡ o.most) × (v.over ≡ o.over))
      (not (eqb (stops F dist most z.border) 0))
      (λ e h. absurd (eqb-false _ _ (not-true _ e) h))
      (λ _ _. formed_unmarked form _ _ (mark_only_carried F z.least z.merge grown_ids next)))

  -- and so for a call: r, ws' and ids' are what it returns and leaves
  module _ (r : Result numbering.Regions Refusal) (ws' ids' : List ℕ) (a : AnswersRegions (region_outcome form F dist most z ws ids) r ws' ids') where
    pub call_uncut : ((i : ℕ) → many (eqb i) grown_ids ≤ 10000) → cut_in r ≡ 0
    call_uncut few = a.cut ∙ outcome_uncut few

    pub call_unmarked : regions_refused_by r ≡ 0
        → let v = formed form (bare_regions F z.least z.merge grown_ids next) in
        (v.ids ≡ ids') × (v.most ≡ max_region_in r) × (v.over ≡ overlaps_in r)
    call_unmarked e =
        let u = outcome_unmarked (sym a.refused ∙ e) in
        (u.0 ∙ sym a.ids, u.1 ∙ sym a.most, u.2 ∙ sym a.over)
