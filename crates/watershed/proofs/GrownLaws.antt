-- From growth to the reason: the records are built in the part before `end`, and the merges noted past it; what filter, merge and numbering tell is the rule's.
-- The part holds the records, the links and the table, whatever the next id is. Assumes nothing.
use Prim.Native.Nat.{ℕ, zero, suc, ◌+◌, ◌-◌, ◌*◌, ◌≤◌, ◌<◌}
use native.Mathlib.Omega.{arith}
use mathlib.Core.Path.{◌≡◌, refl, sym, ap, ◌∙◌}
use mathlib.Core.List.{List, [], ◌∷◌}
use lib.ListN.{length, get_or, take}
use lib.Seq.{get_or-take}
use Rattle.rules.specs.Field.{Field, spans}
use Rattle.rules.specs.Growth.{grown, first_id}
use Rattle.rules.specs.Records.{Rec, at, records}
use Rattle.rules.specs.Filter.{filtered}
use Rattle.rules.specs.Numbering.{dense, Regions, regions, formed}
use Rattle.rules.specs.Refusals.{most_spans, region_refusal}
use Rattle.rules.specs.Reasons.{Story, story, Merging, gone_with, mergings, trail}
use Rattle.laws.proofs.Lengths.{records-length, filtered-length}
use Rattle.rooms.specs.Dense.{lower, lowered, shifted}
use Rattle.rooms.proofs.Dense.{lower-at, formed_is}
use Rattle.rooms.proofs.Rooms.{entry_rooms}
use Rattle.rooms.proofs.Entry.{first_some}
use Rattle.reasons.proofs.Groups.{gone_fits}
use Rattle.reasons.proofs.Room.{trail_room}
use Rattle.field.specs.Lent.{lent}
use Rattle.space.specs.Space.{Clear}
use Rattle.space.proofs.Laws.{sec-take}
use Rattle.net.specs.Table.{net_at}
use Rattle.growth.specs.Grow.{growth_room}
use Rattle.table.specs.Map.{records_end, links_past, floors_from}
use Rattle.records.specs.Stock.{Given, Blank, Built}
use Rattle.merge.specs.Ready.{Ready}
use Rattle.merge.specs.Told.{mergings_at, ToldRegions}
use Rattle.merge.proofs.ToldLaws.{part_length}
use Rattle.trail.specs.Noted.{mergings_from}
use Rattle.watershed.specs.Stages.{Admitted, Raised, Readied, table_at}
use Rattle.watershed.specs.Explain.{Grown}
use Rattle.watershed.proofs.Handover.{handed}
use Rattle.watershed.proofs.RegionOutcome.{admitted_by}
use Rattle.watershed.proofs.StageLaws.{areas_are_bytes, few, can_ready, given, fits, blank, size, next_few, named}

-- ---------------------------------------------------------------- merges as they are noted

noted-first : (ws : List ℕ) (b k : ℕ) → mergings_at ws b (suc k) ≡ record { old = get_or ws b 0; new = get_or ws (b + 1) 0 } ∷ mergings_at ws (b + 2) k
unfolding mergings_at
noted-first ws b zero = let e : b + 2 * 0 ≡ b = omega arith in rw e refl
noted-first ws b (suc k) =
    let e : b + 2 * suc k ≡ b + 2 + 2 * k = omega arith in
    rw (noted-first ws b k, e) refl

pub noted_from : (ws : List ℕ) (b k : ℕ) → mergings_from ws b k ≡ mergings_at ws b k
unfolding mergings_from mergings_at
noted_from ws b zero = refl
noted_from ws b (suc k) = ap (λ (l : List Merging). record { old = get_or ws b 0; new = get_or ws (b + 1) 0 } ∷ l) (noted_from ws (b + 2) k) ∙ sym (noted-first ws b k)

-- ---------------------------------------------------------------- after growth

pub grown_of_lem : (F : Field) (dist : List ℕ) (most border table s next stop : ℕ) (y : Story) (ids₀ ws₀ ids ws : List ℕ)
    → region_refusal F (length dist ∷ length ids₀ ∷ []) (length ws₀) dist most ≡ 0 → table ≡ table_at (spans F) → s < spans F → length ids ≡ length ids₀ → length ws ≡ length ws₀
    → Raised F dist most border table ids₀ next stop ids ws → stop ≡ 0 → (stop ≡ 0 → y ≡ story F dist most border s)
    → Grown F dist most border table s next y ids ws
grown_of_lem F dist most border table s next stop y ids₀ ws₀ ids ws p t h n m R o u = record {
  passes = rw (n, m) p;
  placed = t;
  span = h;
  goes = sym R.stops ∙ o;
  grew = R.ids o;
  id = R.id o;
  clear = R.clear o;
  net = R.net o;
  told = u o;
}

module _ (w h : ℕ) (is ks ar cs dist : List ℕ) (most border table s next : ℕ) (y : Story) (ids ws : List ℕ)
    (G : Grown (lent w h is ks ar cs) dist most border table s next y ids ws) (bytes : (i : ℕ) → get_or ar i 0 < 256) where
  abbrev F : Field
  F = lent w h is ks ar cs

  admits : Admitted F dist ws ids
  admits = admitted_by F dist most ws ids G.passes

  rises : Raised F dist most border table ids next 0 ids ws
  rises = record {
    stops = sym G.goes;
    ids = λ _. G.grew;
    id = λ _. G.id;
    clear = λ _. G.clear;
    net = λ _. G.net;
    back = λ z. absurd (z refl);
  }

  pub short : length ar ≤ most_spans
  short = few w h is ks ar cs dist ws ids admits

  pub sized : length ids ≡ length ar
  sized = size w h is ks ar cs dist ws ids admits table G.placed bytes most border next 0 ids ws rises refl refl

  few_records : next + 1 ≤ length ids + 6
  few_records = next_few w h is ks ar cs dist ws ids admits table G.placed bytes most border next 0 ids ws rises refl refl

  pub part_fits : records_end (next + 1) (length ids) ≤ table
  part_fits = fits w h is ks ar cs dist ws ids admits table G.placed bytes most border next 0 ids ws rises refl refl

  pub id_below : get_or ids s 0 < 0x8000 → get_or ids s 0 < next + 1
  id_below = (named w h is ks ar cs dist ws ids admits table G.placed bytes most border next 0 ids ws rises refl refl).below s

  pub can_ready_part : (next + 1 ≤ 65536) × (length ar ≤ most_spans) × (growth_room (length ar) ≤ length ws) × (floors_from (next + 1) (length ar) ≤ length ws) × Clear 0 (growth_room (length ar)) ws
  can_ready_part = can_ready w h is ks ar cs dist ws ids admits table G.placed bytes most border next 0 ids ws rises refl refl

  -- made ready
  module _ (end : ℕ) (e : end ≡ links_past (length ar + 6) (length ar)) (ws₁ : List ℕ) (n₁ : length ws₁ ≡ length ws) (r₁ : Readied (next + 1) (length ar) ws ws₁) where
    -- the merges are noted past the part
    pub past_room : end + 2 * (next + 1) ≤ length ws₁
    past_room = omega (arith, few_records, sized, n₁, admits.room, G.placed, short)

    part : length (take end ws₁) ≡ end
    part = part_length end ws₁ (omega (arith, past_room))

    -- the table is in the part
    table_inside : table + 4 * length ar ≤ end
    table_inside = omega (arith, e, G.placed)

    pub part_given : Given F ids table (take end ws₁)
    unfolding net_at
    part_given =
        let g = given w h is ks ar cs dist ws ids admits table G.placed bytes most border next 0 ids ws rises refl refl ws₁ n₁ r₁ in
        record {
          sound = g.sound;
          idents = g.idents;
          net = ap (λ (l : List ℕ). record { neighbours = l; areas = ar }) (sec-take table (4 * length ar) end ws₁ table_inside) ∙ g.net;
          room = omega (arith, part, table_inside);
          place = g.place;
        }

    pub part-blank : Blank ids (next + 1) (take end ws₁)
    part-blank =
        let b = blank w h is ks ar cs dist ws ids admits table G.placed bytes most border next 0 ids ws rises refl refl ws₁ n₁ r₁ in
        record {
          few = b.few;
          spans = b.spans;
          room = omega (arith, part, part_fits, table_inside);
          below = b.below;
          zeros = λ j l. get_or-take end ws₁ j 0 (omega (arith, part_fits, table_inside)) ∙ b.zeros j l;
        }

    -- after the records
    module _ (ws₃ : List ℕ) (n₃ : length ws₃ ≡ length ws₁) (B : Built F ids next (take end ws₁) (take end ws₃)) where
      pub part_ready : Ready (next + 1) (length ar) (take end ws₃) ids
      part_ready =
          rw (← sized)
          (handed F ids table next (take end ws₁) (take end ws₃) part_given B few_records (omega (arith, sized, short))
          (omega (arith, few_records, sized, part_length end ws₃ (omega (arith, n₃, past_room))))
          (named w h is ks ar cs dist ws ids admits table G.placed bytes most border next 0 ids ws rises refl refl))

      -- after filter, merge and numbering
      module _ (least area r : ℕ) (found : Regions) (id group merges : ℕ) (ws₄ : List ℕ) (o : r ≡ get_or ids s 0)
          (T : ToldRegions least area (next + 1) end r ws₃ ids ws₄ found id group merges) where
        abbrev grown_ids : List ℕ
        grown_ids = (grown F dist most border).ids

        abbrev recs : List Rec
        recs = records F grown_ids (grown F dist most border).next

        abbrev kept : List Rec
        kept = filtered least recs

        many : next + 1 ≡ length recs
        many = omega (arith, records-length F grown_ids (grown F dist most border).next, G.id)

        pub told_id : id ≡ (at kept (get_or grown_ids s 0)).id
        told_id = T.id_is ∙ rw (B.same, o, G.grew, G.id)

        pub told_group : group ≡ gone_with least (get_or grown_ids s 0) (length recs) recs
        told_group = T.gone ∙ rw (B.same, o, many, G.grew, G.id)

        pub told_merges : mergings_from ws₄ end merges ≡ mergings area (suc (length kept)) kept []
        told_merges =
            let m : next + 1 ≡ length kept = omega (arith, many, filtered-length least recs) in
            noted_from ws₄ end merges ∙ T.told ∙ rw (B.same, m, G.grew, G.id)

        regions_is : found ≡ regions F least area grown_ids (grown F dist most border).next
        unfolding regions
        regions_is =
            let m : suc (next + 1) ≡ suc (length kept) = omega (arith, many, filtered-length least recs) in
            T.regions ∙ rw (B.same, m, G.grew, G.id)

        pub told_number : (d x : ℕ) → d ≡ first_id border - 1 → x ≡ lower d (get_or found.ids s 0)
            → x ≡ get_or (formed dense (regions F least area grown_ids (grown F dist most border).next)).ids s 0
        unfolding shifted lowered
        told_number d x k v =
            let rooms = entry_rooms F (length dist ∷ length ids ∷ []) (length ws) dist most G.passes (areas_are_bytes w h is ks ar cs bytes) border least area G.goes in
            let f = ap (λ (g : Regions). get_or g.ids s 0) (formed_is dense F (first_id border) _ rooms (first_some border)) in
            v ∙ rw (regions_is, k) (sym (f ∙ lower-at (first_id border - 1) (regions F least area grown_ids (grown F dist most border).next).ids s))

        -- a list of one number a span holds the trail
        trail_short : (id ≡ 0 → ⊥) → length (trail (mergings area (suc (length kept)) kept []) (get_or grown_ids s 0)) ≤ length ar
        trail_short z = trail_room F dist most border (areas_are_bytes w h is ks ar cs bytes) G.goes least area s G.span (λ e. z (told_id ∙ e))

        pub told-trail : trail (mergings_from ws₄ end merges) r ≡ trail (mergings area (suc (length kept)) kept []) (get_or grown_ids s 0)
        told-trail = rw (told_merges, o, G.grew) refl

        pub laid_room : (id ≡ 0 → ⊥) → length (trail (mergings_from ws₄ end merges) r) ≤ length ar
        laid_room z = rw told-trail (trail_short z)

        -- a group is under the least area
        pub group_small : group ≤ least
        group_small = rw told_group (gone_fits least (get_or grown_ids s 0) (length recs) recs)

        pub noted_room : end + 2 * merges ≤ length ws₁
        noted_room = omega (arith, T.few, past_room)
