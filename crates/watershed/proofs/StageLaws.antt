-- The region entry's stages one after the other: what each leaves is what the next asks, and what the last gives is the rule's.
-- The records come before the table, whatever the next id is: it is at most 5 and the number of spans.
use Prim.Native.Nat.{ℕ, suc, ◌+◌, ◌-◌, ◌*◌, ◌≤◌, ◌<◌}
use native.Mathlib.Omega.{arith}
use native.Mathlib.Decide.{ℕ_discrete, dec_lt}
use mathlib.Core.Path.{◌≡◌, refl, sym, ap, ◌∙◌}
use mathlib.Core.List.{List}
use lib.ListN.{length, get_or, replicate}
use Rattle.rules.specs.Field.{Field, Bytes}
use Rattle.rules.specs.Field as field
use Rattle.rules.specs.Net.{net_of, spans, area_of}
use Rattle.rules.specs.Growth.{first_id, grown, stops}
use Rattle.rules.specs.Records.{records}
use Rattle.rules.specs.Filter.{filtered}
use Rattle.rules.specs.Merge.{merged}
use Rattle.rules.specs.Numbering.{Regions, numbered, regions}
use Rattle.rules.specs.Outcomes.{Sizes}
use Rattle.rules.specs.Refusals.{most_spans}
use Rattle.laws.proofs.Basics.{get_d_any}
use Rattle.laws.proofs.Grows.{first_few, grown_room}
use Rattle.laws.proofs.Nets.{net_bytes}
use Rattle.laws.proofs.Lengths.{records-length, filtered-length}
use Rattle.rooms.proofs.Joins.{plain_true}
use Rattle.rooms.proofs.Growing.{grown_grow}
use Rattle.field.specs.Lent.{lent}
use Rattle.field.proofs.Passed.{sound_reached}
use Rattle.rooms.proofs.Expanding.{Grow}
use Rattle.space.specs.Space.{sec, Clear, Frame}
use Rattle.space.proofs.Laws.{sec-same, get_or_before, get_d_after}
use Rattle.growth.specs.Grow.{growth_room, Poised, Full}
use Rattle.net.proofs.Tables.{net_same}
use Rattle.table.specs.View.{recs_of}
use Rattle.table.specs.Map.{records_end, floors_from}
use Rattle.records.specs.Stock.{Given, Blank, Built}
use Rattle.numbering.specs.Number.{Spans}
use Rattle.merge.specs.Ready.{Ready}
use Rattle.watershed.specs.Stages.{Admitted, Raised, Readied, Finds, table_at}
use Rattle.watershed.proofs.Handover.{handed}

-- a part from a to e, lent
pub part_is : (a n e : ℕ) (ws l : List ℕ) → e ≡ a + n → l ≡ sec a (e - a) ws → l ≡ sec a n ws
part_is a n e ws l p q = let k : e - a ≡ n = omega arith in q ∙ rw k

-- what is lent as areas is bytes
pub areas_are_bytes : (w h : ℕ) (is ks ar cs : List ℕ) → ((i : ℕ) → get_or ar i 0 < 256) → Bytes (lent w h is ks ar cs)
unfolding field.area_of
areas_are_bytes w h is ks ar cs bytes s l = rw (get_d_any ar s 256 0 l) (bytes s)

module _ (w h : ℕ) (is ks ar cs dist ws ids : List ℕ) (a : Admitted (lent w h is ks ar cs) dist ws ids) where
  pub few : length ar ≤ most_spans
  few = (sound_reached (lent w h is ks ar cs) a.sound).celled.few

  -- the table of neighbours at its place
  module _ (table : ℕ) (placed : table ≡ table_at (length ar)) where
    -- the ids stand past the table
    pub kept_room : (kept : ℕ) → kept ≡ table + 4 * length ar → kept + length ids ≤ length ws
    kept_room kept e = omega (arith, e, placed, a.room, a.idents, few)

    -- ids and the workspace before the table are zeros
    pub poised : (ids₁ ws₁ : List ℕ) → ids₁ ≡ replicate (length ids) 0 → length ws₁ ≡ length ws → Clear 0 (growth_room (length ar)) ws₁
        → Poised w h is ks ar cs table ids₁ ws₁
    poised ids₁ ws₁ e n z = record {
      sound = a.sound;
      past = omega (arith, placed);
      close = omega (arith, few, placed);
      room = omega (arith, n, a.room, placed);
      none = e ∙ ap (λ (k : ℕ). replicate k 0) a.idents;
      clear = z;
    }

    -- growth from ids that are kept
    module _ (kept : ℕ) (at : kept ≡ table + 4 * length ar) (ws₁ : List ℕ) (n₁ : length ws₁ ≡ length ws) (c : sec kept (length ids) ws₁ ≡ ids)
        (ws₂ : List ℕ) (n₂ : length ws₂ ≡ length ws₁) (f : Frame 0 (growth_room (length ar)) ws₁ ws₂)
        (most border next stop : ℕ) (ids₃ ws₃ : List ℕ) (g : Full (lent w h is ks ar cs) dist most border table ws₂ next stop ids₃ ws₃) (n₃ : length ws₃ ≡ length ws₂) where
      pub raised : stop ≡ 0 → Raised (lent w h is ks ar cs) dist most border table ids next stop ids₃ ws₃
      raised o = record { stops = g.stops; ids = g.ids; id = g.id; clear = g.clear; net = g.net; back = λ z. absurd (z o) }

      -- what stands past the table is what was kept
      pub kept_ids : sec kept (length ids) ws₃ ≡ ids
      kept_ids =
          sec-same ws₁ ws₃ kept (length ids) (omega (arith, kept_room kept at, n₁)) (n₃ ∙ n₂) (λ k l u. g.after k (omega (arith, at)) ∙ get_d_after k f (omega (arith, at))) ∙ c

      pub put_back : (ids₄ : List ℕ) (n : ℕ) → n ≡ length ids → ids₄ ≡ sec kept n ws₃ → (stop ≡ 0 → ⊥) → Raised (lent w h is ks ar cs) dist most border table ids next stop ids₄ ws₃
      put_back ids₄ n s e z = record {
        stops = g.stops;
        ids = λ o. absurd (z o);
        id = λ o. absurd (z o);
        clear = λ o. absurd (z o);
        net = λ o. absurd (z o);
        back = λ _. e ∙ rw s kept_ids;
      }

    -- after growth that nothing stops
    module _ (bytes : (i : ℕ) → get_or ar i 0 < 256) (most border next stop : ℕ) (ids₂ ws₂ : List ℕ)
        (f : Raised (lent w h is ks ar cs) dist most border table ids next stop ids₂ ws₂) (o : stop ≡ 0) (n₂ : length ws₂ ≡ length ws) where
      byte : (s : ℕ) → s < spans (net_of (lent w h is ks ar cs)) → area_of (net_of (lent w h is ks ar cs)) s < 256
      byte = net_bytes (lent w h is ks ar cs) (areas_are_bytes w h is ks ar cs bytes)

      goes : stops (lent w h is ks ar cs) dist most border ≡ 0
      goes = sym f.stops ∙ o

      grow : Grow (net_of (lent w h is ks ar cs)) (first_id border) (grown (lent w h is ks ar cs) dist most border).next (grown (lent w h is ks ar cs) dist most border).ids
      grow = grown_grow (lent w h is ks ar cs) dist most border byte goes

      pub size : length ids₂ ≡ length ar
      size = ap length (f.ids o) ∙ grow.size

      pub next_few : next + 1 ≤ length ids₂ + 6
      next_few = omega (arith, f.id o, size, (first_few border).1, (grown_room (lent w h is ks ar cs) dist most border byte goes).1)

      next_plain : next < 0x8000
      next_plain = omega (arith, f.id o, (grown_room (lent w h is ks ar cs) dist most border byte goes).0)

      pub named : Spans (next + 1) ids₂
      named = record {
        below = λ x l. elim (ℕ_discrete (get_or ids₂ x 0) 0) [
          | yes e ↦ omega (arith, e)
          | no e ↦
              let r = grow.range (get_or ids₂ x 0) x (omega (arith, e), l) (ap (λ (y : List ℕ). get_or y x 0) (sym (f.ids o))) in
              omega (arith, r.1, f.id o)
        ];
      }

      pub fits : records_end (next + 1) (length ids₂) ≤ table
      fits = omega (arith, next_few, size, placed)

      -- what making ready asks
      pub can_ready : (next + 1 ≤ 65536) × (length ar ≤ most_spans) × (growth_room (length ar) ≤ length ws₂) × (floors_from (next + 1) (length ar) ≤ length ws₂)
          × Clear 0 (growth_room (length ar)) ws₂
      can_ready = (omega (arith, next_plain), few, omega (arith, n₂, a.room), omega (arith, next_few, size, n₂, a.room), f.clear o)

      -- the workspace made ready
      module _ (ws₃ : List ℕ) (n₃ : length ws₃ ≡ length ws₂) (r : Readied (next + 1) (length ar) ws₂ ws₃) where
        pub given : Given (lent w h is ks ar cs) ids₂ table ws₃
        given = record {
          sound = a.sound;
          idents = size;
          net = net_same table ar ws₂ ws₃ (omega (arith, n₂, a.room, placed)) n₃ (λ x l. r.after x (omega (arith, next_few, size, placed))) ∙ f.net o;
          room = omega (arith, n₃, n₂, a.room, placed);
          place = omega (arith, few, placed);
        }

        pub blank : Blank ids₂ (next + 1) ws₃
        blank = record {
          few = omega (arith, next_plain);
          spans = omega (arith, size, few);
          room = omega (arith, next_few, size, n₃, n₂, a.room);
          below = λ x e. named.below x (plain_true _ e).1;
          zeros = λ j l. r.clear.blank j (omega arith) (omega (arith, size));
        }

        -- after the records
        module _ (ws₄ : List ℕ) (B : Built (lent w h is ks ar cs) ids₂ next ws₃ ws₄) where
          pub ready : Ready (next + 1) (length ar) ws₄ ids₂
          ready =
              rw (← size)
              (handed (lent w h is ks ar cs) ids₂ table next ws₃ ws₄ given B next_few (omega (arith, size, few))
              (omega (arith, next_few, size, B.size, n₃, n₂, a.room)) named)

          -- and after the numbering
          pub whole : (least area : ℕ) (v : Regions) → v ≡ numbered (merged area (suc (next + 1)) (filtered least (recs_of ws₄ (next + 1)))) ids₂
              → v ≡ regions (lent w h is ks ar cs) least area (grown (lent w h is ks ar cs) dist most border).ids (grown (lent w h is ks ar cs) dist most border).next
          unfolding regions
          whole least area v e =
              let rs = filtered least (records (lent w h is ks ar cs) ids₂ next) in
              let m : suc (next + 1) ≡ suc (length rs) = omega (arith, filtered-length least (records (lent w h is ks ar cs) ids₂ next), records-length (lent w h is ks ar cs) ids₂ next) in
              e ∙ rw (B.same, m, f.ids o, f.id o)

-- a part that is zeroed past zeros
pub readied_more : (m n : ℕ) (ws ws' : List ℕ) → Clear 0 (growth_room n) ws → Clear (growth_room n) (floors_from m n) ws' → Frame (growth_room n) (floors_from m n) ws ws' → Readied m n ws ws'
readied_more m n ws ws' z c f = record {
  clear = record {
    blank = λ x _ u. elim (dec_lt x (growth_room n)) [
      | yes l ↦ get_or_before x f l ∙ z.blank x (omega arith) l
      | no l ↦ c.blank x (omega arith) u
    ];
  };
  after = λ j l. get_d_after j f l;
}

-- zeros that reach far enough
pub readied_none : (m n : ℕ) (ws : List ℕ) → Clear 0 (growth_room n) ws → floors_from m n ≤ growth_room n → Readied m n ws ws
readied_none m n ws z h = record { clear = record { blank = λ x l u. z.blank x l (omega arith) }; after = λ _ _. refl }

-- what the stages find
module _ (F : Field) (dist : List ℕ) (most table : ℕ) (z : Sizes) (ids : List ℕ) (next stop : ℕ) (ids₁ ws₁ : List ℕ)
    (g : Raised F dist most z.border table ids next stop ids₁ ws₁) where
  pub finds_stop : (stop ≡ 0 → ⊥) → (k : ℕ) → k ≡ stop → (v : Regions) → v.ids ≡ ids₁ → Finds F dist most z ids k v
  finds_stop o k s v e = record { stops = s ∙ g.stops; done = λ q. absurd (o (sym s ∙ q)); back = λ _. e ∙ g.back o }

  pub finds-regions : stop ≡ 0 → (v : Regions)
      → v ≡ regions F z.least z.merge (grown F dist most z.border).ids (grown F dist most z.border).next
      → Finds F dist most z ids 0 v
  finds-regions o v p = record { stops = sym o ∙ g.stops; done = λ _. p; back = λ q. absurd (q refl) }
