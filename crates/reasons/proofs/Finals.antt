-- What a span's grown id comes to: a flagged id stays, an id whose record the filter removed comes to 0, and every other to a number that is neither 0 nor flagged.
-- A merge renames live records to live ones; the ids numbered are distinct, not 0 and at most the next id, so each number is below 0x8000; and its rank is above 0.
use Prim.Native.Nat.{ℕ, zero, suc, ◌≤◌, ◌<◌}
use native.Mathlib.Omega.{arith}
use native.Mathlib.Decide.{dec_lt, ℕ_discrete}
use mathlib.Core.Path.{◌≡◌, refl, sym, ap, ◌∙◌}
use mathlib.Core.Bool.{true}
use mathlib.Core.Logic.Iff
use mathlib.Core.Logic.{◌↔◌}
use mathlib.Core.List.{List, [], ◌∷◌, map}
use lib.ListN.{length, get_or, length-map, get_or-map}
use lib.Dec.{eqb}
use borrow.Author.Tests.{eqb-true, eqb-false, eq-eqb, le-leb, lt-leb}
use Rattle.rules.specs.Base.{when◌then◌else◌, upto, any}
use Rattle.rules.specs.Field.{Field, Bytes, spans}
use Rattle.rules.specs.Net.{net_of}
use Rattle.rules.specs.Growth.{flagged, plain, first_id, grown, stops}
use Rattle.rules.specs.Records.{Rec, at, has, records}
use Rattle.rules.specs.Merge.{picked, Merge, merge_one, merged}
use Rattle.rules.specs.Numbering.{live, number_of, numbered, regions, in_use, rank, condensed, formed}
use Rattle.rules.specs.Outcomes.{Sizes}
use Rattle.laws.proofs.Basics.{neither, and_both, or_left, or_right, if-ind, upto-ind, tally, get_d_any, All_map, pigeonhole}
use Rattle.laws.proofs.Grows.{grown_room}
use Rattle.laws.proofs.Lengths.{regions-length}
use Rattle.laws.proofs.LiveRecords.{live_in}
use Rattle.laws.proofs.MergeEnds.{Ready, spanned, Falls, one_falls, picked-live}
use Rattle.laws.proofs.Nets.{net_bytes}
use Rattle.rooms.specs.Rooms.{Plain}
use Rattle.rooms.proofs.Joins.{true_plain}
use Rattle.rooms.proofs.Expanding.{Grow}
use Rattle.rooms.proofs.Growing.{grown_grow}
use Rattle.rooms.proofs.Listing.{under, end, records-raw, Raw}
use Rattle.rooms.proofs.Filtering.{filtered-raw}
use Rattle.rooms.proofs.Merging.{after, after_id, Sound, merged_sound, raw_sound}
use Rattle.rooms.proofs.Numbering.{place_in, live-upto, Made, Counting, counting}
use Rattle.rooms.proofs.Dense.{rank_rises}
use Rattle.reasons.specs.First.{grown_id, kept_records, last_records, built, final_id}
use Rattle.reasons.proofs.Trails.{ren_hit, ren_miss}
use Rattle.reasons.proofs.Room.{filtered_ready}

-- ---------------------------------------------------------------- a merge keeps live records live, and no others

-- record x has an id in both or in neither
abbrev Both : ℕ → List Rec → List Rec → Type 0
Both x rs rs' = ((at rs x).id ≡ 0) ↔ ((at rs' x).id ≡ 0)

-- n absorbs i, whose id is a
after_both : (rs : List Rec) (i a n x : ℕ) → (a ≡ 0 → ⊥) → (n ≡ 0 → ⊥) → Both x rs (after rs i a n)
after_both rs i a n x az nz = (
  λ e. after_id rs i a n az x ∙ ren_miss a n (at rs x).id (λ q. az (sym q ∙ e)) ∙ e,
  λ e. elim (ℕ_discrete (at rs x).id a) [
    | yes q ↦ absurd (nz (sym (ren_hit a n (at rs x).id q) ∙ sym (after_id rs i a n az x) ∙ e))
    | no q ↦ sym (ren_miss a n (at rs x).id q) ∙ sym (after_id rs i a n az x) ∙ e
  ],
)

one_both : (area i x : ℕ) (g : Merge) → Ready g.recs → Both x g.recs (merge_one area i g).recs
unfolding merge_one
one_both area i x g R =
    if-ind (λ (y : Merge). Both x g.recs y.recs) _ (λ _. Iff.rfl)
    (λ e.
    let rs = g.recs in
    let a = at rs i in
    let p = picked rs a a.list (record { size = 65536; id = a.id }) in
    let other = neither _ _ (neither _ _ e).0 in
    let az : a.id ≡ 0 → ⊥ = eqb-false _ _ (neither _ _ (neither _ _ (neither _ _ other.0).0).0).0 in
    let apart : p.id ≡ a.id → ⊥ = eqb-false _ _ other.1 in
    let found = picked-live rs a R.named a.id a.list (record { size = 65536; id = a.id }) (λ n. absurd (n refl)) apart in
    after_both rs i a.id p.id x az found.0)

-- what every merge of rs keeps
record Keeps (rs : List Rec) (x : ℕ) (g : Merge) : Type 0 where
  falls : Falls (tally spanned rs) g
  both : Both x rs g.recs

one_keeps : (area : ℕ) (rs : List Rec) (x i : ℕ) (g : Merge) → Keeps rs x g → Keeps rs x (merge_one area i g)
one_keeps area rs x i g h =
    record { falls = one_falls area (tally spanned rs) i g h.falls; both = Iff.trans h.both (one_both area i x g h.falls.ready) }

merged_both : (area k : ℕ) (rs : List Rec) (x : ℕ) → Ready rs → Both x rs (merged area k rs)
unfolding merged
merged_both area zero rs x R = Iff.rfl
merged_both area (suc k) rs x R =
    let start : Merge = record { recs = rs; merges = 0 } in
    let g = upto (length rs) (merge_one area) start in
    let h = upto-ind (λ i (y : Merge). Keeps rs x y) (merge_one area) start (length rs)
    (record { falls = record { ready = R; sum = omega arith }; both = Iff.rfl }) (λ i y _ p. one_keeps area rs x i y p) in
    if-ind (λ (y : List Rec). Both x rs y) _ (λ _. Iff.rfl) (λ _. Iff.trans h.both (merged_both area k g.recs x h.falls.ready))

-- ---------------------------------------------------------------- lists of ids

map_at : (f : ℕ → ℕ) (l : List ℕ) (s : ℕ) → s < length l → get_or (map f l) s 0 ≡ f (get_or l s 0)
map_at f l s h = get_d_any (map f l) s 0 (f 0) (rw (length-map l f) h) ∙ get_or-map f l s 0

has-at : (l : List ℕ) (s : ℕ) → s < length l → has l (get_or l s 0) ≡ true
unfolding any
has-at [] s h = absurd (omega arith)
has-at (x ∷ l) zero h = or_left (eqb x x) (any (eqb x) l) (eq-eqb x x refl)
has-at (x ∷ l) (suc s) h = or_right (eqb (get_or l s 0) x) (any (eqb (get_or l s 0)) l) (has-at l s (omega arith))

rank_below : (ids : List ℕ) (k : ℕ) → rank ids k ≤ k
unfolding rank
rank_below ids zero = omega arith
rank_below ids (suc k) = let h = rank_below ids k in if-ind (λ (n : ℕ). n ≤ suc k) (in_use ids (suc k)) (λ _. omega arith) (λ _. omega arith)

-- the rank of an id that some span bears
rank-plain : (ids : List ℕ) (s : ℕ) → s < length ids → Plain (get_or ids s 0) → Plain (rank ids (get_or ids s 0))
unfolding in_use rank
rank-plain ids s h p =
    let u : in_use ids (get_or ids s 0) ≡ true = and_both (plain (get_or ids s 0)) (has ids (get_or ids s 0)) (true_plain (get_or ids s 0) p) (has-at ids s h) in
    (omega (arith, rank_rises ids 0 (get_or ids s 0) p.0 u), omega (arith, rank_below ids (get_or ids s 0), p.1))

-- ---------------------------------------------------------------- a choice by the flag

if-flagged : (r a b : ℕ) → 0x8000 ≤ r → (when flagged r then a else b) ≡ a
unfolding when◌then◌else◌
if-flagged r a b h = rw (le-leb 0x8000 r h)

if-plain : (r a b : ℕ) → r < 0x8000 → (when flagged r then a else b) ≡ b
unfolding when◌then◌else◌
if-plain r a b h = rw (lt-leb 0x8000 r h)

number_none : (l : List ℕ) (c : ℕ) → c ≡ 0 → number_of l c ≡ 0
unfolding number_of when◌then◌else◌
number_none l c e = rw (eq-eqb c 0 e)

rank-none : (ids : List ℕ) → rank ids 0 ≡ 0
unfolding rank
rank-none ids = refl

-- ---------------------------------------------------------------- the build

module _ (F : Field) (dist : List ℕ) (most : ℕ) (z : Sizes) (bytes : Bytes F) (o : stops F dist most z.border ≡ 0) where
  abbrev first : ℕ
  first = first_id z.border

  abbrev next : ℕ
  next = (grown F dist most z.border).next

  abbrev ids : List ℕ
  ids = (grown F dist most z.border).ids

  abbrev rs : List Rec
  rs = last_records F dist most z

  pub grow : Grow (net_of F) first next ids
  grow = grown_grow F dist most z.border (net_bytes F bytes) o

  few : next < 0x8000
  few = (grown_room F dist most z.border (net_bytes F bytes) o).0

  pub raw : Raw (net_of F) first next ids (kept_records F dist most z)
  raw = filtered-raw (net_of F) first next ids grow z.least (records F ids next) (records-raw F first next ids grow)

  sound : Sound (net_of F) first next ids rs
  sound =
      let kept = kept_records F dist most z in
      merged_sound (net_of F) first next ids grow few z.merge (suc (length kept)) kept (raw_sound (net_of F) first next ids grow few kept raw)

  counts : Counting (λ j. (at rs j).id) first (suc next) (live rs [])
  counts = rw (live-upto rs [], sound.size) (counting (λ j. (at rs j).id) first (λ j h. sound.outer j (under h)) (suc next))

  -- the ids numbered are at most the next id
  made_below : (r : ℕ) → Made (λ j. (at rs j).id) (suc next) r → r < suc next
  made_below r m =
      elim (dec_lt m.rec first) [
        | yes u ↦ omega (arith, m.is, m.under, sound.outer m.rec (under u))
        | no u ↦ elim (ℕ_discrete m.rec next) [
          | yes e ↦ omega (arith, m.is, sound.outer m.rec (end e))
          | no e ↦
              let i = sound.range m.rec (omega arith, omega (arith, m.under)) (λ q. m.some (sym m.is ∙ q)) in
              omega (arith, m.is, i.1)
        ]
      ]

  -- and there are no more of them than that, as 0 is none of them
  live_few : length (live rs []) ≤ next
  live_few =
      omega (
        arith,
        pigeonhole (suc next) (0 ∷ live rs [])
            (All_map (live rs []) (λ r m. m.some) counts.made, counts.apart) (omega arith, All_map (live rs []) made_below counts.made),
      )

  number_plain : (r : ℕ) → ((at rs r).id ≡ 0 → ⊥) → Plain (number_of (live rs []) (at rs r).id)
  unfolding number_of
  number_plain r n =
      if-ind Plain (eqb (at rs r).id 0) (λ e. absurd (n (eqb-true _ _ e)))
      (λ _.
      let w = place_in (live rs []) (at rs r).id (counts.each r (omega (arith, live_in rs r n, sound.size)) n) in
      (omega arith, omega (arith, w.0, live_few, few)))

  -- the number of a span in the compared form, and in the dense form
  number_is : (s : ℕ) → s < spans F
      → (let r = grown_id F dist most z s in get_or (built F dist most z).ids s 0 ≡ (when flagged r then r else number_of (live rs []) (at rs r).id))
  unfolding regions numbered
  number_is s h = map_at (λ r. when flagged r then r else number_of (live rs []) (at rs r).id) ids s (omega (arith, grow.size))

  dense_is : (s : ℕ) → s < spans F
      → (let n = get_or (built F dist most z).ids s 0 in final_id F dist most z s ≡ (when flagged n then n else rank (built F dist most z).ids n))
  unfolding formed condensed
  dense_is s h =
      map_at (λ r. when flagged r then r else rank (built F dist most z).ids r) (built F dist most z).ids s
      (omega (arith, grow.size, regions-length F z.least z.merge ids next))

  -- a flagged id stays
  pub final_painted : (s : ℕ) → s < spans F → 0x8000 ≤ grown_id F dist most z s → final_id F dist most z s ≡ grown_id F dist most z s
  final_painted s h f =
      let n = number_is s h ∙ if-flagged (grown_id F dist most z s) _ _ f in
      dense_is s h ∙ if-flagged (get_or (built F dist most z).ids s 0) _ _ (rw n f) ∙ n

  -- an id whose record is removed comes to 0
  pub final_none : (s : ℕ) → s < spans F → grown_id F dist most z s < 0x8000 → (at (kept_records F dist most z) (grown_id F dist most z s)).id ≡ 0
      → final_id F dist most z s ≡ 0
  final_none s h f e =
      let kept = kept_records F dist most z in
      let r = grown_id F dist most z s in
      let gone : (at rs r).id ≡ 0 = (merged_both z.merge (suc (length kept)) kept r (filtered_ready F z.least ids next)).0 e in
      let n : get_or (built F dist most z).ids s 0 ≡ 0 = number_is s h ∙ if-plain r _ _ f ∙ number_none (live rs []) (at rs r).id gone in
      dense_is s h ∙ if-plain (get_or (built F dist most z).ids s 0) _ _ (omega arith) ∙ ap (rank (built F dist most z).ids) n ∙ rank-none (built F dist most z).ids

  -- every other to the rank of its record's number
  module _ (s : ℕ) (h : s < spans F) (f : grown_id F dist most z s < 0x8000) (Live_on : (at (kept_records F dist most z) (grown_id F dist most z s)).id ≡ 0 → ⊥) where
    number_room : get_or (built F dist most z).ids s 0 ≡ number_of (live rs []) (at rs (grown_id F dist most z s)).id
    number_room = number_is s h ∙ if-plain (grown_id F dist most z s) _ _ f

    plain_room : Plain (get_or (built F dist most z).ids s 0)
    plain_room =
        let kept = kept_records F dist most z in
        let r = grown_id F dist most z s in
        rw number_room (number_plain r (λ e. Live_on ((merged_both z.merge (suc (length kept)) kept r (filtered_ready F z.least ids next)).1 e)))

    rank_room : final_id F dist most z s ≡ rank (built F dist most z).ids (get_or (built F dist most z).ids s 0)
    rank_room = dense_is s h ∙ if-plain (get_or (built F dist most z).ids s 0) _ _ plain_room.1

    pub final_number : final_id F dist most z s ≡ rank (built F dist most z).ids (number_of (live rs []) (at rs (grown_id F dist most z s)).id)
    final_number = rank_room ∙ ap (rank (built F dist most z).ids) number_room

    pub final_plain : Plain (final_id F dist most z s)
    final_plain = rw rank_room (rank-plain (built F dist most z).ids s (omega (arith, grow.size, regions-length F z.least z.merge ids next)) plain_room)
