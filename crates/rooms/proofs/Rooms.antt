-- Demand 3, whole: in every field that is not refused, each region is a room. Assumes nothing.
use Prim.Native.Nat.{ℕ, zero, suc, ◌-◌, ◌≤◌, ◌<◌}
use native.Mathlib.Omega.{arith}
use native.Mathlib.Decide.{dec_lt}
use mathlib.Core.Path.{◌≡◌, refl, sym, ap, ◌∙◌}
use mathlib.Core.Bool.{true, false, not, true≢false}
use mathlib.Core.List.{List, [], ◌∷◌, ◌++◌, map}
use lib.ListN.{length, get_or, length-append}
use lib.Dec.{eqb}
use borrow.Author.Tests.{eqb-true, eqb-false, lt-leb, leb-true, not-false}
use Rattle.rules.specs.Base.{when◌then◌else◌, upto}
use Rattle.rules.specs.Field.{Field, Bytes}
use Rattle.rules.specs.Net.{Net, net_of, spans}
use Rattle.rules.specs.Refusals.{refusal, region_refusal}
use Rattle.rules.specs.Growth.{flagged, first_id, grown, stops}
use Rattle.rules.specs.Records.{Rec, at, has, records}
use Rattle.rules.specs.Filter.{filtered}
use Rattle.rules.specs.Merge.{place, merged}
use Rattle.rules.specs.Numbering.{live, number_of, numbered, regions}
use Rattle.laws.proofs.Basics.{if-ind, All_map, pigeonhole, nonzero_in, all_at}
use Rattle.laws.proofs.Cells.{passed}
use Rattle.laws.proofs.Nets.{net_bytes}
use Rattle.laws.proofs.Grows.{grown_room}
use Rattle.rooms.specs.Rooms.{Plain, Bears, Rooms}
use Rattle.rooms.specs.Linked.{Linked, LinkedRooms}
use Rattle.rooms.proofs.Joins.{joined-map}
use Rattle.rooms.proofs.Forward.{rooms_forward}
use Rattle.rooms.proofs.Expanding.{Grow}
use Rattle.rooms.proofs.Growing.{grown_grow}
use Rattle.rooms.proofs.Listing.{under, end, records-raw}
use Rattle.rooms.proofs.Filtering.{filtered-raw}
use Rattle.rooms.proofs.Merging.{cls, Sound, cls_record, merged_sound, raw_sound}
use Rattle.rooms.proofs.Numbering.{place_in, place_at, place-left, add, live-upto, Made, Counting, counting, add_last}

get_or_map0 : (φ : ℕ → ℕ) → φ 0 ≡ 0 → (ids : List ℕ) (s : ℕ) → get_or (map φ ids) s 0 ≡ φ (get_or ids s 0)
get_or_map0 φ e [] s = sym e
get_or_map0 φ e (x ∷ ids) zero = refl
get_or_map0 φ e (x ∷ ids) (suc s) = get_or_map0 φ e ids s

length_map' : (φ : ℕ → ℕ) (ids : List ℕ) → length (map φ ids) ≡ length ids
length_map' φ [] = refl
length_map' φ (x ∷ ids) = ap suc (length_map' φ ids)

number_zero : (l : List ℕ) (c : ℕ) → c ≡ 0 → number_of l c ≡ 0
unfolding number_of
number_zero l c e = if-ind (λ (n : ℕ). n ≡ 0) (eqb c 0) (λ _. refl) (λ k. absurd (eqb-false _ _ k e))

number_some : (l : List ℕ) (c : ℕ) → (c ≡ 0 → ⊥) → number_of l c ≡ suc (place l c)
unfolding number_of
number_some l c z = if-ind (λ (n : ℕ). n ≡ suc (place l c)) (eqb c 0) (λ k. absurd (z (eqb-true _ _ k))) (λ _. refl)

-- the id of a span at last, from its id as grown
abbrev final : List Rec → List ℕ → ℕ → ℕ
final rs l r = when flagged r then r else number_of l (at rs r).id

module _ (N : Net) (first next : ℕ) (ids : List ℕ) (g : Grow N first next ids) (few : next < 0x8000) (rs : List Rec) (h : Sound N first next ids rs) where
  -- numbered before the last record
  front : List ℕ
  front = upto next (add (λ j. (at rs j).id)) []

  self : (j : ℕ) → j < first → (at rs j).id ≡ j
  self j k = h.outer j (under k)

  tally : Counting (λ j. (at rs j).id) first next front
  unfolding front
  tally = counting (λ j. (at rs j).id) first self next

  last_id : (at rs next).id ≡ next
  last_id = h.outer next (end refl)

  lone : (i : ℕ) → i < next → (at rs i).id ≡ (at rs next).id → ⊥
  lone i k e =
      elim (dec_lt i first) [
        | yes u ↦ let a = self i u in let b = last_id in omega arith
        | no u ↦
            let b = last_id in
            let r = h.range i (omega arith, k) (λ z. omega (arith, g.some, g.ahead)) in
            omega (arith, r)
      ]

  live_is : live rs [] ≡ front ++ (next ∷ [])
  unfolding front
  live_is =
      let f : ℕ → ℕ = λ j. (at rs j).id in
      live-upto rs [] ∙ ap (λ (n : ℕ). upto n (add f) []) h.size
      ∙ add_last f first self next (λ z. let b = last_id in omega (arith, g.some, g.ahead)) lone
      ∙ ap (λ (n : ℕ). upto next (add f) [] ++ (n ∷ [])) last_id

  has_cls : (s : ℕ) → (cls ids rs s ≡ 0 → ⊥) → has front (cls ids rs s) ≡ true
  has_cls s z =
      let n = cls_record N first next ids rs g few h.size (self 0 g.some) s z in
      tally.each (get_or ids s 0) n.1 z

  final_zero : final rs (live rs []) 0 ≡ 0
  final_zero = if-ind (λ (n : ℕ). n ≡ 0) (flagged 0) (λ _. refl) (λ _. number_zero (live rs []) (at rs 0).id (self 0 g.some))

  final_class : (s : ℕ) → (cls ids rs s ≡ 0 → ⊥) → final rs (live rs []) (get_or ids s 0) ≡ suc (place front (cls ids rs s))
  final_class s z =
      let r = get_or ids s 0 in
      let n = cls_record N first next ids rs g few h.size (self 0 g.some) s z in
      let u : flagged r ≡ false = lt-leb 0x8000 r (omega arith) in
      if-ind (λ (x : ℕ). x ≡ suc (place front (cls ids rs s))) (flagged r)
      (λ e. absurd (true≢false (sym e ∙ u)))
      (λ _. number_some (live rs []) (cls ids rs s) z ∙ ap suc (ap (λ (l : List ℕ). place l (cls ids rs s)) live_is ∙ place-left front (next ∷ []) (cls ids rs s) (has_cls s z)))

  -- a span of a plain number has a class
  final_live : (k s : ℕ) → Plain k → final rs (live rs []) (get_or ids s 0) ≡ k → cls ids rs s ≡ 0 → ⊥
  final_live k s p e z =
      let r = get_or ids s 0 in
      if-ind (λ (x : ℕ). x ≡ k → ⊥) (flagged r)
      (λ f q. omega (arith, leb-true 0x8000 r f))
      (λ _ q. omega (arith, number_zero (live rs []) (cls ids rs s) z))
      e

  -- the ids at last
  ends : List ℕ
  ends = map (final rs (live rs [])) ids

  ends_at : (s : ℕ) → get_or ends s 0 ≡ final rs (live rs []) (get_or ids s 0)
  unfolding ends
  ends_at s = get_or_map0 (final rs (live rs [])) final_zero ids s

  record Numbers (k s : ℕ) : Type 0 where
    live : cls ids rs s ≡ 0 → ⊥
    under : k - 1 < length front
    is : suc (place front (cls ids rs s)) ≡ k
    cls_is : cls ids rs s ≡ get_or front (k - 1) 0

  numbers : (k s : ℕ) → Plain k → Bears ends k s → Numbers k s
  numbers k s p b =
      let e : final rs (live rs []) (get_or ids s 0) ≡ k = sym (ends_at s) ∙ b in
      let z = final_live k s p e in
      let is : suc (place front (cls ids rs s)) ≡ k = sym (final_class s z) ∙ e in
      let w = place_in front (cls ids rs s) (has_cls s z) in
      let q : place front (cls ids rs s) ≡ k - 1 = omega arith in
      record { live = z; under = rw (← q) w.0; is = is; cls_is = sym w.1 ∙ ap (λ (y : ℕ). get_or front y 0) q }

  same_class : (k s t : ℕ) → Plain k → Bears ends k s → Bears ends k t → cls ids rs s ≡ cls ids rs t
  same_class k s t p x y = (numbers k s p x).cls_is ∙ sym (numbers k t p y).cls_is

  rooms_used : (k s : ℕ) → Plain k → Bears ends k s → (first ≤ k) × (k < suc (length front))
  rooms_used k s p b =
      let n = numbers k s p b in
      let inner = h.range (get_or ids s 0) (cls_record N first next ids rs g few h.size (self 0 g.some) s n.live) n.live in (
        elim (dec_lt k first) [
          | yes u ↦ let e : get_or front (k - 1) 0 ≡ suc (k - 1) = tally.low (k - 1) (omega arith) (omega (arith, g.ahead)) in absurd (let c = n.cls_is in omega (arith, inner))
          | no u ↦ omega arith
        ],
        omega (arith, n.under),
      )

  -- past the numbers of the records below the first id
  made_up : (i j : ℕ) → i < length front → first ≤ suc i → j < next → (get_or front i 0 ≡ 0 → ⊥) → (at rs j).id ≡ get_or front i 0 → j < first → ⊥
  made_up i j il a n nz e u =
      let sj = self j u in
      let jz : j ≡ 0 → ⊥ = λ z. nz (sym e ∙ sj ∙ z) in
      let lo : get_or front (j - 1) 0 ≡ suc (j - 1) = tally.low (j - 1) (omega arith) (omega arith) in
      let lj : j - 1 < length front = nonzero_in front (j - 1) (λ z. omega arith) in
      let here : get_or front (j - 1) 0 ≡ get_or front i 0 = omega arith in
      let x = place_at front (j - 1) tally.apart lj in
      let y = place_at front i tally.apart il in
      let w : place front (get_or front (j - 1) 0) ≡ place front (get_or front i 0) = ap (place front) here in
      omega arith

  -- a span of a record that bears the number i + 1
  borne_at : (i j s : ℕ) → i < length front → (get_or front i 0 ≡ 0 → ⊥) → (at rs j).id ≡ get_or front i 0 → Bears ids j s → Bears ends (suc i) s
  borne_at i j s il nz e b =
      let c : cls ids rs s ≡ get_or front i 0 = ap (λ (y : ℕ). (at rs y).id) b ∙ e in
      let p : place front (cls ids rs s) ≡ i = ap (place front) c ∙ place_at front i tally.apart il in
      ends_at s ∙ final_class s (λ q. nz (sym c ∙ q)) ∙ ap suc p

  borne_made : (i : ℕ) → i < length front → first ≤ suc i → Made (λ j. (at rs j).id) next (get_or front i 0) → (s : ℕ) × Bears ends (suc i) s
  borne_made i il a m =
      let up : first ≤ m.rec = elim (dec_lt m.rec first) [ yes u ↦ absurd (made_up i m.rec il a m.under m.some m.is u) | no u ↦ omega arith ] in
      let w = g.borne m.rec up m.under in
      (w.0, borne_at i m.rec w.0 il m.some m.is w.1)

  rooms_borne : (k : ℕ) → first ≤ k → k < suc (length front) → (s : ℕ) × Bears ends k s
  rooms_borne zero a b = absurd (omega (arith, g.some))
  rooms_borne (suc i) a b = borne_made i (omega arith) a (all_at (Made (λ j. (at rs j).id) next) front i tally.made (omega arith))

  rooms_join : (k s t : ℕ) → Plain k → Bears ends k s → Bears ends k t → Linked N (Bears ends k) s t
  rooms_join k s t p x y =
      let n = numbers k s p x in
      joined-map N (λ u q. ends_at u ∙ final_class u (λ z. n.live (sym q ∙ z)) ∙ ap suc (ap (place front) q) ∙ n.is)
      (h.join (cls ids rs s) s t n.live refl (sym (same_class k s t p x y)))

  made_below : (r : ℕ) → Made (λ j. (at rs j).id) next r → r < next
  made_below r m =
      elim (dec_lt m.rec first) [
        | yes u ↦ let a = self m.rec u in omega (arith, m.is, m.under)
        | no u ↦ let a = h.range m.rec (omega arith, m.under) (λ z. m.some (sym m.is ∙ z)) in omega (arith, m.is)
      ]

  rooms_few : suc (length front) ≤ 0x8000
  rooms_few = let b = pigeonhole next front tally.apart (All_map front made_below tally.made) in omega arith

  bears_in : (k s : ℕ) → 0 < k → Bears ends k s → s < spans N
  unfolding ends
  bears_in k s p b = rw (← g.size, ← length_map' (final rs (live rs [])) ids) (nonzero_in ends s (λ z. let q : k ≡ 0 = sym b ∙ z in omega arith))

  pub numbered_rooms : LinkedRooms N first (numbered rs ids).ids (numbered rs ids).most
  unfolding numbered ends
  numbered_rooms =
      let m : length (live rs []) ≡ suc (length front) = ap length live_is ∙ length-append front (next ∷ []) ∙ omega arith in
      record {
        size = length_map' (final rs (live rs [])) ids ∙ g.size;
        bare = λ s a. ends_at s ∙ ap (final rs (live rs [])) (g.bare s a) ∙ final_zero;
        one = λ k s t p x y.
            let n = numbers k s p x in
            h.area (get_or ids s 0) s n.live refl ∙ sym (h.area (get_or ids s 0) t n.live (sym (same_class k s t p x y)));
        join = rooms_join;
        used = λ k s p b. rw m (rooms_used k s p b);
        borne = λ k a b.
            let w = rooms_borne k a (rw m at b) in
            let pos : 0 < k = omega (arith, g.some) in
            ((pos, omega (arith, rooms_few)), (w.0, bears_in k w.0 pos w.1, w.1));
      }

-- demand 3
pub rooms : (F : Field) (lens : List ℕ) → refusal F lens ≡ 0 → Bytes F
    → (dist : List ℕ) (most b least area : ℕ) → stops F dist most b ≡ 0
    → Rooms F (first_id b) (regions F least area (grown F dist most b).ids (grown F dist most b).next).ids
    (regions F least area (grown F dist most b).ids (grown F dist most b).next).most
unfolding regions
rooms F lens ok bytes dist most b least area o =
    let first = first_id b in
    let ids = (grown F dist most b).ids in
    let next = (grown F dist most b).next in
    let nets = net_bytes F bytes in
    let g = grown_grow F dist most b nets o in
    let small : next < 0x8000 = (grown_room F dist most b nets o).0 in
    let rs = filtered least (records F ids next) in
    let raw = filtered-raw (net_of F) first next ids g least (records F ids next) (records-raw F first next ids g) in
    rooms_forward F lens (passed F lens ok) first _ _ (numbered_rooms (net_of F) first next ids g small (merged area (suc (length rs)) rs) (merged_sound (net_of F) first next ids g small area (suc (length rs)) rs (raw_sound (net_of F) first next ids g small rs raw)))

-- the first id of a room
pub first_is : (b : ℕ) → (b ≡ 0 → first_id b ≡ 1) × (0 < b → first_id b ≡ 5)
unfolding first_id
first_is b = (
  (λ e. if-ind (λ (n : ℕ). n ≡ 1) (eqb b 0) (λ _. refl) (λ k. absurd (eqb-false _ _ k e))),
  (λ h. if-ind (λ (n : ℕ). n ≡ 5) (eqb b 0) (λ k. absurd (let z = eqb-true b 0 k in omega arith)) (λ _. refl)),
)

-- what the region entry does not refuse, the checks of the field do not
pub accepted : (F : Field) (lens : List ℕ) (work : ℕ) (dist : List ℕ) (most : ℕ) → region_refusal F lens work dist most ≡ 0 → refusal F lens ≡ 0
unfolding region_refusal
accepted F lens work dist most =
    if-ind (λ (n : ℕ). n ≡ 0 → refusal F lens ≡ 0) (not (eqb (refusal F lens) 0)) (λ _ e. e) (λ k _. eqb-true _ _ (not-false _ k))

-- demand 3 for the region entry
pub entry_rooms : (F : Field) (lens : List ℕ) (work : ℕ) (dist : List ℕ) (most : ℕ) → region_refusal F lens work dist most ≡ 0
    → Bytes F → (b least area : ℕ) → stops F dist most b ≡ 0
    → Rooms F (first_id b) (regions F least area (grown F dist most b).ids (grown F dist most b).next).ids
    (regions F least area (grown F dist most b).ids (grown F dist most b).next).most
entry_rooms F lens work dist most e bytes b least area o = rooms F lens (accepted F lens work dist most e) bytes dist most b least area o
