-- The record as the caller gets it, of the entry's outcome: zeros where refused and for an id that shows nothing, and otherwise what the request says, with nothing
-- rounded. The limits that exactness asks for are what refusals 1, 2, 3 and 9 leave. Assumes nothing.
use Prim.Native.Nat.{ℕ, suc, ◌+◌, ◌*◌, ◌≤◌, ◌<◌}
use native.Mathlib.Omega.{arith}
use native.Mathlib.Nat.{mul-le-mul}
use mathlib.Core.Path.{◌≡◌, refl, sym, ap, subst, ◌∙◌}
use mathlib.Core.Bool.{true, false, not}
use mathlib.Core.List.{List, []}
use lib.ListN.{length, get_or}
use lib.Dec.{eqb}
use lib.Ieee.{Float}
use lib.Ieee.Exact.{HasValue}
use borrow.Author.Tests.{eqb-true, eqb-false, leb-true, leb-false, ltb-false, not-true, not-false}
use Rattle.rules.specs.Base.{when◌then◌else◌}
use Rattle.rules.specs.Field.{Field, spans, area_of}
use Rattle.rules.specs.Refusals.{too_wide, too_many, wrong_length, refusal}
use Rattle.rules.specs.Growth.{flagged}
use Rattle.rules.specs.Sizes.{Extent, nothing, extent, shown, extent_of, RoomSize, sized, zeros, wrong_scale, too_great, wrong_ids, measure_refusal, MeasureOutcome, measure_outcome}
use Rattle.laws.specs.Sums.{sum_to}
use Rattle.laws.proofs.Sums.{sum_same}
use Rattle.laws.proofs.Basics.{both, neither, if-ind}
use Rattle.laws.proofs.Cells.{passed}
use Rattle.extents.proofs.Meaning.{ExactSize, size_exact, nothing_is_zeros, spans_with, extent_count}
use Rattle.extents.proofs.Counts.{none_of, within, is_shown, counts_come_to_n}
use Rattle.extents.proofs.Edges.{column_of, row_of, Inside, spans_inside, Some, edges_touched, First, first_of, first_area, no_span}

-- ---------------------------------------------------------------- what no refusal leaves

pub record Admits (F : Field) (ids : List ℕ) (most k : ℕ) : Type 0 where
  pub sound : refusal F [] ≡ 0
  pub scale : wrong_scale k ≡ false
  pub listed : wrong_ids (spans F) ids most ≡ false

pub admitted : (F : Field) (ids : List ℕ) (most k : ℕ) → measure_refusal F ids most k ≡ 0 → Admits F ids most k
unfolding measure_refusal
admitted F ids most k =
    if-ind (λ (r : ℕ). r ≡ 0 → Admits F ids most k) (not (eqb (refusal F []) 0))
    (λ e h. absurd (eqb-false _ _ (not-true _ e) h))
    (λ e. if-ind (λ (r : ℕ). r ≡ 0 → Admits F ids most k) (wrong_scale k)
    (λ _ h. absurd (omega (arith, h)))
    (λ s. if-ind (λ (r : ℕ). r ≡ 0 → Admits F ids most k) (wrong_ids (spans F) ids most)
    (λ _ h. absurd (omega (arith, h)))
    (λ l _. record { sound = eqb-true _ _ (not-false _ e); scale = s; listed = l })))

-- the record is then that of the extent
pub record Accepts (F : Field) (ids : List ℕ) (most k id : ℕ) (o : MeasureOutcome) : Type 0 where
  pub admits : Admits F ids most k
  pub room : o.room ≡ sized k (extent_of F ids most id)

pub accepted : (F : Field) (ids : List ℕ) (most k id : ℕ) → (measure_outcome F ids most k id).refused ≡ 0 → Accepts F ids most k id (measure_outcome F ids most k id)
unfolding measure_outcome
accepted F ids most k id =
    if-ind (λ (o : MeasureOutcome). o.refused ≡ 0 → Accepts F ids most k id o) (eqb (measure_refusal F ids most k) 0)
    (λ e _. record { admits = admitted F ids most k (eqb-true _ _ e); room = refl })
    (λ e h. absurd (eqb-false _ _ e h))

-- "with a record of zeros"
pub refused_zeros : (F : Field) (ids : List ℕ) (most k id : ℕ) → ((measure_outcome F ids most k id).refused ≡ 0 → ⊥) → (measure_outcome F ids most k id).room ≡ zeros
unfolding measure_outcome
refused_zeros F ids most k id =
    if-ind (λ (o : MeasureOutcome). (o.refused ≡ 0 → ⊥) → o.room ≡ zeros) (eqb (measure_refusal F ids most k) 0) (λ _ n. absurd (n refl)) (λ _ _. refl)

-- the refusal is the same for every id
pub refused_is : (F : Field) (ids : List ℕ) (most k id : ℕ) → (measure_outcome F ids most k id).refused ≡ measure_refusal F ids most k
unfolding measure_outcome
refused_is F ids most k id =
    if-ind (λ (o : MeasureOutcome). o.refused ≡ measure_refusal F ids most k) (eqb (measure_refusal F ids most k) 0) (λ e. sym (eqb-true (measure_refusal F ids most k) 0 e)) (λ _. refl)

-- ---------------------------------------------------------------- zeros

-- an id that shows nothing: "A flagged id, one without spans and one outside 1 to max_region"
pub data Silent (F : Field) (ids : List ℕ) (most id : ℕ) : Type 0 where
  bears_flag : 0x8000 ≤ id → Silent F ids most id
  is_zero : id ≡ 0 → Silent F ids most id
  is_above : most < id → Silent F ids most id
  no_spans : ((s : ℕ) → s < spans F → get_or ids s 0 ≡ id → ⊥) → Silent F ids most id

not-shown : (most id : ℕ) → (shown most id ≡ true → ⊥) → (F : Field) (ids : List ℕ) → extent_of F ids most id ≡ nothing
unfolding extent_of
not-shown most id n F ids = if-ind (λ (e : Extent). e ≡ nothing) (shown most id) (λ t. absurd (n t)) (λ _. refl)

-- from 1 to max_region and unflagged
pub shown_is : (most id : ℕ) → shown most id ≡ true → (0 < id) × (id ≤ most) × (id < 0x8000)
unfolding shown
shown_is most id e =
    let a = both _ _ e in
    let b = both _ _ a.0 in
    (leb-true 1 id b.0, leb-true id most b.1, leb-false 0x8000 id (not-true _ a.1))

silent_nothing : (F : Field) (ids : List ℕ) (most id : ℕ) → Silent F ids most id → extent_of F ids most id ≡ nothing
unfolding extent_of
silent_nothing F ids most id (bears_flag h) = not-shown most id (λ t. let q = shown_is most id t in omega (arith, q.2)) F ids
silent_nothing F ids most id (is_zero h) = not-shown most id (λ t. let q = shown_is most id t in omega (arith, q.0)) F ids
silent_nothing F ids most id (is_above h) = not-shown most id (λ t. let q = shown_is most id t in omega (arith, q.1)) F ids
silent_nothing F ids most id (no_spans n) = if-ind (λ (e : Extent). e ≡ nothing) (shown most id) (λ _. no_span F ids id n) (λ _. refl)

-- "show zeros throughout"
pub silent_zeros : (F : Field) (ids : List ℕ) (most k id : ℕ) → (measure_outcome F ids most k id).refused ≡ 0 → Silent F ids most id → (measure_outcome F ids most k id).room ≡ zeros
silent_zeros F ids most k id e s = (accepted F ids most k id e).room ∙ ap (sized k) (silent_nothing F ids most id s) ∙ nothing_is_zeros k

-- ---------------------------------------------------------------- exactness

-- what bounds the numbers of a field that is not refused
pub record Limits (F : Field) (k : ℕ) : Type 0 where
  pub cells : length F.count ≤ 65536
  pub few : spans F ≤ 65000
  pub some : 0 < k
  pub least : k ≤ 256

scale_is : (k : ℕ) → wrong_scale k ≡ false → (0 < k) × (k ≤ 256)
unfolding wrong_scale
scale_is k e = let p = neither _ _ e in let n = eqb-false k 0 p.0 in (omega (arith, n), ltb-false 256 k p.1)

cells_is : (F : Field) → wrong_length F [] ≡ false → length F.count ≡ F.w * F.h
unfolding wrong_length
cells_is F e =
    let a = both _ _ (not-false _ e) in
    let b = both _ _ a.0 in
    let c = both _ _ b.0 in
    eqb-true _ _ c.1

wide_is : (F : Field) → too_wide F ≡ false → F.w * F.h ≤ 256 * 256
unfolding too_wide
wide_is F e = let p = neither _ _ e in mul-le-mul (ltb-false 256 F.w p.0) (ltb-false 256 F.h p.1)

many_is : (F : Field) → too_many F ≡ false → spans F ≤ 65000
unfolding too_many
many_is F e = ltb-false 65000 (spans F) e

pub limits : (F : Field) (ids : List ℕ) (most k : ℕ) → Admits F ids most k → Limits F k
limits F ids most k a =
    let v = passed F [] a.sound in
    let s = scale_is k a.scale in
    record { cells = omega (arith, cells_is F v.lengths, wide_is F v.wide); few = many_is F v.many; some = s.0; least = s.1 }

-- "Each is a 64-bit float, exact", for every id
pub room_exact : (F : Field) (ids : List ℕ) (most k id : ℕ) → (measure_outcome F ids most k id).refused ≡ 0 → ExactSize k (extent_of F ids most id) (measure_outcome F ids most k id).room
room_exact F ids most k id e =
    let a = accepted F ids most k id e in
    let l = limits F ids most k a.admits in
    subst (ExactSize k (extent_of F ids most id)) (sym a.room) (size_exact F ids most k id l.cells l.few l.least)

-- ---------------------------------------------------------------- the record of an id that spans bear

-- a span of the id
abbrev pub Of : Field → List ℕ → ℕ → ℕ → Type 0
Of F ids id s = (s < spans F) × (get_or ids s 0 ≡ id)

-- v is the least value of f at a span of the id
pub record Least (F : Field) (ids : List ℕ) (id : ℕ) (f : ℕ → ℕ) (v : ℕ) : Type 0 where
  pub bound : (s : ℕ) → Of F ids id s → v ≤ f s
  pub met : (s : ℕ) × Of F ids id s × (f s ≡ v)

-- and the greatest
pub record Greatest (F : Field) (ids : List ℕ) (id : ℕ) (f : ℕ → ℕ) (v : ℕ) : Type 0 where
  pub bound : (s : ℕ) → Of F ids id s → f s ≤ v
  pub met : (s : ℕ) × Of F ids id s × (f s ≡ v)

-- the record in the request's words: "floor size is count·k·k/4096, an edge is a cell number times k/64. The edges are the least x, the greatest x plus 1, and the
-- same for z; the area code is that of the id's first span."
pub record RoomIs (F : Field) (ids : List ℕ) (k id : ℕ) (r : RoomSize) : Type 0 where
  pub some : 0 < r.count
  pub count : r.count ≡ spans_with (λ x. eqb x id) ids (spans F)
  pub floor : HasValue r.floor false (r.count * k * k) 4096
  pub left : (x : ℕ) × Least F ids id (column_of F) x × HasValue r.x_least false (x * k) 64
  pub right : (x : ℕ) × Greatest F ids id (column_of F) x × HasValue r.x_past false (suc x * k) 64
  pub low : (z : ℕ) × Least F ids id (row_of F) z × HasValue r.z_least false (z * k) 64
  pub high : (z : ℕ) × Greatest F ids id (row_of F) z × HasValue r.z_past false (suc z * k) 64
  pub area : (s : ℕ) × First F ids id s × (r.area ≡ area_of F s)

module _ (F : Field) (ids : List ℕ) (id : ℕ) where
  least_of_lem : (f : ℕ → ℕ) (v : ℕ) → ((s : ℕ) → s < spans F → get_or ids s 0 ≡ id → v ≤ f s) → Some ids id (spans F) f v → Least F ids id f v
  least_of_lem f v b t = record { bound = λ s o. b s o.0 o.1; met = (t.0, (t.1, t.2), t.3) }

  -- one past the greatest
  greatest_of : (f : ℕ → ℕ) (v k : ℕ) (x : Float) → ((s : ℕ) → s < spans F → get_or ids s 0 ≡ id → f s < v) → Some ids id (spans F) (λ s. suc (f s)) v
      → HasValue x false (v * k) 64 → (u : ℕ) × Greatest F ids id f u × HasValue x false (suc u * k) 64
  greatest_of f v k x b t h = (
    f t.0,
    record { bound = λ s o. let g = b s o.0 o.1 in omega (arith, t.3); met = (t.0, (t.1, t.2), refl) },
    subst (λ (w : ℕ). HasValue x false (w * k) 64) (sym t.3) h,
  )

  module _ (k : ℕ) (r : RoomSize) (s : ℕ) (h : s < spans F) (g : get_or ids s 0 ≡ id) (q : r ≡ sized k (extent F ids id)) (x : ExactSize k (extent F ids id) r) where
    abbrev e : Extent
    e = extent F ids id

    in_edges : (s : ℕ) → s < spans F → get_or ids s 0 ≡ id → Inside (column_of F s) (row_of F s) e
    in_edges s l f = spans_inside F ids id s l f

    count_of : r.count ≡ e.count
    unfolding sized
    count_of = ap (λ (r : RoomSize). r.count) q

    area_is : r.area ≡ e.area
    unfolding sized
    area_is = ap (λ (r : RoomSize). r.area) q

    room_of : RoomIs F ids k id r
    room_of =
        let i = in_edges s h g in
        let t = edges_touched F ids id i.some in
        let f = first_of F ids id s h g in
        record {
          some = omega (arith, i.some, count_of);
          count = count_of ∙ extent_count F ids id;
          floor = subst (λ (c : ℕ). HasValue r.floor false (c * k * k) 4096) (sym count_of) x.floor;
          left = (e.x_least, least_of_lem (column_of F) e.x_least (λ s l u. (in_edges s l u).left) t.left, x.x_least);
          right = greatest_of (column_of F) e.x_past k r.x_past (λ s l u. (in_edges s l u).right) t.right x.x_past;
          low = (e.z_least, least_of_lem (row_of F) e.z_least (λ s l u. (in_edges s l u).low) t.low, x.z_least);
          high = greatest_of (row_of F) e.z_past k r.z_past (λ s l u. (in_edges s l u).high) t.high x.z_past;
          area = (f.0, f.1, area_is ∙ first_area F ids id f.0 f.1);
        }

-- an unflagged id that a span bears is at most max_region, and so it is shown
borne_shown : (F : Field) (ids : List ℕ) (most id s : ℕ) → wrong_ids (spans F) ids most ≡ false → 0 < id → id < 0x8000 → s < spans F → get_or ids s 0 ≡ id → shown most id ≡ true
unfolding wrong_ids
borne_shown F ids most id s e p l h g =
    let n = neither _ _ e in
    let c : length ids ≡ spans F = eqb-true _ _ (not-false _ n.0) in
    let t : too_great most id ≡ false = ap (too_great most) (sym g) ∙ none_of (too_great most) ids n.1 s (omega arith) in
    is_shown most id p (within most id t l) l

shown-extent : (F : Field) (ids : List ℕ) (most id : ℕ) → shown most id ≡ true → extent_of F ids most id ≡ extent F ids id
unfolding extent_of when◌then◌else◌
shown-extent F ids most id t = rw t

-- of every id that is neither 0 nor flagged and that a span bears
pub room_is : (F : Field) (ids : List ℕ) (most k id : ℕ) → (measure_outcome F ids most k id).refused ≡ 0 → 0 < id → id < 0x8000 → (s : ℕ) → Of F ids id s
    → RoomIs F ids k id (measure_outcome F ids most k id).room
room_is F ids most k id z p l s o =
    let a = accepted F ids most k id z in
    let q = shown-extent F ids most id (borne_shown F ids most id s a.admits.listed p l o.0 o.1) in
    room_of F ids id k (measure_outcome F ids most k id).room s o.0 o.1 (a.room ∙ ap (sized k) q)
    (subst (λ e. ExactSize k e (measure_outcome F ids most k id).room) q (room_exact F ids most k id z))

-- ---------------------------------------------------------------- the counts

room_count : (F : Field) (ids : List ℕ) (most k id : ℕ) → (measure_outcome F ids most k id).refused ≡ 0 → (measure_outcome F ids most k id).room.count ≡ (extent_of F ids most id).count
unfolding sized
room_count F ids most k id e = ap (λ (r : RoomSize). r.count) (accepted F ids most k id e).room

-- "The counts over all ids, plus spans of id 0, plus flagged spans, come to n."; j is any id, since the refusal is that of all
pub room_counts : (F : Field) (ids : List ℕ) (most k j : ℕ) → (measure_outcome F ids most k j).refused ≡ 0
    → sum_to (λ i. (measure_outcome F ids most k (suc i)).room.count) most + spans_with (λ r. eqb r 0) ids (spans F) + spans_with flagged ids (spans F) ≡ spans F
room_counts F ids most k j e =
    let s = sum_same (λ i. (measure_outcome F ids most k (suc i)).room.count) (λ i. (extent_of F ids most (suc i)).count) most
    (λ i _. room_count F ids most k (suc i) (refused_is F ids most k (suc i) ∙ sym (refused_is F ids most k j) ∙ e)) in
    rw s (counts_come_to_n F ids most (accepted F ids most k j e).admits.listed)
