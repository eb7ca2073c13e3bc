-- A push as the code makes it: under what it has tested, the flow afterwards is the rule's `pushed`; and the stack keeps room.
-- It holds because a missing neighbour has no area, and a pushed span had another id before (`tally_room`). Assumes nothing.
use mathlib.Core.Path.{◌≡◌, refl, sym, ap, ◌∙◌}
use mathlib.Core.Logic.{⊎_elim, inl, inr}
use mathlib.Core.Bool.{false}
use mathlib.Core.List.{List, ◌∷◌}
use Prim.Native.Nat.{ℕ, ◌+◌, ◌*◌, ◌≤◌, ◌<◌}
use native.Mathlib.Omega.{arith}
use lib.ListN.{length, get_or, set, length-set}
use lib.Seq.{get_or-set_other, take-set-le, take-set-lt}
use lib.Dec.{eqb}
use borrow.Author.Tests.{eq-eqb, ne_eqb, le-leb, lt-leb}
use Rattle.rules.specs.Base.{◌and◌, when◌then◌else◌, upto}
use Rattle.rules.specs.Net.{near, area_of}
use Rattle.rules.specs.Growth.{put, Seed, pushed}
use Rattle.laws.proofs.Basics.{upto_next}
use Rattle.space.specs.Space.{tally, stack_at}
use Rattle.space.proofs.Laws.{tally_room, stack_at_push, stack_at-set}
use Rattle.net.specs.Table.{net_at, Lent, AtSpan}
use Rattle.net.proofs.Tables.{area_at, area_none, near_is, net_same, span_same}
use Rattle.net.specs.declared.Sections.{Sections}
use Rattle.flood.specs.declared.flow.Height.{Height}
use Rattle.flood.specs.Stack.{marks_at, flow_at, Placed, Kept, Pushed}

-- the flow after a span was pushed
flow_push : (n stack : ℕ) (ids ws : List ℕ) (id t : ℕ) (h : Height) → t < n → n ≤ stack → stack + h.top < length ws
    → flow_at n stack (set ids t id) (set (set ws t 0) (stack + h.top) t) (record { top = h.top + 1; count = h.count })
    ≡ record { todo = t ∷ stack_at ws stack h.top; marks = put (marks_at n ids ws) t id 0; count = h.count }
unfolding flow_at put
flow_push n stack ids ws id t h ht hs hw =
    let a : stack + h.top < length (set ws t 0) = rw (length-set ws t 0) hw in
    let b : n ≤ stack + h.top = omega arith in
    let c : t < stack = omega arith in
    rw (take-set-le n (set ws t 0) (stack + h.top) t b, take-set-lt n ws t 0 ht, stack_at_push (set ws t 0) stack h.top t a, stack_at-set ws stack h.top t 0 (inl c))

module _ (table : ℕ) (ar dist ids ws cons : List ℕ) (stack : ℕ) (q : Seed) (s d : ℕ) (h : Height) (v : AtSpan table ar ws cons s) (hd : d < 4) where
  pub skip_none : q.area < 256 → get_or cons d 0 ≡ 255 → flow_at (length ar) stack ids ws h ≡ pushed (net_at table ar ws) dist q s d (flow_at (length ar) stack ids ws h)
  unfolding pushed ◌and◌ when◌then◌else◌
  skip_none b z =
      let e = ap (area_of (net_at table ar ws)) (v.opens.shut d hd z) ∙ area_none (net_at table ar ws) v.closed in
      let y : eqb (area_of (net_at table ar ws) (near (net_at table ar ws) s d)) q.area ≡ false = ne_eqb _ _ (λ (y : area_of (net_at table ar ws) (near (net_at table ar ws) s d) ≡ q.area). omega arith) in
      rw y

  module _ (t : ℕ) (e : t ≡ get_or ws (table + (4 * s + d)) 0) (ht : t < length ar) where
    is : near (net_at table ar ws) s d ≡ t
    is = near_is table ar ws cons s d t v hd e

    area_there : area_of (net_at table ar ws) (near (net_at table ar ws) s d) ≡ get_or ar t 0
    area_there = ap (area_of (net_at table ar ws)) is ∙ area_at table ar ws t ht

    pub skip_area : (get_or ar t 0 ≡ q.area → ⊥) → flow_at (length ar) stack ids ws h ≡ pushed (net_at table ar ws) dist q s d (flow_at (length ar) stack ids ws h)
    unfolding pushed ◌and◌ when◌then◌else◌
    skip_area a = rw (area_there, ne_eqb _ _ a)

    module _ (a : get_or ar t 0 ≡ q.area) where
      pub skip_id : (get_or ids t 0 ≡ 0 → ⊥) → flow_at (length ar) stack ids ws h ≡ pushed (net_at table ar ws) dist q s d (flow_at (length ar) stack ids ws h)
      unfolding pushed ◌and◌ when◌then◌else◌ flow_at
      skip_id z = rw (area_there, eq-eqb _ _ a, is, ne_eqb _ _ z)

      module _ (z : get_or ids t 0 ≡ 0) where
        pub skip_shallow : get_or dist t 0 < q.limit → flow_at (length ar) stack ids ws h ≡ pushed (net_at table ar ws) dist q s d (flow_at (length ar) stack ids ws h)
        unfolding pushed ◌and◌ when◌then◌else◌ flow_at
        skip_shallow l = rw (area_there, eq-eqb _ _ a, is, eq-eqb _ _ z, lt-leb q.limit (get_or dist t 0) l)

        pub push_flow : q.limit ≤ get_or dist t 0 → length ar ≤ stack → stack + h.top < length ws
            → flow_at (length ar) stack (set ids t q.id) (set (set ws t 0) (stack + h.top) t) (record { top = h.top + 1; count = h.count })
            ≡ pushed (net_at table ar ws) dist q s d (flow_at (length ar) stack ids ws h)
        unfolding pushed ◌and◌ when◌then◌else◌ flow_at
        push_flow l low hi = flow_push (length ar) stack ids ws q.id t h ht low hi ∙ rw (area_there, eq-eqb _ _ a, is, eq-eqb _ _ z, le-leb q.limit (get_or dist t 0) l)

-- ---------------------------------------------------------------- what a push leaves alone

-- nothing pushed
pub skipped : (n stack id top : ℕ) (ids ws : List ℕ) → top ≤ tally id ids → Pushed n stack id top ws top ids ws
skipped n stack id top ids ws h = record { high = h; kept = record { size = refl; same = λ i a b. refl }; blank = λ b. b }

-- the stack's section lies in the workspace
pub stack_in : {ar dist ids ws cons : List ℕ} {s : ℕ} {at : Sections} → Placed (length ar) at dist ids → AtSpan at.table ar ws cons s → at.stack + length ar ≤ length ws
stack_in p v = omega (arith, p.apart, v.room)

pub lent_stack_in : {ar con dist ids ws : List ℕ} {at : Sections} → Placed (length ar) at dist ids → Lent at.table ar con ws → at.stack + length ar ≤ length ws
lent_stack_in p v = omega (arith, p.apart, v.room)

-- span t pushed
module _ (n stack id top t : ℕ) (ids ws : List ℕ) (sized : length ids ≡ n) (below : n ≤ stack) (fits : stack + n ≤ length ws) (pos : 0 < id) (h : t < n) (e : get_or ids t 0 ≡ 0) (low : top ≤ tally id ids) where
  room : (tally id (set ids t id) ≡ tally id ids + 1) × (tally id ids < length ids)
  room = tally_room id ids t (omega arith) (λ w. omega arith)

  pub push_fits : (top < n) × (stack + top < length ws)
  push_fits = (omega (arith, room.1), omega (arith, room.1))

  other_place : (i : ℕ) → n ≤ i → (i ≡ stack + top → ⊥) → get_or (set (set ws t 0) (stack + top) t) i 0 ≡ get_or ws i 0
  other_place i a b = get_or-set_other (set ws t 0) (stack + top) i t 0 b ∙ get_or-set_other ws t i 0 0 (λ w. omega arith)

  pub push_pushed : Pushed n stack id top ws (top + 1) (set ids t id) (set (set ws t 0) (stack + top) t)
  push_pushed = record {
    high = omega (arith, room.0);
    kept = record {
      size = length-set (set ws t 0) (stack + top) t ∙ length-set ws t 0;
      same = λ i a b. other_place i a (λ w. ⊎_elim (λ (l : i < stack). omega arith) (λ (l : stack + n ≤ i). omega (arith, push_fits.0)) b);
    };
    blank = λ b. record { zeros = λ i a l. other_place i (omega arith) (λ w. omega arith) ∙ b.zeros i (omega arith) l };
  }

pub kept_then : {n stack : ℕ} {ws ws₁ ws₂ : List ℕ} → Kept n stack ws ws₁ → Kept n stack ws₁ ws₂ → Kept n stack ws ws₂
kept_then p q = record { size = q.size ∙ p.size; same = λ i a b. q.same i a b ∙ p.same i a b }

-- one push after another
pushed_then : {n stack id top a r : ℕ} {ws ws₁ ws₂ ids₁ ids₂ : List ℕ} → Pushed n stack id top ws a ids₁ ws₁ → Pushed n stack id a ws₁ r ids₂ ws₂ → Pushed n stack id top ws r ids₂ ws₂
pushed_then p q = record { high = q.high; kept = kept_then p.kept q.kept; blank = λ b. q.blank (p.blank b) }

pub placed_kept : {n : ℕ} {at : Sections} {dist ids : List ℕ} (ids' : List ℕ) → Placed n at dist ids → length ids' ≡ length ids → Placed n at dist ids'
placed_kept ids' p e = record { dists = p.dists; idents = e ∙ p.idents; low = p.low; apart = p.apart }

-- the table lies past the stack, so it stays
pub net_kept : (ar : List ℕ) {dist ids : List ℕ} {at : Sections} {ws ws' : List ℕ} → Placed (length ar) at dist ids → at.table + 4 * length ar ≤ length ws → Kept (length ar) at.stack ws ws'
    → net_at at.table ar ws' ≡ net_at at.table ar ws
net_kept ar {at = at} {ws = ws} {ws' = ws'} p r k =
    net_same at.table ar ws ws' r k.size (λ i a. k.same i (omega (arith, p.low, p.apart)) (inr (omega (arith, p.apart))))

-- ---------------------------------------------------------------- all four

-- d of the four directions are gone through
pub record Pushing (ar dist cons : List ℕ) (at : Sections) (q : Seed) (s : ℕ) (ids₀ ws₀ : List ℕ) (h₀ : Height) (ids ws : List ℕ) (h : Height) (d : ℕ) : Type 0 where
  pub span : AtSpan at.table ar ws cons s
  pub placed : Placed (length ar) at dist ids
  pub size : length ids ≡ length ids₀
  pub few : d ≤ 4
  pub net : net_at at.table ar ws ≡ net_at at.table ar ws₀
  pub moved : Pushed (length ar) at.stack q.id h₀.top ws₀ h.top ids ws
  pub same : flow_at (length ar) at.stack ids ws h ≡ upto d (pushed (net_at at.table ar ws₀) dist q s) (flow_at (length ar) at.stack ids₀ ws₀ h₀)

module _ (ar dist cons : List ℕ) (at : Sections) (q : Seed) (s : ℕ) (ids₀ ws₀ : List ℕ) (h₀ : Height) where
  pub pushing_start : AtSpan at.table ar ws₀ cons s → Placed (length ar) at dist ids₀ → h₀.top ≤ tally q.id ids₀
      → Pushing ar dist cons at q s ids₀ ws₀ h₀ ids₀ ws₀ h₀ 0
  unfolding upto
  pushing_start v p l = record { span = v; placed = p; size = refl; few = omega arith; net = refl; moved = skipped _ _ _ _ _ _ l; same = refl }

  module _ (ids ws : List ℕ) (h : Height) (d : ℕ) (v : Pushing ar dist cons at q s ids₀ ws₀ h₀ ids ws h d) where
    pub pushing_next : (ids' ws' : List ℕ) (h' : Height) → d < 4 → length ids' ≡ length ids
        → flow_at (length ar) at.stack ids' ws' h' ≡ pushed (net_at at.table ar ws) dist q s d (flow_at (length ar) at.stack ids ws h)
        → Pushed (length ar) at.stack q.id h.top ws h'.top ids' ws' → Pushing ar dist cons at q s ids₀ ws₀ h₀ ids' ws' h' (d + 1)
    pushing_next ids' ws' h' l e f u =
        let n = net_kept ar v.placed v.span.room u.kept in
        let g = rw v.net at f in
        record {
          span = span_same at.table ar ws ws' cons s u.kept.size n v.span;
          placed = placed_kept ids' v.placed e;
          size = e ∙ v.size;
          few = omega arith;
          net = n ∙ v.net;
          moved = pushed_then v.moved u;
          same = g ∙ ap (pushed (net_at at.table ar ws₀) dist q s d) v.same ∙ sym (upto_next d (pushed (net_at at.table ar ws₀) dist q s) (flow_at (length ar) at.stack ids₀ ws₀ h₀));
        }

    pub pushing_done : 4 ≤ d → flow_at (length ar) at.stack ids ws h ≡ upto 4 (pushed (net_at at.table ar ws₀) dist q s) (flow_at (length ar) at.stack ids₀ ws₀ h₀)
    pushing_done l = let e : d ≡ 4 = omega (arith, v.few) in rw e at v.same
