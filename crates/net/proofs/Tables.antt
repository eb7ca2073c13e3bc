-- What the table holds is the net's `near`; and a net is the same in every workspace that holds the same table.
-- Assumes nothing.
use Prim.Native.Nat.{ℕ, ◌+◌, ◌*◌, ◌≤◌, ◌<◌}
use native.Mathlib.Omega.{arith}
use mathlib.Core.Path.{◌≡◌, refl, sym, ap, ◌∙◌}
use mathlib.Core.List.{List}
use lib.ListN.{length, get_or, get_or-eq_default}
use Rattle.rules.specs.Field.{none}
use Rattle.rules.specs.Net.{Net, spans, near, area_of}
use Rattle.rules.specs.Refusals.{most_spans}
use Rattle.laws.proofs.Basics.{get_d_any}
use Rattle.space.proofs.Laws.{length-sec, get_or-sec, sec-same}
use Rattle.space.specs.Space.{sec}
use Rattle.field.specs.Lent.{cons_at}
use Rattle.net.specs.Table.{net_at, Closed, Lent, AtSpan}

pub spans-at : (table : ℕ) (ar ws : List ℕ) → spans (net_at table ar ws) ≡ length ar
unfolding net_at
spans-at table ar ws = refl

-- a neighbour, as read
pub near-at : (table : ℕ) (ar ws : List ℕ) (s d : ℕ) → table + 4 * length ar ≤ length ws → s < length ar → d < 4
    → near (net_at table ar ws) s d ≡ get_or ws (table + (4 * s + d)) 0
unfolding net_at near
near-at table ar ws s d r h g =
    let n = length-sec table (4 * length ar) ws r in
    get_d_any (sec table (4 * length ar) ws) (4 * s + d) none 0 (omega arith) ∙ get_or-sec table (4 * length ar) (4 * s + d) ws (omega arith)

-- an area, as read; and no span has none
pub area_at : (table : ℕ) (ar ws : List ℕ) (s : ℕ) → s < length ar → area_of (net_at table ar ws) s ≡ get_or ar s 0
unfolding net_at area_of
area_at table ar ws s h = get_d_any ar s 256 0 h

pub area_none : (N : Net) → Closed N → area_of N none ≡ 256
unfolding area_of
area_none N k = get_or-eq_default N.areas 256 (omega (arith, k.few))

-- the table stays
pub net_same : (table : ℕ) (ar ws ws' : List ℕ) → table + 4 * length ar ≤ length ws → length ws' ≡ length ws
    → ((i : ℕ) → table ≤ i → get_or ws' i 0 ≡ get_or ws i 0) → net_at table ar ws' ≡ net_at table ar ws
unfolding net_at
net_same table ar ws ws' r e h =
    ap (λ (l : List ℕ). record { neighbours = l; areas = ar }) (sec-same ws ws' table (4 * length ar) r e (λ k a _. h k a))

pub lent_same : (table : ℕ) (ar con ws ws' : List ℕ) → length ws' ≡ length ws → net_at table ar ws' ≡ net_at table ar ws → Lent table ar con ws → Lent table ar con ws'
lent_same table ar con ws ws' e n v =
    record { closed = rw n v.closed; opens = rw n v.opens; linked = v.linked; room = omega (arith, v.room); place = v.place }

-- a span, with its connections as read
pub lent-span : (table : ℕ) (ar con ws cons : List ℕ) (s : ℕ) → Lent table ar con ws → s < length ar → cons ≡ cons_at con s → AtSpan table ar ws cons s
lent-span table ar con ws cons s v h e =
    record { closed = v.closed; opens = rw e (v.opens s h); span = h; room = v.room; place = v.place }

pub span_same : (table : ℕ) (ar ws ws' cons : List ℕ) (s : ℕ) → length ws' ≡ length ws → net_at table ar ws' ≡ net_at table ar ws → AtSpan table ar ws cons s → AtSpan table ar ws' cons s
span_same table ar ws ws' cons s e n v =
    record { closed = rw n v.closed; opens = rw n v.opens; span = v.span; room = omega (arith, v.room); place = v.place }

module _ (table : ℕ) (ar ws cons : List ℕ) (s d t : ℕ) (v : AtSpan table ar ws cons s) (h : d < 4) where
  -- the four places of a span are in the table
  pub slot_in : table + (4 * s + d) < length ws
  slot_in = omega (arith, v.room, v.span)

  pub near_is : t ≡ get_or ws (table + (4 * s + d)) 0 → near (net_at table ar ws) s d ≡ t
  near_is e = near-at table ar ws s d v.room v.span h ∙ sym e

  -- a connection that is not none leads to a span
  pub leads_inside : t ≡ get_or ws (table + (4 * s + d)) 0 → (get_or cons d 0 ≡ 255 → ⊥) → t < length ar
  leads_inside e k =
      let n = near_is e in
      let r = v.closed.inside s d (rw (spans-at table ar ws) v.span) h (v.opens.leads d h k) in
      omega (arith, spans-at table ar ws)

-- a net as lent is closed: as the code has it
pub net_few : (table : ℕ) (ar ws : List ℕ) → Closed (net_at table ar ws) → length ar ≤ most_spans
net_few table ar ws k = omega (arith, k.few, spans-at table ar ws)

pub net_inside : (table : ℕ) (ar ws : List ℕ) (s d t : ℕ) → Closed (net_at table ar ws) → table + 4 * length ar ≤ length ws → s < length ar → d < 4
    → t ≡ get_or ws (table + (4 * s + d)) 0 → (t ≡ none → ⊥) → t < length ar
net_inside table ar ws s d t k r h g e z =
    let n : near (net_at table ar ws) s d ≡ t = near-at table ar ws s d r h g ∙ sym e in
    let i = k.inside s d (rw (spans-at table ar ws) h) g (λ y. z (sym n ∙ y)) in
    omega (arith, spans-at table ar ws)
