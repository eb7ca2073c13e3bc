-- A look as the code makes it: under what it has tested, the room afterwards is the rule's `joins`; and what is past the stack stays.
-- It holds because a missing neighbour has no area, and a span without an id has its place on the stack (`Filling`). Assumes nothing.
use Prim.Native.Nat.{ℕ, ◌+◌, ◌-◌, ◌*◌, ◌≤◌, ◌<◌}
use native.Mathlib.Omega.{arith}
use native.Mathlib.Nat.{zero-add}
use mathlib.Core.Path.{◌≡◌, refl, sym, ap, ◌∙◌}
use mathlib.Core.Bool.{false}
use mathlib.Core.List.{List, ◌∷◌}
use lib.ListN.{length, get_or, set, take, drop}
use lib.Seq.{drop-set-lt}
use lib.Dec.{eqb}
use borrow.Author.Tests.{eq-eqb, ne_eqb}
use Rattle.rules.specs.Base.{◌and◌, when◌then◌else◌, upto}
use Rattle.rules.specs.Field.{none}
use Rattle.rules.specs.Net.{near, area_of}
use Rattle.rules.specs.Refusals.{most_spans}
use Rattle.rules.specs.Plain.{joins}
use Rattle.laws.proofs.Basics.{upto_next}
use Rattle.space.specs.Space.{tally, stack_at}
use Rattle.space.proofs.Laws.{length-stack_at, stack_at_push, sec-drop}
use Rattle.net.specs.Table.{net_at}
use Rattle.net.proofs.Tables.{spans-at, near-at, area_at, area_none, net_inside, net_few}
use Rattle.plain.specs.Stack.{Held, Filling, fill_at}
use Rattle.plain.proofs.FillLaws.{fewer, joins_keeps}

pub filling_size : (n : ℕ) (ids ws : List ℕ) (top : ℕ) → Filling n (fill_at ids ws top) → (length ids ≡ n) × (top + tally 0 ids ≤ n)
unfolding fill_at
filling_size n ids ws top h = (h.size, omega (arith, h.fits, length-stack_at ws 0 top))

pub few : (table : ℕ) (ar ws : List ℕ) → Held table ar ws → length ar ≤ most_spans
few table ar ws h = net_few table ar ws h.closed

-- what is past the stack stays, the table with it
pub net_kept : (table : ℕ) (ar ws ws' : List ℕ) → length ar ≤ table → drop (length ar) ws' ≡ drop (length ar) ws → net_at table ar ws' ≡ net_at table ar ws
unfolding net_at
net_kept table ar ws ws' p e =
    ap (λ (l : List ℕ). record { neighbours = l; areas = ar })
    (sec-drop table (4 * length ar) (length ar) ws' p ∙ ap (λ (l : List ℕ). take (4 * length ar) (drop (table - length ar) l)) e ∙ sym (sec-drop table (4 * length ar) (length ar) ws p))

pub held_kept : (table : ℕ) (ar ws ws' : List ℕ) → Held table ar ws → length ws' ≡ length ws → drop (length ar) ws' ≡ drop (length ar) ws → Held table ar ws'
held_kept table ar ws ws' h l e =
    record { closed = rw (net_kept table ar ws ws' h.past e) h.closed; room = omega (arith, h.room); place = h.place; past = h.past }

module _ (table : ℕ) (ar ids ws : List ℕ) (area id s d top t : ℕ) (v : Held table ar ws) (hs : s < length ar) (hd : d < 4) (e : t ≡ get_or ws (table + (4 * s + d)) 0) where
  is : near (net_at table ar ws) s d ≡ t
  is = near-at table ar ws s d v.room hs hd ∙ sym e

  pub slot_in : table + (4 * s + d) < length ws
  slot_in = omega (arith, v.room)

  pub inside : (t ≡ none → ⊥) → t < length ar
  inside z = net_inside table ar ws s d t v.closed v.room hs hd e z

  pub skip_none : area < 256 → t ≡ none → fill_at ids ws top ≡ joins (net_at table ar ws) area id s d (fill_at ids ws top)
  unfolding joins ◌and◌ when◌then◌else◌
  skip_none b z =
      let q = ap (area_of (net_at table ar ws)) (is ∙ z) ∙ area_none (net_at table ar ws) v.closed in
      let y : eqb (area_of (net_at table ar ws) (near (net_at table ar ws) s d)) area ≡ false = ne_eqb _ _ (λ (y : area_of (net_at table ar ws) (near (net_at table ar ws) s d) ≡ area). omega arith) in
      rw y

  module _ (ht : t < length ar) where
    area_there : area_of (net_at table ar ws) (near (net_at table ar ws) s d) ≡ get_or ar t 0
    area_there = ap (area_of (net_at table ar ws)) is ∙ area_at table ar ws t ht

    pub skip_area : (get_or ar t 0 ≡ area → ⊥) → fill_at ids ws top ≡ joins (net_at table ar ws) area id s d (fill_at ids ws top)
    unfolding joins ◌and◌ when◌then◌else◌
    skip_area a = rw (area_there, ne_eqb _ _ a)

    module _ (a : get_or ar t 0 ≡ area) where
      pub skip_id : (get_or ids t 0 ≡ 0 → ⊥) → fill_at ids ws top ≡ joins (net_at table ar ws) area id s d (fill_at ids ws top)
      unfolding joins ◌and◌ when◌then◌else◌ fill_at
      skip_id z = rw (area_there, eq-eqb _ _ a, is, ne_eqb _ _ z)

      module _ (z : get_or ids t 0 ≡ 0) (f : Filling (length ar) (fill_at ids ws top)) (pos : 0 < id) where
        pub top_in : top < length ar
        top_in =
            let q = filling_size (length ar) ids ws top f in
            omega (arith, q, fewer ids t id (omega (arith, q)) z pos)

        pub join_room : fill_at (set ids t id) (set ws top t) (top + 1) ≡ joins (net_at table ar ws) area id s d (fill_at ids ws top)
        unfolding joins ◌and◌ when◌then◌else◌ fill_at
        join_room =
            let b : 0 + top < length ws = omega (arith, top_in, v.past, v.room) in
            let p : stack_at (set ws top t) 0 (top + 1) ≡ t ∷ stack_at ws 0 top = rw (zero-add top) at (stack_at_push ws 0 top t b) in
            rw (p, area_there, eq-eqb _ _ a, is, eq-eqb _ _ z)

        pub join_past : drop (length ar) (set ws top t) ≡ drop (length ar) ws
        join_past = drop-set-lt (length ar) ws top t top_in

-- ---------------------------------------------------------------- all four

-- d of the four directions are looked in
pub record Joining (table : ℕ) (ar : List ℕ) (area id s : ℕ) (ids₀ ws₀ : List ℕ) (top₀ : ℕ) (ids ws : List ℕ) (top d : ℕ) : Type 0 where
  pub held : Held table ar ws
  pub size : length ids ≡ length ids₀
  pub long : length ws ≡ length ws₀
  pub few : d ≤ 4
  pub past : drop (length ar) ws ≡ drop (length ar) ws₀
  pub filling : Filling (length ar) (fill_at ids ws top)
  pub same : fill_at ids ws top ≡ upto d (joins (net_at table ar ws₀) area id s) (fill_at ids₀ ws₀ top₀)

module _ (table : ℕ) (ar : List ℕ) (area id s : ℕ) (ids₀ ws₀ : List ℕ) (top₀ : ℕ) where
  pub joining_start : Held table ar ws₀ → Filling (length ar) (fill_at ids₀ ws₀ top₀) → Joining table ar area id s ids₀ ws₀ top₀ ids₀ ws₀ top₀ 0
  unfolding upto
  joining_start v f = record { held = v; size = refl; long = refl; few = omega arith; past = refl; filling = f; same = refl }

  module _ (ids ws : List ℕ) (top d : ℕ) (v : Joining table ar area id s ids₀ ws₀ top₀ ids ws top d) where
    pub joining_next : area < 256 → 0 < id → (ids' ws' : List ℕ) (top' : ℕ) → d < 4 → length ids' ≡ length ids → length ws' ≡ length ws
        → fill_at ids' ws' top' ≡ joins (net_at table ar ws) area id s d (fill_at ids ws top) → drop (length ar) ws' ≡ drop (length ar) ws
        → Joining table ar area id s ids₀ ws₀ top₀ ids' ws' top' (d + 1)
    joining_next byte pos ids' ws' top' l e g f u =
        let n : net_at table ar ws ≡ net_at table ar ws₀ = net_kept table ar ws₀ ws v.held.past v.past in
        let k = (joins_keeps (net_at table ar ws) area id byte pos s d (fill_at ids ws top) (rw (spans-at table ar ws) v.filling)).0 in
        record {
          held = held_kept table ar ws ws' v.held g u;
          size = e ∙ v.size;
          long = g ∙ v.long;
          few = omega arith;
          past = u ∙ v.past;
          filling = rw f (rw (spans-at table ar ws) at k);
          same = rw n at f ∙ ap (joins (net_at table ar ws₀) area id s d) v.same ∙ sym (upto_next d (joins (net_at table ar ws₀) area id s) (fill_at ids₀ ws₀ top₀));
        }

    pub joining_done : 4 ≤ d → fill_at ids ws top ≡ upto 4 (joins (net_at table ar ws₀) area id s) (fill_at ids₀ ws₀ top₀)
    joining_done l = let e : d ≡ 4 = omega (arith, v.few) in rw e at v.same
