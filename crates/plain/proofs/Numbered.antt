-- Rooms one after the other, as the code begins them: under what it has tested, ids and number are the rule's `begins`; and after s spans
-- there are at most s rooms, so the number fits. Assumes nothing.
use Prim.Native.Nat.{ℕ, suc, ◌+◌, ◌≤◌, ◌<◌}
use native.Mathlib.Omega.{arith}
use native.Mathlib.Numerals.{add-one}
use mathlib.Core.Path.{◌≡◌, refl, sym, ap, ◌∙◌}
use mathlib.Core.Bool.{not}
use mathlib.Core.List.{List}
use lib.ListN.{length, get_or, drop}
use lib.Dec.{eqb}
use borrow.Author.Tests.{eq-eqb, ne_eqb}
use Rattle.rules.specs.Base.{◌and◌, when◌then◌else◌, upto}
use Rattle.rules.specs.Net.{Net}
use Rattle.rules.specs.Growth.{walkable}
use Rattle.rules.specs.Plain.{Rooms, room_from, begins}
use Rattle.laws.proofs.Basics.{if-ind, upto-ind, upto_next, get_d_any}
use Rattle.net.specs.Table.{net_at}
use Rattle.plain.specs.Stack.{Held, rooms_at}
use Rattle.plain.proofs.Joining.{net_kept, held_kept}

-- one room more at most
pub begins_most : (N : Net) (s : ℕ) (v : Rooms) → (begins N s v).most ≤ suc v.most
unfolding begins
begins_most N s v = if-ind (λ (r : Rooms). r.most ≤ suc v.most) _ (λ _. omega arith) (λ _. omega arith)

-- so no more rooms than spans
pub most_spans_lem : (N : Net) (k : ℕ) (v : Rooms) → v.most ≡ 0 → (upto k (begins N) v).most ≤ k
most_spans_lem N k v z = upto-ind (λ j (r : Rooms). r.most ≤ j) (begins N) v k (omega arith) (λ j r _ h. omega (arith, begins_most N j r))

module _ (table : ℕ) (ar ids ws : List ℕ) (s most : ℕ) (hs : s < length ar) where
  areas : walkable (net_at table ar ws).areas s ≡ not (eqb (get_or ar s 0) 0)
  unfolding walkable net_at
  areas = rw (get_d_any ar s 256 0 hs)

  pub begin_bare : get_or ar s 0 ≡ 0 → rooms_at ids most ≡ begins (net_at table ar ws) s (rooms_at ids most)
  unfolding begins ◌and◌ when◌then◌else◌
  begin_bare e = rw (areas, eq-eqb _ _ e)

  pub begin_none : (get_or ids s 0 ≡ 0 → ⊥) → (get_or ar s 0 ≡ 0 → ⊥) → rooms_at ids most ≡ begins (net_at table ar ws) s (rooms_at ids most)
  unfolding begins ◌and◌ when◌then◌else◌
  begin_none z e = rw (areas, ne_eqb _ _ e, ne_eqb _ _ z)

  pub begin_new : (get_or ar s 0 ≡ 0 → ⊥) → get_or ids s 0 ≡ 0 → (ids' : List ℕ) → ids' ≡ (room_from (net_at table ar ws) (most + 1) ids s).ids
      → rooms_at ids' (most + 1) ≡ begins (net_at table ar ws) s (rooms_at ids most)
  unfolding begins ◌and◌ when◌then◌else◌
  begin_new e z ids' f = let g = rw (add-one most) at f in rw (areas, ne_eqb _ _ e, eq-eqb _ _ z, add-one most, g)

-- s spans are gone through
pub record Numbering (table : ℕ) (ar ids₀ ws₀ ids ws : List ℕ) (most s : ℕ) : Type 0 where
  pub held : Held table ar ws
  pub size : length ids ≡ length ids₀
  pub long : length ws ≡ length ws₀
  pub past : drop (length ar) ws ≡ drop (length ar) ws₀
  pub within : s ≤ length ar
  pub low : most ≤ s
  pub same : rooms_at ids most ≡ upto s (begins (net_at table ar ws₀)) (rooms_at ids₀ 0)

pub numbering_start : (table : ℕ) (ar ids ws : List ℕ) → Held table ar ws → Numbering table ar ids ws ids ws 0 0
unfolding upto
numbering_start table ar ids ws v = record { held = v; size = refl; long = refl; past = refl; within = omega arith; low = omega arith; same = refl }

module _ (table : ℕ) (ar ids₀ ws₀ ids ws : List ℕ) (most s : ℕ) (v : Numbering table ar ids₀ ws₀ ids ws most s) where
  pub numbering_next : (ids' ws' : List ℕ) (most' : ℕ) → s < length ar → length ids' ≡ length ids → length ws' ≡ length ws
      → rooms_at ids' most' ≡ begins (net_at table ar ws) s (rooms_at ids most) → drop (length ar) ws' ≡ drop (length ar) ws
      → Numbering table ar ids₀ ws₀ ids' ws' most' (s + 1)
  numbering_next ids' ws' most' l e g f u =
      let n : net_at table ar ws ≡ net_at table ar ws₀ = net_kept table ar ws₀ ws v.held.past v.past in
      let m : most' ≤ suc most = rw (ap (λ (r : Rooms). r.most) f) (begins_most (net_at table ar ws) s (rooms_at ids most)) in
      record {
        held = held_kept table ar ws ws' v.held g u;
        size = e ∙ v.size;
        long = g ∙ v.long;
        past = u ∙ v.past;
        within = omega arith;
        low = omega (arith, v.low);
        same = rw n at f ∙ ap (begins (net_at table ar ws₀) s) v.same ∙ sym (upto_next s (begins (net_at table ar ws₀)) (rooms_at ids₀ 0));
      }

  pub numbering_done : length ar ≤ s → rooms_at ids most ≡ upto (length ar) (begins (net_at table ar ws₀)) (rooms_at ids₀ 0)
  numbering_done l = let e : s ≡ length ar = omega (arith, v.within) in rw e at v.same
