-- The turns keep what growth keeps, from the painting to the last expansion. Assumes nothing.
use Prim.Native.Nat.{ℕ, zero, suc, ◌+◌, ◌*◌, ◌-◌, ◌/◌, ◌%◌, ◌≤◌, ◌<◌}
use native.Mathlib.Omega.{arith}
use native.Mathlib.Nat.{zero-add}
use native.Mathlib.Decide.{dec_lt}
use mathlib.Core.Path.{◌≡◌, refl, ap, ◌∙◌}
use mathlib.Core.Bool.{Bool}
use mathlib.Core.List.{List, []}
use lib.ListN.{length, get_or, get_or-eq_default}
use lib.Dec.{eqb}
use borrow.Author.Tests.{eqb-false, not-true, not-false}
use Rattle.rules.specs.Base.{◌and◌, upto, tab, keep}
use Rattle.rules.specs.Field.{Field}
use Rattle.rules.specs.Net.{Net, net_of, spans, area_of}
use Rattle.rules.specs.Growth.{id_of, walkable, paint_of, painted, first_id, blank, sorted, remains, expand, Turn, loaded, turn, turn_stops, grown, stops}
use Rattle.laws.proofs.Basics.{both, if-ind, upto-ind, All, tab-at, length-tab, set_cases, keep_all, append_all, tab-each, zeros-at}
use Rattle.laws.proofs.Grows.{Room, turn_goes, turn_room, turns_go, unstopped, first_few}
use Rattle.laws.proofs.Lengths.{painted-length}
use Rattle.laws.proofs.NextId.{zeros_le}
use Rattle.rooms.specs.Rooms.{Plain, Bears}
use Rattle.rooms.proofs.Expanding.{Grow, Good, expand_grow, expand-good}
use Rattle.rooms.proofs.Flooding.{floods_grow}

-- ---------------------------------------------------------------- painting

-- only walkable spans are painted, with flagged ids
paint_is : (F : Field) (b s : ℕ) → (area_of (net_of F) s ≡ 0 → paint_of F b s ≡ 0) × (Plain (paint_of F b s) → ⊥)
unfolding paint_of walkable area_of
paint_is F b s =
    if-ind (λ (r : ℕ). (area_of (net_of F) s ≡ 0 → r ≡ 0) × (Plain r → ⊥)) _ (λ _. ((λ _. refl), λ p. omega arith))
    (λ w.
    let n : area_of (net_of F) s ≡ 0 → ⊥ = eqb-false _ _ (not-true _ (not-false _ w)) in
    if-ind (λ (r : ℕ). (area_of (net_of F) s ≡ 0 → r ≡ 0) × (Plain r → ⊥)) _ (λ _. ((λ e. absurd (n e)), λ p. omega arith))
    (λ _. if-ind (λ (r : ℕ). (area_of (net_of F) s ≡ 0 → r ≡ 0) × (Plain r → ⊥)) _ (λ _. ((λ e. absurd (n e)), λ p. omega arith))
    (λ _. if-ind (λ (r : ℕ). (area_of (net_of F) s ≡ 0 → r ≡ 0) × (Plain r → ⊥)) _ (λ _. ((λ e. absurd (n e)), λ p. omega arith))
    (λ _. if-ind (λ (r : ℕ). (area_of (net_of F) s ≡ 0 → r ≡ 0) × (Plain r → ⊥)) _ (λ _. ((λ e. absurd (n e)), λ p. omega arith)) (λ _. ((λ _. refl), λ p. omega arith))))))

painted_is : (F : Field) (b s : ℕ) → (area_of (net_of F) s ≡ 0 → id_of (painted F b) s ≡ 0) × (Plain (id_of (painted F b) s) → ⊥)
unfolding painted
painted_is F b s =
    if-ind (λ (l : List ℕ). (area_of (net_of F) s ≡ 0 → get_or l s 0 ≡ 0) × (Plain (get_or l s 0) → ⊥)) (eqb b 0)
    (λ _. rw (zeros-at (spans (net_of F)) s) ((λ _. refl), λ p. omega arith))
    (λ _. elim (dec_lt s (spans (net_of F))) [
      | yes h ↦ let e : get_or (tab (spans (net_of F)) 0 (paint_of F b)) s 0 ≡ paint_of F b s = tab-at (spans (net_of F)) 0 (paint_of F b) s 0 h ∙ ap (paint_of F b) (zero-add s) in rw e (paint_is F b s)
      | no h ↦ let e : get_or (tab (spans (net_of F)) 0 (paint_of F b)) s 0 ≡ 0 = get_or-eq_default (tab (spans (net_of F)) 0 (paint_of F b)) 0 (let n = length-tab (spans (net_of F)) 0 (paint_of F b) in omega arith) in rw e ((λ _. refl), λ p. omega arith)
    ])

pub painted_grow : (F : Field) (b : ℕ) → Grow (net_of F) (first_id b) (first_id b) (painted F b).ids
painted_grow F b =
    let none-plain : (r s : ℕ) → Plain r → Bears (painted F b).ids r s → ⊥ = λ r s p h. (painted_is F b s).1 (rw h p) in
    record {
      some = (first_few b).0;
      ahead = omega arith;
      size = painted-length F b;
      bare = λ s. (painted_is F b s).0;
      range = λ r s p h. absurd (none-plain r s p h);
      borne = λ r x y. absurd (omega arith);
      one = λ r s t p h k. absurd (none-plain r s p h);
      join = λ r s t p h k. absurd (none-plain r s p h);
    }

-- ---------------------------------------------------------------- stacks hold walkable spans

module _ (N : Net) where
  walks : (p : ℕ → Bool) (n at : ℕ) → at + n ≤ spans N → All (Good N) (keep (λ s. walkable N.areas s and p s) (tab n at (λ s. s)))
  unfolding keep tab walkable area_of
  walks p zero at h = tt
  walks p (suc n) at h =
      let r = walks p n (suc at) (omega arith) in
      if-ind (All (Good N)) _
      (λ e. ((λ _. (omega arith, eqb-false _ _ (not-true _ (both _ _ e).0))), r))
      (λ _. r)

  blank-good : (ids : List ℕ) → All (Good N) (blank N.areas ids)
  unfolding blank
  blank-good ids = walks (λ s. eqb (get_or ids s 0) 0) (spans N) 0 (omega arith)

  remains-good : (ids es : List ℕ) → All (Good N) es → All (Good N) (remains ids es)
  unfolding remains
  remains-good ids es h = keep_all (Good N) _ es h

  pub loaded-good : (dist : List ℕ) (level j : ℕ) (t : Turn) → ((i : ℕ) → All (Good N) (get_or t.stacks i [])) → (i : ℕ) → All (Good N) (get_or (loaded N dist level j t) i [])
  unfolding loaded sorted
  loaded-good dist level j t h i =
      if-ind (λ (s : List (List ℕ)). All (Good N) (get_or s i [])) _
      (λ _. tab-each (All (Good N)) 8 0 _ [] i tt (λ a. keep_all (Good N) _ _ (blank-good t.marks.ids)))
      (λ _. set_cases t.stacks j _ [] i (All (Good N)) (append_all (Good N) (get_or t.stacks j []) (remains t.marks.ids (get_or t.stacks (j - 1) [])) (h j) (remains-good t.marks.ids (get_or t.stacks (j - 1) []) (h (j - 1)))) (h i))

  -- ---------------------------------------------------------------- turns

  pub record Turned (first : ℕ) (t : Turn) : Type 0 where
    pub grow : Grow N first t.next t.marks.ids
    pub room : Room N first t
    pub good : (j : ℕ) → All (Good N) (get_or t.stacks j [])

  pub turn_grow : (dist : List ℕ) → ((s : ℕ) → s < spans N → area_of N s < 256) → (first top k : ℕ) (t : Turn) → turn_stops N dist top k t ≡ 0
      → Turned first t → Turned first (turn N dist top k t)
  unfolding turn
  turn_grow dist bytes first top k t o h =
      let level = top - 2 * (k + 1) in
      let j = k % 8 in
      let stacks = loaded N dist level j t in
      let e = expand N level t.marks (get_or stacks j []) in
      let ok = loaded-good dist level j t h.good in
      let eg = expand-good N level t.marks (get_or stacks j []) (ok j) in
      record {
        grow = floods_grow N first dist level bytes e.stack eg e.marks t.next h.room.plain
            (expand_grow N first t.next level t.marks (get_or stacks j []) h.grow) (turn_goes N dist top k t o).1;
        room = turn_room N dist bytes first top k t o h.room;
        good = λ i. set_cases stacks j e.stack [] i (All (Good N)) eg (ok i);
      }

-- ids as grown
pub grown_grow : (F : Field) (dist : List ℕ) (most b : ℕ) → ((s : ℕ) → s < spans (net_of F) → area_of (net_of F) s < 256) → stops F dist most b ≡ 0
    → Grow (net_of F) (first_id b) (grown F dist most b).next (grown F dist most b).ids
unfolding grown upto
grown_grow F dist most b bytes o =
    let top = 2 * ((most + 1) / 2) in
    let first : (0 < first_id b) × (first_id b ≤ 5) = first_few b in
    let start : Turn = record { marks = painted F b; stacks = []; next = first_id b } in
    let size : length (painted F b).ids ≡ spans (net_of F) = painted-length F b in
    let go = turns_go (net_of F) dist top start (top / 2) (unstopped F dist most b o).turns in
    let r = upto-ind (λ k (t : Turn). (t ≡ upto k (turn (net_of F) dist top) start) × Turned (net_of F) (first_id b) t) (turn (net_of F) dist top) start (top / 2) (
      refl,
      record {
        grow = painted_grow F b;
        room = record { size = size; some = first.0; plain = omega arith; room = omega (arith, zeros_le (painted F b).ids); inside = λ j. tt };
        good = λ j. tt;
      },
    )
    (λ k t g h. (rw h.0 refl, turn_grow (net_of F) dist bytes (first_id b) top k t (rw h.0 (go k g)) h.1)) in
    expand_grow (net_of F) (first_id b) _ 0 _ _ r.1.grow
