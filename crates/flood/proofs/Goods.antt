-- Between visits count and stack together are the spans of the id, each stacked once (`Good`), so a push finds room on the stack;
-- and 5 (n - count) plus the stack's height falls at each visit, for a span that counts pushes four at most. Assumes nothing.
use mathlib.Core.Path.{◌≡◌, refl, sym, ◌∙◌}
use mathlib.Core.Bool.{Bool, true, false}
use mathlib.Core.Logic.{⊎_elim}
use mathlib.Core.List.{List, ◌∷◌}
use Prim.Native.Nat.{ℕ, suc, ◌+◌, ◌-◌, ◌*◌, ◌≤◌, ◌<◌}
use native.Mathlib.Omega.{arith}
use lib.ListN.{length, get_or, set, length-set}
use lib.Seq.{get_or-set_same, get_or-set_other}
use lib.Dec.{eqb}
use borrow.Author.Tests.{eqb-true, eqb-false, eq-eqb, ne_eqb}
use Rattle.rules.specs.Net.{Net, spans, near}
use Rattle.rules.specs.Growth.{id_of, put, Seed, Flow, objects, pushed, visit}
use Rattle.laws.proofs.Basics.{both, if-ind, upto-ind}
use Rattle.laws.proofs.FloodEnds.{has_area}
use Rattle.space.specs.Space.{ind, tally}
use Rattle.space.proofs.Laws.{cases, in_list, tally_le, tally-set, tally_room}
use Rattle.flood.specs.Stack.{Good}

one_le : (b : Bool) (t : ℕ) → 1 + t ≤ ind b → (b ≡ true) × (t ≡ 0)
one_le true t h = (refl, omega arith)
one_le false t h = absurd (omega arith)

-- the last in has the id, and is stacked no more
pub top_has_id : (ids : List ℕ) (id s : ℕ) (rest : List ℕ) → ((x : ℕ) → tally x (s ∷ rest) ≤ ind (eqb (get_or ids x 0) id)) → (get_or ids s 0 ≡ id) × (tally s rest ≡ 0)
unfolding tally
top_has_id ids id s rest h =
    let o = one_le (eqb (get_or ids s 0) id) (tally s rest) (rw (eq-eqb s s refl) at (h s)) in
    (eqb-true _ _ o.0, o.1)

-- one fewer on the stack
once_rest : (ids : List ℕ) (id s : ℕ) (rest : List ℕ) → ((x : ℕ) → tally x (s ∷ rest) ≤ ind (eqb (get_or ids x 0) id)) → (x : ℕ) → tally x rest ≤ ind (eqb (get_or ids x 0) id)
unfolding tally
once_rest ids id s rest h x = omega (arith, h x)

-- the last in loses the id
once_clear : (ids : List ℕ) (id s : ℕ) (rest : List ℕ) → ((x : ℕ) → tally x (s ∷ rest) ≤ ind (eqb (get_or ids x 0) id)) → (x : ℕ) → tally x rest ≤ ind (eqb (get_or (set ids s 0) x 0) id)
once_clear ids id s rest h x =
    ⊎_elim
    (λ (e : eqb x s ≡ true). let q = eqb-true x s e in let z = (top_has_id ids id s rest h).1 in rw q (omega arith))
    (λ (e : eqb x s ≡ false). rw (get_or-set_other ids s x 0 0 (eqb-false x s e)) (once_rest ids id s rest h x))
    (cases (eqb x s))

-- a span of id 0 gets the id and is stacked
once_push : (ids : List ℕ) (id a : ℕ) (st : List ℕ) → a < length ids → get_or ids a 0 ≡ 0 → 0 < id → ((x : ℕ) → tally x st ≤ ind (eqb (get_or ids x 0) id)) → (x : ℕ) → tally x (a ∷ st) ≤ ind (eqb (get_or (set ids a id) x 0) id)
unfolding tally
once_push ids id a st l z p h x =
    ⊎_elim
    (λ (e : eqb x a ≡ true).
    let q = eqb-true x a e in
    let n : get_or ids a 0 ≡ id → ⊥ = λ w. omega arith in
    let t : tally a st ≤ ind false = rw (ne_eqb _ _ n) at (h a) in
    let u : tally x st ≤ ind false = rw q t in
    rw (q, get_or-set_same ids a id 0 l, eq-eqb a a refl, eq-eqb id id refl) (omega (arith, t, u)))
    (λ (e : eqb x a ≡ false).
    let n = eqb-false x a e in
    let m : a ≡ x → ⊥ = λ w. n (sym w) in
    rw (get_or-set_other ids a x id 0 n, ne_eqb a x m) (omega (arith, h x)))
    (cases (eqb x a))

-- a span of id 0 gets the id and is pushed
pub push_good : (n id : ℕ) → 0 < id → (t : ℕ) (g : Flow) → t < n → id_of g.marks t ≡ 0 → Good n id g
    → Good n id (record { todo = t ∷ g.todo; marks = put g.marks t id 0; count = g.count })
unfolding put
push_good n id pos t g l z h =
    let i : t < length g.marks.ids = omega (arith, h.sized) in
    let r = tally_room id g.marks.ids t i (λ w. omega arith) in
    record { sized = length-set g.marks.ids t id ∙ h.sized; held = omega (arith, h.held, r.0); once = once_push g.marks.ids id t g.todo i z pos h.once }

-- what pushes do: all stays good, the stack grows by j at most, the count stays
pub record Moved (n id j : ℕ) (g g' : Flow) : Type 0 where
  pub good : Good n id g'
  pub more : length g'.todo ≤ length g.todo + j
  pub same : g'.count ≡ g.count

-- what a visit does: all stays good, and the measure falls below m
pub record Fell (n id m : ℕ) (g : Flow) : Type 0 where
  pub good : Good n id g
  pub less : 5 * (n - g.count) + length g.todo < m

module _ (N : Net) (dist : List ℕ) (q : Seed) (pos : 0 < q.id) (byte : q.area < 256) where
  pub pushed_moves : (c d j : ℕ) (g₀ g : Flow) → Moved (spans N) q.id j g₀ g → Moved (spans N) q.id (suc j) g₀ (pushed N dist q c d g)
  unfolding pushed
  pushed_moves c d j g₀ g m =
      if-ind (λ (v : Flow). Moved (spans N) q.id (suc j) g₀ v) _
      (λ e.
      let e2 = both _ _ (both _ _ e).0 in
      let t = near N c d in
      let inside : t < spans N = has_area N t q.area (λ w. omega arith) (eqb-true _ _ e2.0) in
      record { good = push_good (spans N) q.id pos t g inside (eqb-true _ _ e2.1) m.good; more = omega (arith, m.more); same = m.same })
      (λ _. record { good = m.good; more = omega (arith, m.more); same = m.same })

  -- span c was popped, and g is the flood without it
  pub visit_fell : (c : ℕ) (g : Flow) → Good (spans N) q.id (record { todo = c ∷ g.todo; marks = g.marks; count = g.count })
      → Fell (spans N) q.id (5 * (spans N - g.count) + suc (length g.todo)) (visit N dist q c g)
  unfolding visit
  visit_fell c g h =
      if-ind (λ (v : Flow). Fell (spans N) q.id (5 * (spans N - g.count) + suc (length g.todo)) v) (objects N g.marks q c)
      (λ _. record {
        good = record { sized = length-set g.marks.ids c 0 ∙ h.sized; held = omega (arith, h.held, fewer); once = once_clear g.marks.ids q.id c g.todo h.once };
        less = omega arith;
      })
      (λ _.
      let g₁ : Flow = record { todo = g.todo; marks = g.marks; count = suc g.count } in
      let m = upto-ind (λ j (v : Flow). Moved (spans N) q.id j g₁ v) (pushed N dist q c) g₁ 4
      (record { good = record { sized = h.sized; held = omega (arith, h.held); once = once_rest g.marks.ids q.id c g.todo h.once }; more = omega arith; same = refl })
      (λ j v _ p. pushed_moves c j j g₁ v p) in
      record { good = m.good; less = omega (arith, m.more, m.same, h.held, h.sized, tally_le q.id g.marks.ids) })
    where
      -- one span fewer has the id
      fewer : tally q.id (set g.marks.ids c 0) + 1 ≡ tally q.id g.marks.ids
      fewer =
          let has = (top_has_id g.marks.ids q.id c g.todo h.once).0 in
          let nz : 0 ≡ q.id → ⊥ = λ w. omega arith in
          let t = rw (eq-eqb _ _ has, ne_eqb 0 q.id nz) at (tally-set q.id g.marks.ids c 0 (in_list g.marks.ids c q.id has pos)) in
          omega arith
