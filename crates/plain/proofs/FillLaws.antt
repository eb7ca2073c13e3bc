-- A room is filled before its fuel is used up: a span that waits had no id before, so spans that wait and spans without an id together grow no more,
-- and each turn takes one away. Assumes nothing.
use Prim.Native.Nat.{ℕ, zero, suc, ◌+◌, ◌-◌, ◌≤◌, ◌<◌}
use native.Mathlib.Omega.{arith}
use mathlib.Core.Path.{◌≡◌, refl, ◌∙◌}
use mathlib.Core.List.{List, [], ◌∷◌}
use lib.ListN.{length, get_or, set, length-set}
use borrow.Author.Tests.{eqb-true, eq-eqb, ne_eqb}
use Rattle.rules.specs.Base.{upto}
use Rattle.rules.specs.Net.{Net, spans, near}
use Rattle.rules.specs.Plain.{Fill, joins, fill}
use Rattle.laws.proofs.Basics.{both, if-ind, upto-ind}
use Rattle.laws.proofs.FloodEnds.{has_area}
use Rattle.space.specs.Space.{tally}
use Rattle.space.proofs.Laws.{tally-set}
use Rattle.plain.specs.Stack.{Filling}

-- spans that wait, and spans without an id
abbrev pub left : Fill → ℕ
left f = length f.todo + tally 0 f.ids

-- a span of id 0 gets another: one fewer has none
pub fewer : (ids : List ℕ) (t id : ℕ) → t < length ids → get_or ids t 0 ≡ 0 → 0 < id → tally 0 (set ids t id) + 1 ≡ tally 0 ids
fewer ids t id h z p =
    let e = rw (eq-eqb (get_or ids t 0) 0 z, ne_eqb id 0 (λ w. omega arith)) at (tally-set 0 ids t id h) in
    omega arith

module _ (N : Net) (area id : ℕ) (byte : area < 256) (pos : 0 < id) where
  pub joins_keeps : (c d : ℕ) (f : Fill) → Filling (spans N) f → Filling (spans N) (joins N area id c d f) × (left (joins N area id c d f) ≡ left f)
  unfolding joins
  joins_keeps c d f h =
      if-ind (λ (g : Fill). Filling (spans N) g × (left g ≡ left f)) _
      (λ e.
      let a = both _ _ e in
      let t = near N c d in
      let i : t < spans N = has_area N t area (λ w. omega arith) (eqb-true _ _ a.0) in
      let w = fewer f.ids t id (omega (arith, h.size)) (eqb-true _ _ a.1) pos in
      (record { size = length-set f.ids t id ∙ h.size; inside = (i, h.inside); fits = omega (arith, h.fits) }, omega arith))
      (λ _. (h, refl))

  pub joins_all : (c k : ℕ) (f : Fill) → Filling (spans N) f
      → Filling (spans N) (upto k (joins N area id c) f) × (left (upto k (joins N area id c) f) ≡ left f)
  joins_all c k f h =
      upto-ind (λ _ (g : Fill). Filling (spans N) g × (left g ≡ left f)) (joins N area id c) f k (h, refl)
      (λ d g _ p. let q = joins_keeps c d g p.0 in (q.0, q.1 ∙ p.1))

  -- with the span that is looked at gone
  pub rest_filling : (c : ℕ) (cs ids : List ℕ) → Filling (spans N) (record { todo = c ∷ cs; ids = ids }) → Filling (spans N) (record { todo = cs; ids = ids })
  rest_filling c cs ids h = record { size = h.size; inside = h.inside.1; fits = omega (arith, h.fits) }

  pub fill_ends : (k : ℕ) (todo ids : List ℕ) → Filling (spans N) (record { todo = todo; ids = ids }) → length todo + tally 0 ids ≤ k
      → ((fill N area id k todo ids).todo ≡ []) × (length (fill N area id k todo ids).ids ≡ spans N)
  unfolding fill
  fill_ends zero [] ids h l = (refl, h.size)
  fill_ends zero (c ∷ cs) ids h l = absurd (omega arith)
  fill_ends (suc k) [] ids h l = (refl, h.size)
  fill_ends (suc k) (c ∷ cs) ids h l =
      let r = joins_all c 4 (record { todo = cs; ids = ids }) (rest_filling c cs ids h) in
      fill_ends k _ _ r.0 (omega (arith, r.1))

-- one turn, and none left
pub fill-turn : (N : Net) (area id k c : ℕ) (cs ids : List ℕ) → 0 < k
    → fill N area id k (c ∷ cs) ids ≡ (let f = upto 4 (joins N area id c) (record { todo = cs; ids = ids }) in fill N area id (k - 1) f.todo f.ids)
unfolding fill
fill-turn N area id zero c cs ids h = absurd (omega arith)
fill-turn N area id (suc k) c cs ids h = let e : suc k - 1 ≡ k = omega arith in rw e

pub fill_done : (N : Net) (area id k : ℕ) (ids : List ℕ) → fill N area id k [] ids ≡ record { todo = []; ids = ids }
unfolding fill
fill_done N area id zero ids = refl
fill_done N area id (suc k) ids = refl
