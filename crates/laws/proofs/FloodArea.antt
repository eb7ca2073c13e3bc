-- Whatever bears a flood's id has the area of its seed: only same-area neighbours are pushed, and what objects returns to id 0.
-- And a flood by turns, as a loop goes through it: done where nothing waits, one visit and the rest where something does.
use Prim.Native.Nat.{ℕ, zero, suc, ◌-◌, ◌<◌}
use native.Mathlib.Omega.{arith}
use mathlib.Core.Path.{◌≡◌, refl, sym, ap, ◌∙◌}
use mathlib.Core.List.{List, [], ◌∷◌}
use lib.ListN.{set}
use borrow.Author.Tests.{eqb-true}
use Rattle.rules.specs.Net.{Net, area_of, near}
use Rattle.rules.specs.Growth.{Marks, id_of, put, Seed, Flow, pushed, visit, flow, objects}
use Rattle.laws.proofs.Basics.{both, if-ind, upto-ind, get_or-set_cases}

pub Own : Net → Seed → Marks → Type 0
Own N q m = (s : ℕ) → id_of m s ≡ q.id → area_of N s ≡ q.area

module _ (N : Net) (dist : List ℕ) (q : Seed) where
  put_own : (m : Marks) (t d : ℕ) → area_of N t ≡ q.area → Own N q m → Own N q (put m t q.id d)
  unfolding Own put
  put_own m t d a h s = get_or-set_cases m.ids t q.id s (λ r. r ≡ q.id → area_of N s ≡ q.area) (λ e _. ap (area_of N) e ∙ a) (h s)

  clear_own : (m : Marks) (c : ℕ) → (q.id ≡ 0 → ⊥) → Own N q m → Own N q (record { ids = set m.ids c 0; src = m.src })
  unfolding Own
  clear_own m c z h s = get_or-set_cases m.ids c 0 s (λ r. r ≡ q.id → area_of N s ≡ q.area) (λ _ e. absurd (z (sym e))) (h s)

  pushed_own : (c d : ℕ) (f : Flow) → Own N q f.marks → Own N q (pushed N dist q c d f).marks
  unfolding pushed
  pushed_own c d f h =
      if-ind (λ (g : Flow). Own N q g.marks) _
      (λ e. put_own f.marks (near N c d) 0 (eqb-true _ _ (both _ _ (both _ _ e).0).0) h)
      (λ _. h)

  visit_own : (c : ℕ) (f : Flow) → (q.id ≡ 0 → ⊥) → Own N q f.marks → Own N q (visit N dist q c f).marks
  unfolding visit
  visit_own c f z h =
      if-ind (λ (g : Flow). Own N q g.marks) (objects N f.marks q c)
      (λ _. clear_own f.marks c z h)
      (λ _. upto-ind (λ k (g : Flow). Own N q g.marks) (pushed N dist q c) _ 4 h (λ k g _ p. pushed_own c k g p))

  pub flow_own : (k : ℕ) (todo : List ℕ) (m : Marks) (n : ℕ) → (q.id ≡ 0 → ⊥) → Own N q m → Own N q (flow N dist q k todo m n).marks
  unfolding flow
  flow_own zero todo m n z h = h
  flow_own (suc k) [] m n z h = h
  flow_own (suc k) (c ∷ cs) m n z h =
      let f = visit N dist q c (record { todo = cs; marks = m; count = n }) in
      flow_own k f.todo f.marks f.count z (visit_own c _ z h)

-- ---------------------------------------------------------------- a flood by turns

pub flow_done : (N : Net) (dist : List ℕ) (q : Seed) (k : ℕ) (m : Marks) (n : ℕ) → flow N dist q k [] m n ≡ record { todo = []; marks = m; count = n }
unfolding flow
flow_done N dist q zero m n = refl
flow_done N dist q (suc k) m n = refl

pub flow-turn : (N : Net) (dist : List ℕ) (q : Seed) (k c : ℕ) (cs : List ℕ) (m : Marks) (n : ℕ) → 0 < k
    → flow N dist q k (c ∷ cs) m n ≡ (let f = visit N dist q c (record { todo = cs; marks = m; count = n }) in flow N dist q (k - 1) f.todo f.marks f.count)
unfolding flow
flow-turn N dist q zero c cs m n h = absurd (omega arith)
flow-turn N dist q (suc k) c cs m n h = let e : suc k - 1 ≡ k = omega arith in rw e
