-- A visit as the code makes it. The popped span bears the id, so it is a span (`Good`); the table lies past the stack, so popping keeps it;
-- and the flow afterwards is the rule's `visit`. Assumes nothing.
use mathlib.Core.Path.{◌≡◌, sym, ap, ◌∙◌}
use mathlib.Core.Bool.{Bool, true, false}
use mathlib.Core.Logic.{⊎_elim, inr}
use mathlib.Core.List.{List}
use Prim.Native.Nat.{ℕ, ◌+◌, ◌-◌, ◌≤◌, ◌<◌}
use native.Mathlib.Omega.{arith}
use native.Mathlib.Numerals.{add-one}
use native.Mathlib.Decide.{ℕ_discrete}
use lib.ListN.{length, get_or, set, length-set}
use lib.Seq.{get_or-set_other, get_or-set_same, take-set-le}
use Rattle.rules.specs.Base.{when◌then◌else◌, upto}
use Rattle.rules.specs.Net.{Net}
use Rattle.rules.specs.Growth.{Seed, objects, pushed, visit}
use Rattle.space.specs.Space.{tally, stack_at}
use Rattle.space.proofs.Laws.{in_list, tally_le, length-stack_at, stack_at_pop, stack_at-set}
use Rattle.flood.specs.declared.flow.Height.{Height}
use Rattle.flood.specs.Stack.{marks_at, flow_at, Good, Blank, Kept}
use Rattle.flood.proofs.Goods.{top_has_id}

-- ---------------------------------------------------------------- the span on top

module _ (n stack id : ℕ) (ids ws : List ℕ) (h : Height) (g : Good n id (flow_at n stack ids ws h)) where
  pub good-held : (h.count + h.top ≡ tally id ids) × (h.count + h.top ≤ n)
  unfolding flow_at
  good-held =
      let e = rw (length-stack_at ws stack h.top) at g.held in
      (e, omega (arith, tally_le id ids, g.sized))

  pub good_top : 0 < id → 0 < h.top → get_or ws (stack + (h.top - 1)) 0 < n
  unfolding flow_at
  good_top p l =
      let o = rw (stack_at_pop ws stack h.top l) at g.once in
      let s = get_or ws (stack + (h.top - 1)) 0 in
      omega (arith, in_list ids s id (top_has_id ids id s (stack_at ws stack (h.top - 1)) o).0 p, g.sized)

-- ---------------------------------------------------------------- the two ways out

-- entry t is popped: ws₁ is the workspace without it, and N₁ the net there
module _ (n stack : ℕ) (dist ids ws ws₁ : List ℕ) (t k : ℕ) (gone : ws₁ ≡ set ws (stack + t) 0) (low : n ≤ stack) where
  -- ids and source distances stay
  pub popped_marks : marks_at n ids ws₁ ≡ marks_at n ids ws
  popped_marks =
      let a : n ≤ stack + t = omega arith in
      rw gone (ap (λ (l : List ℕ). record { ids = ids; src = l }) (take-set-le n ws (stack + t) 0 a))

  -- so does the flow without the popped span
  popped_flow : (ids' : List ℕ) (j : ℕ) → flow_at n stack ids' ws₁ (record { top = t; count = j }) ≡ flow_at n stack ids' ws (record { top = t; count = j })
  unfolding flow_at
  popped_flow ids' j =
      let a : n ≤ stack + t = omega arith in
      let b : stack + t ≤ stack + t = omega arith in
      rw (gone, take-set-le n ws (stack + t) 0 a, stack_at-set ws stack t (stack + t) 0 (inr b))

  module _ (N N₁ : Net) (same : N₁ ≡ N) (q : Seed) (s x : ℕ) (is : s ≡ x) (r : Bool) (o : r ≡ objects N₁ (marks_at n ids ws₁) q s) where
    says : objects N (marks_at n ids ws) q x ≡ r
    says = rw (← is, ← same, ← popped_marks) (sym o)

    pub visit-objects : r ≡ true → flow_at n stack (set ids s 0) ws₁ (record { top = t; count = k }) ≡ visit N dist q x (flow_at n stack ids ws (record { top = t; count = k }))
    unfolding visit flow_at when◌then◌else◌
    visit-objects y = let z = says ∙ y in rw (z, is) (popped_flow (set ids x 0) k)

    pub visit_counts : (ids' ws' : List ℕ) (h : Height) → r ≡ false
        → flow_at n stack ids' ws' h ≡ upto 4 (pushed N₁ dist q s) (flow_at n stack ids ws₁ (record { top = t; count = k + 1 }))
        → flow_at n stack ids' ws' h ≡ visit N dist q x (flow_at n stack ids ws (record { top = t; count = k }))
    unfolding visit flow_at when◌then◌else◌
    visit_counts ids' ws' h y e = let z = says ∙ y in rw z (rw (is, same, popped_flow ids (k + 1), add-one) at e)

-- popping keeps what is outside of the stack's section, and leaves zeros past the entries
pub popped_kept : (n stack t : ℕ) (ws ws₁ : List ℕ) → ws₁ ≡ set ws (stack + t) 0 → t < n → Kept n stack ws ws₁
popped_kept n stack t ws ws₁ k h = rw k (record {
  size = length-set ws (stack + t) 0;
  same = λ i a b. get_or-set_other ws (stack + t) i 0 0 (λ e. ⊎_elim (λ (l : i < stack). omega arith) (λ (l : stack + n ≤ i). omega arith) b);
})

pub popped_blank : (n stack t top : ℕ) (ws ws₁ : List ℕ) → ws₁ ≡ set ws (stack + t) 0 → t + 1 ≡ top → stack + t < length ws → Blank n stack top ws → Blank n stack t ws₁
popped_blank n stack t top ws ws₁ k e h b = rw k (record {
  zeros = λ i a l. elim (ℕ_discrete i (stack + t)) [
    | yes z ↦ ap (λ (x : ℕ). get_or (set ws (stack + t) 0) x 0) z ∙ get_or-set_same ws (stack + t) 0 0 h
    | no z ↦ get_or-set_other ws (stack + t) i 0 0 z ∙ b.zeros i (omega arith) l
  ];
})
