-- The flood as a loop of visits: what is left to run from here gives what the whole run gives, and 5 (n - count) plus the stack's height
-- falls, so the rule's fuel, 5 n + 5, is not used up. Assumes nothing.
use mathlib.Core.Path.{◌≡◌, refl, sym, ap, ◌∙◌}
use mathlib.Core.Logic.{⊎_elim, inl, inr}
use mathlib.Core.List.{List, [], ◌∷◌}
use Prim.Native.Nat.{ℕ, suc, ◌+◌, ◌-◌, ◌*◌, ◌≤◌, ◌<◌}
use native.Mathlib.Omega.{arith}
use native.Mathlib.Decide.{dec_lt}
use native.Mathlib.Nat.{add-zero}
use lib.ListN.{length, get_or, set, take, drop, length-set, length-drop}
use lib.Seq.{ext_get_or, get_or-drop, get_or-set_other, take-set-le, take-set-lt}
use Rattle.rules.specs.Net.{Net, spans}
use Rattle.rules.specs.Growth.{put, Seed, Flow, visit, flow, flood}
use Rattle.laws.proofs.FloodArea.{flow_done, flow-turn}
use Rattle.space.specs.Space.{tally, stack_at}
use Rattle.space.proofs.Laws.{length-stack_at, stack_at_pop, stack_at_push}
use Rattle.net.specs.Table.{net_at, Lent}
use Rattle.net.proofs.Tables.{spans-at, area_at, lent_same}
use Rattle.net.specs.declared.Sections.{Sections}
use Rattle.flood.specs.declared.flow.Height.{Height}
use Rattle.flood.specs.Stack.{marks_at, flow_at, Placed, Good, Blank, Flooding, Kept, Begins}
use Rattle.flood.proofs.Goods.{Fell, push_good, visit_fell}
use Rattle.flood.proofs.Pushes.{placed_kept, net_kept, kept_then}

-- a flood under way, run on
abbrev pub runs : Net → List ℕ → Seed → ℕ → Flow → Flow
runs N dist q k g = flow N dist q k g.todo g.marks g.count

-- one span waits, and none counts yet
abbrev pub first : Height
first = record { top = 1; count = 0 }

-- ---------------------------------------------------------------- the start

-- the workspace with the seed pushed
abbrev pub begun : List ℕ → ℕ → ℕ → List ℕ
begun ws stack from = set (set ws from 0) stack from

module _ (n stack from id : ℕ) (ids ws : List ℕ) (sized : length ids ≡ n) (low : n ≤ stack) (room : stack + n ≤ length ws) (g : Begins id from ids) where
  from_in : from < n
  from_in = omega (arith, g.within)

  -- the flow with the seed pushed
  pub start-flow : flow_at n stack (set ids from id) (begun ws stack from) first ≡ record { todo = from ∷ []; marks = put (marks_at n ids ws) from id 0; count = 0 }
  unfolding flow_at stack_at put
  start-flow =
      let a : stack + 0 < length (set ws from 0) = rw (length-set ws from 0) (omega (arith, from_in)) in
      let p = rw add-zero at (stack_at_push (set ws from 0) stack 0 from a) in
      let b : take n (begun ws stack from) ≡ set (take n ws) from 0 = take-set-le n (set ws from 0) stack from low ∙ take-set-lt n ws from 0 from_in in
      rw (b, add-zero) (ap (λ (l : List ℕ). record { todo = l; marks = record { ids = set ids from id; src = set (take n ws) from 0 }; count = 0 }) p)

  start-good : Good n id (flow_at n stack (set ids from id) (begun ws stack from) first)
  unfolding tally
  start-good =
      rw start-flow (push_good n id g.some from (record { todo = []; marks = marks_at n ids ws; count = 0 }) from_in g.empty
      (record { sized = sized; held = sym g.unused; once = λ x. omega arith }))

  pub start_kept : Kept n stack ws (begun ws stack from)
  start_kept = record {
    size = length-set (set ws from 0) stack from ∙ length-set ws from 0;
    same = λ i a b.
        get_or-set_other (set ws from 0) stack i from 0 (λ e. ⊎_elim (λ (l : i < stack). omega arith) (λ (l : stack + n ≤ i). omega (arith, from_in)) b)
        ∙ get_or-set_other ws from i 0 0 (λ e. omega (arith, from_in));
  }

  pub start_flooding : Blank n stack 0 ws → Flooding n stack id (set ids from id) (begun ws stack from) first
  start_flooding b = record {
    good = start-good;
    blank = record {
      zeros = λ i a l. get_or-set_other (set ws from 0) stack i from 0 (λ e. omega arith) ∙ get_or-set_other ws from i 0 0 (λ e. omega (arith, from_in)) ∙ b.zeros i (omega arith) l;
    };
  }

-- ---------------------------------------------------------------- the loop

-- between two visits: what the rest gives is what the whole gives, and there is fuel enough
pub record Running (ar con dist : List ℕ) (at : Sections) (q : Seed) (ids₀ ws₀ ids ws : List ℕ) (h : Height) : Type 0 where
  pub lent : Lent at.table ar con ws
  pub net : net_at at.table ar ws ≡ net_at at.table ar ws₀
  pub placed : Placed (length ar) at dist ids
  pub size : length ids ≡ length ids₀
  pub kept : Kept (length ar) at.stack ws₀ ws
  pub flooding : Flooding (length ar) at.stack q.id ids ws h
  pub fuel : ℕ
  pub enough : 5 * (length ar - h.count) + h.top ≤ fuel
  pub same : runs (net_at at.table ar ws₀) dist q (5 * length ar + 5) (flow_at (length ar) at.stack ids₀ ws₀ first)
      ≡ runs (net_at at.table ar ws₀) dist q fuel (flow_at (length ar) at.stack ids ws h)

pub running_start : (ar con dist : List ℕ) (at : Sections) (q : Seed) (ids ws : List ℕ) → Lent at.table ar con ws → Placed (length ar) at dist ids
    → Flooding (length ar) at.stack q.id ids ws first → Running ar con dist at q ids ws ids ws first
running_start ar con dist at q ids ws l p f = record {
  lent = l;
  net = refl;
  placed = p;
  size = refl;
  kept = record { size = refl; same = λ i a b. refl };
  flooding = f;
  fuel = 5 * length ar + 5;
  enough = omega arith;
  same = refl;
}

module _ (ar con dist : List ℕ) (at : Sections) (q : Seed) (ids₀ ws₀ ids ws : List ℕ) (h : Height) (v : Running ar con dist at q ids₀ ws₀ ids ws h) where
  -- the end: nothing is left on the stack
  pub running_done : h.top ≡ 0
      → record { todo = []; marks = marks_at (length ar) ids ws; count = h.count }
      ≡ runs (net_at at.table ar ws₀) dist q (5 * length ar + 5) (flow_at (length ar) at.stack ids₀ ws₀ first)
  unfolding flow_at stack_at
  running_done z =
      let s = rw z at v.same in
      sym (s ∙ flow_done (net_at at.table ar ws₀) dist q v.fuel (marks_at (length ar) ids ws) h.count)

  -- a visit, which left ids', ws' and h'
  module _ (pos : 0 < q.id) (byte : q.area < 256) (more : 0 < h.top) (ids' ws' : List ℕ) (h' : Height)
      (e : flow_at (length ar) at.stack ids' ws' h'
      ≡ visit (net_at at.table ar ws) dist q (get_or ws (at.stack + (h.top - 1)) 0) (flow_at (length ar) at.stack ids ws (record { top = h.top - 1; count = h.count }))) where
    fell : Fell (length ar) q.id (5 * (length ar - h.count) + h.top) (flow_at (length ar) at.stack ids' ws' h')
    unfolding flow_at
    fell =
        let N = net_at at.table ar ws in
        let n = spans-at at.table ar ws in
        let p = stack_at_pop ws at.stack h.top more in
        let rest : Flow = record { todo = stack_at ws at.stack (h.top - 1); marks = marks_at (length ar) ids ws; count = h.count } in
        let a : Good (spans N) q.id (record { todo = get_or ws (at.stack + (h.top - 1)) 0 ∷ rest.todo; marks = rest.marks; count = rest.count }) = rw (n, ← p) v.flooding.good in
        let r = rw (n, length-stack_at ws at.stack (h.top - 1)) at (visit_fell N dist q pos byte (get_or ws (at.stack + (h.top - 1)) 0) rest a) in
        let k : suc (h.top - 1) ≡ h.top = omega arith in
        rw e (rw k at r)

    pub running_falls : 5 * (length ar - h'.count) + h'.top < 5 * (length ar - h.count) + h.top
    unfolding flow_at
    running_falls = rw (length-stack_at ws' at.stack h'.top) at fell.less

    turned : runs (net_at at.table ar ws₀) dist q v.fuel (flow_at (length ar) at.stack ids ws h)
        ≡ runs (net_at at.table ar ws₀) dist q (v.fuel - 1) (flow_at (length ar) at.stack ids' ws' h')
    unfolding flow_at
    turned =
        let N = net_at at.table ar ws₀ in
        let p = stack_at_pop ws at.stack h.top more in
        let f = rw v.net at e in
        rw p (flow-turn N dist q v.fuel (get_or ws (at.stack + (h.top - 1)) 0) (stack_at ws at.stack (h.top - 1)) (marks_at (length ar) ids ws) h.count (omega (arith, v.enough))
        ∙ ap (runs N dist q (v.fuel - 1)) (sym f))

    pub running_on : length ids' ≡ length ids → Kept (length ar) at.stack ws ws' → Blank (length ar) at.stack h'.top ws' → Running ar con dist at q ids₀ ws₀ ids' ws' h'
    running_on l k b =
        let n = net_kept ar v.placed v.lent.room k in
        record {
          lent = lent_same at.table ar con ws ws' k.size n v.lent;
          net = n ∙ v.net;
          placed = placed_kept ids' v.placed l;
          size = l ∙ v.size;
          kept = kept_then v.kept k;
          flooding = record { good = fell.good; blank = b };
          fuel = v.fuel - 1;
          enough = omega (arith, v.enough, running_falls);
          same = v.same ∙ turned;
        }

-- what is past the source distances is as it was, for the stack is empty again
pub flooded_past : (n stack : ℕ) (ws ws' : List ℕ) → n ≤ stack → Kept n stack ws ws' → Blank n stack 0 ws → Blank n stack 0 ws' → drop n ws' ≡ drop n ws
flooded_past n stack ws ws' h k b b' =
    ext_get_or 0 (drop n ws') (drop n ws) (length-drop n ws' ∙ ap (λ (x : ℕ). x - n) k.size ∙ sym (length-drop n ws))
    (λ i _. get_or-drop n ws' i 0 ∙ at (n + i) (omega arith) ∙ sym (get_or-drop n ws i 0))
  where
    at : (i : ℕ) → n ≤ i → get_or ws' i 0 ≡ get_or ws i 0
    at i a = elim (dec_lt i stack) [
      | yes l ↦ k.same i a (inl l)
      | no l ↦ elim (dec_lt i (stack + n)) [
        | yes r ↦ b'.zeros i (omega arith) r ∙ sym (b.zeros i (omega arith) r)
        | no r ↦ k.same i a (inr (omega arith))
      ]
    ]

-- the whole: from the seed on
pub flooded_is : (ar dist : List ℕ) (at : Sections) (from id level limit : ℕ) (ids ws : List ℕ) (whole : Flow) → length ids ≡ length ar → length ar ≤ at.stack → at.stack + length ar ≤ length ws
    → Begins id from ids → limit ≡ level - 2 → net_at at.table ar (begun ws at.stack from) ≡ net_at at.table ar ws
    → whole ≡ runs (net_at at.table ar (begun ws at.stack from)) dist (record { area = get_or ar from 0; id = id; limit = limit }) (5 * length ar + 5)
    (flow_at (length ar) at.stack (set ids from id) (begun ws at.stack from) first)
    → whole ≡ flood (net_at at.table ar ws) dist level id (marks_at (length ar) ids ws) from
unfolding flood
flooded_is ar dist at from id level limit ids ws whole sized low room g e n w =
    let s : from < length ar = omega (arith, g.within) in
    rw (area_at at.table ar ws from s, spans-at at.table ar ws, ← e) (rw (n, start-flow (length ar) at.stack from id ids ws sized low room g) at w)
