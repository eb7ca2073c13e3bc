-- What a flood does to the span that is watched, as the code finds it: the objecting span is read from the table, and what is left of the story to tell,
-- from here, is what is left of the whole (`Telling`). Assumes nothing.
use mathlib.Core.Path.{◌≡◌, refl, sym, ap, ◌∙◌}
use mathlib.Core.Bool.{Bool, true, false}
use mathlib.Core.List.{List, [], ◌∷◌}
use Prim.Native.Nat.{ℕ, zero, suc, ◌+◌, ◌*◌, ◌-◌, ◌%◌, ◌≤◌, ◌<◌}
use native.Mathlib.Omega.{arith}
use lib.ListN.{length, get_or, set, get_or-eq_default}
use lib.Dec.{eqb}
use borrow.Author.Tests.{eq-eqb, ne_eqb}
use Rattle.rules.specs.Base.{◌and◌, when◌then◌else◌}
use Rattle.rules.specs.Field.{none}
use Rattle.rules.specs.Net.{Net, near, corner}
use Rattle.rules.specs.Growth.{Marks, Seed, Flow, other, sees, objects, visit}
use Rattle.rules.specs.Reasons.{Story, gave_back, objector, objecting, visit_tells, flow_tells, flood_tells}
use Rattle.laws.proofs.Basics.{and_no}
use Rattle.field.proofs.Places.{turned}
use Rattle.net.specs.Table.{net_at, Lent, AtSpan}
use Rattle.net.specs.declared.Sections.{Sections}
use Rattle.net.proofs.Tables.{near-at, near_is, net_few, spans-at, area_at}
use Rattle.space.specs.Space.{stack_at}
use Rattle.rules.specs.Refusals.{most_spans}
use Rattle.space.proofs.Laws.{stack_at_pop, length-sec}
use Rattle.flood.specs.declared.flow.Height.{Height}
use Rattle.flood.specs.declared.look.View.{View}
use Rattle.flood.specs.declared.look.View.TheVariants.{Nothing, TheEnd, Objection}
use Rattle.flood.specs.Looks.{view_number}
use Rattle.flood.specs.Stack.{marks_at, flow_at, Placed, Blank, Flooding, Kept, Begins}
use Rattle.flood.proofs.Visits.{popped_marks}
use Rattle.flood.proofs.Floods.{first, begun, start-flow, Running, running_start, running_falls, running_on}

-- ---------------------------------------------------------------- the objecting span

-- a direction that leads nowhere
none-objector : (N : Net) (m : Marks) (q : Seed) (s d : ℕ) → near N s d ≡ none → get_or m.ids none 0 ≡ 0 → near N none ((d + 1) % 4) ≡ none → objector N m q s d ≡ none
unfolding objector corner when◌then◌else◌ ◌and◌
none-objector N m q s d e i c = rw (e, i) c

none-near : (N : Net) (d : ℕ) → length N.neighbours ≤ 4 * none → near N none d ≡ none
unfolding near
none-near N d h = get_or-eq_default N.neighbours none (omega arith)

short : (table : ℕ) (ar ws : List ℕ) → table + 4 * length ar ≤ length ws → length ar ≤ most_spans → length (net_at table ar ws).neighbours ≤ 4 * none
unfolding net_at
short table ar ws r h = omega (arith, length-sec table (4 * length ar) ws r)

module _ (table : ℕ) (ar ids ws cons : List ℕ) (q : Seed) (s d : ℕ) (v : AtSpan table ar ws cons s) (hd : d < 4) (t : ℕ) (e : t ≡ get_or ws (table + (4 * s + d)) 0) where
  there : near (net_at table ar ws) s d ≡ t
  there = near_is table ar ws cons s d t v hd e

  pub objector-none : length ids ≡ length ar → t ≡ 65535 → 65535 ≡ objector (net_at table ar ws) (marks_at (length ar) ids ws) q s d
  objector-none l z =
      let few = net_few table ar ws v.closed in
      let i : get_or ids none 0 ≡ 0 = get_or-eq_default ids 0 (omega arith) in
      sym (none-objector (net_at table ar ws) (marks_at (length ar) ids ws) q s d (there ∙ z) i (none-near (net_at table ar ws) ((d + 1) % 4) (short table ar ws v.room few)))

  pub objector-side : (r : Bool) → r ≡ other q.id (get_or ids t 0) → r ≡ true → t ≡ objector (net_at table ar ws) (marks_at (length ar) ids ws) q s d
  unfolding objector when◌then◌else◌
  objector-side r o y = rw (there, sym o ∙ y)

  pub objector-corner : (r : Bool) → r ≡ other q.id (get_or ids t 0) → r ≡ false → t < length ar → (u : ℕ) → u ≡ get_or ws (table + (4 * t + (d + 1) % 4)) 0
      → u ≡ objector (net_at table ar ws) (marks_at (length ar) ids ws) q s d
  unfolding objector corner when◌then◌else◌
  objector-corner r o y h u eu = rw (there, sym o ∙ y) (eu ∙ sym (near-at table ar ws t ((d + 1) % 4) v.room h (turned d 1)))

-- the first of k directions from d that sees an objection, or else the one past them
pub objecting_from : Net → Marks → Seed → ℕ → ℕ → ℕ → ℕ
objecting_from N m q c zero d = objector N m q c d
objecting_from N m q c (suc k) d = when eqb (sees N m q c d) 2 then objector N m q c d else objecting_from N m q c k (d + 1)

no_objection : (l : View) → (l ≡ Objection → ⊥) → eqb (view_number l) 2 ≡ false
unfolding view_number
no_objection Nothing z = refl
no_objection TheEnd z = refl
no_objection Objection z = absurd (z refl)

-- at direction d of the first three: what is left to look at gives what all give
pub record Objecting (N : Net) (m : Marks) (q : Seed) (s d : ℕ) : Type 0 where
  pub few : d ≤ 3
  pub same : objecting N m q s ≡ objecting_from N m q s (3 - d) d

pub objecting_start : (N : Net) (m : Marks) (q : Seed) (s : ℕ) → Objecting N m q s 0
unfolding objecting objecting_from
objecting_start N m q s = record { few = omega arith; same = refl }

module _ (N : Net) (m : Marks) (q : Seed) (s d : ℕ) (v : Objecting N m q s d) where
  module _ (l : View) (h : d < 3) (e : view_number l ≡ sees N m q s d) where
    left : 3 - d ≡ suc (3 - (d + 1))
    left = omega arith

    now_at : objecting N m q s ≡ when eqb (view_number l) 2 then objector N m q s d else objecting_from N m q s (3 - (d + 1)) (d + 1)
    unfolding objecting_from
    now_at = rw e (rw left at v.same)

    pub objecting_here : l ≡ Objection → (o : ℕ) → o ≡ objector N m q s d → o ≡ objecting N m q s
    unfolding view_number when◌then◌else◌
    objecting_here z o y = y ∙ sym (rw z at now_at)

    past : eqb (view_number l) 2 ≡ false → Objecting N m q s (d + 1)
    unfolding when◌then◌else◌
    past z = record { few = omega arith; same = rw z at now_at }

    pub objecting_on : (l ≡ Objection → ⊥) → Objecting N m q s (d + 1)
    objecting_on z = past (no_objection l z)

  pub objecting_last : 3 ≤ d → (o : ℕ) → o ≡ objector N m q s 3 → o ≡ objecting N m q s
  unfolding objecting_from
  objecting_last h o y =
      let z : d ≡ 3 = omega (arith, v.few) in
      y ∙ sym (rw z at v.same)

-- ---------------------------------------------------------------- a visit

module _ (N : Net) (m : Marks) (q : Seed) (c : ℕ) (y : Story) where
  pub visit-other : (c ≡ y.span → ⊥) → y ≡ visit_tells N m q c y
  unfolding visit_tells when◌then◌else◌ ◌and◌
  visit-other h = rw (ne_eqb c y.span h)

  visit_calm : objects N m q c ≡ false → y ≡ visit_tells N m q c y
  unfolding visit_tells when◌then◌else◌ ◌and◌
  visit_calm z = rw (z, and_no (eqb c y.span))

  pub visit-back : c ≡ y.span → objects N m q c ≡ true → (o : ℕ) → o ≡ objecting N m q c
      → record { span = y.span; from = y.from; gave = q.id; objecting = o } ≡ visit_tells N m q c y
  unfolding visit_tells gave_back when◌then◌else◌ ◌and◌
  visit-back h z o e = rw (eq-eqb c y.span h, z, ← e)

-- entry t is popped: ws₁ is the workspace without it, and N₁ the net there
module _ (n stack t : ℕ) (ids ws ws₁ : List ℕ) (gone : ws₁ ≡ set ws (stack + t) 0) (low : n ≤ stack) (N N₁ : Net) (same : N₁ ≡ N) (q : Seed) (s x : ℕ) (is : s ≡ x) (y : Story) where
  marks : marks_at n ids ws₁ ≡ marks_at n ids ws
  marks = popped_marks n stack [] ids ws ws₁ t 0 gone low

  pub popped_back : (y' : Story) → y' ≡ visit_tells N₁ (marks_at n ids ws₁) q s y → y' ≡ visit_tells N (marks_at n ids ws) q x y
  popped_back y' e = rw (same, is, marks) at e

  pub popped_calm : (r : Bool) → r ≡ objects N₁ (marks_at n ids ws₁) q s → r ≡ false → y ≡ visit_tells N (marks_at n ids ws) q x y
  popped_calm r o z = popped_back y (visit_calm N₁ (marks_at n ids ws₁) q s y (sym o ∙ z))

-- ---------------------------------------------------------------- the loop

abbrev pub tells : Net → List ℕ → Seed → ℕ → Flow → Story → Story
tells N dist q k g y = flow_tells N dist q k g.todo g.marks g.count y

pub tells_done : (N : Net) (dist : List ℕ) (q : Seed) (k : ℕ) (m : Marks) (n : ℕ) (y : Story) → flow_tells N dist q k [] m n y ≡ y
unfolding flow_tells
tells_done N dist q zero m n y = refl
tells_done N dist q (suc k) m n y = refl

pub tells_turn : (N : Net) (dist : List ℕ) (q : Seed) (k c : ℕ) (cs : List ℕ) (m : Marks) (n : ℕ) (y : Story) → 0 < k
    → flow_tells N dist q k (c ∷ cs) m n y ≡ tells N dist q (k - 1) (visit N dist q c (record { todo = cs; marks = m; count = n })) (visit_tells N m q c y)
unfolding flow_tells
tells_turn N dist q zero c cs m n y h = absurd (omega arith)
tells_turn N dist q (suc k) c cs m n y h = let e : suc k - 1 ≡ k = omega arith in rw e

-- between two visits: what is left to tell, from here on, is what is left of the whole, and there is fuel enough
pub record Telling (ar con dist : List ℕ) (at : Sections) (q : Seed) (ids₀ ws₀ : List ℕ) (y₀ : Story) (ids ws : List ℕ) (h : Height) (y : Story) : Type 0 where
  pub running : Running ar con dist at q ids₀ ws₀ ids ws h
  pub fuel : ℕ
  pub enough : 5 * (length ar - h.count) + h.top ≤ fuel
  pub told : tells (net_at at.table ar ws₀) dist q (5 * length ar + 5) (flow_at (length ar) at.stack ids₀ ws₀ first) y₀
      ≡ tells (net_at at.table ar ws₀) dist q fuel (flow_at (length ar) at.stack ids ws h) y

pub telling_start : (ar con dist : List ℕ) (at : Sections) (q : Seed) (ids ws : List ℕ) (y : Story) → Lent at.table ar con ws → Placed (length ar) at dist ids
    → Flooding (length ar) at.stack q.id ids ws first → Telling ar con dist at q ids ws y ids ws first y
telling_start ar con dist at q ids ws y l p f = record { running = running_start ar con dist at q ids ws l p f; fuel = 5 * length ar + 5; enough = omega arith; told = refl }

module _ (ar con dist : List ℕ) (at : Sections) (q : Seed) (ids₀ ws₀ : List ℕ) (y₀ : Story) (ids ws : List ℕ) (h : Height) (y : Story)
    (v : Telling ar con dist at q ids₀ ws₀ y₀ ids ws h y) where
  pub telling_done : h.top ≡ 0 → y ≡ tells (net_at at.table ar ws₀) dist q (5 * length ar + 5) (flow_at (length ar) at.stack ids₀ ws₀ first) y₀
  unfolding flow_at stack_at
  telling_done z =
      let s = rw z at v.told in
      sym (s ∙ tells_done (net_at at.table ar ws₀) dist q v.fuel (marks_at (length ar) ids ws) h.count y)

  module _ (pos : 0 < q.id) (byte : q.area < 256) (more : 0 < h.top) (ids' ws' : List ℕ) (h' : Height)
      (e : flow_at (length ar) at.stack ids' ws' h'
      ≡ visit (net_at at.table ar ws) dist q (get_or ws (at.stack + (h.top - 1)) 0) (flow_at (length ar) at.stack ids ws (record { top = h.top - 1; count = h.count }))) where
    told_on : (y' : Story) → y' ≡ visit_tells (net_at at.table ar ws) (marks_at (length ar) ids ws) q (get_or ws (at.stack + (h.top - 1)) 0) y
        → tells (net_at at.table ar ws₀) dist q v.fuel (flow_at (length ar) at.stack ids ws h) y
        ≡ tells (net_at at.table ar ws₀) dist q (v.fuel - 1) (flow_at (length ar) at.stack ids' ws' h') y'
    unfolding flow_at
    told_on y' t =
        let N = net_at at.table ar ws₀ in
        let p = stack_at_pop ws at.stack h.top more in
        let f = rw v.running.net at e in
        let g = rw v.running.net at t in
        let c = get_or ws (at.stack + (h.top - 1)) 0 in
        let m = marks_at (length ar) ids ws in
        rw p (tells_turn N dist q v.fuel c (stack_at ws at.stack (h.top - 1)) m h.count y (omega (arith, v.enough))
        ∙ ap (λ (x : Flow). tells N dist q (v.fuel - 1) x (visit_tells N m q c y)) (sym f)
        ∙ ap (tells N dist q (v.fuel - 1) (flow_at (length ar) at.stack ids' ws' h')) (sym g))

    pub telling_on : length ids' ≡ length ids → Kept (length ar) at.stack ws ws' → Blank (length ar) at.stack h'.top ws' → (y' : Story)
        → y' ≡ visit_tells (net_at at.table ar ws) (marks_at (length ar) ids ws) q (get_or ws (at.stack + (h.top - 1)) 0) y
        → Telling ar con dist at q ids₀ ws₀ y₀ ids' ws' h' y'
    telling_on l k b y' t = record {
      running = running_on ar con dist at q ids₀ ws₀ ids ws h v.running pos byte more ids' ws' h' e l k b;
      fuel = v.fuel - 1;
      enough = omega (arith, v.enough, running_falls ar con dist at q ids₀ ws₀ ids ws h v.running pos byte more ids' ws' h' e);
      told = v.told ∙ told_on y' t;
    }

-- the whole: from the seed on
pub told_is : (ar dist : List ℕ) (at : Sections) (from id level limit : ℕ) (ids ws : List ℕ) (y whole : Story) → length ids ≡ length ar → length ar ≤ at.stack → at.stack + length ar ≤ length ws
    → Begins id from ids → limit ≡ level - 2 → net_at at.table ar (begun ws at.stack from) ≡ net_at at.table ar ws
    → whole ≡ tells (net_at at.table ar (begun ws at.stack from)) dist (record { area = get_or ar from 0; id = id; limit = limit }) (5 * length ar + 5)
    (flow_at (length ar) at.stack (set ids from id) (begun ws at.stack from) first) y
    → whole ≡ flood_tells (net_at at.table ar ws) dist level id (marks_at (length ar) ids ws) from y
unfolding flood_tells
told_is ar dist at from id level limit ids ws y whole sized low room g e n w =
    let s : from < length ar = omega (arith, g.within) in
    rw (area_at at.table ar ws from s, spans-at at.table ar ws, ← e) (rw (n, start-flow (length ar) at.stack from id ids ws sized low room g) at w)
