-- What growth keeps, and that a round of expansion keeps it. Assumes nothing.
use Prim.Native.Nat.{ℕ, zero, suc, ◌≤◌, ◌<◌}
use native.Mathlib.Omega.{arith}
use mathlib.Core.Path.{◌≡◌, refl, sym, ap, ◌∙◌}
use mathlib.Core.Bool.{true, false, true≢false}
use mathlib.Core.List.{List, [], ◌∷◌, map}
use lib.ListN.{length, get_or, length-set}
use lib.Dec.{eqb}
use borrow.Author.Tests.{eqb-true, eqb-false, not-true}
use Rattle.rules.specs.Base.{when◌then◌else◌}
use Rattle.rules.specs.Field.{none}
use Rattle.rules.specs.Net.{Net, spans, near, area_of}
use Rattle.rules.specs.Growth.{Marks, id_of, put, Taken, look, takes, finds, wrote, written, Spread, round, rounds, expand}
use Rattle.laws.proofs.Basics.{both, if-ind, upto-ind, All, get_or-set_cases, map_all}
use Rattle.rooms.specs.Rooms.{Plain, Bears}
use Rattle.rooms.specs.Linked.{Linked, stay, goes}
use Rattle.rooms.proofs.Joins.{joined_trans, joined_sym, joined-map, plain_true}

-- ids from first on and below next are in use, each by one joined set of spans of one area
pub record Grow (N : Net) (first next : ℕ) (ids : List ℕ) : Type 0 where
  pub some : 0 < first
  pub ahead : first ≤ next
  pub size : length ids ≡ spans N
  pub bare : (s : ℕ) → area_of N s ≡ 0 → get_or ids s 0 ≡ 0
  pub range : (r s : ℕ) → Plain r → Bears ids r s → (first ≤ r) × (r < next)
  pub borne : (r : ℕ) → first ≤ r → r < next → (s : ℕ) × Bears ids r s
  pub one : (r s t : ℕ) → Plain r → Bears ids r s → Bears ids r t → area_of N s ≡ area_of N t
  pub join : (r s t : ℕ) → Plain r → Bears ids r s → Bears ids r t → Linked N (Bears ids r) s t

-- v, the id that span s has after a round
pub data Step (N : Net) (ids : List ℕ) (s v : ℕ) : Type 0 where
  same : v ≡ get_or ids s 0 → Step N ids s v
  took : (d : ℕ) → d < 4 → Plain v → get_or ids s 0 ≡ 0 → get_or ids (near N s d) 0 ≡ v → area_of N (near N s d) ≡ area_of N s → Step N ids s v

module _ (N : Net) (first next : ℕ) (ids ids' : List ℕ) (g : Grow N first next ids) (steps : (s : ℕ) → Step N ids s (get_or ids' s 0)) where
  step_kept : (r u : ℕ) → (r ≡ 0 → ⊥) → Bears ids r u → Bears ids' r u
  step_kept r u z h = go (get_or ids' u 0) (steps u)
    where
      go : (v : ℕ) → Step N ids u v → v ≡ r
      go v (same e) = e ∙ h
      go v (took d l p o n a) = absurd (z (sym h ∙ o))

  -- where the id came from
  step_from : (r s : ℕ) → Plain r → Bears ids' r s → (t : ℕ) × Bears ids r t × (area_of N s ≡ area_of N t) × Linked N (Bears ids' r) s t
  step_from r s p h = go (get_or ids' s 0) (steps s) h
    where
      go : (v : ℕ) → Step N ids s v → v ≡ r → (t : ℕ) × Bears ids r t × (area_of N s ≡ area_of N t) × Linked N (Bears ids' r) s t
      go v (same e) k = (s, sym e ∙ k, refl, stay h)
      go v (took d l q o n a) k =
          let old : Bears ids r (near N s d) = n ∙ k in
          (near N s d, old, sym a, goes d l h (stay (step_kept r (near N s d) (λ z. omega arith) old)))

  step-bare : (s : ℕ) → area_of N s ≡ 0 → get_or ids' s 0 ≡ 0
  step-bare s h = go (get_or ids' s 0) (steps s)
    where
      go : (v : ℕ) → Step N ids s v → v ≡ 0
      go v (same e) = e ∙ g.bare s h
      go v (took d l q o n a) = absurd (let z : v ≡ 0 = sym n ∙ g.bare (near N s d) (a ∙ h) in omega arith)

  pub step_grow : length ids' ≡ length ids → Grow N first next ids'
  step_grow n = record {
    some = g.some;
    ahead = g.ahead;
    size = n ∙ g.size;
    bare = step-bare;
    range = λ r s p h. let t = step_from r s p h in g.range r t.0 p t.1;
    borne = λ r a b. let w = g.borne r a b in (w.0, step_kept r w.0 (λ z. omega (arith, g.some)) w.1);
    one = λ r s t p h k.
        let x = step_from r s p h in
        let y = step_from r t p k in
        x.2 ∙ g.one r x.0 y.0 p x.1 y.1 ∙ sym y.2;
    join = λ r s t p h k.
        let x = step_from r s p h in
        let y = step_from r t p k in
        joined_trans N (Bears ids' r) x.3
        (joined_trans N (Bears ids' r) (joined-map N (λ u. step_kept r u (λ z. omega arith)) (g.join r x.0 y.0 p x.1 y.1))
        (joined_sym N (Bears ids' r) y.3));
  }

-- ---------------------------------------------------------------- what an entry takes

pub record Found (N : Net) (m : Marks) (s r : ℕ) : Type 0 where
  pub dir : ℕ
  pub four : dir < 4
  pub good : Plain r
  pub there : id_of m (near N s dir) ≡ r
  pub area : area_of N (near N s dir) ≡ area_of N s

module _ (N : Net) (m : Marks) where
  look_found : (s d : ℕ) (t : Taken) → d < 4 → ((t.id ≡ 0 → ⊥) → Found N m s t.id) → ((look N m s d t).id ≡ 0 → ⊥) → Found N m s (look N m s d t).id
  unfolding look
  look_found s d t h p =
      if-ind (λ (t : Taken). (t.id ≡ 0 → ⊥) → Found N m s t.id) _
      (λ e n.
      let a = both _ _ (both _ _ e).0 in
      record { dir = d; four = h; good = plain_true _ a.1; there = refl; area = eqb-true _ _ a.0 })
      (λ _. p)

  takes_found : (s : ℕ) → ((takes N m s).id ≡ 0 → ⊥) → Found N m s (takes N m s).id
  unfolding takes
  takes_found s = upto-ind (λ k (t : Taken). (t.id ≡ 0 → ⊥) → Found N m s t.id) (look N m s) _ 4 (λ n. absurd (n refl)) (λ k t h p. look_found s k t h p)

  finds_found : (e : ℕ) → finds N m e ≡ true → Found N m e (takes N m e).id × (e ≡ none → ⊥)
  unfolding finds
  finds_found e f = let a = both _ _ f in (takes_found e (eqb-false _ _ (not-true _ a.1)), eqb-false _ _ (not-true _ a.0))

  -- a round so far
  record Held (out : Marks) : Type 0 where
    size : length out.ids ≡ length m.ids
    step : (s : ℕ) → Step N m.ids s (id_of out s)
    still : (s : ℕ) → finds N m s ≡ false → id_of out s ≡ id_of m s

  abbrev Idle : ℕ → Type 0
  Idle e = (e ≡ none → ⊥) → id_of m e ≡ 0

  wrote-held : (e : ℕ) (out : Marks) → Idle e → Held out → Held (wrote N m e out)
  unfolding wrote put
  wrote-held e out i h =
      if-ind (λ (x : Marks). Held x) (finds N m e)
      (λ f.
      let w = finds_found e f in
      record {
        size = length-set out.ids e _ ∙ h.size;
        step = λ s. get_or-set_cases out.ids e _ s (Step N m.ids s) (λ q. rw q (took w.0.dir w.0.four w.0.good (i w.1) w.0.there w.0.area)) (h.step s);
        still = λ s k. get_or-set_cases out.ids e _ s (λ v. v ≡ id_of m s) (λ q. absurd (true≢false (sym f ∙ ap (finds N m) (sym q) ∙ k))) (h.still s k);
      })
      (λ _. h)

  written_held : (es : List ℕ) (out : Marks) → All Idle es → Held out → Held (written N m es out)
  unfolding written
  written_held [] out i h = h
  written_held (e ∷ es) out i h = written_held es (wrote N m e out) i.1 (wrote-held e out i.0 h)

  -- all changes of a round, written together
  round_grow : (first next : ℕ) (es : List ℕ) → All Idle es → Grow N first next m.ids → Grow N first next (written N m es m).ids
  round_grow first next es i g =
      let h = written_held es m i (record { size = refl; step = λ s. same refl; still = λ s k. refl }) in
      step_grow N first next m.ids (written N m es m).ids g h.step h.size

  round_idle : (es : List ℕ) → All Idle es → All (λ e. (e ≡ none → ⊥) → id_of (written N m es m) e ≡ 0) (map (λ e. when finds N m e then none else e) es)
  round_idle es i =
      let h = written_held es m i (record { size = refl; step = λ s. same refl; still = λ s k. refl }) in
      map_all Idle (λ e. (e ≡ none → ⊥) → id_of (written N m es m) e ≡ 0) (λ e. when finds N m e then none else e) es
      (λ e k. if-ind (λ (x : ℕ). (x ≡ none → ⊥) → id_of (written N m es m) x ≡ 0) (finds N m e) (λ _ n. absurd (n refl)) (λ f n. h.still e f ∙ k n)) i

module _ (N : Net) (first next : ℕ) where
  rounds_grow : (k : ℕ) (p : Spread) → All (Idle N p.marks) p.stack → Grow N first next p.marks.ids → Grow N first next (rounds N k p).marks.ids
  unfolding rounds round
  rounds_grow zero p i g = g
  rounds_grow (suc k) p i g =
      if-ind (λ (x : Spread). Grow N first next x.marks.ids) _
      (λ _. rounds_grow k (round N p) (round_idle N p.marks p.stack i) (round_grow N p.marks first next p.stack i g))
      (λ _. g)

  pub expand_grow : (level : ℕ) (m : Marks) (es : List ℕ) → Grow N first next m.ids → Grow N first next (expand N level m es).marks.ids
  unfolding expand
  expand_grow level m es g =
      rounds_grow _ _ (idle es) g
    where
      idle : (es : List ℕ) → All (Idle N m) (map (λ e. when eqb (id_of m e) 0 then e else none) es)
      idle [] = tt
      idle (e ∷ es) = (if-ind (Idle N m) (eqb (id_of m e) 0) (λ k _. eqb-true _ _ k) (λ _ n. absurd (n refl)), idle es)

-- entries of a stack that are used up or are walkable spans
abbrev pub Good : Net → ℕ → Type 0
Good N e = (e ≡ none → ⊥) → (e < spans N) × (area_of N e ≡ 0 → ⊥)

pub rounds-good : (N : Net) (k : ℕ) (p : Spread) → All (Good N) p.stack → All (Good N) (rounds N k p).stack
unfolding rounds round
rounds-good N zero p h = h
rounds-good N (suc k) p h =
    if-ind (λ (x : Spread). All (Good N) x.stack) _
    (λ _. rounds-good N k (round N p) (map_all (Good N) (Good N) _ p.stack (λ x i. if-ind (Good N) _ (λ _ n. absurd (n refl)) (λ _. i)) h))
    (λ _. h)

pub expand-good : (N : Net) (level : ℕ) (m : Marks) (es : List ℕ) → All (Good N) es → All (Good N) (expand N level m es).stack
unfolding expand
expand-good N level m es h = rounds-good N _ _ (map_all (Good N) (Good N) _ es (λ x i. if-ind (Good N) _ (λ _. i) (λ _ n. absurd (n refl))) h)
