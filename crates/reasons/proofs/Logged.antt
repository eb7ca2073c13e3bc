-- The log of growth is what happened, and the story of a span is what the log has of it. One invariant for both, kept by every round and every visit:
-- the log so far leads from the painted marks to the marks of now; the story's source is that of the latest round at which the span took an id, and its flood and
-- objecting span are those of the latest visit that gave it back.
use Prim.Native.Nat.{ℕ, zero, suc, ◌+◌, ◌*◌, ◌-◌, ◌/◌, ◌%◌, ◌≤◌, ◌<◌}
use native.Mathlib.Omega.{arith}
use native.Mathlib.Decide.{ℕ_discrete}
use mathlib.Core.Path.{◌≡◌, refl, sym, ap, ◌∙◌, subst}
use mathlib.Core.Bool.{Bool, true, false, not, true≢false}
use mathlib.Core.Logic.{◌⊎◌, inl, inr}
use mathlib.Core.List.{List, [], ◌∷◌}
use lib.ListN.{length, get_or, set, length-set}
use lib.Seq.{get_or-set_same, get_or-set_other}
use lib.Dec.{eqb}
use borrow.Author.Tests.{eqb-true, eqb-false, eq-eqb, ne_eqb, lt-leb, not-true}
use Rattle.rules.specs.Base.{◌and◌, when◌then◌else◌, upto, any}
use Rattle.rules.specs.Field.{Field, Bytes, none}
use Rattle.rules.specs.Net.{Net, net_of, spans, near, area_of}
use Rattle.rules.specs.Growth.{Marks, id_of, put, flagged, painted, first_id, takes, finds, Spread, round, rounds, expand, Seed, Flow, other, objects, pushed, visit, flow, flood, Ids, floods, floods_run_out, Turn, loaded, turn, turn_stops, stops}
use Rattle.rules.specs.Records.{has}
use Rattle.rules.specs.Reasons.{Story, begins, took_from, gave_back, source, objecting, round_tells, rounds_tell, expand_tells, visit_tells, flow_tells, flood_tells, floods_tell, turn_tells, turns_tell, story}
use Rattle.laws.proofs.Basics.{both, neither, and_both, if-ind, upto-ind, All, get_or-set_cases}
use Rattle.laws.proofs.FloodEnds.{Same, Blank, Fine, has_area, objects-same, visit_fine, own_other, flood_ends}
use Rattle.laws.proofs.Grows.{turn_goes, turns_go, unstopped, first_few}
use Rattle.laws.proofs.Lengths.{painted-length}
use Rattle.laws.proofs.Nets.{net_bytes}
use Rattle.laws.proofs.NextId.{after_last, zeros_le}
use Rattle.rooms.specs.Rooms.{Plain}
use Rattle.rooms.proofs.Expanding.{Grow, Good, expand_grow, expand-good}
use Rattle.rooms.proofs.Flooding.{root, Side, calm, mine, Pool, visit_pool, Leaves, flood-leaves, flood_grow}
use Rattle.rooms.proofs.Growing.{Turned, painted_grow, loaded-good, turn_grow}
use Rattle.reasons.specs.Log.{Event, rounded, seeded, popped, rounds_log, expand_log, flow_log, flood_log, floods_log, turn_log, turns_log, growth_log, last_marks, Past, Never, Once, Latest, Takes, From, GivesBack, By, Counts}
use Rattle.reasons.proofs.Sources.{source-chosen, objecting-objects}
use Rattle.reasons.proofs.Written.{has_all, Waits, start_waits, finds-takes, round_size, round_took, round_out, round_still, round_keeps, round_waits}

-- three choices by one test
if_ind₃ {ℓ κ μ ν} : {A : Type ℓ} {B : Type κ} {C : Type μ} (P : A → B → C → Type ν) (b : Bool) {x y : A} {u v : B} {w z : C} → (b ≡ true → P x u w) → (b ≡ false → P y v z)
    → P (when b then x else y) (when b then u else v) (when b then w else z)
unfolding when◌then◌else◌
if_ind₃ P true p q = p refl
if_ind₃ P false p q = q refl

if_ind₄ {ℓ κ μ ν ξ} : {A : Type ℓ} {B : Type κ} {C : Type μ} {D : Type ν} (P : A → B → C → D → Type ξ) (b : Bool) {x y : A} {u v : B} {w z : C} {i j : D}
    → (b ≡ true → P x u w i) → (b ≡ false → P y v z j) → P (when b then x else y) (when b then u else v) (when b then w else z) (when b then i else j)
unfolding when◌then◌else◌
if_ind₄ P true p q = p refl
if_ind₄ P false p q = q refl

zeroed : (l : List ℕ) (c : ℕ) → get_or (set l c 0) c 0 ≡ 0
zeroed [] c = refl
zeroed (x ∷ l) zero = refl
zeroed (x ∷ l) (suc c) = zeroed l c

-- not both: one of them is not
rests {ℓ} : {P : Type ℓ} (a b : Bool) → a and b ≡ false → (a ≡ false → P) → (b ≡ false → P) → P
unfolding ◌and◌
rests true b e f g = g e
rests false b e f g = f refl

-- not of the latest event
later : (P : Event → Type 0) (e : Event) (l : List Event) → (P e → ⊥) → Once P (e ∷ l) → Once P l
later P e l x (inl h) = absurd (x h)
later P e l x (inr h) = h

-- a flood with nothing left to visit
over : (f : Flow) → f.todo ≡ [] → f ≡ record { todo = []; marks = f.marks; count = f.count }
over f e = rw (← e)

module _ (N : Net) (dist : List ℕ) (m₀ : Marks) (s : ℕ) where
  -- a, from which span s has the id r; none and 0 if it took no id
  pub data Source (l : List Event) (a r : ℕ) : Type 0 where
    still : a ≡ none → r ≡ 0 → Never (Takes N s) l → Source l a r
    took : a < spans N → Plain r → Latest (Takes N s) (From N s a r) l → Source l a r

  -- the flood g that gave span s back, and the span o that objected; 0 and 0 if none did
  pub data Returned (l : List Event) (g o : ℕ) : Type 0 where
    never : g ≡ 0 → o ≡ 0 → Never (GivesBack N s) l → Returned l g o
    gave : 0 < g → Latest (GivesBack N s) (By N g o) l → Returned l g o

  pub record Heard (l : List Event) (y : Story) (r : ℕ) : Type 0 where
    pub span : y.span ≡ s
    pub from : Source l y.from r
    pub back : Returned l y.gave y.objecting

  -- between floods
  pub record Known (l : List Event) (m : Marks) (y : Story) : Type 0 where
    pub past : (q : Seed) × (n : ℕ) × Past N dist m₀ l q (record { todo = []; marks = m; count = n })
    pub got : ℕ
    pub heard : Heard l y got
    pub same : Plain got → (id_of m s ≡ got) × (id_of m y.from ≡ got)
    pub room : Plain (id_of m s) → y.from ≡ none → Once (Counts N dist s (id_of m s)) l
    pub counted : (k : ℕ) → Once (Counts N dist s k) l → (0 < k) × (id_of m s ≡ k)
    pub alone : Plain got → (k : ℕ) → Once (Counts N dist s k) l → ⊥
    pub flag : (r : ℕ) → 0x8000 ≤ r → id_of m s ≡ r → id_of m₀ s ≡ r

  source_in : (l : List Event) (a r : ℕ) → Source l a r → Plain r → a < spans N
  source_in l a r (still e z n) p = absurd (omega arith)
  source_in l a r (took i p t) _ = i

  -- events that are no rounds, and events that are no visits
  source_more : (e : Event) (l : List Event) (a r : ℕ) → (Takes N s e → ⊥) → Source l a r → Source (e ∷ l) a r
  source_more e l a r x (still i z n) = still i z (x, n)
  source_more e l a r x (took i p t) = took i p (inr (x, t))

  returned_more : (e : Event) (l : List Event) (g o : ℕ) → (GivesBack N s e → ⊥) → Returned l g o → Returned (e ∷ l) g o
  returned_more e l g o x (never i z n) = never i z (x, n)
  returned_more e l g o x (gave p t) = gave p (inr (x, t))

  module _ (inside : s < spans N) (few : spans N ≤ 65535) (bytes : (t : ℕ) → t < spans N → area_of N t < 256) where
    some_span : s ≡ none → ⊥
    some_span e = omega arith

    -- ---------------------------------------------------------------- rounds

    module _ (p : Spread) (l : List Event) (y : Story) (w : All (Waits p.marks) p.stack) (size : length p.marks.ids ≡ spans N) (h : Known l p.marks y) where
      -- the span takes an id
      round-takes : has p.stack s and finds N p.marks s ≡ true → Known (rounded p ∷ l) (round N p).marks (took_from (source N p.marks s) y)
      unfolding took_from
      round-takes e =
          let b = both _ _ e in
          let a = source N p.marks s in
          let r = (takes N p.marks s).id in
          let z : r ≡ 0 → ⊥ = finds-takes N p.marks s b.1 in
          let c = source-chosen N p.marks s z in
          let good : Plain r = rw (← c.1) c.0.room in
          let free : id_of p.marks s ≡ 0 = has_all (Waits p.marks) p.stack s w b.0 some_span in
          let now : id_of (round N p).marks s ≡ r = round_took N p s b.0 b.1 (rw size inside) in
          let there : a < spans N = has_area N a (area_of N s) (λ q. omega (arith, bytes s inside)) c.0.area in
          let uncounted : (k : ℕ) → Once (Counts N dist s k) (rounded p ∷ l) → ⊥ = λ k q. let x = h.counted k (later (Counts N dist s k) (rounded p) l (λ y. y) q) in omega arith in
          let kept : id_of (round N p).marks a ≡ r = round_keeps N p w a (λ q. omega arith) (λ q. z (sym c.1 ∙ q)) ∙ c.1 in
          record {
            past = (h.past.0, 0, (refl, refl, h.past));
            got = r;
            heard = record {
              span = h.heard.span;
              from = took there good (inl ((free, λ q. z (sym now ∙ q)), (c.0, c.1, now)));
              back = returned_more (rounded p) l _ _ (λ x. x) h.heard.back;
            };
            same = λ _. (now, kept);
            room = λ _ q. absurd (omega arith);
            counted = λ k q. absurd (uncounted k q);
            alone = λ _ k q. uncounted k q;
            flag = λ k f q. absurd (omega (arith, now));
          }

      -- it does not
      round_rests : has p.stack s and finds N p.marks s ≡ false → Known (rounded p ∷ l) (round N p).marks y
      round_rests e =
          let stays : id_of (round N p).marks s ≡ id_of p.marks s = rests (has p.stack s) (finds N p.marks s) e (round_out N p s) (round_still N p s) in
          record {
            past = (h.past.0, 0, (refl, refl, h.past));
            got = h.got;
            heard = record {
              span = h.heard.span;
              from = source_more (rounded p) l _ _ (λ x. x.1 (stays ∙ x.0)) h.heard.from;
              back = returned_more (rounded p) l _ _ (λ x. x) h.heard.back;
            };
            same = λ g.
                let q = h.same g in
                let i = source_in l _ _ h.heard.from g in
                (stays ∙ q.0, round_keeps N p w y.from (λ x. omega arith) (λ x. omega (arith, q.1)) ∙ q.1);
            room = λ g q. subst (λ k. Once (Counts N dist s k) (rounded p ∷ l)) (sym stays) (inr (h.room (rw stays at g) q));
            counted = λ k q. let x = h.counted k (later (Counts N dist s k) (rounded p) l (λ y. y) q) in (x.0, stays ∙ x.1);
            alone = λ g k q. h.alone g k (later (Counts N dist s k) (rounded p) l (λ y. y) q);
            flag = λ k f q. h.flag k f (sym stays ∙ q);
          }

      round_asks : (x : ℕ) → x ≡ s → Known (rounded p ∷ l) (round N p).marks (when has p.stack x and finds N p.marks x then took_from (source N p.marks x) y else y)
      round_asks x e = rw e (if-ind (λ (v : Story). Known (rounded p ∷ l) (round N p).marks v) _ round-takes round_rests)

      round_known : Known (rounded p ∷ l) (round N p).marks (round_tells N p y)
      unfolding round_tells
      round_known = round_asks y.span h.heard.span

    rounds_known : (k : ℕ) (p : Spread) (l : List Event) (y : Story) → All (Waits p.marks) p.stack → length p.marks.ids ≡ spans N → Known l p.marks y
        → Known (rounds_log N k p l) (rounds N k p).marks (rounds_tell N k p y)
    unfolding rounds_log rounds rounds_tell
    rounds_known zero p l y w size h = h
    rounds_known (suc k) p l y w size h =
        if_ind₃ (λ (l' : List Event) (p' : Spread) (y' : Story). Known l' p'.marks y') (any (finds N p.marks) p.stack)
        (λ _. rounds_known k (round N p) (rounded p ∷ l) (round_tells N p y) (round_waits N p w) (round_size N p ∙ size) (round_known p l y w size h))
        (λ _. h)

    expand_known : (level : ℕ) (m : Marks) (es : List ℕ) (l : List Event) (y : Story) → length m.ids ≡ spans N → Known l m y
        → Known (expand_log N level m es l) (expand N level m es).marks (expand_tells N level m es y)
    unfolding expand_log expand expand_tells
    expand_known level m es l y size h = rounds_known _ _ l y (start_waits m es) size h

    -- ---------------------------------------------------------------- a flood under way

    module _ (q : Seed) (some : 0 < q.id) (small : q.id < 0x8000) (fit : q.area ≡ 256 → ⊥) (base m₁ : Marks) (seed : ℕ) (l₀ : List Event) (y₀ : Story) (r : ℕ) where
      -- who objects, which does not change during a flood
      abbrev obj : ℕ → Bool
      obj = objects N m₁ q

      nonzero : eqb q.id 0 ≡ false
      nonzero = ne_eqb q.id 0 (λ e. omega arith)

      unflagged : flagged q.id ≡ false
      unflagged = lt-leb 0x8000 q.id small

      -- span s is counted by this flood
      record Mine (k : ℕ) (f : Flow) : Type 0 where
        is : k ≡ q.id
        id : id_of f.marks s ≡ q.id
        quiet : obj s ≡ false
        free : id_of base s ≡ 0

      record Flowing (l : List Event) (f : Flow) (y : Story) : Type 0 where
        past : Past N dist m₀ l q f
        heard : Heard l y r
        kept : y.from ≡ y₀.from
        more : (k : ℕ) → Once (Counts N dist s k) l₀ → Once (Counts N dist s k) l
        area : All (λ c. area_of N c ≡ q.area) f.todo
        done : All (λ c. c ≡ s → ⊥) f.todo → id_of f.marks s ≡ q.id → Once (Counts N dist s q.id) l
        fine : Fine N q m₁ f
        pool : Pool N q obj base seed f
        held : (k : ℕ) → Once (Counts N dist s k) l → Once (Counts N dist s k) l₀ ⊎ Mine k f

      -- what the visit of a span that does not object does, as far as span s goes
      record Pushes (g x : Flow) : Type 0 where
        count : x.count ≡ suc g.count
        area : All (λ c. area_of N c ≡ q.area) x.todo
        same : All (λ c. c ≡ s → ⊥) x.todo → id_of x.marks s ≡ q.id → All (λ c. c ≡ s → ⊥) g.todo × (id_of g.marks s ≡ q.id)
        keeps : id_of g.marks s ≡ q.id → id_of x.marks s ≡ q.id

      pushed_pushes : (c d : ℕ) (g x : Flow) → Pushes g x → Pushes g (pushed N dist q c d x)
      unfolding pushed put
      pushed_pushes c d g x h =
          if-ind (λ (v : Flow). Pushes g v) _
          (λ e. record {
            count = h.count;
            area = (eqb-true _ _ (both _ _ (both _ _ e).0).0, h.area);
            same = λ a i. h.same a.1 (sym (get_or-set_other x.marks.ids (near N c d) s q.id 0 (λ z. a.0 (sym z))) ∙ i);
            keeps = λ i. get_or-set_cases x.marks.ids (near N c d) q.id s (λ v. v ≡ q.id) (λ _. refl) (h.keeps i);
          })
          (λ _. h)

      visit_pushes : (c : ℕ) (g : Flow) → All (λ c. area_of N c ≡ q.area) g.todo → objects N g.marks q c ≡ false → Pushes g (visit N dist q c g)
      unfolding visit
      visit_pushes c g a e =
          if-ind (λ (v : Flow). Pushes g v) (objects N g.marks q c) (λ t. absurd (true≢false (sym t ∙ e)))
          (λ _. upto-ind (λ _ (x : Flow). Pushes g x) (pushed N dist q c) _ 4 (record { count = refl; area = a; same = λ b i. (b, i); keeps = λ i. i }) (λ d x _ p. pushed_pushes c d g x p))

      -- the visit of one that does
      visit_clears : (c : ℕ) (g : Flow) → objects N g.marks q c ≡ true
          → ((visit N dist q c g).todo ≡ g.todo) × ((visit N dist q c g).marks.ids ≡ set g.marks.ids c 0)
      unfolding visit
      visit_clears c g e =
          if-ind (λ (v : Flow). (v.todo ≡ g.todo) × (v.marks.ids ≡ set g.marks.ids c 0)) (objects N g.marks q c) (λ _. (refl, refl))
          (λ t. absurd (true≢false (sym e ∙ t)))

      module _ (c : ℕ) (g : Flow) (l : List Event) (y : Story) (h : Flowing l (record { todo = c ∷ g.todo; marks = g.marks; count = g.count }) y) where
        abbrev event : Event
        event = popped q c g

        visit_heard : (x : ℕ) → x ≡ s → (v : Story) → v ≡ (when eqb c x and objects N g.marks q c then gave_back q.id (objecting N g.marks q c) y else y)
            → Heard (event ∷ l) v r × (v.from ≡ y.from)
        unfolding gave_back
        visit_heard x e v i =
            rw (i, e) (if-ind (λ (v : Story). Heard (event ∷ l) v r × (v.from ≡ y.from)) (eqb c s and objects N g.marks q c)
            (λ t.
            let w = both _ _ t in
            let cs : c ≡ s = eqb-true _ _ w.0 in (
              record {
                span = h.heard.span;
                from = source_more event l _ _ (λ z. z) h.heard.from;
                back = gave some (inl ((cs, rw (← cs) w.1), (refl, h.area.0, objecting-objects N g.marks q c w.1)));
              },
              refl,
            ))
            (λ t. (
              record {
                span = h.heard.span;
                from = source_more event l _ _ (λ z. z) h.heard.from;
                back = returned_more event l _ _
                    (λ z. let o : objects N g.marks q c ≡ true = rw z.0 z.1 in true≢false (sym (and_both _ _ (eq-eqb c s z.0) o) ∙ t))
                    h.heard.back;
              },
              refl,
            )))

        visit_done : All (λ c. c ≡ s → ⊥) (visit N dist q c g).todo → id_of (visit N dist q c g).marks s ≡ q.id → Once (Counts N dist s q.id) (event ∷ l)
        visit_done a i = go (objects N g.marks q c) refl
          where
            go : (b : Bool) → objects N g.marks q c ≡ b → Once (Counts N dist s q.id) (event ∷ l)
            go true e =
                let w = visit_clears c g e in
                let a' : All (λ c. c ≡ s → ⊥) g.todo = subst (All (λ c. c ≡ s → ⊥)) w.0 a in
                let i' : get_or (set g.marks.ids c 0) s 0 ≡ q.id = ap (λ (k : List ℕ). get_or k s 0) (sym w.1) ∙ i in
                elim (ℕ_discrete c s) [
                  | yes x ↦ absurd (let z : get_or (set g.marks.ids c 0) s 0 ≡ 0 = rw (← x) (zeroed g.marks.ids c) in omega arith)
                  | no x ↦ inr (h.done (x, a') (sym (get_or-set_other g.marks.ids c s 0 0 (λ z. x (sym z))) ∙ i'))
                ]
            go false e =
                let w = visit_pushes c g h.area.1 e in
                elim (ℕ_discrete c s) [
                  | yes x ↦ inl (x, refl, rw (← x) e, rw (← x) w.count)
                  | no x ↦ let v = w.same a i in inr (h.done (x, v.0) v.1)
                ]

        visit_area : All (λ c. area_of N c ≡ q.area) (visit N dist q c g).todo
        visit_area = go (objects N g.marks q c) refl
          where
            go : (b : Bool) → objects N g.marks q c ≡ b → All (λ c. area_of N c ≡ q.area) (visit N dist q c g).todo
            go true e = rw (visit_clears c g e).0 h.area.1
            go false e = (visit_pushes c g h.area.1 e).area

        same_obj : objects N g.marks q c ≡ obj c
        same_obj = objects-same N q m₁ g.marks h.fine.same c

        -- what this flood has counted keeps the id
        visit_keeps : id_of g.marks s ≡ q.id → obj s ≡ false → id_of (visit N dist q c g).marks s ≡ q.id
        visit_keeps i quiet = go (objects N g.marks q c) refl
          where
            go : (b : Bool) → objects N g.marks q c ≡ b → id_of (visit N dist q c g).marks s ≡ q.id
            go true e =
                ap (λ (k : List ℕ). get_or k s 0) (visit_clears c g e).1
                ∙ get_or-set_other g.marks.ids c s 0 0 (λ x. true≢false (sym e ∙ same_obj ∙ ap obj (sym x) ∙ quiet)) ∙ i
            go false e = (visit_pushes c g h.area.1 e).keeps i

        visit-held : (k : ℕ) → Once (Counts N dist s k) (event ∷ l) → Once (Counts N dist s k) l₀ ⊎ Mine k (visit N dist q c g)
        visit-held k (inl w) =
            let cs : c ≡ s = w.0 in
            let quiet : obj s ≡ false = ap obj (sym cs) ∙ sym same_obj ∙ rw cs w.2 in
            let i : id_of g.marks s ≡ q.id = rw (← cs) (h.pool.hold.0 (ap obj cs ∙ quiet)) in
            inr (record { is = sym w.1; id = visit_keeps i quiet; quiet = quiet; free = rw (← cs) h.pool.rest.0 })
        visit-held k (inr w) = old (h.held k w)
          where
            old : Once (Counts N dist s k) l₀ ⊎ Mine k (record { todo = c ∷ g.todo; marks = g.marks; count = g.count })
                → Once (Counts N dist s k) l₀ ⊎ Mine k (visit N dist q c g)
            old (inl x) = inl x
            old (inr x) = inr (record { is = x.is; id = visit_keeps x.id x.quiet; quiet = x.quiet; free = x.free })

        visit_flowing : Flowing (event ∷ l) (visit N dist q c g) (visit_tells N g.marks q c y)
        unfolding visit_tells
        visit_flowing =
            let w = visit_heard y.span h.heard.span _ refl in
            let fine : Fine N q m₁ g = record { same = h.fine.same; size = h.fine.size; blank = h.fine.blank.1 } in
            record {
              past = (refl, refl, h.past);
              heard = w.0;
              kept = w.1 ∙ h.kept;
              more = λ k o. inr (h.more k o);
              area = visit_area;
              done = visit_done;
              fine = (visit_fine N dist q m₁ nonzero unflagged fit c g h.fine.blank.0 fine).0;
              pool = visit_pool N dist q base m₁ seed nonzero unflagged fit c g fine h.pool;
              held = visit-held;
            }

      flow_flowing : (k : ℕ) (todo : List ℕ) (m : Marks) (n : ℕ) (l : List Event) (y : Story) → Flowing l (record { todo = todo; marks = m; count = n }) y
          → Flowing (flow_log N dist q k todo m n l) (flow N dist q k todo m n) (flow_tells N dist q k todo m n y)
      unfolding flow_log flow flow_tells
      flow_flowing zero todo m n l y h = h
      flow_flowing (suc k) [] m n l y h = h
      flow_flowing (suc k) (c ∷ cs) m n l y h = flow_flowing k _ _ _ _ _ (visit_flowing c (record { todo = cs; marks = m; count = n }) l y h)

    -- ---------------------------------------------------------------- whole floods

    module _ (first level id : ℕ) (m : Marks) (e : ℕ) (b : id < 0x8000) (in_e : e < spans N) (free : id_of m e ≡ 0) (g : Grow N first id m.ids)
        (l : List Event) (y : Story) (h : Known l m y) where
      abbrev seed : Seed
      seed = record { area = area_of N e; id = id; limit = level - 2 }

      positive : 0 < id
      positive = omega (arith, g.some, g.ahead)

      unborne : (t : ℕ) → id_of m t ≡ id → ⊥
      unborne t k = let x = g.range id t (positive, b) k in omega arith

      area_is : area_of N e ≡ 256 → ⊥
      area_is k = omega (arith, bytes e in_e)

      abbrev m₁ : Marks
      m₁ = put m e id 0

      at_seed : id_of m₁ e ≡ id
      unfolding put
      at_seed = get_or-set_same m.ids e id 0 (rw g.size in_e)

      begun : Flowing seed positive b area_is m m₁ e l y h.got (seeded seed e m ∷ l) (record { todo = e ∷ []; marks = m₁; count = 0 }) y
      unfolding put Same Blank
      begun = record {
        past = (refl, refl, free, refl, h.past);
        heard = record {
          span = h.heard.span;
          from = source_more (seeded seed e m) l _ _ (λ x. x) h.heard.from;
          back = returned_more (seeded seed e m) l _ _ (λ x. x) h.heard.back;
        };
        kept = refl;
        more = λ k o. inr o;
        area = (refl, tt);
        done = λ a i. absurd (unborne s (sym (get_or-set_other m.ids e s id 0 (λ x. a.0 (sym x))) ∙ i));
        fine = record {
          same = λ t. (refl, refl);
          size = length-set m.ids e id ∙ g.size;
          blank = (
            (
              ap flagged at_seed ∙ lt-leb 0x8000 id b,
              ap (other id) at_seed ∙ own_other N dist seed m₁ (ne_eqb id 0 (λ x. omega (arith, positive))) (lt-leb 0x8000 id b) area_is,
            ),
            tt,
          );
        };
        pool = record {
          side = λ t. get_or-set_cases m.ids e id t (Side N seed (objects N m₁ seed) m e m₁.ids t) (λ x. mine (ap (id_of m) x ∙ free) refl (ap (area_of N) x) (root x)) (calm refl);
          rest = (free, tt);
          hold = ((λ _. at_seed), tt);
          done = λ t al. get_or-set_cases m.ids e id t (λ v. v ≡ id → (objects N m₁ seed t ≡ false) × (◌<◌ 0 0)) (λ x _. absurd (al.0 (sym x))) (λ k. absurd (unborne t k));
          won = λ k. absurd (omega arith);
        };
        held = λ k w. inl (later (Counts N dist s k) (seeded seed e m) l (λ x. x) w);
      }

      flowing : Flowing seed positive b area_is m m₁ e l y h.got (flood_log N dist level id m e l) (flood N dist level id m e) (flood_tells N dist level id m e y)
      unfolding flood_log flood flood_tells
      flowing = flow_flowing seed positive b area_is m m₁ e l y h.got _ _ _ _ _ _ begun

      leaves : Leaves N m.ids id e (flood N dist level id m e)
      leaves = flood-leaves N dist level id m e positive b in_e area_is g.size free unborne

      empty : (flood N dist level id m e).todo ≡ []
      empty = flood_ends N dist level id m e (ne_eqb id 0 (λ z. omega (arith, positive))) (lt-leb 0x8000 id b) in_e area_is g.size

      flood_known : Known (flood_log N dist level id m e l) (flood N dist level id m e).marks (flood_tells N dist level id m e y)
      flood_known =
          let f = flood N dist level id m e in
          let w = flowing in
          let v = leaves in
          record {
            past = (seed, f.count, subst (Past N dist m₀ (flood_log N dist level id m e l) seed) (over f empty) w.past);
            got = h.got;
            heard = w.heard;
            same = λ p.
                let k = h.same p in
                let z : h.got ≡ 0 → ⊥ = λ x. omega arith in
                (v.new h.got s z k.0, ap (id_of f.marks) w.kept ∙ v.new h.got y.from z k.1);
            room = λ p n. elim (ℕ_discrete (id_of f.marks s) id) [
              | yes x ↦ rw x (w.done (rw empty tt) x)
              | no x ↦
                  let old : id_of m s ≡ id_of f.marks s = v.old (id_of f.marks s) s x refl in
                  w.more (id_of f.marks s) (rw old at (h.room (rw old p) (sym w.kept ∙ n)))
            ];
            counted = λ k q. counted_now k (w.held k q);
            alone = λ p k q. alone_now p k (w.held k q);
            flag = λ r k i. h.flag r k (v.old r s (λ x. omega arith) i);
          }
        where
          counted_now : (k : ℕ) → Once (Counts N dist s k) l ⊎ Mine seed positive b area_is m m₁ e l y h.got k (flood N dist level id m e)
              → (0 < k) × (id_of (flood N dist level id m e).marks s ≡ k)
          counted_now k (inl x) = let i = h.counted k x in (i.0, leaves.new k s (λ z. omega arith) i.1)
          counted_now k (inr x) = (omega (arith, positive, x.is), x.id ∙ sym x.is)

          alone_now : Plain h.got → (k : ℕ) → Once (Counts N dist s k) l ⊎ Mine seed positive b area_is m m₁ e l y h.got k (flood N dist level id m e) → ⊥
          alone_now p k (inl x) = h.alone p k x
          alone_now p k (inr x) = omega (arith, x.free, (h.same p).0)

    floods_known : (first level : ℕ) (es : List ℕ) → All (Good N) es → (m : Marks) (id : ℕ) → id < 0x8000 → Grow N first id m.ids → floods_run_out N dist level es m id ≡ false
        → (l : List Event) (y : Story) → Known l m y → Known (floods_log N dist level es m id l) (floods N dist level es m id).marks (floods_tell N dist level es m id y)
    unfolding floods_run_out floods_log floods floods_tell
    floods_known first level [] al m id b g o l y h = h
    floods_known first level (e ∷ es) al m id b g o l y h =
        if_ind₄ (λ (o : Bool) (l : List Event) (i : Ids) (y : Story). o ≡ false → Known l i.marks y) (not (eqb e none) and eqb (id_of m e) 0)
        (λ t u.
        let t2 = both _ _ t in
        let o2 = neither _ _ u in
        let in_e = al.0 (eqb-false _ _ (not-true _ t2.0)) in
        let free : id_of m e ≡ 0 = eqb-true _ _ t2.1 in
        let f = flood N dist level id m e in
        floods_known first level es al.1 f.marks (when eqb f.count 0 then id else suc id) (after_last _ id b o2.0)
        (flood_grow N first dist level id m e b in_e.0 in_e.1 (bytes e in_e.0) free g) o2.1 _ _ (flood_known first level id m e b in_e.0 free g l y h))
        (λ _ u. floods_known first level es al.1 m id b g u l y h) o

    -- ---------------------------------------------------------------- turns

    turn_known : (first top k : ℕ) (t : Turn) → turn_stops N dist top k t ≡ 0 → Turned N first t → (l : List Event) (y : Story) → Known l t.marks y
        → Known (turn_log N dist top k t l) (turn N dist top k t).marks (turn_tells N dist top k t y)
    unfolding turn_log turn turn_tells
    turn_known first top k t o h l y w =
        let level = top - 2 * (k + 1) in
        let j = k % 8 in
        let entries = get_or (loaded N dist level j t) j [] in
        let e = expand N level t.marks entries in
        floods_known first level e.stack (expand-good N level t.marks entries (loaded-good N dist level j t h.good j)) e.marks t.next h.room.plain
        (expand_grow N first t.next level t.marks entries h.grow) (turn_goes N dist top k t o).1 _ _
        (expand_known level t.marks entries l y h.room.size w)

    turns_known : (first top : ℕ) (start : Turn) → Turned N first start → (l : List Event) (y : Story) → Known l start.marks y
        → (n : ℕ) → ((k : ℕ) → k < n → turn_stops N dist top k (upto k (turn N dist top) start) ≡ 0)
        → Turned N first (upto n (turn N dist top) start) × Known (turns_log N dist top n start l) (upto n (turn N dist top) start).marks (turns_tell N dist top n start y)
    unfolding turns_log upto turns_tell
    turns_known first top start c l y h zero go = (c, h)
    turns_known first top start c l y h (suc n) go =
        let w = turns_known first top start c l y h n (λ k x. go k (omega arith)) in
        (turn_grow N dist bytes first top n _ (go n (omega arith)) w.0, turn_known first top n _ (go n (omega arith)) w.0 _ _ w.1)

-- ---------------------------------------------------------------- all of growth

module _ (F : Field) (dist : List ℕ) (most b : ℕ) (bytes : Bytes F) (o : stops F dist most b ≡ 0) (s : ℕ) (inside : s < spans (net_of F)) (few : spans (net_of F) ≤ 65535) where
  abbrev top : ℕ
  top = 2 * ((most + 1) / 2)

  abbrev start : Turn
  start = record { marks = painted F b; stacks = []; next = first_id b }

  abbrev turned : Turn
  turned = upto (top / 2) (turn (net_of F) dist top) start

  start_known : Known (net_of F) dist (painted F b) s [] (painted F b) (begins s)
  unfolding begins
  start_known = record {
    past = (record { area = 0; id = 0; limit = 0 }, 0, (refl, refl));
    got = 0;
    heard = record { span = refl; from = still refl refl tt; back = never refl refl tt };
    same = λ p. absurd (omega arith);
    room = λ p _. absurd (let w = (painted_grow F b).range _ s p refl in omega arith);
    counted = λ k q. absurd q;
    alone = λ p k q. q;
    flag = λ r f e. e;
  }

  start-turned : Turned (net_of F) (first_id b) start
  start-turned =
      let size : length (painted F b).ids ≡ spans (net_of F) = painted-length F b in
      let first : (0 < first_id b) × (first_id b ≤ 5) = first_few b in
      record {
        grow = painted_grow F b;
        room = record { size = size; some = first.0; plain = omega arith; room = omega (arith, zeros_le (painted F b).ids); inside = λ j. tt };
        good = λ j. tt;
      }

  pub growth_known : Known (net_of F) dist (painted F b) s (growth_log F dist most b) (last_marks F dist most b) (story F dist most b s)
  unfolding growth_log last_marks story
  growth_known =
      let go = turns_go (net_of F) dist top start (top / 2) (unstopped F dist most b o).turns in
      let w = turns_known (net_of F) dist (painted F b) s inside few (net_bytes F bytes) (first_id b) top start start-turned [] (begins s) start_known (top / 2) go in
      expand_known (net_of F) dist (painted F b) s inside few (net_bytes F bytes) 0 turned.marks _ _ _ w.0.room.size w.1
