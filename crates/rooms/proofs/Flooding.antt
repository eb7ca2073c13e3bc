-- A flood leaves one joined set of spans of its id, or nothing. Assumes nothing.
use Prim.Native.Nat.{ℕ, zero, suc, ◌+◌, ◌*◌, ◌-◌, ◌<◌}
use native.Mathlib.Omega.{arith}
use native.Mathlib.Decide.{ℕ_discrete}
use mathlib.Core.Path.{◌≡◌, refl, sym, ap, ◌∙◌, subst}
use mathlib.Core.Bool.{Bool, true, false, true≢false}
use mathlib.Core.List.{List, [], ◌∷◌}
use lib.ListN.{length, get_or, set, length-set}
use lib.Seq.{get_or-set_same, get_or-set_other}
use lib.Dec.{eqb}
use borrow.Author.Tests.{eqb-true, eqb-false, ne_eqb, lt-leb, not-true}
use Rattle.rules.specs.Base.{when◌then◌else◌}
use Rattle.rules.specs.Net.{Net, spans, near, area_of}
use Rattle.rules.specs.Growth.{Marks, id_of, put, flagged, Seed, Flow, other, objects, pushed, visit, flow, flood, floods, floods_run_out, Ids}
use Rattle.laws.proofs.Basics.{both, neither, if-ind, if_ind₂, upto-ind, All, All_map, get_or-set_cases}
use Rattle.laws.proofs.FloodEnds.{Same, Blank, Fine, has_area, objects-same, pushed_fine, visit_fine, own_other, flood_ends}
use Rattle.laws.proofs.NextId.{after_last}
use Rattle.rooms.specs.Rooms.{Bears}
use Rattle.rooms.specs.Linked.{Linked, stay, comes}
use Rattle.rooms.proofs.Joins.{joined_trans, joined_sym, joined-map}
use Rattle.rooms.proofs.Expanding.{Grow, same, step_grow, Good}

set_zero : (l : List ℕ) (c : ℕ) → get_or (set l c 0) c 0 ≡ 0
set_zero [] c = refl
set_zero (x ∷ l) zero = refl
set_zero (x ∷ l) (suc c) = set_zero l c

-- spans of the id that do not object: they keep it
abbrev pub Kin : Seed → (ℕ → Bool) → List ℕ → ℕ → Type 0
Kin q o ids u = (get_or ids u 0 ≡ q.id) × (o u ≡ false)

-- t is the seed, or a neighbour of what is joined to it
pub data Hung (N : Net) (C : ℕ → Type 0) (seed t : ℕ) : Type 0 where
  root : t ≡ seed → Hung N C seed t
  hung : (u d : ℕ) → d < 4 → near N u d ≡ t → Linked N C u seed → Hung N C seed t

hung_map : (N : Net) {C D : ℕ → Type 0} (seed t : ℕ) → ((u : ℕ) → C u → D u) → Hung N C seed t → Hung N D seed t
hung_map N seed t f (root e) = root e
hung_map N seed t f (hung u d l n j) = hung u d l n (joined-map N f j)

-- v, the id of span t in a flood
pub data Side (N : Net) (q : Seed) (o : ℕ → Bool) (base : Marks) (seed : ℕ) (ids : List ℕ) (t v : ℕ) : Type 0 where
  calm : v ≡ id_of base t → Side N q o base seed ids t v
  mine : id_of base t ≡ 0 → v ≡ q.id → area_of N t ≡ q.area → Hung N (Kin q o ids) seed t → Side N q o base seed ids t v

pub record Pool (N : Net) (q : Seed) (o : ℕ → Bool) (base : Marks) (seed : ℕ) (f : Flow) : Type 0 where
  pub side : (t : ℕ) → Side N q o base seed f.marks.ids t (id_of f.marks t)
  pub rest : All (λ c. id_of base c ≡ 0) f.todo
  pub hold : All (λ c. o c ≡ false → id_of f.marks c ≡ q.id) f.todo
  pub done : (t : ℕ) → All (λ c. c ≡ t → ⊥) f.todo → id_of f.marks t ≡ q.id → (o t ≡ false) × (0 < f.count)
  pub won : 0 < f.count → (w : ℕ) × (id_of f.marks w ≡ q.id) × (o w ≡ false)

module _ (N : Net) (dist : List ℕ) (q : Seed) (base m₀ : Marks) (seed : ℕ) (z : eqb q.id 0 ≡ false) (u : flagged q.id ≡ false) (a : q.area ≡ 256 → ⊥) where
  side-map : (ids ids' : List ℕ) (t v : ℕ) → ((u : ℕ) → Kin q (objects N m₀ q) ids u → Kin q (objects N m₀ q) ids' u)
      → Side N q (objects N m₀ q) base seed ids t v → Side N q (objects N m₀ q) base seed ids' t v
  side-map ids ids' t v f (calm e) = calm e
  side-map ids ids' t v f (mine b e r h) = mine b e r (hung_map N seed t f h)

  side_zero : (ids : List ℕ) (t v : ℕ) → Side N q (objects N m₀ q) base seed ids t v → v ≡ 0 → id_of base t ≡ 0
  side_zero ids t v (calm e) k = sym e ∙ k
  side_zero ids t v (mine b e r h) k = b

  -- a span on the stack that does not object
  side-joined : (ids : List ℕ) (t v : ℕ) → Side N q (objects N m₀ q) base seed ids t v → id_of base t ≡ 0 → v ≡ q.id → Kin q (objects N m₀ q) ids t
      → Linked N (Kin q (objects N m₀ q) ids) t seed
  side-joined ids t v (calm e) b k n = absurd (eqb-false _ _ z (sym k ∙ e ∙ b))
  side-joined ids t v (mine b e r (root x)) _ k n = subst (λ (y : ℕ). Linked N (Kin q (objects N m₀ q) ids) t y) x (stay n)
  side-joined ids t v (mine b e r (hung w d l x j)) _ k n = comes w d l x n j

  pushed_pool : (c d : ℕ) (f : Flow) → d < 4 → Fine N q m₀ f → Pool N q (objects N m₀ q) base seed f → Linked N (Kin q (objects N m₀ q) f.marks.ids) c seed
      → Pool N q (objects N m₀ q) base seed (pushed N dist q c d f) × Linked N (Kin q (objects N m₀ q) (pushed N dist q c d f).marks.ids) c seed
  unfolding pushed put
  pushed_pool c d f four n h j =
      let o = objects N m₀ q in
      if-ind (λ (g : Flow). Pool N q o base seed g × Linked N (Kin q o g.marks.ids) c seed) _
      (λ e.
      let t = near N c d in
      let ids = f.marks.ids in
      let e1 = both _ _ (both _ _ e).0 in
      let area : area_of N t ≡ q.area = eqb-true _ _ e1.0 in
      let blank : id_of f.marks t ≡ 0 = eqb-true _ _ e1.1 in
      let inside : t < length ids = rw n.size (has_area N t q.area a area) in
      let stays : (s : ℕ) → get_or ids s 0 ≡ q.id → get_or (set ids t q.id) s 0 ≡ q.id = λ s k. get_or-set_cases ids t q.id s (λ r. r ≡ q.id) (λ _. refl) k in
      let kin : (s : ℕ) → Kin q o ids s → Kin q o (set ids t q.id) s = λ s k. (stays s k.0, k.1) in
      let b : id_of base t ≡ 0 = side_zero ids t _ (h.side t) blank in (
        record {
          side = λ s. get_or-set_cases ids t q.id s (Side N q o base seed (set ids t q.id) s)
              (λ x. mine (ap (id_of base) x ∙ b) refl (ap (area_of N) x ∙ area) (hung c d four (sym x) (joined-map N kin j)))
              (side-map ids (set ids t q.id) s _ kin (h.side s));
          rest = (b, h.rest);
          hold = ((λ _. get_or-set_same ids t q.id 0 inside), All_map f.todo (λ s k y. stays s (k y)) h.hold);
          done = λ s al. get_or-set_cases ids t q.id s (λ v. v ≡ q.id → (o s ≡ false) × (0 < f.count)) (λ x _. absurd (al.0 (sym x))) (h.done s al.1);
          won = λ k. let w = h.won k in (w.0, stays w.0 w.1, w.2);
        },
        joined-map N kin j,
      ))
      (λ _. (h, j))

  pub visit_pool : (c : ℕ) (f : Flow) → Fine N q m₀ f → Pool N q (objects N m₀ q) base seed (record { todo = c ∷ f.todo; marks = f.marks; count = f.count })
      → Pool N q (objects N m₀ q) base seed (visit N dist q c f)
  unfolding visit
  visit_pool c f n h =
      let o = objects N m₀ q in
      let ids = f.marks.ids in
      let same_o : objects N f.marks q c ≡ o c = objects-same N q m₀ f.marks n.same c in
      if-ind (λ (g : Flow). Pool N q o base seed g) _
      (λ e.
      let oc : o c ≡ true = sym same_o ∙ e in
      let kin : (s : ℕ) → Kin q o ids s → Kin q o (set ids c 0) s =
      λ s k. (get_or-set_cases ids c 0 s (λ r. r ≡ q.id) (λ x. absurd (true≢false (sym oc ∙ ap o (sym x) ∙ k.1))) k.0, k.1) in
      record {
        side = λ s. get_or-set_cases ids c 0 s (Side N q o base seed (set ids c 0) s)
            (λ x. calm (sym (ap (id_of base) x ∙ h.rest.0)))
            (side-map ids (set ids c 0) s _ kin (h.side s));
        rest = h.rest.1;
        hold = All_map f.todo (λ s k y. get_or-set_cases ids c 0 s (λ r. r ≡ q.id) (λ x. absurd (true≢false (sym oc ∙ ap o (sym x) ∙ y))) (k y)) h.hold.1;
        done = λ s al k. elim (ℕ_discrete c s) [
          | yes x ↦ absurd (eqb-false _ _ z (sym k ∙ ap (λ (y : ℕ). get_or (set ids c 0) y 0) (sym x) ∙ set_zero ids c))
          | no x ↦ h.done s (x, al) (sym (get_or-set_other ids c s 0 0 (λ y. x (sym y))) ∙ k)
        ];
        won = λ k. let w = h.won k in let y = kin w.0 (w.1, w.2) in (w.0, y.0, y.1);
      })
      (λ e.
      let oc : o c ≡ false = sym same_o ∙ e in
      let ic : get_or ids c 0 ≡ q.id = h.hold.0 oc in
      let start : Flow = record { todo = f.todo; marks = f.marks; count = suc f.count } in
      let p : Pool N q o base seed start = record {
        side = h.side;
        rest = h.rest.1;
        hold = h.hold.1;
        done = λ s al k. elim (ℕ_discrete c s) [
          | yes x ↦ (ap o (sym x) ∙ oc, omega arith)
          | no x ↦ ((h.done s (x, al) k).0, omega arith)
        ];
        won = λ k. (c, ic, oc);
      } in
      let fine : Fine N q m₀ start = record { same = n.same; size = n.size; blank = n.blank } in
      let j = side-joined ids c _ (h.side c) h.rest.0 ic (ic, oc) in
      (upto-ind (λ k (g : Flow). Fine N q m₀ g × Pool N q o base seed g × Linked N (Kin q o g.marks.ids) c seed) (pushed N dist q c) start 4
      (fine, p, j)
      (λ k g l y. let r = pushed_pool c k g l y.0 y.1 y.2 in ((pushed_fine N dist q m₀ z u a c k g y.0).0, r.0, r.1))).1)

  flow_pool : (k : ℕ) (todo : List ℕ) (m : Marks) (n : ℕ) → Fine N q m₀ (record { todo = todo; marks = m; count = n })
      → Pool N q (objects N m₀ q) base seed (record { todo = todo; marks = m; count = n })
      → Fine N q m₀ (flow N dist q k todo m n) × Pool N q (objects N m₀ q) base seed (flow N dist q k todo m n)
  unfolding flow
  flow_pool zero todo m n f h = (f, h)
  flow_pool (suc k) [] m n f h = (f, h)
  flow_pool (suc k) (c ∷ cs) m n f h =
      let g : Flow = record { todo = cs; marks = m; count = n } in
      let f1 : Fine N q m₀ g = record { same = f.same; size = f.size; blank = f.blank.1 } in
      flow_pool k _ _ _ (visit_fine N dist q m₀ z u a c g f.blank.0 f1).0 (visit_pool c g f1 h)

-- ---------------------------------------------------------------- a whole flood

-- what a flood of id from span s leaves
pub record Leaves (N : Net) (base : List ℕ) (id s : ℕ) (f : Flow) : Type 0 where
  pub size : length f.marks.ids ≡ spans N
  pub lost : f.count ≡ 0 → (t : ℕ) → id_of f.marks t ≡ get_or base t 0
  pub won : (f.count ≡ 0 → ⊥) → (w : ℕ) × (id_of f.marks w ≡ id)
  pub own : (t : ℕ) → id_of f.marks t ≡ id → (area_of N t ≡ area_of N s) × Linked N (Bears f.marks.ids id) t s
  pub old : (r t : ℕ) → (r ≡ id → ⊥) → id_of f.marks t ≡ r → get_or base t 0 ≡ r
  pub new : (r t : ℕ) → (r ≡ 0 → ⊥) → get_or base t 0 ≡ r → id_of f.marks t ≡ r

module _ (N : Net) (q : Seed) (o : ℕ → Bool) (base : Marks) (seed : ℕ) (z : eqb q.id 0 ≡ false) where
  side_own : (ids : List ℕ) (t v : ℕ) → Side N q o base seed ids t v → (id_of base t ≡ q.id → ⊥) → v ≡ q.id → Kin q o ids t
      → (area_of N t ≡ q.area) × Linked N (Bears ids q.id) t seed
  side_own ids t v (calm e) n k c = absurd (n (sym e ∙ k))
  side_own ids t v (mine b e r (root x)) n k c = (r, subst (λ (y : ℕ). Linked N (Bears ids q.id) t y) x (stay c.0))
  side_own ids t v (mine b e r (hung w d l x j)) n k c = (r, comes w d l x c.0 (joined-map N (λ u h. h.0) j))

  side_old : (ids : List ℕ) (t v : ℕ) → Side N q o base seed ids t v → (v ≡ q.id → ⊥) → v ≡ id_of base t
  side_old ids t v (calm e) n = e
  side_old ids t v (mine b e r h) n = absurd (n e)

  side_new : (ids : List ℕ) (t v : ℕ) → Side N q o base seed ids t v → (id_of base t ≡ 0 → ⊥) → v ≡ id_of base t
  side_new ids t v (calm e) n = e
  side_new ids t v (mine b e r h) n = absurd (n b)

pub flood-leaves : (N : Net) (dist : List ℕ) (level id : ℕ) (m : Marks) (s : ℕ) → 0 < id → id < 0x8000
    → s < spans N → (area_of N s ≡ 256 → ⊥) → length m.ids ≡ spans N → id_of m s ≡ 0 → ((t : ℕ) → id_of m t ≡ id → ⊥)
    → Leaves N m.ids id s (flood N dist level id m s)
unfolding flood put Same Blank
flood-leaves N dist level id m s p b h a n e fresh =
    let z : eqb id 0 ≡ false = ne_eqb id 0 (omega arith) in
    let u : flagged id ≡ false = lt-leb 0x8000 id b in
    let q : Seed = record { area = area_of N s; id = id; limit = level - 2 } in
    let m₀ = put m s id 0 in
    let o = objects N m₀ q in
    let at_s : id_of m₀ s ≡ id = get_or-set_same m.ids s id 0 (rw n h) in
    let r = flow_pool N dist q m m₀ s z u a (5 * spans N + 5) (s ∷ []) m₀ 0
    (record { same = λ t. (refl, refl); size = simp length-set n; blank = ((ap flagged at_s ∙ u, ap (other id) at_s ∙ own_other N dist q m₀ z u a), tt) })
    (record {
      side = λ t. get_or-set_cases m.ids s id t (Side N q o m s m₀.ids t) (λ x. mine (ap (id_of m) x ∙ e) refl (ap (area_of N) x) (root x)) (calm refl);
      rest = (e, tt);
      hold = ((λ _. at_s), tt);
      done = λ t al. get_or-set_cases m.ids s id t (λ v. v ≡ id → (o t ≡ false) × (◌<◌ 0 0)) (λ x _. absurd (al.0 (sym x))) (λ k. absurd (fresh t k));
      won = λ k. absurd (omega arith);
    }) in
    let f = flow N dist q (5 * spans N + 5) (s ∷ []) m₀ 0 in
    let ends : f.todo ≡ [] = flood_ends N dist level id m s z u h a n in
    let all : (t : ℕ) → All (λ c. c ≡ t → ⊥) f.todo = λ t. rw ends tt in
    let own : (t : ℕ) → id_of f.marks t ≡ id → (o t ≡ false) × (0 < f.count) = λ t k. r.1.done t (all t) k in
    record {
      size = r.0.size;
      lost = λ c t. side_old N q o m s z f.marks.ids t _ (r.1.side t) (λ k. let y = own t k in omega arith);
      won = λ c. let w = r.1.won (omega arith) in (w.0, w.1);
      own = λ t k. side_own N q o m s z f.marks.ids t _ (r.1.side t) (fresh t) k (k, (own t k).0);
      old = λ r1 t x k. sym (side_old N q o m s z f.marks.ids t _ (r.1.side t) (λ y. x (sym k ∙ y))) ∙ k;
      new = λ r1 t x k. side_new N q o m s z f.marks.ids t _ (r.1.side t) (λ y. x (sym k ∙ y)) ∙ k;
    }

module _ (N : Net) (first : ℕ) where
  -- a flood that succeeds
  won_grow : (id s : ℕ) (base : List ℕ) (f : Flow) → 0 < id → (area_of N s ≡ 0 → ⊥) → Grow N first id base → Leaves N base id s f → (f.count ≡ 0 → ⊥)
      → Grow N first (suc id) f.marks.ids
  won_grow id s base f p w g l c = record {
    some = g.some;
    ahead = omega (arith, g.ahead);
    size = l.size;
    bare = λ t k. elim (ℕ_discrete (id_of f.marks t) id) [
      | yes e ↦ absurd (w (sym (l.own t e).0 ∙ k))
      | no e ↦ sym (l.old (id_of f.marks t) t e refl) ∙ g.bare t k
    ];
    range = λ r t q k. elim (ℕ_discrete r id) [
      | yes e ↦ (omega (arith, g.ahead), omega arith)
      | no e ↦ let x = g.range r t q (l.old r t e k) in (x.0, omega arith)
    ];
    borne = λ r x y. elim (ℕ_discrete r id) [
      | yes e ↦ let v = l.won c in (v.0, v.1 ∙ sym e)
      | no e ↦ let v = g.borne r x (omega arith) in (v.0, l.new r v.0 (λ k. omega (arith, g.some)) v.1)
    ];
    one = λ r a b q x y. elim (ℕ_discrete r id) [
      | yes e ↦ (l.own a (x ∙ e)).0 ∙ sym (l.own b (y ∙ e)).0
      | no e ↦ g.one r a b q (l.old r a e x) (l.old r b e y)
    ];
    join = λ r a b q x y. elim (ℕ_discrete r id) [
      | yes e ↦ rw e (joined_trans N (Bears f.marks.ids id) (l.own a (x ∙ e)).1 (joined_sym N (Bears f.marks.ids id) (l.own b (y ∙ e)).1))
      | no e ↦ joined-map N (λ u. l.new r u (λ k. omega arith)) (g.join r a b q (l.old r a e x) (l.old r b e y))
    ];
  }

  pub flood_grow : (dist : List ℕ) (level id : ℕ) (m : Marks) (s : ℕ) → id < 0x8000 → s < spans N → (area_of N s ≡ 0 → ⊥) → area_of N s < 256 → id_of m s ≡ 0
      → Grow N first id m.ids → Grow N first (when eqb (flood N dist level id m s).count 0 then id else suc id) (flood N dist level id m s).marks.ids
  flood_grow dist level id m s b h w a e g =
      let p : 0 < id = omega (arith, g.some, g.ahead) in
      let f = flood N dist level id m s in
      let l = flood-leaves N dist level id m s p b h (λ k. omega arith) g.size e (λ t k. let x = g.range id t (p, b) k in omega arith) in
      if-ind (λ n. Grow N first n f.marks.ids) (eqb f.count 0)
      (λ c. step_grow N first id m.ids f.marks.ids g (λ t. same (l.lost (eqb-true _ _ c) t)) (l.size ∙ sym g.size))
      (λ c. won_grow id s m.ids f p w g l (eqb-false _ _ c))

pub floods_grow : (N : Net) (first : ℕ) (dist : List ℕ) (level : ℕ) → ((s : ℕ) → s < spans N → area_of N s < 256)
    → (es : List ℕ) → All (Good N) es → (m : Marks) (id : ℕ) → id < 0x8000 → Grow N first id m.ids → floods_run_out N dist level es m id ≡ false
    → Grow N first (floods N dist level es m id).next (floods N dist level es m id).marks.ids
unfolding floods floods_run_out
floods_grow N first dist level bytes [] al m id b g = λ o. g
floods_grow N first dist level bytes (e ∷ es) al m id b g =
    if_ind₂ (λ (r : Ids) (o : Bool). o ≡ false → Grow N first r.next r.marks.ids) _
    (λ t o.
    let t2 = both _ _ t in
    let o2 = neither _ _ o in
    let in_e = al.0 (eqb-false _ _ (not-true _ t2.0)) in
    let blank : id_of m e ≡ 0 = eqb-true _ _ t2.1 in
    let f = flood N dist level id m e in
    floods_grow N first dist level bytes es al.1 f.marks (when eqb f.count 0 then id else suc id) (after_last _ id b o2.0)
    (flood_grow N first dist level id m e b in_e.0 in_e.1 (bytes e in_e.0) blank g) o2.1)
    (λ _. floods_grow N first dist level bytes es al.1 m id b g)
