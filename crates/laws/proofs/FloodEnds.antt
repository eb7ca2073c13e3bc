-- The flood's fuel is never seen: nothing waits at its end. A span that waits weighs 1 if it objects and 5 if not; one of id 0 that would not object
-- weighs 5. Who objects does not change during a flood, and each turn takes some weight away: a visit that counts takes 5 and adds 4 at most.
use Prim.Native.Nat.{ℕ, zero, suc, ◌+◌, ◌*◌, ◌-◌, ◌≤◌, ◌<◌}
use native.Mathlib.Omega.{arith}
use native.Mathlib.Nat.{add-zero, add-suc, suc-add, zero-add}
use native.Mathlib.Decide.{dec_lt}
use mathlib.Core.Path.{◌≡◌, refl, sym, ap, ◌∙◌}
use mathlib.Core.Bool.{Bool, true, false, not}
use mathlib.Core.List.{List, [], ◌∷◌}
use lib.ListN.{length, get_or, set, length-set, get_or-eq_default}
use lib.Seq.{get_or-set_same}
use lib.Dec.{eqb}
use borrow.Author.Tests.{eqb-true, eq-eqb}
use Rattle.rules.specs.Base.{◌and◌}
use Rattle.rules.specs.Net.{Net, spans, area_of, near, corner}
use Rattle.rules.specs.Growth.{Marks, id_of, put, Seed, Flow, pushed, visit, flow, flood, objects, sees, other, flagged}
use Rattle.laws.proofs.Basics.{both, and_no, if-ind, upto-ind, All, get_or-set_cases}

pub one : Bool → ℕ
one true = 1
one false = 0

-- 1 for an entry that objects, 5 for another
pub weigh : (ℕ → Bool) → List ℕ → ℕ
weigh o [] = 0
weigh o (c ∷ cs) = 5 - 4 * one (o c) + weigh o cs

-- spans from `at` on of id 0 that would not object
pub unseen : (ℕ → Bool) → ℕ → List ℕ → ℕ
unseen o at [] = 0
unseen o at (r ∷ rs) = one (eqb r 0 and not (o at)) + unseen o (suc at) rs

one_le : (b : Bool) → one b ≤ 1
unfolding one
one_le true = omega arith
one_le false = omega arith

module _ (o : ℕ → Bool) where
  unseen_le : (at : ℕ) (l : List ℕ) → unseen o at l ≤ length l
  unfolding unseen
  unseen_le at [] = omega arith
  unseen_le at (x ∷ l) = omega (arith, unseen_le (suc at) l, one_le (eqb x 0 and not (o at)))

  unseen_push : (at : ℕ) (l : List ℕ) (i v : ℕ) → i < length l → get_or l i 0 ≡ 0 → eqb v 0 ≡ false
      → unseen o at (set l i v) + one (not (o (at + i))) ≡ unseen o at l
  unfolding unseen one ◌and◌
  unseen_push at [] i v h z e = omega arith
  unseen_push at (x ∷ l) zero v h z e = rw (e, eq-eqb x 0 z, add-zero) (omega arith)
  unseen_push at (x ∷ l) (suc i) v h z e = let r = unseen_push (suc at) l i v (omega arith) z e in rw (add-suc, ← suc-add at i) (omega arith)

  unseen_clear : (at : ℕ) (l : List ℕ) (i v : ℕ) → o (at + i) ≡ true → unseen o at (set l i v) ≡ unseen o at l
  unfolding unseen one ◌and◌
  unseen_clear at [] i v h = refl
  unseen_clear at (x ∷ l) zero v h = let k : o at ≡ true = rw add-zero at h in simp (k, and_no)
  unseen_clear at (x ∷ l) (suc i) v h = let r = unseen_clear (suc at) l i v (rw (suc-add, ← add-suc) h) in rw r

-- in the field: a span that has an area is one of its spans
pub has_area : (N : Net) (s a : ℕ) → (a ≡ 256 → ⊥) → area_of N s ≡ a → s < spans N
unfolding area_of
has_area N s a z e = elim (dec_lt s (spans N)) [ yes h ↦ h | no h ↦ absurd (z (sym e ∙ get_or-eq_default N.areas 256 (omega arith))) ]

-- the flood's view of a span: flagged, or of another nonzero id
unfoldable pub Same : Seed → Marks → Marks → Type 0
Same q m m' = (s : ℕ) → (flagged (id_of m' s) ≡ flagged (id_of m s)) × (other q.id (id_of m' s) ≡ other q.id (id_of m s))

module _ (N : Net) (q : Seed) (m m' : Marks) (e : Same q m m') where
  sees-same : (c d : ℕ) → sees N m' q c d ≡ sees N m q c d
  unfolding sees Same
  sees-same c d = rw ((e (near N c d)).0, (e (near N c d)).1, (e (corner N c d)).1)

  pub objects-same : (c : ℕ) → objects N m' q c ≡ objects N m q c
  unfolding objects
  objects-same c = rw (sees-same c 0, sees-same c 1, sees-same c 2, sees-same c 3)

-- at the start neither flagged nor of another id
unfoldable pub Blank : Seed → Marks → ℕ → Type 0
Blank q m s = (flagged (id_of m s) ≡ false) × (other q.id (id_of m s) ≡ false)

pub record Fine (N : Net) (q : Seed) (m₀ : Marks) (f : Flow) : Type 0 where
  pub same : Same q m₀ f.marks
  pub size : length f.marks.ids ≡ spans N
  pub blank : All (Blank q m₀) f.todo

pub weight : (ℕ → Bool) → Flow → ℕ
weight o f = weigh o f.todo + 5 * unseen o 0 f.marks.ids

one-not : (b : Bool) → one b + one (not b) ≡ 1
unfolding one
one-not true = refl
one-not false = refl

pub set_same : (q : Seed) (m₀ m : Marks) (t v : ℕ) (src : List ℕ) → flagged v ≡ false → other q.id v ≡ false → Blank q m₀ t → Same q m₀ m
    → Same q m₀ (record { ids = set m.ids t v; src = src })
unfolding Same Blank
set_same q m₀ m t v src a b k h s =
    get_or-set_cases m.ids t v s (λ r. (flagged r ≡ flagged (id_of m₀ s)) × (other q.id r ≡ other q.id (id_of m₀ s)))
    (λ e. rw e (a ∙ sym k.0, b ∙ sym k.1))
    (h s)

module _ (N : Net) (dist : List ℕ) (q : Seed) (m₀ : Marks) (z : eqb q.id 0 ≡ false) (u : flagged q.id ≡ false) (a : q.area ≡ 256 → ⊥) where
  pub own_other : other q.id q.id ≡ false
  own_other = simp (eq-eqb q.id q.id refl, and_no)

  pub pushed_fine : (c d : ℕ) (f : Flow) → Fine N q m₀ f
      → Fine N q m₀ (pushed N dist q c d f) × (weight (objects N m₀ q) (pushed N dist q c d f) ≤ weight (objects N m₀ q) f + 1)
  unfolding pushed weight weigh put Blank Same ◌and◌
  pushed_fine c d f h =
      if-ind (λ (g : Flow). Fine N q m₀ g × (weight (objects N m₀ q) g ≤ weight (objects N m₀ q) f + 1)) _
      (λ e.
      let t = near N c d in
      let e1 = both _ _ (both _ _ e).0 in
      let zero_id : id_of f.marks t ≡ 0 = eqb-true _ _ e1.1 in
      let inside : t < spans N = has_area N t q.area a (eqb-true _ _ e1.0) in
      let k : Blank q m₀ t = (sym (h.same t).0 ∙ ap flagged zero_id, sym (h.same t).1 ∙ ap (other q.id) zero_id) in
      let w = unseen_push (objects N m₀ q) 0 f.marks.ids t q.id (rw h.size inside) zero_id z in (
        record {
          same = set_same q m₀ f.marks t q.id (set f.marks.src t 0) u own_other k h.same;
          size = simp length-set h.size;
          blank = (k, h.blank);
        },
        let w2 = rw zero-add at w in
            omega (arith, one-not (objects N m₀ q t), w2),
      ))
      (λ _. (h, omega arith))

  pub visit_fine : (c : ℕ) (f : Flow) → Blank q m₀ c → Fine N q m₀ f
      → Fine N q m₀ (visit N dist q c f) × (weight (objects N m₀ q) (visit N dist q c f) + 1 ≤ weight (objects N m₀ q) f + (5 - 4 * one (objects N m₀ q c)))
  unfolding visit weight one ◌and◌
  visit_fine c f k h =
      let o = objects N m₀ q in
      let same : objects N f.marks q c ≡ o c = objects-same N q m₀ f.marks h.same c in
      if-ind (λ (g : Flow). Fine N q m₀ g × (weight o g + 1 ≤ weight o f + (5 - 4 * one (o c)))) _
      (λ e.
      let oc : o c ≡ true = sym same ∙ e in (
        record { same = set_same q m₀ f.marks c 0 f.marks.src refl refl k h.same; size = simp length-set h.size; blank = h.blank },
        omega (arith, unseen_clear o 0 f.marks.ids c 0 (rw zero-add oc), ap one oc),
      ))
      (λ e.
      let r = upto-ind (λ i (g : Flow). Fine N q m₀ g × (weight o g ≤ weight o f + i)) (pushed N dist q c) _ 4
      (record { same = h.same; size = h.size; blank = h.blank }, omega arith)
      (λ i g _ p. let t = pushed_fine c i g p.0 in (t.0, omega arith)) in
      (r.0, omega (arith, ap one (sym same ∙ e))))

  pub flow_ends : (k : ℕ) (todo : List ℕ) (m : Marks) (n : ℕ) → Fine N q m₀ (record { todo = todo; marks = m; count = n })
      → weight (objects N m₀ q) (record { todo = todo; marks = m; count = n }) ≤ k → (flow N dist q k todo m n).todo ≡ []
  unfolding flow weight weigh
  flow_ends zero [] m n h w = refl
  flow_ends zero (c ∷ cs) m n h w = absurd (omega (arith, one-not (objects N m₀ q c)))
  flow_ends (suc k) [] m n h w = refl
  flow_ends (suc k) (c ∷ cs) m n h w =
      let v = visit_fine c (record { todo = cs; marks = m; count = n }) h.blank.0 (record { same = h.same; size = h.size; blank = h.blank.1 }) in
      flow_ends k _ _ _ v.0 (omega (arith, v.1))

-- the flood of a span comes to its end
pub flood_ends : (N : Net) (dist : List ℕ) (level id : ℕ) (m : Marks) (s : ℕ) → eqb id 0 ≡ false → flagged id ≡ false
    → s < spans N → (area_of N s ≡ 256 → ⊥) → length m.ids ≡ spans N → (flood N dist level id m s).todo ≡ []
unfolding flood put weight weigh Same Blank
flood_ends N dist level id m s z u h a n =
    let q : Seed = record { area = area_of N s; id = id; limit = level - 2 } in
    let m₀ = put m s id 0 in
    let at_s : id_of m₀ s ≡ id = get_or-set_same m.ids s id 0 (rw n h) in
    let size : length m₀.ids ≡ spans N = simp length-set n in
    flow_ends N dist q m₀ z u a (5 * spans N + 5) (s ∷ []) m₀ 0
    (record { same = λ t. (refl, refl); size = size; blank = ((ap flagged at_s ∙ u, ap (other id) at_s ∙ own_other N dist q m₀ z u a), tt) })
    (omega (arith, unseen_le (objects N m₀ q) 0 m₀.ids))
