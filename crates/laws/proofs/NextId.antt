-- A flood that succeeds leaves fewer spans of id 0, and no flood leaves more: so the next id and the spans of id 0 together do not grow.
-- A span that was counted keeps the id, and a span that returns to id 0 had id 0 before the flood.
use Prim.Native.Nat.{ℕ, zero, suc, ◌+◌, ◌*◌, ◌-◌, ◌≤◌, ◌<◌}
use native.Mathlib.Omega.{arith}
use native.Mathlib.Nat.{le_refl}
use native.Mathlib.Decide.{ℕ_discrete}
use mathlib.Core.Path.{◌≡◌, refl, sym, ap, ◌∙◌}
use mathlib.Core.Bool.{Bool, true, false, not, true≢false}
use mathlib.Core.List.{List, [], ◌∷◌}
use lib.ListN.{length, get_or, set, length-set}
use lib.Seq.{get_or-set_same, get_or-set_other}
use lib.Dec.{eqb}
use borrow.Author.Tests.{eqb-true, eqb-false, eq-eqb, ne_eqb, lt-leb, not-true}
use Rattle.rules.specs.Base.{◌and◌, ◌or◌, when◌then◌else◌, many}
use Rattle.rules.specs.Field.{none}
use Rattle.rules.specs.Net.{Net, spans, area_of, near}
use Rattle.rules.specs.Growth.{Marks, id_of, put, Seed, Flow, pushed, visit, flow, flood, floods, floods_run_out, Ids, objects, other, flagged}
use Rattle.laws.proofs.Basics.{both, neither, if-ind, if_ind₂, upto-ind, All, All_map, many-set, many_le, get_or-set_cases, nonzero_in}
use Rattle.laws.proofs.FloodEnds.{Same, Blank, Fine, has_area, objects-same, pushed_fine, visit_fine, own_other}

pub zeros : List ℕ → ℕ
zeros l = many (eqb 0) l

pub zeros_le : (l : List ℕ) → zeros l ≤ length l
unfolding zeros
zeros_le l = many_le (eqb 0) l

-- what is 0 in l' is 0 in l
pub zeros_down : (l l' : List ℕ) → length l' ≡ length l → ((t : ℕ) → get_or l' t 0 ≡ 0 → t < length l → get_or l t 0 ≡ 0) → zeros l' ≤ zeros l
unfolding zeros many
zeros_down [] [] n h = le_refl 0
zeros_down [] (y ∷ ys) n h = absurd (omega arith)
zeros_down (x ∷ xs) [] n h = absurd (omega arith)
zeros_down (x ∷ xs) (y ∷ ys) n h =
    let r = zeros_down xs ys (omega arith) (λ t z g. h (suc t) z (omega arith)) in
    if-ind (λ k. k ≤ many (eqb 0) (x ∷ xs)) (eqb 0 y)
    (λ e. if-ind (λ k. suc (many (eqb 0) ys) ≤ k) (eqb 0 x) (λ _. omega arith) (λ f. absurd (eqb-false 0 x f (sym (h 0 (sym (eqb-true 0 y e)) (omega arith))))))
    (λ e. if-ind (λ k. many (eqb 0) ys ≤ k) (eqb 0 x) (λ _. omega arith) (λ _. omega arith))

-- and one is 0 in l alone
pub zeros-lower : (l l' : List ℕ) (w : ℕ) → length l' ≡ length l → ((t : ℕ) → get_or l' t 0 ≡ 0 → t < length l → get_or l t 0 ≡ 0)
    → w < length l → get_or l w 0 ≡ 0 → (get_or l' w 0 ≡ 0 → ⊥) → zeros l' < zeros l
unfolding zeros
zeros-lower l l' w n h g z nz =
    let e = many-set (eqb 0) l w 1 0 g (eq-eqb 0 _ (sym z)) refl in
    let r = zeros_down (set l w 1) l' (simp length-set n) (λ t a b.
    let d : t < length l = simp length-set at b in
    elim (ℕ_discrete t w) [ yes q ↦ absurd (nz (rw (← q) a)) | no q ↦ get_or-set_other l w t 1 0 q ∙ h t a d ]) in
    omega arith

-- base: the marks before the flood; o: who objects
pub record Keeps (base : Marks) (q : Seed) (o : ℕ → Bool) (f : Flow) : Type 0 where
  pub down : (t : ℕ) → id_of f.marks t ≡ 0 → id_of base t ≡ 0
  pub back : All (λ c. id_of base c ≡ 0) f.todo
  pub hold : All (λ c. o c ≡ false → id_of f.marks c ≡ q.id) f.todo
  pub won : 0 < f.count → (w : ℕ) × (o w ≡ false) × (id_of f.marks w ≡ q.id) × (id_of base w ≡ 0)

module _ (N : Net) (dist : List ℕ) (q : Seed) (base m₀ : Marks) (z : eqb q.id 0 ≡ false) (u : flagged q.id ≡ false) (a : q.area ≡ 256 → ⊥) where
  pushed_keeps : (c d : ℕ) (f : Flow) → Fine N q m₀ f → Keeps base q (objects N m₀ q) f → Keeps base q (objects N m₀ q) (pushed N dist q c d f)
  unfolding pushed put
  pushed_keeps c d f n h =
      if-ind (λ (g : Flow). Keeps base q (objects N m₀ q) g) _
      (λ e.
      let t = near N c d in
      let e1 = both _ _ (both _ _ e).0 in
      let zero_id : id_of f.marks t ≡ 0 = eqb-true _ _ e1.1 in
      let inside : t < length f.marks.ids = rw n.size (has_area N t q.area a (eqb-true _ _ e1.0)) in
      let stays : (s : ℕ) → id_of f.marks s ≡ q.id → get_or (set f.marks.ids t q.id) s 0 ≡ q.id =
      λ s k. get_or-set_cases f.marks.ids t q.id s (λ r. r ≡ q.id) (λ _. refl) k in
      record {
        down = λ s. get_or-set_cases f.marks.ids t q.id s (λ r. r ≡ 0 → id_of base s ≡ 0) (λ _ k. absurd (eqb-false _ _ z k)) (h.down s);
        back = (h.down t zero_id, h.back);
        hold = ((λ _. get_or-set_same f.marks.ids t q.id 0 inside), All_map f.todo (λ s k o. stays s (k o)) h.hold);
        won = λ k. let w = h.won k in (w.0, w.1, stays w.0 w.2, w.3);
      })
      (λ _. h)

  visit_keeps : (c : ℕ) (f : Flow) → Blank q m₀ c → id_of base c ≡ 0 → (objects N m₀ q c ≡ false → id_of f.marks c ≡ q.id) → Fine N q m₀ f
      → Keeps base q (objects N m₀ q) f → Keeps base q (objects N m₀ q) (visit N dist q c f)
  unfolding visit
  visit_keeps c f k b i n h =
      let o = objects N m₀ q in
      let same : objects N f.marks q c ≡ o c = objects-same N q m₀ f.marks n.same c in
      if-ind (λ (g : Flow). Keeps base q o g) _
      (λ e.
      let stays : (s : ℕ) → o s ≡ false → id_of f.marks s ≡ q.id → get_or (set f.marks.ids c 0) s 0 ≡ q.id =
      λ s y. get_or-set_cases f.marks.ids c 0 s (λ r. id_of f.marks s ≡ q.id → r ≡ q.id) (λ x. absurd (true≢false (sym e ∙ same ∙ ap o (sym x) ∙ y))) (λ j. j) in
      record {
        down = λ s. get_or-set_cases f.marks.ids c 0 s (λ r. r ≡ 0 → id_of base s ≡ 0) (λ x _. ap (id_of base) x ∙ b) (h.down s);
        back = h.back;
        hold = All_map f.todo (λ s y x. stays s x (y x)) h.hold;
        won = λ y. let w = h.won y in (w.0, w.1, stays w.0 w.1 w.2, w.3);
      })
      (λ e. (upto-ind (λ j (g : Flow). Fine N q m₀ g × Keeps base q o g) (pushed N dist q c) _ 4 (
        record { same = n.same; size = n.size; blank = n.blank },
        record { down = h.down; back = h.back; hold = h.hold; won = λ _. (c, sym same ∙ e, i (sym same ∙ e), b) },
      )
      (λ j g _ p. ((pushed_fine N dist q m₀ z u a c j g p.0).0, pushed_keeps c j g p.0 p.1))).1)

  flow_keeps : (k : ℕ) (todo : List ℕ) (m : Marks) (n : ℕ) → Fine N q m₀ (record { todo = todo; marks = m; count = n })
      → Keeps base q (objects N m₀ q) (record { todo = todo; marks = m; count = n })
      → Fine N q m₀ (flow N dist q k todo m n) × Keeps base q (objects N m₀ q) (flow N dist q k todo m n)
  unfolding flow
  flow_keeps zero todo m n f h = (f, h)
  flow_keeps (suc k) [] m n f h = (f, h)
  flow_keeps (suc k) (c ∷ cs) m n f h =
      let g : Flow = record { todo = cs; marks = m; count = n } in
      let f1 : Fine N q m₀ g = record { same = f.same; size = f.size; blank = f.blank.1 } in
      let h1 : Keeps base q (objects N m₀ q) g = record { down = h.down; back = h.back.1; hold = h.hold.1; won = h.won } in
      flow_keeps k _ _ _ (visit_fine N dist q m₀ z u a c g f.blank.0 f1).0 (visit_keeps c g f.blank.0 h.back.0 h.hold.0 f1 h1)

-- a flood raises no number of zeros, and lowers it where it succeeds
pub flood-zeros : (N : Net) (dist : List ℕ) (level id : ℕ) (m : Marks) (s : ℕ) → eqb id 0 ≡ false → flagged id ≡ false
    → s < spans N → (area_of N s ≡ 256 → ⊥) → length m.ids ≡ spans N → id_of m s ≡ 0
    → (length (flood N dist level id m s).marks.ids ≡ spans N)
    × (zeros (flood N dist level id m s).marks.ids + (when eqb (flood N dist level id m s).count 0 then 0 else 1) ≤ zeros m.ids)
unfolding flood put Same Blank
flood-zeros N dist level id m s z u h a n b =
    let q : Seed = record { area = area_of N s; id = id; limit = level - 2 } in
    let m₀ = put m s id 0 in
    let at_s : id_of m₀ s ≡ id = get_or-set_same m.ids s id 0 (rw n h) in
    let r = flow_keeps N dist q m m₀ z u a (5 * spans N + 5) (s ∷ []) m₀ 0
    (record { same = λ t. (refl, refl); size = simp length-set n; blank = ((ap flagged at_s ∙ u, ap (other id) at_s ∙ own_other N dist q m₀ z u a), tt) })
    (record {
      down = λ t. get_or-set_cases m.ids s id t (λ r. r ≡ 0 → id_of m t ≡ 0) (λ _ k. absurd (eqb-false _ _ z k)) (λ k. k);
      back = (b, tt);
      hold = ((λ _. at_s), tt);
      won = λ k. absurd (omega arith);
    }) in
    let f = flow N dist q (5 * spans N + 5) (s ∷ []) m₀ 0 in
    let sized : length f.marks.ids ≡ length m.ids = r.0.size ∙ sym n in (
      r.0.size,
      if-ind (λ k. zeros f.marks.ids + k ≤ zeros m.ids) _
          (λ _. omega (arith, zeros_down m.ids f.marks.ids sized (λ t k _. r.1.down t k)))
          (λ e.
          let nz : f.count ≡ 0 → ⊥ = eqb-false _ _ e in
          let w = r.1.won (omega arith) in
          let there : id_of f.marks w.0 ≡ 0 → ⊥ = λ k. eqb-false _ _ z (sym w.2 ∙ k) in
          omega (arith, zeros-lower m.ids f.marks.ids w.0 sized (λ t k _. r.1.down t k) (rw (← sized) (nonzero_in f.marks.ids w.0 there)) w.3 there)),
    )

pub if_add : (b : Bool) (i : ℕ) → (when b then i else suc i) ≡ i + (when b then 0 else 1)
unfolding when◌then◌else◌
if_add true i = omega arith
if_add false i = omega arith

-- an id that is not the last, or that a failed flood gives back, leaves one that is not flagged
pub after_last : (c : Bool) (id : ℕ) → id < 0x8000 → not c and eqb (suc id) 0x8000 ≡ false → (when c then id else suc id) < 0x8000
unfolding when◌then◌else◌ ◌and◌
after_last true id b e = b
after_last false id b e = let k = eqb-false (suc id) 0x8000 e in omega arith

not_last : (c : Bool) (id : ℕ) → (when c then 0 else 1) + id < 0x8000 → not c and eqb (suc id) 0x8000 ≡ false
unfolding when◌then◌else◌ ◌and◌
not_last true id h = refl
not_last false id h = ne_eqb (suc id) 0x8000 (omega arith)

module _ (N : Net) (dist : List ℕ) (level : ℕ) (bytes : (s : ℕ) → s < spans N → area_of N s < 256) where
  -- where ids do not run out, the next id is not flagged, and ids and zeros together do not grow
  pub floods_next : (es : List ℕ) → All (λ e. (e ≡ none → ⊥) → e < spans N) es → (m : Marks) (id : ℕ) → 0 < id → id < 0x8000 → length m.ids ≡ spans N
      → floods_run_out N dist level es m id ≡ false
      → ((floods N dist level es m id).next + zeros (floods N dist level es m id).marks.ids ≤ id + zeros m.ids)
      × (length (floods N dist level es m id).marks.ids ≡ spans N) × (id ≤ (floods N dist level es m id).next) × ((floods N dist level es m id).next < 0x8000)
  unfolding floods floods_run_out
  floods_next [] al m id p b n = λ o. (le_refl _, n, le_refl _, b)
  floods_next (e ∷ es) al m id p b n =
      if_ind₂ (λ (r : Ids) (o : Bool). o ≡ false
      → (r.next + zeros r.marks.ids ≤ id + zeros m.ids) × (length r.marks.ids ≡ spans N) × (id ≤ r.next) × (r.next < 0x8000)) _
      (λ t o.
      let t2 = both _ _ t in
      let o2 = neither _ _ o in
      let inside : e < spans N = al.0 (eqb-false _ _ (not-true _ t2.0)) in
      let fl = flood-zeros N dist level id m e (ne_eqb id 0 (omega arith)) (lt-leb 0x8000 id (omega arith)) inside (λ k. omega (arith, bytes e inside)) n (eqb-true _ _ t2.1) in
      let f = flood N dist level id m e in
      let k = if_add (eqb f.count 0) id in
      let r = floods_next es al.1 f.marks (when eqb f.count 0 then id else suc id) (omega arith) (after_last _ id b o2.0) fl.0 o2.1 in
      (omega arith, r.1, omega arith, r.3))
      (λ _. floods_next es al.1 m id p b n)

  -- with an id left for every span of id 0 they do not run out
  pub ids_suffice : (es : List ℕ) → All (λ e. (e ≡ none → ⊥) → e < spans N) es → (m : Marks) (id : ℕ) → 0 < id → id + zeros m.ids < 0x8000 → length m.ids ≡ spans N
      → floods_run_out N dist level es m id ≡ false
  unfolding floods_run_out ◌or◌
  ids_suffice [] al m id p b n = refl
  ids_suffice (e ∷ es) al m id p b n =
      if-ind (λ (o : Bool). o ≡ false) _
      (λ t.
      let t2 = both _ _ t in
      let inside : e < spans N = al.0 (eqb-false _ _ (not-true _ t2.0)) in
      let fl = flood-zeros N dist level id m e (ne_eqb id 0 (omega arith)) (lt-leb 0x8000 id (omega arith)) inside (λ k. omega (arith, bytes e inside)) n (eqb-true _ _ t2.1) in
      let f = flood N dist level id m e in
      let k = if_add (eqb f.count 0) id in
      rw (not_last (eqb f.count 0) id (omega arith)) (ids_suffice es al.1 f.marks (when eqb f.count 0 then id else suc id) (omega arith) (omega arith) fl.0))
      (λ _. ids_suffice es al.1 m id p b n)
