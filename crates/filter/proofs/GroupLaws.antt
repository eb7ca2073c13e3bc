-- Laws of a group under way. What is written lies in the columns 4m to 7m, so the records keep all but `visited`;
-- a record that waits is visited, so there is always room for one more.
use Prim.Native.Nat.{ℕ, zero, suc, ◌+◌, ◌-◌, ◌*◌, ◌≤◌, ◌<◌}
use native.Mathlib.Omega.{arith}
use native.Mathlib.Decide.{ℕ_discrete}
use mathlib.Core.Path.{◌≡◌, refl, sym, ap, ◌∙◌}
use mathlib.Core.Logic.{⊎_elim, ◌⊎◌, inl, inr}
use mathlib.Core.Bool.{Bool, true, false, not}
use mathlib.Core.List.{List, [], ◌∷◌, ◌++◌}
use lib.ListN.{length, get_or, set, drop, length-set, length-drop}
use lib.Seq.{get_or-set_same, get_or-set_other, take-suc, get_or-drop}
use lib.Dec.{eqb}
use borrow.Author.Tests.{eq-eqb, ne_eqb, le-leb, lt-leb}
use Rattle.rules.specs.Base.{◌or◌, when◌then◌else◌}
use Rattle.rules.specs.Records.{Rec, fresh, at}
use Rattle.rules.specs.Filter.{seen, Gather, reach, gather}
use Rattle.laws.proofs.Basics.{tally_le, tally-set}
use Rattle.laws.proofs.FilterEnds.{unvisited, ahead, reach_ahead}
use Rattle.space.specs.Space.{Frame, stack_at}
use Rattle.space.proofs.Laws.{frame_then, frame_set, frame_wider, get_or_before, get_d_after, length-stack_at, stack_at-set, stack_at_push, stack_at_pop}
use Rattle.table.specs.View.{recs_of, part, start_of, end_of, list_at, rec_at, Held}
use Rattle.table.proofs.ViewLaws.{view-at, view-same, view-set, list_past, held_past, rec_past, part_cons, part_none, part_at, part_length, recs_length, recs_at, id_at_lem, part-after, part_before}
use Rattle.filter.specs.Group.{reach_one, group_at, Waiting, Found, Calm, Popped}

-- ---- the records in the workspace

-- what is written past the columns of the records leaves them alone
pub recs_spare : {ws ws' : List ℕ} (m : ℕ) → Held m (7 * m) (11 * m) ws → Frame (5 * m) (7 * m) ws ws' → length ws' ≡ length ws → recs_of ws' m ≡ recs_of ws m
unfolding recs_of
recs_spare {ws} {ws'} m H f l =
    view-same ws ws' m (7 * m) (11 * m) (λ i g.
    rec_past m (7 * m) (11 * m) H f (omega arith) l i g (get_or_before i f (omega arith)) (get_or_before (m + i) f (omega arith)) (get_or_before (2 * m + i) f (omega arith))
    (get_or_before (3 * m + i) f (omega arith)) (get_or_before (4 * m + i) f (omega arith)))

-- record r is visited
seen_is : (x : ℕ) (ws ws' : List ℕ) (m r : ℕ) → get_or ws' r 0 ≡ get_or ws r 0 → get_or ws' (m + r) 0 ≡ get_or ws (m + r) 0 → get_or ws' (2 * m + r) 0 ≡ get_or ws (2 * m + r) 0
    → get_or ws' (3 * m + r) 0 ≡ get_or ws (3 * m + r) 0 → get_or ws' (4 * m + r) 0 ≡ 1
    → list_at ws' m (7 * m) r ≡ list_at ws m (7 * m) r → list_at ws' m (11 * m) r ≡ list_at ws m (11 * m) r
    → get_or ws' (15 * m + r) 0 ≡ get_or ws (15 * m + r) 0 → rec_at ws' m (7 * m) (11 * m) r ≡ seen (rec_at ws m (7 * m) (11 * m) r)
unfolding rec_at seen
seen_is x ws ws' m r p₁ p₂ p₃ p₄ p₅ p₆ p₇ p₈ = rw (p₁, p₂, p₃, p₄, p₅, p₆, p₇, p₈)

module _ {ws ws' : List ℕ} (m r : ℕ) (H : Held m (7 * m) (11 * m) ws) (f : Frame (4 * m) (6 * m) ws ws') (l : length ws' ≡ length ws) (h : r < m)
    (v : get_or ws' (4 * m + r) 0 ≡ 1) (o : (i : ℕ) → i < m → (i ≡ r → ⊥) → get_or ws' (4 * m + i) 0 ≡ get_or ws (4 * m + i) 0) where
  pub recs_seen : recs_of ws' m ≡ set (recs_of ws m) r (seen (at (recs_of ws m) r))
  unfolding recs_of
  recs_seen =
      rw (view-at ws m (7 * m) (11 * m) r h)
      (view-set ws ws' m (7 * m) (11 * m) r (seen (rec_at ws m (7 * m) (11 * m) r)) h
      (seen_is 0 ws ws' m r (get_or_before r f (omega arith)) (get_or_before (m + r) f (omega arith)) (get_or_before (2 * m + r) f (omega arith)) (get_or_before (3 * m + r) f (omega arith)) v
      (list_past m (7 * m) H.lists f (omega arith) l r h) (list_past m (11 * m) H.floors f (omega arith) l r h) (get_d_after (15 * m + r) f (omega arith)))
      (λ i g n.
      rec_past m (7 * m) (11 * m) H f (omega arith) l i g (get_or_before i f (omega arith)) (get_or_before (m + i) f (omega arith)) (get_or_before (2 * m + i) f (omega arith))
      (get_or_before (3 * m + i) f (omega arith)) (o i g n)))

pub held_spare : {a e : ℕ} {ws ws' : List ℕ} (m : ℕ) → Held m (7 * m) (11 * m) ws → Frame a e ws ws' → m ≤ a → e ≤ 7 * m → length ws' ≡ length ws → Held m (7 * m) (11 * m) ws'
held_spare m H f h g l = held_past m (7 * m) (11 * m) H f g l (λ r k. rw (get_or_before r f (omega arith)) (H.ids r k))

-- ---- one entry

visited_at : (ws : List ℕ) (m r : ℕ) → r < m → (at (recs_of ws m) r).visited ≡ not (eqb (get_or ws (4 * m + r) 0) 0)
unfolding rec_at
visited_at ws m r h = ap (λ (q : Rec). q.visited) (recs_at ws m r h)

not_zero : (x : ℕ) → (x ≡ 0 → ⊥) → not (eqb x 0) ≡ true
not_zero x h = rw (ne_eqb x 0 h)

is_zero : (x : ℕ) → x ≡ 0 → not (eqb x 0) ≡ false
is_zero x h = rw (eq-eqb x 0 h)

-- one entry, over plain tests
one_by : (a b c : Bool) (g h : Gather) → (a ≡ true) ⊎ ((b ≡ true) ⊎ (c ≡ true)) → g ≡ (when a or b or c then g else h)
unfolding ◌or◌ when◌then◌else◌
one_by true b c g h e = refl
one_by false true c g h e = refl
one_by false false true g h e = refl
one_by false false false g h e = ⊎_elim (λ (p : false ≡ true). absurd (no_way p)) (λ (p : (false ≡ true) ⊎ (false ≡ true)). ⊎_elim (λ (q : false ≡ true). absurd (no_way q)) (λ (q : false ≡ true). absurd (no_way q)) p) e
  where
    no_way : false ≡ true → ⊥
    no_way p = let z : ◌≡◌ {A = ℕ} 0 1 = cc in omega arith

one_else : (a b c : Bool) (g h : Gather) → a ≡ false → b ≡ false → c ≡ false → h ≡ (when a or b or c then g else h)
unfolding ◌or◌ when◌then◌else◌
one_else a b c g h p q r = rw (p, q, r)

module _ (ws : List ℕ) (m r top : ℕ) where
  pub one-flagged : 32768 ≤ r → (f : ℕ) → group_at ws m top f ≡ reach_one r (group_at ws m top f)
  unfolding reach_one group_at
  one-flagged h f = one_by _ _ _ _ _ (inl (le-leb 32768 r h))

  module _ (h : r < 32768) (w : r < 32768 → r < m) where
    pub one_visited : (get_or ws (4 * m + r) 0 ≡ 0 → ⊥) → (f : ℕ) → group_at ws m top f ≡ reach_one r (group_at ws m top f)
    unfolding reach_one group_at
    one_visited v f = one_by _ _ _ _ _ (inr (inl (visited_at ws m r (w h) ∙ not_zero _ v)))

    pub one_dead : get_or ws r 0 ≡ 0 → (f : ℕ) → group_at ws m top f ≡ reach_one r (group_at ws m top f)
    unfolding reach_one group_at
    one_dead z f = one_by _ _ _ _ _ (inr (inr (eq-eqb _ 0 (id_at_lem ws m r (w h) ∙ z))))

module _ (ws : List ℕ) (m r top : ℕ) (W : Waiting m top ws) (h : r < 32768) (w : r < 32768 → r < m) where
  pub visit_in : 4 * m + r < length ws
  visit_in = let g = w h in omega (arith, W.held.floors.room)

  pub live_in : r < length ws
  live_in = let g = w h in omega (arith, W.held.floors.room)

group_eq : (a a' : List ℕ) (b b' : List Rec) (c c' : List ℕ) → a ≡ a' → b ≡ b' → c ≡ c' → ◌≡◌ {A = Gather} (record { todo = a; recs = b; found = c }) (record { todo = a'; recs = b'; found = c' })
group_eq a a' b b' c c' p q r = rw (p, q, r)

reach-one : (r : ℕ) (g : Gather) → reach (r ∷ []) g ≡ reach_one r g
unfolding reach reach_one
reach-one r g = refl

reach_cons : (r : ℕ) (l : List ℕ) (g : Gather) → reach (r ∷ l) g ≡ reach l (reach_one r g)
unfolding reach reach_one
reach_cons r l g = refl

one_ahead : (r : ℕ) (g : Gather) → ahead (reach_one r g).todo (reach_one r g).recs ≡ ahead g.todo g.recs
one_ahead r g = rw (← reach-one r g) (reach_ahead (r ∷ []) g)

-- as many wait and are not visited as before
group_ahead : (ws ws' : List ℕ) (m r n top : ℕ) → group_at ws' m n 0 ≡ reach_one r (group_at ws m top 0) → ahead (stack_at ws' (5 * m) n) (recs_of ws' m) ≡ ahead (stack_at ws (5 * m) top) (recs_of ws m)
unfolding group_at
group_ahead ws ws' m r n top e = ap (λ (g : Gather). ahead g.todo g.recs) e ∙ one_ahead r (group_at ws m top 0)

seen_visited : (q : Rec) → unvisited (seen q) ≡ false
unfolding seen unvisited
seen_visited q = refl

-- one that is live and not visited
module _ (ws : List ℕ) (m r top : ℕ) (W : Waiting m top ws) (h : r < 32768) (w : r < 32768 → r < m) (v : get_or ws (4 * m + r) 0 ≡ 0) (z : get_or ws r 0 ≡ 0 → ⊥) where
  g : r < m
  g = w h

  -- the workspace afterwards, as the code writes it
  abbrev ws' : List ℕ
  ws' = set (set ws (5 * m + top) (get_or ws r 0)) (4 * m + r) 1

  len : 15 * m ≤ length ws
  len = omega (arith, W.held.floors.room)

  pub push_room : top < m
  unfolding ahead unvisited at
  push_room =
      let u : not (at (recs_of ws m) r).visited ≡ true = ap not (visited_at ws m r g ∙ is_zero _ v) in
      let t = tally-set unvisited (recs_of ws m) r (seen (at (recs_of ws m) r)) (fresh 0) (rw (recs_length ws m) g) u (seen_visited (at (recs_of ws m) r)) in
      omega (arith, W.room, length-stack_at ws (5 * m) top)

  pub push_in : 5 * m + top < length ws
  push_in = omega (arith, push_room, len)

  pub push_in_2 : 4 * m + r < length (set ws (5 * m + top) (get_or ws r 0))
  push_in_2 = rw (length-set ws (5 * m + top) (get_or ws r 0)) (omega (arith, g, len))

  pub push_frame : Frame (4 * m) (6 * m) ws ws'
  push_frame =
      frame_then (frame_set (4 * m) (6 * m) (5 * m + top) (get_or ws r 0) ws (omega arith) (omega (arith, push_room)))
      (frame_set (4 * m) (6 * m) (4 * m + r) 1 (set ws (5 * m + top) (get_or ws r 0)) (omega arith) (omega (arith, g)))

  push_length : length ws' ≡ length ws
  push_length = length-set (set ws (5 * m + top) (get_or ws r 0)) (4 * m + r) 1 ∙ length-set ws (5 * m + top) (get_or ws r 0)

  push_stack : stack_at ws' (5 * m) (top + 1) ≡ get_or ws r 0 ∷ stack_at ws (5 * m) top
  push_stack =
      stack_at-set (set ws (5 * m + top) (get_or ws r 0)) (5 * m) (top + 1) (4 * m + r) 1 (inl (omega (arith, g)))
      ∙ stack_at_push ws (5 * m) top (get_or ws r 0) push_in

  push_recs : recs_of ws' m ≡ set (recs_of ws m) r (seen (at (recs_of ws m) r))
  push_recs =
      recs_seen m r W.held push_frame push_length g
      (get_or-set_same (set ws (5 * m + top) (get_or ws r 0)) (4 * m + r) 1 0 (rw (length-set ws (5 * m + top) (get_or ws r 0)) (omega (arith, g, len))))
      (λ i k n. get_or-set_other (set ws (5 * m + top) (get_or ws r 0)) (4 * m + r) (4 * m + i) 1 0 (λ e. n (omega arith))
      ∙ get_or-set_other ws (5 * m + top) (4 * m + i) (get_or ws r 0) 0 (λ e. omega arith))

  pub push_group : (f : ℕ) → group_at ws' m (top + 1) f ≡ reach_one r (group_at ws m top f)
  unfolding reach_one group_at
  push_group f =
      group_eq _ _ _ _ _ _ (push_stack ∙ ap (λ (y : ℕ). y ∷ stack_at ws (5 * m) top) (sym (id_at_lem ws m r g))) push_recs (part-after (6 * m) (6 * m + f) push_frame (omega arith))
      ∙ one_else _ _ _ (record { todo = stack_at ws (5 * m) top; recs = recs_of ws m; found = part (6 * m) (6 * m + f) ws }) _ (lt-leb 32768 r h) (visited_at ws m r g ∙ is_zero _ v) (ne_eqb _ 0 (λ e. z (sym (id_at_lem ws m r g) ∙ e)))

  pub push_waiting : Waiting m (top + 1) ws'
  push_waiting = record {
    held = held_spare m W.held push_frame (omega arith) (omega arith) push_length;
    fits = omega (arith, push_room);
    room = rw (group_ahead ws ws' m r (top + 1) top (push_group 0)) W.room;
    waits = λ x k.
        rw (get_or-set_other (set ws (5 * m + top) (get_or ws r 0)) (4 * m + r) (5 * m + x) 1 0 (λ e. omega (arith, g))) (elim (ℕ_discrete x top) [
          | yes q ↦ rw (q, get_or-set_same ws (5 * m + top) (get_or ws r 0) 0 push_in) (W.held.ids r g)
          | no q ↦ rw (get_or-set_other ws (5 * m + top) (5 * m + x) (get_or ws r 0) 0 (λ e. q (omega arith))) (W.waits x (omega arith))
        ]);
    blank = λ x k j. get_or-set_other (set ws (5 * m + top) (get_or ws r 0)) (4 * m + r) (5 * m + x) 1 0 (λ e. omega (arith, g))
        ∙ get_or-set_other ws (5 * m + top) (5 * m + x) (get_or ws r 0) 0 (λ e. omega arith) ∙ W.blank x (omega arith) j;
  }

-- ---- all entries of a list

module _ (ws₀ : List ℕ) (m i top : ℕ) where
  pub reach-start : (k e : ℕ) → k ≡ start_of ws₀ m (7 * m) i → e ≡ end_of ws₀ m (7 * m) i
      → (f : ℕ) → reach (list_at ws₀ m (7 * m) i) (group_at ws₀ m top f) ≡ reach (part k e ws₀) (group_at ws₀ m top f)
  unfolding list_at
  reach-start k e p q f = rw (p, q)

  pub reach_from : (k : ℕ) → k ≡ start_of ws₀ m (7 * m) i → start_of ws₀ m (7 * m) i ≤ k
  reach_from k p = omega arith

  pub reach_order : (k e : ℕ) → Waiting m top ws₀ → i < m → k ≡ start_of ws₀ m (7 * m) i → e ≡ end_of ws₀ m (7 * m) i → k ≤ e
  reach_order k e W h p q = omega (arith, W.held.lists.order i h)

  module _ (ws : List ℕ) (k e : ℕ) (fr : Frame (4 * m) (6 * m) ws₀ ws) (l : length ws ≡ length ws₀) (g : k < e) (q : e ≡ end_of ws₀ m (7 * m) i) (s : start_of ws₀ m (7 * m) i ≤ k)
      (h : i < m) (W₀ : Waiting m top ws₀) where
    pub entry_in : k < length ws
    entry_in = omega (arith, W₀.held.lists.within i h)

    pub entry_under : get_or ws k 0 < 32768 → get_or ws k 0 < m
    unfolding list_at
    entry_under =
        let a = start_of ws₀ m (7 * m) i in
        let u : get_or (list_at ws₀ m (7 * m) i) (k - a) 0 ≡ get_or ws k 0 =
        part_at a (end_of ws₀ m (7 * m) i) (k - a) ws₀ (omega arith) ∙ ap (λ (j : ℕ). get_or ws₀ j 0) (omega arith) ∙ sym (get_d_after k fr (omega (arith, W₀.held.lists.far i h))) in
        rw u at ((W₀.held.listed i h).under (k - a) (rw (part_length a (end_of ws₀ m (7 * m) i) ws₀ (W₀.held.lists.order i h) (W₀.held.lists.within i h)) (omega arith)))

    pub reach_go : (ws' : List ℕ) (n n' : ℕ) → ((f : ℕ) → reach (list_at ws₀ m (7 * m) i) (group_at ws₀ m top f) ≡ reach (part k e ws) (group_at ws m n f))
        → ((f : ℕ) → group_at ws' m n' f ≡ reach_one (get_or ws k 0) (group_at ws m n f)) → Frame (4 * m) (6 * m) ws ws'
        → (f : ℕ) → reach (list_at ws₀ m (7 * m) i) (group_at ws₀ m top f) ≡ reach (part (k + 1) e ws') (group_at ws' m n' f)
    reach_go ws' n n' a b fr' f =
        let c : part k e ws ≡ get_or ws k 0 ∷ part (k + 1) e ws = part_cons k e ws g (omega (arith, W₀.held.lists.within i h)) in
        let d : part (k + 1) e ws' ≡ part (k + 1) e ws = part-after (k + 1) e fr' (omega (arith, W₀.held.lists.far i h)) in
        a f ∙ ap (λ (x : List ℕ). reach x (group_at ws m n f)) c ∙ reach_cons (get_or ws k 0) (part (k + 1) e ws) (group_at ws m n f)
        ∙ ap (reach (part (k + 1) e ws)) (sym (b f)) ∙ ap (λ (x : List ℕ). reach x (group_at ws' m n' f)) (sym d)

  pub reach_done : (ws : List ℕ) (n k e : ℕ) → e ≤ k → ((f : ℕ) → reach (list_at ws₀ m (7 * m) i) (group_at ws₀ m top f) ≡ reach (part k e ws) (group_at ws m n f))
      → (f : ℕ) → group_at ws m n f ≡ reach (list_at ws₀ m (7 * m) i) (group_at ws₀ m top f)
  unfolding reach
  reach_done ws n k e h a f = sym (a f ∙ rw (part_none k e ws h) refl)

-- ---- the first of a group

module _ (ws : List ℕ) (m i : ℕ) (C : Calm m ws) (h : i < m) (v : get_or ws (4 * m + i) 0 ≡ 0) where
  abbrev es' : List ℕ
  es' = set (set ws (5 * m) i) (4 * m + i) 1

  e_len : 15 * m ≤ length ws
  e_len = omega (arith, C.held.floors.room)

  pub enter_in : 4 * m + i < length (set ws (5 * m) i)
  enter_in = rw (length-set ws (5 * m) i) (omega (arith, e_len))

  pub enter_frame : Frame (4 * m) (6 * m) ws es'
  enter_frame =
      frame_then (frame_set (4 * m) (6 * m) (5 * m) i ws (omega arith) (omega arith))
      (frame_set (4 * m) (6 * m) (4 * m + i) 1 (set ws (5 * m) i) (omega arith) (omega arith))

  enter_length : length es' ≡ length ws
  enter_length = length-set (set ws (5 * m) i) (4 * m + i) 1 ∙ length-set ws (5 * m) i

  enter_first : get_or es' (5 * m + 0) 0 ≡ i
  enter_first =
      let e : 5 * m + 0 ≡ 5 * m = omega arith in
      rw e (get_or-set_other (set ws (5 * m) i) (4 * m + i) (5 * m) 1 0 (λ e. omega arith) ∙ get_or-set_same ws (5 * m) i 0 (omega (arith, e_len)))

  enter_stack : stack_at es' (5 * m) 1 ≡ i ∷ []
  unfolding stack_at
  enter_stack = ap (λ (y : ℕ). y ∷ []) enter_first

  enter_recs : recs_of es' m ≡ set (recs_of ws m) i (seen (at (recs_of ws m) i))
  enter_recs =
      recs_seen m i C.held enter_frame enter_length h
      (get_or-set_same (set ws (5 * m) i) (4 * m + i) 1 0 enter_in)
      (λ j k n. get_or-set_other (set ws (5 * m) i) (4 * m + i) (4 * m + j) 1 0 (λ e. n (omega arith)) ∙ get_or-set_other ws (5 * m) (4 * m + j) i 0 (λ e. omega arith))

  pub enter_group : group_at es' m 1 0 ≡ record { todo = i ∷ []; recs = set (recs_of ws m) i (seen (at (recs_of ws m) i)); found = [] }
  unfolding group_at
  enter_group = group_eq _ _ _ _ _ _ enter_stack enter_recs (part_none (6 * m) (6 * m + 0) es' (omega arith))

  enter_room : ahead (stack_at es' (5 * m) 1) (recs_of es' m) ≤ m
  unfolding ahead unvisited at
  enter_room =
      let u : not (at (recs_of ws m) i).visited ≡ true = ap not (visited_at ws m i h ∙ is_zero _ v) in
      let t = tally-set unvisited (recs_of ws m) i (seen (at (recs_of ws m) i)) (fresh 0) (rw (recs_length ws m) h) u (seen_visited (at (recs_of ws m) i)) in
      rw (enter_stack, enter_recs) (omega (arith, tally_le unvisited (recs_of ws m), recs_length ws m))

  pub enter_waiting : Waiting m 1 es'
  enter_waiting = record {
    held = held_spare m C.held enter_frame (omega arith) (omega arith) enter_length;
    fits = omega arith;
    room = enter_room;
    waits = λ x k. let e : x ≡ 0 = omega arith in rw (e, enter_first) h;
    blank = λ x k j. get_or-set_other (set ws (5 * m) i) (4 * m + i) (5 * m + x) 1 0 (λ e. omega arith) ∙ get_or-set_other ws (5 * m) (5 * m + x) i 0 (λ e. omega arith) ∙ C.blank x (omega arith);
  }

  pub enter_found : Found m 0 es'
  enter_found = record {
    found = λ x k. absurd (omega arith);
    blank = λ x _ k. get_d_after (6 * m + x) enter_frame (omega arith) ∙ ap (λ (j : ℕ). get_or ws j 0) (omega arith) ∙ C.blank (m + x) (omega arith);
  }

-- ---- one is found

part_snoc : (a b : ℕ) (ws : List ℕ) → a ≤ b → b < length ws → part a (b + 1) ws ≡ part a b ws ++ (get_or ws b 0 ∷ [])
unfolding part
part_snoc a b ws h g =
    let e : (b + 1) - a ≡ suc (b - a) = omega arith in
    let d : a + (b - a) ≡ b = omega arith in
    rw (e, take-suc (drop a ws) (b - a) 0 (rw (length-drop a ws) (omega arith)), get_or-drop a ws (b - a) 0, d) refl

module _ (ws : List ℕ) (m top f : ℕ) (W : Waiting m top ws) (D : Found m f ws) (h : 0 < top) (k : f < m) where
  abbrev r : ℕ
  r = get_or ws (5 * m + (top - 1)) 0

  abbrev ps : List ℕ
  ps = set ws (5 * m + (top - 1)) 0

  abbrev ps' : List ℕ
  ps' = set ps (6 * m + f) r

  p_len : 15 * m ≤ length ws
  p_len = omega (arith, W.held.floors.room)

  pub pop_in : 5 * m + (top - 1) < length ws
  pop_in = omega (arith, p_len, W.fits)

  pub pop_in_2 : 6 * m + f < length ps
  pop_in_2 = rw (length-set ws (5 * m + (top - 1)) 0) (omega (arith, p_len))

  pub pop_frame : Frame (5 * m) (7 * m) ws ps'
  pop_frame =
      frame_then (frame_set (5 * m) (7 * m) (5 * m + (top - 1)) 0 ws (omega arith) (omega (arith, W.fits)))
      (frame_set (5 * m) (7 * m) (6 * m + f) r ps (omega arith) (omega arith))

  pop_length : length ps' ≡ length ws
  pop_length = length-set ps (6 * m + f) r ∙ length-set ws (5 * m + (top - 1)) 0

  pop_stack : stack_at ps' (5 * m) (top - 1) ≡ stack_at ws (5 * m) (top - 1)
  pop_stack = stack_at-set ps (5 * m) (top - 1) (6 * m + f) r (inr (omega (arith, W.fits))) ∙ stack_at-set ws (5 * m) (top - 1) (5 * m + (top - 1)) 0 (inr (omega arith))

  pub pop_waited : stack_at ws (5 * m) top ≡ r ∷ stack_at ps' (5 * m) (top - 1)
  pop_waited = stack_at_pop ws (5 * m) top h ∙ ap (λ (l : List ℕ). r ∷ l) (sym pop_stack)

  pub pop_recs : recs_of ps' m ≡ recs_of ws m
  pop_recs = recs_spare m W.held pop_frame pop_length

  pub pop_below : r < m
  pop_below = W.waits (top - 1) (omega arith)

  pop_same : (x : ℕ) → (x ≡ f → ⊥) → get_or ps' (6 * m + x) 0 ≡ get_or ws (6 * m + x) 0
  pop_same x n = get_or-set_other ps (6 * m + f) (6 * m + x) r 0 (λ e. n (omega arith)) ∙ get_or-set_other ws (5 * m + (top - 1)) (6 * m + x) 0 0 (λ e. omega (arith, W.fits))

  pop_here : get_or ps' (6 * m + f) 0 ≡ r
  pop_here = get_or-set_same ps (6 * m + f) r 0 pop_in_2

  pub pop_found : part (6 * m) (6 * m + (f + 1)) ps' ≡ part (6 * m) (6 * m + f) ws ++ (r ∷ [])
  pop_found =
      let e : 6 * m + (f + 1) ≡ 6 * m + f + 1 = omega arith in
      let b : part (6 * m) (6 * m + f) ps' ≡ part (6 * m) (6 * m + f) ws =
      part_before (6 * m) (6 * m + f) (frame_set (6 * m + f) (7 * m) (6 * m + f) r ps (omega arith) (omega arith)) (omega arith) (omega arith)
      ∙ part-after (6 * m) (6 * m + f) (frame_set (5 * m) (6 * m) (5 * m + (top - 1)) 0 ws (omega arith) (omega (arith, W.fits))) (omega arith) in
      rw (e, part_snoc (6 * m) (6 * m + f) ps' (omega arith) (rw pop_length (omega (arith, p_len))), b, pop_here) refl

  pub pop_is : Popped m top f r ws ps'
  pop_is = record { waited = pop_waited; recs = pop_recs; found = pop_found }

  pub pop_waiting : Waiting m (top - 1) ps'
  unfolding ahead
  pop_waiting = record {
    held = held_spare m W.held pop_frame (omega arith) (omega arith) pop_length;
    fits = omega (arith, W.fits);
    room = rw (pop_recs, length-stack_at ps' (5 * m) (top - 1)) (omega (arith, W.room, length-stack_at ws (5 * m) top));
    waits = λ x g. rw (get_or-set_other ps (6 * m + f) (5 * m + x) r 0 (λ e. omega (arith, W.fits)) ∙ get_or-set_other ws (5 * m + (top - 1)) (5 * m + x) 0 0 (λ e. omega arith)) (W.waits x (omega arith));
    blank = λ x g j. get_or-set_other ps (6 * m + f) (5 * m + x) r 0 (λ e. omega (arith, W.fits)) ∙ elim (ℕ_discrete x (top - 1)) [
      | yes e ↦ rw e (get_or-set_same ws (5 * m + (top - 1)) 0 0 pop_in)
      | no e ↦ get_or-set_other ws (5 * m + (top - 1)) (5 * m + x) 0 0 (λ q. e (omega arith)) ∙ W.blank x (omega arith) j
    ];
  }

  pub pop_more : Found m (f + 1) ps'
  pop_more = record {
    found = λ x g. elim (ℕ_discrete x f) [ yes e ↦ rw (e, pop_here) pop_below | no e ↦ rw (pop_same x e) (D.found x (omega arith)) ];
    blank = λ x g j. pop_same x (λ e. omega arith) ∙ D.blank x (omega arith) j;
  }

-- ---- the turns

pub record Turn (m : ℕ) (ws₀ ws : List ℕ) (top f : ℕ) : Type 0 where
  pub fuel : ℕ
  pub enough : ahead (stack_at ws (5 * m) top) (recs_of ws m) ≤ fuel
  pub room : f + ahead (stack_at ws (5 * m) top) (recs_of ws m) ≤ m
  pub same : gather (suc m) (stack_at ws₀ (5 * m) 1) (recs_of ws₀ m) [] ≡ gather fuel (stack_at ws (5 * m) top) (recs_of ws m) (part (6 * m) (6 * m + f) ws)

pub turn-start : (m : ℕ) (ws : List ℕ) → Waiting m 1 ws → Turn m ws ws 1 0
turn-start m ws W = record {
  fuel = suc m;
  enough = omega (arith, W.room);
  room = omega (arith, W.room);
  same = ap (gather (suc m) (stack_at ws (5 * m) 1) (recs_of ws m)) (sym (part_none (6 * m) (6 * m + 0) ws (omega arith)));
}

ahead_cons : (r : ℕ) (is : List ℕ) (rs : List Rec) → ahead (r ∷ is) rs ≡ suc (ahead is rs)
unfolding ahead
ahead_cons r is rs = omega arith

gather-turn : (k r : ℕ) (is : List ℕ) (rs : List Rec) (found : List ℕ) (g : Gather) → reach (at rs r).list (record { todo = is; recs = rs; found = found ++ (r ∷ []) }) ≡ g
    → gather (suc k) (r ∷ is) rs found ≡ gather k g.todo g.recs g.found
unfolding gather
gather-turn k r is rs found g e = ap (λ (q : Gather). gather k q.todo q.recs q.found) e

list_at_lem : (ws : List ℕ) (m r : ℕ) → r < m → (at (recs_of ws m) r).list ≡ list_at ws m (7 * m) r
unfolding rec_at
list_at_lem ws m r h = ap (λ (q : Rec). q.list) (recs_at ws m r h)

turn_by : (m fuel r n f : ℕ) (all g : Gather) (is : List ℕ) (rs : List Rec) (found : List ℕ) → all ≡ gather fuel (r ∷ is) rs found → ahead (r ∷ is) rs ≤ fuel
    → reach (at rs r).list (record { todo = is; recs = rs; found = found ++ (r ∷ []) }) ≡ g → (k : ℕ) × (all ≡ gather k g.todo g.recs g.found) × (ahead is rs ≤ k)
turn_by m zero r n f all g is rs found e h q = absurd (omega (arith, ahead_cons r is rs))
turn_by m (suc k) r n f all g is rs found e h q = (k, e ∙ gather-turn k r is rs found g q, omega (arith, ahead_cons r is rs))

module _ (m top f r n : ℕ) (ws₀ ws ws₁ ws₂ : List ℕ) (T : Turn m ws₀ ws top f) (P : Popped m top f r ws ws₁) (h : r < m)
    (q : (f : ℕ) → group_at ws₂ m n f ≡ reach (list_at ws₁ m (7 * m) r) (group_at ws₁ m (top - 1) f)) where
  group_is : group_at ws₁ m (top - 1) (f + 1) ≡ record { todo = stack_at ws₁ (5 * m) (top - 1); recs = recs_of ws m; found = part (6 * m) (6 * m + f) ws ++ (r ∷ []) }
  unfolding group_at
  group_is = group_eq _ _ _ _ _ _ refl P.recs P.found

  reached : reach (at (recs_of ws m) r).list (record { todo = stack_at ws₁ (5 * m) (top - 1); recs = recs_of ws m; found = part (6 * m) (6 * m + f) ws ++ (r ∷ []) }) ≡ group_at ws₂ m n (f + 1)
  reached =
      ap (reach (at (recs_of ws m) r).list) (sym group_is) ∙ ap (λ (l : List ℕ). reach l (group_at ws₁ m (top - 1) (f + 1))) (ap (λ (rs : List Rec). (at rs r).list) (sym P.recs) ∙ list_at_lem ws₁ m r h)
      ∙ sym (q (f + 1))

  -- one of those that waited is gone
  turn_ahead : suc (ahead (stack_at ws₂ (5 * m) n) (recs_of ws₂ m)) ≡ ahead (stack_at ws (5 * m) top) (recs_of ws m)
  unfolding group_at
  turn_ahead =
      ap suc (ap (λ (g : Gather). ahead g.todo g.recs) (sym reached) ∙ reach_ahead (at (recs_of ws m) r).list _)
      ∙ sym (ap (λ (l : List ℕ). ahead l (recs_of ws m)) P.waited ∙ ahead_cons r (stack_at ws₁ (5 * m) (top - 1)) (recs_of ws m))

  pub turn_falls : ahead (stack_at ws₂ (5 * m) n) (recs_of ws₂ m) < ahead (stack_at ws (5 * m) top) (recs_of ws m)
  turn_falls = omega (arith, turn_ahead)

  pub turn_go : Turn m ws₀ ws₂ n (f + 1)
  unfolding group_at
  turn_go =
      let w = P.waited in
      let b = turn_by m T.fuel r n f _ (group_at ws₂ m n (f + 1)) (stack_at ws₁ (5 * m) (top - 1)) (recs_of ws m) (part (6 * m) (6 * m + f) ws)
      (T.same ∙ ap (λ (l : List ℕ). gather T.fuel l (recs_of ws m) (part (6 * m) (6 * m + f) ws)) w) (rw w at T.enough) reached in
      record {
        fuel = b.0;
        enough = omega (arith, b.2, turn_ahead, ap (λ (l : List ℕ). ahead l (recs_of ws m)) w, ahead_cons r (stack_at ws₁ (5 * m) (top - 1)) (recs_of ws m));
        room = omega (arith, T.room, turn_ahead);
        same = b.1;
      }

gather_none : (k : ℕ) (rs : List Rec) (found : List ℕ) → gather k [] rs found ≡ record { todo = []; recs = rs; found = found }
unfolding gather
gather_none zero rs found = refl
gather_none (suc k) rs found = refl

pub turn_done : (m f top : ℕ) (ws₀ ws : List ℕ) → Turn m ws₀ ws top f → top ≤ 0 → group_at ws m 0 f ≡ gather (suc m) (stack_at ws₀ (5 * m) 1) (recs_of ws₀ m) []
unfolding group_at stack_at
turn_done m f top ws₀ ws T h = let e : top ≡ 0 = omega arith in sym ((rw e at T.same) ∙ gather_none T.fuel (recs_of ws m) (part (6 * m) (6 * m + f) ws))

pub turn_room : (m f top : ℕ) (ws₀ ws : List ℕ) → Turn m ws₀ ws top f → 0 < top → f < m
unfolding ahead
turn_room m f top ws₀ ws T h = omega (arith, T.room, length-stack_at ws (5 * m) top)

pub turn_most : (m f top : ℕ) (ws₀ ws : List ℕ) → Turn m ws₀ ws top f → f ≤ m
turn_most m f top ws₀ ws T = omega (arith, T.room)

pub turn_frame : (m : ℕ) (ws₀ ws ws₁ ws₂ : List ℕ) → Frame (4 * m) (7 * m) ws₀ ws → Frame (5 * m) (7 * m) ws ws₁ → Frame (4 * m) (6 * m) ws₁ ws₂ → Frame (4 * m) (7 * m) ws₀ ws₂
turn_frame m ws₀ ws ws₁ ws₂ f g h = frame_then f (frame_then (frame_wider (4 * m) (7 * m) g (omega arith) (omega arith)) (frame_wider (4 * m) (7 * m) h (omega arith) (omega arith)))

pub found_kept : (m f : ℕ) (ws ws' : List ℕ) → Found m f ws → Frame (4 * m) (6 * m) ws ws' → Found m f ws'
found_kept m f ws ws' D fr = record {
  found = λ x g. rw (get_d_after (6 * m + x) fr (omega arith)) (D.found x g);
  blank = λ x g j. get_d_after (6 * m + x) fr (omega arith) ∙ D.blank x g j;
}

pub none_waits : (m top : ℕ) (ws : List ℕ) → Waiting m top ws → top ≤ 0 → Waiting m 0 ws
none_waits m top ws W h = let e : top ≡ 0 = omega arith in rw e at W
