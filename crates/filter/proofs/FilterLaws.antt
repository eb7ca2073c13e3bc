-- The filter's loop: a record's turn is the group's, and leaves the spare columns as they were.
-- The group's total and lists are read after the gathering, which writes neither counts nor lists.
use Prim.Native.Nat.{ℕ, suc, ◌+◌, ◌-◌, ◌*◌, ◌≤◌, ◌<◌}
use native.Mathlib.Omega.{arith}
use native.Mathlib.Decide.{dec_lt}
use native.Mathlib.Numerals.{add-one}
use mathlib.Core.Path.{◌≡◌, refl, sym, ap, ◌∙◌}
use mathlib.Core.Bool.{Bool, true, false, not}
use mathlib.Core.Logic.{⊎_elim}
use mathlib.Core.List.{List, [], ◌∷◌}
use lib.ListN.{length, get_or, set, drop, length-drop, get_or-eq_default}
use lib.Seq.{ext_get_or, get_or-drop}
use lib.Dec.{eqb}
use borrow.Author.Tests.{eq-eqb, ne_eqb}
use Rattle.rules.specs.Base.{◌and◌, ◌or◌, when◌then◌else◌, any, upto}
use Rattle.rules.specs.Records.{Rec, fresh, at}
use Rattle.rules.specs.Filter.{seen, Gather, gather, total, remove_all, filter_one, filtered}
use Rattle.rules.specs.Reasons.{group_count, gone_with}
use Rattle.laws.proofs.Basics.{upto_next}
use Rattle.space.specs.Space.{Frame, stack_at}
use Rattle.space.proofs.Laws.{cases, frame_then, frame_wider, get_or_before, get_d_after}
use Rattle.table.specs.View.{part, rec_at, recs_of, Held}
use Rattle.table.proofs.ViewLaws.{list_past, recs_length, recs_at}
use Rattle.filter.specs.Group.{group_at, any_flagged, small, remove_small, filter_group, turn_count, Waiting, Found, Calm}

-- ---- records that agree in counts and lists

pub record Like (rs rs' : List Rec) : Type 0 where
  pub count : (j : ℕ) → (at rs' j).count ≡ (at rs j).count
  pub list : (j : ℕ) → (at rs' j).list ≡ (at rs j).list

total_like : (rs rs' : List Rec) → Like rs rs' → (l : List ℕ) → total rs' l ≡ total rs l
unfolding total
total_like rs rs' s [] = refl
total_like rs rs' s (i ∷ l) = rw (s.count i, total_like rs rs' s l)

flagged_like : (rs rs' : List Rec) → Like rs rs' → (l : List ℕ) → any_flagged rs' l ≡ any_flagged rs l
unfolding any_flagged any
flagged_like rs rs' s [] = refl
flagged_like rs rs' s (i ∷ l) = rw (s.list i, flagged_like rs rs' s l)

small_like : (least : ℕ) (rs rs' : List Rec) → Like rs rs' → (l : List ℕ) → small least rs' l ≡ small least rs l
unfolding small
small_like least rs rs' s l = rw (total_like rs rs' s l, flagged_like rs rs' s l)

outside : (ws : List ℕ) (m j : ℕ) → m ≤ j → at (recs_of ws m) j ≡ fresh 0
unfolding at
outside ws m j h = get_or-eq_default (recs_of ws m) (fresh 0) (rw (recs_length ws m) h)

like_gathered : (ws ws' : List ℕ) (m : ℕ) → Held m (7 * m) (11 * m) ws → Frame (4 * m) (7 * m) ws ws' → length ws' ≡ length ws → Like (recs_of ws m) (recs_of ws' m)
unfolding rec_at
like_gathered ws ws' m H f l = record {
  count = λ j. elim (dec_lt j m) [
    | yes g ↦ ap (λ (r : Rec). r.count) (recs_at ws' m j g) ∙ get_or_before (m + j) f (omega arith) ∙ ap (λ (r : Rec). r.count) (sym (recs_at ws m j g))
    | no g ↦ ap (λ (r : Rec). r.count) (outside ws' m j (omega arith) ∙ sym (outside ws m j (omega arith)))
  ];
  list = λ j. elim (dec_lt j m) [
    | yes g ↦ ap (λ (r : Rec). r.list) (recs_at ws' m j g) ∙ list_past m (7 * m) H.lists f (omega arith) l j g ∙ ap (λ (r : Rec). r.list) (sym (recs_at ws m j g))
    | no g ↦ ap (λ (r : Rec). r.list) (outside ws' m j (omega arith) ∙ sym (outside ws m j (omega arith)))
  ];
}

-- ---- a record's turn

skips : (a b c : Bool) (x y : List Rec) → (a ≡ true) → x ≡ (when a or b or c then x else y)
unfolding ◌or◌ when◌then◌else◌
skips a b c x y e = rw e

skips_2 : (a b c : Bool) (x y : List Rec) → a ≡ false → b ≡ true → x ≡ (when a or b or c then x else y)
unfolding ◌or◌ when◌then◌else◌
skips_2 a b c x y e f = rw (e, f)

skips_3 : (a b c : Bool) (x y : List Rec) → a ≡ false → b ≡ false → c ≡ true → x ≡ (when a or b or c then x else y)
unfolding ◌or◌ when◌then◌else◌
skips_3 a b c x y e f g = rw (e, f, g)

goes : (a b c : Bool) (x y z : List Rec) → a ≡ false → b ≡ false → c ≡ false → z ≡ y → z ≡ (when a or b or c then x else y)
unfolding ◌or◌ when◌then◌else◌
goes a b c x y z e f g q = rw (e, f, g) q

module _ (ws : List ℕ) (m least i : ℕ) (h : i < m) where
  id_is : (at (recs_of ws m) i).id ≡ get_or ws i 0
  unfolding rec_at
  id_is = ap (λ (r : Rec). r.id) (recs_at ws m i h)

  count_is : (at (recs_of ws m) i).count ≡ get_or ws (m + i) 0
  unfolding rec_at
  count_is = ap (λ (r : Rec). r.count) (recs_at ws m i h)

  visited_is : (at (recs_of ws m) i).visited ≡ not (eqb (get_or ws (4 * m + i) 0) 0)
  unfolding rec_at
  visited_is = ap (λ (r : Rec). r.visited) (recs_at ws m i h)

  pub one_dead : get_or ws i 0 ≡ 0 → recs_of ws m ≡ filter_one least i (recs_of ws m)
  unfolding filter_one
  one_dead e = skips _ _ _ _ _ (eq-eqb _ 0 (id_is ∙ e))

  module _ (n : get_or ws i 0 ≡ 0 → ⊥) where
    live : eqb (at (recs_of ws m) i).id 0 ≡ false
    live = ne_eqb _ 0 (λ e. n (sym id_is ∙ e))

    pub one_empty : get_or ws (m + i) 0 ≡ 0 → recs_of ws m ≡ filter_one least i (recs_of ws m)
    unfolding filter_one
    one_empty e = skips_2 _ _ _ _ _ live (eq-eqb _ 0 (count_is ∙ e))

    module _ (p : get_or ws (m + i) 0 ≡ 0 → ⊥) where
      some : eqb (at (recs_of ws m) i).count 0 ≡ false
      some = ne_eqb _ 0 (λ e. p (sym count_is ∙ e))

      pub one_visited : (get_or ws (4 * m + i) 0 ≡ 0 → ⊥) → recs_of ws m ≡ filter_one least i (recs_of ws m)
      unfolding filter_one
      one_visited e = skips_3 _ _ _ _ _ live some (visited_is ∙ rw (ne_eqb (get_or ws (4 * m + i) 0) 0 e) refl)

      pub one_group : get_or ws (4 * m + i) 0 ≡ 0 → (ws' : List ℕ) → recs_of ws' m ≡ filter_group least i (recs_of ws m) → recs_of ws' m ≡ filter_one least i (recs_of ws m)
      unfolding filter_one filter_group small any_flagged
      one_group v ws' e = goes _ _ _ _ _ _ live some (visited_is ∙ rw (eq-eqb (get_or ws (4 * m + i) 0) 0 v) refl) e

-- ---- the group's count, as a record's turn gives it

skips_count : (a b c : Bool) (x : ℕ) → a or b or c ≡ true → 0 ≡ (when a or b or c then 0 else x)
unfolding when◌then◌else◌
skips_count a b c x e = rw e

or-first : (a b c : Bool) → a ≡ true → a or b or c ≡ true
unfolding ◌or◌
or-first a b c e = rw e

or-second : (a b c : Bool) → a ≡ false → b ≡ true → a or b or c ≡ true
unfolding ◌or◌
or-second a b c e f = rw (e, f)

or_third : (a b c : Bool) → a ≡ false → b ≡ false → c ≡ true → a or b or c ≡ true
unfolding ◌or◌
or_third a b c e f g = rw (e, f, g)

goes_count : (a b c : Bool) (x z : ℕ) → a ≡ false → b ≡ false → c ≡ false → z ≡ x → z ≡ (when a or b or c then 0 else x)
unfolding ◌or◌ when◌then◌else◌
goes_count a b c x z e f g q = rw (e, f, g) q

module _ (ws : List ℕ) (m i : ℕ) (h : i < m) where
  pub count_dead : get_or ws i 0 ≡ 0 → 0 ≡ turn_count i (recs_of ws m)
  unfolding turn_count
  count_dead e = skips_count _ _ _ _ (or-first _ _ _ (eq-eqb _ 0 (id_is ws m 0 i h ∙ e)))

  pub count_empty : (get_or ws i 0 ≡ 0 → ⊥) → get_or ws (m + i) 0 ≡ 0 → 0 ≡ turn_count i (recs_of ws m)
  unfolding turn_count
  count_empty n e = skips_count _ _ _ _ (or-second _ _ _ (live ws m 0 i h n) (eq-eqb _ 0 (count_is ws m 0 i h ∙ e)))

  pub count_visited : (get_or ws i 0 ≡ 0 → ⊥) → (get_or ws (m + i) 0 ≡ 0 → ⊥) → (get_or ws (4 * m + i) 0 ≡ 0 → ⊥) → 0 ≡ turn_count i (recs_of ws m)
  unfolding turn_count
  count_visited n p e = skips_count _ _ _ _ (or_third _ _ _ (live ws m 0 i h n) (some ws m 0 i h n p) (visited_is ws m 0 i h ∙ rw (ne_eqb (get_or ws (4 * m + i) 0) 0 e) refl))

  pub count_group : (get_or ws i 0 ≡ 0 → ⊥) → (get_or ws (m + i) 0 ≡ 0 → ⊥) → get_or ws (4 * m + i) 0 ≡ 0 → (k : ℕ) → k ≡ group_count i (recs_of ws m) → k ≡ turn_count i (recs_of ws m)
  unfolding turn_count
  count_group n p v k e = goes_count _ _ _ _ _ (live ws m 0 i h n) (some ws m 0 i h n p) (visited_is ws m 0 i h ∙ rw (eq-eqb (get_or ws (4 * m + i) 0) 0 v) refl) e

-- ---- a group: entered, gathered, judged, forgotten

group_found : (ws : List ℕ) (m f : ℕ) → record { todo = (group_at ws m 0 f).todo; recs = (group_at ws m 0 f).recs; found = part (6 * m) (6 * m + f) ws } ≡ group_at ws m 0 f
unfolding group_at
group_found ws m f = refl

module _ (ws ws₁ ws₂ ws₃ ws₄ : List ℕ) (m least i f : ℕ) (C : Calm m ws) (l₁ : length ws₁ ≡ length ws) (l₂ : length ws₂ ≡ length ws₁)
    (f₁ : Frame (4 * m) (6 * m) ws ws₁) (f₂ : Frame (4 * m) (7 * m) ws₁ ws₂)
    (g₁ : group_at ws₁ m 1 0 ≡ record { todo = i ∷ []; recs = set (recs_of ws m) i (seen (at (recs_of ws m) i)); found = [] })
    (g₂ : group_at ws₂ m 0 f ≡ gather (suc m) (stack_at ws₁ (5 * m) 1) (recs_of ws₁ m) [])
    (r₃ : recs_of ws₃ m ≡ remove_small least (recs_of ws₂ m) (part (6 * m) (6 * m + f) ws₂)) (r₄ : recs_of ws₄ m ≡ recs_of ws₃ m) where
  group_is : group_at ws₂ m 0 f ≡ gather (suc (length (recs_of ws m))) (i ∷ []) (set (recs_of ws m) i (seen (at (recs_of ws m) i))) []
  unfolding group_at
  group_is =
      g₂ ∙ ap (λ (l : List ℕ). gather (suc m) l (recs_of ws₁ m) []) (ap (λ (q : Gather). q.todo) g₁)
      ∙ ap (λ (rs : List Rec). gather (suc m) (i ∷ []) rs []) (ap (λ (q : Gather). q.recs) g₁)
      ∙ ap (λ (k : ℕ). gather (suc k) (i ∷ []) (set (recs_of ws m) i (seen (at (recs_of ws m) i))) []) (sym (recs_length ws m))

  judged : recs_of ws₄ m ≡ (when small least (recs_of ws m) (group_at ws₂ m 0 f).found then remove_all (group_at ws₂ m 0 f).found (group_at ws₂ m 0 f).recs else (group_at ws₂ m 0 f).recs)
  unfolding group_at remove_small
  judged =
      r₄ ∙ r₃ ∙ ap (λ (b : Bool). when b then remove_all (part (6 * m) (6 * m + f) ws₂) (recs_of ws₂ m) else recs_of ws₂ m)
      (small_like least (recs_of ws m) (recs_of ws₂ m)
      (like_gathered ws ws₂ m C.held (frame_then (frame_wider (4 * m) (7 * m) f₁ (omega arith) (omega arith)) f₂) (l₂ ∙ l₁)) (part (6 * m) (6 * m + f) ws₂))

  pub group_done : recs_of ws₄ m ≡ filter_group least i (recs_of ws m)
  unfolding filter_group
  group_done = judged ∙ ap (λ (q : Gather). when small least (recs_of ws m) q.found then remove_all q.found q.recs else q.recs) group_is

  pub group_count_lem : (k : ℕ) → k ≡ total (recs_of ws₂ m) (part (6 * m) (6 * m + f) ws₂) → k ≡ group_count i (recs_of ws m)
  unfolding group_count
  group_count_lem k e =
      e ∙ total_like (recs_of ws m) (recs_of ws₂ m)
      (like_gathered ws ws₂ m C.held (frame_then (frame_wider (4 * m) (7 * m) f₁ (omega arith) (omega arith)) f₂) (l₂ ∙ l₁)) (part (6 * m) (6 * m + f) ws₂)
      ∙ ap (λ (q : Gather). total (recs_of ws m) q.found) group_as
    where
      group_as : record { todo = (group_at ws₂ m 0 f).todo; recs = (group_at ws₂ m 0 f).recs; found = part (6 * m) (6 * m + f) ws₂ } ≡ gather (suc (length (recs_of ws m))) (i ∷ []) (set (recs_of ws m) i (seen (at (recs_of ws m) i))) []
      group_as = group_found ws₂ m f ∙ group_is

-- what lies past the columns of the records is as it was
calm_frame : (ws ws' : List ℕ) (m : ℕ) → Calm m ws → Calm m ws' → Frame 0 (7 * m) ws ws' → length ws' ≡ length ws → Frame 0 (5 * m) ws ws'
calm_frame ws ws' m C C' f l = record {
  before = refl;
  after = ext_get_or 0 (drop (5 * m) ws') (drop (5 * m) ws) (length-drop (5 * m) ws' ∙ ap (λ (k : ℕ). k - 5 * m) l ∙ sym (length-drop (5 * m) ws)) (λ x _.
      get_or-drop (5 * m) ws' x 0 ∙ elim (dec_lt x (2 * m)) [
        | yes g ↦ C'.blank x g ∙ sym (C.blank x g)
        | no g ↦ get_d_after (5 * m + x) f (omega arith)
      ] ∙ sym (get_or-drop (5 * m) ws x 0));
}

pub turn_frame : (ws ws₁ ws₂ ws₃ ws₄ : List ℕ) (m : ℕ) → Calm m ws → Calm m ws₄ → length ws₁ ≡ length ws → length ws₂ ≡ length ws₁ → length ws₃ ≡ length ws₂ → length ws₄ ≡ length ws₃
    → Frame (4 * m) (6 * m) ws ws₁ → Frame (4 * m) (7 * m) ws₁ ws₂ → Frame 0 (2 * m) ws₂ ws₃ → Frame (5 * m) (7 * m) ws₃ ws₄ → Frame 0 (5 * m) ws ws₄
turn_frame ws ws₁ ws₂ ws₃ ws₄ m C C' l₁ l₂ l₃ l₄ f₁ f₂ f₃ f₄ =
    calm_frame ws ws₄ m C C'
    (frame_then (frame_wider 0 (7 * m) f₁ (omega arith) (omega arith)) (frame_then (frame_wider 0 (7 * m) f₂ (omega arith) (omega arith))
    (frame_then (frame_wider 0 (7 * m) f₃ (omega arith) (omega arith)) (frame_wider 0 (7 * m) f₄ (omega arith) (omega arith)))))
    (l₄ ∙ l₃ ∙ l₂ ∙ l₁)

-- those found are still there, and none waits
pub found_after : (ws ws' : List ℕ) (m f : ℕ) → Found m f ws → Frame 0 (2 * m) ws ws' → Found m f ws'
found_after ws ws' m f D fr = record {
  found = λ x g. rw (get_d_after (6 * m + x) fr (omega arith)) (D.found x g);
  blank = λ x g j. get_d_after (6 * m + x) fr (omega arith) ∙ D.blank x g j;
}

pub blank-after : (ws ws' : List ℕ) (m : ℕ) → Frame 0 (2 * m) ws ws' → Waiting m 0 ws → (x : ℕ) → x < m → get_or ws' (5 * m + x) 0 ≡ 0
blank-after ws ws' m fr W x h = get_d_after (5 * m + x) fr (omega arith) ∙ W.blank x (omega arith) h

-- ---- all records

pub filter_go : (least m i : ℕ) (ws₀ ws ws' : List ℕ) → recs_of ws m ≡ upto i (filter_one least) (recs_of ws₀ m) → recs_of ws' m ≡ filter_one least i (recs_of ws m)
    → recs_of ws' m ≡ upto (i + 1) (filter_one least) (recs_of ws₀ m)
filter_go least m i ws₀ ws ws' e q = q ∙ ap (filter_one least i) e ∙ sym (upto_next i (filter_one least) (recs_of ws₀ m))

pub filter-start : (least m : ℕ) (ws : List ℕ) → recs_of ws m ≡ upto 0 (filter_one least) (recs_of ws m)
unfolding upto
filter-start least m ws = refl

pub filter_done : (least m i : ℕ) (ws₀ ws : List ℕ) → i ≤ m → m ≤ i → recs_of ws m ≡ upto i (filter_one least) (recs_of ws₀ m) → recs_of ws m ≡ filtered least (recs_of ws₀ m)
unfolding filtered
filter_done least m i ws₀ ws h g e = let q : i ≡ length (recs_of ws₀ m) = rw (recs_length ws₀ m) (omega arith) in e ∙ ap (λ (k : ℕ). upto k (filter_one least) (recs_of ws₀ m)) q

-- ---- the group with which one record is gone

skips_turn : (a b c : Bool) (x y : List Rec) → a or b or c ≡ true → (when a or b or c then x else y) ≡ x
unfolding when◌then◌else◌
skips_turn a b c x y e = rw e

-- a record whose turn is passed by changes nothing
turn_skipped : (least i : ℕ) (rs : List Rec) → eqb (at rs i).id 0 or eqb (at rs i).count 0 or (at rs i).visited ≡ true → filter_one least i rs ≡ rs
unfolding filter_one
turn_skipped least i rs e = skips_turn _ _ _ _ _ e

turn-counted : (i : ℕ) (rs : List Rec) → eqb (at rs i).id 0 or eqb (at rs i).count 0 or (at rs i).visited ≡ false → turn_count i rs ≡ group_count i rs
unfolding turn_count when◌then◌else◌
turn-counted i rs e = rw e

never_both : (e : Bool) (x y : ℕ) → (when not e and e then x else y) ≡ y
unfolding ◌and◌ when◌then◌else◌
never_both true x y = refl
never_both false x y = refl

-- a record's turn that takes record r's id is one that is not passed by
gone_count : (least r i : ℕ) (rs : List Rec) (told : ℕ)
    → (when not (eqb (at rs r).id 0) and eqb (at (filter_one least i rs) r).id 0 then turn_count i rs else told)
    ≡ (when not (eqb (at rs r).id 0) and eqb (at (filter_one least i rs) r).id 0 then group_count i rs else told)
gone_count least r i rs told = ⊎_elim
    (λ (e : skip ≡ true). rw (turn_skipped least i rs e) (never_both (eqb (at rs r).id 0) (turn_count i rs) told ∙ sym (never_both (eqb (at rs r).id 0) (group_count i rs) told)))
    (λ (e : skip ≡ false). rw (turn-counted i rs e)) (cases skip)
  where
    skip : Bool
    skip = eqb (at rs i).id 0 or eqb (at rs i).count 0 or (at rs i).visited

pub gone_start : (least r m : ℕ) (ws : List ℕ) → 0 ≡ gone_with least r 0 (recs_of ws m)
unfolding gone_with
gone_start least r m ws = refl

gone_next : (least r i : ℕ) (rs rs₀ : List Rec) (told told' : ℕ) → rs ≡ upto i (filter_one least) rs₀ → told ≡ gone_with least r i rs₀
    → told' ≡ (when not (eqb (at rs r).id 0) and eqb (at (filter_one least i rs) r).id 0 then turn_count i rs else told) → told' ≡ gone_with least r (i + 1) rs₀
unfolding gone_with
gone_next least r i rs rs₀ told told' e t q = rw add-one (q ∙ gone_count least r i rs told ∙ rw (e, t))

pub gone_go : (least r m i : ℕ) (ws₀ ws ws' : List ℕ) (told told' count : ℕ) → r < m → recs_of ws m ≡ upto i (filter_one least) (recs_of ws₀ m) → recs_of ws' m ≡ filter_one least i (recs_of ws m)
    → told ≡ gone_with least r i (recs_of ws₀ m) → count ≡ turn_count i (recs_of ws m)
    → told' ≡ (when not (eqb (get_or ws r 0) 0) and eqb (get_or ws' r 0) 0 then count else told) → told' ≡ gone_with least r (i + 1) (recs_of ws₀ m)
gone_go least r m i ws₀ ws ws' told told' count h e f t c q =
    gone_next least r i (recs_of ws m) (recs_of ws₀ m) told told' e t (q ∙ rw (← f, id_is ws m 0 r h, id_is ws' m 0 r h, c))

pub gone_done : (least r m i : ℕ) (ws₀ : List ℕ) (told : ℕ) → i ≤ m → m ≤ i → told ≡ gone_with least r i (recs_of ws₀ m) → told ≡ gone_with least r m (recs_of ws₀ m)
gone_done least r m i ws₀ told h g e = let q : i ≡ m = omega arith in rw q at e
