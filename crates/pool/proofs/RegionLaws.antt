-- One merge is the rule's: the lists as `relist` leaves them, the counts added, the ids renamed, the marks carried; nothing else of the records changes.
-- What is listed stays below m: an entry of a new list is one of the old ones, or the absorber.
use Prim.Native.Nat.{ℕ, suc, ◌+◌, ◌*◌, ◌≤◌, ◌<◌}
use native.Mathlib.Omega.{arith}
use native.Mathlib.Decide.{ℕ_discrete}
use native.Mathlib.Nat.{mul-le-mul_right}
use mathlib.Core.Path.{◌≡◌, refl, sym, ap, ◌∙◌}
use mathlib.Core.Logic.{⊎_elim, ◌⊎◌, inl, inr}
use mathlib.Core.Bool.{true, not, false≢true}
use mathlib.Core.List.{List, [], ◌∷◌, ◌++◌, map}
use lib.ListN.{length, get_or, set, length-set, length-map}
use lib.Seq.{get_or-set_same, get_or-set_other}
use lib.Dec.{eqb}
use borrow.Author.Tests.{ne_eqb}
use Rattle.rules.specs.Base.{◌or◌, when◌then◌else◌, any}
use Rattle.rules.specs.Records.{Rec, at, has}
use Rattle.rules.specs.Merge.{place, around, tidy, emptied}
use Rattle.laws.proofs.Basics.{if-ind}
use Rattle.laws.proofs.Sums.{sum_same}
use Rattle.laws.proofs.MergeEnds.{at_map}
use Rattle.space.specs.Space.{Frame}
use Rattle.space.proofs.Laws.{get_or_before, get_d_after, frame_then, frame_set, frame_wider}
use Rattle.table.specs.View.{start_of, end_of, list_at, rec_at, view, recs_of, Parts, Under, Held}
use Rattle.table.proofs.ViewLaws.{view-length, view-at, view_by, rec_eq, list_same, list_length, wide-same, list_past, parts_past}
use Rattle.pool.specs.Lists.{swap_one}
use Rattle.pool.specs.Part.{renamed_list}
use Rattle.pool.specs.Fixed.{renamed_f, absorbed_f, merged_pair}
use Rattle.pool.specs.Bearers.{Bearers, Joining, Owners}
use Rattle.pool.specs.Links.{LinksPast}
use Rattle.pool.specs.Pool.{len_at, count_at, new_list, joined_list, remarked, Halves, Pool, Laid, Listed, Outside, Sides, Relisted, Remarked}
use Rattle.pool.proofs.FloorLaws.{swap_has, swap_old, swap_other, has-at}
use Rattle.pool.proofs.MergeLaws.{has_some, tidy-has, append-has, around-has, ren_f_id, ren_f_count, ren_f_area, ren_f_visited, ren_f_overlap, ren_f_floors, ren_f_cut, ren_f_new_list, ren_f_fresh, at_i, at_n, at_else}
use Rattle.pool.proofs.BearerLaws.{bearers_same}
use Rattle.pool.proofs.MentionLaws.{none_of, none_new, mentions_via}
use Rattle.pool.proofs.OwnLaws.{halves-same, halves-turn}
use Rattle.pool.proofs.SumLaws.{sum_split, sum-two}
use Rattle.pool.proofs.MarkLaws.{remarked_is, marked_lists, marked_floors, marked_pool, marked_laid}

-- ---- what is listed

under_has : (m : ℕ) (l : List ℕ) → Under m l → (v : ℕ) → has l v ≡ true → v < 32768 → v < m
unfolding any
under_has m [] u v h g = absurd (false≢true h)
under_has m (y ∷ l) u v h g =
    ⊎_elim (λ (e : v ≡ y). rw e (u.under 0 (omega arith) (rw e at g)))
    (λ (e : has l v ≡ true). under_has m l (record { under = λ x k. u.under (suc x) (omega arith) }) v e g) (has_some y l v h)

has_under : (m : ℕ) (l : List ℕ) → ((v : ℕ) → has l v ≡ true → v < 32768 → v < m) → Under m l
has_under m l h = record { under = λ x k g. h (get_or l x 0) (has-at l x k) g }

swap_under : (m old new : ℕ) (l : List ℕ) → Under m l → new < m → Under m (map (swap_one old new) l)
unfolding swap_one
swap_under m old new l u n = has_under m _ (λ v h g.
    let w = swap_has old new l v h in
    elim (ℕ_discrete w.0 old) [
      | yes e ↦ let q : new ≡ v = sym (swap_old old new) ∙ ap (swap_one old new) (sym e) ∙ w.2 in rw (← q) n
      | no e ↦ let q : w.0 ≡ v = sym (swap_other old new w.0 e) ∙ w.2 in under_has m l u v (ap (has l) (sym q) ∙ w.1) g
    ])

renamed_under : (m old new : ℕ) (l : List ℕ) → Under m l → new < m → Under m (renamed_list old new l)
unfolding renamed_list
renamed_under m old new l u n =
    if-ind (Under m) (has l old) (λ _. has_under m _ (λ v h g. under_has m _ (swap_under m old new l u n) v (tidy-has (map (swap_one old new) l) v h) g)) (λ _. u)

new_under : (m old new id : ℕ) (l : List ℕ) → Under m l → new < m → Under m (new_list old new id l)
unfolding new_list
new_under m old new id l u n = if-ind (Under m) (eqb id 0) (λ _. u) (λ _. renamed_under m old new l u n)

joined_under : (m k j old new : ℕ) (l l' : List ℕ) → Under m l → Under m l' → new < m → Under m (joined_list l l' k j old new)
unfolding joined_list
joined_under m k j old new l l' u u' n =
    renamed_under m old new _ (has_under m _ (λ v h g.
    ⊎_elim (λ (e : has (around l k) v ≡ true). under_has m l u v (around-has l k v e) g) (λ (e : has (around l' j) v ≡ true). under_has m l' u' v (around-has l' j v e) g)
    (append-has (around l k) (around l' j) v (tidy-has _ v h)))) n

none_under : (m : ℕ) → Under m []
none_under m = record { under = λ x h. absurd (omega arith) }

-- ---- a record renamed, as it lies there

rec_ext : (a b : Rec) → a.id ≡ b.id → a.count ≡ b.count → a.area ≡ b.area → a.visited ≡ b.visited → a.overlap ≡ b.overlap → a.list ≡ b.list → a.floors ≡ b.floors
    → a.cut ≡ b.cut → a ≡ b
rec_ext a b p₁ p₂ p₃ p₄ p₅ p₆ p₇ p₈ = rec_eq a.id b.id a.count b.count a.area b.area a.visited b.visited a.overlap b.overlap a.list b.list a.floors b.floors a.cut b.cut
    p₁ p₂ p₃ p₄ p₅ p₆ p₇ p₈

renamed_rec : (o n : ℕ) → (o ≡ 0 → ⊥) → (a r : Rec) → a.id ≡ swap_one o n r.id → a.count ≡ r.count → a.area ≡ r.area → a.visited ≡ r.visited → a.overlap ≡ r.overlap
    → a.list ≡ new_list o n r.id r.list → a.floors ≡ r.floors → a.cut ≡ r.cut → a ≡ renamed_f o n r
renamed_rec o n z a r p₁ p₂ p₃ p₄ p₅ p₆ p₇ p₈ =
    rec_ext a (renamed_f o n r) (p₁ ∙ sym (ren_f_id o n z r)) (p₂ ∙ sym (ren_f_count o n z r)) (p₃ ∙ sym (ren_f_area o n z r)) (p₄ ∙ sym (ren_f_visited o n z r)) (p₅ ∙ sym (ren_f_overlap o n z r))
    (p₆ ∙ sym (ren_f_new_list o n r)) (p₇ ∙ sym (ren_f_floors o n z r)) (p₈ ∙ sym (ren_f_cut o n z r))

-- ---- the workspace after the counts and the ids are written too

pub record After (m n i old : ℕ) (ws ws' : List ℕ) : Type 0 where
  pub frame : Frame 0 (7 * m) ws ws'
  pub columns : (y : ℕ) → 2 * m ≤ y → y < 6 * m → get_or ws' y 0 ≡ get_or ws y 0
  pub bearers : Bearers m ws'
  pub ids : (x : ℕ) → x < m → get_or ws' x 0 ≡ swap_one old n (get_or ws x 0)
  pub sum : get_or ws' (m + n) 0 ≡ get_or ws (m + n) 0 + get_or ws (m + i) 0
  pub none : get_or ws' (m + i) 0 ≡ 0
  pub counts : (x : ℕ) → x < m → (x ≡ i → ⊥) → (x ≡ n → ⊥) → get_or ws' (m + x) 0 ≡ get_or ws (m + x) 0

-- each of the pair bears its own number
module _ (m p h o n k i j : ℕ) (ws : List ℕ) (P : Pool m p h o ws) (L : Listed m n k i j ws) where
  own_first : get_or ws n 0 ≡ n
  own_first = P.owns n L.pair.first L.live' (λ w. omega (arith, L.pair.lists))

  own_second : get_or ws i 0 ≡ i
  own_second = P.owns i L.pair.second L.live (λ w. omega (arith, L.pair.lists'))

-- the halves, in either order
module _ (m p h o b c : ℕ) (ws : List ℕ) (P : Pool m p h o ws) (W : Sides h o b c) where
  turned-halves : Halves m p b c ws
  turned-halves =
      ⊎_elim (λ (w : (b ≡ h) × (c ≡ o)). rw (w.0, w.1) P.halves) (λ (w : (b ≡ o) × (c ≡ h)). rw (w.0, w.1) (halves-turn m p h o ws P.halves)) W

  turned_floors : (r : ℕ) → r < m → (b + p ≤ start_of ws m (11 * m) r) × (c + p ≤ start_of ws m (11 * m) r)
  turned_floors r g =
      ⊎_elim (λ (w : (b ≡ h) × (c ≡ o)). rw (w.0, w.1) (P.floors r g)) (λ (w : (b ≡ o) × (c ≡ h)). rw (w.0, w.1) ((P.floors r g).1, (P.floors r g).0)) W

module _ (m p h o b c n k i j links : ℕ) (ws ws₁ ws₃ : List ℕ) (P : Pool m p h o ws) (Y : LinksPast m p h o links ws) (W : Sides h o b c) (L : Listed m n k i j ws)
    (R : Relisted m p n k i j (get_or ws i 0) n b c links ws ws₁) (A : After m n i (get_or ws i 0) ws₁ ws₃) (l₁ : length ws₁ ≡ length ws) (l₃ : length ws₃ ≡ length ws₁) where
  abbrev old : ℕ
  old = get_or ws i 0

  hn : n < m
  hn = L.pair.first

  hi : i < m
  hi = L.pair.second

  ne : i ≡ n → ⊥
  ne = L.pair.apart

  own_n : get_or ws n 0 ≡ n
  own_n = own_first m p h o n k i j ws P L

  own_i : old ≡ i
  own_i = own_second m p h o n k i j ws P L

  H : Halves m p b c ws
  H = turned-halves m p h o b c ws P W

  floor_past : (x : ℕ) → x < m → (b + p ≤ start_of ws m (11 * m) x) × (c + p ≤ start_of ws m (11 * m) x)
  floor_past x g = turned_floors m p h o b c ws P W x g

  before_links_lem : 16 * m ≤ links
  before_links_lem = omega (arith, P.halves.past, Y.past)

  kept : (y : ℕ) → 7 * m ≤ y → Outside m b (b + p) y → (y < c) ⊎ (c + p ≤ y) → y < links → get_or ws₃ y 0 ≡ get_or ws y 0
  kept y g w v u = get_d_after y A.frame g ∙ R.kept y w v u

  low : (y : ℕ) → y < 7 * m → get_or ws₁ y 0 ≡ get_or ws y 0
  low y g = R.kept y (inl g, inl (omega (arith, H.past))) (inl (omega (arith, H.past'))) (omega (arith, before_links_lem))

  mid : (y : ℕ) → 2 * m ≤ y → y < 6 * m → get_or ws₃ y 0 ≡ get_or ws y 0
  mid y a b = A.columns y a b ∙ low y (omega arith)

  ids : (x : ℕ) → x < m → get_or ws₃ x 0 ≡ swap_one old n (get_or ws x 0)
  ids x g = A.ids x g ∙ ap (swap_one old n) (low x (omega arith))

  lists_at : (x : ℕ) → x < m → list_at ws₃ m (7 * m) x ≡ list_at ws₁ m (7 * m) x
  lists_at x g = list_past m (7 * m) R.parts A.frame (omega arith) l₃ x g

  high : (y : ℕ) → 11 * m ≤ y → y < 16 * m → get_or ws₃ y 0 ≡ get_or ws y 0
  high y a b = kept y (omega arith) (inr a, inl (omega (arith, H.past))) (inl (omega (arith, H.past'))) (omega (arith, before_links_lem))

  start_f : (x : ℕ) → x < m → start_of ws₃ m (11 * m) x ≡ start_of ws m (11 * m) x
  start_f x g = wide-same ws ws₃ m (11 * m + x) (high (11 * m + x) (omega arith) (omega arith)) (high (11 * m + x + m) (omega arith) (omega arith))

  stop_f : (x : ℕ) → x < m → end_of ws₃ m (11 * m) x ≡ end_of ws m (11 * m) x
  stop_f x g = wide-same ws ws₃ m (11 * m + 2 * m + x) (high (11 * m + 2 * m + x) (omega arith) (omega arith)) (high (11 * m + 2 * m + x + m) (omega arith) (omega arith))

  floors_at_lem : (x : ℕ) → x < m → list_at ws₃ m (11 * m) x ≡ list_at ws m (11 * m) x
  floors_at_lem x g =
      list_same ws ws₃ m (11 * m) x (start_f x g) (stop_f x g) (P.held.floors.order x g) (P.held.floors.within x g) (l₃ ∙ l₁) (λ y a b.
      kept y (omega (arith, (floor_past x g).0, H.past)) (inr (omega (arith, (floor_past x g).0, H.past)), inr (omega (arith, (floor_past x g).0))) (inr (omega (arith, (floor_past x g).1))) (omega (arith, Y.floors x g)))

  -- ---- the pool is in order

  parts₃ : Parts m (7 * m) ws₃
  parts₃ = parts_past m (7 * m) R.parts A.frame (omega arith) l₃

  start_3 : (x : ℕ) → x < m → start_of ws₃ m (7 * m) x ≡ start_of ws₁ m (7 * m) x
  start_3 x g = wide-same ws₁ ws₃ m (7 * m + x) (get_d_after (7 * m + x) A.frame (omega arith)) (get_d_after (7 * m + x + m) A.frame (omega arith))

  stop_3 : (x : ℕ) → x < m → end_of ws₃ m (7 * m) x ≡ end_of ws₁ m (7 * m) x
  stop_3 x g = wide-same ws₁ ws₃ m (7 * m + 2 * m + x) (get_d_after (7 * m + 2 * m + x) A.frame (omega arith)) (get_d_after (7 * m + 2 * m + x + m) A.frame (omega arith))

  len_3 : (x : ℕ) → x < m → len_at ws₃ m x ≡ len_at ws₁ m x
  unfolding len_at
  len_3 x g = rw (start_3 x g, stop_3 x g)

  listed₃ : (x : ℕ) → x < m → Under m (list_at ws₃ m (7 * m) x)
  listed₃ x g = rw (lists_at x g) (elim (ℕ_discrete x i) [
    | yes e ↦ rw (e, R.bare) (none_under m)
    | no e ↦ elim (ℕ_discrete x n) [
      | yes d ↦ rw (d, R.joined) (joined_under m k j old n _ _ (P.held.listed n hn) (P.held.listed i hi) hn)
      | no d ↦ rw (R.others x g e d) (new_under m old n (get_or ws x 0) _ (P.held.listed x g) hn)
    ]
  ])

  held₃ : Held m (7 * m) (11 * m) ws₃
  held₃ = record {
    few = P.held.few;
    lists = parts₃;
    floors = record {
      room = rw (l₃, l₁) P.held.floors.room;
      past = P.held.floors.past;
      order = λ x g. rw (start_f x g, stop_f x g) (P.held.floors.order x g);
      within = λ x g. rw (stop_f x g, l₃, l₁) (P.held.floors.within x g);
      far = λ x g. rw (start_f x g) (P.held.floors.far x g);
    };
    ids = λ x g. rw (ids x g) (elim (ℕ_discrete (get_or ws x 0) old) [
      | yes e ↦ rw (e, swap_old old n) hn
      | no e ↦ rw (swap_other old n (get_or ws x 0) e) (P.held.ids x g)
    ]);
    listed = listed₃;
    floored = λ x g. rw (floors_at_lem x g) (P.held.floored x g);
  }

  -- a list that has something had something
  len_was : (x : ℕ) → x < m → (x ≡ i → ⊥) → (x ≡ n → ⊥) → (len_at ws₃ m x ≡ 0 → ⊥) → len_at ws m x ≡ 0 → ⊥
  unfolding len_at
  len_was x g a d z e =
      let l : list_at ws m (7 * m) x ≡ [] = none_of _ (list_length ws m (7 * m) x P.held.lists g ∙ e) in
      let k : list_at ws₁ m (7 * m) x ≡ [] = R.others x g a d ∙ ap (new_list old n (get_or ws x 0)) l ∙ none_new old n (get_or ws x 0) in
      z (sym (list_length ws₃ m (7 * m) x parts₃ g) ∙ ap length (lists_at x g ∙ k))

  owns₃ : (x : ℕ) → x < m → (get_or ws₃ x 0 ≡ 0 → ⊥) → (len_at ws₃ m x ≡ 0 → ⊥) → get_or ws₃ x 0 ≡ x
  unfolding len_at
  owns₃ x g l z = elim (ℕ_discrete x i) [
    | yes e ↦ let b : list_at ws₁ m (7 * m) x ≡ [] = rw e R.bare in absurd (z (sym (list_length ws₃ m (7 * m) x parts₃ g) ∙ ap length (lists_at x g ∙ b)))
    | no e ↦ elim (ℕ_discrete x n) [
      | yes d ↦ rw d (ids n hn ∙ ap (swap_one old n) own_n ∙ swap_other old n n (λ w. L.other (sym w)))
      | no d ↦
          let o : get_or ws x 0 ≡ x = P.owns x g (λ w. l (ids x g ∙ ap (swap_one old n) w ∙ swap_other old n 0 (λ v. L.live (sym v)))) (len_was x g e d z) in
          ids x g ∙ ap (swap_one old n) o ∙ swap_other old n x (λ w. e (w ∙ own_i))
    ]
  ]

  pub merged_pool : Pool m p b c ws₃
  unfolding count_at
  merged_pool = record {
    held = held₃;
    halves = halves-same m p b c ws ws₃ (l₃ ∙ l₁) H;
    from = λ x g. rw (start_3 x g) (R.from x g);
    upto = λ x g. rw (stop_3 x g) (R.upto x g);
    floors = λ x g. rw (start_f x g) (floor_past x g);
    room = rw (sum_same (len_at ws₃ m) (len_at ws₁ m) m len_3) R.room;
    spans = omega (
      arith,
      P.spans,
      sum-two (count_at ws m) i n m hi hn ne (count_at ws₃ m)
          (λ x g a b. rw (A.counts x g a b, low (m + x) (omega arith)) (omega arith))
          (omega (arith, A.sum, A.none, low (m + n) (omega arith), low (m + i) (omega arith))),
    );
    bearers = A.bearers;
    owns = owns₃;
    blank = λ x g. mid (5 * m + x) (omega arith) (omega arith) ∙ P.blank x g;
  }

  merged_laid : (top : ℕ) → Laid m p b c top links (swap_one old n) ws₁ → Laid m p b c top links (λ y. y) ws₃
  merged_laid top D = record {
    room = record {
      past = D.room.past;
      past' = D.room.past';
      into = rw l₃ D.room.into;
      floors = λ r g. rw (stop_f r g) (Y.floors r g);
    };
    from = D.from;
    upto = D.upto;
    below = λ w x g. rw (stop_3 x g) (D.below w x g);
    apart = λ w. record { apart = λ x y g q d. rw (start_3 x g, stop_3 x g, start_3 y q, stop_3 y q) ((D.apart w).apart x y g q d) };
    mentions = λ w. mentions_via m p c links (swap_one old n) (λ y. y) ws₁ ws₃ (λ y g. A.ids y g)
        (λ y g l e. l (A.ids y g ∙ ap (swap_one old n) e ∙ swap_other old n 0 (λ v. L.live (sym v)))) lists_at
        (λ q g. get_d_after (c + q) A.frame (omega (arith, H.past'))) (λ y g. get_d_after y A.frame (omega (arith, before_links_lem))) (D.mentions w);
  }

  -- ---- the records, with the marks carried too

  mark : (x : ℕ) → x < m → get_or ws₃ (15 * m + x) 0 ≡ get_or ws (15 * m + x) 0
  mark x g = high (15 * m + x) (omega arith) (omega arith)

  module _ (ws₄ : List ℕ) (M : Remarked m n i ws₃ ws₄) where
    four : (y : ℕ) → y < 15 * m → get_or ws₄ y 0 ≡ get_or ws₃ y 0
    four y g = M.kept y (inl g)

    -- a column from the third on
    kept₄ : (k x : ℕ) → 2 ≤ k → k ≤ 4 → x < m → get_or ws₄ (k * m + x) 0 ≡ get_or ws (k * m + x) 0
    kept₄ k x a b g =
        let lo : 2 * m ≤ k * m = mul-le-mul_right m a in
        let hi : k * m ≤ 4 * m = mul-le-mul_right m b in
        four (k * m + x) (omega arith) ∙ mid (k * m + x) (omega arith) (omega arith)

    lists₄ : (x : ℕ) → x < m → list_at ws₄ m (7 * m) x ≡ list_at ws₃ m (7 * m) x
    lists₄ = marked_lists m n i ws₃ ws₄ M p b c merged_pool

    floors₄ : (x : ℕ) → x < m → list_at ws₄ m (11 * m) x ≡ list_at ws₃ m (11 * m) x
    floors₄ = marked_floors m n i ws₃ ws₄ M p b c merged_pool

    abbrev rs : List Rec
    rs = view ws m (7 * m) (11 * m)

    n_in : n < length rs
    n_in = rw (view-length ws m (7 * m) (11 * m)) hn

    i_in : i < length rs
    i_in = rw (view-length ws m (7 * m) (11 * m)) hi

    at_rs : (x : ℕ) → x < m → at rs x ≡ rec_at ws m (7 * m) (11 * m) x
    at_rs x g = view-at ws m (7 * m) (11 * m) x g

    rec_else : (x : ℕ) → x < m → (x ≡ i → ⊥) → (x ≡ n → ⊥) → rec_at ws₄ m (7 * m) (11 * m) x ≡ renamed_f old n (rec_at ws m (7 * m) (11 * m) x)
    unfolding rec_at
    rec_else x g a b =
        renamed_rec old n L.live _ _ (four x (omega arith) ∙ ids x g) (four (m + x) (omega arith) ∙ A.counts x g a b ∙ low (m + x) (omega arith)) (kept₄ 2 x (omega arith) (omega arith) g)
        (ap (λ (y : ℕ). not (eqb y 0)) (kept₄ 4 x (omega arith) (omega arith) g)) (ap (λ (y : ℕ). not (eqb y 0)) (kept₄ 3 x (omega arith) (omega arith) g))
        (lists₄ x g ∙ lists_at x g ∙ R.others x g a b) (floors₄ x g ∙ floors_at_lem x g) (ap (λ (y : ℕ). not (eqb y 0)) (M.others x g a b ∙ mark x g))

    rec_i : rec_at ws₄ m (7 * m) (11 * m) i ≡ renamed_f old n (emptied (rec_at ws m (7 * m) (11 * m) i))
    unfolding rec_at emptied
    rec_i =
        renamed_rec old n L.live _ _ (four i (omega arith) ∙ ids i hi) (four (m + i) (omega arith) ∙ A.none) (kept₄ 2 i (omega arith) (omega arith) hi)
        (ap (λ (y : ℕ). not (eqb y 0)) (kept₄ 4 i (omega arith) (omega arith) hi)) (ap (λ (y : ℕ). not (eqb y 0)) (kept₄ 3 i (omega arith) (omega arith) hi))
        (lists₄ i hi ∙ lists_at i hi ∙ R.bare ∙ sym (none_new old n old)) (floors₄ i hi ∙ floors_at_lem i hi) (ap (λ (y : ℕ). not (eqb y 0)) M.bare)

    joined_is : joined_list (list_at ws m (7 * m) n) (list_at ws m (7 * m) i) k j old n
        ≡ new_list old n (get_or ws n 0) (tidy (around (list_at ws m (7 * m) n) (place (list_at ws m (7 * m) n) old) ++ around (list_at ws m (7 * m) i) (place (list_at ws m (7 * m) i) (get_or ws n 0))))
    unfolding joined_list new_list when◌then◌else◌
    joined_is = rw (ne_eqb (get_or ws n 0) 0 L.live', L.first, L.first') refl

    rec_n : rec_at ws₄ m (7 * m) (11 * m) n ≡ renamed_f old n (absorbed_f (rec_at ws m (7 * m) (11 * m) n) (rec_at ws m (7 * m) (11 * m) i))
    unfolding rec_at absorbed_f
    rec_n =
        renamed_rec old n L.live _ _ (four n (omega arith) ∙ ids n hn) (four (m + n) (omega arith) ∙ A.sum ∙ ap (λ (y : ℕ). y + get_or ws₁ (m + i) 0) (low (m + n) (omega arith)) ∙ ap (λ (y : ℕ). get_or ws (m + n) 0 + y) (low (m + i) (omega arith)))
        (kept₄ 2 n (omega arith) (omega arith) hn)
        (ap (λ (y : ℕ). not (eqb y 0)) (kept₄ 4 n (omega arith) (omega arith) hn)) (ap (λ (y : ℕ). not (eqb y 0)) (kept₄ 3 n (omega arith) (omega arith) hn))
        (lists₄ n hn ∙ lists_at n hn ∙ R.joined ∙ joined_is) (floors₄ n hn ∙ floors_at_lem n hn)
        (M.both ∙ ap (λ (y : ℕ). not (eqb y 0) or not (eqb (get_or ws₃ (15 * m + i) 0) 0)) (mark n hn) ∙ ap (λ (y : ℕ). not (eqb (get_or ws (15 * m + n) 0) 0) or not (eqb y 0)) (mark i hi))

    pair_length : length (merged_pair rs i old n) ≡ m
    unfolding merged_pair
    pair_length =
        length-map (set (set rs n (absorbed_f (at rs n) (at rs i))) i (emptied (at rs i))) (renamed_f old n) ∙ length-set (set rs n (absorbed_f (at rs n) (at rs i))) i (emptied (at rs i))
        ∙ length-set rs n (absorbed_f (at rs n) (at rs i)) ∙ view-length ws m (7 * m) (11 * m)

    pair_at : (x : ℕ) → x < m → rec_at ws₄ m (7 * m) (11 * m) x ≡ at (merged_pair rs i old n) x
    unfolding merged_pair
    pair_at x g =
        sym (at_map (renamed_f old n) (ren_f_fresh old n) (set (set rs n (absorbed_f (at rs n) (at rs i))) i (emptied (at rs i))) x ∙ ap (renamed_f old n) refl
        ∙ sym (elim (ℕ_discrete x i) [
          | yes e ↦ rw e (rec_i ∙ ap (renamed_f old n) (ap emptied (sym (at_rs i hi)) ∙ sym (at_i rs i n (absorbed_f (at rs n) (at rs i)) (emptied (at rs i)) i_in n_in ne)))
          | no e ↦ elim (ℕ_discrete x n) [
            | yes d ↦ rw d (rec_n ∙ ap (renamed_f old n) (ap (λ (y : Rec). absorbed_f y (rec_at ws m (7 * m) (11 * m) i)) (sym (at_rs n hn)) ∙ ap (absorbed_f (at rs n)) (sym (at_rs i hi))
                ∙ sym (at_n rs i n (absorbed_f (at rs n) (at rs i)) (emptied (at rs i)) i_in n_in ne)))
            | no d ↦ rec_else x g e d ∙ ap (renamed_f old n) (sym (at_rs x g) ∙ sym (at_else rs i n (absorbed_f (at rs n) (at rs i)) (emptied (at rs i)) i_in n_in ne x e d))
          ]
        ]))

    pub merged_recs : recs_of ws₄ m ≡ merged_pair (recs_of ws m) i old n
    unfolding recs_of
    merged_recs = view_by ws₄ m (7 * m) (11 * m) (merged_pair rs i old n) pair_length pair_at

-- ---- the counts and the ids, as the code writes them

module _ (m n i old : ℕ) (ws₁ ws₂ ws₃ : List ℕ) (hn : n < m) (hi : i < m) (ne : i ≡ n → ⊥) (room : 2 * m ≤ length ws₁) (o : old ≡ i)
    (e : ws₂ ≡ set (set ws₁ (m + n) (get_or ws₁ (m + n) 0 + get_or ws₁ (m + i) 0)) (m + i) 0) (J : Joining m n i ws₂ ws₃) where
  abbrev both : ℕ
  both = get_or ws₁ (m + n) 0 + get_or ws₁ (m + i) 0

  frame₂ : Frame m (2 * m) ws₁ ws₂
  frame₂ = rw e (frame_then (frame_set m (2 * m) (m + n) both ws₁ (omega arith) (omega arith)) (frame_set m (2 * m) (m + i) 0 (set ws₁ (m + n) both) (omega arith) (omega arith)))

  frame₃ : Frame 0 (7 * m) ws₂ ws₃
  frame₃ = let z : 6 * m + m ≡ 7 * m = omega arith in rw z at J.frame

  pub after_is : After m n i old ws₁ ws₃
  after_is = record {
    frame = frame_then (frame_wider 0 (7 * m) frame₂ (omega arith) (omega arith)) frame₃;
    columns = λ y a b. J.columns y (omega arith) b ∙ get_d_after y frame₂ a;
    bearers = J.bearers;
    ids = λ x g. rw o (J.ids x g ∙ ap (swap_one i n) (get_or_before x frame₂ g));
    sum = J.columns (m + n) (omega arith) (omega arith)
        ∙ rw e (get_or-set_other (set ws₁ (m + n) both) (m + i) (m + n) 0 0 (λ q. ne (omega arith)) ∙ get_or-set_same ws₁ (m + n) both 0 (omega arith));
    none = J.columns (m + i) (omega arith) (omega arith) ∙ rw e (get_or-set_same (set ws₁ (m + n) both) (m + i) 0 0 (rw (length-set ws₁ (m + n) both) (omega arith)));
    counts = λ x g a b. J.columns (m + x) (omega arith) (omega arith)
        ∙ rw e (get_or-set_other (set ws₁ (m + n) both) (m + i) (m + x) 0 0 (λ q. a (omega arith)) ∙ get_or-set_other ws₁ (m + n) (m + x) both 0 (λ q. b (omega arith)));
  }

-- two counts are no more than all
module _ (m p h o n k i j : ℕ) (ws ws₁ : List ℕ) (P : Pool m p h o ws) (L : Listed m n k i j ws) where
  pub spans_fit : (b c links old new : ℕ) → LinksPast m p h o links ws → Sides h o b c → Relisted m p n k i j old new b c links ws ws₁ → get_or ws₁ (m + n) 0 + get_or ws₁ (m + i) 0 < 65536
  unfolding count_at
  spans_fit b c links old new Y W R =
      let H = turned-halves m p h o b c ws P W in
      let a : get_or ws₁ (m + n) 0 ≡ get_or ws (m + n) 0 = R.kept (m + n) (inl (omega (arith, L.pair.first)), inl (omega (arith, L.pair.first, H.past))) (inl (omega (arith, L.pair.first, H.past'))) (omega (arith, L.pair.first, P.halves.past, Y.past)) in
      let d : get_or ws₁ (m + i) 0 ≡ get_or ws (m + i) 0 = R.kept (m + i) (inl (omega (arith, L.pair.second)), inl (omega (arith, L.pair.second, H.past))) (inl (omega (arith, L.pair.second, H.past'))) (omega (arith, L.pair.second, P.halves.past, Y.past)) in
      omega (arith, P.spans, sum_split (count_at ws m) i n m L.pair.second L.pair.first L.pair.apart)

  -- after the lists and the counts, the pair can hand over
  module _ (b c links old new : ℕ) (Y : LinksPast m p h o links ws) (W : Sides h o b c) (R : Relisted m p n k i j old new b c links ws ws₁) (l : length ws₁ ≡ length ws) (ws₂ : List ℕ)
      (e : ws₂ ≡ set (set ws₁ (m + n) (get_or ws₁ (m + n) 0 + get_or ws₁ (m + i) 0)) (m + i) 0) (l₂ : length ws₂ ≡ length ws₁) where
    still : (y : ℕ) → (y < m) ⊎ (2 * m ≤ y) → y < 7 * m → get_or ws₂ y 0 ≡ get_or ws y 0
    still y v g =
        let H = turned-halves m p h o b c ws P W in
        let both = get_or ws₁ (m + n) 0 + get_or ws₁ (m + i) 0 in
        let f : Frame m (2 * m) ws₁ ws₂ = rw e (frame_then (frame_set m (2 * m) (m + n) both ws₁ (omega arith) (omega (arith, L.pair.first)))
        (frame_set m (2 * m) (m + i) 0 (set ws₁ (m + n) both) (omega arith) (omega (arith, L.pair.second)))) in
        ⊎_elim (λ (w : y < m). get_or_before y f w) (λ (w : 2 * m ≤ y). get_d_after y f w) v
        ∙ R.kept y (inl g, inl (omega (arith, H.past))) (inl (omega (arith, H.past'))) (omega (arith, P.halves.past, Y.past))

    pub owners_still : Owners m n i ws₂
    owners_still =
        let hn = L.pair.first in
        let hi = L.pair.second in
        record {
          bearers = bearers_same m ws ws₂ (λ y g. still y (inl g) (omega arith))
              (λ y g. still (6 * m + y) (inr (omega arith)) (omega arith)) P.bearers;
          room = omega (arith, P.held.lists.room);
          few = P.held.few;
          first = hn;
          second = hi;
          apart = L.pair.apart;
          own = still n (inl hn) (omega arith) ∙ own_first m p h o n k i j ws P L;
          own' = still i (inl hi) (omega arith) ∙ own_second m p h o n k i j ws P L;
          some = λ z. L.live' (own_first m p h o n k i j ws P L ∙ z);
          some' = λ z. L.live (own_second m p h o n k i j ws P L ∙ z);
        }

-- as the code has it
module _ (m p h o b c n k i j links : ℕ) (ws ws₁ ws₂ ws₃ : List ℕ) (P : Pool m p h o ws) (Y : LinksPast m p h o links ws) (L : Listed m n k i j ws) (W : Sides h o b c)
    (R : Relisted m p n k i j (get_or ws i 0) n b c links ws ws₁)
    (l₁ : length ws₁ ≡ length ws)
    (e : ws₂ ≡ set (set ws₁ (m + n) (get_or ws₁ (m + n) 0 + get_or ws₁ (m + i) 0)) (m + i) 0) (l₂ : length ws₂ ≡ length ws₁) (J : Joining m n i ws₂ ws₃)
    (l₃ : length ws₃ ≡ length ws₂) (ws₄ : List ℕ) (e₄ : ws₄ ≡ remarked m n i ws₃) where
  after : After m n i (get_or ws i 0) ws₁ ws₃
  after =
      after_is m n i (get_or ws i 0) ws₁ ws₂ ws₃ L.pair.first L.pair.second L.pair.apart (omega (arith, P.held.lists.room)) (own_second m p h o n k i j ws P L) e J

  pool₃ : Pool m p b c ws₃
  pool₃ = merged_pool m p h o b c n k i j links ws ws₁ ws₃ P Y W L R after l₁ (l₃ ∙ l₂)

  marked : Remarked m n i ws₃ ws₄
  marked = rw e₄ (remarked_is m n i ws₃ L.pair.first L.pair.second L.pair.apart (omega (arith, pool₃.halves.into, pool₃.halves.past)))

  pub region_recs : recs_of ws₄ m ≡ merged_pair (recs_of ws m) i (get_or ws i 0) n
  region_recs = merged_recs m p h o b c n k i j links ws ws₁ ws₃ P Y W L R after l₁ (l₃ ∙ l₂) ws₄ marked

  pub region_pool : Pool m p b c ws₄
  region_pool = marked_pool m n i ws₃ ws₄ marked p b c pool₃

  pub region_laid : (top : ℕ) → Laid m p b c top links (swap_one (get_or ws i 0) n) ws₁ → Laid m p b c top links (λ y. y) ws₄
  region_laid top D =
      marked_laid m n i ws₃ ws₄ marked p b c pool₃ top links (merged_laid m p h o b c n k i j links ws ws₁ ws₃ P Y W L R after l₁ (l₃ ∙ l₂) top D)

-- the marks lie in the workspace
pub marks_in_lem : (m p h o : ℕ) (ws ws' : List ℕ) → Pool m p h o ws → length ws' ≡ length ws → 16 * m ≤ length ws'
marks_in_lem m p h o ws ws' P l = omega (arith, P.halves.into, P.halves.past)

-- ---- the half's size, which a merge leaves

pub pool_sized : (m p q h o : ℕ) (ws : List ℕ) → q ≡ p → Pool m p h o ws → Pool m q h o ws
pool_sized m p q h o ws e P = rw e P

pub laid_sized : (m p q h o top l l' : ℕ) (f g : ℕ → ℕ) (ws ws' : List ℕ) → q ≡ p → l' ≡ l → (Laid m p h o top l f ws → Laid m p h o top l g ws') → Laid m q h o top l' f ws → Laid m q h o top l' g ws'
laid_sized m p q h o top l l' f g ws ws' e d t = rw (e, d) t
