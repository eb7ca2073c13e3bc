-- The records that bear one id. Two of them with the same number before them are one (`same_rank`), so those before a record are different ones and there are
-- fewer than m (`rank_less`): a walk from the first ends, and has met all of them. A merge puts the absorbed one's row right after the absorber.
use Prim.Native.Nat.{ℕ, zero, suc, ◌+◌, ◌-◌, ◌*◌, ◌≤◌, ◌<◌}
use native.Mathlib.Omega.{arith}
use native.Mathlib.Decide.{ℕ_discrete, dec_lt}
use mathlib.Core.Path.{◌≡◌, refl, sym, ap, ◌∙◌}
use mathlib.Core.Logic.{⊎_elim, ◌⊎◌, inl, inr}
use mathlib.Core.List.{List, [], ◌∷◌}
use lib.ListN.{length, get_or, set, length-set}
use lib.Seq.{get_or-set_same, get_or-set_other}
use lib.Dec.{eqb}
use borrow.Author.Tests.{eq-eqb, ne_eqb}
use Rattle.rules.specs.Base.{when◌then◌else◌}
use Rattle.laws.proofs.Basics.{All, Distinct, All_map, pigeonhole}
use Rattle.space.specs.Space.{Frame}
use Rattle.space.proofs.Laws.{get_or_before, get_d_after, frame_none, frame_then, frame_set, frame_wider}
use Rattle.pool.specs.Lists.{swap_one}
use Rattle.pool.specs.Bearers.{next_of, Before, After, Bearers, Handed, Joining, Owners}
use Rattle.pool.proofs.FloorLaws.{swap_old, swap_other}

module _ (m : ℕ) (ws : List ℕ) (B : Bearers m ws) where
  -- a record that bears an id is not record 0
  pub bears_some : (y : ℕ) → y < m → (get_or ws y 0 ≡ 0 → ⊥) → y ≡ 0 → ⊥
  bears_some y g z e = z (ap (λ (k : ℕ). get_or ws k 0) e ∙ B.nobody (omega arith))

  pub same_rank : (k y z : ℕ) → y < m → z < m → (get_or ws y 0 ≡ 0 → ⊥) → get_or ws y 0 ≡ get_or ws z 0 → B.rank y ≡ k → B.rank z ≡ k → y ≡ z
  same_rank zero y z g h l e p q =
      sym (B.first y g l p) ∙ e ∙ B.first z h (λ w. l (e ∙ w)) q
  same_rank (suc k) y z g h l e p q =
      let a = B.before y k g l p in
      let b = B.before z k h (λ w. l (e ∙ w)) q in
      let w : a.who ≡ b.who = same_rank k a.who b.who a.inside b.inside (λ v. l (sym a.bears ∙ v)) (a.bears ∙ e ∙ sym b.bears) a.ranks b.ranks in
      sym a.names ∙ ap (next_of ws m) w ∙ b.names

  -- after a record that names none there is none
  beyond : (d y z : ℕ) → y < m → z < m → (get_or ws y 0 ≡ 0 → ⊥) → get_or ws z 0 ≡ get_or ws y 0 → B.rank z ≡ suc (B.rank y + d) → next_of ws m y ≡ 0 → ⊥
  beyond zero y z g h l e p q =
      let b = B.before z (B.rank y) h (λ w. l (sym e ∙ w)) (omega arith) in
      let w : b.who ≡ y = same_rank (B.rank y) b.who y b.inside g (λ v. l (sym e ∙ sym b.bears ∙ v)) (b.bears ∙ e) b.ranks refl in
      bears_some z h (λ v. l (sym e ∙ v)) (sym b.names ∙ ap (next_of ws m) w ∙ q)
  beyond (suc d) y z g h l e p q =
      let b = B.before z (suc (B.rank y + d)) h (λ w. l (sym e ∙ w)) (omega arith) in
      beyond d y b.who g b.inside l (b.bears ∙ e) b.ranks q

  pub rank-last : (y z : ℕ) → y < m → z < m → (get_or ws y 0 ≡ 0 → ⊥) → get_or ws z 0 ≡ get_or ws y 0 → next_of ws m y ≡ 0 → B.rank z ≤ B.rank y
  rank-last y z g h l e q = elim (dec_lt (B.rank y) (B.rank z)) [
    | yes k ↦ absurd (beyond (B.rank z - suc (B.rank y)) y z g h l e (omega arith) q)
    | no k ↦ omega arith
  ]

  -- what comes before the next of y comes before y, or is y
  pub next_done : (y z : ℕ) → y < m → z < m → (get_or ws y 0 ≡ 0 → ⊥) → get_or ws z 0 ≡ get_or ws y 0 → (next_of ws m y ≡ 0) ⊎ (B.rank z < B.rank (next_of ws m y))
      → (B.rank z < B.rank y) ⊎ (z ≡ y)
  next_done y z g h l e w =
      let less : B.rank z ≤ B.rank y = elim (ℕ_discrete (next_of ws m y) 0) [
        | yes u ↦ rank-last y z g h l e u
        | no u ↦ ⊎_elim (λ (v : next_of ws m y ≡ 0). absurd (u v)) (λ (v : B.rank z < B.rank (next_of ws m y)). omega (arith, (B.after y g l u).ranks)) w
      ] in
      elim (dec_lt (B.rank z) (B.rank y)) [
        | yes u ↦ inl u
        | no u ↦ inr (same_rank (B.rank y) z y h g (λ v. l (sym e ∙ v)) e (omega arith) refl)
      ]

  -- those before y, and y
  row : (k y : ℕ) → y < m → (get_or ws y 0 ≡ 0 → ⊥) → B.rank y ≡ k → List ℕ
  row zero y g l p = y ∷ []
  row (suc k) y g l p = let b = B.before y k g l p in y ∷ row k b.who b.inside (λ v. l (sym b.bears ∙ v)) b.ranks

  row_long : (k y : ℕ) (g : y < m) (l : get_or ws y 0 ≡ 0 → ⊥) (p : B.rank y ≡ k) → length (row k y g l p) ≡ suc k
  unfolding row
  row_long zero y g l p = refl
  row_long (suc k) y g l p = let b = B.before y k g l p in ap suc (row_long k b.who b.inside (λ v. l (sym b.bears ∙ v)) b.ranks)

  abbrev Within : ℕ → ℕ → Type 0
  Within k x = (x < m) × (B.rank x ≤ k)

  row_ranks : (k y : ℕ) (g : y < m) (l : get_or ws y 0 ≡ 0 → ⊥) (p : B.rank y ≡ k) → All (Within k) (row k y g l p)
  unfolding row
  row_ranks zero y g l p = ((g, omega arith), tt)
  row_ranks (suc k) y g l p =
      let b = B.before y k g l p in
      let t = row k b.who b.inside (λ v. l (sym b.bears ∙ v)) b.ranks in
      ((g, omega arith), All_map {P = Within k} {Q = Within (suc k)} t (λ x h. (h.0, omega (arith, h.1))) (row_ranks k b.who b.inside (λ v. l (sym b.bears ∙ v)) b.ranks))

  row_apart : (k y : ℕ) (g : y < m) (l : get_or ws y 0 ≡ 0 → ⊥) (p : B.rank y ≡ k) → Distinct (row k y g l p)
  unfolding row
  row_apart zero y g l p = (tt, tt)
  row_apart (suc k) y g l p =
      let b = B.before y k g l p in
      let t = row k b.who b.inside (λ v. l (sym b.bears ∙ v)) b.ranks in (
        All_map {P = Within k} {Q = λ x. x ≡ y → ⊥} t (λ x h e. omega (arith, h.1, ap B.rank e))
            (row_ranks k b.who b.inside (λ v. l (sym b.bears ∙ v)) b.ranks),
        row_apart k b.who b.inside (λ v. l (sym b.bears ∙ v)) b.ranks,
      )

  pub rank_less : (y : ℕ) → y < m → (get_or ws y 0 ≡ 0 → ⊥) → B.rank y < m
  rank_less y g l =
      let h = pigeonhole m (row (B.rank y) y g l refl) (row_apart (B.rank y) y g l refl) (All_map {P = Within (B.rank y)} {Q = λ x. x < m} (row (B.rank y) y g l refl) (λ x h. h.0) (row_ranks (B.rank y) y g l refl)) in
      omega (arith, row_long (B.rank y) y g l refl)

-- ---- a walk from one to the next

-- how many there are from y on, with k to spare
unfoldable pub steps : ℕ → List ℕ → ℕ → ℕ → ℕ
steps zero ws m y = 0
steps (suc k) ws m zero = 0
steps (suc k) ws m (suc y) = suc (steps k ws m (next_of ws m (suc y)))

-- what is said of k steps is said of more, once k are enough for those to come
enough : (d : ℕ) (m : ℕ) (ws : List ℕ) (B : Bearers m ws) (y : ℕ) → y < m → (get_or ws y 0 ≡ 0 → ⊥) → m ≤ B.rank y + d → (k : ℕ) → d ≤ k → steps k ws m y ≡ steps d ws m y
unfolding steps
enough zero m ws B y g l h k u = absurd (omega (arith, rank_less m ws B y g l))
enough (suc d) m ws B zero g l h k u = absurd (bears_some m ws B 0 g l refl)
enough (suc d) m ws B (suc y) g l h zero u = absurd (omega arith)
enough (suc d) m ws B (suc y) g l h (suc k) u = ap suc (elim (ℕ_discrete (next_of ws m (suc y)) 0) [
  | yes e ↦ rw e (none k ∙ sym (none d))
  | no e ↦
      let a = B.after (suc y) g l e in
      enough d m ws B (next_of ws m (suc y)) a.inside (λ v. l (sym a.bears ∙ v)) (omega (arith, a.ranks)) k (omega arith)
])
  where
    none : (k : ℕ) → steps k ws m 0 ≡ 0
    none zero = refl
    none (suc k) = refl

pub steps_fall : (m : ℕ) (ws : List ℕ) → Bearers m ws → (y : ℕ) → y < m → (get_or ws y 0 ≡ 0 → ⊥) → steps m ws m (next_of ws m y) < steps m ws m y
unfolding steps
steps_fall zero ws B y g l = absurd (omega arith)
steps_fall (suc m) ws B zero g l = absurd (bears_some (suc m) ws B 0 g l refl)
steps_fall (suc m) ws B (suc y) g l = elim (ℕ_discrete (next_of ws (suc m) (suc y)) 0) [
  | yes e ↦ rw e (omega arith)
  | no e ↦
      let a = B.after (suc y) g l e in
      let z = next_of ws (suc m) (suc y) in
      let v : get_or ws z 0 ≡ 0 → ⊥ = λ w. l (sym a.bears ∙ w) in
      let p = enough m (suc m) ws B z a.inside v (omega (arith, a.ranks)) (suc m) (omega arith) in
      omega (arith, p)
]

-- ---- a walk over all records of id a

-- at y, and after it at 0: those before y have P
pub record Walked (P : ℕ → Type 0) (m a : ℕ) (ws : List ℕ) (y : ℕ) : Type 0 where
  pub bearers : Bearers m ws
  pub here : (y ≡ 0 → ⊥) → (y < m) × (get_or ws y 0 ≡ a)
  pub done : (z : ℕ) → z < m → get_or ws z 0 ≡ a → (y ≡ 0) ⊎ (bearers.rank z < bearers.rank y) → P z

pub walk_start : (P : ℕ → Type 0) (m a : ℕ) (ws : List ℕ) → Bearers m ws → a < m → get_or ws a 0 ≡ a → (a ≡ 0 → ⊥) → Walked P m a ws a
walk_start P m a ws B g e z = record {
  bearers = B;
  here = λ _. (g, e);
  done = λ y h q w. ⊎_elim (λ (v : a ≡ 0). absurd (z v)) (λ (v : B.rank y < B.rank a). absurd (omega (arith, B.start a g (λ u. z (sym e ∙ u)) e))) w;
}

module _ (P Q : ℕ → Type 0) (m a y : ℕ) (ws : List ℕ) (W : Walked P m a ws y) (z : a ≡ 0 → ⊥) (n : y ≡ 0 → ⊥) where
  live : get_or ws y 0 ≡ 0 → ⊥
  live e = z (sym (W.here n).1 ∙ e)

  -- all up to y have Q
  pub walk_next : ((x : ℕ) → x < m → get_or ws x 0 ≡ a → P x → Q x) → Q y → Walked Q m a ws (next_of ws m y)
  walk_next f q =
      let B = W.bearers in
      let g = (W.here n).0 in
      let e = (W.here n).1 in
      record {
        bearers = B;
        here = λ w. let b = B.after y g live w in (b.inside, b.bears ∙ e);
        done = λ x h d w.
            ⊎_elim (λ (u : B.rank x < B.rank y). f x h d (W.done x h d (inr u))) (λ (u : x ≡ y). rw u q) (next_done m ws B y x g h live (d ∙ sym e) w);
      }

  pub walk_falls : steps m ws m (next_of ws m y) < steps m ws m y
  walk_falls = steps_fall m ws W.bearers y (W.here n).0 live

-- at 0 all have P
pub walk_end : (P : ℕ → Type 0) (m a y : ℕ) (ws : List ℕ) → Walked P m a ws y → y ≡ 0 → (z : ℕ) → z < m → get_or ws z 0 ≡ a → P z
walk_end P m a y ws W e z g d = W.done z g d (inl e)

-- ---- how they come to be, and stay

-- each bears its own number, or none, and none names another
pub bearers_start : (m : ℕ) (ws : List ℕ) → ((y : ℕ) → y < m → (get_or ws y 0 ≡ 0 → ⊥) → get_or ws y 0 ≡ y) → ((y : ℕ) → y < m → next_of ws m y ≡ 0) → Bearers m ws
bearers_start m ws own none = record {
  nobody = λ g. elim (ℕ_discrete (get_or ws 0 0) 0) [ yes e ↦ e | no e ↦ own 0 g e ];
  owner = λ y g l. let e = own y g l in rw (e) (g, e);
  rank = λ _. 0;
  first = λ y g l _. own y g l;
  start = λ _ _ _ _. refl;
  before = λ y k _ _ e. absurd (omega arith);
  after = λ y g _ e. absurd (e (none y g));
}

-- ids and names as they were
pub bearers_same : (m : ℕ) (ws ws' : List ℕ) → ((y : ℕ) → y < m → get_or ws' y 0 ≡ get_or ws y 0) → ((y : ℕ) → y < m → next_of ws' m y ≡ next_of ws m y) → Bearers m ws → Bearers m ws'
bearers_same m ws ws' ids names B = record {
  nobody = λ g. ids 0 g ∙ B.nobody g;
  owner = λ y g l. let b = B.owner y g (live y g l) in rw (ids y g) (b.0, ids (get_or ws y 0) b.0 ∙ b.1);
  rank = B.rank;
  first = λ y g l e. ids y g ∙ B.first y g (live y g l) e;
  start = λ y g l e. B.start y g (live y g l) (sym (ids y g) ∙ e);
  before = λ y k g l e.
      let b = B.before y k g (live y g l) e in
      record { who = b.who; inside = b.inside; bears = ids b.who b.inside ∙ b.bears ∙ sym (ids y g); ranks = b.ranks; names = names b.who b.inside ∙ b.names };
  after = λ y g l e.
      let b = B.after y g (live y g l) (λ w. e (names y g ∙ w)) in
      record {
        inside = rw (names y g) b.inside;
        bears = rw (names y g) (ids (next_of ws m y) b.inside ∙ b.bears ∙ sym (ids y g));
        ranks = rw (names y g) b.ranks;
      };
}
  where
    live : (y : ℕ) → y < m → (get_or ws' y 0 ≡ 0 → ⊥) → get_or ws y 0 ≡ 0 → ⊥
    live y g l e = l (ids y g ∙ e)

-- n absorbs i: the row of i, whose last is t, comes right after n
module _ (m n i t : ℕ) (ws ws' : List ℕ) (B : Bearers m ws) (hn : n < m) (hi : i < m) (en : get_or ws n 0 ≡ n) (ei : get_or ws i 0 ≡ i) (zn : n ≡ 0 → ⊥) (zi : i ≡ 0 → ⊥) (ne : i ≡ n → ⊥)
    (ht : t < m) (et : get_or ws t 0 ≡ i) (last : next_of ws m t ≡ 0)
    (ids : (x : ℕ) → x < m → get_or ws' x 0 ≡ swap_one i n (get_or ws x 0)) (at_t : next_of ws' m t ≡ next_of ws m n) (at_n : next_of ws' m n ≡ i)
    (at_else : (x : ℕ) → x < m → (x ≡ t → ⊥) → (x ≡ n → ⊥) → next_of ws' m x ≡ next_of ws m x) where
  rank_now : ℕ → ℕ
  rank_now x = when eqb (get_or ws x 0) i then suc (B.rank x) else when eqb x n then 0 else when eqb (get_or ws x 0) n then B.rank x + suc (B.rank t) else B.rank x

  rank_i : (x : ℕ) → get_or ws x 0 ≡ i → rank_now x ≡ suc (B.rank x)
  unfolding rank_now when◌then◌else◌
  rank_i x e = rw (eq-eqb (get_or ws x 0) i e)

  rank_n : rank_now n ≡ 0
  unfolding rank_now when◌then◌else◌
  rank_n = rw (en, ne_eqb n i (λ w. ne (sym w)), eq-eqb n n refl)

  rank_row : (x : ℕ) → get_or ws x 0 ≡ n → (x ≡ n → ⊥) → rank_now x ≡ B.rank x + suc (B.rank t)
  unfolding rank_now when◌then◌else◌
  rank_row x e d = rw (e, ne_eqb n i (λ w. ne (sym w)), ne_eqb x n d, eq-eqb n n refl)

  rank_else : (x : ℕ) → (get_or ws x 0 ≡ i → ⊥) → (get_or ws x 0 ≡ n → ⊥) → rank_now x ≡ B.rank x
  unfolding rank_now when◌then◌else◌
  rank_else x a b = rw (ne_eqb (get_or ws x 0) i a, ne_eqb x n (λ w. b (ap (λ (k : ℕ). get_or ws k 0) w ∙ en)), ne_eqb (get_or ws x 0) n b)

  id_i : (x : ℕ) → x < m → get_or ws x 0 ≡ i → get_or ws' x 0 ≡ n
  id_i x g e = ids x g ∙ ap (swap_one i n) e ∙ swap_old i n

  id_else : (x : ℕ) → x < m → (get_or ws x 0 ≡ i → ⊥) → get_or ws' x 0 ≡ get_or ws x 0
  id_else x g d = ids x g ∙ swap_other i n (get_or ws x 0) d

  n_else : get_or ws n 0 ≡ i → ⊥
  n_else e = ne (sym e ∙ en)

  id_n : get_or ws' n 0 ≡ n
  id_n = id_else n hn n_else ∙ en

  live_was : (x : ℕ) → x < m → (get_or ws' x 0 ≡ 0 → ⊥) → get_or ws x 0 ≡ 0 → ⊥
  live_was x g l e = l (id_else x g (λ w. zi (sym w ∙ e)) ∙ e)

  -- one of i's row is neither n nor of its row, and so on
  t_not : (x : ℕ) → (get_or ws x 0 ≡ i → ⊥) → x ≡ t → ⊥
  t_not x d e = d (ap (λ (k : ℕ). get_or ws k 0) e ∙ et)

  n_not : (x : ℕ) → (get_or ws x 0 ≡ n → ⊥) → x ≡ n → ⊥
  n_not x d e = d (ap (λ (k : ℕ). get_or ws k 0) e ∙ en)

  i_not_n : (x : ℕ) → get_or ws x 0 ≡ i → get_or ws x 0 ≡ n → ⊥
  i_not_n x e d = ne (sym e ∙ d)

  owner_now : (y : ℕ) → y < m → (get_or ws' y 0 ≡ 0 → ⊥) → (get_or ws' y 0 < m) × (get_or ws' (get_or ws' y 0) 0 ≡ get_or ws' y 0)
  owner_now y g l = elim (ℕ_discrete (get_or ws y 0) i) [
    | yes e ↦ rw (id_i y g e) (hn, id_n)
    | no e ↦
        let b = B.owner y g (live_was y g l) in
        rw (id_else y g e) (b.0, id_else (get_or ws y 0) b.0 (λ w. e (sym b.1 ∙ w)) ∙ b.1)
  ]

  first_now : (y : ℕ) → y < m → (get_or ws' y 0 ≡ 0 → ⊥) → rank_now y ≡ 0 → get_or ws' y 0 ≡ y
  first_now y g l r = elim (ℕ_discrete (get_or ws y 0) i) [
    | yes e ↦ absurd (omega (arith, rank_i y e))
    | no e ↦ elim (ℕ_discrete y n) [
      | yes d ↦ rw d id_n
      | no d ↦ elim (ℕ_discrete (get_or ws y 0) n) [
        | yes c ↦ absurd (omega (arith, rank_row y c d))
        | no c ↦ id_else y g e ∙ B.first y g (live_was y g l) (sym (rank_else y e c) ∙ r)
      ]
    ]
  ]

  start_now : (y : ℕ) → y < m → (get_or ws' y 0 ≡ 0 → ⊥) → get_or ws' y 0 ≡ y → rank_now y ≡ 0
  start_now y g l r = elim (ℕ_discrete (get_or ws y 0) i) [
    | yes e ↦ absurd (n_else (ap (λ (k : ℕ). get_or ws k 0) (sym (id_i y g e) ∙ r) ∙ e))
    | no e ↦ elim (ℕ_discrete y n) [
      | yes d ↦ rw d rank_n
      | no d ↦
          let o : get_or ws y 0 ≡ y = sym (id_else y g e) ∙ r in
          let c : get_or ws y 0 ≡ n → ⊥ = (λ w. d (sym o ∙ w)) in
          rank_else y e c ∙ B.start y g (live_was y g l) o
    ]
  ]

  before_now : (y k : ℕ) → y < m → (get_or ws' y 0 ≡ 0 → ⊥) → rank_now y ≡ suc k → Before m rank_now ws' y k
  before_now y k g l r = elim (ℕ_discrete (get_or ws y 0) i) [
    | yes e ↦ elim (ℕ_discrete k 0) [
      | yes d ↦
          let s : y ≡ i = sym (B.first y g (live_was y g l) (omega (arith, rank_i y e))) ∙ e in
          record { who = n; inside = hn; bears = id_n ∙ sym (id_i y g e); ranks = rank_n ∙ sym d; names = at_n ∙ sym s }
      | no d ↦
          let b = B.before y (k - 1) g (live_was y g l) (omega (arith, rank_i y e)) in
          let w : get_or ws b.who 0 ≡ i = b.bears ∙ e in
          let u : b.who ≡ t → ⊥ = (λ v. bears_some m ws B y g (live_was y g l) (sym b.names ∙ ap (next_of ws m) v ∙ last)) in
          record {
            who = b.who;
            inside = b.inside;
            bears = id_i b.who b.inside w ∙ sym (id_i y g e);
            ranks = omega (arith, rank_i b.who w, b.ranks);
            names = at_else b.who b.inside u (n_not b.who (i_not_n b.who w)) ∙ b.names;
          }
    ]
    | no e ↦ elim (ℕ_discrete y n) [
      | yes d ↦ absurd (omega (arith, rank_n, ap rank_now d))
      | no d ↦ elim (ℕ_discrete (get_or ws y 0) n) [
        | yes c ↦
            let q : B.rank y ≡ 0 → ⊥ = (λ w. d (sym (B.first y g (live_was y g l) w) ∙ c)) in
            let b = B.before y (B.rank y - 1) g (live_was y g l) (omega arith) in
            let v : get_or ws b.who 0 ≡ n = b.bears ∙ c in
            let v' : get_or ws b.who 0 ≡ i → ⊥ = (λ w. i_not_n b.who w v) in
            elim (ℕ_discrete b.who n) [
              | yes w ↦
                  let f : B.rank n ≡ 0 = B.start n hn (λ x. zn (sym en ∙ x)) en in
                  record {
                    who = t;
                    inside = ht;
                    bears = id_i t ht et ∙ sym c ∙ sym (id_else y g e);
                    ranks = omega (arith, rank_i t et, rank_row y c d, b.ranks, ap B.rank w);
                    names = at_t ∙ ap (next_of ws m) (sym w) ∙ b.names;
                  }
              | no w ↦ record {
                who = b.who;
                inside = b.inside;
                bears = id_else b.who b.inside v' ∙ b.bears ∙ sym (id_else y g e);
                ranks = omega (arith, rank_row b.who v w, rank_row y c d, b.ranks);
                names = at_else b.who b.inside (t_not b.who v') w ∙ b.names;
              }
            ]
        | no c ↦
            let b = B.before y k g (live_was y g l) (sym (rank_else y e c) ∙ r) in
            let v : get_or ws b.who 0 ≡ i → ⊥ = (λ w. e (sym b.bears ∙ w)) in
            let v' : get_or ws b.who 0 ≡ n → ⊥ = (λ w. c (sym b.bears ∙ w)) in
            record {
              who = b.who;
              inside = b.inside;
              bears = id_else b.who b.inside v ∙ b.bears ∙ sym (id_else y g e);
              ranks = rank_else b.who v v' ∙ b.ranks;
              names = at_else b.who b.inside (t_not b.who v) (n_not b.who v') ∙ b.names;
            }
      ]
    ]
  ]

  -- a record that names the one it named
  after_as : (y : ℕ) → y < m → (get_or ws' y 0 ≡ 0 → ⊥) → (y ≡ t → ⊥) → (y ≡ n → ⊥) → (next_of ws m y ≡ 0 → ⊥)
      → (After m B.rank ws y → (get_or ws' (next_of ws m y) 0 ≡ get_or ws' y 0) × (rank_now (next_of ws m y) ≡ suc (rank_now y))) → After m rank_now ws' y
  after_as y g l a b z f =
      let q = B.after y g (live_was y g l) z in
      let s = at_else y g a b in
      record { inside = rw s q.inside; bears = rw s (f q).0; ranks = rw s (f q).1 }

  after_now : (y : ℕ) → y < m → (get_or ws' y 0 ≡ 0 → ⊥) → (next_of ws' m y ≡ 0 → ⊥) → After m rank_now ws' y
  after_now y g l z = elim (ℕ_discrete y n) [
    | yes d ↦ rw d (record {
      inside = rw at_n hi;
      bears = rw at_n (id_i i hi ei ∙ sym id_n);
      ranks = rw at_n (rank_i i ei ∙ ap suc (B.start i hi (λ w. zi (sym ei ∙ w)) ei) ∙ ap suc (sym rank_n));
    })
    | no d ↦ elim (ℕ_discrete y t) [
      | yes e ↦ rw e (
          let x = next_of ws m n in
          let z' : x ≡ 0 → ⊥ = (λ w. z (ap (next_of ws' m) e ∙ at_t ∙ w)) in
          let q = B.after n hn (λ w. zn (sym en ∙ w)) z' in
          let f : B.rank n ≡ 0 = B.start n hn (λ w. zn (sym en ∙ w)) en in
          let c : get_or ws x 0 ≡ n = q.bears ∙ en in
          let o : x ≡ n → ⊥ = (λ w. omega (arith, q.ranks, ap B.rank w)) in
          record {
            inside = rw at_t q.inside;
            bears = rw at_t (id_else x q.inside (λ w. i_not_n x w c) ∙ c ∙ sym (id_i t ht et));
            ranks = rw at_t (omega (arith, rank_row x c o, rank_i t et, q.ranks));
          })
      | no e ↦
          let z' : next_of ws m y ≡ 0 → ⊥ = (λ w. z (at_else y g e d ∙ w)) in
          after_as y g l e d z' (λ q. elim (ℕ_discrete (get_or ws y 0) i) [
            | yes c ↦
                let w = q.bears ∙ c in
                (id_i (next_of ws m y) q.inside w ∙ sym (id_i y g c), rank_i (next_of ws m y) w ∙ ap suc q.ranks ∙ ap suc (sym (rank_i y c)))
            | no c ↦ (
              id_else (next_of ws m y) q.inside (λ w. c (sym q.bears ∙ w)) ∙ q.bears ∙ sym (id_else y g c),
              elim (ℕ_discrete (get_or ws y 0) n) [
                | yes v ↦
                    let f : B.rank n ≡ 0 = B.start n hn (λ w. zn (sym en ∙ w)) en in
                    let o : next_of ws m y ≡ n → ⊥ = (λ w. omega (arith, q.ranks, ap B.rank w)) in
                    omega (arith, rank_row (next_of ws m y) (q.bears ∙ v) o, rank_row y v d, q.ranks)
                | no v ↦ rank_else (next_of ws m y) (λ w. c (sym q.bears ∙ w)) (λ w. v (sym q.bears ∙ w)) ∙ q.ranks ∙ ap suc (sym (rank_else y c v))
              ],
            )
          ])
    ]
  ]

  pub bearers_merged : Bearers m ws'
  bearers_merged = record {
    nobody = λ g. id_else 0 g (λ w. zi (sym w ∙ B.nobody g)) ∙ B.nobody g;
    owner = owner_now;
    rank = rank_now;
    first = first_now;
    start = start_now;
    before = before_now;
    after = after_now;
  }

-- ---- the ids handed over, as the code does it

-- those before y bear the new id, and no other record has another id than it had
pub record Handing (m i new : ℕ) (ws₀ ws : List ℕ) (y : ℕ) : Type 0 where
  pub walked : Walked (λ z. get_or ws z 0 ≡ new) m i ws₀ y
  pub some : y ≡ 0 → ⊥
  pub each : (x : ℕ) → x < m → (get_or ws x 0 ≡ get_or ws₀ x 0) ⊎ ((get_or ws₀ x 0 ≡ i) × (get_or ws x 0 ≡ new))
  pub frame : Frame 0 m ws₀ ws

pub hand_start : (m n i : ℕ) (ws : List ℕ) → Owners m n i ws → Handing m i n ws ws i
hand_start m n i ws O = record {
  walked = walk_start (λ z. get_or ws z 0 ≡ n) m i ws O.bearers O.second O.own' O.some';
  some = O.some';
  each = λ _ _. inl refl;
  frame = frame_none 0 m ws;
}

module _ (m n i y next : ℕ) (ws₀ ws : List ℕ) (O : Owners m n i ws₀) (H : Handing m i n ws₀ ws y) (l : length ws ≡ length ws₀) (e : next ≡ next_of (set ws y n) m y) where
  y_in : y < m
  y_in = (H.walked.here H.some).0

  hand_in : y < length ws
  hand_in = omega (arith, y_in, O.room)

  frame_set_now : Frame 0 m ws₀ (set ws y n)
  frame_set_now = frame_then H.frame (frame_set 0 m y n ws (omega arith) y_in)

  names_kept : (x : ℕ) → next_of (set ws y n) m x ≡ next_of ws₀ m x
  names_kept x = get_d_after (6 * m + x) frame_set_now (omega arith)

  now_next : next_of ws₀ m y ≡ next
  now_next = sym (e ∙ names_kept y)

  set_at : (x : ℕ) → (x ≡ y) ⊎ (get_or ws x 0 ≡ n) → get_or (set ws y n) x 0 ≡ n
  set_at x w = elim (ℕ_discrete x y) [
    | yes d ↦ rw d (get_or-set_same ws y n 0 hand_in)
    | no d ↦ get_or-set_other ws y x n 0 d ∙ ⊎_elim (λ (v : x ≡ y). absurd (d v)) (λ (v : get_or ws x 0 ≡ n). v) w
  ]

  each_now : (x : ℕ) → x < m → (get_or (set ws y n) x 0 ≡ get_or ws₀ x 0) ⊎ ((get_or ws₀ x 0 ≡ i) × (get_or (set ws y n) x 0 ≡ n))
  each_now x g = elim (ℕ_discrete x y) [
    | yes d ↦ inr (rw d (H.walked.here H.some).1, set_at x (inl d))
    | no d ↦
        let s = get_or-set_other ws y x n 0 d in
        ⊎_elim (λ (v : get_or ws x 0 ≡ get_or ws₀ x 0). inl (s ∙ v)) (λ (v : (get_or ws₀ x 0 ≡ i) × (get_or ws x 0 ≡ n)). inr (v.0, s ∙ v.1)) (H.each x g)
  ]

  walked_now : Walked (λ z. get_or (set ws y n) z 0 ≡ n) m i ws₀ next
  walked_now =
      rw (← now_next) (walk_next (λ z. get_or ws z 0 ≡ n) (λ z. get_or (set ws y n) z 0 ≡ n) m i y ws₀ H.walked O.some' H.some (λ x _ _ v. set_at x (inr v)) (set_at y (inl refl)))

  pub hand_next : (next ≡ 0 → ⊥) → Handing m i n ws₀ (set ws y n) next
  hand_next z = record { walked = walked_now; some = z; each = each_now; frame = frame_set_now }

  pub hand_inside : (next ≡ 0 → ⊥) → next < m
  hand_inside z = (walked_now.here z).0

  pub hand_falls : steps m ws₀ m next < steps m ws₀ m y
  hand_falls = rw (← now_next) (walk_falls (λ z. get_or ws z 0 ≡ n) (λ z. get_or ws z 0 ≡ n) m i y ws₀ H.walked O.some' H.some)

  pub hand_done : next ≡ 0 → Handed m i n y ws₀ (set ws y n)
  hand_done z = record {
    ids = λ x g. elim (ℕ_discrete (get_or ws₀ x 0) i) [
      | yes d ↦ walk_end (λ v. get_or (set ws y n) v 0 ≡ n) m i next ws₀ walked_now z x g d ∙ sym (swap_old i n) ∙ ap (swap_one i n) (sym d)
      | no d ↦ ⊎_elim (λ (v : get_or (set ws y n) x 0 ≡ get_or ws₀ x 0). v) (λ (v : (get_or ws₀ x 0 ≡ i) × (get_or (set ws y n) x 0 ≡ n)). absurd (d v.0)) (each_now x g)
          ∙ sym (swap_other i n (get_or ws₀ x 0) d)
    ];
    frame = frame_set_now;
    inside = y_in;
    bore = (H.walked.here H.some).1;
    names = now_next ∙ z;
  }

module _ (m n i t : ℕ) (ws ws₁ ws₂ : List ℕ) (O : Owners m n i ws) (H : Handed m i n t ws ws₁) (l : length ws₁ ≡ length ws)
    (e : ws₂ ≡ set (set ws₁ (6 * m + t) (next_of ws₁ m n)) (6 * m + n) i) where
  abbrev ws₁' : List ℕ
  ws₁' = set ws₁ (6 * m + t) (next_of ws₁ m n)

  frame_rows : Frame (6 * m) (7 * m) ws₁ ws₂
  frame_rows = rw e (frame_then (frame_set (6 * m) (7 * m) (6 * m + t) (next_of ws₁ m n) ws₁ (omega arith) (omega (arith, H.inside)))
      (frame_set (6 * m) (7 * m) (6 * m + n) i ws₁' (omega arith) (omega (arith, O.first))))

  names-first : (x : ℕ) → next_of ws₁ m x ≡ next_of ws m x
  names-first x = get_d_after (6 * m + x) H.frame (omega arith)

  ids_at : (x : ℕ) → x < m → get_or ws₂ x 0 ≡ swap_one i n (get_or ws x 0)
  ids_at x g = get_or_before x frame_rows (omega arith) ∙ H.ids x g

  t_apart : t ≡ n → ⊥
  t_apart w = O.apart (sym H.bore ∙ ap (λ (k : ℕ). get_or ws k 0) w ∙ O.own)

  pub joined_rows : Joining m n i ws ws₂
  joined_rows = record {
    ids = ids_at;
    bearers = bearers_merged m n i t ws ws₂ O.bearers O.first O.second O.own O.own' O.some O.some' O.apart H.inside H.bore H.names ids_at
        (rw e (get_or-set_other ws₁' (6 * m + n) (6 * m + t) i 0 (λ w. t_apart (omega arith)) ∙ get_or-set_same ws₁ (6 * m + t) (next_of ws₁ m n) 0 (omega (arith, O.room, H.inside)) ∙ names-first n))
        (rw e (get_or-set_same ws₁' (6 * m + n) i 0 (rw (length-set ws₁ (6 * m + t) (next_of ws₁ m n)) (omega (arith, O.room, O.first)))))
        (λ x g a b. rw e (get_or-set_other ws₁' (6 * m + n) (6 * m + x) i 0 (λ w. b (omega arith))
        ∙ get_or-set_other ws₁ (6 * m + t) (6 * m + x) (next_of ws₁ m n) 0 (λ w. a (omega arith)) ∙ names-first x));
    columns = λ y a b. get_or_before y frame_rows b ∙ get_d_after y H.frame a;
    frame = let z : 6 * m + m ≡ 7 * m = omega arith in rw z (frame_then (frame_wider 0 (7 * m) H.frame (omega arith) (omega arith)) (frame_wider 0 (7 * m) frame_rows (omega arith) (omega arith)));
  }

pub rows_in : (ws : List ℕ) (m n t v : ℕ) → 6 * m + m ≤ length ws → n < m → 6 * m + n < length (set ws (6 * m + t) v)
rows_in ws m n t v h g = rw (length-set ws (6 * m + t) v) (omega arith)
