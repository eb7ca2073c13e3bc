-- Lists carried into the other half. A list that waits lies outside of what is written, and one that is carried lies below what is written next.
-- The sum of the lists that wait is the room that is left.
use Prim.Native.Nat.{ℕ, suc, ◌+◌, ◌-◌, ◌*◌, ◌≤◌, ◌<◌}
use native.Mathlib.Omega.{arith}
use native.Mathlib.Decide.{ℕ_discrete, dec_lt}
use mathlib.Core.Path.{◌≡◌, refl, sym, ap, ◌∙◌}
use mathlib.Core.Logic.{⊎_elim, ◌⊎◌, inl, inr}
use mathlib.Core.List.{List}
use lib.ListN.{length, get_or}
use borrow.Author.Tests.{eq-eqb, ne_eqb}
use Rattle.rules.specs.Base.{when◌then◌else◌}
use Rattle.space.specs.Space.{Frame}
use Rattle.space.proofs.Laws.{get_or_before, get_d_after, frame_then}
use Rattle.laws.specs.Sums.{sum_to}
use Rattle.table.specs.View.{part, start_of, end_of, list_at, Parts, Placed}
use Rattle.table.proofs.ViewLaws.{wide-same, list_same, part-after}
use Rattle.pool.specs.Part.{renamed_list}
use Rattle.pool.specs.Pool.{without, len_at, rest_to, new_list, Source, Moved, Next, Sources, There, Carried}

pub new_dead : (old new id : ℕ) (l : List ℕ) → id ≡ 0 → l ≡ new_list old new id l
unfolding new_list when◌then◌else◌
new_dead old new id l e = rw (eq-eqb id 0 e)

pub new_live : (old new id : ℕ) (l k : List ℕ) → (id ≡ 0 → ⊥) → k ≡ renamed_list old new l → k ≡ new_list old new id l
unfolding new_list when◌then◌else◌
new_live old new id l k n e = rw (ne_eqb id 0 n) e

-- ---- one record

module _ (ws : List ℕ) (m x to z a e : ℕ) (S : Source m x to z ws) (p : a ≡ start_of ws m (7 * m) x) (q : e ≡ end_of ws m (7 * m) x) where
  len_is : len_at ws m x ≡ e - a
  unfolding len_at
  len_is = rw (p, q)

  list_is : part a e ws ≡ list_at ws m (7 * m) x
  unfolding list_at
  list_is = rw (p, q)

  module _ (ws₁ ws₂ ws₃ : List ℕ) (old new f : ℕ) (l₁ : length ws₁ ≡ length ws) (l₂ : length ws₂ ≡ length ws₁) (p₁ : part to (to + (e - a)) ws₁ ≡ part a e ws)
      (f₁ : Frame to (to + (e - a)) ws ws₁) (p₂ : part to f ws₂ ≡ new_list old new (get_or ws₁ x 0) (part to (to + (e - a)) ws₁)) (b : (to ≤ f) × (f ≤ to + (e - a)))
      (f₂ : Frame to (to + (e - a)) ws₁ ws₂) (P : Placed m (7 * m) x to f ws₂ ws₃) where
    both : Frame to (to + (e - a)) ws ws₂
    both = frame_then f₁ f₂

    below : (j : ℕ) → j < 11 * m → get_or ws₂ j 0 ≡ get_or ws j 0
    below j h = get_or_before j both (omega (arith, S.past))

    pub moved_is : Moved m x old new to f ws ws₃
    moved_is = record {
      start = P.start;
      stop = P.stop;
      list = part-after to f P.kept (omega (arith, S.past)) ∙ p₂ ∙ ap (new_list old new (get_or ws₁ x 0)) (p₁ ∙ list_is)
          ∙ ap (λ (y : ℕ). new_list old new y (list_at ws m (7 * m) x)) (get_or_before x f₁ (omega (arith, S.past, S.inside)));
      order = b.0;
      short = omega (arith, b.1, len_is);
      starts = λ y h n. P.starts y h n ∙ wide-same ws ws₂ m (7 * m + y) (below (7 * m + y) (omega arith)) (below (7 * m + y + m) (omega arith));
      stops = λ y h n. P.stops y h n ∙ wide-same ws ws₂ m (7 * m + 2 * m + y) (below (7 * m + 2 * m + y) (omega arith)) (below (7 * m + 2 * m + y + m) (omega arith));
      kept = λ j o.
          ⊎_elim (λ (h : j < 7 * m). get_or_before j P.kept h) (λ (h : 11 * m ≤ j). get_d_after j P.kept (omega arith)) o.0
          ∙ ⊎_elim (λ (h : j < to). get_or_before j both h) (λ (h : to + len_at ws m x ≤ j). get_d_after j both (omega (arith, len_is))) o.1;
    }

-- ---- all of them

pub without-same : (f : ℕ → ℕ) (i : ℕ) → without f i i ≡ 0
unfolding without when◌then◌else◌
without-same f i = rw (eq-eqb i i refl)

pub without_other : (f : ℕ → ℕ) (i x : ℕ) → (x ≡ i → ⊥) → without f i x ≡ f x
unfolding without when◌then◌else◌
without_other f i x h = rw (ne_eqb x i h)

rest_more : (ws : List ℕ) (m i n c : ℕ) → (c ≡ i → ⊥) → (c ≡ n → ⊥) → rest_to ws m i n (suc c) ≡ len_at ws m c + rest_to ws m i n c
unfolding rest_to sum_to
rest_more ws m i n c p q = ap (λ (y : ℕ). y + sum_to (without (without (len_at ws m) i) n) c) (without_other (without (len_at ws m) i) n c q ∙ without_other (len_at ws m) i c p)

rest_skip : (ws : List ℕ) (m i n c : ℕ) → rest_to ws m i n c ≤ rest_to ws m i n (suc c)
unfolding rest_to sum_to
rest_skip ws m i n c = omega arith

past_it : (c x : ℕ) → c ≤ x → (x ≡ c → ⊥) → suc c ≤ x
past_it c x h n = omega arith

module _ (m i n c old new lo hi z : ℕ) (ws₀ ws : List ℕ) (S : Sources m i n lo z ws₀) (l : length ws ≡ length ws₀) (h : c < m) (C : Carried m i n (suc c) old new lo hi z ws₀ ws) where
  -- the next one waits as it was
  waits : (c ≡ i → ⊥) → (c ≡ n → ⊥) → (list_at ws m (7 * m) c ≡ list_at ws₀ m (7 * m) c)
  waits p q =
      list_same ws₀ ws m (7 * m) c (C.starts c h (inl (omega arith))) (C.stops c h (inl (omega arith))) (S.lists.order c h) (S.lists.within c h) l (λ k g e.
      C.kept k (inr (omega (arith, S.far c h p q)), ⊎_elim (λ (w : end_of ws₀ m (7 * m) c ≤ lo). inl (omega arith)) (λ (w : z ≤ start_of ws₀ m (7 * m) c). inr (omega arith)) (S.apart c h p q)))

  len_waits : len_at ws m c ≡ len_at ws₀ m c
  unfolding len_at
  len_waits = rw (C.starts c h (inl (omega arith)), C.stops c h (inl (omega arith)))

  id_waits : get_or ws c 0 ≡ get_or ws₀ c 0
  id_waits = C.kept c (inl (omega arith), inl (omega (arith, S.past)))

  wait_room : (c ≡ i → ⊥) → (c ≡ n → ⊥) → hi + len_at ws₀ m c ≤ z
  wait_room p q = omega (arith, C.room, rest_more ws₀ m i n c p q)

  by_state : (P : ℕ → ℕ → Type 0) (r : ℕ) → r < m → P (start_of ws₀ m (7 * m) r) (end_of ws₀ m (7 * m) r)
      → (There m r old new lo hi ws₀ ws → P (start_of ws m (7 * m) r) (end_of ws m (7 * m) r)) → P (start_of ws m (7 * m) r) (end_of ws m (7 * m) r)
  by_state P r g a b =
      elim (dec_lt r (suc c)) [
        | yes w ↦ rw (C.starts r g (inl w), C.stops r g (inl w)) a
        | no w ↦ elim (ℕ_discrete r i) [
          | yes e ↦ rw (C.starts r g (inr (inl e)), C.stops r g (inr (inl e))) a
          | no e ↦ elim (ℕ_discrete r n) [
            | yes d ↦ rw (C.starts r g (inr (inr d)), C.stops r g (inr (inr d))) a
            | no d ↦ b (C.there r (omega arith) g e d)
          ]
        ]
      ]

  lists_now : Parts m (7 * m) ws
  lists_now = record {
    room = rw l S.lists.room;
    past = S.lists.past;
    order = λ r g. by_state (λ a b. a ≤ b) r g (S.lists.order r g) (λ t. t.order);
    within = λ r g. by_state (λ a b. b ≤ length ws) r g (rw l (S.lists.within r g)) (λ t. omega (arith, t.upto, C.room, S.into));
    far = λ r g. by_state (λ a b. 7 * m ≤ a) r g (S.lists.far r g) (λ t. omega (arith, t.from, S.past));
  }

  pub source_next : (c ≡ i → ⊥) → (c ≡ n → ⊥) → Source m c hi z ws
  unfolding len_at
  source_next p q = record {
    lists = lists_now;
    inside = h;
    clear = record {
      order = lists_now.order c h;
      from = lists_now.within c h;
      room = omega (arith, wait_room p q, len_waits);
      into = omega (arith, S.into);
      apart = rw (C.starts c h (inl (omega arith)), C.stops c h (inl (omega arith)))
          (⊎_elim (λ (w : end_of ws₀ m (7 * m) c ≤ lo). inl (omega (arith, C.order))) (λ (w : z ≤ start_of ws₀ m (7 * m) c). inr w) (S.apart c h p q));
    };
    past = omega (arith, S.past, C.order);
    fits = S.fits;
  }

  -- i and n
  skip_go : (c ≡ i) ⊎ (c ≡ n) → Carried m i n c old new lo hi z ws₀ ws
  skip_go w = record {
    order = C.order;
    room = omega (arith, C.room, rest_skip ws₀ m i n c);
    there = λ x k g p q. C.there x (differs x k p q) g p q;
    starts = λ x g s. C.starts x g (⊎_elim (λ (y : x < c). inl (omega arith)) (λ (y : (x ≡ i) ⊎ (x ≡ n)). inr y) s);
    stops = λ x g s. C.stops x g (⊎_elim (λ (y : x < c). inl (omega arith)) (λ (y : (x ≡ i) ⊎ (x ≡ n)). inr y) s);
    apart = λ x y k d g a b. C.apart x y (differs x k a b) d g a b;
    kept = C.kept;
  }
    where
      differs : (x : ℕ) → c ≤ x → (x ≡ i → ⊥) → (x ≡ n → ⊥) → suc c ≤ x
      differs x k p q = elim (ℕ_discrete x c) [
        | yes e ↦ absurd (⊎_elim (λ (y : c ≡ i). p (e ∙ y)) (λ (y : c ≡ n). q (e ∙ y)) w)
        | no e ↦ omega arith
      ]

  module _ (r : ℕ) (ws' : List ℕ) (l' : length ws' ≡ length ws) (p : c ≡ i → ⊥) (q : c ≡ n → ⊥) (M : Moved m c old new hi r ws ws') where
    len_new : len_at ws' m c ≡ r - hi
    unfolding len_at
    len_new = rw (M.start, M.stop)

    new_there : There m c old new lo r ws₀ ws'
    unfolding list_at
    new_there = record {
      from = rw M.start C.order;
      order = rw (M.start, M.stop) M.order;
      upto = rw M.stop (omega arith);
      list = rw (M.start, M.stop) (M.list ∙ ap (λ (y : ℕ). new_list old new y (list_at ws m (7 * m) c)) id_waits ∙ ap (new_list old new (get_or ws₀ c 0)) (waits p q));
      short = omega (arith, len_new, M.short, len_waits);
    }

    old_there : (x : ℕ) → x < m → (x ≡ c → ⊥) → There m x old new lo hi ws₀ ws → There m x old new lo r ws₀ ws'
    unfolding len_at
    old_there x g d t = record {
      from = rw (M.starts x g d) t.from;
      order = rw (M.starts x g d, M.stops x g d) t.order;
      upto = rw (M.stops x g d) (omega (arith, t.upto, M.order));
      list = list_same ws ws' m (7 * m) x (M.starts x g d) (M.stops x g d) t.order (lists_now.within x g) l'
          (λ k a b. M.kept k (inr (omega (arith, t.from, S.past)), inl (omega (arith, t.upto)))) ∙ t.list;
      short = rw (M.starts x g d, M.stops x g d) t.short;
    }

    move_go : Carried m i n c old new lo r z ws₀ ws'
    move_go = record {
      order = omega (arith, C.order, M.order);
      room = omega (arith, C.room, rest_more ws₀ m i n c p q, M.short, len_waits);
      there = λ x k g a b. elim (ℕ_discrete x c) [
        | yes e ↦ rw e new_there
        | no e ↦ old_there x g e (C.there x (omega arith) g a b)
      ];
      starts = λ x g s. M.starts x g (other x s) ∙ C.starts x g (earlier x s);
      stops = λ x g s. M.stops x g (other x s) ∙ C.stops x g (earlier x s);
      apart = λ x y k d g a b a' b'. elim (ℕ_discrete x c) [
        | yes e ↦ rw (e, M.start, M.stops y g (λ f. omega arith)) (C.there y (omega arith) g a' b').upto
        | no e ↦ rw (M.starts x (omega arith) e, M.stops y g (λ f. omega arith)) (C.apart x y (past_it c x k e) d g a b a' b')
      ];
      kept = λ j o. M.kept j (o.0, ⊎_elim (λ (y : j < lo). inl (omega (arith, C.order))) (λ (y : z ≤ j). inr (omega (arith, wait_room p q, len_waits))) o.1) ∙ C.kept j o;
    }
      where
        other : (x : ℕ) → (x < c) ⊎ ((x ≡ i) ⊎ (x ≡ n)) → x ≡ c → ⊥
        other x s e = ⊎_elim (λ (y : x < c). omega arith) (λ (y : (x ≡ i) ⊎ (x ≡ n)). ⊎_elim (λ (w : x ≡ i). p (sym e ∙ w)) (λ (w : x ≡ n). q (sym e ∙ w)) y) s

        earlier : (x : ℕ) → (x < c) ⊎ ((x ≡ i) ⊎ (x ≡ n)) → (x < suc c) ⊎ ((x ≡ i) ⊎ (x ≡ n))
        earlier x s = ⊎_elim (λ (y : x < c). inl (omega arith)) (λ (y : (x ≡ i) ⊎ (x ≡ n)). inr y) s

  next_go : (r : ℕ) (ws' : List ℕ) → length ws' ≡ length ws → Next m c i n old new hi r ws ws' → Carried m i n c old new lo r z ws₀ ws'
  next_go r ws' l' N =
      elim (ℕ_discrete c i) [
        | yes e ↦ let s = N.skipped (inl e) in rw (s.0, s.1) (skip_go (inl e))
        | no e ↦ elim (ℕ_discrete c n) [
          | yes d ↦ let s = N.skipped (inr d) in rw (s.0, s.1) (skip_go (inr d))
          | no d ↦ move_go r ws' l' e d (N.moved e d)
        ]
      ]

-- as the code counts, down
module _ (m i n x old new lo hi z : ℕ) (ws₀ ws : List ℕ) (C : Carried m i n x old new lo hi z ws₀ ws) (g : 0 < x) (k : x ≤ m) (l : length ws ≡ length ws₀) (S : Sources m i n lo z ws₀) where
  before : Carried m i n (suc (x - 1)) old new lo hi z ws₀ ws
  before = let e : suc (x - 1) ≡ x = omega arith in rw e C

  pub carry_source : (x - 1 ≡ i → ⊥) → (x - 1 ≡ n → ⊥) → Source m (x - 1) hi z ws
  carry_source = source_next m i n (x - 1) old new lo hi z ws₀ ws S l (omega arith) before

  pub carry_go : (r : ℕ) (ws' : List ℕ) → Next m (x - 1) i n old new hi r ws ws' → length ws' ≡ length ws → Carried m i n (x - 1) old new lo r z ws₀ ws'
  carry_go r ws' N l' = next_go m i n (x - 1) old new lo hi z ws₀ ws S l (omega arith) before r ws' l' N
