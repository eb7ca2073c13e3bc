-- All lists after a merge, in one of two ways: carried into the other half after the joined one, or renamed where they are, with the joined one past them.
-- Both leave the joined list as it was written and the others renamed (`Settled`), so both give `Relisted`; and the lists lie apart below the top (`Laid`).
use Prim.Native.Nat.{ℕ, ◌+◌, ◌-◌, ◌*◌, ◌≤◌, ◌<◌}
use native.Mathlib.Omega.{arith}
use native.Mathlib.Decide.{ℕ_discrete, dec_lt}
use mathlib.Core.Path.{◌≡◌, refl, sym, ap, ◌∙◌}
use mathlib.Core.Logic.{⊎_elim, ◌⊎◌, inl, inr}
use mathlib.Core.List.{List, []}
use lib.ListN.{length, get_or}
use Rattle.laws.specs.Sums.{sum_to}
use Rattle.laws.proofs.Sums.{sum_same}
use Rattle.table.specs.View.{part, start_of, end_of, list_at}
use Rattle.table.proofs.ViewLaws.{list_same, wide-same, part_none}
use Rattle.space.specs.Space.{Frame}
use Rattle.space.proofs.Laws.{sec-same, get_or_before, get_d_after}
use Rattle.rules.specs.Records.{has}
use mathlib.Core.Bool.{true}
use Rattle.pool.specs.Pool.{without, len_at, rest_to, new_list, joined_list, Halves, Pool, Beside, Apart, Owned, Laid, Outside, EachLists, Sources, There, Carried, Rows, Free, Swept, Standing, Target, Absorbed, Relisted}
use Rattle.pool.specs.Lists.{swap_one}
use Rattle.pool.specs.Bearers.{Owners}
use Rattle.pool.specs.Links.{held_from, Linked, LinkRoom, LinksPast, Mentions}
use Rattle.pool.specs.Sweep.{Reached, Searched}
use Rattle.pool.proofs.BearerLaws.{bearers_same}
use Rattle.pool.proofs.MentionLaws.{linked_same, mentions_here, mentions_there}
use Rattle.pool.proofs.AbsorbLaws.{by_three, absorbed_in, absorbed_lists, absorbed_len, absorbed_id}
use Rattle.pool.proofs.RenameLaws.{swept_less, swept_apart}
use Rattle.pool.proofs.OwnLaws.{past_start, past_end, halves-same, halves-turn}
use Rattle.pool.proofs.SumLaws.{sum_split, sum-two, without-two}

pub len_is : (ws : List ℕ) (m r a e : ℕ) → a ≡ start_of ws m (7 * m) r → e ≡ end_of ws m (7 * m) r → e - a ≡ len_at ws m r
unfolding len_at
len_is ws m r a e p q = rw (p, q)

-- the joined list stays at to .. e, and all others are renamed, from lo to hi
record Settled (m i n old new to e lo hi : ℕ) (ws ws' : List ℕ) : Type 0 where
  pub there : (x : ℕ) → x < m → (x ≡ i → ⊥) → (x ≡ n → ⊥) → There m x old new lo hi ws ws'
  pub first : start_of ws' m (7 * m) n ≡ to
  pub last : end_of ws' m (7 * m) n ≡ e
  pub bare : start_of ws' m (7 * m) i ≡ e
  pub bare' : end_of ws' m (7 * m) i ≡ e
  pub joined : part to e ws' ≡ part to e ws

-- ---- the half at b, either way

module _ (m p b n k i j to : ℕ) (ws : List ℕ) (T : Target m n i to (b + p) ws) (Q : EachLists m n k i j ws) (past : 11 * m ≤ b) (B : b ≤ to) (few : sum_to (len_at ws m) m ≤ p)
    (waits : (x : ℕ) → x < m → (x ≡ i → ⊥) → (x ≡ n → ⊥) → (11 * m ≤ start_of ws m (7 * m) x) × ((end_of ws m (7 * m) x ≤ to) ⊎ (b + p ≤ start_of ws m (7 * m) x)))
    (ws₁ : List ℕ) (old new e : ℕ) (l : length ws₁ ≡ length ws) (A : Absorbed m n k i j old new to (b + p) e ws ws₁) where
  e_in : e ≤ b + p
  e_in = absorbed_in m n k i j to (b + p) ws T Q ws₁ old new e l A

  -- a list that waited
  list_kept : (x : ℕ) → x < m → (x ≡ i → ⊥) → (x ≡ n → ⊥) → list_at ws₁ m (7 * m) x ≡ list_at ws m (7 * m) x
  list_kept x g c d =
      list_same ws ws₁ m (7 * m) x (A.starts x g c d) (A.stops x g c d) (T.lists.order x g) (T.lists.within x g) l (λ y u v.
      A.kept y (inr (omega (arith, (waits x g c d).0)), ⊎_elim (λ (w : end_of ws m (7 * m) x ≤ to). inl (omega arith)) (λ (w : b + p ≤ start_of ws m (7 * m) x). inr (omega arith)) (waits x g c d).1))

  module _ (ws₂ : List ℕ) (lo hi : ℕ) (l₂ : length ws₂ ≡ length ws₁) (S : Settled m i n old new to e lo hi ws₁ ws₂) (low : b ≤ lo) (high : hi ≤ b + p)
      (kept : (y : ℕ) → Outside m b (b + p) y → get_or ws₂ y 0 ≡ get_or ws₁ y 0) where
    joined_at : list_at ws₂ m (7 * m) n ≡ joined_list (list_at ws m (7 * m) n) (list_at ws m (7 * m) i) k j old new
    unfolding list_at
    joined_at = rw (S.first, S.last) (S.joined ∙ A.list)

    bare-at : list_at ws₂ m (7 * m) i ≡ []
    unfolding list_at
    bare-at = rw (S.bare, S.bare') (part_none e e ws₂ (omega arith))

    others-at : (x : ℕ) → x < m → (x ≡ i → ⊥) → (x ≡ n → ⊥) → list_at ws₂ m (7 * m) x ≡ new_list old new (get_or ws x 0) (list_at ws m (7 * m) x)
    others-at x g c d =
        (S.there x g c d).list ∙ ap (λ (y : ℕ). new_list old new y (list_at ws₁ m (7 * m) x)) (absorbed_id m n k i j to (b + p) ws T Q ws₁ old new e l A x g)
        ∙ ap (new_list old new (get_or ws x 0)) (list_kept x g c d)

    by_there : (K : ℕ → ℕ → Type 0) (x : ℕ) → x < m → K to e → K e e → (There m x old new lo hi ws₁ ws₂ → K (start_of ws₂ m (7 * m) x) (end_of ws₂ m (7 * m) x))
        → K (start_of ws₂ m (7 * m) x) (end_of ws₂ m (7 * m) x)
    by_there K x g u v c =
        elim (ℕ_discrete x i) [
          | yes q ↦ rw (q, S.bare, S.bare') v
          | no q ↦ elim (ℕ_discrete x n) [ yes w ↦ rw (w, S.first, S.last) u | no w ↦ c (S.there x g q w) ]
        ]

    len_n₂ : len_at ws₂ m n ≡ e - to
    unfolding len_at
    len_n₂ = rw (S.first, S.last)

    len_i₂ : len_at ws₂ m i ≡ 0
    unfolding len_at
    len_i₂ = rw (S.bare, S.bare') (omega arith)

    settled_relisted : (c links : ℕ) → Relisted m p n k i j old new b c links ws ws₂
    settled_relisted c links = record {
      joined = joined_at;
      bare = bare-at;
      others = others-at;
      parts = record {
        room = rw (l₂, l) T.lists.room;
        past = T.lists.past;
        order = λ x g. by_there (λ u v. u ≤ v) x g A.order (omega arith) (λ t. t.order);
        within = λ x g. by_there (λ u v. v ≤ length ws₂) x g (omega (arith, e_in, T.into)) (omega (arith, e_in, T.into)) (λ t. omega (arith, t.upto, T.into));
        far = λ x g. by_there (λ u v. 7 * m ≤ u) x g (omega (arith, T.past)) (omega (arith, A.order, T.past)) (λ t. omega (arith, t.from));
      };
      from = λ x g. by_there (λ u v. b ≤ u) x g B (omega (arith, A.order)) (λ t. omega (arith, t.from));
      upto = λ x g. by_there (λ u v. v ≤ b + p) x g e_in e_in (λ t. omega (arith, t.upto));
      room = omega (
        arith,
        few,
        sum-two (len_at ws m) i n m Q.second Q.first Q.apart (len_at ws₂ m)
            (λ x g c d. omega (arith, (S.there x g c d).short, absorbed_len m n k i j to (b + p) ws T Q ws₁ old new e l A x g c d)) (omega (arith, len_n₂, len_i₂, A.short)),
      );
      kept = λ y g _ _. kept y g ∙ A.kept y (g.0, ⊎_elim (λ (w : y < b). inl (omega arith)) (λ (w : b + p ≤ y). inr w) g.1);
    }

-- what is then written in the half at c, and from the links on, leaves the lists as they are
module _ (m p n k i j old new b c links : ℕ) (ws ws₂ ws₄ : List ℕ) (H : Halves m p b c ws) (Y : LinksPast m p b c links ws) (l₂ : length ws₂ ≡ length ws) (l₄ : length ws₄ ≡ length ws₂)
    (R : Relisted m p n k i j old new b c links ws ws₂) (E : (y : ℕ) → (y < c) ⊎ (c + p ≤ y) → y < links → get_or ws₄ y 0 ≡ get_or ws₂ y 0) where
  low_₄ : (y : ℕ) → y < 16 * m → get_or ws₄ y 0 ≡ get_or ws₂ y 0
  low_₄ y g = E y (inl (omega (arith, H.past'))) (omega (arith, H.past, Y.past))

  start_₄ : (x : ℕ) → x < m → start_of ws₄ m (7 * m) x ≡ start_of ws₂ m (7 * m) x
  start_₄ x g = wide-same ws₂ ws₄ m (7 * m + x) (low_₄ (7 * m + x) (omega arith)) (low_₄ (7 * m + x + m) (omega arith))

  end_₄ : (x : ℕ) → x < m → end_of ws₄ m (7 * m) x ≡ end_of ws₂ m (7 * m) x
  end_₄ x g = wide-same ws₂ ws₄ m (7 * m + 2 * m + x) (low_₄ (7 * m + 2 * m + x) (omega arith)) (low_₄ (7 * m + 2 * m + x + m) (omega arith))

  list_₄ : (x : ℕ) → x < m → list_at ws₄ m (7 * m) x ≡ list_at ws₂ m (7 * m) x
  list_₄ x g = list_same ws₂ ws₄ m (7 * m) x (start_₄ x g) (end_₄ x g) (R.parts.order x g) (R.parts.within x g) l₄ (λ y u v.
      E y (⊎_elim (λ (w : b + p ≤ c). inl (omega (arith, R.upto x g))) (λ (w : c + p ≤ b). inr (omega (arith, R.from x g))) H.apart) (omega (arith, R.upto x g, Y.past)))

  len_₄ : (x : ℕ) → x < m → len_at ws₄ m x ≡ len_at ws₂ m x
  unfolding len_at
  len_₄ x g = rw (start_₄ x g, end_₄ x g)

  relisted_still : n < m → i < m → Relisted m p n k i j old new b c links ws ws₄
  relisted_still hn hi = record {
    joined = list_₄ n hn ∙ R.joined;
    bare = list_₄ i hi ∙ R.bare;
    others = λ x g u v. list_₄ x g ∙ R.others x g u v;
    parts = record {
      room = rw l₄ R.parts.room;
      past = R.parts.past;
      order = λ x g. rw (start_₄ x g, end_₄ x g) (R.parts.order x g);
      within = λ x g. rw (end_₄ x g, l₄) (R.parts.within x g);
      far = λ x g. rw (start_₄ x g) (R.parts.far x g);
    };
    from = λ x g. rw (start_₄ x g) (R.from x g);
    upto = λ x g. rw (end_₄ x g) (R.upto x g);
    room = rw (sum_same (len_at ws₄ m) (len_at ws₂ m) m len_₄) R.room;
    kept = λ y g w v. E y w v ∙ R.kept y g w v;
  }

-- the links lie past all floors as they did
module _ (m p n k i j old new b c links : ℕ) (ws ws' : List ℕ) (H : Halves m p b c ws) (Y : LinksPast m p b c links ws) (l : length ws' ≡ length ws)
    (R : Relisted m p n k i j old new b c links ws ws') where
  relisted_low : (y : ℕ) → (y < 7 * m) ⊎ (11 * m ≤ y) → y < 16 * m → get_or ws' y 0 ≡ get_or ws y 0
  relisted_low y w g = R.kept y (w, inl (omega (arith, H.past))) (inl (omega (arith, H.past'))) (omega (arith, H.past, Y.past))

  links_still : LinksPast m p b c links ws'
  links_still = record {
    past = Y.past;
    past' = Y.past';
    into = rw l Y.into;
    floors = λ r g. rw (wide-same ws ws' m (11 * m + 2 * m + r) (relisted_low (11 * m + 2 * m + r) (inr (omega arith)) (omega arith)) (relisted_low (11 * m + 2 * m + r + m) (inr (omega arith)) (omega arith))) (Y.floors r g);
  }

links_turn : (m p h o links : ℕ) (ws : List ℕ) → LinksPast m p h o links ws → LinksPast m p o h links ws
links_turn m p h o links ws Y = record { past = Y.past'; past' = Y.past; into = Y.into; floors = Y.floors }

-- two records, and all others apart from both
apart_by : (m i n : ℕ) (ws : List ℕ) → Beside ws m n i → ((x : ℕ) → x < m → (x ≡ i → ⊥) → (x ≡ n → ⊥) → Beside ws m x i × Beside ws m x n)
    → ((x y : ℕ) → x < m → y < m → (x ≡ y → ⊥) → (x ≡ i → ⊥) → (x ≡ n → ⊥) → (y ≡ i → ⊥) → (y ≡ n → ⊥) → Beside ws m x y) → Apart m ws
apart_by m i n ws two one rest = record {
  apart = λ x y g k d. elim (ℕ_discrete x i) [
    | yes a ↦ elim (ℕ_discrete y n) [
      | yes b ↦ rw (a, b) (back n i two)
      | no b ↦ rw a (back y i (one y k (λ e. d (a ∙ sym e)) b).0)
    ]
    | no a ↦ elim (ℕ_discrete x n) [
      | yes b ↦ elim (ℕ_discrete y i) [
        | yes c ↦ rw (b, c) two
        | no c ↦ rw b (back y n (one y k c (λ e. d (b ∙ sym e))).1)
      ]
      | no b ↦ elim (ℕ_discrete y i) [
        | yes c ↦ rw c (one x g a b).0
        | no c ↦ elim (ℕ_discrete y n) [ yes e ↦ rw e (one x g a b).1 | no e ↦ rest x y g k d a b c e ]
      ]
    ]
  ];
}
  where
    back : (x y : ℕ) → Beside ws m x y → Beside ws m y x
    back x y s = ⊎_elim (λ (a : end_of ws m (7 * m) x ≤ start_of ws m (7 * m) y). inr a) (λ (a : end_of ws m (7 * m) y ≤ start_of ws m (7 * m) x). inl a) s

-- ---- into the other half

module _ (m p h o n k i j : ℕ) (ws : List ℕ) (P : Pool m p h o ws) (Q : EachLists m n k i j ws) (links : ℕ) (Y : LinksPast m p h o links ws) where
  pair_room : len_at ws m i + len_at ws m n + rest_to ws m i n m ≤ p
  unfolding rest_to
  pair_room = omega (arith, P.room, sum_split (len_at ws m) i n m Q.second Q.first Q.apart)

  -- a list lies apart from the other half
  across : (r : ℕ) → r < m → (end_of ws m (7 * m) r ≤ o) ⊎ (o + p ≤ start_of ws m (7 * m) r)
  across r g = ⊎_elim (λ (w : h + p ≤ o). inl (omega (arith, P.upto r g))) (λ (w : o + p ≤ h). inr (omega (arith, P.from r g))) P.halves.apart

  pub target_there : Target m n i o (o + p) ws
  target_there = record {
    lists = P.held.lists;
    apart = across n Q.first;
    apart' = across i Q.second;
    past = omega (arith, P.halves.past');
    into = P.halves.into';
    fits = P.halves.fits';
    room = omega (arith, pair_room);
  }

  module _ (ws₁ : List ℕ) (old new e : ℕ) (l : length ws₁ ≡ length ws) (A : Absorbed m n k i j old new o (o + p) e ws ws₁) where
    rest_kept : rest_to ws₁ m i n m ≡ rest_to ws m i n m
    unfolding rest_to
    rest_kept =
        sum_same (without (without (len_at ws₁ m) i) n) (without (without (len_at ws m) i) n) m (λ x q.
        without-two (len_at ws₁ m) (len_at ws m) i n x (λ a b. absorbed_len m n k i j o (o + p) ws target_there Q ws₁ old new e l A x q a b))

    pub sources_there : Sources m i n e (o + p) ws₁
    sources_there = record {
      lists = absorbed_lists m n k i j o (o + p) ws target_there Q ws₁ old new e l A;
      far = λ r g x y. rw (A.starts r g x y) (omega (arith, P.from r g, P.halves.past));
      apart = λ r g x y. rw (A.starts r g x y, A.stops r g x y)
          (⊎_elim (λ (w : end_of ws m (7 * m) r ≤ o). inl (omega (arith, A.order))) (λ (w : o + p ≤ start_of ws m (7 * m) r). inr w) (across r g));
      past = omega (arith, A.order, P.halves.past');
      into = rw l P.halves.into';
      fits = P.halves.fits';
      room = omega (arith, A.short, pair_room, rest_kept);
    }

    module _ (ws₂ : List ℕ) (r : ℕ) (l₂ : length ws₂ ≡ length ws₁) (C : Carried m i n 0 old new e r (o + p) ws₁ ws₂) where
      settled_there : Settled m i n old new o e e r ws₁ ws₂
      unfolding part
      settled_there = record {
        there = λ x g a b. C.there x (omega arith) g a b;
        first = C.starts n Q.first (inr (inr refl)) ∙ A.first;
        last = C.stops n Q.first (inr (inr refl)) ∙ A.last;
        bare = C.starts i Q.second (inr (inl refl)) ∙ A.bare;
        bare' = C.stops i Q.second (inr (inl refl)) ∙ A.bare';
        joined = sec-same ws₁ ws₂ o (e - o) (omega (arith, A.order, absorbed_in m n k i j o (o + p) ws target_there Q ws₁ old new e l A, P.halves.into')) l₂ (λ y c d.
            C.kept y (inr (omega (arith, P.halves.past')), inl (omega arith)));
      }

      relisted_carried : Relisted m p n k i j old new o h links ws ws₂
      relisted_carried =
          settled_relisted m p o n k i j o ws target_there Q (omega (arith, P.halves.past')) (omega arith) P.room (λ x g _ _. (omega (arith, P.from x g, P.halves.past), across x g)) ws₁ old new e l A
          ws₂ e r l₂ settled_there A.order (omega (arith, C.room)) (λ y g. C.kept y (g.0, ⊎_elim (λ (w : y < o). inl (omega (arith, A.order))) (λ (w : o + p ≤ y). inr w) g.1)) h links

      below_there : (x : ℕ) → x < m → end_of ws₂ m (7 * m) x ≤ r
      below_there x g = elim (ℕ_discrete x i) [
        | yes a ↦ rw (a, settled_there.bare') C.order
        | no a ↦ elim (ℕ_discrete x n) [ yes b ↦ rw (b, settled_there.last) C.order | no b ↦ (C.there x (omega arith) g a b).upto ]
      ]

      apart_there : Apart m ws₂
      apart_there = apart_by m i n ws₂ (inl (omega (arith, settled_there.last, settled_there.bare)))
          (λ x g a b. let t = C.there x (omega arith) g a b in (inr (omega (arith, t.from, settled_there.bare')), inr (omega (arith, t.from, settled_there.last))))
          (λ x y g k d a b a' b'. elim (dec_lt x y) [
            | yes w ↦ inr (C.apart x y (omega arith) w k a b a' b')
            | no w ↦ inl (C.apart y x (omega arith) (omega arith) g a' b' a b)
          ])

      halves_there : Halves m p o h ws
      halves_there = halves-turn m p h o ws P.halves

      pub standing_there : Standing m p o h ws₂
      standing_there = record {
        few = P.held.few;
        rows = record {
          lists = relisted_carried.parts;
          far = λ x g. omega (arith, relisted_carried.from x g, P.halves.past');
          apart = apart_there;
        };
        halves = halves-same m p o h ws ws₂ (l₂ ∙ l) halves_there;
        from = relisted_carried.from;
        upto = relisted_carried.upto;
      }

      module _ (ws₃ : List ℕ) (l₃ : length ws₃ ≡ length ws₂) (F : Frame h (h + p) ws₂ ws₃) where
        pub link_room : LinkRoom m p o r links ws₃
        link_room = record {
          order = omega (arith, A.order, C.order);
          upto = omega (arith, C.room);
          past = Y.past';
          into = omega (arith, Y.into);
          fits = omega (arith, P.halves.fits, P.halves.past, Q.first);
        }

        module _ (ws₄ : List ℕ) (l₄ : length ws₄ ≡ length ws₃) (K : Linked m p links (r - o) (held_from ws₃ o) ws₄) (G : Frame links (links + 2 * p + 2 * m) ws₃ ws₄) where
          else_still : (y : ℕ) → (y < h) ⊎ (h + p ≤ y) → y < links → get_or ws₄ y 0 ≡ get_or ws₂ y 0
          else_still y w g = get_or_before y G g ∙ ⊎_elim (λ (v : y < h). get_or_before y F v) (λ (v : h + p ≤ y). get_d_after y F v) w

          Y' : LinksPast m p o h links ws
          Y' = links_turn m p h o links ws Y

          pub relisted_there : Relisted m p n k i j old new o h links ws ws₄
          relisted_there = relisted_still m p n k i j old new o h links ws ws₂ ws₄ halves_there Y' (l₂ ∙ l) (l₄ ∙ l₃) relisted_carried else_still Q.first Q.second

          starts_₄ : (x : ℕ) → x < m → start_of ws₄ m (7 * m) x ≡ start_of ws₂ m (7 * m) x
          starts_₄ = start_₄ m p n k i j old new o h links ws ws₂ ws₄ halves_there Y' (l₂ ∙ l) (l₄ ∙ l₃) relisted_carried else_still

          ends_₄ : (x : ℕ) → x < m → end_of ws₄ m (7 * m) x ≡ end_of ws₂ m (7 * m) x
          ends_₄ = end_₄ m p n k i j old new o h links ws ws₂ ws₄ halves_there Y' (l₂ ∙ l) (l₄ ∙ l₃) relisted_carried else_still

          ids_₄ : (y : ℕ) → y < m → get_or ws₄ y 0 ≡ get_or ws y 0
          ids_₄ y g = relisted_low m p n k i j old new o h links ws ws₄ halves_there Y' (l₄ ∙ l₃ ∙ l₂ ∙ l) relisted_there y (inl (omega arith)) (omega arith)

          module _ (W : Owners m n i ws) (eo : old ≡ i) (en : new ≡ n) (O : Owned m o h (o + p) ws₃) where
            starts_₃ : (x : ℕ) → x < m → start_of ws₃ m (7 * m) x ≡ start_of ws₂ m (7 * m) x
            starts_₃ = past_start m h (h + p) ws₂ ws₃ F (omega (arith, P.halves.past))

            ends_₃ : (x : ℕ) → x < m → end_of ws₃ m (7 * m) x ≡ end_of ws₂ m (7 * m) x
            ends_₃ = past_end m h (h + p) ws₂ ws₃ F (omega (arith, P.halves.past))

            mentions_₄ : Mentions m p h links (swap_one old new) ws₄
            mentions_₄ = rw (eo, en) (
                mentions_there m p n k i j o h links ws ws₄ W (rw (eo, en) at relisted_there) ids_₄ h o P r (omega (arith, C.room)) relisted_there.from (λ x g. rw (ends_₄ x g) (below_there x g))
                (held_from ws₃ o) (λ q g. sym (get_or_before (o + q) G (omega (arith, C.room, Y.past')))) K
                (λ x q g u v. get_or_before (h + (q - o)) G (omega (arith, Y.past, rw (ends_₄ x g) at v, below_there x g, C.room, relisted_there.from x g))
                ∙ O.own x q g (rw (starts_₃ x g, ← starts_₄ x g) u) (rw (ends_₃ x g, ← ends_₄ x g) v) (omega (arith, rw (ends_₄ x g) at v, below_there x g, C.room))))

            pub laid_there : Laid m p o h r links (swap_one old new) ws₄
            laid_there = record {
              room = links_still m p n k i j old new o h links ws ws₄ halves_there Y' (l₄ ∙ l₃ ∙ l₂ ∙ l) relisted_there;
              from = omega (arith, A.order, C.order);
              upto = omega (arith, C.room);
              below = λ _ x g. rw (ends_₄ x g) (below_there x g);
              apart = λ _. record { apart = λ x y g q d. rw (starts_₄ x g, ends_₄ x g, starts_₄ y q, ends_₄ y q) (apart_there.apart x y g q d) };
              mentions = λ _. mentions_₄;
            }

-- ---- in place

module _ (m p h o top n k i j links : ℕ) (ws : List ℕ) (P : Pool m p h o ws) (D : Laid m p h o top links (λ y. y) ws) (Q : EachLists m n k i j ws) (room : len_at ws m n + len_at ws m i ≤ h + p - top) where
  free : top < h + p
  free = omega (arith, D.upto, Q.lists)

  pub target_here : Target m n i top (h + p) ws
  target_here = record {
    lists = P.held.lists;
    apart = inl (D.below free n Q.first);
    apart' = inl (D.below free i Q.second);
    past = omega (arith, P.halves.past, D.from);
    into = P.halves.into;
    fits = P.halves.fits;
    room = omega (arith, D.upto);
  }

  module _ (ws₁ : List ℕ) (old new e : ℕ) (l : length ws₁ ≡ length ws) (A : Absorbed m n k i j old new top (h + p) e ws ws₁) where
    e_fits : e ≤ h + p
    e_fits = absorbed_in m n k i j top (h + p) ws target_here Q ws₁ old new e l A

    others_wait : (x : ℕ) → x < m → (x ≡ i → ⊥) → (x ≡ n → ⊥) → (11 * m ≤ start_of ws m (7 * m) x) × ((end_of ws m (7 * m) x ≤ top) ⊎ (h + p ≤ start_of ws m (7 * m) x))
    others_wait x g _ _ = (omega (arith, P.from x g, P.halves.past), inl (D.below free x g))

    others_below : (x : ℕ) → x < m → (x ≡ i → ⊥) → (x ≡ n → ⊥) → end_of ws₁ m (7 * m) x ≤ top
    others_below x g a b = rw (A.stops x g a b) (D.below free x g)

    rows_here : Rows m ws₁
    rows_here = record {
      lists = absorbed_lists m n k i j top (h + p) ws target_here Q ws₁ old new e l A;
      far = λ r g. by_three m n k i j top (h + p) ws target_here Q ws₁ old new e l A (λ a b. 11 * m ≤ a) r g (λ _ _. omega (arith, P.from r g, P.halves.past)) target_here.past
          (omega (arith, A.order, target_here.past));
      apart = apart_by m i n ws₁ (inl (omega (arith, A.last, A.bare)))
          (λ x g a b. (inl (omega (arith, others_below x g a b, A.order, A.bare)), inl (omega (arith, others_below x g a b, A.first))))
          (λ x y g k d a b a' b'. rw (A.starts x g a b, A.stops x g a b, A.starts y k a' b', A.stops y k a' b') ((D.apart free).apart x y g k d));
    }

    -- a place of the other half is as it was, and so is what lies past the halves
    other_half : (q : ℕ) → q < p → get_or ws₁ (o + q) 0 ≡ get_or ws (o + q) 0
    other_half q u = A.kept (o + q) (
      inr (omega (arith, P.halves.past')),
      ⊎_elim (λ (w : h + p ≤ o). inr (omega arith)) (λ (w : o + p ≤ h). inl (omega (arith, D.from))) P.halves.apart,
    )

    links_kept : (y : ℕ) → links ≤ y → get_or ws₁ y 0 ≡ get_or ws y 0
    links_kept y g = A.kept y (inr (omega (arith, P.halves.past, D.room.past)), inr (omega (arith, D.room.past)))

    ids_kept : (y : ℕ) → y < 7 * m → get_or ws₁ y 0 ≡ get_or ws y 0
    ids_kept y g = A.kept y (inl g, inl (omega (arith, target_here.past)))

    M : Mentions m p o links (λ y. y) ws
    M = D.mentions free

    pub reached_here : Reached m i n p o links ws₁
    reached_here = record {
      rows = rows_here;
      ids = λ r g. rw (ids_kept r (omega arith)) (P.held.ids r g);
      places = M.places;
      few = M.few;
      named = M.named;
      linked = linked_same m p links M.places M.named ws ws₁ links_kept M.linked;
      into = rw l D.room.into;
      past = omega (arith, P.halves.past');
      before = D.room.past';
      apart = λ x g a b. ⊎_elim (λ (w : h + p ≤ o). inl (omega (arith, others_below x g a b, D.upto))) (λ (w : o + p ≤ h). inr (rw (A.starts x g a b) (omega (arith, P.from x g)))) P.halves.apart;
      upto = λ x g a b. omega (arith, others_below x g a b, D.upto, D.room.past);
    }

    pub searched_here : Owners m n i ws → old ≡ i → Searched m i n old p o links ws₁
    unfolding reached_here
    searched_here O d = record {
      reached = reached_here;
      bearers = bearers_same m ws ws₁ (λ y g. ids_kept y (omega arith)) (λ y g. ids_kept (6 * m + y) (omega arith)) P.bearers;
      borne = rw d (O.second, ids_kept i (omega (arith, O.second)) ∙ O.own', O.some');
      tells = λ x g a b z t.
          let u : has (list_at ws m (7 * m) x) i ≡ true = rw (← d) (ap (λ (y : List ℕ). has y old) (sym (list_kept m p h n k i j top ws target_here Q (omega (arith, P.halves.past)) D.from P.room others_wait ws₁ old new e l A x g a b)) ∙ t) in
          let v = M.listed x i g O.second (λ w. z (ids_kept x (omega arith) ∙ w)) O.some' O.own' u in
          let s = other_half v.place (omega (arith, v.inside, M.few)) in
          record {
            place = v.place;
            inside = v.inside;
            names = v.names;
            is = ids_kept (M.named v.place) (omega (arith, v.names)) ∙ v.is ∙ sym d;
            beside = rw s v.beside;
            bears = rw s (ids_kept (get_or ws (o + v.place) 0) (omega (arith, v.beside)) ∙ v.bears);
          };
    }

    module _ (ws₂ : List ℕ) (l₂ : length ws₂ ≡ length ws₁) (W : Swept m i n old new ws₁ ws₂) where
      there_at : (x : ℕ) → x < m → (x ≡ i → ⊥) → (x ≡ n → ⊥) → There m x old new h top ws₁ ws₂
      unfolding len_at
      there_at x g a b =
          let s = W.done x g a b in
          record {
            from = rw (W.starts x g, A.starts x g a b) (P.from x g);
            order = rw (W.starts x g) s.order;
            upto = omega (arith, s.upto, others_below x g a b);
            list = s.list;
            short = rw (W.starts x g) (omega (arith, s.upto));
          }

      settled_here : Settled m i n old new top e h top ws₁ ws₂
      unfolding part
      settled_here = record {
        there = there_at;
        first = W.starts n Q.first ∙ A.first;
        last = W.stops n Q.first (inr refl) ∙ A.last;
        bare = W.starts i Q.second ∙ A.bare;
        bare' = W.stops i Q.second (inl refl) ∙ A.bare';
        joined = sec-same ws₁ ws₂ top (e - top) (omega (arith, A.order, e_fits, P.halves.into)) l₂ (λ y c d.
            W.kept y (record { table = inr (omega (arith, target_here.past)); lists = λ x g a b. inr (omega (arith, others_below x g a b)) }));
      }

      pub relisted_here : Relisted m p n k i j old new h o links ws ws₂
      relisted_here =
          settled_relisted m p h n k i j top ws target_here Q (omega (arith, P.halves.past)) D.from P.room
          others_wait ws₁ old new e l A ws₂ h top l₂ settled_here (omega arith) D.upto (λ y g.
          W.kept y (record {
            table = g.0;
            lists = λ x q a b. ⊎_elim (λ (w : y < h). inl (rw (A.starts x q a b) (omega (arith, P.from x q)))) (λ (w : h + p ≤ y). inr (omega (arith, others_below x q a b, D.upto))) g.1;
          })) o links

      below_here : (x : ℕ) → x < m → end_of ws₂ m (7 * m) x ≤ e
      below_here x g = omega (
        arith,
        swept_less m i n old new ws₁ ws₂ rows_here W x g,
        by_three m n k i j top (h + p) ws target_here Q ws₁ old new e l A (λ a b. b ≤ e) x g (λ _ _. omega (arith, D.below free x g, A.order)) (omega arith) (omega arith),
      )

      -- nothing past the halves is in a list
      free_past : (y : ℕ) → h + p ≤ y → Free m i n y ws₁
      free_past y g = record { table = inr (omega (arith, P.halves.past)); lists = λ x q a b. inr (omega (arith, others_below x q a b, D.upto)) }

      free_beside : (q : ℕ) → q < p → Free m i n (o + q) ws₁
      free_beside q u = record {
        table = inr (omega (arith, P.halves.past'));
        lists = λ x g a b. ⊎_elim (λ (w : h + p ≤ o). inr (omega (arith, others_below x g a b, D.upto))) (λ (w : o + p ≤ h). inl (rw (A.starts x g a b) (omega (arith, P.from x g)))) P.halves.apart;
      }

      module _ (O : Owners m n i ws) (eo : old ≡ i) (en : new ≡ n) where
        mentions_₂ : Mentions m p o links (swap_one old new) ws₂
        mentions_₂ = rw (eo, en) (
            mentions_here m p n k i j h o links ws ws₂ O (rw (eo, en) at relisted_here)
            (λ y g. relisted_low m p n k i j old new h o links ws ws₂ P.halves D.room (l₂ ∙ l) relisted_here y (inl (omega arith)) (omega arith))
            (λ q g. W.kept (o + q) (free_beside q g) ∙ other_half q g) (λ y g. W.kept y (free_past y (omega (arith, D.room.past))) ∙ links_kept y g) M)

        pub laid_here : Laid m p h o e links (swap_one old new) ws₂
        laid_here = record {
          room = links_still m p n k i j old new h o links ws ws₂ P.halves D.room (l₂ ∙ l) relisted_here;
          from = omega (arith, D.from, A.order);
          upto = e_fits;
          below = λ _. below_here;
          apart = λ _. swept_apart m i n old new ws₁ ws₂ rows_here W;
          mentions = λ _. mentions_₂;
        }
