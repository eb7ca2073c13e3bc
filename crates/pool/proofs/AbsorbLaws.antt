-- The joined list of two records, written apart from both, and the table's two entries for it: `absorbed_is`. It takes no more than the two lists did.
use Prim.Native.Nat.{ℕ, ◌+◌, ◌-◌, ◌*◌, ◌≤◌, ◌<◌}
use native.Mathlib.Omega.{arith}
use native.Mathlib.Decide.{ℕ_discrete}
use mathlib.Core.Path.{◌≡◌, refl, sym, ap, ◌∙◌}
use mathlib.Core.Logic.{⊎_elim, inl}
use mathlib.Core.List.{List, ◌++◌}
use lib.ListN.{length, get_or}
use Rattle.rules.specs.Merge.{around, tidy}
use Rattle.space.specs.Space.{Frame}
use Rattle.space.proofs.Laws.{get_or_before, get_d_after, frame_then, frame_wider}
use Rattle.table.specs.View.{part, start_of, end_of, list_at, Parts, Placed}
use Rattle.table.proofs.ViewLaws.{wide-same, part-after}
use Rattle.pool.specs.Part.{CopyRoom, renamed_list}
use Rattle.pool.specs.Pool.{len_at, joined_list, EachLists, Target, Absorbed}

module _ (m n k i j to z : ℕ) (ws : List ℕ) (T : Target m n i to z ws) (Q : EachLists m n k i j ws) where
  clear_first : CopyRoom (start_of ws m (7 * m) n) (end_of ws m (7 * m) n) to z ws
  unfolding len_at
  clear_first = record {
    order = T.lists.order n Q.first;
    from = T.lists.within n Q.first;
    room = omega (arith, T.room);
    into = T.into;
    apart = T.apart;
  }

  clear_second : CopyRoom (start_of ws m (7 * m) i) (end_of ws m (7 * m) i) to z ws
  unfolding len_at
  clear_second = record {
    order = T.lists.order i Q.second;
    from = T.lists.within i Q.second;
    room = omega (arith, T.room);
    into = T.into;
    apart = T.apart';
  }

  module _ (a e b f : ℕ) (qa : a ≡ start_of ws m (7 * m) n) (qe : e ≡ end_of ws m (7 * m) n) (qb : b ≡ start_of ws m (7 * m) i) (qf : f ≡ end_of ws m (7 * m) i) where
    len_n : len_at ws m n ≡ e - a
    unfolding len_at
    len_n = rw (qa, qe)

    len_i : len_at ws m i ≡ f - b
    unfolding len_at
    len_i = rw (qb, qf)

    pub join_first : CopyRoom a e to z ws
    join_first = rw (qa, qe) clear_first

    pub join_second : CopyRoom b f to z ws
    join_second = rw (qb, qf) clear_second

    pub join_entry : a + k < e
    join_entry = omega (arith, Q.lists, len_n)

    pub join_entry_2 : b + j < f
    join_entry_2 = omega (arith, Q.lists', len_i)

    pub join_room : to + (e - a) + (f - b) ≤ z
    join_room = omega (arith, T.room, len_n, len_i)

    pub join_top : (ws₁ : List ℕ) (x : ℕ) → length ws₁ ≡ length ws → (to ≤ x) × (x + 2 ≤ to + (e - a) + (f - b)) → x ≤ length ws₁
    join_top ws₁ x l g = omega (arith, g.1, join_room, T.into)

    module _ (ws₁ ws₂ : List ℕ) (old new x r : ℕ) (p₁ : part to x ws₁ ≡ tidy (around (part a e ws) k ++ around (part b f ws) j)) (x₁ : (to ≤ x) × (x + 2 ≤ to + (e - a) + (f - b)))
        (f₁ : Frame to z ws ws₁) (p₂ : part to r ws₂ ≡ renamed_list old new (part to x ws₁)) (x₂ : (to ≤ r) × (r ≤ x)) (f₂ : Frame to x ws₁ ws₂) where
      pub joined_list_lem : part to r ws₂ ≡ joined_list (list_at ws m (7 * m) n) (list_at ws m (7 * m) i) k j old new
      unfolding joined_list list_at
      joined_list_lem = p₂ ∙ ap (renamed_list old new) p₁ ∙ rw (qa, qe, qb, qf) refl

      pub joined_short : (to ≤ r) × (r ≤ to + len_at ws m n + len_at ws m i)
      joined_short = (x₂.0, omega (arith, x₁.1, x₂.1, len_n, len_i))

      pub joined_frame : Frame to z ws ws₂
      joined_frame = frame_then f₁ (frame_wider to z f₂ (omega arith) (omega (arith, x₁.1, join_room)))

  -- ---- the two table entries

  module _ (ws₁ ws₂ ws₃ : List ℕ) (old new r : ℕ) (l : part to r ws₁ ≡ joined_list (list_at ws m (7 * m) n) (list_at ws m (7 * m) i) k j old new)
      (b : (to ≤ r) × (r ≤ to + len_at ws m n + len_at ws m i)) (f₁ : Frame to z ws ws₁) (P₁ : Placed m (7 * m) n to r ws₁ ws₂) (P₂ : Placed m (7 * m) i r r ws₂ ws₃) where
    low : (y : ℕ) → y < 11 * m → get_or ws₁ y 0 ≡ get_or ws y 0
    low y g = get_or_before y f₁ (omega (arith, T.past))

    pub absorbed_is : Absorbed m n k i j old new to z r ws ws₃
    absorbed_is = record {
      first = P₂.starts n Q.first (λ e. Q.apart (sym e)) ∙ P₁.start;
      last = P₂.stops n Q.first (λ e. Q.apart (sym e)) ∙ P₁.stop;
      bare = P₂.start;
      bare' = P₂.stop;
      list = part-after to r P₂.kept (omega (arith, T.past)) ∙ part-after to r P₁.kept (omega (arith, T.past)) ∙ l;
      order = b.0;
      short = b.1;
      starts = λ y g x w. P₂.starts y g x ∙ P₁.starts y g w ∙ wide-same ws ws₁ m (7 * m + y) (low (7 * m + y) (omega arith)) (low (7 * m + y + m) (omega arith));
      stops = λ y g x w. P₂.stops y g x ∙ P₁.stops y g w ∙ wide-same ws ws₁ m (7 * m + 2 * m + y) (low (7 * m + 2 * m + y) (omega arith)) (low (7 * m + 2 * m + y + m) (omega arith));
      kept = λ y g.
          ⊎_elim (λ (w : y < 7 * m). get_or_before y P₂.kept w ∙ get_or_before y P₁.kept w) (λ (w : 11 * m ≤ y). get_d_after y P₂.kept (omega arith) ∙ get_d_after y P₁.kept (omega arith)) g.0
          ∙ ⊎_elim (λ (w : y < to). get_or_before y f₁ w) (λ (w : z ≤ y). get_d_after y f₁ w) g.1;
    }

  -- ---- after it

  module _ (ws₁ : List ℕ) (old new e : ℕ) (l : length ws₁ ≡ length ws) (A : Absorbed m n k i j old new to z e ws ws₁) where
    pub by_three : (S : ℕ → ℕ → Type 0) (r : ℕ) → r < m → ((r ≡ i → ⊥) → (r ≡ n → ⊥) → S (start_of ws m (7 * m) r) (end_of ws m (7 * m) r)) → S to e → S e e
        → S (start_of ws₁ m (7 * m) r) (end_of ws₁ m (7 * m) r)
    by_three S r g a b c =
        elim (ℕ_discrete r i) [
          | yes x ↦ rw (x, A.bare, A.bare') c
          | no x ↦ elim (ℕ_discrete r n) [
            | yes y ↦ rw (y, A.first, A.last) b
            | no y ↦ rw (A.starts r g x y, A.stops r g x y) (a x y)
          ]
        ]

    pub absorbed_in : e ≤ z
    absorbed_in = omega (arith, A.short, T.room)

    pub absorbed_lists : Parts m (7 * m) ws₁
    absorbed_lists = record {
      room = rw l T.lists.room;
      past = T.lists.past;
      order = λ r g. by_three (λ a b. a ≤ b) r g (λ _ _. T.lists.order r g) A.order (omega arith);
      within = λ r g. by_three (λ a b. b ≤ length ws₁) r g (λ _ _. rw l (T.lists.within r g)) (omega (arith, absorbed_in, T.into)) (omega (arith, absorbed_in, T.into));
      far = λ r g. by_three (λ a b. 7 * m ≤ a) r g (λ _ _. T.lists.far r g) (omega (arith, T.past)) (omega (arith, A.order, T.past));
    }

    pub absorbed_len : (r : ℕ) → r < m → (r ≡ i → ⊥) → (r ≡ n → ⊥) → len_at ws₁ m r ≡ len_at ws m r
    unfolding len_at
    absorbed_len r g x y = rw (A.starts r g x y, A.stops r g x y)

    pub absorbed_id : (x : ℕ) → x < m → get_or ws₁ x 0 ≡ get_or ws x 0
    absorbed_id x g = A.kept x (inl (omega arith), inl (omega (arith, T.past)))
