-- The marks after a merge: the absorber bears what either bore, the absorbed record none. They lie between the tables and the pool's halves,
-- so the lists, the floors and the order of the pool stay as they were.
use Prim.Native.Nat.{ℕ, ◌+◌, ◌*◌, ◌≤◌, ◌<◌}
use native.Mathlib.Omega.{arith}
use mathlib.Core.Path.{◌≡◌, refl, sym, ap, ◌∙◌}
use mathlib.Core.Logic.{⊎_elim, inl, inr}
use mathlib.Core.Bool.{Bool, true, false, not}
use mathlib.Core.List.{List}
use lib.ListN.{length, get_or, set, length-set}
use lib.Seq.{get_or-set_same, get_or-set_other}
use lib.Dec.{eqb}
use borrow.Author.Tests.{eqb-true}
use Rattle.rules.specs.Base.{when◌then◌else◌}
use Rattle.laws.proofs.Basics.{or_no, or_yes}
use Rattle.laws.proofs.Sums.{sum_same}
use Rattle.table.specs.View.{start_of, end_of, list_at, Parts}
use Rattle.table.proofs.ViewLaws.{list_same, wide-same}
use Rattle.pool.specs.Pool.{len_at, count_at, remarked, Pool, Laid, Remarked}
use Rattle.pool.proofs.BearerLaws.{bearers_same}
use Rattle.pool.proofs.MentionLaws.{mentions_via}
use Rattle.pool.proofs.OwnLaws.{halves-same}

module _ (m n i : ℕ) (ws : List ℕ) (hn : n < m) (hi : i < m) (ne : i ≡ n → ⊥) (room : 16 * m ≤ length ws) where
  -- no mark to carry
  none : eqb (get_or ws (15 * m + i) 0) 0 ≡ true → Remarked m n i ws ws
  none e = record {
    size = refl;
    kept = λ y _. refl;
    others = λ x _ _ _. refl;
    bare = eqb-true (get_or ws (15 * m + i) 0) 0 e;
    both = rw e (sym (or_no (not (eqb (get_or ws (15 * m + n) 0) 0))));
  }

  abbrev ws₁ : List ℕ
  ws₁ = set ws (15 * m + n) 1

  carried : eqb (get_or ws (15 * m + i) 0) 0 ≡ false → Remarked m n i ws (set ws₁ (15 * m + i) 0)
  carried e = record {
    size = length-set ws₁ (15 * m + i) 0 ∙ length-set ws (15 * m + n) 1;
    kept = λ y g.
        get_or-set_other ws₁ (15 * m + i) y 0 0 (λ q. ⊎_elim (λ (a : y < 15 * m). omega arith) (λ (a : 15 * m + m ≤ y). omega arith) g)
        ∙ get_or-set_other ws (15 * m + n) y 1 0 (λ q. ⊎_elim (λ (a : y < 15 * m). omega arith) (λ (a : 15 * m + m ≤ y). omega arith) g);
    others = λ x g a b.
        get_or-set_other ws₁ (15 * m + i) (15 * m + x) 0 0 (λ q. a (omega arith)) ∙ get_or-set_other ws (15 * m + n) (15 * m + x) 1 0 (λ q. b (omega arith));
    bare = get_or-set_same ws₁ (15 * m + i) 0 0 (rw (length-set ws (15 * m + n) 1) (omega arith));
    both =
        ap (λ (y : ℕ). not (eqb y 0))
        (get_or-set_other ws₁ (15 * m + i) (15 * m + n) 0 0 (λ q. ne (omega arith)) ∙ get_or-set_same ws (15 * m + n) 1 0 (omega arith))
        ∙ rw e (sym (or_yes (not (eqb (get_or ws (15 * m + n) 0) 0))));
  }

  pub remarked_is : Remarked m n i ws (remarked m n i ws)
  unfolding remarked when◌then◌else◌
  remarked_is = go (eqb (get_or ws (15 * m + i) 0) 0) refl
    where
      go : (b : Bool) → eqb (get_or ws (15 * m + i) 0) 0 ≡ b → Remarked m n i ws (when b then ws else set ws₁ (15 * m + i) 0)
      go true e = none e
      go false e = carried e

module _ (m n i : ℕ) (ws ws' : List ℕ) (M : Remarked m n i ws ws') where
  -- a table of parts
  starts : (s x : ℕ) → s + 4 * m ≤ 15 * m → x < m → start_of ws' m s x ≡ start_of ws m s x
  starts s x a g = wide-same ws ws' m (s + x) (M.kept (s + x) (inl (omega arith))) (M.kept (s + x + m) (inl (omega arith)))

  stops : (s x : ℕ) → s + 4 * m ≤ 15 * m → x < m → end_of ws' m s x ≡ end_of ws m s x
  stops s x a g =
      wide-same ws ws' m (s + 2 * m + x) (M.kept (s + 2 * m + x) (inl (omega arith))) (M.kept (s + 2 * m + x + m) (inl (omega arith)))

  module _ (p h o : ℕ) (P : Pool m p h o ws) where
    pub marked_lists : (x : ℕ) → x < m → list_at ws' m (7 * m) x ≡ list_at ws m (7 * m) x
    marked_lists x g =
        list_same ws ws' m (7 * m) x (starts (7 * m) x (omega arith) g) (stops (7 * m) x (omega arith) g) (P.held.lists.order x g) (P.held.lists.within x g)
        M.size (λ y a b. M.kept y (inr (omega (arith, P.from x g, P.halves.past))))

    pub marked_floors : (x : ℕ) → x < m → list_at ws' m (11 * m) x ≡ list_at ws m (11 * m) x
    marked_floors x g =
        list_same ws ws' m (11 * m) x (starts (11 * m) x (omega arith) g) (stops (11 * m) x (omega arith) g) (P.held.floors.order x g) (P.held.floors.within x g)
        M.size (λ y a b. M.kept y (inr (omega (arith, (P.floors x g).0, P.halves.past))))

    parts : (s : ℕ) → s + 4 * m ≤ 15 * m → Parts m s ws → Parts m s ws'
    parts s a q = record {
      room = rw M.size q.room;
      past = q.past;
      order = λ x g. rw (starts s x a g, stops s x a g) (q.order x g);
      within = λ x g. rw (stops s x a g, M.size) (q.within x g);
      far = λ x g. rw (starts s x a g) (q.far x g);
    }

    len_kept : (x : ℕ) → x < m → len_at ws' m x ≡ len_at ws m x
    unfolding len_at
    len_kept x g = rw (starts (7 * m) x (omega arith) g, stops (7 * m) x (omega arith) g)

    count_kept : (x : ℕ) → x < m → count_at ws' m x ≡ count_at ws m x
    unfolding count_at
    count_kept x g = M.kept (m + x) (inl (omega arith))

    pub marked_pool : Pool m p h o ws'
    marked_pool = record {
      held = record {
        few = P.held.few;
        lists = parts (7 * m) (omega arith) P.held.lists;
        floors = parts (11 * m) (omega arith) P.held.floors;
        ids = λ x g. rw (M.kept x (inl (omega arith))) (P.held.ids x g);
        listed = λ x g. rw (marked_lists x g) (P.held.listed x g);
        floored = λ x g. rw (marked_floors x g) (P.held.floored x g);
      };
      halves = halves-same m p h o ws ws' M.size P.halves;
      from = λ x g. rw (starts (7 * m) x (omega arith) g) (P.from x g);
      upto = λ x g. rw (stops (7 * m) x (omega arith) g) (P.upto x g);
      floors = λ x g. rw (starts (11 * m) x (omega arith) g) (P.floors x g);
      room = rw (sum_same (len_at ws' m) (len_at ws m) m len_kept) P.room;
      spans = rw (sum_same (count_at ws' m) (count_at ws m) m count_kept) P.spans;
      bearers = bearers_same m ws ws' (λ y g. M.kept y (inl (omega arith))) (λ y g. M.kept (6 * m + y) (inl (omega arith))) P.bearers;
      owns = λ x g l z. M.kept x (inl (omega arith)) ∙ P.owns x g (λ w. l (M.kept x (inl (omega arith)) ∙ w)) (λ w. z (len_kept x g ∙ w));
      blank = λ x g. M.kept (5 * m + x) (inl (omega arith)) ∙ P.blank x g;
    }

    pub marked_laid : (top links : ℕ) → Laid m p h o top links (λ y. y) ws → Laid m p h o top links (λ y. y) ws'
    marked_laid top links D = record {
      room = record {
        past = D.room.past;
        past' = D.room.past';
        into = rw M.size D.room.into;
        floors = λ r g. rw (stops (11 * m) r (omega arith) g) (D.room.floors r g);
      };
      from = D.from;
      upto = D.upto;
      below = λ w x g. rw (stops (7 * m) x (omega arith) g) (D.below w x g);
      apart = λ w. record {
        apart = λ x y g q d. rw (starts (7 * m) x (omega arith) g, stops (7 * m) x (omega arith) g, starts (7 * m) y (omega arith) q, stops (7 * m) y (omega arith) q) ((D.apart w).apart x y g q d);
      };
      mentions = λ w. mentions_via m p o links (λ y. y) (λ y. y) ws ws' (λ y g. M.kept y (inl (omega arith))) (λ y g l e. l (M.kept y (inl (omega arith)) ∙ e)) marked_lists
          (λ q g. M.kept (o + q) (inr (omega (arith, P.halves.past')))) (λ y g. M.kept y (inr (omega (arith, P.halves.past, D.room.past)))) (D.mentions w);
    }

-- ---------------------------------------------------------------- as the code has it

module _ (ws : List ℕ) (m n i : ℕ) where
  pub mark_none : get_or ws (15 * m + i) 0 ≡ 0 → ws ≡ remarked m n i ws
  unfolding remarked when◌then◌else◌
  mark_none e = rw e

  pub mark_carried : (get_or ws (15 * m + i) 0 ≡ 0 → ⊥) → set (set ws (15 * m + n) 1) (15 * m + i) 0 ≡ remarked m n i ws
  unfolding remarked when◌then◌else◌
  mark_carried e = rw (borrow.Author.Tests.ne_eqb (get_or ws (15 * m + i) 0) 0 e)
