-- Lists renamed where they are. They lie apart, so a list that is renamed leaves the others as they were; it only gets shorter, so they stay apart.
-- A list can be met again: it holds no old then, so it stays.
use Prim.Native.Nat.{ℕ, ◌+◌, ◌*◌, ◌≤◌, ◌<◌}
use native.Mathlib.Omega.{arith}
use native.Mathlib.Decide.{ℕ_discrete}
use mathlib.Core.Path.{◌≡◌, refl, sym, ap, ◌∙◌}
use mathlib.Core.Logic.{⊎_elim, ◌⊎◌, inl, inr}
use mathlib.Core.Bool.{true, false}
use mathlib.Core.List.{List, map}
use lib.ListN.{get_or}
use Rattle.rules.specs.Records.{has}
use Rattle.space.specs.Space.{Frame}
use Rattle.space.proofs.Laws.{cases, get_or_before, get_d_after}
use Rattle.table.specs.View.{part, start_of, end_of, list_at, Parts, Placed}
use Rattle.table.proofs.ViewLaws.{wide-same, part-after}
use Rattle.pool.specs.Lists.{swap_one}
use Rattle.pool.specs.Part.{renamed_list}
use Rattle.pool.specs.Pool.{new_list, Apart, Renamed, Passed, Rows, Swept}
use Rattle.pool.proofs.CarryLaws.{new_dead, new_live}
use Rattle.pool.proofs.PartLaws.{renamed-none, renamed_some}
use Rattle.pool.proofs.FloorLaws.{swap_old, swap_other, swap_has}
use Rattle.pool.proofs.MergeLaws.{tidy-has}

-- ---- one record

module _ (ws : List ℕ) (m x a e : ℕ) (S : Parts m (7 * m) ws) (h : x < m) (g : 11 * m ≤ start_of ws m (7 * m) x) (live : get_or ws x 0 ≡ 0 → ⊥) (p : a ≡ start_of ws m (7 * m) x) (q : e ≡ end_of ws m (7 * m) x) where
  module _ (ws₁ : List ℕ) (old new f : ℕ) (r : part a f ws₁ ≡ renamed_list old new (part a e ws)) (b : (a ≤ f) × (f ≤ e)) (F : Frame a e ws ws₁) where
    low : (j : ℕ) → j < 11 * m → get_or ws₁ j 0 ≡ get_or ws j 0
    low j k = get_or_before j F (omega arith)

    start_low : (y : ℕ) → y < m → start_of ws₁ m (7 * m) y ≡ start_of ws m (7 * m) y
    start_low y k = wide-same ws ws₁ m (7 * m + y) (low (7 * m + y) (omega arith)) (low (7 * m + y + m) (omega arith))

    stop_low : (y : ℕ) → y < m → end_of ws₁ m (7 * m) y ≡ end_of ws m (7 * m) y
    stop_low y k = wide-same ws ws₁ m (7 * m + 2 * m + y) (low (7 * m + 2 * m + y) (omega arith)) (low (7 * m + 2 * m + y + m) (omega arith))

    list_new : part a f ws₁ ≡ new_list old new (get_or ws x 0) (list_at ws m (7 * m) x)
    unfolding list_at
    list_new = rw (← p, ← q) (new_live old new (get_or ws x 0) (part a e ws) (part a f ws₁) live r)

    list_kept : (j : ℕ) → (j < start_of ws m (7 * m) x) ⊎ (end_of ws m (7 * m) x ≤ j) → get_or ws₁ j 0 ≡ get_or ws j 0
    list_kept j o =
        ⊎_elim (λ (k : j < start_of ws m (7 * m) x). get_or_before j F (omega arith)) (λ (k : end_of ws m (7 * m) x ≤ j). get_d_after j F (omega arith)) o

    list_stays : f ≡ e → list_at ws₁ m (7 * m) x ≡ part a f ws₁
    unfolding list_at
    list_stays d = rw (start_low x h, stop_low x h, ← p, ← q, d) refl

    -- the end has not moved
    pub renamed-same : f ≡ e → Renamed m x old new ws ws₁
    renamed-same d = record {
      shrunk = record {
        order = rw (stop_low x h) (S.order x h);
        upto = rw (stop_low x h) (omega arith);
        list = list_stays d ∙ list_new;
      };
      starts = start_low;
      stops = λ y k _. stop_low y k;
      kept = λ j o. list_kept j o.1;
    }

    pub renamed_less : (ws₂ : List ℕ) → Placed m (7 * m) x a f ws₁ ws₂ → Renamed m x old new ws ws₂
    unfolding list_at
    renamed_less ws₂ P = record {
      shrunk = record {
        order = rw P.stop (omega (arith, b.0));
        upto = rw P.stop (omega (arith, b.1));
        list = rw (P.start, P.stop) (part-after a f P.kept (omega arith) ∙ list_new);
      };
      starts = λ y k. elim (ℕ_discrete y x) [
        | yes d ↦ rw d (P.start ∙ p)
        | no d ↦ P.starts y k d ∙ start_low y k
      ];
      stops = λ y k d. P.stops y k d ∙ stop_low y k;
      kept = λ j o.
          ⊎_elim (λ (k : j < 7 * m). get_or_before j P.kept k) (λ (k : 11 * m ≤ j). get_d_after j P.kept (omega arith)) o.0
          ∙ list_kept j o.1;
    }

-- ---- any but i and n

module _ (m x i n old new : ℕ) (ws : List ℕ) where
  pub passed_dead : Parts m (7 * m) ws → x < m → get_or ws x 0 ≡ 0 → Passed m x i n old new ws ws
  passed_dead S h e = record {
    skipped = λ _. refl;
    renamed = λ _ _. record {
      shrunk = record { order = S.order x h; upto = omega arith; list = new_dead old new (get_or ws x 0) (list_at ws m (7 * m) x) e };
      starts = λ _ _. refl;
      stops = λ _ _ _. refl;
      kept = λ _ _. refl;
    };
  }

  pub passed_i : x ≡ i → Passed m x i n old new ws ws
  passed_i e = record { skipped = λ _. refl; renamed = λ p _. absurd (p e) }

  pub passed_n : x ≡ n → Passed m x i n old new ws ws
  passed_n e = record { skipped = λ _. refl; renamed = λ _ p. absurd (p e) }

pub row_far : (m x : ℕ) (ws : List ℕ) → Rows m ws → x < m → 11 * m ≤ start_of ws m (7 * m) x
row_far m x ws R h = R.far x h

-- ---- a list renamed twice

module _ (old new : ℕ) (ne : old ≡ new → ⊥) where
  swap_free : (u : ℕ) → swap_one old new u ≡ old → ⊥
  swap_free u e = elim (ℕ_discrete u old) [
    | yes q ↦ ne (sym e ∙ ap (swap_one old new) q ∙ swap_old old new)
    | no q ↦ q (sym (swap_other old new u q) ∙ e)
  ]

  -- no entry is old any more
  swap_none : (l : List ℕ) → has (map (swap_one old new) l) old ≡ true → ⊥
  unfolding swap_one
  swap_none l h = let w = swap_has old new l old h in swap_free w.0 w.2

  renamed_free : (l : List ℕ) → has (renamed_list old new l) old ≡ false
  renamed_free l =
      ⊎_elim (λ (h : has l old ≡ true). ⊎_elim (λ (g : has (renamed_list old new l) old ≡ true).
      absurd (swap_none l (tidy-has (map (swap_one old new) l) old (ap (λ (k : List ℕ). has k old) (sym (renamed_some old new l h)) ∙ g))))
      (λ (g : has (renamed_list old new l) old ≡ false). g) (cases (has (renamed_list old new l) old)))
      (λ (h : has l old ≡ false). ap (λ (k : List ℕ). has k old) (renamed-none old new l h) ∙ h) (cases (has l old))

  pub new_free : (id : ℕ) (l : List ℕ) → (id ≡ 0 → ⊥) → has (new_list old new id l) old ≡ false
  new_free id l z = ap (λ (k : List ℕ). has k old) (sym (new_live old new id l (renamed_list old new l) z refl)) ∙ renamed_free l

pub new_none : (old new id : ℕ) (l : List ℕ) → ((id ≡ 0 → ⊥) → has l old ≡ false) → new_list old new id l ≡ l
new_none old new id l h = elim (ℕ_discrete id 0) [
  | yes e ↦ sym (new_dead old new id l e)
  | no e ↦ sym (new_live old new id l l e (sym (renamed-none old new l (h e))))
]

-- ---- all of them

-- lists that start where they did and end no later lie apart as they did
pub shrunk_apart : (m : ℕ) (ws ws' : List ℕ) → Apart m ws → ((x : ℕ) → x < m → start_of ws' m (7 * m) x ≡ start_of ws m (7 * m) x)
    → ((x : ℕ) → x < m → end_of ws' m (7 * m) x ≤ end_of ws m (7 * m) x) → Apart m ws'
shrunk_apart m ws ws' A starts less = record {
  apart = λ x y g k d. rw (starts x g, starts y k) (⊎_elim (λ (w : end_of ws m (7 * m) x ≤ start_of ws m (7 * m) y). inl (omega (arith, less x g)))
      (λ (w : end_of ws m (7 * m) y ≤ start_of ws m (7 * m) x). inr (omega (arith, less y k))) (A.apart x y g k d));
}

module _ (m i n old new : ℕ) (ws₀ ws : List ℕ) (R : Rows m ws₀) (W : Swept m i n old new ws₀ ws) where
  pub swept_less : (x : ℕ) → x < m → end_of ws m (7 * m) x ≤ end_of ws₀ m (7 * m) x
  swept_less x g = elim (ℕ_discrete x i) [
    | yes a ↦ rw (W.stops x g (inl a)) (omega arith)
    | no a ↦ elim (ℕ_discrete x n) [ yes b ↦ rw (W.stops x g (inr b)) (omega arith) | no b ↦ (W.done x g a b).upto ]
  ]

  pub swept_apart : Apart m ws
  swept_apart = shrunk_apart m ws₀ ws R.apart W.starts swept_less
