-- Loading the stacks: each of its two ways is one of the rule's `loaded` (levels' promises). They are lent as a part, which comes back whole. Assumes nothing.
use Prim.Native.Nat.{ℕ, ◌-◌, ◌*◌, ◌≤◌, ◌<◌}
use native.Mathlib.Omega.{arith}
use native.Mathlib.Nat.{add-zero}
use mathlib.Core.Path.{◌≡◌, refl, sym, ap, ◌∙◌}
use mathlib.Core.List.{List, []}
use lib.ListN.{length, get_or, take, replicate}
use lib.Seq.{take_all}
use borrow.Rule.Slice.PartMut.{put_mid, mid_of, take_put}
use Rattle.rules.specs.Growth.{sorted, remains}
use Rattle.rules.specs.Refusals.{most_spans}
use Rattle.space.specs.Space.{sec}
use Rattle.space.proofs.Laws.{length-sec, sec-put, frame_put, get_d_after}
use Rattle.net.specs.declared.Sections.{Sections}
use Rattle.levels.specs.Levels.{levels_at, Fills, StackPart, SortLists, appended, Kept, Stacked}
use Rattle.growth.specs.Turns.{SectionsFor, stacks_at, after, Left, Loaded}

-- the number before the next turn's is this one's, where the stacks are not thrown away
before_after : (j : ℕ) → j < 8 → (after j ≡ 0 → ⊥) → after j - 1 ≡ j
before_after j h k = omega arith

-- the part that is lent, from n to e
module _ (n e : ℕ) (ws : List ℕ) (le : e ≡ 9 * n) (room : 9 * n ≤ length ws) where
  part_is : mid_of n (e - n) ws ≡ sec n (8 * n) ws
  part_is = let z : e - n ≡ 8 * n = omega arith in rw z

  pub part_length : length (mid_of n (e - n) ws) ≡ 8 * n
  part_length = rw part_is (length-sec n (8 * n) ws (omega arith))

  -- and what it is afterwards
  module _ (ys fs : List ℕ) (k : length ys ≡ length (mid_of n (e - n) ws)) where
    ys_length : length ys ≡ 8 * n
    ys_length = k ∙ part_length

    back_in : sec n (8 * n) (put_mid n (e - n) ws ys) ≡ ys
    back_in = rw (add-zero n) at (sec-put n (e - n) 0 (8 * n) ws ys (omega arith) (omega (arith, ys_length))) ∙ take_all (8 * n) ys (omega (arith, ys_length))

    stacks_in : stacks_at n (put_mid n (e - n) ws ys) fs ≡ levels_at ys n fs
    unfolding stacks_at
    stacks_in = ap (λ (l : List ℕ). levels_at l n fs) back_in

    kept_before : take n (put_mid n (e - n) ws ys) ≡ take n ws
    kept_before = take_put n (e - n) ws ys (omega arith)

    kept_after : (x : ℕ) → 9 * n ≤ x → get_or (put_mid n (e - n) ws ys) x 0 ≡ get_or ws x 0
    kept_after x h = get_d_after x (frame_put n e ws ys (omega arith) (omega arith) (omega (arith, ys_length))) (omega arith)

module _ (ar dist ids : List ℕ) (at : Sections) (level : ℕ) (fs : List ℕ) (j : ℕ) (ws : List ℕ) (la : SectionsFor (length ar) at) (room : at.table ≤ length ws) where
  wide : 9 * length ar ≤ length ws
  wide = omega (arith, la.past)

  abbrev part : List ℕ
  part = mid_of (length ar) (at.changes - length ar) ws

  part_fits : (m : ℕ) → m ≡ length ar → m ≤ most_spans → StackPart m part
  part_fits m e f = rw e (record { few = omega arith; exact = part_length (length ar) at.changes ws la.changes wide })

  pub sort_lists : length ar ≤ most_spans → length dist ≡ length ar → length ids ≡ length ar → SortLists ar dist ids part
  sort_lists f d i = record { part = part_fits (length ar) refl f; dists = d; idents = i }

  pub append-part : length ar ≤ most_spans → length ids ≡ length ar → StackPart (length ids) part
  append-part f i = part_fits (length ids) i (omega arith)

  pub left_fits : length ids ≡ length ar → (after j ≡ 0 → ⊥) → Left (length ar) fs j ws → Fills (length ids) fs
  left_fits eq z v = rw eq (v.fits z)

  pub left_stacked : j < 8 → length ids ≡ length ar → (after j ≡ 0 → ⊥) → Left (length ar) fs j ws
      → Stacked (length ids) (levels_at (mid_of (length ar) (at.changes - length ar) ws) (length ids) fs) (after j - 1)
  unfolding stacks_at
  left_stacked small eq z v = rw (eq, before_after j small z, part_is (length ar) at.changes ws la.changes wide) (v.stacked z)

  module _ (ys fs' : List ℕ) (j' : ℕ) (k : length ys ≡ length (mid_of (length ar) (at.changes - length ar) ws)) where
    abbrev ws' : List ℕ
    ws' = put_mid (length ar) (at.changes - length ar) ws ys

    stacks' : stacks_at (length ar) ws' fs' ≡ levels_at ys (length ar) fs'
    stacks' = stacks_in (length ar) at.changes ws la.changes wide ys fs' k

    pub loaded-sorted : after j ≡ 0 → levels_at ys (length ar) fs' ≡ sorted ar dist ids level → Kept (length ar) (mid_of (length ar) (at.changes - length ar) ws) (replicate 8 0) ys fs'
        → Stacked (length ar) (levels_at ys (length ar) fs') 0 → j' ≡ 0 → Loaded ar dist ids level fs j ws fs' j' ws'
    loaded-sorted z s t st e = record {
      turn = e ∙ sym z;
      first = λ _. stacks' ∙ s;
      later = λ y. absurd (y z);
      fits = t.fits;
      stacked = rw (z, stacks') st;
      marks = kept_before (length ar) at.changes ws la.changes wide ys fs' k;
      past = kept_after (length ar) at.changes ws la.changes wide ys fs' k;
    }

    old : levels_at (mid_of (length ar) (at.changes - length ar) ws) (length ar) fs ≡ stacks_at (length ar) ws fs
    unfolding stacks_at
    old = rw (part_is (length ar) at.changes ws la.changes wide)

    module _ (small : j < 8) (eq : length ids ≡ length ar) (z : after j ≡ 0 → ⊥) where
      pub loaded-appended : levels_at ys (length ids) fs'
          ≡ appended (after j) (remains ids (get_or (levels_at (mid_of (length ar) (at.changes - length ar) ws) (length ids) fs) (after j - 1) [])) (levels_at (mid_of (length ar) (at.changes - length ar) ws) (length ids) fs)
          → Kept (length ids) (mid_of (length ar) (at.changes - length ar) ws) fs ys fs' → Stacked (length ids) (levels_at ys (length ids) fs') (after j) → j' ≡ after j
          → Loaded ar dist ids level fs j ws fs' j' ws'
      loaded-appended s t st e = record {
        turn = e;
        first = λ y. absurd (z y);
        later = λ _. stacks' ∙ rw (eq, old, before_after j small z) at s;
        fits = rw eq at t.fits;
        stacked = rw stacks' (rw eq at st);
        marks = kept_before (length ar) at.changes ws la.changes wide ys fs' k;
        past = kept_after (length ar) at.changes ws la.changes wide ys fs' k;
      }
