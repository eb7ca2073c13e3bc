-- Records beside the places of their lists. Lists lie apart, so no record is written over another's; what is written lies in the free half.
use Prim.Native.Nat.{ℕ, ◌+◌, ◌-◌, ◌*◌, ◌≤◌, ◌<◌}
use native.Mathlib.Omega.{arith}
use native.Mathlib.Decide.{ℕ_discrete}
use mathlib.Core.Path.{◌≡◌, sym, ap, ◌∙◌}
use mathlib.Core.Logic.{⊎_elim, inl, inr}
use mathlib.Core.List.{List}
use lib.ListN.{length, get_or, replicate, length-replicate, get_or-replicate}
use lib.Seq.{get_or-take}
use borrow.Rule.Slice.PartMut.{put_mid, mid_of}
use Rattle.space.specs.Space.{Frame}
use Rattle.space.proofs.Laws.{get_or_before, get_d_after, get_or-sec, length-sec, frame_then, frame_wider, frame_put}
use Rattle.table.specs.View.{start_of, end_of}
use Rattle.table.proofs.ViewLaws.{wide-same}
use Rattle.pool.specs.Pool.{Owned, OwnedPart, Halves, Standing}
use Rattle.pool.proofs.PartLaws.{part-put}

-- ---- the halves

pub halves-same : (m p h o : ℕ) (ws ws' : List ℕ) → length ws' ≡ length ws → Halves m p h o ws → Halves m p h o ws'
halves-same m p h o ws ws' l H = record {
  past = H.past;
  past' = H.past';
  apart = H.apart;
  into = rw l H.into;
  into' = rw l H.into';
  fits = H.fits;
  fits' = H.fits';
}

pub halves-turn : (m p h o : ℕ) (ws : List ℕ) → Halves m p h o ws → Halves m p o h ws
halves-turn m p h o ws H = record {
  past = H.past';
  past' = H.past;
  apart = ⊎_elim (λ (v : h + p ≤ o). inr v) (λ (v : o + p ≤ h). inl v) H.apart;
  into = H.into';
  into' = H.into;
  fits = H.fits';
  fits' = H.fits;
}

-- ---- one list

-- a part that was filled with v
filled : (a f v j : ℕ) (ws : List ℕ) → a ≤ j → j < f → f ≤ length ws → get_or (put_mid a (f - a) ws (replicate (f - a) v)) j 0 ≡ v
filled a f v j ws h g k =
    let w : a + (j - a) ≡ j = omega arith in
    let u : j - a < f - a = omega arith in
    rw w at (sym (get_or-sec a (f - a) (j - a) (put_mid a (f - a) ws (replicate (f - a) v)) u)
    ∙ ap (λ (l : List ℕ). get_or l (j - a) 0) (part-put a (f - a) (f - a) ws (replicate (f - a) v) (omega arith) (rw (length-replicate (f - a) v) (omega arith)))
    ∙ get_or-take (f - a) (replicate (f - a) v) (j - a) 0 u ∙ get_or-replicate (f - a) (j - a) v 0 u)

module _ (h o a e x : ℕ) (ws ys : List ℕ) (b : h ≤ a) (c : a ≤ e) (d : o + (e - h) ≤ length ws)
    (y : ys ≡ replicate (length (mid_of (o + (a - h)) (o + (e - h) - (o + (a - h))) ws)) x) where
  len_mid : length (mid_of (o + (a - h)) (o + (e - h) - (o + (a - h))) ws) ≡ o + (e - h) - (o + (a - h))
  len_mid = length-sec (o + (a - h)) (o + (e - h) - (o + (a - h))) ws (omega arith)

  ys_is : ys ≡ replicate (o + (e - h) - (o + (a - h))) x
  ys_is = y ∙ ap (λ (k : ℕ). replicate k x) len_mid

  pub marked_is : OwnedPart h o a e x ws (put_mid (o + (a - h)) (o + (e - h) - (o + (a - h))) ws ys)
  marked_is = record {
    each = λ q u v. rw ys_is (filled (o + (a - h)) (o + (e - h)) x (o + (q - h)) ws (omega arith) (omega arith) d);
    kept = frame_put (o + (a - h)) (o + (e - h)) ws ys (omega arith) d (ap length ys_is ∙ length-replicate (o + (e - h) - (o + (a - h))) x);
  }

-- as the code has it
module _ (m p x h o a e : ℕ) (ws : List ℕ) (S : Standing m p h o ws) (g : x < m) (qa : a ≡ start_of ws m (7 * m) x) (qe : e ≡ end_of ws m (7 * m) x) where
  pub own_in : o + (e - h) ≤ length ws
  own_in = omega (arith, S.upto x g, S.halves.into')

-- ---- all of them

-- the records before c stand beside their lists
pub record Owning (m p h o c : ℕ) (ws ws' : List ℕ) : Type 0 where
  pub own : (x q : ℕ) → x < c → start_of ws m (7 * m) x ≤ q → q < end_of ws m (7 * m) x → get_or ws' (o + (q - h)) 0 ≡ x
  pub kept : Frame o (o + p) ws ws'

-- what is written past the tables leaves the tables as they were
module _ (m a e : ℕ) (ws ws' : List ℕ) (f : Frame a e ws ws') (past : 11 * m ≤ a) where
  pub past_start : (x : ℕ) → x < m → start_of ws' m (7 * m) x ≡ start_of ws m (7 * m) x
  past_start x g = wide-same ws ws' m (7 * m + x) (get_or_before (7 * m + x) f (omega arith)) (get_or_before (7 * m + x + m) f (omega arith))

  pub past_end : (x : ℕ) → x < m → end_of ws' m (7 * m) x ≡ end_of ws m (7 * m) x
  past_end x g = wide-same ws ws' m (7 * m + 2 * m + x) (get_or_before (7 * m + 2 * m + x) f (omega arith)) (get_or_before (7 * m + 2 * m + x + m) f (omega arith))

module _ (m p h o c : ℕ) (ws₀ ws : List ℕ) (S : Standing m p h o ws₀) (O : Owning m p h o c ws₀ ws) (l : length ws ≡ length ws₀) where
  past : 11 * m ≤ o
  past = omega (arith, S.halves.past')

  start-at : (x : ℕ) → x < m → start_of ws m (7 * m) x ≡ start_of ws₀ m (7 * m) x
  start-at = past_start m o (o + p) ws₀ ws O.kept past

  end-at : (x : ℕ) → x < m → end_of ws m (7 * m) x ≡ end_of ws₀ m (7 * m) x
  end-at = past_end m o (o + p) ws₀ ws O.kept past

  pub owning_stands : Standing m p h o ws
  owning_stands = record {
    few = S.few;
    rows = record {
      lists = record {
        room = rw l S.rows.lists.room;
        past = S.rows.lists.past;
        order = λ x g. rw (start-at x g, end-at x g) (S.rows.lists.order x g);
        within = λ x g. rw (end-at x g, l) (S.rows.lists.within x g);
        far = λ x g. rw (start-at x g) (S.rows.lists.far x g);
      };
      far = λ x g. rw (start-at x g) (S.rows.far x g);
      apart = record { apart = λ x y g k d. rw (start-at x g, end-at x g, start-at y k, end-at y k) (S.rows.apart.apart x y g k d) };
    };
    halves = halves-same m p h o ws₀ ws l S.halves;
    from = λ x g. rw (start-at x g) (S.from x g);
    upto = λ x g. rw (end-at x g) (S.upto x g);
  }

  pub owning_go : c < m → (ws' : List ℕ) → OwnedPart h o (start_of ws m (7 * m) c) (end_of ws m (7 * m) c) c ws ws' → Owning m p h o (c + 1) ws₀ ws'
  owning_go g ws' M = record {
    own = λ x q k a b. elim (ℕ_discrete x c) [
      | yes e ↦ rw e (M.each q (rw (start-at c g) (rw e at a)) (rw (end-at c g) (rw e at b)))
      | no e ↦ ⊎_elim
          (λ (w : end_of ws₀ m (7 * m) x ≤ start_of ws₀ m (7 * m) c). get_or_before (o + (q - h)) M.kept (omega (arith, start-at c g, S.from x (omega arith))))
          (λ (w : end_of ws₀ m (7 * m) c ≤ start_of ws₀ m (7 * m) x). get_d_after (o + (q - h)) M.kept (omega (arith, end-at c g, S.from c g)))
          (S.rows.apart.apart x c (omega arith) g e) ∙ O.own x q (omega arith) a b
    ];
    kept = frame_then O.kept (frame_wider o (o + p) M.kept (omega arith) (omega (arith, end-at c g, S.upto c g)));
  }

  pub owning_all : m ≤ c → Owned m h o (h + p) ws
  owning_all k = record { own = λ x q g a b _. O.own x q (omega arith) (rw (start-at x g) at a) (rw (end-at x g) at b) }
