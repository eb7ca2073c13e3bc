-- The mark of a contour cut short: a store in the column of the marks, which lies between the tables of parts and the pool.
-- So columns, tables, lists and floors stay as they were, and the record's mark alone changes.
use Prim.Native.Nat.{ℕ, ◌+◌, ◌*◌, ◌≤◌, ◌<◌}
use native.Mathlib.Omega.{arith}
use native.Mathlib.Decide.{dec_lt}
use mathlib.Core.Path.{◌≡◌, refl, sym, ap, ◌∙◌}
use mathlib.Core.Logic.{◌⊎◌, inl, inr, ⊎_elim}
use mathlib.Core.Bool.{Bool, true, false, not}
use mathlib.Core.List.{List}
use lib.ListN.{get_or, set, length-set}
use lib.Seq.{get_or-set_same, get_or-set_other}
use lib.Dec.{eqb}
use borrow.Author.Tests.{le-ltb}
use Rattle.rules.specs.Base.{◌and◌, when◌then◌else◌}
use Rattle.rules.specs.Records.{Rec, at}
use Rattle.laws.proofs.Basics.{or_no, or_yes}
use Rattle.table.specs.View.{start_of, end_of, list_at, rec_at, recs_of}
use Rattle.table.proofs.ViewLaws.{rec_eq, recs_at, list_same, wide-same}
use Rattle.records.specs.Rows.{walked, Row, Keeping, Change, Step, with_cut, cut_marked}
use Rattle.records.proofs.CountLaws.{many-same}
use Rattle.records.proofs.RowLaws.{floors_past, list_parts, floor_parts, change_recs, change_keeping}
use Rattle.records.proofs.StepLaws.{step-none}

module _ (ids : List ℕ) (m top k : ℕ) (ws : List ℕ) (K : Keeping ids m top k ws) (r : ℕ) (h : r < m) where
  -- the workspace with the mark
  abbrev ws' : List ℕ
  ws' = set ws (15 * m + r) 1

  kept : (j : ℕ) → (j < 15 * m) ⊎ (16 * m ≤ j) → get_or ws' j 0 ≡ get_or ws j 0
  kept j g =
      get_or-set_other ws (15 * m + r) j 1 0 (λ e. ⊎_elim (λ (a : j < 15 * m). omega arith) (λ (a : 16 * m ≤ j). omega arith) g)

  -- a table of parts
  starts : (s x : ℕ) → s + 4 * m ≤ 15 * m → x < m → start_of ws' m s x ≡ start_of ws m s x
  starts s x a g = wide-same ws ws' m (s + x) (kept (s + x) (inl (omega arith))) (kept (s + x + m) (inl (omega arith)))

  stops : (s x : ℕ) → s + 4 * m ≤ 15 * m → x < m → end_of ws' m s x ≡ end_of ws m s x
  stops s x a g =
      wide-same ws ws' m (s + 2 * m + x) (kept (s + 2 * m + x) (inl (omega arith))) (kept (s + 2 * m + x + m) (inl (omega arith)))

  lists : (x : ℕ) → x < m → list_at ws' m (7 * m) x ≡ list_at ws m (7 * m) x
  lists x g =
      list_same ws ws' m (7 * m) x (starts (7 * m) x (omega arith) g) (stops (7 * m) x (omega arith) g) (K.rows x g).order
      ((list_parts ids m top k ws K).within x g) (length-set ws (15 * m + r) 1) (λ j a b. kept j (inr (omega (arith, (K.rows x g).from))))

  floors : (x : ℕ) → x < m → list_at ws' m (11 * m) x ≡ list_at ws m (11 * m) x
  floors x g =
      list_same ws ws' m (11 * m) x (starts (11 * m) x (omega arith) g) (stops (11 * m) x (omega arith) g) (K.rows x g).order'
      ((floor_parts ids m top k ws K).within x g) (length-set ws (15 * m + r) 1) (λ j a b. kept j (inr (omega (arith, floors_past ids m top k ws K x g))))

  change : Change m r ws ws'
  change = record {
    size = length-set ws (15 * m + r) 1;
    names = λ x g n. kept x (inl (omega arith));
    counts = λ x g n. kept (m + x) (inl (omega arith));
    areas = λ x g n. kept (2 * m + x) (inl (omega arith));
    overlaps = λ x g n. kept (3 * m + x) (inl (omega arith));
    visits = λ x g n. kept (4 * m + x) (inl (omega arith));
    starts = λ x g n. starts (7 * m) x (omega arith) g;
    stops = λ x g n. stops (7 * m) x (omega arith) g;
    starts' = λ x g n. starts (11 * m) x (omega arith) g;
    stops' = λ x g n. stops (11 * m) x (omega arith) g;
    lists = λ x g n. lists x g;
    floors = λ x g n. floors x g;
    cuts = λ x g n. get_or-set_other ws (15 * m + r) (15 * m + x) 1 0 (λ e. n (omega arith));
    spare = λ x g. kept (5 * m + x) (inl (omega arith));
  }

  row : Row ids m top k r ws'
  row =
      let R = K.rows r h in
      let a = starts (7 * m) r (omega arith) h in
      let b = stops (7 * m) r (omega arith) h in
      let a' = starts (11 * m) r (omega arith) h in
      let b' = stops (11 * m) r (omega arith) h in
      let c = kept (m + r) (inl (omega arith)) in
      record {
        from = omega (arith, R.from);
        order = omega (arith, R.order);
        till = omega (arith, R.till);
        floors = a' ∙ R.floors;
        order' = omega (arith, R.order');
        till' = omega (arith, R.till');
        tally = c ∙ R.tally;
      }

  walked_kept : (x : ℕ) → walked m ws' x ≡ walked m ws x
  unfolding walked ◌and◌
  walked_kept x = elim (dec_lt x m) [
    | yes g ↦ rw (starts (7 * m) x (omega arith) g, stops (7 * m) x (omega arith) g)
    | no g ↦ rw (le-ltb x m (omega arith))
  ]

  step_mark : Step (with_cut true) ids m r top k ws ws'
  unfolding with_cut rec_at
  step_mark = record {
    keeping = change_keeping m r ws ws' change ids top top k k K (omega arith) (λ x n. refl) row
        (rw (many-same (walked m ws) (walked m ws') ids walked_kept) K.used)
        (λ j a b. kept j (inr (omega arith)) ∙ K.blank j a b);
    same = change_recs m r ws ws' change _ h (
        rec_eq _ _ _ _ _ _ _ _ _ _ _ _ _ _ _ _
        (kept r (inl (omega arith)))
        (kept (m + r) (inl (omega arith)))
        (kept (2 * m + r) (inl (omega arith)))
        (ap (λ (x : ℕ). not (eqb x 0)) (kept (4 * m + r) (inl (omega arith))))
        (ap (λ (x : ℕ). not (eqb x 0)) (kept (3 * m + r) (inl (omega arith))))
        (lists r h)
        (floors r h)
        (ap (λ (x : ℕ). not (eqb x 0)) (get_or-set_same ws (15 * m + r) 1 0 (omega (arith, K.room))) ∙ sym (or_yes (not (eqb (get_or ws (15 * m + r) 0) 0)))))
        ∙ ap (λ (x : Rec). set (recs_of ws m) r (with_cut true x)) (sym (recs_at ws m r h));
    size = length-set ws (15 * m + r) 1;
    after = λ j g. kept j (inr (omega arith));
  }

uncut : (x : Rec) → with_cut false x ≡ x
unfolding with_cut
uncut x = rw (or_no x.cut)

pub step_cut : (b : Bool) (ids : List ℕ) (m top k : ℕ) (ws : List ℕ) → Keeping ids m top k ws → (r : ℕ) → r < m
    → Step (with_cut b) ids m r top k ws (cut_marked m r b ws)
unfolding cut_marked when◌then◌else◌
step_cut true ids m top k ws K r h = step_mark ids m top k ws K r h
step_cut false ids m top k ws K r h = step-none (with_cut false) ids m r top k ws K (uncut (at (recs_of ws m) r))

-- ---------------------------------------------------------------- as the code has it

module _ (ws : List ℕ) (m r : ℕ) (b : Bool) where
  pub cut_set : b ≡ true → set ws (15 * m + r) 1 ≡ cut_marked m r b ws
  unfolding cut_marked when◌then◌else◌
  cut_set t = rw t

  pub cut_left : b ≡ false → ws ≡ cut_marked m r b ws
  unfolding cut_marked when◌then◌else◌
  cut_left f = rw f
