-- The floors of a cell's other spans join record r's list, in its own room: the list grows at its end, and then its end is stored.
-- The room is 62 numbers for each span that is counted, and a cell has at most 62 others.
use Prim.Native.Nat.{ℕ, ◌+◌, ◌*◌, ◌-◌, ◌≤◌, ◌<◌}
use native.Mathlib.Omega.{arith}
use native.Mathlib.Decide.{dec_lt}
use mathlib.Core.Path.{◌≡◌, refl, sym, ap, ◌∙◌}
use mathlib.Core.Bool.{not}
use mathlib.Core.List.{List}
use lib.ListN.{length, get_or, set, take, drop}
use lib.Seq.{take-take}
use lib.Dec.{eqb}
use borrow.Rule.Slice.PartMut.{put_mid, mid_of, same_len_mid}
use borrow.Author.Tests.{le-ltb}
use Rattle.rules.specs.Base.{◌and◌}
use Rattle.rules.specs.Records.{Rec, once_all}
use Rattle.space.specs.Space.{Frame, sec}
use Rattle.space.proofs.Laws.{frame_none, frame_put, get_or_before, get_d_after, sec-put, sec-after, length-sec}
use Rattle.table.specs.View.{part, start_of, end_of, list_at, rec_at, recs_of, Placed}
use Rattle.table.proofs.ViewLaws.{rec_eq, list_same, wide-same, recs_at}
use Rattle.records.specs.Cell.{JoinedAll, Prior, Roomy}
use Rattle.records.specs.Rows.{walked, Row, Keeping, Change, Step, floored}
use Rattle.records.specs.declared.cell.Spans.{Spans}
use Rattle.records.proofs.CountLaws.{many-same}
use Rattle.records.proofs.RowLaws.{pool_fits, floors_past, floors_inside, floors_apart, list_parts, floor_parts, change_recs, change_keeping}

module _ (ids : List ℕ) (m top k : ℕ) (ws : List ℕ) (K : Keeping ids m top k ws) (r : ℕ) (h : r < m) (a e z : ℕ)
    (ea : a ≡ start_of ws m (11 * m) r) (ee : e ≡ end_of ws m (11 * m) r) (ez : z ≡ a + 62 * get_or ws (m + r) 0) where
  pub room_order : a ≤ e
  room_order = omega (arith, (K.rows r h).order')

  pub room_long : e ≤ z
  room_long = omega (arith, (K.rows r h).till')

  pub room_past : 16 * m + 8 * length ids ≤ a
  room_past = omega (arith, floors_past ids m top k ws K r h)

  pub room_inside : z ≤ 16 * m + 70 * length ids
  room_inside = omega (arith, floors_inside ids m top k ws K r h)

  mid_length : length (mid_of a (z - a) ws) ≡ z - a
  mid_length = length-sec a (z - a) ws (omega (arith, room_order, room_long, room_inside, K.room))

  pub room_roomy : (s from size : ℕ) → e + 62 ≤ z → size ≤ 63 → from + size ≤ length ids → from ≤ s → s < from + size → Roomy ids (mid_of a (z - a) ws) s from size (e - a)
  room_roomy s from size slack few in₁ lo hi = record { few = few; spans = K.spans; inside = in₁; lower = lo; upper = hi; room = omega (arith, mid_length, room_order, room_long) }

  -- the list before
  old : take (e - a) (mid_of a (z - a) ws) ≡ list_at ws m (11 * m) r
  unfolding list_at part
  old = rw (← ea, ← ee) (take-take (e - a) (z - a) (drop a ws) (omega (arith, room_order, room_long)))

  pub room_prior : (s : ℕ) (cell prior : Spans) → Prior ids (list_at ws m (11 * m) r) s cell prior → Prior ids (take (e - a) (mid_of a (z - a) ws)) s cell prior
  room_prior s cell prior p = rw old p

  pub put_room : (part' : List ℕ) → length part' ≡ length (mid_of a (z - a) ws) → 11 * m + 4 * m ≤ length (put_mid a (z - a) ws part')
  put_room part' len = rw (same_len_mid a (z - a) ws part' len) (omega (arith, K.room))

  -- where the list ends is a number of two halves
  pub end_fits : (l part' : List ℕ) (n : ℕ) → length part' ≡ length (mid_of a (z - a) ws) → JoinedAll l (e - a) part' n → (a < 4294967296) × (a + n < 4294967296)
  end_fits l part' n len J =
      let x = J.within in
      let y = mid_length in
      let i = room_inside in
      let o = room_order in
      let g = room_long in
      (omega (arith, K.few, K.spans), omega (arith, K.few, K.spans))

  module _ (o part' ws₁ : List ℕ) (n : ℕ) (len : length part' ≡ length (mid_of a (z - a) ws)) (J : JoinedAll (once_all (take (e - a) (mid_of a (z - a) ws)) o) (e - a) part' n)
      (e₁ : ws₁ ≡ put_mid a (z - a) ws part') where
    len₁ : length ws₁ ≡ length ws
    len₁ = rw e₁ (same_len_mid a (z - a) ws part' len)

    frame₁ : Frame a z ws ws₁
    frame₁ = rw e₁ (frame_put a z ws part' (omega (arith, room_order, room_long)) (omega (arith, room_inside, K.room)) (len ∙ mid_length))

    short : n ≤ z - a
    short = omega (arith, J.within, len, mid_length)

    start₁ : (x : ℕ) → x < m → start_of ws₁ m (11 * m) x ≡ start_of ws m (11 * m) x
    start₁ x g = wide-same ws ws₁ m (11 * m + x) (get_or_before (11 * m + x) frame₁ (omega (arith, room_past))) (get_or_before (11 * m + x + m) frame₁ (omega (arith, room_past)))

    stop₁ : (x : ℕ) → x < m → end_of ws₁ m (11 * m) x ≡ end_of ws m (11 * m) x
    stop₁ x g = wide-same ws ws₁ m (11 * m + 2 * m + x) (get_or_before (11 * m + 2 * m + x) frame₁ (omega (arith, room_past))) (get_or_before (11 * m + 2 * m + x + m) frame₁ (omega (arith, room_past)))

    -- a list that ends where it ended is placed already
    unmoved : n ≡ e - a → Placed m (11 * m) r a (a + n) ws₁ ws₁
    unmoved q = record {
      start = start₁ r h ∙ sym ea;
      stop = stop₁ r h ∙ sym ee ∙ omega (arith, room_order);
      starts = λ x g y. refl;
      stops = λ x g y. refl;
      kept = frame_none (11 * m) (11 * m + 4 * m) ws₁;
    }

    module _ (ws₂ : List ℕ) (P : Placed m (11 * m) r a (a + n) ws₁ ws₂) (l₂ : length ws₂ ≡ length ws₁) where
      -- what is neither in the floors' table nor in the room
      kept : (j : ℕ) → (j < 11 * m) → get_or ws₂ j 0 ≡ get_or ws j 0
      kept j g = get_or_before j P.kept g ∙ get_or_before j frame₁ (omega (arith, room_past))

      kept_pool : (j : ℕ) → 15 * m ≤ j → j < a → get_or ws₂ j 0 ≡ get_or ws j 0
      kept_pool j g l = get_d_after j P.kept (omega arith) ∙ get_or_before j frame₁ l

      kept_past : (j : ℕ) → z ≤ j → get_or ws₂ j 0 ≡ get_or ws j 0
      kept_past j g = get_d_after j P.kept (omega (arith, room_past, room_order, room_long)) ∙ get_d_after j frame₁ g

      start-other : (x : ℕ) → x < m → (x ≡ r → ⊥) → start_of ws₂ m (11 * m) x ≡ start_of ws m (11 * m) x
      start-other x g n = P.starts x g n ∙ start₁ x g

      stop_other : (x : ℕ) → x < m → (x ≡ r → ⊥) → end_of ws₂ m (11 * m) x ≡ end_of ws m (11 * m) x
      stop_other x g n = P.stops x g n ∙ stop₁ x g

      start_list : (x : ℕ) → x < m → start_of ws₂ m (7 * m) x ≡ start_of ws m (7 * m) x
      start_list x g = wide-same ws ws₂ m (7 * m + x) (kept (7 * m + x) (omega arith)) (kept (7 * m + x + m) (omega arith))

      stop_list : (x : ℕ) → x < m → end_of ws₂ m (7 * m) x ≡ end_of ws m (7 * m) x
      stop_list x g = wide-same ws ws₂ m (7 * m + 2 * m + x) (kept (7 * m + 2 * m + x) (omega arith)) (kept (7 * m + 2 * m + x + m) (omega arith))

      list_kept : (x : ℕ) → x < m → list_at ws₂ m (7 * m) x ≡ list_at ws m (7 * m) x
      list_kept x g =
          let R = K.rows x g in
          let p = list_parts ids m top k ws K in
          list_same ws ws₂ m (7 * m) x (start_list x g) (stop_list x g) R.order (p.within x g) (l₂ ∙ len₁)
          (λ j c d. kept_pool j (omega (arith, R.from)) (omega (arith, R.till, pool_fits ids m top k ws K, room_past)))

      floor_other : (x : ℕ) → x < m → (x ≡ r → ⊥) → list_at ws₂ m (11 * m) x ≡ list_at ws m (11 * m) x
      floor_other x g n =
          let R = K.rows x g in
          let p = floor_parts ids m top k ws K in
          list_same ws ws₂ m (11 * m) x (start-other x g n) (stop_other x g n) R.order' (p.within x g) (l₂ ∙ len₁)
          (λ j c d. elim (dec_lt x r) [
            | yes l ↦ kept_pool j (omega (arith, floors_past ids m top k ws K x g)) (omega (arith, floors_apart ids m top k ws K x r g h l, R.till'))
            | no l ↦ kept_past j (omega (arith, floors_apart ids m top k ws K r x h g (omega (arith, n))))
          ])

      change : Change m r ws ws₂
      change = record {
        size = l₂ ∙ len₁;
        names = λ x g n. kept x (omega arith);
        counts = λ x g n. kept (m + x) (omega arith);
        areas = λ x g n. kept (2 * m + x) (omega arith);
        overlaps = λ x g n. kept (3 * m + x) (omega arith);
        visits = λ x g n. kept (4 * m + x) (omega arith);
        starts = λ x g n. start_list x g;
        stops = λ x g n. stop_list x g;
        starts' = start-other;
        stops' = stop_other;
        lists = λ x g n. list_kept x g;
        floors = floor_other;
        cuts = λ x g n. kept_pool (15 * m + x) (omega arith) (omega (arith, room_past));
        spare = λ x g. kept (5 * m + x) (omega arith);
      }

      -- the new list
      new : list_at ws₂ m (11 * m) r ≡ once_all (list_at ws m (11 * m) r) o
      unfolding list_at part
      new =
          let q : a + n - a ≡ n = omega arith in
          let y : a + 0 ≡ a = omega arith in
          let s : sec (a + 0) n (put_mid a (z - a) ws part') ≡ sec 0 n part' = sec-put a (z - a) 0 n ws part' (omega (arith, room_order, room_long, room_inside, K.room)) (omega (arith, J.within)) in
          let t : sec a n (put_mid a (z - a) ws part') ≡ take n part' = rw y at s in
          rw (P.start, P.stop, q) (sec-after a n P.kept (omega (arith, room_past)) ∙ ap (sec a n) e₁ ∙ t ∙ J.same ∙ ap (λ (l : List ℕ). once_all l o) old)

      row : Row ids m top k r ws₂
      row =
          let R = K.rows r h in
          let u = start_list r h in
          let v = stop_list r h in
          let w = kept (m + r) (omega arith) in
          record {
            from = omega (arith, R.from);
            order = omega (arith, R.order);
            till = omega (arith, R.till);
            floors = P.start ∙ ea ∙ R.floors;
            order' = omega (arith, P.start, P.stop);
            till' = omega (arith, P.start, P.stop, short, room_order, room_long);
            tally = w ∙ R.tally;
          }

      walked_kept : (x : ℕ) → walked m ws₂ x ≡ walked m ws x
      unfolding walked ◌and◌
      walked_kept x = elim (dec_lt x m) [ yes g ↦ rw (start_list x g, stop_list x g) | no g ↦ rw (le-ltb x m (omega arith)) ]

      pub step_floors : Step (floored o) ids m r top k ws ws₂
      unfolding floored rec_at
      step_floors = record {
        keeping = change_keeping m r ws ws₂ change ids top top k k K (omega arith) (λ x n. refl) row
            (rw (many-same (walked m ws) (walked m ws₂) ids walked_kept) K.used)
            (λ j g l. kept_pool j (omega arith) (omega (arith, room_past)) ∙ K.blank j g l);
        same = change_recs m r ws ws₂ change _ h (
            rec_eq _ _ _ _ _ _ _ _ _ _ _ _ _ _ _ _
            (kept r (omega arith))
            (kept (m + r) (omega arith))
            (kept (2 * m + r) (omega arith))
            (ap (λ (x : ℕ). not (eqb x 0)) (kept (4 * m + r) (omega arith)))
            (ap (λ (x : ℕ). not (eqb x 0)) (kept (3 * m + r) (omega arith)))
            (list_kept r h)
            new
            (ap (λ (x : ℕ). not (eqb x 0)) (kept_pool (15 * m + r) (omega arith) (omega (arith, room_past)))))
            ∙ ap (λ (x : Rec). set (recs_of ws m) r (floored o x)) (sym (recs_at ws m r h));
        size = l₂ ∙ len₁;
        after = λ j g. kept_past j (omega (arith, room_inside));
      }

    pub step_stays : n ≡ e - a → Step (floored o) ids m r top k ws ws₁
    step_stays q = step_floors ws₁ (unmoved q) refl
