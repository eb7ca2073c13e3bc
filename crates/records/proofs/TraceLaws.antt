-- A contour in the pool: the list lies from top on, zeros after it, and all before top is as it was; then its place is stored.
-- It fits: what is used is at most four ids for each span of a record that has its list, and the own record has none yet.
use Prim.Native.Nat.{ℕ, ◌+◌, ◌*◌, ◌-◌, ◌≤◌, ◌<◌}
use native.Mathlib.Omega.{arith}
use native.Mathlib.Decide.{ℕ_discrete, dec_lt}
use mathlib.Core.Path.{◌≡◌, refl, sym, ap, ◌∙◌}
use mathlib.Core.Bool.{Bool, false, not}
use mathlib.Core.List.{List, []}
use lib.ListN.{length, get_or, set}
use lib.Dec.{eqb, ltb}
use borrow.Author.Tests.{lt-ltb, le-ltb, ltb-true}
use Rattle.rules.specs.Base.{◌and◌, when◌then◌else◌, many}
use Rattle.rules.specs.Net.{Net}
use Rattle.rules.specs.Contour.{first_solid, contour, cut_short}
use Rattle.rules.specs.Records.{Rec}
use Rattle.laws.proofs.Basics.{if-ind}
use Rattle.space.specs.Space.{sec, Frame}
use Rattle.space.proofs.Laws.{sec-after, get_or_before, get_d_after}
use Rattle.net.specs.Table.{net_at}
use Rattle.net.proofs.Tables.{spans-at}
use Rattle.contour.specs.Ways.{Ways, edge_of}
use Rattle.contour.specs.Pool.{pooled, Start}
use Rattle.contour.specs.declared.walk.Pool.{Pool}
use Rattle.std.proofs.Common.{Some, None}
use Rattle.contour.proofs.EdgeLaws.{edge_at, edge_none}
use Rattle.contour.proofs.PoolLaws.{start_laid, laid_whole, pooled-length, pooled_frame, pooled_list, pooled-blank, pooled-at}
use Rattle.contour.proofs.WalkLaws.{ways_answered}
use Rattle.contour.proofs.Room.{contour_room}
use Rattle.table.specs.View.{part, start_of, end_of, list_at, rec_at, recs_of, Placed}
use Rattle.table.proofs.ViewLaws.{rec_eq, list_same, wide-same, recs_at}
use Rattle.records.specs.Map.{pool_in}
use Rattle.records.specs.Rows.{walked, Row, Keeping, Change, Step, Traced, traced, traced_cut, with_list, cut_marked, with_contour}
use Rattle.records.specs.declared.grow.Plan.{Plan}
use Rattle.records.proofs.CountLaws.{many-same, many_apart, many_more}
use Rattle.records.proofs.RowLaws.{pool_fits, floors_past, list_parts, floor_parts, change_recs, change_keeping, walked-other, step_then}
use Rattle.records.proofs.MarkLaws.{step_cut}

-- ---------------------------------------------------------------- the trace

module _ (pool : Pool) (cs ids : List ℕ) (s top : ℕ) (ws : List ℕ) (T : Start pool cs ids s top ws) where
  abbrev N : Net
  N = net_at pool.table ids ws

  module _ (d : ℕ) (f : Some d ≡ edge_of (first_solid N ids s)) where
    found : (first_solid N ids s ≡ d) × (d < 4)
    found = edge_at (first_solid N ids s) d f

    pub trace_dir : d < 4
    trace_dir = found.1

    traced-at : traced N ids s ≡ contour N ids s d
    unfolding traced when◌then◌else◌
    traced-at = rw (found.0, lt-ltb d 4 found.1)

    pub trace_at : (ws' : List ℕ) (t : ℕ) → ws' ≡ pooled ws pool.at (4 * length ids) top (contour N ids s d) → t ≡ top + length (contour N ids s d)
        → Traced (traced N ids s) ids pool.at top ws ws' t
    trace_at ws' t a b = record { end = rw traced-at b; pool = rw traced-at a }

    pub trace_cut_at : (c : Bool) → c ≡ cut_short N ids s d → c ≡ traced_cut N ids s
    unfolding traced_cut ◌and◌
    trace_cut_at c q = rw (found.0, lt-ltb d 4 found.1) q

  module _ (f : None ≡ edge_of (first_solid N ids s)) where
    pub trace_none : Traced (traced N ids s) ids pool.at top ws ws top
    unfolding traced when◌then◌else◌
    trace_none =
        let g = edge_none (first_solid N ids s) f in
        let z : sec (pool.at + top) (top - top) ws ≡ [] = (let k : top - top ≡ 0 = omega arith in rw k refl) in
        record {
          end = rw g (omega arith);
          pool = rw g (laid_whole ws ws pool.at (4 * length ids) top top (start_laid pool cs ids ws s top T) ∙ ap (pooled ws pool.at (4 * length ids) top) z);
        }

    pub trace_cut_none : false ≡ traced_cut N ids s
    unfolding traced_cut ◌and◌
    trace_cut_none = rw (edge_none (first_solid N ids s) f)

-- a traced list has at most four ids for each span of the region
pub traced_room : (table : ℕ) (cs ids ws : List ℕ) (s : ℕ) → Ways table cs ids ws → s < length ids → (get_or ids s 0 ≡ 0 → ⊥)
    → length (traced (net_at table ids ws) ids s) ≤ 4 * many (eqb (get_or ids s 0)) ids
unfolding traced
traced_room table cs ids ws s l h own =
    let N = net_at table ids ws in
    let n = spans-at table ids ws in
    if-ind (λ (x : List ℕ). length x ≤ 4 * many (eqb (get_or ids s 0)) ids) (ltb (first_solid N ids s) 4)
    (λ t. contour_room N (ways_answered table cs ids ws l) ids (sym n) (get_or ids s 0) own s (first_solid N ids s) (rw n h) (ltb-true _ _ t) refl)
    (λ _. omega arith)

-- ---------------------------------------------------------------- the list of a record

module _ (ids : List ℕ) (m top k : ℕ) (ws : List ℕ) (K : Keeping ids m top k ws) (r : ℕ) (h : r < m) (none : end_of ws m (7 * m) r ≤ start_of ws m (7 * m) r) where
  unwalked : walked m ws r ≡ false
  unfolding walked ◌and◌
  unwalked = rw (lt-ltb r m h, le-ltb _ _ none)

  -- there is room for four ids a span
  pub list_room : top + 4 * many (eqb r) ids ≤ 4 * length ids
  list_room = omega (arith, K.used, many_apart (walked m ws) r unwalked ids)

  pub traced_size : (l ws₁ : List ℕ) (t : ℕ) → Traced l ids (16 * m) top ws ws₁ t → length l ≤ 4 * many (eqb r) ids → length ws₁ ≡ length ws
  traced_size l ws₁ t T few = rw T.pool (pooled-length ws (16 * m) (4 * length ids) top l (omega (arith, K.room)) (omega (arith, list_room)))

  module _ (l ws₁ ws₂ : List ℕ) (t : ℕ) (T : Traced l ids (16 * m) top ws ws₁ t) (few : length l ≤ 4 * many (eqb r) ids)
      (P : Placed m (7 * m) r (16 * m + top) (16 * m + t) ws₁ ws₂) (l₂ : length ws₂ ≡ length ws₁) where
    size_in : 16 * m + 4 * length ids ≤ length ws
    size_in = omega (arith, K.room)

    fits : top + length l ≤ 4 * length ids
    fits = omega (arith, list_room)

    len₁ : length ws₁ ≡ length ws
    len₁ = traced_size l ws₁ t T few

    frame₁ : Frame (16 * m) (16 * m + 4 * length ids) ws ws₁
    frame₁ = rw T.pool (pooled_frame ws (16 * m) (4 * length ids) top l size_in fits)

    kept : (j : ℕ) → j < 7 * m → get_or ws₂ j 0 ≡ get_or ws j 0
    kept j g = get_or_before j P.kept g ∙ get_or_before j frame₁ (omega arith)

    kept_table : (j : ℕ) → 11 * m ≤ j → j < 16 * m → get_or ws₂ j 0 ≡ get_or ws j 0
    kept_table j g d = get_d_after j P.kept (omega arith) ∙ get_or_before j frame₁ d

    kept_pool : (j : ℕ) → 16 * m ≤ j → j < 16 * m + top → get_or ws₂ j 0 ≡ get_or ws j 0
    kept_pool j g d =
        let e : j ≡ 16 * m + (j - 16 * m) = omega arith in
        get_d_after j P.kept (omega arith) ∙ rw e (ap (λ (x : List ℕ). get_or x (16 * m + (j - 16 * m)) 0) T.pool ∙ pooled-at ws (16 * m) (4 * length ids) top l size_in fits (j - 16 * m) (omega arith))

    kept_past : (j : ℕ) → 16 * m + 4 * length ids ≤ j → get_or ws₂ j 0 ≡ get_or ws j 0
    kept_past j g = get_d_after j P.kept (omega arith) ∙ get_d_after j frame₁ g

    start-other : (x : ℕ) → x < m → (x ≡ r → ⊥) → start_of ws₂ m (7 * m) x ≡ start_of ws m (7 * m) x
    start-other x g n = P.starts x g n ∙ wide-same ws ws₁ m (7 * m + x) (get_or_before (7 * m + x) frame₁ (omega arith)) (get_or_before (7 * m + x + m) frame₁ (omega arith))

    stop_other : (x : ℕ) → x < m → (x ≡ r → ⊥) → end_of ws₂ m (7 * m) x ≡ end_of ws m (7 * m) x
    stop_other x g n = P.stops x g n ∙ wide-same ws ws₁ m (7 * m + 2 * m + x) (get_or_before (7 * m + 2 * m + x) frame₁ (omega arith)) (get_or_before (7 * m + 2 * m + x + m) frame₁ (omega arith))

    start_floor : (x : ℕ) → x < m → start_of ws₂ m (11 * m) x ≡ start_of ws m (11 * m) x
    start_floor x g = wide-same ws ws₂ m (11 * m + x) (kept_table (11 * m + x) (omega arith) (omega arith)) (kept_table (11 * m + x + m) (omega arith) (omega arith))

    stop_floor : (x : ℕ) → x < m → end_of ws₂ m (11 * m) x ≡ end_of ws m (11 * m) x
    stop_floor x g = wide-same ws ws₂ m (11 * m + 2 * m + x) (kept_table (11 * m + 2 * m + x) (omega arith) (omega arith)) (kept_table (11 * m + 2 * m + x + m) (omega arith) (omega arith))

    list_other : (x : ℕ) → x < m → (x ≡ r → ⊥) → list_at ws₂ m (7 * m) x ≡ list_at ws m (7 * m) x
    list_other x g n =
        let R = K.rows x g in
        list_same ws ws₂ m (7 * m) x (start-other x g n) (stop_other x g n) R.order ((list_parts ids m top k ws K).within x g) (l₂ ∙ len₁)
        (λ j c d. kept_pool j (omega (arith, R.from)) (omega (arith, R.till)))

    floor_kept : (x : ℕ) → x < m → list_at ws₂ m (11 * m) x ≡ list_at ws m (11 * m) x
    floor_kept x g =
        list_same ws ws₂ m (11 * m) x (start_floor x g) (stop_floor x g) (K.rows x g).order' ((floor_parts ids m top k ws K).within x g) (l₂ ∙ len₁)
        (λ j c d. kept_past j (omega (arith, floors_past ids m top k ws K x g)))

    change : Change m r ws ws₂
    change = record {
      size = l₂ ∙ len₁;
      names = λ x g n. kept x (omega arith);
      counts = λ x g n. kept (m + x) (omega arith);
      areas = λ x g n. kept (2 * m + x) (omega arith);
      overlaps = λ x g n. kept (3 * m + x) (omega arith);
      visits = λ x g n. kept (4 * m + x) (omega arith);
      starts = start-other;
      stops = stop_other;
      starts' = λ x g n. start_floor x g;
      stops' = λ x g n. stop_floor x g;
      lists = list_other;
      floors = λ x g n. floor_kept x g;
      cuts = λ x g n. kept_table (15 * m + x) (omega arith) (omega arith);
      spare = λ x g. kept (5 * m + x) (omega arith);
    }

    new : list_at ws₂ m (7 * m) r ≡ l
    unfolding list_at part
    new =
        let q : 16 * m + t - (16 * m + top) ≡ length l = omega (arith, T.end) in
        rw (P.start, P.stop, q) (sec-after (16 * m + top) (length l) P.kept (omega arith) ∙ ap (sec (16 * m + top) (length l)) T.pool ∙ pooled_list ws (16 * m) (4 * length ids) top l size_in fits)

    row : Row ids m t k r ws₂
    row =
        let R = K.rows r h in
        let u = start_floor r h in
        let v = stop_floor r h in
        let y = kept (m + r) (omega arith) in
        record {
          from = omega (arith, P.start);
          order = omega (arith, P.start, P.stop, T.end);
          till = omega (arith, P.stop);
          floors = u ∙ R.floors;
          order' = omega (arith, R.order');
          till' = omega (arith, R.till');
          tally = y ∙ R.tally;
        }

    walked_own : walked m ws₂ r ≡ ltb (16 * m + top) (16 * m + t)
    unfolding walked ◌and◌
    walked_own = rw (lt-ltb r m h, P.start, P.stop)

    used : t ≤ 4 * many (walked m ws₂) ids
    used =
        let n = walked-other m r ws ws₂ change in
        elim (ℕ_discrete (length l) 0) [
          | yes z ↦
              let e : many (walked m ws₂) ids ≡ many (walked m ws) ids =
              many-same (walked m ws) (walked m ws₂) ids (λ x. elim (ℕ_discrete x r) [
                | yes y ↦ rw y (walked_own ∙ le-ltb (16 * m + top) (16 * m + t) (omega (arith, T.end)) ∙ sym unwalked)
                | no y ↦ n x y
              ]) in
              omega (arith, T.end, K.used)
          | no z ↦
              let e = many_more (walked m ws) r unwalked (walked m ws₂) (walked_own ∙ lt-ltb (16 * m + top) (16 * m + t) (omega (arith, T.end, z))) n ids in
              omega (arith, T.end, K.used)
        ]

    blank : (j : ℕ) → 16 * m + t ≤ j → j < 16 * m + 8 * length ids → get_or ws₂ j 0 ≡ 0
    blank j g d =
        elim (dec_lt j (16 * m + 4 * length ids)) [
          | yes y ↦ (let e : j ≡ 16 * m + (j - 16 * m) = omega arith in
              get_d_after j P.kept (omega arith) ∙ rw e (ap (λ (x : List ℕ). get_or x (16 * m + (j - 16 * m)) 0) T.pool ∙ pooled-blank ws (16 * m) (4 * length ids) top l size_in fits (j - 16 * m) (omega (arith, T.end)) (omega arith)))
          | no y ↦ kept_past j (omega arith) ∙ K.blank j (omega (arith, pool_fits ids m top k ws K)) d
        ]

    pub step_list : Step (with_list l) ids m r t k ws ws₂
    unfolding with_list rec_at
    step_list = record {
      keeping = change_keeping m r ws ws₂ change ids top t k k K (omega (arith, T.end)) (λ x n. refl) row used blank;
      same = change_recs m r ws ws₂ change _ h (
          rec_eq _ _ _ _ _ _ _ _ _ _ _ _ _ _ _ _
          (kept r (omega arith))
          (kept (m + r) (omega arith))
          (kept (2 * m + r) (omega arith))
          (ap (λ (x : ℕ). not (eqb x 0)) (kept (4 * m + r) (omega arith)))
          (ap (λ (x : ℕ). not (eqb x 0)) (kept (3 * m + r) (omega arith)))
          new
          (floor_kept r h)
          (ap (λ (x : ℕ). not (eqb x 0)) (kept_table (15 * m + r) (omega arith) (omega arith))))
          ∙ ap (λ (x : Rec). set (recs_of ws m) r (with_list l x)) (sym (recs_at ws m r h));
      size = l₂ ∙ len₁;
      after = λ j g. kept_past j (omega arith);
    }

-- ---------------------------------------------------------------- as the code has it

module _ (plan : Plan) (cs ids : List ℕ) (s top k : ℕ) (ws : List ℕ) (K : Keeping ids plan.records top k ws) (r : ℕ) (er : r ≡ get_or ids s 0) (h : r < plan.records)
    (none : end_of ws plan.records (7 * plan.records) r ≤ start_of ws plan.records (7 * plan.records) r) where
  abbrev m : ℕ
  m = plan.records

  pub list_tracing : (r ≡ 0 → ⊥) → Ways plan.table cs ids ws → s < length ids → 16 * m + 70 * length ids ≤ plan.table → Start (pool_in plan) cs ids s top ws
  list_tracing own l g p = record {
    ways = l;
    apart = omega arith;
    span = g;
    own = λ z. own (er ∙ z);
    room = rw (← er) (list_room ids m top k ws K r h none);
    blank = λ i a b. K.blank (16 * m + i) (omega arith) (omega arith);
  }

  module _ (T : Start (pool_in plan) cs ids s top ws) (ws₁ : List ℕ) (t : ℕ) (D : Traced (traced (net_at plan.table ids ws) ids s) ids (16 * m) top ws ws₁ t) where
    short : length (traced (net_at plan.table ids ws) ids s) ≤ 4 * many (eqb r) ids
    short = rw er (traced_room plan.table cs ids ws s T.ways T.span T.own)

    pub list_fits : (16 * m + top < 4294967296) × (16 * m + t < 4294967296)
    list_fits =
        let j = list_room ids m top k ws K r h none in
        (omega (arith, K.few, K.spans), omega (arith, K.few, K.spans, D.end, short))

    pub list_size : 16 * m ≤ length ws₁
    list_size = omega (arith, K.room, traced_size ids m top k ws K r h none (traced (net_at plan.table ids ws) ids s) ws₁ t D short)

    -- the list, and then its mark
    pub list_step : (ws₂ : List ℕ) → Placed m (7 * m) r (16 * m + top) (16 * m + t) ws₁ ws₂ → length ws₂ ≡ length ws₁
        → (b : Bool) → b ≡ traced_cut (net_at plan.table ids ws) ids s → (ws₃ : List ℕ) → ws₃ ≡ cut_marked m r b ws₂
        → Step (with_contour (traced (net_at plan.table ids ws) ids s) (traced_cut (net_at plan.table ids ws) ids s)) ids m r t k ws ws₃
    unfolding with_contour
    list_step ws₂ P l₂ b eb ws₃ e₃ =
        let one = step_list ids m top k ws K r h none (traced (net_at plan.table ids ws) ids s) ws₁ ws₂ t D short P l₂ in
        rw (← eb, e₃) (step_then _ _ ids m r t t k k ws ws₂ (cut_marked m r b ws₂) h one (step_cut b ids m t k ws₂ one.keeping r h))
