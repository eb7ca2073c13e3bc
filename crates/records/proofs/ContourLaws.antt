-- A record without a list takes the span's area and contour; one with a list stays: together the rule's `contoured`.
-- And a span's count, overlap and floors, one after the other.
use Prim.Native.Nat.{ℕ, suc, ◌+◌, ◌*◌, ◌-◌, ◌≤◌, ◌<◌}
use native.Mathlib.Omega.{arith}
use mathlib.Core.Path.{◌≡◌, refl, sym, ap, ◌∙◌}
use mathlib.Core.Bool.{Bool, true, false, not}
use mathlib.Core.List.{List}
use lib.ListN.{length, get_or, set, length-set}
use lib.Seq.{get_or-set_same, get_or-set_other}
use lib.Dec.{eqb}
use borrow.Author.Tests.{eq-eqb, ne_eqb}
use Rattle.rules.specs.Base.{◌and◌, when◌then◌else◌}
use Rattle.rules.specs.Net.{Net, area_of}
use Rattle.rules.specs.Contour.{first_solid}
use Rattle.rules.specs.Growth.{plain}
use Rattle.rules.specs.Records.{Rec, at, fresh}
use Rattle.laws.proofs.Basics.{many_le, or_no}
use Rattle.space.specs.Space.{sec}
use Rattle.net.specs.Table.{net_at}
use Rattle.net.proofs.Tables.{area_at, net_same}
use Rattle.contour.specs.Pool.{Start}
use Rattle.contour.proofs.Areas.{first_areas, contour_areas, cut_areas}
use Rattle.contour.proofs.WalkLaws.{ways_same}
use Rattle.table.specs.View.{start_of, end_of, list_at, rec_at, view, recs_of}
use Rattle.table.proofs.ViewLaws.{list_length, view-at, view-length, recs_at}
use Rattle.records.specs.Cell.{twins, others_from, Within, Prior}
use Rattle.records.specs.Rows.{Keeping, Took, Step, Slack, traced, traced_cut, marked, plus_one, overlaid, floored, celled, with_area, with_list, with_cut, with_contour, contoured}
use Rattle.records.specs.Map.{pool_in}
use Rattle.records.specs.Stock.{Reach}
use Rattle.records.specs.Build.{Knowing, KnowingFrom}
use Rattle.rules.specs.Field.{none}
use Rattle.records.specs.declared.cell.Spans.{Spans}
use Rattle.records.proofs.KnownLaws.{celled_took, prior_known}
use Rattle.records.proofs.RowLaws.{list_parts, floor_parts, count_room, step_then, store_start, store_end}
use Rattle.records.proofs.StepLaws.{step-none, step-one, step_area, step-marked}
use Rattle.records.proofs.TraceLaws.{list_tracing}

-- a contour reads no area, so it is the same with ids in their place
traced_areas : (table : ℕ) (ar ids ws : List ℕ) (s : ℕ) → length ids ≡ length ar → traced (net_at table ids ws) ids s ≡ traced (net_at table ar ws) ids s
unfolding net_at traced
traced_areas table ar ids ws s e =
    let l = sec table (4 * length ar) ws in
    rw (e, first_areas l ids ar ids s, contour_areas l ids ar ids s (first_solid (record { neighbours = l; areas = ar }) ids s)) refl

cut_traced_areas : (table : ℕ) (ar ids ws : List ℕ) (s : ℕ) → length ids ≡ length ar → traced_cut (net_at table ids ws) ids s ≡ traced_cut (net_at table ar ws) ids s
unfolding net_at traced_cut
cut_traced_areas table ar ids ws s e =
    let l = sec table (4 * length ar) ws in
    rw (e, first_areas l ids ar ids s, cut_areas l ids ar ids s (first_solid (record { neighbours = l; areas = ar }) ids s)) refl

-- a step under another name
step_as : (f g : Rec → Rec) (ids : List ℕ) (m r top k : ℕ) (ws ws' : List ℕ) → f (at (recs_of ws m) r) ≡ g (at (recs_of ws m) r) → Step f ids m r top k ws ws' → Step g ids m r top k ws ws'
step_as f g ids m r top k ws ws' e p = record { keeping = p.keeping; same = p.same ∙ ap (set (recs_of ws m) r) e; size = p.size; after = p.after }

-- the record after a step
step-at : (f : Rec → Rec) (ids : List ℕ) (m r top k : ℕ) (ws ws' : List ℕ) → r < m → Step f ids m r top k ws ws' → rec_at ws' m (7 * m) (11 * m) r ≡ f (rec_at ws m (7 * m) (11 * m) r)
unfolding at recs_of
step-at f ids m r top k ws ws' h p =
    let l = view ws m (7 * m) (11 * m) in
    sym (view-at ws' m (7 * m) (11 * m) r h) ∙ ap (λ (x : List Rec). get_or x r (fresh 0)) p.same
    ∙ get_or-set_same l r (f (get_or l r (fresh 0))) (fresh 0) (rw (view-length ws m (7 * m) (11 * m)) h) ∙ ap f (view-at ws m (7 * m) (11 * m) r h)

module _ (ids : List ℕ) (m top k : ℕ) (ws : List ℕ) (K : Keeping ids m top k ws) (r : ℕ) (h : r < m) (a e : ℕ) (ea : a ≡ start_of ws m (7 * m) r) (ee : e ≡ end_of ws m (7 * m) r) where
  long : length (list_at ws m (7 * m) r) ≡ end_of ws m (7 * m) r - start_of ws m (7 * m) r
  long = list_length ws m (7 * m) r (list_parts ids m top k ws K) h

  -- a record that has a list stays
  pub contour_there : a < e → (N : Net) (s : ℕ) → Step (contoured N ids s) ids m r top k ws ws
  unfolding contoured rec_at ◌and◌ when◌then◌else◌
  contour_there g N s =
      let n : eqb (length (list_at ws m (7 * m) r)) 0 ≡ false = ne_eqb (length (list_at ws m (7 * m) r)) 0 (λ (z : length (list_at ws m (7 * m) r) ≡ 0). omega (arith, long)) in
      step-none (contoured N ids s) ids m r top k ws K (rw (recs_at ws m r h, n, or_no (not (eqb (get_or ws (15 * m + r) 0) 0))))

  module _ (g : e ≤ a) where
    pub none_yet : end_of ws m (7 * m) r ≤ start_of ws m (7 * m) r
    none_yet = omega arith

    empty : eqb (length (list_at ws m (7 * m) r)) 0 ≡ true
    empty = eq-eqb (length (list_at ws m (7 * m) r)) 0 (omega (arith, long))

    pub none_after : (v : ℕ) → end_of (set ws (2 * m + r) v) m (7 * m) r ≤ start_of (set ws (2 * m + r) v) m (7 * m) r
    none_after v =
        let low : 2 * m + r < 5 * m = omega arith in
        rw (store_start ids m top k ws K (2 * m + r) v low (7 * m) r (omega arith), store_end ids m top k ws K (2 * m + r) v low (7 * m) r (omega arith)) none_yet

    pub area_keeping : (v : ℕ) → Keeping ids m top k (set ws (2 * m + r) v)
    area_keeping v = (step_area ids m top k ws K r h v).keeping

    module _ (table : ℕ) (ar cs : List ℕ) (s v : ℕ) (R : Reach (record { records = m; table = table }) ar cs ids ws s) (er : r ≡ get_or ids s 0) where
      low : 2 * m + r < table
      low = omega (arith, R.past)

      -- the area's store leaves the net
      net_left : net_at table ids (set ws (2 * m + r) v) ≡ net_at table ids ws
      net_left = net_same table ids ws (set ws (2 * m + r) v) R.ways.lent.room (length-set ws (2 * m + r) v)
          (λ i g. get_or-set_other ws (2 * m + r) i v 0 (λ z. omega (arith, low)))

      pub area_tracing : (r ≡ 0 → ⊥) → Start (pool_in (record { records = m; table = table })) cs ids s top (set ws (2 * m + r) v)
      area_tracing own =
          list_tracing (record { records = m; table = table }) cs ids s top k (set ws (2 * m + r) v) (area_keeping v) r er h (none_after v) own
          (ways_same table cs ids ws (set ws (2 * m + r) v) (length-set ws (2 * m + r) v) net_left R.ways) R.span R.past

      pub contour-taken : (t : ℕ) → v ≡ get_or ar s 0 → (ws' : List ℕ)
          → (let M = net_at table ids (set ws (2 * m + r) v) in Step (with_contour (traced M ids s) (traced_cut M ids s)) ids m r t k (set ws (2 * m + r) v) ws')
          → Step (contoured (net_at table ar ws) ids s) ids m r t k ws ws'
      unfolding contoured with_contour with_cut with_list with_area rec_at ◌and◌ when◌then◌else◌
      contour-taken t ev ws' q =
          let N = net_at table ar ws in
          let l : traced (net_at table ids (set ws (2 * m + r) v)) ids s ≡ traced N ids s =
          ap (λ (x : Net). traced x ids s) net_left ∙ traced_areas table ar ids ws s R.sized in
          let c : traced_cut (net_at table ids (set ws (2 * m + r) v)) ids s ≡ traced_cut N ids s =
          ap (λ (x : Net). traced_cut x ids s) net_left ∙ cut_traced_areas table ar ids ws s R.sized in
          let ar_is : area_of N s ≡ v = area_at table ar ws s (omega (arith, R.span, R.sized)) ∙ sym ev in
          let p : Step (with_contour (traced N ids s) (traced_cut N ids s)) ids m r t k (set ws (2 * m + r) v) ws' = rw (← l, ← c) q in
          step_as (λ x. with_contour (traced N ids s) (traced_cut N ids s) (with_area v x)) (contoured N ids s) ids m r t k ws ws' (rw (recs_at ws m r h, empty, ar_is))
          (step_then (with_area v) (with_contour (traced N ids s) (traced_cut N ids s)) ids m r top t k k ws (set ws (2 * m + r) v) ws' h (step_area ids m top k ws K r h v) p)

-- ---------------------------------------------------------------- the cell

module _ (ids : List ℕ) (m top s : ℕ) (ws : List ℕ) (K : Keeping ids m top s ws) (r size from : ℕ) (er : r ≡ get_or ids s 0) (pl : plain (get_or ids s 0) ≡ true) (g : s < length ids) where
  pub own_in : r < m
  own_in = rw er (K.below s pl)

  pub count_fits : get_or ws (m + r) 0 < 65535
  count_fits = omega (arith, count_room ids m top s ws K r own_in, many_le (eqb r) ids, K.spans)

  one : Step plus_one ids m r top (s + 1) ws (set ws (m + r) (get_or ws (m + r) 0 + 1))
  one = step-one ids m top s ws K r own_in g er pl

  -- looked back to its own cell, its record has what it takes from it
  pub took_known : (cell : Spans) (prior : ℕ) → Within ids s cell → KnowingFrom ids m cell prior ws → prior ≡ cell.from → Took ids s cell.size cell.from (at (recs_of ws m) r)
  took_known cell prior w k e =
      let n : prior ≡ none → ⊥ = (λ z. omega (arith, w.lower, g, K.spans)) in
      rw (er, ← e) ((k.knowing n).known.took s (omega (arith, w.lower)) (omega (arith, w.upper)) pl)

  -- its record has what it takes from its cell
  pub cell_known : Took ids s size from (at (recs_of ws m) r) → Step (celled ids s size from) ids m r top (s + 1) ws (set ws (m + r) (get_or ws (m + r) 0 + 1))
  cell_known k = step_as plus_one (celled ids s size from) ids m r top (s + 1) ws _ (celled_took ids s size from (at (recs_of ws m) r) k) one

  module _ (ws₁ : List ℕ) (e₁ : ws₁ ≡ set ws (m + r) (get_or ws (m + r) 0 + 1)) where
    one₁ : Step plus_one ids m r top (s + 1) ws ws₁
    one₁ = rw e₁ one

    pub counted_keeping : Keeping ids m top (s + 1) ws₁
    counted_keeping = one₁.keeping

    -- counting keeps the floors
    floors_counted : list_at ws₁ m (11 * m) r ≡ list_at ws m (11 * m) r
    unfolding plus_one rec_at
    floors_counted = ap (λ (x : Rec). x.floors) (step-at _ ids m r top (s + 1) ws ws₁ own_in one₁)

    pub counted_slack : Slack m r ws₁
    unfolding plus_one rec_at
    counted_slack =
        let e = step-at _ ids m r top (s + 1) ws ws₁ own_in one₁ in
        let c : get_or ws₁ (m + r) 0 ≡ suc (get_or ws (m + r) 0) = ap (λ (x : Rec). x.count) e in
        let l = list_length ws m (11 * m) r (floor_parts ids m top s ws K) own_in in
        let l₁ = list_length ws₁ m (11 * m) r (floor_parts ids m top (s + 1) ws₁ counted_keeping) own_in in
        record { slack = omega (arith, ap length floors_counted, (K.rows r own_in).order', (K.rows r own_in).till', (counted_keeping.rows r own_in).order') }

    -- what its record has from a prior cell
    pub counted_prior : (cell prior : Spans) → Within ids s cell → Knowing ids m prior ws → Prior ids (list_at ws₁ m (11 * m) r) s cell prior
    unfolding rec_at
    counted_prior cell prior w k =
        let f : (at (recs_of ws m) r).floors ≡ list_at ws m (11 * m) r = ap (λ (x : Rec). x.floors) (recs_at ws m r own_in) in
        let p : Prior ids (at (recs_of ws m) r).floors s cell prior = rw er (prior_known ids s cell prior (recs_of ws m) w pl k.known) in
        rw (floors_counted, ← f) p

    -- floors and overlap do not touch each other, so either may come first
    pub cell-step : (ws₂ ws₃ : List ℕ) (b : Bool) → Step (floored (others_from ids s size from)) ids m r top (s + 1) ws₁ ws₂ → b ≡ twins ids s (get_or ids s 0) size from
        → ws₃ ≡ marked m r b ws₂ → Step (celled ids s size from) ids m r top (s + 1) ws ws₃
    unfolding celled floored overlaid
    cell-step ws₂ ws₃ b q e p =
        let two = step_then plus_one (floored (others_from ids s size from)) ids m r top top (s + 1) (s + 1) ws ws₁ ws₂ own_in one₁ q in
        let three = step_then (λ x. floored (others_from ids s size from) (plus_one x)) (overlaid b) ids m r top top (s + 1) (s + 1) ws ws₂ ws₃ own_in two (rw p (step-marked b ids m top (s + 1) ws₂ q.keeping r own_in)) in
        step_as _ (celled ids s size from) ids m r top (s + 1) ws ws₃ (rw e refl) three
