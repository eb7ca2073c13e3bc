-- The loops over cells and layers: after the cells before c the records are the rule's after those cells' spans.
-- At the end the tables and parts can be read, since they lie as `Keeping` says and name what the rule's records name.
use Prim.Native.Nat.{ℕ, zero, suc, ◌+◌, ◌*◌, ◌-◌, ◌≤◌, ◌<◌}
use native.Mathlib.Omega.{arith}
use native.Mathlib.Nat.{add-suc, add-zero}
use native.Mathlib.Numerals.{add-one}
use native.Mathlib.Decide.{ℕ_discrete, dec_lt}
use mathlib.Core.Path.{◌≡◌, refl, sym, ap, ◌∙◌}
use mathlib.Core.Bool.{Bool, true, false, not, false≢true}
use mathlib.Core.List.{List, [], ◌∷◌}
use lib.ListN.{length, get_or, set}
use lib.Dec.{eqb, ltb}
use borrow.Author.Tests.{eqb-true}
use mathlib.Core.Logic.{⊎_elim}
use Rattle.rules.specs.Base.{◌and◌, ◌or◌, when◌then◌else◌, upto, tab}
use Rattle.rules.specs.Field.{Field, spans, cell_of, none}
use Rattle.rules.specs.Net.{Net, net_of}
use Rattle.rules.specs.Growth.{plain}
use Rattle.rules.specs.Contour.{first_solid, contour, cut_short}
use Rattle.rules.specs.Records.{Rec, fresh, at, has, others, once_all, counted, add_span, records}
use Rattle.rules.specs.Refusals.{most_spans}
use Rattle.laws.proofs.Basics.{if-ind, upto_next, tab-at, length-tab}
use Rattle.laws.proofs.Cells.{passed}
use Rattle.laws.proofs.Strides.{answered}
use Rattle.field.specs.Lent.{Celled, Stands}
use Rattle.field.proofs.Passed.{sound_reached}
use Rattle.field.proofs.Places.{cell_is, layer_stands, stands_at, first_of, first_is, total_is}
use Rattle.net.specs.Table.{net_at}
use Rattle.net.proofs.Tables.{net_same}
use Rattle.net.proofs.Fills.{net_lent}
use Rattle.contour.specs.Ways.{Mutual, Ways}
use Rattle.contour.proofs.Areas.{ways_areas}
use Rattle.contour.proofs.WalkLaws.{ways_same}
use Rattle.table.specs.View.{part, start_of, end_of, list_at, rec_at, recs_of, Held}
use Rattle.table.proofs.ViewLaws.{view_by, view-length, part_none, rec_eq, recs_at}
use Rattle.records.specs.Cell.{twins, others_from, Lies, Alike, as_many_from, LooksTo}
use Rattle.records.specs.Rows.{mine, Row, Keeping, Known, Step, plus_one, overlaid, floored, celled, contoured, traced, traced_cut}
use Rattle.records.specs.Fresh.{Renewed}
use Rattle.records.specs.Stock.{Given, Reach, Blank, Built}
use Rattle.records.specs.Build.{added, Standing, Added, Entering, Entered, Knowing, KnowingFrom}
use Rattle.records.specs.declared.cell.Spans.{Spans}
use Rattle.records.specs.declared.grow.Plan.{Plan}
use Rattle.records.proofs.CellLaws.{any-twins}
use Rattle.records.proofs.JoinLaws.{others_from_lem}
use Rattle.records.proofs.CountLaws.{many_passes, many-none, mine-not}
use Rattle.records.proofs.RowLaws.{pool_fits, floors_inside, list_parts, floor_parts, step_then}
use Rattle.records.proofs.KnownLaws.{known_run, known_made, known_few, known_alike}
use Rattle.records.proofs.NameLaws.{own_name, lists_under, floors_below}

-- ---------------------------------------------------------------- the rule's count, part by part

no_list : (l : List ℕ) → eqb (length l) 0 ≡ true → l ≡ []
no_list [] e = refl
no_list (x ∷ l) e = let z : suc (length l) ≡ 0 = eqb-true (suc (length l)) 0 e in absurd (omega arith)

list_is : (N : Net) (ids l : List ℕ) (s : ℕ) (b : Bool) → eqb (length l) 0 ≡ b → (when b then traced N ids s else l)
    ≡ (when b and ltb (first_solid N ids s) 4 then contour N ids s (first_solid N ids s) else l)
unfolding traced when◌then◌else◌ ◌and◌
list_is N ids l s true e = rw (no_list l e) refl
list_is N ids l s false e = refl

mark_is : (N : Net) (ids : List ℕ) (s : ℕ) (c b : Bool) → (c or (b and traced_cut N ids s))
    ≡ (c or (b and ltb (first_solid N ids s) 4 and cut_short N ids s (first_solid N ids s)))
unfolding traced_cut ◌and◌
mark_is N ids s c true = refl
mark_is N ids s c false = refl

counted_is : (F : Field) (ids : List ℕ) (s n t : ℕ) (x : Rec) → plain (get_or ids s 0) ≡ true → n ≡ get_or F.count (cell_of F.count s) 0 → t ≡ get_or F.index (cell_of F.count s) 0
    → contoured (net_of F) ids s (celled ids s n t x) ≡ counted F ids s x
unfolding contoured celled floored overlaid plus_one counted others_from
counted_is F ids s n t x pl en et =
    let o : others F ids s ≡ others_from ids s n t = others_from_lem F ids s ∙ sym (rw (en, et) refl) in
    let v : has (others F ids s) (get_or ids s 0) ≡ twins ids s (get_or ids s 0) n t = ap (λ (l : List ℕ). has l (get_or ids s 0)) o ∙ any-twins ids s (get_or ids s 0) pl n t in
    rec_eq _ _ _ _ _ _ _ _ _ _ _ _ _ _ _ _ refl refl refl refl (ap (λ (b : Bool). x.overlap or b) (sym v)) (list_is (net_of F) ids x.list s (eqb (length x.list) 0) refl) (ap (once_all x.floors) (sym o))
    (mark_is (net_of F) ids s x.cut (eqb (length x.list) 0))

-- ---------------------------------------------------------------- a span

-- where the part past the records stays, so does the net
net_past : (plan : Plan) (ar ids : List ℕ) (ws ws' : List ℕ) → 16 * plan.records + 70 * length ids ≤ plan.table → plan.table + 4 * length ar ≤ length ws → length ws' ≡ length ws
    → ((j : ℕ) → 16 * plan.records + 70 * length ids ≤ j → get_or ws' j 0 ≡ get_or ws j 0) → net_at plan.table ar ws' ≡ net_at plan.table ar ws
net_past plan ar ids ws ws' p r e f = net_same plan.table ar ws ws' r e (λ i h. f i (omega arith))

-- the rule's span, with its cell at hand
added_is : (F : Field) (ids : List ℕ) (cell : Spans) (c s : ℕ) (rs : List Rec) → Stands F c s → cell.from ≡ get_or F.index c 0 → cell.size ≡ get_or F.count c 0
    → added (net_of F) ids cell s rs ≡ add_span F ids s rs
unfolding added add_span when◌then◌else◌
added_is F ids cell c s rs st ef es = go (plain (get_or ids s 0)) refl
  where
    en : cell.size ≡ get_or F.count (cell_of F.count s) 0
    en = es ∙ ap (λ (i : ℕ). get_or F.count i 0) (sym st.cell)

    et : cell.from ≡ get_or F.index (cell_of F.count s) 0
    et = ef ∙ ap (λ (i : ℕ). get_or F.index i 0) (sym st.cell)

    go : (b : Bool) → plain (get_or ids s 0) ≡ b
        → (when b then set rs (get_or ids s 0) (contoured (net_of F) ids s (celled ids s cell.size cell.from (at rs (get_or ids s 0)))) else rs)
        ≡ (when b then set rs (get_or ids s 0) (counted F ids s (at rs (get_or ids s 0))) else rs)
    go true pl = ap (set rs (get_or ids s 0)) (counted_is F ids s cell.size cell.from (at rs (get_or ids s 0)) pl en et)
    go false pl = refl

module _ (plan : Plan) (ar cs ids : List ℕ) (cell : Spans) (s top : ℕ) (ws : List ℕ) (st : Standing plan ar cs ids cell s top ws) where
  abbrev K : Keeping ids plan.records top s ws
  K = st.keeping

  -- a span of no region
  pub added_none : plain (get_or ids s 0) ≡ false → Added plan ar ids cell s ws top ws
  unfolding added when◌then◌else◌
  added_none pl = record {
    keeping = record {
      few = K.few;
      spans = K.spans;
      room = K.room;
      below = K.below;
      rows = λ i g. (let R = K.rows i g in record {
        from = R.from;
        order = R.order;
        till = R.till;
        floors = R.floors;
        order' = R.order';
        till' = R.till';
        tally = R.tally ∙ sym (many_passes (mine i) ids s st.reach.span (mine-not i (get_or ids s 0) pl));
      });
      used = K.used;
      blank = K.blank;
      spare = K.spare;
    };
    same = rw pl;
    size = refl;
    after = λ j _. refl;
  }

  -- a span of a region
  module _ (pl : plain (get_or ids s 0) ≡ true) (r : ℕ) (er : r ≡ get_or ids s 0) where
    pub own_below : r < plan.records
    own_below = rw er (K.below s pl)

    pub own_some : r ≡ 0 → ⊥
    unfolding ◌and◌
    own_some z = false≢true (rw (sym er ∙ z) at pl)

    module _ (ws₁ : List ℕ) (p : Step (celled ids s cell.size cell.from) ids plan.records r top (s + 1) ws ws₁) where
      net_then : net_at plan.table ar ws₁ ≡ net_at plan.table ar ws
      net_then = net_past plan ar ids ws ws₁ st.reach.past (rw (← st.reach.sized) st.reach.ways.lent.room) p.size p.after

      -- the same ways after the cell's part
      pub reach_then : Reach plan ar cs ids ws₁ s
      reach_then = record {
        ways = ways_same plan.table cs ids ws ws₁ p.size (net_past plan ids ids ws ws₁ st.reach.past st.reach.ways.lent.room p.size p.after) st.reach.ways;
        sized = st.reach.sized;
        past = st.reach.past;
        span = st.reach.span;
      }

      pub added-one : (t : ℕ) (ws₂ : List ℕ) → Step (contoured (net_at plan.table ar ws₁) ids s) ids plan.records r t (s + 1) ws₁ ws₂ → Added plan ar ids cell s ws t ws₂
      unfolding added when◌then◌else◌
      added-one t ws₂ q =
          let N = net_at plan.table ar ws in
          let q' : Step (contoured N ids s) ids plan.records r t (s + 1) ws₁ ws₂ = rw (← net_then) q in
          let both = step_then (celled ids s cell.size cell.from) (contoured N ids s) ids plan.records r top t (s + 1) (s + 1) ws ws₁ ws₂ own_below p q' in
          record { keeping = both.keeping; same = rw (pl, ← er) both.same; size = both.size; after = both.after }

-- ---------------------------------------------------------------- a cell

module _ (plan : Plan) (ar cs ids : List ℕ) (cell : Spans) (top : ℕ) (ws₀ : List ℕ) (E : Entering plan ar cs ids cell top ws₀) where
  pub entered_start : Entered plan ar ids cell 0 top ws₀ top ws₀
  unfolding upto
  entered_start = record {
    low = omega arith;
    same = refl;
    keeping = λ g. (let q : cell.from + 0 ≡ cell.from = omega arith in rw q (E.keeping g));
    none = λ _. (refl, refl);
    size = refl;
    after = λ i _. refl;
  }

  module _ (j t : ℕ) (ws : List ℕ) (D : Entered plan ar ids cell j top ws₀ t ws) (h : j < cell.size) where
    net_there : net_at plan.table ar ws ≡ net_at plan.table ar ws₀
    net_there = net_past plan ar ids ws₀ ws E.past (rw (← E.sized) E.ways.lent.room) D.size D.after

    stand_there : Standing plan ar cs ids cell (cell.from + j) t ws
    stand_there = record {
      reach = record {
        ways = ways_same plan.table cs ids ws₀ ws D.size (net_past plan ids ids ws₀ ws E.past E.ways.lent.room D.size D.after) E.ways;
        sized = E.sized;
        past = E.past;
        span = omega (arith, E.inside (omega arith));
      };
      within = record { few = E.few; inside = E.inside (omega arith); lower = omega arith; upper = omega arith };
      keeping = D.keeping (omega arith);
    }

    next_there : (u : ℕ) (ws' : List ℕ) → Added plan ar ids cell (cell.from + j) ws u ws' → Entered plan ar ids cell (j + 1) top ws₀ u ws'
    next_there u ws' A = record {
      low = omega arith;
      same =
          let N = net_at plan.table ar ws₀ in
          let f : ℕ → List Rec → List Rec = λ i. added N ids cell (cell.from + i) in
          let e : added (net_at plan.table ar ws) ids cell (cell.from + j) (recs_of ws plan.records) ≡ f j (recs_of ws plan.records) =
          ap (λ (x : Net). added x ids cell (cell.from + j) (recs_of ws plan.records)) net_there in
          A.same ∙ e ∙ ap (f j) D.same ∙ sym (upto_next j f (recs_of ws₀ plan.records));
      keeping = λ _. (let q : cell.from + (j + 1) ≡ cell.from + j + 1 = omega arith in rw q A.keeping);
      none = λ z. absurd (omega arith);
      size = A.size ∙ D.size;
      after = λ i g. A.after i g ∙ D.after i g;
    }

    -- of a prior cell what is known stays known
    pub entered_knowing : (prior : ℕ) → KnowingFrom ids plan.records cell prior ws₀ → KnowingFrom ids plan.records cell prior ws
    entered_knowing prior k = record {
      knowing = λ n. record {
        known = rw D.same (known_run _ ids cell (as_many_from prior cell) j (recs_of ws₀ plan.records) (k.knowing n).known);
        lies = (k.knowing n).lies;
      };
      place = k.place;
    }

    pub entered_room : cell.from + j < most_spans
    entered_room = omega (arith, stand_there.reach.span, stand_there.keeping.spans)

    -- the span in layer j, as the code has it
    module _ (s : ℕ) (e : s ≡ cell.from + j) where
      pub entered_stand : Standing plan ar cs ids cell s t ws
      entered_stand = rw e stand_there

      pub entered_next : (u : ℕ) (ws' : List ℕ) → Added plan ar ids cell s ws u ws' → Entered plan ar ids cell (j + 1) top ws₀ u ws'
      entered_next u ws' A = next_there u ws' (rw e at A)

  pub entered_end : (j t : ℕ) (ws : List ℕ) → Entered plan ar ids cell j top ws₀ t ws → cell.size ≤ j → Entered plan ar ids cell cell.size top ws₀ t ws
  entered_end j t ws D h = let q : j ≡ cell.size = omega (arith, D.low) in rw q at D

-- ---------------------------------------------------------------- what is known of a cell

module _ (plan : Plan) (ar cs ids : List ℕ) (cell last : Spans) (top : ℕ) (ws : List ℕ) (E : Entering plan ar cs ids cell top ws) (k : Knowing ids plan.records last ws) where
  pub cell_lies : Lies ids cell
  cell_lies = record { inside = E.inside }

  -- of one like the last one all is, and of one with few spans
  pub know_enter : (1 < cell.size → Alike ids last cell) → Known ids cell (recs_of ws plan.records)
  know_enter e = elim (dec_lt 1 cell.size) [
    | yes h ↦ known_alike ids last cell (recs_of ws plan.records) k.known (e h)
    | no h ↦ known_few ids cell (recs_of ws plan.records) (omega arith)
  ]

  -- of the cell that is looked back to
  pub know_from : 0 < cell.size → (prior : ℕ) → LooksTo ids last cell prior → KnowingFrom ids plan.records cell prior ws
  know_from h prior L = record {
    knowing = λ n. ⊎_elim
        (λ (w : (prior ≡ cell.from) × (1 < cell.size → Alike ids last cell)).
        rw w.0 (record { known = know_enter w.1; lies = cell_lies }))
        (λ (w : (prior ≡ last.from) × (last.size ≡ cell.size)).
        rw (w.0, ← w.1) k)
        (L.seen n);
    place = elim (ℕ_discrete prior none) [
      | yes e ↦ omega (arith, e)
      | no e ↦ ⊎_elim
          (λ (w : (prior ≡ cell.from) × (1 < cell.size → Alike ids last cell)). omega (arith, w.0, E.inside h, (E.keeping h).spans))
          (λ (w : (prior ≡ last.from) × (last.size ≡ cell.size)). omega (arith, w.0, w.1, k.lies.inside (omega (arith, w.1)), (E.keeping h).spans))
          (L.seen e)
    ];
  }

  -- of each all is once it is done, and of the last one it stays known
  pub know_next : 0 < cell.size → (t : ℕ) (ws' : List ℕ) → Entered plan ar ids cell cell.size top ws t ws' → (next : Spans) → next ≡ (when ltb 1 cell.size then cell else last)
      → Knowing ids plan.records next ws'
  unfolding recs_of
  know_next h t ws' D next e = rw e (if-ind (λ (x : Spans). Knowing ids plan.records x ws') (ltb 1 cell.size)
      (λ _. record {
        known = rw D.same (known_made (net_at plan.table ar ws) ids cell (recs_of ws plan.records) (λ x pl. omega (arith, (E.keeping h).below x pl, view-length ws plan.records (7 * plan.records) (11 * plan.records))));
        lies = cell_lies;
      })
      (λ _. record { known = rw D.same (known_run (net_at plan.table ar ws) ids cell last cell.size (recs_of ws plan.records) k.known); lies = k.lies }))

  -- an empty one
  pub entered_none : cell.size ≡ 0 → Entered plan ar ids cell cell.size top ws top ws
  entered_none z = entered_end plan ar cs ids cell top ws E 0 top ws (entered_start plan ar cs ids cell top ws E) (omega arith)

-- ---------------------------------------------------------------- all cells

-- after the cells before c, the pool filled up to top
pub record Running (F : Field) (ids : List ℕ) (m top c : ℕ) (ws₀ ws : List ℕ) : Type 0 where
  pub low : c ≤ F.w * F.h
  pub keeping : Keeping ids m top (first_of F.count c) ws
  pub same : recs_of ws m ≡ upto (first_of F.count c) (add_span F ids) (tab m 0 fresh)
  pub size : length ws ≡ length ws₀
  pub after : (j : ℕ) → 16 * m + 70 * length ids ≤ j → get_or ws j 0 ≡ get_or ws₀ j 0

-- before the first cell there is none
pub know_start : (ids : List ℕ) (m : ℕ) (last : Spans) (ws : List ℕ) → last.size ≡ 0 → Knowing ids m last ws
know_start ids m last ws z = record { known = known_few ids last (recs_of ws m) (omega arith); lies = record { inside = λ h. absurd (omega arith) } }

module _ (F : Field) (ids : List ℕ) (m : ℕ) (ws₀ : List ℕ) (B : Blank ids m ws₀) (ws : List ℕ) (N : Renewed ids m m ws₀ ws) where
  new_row : (i : ℕ) → i < m → Row ids m 0 0 i ws
  new_row i h =
      let l = N.lists i h in
      let f = N.floors i h in
      record {
        from = omega (arith, l.0);
        order = omega (arith, l.0, l.1);
        till = omega (arith, l.1);
        floors = f.0;
        order' = omega (arith, f.0, f.1);
        till' = omega (arith, f.0, f.1);
        tally = N.empty i h ∙ sym (many-none (mine i) ids);
      }

  new_keeping : Keeping ids m 0 0 ws
  new_keeping = record {
    few = B.few;
    spans = B.spans;
    room = omega (arith, N.size, B.room);
    below = B.below;
    rows = new_row;
    used = omega arith;
    blank = λ j g d. N.pool j (omega arith) (omega arith);
    spare = λ x g. N.columns (5 * m + x) (omega arith) (omega arith);
  }

  new_rec : (i : ℕ) → i < m → rec_at ws m (7 * m) (11 * m) i ≡ at (tab m 0 fresh) i
  unfolding rec_at list_at at fresh
  new_rec i h =
      let l = N.lists i h in
      let f = N.floors i h in
      let y : 0 + i ≡ i = omega arith in
      let a : part (start_of ws m (7 * m) i) (end_of ws m (7 * m) i) ws ≡ [] = part_none _ _ ws (omega (arith, l.0, l.1)) in
      let c : part (start_of ws m (11 * m) i) (end_of ws m (11 * m) i) ws ≡ [] = part_none _ _ ws (omega (arith, f.0, f.1)) in
      let e : get_or (tab m 0 fresh) i (fresh 0) ≡ fresh i = rw y at (tab-at m 0 fresh i (fresh 0) h) in
      rec_eq _ _ _ _ _ _ _ _ _ _ _ _ _ _ _ _
      (N.names i h) (N.empty i h) (N.columns (2 * m + i) (omega arith) (omega arith))
      (ap (λ (x : ℕ). not (eqb x 0)) (N.columns (4 * m + i) (omega arith) (omega arith)))
      (ap (λ (x : ℕ). not (eqb x 0)) (N.columns (3 * m + i) (omega arith) (omega arith))) a c
      (ap (λ (x : ℕ). not (eqb x 0)) (N.pool (15 * m + i) (omega arith) (omega arith))) ∙ sym e

  pub run-start : Running F ids m 0 0 ws ws
  unfolding upto recs_of first_of
  run-start = record {
    low = omega arith;
    keeping = new_keeping;
    same = view_by ws m (7 * m) (11 * m) (tab m 0 fresh) (length-tab m 0 fresh) new_rec;
    size = refl;
    after = λ j _. refl;
  }

-- what a field that is not refused lends a walk
given_ways : (F : Field) (ids : List ℕ) (table : ℕ) (ws : List ℕ) → Given F ids table ws → Ways table F.con ids ws
given_ways F ids table ws g =
    let l = net_lent F (sound_reached F g.sound) table ws g.net g.room g.place in
    let a : Mutual (net_at table F.area ws) = rw g.net (record { back = (answered F [] (passed F [] g.sound)).back }) in
    ways_areas table F.con F.area ids ws g.idents (record { lent = l; answers = a })

-- spans of a cell after those before it
upto_then : {A : Type 0} (f : ℕ → A → A) (a k : ℕ) (x : A) → upto k (λ i. f (a + i)) (upto a f x) ≡ upto (a + k) f x
unfolding upto
upto_then f a zero x = rw add-zero
upto_then f a (suc k) x = rw (upto_then f a k x, add-suc)

upto-same : {A : Type 0} (f g : ℕ → A → A) (k : ℕ) (x : A) → ((i : ℕ) (y : A) → i < k → f i y ≡ g i y) → upto k f x ≡ upto k g x
unfolding upto
upto-same f g zero x h = refl
upto-same f g (suc k) x h = rw (upto-same f g k x (λ i y l. h i y (omega arith))) (h k (upto k g x) (omega arith))

module _ (F : Field) (ids : List ℕ) (plan : Plan) (ws₀ p : List ℕ) (g : Given F ids plan.table ws₀) (past : 16 * plan.records + 70 * length ids ≤ plan.table)
    (N : Renewed ids plan.records plan.records ws₀ p) where
  ok : Celled F
  ok = (sound_reached F g.sound).celled

  module _ (top c : ℕ) (ws : List ℕ) (R : Running F ids plan.records top c p ws) where
    same_size : length ws ≡ length ws₀
    same_size = R.size ∙ N.size

    same_past : (j : ℕ) → 16 * plan.records + 70 * length ids ≤ j → get_or ws j 0 ≡ get_or ws₀ j 0
    same_past j h = R.after j h ∙ N.after j h

    net_here : net_at plan.table F.area ws ≡ net_of F
    net_here = net_past plan F.area ids ws₀ ws past g.room same_size same_past ∙ g.net

    given_here : Given F ids plan.table ws
    given_here = record { sound = g.sound; idents = g.idents; net = net_here; room = omega (arith, g.room, same_size); place = g.place }

    pub cell_in : c < F.w * F.h → (c < length F.index) × (c < length F.count)
    cell_in h = (omega (arith, ok.indexed), omega (arith, ok.counted))

    module _ (cell : Spans) (ef : cell.from ≡ get_or F.index c 0) (es : cell.size ≡ get_or F.count c 0) where
      first_here : 0 < cell.size → cell.from ≡ first_of F.count c
      first_here h = ef ∙ first_is F ok c (omega arith)

      pub run_enter : Entering plan F.area F.con ids cell top ws
      run_enter = record {
        ways = given_ways F ids plan.table ws given_here;
        sized = g.idents;
        past = past;
        few = omega (arith, es, (cell_is F ok c).few);
        inside = λ h. (let z = (layer_stands F ok c (cell.size - 1) (omega (arith, es))).span in omega (arith, g.idents, ef));
        keeping = λ h. rw (first_here h) R.keeping;
      }

      module _ (h : c < F.w * F.h) (t : ℕ) (ws' : List ℕ) (D : Entered plan F.area ids cell cell.size top ws t ws') where
        first_next : first_of F.count (c + 1) ≡ first_of F.count c + cell.size
        unfolding first_of
        first_next = rw (add-one c, es)

        run_empty : cell.size ≡ 0 → Running F ids plan.records t (c + 1) p ws'
        run_empty z =
            let q : first_of F.count (c + 1) ≡ first_of F.count c = omega (arith, first_next) in
            let e = D.none z in
            record {
              low = omega arith;
              keeping = rw (e.0, e.1, q) R.keeping;
              same = rw (e.1, q) R.same;
              size = D.size ∙ R.size;
              after = λ j k. D.after j k ∙ R.after j k;
            }

        recs_next : 0 < cell.size → recs_of ws' plan.records ≡ upto (first_of F.count c + cell.size) (add_span F ids) (tab plan.records 0 fresh)
        recs_next z =
            let f : ℕ → List Rec → List Rec = λ i. added (net_at plan.table F.area ws) ids cell (cell.from + i) in
            let k : ℕ → List Rec → List Rec = λ i. add_span F ids (first_of F.count c + i) in
            let same : upto cell.size f (recs_of ws plan.records) ≡ upto cell.size k (recs_of ws plan.records) =
            upto-same f k cell.size (recs_of ws plan.records) (λ i rs l.
            ap (λ (x : Net). added x ids cell (cell.from + i) rs) net_here
            ∙ added_is F ids cell c (cell.from + i) rs (stands_at F ok c cell.from cell.size i ef es l) ef es
            ∙ ap (λ (x : ℕ). add_span F ids (x + i) rs) (first_here z)) in
            D.same ∙ same ∙ ap (upto cell.size k) R.same ∙ upto_then (add_span F ids) (first_of F.count c) cell.size (tab plan.records 0 fresh)

        run_full : 0 < cell.size → Running F ids plan.records t (c + 1) p ws'
        run_full z = record {
          low = omega arith;
          keeping = rw (first_next, ← first_here z) (D.keeping z);
          same = rw first_next (recs_next z);
          size = D.size ∙ R.size;
          after = λ j k. D.after j k ∙ R.after j k;
        }

        pub run_next : Running F ids plan.records t (c + 1) p ws'
        run_next = elim (ℕ_discrete cell.size 0) [ yes z ↦ run_empty z | no z ↦ run_full (omega (arith, z)) ]

-- ---------------------------------------------------------------- the end

module _ (F : Field) (ids : List ℕ) (table next : ℕ) (ws₀ p ws : List ℕ) (g : Given F ids table ws₀) (N : Renewed ids (next + 1) (next + 1) ws₀ p)
    (top c : ℕ) (R : Running F ids (next + 1) top c p ws) (h : F.w * F.h ≤ c) where
  all_spans : first_of F.count c ≡ spans F
  all_spans =
      let q : c ≡ F.w * F.h = omega (arith, R.low) in
      rw q (total_is F (sound_reached F g.sound).celled)

  recs_are : (i : ℕ) → i < next + 1 → rec_at ws (next + 1) (7 * (next + 1)) (11 * (next + 1)) i ≡ at (upto (first_of F.count c) (add_span F ids) (tab (next + 1) 0 fresh)) i
  recs_are i l = sym (recs_at ws (next + 1) i l) ∙ ap (λ (x : List Rec). at x i) R.same

  some : 0 < next + 1
  some = omega arith

  built-held : Held (next + 1) (7 * (next + 1)) (11 * (next + 1)) ws
  unfolding rec_at
  built-held =
      let K = R.keeping in
      let k = first_of F.count c in
      record {
        few = K.few;
        lists = list_parts ids (next + 1) top k ws K;
        floors = floor_parts ids (next + 1) top k ws K;
        ids = λ i l. (let e = ap (λ (y : Rec). y.id) (recs_are i l) in omega (arith, e, own_name ids (next + 1) some K.below F k i l));
        listed = λ i l. record { under = (let e = ap (λ (y : Rec). y.list) (recs_are i l) in rw e (λ j. lists_under ids (next + 1) some K.below F k i j)) };
        floored = λ i l. record { below = (let e = ap (λ (y : Rec). y.floors) (recs_are i l) in rw e (λ j. floors_below ids (next + 1) some K.below F k i j)) };
      }

  pub built : Built F ids next ws₀ ws
  unfolding records
  built =
      let K = R.keeping in
      let k = first_of F.count c in
      record {
        same = R.same ∙ rw (all_spans, add-one next) refl;
        held = built-held;
        from = λ r l. (K.rows r l).from;
        till = λ r l. omega (arith, (K.rows r l).till, pool_fits ids (next + 1) top k ws K);
        floors = λ r l. (K.rows r l).floors;
        floored = λ r l. omega (arith, (K.rows r l).till', floors_inside ids (next + 1) top k ws K r l);
        blank = λ j l d. K.blank j (omega (arith, pool_fits ids (next + 1) top k ws K)) d;
        spare = K.spare;
        size = R.size ∙ N.size;
        after = λ j l. R.after j l ∙ N.after j l;
      }
