-- The room that the code's sums need, by rows and cells as its loops go; the law of the rules is `no_sum-exceeds_65535` (crates/meaning/proofs/Sums.antt).
-- Pass 1: a span that starts above 0 has a neighbour 0, one column before it in its own row and already passed, so in column x it comes to at most
-- 2·x, whatever the rows before hold, which is at most 510. Pass 2 only lowers.
use Prim.Native.Nat.{ℕ, ◌+◌, ◌*◌, ◌-◌, ◌%◌, ◌≤◌, ◌<◌}
use native.Mathlib.Omega.{arith}
use native.Mathlib.Nat.{mod-lt, mul-suc, mul_comm}
use native.Mathlib.Numerals.{add-one}
use native.Mathlib.Decide.{dec_lt, ℕ_discrete}
use mathlib.Core.Path.{◌≡◌, refl, sym, ap, ◌∙◌}
use mathlib.Core.Bool.{Bool, true, false}
use mathlib.Core.List.{List}
use lib.ListN.{length, get_or, set, length-set}
use lib.Arith.{digits_mod}
use borrow.Author.Tests.{eqb-false}
use Rattle.rules.specs.Base.{upto}
use Rattle.rules.specs.Field.{Field, spans, area_of, near, cell_of, cell_to, leaves, con_of}
use Rattle.rules.specs.Distance.{start_at, far, least_of, lower}
use Rattle.rules.specs.Rows.{from_start}
use Rattle.laws.proofs.Basics.{get_d_set_at, get_d_any}
use Rattle.laws.proofs.Cells.{near_none, before, cell_of_in}
use Rattle.laws.proofs.Passes.{wide_pos, mod_pred, start_edge, start-at}
use Rattle.laws.proofs.Rows.{from_start_lem}
use Rattle.field.specs.Lent.{Stands, Reached, cons_at, lent}
use Rattle.field.specs.Blocks.{empty_block}
use Rattle.field.proofs.Blocks.{block_none}
use Rattle.field.proofs.Places.{cell_is, sum_is, stands_in, reaches, stands_at}
use Rattle.field.proofs.Loops.{upto_go}
use Rattle.distance.specs.Walk.{spans_up}
use Rattle.distance.specs.Value.{ringed, side, least_from, least, LowBefore, Passing, PassedTo, Low, Room}
use Rattle.distance.proofs.Walks.{run_go}
use Rattle.distance.proofs.Sides.{from_edge}
use Rattle.distance.proofs.Earlier.{inner, before_0, before_03, before_3, before_32, earlier}

pub low_before : (F : Field) (c : ℕ) (l : List ℕ) → Low F l → LowBefore F c l
low_before F c l v = record { size = v.size; low = λ t h g. v.low t h }

-- the column of a cell of row y
column_of_lem : (w y x : ℕ) → x < w → (w * y + x) % w ≡ x
column_of_lem w y x h = rw (mul_comm w y) (digits_mod y h)

-- the least is at most each of the values that it is the least of
module _ (F : Field) (v a b c e s : ℕ) (l : List ℕ) where
  least_own : least_from F v a b c e s l ≤ v
  unfolding least_from
  least_own = omega arith

  least_first : least_from F v a b c e s l ≤ far l (near F s a) + 2
  unfolding least_from side
  least_first = omega arith

start_is : (F : Field) (ok : Reached F) (s : ℕ) (l : List ℕ) → length l ≡ spans F → s < spans F → set l s (least_from F (start_at F s) 0 3 3 2 s l) ≡ from_start F s l
unfolding least_of least_from side
start_is F ok s l n h = sym (from_start_lem F s h (earlier F ok s h) l n)

module _ (F : Field) (ok : Reached F) where
  -- a layer of its cell
  layer_of_lem : (c t : ℕ) → Stands F c t → (get_or F.index c 0 ≤ t) × (t < get_or F.index c 0 + get_or F.count c 0)
  layer_of_lem c t v =
      let r = cell_of_in F.count t (rw (sum_is F ok.celled) v.span) in
      let low : before F.count c ≤ t = rw v.cell at r.0 in
      let high : t < before F.count c + get_or F.count c 0 = rw v.cell at r.1 in
      let i = (cell_is F ok.celled c).starts (omega arith) in
      (omega arith, omega arith)

  -- ---------------------------------------------------------------- pass 1

  module _ (y x : ℕ) (l : List ℕ) (b : Passing F y x l) (u : x < F.w) where
    passed_low : (t : ℕ) → t < spans F → cell_of F.count t < F.w * y + x → far l t ≤ 510
    passed_low t i g =
        elim (dec_lt (cell_of F.count t) (F.w * y)) [
          | yes z ↦ b.rows.low t i z
          | no z ↦ omega (arith, b.row t i (omega arith) g, ok.celled.narrow)
        ]

    module _ (s : ℕ) (v : Stands F (F.w * y + x) s) where
      room_0 : near F s 0 < spans F → far l (near F s 0) ≤ 510
      room_0 i = passed_low _ i (before_0 F ok _ s v i)

      room_03 : near F (near F s 0) 3 < spans F → far l (near F (near F s 0) 3) ≤ 510
      room_03 i = passed_low _ i (before_03 F ok _ s v i)

      room_3 : near F s 3 < spans F → far l (near F s 3) ≤ 510
      room_3 i = passed_low _ i (before_3 F ok _ s v i)

      room_32 : near F (near F s 3) 2 < spans F → far l (near F (near F s 3) 2) ≤ 510
      room_32 i = passed_low _ i (before_32 F ok _ s v i)

      left_low : near F s 0 < spans F → cell_of F.count (near F s 0) ≡ F.w * y + x - 1 → 0 < x → far l (near F s 0) ≤ 2 * (x - 1)
      left_low i q o =
          let a = b.row (near F s 0) i (omega arith) (omega arith) in
          let e : cell_of F.count (near F s 0) - F.w * y ≡ x - 1 = omega arith in
          rw e at a

      -- what the span comes to, the areas being bytes
      new_low : ((i : ℕ) → get_or F.area i 0 < 256) → least_from F (start_at F s) 0 3 3 2 s l ≤ 2 * x
      unfolding cell_to leaves area_of
      new_low bytes =
          elim (ℕ_discrete (con_of F s 0) 255) [
            | yes z ↦
                let e = start_edge F s 0 (omega (arith, ok.celled.few)) v.span (rw (get_d_any F.area s 256 0 v.span) (bytes s)) (omega arith) (near_none F s 0 z) in
                omega (arith, start-at F s v.span, least_own F (start_at F s) 0 3 3 2 s l)
            | no z ↦
                let r = inner F ok (F.w * y + x) s 0 v (omega arith) (reaches F ok s 0 v.span (omega arith) z).inside in
                let k = eqb-false ((F.w * y + x) % F.w) 0 r.0 in
                let m = column_of_lem F.w y x u in
                let q : cell_of F.count (near F s 0) ≡ F.w * y + x - 1 = r.1.cell in
                let a : far l (near F s 0) ≤ 2 * (x - 1) = left_low r.1.span q (omega arith) in
                omega (arith, least_first F (start_at F s) 0 3 3 2 s l)
          ]

      passing_set : (n : ℕ) → Passing F y x (set l s n)
      passing_set n =
          let i : s < length l = omega (arith, b.rows.size, v.span) in
          record {
            rows = record {
              size = length-set l s n ∙ b.rows.size;
              low = λ t h g. get_d_set_at l s n 65535 t (λ r. r ≤ 510) i (λ z. absurd (omega (arith, v.cell, ap (cell_of F.count) z))) (λ z. b.rows.low t h g);
            };
            row = λ t h f g. get_d_set_at l s n 65535 t (λ r. r ≤ 2 * (cell_of F.count t - F.w * y)) i
                (λ z. absurd (omega (arith, v.cell, ap (cell_of F.count) z))) (λ z. b.row t h f g);
          }

  -- the same over spans in order
  module _ (c s : ℕ) (l : List ℕ) (b : PassedTo F s l) (v : Stands F c s) where
    flat_low : (t : ℕ) → t < spans F → t < s → far l t ≤ 510
    flat_low t i g =
        let m = mod-lt (cell_of F.count t) (wide_pos F.w F.h (cell_of F.count t) (stands_in F ok.celled (cell_of F.count t) t (record { span = i; cell = refl }))) in
        omega (arith, b.low t g, ok.celled.narrow)

    flat_new : ((i : ℕ) → get_or F.area i 0 < 256) → least_from F (start_at F s) 0 3 3 2 s l ≤ 2 * (c % F.w)
    unfolding cell_to leaves area_of
    flat_new bytes =
        elim (ℕ_discrete (con_of F s 0) 255) [
          | yes z ↦
              let e = start_edge F s 0 (omega (arith, ok.celled.few)) v.span (rw (get_d_any F.area s 256 0 v.span) (bytes s)) (omega arith) (near_none F s 0 z) in
              omega (arith, start-at F s v.span, least_own F (start_at F s) 0 3 3 2 s l)
          | no z ↦
              let r = inner F ok c s 0 v (omega arith) (reaches F ok s 0 v.span (omega arith) z).inside in
              let k = eqb-false (c % F.w) 0 r.0 in
              let m = mod_pred c F.w (wide_pos F.w F.h c (stands_in F ok.celled c s v)) (omega arith) in
              let y = b.low (near F s 0) ((earlier F ok s v.span).first r.1.span) in
              let x : far l (near F s 0) ≤ 2 * ((c - 1) % F.w) = rw r.1.cell at y in
              omega (arith, least_first F (start_at F s) 0 3 3 2 s l)
        ]

    pub flat_go : ((i : ℕ) → get_or F.area i 0 < 256) → (n : ℕ) → n ≡ least_from F (start_at F s) 0 3 3 2 s l → PassedTo F (s + 1) (set l s n)
    flat_go bytes n e =
        let i : s < length l = omega (arith, b.size, v.span) in
        let o : n ≤ 2 * (c % F.w) = rw e (flat_new bytes) in
        record {
          size = length-set l s n ∙ b.size;
          low = λ t h. get_d_set_at l s n 65535 t (λ r. r ≤ 2 * (cell_of F.count t % F.w)) i (λ z. rw (z, v.cell) o) (λ z. b.low t (omega arith));
        }

    pub flat-left : Room F l s 0 3
    flat-left = record { size = b.size; first = λ i. flat_low _ i ((earlier F ok s v.span).first i); second = λ i. flat_low _ i ((earlier F ok s v.span).second i) }

    pub flat_up : Room F l s 3 2
    flat_up = record { size = b.size; first = λ i. flat_low _ i ((earlier F ok s v.span).third i); second = λ i. flat_low _ i ((earlier F ok s v.span).fourth i) }

    flat_is : (n : ℕ) → n ≡ least_from F (start_at F s) 0 3 3 2 s l → set l s n ≡ from_start F s l
    flat_is n g = ap (set l s) g ∙ start_is F ok s l b.size v.span

    -- one more in a run from a on
    pub flat-run : (a : ℕ) (k : List ℕ) (n : ℕ) → a ≤ s → l ≡ spans_up (from_start F) a (s - a) k → n ≡ least_from F (start_at F s) 0 3 3 2 s l
        → set l s n ≡ spans_up (from_start F) a (s + 1 - a) k
    flat-run a k n h e g = run_go (from_start F) a s k l (set l s n) h e (flat_is n g)

  pub flat-first : (l : List ℕ) → length l ≡ spans F → PassedTo F 0 l
  flat-first l n = record { size = n; low = λ t h. absurd (omega arith) }

  pub flat-last : (s n : ℕ) (l : List ℕ) → n ≡ spans F → n ≤ s → PassedTo F s l → Low F l
  flat-last s n l e g b =
      record {
        size = b.size;
        low = λ t h.
            let m = mod-lt (cell_of F.count t) (wide_pos F.w F.h (cell_of F.count t) (stands_in F ok.celled (cell_of F.count t) t (record { span = h; cell = refl }))) in
            omega (arith, b.low t (omega arith), ok.celled.narrow);
      }

  -- a cell more
  passing_cell : (y x : ℕ) (l : List ℕ) → Passing F y x l → ((t : ℕ) → t < get_or F.count (F.w * y + x) 0 → far l (get_or F.index (F.w * y + x) 0 + t) ≤ 2 * x)
      → Passing F y (x + 1) l
  passing_cell y x l b m =
      let c = F.w * y + x in
      record {
        rows = b.rows;
        row = λ t h f g. elim (ℕ_discrete (cell_of F.count t) c) [
          | yes z ↦
              let r = layer_of_lem c t (record { span = h; cell = z }) in
              let i = get_or F.index c 0 in
              let n = m (t - i) (omega arith) in
              let e : i + (t - i) ≡ t = omega arith in
              let o : far l t ≤ 2 * x = rw e at n in
              omega arith
          | no z ↦ b.row t h f (omega arith)
        ];
      }

-- ---------------------------------------------------------------- pass 2

low_set : (F : Field) (a b c e s x : ℕ) (l : List ℕ) → Low F l → s < spans F → x ≡ least F a b c e s l → Low F (set l s x)
unfolding least least_from
low_set F a b c e s x l v h q =
    let i : s < length l = omega (arith, v.size) in
    record {
      size = length-set l s x ∙ v.size;
      low = λ t g. get_d_set_at l s x 65535 t (λ r. r ≤ 510) i (λ z. omega (arith, v.low s h)) (λ z. v.low t g);
    }

-- ---------------------------------------------------------------- the loops over layers, as the code has them

lower_is : (F : Field) (a b c e s : ℕ) (l : List ℕ) → set l s (least F a b c e s l) ≡ lower F a b c e s l
unfolding least_of lower least least_from side
lower_is F a b c e s l = refl

-- over spans from the last: x is what pass 2 gives span s
module _ (F : Field) (l : List ℕ) (b : Low F l) (s : ℕ) where
  pub low_room : (a d : ℕ) → Room F l s a d
  low_room a d = record { size = b.size; first = λ i. b.low _ i; second = λ i. b.low _ i }

  module _ (i : s < spans F) (x : ℕ) (n : x ≡ least F 2 1 1 0 s l) where
    pub low_next : Low F (set l s x)
    low_next = low_set F 2 1 1 0 s x l b i n

    pub down_next : set l s x ≡ lower F 2 1 1 0 s l
    down_next = ap (set l s) n ∙ lower_is F 2 1 1 0 s l

-- a run of spans that lack a neighbour, at span k
module _ (w h : ℕ) (is ks ar cs l : List ℕ) (k : ℕ) (ok : Reached (lent w h is ks ar cs)) (b : PassedTo (lent w h is ks ar cs) k l) (i : k < length ar)
    (cons : List ℕ) (q : cons ≡ cons_at cs k) (r : Bool) (e : r ≡ ringed cons) (z : r ≡ false) (bytes : (j : ℕ) → get_or ar j 0 < 256) where
  edge_stands : Stands (lent w h is ks ar cs) (cell_of ks k) k
  edge_stands = record { span = i; cell = refl }

  edge_least : 0 ≡ least_from (lent w h is ks ar cs) (start_at (lent w h is ks ar cs) k) 0 3 3 2 k l
  edge_least = from_edge (lent w h is ks ar cs) k l (cell_of ks k) ok edge_stands cons q r e z bytes

  pub edge_run : (s : ℕ) (m : List ℕ) → s ≤ k → l ≡ spans_up (from_start (lent w h is ks ar cs)) s (k - s) m
      → set l k 0 ≡ spans_up (from_start (lent w h is ks ar cs)) s (k + 1 - s) m
  edge_run s m g f = flat-run (lent w h is ks ar cs) ok (cell_of ks k) k l b edge_stands s m 0 g f edge_least

  pub edge_go : PassedTo (lent w h is ks ar cs) (k + 1) (set l k 0)
  edge_go = flat_go (lent w h is ks ar cs) ok (cell_of ks k) k l b edge_stands bytes 0 edge_least

module _ (w h : ℕ) (is ks ar cs : List ℕ) (c i k j : ℕ) (l : List ℕ) (ok : Reached (lent w h is ks ar cs)) (p : i ≡ get_or is c 0) (q : k ≡ get_or ks c 0) (g : j < k) where
  pub layer_stood : Stands (lent w h is ks ar cs) c (i + j)
  layer_stood = stands_at (lent w h is ks ar cs) ok.celled c i k j p q g

  pub room_low : (a b : ℕ) → Low (lent w h is ks ar cs) l → Room (lent w h is ks ar cs) l (i + j) a b
  room_low a b v = low_room (lent w h is ks ar cs) l v (i + j) a b

  pub low_in : Low (lent w h is ks ar cs) l → i + j < length l
  low_in b = omega (arith, layer_stood.span, b.size)

  -- x is what pass 2 gives span i + j
  module _ (a b d e x : ℕ) (n : x ≡ least (lent w h is ks ar cs) a b d e (i + j) l) where
    pub pass_go : (m : List ℕ) → l ≡ upto j (λ t. lower (lent w h is ks ar cs) a b d e (i + t)) m
        → set l (i + j) x ≡ upto (j + 1) (λ t. lower (lent w h is ks ar cs) a b d e (i + t)) m
    pass_go m y =
        upto_go (λ t. lower (lent w h is ks ar cs) a b d e (i + t)) j m l (set l (i + j) x) y
        (ap (set l (i + j)) n ∙ lower_is (lent w h is ks ar cs) a b d e (i + j) l)

    pub low_go : Low (lent w h is ks ar cs) l → Low (lent w h is ks ar cs) (set l (i + j) x)
    low_go v = low_set (lent w h is ks ar cs) a b d e (i + j) x l v layer_stood.span n

  -- pass 1, in column x of row y
  module _ (y x : ℕ) (at : c ≡ w * y + x) (u : x < w) (b : Passing (lent w h is ks ar cs) y x l) where
    stood : Stands (lent w h is ks ar cs) (w * y + x) (i + j)
    stood = record { span = layer_stood.span; cell = layer_stood.cell ∙ at }

    pub room_left : Room (lent w h is ks ar cs) l (i + j) 0 3
    room_left =
        record {
          size = b.rows.size;
          first = room_0 (lent w h is ks ar cs) ok y x l b u (i + j) stood;
          second = room_03 (lent w h is ks ar cs) ok y x l b u (i + j) stood;
        }

    pub room_up : Room (lent w h is ks ar cs) l (i + j) 3 2
    room_up =
        record {
          size = b.rows.size;
          first = room_3 (lent w h is ks ar cs) ok y x l b u (i + j) stood;
          second = room_32 (lent w h is ks ar cs) ok y x l b u (i + j) stood;
        }

    pub passing_in : i + j < length l
    passing_in = omega (arith, layer_stood.span, b.rows.size)

    -- v is what pass 1 gives span i + j
    module _ (v : ℕ) (n : v ≡ least_from (lent w h is ks ar cs) (start_at (lent w h is ks ar cs) (i + j)) 0 3 3 2 (i + j) l) where
      pub start_go : (m : List ℕ) → l ≡ upto j (λ t. from_start (lent w h is ks ar cs) (i + t)) m
          → set l (i + j) v ≡ upto (j + 1) (λ t. from_start (lent w h is ks ar cs) (i + t)) m
      start_go m e =
          upto_go (λ t. from_start (lent w h is ks ar cs) (i + t)) j m l (set l (i + j) v) e
          (ap (set l (i + j)) n ∙ start_is (lent w h is ks ar cs) ok (i + j) l b.rows.size layer_stood.span)

      pub passing_go : Passing (lent w h is ks ar cs) y x (set l (i + j) v)
      passing_go = passing_set (lent w h is ks ar cs) ok y x l b u (i + j) stood v

      -- the layers of the cell that are passed
      pub layers_go : ((r : ℕ) → get_or ar r 0 < 256) → ((t : ℕ) → t < j → far l (i + t) ≤ 2 * x) → (t : ℕ) → t < j + 1 → far (set l (i + j) v) (i + t) ≤ 2 * x
      layers_go bytes m t r =
          get_d_set_at l (i + j) v 65535 (i + t) (λ z. z ≤ 2 * x) passing_in
          (λ _. rw n (new_low (lent w h is ks ar cs) ok y x l b u (i + j) stood bytes))
          (λ z. m t (omega arith))

pub passing_end : (w h : ℕ) (is ks ar cs : List ℕ) (c i k j : ℕ) (l : List ℕ) → Reached (lent w h is ks ar cs) → i ≡ get_or is c 0 → k ≡ get_or ks c 0 → k ≤ j
    → (y x : ℕ) → c ≡ w * y + x → Passing (lent w h is ks ar cs) y x l → ((t : ℕ) → t < j → far l (i + t) ≤ 2 * x) → Passing (lent w h is ks ar cs) y (x + 1) l
passing_end w h is ks ar cs c i k j l ok p q g y x at b m =
    passing_cell (lent w h is ks ar cs) ok y x l b (λ t r. rw (← at) (rw (← p) (m t (let e : get_or ks (w * y + x) 0 ≡ get_or ks c 0 = ap (λ (z : ℕ). get_or ks z 0) (sym at) in omega arith))))

-- ---------------------------------------------------------------- the loops over columns and rows

module _ (F : Field) (l : List ℕ) where
  moved : (y a b : ℕ) → a ≡ b → Passing F y a l → Passing F y b l
  moved y a b e v = rw (← e) v

  pub columns_first : (y x : ℕ) → Passing F y x l → Passing F y (x + 0) l
  columns_first y x v = moved y x (x + 0) (omega arith) v

  pub columns_next : (y x j : ℕ) → Passing F y (x + j + 1) l → Passing F y (x + (j + 1)) l
  columns_next y x j v = moved y (x + j + 1) (x + (j + 1)) (omega arith) v

  pub columns_last : (y x j k : ℕ) → j ≤ k → k ≤ j → Passing F y (x + j) l → Passing F y (x + k) l
  columns_last y x j k h g v = moved y (x + j) (x + k) (omega arith) v

  -- a block without spans
  pub columns_empty : (y x k : ℕ) (r : Bool) → Reached F → r ≡ empty_block F.count (F.w * y + x) k → r ≡ true → Passing F y x l → Passing F y (x + k) l
  columns_empty y x k r ok e t v =
      record {
        rows = v.rows;
        row = λ s h f g. elim (dec_lt (cell_of F.count s) (F.w * y + x)) [
          | yes z ↦ v.row s h f z
          | no z ↦
              let j = cell_of F.count s - (F.w * y + x) in
              let q : F.w * y + x + j ≡ cell_of F.count s = omega arith in
              let n : get_or F.count (cell_of F.count s) 0 ≡ 0 = rw q at (block_none F.count (F.w * y + x) k r e t j (omega arith)) in
              absurd (omega (arith, layer_of_lem F ok (cell_of F.count s) s (record { span = h; cell = refl })))
        ];
      }

  pub column-first : (y : ℕ) → LowBefore F (F.w * y) l → Passing F y 0 l
  column-first y v = record { rows = v; row = λ t h f g. absurd (omega arith) }

  pub column-last : (y x : ℕ) → Reached F → x ≤ F.w → F.w ≤ x → Passing F y x l → LowBefore F (F.w * (y + 1)) l
  column-last y x ok h g v =
      let z : F.w * (y + 1) ≡ F.w * y + F.w = rw add-one (mul-suc F.w y) in
      record {
        size = v.rows.size;
        low = λ t i f. elim (dec_lt (cell_of F.count t) (F.w * y)) [
          | yes e ↦ v.rows.low t i e
          | no e ↦ omega (arith, v.row t i (omega arith) (omega arith), ok.celled.narrow)
        ];
      }
