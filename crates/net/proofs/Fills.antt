-- A table that was filled for all spans is the field's net, and nothing else of the workspace changed: each span's four places are its own.
-- And such a table goes with the field's connections (`Lent`). Assumes nothing.
use Prim.Native.Nat.{ℕ, zero, suc, ◌+◌, ◌*◌, ◌/◌, ◌%◌, ◌≤◌, ◌<◌}
use native.Mathlib.Omega.{arith}
use native.Mathlib.Nat.{div-add-mod, mod-lt, div-lt_iff_lt-mul, mul_comm, zero-add, add-suc, add-zero}
use native.Mathlib.Numerals.{add-one}
use native.Mathlib.Decide.{ℕ_discrete}
use mathlib.Core.Path.{◌≡◌, refl, sym, ap, ◌∙◌}
use mathlib.Core.Logic.{⊎_elim, ◌⊎◌, inl}
use mathlib.Core.Bool.{Bool, true}
use mathlib.Core.List.{List, []}
use lib.ListN.{length, get_or, set, length-set}
use borrow.Author.Tests.{eq-eqb}
use lib.Seq.{get_or-set_same, get_or-set_other, ext_get_or}
use Rattle.rules.specs.Field.{Field, near, con_of}
use Rattle.rules.specs.Net.{neighbours_of, net_of}
use Rattle.rules.specs.Net as net
use Rattle.rules.specs.Base.{when◌then◌else◌, upto}
use Rattle.laws.proofs.Basics.{tab-at, upto-ind}
use Rattle.laws.proofs.Nets.{neighbours_length, near_net}
use Rattle.laws.proofs.Cells.{near_none, passed}
use Rattle.laws.proofs.Strides.{answered}
use Rattle.field.specs.Lent.{Sound, Celled, Reached, Stands, Leaf, SomeLeaf, lent, cons_at}
use Rattle.field.specs.Blocks.{empty_block}
use Rattle.field.proofs.Blocks.{block_none, upto_still}
use Rattle.field.proofs.Loops.{upto_go, upto-end}
use Rattle.field.proofs.Passed.{sound_reached}
use Rattle.field.proofs.Places.{con_at, reaches, near_stands, first_of, first_is, total_is}
use Rattle.space.specs.Space.{sec, Frame}
use Rattle.space.proofs.Laws.{length-sec, get_or-sec, frame_none, frame_then, frame_set, frame_wider}
use Rattle.net.specs.Table.{net_at, last_place, Closed, Mutual, Opens, Lent}
use Rattle.net.specs.Fill.{lead_at, filled_at, filled, filled_cells}

-- ---------------------------------------------------------------- one span

module _ (F : Field) (table s : ℕ) (ws : List ℕ) where
  pub length_at : length (filled_at F table s ws) ≡ length ws
  unfolding filled_at
  length_at = simp length-set

  -- the workspace after each of the four stores
  l₁ : List ℕ
  l₁ = set ws (table + 4 * s) (near F s 0)

  l₂ : List ℕ
  l₂ = set l₁ (table + 4 * s + 1) (near F s 1)

  l₃ : List ℕ
  l₃ = set l₂ (table + 4 * s + 2) (near F s 2)

  size₃ : (length l₁ ≡ length ws) × (length l₂ ≡ length ws) × (length l₃ ≡ length ws)
  unfolding l₁ l₂ l₃
  size₃ = (simp length-set, simp length-set, simp length-set)

  at_own : (d : ℕ) → d < 4 → table + 4 * s + 3 < length ws → get_or (filled_at F table s ws) (table + (4 * s + d)) 0 ≡ near F s d
  unfolding filled_at l₁ l₂ l₃
  at_own zero h l =
      let p = table + 4 * s in
      let e : table + (4 * s + 0) ≡ p = omega arith in
      rw e (get_or-set_other l₃ (p + 3) p (near F s 3) 0 (λ z. omega arith) ∙ get_or-set_other l₂ (p + 2) p (near F s 2) 0 (λ z. omega arith)
      ∙ get_or-set_other l₁ (p + 1) p (near F s 1) 0 (λ z. omega arith) ∙ get_or-set_same ws p (near F s 0) 0 (omega arith))
  at_own (suc zero) h l =
      let p = table + 4 * s in
      let e : table + (4 * s + 1) ≡ p + 1 = omega arith in
      rw e (get_or-set_other l₃ (p + 3) (p + 1) (near F s 3) 0 (λ z. omega arith) ∙ get_or-set_other l₂ (p + 2) (p + 1) (near F s 2) 0 (λ z. omega arith)
      ∙ get_or-set_same l₁ (p + 1) (near F s 1) 0 (omega (arith, size₃)))
  at_own (suc (suc zero)) h l =
      let p = table + 4 * s in
      let e : table + (4 * s + 2) ≡ p + 2 = omega arith in
      rw e (get_or-set_other l₃ (p + 3) (p + 2) (near F s 3) 0 (λ z. omega arith) ∙ get_or-set_same l₂ (p + 2) (near F s 2) 0 (omega (arith, size₃)))
  at_own (suc (suc (suc zero))) h l =
      let p = table + 4 * s in
      let e : table + (4 * s + 3) ≡ p + 3 = omega arith in
      rw e (get_or-set_same l₃ (p + 3) (near F s 3) 0 (omega (arith, size₃)))
  at_own (suc (suc (suc (suc d)))) h l = absurd (omega arith)

  at_other : (i : ℕ) → (i < table + 4 * s) ⊎ (table + 4 * s + 4 ≤ i) → get_or (filled_at F table s ws) i 0 ≡ get_or ws i 0
  unfolding filled_at l₁ l₂ l₃
  at_other i h =
      let p = table + 4 * s in
      get_or-set_other l₃ (p + 3) i (near F s 3) 0 (off 3 (omega arith)) ∙ get_or-set_other l₂ (p + 2) i (near F s 2) 0 (off 2 (omega arith))
      ∙ get_or-set_other l₁ (p + 1) i (near F s 1) 0 (off 1 (omega arith)) ∙ get_or-set_other ws p i (near F s 0) 0 (λ z. off 0 (omega arith) (omega arith))
    where
      off : (k : ℕ) → k < 4 → i ≡ table + 4 * s + k → ⊥
      off k l e = ⊎_elim (λ (z : i < table + 4 * s). omega arith) (λ (z : table + 4 * s + 4 ≤ i). omega arith) h

  frame_at : Frame (table + 4 * s) (table + 4 * s + 4) ws (filled_at F table s ws)
  unfolding filled_at l₁ l₂ l₃
  frame_at =
      let p = table + 4 * s in
      frame_then (frame_set p (p + 4) p (near F s 0) ws (omega arith) (omega arith))
      (frame_then (frame_set p (p + 4) (p + 1) (near F s 1) l₁ (omega arith) (omega arith))
      (frame_then (frame_set p (p + 4) (p + 2) (near F s 2) l₂ (omega arith) (omega arith)) (frame_set p (p + 4) (p + 3) (near F s 3) l₃ (omega arith) (omega arith))))

-- number i of the net's list
made : (F : Field) (i : ℕ) → i < 4 * length F.area → get_or (neighbours_of F) i 0 ≡ near F (i / 4) (i % 4)
unfolding neighbours_of
made F i h = rw zero-add at (tab-at (4 * length F.area) 0 (λ i. near F (i / 4) (i % 4)) i 0 h)

-- ---------------------------------------------------------------- spans one after another

pub length-filled : (F : Field) (table from k : ℕ) (ws : List ℕ) → length (filled F table from k ws) ≡ length ws
unfolding filled
length-filled F table from zero ws = refl
length-filled F table from (suc k) ws = length_at F table (from + k) (filled F table from k ws) ∙ length-filled F table from k ws

pub filled_next : (F : Field) (table from k : ℕ) (ws : List ℕ) → filled_at F table (from + k) (filled F table from k ws) ≡ filled F table from (k + 1) ws
unfolding filled
filled_next F table from k ws = rw add-one

-- the spans of a cell after those of the cells before it
pub filled_then : (F : Field) (table a b : ℕ) (ws : List ℕ) → filled F table a b (filled F table 0 a ws) ≡ filled F table 0 (a + b) ws
unfolding filled
filled_then F table a zero ws = rw add-zero
filled_then F table a (suc b) ws = rw (filled_then F table a b ws, add-suc, zero-add)

module _ (F : Field) (table : ℕ) (ws : List ℕ) where
  pub filled_own : (k : ℕ) → table + 4 * k ≤ length ws → (s d : ℕ) → s < k → d < 4 → get_or (filled F table 0 k ws) (table + (4 * s + d)) 0 ≡ near F s d
  unfolding filled
  filled_own zero l s d h g = absurd (omega arith)
  filled_own (suc k) l s d h g =
      let n = length-filled F table 0 k ws in
      rw zero-add (elim (ℕ_discrete s k) [
        | yes e ↦ rw e (at_own F table k (filled F table 0 k ws) d g (omega arith))
        | no e ↦ at_other F table k (filled F table 0 k ws) (table + (4 * s + d)) (inl (omega arith)) ∙ filled_own k (omega arith) s d (omega arith) g
      ])

  -- nothing else changes
  pub filled_frame : (k : ℕ) → Frame table (table + 4 * k) ws (filled F table 0 k ws)
  unfolding filled
  filled_frame zero = frame_none table (table + 4 * zero) ws
  filled_frame (suc k) =
      rw zero-add (frame_then (frame_wider table (table + 4 * suc k) (filled_frame k) (omega arith) (omega arith))
      (frame_wider table (table + 4 * suc k) (frame_at F table k (filled F table 0 k ws)) (omega arith) (omega arith)))

  -- the table is the field's
  pub filled_net : table + 4 * length F.area ≤ length ws → net_at table F.area (filled F table 0 (length F.area) ws) ≡ net_of F
  unfolding net_at
  filled_net l =
      let n = length F.area in
      let ws' = filled F table 0 n ws in
      let e = length-filled F table 0 n ws in
      let r : table + 4 * n ≤ length ws' = omega arith in
      ap (λ (x : List ℕ). record { neighbours = x; areas = F.area })
      (ext_get_or 0 (sec table (4 * n) ws') (neighbours_of F) (length-sec table (4 * n) ws' r ∙ sym (neighbours_length F))
      (λ i h. at_each i (omega (arith, length-sec table (4 * n) ws' r))))
    where
      at_each : (i : ℕ) → i < 4 * length F.area → get_or (sec table (4 * length F.area) (filled F table 0 (length F.area) ws)) i 0 ≡ get_or (neighbours_of F) i 0
      at_each i h =
          let n = length F.area in
          let q : i / 4 < n = (div-lt_iff_lt-mul {k = 4} {x = i} {y = n} (omega arith)).1 (rw (mul_comm n 4) h) in
          let e : 4 * (i / 4) + i % 4 ≡ i = div-add-mod i 4 in
          get_or-sec table (4 * n) i (filled F table 0 n ws) h ∙ rw e at (filled_own n l (i / 4) (i % 4) q (mod-lt i (omega arith))) ∙ sym (made F i h)

-- ---------------------------------------------------------------- what a flood is lent

module _ (F : Field) (ok : Reached F) where
  there : (s d : ℕ) → s < length F.area → d < 4 → (con_of F s d ≡ 255 → ⊥) → net.near (net_of F) s d < length F.area
  there s d h g k = rw (near_net F ok.celled.linked s d g) (reaches F ok s d h g k).inside

  closed_of : Closed (net_of F)
  closed_of = record {
    few = ok.celled.few;
    inside = λ s d h g k. there s d h g (λ z. k (near_net F ok.celled.linked s d g ∙ near_none F s d z));
  }

  opens_of : (s : ℕ) → s < length F.area → Opens (net_of F) s (cons_at F.con s)
  opens_of s h = record {
    shut = λ d g k. near_net F ok.celled.linked s d g ∙ near_none F s d (con_at F ok.celled s d h g ∙ k);
    leads = λ d g k z. omega (arith, there s d h g (λ y. k (sym (con_at F ok.celled s d h g) ∙ y)), ok.celled.few);
  }

  -- the field's net, where it lies, and its connections are what a flood is lent
  pub net_lent : (table : ℕ) (ws : List ℕ) → net_at table F.area ws ≡ net_of F → table + 4 * length F.area ≤ length ws → table ≤ last_place → Lent table F.area F.con ws
  net_lent table ws e r p = record { closed = rw e closed_of; opens = rw e opens_of; linked = ok.celled.linked; room = r; place = p }

-- refusals 1 to 6 leave such a net, in which connections are mutual
pub mutual_of : (F : Field) → Sound F → Mutual (net_of F)
mutual_of F e = record { closed = closed_of F (sound_reached F e); answered = answered F [] (passed F [] e) }

-- ---------------------------------------------------------------- as the code fills it

-- where a connection leads is the neighbour
lead_is : (F : Field) (w : ℕ) (is cons : List ℕ) (c s d : ℕ) → Leaf F w is cons c s → d < 4 → near F s d ≡ lead_at w is cons c d
unfolding near lead_at
lead_is F w is cons c s d v h =
    let k : con_of F s d ≡ get_or cons d 0 = con_at F v.reached.celled s d v.stands.span h ∙ ap (λ (l : List ℕ). get_or l d 0) (sym v.four) in
    rw (k, v.stands.cell, v.wide, v.indexed)

module _ (w : ℕ) (is cons : List ℕ) (c d : ℕ) (x : SomeLeaf w is cons c) (h : d < 4) where
  pub lead_none : get_or cons d 0 ≡ 255 → 65535 ≡ lead_at w is cons c d
  unfolding lead_at when◌then◌else◌
  lead_none z = rw (eq-eqb _ _ z)

  module _ (r : ℕ) (e : (F : Field) (s : ℕ) → Leaf F w is cons c s → r ≡ near F s d) where
    pub lead_some : r ≡ lead_at w is cons c d
    lead_some = e x.F x.s x.leaf ∙ lead_is x.F w is cons c x.s d x.leaf h

    pub lead_small : (r ≡ 65535 → ⊥) → r < 65536
    lead_small k =
        let v = x.leaf in
        let q = e x.F x.s v in
        omega (arith, (near_stands x.F v.reached c x.s d v.stands h (λ z. k (q ∙ z))).span, v.reached.celled.few)

module _ (F : Field) (cons : List ℕ) (c s : ℕ) (ok : Reached F) (st : Stands F c s) (e : cons ≡ cons_at F.con s) where
  leaf : Leaf F F.w F.index cons c s
  leaf = record { reached = ok; wide = refl; indexed = refl; four = e; stands = st }

  pub some_leaf : SomeLeaf F.w F.index cons c
  some_leaf = record { F = F; s = s; leaf = leaf }

  -- the four stores
  pub four_stores : (table : ℕ) (ws : List ℕ) (r₀ r₁ r₂ r₃ : ℕ) → r₀ ≡ lead_at F.w F.index cons c 0 → r₁ ≡ lead_at F.w F.index cons c 1
      → r₂ ≡ lead_at F.w F.index cons c 2 → r₃ ≡ lead_at F.w F.index cons c 3
      → set (set (set (set ws (table + 4 * s) r₀) (table + 4 * s + 1) r₁) (table + 4 * s + 2) r₂) (table + 4 * s + 3) r₃ ≡ filled_at F table s ws
  unfolding filled_at
  four_stores table ws r₀ r₁ r₂ r₃ e₀ e₁ e₂ e₃ = rw (e₀ ∙ sym (at 0 (omega arith)), e₁ ∙ sym (at 1 (omega arith)), e₂ ∙ sym (at 2 (omega arith)), e₃ ∙ sym (at 3 (omega arith)))
    where
      at : (d : ℕ) → d < 4 → near F s d ≡ lead_at F.w F.index cons c d
      at d h = lead_is F F.w F.index cons c s d leaf h

-- a cell more
module _ (F : Field) (ok : Celled F) (table c : ℕ) (ws₀ ws ws' : List ℕ) (e : ws ≡ filled F table 0 (first_of F.count c) ws₀) where
  pub cell_more : ws' ≡ filled F table (get_or F.index c 0) (get_or F.count c 0) ws → ws' ≡ filled F table 0 (first_of F.count (c + 1)) ws₀
  unfolding first_of filled
  cell_more f = elim (ℕ_discrete (get_or F.count c 0) 0) [
    | yes z ↦ rw (add-one, z, add-zero) (rw z at f ∙ e)
    | no z ↦
        let i = first_is F ok c (omega arith) in
        rw add-one (rw (i, e) at f ∙ filled_then F table (first_of F.count c) (get_or F.count c 0) ws₀)
  ]

-- all cells
module _ (F : Field) (ok : Celled F) (table c : ℕ) (ws₀ ws : List ℕ) (e : ws ≡ filled F table 0 (first_of F.count c) ws₀) (some : c ≤ F.w * F.h) (all : F.w * F.h ≤ c) where
  all_filled : ws ≡ filled F table 0 (length F.area) ws₀
  all_filled = let d : c ≡ F.w * F.h = omega arith in rw (d, total_is F ok) at e

  pub table_filled : table + 4 * length F.area ≤ length ws₀ → net_at table F.area ws ≡ net_of F
  table_filled l = rw all_filled (filled_net F table ws₀ l)

  pub rest_kept : Frame table (table + 4 * length F.area) ws₀ ws
  rest_kept = rw all_filled (filled_frame F table ws₀ (length F.area))

-- a span more of a cell, as the loop has it
module _ (F : Field) (table from : ℕ) (ws₀ ws : List ℕ) (j : ℕ) (e : ws ≡ filled F table from j ws₀) where
  pub filled_go : (ws' : List ℕ) → ws' ≡ filled_at F table (from + j) ws → ws' ≡ filled F table from (j + 1) ws₀
  filled_go ws' f = f ∙ ap (filled_at F table (from + j)) e ∙ filled_next F table from j ws₀

  pub filled_size : length ws ≡ length ws₀
  filled_size = ap length e ∙ length-filled F table from j ws₀

  pub filled_room : (k : ℕ) → k ≤ length ws₀ → k ≤ length ws
  filled_room k l = omega (arith, filled_size)

  pub filled-end : (c k : ℕ) → from ≡ get_or F.index c 0 → k ≡ get_or F.count c 0 → j ≤ k → k ≤ j → ws ≡ filled F table (get_or F.index c 0) (get_or F.count c 0) ws₀
  filled-end c k f g a b = let z : j ≡ get_or F.count c 0 = omega arith in rw (z, f) at e

-- the same, of a field as it is lent
pub lent_leaf : (w h : ℕ) (is ks ar cs cons : List ℕ) (c s : ℕ) → Reached (lent w h is ks ar cs) → Stands (lent w h is ks ar cs) c s → cons ≡ cons_at cs s → SomeLeaf w is cons c
lent_leaf w h is ks ar cs cons c s ok st e = some_leaf (lent w h is ks ar cs) cons c s ok st e

-- ---------------------------------------------------------------- the cells block by block

module _ (F : Field) (table c : ℕ) where
  -- the loop over k cells from c on
  pub cells_go : (j : ℕ) (l m n : List ℕ) → m ≡ filled_cells F table c j l → n ≡ filled F table (get_or F.index (c + j) 0) (get_or F.count (c + j) 0) m → n ≡ filled_cells F table c (j + 1) l
  unfolding filled_cells
  cells_go j l m n e g = upto_go (λ i. filled F table (get_or F.index (c + i) 0) (get_or F.count (c + i) 0)) j l m n e g

  pub cells_end : (k j : ℕ) (l m : List ℕ) → m ≡ filled_cells F table c j l → j ≤ k → k ≤ j → m ≡ filled_cells F table c k l
  unfolding filled_cells
  cells_end k j l m e h g = upto-end (λ i. filled F table (get_or F.index (c + i) 0) (get_or F.count (c + i) 0)) k j l m e h g

  pub cells_none : (k : ℕ) (r : Bool) (l : List ℕ) → r ≡ empty_block F.count c k → r ≡ true → l ≡ filled_cells F table c k l
  unfolding filled_cells filled
  cells_none k r l e t = upto_still k _ l (λ i x h. rw (block_none F.count c k r e t i h))

  length_cells : (k : ℕ) (l : List ℕ) → length (filled_cells F table c k l) ≡ length l
  unfolding filled_cells
  length_cells k l = upto-ind (λ _ x. length x ≡ length l) _ l k refl (λ i x h p. length-filled F table (get_or F.index (c + i) 0) (get_or F.count (c + i) 0) x ∙ p)

  module _ (j : ℕ) (l m : List ℕ) (e : m ≡ filled_cells F table c j l) where
    pub cells_size : length m ≡ length l
    cells_size = rw e (length_cells j l)

    pub cells_room : (k : ℕ) → k ≤ length l → k ≤ length m
    cells_room k h = omega (arith, cells_size)

  -- k cells more
  pub block_more : Celled F → (k : ℕ) (ws₀ ws ws' : List ℕ) → ws ≡ filled F table 0 (first_of F.count c) ws₀ → ws' ≡ filled_cells F table c k ws → ws' ≡ filled F table 0 (first_of F.count (c + k)) ws₀
  unfolding filled_cells upto
  block_more ok zero ws₀ ws ws' e g = let q : c + 0 ≡ c = omega arith in rw q (g ∙ e)
  block_more ok (suc k) ws₀ ws ws' e g =
      let q : c + k + 1 ≡ c + suc k = omega arith in
      let v = block_more ok k ws₀ ws (filled_cells F table c k ws) e refl in
      rw (← q) (cell_more F ok table (c + k) ws₀ (filled_cells F table c k ws) ws' v g)
