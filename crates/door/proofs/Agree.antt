-- What a row of a pass leaves, and that it looks no further than the row beside: two lists that hold the same there come to the same in the row.
-- Each step stores at its own span; what it reads is in the same row or the one beside, and in pass 1 has had its turn.
use Prim.Native.Nat.{ℕ, zero, suc, ◌+◌, ◌*◌, ◌-◌, ◌/◌, ◌%◌, ◌≤◌, ◌<◌}
use native.Mathlib.Omega.{arith}
use native.Mathlib.Nat.{mul_comm, div-lt_iff_lt-mul}
use native.Mathlib.Decide.{dec_lt, ℕ_discrete}
use mathlib.Core.Path.{◌≡◌, refl, sym, ap, ◌∙◌}
use mathlib.Core.List.{List}
use lib.ListN.{length, get_or, set, length-set, get_or-eq_default}
use lib.Seq.{ext_get_or, get_or-set_same, get_or-set_other}
use Rattle.rules.specs.Base.{upto}
use Rattle.rules.specs.Field.{Field, spans, near, corner, cell_of, con_of}
use Rattle.rules.specs.Distance.{start_at, far, least_of, lower, term, blur_at}
use Rattle.rules.specs.Rows.{over_cell, downto, column, row_up, row_down, start_to, from_start, blur_to, pass1_row, pass2_row, blur_row}
use Rattle.rules.specs.Refresh.{repainted, value_to, values_row, from_pass1}
use Rattle.laws.proofs.Basics.{upto-ind, four_ways, get_d_any}
use Rattle.laws.proofs.Cells.{Passed}
use Rattle.laws.proofs.Lengths.{lower-length}
use Rattle.laws.proofs.Rows.{Earlier}
use Rattle.meaning.proofs.Places.{layer_in, some_column, through, cell-left, cell-right, cell-up}
use Rattle.meaning.proofs.Settled.{reads1}
use Rattle.door.specs.Edit.{row_of}
use Rattle.door.proofs.Places.{row_is, row_in, row_cell, layer_cell, of_cell, row_left, row_right, row_below, row_above}

-- ---------------------------------------------------------------- loops downward, and two at once

module _ {ℓ κ} {A : Type ℓ} where
  pub downto-ind : (P : A → Type κ) (f : ℕ → A → A) (a : A) (n : ℕ) → P a → ((k : ℕ) (x : A) → k < n → P x → P (f k x)) → P (downto n f a)
  unfolding downto
  downto-ind P f a zero z s = z
  downto-ind P f a (suc n) z s = downto-ind P f (f n a) n (s n a (omega arith) z) (λ k x h p. s k x (omega arith) p)

  pub downto_both : (Q : A → A → Type κ) (f g : ℕ → A → A) (a b : A) (n : ℕ) → Q a b → ((k : ℕ) (x y : A) → k < n → Q x y → Q (f k x) (g k y)) → Q (downto n f a) (downto n g b)
  unfolding downto
  downto_both Q f g a b zero z s = z
  downto_both Q f g a b (suc n) z s = downto_both Q f g (f n a) (g n b) n (s n a b (omega arith) z) (λ k x y h p. s k x y (omega arith) p)

  pub upto_both : (Q : ℕ → A → A → Type κ) (f g : ℕ → A → A) (a b : A) (n : ℕ) → Q 0 a b → ((k : ℕ) (x y : A) → k < n → Q k x y → Q (suc k) (f k x) (g k y))
      → Q n (upto n f a) (upto n g b)
  unfolding upto
  upto_both Q f g a b zero z s = z
  upto_both Q f g a b (suc n) z s = s n (upto n f a) (upto n g b) (omega arith) (upto_both Q f g a b n z (λ k x y h p. s k x y (omega arith) p))

-- ---------------------------------------------------------------- a step stores at its own span

pub record Stores (f : ℕ → List ℕ → List ℕ) : Type 0 where
  pub size : (s : ℕ) (l : List ℕ) → length (f s l) ≡ length l
  pub other : (s t : ℕ) (l : List ℕ) → (t ≡ s → ⊥) → far (f s l) t ≡ far l t

pub set_stores : (v : ℕ → ℕ) → Stores (λ s l. set l s (v s))
set_stores v = record { size = λ s l. length-set l s (v s); other = λ s t l n. get_or-set_other l s t (v s) 65535 n }

pub value_stores : (p : List ℕ) → Stores (value_to p)
unfolding value_to
value_stores p = set_stores (λ s. get_or p s 0)

pub blur_stores : (F : Field) (l : List ℕ) → Stores (blur_to F l)
unfolding blur_to
blur_stores F l = set_stores (blur_at F l)

pub lower_stores : (F : Field) (a b c e : ℕ) → Stores (lower F a b c e)
unfolding lower
lower_stores F a b c e = record { size = λ s l. lower-length F a b c e s l; other = λ s t l n. get_or-set_other l s t _ 65535 n }

pub start_stores : (F : Field) → Stores (from_start F)
unfolding from_start start_to
start_stores F =
    let v = lower_stores F 0 3 3 2 in
    record {
      size = λ s l. v.size s (set l s (start_at F s)) ∙ length-set l s (start_at F s);
      other = λ s t l n. v.other s t (set l s (start_at F s)) n ∙ get_or-set_other l s t (start_at F s) 65535 n;
    }

-- ---------------------------------------------------------------- rows that are not gone through

module _ (F : Field) (f : ℕ → List ℕ → List ℕ) (v : Stores f) where
  cell_size : (c : ℕ) (l : List ℕ) → length (over_cell F f c l) ≡ length l
  unfolding over_cell
  cell_size c l = upto-ind (λ k x. length x ≡ length l) _ l (get_or F.count c 0) refl (λ k x h p. v.size _ x ∙ p)

  pub up_size : (y : ℕ) (l : List ℕ) → length (row_up F f y l) ≡ length l
  unfolding row_up column
  up_size y l = upto-ind (λ k x. length x ≡ length l) _ l F.w refl (λ k x h p. cell_size (F.w * y + k) x ∙ p)

  pub down_size : (y : ℕ) (l : List ℕ) → length (row_down F f y l) ≡ length l
  unfolding row_down column
  down_size y l = downto-ind (λ x. length x ≡ length l) _ l F.w refl (λ k x h p. cell_size (F.w * y + k) x ∙ p)

  module _ (lens : List ℕ) (ok : Passed F lens) where
    cell_keeps : (c t : ℕ) (l : List ℕ) → (cell_of F.count t ≡ c → ⊥) → far (over_cell F f c l) t ≡ far l t
    unfolding over_cell
    cell_keeps c t l n =
        upto-ind (λ k x. far x t ≡ far l t) _ l (get_or F.count c 0) refl
        (λ k x h p. v.other (get_or F.index c 0 + k) t x (λ z. n (ap (cell_of F.count) z ∙ layer_cell F lens ok c k h)) ∙ p)

    outside : (y x t : ℕ) → x < F.w → (row_of F t ≡ y → ⊥) → cell_of F.count t ≡ F.w * y + x → ⊥
    outside y x t h n z = n (ap (λ (c : ℕ). c / F.w) z ∙ row_is F.w y x h)

    pub up_keeps : (y t : ℕ) (l : List ℕ) → (row_of F t ≡ y → ⊥) → far (row_up F f y l) t ≡ far l t
    unfolding row_up column
    up_keeps y t l n = upto-ind (λ k x. far x t ≡ far l t) _ l F.w refl (λ k x h p. cell_keeps (F.w * y + k) t x (outside y k t h n) ∙ p)

    pub down_keeps : (y t : ℕ) (l : List ℕ) → (row_of F t ≡ y → ⊥) → far (row_down F f y l) t ≡ far l t
    unfolding row_down column
    down_keeps y t l n = downto-ind (λ x. far x t ≡ far l t) _ l F.w refl (λ k x h p. cell_keeps (F.w * y + k) t x (outside y k t h n) ∙ p)

-- ---------------------------------------------------------------- lists that hold the same for some spans

module _ (F : Field) where
  -- for the spans of rows a to b, b not included
  abbrev pub Same : ℕ → ℕ → List ℕ → List ℕ → Type 0
  Same a b l m = (s : ℕ) → s < spans F → a ≤ row_of F s → row_of F s < b → far l s ≡ far m s

  -- what is read of two such lists, where a span is there only in these rows
  pub reads_same : (a b : ℕ) (l m : List ℕ) → length l ≡ spans F → length m ≡ spans F → Same a b l m
      → (t : ℕ) → (t < spans F → (a ≤ row_of F t) × (row_of F t < b)) → far l t ≡ far m t
  reads_same a b l m p q v t r =
      elim (dec_lt t (spans F)) [
        | yes i ↦ v t i (r i).0 (r i).1
        | no i ↦ get_or-eq_default l 65535 (omega arith) ∙ sym (get_or-eq_default m 65535 (omega arith))
      ]

module _ (F : Field) (lens : List ℕ) (ok : Passed F lens) where
  pub all_same : (l m : List ℕ) → length l ≡ spans F → length m ≡ spans F → Same F 0 F.h l m → l ≡ m
  all_same l m p q v = ext_get_or 65535 l m (p ∙ sym q) (λ i h. let g : i < spans F = rw (← p) h in v i g (omega arith) (row_in F lens ok i g))

  -- ---------------------------------------------------------------- pass 1

  -- rows y−1 and y as far as cell c, of two lists
  abbrev So-far : ℕ → ℕ → List ℕ → List ℕ → Type 0
  So-far y c l m = (s : ℕ) → s < spans F → y ≤ suc (row_of F s) → cell_of F.count s < c → far l s ≡ far m s

  pub earlier : (s : ℕ) → s < spans F → Earlier F s
  earlier s h = let r = reads1 F lens ok s h in record { first = r.first; second = r.second; third = r.third; fourth = r.fourth }

  module _ (y s : ℕ) (h : s < spans F) (e : row_of F s ≡ y) where
    cell_before : (t : ℕ) → Type 0
    cell_before t = t < spans F → (y ≤ suc (row_of F t)) × (cell_of F.count t < cell_of F.count s)

    reads_0 : cell_before (near F s 0)
    unfolding cell_before
    reads_0 i = (omega (arith, row_left F lens ok s h i), omega (arith, (cell-left F lens ok s h i).0))

    reads_03 : cell_before (near F (near F s 0) 3)
    unfolding cell_before
    reads_03 i =
        let j = through F lens ok s 0 3 h (omega arith) i in
        (omega (arith, row_left F lens ok s h j, row_above F lens ok (near F s 0) j i), omega (arith, (cell-left F lens ok s h j).0, cell-up F lens ok (near F s 0) j i))

    reads_3 : cell_before (near F s 3)
    unfolding cell_before
    reads_3 i = (omega (arith, row_above F lens ok s h i), omega (arith, cell-up F lens ok s h i, some_column F lens ok s h))

    reads_32 : cell_before (near F (near F s 3) 2)
    unfolding cell_before
    reads_32 i =
        let j = through F lens ok s 3 2 h (omega arith) i in
        (omega (arith, row_above F lens ok s h j, row_right F lens ok (near F s 3) j i), omega (arith, cell-up F lens ok s h j, cell-right F lens ok (near F s 3) j i))

    not_own : (t : ℕ) → cell_before t → t ≡ s → ⊥
    unfolding cell_before
    not_own t r z = let i : t < spans F = rw z h in let c : cell_of F.count t ≡ cell_of F.count s = ap (cell_of F.count) z in omega (arith, (r i).1)

    -- a span's value of pass 1 that starts with v
    own_value : (v : ℕ) (l : List ℕ) → length l ≡ spans F → far (lower F 0 3 3 2 s (set l s v)) s
        ≡ least_of v (far l (near F s 0)) (far l (near F (near F s 0) 3)) (far l (near F s 3)) (far l (near F (near F s 3) 2))
    unfolding lower
    own_value v l n =
        let i : s < length l = rw n h in
        get_or-set_same (set l s v) s _ 65535 (rw length-set i)
        ∙ rw (
          get_or-set_same l s v 65535 i,
          get_or-set_other l s (near F s 0) v 65535 (not_own (near F s 0) reads_0),
          get_or-set_other l s (near F (near F s 0) 3) v 65535 (not_own (near F (near F s 0) 3) reads_03),
          get_or-set_other l s (near F s 3) v 65535 (not_own (near F s 3) reads_3),
          get_or-set_other l s (near F (near F s 3) 2) v 65535 (not_own (near F (near F s 3) 2) reads_32),
        )

    module _ (l m : List ℕ) (p : length l ≡ spans F) (q : length m ≡ spans F) (v : So-far y (cell_of F.count s) l m) where
      alike : (t : ℕ) → cell_before t → far l t ≡ far m t
      unfolding cell_before
      alike t r =
          elim (dec_lt t (spans F)) [
            | yes i ↦ v t i (r i).0 (r i).1
            | no i ↦ get_or-eq_default l 65535 (omega arith) ∙ sym (get_or-eq_default m 65535 (omega arith))
          ]

      own_same : (a : ℕ) → far (lower F 0 3 3 2 s (set l s a)) s ≡ far (lower F 0 3 3 2 s (set m s a)) s
      own_same a =
          own_value a l p
          ∙ rw (alike (near F s 0) reads_0, alike (near F (near F s 0) 3) reads_03, alike (near F s 3) reads_3, alike (near F (near F s 3) 2) reads_32) (sym (own_value a m q))

  -- steps f and g that give a span of row y the same, where what pass 1 reads is the same
  module _ (y : ℕ) (f g : ℕ → List ℕ → List ℕ) (sf : Stores f) (sg : Stores g)
      (local : (s : ℕ) → s < spans F → row_of F s ≡ y → (l m : List ℕ) → length l ≡ spans F → length m ≡ spans F → So-far y (cell_of F.count s) l m → far (f s l) s ≡ far (g s m) s) where
    -- k layers of cell c are gone through
    record Layers (c k : ℕ) (l m : List ℕ) : Type 0 where
      left : length l ≡ spans F
      right : length m ≡ spans F
      before : So-far y c l m
      here : (i : ℕ) → i < k → far l (get_or F.index c 0 + i) ≡ far m (get_or F.index c 0 + i)

    layer : (x k : ℕ) (l m : List ℕ) → x < F.w → k < get_or F.count (F.w * y + x) 0 → Layers (F.w * y + x) k l m
        → Layers (F.w * y + x) (suc k) (f (get_or F.index (F.w * y + x) 0 + k) l) (g (get_or F.index (F.w * y + x) 0 + k) m)
    layer x k l m hx hk v =
        let c = F.w * y + x in
        let s = get_or F.index c 0 + k in
        let e : cell_of F.count s ≡ c = layer_cell F lens ok c k hk in
        let r : row_of F s ≡ y = ap (λ (c : ℕ). c / F.w) e ∙ row_is F.w y x hx in
        let j : s < spans F = layer_in F lens ok c k hk in
        let so : So-far y (cell_of F.count s) l m = λ t i a b. v.before t i a (omega arith) in
        record {
          left = sf.size s l ∙ v.left;
          right = sg.size s m ∙ v.right;
          before = λ t i a b.
              let n : t ≡ s → ⊥ = λ z. let q : cell_of F.count t ≡ cell_of F.count s = ap (cell_of F.count) z in omega arith in
              sf.other s t l n ∙ v.before t i a b ∙ sym (sg.other s t m n);
          here = λ i b.
              elim (ℕ_discrete i k) [
                | yes z ↦ rw z (local s j r l m v.left v.right so)
                | no z ↦ let n : get_or F.index c 0 + i ≡ s → ⊥ = λ q. z (omega arith) in sf.other s _ l n ∙ v.here i (omega arith) ∙ sym (sg.other s _ m n)
              ];
        }

    -- x columns
    record Columns (x : ℕ) (l m : List ℕ) : Type 0 where
      left : length l ≡ spans F
      right : length m ≡ spans F
      before : So-far y (F.w * y + x) l m

    next_column : (x : ℕ) (l m : List ℕ) → x < F.w → Columns x l m → Columns (suc x) (over_cell F f (F.w * y + x) l) (over_cell F g (F.w * y + x) m)
    unfolding over_cell
    next_column x l m h v =
        let c = F.w * y + x in
        let z : Layers c (get_or F.count c 0) (over_cell F f c l) (over_cell F g c m) =
        upto_both (Layers c) _ _ l m (get_or F.count c 0) (record { left = v.left; right = v.right; before = v.before; here = λ i b. absurd (omega arith) }) (λ k a b i u. layer x k a b h i u) in
        record {
          left = z.left;
          right = z.right;
          before = λ s i a b.
              elim (dec_lt (cell_of F.count s) c) [
                | yes d ↦ z.before s i a d
                | no d ↦
                    let r = of_cell F lens ok c s i (omega arith) in
                    let q : get_or F.index c 0 + (s - get_or F.index c 0) ≡ s = omega arith in
                    rw q at (z.here (s - get_or F.index c 0) (omega arith))
              ];
        }

    pub row_same : (l m : List ℕ) → length l ≡ spans F → length m ≡ spans F → ((s : ℕ) → s < spans F → suc (row_of F s) ≡ y → far l s ≡ far m s)
        → (s : ℕ) → s < spans F → row_of F s ≡ y → far (row_up F f y l) s ≡ far (row_up F g y m) s
    unfolding row_up column
    row_same l m p q v s h e =
        (upto_both Columns _ _ l m F.w
        (record { left = p; right = q; before = λ t i a b. v t i (above t a (omega arith)) })
        (λ x a b i u. next_column x a b i u)
        ).before s h (omega arith) (row_cell F lens ok y s h e).1
      where
        above : (t : ℕ) → y ≤ suc (row_of F t) → cell_of F.count t < F.w * y → suc (row_of F t) ≡ y
        above t a b =
            let w : 0 < F.w = some_column F lens ok s h in
            let r : row_of F t < y = (div-lt_iff_lt-mul w).1 (rw (mul_comm y F.w) b) in
            omega arith

  -- pass 1 of a row from starts of its own, each with its list
  starting : (ℕ → ℕ) → ℕ → List ℕ → List ℕ
  starting a s l = lower F 0 3 3 2 s (set l s (a s))

  starting_stores : (a : ℕ → ℕ) → Stores (starting a)
  unfolding starting
  starting_stores a =
      let v = lower_stores F 0 3 3 2 in
      record {
        size = λ s l. v.size s (set l s (a s)) ∙ length-set l s (a s);
        other = λ s t l n. v.other s t (set l s (a s)) n ∙ get_or-set_other l s t (a s) 65535 n;
      }

  starting_same : (y : ℕ) (a b : ℕ → ℕ) → ((s : ℕ) → s < spans F → row_of F s ≡ y → a s ≡ b s) → (l m : List ℕ) → length l ≡ spans F → length m ≡ spans F
      → ((s : ℕ) → s < spans F → suc (row_of F s) ≡ y → far l s ≡ far m s) → (s : ℕ) → s < spans F → row_of F s ≡ y
      → far (row_up F (starting a) y l) s ≡ far (row_up F (starting b) y m) s
  unfolding starting
  starting_same y a b z l m p q v s h e =
      row_same y (starting a) (starting b) (starting_stores a) (starting_stores b)
      (λ t i r l m p q u. rw (z t i r) (own_same y t i r l m p q u (b t)))
      l m p q v s h e

  -- row y of pass 1: of one field, from two lists that hold the same in the row before
  pub pass1-same : (y : ℕ) (l m : List ℕ) → length l ≡ spans F → length m ≡ spans F → ((s : ℕ) → s < spans F → suc (row_of F s) ≡ y → far l s ≡ far m s)
      → (s : ℕ) → s < spans F → row_of F s ≡ y → far (pass1_row F y l) s ≡ far (pass1_row F y m) s
  unfolding pass1_row from_start start_to starting
  pass1-same y l m p q v s h e = starting_same y (start_at F) (start_at F) (λ t i r. refl) l m p q v s h e

  -- of two fields that differ in area codes, where the row's spans start the same
  pub pass1_alike : (area : List ℕ) (y : ℕ) → ((s : ℕ) → s < spans F → row_of F s ≡ y → start_at F s ≡ start_at (repainted F area) s)
      → (l m : List ℕ) → length l ≡ spans F → length m ≡ spans F → ((s : ℕ) → s < spans F → suc (row_of F s) ≡ y → far l s ≡ far m s)
      → (s : ℕ) → s < spans F → row_of F s ≡ y → far (pass1_row F y l) s ≡ far (pass1_row (repainted F area) y m) s
  unfolding pass1_row from_start start_to starting row_up column over_cell lower near con_of
  pass1_alike area y z l m p q v s h e = starting_same y (start_at F) (start_at (repainted F area)) z l m p q v s h e

  -- ---------------------------------------------------------------- pass 2

  -- what pass 2 reads of a span in row y is in rows y and y+1
  module _ (y s : ℕ) (h : s < spans F) (e : row_of F s ≡ y) where
    in_two : ℕ → Type 0
    in_two t = t < spans F → (y ≤ row_of F t) × (row_of F t < suc (suc y))

    reads_2 : in_two (near F s 2)
    unfolding in_two
    reads_2 i = (omega (arith, row_right F lens ok s h i), omega (arith, row_right F lens ok s h i))

    reads_21 : in_two (near F (near F s 2) 1)
    unfolding in_two
    reads_21 i =
        let j = through F lens ok s 2 1 h (omega arith) i in
        let r = row_below F lens ok (near F s 2) j i in
        (omega (arith, row_right F lens ok s h j), omega (arith, row_right F lens ok s h j))

    reads_1 : in_two (near F s 1)
    unfolding in_two
    reads_1 i = (omega (arith, row_below F lens ok s h i), omega (arith, row_below F lens ok s h i))

    reads_10 : in_two (near F (near F s 1) 0)
    unfolding in_two
    reads_10 i =
        let j = through F lens ok s 1 0 h (omega arith) i in
        let r = row_left F lens ok (near F s 1) j i in
        (omega (arith, row_below F lens ok s h j), omega (arith, row_below F lens ok s h j))

  -- two lists of which rows y and y+1 are the same
  record Two (y : ℕ) (l m : List ℕ) : Type 0 where
    left : length l ≡ spans F
    right : length m ≡ spans F
    rows : Same F y (suc (suc y)) l m

  lower-two : (y s : ℕ) (l m : List ℕ) → s < spans F → row_of F s ≡ y → Two y l m → Two y (lower F 2 1 1 0 s l) (lower F 2 1 1 0 s m)
  unfolding lower in_two
  lower-two y s l m h e v =
      let st = lower_stores F 2 1 1 0 in
      let same : (t : ℕ) → (t < spans F → (y ≤ row_of F t) × (row_of F t < suc (suc y))) → far l t ≡ far m t = reads_same F y (suc (suc y)) l m v.left v.right v.rows in
      record {
        left = st.size s l ∙ v.left;
        right = st.size s m ∙ v.right;
        rows = λ t i a b.
            elim (ℕ_discrete t s) [
              | yes z ↦ rw z (get_or-set_same l s _ 65535 (rw v.left h) ∙ rw (
                same s (λ _. (omega arith, omega arith)),
                same (near F s 2) (reads_2 y s h e),
                same (near F (near F s 2) 1) (reads_21 y s h e),
                same (near F s 1) (reads_1 y s h e),
                same (near F (near F s 1) 0) (reads_10 y s h e),
              ) (sym (get_or-set_same m s _ 65535 (rw v.right h))))
              | no z ↦ st.other s t l z ∙ v.rows t i a b ∙ sym (st.other s t m z)
            ];
      }

  cell-two : (y x : ℕ) (l m : List ℕ) → x < F.w → Two y l m → Two y (over_cell F (lower F 2 1 1 0) (F.w * y + x) l) (over_cell F (lower F 2 1 1 0) (F.w * y + x) m)
  unfolding over_cell
  cell-two y x l m h v =
      upto_both (λ _. Two y) _ _ l m _ v
      (λ k a b i u.
      let c = F.w * y + x in
      lower-two y (get_or F.index c 0 + k) a b (layer_in F lens ok c k i) (ap (λ (z : ℕ). z / F.w) (layer_cell F lens ok c k i) ∙ row_is F.w y x h) u)

  row_two : (y : ℕ) (l m : List ℕ) → Two y l m → Two y (pass2_row F y l) (pass2_row F y m)
  unfolding pass2_row row_down column
  row_two y l m v = downto_both (Two y) _ _ l m F.w v (λ x a b h u. cell-two y x a b h u)

  pub pass2-same : (y : ℕ) (l m : List ℕ) → length l ≡ spans F → length m ≡ spans F → Same F y (suc (suc y)) l m → Same F y (suc (suc y)) (pass2_row F y l) (pass2_row F y m)
  pass2-same y l m p q v = (row_two y l m (record { left = p; right = q; rows = v })).rows

  -- ---------------------------------------------------------------- rows that are stored whole

  module _ (v : ℕ → ℕ) (y : ℕ) where
    -- the cells of the row before c are stored, and k layers of cell c
    record Stored (c k : ℕ) (l : List ℕ) : Type 0 where
      size : length l ≡ spans F
      cells : (s : ℕ) → s < spans F → row_of F s ≡ y → cell_of F.count s < c → far l s ≡ v s
      layers : (i : ℕ) → i < k → far l (get_or F.index c 0 + i) ≡ v (get_or F.index c 0 + i)

    store_layer : (c k : ℕ) (l : List ℕ) → k < get_or F.count c 0 → Stored c k l → Stored c (suc k) (set l (get_or F.index c 0 + k) (v (get_or F.index c 0 + k)))
    store_layer c k l h u =
        let s = get_or F.index c 0 + k in
        let j : s < length l = rw u.size (layer_in F lens ok c k h) in
        record {
          size = length-set l s (v s) ∙ u.size;
          cells = λ t i e b. get_or-set_other l s t (v s) 65535 (λ z. let q = ap (cell_of F.count) z ∙ layer_cell F lens ok c k h in omega arith) ∙ u.cells t i e b;
          layers = λ i b.
              elim (ℕ_discrete i k) [
                | yes z ↦ rw z (get_or-set_same l s (v s) 65535 j)
                | no z ↦ get_or-set_other l s (get_or F.index c 0 + i) (v s) 65535 (λ q. z (omega arith)) ∙ u.layers i (omega arith)
              ];
        }

    store_cell : (c : ℕ) (l : List ℕ) → Stored c 0 l → Stored (suc c) 0 (over_cell F (λ s m. set m s (v s)) c l)
    unfolding over_cell
    store_cell c l u =
        let z : Stored c (get_or F.count c 0) (over_cell F (λ s m. set m s (v s)) c l) = upto-ind (Stored c) _ l (get_or F.count c 0) u (λ k x h p. store_layer c k x h p) in
        record {
          size = z.size;
          cells = λ s i e b.
              elim (dec_lt (cell_of F.count s) c) [
                | yes d ↦ z.cells s i e d
                | no d ↦
                    let r = of_cell F lens ok c s i (omega arith) in
                    let q : get_or F.index c 0 + (s - get_or F.index c 0) ≡ s = omega arith in
                    rw q at (z.layers (s - get_or F.index c 0) (omega arith))
              ];
          layers = λ i b. absurd (omega arith);
        }

    pub row_stored : (l : List ℕ) → length l ≡ spans F → (s : ℕ) → s < spans F → row_of F s ≡ y → far (row_up F (λ s m. set m s (v s)) y l) s ≡ v s
    unfolding row_up column
    row_stored l n s h e =
        (upto-ind (λ k x. Stored (F.w * y + k) 0 x) (λ k x. over_cell F (λ s m. set m s (v s)) (F.w * y + k) x) l F.w
        (record { size = n; cells = λ t i r b. absurd (early t i r b); layers = λ i b. absurd (omega arith) })
        (λ k x g u. let q : F.w * y + suc k ≡ suc (F.w * y + k) = omega arith in rw q (store_cell (F.w * y + k) x u))
        ).cells s h e (row_cell F lens ok y s h e).1
      where
        early : (t : ℕ) → t < spans F → row_of F t ≡ y → cell_of F.count t < F.w * y + 0 → ⊥
        early t i r b = omega (arith, (row_cell F lens ok y t i r).0)

  -- row y of another list, and of a blur
  pub values_stored : (p : List ℕ) (y : ℕ) (l : List ℕ) → length p ≡ spans F → length l ≡ spans F → (s : ℕ) → s < spans F → row_of F s ≡ y → far (values_row F p y l) s ≡ far p s
  unfolding values_row value_to
  values_stored p y l q n s h e = row_stored (λ s. get_or p s 0) y l n s h e ∙ get_d_any p s 0 65535 (rw q h)

  pub blur_stored : (r : List ℕ) (y : ℕ) (l : List ℕ) → length l ≡ spans F → (s : ℕ) → s < spans F → row_of F s ≡ y → far (blur_row F r y l) s ≡ blur_at F r s
  unfolding blur_row blur_to
  blur_stored r y l n s h e = row_stored (blur_at F r) y l n s h e

  -- ---------------------------------------------------------------- a row of pass 2 from pass 1

  pub from_keeps : (p : List ℕ) (y t : ℕ) (l : List ℕ) → (row_of F t ≡ y → ⊥) → far (from_pass1 F p y l) t ≡ far l t
  unfolding from_pass1 pass2_row values_row
  from_keeps p y t l n = down_keeps F (lower F 2 1 1 0) (lower_stores F 2 1 1 0) lens ok y t _ n ∙ up_keeps F (value_to p) (value_stores p) lens ok y t l n

  pub from_size : (p : List ℕ) (y : ℕ) (l : List ℕ) → length (from_pass1 F p y l) ≡ length l
  unfolding from_pass1 pass2_row values_row
  from_size p y l = down_size F (lower F 2 1 1 0) (lower_stores F 2 1 1 0) y _ ∙ up_size F (value_to p) (value_stores p) y l

  -- the row's pass 1 values and the row after it decide
  pub from_same : (p q : List ℕ) (y : ℕ) (l m : List ℕ) → length p ≡ spans F → length q ≡ spans F → length l ≡ spans F → length m ≡ spans F
      → Same F y (suc y) p q → Same F (suc y) (suc (suc y)) l m → Same F y (suc (suc y)) (from_pass1 F p y l) (from_pass1 F q y m)
  unfolding from_pass1 values_row
  from_same p q y l m np nq nl nm u v =
      pass2-same y _ _ (up_size F (value_to p) (value_stores p) y l ∙ nl) (up_size F (value_to q) (value_stores q) y m ∙ nm)
      (λ s h a b.
      elim (ℕ_discrete (row_of F s) y) [
        | yes e ↦ values_stored p y l np nl s h e ∙ u s h a (omega arith) ∙ sym (values_stored q y m nq nm s h e)
        | no e ↦ up_keeps F (value_to p) (value_stores p) lens ok y s l e ∙ v s h (omega arith) b ∙ sym (up_keeps F (value_to q) (value_stores q) lens ok y s m e)
      ])

  -- ---------------------------------------------------------------- the blur

  -- what the blur reads of a span in row y is in rows y−1 to y+1
  module _ (l m : List ℕ) (p : length l ≡ spans F) (q : length m ≡ spans F) (s : ℕ) (h : s < spans F)
      (v : (t : ℕ) → t < spans F → row_of F s ≤ suc (row_of F t) → row_of F t ≤ suc (row_of F s) → far l t ≡ far m t) where
    read : (t c : ℕ) → (t < spans F → (row_of F s ≤ suc (row_of F t)) × (row_of F t ≤ suc (row_of F s))) → get_or l t c ≡ get_or m t c
    read t c r =
        elim (dec_lt t (spans F)) [
          | yes i ↦ get_d_any l t c 65535 (rw p i) ∙ v t i (r i).0 (r i).1 ∙ get_d_any m t 65535 c (rw q i)
          | no i ↦ get_or-eq_default l c (omega arith) ∙ sym (get_or-eq_default m c (omega arith))
        ]

    term-same : (c d : ℕ) → d < 4 → term F l s c d ≡ term F m s c d
    unfolding term corner
    term-same c =
        four_ways (λ d. get_or l (near F s d) c + get_or l (near F (near F s d) ((d + 1) % 4)) c ≡ get_or m (near F s d) c + get_or m (near F (near F s d) ((d + 1) % 4)) c)
        (rw (
          read (near F s 0) c (λ i. let a = row_left F lens ok s h i in (omega arith, omega arith)),
          read (near F (near F s 0) 1) c (λ i. let j = through F lens ok s 0 1 h (omega arith) i in let a = row_left F lens ok s h j in let b = row_below F lens ok _ j i in (omega arith, omega arith)),
        ))
        (rw (
          read (near F s 1) c (λ i. let a = row_below F lens ok s h i in (omega arith, omega arith)),
          read (near F (near F s 1) 2) c (λ i. let j = through F lens ok s 1 2 h (omega arith) i in let a = row_below F lens ok s h j in let b = row_right F lens ok _ j i in (omega arith, omega arith)),
        ))
        (rw (
          read (near F s 2) c (λ i. let a = row_right F lens ok s h i in (omega arith, omega arith)),
          read (near F (near F s 2) 3) c (λ i. let j = through F lens ok s 2 3 h (omega arith) i in let a = row_right F lens ok s h j in let b = row_above F lens ok _ j i in (omega arith, omega arith)),
        ))
        (rw (
          read (near F s 3) c (λ i. let a = row_above F lens ok s h i in (omega arith, omega arith)),
          read (near F (near F s 3) 0) c (λ i. let j = through F lens ok s 3 0 h (omega arith) i in let a = row_above F lens ok s h j in let b = row_left F lens ok _ j i in (omega arith, omega arith)),
        ))

    pub blur_at-same : blur_at F l s ≡ blur_at F m s
    unfolding blur_at
    blur_at-same =
        rw (
          read s 0 (λ _. (omega arith, omega arith)),
          term-same (get_or m s 0) 0 (omega arith),
          term-same (get_or m s 0) 1 (omega arith),
          term-same (get_or m s 0) 2 (omega arith),
          term-same (get_or m s 0) 3 (omega arith),
        )
