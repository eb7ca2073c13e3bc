-- All spans in order are the rows in order, of the cells in order, of the layers in order: refusal 4 has it that a nonempty cell's spans follow those
-- before it. Pass 1 by rows, each span from where it starts, is pass 1 whatever the list held, since what a span reads has had its turn.
use Prim.Native.Nat.{ℕ, zero, suc, ◌+◌, ◌*◌, ◌-◌, ◌≤◌, ◌<◌}
use native.Mathlib.Omega.{arith}
use native.Mathlib.Nat.{mul-zero, mul-suc}
use native.Mathlib.Decide.{dec_lt}
use mathlib.Core.Path.{◌≡◌, refl, sym, ap, ◌∙◌}
use mathlib.Core.Bool.{true}
use mathlib.Core.List.{List}
use lib.ListN.{length, get_or, set, length-set, get_or-eq_default}
use lib.Seq.{ext_get_or, set-set, set_comm, get_or-set_same, get_or-set_other}
use Rattle.rules.specs.Base.{upto, tab}
use Rattle.rules.specs.Field.{Field, spans, near, cell_of}
use Rattle.rules.specs.Refusals.{good_cells}
use Rattle.rules.specs.Distance.{far, least_of, lower, start_at, start, pass1, pass2, blur_at, blur}
use Rattle.rules.specs.Rows.{over_cell, downto, column, row_up, row_down, start_to, from_start, blur_to, pass1_row, pass2_row, blur_row}
use Rattle.laws.proofs.Basics.{upto-ind, upto_join, upto_ext, tab-at, length-tab, get_d_set_at, in_list}
use Rattle.laws.proofs.Cells.{before, before_next, before_none, before_lt, cell_of_at, cells_at, cells_sum}
use Rattle.laws.proofs.Lengths.{start-length}
use Rattle.laws.proofs.Passes.{start-at}

-- ---------------------------------------------------------------- rows and columns

module _ {ℓ} {A : Type ℓ} where
  upto_rows : (w h : ℕ) (g : ℕ → A → A) (a : A) → upto (w * h) g a ≡ upto h (λ y. upto w (λ x. g (w * y + x))) a
  unfolding upto
  upto_rows w zero g a = rw (mul-zero w)
  upto_rows w (suc h) g a = rw (mul-suc w h) (upto_join (w * h) w g a ∙ rw (upto_rows w h g a))

  pub downto_join : (a k : ℕ) (f : ℕ → A → A) (s : A) → downto (a + k) f s ≡ downto a f (downto k (λ j. f (a + j)) s)
  unfolding downto
  downto_join a zero f s = let e : a + 0 ≡ a = omega arith in rw e
  downto_join a (suc k) f s = let e : a + suc k ≡ suc (a + k) = omega arith in rw e (downto_join a k f (f (a + k) s))

  downto_rows : (w h : ℕ) (g : ℕ → A → A) (a : A) → downto (w * h) g a ≡ downto h (λ y. downto w (λ x. g (w * y + x))) a
  unfolding downto
  downto_rows w zero g a = rw (mul-zero w)
  downto_rows w (suc h) g a = rw (mul-suc w h) (downto_join (w * h) w g a ∙ downto_rows w h g (downto w (λ x. g (w * h + x)) a))

  -- the first step by itself
  upto-first : (n : ℕ) (g : ℕ → A → A) (a : A) → upto (suc n) g a ≡ upto n (λ j. g (suc j)) (g 0 a)
  unfolding upto
  upto-first zero g a = refl
  upto-first (suc n) g a = ap (g (suc n)) (upto-first n g a)

  -- downward is upward with the numbers turned round
  upto-downto : (n : ℕ) (f : ℕ → A → A) (a : A) → upto n (λ k. f (n - 1 - k)) a ≡ downto n f a
  unfolding upto downto
  upto-downto zero f a = refl
  upto-downto (suc n) f a =
      upto-first n (λ k. f (suc n - 1 - k)) a
      ∙ upto_ext n (λ j. f (suc n - 1 - suc j)) (λ k. f (n - 1 - k)) (f (suc n - 1 - 0) a) (λ i x l. let q : suc n - 1 - suc i ≡ n - 1 - i = omega arith in ap (λ (z : ℕ). f z x) q)
      ∙ let q : suc n - 1 - 0 ≡ n = omega arith in rw q (upto-downto n f (f n a))

-- ---------------------------------------------------------------- cells

module _ (F : Field) (ok : good_cells F.index F.count 0 (spans F) ≡ true) where
  cells_upto : (f : ℕ → List ℕ → List ℕ) (l : List ℕ) (c : ℕ) → upto (before F.count c) f l ≡ upto c (over_cell F f) l
  unfolding upto over_cell
  cells_upto f l zero = rw (before_none F.count)
  cells_upto f l (suc c) =
      let a = before F.count c in
      let k = get_or F.count c 0 in
      let i = get_or F.index c 0 in
      let first : (j : ℕ) → j < k → a ≡ i = λ j h. omega (arith, (cells_at F.index F.count 0 (spans F) ok c).starts (omega arith)) in
      rw (before_next F.count c)
      (upto_join a k f l ∙ rw (cells_upto f l c)
      (upto_ext k (λ j. f (a + j)) (λ j m. f (i + j) m) (upto c (over_cell F f) l) (λ j x h. ap (λ (z : ℕ). f (z + j) x) (first j h))))

  -- the spans in order, cell by cell, and row by row
  pub spans-upto : length F.count ≡ F.w * F.h → (f : ℕ → List ℕ → List ℕ) (l : List ℕ) → upto (spans F) f l ≡ upto (F.w * F.h) (over_cell F f) l
  spans-upto n f l =
      let e : spans F ≡ before F.count (F.w * F.h) = rw (← n) (omega (arith, cells_sum F.index F.count 0 (spans F) ok)) in
      rw e (cells_upto f l (F.w * F.h))

  pub rows_upto : length F.count ≡ F.w * F.h → (f : ℕ → List ℕ → List ℕ) (l : List ℕ) → upto (spans F) f l ≡ upto F.h (row_up F f) l
  unfolding row_up column
  rows_upto n f l = spans-upto n f l ∙ upto_rows F.w F.h (over_cell F f) l

pub pass2_by_rows : (F : Field) (l : List ℕ) → downto F.h (pass2_row F) l ≡ pass2 F l
unfolding pass2 pass2_row row_down column over_cell
pass2_by_rows F l =
    sym (upto-downto (F.w * F.h) (over_cell F (lower F 2 1 1 0)) l ∙ downto_rows F.w F.h (over_cell F (lower F 2 1 1 0)) l)

-- ---------------------------------------------------------------- a list by its elements, one stored after the other

-- n elements, of which the first k are stored
record Stored (n : ℕ) (g : ℕ → ℕ) (k : ℕ) (x : List ℕ) : Type 0 where
  size : length x ≡ n
  done : (i : ℕ) → i < k → get_or x i 0 ≡ g i

stored_upto : (n : ℕ) (g : ℕ → ℕ) (l : List ℕ) → length l ≡ n → Stored n g n (upto n (λ s m. set m s (g s)) l)
stored_upto n g l e =
    upto-ind (Stored n g) (λ s m. set m s (g s)) l n
    (record { size = e; done = λ i h. absurd (omega arith) })
    (λ k x h p.
    let q : k < length x = rw p.size h in
    record {
      size = length-set x k (g k) ∙ p.size;
      done = λ i r. get_d_set_at x k (g k) 0 i (λ v. v ≡ g i) q (λ z. rw z) (λ z. p.done i (omega arith));
    })

pub stored : (n : ℕ) (g : ℕ → ℕ) (l : List ℕ) → length l ≡ n → upto n (λ s m. set m s (g s)) l ≡ tab n 0 g
stored n g l e = by_elements (upto n (λ s m. set m s (g s)) l) (stored_upto n g l e)
  where
    by_elements : (x : List ℕ) → Stored n g n x → x ≡ tab n 0 g
    by_elements x p =
        ext_get_or 0 x (tab n 0 g) (p.size ∙ sym (length-tab n 0 g))
        (λ i h.
        let q : i < n = rw p.size at h in
        let z : 0 + i ≡ i = omega arith in
        p.done i q ∙ sym (tab-at n 0 g i 0 q ∙ ap g z))

-- the blur by rows, whatever the blurred list held
pub blur_by_rows : (F : Field) → good_cells F.index F.count 0 (spans F) ≡ true → length F.count ≡ F.w * F.h → (l m : List ℕ) → length m ≡ spans F
    → upto F.h (blur_row F l) m ≡ blur F l
unfolding blur_row blur blur_to
blur_by_rows F ok n l m e = sym (rows_upto F ok n (blur_to F l) m) ∙ stored (spans F) (blur_at F l) m e

-- ---------------------------------------------------------------- pass 1 from the start

-- what pass 1 reads at span s stands before it
pub record Earlier (F : Field) (s : ℕ) : Type 0 where
  pub first : near F s 0 < spans F → near F s 0 < s
  pub second : near F (near F s 0) 3 < spans F → near F (near F s 0) 3 < s
  pub third : near F s 3 < spans F → near F s 3 < s
  pub fourth : near F (near F s 3) 2 < spans F → near F (near F s 3) 2 < s

module _ (F : Field) (s : ℕ) (i : s < spans F) (e : Earlier F s) where
  -- what the span reads of a list before its own value is stored is what it reads after
  other : (l : List ℕ) (v t : ℕ) → (t < spans F → t < s) → far (set l s v) t ≡ far l t
  other l v t r = get_or-set_other l s t v 65535 (λ z. let j : t < spans F = rw z i in omega (arith, r j))

  -- the value that pass 1 gives the span
  pub from_start_lem : (l : List ℕ) → length l ≡ spans F → from_start F s l
      ≡ set l s (least_of (start_at F s) (far l (near F s 0)) (far l (near F (near F s 0) 3)) (far l (near F s 3)) (far l (near F (near F s 3) 2)))
  unfolding from_start start_to lower
  from_start_lem l n =
      let v = start_at F s in
      let o = other l v in
      set-set l s v _
      ∙ rw (
        get_or-set_same l s v 65535 (rw n i),
        o (near F s 0) e.first,
        o (near F (near F s 0) 3) e.second,
        o (near F s 3) e.third,
        o (near F (near F s 3) 2) e.fourth,
      )

  -- two lists that agree before the span give it the same value
  same-least : (v : ℕ) (l m : List ℕ) → length l ≡ spans F → length m ≡ spans F → ((t : ℕ) → t < s → far l t ≡ far m t)
      → least_of v (far l (near F s 0)) (far l (near F (near F s 0) 3)) (far l (near F s 3)) (far l (near F (near F s 3) 2))
      ≡ least_of v (far m (near F s 0)) (far m (near F (near F s 0) 3)) (far m (near F s 3)) (far m (near F (near F s 3) 2))
  same-least v l m p q h = rw (alike (near F s 0) e.first, alike (near F (near F s 0) 3) e.second, alike (near F s 3) e.third, alike (near F (near F s 3) 2) e.fourth)
    where
      alike : (t : ℕ) → (t < spans F → t < s) → far l t ≡ far m t
      alike t r = elim (dec_lt t (spans F)) [
        | yes j ↦ h t (r j)
        | no j ↦ get_or-eq_default l 65535 (omega arith) ∙ sym (get_or-eq_default m 65535 (omega arith))
      ]

module _ (F : Field) (earlier : (s : ℕ) → s < spans F → Earlier F s) where
  -- l, each span from where it starts, and m, all from the start, after k spans
  record Twins (k : ℕ) (l m : List ℕ) : Type 0 where
    left : length l ≡ spans F
    right : length m ≡ spans F
    done : (t : ℕ) → t < k → far l t ≡ far m t
    todo : (t : ℕ) → k ≤ t → t < spans F → far m t ≡ start_at F t

  twins_next : (k : ℕ) (l m : List ℕ) → k < spans F → Twins k l m → Twins (suc k) (from_start F k l) (lower F 0 3 3 2 k m)
  unfolding lower
  twins_next k l m h v =
      let x = least_of (start_at F k) (far l (near F k 0)) (far l (near F (near F k 0) 3)) (far l (near F k 3)) (far l (near F (near F k 3) 2)) in
      let y = least_of (far m k) (far m (near F k 0)) (far m (near F (near F k 0) 3)) (far m (near F k 3)) (far m (near F (near F k 3) 2)) in
      let same : x ≡ y = rw (v.todo k (omega arith) h) (same-least F k h (earlier k h) (start_at F k) l m v.left v.right v.done) in
      let i : k < length l = rw v.left h in
      let j : k < length m = rw v.right h in
      rw (from_start_lem F k h (earlier k h) l v.left) (record {
        left = length-set l k x ∙ v.left;
        right = length-set m k y ∙ v.right;
        done = λ t g. get_d_set_at l k x 65535 t (λ r. r ≡ far (set m k y) t) i
            (λ z. rw z (same ∙ sym (get_or-set_same m k y 65535 j)))
            (λ z. v.done t (omega arith) ∙ sym (get_or-set_other m k t y 65535 z));
        todo = λ t g f. get_or-set_other m k t y 65535 (λ z. omega arith) ∙ v.todo t (omega arith) f;
      })

  twins : (l : List ℕ) → length l ≡ spans F → (n : ℕ) → n ≤ spans F → Twins n (upto n (from_start F) l) (upto n (lower F 0 3 3 2) (start F))
  unfolding upto
  twins l e n h =
      upto-ind (λ k m. Twins k (upto k (from_start F) l) m) (lower F 0 3 3 2) (start F) n
      (record { left = e; right = start-length F; done = λ t g. absurd (omega arith); todo = λ t g f. start-at F t f })
      (λ k m g v. twins_next k (upto k (from_start F) l) m (omega arith) v)

  -- each span from where it starts, whatever the list held
  pub pass1_from_start : (l : List ℕ) → length l ≡ spans F → upto (spans F) (from_start F) l ≡ pass1 F (start F)
  unfolding pass1
  pass1_from_start l e =
      let v = twins l e (spans F) (omega arith) in
      ext_get_or 65535 (upto (spans F) (from_start F) l) (upto (spans F) (lower F 0 3 3 2) (start F)) (v.left ∙ sym v.right) (λ i h. v.done i (omega (arith, v.left)))

  -- the same by rows
  pub pass1_by_rows : good_cells F.index F.count 0 (spans F) ≡ true → length F.count ≡ F.w * F.h → (l : List ℕ) → length l ≡ spans F
      → upto F.h (pass1_row F) l ≡ pass1 F (start F)
  unfolding pass1_row
  pass1_by_rows ok n l e = sym (rows_upto F ok n (from_start F) l) ∙ pass1_from_start l e

-- ---------------------------------------------------------------- pass 2 from the last span

module _ {ℓ} {A : Type ℓ} where
  -- a step that commutes with n others may come before them
  upto_past : (n : ℕ) (f : ℕ → A → A) (g : A → A) (a : A) → ((i : ℕ) (x : A) → i < n → g (f i x) ≡ f i (g x)) → g (upto n f a) ≡ upto n f (g a)
  unfolding upto
  upto_past zero f g a h = refl
  upto_past (suc n) f g a h = h n (upto n f a) (omega arith) ∙ ap (f n) (upto_past n f g a (λ i x l. h i x (omega arith)))

  -- steps that commute may be turned round
  upto-turned : (n : ℕ) (f : ℕ → A → A) (a : A) → ((i j : ℕ) (x : A) → i < n → j < n → (i ≡ j → ⊥) → f j (f i x) ≡ f i (f j x)) → upto n f a ≡ downto n f a
  unfolding upto downto
  upto-turned zero f a h = refl
  upto-turned (suc n) f a h =
      upto_past n f (f n) a (λ i x l. h i n x (omega arith) (omega arith) (λ z. omega arith))
      ∙ upto-turned n f (f n a) (λ i j x k l z. h i j x (omega arith) (omega arith) z)

  downto_ext : (n : ℕ) (f g : ℕ → A → A) (s : A) → ((i : ℕ) (x : A) → i < n → f i x ≡ g i x) → downto n f s ≡ downto n g s
  unfolding downto
  downto_ext zero f g s h = refl
  downto_ext (suc n) f g s h = ap (downto n f) (h n s (omega arith)) ∙ downto_ext n f g (g n s) (λ i x l. h i x (omega arith))

-- what pass 2 reads at span s stands in other cells
pub record Apart (F : Field) (s : ℕ) : Type 0 where
  pub first : near F s 2 < spans F → cell_of F.count (near F s 2) ≡ cell_of F.count s → ⊥
  pub second : near F (near F s 2) 1 < spans F → cell_of F.count (near F (near F s 2) 1) ≡ cell_of F.count s → ⊥
  pub third : near F s 1 < spans F → cell_of F.count (near F s 1) ≡ cell_of F.count s → ⊥
  pub fourth : near F (near F s 1) 0 < spans F → cell_of F.count (near F (near F s 1) 0) ≡ cell_of F.count s → ⊥

module _ (F : Field) where
  -- the value that pass 2 gives span s
  value2 : ℕ → List ℕ → ℕ
  value2 s l = least_of (far l s) (far l (near F s 2)) (far l (near F (near F s 2) 1)) (far l (near F s 1)) (far l (near F (near F s 1) 0))

  -- a store to another span of the cell does not change it
  value_same : (s t v : ℕ) (l : List ℕ) → Apart F s → t < spans F → cell_of F.count t ≡ cell_of F.count s → (s ≡ t → ⊥) → value2 s (set l t v) ≡ value2 s l
  unfolding value2
  value_same s t v l a i c n =
      rw (
        get_or-set_other l t s v 65535 n,
        other (near F s 2) a.first,
        other (near F (near F s 2) 1) a.second,
        other (near F s 1) a.third,
        other (near F (near F s 1) 0) a.fourth,
      )
    where
      other : (r : ℕ) → (r < spans F → cell_of F.count r ≡ cell_of F.count s → ⊥) → far (set l t v) r ≡ far l r
      other r o = get_or-set_other l t r v 65535 (λ z. o (rw z i) (ap (cell_of F.count) z ∙ c))

  lower-turned : (s t : ℕ) (l : List ℕ) → Apart F s → Apart F t → s < spans F → t < spans F → cell_of F.count t ≡ cell_of F.count s → (s ≡ t → ⊥)
      → lower F 2 1 1 0 t (lower F 2 1 1 0 s l) ≡ lower F 2 1 1 0 s (lower F 2 1 1 0 t l)
  unfolding lower value2
  lower-turned s t l a b i j c n =
      ap (set (set l s (value2 s l)) t) (value_same t s (value2 s l) l b i (sym c) (λ z. n (sym z)))
      ∙ set_comm l s t (value2 s l) (value2 t l) n
      ∙ sym (ap (set (set l t (value2 t l)) s) (value_same s t (value2 t l) l a j c n))

  module _ (ok : good_cells F.index F.count 0 (spans F) ≡ true) (apart : (s : ℕ) → s < spans F → Apart F s) where
    -- layer j of cell c
    layer_in : (c j : ℕ) → j < get_or F.count c 0 → (get_or F.index c 0 + j < spans F) × (cell_of F.count (get_or F.index c 0 + j) ≡ c)
    layer_in c j h =
        let s : get_or F.index c 0 ≡ 0 + before F.count c = (cells_at F.index F.count 0 (spans F) ok c).starts (omega arith) in
        let e : get_or F.index c 0 + j ≡ before F.count c + j = omega arith in
        let b = before_lt F.count c (length F.count) j h (in_list F.count c (omega arith)) in
        (omega (arith, cells_sum F.index F.count 0 (spans F) ok), rw e (cell_of_at F.count c j h))

    -- the layers of a cell downward
    cell-turned : (c : ℕ) (l : List ℕ) → over_cell F (lower F 2 1 1 0) c l ≡ downto (get_or F.count c 0) (λ j. lower F 2 1 1 0 (get_or F.index c 0 + j)) l
    unfolding over_cell
    cell-turned c l =
        upto-turned (get_or F.count c 0) (λ j. lower F 2 1 1 0 (get_or F.index c 0 + j)) l
        (λ i j x h g n.
        let a = layer_in c i h in
        let b = layer_in c j g in
        lower-turned (get_or F.index c 0 + i) (get_or F.index c 0 + j) x (apart _ a.0) (apart _ b.0) a.0 b.0 (b.1 ∙ sym a.1) (λ z. n (omega arith)))

    cells_downto : (l : List ℕ) (c : ℕ) → downto (before F.count c) (lower F 2 1 1 0) l ≡ downto c (over_cell F (lower F 2 1 1 0)) l
    unfolding downto
    cells_downto l zero = rw (before_none F.count)
    cells_downto l (suc c) =
        let a = before F.count c in
        let k = get_or F.count c 0 in
        let i = get_or F.index c 0 in
        let first : (j : ℕ) → j < k → a ≡ i = λ j h. omega (arith, (cells_at F.index F.count 0 (spans F) ok c).starts (omega arith)) in
        rw (before_next F.count c)
        (downto_join a k (lower F 2 1 1 0) l
        ∙ ap (downto a (lower F 2 1 1 0))
        (downto_ext k (λ j. lower F 2 1 1 0 (a + j)) (λ j. lower F 2 1 1 0 (i + j)) l (λ j x h. ap (λ (z : ℕ). lower F 2 1 1 0 (z + j) x) (first j h)) ∙ sym (cell-turned c l))
        ∙ cells_downto (over_cell F (lower F 2 1 1 0) c l) c)

    -- the spans from the last to the first, whatever the rule's order of a cell's layers
    pub pass2_from_last : length F.count ≡ F.w * F.h → (l : List ℕ) → downto (spans F) (lower F 2 1 1 0) l ≡ pass2 F l
    unfolding pass2 over_cell
    pass2_from_last n l =
        let e : spans F ≡ before F.count (F.w * F.h) = rw (← n) (omega (arith, cells_sum F.index F.count 0 (spans F) ok)) in
        rw e (cells_downto l (F.w * F.h) ∙ sym (upto-downto (F.w * F.h) (over_cell F (lower F 2 1 1 0)) l))
