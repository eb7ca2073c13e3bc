-- The loader tells what reading the whole file comes to, `read_file_at`. The loader's state between two records is `stage` with kind 0: the field so far stands over the
-- beginnings of the lists, and the place is the number of bytes received. Each record leads from one such stage to the next, byte by byte.
use Prim.Native.Nat.{ℕ, zero, suc, ◌+◌, ◌-◌, ◌*◌, ◌≤◌, ◌<◌}
use native.Mathlib.Omega.{arith}
use native.Mathlib.Decide.{dec_lt, ℕ_discrete}
use native.Mathlib.Nat.{mod-eq_of_lt}
use native.Mathlib.Numerals.{add-one}
use mathlib.Core.Path.{◌≡◌, refl, sym, ap, ◌∙◌}
use mathlib.Core.Bool.{true, false}
use mathlib.Core.List.{List, [], ◌∷◌, ◌++◌, append_assoc, append-nil}
use lib.ListN.{length, get_or, set, take, drop, length-append}
use lib.Seq.{set-append_seam, drop-cons}
use lib.Dec.{leb, ltb, eqb}
use borrow.Author.Tests.{lt-ltb, le-ltb, le-leb, lt-leb, eq-eqb, ne_eqb}
use Rattle.rules.specs.Base.{◌and◌, when◌then◌else◌}
use Rattle.rules.specs.Field.{Field}
use Rattle.rules.specs.Outcomes.{Sizes}
use Rattle.rules.specs.File.{word, with_cell, with_span, empty_field}
use Rattle.rules.specs.Load.{Placed, refused_at, describes, read_on_at, read_file_at, Loader, Loading, load_begin, going, up, refusing, onward, counted, wanted, kind_byte}
use Rattle.rules.specs.Load.{number_with, sized, headed, header_byte, cell_on, cell_byte, span_on, span_byte, with, taken, byte_in, feed, closed, load_end, roomy, piece_refusal}
use Rattle.rules.specs.Load.{over, Told, refused_told, told, capped, told_by}
use Rattle.load.proofs.Pieces.{feed-nothing, end_changes_nothing, loads, in_pieces, joined, any_pieces}

-- ---------------------------------------------------------------- places and lists

up-capped : (p : ℕ) → up (capped p) ≡ capped (p + 1)
unfolding up capped when◌then◌else◌
up-capped p =
    elim (dec_lt (p + 1) 4294967295) [
      | yes h ↦ rw (lt-ltb p 4294967295 (omega arith), lt-ltb p 4294967295 (omega arith), lt-ltb (p + 1) 4294967295 h) refl
      | no h ↦
          elim (dec_lt p 4294967295) [
            | yes g ↦
                let e : p + 1 ≡ 4294967295 = omega arith in
                rw (lt-ltb p 4294967295 g, lt-ltb p 4294967295 g, le-ltb (p + 1) 4294967295 (omega arith)) e
            | no g ↦ rw (le-ltb p 4294967295 (omega arith), le-ltb (p + 1) 4294967295 (omega arith)) refl
          ]
    ]

capped_some : (p : ℕ) → 1 ≤ p → capped p ≡ 0 → ⊥
unfolding capped when◌then◌else◌
capped_some p h =
    elim (dec_lt p 4294967295) [
      | yes g ↦ rw (lt-ltb p 4294967295 g) (λ e. omega arith)
      | no g ↦ rw (le-ltb p 4294967295 (omega arith)) (λ e. omega arith)
    ]

up_small : (n : ℕ) → n < 4294967295 → up n ≡ n + 1
unfolding up when◌then◌else◌
up_small n h = rw (lt-ltb n 4294967295 h)

-- a store at the end of what stands over a list
set-over : (l old : List ℕ) (i v : ℕ) → i ≡ length l → i < length old → set (over l old) i v ≡ over (l ++ (v ∷ [])) old
unfolding over
set-over l old i v e h =
    let g : length l < length old = omega arith in
    let k : length (l ++ (v ∷ [])) ≡ suc (length l) = length-append l (v ∷ []) ∙ add-one (length l) in
    rw (e, drop-cons old (length l) 0 g, set-append_seam l (get_or old (length l) 0) (drop (suc (length l)) old) v, k)
    (sym (append_assoc l (v ∷ []) (drop (suc (length l)) old)))

-- ---------------------------------------------------------------- the loading as it goes

-- what a caller is told who loads these bytes and declares the end
unfoldable pub tell : List ℕ → Loading → Told
tell bytes x = let y = feed bytes x in told (with y (load_end y.loader))

stopped : (l : Loader) (n p : ℕ) → (n ≡ 0 → ⊥) → going (refusing n p l) ≡ false
unfolding going refusing ◌and◌
stopped l n p h = rw (ne_eqb n 0 h)

told_refused : (x : Loading) (n p : ℕ) → (n ≡ 0 → ⊥) → told (with x (refusing n p x.loader)) ≡ refused_told n p x.index x.count x.area x.con
unfolding told with refusing when◌then◌else◌
told_refused x n p h = rw (ne_eqb n 0 h)

with_loader : (x : Loading) (l : Loader) → going l ≡ false → going (with x l).loader ≡ false
unfolding with
with_loader x l e = e

with-again : (x : Loading) (l : Loader) → with (with x l) (with x l).loader ≡ with x l
unfolding with
with-again x l = refl

tell_fed : (bytes : List ℕ) (x : Loading) → tell [] (feed bytes x) ≡ tell bytes x
unfolding tell feed
tell_fed bytes x = refl

-- a byte that is no kind in place
refuses : (x : Loading) (b : ℕ) → (b ≡ wanted x.loader → ⊥) → going x.loader ≡ true → x.loader.kind ≡ 0 → byte_in x b ≡ with x (refusing 20 x.loader.received x.loader)
unfolding byte_in taken kind_byte when◌then◌else◌
refuses x b n g k = rw (g, eq-eqb x.loader.kind 0 k, ne_eqb b (wanted x.loader) n)

-- a byte after the end record
after_refuses : (x : Loading) (b : ℕ) → going x.loader ≡ true → x.loader.kind ≡ 4 → byte_in x b ≡ with x (refusing 20 x.loader.received x.loader)
unfolding byte_in taken when◌then◌else◌
after_refuses x b g k = rw (g, k)

-- a refusal is told, whatever comes after
tell_refused : (bytes : List ℕ) (x : Loading) (n p : ℕ) → (n ≡ 0 → ⊥)
    → tell bytes (with x (refusing n p x.loader)) ≡ refused_told n p x.index x.count x.area x.con
unfolding tell
tell_refused bytes x n p h =
    let m = refusing n p x.loader in
    let g : going (with x m).loader ≡ false = with_loader x m (stopped x.loader n p h) in
    rw (feed-nothing bytes (with x m) g, end_changes_nothing (with x m).loader g, with-again x m) (told_refused x n p h)

tell_next : (b : ℕ) (bytes : List ℕ) (x : Loading) → tell (b ∷ bytes) x ≡ tell bytes (byte_in x b)
unfolding tell feed
tell_next b bytes x = refl

tell_step : (b : ℕ) (bytes : List ℕ) (x y : Loading) (t : Told) → byte_in x b ≡ y → tell bytes y ≡ t → tell (b ∷ bytes) x ≡ t
tell_step b bytes x y t e f = tell_next b bytes x ∙ ap (tell bytes) e ∙ f

module _ (M N : ℕ) (index₀ count₀ area₀ con₀ : List ℕ) (w h : ℕ) (z : Sizes) where
  -- under way in a record of that kind, with so many bytes of its body, at place p; s spans are whole; F is the field so far
  unfoldable pub stage : ℕ → ℕ → ℕ → ℕ → ℕ → ℕ → Field → Loading
  stage kind got start p s due F = record {
    loader = record {
      most_cells = M;
      most_spans = N;
      kind = kind;
      got = got;
      start = start;
      received = capped p;
      w = w;
      h = h;
      border = z.border;
      least = z.least;
      merge = z.merge;
      cells = length F.index;
      spans = s;
      due = due;
      refusal = 0;
      position = 0;
      ended = 0;
    };
    index = over F.index index₀;
    count = over F.count count₀;
    area = over F.area area₀;
    con = over F.con con₀;
  }

  goes : (kind got start p s due : ℕ) (F : Field) → going (stage kind got start p s due F).loader ≡ true
  unfolding stage going ◌and◌
  goes kind got start p s due F = refl

  abbrev tells : Placed → Told
  tells = told_by index₀ count₀ area₀ con₀

  -- cut short
  tell_cut : (kind got start p s due : ℕ) (F : Field) → (kind ≡ 4 → ⊥) → tell [] (stage kind got start p s due F) ≡ tells (refused_at 20 p F)
  unfolding tell feed stage load_end going refusing with told told_by when◌then◌else◌ ◌and◌
  tell_cut kind got start p s due F n = rw (ne_eqb kind 4 n) refl

  -- a kind byte
  kind_here : (start p s due kind : ℕ) (F : Field) → wanted (stage 0 0 start p s due F).loader ≡ kind → byte_in (stage 0 0 start p s due F) kind ≡ stage kind 0 (capped p) (p + 1) s due F
  unfolding byte_in taken going stage with kind_byte onward when◌then◌else◌ ◌and◌
  kind_here start p s due kind F e = rw (eq-eqb kind (wanted (stage 0 0 start p s due F).loader) (sym e), up-capped p) refl

  kind_other : (start p s due b kind : ℕ) (F : Field) → wanted (stage 0 0 start p s due F).loader ≡ kind → (b ≡ kind → ⊥) → (bytes : List ℕ)
      → tell (b ∷ bytes) (stage 0 0 start p s due F) ≡ tells (refused_at 20 p F)
  unfolding stage told_by
  kind_other start p s due b kind F e n bytes =
      let x = stage 0 0 start p s due F in
      tell_next b bytes x ∙ ap (tell bytes) (refuses x b (λ q. n (q ∙ e)) (goes 0 0 start p s due F) refl) ∙ tell_refused bytes x 20 (capped p) (λ q. omega arith)

  -- the kind that is in place
  wants_span : (start p s due : ℕ) (F : Field) → 1 ≤ p → wanted (stage 0 0 start p s (suc due) F).loader ≡ 3
  unfolding stage wanted when◌then◌else◌
  wants_span start p s due F g = rw (ne_eqb (capped p) 0 (capped_some p g), lt-ltb 0 (suc due) (omega arith))

  wants_cell : (start p s : ℕ) (F : Field) → 1 ≤ p → length F.index < w * h → wanted (stage 0 0 start p s 0 F).loader ≡ 2
  unfolding stage wanted when◌then◌else◌
  wants_cell start p s F g k = rw (ne_eqb (capped p) 0 (capped_some p g), lt-ltb (length F.index) (w * h) k)

  wants_end : (start p s : ℕ) (F : Field) → 1 ≤ p → w * h ≤ length F.index → wanted (stage 0 0 start p s 0 F).loader ≡ 4
  unfolding stage wanted when◌then◌else◌
  wants_end start p s F g k = rw (ne_eqb (capped p) 0 (capped_some p g), le-ltb (length F.index) (w * h) k)

  -- ---------------------------------------------------------------- a cell

  cell_refuses : (start p s c : ℕ) (F : Field) → N < s + c
      → byte_in (stage 2 0 start p s 0 F) c ≡ with (stage 2 0 start p s 0 F) (refusing 21 start (stage 2 0 start p s 0 F).loader)
  unfolding byte_in taken going stage cell_byte with when◌then◌else◌ ◌and◌
  cell_refuses start p s c F n = rw (lt-ltb N (s + c) n) refl

  cell_refused : (start p s c q : ℕ) (F : Field) (bytes : List ℕ) → N < s + c → start ≡ capped q → tell (c ∷ bytes) (stage 2 0 start p s 0 F) ≡ tells (refused_at 21 q F)
  unfolding stage told_by
  cell_refused start p s c q F bytes n e =
      let x = stage 2 0 start p s 0 F in
      tell_next c bytes x ∙ ap (tell bytes) (cell_refuses start p s c F n) ∙ tell_refused bytes x 21 start (λ k. omega arith) ∙ rw e refl

  cell-taken : (start p s c : ℕ) (F : Field) → s + c ≤ N → length F.index < length index₀ → length F.count ≡ length F.index → length F.count < length count₀
      → length F.index < 4294967295 → byte_in (stage 2 0 start p s 0 F) c ≡ stage 0 0 start (p + 1) s c (with_cell s c F)
  unfolding byte_in taken going stage cell_byte cell_on counted onward with_cell when◌then◌else◌ ◌and◌
  cell-taken start p s c F n i e k m =
      let a : length (F.index ++ (s ∷ [])) ≡ length F.index + 1 = length-append F.index (s ∷ []) in
      rw (le-ltb N (s + c) n, set-over F.index index₀ (length F.index) s refl i, set-over F.count count₀ (length F.index) c (sym e) (omega arith), up_small (length F.index) m, up-capped p, a)
      refl

  -- ---------------------------------------------------------------- a span

  -- the field with an area more, with a connection more
  with_area : ℕ → Field → Field
  with_area b F = record { w = F.w; h = F.h; index = F.index; count = F.count; area = F.area ++ (b ∷ []); con = F.con }

  with_con : ℕ → Field → Field
  with_con b F = record { w = F.w; h = F.h; index = F.index; count = F.count; area = F.area; con = F.con ++ (b ∷ []) }

  area_taken : (start p s due b : ℕ) (F : Field) → s ≡ length F.area → s < length area₀ → byte_in (stage 3 0 start p s due F) b ≡ stage 3 1 start (p + 1) s due (with_area b F)
  unfolding byte_in taken going stage span_byte span_on onward with_area when◌then◌else◌ ◌and◌
  area_taken start p s due b F e i = rw (set-over F.area area₀ s b e i, up-capped p) refl

  con_taken : (start p s due b j : ℕ) (F : Field) → (j ≡ 0 → ⊥) → j < 4 → 4 * s + (j - 1) ≡ length F.con → 4 * s + (j - 1) < length con₀
      → byte_in (stage 3 j start p s due F) b ≡ stage 3 (j + 1) start (p + 1) s due (with_con b F)
  unfolding byte_in taken going stage span_byte span_on onward with_con when◌then◌else◌ ◌and◌
  con_taken start p s due b j F n l e i = rw (ne_eqb j 0 n, lt-ltb j 4 l, set-over F.con con₀ (4 * s + (j - 1)) b e i, up-capped p) refl

  last_taken : (start p s due b : ℕ) (F : Field) → 4 * s + 3 ≡ length F.con → 4 * s + 3 < length con₀ → s < 4294967295
      → byte_in (stage 3 4 start p s (suc due) F) b ≡ stage 0 0 start (p + 1) (s + 1) due (with_con b F)
  unfolding byte_in taken going stage span_byte span_on onward counted with_con when◌then◌else◌ ◌and◌
  last_taken start p s due b F e i m = let d : suc due - 1 ≡ due = omega arith in rw (d, set-over F.con con₀ (4 * s + 3) b e i, up-capped p, up_small s m) refl

  -- ---------------------------------------------------------------- the end

  end-told : (start p : ℕ) (F : Field) → F.w ≡ w → F.h ≡ h → tell [] (stage 4 0 start p (length F.area) 0 F) ≡ tells (describes (record { field = F; sizes = z }))
  unfolding tell feed stage load_end going closed with told told_by when◌then◌else◌ ◌and◌
  end-told start p F e f = rw (e, f) refl

  end_more : (start p s b : ℕ) (F : Field) (bytes : List ℕ) → tell (b ∷ bytes) (stage 4 0 start p s 0 F) ≡ tells (refused_at 20 p F)
  unfolding stage told_by
  end_more start p s b F bytes =
      let x = stage 4 0 start p s 0 F in
      tell_next b bytes x ∙ ap (tell bytes) (after_refuses x b (goes 4 0 start p s 0 F) refl) ∙ tell_refused bytes x 20 (capped p) (λ k. omega arith)

  -- ---------------------------------------------------------------- the records

  -- a span's body so far
  span_0 : (F : Field) → with_span [] F ≡ F
  unfolding with_span
  span_0 F = rw (append-nil F.area, append-nil F.con) refl

  module _ (b0 b1 b2 b3 b4 : ℕ) (F : Field) where
    span_1 : with_span (b0 ∷ []) F ≡ with_area b0 F
    unfolding with_span with_area
    span_1 = rw (append-nil F.con) refl

    span_2 : with_span (b0 ∷ b1 ∷ []) F ≡ with_con b1 (with_area b0 F)
    unfolding with_span with_area with_con
    span_2 = refl

    span_3 : with_span (b0 ∷ b1 ∷ b2 ∷ []) F ≡ with_con b2 (with_con b1 (with_area b0 F))
    unfolding with_span with_area with_con
    span_3 = simp append_assoc

    span_4 : with_span (b0 ∷ b1 ∷ b2 ∷ b3 ∷ []) F ≡ with_con b3 (with_con b2 (with_con b1 (with_area b0 F)))
    unfolding with_span with_area with_con
    span_4 = simp append_assoc

    span_5 : with_span (b0 ∷ b1 ∷ b2 ∷ b3 ∷ b4 ∷ []) F ≡ with_con b4 (with_con b3 (with_con b2 (with_con b1 (with_area b0 F))))
    unfolding with_span with_area with_con
    span_5 = simp append_assoc

  spans_more : (b0 b1 b2 b3 b4 : ℕ) (F : Field) → length F.area + 1 ≡ length (with_span (b0 ∷ b1 ∷ b2 ∷ b3 ∷ b4 ∷ []) F).area
  unfolding with_span
  spans_more b0 b1 b2 b3 b4 F = sym (length-append F.area (b0 ∷ []))

  cell_areas : (before c : ℕ) (F : Field) → length (with_cell before c F).area ≡ length F.area
  unfolding with_cell
  cell_areas before c F = refl

  con_more : (b : ℕ) (F : Field) (n : ℕ) → n ≡ length F.con → n + 1 ≡ length (with_con b F).con
  unfolding with_con
  con_more b F n e = rw (length-append F.con (b ∷ []), e) refl

  area_con : (b : ℕ) (F : Field) (n : ℕ) → n ≡ length F.con → n ≡ length (with_area b F).con
  unfolding with_area
  area_con b F n e = e

  -- a field so far, and what is still to come
  record Sound (F : Field) (cells due promised : ℕ) : Type 0 where
    wide : F.w ≡ w
    high : F.h ≡ h
    indices : length F.index + cells ≡ w * h
    counts : length F.count ≡ length F.index
    areas : length F.area + due ≡ promised
    few : promised ≤ N
    cons : length F.con ≡ 4 * length F.area

  sound_span : (F : Field) (cells due promised b0 b1 b2 b3 b4 : ℕ) → Sound F cells (suc due) promised → Sound (with_span (b0 ∷ b1 ∷ b2 ∷ b3 ∷ b4 ∷ []) F) cells due promised
  unfolding with_span
  sound_span F cells due promised b0 b1 b2 b3 b4 o = record {
    wide = o.wide;
    high = o.high;
    indices = o.indices;
    counts = o.counts;
    areas = let e = length-append F.area (b0 ∷ []) in let f = o.areas in omega arith;
    few = o.few;
    cons =
        let e = length-append F.area (b0 ∷ []) in
        let g = length-append F.con (b1 ∷ b2 ∷ b3 ∷ b4 ∷ []) in
        let f = o.cons in
        omega arith;
  }

  sound_cell : (F : Field) (cells promised c : ℕ) → Sound F (suc cells) 0 promised → promised + c ≤ N → Sound (with_cell promised c F) cells c (promised + c)
  unfolding with_cell
  sound_cell F cells promised c o n = record {
    wide = o.wide;
    high = o.high;
    indices = let e = length-append F.index (promised ∷ []) in let f = o.indices in omega arith;
    counts =
        let e = length-append F.index (promised ∷ []) in
        let g = length-append F.count (c ∷ []) in
        let f = o.counts in
        omega arith;
    areas = let f = o.areas in omega arith;
    few = n;
    cons = o.cons;
  }

  module _ (most : w * h ≤ M) (few_m : M ≤ 4294967295) (few_n : N ≤ 4294967295) (li : M ≤ length index₀) (lc : M ≤ length count₀) (la : N ≤ length area₀) (ln : 4 * N ≤ length con₀) where
    -- a span's bytes, where k bytes of its body have come
    module _ (start p due promised cells : ℕ) (F : Field) (o : Sound F cells (suc due) promised) where
      abbrev s : ℕ
      s = length F.area

      here : s < N
      here = let a = o.areas in let b = o.few in omega arith

      four : 4 * s + 3 < length con₀
      four = let a = here in omega arith

      -- the loader after one to five bytes
      first : (b0 : ℕ) → byte_in (stage 3 0 start (p + 1) s (suc due) F) b0 ≡ stage 3 1 start (p + 2) s (suc due) (with_area b0 F)
      first b0 = let e : (p + 1) + 1 ≡ p + 2 = omega arith in let i : s < length area₀ = (let a = here in omega arith) in rw e at (area_taken start (p + 1) s (suc due) b0 F refl i)

      module _ (b0 b1 b2 b3 b4 : ℕ) where
        n1 : 4 * s + 0 ≡ length (with_area b0 F).con
        n1 = area_con b0 F (4 * s + 0) (let f = o.cons in omega arith)

        n2 : 4 * s + 1 ≡ length (with_con b1 (with_area b0 F)).con
        n2 = let e = con_more b1 (with_area b0 F) (4 * s + 0) n1 in omega arith

        n3 : 4 * s + 2 ≡ length (with_con b2 (with_con b1 (with_area b0 F))).con
        n3 = let e = con_more b2 (with_con b1 (with_area b0 F)) (4 * s + 1) n2 in omega arith

        n4 : 4 * s + 3 ≡ length (with_con b3 (with_con b2 (with_con b1 (with_area b0 F)))).con
        n4 = let e = con_more b3 (with_con b2 (with_con b1 (with_area b0 F))) (4 * s + 2) n3 in omega arith

        second : byte_in (stage 3 1 start (p + 2) s (suc due) (with_area b0 F)) b1 ≡ stage 3 2 start (p + 3) s (suc due) (with_con b1 (with_area b0 F))
        second =
            let e : (p + 2) + 1 ≡ p + 3 = omega arith in
            rw e at (con_taken start (p + 2) s (suc due) b1 1 (with_area b0 F) (λ q. omega arith) (omega arith) n1 (let f = four in omega arith))

        third : byte_in (stage 3 2 start (p + 3) s (suc due) (with_con b1 (with_area b0 F))) b2 ≡ stage 3 3 start (p + 4) s (suc due) (with_con b2 (with_con b1 (with_area b0 F)))
        third =
            let e : (p + 3) + 1 ≡ p + 4 = omega arith in
            rw e at (con_taken start (p + 3) s (suc due) b2 2 (with_con b1 (with_area b0 F)) (λ q. omega arith) (omega arith) n2 (let f = four in omega arith))

        fourth : byte_in (stage 3 3 start (p + 4) s (suc due) (with_con b2 (with_con b1 (with_area b0 F)))) b3
            ≡ stage 3 4 start (p + 5) s (suc due) (with_con b3 (with_con b2 (with_con b1 (with_area b0 F))))
        fourth =
            let e : (p + 4) + 1 ≡ p + 5 = omega arith in
            rw e at (con_taken start (p + 4) s (suc due) b3 3 (with_con b2 (with_con b1 (with_area b0 F))) (λ q. omega arith) (omega arith) n3 (let f = four in omega arith))

        fifth : byte_in (stage 3 4 start (p + 5) s (suc due) (with_con b3 (with_con b2 (with_con b1 (with_area b0 F))))) b4
            ≡ stage 0 0 start (p + 6) (s + 1) due (with_con b4 (with_con b3 (with_con b2 (with_con b1 (with_area b0 F)))))
        fifth =
            let e : (p + 5) + 1 ≡ p + 6 = omega arith in
            rw e at (last_taken start (p + 5) s due b4 (with_con b3 (with_con b2 (with_con b1 (with_area b0 F)))) n4 four (let a = here in omega arith))

      -- "cut short" in the body, or the rest of the file after it
      body : (k : ℕ) (rest : List ℕ) → length rest ≤ k
          → ((rest' : List ℕ) (G : Field) → length rest' ≤ k → Sound G cells due promised
          → tell rest' (stage 0 0 start (p + 6) (length G.area) due G) ≡ tells (read_on_at N k (p + 6) cells due promised rest' G z))
          → tell rest (stage 3 0 start (p + 1) s (suc due) F)
          ≡ tells (when leb 5 (length rest) then read_on_at N k (p + 6) cells due promised (drop 5 rest) (with_span (take 5 rest) F) z else refused_at 20 (p + suc (length rest)) (with_span rest F))
      unfolding when◌then◌else◌
      body k [] l on = tell_cut 3 0 start (p + 1) s (suc due) F (λ q. omega arith) ∙ rw (span_0 F) refl
      body k (b0 ∷ []) l on =
          tell_step b0 [] _ _ _ (first b0) (tell_cut 3 1 start (p + 2) s (suc due) (with_area b0 F) (λ q. omega arith)) ∙ rw (span_1 b0 0 0 0 0 F) refl
      body k (b0 ∷ b1 ∷ []) l on =
          tell_step b0 (b1 ∷ []) _ _ _ (first b0)
          (tell_step b1 [] _ _ _ (second b0 b1 0 0 0) (tell_cut 3 2 start (p + 3) s (suc due) _ (λ q. omega arith)))
          ∙ rw (span_2 b0 b1 0 0 0 F) refl
      body k (b0 ∷ b1 ∷ b2 ∷ []) l on =
          tell_step b0 (b1 ∷ b2 ∷ []) _ _ _ (first b0)
          (tell_step b1 (b2 ∷ []) _ _ _ (second b0 b1 0 0 0)
          (tell_step b2 [] _ _ _ (third b0 b1 b2 0 0) (tell_cut 3 3 start (p + 4) s (suc due) _ (λ q. omega arith))))
          ∙ rw (span_3 b0 b1 b2 0 0 F) refl
      body k (b0 ∷ b1 ∷ b2 ∷ b3 ∷ []) l on =
          tell_step b0 (b1 ∷ b2 ∷ b3 ∷ []) _ _ _ (first b0)
          (tell_step b1 (b2 ∷ b3 ∷ []) _ _ _ (second b0 b1 0 0 0)
          (tell_step b2 (b3 ∷ []) _ _ _ (third b0 b1 b2 0 0)
          (tell_step b3 [] _ _ _ (fourth b0 b1 b2 b3 0) (tell_cut 3 4 start (p + 5) s (suc due) _ (λ q. omega arith)))))
          ∙ rw (span_4 b0 b1 b2 b3 0 F) refl
      body k (b0 ∷ b1 ∷ b2 ∷ b3 ∷ b4 ∷ rest) l on =
          let G = with_span (b0 ∷ b1 ∷ b2 ∷ b3 ∷ b4 ∷ []) F in
          let e : s + 1 ≡ length G.area = spans_more b0 b1 b2 b3 b4 F in
          let there : leb 5 (length (b0 ∷ b1 ∷ b2 ∷ b3 ∷ b4 ∷ rest)) ≡ true = le-leb 5 (length (b0 ∷ b1 ∷ b2 ∷ b3 ∷ b4 ∷ rest)) (omega arith) in
          rw there
          (tell_step b0 (b1 ∷ b2 ∷ b3 ∷ b4 ∷ rest) _ _ _ (first b0)
          (tell_step b1 (b2 ∷ b3 ∷ b4 ∷ rest) _ _ _ (second b0 b1 0 0 0)
          (tell_step b2 (b3 ∷ b4 ∷ rest) _ _ _ (third b0 b1 b2 0 0)
          (tell_step b3 (b4 ∷ rest) _ _ _ (fourth b0 b1 b2 b3 0)
          (tell_step b4 rest _ _ _ (fifth b0 b1 b2 b3 b4)
          (rw (← span_5 b0 b1 b2 b3 b4 F, e) (on rest G (omega arith) (sound_span F cells due promised b0 b1 b2 b3 b4 o))))))))

    -- a cell's count, or cut short before it
    count : (k p cells promised : ℕ) (F : Field) (o : Sound F (suc cells) 0 promised) (rest : List ℕ)
        → ((c : ℕ) (rest' : List ℕ) → length rest' ≤ k → Sound (with_cell promised c F) cells c (promised + c)
        → tell rest' (stage 0 0 (capped p) (p + 2) (length (with_cell promised c F).area) c (with_cell promised c F))
        ≡ tells (read_on_at N k (p + 2) cells c (promised + c) rest' (with_cell promised c F) z))
        → length rest ≤ k
        → tell rest (stage 2 0 (capped p) (p + 1) (length F.area) 0 F)
        ≡ tells (when leb 1 (length rest) then (when ltb N (promised + get_or rest 0 0) then refused_at 21 p F
        else read_on_at N k (p + 2) cells (get_or rest 0 0) (promised + get_or rest 0 0) (drop 1 rest) (with_cell promised (get_or rest 0 0) F) z)
        else refused_at 20 (p + suc (length rest)) F)
    unfolding when◌then◌else◌
    count k p cells promised F o [] on l = tell_cut 2 0 (capped p) (p + 1) (length F.area) 0 F (λ q. omega arith)
    count k p cells promised F o (c ∷ rest) on l =
        let a : length F.area ≡ promised = (let f = o.areas in omega arith) in
        let b : length (with_cell promised c F).area ≡ promised = cell_areas promised c F ∙ a in
        let there : leb 1 (length (c ∷ rest)) ≡ true = le-leb 1 (length (c ∷ rest)) (omega arith) in
        elim (dec_lt N (promised + c)) [
          | yes n ↦ rw (there, lt-ltb N (promised + c) n, a) (cell_refused (capped p) (p + 1) promised c p F rest n refl)
          | no n ↦
              let m : promised + c ≤ N = omega arith in
              let i : length F.index < w * h = (let f = o.indices in omega arith) in
              let q : (p + 1) + 1 ≡ p + 2 = omega arith in
              let f = o.counts in
              let x = rw q at (cell-taken (capped p) (p + 1) promised c F m (omega arith) o.counts (omega arith) (omega arith)) in
              rw (there, le-ltb N (promised + c) m, a) (tell_step c rest _ _ _ x (rw b at (on c rest (omega arith) (sound_cell F cells promised c o m))))
        ]

    -- the end record is read
    last : (p : ℕ) (F : Field) → F.w ≡ w → F.h ≡ h → (rest : List ℕ) → tell rest (stage 4 0 (capped p) (p + 1) (length F.area) 0 F)
        ≡ tells (when eqb (length rest) 0 then describes (record { field = F; sizes = z }) else refused_at 20 (p + 1) F)
    unfolding when◌then◌else◌
    last p F e f [] = end-told (capped p) (p + 1) F e f
    last p F e f (b ∷ rest) = rw (ne_eqb (length (b ∷ rest)) 0 (λ q. omega arith)) (end_more (capped p) (p + 1) (length F.area) b F rest)

    -- from a stage between two records, the rest of the file
    loads_on : (k p start cells due promised : ℕ) (bytes : List ℕ) (F : Field) → length bytes ≤ k → 1 ≤ p → Sound F cells due promised
        → tell bytes (stage 0 0 start p (length F.area) due F) ≡ tells (read_on_at N k p cells due promised bytes F z)
    unfolding read_on_at when◌then◌else◌
    loads_on zero p start cells due promised [] F l g o = tell_cut 0 0 start p (length F.area) due F (λ q. omega arith)
    loads_on zero p start cells due promised (kind ∷ rest) F l g o = absurd (omega arith)
    loads_on (suc k) p start cells due promised [] F l g o = tell_cut 0 0 start p (length F.area) due F (λ q. omega arith)
    loads_on (suc k) p start cells (suc due) promised (kind ∷ rest) F l g o =
        let v = wants_span start p (length F.area) due F g in
        elim (ℕ_discrete kind 3) [
          | yes e ↦
              let t : eqb kind 3 ≡ true = eq-eqb kind 3 e in
              rw (t, e)
              (tell_step 3 rest _ _ _ (kind_here start p (length F.area) (suc due) 3 F v)
              (body (capped p) p due promised cells F o k rest (omega arith)
              (λ rest' G m q. loads_on k (p + 6) (capped p) cells due promised rest' G m (omega arith) q)))
          | no n ↦ rw (ne_eqb kind 3 n) (kind_other start p (length F.area) (suc due) kind 3 F v n rest)
        ]
    loads_on (suc k) p start (suc cells) zero promised (kind ∷ rest) F l g o =
        let i : length F.index < w * h = (let a = o.indices in omega arith) in
        let v = wants_cell start p (length F.area) F g i in
        elim (ℕ_discrete kind 2) [
          | yes e ↦
              let t : eqb kind 2 ≡ true = eq-eqb kind 2 e in
              rw (t, e)
              (tell_step 2 rest _ _ _ (kind_here start p (length F.area) 0 2 F v)
              (count k p cells promised F o rest (λ c rest' m q. loads_on k (p + 2) (capped p) cells c (promised + c) rest' (with_cell promised c F) m (omega arith) q) (omega arith)))
          | no n ↦ rw (ne_eqb kind 2 n) (kind_other start p (length F.area) 0 kind 2 F v n rest)
        ]
    loads_on (suc k) p start zero zero promised (kind ∷ rest) F l g o =
        let i : w * h ≤ length F.index = (let a = o.indices in omega arith) in
        let v = wants_end start p (length F.area) F g i in
        elim (ℕ_discrete kind 4) [
          | yes e ↦
              let t : eqb kind 4 ≡ true = eq-eqb kind 4 e in
              rw (t, e) (tell_step 4 rest _ _ _ (kind_here start p (length F.area) 0 4 F v) (last p F o.wide o.high rest))
          | no n ↦ rw (ne_eqb kind 4 n) (kind_other start p (length F.area) 0 kind 4 F v n rest)
        ]

-- ---------------------------------------------------------------- the header

module _ (M N : ℕ) (index₀ count₀ area₀ con₀ : List ℕ) where
  -- under way in the header, with so many bytes of its body
  unfoldable head : ℕ → ℕ → ℕ → ℕ → ℕ → ℕ → ℕ → Loading
  head got p w h b l m = record {
    loader = record {
      most_cells = M;
      most_spans = N;
      kind = 1;
      got = got;
      start = 0;
      received = p;
      w = w;
      h = h;
      border = b;
      least = l;
      merge = m;
      cells = 0;
      spans = 0;
      due = 0;
      refusal = 0;
      position = 0;
      ended = 0;
    };
    index = index₀;
    count = count₀;
    area = area₀;
    con = con₀;
  }

  abbrev begun : Loading
  begun = record { loader = load_begin M N; index = index₀; count = count₀; area = area₀; con = con₀ }

  -- nothing is in the lists yet
  abbrev nothing : ℕ → ℕ → Told
  nothing n p = refused_told n p index₀ count₀ area₀ con₀

  head_cut : (got p w h b l m : ℕ) → tell [] (head got p w h b l m) ≡ nothing 20 p
  unfolding tell feed head load_end going refusing with told when◌then◌else◌ ◌and◌
  head_cut got p w h b l m = refl

  head_step : (got p w h b l m x : ℕ) → got < 9 → p < 4294967295
      → byte_in (head got p w h b l m) x
      ≡ head (got + 1) (p + 1) (number_with 0 got w x) (number_with 2 got h x) (number_with 4 got b x) (number_with 6 got l x) (number_with 8 got m x)
  unfolding byte_in taken going head header_byte sized onward with when◌then◌else◌ ◌and◌
  head_step got p w h b l m x g n = rw (lt-ltb got 9 g, up_small p n) refl

  head-over : (w h b l m x : ℕ) → M < w * h → byte_in (head 9 10 w h b l m) x ≡ with (head 9 10 w h b l (number_with 8 9 m x)) (refusing 21 0 (head 9 10 w h b l (number_with 8 9 m x)).loader)
  unfolding byte_in taken going head header_byte sized headed number_with with when◌then◌else◌ ◌and◌
  head-over w h b l m x n = rw (lt-ltb M (w * h) n) refl

  head_read : (w h b l m x : ℕ) → w * h ≤ M
      → byte_in (head 9 10 w h b l m) x ≡ stage M N index₀ count₀ area₀ con₀ w h (record { border = b; least = l; merge = number_with 8 9 m x }) 0 0 0 11 0 0 (empty_field w h)
  unfolding byte_in taken going head header_byte sized headed number_with onward up stage empty_field over capped with when◌then◌else◌ ◌and◌
  head_read w h b l m x n = rw (le-ltb M (w * h) n) refl

  first_kind : byte_in begun 1 ≡ head 0 1 0 0 0 0 0
  unfolding byte_in taken going load_begin head kind_byte wanted onward up with when◌then◌else◌ ◌and◌
  first_kind = refl

  first_wants : wanted (load_begin M N) ≡ 1
  unfolding wanted load_begin when◌then◌else◌
  first_wants = refl

  first_goes : going (load_begin M N) ≡ true
  unfolding going load_begin ◌and◌
  first_goes = refl

  first-other : (kind : ℕ) (rest : List ℕ) → (kind ≡ 1 → ⊥) → tell (kind ∷ rest) begun ≡ nothing 20 0
  unfolding load_begin
  first-other kind rest n = tell_next kind rest begun ∙ ap (tell rest) (refuses begun kind (λ q. n (q ∙ first_wants)) first_goes refl) ∙ tell_refused rest begun 20 0 (λ q. omega arith)

  -- a header cut short
  head_short : (rest : List ℕ) (got p w h b l m : ℕ) → got + length rest < 10 → p + length rest < 4294967295 → tell rest (head got p w h b l m) ≡ nothing 20 (p + length rest)
  head_short [] got p w h b l m g n = let e : p + 0 ≡ p = omega arith in rw e (head_cut got p w h b l m)
  head_short (x ∷ rest) got p w h b l m g n =
      let e : (p + 1) + length rest ≡ p + suc (length rest) = omega arith in
      tell_step x rest _ _ _ (head_step got p w h b l m x (omega arith) (omega arith)) (head_short rest (got + 1) (p + 1) _ _ _ _ _ (omega arith) (omega arith)) ∙ ap (nothing 20) e

  -- nine bytes of the header's body
  nine : (b0 b1 b2 b3 b4 b5 b6 b7 b8 : ℕ) (rest : List ℕ) → b0 < 256 → b2 < 256 → b4 < 256 → b6 < 256
      → tell (b0 ∷ b1 ∷ b2 ∷ b3 ∷ b4 ∷ b5 ∷ b6 ∷ b7 ∷ b8 ∷ rest) (head 0 1 0 0 0 0 0) ≡ tell rest (head 9 10 (b0 + 256 * b1) (b2 + 256 * b3) (b4 + 256 * b5) (b6 + 256 * b7) b8)
  unfolding number_with when◌then◌else◌
  nine b0 b1 b2 b3 b4 b5 b6 b7 b8 rest g0 g2 g4 g6 =
      tell_next b0 _ _ ∙ ap (tell _) (head_step 0 1 0 0 0 0 0 b0 (omega arith) (omega arith))
      ∙ tell_next b1 _ _ ∙ ap (tell _) (head_step 1 2 b0 0 0 0 0 b1 (omega arith) (omega arith) ∙ rw (mod-eq_of_lt g0) refl)
      ∙ tell_next b2 _ _ ∙ ap (tell _) (head_step 2 3 (b0 + 256 * b1) 0 0 0 0 b2 (omega arith) (omega arith))
      ∙ tell_next b3 _ _ ∙ ap (tell _) (head_step 3 4 (b0 + 256 * b1) b2 0 0 0 b3 (omega arith) (omega arith) ∙ rw (mod-eq_of_lt g2) refl)
      ∙ tell_next b4 _ _ ∙ ap (tell _) (head_step 4 5 (b0 + 256 * b1) (b2 + 256 * b3) 0 0 0 b4 (omega arith) (omega arith))
      ∙ tell_next b5 _ _ ∙ ap (tell _) (head_step 5 6 (b0 + 256 * b1) (b2 + 256 * b3) b4 0 0 b5 (omega arith) (omega arith) ∙ rw (mod-eq_of_lt g4) refl)
      ∙ tell_next b6 _ _ ∙ ap (tell _) (head_step 6 7 (b0 + 256 * b1) (b2 + 256 * b3) (b4 + 256 * b5) 0 0 b6 (omega arith) (omega arith))
      ∙ tell_next b7 _ _ ∙ ap (tell _) (head_step 7 8 (b0 + 256 * b1) (b2 + 256 * b3) (b4 + 256 * b5) b6 0 b7 (omega arith) (omega arith) ∙ rw (mod-eq_of_lt g6) refl)
      ∙ tell_next b8 _ _ ∙ ap (tell _) (head_step 8 9 (b0 + 256 * b1) (b2 + 256 * b3) (b4 + 256 * b5) (b6 + 256 * b7) 0 b8 (omega arith) (omega arith))

  sound_first : (w h : ℕ) (z : Sizes) → Sound M N index₀ count₀ area₀ con₀ w h z (empty_field w h) (w * h) 0 0
  unfolding empty_field
  sound_first w h z = record { wide = refl; high = refl; indices = omega arith; counts = refl; areas = refl; few = omega arith; cons = refl }

  -- "over .. cells (at the header)": refused at its kind byte
  tenth_over : (w h b l m x : ℕ) (rest : List ℕ) → M < w * h → tell (x ∷ rest) (head 9 10 w h b l m) ≡ nothing 21 0
  unfolding head
  tenth_over w h b l m x rest n =
      tell_next x rest (head 9 10 w h b l m) ∙ ap (tell rest) (head-over w h b l m x n) ∙ tell_refused rest (head 9 10 w h b l (number_with 8 9 m x)) 21 0 (λ q. omega arith)

  module _ (few_m : M ≤ 4294967295) (few_n : N ≤ 4294967295) (li : M ≤ length index₀) (lc : M ≤ length count₀) (la : N ≤ length area₀) (ln : 4 * N ≤ length con₀) where
    abbrev tells₀ : Placed → Told
    tells₀ = told_by index₀ count₀ area₀ con₀

    -- what the rule makes of a header's body and the rest
    abbrev rule : List ℕ → Placed
    rule rest =
        when leb 10 (length rest) then
        (when ltb M (word rest 0 * word rest 2) then refused_at 21 0 (empty_field 0 0)
        else read_on_at N (length rest) 11 (word rest 0 * word rest 2) 0 0 (drop 10 rest) (empty_field (word rest 0) (word rest 2)) (record { border = word rest 4; least = word rest 6; merge = word rest 8 }))
        else refused_at 20 (suc (length rest)) (empty_field 0 0)

    short : (rest : List ℕ) → length rest < 10 → tell rest (head 0 1 0 0 0 0 0) ≡ tells₀ (rule rest)
    unfolding told_by over empty_field capped when◌then◌else◌
    short rest g =
        let e : 1 + length rest ≡ suc (length rest) = omega arith in
        rw (lt-leb 10 (length rest) g, lt-ltb (suc (length rest)) 4294967295 (omega arith)) (rw e at (head_short rest 0 1 0 0 0 0 0 (omega arith) (omega arith)))

    nothing-first : nothing 20 0 ≡ tells₀ (refused_at 20 0 (empty_field 0 0))
    unfolding told_by over empty_field capped when◌then◌else◌
    nothing-first = refl

    empty_file : tell [] begun ≡ tells₀ (refused_at 20 0 (empty_field 0 0))
    unfolding tell feed load_begin load_end going refusing with told told_by over empty_field capped when◌then◌else◌ ◌and◌
    empty_file = refl

    merged : (w h b l x y : ℕ) → x < 256
        → stage M N index₀ count₀ area₀ con₀ w h (record { border = b; least = l; merge = number_with 8 9 x y }) 0 0 0 11 0 0 (empty_field w h)
        ≡ stage M N index₀ count₀ area₀ con₀ w h (record { border = b; least = l; merge = x + 256 * y }) 0 0 0 11 0 0 (empty_field w h)
    unfolding number_with when◌then◌else◌
    merged w h b l x y g = rw (mod-eq_of_lt g) refl

    nothing-over : tells₀ (refused_at 21 0 (empty_field 0 0)) ≡ nothing 21 0
    unfolding told_by over empty_field capped when◌then◌else◌
    nothing-over = refl

    header : (rest : List ℕ) → ((i : ℕ) → get_or rest i 0 < 256) → tell rest (head 0 1 0 0 0 0 0) ≡ tells₀ (rule rest)
    unfolding word empty_field when◌then◌else◌
    header [] g = short [] (omega arith)
    header (b0 ∷ []) g = short (b0 ∷ []) (omega arith)
    header (b0 ∷ b1 ∷ []) g = short (b0 ∷ b1 ∷ []) (omega arith)
    header (b0 ∷ b1 ∷ b2 ∷ []) g = short (b0 ∷ b1 ∷ b2 ∷ []) (omega arith)
    header (b0 ∷ b1 ∷ b2 ∷ b3 ∷ []) g = short (b0 ∷ b1 ∷ b2 ∷ b3 ∷ []) (omega arith)
    header (b0 ∷ b1 ∷ b2 ∷ b3 ∷ b4 ∷ []) g = short (b0 ∷ b1 ∷ b2 ∷ b3 ∷ b4 ∷ []) (omega arith)
    header (b0 ∷ b1 ∷ b2 ∷ b3 ∷ b4 ∷ b5 ∷ []) g = short (b0 ∷ b1 ∷ b2 ∷ b3 ∷ b4 ∷ b5 ∷ []) (omega arith)
    header (b0 ∷ b1 ∷ b2 ∷ b3 ∷ b4 ∷ b5 ∷ b6 ∷ []) g = short (b0 ∷ b1 ∷ b2 ∷ b3 ∷ b4 ∷ b5 ∷ b6 ∷ []) (omega arith)
    header (b0 ∷ b1 ∷ b2 ∷ b3 ∷ b4 ∷ b5 ∷ b6 ∷ b7 ∷ []) g = short (b0 ∷ b1 ∷ b2 ∷ b3 ∷ b4 ∷ b5 ∷ b6 ∷ b7 ∷ []) (omega arith)
    header (b0 ∷ b1 ∷ b2 ∷ b3 ∷ b4 ∷ b5 ∷ b6 ∷ b7 ∷ b8 ∷ []) g = short (b0 ∷ b1 ∷ b2 ∷ b3 ∷ b4 ∷ b5 ∷ b6 ∷ b7 ∷ b8 ∷ []) (omega arith)
    header (b0 ∷ b1 ∷ b2 ∷ b3 ∷ b4 ∷ b5 ∷ b6 ∷ b7 ∷ b8 ∷ b9 ∷ rest) g =
        let w = b0 + 256 * b1 in
        let h = b2 + 256 * b3 in
        let there : leb 10 (length (b0 ∷ b1 ∷ b2 ∷ b3 ∷ b4 ∷ b5 ∷ b6 ∷ b7 ∷ b8 ∷ b9 ∷ rest)) ≡ true = le-leb 10 (length (b0 ∷ b1 ∷ b2 ∷ b3 ∷ b4 ∷ b5 ∷ b6 ∷ b7 ∷ b8 ∷ b9 ∷ rest)) (omega arith) in
        nine b0 b1 b2 b3 b4 b5 b6 b7 b8 (b9 ∷ rest) (g 0) (g 2) (g 4) (g 6)
        ∙ elim (dec_lt M (w * h)) [
          | yes n ↦ rw (there, lt-ltb M (w * h) n) (tenth_over w h (b4 + 256 * b5) (b6 + 256 * b7) b8 b9 rest n ∙ sym nothing-over)
          | no n ↦
              let m : w * h ≤ M = omega arith in
              let z : Sizes = record { border = b4 + 256 * b5; least = b6 + 256 * b7; merge = b8 + 256 * b9 } in
              rw (there, le-ltb M (w * h) m)
              (tell_step b9 rest _ _ _ (head_read w h (b4 + 256 * b5) (b6 + 256 * b7) b8 b9 m ∙ merged w h (b4 + 256 * b5) (b6 + 256 * b7) b8 b9 (g 8))
              (loads_on M N index₀ count₀ area₀ con₀ w h z m few_m few_n li lc la ln (length (b0 ∷ b1 ∷ b2 ∷ b3 ∷ b4 ∷ b5 ∷ b6 ∷ b7 ∷ b8 ∷ b9 ∷ rest)) 11 0 (w * h) 0 0 rest (empty_field w h) (omega arith) (omega arith) (sound_first w h z)))
        ]

    -- the loader, given a whole file and its end, tells what `read_file_at` says
    pub loader_tells : (file : List ℕ) → ((i : ℕ) → get_or file i 0 < 256) → tell file begun ≡ tells₀ (read_file_at M N file)
    unfolding read_file_at when◌then◌else◌
    loader_tells [] g = empty_file
    loader_tells (kind ∷ rest) g =
        elim (ℕ_discrete kind 1) [
          | yes e ↦ rw (eq-eqb kind 1 e, e) (tell_step 1 rest _ _ _ first_kind (header rest (λ i. g (suc i))))
          | no n ↦ rw (ne_eqb kind 1 n) (first-other kind rest n ∙ nothing-first)
        ]

    -- ---------------------------------------------------------------- in pieces

    first_room : piece_refusal begun ≡ 0
    unfolding piece_refusal going roomy load_begin when◌then◌else◌ ◌and◌
    first_room = rw (le-leb M (length index₀) li, le-leb M (length count₀) lc, le-leb N (length area₀) la, le-leb (4 * N) (length con₀) ln) refl

    -- "However it is cut, the field, the refusal and the byte position of the refusal are those of the whole file."
    pub pieces_tell : (ps : List (List ℕ)) → ((i : ℕ) → get_or (joined ps) i 0 < 256) → tell [] (in_pieces ps begun) ≡ tells₀ (read_file_at M N (joined ps))
    pieces_tell ps g = ap (tell []) (any_pieces ps begun ∙ loads (joined ps) begun first_room) ∙ tell_fed (joined ps) begun ∙ loader_tells (joined ps) g
