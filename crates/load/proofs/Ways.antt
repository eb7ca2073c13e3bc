-- The ways through the loader's functions, as the code has them: each law is one way out, over the tests that led there.
-- Assumes nothing.
use Prim.Native.Nat.{ℕ, ◌+◌, ◌-◌, ◌*◌, ◌%◌, ◌≤◌, ◌<◌}
use native.Mathlib.Omega.{arith}
use native.Mathlib.Decide.{dec_lt}
use Rattle.std.specs.Prelude.{min, ◌^◌}
use Rattle.std.proofs.Math.Nat.{min-eq_left, min-eq_right}
use native.Mathlib.Numerals.{add-one}
use mathlib.Core.Path.{◌≡◌, refl, sym, ◌∙◌}
use mathlib.Core.Bool.{Bool, true, false}
use mathlib.Core.List.{List}
use lib.ListN.{length, get_or, set, drop, drop_of_length-le}
use lib.Seq.{drop-cons}
use borrow.Author.Tests.{lt-ltb, le-ltb, eq-eqb, ne_eqb}
use Rattle.rules.specs.Base.{when◌then◌else◌}
use Rattle.rules.specs.Load.{Loader, Loading, going, up, refusing, onward, counted, wanted, kind_byte, number_with, sized, headed, header_byte, cell_on, cell_byte, span_on, span_byte}
use Rattle.rules.specs.Load.{with, taken, byte_in, feed, closed, load_end, roomy, piece_refusal, load_piece}
use Rattle.load.specs.Numbers.{ended_by}

-- ---------------------------------------------------------------- numbers

pub saturates : (n r : ℕ) → n ≤ 4294967295 → r ≡ min (n + 1) (2 ^ 32 - 1) → r ≡ up n
unfolding up when◌then◌else◌
saturates n r b e = elim (dec_lt n 4294967295) [
  | yes h ↦ let p : n + 1 ≤ 4294967295 = omega arith in rw (lt-ltb n 4294967295 h) (e ∙ min-eq_left p)
  | no h ↦ let p : 4294967295 ≤ n + 1 = omega arith in rw (le-ltb n 4294967295 (omega arith)) (e ∙ min-eq_right p ∙ omega arith)
]

pub number_low : (i got old b : ℕ) → got ≡ i → b ≡ number_with i got old b
unfolding number_with when◌then◌else◌
number_low i got old b e = rw (eq-eqb got i e)

pub number_high : (i got old b : ℕ) → (got ≡ i → ⊥) → got ≡ i + 1 → old % 256 + 256 * b ≡ number_with i got old b
unfolding number_with when◌then◌else◌
number_high i got old b n e = rw (ne_eqb got i n, eq-eqb got (i + 1) e)

pub number_other : (i got old b : ℕ) → (got ≡ i → ⊥) → (got ≡ i + 1 → ⊥) → old ≡ number_with i got old b
unfolding number_with when◌then◌else◌
number_other i got old b n m = rw (ne_eqb got i n, ne_eqb got (i + 1) m)

-- ---------------------------------------------------------------- kinds

module _ (l : Loader) where
  pub wants_header : l.received ≡ 0 → 1 ≡ wanted l
  unfolding wanted when◌then◌else◌
  wants_header e = rw (eq-eqb l.received 0 e)

  module _ (n : l.received ≡ 0 → ⊥) where
    pub wants_span : 0 < l.due → 3 ≡ wanted l
    unfolding wanted when◌then◌else◌
    wants_span d = rw (ne_eqb l.received 0 n, lt-ltb 0 l.due d)

    pub wants_cell : l.due ≤ 0 → (p : ℕ) → p ≡ l.w * l.h → l.cells < p → 2 ≡ wanted l
    unfolding wanted when◌then◌else◌
    wants_cell d p e h = rw (ne_eqb l.received 0 n, le-ltb 0 l.due d, lt-ltb l.cells (l.w * l.h) (omega arith))

    pub wants_end : l.due ≤ 0 → (p : ℕ) → p ≡ l.w * l.h → p ≤ l.cells → 4 ≡ wanted l
    unfolding wanted when◌then◌else◌
    wants_end d p e h = rw (ne_eqb l.received 0 n, le-ltb 0 l.due d, le-ltb l.cells (l.w * l.h) (omega arith))

  pub kind_right : (r : Loader) (b v : ℕ) → v ≡ wanted l → b ≡ v → r ≡ onward b l.received 0 l → r ≡ kind_byte l b
  unfolding kind_byte when◌then◌else◌
  kind_right r b v e h g = rw (eq-eqb b (wanted l) (h ∙ e)) g

  pub kind_wrong : (r : Loader) (b v : ℕ) → v ≡ wanted l → (b ≡ v → ⊥) → r ≡ refusing 20 l.received l → r ≡ kind_byte l b
  unfolding kind_byte when◌then◌else◌
  kind_wrong r b v e h g = rw (ne_eqb b (wanted l) (λ q. h (q ∙ sym e))) g

  -- ---------------------------------------------------------------- the header

  pub headed-over : (r : Loader) (p : ℕ) → p ≡ l.w * l.h → l.most_cells < p → r ≡ refusing 21 l.start l → r ≡ headed l
  unfolding headed when◌then◌else◌
  headed-over r p e h g = rw (lt-ltb l.most_cells (l.w * l.h) (omega arith)) g

  pub headed_fits : (r : Loader) (p : ℕ) → p ≡ l.w * l.h → p ≤ l.most_cells → r ≡ onward 0 l.start 0 l → r ≡ headed l
  unfolding headed when◌then◌else◌
  headed_fits r p e h g = rw (le-ltb l.most_cells (l.w * l.h) (omega arith)) g

  pub header_on : (m r : Loader) (b : ℕ) → m ≡ sized l b → l.got < 9 → r ≡ onward 1 l.start (l.got + 1) m → r ≡ header_byte l b
  unfolding header_byte when◌then◌else◌
  header_on m r b e h g = rw (lt-ltb l.got 9 h, ← e) g

  pub header-last : (m r : Loader) (b : ℕ) → m ≡ sized l b → 9 ≤ l.got → r ≡ headed m → r ≡ header_byte l b
  unfolding header_byte when◌then◌else◌
  header-last m r b e h g = rw (le-ltb l.got 9 h, ← e) g

  -- ---------------------------------------------------------------- a cell, a span

  pub cell-over : (r : Loader) (b : ℕ) (index count : List ℕ) → l.most_spans < l.spans + b → r ≡ refusing 21 l.start l → (area con : List ℕ)
      → record { loader = r; index = index; count = count; area = area; con = con } ≡ cell_byte (record { loader = l; index = index; count = count; area = area; con = con }) b
  unfolding cell_byte when◌then◌else◌
  cell-over r b index count h g area con = rw (lt-ltb l.most_spans (l.spans + b) h, g) refl

  pub cell-counted : (r m : Loader) (b u : ℕ) → u ≡ up l.cells → m ≡ counted u l.spans b l → r ≡ onward 0 l.start 0 m → r ≡ cell_on l b
  unfolding cell_on
  cell-counted r m b u e f g = rw (← e, ← f) g

  pub cell_fits : (r : Loader) (b : ℕ) (index count index' count' : List ℕ) → l.spans + b ≤ l.most_spans → index' ≡ set index l.cells l.spans → count' ≡ set count l.cells b
      → r ≡ cell_on l b → (area con : List ℕ)
      → record { loader = r; index = index'; count = count'; area = area; con = con } ≡ cell_byte (record { loader = l; index = index; count = count; area = area; con = con }) b
  unfolding cell_byte when◌then◌else◌
  cell_fits r b index count index' count' h i k g area con = rw (le-ltb l.most_spans (l.spans + b) h, i, k, g) refl

  pub span_more : (r : Loader) → l.got < 4 → r ≡ onward 3 l.start (l.got + 1) l → r ≡ span_on l
  unfolding span_on when◌then◌else◌
  span_more r h g = rw (lt-ltb l.got 4 h) g

  pub span_last : (r m : Loader) (u d : ℕ) → 4 ≤ l.got → u ≡ up l.spans → d ≡ l.due - 1 → m ≡ counted l.cells u d l → r ≡ onward 0 l.start 0 m → r ≡ span_on l
  unfolding span_on when◌then◌else◌
  span_last r m u d h e f k g = rw (le-ltb l.got 4 h, ← e, ← f, ← k) g

  pub span_area : (r : Loader) (b : ℕ) (area con area' con' : List ℕ) → l.got ≡ 0 → r ≡ span_on l → area' ≡ set area l.spans b → con' ≡ con → (index count : List ℕ)
      → record { loader = r; index = index; count = count; area = area'; con = con' } ≡ span_byte (record { loader = l; index = index; count = count; area = area; con = con }) b
  unfolding span_byte when◌then◌else◌
  span_area r b area con area' con' e g a k index count = rw (eq-eqb l.got 0 e, g, a, k) refl

  pub span_con : (r : Loader) (b : ℕ) (area con area' con' : List ℕ) → (l.got ≡ 0 → ⊥) → r ≡ span_on l → area' ≡ area → con' ≡ set con (4 * l.spans + (l.got - 1)) b → (index count : List ℕ)
      → record { loader = r; index = index; count = count; area = area'; con = con' } ≡ span_byte (record { loader = l; index = index; count = count; area = area; con = con }) b
  unfolding span_byte when◌then◌else◌
  span_con r b area con area' con' n g k a index count = rw (ne_eqb l.got 0 n, g, a, k) refl

  -- ---------------------------------------------------------------- the end

  pub end_read : (r : Loader) → l.kind ≡ 4 → r ≡ closed l → r ≡ ended_by l
  unfolding ended_by when◌then◌else◌
  end_read r e g = rw (eq-eqb l.kind 4 e) g

  pub end_cut : (r : Loader) → (l.kind ≡ 4 → ⊥) → r ≡ refusing 20 l.received l → r ≡ ended_by l
  unfolding ended_by when◌then◌else◌
  end_cut r n g = rw (ne_eqb l.kind 4 n) g

  pub end-going : (r : Loader) (g : Bool) → g ≡ going l → g ≡ true → r ≡ ended_by l → r ≡ load_end l
  unfolding load_end ended_by when◌then◌else◌
  end-going r g e h q = rw (sym e ∙ h) q

  pub end-over : (g : Bool) → g ≡ going l → g ≡ false → l ≡ load_end l
  unfolding load_end when◌then◌else◌
  end-over g e h = rw (sym e ∙ h)

-- ---------------------------------------------------------------- a byte

module _ (l : Loader) (index count area con : List ℕ) (b : ℕ) where
  abbrev x : Loading
  x = record { loader = l; index = index; count = count; area = area; con = con }

  abbrev left : Loader → Loading
  left r = record { loader = r; index = index; count = count; area = area; con = con }

  pub taken_kind : (r : Loader) → l.kind ≡ 0 → r ≡ kind_byte l b → left r ≡ taken x b
  unfolding taken with when◌then◌else◌
  taken_kind r e g = rw (eq-eqb l.kind 0 e, g) refl

  pub taken-header : (r : Loader) → (l.kind ≡ 0 → ⊥) → l.kind ≡ 1 → r ≡ header_byte l b → left r ≡ taken x b
  unfolding taken with when◌then◌else◌
  taken-header r n e g = rw (ne_eqb l.kind 0 n, eq-eqb l.kind 1 e, g) refl

  pub taken-cell : (y : Loading) → (l.kind ≡ 0 → ⊥) → (l.kind ≡ 1 → ⊥) → l.kind ≡ 2 → y ≡ cell_byte x b → y ≡ taken x b
  unfolding taken when◌then◌else◌
  taken-cell y n m e g = rw (ne_eqb l.kind 0 n, ne_eqb l.kind 1 m, eq-eqb l.kind 2 e) g

  pub taken-span : (y : Loading) → (l.kind ≡ 0 → ⊥) → (l.kind ≡ 1 → ⊥) → (l.kind ≡ 2 → ⊥) → l.kind ≡ 3 → y ≡ span_byte x b → y ≡ taken x b
  unfolding taken when◌then◌else◌
  taken-span y n m o e g = rw (ne_eqb l.kind 0 n, ne_eqb l.kind 1 m, ne_eqb l.kind 2 o, eq-eqb l.kind 3 e) g

  pub taken-after : (r : Loader) → (l.kind ≡ 0 → ⊥) → (l.kind ≡ 1 → ⊥) → (l.kind ≡ 2 → ⊥) → (l.kind ≡ 3 → ⊥) → r ≡ refusing 20 l.received l → left r ≡ taken x b
  unfolding taken with when◌then◌else◌
  taken-after r n m o q g = rw (ne_eqb l.kind 0 n, ne_eqb l.kind 1 m, ne_eqb l.kind 2 o, ne_eqb l.kind 3 q, g) refl

  pub byte_going : (y : Loading) (g : Bool) → g ≡ going l → g ≡ true → y ≡ taken x b → y ≡ byte_in x b
  unfolding byte_in when◌then◌else◌
  byte_going y g e h q = rw (sym e ∙ h) q

  pub byte_over : (g : Bool) → g ≡ going l → g ≡ false → x ≡ byte_in x b
  unfolding byte_in when◌then◌else◌
  byte_over g e h = rw (sym e ∙ h)

-- ---------------------------------------------------------------- a piece

-- one byte more
pub feed_next : (piece : List ℕ) (i : ℕ) (x y z : Loading) → i < length piece → z ≡ feed (drop i piece) x → y ≡ byte_in x (get_or piece i 0) → z ≡ feed (drop (i + 1) piece) y
unfolding feed
feed_next piece i x y z h e g = e ∙ rw (drop-cons piece i 0 h, add-one i, g)

pub feed_done : (piece : List ℕ) (i : ℕ) (x z : Loading) → length piece ≤ i → z ≡ feed (drop i piece) x → x ≡ z
unfolding feed
feed_done piece i x z h e = sym (e ∙ rw (drop_of_length-le piece h))

-- ---------------------------------------------------------------- a call

module _ (l : Loader) (index count area con : List ℕ) where
  abbrev lent : Loading
  lent = record { loader = l; index = index; count = count; area = area; con = con }

  pub piece_short : (g r : Bool) → g ≡ going l → g ≡ true → r ≡ roomy lent → r ≡ false → (piece : List ℕ) → (3 ≡ piece_refusal lent) × (lent ≡ load_piece piece lent)
  unfolding load_piece piece_refusal when◌then◌else◌
  piece_short g r e h f k piece = rw (sym e ∙ h, sym f ∙ k) (refl, refl)

  module _ (piece : List ℕ) (y : Loading) (q : y ≡ feed piece lent) where
    pub piece_going : (g r : Bool) → g ≡ going l → g ≡ true → r ≡ roomy lent → r ≡ true → (0 ≡ piece_refusal lent) × (y ≡ load_piece piece lent)
    unfolding load_piece piece_refusal when◌then◌else◌
    piece_going g r e h f k = rw (sym e ∙ h, sym f ∙ k) (refl, q)

    pub piece_over : (g : Bool) → g ≡ going l → g ≡ false → (0 ≡ piece_refusal lent) × (y ≡ load_piece piece lent)
    unfolding load_piece piece_refusal when◌then◌else◌
    piece_over g e h = rw (sym e ∙ h) (refl, q)
