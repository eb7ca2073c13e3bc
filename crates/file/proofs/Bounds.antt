-- A listing fits in 4,096 bytes: its first line is at most 51 bytes, a cell with what stands before it at most 2 and 6 for each of its spans, and a row ends in one more.
-- The counts sum to the number of spans, since refusal 4 let them pass.
use Prim.Native.Nat.{ℕ, zero, suc, ◌+◌, ◌-◌, ◌*◌, ◌≤◌}
use native.Mathlib.Omega.{arith}
use native.Mathlib.Nat.{mul_comm, suc-mul}
use native.Mathlib.Decide.{ℕ_discrete, dec_lt}
use mathlib.Core.Path.{◌≡◌, refl, sym, ap, subst, ◌∙◌}
use mathlib.Core.Bool.{true, false≢true}
use mathlib.Core.List.{List, [], ◌∷◌, ◌++◌, append_assoc}
use lib.ListN.{length, get_or, length-append, get_or-eq_default}
use lib.Dec.{eqb}
use Rattle.rules.specs.Refusals.{good_cells}
use Rattle.rules.specs.Listing.{decimal, cell_text, row_text, rows_text, listing}
use Rattle.laws.proofs.Basics.{tests, both, if-ind}
use Rattle.laws.proofs.Cells.{before_lt, cells_at, cells_sum}
use Rattle.file.specs.Written.{Room, Wrote}
use Rattle.file.specs.Shown.{led, leds, layers_text, layer_text, cell_at, named, heading, shown, numbered, Filled, Listable, Prints}
use Rattle.file.proofs.Writing.{room_first, room_then, wrote_then}
use Rattle.file.proofs.Joins.{joined-led, empty_cell, full_cell, row_led}
use Rattle.file.proofs.Lines.{digits-length, heading-length, prints}

-- ---------------------------------------------------------------- a cell

led-length : (b j : ℕ) (t : List ℕ) → length (led b j t) ≤ 1 + length t
unfolding led
led-length b j t = if-ind (λ (l : List ℕ). length l ≤ 1 + length t) (eqb j 0) (λ _. omega arith) (λ _. omega arith)

layers_length : (ids : List ℕ) (i k j : ℕ) → length (leds 47 k j (layer_text ids i)) ≤ 6 * k
unfolding leds layer_text
layers_length ids i zero j = omega arith
layers_length ids i (suc k) j =
    let t = decimal (get_or ids (i + j) 0) in
    omega (arith, length-append (led 47 j t) (leds 47 k (suc j) (layer_text ids i)), led-length 47 j t, digits-length 5 (get_or ids (i + j) 0), layers_length ids i k (suc j))

cell-length : (ids : List ℕ) (i k : ℕ) → length (cell_text ids i k) ≤ 1 + 6 * k
unfolding layers_text layer_text
cell-length ids i k =
    elim (ℕ_discrete k 0) [
      | yes e ↦ rw (empty_cell ids i k e) (omega arith)
      | no n ↦ rw (full_cell ids i k n, joined-led 47 i k (λ s. decimal (get_or ids s 0))) (omega (arith, layers_length ids i k 0))
    ]

-- ---------------------------------------------------------------- cells by their counts

-- m cells from c on
weigh : List ℕ → ℕ → ℕ → ℕ
weigh count zero c = 0
weigh count (suc m) c = 2 + 6 * get_or count c 0 + weigh count m (suc c)

weigh_add : (count : List ℕ) (m n c : ℕ) → weigh count (m + n) c ≡ weigh count m c + weigh count n (c + m)
unfolding weigh
weigh_add count zero n c =
    let e : 0 + n ≡ n = omega arith in
    let f : c + 0 ≡ c = omega arith in
    rw (e, f) (omega arith)
weigh_add count (suc m) n c =
    let e : suc m + n ≡ suc (m + n) = omega arith in
    let f : c + suc m ≡ suc c + m = omega arith in
    rw (e, f) (omega (arith, weigh_add count m n (suc c)))

weigh_tail : (k : ℕ) (ks : List ℕ) (m c : ℕ) → weigh (k ∷ ks) m (suc c) ≡ weigh ks m c
unfolding weigh
weigh_tail k ks zero c = refl
weigh_tail k ks (suc m) c = ap (λ (x : ℕ). 2 + 6 * get_or ks c 0 + x) (weigh_tail k ks m (suc c))

weigh_all : (is ks : List ℕ) (off n : ℕ) → good_cells is ks off n ≡ true → weigh ks (length ks) 0 + 6 * off ≡ 2 * length ks + 6 * n
unfolding good_cells weigh
weigh_all [] [] off n e = omega tests
weigh_all [] (k ∷ ks) off n e = absurd (false≢true e)
weigh_all (i ∷ is) [] off n e = absurd (false≢true e)
weigh_all (i ∷ is) (k ∷ ks) off n e = omega (arith, weigh_all is ks (off + k) n (both _ _ e).1, weigh_tail k ks (length ks) 0)

-- ---------------------------------------------------------------- rows

cells_length : (index count ids : List ℕ) (a m x : ℕ) → length (leds 32 m x (cell_at index count ids a)) ≤ weigh count m (a + x)
unfolding leds weigh cell_at
cells_length index count ids a zero x = omega arith
cells_length index count ids a (suc m) x =
    let t = cell_text ids (get_or index (a + x) 0) (get_or count (a + x) 0) in
    let e : a + suc x ≡ suc (a + x) = omega arith in
    let r : length (leds 32 m (suc x) (cell_at index count ids a)) ≤ weigh count m (suc (a + x)) = rw e at (cells_length index count ids a m (suc x)) in
    omega (arith, length-append (led 32 x t) (leds 32 m (suc x) (cell_at index count ids a)), led-length 32 x t, cell-length ids (get_or index (a + x) 0) (get_or count (a + x) 0))

module _ (w h : ℕ) (index count ids : List ℕ) where
  row_length : (z : ℕ) → length (row_text (shown w h index count) ids z) ≤ weigh count w (z * w) + 1
  row_length z =
      let e : w - 0 ≡ w = omega arith in
      let f : z * w + 0 ≡ z * w = omega arith in
      let l : length (leds 32 w 0 (cell_at index count ids (z * w))) ≤ weigh count w (z * w) = rw f at (cells_length index count ids (z * w) w 0) in
      rw (row_led w h index count ids z, e) (omega (arith, length-append (leds 32 w 0 (cell_at index count ids (z * w))) (10 ∷ [])))

  rows_length : (k z : ℕ) → length (rows_text (shown w h index count) ids k z) ≤ weigh count (k * w) (z * w) + k
  unfolding rows_text
  rows_length zero z = omega arith
  rows_length (suc k) z =
      let e : suc k * w ≡ w + k * w = omega (arith, suc-mul k w) in
      let s : weigh count (suc k * w) (z * w) ≡ weigh count w (z * w) + weigh count (k * w) (suc z * w) = rw (e, suc-mul z w) (weigh_add count w (k * w) (z * w)) in
      omega (arith, length-append (row_text (shown w h index count) ids z) (rows_text (shown w h index count) ids k (suc z)), row_length z, rows_length k (suc z))

-- ---------------------------------------------------------------- the whole listing

listing_is : (w h : ℕ) (index count ids : List ℕ) (most region over cut : ℕ)
    → listing (shown w h index count) most (numbered region over cut ids) ≡ heading most region over cut ++ rows_text (shown w h index count) ids h 0
unfolding listing heading named
listing_is w h index count ids most region over cut = simp append_assoc

module _ (w h : ℕ) (index count ids out : List ℕ) (l : Listable w h index count ids out) where
  pub listing-filled : Filled (w * h) index count ids
  listing-filled = record {
    indices = l.indices;
    counts = l.counts;
    few = l.few_cells;
    inside = λ c. record {
      within = λ p.
          let a = (cells_at index count 0 (length ids) l.cells c).starts p in
          let b = cells_sum index count 0 (length ids) l.cells in
          elim (dec_lt c (length count)) [
            | yes g ↦ omega (arith, before_lt count c (length count) (get_or count c 0 - 1) (omega arith) g)
            | no g ↦ absurd (omega (arith, get_or-eq_default count 0 {n = c} (omega arith)))
          ];
    };
  }

  module _ (most region over cut : ℕ) where
    pub listing-length : length (heading most region over cut ++ rows_text (shown w h index count) ids h 0) ≤ 4096
    listing-length =
        let e : h * w ≡ length count = mul_comm h w ∙ sym l.counts in
        let z : 0 * w ≡ 0 = omega arith in
        let r : length (rows_text (shown w h index count) ids h 0) ≤ weigh count (length count) 0 + h = rw (e, z) at (rows_length w h index count ids h 0) in
        omega (
          arith,
          length-append (heading most region over cut) (rows_text (shown w h index count) ids h 0),
          heading-length most region over cut,
          weigh_all index count 0 (length ids) l.cells,
          l.high,
          l.counts,
          l.few_cells,
          l.few_spans,
        )

    room : Room out 0 (heading most region over cut ++ rows_text (shown w h index count) ids h 0)
    room = record { fits = omega (arith, listing-length, l.room) }

    pub listing-first : Room out 0 (heading most region over cut)
    listing-first = room_first out 0 (heading most region over cut) (rows_text (shown w h index count) ids h 0) room

    module _ (r : ℕ) (out' : List ℕ) (g : Wrote out 0 (heading most region over cut) r out') where
      pub listing_rows : Room out' r (rows_text (shown w h index count) ids h 0)
      listing_rows = room_then out 0 (heading most region over cut) (rows_text (shown w h index count) ids h 0) room r out' g

      pub listing_done : (s : ℕ) (out'' : List ℕ) → Wrote out' r (rows_text (shown w h index count) ids h 0) s out''
          → Prints out (listing (shown w h index count) most (numbered region over cut ids)) s out''
      listing_done s out'' k =
          subst (λ (t : List ℕ). Prints out t s out'') (sym (listing_is w h index count ids most region over cut))
          (prints out _ s out'' room (wrote_then out 0 (heading most region over cut) (rows_text (shown w h index count) ids h 0) room r out' g s out'' k))
