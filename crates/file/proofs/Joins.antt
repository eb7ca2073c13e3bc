-- Texts that are joined, as a loop writes them: `led` texts one after another. What is left to be written stands in the loop's invariant, `Underway`.
-- Assumes nothing.
use Prim.Native.Nat.{ℕ, zero, suc, ◌+◌, ◌-◌, ◌*◌, ◌≤◌, ◌<◌}
use native.Mathlib.Omega.{arith}
use native.Mathlib.Numerals.{add-one}
use native.Mathlib.Decide.{ℕ_discrete}
use mathlib.Core.Path.{◌≡◌, refl, sym, ap, subst, ◌∙◌}
use mathlib.Core.List.{List, [], ◌∷◌, ◌++◌, append_assoc, append-nil}
use lib.ListN.{length, get_or, length-append, length-take, length-drop}
use Rattle.std.specs.List.{between}
use Rattle.std.proofs.lemmas.List.Edits.{get_or-between}
use borrow.Author.Tests.{eq-eqb, ne_eqb}
use Rattle.rules.specs.Base.{when◌then◌else◌, tab}
use Rattle.rules.specs.Listing.{decimal, joined, cell_text, row_text, rows_text}
use Rattle.file.specs.Written.{written, Room, Wrote}
use Rattle.file.specs.Shown.{led, leader, leds, layers_text, layer_text, cell_at, shown, Inside}
use Rattle.file.proofs.Writing.{written_none, written-length, room_first, room_then, wrote_then}

-- ---------------------------------------------------------------- joined texts are led texts

led-first : (b : ℕ) (t : List ℕ) → led b 0 t ≡ t
unfolding led when◌then◌else◌
led-first b t = refl

led_later : (b j : ℕ) (t : List ℕ) → (j ≡ 0 → ⊥) → led b j t ≡ b ∷ t
unfolding led when◌then◌else◌
led_later b j t n = rw (ne_eqb j 0 n)

-- the texts after the first
later : ℕ → List (List ℕ) → List ℕ
later b [] = []
later b (t ∷ ts) = b ∷ (t ++ later b ts)

joined_later : (b : ℕ) (t : List ℕ) (ts : List (List ℕ)) → joined b (t ∷ ts) ≡ t ++ later b ts
unfolding joined later
joined_later b t [] = sym (append-nil t)
joined_later b t (u ∷ us) = ap (λ (l : List ℕ). t ++ (b ∷ l)) (joined_later b u us)

later_led : (b i k j : ℕ) (f : ℕ → List ℕ) → later b (tab k (i + suc j) f) ≡ leds b k (suc j) (λ x. f (i + x))
unfolding later tab leds
later_led b i zero j f = refl
later_led b i (suc k) j f =
    let e : suc (i + suc j) ≡ i + suc (suc j) = omega arith in
    rw (e, later_led b i k (suc j) f, led_later b (suc j) (f (i + suc j)) (λ z. omega arith)) refl

pub joined-led : (b i k : ℕ) (f : ℕ → List ℕ) → joined b (tab k i f) ≡ leds b k 0 (λ x. f (i + x))
unfolding joined tab leds
joined-led b i zero f = refl
joined-led b i (suc k) f =
    let e : suc i ≡ i + suc 0 = omega arith in
    let z : i ≡ i + 0 = omega arith in
    joined_later b (f i) (tab k (suc i) f) ∙ ap (λ (x : ℕ). f i ++ later b (tab k x f)) e ∙ ap (λ (l : List ℕ). f i ++ l) (later_led b i k 0 f)
    ∙ ap (λ (x : ℕ). f x ++ leds b k 1 (λ x. f (i + x))) z ∙ ap (λ (l : List ℕ). l ++ leds b k 1 (λ x. f (i + x))) (sym (led-first b (f (i + 0))))

-- ---------------------------------------------------------------- what is left to be written

pub record Underway (out₀ : List ℕ) (at : ℕ) (whole out : List ℕ) (next : ℕ) (rest : List ℕ) : Type 0 where
  pub left : written out next rest ≡ written out₀ at whole
  pub ends : next + length rest ≡ at + length whole
  pub size : length out ≡ length out₀
  pub fits : at + length whole ≤ length out₀

pub underway_first : (out : List ℕ) (at : ℕ) (t u : List ℕ) → t ≡ u → Room out at t → Underway out at t out at u
underway_first out at t u e h = record { left = ap (written out at) (sym e); ends = ap (λ (l : List ℕ). at + length l) (sym e); size = refl; fits = h.fits }

module _ (out₀ : List ℕ) (at : ℕ) (whole out : List ℕ) (next : ℕ) where
  module _ (t u : List ℕ) (h : Underway out₀ at whole out next (t ++ u)) where
    both_room : Room out next (t ++ u)
    both_room = record { fits = omega (arith, h.ends, h.size, h.fits) }

    pub underway_room : Room out next t
    underway_room = room_first out next t u both_room

    pub underway_next : (r : ℕ) (out' : List ℕ) → Wrote out next t r out' → Underway out₀ at whole out' r u
    underway_next r out' g =
        let a = room_then out next t u both_room r out' g in
        let k : Wrote out' r u (r + length u) (written out' r u) = record { ends = refl; bytes = refl } in
        let w = wrote_then out next t u both_room r out' g (r + length u) (written out' r u) k in
        record {
          left = w.bytes ∙ h.left;
          ends = omega (arith, h.ends, g.ends, length-append t u);
          size = ap length g.bytes ∙ written-length out next t underway_room.fits ∙ h.size;
          fits = h.fits;
        }

  pub underway_done : Underway out₀ at whole out next [] → Wrote out₀ at whole next out
  underway_done h = record { ends = omega (arith, h.ends); bytes = sym (written_none out next) ∙ h.left }

-- ---------------------------------------------------------------- one led text, as the code has it

no_leader : (b j : ℕ) → j ≡ 0 → leader b j ≡ []
unfolding leader when◌then◌else◌
no_leader b j e = rw (eq-eqb j 0 e)

one_leader : (b j : ℕ) → (j ≡ 0 → ⊥) → leader b j ≡ b ∷ []
unfolding leader when◌then◌else◌
one_leader b j n = rw (ne_eqb j 0 n)

led_is : (b j : ℕ) (t : List ℕ) → led b j t ≡ leader b j ++ t
unfolding led leader when◌then◌else◌
led_is b j t = elim (ℕ_discrete j 0) [
  | yes e ↦ rw (eq-eqb j 0 e) refl
  | no n ↦ rw (ne_eqb j 0 n) refl
]

module _ (out : List ℕ) (at b j : ℕ) where
  pub none_wrote : j ≡ 0 → Wrote out at (leader b j) at out
  none_wrote e = rw (no_leader b j e) (record { ends = omega arith; bytes = sym (written_none out at) })

  pub byte_room : Room out at (leader b j) → (j ≡ 0 → ⊥) → Room out at (b ∷ [])
  byte_room h n = subst (λ (l : List ℕ). Room out at l) (one_leader b j n) h

  pub byte_wrote : (j ≡ 0 → ⊥) → (r : ℕ) (out' : List ℕ) → Wrote out at (b ∷ []) r out' → Wrote out at (leader b j) r out'
  byte_wrote n r out' g = subst (λ (l : List ℕ). Wrote out at l r out') (sym (one_leader b j n)) g

  module _ (t : List ℕ) (h : Room out at (led b j t)) where
    both : Room out at (leader b j ++ t)
    both = subst (λ (l : List ℕ). Room out at l) (led_is b j t) h

    pub leader_room : Room out at (leader b j)
    leader_room = room_first out at (leader b j) t both

    module _ (r : ℕ) (out' : List ℕ) (g : Wrote out at (leader b j) r out') where
      pub led_room : Room out' r t
      led_room = room_then out at (leader b j) t both r out' g

      pub led_wrote : (s : ℕ) (out'' : List ℕ) → Wrote out' r t s out'' → Wrote out at (led b j t) s out''
      led_wrote s out'' k = subst (λ (l : List ℕ). Wrote out at l s out'') (sym (led_is b j t)) (wrote_then out at (leader b j) t both r out' g s out'' k)

-- ---------------------------------------------------------------- all of them

leds_next : (b k j : ℕ) (f : ℕ → List ℕ) → j < k → leds b (k - j) j f ≡ led b j (f j) ++ leds b (k - (j + 1)) (j + 1) f
unfolding leds
leds_next b k j f h =
    let e : k - j ≡ suc (k - (j + 1)) = omega arith in
    rw (e, add-one j) refl

leds-end : (b k j : ℕ) (f : ℕ → List ℕ) → k ≤ j → leds b (k - j) j f ≡ []
unfolding leds
leds-end b k j f h = let e : k - j ≡ 0 = omega arith in rw e refl

-- layers
pub layers_first : (out : List ℕ) (at : ℕ) (ids : List ℕ) (i k : ℕ) → Room out at (layers_text ids i k)
    → Underway out at (layers_text ids i k) out at (leds 47 (k - 0) 0 (layer_text ids i))
unfolding layers_text layer_text
layers_first out at ids i k h =
    let e : k ≡ k - 0 = omega arith in
    underway_first out at _ _ (joined-led 47 i k (λ s. decimal (get_or ids s 0)) ∙ ap (λ (n : ℕ). leds 47 n 0 (layer_text ids i)) e) h

module _ (out₀ : List ℕ) (at : ℕ) (whole out : List ℕ) (next : ℕ) (ids : List ℕ) (k j : ℕ) (u : Underway out₀ at whole out next (leds 47 (k - j) j (layer_text ids 0))) where
  pub layers_done : k ≤ j → Wrote out₀ at whole next out
  layers_done h = underway_done out₀ at whole out next (subst (λ (l : List ℕ). Underway out₀ at whole out next l) (leds-end 47 k j (layer_text ids 0) h) u)

  module _ (h : j < k) where
    layer : Underway out₀ at whole out next (led 47 j (decimal (get_or ids j 0)) ++ leds 47 (k - (j + 1)) (j + 1) (layer_text ids 0))
    unfolding layer_text
    layer =
        let e : 0 + j ≡ j = omega arith in
        subst (λ (x : ℕ). Underway out₀ at whole out next (led 47 j (decimal (get_or ids x 0)) ++ leds 47 (k - (j + 1)) (j + 1) (layer_text ids 0))) e
        (subst (λ (l : List ℕ). Underway out₀ at whole out next l) (leds_next 47 k j (layer_text ids 0) h) u)

    pub layers_room : Room out next (led 47 j (decimal (get_or ids j 0)))
    layers_room = underway_room out₀ at whole out next _ _ layer

    pub layers_next : (r : ℕ) (out' : List ℕ) → Wrote out next (led 47 j (decimal (get_or ids j 0))) r out'
        → Underway out₀ at whole out' r (leds 47 (k - (j + 1)) (j + 1) (layer_text ids 0))
    layers_next r out' g = underway_next out₀ at whole out next _ _ layer r out' g

-- the layers as a list of their own
tab_part : (ids : List ℕ) (i n k j : ℕ) → j + k ≤ n → tab k (i + j) (λ s. decimal (get_or ids s 0)) ≡ tab k j (λ s. decimal (get_or (between i (i + n) ids) s 0))
unfolding tab
tab_part ids i n zero j h = refl
tab_part ids i n (suc k) j h =
    let e : suc (i + j) ≡ i + suc j = omega arith in
    rw (get_or-between ids i (i + n) j 0 (omega arith), e) (ap (λ (l : List (List ℕ)). decimal (get_or ids (i + j) 0) ∷ l) (tab_part ids i n k (suc j) (omega arith)))

layers_part : (ids : List ℕ) (i k : ℕ) → i + k ≤ length ids → layers_text ids i k ≡ layers_text (between i (i + k) ids) 0 (length (between i (i + k) ids))
unfolding layers_text
layers_part ids i k h =
    let n : length (between i (i + k) ids) ≡ k = simp (length-take, length-drop) (omega arith) in
    let e : i ≡ i + 0 = omega arith in
    rw n (ap (λ (x : ℕ). joined 47 (tab k x (λ s. decimal (get_or ids s 0)))) e ∙ ap (joined 47) (tab_part ids i k k 0 (omega arith)))

-- a cell
module _ (ids : List ℕ) (i k : ℕ) where
  pub empty_cell : k ≡ 0 → cell_text ids i k ≡ 45 ∷ []
  unfolding cell_text when◌then◌else◌
  empty_cell e = rw (eq-eqb k 0 e)

  pub full_cell : (k ≡ 0 → ⊥) → cell_text ids i k ≡ layers_text ids i k
  unfolding cell_text layers_text when◌then◌else◌
  full_cell n = rw (ne_eqb k 0 n)

  module _ (out : List ℕ) (at : ℕ) where
    pub empty_room : Room out at (cell_text ids i k) → k ≡ 0 → Room out at (45 ∷ [])
    empty_room h e = subst (λ (l : List ℕ). Room out at l) (empty_cell e) h

    pub empty_wrote : (r : ℕ) (out' : List ℕ) → k ≡ 0 → Wrote out at (45 ∷ []) r out' → Wrote out at (cell_text ids i k) r out'
    empty_wrote r out' e g = subst (λ (l : List ℕ). Wrote out at l r out') (sym (empty_cell e)) g

    module _ (n : k ≡ 0 → ⊥) (h : i + k ≤ length ids) where
      full_part : cell_text ids i k ≡ layers_text (between i (i + k) ids) 0 (length (between i (i + k) ids))
      full_part = full_cell n ∙ layers_part ids i k h

      pub full_room : Room out at (cell_text ids i k) → Room out at (layers_text (between i (i + k) ids) 0 (length (between i (i + k) ids)))
      full_room g = subst (λ (l : List ℕ). Room out at l) full_part g

      pub full_wrote : (r : ℕ) (out' : List ℕ) → Wrote out at (layers_text (between i (i + k) ids) 0 (length (between i (i + k) ids))) r out' → Wrote out at (cell_text ids i k) r out'
      full_wrote r out' g = subst (λ (l : List ℕ). Wrote out at l r out') (sym full_part) g

pub full_inside : (ids : List ℕ) (i k : ℕ) → Inside ids i k → (k ≡ 0 → ⊥) → i + k ≤ length ids
full_inside ids i k h n = h.within (omega arith)

-- ---------------------------------------------------------------- a row

module _ (w h : ℕ) (index count ids : List ℕ) (z : ℕ) where
  pub row_led : row_text (shown w h index count) ids z ≡ leds 32 (w - 0) 0 (cell_at index count ids (z * w)) ++ (10 ∷ [])
  unfolding row_text cell_at
  row_led =
      let e : w ≡ w - 0 = omega arith in
      ap (λ (l : List ℕ). l ++ (10 ∷ [])) (joined-led 32 (z * w) w (λ c. cell_text ids (get_or index c 0) (get_or count c 0)) ∙ ap (λ (n : ℕ). leds 32 n 0 (cell_at index count ids (z * w))) e)

  pub row_first : (out : List ℕ) (at : ℕ) → Room out at (row_text (shown w h index count) ids z)
      → Underway out at (row_text (shown w h index count) ids z) out at (leds 32 (w - 0) 0 (cell_at index count ids (z * w)) ++ (10 ∷ []))
  row_first out at r = underway_first out at _ _ row_led r

module _ (out₀ : List ℕ) (at : ℕ) (whole out : List ℕ) (next w : ℕ) (index count ids : List ℕ) (z x : ℕ)
    (u : Underway out₀ at whole out next (leds 32 (w - x) x (cell_at index count ids (z * w)) ++ (10 ∷ []))) where
  module _ (g : w ≤ x) where
    last_byte : Underway out₀ at whole out next ((10 ∷ []) ++ [])
    last_byte = subst (λ (l : List ℕ). Underway out₀ at whole out next (l ++ (10 ∷ []))) (leds-end 32 w x (cell_at index count ids (z * w)) g) u

    pub row_room : Room out next (10 ∷ [])
    row_room = underway_room out₀ at whole out next (10 ∷ []) [] last_byte

    pub row_done : (r : ℕ) (out' : List ℕ) → Wrote out next (10 ∷ []) r out' → Wrote out₀ at whole r out'
    row_done r out' k = underway_done out₀ at whole out' r (underway_next out₀ at whole out next (10 ∷ []) [] last_byte r out' k)

  module _ (g : x < w) where
    abbrev this : List ℕ
    this = cell_text ids (get_or index (z * w + x) 0) (get_or count (z * w + x) 0)

    cell : Underway out₀ at whole out next (led 32 x this ++ (leds 32 (w - (x + 1)) (x + 1) (cell_at index count ids (z * w)) ++ (10 ∷ [])))
    unfolding cell_at
    cell =
        let f = cell_at index count ids (z * w) in
        let more = leds 32 (w - (x + 1)) (x + 1) f in
        subst (λ (l : List ℕ). Underway out₀ at whole out next l) (ap (λ (l : List ℕ). l ++ (10 ∷ [])) (leds_next 32 w x f g) ∙ append_assoc (led 32 x (f x)) more (10 ∷ [])) u

    pub cell_room : Room out next (led 32 x this)
    cell_room = underway_room out₀ at whole out next _ _ cell

    pub cell_next : (r : ℕ) (out' : List ℕ) → Wrote out next (led 32 x this) r out'
        → Underway out₀ at whole out' r (leds 32 (w - (x + 1)) (x + 1) (cell_at index count ids (z * w)) ++ (10 ∷ []))
    cell_next r out' k' = underway_next out₀ at whole out next _ _ cell r out' k'

-- ---------------------------------------------------------------- all rows

pub rows_first : (out : List ℕ) (at w h : ℕ) (index count ids : List ℕ) → Room out at (rows_text (shown w h index count) ids h 0)
    → Underway out at (rows_text (shown w h index count) ids h 0) out at (rows_text (shown w h index count) ids (h - 0) 0)
rows_first out at w h index count ids r =
    let e : h ≡ h - 0 = omega arith in
    underway_first out at _ _ (ap (λ (n : ℕ). rows_text (shown w h index count) ids n 0) e) r

module _ (out₀ : List ℕ) (at : ℕ) (whole out : List ℕ) (next w h : ℕ) (index count ids : List ℕ) (z : ℕ)
    (u : Underway out₀ at whole out next (rows_text (shown w h index count) ids (h - z) z)) where
  pub rows_done : h ≤ z → Wrote out₀ at whole next out
  unfolding rows_text
  rows_done g =
      let e : h - z ≡ 0 = omega arith in
      underway_done out₀ at whole out next (subst (λ (n : ℕ). Underway out₀ at whole out next (rows_text (shown w h index count) ids n z)) e u)

  module _ (g : z < h) where
    row : Underway out₀ at whole out next (row_text (shown w h index count) ids z ++ rows_text (shown w h index count) ids (h - (z + 1)) (z + 1))
    unfolding rows_text
    row =
        let e : h - z ≡ suc (h - suc z) = omega arith in
        rw (add-one z) (subst (λ (n : ℕ). Underway out₀ at whole out next (rows_text (shown w h index count) ids n z)) e u)

    pub rows_room : Room out next (row_text (shown w h index count) ids z)
    rows_room = underway_room out₀ at whole out next _ _ row

    pub rows_next : (r : ℕ) (out' : List ℕ) → Wrote out next (row_text (shown w h index count) ids z) r out'
        → Underway out₀ at whole out' r (rows_text (shown w h index count) ids (h - (z + 1)) (z + 1))
    rows_next r out' k = underway_next out₀ at whole out next _ _ row r out' k
