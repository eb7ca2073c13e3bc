-- Every span of an id lies within its edges, and each edge is that of a span: so they are the least and the greatest and 1. The area is that of the first span.
-- A span that is added moves the edges outward if at all, and leaves the area of the spans before it. Assumes nothing.
use Prim.Native.Nat.{ℕ, zero, suc, ◌/◌, ◌%◌, ◌≤◌, ◌<◌, min, max}
use native.Mathlib.Omega.{arith}
use native.Mathlib.Decide.{ℕ_discrete, dec_lt}
use mathlib.Core.Path.{◌≡◌, refl, sym, ap, ◌∙◌}
use mathlib.Core.List.{List}
use lib.ListN.{get_or}
use lib.Dec.{eqb}
use borrow.Author.Tests.{eqb-true, eqb-false}
use Rattle.rules.specs.Field.{Field, spans, cell_of, area_of}
use Rattle.rules.specs.Sizes.{Extent, nothing, added, noted, extent}
use Rattle.laws.proofs.Basics.{if-ind, upto-ind}
use Rattle.extents.proofs.Meaning.{added_count}

-- a place within the edges of an extent of some span
pub record Inside (x z : ℕ) (e : Extent) : Type 0 where
  pub some : 0 < e.count
  pub left : e.x_least ≤ x
  pub right : x < e.x_past
  pub low : e.z_least ≤ z
  pub high : z < e.z_past

-- what is inside stays so
added_keeps : (a x z u v : ℕ) (e : Extent) → Inside u v e → Inside u v (added a x z e)
unfolding added
added_keeps a x z u v e h =
    if-ind (λ (r : Extent). Inside u v r) (eqb e.count 0)
    (λ t. absurd (omega (arith, eqb-true e.count 0 t, h.some)))
    (λ _. record { some = omega arith; left = omega (arith, h.left); right = omega (arith, h.right); low = omega (arith, h.low); high = omega (arith, h.high) })

-- and what is added is inside
added_inside : (a x z : ℕ) (e : Extent) → Inside x z (added a x z e)
unfolding added
added_inside a x z e =
    if-ind (λ (r : Extent). Inside x z r) (eqb e.count 0)
    (λ _. record { some = omega arith; left = omega arith; right = omega arith; low = omega arith; high = omega arith })
    (λ _. record { some = omega arith; left = omega arith; right = omega arith; low = omega arith; high = omega arith })

-- the column and the row of a span
abbrev pub column_of : Field → ℕ → ℕ
column_of F s = cell_of F.count s % F.w

abbrev pub row_of : Field → ℕ → ℕ
row_of F s = cell_of F.count s / F.w

pub spans_inside : (F : Field) (ids : List ℕ) (id s : ℕ) → s < spans F → get_or ids s 0 ≡ id → Inside (column_of F s) (row_of F s) (extent F ids id)
unfolding extent noted
spans_inside F ids id s l q =
    upto-ind (λ k (e : Extent). (i : ℕ) → i < k → get_or ids i 0 ≡ id → Inside (column_of F i) (row_of F i) e) (noted F ids id) nothing (spans F)
    (λ i h _. absurd (omega arith))
    (λ k e _ p. if-ind (λ (r : Extent). (i : ℕ) → i < suc k → get_or ids i 0 ≡ id → Inside (column_of F i) (row_of F i) r) (eqb (get_or ids k 0) id)
    (λ _ i h g. elim (ℕ_discrete i k) [
      | yes y ↦ rw y (added_inside (area_of F k) (column_of F k) (row_of F k) e)
      | no y ↦ added_keeps (area_of F k) (column_of F k) (row_of F k) (column_of F i) (row_of F i) e (p i (omega arith) g)
    ])
    (λ t i h g. elim (ℕ_discrete i k) [
      | yes y ↦ absurd (eqb-false (get_or ids k 0) id t (ap (λ (j : ℕ). get_or ids j 0) (sym y) ∙ g))
      | no y ↦ p i (omega arith) g
    ]))
    s l q

-- ---------------------------------------------------------------- each edge is a span's

min_of : (P : ℕ → Type 0) (a x : ℕ) → P a → P x → P (min a x)
min_of P a x p q = elim (dec_lt a x) [ yes l ↦ let e : min a x ≡ a = omega arith in rw e p | no l ↦ let e : min a x ≡ x = omega (arith, l) in rw e q ]

max_of : (P : ℕ → Type 0) (a x : ℕ) → P a → P x → P (max a x)
max_of P a x p q = elim (dec_lt a x) [ yes l ↦ let e : max a x ≡ x = omega arith in rw e q | no l ↦ let e : max a x ≡ a = omega (arith, l) in rw e p ]

-- a span of the id, among the first k, at which f has the value v
abbrev pub Some : List ℕ → ℕ → ℕ → (ℕ → ℕ) → ℕ → Type 0
Some ids id k f v = (i : ℕ) × (i < k) × (get_or ids i 0 ≡ id) × (f i ≡ v)

pub record Touched (F : Field) (ids : List ℕ) (id k : ℕ) (e : Extent) : Type 0 where
  pub left : Some ids id k (column_of F) e.x_least
  pub right : Some ids id k (λ i. suc (column_of F i)) e.x_past
  pub low : Some ids id k (row_of F) e.z_least
  pub high : Some ids id k (λ i. suc (row_of F i)) e.z_past

more : (ids : List ℕ) (id k : ℕ) (f : ℕ → ℕ) (v : ℕ) → Some ids id k f v → Some ids id (suc k) f v
more ids id k f v w = (w.0, omega (arith, w.1), w.2, w.3)

module _ (F : Field) (ids : List ℕ) (id : ℕ) where
  last : (k : ℕ) → get_or ids k 0 ≡ id → (f : ℕ → ℕ) → Some ids id (suc k) f (f k)
  last k q f = (k, omega arith, q, refl)

  added_touched : (k a : ℕ) (e : Extent) → get_or ids k 0 ≡ id → (0 < e.count → Touched F ids id k e) → Touched F ids id (suc k) (added a (column_of F k) (row_of F k) e)
  unfolding added
  added_touched k a e q h =
      if-ind (λ (r : Extent). Touched F ids id (suc k) r) (eqb e.count 0)
      (λ _. record { left = last k q (column_of F); right = last k q (λ i. suc (column_of F i)); low = last k q (row_of F); high = last k q (λ i. suc (row_of F i)) })
      (λ t.
      let n = eqb-false e.count 0 t in
      let w = h (omega (arith, n)) in
      record {
        left = min_of (Some ids id (suc k) (column_of F)) _ _ (more ids id k (column_of F) _ w.left) (last k q (column_of F));
        right = max_of (Some ids id (suc k) (λ i. suc (column_of F i))) _ _ (more ids id k (λ i. suc (column_of F i)) _ w.right) (last k q (λ i. suc (column_of F i)));
        low = min_of (Some ids id (suc k) (row_of F)) _ _ (more ids id k (row_of F) _ w.low) (last k q (row_of F));
        high = max_of (Some ids id (suc k) (λ i. suc (row_of F i))) _ _ (more ids id k (λ i. suc (row_of F i)) _ w.high) (last k q (λ i. suc (row_of F i)));
      })

  pub edges_touched : 0 < (extent F ids id).count → Touched F ids id (spans F) (extent F ids id)
  unfolding extent noted
  edges_touched =
      upto-ind (λ k (e : Extent). 0 < e.count → Touched F ids id k e) (noted F ids id) nothing (spans F)
      (λ h. absurd (omega arith))
      (λ k e _ p. if-ind (λ (r : Extent). 0 < r.count → Touched F ids id (suc k) r) (eqb (get_or ids k 0) id)
      (λ t _. added_touched k (area_of F k) e (eqb-true (get_or ids k 0) id t) p)
      (λ _ h.
      let w = p h in
      record {
        left = more ids id k (column_of F) _ w.left;
        right = more ids id k (λ i. suc (column_of F i)) _ w.right;
        low = more ids id k (row_of F) _ w.low;
        high = more ids id k (λ i. suc (row_of F i)) _ w.high;
      }))

-- ---------------------------------------------------------------- the first span of an id

-- "the id's first span": no span before it has the id
pub record First (F : Field) (ids : List ℕ) (id s : ℕ) : Type 0 where
  pub span : s < spans F
  pub has : get_or ids s 0 ≡ id
  pub least : (t : ℕ) → t < s → get_or ids t 0 ≡ id → ⊥

-- of the first k spans none has the id, or there is a first
data Seen (ids : List ℕ) (id k : ℕ) : Type 0 where
  unseen : ((t : ℕ) → t < k → get_or ids t 0 ≡ id → ⊥) → Seen ids id k
  seen : (s : ℕ) → s < k → get_or ids s 0 ≡ id → ((t : ℕ) → t < s → get_or ids t 0 ≡ id → ⊥) → Seen ids id k

seen_last : (ids : List ℕ) (id k : ℕ) → ((t : ℕ) → t < k → get_or ids t 0 ≡ id → ⊥) → Seen ids id (suc k)
seen_last ids id k n = elim (ℕ_discrete (get_or ids k 0) id) [
  | yes e ↦ seen k (omega arith) e n
  | no e ↦ unseen (λ t h f. elim (ℕ_discrete t k) [ yes q ↦ e (ap (λ (j : ℕ). get_or ids j 0) (sym q) ∙ f) | no q ↦ n t (omega arith) f ])
]

seen_next : (ids : List ℕ) (id k : ℕ) → Seen ids id k → Seen ids id (suc k)
seen_next ids id k (unseen n) = seen_last ids id k n
seen_next ids id k (seen s h e n) = seen s (omega arith) e n

seen_all : (ids : List ℕ) (id k : ℕ) → Seen ids id k
seen_all ids id zero = unseen (λ t h e. omega arith)
seen_all ids id (suc k) = seen_next ids id k (seen_all ids id k)

first-seen : (F : Field) (ids : List ℕ) (id s : ℕ) → s < spans F → get_or ids s 0 ≡ id → Seen ids id (spans F) → (t : ℕ) × First F ids id t
first-seen F ids id s h e (unseen n) = absurd (n s h e)
first-seen F ids id s h e (seen t g f n) = (t, record { span = g; has = f; least = n })

-- an id that a span has, has a first
pub first_of : (F : Field) (ids : List ℕ) (id s : ℕ) → s < spans F → get_or ids s 0 ≡ id → (t : ℕ) × First F ids id t
first_of F ids id s h e = first-seen F ids id s h e (seen_all ids id (spans F))

-- ---------------------------------------------------------------- its area

module _ (a x z : ℕ) (e : Extent) where
  area_first : e.count ≡ 0 → (added a x z e).area ≡ a
  unfolding added
  area_first h = if-ind (λ (r : Extent). r.area ≡ a) (eqb e.count 0) (λ _. refl) (λ t. absurd (eqb-false e.count 0 t h))

  area_kept : 0 < e.count → (added a x z e).area ≡ e.area
  unfolding added
  area_kept h = if-ind (λ (r : Extent). r.area ≡ e.area) (eqb e.count 0) (λ t. absurd (omega (arith, eqb-true e.count 0 t))) (λ _. refl)

-- after k spans, s being the first of the id
record Area (F : Field) (s k : ℕ) (e : Extent) : Type 0 where
  before : k ≤ s → e.count ≡ 0
  after : s < k → (0 < e.count) × (e.area ≡ area_of F s)

area_added : (F : Field) (s k x z : ℕ) (e : Extent) → s ≤ k → Area F s k e → Area F s (suc k) (added (area_of F k) x z e)
area_added F s k x z e l w = record {
  before = λ h. absurd (omega arith);
  after = λ h. (
    omega (arith, added_count (area_of F k) x z e),
    elim (ℕ_discrete s k) [
      | yes q ↦ area_first (area_of F k) x z e (w.before (omega arith)) ∙ ap (area_of F) (sym q)
      | no q ↦ let g = w.after (omega arith) in area_kept (area_of F k) x z e g.0 ∙ g.1
    ],
  );
}

area_on : (F : Field) (s k : ℕ) (e : Extent) → (s ≡ k → ⊥) → Area F s k e → Area F s (suc k) e
area_on F s k e n w = record { before = λ h. w.before (omega arith); after = λ h. w.after (omega arith) }

module _ (F : Field) (ids : List ℕ) (id s : ℕ) (f : First F ids id s) where
  not_before : (k : ℕ) → get_or ids k 0 ≡ id → s ≤ k
  not_before k e = elim (dec_lt k s) [ yes h ↦ absurd (f.least k h e) | no h ↦ omega (arith, h) ]

  area_all : Area F s (spans F) (extent F ids id)
  unfolding extent noted
  area_all =
      upto-ind (Area F s) (noted F ids id) nothing (spans F)
      (record { before = λ _. refl; after = λ h. absurd (omega arith) })
      (λ k e _ w. if-ind (Area F s (suc k)) (eqb (get_or ids k 0) id)
      (λ t. area_added F s k (column_of F k) (row_of F k) e (not_before k (eqb-true (get_or ids k 0) id t)) w)
      (λ t. area_on F s k e (λ q. eqb-false (get_or ids k 0) id t (ap (λ (j : ℕ). get_or ids j 0) (sym q) ∙ f.has)) w))

  -- "the area code is that of the id's first span"
  pub first_area : (extent F ids id).area ≡ area_of F s
  first_area = (area_all.after f.span).1

-- ---------------------------------------------------------------- no span at all

pub no_span : (F : Field) (ids : List ℕ) (id : ℕ) → ((s : ℕ) → s < spans F → get_or ids s 0 ≡ id → ⊥) → extent F ids id ≡ nothing
unfolding extent noted
no_span F ids id n =
    upto-ind (λ k (e : Extent). e ≡ nothing) (noted F ids id) nothing (spans F) refl
    (λ k e h p. if-ind (λ (r : Extent). r ≡ nothing) (eqb (get_or ids k 0) id) (λ t. absurd (n k h (eqb-true (get_or ids k 0) id t))) (λ _. p))
