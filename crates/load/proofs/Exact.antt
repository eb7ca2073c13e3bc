-- The position of a refusal is at most 12 + 2 * cells + 6 * spans, so within these limits it is exact: nothing is capped. And a file that is not refused ends
-- with its end record. A record moves the place on by its own length, and what is still to come of cells and spans by as much back.
use Prim.Native.Nat.{ℕ, zero, suc, ◌+◌, ◌-◌, ◌*◌, ◌≤◌, ◌<◌}
use native.Mathlib.Omega.{arith}
use mathlib.Core.Path.{◌≡◌, refl}
use mathlib.Core.List.{List, [], ◌∷◌}
use lib.ListN.{length, get_or, take, drop}
use lib.Dec.{leb, ltb, eqb}
use borrow.Author.Tests.{eqb-true, ltb-false, leb-false, lt-ltb}
use Rattle.rules.specs.Base.{when◌then◌else◌}
use Rattle.rules.specs.Field.{Field}
use Rattle.rules.specs.Outcomes.{Sizes}
use Rattle.rules.specs.File.{word, with_cell, with_span, empty_field}
use Rattle.rules.specs.Load.{Placed, refused_at, describes, read_on_at, read_file_at, over, Told, refused_told, loaded_told, capped, told_by}
use Rattle.laws.proofs.Basics.{if-ind}

-- ---------------------------------------------------------------- the greatest place

-- a refusal's place is at most t
unfoldable pub Within : ℕ → Placed → Type 0
Within t (refused_at n p F) = p ≤ t
Within t (describes L) = Unit {0}

module _ (t : ℕ) where
  at : (n p : ℕ) (F : Field) → p ≤ t → Within t (refused_at n p F)
  unfolding Within
  at n p F h = h

  none-at : (F : Field) (z : Sizes) → Within t (describes (record { field = F; sizes = z }))
  unfolding Within
  none-at F z = tt

  -- what is still to come takes two bytes a cell and six a span, and the end record one
  within_on : (N k p cells due promised : ℕ) (bytes : List ℕ) (F : Field) (z : Sizes) → promised ≤ N → p + 2 * cells + 6 * due + 6 * (N - promised) + 1 ≤ t
      → Within t (read_on_at N k p cells due promised bytes F z)
  unfolding read_on_at
  within_on N zero p cells due promised bytes F z l h = at 20 p F (omega arith)
  within_on N (suc k) p cells due promised [] F z l h = at 20 p F (omega arith)
  within_on N (suc k) p cells (suc due) promised (kind ∷ rest) F z l h =
      if-ind (λ (x : Placed). Within t x) (eqb kind 3)
      (λ _. if-ind (λ (x : Placed). Within t x) (leb 5 (length rest))
      (λ _. within_on N k (p + 6) cells due promised (drop 5 rest) (with_span (take 5 rest) F) z l (omega arith))
      (λ e. at 20 (p + suc (length rest)) (with_span rest F) (omega (arith, leb-false 5 (length rest) e))))
      (λ _. at 20 p F (omega arith))
  within_on N (suc k) p (suc cells) zero promised (kind ∷ rest) F z l h =
      let c = get_or rest 0 0 in
      if-ind (λ (x : Placed). Within t x) (eqb kind 2)
      (λ _. if-ind (λ (x : Placed). Within t x) (leb 1 (length rest))
      (λ _. if-ind (λ (x : Placed). Within t x) (ltb N (promised + c)) (λ _. at 21 p F (omega arith))
      (λ e.
      let m : promised + c ≤ N = ltb-false N (promised + c) e in
      within_on N k (p + 2) cells c (promised + c) (drop 1 rest) (with_cell promised c F) z m (omega arith)))
      (λ e. at 20 (p + suc (length rest)) F (omega (arith, leb-false 1 (length rest) e))))
      (λ _. at 20 p F (omega arith))
  within_on N (suc k) p zero zero promised (kind ∷ rest) F z l h =
      if-ind (λ (x : Placed). Within t x) (eqb kind 4)
      (λ _. if-ind (λ (x : Placed). Within t x) (eqb (length rest) 0) (λ _. none-at F z) (λ _. at 20 (p + 1) F (omega arith)))
      (λ _. at 20 p F (omega arith))

  file_within : (M N : ℕ) (file : List ℕ) → 12 + 2 * M + 6 * N ≤ t → Within t (read_file_at M N file)
  unfolding read_file_at
  file_within M N [] l = at 20 0 (empty_field 0 0) (omega arith)
  file_within M N (kind ∷ rest) l =
      let w = word rest 0 in
      let h = word rest 2 in
      if-ind (λ (x : Placed). Within t x) (eqb kind 1)
      (λ _. if-ind (λ (x : Placed). Within t x) (leb 10 (length rest))
      (λ _. if-ind (λ (x : Placed). Within t x) (ltb M (w * h)) (λ _. at 21 0 (empty_field 0 0) (omega arith))
      (λ e.
      let m : w * h ≤ M = ltb-false M (w * h) e in
      within_on N (length rest) 11 (w * h) 0 0 (drop 10 rest) (empty_field w h) _ (omega arith) (omega arith)))
      (λ e. at 20 (suc (length rest)) (empty_field 0 0) (omega (arith, leb-false 10 (length rest) e))))
      (λ _. at 20 0 (empty_field 0 0) (omega arith))

-- at most 11 bytes of the header, two a cell, six a span, the end record, and the byte after it
pub place-within : (cells spans : ℕ) (file : List ℕ) → Within (12 + 2 * cells + 6 * spans) (read_file_at cells spans file)
place-within cells spans file = file_within (12 + 2 * cells + 6 * spans) cells spans file (omega arith)

-- ---------------------------------------------------------------- exactly

-- what a caller is told, with the place as it is
unfoldable pub told_exactly : List ℕ → List ℕ → List ℕ → List ℕ → Placed → Told
told_exactly index count area con (refused_at n p F) =
    refused_told n p (over F.index index) (over F.count count) (over F.area area) (over F.con con)
told_exactly index count area con (describes L) =
    let F = L.field in
    loaded_told F.w F.h L.sizes (length F.area) (over F.index index) (over F.count count) (over F.area area) (over F.con con)

exact : (index count area con : List ℕ) (t : ℕ) (x : Placed) → Within t x → t < 4294967295 → told_by index count area con x ≡ told_exactly index count area con x
unfolding Within told_by told_exactly capped when◌then◌else◌
exact index count area con t (refused_at n p F) h g = rw (lt-ltb p 4294967295 (omega arith))
exact index count area con t (describes L) h g = refl

-- "a position counted from 0": exact, not capped
pub position_exact : (cells spans : ℕ) (file index count area con : List ℕ) → 12 + 2 * cells + 6 * spans < 4294967295
    → told_by index count area con (read_file_at cells spans file) ≡ told_exactly index count area con (read_file_at cells spans file)
position_exact cells spans file index count area con h = exact index count area con (12 + 2 * cells + 6 * spans) (read_file_at cells spans file) (place-within cells spans file) h

-- ---------------------------------------------------------------- the end record

-- the last of a list, 0 for none
unfoldable pub last_of : List ℕ → ℕ
last_of [] = 0
last_of (b ∷ []) = b
last_of (b ∷ c ∷ l) = last_of (c ∷ l)

last_cons : (b : ℕ) (l : List ℕ) → last_of l ≡ 4 → last_of (b ∷ l) ≡ 4
unfolding last_of
last_cons b [] e = absurd (omega arith)
last_cons b (c ∷ l) e = e

last-drop : (k : ℕ) (l : List ℕ) → last_of (drop k l) ≡ 4 → last_of l ≡ 4
unfolding last_of
last-drop zero l e = e
last-drop (suc k) [] e = e
last-drop (suc k) (b ∷ l) e = last_cons b l (last-drop k l e)

-- where a field is described, these bytes end with an end record
unfoldable pub Ends : List ℕ → Placed → Type 0
Ends bytes (refused_at n p F) = Unit {0}
Ends bytes (describes L) = last_of bytes ≡ 4

ends_not : (bytes : List ℕ) (n p : ℕ) (F : Field) → Ends bytes (refused_at n p F)
unfolding Ends
ends_not bytes n p F = tt

ends_later : (b k : ℕ) (rest : List ℕ) (x : Placed) → Ends (drop k rest) x → Ends (b ∷ rest) x
unfolding Ends
ends_later b k rest (refused_at n p F) e = tt
ends_later b k rest (describes L) e = last_cons b rest (last-drop k rest e)

ends_here : (kind : ℕ) (rest : List ℕ) (F : Field) (z : Sizes) → kind ≡ 4 → length rest ≡ 0 → Ends (kind ∷ rest) (describes (record { field = F; sizes = z }))
unfolding Ends last_of
ends_here kind [] F z e f = e
ends_here kind (b ∷ rest) F z e f = absurd (omega arith)

ends_on : (N k p cells due promised : ℕ) (bytes : List ℕ) (F : Field) (z : Sizes) → Ends bytes (read_on_at N k p cells due promised bytes F z)
unfolding read_on_at
ends_on N zero p cells due promised bytes F z = ends_not bytes 20 p F
ends_on N (suc k) p cells due promised [] F z = ends_not [] 20 p F
ends_on N (suc k) p cells (suc due) promised (kind ∷ rest) F z =
    if-ind (λ (x : Placed). Ends (kind ∷ rest) x) (eqb kind 3)
    (λ _. if-ind (λ (x : Placed). Ends (kind ∷ rest) x) (leb 5 (length rest))
    (λ _. ends_later kind 5 rest _ (ends_on N k (p + 6) cells due promised (drop 5 rest) (with_span (take 5 rest) F) z))
    (λ _. ends_not (kind ∷ rest) 20 (p + suc (length rest)) (with_span rest F)))
    (λ _. ends_not (kind ∷ rest) 20 p F)
ends_on N (suc k) p (suc cells) zero promised (kind ∷ rest) F z =
    let c = get_or rest 0 0 in
    if-ind (λ (x : Placed). Ends (kind ∷ rest) x) (eqb kind 2)
    (λ _. if-ind (λ (x : Placed). Ends (kind ∷ rest) x) (leb 1 (length rest))
    (λ _. if-ind (λ (x : Placed). Ends (kind ∷ rest) x) (ltb N (promised + c)) (λ _. ends_not (kind ∷ rest) 21 p F)
    (λ _. ends_later kind 1 rest _ (ends_on N k (p + 2) cells c (promised + c) (drop 1 rest) (with_cell promised c F) z)))
    (λ _. ends_not (kind ∷ rest) 20 (p + suc (length rest)) F))
    (λ _. ends_not (kind ∷ rest) 20 p F)
ends_on N (suc k) p zero zero promised (kind ∷ rest) F z =
    if-ind (λ (x : Placed). Ends (kind ∷ rest) x) (eqb kind 4)
    (λ e. if-ind (λ (x : Placed). Ends (kind ∷ rest) x) (eqb (length rest) 0)
    (λ f. ends_here kind rest F z (eqb-true kind 4 e) (eqb-true (length rest) 0 f))
    (λ _. ends_not (kind ∷ rest) 20 (p + 1) F))
    (λ _. ends_not (kind ∷ rest) 20 p F)

-- a file that is not refused has the end record as its last byte
pub file_ends : (cells spans : ℕ) (file : List ℕ) → Ends file (read_file_at cells spans file)
unfolding read_file_at
file_ends cells spans [] = ends_not [] 20 0 (empty_field 0 0)
file_ends cells spans (kind ∷ rest) =
    let w = word rest 0 in
    let h = word rest 2 in
    if-ind (λ (x : Placed). Ends (kind ∷ rest) x) (eqb kind 1)
    (λ _. if-ind (λ (x : Placed). Ends (kind ∷ rest) x) (leb 10 (length rest))
    (λ _. if-ind (λ (x : Placed). Ends (kind ∷ rest) x) (ltb cells (w * h)) (λ _. ends_not (kind ∷ rest) 21 0 (empty_field 0 0))
    (λ _. ends_later kind 10 rest _ (ends_on spans (length rest) 11 (w * h) 0 0 (drop 10 rest) (empty_field w h) _)))
    (λ _. ends_not (kind ∷ rest) 20 (suc (length rest)) (empty_field 0 0)))
    (λ _. ends_not (kind ∷ rest) 20 0 (empty_field 0 0))
