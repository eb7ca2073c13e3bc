-- What reading a whole file comes to, within its limits: a refusal is 20 or 21, and a described field has lists of the right lengths and numbers of 16 bits.
-- The field so far keeps its lengths with each record, as the loader's does.
use Prim.Native.Nat.{ℕ, zero, suc, ◌+◌, ◌-◌, ◌*◌, ◌≤◌, ◌<◌}
use native.Mathlib.Omega.{arith}
use mathlib.Core.Path.{◌≡◌, refl}
use mathlib.Core.Logic.{◌⊎◌, inl, inr}
use mathlib.Core.List.{List, [], ◌∷◌}
use lib.ListN.{length, get_or, take, drop, length-append, length-drop}
use lib.Seq.{length-take-le}
use lib.Dec.{leb, ltb, eqb}
use borrow.Author.Tests.{ltb-false, leb-true}
use Rattle.rules.specs.Field.{Field}
use Rattle.rules.specs.Outcomes.{Sizes}
use Rattle.rules.specs.File.{Level, word, with_cell, with_span, empty_field}
use Rattle.rules.specs.Load.{Placed, refused_at, describes, read_on_at, read_file_at}
use Rattle.laws.proofs.Basics.{if-ind}

-- a field within the limits, with all its cells and spans
pub record Measured (M N : ℕ) (L : Level) : Type 0 where
  pub w : L.field.w ≤ 65535
  pub h : L.field.h ≤ 65535
  pub border : L.sizes.border ≤ 65535
  pub least : L.sizes.least ≤ 65535
  pub merge : L.sizes.merge ≤ 65535
  pub indices : length L.field.index ≡ L.field.w * L.field.h
  pub counts : length L.field.count ≡ L.field.w * L.field.h
  pub cons : length L.field.con ≡ 4 * length L.field.area
  pub cells : L.field.w * L.field.h ≤ M
  pub spans : length L.field.area ≤ N

unfoldable pub Fine : ℕ → ℕ → Placed → Type 0
Fine M N (refused_at n p F) = (n ≡ 20) ⊎ (n ≡ 21)
Fine M N (describes L) = Measured M N L

module _ (M N : ℕ) where
  bad : (p : ℕ) (F : Field) → Fine M N (refused_at 20 p F)
  unfolding Fine
  bad p F = inl refl

  large : (p : ℕ) (F : Field) → Fine M N (refused_at 21 p F)
  unfolding Fine
  large p F = inr refl

  -- the field so far, and what is still to come
  record Going (F : Field) (z : Sizes) (cells due promised : ℕ) : Type 0 where
    w : F.w ≤ 65535
    h : F.h ≤ 65535
    border : z.border ≤ 65535
    least : z.least ≤ 65535
    merge : z.merge ≤ 65535
    indices : length F.index + cells ≡ F.w * F.h
    counts : length F.count ≡ length F.index
    areas : length F.area + due ≡ promised
    cons : length F.con ≡ 4 * length F.area
    most : F.w * F.h ≤ M
    few : promised ≤ N

  going-span : (F : Field) (z : Sizes) (cells due promised : ℕ) (rest : List ℕ) → Going F z cells (suc due) promised → 5 ≤ length rest → Going (with_span (take 5 rest) F) z cells due promised
  unfolding with_span
  going-span F z cells due promised rest g h =
      let five : length (take 5 rest) ≡ 5 = length-take-le 5 rest h in
      let one : length (take 1 (take 5 rest)) ≡ 1 = length-take-le 1 (take 5 rest) (omega arith) in
      let rem : length (drop 1 (take 5 rest)) ≡ length (take 5 rest) - 1 = length-drop 1 (take 5 rest) in
      let four : length (take 4 (drop 1 (take 5 rest))) ≡ 4 = length-take-le 4 (drop 1 (take 5 rest)) (omega arith) in
      let a = length-append F.area (take 1 (take 5 rest)) in
      let c = length-append F.con (take 4 (drop 1 (take 5 rest))) in
      let e = g.areas in
      let f = g.cons in
      record {
        w = g.w;
        h = g.h;
        border = g.border;
        least = g.least;
        merge = g.merge;
        indices = g.indices;
        counts = g.counts;
        areas = omega arith;
        cons = omega arith;
        most = g.most;
        few = g.few;
      }

  going-cell : (F : Field) (z : Sizes) (cells promised c : ℕ) → Going F z (suc cells) 0 promised → promised + c ≤ N → Going (with_cell promised c F) z cells c (promised + c)
  unfolding with_cell
  going-cell F z cells promised c g n =
      let i = length-append F.index (promised ∷ []) in
      let k = length-append F.count (c ∷ []) in
      let e = g.indices in
      let f = g.counts in
      let a = g.areas in
      record {
        w = g.w;
        h = g.h;
        border = g.border;
        least = g.least;
        merge = g.merge;
        indices = omega arith;
        counts = omega arith;
        areas = omega arith;
        cons = g.cons;
        most = g.most;
        few = n;
      }

  whole : (F : Field) (z : Sizes) (promised : ℕ) → Going F z 0 0 promised → Fine M N (describes (record { field = F; sizes = z }))
  unfolding Fine
  whole F z promised g =
      let e = g.indices in
      let f = g.counts in
      let a = g.areas in
      let b = g.few in
      record {
        w = g.w;
        h = g.h;
        border = g.border;
        least = g.least;
        merge = g.merge;
        indices = omega arith;
        counts = omega arith;
        cons = g.cons;
        cells = g.most;
        spans = omega arith;
      }

  fine_on : (k p cells due promised : ℕ) (bytes : List ℕ) (F : Field) (z : Sizes) → Going F z cells due promised → Fine M N (read_on_at N k p cells due promised bytes F z)
  unfolding read_on_at
  fine_on zero p cells due promised bytes F z g = bad p F
  fine_on (suc k) p cells due promised [] F z g = bad p F
  fine_on (suc k) p cells (suc due) promised (kind ∷ rest) F z g =
      if-ind (λ (x : Placed). Fine M N x) (eqb kind 3)
      (λ _. if-ind (λ (x : Placed). Fine M N x) (leb 5 (length rest))
      (λ e. fine_on k (p + 6) cells due promised (drop 5 rest) (with_span (take 5 rest) F) z (going-span F z cells due promised rest g (leb-true 5 (length rest) e)))
      (λ _. bad (p + suc (length rest)) (with_span rest F)))
      (λ _. bad p F)
  fine_on (suc k) p (suc cells) zero promised (kind ∷ rest) F z g =
      let c = get_or rest 0 0 in
      if-ind (λ (x : Placed). Fine M N x) (eqb kind 2)
      (λ _. if-ind (λ (x : Placed). Fine M N x) (leb 1 (length rest))
      (λ _. if-ind (λ (x : Placed). Fine M N x) (ltb N (promised + c)) (λ _. large p F)
      (λ e. fine_on k (p + 2) cells c (promised + c) (drop 1 rest) (with_cell promised c F) z (going-cell F z cells promised c g (ltb-false N (promised + c) e))))
      (λ _. bad (p + suc (length rest)) F))
      (λ _. bad p F)
  fine_on (suc k) p zero zero promised (kind ∷ rest) F z g =
      if-ind (λ (x : Placed). Fine M N x) (eqb kind 4)
      (λ _. if-ind (λ (x : Placed). Fine M N x) (eqb (length rest) 0) (λ _. whole F z promised g) (λ _. bad (p + 1) F))
      (λ _. bad p F)

  -- a number of two bytes
  small : (l : List ℕ) (i : ℕ) → ((j : ℕ) → get_or l j 0 < 256) → word l i ≤ 65535
  unfolding word
  small l i g = let a = g i in let b = g (i + 1) in omega arith

  first : (rest : List ℕ) → ((j : ℕ) → get_or rest j 0 < 256) → word rest 0 * word rest 2 ≤ M
      → Going (empty_field (word rest 0) (word rest 2)) (record { border = word rest 4; least = word rest 6; merge = word rest 8 }) (word rest 0 * word rest 2) 0 0
  unfolding empty_field
  first rest g n = record {
    w = small rest 0 g;
    h = small rest 2 g;
    border = small rest 4 g;
    least = small rest 6 g;
    merge = small rest 8 g;
    indices = omega arith;
    counts = refl;
    areas = refl;
    cons = refl;
    most = n;
    few = omega arith;
  }

  pub file_fine : (file : List ℕ) → ((i : ℕ) → get_or file i 0 < 256) → Fine M N (read_file_at M N file)
  unfolding read_file_at
  file_fine [] g = bad 0 (empty_field 0 0)
  file_fine (kind ∷ rest) g =
      let w = word rest 0 in
      let h = word rest 2 in
      if-ind (λ (x : Placed). Fine M N x) (eqb kind 1)
      (λ _. if-ind (λ (x : Placed). Fine M N x) (leb 10 (length rest))
      (λ _. if-ind (λ (x : Placed). Fine M N x) (ltb M (w * h)) (λ _. large 0 (empty_field 0 0))
      (λ e. fine_on (length rest) 11 (w * h) 0 0 (drop 10 rest) (empty_field w h) _ (first rest (λ j. g (suc j)) (ltb-false M (w * h) e))))
      (λ _. bad (suc (length rest)) (empty_field 0 0)))
      (λ _. bad 0 (empty_field 0 0))
