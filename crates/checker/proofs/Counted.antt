-- Connections counted part by part: a + k numbers are a numbers and the k that follow, and the connections of n spans are those of each direction.
use Prim.Native.Nat.{ℕ, zero, suc, ◌+◌, ◌*◌, ◌-◌, ◌/◌, ◌%◌, ◌≤◌, ◌<◌}
use native.Mathlib.Omega.{arith}
use native.Mathlib.Nat.{le_refl}
use native.Mathlib.Numerals.{add-one}
use native.Mathlib.Decide.{ℕ_discrete}
use mathlib.Core.Path.{◌≡◌, refl, sym, ap, ◌∙◌}
use mathlib.Core.Bool.{Bool, true, false, not}
use mathlib.Core.List.{List}
use lib.ListN.{length, get_or}
use lib.Dec.{eqb, leb, ltb}
use borrow.Author.Tests.{eq-eqb, ne_eqb, lt-ltb, le-ltb, lt-leb, le-leb}
use mir.Val.{Fits}
use mir.Syntax.{w64}
use Rattle.rules.specs.Base.{◌and◌, when◌then◌else◌}
use Rattle.rules.specs.Field.{Field, spans, con_of}
use Rattle.rules.specs.Refusals.{most_spans}
use Rattle.laws.proofs.Basics.{if-ind, tests, get_d_any, and_no}
use Rattle.field.proofs.Loops.{and_yes}
use Rattle.checker.specs.Links.{how_many, in_half, links_in}

pub many_ext : (n : ℕ) (p q : ℕ → Bool) → ((i : ℕ) → i < n → p i ≡ q i) → how_many n p ≡ how_many n q
unfolding how_many
many_ext zero p q h = refl
many_ext (suc n) p q h = rw (many_ext n p q (λ i g. h i (omega arith)), h n (omega arith))

pub many_le : (n : ℕ) (p : ℕ → Bool) → how_many n p ≤ n
unfolding how_many
many_le zero p = le_refl 0
many_le (suc n) p = let h = many_le n p in if-ind (λ k. k ≤ suc n) (p n) (λ _. omega arith) (λ _. omega arith)

many_join : (a k : ℕ) (p : ℕ → Bool) → how_many (a + k) p ≡ how_many a p + how_many k (λ j. p (a + j))
unfolding how_many when◌then◌else◌
many_join a zero p = let e : a + 0 ≡ a = omega arith in rw e (omega arith)
many_join a (suc k) p = let e : a + suc k ≡ suc (a + k) = omega arith in rw (e, many_join a k p) (more (p (a + k)) (how_many a p) (how_many k (λ j. p (a + j))))
  where
    more : (b : Bool) (x y : ℕ) → (when b then suc (x + y) else (x + y)) ≡ x + (when b then suc y else y)
    more true x y = omega arith
    more false x y = refl

-- ---------------------------------------------------------------- the parts

pub most_few : (n : ℕ) → n < 224 → n ≡ (when ltb n 224 then n else 224)
unfolding when◌then◌else◌
most_few n h = rw (lt-ltb n 224 h)

pub most_many : (n : ℕ) → 224 ≤ n → 224 ≡ (when ltb n 224 then n else 224)
unfolding when◌then◌else◌
most_many n h = rw (le-ltb n 224 h)

pub counted_none : (k x a : ℕ) → x ≡ 255 → k ≡ (when eqb x 255 then k else k + a)
unfolding when◌then◌else◌
counted_none k x a e = rw (eq-eqb x 255 e)

pub counted_some : (k x a : ℕ) → (x ≡ 255 → ⊥) → k + a ≡ (when eqb x 255 then k else k + a)
unfolding when◌then◌else◌
counted_some k x a e = rw (ne_eqb x 255 e)

-- one more connection
module _ (cs : List ℕ) (b o j k : ℕ) (e : k ≡ links_in cs o b j) where
  pub part_room : (m : ℕ) → j < m → m ≤ 224 → k + (j + o) % 4 / 2 < 256
  unfolding links_in
  part_room m h g = omega (arith, many_le j (λ i. in_half cs o (b + i)))

  weight : b % 4 ≡ 0 → (when eqb (get_or cs (b + j) 0) 255 then k else k + (j + o) % 4 / 2) ≡ (when in_half cs o (b + j) then suc k else k)
  unfolding in_half when◌then◌else◌ ◌and◌
  weight a =
      elim (ℕ_discrete (get_or cs (b + j) 0) 255) [
        | yes z ↦ rw (eq-eqb (get_or cs (b + j) 0) 255 z)
        | no z ↦ rw (ne_eqb (get_or cs (b + j) 0) 255 z) (half (leb 2 ((b + j + o) % 4)) refl)
      ]
    where
      half : (t : Bool) → leb 2 ((b + j + o) % 4) ≡ t → k + (j + o) % 4 / 2 ≡ (when t then suc k else k)
      half true z = omega tests
      half false z = omega tests

  pub part-turn : (r : ℕ) → b % 4 ≡ 0 → r ≡ (when eqb (get_or cs (b + j) 0) 255 then k else k + (j + o) % 4 / 2) → r ≡ links_in cs o b (j + 1)
  unfolding links_in how_many
  part-turn r a f = f ∙ weight a ∙ rw (add-one, e)

  pub part_end : (m : ℕ) → j ≤ m → m ≤ j → k ≡ links_in cs o b m
  part_end m h g = let q : m ≡ j = omega arith in rw q e

-- one more part
module _ (b m n : ℕ) (f : m ≡ (when ltb (n - b) 224 then (n - b) else 224)) where
  -- up to the end, or of whole spans
  most_is : b < n → (0 < m) × (b + m ≤ n) × (m ≤ 224) × (n % 4 ≡ 0 → b % 4 ≡ 0 → (b + m) % 4 ≡ 0)
  most_is h = rw f
      (if-ind (λ (x : ℕ). (0 < x) × (b + x ≤ n) × (x ≤ 224) × (n % 4 ≡ 0 → b % 4 ≡ 0 → (b + x) % 4 ≡ 0)) (ltb (n - b) 224)
      (λ z. (omega tests, omega tests, omega tests, λ u v. let q : b + (n - b) ≡ n = omega arith in rw q u))
      (λ z. (omega tests, omega tests, omega tests, λ u v. omega arith)))

  pub most_less : b < n → n - (b + m) < n - b
  most_less h = omega (arith, (most_is h).0)

  pub most_in_lem : b < n → b + m ≤ n
  most_in_lem h = (most_is h).1

  pub most_byte : b < n → m ≤ 224
  most_byte h = (most_is h).2

  pub most_whole : b < n → n % 4 ≡ 0 → b % 4 ≡ 0 → (b + m) % 4 ≡ 0
  most_whole h = (most_is h).3

from_start_lem : (cs : List ℕ) (o n : ℕ) → links_in cs o 0 n ≡ how_many n (in_half cs o)
unfolding links_in
from_start_lem cs o n = many_ext n (λ j. in_half cs o (0 + j)) (in_half cs o) (λ j h. let e : 0 + j ≡ j = omega arith in ap (in_half cs o) e)

pub parts_turn : (cs : List ℕ) (o b k m r : ℕ) → k ≡ links_in cs o 0 b → r ≡ links_in cs o b m → k + r ≡ links_in cs o 0 (b + m)
unfolding links_in
parts_turn cs o b k m r e f = rw (e, f, from_start_lem cs o b, from_start_lem cs o (b + m)) (sym (many_join b m (in_half cs o)))

pub parts_fit : (cs : List ℕ) (o b k m n r : ℕ) → k ≡ links_in cs o 0 b → r ≡ links_in cs o b m → b + m ≤ n → n ≤ 4 * most_spans → Fits w64 (k + r)
unfolding links_in
parts_fit cs o b k m n r e f h g = omega (arith, many_le b (λ j. in_half cs o (0 + j)), many_le m (λ j. in_half cs o (b + j)))

-- ---------------------------------------------------------------- span by span

-- a connection of the half counts unless it is none, one of the other does not
in_half_lem : (cs : List ℕ) (o i : ℕ) → 2 ≤ (i + o) % 4 → in_half cs o i ≡ not (eqb (get_or cs i 0) 255)
unfolding in_half
in_half_lem cs o i h = rw (le-leb 2 ((i + o) % 4) h) (and_yes (not (eqb (get_or cs i 0) 255)))

not_half : (cs : List ℕ) (o i : ℕ) → (i + o) % 4 < 2 → in_half cs o i ≡ false
unfolding in_half
not_half cs o i h = rw (lt-leb 2 ((i + o) % 4) h) (and_no (not (eqb (get_or cs i 0) 255)))

-- span s has a connection in direction d
unfoldable pub has_link : Field → ℕ → ℕ → Bool
has_link F d s = not (eqb (con_of F s d) 255)

module _ (F : Field) (ok : length F.con ≡ 4 * spans F) where
  linked_at : (s d i : ℕ) → i ≡ 4 * s + d → s < spans F → d < 4 → not (eqb (get_or F.con i 0) 255) ≡ has_link F d s
  unfolding has_link con_of
  linked_at s d i e h l = rw (e, get_d_any F.con (4 * s + d) 0 255 (omega arith))

  -- two that count, one after the other
  two_more : (a b : Bool) (x y : ℕ) → (when b then suc (when a then suc (x + y) else (x + y)) else (when a then suc (x + y) else (x + y))) ≡ (when a then suc x else x) + (when b then suc y else y)
  unfolding when◌then◌else◌
  two_more true true x y = omega arith
  two_more true false x y = omega arith
  two_more false true x y = omega arith
  two_more false false x y = refl

  low_spans : (n : ℕ) → n ≤ spans F → how_many (4 * n) (in_half F.con 2) ≡ how_many n (has_link F 0) + how_many n (has_link F 1)
  unfolding how_many when◌then◌else◌
  low_spans zero h = refl
  low_spans (suc n) h =
      let e : 4 * suc n ≡ suc (suc (suc (suc (4 * n)))) = omega arith in
      rw (
        e,
        not_half F.con 2 (suc (suc (suc (4 * n)))) (omega arith),
        not_half F.con 2 (suc (suc (4 * n))) (omega arith),
        in_half_lem F.con 2 (suc (4 * n)) (omega arith),
        in_half_lem F.con 2 (4 * n) (omega arith),
        linked_at n 0 (4 * n) (omega arith) (omega arith) (omega arith),
        linked_at n 1 (suc (4 * n)) (omega arith) (omega arith) (omega arith),
        low_spans n (omega arith),
      )
      (two_more (has_link F 0 n) (has_link F 1 n) (how_many n (has_link F 0)) (how_many n (has_link F 1)))

  high_spans : (n : ℕ) → n ≤ spans F → how_many (4 * n) (in_half F.con 0) ≡ how_many n (has_link F 2) + how_many n (has_link F 3)
  unfolding how_many when◌then◌else◌
  high_spans zero h = refl
  high_spans (suc n) h =
      let e : 4 * suc n ≡ suc (suc (suc (suc (4 * n)))) = omega arith in
      rw (
        e,
        in_half_lem F.con 0 (suc (suc (suc (4 * n)))) (omega arith),
        in_half_lem F.con 0 (suc (suc (4 * n))) (omega arith),
        not_half F.con 0 (suc (4 * n)) (omega arith),
        not_half F.con 0 (4 * n) (omega arith),
        linked_at n 2 (suc (suc (4 * n))) (omega arith) (omega arith) (omega arith),
        linked_at n 3 (suc (suc (suc (4 * n)))) (omega arith) (omega arith) (omega arith),
        high_spans n (omega arith),
      )
      (two_more (has_link F 2 n) (has_link F 3 n) (how_many n (has_link F 2)) (how_many n (has_link F 3)))

  pub low_links : links_in F.con 2 0 (length F.con) ≡ how_many (spans F) (has_link F 0) + how_many (spans F) (has_link F 1)
  low_links = from_start_lem F.con 2 (length F.con) ∙ rw ok (low_spans (spans F) (le_refl (spans F)))

  pub high_links : links_in F.con 0 0 (length F.con) ≡ how_many (spans F) (has_link F 2) + how_many (spans F) (has_link F 3)
  high_links = from_start_lem F.con 0 (length F.con) ∙ rw ok (high_spans (spans F) (le_refl (spans F)))
