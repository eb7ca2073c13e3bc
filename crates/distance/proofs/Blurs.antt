-- What the blur and the greatest value come to: a value that is there is read, and one that is not is past the list, where the rule reads c.
-- Nine values of at most 65,535 have a rounded mean that fits again.
use Prim.Native.Nat.{ℕ, ◌+◌, ◌*◌, ◌/◌, ◌%◌, ◌≤◌, ◌<◌, max}
use native.Mathlib.Omega.{arith}
use native.Mathlib.Numerals.{add-one}
use mathlib.Core.Path.{◌≡◌, refl, sym, ap, ◌∙◌}
use mathlib.Core.List.{List, []}
use lib.ListN.{length, get_or, set, drop, drop_of_length-le, get_or-eq_default}
use lib.Seq.{drop-cons}
use borrow.Author.Tests.{le-leb, lt-leb}
use Rattle.rules.specs.Base.{when◌then◌else◌, upto}
use Rattle.rules.specs.Field.{Field, spans, near, corner, cell_to}
use Rattle.rules.specs.Distance.{greatest, term, blur_at}
use Rattle.laws.proofs.Basics.{get_d_any}
use Rattle.laws.proofs.Passes.{none-near}
use Rattle.field.specs.Lent.{Stands, Reached, Leaf, cons_at}
use Rattle.field.proofs.Loops.{upto_go}
use Rattle.field.proofs.Places.{turned}
use Rattle.rules.specs.Rows.{blur_to}
use Rattle.rules.specs.Refusals.{most_spans}
use Rattle.distance.proofs.Values.{missing, step_is, step_stands}

-- ---------------------------------------------------------------- the greatest value

pub greatest_go : (l : List ℕ) (i best b : ℕ) → i < length l → greatest l ≡ max best (greatest (drop i l)) → b ≡ max best (get_or l i 0)
    → greatest l ≡ max b (greatest (drop (i + 1) l))
unfolding greatest
greatest_go l i best b h e f =
    let q : greatest (drop i l) ≡ max (get_or l i 0) (greatest (drop (i + 1) l)) = rw (add-one, drop-cons l i 0 h) refl in
    omega arith

pub greatest-end : (l : List ℕ) (i best : ℕ) → length l ≤ i → greatest l ≡ max best (greatest (drop i l)) → best ≡ greatest l
unfolding greatest
greatest-end l i best h e =
    let q : drop i l ≡ [] = drop_of_length-le l h in
    let z : greatest (drop i l) ≡ 0 = rw q in
    omega arith

-- ---------------------------------------------------------------- the terms of a direction

module _ (F : Field) (ok : Reached F) (l : List ℕ) (c s d v : ℕ) (st : Stands F c s) (z : length l ≡ spans F) (cons : List ℕ) (q : cons ≡ cons_at F.con s) (g : d < 4) where
  none_value : get_or l 65535 v ≡ v
  none_value = let f : length l ≤ most_spans = omega (arith, ok.celled.few) in get_or-eq_default l v (omega arith)

  pub term-none : get_or cons d 0 ≡ 255 → v * 2 ≡ term F l s v d
  unfolding term corner
  term-none y =
      let m : near F s d ≡ 65535 = missing F ok c s st cons q d g y in
      let f = none_value in
      rw (m, none-near F ((d + 1) % 4) (omega (arith, ok.celled.linked, ok.celled.few))) (omega arith)

  -- the neighbour t, in cell a
  module _ (t a : ℕ) (n : (G : Field) (r : ℕ) → Leaf G F.w F.index cons c r → t ≡ near G r d) (p : a ≡ cell_to F.w c d) (k : t ≡ 65535 → ⊥) where
    at-near : near F s d ≡ t
    at-near = sym (step_is F ok c s st cons q d g t a n)

    there : Stands F a t
    there = step_stands F ok c s st cons q d g t a n p k

    pub term_in : t < length l
    term_in = omega (arith, there.span)

    -- which has the connections next
    module _ (next : List ℕ) (b : next ≡ cons_at F.con t) (y : ℕ) (e : y ≡ get_or l t 0) where
      pub term-one : get_or next ((d + 1) % 4) 0 ≡ 255 → y + v ≡ term F l s v d
      unfolding term corner
      term-one u =
          let m : near F t ((d + 1) % 4) ≡ 65535 = missing F ok a t there next b ((d + 1) % 4) (turned d 1) u in
          let f = none_value in
          rw (at-near, m) (omega (arith, get_d_any l t v 0 term_in))

      -- the corner neighbour x, in cell i
      module _ (x i : ℕ) (m : (G : Field) (r : ℕ) → Leaf G F.w F.index next a r → x ≡ near G r ((d + 1) % 4)) (w : i ≡ cell_to F.w a ((d + 1) % 4)) (j : x ≡ 65535 → ⊥) where
        at-corner : corner F s d ≡ x
        unfolding corner
        at-corner = ap (λ (y : ℕ). near F y ((d + 1) % 4)) at-near ∙ sym (step_is F ok a t there next b ((d + 1) % 4) (turned d 1) x i m)

        pub corner_in : x < length l
        corner_in = let u = step_stands F ok a t there next b ((d + 1) % 4) (turned d 1) x i m w j in omega (arith, u.span)

        pub term-two : (r : ℕ) → r ≡ get_or l x 0 → y + r ≡ term F l s v d
        unfolding term
        term-two r h = rw (at-near, at-corner) (omega (arith, get_d_any l t v 0 term_in, get_d_any l x v 0 corner_in))

-- ---------------------------------------------------------------- a span

module _ (F : Field) (l : List ℕ) (s v : ℕ) (q : v ≡ get_or l s 0) where
  pub blur-stays : v ≤ 2 → v ≡ blur_at F l s
  unfolding blur_at when◌then◌else◌
  blur-stays h = rw (← q, le-leb v 2 h)

  pub blur_mean : (a b c d : ℕ) → 2 < v → a ≡ term F l s v 0 → b ≡ term F l s v 1 → c ≡ term F l s v 2 → d ≡ term F l s v 3 → (v + a + b + c + d + 5) / 9 ≡ blur_at F l s
  unfolding blur_at when◌then◌else◌
  blur_mean a b c d h e₀ e₁ e₂ e₃ = rw (← q, lt-leb v 2 h, ← e₀, ← e₁, ← e₂, ← e₃)

-- one layer more: x is the blurred value of span i + j
pub blur_go : (F : Field) (raw : List ℕ) (i j x : ℕ) (l m : List ℕ) → m ≡ upto j (λ t. blur_to F raw (i + t)) l → x ≡ blur_at F raw (i + j)
    → set m (i + j) x ≡ upto (j + 1) (λ t. blur_to F raw (i + t)) l
unfolding blur_to
blur_go F raw i j x l m p q = upto_go (λ t. blur_to F raw (i + t)) j l m (set m (i + j) x) p (ap (set m (i + j)) q)

-- the same over spans in order
pub blur_next : (F : Field) (raw : List ℕ) (s x : ℕ) (l m : List ℕ) → m ≡ upto s (blur_to F raw) l → x ≡ blur_at F raw s → set m s x ≡ upto (s + 1) (blur_to F raw) l
unfolding blur_to
blur_next F raw s x l m p q = upto_go (blur_to F raw) s l m (set m s x) p (ap (set m s) q)
