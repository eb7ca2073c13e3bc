-- What an entry finds, as the code does: each answer of the code under what it has tested is the rule's look in one direction.
-- They hold because a missing neighbour has no area, and because a source distance stands at its span. Assumes nothing.
use mathlib.Core.Path.{◌≡◌, refl, sym, ap, ◌∙◌}
use mathlib.Core.Bool.{Bool, true, false, not, true≢false}
use mathlib.Core.List.{List}
use Prim.Native.Nat.{ℕ, ◌+◌, ◌*◌, ◌≤◌, ◌<◌}
use native.Mathlib.Omega.{arith}
use native.Mathlib.Decide.{ℕ_discrete}
use lib.ListN.{length, get_or, get_or-eq_default}
use lib.Seq.{get_or-take}
use lib.Dec.{eqb}
use borrow.Author.Tests.{eq-eqb, ne_eqb, lt-ltb, le-ltb, ltb-true}
use Rattle.rules.specs.Base.{◌and◌, ◌or◌, when◌then◌else◌, upto}
use Rattle.rules.specs.Field.{none}
use Rattle.rules.specs.Net.{Net, near, area_of}
use Rattle.rules.specs.Refusals.{most_spans}
use Rattle.rules.specs.Growth.{Marks, Taken, id_of, flagged, plain, look, takes, exceeds, strays}
use Rattle.laws.proofs.Basics.{both, if-ind, and_no, get_d_any, and_both, or_no, or_right, upto_next}
use Rattle.net.specs.Table.{net_at}
use Rattle.net.proofs.Tables.{area_at, near-at, net_few, net_inside}
use Rattle.flood.specs.Stack.{marks_at}
use Rattle.expand.specs.Layout.{offers, Sight}

keeps₁ : (g c : Bool) (x y : Taken) → g ≡ false → y ≡ (when g and c then x else y)
unfolding when◌then◌else◌ ◌and◌
keeps₁ g c x y e = rw e

keeps₂ : (g c : Bool) (x y : Taken) → c ≡ false → y ≡ (when g and c then x else y)
unfolding when◌then◌else◌
keeps₂ g c x y e = rw (e, and_no g)

takes₂ : (g c : Bool) (x y : Taken) → g ≡ true → c ≡ true → x ≡ (when g and c then x else y)
unfolding when◌then◌else◌ ◌and◌
takes₂ g c x y e f = rw (e, f)

pub none₁ : (g c : Bool) → g ≡ false → g and c ≡ false
unfolding ◌and◌
none₁ g c e = rw e

pub none₂ : (g c : Bool) → c ≡ false → g and c ≡ false
none₂ g c e = rw e (and_no g)

more : (x e : Bool) → e ≡ false → x ≡ x or e
more x e h = rw h (sym (or_no x))

four-or : (x a b c e : Bool) → x or (a or b or c or e) ≡ x or a or b or c or e
unfolding ◌or◌
four-or true a b c e = refl
four-or false a b c e = refl

-- the four places of a span are in the table
module _ (table : ℕ) (ar ids ws : List ℕ) (s : ℕ) (v : Sight table ar ids ws s) where
  pub sight_small : s < 65536
  sight_small = omega (arith, v.span, net_few table ar ws v.closed)

  pub sight_some : s ≡ none → ⊥
  sight_some z = omega (arith, v.span, net_few table ar ws v.closed)

  pub sight_slot : (d : ℕ) → d < 4 → table + (4 * s + d) < length ws
  sight_slot d h = omega (arith, v.room, v.span)

-- ---------------------------------------------------------------- a span that is looked at

module _ (ar ids : List ℕ) (own a : ℕ) where
  pub offers_none : length ar ≤ most_spans → own < 256 → a ≡ none → false ≡ offers ar ids own a
  unfolding offers ◌and◌
  offers_none n b z =
      let e : get_or ar a 256 ≡ 256 = get_or-eq_default ar 256 (omega arith) in
      rw (ne_eqb (get_or ar a 256) own (λ (y : get_or ar a 256 ≡ own). omega arith))

  module _ (h : a < length ar) where
    pub offers_area : (get_or ar a 0 ≡ own → ⊥) → false ≡ offers ar ids own a
    unfolding offers ◌and◌
    offers_area k = rw (get_d_any ar a 256 0 h, ne_eqb _ _ k)

    module _ (k : get_or ar a 0 ≡ own) where
      pub offers_plain : (r : Bool) → r ≡ plain (get_or ids a 0) → r ≡ offers ar ids own a
      unfolding offers ◌and◌
      offers_plain r e = rw (get_d_any ar a 256 0 h, eq-eqb _ _ k) e

pub plain_some : (r : ℕ) (b : Bool) → (r ≡ 0 → ⊥) → b ≡ flagged r → not b ≡ plain r
unfolding ◌and◌
plain_some r b z e = rw (ne_eqb r 0 z) (ap not e)

-- ---------------------------------------------------------------- one direction

module _ (table : ℕ) (ar ids ws : List ℕ) (s own d a : ℕ) (v : Sight table ar ids ws s) (h : d < 4) (q : own ≡ get_or ar s 0) (n : a ≡ get_or ws (table + (4 * s + d)) 0) where
  abbrev N : Net
  N = net_at table ar ws

  abbrev m : Marks
  m = marks_at (length ar) ids ws

  -- what is not none is a span
  pub sight_inside : (a ≡ none → ⊥) → a < length ar
  sight_inside z = net_inside table ar ws s d a v.closed v.room v.span h n z

  near_a : near N s d ≡ a
  near_a = near-at table ar ws s d v.room v.span h ∙ sym n

  own_area : area_of N s ≡ own
  own_area = area_at table ar ws s v.span ∙ sym q

  there : area_of N (near N s d) ≡ get_or ar a 256
  unfolding area_of net_at
  there = ap (area_of N) near_a

  at_id : get_or ids (near N s d) 0 ≡ get_or ids a 0
  at_id = ap (λ (x : ℕ). get_or ids x 0) near_a

  module _ (b : Bool) (o : b ≡ offers ar ids own a) where
    pub guard : eqb (area_of N (near N s d)) (area_of N s) and plain (id_of m (near N s d)) ≡ b
    unfolding offers
    guard = rw (there, own_area, at_id) (sym o)

    pub offers_inside : own < 256 → b ≡ true → a < length ar
    offers_inside l y = elim (ℕ_discrete a none) [
      | yes z ↦ absurd (true≢false (sym y ∙ o ∙ sym (offers_none ar ids own a (net_few table ar ws v.closed) l z)))
      | no z ↦ sight_inside z
    ]

    module _ (t : Taken) (x : Bool) where
      pub look_none : b ≡ false → (t ≡ look N m s d t) × (x ≡ x or exceeds N m s d)
      unfolding look exceeds
      look_none y = (keeps₁ _ _ _ _ (guard ∙ y), more x _ (none₁ _ _ (guard ∙ y)))

      module _ (y : b ≡ true) (i : a < length ar) (f : ℕ) (p : f ≡ get_or ws a 0) where
        pub at-far : get_or m.src (near N s d) 0 ≡ f
        at-far = rw (near_a, get_or-take (length ar) ws a 0 i) (sym p)

        -- the sum exceeds 65,535, and what is found is nearer
        pub look_stray : t.far ≤ 65535 → 65533 < f → (t ≡ look N m s d t) × (true ≡ x or exceeds N m s d)
        unfolding look exceeds
        look_stray g l = (
          keeps₂ _ _ _ _ (rw at-far (le-ltb (f + 2) t.far (omega arith))),
          sym (or_right x _ (and_both _ _ (guard ∙ y) (rw at-far (lt-ltb 65535 (f + 2) (omega arith))))),
        )

        module _ (c : ℕ) (w : c ≡ f + 2) (g : f ≤ 65533) where
          fits : x ≡ x or exceeds N m s d
          unfolding exceeds
          fits = more x _ (none₂ _ _ (rw at-far (le-ltb 65535 (f + 2) (omega arith))))

          pub look-far : t.far ≤ c → (t ≡ look N m s d t) × (x ≡ x or exceeds N m s d)
          unfolding look
          look-far e = (keeps₂ _ _ _ _ (rw (at-far, ← w) (le-ltb _ _ e)), fits)

          found : (r : ℕ) → r ≡ get_or ids a 0 → ◌≡◌ {A = Taken} (record { id = r; far = c }) (record { id = id_of m (near N s d); far = get_or m.src (near N s d) 0 + 2 })
          found r o = rw (at-far, at_id ∙ sym o, ← w) refl

          pub look-take : (r : ℕ) → r ≡ get_or ids a 0 → c < t.far → (record { id = r; far = c } ≡ look N m s d t) × (x ≡ x or exceeds N m s d)
          unfolding look
          look-take r o l = (found r o ∙ takes₂ _ _ _ t (guard ∙ y) (rw (at-far, ← w) (lt-ltb _ _ l)), fits)

look-near : (n : Net) (marks : Marks) (s d : ℕ) (t : Taken) → (look n marks s d t).far ≤ t.far
unfolding look
look-near n marks s d t =
    let f = get_or marks.src (near n s d) 0 + 2 in
    if-ind (λ (r : Taken). r.far ≤ t.far) _
    (λ e. let l : f < t.far = ltb-true f t.far (both _ _ e).1 in omega arith) (λ _. omega arith)

-- ---------------------------------------------------------------- the four directions

-- after d of them; x₀ tells whether a sum exceeded 65,535 before, x after
pub record Looking (N : Net) (m : Marks) (s : ℕ) (x₀ : Bool) (t : Taken) (x : Bool) (d : ℕ) : Type 0 where
  pub few : d ≤ 4
  pub same : t ≡ upto d (look N m s) (record { id = 0; far = 65535 })
  pub stray : x ≡ upto d (λ k y. y or exceeds N m s k) x₀
  pub near : t.far ≤ 65535

module _ (N : Net) (m : Marks) (s : ℕ) (x₀ : Bool) where
  pub looking_start : Looking N m s x₀ (record { id = 0; far = 65535 }) x₀ 0
  unfolding upto
  looking_start = record { few = omega arith; same = refl; stray = refl; near = omega arith }

  module _ (t : Taken) (x : Bool) (d : ℕ) (v : Looking N m s x₀ t x d) where
    pub looking_next : (t' : Taken) (x' : Bool) → d < 4 → (t' ≡ look N m s d t) × (x' ≡ x or exceeds N m s d) → Looking N m s x₀ t' x' (d + 1)
    looking_next t' x' h e = record {
      few = omega arith;
      same = e.0 ∙ ap (look N m s d) v.same ∙ sym (upto_next d (look N m s) (record { id = 0; far = 65535 }));
      stray = e.1 ∙ ap (λ (y : Bool). y or exceeds N m s d) v.stray ∙ sym (upto_next d (λ k y. y or exceeds N m s k) x₀);
      near = rw e.0 (omega (arith, look-near N m s d t, v.near));
    }

    pub looking_done : 4 ≤ d → (s ≡ none → ⊥) → (t ≡ takes N m s) × (x ≡ x₀ or strays N m s)
    unfolding takes strays upto ◌and◌
    looking_done h n =
        let z : d ≡ 4 = omega (arith, v.few) in
        let q : not (eqb s none) ≡ true = rw (ne_eqb s none n) refl in
        (rw z at v.same, (rw z at v.stray) ∙ sym (rw q (four-or x₀ (exceeds N m s 0) (exceeds N m s 1) (exceeds N m s 2) (exceeds N m s 3))))
