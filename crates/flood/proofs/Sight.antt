-- What a span sees in one direction, as the code finds it: each answer of the code under what it has tested is the rule's.
-- They hold because a missing neighbour has no area. Assumes nothing.
use mathlib.Core.Path.{◌≡◌, refl, sym, ap, ◌∙◌}
use mathlib.Core.Bool.{Bool, true, false}
use mathlib.Core.List.{List}
use Prim.Native.Nat.{ℕ, zero, suc, ◌+◌, ◌*◌, ◌-◌, ◌%◌, ◌≤◌, ◌<◌}
use native.Mathlib.Omega.{arith}
use lib.ListN.{length, get_or, get_or-eq_default}
use lib.Dec.{eqb}
use borrow.Author.Tests.{eq-eqb, ne_eqb}
use Rattle.rules.specs.Base.{◌and◌, when◌then◌else◌}
use Rattle.rules.specs.Field.{none}
use Rattle.rules.specs.Net.{Net, near, corner, area_of}
use Rattle.rules.specs.Growth.{Marks, Seed, flagged, other, sees, or_else, objects}
use Rattle.rules.specs.Refusals.{most_spans}
use Rattle.laws.proofs.Basics.{get_d_any}
use Rattle.field.proofs.Places.{turned}
use Rattle.net.specs.Table.{net_at, AtSpan}
use Rattle.net.proofs.Tables.{area_at, area_none, near-at, near_is}
use Rattle.flood.specs.declared.look.View.{View}
use Rattle.flood.specs.declared.look.View.TheVariants.{Nothing, TheEnd, Objection}
use Rattle.flood.specs.Looks.{view_number, bears, sees_from}
use Rattle.flood.specs.Stack.{marks_at}

-- ---------------------------------------------------------------- a span that is looked at

module _ (ar ids : List ℕ) (q : Seed) (u : ℕ) where
  pub bears-none : length ar ≤ most_spans → q.area < 256 → u ≡ 65535 → false ≡ bears ar ids q u
  unfolding bears ◌and◌
  bears-none n b z =
      let e : get_or ar u 256 ≡ 256 = get_or-eq_default ar 256 (omega arith) in
      let k : eqb (get_or ar u 256) q.area ≡ false = ne_eqb (get_or ar u 256) q.area (λ (y : get_or ar u 256 ≡ q.area). omega arith) in
      rw k

  pub bears-other_area : u < length ar → (get_or ar u 0 ≡ q.area → ⊥) → false ≡ bears ar ids q u
  unfolding bears ◌and◌
  bears-other_area h k = rw (get_d_any ar u 256 0 h, ne_eqb _ _ k)

  pub bears-same_area : (r : Bool) → u < length ar → get_or ar u 0 ≡ q.area → r ≡ other q.id (get_or ids u 0) → r ≡ bears ar ids q u
  unfolding bears ◌and◌
  bears-same_area r h k o = rw (get_d_any ar u 256 0 h, eq-eqb _ _ k) o

-- ---------------------------------------------------------------- one direction

module _ (table : ℕ) (ar ids ws cons : List ℕ) (q : Seed) (s d : ℕ) (v : AtSpan table ar ws cons s) (hd : d < 4) where
  no_area : (N : Net) (t : ℕ) → near N s d ≡ none → area_of N none ≡ 256 → q.area < 256 → eqb (area_of N (near N s d)) q.area ≡ false
  no_area N t e a b = ne_eqb _ _ (λ (y : area_of N (near N s d) ≡ q.area). omega (arith, ap (area_of N) e))

  pub sees-none : q.area < 256 → get_or cons d 0 ≡ 255 → 0 ≡ sees (net_at table ar ws) (marks_at (length ar) ids ws) q s d
  unfolding sees when◌then◌else◌
  sees-none b z = rw (no_area (net_at table ar ws) 0 (v.opens.shut d hd z) (area_none (net_at table ar ws) v.closed) b)

  module _ (t : ℕ) (e : t ≡ get_or ws (table + (4 * s + d)) 0) (h : t < length ar) where
    area_there : area_of (net_at table ar ws) (near (net_at table ar ws) s d) ≡ get_or ar t 0
    area_there = ap (area_of (net_at table ar ws)) (near_is table ar ws cons s d t v hd e) ∙ area_at table ar ws t h

    pub sees-other_area : (get_or ar t 0 ≡ q.area → ⊥) → 0 ≡ sees (net_at table ar ws) (marks_at (length ar) ids ws) q s d
    unfolding sees when◌then◌else◌
    sees-other_area k = rw (area_there, ne_eqb _ _ k)

    module _ (k : get_or ar t 0 ≡ q.area) (b : Bool) (eb : b ≡ flagged (get_or ids t 0)) where
      pub sees-flagged : b ≡ true → 1 ≡ sees (net_at table ar ws) (marks_at (length ar) ids ws) q s d
      unfolding sees when◌then◌else◌
      sees-flagged y = rw (area_there, eq-eqb _ _ k, near_is table ar ws cons s d t v hd e, sym eb ∙ y)

      module _ (nb : b ≡ false) (r : Bool) (o : r ≡ other q.id (get_or ids t 0)) where
        pub sees-other_id : r ≡ true → 2 ≡ sees (net_at table ar ws) (marks_at (length ar) ids ws) q s d
        unfolding sees when◌then◌else◌
        sees-other_id y = rw (area_there, eq-eqb _ _ k, near_is table ar ws cons s d t v hd e, sym eb ∙ nb, sym o ∙ y)

        module _ (no : r ≡ false) (u : ℕ) (eu : u ≡ get_or ws (table + (4 * t + (d + 1) % 4)) 0) (x : Bool) (ex : x ≡ bears ar ids q u) where
          corner_is : corner (net_at table ar ws) s d ≡ u
          unfolding corner
          corner_is = rw (near_is table ar ws cons s d t v hd e) (near-at table ar ws t ((d + 1) % 4) v.room h (turned d 1) ∙ sym eu)

          corner_says : eqb (area_of (net_at table ar ws) (corner (net_at table ar ws) s d)) q.area and other q.id (get_or ids (corner (net_at table ar ws) s d) 0) ≡ x
          unfolding bears area_of net_at
          corner_says = rw corner_is (sym ex)

          pub sees-corner : x ≡ true → 2 ≡ sees (net_at table ar ws) (marks_at (length ar) ids ws) q s d
          unfolding sees when◌then◌else◌
          sees-corner y = let z = corner_says ∙ y in rw (area_there, eq-eqb _ _ k, near_is table ar ws cons s d t v hd e, sym eb ∙ nb, sym o ∙ no, z)

          pub sees-nothing : x ≡ false → 0 ≡ sees (net_at table ar ws) (marks_at (length ar) ids ws) q s d
          unfolding sees when◌then◌else◌
          sees-nothing y = let z = corner_says ∙ y in rw (area_there, eq-eqb _ _ k, near_is table ar ws cons s d t v hd e, sym eb ∙ nb, sym o ∙ no, z)

-- ---------------------------------------------------------------- the four directions

or_else_zero : (a : ℕ) → or_else a 0 ≡ a
unfolding or_else
or_else_zero zero = refl
or_else_zero (suc a) = refl

objects_from : (N : Net) (m : Marks) (q : Seed) (c : ℕ) → objects N m q c ≡ eqb (sees_from N m q c 4 0) 2
unfolding objects sees_from
objects_from N m q c = rw (or_else_zero (sees N m q c 3))

-- at direction d of the four: what is left to look at says what all four say
pub record Looking (N : Net) (m : Marks) (q : Seed) (s d : ℕ) : Type 0 where
  pub few : d ≤ 4
  pub same : sees_from N m q s 4 0 ≡ sees_from N m q s (4 - d) d

module _ (N : Net) (m : Marks) (q : Seed) (s d : ℕ) (v : Looking N m q s d) where
  module _ (l : View) (h : d < 4) (e : view_number l ≡ sees N m q s d) where
    left : 4 - d ≡ suc (4 - (d + 1))
    left = omega arith

    now_on : sees_from N m q s 4 0 ≡ or_else (view_number l) (sees_from N m q s (4 - (d + 1)) (d + 1))
    unfolding sees_from
    now_on = rw e (rw left at v.same)

    pub looking_on : l ≡ Nothing → Looking N m q s (d + 1)
    unfolding or_else view_number
    looking_on z = record { few = omega arith; same = rw z at now_on }

    pub looking_stops : l ≡ TheEnd → false ≡ objects N m q s
    unfolding or_else view_number
    looking_stops k = let z = rw k at now_on in sym (objects_from N m q s ∙ ap (λ (x : ℕ). eqb x 2) z)

    pub looking_objects : l ≡ Objection → true ≡ objects N m q s
    unfolding or_else view_number
    looking_objects k = let z = rw k at now_on in sym (objects_from N m q s ∙ ap (λ (x : ℕ). eqb x 2) z)

  pub looking_done : 4 ≤ d → false ≡ objects N m q s
  unfolding sees_from
  looking_done h =
      let z : 4 - d ≡ 0 = omega arith in
      let a = rw z at v.same in
      sym (objects_from N m q s ∙ ap (λ (x : ℕ). eqb x 2) a)
