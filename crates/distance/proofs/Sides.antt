-- What the two sides of a pass come to: a value that is there is read with room for the sum, and one that is not changes nothing,
-- since where there is no span the rule reads 65,535 and adds to it.
use Prim.Native.Nat.{ℕ, ◌+◌, ◌≤◌, ◌<◌, min}
use native.Mathlib.Omega.{arith}
use mathlib.Core.Path.{◌≡◌, sym, ap, ◌∙◌}
use mathlib.Core.Bool.{Bool, false}
use mathlib.Core.List.{List}
use lib.ListN.{length, get_or, get_or-eq_default}
use Rattle.rules.specs.Field.{Field, near, cell_to}
use Rattle.rules.specs.Distance.{far, start_at}
use Rattle.rules.specs.Refusals.{most_spans}
use Rattle.laws.proofs.Basics.{get_d_any}
use Rattle.laws.proofs.Passes.{none-near}
use Rattle.field.specs.Lent.{Stands, Reached, Leaf, cons_at}
use Rattle.distance.specs.Value.{ringed, side, least_from, least, Room}
use Rattle.distance.proofs.Values.{missing, step_is, step_stands, start_high, start_open}

module _ (F : Field) (ok : Reached F) (l : List ℕ) (c s d e : ℕ) (st : Stands F c s) (v : Room F l s d e) (cons : List ℕ) (q : cons ≡ cons_at F.con s) (g : d < 4) where
  none_far : far l 65535 ≡ 65535
  none_far = let f : length l ≤ most_spans = omega (arith, v.size, ok.celled.few) in get_or-eq_default l 65535 (omega arith)

  pub side-none : (best : ℕ) → best < 65536 → get_or cons d 0 ≡ 255 → best ≡ min best (side F l s d e)
  unfolding side
  side-none best b z =
      let m : near F s d ≡ 65535 = missing F ok c s st cons q d g z in
      let f = none_far in
      rw (m, none-near F e (omega (arith, ok.celled.linked, ok.celled.few))) (omega arith)

  -- neighbour t, in cell a
  module _ (t a : ℕ) (n : (G : Field) (r : ℕ) → Leaf G F.w F.index cons c r → t ≡ near G r d) (p : a ≡ cell_to F.w c d) (k : t ≡ 65535 → ⊥) where
    at-near : near F s d ≡ t
    at-near = sym (step_is F ok c s st cons q d g t a n)

    there : Stands F a t
    there = step_stands F ok c s st cons q d g t a n p k

    pub first_in : t < length l
    first_in = omega (arith, there.span, v.size)

    pub first_low : get_or l t 0 ≤ 510
    first_low =
        let b : far l t ≤ 510 = rw at-near at (v.first (rw at-near there.span)) in
        rw (get_d_any l t 0 65535 first_in) b

    near_value : far l t ≡ get_or l t 0
    near_value = get_d_any l t 65535 0 first_in

    -- which has the connections next
    module _ (next : List ℕ) (o : next ≡ cons_at F.con t) (h : e < 4) where
      pub side-one : (best b : ℕ) → b ≡ min best (get_or l t 0 + 2) → best < 65536 → get_or next e 0 ≡ 255 → b ≡ min best (side F l s d e)
      unfolding side
      side-one best b r y z =
          let m : near F t e ≡ 65535 = missing F ok a t there next o e h z in
          let f = none_far in
          rw (at-near, m) (omega (arith, near_value, first_low))

      -- and a neighbour x, in cell b
      module _ (x b : ℕ) (m : (G : Field) (r : ℕ) → Leaf G F.w F.index next a r → x ≡ near G r e) (w : b ≡ cell_to F.w a e) (j : x ≡ 65535 → ⊥) where
        at_second : near F (near F s d) e ≡ x
        at_second = ap (λ (y : ℕ). near F y e) at-near ∙ sym (step_is F ok a t there next o e h x b m)

        beyond : Stands F b x
        beyond = step_stands F ok a t there next o e h x b m w j

        pub second_in : x < length l
        second_in = omega (arith, beyond.span, v.size)

        pub second_low : get_or l x 0 ≤ 510
        second_low =
            let f : far l x ≤ 510 = rw at_second at (v.second (rw at_second beyond.span)) in
            rw (get_d_any l x 0 65535 second_in) f

        pub side-two : (best b y : ℕ) → b ≡ min best (get_or l x 0 + 3) → y ≡ min b (get_or l t 0 + 2) → y ≡ min best (side F l s d e)
        unfolding side
        side-two best b y r z =
            let f : far l x ≡ get_or l x 0 = get_d_any l x 65535 0 second_in in
            rw (at_second, at-near) (omega (arith, near_value))

-- a value of at most 2 stays, since at least 2 is added to each other
pub least_low : (F : Field) (l : List ℕ) (s a b d e : ℕ) → s < length l → get_or l s 0 ≤ 2 → get_or l s 0 ≡ least F a b d e s l
unfolding least least_from side
least_low F l s a b d e i h =
    let f : far l s ≡ get_or l s 0 = get_d_any l s 65535 0 i in
    omega arith

pub least_is : (F : Field) (l : List ℕ) (s a b d e x y : ℕ) → s < length l → x ≡ min (get_or l s 0) (side F l s d e) → y ≡ min x (side F l s a b) → y ≡ least F a b d e s l
unfolding least least_from
least_is F l s a b d e x y i m n =
    let f : far l s ≡ get_or l s 0 = get_d_any l s 65535 0 i in
    omega arith

-- pass 1: a span that lacks a neighbour, or starts with 0, keeps 0, and another is the least of 65,535 and the two sides
module _ (F : Field) (s : ℕ) (l : List ℕ) where
  pub from_edge : (c : ℕ) → Reached F → Stands F c s → (cons : List ℕ) → cons ≡ cons_at F.con s → (r : Bool) → r ≡ ringed cons → r ≡ false → ((i : ℕ) → get_or F.area i 0 < 256)
      → 0 ≡ least_from F (start_at F s) 0 3 3 2 s l
  unfolding least_from
  from_edge c ok st cons q r e z bytes = omega (arith, start_open F ok c s st cons q (sym e ∙ z) (bytes s))

  pub from_zero : (r : ℕ) → r ≡ start_at F s → r ≡ 0 → 0 ≡ least_from F (start_at F s) 0 3 3 2 s l
  unfolding least_from
  from_zero r e z = omega arith

  pub from_sides : (r x y : ℕ) → r ≡ start_at F s → (r ≡ 0 → ⊥) → x ≡ min 65535 (side F l s 3 2) → y ≡ min x (side F l s 0 3) → y ≡ least_from F (start_at F s) 0 3 3 2 s l
  unfolding least_from
  from_sides r x y e z m n =
      let f = start_high F s (λ g. z (e ∙ g)) in
      omega arith
