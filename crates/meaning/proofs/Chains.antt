-- "every raw value is the cost of some chain of moves .. ending at a span that started with 0, so no raw value is below the cheapest such chain".
-- A step of a pass stores the least of five values that, where below 65,535, are each the cost of a chain; and no raw value is above 510.
use Prim.Native.Nat.{ℕ, ◌+◌, ◌*◌, ◌≤◌, ◌<◌}
use native.Mathlib.Omega.{arith}
use native.Mathlib.Decide.{dec_lt}
use mathlib.Core.Path.{◌≡◌, refl, ◌∙◌}
use mathlib.Core.Bool.{Bool, true, false}
use mathlib.Core.List.{List}
use lib.ListN.{length, get_or, get_or-eq_default}
use Rattle.rules.specs.Base.{when◌then◌else◌}
use Rattle.rules.specs.Field.{Field, spans, near, Bytes}
use Rattle.rules.specs.Refusals.{refusal}
use Rattle.rules.specs.Distance.{start_at, start, far, least_of, lower, pass1, pass2, raw}
use Rattle.laws.proofs.Basics.{upto-ind, get_d_set_at, get_d_any}
use Rattle.laws.proofs.Lengths.{start-length, lower-length, raw-length}
use Rattle.laws.proofs.Cells.{Passed, passed}
use Rattle.laws.proofs.Passes.{start-at}
use Rattle.meaning.specs.Moves.{Turns, left_up, up_right, right_down, down_left, straight, cornering, Chain, ended, moved, Cheapest}
use Rattle.meaning.proofs.Places.{through, layer_in}
use Rattle.meaning.proofs.Passes.{least_cases}
use Rattle.meaning.proofs.Sums.{raw_low}

is_there : (l : List ℕ) (i : ℕ) → far l i < 65535 → i < length l
is_there l i h = elim (dec_lt i (length l)) [ yes g ↦ g | no g ↦ let e : far l i ≡ 65535 = get_or-eq_default l 65535 (omega arith) in absurd (omega arith) ]

turn-first : {d e : ℕ} → Turns d e → d < 4
turn-first left_up = omega arith
turn-first up_right = omega arith
turn-first right_down = omega arith
turn-first down_left = omega arith

-- ---------------------------------------------------------------- the start

-- v, where it is below 65,535, is the cost of a chain from s
abbrev Costs : Field → ℕ → ℕ → Type 0
Costs F s v = v < 65535 → Chain F s v

costs_least : (F : Field) (s x v p r q t : ℕ) → x ≡ least_of v p r q t → Costs F s v → Costs F s (p + 2) → Costs F s (r + 3) → Costs F s (q + 2) → Costs F s (t + 3) → Costs F s x
costs_least F s x v p r q t e a b c d f = least_cases v p r q t x e (Costs F s x) (λ i. rw i a) (λ i. rw i b) (λ i. rw i c) (λ i. rw i d) (λ i. rw i f)

-- a list of such costs
record Costed (F : Field) (l : List ℕ) : Type 0 where
  size : length l ≡ spans F
  cost : (s : ℕ) → Costs F s (far l s)

started : (b : Bool) (v : ℕ) → v ≡ (when b then 0 else 65535) → v < 65535 → v ≡ 0
unfolding when◌then◌else◌
started true v e h = e
started false v e h = absurd (omega arith)

costed_start : (F : Field) → Costed F (start F)
unfolding start_at
costed_start F =
    record {
      size = start-length F;
      cost = λ s h.
          let i : s < spans F = omega (arith, is_there (start F) s h, start-length F) in
          let e : far (start F) s ≡ 0 = started _ (far (start F) s) (start-at F s i) h in
          rw e (ended i e);
    }

-- ---------------------------------------------------------------- a step of a pass

module _ (F : Field) (lens : List ℕ) (ok : Passed F lens) where
  module _ (l : List ℕ) (v : Costed F l) (s : ℕ) (h : s < spans F) where
    costs_near : (d : ℕ) → d < 4 → Costs F s (far l (near F s d) + 2)
    costs_near d g k =
        let i = is_there l (near F s d) (omega arith) in
        let j : near F s d < spans F = omega (arith, v.size) in
        moved (straight d g j) (v.cost (near F s d) (omega arith))

    costs_corner : (d e : ℕ) → Turns d e → Costs F s (far l (near F (near F s d) e) + 3)
    costs_corner d e r k =
        let i = is_there l (near F (near F s d) e) (omega arith) in
        let j : near F (near F s d) e < spans F = omega (arith, v.size) in
        moved (cornering d e r (through F lens ok s d e h (turn-first r) j) j) (v.cost (near F (near F s d) e) (omega arith))

    costed_lower : (a b c e : ℕ) → Turns a b → Turns c e → Costed F (lower F a b c e s l)
    unfolding lower
    costed_lower a b c e p q =
        record {
          size = lower-length F a b c e s l ∙ v.size;
          cost = λ t. get_d_set_at l s _ 65535 t (Costs F t) (omega (arith, v.size))
              (λ z. rw z (costs_least F s _ _ _ _ _ _ refl (v.cost s) (costs_near a (turn-first p)) (costs_corner a b p) (costs_near c (turn-first q)) (costs_corner c e q)))
              (λ _. v.cost t);
        }

  -- ---------------------------------------------------------------- both passes

  costed_raw : Costed F (raw F)
  unfolding raw pass1 pass2
  costed_raw =
      upto-ind (λ _ x. Costed F x) _ _ (F.w * F.h)
      (upto-ind (λ _ x. Costed F x) _ (start F) (spans F) (costed_start F) (λ k x h v. costed_lower x v k h 0 3 3 2 left_up up_right))
      (λ k x _ v. upto-ind (λ _ y. Costed F y) _ x _ v (λ j y g u. costed_lower y u _ (layer_in F lens ok _ j g) 2 1 1 0 right_down down_left))

-- ---------------------------------------------------------------- the theorems

module _ (F : Field) (lens : List ℕ) (ok : refusal F lens ≡ 0) (bytes : Bytes F) (s : ℕ) (h : s < spans F) where
  -- "every raw value is the cost of some chain of moves"
  pub raw_is_a_chain's_cost : Chain F s (get_or (raw F) s 0)
  raw_is_a_chain's_cost =
      let p = passed F lens ok in
      rw (get_d_any (raw F) s 0 65535 (omega (arith, raw-length F))) ((costed_raw F lens p).cost s (omega (arith, raw_low F lens p bytes s h)))

  -- "so no raw value is below the cheapest such chain"
  pub raw-not_below_cheapest : (m : ℕ) → Cheapest F s m → m ≤ get_or (raw F) s 0
  raw-not_below_cheapest m v = v.least _ raw_is_a_chain's_cost

  -- nor below anything that no chain's cost is below
  pub raw-not_below : (m : ℕ) → ((c : ℕ) → Chain F s c → m ≤ c) → m ≤ get_or (raw F) s 0
  raw-not_below m v = v _ raw_is_a_chain's_cost
