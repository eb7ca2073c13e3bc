-- A step of a pass only lowers. What a pass leaves, where it comes to each span once and to what the span reads before it: each value is the least
-- of its own before the pass and what the values after the pass make of its neighbours.
use Prim.Native.Nat.{ℕ, suc, ◌+◌, ◌≤◌, ◌<◌}
use native.Mathlib.Omega.{arith}
use native.Mathlib.Decide.{dec_lt}
use mathlib.Core.Path.{◌≡◌, ◌∙◌}
use mathlib.Core.List.{List}
use lib.ListN.{length}
use lib.Seq.{get_or-set_same, get_or-set_other}
use Rattle.rules.specs.Field.{Field, spans, near}
use Rattle.rules.specs.Distance.{far, least_of, lower}
use Rattle.laws.proofs.Basics.{get_d_set_at}
use Rattle.laws.proofs.Lengths.{lower-length}

-- ---------------------------------------------------------------- the least of five

module _ (v p r q t x : ℕ) (e : x ≡ least_of v p r q t) where
  pub least_le : (x ≤ v) × (x ≤ p + 2) × (x ≤ r + 3) × (x ≤ q + 2) × (x ≤ t + 3)
  unfolding least_of
  least_le = (omega arith, omega arith, omega arith, omega arith, omega arith)

  least-one : x < v → x < p + 2 → x < r + 3 → x < q + 2 → x < t + 3 → ⊥
  unfolding least_of
  least-one g h i j k = omega arith

  -- it is one of the five
  pub least_cases : (P : Type 0) → (x ≡ v → P) → (x ≡ p + 2 → P) → (x ≡ r + 3 → P) → (x ≡ q + 2 → P) → (x ≡ t + 3 → P) → P
  least_cases P a b c d f =
      let l = least_le in
      elim (dec_lt x v) [
        | no g ↦ a (omega arith)
        | yes g ↦ elim (dec_lt x (p + 2)) [
          | no h ↦ b (omega arith)
          | yes h ↦ elim (dec_lt x (r + 3)) [
            | no i ↦ c (omega arith)
            | yes i ↦ elim (dec_lt x (q + 2)) [ no j ↦ d (omega arith) | yes j ↦ elim (dec_lt x (t + 3)) [ no k ↦ f (omega arith) | yes k ↦ absurd (least-one g h i j k) ] ]
          ]
        ]
      ]

-- ---------------------------------------------------------------- a step

-- a pass's step only lowers
pub lower_lowers : (F : Field) (a b c e s : ℕ) (l : List ℕ) → s < length l → (t : ℕ) → far (lower F a b c e s l) t ≤ far l t
unfolding least_of lower
lower_lowers F a b c e s l h t = get_d_set_at l s _ 65535 t (λ r. r ≤ far l t) h (λ z. rw z (omega arith)) (λ _. omega arith)

-- to at most neighbour a's value plus 2, and neighbour c's
pub lower-near : (F : Field) (a b c e s : ℕ) (l : List ℕ) → s < length l
    → (far (lower F a b c e s l) s ≤ far l (near F s a) + 2) × (far (lower F a b c e s l) s ≤ far l (near F s c) + 2)
unfolding least_of lower
lower-near F a b c e s l h = rw (get_or-set_same l s _ 65535 h) (omega arith, omega arith)

-- ---------------------------------------------------------------- each span once, after what it reads

module _ (F : Field) (a b c e : ℕ) where
  -- what the pass makes of span s: m are the values before it, l those after it
  abbrev pub Settled : List ℕ → List ℕ → ℕ → Type 0
  Settled m l s = far l s ≡ least_of (far m s) (far l (near F s a)) (far l (near F (near F s a) b)) (far l (near F s c)) (far l (near F (near F s c) e))

  -- the pass comes to span s at its turn, rank s
  module _ (rank : ℕ → ℕ) where
    -- what span s reads has had its turn
    pub record Reads (s : ℕ) : Type 0 where
      pub first : near F s a < spans F → rank (near F s a) < rank s
      pub second : near F (near F s a) b < spans F → rank (near F (near F s a) b) < rank s
      pub third : near F s c < spans F → rank (near F s c) < rank s
      pub fourth : near F (near F s c) e < spans F → rank (near F (near F s c) e) < rank s

    pub record After (m : List ℕ) (k : ℕ) (l : List ℕ) : Type 0 where
      pub size : length l ≡ spans F
      pub done : (s : ℕ) → s < spans F → rank s < k → Settled m l s
      pub todo : (s : ℕ) → s < spans F → k ≤ rank s → far l s ≡ far m s

    module _ (reads : (s : ℕ) → s < spans F → Reads s) (one : (s t : ℕ) → s < spans F → t < spans F → rank s ≡ rank t → s ≡ t) (m : List ℕ) where
      pub turn-none : (k : ℕ) (l : List ℕ) → ((s : ℕ) → s < spans F → rank s ≡ k → ⊥) → After m k l → After m (suc k) l
      turn-none k l n v =
          record {
            size = v.size;
            done = λ s h g. elim (dec_lt (rank s) k) [ yes f ↦ v.done s h f | no f ↦ absurd (n s h (omega arith)) ];
            todo = λ s h g. v.todo s h (omega arith);
          }

      module _ (k u : ℕ) (l : List ℕ) (h : u < spans F) (at_k : rank u ≡ k) (v : After m k l) where
        other : (t : ℕ) → (t ≡ u → ⊥) → far (lower F a b c e u l) t ≡ far l t
        unfolding lower
        other t n = get_or-set_other l u t _ 65535 n

        own : far (lower F a b c e u l) u ≡ least_of (far l u) (far l (near F u a)) (far l (near F (near F u a) b)) (far l (near F u c)) (far l (near F (near F u c) e))
        unfolding lower
        own = get_or-set_same l u _ 65535 (omega (arith, v.size))

        -- what a span of rank at most k reads is not u
        differs : (s t : ℕ) → rank s ≤ k → (t < spans F → rank t < rank s) → t ≡ u → ⊥
        differs s t g r e = let i : t < spans F = rw e h in let j : rank t ≡ k = rw e at_k in omega (arith, r i)

        module _ (s : ℕ) (i : s < spans F) (g : rank s ≤ k) where
          r : Reads s
          r = reads s i

          read_same : (x y : ℕ) → x ≡ least_of y (far l (near F s a)) (far l (near F (near F s a) b)) (far l (near F s c)) (far l (near F (near F s c) e))
              → x ≡ least_of y (far (lower F a b c e u l) (near F s a)) (far (lower F a b c e u l) (near F (near F s a) b)) (far (lower F a b c e u l) (near F s c)) (far (lower F a b c e u l) (near F (near F s c) e))
          read_same x y f =
              rw (
                other (near F s a) (differs s _ g r.first),
                other (near F (near F s a) b) (differs s _ g r.second),
                other (near F s c) (differs s _ g r.third),
                other (near F (near F s c) e) (differs s _ g r.fourth),
              ) f

        pub turn_of : After m (suc k) (lower F a b c e u l)
        turn_of =
            record {
              size = lower-length F a b c e u l ∙ v.size;
              done = λ s i g. elim (dec_lt (rank s) k) [
                | yes f ↦ read_same s i (omega arith) _ _ (other s (λ z. let j : rank s ≡ k = rw z at_k in omega arith) ∙ v.done s i f)
                | no f ↦ rw (one s u i h (omega arith)) (read_same u h (omega arith) _ _ (rw (← v.todo u h (omega arith)) own))
              ];
              todo = λ s i g. other s (λ z. let j : rank s ≡ k = rw z at_k in omega arith) ∙ v.todo s i (omega arith);
            }
