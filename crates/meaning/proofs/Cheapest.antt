-- There is a cheapest chain from every span, so that "no raw value is below the cheapest such chain" speaks of something: costs are looked for upward,
-- and a chain of cost n is a move and a chain that costs less.
use Prim.Native.Nat.{ℕ, zero, suc, ◌+◌, ◌-◌, ◌≤◌, ◌<◌}
use native.Mathlib.Omega.{arith}
use native.Mathlib.Decide.{dec_lt, ℕ_discrete}
use mathlib.Core.Path.{◌≡◌}
use mathlib.Core.List.{List}
use lib.ListN.{get_or}
use Rattle.rules.specs.Field.{Field, spans, near, Bytes}
use Rattle.rules.specs.Refusals.{refusal}
use Rattle.rules.specs.Distance.{start, raw}
use Rattle.laws.proofs.Basics.{four_ways}
use Rattle.meaning.specs.Moves.{Turns, left_up, up_right, right_down, down_left, Move, straight, cornering, Chain, ended, moved, Cheapest}
use Rattle.meaning.proofs.Chains.{raw_is_a_chain's_cost}

-- the costs below n are looked through
data Looked (F : Field) (s n : ℕ) : Type 0 where
  found : (m : ℕ) → m < n → Cheapest F s m → Looked F s n
  none_below : ((c : ℕ) → Chain F s c → n ≤ c) → Looked F s n

module _ (F : Field) (n : ℕ) (below : (k : ℕ) → k ≤ n → (s : ℕ) → Looked F s k) (s : ℕ) where
  -- no chain costs less than n: whether there is one of cost n
  module _ (least : (c : ℕ) → Chain F s c → n ≤ c) where
    -- one whose first move is this
    by_move : (P : Type 0) (t k : ℕ) → 0 < k → Move F s t k → (Looked F s (suc n) → P) → (((c : ℕ) → Chain F t c → suc n ≤ c + k) → P) → P
    by_move P t k g m yes-one no_one = by (below (suc n - k) (omega arith) t)
      where
        by : Looked F t (suc n - k) → P
        by (found c h v) =
            let q : Chain F s (c + k) = moved m v.chain in
            yes-one (found (c + k) (omega arith) (record { chain = q; least = λ e r. let a = least e r in omega arith }))
        by (none_below a) = no_one (λ c q. let b = a c q in omega arith)

    -- no chain of cost n begins with a move to neighbour d, or to its neighbour e
    abbrev NoNear : ℕ → Type 0
    NoNear d = near F s d < spans F → (c : ℕ) → Chain F (near F s d) c → suc n ≤ c + 2

    abbrev NoCorner : ℕ → ℕ → Type 0
    NoCorner d e = near F s d < spans F → near F (near F s d) e < spans F → (c : ℕ) → Chain F (near F (near F s d) e) c → suc n ≤ c + 3

    by_near : (P : Type 0) (d : ℕ) → d < 4 → (Looked F s (suc n) → P) → (NoNear d → P) → P
    by_near P d g yes-one no_one =
        elim (dec_lt (near F s d) (spans F)) [ yes i ↦ by_move P _ 2 (omega arith) (straight d g i) yes-one (λ a. no_one (λ _. a)) | no i ↦ no_one (λ j. absurd (i j)) ]

    by_corner : (P : Type 0) (d e : ℕ) → Turns d e → (Looked F s (suc n) → P) → (NoCorner d e → P) → P
    by_corner P d e r yes-one no_one =
        elim (dec_lt (near F s d) (spans F)) [
          | no i ↦ no_one (λ j. absurd (i j))
          | yes i ↦ elim (dec_lt (near F (near F s d) e) (spans F)) [
            | no j ↦ no_one (λ _ k. absurd (j k))
            | yes j ↦ by_move P _ 3 (omega arith) (cornering d e r i j) yes-one (λ a. no_one (λ _ _. a))
          ]
        ]

    -- the chain of no moves
    by_none : (P : Type 0) → (Looked F s (suc n) → P) → ((s < spans F → get_or (start F) s 65535 ≡ 0 → ⊥) → P) → P
    by_none P yes-one no_one =
        elim (dec_lt s (spans F)) [
          | no i ↦ no_one (λ j _. absurd (i j))
          | yes i ↦ elim (ℕ_discrete (get_or (start F) s 65535) 0) [
            | no j ↦ no_one (λ _ k. absurd (j k))
            | yes j ↦ yes-one (found 0 (omega arith) (record { chain = ended i j; least = λ _ _. omega arith }))
          ]
        ]

    look_on : Looked F s (suc n)
    look_on =
        by_none (Looked F s (suc n)) (λ v. v)
        (λ o. by_near (Looked F s (suc n)) 0 (omega arith) (λ v. v)
        (λ a. by_near (Looked F s (suc n)) 1 (omega arith) (λ v. v)
        (λ b. by_near (Looked F s (suc n)) 2 (omega arith) (λ v. v)
        (λ c. by_near (Looked F s (suc n)) 3 (omega arith) (λ v. v)
        (λ d. by_corner (Looked F s (suc n)) 0 3 left_up (λ v. v)
        (λ e. by_corner (Looked F s (suc n)) 3 2 up_right (λ v. v)
        (λ f. by_corner (Looked F s (suc n)) 2 1 right_down (λ v. v)
        (λ g. by_corner (Looked F s (suc n)) 1 0 down_left (λ v. v)
        (λ h. none_below (no_chain o (four_ways NoNear a b c d) (each_turn e f g h)))))))))))
      where
        each_turn : NoCorner 0 3 → NoCorner 3 2 → NoCorner 2 1 → NoCorner 1 0 → (d e : ℕ) → Turns d e → NoCorner d e
        each_turn e f g h _ _ left_up = e
        each_turn e f g h _ _ up_right = f
        each_turn e f g h _ _ right_down = g
        each_turn e f g h _ _ down_left = h

        no_chain : (s < spans F → get_or (start F) s 65535 ≡ 0 → ⊥) → ((d : ℕ) → d < 4 → NoNear d) → ((d e : ℕ) → Turns d e → NoCorner d e) → (c : ℕ) → Chain F s c → suc n ≤ c
        no_chain o a b c (ended i e) = absurd (o i e)
        no_chain o a b c (moved {c = k} (straight d g i) q) = a d g i k q
        no_chain o a b c (moved {c = k} (cornering d e r i j) q) = b d e r i j k q

  look_next : Looked F s (suc n)
  look_next = by (below n (omega arith) s)
    where
      by : Looked F s n → Looked F s (suc n)
      by (found m h v) = found m (omega arith) v
      by (none_below a) = look_on a

looked : (F : Field) (n k : ℕ) → k ≤ n → (s : ℕ) → Looked F s k
looked F zero k h s = none_below (λ c _. omega arith)
looked F (suc n) k h s = elim (dec_lt n k) [ yes g ↦ let e : k ≡ suc n = omega arith in rw e (look_next F n (looked F n) s) | no g ↦ looked F n k (omega arith) s ]

pub cheapest_exists : (F : Field) (lens : List ℕ) → refusal F lens ≡ 0 → Bytes F → (s : ℕ) → s < spans F → (m : ℕ) × Cheapest F s m
cheapest_exists F lens ok bytes s h = by (looked F (suc (get_or (raw F) s 0)) (suc (get_or (raw F) s 0)) (omega arith) s)
  where
    by : Looked F s (suc (get_or (raw F) s 0)) → (m : ℕ) × Cheapest F s m
    by (found m _ v) = (m, v)
    by (none_below a) = absurd (let b = a _ (raw_is_a_chain's_cost F lens ok bytes s h) in omega arith)
