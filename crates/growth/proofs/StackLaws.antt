-- The level stacks lie past the source distances, so floods keep them and an expansion changes the turn's alone: two lists of stacks are the same where each
-- stack is, and a stack is what stands in its section. Assumes nothing.
use Prim.Native.Nat.{ℕ, suc, ◌+◌, ◌*◌, ◌≤◌, ◌<◌}
use native.Mathlib.Omega.{arith}
use native.Mathlib.Decide.{ℕ_discrete, dec_lt}
use mathlib.Core.Path.{◌≡◌, refl, sym, ap, ◌∙◌}
use mathlib.Core.Logic.{◌⊎◌, inl, inr}
use mathlib.Core.List.{List, [], ◌∷◌}
use lib.ListN.{length, get_or, set, drop, length-set}
use lib.Seq.{ext_get_or, get_or-set_same, get_or-set_other}
use Rattle.space.specs.Space.{sec}
use Rattle.space.proofs.Laws.{sec-same, sec_mid}
use Rattle.levels.specs.Levels.{levels_at}
use Rattle.levels.proofs.LevelLaws.{levels_at_lem, slots}
use Rattle.growth.specs.Turns.{stacks_at, stack_of}

levels_length : (l : List ℕ) (n : ℕ) (fs : List ℕ) → length (levels_at l n fs) ≡ length fs
unfolding levels_at
levels_length l n [] = refl
levels_length l n (f ∷ fs) = ap suc (levels_length (drop n l) n fs)

module _ (n : ℕ) (ws fs : List ℕ) where
  stacks_length : length (stacks_at n ws fs) ≡ length fs
  unfolding stacks_at
  stacks_length = levels_length (sec n (8 * n) ws) n fs

  -- the stack of turn number j
  pub stack_at : (j : ℕ) → j < length fs → j * n + get_or fs j 0 ≤ 8 * n → get_or (stacks_at n ws fs) j [] ≡ stack_of n fs j ws
  unfolding stacks_at
  stack_at j h g = levels_at_lem (sec n (8 * n) ws) n fs j h ∙ sec_mid n (8 * n) (j * n) (get_or fs j 0) ws g

module _ (n : ℕ) (ws fs ws' : List ℕ) (room : 9 * n ≤ length ws) (size : length ws' ≡ length ws) where
  -- what lies past the source distances stays: so do the stacks
  pub stacks_past : ((x : ℕ) → n ≤ x → get_or ws' x 0 ≡ get_or ws x 0) → stacks_at n ws' fs ≡ stacks_at n ws fs
  unfolding stacks_at
  stacks_past e = ap (λ (l : List ℕ). levels_at l n fs) (sec-same ws ws' n (8 * n) (omega arith) size (λ x p q. e x p))

  -- one of them changes
  module _ (j : ℕ) (i : j < 8) (eight : length fs ≡ 8) (most : (k : ℕ) → get_or fs k 0 ≤ n)
      (e : (x : ℕ) → n ≤ x → (x < n + j * n) ⊎ (n + j * n + n ≤ x) → get_or ws' x 0 ≡ get_or ws x 0) where
    at : (l : List ℕ) (k : ℕ) → k < 8 → get_or (stacks_at n l fs) k [] ≡ stack_of n fs k l
    at l k h = stack_at n l fs k (omega arith) (omega (arith, most k, slots k 8 n h))

    -- another stack's section lies before or behind
    other : (k : ℕ) → k < 8 → (k ≡ j → ⊥) → stack_of n fs k ws' ≡ stack_of n fs k ws
    other k h d = sec-same ws ws' (n + k * n) (get_or fs k 0) (omega (arith, most k, slots k 8 n h)) size
        (λ x p q. e x (omega arith) (elim (dec_lt k j) [
          | yes l ↦ inl (omega (arith, most k, slots k j n l))
          | no l ↦ (let g : j < k = omega arith in inr (omega (arith, slots j k n g)))
        ]))

    pub stacks_changed : stacks_at n ws' fs ≡ set (stacks_at n ws fs) j (stack_of n fs j ws')
    stacks_changed =
        let b : length (stacks_at n ws fs) ≡ 8 = stacks_length n ws fs ∙ eight in
        let b' : length (stacks_at n ws' fs) ≡ 8 = stacks_length n ws' fs ∙ eight in
        ext_get_or [] (stacks_at n ws' fs) (set (stacks_at n ws fs) j (stack_of n fs j ws')) (b' ∙ sym (length-set (stacks_at n ws fs) j (stack_of n fs j ws') ∙ b))
        (λ k h. let l : k < 8 = omega arith in elim (ℕ_discrete k j) [
          | yes z ↦ rw z (at ws' j i ∙ sym (get_or-set_same (stacks_at n ws fs) j (stack_of n fs j ws') [] (omega arith)))
          | no z ↦ at ws' k l ∙ other k l z ∙ sym (at ws k l) ∙ sym (get_or-set_other (stacks_at n ws fs) j k (stack_of n fs j ws') [] z)
        ])
