-- Spans that no stack gets: owned, or so near to a border that their stack is past the eight.
-- A block of them is passed over, since each leaves the sorted stacks as they were.
use Prim.Native.Nat.{ℕ, zero, suc, ◌+◌, ◌-◌, ◌*◌, ◌/◌, ◌≤◌, ◌<◌}
use native.Mathlib.Omega.{arith}
use native.Mathlib.Nat.{add-zero}
use native.Mathlib.Numerals.{add-one}
use native.Mathlib.Decide.{ℕ_discrete}
use mathlib.Core.Path.{◌≡◌, refl, sym, ◌∙◌}
use mathlib.Core.Bool.{Bool, false, ◌&&◌, ◌||◌}
use mathlib.Core.List.{List}
use lib.ListN.{length, get_or, take, drop, length-drop}
use lib.Seq.{get_or-take, get_or-drop, length-take-le}
use lib.Dec.{eqb, leb}
use borrow.Author.Tests.{eq-eqb, leb-false}
use Rattle.rules.specs.Base.{◌and◌, ◌or◌}
use Rattle.laws.proofs.Basics.{neither, code_and, code_or}
use Rattle.levels.specs.Levels.{last_stack, block_size, levels_at, Fills, sorted_to, any_open, Moved}
use Rattle.levels.proofs.LevelLaws.{moved_none}
use Rattle.levels.proofs.SortLaws.{skip_id, skip_high}

-- ---------------------------------------------------------------- one to sort

pub and-or : (a b c : Bool) → (a && b) || c ≡ (a and b) or c
and-or a b c = rw (code_and a b) (code_or (a and b) c)

module _ (dist ids : List ℕ) (from i : ℕ) (found : Bool) (e : found ≡ any_open dist ids from i) where
  pub any_go : (b : Bool) → b ≡ (eqb (get_or ids i 0) 0 and leb from (get_or dist i 0)) or found → b ≡ any_open dist ids from (i + 1)
  unfolding any_open
  any_go b q = rw (add-one i) (q ∙ rw e)

  pub any_all : i ≤ length dist → length dist ≤ i → found ≡ any_open dist ids from (length dist)
  any_all h g = let q : i ≡ length dist = omega arith in e ∙ rw q

-- ---------------------------------------------------------------- a block without one

module _ (area dist ids : List ℕ) (level : ℕ) where
  skip_one : (i : ℕ) → (eqb (get_or ids i 0) 0 and leb (2 * (level / 2 - last_stack)) (get_or dist i 0)) ≡ false
      → sorted_to area dist ids level (i + 1) ≡ sorted_to area dist ids level i
  unfolding ◌and◌
  skip_one i e = elim (ℕ_discrete (get_or ids i 0) 0) [
    | yes q ↦ let h : get_or dist i 0 < 2 * (level / 2 - last_stack) = leb-false _ _ (rw (eq-eqb _ 0 q) at e) in skip_high area dist ids level i _ refl (omega arith)
    | no q ↦ skip_id area dist ids level i q
  ]

  -- the first k of m spans from i on
  skip_many : (i m k : ℕ) → k ≤ m → any_open (take m (drop i dist)) (take m (drop i ids)) (2 * (level / 2 - last_stack)) k ≡ false
      → sorted_to area dist ids level (i + k) ≡ sorted_to area dist ids level i
  unfolding any_open
  skip_many i m zero h e = rw (add-zero i)
  skip_many i m (suc k) h e =
      let a = neither _ _ e in
      let d : get_or (take m (drop i dist)) k 0 ≡ get_or dist (i + k) 0 = get_or-take m (drop i dist) k 0 h ∙ get_or-drop i dist k 0 in
      let r : get_or (take m (drop i ids)) k 0 ≡ get_or ids (i + k) 0 = get_or-take m (drop i ids) k 0 h ∙ get_or-drop i ids k 0 in
      let n : i + suc k ≡ i + k + 1 = omega arith in
      rw n (skip_one (i + k) (rw (d, r) at a.0) ∙ skip_many i m k (omega arith) a.1)

  pub moved_over : (from i : ℕ) (ws fs : List ℕ) (b : Bool) → length dist ≡ length area → i + block_size ≤ length area → from ≡ 2 * (level / 2 - last_stack)
      → Fills (length area) fs → levels_at ws (length area) fs ≡ sorted_to area dist ids level i
      → b ≡ any_open (take (i + block_size - i) (drop i dist)) (take (i + block_size - i) (drop i ids)) from (length (take (i + block_size - i) (drop i dist))) → b ≡ false
      → Moved (length area) ws fs ws fs (sorted_to area dist ids level (i + block_size))
  moved_over from i ws fs b l h g f s q e =
      let n : i + block_size - i ≡ block_size = omega arith in
      let m : length (take block_size (drop i dist)) ≡ block_size = length-take-le block_size (drop i dist) (rw (length-drop i dist) (omega arith)) in
      let z : any_open (take block_size (drop i dist)) (take block_size (drop i ids)) (2 * (level / 2 - last_stack)) block_size ≡ false = rw (n, m, g) at (sym q ∙ e) in
      moved_none ws (length area) fs _ f (s ∙ sym (skip_many i block_size block_size (omega arith) z))
