-- Sorting span by span is the rule's `sorted`.
-- Span i comes last in scan order, so it is one more entry at the end of its stack, or nothing changes.
use Prim.Native.Nat.{ℕ, zero, suc, ◌+◌, ◌-◌, ◌/◌, ◌≤◌, ◌<◌}
use native.Mathlib.Omega.{arith}
use native.Mathlib.Nat.{le_refl, zero-add, add-zero}
use native.Mathlib.Numerals.{add-one}
use native.Mathlib.Decide.{dec_lt}
use mathlib.Core.Path.{◌≡◌, refl, sym, ap, ◌∙◌}
use mathlib.Core.Bool.{Bool, true, false, not}
use mathlib.Core.Logic.{⊎_elim}
use mathlib.Core.List.{List, [], ◌∷◌, ◌++◌, append-nil}
use lib.ListN.{length, get_or, set, replicate}
use lib.Dec.{eqb}
use borrow.Author.Tests.{eq-eqb, ne_eqb}
use Rattle.rules.specs.Base.{◌and◌, when◌then◌else◌, tab, keep}
use Rattle.rules.specs.Net.{Net}
use Rattle.rules.specs.Growth.{walkable, blank, sorted, loaded}
use Rattle.laws.proofs.Basics.{if-ind, and_no, tab-at, length-tab, get_d_any, zeros-at}
use Rattle.laws.proofs.Grows.{loaded_inside}
use Rattle.space.proofs.Laws.{cases}
use Rattle.levels.specs.Levels.{stack_count, levels_at, Fills, StackPart, appended, total, Stacked, sorted_to, Kept, Moved}
use Rattle.levels.proofs.LevelLaws.{fill_is, moved_none, moved_then}
use Rattle.levels.proofs.CarryLaws.{total-appended, one_of_total}

-- ---------------------------------------------------------------- lists made and kept

if-append : (b : Bool) (x : ℕ) (l r : List ℕ) → (when b then x ∷ (l ++ r) else (l ++ r)) ≡ (when b then x ∷ l else l) ++ r
unfolding when◌then◌else◌
if-append true x l r = refl
if-append false x l r = refl

pub keep_append : (p : ℕ → Bool) (xs ys : List ℕ) → keep p (xs ++ ys) ≡ keep p xs ++ keep p ys
unfolding keep
keep_append p [] ys = refl
keep_append p (x ∷ xs) ys = rw (keep_append p xs ys) (if-append (p x) x (keep p xs) (keep p ys))

pub keep_one : (p : ℕ → Bool) (x : ℕ) → p x ≡ true → keep p (x ∷ []) ≡ x ∷ []
unfolding keep when◌then◌else◌
keep_one p x e = rw e

pub keep_no : (p : ℕ → Bool) (x : ℕ) → p x ≡ false → keep p (x ∷ []) ≡ []
unfolding keep when◌then◌else◌
keep_no p x e = rw e

tab-last : (n at : ℕ) (f : ℕ → ℕ) → tab (suc n) at f ≡ tab n at f ++ (f (at + n) ∷ [])
unfolding tab
tab-last zero at f = rw (add-zero at)
tab-last (suc n) at f = let e : suc at + n ≡ at + suc n = omega arith in ap (λ (l : List ℕ). f at ∷ l) (tab-last n (suc at) f ∙ rw e)

module _ (f g : ℕ → List ℕ) where
  tab-same : (n at : ℕ) → ((j : ℕ) → at ≤ j → j < at + n → g j ≡ f j) → tab n at g ≡ tab n at f
  unfolding tab
  tab-same zero at h = refl
  tab-same (suc n) at h = rw (h at (le_refl at) (omega arith), tab-same n (suc at) (λ j l u. h j (omega arith) (omega arith)))

  -- only at k is it another
  tab-set : (n at k : ℕ) → k < n → ((j : ℕ) → (j ≡ at + k → ⊥) → g j ≡ f j) → tab n at g ≡ set (tab n at f) k (g (at + k))
  unfolding tab
  tab-set zero at k h e = absurd (omega arith)
  tab-set (suc n) at zero h e = rw (add-zero at, tab-same n (suc at) (λ j l _. e j (λ q. omega arith)))
  tab-set (suc n) at (suc k) h e =
      let q : suc at + k ≡ at + suc k = omega arith in
      rw (e at (λ q. omega arith), tab-set n (suc at) k (omega arith) (λ j l. e j (λ r. l (omega arith))), q)

-- ---------------------------------------------------------------- one more span

module _ (area dist ids : List ℕ) (level i : ℕ) where
  abbrev free : ℕ → Bool
  free s = not (eqb (get_or area s 256) 0) and eqb (get_or ids s 0) 0

  abbrev its : ℕ → ℕ
  its s = level / 2 - get_or dist s 0 / 2

  abbrev stack : ℕ → ℕ → List ℕ
  stack i j = keep (λ s. eqb (its s) j) (keep free (tab i 0 (λ s. s)))

  more : (j : ℕ) → stack (suc i) j ≡ stack i j ++ keep (λ s. eqb (its s) j) (keep free (i ∷ []))
  more j = rw (tab-last i 0 (λ s. s), zero-add i, keep_append free (tab i 0 (λ s. s)) (i ∷ []), keep_append (λ s. eqb (its s) j) (keep free (tab i 0 (λ s. s))) (keep free (i ∷ [])))

  same_at : (j : ℕ) → keep (λ s. eqb (its s) j) (keep free (i ∷ [])) ≡ [] → stack (suc i) j ≡ stack i j
  same_at j e = more j ∙ rw (e, append-nil (stack i j))

  not_free : free i ≡ false → sorted_to area dist ids level (i + 1) ≡ sorted_to area dist ids level i
  unfolding sorted_to keep
  not_free e = rw (add-one i) (tab-same (stack i) (stack (suc i)) stack_count 0 (λ j _ _. same_at j (rw (keep_no free i e))))

  none-at : (j : ℕ) → (its i ≡ j → ⊥) → keep (λ s. eqb (its s) j) (keep free (i ∷ [])) ≡ []
  unfolding keep
  none-at j h = if-ind (λ (l : List ℕ). keep (λ s. eqb (its s) j) l ≡ []) (free i) (λ _. keep_no (λ s. eqb (its s) j) i (ne_eqb _ _ h)) (λ _. refl)

  -- its stack is past the eight
  too_high : stack_count ≤ its i → sorted_to area dist ids level (i + 1) ≡ sorted_to area dist ids level i
  unfolding sorted_to
  too_high h = rw (add-one i) (tab-same (stack i) (stack (suc i)) stack_count 0 (λ j _ l. same_at j (none-at j (λ e. omega arith))))

  goes : free i ≡ true → its i < stack_count → sorted_to area dist ids level (i + 1) ≡ appended (its i) (i ∷ []) (sorted_to area dist ids level i)
  unfolding sorted_to appended
  goes e h =
      let t = its i in
      let one : stack (suc i) (0 + t) ≡ get_or (tab stack_count 0 (stack i)) t [] ++ (i ∷ []) =
      rw (tab-at stack_count 0 (stack i) t [] h) (more (0 + t) ∙ rw (keep_one free i e, keep_one (λ s. eqb (its s) (0 + t)) i (eq-eqb t (0 + t) (omega arith)))) in
      rw (add-one i) (tab-set (stack i) (stack (suc i)) stack_count 0 t h (λ j l. same_at j (none-at j (λ q. l (omega arith)))) ∙ ap (set (tab stack_count 0 (stack i)) t) one)

-- ---------------------------------------------------------------- a span as the code takes it

module _ (area dist ids : List ℕ) (level i : ℕ) where
  skip_area : i < length area → get_or area i 0 ≡ 0 → sorted_to area dist ids level (i + 1) ≡ sorted_to area dist ids level i
  unfolding ◌and◌
  skip_area h e = not_free area dist ids level i (rw (get_d_any area i 256 0 h, eq-eqb _ 0 e))

  pub skip_id : (get_or ids i 0 ≡ 0 → ⊥) → sorted_to area dist ids level (i + 1) ≡ sorted_to area dist ids level i
  skip_id h = not_free area dist ids level i (rw (ne_eqb _ 0 h) (and_no _))

  pub skip_high : (t : ℕ) → t ≡ level / 2 - get_or dist i 0 / 2 → stack_count ≤ t → sorted_to area dist ids level (i + 1) ≡ sorted_to area dist ids level i
  skip_high t e h = too_high area dist ids level i (rw e at h)

  sort_put : (t : ℕ) → i < length area → (get_or area i 0 ≡ 0 → ⊥) → get_or ids i 0 ≡ 0 → t ≡ level / 2 - get_or dist i 0 / 2 → t < stack_count
      → sorted_to area dist ids level (i + 1) ≡ appended t (i ∷ []) (sorted_to area dist ids level i)
  unfolding ◌and◌
  sort_put t h a z e l = rw e (goes area dist ids level i (rw (get_d_any area i 256 0 h, ne_eqb _ 0 a, eq-eqb _ 0 z)) (rw e at l))

-- ---------------------------------------------------------------- no more entries than spans

total-none : (area dist ids : List ℕ) (level : ℕ) → total (sorted_to area dist ids level 0) ≡ 0
unfolding total sorted_to tab keep
total-none area dist ids level = refl

total_more : (area dist ids : List ℕ) (level i : ℕ) → total (sorted_to area dist ids level (i + 1)) ≤ total (sorted_to area dist ids level i) + 1
total_more area dist ids level i =
    elim (dec_lt (level / 2 - get_or dist i 0 / 2) stack_count) [
      | yes h ↦ ⊎_elim
          (λ (e : (not (eqb (get_or area i 256) 0) and eqb (get_or ids i 0) 0) ≡ true). rw (goes area dist ids level i e h) (total-appended (level / 2 - get_or dist i 0 / 2) (i ∷ []) (sorted_to area dist ids level i)))
          (λ (e : (not (eqb (get_or area i 256) 0) and eqb (get_or ids i 0) 0) ≡ false). rw (not_free area dist ids level i e) (omega arith))
          (cases (not (eqb (get_or area i 256) 0) and eqb (get_or ids i 0) 0))
      | no h ↦ rw (too_high area dist ids level i (omega arith)) (omega arith)
    ]

total-sorted : (area dist ids : List ℕ) (level i : ℕ) → total (sorted_to area dist ids level i) ≤ i
total-sorted area dist ids level zero = omega (arith, total-none area dist ids level)
total-sorted area dist ids level (suc i) = rw (← add-one i) (omega (arith, total-sorted area dist ids level i, total_more area dist ids level i))

-- so there is room for one more
pub sort_room : (area dist ids : List ℕ) (level i : ℕ) (ws : List ℕ) (n : ℕ) (fs : List ℕ) (k : ℕ) → StackPart n ws → Fills n fs
    → levels_at ws n fs ≡ sorted_to area dist ids level i → k < stack_count → i < n → get_or fs k 0 < n
sort_room area dist ids level i ws n fs k r f e h g =
    let a = fill_is ws n fs k r f h in
    let b = one_of_total (levels_at ws n fs) k in
    let c : total (levels_at ws n fs) ≤ i = rw e (total-sorted area dist ids level i) in
    omega arith

-- ---------------------------------------------------------------- the rule

sorted_is : (area dist ids : List ℕ) (level : ℕ) → sorted_to area dist ids level (length area) ≡ sorted area dist ids level
unfolding sorted blank walkable sorted_to
sorted_is area dist ids level = refl

sorted_eight : (area dist ids : List ℕ) (level i : ℕ) → length (sorted_to area dist ids level i) ≡ 8
unfolding sorted_to
sorted_eight area dist ids level i = length-tab stack_count 0 _

pub sorted_stacked : (area dist ids : List ℕ) (level : ℕ) → Stacked (length area) (sorted area dist ids level) 0
unfolding loaded when◌then◌else◌
sorted_stacked area dist ids level =
    let e = sorted_is area dist ids level in
    let N : Net = record { neighbours = []; areas = area } in
    record {
      eight = rw (← e) (sorted_eight area dist ids level (length area));
      room = rw (← e) (total-sorted area dist ids level (length area));
      inside = loaded_inside N dist level 0 (record { marks = record { ids = ids; src = [] }; stacks = []; next = 0 }) (λ i. tt);
    }

-- ---------------------------------------------------------------- one span of the workspace's sort

module _ (area dist ids : List ℕ) (level i : ℕ) (ws fs : List ℕ) where
  moved_skip : Fills (length area) fs → levels_at ws (length area) fs ≡ sorted_to area dist ids level i → sorted_to area dist ids level (i + 1) ≡ sorted_to area dist ids level i
      → Moved (length area) ws fs ws fs (sorted_to area dist ids level (i + 1))
  moved_skip f s e = moved_none ws (length area) fs _ f (s ∙ sym e)

  pub moved_skip_area : i < length area → Fills (length area) fs → levels_at ws (length area) fs ≡ sorted_to area dist ids level i → get_or area i 0 ≡ 0
      → Moved (length area) ws fs ws fs (sorted_to area dist ids level (i + 1))
  moved_skip_area h f s e = moved_skip f s (skip_area area dist ids level i h e)

  pub moved_skip_id : Fills (length area) fs → levels_at ws (length area) fs ≡ sorted_to area dist ids level i → (get_or ids i 0 ≡ 0 → ⊥)
      → Moved (length area) ws fs ws fs (sorted_to area dist ids level (i + 1))
  moved_skip_id f s e = moved_skip f s (skip_id area dist ids level i e)

  pub moved_skip_high : (t : ℕ) → Fills (length area) fs → levels_at ws (length area) fs ≡ sorted_to area dist ids level i → t ≡ level / 2 - get_or dist i 0 / 2 → stack_count ≤ t
      → Moved (length area) ws fs ws fs (sorted_to area dist ids level (i + 1))
  moved_skip_high t f s e h = moved_skip f s (skip_high area dist ids level i t e h)

  pub moved_put : (t : ℕ) (ws' fs' : List ℕ) → i < length area → levels_at ws (length area) fs ≡ sorted_to area dist ids level i
      → (get_or area i 0 ≡ 0 → ⊥) → get_or ids i 0 ≡ 0 → t ≡ level / 2 - get_or dist i 0 / 2 → t < stack_count
      → Moved (length area) ws fs ws' fs' (appended t (i ∷ []) (levels_at ws (length area) fs))
      → Moved (length area) ws fs ws' fs' (sorted_to area dist ids level (i + 1))
  moved_put t ws' fs' h s a z e l m = rw (sort_put area dist ids level i t h a z e l) (rw s at m)

-- ---------------------------------------------------------------- the loop

module _ (area dist ids : List ℕ) (level : ℕ) (ws₀ : List ℕ) where
  -- all stacks are emptied
  pub sort_start : Moved (length area) ws₀ (replicate stack_count 0) ws₀ (replicate stack_count 0) (sorted_to area dist ids level 0)
  unfolding levels_at sorted_to tab keep
  sort_start = moved_none ws₀ (length area) (replicate stack_count 0) _ (record { eight = refl; most = λ k. omega (arith, zeros-at stack_count k) }) refl

  -- where the loop ends
  pub moved_to : (e k : ℕ) (fs₀ ws fs : List ℕ) → Moved (length area) ws₀ fs₀ ws fs (sorted_to area dist ids level k) → k ≤ e → e ≤ k
      → Moved (length area) ws₀ fs₀ ws fs (sorted_to area dist ids level e)
  moved_to e k fs₀ ws fs m a b = let q : e ≡ k = omega arith in rw q m

  -- the blocks, then the rest
  module _ (i : ℕ) (fs₀ ws fs ws' fs' : List ℕ) (m : Moved (length area) ws₀ fs₀ ws fs (sorted_to area dist ids level i)) (r : Moved (length area) ws fs ws' fs' (sorted_to area dist ids level (length area))) where
    pub sort_kept : Kept (length area) ws₀ fs₀ ws' fs'
    sort_kept = (moved_then m r).kept

    pub sort_done : levels_at ws' (length area) fs' ≡ sorted area dist ids level
    sort_done = r.same ∙ sorted_is area dist ids level

    pub sort_stacked : Stacked (length area) (levels_at ws' (length area) fs') 0
    sort_stacked = rw sort_done (sorted_stacked area dist ids level)
