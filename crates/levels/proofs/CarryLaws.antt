-- Why a stack never passes n entries: the entries of this and later turns' stacks are at most n together.
-- A sorted span goes to one stack; an entry that is appended was counted in the stack before; marking an entry used leaves it where it is.
use Prim.Native.Nat.{ℕ, zero, suc, ◌+◌, ◌-◌, ◌≤◌, ◌<◌}
use native.Mathlib.Omega.{arith}
use native.Mathlib.Nat.{le_refl}
use mathlib.Core.Path.{◌≡◌, refl, ◌∙◌}
use mathlib.Core.List.{List, [], ◌∷◌, ◌++◌, append-nil, append_assoc}
use lib.ListN.{length, get_or, set, drop, length-set, length-append}
use lib.Seq.{set-get_or, set-set, get_or-set_same}
use Rattle.rules.specs.Growth.{remains}
use Rattle.laws.proofs.Basics.{All, keep_all, keep-length, append_all, set_cases}
use Rattle.levels.specs.Levels.{stack_count, Entry, appended, total, Stacked}

-- ---------------------------------------------------------------- appended

pub appended-none : (k : ℕ) (ls : List (List ℕ)) → appended k [] ls ≡ ls
unfolding appended
appended-none k ls = rw (append-nil (get_or ls k [])) (set-get_or ls k [])

pub appended-appended : (k : ℕ) (xs ys : List ℕ) (ls : List (List ℕ)) → k < length ls → appended k ys (appended k xs ls) ≡ appended k (xs ++ ys) ls
unfolding appended
appended-appended k xs ys ls h = rw (get_or-set_same ls k (get_or ls k [] ++ xs) [] h, set-set ls k (get_or ls k [] ++ xs) (get_or ls k [] ++ xs ++ ys), append_assoc (get_or ls k []) xs ys)

-- ---------------------------------------------------------------- how many entries

pub one_of_total : (ls : List (List ℕ)) (k : ℕ) → length (get_or ls k []) ≤ total ls
unfolding total
one_of_total [] k = le_refl 0
one_of_total (l ∷ ls) zero = omega arith
one_of_total (l ∷ ls) (suc k) = omega (arith, one_of_total ls k)

pub total-appended : (k : ℕ) (ys : List ℕ) (ls : List (List ℕ)) → total (appended k ys ls) ≤ total ls + length ys
unfolding total appended
total-appended k ys [] = omega arith
total-appended zero ys (l ∷ ls) = omega (arith, length-append l ys)
total-appended (suc k) ys (l ∷ ls) = omega (arith, total-appended k ys ls)

-- from stack j on
total_from : (j : ℕ) (ls : List (List ℕ)) → j < length ls → total (drop j ls) ≡ length (get_or ls j []) + total (drop (suc j) ls)
unfolding total
total_from j [] h = absurd (omega arith)
total_from zero (l ∷ ls) h = refl
total_from (suc j) (l ∷ ls) h = total_from j ls (omega arith)

total-set : (j : ℕ) (v : List ℕ) (ls : List (List ℕ)) → j < length ls → total (drop j (set ls j v)) ≡ length v + total (drop (suc j) ls)
unfolding total
total-set j v [] h = absurd (omega arith)
total-set zero v (l ∷ ls) h = refl
total-set (suc j) v (l ∷ ls) h = total-set j v ls (omega arith)

-- ---------------------------------------------------------------- from turn to turn

pub remains_few : (ids : List ℕ) (es : List ℕ) → length (remains ids es) ≤ length es
unfolding remains
remains_few ids es = keep-length _ es

-- the stack before is counted beside this one
total-two : (j : ℕ) (ls : List (List ℕ)) → 0 < j → j < length ls → total (drop (j - 1) ls) ≡ length (get_or ls (j - 1) []) + (length (get_or ls j []) + total (drop (suc j) ls))
total-two j ls p h =
    let e : suc (j - 1) ≡ j = omega arith in
    let a = rw e at (total_from (j - 1) ls (omega arith)) in
    let b = total_from j ls h in
    omega arith

-- what is appended at turn j, at most as many as the stack before has, fits
pub stacked_room : (n j : ℕ) (ls : List (List ℕ)) → Stacked n ls (j - 1) → 0 < j → j < stack_count → length (get_or ls (j - 1) []) + length (get_or ls j []) ≤ n
stacked_room n j ls s p h = omega (arith, s.room, total-two j ls p (omega (arith, s.eight)))

-- what holds of every entry holds of those appended
append-each : (P : ℕ → Type 0) (j i : ℕ) (ids : List ℕ) (ls : List (List ℕ)) → ((k : ℕ) → All P (get_or ls k [])) → (k : ℕ) → All P (get_or (appended j (remains ids (get_or ls i [])) ls) k [])
unfolding appended remains
append-each P j i ids ls h k = set_cases ls j _ [] k (All P) (append_all P (get_or ls j []) (remains ids (get_or ls i [])) (h j) (keep_all P _ (get_or ls i []) (h i))) (h k)

pub stacked_append : (n j : ℕ) (ids : List ℕ) (ls : List (List ℕ)) → Stacked n ls (j - 1) → 0 < j → j < stack_count → Stacked n (appended j (remains ids (get_or ls (j - 1) [])) ls) j
unfolding appended remains
stacked_append n j ids ls s p h =
    let src = get_or ls (j - 1) [] in
    let dst = get_or ls j [] in
    let a = total-two j ls p (omega (arith, s.eight)) in
    let c = total-set j (dst ++ remains ids src) ls (omega (arith, s.eight)) in
    record {
      eight = length-set ls j _ ∙ s.eight;
      room = omega (arith, s.room, length-append dst (remains ids src), remains_few ids src);
      inside = append-each _ j (j - 1) ids ls s.inside;
    }

-- entries of the turn's stack are marked used
pub stacked_used : (n j : ℕ) (es : List ℕ) (ls : List (List ℕ)) → Stacked n ls j → j < stack_count → length es ≡ length (get_or ls j []) → All (Entry n) es
    → Stacked n (set ls j es) j
stacked_used n j es ls s h l a =
    let b = total_from j ls (omega (arith, s.eight)) in
    let c = total-set j es ls (omega (arith, s.eight)) in
    record {
      eight = length-set ls j es ∙ s.eight;
      room = omega (arith, s.room);
      inside = λ k. set_cases ls j es [] k (All _) a (s.inside k);
    }
