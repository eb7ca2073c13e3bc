-- The stacks after a store at the fill of one.
-- Stack k is the part at k·n as far as it is filled, so a store at its fill is one more entry there and touches no other stack.
use mathlib.Core.Path.{◌≡◌, refl, ◌∙◌}
use mathlib.Core.List.{List, [], ◌∷◌}
use Prim.Native.Nat.{ℕ, zero, suc, ◌+◌, ◌*◌, ◌≤◌, ◌<◌}
use native.Mathlib.Omega.{arith}
use native.Mathlib.Nat.{suc-mul, mul-le-mul_right, le_refl}
use native.Mathlib.Decide.{dec_lt}
use native.Mathlib.Numerals.{add-one}
use lib.ListN.{length, get_or, set, drop, length-set, length-drop}
use lib.Seq.{drop-drop, drop-set-lt, drop-set-add, take-set-le, take-suc-set, get_or-set_same, get_or-set_other}
use Rattle.laws.proofs.Basics.{get_or-set_cases}
use Rattle.space.specs.Space.{sec}
use Rattle.space.proofs.Laws.{length-sec, get_or-sec}
use Rattle.levels.specs.Levels.{stack_count, levels_at, Fills, StackPart, SortLists, appended, Moved}

-- ---------------------------------------------------------------- places

-- entry f of stack k, of m stacks of n
pub slot : (k m n f : ℕ) → k < m → f < n → k * n + f < m * n
slot k m n f hk hf = omega (arith, mul-le-mul_right n hk, suc-mul k n)

-- stack k ends within m stacks
pub slots : (k m n : ℕ) → k < m → k * n + n ≤ m * n
slots k m n h = omega (arith, mul-le-mul_right n h, suc-mul k n)

-- stack k
pub levels_at_lem : (ws : List ℕ) (n : ℕ) (fs : List ℕ) (k : ℕ) → k < length fs → get_or (levels_at ws n fs) k [] ≡ sec (k * n) (get_or fs k 0) ws
unfolding levels_at
levels_at_lem ws n [] k h = absurd (omega arith)
levels_at_lem ws n (f ∷ fs) zero h = let e : 0 * n ≡ 0 = omega arith in rw e
levels_at_lem ws n (f ∷ fs) (suc k) h =
    let e : suc k * n ≡ n + k * n = omega (arith, suc-mul k n) in
    rw (e, ← drop-drop (k * n) n ws) (levels_at_lem (drop n ws) n fs k (omega arith))

-- ---------------------------------------------------------------- a store

levels_store : (ws : List ℕ) (n k x : ℕ) (fs : List ℕ) → ((j : ℕ) → get_or fs j 0 ≤ n) → k < length fs → get_or fs k 0 < n → k * n + get_or fs k 0 < length ws
    → levels_at (set ws (k * n + get_or fs k 0) x) n (set fs k (get_or fs k 0 + 1)) ≡ appended k (x ∷ []) (levels_at ws n fs)
unfolding levels_at appended
levels_store ws n k x [] m hk hf hl = absurd (omega arith)
levels_store ws n zero x (f ∷ fs) m hk hf hl =
    let e : 0 * n + f ≡ f = omega arith in
    let d : f < length ws = omega arith in
    rw (e, add-one f, take-suc-set ws f x d, drop-set-lt n ws f x hf)
levels_store ws n (suc k) x (f ∷ fs) m hk hf hl =
    let i = k * n + get_or fs k 0 in
    let e : suc k * n + get_or fs k 0 ≡ n + (k * n + get_or fs k 0) = omega (arith, suc-mul k n) in
    let h : f ≤ n + i = omega (arith, m 0) in
    let l : i < length (drop n ws) = simp length-drop (omega (arith, suc-mul k n)) in
    rw (e, take-set-le f ws (n + i) x h, drop-set-add n ws i x, levels_store (drop n ws) n k x fs (λ j. m (suc j)) (omega arith) hf l)

fills_more : (n : ℕ) (fs : List ℕ) (k : ℕ) → Fills n fs → get_or fs k 0 < n → Fills n (set fs k (get_or fs k 0 + 1))
fills_more n fs k f h = record {
  eight = length-set fs k _ ∙ f.eight;
  most = λ j. get_or-set_cases fs k (get_or fs k 0 + 1) j (λ v. v ≤ n) (λ _. omega arith) (f.most j);
}

-- two places of different stacks
apart : (k j n f i : ℕ) → k * n + f ≡ j * n + i → f < n → i < n → k ≡ j
apart k j n f i e hf hi =
    elim (dec_lt k j) [
      | yes l ↦ absurd (omega (arith, slots k j n l))
      | no a ↦ elim (dec_lt j k) [ yes l ↦ absurd (omega (arith, slots j k n l)) | no b ↦ omega arith ]
    ]

-- the store that is a push
pub moved_push : (ws : List ℕ) (n k x : ℕ) (fs : List ℕ) → StackPart n ws → Fills n fs → k < stack_count → get_or fs k 0 < n
    → Moved n ws fs (set ws (k * n + get_or fs k 0) x) (set fs k (get_or fs k 0 + 1)) (appended k (x ∷ []) (levels_at ws n fs))
moved_push ws n k x fs l f h g =
    let p = slot k stack_count n (get_or fs k 0) h g in
    record {
      same = levels_store ws n k x fs f.most (omega (arith, f.eight)) g (omega (arith, l.exact));
      kept = record {
        size = length-set ws _ x;
        fits = fills_more n fs k f g;
        up = λ j. get_or-set_cases fs k (get_or fs k 0 + 1) j (λ v. get_or fs j 0 ≤ v) (λ e. rw e (omega arith)) (le_refl (get_or fs j 0));
        rest = λ j i hj hi hn. get_or-set_other ws (k * n + get_or fs k 0) (j * n + i) x 0 (λ e.
            let q : j ≡ k = apart j k n i (get_or fs k 0) (omega arith) hn g in
            let r : get_or (set fs k (get_or fs k 0 + 1)) k 0 ≡ get_or fs k 0 + 1 = get_or-set_same fs k (get_or fs k 0 + 1) 0 (omega (arith, f.eight)) in
            let u : get_or (set fs k (get_or fs k 0 + 1)) k 0 ≤ i = rw q at hi in
            let v : j * n + i ≡ k * n + get_or fs k 0 = omega arith in
            let w : k * n + i ≡ k * n + get_or fs k 0 = rw q at v in
            omega arith);
      };
    }

pub moved_none : (ws : List ℕ) (n : ℕ) (fs : List ℕ) (ls : List (List ℕ)) → Fills n fs → levels_at ws n fs ≡ ls → Moved n ws fs ws fs ls
moved_none ws n fs ls f e = record {
  same = e;
  kept = record { size = refl; fits = f; up = λ k. le_refl (get_or fs k 0); rest = λ k i _ _ _. refl };
}

pub moved_then : {n : ℕ} {ws₀ fs₀ ws ws' fs fs' : List ℕ} {ls ls' : List (List ℕ)} → Moved n ws₀ fs₀ ws fs ls → Moved n ws fs ws' fs' ls'
    → Moved n ws₀ fs₀ ws' fs' ls'
moved_then p q = record {
  same = q.same;
  kept = record {
    size = q.kept.size ∙ p.kept.size;
    fits = q.kept.fits;
    up = λ k. omega (arith, p.kept.up k, q.kept.up k);
    rest = λ k i h g l. q.kept.rest k i h g l ∙ p.kept.rest k i h (omega (arith, q.kept.up k)) l;
  };
}

-- what is lent stays so
pub moved_part : {n : ℕ} {ws fs ws' fs' : List ℕ} {ls : List (List ℕ)} → StackPart n ws → Moved n ws fs ws' fs' ls → StackPart n ws'
moved_part r m = record { few = r.few; exact = m.kept.size ∙ r.exact }

pub moved_lists : {areas dist ids ws fs ws' fs' : List ℕ} {ls : List (List ℕ)} → SortLists areas dist ids ws → Moved (length areas) ws fs ws' fs' ls
    → SortLists areas dist ids ws'
moved_lists l m = record { part = moved_part l.part m; dists = l.dists; idents = l.idents }

-- ---------------------------------------------------------------- fills

-- a fill is the length of its stack
pub fill_is : (ws : List ℕ) (n : ℕ) (fs : List ℕ) (k : ℕ) → StackPart n ws → Fills n fs → k < stack_count → length (get_or (levels_at ws n fs) k []) ≡ get_or fs k 0
fill_is ws n fs k r f h =
    let s = slots k stack_count n h in
    let m = f.most k in
    rw (levels_at_lem ws n fs k (omega (arith, f.eight))) (length-sec (k * n) (get_or fs k 0) ws (omega (arith, r.exact)))

-- an entry is where its stack lies
pub entry_is : (ws : List ℕ) (n : ℕ) (fs : List ℕ) (k i : ℕ) → Fills n fs → k < stack_count → i < get_or fs k 0
    → get_or (get_or (levels_at ws n fs) k []) i 0 ≡ get_or ws (k * n + i) 0
entry_is ws n fs k i f h g = rw (levels_at_lem ws n fs k (omega (arith, f.eight))) (get_or-sec (k * n) (get_or fs k 0) i ws g)
