-- Ids and their runs: the runs of ids spread to the ids and are the longest, and the longest runs are those of the ids that they spread to.
-- By induction over what comes after a run. Assumes nothing.
use Prim.Native.Nat.{ℕ, zero, suc, ◌+◌, ◌-◌, ◌≤◌, ◌<◌}
use native.Mathlib.Omega.{arith}
use native.Mathlib.Decide.{ℕ_discrete}
use mathlib.Core.Path.{◌≡◌, refl, ap, ◌∙◌}
use mathlib.Core.Bool.{true, false, not}
use mathlib.Core.List.{List, [], ◌∷◌, ◌++◌}
use lib.ListN.{replicate}
use lib.Dec.{eqb, ltb}
use borrow.Author.Tests.{eqb-true, eq-eqb, ne_eqb, ltb-true, ltb-false, lt-ltb, le-ltb, not-true}
use Rattle.rules.specs.Base.{◌and◌, ◌or◌, when◌then◌else◌}
use Rattle.rules.specs.Stored.{Run, joins, runs_from, runs_of, spread, longest_after, longest}
use Rattle.laws.proofs.Basics.{both, either, and_both, or_left, or_right, and_no, if-ind, All}

-- a run of id x and length k
abbrev pub run : ℕ → ℕ → Run
run x k = record { id = x; long = k }

-- "length from 1 to 65,535", and an id of two bytes
pub record Sized (r : Run) : Type 0 where
  pub some : 0 < r.long
  pub most : r.long ≤ 65535
  pub small : r.id < 65536

pub AllSized : List Run → Type 0
AllSized [] = Unit {0}
AllSized (r ∷ rs) = Sized r × AllSized rs

pub sized-none : AllSized []
unfolding AllSized
sized-none = tt

pub sized_cons : (r : Run) (rs : List Run) → Sized r → AllSized rs → AllSized (r ∷ rs)
unfolding AllSized
sized_cons r rs p q = (p, q)

pub sized-first : (r : Run) (rs : List Run) → AllSized (r ∷ rs) → Sized r
unfolding AllSized
sized-first r rs p = p.0

pub sized_rest : (r : Run) (rs : List Run) → AllSized (r ∷ rs) → AllSized rs
unfolding AllSized
sized_rest r rs p = p.1

-- ---------------------------------------------------------------- one step of the runs

pub joined : (x k y : ℕ) → joins x k y ≡ true → (x ≡ y) × (k < 65535)
unfolding joins
joined x k y e = (eqb-true x y (both (eqb x y) (ltb k 65535) e).0, ltb-true k 65535 (both (eqb x y) (ltb k 65535) e).1)

pub joins_yes : (x k : ℕ) → k < 65535 → joins x k x ≡ true
unfolding joins
joins_yes x k h = and_both (eqb x x) (ltb k 65535) (eq-eqb x x refl) (lt-ltb k 65535 h)

-- a run that y does not lengthen is of another id, or as long as a run may be
pub parted : (x k y : ℕ) → k ≤ 65535 → joins x k y ≡ false → x ≡ y → k ≡ 65535
unfolding joins ◌and◌
parted x k y h e p = omega (arith, ltb-false k 65535 (rw (eq-eqb x y p) at e))

-- ---------------------------------------------------------------- ids, their runs, and the ids again

cons_replicate : (k x : ℕ) (ys : List ℕ) → replicate (suc k) x ++ ys ≡ replicate k x ++ (x ∷ ys)
cons_replicate zero x ys = refl
cons_replicate (suc k) x ys = ap (λ l. x ∷ l) (cons_replicate k x ys)

pub spread_from : (x k : ℕ) (ys : List ℕ) → spread (runs_from x k ys) ≡ replicate k x ++ ys
unfolding runs_from spread
spread_from x k [] = refl
spread_from x k (y ∷ ys) =
    if-ind (λ rs. spread rs ≡ replicate k x ++ (y ∷ ys)) (joins x k y)
    (λ e. spread_from x (suc k) ys ∙ cons_replicate k x ys ∙ ap (λ z. replicate k x ++ (z ∷ ys)) (joined x k y e).0)
    (λ e. ap (λ l. replicate k x ++ l) (spread_from y 1 ys))

pub spread_runs : (ids : List ℕ) → spread (runs_of ids) ≡ ids
unfolding runs_of spread
spread_runs [] = refl
spread_runs (x ∷ xs) = spread_from x 1 xs

-- as the test of the rule has it
follows : (p q x : ℕ) → (p ≡ x → q ≡ 65535) → (not (eqb p x) or eqb q 65535) ≡ true
follows p q x f = elim (ℕ_discrete p x) [ yes e ↦ or_right (not (eqb p x)) (eqb q 65535) (eq-eqb q 65535 (f e)) | no e ↦ or_left (not (eqb p x)) (eqb q 65535) (ap not (ne_eqb p x e)) ]

pub longest_from : (p q x k : ℕ) (ys : List ℕ) → k ≤ 65535 → (p ≡ x → q ≡ 65535) → longest_after p q (runs_from x k ys) ≡ true
unfolding runs_from longest_after
longest_from p q x k [] h f = and_both _ true (follows p q x f) refl
longest_from p q x k (y ∷ ys) h f =
    if-ind (λ rs. longest_after p q rs ≡ true) (joins x k y)
    (λ e. longest_from p q x (suc k) ys (omega (arith, (joined x k y e).1)) f)
    (λ e. and_both _ _ (follows p q x f) (longest_from x k y 1 ys (omega arith) (parted x k y h e)))

-- the first run follows none
first_free : (x k : ℕ) (ys : List ℕ) → k ≤ 65535 → longest (runs_from x k ys) ≡ true
unfolding runs_from longest longest_after
first_free x k [] h = refl
first_free x k (y ∷ ys) h =
    if-ind (λ rs. longest rs ≡ true) (joins x k y)
    (λ e. first_free x (suc k) ys (omega (arith, (joined x k y e).1)))
    (λ e. longest_from x k y 1 ys (omega arith) (parted x k y h e))

pub longest_runs : (ids : List ℕ) → longest (runs_of ids) ≡ true
unfolding runs_of longest
longest_runs [] = refl
longest_runs (x ∷ xs) = first_free x 1 xs (omega arith)

pub sized_from : (x k : ℕ) (ys : List ℕ) → 0 < k → k ≤ 65535 → x < 65536 → All (λ y. y < 65536) ys → AllSized (runs_from x k ys)
unfolding runs_from
sized_from x k [] g h s a = sized_cons (run x k) [] (record { some = g; most = h; small = s }) sized-none
sized_from x k (y ∷ ys) g h s a =
    if-ind AllSized (joins x k y)
    (λ e. sized_from x (suc k) ys (omega arith) (omega (arith, (joined x k y e).1)) s a.1)
    (λ e. sized_cons (run x k) (runs_from y 1 ys) (record { some = g; most = h; small = s }) (sized_from y 1 ys (omega arith) (omega arith) a.0 a.1))

pub sized_runs : (ids : List ℕ) → All (λ y. y < 65536) ids → AllSized (runs_of ids)
unfolding runs_of
sized_runs [] a = sized-none
sized_runs (x ∷ xs) a = sized_from x 1 xs (omega arith) (omega arith) a.0 a.1

-- ---------------------------------------------------------------- the longest runs, their ids, and the runs again

-- spans of its id lengthen a run, within the limit
grows : (x k j : ℕ) (ys : List ℕ) → k + j ≤ 65535 → runs_from x k (replicate j x ++ ys) ≡ runs_from x (k + j) ys
unfolding runs_from when◌then◌else◌
grows x k zero ys h = let e : k + 0 ≡ k = omega arith in rw e
grows x k (suc j) ys h =
    let e : suc k + j ≡ k + suc j = omega arith in
    let g : suc k + j ≤ 65535 = omega arith in
    rw (joins_yes x k (omega arith)) (grows x (suc k) j ys g ∙ ap (λ z. runs_from x z ys) e)

other : (x k y : ℕ) → not (eqb x y) ≡ true → joins x k y ≡ false
unfolding joins ◌and◌
other x k y p = rw (not-true (eqb x y) p)

full : (x k y : ℕ) → k ≡ 65535 → joins x k y ≡ false
unfolding joins
full x k y p = ap (λ b. eqb x y and b) (le-ltb k 65535 (omega arith)) ∙ and_no (eqb x y)

-- as the rule's test has it
apart : (x k y : ℕ) → (not (eqb x y) or eqb k 65535) ≡ true → joins x k y ≡ false
apart x k y e =
    either (joins x k y ≡ false) (not (eqb x y)) (eqb k 65535) e
    (λ p. other x k y p)
    (λ p. full x k y (eqb-true k 65535 p))

-- a run of length 1 or more, with what follows it
first_of : (x k : ℕ) → 0 < k → (ys : List ℕ) → replicate k x ++ ys ≡ x ∷ (replicate (k - 1) x ++ ys)
first_of x zero h ys = absurd (omega arith)
first_of x (suc k) h ys = let e : suc k - 1 ≡ k = omega arith in rw e

spread-first : (x k : ℕ) (ys : List ℕ) → Sized (run x k) → runs_of (replicate k x ++ ys) ≡ runs_from x k ys
unfolding runs_of
spread-first x k ys s =
    let e : 1 + (k - 1) ≡ k = omega (arith, s.some) in
    ap runs_of (first_of x k s.some ys) ∙ grows x 1 (k - 1) ys (omega (arith, s.some, s.most)) ∙ ap (λ z. runs_from x z ys) e

again-step : (x k y l : ℕ) (rs : List Run) → Sized (run y l) → (not (eqb x y) or eqb k 65535) ≡ true
    → runs_from y l (spread rs) ≡ run y l ∷ rs → runs_from x k (replicate l y ++ spread rs) ≡ run x k ∷ run y l ∷ rs
unfolding runs_from when◌then◌else◌
again-step x k y l rs s p q =
    let e : 1 + (l - 1) ≡ l = omega (arith, s.some) in
    ap (runs_from x k) (first_of y l s.some (spread rs))
    ∙ rw (apart x k y p) (ap (λ z. run x k ∷ z) (grows y 1 (l - 1) (spread rs) (omega (arith, s.some, s.most)) ∙ ap (λ z. runs_from y z (spread rs)) e ∙ q))

pub runs_again : (x k : ℕ) (rs : List Run) → AllSized rs → longest_after x k rs ≡ true → runs_from x k (spread rs) ≡ run x k ∷ rs
unfolding runs_from longest_after spread when◌then◌else◌
runs_again x k [] a e = refl
runs_again x k (r ∷ rs) a e =
    again-step x k r.id r.long rs (sized-first r rs a) (both (not (eqb x r.id) or eqb k 65535) (longest_after r.id r.long rs) e).0
    (runs_again r.id r.long rs (sized_rest r rs a) (both (not (eqb x r.id) or eqb k 65535) (longest_after r.id r.long rs) e).1)

pub runs_spread : (rs : List Run) → AllSized rs → longest rs ≡ true → runs_of (spread rs) ≡ rs
unfolding spread longest runs_of
runs_spread [] a e = refl
runs_spread (r ∷ rs) a e = spread-first r.id r.long (spread rs) (sized-first r rs a) ∙ runs_again r.id r.long rs (sized_rest r rs a) e
