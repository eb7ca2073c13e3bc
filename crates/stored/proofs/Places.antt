-- The rules read a file record by record, the code by places: what stands at a place, and the rest after it.
-- A list from a place on is its next elements and the list from the place after them. Assumes nothing.
use Prim.Native.Nat.{ℕ, suc, ◌+◌, ◌*◌, ◌-◌, ◌/◌, ◌%◌, ◌≤◌, ◌<◌}
use native.Mathlib.Omega.{arith}
use mathlib.Core.Path.{◌≡◌, refl, sym, ap, ◌∙◌}
use mathlib.Core.Bool.{Bool, true, false, false≢true}
use mathlib.Core.List.{List, [], ◌∷◌, ◌++◌, append_assoc}
use lib.ListN.{length, get_or, drop, replicate, length-append, length-replicate, drop_of_length-le}
use lib.Seq.{drop-cons}
use lib.Dec.{eqb, leb}
use borrow.Author.Tests.{eqb-true, eq-eqb, le-leb}
use Rattle.rules.specs.Base.{◌and◌, when◌then◌else◌}
use Rattle.rules.specs.File.{word}
use Rattle.rules.specs.Stored.{Run, old_fine, old_ids, joins, runs_from, runs_of, spread, run_record, mark_record, new_from, new_bytes, marks_fit, packed}
use Rattle.laws.proofs.Basics.{both, and_both, if-ind}
use Rattle.forms.proofs.Runs.{run, joined, spread_runs}
use Rattle.stored.specs.Parts.{grown, next_run, turned, run_then, ended, mark_fits, end_fits}

drop-one : (l : List ℕ) (i j : ℕ) → j ≡ suc i → i < length l → drop i l ≡ get_or l i 0 ∷ drop j l
drop-one l i j e h = drop-cons l i 0 h ∙ ap (λ k. get_or l i 0 ∷ drop k l) (sym e)

pub drop_three : (l : List ℕ) (i : ℕ) → i + 3 ≤ length l → drop i l ≡ get_or l i 0 ∷ get_or l (i + 1) 0 ∷ get_or l (i + 2) 0 ∷ drop (i + 3) l
drop_three l i h =
    drop-one l i (i + 1) (omega arith) (omega arith)
    ∙ ap (λ t. get_or l i 0 ∷ t) (drop-one l (i + 1) (i + 2) (omega arith) (omega arith)
    ∙ ap (λ t. get_or l (i + 1) 0 ∷ t) (drop-one l (i + 2) (i + 3) (omega arith) (omega arith)))

pub drop-five : (l : List ℕ) (i : ℕ) → i + 5 ≤ length l
    → drop i l ≡ get_or l i 0 ∷ get_or l (i + 1) 0 ∷ get_or l (i + 2) 0 ∷ get_or l (i + 3) 0 ∷ get_or l (i + 4) 0 ∷ drop (i + 5) l
drop-five l i h =
    drop-one l i (i + 1) (omega arith) (omega arith)
    ∙ ap (λ t. get_or l i 0 ∷ t) (drop-one l (i + 1) (i + 2) (omega arith) (omega arith)
    ∙ ap (λ t. get_or l (i + 1) 0 ∷ t) (drop-one l (i + 2) (i + 3) (omega arith) (omega arith)
    ∙ ap (λ t. get_or l (i + 2) 0 ∷ t) (drop-one l (i + 3) (i + 4) (omega arith) (omega arith)
    ∙ ap (λ t. get_or l (i + 3) 0 ∷ t) (drop-one l (i + 4) (i + 5) (omega arith) (omega arith)))))

and_yes : (a : Bool) → a and true ≡ a
unfolding ◌and◌
and_yes true = refl
and_yes false = refl

-- the last element
pub drop-last : (l : List ℕ) (i : ℕ) → length l ≡ i + 1 → drop i l ≡ get_or l i 0 ∷ []
drop-last l i h = drop-one l i (i + 1) (omega arith) (omega arith) ∙ ap (λ t. get_or l i 0 ∷ t) (drop_of_length-le l {i = i + 1} (omega arith))

-- ---------------------------------------------------------------- the old form

pub old_length : (l : List ℕ) → old_fine l ≡ true → length l % 3 ≡ 1
unfolding old_fine
old_length [] e = absurd (false≢true e)
old_length (k ∷ []) e = refl
old_length (k ∷ a ∷ []) e = absurd (false≢true e)
old_length (k ∷ a ∷ b ∷ rest) e = omega (arith, old_length rest (both (eqb k 5) (old_fine rest) e).1)

pub false_of : (b : Bool) → (b ≡ true → ⊥) → false ≡ b
false_of true n = absurd (n refl)
false_of false n = refl

pub old_odd : (l : List ℕ) → (length l % 3 ≡ 1 → ⊥) → false ≡ old_fine l
old_odd l n = false_of (old_fine l) (λ e. n (old_length l e))

-- the fine rest from record i on
pub old_first : (l : List ℕ) → old_fine l ≡ old_fine (drop (3 * 0) l)
old_first l = refl

pub old_next : (l : List ℕ) (i : ℕ) → length l % 3 ≡ 1 → i < length l / 3 → old_fine (drop (3 * i) l) ≡ eqb (get_or l (3 * i) 0) 5 and old_fine (drop (3 * (i + 1)) l)
unfolding old_fine
old_next l i o h =
    let e : 3 * i + 3 ≡ 3 * (i + 1) = omega arith in
    ap old_fine (drop_three l (3 * i) (omega arith)) ∙ ap (λ k. eqb (get_or l (3 * i) 0) 5 and old_fine (drop k l)) e

pub old_goes : (l : List ℕ) (i : ℕ) → length l % 3 ≡ 1 → i < length l / 3 → old_fine l ≡ old_fine (drop (3 * i) l) → get_or l (3 * i) 0 ≡ 5
    → old_fine l ≡ old_fine (drop (3 * (i + 1)) l)
unfolding ◌and◌
old_goes l i o h e k = e ∙ old_next l i o h ∙ ap (λ b. b and old_fine (drop (3 * (i + 1)) l)) (eq-eqb (get_or l (3 * i) 0) 5 k)

pub old_stops : (l : List ℕ) (i : ℕ) → length l % 3 ≡ 1 → i < length l / 3 → old_fine l ≡ old_fine (drop (3 * i) l) → (get_or l (3 * i) 0 ≡ 5 → ⊥) → false ≡ old_fine l
old_stops l i o h e k =
    false_of (old_fine l) (λ t. k (eqb-true (get_or l (3 * i) 0) 5 (both (eqb (get_or l (3 * i) 0) 5) (old_fine (drop (3 * (i + 1)) l)) (sym (old_next l i o h) ∙ sym e ∙ t)).0))

pub old_end : (l : List ℕ) (i : ℕ) → length l % 3 ≡ 1 → i ≤ length l / 3 → length l / 3 ≤ i → old_fine l ≡ old_fine (drop (3 * i) l) → eqb (get_or l (3 * i) 0) 4 ≡ old_fine l
unfolding old_fine
old_end l i o h g e = sym (e ∙ ap old_fine (drop-last l (3 * i) (omega arith)))

-- ---------------------------------------------------------------- the runs of an old file

-- what is still to be written, after i spans and with a run of id x and length k so far, t runs of the stretch being before it
unfoldable pub runs_left : List ℕ → ℕ → ℕ → ℕ → ℕ → List ℕ
runs_left l i x k t = new_from t (i - k) (runs_from x k (old_ids (drop (3 * i) l)))

-- whether the numbers of spans in it fit
unfoldable pub fits_left : List ℕ → ℕ → ℕ → ℕ → ℕ → Bool
fits_left l i x k t = marks_fit t (i - k) (runs_from x k (old_ids (drop (3 * i) l)))

ids_next : (l : List ℕ) (i : ℕ) → length l % 3 ≡ 1 → i < length l / 3 → old_ids (drop (3 * i) l) ≡ word l (3 * i + 1) ∷ old_ids (drop (3 * (i + 1)) l)
unfolding old_ids word
ids_next l i o h =
    let e : 3 * i + 3 ≡ 3 * (i + 1) = omega arith in
    let f : 3 * i + 2 ≡ 3 * i + 1 + 1 = omega arith in
    ap old_ids (drop_three l (3 * i) (omega arith))
    ∙ ap (λ k. (get_or l (3 * i + 1) 0 + 256 * get_or l k 0) ∷ old_ids (drop (3 * i + 3) l)) f
    ∙ ap (λ k. (get_or l (3 * i + 1) 0 + 256 * get_or l (3 * i + 1 + 1) 0) ∷ old_ids (drop k l)) e

ids_end : (l : List ℕ) (i : ℕ) → length l % 3 ≡ 1 → i ≤ length l / 3 → length l / 3 ≤ i → old_ids (drop (3 * i) l) ≡ []
unfolding old_ids
ids_end l i o h g = ap old_ids (drop-last l (3 * i) (omega arith))

run_cases : (x k t s : ℕ) (rs : List Run) (b : Bool) → eqb (suc t) 64 ≡ b
    → run_record x k ++ (when b then mark_record s ++ new_from 0 s rs else new_from (suc t) s rs) ≡ run_then x k t s ++ new_from (next_run t) s rs
unfolding run_then next_run when◌then◌else◌
run_cases x k t s rs true e = rw e (sym (append_assoc (run_record x k) (mark_record s) (new_from 0 s rs)))
run_cases x k t s rs false e = rw e (sym (append_assoc (run_record x k) [] (new_from (suc t) s rs)))

fits_cases : (t s : ℕ) (rs : List Run) (b : Bool) → eqb (suc t) 64 ≡ b
    → (when b then leb s 4294967295 and marks_fit 0 s rs else marks_fit (suc t) s rs) ≡ mark_fits t s and marks_fit (next_run t) s rs
unfolding mark_fits next_run when◌then◌else◌ ◌and◌
fits_cases t s rs true e = rw e
fits_cases t s rs false e = rw e

-- a run, and the rest after it
run_then_lem : (x k t s : ℕ) (rs : List Run) → new_from t s (run x k ∷ rs) ≡ run_then x k t (s + k) ++ new_from (next_run t) (s + k) rs
unfolding new_from
run_then_lem x k t s rs = run_cases x k t (s + k) rs (eqb (suc t) 64) refl

fits_then : (x k t s : ℕ) (rs : List Run) → marks_fit t s (run x k ∷ rs) ≡ mark_fits t (s + k) and marks_fit (next_run t) (s + k) rs
unfolding marks_fit
fits_then x k t s rs = fits_cases t (s + k) rs (eqb (suc t) 64) refl

from_cases : (x k y t i : ℕ) (ys : List ℕ) → k ≤ i → (b : Bool) → joins x k y ≡ b
    → new_from t (i - k) (when b then runs_from x (suc k) ys else run x k ∷ runs_from y 1 ys)
    ≡ ended x k y t i ++ new_from (turned x k y t) (i + 1 - grown x k y) (runs_from y (grown x k y) ys)
unfolding ended turned grown when◌then◌else◌
from_cases x k y t i ys le true e =
    let n : i + 1 - suc k ≡ i - k = omega arith in
    rw e (ap (λ z. new_from t (i - k) (runs_from z (suc k) ys)) (joined x k y e).0 ∙ ap (λ z. new_from t z (runs_from y (suc k) ys)) (sym n))
from_cases x k y t i ys le false e =
    let n : i - k + k ≡ i = omega arith in
    let m : i ≡ i + 1 - 1 = omega arith in
    rw e (run_then_lem x k t (i - k) (runs_from y 1 ys) ∙ ap (λ z. run_then x k t z ++ new_from (next_run t) z (runs_from y 1 ys)) n
    ∙ ap (λ z. run_then x k t i ++ new_from (next_run t) z (runs_from y 1 ys)) m)

fit_cases : (x k y t i : ℕ) (ys : List ℕ) → k ≤ i → (b : Bool) → joins x k y ≡ b
    → marks_fit t (i - k) (when b then runs_from x (suc k) ys else run x k ∷ runs_from y 1 ys)
    ≡ end_fits x k y t i and marks_fit (turned x k y t) (i + 1 - grown x k y) (runs_from y (grown x k y) ys)
unfolding end_fits turned grown when◌then◌else◌ ◌and◌
fit_cases x k y t i ys le true e =
    let n : i + 1 - suc k ≡ i - k = omega arith in
    rw e (ap (λ z. marks_fit t (i - k) (runs_from z (suc k) ys)) (joined x k y e).0 ∙ ap (λ z. marks_fit t z (runs_from y (suc k) ys)) (sym n))
fit_cases x k y t i ys le false e =
    let n : i - k + k ≡ i = omega arith in
    let m : i ≡ i + 1 - 1 = omega arith in
    rw e (fits_then x k t (i - k) (runs_from y 1 ys) ∙ ap (λ z. mark_fits t z and marks_fit (next_run t) z (runs_from y 1 ys)) n
    ∙ ap (λ z. mark_fits t i and marks_fit (next_run t) z (runs_from y 1 ys)) m)

-- a span, and the rest after it
module _ (x k y t i : ℕ) (ys : List ℕ) (le : k ≤ i) where
  pub from_next : new_from t (i - k) (runs_from x k (y ∷ ys)) ≡ ended x k y t i ++ new_from (turned x k y t) (i + 1 - grown x k y) (runs_from y (grown x k y) ys)
  unfolding runs_from
  from_next = from_cases x k y t i ys le (joins x k y) refl

  pub fit_next : marks_fit t (i - k) (runs_from x k (y ∷ ys)) ≡ end_fits x k y t i and marks_fit (turned x k y t) (i + 1 - grown x k y) (runs_from y (grown x k y) ys)
  unfolding runs_from
  fit_next = fit_cases x k y t i ys le (joins x k y) refl

pub grown_le : (x k y i : ℕ) → k ≤ i → grown x k y ≤ i + 1
unfolding grown
grown_le x k y i h = if-ind (λ z. z ≤ i + 1) (joins x k y) (λ e. omega arith) (λ e. omega arith)

pub left-first : (l : List ℕ) → length l % 3 ≡ 1 → 3 < length l → packed l ≡ runs_left l 1 (word l 1) 1 0
unfolding packed new_bytes runs_left runs_of
left-first l o h = ap (λ ids. new_from 0 0 (runs_of ids)) (ids_next l 0 o (omega arith))

pub fits_first : (l : List ℕ) → length l % 3 ≡ 1 → 3 < length l → marks_fit 0 0 (runs_of (old_ids l)) ≡ fits_left l 1 (word l 1) 1 0
unfolding fits_left runs_of
fits_first l o h = ap (λ ids. marks_fit 0 0 (runs_of ids)) (ids_next l 0 o (omega arith))

module _ (l : List ℕ) (i x k t : ℕ) (o : length l % 3 ≡ 1) where
  pub left_next : i < length l / 3 → k ≤ i
      → runs_left l i x k t ≡ ended x k (word l (3 * i + 1)) t i ++ runs_left l (i + 1) (word l (3 * i + 1)) (grown x k (word l (3 * i + 1))) (turned x k (word l (3 * i + 1)) t)
  unfolding runs_left
  left_next h le = ap (λ ids. new_from t (i - k) (runs_from x k ids)) (ids_next l i o h) ∙ from_next x k (word l (3 * i + 1)) t i (old_ids (drop (3 * (i + 1)) l)) le

  pub fits_next : i < length l / 3 → k ≤ i
      → fits_left l i x k t ≡ end_fits x k (word l (3 * i + 1)) t i and fits_left l (i + 1) (word l (3 * i + 1)) (grown x k (word l (3 * i + 1))) (turned x k (word l (3 * i + 1)) t)
  unfolding fits_left
  fits_next h le = ap (λ ids. marks_fit t (i - k) (runs_from x k ids)) (ids_next l i o h) ∙ fit_next x k (word l (3 * i + 1)) t i (old_ids (drop (3 * (i + 1)) l)) le

  pub left_end : i ≤ length l / 3 → length l / 3 ≤ i → k ≤ i → runs_left l i x k t ≡ run_then x k t i ++ (4 ∷ [])
  unfolding runs_left runs_from new_from
  left_end h g le =
      let e : i - k + k ≡ i = omega arith in
      ap (λ ids. new_from t (i - k) (runs_from x k ids)) (ids_end l i o h g) ∙ run_then_lem x k t (i - k) [] ∙ ap (λ z. run_then x k t z ++ (4 ∷ [])) e

  pub fits_end : i ≤ length l / 3 → length l / 3 ≤ i → k ≤ i → mark_fits t i ≡ fits_left l i x k t
  unfolding fits_left runs_from marks_fit
  fits_end h g le =
      let e : i - k + k ≡ i = omega arith in
      sym (ap (λ ids. marks_fit t (i - k) (runs_from x k ids)) (ids_end l i o h g) ∙ fits_then x k t (i - k) [] ∙ and_yes (mark_fits t (i - k + k)) ∙ ap (mark_fits t) e)

-- a file with no span
pub packed_none : (l : List ℕ) → length l ≡ 1 → packed l ≡ 4 ∷ []
unfolding packed runs_of new_bytes new_from
packed_none l h = ap (λ ids. new_bytes (runs_of ids)) (ids_end l 0 (omega arith) (omega arith) (omega arith))

-- ---------------------------------------------------------------- few spans

ids_few : (l : List ℕ) → 3 * length (old_ids l) ≤ length l
unfolding old_ids
ids_few [] = omega arith
ids_few (k ∷ []) = omega arith
ids_few (k ∷ a ∷ []) = omega arith
ids_few (k ∷ a ∷ b ∷ rest) = omega (arith, ids_few rest)

fit_few : (rs : List Run) (t s : ℕ) → s + length (spread rs) ≤ 4294967295 → marks_fit t s rs ≡ true
unfolding marks_fit spread
fit_few [] t s h = refl
fit_few (r ∷ rs) t s h =
    let n : length (replicate r.long r.id ++ spread rs) ≡ r.long + length (spread rs) =
    length-append (replicate r.long r.id) (spread rs) ∙ ap (λ z. z + length (spread rs)) (length-replicate r.long r.id) in
    let m : s + r.long + length (spread rs) ≤ 4294967295 = omega arith in
    if-ind (λ b. b ≡ true) (eqb (suc t) 64)
    (λ e. and_both (leb (s + r.long) 4294967295) (marks_fit 0 (s + r.long) rs) (le-leb (s + r.long) 4294967295 (omega arith)) (fit_few rs 0 (s + r.long) m))
    (λ e. fit_few rs (suc t) (s + r.long) m)

pub few_fit : (l : List ℕ) → length l / 3 ≤ 4294967295 → true ≡ marks_fit 0 0 (runs_of (old_ids l))
few_fit l h =
    let e : length (spread (runs_of (old_ids l))) ≡ length (old_ids l) = ap length (spread_runs (old_ids l)) in
    let g : 0 + length (spread (runs_of (old_ids l))) ≤ 4294967295 = omega (arith, ids_few l) in
    sym (fit_few (runs_of (old_ids l)) 0 0 g)
