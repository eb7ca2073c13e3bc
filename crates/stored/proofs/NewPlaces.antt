-- The same for the new form, record by record, and the spans that are made of it.
-- A record is a number of spans exactly if 64 runs of a stretch are before it. Assumes nothing.
use Prim.Native.Nat.{ℕ, zero, suc, ◌+◌, ◌*◌, ◌/◌, ◌%◌, ◌≤◌, ◌<◌}
use native.Mathlib.Omega.{arith}
use mathlib.Core.Path.{◌≡◌, refl, sym, ap, ◌∙◌}
use mathlib.Core.Bool.{Bool, true, false, not}
use mathlib.Core.List.{List, [], ◌∷◌, ◌++◌, append_assoc}
use lib.ListN.{length, get_or, drop, replicate}
use lib.Dec.{eqb, ltb, leb}
use borrow.Author.Tests.{eq-eqb, eqb-false, lt-ltb, le-ltb, leb-true}
use Rattle.rules.specs.Base.{◌and◌, when◌then◌else◌}
use Rattle.rules.specs.File.{word}
use Rattle.rules.specs.Stored.{Run, four_of, two, span_record, old_bytes, spread, longest_after, longest, new_fine_from, new_fine, new_runs_from, new_runs, right_from, right_numbers, unpacked}
use Rattle.laws.proofs.Basics.{both, and_no, or_yes, if-ind}
use Rattle.forms.proofs.Runs.{run}
use Rattle.forms.proofs.Bytes.{new_length}
use Rattle.stored.specs.Parts.{may_follow, span_records, run_spans}
use Rattle.stored.specs.Records.{record_fine, runs_after, spans_after, long_word, number_right, record_follows, number_after, spans_bytes, record_spans}
use Rattle.stored.proofs.Places.{drop-five, drop-last, false_of}

pub new_odd : (l : List ℕ) → (length l % 5 ≡ 1 → ⊥) → false ≡ new_fine l
new_odd l n = false_of (new_fine l) (λ e. n (new_length l e))

-- ---------------------------------------------------------------- one record, and the rest after it

pub drop_record : (l : List ℕ) (j : ℕ) → length l % 5 ≡ 1 → j < length l / 5
    → drop (5 * j) l ≡ get_or l (5 * j) 0 ∷ get_or l (5 * j + 1) 0 ∷ get_or l (5 * j + 1 + 1) 0 ∷ get_or l (5 * j + 3) 0 ∷ get_or l (5 * j + 3 + 1) 0 ∷ drop (5 * (j + 1)) l
drop_record l j o h =
    let e : 5 * j + 5 ≡ 5 * (j + 1) = omega arith in
    let f : 5 * j + 4 ≡ 5 * j + 3 + 1 = omega arith in
    let g : 5 * j + 2 ≡ 5 * j + 1 + 1 = omega arith in
    drop-five l (5 * j) (omega arith)
    ∙ ap (λ k. get_or l (5 * j) 0 ∷ get_or l (5 * j + 1) 0 ∷ get_or l k 0 ∷ get_or l (5 * j + 3) 0 ∷ get_or l (5 * j + 4) 0 ∷ drop (5 * j + 5) l) g
    ∙ ap (λ k. get_or l (5 * j) 0 ∷ get_or l (5 * j + 1) 0 ∷ get_or l (5 * j + 1 + 1) 0 ∷ get_or l (5 * j + 3) 0 ∷ get_or l k 0 ∷ drop (5 * j + 5) l) f
    ∙ ap (λ k. get_or l (5 * j) 0 ∷ get_or l (5 * j + 1) 0 ∷ get_or l (5 * j + 1 + 1) 0 ∷ get_or l (5 * j + 3) 0 ∷ get_or l (5 * j + 3 + 1) 0 ∷ drop k l) e

module _ (t s k a b c d : ℕ) (rest : List ℕ) where
  fine_five : (z : Bool) → eqb t 64 ≡ z
      → (when z then (eqb k 7 and leb s 4294967295) and new_fine_from 0 s rest else (eqb k 6 and ltb 0 (c + 256 * d)) and new_fine_from (suc t) (s + (c + 256 * d)) rest)
      ≡ (when z then eqb k 7 and leb s 4294967295 else eqb k 6 and ltb 0 (c + 256 * d)) and new_fine_from (runs_after t) (when z then s else s + (c + 256 * d)) rest
  unfolding runs_after when◌then◌else◌
  fine_five true e = rw e
  fine_five false e = rw e

  right-five : (z : Bool) → eqb t 64 ≡ z
      → (when z then eqb (four_of a b c d) s and right_from 0 s rest else right_from (suc t) (s + (c + 256 * d)) rest)
      ≡ (when z then eqb (four_of a b c d) s else true) and right_from (runs_after t) (when z then s else s + (c + 256 * d)) rest
  unfolding runs_after when◌then◌else◌ ◌and◌
  right-five true e = rw e
  right-five false e = rw e

  runs_five : (z : Bool) → eqb t 64 ≡ z
      → (when z then new_runs_from 0 rest else run (a + 256 * b) (c + 256 * d) ∷ new_runs_from (suc t) rest)
      ≡ (when z then [] else run (a + 256 * b) (c + 256 * d) ∷ []) ++ new_runs_from (runs_after t) rest
  unfolding runs_after when◌then◌else◌
  runs_five true e = rw e
  runs_five false e = rw e

-- the run in a record, if it is one
unfoldable pub record_runs : List ℕ → ℕ → ℕ → List Run
record_runs l i t = when eqb t 64 then [] else run (word l (i + 1)) (word l (i + 3)) ∷ []

module _ (l : List ℕ) (j t : ℕ) (o : length l % 5 ≡ 1) (h : j < length l / 5) where
  pub new_next : (s : ℕ) → new_fine_from t s (drop (5 * j) l) ≡ record_fine l (5 * j) t s and new_fine_from (runs_after t) (spans_after l (5 * j) t s) (drop (5 * (j + 1)) l)
  unfolding new_fine_from record_fine spans_after word
  new_next s =
      ap (new_fine_from t s) (drop_record l j o h)
      ∙ fine_five t s (get_or l (5 * j) 0) (get_or l (5 * j + 1) 0) (get_or l (5 * j + 1 + 1) 0) (get_or l (5 * j + 3) 0) (get_or l (5 * j + 3 + 1) 0) (drop (5 * (j + 1)) l) (eqb t 64) refl

  long_is : long_word l (5 * j + 1) ≡ four_of (get_or l (5 * j + 1) 0) (get_or l (5 * j + 1 + 1) 0) (get_or l (5 * j + 3) 0) (get_or l (5 * j + 3 + 1) 0)
  unfolding long_word word four_of
  long_is =
      let e : 5 * j + 1 + 2 ≡ 5 * j + 3 = omega arith in
      rw e (omega arith)

  pub right_next : (s : ℕ) → right_from t s (drop (5 * j) l) ≡ number_right l (5 * j) t s and right_from (runs_after t) (spans_after l (5 * j) t s) (drop (5 * (j + 1)) l)
  unfolding right_from number_right spans_after word
  right_next s =
      ap (right_from t s) (drop_record l j o h)
      ∙ right-five t s (get_or l (5 * j) 0) (get_or l (5 * j + 1) 0) (get_or l (5 * j + 1 + 1) 0) (get_or l (5 * j + 3) 0) (get_or l (5 * j + 3 + 1) 0) (drop (5 * (j + 1)) l) (eqb t 64) refl
      ∙ ap (λ v. (when eqb t 64 then eqb v s else true) and right_from (runs_after t) (when eqb t 64 then s else s + (get_or l (5 * j + 3) 0 + 256 * get_or l (5 * j + 3 + 1) 0)) (drop (5 * (j + 1)) l)) (sym long_is)

  pub runs_next : new_runs_from t (drop (5 * j) l) ≡ record_runs l (5 * j) t ++ new_runs_from (runs_after t) (drop (5 * (j + 1)) l)
  unfolding new_runs_from record_runs word
  runs_next =
      ap (new_runs_from t) (drop_record l j o h)
      ∙ runs_five t 0 (get_or l (5 * j) 0) (get_or l (5 * j + 1) 0) (get_or l (5 * j + 1 + 1) 0) (get_or l (5 * j + 3) 0) (get_or l (5 * j + 3 + 1) 0) (drop (5 * (j + 1)) l) (eqb t 64) refl

module _ (l : List ℕ) (j t : ℕ) (o : length l % 5 ≡ 1) (h : j ≤ length l / 5) (g : length l / 5 ≤ j) where
  pub fine_end : (s : ℕ) → new_fine_from t s (drop (5 * j) l) ≡ eqb (get_or l (5 * j) 0) 4 and ltb t 64
  unfolding new_fine_from
  fine_end s = ap (new_fine_from t s) (drop-last l (5 * j) (omega arith))

  pub right_end : (s : ℕ) → right_from t s (drop (5 * j) l) ≡ true
  unfolding right_from
  right_end s = ap (right_from t s) (drop-last l (5 * j) (omega arith))

  pub runs_end : new_runs_from t (drop (5 * j) l) ≡ []
  unfolding new_runs_from
  runs_end = ap (new_runs_from t) (drop-last l (5 * j) (omega arith))

-- ---------------------------------------------------------------- where the reading stands: at record j, after t runs of a stretch and s spans

pub record At (l : List ℕ) (j t s : ℕ) : Type 0 where
  pub fine : new_fine l ≡ new_fine_from t s (drop (5 * j) l)
  pub below : t ≤ 64
  pub few : s ≤ 4294967295 + 65535 * t

pub at_first : (l : List ℕ) → At l 0 0 0
unfolding new_fine
at_first l = record { fine = refl; below = omega arith; few = omega arith }

less : (t : ℕ) → t ≤ 64 → (t ≡ 64 → ⊥) → suc t ≤ 64
less t h n = omega arith

and_yes : (a : Bool) → a and true ≡ a
unfolding ◌and◌
and_yes true = refl
and_yes false = refl

few_cases : (k v t s r : ℕ) → t ≤ 64 → s ≤ 4294967295 + 65535 * t → (z : Bool) → eqb t 64 ≡ z
    → (when z then eqb k 7 and leb s 4294967295 else eqb k 6 and ltb 0 v) ≡ true → r ≡ (when z then s else s + v) → r ≤ s + 65535 → r ≤ 4294967295 + 65535 * (when z then 0 else suc t)
unfolding when◌then◌else◌
few_cases k v t s r h f true e p q w = omega (arith, leb-true s 4294967295 (both (eqb k 7) (leb s 4294967295) p).1)
few_cases k v t s r h f false e p q w = omega arith

after_below : (t : ℕ) → t ≤ 64 → runs_after t ≤ 64
unfolding runs_after
after_below t h = if-ind (λ z. z ≤ 64) (eqb t 64) (λ e. omega arith) (λ e. less t h (eqb-false t 64 e))

pub runs_below : (t u : ℕ) → t ≤ 64 → u ≡ runs_after t → u ≤ 64
runs_below t u h e = omega (arith, after_below t h)

few_after : (l : List ℕ) (i t s r : ℕ) → t ≤ 64 → s ≤ 4294967295 + 65535 * t → record_fine l i t s ≡ true → r ≡ spans_after l i t s → r ≤ s + 65535
    → r ≤ 4294967295 + 65535 * runs_after t
unfolding record_fine spans_after runs_after
few_after l i t s r h f e p q = few_cases (get_or l i 0) (word l (i + 3)) t s r h f (eqb t 64) refl e p q

module _ (l : List ℕ) (j t s : ℕ) (w : At l j t s) (o : length l % 5 ≡ 1) (h : j < length l / 5) where
  pub at_next : (b : Bool) (r u : ℕ) → b ≡ record_fine l (5 * j) t s → b ≡ true → r ≡ spans_after l (5 * j) t s → r ≤ s + 65535 → u ≡ runs_after t → At l (j + 1) u r
  unfolding ◌and◌
  at_next b r u e f p q v = record {
    fine = w.fine ∙ new_next l j t o h s ∙ ap (λ z. z and new_fine_from (runs_after t) (spans_after l (5 * j) t s) (drop (5 * (j + 1)) l)) (sym e ∙ f)
        ∙ ap (λ z. new_fine_from z (spans_after l (5 * j) t s) (drop (5 * (j + 1)) l)) (sym v) ∙ ap (λ z. new_fine_from u z (drop (5 * (j + 1)) l)) (sym p);
    below = runs_below t u w.below v;
    few = let g = few_after l (5 * j) t s r w.below w.few (sym e ∙ f) p q in omega arith;
  }

  pub at-not : (b : Bool) → b ≡ record_fine l (5 * j) t s → b ≡ false → false ≡ new_fine l
  unfolding ◌and◌
  at-not b e f = sym (w.fine ∙ new_next l j t o h s ∙ ap (λ z. z and new_fine_from (runs_after t) (spans_after l (5 * j) t s) (drop (5 * (j + 1)) l)) (sym e ∙ f))

  -- in a fine file every record is the one that is due
  pub at_fine : new_fine l ≡ true → record_fine l (5 * j) t s ≡ true
  at_fine e = (both (record_fine l (5 * j) t s) (new_fine_from (runs_after t) (spans_after l (5 * j) t s) (drop (5 * (j + 1)) l)) (sym (new_next l j t o h s) ∙ sym w.fine ∙ e)).0

-- so the reading of a fine file goes on
pub at_on : (l : List ℕ) (j t s r u : ℕ) → At l j t s → length l % 5 ≡ 1 → j < length l / 5 → new_fine l ≡ true → r ≡ spans_after l (5 * j) t s → r ≤ s + 65535 → u ≡ runs_after t
    → At l (j + 1) u r
at_on l j t s r u w o h e p q v = at_next l j t s w o h true r u (sym (at_fine l j t s w o h e)) refl p q v

module _ (l : List ℕ) (j t s : ℕ) (w : At l j t s) (o : length l % 5 ≡ 1) (h : j ≤ length l / 5) (g : length l / 5 ≤ j) where
  pub at_full : t ≡ 64 → not (eqb t 64) ≡ new_fine l
  unfolding ◌and◌
  at_full e = ap not (eq-eqb t 64 e) ∙ sym (w.fine ∙ fine_end l j t o h g s ∙ ap (λ z. eqb (get_or l (5 * j) 0) 4 and z) (le-ltb t 64 (omega arith)) ∙ and_no (eqb (get_or l (5 * j) 0) 4))

  pub at-end : (t ≡ 64 → ⊥) → eqb (get_or l (5 * j) 0) 4 ≡ new_fine l
  at-end n = sym (w.fine ∙ fine_end l j t o h g s ∙ ap (λ z. eqb (get_or l (5 * j) 0) 4 and z) (lt-ltb t 64 (omega (arith, w.below))) ∙ and_yes (eqb (get_or l (5 * j) 0) 4))

-- ---------------------------------------------------------------- right numbers

pub numbers_first : (l : List ℕ) → right_numbers l ≡ right_from 0 0 (drop (5 * 0) l)
unfolding right_numbers
numbers_first l = refl

module _ (l : List ℕ) (j t s : ℕ) (o : length l % 5 ≡ 1) (f : right_numbers l ≡ right_from t s (drop (5 * j) l)) where
  pub numbers_next : (b : Bool) (r u : ℕ) → j < length l / 5 → b ≡ number_right l (5 * j) t s → b ≡ true → r ≡ spans_after l (5 * j) t s → u ≡ runs_after t
      → right_numbers l ≡ right_from u r (drop (5 * (j + 1)) l)
  unfolding ◌and◌
  numbers_next b r u h e p q v =
      f ∙ right_next l j t o h s ∙ ap (λ z. z and right_from (runs_after t) (spans_after l (5 * j) t s) (drop (5 * (j + 1)) l)) (sym e ∙ p)
      ∙ ap (λ z. right_from z (spans_after l (5 * j) t s) (drop (5 * (j + 1)) l)) (sym v) ∙ ap (λ z. right_from u z (drop (5 * (j + 1)) l)) (sym q)

  pub numbers_not : (b : Bool) → j < length l / 5 → b ≡ number_right l (5 * j) t s → b ≡ false → false ≡ right_numbers l
  unfolding ◌and◌
  numbers_not b h e p = sym (f ∙ right_next l j t o h s ∙ ap (λ z. z and right_from (runs_after t) (spans_after l (5 * j) t s) (drop (5 * (j + 1)) l)) (sym e ∙ p))

  pub numbers_end : j ≤ length l / 5 → length l / 5 ≤ j → true ≡ right_numbers l
  numbers_end h g = sym (f ∙ right_end l j t o h g s)

-- ---------------------------------------------------------------- the longest runs

-- any run may follow one of the greatest length
any_follows : (rs : List Run) → longest rs ≡ longest_after 0 65535 rs
unfolding longest longest_after ◌and◌
any_follows [] = refl
any_follows (r ∷ rs) = rw (or_yes (not (eqb 0 r.id)))

pub longest-first : (l : List ℕ) → longest (new_runs l) ≡ longest_after 0 65535 (new_runs_from 0 (drop (5 * 0) l))
unfolding new_runs
longest-first l = any_follows (new_runs_from 0 l)

long_cases : (l : List ℕ) (i t x k : ℕ) (rs : List Run) (z : Bool) → eqb t 64 ≡ z
    → longest_after x k ((when z then [] else run (word l (i + 1)) (word l (i + 3)) ∷ []) ++ rs)
    ≡ (when z then true else may_follow x k (word l (i + 1))) and longest_after (when z then x else word l (i + 1)) (when z then k else word l (i + 3)) rs
unfolding longest_after may_follow when◌then◌else◌ ◌and◌
long_cases l i t x k rs true e = refl
long_cases l i t x k rs false e = refl

longest_next : (l : List ℕ) (j t x k : ℕ) → length l % 5 ≡ 1 → j < length l / 5
    → longest_after x k (new_runs_from t (drop (5 * j) l))
    ≡ record_follows l (5 * j) t x k and longest_after (number_after l (5 * j + 1) t x) (number_after l (5 * j + 3) t k) (new_runs_from (runs_after t) (drop (5 * (j + 1)) l))
unfolding record_runs record_follows number_after
longest_next l j t x k o h =
    ap (longest_after x k) (runs_next l j t o h) ∙ long_cases l (5 * j) t x k (new_runs_from (runs_after t) (drop (5 * (j + 1)) l)) (eqb t 64) refl

module _ (l : List ℕ) (j t x k : ℕ) (o : length l % 5 ≡ 1) (f : longest (new_runs l) ≡ longest_after x k (new_runs_from t (drop (5 * j) l))) where
  pub longest_goes : (b : Bool) (y z u : ℕ) → j < length l / 5 → b ≡ record_follows l (5 * j) t x k → b ≡ true → y ≡ number_after l (5 * j + 1) t x → z ≡ number_after l (5 * j + 3) t k
      → u ≡ runs_after t → longest (new_runs l) ≡ longest_after y z (new_runs_from u (drop (5 * (j + 1)) l))
  unfolding ◌and◌
  longest_goes b y z u h e p q r v =
      f ∙ longest_next l j t x k o h
      ∙ ap (λ c. c and longest_after (number_after l (5 * j + 1) t x) (number_after l (5 * j + 3) t k) (new_runs_from (runs_after t) (drop (5 * (j + 1)) l))) (sym e ∙ p)
      ∙ ap (λ c. longest_after c (number_after l (5 * j + 3) t k) (new_runs_from (runs_after t) (drop (5 * (j + 1)) l))) (sym q)
      ∙ ap (λ c. longest_after y c (new_runs_from (runs_after t) (drop (5 * (j + 1)) l))) (sym r)
      ∙ ap (λ c. longest_after y z (new_runs_from c (drop (5 * (j + 1)) l))) (sym v)

  pub longest-stops : (b : Bool) → j < length l / 5 → b ≡ record_follows l (5 * j) t x k → b ≡ false → false ≡ longest (new_runs l)
  unfolding ◌and◌
  longest-stops b h e p =
      sym (f ∙ longest_next l j t x k o h
      ∙ ap (λ c. c and longest_after (number_after l (5 * j + 1) t x) (number_after l (5 * j + 3) t k) (new_runs_from (runs_after t) (drop (5 * (j + 1)) l))) (sym e ∙ p))

  pub longest-end : j ≤ length l / 5 → length l / 5 ≤ j → true ≡ longest (new_runs l)
  unfolding longest_after
  longest-end h g = sym (f ∙ ap (longest_after x k) (runs_end l j t o h g))

-- ---------------------------------------------------------------- the spans of a new file

-- what is still to be written after j records
unfoldable pub spans_left : List ℕ → ℕ → ℕ → List ℕ
spans_left l j t = old_bytes (spread (new_runs_from t (drop (5 * j) l)))

records_then : (xs ys : List ℕ) → old_bytes (xs ++ ys) ≡ span_records xs ++ old_bytes ys
unfolding old_bytes span_records
records_then [] ys = refl
records_then (x ∷ xs) ys = ap (λ t. span_record x ++ t) (records_then xs ys) ∙ sym (append_assoc (span_record x) (span_records xs) (old_bytes ys))

pub spans-first : (l : List ℕ) → unpacked l ≡ spans_left l 0 0
unfolding unpacked new_runs spans_left
spans-first l = refl

span_cases : (l : List ℕ) (i t : ℕ) (rs : List Run) (z : Bool)
    → old_bytes (spread ((when z then [] else run (word l (i + 1)) (word l (i + 3)) ∷ []) ++ rs)) ≡ (when z then [] else run_spans l i) ++ old_bytes (spread rs)
unfolding spread run_spans when◌then◌else◌
span_cases l i t rs true = refl
span_cases l i t rs false = records_then (replicate (word l (i + 3)) (word l (i + 1))) (spread rs)

pub spans_next : (l : List ℕ) (j t : ℕ) → length l % 5 ≡ 1 → j < length l / 5 → spans_left l j t ≡ record_spans l (5 * j) t ++ spans_left l (j + 1) (runs_after t)
unfolding spans_left record_runs record_spans
spans_next l j t o h = ap (λ rs. old_bytes (spread rs)) (runs_next l j t o h) ∙ span_cases l (5 * j) t (new_runs_from (runs_after t) (drop (5 * (j + 1)) l)) (eqb t 64)

pub spans-end : (l : List ℕ) (j t : ℕ) → length l % 5 ≡ 1 → j ≤ length l / 5 → length l / 5 ≤ j → spans_left l j t ≡ 4 ∷ []
unfolding spans_left spread old_bytes
spans-end l j t o h g = ap (λ rs. old_bytes (spread rs)) (runs_end l j t o h g)

pub records-length : (x k : ℕ) → length (span_records (replicate k x)) ≡ 3 * k
unfolding span_records span_record two
records-length x zero = refl
records-length x (suc k) = omega (arith, records-length x k)

bytes_cases : (l : List ℕ) (i : ℕ) (z : Bool) → length (when z then [] else run_spans l i) ≡ (when z then 0 else 3 * word l (i + 3))
unfolding run_spans when◌then◌else◌
bytes_cases l i true = refl
bytes_cases l i false = records-length (word l (i + 1)) (word l (i + 3))

pub spans_long : (l : List ℕ) (i t : ℕ) → length (record_spans l i t) ≡ spans_bytes l i t
unfolding record_spans spans_bytes
spans_long l i t = bytes_cases l i (eqb t 64)
