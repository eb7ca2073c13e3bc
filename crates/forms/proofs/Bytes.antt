-- Bytes and what they stand for: each form is read back as it was written, and written again as it was read.
-- By induction over the records; a number of two bytes is its low byte and 256 times its high one. Assumes nothing.
use Prim.Native.Nat.{ℕ, suc, ◌+◌, ◌*◌, ◌/◌, ◌%◌, ◌≤◌, ◌<◌}
use native.Mathlib.Omega.{arith}
use native.Mathlib.Decide.{ℕ_discrete}
use mathlib.Core.Path.{◌≡◌, refl, sym, ap, subst, ◌∙◌}
use mathlib.Core.Bool.{Bool, true, false≢true}
use mathlib.Core.List.{List, [], ◌∷◌, ◌++◌}
use lib.ListN.{length}
use lib.Dec.{eqb, ltb, leb}
use borrow.Author.Tests.{eqb-true, eq-eqb, ne_eqb, ltb-true, lt-ltb, leb-true, le-leb}
use Rattle.rules.specs.Base.{◌and◌, when◌then◌else◌}
use Rattle.rules.specs.Stored.{Run, two, four, four_of, span_record, old_bytes, old_fine, old_ids, run_record, mark_record, new_from, marks_fit, new_fine_from, new_fine, new_runs_from, right_from}
use Rattle.laws.proofs.Basics.{both, and_both, if-ind, All}
use Rattle.forms.proofs.Runs.{run, AllSized, sized-none, sized_cons, sized-first, sized_rest}

-- a file's bytes
abbrev pub Byte : ℕ → Type 0
Byte b = b < 256

abbrev pub Short : ℕ → Type 0
Short v = v < 65536

-- ---------------------------------------------------------------- numbers of two bytes

pub two_read : (v : ℕ) → v % 256 + 256 * (v / 256) ≡ v
two_read v = omega arith

pub low_two : (a b : ℕ) → a < 256 → (a + 256 * b) % 256 ≡ a
low_two a b h = omega arith

pub high_two : (a b : ℕ) → a < 256 → (a + 256 * b) / 256 ≡ b
high_two a b h = omega arith

pub two-small : (a b : ℕ) → a < 256 → b < 256 → a + 256 * b < 65536
two-small a b h g = omega arith

-- ---------------------------------------------------------------- the old form

pub old_written : (ids : List ℕ) → old_fine (old_bytes ids) ≡ true
unfolding old_bytes old_fine span_record two ◌and◌
old_written [] = refl
old_written (x ∷ xs) = old_written xs

pub old_read : (ids : List ℕ) → old_ids (old_bytes ids) ≡ ids
unfolding old_bytes old_ids span_record two
old_read [] = refl
old_read (x ∷ xs) = rw (two_read x, old_read xs)

pub old_again : (file : List ℕ) → All Byte file → old_fine file ≡ true → old_bytes (old_ids file) ≡ file
unfolding old_bytes old_fine old_ids span_record two
old_again [] a e = absurd (false≢true e)
old_again (k ∷ []) a e = rw (eqb-true k 4 e)
old_again (k ∷ x ∷ []) a e = absurd (false≢true e)
old_again (k ∷ x ∷ y ∷ rest) a e =
    let p = both (eqb k 5) (old_fine rest) e in
    rw (low_two x y a.1.0, high_two x y a.1.0, old_again rest a.1.1.1 p.1, eqb-true k 5 p.0)

pub old_short : (file : List ℕ) → All Byte file → All Short (old_ids file)
unfolding old_ids
old_short [] a = tt
old_short (k ∷ []) a = tt
old_short (k ∷ x ∷ []) a = tt
old_short (k ∷ x ∷ y ∷ rest) a = (two-small x y a.1.0 a.1.1.0, old_short rest a.1.1.1)

-- ---------------------------------------------------------------- the new form

-- what is read of a file after t runs of a stretch and s spans
pub record Reads (t s : ℕ) (rs : List Run) (file : List ℕ) : Type 0 where
  pub fine : new_fine_from t s file ≡ true
  pub runs : new_runs_from t file ≡ rs
  pub right : right_from t s file ≡ true

-- the rest of a form after a run: where 64 runs are full a kind 7 record comes first
unfoldable pub from : ℕ → ℕ → List Run → List ℕ
from t s rs = when eqb t 64 then mark_record s ++ new_from 0 s rs else new_from t s rs

unfoldable pub fit_from : ℕ → ℕ → List Run → Bool
fit_from t s rs = when eqb t 64 then leb s 4294967295 and marks_fit 0 s rs else marks_fit t s rs

pub from_below : (t s : ℕ) (rs : List Run) → t < 64 → from t s rs ≡ new_from t s rs
unfolding from when◌then◌else◌
from_below t s rs h = rw (ne_eqb t 64 (λ e. omega arith))

pub fit_below : (t s : ℕ) (rs : List Run) → t < 64 → fit_from t s rs ≡ marks_fit t s rs
unfolding fit_from when◌then◌else◌
fit_below t s rs h = rw (ne_eqb t 64 (λ e. omega arith))

-- ---------------------------------------------------------------- written, then read

read_end : (t s : ℕ) → t < 64 → Reads t s [] (4 ∷ [])
unfolding new_fine_from new_runs_from right_from ◌and◌
read_end t s h = record { fine = lt-ltb t 64 h; runs = refl; right = refl }

read_run : (t s x k : ℕ) (rs : List Run) (file : List ℕ) → t < 64 → 0 < k → Reads (suc t) (s + k) rs file → Reads t s (run x k ∷ rs) (run_record x k ++ file)
unfolding new_fine_from new_runs_from right_from run_record two ◌and◌ when◌then◌else◌
read_run t s x k rs file h g r = record {
  fine = rw (ne_eqb t 64 (λ e. omega arith), two_read k, lt-ltb 0 k g) r.fine;
  runs = rw (ne_eqb t 64 (λ e. omega arith), two_read k, two_read x) (ap (λ l. run x k ∷ l) r.runs);
  right = rw (ne_eqb t 64 (λ e. omega arith), two_read k) r.right;
}

four_read : (v : ℕ) → v ≤ 4294967295 → v % 256 + 256 * (v / 256 % 256) + 65536 * (v / 65536 % 256) + 16777216 * (v / 16777216 % 256) ≡ v
four_read v h = let e : v / 16777216 % 256 ≡ v / 16777216 = omega arith in omega arith

read_mark : (s : ℕ) (rs : List Run) (file : List ℕ) → s ≤ 4294967295 → Reads 0 s rs file → Reads 64 s rs (mark_record s ++ file)
unfolding new_fine_from new_runs_from right_from mark_record four four_of ◌and◌ when◌then◌else◌
read_mark s rs file h r = record {
  fine = rw (le-leb s 4294967295 h) r.fine;
  runs = r.runs;
  right = rw (eq-eqb _ s (four_read s h)) r.right;
}

read_full : (s : ℕ) (rs : List Run) → (marks_fit 0 s rs ≡ true → Reads 0 s rs (new_from 0 s rs)) → fit_from 64 s rs ≡ true → Reads 64 s rs (from 64 s rs)
unfolding fit_from from when◌then◌else◌
read_full s rs ih f =
    let p = both (leb s 4294967295) (marks_fit 0 s rs) f in
    read_mark s rs (new_from 0 s rs) (leb-true s 4294967295 p.0) (ih p.1)

fit_rest : (t s : ℕ) (r : Run) (rs : List Run) → marks_fit t s (r ∷ rs) ≡ true → fit_from (suc t) (s + r.long) rs ≡ true
unfolding marks_fit fit_from
fit_rest t s r rs f = f

read_rest : (t s : ℕ) (rs : List Run) → ((t : ℕ) (s : ℕ) → t < 64 → marks_fit t s rs ≡ true → Reads t s rs (new_from t s rs)) → t ≤ 64 → fit_from t s rs ≡ true
    → Reads t s rs (from t s rs)
read_rest t s rs ih h =
    elim (ℕ_discrete t 64) [
      | yes e ↦ subst (λ z. fit_from z s rs ≡ true → Reads z s rs (from z s rs)) (sym e) (read_full s rs (ih 0 s (omega arith)))
      | no n ↦ let b : t < 64 = omega arith in λ f. subst (Reads t s rs) (sym (from_below t s rs b)) (ih t s b (sym (fit_below t s rs b) ∙ f))
    ]

pub new_reads : (rs : List Run) (t s : ℕ) → AllSized rs → t < 64 → marks_fit t s rs ≡ true → Reads t s rs (new_from t s rs)
unfolding new_from from
new_reads [] t s a h f = read_end t s h
new_reads (r ∷ rs) t s a h f =
    read_run t s r.id r.long rs (from (suc t) (s + r.long) rs) h (sized-first r rs a).some
    (read_rest (suc t) (s + r.long) rs (λ t s. new_reads rs t s (sized_rest r rs a)) (omega arith) (fit_rest t s r rs f))

-- ---------------------------------------------------------------- read, then written

low_only : (d : ℕ) → d < 256 → d % 256 ≡ d
low_only d h = omega arith

bytes_four : (a b c d s : ℕ) → a < 256 → b < 256 → c < 256 → d < 256 → four_of a b c d ≡ s → four s ≡ a ∷ b ∷ c ∷ d ∷ []
unfolding four four_of
bytes_four a b c d s ha hb hc hd e =
    let p : s % 256 ≡ a = omega arith in
    let q' : s / 256 ≡ b + 256 * (c + 256 * d) = omega arith in
    let q : s / 256 % 256 ≡ b = ap (λ z. z % 256) q' ∙ low_two b (c + 256 * d) hb in
    let r' : s / 65536 ≡ c + 256 * d = omega arith in
    let r : s / 65536 % 256 ≡ c = ap (λ z. z % 256) r' ∙ low_two c d hc in
    let u' : s / 16777216 ≡ d = omega arith in
    let u : s / 16777216 % 256 ≡ d = ap (λ z. z % 256) u' ∙ low_only d hd in
    rw (p, q, r, u)

-- a fine file with right numbers: the runs in it are sized, their numbers fit, and written again they are the file
pub record Again (t s : ℕ) (file : List ℕ) : Type 0 where
  pub sized : AllSized (new_runs_from t file)
  pub fits : fit_from t s (new_runs_from t file) ≡ true
  pub same : right_from t s file ≡ true → from t s (new_runs_from t file) ≡ file

again-end : (t s k : ℕ) → new_fine_from t s (k ∷ []) ≡ true → Again t s (k ∷ [])
unfolding new_fine_from new_runs_from new_from marks_fit
again-end t s k e =
    let p = both (eqb k 4) (ltb t 64) e in
    let h = ltb-true t 64 p.1 in
    record {
      sized = sized-none;
      fits = fit_below t s [] h;
      same = λ r. from_below t s [] h ∙ ap (λ z. z ∷ []) (sym (eqb-true k 4 p.0));
    }

again_mark : (s k a b c d : ℕ) (rest : List ℕ) → a < 256 → b < 256 → c < 256 → d < 256 → new_fine_from 64 s (k ∷ a ∷ b ∷ c ∷ d ∷ rest) ≡ true
    → (new_fine_from 0 s rest ≡ true → Again 0 s rest) → Again 64 s (k ∷ a ∷ b ∷ c ∷ d ∷ rest)
unfolding new_fine_from new_runs_from right_from from fit_from mark_record when◌then◌else◌
again_mark s k a b c d rest ha hb hc hd e ih =
    let p = both (eqb k 7 and leb s 4294967295) (new_fine_from 0 s rest) e in
    let q = both (eqb k 7) (leb s 4294967295) p.0 in
    let i = ih p.1 in
    record {
      sized = i.sized;
      fits = and_both (leb s 4294967295) (marks_fit 0 s (new_runs_from 0 rest)) q.1 (sym (fit_below 0 s (new_runs_from 0 rest) (omega arith)) ∙ i.fits);
      same = λ r. let u = both (eqb (four_of a b c d) s) (right_from 0 s rest) r in
          ap (λ l. 7 ∷ (l ++ new_from 0 s (new_runs_from 0 rest))) (bytes_four a b c d s ha hb hc hd (eqb-true (four_of a b c d) s u.0))
          ∙ ap (λ z. z ∷ a ∷ b ∷ c ∷ d ∷ new_from 0 s (new_runs_from 0 rest)) (sym (eqb-true k 7 q.0))
          ∙ ap (λ l. k ∷ a ∷ b ∷ c ∷ d ∷ l) (sym (from_below 0 s (new_runs_from 0 rest) (omega arith)) ∙ i.same u.1);
    }

bytes_run : (a b c d : ℕ) → a < 256 → c < 256 → run_record (a + 256 * b) (c + 256 * d) ≡ 6 ∷ a ∷ b ∷ c ∷ d ∷ []
unfolding run_record two
bytes_run a b c d ha hc = rw (low_two a b ha, high_two a b ha, low_two c d hc, high_two c d hc)

again-run : (t s k a b c d : ℕ) (rest : List ℕ) → (t ≡ 64 → ⊥) → t ≤ 64 → a < 256 → b < 256 → c < 256 → d < 256 → new_fine_from t s (k ∷ a ∷ b ∷ c ∷ d ∷ rest) ≡ true
    → (new_fine_from (suc t) (s + (c + 256 * d)) rest ≡ true → Again (suc t) (s + (c + 256 * d)) rest) → Again t s (k ∷ a ∷ b ∷ c ∷ d ∷ rest)
unfolding new_fine_from new_runs_from right_from new_from marks_fit from fit_from when◌then◌else◌
again-run t s k a b c d rest n le ha hb hc hd e ih =
    let z = ne_eqb t 64 n in
    let e' : (eqb k 6 and ltb 0 (c + 256 * d)) and new_fine_from (suc t) (s + (c + 256 * d)) rest ≡ true = rw z at e in
    let p = both (eqb k 6 and ltb 0 (c + 256 * d)) (new_fine_from (suc t) (s + (c + 256 * d)) rest) e' in
    let q = both (eqb k 6) (ltb 0 (c + 256 * d)) p.0 in
    let i = ih p.1 in
    let m = two-small c d hc hd in
    record {
      sized = rw z (sized_cons (run (a + 256 * b) (c + 256 * d)) (new_runs_from (suc t) rest)
          (record { some = ltb-true 0 (c + 256 * d) q.1; most = omega arith; small = two-small a b ha hb }) i.sized);
      fits = rw z i.fits;
      same = rw z (λ r. ap (λ l. l ++ from (suc t) (s + (c + 256 * d)) (new_runs_from (suc t) rest)) (bytes_run a b c d ha hc)
          ∙ ap (λ v. v ∷ a ∷ b ∷ c ∷ d ∷ from (suc t) (s + (c + 256 * d)) (new_runs_from (suc t) rest)) (sym (eqb-true k 6 q.0))
          ∙ ap (λ l. k ∷ a ∷ b ∷ c ∷ d ∷ l) (i.same r));
    }

no_end : (t s : ℕ) → new_fine_from t s [] ≡ true → ⊥
unfolding new_fine_from
no_end t s e = false≢true e

short_1 : (t s k x : ℕ) → new_fine_from t s (k ∷ x ∷ []) ≡ true → ⊥
unfolding new_fine_from
short_1 t s k x e = false≢true e

short_2 : (t s k x y : ℕ) → new_fine_from t s (k ∷ x ∷ y ∷ []) ≡ true → ⊥
unfolding new_fine_from
short_2 t s k x y e = false≢true e

short_3 : (t s k x y z : ℕ) → new_fine_from t s (k ∷ x ∷ y ∷ z ∷ []) ≡ true → ⊥
unfolding new_fine_from
short_3 t s k x y z e = false≢true e

pub new_again : (file : List ℕ) (t s : ℕ) → All Byte file → t ≤ 64 → new_fine_from t s file ≡ true → Again t s file
new_again [] t s a h e = absurd (no_end t s e)
new_again (k ∷ []) t s a h e = again-end t s k e
new_again (k ∷ x ∷ []) t s a h e = absurd (short_1 t s k x e)
new_again (k ∷ x ∷ y ∷ []) t s a h e = absurd (short_2 t s k x y e)
new_again (k ∷ x ∷ y ∷ z ∷ []) t s a h e = absurd (short_3 t s k x y z e)
new_again (k ∷ x ∷ y ∷ z ∷ w ∷ rest) t s a h f =
    elim (ℕ_discrete t 64) [
      | yes e ↦ subst (λ v. new_fine_from v s (k ∷ x ∷ y ∷ z ∷ w ∷ rest) ≡ true → Again v s (k ∷ x ∷ y ∷ z ∷ w ∷ rest)) (sym e)
          (λ g. again_mark s k x y z w rest a.1.0 a.1.1.0 a.1.1.1.0 a.1.1.1.1.0 g (new_again rest 0 s a.1.1.1.1.1 (omega arith))) f
      | no n ↦ again-run t s k x y z w rest n h a.1.0 a.1.1.0 a.1.1.1.0 a.1.1.1.1.0 f
          (new_again rest (suc t) (s + (z + 256 * w)) a.1.1.1.1.1 (omega arith))
    ]

-- ---------------------------------------------------------------- how long a file is

-- five bytes a record, and the end record
fine_length : (l : List ℕ) (t s : ℕ) → new_fine_from t s l ≡ true → length l % 5 ≡ 1
unfolding new_fine_from
fine_length [] t s e = absurd (false≢true e)
fine_length (k ∷ []) t s e = refl
fine_length (k ∷ a ∷ []) t s e = absurd (false≢true e)
fine_length (k ∷ a ∷ b ∷ []) t s e = absurd (false≢true e)
fine_length (k ∷ a ∷ b ∷ c ∷ []) t s e = absurd (false≢true e)
fine_length (k ∷ a ∷ b ∷ c ∷ d ∷ rest) t s e =
    let r : length rest % 5 ≡ 1 =
    if-ind (λ z. z ≡ true → length rest % 5 ≡ 1) (eqb t 64)
    (λ p f. fine_length rest 0 s (both (eqb k 7 and leb s 4294967295) (new_fine_from 0 s rest) f).1)
    (λ p f. fine_length rest (suc t) (s + (c + 256 * d)) (both (eqb k 6 and ltb 0 (c + 256 * d)) (new_fine_from (suc t) (s + (c + 256 * d)) rest) f).1) e in
    omega arith

pub new_length : (l : List ℕ) → new_fine l ≡ true → length l % 5 ≡ 1
unfolding new_fine
new_length l e = fine_length l 0 0 e
