-- The full reader by records: the run that holds the span is looked for from record j on.
-- Where 64 runs of a stretch are before a record, the next run is one of the next stretch. Assumes nothing.
use Prim.Native.Nat.{ℕ, suc, ◌+◌, ◌*◌, ◌/◌, ◌%◌, ◌≤◌, ◌<◌}
use native.Mathlib.Omega.{arith}
use native.Mathlib.Decide.{ℕ_discrete}
use mathlib.Core.Path.{◌≡◌, refl, sym, ap, ◌∙◌}
use mathlib.Core.Bool.{Bool, true, false, true≢false}
use mathlib.Core.List.{List, [], ◌∷◌, ◌++◌}
use lib.ListN.{length, get_or, drop}
use lib.Dec.{eqb, ltb, leb}
use borrow.Author.Tests.{eq-eqb, ne_eqb, ltb-true, leb-true}
use Rattle.rules.specs.Base.{◌and◌, when◌then◌else◌}
use Rattle.rules.specs.File.{word}
use Rattle.rules.specs.Stored.{Run, new_fine, new_runs_from, new_runs, seek}
use Rattle.laws.proofs.Basics.{both}
use Rattle.forms.proofs.Runs.{run}
use Rattle.forms.proofs.Told.{found}
use Rattle.forms.proofs.Same.{seek_from}
use Rattle.stored.specs.Records.{record_fine, runs_after, spans_after}
use Rattle.stored.specs.Ids.{holds, stretch_after}
use Rattle.stored.proofs.NewPlaces.{record_runs, runs_next, runs_end, At, at_fine, fine_end}

seek_cases : (p t s x k : ℕ) (rs : List Run) (span : ℕ) (z : Bool) → ltb span (s + k) ≡ z → (eqb t 64 ≡ false)
    → seek_from p t s (run x k ∷ rs) span ≡ (when z then found 0 x p else seek_from p (suc t) (s + k) rs span)
unfolding seek_from seek when◌then◌else◌
seek_cases p t s x k rs span true e n = rw (n, e)
seek_cases p t s x k rs span false e n = rw (n, e)

module _ (l : List ℕ) (j t p s span : ℕ) (o : length l % 5 ≡ 1) (h : j < length l / 5) where
  step_run : eqb t 64 ≡ false → seek_from p t s (new_runs_from t (drop (5 * j) l)) span
      ≡ (when ltb span (s + word l (5 * j + 3)) then found 0 (word l (5 * j + 1)) p else seek_from p (suc t) (s + word l (5 * j + 3)) (new_runs_from (suc t) (drop (5 * (j + 1)) l)) span)
  unfolding record_runs runs_after when◌then◌else◌
  step_run n =
      ap (λ rs. seek_from p t s rs span) (runs_next l j t o h)
      ∙ ap (λ z. seek_from p t s ((when z then [] else run (word l (5 * j + 1)) (word l (5 * j + 3)) ∷ []) ++ new_runs_from (when z then 0 else suc t) (drop (5 * (j + 1)) l)) span) n
      ∙ seek_cases p t s (word l (5 * j + 1)) (word l (5 * j + 3)) (new_runs_from (suc t) (drop (5 * (j + 1)) l)) span (ltb span (s + word l (5 * j + 3))) refl n

  step_mark : t ≡ 64 → seek_from p t s (new_runs_from t (drop (5 * j) l)) span ≡ seek_from (suc p) 0 s (new_runs_from 0 (drop (5 * (j + 1)) l)) span
  unfolding record_runs runs_after seek_from when◌then◌else◌
  step_mark e =
      ap (λ rs. seek_from p t s rs span) (runs_next l j t o h)
      ∙ ap (λ z. when z then seek (suc p) 0 s ((when z then [] else run (word l (5 * j + 1)) (word l (5 * j + 3)) ∷ []) ++ new_runs_from (when z then 0 else suc t) (drop (5 * (j + 1)) l)) span
      else seek p t s ((when z then [] else run (word l (5 * j + 1)) (word l (5 * j + 3)) ∷ []) ++ new_runs_from (when z then 0 else suc t) (drop (5 * (j + 1)) l)) span) (eq-eqb t 64 e)

holds-run : (l : List ℕ) (i t s span : ℕ) → (t ≡ 64 → ⊥) → holds l i t s span ≡ ltb span (s + word l (i + 3))
unfolding holds when◌then◌else◌
holds-run l i t s span n = rw (ne_eqb t 64 n)

holds_mark : (l : List ℕ) (i t s span : ℕ) → t ≡ 64 → holds l i t s span ≡ false
unfolding holds when◌then◌else◌
holds_mark l i t s span e = rw (eq-eqb t 64 e)

after_mark : (l : List ℕ) (i t p s : ℕ) → t ≡ 64 → (spans_after l i t s ≡ s) × (runs_after t ≡ 0) × (stretch_after t p ≡ suc p)
unfolding spans_after runs_after stretch_after when◌then◌else◌
after_mark l i t p s e = rw (eq-eqb t 64 e) (refl, refl, refl)

after_run : (l : List ℕ) (i t p s : ℕ) → (t ≡ 64 → ⊥) → (spans_after l i t s ≡ s + word l (i + 3)) × (runs_after t ≡ suc t) × (stretch_after t p ≡ p)
unfolding spans_after runs_after stretch_after when◌then◌else◌
after_run l i t p s n = rw (ne_eqb t 64 n) (refl, refl, refl)

-- where the search stands
pub record Seeks (l : List ℕ) (span j t p s : ℕ) : Type 0 where
  pub same : seek 0 0 0 (new_runs l) span ≡ seek_from p t s (new_runs_from t (drop (5 * j) l)) span
  pub counts : p + t ≤ s
  pub few : p ≤ 4294967295

pub seeks_first : (l : List ℕ) (span : ℕ) → Seeks l span 0 0 0 0
unfolding new_runs seek_from when◌then◌else◌
seeks_first l span = record { same = refl; counts = omega arith; few = omega arith }

mark_few : (l : List ℕ) (i t s : ℕ) → t ≡ 64 → record_fine l i t s ≡ true → s ≤ 4294967295
unfolding record_fine when◌then◌else◌
mark_few l i t s e f = leb-true s 4294967295 (both (eqb (get_or l i 0) 7) (leb s 4294967295) (rw (eq-eqb t 64 e) at f)).1

run_some : (l : List ℕ) (i t s : ℕ) → (t ≡ 64 → ⊥) → record_fine l i t s ≡ true → 0 < word l (i + 3)
unfolding record_fine when◌then◌else◌
run_some l i t s n f = ltb-true 0 (word l (i + 3)) (both (eqb (get_or l i 0) 6) (ltb 0 (word l (i + 3))) (rw (ne_eqb t 64 n) at f)).1

module _ (l : List ℕ) (span j t p s : ℕ) (w : Seeks l span j t p s) (a : At l j t s) (o : length l % 5 ≡ 1) (f : new_fine l ≡ true) where
  pub stretch_fits : j < length l / 5 → t ≡ 64 → p < 4294967295
  stretch_fits h e = omega (arith, mark_few l (5 * j) t s e (at_fine l j t s a o h f), w.counts)

  pub seeks_found : (b : Bool) (x : ℕ) → j < length l / 5 → b ≡ holds l (5 * j) t s span → b ≡ true → x ≡ word l (5 * j + 1) → found 0 x p ≡ seek 0 0 0 (new_runs l) span
  unfolding when◌then◌else◌
  seeks_found b x h e y q =
      elim (ℕ_discrete t 64) [
        | yes z ↦ absurd (true≢false (sym y ∙ e ∙ holds_mark l (5 * j) t s span z))
        | no n ↦ sym (w.same ∙ step_run l j t p s span o h (ne_eqb t 64 n)
            ∙ ap (λ c. when c then found 0 (word l (5 * j + 1)) p else seek_from p (suc t) (s + word l (5 * j + 3)) (new_runs_from (suc t) (drop (5 * (j + 1)) l)) span) (sym (holds-run l (5 * j) t s span n) ∙ sym e ∙ y)
            ∙ ap (λ c. found 0 c p) (sym q))
      ]

  next_run_lem : (b : Bool) (r u q : ℕ) → j < length l / 5 → (t ≡ 64 → ⊥) → b ≡ holds l (5 * j) t s span → b ≡ false → r ≡ spans_after l (5 * j) t s → u ≡ runs_after t → q ≡ stretch_after t p
      → Seeks l span (j + 1) u q r
  unfolding when◌then◌else◌
  next_run_lem b r u q h n e y v1 v2 v3 =
      let k = after_run l (5 * j) t p s n in
      let r' : r ≡ s + word l (5 * j + 3) = v1 ∙ k.0 in
      let u' : u ≡ suc t = v2 ∙ k.1 in
      let q' : q ≡ p = v3 ∙ k.2 in
      record {
        same = w.same ∙ step_run l j t p s span o h (ne_eqb t 64 n)
            ∙ ap (λ c. when c then found 0 (word l (5 * j + 1)) p else seek_from p (suc t) (s + word l (5 * j + 3)) (new_runs_from (suc t) (drop (5 * (j + 1)) l)) span) (sym (holds-run l (5 * j) t s span n) ∙ sym e ∙ y)
            ∙ ap (λ c. seek_from c (suc t) (s + word l (5 * j + 3)) (new_runs_from (suc t) (drop (5 * (j + 1)) l)) span) (sym q')
            ∙ ap (λ c. seek_from q c (s + word l (5 * j + 3)) (new_runs_from c (drop (5 * (j + 1)) l)) span) (sym u')
            ∙ ap (λ c. seek_from q u c (new_runs_from u (drop (5 * (j + 1)) l)) span) (sym r');
        counts = omega (arith, w.counts, run_some l (5 * j) t s n (at_fine l j t s a o h f));
        few = omega (arith, w.few);
      }

  next_mark : (r u q : ℕ) → j < length l / 5 → t ≡ 64 → r ≡ spans_after l (5 * j) t s → u ≡ runs_after t → q ≡ stretch_after t p → Seeks l span (j + 1) u q r
  next_mark r u q h e v1 v2 v3 =
      let k = after_mark l (5 * j) t p s e in
      let r' : r ≡ s = v1 ∙ k.0 in
      let u' : u ≡ 0 = v2 ∙ k.1 in
      let q' : q ≡ suc p = v3 ∙ k.2 in
      record {
        same = w.same ∙ step_mark l j t p s span o h e
            ∙ ap (λ c. seek_from c 0 s (new_runs_from 0 (drop (5 * (j + 1)) l)) span) (sym q')
            ∙ ap (λ c. seek_from q c s (new_runs_from c (drop (5 * (j + 1)) l)) span) (sym u')
            ∙ ap (λ c. seek_from q u c (new_runs_from u (drop (5 * (j + 1)) l)) span) (sym r');
        counts = omega (arith, w.counts);
        few = omega (arith, w.counts, mark_few l (5 * j) t s e (at_fine l j t s a o h f));
      }

  pub seeks_next : (b : Bool) (r u q : ℕ) → j < length l / 5 → b ≡ holds l (5 * j) t s span → b ≡ false → q ≡ stretch_after t p → r ≡ spans_after l (5 * j) t s → u ≡ runs_after t
      → Seeks l span (j + 1) u q r
  seeks_next b r u q h e y v3 v1 v2 =
      elim (ℕ_discrete t 64) [
        | yes z ↦ next_mark r u q h z v1 v2 v3
        | no n ↦ next_run_lem b r u q h n e y v1 v2 v3
      ]

  pub seeks_end : j ≤ length l / 5 → length l / 5 ≤ j → found 26 0 p ≡ seek 0 0 0 (new_runs l) span
  unfolding seek_from seek when◌then◌else◌
  seeks_end h g =
      let e : eqb (get_or l (5 * j) 0) 4 and ltb t 64 ≡ true = sym (fine_end l j t o h g s) ∙ sym a.fine ∙ f in
      let b : t < 64 = ltb-true t 64 (both (eqb (get_or l (5 * j) 0) 4) (ltb t 64) e).1 in
      sym (w.same ∙ ap (λ rs. seek_from p t s rs span) (runs_end l j t o h g) ∙ ap (λ c. when c then found 26 0 (suc p) else found 26 0 p) (ne_eqb t 64 (λ z. omega arith)))
