-- "On every file that the full reader accepts, the answer equals the full reader's": id_at's rule and the full reader's give the same.
-- In such a file the number after a stretch is that of the spans before the next; the halving leaves the stretch that holds the span. Assumes nothing.
use Prim.Native.Nat.{ℕ, zero, suc, ◌+◌, ◌*◌, ◌/◌, ◌%◌, ◌≤◌, ◌<◌}
use native.Mathlib.Omega.{arith}
use native.Mathlib.Decide.{dec_lt}
use mathlib.Core.Path.{◌≡◌, refl, sym, ap, subst, ◌∙◌}
use mathlib.Core.Bool.{Bool, true, false, false≢true}
use mathlib.Core.List.{List, [], ◌∷◌}
use lib.ListN.{length, get_or, drop, length-drop}
use lib.Seq.{drop-drop, get_or-drop}
use lib.Dec.{eqb, ltb, leb}
use borrow.Author.Tests.{eqb-true, eq-eqb, ne_eqb, ltb-true, ltb-false, le-ltb, leb-true, leb-false}
use Rattle.rules.specs.Base.{◌and◌, when◌then◌else◌}
use Rattle.rules.specs.Stored.{Run, IdOutcome, four_of, new_fine_from, new_fine, new_runs_from, new_runs, right_from, right_numbers, read_refusal, seek, marks_in, mark_at, halving, chosen, spans_before, within, id_at, id_whole}
use Rattle.laws.proofs.Basics.{both, if-ind}
use Rattle.forms.proofs.Bytes.{new_length}
use Rattle.forms.proofs.Back.{read_fine}
use Rattle.forms.proofs.Told.{found}

-- the full reader from a record on: where 64 runs of a stretch are before it, the next run is one of the next stretch
unfoldable pub seek_from : ℕ → ℕ → ℕ → List Run → ℕ → IdOutcome
seek_from p t s rs span = when eqb t 64 then seek (suc p) 0 s rs span else seek p t s rs span

-- a stretch that is full, c of its runs being left: the number after it, and what comes next
pub record Walked (c t s : ℕ) (l : List ℕ) (s' : ℕ) : Type 0 where
  pub fine : new_fine_from 0 s' (drop (5 * c + 5) l) ≡ true
  pub right : right_from 0 s' (drop (5 * c + 5) l) ≡ true
  pub number : four_of (get_or l (5 * c + 1) 0) (get_or l (5 * c + 2) 0) (get_or l (5 * c + 3) 0) (get_or l (5 * c + 4) 0) ≡ s'
  pub more : s + c ≤ s'
  pub few : s' ≤ 4294967295
  pub past : (p span : ℕ) → s' ≤ span → seek_from p t s (new_runs_from t l) span ≡ seek (suc p) 0 s' (new_runs_from 0 (drop (5 * c + 5) l)) span
  pub here : (p span : ℕ) → s ≤ span → span < s' → within p c l s span ≡ seek_from p t s (new_runs_from t l) span

pub record Full (c t s : ℕ) (l : List ℕ) : Type 0 where
  pub spans : ℕ
  pub walked : Walked c t s l spans

-- the number itself
walk_mark : (s k a b x d : ℕ) (rest : List ℕ) → new_fine_from 64 s (k ∷ a ∷ b ∷ x ∷ d ∷ rest) ≡ true → right_from 64 s (k ∷ a ∷ b ∷ x ∷ d ∷ rest) ≡ true
    → Walked 0 64 s (k ∷ a ∷ b ∷ x ∷ d ∷ rest) s
unfolding new_fine_from right_from new_runs_from seek_from when◌then◌else◌
walk_mark s k a b x d rest e f =
    let p = both (eqb k 7 and leb s 4294967295) (new_fine_from 0 s rest) e in
    let q = both (eqb (four_of a b x d) s) (right_from 0 s rest) f in
    record {
      fine = p.1;
      right = q.1;
      number = eqb-true (four_of a b x d) s q.0;
      more = omega arith;
      few = leb-true s 4294967295 (both (eqb k 7) (leb s 4294967295) p.0).1;
      past = λ p span h. refl;
      here = λ p span h g. absurd (omega arith);
    }

-- one run, and the rest of the stretch
module _ (c t s k a b x d : ℕ) (rest : List ℕ) (n : t < 64) (e : new_fine_from t s (k ∷ a ∷ b ∷ x ∷ d ∷ rest) ≡ true) where
  split_run : (eqb k 6 and ltb 0 (x + 256 * d)) and new_fine_from (suc t) (s + (x + 256 * d)) rest ≡ true
  unfolding new_fine_from when◌then◌else◌
  split_run = rw (ne_eqb t 64 (λ z. omega arith)) at e

  run_fine : (eqb k 6 and ltb 0 (x + 256 * d)) ≡ true
  run_fine = (both (eqb k 6 and ltb 0 (x + 256 * d)) (new_fine_from (suc t) (s + (x + 256 * d)) rest) split_run).0

  rest_fine : new_fine_from (suc t) (s + (x + 256 * d)) rest ≡ true
  rest_fine = (both (eqb k 6 and ltb 0 (x + 256 * d)) (new_fine_from (suc t) (s + (x + 256 * d)) rest) split_run).1

  some : 0 < x + 256 * d
  some = ltb-true 0 (x + 256 * d) (both (eqb k 6) (ltb 0 (x + 256 * d)) run_fine).1

  rest_right : right_from t s (k ∷ a ∷ b ∷ x ∷ d ∷ rest) ≡ true → right_from (suc t) (s + (x + 256 * d)) rest ≡ true
  unfolding right_from when◌then◌else◌
  rest_right f = rw (ne_eqb t 64 (λ z. omega arith)) at f

  seek-run : (p span : ℕ) → seek_from p t s (new_runs_from t (k ∷ a ∷ b ∷ x ∷ d ∷ rest)) span
      ≡ (when ltb span (s + (x + 256 * d)) then found 0 (a + 256 * b) p else seek_from p (suc t) (s + (x + 256 * d)) (new_runs_from (suc t) rest) span)
  unfolding new_runs_from seek_from seek when◌then◌else◌
  seek-run p span = rw (ne_eqb t 64 (λ z. omega arith))

  within-run : (p span : ℕ) → within p (suc c) (k ∷ a ∷ b ∷ x ∷ d ∷ rest) s span
      ≡ (when ltb span (s + (x + 256 * d)) then found 0 (a + 256 * b) p else within p c rest (s + (x + 256 * d)) span)
  unfolding within when◌then◌else◌
  within-run p span = rw run_fine

  agree_cases : (p span : ℕ) → (s + (x + 256 * d) ≤ span → within p c rest (s + (x + 256 * d)) span ≡ seek_from p (suc t) (s + (x + 256 * d)) (new_runs_from (suc t) rest) span)
      → (z : Bool) → ltb span (s + (x + 256 * d)) ≡ z
      → (when z then found 0 (a + 256 * b) p else within p c rest (s + (x + 256 * d)) span)
      ≡ (when z then found 0 (a + 256 * b) p else seek_from p (suc t) (s + (x + 256 * d)) (new_runs_from (suc t) rest) span)
  unfolding when◌then◌else◌
  agree_cases p span g true y = refl
  agree_cases p span g false y = g (ltb-false span (s + (x + 256 * d)) y)

  -- where the span is past the run both go on; where the run holds it both give its id
  agree : (p span : ℕ) → (s + (x + 256 * d) ≤ span → within p c rest (s + (x + 256 * d)) span ≡ seek_from p (suc t) (s + (x + 256 * d)) (new_runs_from (suc t) rest) span)
      → within p (suc c) (k ∷ a ∷ b ∷ x ∷ d ∷ rest) s span ≡ seek_from p t s (new_runs_from t (k ∷ a ∷ b ∷ x ∷ d ∷ rest)) span
  agree p span g = within-run p span ∙ agree_cases p span g (ltb span (s + (x + 256 * d))) refl ∙ sym (seek-run p span)

  pass : (p span : ℕ) → s + (x + 256 * d) ≤ span
      → seek_from p t s (new_runs_from t (k ∷ a ∷ b ∷ x ∷ d ∷ rest)) span ≡ seek_from p (suc t) (s + (x + 256 * d)) (new_runs_from (suc t) rest) span
  unfolding when◌then◌else◌
  pass p span h =
      seek-run p span ∙ ap (λ z. when z then found 0 (a + 256 * b) p else seek_from p (suc t) (s + (x + 256 * d)) (new_runs_from (suc t) rest) span) (le-ltb span (s + (x + 256 * d)) h)

  walk-run : (s' : ℕ) → Walked c (suc t) (s + (x + 256 * d)) rest s' → Walked (suc c) t s (k ∷ a ∷ b ∷ x ∷ d ∷ rest) s'
  walk-run s' w =
      let e5 : 5 * suc c + 5 ≡ suc (suc (suc (suc (suc (5 * c + 5))))) = omega arith in
      let e1 : 5 * suc c + 1 ≡ suc (suc (suc (suc (suc (5 * c + 1))))) = omega arith in
      let e2 : 5 * suc c + 2 ≡ suc (suc (suc (suc (suc (5 * c + 2))))) = omega arith in
      let e3 : 5 * suc c + 3 ≡ suc (suc (suc (suc (suc (5 * c + 3))))) = omega arith in
      let e4 : 5 * suc c + 4 ≡ suc (suc (suc (suc (suc (5 * c + 4))))) = omega arith in
      let o = some in
      record {
        fine = rw e5 w.fine;
        right = rw e5 w.right;
        number = rw (e1, e2, e3, e4) w.number;
        more = omega (arith, w.more);
        few = w.few;
        past = λ p span h. rw e5 (pass p span (omega (arith, w.more)) ∙ w.past p span h);
        here = λ p span h g. agree p span (λ z. w.here p span z g);
      }

pub walk : (c : ℕ) (l : List ℕ) (t s : ℕ) → t + c ≡ 64 → new_fine_from t s l ≡ true → right_from t s l ≡ true → 5 * c + 6 ≤ length l → Full c t s l
walk c [] t s e f g h = absurd (omega arith)
walk c (k ∷ []) t s e f g h = absurd (omega arith)
walk c (k ∷ a ∷ []) t s e f g h = absurd (omega arith)
walk c (k ∷ a ∷ b ∷ []) t s e f g h = absurd (omega arith)
walk c (k ∷ a ∷ b ∷ x ∷ []) t s e f g h = absurd (omega arith)
walk zero (k ∷ a ∷ b ∷ x ∷ d ∷ rest) t s e f g h =
    let z : 64 ≡ t = omega arith in
    subst (λ v. new_fine_from v s (k ∷ a ∷ b ∷ x ∷ d ∷ rest) ≡ true → right_from v s (k ∷ a ∷ b ∷ x ∷ d ∷ rest) ≡ true → Full 0 v s (k ∷ a ∷ b ∷ x ∷ d ∷ rest)) z
    (λ f g. record { spans = s; walked = walk_mark s k a b x d rest f g }) f g
walk (suc c) (k ∷ a ∷ b ∷ x ∷ d ∷ rest) t s e f g h =
    let n : t < 64 = omega arith in
    let w = walk c rest (suc t) (s + (x + 256 * d)) (omega arith) (rest_fine c t s k a b x d rest n f) (rest_right c t s k a b x d rest n f g) (omega arith) in
    record { spans = w.spans; walked = walk-run c t s k a b x d rest n f w.spans w.walked }

-- the last stretch, which is not full
last_end : (c t s k p span : ℕ) → t < 64 → new_fine_from t s (k ∷ []) ≡ true → within p (suc c) (k ∷ []) s span ≡ seek_from p t s (new_runs_from t (k ∷ [])) span
unfolding new_fine_from within new_runs_from seek_from seek when◌then◌else◌
last_end c t s k p span n e =
    let q = both (eqb k 4) (ltb t 64) e in
    rw (q.0, ne_eqb t 64 (λ z. omega arith))

no_end : (t s : ℕ) → new_fine_from t s [] ≡ true → ⊥
unfolding new_fine_from
no_end t s e = false≢true e

not_due : (t s k : ℕ) → t ≡ 64 → new_fine_from t s (k ∷ []) ≡ true → ⊥
unfolding new_fine_from
not_due t s k z e = let b = ltb-true t 64 (both (eqb k 4) (ltb t 64) e).1 in omega arith

short_1 : (t s k a : ℕ) → new_fine_from t s (k ∷ a ∷ []) ≡ true → ⊥
unfolding new_fine_from
short_1 t s k a e = false≢true e

short_2 : (t s k a b : ℕ) → new_fine_from t s (k ∷ a ∷ b ∷ []) ≡ true → ⊥
unfolding new_fine_from
short_2 t s k a b e = false≢true e

short_3 : (t s k a b x : ℕ) → new_fine_from t s (k ∷ a ∷ b ∷ x ∷ []) ≡ true → ⊥
unfolding new_fine_from
short_3 t s k a b x e = false≢true e

-- after a number there is something
no_rest : (t s k a b x d : ℕ) (rest : List ℕ) → t ≡ 64 → new_fine_from t s (k ∷ a ∷ b ∷ x ∷ d ∷ rest) ≡ true → length rest < 1 → ⊥
unfolding new_fine_from when◌then◌else◌
no_rest t s k a b x d [] z e h = no_end 0 s (both (eqb k 7 and leb s 4294967295) (new_fine_from 0 s []) (rw (eq-eqb t 64 z) at e)).1
no_rest t s k a b x d (y ∷ rest) z e h = omega arith

pub last : (c : ℕ) (l : List ℕ) (t s p span : ℕ) → t + c ≡ 64 → new_fine_from t s l ≡ true → length l < 5 * c + 6 → within p c l s span ≡ seek_from p t s (new_runs_from t l) span
last c [] t s p span e f h = absurd (no_end t s f)
last zero (k ∷ []) t s p span e f h = absurd (not_due t s k (omega arith) f)
last (suc c) (k ∷ []) t s p span e f h = last_end c t s k p span (omega arith) f
last c (k ∷ a ∷ []) t s p span e f h = absurd (short_1 t s k a f)
last c (k ∷ a ∷ b ∷ []) t s p span e f h = absurd (short_2 t s k a b f)
last c (k ∷ a ∷ b ∷ x ∷ []) t s p span e f h = absurd (short_3 t s k a b x f)
last zero (k ∷ a ∷ b ∷ x ∷ d ∷ rest) t s p span e f h = absurd (no_rest t s k a b x d rest (omega arith) f (omega arith))
last (suc c) (k ∷ a ∷ b ∷ x ∷ d ∷ rest) t s p span e f h =
    let n : t < 64 = omega arith in
    agree c t s k a b x d rest n f p span (λ z. last c rest (suc t) (s + (x + 256 * d)) p span (omega arith) (rest_fine c t s k a b x d rest n f) (omega arith))

-- ---------------------------------------------------------------- all stretches of an accepted file

drop_more : (l : List ℕ) (p : ℕ) → drop (5 * 64 + 5) (drop (325 * p) l) ≡ drop (325 * suc p) l
drop_more l p = let e : 325 * p + (5 * 64 + 5) ≡ 325 * suc p = omega arith in drop-drop (5 * 64 + 5) (325 * p) l ∙ ap (λ z. drop z l) e

number_at : (l : List ℕ) (p i k : ℕ) → 325 * p + i ≡ k → get_or (drop (325 * p) l) i 0 ≡ get_or l k 0
number_at l p i k e = get_or-drop (325 * p) l i 0 ∙ ap (λ z. get_or l z 0) e

mark_of : (l : List ℕ) (p : ℕ)
    → four_of (get_or (drop (325 * p) l) (5 * 64 + 1) 0) (get_or (drop (325 * p) l) (5 * 64 + 2) 0) (get_or (drop (325 * p) l) (5 * 64 + 3) 0) (get_or (drop (325 * p) l) (5 * 64 + 4) 0) ≡ mark_at l p
unfolding mark_at
mark_of l p =
    rw (
      number_at l p (5 * 64 + 1) (325 * p + 321) (omega arith),
      number_at l p (5 * 64 + 2) (325 * p + 322) (omega arith),
      number_at l p (5 * 64 + 3) (325 * p + 323) (omega arith),
      number_at l p (5 * 64 + 4) (325 * p + 324) (omega arith),
    )

seek-plain : (p s : ℕ) (rs : List Run) (span : ℕ) → seek_from p 0 s rs span ≡ seek p 0 s rs span
unfolding seek_from when◌then◌else◌
seek-plain p s rs span = refl

module _ (l : List ℕ) (a : new_fine l ≡ true) (b : right_numbers l ≡ true) (o : length l % 5 ≡ 1) where
  -- where stretch p begins
  pub record Stands (p : ℕ) : Type 0 where
    pub fine : new_fine_from 0 (spans_before l p) (drop (325 * p) l) ≡ true
    pub right : right_from 0 (spans_before l p) (drop (325 * p) l) ≡ true
    pub counts : p ≤ spans_before l p
    pub few : spans_before l p ≤ 4294967295
    pub seeks : (span : ℕ) → spans_before l p ≤ span → seek 0 0 0 (new_runs l) span ≡ seek p 0 (spans_before l p) (new_runs_from 0 (drop (325 * p) l)) span

  fine_here : new_fine_from 0 0 l ≡ true
  unfolding new_fine
  fine_here = a

  right_here : right_from 0 0 l ≡ true
  unfolding right_numbers
  right_here = b

  stands_first : Stands 0
  unfolding spans_before new_runs
  stands_first = record { fine = fine_here; right = right_here; counts = omega arith; few = omega arith; seeks = λ span h. refl }

  stretch : (p : ℕ) → p < length l / 325 → Stands p → Full 64 0 (spans_before l p) (drop (325 * p) l)
  stretch p h w = walk 64 (drop (325 * p) l) 0 (spans_before l p) refl w.fine w.right (omega (arith, length-drop (325 * p) l))

  stands_next : (p : ℕ) (h : p < length l / 325) (w : Stands p) (s : ℕ) → Walked 64 0 (spans_before l p) (drop (325 * p) l) s → mark_at l p ≡ s → Stands (suc p)
  unfolding spans_before
  stands_next p h w s k e = record {
    fine = rw (e, ← drop_more l p) k.fine;
    right = rw (e, ← drop_more l p) k.right;
    counts = omega (arith, w.counts, k.more);
    few = omega (arith, k.few);
    seeks = λ span g. w.seeks span (omega (arith, k.more)) ∙ sym (seek-plain p (spans_before l p) (new_runs_from 0 (drop (325 * p) l)) span)
        ∙ k.past p span (omega arith)
        ∙ ap (λ z. seek (suc p) 0 s (new_runs_from 0 z) span) (drop_more l p) ∙ ap (λ z. seek (suc p) 0 z (new_runs_from 0 (drop (325 * suc p) l)) span) (sym e);
  }

  mark_is : (p s : ℕ) → Walked 64 0 (spans_before l p) (drop (325 * p) l) s → mark_at l p ≡ s
  mark_is p s k = sym (mark_of l p) ∙ k.number

  pub stands : (p : ℕ) → p ≤ length l / 325 → Stands p
  stands zero h = stands_first
  stands (suc p) h =
      let w = stands p (omega arith) in
      let f = stretch p (omega arith) w in
      stands_next p (omega arith) w f.spans f.walked (mark_is p f.spans f.walked)

  -- the stretch that holds the span, and the last for a span beyond the end
  pub reads_same : (p span : ℕ) → p ≤ length l / 325 → spans_before l p ≤ span → (p < length l / 325 → span < mark_at l p)
      → within p 64 (drop (325 * p) l) (spans_before l p) span ≡ seek 0 0 0 (new_runs l) span
  reads_same p span h g k =
      let w = stands p h in
      elim (dec_lt p (length l / 325)) [
        | yes n ↦ (let f = stretch p n w in
            f.walked.here p span g (omega (arith, k n, mark_is p f.spans f.walked)) ∙ seek-plain p (spans_before l p) (new_runs_from 0 (drop (325 * p) l)) span ∙ sym (w.seeks span g))
        | no n ↦ (last 64 (drop (325 * p) l) 0 (spans_before l p) p span refl w.fine (omega (arith, length-drop (325 * p) l))
            ∙ seek-plain p (spans_before l p) (new_runs_from 0 (drop (325 * p) l)) span ∙ sym (w.seeks span g))
      ]

-- ---------------------------------------------------------------- the halving

-- the stretch that the halving leaves: its spans begin at or before the span, and its own number is above it
pub record Leaves (l : List ℕ) (span most r : ℕ) : Type 0 where
  pub within : r ≤ most
  pub starts : spans_before l r ≤ span
  pub ends : r < most → span < mark_at l r

next_starts : (l : List ℕ) (span mid : ℕ) → leb (mark_at l mid) span ≡ true → spans_before l (suc mid) ≤ span
unfolding spans_before
next_starts l span mid e = leb-true (mark_at l mid) span e

halving-leaves : (k : ℕ) (l : List ℕ) (span most lo hi : ℕ) → hi ≤ lo + k → lo ≤ hi → hi ≤ most → spans_before l lo ≤ span → (hi < most → span < mark_at l hi)
    → Leaves l span most (halving k l span lo hi)
unfolding halving
halving-leaves zero l span most lo hi e f g h m =
    let z : hi ≡ lo = omega arith in
    record { within = omega arith; starts = h; ends = subst (λ v. v < most → span < mark_at l v) z m }
halving-leaves (suc k) l span most lo hi e f g h m =
    if-ind (Leaves l span most) (ltb lo hi)
    (λ y. let d = ltb-true lo hi y in
    if-ind (Leaves l span most) (leb (mark_at l ((lo + hi) / 2)) span)
    (λ q. halving-leaves k l span most (suc ((lo + hi) / 2)) hi (omega arith) (omega arith) g (next_starts l span ((lo + hi) / 2) q) m)
    (λ q. halving-leaves k l span most lo ((lo + hi) / 2) (omega arith) (omega arith) (omega arith) h (λ u. leb-false (mark_at l ((lo + hi) / 2)) span q)))
    (λ y. let d = ltb-false lo hi y in
    let z : hi ≡ lo = omega arith in
    record { within = omega arith; starts = h; ends = subst (λ v. v < most → span < mark_at l v) z m })

none_before : (l : List ℕ) (span : ℕ) → spans_before l 0 ≤ span
unfolding spans_before
none_before l span = omega arith

all_marks : (l : List ℕ) → length l / 325 ≤ 4294967295 → marks_in l ≡ length l / 325
unfolding marks_in when◌then◌else◌
all_marks l h = rw (le-ltb 4294967295 (length l / 325) h)

-- of every file
pub chosen-leaves : (l : List ℕ) (span : ℕ) → Leaves l span (marks_in l) (chosen l span)
unfolding chosen
chosen-leaves l span = halving-leaves (marks_in l) l span (marks_in l) 0 (marks_in l) (omega arith) (omega arith) (omega arith) (none_before l span) (λ u. absurd (omega arith))

-- ---------------------------------------------------------------- the theorem

pub same_answer : (l : List ℕ) (span : ℕ) → read_refusal l ≡ 0 → id_at l span ≡ id_whole l span
unfolding id_at id_whole when◌then◌else◌
same_answer l span e =
    let r = read_fine l e in
    let o = new_length l r.fine in
    let w = stands l r.fine r.right o (length l / 325) (omega arith) in
    let m : marks_in l ≡ length l / 325 = all_marks l (omega (arith, w.counts, w.few)) in
    let c = chosen-leaves l span in
    rw (eq-eqb (length l % 5) 1 o, eq-eqb (read_refusal l) 0 e)
    (reads_same l r.fine r.right o (chosen l span) span (omega (arith, c.within)) c.starts (λ h. c.ends (omega arith)))
