-- What the functions over the new form need at their calls and ends, as the code has it.
-- Each is a step of the rule (NewPlaces) taken with room and writing (Fits). Assumes nothing.
use Prim.Native.Nat.{ℕ, zero, suc, ◌+◌, ◌*◌, ◌-◌, ◌/◌, ◌%◌, ◌≤◌, ◌<◌}
use native.Mathlib.Omega.{arith}
use mathlib.Core.Path.{◌≡◌, refl, sym, ap, subst, ◌∙◌}
use mathlib.Core.Bool.{Bool, false, not}
use mathlib.Core.List.{List, [], ◌∷◌, ◌++◌}
use lib.ListN.{length, get_or, replicate, length-append}
use lib.Dec.{eqb, ltb, leb}
use borrow.Author.Tests.{eq-eqb, ne_eqb, ltb-true, lt-ltb, le-leb, leb-true}
use Rattle.rules.specs.Base.{◌and◌, ◌or◌, when◌then◌else◌}
use Rattle.rules.specs.File.{word}
use Rattle.rules.specs.Stored.{span_record, unpacked}
use Rattle.laws.proofs.Basics.{same_test}
use Rattle.file.specs.Written.{written, Room, Wrote}
use Rattle.file.proofs.Writing.{written_none, written_more, written-length}
use Rattle.stored.specs.Parts.{may_follow, span_records, run_spans}
use Rattle.stored.specs.Ids.{is_run}
use Rattle.stored.specs.Records.{record_fine, runs_after, spans_after, long_word, number_right, record_follows, number_after, spans_bytes, record_spans}
use Rattle.stored.proofs.NewPlaces.{spans_left, spans-first, spans_next, spans-end, spans_long}
use Rattle.stored.proofs.Fits.{Fits, fits_whole, fits_part, fits_not, Writes, writes_first, writes_room, writes_next, writes_done}

-- ---------------------------------------------------------------- tests

pub run_is : (l : List ℕ) (i v : ℕ) → get_or l i 0 ≡ 6 → v ≡ word l (i + 3) → ltb 0 v ≡ is_run l i
unfolding is_run ◌and◌
run_is l i v e f = rw (eq-eqb (get_or l i 0) 6 e) (ap (ltb 0) f)

pub run-not : (l : List ℕ) (i : ℕ) → (get_or l i 0 ≡ 6 → ⊥) → eqb (get_or l i 0) 6 ≡ is_run l i
unfolding is_run ◌and◌
run-not l i e = rw (ne_eqb (get_or l i 0) 6 e)

module _ (l : List ℕ) (i t s : ℕ) where
  pub mark_kind : t ≡ 64 → get_or l i 0 ≡ 7 → leb s 4294967295 ≡ record_fine l i t s
  unfolding record_fine when◌then◌else◌ ◌and◌
  mark_kind e k = rw (eq-eqb t 64 e, eq-eqb (get_or l i 0) 7 k)

  pub mark_other : t ≡ 64 → (get_or l i 0 ≡ 7 → ⊥) → eqb (get_or l i 0) 7 ≡ record_fine l i t s
  unfolding record_fine when◌then◌else◌ ◌and◌
  mark_other e k = rw (eq-eqb t 64 e, ne_eqb (get_or l i 0) 7 k)

  pub run_due : (r : Bool) → (t ≡ 64 → ⊥) → r ≡ is_run l i → r ≡ record_fine l i t s
  unfolding record_fine is_run when◌then◌else◌
  run_due r n e = rw (ne_eqb t 64 n) e

  pub spans_stay : t ≡ 64 → s ≡ spans_after l i t s
  unfolding spans_after when◌then◌else◌
  spans_stay e = rw (eq-eqb t 64 e)

  pub spans_more : (v : ℕ) → (t ≡ 64 → ⊥) → v ≡ word l (i + 3) → s + v ≡ spans_after l i t s
  unfolding spans_after when◌then◌else◌
  spans_more v n e = rw (ne_eqb t 64 n) (ap (λ z. s + z) e)

  pub number_is : (v : ℕ) → t ≡ 64 → v ≡ long_word l (i + 1) → eqb v s ≡ number_right l i t s
  unfolding number_right when◌then◌else◌
  number_is v e f = rw (eq-eqb t 64 e) (ap (λ z. eqb z s) f)

  pub number_none : (t ≡ 64 → ⊥) → not (eqb t 64) ≡ number_right l i t s
  unfolding number_right when◌then◌else◌
  number_none n = rw (ne_eqb t 64 n)

pub after_zero : (t : ℕ) → t ≡ 64 → 0 ≡ runs_after t
unfolding runs_after when◌then◌else◌
after_zero t e = rw (eq-eqb t 64 e)

pub after_more : (t : ℕ) → (t ≡ 64 → ⊥) → t + 1 ≡ runs_after t
unfolding runs_after when◌then◌else◌
after_more t n = rw (ne_eqb t 64 n) (omega arith)

pub long_is : (l : List ℕ) (i a b : ℕ) → a ≡ word l i → b ≡ word l (i + 2) → a + 65536 * b ≡ long_word l i
unfolding long_word
long_is l i a b e f = rw (e, f)

pub follows_mark : (l : List ℕ) (i t x k : ℕ) → t ≡ 64 → eqb t 64 ≡ record_follows l i t x k
unfolding record_follows when◌then◌else◌
follows_mark l i t x k e = rw (eq-eqb t 64 e)

pub follows_run : (l : List ℕ) (i t x k y : ℕ) (r : Bool) → (t ≡ 64 → ⊥) → y ≡ word l (i + 1) → r ≡ may_follow x k y → r ≡ record_follows l i t x k
unfolding record_follows when◌then◌else◌
follows_run l i t x k y r n e f = rw (ne_eqb t 64 n) (f ∙ ap (may_follow x k) e)

pub after_mark : (l : List ℕ) (i t x : ℕ) → t ≡ 64 → x ≡ number_after l i t x
unfolding number_after when◌then◌else◌
after_mark l i t x e = rw (eq-eqb t 64 e)

pub after_run : (l : List ℕ) (i t x y : ℕ) → (t ≡ 64 → ⊥) → y ≡ word l i → y ≡ number_after l i t x
unfolding number_after when◌then◌else◌
after_run l i t x y n e = rw (ne_eqb t 64 n) e

pub bytes_mark : (l : List ℕ) (i t : ℕ) → t ≡ 64 → 0 ≡ spans_bytes l i t
unfolding spans_bytes when◌then◌else◌
bytes_mark l i t e = rw (eq-eqb t 64 e)

pub bytes_spans : (l : List ℕ) (i t v : ℕ) → (t ≡ 64 → ⊥) → v ≡ word l (i + 3) → 3 * v ≡ spans_bytes l i t
unfolding spans_bytes when◌then◌else◌
bytes_spans l i t v n e = rw (ne_eqb t 64 n) (ap (λ z. 3 * z) e)

pub follow_same : (x k y : ℕ) → x ≡ y → eqb k 65535 ≡ may_follow x k y
unfolding may_follow ◌or◌
follow_same x k y e = rw (eq-eqb x y e)

pub follow_other : (x k y : ℕ) → (x ≡ y → ⊥) → not (eqb x y) ≡ may_follow x k y
unfolding may_follow ◌or◌
follow_other x k y e = rw (ne_eqb x y e)

-- ---------------------------------------------------------------- room for the spans

pub span_fit_first : (l : List ℕ) (room : ℕ) → Fits (unpacked l) room (spans_left l 0 0) room
span_fit_first l room = fits_whole (unpacked l) room (spans_left l 0 0) (spans-first l)

-- what is left, by the next record
spans_by : (l : List ℕ) (j t u : ℕ) → length l % 5 ≡ 1 → j < length l / 5 → u ≡ runs_after t → spans_left l j t ≡ record_spans l (5 * j) t ++ spans_left l (j + 1) u
spans_by l j t u o h v = spans_next l j t o h ∙ ap (λ z. record_spans l (5 * j) t ++ spans_left l (j + 1) z) (sym v)

module _ (l : List ℕ) (room j t left : ℕ) (f : Fits (unpacked l) room (spans_left l j t) left) (o : length l % 5 ≡ 1) where
  pub span_fit_next : (n u : ℕ) → j < length l / 5 → n ≡ spans_bytes l (5 * j) t → n ≤ left → u ≡ runs_after t → Fits (unpacked l) room (spans_left l (j + 1) u) (left - n)
  span_fit_next n u h e le v =
      let q : length (record_spans l (5 * j) t) ≡ n = spans_long l (5 * j) t ∙ sym e in
      subst (λ z. Fits (unpacked l) room (spans_left l (j + 1) u) (left - z)) q
      (fits_part (unpacked l) room (spans_left l j t) left f (record_spans l (5 * j) t) (spans_left l (j + 1) u) (spans_by l j t u o h v) (omega arith))

  pub span_fit_not : (n : ℕ) → j < length l / 5 → n ≡ spans_bytes l (5 * j) t → left < n → false ≡ leb (length (unpacked l)) room
  span_fit_not n h e lt =
      let q : length (record_spans l (5 * j) t) ≡ n = spans_long l (5 * j) t ∙ sym e in
      fits_not (unpacked l) room (spans_left l j t) left f (record_spans l (5 * j) t) (spans_left l (j + 1) (runs_after t)) (spans_by l j t (runs_after t) o h refl) (omega arith)

  pub span_fit_end : j ≤ length l / 5 → length l / 5 ≤ j → ltb 0 left ≡ leb (length (unpacked l)) room
  span_fit_end h g =
      let q : length (spans_left l j t) ≡ 1 = ap length (spans-end l j t o h g) in
      same_test (ltb 0 left) (leb 1 left) (λ p. le-leb 1 left (omega (arith, ltb-true 0 left p))) (λ p. lt-ltb 0 left (omega (arith, leb-true 1 left p)))
      ∙ ap (λ z. leb z left) (sym q) ∙ sym f.same

-- ---------------------------------------------------------------- writing the spans of a run

-- k spans in all, `left` of them to be written
pub record Spans (out₀ : List ℕ) (at x k : ℕ) (next left : ℕ) (out : List ℕ) : Type 0 where
  pub same : written out next (span_records (replicate left x)) ≡ written out₀ at (span_records (replicate k x))
  pub ends : next + length (span_records (replicate left x)) ≡ at + length (span_records (replicate k x))
  pub long : length out ≡ length out₀

pub spans-start : (out : List ℕ) (at x k : ℕ) → Spans out at x k at (k - 0) out
spans-start out at x k =
    let e : k ≡ k - 0 = omega arith in
    subst (λ z. Spans out at x k at z out) e (record { same = refl; ends = refl; long = refl })

one-first : (x left : ℕ) → 0 < left → span_records (replicate left x) ≡ span_record x ++ span_records (replicate (left - 1) x)
unfolding span_records
one-first x zero h = absurd (omega arith)
one-first x (suc k) h = let e : suc k - 1 ≡ k = omega arith in rw e

module _ (out₀ : List ℕ) (at x k next left : ℕ) (out : List ℕ) (m : Room out₀ at (span_records (replicate k x))) (s : Spans out₀ at x k next left out) where
  total : 0 < left → length (span_records (replicate left x)) ≡ length (span_record x) + length (span_records (replicate (left - 1) x))
  total h = ap length (one-first x left h) ∙ length-append (span_record x) (span_records (replicate (left - 1) x))

  pub one_room : 0 < left → Room out next (span_record x)
  one_room h = record { fits = omega (arith, total h, s.ends, s.long, m.fits) }

  one_next : (r : ℕ) (out' : List ℕ) → 0 < left → Wrote out next (span_record x) r out' → Spans out₀ at x k r (left - 1) out'
  one_next r out' h w = record {
    same = ap (λ l. written l r (span_records (replicate (left - 1) x))) w.bytes
        ∙ ap (λ j. written (written out next (span_record x)) j (span_records (replicate (left - 1) x))) w.ends
        ∙ written_more out next (span_record x) (span_records (replicate (left - 1) x))
        (omega (arith, total h, length-append (span_record x) (span_records (replicate (left - 1) x)), s.ends, s.long, m.fits))
        ∙ ap (written out next) (sym (one-first x left h)) ∙ s.same;
    ends = omega (arith, total h, s.ends, w.ends);
    long = ap length w.bytes ∙ written-length out next (span_record x) (one_room h).fits ∙ s.long;
  }

  pub one_last : left ≤ 0 → Wrote out₀ at (span_records (replicate k x)) next out
  unfolding span_records
  one_last h =
      let z : left ≡ 0 = omega arith in
      let e : span_records (replicate left x) ≡ [] = ap (λ n. span_records (replicate n x)) z in
      record { ends = omega (arith, ap length e, s.ends); bytes = sym (written_none out next) ∙ ap (written out next) (sym e) ∙ s.same }

-- the same, by how many are written
pub one_more : (out₀ : List ℕ) (at x k next n : ℕ) (out : List ℕ) (r : ℕ) (out' : List ℕ) → Room out₀ at (span_records (replicate k x)) → Spans out₀ at x k next (k - n) out → n < k
    → Wrote out next (span_record x) r out' → Spans out₀ at x k r (k - (n + 1)) out'
one_more out₀ at x k next n out r out' m s h w =
    let e : k - n - 1 ≡ k - (n + 1) = omega arith in
    subst (λ z. Spans out₀ at x k r z out') e (one_next out₀ at x k next (k - n) out m s r out' (omega arith) w)

-- ---------------------------------------------------------------- writing all spans

pub all_first : (l out : List ℕ) → length (unpacked l) ≤ length out → Writes out (unpacked l) 0 (spans_left l 0 0) out
all_first l out h = writes_first out (unpacked l) (spans_left l 0 0) h (spans-first l)

run-spans_room : (l : List ℕ) (i x k : ℕ) (out : List ℕ) (at : ℕ) → x ≡ word l (i + 1) → k ≡ word l (i + 3) → Room out at (run_spans l i) → Room out at (span_records (replicate k x))
unfolding run_spans
run-spans_room l i x k out at p q h = rw (p, q) h

run-spans-wrote : (l : List ℕ) (i x k : ℕ) (out : List ℕ) (at r : ℕ) (out' : List ℕ) → x ≡ word l (i + 1) → k ≡ word l (i + 3)
    → Wrote out at (span_records (replicate k x)) r out' → Wrote out at (run_spans l i) r out'
unfolding run_spans
run-spans-wrote l i x k out at r out' p q h = rw (← p, ← q) h

none-spans : (l : List ℕ) (i t : ℕ) → t ≡ 64 → record_spans l i t ≡ []
unfolding record_spans when◌then◌else◌
none-spans l i t e = rw (eq-eqb t 64 e)

some_spans : (l : List ℕ) (i t : ℕ) → (t ≡ 64 → ⊥) → record_spans l i t ≡ run_spans l i
unfolding record_spans when◌then◌else◌
some_spans l i t n = rw (ne_eqb t 64 n)

pub record_here : (l : List ℕ) (i t : ℕ) (out : List ℕ) (at : ℕ) → t ≡ 64 → Wrote out at (record_spans l i t) at out
record_here l i t out at e = subst (λ z. Wrote out at z at out) (sym (none-spans l i t e)) (record { ends = omega arith; bytes = sym (written_none out at) })

pub record_room : (l : List ℕ) (i t x k : ℕ) (out : List ℕ) (at : ℕ) → (t ≡ 64 → ⊥) → x ≡ word l (i + 1) → k ≡ word l (i + 3) → Room out at (record_spans l i t) → Room out at (span_records (replicate k x))
record_room l i t x k out at n p q h = run-spans_room l i x k out at p q (subst (Room out at) (some_spans l i t n) h)

pub record_wrote : (l : List ℕ) (i t x k : ℕ) (out : List ℕ) (at r : ℕ) (out' : List ℕ) → (t ≡ 64 → ⊥) → x ≡ word l (i + 1) → k ≡ word l (i + 3)
    → Wrote out at (span_records (replicate k x)) r out' → Wrote out at (record_spans l i t) r out'
record_wrote l i t x k out at r out' n p q w = subst (λ z. Wrote out at z r out') (sym (some_spans l i t n)) (run-spans-wrote l i x k out at r out' p q w)

module _ (l out₀ : List ℕ) (at j t : ℕ) (out : List ℕ) (w : Writes out₀ (unpacked l) at (spans_left l j t) out) (o : length l % 5 ≡ 1) where
  pub all_room : j < length l / 5 → Room out at (record_spans l (5 * j) t)
  all_room h = writes_room out₀ (unpacked l) at (spans_left l j t) out w (record_spans l (5 * j) t) (spans_left l (j + 1) (runs_after t)) (spans_by l j t (runs_after t) o h refl)

  pub all_next : (u r : ℕ) (out' : List ℕ) → j < length l / 5 → Wrote out at (record_spans l (5 * j) t) r out' → u ≡ runs_after t → Writes out₀ (unpacked l) r (spans_left l (j + 1) u) out'
  all_next u r out' h g v = writes_next out₀ (unpacked l) at (spans_left l j t) out w (record_spans l (5 * j) t) (spans_left l (j + 1) u) (spans_by l j t u o h v) r out' g

  module _ (h : j ≤ length l / 5) (g : length l / 5 ≤ j) where
    only_end : spans_left l j t ≡ (4 ∷ []) ++ []
    only_end = spans-end l j t o h g

    pub all_end_room : Room out at (4 ∷ [])
    all_end_room = writes_room out₀ (unpacked l) at (spans_left l j t) out w (4 ∷ []) [] only_end

    pub all_done : (r : ℕ) (out' : List ℕ) → Wrote out at (4 ∷ []) r out' → Wrote out₀ 0 (unpacked l) r out'
    all_done r out' k = writes_done out₀ (unpacked l) r out' (writes_next out₀ (unpacked l) at (spans_left l j t) out w (4 ∷ []) [] only_end r out' k)
