-- What the functions over the old form need at their calls and ends, as the code has it.
-- Each is a step of the rule (Places) taken with room and writing (Fits). Assumes nothing.
use Prim.Native.Nat.{ℕ, suc, ◌+◌, ◌*◌, ◌-◌, ◌/◌, ◌%◌, ◌≤◌, ◌<◌}
use native.Mathlib.Omega.{arith}
use mathlib.Core.Path.{◌≡◌, refl, sym, ap, subst, ◌∙◌}
use mathlib.Core.Bool.{Bool, true, false, not}
use mathlib.Core.List.{List, [], ◌∷◌, ◌++◌}
use lib.ListN.{length, length-append}
use lib.Dec.{eqb, ltb, leb}
use borrow.Author.Tests.{eq-eqb, ne_eqb, eqb-true, eqb-false, ltb-true, lt-ltb, le-leb, leb-true}
use Rattle.rules.specs.Base.{◌and◌, when◌then◌else◌}
use Rattle.rules.specs.File.{word}
use Rattle.rules.specs.Stored.{two, four, span_record, run_record, mark_record, joins, old_fine, old_ids, runs_of, marks_fit, packed}
use Rattle.laws.proofs.Basics.{same_test, if-ind}
use Rattle.forms.proofs.Runs.{joined}
use Rattle.file.specs.Written.{Room, Wrote}
use Rattle.file.proofs.Writing.{written_none, room_first, room_then, wrote_then}
use Rattle.stored.specs.Parts.{grown, five, next_run, turned, run_then, run_bytes, ended, ended_bytes, mark_fits, end_fits}
use Rattle.stored.proofs.Places.{old_length, runs_left, fits_left, left-first, fits_first, left_next, fits_next, left_end, fits_end, packed_none, grown_le}
use Rattle.stored.proofs.Fits.{Fits, fits_whole, fits_part, fits_not, Writes, writes_first, writes_room, writes_next, writes_done}

-- ---------------------------------------------------------------- records

module _ (out : List ℕ) (at v : ℕ) (h : Room out at (two v)) where
  pub word_room : Room out at ((v % 256) ∷ [])
  unfolding two
  word_room = room_first out at ((v % 256) ∷ []) ((v / 256) ∷ []) h

  pub word_then : (r : ℕ) (out' : List ℕ) → Wrote out at ((v % 256) ∷ []) r out' → Room out' r ((v / 256) ∷ [])
  unfolding two
  word_then r out' g = room_then out at ((v % 256) ∷ []) ((v / 256) ∷ []) h r out' g

  pub word_done : (r : ℕ) (out' : List ℕ) → Wrote out at ((v % 256) ∷ []) r out' → (s : ℕ) (out'' : List ℕ) → Wrote out' r ((v / 256) ∷ []) s out'' → Wrote out at (two v) s out''
  unfolding two
  word_done r out' g s out'' k = wrote_then out at ((v % 256) ∷ []) ((v / 256) ∷ []) h r out' g s out'' k

module _ (out : List ℕ) (at x : ℕ) (h : Room out at (span_record x)) where
  pub span_room : Room out at (5 ∷ [])
  unfolding span_record
  span_room = room_first out at (5 ∷ []) (two x) h

  pub span_then : (r : ℕ) (out' : List ℕ) → Wrote out at (5 ∷ []) r out' → Room out' r (two x)
  unfolding span_record
  span_then r out' g = room_then out at (5 ∷ []) (two x) h r out' g

  pub span_done : (r : ℕ) (out' : List ℕ) → Wrote out at (5 ∷ []) r out' → (s : ℕ) (out'' : List ℕ) → Wrote out' r (two x) s out'' → Wrote out at (span_record x) s out''
  unfolding span_record
  span_done r out' g s out'' k = wrote_then out at (5 ∷ []) (two x) h r out' g s out'' k

module _ (out : List ℕ) (at q x k : ℕ) (h : Room out at (five q x k)) where
  pub five_room : Room out at (q ∷ [])
  unfolding five
  five_room = room_first out at (q ∷ []) (two x ++ two k) h

  module _ (r : ℕ) (out' : List ℕ) (g : Wrote out at (q ∷ []) r out') where
    both_room : Room out' r (two x ++ two k)
    unfolding five
    both_room = room_then out at (q ∷ []) (two x ++ two k) h r out' g

    pub five_then : Room out' r (two x)
    five_then = room_first out' r (two x) (two k) both_room

    pub five_then₂ : (s : ℕ) (out'' : List ℕ) → Wrote out' r (two x) s out'' → Room out'' s (two k)
    five_then₂ s out'' p = room_then out' r (two x) (two k) both_room s out'' p

    pub five_done : (s : ℕ) (out'' : List ℕ) → Wrote out' r (two x) s out'' → (t : ℕ) (out''' : List ℕ) → Wrote out'' s (two k) t out''' → Wrote out at (five q x k) t out'''
    unfolding five
    five_done s out'' p t out''' w =
        wrote_then out at (q ∷ []) (two x ++ two k) h r out' g t out''' (wrote_then out' r (two x) (two k) both_room s out'' p t out''' w)

low_low : (v : ℕ) → v % 65536 % 256 ≡ v % 256
low_low v = omega arith

high_low : (v : ℕ) → v % 65536 / 256 ≡ v / 256 % 256
high_low v = omega arith

div_div : (s : ℕ) → s / 65536 / 256 ≡ s / 16777216
div_div s = omega arith

-- a number of four bytes is two of two
mark_five : (s : ℕ) → mark_record s ≡ five 7 (s % 65536) (s / 65536 % 65536)
unfolding mark_record four five two
mark_five s =
    let a : s % 65536 % 256 ≡ s % 256 = low_low s in
    let b : s % 65536 / 256 ≡ s / 256 % 256 = high_low s in
    let c : s / 65536 % 65536 % 256 ≡ s / 65536 % 256 = low_low (s / 65536) in
    let d : s / 65536 % 65536 / 256 ≡ s / 16777216 % 256 = high_low (s / 65536) ∙ ap (λ z. z % 256) (div_div s) in
    rw (a, b, c, d)

pub mark_room : (out : List ℕ) (at s : ℕ) → Room out at (mark_record s) → Room out at (five 7 (s % 65536) (s / 65536 % 65536))
mark_room out at s h = subst (Room out at) (mark_five s) h

pub mark_done : (out : List ℕ) (at s r : ℕ) (out' : List ℕ) → Wrote out at (five 7 (s % 65536) (s / 65536 % 65536)) r out' → Wrote out at (mark_record s) r out'
mark_done out at s r out' w = subst (λ t. Wrote out at t r out') (sym (mark_five s)) w

-- ---------------------------------------------------------------- a span joins a run, or ends it

pub joins-same : (x k y : ℕ) → x ≡ y → ltb k 65535 ≡ joins x k y
unfolding joins ◌and◌
joins-same x k y e = rw (eq-eqb x y e)

pub joins-other : (x k y : ℕ) → (x ≡ y → ⊥) → eqb x y ≡ joins x k y
unfolding joins ◌and◌
joins-other x k y e = rw (ne_eqb x y e)

next_is : (t : ℕ) → t < 64 → (t + 1) % 64 ≡ next_run t
unfolding next_run
next_is t h = if-ind (λ z. (t + 1) % 64 ≡ z) (eqb (suc t) 64) (λ e. let f = eqb-true (suc t) 64 e in omega arith) (λ e. let f = eqb-false (suc t) 64 e in omega arith)

module _ (x k y : ℕ) (b : Bool) (e : b ≡ joins x k y) where
  pub grown-small : b ≡ true → k < 65535
  grown-small t = (joined x k y (sym e ∙ t)).1

  pub grown_more : b ≡ true → k + 1 ≡ grown x k y
  unfolding grown when◌then◌else◌
  grown_more t = let p : joins x k y ≡ true = sym e ∙ t in rw p (omega arith)

  pub grown-one : b ≡ false → 1 ≡ grown x k y
  unfolding grown when◌then◌else◌
  grown-one t = let p : joins x k y ≡ false = sym e ∙ t in rw p

  pub turned_same : (t : ℕ) → b ≡ true → t ≡ turned x k y t
  unfolding turned when◌then◌else◌
  turned_same t f = let p : joins x k y ≡ true = sym e ∙ f in rw p

  pub turned_next : (t : ℕ) → t < 64 → b ≡ false → (t + 1) % 64 ≡ turned x k y t
  unfolding turned when◌then◌else◌
  turned_next t h f = let p : joins x k y ≡ false = sym e ∙ f in rw p (next_is t h)

  pub bytes_none : (t : ℕ) → b ≡ true → 0 ≡ ended_bytes x k y t
  unfolding ended_bytes when◌then◌else◌
  bytes_none t f = let p : joins x k y ≡ true = sym e ∙ f in rw p

  pub bytes_run : (t r : ℕ) → b ≡ false → r ≡ run_bytes t → r ≡ ended_bytes x k y t
  unfolding ended_bytes when◌then◌else◌
  bytes_run t r f g = let p : joins x k y ≡ false = sym e ∙ f in rw p g

  pub end_goes : (t s : ℕ) → b ≡ true → b ≡ end_fits x k y t s
  unfolding end_fits when◌then◌else◌
  end_goes t s f = let p : joins x k y ≡ true = sym e ∙ f in rw p f

  pub end_tests : (t s : ℕ) (r : Bool) → b ≡ false → r ≡ mark_fits t s → r ≡ end_fits x k y t s
  unfolding end_fits when◌then◌else◌
  end_tests t s r f g = let p : joins x k y ≡ false = sym e ∙ f in rw p g

  ended-none : (t s : ℕ) → b ≡ true → ended x k y t s ≡ []
  unfolding ended when◌then◌else◌
  ended-none t s f = let p : joins x k y ≡ true = sym e ∙ f in rw p

  ended-run : (t s : ℕ) → b ≡ false → ended x k y t s ≡ run_then x k t s
  unfolding ended when◌then◌else◌
  ended-run t s f = let p : joins x k y ≡ false = sym e ∙ f in rw p

  pub ended_here : (out : List ℕ) (at t s : ℕ) → b ≡ true → Wrote out at (ended x k y t s) at out
  ended_here out at t s f = subst (λ z. Wrote out at z at out) (sym (ended-none t s f)) (record { ends = omega arith; bytes = sym (written_none out at) })

  pub ended_room : (out : List ℕ) (at t s : ℕ) → b ≡ false → Room out at (ended x k y t s) → Room out at (run_then x k t s)
  ended_room out at t s f h = subst (Room out at) (ended-run t s f) h

  pub ended-wrote : (out : List ℕ) (at t s r : ℕ) (out' : List ℕ) → b ≡ false → Wrote out at (run_then x k t s) r out' → Wrote out at (ended x k y t s) r out'
  ended-wrote out at t s r out' f g = subst (λ z. Wrote out at z r out') (sym (ended-run t s f)) g

-- ---------------------------------------------------------------- the last run of a stretch, or another

pub ten_bytes : (t : ℕ) → t + 1 ≡ 64 → 10 ≡ run_bytes t
unfolding run_bytes when◌then◌else◌
ten_bytes t e = rw (eq-eqb (suc t) 64 (omega arith))

pub five_bytes : (t : ℕ) → (t + 1 ≡ 64 → ⊥) → 5 ≡ run_bytes t
unfolding run_bytes when◌then◌else◌
five_bytes t n = rw (ne_eqb (suc t) 64 (λ e. n (omega arith)))

pub mark_tests : (t s : ℕ) → t + 1 ≡ 64 → leb s 4294967295 ≡ mark_fits t s
unfolding mark_fits when◌then◌else◌
mark_tests t s e = rw (eq-eqb (suc t) 64 (omega arith))

pub mark_none : (t s : ℕ) → (t + 1 ≡ 64 → ⊥) → not (eqb (t + 1) 64) ≡ mark_fits t s
unfolding mark_fits when◌then◌else◌
mark_none t s n = rw (ne_eqb (suc t) 64 (λ e. n (omega arith)), ne_eqb (t + 1) 64 n)

then_mark : (x k t s : ℕ) → t + 1 ≡ 64 → run_then x k t s ≡ five 6 x k ++ mark_record s
unfolding run_then run_record five when◌then◌else◌
then_mark x k t s e = rw (eq-eqb (suc t) 64 (omega arith))

then_none : (x k t s : ℕ) → (t + 1 ≡ 64 → ⊥) → run_then x k t s ≡ five 6 x k
unfolding run_then run_record five two when◌then◌else◌
then_none x k t s n = rw (ne_eqb (suc t) 64 (λ e. n (omega arith)))

begins : (x k t s : ℕ) → run_then x k t s ≡ five 6 x k ++ (when eqb (suc t) 64 then mark_record s else [])
unfolding run_then run_record five
begins x k t s = refl

module _ (out : List ℕ) (at x k t s : ℕ) (h : Room out at (run_then x k t s)) where
  pub first_room : Room out at (five 6 x k)
  first_room = room_first out at (five 6 x k) (when eqb (suc t) 64 then mark_record s else []) (subst (Room out at) (begins x k t s) h)

  module _ (r : ℕ) (out' : List ℕ) (g : Wrote out at (five 6 x k) r out') where
    pub after_room : t + 1 ≡ 64 → Room out' r (mark_record s)
    after_room e = room_then out at (five 6 x k) (mark_record s) (subst (Room out at) (then_mark x k t s e) h) r out' g

    pub after_done : (u : ℕ) (out'' : List ℕ) → t + 1 ≡ 64 → Wrote out' r (mark_record s) u out'' → Wrote out at (run_then x k t s) u out''
    after_done u out'' e w =
        subst (λ z. Wrote out at z u out'') (sym (then_mark x k t s e)) (wrote_then out at (five 6 x k) (mark_record s) (subst (Room out at) (then_mark x k t s e) h) r out' g u out'' w)

    pub alone_done : (t + 1 ≡ 64 → ⊥) → Wrote out at (run_then x k t s) r out'
    alone_done n = subst (λ z. Wrote out at z r out') (sym (then_none x k t s n)) g

-- ---------------------------------------------------------------- the numbers of spans fit

module _ (l : List ℕ) (i x k t : ℕ) (o : length l % 3 ≡ 1) (f : marks_fit 0 0 (runs_of (old_ids l)) ≡ fits_left l i x k t) (le : k ≤ i) where
  pub marks_next : (y n g u : ℕ) (b : Bool) → i < length l / 3 → y ≡ word l (3 * i + 1) → b ≡ end_fits x k y t i → b ≡ true → n ≡ y → u ≡ turned x k y t → g ≡ grown x k y
      → marks_fit 0 0 (runs_of (old_ids l)) ≡ fits_left l (i + 1) n g u
  unfolding ◌and◌
  marks_next y n g u b h e p q c v w =
      f ∙ fits_next l i x k t o h le ∙ ap (λ z. end_fits x k z t i and fits_left l (i + 1) z (grown x k z) (turned x k z t)) (sym e)
      ∙ ap (λ z. z and fits_left l (i + 1) y (grown x k y) (turned x k y t)) (sym p ∙ q)
      ∙ ap (λ z. fits_left l (i + 1) y z (turned x k y t)) (sym w) ∙ ap (fits_left l (i + 1) y g) (sym v) ∙ ap (λ z. fits_left l (i + 1) z g u) (sym c)

  pub marks_not : (y : ℕ) (b : Bool) → i < length l / 3 → y ≡ word l (3 * i + 1) → b ≡ end_fits x k y t i → b ≡ false → false ≡ marks_fit 0 0 (runs_of (old_ids l))
  unfolding ◌and◌
  marks_not y b h e p q =
      sym (f ∙ fits_next l i x k t o h le ∙ ap (λ z. end_fits x k z t i and fits_left l (i + 1) z (grown x k z) (turned x k z t)) (sym e)
      ∙ ap (λ z. z and fits_left l (i + 1) y (grown x k y) (turned x k y t)) (sym p ∙ q))

  pub marks_end : (b : Bool) → i ≤ length l / 3 → length l / 3 ≤ i → b ≡ mark_fits t (length l / 3) → b ≡ marks_fit 0 0 (runs_of (old_ids l))
  marks_end b h g e = let n : length l / 3 ≡ i = omega arith in e ∙ ap (mark_fits t) n ∙ fits_end l i x k t o h g le ∙ sym f

pub marks_first : (l : List ℕ) (x k t : ℕ) → length l % 3 ≡ 1 → 3 < length l → x ≡ word l 1 → k ≡ 1 → t ≡ 0 → marks_fit 0 0 (runs_of (old_ids l)) ≡ fits_left l 1 x k t
marks_first l x k t o h e f g = rw (e, f, g) (fits_first l o h)

-- ---------------------------------------------------------------- room for the runs

first-left : (l : List ℕ) (x k t : ℕ) → length l % 3 ≡ 1 → 3 < length l → x ≡ word l 1 → k ≡ 1 → t ≡ 0 → packed l ≡ runs_left l 1 x k t
first-left l x k t o h e f g = rw (e, f, g) (left-first l o h)

pub fit_first : (l : List ℕ) (room x k t : ℕ) → length l % 3 ≡ 1 → 3 < length l → x ≡ word l 1 → k ≡ 1 → t ≡ 0 → Fits (packed l) room (runs_left l 1 x k t) room
fit_first l room x k t o h e f g = fits_whole (packed l) room (runs_left l 1 x k t) (first-left l x k t o h e f g)

-- what is left, by the next id
left_by_lem : (l : List ℕ) (i x k t y g u : ℕ) → length l % 3 ≡ 1 → i < length l / 3 → k ≤ i → y ≡ word l (3 * i + 1) → g ≡ grown x k y → u ≡ turned x k y t
    → runs_left l i x k t ≡ ended x k y t i ++ runs_left l (i + 1) y g u
left_by_lem l i x k t y g u o h le e f v =
    left_next l i x k t o h le ∙ ap (λ z. ended x k z t i ++ runs_left l (i + 1) z (grown x k z) (turned x k z t)) (sym e)
    ∙ ap (λ z. ended x k y t i ++ runs_left l (i + 1) y z (turned x k y t)) (sym f) ∙ ap (λ z. ended x k y t i ++ runs_left l (i + 1) y g z) (sym v)

run_long_cases : (s : ℕ) (b : Bool) → suc (suc (suc (suc (suc (length (when b then mark_record s else [])))))) ≡ (when b then 10 else 5)
unfolding mark_record four when◌then◌else◌
run_long_cases s true = refl
run_long_cases s false = refl

run_long : (x k t s : ℕ) → length (run_then x k t s) ≡ run_bytes t
unfolding run_then run_bytes run_record two
run_long x k t s = run_long_cases s (eqb (suc t) 64)

ended_long_cases : (x k t s : ℕ) (b : Bool) → length (when b then [] else run_then x k t s) ≡ (when b then 0 else run_bytes t)
unfolding when◌then◌else◌
ended_long_cases x k t s true = refl
ended_long_cases x k t s false = run_long x k t s

ended_long : (x k y t s : ℕ) → length (ended x k y t s) ≡ ended_bytes x k y t
unfolding ended ended_bytes
ended_long x k y t s = ended_long_cases x k t s (joins x k y)

module _ (l : List ℕ) (room i x k t left : ℕ) (f : Fits (packed l) room (runs_left l i x k t) left) (o : length l % 3 ≡ 1) (le : k ≤ i) where
  pub fit_next : (y z g u n : ℕ) → i < length l / 3 → y ≡ word l (3 * i + 1) → n ≡ ended_bytes x k y t → n ≤ left → z ≡ y → u ≡ turned x k y t → g ≡ grown x k y
      → Fits (packed l) room (runs_left l (i + 1) z g u) (left - n)
  fit_next y z g u n h e p q c v w =
      let m : length (ended x k y t i) ≡ n = ended_long x k y t i ∙ sym p in
      subst (λ d. Fits (packed l) room (runs_left l (i + 1) d g u) (left - n)) (sym c)
      (subst (λ d. Fits (packed l) room (runs_left l (i + 1) y g u) (left - d)) m
      (fits_part (packed l) room (runs_left l i x k t) left f (ended x k y t i) (runs_left l (i + 1) y g u) (left_by_lem l i x k t y g u o h le e w v) (omega arith)))

  pub fit_not : (y n : ℕ) → i < length l / 3 → y ≡ word l (3 * i + 1) → n ≡ ended_bytes x k y t → left < n → false ≡ leb (length (packed l)) room
  fit_not y n h e p lt =
      let m : length (ended x k y t i) ≡ n = ended_long x k y t i ∙ sym p in
      fits_not (packed l) room (runs_left l i x k t) left f (ended x k y t i) (runs_left l (i + 1) y (grown x k y) (turned x k y t)) (left_by_lem l i x k t y (grown x k y) (turned x k y t) o h le e refl refl) (omega arith)

  pub fit_end : (n : ℕ) → i ≤ length l / 3 → length l / 3 ≤ i → n ≡ run_bytes t → ltb n left ≡ leb (length (packed l)) room
  fit_end n h g p =
      let e : length (runs_left l i x k t) ≡ n + 1 =
      ap length (left_end l i x k t o h g le) ∙ length-append (run_then x k t i) (4 ∷ []) ∙ ap (λ z. z + 1) (run_long x k t i ∙ sym p) in
      same_test (ltb n left) (leb (n + 1) left) (λ q. le-leb (n + 1) left (omega (arith, ltb-true n left q))) (λ q. lt-ltb n left (omega (arith, leb-true (n + 1) left q)))
      ∙ ap (λ z. leb z left) (sym e) ∙ sym f.same

pub fit_none : (l : List ℕ) (room : ℕ) → length l ≡ 1 → ltb 0 room ≡ leb (length (packed l)) room
fit_none l room e =
    same_test (ltb 0 room) (leb 1 room) (λ p. le-leb 1 room (omega (arith, ltb-true 0 room p))) (λ p. lt-ltb 0 room (omega (arith, leb-true 1 room p)))
    ∙ ap (λ z. leb (length z) room) (sym (packed_none l e))

-- a fine file that is not one byte long has a span
pub old_some : (l : List ℕ) → old_fine l ≡ true → (length l ≡ 1 → ⊥) → 3 < length l
old_some l e n = let o = old_length l e in omega arith

-- ---------------------------------------------------------------- writing the runs

pub some_first : (l out : List ℕ) (x k t : ℕ) → length l % 3 ≡ 1 → 3 < length l → Room out 0 (packed l) → x ≡ word l 1 → k ≡ 1 → t ≡ 0 → Writes out (packed l) 0 (runs_left l 1 x k t) out
some_first l out x k t o h m e f g = writes_first out (packed l) (runs_left l 1 x k t) (omega (arith, m.fits)) (first-left l x k t o h e f g)

module _ (l out₀ : List ℕ) (at i x k t : ℕ) (out : List ℕ) (w : Writes out₀ (packed l) at (runs_left l i x k t) out) (o : length l % 3 ≡ 1) (le : k ≤ i) where
  pub some_room : (y : ℕ) → i < length l / 3 → y ≡ word l (3 * i + 1) → Room out at (ended x k y t i)
  some_room y h e =
      writes_room out₀ (packed l) at (runs_left l i x k t) out w (ended x k y t i) (runs_left l (i + 1) y (grown x k y) (turned x k y t))
      (left_by_lem l i x k t y (grown x k y) (turned x k y t) o h le e refl refl)

  pub some_next : (y z g u r : ℕ) (out' : List ℕ) → i < length l / 3 → y ≡ word l (3 * i + 1) → Wrote out at (ended x k y t i) r out' → z ≡ y → u ≡ turned x k y t → g ≡ grown x k y
      → Writes out₀ (packed l) r (runs_left l (i + 1) z g u) out'
  some_next y z g u r out' h e p f q v =
      subst (λ n. Writes out₀ (packed l) r (runs_left l (i + 1) n g u) out') (sym f)
      (writes_next out₀ (packed l) at (runs_left l i x k t) out w (ended x k y t i) (runs_left l (i + 1) y g u) (left_by_lem l i x k t y g u o h le e v q) r out' p)

  module _ (h : i ≤ length l / 3) (g : length l / 3 ≤ i) where
    last_left : runs_left l i x k t ≡ run_then x k t (length l / 3) ++ (4 ∷ [])
    last_left = let n : i ≡ length l / 3 = omega arith in left_end l i x k t o h g le ∙ ap (λ z. run_then x k t z ++ (4 ∷ [])) n

    pub last_room : Room out at (run_then x k t (length l / 3))
    last_room = writes_room out₀ (packed l) at (runs_left l i x k t) out w (run_then x k t (length l / 3)) (4 ∷ []) last_left

    module _ (r : ℕ) (out' : List ℕ) (p : Wrote out at (run_then x k t (length l / 3)) r out') where
      end-left : Writes out₀ (packed l) r (4 ∷ []) out'
      end-left = writes_next out₀ (packed l) at (runs_left l i x k t) out w (run_then x k t (length l / 3)) (4 ∷ []) last_left r out' p

      pub end_room : Room out' r (4 ∷ [])
      end_room = writes_room out₀ (packed l) r (4 ∷ []) out' end-left (4 ∷ []) [] refl

      pub some_done : (s : ℕ) (out'' : List ℕ) → Wrote out' r (4 ∷ []) s out'' → Wrote out₀ 0 (packed l) s out''
      some_done s out'' q = writes_done out₀ (packed l) s out'' (writes_next out₀ (packed l) r (4 ∷ []) out' end-left (4 ∷ []) [] refl s out'' q)

pub none_room : (l out : List ℕ) → length l ≡ 1 → length (packed l) ≤ length out → Room out 0 (4 ∷ [])
none_room l out e h = record { fits = omega (arith, ap length (packed_none l e)) }

pub none-wrote : (l out : List ℕ) (r : ℕ) (out' : List ℕ) → length l ≡ 1 → Wrote out 0 (4 ∷ []) r out' → Wrote out 0 (packed l) r out'
none-wrote l out r out' e w = subst (λ t. Wrote out 0 t r out') (sym (packed_none l e)) w

pub whole_room : (l out : List ℕ) → length (packed l) ≤ length out → Room out 0 (packed l)
whole_room l out h = record { fits = omega arith }

-- ---------------------------------------------------------------- bounds, as the loops need them

pub grown_bound : (x k y i g : ℕ) → k ≤ i → g ≡ grown x k y → g ≤ i + 1
grown_bound x k y i g h e = omega (arith, grown_le x k y i h)

pub many_some : (l : List ℕ) → 4294967295 < length l / 3 → 3 < length l
many_some l h = omega arith
