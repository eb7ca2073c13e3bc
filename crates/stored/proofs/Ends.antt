-- The entries' ends are the rules' outcomes: a refusal of the file, no room, or the output written.
-- Assumes nothing.
use Prim.Native.Nat.{ℕ, ◌+◌, ◌≤◌, ◌<◌}
use native.Mathlib.Omega.{arith}
use mathlib.Core.Path.{◌≡◌, sym, ap, ◌∙◌}
use mathlib.Core.Bool.{Bool, true, false}
use mathlib.Core.List.{List, ◌++◌}
use lib.ListN.{length, drop}
use lib.Dec.{leb}
use borrow.Author.Tests.{leb-true, leb-false}
use Rattle.std.specs.Prelude.{Result, Ok, Err}
use Rattle.rules.specs.Base.{◌and◌, when◌then◌else◌}
use Rattle.rules.specs.Stored.{old_fine, old_ids, runs_of, marks_fit, packed, pack_refusal, pack_outcome, new_fine, new_runs, longest, right_numbers, unpacked, read_refusal, unpack_outcome, given_out}
use Rattle.file.specs.Written.{written, Wrote}
use Rattle.stored.specs.Answer.{stored_number, checked_number, CheckedAs}
use Rattle.stored.specs.declared.StoredRefusal.{StoredRefusal}
use Rattle.stored.specs.declared.StoredRefusal.TheVariants.{Malformed, NotLongest, NoRoom, WrongNumber}
use Rattle.forms.proofs.Room.{gives, given_refused, given_full, given_done}

pub test_true : (a b : Bool) → a ≡ b → a ≡ true → b ≡ true
test_true a b e f = sym e ∙ f

pub fits_room : (t out : List ℕ) (b : Bool) → b ≡ leb (length t) (length out) → b ≡ true → length t ≤ length out
fits_room t out b e f = leb-true (length t) (length out) (sym e ∙ f)

-- a text written from the first place on
wrote_out : (t out : List ℕ) (r : ℕ) (out' : List ℕ) → Wrote out 0 t r out' → length t ≤ length out → gives 0 r out' ≡ given_out 0 t out
unfolding written
wrote_out t out r out' w h =
    let p : r ≡ length t = omega (arith, w.ends) in
    let z : 0 + length t ≡ length t = omega arith in
    ap (λ l. gives 0 r l) w.bytes ∙ ap (λ n. gives 0 r (t ++ drop n out)) z ∙ ap (λ n. gives 0 n (t ++ drop (length t) out)) p ∙ sym (given_done t out h)

no_room : (t out : List ℕ) (b : Bool) → b ≡ leb (length t) (length out) → b ≡ false → gives 24 0 out ≡ given_out 0 t out
no_room t out b e f = sym (given_full t out (leb-false (length t) (length out) (sym e ∙ f)))

-- ---------------------------------------------------------------- pack

module _ (f out : List ℕ) (b : Bool) (e : b ≡ old_fine f) where
  old_refused : b ≡ false → pack_refusal f ≡ 22
  unfolding pack_refusal when◌then◌else◌ ◌and◌
  old_refused n = let p : old_fine f ≡ false = sym e ∙ n in rw p

  pub pack_malformed : b ≡ false → gives 22 0 out ≡ pack_outcome f out
  unfolding pack_outcome
  pack_malformed n = sym (ap (λ r. given_out r (packed f) out) (old_refused n) ∙ given_refused 22 (packed f) out (λ q. omega arith))

  module _ (d : Bool) (g : d ≡ marks_fit 0 0 (runs_of (old_ids f))) (n : b ≡ true) where
    marks_refused : d ≡ false → pack_refusal f ≡ 22
    unfolding pack_refusal when◌then◌else◌ ◌and◌
    marks_refused m = let p : old_fine f ≡ true = sym e ∙ n in let q : marks_fit 0 0 (runs_of (old_ids f)) ≡ false = sym g ∙ m in rw (p, q)

    old_accepted : d ≡ true → pack_refusal f ≡ 0
    unfolding pack_refusal when◌then◌else◌ ◌and◌
    old_accepted m = let p : old_fine f ≡ true = sym e ∙ n in let q : marks_fit 0 0 (runs_of (old_ids f)) ≡ true = sym g ∙ m in rw (p, q)

    pub pack_unmarked : d ≡ false → gives 22 0 out ≡ pack_outcome f out
    unfolding pack_outcome
    pack_unmarked m = sym (ap (λ r. given_out r (packed f) out) (marks_refused m) ∙ given_refused 22 (packed f) out (λ q. omega arith))

    pub pack_full : (c : Bool) → d ≡ true → c ≡ leb (length (packed f)) (length out) → c ≡ false → gives 24 0 out ≡ pack_outcome f out
    unfolding pack_outcome
    pack_full c m k h = no_room (packed f) out c k h ∙ sym (ap (λ r. given_out r (packed f) out) (old_accepted m))

    pub pack_done : (c : Bool) (r : ℕ) (out' : List ℕ) → d ≡ true → c ≡ leb (length (packed f)) (length out) → c ≡ true → Wrote out 0 (packed f) r out' → gives 0 r out' ≡ pack_outcome f out
    unfolding pack_outcome
    pack_done c r out' m k h w = wrote_out (packed f) out r out' w (fits_room (packed f) out c k h) ∙ sym (ap (λ r. given_out r (packed f) out) (old_accepted m))

-- ---------------------------------------------------------------- a full read

off : (k : ℕ) → k ≡ 0 → 0 < k → ⊥
off k e h = omega arith

pub number_some : (r : StoredRefusal) → stored_number r ≡ 0 → ⊥
number_some Malformed e = omega arith
number_some NotLongest e = omega arith
number_some NoRoom e = omega arith
number_some WrongNumber e = omega arith

module _ (g : List ℕ) (b : Bool) (e : b ≡ new_fine g) where
  new_refused : b ≡ false → read_refusal g ≡ 22
  unfolding read_refusal when◌then◌else◌
  new_refused n = let p : new_fine g ≡ false = sym e ∙ n in rw p

  pub check_malformed : b ≡ false → CheckedAs g (Err Malformed)
  check_malformed n = record { refusal = sym (new_refused n); fine = λ z. absurd (off 22 (sym (new_refused n) ∙ z) (omega arith)) }

  module _ (n : b ≡ true) (c : Bool) (f : c ≡ longest (new_runs g)) where
    not-longest : c ≡ false → read_refusal g ≡ 23
    unfolding read_refusal when◌then◌else◌
    not-longest m = let p : new_fine g ≡ true = sym e ∙ n in let q : longest (new_runs g) ≡ false = sym f ∙ m in rw (p, q)

    pub check_shorter : c ≡ false → CheckedAs g (Err NotLongest)
    check_shorter m = record { refusal = sym (not-longest m); fine = λ z. sym e ∙ n }

    module _ (m : c ≡ true) (d : Bool) (h : d ≡ right_numbers g) where
      wrong_number : d ≡ false → read_refusal g ≡ 25
      unfolding read_refusal when◌then◌else◌
      wrong_number k =
          let p : new_fine g ≡ true = sym e ∙ n in let q : longest (new_runs g) ≡ true = sym f ∙ m in let r : right_numbers g ≡ false = sym h ∙ k in rw (p, q, r)

      no_refusal : d ≡ true → read_refusal g ≡ 0
      unfolding read_refusal when◌then◌else◌
      no_refusal k =
          let p : new_fine g ≡ true = sym e ∙ n in let q : longest (new_runs g) ≡ true = sym f ∙ m in let r : right_numbers g ≡ true = sym h ∙ k in rw (p, q, r)

      pub check_wrong : d ≡ false → CheckedAs g (Err WrongNumber)
      check_wrong k = record { refusal = sym (wrong_number k); fine = λ z. sym e ∙ n }

      pub check_fine : d ≡ true → CheckedAs g (Ok tt)
      check_fine k = record { refusal = sym (no_refusal k); fine = λ z. sym e ∙ n }

-- ---------------------------------------------------------------- unpack

module _ (g out : List ℕ) (r : Result Unit StoredRefusal) (p : CheckedAs g r) where
  pub unpack_refused : (x : StoredRefusal) → r ≡ Err x → gives (stored_number x) 0 out ≡ unpack_outcome g out
  unfolding unpack_outcome
  unpack_refused x e =
      let q : stored_number x ≡ read_refusal g = ap checked_number (sym e) ∙ p.refusal in
      sym (ap (λ z. given_out z (unpacked g) out) (sym q) ∙ given_refused (stored_number x) (unpacked g) out (number_some x))

  accepts : r ≡ Ok tt → read_refusal g ≡ 0
  accepts e = sym p.refusal ∙ ap checked_number e

  pub unpack_fine : r ≡ Ok tt → new_fine g ≡ true
  unpack_fine e = p.fine (accepts e)

  pub unpack_full : (d : Bool) → r ≡ Ok tt → d ≡ leb (length (unpacked g)) (length out) → d ≡ false → gives 24 0 out ≡ unpack_outcome g out
  unfolding unpack_outcome
  unpack_full d e k l = no_room (unpacked g) out d k l ∙ sym (ap (λ z. given_out z (unpacked g) out) (accepts e))

  pub unpack_done : (d : Bool) (n : ℕ) (out' : List ℕ) → r ≡ Ok tt → d ≡ leb (length (unpacked g)) (length out) → d ≡ true → Wrote out 0 (unpacked g) n out'
      → gives 0 n out' ≡ unpack_outcome g out
  unfolding unpack_outcome
  unpack_done d n out' e k l w = wrote_out (unpacked g) out n out' w (fits_room (unpacked g) out d k l) ∙ sym (ap (λ z. given_out z (unpacked g) out) (accepts e))
