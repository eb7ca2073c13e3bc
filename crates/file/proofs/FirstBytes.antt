-- The first 3,261 bytes of a file decide what is printed for it: a header is 11 bytes, a cell 2, a span 6 and the end 1, and past 1,024 cells or 200 spans the reading is over.
-- So where the end is read, a byte after it is among them.
use Prim.Native.Nat.{ℕ, zero, suc, ◌+◌, ◌-◌, ◌*◌, ◌≤◌, ◌<◌}
use native.Mathlib.Omega.{arith}
use native.Mathlib.Decide.{dec_lt}
use mathlib.Core.Path.{◌≡◌, refl, sym, ◌∙◌}
use mathlib.Core.List.{List, [], ◌∷◌}
use lib.ListN.{length, get_or, take, drop, length-take, length-drop}
use lib.Seq.{take_all, take-take, get_or-take, length-take-le}
use lib.Dec.{leb, eqb}
use borrow.Author.Tests.{lt-ltb, le-leb, ne_eqb}
use Rattle.rules.specs.Base.{when◌then◌else◌}
use Rattle.rules.specs.Field.{Field}
use Rattle.rules.specs.Outcomes.{Sizes}
use Rattle.rules.specs.File.{with_span, with_cell, word, read_on, read_file, empty_field}
use Rattle.rules.specs.Listing.{printed}
use Rattle.rules.specs.Load.{read_on_at, read_file_at}
use Rattle.laws.proofs.Basics.{drop-take}
use Rattle.laws.proofs.FileEnds.{reading_fuel}

-- as many bytes are there as are asked for
leb-take : (n m : ℕ) (l : List ℕ) → n ≤ m → leb n (length (take m l)) ≡ leb n (length l)
leb-take n m l h =
    elim (dec_lt m (length l)) [
      | yes g ↦ rw (length-take-le m l (omega arith), le-leb n m h, le-leb n (length l) (omega arith)) refl
      | no g ↦ rw (take_all m l (omega arith)) refl
    ]

none-take : (m : ℕ) (l : List ℕ) → 1 ≤ m → eqb (length (take m l)) 0 ≡ eqb (length l) 0
none-take zero l h = absurd (omega arith)
none-take (suc m) [] h = refl
none-take (suc m) (x ∷ l) h = ne_eqb (suc (length (take m l))) 0 (λ e. omega arith) ∙ sym (ne_eqb (suc (length l)) 0 (λ e. omega arith))

-- what can still be read: so many cells, so many spans, the end, and a byte after it
first_on : (k cells due promised : ℕ) (bytes : List ℕ) (m : ℕ) (F : Field) (z : Sizes) → promised ≤ 200 → 2 * cells + 6 * (due + (200 - promised)) + 2 ≤ m
    → read_on k cells due promised (take m bytes) F z ≡ read_on k cells due promised bytes F z
unfolding read_on when◌then◌else◌
first_on zero cells due promised bytes m F z p h = refl
first_on (suc k) cells due promised bytes zero F z p h = absurd (omega arith)
first_on (suc k) cells due promised [] (suc m) F z p h = refl
first_on (suc k) cells (suc due) promised (kind ∷ rest) (suc m) F z p h =
    let on = first_on k cells due promised (drop 5 rest) (m - 5) (with_span (take 5 rest) F) z p (omega arith) in
    rw (leb-take 5 m rest (omega arith), drop-take 5 m rest, take-take 5 m rest (omega arith), on) refl
first_on (suc k) (suc cells) zero promised (kind ∷ rest) (suc m) F z p h =
    let g = get_or-take m rest 0 0 (omega arith) in
    elim (dec_lt 200 (promised + get_or rest 0 0)) [
      | yes o ↦ rw (leb-take 1 m rest (omega arith), g, lt-ltb 200 (promised + get_or rest 0 0) o) refl
      | no o ↦
          let on = first_on k cells (get_or rest 0 0) (promised + get_or rest 0 0) (drop 1 rest) (m - 1) (with_cell promised (get_or rest 0 0) F) z (omega arith) (omega arith) in
          rw (leb-take 1 m rest (omega arith), g, drop-take 1 m rest, on) refl
    ]
first_on (suc k) zero zero promised (kind ∷ rest) (suc m) F z p h = rw (none-take m rest (omega arith)) refl

word-take : (m i : ℕ) (l : List ℕ) → i + 1 < m → word (take m l) i ≡ word l i
unfolding word
word-take m i l h = rw (get_or-take m l i 0 (omega arith), get_or-take m l (i + 1) 0 h) refl

first_file : (bytes : List ℕ) (m : ℕ) → 3261 ≤ m → read_file (take m bytes) ≡ read_file bytes
unfolding read_file when◌then◌else◌
first_file bytes zero h = absurd (omega arith)
first_file [] (suc m) h = refl
first_file (kind ∷ rest) (suc m) h =
    let cells = word rest 0 * word rest 2 in
    let F = empty_field (word rest 0) (word rest 2) in
    let z : Sizes = record { border = word rest 4; least = word rest 6; merge = word rest 8 } in
    let w = word-take m 0 rest (omega arith) in
    let x = word-take m 2 rest (omega arith) in
    let a = word-take m 4 rest (omega arith) in
    let b = word-take m 6 rest (omega arith) in
    let c = word-take m 8 rest (omega arith) in
    let n = leb-take 10 m rest (omega arith) in
    elim (dec_lt 1024 cells) [
      | yes o ↦ rw (n, w, x, lt-ltb 1024 cells o) refl
      | no o ↦
          let fuel = reading_fuel (length (take m rest)) (length rest) cells 0 0 (drop 10 (take m rest)) F z (omega (arith, length-drop 10 (take m rest))) (omega (arith, length-drop 10 (take m rest), length-take m rest)) in
          let on = first_on (length rest) cells 0 0 (drop 10 rest) (m - 10) F z (omega arith) (omega arith) in
          rw (n, w, x, a, b, c, fuel, drop-take 10 m rest, on) refl
    ]

-- a program that reads no more than the first 3,261 bytes of a file, or any number past that, prints what the whole file prints
pub first_bytes_decide : (bytes : List ℕ) (m : ℕ) → 3261 ≤ m → printed (take m bytes) ≡ printed bytes
unfolding printed
first_bytes_decide bytes m h = rw (first_file bytes m h) refl

-- ---------------------------------------------------------------- the place

-- the same of the reading with its place; a record cut short has fewer bytes than are looked at
place_on : (k p cells due promised : ℕ) (bytes : List ℕ) (m : ℕ) (F : Field) (z : Sizes) → promised ≤ 200 → 2 * cells + 6 * (due + (200 - promised)) + 2 ≤ m
    → read_on_at 200 k p cells due promised (take m bytes) F z ≡ read_on_at 200 k p cells due promised bytes F z
unfolding read_on_at when◌then◌else◌
place_on zero p cells due promised bytes m F z q h = refl
place_on (suc k) p cells due promised bytes zero F z q h = absurd (omega arith)
place_on (suc k) p cells due promised [] (suc m) F z q h = refl
place_on (suc k) p cells (suc due) promised (kind ∷ rest) (suc m) F z q h =
    let on = place_on k (p + 6) cells due promised (drop 5 rest) (m - 5) (with_span (take 5 rest) F) z q (omega arith) in
    elim (dec_lt (length rest) 5) [
      | yes g ↦ rw (take_all m rest (omega arith)) refl
      | no g ↦ rw (leb-take 5 m rest (omega arith), le-leb 5 (length rest) (omega arith), drop-take 5 m rest, take-take 5 m rest (omega arith), on) refl
    ]
place_on (suc k) p (suc cells) zero promised (kind ∷ rest) (suc m) F z q h =
    let e = get_or-take m rest 0 0 (omega arith) in
    elim (dec_lt (length rest) 1) [
      | yes g ↦ rw (take_all m rest (omega arith)) refl
      | no g ↦
          elim (dec_lt 200 (promised + get_or rest 0 0)) [
            | yes o ↦ rw (leb-take 1 m rest (omega arith), le-leb 1 (length rest) (omega arith), e, lt-ltb 200 (promised + get_or rest 0 0) o) refl
            | no o ↦
                let on = place_on k (p + 2) cells (get_or rest 0 0) (promised + get_or rest 0 0) (drop 1 rest) (m - 1) (with_cell promised (get_or rest 0 0) F) z (omega arith) (omega arith) in
                rw (leb-take 1 m rest (omega arith), le-leb 1 (length rest) (omega arith), e, drop-take 1 m rest, on) refl
          ]
    ]
place_on (suc k) p zero zero promised (kind ∷ rest) (suc m) F z q h = rw (none-take m rest (omega arith)) refl

place_fuel : (j k p cells due promised : ℕ) (bytes : List ℕ) (F : Field) (z : Sizes) → length bytes ≤ j → length bytes ≤ k
    → read_on_at 200 j p cells due promised bytes F z ≡ read_on_at 200 k p cells due promised bytes F z
unfolding read_on_at
place_fuel zero zero p cells due promised [] F z h g = refl
place_fuel zero (suc k) p cells due promised [] F z h g = refl
place_fuel zero k p cells due promised (kind ∷ rest) F z h g = absurd (omega arith)
place_fuel (suc j) zero p cells due promised [] F z h g = refl
place_fuel (suc j) (suc k) p cells due promised [] F z h g = refl
place_fuel (suc j) zero p cells due promised (kind ∷ rest) F z h g = absurd (omega arith)
place_fuel (suc j) (suc k) p cells (suc due) promised (kind ∷ rest) F z h g =
    rw (place_fuel j k (p + 6) cells due promised (drop 5 rest) _ z (omega (arith, length-drop 5 rest)) (omega (arith, length-drop 5 rest)))
place_fuel (suc j) (suc k) p (suc cells) zero promised (kind ∷ rest) F z h g =
    rw (place_fuel j k (p + 2) cells (get_or rest 0 0) (promised + get_or rest 0 0) (drop 1 rest) _ z (omega (arith, length-drop 1 rest)) (omega (arith, length-drop 1 rest)))
place_fuel (suc j) (suc k) p zero zero promised (kind ∷ rest) F z h g = refl

-- the first 3,261 bytes decide where a file is refused, too
pub first_bytes_place : (bytes : List ℕ) (m : ℕ) → 3261 ≤ m → read_file_at 1024 200 (take m bytes) ≡ read_file_at 1024 200 bytes
unfolding read_file_at when◌then◌else◌
first_bytes_place bytes zero h = absurd (omega arith)
first_bytes_place [] (suc m) h = refl
first_bytes_place (kind ∷ rest) (suc m) h =
    let cells = word rest 0 * word rest 2 in
    let F = empty_field (word rest 0) (word rest 2) in
    let z : Sizes = record { border = word rest 4; least = word rest 6; merge = word rest 8 } in
    let w = word-take m 0 rest (omega arith) in
    let x = word-take m 2 rest (omega arith) in
    let a = word-take m 4 rest (omega arith) in
    let b = word-take m 6 rest (omega arith) in
    let c = word-take m 8 rest (omega arith) in
    let n = leb-take 10 m rest (omega arith) in
    elim (dec_lt (length rest) 10) [
      | yes g ↦ rw (take_all m rest (omega arith)) refl
      | no g ↦
          elim (dec_lt 1024 cells) [
            | yes o ↦ rw (n, le-leb 10 (length rest) (omega arith), w, x, lt-ltb 1024 cells o) refl
            | no o ↦
                let fuel = place_fuel (length (take m rest)) (length rest) 11 cells 0 0 (drop 10 (take m rest)) F z (omega (arith, length-drop 10 (take m rest))) (omega (arith, length-drop 10 (take m rest), length-take m rest)) in
                let on = place_on (length rest) 11 cells 0 0 (drop 10 rest) (m - 10) F z (omega arith) (omega arith) in
                rw (n, le-leb 10 (length rest) (omega arith), w, x, a, b, c, fuel, drop-take 10 m rest, on) refl
          ]
    ]
