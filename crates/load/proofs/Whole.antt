-- For the program's limits the whole file's reading is document 01's: `read_file_at` is `read_file` with the place beside it.
-- Record by record both ask the same, only that a kind out of place is told from a body cut short.
use Prim.Native.Nat.{ℕ, zero, suc, ◌+◌, ◌*◌}
use mathlib.Core.Path.{◌≡◌, refl}
use mathlib.Core.Bool.{Bool, true, false}
use mathlib.Core.List.{List, [], ◌∷◌}
use lib.ListN.{length, get_or, take, drop}
use lib.Dec.{leb, ltb, eqb}
use Rattle.rules.specs.Base.{◌and◌, when◌then◌else◌}
use Rattle.rules.specs.Field.{Field}
use Rattle.rules.specs.Outcomes.{Sizes}
use Rattle.rules.specs.File.{Reading, refused, word, with_cell, with_span, read_on, read_file, empty_field}
use Rattle.rules.specs.Load.{Placed, read_on_at, read_file_at, reading_by}

-- two tests one after the other, where both failures read the same
two_tests : (a b : Bool) (x y z : Placed) (u : Reading) (n : ℕ) → reading_by x ≡ u → reading_by y ≡ refused n → reading_by z ≡ refused n
    → reading_by (when a then (when b then x else y) else z) ≡ (when a and b then u else refused n)
unfolding when◌then◌else◌ ◌and◌
two_tests true true x y z u n e f g = e
two_tests true false x y z u n e f g = f
two_tests false b x y z u n e f g = g

one_test : (a : Bool) (x y : Placed) (u v : Reading) → reading_by x ≡ u → reading_by y ≡ v → reading_by (when a then x else y) ≡ (when a then u else v)
unfolding when◌then◌else◌
one_test true x y u v e f = e
one_test false x y u v e f = f

records : (k p cells due promised : ℕ) (bytes : List ℕ) (F : Field) (z : Sizes) → reading_by (read_on_at 200 k p cells due promised bytes F z) ≡ read_on k cells due promised bytes F z
unfolding read_on_at read_on reading_by
records zero p cells due promised bytes F z = refl
records (suc k) p cells due promised [] F z = refl
records (suc k) p cells (suc due) promised (kind ∷ rest) F z =
    two_tests (eqb kind 3) (leb 5 (length rest)) _ _ _ _ 20 (records k (p + 6) cells due promised (drop 5 rest) (with_span (take 5 rest) F) z) refl refl
records (suc k) p (suc cells) zero promised (kind ∷ rest) F z =
    let c = get_or rest 0 0 in
    two_tests (eqb kind 2) (leb 1 (length rest)) _ _ _ _ 20
    (one_test (ltb 200 (promised + c)) _ _ _ _ refl (records k (p + 2) cells c (promised + c) (drop 1 rest) (with_cell promised c F) z)) refl refl
records (suc k) p zero zero promised (kind ∷ rest) F z = two_tests (eqb kind 4) (eqb (length rest) 0) _ _ _ _ 20 refl refl refl

pub place-left_out : (bytes : List ℕ) → reading_by (read_file_at 1024 200 bytes) ≡ read_file bytes
unfolding read_file_at read_file reading_by
place-left_out [] = refl
place-left_out (kind ∷ rest) =
    let w = word rest 0 in
    let h = word rest 2 in
    two_tests (eqb kind 1) (leb 10 (length rest)) _ _ _ _ 20
    (one_test (ltb 1024 (w * h)) _ _ _ _ refl (records (length rest) 11 (w * h) 0 0 (drop 10 rest) (empty_field w h) (record { border = word rest 4; least = word rest 6; merge = word rest 8 }))) refl refl
