-- The file reader's fuel is never seen: any that is no less than the bytes to come gives the same reading.
-- A record takes one byte at least, its kind, and with no bytes left the reading is over.
use Prim.Native.Nat.{ℕ, zero, suc, ◌+◌, ◌≤◌}
use native.Mathlib.Omega.{arith}
use mathlib.Core.Path.{◌≡◌, refl}
use mathlib.Core.List.{List, [], ◌∷◌}
use lib.ListN.{length, get_or, drop, length-drop}
use Rattle.rules.specs.Field.{Field}
use Rattle.rules.specs.Outcomes.{Sizes}
use Rattle.rules.specs.File.{read_on}

none_left : (j k cells due promised : ℕ) (F : Field) (z : Sizes) → read_on j cells due promised [] F z ≡ read_on k cells due promised [] F z
unfolding read_on
none_left zero zero cells due promised F z = refl
none_left zero (suc k) cells due promised F z = refl
none_left (suc j) zero cells due promised F z = refl
none_left (suc j) (suc k) cells due promised F z = refl

pub reading_fuel : (j k cells due promised : ℕ) (bytes : List ℕ) (F : Field) (z : Sizes) → length bytes ≤ j → length bytes ≤ k
    → read_on j cells due promised bytes F z ≡ read_on k cells due promised bytes F z
unfolding read_on
reading_fuel zero k cells due promised [] F z h g = none_left zero k cells due promised F z
reading_fuel zero k cells due promised (kind ∷ rest) F z h g = absurd (omega arith)
reading_fuel (suc j) k cells due promised [] F z h g = none_left (suc j) k cells due promised F z
reading_fuel (suc j) zero cells due promised (kind ∷ rest) F z h g = absurd (omega arith)
reading_fuel (suc j) (suc k) cells (suc due) promised (kind ∷ rest) F z h g =
    let a : length (drop 5 rest) ≤ j = omega (arith, length-drop 5 rest) in
    let b : length (drop 5 rest) ≤ k = omega (arith, length-drop 5 rest) in
    rw (reading_fuel j k cells due promised (drop 5 rest) _ z a b)
reading_fuel (suc j) (suc k) (suc cells) zero promised (kind ∷ rest) F z h g =
    let a : length (drop 1 rest) ≤ j = omega (arith, length-drop 1 rest) in
    let b : length (drop 1 rest) ≤ k = omega (arith, length-drop 1 rest) in
    rw (reading_fuel j k cells (get_or rest 0 0) (promised + get_or rest 0 0) (drop 1 rest) _ z a b)
reading_fuel (suc j) (suc k) zero zero promised (kind ∷ rest) F z h g = refl

-- after a header, with the fuel of the rule
pub file_fuel : (k cells : ℕ) (rest : List ℕ) (F : Field) (z : Sizes) → length (drop 10 rest) ≤ k
    → read_on k cells 0 0 (drop 10 rest) F z ≡ read_on (length rest) cells 0 0 (drop 10 rest) F z
file_fuel k cells rest F z h = reading_fuel k (length rest) cells 0 0 (drop 10 rest) F z h (omega (arith, length-drop 10 rest))
