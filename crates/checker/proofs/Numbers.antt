-- The numbers of the refusals: none is 0, none is above 13, and no two refusals have the same.
-- Assumes nothing.
use Prim.Native.Nat.{ℕ, ◌≤◌, ◌<◌}
use native.Mathlib.Omega.{arith}
use mathlib.Core.Path.{◌≡◌, refl, sym, ap, ◌∙◌}
use mathlib.Core.List.{List, [], ◌∷◌}
use lib.ListN.{get_or}
use Rattle.checker.specs.Answer.{number_of}
use Rattle.checker.specs.declared.Refusal.{Refusal}
use Rattle.checker.specs.declared.Refusal.TheVariants.{TooWide, TooMany, WrongLength, WrongCells, WrongReach, WrongBack, TooShort, TooFar, NoIds, NoSum}

pub number_pos : (r : Refusal) → 0 < number_of r
number_pos TooWide = omega arith
number_pos TooMany = omega arith
number_pos WrongLength = omega arith
number_pos WrongCells = omega arith
number_pos WrongReach = omega arith
number_pos WrongBack = omega arith
number_pos TooShort = omega arith
number_pos TooFar = omega arith
number_pos NoIds = omega arith
number_pos NoSum = omega arith

pub number_low : (r : Refusal) → number_of r ≤ 13
number_low TooWide = omega arith
number_low TooMany = omega arith
number_low WrongLength = omega arith
number_low WrongCells = omega arith
number_low WrongReach = omega arith
number_low WrongBack = omega arith
number_low TooShort = omega arith
number_low TooFar = omega arith
number_low NoIds = omega arith
number_low NoSum = omega arith

-- 11 is the refresh's own
pub number_not_11 : (r : Refusal) → number_of r ≡ 11 → ⊥
number_not_11 TooWide e = omega arith
number_not_11 TooMany e = omega arith
number_not_11 WrongLength e = omega arith
number_not_11 WrongCells e = omega arith
number_not_11 WrongReach e = omega arith
number_not_11 WrongBack e = omega arith
number_not_11 TooShort e = omega arith
number_not_11 TooFar e = omega arith
number_not_11 NoIds e = omega arith
number_not_11 NoSum e = omega arith

-- the table of the refusals, by number
table : List Refusal
table = TooWide ∷ TooWide ∷ TooMany ∷ WrongLength ∷ WrongCells ∷ WrongReach ∷ WrongBack ∷ TooShort ∷ TooFar ∷ TooWide ∷ TooWide ∷ TooWide ∷ NoIds ∷ NoSum ∷ []

at_number : (r : Refusal) → r ≡ get_or table (number_of r) TooWide
unfolding table
at_number TooWide = refl
at_number TooMany = refl
at_number WrongLength = refl
at_number WrongCells = refl
at_number WrongReach = refl
at_number WrongBack = refl
at_number TooShort = refl
at_number TooFar = refl
at_number NoIds = refl
at_number NoSum = refl

pub number_same : (r s : Refusal) → number_of r ≡ number_of s → r ≡ s
number_same r s e = at_number r ∙ ap (λ (n : ℕ). get_or table n TooWide) e ∙ sym (at_number s)
