-- Runs of equal entries, gone through once: the removal of adjacent duplicates without its going back (`tidy_is` says that it is the rule's).
-- Of each run its last entry stays; the last and the first of the list are not compared.
use Rattle.std.specs.Prelude.{ℕ, Bool, false, List, [], ◌∷◌, eqb}
use Rattle.rules.specs.Base.{when◌then◌else◌}

-- x is the list's first entry
abbrev pub starts : List ℕ → ℕ → Bool
starts [] x = false
starts (y ∷ l) x = eqb x y

unfoldable pub squeeze : List ℕ → List ℕ
squeeze [] = []
squeeze (x ∷ l) = when starts l x then squeeze l else x ∷ squeeze l
