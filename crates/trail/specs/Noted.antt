-- Merges as they are noted: two numbers each, the id that was absorbed and the id that absorbed it.
use Rattle.std.specs.Prelude.{ℕ, zero, suc, ◌+◌, List, [], ◌∷◌, get_or}
use Rattle.rules.specs.Reasons.{Merging}

-- the k merges from b on
unfoldable pub mergings_from : List ℕ → ℕ → ℕ → List Merging
mergings_from ws b zero = []
mergings_from ws b (suc k) = record { old = get_or ws b 0; new = get_or ws (b + 1) 0 } ∷ mergings_from ws (b + 2) k
