-- Blocks of cells, which a walk passes at once where no span stands in them.
use Rattle.std.specs.Prelude.{ℕ, ◌+◌, Bool, List, get_or, eqb}
use Rattle.rules.specs.Base.{◌and◌, every}

-- no span stands in the k cells from c on
unfoldable pub empty_to : List ℕ → ℕ → ℕ → Bool
empty_to count c k = every k (λ j. eqb (get_or count (c + j) 0) 0)

-- the k cells from c on are a whole block, and no span stands in it
unfoldable pub empty_block : List ℕ → ℕ → ℕ → Bool
empty_block count c k = eqb k 16 and empty_to count c 16
