-- Neighbour lists, as the code goes through them.
use Rattle.std.specs.Prelude.{ℕ, zero, suc, Bool, List, [], ◌∷◌, get_or, drop, eqb}
use Rattle.rules.specs.Base.{when◌then◌else◌}
use Rattle.laws.specs.Squeeze.{starts}

-- entry i equals the next one
unfoldable pub again : List ℕ → ℕ → Bool
again l i = starts (drop (suc i) l) (get_or l i 0)

-- an id after old became new
unfoldable pub swap_one : ℕ → ℕ → ℕ → ℕ
swap_one old new r = when eqb r old then new else r

-- the first i entries under f
unfoldable pub map_to : (ℕ → ℕ) → ℕ → List ℕ → List ℕ
map_to f zero l = l
map_to f (suc i) [] = []
map_to f (suc i) (x ∷ l) = f x ∷ map_to f i l
