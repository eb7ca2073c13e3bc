-- What an edge test and a walk are lent: neighbours, and connections that go with them. No area is read, so the ids stand where a net has its areas.
use Rattle.std.specs.Prelude.{ℕ, zero, suc, ◌+◌, ◌%◌, ◌<◌, ◌≡◌, List, ltb, Option, Some, None}
use Rattle.rules.specs.Base.{when◌then◌else◌}
use Rattle.rules.specs.Field.{none}
use Rattle.rules.specs.Net.{Net, spans, near}
use Rattle.rules.specs.Contour.{solid}
use Rattle.net.specs.Table.{net_at, Lent}

-- a neighbour's neighbour the other way is the span itself
pub record Mutual (N : Net) : Type 0 where
  pub back : (s d : ℕ) → s < spans N → d < 4 → (near N s d ≡ none → ⊥) → near N (near N s d) ((d + 2) % 4) ≡ s

-- the ways of a walk
pub record Ways (table : ℕ) (con ids ws : List ℕ) : Type 0 where
  pub lent : Lent table ids con ws
  pub answers : Mutual (net_at table ids ws)

-- the first solid direction of the n from d on
unfoldable pub first_from : Net → List ℕ → ℕ → ℕ → ℕ → ℕ
first_from N ids s zero d = 4
first_from N ids s (suc n) d = let rest = first_from N ids s n (d + 1) in when solid N ids s d then d else rest

-- the direction of the rules' number, or none where that is 4
unfoldable pub edge_of : ℕ → Option ℕ
edge_of k = when ltb k 4 then Some k else None
