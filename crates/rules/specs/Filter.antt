-- The filter.
use Rattle.std.specs.Prelude.{ℕ, zero, suc, ◌+◌, true, not, List, [], ◌∷◌, ◌++◌, length, set, ltb, eqb}
use Rattle.rules.specs.Base.{◌and◌, ◌or◌, when◌then◌else◌, upto, any}
use Rattle.rules.specs.Growth.{flagged}
use Rattle.rules.specs.Records.{Rec, at}

unfoldable pub seen : Rec → Rec
seen r = record { id = r.id; count = r.count; area = r.area; visited = true; overlap = r.overlap; list = r.list; floors = r.floors; cut = r.cut }

-- "gets id 0 and count 0"
unfoldable pub removed : Rec → Rec
removed r = record { id = 0; count = 0; area = r.area; visited = r.visited; overlap = r.overlap; list = r.list; floors = r.floors; cut = r.cut }

-- a group under way
pub record Gather : Type 0 where
  pub todo : List ℕ
  pub recs : List Rec
  pub found : List ℕ

-- a neighbour list is gone through: live records not yet visited are visited and wait their turn, last in, first out
unfoldable pub reach : List ℕ → Gather → Gather
reach [] g = g
reach (r ∷ rs) g =
    let q = at g.recs r in
    reach rs (when flagged r or q.visited or eqb q.id 0 then g
    else record { todo = q.id ∷ g.todo; recs = set g.recs r (seen q); found = g.found })

-- "gather the unvisited records that can be reached through neighbour lists; all gathered are then visited. These are one-way.":
-- the first number is fuel, which never ends it (`gather_ends`)
unfoldable pub gather : ℕ → List ℕ → List Rec → List ℕ → Gather
gather zero todo rs found = record { todo = todo; recs = rs; found = found }
gather (suc k) [] rs found = record { todo = []; recs = rs; found = found }
gather (suc k) (i ∷ is) rs found =
    let g = reach (at rs i).list (record { todo = is; recs = rs; found = found ++ (i ∷ []) }) in
    gather k g.todo g.recs g.found

unfoldable pub total : List Rec → List ℕ → ℕ
total rs [] = 0
total rs (i ∷ is) = (at rs i).count + total rs is

unfoldable pub remove_all : List ℕ → List Rec → List Rec
remove_all [] rs = rs
remove_all (i ∷ is) rs = remove_all is (set rs i (removed (at rs i)))

-- "A group under the least area that lists no flagged id gets id 0 and count 0."
unfoldable pub filter_one : ℕ → ℕ → List Rec → List Rec
filter_one least i rs =
    let r = at rs i in
    let g = gather (suc (length rs)) (i ∷ []) (set rs i (seen r)) [] in
    when eqb r.id 0 or eqb r.count 0 or r.visited then rs else
    when ltb (total rs g.found) least and not (any (λ j. any flagged (at rs j).list) g.found)
    then remove_all g.found g.recs else g.recs

-- "from each unvisited nonempty record in order"
unfoldable pub filtered : ℕ → List Rec → List Rec
filtered least rs = upto (length rs) (filter_one least) rs
