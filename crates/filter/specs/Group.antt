-- The filter, as the code goes through it. A group under way lies in the two spare columns: who waits, last in last, and who is found.
use Rattle.std.specs.Prelude.{ℕ, suc, ◌+◌, ◌-◌, ◌*◌, ◌≤◌, ◌<◌, ◌≡◌, Bool, not, List, [], ◌∷◌, ◌++◌, length, get_or, set, eqb, ltb}
use Rattle.rules.specs.Base.{◌and◌, ◌or◌, when◌then◌else◌, any}
use Rattle.rules.specs.Growth.{flagged}
use Rattle.rules.specs.Records.{Rec, at}
use Rattle.rules.specs.Filter.{seen, Gather, gather, total, remove_all}
use Rattle.rules.specs.Reasons.{group_count}
use Rattle.laws.proofs.FilterEnds.{ahead}
use Rattle.space.specs.Space.{stack_at}
use Rattle.table.specs.Map.{spare_at}
use Rattle.table.specs.View.{part, recs_of, RecordsIn}

-- the first of the spare columns
abbrev pub waiting_at : ℕ → ℕ
waiting_at m = spare_at m

-- the second
abbrev pub found_at : ℕ → ℕ
found_at m = 6 * m

-- the f found
abbrev pub found_in : List ℕ → ℕ → ℕ → List ℕ
found_in ws m f = part (found_at m) (found_at m + f) ws

-- one entry of a neighbour list
unfoldable pub reach_one : ℕ → Gather → Gather
reach_one r g =
    let q = at g.recs r in
    when flagged r or q.visited or eqb q.id 0 then g
    else record { todo = q.id ∷ g.todo; recs = set g.recs r (seen q); found = g.found }

unfoldable pub group_at : List ℕ → ℕ → ℕ → ℕ → Gather
group_at ws m top f = record { todo = stack_at ws (waiting_at m) top; recs = recs_of ws m; found = found_in ws m f }

-- those that wait are records, and there is room for those not visited
pub record Waiting (m top : ℕ) (ws : List ℕ) : Type 0 where
  pub held : RecordsIn m ws
  pub fits : top ≤ m
  pub room : ahead (stack_at ws (waiting_at m) top) (recs_of ws m) ≤ m
  pub waits : (x : ℕ) → x < top → get_or ws (waiting_at m + x) 0 < m
  pub blank : (x : ℕ) → top ≤ x → x < m → get_or ws (waiting_at m + x) 0 ≡ 0

pub record Found (m f : ℕ) (ws : List ℕ) : Type 0 where
  pub found : (x : ℕ) → x < f → get_or ws (found_at m + x) 0 < m
  pub blank : (x : ℕ) → f ≤ x → x < m → get_or ws (found_at m + x) 0 ≡ 0

-- records that can be read, f of them found
abbrev pub Gathered : ℕ → ℕ → List ℕ → Type 0
Gathered m f ws = RecordsIn m ws × Found m f ws × (f ≤ m)

-- before and after each group
pub record Calm (m : ℕ) (ws : List ℕ) : Type 0 where
  pub held : RecordsIn m ws
  pub blank : (x : ℕ) → x < 2 * m → get_or ws (spare_at m + x) 0 ≡ 0

-- the first that waits is found
pub record Popped (m top f r : ℕ) (ws ws' : List ℕ) : Type 0 where
  pub waited : stack_at ws (waiting_at m) top ≡ r ∷ stack_at ws' (waiting_at m) (top - 1)
  pub recs : recs_of ws' m ≡ recs_of ws m
  pub found : found_in ws' m (f + 1) ≡ found_in ws m f ++ (r ∷ [])

unfoldable pub lists_flagged : List ℕ → Bool
lists_flagged l = any flagged l

unfoldable pub any_flagged : List Rec → List ℕ → Bool
any_flagged rs l = any (λ j. any flagged (at rs j).list) l

-- "A group under the least area that lists no flagged id"
unfoldable pub small : ℕ → List Rec → List ℕ → Bool
small least rs l = ltb (total rs l) least and not (any_flagged rs l)

-- "gets id 0 and count 0"
unfoldable pub remove_small : ℕ → List Rec → List ℕ → List Rec
remove_small least rs l = when small least rs l then remove_all l rs else rs

-- the group of record i, gathered and judged
unfoldable pub filter_group : ℕ → ℕ → List Rec → List Rec
filter_group least i rs =
    let g = gather (suc (length rs)) (i ∷ []) (set rs i (seen (at rs i))) [] in
    when small least rs g.found then remove_all g.found g.recs else g.recs

-- the count of the group that record i begins, 0 where it begins none
unfoldable pub turn_count : ℕ → List Rec → ℕ
turn_count i rs = when eqb (at rs i).id 0 or eqb (at rs i).count 0 or (at rs i).visited then 0 else group_count i rs
