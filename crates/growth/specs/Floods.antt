-- Floods from the entries of a stack.
use Rattle.std.specs.Prelude.{ℕ, suc, ◌+◌, ◌≤◌, ◌<◌, ◌≡◌, false, not, List, length, get_or, drop, eqb}
use Rattle.rules.specs.Base.{◌and◌, when◌then◌else◌}
use Rattle.rules.specs.Field.{none}
use Rattle.rules.specs.Net.{Net}
use Rattle.rules.specs.Growth.{Marks, id_of, flood, floods, floods_run_out, Ids}
use Rattle.rules.specs.Reasons.{Story, flood_tells}
use Rattle.net.specs.Table.{last_place}
use Rattle.flood.specs.Stack.{marks_at}
use Rattle.expand.specs.Layout.{Entries}

-- rule 4 for one entry
unfoldable pub flood_one : Net → List ℕ → ℕ → ℕ → Marks → ℕ → Ids
flood_one N dist level e m id =
    let f = flood N dist level id m e in
    when not (eqb e none) and eqb (id_of m e) 0
    then record { marks = f.marks; next = when eqb f.count 0 then id else suc id }
    else record { marks = m; next = id }

-- what it does to the watched span
unfoldable pub one_tells : Net → List ℕ → ℕ → ℕ → Marks → ℕ → Story → Story
one_tells N dist level e m id y = when not (eqb e none) and eqb (id_of m e) 0 then flood_tells N dist level id m e y else y

-- the ids that floods have given are below the next, which is not flagged; the others are flagged
pub record IdsBelowNext (n next : ℕ) (ids : List ℕ) : Type 0 where
  pub size : length ids ≡ n
  pub some : 0 < next
  pub plain : next < 0x8000
  pub below : (x : ℕ) → get_or ids x 0 < 0x8000 → get_or ids x 0 < next

-- what floods from entries leave: the rule's marks and next id, unless ids run out, when it is 0x8000
pub record FloodedFrom (N : Net) (dist : List ℕ) (level : ℕ) (entries : List ℕ) (n next : ℕ) (ids ws : List ℕ) (r : ℕ) (ids' ws' : List ℕ) : Type 0 where
  pub out : eqb r 0x8000 ≡ floods_run_out N dist level entries (marks_at n ids ws) next
  pub past : drop n ws' ≡ drop n ws
  pub same : floods_run_out N dist level entries (marks_at n ids ws) next ≡ false
      → record { marks = marks_at n ids' ws'; next = r } ≡ floods N dist level entries (marks_at n ids ws) next
  pub below : floods_run_out N dist level entries (marks_at n ids ws) next ≡ false → IdsBelowNext n r ids'

-- a stack past the n source distances: its entries are spans, or used
pub record EntriesAt (n a fill : ℕ) (ws : List ℕ) : Type 0 where
  pub entries : Entries n a fill ws
  pub past : n ≤ a
  pub room : a + fill ≤ length ws
  pub close : a ≤ last_place
