-- A room that is being filled, over a lent workspace: the spans that wait from its first number on, the table of neighbours further on.
use Rattle.std.specs.Prelude.{ℕ, ◌+◌, ◌*◌, ◌≤◌, ◌<◌, ◌≡◌, List, length, get_or}
use Rattle.rules.specs.Plain.{Fill, Rooms}
use Rattle.laws.proofs.Basics.{All}
use Rattle.space.specs.Space.{tally, stack_at}
use Rattle.net.specs.Table.{net_at, last_place, Closed}

-- the table holds the net of few spans, past the n numbers of the stack
pub record Held (table : ℕ) (area ws : List ℕ) : Type 0 where
  pub closed : Closed (net_at table area ws)
  pub room : table + 4 * length area ≤ length ws
  pub place : table ≤ last_place
  pub past : length area ≤ table

-- the room as it is filled, with so many spans that wait
unfoldable pub fill_at : List ℕ → List ℕ → ℕ → Fill
fill_at ids ws top = record { todo = stack_at ws 0 top; ids = ids }

-- of n spans: those that wait are spans, and there is a place for every one that has no id yet
pub record Filling (n : ℕ) (f : Fill) : Type 0 where
  pub size : length f.ids ≡ n
  pub inside : All (λ c. c < n) f.todo
  pub fits : length f.todo + tally 0 f.ids ≤ n

-- span s is there and has no id
pub record Waits (n : ℕ) (ids : List ℕ) (s : ℕ) : Type 0 where
  pub size : length ids ≡ n
  pub span : s < n
  pub empty : get_or ids s 0 ≡ 0

abbrev pub rooms_at : List ℕ → ℕ → Rooms
rooms_at ids most = record { ids = ids; most = most }
