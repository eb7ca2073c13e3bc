-- One turn over the level stacks at n .. 9n of the workspace.
use Rattle.std.specs.Prelude.{ℕ, ◌+◌, ◌*◌, ◌%◌, ◌≤◌, ◌<◌, ◌≡◌, false, List, [], length, get_or, set, take, eqb}
use Rattle.rules.specs.Base.{when◌then◌else◌, upto}
use Rattle.rules.specs.Net.{Net}
use Rattle.rules.specs.Growth.{sorted, remains, Turn, loaded, expand, expand_strays, floods, floods_run_out, turn, turns_stop}
use Rattle.rules.specs.Reasons.{Story, expand_tells, floods_tell}
use Rattle.space.specs.Space.{sec, Clear}
use Rattle.net.specs.declared.Sections.{Sections}
use Rattle.net.specs.Table.{net_at, Mutual, Lent}
use Rattle.levels.specs.Levels.{levels_at, Fills, appended, Stacked}
use Rattle.flood.specs.Stack.{marks_at, Blank}
use Rattle.growth.specs.Floods.{IdsBelowNext}

-- Where the sections of growth lie with n spans: source distances at 0 .. n, the eight level stacks at n .. 9n, changes at 9n .. 12n, the flood's stack at
-- 12n .. 13n, where the expansion has its flags, the table of neighbours past that.
pub record SectionsFor (n : ℕ) (at : Sections) : Type 0 where
  pub changes : at.changes ≡ 9 * n
  pub stack : at.stack ≡ 12 * n
  pub past : 13 * n ≤ at.table

-- the eight stacks
unfoldable pub stacks_at : ℕ → List ℕ → List ℕ → List (List ℕ)
stacks_at n ws fills = levels_at (sec n (8 * n) ws) n fills

-- the stack of turn number j, as entries
abbrev pub stack_of : ℕ → List ℕ → ℕ → List ℕ → List ℕ
stack_of n fills j ws = sec (n + j * n) (get_or fills j 0) ws

-- the turn's number after turn number j
abbrev pub after : ℕ → ℕ
after j = (j + 1) % 8

-- the stacks that turn number j left, unless they are thrown away
pub record Left (n : ℕ) (fills : List ℕ) (j : ℕ) (ws : List ℕ) : Type 0 where
  pub fits : (after j ≡ 0 → ⊥) → Fills n fills
  pub stacked : (after j ≡ 0 → ⊥) → Stacked n (stacks_at n ws fills) j

-- what loading the stacks of the next turn leaves: sorted anew at number 0, at another with what remains of the stack before
pub record Loaded (area dist ids : List ℕ) (level : ℕ) (fills : List ℕ) (j : ℕ) (ws fills' : List ℕ) (j' : ℕ) (ws' : List ℕ) : Type 0 where
  pub turn : j' ≡ after j
  pub first : after j ≡ 0 → stacks_at (length area) ws' fills' ≡ sorted area dist ids level
  pub later : (after j ≡ 0 → ⊥)
      → stacks_at (length area) ws' fills' ≡ appended (after j) (remains ids (get_or (stacks_at (length area) ws fills) j [])) (stacks_at (length area) ws fills)
  pub fits : Fills (length area) fills'
  pub stacked : Stacked (length area) (stacks_at (length area) ws' fills') (after j)
  pub marks : take (length area) ws' ≡ take (length area) ws
  pub past : (x : ℕ) → 9 * length area ≤ x → get_or ws' x 0 ≡ get_or ws x 0

-- a turn at a level, with its number
unfoldable pub turn_at : Net → List ℕ → ℕ → ℕ → Turn → Turn
turn_at N dist level j t =
    let stacks = loaded N dist level j t in
    let e = expand N level t.marks (get_or stacks j []) in
    let r = floods N dist level e.stack e.marks t.next in
    record { marks = r.marks; stacks = set stacks j e.stack; next = r.next }

-- what is there between turns; the last had number j
pub record Between (area con : List ℕ) (at : Sections) (next : ℕ) (fills : List ℕ) (j : ℕ) (ids ws : List ℕ) : Type 0 where
  pub lent : Lent at.table area con ws
  pub both_ways : Mutual (net_at at.table area ws)
  pub laid : SectionsFor (length area) at
  pub turn : j < 8
  pub ids_below : IdsBelowNext (length area) next ids
  pub changes : Clear at.changes (at.changes + 3 * length area) ws
  pub stack : Blank (length area) at.stack 0 ws
  pub left : Left (length area) fills j ws

-- the same in turn number j, with its stacks loaded
pub record Ready (area con : List ℕ) (at : Sections) (next : ℕ) (fills : List ℕ) (j : ℕ) (ids ws : List ℕ) : Type 0 where
  pub between : Between area con at next fills j ids ws
  pub fits : Fills (length area) fills
  pub stacked : Stacked (length area) (stacks_at (length area) ws fills) j

-- what the expansion of the turn's stack leaves
pub record Expanded (area con : List ℕ) (at : Sections) (next : ℕ) (fills : List ℕ) (j level : ℕ) (ids ws ids' ws' : List ℕ) : Type 0 where
  pub ready : Ready area con at next fills j ids' ws'
  pub size : length ws' ≡ length ws
  pub past : (x : ℕ) → 9 * length area ≤ x → get_or ws' x 0 ≡ get_or ws x 0
  pub same : record { marks = marks_at (length area) ids' ws'; stack = stack_of (length area) fills j ws' }
      ≡ expand (net_at at.table area ws) level (marks_at (length area) ids ws) (get_or (stacks_at (length area) ws fills) j [])
  pub stacks : stacks_at (length area) ws' fills ≡ set (stacks_at (length area) ws fills) j (stack_of (length area) fills j ws')

-- what the floods from the turn's stack leave: the rule's, unless ids run out
pub record Flooded (area con dist : List ℕ) (at : Sections) (next : ℕ) (fills : List ℕ) (j level : ℕ) (ids ws : List ℕ)
    (r : ℕ) (ids' ws' : List ℕ) : Type 0 where
  pub size : length ws' ≡ length ws
  pub past : (x : ℕ) → length area ≤ x → get_or ws' x 0 ≡ get_or ws x 0
  pub out : eqb r 0x8000 ≡ floods_run_out (net_at at.table area ws) dist level (stack_of (length area) fills j ws) (marks_at (length area) ids ws) next
  pub ready : floods_run_out (net_at at.table area ws) dist level (stack_of (length area) fills j ws) (marks_at (length area) ids ws) next ≡ false
      → Ready area con at r fills j ids' ws'
  pub same : floods_run_out (net_at at.table area ws) dist level (stack_of (length area) fills j ws) (marks_at (length area) ids ws) next ≡ false
      → record { marks = marks_at (length area) ids' ws'; next = r }
      ≡ floods (net_at at.table area ws) dist level (stack_of (length area) fills j ws) (marks_at (length area) ids ws) next
  pub stacks : stacks_at (length area) ws' fills ≡ stacks_at (length area) ws fills

-- the rule's turn is what is there
pub record TurnIs (n next : ℕ) (fills : List ℕ) (j : ℕ) (ids ws : List ℕ) (t : Turn) : Type 0 where
  pub marks : t.marks ≡ marks_at n ids ws
  pub id : t.next ≡ next
  pub stacks : (after j ≡ 0 → ⊥) → t.stacks ≡ stacks_at n ws fills

-- what stops a turn at a level, with its number
unfoldable pub stops_at : Net → List ℕ → ℕ → ℕ → Turn → ℕ
stops_at N dist level j t =
    let entries = get_or (loaded N dist level j t) j [] in
    let e = expand N level t.marks entries in
    when expand_strays N level t.marks entries then 13 else
    when floods_run_out N dist level e.stack e.marks t.next then 12 else 0

-- what a turn at a level, with its number, does to the watched span
unfoldable pub tells_at : Net → List ℕ → ℕ → ℕ → Turn → Story → Story
tells_at N dist level j t y =
    let entries = get_or (loaded N dist level j t) j [] in
    let e = expand N level t.marks entries in
    floods_tell N dist level e.stack e.marks t.next (expand_tells N level t.marks entries y)

-- what a turn leaves where it is not stopped
pub record Went (area con dist : List ℕ) (at : Sections) (next : ℕ) (fills : List ℕ) (j level : ℕ) (ids ws : List ℕ)
    (next' : ℕ) (fills' : List ℕ) (j' : ℕ) (ids' ws' : List ℕ) : Type 0 where
  pub turn : j' ≡ after j
  pub between : Between area con at next' fills' j' ids' ws'
  pub same : (t : Turn) → TurnIs (length area) next fills j ids ws t
      → record { marks = marks_at (length area) ids' ws'; stacks = stacks_at (length area) ws' fills'; next = next' }
      ≡ turn_at (net_at at.table area ws) dist level (after j) t

-- what a turn leaves, with what stops it
pub record Turned (area con dist : List ℕ) (at : Sections) (next : ℕ) (fills : List ℕ) (j level : ℕ) (ids ws : List ℕ)
    (next' stop : ℕ) (fills' : List ℕ) (j' : ℕ) (ids' ws' : List ℕ) : Type 0 where
  pub size : length ws' ≡ length ws
  pub past : (x : ℕ) → 9 * length area ≤ x → get_or ws' x 0 ≡ get_or ws x 0
  pub stops : (t : Turn) → TurnIs (length area) next fills j ids ws t → stop ≡ stops_at (net_at at.table area ws) dist level (after j) t
  pub went : stop ≡ 0 → Went area con dist at next fills j level ids ws next' fills' j' ids' ws'

-- what a turn does to the watched span, where it is not stopped: the story was y, and is y'
pub record TurnTold (area dist : List ℕ) (table next : ℕ) (fills : List ℕ) (j level : ℕ) (ids ws : List ℕ) (stop : ℕ) (y y' : Story) : Type 0 where
  pub told : stop ≡ 0 → (t : Turn) → TurnIs (length area) next fills j ids ws t → y' ≡ tells_at (net_at table area ws) dist level (after j) t y

-- what is there before the first turn, with no stacks
abbrev pub begun : ℕ → List ℕ → List ℕ → ℕ → Turn
begun n ids ws next = record { marks = marks_at n ids ws; stacks = []; next = next }

-- the rule's turns, k of count, from what is there with no stacks
abbrev pub turns_of : Net → List ℕ → ℕ → ℕ → List ℕ → List ℕ → ℕ → ℕ → Turn
turns_of N dist count n ids ws next k = upto k (turn N dist (2 * count)) (record { marks = marks_at n ids ws; stacks = []; next = next })

-- what k turns of count leave
pub record SomeTurns (area con dist : List ℕ) (at : Sections) (count next : ℕ) (ids ws : List ℕ)
    (k next' : ℕ) (fills' : List ℕ) (j' : ℕ) (ids' ws' : List ℕ) : Type 0 where
  pub turn : after j' ≡ k % 8
  pub between : Between area con at next' fills' j' ids' ws'
  pub size : length ws' ≡ length ws
  pub past : (x : ℕ) → 9 * length area ≤ x → get_or ws' x 0 ≡ get_or ws x 0
  pub same : TurnIs (length area) next' fills' j' ids' ws' (turns_of (net_at at.table area ws) dist count (length area) ids ws next k)
  pub goes : turns_stop (net_at at.table area ws) dist (2 * count) k (record { marks = marks_at (length area) ids ws; stacks = []; next = next }) ≡ 0

-- what all turns leave, with what stops them
pub record AllTurns (area dist : List ℕ) (table count next : ℕ) (ids ws : List ℕ) (next' stop : ℕ) (ids' ws' : List ℕ) : Type 0 where
  pub past : (x : ℕ) → 9 * length area ≤ x → get_or ws' x 0 ≡ get_or ws x 0
  pub stops : stop ≡ turns_stop (net_at table area ws) dist (2 * count) count (record { marks = marks_at (length area) ids ws; stacks = []; next = next })
  pub ids_below : stop ≡ 0 → IdsBelowNext (length area) next' ids'
  pub marks : stop ≡ 0 → marks_at (length area) ids' ws' ≡ (turns_of (net_at table area ws) dist count (length area) ids ws next count).marks
  pub id : stop ≡ 0 → next' ≡ (turns_of (net_at table area ws) dist count (length area) ids ws next count).next
