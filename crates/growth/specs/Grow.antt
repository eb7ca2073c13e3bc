-- Growth from the painting on.
use Rattle.std.specs.Prelude.{ℕ, ◌+◌, ◌*◌, ◌/◌, ◌≤◌, ◌<◌, ◌≡◌, List, [], length, get_or, replicate}
use Rattle.rules.specs.Field.{Field, spans}
use Rattle.rules.specs.Base.{when◌then◌else◌, upto}
use Rattle.rules.specs.Net.{Net, net_of}
use Rattle.rules.specs.Growth.{expand, expand_strays, or_else, blank, Turn, turn, turns_stop, grown, stops}
use Rattle.rules.specs.Reasons.{Story, begins, expand_tells, turns_tell}
use Rattle.space.specs.Space.{Clear}
use Rattle.field.specs.Lent.{Sound, lent}
use Rattle.net.specs.Table.{net_at, last_place}
use Rattle.flood.specs.Stack.{marks_at}
use Rattle.growth.specs.Turns.{turns_of}

-- "Level starts at max_distance rounded up to even": the number of turns
abbrev pub turns_for : ℕ → ℕ
turns_for most = (most + 1) / 2

-- what stops the turns and the last expansion
unfoldable pub stops_of : Net → List ℕ → List ℕ → ℕ → Turn → ℕ
stops_of N areas dist count start =
    let t = upto count (turn N dist (2 * count)) start in
    or_else (turns_stop N dist (2 * count) count start) (when expand_strays N 0 t.marks (blank areas t.marks.ids) then 13 else 0)

-- what the turns and the last expansion do to the watched span
unfoldable pub tells_of : Net → List ℕ → List ℕ → ℕ → Turn → Story → Story
tells_of N areas dist count start y =
    let t = upto count (turn N dist (2 * count)) start in
    expand_tells N 0 t.marks (blank areas t.marks.ids) (turns_tell N dist (2 * count) count start y)

-- what the turns and the last expansion leave, where nothing stops them: the rule's marks, and the level stacks zeroed; past them all is as it was
pub record Grew (area dist : List ℕ) (table most next : ℕ) (ids ws : List ℕ) (next' stop : ℕ) (ids' ws' : List ℕ) : Type 0 where
  pub past : (x : ℕ) → 9 * length area ≤ x → get_or ws' x 0 ≡ get_or ws x 0
  pub stops : stop ≡ stops_of (net_at table area ws) area dist (turns_for most) (record { marks = marks_at (length area) ids ws; stacks = []; next = next })
  pub stacks : stop ≡ 0 → Clear (length area) (9 * length area) ws'
  pub marks : stop ≡ 0 → let t = turns_of (net_at table area ws) dist (turns_for most) (length area) ids ws next (turns_for most) in
      marks_at (length area) ids' ws' ≡ (expand (net_at table area ws) 0 t.marks (blank area t.marks.ids)).marks
  pub id : stop ≡ 0 → next' ≡ (turns_of (net_at table area ws) dist (turns_for most) (length area) ids ws next (turns_for most)).next

-- what growth takes of the workspace before the table, of n spans: the source distances, the eight level stacks, the changes, the flood's stack
abbrev pub growth_room : ℕ → ℕ
growth_room n = 13 * n

-- before growth: a field that is not refused, ids all 0, and zeros where growth works
pub record Poised (w h : ℕ) (index count area con : List ℕ) (table : ℕ) (ids ws : List ℕ) : Type 0 where
  pub sound : Sound (lent w h index count area con)
  pub past : growth_room (length area) ≤ table
  pub close : table ≤ last_place
  pub room : table + 4 * length area ≤ length ws
  pub none : ids ≡ replicate (length area) 0
  pub clear : Clear 0 (growth_room (length area)) ws

-- what is handed on of growth that came to this next id, stop and story: where nothing stopped it as it is, with the source distances zeroed; where something did next
-- id 0, the story of before, ids 0, and zeros up to the end of the level stacks. Past these all is as it was
pub record Settled (s next stop : ℕ) (y : Story) (ids ws : List ℕ) (next' stop' : ℕ) (y' : Story) (ids' ws' : List ℕ) : Type 0 where
  pub same : stop' ≡ stop
  pub past : (x : ℕ) → 9 * length ids ≤ x → get_or ws' x 0 ≡ get_or ws x 0
  pub sources : Clear 0 (length ids) ws'
  pub id : stop ≡ 0 → next' ≡ next
  pub told : stop ≡ 0 → y' ≡ y
  pub kept : stop ≡ 0 → ids' ≡ ids
  pub stacks : stop ≡ 0 → (x : ℕ) → length ids ≤ x → get_or ws' x 0 ≡ get_or ws x 0
  pub no_id : (stop ≡ 0 → ⊥) → next' ≡ 0
  pub untold : (stop ≡ 0 → ⊥) → y' ≡ begins s
  pub no_ids : (stop ≡ 0 → ⊥) → ids' ≡ replicate (length ids) 0
  pub no_stacks : (stop ≡ 0 → ⊥) → Clear 0 (9 * length ids) ws'

-- after growth, where nothing stops it: the rule's ids and next id, zeros where it worked, and the field's net in the table; past the table all is as it was
pub record Full (F : Field) (dist : List ℕ) (most border table : ℕ) (ws : List ℕ) (next stop : ℕ) (ids' ws' : List ℕ) : Type 0 where
  pub after : (x : ℕ) → table + 4 * spans F ≤ x → get_or ws' x 0 ≡ get_or ws x 0
  pub stops : stop ≡ stops F dist most border
  pub ids : stop ≡ 0 → ids' ≡ (grown F dist most border).ids
  pub id : stop ≡ 0 → next ≡ (grown F dist most border).next
  pub clear : stop ≡ 0 → Clear 0 (growth_room (spans F)) ws'
  pub net : stop ≡ 0 → net_at table F.area ws' ≡ net_of F

-- the whole of it: where nothing stops it the rule's ids and next id, where something does ids 0 and next id 0; in either case zeros where it worked and the field's net in
-- the table, and all else is as it was
pub record Whole (F : Field) (dist : List ℕ) (most border table : ℕ) (ws : List ℕ) (next stop : ℕ) (ids' ws' : List ℕ) : Type 0 where
  pub after : (x : ℕ) → table + 4 * spans F ≤ x → get_or ws' x 0 ≡ get_or ws x 0
  pub between : (x : ℕ) → growth_room (spans F) ≤ x → x < table → get_or ws' x 0 ≡ get_or ws x 0
  pub stops : stop ≡ stops F dist most border
  pub ids : stop ≡ 0 → ids' ≡ (grown F dist most border).ids
  pub id : stop ≡ 0 → next ≡ (grown F dist most border).next
  pub no_ids : (stop ≡ 0 → ⊥) → ids' ≡ replicate (spans F) 0
  pub no_id : (stop ≡ 0 → ⊥) → next ≡ 0
  pub clear : Clear 0 (growth_room (spans F)) ws'
  pub net : net_at table F.area ws' ≡ net_of F
