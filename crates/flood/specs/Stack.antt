-- The flood over sections of one workspace: source distances from 0 on, the flood's stack from `stack` on, and past it the table of neighbours.
use Rattle.std.specs.Prelude.{ℕ, ◌+◌, ◌≤◌, ◌<◌, ◌≡◌, ◌⊎◌, List, length, get_or, take, eqb}
use Rattle.rules.specs.Growth.{Marks, Flow}
use Rattle.space.specs.Space.{ind, tally, stack_at}
use Rattle.net.specs.declared.Sections.{Sections}
use Rattle.flood.specs.declared.flow.Height.{Height}

-- ids and source distances as lent, n of each
abbrev pub marks_at : ℕ → List ℕ → List ℕ → Marks
marks_at n ids ws = record { ids = ids; src = take n ws }

-- a flood under way, so high on its stack
unfoldable pub flow_at : ℕ → ℕ → List ℕ → List ℕ → Height → Flow
flow_at n stack ids ws h = record { todo = stack_at ws stack h.top; marks = marks_at n ids ws; count = h.count }

-- the lists that a flood of n spans is lent, and its stack between the source distances and the table
pub record Placed (n : ℕ) (at : Sections) (dist ids : List ℕ) : Type 0 where
  pub dists : length dist ≡ n
  pub idents : length ids ≡ n
  pub low : n ≤ at.stack
  pub apart : at.stack + n ≤ at.table

-- what holds between visits: each counted and each stacked span has the id, and no other has it; none is stacked twice, nor without the id
pub record Good (n id : ℕ) (g : Flow) : Type 0 where
  pub sized : length g.marks.ids ≡ n
  pub held : g.count + length g.todo ≡ tally id g.marks.ids
  pub once : (x : ℕ) → tally x g.todo ≤ ind (eqb (get_or g.marks.ids x 0) id)

-- past its entries the stack's section holds zeros
pub record Blank (n stack top : ℕ) (ws : List ℕ) : Type 0 where
  pub zeros : (i : ℕ) → stack + top ≤ i → i < stack + n → get_or ws i 0 ≡ 0

-- a flood between two visits
pub record Flooding (n stack id : ℕ) (ids ws : List ℕ) (h : Height) : Type 0 where
  pub good : Good n id (flow_at n stack ids ws h)
  pub blank : Blank n stack h.top ws

-- outside of the two sections all is as it was
pub record Kept (n stack : ℕ) (ws ws' : List ℕ) : Type 0 where
  pub size : length ws' ≡ length ws
  pub same : (i : ℕ) → n ≤ i → (i < stack) ⊎ (stack + n ≤ i) → get_or ws' i 0 ≡ get_or ws i 0

-- what pushes leave: the stack, now r high, has room, and nothing else of the workspace changed but source distances
pub record Pushed (n stack id top : ℕ) (ws : List ℕ) (r : ℕ) (ids' ws' : List ℕ) : Type 0 where
  pub high : r ≤ tally id ids'
  pub kept : Kept n stack ws ws'
  pub blank : Blank n stack top ws → Blank n stack r ws'

-- an id that no span has, and a seed with no id
pub record Begins (id from : ℕ) (ids : List ℕ) : Type 0 where
  pub some : 0 < id
  pub unused : tally id ids ≡ 0
  pub within : from < length ids
  pub empty : get_or ids from 0 ≡ 0
