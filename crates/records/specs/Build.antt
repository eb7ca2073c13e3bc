-- The loops over cells and layers.
use Rattle.std.specs.Prelude.{◌≡◌, List, ℕ, ◌+◌, ◌≤◌, ◌<◌, length, get_or, set}
use Rattle.rules.specs.Base.{when◌then◌else◌, upto}
use Rattle.rules.specs.Net.{Net}
use Rattle.rules.specs.Field.{none}
use Rattle.rules.specs.Growth.{plain}
use Rattle.rules.specs.Records.{Rec, at}
use Rattle.net.specs.Table.{net_at}
use Rattle.contour.specs.Ways.{Ways}
use Rattle.table.specs.Map.{records_end}
use Rattle.table.specs.View.{recs_of}
use Rattle.records.specs.Cell.{Within, Lies, as_many_from, Some}
use Rattle.records.specs.Rows.{Keeping, Known, celled, contoured}
use Rattle.records.specs.Stock.{Reach}
use Rattle.records.specs.declared.cell.Spans.{Spans}
use Rattle.records.specs.declared.grow.Plan.{Plan}

-- the rule's `add_span`, of a span whose cell is at hand
unfoldable pub added : Net → List ℕ → Spans → ℕ → List Rec → List Rec
added N ids cell s rs =
    let r = get_or ids s 0 in
    when plain r then set rs r (contoured N ids s (celled ids s cell.size cell.from (at rs r))) else rs

-- the spans of cell c
unfoldable pub spans_at : List ℕ → List ℕ → ℕ → Spans
spans_at index count c = record { from = get_or index c 0; size = get_or count c 0 }

-- span s of a cell is next
pub record Standing (plan : Plan) (areas con ids : List ℕ) (cell : Spans) (s top : ℕ) (ws : List ℕ) : Type 0 where
  pub reach : Reach plan areas con ids ws s
  pub within : Within ids s cell
  pub keeping : Keeping ids plan.records top s ws

-- what it leaves, and the pool's end t
pub record Added (plan : Plan) (areas ids : List ℕ) (cell : Spans) (s : ℕ) (ws : List ℕ) (t : ℕ) (ws' : List ℕ) : Type 0 where
  pub keeping : Keeping ids plan.records t (s + 1) ws'
  pub same : recs_of ws' plan.records ≡ added (net_at plan.table areas ws) ids cell s (recs_of ws plan.records)
  pub size : length ws' ≡ length ws
  pub after : (j : ℕ) → records_end plan.records (length ids) ≤ j → get_or ws' j 0 ≡ get_or ws j 0

-- a cell is next; an empty one has no first span
pub record Entering (plan : Plan) (areas con ids : List ℕ) (cell : Spans) (top : ℕ) (ws : List ℕ) : Type 0 where
  pub ways : Ways plan.table con ids ws
  pub sized : length ids ≡ length areas
  pub past : records_end plan.records (length ids) ≤ plan.table
  pub few : cell.size ≤ 63
  pub inside : 0 < cell.size → cell.from + cell.size ≤ length ids
  pub keeping : 0 < cell.size → Keeping ids plan.records top cell.from ws

-- the records of the spans of the last cell with several have what these take from it
pub record Knowing (ids : List ℕ) (m : ℕ) (last : Spans) (ws : List ℕ) : Type 0 where
  pub known : Known ids last (recs_of ws m)
  pub lies : Lies ids last

-- and so have those of a cell's spans from a prior cell that has as many, if there is one: it may be the cell itself
pub record KnowingFrom (ids : List ℕ) (m : ℕ) (cell : Spans) (prior : ℕ) (ws : List ℕ) : Type 0 where
  pub knowing : Some prior → Knowing ids m (as_many_from prior cell) ws
  pub place : prior ≤ none

-- what its first j spans leave, and the pool's end t
pub record Entered (plan : Plan) (areas ids : List ℕ) (cell : Spans) (j top : ℕ) (ws₀ : List ℕ) (t : ℕ) (ws : List ℕ) : Type 0 where
  pub low : j ≤ cell.size
  pub same :
      let N = net_at plan.table areas ws₀ in
      recs_of ws plan.records ≡ upto j (λ i. added N ids cell (cell.from + i)) (recs_of ws₀ plan.records)
  pub keeping : 0 < cell.size → Keeping ids plan.records t (cell.from + j) ws
  pub none : cell.size ≡ 0 → (t ≡ top) × (ws ≡ ws₀)
  pub size : length ws ≡ length ws₀
  pub after : (i : ℕ) → records_end plan.records (length ids) ≤ i → get_or ws i 0 ≡ get_or ws₀ i 0
