-- What the records are built from, and what they leave for filter and merge.
use Rattle.std.specs.Prelude.{◌≡◌, true, List, ℕ, ◌+◌, ◌*◌, ◌≤◌, ◌<◌, length, get_or}
use Rattle.rules.specs.Field.{Field, spans}
use Rattle.rules.specs.Net.{net_of}
use Rattle.rules.specs.Growth.{plain}
use Rattle.rules.specs.Records.{records}
use Rattle.rules.specs.Refusals.{most_spans}
use Rattle.field.specs.Lent.{Sound}
use Rattle.net.specs.Table.{net_at, last_place}
use Rattle.contour.specs.Ways.{Ways}
use Rattle.table.specs.Map.{border, spare_at, pool_at, half_of, floors_from, records_end}
use Rattle.table.specs.View.{recs_of, list_start, list_end, floors_start, floors_end, RecordsIn}
use Rattle.records.specs.Rows.{floors_at}
use Rattle.records.specs.declared.grow.Plan.{Plan}

-- F is a field that is not refused, there is an id for each of its spans, and its net stands in the workspace
pub record Given (F : Field) (ids : List ℕ) (table : ℕ) (ws : List ℕ) : Type 0 where
  pub sound : Sound F
  pub idents : length ids ≡ spans F
  pub net : net_at table F.area ws ≡ net_of F
  pub room : table + 4 * spans F ≤ length ws
  pub place : table ≤ last_place

-- the ways from span s, an area for each span, and the table past the records
pub record Reach (plan : Plan) (areas con ids ws : List ℕ) (s : ℕ) : Type 0 where
  pub ways : Ways plan.table con ids ws
  pub sized : length ids ≡ length areas
  pub past : records_end plan.records (length ids) ≤ plan.table
  pub span : s < length ids

-- room for m records of these ids, and zeros where they and the lists are laid; what is where the floors will be does not matter
pub record Blank (ids : List ℕ) (m : ℕ) (ws : List ℕ) : Type 0 where
  pub few : m ≤ border
  pub spans : length ids ≤ most_spans
  pub room : records_end m (length ids) ≤ length ws
  pub below : (x : ℕ) → plain (get_or ids x 0) ≡ true → get_or ids x 0 < m
  pub zeros : (j : ℕ) → j < floors_from m (length ids) → get_or ws j 0 ≡ 0

-- the records 0 to next after all spans: the rule's, laid so that filter and merge can read them
pub record Built (F : Field) (ids : List ℕ) (next : ℕ) (ws₀ ws : List ℕ) : Type 0 where
  pub same : recs_of ws (next + 1) ≡ records F ids next
  pub held : RecordsIn (next + 1) ws
  pub from : (r : ℕ) → r < next + 1 → pool_at (next + 1) ≤ list_start ws (next + 1) r
  pub till : (r : ℕ) → r < next + 1 → list_end ws (next + 1) r ≤ pool_at (next + 1) + half_of (length ids)
  pub floors : (r : ℕ) → r < next + 1 → floors_start ws (next + 1) r ≡ floors_at ids (next + 1) r
  pub floored : (r : ℕ) → r < next + 1 → floors_end ws (next + 1) r ≤ records_end (next + 1) (length ids)
  pub blank : (j : ℕ) → pool_at (next + 1) + half_of (length ids) ≤ j → j < floors_from (next + 1) (length ids) → get_or ws j 0 ≡ 0
  pub spare : (x : ℕ) → x < 2 * (next + 1) → get_or ws (spare_at (next + 1) + x) 0 ≡ 0
  pub size : length ws ≡ length ws₀
  pub after : (j : ℕ) → records_end (next + 1) (length ids) ≤ j → get_or ws j 0 ≡ get_or ws₀ j 0
