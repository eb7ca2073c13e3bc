-- What refusals 1 to 8 leave to the stages of the region entry.
use Rattle.std.specs.Prelude.{ℕ, ◌+◌, ◌*◌, ◌≤◌, Bool, ◌≡◌, List, length, get_or}
use Rattle.rules.specs.Base.{when◌then◌else◌}
use Rattle.rules.specs.Field.{Field, spans}
use Rattle.rules.specs.Net.{net_of}
use Rattle.rules.specs.Growth.{grown, stops}
use Rattle.rules.specs.Numbering.{Regions, regions}
use Rattle.rules.specs.Outcomes.{Sizes}
use Rattle.space.specs.Space.{Clear}
use Rattle.net.specs.Table.{net_at}
use Rattle.field.specs.Lent.{Sound}
use Rattle.growth.specs.Grow.{growth_room}
use Rattle.table.specs.Map.{records_end, floors_from}

pub record Admitted (F : Field) (dist ws ids : List ℕ) : Type 0 where
  pub sound : Sound F
  pub distances : length dist ≡ spans F
  pub idents : length ids ≡ spans F
  pub room : 128 * spans F + 4096 ≤ length ws

-- 7 and 8 in their order: the workspace is too short, a distance is too far
unfoldable pub own_refusal : Bool → Bool → ℕ
own_refusal short far = when short then 7 else when far then 8 else 0

-- where the table of neighbours begins, of n spans: past the records, of which there are at most n + 6, from 0 to the next id
abbrev pub table_at : ℕ → ℕ
table_at n = records_end (n + 6) n

-- after growth, with ids₀ the ids before: where nothing stops it the rule's ids and next id, zeros where it worked and the field's net in the table; else the ids as before
pub record Raised (F : Field) (dist : List ℕ) (most border table : ℕ) (ids₀ : List ℕ) (next stop : ℕ) (ids' ws' : List ℕ) : Type 0 where
  pub stops : stop ≡ stops F dist most border
  pub ids : stop ≡ 0 → ids' ≡ (grown F dist most border).ids
  pub id : stop ≡ 0 → next ≡ (grown F dist most border).next
  pub clear : stop ≡ 0 → Clear 0 (growth_room (spans F)) ws'
  pub net : stop ≡ 0 → net_at table F.area ws' ≡ net_of F
  pub back : (stop ≡ 0 → ⊥) → ids' ≡ ids₀

-- the workspace made ready for m records: zeros where they and the lists are laid; past that all is as it was
pub record Readied (m n : ℕ) (ws ws' : List ℕ) : Type 0 where
  pub clear : Clear 0 (floors_from m n) ws'
  pub after : (j : ℕ) → floors_from m n ≤ j → get_or ws' j 0 ≡ get_or ws j 0

-- what the stages find of a field that 1 to 8 let pass, with ids₀ the ids before: the rule's regions, or what stops growth and the ids as before
pub record Finds (F : Field) (dist : List ℕ) (most : ℕ) (z : Sizes) (ids₀ : List ℕ) (stop : ℕ) (v : Regions) : Type 0 where
  pub stops : stop ≡ stops F dist most z.border
  pub done : stop ≡ 0 → v ≡ regions F z.least z.merge (grown F dist most z.border).ids (grown F dist most z.border).next
  pub back : (stop ≡ 0 → ⊥) → v.ids ≡ ids₀
