-- The rules without the mark of a contour cut short: records whose mark is erased, from which filter, merge and numbering go on as they do.
use Rattle.std.specs.Prelude.{ℕ, suc, false, List, map, length}
use Rattle.rules.specs.Base.{upto, tab}
use Rattle.rules.specs.Field.{Field, spans}
use Rattle.rules.specs.Records.{Rec, fresh, add_span}
use Rattle.rules.specs.Filter.{filtered}
use Rattle.rules.specs.Merge.{merged}
use Rattle.rules.specs.Numbering.{Regions, numbered}

-- a record with its mark erased
unfoldable pub bare : Rec → Rec
bare r = record { id = r.id; count = r.count; area = r.area; visited = r.visited; overlap = r.overlap; list = r.list; floors = r.floors; cut = false }

-- the records, with every mark erased after each span
unfoldable pub bare_records : Field → List ℕ → ℕ → List Rec
bare_records F ids next = upto (spans F) (λ s rs. map bare (add_span F ids s rs)) (tab (suc next) 0 fresh)

-- the stages from grown ids to the result, of those records
unfoldable pub bare_regions : Field → ℕ → ℕ → List ℕ → ℕ → Regions
bare_regions F least area ids next =
    let rs = filtered least (bare_records F ids next) in
    numbered (merged area (suc (length rs)) rs) ids
