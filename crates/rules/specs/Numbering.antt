-- Numbering, and the stages from grown ids to the result.
use Rattle.std.specs.Prelude.{ℕ, zero, suc, Bool, List, [], ◌∷◌, map, length, eqb}
use Rattle.rules.specs.Base.{◌and◌, when◌then◌else◌}
use Rattle.rules.specs.Field.{Field}
use Rattle.rules.specs.Growth.{flagged, plain}
use Rattle.rules.specs.Records.{Rec, at, has, once, records}
use Rattle.rules.specs.Filter.{filtered}
use Rattle.rules.specs.Merge.{place, merged}

-- "live ids, empty records included, .. by lowest record"
unfoldable pub live : List Rec → List ℕ → List ℕ
live [] l = l
live (r ∷ rs) l = live rs (when eqb r.id 0 then l else once l r.id)

-- "renumbered from 1"
unfoldable pub number_of : List ℕ → ℕ → ℕ
number_of l r = when eqb r 0 then 0 else suc (place l r)

-- "The overlap count is the number of records with overlap set."
unfoldable pub overlaps : List Rec → ℕ
overlaps [] = 0
overlaps (r ∷ rs) = when r.overlap then suc (overlaps rs) else overlaps rs

-- "the number of unmerged records that bear it, removed ones included": a record that another absorbed bears no mark
unfoldable pub cuts : List Rec → ℕ
cuts [] = 0
cuts (r ∷ rs) = when r.cut then suc (cuts rs) else cuts rs

-- most is max_region, over the overlap count, cut the number of records whose contour was cut short
pub record Regions : Type 0 where
  pub ids : List ℕ
  pub most : ℕ
  pub over : ℕ
  pub cut : ℕ

-- "max_region is the last number given. Flagged ids stay."
unfoldable pub numbered : List Rec → List ℕ → Regions
numbered rs ids =
    let l = live rs [] in
    record { ids = map (λ r. when flagged r then r else number_of l (at rs r).id) ids; most = length l; over = overlaps rs; cut = cuts rs }

-- records, filter, merge, numbering, of grown ids and the next id
unfoldable pub regions : Field → ℕ → ℕ → List ℕ → ℕ → Regions
regions F least area ids next =
    let rs = filtered least (records F ids next) in
    numbered (merged area (suc (length rs)) rs) ids

-- ---------------------------------------------------------------- the two forms of the numbers

-- "The old numbering stays available as the compared form": dense is the new one
pub data Form : Type 0 where
  dense compared : Form

-- an unflagged id that some span bears
unfoldable pub in_use : List ℕ → ℕ → Bool
in_use ids r = plain r and has ids r

-- how many ids from 1 to r are in use: the new number of r, where r is one of them
unfoldable pub rank : List ℕ → ℕ → ℕ
rank ids zero = 0
rank ids (suc r) = when in_use ids (suc r) then suc (rank ids r) else rank ids r

-- "From now on an id that no span bears takes no number: ids in use run from 1 to max_region whatever the border size, and max_region
-- is 0 when none is in use."
unfoldable pub condensed : Regions → Regions
condensed v =
    record { ids = map (λ r. when flagged r then r else rank v.ids r) v.ids; most = rank v.ids v.most; over = v.over; cut = v.cut }

unfoldable pub formed : Form → Regions → Regions
formed dense v = condensed v
formed compared v = v
