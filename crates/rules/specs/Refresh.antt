-- A door in an editor: area codes change in one rectangle, and the rows that may come out otherwise are redone. The outcome of the two entries on ANY
-- input: the build that writes all three lists, and the refresh.
use Rattle.std.specs.Prelude.{ℕ, zero, suc, ◌+◌, ◌*◌, ◌-◌, min, Bool, not, List, [], ◌∷◌, length, get_or, set, leb, ltb, eqb}
use Rattle.rules.specs.Base.{◌and◌, ◌or◌, when◌then◌else◌, upto, every, any}
use Rattle.rules.specs.Field.{Field}
use Rattle.rules.specs.Refusals.{refusal}
use Rattle.rules.specs.Distance.{start, pass1, raw, greatest, blur}
use Rattle.rules.specs.Rows.{row_up, pass1_row, pass2_row, blur_row}

-- "changes the area codes in one rectangle (rows z0 to z1), connections unchanged": columns x0 to x1, both ends included
pub record Rect : Type 0 where
  pub x0 : ℕ
  pub z0 : ℕ
  pub x1 : ℕ
  pub z1 : ℕ

-- the field with other area codes
abbrev pub repainted : Field → List ℕ → Field
repainted F area = record { w = F.w; h = F.h; index = F.index; count = F.count; area = area; con = F.con }

-- ---------------------------------------------------------------- the rows redone

-- "comes out as stored": every span of the cell, and of the row, has in list m the value that it has in list l
unfoldable pub cell_as_stored : Field → List ℕ → List ℕ → ℕ → Bool
cell_as_stored F l m c = every (get_or F.count c 0) (λ j. let s = get_or F.index c 0 + j in eqb (get_or m s 0) (get_or l s 0))

unfoldable pub as_stored : Field → ℕ → List ℕ → List ℕ → Bool
as_stored F y l m = every F.w (λ x. cell_as_stored F l m (F.w * y + x))

-- a list after rows were redone, and the row with which that ended
pub record Redone : Type 0 where
  pub values : List ℕ
  pub end : ℕ

-- "Redo pass 1 from row z0−1 on and stop after the first row, z1+1 or later, that comes out as stored.": from row y on, with k rows left in the field
unfoldable pub onward : Field → ℕ → ℕ → ℕ → List ℕ → Redone
onward F z1 zero y l = record { values = l; end = y - 1 }
onward F z1 (suc k) y l =
    let m = pass1_row F y l in
    let rest = onward F z1 k (suc y) m in
    when leb (z1 + 1) y and as_stored F y l m then record { values = m; end = y } else rest

-- the value of span s in list p, and those of row y
unfoldable pub value_to : List ℕ → ℕ → List ℕ → List ℕ
value_to p s l = set l s (get_or p s 0)

unfoldable pub values_row : Field → List ℕ → ℕ → List ℕ → List ℕ
values_row F p y l = row_up F (value_to p) y l

-- row y of pass 2, worked out from the pass 1 values p of the row, whatever the list held for it
unfoldable pub from_pass1 : Field → List ℕ → ℕ → List ℕ → List ℕ
from_pass1 F p y l = pass2_row F y (values_row F p y l)

-- "Redo pass 2 from that last row backward and stop after the first row, z0−1 or before, that comes out as stored.": the rows below y are left
unfoldable pub backward : Field → ℕ → List ℕ → ℕ → List ℕ → Redone
backward F z0 p zero l = record { values = l; end = 0 }
backward F z0 p (suc y) l =
    let m = from_pass1 F p y l in
    let rest = backward F z0 p y m in
    when leb y (z0 - 1) and as_stored F y l m then record { values = m; end = y } else rest

-- "The first and last row redone in each stage are reported"
pub record Rows : Type 0 where
  pub first : ℕ
  pub last : ℕ

-- "one more at each end", "All rows are clipped to the field."
unfoldable pub one_more : Field → Rows → Rows
one_more F r = record { first = r.first - 1; last = min (r.last + 1) (F.h - 1) }

unfoldable pub blur_rows : Field → List ℕ → Rows → List ℕ → List ℕ
blur_rows F l r m = upto (suc r.last - r.first) (λ i. blur_row F l (r.first + i)) m

-- ---------------------------------------------------------------- the outcomes

-- "A build that writes all three comes with it, refused as the distance entry is."
pub record StagesOutcome : Type 0 where
  pub refused : ℕ
  pub most : ℕ
  pub pass1 : List ℕ
  pub raw : List ℕ
  pub blurred : List ℕ

unfoldable pub stages_outcome : Field → List ℕ → List ℕ → List ℕ → StagesOutcome
stages_outcome F pass1₀ raw₀ blurred₀ =
    let r = refusal F (length pass1₀ ∷ length raw₀ ∷ length blurred₀ ∷ []) in
    let l = raw F in
    when eqb r 0
    then record { refused = 0; most = greatest l; pass1 = pass1 F (start F); raw = l; blurred = blur F l }
    else record { refused = r; most = 0; pass1 = pass1₀; raw = raw₀; blurred = blurred₀ }

-- 11: "a rectangle that is empty or not in the field"
unfoldable pub wrong_rect : Field → Rect → Bool
wrong_rect F q = ltb q.x1 q.x0 or ltb q.z1 q.z0 or leb F.w q.x1 or leb F.h q.z1

-- 31: "a stored pass 1 or raw value above 510"
unfoldable pub wrong_stored : List ℕ → List ℕ → Bool
wrong_stored p r = any (ltb 510) p or any (ltb 510) r

-- "Refusals: 11 .., then 31 .., both after 1 to 6."
unfoldable pub refresh_refusal : Field → Rect → List ℕ → List ℕ → List ℕ → ℕ
refresh_refusal F q p r b =
    let k = refusal F (length p ∷ length r ∷ length b ∷ []) in
    when not (eqb k 0) then k else
    when wrong_rect F q then 11 else
    when wrong_stored p r then 31 else 0

pub record RefreshOutcome : Type 0 where
  pub refused : ℕ
  pub most : ℕ
  pub pass1_rows : Rows
  pub pass2_rows : Rows
  pub blur_rows : Rows
  pub pass1 : List ℕ
  pub raw : List ℕ
  pub blurred : List ℕ

-- pass 1, from row z0−1 on
unfoldable pub redone1 : Field → Rect → List ℕ → Redone
redone1 F q p = onward F q.z1 (F.h - (q.z0 - 1)) (q.z0 - 1) p

-- pass 2, from pass 1's last row backward
unfoldable pub redone2 : Field → Rect → Redone → List ℕ → Redone
redone2 F q p r = backward F q.z0 p.values (suc p.end) r

-- "Redo the blur over pass 2's rows and one more at each end, and max_distance from all raw values."
unfoldable pub refreshed : Field → Rect → List ℕ → List ℕ → List ℕ → RefreshOutcome
refreshed F q p₀ r₀ b₀ =
    let p = redone1 F q p₀ in
    let r = redone2 F q p r₀ in
    let rows : Rows = record { first = r.end; last = p.end } in
    record {
      refused = 0;
      most = greatest r.values;
      pass1_rows = record { first = q.z0 - 1; last = p.end };
      pass2_rows = rows;
      blur_rows = one_more F rows;
      pass1 = p.values;
      raw = r.values;
      blurred = blur_rows F r.values (one_more F rows) b₀;
    }

-- no rows: "zero for each other number"
abbrev pub no_rows : Rows
no_rows = record { first = 0; last = 0 }

-- a refusal leaves "all lent lists unchanged"
unfoldable pub refresh_outcome : Field → Rect → List ℕ → List ℕ → List ℕ → RefreshOutcome
refresh_outcome F q p₀ r₀ b₀ =
    let k = refresh_refusal F q p₀ r₀ b₀ in
    let o = refreshed F q p₀ r₀ b₀ in
    when eqb k 0 then o else
    record {
      refused = k;
      most = 0;
      pass1_rows = no_rows;
      pass2_rows = no_rows;
      blur_rows = no_rows;
      pass1 = p₀;
      raw = r₀;
      blurred = b₀;
    }
