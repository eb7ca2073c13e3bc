-- Each refusal from 1 to 8 on a field that is wrong in one place, and none beside it, by computation. A refused call is shown to
-- return zeros and to leave its lists, which are lent full of 7s.
use Rattle.std.specs.Prelude.{ℕ, zero, suc, ◌+◌, ◌*◌, ◌≡◌, refl, Bool, true, false, List, [], ◌∷◌, ◌++◌, set, take, replicate, eqb}
use Rattle.rules.specs.Base.{◌and◌, ◌or◌, when◌then◌else◌, upto, tab, every, any}
use Rattle.rules.specs.Field.{Field, spans, cell_of, cell_to, leaves, con_of, near}
use Rattle.rules.specs.Refusals.{good_cells, good_con, good_back, too_wide, too_many, wrong_length, wrong_cells, wrong_reach, wrong_back, refusal, too_short, too_far, region_refusal}
use Rattle.rules.specs.Numbering.{dense}
use Rattle.rules.specs.Outcomes.{distance_outcome, region_outcome}
use Rattle.rules.specs.Open.{open_con, flat, open_field}

-- the open field of 3 by 3 with one list put in another's place
abbrev pub good : Field
good = open_field 3 3

pub with_index : List ℕ → Field
with_index l = record { w = 3; h = 3; index = l; count = good.count; area = good.area; con = good.con }

pub with_count : List ℕ → Field
with_count l = record { w = 3; h = 3; index = good.index; count = l; area = good.area; con = good.con }

pub with_area : List ℕ → Field
with_area l = record { w = 3; h = 3; index = good.index; count = good.count; area = l; con = good.con }

pub with_con : List ℕ → Field
with_con l = record { w = 3; h = 3; index = good.index; count = good.count; area = good.area; con = l }

-- w by h cells of which nothing is lent; and one cell of k spans that lead nowhere
pub bare : ℕ → ℕ → Field
bare w h = record { w = w; h = h; index = []; count = []; area = []; con = [] }

pub tower : ℕ → Field
tower k = record { w = 1; h = 1; index = 0 ∷ []; count = k ∷ []; area = replicate k 1; con = replicate (4 * k) 255 }

pub record Lent : Type 0 where
  pub field : Field
  -- lengths of the two lists of one number a span, and of the workspace
  pub first : ℕ
  pub second : ℕ
  pub work : ℕ
  -- every distance, and max_distance
  pub distance : ℕ
  pub most : ℕ
  pub refused : ℕ

-- n 7s
pub sevens : ℕ → List ℕ → Bool
sevens zero [] = true
sevens zero (x ∷ xs) = false
sevens (suc n) [] = false
sevens (suc n) (x ∷ xs) = eqb x 7 and sevens n xs

-- the distance entry refuses it, with 1 to 6
pub refuses_distance : Lent → Bool
refuses_distance v =
    let o = distance_outcome v.field (replicate v.first 7) (replicate v.second 7) in
    eqb o.refused v.refused and eqb o.most 0 and sevens v.first o.raw and sevens v.second o.blurred

-- the region entry refuses it, with 1 to 8
pub refuses_regions : Lent → Bool
refuses_regions v =
    let o = region_outcome dense v.field (replicate v.first v.distance) v.most (record { border = 0; least = 0; merge = 0 })
    (replicate v.work 7) (replicate v.second 7) in
    eqb o.refused v.refused and eqb o.most 0 and eqb o.over 0 and sevens v.work o.workspace and sevens v.second o.ids

-- neither does
pub accepts : Lent → Bool
accepts v =
    eqb (refusal v.field (v.first ∷ v.second ∷ [])) 0
    and eqb (region_refusal v.field (v.first ∷ v.second ∷ []) v.work (replicate v.first v.distance) v.most) 0

pub each : (Lent → Bool) → List Lent → Bool
each p [] = true
each p (v ∷ vs) = p v and each p vs

-- a field refused with that number: the entry's own lists are right, and the workspace is not looked at
abbrev pub wrong : Field → ℕ → Lent
wrong F r = record { field = F; first = spans F; second = spans F; work = 1; distance = 0; most = 0; refused = r }

-- the good field, the rest as given
abbrev pub lent_good : ℕ → ℕ → ℕ → ℕ → ℕ → ℕ → Lent
lent_good first second work distance most r = record { field = good; first = first; second = second; work = work; distance = distance; most = most; refused = r }

-- a field that is not refused, with a workspace of the least length
abbrev pub right : Field → Lent
right F = record { field = F; first = spans F; second = spans F; work = 128 * spans F + 4096; distance = 0; most = 0; refused = 0 }

pub wrong_fields : List Lent
wrong_fields =
    -- 1: w or h above 256, before all else
    wrong (bare 257 1) 1 ∷ wrong (bare 1 257) 1 ∷
    -- 2: n above 65,000, before the lengths
    wrong (with_area (replicate 65001 1)) 2 ∷
    -- 3: each list one short or one long
    wrong (with_index (take 8 good.index)) 3 ∷ wrong (with_index (good.index ++ (9 ∷ []))) 3 ∷
    wrong (with_count (take 8 good.count)) 3 ∷ wrong (with_count (good.count ++ (0 ∷ []))) 3 ∷
    wrong (with_con (take 35 good.con)) 3 ∷ wrong (with_con (good.con ++ (255 ∷ []))) 3 ∷
    wrong (with_area (good.area ++ (1 ∷ []))) 3 ∷ wrong (bare 1 1) 3 ∷
    lent_good 8 9 5248 0 0 3 ∷ lent_good 10 9 5248 0 0 3 ∷ lent_good 9 8 5248 0 0 3 ∷ lent_good 9 10 5248 0 0 3 ∷
    -- 4: a count of 64, an index off by one, counts that sum to less and to more than n
    wrong (tower 64) 4 ∷ wrong (with_index (set good.index 4 5)) 4 ∷ wrong (with_count (set good.count 4 0)) 4 ∷
    wrong (with_count (set good.count 8 2)) 4 ∷
    -- 5: off the grid in each direction, and to a layer that is not there
    wrong (with_con (set good.con 0 0)) 5 ∷ wrong (with_con (set good.con 3 0)) 5 ∷ wrong (with_con (set good.con 33 0)) 5 ∷
    wrong (with_con (set good.con 34 0)) 5 ∷ wrong (with_con (set good.con 2 1)) 5 ∷
    -- 6: a connection with no way back
    wrong (with_con (set good.con 2 255)) 6 ∷
    []

pub wrong_calls : List Lent
wrong_calls =
    -- 7: a workspace one short, before a distance that is too great
    lent_good 9 9 5247 0 0 7 ∷ lent_good 9 9 5247 511 511 7 ∷
    -- 8: max_distance above 510, and a distance above max_distance
    lent_good 9 9 5248 0 511 8 ∷ lent_good 9 9 5248 511 510 8 ∷ lent_good 9 9 5248 2 1 8 ∷
    []

pub right_calls : List Lent
right_calls =
    right good ∷ right (bare 0 256) ∷ right (bare 256 0) ∷ right (tower 63) ∷
    -- an empty cell's index is not looked at
    right (record { w = 1; h = 2; index = 9 ∷ 0 ∷ []; count = 0 ∷ 1 ∷ []; area = 1 ∷ []; con = replicate 4 255 }) ∷
    lent_good 9 9 5248 510 510 0 ∷ lent_good 9 9 5249 0 510 0 ∷
    []

pub refusals_agree : (each refuses_distance wrong_fields ≡ true) × (each refuses_regions wrong_fields ≡ true) × (each refuses_regions wrong_calls ≡ true) × (each accepts right_calls ≡ true)
unfolding ◌and◌ ◌or◌ when◌then◌else◌ upto tab every any cell_of cell_to leaves con_of near
    good_cells good_con good_back too_wide too_many wrong_length wrong_cells wrong_reach wrong_back refusal too_short too_far region_refusal
    distance_outcome region_outcome open_con flat open_field each refuses_distance refuses_regions accepts sevens wrong_fields wrong_calls right_calls
    with_index with_count with_area with_con bare tower
refusals_agree = (refl, refl, refl, refl)
