-- "Starred figures are proved as a single statement over one list of cases". Each case is run as a caller runs it: both entries on lists
-- of zeros and a workspace of the least length, the second on what the first gave.
use Rattle.std.specs.Prelude.{ℕ, ◌+◌, ◌*◌, ◌-◌, ◌/◌, ◌%◌, ◌≡◌, refl, Bool, true, List, [], ◌∷◌, length, get_or, replicate, eqb, ltb}
use Rattle.rules.specs.Base.{◌and◌, ◌or◌, when◌then◌else◌, upto, tab, every, any, keep, many}
use Rattle.rules.specs.Field.{Field, spans, cell_of, cell_to, leaves, con_of, near, corner, area_of}
use Rattle.rules.specs.Net.{net_of, neighbours_of}
use Rattle.rules.specs.Net as net
use Rattle.rules.specs.Refusals.{good_cells, good_con, good_back, too_wide, too_many, wrong_length, wrong_cells, wrong_reach, wrong_back, refusal, too_short, too_far, region_refusal}
use Rattle.rules.specs.Distance.{same, start_at, start, least_of, lower, pass1, pass2, raw, greatest, term, blur_at, blur}
use Rattle.rules.specs.Growth.{walkable, put, paint_of, painted, first_id, blank, sorted, remains, look, takes, finds, wrote, written, round, rounds, expand, sees, or_else, objects, pushed, visit, flow, flood, floods, loaded, turn, grown, exceeds, strays, rounds_stray, expand_strays, floods_run_out, turn_stops, turns_stop, stops}
use Rattle.rules.specs.Contour.{across, solid, first_solid, stride, walk, trim, walk_from, contour, cut_short}
use Rattle.rules.specs.Records.{fresh, at, once, once_all, others, counted, add_span, records}
use Rattle.rules.specs.Filter.{seen, removed, reach, gather, total, remove_all, filter_one, filtered}
use Rattle.rules.specs.Merge.{suits, picked, place, around, dedup, tidy, absorbed, emptied, renamed, merge_one, merged}
use Rattle.rules.specs.Numbering.{live, number_of, overlaps, cuts, numbered, regions, Form, dense, compared, in_use, rank, condensed, formed}
use Rattle.rules.specs.Outcomes.{Sizes, DistanceOutcome, RegionOutcome, distance_outcome, region_outcome}
use Rattle.rules.specs.Open.{open_con, flat, open_field}

-- what document 01 says of a run; a cell is (x, z)
pub data Claim : Type 0 where
  max_distance max_region overlap_count cut_count every_id : ℕ → Claim
  raw_is blurred_is id_is : ℕ → ℕ → ℕ → Claim
  -- the id after the first turn, when only floods have given ids
  flooded_is : ℕ → ℕ → ℕ → Claim
  -- the ids of the cells with x from a and below b, in every row from c and below e
  ids_in : ℕ → ℕ → ℕ → ℕ → ℕ → Claim

pub record Case : Type 0 where
  pub form : Form
  pub field : Field
  pub sizes : Sizes
  pub claims : List Claim

pub record Run : Type 0 where
  pub wide : ℕ
  pub distances : DistanceOutcome
  pub flooded : List ℕ
  pub regions : RegionOutcome

unfoldable pub run : Case → Run
unfolding ◌and◌ ◌or◌ when◌then◌else◌ upto tab every any keep many cell_of cell_to leaves con_of near corner area_of neighbours_of net.near net.corner net.area_of
    good_cells good_con good_back too_wide too_many wrong_length wrong_cells wrong_reach wrong_back refusal too_short too_far region_refusal
    same start_at start least_of lower pass1 pass2 raw greatest term blur_at blur
    walkable put paint_of painted first_id blank sorted remains look takes finds wrote written round rounds expand sees or_else objects pushed visit flow flood floods loaded turn grown
    exceeds strays rounds_stray expand_strays floods_run_out turn_stops turns_stop stops
    across solid first_solid stride walk trim walk_from contour cut_short fresh at once once_all others counted add_span records
    seen removed reach gather total remove_all filter_one filtered
    suits picked place around dedup tidy absorbed emptied renamed merge_one merged live number_of overlaps cuts numbered regions in_use rank condensed formed
    distance_outcome region_outcome open_con flat open_field
run c =
    let F = c.field in
    let zeros : List ℕ = replicate (spans F) 0 in
    let a = distance_outcome F zeros zeros in
    let b = c.sizes.border in
    record {
      wide = F.w;
      distances = a;
      flooded = (turn (net_of F) a.blurred (2 * ((a.most + 1) / 2)) 0 (record { marks = painted F b; stacks = []; next = first_id b })).marks.ids;
      regions = region_outcome c.form F a.blurred a.most c.sizes (replicate (128 * spans F + 4096) 0) zeros;
    }

unfoldable pub holds : Run → Claim → Bool
holds o (max_distance v) = eqb o.distances.most v
holds o (max_region v) = eqb o.regions.most v
holds o (overlap_count v) = eqb o.regions.over v
holds o (cut_count v) = eqb o.regions.cut v
holds o (every_id v) = every (length o.regions.ids) (λ i. eqb (get_or o.regions.ids i 0) v)
holds o (raw_is x z v) = eqb (get_or o.distances.raw (z * o.wide + x) 0) v
holds o (blurred_is x z v) = eqb (get_or o.distances.blurred (z * o.wide + x) 0) v
holds o (id_is x z v) = eqb (get_or o.regions.ids (z * o.wide + x) 0) v
holds o (flooded_is x z v) = eqb (get_or o.flooded (z * o.wide + x) 0) v
holds o (ids_in a b c e v) = every (e - c) (λ i. every (b - a) (λ j. eqb (get_or o.regions.ids ((c + i) * o.wide + a + j) 0) v))

unfoldable pub all_hold : Run → List Claim → Bool
all_hold o [] = true
all_hold o (k ∷ ks) = holds o k and all_hold o ks

-- neither entry refuses, and all that is claimed holds
unfoldable pub agrees : List Case → Bool
agrees [] = true
agrees (c ∷ cs) =
    let o = run c in
    eqb o.distances.refused 0 and eqb o.regions.refused 0 and all_hold o c.claims and agrees cs

-- "border size, least area and merge area are 0 if not named"
abbrev pub case : Form → Field → ℕ → ℕ → ℕ → List Claim → Case
case form F border least merge claims =
    record { form = form; field = F; sizes = record { border = border; least = least; merge = merge }; claims = claims }

-- 6 by 3, areas 1 in columns 0 to 2 and 2 in 3 to 5
abbrev pub halves : Field
halves = flat 6 3 (λ c. when ltb (c % 6) 3 then 1 else 2)

-- document 01's figures: those of the compared form
unfoldable pub compared_figures : List Case
compared_figures =
    -- "0 by 0: max_region 1. With border size 1: 5."
    case compared (open_field 0 0) 0 0 0 (max_region 1 ∷ []) ∷
    case compared (open_field 0 0) 1 0 0 (max_region 5 ∷ []) ∷
    -- "Open 1 by 1: id 0, max_region 1. Border size 1: id 0x8004, max_region 5."
    case compared (open_field 1 1) 0 0 0 (every_id 0 ∷ max_region 1 ∷ []) ∷
    case compared (open_field 1 1) 1 0 0 (every_id 0x8004 ∷ max_region 5 ∷ []) ∷
    -- "Open 3 by 3: middle 2, ids 1. Least area 9: the same. Least area 10: ids 0, max_region 1."
    case compared (open_field 3 3) 0 0 0 (max_distance 2 ∷ raw_is 1 1 2 ∷ blurred_is 1 1 2 ∷ every_id 1 ∷ max_region 2 ∷ overlap_count 0 ∷ cut_count 0 ∷ []) ∷
    case compared (open_field 3 3) 0 9 0 (max_distance 2 ∷ raw_is 1 1 2 ∷ blurred_is 1 1 2 ∷ every_id 1 ∷ max_region 2 ∷ overlap_count 0 ∷ cut_count 0 ∷ []) ∷
    case compared (open_field 3 3) 0 10 0 (every_id 0 ∷ max_region 1 ∷ []) ∷
    -- "3 by 3, area 0: middle 2, ids 0, max_region 1."
    case compared (flat 3 3 (λ c. 0)) 0 0 0 (raw_is 1 1 2 ∷ blurred_is 1 1 2 ∷ every_id 0 ∷ max_region 1 ∷ []) ∷
    -- "Open 5 by 5: max_distance 4, blurred middle 2. Open 7 by 7: 6, 4, and blurred (2,2) 3, (2,3) 4."
    case compared (open_field 5 5) 0 0 0 (max_distance 4 ∷ blurred_is 2 2 2 ∷ []) ∷
    case compared (open_field 7 7) 0 0 0 (max_distance 6 ∷ blurred_is 3 3 4 ∷ blurred_is 2 2 3 ∷ blurred_is 2 3 4 ∷ []) ∷
    -- "Open 5 by 5, border size 1: inner nine 5, (0,0) 0x8003, (0,2) 0x8001, (4,2) 0x8002, (4,4) 0x8004, max_region 6."
    -- "in the 5 by 5 border case (2,3) is rejected by the flood and filled by expansion"
    case compared (open_field 5 5) 1 0 0
    (ids_in 1 4 1 4 5 ∷ id_is 0 0 0x8003 ∷ id_is 0 2 0x8001 ∷ id_is 4 2 0x8002 ∷ id_is 4 4 0x8004 ∷ max_region 6 ∷ flooded_is 1 3 5 ∷ flooded_is 2 3 0 ∷ []) ∷
    -- "6 by 3, areas 1 in columns 0 to 2 and 2 in 3 to 5, merge area 20: ids 1 and 2, max_region 3."
    case compared halves 0 0 20 (ids_in 0 3 0 3 1 ∷ ids_in 3 6 0 3 2 ∷ max_region 3 ∷ []) ∷
    []

-- worked out again: "an id that no span bears takes no number"
unfoldable pub figures : List Case
figures =
    case dense (open_field 0 0) 0 0 0 (max_region 0 ∷ []) ∷
    case dense (open_field 0 0) 1 0 0 (max_region 0 ∷ []) ∷
    case dense (open_field 1 1) 0 0 0 (every_id 0 ∷ max_region 0 ∷ []) ∷
    case dense (open_field 1 1) 1 0 0 (every_id 0x8004 ∷ max_region 0 ∷ []) ∷
    -- "open 3 by 3 gives max_region 1"
    case dense (open_field 3 3) 0 0 0 (max_distance 2 ∷ every_id 1 ∷ max_region 1 ∷ overlap_count 0 ∷ cut_count 0 ∷ []) ∷
    case dense (open_field 3 3) 0 9 0 (max_distance 2 ∷ every_id 1 ∷ max_region 1 ∷ overlap_count 0 ∷ cut_count 0 ∷ []) ∷
    case dense (open_field 3 3) 0 10 0 (every_id 0 ∷ max_region 0 ∷ []) ∷
    case dense (flat 3 3 (λ c. 0)) 0 0 0 (every_id 0 ∷ max_region 0 ∷ []) ∷
    -- "open 5 by 5 with border gives inner ids 1 and max_region 1"
    case dense (open_field 5 5) 1 0 0 (ids_in 1 4 1 4 1 ∷ id_is 0 0 0x8003 ∷ id_is 0 2 0x8001 ∷ id_is 4 2 0x8002 ∷ id_is 4 4 0x8004 ∷ max_region 1 ∷ []) ∷
    case dense halves 0 0 20 (ids_in 0 3 0 3 1 ∷ ids_in 3 6 0 3 2 ∷ max_region 2 ∷ []) ∷
    compared_figures

pub figures_agree : agrees figures ≡ true
unfolding ◌and◌ ◌or◌ when◌then◌else◌ every run holds all_hold agrees figures compared_figures open_con flat open_field
figures_agree = refl

-- the distances of the compared form's figures, in this one
unfoldable pub dense_distances : List Case
dense_distances =
    case dense (open_field 3 3) 0 0 0 (max_distance 2 ∷ raw_is 1 1 2 ∷ blurred_is 1 1 2 ∷ []) ∷
    case dense (open_field 3 3) 0 9 0 (max_distance 2 ∷ raw_is 1 1 2 ∷ blurred_is 1 1 2 ∷ []) ∷
    case dense (flat 3 3 (λ c. 0)) 0 0 0 (raw_is 1 1 2 ∷ blurred_is 1 1 2 ∷ []) ∷
    case dense (open_field 5 5) 0 0 0 (max_distance 4 ∷ blurred_is 2 2 2 ∷ every_id 1 ∷ max_region 1 ∷ []) ∷
    case dense (open_field 7 7) 0 0 0 (max_distance 6 ∷ blurred_is 3 3 4 ∷ blurred_is 2 2 3 ∷ blurred_is 2 3 4 ∷ every_id 1 ∷ max_region 1 ∷ []) ∷
    []

pub dense_distances_agree : agrees dense_distances ≡ true
unfolding ◌and◌ ◌or◌ when◌then◌else◌ every run holds all_hold agrees dense_distances open_con flat open_field
dense_distances_agree = refl
