-- Files and what is printed for them, by computation: document 01's example whole, and each cause of 20 and 21.
use Rattle.std.specs.Prelude.{ℕ, zero, suc, ◌*◌, ◌/◌, ◌%◌, ◌≡◌, refl, Bool, true, false, List, [], ◌∷◌, ◌++◌, take, drop, eqb}
use Rattle.rules.specs.Base.{◌and◌, ◌or◌, when◌then◌else◌, upto, tab, every, any, keep, many}
use Rattle.rules.specs.Field.{cell_of, cell_to, leaves, con_of, near, corner, area_of}
use Rattle.rules.specs.Net.{neighbours_of}
use Rattle.rules.specs.Net as net
use Rattle.rules.specs.Refusals.{good_cells, good_con, good_back, too_wide, too_many, wrong_length, wrong_cells, wrong_reach, wrong_back, refusal, too_short, too_far, region_refusal}
use Rattle.rules.specs.Distance.{same, start_at, start, least_of, lower, pass1, pass2, raw, greatest, term, blur_at, blur}
use Rattle.rules.specs.Growth.{walkable, put, paint_of, painted, first_id, blank, sorted, remains, look, takes, finds, wrote, written, round, rounds, expand, sees, or_else, objects, pushed, visit, flow, flood, floods, loaded, turn, grown, exceeds, strays, rounds_stray, expand_strays, floods_run_out, turn_stops, turns_stop, stops}
use Rattle.rules.specs.Contour.{across, solid, first_solid, stride, walk, trim, walk_from, contour, cut_short}
use Rattle.rules.specs.Records.{fresh, at, once, once_all, others, counted, add_span, records}
use Rattle.rules.specs.Filter.{seen, removed, reach, gather, total, remove_all, filter_one, filtered}
use Rattle.rules.specs.Merge.{suits, picked, place, around, dedup, tidy, absorbed, emptied, renamed, merge_one, merged}
use Rattle.rules.specs.Numbering.{live, number_of, overlaps, cuts, numbered, regions, in_use, rank, condensed, formed}
use Rattle.rules.specs.Outcomes.{distance_outcome, region_outcome}
use Rattle.rules.specs.File.{word, with_cell, with_span, read_on, empty_field, read_file}
use Rattle.rules.specs.Listing.{digits, text, joined, cell_text, row_text, rows_text, listing, refused_line, ran, answered, printed}

-- ---------------------------------------------------------------- files

pub header : ℕ → ℕ → ℕ → List ℕ
header w h border = 1 ∷ (w % 256) ∷ (w / 256) ∷ (h % 256) ∷ (h / 256) ∷ border ∷ 0 ∷ 0 ∷ 0 ∷ 0 ∷ 0 ∷ []

pub cell : ℕ → List ℕ
cell k = 2 ∷ k ∷ []

-- a span of area 1 by its connections
pub span : ℕ → ℕ → ℕ → ℕ → List ℕ
span a b c e = 3 ∷ 1 ∷ a ∷ b ∷ c ∷ e ∷ []

pub alone : List ℕ
alone = span 255 255 255 255

pub end : List ℕ
end = 4 ∷ []

-- one cell with one span
abbrev pub one : List ℕ → List ℕ
one more = header 1 1 0 ++ (cell 1 ++ (span 255 255 255 255 ++ more))

-- one span a cell, all connected: the row of a cell c, and its cells from c on
pub open_span : ℕ → ℕ → ℕ → List ℕ
open_span w h c =
    let to : ℕ → ℕ = λ d. when leaves w h c d then 255 else 0 in
    cell 1 ++ span (to 0) (to 1) (to 2) (to 3)

pub open_spans : ℕ → ℕ → ℕ → ℕ → List ℕ
open_spans w h zero c = []
open_spans w h (suc k) c = open_span w h c ++ open_spans w h k (suc c)

abbrev pub open_file : ℕ → ℕ → ℕ → List ℕ
open_file w h border = header w h border ++ (open_spans w h (w * h) 0 ++ (4 ∷ []))

-- ---------------------------------------------------------------- what is printed

pub same_bytes : List ℕ → List ℕ → Bool
same_bytes [] [] = true
same_bytes [] (y ∷ ys) = false
same_bytes (x ∷ xs) [] = false
same_bytes (x ∷ xs) (y ∷ ys) = eqb x y and same_bytes xs ys

pub record Print : Type 0 where
  pub file : List ℕ
  pub out : List ℕ

-- each file prints what stands beside it
pub prints : List Print → Bool
unfolding ◌and◌ ◌or◌ when◌then◌else◌ upto tab every any keep many cell_of cell_to leaves con_of near corner area_of neighbours_of net.near net.corner net.area_of
    good_cells good_con good_back too_wide too_many wrong_length wrong_cells wrong_reach wrong_back refusal too_short too_far region_refusal
    same start_at start least_of lower pass1 pass2 raw greatest term blur_at blur
    walkable put paint_of painted first_id blank sorted remains look takes finds wrote written round rounds expand sees or_else objects pushed visit flow flood floods loaded turn grown
    exceeds strays rounds_stray expand_strays floods_run_out turn_stops turns_stop stops
    across solid first_solid stride walk trim walk_from contour cut_short fresh at once once_all others counted add_span records
    seen removed reach gather total remove_all filter_one filtered
    suits picked place around dedup tidy absorbed emptied renamed merge_one merged live number_of overlaps cuts numbered regions in_use rank condensed formed
    distance_outcome region_outcome word with_cell with_span read_on empty_field read_file
    digits text joined cell_text row_text rows_text listing refused_line ran answered printed
prints [] = true
prints (p ∷ ps) = same_bytes (printed p.file) p.out and prints ps

abbrev pub print : List ℕ → List ℕ → Print
print file out = record { file = file; out = out }

pub examples : List Print
examples =
    -- "An open 3 by 3 field prints, whole"
    print (open_file 3 3 0) (text "max_distance 2 max_region 1 overlaps 0 cut 0\n1 1 1\n1 1 1\n1 1 1\n") ∷
    -- "Ids are decimal, flagged ones too"
    print (open_file 1 1 1) (text "max_distance 0 max_region 0 overlaps 0 cut 0\n32772\n") ∷
    -- "a row is a line, empty if w is 0"
    print (header 0 2 0 ++ end) (text "max_distance 0 max_region 0 overlaps 0 cut 0\n\n\n") ∷
    print (header 2 0 0 ++ end) (text "max_distance 0 max_region 0 overlaps 0 cut 0\n") ∷
    -- "Layers in a cell are joined by `/`; an empty cell is `-`."
    print (header 2 1 0 ++ (cell 2 ++ (alone ++ (alone ++ (cell 0 ++ end))))) (text "max_distance 0 max_region 0 overlaps 0 cut 0\n0/0 -\n") ∷
    -- 20: nothing; unknown kind; records out of place; cut short; bytes after the end
    print [] (text "refused 20\n") ∷
    print (0 ∷ drop 1 (one end)) (text "refused 20\n") ∷
    print (one (5 ∷ [])) (text "refused 20\n") ∷
    print (cell 1) (text "refused 20\n") ∷
    print (header 1 1 0 ++ alone) (text "refused 20\n") ∷
    print (header 1 1 0 ++ end) (text "refused 20\n") ∷
    print (header 1 1 0 ++ (cell 1 ++ (cell 1 ++ end))) (text "refused 20\n") ∷
    print (one (alone ++ end)) (text "refused 20\n") ∷
    print (one (header 1 1 0)) (text "refused 20\n") ∷
    print (one []) (text "refused 20\n") ∷
    print (take 10 (one end)) (text "refused 20\n") ∷
    print (take 12 (one end)) (text "refused 20\n") ∷
    print (take 18 (one end)) (text "refused 20\n") ∷
    print (one (4 ∷ 4 ∷ [])) (text "refused 20\n") ∷
    -- 21: at the header that has 1,025 cells, at the cell that passes 200 spans, also where the file ends there
    print (header 41 25 0) (text "refused 21\n") ∷
    print (header 1 1 0 ++ cell 201) (text "refused 21\n") ∷
    print (header 32 32 0) (text "refused 20\n") ∷
    print (header 1 1 0 ++ cell 200) (text "refused 20\n") ∷
    -- first met in the file: a cell out of place before its count; then 1 to 8
    print (header 0 0 0 ++ cell 201) (text "refused 20\n") ∷
    print (header 257 0 0 ++ end) (text "refused 1\n") ∷
    print (header 1 1 0 ++ (cell 1 ++ (span 0 255 255 255 ++ end))) (text "refused 5\n") ∷
    print (header 2 1 0 ++ (cell 1 ++ (span 255 255 0 255 ++ (cell 1 ++ (alone ++ end))))) (text "refused 6\n") ∷
    []

pub examples_agree : prints examples ≡ true
unfolding ◌and◌ when◌then◌else◌ tab leaves text prints examples same_bytes header cell span alone end open_span open_spans
examples_agree = refl
