-- What the program prints.
use Rattle.std.specs.Prelude.{ℕ, zero, suc, ◌+◌, ◌*◌, ◌/◌, ◌%◌, List, [], ◌∷◌, ◌++◌, get_or, replicate, ltb, eqb}
use Prim.Native.Char.{code}
use Prim.Native.String.{String, len, char_at}
use Rattle.rules.specs.Base.{when◌then◌else◌, tab}
use Rattle.rules.specs.Field.{Field, spans}
use Rattle.rules.specs.Numbering.{dense}
use Rattle.rules.specs.Outcomes.{RegionOutcome, distance_outcome, region_outcome}
use Rattle.rules.specs.File.{Level, Reading, refused, described, read_file}

-- ---------------------------------------------------------------- text, as ASCII codes

-- "Ids are decimal": k digits at most, which five are for a u16
unfoldable pub digits : ℕ → ℕ → List ℕ
digits zero v = []
digits (suc k) v = (when ltb v 10 then [] else digits k (v / 10)) ++ ((48 + v % 10) ∷ [])

abbrev pub decimal : ℕ → List ℕ
decimal v = digits 5 v

-- a text's bytes
unfoldable pub text : String → List ℕ
text s = tab (len s) 0 (λ i. code (char_at s i))

-- the texts one after the other, with a byte between each two
unfoldable pub joined : ℕ → List (List ℕ) → List ℕ
joined between [] = []
joined between (t ∷ []) = t
joined between (t ∷ (u ∷ ts)) = t ++ (between ∷ joined between (u ∷ ts))

-- ---------------------------------------------------------------- the listing

-- "Layers in a cell are joined by `/`; an empty cell is `-`.": the k ids of a cell from place i on
unfoldable pub cell_text : List ℕ → ℕ → ℕ → List ℕ
cell_text ids i k = when eqb k 0 then 45 ∷ [] else joined 47 (tab k i (λ s. decimal (get_or ids s 0)))

-- "a row is a line, empty if w is 0"
unfoldable pub row_text : Field → List ℕ → ℕ → List ℕ
row_text F ids z = joined 32 (tab F.w (z * F.w) (λ c. cell_text ids (get_or F.index c 0) (get_or F.count c 0))) ++ (10 ∷ [])

-- the rows from row z on, k of them
unfoldable pub rows_text : Field → List ℕ → ℕ → ℕ → List ℕ
rows_text F ids zero z = []
rows_text F ids (suc k) z = row_text F ids z ++ rows_text F ids k (suc z)

-- the first line, which "ends with `cut` and that number", then the rows
unfoldable pub listing : Field → ℕ → RegionOutcome → List ℕ
listing F most r =
    text "max_distance " ++ (decimal most ++ (text " max_region " ++ (decimal r.most ++ (text " overlaps " ++ (decimal r.over
    ++ (text " cut " ++ (decimal r.cut ++ (10 ∷ []))))))))
    ++ rows_text F r.ids F.h 0

-- "A refused run prints the one line `refused` and its number."
unfoldable pub refused_line : ℕ → List ℕ
refused_line n = text "refused " ++ (decimal n ++ (10 ∷ []))

-- ---------------------------------------------------------------- the program

-- "It runs both entries and prints. .. First met in the file; then 1 to 8.": lists of zeros are lent, the workspace as long as it must be
unfoldable pub ran : Level → List ℕ
ran v =
    let F = v.field in
    let zeros : List ℕ = replicate (spans F) 0 in
    let a = distance_outcome F zeros zeros in
    let b = region_outcome dense F a.blurred a.most v.sizes (replicate (128 * spans F + 4096) 0) zeros in
    let second = when eqb b.refused 0 then listing F a.most b else refused_line b.refused in
    when eqb a.refused 0 then second else refused_line a.refused

unfoldable pub answered : Reading → List ℕ
answered (refused n) = refused_line n
answered (described v) = ran v

-- what is printed for a file of these bytes
unfoldable pub printed : List ℕ → List ℕ
printed bytes = answered (read_file bytes)
