-- The contour walk.
use Rattle.std.specs.Prelude.{ℕ, zero, suc, ◌+◌, ◌-◌, ◌%◌, Bool, not, List, [], ◌∷◌, ◌++◌, length, get_or, take, ltb, eqb}
use Rattle.rules.specs.Base.{◌and◌, when◌then◌else◌}
use Rattle.rules.specs.Net.{Net, near}

-- "the id across it (0 if none)"
unfoldable pub across : Net → List ℕ → ℕ → ℕ → ℕ
across N ids s d = get_or ids (near N s d) 0

-- "An edge is solid where the id across it (0 if none) differs from the span's own."
unfoldable pub solid : Net → List ℕ → ℕ → ℕ → Bool
solid N ids s d = not (eqb (across N ids s d) (get_or ids s 0))

-- "the first solid direction of four, or none": 4 is none
unfoldable pub first_solid : Net → List ℕ → ℕ → ℕ
first_solid N ids s =
    when solid N ids s 0 then 0 else when solid N ids s 1 then 1 else when solid N ids s 2 then 2 else when solid N ids s 3 then 3 else 4

-- "a walker standing on a span and facing one direction", with the last id listed and the list so far
pub record Walker : Type 0 where
  pub span : ℕ
  pub dir : ℕ
  pub last : ℕ
  pub listed : List ℕ

-- "At a solid edge, an id other than the last listed is listed and the walker turns to d+1; at an open one it steps and turns to d+3."
unfoldable pub stride : Net → List ℕ → Walker → Walker
stride N ids v =
    let s = v.span in
    let d = v.dir in
    let r = across N ids s d in
    when solid N ids s d
    then record { span = s; dir = (d + 1) % 4; last = r; listed = when eqb r v.last then v.listed else v.listed ++ (r ∷ []) }
    else record { span = near N s d; dir = (d + 3) % 4; last = v.last; listed = v.listed }

-- "It ends back at the start, or after 40,000 steps, each turn and each move being one.": at most k steps more, from start s, d
unfoldable pub walk : Net → List ℕ → ℕ → ℕ → ℕ → Walker → Walker
walk N ids s d zero v = v
walk N ids s d (suc k) v =
    let u = stride N ids v in
    let rest = walk N ids s d k u in
    when eqb u.span s and eqb u.dir d then u else rest

-- "A last entry equal to the first is dropped when the list has more than one."
unfoldable pub trim : List ℕ → List ℕ
trim l = let n = length l in when ltb 1 n and eqb (get_or l 0 0) (get_or l (n - 1) 0) then take (n - 1) l else l

-- "The id across the starting edge is listed.": the walker at the end of the walk from edge d of span s
unfoldable pub walk_from : Net → List ℕ → ℕ → ℕ → Walker
walk_from N ids s d =
    let r = across N ids s d in
    walk N ids s d 40000 (record { span = s; dir = d; last = r; listed = r ∷ [] })

unfoldable pub contour : Net → List ℕ → ℕ → ℕ → List ℕ
contour N ids s d = trim (walk_from N ids s d).listed

-- "use up the 40,000 steps without coming back to its start": the walker is not back where its walk ends
unfoldable pub cut_short : Net → List ℕ → ℕ → ℕ → Bool
cut_short N ids s d = let v = walk_from N ids s d in not (eqb v.span s and eqb v.dir d)
