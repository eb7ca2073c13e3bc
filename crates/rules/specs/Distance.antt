-- The distance rules.
use Rattle.std.specs.Prelude.{ℕ, ◌+◌, ◌*◌, ◌-◌, ◌/◌, min, max, List, [], ◌∷◌, get_or, set, leb, ltb, eqb}
use Rattle.rules.specs.Base.{when◌then◌else◌, upto, tab}
use Rattle.rules.specs.Field.{Field, spans, near, corner, area_of}

-- 1 for a neighbour of the span's own area ("area 0 counts as an area")
unfoldable pub same : Field → ℕ → ℕ → ℕ
same F s d = when eqb (area_of F (near F s d)) (area_of F s) then 1 else 0

-- "Start at 65,535. A span with fewer than four neighbours of its own area gets 0"
unfoldable pub start_at : Field → ℕ → ℕ
start_at F s = when ltb (same F s 0 + same F s 1 + same F s 2 + same F s 3) 4 then 0 else 65535

unfoldable pub start : Field → List ℕ
start F = tab (spans F) 0 (start_at F)

-- a span's value; where there is no span, more than any value in the list can be with the addition
abbrev pub far : List ℕ → ℕ → ℕ
far l s = get_or l s 65535

-- "the least of itself, neighbour .. plus 2, neighbour .. plus 3, neighbour .. plus 2, neighbour .. plus 3": of a span's value v and four others
unfoldable pub least_of : ℕ → ℕ → ℕ → ℕ → ℕ → ℕ
least_of v p r q t = min v (min (min (p + 2) (r + 3)) (min (q + 2) (t + 3)))

-- "each span takes the least of itself," neighbour a "plus 2," neighbour a's neighbour b "plus 3," neighbour c "plus 2,"
-- neighbour c's neighbour e "plus 3"
unfoldable pub lower : Field → ℕ → ℕ → ℕ → ℕ → ℕ → List ℕ → List ℕ
lower F a b c e s l =
    let p = near F s a in
    let q = near F s c in
    set l s (least_of (far l s) (far l p) (far l (near F p b)) (far l q) (far l (near F q e)))

-- "Pass 1 goes through rows and columns upward; .. neighbour 0 plus 2, neighbour 0's neighbour 3 plus 3, neighbour 3 plus 2,
-- neighbour 3's neighbour 2 plus 3": the spans stand in that order
unfoldable pub pass1 : Field → List ℕ → List ℕ
pass1 F l = upto (spans F) (lower F 0 3 3 2) l

-- "Pass 2 goes downward in rows and columns, layers still upward: neighbour 2 plus 2, its neighbour 1 plus 3, neighbour 1 plus 2,
-- its neighbour 0 plus 3."
unfoldable pub pass2 : Field → List ℕ → List ℕ
pass2 F l =
    upto (F.w * F.h)
    (λ k l. let c = F.w * F.h - 1 - k in upto (get_or F.count c 0) (λ j l. lower F 2 1 1 0 (get_or F.index c 0 + j) l) l)
    l

unfoldable pub raw : Field → List ℕ
raw F = pass2 F (pass1 F (start F))

-- "max_distance is the greatest raw value, 0 for no spans."
unfoldable pub greatest : List ℕ → ℕ
greatest [] = 0
greatest (x ∷ xs) = max x (greatest xs)

-- "the terms being each direction's neighbour and corner neighbour; a missing corner counts as c, a missing neighbour as 2c for both":
-- what is read past the list is c
unfoldable pub term : Field → List ℕ → ℕ → ℕ → ℕ → ℕ
term F l s c d = get_or l (near F s d) c + get_or l (corner F s d) c

-- "a raw value c of at most 2 stays. Otherwise (c + eight terms + 5) / 9, rounded down"
unfoldable pub blur_at : Field → List ℕ → ℕ → ℕ
blur_at F l s =
    let c = get_or l s 0 in
    when leb c 2 then c else (c + term F l s c 0 + term F l s c 1 + term F l s c 2 + term F l s c 3 + 5) / 9

unfoldable pub blur : Field → List ℕ → List ℕ
blur F l = tab (spans F) 0 (blur_at F l)
