-- The merge with floors that stay as they were: "a has b as a floor" is found through the present ids.
use Rattle.std.specs.Prelude.{ℕ, zero, suc, ◌+◌, Bool, false, not, List, [], ◌∷◌, map, ◌++◌, length, get_or, set, eqb, leb, ltb}
use Rattle.rules.specs.Base.{◌and◌, ◌or◌, when◌then◌else◌, any, many, upto}
use Rattle.rules.specs.Growth.{flagged}
use Rattle.rules.specs.Records.{Rec, at, has}
use Rattle.rules.specs.Merge.{Pick, place, around, tidy, swapped, emptied, Merge}

-- a floor whose present id is b
unfoldable pub floor_is : List ℕ → ℕ → ℕ → Bool
floor_is ids b f = eqb (get_or ids f 0) b

-- some record of id a has a floor of id b
unfoldable pub floor_in : List ℕ → List Rec → ℕ → ℕ → Bool
floor_in ids [] a b = false
floor_in ids (r ∷ rs) a b = eqb r.id a and any (floor_is ids b) r.floors or floor_in ids rs a b

unfoldable pub ids_of : List Rec → List ℕ
ids_of rs = map (λ r. r.id) rs

unfoldable pub suits_f : List Rec → Rec → Rec → Bool
suits_f rs a b = eqb a.area b.area and leb (many (eqb b.id) a.list) 1 and not (floor_in (ids_of rs) rs a.id b.id)

-- may b, which is not flagged, be picked for a, in place of one of that size?
unfoldable pub better : List Rec → Rec → Rec → ℕ → Bool
better rs a b size = not (eqb b.id 0) and not b.overlap and ltb b.count size and suits_f rs a b and suits_f rs b a

-- b stands at r
unfoldable pub pick_one : List Rec → Rec → ℕ → Rec → Pick → Pick
pick_one rs a r b p = when flagged r then p else when better rs a b p.size then record { size = b.count; id = b.id } else p

unfoldable pub picked_f : List Rec → Rec → List ℕ → Pick → Pick
picked_f rs a [] p = p
picked_f rs a (r ∷ l) p = picked_f rs a l (pick_one rs a r (at rs r) p)

unfoldable pub absorbed_f : Rec → Rec → Rec
absorbed_f a b = record {
  id = a.id;
  count = a.count + b.count;
  area = a.area;
  visited = a.visited;
  overlap = a.overlap;
  list = tidy (around a.list (place a.list b.id) ++ around b.list (place b.list a.id));
  floors = a.floors;
  cut = a.cut or b.cut;
}

unfoldable pub renamed_f : ℕ → ℕ → Rec → Rec
renamed_f old new r =
    when eqb r.id 0 then r else
    record {
      id = when eqb r.id old then new else r.id;
      count = r.count;
      area = r.area;
      visited = r.visited;
      overlap = r.overlap;
      list = when has r.list old then tidy (swapped old new r.list) else r.list;
      floors = r.floors;
      cut = r.cut;
    }

-- record n absorbs record i, whose id old is renamed
unfoldable pub merged_pair : List Rec → ℕ → ℕ → ℕ → List Rec
merged_pair rs i old n = map (renamed_f old n) (set (set rs n (absorbed_f (at rs n) (at rs i))) i (emptied (at rs i)))

-- "each live record (id not 0) with spans and without overlap .. unless it is above the merge area and lists 0"
unfoldable pub may_merge : ℕ → Rec → Bool
may_merge area a = not (eqb a.id 0 or a.overlap or eqb a.count 0 or (ltb area a.count and has a.list 0))

-- "If each lists the other, the neighbour absorbs the record": neighbour n, record i
unfoldable pub try_merge : ℕ → ℕ → Merge → Merge
try_merge i n g =
    let a = at g.recs i in
    let b = at g.recs n in
    when not (has b.list a.id and has a.list b.id) then g
    else record { recs = merged_pair g.recs i a.id n; merges = suc g.merges }

unfoldable pub merge_one_f : ℕ → ℕ → Merge → Merge
merge_one_f area i g =
    let rs = g.recs in
    let a = at rs i in
    let p = picked_f rs a a.list (record { size = 65536; id = a.id }) in
    let b = at rs p.id in
    when eqb a.id 0 or a.overlap or eqb a.count 0 or (ltb area a.count and has a.list 0) or eqb p.id a.id
    or not (has b.list a.id and has a.list b.id) then g else
    record { recs = map (renamed_f a.id p.id) (set (set rs p.id (absorbed_f b a)) i (emptied a)); merges = suc g.merges }

unfoldable pub merged_f : ℕ → ℕ → List Rec → List Rec
merged_f area zero rs = rs
merged_f area (suc k) rs =
    let g = upto (length rs) (merge_one_f area) (record { recs = rs; merges = 0 }) in
    let rest = merged_f area k g.recs in
    when eqb g.merges 0 then rs else rest
