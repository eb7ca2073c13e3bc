-- The merge, in the Rust's steps `can_merge_with`, `merge_regions`, `remove_adjacent_neighbours` and `replace_neighbour`.
use Rattle.std.specs.Prelude.{ℕ, zero, suc, ◌+◌, ◌%◌, Bool, false, not, List, [], ◌∷◌, ◌++◌, map, length, get_or, set, take, drop, leb, ltb, eqb}
use Rattle.rules.specs.Base.{◌and◌, ◌or◌, when◌then◌else◌, upto, many}
use Rattle.rules.specs.Growth.{flagged}
use Rattle.rules.specs.Records.{Rec, at, has, once_all}

-- `can_merge_with`: "of the same area, where each lists the other at most once and has it not as a floor", of a towards b
unfoldable pub suits : Rec → Rec → Bool
suits a b = eqb a.area b.area and leb (many (eqb b.id) a.list) 1 and not (has a.floors b.id)

pub record Pick : Type 0 where
  pub size : ℕ
  pub id : ℕ

-- "picks its smallest neighbour (first listed on ties) that is live, unflagged and without overlap", and suits both ways:
-- record a goes through its list
unfoldable pub picked : List Rec → Rec → List ℕ → Pick → Pick
picked rs a [] p = p
picked rs a (r ∷ l) p =
    let b = at rs r in
    picked rs a l (when not (flagged r) and not (eqb b.id 0) and not b.overlap and ltb b.count p.size and suits a b and suits b a
    then record { size = b.count; id = b.id } else p)

unfoldable pub place : List ℕ → ℕ → ℕ
place [] r = 0
place (x ∷ xs) r = when eqb x r then 0 else suc (place xs r)

-- all but entry i, from the one after it round to the one before it
unfoldable pub around : List ℕ → ℕ → List ℕ
around l i = drop (suc i) l ++ take i l

-- `remove_adjacent_neighbours`: the last and the first are adjacent too; the first number is fuel, which never ends it (`tidy_is`)
unfoldable pub dedup : ℕ → ℕ → List ℕ → List ℕ
dedup zero i l = l
dedup (suc k) i l =
    let n = length l in
    let drops = dedup k i (take i l ++ drop (suc i) l) in
    let keeps = dedup k (suc i) l in
    let rest = when eqb (get_or l i 0) (get_or l ((i + 1) % n) 0) then drops else keeps in
    when ltb i n and ltb 1 n then rest else l

unfoldable pub tidy : List ℕ → List ℕ
tidy l = dedup (suc (length l)) 0 l

-- `merge_regions`: "the neighbour absorbs the record", a absorbs b; the mark is "carried into the record that absorbs it on a merge"
unfoldable pub absorbed : Rec → Rec → Rec
absorbed a b = record {
  id = a.id;
  count = a.count + b.count;
  area = a.area;
  visited = a.visited;
  overlap = a.overlap;
  list = tidy (around a.list (place a.list b.id) ++ around b.list (place b.list a.id));
  floors = once_all a.floors b.floors;
  cut = a.cut or b.cut;
}

-- "the record keeps count 0 and no list", and its mark counts in its absorber alone
unfoldable pub emptied : Rec → Rec
emptied r = record { id = r.id; count = 0; area = r.area; visited = r.visited; overlap = r.overlap; list = []; floors = r.floors; cut = false }

abbrev pub swapped : ℕ → ℕ → List ℕ → List ℕ
swapped old new l = map (λ r. when eqb r old then new else r) l

-- "in live records its id is renamed, own ids too, as in `replace_neighbour`"
unfoldable pub renamed : ℕ → ℕ → Rec → Rec
renamed old new r =
    when eqb r.id 0 then r else
    record {
      id = when eqb r.id old then new else r.id;
      count = r.count;
      area = r.area;
      visited = r.visited;
      overlap = r.overlap;
      list = when has r.list old then tidy (swapped old new r.list) else r.list;
      floors = swapped old new r.floors;
      cut = r.cut;
    }

pub record Merge : Type 0 where
  pub recs : List Rec
  pub merges : ℕ

-- "each live record (id not 0) with spans and without overlap, in order, unless it is above the merge area and lists 0, picks its
-- smallest neighbour .. If each lists the other, the neighbour absorbs the record ..; otherwise nothing happens.": record i;
-- a size of 65,536 is above every count
unfoldable pub merge_one : ℕ → ℕ → Merge → Merge
merge_one area i g =
    let rs = g.recs in
    let a = at rs i in
    let p = picked rs a a.list (record { size = 65536; id = a.id }) in
    let b = at rs p.id in
    when eqb a.id 0 or a.overlap or eqb a.count 0 or (ltb area a.count and has a.list 0) or eqb p.id a.id
    or not (has b.list a.id and has a.list b.id) then g else
    record { recs = map (renamed a.id p.id) (set (set rs p.id (absorbed b a)) i (emptied a)); merges = suc g.merges }

-- "in rounds until one merges nothing": the number is fuel, which never ends it (`merged_settles`)
unfoldable pub merged : ℕ → ℕ → List Rec → List Rec
merged area zero rs = rs
merged area (suc k) rs =
    let g = upto (length rs) (merge_one area) (record { recs = rs; merges = 0 }) in
    let rest = merged area k g.recs in
    when eqb g.merges 0 then rs else rest
