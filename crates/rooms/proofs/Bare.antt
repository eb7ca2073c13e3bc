-- "The ids don't change.": the mark of a contour cut short is only carried. Erasing the marks before a step or after it gives the same records,
-- since no step looks at a mark; so ids, max_region and the overlap count are those of the rules without the mark. Assumes nothing.
use Prim.Native.Nat.{ℕ, zero, suc}
use mathlib.Core.Path.{◌≡◌, refl, sym, ap, ◌∙◌}
use mathlib.Core.Bool.{Bool, true, false, not}
use mathlib.Core.List.{List, [], ◌∷◌, ◌++◌, map}
use lib.ListN.{length, get_or, set, length-map}
use lib.Dec.{eqb, ltb}
use Rattle.rules.specs.Base.{◌and◌, ◌or◌, when◌then◌else◌, upto, tab, any}
use Rattle.rules.specs.Field.{Field, spans}
use Rattle.rules.specs.Growth.{flagged, plain}
use Rattle.rules.specs.Records.{Rec, fresh, at, has, once, counted, add_span, records}
use Rattle.rules.specs.Filter.{seen, removed, Gather, reach, gather, total, remove_all, filter_one, filtered}
use Rattle.rules.specs.Merge.{suits, Pick, picked, absorbed, emptied, renamed, Merge, merge_one, merged}
use Rattle.rules.specs.Numbering.{live, overlaps, cuts, Regions, numbered, regions}
use Rattle.laws.proofs.MergeEnds.{at_map}
use Rattle.rooms.specs.Bare.{bare, bare_records, bare_regions}

-- ---------------------------------------------------------------- lists

if_of : {A B : Type 0} (f : A → B) (b : Bool) (x y : A) → f (when b then x else y) ≡ (when b then f x else f y)
unfolding when◌then◌else◌
if_of f true x y = refl
if_of f false x y = refl

if_then : {A : Type 0} (b : Bool) (x x' y y' : A) → x ≡ x' → y ≡ y' → (when b then x else y) ≡ (when b then x' else y')
if_then b x x' y y' e f = rw (e, f)

any_same : (p q : ℕ → Bool) → ((x : ℕ) → p x ≡ q x) → (l : List ℕ) → any p l ≡ any q l
unfolding any
any_same p q h [] = refl
any_same p q h (x ∷ l) = rw (h x, any_same p q h l)

upto_of : {A : Type 0} (f : ℕ → A → A) (h : A → A) → ((i : ℕ) (a : A) → f i (h a) ≡ h (f i a)) → (n : ℕ) (a : A) → upto n f (h a) ≡ h (upto n f a)
unfolding upto
upto_of f h e zero a = refl
upto_of f h e (suc n) a = ap (f n) (upto_of f h e n a) ∙ e n (upto n f a)

at_bare : (rs : List Rec) (i : ℕ) → at (map bare rs) i ≡ bare (at rs i)
unfolding bare fresh
at_bare rs i = at_map bare refl rs i

set-bare : (rs : List Rec) (i : ℕ) (r : Rec) → map bare (set rs i r) ≡ set (map bare rs) i (bare r)
set-bare [] i r = refl
set-bare (x ∷ rs) zero r = refl
set-bare (x ∷ rs) (suc i) r = ap (λ (l : List Rec). bare x ∷ l) (set-bare rs i r)

twice : (rs : List Rec) → map bare (map bare rs) ≡ map bare rs
unfolding bare
twice [] = refl
twice (r ∷ rs) = ap (λ (l : List Rec). bare r ∷ l) (twice rs)

-- ---------------------------------------------------------------- the filter

seen-bare : (r : Rec) → seen (bare r) ≡ bare (seen r)
unfolding bare seen
seen-bare r = refl

removed-bare : (r : Rec) → removed (bare r) ≡ bare (removed r)
unfolding bare removed
removed-bare r = refl

-- record i is another, before or after
put-bare : (f : Rec → Rec) → ((r : Rec) → f (bare r) ≡ bare (f r)) → (rs : List Rec) (i : ℕ) → set (map bare rs) i (f (at (map bare rs) i)) ≡ map bare (set rs i (f (at rs i)))
put-bare f e rs i = ap (λ (r : Rec). set (map bare rs) i (f r)) (at_bare rs i) ∙ ap (set (map bare rs) i) (e (at rs i)) ∙ sym (set-bare rs i (f (at rs i)))

abbrev bare_gather : Gather → Gather
bare_gather g = record { todo = g.todo; recs = map bare g.recs; found = g.found }

abbrev pushed : ℕ → Gather → Gather
pushed r g = record { todo = (at g.recs r).id ∷ g.todo; recs = set g.recs r (seen (at g.recs r)); found = g.found }

-- what is asked of a record does not hang on its mark
id_bare : (rs : List Rec) (i : ℕ) → (at (map bare rs) i).id ≡ (at rs i).id
unfolding bare
id_bare rs i = ap (λ (r : Rec). r.id) (at_bare rs i)

visited_bare : (rs : List Rec) (i : ℕ) → (at (map bare rs) i).visited ≡ (at rs i).visited
unfolding bare
visited_bare rs i = ap (λ (r : Rec). r.visited) (at_bare rs i)

count_bare : (rs : List Rec) (i : ℕ) → (at (map bare rs) i).count ≡ (at rs i).count
unfolding bare
count_bare rs i = ap (λ (r : Rec). r.count) (at_bare rs i)

list_bare : (rs : List Rec) (i : ℕ) → (at (map bare rs) i).list ≡ (at rs i).list
unfolding bare
list_bare rs i = ap (λ (r : Rec). r.list) (at_bare rs i)

pushed-bare : (r : ℕ) (g : Gather) → pushed r (bare_gather g) ≡ bare_gather (pushed r g)
pushed-bare r g =
    ap (λ (x : ℕ). record { todo = x ∷ g.todo; recs = set (map bare g.recs) r (seen (at (map bare g.recs) r)); found = g.found }) (id_bare g.recs r)
    ∙ ap (λ (l : List Rec). record { todo = (at g.recs r).id ∷ g.todo; recs = l; found = g.found }) (put-bare seen seen-bare g.recs r)

reach-bare : (l : List ℕ) (g : Gather) → reach l (bare_gather g) ≡ bare_gather (reach l g)
unfolding reach
reach-bare [] g = refl
reach-bare (r ∷ l) g =
    let c : Bool = flagged r or (at g.recs r).visited or eqb (at g.recs r).id 0 in
    ap (λ (b : Bool). reach l (when b then bare_gather g else pushed r (bare_gather g))) (rw (visited_bare g.recs r, id_bare g.recs r))
    ∙ ap (λ (x : Gather). reach l (when c then bare_gather g else x)) (pushed-bare r g)
    ∙ ap (reach l) (sym (if_of bare_gather c g (pushed r g))) ∙ reach-bare l (when c then g else pushed r g)

gather-bare : (k : ℕ) (todo : List ℕ) (rs : List Rec) (found : List ℕ) → gather k todo (map bare rs) found ≡ bare_gather (gather k todo rs found)
unfolding gather
gather-bare zero todo rs found = refl
gather-bare (suc k) [] rs found = refl
gather-bare (suc k) (i ∷ is) rs found =
    let g : Gather = record { todo = is; recs = rs; found = found ++ (i ∷ []) } in
    let next : Gather → Gather = λ h. gather k h.todo h.recs h.found in
    ap (λ (l : List ℕ). next (reach l (bare_gather g))) (list_bare rs i) ∙ ap next (reach-bare (at rs i).list g)
    ∙ gather-bare k (reach (at rs i).list g).todo (reach (at rs i).list g).recs (reach (at rs i).list g).found

total-bare : (rs : List Rec) (l : List ℕ) → total (map bare rs) l ≡ total rs l
unfolding total
total-bare rs [] = refl
total-bare rs (i ∷ l) = rw (count_bare rs i, total-bare rs l)

remove_bare : (l : List ℕ) (rs : List Rec) → remove_all l (map bare rs) ≡ map bare (remove_all l rs)
unfolding remove_all
remove_bare [] rs = refl
remove_bare (i ∷ l) rs = ap (remove_all l) (put-bare removed removed-bare rs i) ∙ remove_bare l (set rs i (removed (at rs i)))

-- a group and what becomes of it
abbrev small : ℕ → List Rec → List ℕ → Bool
small least rs l = ltb (total rs l) least and not (any (λ j. any flagged (at rs j).list) l)

small-bare : (least : ℕ) (rs : List Rec) (l : List ℕ) → small least (map bare rs) l ≡ small least rs l
small-bare least rs l =
    let e : any (λ j. any flagged (at (map bare rs) j).list) l ≡ any (λ j. any flagged (at rs j).list) l =
    any_same _ _ (λ j. ap (any flagged) (list_bare rs j)) l in
    rw (total-bare rs l, e)

abbrev judged : ℕ → List Rec → Gather → List Rec
judged least rs g = when small least rs g.found then remove_all g.found g.recs else g.recs

judged_bare : (least : ℕ) (rs : List Rec) (g : Gather) → judged least (map bare rs) (bare_gather g) ≡ map bare (judged least rs g)
judged_bare least rs g =
    ap (λ (b : Bool). when b then remove_all g.found (map bare g.recs) else map bare g.recs) (small-bare least rs g.found)
    ∙ ap (λ (x : List Rec). when small least rs g.found then x else map bare g.recs) (remove_bare g.found g.recs)
    ∙ sym (if_of (map bare) (small least rs g.found) (remove_all g.found g.recs) g.recs)

group_bare : (i : ℕ) (rs : List Rec) → gather (suc (length (map bare rs))) (i ∷ []) (set (map bare rs) i (seen (at (map bare rs) i))) []
    ≡ bare_gather (gather (suc (length rs)) (i ∷ []) (set rs i (seen (at rs i))) [])
group_bare i rs = rw (length-map rs bare, put-bare seen seen-bare rs i) (gather-bare (suc (length rs)) (i ∷ []) (set rs i (seen (at rs i))) [])

passed : List Rec → ℕ → Bool
passed rs i = eqb (at rs i).id 0 or eqb (at rs i).count 0 or (at rs i).visited

passed_bare : (rs : List Rec) (i : ℕ) → passed (map bare rs) i ≡ passed rs i
unfolding passed
passed_bare rs i = rw (id_bare rs i, count_bare rs i, visited_bare rs i)

filter-one-bare : (least i : ℕ) (rs : List Rec) → filter_one least i (map bare rs) ≡ map bare (filter_one least i rs)
unfolding filter_one passed
filter-one-bare least i rs =
    let g = gather (suc (length rs)) (i ∷ []) (set rs i (seen (at rs i))) [] in
    ap (λ (b : Bool). when b then map bare rs else judged least (map bare rs) (gather (suc (length (map bare rs))) (i ∷ []) (set (map bare rs) i (seen (at (map bare rs) i))) []))
    (passed_bare rs i)
    ∙ ap (λ (x : List Rec). when passed rs i then map bare rs else x) (ap (judged least (map bare rs)) (group_bare i rs) ∙ judged_bare least rs g)
    ∙ sym (if_of (map bare) (passed rs i) rs (judged least rs g))

pub filtered-bare : (least : ℕ) (rs : List Rec) → filtered least (map bare rs) ≡ map bare (filtered least rs)
unfolding filtered
filtered-bare least rs = rw (length-map rs bare) (upto_of (filter_one least) (map bare) (filter-one-bare least) (length rs) rs)

-- ---------------------------------------------------------------- the merge

suits-bare : (a b : Rec) → suits (bare a) (bare b) ≡ suits a b
unfolding bare suits
suits-bare a b = refl

absorbed-bare : (a b : Rec) → absorbed (bare a) (bare b) ≡ bare (absorbed a b)
unfolding bare absorbed ◌or◌
absorbed-bare a b = refl

emptied-bare : (a : Rec) → emptied (bare a) ≡ bare (emptied a)
unfolding bare emptied
emptied-bare a = refl

renamed-bare : (old new : ℕ) (r : Rec) → renamed old new (bare r) ≡ bare (renamed old new r)
unfolding bare renamed
renamed-bare old new r = sym (if_of bare (eqb r.id 0) r _)

rename_all_bare : (old new : ℕ) (rs : List Rec) → map (renamed old new) (map bare rs) ≡ map bare (map (renamed old new) rs)
rename_all_bare old new [] = refl
rename_all_bare old new (r ∷ rs) =
    ap (λ (x : Rec). x ∷ map (renamed old new) (map bare rs)) (renamed-bare old new r) ∙ ap (λ (l : List Rec). bare (renamed old new r) ∷ l) (rename_all_bare old new rs)

-- whether b, at r, may be picked for a
abbrev fits : Rec → ℕ → Rec → ℕ → Bool
fits a r b size = not (flagged r) and not (eqb b.id 0) and not b.overlap and ltb b.count size and suits a b and suits b a

fits_bare : (a : Rec) (r : ℕ) (b : Rec) (size : ℕ) → fits (bare a) r (bare b) size ≡ fits a r b size
unfolding bare
fits_bare a r b size = rw (suits-bare a b, suits-bare b a)

abbrev taken : Rec → ℕ → Rec → Pick → Pick
taken a r b p = when fits a r b p.size then record { size = b.count; id = b.id } else p

taken-bare : (a : Rec) (r : ℕ) (b : Rec) (p : Pick) → taken (bare a) r (bare b) p ≡ taken a r b p
unfolding bare
taken-bare a r b p = ap (λ (x : Bool). when x then record { size = b.count; id = b.id } else p) (fits_bare a r b p.size)

picked-bare : (rs : List Rec) (a : Rec) (l : List ℕ) (p : Pick) → picked (map bare rs) (bare a) l p ≡ picked rs a l p
unfolding picked
picked-bare rs a [] p = refl
picked-bare rs a (r ∷ l) p =
    ap (λ (b : Rec). picked (map bare rs) (bare a) l (taken (bare a) r b p)) (at_bare rs r)
    ∙ ap (picked (map bare rs) (bare a) l) (taken-bare a r (at rs r) p) ∙ picked-bare rs a l (taken a r (at rs r) p)

abbrev bare_merge : Merge → Merge
bare_merge g = record { recs = map bare g.recs; merges = g.merges }

-- record i, which is a, and its pick p, which is b
stays : ℕ → Rec → Pick → Rec → Bool
stays area a p b =
    eqb a.id 0 or a.overlap or eqb a.count 0 or (ltb area a.count and has a.list 0) or eqb p.id a.id
    or not (has b.list a.id and has a.list b.id)

stays-bare : (area : ℕ) (a : Rec) (p : Pick) (b : Rec) → stays area (bare a) p (bare b) ≡ stays area a p b
unfolding bare stays
stays-bare area a p b = refl

joins : ℕ → Rec → Pick → Rec → Merge → Merge
joins i a p b g =
    record { recs = map (renamed a.id p.id) (set (set g.recs p.id (absorbed b a)) i (emptied a)); merges = suc g.merges }

joins-bare : (i : ℕ) (a : Rec) (p : Pick) (b : Rec) (g : Merge) → joins i (bare a) p (bare b) (bare_merge g) ≡ bare_merge (joins i a p b g)
unfolding bare joins
joins-bare i a p b g =
    let rs = g.recs in
    let e : set (set (map bare rs) p.id (absorbed (bare b) (bare a))) i (emptied (bare a)) ≡ map bare (set (set rs p.id (absorbed b a)) i (emptied a)) =
    ap (λ (x : Rec). set (set (map bare rs) p.id x) i (emptied (bare a))) (absorbed-bare b a)
    ∙ ap (set (set (map bare rs) p.id (bare (absorbed b a))) i) (emptied-bare a)
    ∙ ap (λ (l : List Rec). set l i (bare (emptied a))) (sym (set-bare rs p.id (absorbed b a)))
    ∙ sym (set-bare (set rs p.id (absorbed b a)) i (emptied a)) in
    ap (λ (l : List Rec). record { recs = map (renamed a.id p.id) l; merges = suc g.merges }) e
    ∙ ap (λ (l : List Rec). record { recs = l; merges = suc g.merges }) (rename_all_bare a.id p.id (set (set rs p.id (absorbed b a)) i (emptied a)))

-- one merge, of a record and its pick
tried : ℕ → ℕ → Rec → Pick → Rec → Merge → Merge
tried area i a p b g = when stays area a p b then g else joins i a p b g

tried_bare : (area i : ℕ) (a : Rec) (p : Pick) (b : Rec) (g : Merge) → tried area i (bare a) p (bare b) (bare_merge g) ≡ bare_merge (tried area i a p b g)
unfolding tried
tried_bare area i a p b g =
    ap (λ (x : Bool). when x then bare_merge g else joins i (bare a) p (bare b) (bare_merge g)) (stays-bare area a p b)
    ∙ ap (λ (x : Merge). when stays area a p b then bare_merge g else x) (joins-bare i a p b g)
    ∙ sym (if_of bare_merge (stays area a p b) g (joins i a p b g))

-- the pick of record a
choice : List Rec → Rec → Pick
choice rs a = picked rs a a.list (record { size = 65536; id = a.id })

choice_bare : (rs : List Rec) (a : Rec) → choice (map bare rs) (bare a) ≡ choice rs a
unfolding bare choice
choice_bare rs a = picked-bare rs a a.list (record { size = 65536; id = a.id })

merge_one_is : (area i : ℕ) (g : Merge) → merge_one area i g ≡ tried area i (at g.recs i) (choice g.recs (at g.recs i)) (at g.recs (choice g.recs (at g.recs i)).id) g
unfolding merge_one tried stays joins choice
merge_one_is area i g = refl

merge_one-bare : (area i : ℕ) (g : Merge) → merge_one area i (bare_merge g) ≡ bare_merge (merge_one area i g)
merge_one-bare area i g =
    let rs = g.recs in
    let a = at rs i in
    let p = choice rs a in
    merge_one_is area i (bare_merge g)
    ∙ ap (λ (x : Rec). tried area i x (choice (map bare rs) x) (at (map bare rs) (choice (map bare rs) x).id) (bare_merge g)) (at_bare rs i)
    ∙ ap (λ (x : Pick). tried area i (bare a) x (at (map bare rs) x.id) (bare_merge g)) (choice_bare rs a)
    ∙ ap (λ (x : Rec). tried area i (bare a) p x (bare_merge g)) (at_bare rs p.id)
    ∙ tried_bare area i a p (at rs p.id) g ∙ ap bare_merge (sym (merge_one_is area i g))

pub merged-bare : (area k : ℕ) (rs : List Rec) → merged area k (map bare rs) ≡ map bare (merged area k rs)
unfolding merged
merged-bare area zero rs = refl
merged-bare area (suc k) rs =
    let g = upto (length rs) (merge_one area) (record { recs = rs; merges = 0 }) in
    let e : upto (length (map bare rs)) (merge_one area) (record { recs = map bare rs; merges = 0 }) ≡ bare_merge g =
    rw (length-map rs bare) (upto_of (merge_one area) bare_merge (merge_one-bare area) (length rs) (record { recs = rs; merges = 0 })) in
    ap (λ (h : Merge). when eqb h.merges 0 then map bare rs else merged area k h.recs) e
    ∙ ap (λ (l : List Rec). when eqb g.merges 0 then map bare rs else l) (merged-bare area k g.recs)
    ∙ sym (if_of (map bare) (eqb g.merges 0) rs (merged area k g.recs))

-- ---------------------------------------------------------------- the numbering

live-bare : (rs : List Rec) (l : List ℕ) → live (map bare rs) l ≡ live rs l
unfolding bare live
live-bare [] l = refl
live-bare (r ∷ rs) l = live-bare rs (when eqb r.id 0 then l else once l r.id)

overlaps-bare : (rs : List Rec) → overlaps (map bare rs) ≡ overlaps rs
unfolding bare overlaps
overlaps-bare [] = refl
overlaps-bare (r ∷ rs) = ap (λ (k : ℕ). when r.overlap then suc k else k) (overlaps-bare rs)

cuts-bare : (rs : List Rec) → cuts (map bare rs) ≡ 0
unfolding bare cuts when◌then◌else◌
cuts-bare [] = refl
cuts-bare (r ∷ rs) = cuts-bare rs

map_each : (f g : ℕ → ℕ) → ((x : ℕ) → f x ≡ g x) → (l : List ℕ) → map f l ≡ map g l
map_each f g h [] = refl
map_each f g h (x ∷ l) = rw (h x, map_each f g h l)

-- the same numbers, and no mark
pub record Unmarked (a b : Regions) : Type 0 where
  pub ids : a.ids ≡ b.ids
  pub most : a.most ≡ b.most
  pub over : a.over ≡ b.over
  pub cut : a.cut ≡ 0

numbered-bare : (rs : List Rec) (ids : List ℕ) → Unmarked (numbered (map bare rs) ids) (numbered rs ids)
unfolding numbered
numbered-bare rs ids = record {
  ids = map_each _ _ (λ r. rw (live-bare rs [], id_bare rs r)) ids;
  most = ap length (live-bare rs []);
  over = overlaps-bare rs;
  cut = cuts-bare rs;
}

-- ---------------------------------------------------------------- the records

counted-bare : (F : Field) (ids : List ℕ) (s : ℕ) (r : Rec) → bare (counted F ids s (bare r)) ≡ bare (counted F ids s r)
unfolding bare counted
counted-bare F ids s r = refl

add_bare : (F : Field) (ids : List ℕ) (s : ℕ) (rs : List Rec) → map bare (add_span F ids s (map bare rs)) ≡ map bare (add_span F ids s rs)
unfolding add_span
add_bare F ids s rs =
    let r = get_or ids s 0 in
    if_of (map bare) (plain r) (set (map bare rs) r (counted F ids s (at (map bare rs) r))) (map bare rs)
    ∙ if_then (plain r) _ _ _ _
    (set-bare (map bare rs) r (counted F ids s (at (map bare rs) r)) ∙ ap (λ (l : List Rec). set l r (bare (counted F ids s (at (map bare rs) r)))) (twice rs)
    ∙ ap (λ (x : Rec). set (map bare rs) r (bare (counted F ids s x))) (at_bare rs r) ∙ ap (set (map bare rs) r) (counted-bare F ids s (at rs r))
    ∙ sym (set-bare rs r (counted F ids s (at rs r))))
    (twice rs)
    ∙ sym (if_of (map bare) (plain r) (set rs r (counted F ids s (at rs r))) rs)

new_bare : (n k : ℕ) → map bare (tab n k fresh) ≡ tab n k fresh
unfolding bare tab fresh
new_bare zero k = refl
new_bare (suc n) k = ap (λ (l : List Rec). fresh k ∷ l) (new_bare n (suc k))

-- erased after each span, or all at the end
spans-bare : (F : Field) (ids : List ℕ) (n : ℕ) (rs : List Rec) → rs ≡ map bare rs → upto n (λ s rs. map bare (add_span F ids s rs)) rs ≡ map bare (upto n (add_span F ids) rs)
unfolding upto
spans-bare F ids zero rs e = e
spans-bare F ids (suc n) rs e =
    ap (λ (l : List Rec). map bare (add_span F ids n l)) (spans-bare F ids n rs e) ∙ add_bare F ids n (upto n (add_span F ids) rs)

pub records-bare : (F : Field) (ids : List ℕ) (next : ℕ) → bare_records F ids next ≡ map bare (records F ids next)
unfolding bare_records records
records-bare F ids next = spans-bare F ids (spans F) (tab (suc next) 0 fresh) (sym (new_bare (suc next) 0))

-- ids, max_region and the overlap count are those of the rules without the mark
pub mark_only_carried : (F : Field) (least area : ℕ) (ids : List ℕ) (next : ℕ) → Unmarked (bare_regions F least area ids next) (regions F least area ids next)
unfolding bare_regions regions
mark_only_carried F least area ids next =
    let rs = records F ids next in
    let e : filtered least (bare_records F ids next) ≡ map bare (filtered least rs) = ap (filtered least) (records-bare F ids next) ∙ filtered-bare least rs in
    rw (e, length-map (filtered least rs) bare, merged-bare area (suc (length (filtered least rs))) (filtered least rs)) (numbered-bare (merged area (suc (length (filtered least rs))) (filtered least rs)) ids)

-- where no contour was cut short, none is counted
pub none_cut : (F : Field) (least area : ℕ) (ids : List ℕ) (next : ℕ) → map bare (records F ids next) ≡ records F ids next → (regions F least area ids next).cut ≡ 0
unfolding regions
none_cut F least area ids next e =
    let rs = filtered least (records F ids next) in
    let f : rs ≡ map bare rs = ap (filtered least) (sym e) ∙ filtered-bare least (records F ids next) in
    let k = suc (length rs) in
    let g : merged area k rs ≡ map bare (merged area k rs) = ap (merged area k) f ∙ merged-bare area k rs in
    ap (λ (l : List Rec). (numbered l ids).cut) g ∙ (numbered-bare (merged area k rs) ids).cut
