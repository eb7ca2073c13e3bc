-- What the rule's records come to: each bears its own number and counts the spans of its id, its list has at most 4 ids a span and its floors 62,
-- and a record of at most 10,000 spans bears no mark of a contour cut short.
-- It holds after each span: one span counts for one record, a contour lists at most four ids a span of its region, and a cell has at most 62 others.
use Prim.Native.Nat.{ℕ, zero, suc, ◌+◌, ◌*◌, ◌≤◌, ◌<◌}
use native.Mathlib.Omega.{arith}
use native.Mathlib.Numerals.{add-one}
use native.Mathlib.Decide.{ℕ_discrete}
use mathlib.Core.Path.{◌≡◌, refl, sym, ap, ◌∙◌}
use mathlib.Core.Bool.{Bool, true, false, not, false≢true}
use mathlib.Core.List.{List, [], ◌∷◌, map}
use lib.ListN.{length, get_or, set, take, length-set, length-append, length-map}
use lib.Seq.{get_or-set_same, get_or-set_other}
use lib.Dec.{eqb, ltb}
use borrow.Author.Tests.{eq-eqb, ne_eqb, ltb-true, not-true}
use Rattle.rules.specs.Base.{◌and◌, ◌or◌, keep, tab, many}
use Rattle.rules.specs.Field.{Field, spans, cell_of}
use Rattle.rules.specs.Net.{net_of}
use Rattle.rules.specs.Growth.{plain}
use Rattle.rules.specs.Contour.{first_solid, cut_short}
use Rattle.rules.specs.Records.{Rec, fresh, at, has, once, once_all, others, counted, add_span, records}
use Rattle.laws.specs.Sums.{sum_to}
use Rattle.laws.proofs.Basics.{both, if-ind, upto-ind, many_le, keep-length, tab-at, length-tab}
use Rattle.laws.proofs.Sums.{sum_le, sum_times}
use Rattle.laws.proofs.Cells.{Passed, passed, cell_of_in, cell_of_lem, sum_of, before}
use Rattle.laws.proofs.Strides.{answered}
use Rattle.field.specs.Lent.{Sound}
use Rattle.contour.proofs.Room.{contour_room, never_cut}
use Rattle.records.specs.Rows.{slot, mine}
use Rattle.records.proofs.CountLaws.{many-same, many_counts, many_passes, many_all, many-none, mine_yes, mine-other, mine-not, mine_le, slot-first, slot_next}
use Rattle.records.proofs.NameLaws.{own_name}

-- ---------------------------------------------------------------- the others of a cell

-- s is one of the n from t on: so the others are fewer
but_one : (s n t : ℕ) → t ≤ s → s < t + n → length (keep (λ t. not (eqb t s)) (tab n t (λ t. t))) < n
unfolding keep tab
but_one s zero t h g = absurd (omega arith)
but_one s (suc n) t h g =
    if-ind (λ (l : List ℕ). length l < suc n) (not (eqb t s))
    (λ e. omega (arith, but_one s n (suc t) (away e) (omega arith)))
    (λ _. omega (arith, keep-length (λ t. not (eqb t s)) (tab n (suc t) (λ t. t)), length-tab n (suc t) (λ (t : ℕ). t)))
  where
    away : not (eqb t s) ≡ true → suc t ≤ s
    away e = elim (ℕ_discrete t s) [
      | yes z ↦ absurd (false≢true (sym (not-true _ e) ∙ eq-eqb t s z))
      | no z ↦ omega arith
    ]

once-length : (l : List ℕ) (r : ℕ) → length (once l r) ≤ length l + 1
unfolding once
once-length l r = if-ind (λ (x : List ℕ). length x ≤ length l + 1) (has l r) (λ _. omega arith) (λ _. simp length-append (omega arith))

once_all-length : (l o : List ℕ) → length (once_all l o) ≤ length l + length o
unfolding once_all
once_all-length l [] = omega arith
once_all-length l (r ∷ o) = omega (arith, once_all-length (once l r) o, once-length l r)

-- b does not hold where a does
unless : (a b : Bool) → (a ≡ true → b ≡ false) → a and b ≡ false
unfolding ◌and◌
unless true b h = h refl
unless false b h = refl

-- ---------------------------------------------------------------- the spans of an id

mine-plain : (i : ℕ) → plain i ≡ true → (x : ℕ) → mine i x ≡ eqb i x
mine-plain i pl x =
    elim (ℕ_discrete i x) [
      | yes z ↦ rw (← z) (mine_yes i pl ∙ sym (eq-eqb i i refl))
      | no z ↦ mine-other i x z ∙ sym (ne_eqb i x z)
    ]

-- the spans of the first k ids are some of all
ids_slot : (ids : List ℕ) (k : ℕ) → sum_to (λ r. many (eqb r) ids) k ≡ slot ids k
unfolding sum_to
ids_slot ids zero = sym (slot-first ids)
ids_slot ids (suc k) = let e = slot_next ids k in omega (arith, rw (add-one k) at e, ids_slot ids k)

ids_fit : (ids : List ℕ) (k : ℕ) → sum_to (λ r. many (eqb r) ids) k ≤ length ids
unfolding slot
ids_fit ids k = omega (arith, ids_slot ids k, many_le (λ (x : ℕ). ltb x k) ids)

module _ (F : Field) (sound : Sound F) (ids : List ℕ) (size : length ids ≡ spans F) where
  ok : Passed F []
  ok = passed F [] sound

  others_few : (s : ℕ) → s < spans F → length (others F ids s) ≤ 62
  unfolding others
  others_few s h =
      let c = cell_of F.count s in
      let n = get_or F.count c 0 in
      let t = get_or F.index c 0 in
      let r = cell_of_in F.count s (rw (sum_of F [] ok) h) in
      let e : t ≡ 0 + before F.count c = (cell_of_lem F [] ok c).starts (omega (arith, r.0, r.1)) in
      let l = keep (λ t. not (eqb t s)) (tab n t (λ t. t)) in
      let b : length l < n = but_one s n t (omega (arith, r.0)) (omega (arith, r.1)) in
      let k = keep-length plain (map (λ t. get_or ids t 0) l) in
      let m : length (map (λ t. get_or ids t 0) l) ≡ length l = length-map l (λ t. get_or ids t 0) in
      omega (arith, (cell_of_lem F [] ok c).few)

  -- ---------------------------------------------------------------- one record

  module _ (next i : ℕ) (h : i < next + 1) where
    -- after k spans
    record Filled (k : ℕ) (rs : List Rec) : Type 0 where
      many' : length rs ≡ suc next
      count : (at rs i).count ≡ many (mine i) (take k ids)
      list : length (at rs i).list ≤ 4 * many (mine i) ids
      floors : length (at rs i).floors ≤ 62 * (at rs i).count
      cut : many (mine i) ids ≤ 10000 → (at rs i).cut ≡ false

    new_filled : Filled 0 (tab (suc next) 0 fresh)
    unfolding at fresh
    new_filled =
        let e : get_or (tab (suc next) 0 fresh) i (fresh 0) ≡ fresh (0 + i) = tab-at (suc next) 0 fresh i (fresh 0) (omega arith) in
        record {
          many' = length-tab (suc next) 0 fresh;
          count = ap (λ (x : Rec). x.count) e ∙ sym (many-none (mine i) ids);
          list = rw e (omega arith);
          floors = rw e (omega arith);
          cut = λ _. ap (λ (x : Rec). x.cut) e;
        }

    counted_list : (k : ℕ) (x : Rec) → k < spans F → plain i ≡ true → get_or ids k 0 ≡ i → length x.list ≤ 4 * many (mine i) ids → length (counted F ids k x).list ≤ 4 * many (mine i) ids
    unfolding counted ◌and◌
    counted_list k x g pl e l =
        if-ind (λ (y : List ℕ). length y ≤ 4 * many (mine i) ids) (eqb (length x.list) 0 and ltb (first_solid (net_of F) ids k) 4)
        (λ t.
        let room = contour_room (net_of F) (answered F [] ok) ids size i (λ z. false≢true (rw z at pl)) k (first_solid (net_of F) ids k) g (ltb-true _ _ (both (eqb (length x.list) 0) (ltb (first_solid (net_of F) ids k) 4) t).1) e in
        omega (arith, many-same (eqb i) (mine i) ids (mine-plain i pl)))
        (λ _. l)

    counted_floors : (k : ℕ) (x : Rec) → k < spans F → length x.floors ≤ 62 * x.count → length (counted F ids k x).floors ≤ 62 * (counted F ids k x).count
    unfolding counted
    counted_floors k x g l = omega (arith, once_all-length x.floors (others F ids k), others_few k g)

    counted_cut : (k : ℕ) (x : Rec) → k < spans F → plain i ≡ true → get_or ids k 0 ≡ i → many (mine i) ids ≤ 10000 → x.cut ≡ false → (counted F ids k x).cut ≡ false
    unfolding counted ◌or◌ ◌and◌
    counted_cut k x g pl e few c =
        let d = first_solid (net_of F) ids k in
        let none : (eqb (length x.list) 0 and ltb d 4) and cut_short (net_of F) ids k d ≡ false =
        unless (eqb (length x.list) 0 and ltb d 4) (cut_short (net_of F) ids k d) (λ t.
        never_cut (net_of F) (answered F [] ok) ids size i (λ z. false≢true (rw z at pl)) k d g (ltb-true _ _ (both (eqb (length x.list) 0) (ltb d 4) t).1) e
        (omega (arith, many-same (eqb i) (mine i) ids (mine-plain i pl)))) in
        rw c none

    counted_count : (k : ℕ) (x : Rec) → (counted F ids k x).count ≡ x.count + 1
    unfolding counted
    counted_count k x = omega arith

    passes : (k : ℕ) → k < spans F → mine i (get_or ids k 0) ≡ false → many (mine i) (take (suc k) ids) ≡ many (mine i) (take k ids)
    passes k g e = rw (add-one k) at (many_passes (mine i) ids k (omega (arith, size)) e)

    counts : (k : ℕ) → k < spans F → mine i (get_or ids k 0) ≡ true → many (mine i) (take (suc k) ids) ≡ many (mine i) (take k ids) + 1
    counts k g e = let c = many_counts (mine i) ids k (omega (arith, size)) e in rw (add-one k) at c

    add_filled : (k : ℕ) (rs : List Rec) → k < spans F → Filled k rs → Filled (suc k) (add_span F ids k rs)
    unfolding add_span at
    add_filled k rs g f =
        let r = get_or ids k 0 in
        let x = counted F ids k (get_or rs r (fresh 0)) in
        if-ind (λ (y : List Rec). Filled (suc k) y) (plain r)
        (λ pl. elim (ℕ_discrete i r) [
          | yes z ↦
              let e : get_or (set rs r x) i (fresh 0) ≡ x = ap (λ (j : ℕ). get_or (set rs r x) j (fresh 0)) z ∙ get_or-set_same rs r x (fresh 0) (omega (arith, f.many')) in
              let o : get_or rs r (fresh 0) ≡ get_or rs i (fresh 0) = ap (λ (j : ℕ). get_or rs j (fresh 0)) (sym z) in
              record {
                many' = length-set rs r x ∙ f.many';
                count = ap (λ (y : Rec). y.count) e ∙ counted_count k (get_or rs r (fresh 0)) ∙ ap (λ (y : Rec). y.count + 1) o
                    ∙ ap (λ (j : ℕ). j + 1) f.count ∙ sym (counts k g (rw (← z) (mine_yes i (rw z pl))));
                list = rw (e, o) (counted_list k (get_or rs i (fresh 0)) g (rw z pl) (sym z) f.list);
                floors = rw (e, o) (counted_floors k (get_or rs i (fresh 0)) g f.floors);
                cut = λ few. rw (e, o) (counted_cut k (get_or rs i (fresh 0)) g (rw z pl) (sym z) few (f.cut few));
              }
          | no z ↦
              let e : get_or (set rs r x) i (fresh 0) ≡ get_or rs i (fresh 0) = get_or-set_other rs r i x (fresh 0) z in
              record {
                many' = length-set rs r x ∙ f.many';
                count = ap (λ (y : Rec). y.count) e ∙ f.count ∙ sym (passes k g (mine-other i r z));
                list = rw e f.list;
                floors = rw e f.floors;
                cut = λ few. rw e (f.cut few);
              }
        ])
        (λ pl. record { many' = f.many'; count = f.count ∙ sym (passes k g (mine-not i r pl)); list = f.list; floors = f.floors; cut = f.cut })

    filled : Filled (spans F) (records F ids next)
    unfolding records
    filled = upto-ind Filled (add_span F ids) (tab (suc next) 0 fresh) (spans F) new_filled add_filled

    -- a record counts the spans of its id
    pub count_is : (at (records F ids next) i).count ≡ many (mine i) ids
    count_is = filled.count ∙ many_all (mine i) ids (spans F) (sym size)

    pub list_fits : length (at (records F ids next) i).list ≤ 4 * (at (records F ids next) i).count
    list_fits = rw count_is filled.list

    pub floor_fits : length (at (records F ids next) i).floors ≤ 62 * (at (records F ids next) i).count
    floor_fits = filled.floors

    -- a region of at most 10,000 spans is not marked
    pub never_marked : many (mine i) ids ≤ 10000 → (at (records F ids next) i).cut ≡ false
    never_marked = filled.cut

    pub own_number : ((x : ℕ) → plain (get_or ids x 0) ≡ true → get_or ids x 0 < next + 1) → (at (records F ids next) i).id ≡ i
    unfolding records
    own_number below = own_name ids (suc next) (omega arith) (rw (add-one next) at below) F (spans F) i (omega arith)

  -- ---------------------------------------------------------------- all records

  module _ (next : ℕ) where
    pub counts_fit : sum_to (λ r. (at (records F ids next) r).count) (next + 1) ≤ length ids
    counts_fit =
        let a = sum_le (λ r. many (eqb r) ids) (λ r. (at (records F ids next) r).count) (next + 1) (λ r h. omega (arith, count_is next r h, mine_le r ids)) in
        omega (arith, ids_fit ids (next + 1))

    pub lists_fit : sum_to (λ r. length (at (records F ids next) r).list) (next + 1) ≤ 4 * length ids
    lists_fit =
        let a = sum_le (λ r. 4 * (at (records F ids next) r).count) (λ r. length (at (records F ids next) r).list) (next + 1) (λ r h. list_fits next r h) in
        omega (arith, sum_times 4 (λ r. (at (records F ids next) r).count) (next + 1), counts_fit)

    pub floors_fit : sum_to (λ r. length (at (records F ids next) r).floors) (next + 1) ≤ 62 * length ids
    floors_fit =
        let a = sum_le (λ r. 62 * (at (records F ids next) r).count) (λ r. length (at (records F ids next) r).floors) (next + 1) (λ r h. floor_fits next r h) in
        omega (arith, sum_times 62 (λ r. (at (records F ids next) r).count) (next + 1), counts_fit)
