-- The count told of a removed group is that of the group with which the record loses its id; it is below the least area, and 0 where none is told.
-- A gathering keeps every id, so a record loses its id at a turn only where it is one of the group, the total that is held against the least area is below it, and no
-- flagged id is listed. Assumes nothing.
use Prim.Native.Nat.{ℕ, zero, suc, ◌≤◌, ◌<◌}
use native.Mathlib.Omega.{arith}
use native.Mathlib.Decide.{ℕ_discrete}
use mathlib.Core.Path.{◌≡◌, refl, sym, ap, ◌∙◌}
use mathlib.Core.Bool.{true, false, not}
use mathlib.Core.List.{List, [], ◌∷◌}
use lib.ListN.{length, set}
use lib.Dec.{eqb}
use borrow.Author.Tests.{eqb-true, eqb-false, eq-eqb, ne_eqb, ltb-true, not-true}
use Rattle.rules.specs.Base.{◌and◌, upto, any}
use Rattle.rules.specs.Growth.{flagged}
use Rattle.rules.specs.Records.{Rec, at, has}
use Rattle.rules.specs.Filter.{seen, removed, Gather, reach, gather, remove_all, filter_one}
use Rattle.rules.specs.Reasons.{group_count, gone_with}
use Rattle.laws.proofs.Basics.{both, or_left, or_right, if-ind}
use Rattle.rooms.proofs.Listing.{at_set}
use Rattle.reasons.specs.Why.{gathered, RemovedWith}

-- ---------------------------------------------------------------- a gathering keeps every id

seen_id : (rs : List Rec) (i x : ℕ) → (at (set rs i (seen (at rs i))) x).id ≡ (at rs x).id
unfolding seen
seen_id rs i x = at_set rs i (seen (at rs i)) x (λ (r : Rec). r.id ≡ (at rs x).id) (λ e. ap (λ (y : ℕ). (at rs y).id) (sym e)) refl

reach_id : (l : List ℕ) (g : Gather) (x : ℕ) → (at (reach l g).recs x).id ≡ (at g.recs x).id
unfolding reach
reach_id [] g x = refl
reach_id (r ∷ l) g x = reach_id l _ x ∙ if-ind (λ (q : Gather). (at q.recs x).id ≡ (at g.recs x).id) _ (λ _. refl) (λ _. seen_id g.recs r x)

gather_id : (k : ℕ) (todo : List ℕ) (rs : List Rec) (found : List ℕ) (x : ℕ) → (at (gather k todo rs found).recs x).id ≡ (at rs x).id
unfolding gather
gather_id zero todo rs found x = refl
gather_id (suc k) [] rs found x = refl
gather_id (suc k) (i ∷ is) rs found x = gather_id k _ _ _ x ∙ reach_id (at rs i).list _ x

-- ---------------------------------------------------------------- a turn of the filter

-- "A group under the least area": where record r loses its id at the turn of record i
group_below : (least i r : ℕ) (rs : List Rec) → ((at rs r).id ≡ 0 → ⊥) → (at (filter_one least i rs) r).id ≡ 0 → group_count i rs < least
unfolding filter_one group_count
group_below least i r rs live =
    if-ind (λ (q : List Rec). (at q r).id ≡ 0 → group_count i rs < least) _ (λ _ e. absurd (live e))
    (λ _. if-ind (λ (q : List Rec). (at q r).id ≡ 0 → group_count i rs < least) _
    (λ t _. ltb-true _ _ (both _ _ t).0)
    (λ _ e. absurd (live (sym (gather_id (suc (length rs)) (i ∷ []) (set rs i (seen (at rs i))) [] r ∙ seen_id rs i r) ∙ e))))

-- what is removed is in the list
removed_in : (l : List ℕ) (rs : List Rec) (r : ℕ) → ((at rs r).id ≡ 0 → ⊥) → (at (remove_all l rs) r).id ≡ 0 → has l r ≡ true
unfolding remove_all any
removed_in [] rs r live gone = absurd (live gone)
removed_in (i ∷ l) rs r live gone =
    elim (ℕ_discrete r i) [
      | yes e ↦ or_left (eqb r i) (any (eqb r) l) (eq-eqb r i e)
      | no e ↦ or_right (eqb r i) (any (eqb r) l)
          (removed_in l (set rs i (removed (at rs i))) r (at_set rs i (removed (at rs i)) r (λ (x : Rec). x.id ≡ 0 → ⊥) (λ q. absurd (e q)) live) gone)
    ]

-- the group at record i's turn, where record r loses its id
filter_in : (least i r : ℕ) (rs : List Rec) → ((at rs r).id ≡ 0 → ⊥)
    → ((x : ℕ) → (at (gather (suc (length rs)) (i ∷ []) (set rs i (seen (at rs i))) []).recs x).id ≡ (at rs x).id) → (at (filter_one least i rs) r).id ≡ 0
    → (has (gathered i rs) r ≡ true) × (any (λ j. any flagged (at rs j).list) (gathered i rs) ≡ false)
unfolding filter_one
filter_in least i r rs live kept =
    if-ind (λ (q : List Rec). (at q r).id ≡ 0 → (has (gathered i rs) r ≡ true) × (any (λ j. any flagged (at rs j).list) (gathered i rs) ≡ false)) _ (λ _ e. absurd (live e))
    (λ _. if-ind (λ (q : List Rec). (at q r).id ≡ 0 → (has (gathered i rs) r ≡ true) × (any (λ j. any flagged (at rs j).list) (gathered i rs) ≡ false)) _
    (λ t e. (removed_in (gathered i rs) _ r (λ z. live (sym (kept r) ∙ z)) e, not-true _ (both _ _ t).1))
    (λ _ e. absurd (live (sym (kept r) ∙ e))))

gather_kept : (i : ℕ) (rs : List Rec) (x : ℕ) → (at (gather (suc (length rs)) (i ∷ []) (set rs i (seen (at rs i))) []).recs x).id ≡ (at rs x).id
gather_kept i rs x = gather_id (suc (length rs)) (i ∷ []) (set rs i (seen (at rs i))) [] x ∙ seen_id rs i x

-- the turn at which it does
lost : (a b : ℕ) → not (eqb a 0) and eqb b 0 ≡ true → (a ≡ 0 → ⊥) × (b ≡ 0)
lost a b e = let w = both (not (eqb a 0)) (eqb b 0) e in (eqb-false a 0 (not-true _ w.0), eqb-true b 0 w.1)

-- and none at which it does not
gone_before : (a b : ℕ) → not (eqb a 0) and eqb b 0 ≡ false → b ≡ 0 → a ≡ 0
unfolding ◌and◌
gone_before a b e z = elim (ℕ_discrete a 0) [ yes h ↦ h | no h ↦ absurd (eqb-false b 0 (rw (ne_eqb a 0 h) at e) z) ]

-- ---------------------------------------------------------------- all turns

-- "with its group's count and the least area": the count is no number greater than the least area
pub gone_fits : (least r k : ℕ) (rs : List Rec) → gone_with least r k rs ≤ least
unfolding gone_with
gone_fits least r zero rs = omega arith
gone_fits least r (suc k) rs =
    let before = upto k (filter_one least) rs in
    if-ind (λ (n : ℕ). n ≤ least) _
    (λ e. let w = lost (at before r).id (at (filter_one least k before) r).id e in omega (arith, group_below least k r before w.0 w.1))
    (λ _. gone_fits least r k rs)

-- and it is below it where the record had an id and has none
pub gone_below : (least r k : ℕ) (rs : List Rec) → ((at rs r).id ≡ 0 → ⊥) → (at (upto k (filter_one least) rs) r).id ≡ 0 → gone_with least r k rs < least
unfolding gone_with upto
gone_below least r zero rs live gone = absurd (live gone)
gone_below least r (suc k) rs live gone =
    let before = upto k (filter_one least) rs in
    if-ind (λ (n : ℕ). n < least) _
    (λ e. let w = lost (at before r).id (at (filter_one least k before) r).id e in group_below least k r before w.0 w.1)
    (λ e. gone_below least r k rs live (gone_before (at before r).id (at (filter_one least k before) r).id e gone))

-- "with its group's count": it is the count of the group that record r loses its id with
group_removed : (least r i : ℕ) (rs : List Rec) → ((at (upto i (filter_one least) rs) r).id ≡ 0 → ⊥) → (at (filter_one least i (upto i (filter_one least) rs)) r).id ≡ 0
    → RemovedWith least rs r (group_count i (upto i (filter_one least) rs))
unfolding group_count upto
group_removed least r i rs live gone =
    let w = filter_in least i r (upto i (filter_one least) rs) live (gather_kept i (upto i (filter_one least) rs)) gone in
    record { turn = i; live = live; gone = gone; member = w.0; is = refl; below = group_below least i r (upto i (filter_one least) rs) live gone; bare = w.1 }

pub gone_removed : (least r k : ℕ) (rs : List Rec) → ((at rs r).id ≡ 0 → ⊥) → (at (upto k (filter_one least) rs) r).id ≡ 0 → RemovedWith least rs r (gone_with least r k rs)
unfolding gone_with upto
gone_removed least r zero rs live gone = absurd (live gone)
gone_removed least r (suc k) rs live gone =
    let before = upto k (filter_one least) rs in
    if-ind (λ (n : ℕ). RemovedWith least rs r n) _
    (λ e. let w = lost (at before r).id (at (filter_one least k before) r).id e in group_removed least r k rs w.0 w.1)
    (λ e. gone_removed least r k rs live (gone_before (at before r).id (at (filter_one least k before) r).id e gone))
