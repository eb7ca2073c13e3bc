-- A trail has a place for each of its numbers in a list of one number a span: it has at most one for each record with spans, and these are no more than the spans.
-- Each span adds one to one record, so after k spans at most k records have any; the filter gives no record spans, and keeps those of a record that keeps its id.
use Prim.Native.Nat.{ℕ, zero, suc, ◌≤◌, ◌<◌}
use native.Mathlib.Omega.{arith}
use native.Mathlib.Decide.{ℕ_discrete}
use mathlib.Core.Path.{◌≡◌, refl, sym, ap, ◌∙◌}
use mathlib.Core.Bool.{true, false, false≢true}
use mathlib.Core.List.{List, [], ◌∷◌}
use lib.ListN.{length, get_or, set, length-set}
use borrow.Author.Tests.{eq-eqb}
use Rattle.rules.specs.Base.{when◌then◌else◌, tab}
use Rattle.rules.specs.Field.{Field, Bytes, spans}
use Rattle.rules.specs.Growth.{plain, grown, stops}
use Rattle.rules.specs.Records.{Rec, fresh, at, counted, add_span, records}
use Rattle.rules.specs.Filter.{seen, removed, filtered}
use Rattle.rules.specs.Reasons.{trail, mergings}
use Rattle.laws.proofs.Basics.{if-ind, if_ind₂, upto-ind, tally, length-tab}
use Rattle.laws.proofs.Grows.{grown_room}
use Rattle.laws.proofs.Lengths.{filtered-length, records-length}
use Rattle.laws.proofs.LiveRecords.{live_in, filter-each, filtered_born}
use Rattle.laws.proofs.MergeEnds.{Ready, spanned, spanned_yes}
use Rattle.laws.proofs.Nets.{net_bytes}
use Rattle.laws.proofs.Plain.{plain_yes}
use Rattle.rooms.proofs.Listing.{at_set, at_same}
use Rattle.reasons.proofs.Trails.{Owns, some_spanned, trail_fits}

-- ---------------------------------------------------------------- how many records have spans

spanned_no : (r : Rec) → r.count ≡ 0 → spanned r ≡ false
unfolding spanned
spanned_no r e = rw (eq-eqb r.count 0 e)

-- one record more is at most one more
tally_cons : (r : Rec) (rs : List Rec) → (tally spanned rs ≤ tally spanned (r ∷ rs)) × (tally spanned (r ∷ rs) ≤ suc (tally spanned rs))
unfolding tally
tally_cons r rs =
    if-ind (λ (n : ℕ). (tally spanned rs ≤ n) × (n ≤ suc (tally spanned rs))) (spanned r) (λ _. (omega arith, omega arith)) (λ _. (omega arith, omega arith))

-- and so is one that is stored
tally_store : (rs : List Rec) (i : ℕ) (v : Rec) → tally spanned (set rs i v) ≤ suc (tally spanned rs)
unfolding tally
tally_store [] i v = omega arith
tally_store (r ∷ rs) zero v = omega (arith, (tally_cons v rs).1, (tally_cons r rs).0)
tally_store (r ∷ rs) (suc i) v =
    let h = tally_store rs i v in
    if_ind₂ (λ (n m : ℕ). n ≤ suc m) (spanned r) (λ _. omega arith) (λ _. omega arith)

tally-fresh : (n k : ℕ) → tally spanned (tab n k fresh) ≡ 0
unfolding tally tab fresh when◌then◌else◌
tally-fresh zero k = refl
tally-fresh (suc n) k = rw (spanned_no (fresh k) refl) (tally-fresh n (suc k))

-- of records that have spans only where the others have
tally_fewer : (l m : List Rec) → length l ≡ length m → ((x : ℕ) → (at m x).count ≡ 0 → (at l x).count ≡ 0) → tally spanned l ≤ tally spanned m
unfolding at tally when◌then◌else◌
tally_fewer [] m e h = omega arith
tally_fewer (x ∷ l) [] e h = absurd (omega arith)
tally_fewer (x ∷ l) (y ∷ m) e h =
    let t = tally_fewer l m (omega arith) (λ j z. h (suc j) z) in
    elim (ℕ_discrete y.count 0) [
      | yes z ↦ rw (spanned_no x (h 0 z), spanned_no y z) t
      | no z ↦ rw (spanned_yes y z) (omega (arith, (tally_cons x l).1))
    ]

records_spanned : (F : Field) (ids : List ℕ) (next : ℕ) → tally spanned (records F ids next) ≤ spans F
unfolding records add_span
records_spanned F ids next =
    upto-ind (λ k (rs : List Rec). tally spanned rs ≤ k) (add_span F ids) (tab (suc next) 0 fresh) (spans F) (omega (arith, tally-fresh (suc next) 0))
    (λ k rs _ h.
    let r = get_or ids k 0 in
    if-ind (λ (q : List Rec). tally spanned q ≤ suc k) (plain r) (λ _. omega (arith, tally_store rs r (counted F ids k (at rs r)))) (λ _. omega arith))

filtered_spanned : (least : ℕ) (rs : List Rec) → tally spanned (filtered least rs) ≤ tally spanned rs
unfolding seen removed
filtered_spanned least rs =
    tally_fewer (filtered least rs) rs (filtered-length least rs)
    (filter-each (λ x r. (at rs x).count ≡ 0 → r.count ≡ 0) (λ x r h. h) (λ x r _ _. refl) least rs (λ x e. e))

-- ---------------------------------------------------------------- the record of a span has spans

module _ (F : Field) (ids : List ℕ) (next s r : ℕ) (own : get_or ids s 0 ≡ r) (p : plain r ≡ true) (in_List : r ≤ next) where
  -- after k spans
  record Counts (k : ℕ) (rs : List Rec) : Type 0 where
    size : length rs ≡ suc next
    some : s < k → (at rs r).count ≡ 0 → ⊥

  counted_some : (k : ℕ) (x : Rec) → (counted F ids k x).count ≡ 0 → ⊥
  unfolding counted
  counted_some k x e = omega arith

  add_counts : (k : ℕ) (rs : List Rec) → Counts k rs → Counts (suc k) (add_span F ids k rs)
  unfolding add_span
  add_counts k rs h =
      let i = get_or ids k 0 in
      let v = counted F ids k (at rs i) in
      let other : (i ≡ r → ⊥) → s < suc k → (at rs r).count ≡ 0 → ⊥ = λ n l.
      let e : s ≡ k → ⊥ = λ e. n (ap (λ (j : ℕ). get_or ids j 0) (sym e) ∙ own) in
      h.some (omega arith) in
      if-ind (λ (q : List Rec). Counts (suc k) q) (plain i)
      (λ _. record {
        size = length-set rs i v ∙ h.size;
        some = elim (ℕ_discrete r i) [
          | yes e ↦ λ _ z. counted_some k (at rs i) (sym (ap (λ (x : Rec). x.count) (ap (at (set rs i v)) e ∙ at_same rs i v (omega (arith, h.size)))) ∙ z)
          | no e ↦ at_set rs i v r (λ (x : Rec). s < suc k → x.count ≡ 0 → ⊥) (λ q. absurd (e q)) (other (λ q. e (sym q)))
        ];
      })
      (λ f. record { size = h.size; some = other (λ q. false≢true (sym f ∙ ap plain q ∙ p)) })

  recorded : s < spans F → (at (records F ids next) r).count ≡ 0 → ⊥
  unfolding records
  recorded =
      (upto-ind Counts (add_span F ids) (tab (suc next) 0 fresh) (spans F)
      (record { size = length-tab (suc next) 0 fresh; some = λ l. absurd (omega arith) })
      (λ k rs _ h. add_counts k rs h)).some

  -- and so after the filter, if it keeps its id
  kept_spans : s < spans F → (least : ℕ) → ((at (filtered least (records F ids next)) r).id ≡ 0 → ⊥) → (at (filtered least (records F ids next)) r).count ≡ 0 → ⊥
  unfolding seen removed
  kept_spans l least =
      filter-each (λ x q. x ≡ r → (q.id ≡ 0 → ⊥) → q.count ≡ 0 → ⊥) (λ x q h. h) (λ x q _ _ live. absurd (live refl)) least (records F ids next)
      (λ x e _ z. recorded l (ap (λ (y : ℕ). (at (records F ids next) y).count) (sym e) ∙ z)) r refl

-- ---------------------------------------------------------------- the trail of a span

-- records as the filter leaves them are ready for the merge, and each bears its own number
pub filtered_ready : (F : Field) (least : ℕ) (ids : List ℕ) (next : ℕ) → Ready (filtered least (records F ids next))
filtered_ready F least ids next =
    let born = filtered_born F least ids next in
    record { named = λ x h. rw ((born x).own h) h; bare = λ x. (born x).bare }

filtered_owns : (F : Field) (least : ℕ) (ids : List ℕ) (next : ℕ) → Owns (filtered least (records F ids next))
filtered_owns F least ids next = record { own = λ x live _. (filtered_born F least ids next x).own live }

-- "The trail goes into a lent list of n numbers": it has room there
pub trail_room : (F : Field) (dist : List ℕ) (most b : ℕ) → Bytes F → stops F dist most b ≡ 0 → (least area s : ℕ) → s < spans F
    → (let g = grown F dist most b in
    let r = get_or g.ids s 0 in
    let kept = filtered least (records F g.ids g.next) in
    ((at kept r).id ≡ 0 → ⊥) → length (trail (mergings area (suc (length kept)) kept []) r) ≤ spans F)
trail_room F dist most b bytes o least area s l live =
    let g = grown F dist most b in
    let r = get_or g.ids s 0 in
    let recs = records F g.ids g.next in
    let kept = filtered least recs in
    let below : r ≤ g.next = omega (arith, live_in kept r live, filtered-length least recs, records-length F g.ids g.next) in
    let named : (at kept r).id ≡ r = (filtered_born F least g.ids g.next r).own live in
    let p : plain r ≡ true = plain_yes r (λ z. live (named ∙ z)) (omega (arith, (grown_room F dist most b (net_bytes F bytes) o).0)) in
    let some : 0 < tally spanned kept = some_spanned kept r (kept_spans F g.ids g.next s r refl p below l least live) in
    let few = trail_fits area (suc (length kept)) kept r (filtered_ready F least g.ids g.next) (filtered_owns F least g.ids g.next) some in
    omega (arith, filtered_spanned least recs, records_spanned F g.ids g.next)
