-- Up to the merge a live record bears its own number, and lists nothing if it has no span: the records are made so, a span that is counted keeps the id,
-- and the filter only marks and removes. A live record is in the list.
use Prim.Native.Nat.{ℕ, zero, suc, ◌+◌, ◌<◌}
use native.Mathlib.Omega.{arith}
use native.Mathlib.Nat.{zero-add}
use mathlib.Core.Path.{◌≡◌, refl}
use mathlib.Core.List.{List, [], ◌∷◌}
use lib.ListN.{length, get_or, set}
use Rattle.rules.specs.Base.{tab}
use Rattle.rules.specs.Field.{Field, spans}
use Rattle.rules.specs.Records.{Rec, fresh, at, counted, add_span, records}
use Rattle.rules.specs.Filter.{seen, removed, Gather, reach, gather, remove_all, filter_one, filtered}
use Rattle.laws.proofs.Basics.{if-ind, upto-ind, store_cases}

pub live_in : (rs : List Rec) (x : ℕ) → ((at rs x).id ≡ 0 → ⊥) → x < length rs
unfolding at fresh
live_in [] x h = absurd (h refl)
live_in (r ∷ rs) zero h = omega arith
live_in (r ∷ rs) (suc x) h = omega (arith, live_in rs x h)

-- ---------------------------------------------------------------- what the filter keeps of each record

abbrev pub Each : (ℕ → Rec → Type 0) → List Rec → Type 0
Each P rs = (x : ℕ) → P x (at rs x)

module _ (P : ℕ → Rec → Type 0) (marks : (x : ℕ) (r : Rec) → P x r → P x (seen r)) (removes : (x : ℕ) (r : Rec) → P x r → P x (removed r)) where
  set-each : (rs : List Rec) (i : ℕ) (r : Rec) → Each P rs → P i r → Each P (set rs i r)
  unfolding at
  set-each rs i r h p x = store_cases rs i r (fresh 0) x (P x) (λ e. rw e p) (h x)

  reach-each : (l : List ℕ) (g : Gather) → Each P g.recs → Each P (reach l g).recs
  unfolding reach
  reach-each [] g h = h
  reach-each (r ∷ l) g h =
      reach-each l _ (if-ind (λ (q : Gather). Each P q.recs) _ (λ _. h) (λ _. set-each g.recs r _ h (marks r (at g.recs r) (h r))))

  gather-each : (k : ℕ) (todo : List ℕ) (rs : List Rec) (found : List ℕ) → Each P rs → Each P (gather k todo rs found).recs
  unfolding gather
  gather-each zero todo rs found h = h
  gather-each (suc k) [] rs found h = h
  gather-each (suc k) (i ∷ is) rs found h = gather-each k _ _ _ (reach-each (at rs i).list _ h)

  remove_each : (l : List ℕ) (rs : List Rec) → Each P rs → Each P (remove_all l rs)
  unfolding remove_all
  remove_each [] rs h = h
  remove_each (i ∷ l) rs h = remove_each l _ (set-each rs i _ h (removes i (at rs i) (h i)))

  one_each : (least i : ℕ) (rs : List Rec) → Each P rs → Each P (filter_one least i rs)
  unfolding filter_one
  one_each least i rs h =
      let g = gather-each (suc (length rs)) (i ∷ []) _ [] (set-each rs i _ h (marks i (at rs i) (h i))) in
      if-ind (Each P) _ (λ _. h) (λ _. if-ind (Each P) _ (λ _. remove_each _ _ g) (λ _. g))

  pub filter-each : (least : ℕ) (rs : List Rec) → Each P rs → Each P (filtered least rs)
  unfolding filtered
  filter-each least rs h = upto-ind (λ k (x : List Rec). Each P x) (filter_one least) rs (length rs) h (λ k x _ p. one_each least k x p)

-- ---------------------------------------------------------------- the rule's records

-- record r, at place x
pub record Born (x : ℕ) (r : Rec) : Type 0 where
  pub own : (r.id ≡ 0 → ⊥) → r.id ≡ x
  pub bare : (r.id ≡ 0 → ⊥) → r.count ≡ 0 → r.list ≡ []

fresh_born : (x : ℕ) → Born x (fresh x)
unfolding fresh
fresh_born x = record { own = λ _. refl; bare = λ _ _. refl }

none_born : (x : ℕ) → Born x (fresh 0)
unfolding fresh
none_born x = record { own = λ h. absurd (h refl); bare = λ _ _. refl }

tab_born : (n k x : ℕ) → Born (k + x) (get_or (tab n k fresh) x (fresh 0))
unfolding tab
tab_born zero k x = none_born (k + x)
tab_born (suc n) k zero = let e : k + 0 ≡ k = omega arith in rw e (fresh_born k)
tab_born (suc n) k (suc x) = let e : k + suc x ≡ suc k + x = omega arith in rw e (tab_born n (suc k) x)

counted_born : (F : Field) (ids : List ℕ) (s x : ℕ) (r : Rec) → Born x r → Born x (counted F ids s r)
unfolding counted
counted_born F ids s x r h = record { own = h.own; bare = λ _ e. absurd (omega arith) }

records_born : (F : Field) (ids : List ℕ) (next x : ℕ) → Born x (at (records F ids next) x)
unfolding records add_span at
records_born F ids next =
    upto-ind (λ k (rs : List Rec). (x : ℕ) → Born x (at rs x)) (add_span F ids) (tab (suc next) 0 fresh) (spans F)
    (λ x. rw zero-add at (tab_born (suc next) 0 x))
    (λ k rs _ h. if-ind (λ (q : List Rec). (x : ℕ) → Born x (at q x)) _
    (λ _ x. store_cases rs _ _ (fresh 0) x (Born x) (λ e. rw e (counted_born F ids k _ _ (h _))) (h x))
    (λ _. h))

seen_born : (x : ℕ) (r : Rec) → Born x r → Born x (seen r)
unfolding seen
seen_born x r h = record { own = h.own; bare = h.bare }

removed_born : (x : ℕ) (r : Rec) → Born x r → Born x (removed r)
unfolding removed
removed_born x r h = record { own = λ l. absurd (l refl); bare = λ l _. absurd (l refl) }

pub filtered_born : (F : Field) (least : ℕ) (ids : List ℕ) (next x : ℕ) → Born x (at (filtered least (records F ids next)) x)
filtered_born F least ids next = filter-each Born seen_born removed_born least (records F ids next) (records_born F ids next)
