-- The filter's fuel is never seen: every gathering of a group comes to its end, whatever the records are. A record is visited from when it is pushed,
-- so those that wait and those not visited together do not grow, and each turn takes one that waits.
use Prim.Native.Nat.{ℕ, zero, suc, ◌+◌, ◌≤◌}
use native.Mathlib.Omega.{arith}
use mathlib.Core.Path.{◌≡◌, refl, ap, ◌∙◌}
use mathlib.Core.Bool.{Bool, false, not}
use mathlib.Core.List.{List, [], ◌∷◌, ◌++◌}
use lib.ListN.{length, set, length-set}
use borrow.Author.Tests.{eqb-false}
use Rattle.rules.specs.Base.{upto}
use Rattle.rules.specs.Field.{Field}
use Rattle.rules.specs.Records.{Rec, fresh, at, records}
use Rattle.rules.specs.Filter.{seen, Gather, reach, gather, filter_one}
use Rattle.laws.proofs.Basics.{neither, if-ind, tally, tally_le, tally-set}
use Rattle.laws.proofs.LiveRecords.{live_in}

unfoldable pub unvisited : Rec → Bool
unvisited r = not r.visited

-- those that wait, and those not visited
unfoldable pub ahead : List ℕ → List Rec → ℕ
ahead todo rs = length todo + tally unvisited rs

-- a record pushed is visited from then on
pushed_ahead : (todo : List ℕ) (rs : List Rec) (r : ℕ) → (at rs r).visited ≡ false → ((at rs r).id ≡ 0 → ⊥)
    → ahead ((at rs r).id ∷ todo) (set rs r (seen (at rs r))) ≡ ahead todo rs
unfolding ahead unvisited seen at
pushed_ahead todo rs r v l = omega (arith, tally-set unvisited rs r (seen (at rs r)) (fresh 0) (live_in rs r l) (ap not v) refl)

pub reach_ahead : (l : List ℕ) (g : Gather) → ahead (reach l g).todo (reach l g).recs ≡ ahead g.todo g.recs
unfolding reach
reach_ahead [] g = refl
reach_ahead (r ∷ l) g =
    reach_ahead l _
    ∙ if-ind (λ (q : Gather). ahead q.todo q.recs ≡ ahead g.todo g.recs) _
    (λ _. refl)
    (λ e. let n = neither _ _ e in pushed_ahead g.todo g.recs r (neither _ _ n.0).1 (eqb-false _ _ n.1))

pub gather-within : (k : ℕ) (todo : List ℕ) (rs : List Rec) (found : List ℕ) → ahead todo rs ≤ k → (gather k todo rs found).todo ≡ []
unfolding gather ahead
gather-within zero [] rs found h = refl
gather-within zero (i ∷ is) rs found h = absurd (omega arith)
gather-within (suc k) [] rs found h = refl
gather-within (suc k) (i ∷ is) rs found h =
    gather-within k _ _ _ (omega (arith, reach_ahead (at rs i).list (record { todo = is; recs = rs; found = found ++ (i ∷ []) })))

-- the group from record i, as the rule gathers it
pub gather_ends : (rs : List Rec) (i : ℕ) → (gather (suc (length rs)) (i ∷ []) (set rs i (seen (at rs i))) []).todo ≡ []
unfolding ahead
gather_ends rs i =
    gather-within (suc (length rs)) (i ∷ []) _ [] (omega (arith, tally_le unvisited (set rs i (seen (at rs i))), length-set rs i (seen (at rs i))))

-- so at every turn k of the filter of the rule's records
pub filter_ends : (F : Field) (ids : List ℕ) (next least k : ℕ)
    → (let rs = upto k (filter_one least) (records F ids next) in (gather (suc (length rs)) (k ∷ []) (set rs k (seen (at rs k))) []).todo ≡ [])
filter_ends F ids next least k = gather_ends (upto k (filter_one least) (records F ids next)) k
