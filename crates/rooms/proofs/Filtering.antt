-- The filter takes the id of whole records only, and of none that is empty. Assumes nothing.
use Prim.Native.Nat.{ℕ, zero, suc, ◌≤◌}
use native.Mathlib.Omega.{arith}
use native.Mathlib.Decide.{dec_lt, ℕ_discrete}
use mathlib.Core.Path.{◌≡◌, refl, sym, ap, ◌∙◌}
use mathlib.Core.Bool.{false}
use mathlib.Core.List.{List, [], ◌∷◌, ◌++◌}
use lib.ListN.{length, set, length-set}
use borrow.Author.Tests.{eqb-false, leb-false}
use Rattle.rules.specs.Net.{Net, near, area_of}
use Rattle.rules.specs.Growth.{flagged}
use Rattle.rules.specs.Records.{Rec, at}
use Rattle.rules.specs.Filter.{seen, removed, Gather, reach, gather, remove_all, filter_one, filtered}
use Rattle.laws.proofs.Basics.{neither, if-ind, upto-ind, All, append_all}
use Rattle.rooms.proofs.Expanding.{Grow}
use Rattle.rooms.proofs.Listing.{at_set, Listed, Outer, under, end, Inner, outer_inner, Raw}

module _ (N : Net) (first next : ℕ) (ids : List ℕ) (g : Grow N first next ids) where
  raw-set : (rs : List Rec) (i : ℕ) (v : Rec) → Raw N first next ids rs → ((v.id ≡ 0 → ⊥) → v.id ≡ i) → (Outer first next i → (v.id ≡ i) × (v.count ≡ 0))
      → v.area ≡ (at rs i).area → v.list ≡ (at rs i).list → Raw N first next ids (set rs i v)
  raw-set rs i v h a b c d = record {
    size = length-set rs i v ∙ h.size;
    own = λ j. at_set rs i v j (λ (x : Rec). (x.id ≡ 0 → ⊥) → x.id ≡ j) (λ e z. a z ∙ sym e) (h.own j);
    outer = λ j o. at_set rs i v j (λ (x : Rec). x.id ≡ j) (λ e. (b (rw (← e) o)).0 ∙ sym e) (h.outer j o);
    idle = λ j o. at_set rs i v j (λ (x : Rec). x.count ≡ 0) (λ e. (b (rw (← e) o)).1) (h.idle j o);
    area = λ j p t k. at_set rs i v j (λ (x : Rec). area_of N t ≡ x.area) (λ e. h.area j p t k ∙ ap (λ (y : ℕ). (at rs y).area) e ∙ sym c) (h.area j p t k);
    list = λ j. at_set rs i v j (λ (x : Rec). All (Listed N ids j) x.list) (λ e. rw (d, e) (h.list i)) (h.list j);
  }

  raw-seen : (rs : List Rec) (i : ℕ) → Raw N first next ids rs → Raw N first next ids (set rs i (seen (at rs i)))
  unfolding seen
  raw-seen rs i h = raw-set rs i (seen (at rs i)) h (h.own i) (λ o. (h.outer i o, h.idle i o)) refl refl

  raw_killed : (rs : List Rec) (i : ℕ) → Inner first next i → Raw N first next ids rs → Raw N first next ids (set rs i (removed (at rs i)))
  unfolding removed
  raw_killed rs i n h = raw-set rs i (removed (at rs i)) h (λ z. absurd (z refl)) (λ o. absurd (outer_inner first next i o n)) refl refl

  record Gathered (x : Gather) : Type 0 where
    raw : Raw N first next ids x.recs
    todo : All (Inner first next) x.todo
    found : All (Inner first next) x.found

  -- what is listed and live is an id in use
  listed_inner : (rs : List Rec) (j r : ℕ) → Raw N first next ids rs → Listed N ids j r → flagged r ≡ false → ((at rs r).id ≡ 0 → ⊥) → Inner first next (at rs r).id
  listed_inner rs j r h l f z =
      let e : (at rs r).id ≡ r = h.own r z in
      let nz : r ≡ 0 → ⊥ = λ k. z (e ∙ k) in
      rw e (g.range r (near N l.span l.dir) (omega arith, leb-false 0x8000 r f) l.there)

  reach_ok : (j : ℕ) (l : List ℕ) (x : Gather) → All (Listed N ids j) l → Gathered x → Gathered (reach l x)
  unfolding reach
  reach_ok j [] x a h = h
  reach_ok j (r ∷ l) x a h =
      reach_ok j l _ a.1
      (if-ind (λ (y : Gather). Gathered y) _ (λ _. h)
      (λ e.
      let t = neither _ _ e in
      let t2 = neither _ _ t.0 in
      record {
        raw = raw-seen x.recs r h.raw;
        todo = (listed_inner x.recs j r h.raw a.0 t2.0 (eqb-false _ _ t.1), h.todo);
        found = h.found;
      }))

  gather_ok : (k : ℕ) (todo : List ℕ) (rs : List Rec) (found : List ℕ) → Gathered (record { todo = todo; recs = rs; found = found }) → Gathered (gather k todo rs found)
  unfolding gather
  gather_ok zero todo rs found h = h
  gather_ok (suc k) [] rs found h = h
  gather_ok (suc k) (i ∷ is) rs found h =
      let x : Gather = reach (at rs i).list (record { todo = is; recs = rs; found = found ++ (i ∷ []) }) in
      gather_ok k x.todo x.recs x.found
      (reach_ok i (at rs i).list _ (h.raw.list i) (record { raw = h.raw; todo = h.todo.1; found = append_all (Inner first next) found (i ∷ []) h.found (h.todo.0, tt) }))

  kill_ok : (l : List ℕ) (rs : List Rec) → All (Inner first next) l → Raw N first next ids rs → Raw N first next ids (remove_all l rs)
  unfolding remove_all
  kill_ok [] rs a h = h
  kill_ok (i ∷ l) rs a h = kill_ok l (set rs i (removed (at rs i))) a.1 (raw_killed rs i a.0 h)

  -- a record that has spans
  busy_inner : (rs : List Rec) (i : ℕ) → Raw N first next ids rs → i ≤ next → ((at rs i).count ≡ 0 → ⊥) → Inner first next i
  busy_inner rs i h l c =
      elim (dec_lt i first) [
        | yes e ↦ absurd (c (h.idle i (under e)))
        | no e ↦ elim (ℕ_discrete i next) [ yes f ↦ absurd (c (h.idle i (end f))) | no f ↦ (omega arith, omega arith) ]
      ]

  filter-one : (least i : ℕ) (rs : List Rec) → i ≤ next → Raw N first next ids rs → Raw N first next ids (filter_one least i rs)
  unfolding filter_one
  filter-one least i rs l h =
      if-ind (λ (x : List Rec). Raw N first next ids x) _ (λ _. h)
      (λ e.
      let t = neither _ _ (neither _ _ e).0 in
      let n = busy_inner rs i h l (eqb-false _ _ t.1) in
      let x = gather_ok (suc (length rs)) (i ∷ []) (set rs i (seen (at rs i))) [] (record { raw = raw-seen rs i h; todo = (n, tt); found = tt }) in
      if-ind (λ (y : List Rec). Raw N first next ids y) _ (λ _. kill_ok _ _ x.found x.raw) (λ _. x.raw))

  pub filtered-raw : (least : ℕ) (rs : List Rec) → Raw N first next ids rs → Raw N first next ids (filtered least rs)
  unfolding filtered
  filtered-raw least rs h =
      upto-ind (λ k (x : List Rec). Raw N first next ids x) (filter_one least) rs (length rs) h (λ k x l p. filter-one least k x (let q = h.size in omega arith) p)
