-- Floors that stay as they were tell, through the present ids, what the rule's renamed floors tell. Assumes nothing.
use Prim.Native.Nat.{ℕ, zero, suc, ◌<◌}
use native.Mathlib.Omega.{arith}
use native.Mathlib.Decide.{ℕ_discrete}
use mathlib.Core.Path.{◌≡◌, refl, sym, ap, ◌∙◌}
use mathlib.Core.Logic.{⊎_elim, ◌⊎◌, inl, inr}
use mathlib.Core.Bool.{Bool, true, false, true≢false, false≢true}
use mathlib.Core.List.{List, [], ◌∷◌, ◌++◌}
use lib.ListN.{length, get_or, get_or-map}
use lib.Dec.{eqb}
use borrow.Author.Tests.{eq-eqb, ne_eqb, eqb-true}
use Rattle.rules.specs.Base.{◌and◌, when◌then◌else◌, any}
use Rattle.rules.specs.Records.{Rec, at, fresh, has, once, once_all}
use Rattle.rules.specs.Merge.{swapped}
use Rattle.laws.proofs.Basics.{both, either, and_both, or_left, or_right, same_test}
use Rattle.pool.specs.Lists.{swap_one}
use Rattle.pool.specs.Fixed.{floor_is, floor_in, ids_of}
use Rattle.pool.specs.Alike.{FloorOf, Rep, Floors}
use Rattle.pool.proofs.HasLaws.{has_end}

-- ---- membership

pub swap_old : (o n : ℕ) → swap_one o n o ≡ n
unfolding swap_one when◌then◌else◌
swap_old o n = rw (eq-eqb o o refl)

pub swap_other : (o n x : ℕ) → (x ≡ o → ⊥) → swap_one o n x ≡ x
unfolding swap_one when◌then◌else◌
swap_other o n x h = rw (ne_eqb x o h)

pub has_first : (x : ℕ) (l : List ℕ) (v : ℕ) → v ≡ x → has (x ∷ l) v ≡ true
unfolding any
has_first x l v e = or_left (eqb v x) (any (eqb v) l) (eq-eqb v x e)

pub has_later : (x : ℕ) (l : List ℕ) (v : ℕ) → has l v ≡ true → has (x ∷ l) v ≡ true
unfolding any
has_later x l v e = or_right (eqb v x) (any (eqb v) l) e

pub has-at : (l : List ℕ) (x : ℕ) → x < length l → has l (get_or l x 0) ≡ true
has-at [] x h = absurd (omega arith)
has-at (y ∷ l) zero h = has_first y l y refl
has-at (y ∷ l) (suc x) h = has_later y l (get_or l x 0) (has-at l x (omega arith))

has_swap : (o n : ℕ) (l : List ℕ) (v : ℕ) → has l v ≡ true → has (swapped o n l) (swap_one o n v) ≡ true
unfolding any swap_one
has_swap o n [] v h = absurd (false≢true h)
has_swap o n (x ∷ l) v h =
    either _ (eqb v x) (any (eqb v) l) h
    (λ e. has_first (swap_one o n x) (swapped o n l) (swap_one o n v) (ap (swap_one o n) (eqb-true v x e)))
    (λ e. has_later (swap_one o n x) (swapped o n l) (swap_one o n v) (has_swap o n l v e))

-- an entry of the renamed list was an entry before
pub swap_has : (o n : ℕ) (l : List ℕ) (v : ℕ) → has (swapped o n l) v ≡ true → (u : ℕ) × (has l u ≡ true) × (swap_one o n u ≡ v)
unfolding any swap_one
swap_has o n [] v h = absurd (false≢true h)
swap_has o n (x ∷ l) v h =
    either _ (eqb v (swap_one o n x)) (any (eqb v) (swapped o n l)) h
    (λ e. (x, has_first x l x refl, sym (eqb-true v (swap_one o n x) e)))
    (λ e. let r = swap_has o n l v e in (r.0, has_later x l r.0 r.1, r.2))

once_old : (l : List ℕ) (r v : ℕ) → has l v ≡ true → has (once l r) v ≡ true
unfolding once when◌then◌else◌
once_old l r v h = go (has l r)
  where
    go : (b : Bool) → has (when b then l else l ++ (r ∷ [])) v ≡ true
    go true = h
    go false = has_end l r v ∙ or_left (has l v) (eqb v r) h

once_new : (l : List ℕ) (r : ℕ) → has (once l r) r ≡ true
unfolding once when◌then◌else◌
once_new l r = go (has l r) refl
  where
    go : (b : Bool) → has l r ≡ b → has (when b then l else l ++ (r ∷ [])) r ≡ true
    go true e = e
    go false e = has_end l r r ∙ or_right (has l r) (eqb r r) (eq-eqb r r refl)

once-has : (l : List ℕ) (r v : ℕ) → has (once l r) v ≡ true → (has l v ≡ true) ⊎ (v ≡ r)
unfolding once when◌then◌else◌
once-has l r v = go (has l r)
  where
    go : (b : Bool) → has (when b then l else l ++ (r ∷ [])) v ≡ true → (has l v ≡ true) ⊎ (v ≡ r)
    go true h = inl h
    go false h = either _ (has l v) (eqb v r) (sym (has_end l r v) ∙ h) (λ e. inl e) (λ e. inr (eqb-true v r e))

all_old : (l rs : List ℕ) (v : ℕ) → has l v ≡ true → has (once_all l rs) v ≡ true
unfolding once_all
all_old l [] v h = h
all_old l (r ∷ rs) v h = all_old (once l r) rs v (once_old l r v h)

all_new : (l rs : List ℕ) (v : ℕ) → has rs v ≡ true → has (once_all l rs) v ≡ true
unfolding once_all any
all_new l [] v h = absurd (false≢true h)
all_new l (r ∷ rs) v h =
    either _ (eqb v r) (any (eqb v) rs) h
    (λ e. all_old (once l r) rs v (rw (eqb-true v r e) (once_new l r)))
    (λ e. all_new (once l r) rs v e)

all_has : (l rs : List ℕ) (v : ℕ) → has (once_all l rs) v ≡ true → (has l v ≡ true) ⊎ (has rs v ≡ true)
unfolding once_all
all_has l [] v h = inl h
all_has l (r ∷ rs) v h =
    ⊎_elim (λ (e : has (once l r) v ≡ true). ⊎_elim (λ (f : has l v ≡ true). inl f) (λ (f : v ≡ r). inr (has_first r rs v f)) (once-has l r v e))
    (λ (e : has rs v ≡ true). inr (has_later r rs v e))
    (all_has (once l r) rs v h)

-- ---- one merge: o becomes n
pub record Step (o n : ℕ) (rs fs rs' fs' : List Rec) : Type 0 where
  pub old : Rep fs o
  pub new : Rep fs n
  pub apart : o ≡ n → ⊥
  pub ids : (x : ℕ) → (at fs' x).id ≡ swap_one o n (at fs x).id
  pub stay : (x : ℕ) → (at fs' x).floors ≡ (at fs x).floors
  pub rest : (k : ℕ) → Rep fs k → (k ≡ o → ⊥) → (k ≡ n → ⊥) → (at rs' k).floors ≡ swapped o n (at rs k).floors
  pub joined : (at rs' n).floors ≡ swapped o n (once_all (at rs n).floors (at rs o).floors)

module _ (o n : ℕ) (rs fs rs' fs' : List Rec) (s : Step o n rs fs rs' fs') where
  -- what bears its own number afterwards bore it before, and is not o
  rep_before : (k : ℕ) → Rep fs' k → Rep fs k × (k ≡ o → ⊥)
  rep_before k r =
      elim (ℕ_discrete (at fs k).id o) [
        | yes e ↦
            let q : n ≡ k = sym (swap_old o n) ∙ ap (swap_one o n) (sym e) ∙ sym (s.ids k) ∙ r.0 in
            absurd (s.apart (sym e ∙ ap (λ (y : ℕ). (at fs y).id) (sym q) ∙ s.new.0))
        | no e ↦
            let q : (at fs k).id ≡ k = sym (swap_other o n (at fs k).id e) ∙ sym (s.ids k) ∙ r.0 in
            ((q, r.1), λ f. e (q ∙ f))
      ]

  lift : (k₀ j₀ k j : ℕ) → FloorOf fs k₀ j₀ → swap_one o n k₀ ≡ k → swap_one o n j₀ ≡ j → FloorOf fs' k j
  lift k₀ j₀ k j f p q = record {
    who = f.who;
    floor = f.floor;
    bears = s.ids f.who ∙ ap (swap_one o n) f.bears ∙ p;
    holds = rw (s.stay f.who) f.holds;
    is = s.ids f.floor ∙ ap (swap_one o n) f.is ∙ q;
  }

  -- before the merge an id was the same, or o
  was : (u v : ℕ) → swap_one o n u ≡ v → (u ≡ v) ⊎ ((u ≡ o) × (v ≡ n))
  was u v e =
      elim (ℕ_discrete u o) [
        | yes f ↦ inr (f, sym (sym (swap_old o n) ∙ ap (swap_one o n) (sym f) ∙ e))
        | no f ↦ inl (sym (swap_other o n u f) ∙ e)
      ]

  rep_was : (u v : ℕ) → swap_one o n u ≡ v → Rep fs v → Rep fs u
  rep_was u v e r =
      ⊎_elim (λ (f : u ≡ v). rw f r)
      (λ (f : (u ≡ o) × (v ≡ n)). rw f.0 s.old)
      (was u v e)

  module _ (F : Floors rs fs) where
    step_sound : (k j : ℕ) → Rep fs' k → Rep fs' j → has (at rs' k).floors j ≡ true → FloorOf fs' k j
    step_sound k j rk rj h =
        let pk = rep_before k rk in
        let pj = rep_before j rj in
        elim (ℕ_discrete k n) [
          | yes e ↦
              let w = swap_has o n (once_all (at rs n).floors (at rs o).floors) j (rw (← s.joined, ← e) h) in
              let ru = rep_was w.0 j w.2 pj.0 in
              ⊎_elim (λ (g : has (at rs n).floors w.0 ≡ true). lift n w.0 k j (F.sound n w.0 s.new ru g) (swap_other o n n (λ q. s.apart (sym q)) ∙ sym e) w.2)
              (λ (g : has (at rs o).floors w.0 ≡ true). lift o w.0 k j (F.sound o w.0 s.old ru g) (swap_old o n ∙ sym e) w.2)
              (all_has (at rs n).floors (at rs o).floors w.0 w.1)
          | no e ↦
              let w = swap_has o n (at rs k).floors j (rw (← s.rest k pk.0 pk.1 e) h) in
              lift k w.0 k j (F.sound k w.0 pk.0 (rep_was w.0 j w.2 pj.0) w.1) (swap_other o n k pk.1) w.2
        ]

    step_full : (k j : ℕ) → Rep fs' k → Rep fs' j → FloorOf fs' k j → has (at rs' k).floors j ≡ true
    step_full k j rk rj f =
        let pk = rep_before k rk in
        let pj = rep_before j rj in
        let k₀ = (at fs f.who).id in
        let j₀ = (at fs f.floor).id in
        let ek : swap_one o n (at fs f.who).id ≡ k = sym (s.ids f.who) ∙ f.bears in
        let ej : swap_one o n (at fs f.floor).id ≡ j = sym (s.ids f.floor) ∙ f.is in
        let h : has (at rs (at fs f.who).id).floors (at fs f.floor).id ≡ true =
        F.full (at fs f.who).id (at fs f.floor).id (rep_was _ k ek pk.0) (rep_was _ j ej pj.0)
        (record { who = f.who; floor = f.floor; bears = refl; holds = rw (← s.stay f.who) f.holds; is = refl }) in
        elim (ℕ_discrete k n) [
          | yes e ↦
              let g : has (once_all (at rs n).floors (at rs o).floors) (at fs f.floor).id ≡ true =
              ⊎_elim (λ (q : (at fs f.who).id ≡ k). all_old (at rs n).floors (at rs o).floors (at fs f.floor).id (rw (q, e) at h))
              (λ (q : ((at fs f.who).id ≡ o) × (k ≡ n)). all_new (at rs n).floors (at rs o).floors (at fs f.floor).id (rw q.0 at h))
              (was (at fs f.who).id k ek) in
              rw (e, s.joined, ← ej) (has_swap o n _ _ g)
          | no e ↦
              let q : (at fs f.who).id ≡ k =
              ⊎_elim (λ (q : (at fs f.who).id ≡ k). q) (λ (q : ((at fs f.who).id ≡ o) × (k ≡ n)). absurd (e q.1)) (was (at fs f.who).id k ek) in
              rw (s.rest k pk.0 pk.1 e, ← ej) (has_swap o n (at rs k).floors (at fs f.floor).id (rw q at h))
        ]

    pub floors_step : Floors rs' fs'
    floors_step = record { sound = step_sound; full = step_full }

-- ---- the code's test

any_to : (ids : List ℕ) (b : ℕ) (l : List ℕ) → any (floor_is ids b) l ≡ true → (f : ℕ) × (has l f ≡ true) × (get_or ids f 0 ≡ b)
unfolding any floor_is
any_to ids b [] h = absurd (false≢true h)
any_to ids b (x ∷ l) h =
    either _ (eqb (get_or ids x 0) b) (any (floor_is ids b) l) h
    (λ e. (x, has_first x l x refl, eqb-true (get_or ids x 0) b e))
    (λ e. let r = any_to ids b l e in (r.0, has_later x l r.0 r.1, r.2))

any_from : (ids : List ℕ) (b : ℕ) (l : List ℕ) (f : ℕ) → has l f ≡ true → get_or ids f 0 ≡ b → any (floor_is ids b) l ≡ true
unfolding any floor_is
any_from ids b [] f h e = absurd (false≢true h)
any_from ids b (x ∷ l) f h e =
    either _ (eqb f x) (any (eqb f) l) h
    (λ q. or_left _ _ (eq-eqb (get_or ids x 0) b (ap (λ (y : ℕ). get_or ids y 0) (sym (eqb-true f x q)) ∙ e)))
    (λ q. or_right _ _ (any_from ids b l f q e))

fresh-none : (f : ℕ) → has (fresh 0).floors f ≡ false
unfolding fresh any
fresh-none f = refl

in_to : (ids : List ℕ) (k j : ℕ) (rs : List Rec) → floor_in ids rs k j ≡ true
    → (x : ℕ) × (f : ℕ) × ((at rs x).id ≡ k) × (has (at rs x).floors f ≡ true) × (get_or ids f 0 ≡ j)
unfolding floor_in at
in_to ids k j [] h = absurd (false≢true h)
in_to ids k j (r ∷ rs) h =
    either _ (eqb r.id k and any (floor_is ids j) r.floors) (floor_in ids rs k j) h
    (λ e. let b = both _ _ e in let a = any_to ids j r.floors b.1 in (0, a.0, eqb-true r.id k b.0, a.1, a.2))
    (λ e. let q = in_to ids k j rs e in (suc q.0, q.1, q.2, q.3, q.4))

in_from : (ids : List ℕ) (k j : ℕ) (rs : List Rec) (x f : ℕ) → (at rs x).id ≡ k → has (at rs x).floors f ≡ true → get_or ids f 0 ≡ j → floor_in ids rs k j ≡ true
unfolding floor_in at
in_from ids k j [] x f a b c = absurd (true≢false (sym b ∙ fresh-none f))
in_from ids k j (r ∷ rs) zero f a b c = or_left _ _ (and_both _ _ (eq-eqb r.id k a) (any_from ids j r.floors f b c))
in_from ids k j (r ∷ rs) (suc x) f a b c = or_right _ _ (in_from ids k j rs x f a b c)

id_of_lem : (fs : List Rec) (f : ℕ) → get_or (ids_of fs) f 0 ≡ (at fs f).id
unfolding ids_of at fresh
id_of_lem fs f = get_or-map (λ (q : Rec). q.id) fs f (fresh 0)

-- "k has j as a floor" in the rule and in the code
pub floors_agree : (rs fs : List Rec) → Floors rs fs → (k j : ℕ) → Rep fs k → Rep fs j → has (at rs k).floors j ≡ floor_in (ids_of fs) fs k j
floors_agree rs fs F k j rk rj =
    same_test _ _
    (λ h. let f = F.sound k j rk rj h in in_from (ids_of fs) k j fs f.who f.floor f.bears f.holds (id_of_lem fs f.floor ∙ f.is))
    (λ h. let q = in_to (ids_of fs) k j fs h in
    F.full k j rk rj (record { who = q.0; floor = q.1; bears = q.2; holds = q.3; is = sym (id_of_lem fs q.1) ∙ q.4 }))

-- ---- at the start nothing is renamed: live records bear their own numbers
pub floors_start_lem : (rs : List Rec) → ((x : ℕ) → ((at rs x).id ≡ 0 → ⊥) → (at rs x).id ≡ x) → Floors rs rs
floors_start_lem rs own = record {
  sound = λ k j rk rj h. record { who = k; floor = j; bears = rk.0; holds = h; is = rj.0 };
  full = λ k j rk rj f.
      let a : f.who ≡ k = sym (own f.who (λ z. rk.1 (sym f.bears ∙ z))) ∙ f.bears in
      let b : f.floor ≡ j = sym (own f.floor (λ z. rj.1 (sym f.is ∙ z))) ∙ f.is in
      rw (← a, ← b) f.holds;
}
