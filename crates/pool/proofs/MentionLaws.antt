-- Linked places mention what live records list, before a merge and after it. Where lists are renamed in place the places stay, and what they named and the
-- records beside them are renamed with the ids; where lists are carried the places are linked anew, and hold what is listed.
use Prim.Native.Nat.{ℕ, suc, ◌+◌, ◌-◌, ◌*◌, ◌≤◌, ◌<◌}
use native.Mathlib.Omega.{arith}
use native.Mathlib.Decide.{ℕ_discrete}
use mathlib.Core.Path.{◌≡◌, refl, sym, ap, ◌∙◌}
use mathlib.Core.Logic.{⊎_elim, ◌⊎◌, inl, inr}
use mathlib.Core.Bool.{true, false, true≢false, false≢true}
use mathlib.Core.List.{List, [], ◌∷◌, ◌++◌, map}
use lib.ListN.{length, get_or}
use lib.Dec.{eqb}
use Rattle.rules.specs.Base.{when◌then◌else◌, any}
use Rattle.rules.specs.Records.{has}
use Rattle.rules.specs.Merge.{around, tidy}
use Rattle.laws.proofs.Basics.{if-ind}
use Rattle.space.proofs.Laws.{cases}
use Rattle.table.specs.View.{part, start_of, end_of, list_at}
use Rattle.table.proofs.ViewLaws.{wide-same, list_length, part_at}
use Rattle.pool.specs.Lists.{swap_one}
use Rattle.pool.specs.Part.{renamed_list}
use Rattle.pool.specs.Bearers.{Owners}
use Rattle.pool.specs.Links.{Linked, Mention, Mentions}
use Rattle.pool.specs.Pool.{len_at, new_list, joined_list, Pool, Relisted}
use Rattle.pool.proofs.FloorLaws.{swap_old, swap_other, swap_has}
use Rattle.pool.proofs.MergeLaws.{has_some, tidy-has, append-has, around-has}

-- ---- where something stands in a list, and what a renamed list holds

has_index : (l : List ℕ) (v : ℕ) → has l v ≡ true → (j : ℕ) × (j < length l) × (get_or l j 0 ≡ v)
unfolding any
has_index [] v h = absurd (false≢true h)
has_index (x ∷ l) v h =
    ⊎_elim (λ (e : v ≡ x). (0, omega arith, sym e)) (λ (e : has l v ≡ true). let t = has_index l v e in (suc t.0, omega (arith, t.1), t.2)) (has_some x l v h)

has-none : (v : ℕ) → has [] v ≡ true → ⊥
unfolding any
has-none v h = false≢true h

pub none_of : (l : List ℕ) → length l ≡ 0 → l ≡ []
none_of [] e = refl
none_of (x ∷ l) e = absurd (omega arith)

pub none_new : (old new id : ℕ) → new_list old new id [] ≡ []
unfolding new_list renamed_list any when◌then◌else◌
none_new old new id = if-ind (λ (l : List ℕ). l ≡ []) (eqb id 0) (λ _. refl) (λ _. refl)

-- it was there and is not old, or it is new and old was there
abbrev WasIn : ℕ → ℕ → List ℕ → ℕ → Type 0
WasIn old new l v = ((has l v ≡ true) × (v ≡ old → ⊥)) ⊎ ((v ≡ new) × (has l old ≡ true))

renamed-has : (old new : ℕ) (l : List ℕ) (v : ℕ) → has (renamed_list old new l) v ≡ true → WasIn old new l v
unfolding renamed_list swap_one when◌then◌else◌
renamed-has old new l v h = ⊎_elim
    (λ (b : has l old ≡ true).
    let k : has (tidy (map (swap_one old new) l)) v ≡ true = rw b at h in
    let w = swap_has old new l v (tidy-has (map (swap_one old new) l) v k) in
    elim (ℕ_discrete w.0 old) [
      | yes e ↦ inr (sym w.2 ∙ ap (swap_one old new) e ∙ swap_old old new, b)
      | no e ↦
          let q : v ≡ w.0 = sym w.2 ∙ swap_other old new w.0 e in
          inl (ap (has l) q ∙ w.1, λ d. e (sym q ∙ d))
    ])
    (λ (b : has l old ≡ false).
    let k : has l v ≡ true = rw b at h in
    inl (k, λ d. true≢false (sym k ∙ ap (has l) d ∙ b)))
    (cases (has l old))

new_has : (old new id : ℕ) (l : List ℕ) (v : ℕ) → (id ≡ 0 → ⊥) → has (new_list old new id l) v ≡ true → WasIn old new l v
unfolding new_list when◌then◌else◌
new_has old new id l v z h = renamed-has old new l v (rw (borrow.Author.Tests.ne_eqb id 0 z) at h)

joined-has : (old new k j : ℕ) (l l' : List ℕ) (v : ℕ) → has (joined_list l l' k j old new) v ≡ true → WasIn old new l v ⊎ WasIn old new l' v
unfolding joined_list
joined-has old new k j l l' v h = ⊎_elim
    (λ (w : (has (tidy (around l k ++ around l' j)) v ≡ true) × (v ≡ old → ⊥)).
    ⊎_elim (λ (u : has l v ≡ true). inl (inl (u, w.1))) (λ (u : has l' v ≡ true). inr (inl (u, w.1))) (either v w.0))
    (λ (w : (v ≡ new) × (has (tidy (around l k ++ around l' j)) old ≡ true)).
    ⊎_elim (λ (u : has l old ≡ true). inl (inr (w.0, u))) (λ (u : has l' old ≡ true). inr (inr (w.0, u))) (either old w.1))
    (renamed-has old new (tidy (around l k ++ around l' j)) v h)
  where
    either : (r : ℕ) → has (tidy (around l k ++ around l' j)) r ≡ true → (has l r ≡ true) ⊎ (has l' r ≡ true)
    either r q = ⊎_elim (λ (u : has (around l k) r ≡ true). inl (around-has l k r u)) (λ (u : has (around l' j) r ≡ true). inr (around-has l' j r u))
        (append-has (around l k) (around l' j) r (tidy-has _ r q))

-- ---- links that stay

pub linked_same : (m p from k : ℕ) (named : ℕ → ℕ) (ws ws' : List ℕ) → ((y : ℕ) → from ≤ y → get_or ws' y 0 ≡ get_or ws y 0) → Linked m p from k named ws → Linked m p from k named ws'
linked_same m p from k named ws ws' e L = record {
  lasts = λ r g. wide-same ws ws' m (from + 2 * p + r) (e _ (omega arith)) (e _ (omega arith)) ∙ L.lasts r g;
  links = λ q g h. wide-same ws ws' p (from + q) (e _ (omega arith)) (e _ (omega arith)) ∙ L.links q g h;
}

-- ids that are by now what they were to be, and all else as it was
module _ (m p o from : ℕ) (f g : ℕ → ℕ) (ws ws' : List ℕ) (ids : (y : ℕ) → y < m → g (get_or ws' y 0) ≡ f (get_or ws y 0))
    (live : (y : ℕ) → y < m → (get_or ws' y 0 ≡ 0 → ⊥) → get_or ws y 0 ≡ 0 → ⊥) (lists : (x : ℕ) → x < m → list_at ws' m (7 * m) x ≡ list_at ws m (7 * m) x)
    (beside : (q : ℕ) → q < p → get_or ws' (o + q) 0 ≡ get_or ws (o + q) 0) (past : (y : ℕ) → from ≤ y → get_or ws' y 0 ≡ get_or ws y 0) where
  pub mentions_via : Mentions m p o from f ws → Mentions m p o from g ws'
  mentions_via M = record {
    places = M.places;
    few = M.few;
    named = M.named;
    linked = linked_same m p from M.places M.named ws ws' past M.linked;
    listed = λ x r a b l z e h.
        let t = M.listed x r a b (live x a l) z (sym (ids r b) ∙ e) (ap (λ (y : List ℕ). has y r) (sym (lists x a)) ∙ h) in
        let s = beside t.place (omega (arith, t.inside, M.few)) in
        record {
          place = t.place;
          inside = t.inside;
          names = t.names;
          is = ids (M.named t.place) t.names ∙ t.is;
          beside = rw s t.beside;
          bears = rw s (ids (get_or ws (o + t.place) 0) t.beside ∙ t.bears);
        };
  }

-- ---- after the lists are renamed

module _ (m p n k i j b c links : ℕ) (ws ws' : List ℕ) (O : Owners m n i ws) (R : Relisted m p n k i j i n b c links ws ws')
    (ids : (y : ℕ) → y < m → get_or ws' y 0 ≡ get_or ws y 0) where
  abbrev f : ℕ → ℕ
  f = swap_one i n

  f_n : f n ≡ n
  f_n = swap_other i n n (λ e. O.apart (sym e))

  -- an id that is by now its own number was its own number
  own_was : (r : ℕ) → r < m → f (get_or ws' r 0) ≡ r → get_or ws r 0 ≡ r
  own_was r g e = elim (ℕ_discrete (get_or ws r 0) i) [
    | yes d ↦
        let w : n ≡ r = sym (swap_old i n) ∙ ap f (sym (ids r g ∙ d)) ∙ e in
        absurd (O.apart (sym d ∙ ap (λ (y : ℕ). get_or ws y 0) (sym w) ∙ O.own))
    | no d ↦ sym (swap_other i n (get_or ws r 0) d) ∙ ap f (sym (ids r g)) ∙ e
  ]

  -- in place
  module _ (beside : (q : ℕ) → q < p → get_or ws' (c + q) 0 ≡ get_or ws (c + q) 0) (past : (y : ℕ) → links ≤ y → get_or ws' y 0 ≡ get_or ws y 0) (M : Mentions m p c links (λ y. y) ws) where
    mention_as : (x r : ℕ) → Mention m M.places c (λ y. y) M.named ws x r → Mention m M.places c f M.named ws' (f x) (f r)
    mention_as x r t =
        let s = beside t.place (omega (arith, t.inside, M.few)) in
        record {
          place = t.place;
          inside = t.inside;
          names = t.names;
          is = ap f (ids (M.named t.place) t.names ∙ t.is);
          beside = rw s t.beside;
          bears = rw s (ap f (ids (get_or ws (c + t.place) 0) t.beside ∙ t.bears));
        }

    -- what record y lists was mentioned, and is by now
    was : (y x r : ℕ) → y < m → r < m → (get_or ws y 0 ≡ 0 → ⊥) → (r ≡ 0 → ⊥) → f y ≡ x → f (get_or ws' r 0) ≡ r → WasIn i n (list_at ws m (7 * m) y) r
        → Mention m M.places c f M.named ws' x r
    was y x r gy gr l z e q w = ⊎_elim
        (λ (v : (has (list_at ws m (7 * m) y) r ≡ true) × (r ≡ i → ⊥)).
        rw (e, swap_other i n r v.1) at (mention_as y r (M.listed y r gy gr l z (own_was r gr q) v.0)))
        (λ (v : (r ≡ n) × (has (list_at ws m (7 * m) y) i ≡ true)).
        rw (e, swap_old i n ∙ sym v.0) at (mention_as y i (M.listed y i gy O.second l O.some' O.own' v.1)))
        w

    pub mentions_here : Mentions m p c links f ws'
    mentions_here = record {
      places = M.places;
      few = M.few;
      named = M.named;
      linked = linked_same m p links M.places M.named ws ws' past M.linked;
      listed = λ x r gx gr l z e h. elim (ℕ_discrete x i) [
        | yes d ↦ absurd (has-none r (sym (ap (λ (y : List ℕ). has y r) (ap (list_at ws' m (7 * m)) d ∙ R.bare)) ∙ h))
        | no d ↦ elim (ℕ_discrete x n) [
          | yes q ↦ ⊎_elim
              (λ (w : WasIn i n (list_at ws m (7 * m) n) r). was n x r O.first gr (λ v. O.some (sym O.own ∙ v)) z (f_n ∙ sym q) e w)
              (λ (w : WasIn i n (list_at ws m (7 * m) i) r). was i x r O.second gr (λ v. O.some' (sym O.own' ∙ v)) z (swap_old i n ∙ sym q) e w)
              (joined-has i n k j _ _ r (ap (λ (y : List ℕ). has y r) (sym (ap (list_at ws' m (7 * m)) q ∙ R.joined)) ∙ h))
          | no q ↦
              let live : get_or ws x 0 ≡ 0 → ⊥ = (λ v. l (ids x gx ∙ v)) in
              was x x r gx gr live z (swap_other i n x d) e (new_has i n (get_or ws x 0) _ r live (ap (λ (y : List ℕ). has y r) (sym (R.others x gx d q)) ∙ h))
        ]
      ];
    }

  -- a record that lists something bears its own number, and is not the absorbed one
  module _ (h o : ℕ) (P : Pool m p h o ws) where
    own_now : (x r : ℕ) → x < m → (get_or ws x 0 ≡ 0 → ⊥) → has (list_at ws' m (7 * m) x) r ≡ true → f (get_or ws' x 0) ≡ x
    unfolding len_at
    own_now x r g l h = ap f (ids x g) ∙ elim (ℕ_discrete x i) [
      | yes d ↦ absurd (has-none r (sym (ap (λ (y : List ℕ). has y r) (ap (list_at ws' m (7 * m)) d ∙ R.bare)) ∙ h))
      | no d ↦ elim (ℕ_discrete x n) [
        | yes q ↦ rw q (ap f O.own ∙ f_n)
        | no q ↦
            let own : get_or ws x 0 ≡ x = P.owns x g l (λ e.
            let v : list_at ws m (7 * m) x ≡ [] = none_of _ (list_length ws m (7 * m) x P.held.lists g ∙ e) in
            has-none r (sym (ap (λ (y : List ℕ). has y r) (R.others x g d q ∙ ap (new_list i n (get_or ws x 0)) v ∙ none_new i n (get_or ws x 0))) ∙ h)) in
            ap f own ∙ swap_other i n x d
      ]
    ]

    -- linked anew: the places hold what is listed, and their records stand beside them
    module _ (top : ℕ) (upto : top ≤ b + p) (from : (x : ℕ) → x < m → b ≤ start_of ws' m (7 * m) x) (below : (x : ℕ) → x < m → end_of ws' m (7 * m) x ≤ top) (named : ℕ → ℕ)
        (held : (q : ℕ) → q < top - b → named q ≡ get_or ws' (b + q) 0) (linked : Linked m p links (top - b) named ws')
        (own : (x q : ℕ) → x < m → start_of ws' m (7 * m) x ≤ q → q < end_of ws' m (7 * m) x → get_or ws' (c + (q - b)) 0 ≡ x) where
      pub mentions_there : Mentions m p c links f ws'
      unfolding list_at
      mentions_there = record {
        places = top - b;
        few = omega arith;
        named = named;
        linked = linked;
        listed = λ x r gx gr l z e h.
            let s = start_of ws' m (7 * m) x in
            let t = end_of ws' m (7 * m) x in
            let w = has_index (part s t ws') r h in
            let v : w.0 < t - s = rw (list_length ws' m (7 * m) x R.parts gx) at w.1 in
            let q = s + w.0 - b in
            let u : b + q ≡ s + w.0 = omega (arith, from x gx) in
            let d : named q ≡ r = held q (omega (arith, from x gx, below x gx)) ∙ ap (λ (y : ℕ). get_or ws' y 0) u ∙ sym (part_at s t w.0 ws' v) ∙ w.2 in
            let o' : get_or ws' (c + q) 0 ≡ x = own x (s + w.0) gx (omega arith) (omega arith) in
            record {
              place = q;
              inside = omega (arith, from x gx, below x gx);
              names = rw d gr;
              is = rw d e;
              beside = rw o' gx;
              bears = rw o' (own_now x r gx (λ y. l (ids x gx ∙ y)) h);
            };
      }
