-- The span told as the source is the one whose id expansion takes, and the span told as objecting is the one that objects. Assumes nothing.
-- Both rules look in the same order; what is best, or first, after k directions is an invariant of the look.
use Prim.Native.Nat.{ℕ, zero, suc, ◌≤◌, ◌<◌}
use native.Mathlib.Omega.{arith}
use native.Mathlib.Decide.{ℕ_discrete}
use mathlib.Core.Path.{◌≡◌, refl, sym, ap, ◌∙◌}
use mathlib.Core.Bool.{Bool, true, false, not, false≢true}
use mathlib.Core.Logic.{◌⊎◌, inl, inr}
use lib.Dec.{eqb}
use borrow.Author.Tests.{eqb-true, eqb-false, eq-eqb, ltb-true, ltb-false, ne_eqb, not-true, not-false}
use Rattle.rules.specs.Base.{◌and◌, when◌then◌else◌}
use Rattle.rules.specs.Net.{Net, near, corner, area_of}
use Rattle.rules.specs.Growth.{Marks, id_of, plain, Taken, look, takes, Seed, other, sees, or_else, objects}
use Rattle.rules.specs.Reasons.{gives, source, objector, objecting}
use Rattle.laws.proofs.Basics.{both, and_both, if-ind, if_ind₂, upto-ind}
use Rattle.rooms.proofs.Joins.{plain_true, true_plain}
use Rattle.reasons.specs.Log.{Offers, sum_of, Chosen, Objection}

-- ---------------------------------------------------------------- tests

not_so : (b : Bool) → (b ≡ true → ⊥) → b ≡ false
not_so true h = absurd (h refl)
not_so false h = refl

pub and_false : (a b : Bool) → a and b ≡ false → a ≡ true → b ≡ false
unfolding ◌and◌
and_false true b e h = e
and_false false b e h = absurd (false≢true h)

-- ---------------------------------------------------------------- the source

module _ (N : Net) (m : Marks) (s : ℕ) where
  -- a neighbour whose id can be taken, and its sum
  abbrev Gives : ℕ → Type 0
  Gives d = Offers N m s d

  abbrev sum : ℕ → ℕ
  sum d = sum_of N m s d

  record Who (k : ℕ) (t : Taken) : Type 0 where
    dir : ℕ
    under : dir < k
    offers : Gives dir
    there : t.id ≡ id_of m (near N s dir)
    is : t.far ≡ sum dir
    first : (i : ℕ) → i < dir → Gives i → t.far < sum i

  -- after k directions
  record Best (k : ℕ) (t : Taken) : Type 0 where
    all : (i : ℕ) → i < k → Gives i → t.far ≤ sum i
    who : (t.id ≡ 0 → ⊥) → Who k t
    none : t.id ≡ 0 → t.far ≡ 65535

  offers_true : (d : ℕ) → Gives d → eqb (area_of N (near N s d)) (area_of N s) and plain (id_of m (near N s d)) ≡ true
  offers_true d o = and_both _ _ (eq-eqb _ _ o.0) (true_plain _ o.1)

  true_offers : (d : ℕ) → eqb (area_of N (near N s d)) (area_of N s) and plain (id_of m (near N s d)) ≡ true → Gives d
  true_offers d e = let w = both _ _ e in (eqb-true _ _ w.0, plain_true _ w.1)

  look_best : (k : ℕ) (t : Taken) → Best k t → Best (suc k) (look N m s k t)
  unfolding look
  look_best k t h =
      if-ind (λ (x : Taken). Best (suc k) x) _
      (λ e.
      let w = both _ _ e in
      let less : sum k < t.far = ltb-true _ _ w.1 in
      let o = true_offers k w.0 in
      record {
        all = λ i l c. elim (ℕ_discrete i k) [ yes q ↦ rw q (omega arith) | no q ↦ omega (arith, h.all i (omega arith) c) ];
        who = λ _. record { dir = k; under = omega arith; offers = o; there = refl; is = refl; first = λ i l c. omega (arith, h.all i l c) };
        none = λ q. absurd (let x = o.1 in omega arith);
      })
      (λ e. record {
        all = λ i l c. elim (ℕ_discrete i k) [
          | yes q ↦ let g : t.far ≤ sum k = ltb-false _ _ (and_false _ _ e (offers_true k (rw q at c))) in rw q g
          | no q ↦ h.all i (omega arith) c
        ];
        who = λ z. let w = h.who z in record { dir = w.dir; under = omega (arith, w.under); offers = w.offers; there = w.there; is = w.is; first = w.first };
        none = h.none;
      })

  takes_best : Best 4 (takes N m s)
  unfolding takes
  takes_best = upto-ind Best (look N m s) _ 4 (record { all = λ i l. absurd (omega arith); who = λ z. absurd (z refl); none = λ _. refl }) (λ k t _ h. look_best k t h)

  -- an entry that finds nothing has no neighbour with a sum below 65,535
  pub takes_none : (takes N m s).id ≡ 0 → (d : ℕ) → d < 4 → Offers N m s d → 65535 ≤ sum_of N m s d
  takes_none e d l o = omega (arith, takes_best.none e, takes_best.all d l o)

  -- and one that finds an id has a neighbour's sum
  pub takes-sum : ((takes N m s).id ≡ 0 → ⊥) → (d : ℕ) × ((takes N m s).far ≡ sum_of N m s d)
  takes-sum z = let w = takes_best.who z in (w.dir, w.is)

  -- the first direction in which a neighbour has the sum
  source-at : (d : ℕ) → d < 4 → gives N m s (takes N m s).far d ≡ true → ((i : ℕ) → i < d → gives N m s (takes N m s).far i ≡ false) → source N m s ≡ near N s d
  unfolding source when◌then◌else◌
  source-at zero l e f = rw e
  source-at (suc zero) l e f = rw (f 0 (omega arith), e)
  source-at (suc (suc zero)) l e f = rw (f 0 (omega arith), f 1 (omega arith), e)
  source-at (suc (suc (suc zero))) l e f = rw (f 0 (omega arith), f 1 (omega arith), f 2 (omega arith))
  source-at (suc (suc (suc (suc d)))) l e f = absurd (omega arith)

  gives_yes : (d : ℕ) → Gives d → (takes N m s).far ≡ sum d → gives N m s (takes N m s).far d ≡ true
  unfolding gives
  gives_yes d o e = and_both _ _ (offers_true d o) (eq-eqb _ _ (sym e))

  gives_no : (d : ℕ) → (Gives d → (takes N m s).far < sum d) → gives N m s (takes N m s).far d ≡ false
  unfolding gives
  gives_no d h =
      not_so _ (λ e.
      let w = both _ _ e in
      let q : sum d ≡ (takes N m s).far = eqb-true _ _ w.1 in
      omega (arith, h (true_offers d w.0)))

  -- "for expansion the span whose id it took"
  pub source-chosen : ((takes N m s).id ≡ 0 → ⊥) → Chosen N m s (source N m s) × (id_of m (source N m s) ≡ (takes N m s).id)
  source-chosen z =
      let b = takes_best in
      let w = b.who z in
      let e : source N m s ≡ near N s w.dir =
      source-at w.dir w.under (gives_yes w.dir w.offers w.is) (λ i l. gives_no i (λ o. w.first i l o)) in
      rw e (
        record {
          dir = w.dir;
          four = w.under;
          there = refl;
          area = w.offers.0;
          room = w.offers.1;
          least = λ d l g. omega (arith, w.is, b.all d l g);
          first = λ d l g. omega (arith, w.is, w.first d l g);
        },
        sym w.there,
      )

-- ---------------------------------------------------------------- the objecting span

module _ (N : Net) (m : Marks) (q : Seed) (c : ℕ) where
  -- the first direction in which the span sees anything
  record Looks : Type 0 where
    dir : ℕ
    four : dir < 4
    nothing : (d : ℕ) → d < dir → sees N m q c d ≡ 0
    two : sees N m q c dir ≡ 2

  first_two : (a b : ℕ) → eqb (or_else a b) 2 ≡ true → (a ≡ 2) ⊎ ((a ≡ 0) × (eqb b 2 ≡ true))
  unfolding or_else
  first_two zero b e = inr (refl, e)
  first_two (suc a) b e = inl (eqb-true (suc a) 2 e)

  below_one : (P : ℕ → Type 0) → P 0 → (d : ℕ) → d < 1 → P d
  below_one P a zero l = a
  below_one P a (suc d) l = absurd (omega arith)

  below_two : (P : ℕ → Type 0) → P 0 → P 1 → (d : ℕ) → d < 2 → P d
  below_two P a b zero l = a
  below_two P a b (suc zero) l = b
  below_two P a b (suc (suc d)) l = absurd (omega arith)

  below_three : (P : ℕ → Type 0) → P 0 → P 1 → P 2 → (d : ℕ) → d < 3 → P d
  below_three P a b e zero l = a
  below_three P a b e (suc zero) l = b
  below_three P a b e (suc (suc zero)) l = e
  below_three P a b e (suc (suc (suc d))) l = absurd (omega arith)

  objects_looks : objects N m q c ≡ true → Looks
  unfolding objects
  objects_looks e =
      elim (first_two _ _ e) [
        | inl a ↦ record { dir = 0; four = omega arith; nothing = λ d l. absurd (omega arith); two = a }
        | inr a ↦ elim (first_two _ _ a.1) [
          | inl b ↦ record { dir = 1; four = omega arith; nothing = below_one (λ d. sees N m q c d ≡ 0) a.0; two = b }
          | inr b ↦ elim (first_two _ _ b.1) [
            | inl d ↦ record { dir = 2; four = omega arith; nothing = below_two (λ d. sees N m q c d ≡ 0) a.0 b.0; two = d }
            | inr d ↦ record { dir = 3; four = omega arith; nothing = below_three (λ d. sees N m q c d ≡ 0) a.0 b.0 d.0; two = eqb-true _ _ d.1 }
          ]
        ]
      ]

  zero_two : (x : ℕ) → x ≡ 0 → eqb x 2 ≡ false
  zero_two x e = rw e

  objecting-at : (d : ℕ) → d < 4 → sees N m q c d ≡ 2 → ((i : ℕ) → i < d → sees N m q c i ≡ 0) → objecting N m q c ≡ objector N m q c d
  unfolding objecting when◌then◌else◌
  objecting-at zero l e f = rw (eq-eqb _ 2 e)
  objecting-at (suc zero) l e f = rw (zero_two _ (f 0 (omega arith)), eq-eqb _ 2 e)
  objecting-at (suc (suc zero)) l e f = rw (zero_two _ (f 0 (omega arith)), zero_two _ (f 1 (omega arith)), eq-eqb _ 2 e)
  objecting-at (suc (suc (suc zero))) l e f = rw (zero_two _ (f 0 (omega arith)), zero_two _ (f 1 (omega arith)), zero_two _ (f 2 (omega arith)))
  objecting-at (suc (suc (suc (suc d)))) l e f = absurd (omega arith)

  other_is : (r : ℕ) → other q.id r ≡ true → (r ≡ 0 → ⊥) × (r ≡ q.id → ⊥)
  other_is r e = let w = both _ _ e in (eqb-false _ _ (not-true _ w.0), eqb-false _ _ (not-true _ w.1))

  other-not : (r : ℕ) → other q.id r ≡ false → (r ≡ 0) ⊎ (r ≡ q.id)
  unfolding ◌and◌
  other-not r e = elim (ℕ_discrete r 0) [
    | yes z ↦ inl z
    | no z ↦ elim (ℕ_discrete r q.id) [ yes y ↦ inr y | no y ↦ absurd (false≢true (sym e ∙ and_both _ _ (ap not (ne_eqb r 0 z)) (ap not (ne_eqb r q.id y)))) ]
  ]

  -- what the span sees in direction d
  record Seen (d o : ℕ) : Type 0 where
    next : area_of N (near N c d) ≡ q.area
    which : (o ≡ near N c d) ⊎ ((o ≡ corner N c d) × ((id_of m (near N c d) ≡ 0) ⊎ (id_of m (near N c d) ≡ q.id)))
    area : area_of N o ≡ q.area
    some : id_of m o ≡ 0 → ⊥
    other : id_of m o ≡ q.id → ⊥

  sees-two : (d : ℕ) → sees N m q c d ≡ 2 → Seen d (objector N m q c d)
  unfolding sees objector
  sees-two d =
      let t = near N c d in
      let u = corner N c d in
      if-ind (λ (r : ℕ). r ≡ 2 → Seen d (objector N m q c d)) _ (λ _ e. absurd (omega arith))
      (λ a. let area : area_of N t ≡ q.area = eqb-true _ _ (not-false _ a) in
      if-ind (λ (r : ℕ). r ≡ 2 → Seen d (objector N m q c d)) _ (λ _ e. absurd (omega arith))
      (λ _. if_ind₂ (λ (r o : ℕ). r ≡ 2 → Seen d o) (other q.id (id_of m t))
      (λ e _. let w = other_is _ e in record { next = area; which = inl refl; area = area; some = w.0; other = w.1 })
      (λ e. if-ind (λ (r : ℕ). r ≡ 2 → Seen d u) _
      (λ y _.
      let v = both _ _ y in
      let w = other_is _ v.1 in
      record { next = area; which = inr (refl, other-not _ e); area = eqb-true _ _ v.0; some = w.0; other = w.1 })
      (λ _ z. absurd (omega arith)))))

  -- "with the objecting span"
  pub objecting-objects : objects N m q c ≡ true → Objection N m q c (objecting N m q c)
  objecting-objects e =
      let w = objects_looks e in
      let v = sees-two w.dir w.two in
      rw (objecting-at w.dir w.four w.two w.nothing) (record {
        dir = w.dir;
        four = w.four;
        nothing = w.nothing;
        next = v.next;
        which = v.which;
        area = v.area;
        some = v.some;
        other = v.other;
      })
