-- The other spans of a cell, one after the other: whether one bears the id of its own, and what joins the floor list.
-- The loops go by "what is left says what all say"; a list of the first len entries grows by one at its end.
use Prim.Native.Nat.{ℕ, zero, suc, ◌+◌, ◌-◌, ◌≤◌, ◌<◌}
use native.Mathlib.Omega.{arith}
use native.Mathlib.Decide.{ℕ_discrete}
use native.Mathlib.Numerals.{add-one}
use mathlib.Core.Path.{◌≡◌, refl, sym, ap, ◌∙◌}
use mathlib.Core.Bool.{Bool, true, false, not, false≢true}
use mathlib.Core.List.{List, [], ◌∷◌, map}
use lib.ListN.{length, get_or, set, take, drop, length-set, length-take}
use lib.Seq.{get_or-take, get_or-drop, take-suc-set}
use lib.Dec.{eqb, leb-suc-suc}
use borrow.Author.Tests.{eqb-true, eq-eqb, ne_eqb, lt-ltb, le-ltb, leb-true, leb-false}
use Rattle.rules.specs.Base.{◌and◌, ◌or◌, when◌then◌else◌, keep, tab, any}
use Rattle.rules.specs.Growth.{flagged, plain}
use Rattle.rules.specs.Merge.{place}
use Rattle.rules.specs.Records.{has, once}
use Rattle.laws.proofs.Basics.{if-ind, or_right, or_no, or_yes, or_swap}
use Rattle.laws.proofs.Plain.{plain-flagged, plain_yes}
use Rattle.table.proofs.SearchLaws.{has_cons, place_other, place-first}
use Rattle.records.specs.Cell.{twin, twins, others_from, join_one, Alike, Found, JoinedOne}
use Rattle.records.specs.declared.cell.Spans.{Spans}

-- ---------------------------------------------------------------- ids of regions, as the code tests for them

module _ (r : ℕ) (b : Bool) (e : b ≡ flagged r) where
  pub border-not : b ≡ true → plain r ≡ false
  border-not t = plain-flagged r (leb-true 32768 r (sym e ∙ t))

  pub region_yes : (r ≡ 0 → ⊥) → b ≡ false → plain r ≡ true
  region_yes n f = plain_yes r n (leb-false 32768 r (sym e ∙ f))

-- ---------------------------------------------------------------- the ids of two cells

-- the n spans from a on, and those from b on, have one list of ids
pub alike_ids : (ids : List ℕ) (last cell : Spans) (n : ℕ) → last.size ≡ cell.size → n ≡ cell.size
    → take (last.from + n - last.from) (drop last.from ids) ≡ take (cell.from + n - cell.from) (drop cell.from ids) → Alike ids last cell
alike_ids ids last cell n q e h = record {
  size = q;
  same = λ j l. sym (there last.from j (omega arith)) ∙ ap (λ (x : List ℕ). get_or x j 0) h ∙ there cell.from j (omega arith);
}
  where
    there : (a j : ℕ) → j < n → get_or (take (a + n - a) (drop a ids)) j 0 ≡ get_or ids (a + j) 0
    there a j l = get_or-take (a + n - a) (drop a ids) j 0 (omega arith) ∙ get_or-drop a ids j 0

-- ---------------------------------------------------------------- the own id

module _ (ids : List ℕ) (t s own : ℕ) where
  pub twin_self : t ≡ s → not (eqb t s) ≡ twin ids t s own
  unfolding twin ◌and◌
  twin_self e = rw (eq-eqb t s e) refl

  pub twin_other : (t ≡ s → ⊥) → eqb own (get_or ids t 0) ≡ twin ids t s own
  unfolding twin ◌and◌
  twin_other e = rw (ne_eqb t s e) refl

module _ (v w b : Bool) (e : v ≡ w) where
  pub met_now : v ≡ true → v ≡ b or w
  met_now t = t ∙ sym (or_right b w (sym e ∙ t))

  pub met_not : v ≡ false → b ≡ b or w
  met_not f = sym (ap (λ x. b or x) (sym e ∙ f) ∙ or_no b)

pub twins-start : (ids : List ℕ) (s own size t : ℕ) → false or twins ids s own (size - 0) (t + 0) ≡ twins ids s own size t
unfolding ◌or◌
twins-start ids s own size t = let a : t + 0 ≡ t = omega arith in let b : size - 0 ≡ size = omega arith in rw (a, b) refl

module _ (ids : List ℕ) (s own size t j : ℕ) (b : Bool) (e : b or twins ids s own (size - j) (t + j) ≡ twins ids s own size t) where
  pub twins-end : size ≤ j → b ≡ twins ids s own size t
  unfolding twins
  twins-end g =
      let q : size - j ≡ 0 = omega arith in
      let z : twins ids s own (size - j) (t + j) ≡ false = rw q refl in
      sym (or_no b) ∙ sym (ap (λ x. b or x) z) ∙ e

  pub twins_go : (u : ℕ) → u ≡ t + j → (c : Bool) → j < size → c ≡ b or twin ids u s own → c or twins ids s own (size - (j + 1)) (t + (j + 1)) ≡ twins ids s own size t
  unfolding twins
  twins_go u eu c g v =
      let q : c ≡ b or twin ids (t + j) s own = rw eu at v in
      let f : size - j ≡ suc (size - (j + 1)) = omega arith in
      let a : t + (j + 1) ≡ t + j + 1 = omega arith in
      let z : twins ids s own (size - j) (t + j) ≡ twin ids (t + j) s own or twins ids s own (size - (j + 1)) (t + (j + 1)) = rw (f, a) refl in
      ap (λ x. x or twins ids s own (size - (j + 1)) (t + (j + 1))) q ∙ or_swap b _ _ ∙ sym (ap (λ x. b or x) z) ∙ e

-- a span alone in its cell
pub twins-alone : (ids : List ℕ) (s own : ℕ) → twins ids s own 1 s ≡ false
unfolding twins twin ◌and◌ ◌or◌
twins-alone ids s own = rw (eq-eqb s s refl)

pub others-alone : (ids : List ℕ) (s : ℕ) → others_from ids s 1 s ≡ []
unfolding others_from keep tab when◌then◌else◌
others-alone ids s = rw (eq-eqb s s refl)

module _ (ids : List ℕ) (s own : ℕ) (pl : plain own ≡ true) where
  pub any-twins : (n t : ℕ) → any (eqb own) (keep plain (map (λ t. get_or ids t 0) (keep (λ t. not (eqb t s)) (tab n t (λ t. t))))) ≡ twins ids s own n t
  unfolding any keep tab twins twin ◌and◌ ◌or◌
  any-twins zero t = refl
  any-twins (suc n) t =
      let x = get_or ids t 0 in
      let r = keep (λ t. not (eqb t s)) (tab n (suc t) (λ t. t)) in
      let ih : any (eqb own) (keep plain (map (λ t. get_or ids t 0) r)) ≡ twins ids s own n (t + 1) = rw (add-one t) (any-twins n (suc t)) in
      if-ind (λ (y : List ℕ). any (eqb own) (keep plain (map (λ t. get_or ids t 0) y)) ≡ (not (eqb t s) and eqb own x) or twins ids s own n (t + 1)) (not (eqb t s))
      (λ e. rw e (if-ind (λ (y : List ℕ). any (eqb own) y ≡ eqb own x or twins ids s own n (t + 1)) (plain x)
      (λ _. rw ih refl)
      (λ f. if_ind2 (eqb own x) (λ z. let q : own ≡ x = eqb-true own x z in false≢true (sym f ∙ (rw (← q) pl))) ih)))
      (λ e. rw e ih)
    where
      if_ind2 : {a c : Bool} (b : Bool) → (b ≡ true → ⊥) → a ≡ c → a ≡ b or c
      if_ind2 true h e = absurd (h refl)
      if_ind2 false h e = e

-- ---------------------------------------------------------------- where it is listed

any_at : (r : ℕ) (l : List ℕ) (i : ℕ) → i < length l → r ≡ get_or l i 0 → any (eqb r) l ≡ true
unfolding any ◌or◌
any_at r [] i h e = absurd (omega arith)
any_at r (x ∷ l) zero h e = rw (eq-eqb r x e)
any_at r (x ∷ l) (suc i) h e = rw (any_at r l i (omega arith) e) (or_yes (eqb r x))

-- wherever r stands among the first n
pub found_here : (l : List ℕ) (n r i : ℕ) → n ≤ length l → i < n → r ≡ get_or l i 0 → Found l n r i
found_here l n r i h g z =
    let long : i < length (take n l) = simp length-take (omega arith) in
    record { low = omega arith; here = λ _. z; there = lt-ltb i n g ∙ sym (any_at r (take n l) i long (z ∙ sym (get_or-take n l i 0 g))) }

-- the first place is one where r stands, or past all entries
pub place_found : (n : ℕ) (l : List ℕ) (r : ℕ) → n ≤ length l → Found l n r (place (take n l) r)
unfolding place any
place_found zero l r h = record { low = omega arith; here = λ g. absurd (omega arith); there = le-ltb 0 0 (omega arith) }
place_found (suc n) [] r h = absurd (omega arith)
place_found (suc n) (x ∷ l) r h =
    elim (ℕ_discrete x r) [
      | yes q ↦ rw (place-first x (take n l) r q) (found_here (x ∷ l) (suc n) r 0 h (omega arith) (sym q))
      | no q ↦ (let f = place_found n l r (omega arith) in
          rw (place_other x (take n l) r q) (record { low = omega (arith, f.low); here = λ g. f.here (omega arith); there = leb-suc-suc (suc (place (take n l) r)) n ∙ f.there ∙ sym (has_cons x (take n l) r q) }))
    ]

-- ---------------------------------------------------------------- one joins

module _ (part : List ℕ) (len r p : ℕ) (f : Found part len r p) (h : len < length part) where
  pub once_there : p < len → JoinedOne (once (take len part) r) len part len
  unfolding once when◌then◌else◌
  once_there g =
      let z : has (take len part) r ≡ true = sym f.there ∙ lt-ltb p len g in
      record { same = rw z; low = omega arith; high = omega arith; within = omega arith }

  pub once_new : len ≤ p → JoinedOne (once (take len part) r) len (set part len r) (len + 1)
  unfolding once when◌then◌else◌
  once_new g =
      let z : has (take len part) r ≡ false = sym f.there ∙ le-ltb p len g in
      record {
        same = rw (z, add-one len) (take-suc-set part len r h);
        low = omega arith;
        high = omega arith;
        within = rw (length-set part len r) (omega arith);
      }

module _ (ids part : List ℕ) (s t len : ℕ) (h : len ≤ length part) where
  pub join_self : t ≡ s → JoinedOne (join_one ids s t (take len part)) len part len
  unfolding join_one when◌then◌else◌ ◌and◌
  join_self e = record { same = rw (eq-eqb t s e); low = omega arith; high = omega arith; within = h }

  module _ (n : t ≡ s → ⊥) where
    pub join_not : plain (get_or ids t 0) ≡ false → JoinedOne (join_one ids s t (take len part)) len part len
    unfolding join_one when◌then◌else◌ ◌and◌
    join_not f = record { same = rw (ne_eqb t s n, f); low = omega arith; high = omega arith; within = h }

    pub join_yes : plain (get_or ids t 0) ≡ true → (part' : List ℕ) (k : ℕ) → JoinedOne (once (take len part) (get_or ids t 0)) len part' k → JoinedOne (join_one ids s t (take len part)) len part' k
    unfolding join_one when◌then◌else◌ ◌and◌
    join_yes y part' k j = rw (ne_eqb t s n, y) j
