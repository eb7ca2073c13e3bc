-- How many spans have an id: over the first k spans, one more at a time; and the rooms of the floors, which do not meet.
-- A test that holds of one id more holds of as many spans more as bear that id.
use Prim.Native.Nat.{ℕ, zero, suc, ◌+◌, ◌-◌, ◌≤◌, ◌<◌}
use native.Mathlib.Omega.{arith}
use native.Mathlib.Numerals.{add-one}
use native.Mathlib.Decide.{ℕ_discrete, dec_lt}
use mathlib.Core.Path.{◌≡◌, refl, sym, ap, ◌∙◌}
use mathlib.Core.Bool.{Bool, true, false, false≢true}
use mathlib.Core.List.{List, [], ◌∷◌, ◌++◌}
use lib.ListN.{length, get_or, take}
use lib.Seq.{take-suc, take-length}
use lib.Dec.{eqb, ltb}
use borrow.Author.Tests.{eqb-true, eq-eqb, ne_eqb, lt-ltb, le-ltb}
use Rattle.rules.specs.Base.{◌and◌, when◌then◌else◌, many}
use Rattle.rules.specs.Growth.{plain}
use Rattle.laws.proofs.Basics.{if-ind, many_le, both}
use Rattle.records.specs.Rows.{slot, mine}

pub many-same : (p q : ℕ → Bool) (l : List ℕ) → ((x : ℕ) → q x ≡ p x) → many q l ≡ many p l
unfolding many
many-same p q [] e = refl
many-same p q (x ∷ l) e = rw (e x, many-same p q l e)

module _ (p : ℕ → Bool) (own : ℕ) (nay : p own ≡ false) where
  -- an element is of p or is own, not both
  pub many_apart : (l : List ℕ) → many p l + many (eqb own) l ≤ length l
  unfolding many
  many_apart [] = omega arith
  many_apart (x ∷ l) =
      let r = many_apart l in
      if-ind (λ (a : ℕ). a + (when eqb own x then suc (many (eqb own) l) else many (eqb own) l) ≤ suc (length l)) (p x)
      (λ t. if-ind (λ (b : ℕ). suc (many p l) + b ≤ suc (length l)) (eqb own x)
      (λ e. let q : own ≡ x = eqb-true own x e in absurd (false≢true (sym nay ∙ (rw q t))))
      (λ _. omega arith))
      (λ _. if-ind (λ (b : ℕ). many p l + b ≤ suc (length l)) (eqb own x) (λ _. omega arith) (λ _. omega arith))

  -- own is of q too
  pub many_more : (q : ℕ → Bool) → q own ≡ true → ((x : ℕ) → (x ≡ own → ⊥) → q x ≡ p x) → (l : List ℕ) → many q l ≡ many p l + many (eqb own) l
  unfolding many when◌then◌else◌
  many_more q y e [] = refl
  many_more q y e (x ∷ l) =
      let r = many_more q y e l in
      elim (ℕ_discrete x own) [
        | yes z ↦ rw (z, y, nay, eq-eqb own own refl) (omega arith)
        | no z ↦ rw (e x z, ne_eqb own x (λ w. z (sym w))) (go _ _ _ (p x) r)
      ]
    where
      go : (a b c : ℕ) (t : Bool) → a ≡ b + c → (when t then suc a else a) ≡ (when t then suc b else b) + c
      go a b c true r = omega arith
      go a b c false r = r

-- ---------------------------------------------------------------- the first k

one : Bool → ℕ
one b = when b then 1 else 0

many_snoc : (p : ℕ → Bool) (l : List ℕ) (x : ℕ) → many p (l ++ (x ∷ [])) ≡ many p l + one (p x)
unfolding many one when◌then◌else◌
many_snoc p [] x = base (p x)
  where
    base : (c : Bool) → (when c then suc 0 else 0) ≡ 0 + (when c then 1 else 0)
    base true = refl
    base false = refl
many_snoc p (y ∷ l) x = go (p y) (many p (l ++ (x ∷ []))) (many p l) (one (p x)) (many_snoc p l x)
  where
    go : (b : Bool) (a d c : ℕ) → a ≡ d + c → (when b then suc a else a) ≡ (when b then suc d else d) + c
    go true a d c e = omega arith
    go false a d c e = e

module _ (p : ℕ → Bool) (l : List ℕ) (k : ℕ) (h : k < length l) where
  many-take : many p (take (k + 1) l) ≡ many p (take k l) + one (p (get_or l k 0))
  many-take = rw (add-one k) (ap (many p) (take-suc l k 0 h) ∙ many_snoc p (take k l) (get_or l k 0))

  pub many_counts : p (get_or l k 0) ≡ true → many p (take (k + 1) l) ≡ many p (take k l) + 1
  unfolding one when◌then◌else◌
  many_counts e = many-take ∙ rw e refl

  pub many_passes : p (get_or l k 0) ≡ false → many p (take (k + 1) l) ≡ many p (take k l)
  unfolding one when◌then◌else◌
  many_passes e = many-take ∙ rw e (omega arith)

pub many-take_le : (p : ℕ → Bool) (l : List ℕ) (k : ℕ) → many p (take k l) ≤ many p l
unfolding many when◌then◌else◌
many-take_le p [] zero = omega arith
many-take_le p [] (suc k) = omega arith
many-take_le p (x ∷ l) zero = omega arith
many-take_le p (x ∷ l) (suc k) = go (p x) (many-take_le p l k)
  where
    go : (b : Bool) → many p (take k l) ≤ many p l → (when b then suc (many p (take k l)) else many p (take k l)) ≤ (when b then suc (many p l) else many p l)
    go true h = omega arith
    go false h = h

pub many_all : (p : ℕ → Bool) (l : List ℕ) (k : ℕ) → k ≡ length l → many p (take k l) ≡ many p l
many_all p l k e = ap (many p) (ap (λ (x : ℕ). take x l) e ∙ take-length l)

pub many-none : (p : ℕ → Bool) (l : List ℕ) → many p (take 0 l) ≡ 0
unfolding many
many-none p l = refl

-- ---------------------------------------------------------------- the spans that count

pub mine_yes : (r : ℕ) → plain r ≡ true → mine r r ≡ true
unfolding mine ◌and◌
mine_yes r h = rw (h, eq-eqb r r refl)

pub mine-other : (i r : ℕ) → (i ≡ r → ⊥) → mine i r ≡ false
unfolding mine ◌and◌
mine-other i r n = go (plain r) (ne_eqb i r n)
  where
    go : (b : Bool) → eqb i r ≡ false → b and eqb i r ≡ false
    go true e = e
    go false e = refl

pub mine-not : (i r : ℕ) → plain r ≡ false → mine i r ≡ false
unfolding mine ◌and◌
mine-not i r h = rw h

pub mine_le : (i : ℕ) (l : List ℕ) → many (mine i) l ≤ many (eqb i) l
unfolding many mine
mine_le i [] = omega arith
mine_le i (x ∷ l) =
    let r = mine_le i l in
    if-ind (λ (a : ℕ). a ≤ (when eqb i x then suc (many (eqb i) l) else many (eqb i) l)) (plain x and eqb i x)
    (λ t. if-ind (λ (b : ℕ). suc (many (mine i) l) ≤ b) (eqb i x) (λ _. omega arith) (λ f. absurd (false≢true (sym f ∙ of t))))
    (λ _. if-ind (λ (b : ℕ). many (mine i) l ≤ b) (eqb i x) (λ _. omega arith) (λ _. r))
  where
    of : plain x and eqb i x ≡ true → eqb i x ≡ true
    of t = (both (plain x) (eqb i x) t).1

-- ---------------------------------------------------------------- the rooms of the floors

pub slot-first : (ids : List ℕ) → slot ids 0 ≡ 0
unfolding slot many when◌then◌else◌
slot-first [] = refl
slot-first (x ∷ l) = rw (le-ltb x 0 (omega arith)) (slot-first l)

pub slot_next : (ids : List ℕ) (i : ℕ) → slot ids (i + 1) ≡ slot ids i + many (eqb i) ids
unfolding slot
slot_next ids i =
    rw (add-one i) (many_more (λ (x : ℕ). ltb x i) i (le-ltb i i (omega arith)) (λ (x : ℕ). ltb x (suc i)) (lt-ltb i (suc i) (omega arith))
    (λ x n. elim (dec_lt x i) [
      | yes h ↦ lt-ltb x (suc i) (omega arith) ∙ sym (lt-ltb x i h)
      | no h ↦ le-ltb x (suc i) (omega (arith, n)) ∙ sym (le-ltb x i (omega arith))
    ]) ids)

pub slot_room : (ids : List ℕ) (i : ℕ) → slot ids i + many (eqb i) ids ≤ length ids
unfolding slot
slot_room ids i = omega (arith, slot_next ids i, many_le (λ (x : ℕ). ltb x (i + 1)) ids)

slot_grows : (ids : List ℕ) (i d : ℕ) → slot ids i ≤ slot ids (i + d)
slot_grows ids i zero = let e : i + 0 ≡ i = omega arith in rw e (omega arith)
slot_grows ids i (suc d) =
    let e : i + suc d ≡ i + d + 1 = omega arith in
    rw e (omega (arith, slot_next ids (i + d), slot_grows ids i d))

-- the room of a record ends before that of a later one begins
pub slot_apart : (ids : List ℕ) (i j : ℕ) → i < j → slot ids i + many (eqb i) ids ≤ slot ids j
slot_apart ids i j h =
    let e : i + 1 + (j - (i + 1)) ≡ j = omega arith in
    let g = slot_grows ids (i + 1) (j - (i + 1)) in
    let g' : slot ids (i + 1) ≤ slot ids j = rw e at g in
    omega (arith, slot_next ids i)
