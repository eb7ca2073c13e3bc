-- Stores one after the other are the values in their order, and the answer's values are the outcome's; two results that satisfy the promise coincide, since no two
-- answers have the same values. Assumes nothing.
use Prim.Native.Nat.{ℕ, ◌+◌, ◌<◌}
use native.Mathlib.Omega.{arith}
use mathlib.Core.Path.{◌≡◌, refl, sym, ap, ◌∙◌}
use mathlib.Core.List.{List, [], ◌∷◌}
use lib.ListN.{length, set, length-set}
use lib.Ieee.{Float, binary64, of_bits}
use Rattle.rules.specs.Field.{Field, spans}
use Rattle.rules.specs.Refusals.{refusal}
use Rattle.rules.specs.Sizes.{RoomSize, MeasureOutcome, measure_outcome, zero64}
use Rattle.checker.specs.Answer.{number_of}
use Rattle.checker.specs.declared.Refusal.{Refusal}
use Rattle.checker.specs.declared.Refusal.TheVariants.{TooWide, TooMany, WrongLength, WrongCells, WrongReach, WrongBack, TooShort, TooFar, NoIds, NoSum}
use Rattle.checker.proofs.Numbers.{number_pos, number_same}
use Rattle.sizes.specs.declared.metres.Room.{Room}
use Rattle.std.specs.Prelude.{Result, Ok, Err}
use Rattle.sizes.specs.declared.SizeRefusal.{SizeRefusal}
use Rattle.sizes.specs.declared.SizeRefusal.TheVariants as size
use Rattle.sizes.specs.Answer.{room_of, measure_refused_by, room_in, outcome, size_number}
use Rattle.sizes.specs.Into.{sizes_of, numbers_of, Places, GivesInto}

pub zero_is : of_bits binary64 0 ≡ zero64
unfolding of_bits
zero_is = refl

module _ {A : Type 0} where
  pub five : (l : List A) (a b c d e : A) → length l ≡ 5 → set (set (set (set (set l 0 a) 1 b) 2 c) 3 d) 4 e ≡ a ∷ b ∷ c ∷ d ∷ e ∷ []
  five [] a b c d e n = absurd (omega arith)
  five (x ∷ []) a b c d e n = absurd (omega arith)
  five (x ∷ y ∷ []) a b c d e n = absurd (omega arith)
  five (x ∷ y ∷ z ∷ []) a b c d e n = absurd (omega arith)
  five (x ∷ y ∷ z ∷ u ∷ []) a b c d e n = absurd (omega arith)
  five (x ∷ y ∷ z ∷ u ∷ v ∷ []) a b c d e n = refl
  five (x ∷ y ∷ z ∷ u ∷ v ∷ w ∷ l) a b c d e n = absurd (omega arith)

  pub three : (l : List A) (a b c : A) → length l ≡ 3 → set (set (set l 0 a) 1 b) 2 c ≡ a ∷ b ∷ c ∷ []
  three [] a b c n = absurd (omega arith)
  three (x ∷ []) a b c n = absurd (omega arith)
  three (x ∷ y ∷ []) a b c n = absurd (omega arith)
  three (x ∷ y ∷ z ∷ []) a b c n = refl
  three (x ∷ y ∷ z ∷ u ∷ l) a b c n = absurd (omega arith)

  -- the last of five places after four stores
  pub last-place : (l : List A) (a b c d : A) → length l ≡ 5 → 4 < length (set (set (set (set l 0 a) 1 b) 2 c) 3 d)
  last-place l a b c d n = rw (length-set, length-set, length-set, length-set) (omega arith)

-- ---------------------------------------------------------------- the values of an answer

-- five values that are each zero
pub all_zero : (z : Float) (l : List Float) → z ≡ zero64 → l ≡ z ∷ z ∷ z ∷ z ∷ z ∷ [] → l ≡ zero64 ∷ zero64 ∷ zero64 ∷ zero64 ∷ zero64 ∷ []
all_zero z l e f = f ∙ ap (λ (x : Float). x ∷ x ∷ x ∷ x ∷ x ∷ []) e

module _ (r : Result Room SizeRefusal) (s : List Float) (m : List ℕ) where
  -- a refusal
  module _ (x : SizeRefusal) (z : r ≡ Err x) where
    pub number_refused : (k : ℕ) → k ≡ size_number x → k ≡ measure_refused_by r
    number_refused k e = e ∙ ap measure_refused_by (sym z)

    pub sizes_refused : s ≡ zero64 ∷ zero64 ∷ zero64 ∷ zero64 ∷ zero64 ∷ [] → s ≡ sizes_of (room_in r)
    sizes_refused f = f ∙ ap (λ (a : Result Room SizeRefusal). sizes_of (room_in a)) (sym z)

    pub list_refused : (k : ℕ) → k ≡ size_number x → m ≡ k ∷ 0 ∷ 0 ∷ [] → m ≡ numbers_of (outcome r)
    list_refused k e f = f ∙ ap (λ (n : ℕ). n ∷ 0 ∷ 0 ∷ []) e ∙ ap (λ (a : Result Room SizeRefusal). numbers_of (outcome a)) (sym z)

  -- a record
  module _ (v : Room) (z : r ≡ Ok v) where
    pub number_room : 0 ≡ measure_refused_by r
    number_room = ap measure_refused_by (sym z)

    pub sizes_room : s ≡ sizes_of (room_of v) → s ≡ sizes_of (room_in r)
    sizes_room f = f ∙ ap (λ (a : Result Room SizeRefusal). sizes_of (room_in a)) (sym z)

    pub list_room : m ≡ 0 ∷ v.area ∷ v.count ∷ [] → m ≡ numbers_of (outcome r)
    list_room f = f ∙ ap (λ (a : Result Room SizeRefusal). numbers_of (outcome a)) (sym z)

-- ---------------------------------------------------------------- lists of another length

module _ (F : Field) (ids : List ℕ) (most k id : ℕ) (s₀ : List Float) (m₀ : List ℕ) where
  into_other : (Places s₀ m₀ → ⊥) → (g : ℕ) → g ≡ refusal F ((spans F + 1) ∷ (spans F + 1) ∷ []) → GivesInto F ids most k id s₀ m₀ g s₀ m₀
  into_other n g e = record {
    refused = λ p. absurd (n p);
    sizes = λ p. absurd (n p);
    numbers = λ p. absurd (n p);
    other = λ _. e;
    as_was = λ _. (refl, refl);
  }

  pub into_five : (length s₀ ≡ 5 → ⊥) → (g : ℕ) → g ≡ refusal F ((spans F + 1) ∷ (spans F + 1) ∷ []) → GivesInto F ids most k id s₀ m₀ g s₀ m₀
  into_five n = into_other (λ p. n p.five)

  pub into_three : (length m₀ ≡ 3 → ⊥) → (g : ℕ) → g ≡ refusal F ((spans F + 1) ∷ (spans F + 1) ∷ []) → GivesInto F ids most k id s₀ m₀ g s₀ m₀
  into_three n = into_other (λ p. n p.three)

  pub into_done : length s₀ ≡ 5 → length m₀ ≡ 3 → (r : Result Room SizeRefusal) → outcome r ≡ measure_outcome F ids most k id → (g : ℕ) (s : List Float) (m : List ℕ)
      → g ≡ measure_refused_by r → s ≡ sizes_of (room_in r) → m ≡ numbers_of (outcome r) → GivesInto F ids most k id s₀ m₀ g s m
  into_done l n r o g s m x y z = record {
    refused = λ _. x ∙ ap (λ (v : MeasureOutcome). v.refused) o;
    sizes = λ _. y ∙ ap (λ (v : MeasureOutcome). sizes_of v.room) o;
    numbers = λ _. z ∙ ap numbers_of o;
    other = λ h. absurd (h (record { five = l; three = n }));
    as_was = λ h. absurd (h (record { five = l; three = n }));
  }

-- ---------------------------------------------------------------- one answer

-- 9 and 10 are this entry's own
number_not_own : (r : Refusal) → (number_of r ≡ 9 → ⊥) × (number_of r ≡ 10 → ⊥)
number_not_own TooWide = (λ e. omega arith, λ e. omega arith)
number_not_own TooMany = (λ e. omega arith, λ e. omega arith)
number_not_own WrongLength = (λ e. omega arith, λ e. omega arith)
number_not_own WrongCells = (λ e. omega arith, λ e. omega arith)
number_not_own WrongReach = (λ e. omega arith, λ e. omega arith)
number_not_own WrongBack = (λ e. omega arith, λ e. omega arith)
number_not_own TooShort = (λ e. omega arith, λ e. omega arith)
number_not_own TooFar = (λ e. omega arith, λ e. omega arith)
number_not_own NoIds = (λ e. omega arith, λ e. omega arith)
number_not_own NoSum = (λ e. omega arith, λ e. omega arith)

-- a record of sizes is its seven values
room_same : (a b : Room) → room_of a ≡ room_of b → a ≡ b
room_same a b e =
    let f = ap (λ (r : RoomSize). r.floor) e in
    let l = ap (λ (r : RoomSize). r.x_least) e in
    let p = ap (λ (r : RoomSize). r.x_past) e in
    let m = ap (λ (r : RoomSize). r.z_least) e in
    let q = ap (λ (r : RoomSize). r.z_past) e in
    let t = ap (λ (r : RoomSize). r.area) e in
    let c = ap (λ (r : RoomSize). r.count) e in
    rw (f, l, p, m, q, t, c)

answer_same : (a b : Result Room SizeRefusal) → measure_refused_by a ≡ measure_refused_by b → room_in a ≡ room_in b → a ≡ b
answer_same (Err (size.Field r)) (Err (size.Field s)) e f = ap (λ (q : Refusal). Err (size.Field q)) (number_same r s e)
answer_same (Err (size.Field r)) (Err size.WrongScale) e f = absurd ((number_not_own r).0 e)
answer_same (Err (size.Field r)) (Err size.WrongIds) e f = absurd ((number_not_own r).1 e)
answer_same (Err (size.Field r)) (Ok m) e f = absurd (omega (arith, number_pos r))
answer_same (Err size.WrongScale) (Err (size.Field s)) e f = absurd ((number_not_own s).0 (sym e))
answer_same (Err size.WrongScale) (Err size.WrongScale) e f = refl
answer_same (Err size.WrongScale) (Err size.WrongIds) e f = absurd (omega arith)
answer_same (Err size.WrongScale) (Ok m) e f = absurd (omega arith)
answer_same (Err size.WrongIds) (Err (size.Field s)) e f = absurd ((number_not_own s).1 (sym e))
answer_same (Err size.WrongIds) (Err size.WrongScale) e f = absurd (omega arith)
answer_same (Err size.WrongIds) (Err size.WrongIds) e f = refl
answer_same (Err size.WrongIds) (Ok m) e f = absurd (omega arith)
answer_same (Ok m) (Err (size.Field s)) e f = absurd (omega (arith, number_pos s))
answer_same (Ok m) (Err size.WrongScale) e f = absurd (omega arith)
answer_same (Ok m) (Err size.WrongIds) e f = absurd (omega arith)
answer_same (Ok m) (Ok n) e f = ap Ok (room_same m n f)

-- two results of `measure_room` coincide: o is the outcome that the promise names
pub one_room_answer : (o : MeasureOutcome) (a b : Result Room SizeRefusal) → outcome a ≡ o → outcome b ≡ o → a ≡ b
one_room_answer o a b p q = let e = p ∙ sym q in answer_same a b (ap (λ v. v.refused) e) (ap (λ v. v.room) e)
