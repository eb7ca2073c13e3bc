-- Loops that test or step through every number below a bound, as a port's code has them: a turn, a way out, the end.
-- The rules count down to the first step, the code counts up from it; a test of a + k numbers is one of a and one of the k that follow.
use Prim.Native.Nat.{ℕ, zero, suc, ◌+◌, ◌*◌, ◌<◌, ◌≤◌}
use native.Mathlib.Omega.{arith}
use native.Mathlib.Nat.{le_trans, mul-le-mul_left, mul-zero, mul-suc}
use native.Mathlib.Numerals.{add-one}
use native.Mathlib.Decide.{dec_lt}
use mathlib.Core.Path.{◌≡◌, refl, sym, ◌∙◌}
use mathlib.Core.Bool.{Bool, true, false}
use Rattle.rules.specs.Base.{◌and◌, upto, every}
use Rattle.laws.proofs.Basics.{and_no}

-- `and` is associative
and-and : (a b c : Bool) → a and b and c ≡ a and (b and c)
unfolding ◌and◌
and-and true b c = refl
and-and false b c = refl

pub and_yes : (b : Bool) → b and true ≡ b
unfolding ◌and◌
and_yes true = refl
and_yes false = refl

pub every_stop : (n : ℕ) (p : ℕ → Bool) (i : ℕ) → i < n → p i ≡ false → every n p ≡ false
unfolding every ◌and◌
every_stop zero p i h e = absurd (omega arith)
every_stop (suc n) p i h e =
    elim (dec_lt i n) [ yes g ↦ rw (every_stop n p i g e) | no g ↦ let q : i ≡ n = omega arith in let z : p n ≡ false = rw q at e in rw z (and_no (every n p)) ]

pub every_ext : (n : ℕ) (p q : ℕ → Bool) → ((i : ℕ) → i < n → p i ≡ q i) → every n p ≡ every n q
unfolding every
every_ext zero p q h = refl
every_ext (suc n) p q h = rw (every_ext n p q (λ i g. h i (omega arith)), h n (omega arith))

-- a test of a + k numbers is a test of a, and one of the k that follow
pub every_join : (a k : ℕ) (p : ℕ → Bool) → every (a + k) p ≡ every a p and every k (λ j. p (a + j))
unfolding every ◌and◌
every_join a zero p = let e : a + 0 ≡ a = omega arith in rw e (sym (and_yes (every a p)))
every_join a (suc k) p =
    let e : a + suc k ≡ suc (a + k) = omega arith in rw (e, every_join a k p) (and-and (every a p) (every k (λ j. p (a + j))) (p (a + k)))

-- two tests at once
pub every-and : (n : ℕ) (p q : ℕ → Bool) → every n (λ i. p i and q i) ≡ every n p and every n q
unfolding every ◌and◌
every-and zero p q = refl
every-and (suc n) p q = rw (every-and n p q) (swap (every n p) (every n q) (p n) (q n))
  where
    swap : (a b c d : Bool) → a and b and (c and d) ≡ a and c and (b and d)
    swap true true c d = refl
    swap true false true d = refl
    swap true false false d = refl
    swap false b c d = refl

-- a test of h rows of w numbers
pub every_rows : (w h : ℕ) (p : ℕ → Bool) → every (w * h) p ≡ every h (λ z. every w (λ x. p (w * z + x)))
unfolding every
every_rows w zero p = rw (mul-zero w)
every_rows w (suc h) p = rw (mul-suc w h) (every_join (w * h) w p ∙ rw (every_rows w h p))

-- the loop that tests p, with r the test's result at i
module _ (p : ℕ → Bool) where
  pub every_go : (i : ℕ) (r : Bool) → every i p ≡ true → r ≡ p i → r ≡ true → every (i + 1) p ≡ true
  unfolding every ◌and◌
  every_go i r a e t = rw (add-one, a) (sym e ∙ t)

  pub every_halt : (n i : ℕ) (r : Bool) → i < n → r ≡ p i → r ≡ false → false ≡ every n p
  every_halt n i r h e t = sym (every_stop n p i h (sym e ∙ t))

  pub every-end : (n i : ℕ) → every i p ≡ true → i ≤ n → n ≤ i → true ≡ every n p
  every-end n i a h g = let q : n ≡ i = omega arith in rw (q, a)

-- the loop that takes the steps f 0, f 1, .. below n, from s; t is the state at i, and u the next
module _ {ℓ} {A : Type ℓ} (f : ℕ → A → A) where
  pub upto_go : (i : ℕ) (s t u : A) → t ≡ upto i f s → u ≡ f i t → u ≡ upto (i + 1) f s
  unfolding upto
  upto_go i s t u e g = rw (add-one, ← e) g

  pub upto-end : (n i : ℕ) (s t : A) → t ≡ upto i f s → i ≤ n → n ≤ i → t ≡ upto n f s
  upto-end n i s t e h g = let q : n ≡ i = omega arith in rw q e

-- a product of two numbers of at most 256
pub product_small : (w h : ℕ) → w ≤ 256 → h ≤ 256 → w * h ≤ 65536
product_small w h a b = le_trans (mul-le-mul_left w b) (omega arith)
