-- Laws that no one rule owns: choices and loops, lists made and stored to, how many elements have a property, and distinct places.
-- Two serve everywhere: `if-ind`, the one case split, and `upto-ind`, the one induction over a loop.
use Prim.Native.Nat.{ℕ, zero, suc, ◌+◌, ◌-◌, ◌≤◌, ◌<◌}
use native.Mathlib.Omega.{arith}
use native.Mathlib.Nat.{le_refl, add-zero}
use native.Mathlib.Numerals.{add-one}
use native.Mathlib.Decide.{dec_lt, ℕ_discrete}
use mathlib.Core.Path.{◌≡◌, refl, sym, ap, ◌∙◌}
use mathlib.Core.Bool.{Bool, true, false, ◌&&◌, ◌||◌, true≢false, false≢true}
use mathlib.Core.List.{List, [], ◌∷◌, ◌++◌, map}
use lib.ListN.{drop_of_length-le, length, get_or, set, take, replicate, length-set, length-replicate, get_or-replicate, drop}
use lib.Seq.{drop-cons, get_or-set_same, get_or-set_other, take-nil}
use lib.Dec.{eqb}
use borrow.Author.Tests.{eqb-true, eq-eqb, leb-true, leb-false, ltb-true, ltb-false}
use Rattle.rules.specs.Base.{◌and◌, ◌or◌, when◌then◌else◌, upto, tab, every, any, keep, many}

-- ---------------------------------------------------------------- tests and choices

-- what the tests say of numbers, for omega
pub ruleset tests = (arith, ltb-true, ltb-false, leb-true, leb-false, eqb-true)

pub both : (a b : Bool) → a and b ≡ true → (a ≡ true) × (b ≡ true)
unfolding ◌and◌
both true b e = (refl, e)
both false b e = absurd (false≢true e)

pub neither : (a b : Bool) → a or b ≡ false → (a ≡ false) × (b ≡ false)
unfolding ◌or◌
neither true b e = absurd (true≢false e)
neither false b e = (refl, e)

-- a ∨ b by its arms
pub either {κ} : (P : Type κ) (a b : Bool) → a or b ≡ true → (a ≡ true → P) → (b ≡ true → P) → P
unfolding ◌or◌
either P true b e p q = p refl
either P false b e p q = q e

pub and_both : (a b : Bool) → a ≡ true → b ≡ true → a and b ≡ true
unfolding ◌and◌
and_both a b e f = rw (e, f)

pub or_left : (a b : Bool) → a ≡ true → a or b ≡ true
unfolding ◌or◌
or_left a b e = rw e

pub or_right : (a b : Bool) → b ≡ true → a or b ≡ true
unfolding ◌or◌
or_right true b e = refl
or_right false b e = e

pub or_no : (a : Bool) → a or false ≡ a
unfolding ◌or◌
or_no true = refl
or_no false = refl

pub or_yes : (a : Bool) → a or true ≡ true
unfolding ◌or◌
or_yes true = refl
or_yes false = refl

pub or_swap : (a b c : Bool) → (a or b) or c ≡ a or (b or c)
unfolding ◌or◌
or_swap true b c = refl
or_swap false b c = refl

-- the connectives of code are the rules' own
pub code_and : (a b : Bool) → a && b ≡ a and b
unfolding ◌and◌
code_and true b = refl
code_and false b = refl

pub code_or : (a b : Bool) → a || b ≡ a or b
unfolding ◌or◌
code_or true b = refl
code_or false b = refl

-- two tests that say the same
pub same_test : (a b : Bool) → (a ≡ true → b ≡ true) → (b ≡ true → a ≡ true) → a ≡ b
same_test true b f g = sym (f refl)
same_test false true f g = g refl
same_test false false f g = refl

pub and_no : (a : Bool) → a and false ≡ false
unfolding ◌and◌
and_no true = refl
and_no false = refl

-- by cases on a test, with its equation
pub if-ind {ℓ κ} : {A : Type ℓ} (P : A → Type κ) (b : Bool) {x y : A} → (b ≡ true → P x) → (b ≡ false → P y) → P (when b then x else y)
unfolding when◌then◌else◌
if-ind P true p q = p refl
if-ind P false p q = q refl

-- two choices by one test
pub if_ind₂ {ℓ κ μ} : {A : Type ℓ} {B : Type κ} (P : A → B → Type μ) (b : Bool) {x y : A} {u v : B} → (b ≡ true → P x u) → (b ≡ false → P y v)
    → P (when b then x else y) (when b then u else v)
unfolding when◌then◌else◌
if_ind₂ P true p q = p refl
if_ind₂ P false p q = q refl

-- ---------------------------------------------------------------- loops

-- a loop's invariant
pub upto-ind {ℓ κ} : {A : Type ℓ} (P : ℕ → A → Type κ) (f : ℕ → A → A) (a : A) (n : ℕ)
    → P 0 a → ((k : ℕ) (x : A) → k < n → P k x → P (suc k) (f k x)) → P n (upto n f a)
unfolding upto
upto-ind P f a zero z s = z
upto-ind P f a (suc n) z s = s n (upto n f a) (le_refl (suc n)) (upto-ind P f a n z (λ k x h p. s k x (omega arith) p))

-- one more turn, at the code's i + 1
pub upto_next {ℓ} : {A : Type ℓ} (n : ℕ) (f : ℕ → A → A) (a : A) → upto (n + 1) f a ≡ f n (upto n f a)
unfolding upto
upto_next n f a = rw add-one

-- a + k steps are a steps and the k that follow
pub upto_join {ℓ} : {A : Type ℓ} (a k : ℕ) (f : ℕ → A → A) (s : A) → upto (a + k) f s ≡ upto k (λ j. f (a + j)) (upto a f s)
unfolding upto
upto_join a zero f s = let e : a + 0 ≡ a = omega arith in rw e
upto_join a (suc k) f s = let e : a + suc k ≡ suc (a + k) = omega arith in rw (e, upto_join a k f s)

pub upto_ext {ℓ} : {A : Type ℓ} (n : ℕ) (f g : ℕ → A → A) (s : A) → ((i : ℕ) (x : A) → i < n → f i x ≡ g i x) → upto n f s ≡ upto n g s
unfolding upto
upto_ext zero f g s h = refl
upto_ext (suc n) f g s h = rw (upto_ext n f g s (λ i x l. h i x (omega arith))) (h n (upto n g s) (omega arith))

pub every-at : (n : ℕ) (p : ℕ → Bool) → every n p ≡ true → (k : ℕ) → k < n → p k ≡ true
unfolding every
every-at zero p e k h = absurd (omega arith)
every-at (suc n) p e k h =
    let a = both _ _ e in
    elim (dec_lt k n) [ yes g ↦ every-at n p a.0 k g | no g ↦ let q : k ≡ n = omega arith in rw q a.1 ]

pub every_all : (n : ℕ) (p : ℕ → Bool) → ((i : ℕ) → i < n → p i ≡ true) → every n p ≡ true
unfolding every ◌and◌
every_all zero p h = refl
every_all (suc n) p h = rw (every_all n p (λ i g. h i (omega arith)), h n (omega arith))

-- each direction
pub four_ways : (P : ℕ → Type 0) → P 0 → P 1 → P 2 → P 3 → (d : ℕ) → d < 4 → P d
four_ways P a b c e zero g = a
four_ways P a b c e (suc zero) g = b
four_ways P a b c e (suc (suc zero)) g = c
four_ways P a b c e (suc (suc (suc zero))) g = e
four_ways P a b c e (suc (suc (suc (suc d)))) g = absurd (omega arith)

-- ---------------------------------------------------------------- a list by its elements

pub tab-at {ℓ} : {A : Type ℓ} (n at : ℕ) (f : ℕ → A) (i : ℕ) (d : A) → i < n → get_or (tab n at f) i d ≡ f (at + i)
unfolding tab
tab-at zero at f i d h = absurd (omega arith)
tab-at (suc n) at f zero d h = let e : at ≡ at + 0 = omega arith in ap f e
tab-at (suc n) at f (suc i) d h = let e : suc at + i ≡ at + suc i = omega arith in tab-at n (suc at) f i d (omega arith) ∙ ap f e

pub length-tab {ℓ} : {A : Type ℓ} (n at : ℕ) (f : ℕ → A) → length (tab n at f) ≡ n
unfolding tab
length-tab zero at f = refl
length-tab (suc n) at f = ap suc (length-tab n (suc at) f)

-- what holds of each element and of the default holds wherever the list is read
pub tab-each {ℓ} : {A : Type ℓ} (P : A → Type 0) (n at : ℕ) (f : ℕ → A) (d : A) (j : ℕ) → P d → ((i : ℕ) → P (f i)) → P (get_or (tab n at f) j d)
unfolding tab
tab-each P zero at f d j p h = p
tab-each P (suc n) at f d zero p h = h at
tab-each P (suc n) at f d (suc j) p h = tab-each P n (suc at) f d j p h

pub zeros-at : (n i : ℕ) → ◌≡◌ {A = ℕ} (get_or (replicate n 0) i 0) 0
zeros-at zero i = refl
zeros-at (suc n) zero = refl
zeros-at (suc n) (suc i) = zeros-at n i

-- what is read within a list is the same for every default
pub get_d_any : (l : List ℕ) (i d e : ℕ) → i < length l → get_or l i d ≡ get_or l i e
get_d_any [] i d e h = absurd (omega arith)
get_d_any (x ∷ l) zero d e h = refl
get_d_any (x ∷ l) (suc i) d e h = get_d_any l i d e (omega arith)

pub drop-take : (n m : ℕ) (l : List ℕ) → drop n (take m l) ≡ take (m - n) (drop n l)
drop-take zero m l = let e : m ≡ m - 0 = omega arith in ap (λ (j : ℕ). take j l) e
drop-take (suc n) zero l = let e : 0 ≡ 0 - suc n = omega arith in ap (λ (j : ℕ). take j (drop (suc n) l)) e
drop-take (suc n) (suc m) [] = sym (take-nil (suc m - suc n))
drop-take (suc n) (suc m) (x ∷ l) = let e : m - n ≡ suc m - suc n = omega arith in drop-take n m l ∙ ap (λ (j : ℕ). take j (drop n l)) e

-- a place that holds something is in the list
pub nonzero_in : (l : List ℕ) (t : ℕ) → (get_or l t 0 ≡ 0 → ⊥) → t < length l
nonzero_in [] t h = absurd (h refl)
nonzero_in (x ∷ l) zero h = omega arith
nonzero_in (x ∷ l) (suc t) h = omega (arith, nonzero_in l t h)

pub in_list : (l : List ℕ) (c : ℕ) → 0 < get_or l c 0 → c < length l
in_list l c h = nonzero_in l c (λ e. omega arith)

-- ---------------------------------------------------------------- a list after a store

-- either it is the place stored to, or nothing changed
pub store_cases {ℓ} : {A : Type ℓ} (l : List A) (i : ℕ) (v d : A) (s : ℕ) (P : A → Type 0) → (s ≡ i → P v) → P (get_or l s d) → P (get_or (set l i v) s d)
store_cases [] i v d s P p q = q
store_cases (x ∷ l) zero v d zero P p q = p refl
store_cases (x ∷ l) zero v d (suc s) P p q = q
store_cases (x ∷ l) (suc i) v d zero P p q = q
store_cases (x ∷ l) (suc i) v d (suc s) P p q = store_cases l i v d s P (λ e. p (ap suc e)) q

-- whatever the place
pub set_cases {ℓ} : {A : Type ℓ} (l : List A) (i : ℕ) (v d : A) (s : ℕ) (P : A → Type 0) → P v → P (get_or l s d) → P (get_or (set l i v) s d)
set_cases l i v d s P p q = store_cases l i v d s P (λ _. p) q

-- of numbers, 0 where there is none
pub get_or-set_cases : (l : List ℕ) (i v s : ℕ) (P : ℕ → Type 0) → (s ≡ i → P v) → P (get_or l s 0) → P (get_or (set l i v) s 0)
get_or-set_cases l i v s P p q = store_cases l i v 0 s P p q

-- either it is the place stored to, or it is another
pub get_d_set_at : (l : List ℕ) (i v d s : ℕ) (P : ℕ → Type 0) → i < length l → (s ≡ i → P v) → ((s ≡ i → ⊥) → P (get_or l s d)) → P (get_or (set l i v) s d)
get_d_set_at l i v d s P h p q =
    elim (ℕ_discrete s i) [ yes e ↦ rw (e, get_or-set_same l i v d h) (p e) | no e ↦ rw (get_or-set_other l i s v d e) (q e) ]

-- ---------------------------------------------------------------- each element

abbrev pub All : (ℕ → Type 0) → List ℕ → Type 0
All P [] = Unit {0}
All P (x ∷ xs) = P x × All P xs

pub All_map : {P Q : ℕ → Type 0} (xs : List ℕ) → ((x : ℕ) → P x → Q x) → All P xs → All Q xs
All_map [] f h = tt
All_map (x ∷ xs) f h = (f x h.0, All_map xs f h.1)

pub all_at : (P : ℕ → Type 0) (l : List ℕ) (i : ℕ) → All P l → i < length l → P (get_or l i 0)
all_at P [] i h g = absurd (omega arith)
all_at P (x ∷ l) zero h g = h.0
all_at P (x ∷ l) (suc i) h g = all_at P l i h.1 (omega arith)

pub take_all : (P : ℕ → Type 0) (n : ℕ) (xs : List ℕ) → All P xs → All P (take n xs)
take_all P zero xs h = tt
take_all P (suc n) [] h = tt
take_all P (suc n) (x ∷ xs) h = (h.0, take_all P n xs h.1)

pub All_both : (P Q : ℕ → Type 0) (xs : List ℕ) → All P xs → All Q xs → All (λ x. P x × Q x) xs
All_both P Q [] h g = tt
All_both P Q (x ∷ xs) h g = ((h.0, g.0), All_both P Q xs h.1 g.1)

pub keep_all : (P : ℕ → Type 0) (p : ℕ → Bool) (xs : List ℕ) → All P xs → All P (keep p xs)
unfolding keep
keep_all P p [] h = tt
keep_all P p (x ∷ xs) h = if-ind (All P) (p x) (λ _. (h.0, keep_all P p xs h.1)) (λ _. keep_all P p xs h.1)

pub keep-length : (p : ℕ → Bool) (xs : List ℕ) → length (keep p xs) ≤ length xs
unfolding keep
keep-length p [] = le_refl 0
keep-length p (x ∷ xs) = let h = keep-length p xs in if-ind (λ (l : List ℕ). length l ≤ suc (length xs)) (p x) (λ _. omega arith) (λ _. omega arith)

pub append_all : (P : ℕ → Type 0) (xs ys : List ℕ) → All P xs → All P ys → All P (xs ++ ys)
append_all P [] ys h g = g
append_all P (x ∷ xs) ys h g = (h.0, append_all P xs ys h.1 g)

pub map_all : (P Q : ℕ → Type 0) (f : ℕ → ℕ) (xs : List ℕ) → ((x : ℕ) → P x → Q (f x)) → All P xs → All Q (map f xs)
map_all P Q f [] k h = tt
map_all P Q f (x ∷ xs) k h = (k x h.0, map_all P Q f xs k h.1)

pub tab_all : (P : ℕ → Type 0) (n at : ℕ) → ((i : ℕ) → i < n → P (at + i)) → All P (tab n at (λ s. s))
unfolding tab
tab_all P zero at h = tt
tab_all P (suc n) at h = (
  rw add-zero at (h 0 (omega arith)),
  tab_all P n (suc at) (λ i g. let e : at + suc i ≡ suc at + i = omega arith in rw e at (h (suc i) (omega arith))),
)

-- ---------------------------------------------------------------- how many elements p holds of

module _ {ℓ} {A : Type ℓ} (p : A → Bool) where
  unfoldable pub tally : List A → ℕ
  tally [] = 0
  tally (x ∷ l) = when p x then suc (tally l) else tally l

  pub tally_le : (l : List A) → tally l ≤ length l
  unfolding tally
  tally_le [] = le_refl 0
  tally_le (x ∷ l) = let h = tally_le l in if-ind (λ n. n ≤ suc (length l)) (p x) (λ _. omega arith) (λ _. omega arith)

  -- one fewer where one loses it
  pub tally-set : (l : List A) (i : ℕ) (v d : A) → i < length l → p (get_or l i d) ≡ true → p v ≡ false → suc (tally (set l i v)) ≡ tally l
  unfolding tally when◌then◌else◌
  tally-set [] i v d h a b = omega arith
  tally-set (x ∷ l) zero v d h a b = rw (a, b)
  tally-set (x ∷ l) (suc i) v d h a b = more (p x) (tally-set l i v d (omega arith) a b)
    where
      more : (t : Bool) → suc (tally (set l i v)) ≡ tally l → suc (when t then suc (tally (set l i v)) else tally (set l i v)) ≡ (when t then suc (tally l) else tally l)
      more true r = ap suc r
      more false r = r

  -- no more where one that has it is stored over
  pub tally-over : (l : List A) (i : ℕ) (v d : A) → i < length l → p (get_or l i d) ≡ true → tally (set l i v) ≤ tally l
  unfolding tally when◌then◌else◌
  tally-over [] i v d h a = le_refl 0
  tally-over (x ∷ l) zero v d h a = rw a (if-ind (λ n. n ≤ suc (tally l)) (p v) (λ _. omega arith) (λ _. omega arith))
  tally-over (x ∷ l) (suc i) v d h a = more (p x) (tally-over l i v d (omega arith) a)
    where
      more : (t : Bool) → tally (set l i v) ≤ tally l → (when t then suc (tally (set l i v)) else tally (set l i v)) ≤ (when t then suc (tally l) else tally l)
      more true r = omega arith
      more false r = r

  pub tally-map : (f : A → A) → ((x : A) → p (f x) ≡ p x) → (l : List A) → tally (map f l) ≡ tally l
  unfolding tally
  tally-map f h [] = refl
  tally-map f h (x ∷ l) = rw (h x, tally-map f h l)

-- of numbers, the rules' own count
many_is : (p : ℕ → Bool) (l : List ℕ) → many p l ≡ tally p l
unfolding many tally
many_is p [] = refl
many_is p (x ∷ l) = rw (many_is p l)

pub many_le : (p : ℕ → Bool) (l : List ℕ) → many p l ≤ length l
many_le p l = rw (many_is p l) (tally_le p l)

pub many-set : (p : ℕ → Bool) (l : List ℕ) (i v d : ℕ) → i < length l → p (get_or l i d) ≡ true → p v ≡ false → suc (many p (set l i v)) ≡ many p l
many-set p l i v d h a b = rw (many_is p l, many_is p (set l i v)) (tally-set p l i v d h a b)

pub any-many : (f : ℕ → Bool) (es : List ℕ) → any f es ≡ true → 0 < many f es
unfolding any many ◌or◌
any-many f [] e = absurd (false≢true e)
any-many f (x ∷ es) e = if-ind (λ n. 0 < n) (f x) (λ _. omega arith) (λ z. any-many f es (rw z at e))

-- ---------------------------------------------------------------- one that p holds of

module _ (p : ℕ → Bool) (l : List ℕ) (i : ℕ) where
  pub any_more : i < length l → any p (drop i l) ≡ p (get_or l i 0) or any p (drop (i + 1) l)
  unfolding any
  any_more h = rw (drop-cons l i 0 h, add-one i)

  pub any_past : length l ≤ i → any p (drop i l) ≡ false
  unfolding any
  any_past h = rw (drop_of_length-le l h)

  -- a search that goes on past what it finds
  module _ (found : Bool) (e : found or any p (drop i l) ≡ any p l) where
    pub any_go : (b : Bool) → i < length l → b ≡ found or p (get_or l i 0) → b or any p (drop (i + 1) l) ≡ any p l
    any_go b h q = ap (λ c. c or any p (drop (i + 1) l)) q ∙ or_swap found _ _ ∙ sym (ap (λ c. found or c) (any_more h)) ∙ e

    pub any_done : length l ≤ i → found ≡ any p l
    any_done h = sym (or_no found) ∙ sym (ap (λ c. found or c) (any_past h)) ∙ e

-- ---------------------------------------------------------------- distinct numbers

abbrev pub Distinct : List ℕ → Type 0
Distinct [] = Unit {0}
Distinct (x ∷ xs) = All (λ y. y ≡ x → ⊥) xs × Distinct xs

-- distinct places of l that hold 0 are no more than its zeros
pub zeros_above : (xs l : List ℕ) → Distinct xs → All (λ x. (x < length l) × (get_or l x 1 ≡ 0)) xs → length xs ≤ many (eqb 0) l
zeros_above [] l d h = omega arith
zeros_above (x ∷ xs) l d h =
    let r = zeros_above xs (set l x 1) d.1
    (All_map xs (λ y k. (rw length-set k.1.0, get_or-set_other l x y 1 1 k.0 ∙ k.1.1)) (All_both _ _ xs d.0 h.1)) in
    let e = many-set (eqb 0) l x 1 1 h.0.0 (eq-eqb 0 _ (sym h.0.1)) refl in
    omega arith

pub pigeonhole : (n : ℕ) (xs : List ℕ) → Distinct xs → All (λ x. x < n) xs → length xs ≤ n
pigeonhole n xs d h =
    let r = zeros_above xs (replicate n 0) d (All_map xs (λ x k. (rw length-replicate k, get_or-replicate n x 0 1 k)) h) in
    omega (arith, many_le (eqb 0) (replicate n 0), length-replicate n (let z : ℕ = 0 in z))
