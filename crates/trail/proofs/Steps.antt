-- A trail in parts: the ids left along the merges, and the id reached. Two parts of the merges, one after the other, give the ids left along the first and
-- then along the second from what was reached; so a half of the merges may be followed before the other. Assumes nothing.
use Prim.Native.Nat.{ℕ, zero, suc, ◌+◌, ◌-◌, ◌*◌, ◌/◌, ◌≤◌, ◌<◌}
use native.Mathlib.Omega.{arith}
use native.Mathlib.Decide.{ℕ_discrete}
use native.Mathlib.Numerals.{add-one}
use mathlib.Core.Path.{◌≡◌, refl, sym, ap, ◌∙◌}
use mathlib.Core.List.{List, [], ◌∷◌, ◌++◌, append_assoc}
use lib.ListN.{length, get_or, set, take, drop, length-append, take-append-drop}
use lib.Seq.{set_split, length-take-le, take_at, drop_at, drop-drop}
use borrow.Author.Tests.{eq-eqb, ne_eqb}
use Rattle.rules.specs.Base.{when◌then◌else◌}
use Rattle.rules.specs.Reasons.{Merging, trail}
use Rattle.trail.specs.Noted.{mergings_from}
use Rattle.trail.specs.Steps.{left, reached, Follows, Followed}

-- ---------------------------------------------------------------- along a list of merges

left_hit : (x : Merging) (xs : List Merging) (r : ℕ) → x.old ≡ r → (left (x ∷ xs) r ≡ r ∷ left xs x.new) × (reached (x ∷ xs) r ≡ reached xs x.new)
unfolding left reached when◌then◌else◌
left_hit x xs r e = (rw (eq-eqb x.old r e), rw (eq-eqb x.old r e))

left_miss : (x : Merging) (xs : List Merging) (r : ℕ) → (x.old ≡ r → ⊥) → (left (x ∷ xs) r ≡ left xs r) × (reached (x ∷ xs) r ≡ reached xs r)
unfolding left reached when◌then◌else◌
left_miss x xs r e = (rw (ne_eqb x.old r e), rw (ne_eqb x.old r e))

-- the ids left, and then the id reached
pub trail_is : (ms : List Merging) (r : ℕ) → trail ms r ≡ left ms r ++ (reached ms r ∷ [])
unfolding trail left reached when◌then◌else◌
trail_is [] r = refl
trail_is (x ∷ xs) r = elim (ℕ_discrete x.old r) [
  | yes e ↦ rw (eq-eqb x.old r e) (ap (λ (l : List ℕ). r ∷ l) (trail_is xs x.new))
  | no n ↦ rw (ne_eqb x.old r n) (trail_is xs r)
]

no_part : (ns : List Merging) (r : ℕ) → (left ns r ≡ left [] r ++ left ns (reached [] r)) × (reached ns r ≡ reached ns (reached [] r))
unfolding left reached
no_part ns r = (refl, refl)

two_parts : (ms ns : List Merging) (r : ℕ) → (left (ms ++ ns) r ≡ left ms r ++ left ns (reached ms r)) × (reached (ms ++ ns) r ≡ reached ns (reached ms r))
two_parts [] ns r = no_part ns r
two_parts (x ∷ xs) ns r = elim (ℕ_discrete x.old r) [
  | yes e ↦
      let a = left_hit x (xs ++ ns) r e in
      let b = left_hit x xs r e in
      let p = two_parts xs ns x.new in
      (a.0 ∙ ap (λ (l : List ℕ). r ∷ l) p.0 ∙ rw (b.0, b.1) refl, a.1 ∙ p.1 ∙ rw b.1 refl)
  | no e ↦
      let a = left_miss x (xs ++ ns) r e in
      let b = left_miss x xs r e in
      let p = two_parts xs ns r in
      (a.0 ∙ p.0 ∙ rw (b.0, b.1) refl, a.1 ∙ p.1 ∙ rw b.1 refl)
]

-- ---------------------------------------------------------------- along the notes

noted_parts : (ws : List ℕ) (b i j : ℕ) → mergings_from ws b (i + j) ≡ mergings_from ws b i ++ mergings_from ws (b + 2 * i) j
unfolding mergings_from
noted_parts ws b zero j = let e : 0 + j ≡ j = omega arith in let f : b + 2 * 0 ≡ b = omega arith in rw (e, f) refl
noted_parts ws b (suc i) j =
    let e : suc i + j ≡ suc (i + j) = omega arith in
    let f : b + 2 * suc i ≡ b + 2 + 2 * i = omega arith in
    rw (e, f) (ap (λ (l : List Merging). record { old = get_or ws b 0; new = get_or ws (b + 1) 0 } ∷ l) (noted_parts ws (b + 2) i j))

module _ (ws : List ℕ) (b i j id : ℕ) where
  both_left : left (mergings_from ws b (i + j)) id ≡ left (mergings_from ws b i) id ++ left (mergings_from ws (b + 2 * i) j) (reached (mergings_from ws b i) id)
  both_left = ap (λ (ms : List Merging). left ms id) (noted_parts ws b i j) ∙ (two_parts (mergings_from ws b i) (mergings_from ws (b + 2 * i) j) id).0

  both_reached : reached (mergings_from ws b (i + j)) id ≡ reached (mergings_from ws (b + 2 * i) j) (reached (mergings_from ws b i) id)
  both_reached = ap (λ (ms : List Merging). reached ms id) (noted_parts ws b i j) ∙ (two_parts (mergings_from ws b i) (mergings_from ws (b + 2 * i) j) id).1

-- ---------------------------------------------------------------- the functions' ways out

-- nothing is written
same_list : (l p : List ℕ) (k : ℕ) → p ≡ [] → l ≡ take k l ++ (p ++ drop k l)
same_list l p k e = rw e (sym (take-append-drop k l))

pub follow_none : (ws l : List ℕ) (b m id k : ℕ) → m ≡ 0 → Followed ws b m id k l id k l
unfolding mergings_from left reached
follow_none ws l b m id k z = rw z (record { became = refl; place = omega arith; list = same_list l [] k refl })

module _ (ws l : List ℕ) (b id k : ℕ) where
  abbrev first : Merging
  first = record { old = get_or ws b 0; new = get_or ws (b + 1) 0 }

  one : mergings_from ws b 1 ≡ first ∷ []
  unfolding mergings_from
  one = refl

  ends : (r : ℕ) → (left [] r ≡ []) × (reached [] r ≡ r)
  unfolding left reached
  ends r = (refl, refl)

  pub follow_miss : (get_or ws b 0 ≡ id → ⊥) → Followed ws b 1 id k l id k l
  follow_miss n =
      let p = left_miss first [] id n in
      let q : left (mergings_from ws b 1) id ≡ [] = rw one (p.0 ∙ (ends id).0) in
      record { became = rw one (sym (p.1 ∙ (ends id).1)); place = omega (arith, ap length q); list = same_list l _ k q }

  pub follow_hit : get_or ws b 0 ≡ id → k < length l → Followed ws b 1 id k l (get_or ws (b + 1) 0) (k + 1) (set l k id)
  follow_hit e h =
      let p = left_hit first [] id e in
      let q : left (mergings_from ws b 1) id ≡ id ∷ [] = rw one (p.0 ∙ ap (λ (t : List ℕ). id ∷ t) (ends (get_or ws (b + 1) 0)).0) in
      record { became = rw one (sym (p.1 ∙ (ends (get_or ws (b + 1) 0)).1)); place = omega (arith, ap length q); list = rw (q, add-one k) (set_split l k id h) }

  -- the id has its place where the merge is its own
  pub hit_room : Follows ws b 1 id k l → get_or ws b 0 ≡ id → k < length l
  hit_room f e =
      let q : length (left (mergings_from ws b 1) id) ≡ suc (length (left [] (get_or ws (b + 1) 0))) = rw one (ap length (left_hit first [] id e).0) in
      omega (arith, f.room, q)

module _ (ws l : List ℕ) (b m id k : ℕ) where
  pub follows_one : m ≡ 1 → Follows ws b m id k l → Follows ws b 1 id k l
  follows_one e f = rw (← e) f

  pub followed_one : (id' k' : ℕ) (l' : List ℕ) → m ≡ 1 → Followed ws b 1 id k l id' k' l' → Followed ws b m id k l id' k' l'
  followed_one id' k' l' e f = rw e f

-- each half is less
pub halves : (n : ℕ) → (n ≡ 0 → ⊥) → (n ≡ 1 → ⊥) → (n / 2 < n) × (n / 2 ≤ n) × (n - n / 2 < n)
halves n z o = (omega arith, omega arith, omega arith)

-- one part is written past the other
joined : (l m o p q : List ℕ) (k k₁ k₂ : ℕ) → k₁ ≡ k + length p → k₂ ≡ k₁ + length q → k₁ ≤ length l → m ≡ take k l ++ (p ++ drop k₁ l) → o ≡ take k₁ m ++ (q ++ drop k₂ m)
    → o ≡ take k l ++ ((p ++ q) ++ drop k₂ l)
joined l m o p q k k₁ k₂ e₁ e₂ h a c =
    let x = take k l ++ p in
    let m' : m ≡ x ++ drop k₁ l = a ∙ sym (append_assoc (take k l) p (drop k₁ l)) in
    let n : length x ≡ k₁ = length-append (take k l) p ∙ omega (arith, length-take-le k l (omega arith)) in
    let t : take k₁ m ≡ x = ap (take k₁) m' ∙ take_at x (drop k₁ l) k₁ n in
    let d : drop k₂ m ≡ drop k₂ l = ap (λ (i : ℕ). drop i m) e₂ ∙ sym (drop-drop (length q) k₁ m) ∙ ap (drop (length q)) (ap (drop k₁) m' ∙ drop_at x (drop k₁ l) k₁ n) ∙ drop-drop (length q) k₁ l ∙ ap (λ (i : ℕ). drop i l) (sym e₂) in
    c ∙ rw (t, d) (append_assoc (take k l) p (q ++ drop k₂ l) ∙ ap (λ (y : List ℕ). take k l ++ y) (sym (append_assoc p q (drop k₂ l))))

-- the merges in two parts
module _ (ws l : List ℕ) (b left' half id k : ℕ) (e : half ≤ left') (F : Follows ws b left' id k l) where
  parts : left' ≡ half + (left' - half)
  parts = omega arith

  both : left (mergings_from ws b left') id ≡ left (mergings_from ws b half) id ++ left (mergings_from ws (b + 2 * half) (left' - half)) (reached (mergings_from ws b half) id)
  both = ap (λ (m : ℕ). left (mergings_from ws b m) id) parts ∙ both_left ws b half (left' - half) id

  long : length (left (mergings_from ws b left') id) ≡ length (left (mergings_from ws b half) id) + length (left (mergings_from ws (b + 2 * half) (left' - half)) (reached (mergings_from ws b half) id))
  long = ap length both ∙ length-append (left (mergings_from ws b half) id) _

  pub first_half_lem : Follows ws b half id k l
  first_half_lem = record { noted = omega (arith, F.noted); room = omega (arith, F.room, long) }

  module _ (id₁ k₁ : ℕ) (m : List ℕ) (n : length m ≡ length l) (A : Followed ws b half id k l id₁ k₁ m) where
    pub other_half : Follows ws (b + 2 * half) (left' - half) id₁ k₁ m
    other_half = record { noted = omega (arith, F.noted, e); room = rw A.became (omega (arith, A.place, F.room, long, n)) }

    pub two-halves : (id₂ k₂ : ℕ) (o : List ℕ) → Followed ws (b + 2 * half) (left' - half) id₁ k₁ m id₂ k₂ o → Followed ws b left' id k l id₂ k₂ o
    two-halves id₂ k₂ o B =
        let i = A.became in
        let p₂ : k₂ ≡ k₁ + length (left (mergings_from ws (b + 2 * half) (left' - half)) (reached (mergings_from ws b half) id)) = B.place ∙ rw i refl in
        record {
          became = B.became ∙ rw i (sym (ap (λ (x : ℕ). reached (mergings_from ws b x) id) parts ∙ both_reached ws b half (left' - half) id));
          place = omega (arith, A.place, p₂, long);
          list = rw both (joined l m o (left (mergings_from ws b half) id) (left (mergings_from ws (b + 2 * half) (left' - half)) (reached (mergings_from ws b half) id)) k k₁ k₂ A.place p₂ (omega (arith, A.place, F.room, long)) A.list (rw i at B).list);
        }

-- the last id, and its place
module _ (ws l m : List ℕ) (b merges id k id₁ k₁ : ℕ) (A : Followed ws b merges id k l id₁ k₁ m) where
  abbrev all : List Merging
  all = mergings_from ws b merges

  whole : length (trail all id) ≡ length (left all id) + 1
  whole = ap length (trail_is all id) ∙ length-append (left all id) (reached all id ∷ [])

  pub last-place : k + length (trail all id) ≤ length l → length m ≡ length l → k₁ < length m
  last-place h n = omega (arith, A.place, whole)

  pub trail-place : k₁ + 1 ≡ k + length (trail all id)
  trail-place = omega (arith, A.place, whole)

  pub trail_list : (o : List ℕ) → o ≡ set m k₁ id₁ → k + length (trail all id) ≤ length l → length m ≡ length l → (r : ℕ) → r ≡ k₁ + 1 → o ≡ take k l ++ (trail all id ++ drop r l)
  trail_list o e h n r q =
      rw (trail_is all id)
      (joined l m o (left all id) (reached all id ∷ []) k k₁ r A.place q (omega (arith, A.place, whole, h)) A.list
      (e ∙ rw A.became (set_split m k₁ (reached all id) (last-place h n) ∙ rw (q, add-one k₁) refl)))

-- a trail has room, so what is left on the way has
pub follow_room : (ws l : List ℕ) (b merges id k : ℕ) → b + 2 * merges ≤ length ws → k + length (trail (mergings_from ws b merges) id) ≤ length l → Follows ws b merges id k l
follow_room ws l b merges id k a h =
    record { noted = a; room = omega (arith, ap length (trail_is (mergings_from ws b merges) id) ∙ length-append (left (mergings_from ws b merges) id) (reached (mergings_from ws b merges) id ∷ [])) }
