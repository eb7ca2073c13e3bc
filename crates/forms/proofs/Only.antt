-- "reading one stretch only": bytes outside the stretch that is read and outside the kind 7 records that the halving looked at do not matter.
-- Two files of one length that agree on those go the same way at every look. Assumes nothing.
use Prim.Native.Nat.{ℕ, zero, suc, ◌+◌, ◌-◌, ◌*◌, ◌/◌, ◌%◌, ◌≤◌, ◌<◌}
use native.Mathlib.Omega.{arith}
use mathlib.Core.Path.{◌≡◌, refl, sym, ap, subst, ◌∙◌}
use mathlib.Core.Bool.{Bool, true, false, true≢false, false≢true}
use mathlib.Core.List.{List, [], ◌∷◌}
use lib.ListN.{length, get_or, drop, length-drop}
use lib.Seq.{get_or-drop}
use lib.Dec.{eqb, ltb, leb}
use Rattle.rules.specs.Base.{when◌then◌else◌}
use Rattle.rules.specs.Stored.{marks_in, mark_at, halving, chosen, spans_before, within, id_at}
use Rattle.laws.proofs.Basics.{All}

-- the kind 7 records that the halving looks at, by their stretches
unfoldable pub looked : ℕ → List ℕ → ℕ → ℕ → ℕ → List ℕ
looked zero l span lo hi = []
looked (suc k) l span lo hi =
    let mid = (lo + hi) / 2 in
    let next = when leb (mark_at l mid) span then looked k l span (suc mid) hi else looked k l span lo mid in
    when ltb lo hi then mid ∷ next else []

unfoldable pub looked_at : List ℕ → ℕ → List ℕ
looked_at l span = looked (marks_in l) l span 0 (marks_in l)

-- two files agree on the kind 7 record of stretch k
abbrev pub SameMark : List ℕ → List ℕ → ℕ → Type 0
SameMark l m k = (i : ℕ) → 325 * k + 320 ≤ i → i < 325 * k + 325 → get_or l i 0 ≡ get_or m i 0

-- and on stretch p, with its kind 7 record
abbrev pub SameStretch : List ℕ → List ℕ → ℕ → Type 0
SameStretch l m p = (i : ℕ) → 325 * p ≤ i → i < 325 * p + 325 → get_or l i 0 ≡ get_or m i 0

mark_same : (l m : List ℕ) (k : ℕ) → SameMark l m k → mark_at l k ≡ mark_at m k
unfolding mark_at
mark_same l m k a =
    let p = a (325 * k + 321) (omega arith) (omega arith) in
    let q = a (325 * k + 322) (omega arith) (omega arith) in
    let r = a (325 * k + 323) (omega arith) (omega arith) in
    let s = a (325 * k + 324) (omega arith) (omega arith) in
    rw (p, q, r, s)

record Way (l m : List ℕ) (x y : ℕ) : Type 0 where
  same : x ≡ y
  before : spans_before l x ≡ spans_before m x

way_suc : (l m : List ℕ) (k : ℕ) → mark_at l k ≡ mark_at m k → spans_before l (suc k) ≡ spans_before m (suc k)
unfolding spans_before
way_suc l m k e = e

halving_cases : (l m : List ℕ) (span k lo hi : ℕ) → spans_before l lo ≡ spans_before m lo
    → (mid : ℕ) → mark_at l mid ≡ mark_at m mid → (z : Bool)
    → (spans_before l (suc mid) ≡ spans_before m (suc mid) → z ≡ true → Way l m (halving k l span (suc mid) hi) (halving k m span (suc mid) hi))
    → (z ≡ false → Way l m (halving k l span lo mid) (halving k m span lo mid))
    → Way l m (when z then halving k l span (suc mid) hi else halving k l span lo mid) (when z then halving k m span (suc mid) hi else halving k m span lo mid)
unfolding when◌then◌else◌
halving_cases l m span k lo hi b mid e true f g = f (way_suc l m mid e) refl
halving_cases l m span k lo hi b mid e false f g = g refl

choice : (A B : List ℕ) (P : ℕ → Type 0) (z : Bool) → All P (when z then A else B) → (z ≡ true → All P A) × (z ≡ false → All P B)
unfolding when◌then◌else◌
choice A B P true a = (λ e. a, λ e. absurd (true≢false e))
choice A B P false a = (λ e. absurd (false≢true e), λ e. a)

outer : (l m : List ℕ) (span k lo hi : ℕ) (A : List ℕ) (x y : ℕ) (z : Bool) → spans_before l lo ≡ spans_before m lo
    → All (SameMark l m) (when z then ((lo + hi) / 2) ∷ A else []) → (All (SameMark l m) (((lo + hi) / 2) ∷ A) → Way l m x y) → Way l m (when z then x else lo) (when z then y else lo)
unfolding when◌then◌else◌
outer l m span k lo hi A x y true b a f = f a
outer l m span k lo hi A x y false b a f = record { same = refl; before = b }

rest_look : (l m : List ℕ) (span k lo hi : ℕ) → ((lo' hi' : ℕ) → spans_before l lo' ≡ spans_before m lo' → All (SameMark l m) (looked k l span lo' hi') → Way l m (halving k l span lo' hi') (halving k m span lo' hi'))
    → spans_before l lo ≡ spans_before m lo
    → All (SameMark l m) (((lo + hi) / 2) ∷ (when leb (mark_at l ((lo + hi) / 2)) span then looked k l span (suc ((lo + hi) / 2)) hi else looked k l span lo ((lo + hi) / 2)))
    → Way l m (when leb (mark_at l ((lo + hi) / 2)) span then halving k l span (suc ((lo + hi) / 2)) hi else halving k l span lo ((lo + hi) / 2))
    (when leb (mark_at m ((lo + hi) / 2)) span then halving k m span (suc ((lo + hi) / 2)) hi else halving k m span lo ((lo + hi) / 2))
rest_look l m span k lo hi ih b a =
    let e = mark_same l m ((lo + hi) / 2) a.0 in
    let c = choice (looked k l span (suc ((lo + hi) / 2)) hi) (looked k l span lo ((lo + hi) / 2)) (SameMark l m) (leb (mark_at l ((lo + hi) / 2)) span) a.1 in
    subst (λ v. Way l m (when leb (mark_at l ((lo + hi) / 2)) span then halving k l span (suc ((lo + hi) / 2)) hi else halving k l span lo ((lo + hi) / 2))
    (when leb v span then halving k m span (suc ((lo + hi) / 2)) hi else halving k m span lo ((lo + hi) / 2))) e
    (halving_cases l m span k lo hi b ((lo + hi) / 2) e (leb (mark_at l ((lo + hi) / 2)) span)
    (λ s z. ih (suc ((lo + hi) / 2)) hi s (c.0 z)) (λ z. ih lo ((lo + hi) / 2) b (c.1 z)))

same_way : (k : ℕ) (l m : List ℕ) (span lo hi : ℕ) → spans_before l lo ≡ spans_before m lo → All (SameMark l m) (looked k l span lo hi) → Way l m (halving k l span lo hi) (halving k m span lo hi)
unfolding halving looked
same_way zero l m span lo hi b a = record { same = refl; before = b }
same_way (suc k) l m span lo hi b a =
    outer l m span k lo hi (when leb (mark_at l ((lo + hi) / 2)) span then looked k l span (suc ((lo + hi) / 2)) hi else looked k l span lo ((lo + hi) / 2)) _ _ (ltb lo hi) b a
    (rest_look l m span k lo hi (λ lo' hi'. same_way k l m span lo' hi') b)

-- ---------------------------------------------------------------- the stretch

same-five : (p c k a b x d s span : ℕ) (l m : List ℕ) (k' a' b' x' d' : ℕ) → k ≡ k' → a ≡ a' → b ≡ b' → x ≡ x' → d ≡ d'
    → within p c l (s + (x + 256 * d)) span ≡ within p c m (s + (x + 256 * d)) span
    → within p (suc c) (k ∷ a ∷ b ∷ x ∷ d ∷ l) s span ≡ within p (suc c) (k' ∷ a' ∷ b' ∷ x' ∷ d' ∷ m) s span
unfolding within
same-five p c k a b x d s span l m k' a' b' x' d' ek ea eb ex ed h = rw (← ek, ← ea, ← eb, ← ex, ← ed) (rw h)

same-one : (p c k k' s span : ℕ) → k ≡ k' → within p (suc c) (k ∷ []) s span ≡ within p (suc c) (k' ∷ []) s span
same-one p c k k' s span e = ap (λ z. within p (suc c) (z ∷ []) s span) e

within_local : (c p s span : ℕ) (l m : List ℕ) → length l ≡ length m → ((i : ℕ) → i < 5 * c + 5 → get_or l i 0 ≡ get_or m i 0) → within p c l s span ≡ within p c m s span
unfolding within
within_local zero p s span l m e f = refl
within_local (suc c) p s span [] [] e f = refl
within_local (suc c) p s span [] (k' ∷ []) e f = absurd (omega arith)
within_local (suc c) p s span [] (k' ∷ a' ∷ []) e f = absurd (omega arith)
within_local (suc c) p s span [] (k' ∷ a' ∷ b' ∷ []) e f = absurd (omega arith)
within_local (suc c) p s span [] (k' ∷ a' ∷ b' ∷ x' ∷ []) e f = absurd (omega arith)
within_local (suc c) p s span [] (k' ∷ a' ∷ b' ∷ x' ∷ d' ∷ m) e f = absurd (omega arith)
within_local (suc c) p s span (k ∷ []) [] e f = absurd (omega arith)
within_local (suc c) p s span (k ∷ []) (k' ∷ []) e f = same-one p c k k' s span (f 0 (omega arith))
within_local (suc c) p s span (k ∷ []) (k' ∷ a' ∷ []) e f = absurd (omega arith)
within_local (suc c) p s span (k ∷ []) (k' ∷ a' ∷ b' ∷ []) e f = absurd (omega arith)
within_local (suc c) p s span (k ∷ []) (k' ∷ a' ∷ b' ∷ x' ∷ []) e f = absurd (omega arith)
within_local (suc c) p s span (k ∷ []) (k' ∷ a' ∷ b' ∷ x' ∷ d' ∷ m) e f = absurd (omega arith)
within_local (suc c) p s span (k ∷ a ∷ []) [] e f = absurd (omega arith)
within_local (suc c) p s span (k ∷ a ∷ []) (k' ∷ []) e f = absurd (omega arith)
within_local (suc c) p s span (k ∷ a ∷ []) (k' ∷ a' ∷ []) e f = refl
within_local (suc c) p s span (k ∷ a ∷ []) (k' ∷ a' ∷ b' ∷ []) e f = absurd (omega arith)
within_local (suc c) p s span (k ∷ a ∷ []) (k' ∷ a' ∷ b' ∷ x' ∷ []) e f = absurd (omega arith)
within_local (suc c) p s span (k ∷ a ∷ []) (k' ∷ a' ∷ b' ∷ x' ∷ d' ∷ m) e f = absurd (omega arith)
within_local (suc c) p s span (k ∷ a ∷ b ∷ []) [] e f = absurd (omega arith)
within_local (suc c) p s span (k ∷ a ∷ b ∷ []) (k' ∷ []) e f = absurd (omega arith)
within_local (suc c) p s span (k ∷ a ∷ b ∷ []) (k' ∷ a' ∷ []) e f = absurd (omega arith)
within_local (suc c) p s span (k ∷ a ∷ b ∷ []) (k' ∷ a' ∷ b' ∷ []) e f = refl
within_local (suc c) p s span (k ∷ a ∷ b ∷ []) (k' ∷ a' ∷ b' ∷ x' ∷ []) e f = absurd (omega arith)
within_local (suc c) p s span (k ∷ a ∷ b ∷ []) (k' ∷ a' ∷ b' ∷ x' ∷ d' ∷ m) e f = absurd (omega arith)
within_local (suc c) p s span (k ∷ a ∷ b ∷ x ∷ []) [] e f = absurd (omega arith)
within_local (suc c) p s span (k ∷ a ∷ b ∷ x ∷ []) (k' ∷ []) e f = absurd (omega arith)
within_local (suc c) p s span (k ∷ a ∷ b ∷ x ∷ []) (k' ∷ a' ∷ []) e f = absurd (omega arith)
within_local (suc c) p s span (k ∷ a ∷ b ∷ x ∷ []) (k' ∷ a' ∷ b' ∷ []) e f = absurd (omega arith)
within_local (suc c) p s span (k ∷ a ∷ b ∷ x ∷ []) (k' ∷ a' ∷ b' ∷ x' ∷ []) e f = refl
within_local (suc c) p s span (k ∷ a ∷ b ∷ x ∷ []) (k' ∷ a' ∷ b' ∷ x' ∷ d' ∷ m) e f = absurd (omega arith)
within_local (suc c) p s span (k ∷ a ∷ b ∷ x ∷ d ∷ l) [] e f = absurd (omega arith)
within_local (suc c) p s span (k ∷ a ∷ b ∷ x ∷ d ∷ l) (k' ∷ []) e f = absurd (omega arith)
within_local (suc c) p s span (k ∷ a ∷ b ∷ x ∷ d ∷ l) (k' ∷ a' ∷ []) e f = absurd (omega arith)
within_local (suc c) p s span (k ∷ a ∷ b ∷ x ∷ d ∷ l) (k' ∷ a' ∷ b' ∷ []) e f = absurd (omega arith)
within_local (suc c) p s span (k ∷ a ∷ b ∷ x ∷ d ∷ l) (k' ∷ a' ∷ b' ∷ x' ∷ []) e f = absurd (omega arith)
within_local (suc c) p s span (k ∷ a ∷ b ∷ x ∷ d ∷ l) (k' ∷ a' ∷ b' ∷ x' ∷ d' ∷ m) e f =
    same-five p c k a b x d s span l m k' a' b' x' d' (f 0 (omega arith)) (f 1 (omega arith)) (f 2 (omega arith)) (f 3 (omega arith)) (f 4 (omega arith))
    (within_local c p (s + (x + 256 * d)) span l m (omega arith) (λ i h. f (suc (suc (suc (suc (suc i))))) (omega arith)))

-- ---------------------------------------------------------------- the theorem

none-same : (l m : List ℕ) → spans_before l 0 ≡ spans_before m 0
unfolding spans_before
none-same l m = refl

marks_same : (l m : List ℕ) → length l ≡ length m → marks_in l ≡ marks_in m
unfolding marks_in
marks_same l m e = ap (λ n. when ltb 4294967295 (n / 325) then 4294967295 else n / 325) e

ways : (l m : List ℕ) (span : ℕ) → length l ≡ length m → All (SameMark l m) (looked_at l span) → Way l m (chosen l span) (chosen m span)
unfolding chosen looked_at
ways l m span e a =
    subst (λ q. Way l m (halving (marks_in l) l span 0 (marks_in l)) (halving q m span 0 q)) (marks_same l m e) (same_way (marks_in l) l m span 0 (marks_in l) (none-same l m) a)

pub only_these : (l m : List ℕ) (span : ℕ) → length l ≡ length m → All (SameMark l m) (looked_at l span) → SameStretch l m (chosen l span) → id_at l span ≡ id_at m span
unfolding id_at
only_these l m span e a f =
    let w = ways l m span e a in
    let g : within (chosen l span) 64 (drop (325 * chosen l span) l) (spans_before l (chosen l span)) span
    ≡ within (chosen l span) 64 (drop (325 * chosen l span) m) (spans_before l (chosen l span)) span =
    within_local 64 (chosen l span) (spans_before l (chosen l span)) span (drop (325 * chosen l span) l) (drop (325 * chosen l span) m)
    (length-drop (325 * chosen l span) l ∙ ap (λ n. n - 325 * chosen l span) e ∙ sym (length-drop (325 * chosen l span) m))
    (λ i h. get_or-drop (325 * chosen l span) l i 0 ∙ f (325 * chosen l span + i) (omega arith) (omega arith) ∙ sym (get_or-drop (325 * chosen l span) m i 0)) in
    ap (λ n. when eqb (n % 5) 1 then within (chosen l span) 64 (drop (325 * chosen l span) l) (spans_before l (chosen l span)) span else record { refused = 22; id = 0; stretch = 0 }) e
    ∙ ap (λ o. when eqb (length m % 5) 1 then o else record { refused = 22; id = 0; stretch = 0 })
    (g ∙ ap (λ z. within (chosen l span) 64 (drop (325 * chosen l span) m) z span) w.before
    ∙ ap (λ z. within z 64 (drop (325 * z) m) (spans_before m z) span) w.same)
