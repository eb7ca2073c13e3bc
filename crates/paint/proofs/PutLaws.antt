-- A list written where a test holds.
-- Such a list is known by its elements, so two writes of one value are one write where either test holds.
use Prim.Native.Nat.{ℕ, ◌≤◌, ◌<◌}
use native.Mathlib.Omega.{arith}
use native.Mathlib.Nat.{zero-add}
use native.Mathlib.Decide.{ℕ_discrete}
use mathlib.Core.Path.{◌≡◌, refl, sym, ap, ◌∙◌}
use mathlib.Core.Bool.{Bool, true, false, not}
use mathlib.Core.List.{List}
use lib.ListN.{length, get_or, set, length-set}
use lib.Seq.{ext_get_or}
use lib.Dec.{eqb}
use borrow.Author.Tests.{eq-eqb, ne_eqb, le-leb, lt-ltb, leb-true, ltb-true}
use Rattle.rules.specs.Base.{◌and◌, ◌or◌, when◌then◌else◌}
use Rattle.laws.proofs.Basics.{both, tab-at, length-tab, get_d_set_at, and_no, get_d_any, and_both}
use Rattle.paint.specs.Paint.{put_if, walk_in, span_is, between}

-- ---------------------------------------------------------------- tests

pub not_test : (a : Bool) → (a ≡ true → ⊥) → a ≡ false
not_test true f = absurd (f refl)
not_test false f = refl

no_and : (b : Bool) → false and b ≡ false
unfolding ◌and◌
no_and b = refl

pub between_true : (a e s : ℕ) → between a e s ≡ true → (a ≤ s) × (s < e)
unfolding between
between_true a e s h = let b = both _ _ h in (leb-true a s b.0, ltb-true s e b.1)

pub between_make : (a e s : ℕ) → a ≤ s → s < e → between a e s ≡ true
unfolding between
between_make a e s h g = and_both _ _ (le-leb a s h) (lt-ltb s e g)

-- ---------------------------------------------------------------- what is put

pub put_if-length : (p : ℕ → Bool) (v : ℕ) (l : List ℕ) → length (put_if p v l) ≡ length l
unfolding put_if
put_if-length p v l = length-tab (length l) 0 _

pub put_if-at : (p : ℕ → Bool) (v : ℕ) (l : List ℕ) (s : ℕ) → s < length l → get_or (put_if p v l) s 0 ≡ (when p s then v else get_or l s 0)
unfolding put_if
put_if-at p v l s h = tab-at (length l) 0 (λ s. when p s then v else get_or l s 0) s 0 h ∙ ap (λ (t : ℕ). when p t then v else get_or l t 0) (zero-add s)

-- a list that has its elements
pub put_if_ext : (p : ℕ → Bool) (v : ℕ) (l m : List ℕ) → length m ≡ length l → ((s : ℕ) → s < length l → get_or m s 0 ≡ (when p s then v else get_or l s 0)) → m ≡ put_if p v l
put_if_ext p v l m e h =
    ext_get_or 0 m (put_if p v l) (e ∙ sym (put_if-length p v l))
    (λ s g. let k : s < length l = omega arith in h s k ∙ sym (put_if-at p v l s k))

pub if_none : (v : ℕ) (b : Bool) (a : ℕ) → b ≡ false → (when b then v else a) ≡ a
unfolding when◌then◌else◌
if_none v b a e = rw e

pub if_some : (v : ℕ) (b : Bool) (a : ℕ) → b ≡ true → (when b then v else a) ≡ v
unfolding when◌then◌else◌
if_some v b a e = rw e

-- nowhere
pub put_if-none : (p : ℕ → Bool) (v : ℕ) (l : List ℕ) → ((s : ℕ) → s < length l → p s ≡ false) → l ≡ put_if p v l
put_if-none p v l h = put_if_ext p v l l refl (λ s g. sym (if_none v (p s) (get_or l s 0) (h s g)))

-- the same places
pub put_if-same : (p q : ℕ → Bool) (v : ℕ) (l : List ℕ) → ((s : ℕ) → s < length l → p s ≡ q s) → put_if p v l ≡ put_if q v l
put_if-same p q v l h =
    put_if_ext q v l (put_if p v l) (put_if-length p v l) (λ s g. put_if-at p v l s g ∙ ap (λ (b : Bool). when b then v else get_or l s 0) (h s g))

if-or : (v : ℕ) (a b : Bool) (x : ℕ) → (when b then v else (when a then v else x)) ≡ (when a or b then v else x)
unfolding when◌then◌else◌ ◌or◌
if-or v true true x = refl
if-or v true false x = refl
if-or v false true x = refl
if-or v false false x = refl

-- first p, then q
pub put_if_then : (p q u : ℕ → Bool) (v : ℕ) (l : List ℕ) → ((s : ℕ) → s < length l → u s ≡ p s or q s) → put_if q v (put_if p v l) ≡ put_if u v l
put_if_then p q u v l h =
    put_if_ext u v l (put_if q v (put_if p v l)) (put_if-length q v (put_if p v l) ∙ put_if-length p v l)
    (λ s g.
    let k : s < length (put_if p v l) = rw (put_if-length p v l) g in
    put_if-at q v (put_if p v l) s k ∙ ap (λ (x : ℕ). when q s then v else x) (put_if-at p v l s g) ∙ if-or v (p s) (q s) (get_or l s 0) ∙ ap (λ (b : Bool). when b then v else get_or l s 0) (sym (h s g)))

-- ---------------------------------------------------------------- walkable spans

and-or : (w a b : Bool) → w and (a or b) ≡ (w and a) or (w and b)
unfolding ◌and◌ ◌or◌
and-or true a b = refl
and-or false a b = refl

walk-or : (area : List ℕ) (p q u : ℕ → Bool) (s : ℕ) → u s ≡ p s or q s → walk_in area u s ≡ walk_in area p s or walk_in area q s
unfolding walk_in
walk-or area p q u s e = rw e (and-or (not (eqb (get_or area s 256) 0)) (p s) (q s))

pub walk_then : (area : List ℕ) (p q u : ℕ → Bool) (v : ℕ) (l : List ℕ) → ((s : ℕ) → s < length l → u s ≡ p s or q s)
    → put_if (walk_in area q) v (put_if (walk_in area p) v l) ≡ put_if (walk_in area u) v l
walk_then area p q u v l h = put_if_then (walk_in area p) (walk_in area q) (walk_in area u) v l (λ s g. walk-or area p q u s (h s g))

pub walk_same : (area : List ℕ) (p q : ℕ → Bool) (v : ℕ) (l : List ℕ) → ((s : ℕ) → s < length l → p s ≡ q s) → put_if (walk_in area p) v l ≡ put_if (walk_in area q) v l
unfolding walk_in
walk_same area p q v l h = put_if-same (walk_in area p) (walk_in area q) v l (λ s g. ap (λ (b : Bool). not (eqb (get_or area s 256) 0) and b) (h s g))

pub walk_none : (area : List ℕ) (p : ℕ → Bool) (v : ℕ) (l : List ℕ) → ((s : ℕ) → s < length l → p s ≡ false) → l ≡ put_if (walk_in area p) v l
unfolding walk_in
walk_none area p v l h = put_if-none (walk_in area p) v l (λ s g. rw (h s g) (and_no _))

-- ---------------------------------------------------------------- one span

-- it is not walkable
pub span_none : (area : List ℕ) (i v : ℕ) (l : List ℕ) → i < length area → get_or area i 0 ≡ 0 → l ≡ put_if (walk_in area (span_is i)) v l
unfolding walk_in span_is
span_none area i v l h e =
    put_if-none (walk_in area (span_is i)) v l
    (λ s g. elim (ℕ_discrete s i) [ yes q ↦ rw (q, get_d_any area i 256 0 h, eq-eqb _ 0 e) (no_and _) | no q ↦ rw (ne_eqb s i q) (and_no _) ])

pub span_set : (area : List ℕ) (i v : ℕ) (l : List ℕ) → i < length area → length l ≡ length area → (get_or area i 0 ≡ 0 → ⊥) → set l i v ≡ put_if (walk_in area (span_is i)) v l
unfolding walk_in span_is
span_set area i v l h k e =
    put_if_ext (walk_in area (span_is i)) v l (set l i v) (length-set l i v)
    (λ s g. get_d_set_at l i v 0 s (λ x. x ≡ (when walk_in area (span_is i) s then v else get_or l s 0)) (omega arith)
    (λ q. sym (if_some v (walk_in area (span_is i) s) (get_or l s 0) (rw (q, get_d_any area i 256 0 h, ne_eqb _ 0 e, eq-eqb i i refl) (and_both (not false) true refl refl))))
    (λ q. sym (if_none v (walk_in area (span_is i) s) (get_or l s 0) (rw (ne_eqb s i q) (and_no _)))))
