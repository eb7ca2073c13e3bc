-- A walk keeps the lists' lengths and finds no more changes than it meets connections; walks one after the other are one walk.
-- By induction on the number of connections; the cells of a field one after the other are all of its spans. Assumes nothing.
use Prim.Native.Nat.{ℕ, zero, suc, ◌+◌, ◌*◌, ◌≤◌, ◌<◌}
use native.Mathlib.Omega.{arith}
use native.Mathlib.Numerals.{add-one}
use native.Mathlib.Nat.{le_refl}
use native.Mathlib.Decide.{ℕ_discrete}
use mathlib.Core.Path.{◌≡◌, refl, sym, ap, ◌∙◌}
use mathlib.Core.List.{List}
use lib.ListN.{length, get_or, length-set}
use Rattle.rules.specs.Base.{upto}
use Rattle.rules.specs.Field.{Field}
use Rattle.laws.proofs.Basics.{if-ind, upto-ind, upto_join, upto_ext}
use Rattle.field.specs.Lent.{lent, Celled}
use Rattle.field.proofs.Loops.{upto_go}
use Rattle.field.proofs.Places.{first_of, first_is, total_is}
use Rattle.mend.specs.Walk.{State, state, ground, noted, step, walk, Ready}

-- ---------------------------------------------------------------- what stays

-- v after k more connections
pub record Kept (u v : State) (k : ℕ) : Type 0 where
  pub con : length v.con ≡ length u.con
  pub changes : length v.changes ≡ length u.changes
  pub found : v.found ≤ u.found + k

noted-length : (l : List ℕ) (k s d old : ℕ) → length (noted l k s d old) ≡ length l
unfolding noted
noted-length l k s d old = simp length-set

step_keeps : (G : Field) (room i : ℕ) (u v : State) (k : ℕ) → Kept u v k → Kept u (step G room i v) (suc k)
unfolding step
step_keeps G room i u v k h =
    if-ind (λ x. Kept u x (suc k)) _
    (λ _. record { con = h.con; changes = h.changes; found = omega (arith, h.found) })
    (λ _. if-ind (λ x. Kept u x (suc k)) _
    (λ _. record { con = rw length-set h.con; changes = rw (noted-length v.changes _ _ _ _) h.changes; found = omega (arith, h.found) })
    (λ _. record { con = h.con; changes = h.changes; found = omega (arith, h.found) }))

pub walk_keeps : (G : Field) (room a m : ℕ) (u : State) → Kept u (walk G room a m u) m
unfolding walk
walk_keeps G room a m u =
    upto-ind (λ k v. Kept u v k) (λ j. step G room (a + j)) u m
    (record { con = refl; changes = refl; found = omega arith })
    (λ k v _ h. step_keeps G room (a + k) u v k h)

pub celled_on : (w h : ℕ) (is ks ar cs cs' : List ℕ) → Celled (lent w h is ks ar cs) → length cs' ≡ length cs → Celled (lent w h is ks ar cs')
celled_on w h is ks ar cs cs' ok e =
    record {
      narrow = ok.narrow;
      short = ok.short;
      grid = ok.grid;
      few = ok.few;
      indexed = ok.indexed;
      counted = ok.counted;
      linked = e ∙ ok.linked;
      cells = ok.cells;
    }

-- what a walk needs is there for what is left of it
module _ (w h : ℕ) (is ks ar cs₀ ch₀ : List ℕ) (room k₀ m₀ : ℕ) (ok : Ready (lent w h is ks ar cs₀) ch₀ room k₀ m₀) (cs ch : List ℕ) (k a i : ℕ)
    (e : state cs ch k ≡ walk (ground w h is ks ar) room a i (state cs₀ ch₀ k₀)) where
  ready_on : (m : ℕ) → i + m ≤ m₀ → Ready (lent w h is ks ar cs) ch room k m
  ready_on m l =
      let v = walk_keeps (ground w h is ks ar) room a i (state cs₀ ch₀ k₀) in
      let p : length cs ≡ length cs₀ = ap (λ x. length x.con) e ∙ v.con in
      let q : length ch ≡ length ch₀ = ap (λ x. length x.changes) e ∙ v.changes in
      let r : k ≤ k₀ + i = rw (← e) at v.found in
      record {
        celled = celled_on w h is ks ar cs₀ cs ok.celled p;
        places = omega (arith, ok.places);
        few = omega (arith, ok.few);
      }

firsts_rise : (ks : List ℕ) (c n : ℕ) → c < n → first_of ks c + get_or ks c 0 ≤ first_of ks n
unfolding first_of
firsts_rise ks c zero h = absurd (omega arith)
firsts_rise ks c (suc n) h =
    elim (ℕ_discrete c n) [ yes e ↦ rw e (le_refl (first_of ks n + get_or ks n 0)) | no e ↦ omega (arith, firsts_rise ks c n (omega arith)) ]

-- a link of a span, a span of a cell, a cell of the field
module _ (w h : ℕ) (is ks ar cs₀ ch₀ : List ℕ) (room k₀ : ℕ) (cs ch : List ℕ) (k a : ℕ) where
  pub ready_link : (d : ℕ) → Ready (lent w h is ks ar cs₀) ch₀ room k₀ 4 → state cs ch k ≡ walk (ground w h is ks ar) room a d (state cs₀ ch₀ k₀)
      → d < 4 → Ready (lent w h is ks ar cs) ch room k 1
  ready_link d ok e l = ready_on w h is ks ar cs₀ ch₀ room k₀ 4 ok cs ch k a d e 1 (omega arith)

  pub ready_span : (c j n : ℕ) → Ready (lent w h is ks ar cs₀) ch₀ room k₀ (4 * get_or ks c 0)
      → state cs ch k ≡ walk (ground w h is ks ar) room a (4 * j) (state cs₀ ch₀ k₀) → n ≡ get_or ks c 0 → j < n → Ready (lent w h is ks ar cs) ch room k 4
  ready_span c j n ok e f l = ready_on w h is ks ar cs₀ ch₀ room k₀ (4 * get_or ks c 0) ok cs ch k a (4 * j) e 4 (omega arith)

  pub ready_cell : (c : ℕ) → Ready (lent w h is ks ar cs₀) ch₀ room k₀ (4 * length ar)
      → state cs ch k ≡ walk (ground w h is ks ar) room a (4 * first_of ks c) (state cs₀ ch₀ k₀) → c < length ks
      → Ready (lent w h is ks ar cs) ch room k (4 * get_or ks c 0)
  ready_cell c ok e l =
      let z : first_of ks c + get_or ks c 0 ≤ first_of ks (w * h) = firsts_rise ks c (w * h) (omega (arith, ok.celled.counted)) in
      ready_on w h is ks ar cs₀ ch₀ room k₀ (4 * length ar) ok cs ch k a (4 * first_of ks c) e (4 * get_or ks c 0)
      (omega (arith, total_is (lent w h is ks ar cs₀) ok.celled))

-- ---------------------------------------------------------------- one after the other

module _ (G : Field) (room a : ℕ) where
  pub walk_none : (v : State) → v ≡ walk G room a 0 v
  unfolding walk upto
  walk_none v = refl

  pub walk-one : (d : ℕ) (v x y : State) → x ≡ walk G room a d v → y ≡ step G room (a + d) x → y ≡ walk G room a (d + 1) v
  unfolding walk
  walk-one d v x y e f = upto_go (λ j. step G room (a + j)) d v x y e f

  pub walk_end : (n d : ℕ) (v x : State) → x ≡ walk G room a d v → d ≤ n → n ≤ d → x ≡ walk G room a n v
  walk_end n d v x e p q = let z : n ≡ d = omega arith in rw z e

  walk_join : (m n : ℕ) (v : State) → walk G room a (m + n) v ≡ walk G room (a + m) n (walk G room a m v)
  unfolding walk
  walk_join m n v =
      upto_join m n (λ j. step G room (a + j)) v
      ∙ upto_ext n (λ j. step G room (a + (m + j))) (λ j. step G room (a + m + j)) (upto m (λ j. step G room (a + j)) v)
      (λ i x _. let z : a + (m + i) ≡ a + m + i = omega arith in rw z)

-- the four of a span
pub walk_layer : (G : Field) (room i j : ℕ) (v x y : State) → x ≡ walk G room (4 * i) (4 * j) v → y ≡ walk G room (4 * (i + j)) 4 x
    → y ≡ walk G room (4 * i) (4 * (j + 1)) v
walk_layer G room i j v x y e f =
    let p : 4 * (i + j) ≡ 4 * i + 4 * j = omega arith in
    let q : 4 * (j + 1) ≡ 4 * j + 4 = omega arith in
    rw (q, walk_join G room (4 * i) (4 * j) 4 v, ← e, ← p) f

pub walk_layers : (G : Field) (room c i n j : ℕ) (is ks : List ℕ) (v x : State) → x ≡ walk G room (4 * i) (4 * j) v → i ≡ get_or is c 0 → n ≡ get_or ks c 0
    → j ≤ n → n ≤ j → x ≡ walk G room (4 * get_or is c 0) (4 * get_or ks c 0) v
walk_layers G room c i n j is ks v x e f g p q = let z : j ≡ get_or ks c 0 = omega arith in rw (← f, ← z) e

-- those of a cell
pub walk-cell : (w h : ℕ) (is ks ar cs : List ℕ) → Celled (lent w h is ks ar cs) → (room c : ℕ) (v x y : State)
    → x ≡ walk (ground w h is ks ar) room 0 (4 * first_of ks c) v
    → y ≡ walk (ground w h is ks ar) room (4 * get_or is c 0) (4 * get_or ks c 0) x
    → y ≡ walk (ground w h is ks ar) room 0 (4 * first_of ks (c + 1)) v
unfolding first_of
walk-cell w h is ks ar cs ok room c v x y e f =
    let q : 4 * (first_of ks c + get_or ks c 0) ≡ 4 * first_of ks c + 4 * get_or ks c 0 = omega arith in
    rw (add-one c, q, walk_join (ground w h is ks ar) room 0 (4 * first_of ks c) (4 * get_or ks c 0) v, ← e)
    (elim (ℕ_discrete (get_or ks c 0) 0) [
      | yes z ↦ let o : 4 * get_or ks c 0 ≡ 0 = omega arith in
          let g : y ≡ walk (ground w h is ks ar) room (4 * get_or is c 0) 0 x = rw o at f in
          rw o (g ∙ sym (walk_none (ground w h is ks ar) room (4 * get_or is c 0) x) ∙ walk_none (ground w h is ks ar) room (0 + 4 * first_of ks c) x)
      | no z ↦ let o : 4 * get_or is c 0 ≡ 0 + 4 * first_of ks c = omega (arith, first_is (lent w h is ks ar cs) ok c (omega arith)) in rw (← o) f
    ])

-- all
pub walk_all : (w h : ℕ) (is ks ar cs : List ℕ) → Celled (lent w h is ks ar cs) → (room c : ℕ) (v x : State)
    → x ≡ walk (ground w h is ks ar) room 0 (4 * first_of ks c) v → c ≤ length ks → length ks ≤ c → x ≡ walk (ground w h is ks ar) room 0 (4 * length ar) v
walk_all w h is ks ar cs ok room c v x e p q =
    let z : c ≡ w * h = omega (arith, ok.counted) in
    let u : x ≡ walk (ground w h is ks ar) room 0 (4 * first_of ks (w * h)) v = rw z at e in
    rw (total_is (lent w h is ks ar cs) ok) at u

pub walk_start : (G : Field) (room : ℕ) (ks : List ℕ) (v : State) → v ≡ walk G room 0 (4 * first_of ks 0) v
unfolding first_of
walk_start G room ks v = walk_none G room 0 v
