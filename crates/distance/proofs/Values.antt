-- What a stage reads at a span and at its neighbours is what the rule reads: a neighbour that is there stands in its cell and has a value,
-- and one that is not is past the list, where the rule reads its default.
use Prim.Native.Nat.{ℕ, ◌+◌, ◌*◌, ◌≤◌, ◌<◌}
use native.Mathlib.Omega.{arith}
use native.Mathlib.Decide.{ℕ_discrete, dec_lt}
use mathlib.Core.Path.{◌≡◌, refl, sym, ap, ◌∙◌}
use mathlib.Core.Bool.{Bool, true, false, not, true≢false, false≢true}
use mathlib.Core.List.{List}
use lib.ListN.{length, get_or}
use lib.Dec.{eqb, ltb}
use borrow.Author.Tests.{eq-eqb, ne_eqb, lt-ltb, le-ltb, eqb-true, ltb-false}
use Rattle.rules.specs.Base.{when◌then◌else◌}
use Rattle.rules.specs.Field.{Field, near, area_of, cell_of, cell_to, con_of}
use Rattle.rules.specs.Distance.{same, start_at}
use Rattle.laws.proofs.Basics.{get_d_any, if-ind, every-at, every_all, four_ways, same_test}
use Rattle.laws.proofs.Passes.{missing_not-same, same_fewer}
use Rattle.field.specs.Lent.{Reached, Stands, Leaf, SomeLeaf, cons_at, lent}
use Rattle.field.proofs.Places.{con_at, cell_is, reaches, near_stands, leaf_none}
use Rattle.distance.specs.Value.{ringed, Layers}

-- ---------------------------------------------------------------- a span at its place, and a step to a neighbour

module _ (F : Field) (ok : Reached F) (c s : ℕ) (st : Stands F c s) where
  pub con_in : 4 * s + 3 < length F.con
  con_in = omega (arith, st.span, ok.celled.linked)

  module _ (cons : List ℕ) (q : cons ≡ cons_at F.con s) where
    at_leaf : Leaf F F.w F.index cons c s
    at_leaf = record { reached = ok; wide = refl; indexed = refl; four = q; stands = st }

    pub some_at : SomeLeaf F.w F.index cons c
    some_at = record { F = F; s = s; leaf = at_leaf }

    module _ (d : ℕ) (g : d < 4) where
      pub missing : get_or cons d 0 ≡ 255 → near F s d ≡ 65535
      missing z = sym (leaf_none F.w F.index cons c d g z F s at_leaf)

      -- t, in cell a
      module _ (t a : ℕ) (n : (G : Field) (r : ℕ) → Leaf G F.w F.index cons c r → t ≡ near G r d) where
        pub step_is : t ≡ near F s d
        step_is = n F s at_leaf

        pub step_stands : a ≡ cell_to F.w c d → (t ≡ 65535 → ⊥) → Stands F a t
        step_stands p k = rw (p, step_is) (near_stands F ok c s d st g (λ z. k (step_is ∙ z)))

-- ---------------------------------------------------------------- four neighbours, or one that is missing

pub ringed_there : (cons : List ℕ) (d : ℕ) → ringed cons ≡ true → d < 4 → get_or cons d 0 ≡ 255 → ⊥
unfolding ringed
ringed_there cons d e g z = let k = every-at 4 (λ i. not (eqb (get_or cons i 0) 255)) e d g in true≢false (sym k ∙ ap not (eq-eqb (get_or cons d 0) 255 z))

ringed_all : (cons : List ℕ) → (get_or cons 0 0 ≡ 255 → ⊥) → (get_or cons 1 0 ≡ 255 → ⊥) → (get_or cons 2 0 ≡ 255 → ⊥) → (get_or cons 3 0 ≡ 255 → ⊥) → true ≡ ringed cons
unfolding ringed
ringed_all cons a b c e =
    sym (every_all 4 (λ i. not (eqb (get_or cons i 0) 255)) (four_ways (λ i. not (eqb (get_or cons i 0) 255) ≡ true)
    (ap not (ne_eqb (get_or cons 0 0) 255 a)) (ap not (ne_eqb (get_or cons 1 0) 255 b)) (ap not (ne_eqb (get_or cons 2 0) 255 c)) (ap not (ne_eqb (get_or cons 3 0) 255 e))))

ringed-not : (cons : List ℕ) (d : ℕ) → d < 4 → get_or cons d 0 ≡ 255 → false ≡ ringed cons
ringed-not cons d g z = same_test false (ringed cons) (λ e. absurd (false≢true e)) (λ e. absurd (ringed_there cons d e g z))

-- by one bit of each
pub ringed_past : (cons : List ℕ) (d : ℕ) → Layers cons → d < 4 → 128 ≤ get_or cons d 0 → false ≡ ringed cons
ringed_past cons d v g h = elim (ℕ_discrete (get_or cons d 0) 255) [ yes z ↦ ringed-not cons d g z | no z ↦ absurd (omega (arith, v.low d g z)) ]

pub ringed_low : (cons : List ℕ) → get_or cons 0 0 < 128 → get_or cons 1 0 < 128 → get_or cons 2 0 < 128 → get_or cons 3 0 < 128 → true ≡ ringed cons
ringed_low cons a b c e = ringed_all cons (λ z. omega arith) (λ z. omega arith) (λ z. omega arith) (λ z. omega arith)

-- the fourth decides where the three others are there, and another that is none does
pub ringed_last : (cons : List ℕ) → Layers cons → get_or cons 0 0 < 128 → get_or cons 1 0 < 128 → get_or cons 2 0 < 128 → ltb (get_or cons 3 0) 128 ≡ ringed cons
ringed_last cons v a b c =
    elim (dec_lt (get_or cons 3 0) 128) [
      | yes h ↦ rw (lt-ltb (get_or cons 3 0) 128 h) (ringed_low cons a b c h)
      | no h ↦ rw (le-ltb (get_or cons 3 0) 128 (omega arith)) (ringed_past cons 3 v (omega arith) (omega arith))
    ]

pub ringed_over : (cons : List ℕ) (d : ℕ) → Layers cons → d < 4 → (r : Bool) → r ≡ ltb (get_or cons d 0) 128 → r ≡ false → r ≡ ringed cons
ringed_over cons d v g r e z = z ∙ ringed_past cons d v g (ltb-false _ _ (sym e ∙ z))

pub span_layers : (w h : ℕ) (is ks ar cs : List ℕ) (s : ℕ) (cons : List ℕ) → Reached (lent w h is ks ar cs) → s < length ar → cons ≡ cons_at cs s → Layers cons
span_layers w h is ks ar cs s cons ok i q =
    record {
      low = λ d g k.
          let F = lent w h is ks ar cs in
          let e : con_of F s d ≡ get_or cons d 0 = rw q (con_at F ok.celled s d i g) in
          let r = reaches F ok s d i g (λ z. k (sym e ∙ z)) in
          omega (arith, r.layer, (cell_is F ok.celled (cell_to w (cell_of ks s) d)).few);
    }

-- the same of the connections cons of span s
module _ (cs cons : List ℕ) (s : ℕ) (q : cons ≡ cons_at cs s) where
  pub ringed-at : (r : Bool) → r ≡ ringed cons → r ≡ true → ringed (cons_at cs s) ≡ true
  ringed-at r e z = ap ringed (sym q) ∙ sym e ∙ z

  module _ (e : ringed (cons_at cs s) ≡ true) where
    pub ringed_cons : ringed cons ≡ true
    ringed_cons = ap ringed q ∙ e

    pub ringed-each : (d : ℕ) → d < 4 → get_or cons d 0 ≡ 255 → ⊥
    ringed-each d g z = ringed_there cons d ringed_cons g z

-- ---------------------------------------------------------------- the start

module _ (F : Field) (ok : Reached F) (c s : ℕ) (st : Stands F c s) (cons : List ℕ) (q : cons ≡ cons_at F.con s) where
  here : area_of F s ≡ get_or F.area s 0
  unfolding area_of
  here = get_d_any F.area s 256 0 st.span

  -- a span that lacks a neighbour starts with 0
  start_lacks : (d : ℕ) → d < 4 → get_or cons d 0 ≡ 255 → get_or F.area s 0 < 256 → 0 ≡ start_at F s
  unfolding area_of start_at when◌then◌else◌
  start_lacks d g z b =
      let y : same F s d ≡ 0 = missing_not-same F s d (omega (arith, ok.celled.few)) (omega (arith, here)) (missing F ok c s st cons q d g z) in
      rw (lt-ltb (same F s 0 + same F s 1 + same F s 2 + same F s 3) 4 (same_fewer F s d g y))

  pub start_open : ringed cons ≡ false → get_or F.area s 0 < 256 → 0 ≡ start_at F s
  start_open e b =
      elim (ℕ_discrete (get_or cons 0 0) 255) [
        | yes z ↦ start_lacks 0 (omega arith) z b
        | no n₀ ↦ elim (ℕ_discrete (get_or cons 1 0) 255) [
          | yes z ↦ start_lacks 1 (omega arith) z b
          | no n₁ ↦ elim (ℕ_discrete (get_or cons 2 0) 255) [
            | yes z ↦ start_lacks 2 (omega arith) z b
            | no n₂ ↦ elim (ℕ_discrete (get_or cons 3 0) 255) [
              | yes z ↦ start_lacks 3 (omega arith) z b
              | no n₃ ↦ absurd (true≢false (ringed_all cons n₀ n₁ n₂ n₃ ∙ e))
            ]
          ]
        ]
      ]

  -- the areas of the two are the same
  module _ (d t a : ℕ) (g : d < 4) (n : (G : Field) (r : ℕ) → Leaf G F.w F.index cons c r → t ≡ near G r d) (p : a ≡ cell_to F.w c d) (k : t ≡ 65535 → ⊥) where
    pub same_is : (b : Bool) → b ≡ eqb (get_or F.area t 0) (get_or F.area s 0) → b ≡ eqb (same F s d) 1
    unfolding same area_of when◌then◌else◌
    same_is b e =
        let u = step_stands F ok c s st cons q d g t a n p k in
        let m : near F s d ≡ t = sym (step_is F ok c s st cons q d g t a n) in
        let x : get_or F.area t 256 ≡ get_or F.area t 0 = get_d_any F.area t 256 0 u.span in
        let y : get_or F.area s 256 ≡ get_or F.area s 0 = get_d_any F.area s 256 0 st.span in
        rw (m, x, y) (e ∙ bit (eqb (get_or F.area t 0) (get_or F.area s 0)))
      where
        bit : (b : Bool) → b ≡ eqb (when b then 1 else 0) 1
        bit true = refl
        bit false = refl

-- one that is not the same decides, and four that are
same_bit : (F : Field) (s d : ℕ) → eqb (same F s d) 1 ≡ false → same F s d ≡ 0
unfolding same
same_bit F s d = if-ind (λ r. eqb r 1 ≡ false → r ≡ 0) _ (λ _ z. absurd (true≢false z)) (λ _ _. refl)

pub start_none : (F : Field) (s d : ℕ) → d < 4 → eqb (same F s d) 1 ≡ false → 0 ≡ start_at F s
unfolding start_at when◌then◌else◌
start_none F s d g z = rw (lt-ltb (same F s 0 + same F s 1 + same F s 2 + same F s 3) 4 (same_fewer F s d g (same_bit F s d z)))

pub start_all : (F : Field) (s : ℕ) → eqb (same F s 0) 1 ≡ true → eqb (same F s 1) 1 ≡ true → eqb (same F s 2) 1 ≡ true → eqb (same F s 3) 1 ≡ true → 65535 ≡ start_at F s
unfolding start_at when◌then◌else◌
start_all F s a b c d =
    let h : 4 ≤ same F s 0 + same F s 1 + same F s 2 + same F s 3 = omega (arith, eqb-true _ _ a, eqb-true _ _ b, eqb-true _ _ c, eqb-true _ _ d) in
    rw (le-ltb (same F s 0 + same F s 1 + same F s 2 + same F s 3) 4 h)

-- one that does not start with 0 starts with 65,535
pub start_high : (F : Field) (s : ℕ) → (start_at F s ≡ 0 → ⊥) → start_at F s ≡ 65535
unfolding start_at
start_high F s = if-ind (λ r. (r ≡ 0 → ⊥) → r ≡ 65535) _ (λ _ n. absurd (n refl)) (λ _ _. refl)
