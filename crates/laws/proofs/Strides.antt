-- The walker never comes to one place from two: so a walk that has not come back has been at no place twice.
-- A turn leaves a solid edge and a step crosses an open one; the edge that tells which is the same, since connections answer each other.
use Prim.Native.Nat.{ℕ, ◌+◌, ◌%◌, ◌≤◌, ◌<◌}
use native.Mathlib.Omega.{arith}
use mathlib.Core.Path.{◌≡◌, sym, ap, ◌∙◌}
use mathlib.Core.Bool.{true, false}
use mathlib.Core.List.{List}
use lib.ListN.{length, get_or, get_or-eq_default}
use borrow.Author.Tests.{eqb-true, eqb-false, ltb-false, not-true, not-false}
use Rattle.rules.specs.Base.{every}
use Rattle.rules.specs.Field.{Field, none}
use Rattle.rules.specs.Field as field
use Rattle.rules.specs.Net.{Net, net_of, spans, near}
use Rattle.rules.specs.Refusals.{good_back, wrong_back, too_many, most_spans}
use Rattle.rules.specs.Contour.{across, solid, Walker, stride}
use Rattle.laws.proofs.Basics.{either, if-ind, every-at}
use Rattle.laws.proofs.Cells.{Passed, near_none}
use Rattle.laws.proofs.Nets.{near_net, linked}

-- a place of a walker, of a span that has an id
pub record Place (N : Net) (ids : List ℕ) (v : Walker) : Type 0 where
  pub span : v.span < spans N
  pub dir : v.dir < 4
  pub id : get_or ids v.span 0 ≡ 0 → ⊥

-- connections answer each other
pub record Answered (N : Net) : Type 0 where
  pub few : spans N ≤ most_spans
  pub back : (s d : ℕ) → s < spans N → d < 4 → (near N s d ≡ none → ⊥) → near N (near N s d) ((d + 2) % 4) ≡ s

module _ (N : Net) (ok : Answered N) (ids : List ℕ) (size : length ids ≡ spans N) where
  -- an open edge: a neighbour of the same id
  record Open (s d : ℕ) : Type 0 where
    con : near N s d ≡ none → ⊥
    same : get_or ids (near N s d) 0 ≡ get_or ids s 0

  opened : (v : Walker) → Place N ids v → solid N ids v.span v.dir ≡ false → Open v.span v.dir
  unfolding solid across
  opened v p e =
      let s = v.span in
      let d = v.dir in
      let same : get_or ids (near N s d) 0 ≡ get_or ids s 0 = eqb-true _ _ (not-false _ e) in
      record {
        con = λ k.
            let far : get_or ids none 0 ≡ 0 = get_or-eq_default ids 0 (omega (arith, ok.few)) in
            let n : get_or ids (near N s d) 0 ≡ 0 = rw k far in
            p.id (sym same ∙ n);
        same = same;
      }

  -- turned there and stepped there: not both
  mixed : (v u : Walker) → Place N ids v → Place N ids u → solid N ids v.span v.dir ≡ true → solid N ids u.span u.dir ≡ false
      → v.span ≡ near N u.span u.dir → (v.dir + 1) % 4 ≡ (u.dir + 3) % 4 → ⊥
  unfolding solid across
  mixed v u p r e f a b =
      let o = opened u r f in
      let d : v.dir ≡ (u.dir + 2) % 4 = omega (arith, p.dir, r.dir) in
      let n : near N v.span v.dir ≡ u.span = rw (a, d) (ok.back u.span u.dir r.span r.dir o.con) in
      let q : get_or ids (near N v.span v.dir) 0 ≡ get_or ids v.span 0 = ap (λ (s : ℕ). get_or ids s 0) n ∙ sym o.same ∙ ap (λ (s : ℕ). get_or ids s 0) (sym a) in
      eqb-false _ _ (not-true _ e) q

  pub stride-once : (v u : Walker) → Place N ids v → Place N ids u
      → (stride N ids v).span ≡ (stride N ids u).span → (stride N ids v).dir ≡ (stride N ids u).dir → (v.span ≡ u.span) × (v.dir ≡ u.dir)
  unfolding stride
  stride-once v u p r =
      if-ind (λ (x : Walker). x.span ≡ (stride N ids u).span → x.dir ≡ (stride N ids u).dir → (v.span ≡ u.span) × (v.dir ≡ u.dir)) (solid N ids v.span v.dir)
      (λ e. if-ind (λ (y : Walker). v.span ≡ y.span → (v.dir + 1) % 4 ≡ y.dir → (v.span ≡ u.span) × (v.dir ≡ u.dir)) (solid N ids u.span u.dir)
      (λ f a b. (a, omega (arith, p.dir, r.dir)))
      (λ f a b. absurd (mixed v u p r e f a b)))
      (λ e. if-ind (λ (y : Walker). near N v.span v.dir ≡ y.span → (v.dir + 3) % 4 ≡ y.dir → (v.span ≡ u.span) × (v.dir ≡ u.dir)) (solid N ids u.span u.dir)
      (λ f a b. absurd (mixed u v r p f e (sym a) (sym b)))
      (λ f a b.
      let d : v.dir ≡ u.dir = omega (arith, p.dir, r.dir) in
      let x = ok.back v.span v.dir p.span p.dir (opened v p e).con in
      let y = ok.back u.span u.dir r.span r.dir (opened u r f).con in
      (sym x ∙ ap (λ s. near N s ((v.dir + 2) % 4)) a ∙ ap (λ i. near N (near N u.span u.dir) ((i + 2) % 4)) d ∙ y, d)))

-- a field that is not refused has such a net
pub answered : (F : Field) (lens : List ℕ) → Passed F lens → Answered (net_of F)
unfolding wrong_back good_back too_many
answered F lens ok = record {
  few = ltb-false _ _ ok.many;
  back = λ s d h g k.
      let n = near_net F (linked F lens ok) s d g in
      let a : good_back F s d ≡ true = every-at 4 (good_back F s) (every-at (field.spans F) (λ s. every 4 (good_back F s)) (not-false _ ok.back) s h) d g in
      rw n (near_net F (linked F lens ok) (field.near F s d) ((d + 2) % 4) (omega arith)
      ∙ either _ _ _ a (λ e. absurd (k (n ∙ near_none F s d (eqb-true _ _ e)))) (λ e. eqb-true _ _ e));
}
