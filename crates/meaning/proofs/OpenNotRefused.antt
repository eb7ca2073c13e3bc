-- An open field of at most 256 by 256 cells and 32,000 spans is not refused.
use Prim.Native.Nat.{ℕ, zero, suc, ◌+◌, ◌*◌, ◌/◌, ◌%◌, ◌≤◌, ◌<◌}
use native.Mathlib.Omega.{arith}
use native.Mathlib.Nat.{zero-add, mul_comm, mod-lt, div-add-mod', div-lt_iff_lt-mul}
use native.Mathlib.Decide.{ℕ_discrete}
use mathlib.Core.Path.{◌≡◌, refl, sym, ap, ◌∙◌}
use mathlib.Core.Bool.{Bool, true, false, not}
use mathlib.Core.List.{List, []}
use lib.ListN.{get_or, replicate, length-replicate}
use lib.Dec.{ltb}
use borrow.Author.Tests.{eq-eqb, le-ltb, lt-ltb}
use Rattle.rules.specs.Base.{◌and◌, ◌or◌, when◌then◌else◌, tab, every}
use Rattle.rules.specs.Field.{Field, spans, near, cell_to, leaves, con_of}
use Rattle.rules.specs.Open.{open_con, flat, open_field}
use Rattle.rules.specs.Refusals.{good_cells, good_con, good_back, too_wide, too_many, wrong_length, wrong_cells, wrong_reach, wrong_back, refusal, most_spans}
use Rattle.laws.proofs.Basics.{every_all, four_ways, and_both, or_left, or_right, length-tab}
use Rattle.laws.proofs.Passes.{wide_pos, across_in}
use Rattle.meaning.specs.Open.{span_at}
use Rattle.meaning.proofs.OpenField.{cell_of_ones, open_spans_lem, con_at, count_at_lem, leading, to_left, to_down, to_right, to_up}

good_ones : (n b : ℕ) → good_cells (tab n b (λ c. c)) (replicate n 1) b (b + n) ≡ true
unfolding good_cells tab ◌and◌ ◌or◌
good_ones zero b = eq-eqb b (b + 0) (omega arith)
good_ones (suc n) b =
    let e : b + suc n ≡ b + 1 + n = omega arith in
    let f : suc b ≡ b + 1 = omega arith in
    rw (eq-eqb b b refl, e, f) (good_ones n (b + 1))

module _ (w h : ℕ) (few : w * h ≤ 65535) where
  -- a span's column and row
  split : (s : ℕ) → s < w * h → (s ≡ span_at w (s % w) (s / w)) × (s % w < w) × (s / w < h)
  split s g =
      let p = wide_pos w h s g in
      (sym (div-add-mod' s w), mod-lt s p, (div-lt_iff_lt-mul p).1 (omega (arith, mul_comm w h)))

  reach-good : (s d : ℕ) → s < w * h → d < 4 → good_con (open_field w h) s d ≡ true
  unfolding good_con flat open_field when◌then◌else◌
  reach-good s d g k = by (leaves w h s d) refl
    where
      by : (b : Bool) → leaves w h s d ≡ b → good_con (open_field w h) s d ≡ true
      by true e = or_left _ _ (eq-eqb _ _ (con_at w h few s d g k ∙ rw e refl))
      by false e =
          let c : con_of (open_field w h) s d ≡ 0 = con_at w h few s d g k ∙ rw e refl in
          let n : get_or (open_field w h).count (cell_to w s d) 0 ≡ 1 = count_at_lem w h few (cell_to w s d) (across_in w h s d g k e) in
          let b : ltb (con_of (open_field w h) s d) (get_or (open_field w h).count (cell_to w s d) 0) ≡ true = lt-ltb (con_of (open_field w h) s d) (get_or (open_field w h).count (cell_to w s d) 0) (omega arith) in
          or_right _ _ (rw (cell_of_ones (w * h) s g) (and_both _ _ (rw e refl) b))

  -- a connection that there is leads to a span
  there : (s d : ℕ) → s < w * h → d < 4 → (con_of (open_field w h) s d ≡ 255 → ⊥) → near (open_field w h) s d ≡ 65535 → ⊥
  unfolding when◌then◌else◌
  there s d g k e f = by (leaves w h s d) refl
    where
      by : (b : Bool) → leaves w h s d ≡ b → ⊥
      by true i = e (con_at w h few s d g k ∙ rw i refl)
      by false i = let n = across_in w h s d g k i in omega (arith, leading w h few s d g k i n)

  -- a neighbour that there is has the span as its neighbour the other way
  back : (x z : ℕ) → x < w → z < h → (d : ℕ) → d < 4 → (near (open_field w h) (span_at w x z) d ≡ 65535 → ⊥) → near (open_field w h) (near (open_field w h) (span_at w x z) d) ((d + 2) % 4) ≡ span_at w x z
  back x z p q =
      four_ways (λ d. (near (open_field w h) (span_at w x z) d ≡ 65535 → ⊥) → near (open_field w h) (near (open_field w h) (span_at w x z) d) ((d + 2) % 4) ≡ span_at w x z)
      (to_left w h few (λ t. (t ≡ 65535 → ⊥) → near (open_field w h) t 2 ≡ span_at w x z) x z p q (λ _ f. absurd (f refl))
      (λ y e _. to_right w h few (λ t. t ≡ span_at w x z) y z (omega arith) q (λ f. absurd (omega arith)) (λ _. omega arith)))
      (to_down w h few (λ t. (t ≡ 65535 → ⊥) → near (open_field w h) t 3 ≡ span_at w x z) x z p q (λ _ f. absurd (f refl))
      (λ e _. to_up w h few (λ t. t ≡ span_at w x z) x (suc z) p e (λ f. absurd (omega arith)) (λ y f. let i : y ≡ z = omega arith in rw i refl)))
      (to_right w h few (λ t. (t ≡ 65535 → ⊥) → near (open_field w h) t 0 ≡ span_at w x z) x z p q (λ _ f. absurd (f refl))
      (λ e _. to_left w h few (λ t. t ≡ span_at w x z) (suc x) z e q (λ f. absurd (omega arith)) (λ y f. omega arith)))
      (to_up w h few (λ t. (t ≡ 65535 → ⊥) → near (open_field w h) t 1 ≡ span_at w x z) x z p q (λ _ f. absurd (f refl))
      (λ y e _. to_down w h few (λ t. t ≡ span_at w x z) x y p (omega arith) (λ f. absurd (omega arith)) (λ _. rw e refl)))

  back-good : (s d : ℕ) → s < w * h → d < 4 → good_back (open_field w h) s d ≡ true
  unfolding good_back
  back-good s d g k =
      let r = split s g in
      elim (ℕ_discrete (con_of (open_field w h) s d) 255) [
        | yes e ↦ or_left _ _ (eq-eqb _ _ e)
        | no e ↦ or_right _ _ (eq-eqb _ _ (
            let b : (near (open_field w h) s d ≡ 65535 → ⊥) → near (open_field w h) (near (open_field w h) s d) ((d + 2) % 4) ≡ s = rw (← r.0) at (back (s % w) (s / w) r.1 r.2 d k) in
            b (λ f. there s d g k e f)))
      ]

not_refused : (F : Field) (lens : List ℕ) → too_wide F ≡ false → too_many F ≡ false → wrong_length F lens ≡ false → wrong_cells F ≡ false → wrong_reach F ≡ false → wrong_back F ≡ false → refusal F lens ≡ 0
unfolding refusal when◌then◌else◌
not_refused F lens a b c d e f = rw (a, b, c, d, e, f) refl

module _ (w h : ℕ) (few : w * h ≤ 65535) where
  lengths_right : wrong_length (open_field w h) [] ≡ false
  unfolding wrong_length flat open_field every ◌and◌
  lengths_right =
      rw (length-tab (w * h) 0 (λ (c : ℕ). c), length-replicate (w * h) (let o : ℕ = 1 in o), length-tab (w * h) 0 (λ _. let o : ℕ = 1 in o), length-tab (4 * (w * h)) 0 (open_con w h), eq-eqb (w * h) (w * h) refl, eq-eqb (4 * (w * h)) (4 * (w * h)) refl) refl

  cells_right : wrong_cells (open_field w h) ≡ false
  unfolding wrong_cells flat open_field
  cells_right =
      let r = good_ones (w * h) 0 in
      let e : good_cells (open_field w h).index (open_field w h).count 0 (w * h) ≡ true = rw (zero-add (w * h)) at r in
      let f : good_cells (open_field w h).index (open_field w h).count 0 (spans (open_field w h)) ≡ true = rw (open_spans_lem w h) e in
      ap not f

  reach-right : wrong_reach (open_field w h) ≡ false
  unfolding wrong_reach
  reach-right = ap not (every_all _ _ (λ s g. every_all 4 _ (λ d k. reach-good w h few s d (rw (open_spans_lem w h) at g) k)))

  back-right : wrong_back (open_field w h) ≡ false
  unfolding wrong_back
  back-right = ap not (every_all _ _ (λ s g. every_all 4 _ (λ d k. back-good w h few s d (rw (open_spans_lem w h) at g) k)))

pub open_not_refused : (w h : ℕ) → w ≤ 256 → h ≤ 256 → w * h ≤ most_spans → refusal (open_field w h) [] ≡ 0
unfolding too_wide too_many ◌or◌ flat open_field
open_not_refused w h a b few =
    let more : w * h ≤ 65535 = omega arith in
    not_refused (open_field w h) [] (rw (le-ltb 256 w a, le-ltb 256 h b) refl) (le-ltb most_spans (spans (open_field w h)) (omega (arith, open_spans_lem w h)))
    (lengths_right w h more) (cells_right w h more) (reach-right w h more) (back-right w h more)
