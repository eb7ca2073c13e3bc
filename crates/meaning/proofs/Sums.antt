-- "No sum exceeds 65,535; that is to be proved." Pass 1: a span without a neighbour 0 starts with 0, and another's neighbour 0 has had its turn, one
-- column to the left; so a span in column x comes to at most 2·x, and all that a span reads has had its turn. Pass 2 only lowers.
use Prim.Native.Nat.{ℕ, suc, ◌*◌, ◌≤◌, ◌<◌}
use native.Mathlib.Omega.{arith}
use native.Mathlib.Decide.{dec_lt}
use mathlib.Core.Path.{◌≡◌, refl, ◌∙◌}
use mathlib.Core.List.{List}
use lib.ListN.{length, get_or}
use Rattle.rules.specs.Base.{upto}
use Rattle.rules.specs.Field.{Field, spans, none, near, Bytes}
use Rattle.rules.specs.Refusals.{refusal}
use Rattle.rules.specs.Distance.{start, far, lower, pass1, pass2, raw}
use Rattle.laws.proofs.Basics.{upto-ind}
use Rattle.laws.proofs.Lengths.{start-length, lower-length}
use Rattle.laws.proofs.Cells.{Passed, passed}
use Rattle.laws.proofs.Passes.{start_edge}
use Rattle.meaning.specs.Sums.{StepWithin, before_span, cell_at, layer_at, layers_to, before_layer, NoSumExceeds}
use Rattle.meaning.proofs.Places.{few, column, column_low, column-left, near_cases, layer_in}
use Rattle.meaning.proofs.Passes.{lower_lowers, lower-near}
use Rattle.meaning.proofs.Settled.{reads1}

-- ---------------------------------------------------------------- the lists are those of the passes

module _ (F : Field) where
  pub span-after-span : (s : ℕ) → before_span F (suc s) ≡ lower F 0 3 3 2 s (before_span F s)
  unfolding upto
  span-after-span s = refl

  pub pass1-after_all : before_span F (spans F) ≡ pass1 F (start F)
  unfolding pass1
  pass1-after_all = refl

  pub layer_after_layer : (k j : ℕ) → before_layer F k (suc j) ≡ lower F 2 1 1 0 (layer_at F k j) (before_layer F k j)
  unfolding upto
  layer_after_layer k j = refl

  pub cell-after-cell : (k : ℕ) → before_layer F (suc k) 0 ≡ before_layer F k (get_or F.count (cell_at F k) 0)
  unfolding upto
  cell-after-cell k = refl

  pub raw-after_all : before_layer F (F.w * F.h) 0 ≡ raw F
  unfolding upto pass2 raw
  raw-after_all = refl

-- ---------------------------------------------------------------- pass 1

module _ (F : Field) (lens : List ℕ) (ok : Passed F lens) (bytes : Bytes F) where
  -- when the turn of span k comes
  record Passing (k : ℕ) (l : List ℕ) : Type 0 where
    size : length l ≡ spans F
    low : (t : ℕ) → t < k → far l t ≤ 2 * column F lens ok t
    edge : (t : ℕ) → t < spans F → near F t 0 ≡ none → far l t ≡ 0

  passing_first : Passing 0 (start F)
  passing_first =
      record {
        size = start-length F;
        low = λ t h. absurd (omega arith);
        edge = λ t h e. start_edge F t 0 (few F lens ok) h (bytes t h) (omega arith) e;
      }

  passing_next : (k : ℕ) (l : List ℕ) → k < spans F → Passing k l → Passing (suc k) (lower F 0 3 3 2 k l)
  passing_next k l h v =
      let down = lower_lowers F 0 3 3 2 k l (omega (arith, v.size)) in
      record {
        size = lower-length F 0 3 3 2 k l ∙ v.size;
        low = λ t g. elim (dec_lt t k) [ yes i ↦ omega (arith, v.low t i, down t) | no i ↦ let e : t ≡ k = omega arith in rw e (new_low (down k)) ];
        edge = λ t g e. omega (arith, v.edge t g e, down t);
      }
    where
      new_low : far (lower F 0 3 3 2 k l) k ≤ far l k → far (lower F 0 3 3 2 k l) k ≤ 2 * column F lens ok k
      new_low down =
          near_cases F lens ok (far (lower F 0 3 3 2 k l) k ≤ 2 * column F lens ok k) k 0 h (omega arith)
          (λ e. omega (arith, v.edge k h e))
          (λ i. omega (arith, v.low (near F k 0) ((reads1 F lens ok k h).first i), column-left F lens ok k h i, lower-near F 0 3 3 2 k l (omega (arith, v.size))))

  passing : (k : ℕ) → k ≤ spans F → Passing k (before_span F k)
  passing k h = upto-ind Passing (lower F 0 3 3 2) (start F) k passing_first (λ i l g v. passing_next i l (omega arith) v)

  pass1-step : (s : ℕ) → s < spans F → StepWithin 513 F 0 3 3 2 s (before_span F s)
  pass1-step s h =
      let r = reads1 F lens ok s h in
      let v = passing s (omega arith) in
      let had : (t : ℕ) → t < spans F → t < s → far (before_span F s) t ≤ 510 = λ t i g. omega (arith, v.low t g, column_low F lens ok t i) in
      record {
        first = λ i. omega (arith, had _ i (r.first i));
        second = λ i. omega (arith, had _ i (r.second i));
        third = λ i. omega (arith, had _ i (r.third i));
        fourth = λ i. omega (arith, had _ i (r.fourth i));
      }

  -- ---------------------------------------------------------------- pass 2

  record Low (l : List ℕ) : Type 0 where
    size : length l ≡ spans F
    low : (t : ℕ) → t < spans F → far l t ≤ 510

  pass1_low : Low (pass1 F (start F))
  unfolding pass1
  pass1_low = let v = passing (spans F) (omega arith) in record { size = v.size; low = λ t h. omega (arith, v.low t h, column_low F lens ok t h) }

  pub pass1-at_most_510 : (t : ℕ) → t < spans F → far (pass1 F (start F)) t ≤ 510
  pass1-at_most_510 = pass1_low.low

  low_next : (l : List ℕ) (s : ℕ) → s < spans F → Low l → Low (lower F 2 1 1 0 s l)
  low_next l s h v =
      record {
        size = lower-length F 2 1 1 0 s l ∙ v.size;
        low = λ t g. omega (arith, v.low t g, lower_lowers F 2 1 1 0 s l (omega (arith, v.size)) t);
      }

  low_layers : (k j : ℕ) (l : List ℕ) → j ≤ get_or F.count (cell_at F k) 0 → Low l → Low (layers_to F k j l)
  low_layers k j l h v = upto-ind (λ _ x. Low x) _ l j v (λ i x g u. low_next x _ (layer_in F lens ok _ i (omega arith)) u)

  low_before : (k j : ℕ) → j ≤ get_or F.count (cell_at F k) 0 → Low (before_layer F k j)
  low_before k j h =
      low_layers k j _ h (upto-ind (λ _ x. Low x) _ (pass1 F (start F)) k pass1_low (λ i x g u. low_layers i _ x (omega arith) u))

  pass2-step : (k j : ℕ) → j < get_or F.count (cell_at F k) 0 → StepWithin 513 F 2 1 1 0 (layer_at F k j) (before_layer F k j)
  pass2-step k j h =
      let v = low_before k j (omega arith) in
      record { first = λ i. omega (arith, v.low _ i); second = λ i. omega (arith, v.low _ i); third = λ i. omega (arith, v.low _ i); fourth = λ i. omega (arith, v.low _ i) }

  pub raw_low : (t : ℕ) → t < spans F → far (raw F) t ≤ 510
  raw_low = rw (← raw-after_all F) (low_before (F.w * F.h) 0 (omega arith)).low

-- ---------------------------------------------------------------- the law

module _ (F : Field) (lens : List ℕ) (ok : refusal F lens ≡ 0) (bytes : Bytes F) where
  pub no_sum-exceeds_513 : NoSumExceeds 513 F
  no_sum-exceeds_513 = record { in_pass1 = pass1-step F lens (passed F lens ok) bytes; in_pass2 = λ k j _ h. pass2-step F lens (passed F lens ok) bytes k j h }

  -- "No sum exceeds 65,535"
  pub no_sum-exceeds_65535 : NoSumExceeds 65535 F
  no_sum-exceeds_65535 =
      record {
        in_pass1 = λ s h. wider (no_sum-exceeds_513.in_pass1 s h);
        in_pass2 = λ k j h g. wider (no_sum-exceeds_513.in_pass2 k j h g);
      }
    where
      wider : {a b c e s : ℕ} {l : List ℕ} → StepWithin 513 F a b c e s l → StepWithin 65535 F a b c e s l
      wider v = record { first = λ i. omega (arith, v.first i); second = λ i. omega (arith, v.second i); third = λ i. omega (arith, v.third i); fourth = λ i. omega (arith, v.fourth i) }
