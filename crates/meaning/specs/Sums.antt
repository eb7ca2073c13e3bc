-- The sums that the two passes make, each with the list as it is at that step: what "No sum exceeds 65,535" speaks of; and those of the blur.
use Rattle.std.specs.Prelude.{ℕ, ◌+◌, ◌*◌, ◌-◌, ◌≤◌, ◌<◌, List, get_or}
use Rattle.rules.specs.Base.{upto}
use Rattle.rules.specs.Field.{Field, spans, near}
use Rattle.rules.specs.Distance.{start, far, lower, pass1, term}

-- the sums of one step, at span s with the list l: neighbour a "plus 2", neighbour a's neighbour b "plus 3", neighbour c "plus 2", neighbour c's
-- neighbour e "plus 3", each where that span is there; none of them exceeds m
pub record StepWithin (m : ℕ) (F : Field) (a b c e s : ℕ) (l : List ℕ) : Type 0 where
  pub first : near F s a < spans F → far l (near F s a) + 2 ≤ m
  pub second : near F (near F s a) b < spans F → far l (near F (near F s a) b) + 3 ≤ m
  pub third : near F s c < spans F → far l (near F s c) + 2 ≤ m
  pub fourth : near F (near F s c) e < spans F → far l (near F (near F s c) e) + 3 ≤ m

-- pass 1: the list as it is when the turn of span s comes
abbrev pub before_span : Field → ℕ → List ℕ
before_span F s = upto s (lower F 0 3 3 2) (start F)

-- pass 2 "goes downward in rows and columns": the cell whose turn is turn k
abbrev pub cell_at : Field → ℕ → ℕ
cell_at F k = F.w * F.h - 1 - k

-- "layers still upward": its span in layer j
abbrev pub layer_at : Field → ℕ → ℕ → ℕ
layer_at F k j = get_or F.index (cell_at F k) 0 + j

-- turn k as far as layer j, which is not yet lowered
abbrev pub layers_to : Field → ℕ → ℕ → List ℕ → List ℕ
layers_to F k j l = upto j (λ i l. lower F 2 1 1 0 (layer_at F k i) l) l

-- pass 2: the list as it is when the turn of layer j comes, in turn k
abbrev pub before_layer : Field → ℕ → ℕ → List ℕ
before_layer F k j = layers_to F k j (upto k (λ k l. layers_to F k (get_or F.count (cell_at F k) 0) l) (pass1 F (start F)))

-- no sum of a pass exceeds m
pub record NoSumExceeds (m : ℕ) (F : Field) : Type 0 where
  pub in_pass1 : (s : ℕ) → s < spans F → StepWithin m F 0 3 3 2 s (before_span F s)
  pub in_pass2 : (k j : ℕ) → k < F.w * F.h → j < get_or F.count (cell_at F k) 0 → StepWithin m F 2 1 1 0 (layer_at F k j) (before_layer F k j)

-- the sum that the blur divides, at span s of the raw list l: "c + eight terms + 5"
abbrev pub blur_sum : Field → List ℕ → ℕ → ℕ
blur_sum F l s =
    let c = get_or l s 0 in
    c + term F l s c 0 + term F l s c 1 + term F l s c 2 + term F l s c 3 + 5
