-- A raw value can be above the cheapest chain: on the crossed field the raw value at (3,3) is 5, and the cheapest chain costs 4. By computation.
use Prim.Native.Nat.{ℕ, ◌≤◌, ◌<◌}
use native.Mathlib.Omega.{arith}
use mathlib.Core.Path.{◌≡◌, refl}
use mathlib.Core.Bool.{true}
use mathlib.Core.List.{[]}
use lib.ListN.{get_or}
use lib.Dec.{ltb}
use borrow.Author.Tests.{ltb-true}
use Rattle.rules.specs.Base.{◌and◌, ◌or◌, when◌then◌else◌, upto, tab, every}
use Rattle.rules.specs.Field.{Field, cell_of, cell_to, leaves, con_of, near, area_of}
use Rattle.rules.specs.Refusals.{good_cells, good_con, good_back, too_wide, too_many, wrong_length, wrong_cells, wrong_reach, wrong_back, refusal}
use Rattle.rules.specs.Distance.{same, start_at, start, least_of, lower, pass1, pass2, raw}
use Rattle.laws.proofs.Basics.{every-at}
use Rattle.meaning.specs.Moves.{Turns, left_up, up_right, right_down, down_left, Move, straight, cornering, Chain, ended, moved, Cheapest}
use Rattle.meaning.specs.Crossed.{crossed}

pub crossed-not_refused : refusal crossed [] ≡ 0
unfolding ◌and◌ ◌or◌ when◌then◌else◌ every cell_of cell_to leaves con_of near good_cells good_con good_back too_wide too_many wrong_length wrong_cells wrong_reach wrong_back refusal crossed
crossed-not_refused = refl

-- span 13 is at (3,3)
pub crossed-raw : get_or (raw crossed) 13 0 ≡ 5
unfolding when◌then◌else◌ upto tab cell_of cell_to con_of near area_of same start_at start least_of lower pass1 pass2 raw crossed
crossed-raw = refl

-- to (2,3), and from there to the second span of (2,4)
pub crossed_chain : Chain crossed 13 4
unfolding when◌then◌else◌ tab cell_of cell_to con_of near area_of same start_at start crossed
crossed_chain =
    let second : Chain crossed 19 0 = ended {s = 19} (omega arith) refl in
    let down : Move crossed 11 19 2 = straight 1 (omega arith) (omega arith) in
    let left : Move crossed 13 11 2 = straight 0 (omega arith) (omega arith) in
    moved left (moved down second)

-- ---------------------------------------------------------------- no chain is cheaper

move_cost : {F : Field} {s t k : ℕ} → Move F s t k → 2 ≤ k
move_cost (straight d g i) = omega arith
move_cost (cornering d e r i j) = omega arith

-- a chain from a span that is more than one move from those that started with 0
two_moves : {F : Field} {s c : ℕ} → Chain F s c → (get_or (start F) s 65535 ≡ 0 → ⊥) → ((d : ℕ) → d < 4 → get_or (start F) (near F s d) 65535 ≡ 0 → ⊥)
    → ((d e : ℕ) → Turns d e → get_or (start F) (near F (near F s d) e) 65535 ≡ 0 → ⊥) → 4 ≤ c
two_moves (ended i e) a b c = absurd (a e)
two_moves (moved (straight d g i) (ended j e)) a b c = absurd (b d g e)
two_moves (moved (cornering d e r i j) (ended k f)) a b c = absurd (c d e r f)
two_moves (moved m (moved n q)) a b c = omega (arith, move_cost m, move_cost n)

neighbours_high : every 4 (λ d. ltb 0 (get_or (start crossed) (near crossed 13 d) 65535)) ≡ true
unfolding ◌and◌ when◌then◌else◌ tab every cell_of cell_to con_of near area_of same start_at start crossed
neighbours_high = refl

corner_high : {d e : ℕ} → Turns d e → get_or (start crossed) (near crossed (near crossed 13 d) e) 65535 ≡ 65535
unfolding when◌then◌else◌ tab cell_of cell_to con_of near area_of same start_at start crossed
corner_high left_up = refl
corner_high up_right = refl
corner_high right_down = refl
corner_high down_left = refl

own_high : get_or (start crossed) 13 65535 ≡ 65535
unfolding when◌then◌else◌ tab cell_of cell_to con_of near area_of same start_at start crossed
own_high = refl

pub crossed_cheapest : Cheapest crossed 13 4
crossed_cheapest =
    record {
      chain = crossed_chain;
      least = λ c q. two_moves q (λ e. absurd (omega (arith, own_high)))
          (λ d g e. let above : 0 < get_or (start crossed) (near crossed 13 d) 65535 = ltb-true _ _ (every-at 4 _ neighbours_high d g) in absurd (omega arith))
          (λ d e r f. absurd (omega (arith, corner_high r)));
    }
