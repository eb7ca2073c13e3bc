-- The shadow of the traced form is the plain rule: the story is told along the plain rule's own states. Assumes nothing.
use Prim.Native.Nat.{ℕ, zero, suc}
use mathlib.Core.Path.{◌≡◌, refl}
use mathlib.Core.List.{List}
use Rattle.rules.specs.Base.{upto}
use Rattle.rules.specs.Net.{Net}
use Rattle.rules.specs.Growth.{Turn, turn}
use Rattle.rules.specs.Reasons.{Story, turn_tells, turns_tell}
use Rattle.reasons.specs.Traced.{turn_told}

told_next : (N : Net) (dist : List ℕ) (top k : ℕ) (t : Turn) (y : Story) → turn_told N dist top k (record { turn = t; story = y }) ≡ record { turn = turn N dist top k t; story = turn_tells N dist top k t y }
unfolding turn_told
told_next N dist top k t y = refl

pub told_shadow : (N : Net) (dist : List ℕ) (top k : ℕ) (t : Turn) (y : Story)
    → upto k (turn_told N dist top) (record { turn = t; story = y }) ≡ record { turn = upto k (turn N dist top) t; story = turns_tell N dist top k t y }
unfolding upto turns_tell
told_shadow N dist top zero t y = refl
told_shadow N dist top (suc k) t y = rw (told_shadow N dist top k t y) (told_next N dist top k (upto k (turn N dist top) t) (turns_tell N dist top k t y))
