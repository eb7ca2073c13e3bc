-- What an entry finds, as the code tests it, and what the rule makes of it. Assumes nothing.
use mathlib.Core.Path.{◌≡◌, ◌∙◌}
use mathlib.Core.Bool.{true, false, not, false≢true}
use mathlib.Core.List.{List}
use Prim.Native.Nat.{ℕ, ◌<◌}
use lib.ListN.{get_or}
use lib.Dec.{eqb}
use borrow.Author.Tests.{eq-eqb, ne_eqb}
use Rattle.rules.specs.Base.{◌and◌, when◌then◌else◌}
use Rattle.rules.specs.Field.{none}
use Rattle.rules.specs.Net.{Net}
use Rattle.rules.specs.Growth.{Marks, put, finds, takes, wrote}
use Rattle.laws.proofs.Basics.{and_no}
use Rattle.expand.specs.Layout.{left}

-- ---------------------------------------------------------------- an entry, as the code has it

module _ (N : Net) (m : Marks) (s : ℕ) where
  module _ (id far : ℕ) (g : record { id = id; far = far } ≡ takes N m s) where
    pub zero_no : id ≡ 0 → finds N m s ≡ false
    unfolding finds
    zero_no h = rw (← g, eq-eqb _ _ h) (and_no (not (eqb s none)))

    pub taken_yes : (s ≡ none → ⊥) → (id ≡ 0 → ⊥) → finds N m s ≡ true
    unfolding finds ◌and◌
    taken_yes z h = rw (← g, ne_eqb _ _ z, ne_eqb _ _ h)

-- an unused entry is a span
pub entry_in : (ws : List ℕ) (i n s : ℕ) → s ≡ get_or ws i 0 → ((get_or ws i 0 ≡ none → ⊥) → get_or ws i 0 < n) → (s ≡ none → ⊥) → s < n
entry_in ws i n s q f z = rw q (f (λ g. z (q ∙ g)))

-- ---------------------------------------------------------------- the rule, entry by entry

module _ (N : Net) (m : Marks) (s : ℕ) where
  pub left_yes : finds N m s ≡ true → left N m s ≡ none
  unfolding left when◌then◌else◌
  left_yes z = rw z

  pub left_no : finds N m s ≡ false → left N m s ≡ s
  unfolding left when◌then◌else◌
  left_no z = rw z

  pub wrote_yes : (out : Marks) → finds N m s ≡ true → wrote N m s out ≡ put out s (takes N m s).id (takes N m s).far
  unfolding wrote when◌then◌else◌
  wrote_yes out z = rw z

  pub wrote_no : (out : Marks) → finds N m s ≡ false → wrote N m s out ≡ out
  unfolding wrote when◌then◌else◌
  wrote_no out z = rw z

  -- a used entry finds nothing
  pub finds_used : s ≡ none → finds N m s ≡ true → ⊥
  unfolding finds ◌and◌
  finds_used h z = false≢true (rw (eq-eqb s none h) at z)
