-- The eight level stacks: how they lie in the part of the workspace that is lent for them, and what is kept of them from turn to turn.
use Rattle.std.specs.Prelude.{◌≡◌, Bool, false, not, List, [], ◌∷◌, ◌++◌, ℕ, zero, suc, ◌+◌, ◌-◌, ◌*◌, ◌/◌, ◌≤◌, ◌<◌, length, get_or, set, take, drop, eqb, leb}
use Rattle.rules.specs.Base.{◌and◌, ◌or◌, tab, keep}
use Rattle.rules.specs.Field.{none}
use Rattle.laws.proofs.Basics.{All}

-- a stack for each turn number, "if below 8"
abbrev pub stack_count : ℕ
stack_count = 8

abbrev pub last_stack : ℕ
last_stack = 7

-- so many spans are asked at a time whether there is one to sort
abbrev pub block_size : ℕ
block_size = 16

-- stacks of n places each, one behind the other, filled as far as fills says
unfoldable pub levels_at : List ℕ → ℕ → List ℕ → List (List ℕ)
levels_at stacks n [] = []
levels_at stacks n (f ∷ fs) = take f stacks ∷ levels_at (drop n stacks) n fs

-- eight fills of at most m
pub record Fills (m : ℕ) (fills : List ℕ) : Type 0 where
  pub eight : length fills ≡ stack_count
  pub most : (k : ℕ) → get_or fills k 0 ≤ m

-- eight stacks of n places each are lent, and no span has the number of a used entry
pub record StackPart (n : ℕ) (stacks : List ℕ) : Type 0 where
  pub few : n ≤ none
  pub exact : length stacks ≡ stack_count * n

-- the lists that a sort is lent: one of each a span, and the stacks
pub record SortLists (areas dist ids stacks : List ℕ) : Type 0 where
  pub part : StackPart (length areas) stacks
  pub dists : length dist ≡ length areas
  pub idents : length ids ≡ length areas

-- an entry is used, or one of n spans
abbrev pub Entry : ℕ → ℕ → Type 0
Entry n e = (e ≡ none → ⊥) → e < n

-- ys at the end of stack k
unfoldable pub appended : ℕ → List ℕ → List (List ℕ) → List (List ℕ)
appended k ys ls = set ls k (get_or ls k [] ++ ys)

-- how many entries all the stacks have
unfoldable pub total : List (List ℕ) → ℕ
total [] = 0
total (l ∷ ls) = length l + total ls

-- Kept from turn to turn, so that no stack passes n entries: a span is sorted into one stack, and what is appended to a stack
-- was counted in the one before. Of the stacks before turn j nothing is said but that their entries are spans.
pub record Stacked (n : ℕ) (stacks : List (List ℕ)) (j : ℕ) : Type 0 where
  pub eight : length stacks ≡ stack_count
  pub room : total (drop j stacks) ≤ n
  pub inside : (k : ℕ) → All (Entry n) (get_or stacks k [])

-- the rule's `sorted`, of the first i spans
unfoldable pub sorted_to : List ℕ → List ℕ → List ℕ → ℕ → ℕ → List (List ℕ)
sorted_to areas dist ids level i =
    tab stack_count 0 (λ j. keep (λ s. eqb (level / 2 - get_or dist s 0 / 2) j)
    (keep (λ s. not (eqb (get_or areas s 256) 0) and eqb (get_or ids s 0) 0) (tab i 0 (λ s. s))))

-- one of the first n spans has id 0 and a distance of at least `from`
unfoldable pub any_open : List ℕ → List ℕ → ℕ → ℕ → Bool
any_open dist ids from zero = false
any_open dist ids from (suc n) = (eqb (get_or ids n 0) 0 and leb from (get_or dist n 0)) or any_open dist ids from n

-- What a step leaves: fills fs became fs', no stack shrank, and past the fills all is as it was.
pub record Kept (n : ℕ) (stacks fs stacks' fs' : List ℕ) : Type 0 where
  pub size : length stacks' ≡ length stacks
  pub fits : Fills n fs'
  pub up : (k : ℕ) → get_or fs k 0 ≤ get_or fs' k 0
  pub rest : (k i : ℕ) → k < stack_count → get_or fs' k 0 ≤ i → i < n → get_or stacks' (k * n + i) 0 ≡ get_or stacks (k * n + i) 0

-- and what the stacks hold then
pub record Moved (n : ℕ) (stacks fs stacks' fs' : List ℕ) (ls : List (List ℕ)) : Type 0 where
  pub same : levels_at stacks' n fs' ≡ ls
  pub kept : Kept n stacks fs stacks' fs'
