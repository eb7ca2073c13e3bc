-- The rule's turn keeps what the stacks need: at turn 0 they are sorted anew, at another what remains is appended, and an expansion
-- only marks entries used.
use Prim.Native.Nat.{ℕ, zero, suc, ◌+◌, ◌-◌, ◌*◌, ◌%◌, ◌<◌}
use native.Mathlib.Omega.{arith}
use native.Mathlib.Nat.{mod-lt}
use native.Mathlib.Decide.{ℕ_discrete}
use mathlib.Core.Path.{◌≡◌, refl, ◌∙◌}
use mathlib.Core.List.{List, []}
use lib.ListN.{length, get_or, length-map}
use borrow.Author.Tests.{ne_eqb}
use Rattle.rules.specs.Base.{when◌then◌else◌}
use Rattle.rules.specs.Net.{Net, spans}
use Rattle.rules.specs.Growth.{Marks, Spread, round, rounds, expand, remains, sorted, Turn, loaded, turn}
use Rattle.laws.proofs.Basics.{if-ind}
use Rattle.laws.proofs.Grows.{expand_down}
use Rattle.levels.specs.Levels.{appended, Stacked}
use Rattle.levels.proofs.CarryLaws.{stacked_append, stacked_used}
use Rattle.levels.proofs.SortLaws.{sorted_stacked}

-- ---------------------------------------------------------------- loading

pub loaded-first : (N : Net) (dist : List ℕ) (level : ℕ) (t : Turn) → loaded N dist level 0 t ≡ sorted N.areas dist t.marks.ids level
unfolding loaded when◌then◌else◌
loaded-first N dist level t = refl

pub loaded_next : (N : Net) (dist : List ℕ) (level j : ℕ) (t : Turn) → 0 < j
    → loaded N dist level j t ≡ appended j (remains t.marks.ids (get_or t.stacks (j - 1) [])) t.stacks
unfolding loaded appended when◌then◌else◌
loaded_next N dist level j t h = rw (ne_eqb j 0 (λ e. omega arith))

loaded_stacked : (N : Net) (dist : List ℕ) (level j : ℕ) (t : Turn) → j < 8 → (0 < j → Stacked (spans N) t.stacks (j - 1)) → Stacked (spans N) (loaded N dist level j t) j
loaded_stacked N dist level j t h s = elim (ℕ_discrete j 0) [
  | yes e ↦ rw (e, loaded-first N dist level t) (sorted_stacked N.areas dist t.marks.ids level)
  | no e ↦ let p : 0 < j = omega arith in rw (loaded_next N dist level j t p) (stacked_append (spans N) j t.marks.ids t.stacks (s p) p h)
]

-- ---------------------------------------------------------------- expansion

rounds_stack : (N : Net) (k : ℕ) (p : Spread) → length (rounds N k p).stack ≡ length p.stack
unfolding rounds round
rounds_stack N zero p = refl
rounds_stack N (suc k) p =
    if-ind (λ (x : Spread). length x.stack ≡ length p.stack) _
    (λ _. rounds_stack N k (round N p) ∙ length-map p.stack _)
    (λ _. refl)

-- an expansion has as many entries as before
pub expand_stack : (N : Net) (level : ℕ) (m : Marks) (es : List ℕ) → length (expand N level m es).stack ≡ length es
unfolding expand
expand_stack N level m es = rounds_stack N _ _ ∙ length-map es _

-- Before turn k of all the stacks are those of turn number k % 8 - 1, but at number 0, where the old ones are thrown away.
pub turn_stacked : (N : Net) (dist : List ℕ) (top k : ℕ) (t : Turn) → (0 < k % 8 → Stacked (spans N) t.stacks (k % 8 - 1)) → Stacked (spans N) (turn N dist top k t).stacks (k % 8)
unfolding turn
turn_stacked N dist top k t h =
    let level = top - 2 * (k + 1) in
    let j = k % 8 in
    let stacks = loaded N dist level j t in
    let es = get_or stacks j [] in
    let low : k % 8 < 8 = mod-lt k (omega arith) in
    let s : Stacked (spans N) stacks j = loaded_stacked N dist level j t low h in
    stacked_used (spans N) j (expand N level t.marks es).stack stacks s low (expand_stack N level t.marks es) (expand_down N level t.marks es (s.inside j)).1
