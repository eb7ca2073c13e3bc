-- Two results that satisfy the promise of `growth::grow` coincide: numbers, story, and so the result itself, ids and every number of the workspace.
-- The workspace is zeros where growth worked, the field's net in the table, and what it was elsewhere.
use Prim.Native.Nat.{ℕ, ◌+◌, ◌-◌, ◌*◌, ◌≤◌, ◌<◌}
use native.Mathlib.Omega.{arith}
use native.Mathlib.Decide.{ℕ_discrete, dec_lt}
use mathlib.Core.Path.{◌≡◌, sym, ap, ◌∙◌}
use mathlib.Core.List.{List}
use lib.ListN.{length, get_or, take, drop}
use lib.Seq.{get_or-take, get_or-drop, ext_get_or}
use Rattle.rules.specs.Field.{Field, spans}
use Rattle.rules.specs.Net.{Net}
use Rattle.rules.specs.Reasons.{Story, begins, story}
use Rattle.net.specs.Table.{net_at}
use Rattle.std.specs.Prelude.{Result, Ok, Err}
use Rattle.flood.specs.declared.story.Story as code
use Rattle.flood.specs.Stories.{story_of}
use Rattle.growth.specs.declared.turns.Growth.{Growth}
use Rattle.growth.specs.declared.turns.Stop.{Stop}
use Rattle.growth.specs.Stops.{stop_of, next_of, story_in}
use Rattle.growth.specs.Grow.{growth_room, Whole}
use Rattle.growth.proofs.Stopped.{some_stop, stop_same}

-- what a call promises of its story
pub record Told (F : Field) (dist : List ℕ) (most border s stop : ℕ) (y : Story) : Type 0 where
  pub told : stop ≡ 0 → y ≡ story F dist most border s
  pub untold : (stop ≡ 0 → ⊥) → y ≡ begins s

in_table : (table m i : ℕ) (ws : List ℕ) → table ≤ i → i < table + m → get_or (take m (drop table ws)) (i - table) 0 ≡ get_or ws i 0
in_table table m i ws l u =
    let e : table + (i - table) ≡ i = omega arith in
    get_or-take m (drop table ws) (i - table) 0 (omega arith) ∙ get_or-drop table ws (i - table) 0 ∙ ap (λ (k : ℕ). get_or ws k 0) e

module _ (F : Field) (dist : List ℕ) (most border table s : ℕ) (ws : List ℕ) (past : growth_room (spans F) ≤ table)
    (next stop next' stop' : ℕ) (y y' : Story) (ids ws₁ ids' ws₂ : List ℕ)
    (a : Whole F dist most border table ws next stop ids ws₁) (b : Whole F dist most border table ws next' stop' ids' ws₂)
    (t : Told F dist most border s stop y) (u : Told F dist most border s stop' y')
    (n₁ : length ws₁ ≡ length ws) (n₂ : length ws₂ ≡ length ws) where
  pub one_stop : stop ≡ stop'
  one_stop = a.stops ∙ sym b.stops

  goes : stop ≡ 0 → stop' ≡ 0
  goes o = sym one_stop ∙ o

  stopped : (stop ≡ 0 → ⊥) → stop' ≡ 0 → ⊥
  stopped o q = o (one_stop ∙ q)

  pub one_next : next ≡ next'
  one_next = elim (ℕ_discrete stop 0) [
    | yes o ↦ a.id o ∙ sym (b.id (goes o))
    | no o ↦ a.no_id o ∙ sym (b.no_id (stopped o))
  ]

  pub one-story : y ≡ y'
  one-story = elim (ℕ_discrete stop 0) [
    | yes o ↦ t.told o ∙ sym (u.told (goes o))
    | no o ↦ t.untold o ∙ sym (u.untold (stopped o))
  ]

  pub one_ids : ids ≡ ids'
  one_ids = elim (ℕ_discrete stop 0) [
    | yes o ↦ a.ids o ∙ sym (b.ids (goes o))
    | no o ↦ a.no_ids o ∙ sym (b.no_ids (stopped o))
  ]

  table_same : take (4 * spans F) (drop table ws₁) ≡ take (4 * spans F) (drop table ws₂)
  unfolding net_at
  table_same = ap (λ (N : Net). N.neighbours) (a.net ∙ sym b.net)

  one_number : (i : ℕ) → get_or ws₁ i 0 ≡ get_or ws₂ i 0
  one_number i =
      elim (dec_lt i (growth_room (spans F))) [
        | yes h ↦ a.clear.blank i (omega arith) h ∙ sym (b.clear.blank i (omega arith) h)
        | no g ↦ elim (dec_lt i table) [
          | yes h ↦ a.between i (omega arith) h ∙ sym (b.between i (omega arith) h)
          | no k ↦ elim (dec_lt i (table + 4 * spans F)) [
            | yes h ↦ sym (in_table table (4 * spans F) i ws₁ (omega arith) h) ∙ ap (λ (l : List ℕ). get_or l (i - table) 0) table_same ∙ in_table table (4 * spans F) i ws₂ (omega arith) h
            | no h ↦ a.after i (omega arith) ∙ sym (b.after i (omega arith))
          ]
        ]
      ]

  pub one_workspace : ws₁ ≡ ws₂
  one_workspace = ext_get_or 0 ws₁ ws₂ (n₁ ∙ sym n₂) (λ i l. one_number i)

-- ---------------------------------------------------------------- of the result itself

story_same : (g h : code.Story) → story_of g ≡ story_of h → g ≡ h
story_same g h e = rw (ap (λ (y : Story). y.span) e, ap (λ (y : Story). y.from) e, ap (λ (y : Story). y.gave) e, ap (λ (y : Story). y.objecting) e)

-- a result is told by its numbers and its story
result_same : (y : Story) (a b : Result Growth Stop) → stop_of a ≡ stop_of b → next_of a ≡ next_of b → story_in y a ≡ story_in y b → a ≡ b
result_same y (Err s) (Err t) e f g = ap Err (stop_same s t e)
result_same y (Err s) (Ok h) e f g = absurd (some_stop s e)
result_same y (Ok g) (Err t) e f h = absurd (some_stop t (sym e))
result_same y (Ok g) (Ok h) e f k = ap Ok (rw (f, story_same g.story h.story k))

pub one_result : (F : Field) (dist : List ℕ) (most border table s : ℕ) (ws : List ℕ) → growth_room (spans F) ≤ table → (a b : Result Growth Stop) (ids ws₁ ids' ws₂ : List ℕ)
    → Whole F dist most border table ws (next_of a) (stop_of a) ids ws₁ → Whole F dist most border table ws (next_of b) (stop_of b) ids' ws₂
    → Told F dist most border s (stop_of a) (story_in (begins s) a) → Told F dist most border s (stop_of b) (story_in (begins s) b)
    → length ws₁ ≡ length ws → length ws₂ ≡ length ws → a ≡ b
one_result F dist most border table s ws past a b ids ws₁ ids' ws₂ v w t u n₁ n₂ =
    result_same (begins s) a b (one_stop F dist most border table s ws past _ _ _ _ _ _ ids ws₁ ids' ws₂ v w t u n₁ n₂)
    (one_next F dist most border table s ws past _ _ _ _ _ _ ids ws₁ ids' ws₂ v w t u n₁ n₂) (one-story F dist most border table s ws past _ _ _ _ _ _ ids ws₁ ids' ws₂ v w t u n₁ n₂)
