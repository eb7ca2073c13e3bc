-- What a round does to the watched span, as the code tells it: the changes lo .. hi are those of the round.
use Rattle.std.specs.Prelude.{◌≡◌, Option, Some, None, List, ℕ, ◌+◌, ◌*◌, ◌≤◌, ◌<◌, get_or}
use Rattle.rules.specs.Base.{when◌then◌else◌}
use Rattle.rules.specs.Net.{Net, near}
use Rattle.rules.specs.Growth.{Marks}
use Rattle.rules.specs.Reasons.{Story, took_from, gives}
use Rattle.expand.specs.Front.{Queued}

-- the place of span s among them, or none where it stands nowhere
pub record Sought (ws : List ℕ) (e lo hi s : ℕ) (r : Option ℕ) : Type 0 where
  pub found : (i : ℕ) → r ≡ Some i → (lo ≤ i) × (i < hi) × (get_or ws (e + 3 * i) 0 ≡ s)
  pub nowhere : r ≡ None → Queued ws e lo hi s → ⊥

-- the first neighbour of entry s with the sum far
unfoldable pub source_at : Net → Marks → ℕ → ℕ → ℕ
source_at N m s far =
    when gives N m s far 0 then near N s 0 else
    when gives N m s far 1 then near N s 1 else
    when gives N m s far 2 then near N s 2 else near N s 3

-- change i is the watched span's: it takes the id of the first neighbour with the change's sum
pub record Took (N : Net) (m : Marks) (ws : List ℕ) (e lo hi : ℕ) (y y' : Story) : Type 0 where
  pub at : ℕ
  pub from : lo ≤ at
  pub to : at < hi
  pub is : get_or ws (e + 3 * at) 0 ≡ y.span
  pub told : y' ≡ took_from (source_at N m y.span (get_or ws (e + 3 * at + 2) 0)) y

-- the watched span takes an id if it stands among them
pub record RoundTold (N : Net) (m : Marks) (ws : List ℕ) (e lo hi : ℕ) (y y' : Story) : Type 0 where
  pub took : Queued ws e lo hi y.span → Took N m ws e lo hi y y'
  pub still : (Queued ws e lo hi y.span → ⊥) → y' ≡ y
