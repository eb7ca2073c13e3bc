-- What refusals 1 to 7 leave to the stages of the entry, and what these find.
use Rattle.std.specs.Prelude.{ℕ, ◌+◌, ◌*◌, ◌≤◌, ◌<◌, ◌≡◌, List, length}
use Rattle.rules.specs.Field.{Field, spans}
use Rattle.rules.specs.Plain.{most_rooms, plain_rooms}
use Rattle.field.specs.Lent.{Sound}

pub record Admitted (F : Field) (ws ids : List ℕ) : Type 0 where
  pub sound : Sound F
  pub idents : length ids ≡ spans F
  pub room : 128 * spans F + 4096 ≤ length ws

-- how many rooms there are; with ids₀ the ids before: the rule's ids, or with too many rooms the ids as before
pub record Finds (F : Field) (border : ℕ) (ids₀ : List ℕ) (most : ℕ) (ids' : List ℕ) : Type 0 where
  pub rooms : most ≡ (plain_rooms F border).most
  pub done : most ≤ most_rooms → ids' ≡ (plain_rooms F border).ids
  pub back : most_rooms < most → ids' ≡ ids₀
