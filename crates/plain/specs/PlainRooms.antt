-- What plain rooms are, in the request's words: what the ids are like that the entry gives where it refuses nothing.
use Rattle.std.specs.Prelude.{ℕ, ◌≤◌, ◌<◌, ◌≡◌, List, length, get_or}
use Rattle.rules.specs.Field.{Field, spans, area_of}
use Rattle.rules.specs.Growth.{painted}
use Rattle.rules.specs.Plain.{most_rooms}
use Rattle.rooms.specs.Rooms.{Bears, Joined}

-- span u is unflagged and has area a
pub record Open (F : Field) (ids : List ℕ) (a u : ℕ) : Type 0 where
  pub span : u < spans F
  pub unflagged : get_or ids u 0 < 0x8000
  pub area : area_of F u ≡ a

pub record PlainRooms (F : Field) (border : ℕ) (ids : List ℕ) (most : ℕ) : Type 0 where
  pub size : length ids ≡ spans F
  -- "Border paint as before": what is painted stays, and nothing else is flagged
  pub paint : (s : ℕ) → (get_or (painted F border).ids s 0 ≡ 0 → ⊥) → get_or ids s 0 ≡ get_or (painted F border).ids s 0
  pub flagged : (s : ℕ) → 0x8000 ≤ get_or ids s 0 → get_or ids s 0 ≡ get_or (painted F border).ids s 0
  -- rooms are sets of walkable spans
  pub bare : (s : ℕ) → area_of F s ≡ 0 → Bears ids 0 s
  -- "Two unflagged walkable spans of one area have the same id exactly if a chain of unflagged spans of that area joins them"
  pub same : (a s t : ℕ) → (a ≡ 0 → ⊥) → Joined F (Open F ids a) s t → get_or ids s 0 ≡ get_or ids t 0
  pub join : (a s t : ℕ) → (a ≡ 0 → ⊥) → Open F ids a s → Open F ids a t → get_or ids s 0 ≡ get_or ids t 0 → Joined F (Open F ids a) s t
  -- "spans of different areas never do"
  pub apart : (a b s t : ℕ) → (a ≡ 0 → ⊥) → (b ≡ 0 → ⊥) → Open F ids a s → Open F ids b t → get_or ids s 0 ≡ get_or ids t 0 → a ≡ b
  -- each unflagged walkable span has an id; the ids in use are 1 to max_region, which is below the flag: "the greatest id, 0 for none"
  pub used : (a s : ℕ) → (a ≡ 0 → ⊥) → Open F ids a s → (0 < get_or ids s 0) × (get_or ids s 0 ≤ most)
  pub borne : (k : ℕ) → 0 < k → k ≤ most → (s : ℕ) × (s < spans F) × Bears ids k s
  pub few : most ≤ most_rooms
  -- "numbered from 1 in scan order of the first span": before a span of a room there is one of each room with a lower number
  pub order : (j k s : ℕ) → 0 < j → j < k → k < 0x8000 → Bears ids k s → (t : ℕ) × (t < s) × Bears ids j t
