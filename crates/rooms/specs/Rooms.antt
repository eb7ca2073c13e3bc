-- Demand 3 in words: what the ids are like that the region entry gives for a field that it does not refuse.
use Rattle.std.specs.Prelude.{ℕ, ◌≤◌, ◌<◌, ◌≡◌, List, length, get_or}
use Rattle.rules.specs.Field.{Field, spans, near, area_of}

-- an id of a room: neither 0 nor flagged
abbrev pub Plain : ℕ → Type 0
Plain r = (0 < r) × (r < 0x8000)

-- span u has id r
abbrev pub Bears : List ℕ → ℕ → ℕ → Type 0
Bears ids r u = get_or ids u 0 ≡ r

-- s and t are joined by a chain of connections through spans of the class C, s and t among them
pub data Joined (F : Field) (C : ℕ → Type 0) : ℕ → ℕ → Type 0 where
  stay : {s : ℕ} → C s → Joined F C s s
  goes : {s t : ℕ} (d : ℕ) → d < 4 → C s → Joined F C (near F s d) t → Joined F C s t

-- the ids of all spans. The ids in use are exactly first to past - 1. In the compared form first is 1, or 5 with a border, and past is
-- max_region; in the dense form first is 1 and max_region is the last, so that past is one more.
pub record Rooms (F : Field) (first : ℕ) (ids : List ℕ) (past : ℕ) : Type 0 where
  pub size : length ids ≡ spans F
  -- (a) "area 0 has id 0"
  pub bare : (s : ℕ) → area_of F s ≡ 0 → Bears ids 0 s
  -- (b) "spans with one unflagged nonzero id have one area and are joined by connections through that id"
  pub one : (k s t : ℕ) → Plain k → Bears ids k s → Bears ids k t → area_of F s ≡ area_of F t
  pub join : (k s t : ℕ) → Plain k → Bears ids k s → Bears ids k t → Joined F (Bears ids k) s t
  -- (c) "the ids in use are exactly 1 (5 with a border) to max_region - 1"; "ids in use run from 1 to max_region" in the dense form
  pub used : (k s : ℕ) → Plain k → Bears ids k s → (first ≤ k) × (k < past)
  pub borne : (k : ℕ) → first ≤ k → k < past → Plain k × ((s : ℕ) × (s < spans F) × Bears ids k s)
