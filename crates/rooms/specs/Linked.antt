-- Rooms as the theorems come to them: over the net of a field, and with connections taken back as well as forward.
-- `rooms_forward` (proofs/Forward.antt) gives demand 3 as `Rooms` says it.
use Rattle.std.specs.Prelude.{ℕ, ◌≤◌, ◌<◌, ◌≡◌, List, length}
use Rattle.rules.specs.Net.{Net, spans, near, area_of}
use Rattle.rooms.specs.Rooms.{Plain, Bears}

-- s and t are joined by a chain of connections, each taken forward or back, through spans of the class C, s and t among them
pub data Linked (N : Net) (C : ℕ → Type 0) : ℕ → ℕ → Type 0 where
  stay : {s : ℕ} → C s → Linked N C s s
  goes : {s t : ℕ} (d : ℕ) → d < 4 → C s → Linked N C (near N s d) t → Linked N C s t
  comes : {s t : ℕ} (u d : ℕ) → d < 4 → near N u d ≡ s → C s → Linked N C u t → Linked N C s t

pub record LinkedRooms (N : Net) (first : ℕ) (ids : List ℕ) (max_region : ℕ) : Type 0 where
  pub size : length ids ≡ spans N
  pub bare : (s : ℕ) → area_of N s ≡ 0 → Bears ids 0 s
  pub one : (k s t : ℕ) → Plain k → Bears ids k s → Bears ids k t → area_of N s ≡ area_of N t
  pub join : (k s t : ℕ) → Plain k → Bears ids k s → Bears ids k t → Linked N (Bears ids k) s t
  pub used : (k s : ℕ) → Plain k → Bears ids k s → (first ≤ k) × (k < max_region)
  pub borne : (k : ℕ) → first ≤ k → k < max_region → Plain k × ((s : ℕ) × (s < spans N) × Bears ids k s)
