-- "Exactly one reason applies": the six, each where it is the first; and what a span's id is on its way from growth to the answer.
use Rattle.std.specs.Prelude.{ℕ, suc, ◌≤◌, ◌<◌, ◌≡◌, List, length, get_or}
use Rattle.rules.specs.Field.{Field, none}
use Rattle.rules.specs.Growth.{grown}
use Rattle.rules.specs.Records.{Rec, at, records}
use Rattle.rules.specs.Filter.{filtered}
use Rattle.rules.specs.Merge.{merged}
use Rattle.rules.specs.Numbering.{dense, Regions, regions, formed}
use Rattle.rules.specs.Outcomes.{Sizes}
use Rattle.rules.specs.Reasons.{story}

-- "its flood id": the id of span s as growth leaves it
abbrev pub grown_id : Field → List ℕ → ℕ → Sizes → ℕ → ℕ
grown_id F dist most z s = get_or (grown F dist most z.border).ids s 0

-- the records as the filter leaves them, and as the merge does
abbrev pub kept_records : Field → List ℕ → ℕ → Sizes → List Rec
kept_records F dist most z = filtered z.least (records F (grown F dist most z.border).ids (grown F dist most z.border).next)

abbrev pub last_records : Field → List ℕ → ℕ → Sizes → List Rec
last_records F dist most z = merged z.merge (suc (length (kept_records F dist most z))) (kept_records F dist most z)

-- the result of that very build, and the final id of span s in the dense form
abbrev pub built : Field → List ℕ → ℕ → Sizes → Regions
built F dist most z = regions F z.least z.merge (grown F dist most z.border).ids (grown F dist most z.border).next

abbrev pub final_id : Field → List ℕ → ℕ → Sizes → ℕ → ℕ
final_id F dist most z s = get_or (formed dense (built F dist most z)).ids s 0

-- "One first reason, in this order: 1 not walkable (area 0); 2 painted (strip 1 to 4); 3 never reached (grown id 0); 4 removed by the filter; 5 flooded;
-- 6 expanded.": reason n is the first that applies to span s, so that none before it does
pub data First (F : Field) (dist : List ℕ) (most : ℕ) (z : Sizes) (s n : ℕ) : Type 0 where
  bare : n ≡ 1 → get_or F.area s 256 ≡ 0 → First F dist most z s n
  strip : n ≡ 2 → (get_or F.area s 256 ≡ 0 → ⊥) → 0x8000 ≤ grown_id F dist most z s → First F dist most z s n
  missed : n ≡ 3 → (get_or F.area s 256 ≡ 0 → ⊥) → grown_id F dist most z s < 0x8000 → grown_id F dist most z s ≡ 0 → First F dist most z s n
  small : n ≡ 4 → (get_or F.area s 256 ≡ 0 → ⊥) → grown_id F dist most z s < 0x8000 → (grown_id F dist most z s ≡ 0 → ⊥)
      → (at (kept_records F dist most z) (grown_id F dist most z s)).id ≡ 0 → First F dist most z s n
  flood : n ≡ 5 → (get_or F.area s 256 ≡ 0 → ⊥) → grown_id F dist most z s < 0x8000 → (grown_id F dist most z s ≡ 0 → ⊥)
      → ((at (kept_records F dist most z) (grown_id F dist most z s)).id ≡ 0 → ⊥) → (story F dist most z.border s).from ≡ none → First F dist most z s n
  spread : n ≡ 6 → (get_or F.area s 256 ≡ 0 → ⊥) → grown_id F dist most z s < 0x8000 → (grown_id F dist most z s ≡ 0 → ⊥)
      → ((at (kept_records F dist most z) (grown_id F dist most z s)).id ≡ 0 → ⊥) → ((story F dist most z.border s).from ≡ none → ⊥) → First F dist most z s n
