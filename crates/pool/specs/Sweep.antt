-- Lists renamed where they are, some of them: those of the records that M tells are among them.
use Rattle.std.specs.Prelude.{ℕ, ◌+◌, ◌≤◌, ◌<◌, ◌≡◌, ◌⊎◌, true, false, List, length, get_or}
use Rattle.rules.specs.Records.{has}
use Rattle.table.specs.Map.{floor_parts_at}
use Rattle.table.specs.View.{list_start, list_end, list_in}
use Rattle.pool.specs.Pool.{new_list, Passed, Rows, Free}
use Rattle.pool.specs.Links.{links_end, Linked, Mention}
use Rattle.pool.specs.Bearers.{Bearers, Borne}

pub record SweptOf (m i n old new : ℕ) (M : ℕ → Type 0) (ws ws' : List ℕ) : Type 0 where
  -- what a list is to become it was to become at first
  pub same : (x : ℕ) → x < m → (x ≡ i → ⊥) → (x ≡ n → ⊥) → new_list old new (get_or ws x 0) (list_in ws' m x) ≡ new_list old new (get_or ws x 0) (list_in ws m x)
  -- a list of M, and one that held no old, holds none now
  pub met : (x : ℕ) → x < m → (x ≡ i → ⊥) → (x ≡ n → ⊥) → (get_or ws x 0 ≡ 0 → ⊥) → M x → has (list_in ws' m x) old ≡ false
  pub none : (x : ℕ) → x < m → (x ≡ i → ⊥) → (x ≡ n → ⊥) → has (list_in ws m x) old ≡ false → has (list_in ws' m x) old ≡ false
  pub starts : (x : ℕ) → x < m → list_start ws' m x ≡ list_start ws m x
  pub order : (x : ℕ) → x < m → list_start ws m x ≤ list_end ws' m x
  pub upto : (x : ℕ) → x < m → list_end ws' m x ≤ list_end ws m x
  pub stops : (x : ℕ) → x < m → (x ≡ i) ⊎ (x ≡ n) → list_end ws' m x ≡ list_end ws m x
  pub kept : (j : ℕ) → Free m i n j ws → get_or ws' j 0 ≡ get_or ws j 0

-- one of the first k places named y, and the record that stands beside it, from o on, bears x
pub record NamedBy (m k y o : ℕ) (named : ℕ → ℕ) (ws : List ℕ) (x : ℕ) : Type 0 where
  pub place : ℕ
  pub inside : place < k
  pub names : named place ≡ y
  pub beside : get_or ws (o + place) 0 < m
  pub bears : get_or ws (get_or ws (o + place) 0) 0 ≡ x

-- lists that can be reached through linked places: they lie apart from the records beside the places, from o on, and before the links
pub record Reached (m i n p o from : ℕ) (ws : List ℕ) : Type 0 where
  pub rows : Rows m ws
  pub ids : (r : ℕ) → r < m → get_or ws r 0 < m
  pub places : ℕ
  pub few : places ≤ p
  pub named : ℕ → ℕ
  pub linked : Linked m p from places named ws
  pub into : links_end m p from ≤ length ws
  pub past : floor_parts_at m ≤ o
  pub before : o + p ≤ from
  pub apart : (x : ℕ) → x < m → (x ≡ i → ⊥) → (x ≡ n → ⊥) → (list_end ws m x ≤ o) ⊎ (o + p ≤ list_start ws m x)
  pub upto : (x : ℕ) → x < m → (x ≡ i → ⊥) → (x ≡ n → ⊥) → list_end ws m x ≤ from

-- the lists of the records beside the places that named y are renamed, however the places are linked
pub record RenamedFor (m i n y old new p o from : ℕ) (ws ws' : List ℕ) : Type 0 where
  pub each : (k : ℕ) (named : ℕ → ℕ) → k ≤ p → Linked m p from k named ws → SweptOf m i n old new (NamedBy m k y o named ws) ws ws'

-- the list of the record that bears what the record at s bears, if there is one at s
pub record MetBeside (m s i n old new : ℕ) (ws ws' : List ℕ) : Type 0 where
  pub nobody : m ≤ get_or ws s 0 → ws' ≡ ws
  pub passed : get_or ws s 0 < m → Passed m (get_or ws (get_or ws s 0) 0) i n old new ws ws'

-- linked places mention old wherever a live record other than i and n lists it
pub record Searched (m i n old p o from : ℕ) (ws : List ℕ) : Type 0 where
  pub reached : Reached m i n p o from ws
  pub bearers : Bearers m ws
  pub borne : Borne m old ws
  pub tells : (x : ℕ) → x < m → (x ≡ i → ⊥) → (x ≡ n → ⊥) → (get_or ws x 0 ≡ 0 → ⊥) → has (list_in ws m x) old ≡ true
      → Mention m reached.places o (λ y. y) reached.named ws x old
