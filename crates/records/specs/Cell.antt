-- The other spans of a cell, as the code goes through them.
use Rattle.std.specs.Prelude.{◌≡◌, ◌⊎◌, Bool, true, false, not, List, map, ℕ, zero, suc, ◌+◌, ◌-◌, ◌≤◌, ◌<◌, length, get_or, take, eqb, ltb}
use Rattle.rules.specs.Base.{◌and◌, ◌or◌, when◌then◌else◌, keep, tab}
use Rattle.rules.specs.Field.{none}
use Rattle.rules.specs.Growth.{plain}
use Rattle.rules.specs.Records.{has, once, once_all}
use Rattle.rules.specs.Refusals.{most_spans}
use Rattle.records.specs.declared.cell.Spans.{Spans}

unfoldable pub twin : List ℕ → ℕ → ℕ → ℕ → Bool
twin ids t s own = not (eqb t s) and eqb own (get_or ids t 0)

-- own at one of the n spans from t on, other than s
unfoldable pub twins : List ℕ → ℕ → ℕ → ℕ → ℕ → Bool
twins ids s own zero t = false
twins ids s own (suc n) t = twin ids t s own or twins ids s own n (t + 1)

-- the ids of the n spans from t on, other than s
unfoldable pub others_from : List ℕ → ℕ → ℕ → ℕ → List ℕ
others_from ids s n t = keep plain (map (λ t. get_or ids t 0) (keep (λ t. not (eqb t s)) (tab n t (λ t. t))))

-- span t joins
unfoldable pub join_one : List ℕ → ℕ → ℕ → List ℕ → List ℕ
join_one ids s t l = when not (eqb t s) and plain (get_or ids t 0) then once l (get_or ids t 0) else l

-- p is a place of r among the first n, or n where r is none of them
pub record Found (l : List ℕ) (n r p : ℕ) : Type 0 where
  pub low : p ≤ n
  pub here : p < n → r ≡ get_or l p 0
  pub there : ltb p n ≡ has (take n l) r

-- what joining leaves: the list l, from 0 on
pub record JoinedOne (l : List ℕ) (len : ℕ) (part' : List ℕ) (k : ℕ) : Type 0 where
  pub same : take k part' ≡ l
  pub low : len ≤ k
  pub high : k ≤ len + 1
  pub within : k ≤ length part'

-- the ids of the other spans of a cell join
pub record JoinedAll (l : List ℕ) (len : ℕ) (part' : List ℕ) (k : ℕ) : Type 0 where
  pub same : take k part' ≡ l
  pub within : k ≤ length part'

-- a cell's spans are among those that have ids; an empty one has no first span
pub record Lies (ids : List ℕ) (cell : Spans) : Type 0 where
  pub inside : 0 < cell.size → cell.from + cell.size ≤ length ids

-- the spans of two cells have the same ids, layer by layer
pub record Alike (ids : List ℕ) (a b : Spans) : Type 0 where
  pub size : a.size ≡ b.size
  pub same : (j : ℕ) → j < b.size → get_or ids (a.from + j) 0 ≡ get_or ids (b.from + j) 0

-- span s is one of a cell's
pub record Within (ids : List ℕ) (s : ℕ) (cell : Spans) : Type 0 where
  pub few : cell.size ≤ 63
  pub inside : cell.from + cell.size ≤ length ids
  pub lower : cell.from ≤ s
  pub upper : s < cell.from + cell.size

-- a cell that begins at `prior` and has as many spans
abbrev pub as_many_from : ℕ → Spans → Spans
as_many_from prior cell = record { from = prior; size = cell.size }

-- there is a prior cell
abbrev pub Some : ℕ → Type 0
Some prior = prior ≡ none → ⊥

-- where to look back to: this cell itself, if it is like the last one or has few spans; or the last one, if it has as many
pub record LooksTo (ids : List ℕ) (last cell : Spans) (prior : ℕ) : Type 0 where
  pub seen : Some prior → ((prior ≡ cell.from) × (1 < cell.size → Alike ids last cell)) ⊎ ((prior ≡ last.from) × (last.size ≡ cell.size))

-- a prior cell has as many spans, and in the layer of span s its id
pub record Near (ids : List ℕ) (s : ℕ) (cell prior : Spans) : Type 0 where
  pub size : prior.size ≡ cell.size
  pub same : get_or ids (prior.from + (s - cell.from)) 0 ≡ get_or ids s 0

-- where the id of span t, another than s, is that of span u, l has it, if it is one that joins
pub record Unchanged (ids l : List ℕ) (s t u : ℕ) : Type 0 where
  pub spans : length ids ≤ most_spans
  pub inside : u < length ids
  pub listed : (t ≡ s → ⊥) → get_or ids t 0 ≡ get_or ids u 0 → plain (get_or ids t 0) ≡ true → has l (get_or ids t 0) ≡ true

-- what the list l of span s has from a prior cell to which it is near: the ids of the other layers that have there the id that they have in its cell
pub record Prior (ids l : List ℕ) (s : ℕ) (cell prior : Spans) : Type 0 where
  pub listed : Near ids s cell prior → (j : ℕ) → j < cell.size → (cell.from + j ≡ s → ⊥) → get_or ids (cell.from + j) 0 ≡ get_or ids (prior.from + j) 0
      → plain (get_or ids (cell.from + j) 0) ≡ true → has l (get_or ids (cell.from + j) 0) ≡ true

-- s is one of the size spans from `from` on, and there is room for the others
pub record Roomy (ids part : List ℕ) (s from size len : ℕ) : Type 0 where
  pub few : size ≤ 63
  pub spans : length ids ≤ most_spans
  pub inside : from + size ≤ length ids
  pub lower : from ≤ s
  pub upper : s < from + size
  pub room : len + size ≤ length part + 1

-- after j of them
pub record Joining (ids part₀ : List ℕ) (s from size len : ℕ) (part : List ℕ) (k j : ℕ) : Type 0 where
  pub low : j ≤ size
  pub length' : length part ≡ length part₀
  pub within : k ≤ length part
  pub keeps : (v : ℕ) → has (take len part₀) v ≡ true → has (take k part) v ≡ true
  pub same : once_all (take len part₀) (others_from ids s size from) ≡ once_all (take k part) (others_from ids s (size - j) (from + j))
  pub room₁ : from + j ≤ s → k + (size - j) ≤ length part + 1
  pub room₂ : s < from + j → k + (size - j) ≤ length part
