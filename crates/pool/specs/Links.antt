-- The places of the pool that name an id, linked: from each to the one before it that named the same id when the links were made, and the last of them from
-- the id itself. A place is counted from 1, so that 0 is none. Links stand in two halves, low and p numbers further on high, from a place `from` on; past them, as
-- wide as the records are many, the last place of each id.
use Rattle.std.specs.Prelude.{ℕ, zero, suc, ◌+◌, ◌*◌, ◌≤◌, ◌<◌, ◌≡◌, true, List, length, get_or, eqb}
use Rattle.rules.specs.Base.{when◌then◌else◌}
use Rattle.rules.specs.Records.{has}
use Rattle.space.specs.Space.{Frame}
use Rattle.table.specs.Map.{wide_end}
use Rattle.table.specs.View.{wide, list_in, floors_end}

-- the last of the places before q that names r
unfoldable pub last_named : (ℕ → ℕ) → ℕ → ℕ → ℕ
last_named named r zero = 0
last_named named r (suc q) = when eqb (named q) r then suc q else last_named named r q

-- the place that place q is linked to
abbrev pub link_at : List ℕ → ℕ → ℕ → ℕ → ℕ
link_at ws p from q = wide ws p (from + q)

-- the last place of id r
abbrev pub last_at : List ℕ → ℕ → ℕ → ℕ → ℕ → ℕ
last_at ws m p from r = wide ws m (from + 2 * p + r)

abbrev pub links_end : ℕ → ℕ → ℕ → ℕ
links_end m p from = from + 2 * p + 2 * m

-- what the places from h on hold
abbrev pub held_from : List ℕ → ℕ → ℕ → ℕ
held_from ws h q = get_or ws (h + q) 0

-- the first k places are linked as they were named
pub record Linked (m p from k : ℕ) (named : ℕ → ℕ) (ws : List ℕ) : Type 0 where
  pub lasts : (r : ℕ) → r < m → last_at ws m p from r ≡ last_named named r k
  pub links : (q : ℕ) → q < k → named q < m → link_at ws p from q ≡ last_named named (named q) q

-- room for the links of the places from h up to top, past them
pub record LinkRoom (m p h top from : ℕ) (ws : List ℕ) : Type 0 where
  pub order : h ≤ top
  pub upto : top ≤ h + p
  pub past : h + p ≤ from
  pub into : links_end m p from ≤ length ws
  pub fits : p + 1 < wide_end

-- place q is linked: it is the last of the id that it holds, if that is a record's, and linked to the one that was
pub record LinkedOne (m p h from q : ℕ) (ws ws' : List ℕ) : Type 0 where
  pub nobody : m ≤ held_from ws h q → ws' ≡ ws
  pub link : held_from ws h q < m → link_at ws' p from q ≡ last_at ws m p from (held_from ws h q)
  pub last : held_from ws h q < m → last_at ws' m p from (held_from ws h q) ≡ q + 1
  pub links : (j : ℕ) → j < p → (j ≡ q → ⊥) → link_at ws' p from j ≡ link_at ws p from j
  pub lasts : (r : ℕ) → r < m → (r ≡ held_from ws h q → ⊥) → last_at ws' m p from r ≡ last_at ws m p from r
  pub kept : Frame from (links_end m p from) ws ws'

-- the links lie past both halves and all floors
pub record LinksPast (m p h o from : ℕ) (ws : List ℕ) : Type 0 where
  pub past : h + p ≤ from
  pub past' : o + p ≤ from
  pub into : links_end m p from ≤ length ws
  pub floors : (r : ℕ) → r < m → floors_end ws m r ≤ from

-- one of the first k places named a record that is r by now, and the record that stands beside it, from o on, is x by now; f says what an id is by now
pub record Mention (m k o : ℕ) (f named : ℕ → ℕ) (ws : List ℕ) (x r : ℕ) : Type 0 where
  pub place : ℕ
  pub inside : place < k
  pub names : named place < m
  pub is : f (get_or ws (named place) 0) ≡ r
  pub beside : get_or ws (o + place) 0 < m
  pub bears : f (get_or ws (get_or ws (o + place) 0) 0) ≡ x

-- a linked place mentions whatever a live record lists, if that is live too
pub record Mentions (m p o from : ℕ) (f : ℕ → ℕ) (ws : List ℕ) : Type 0 where
  pub places : ℕ
  pub few : places ≤ p
  pub named : ℕ → ℕ
  pub linked : Linked m p from places named ws
  pub listed : (x r : ℕ) → x < m → r < m → (get_or ws x 0 ≡ 0 → ⊥) → (r ≡ 0 → ⊥) → f (get_or ws r 0) ≡ r → has (list_in ws m x) r ≡ true
      → Mention m places o f named ws x r
