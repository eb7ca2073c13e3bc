-- Expansion over sections of one workspace: source distances at 0 .. n, the stack at a .. a + fill, the changes of all rounds at e .. e + 3n, three
-- numbers each, a flag for each span at e + 3n .. e + 4n, changes and flags zero when not in use, and the table of neighbours from b on.
use Rattle.std.specs.Prelude.{◌≡◌, ◌⊎◌, Bool, List, [], ◌∷◌, ◌++◌, map, ℕ, zero, suc, ◌+◌, ◌-◌, ◌*◌, ◌≤◌, ◌<◌, length, get_or, set, take, eqb}
use Rattle.rules.specs.Base.{◌and◌, when◌then◌else◌, tab, keep}
use Rattle.rules.specs.Field.{none}
use Rattle.rules.specs.Net.{Net}
use Rattle.rules.specs.Growth.{Marks, Taken, put, plain, walkable, finds, Spread}
use Rattle.rules.specs.Refusals.{most_spans}
use Rattle.laws.proofs.Basics.{All}
use Rattle.space.specs.Space.{Clear}
use Rattle.net.specs.Table.{net_at, last_place, Closed}
use Rattle.expand.specs.declared.look.Taken as code

-- ---------------------------------------------------------------- what the rules write inside of a round, by name

-- an entry after a round
unfoldable pub left : Net → Marks → ℕ → ℕ
left N m e = when finds N m e then none else e

-- an entry before the first: used if it has an id
unfoldable pub fresh : List ℕ → ℕ → ℕ
fresh ids e = when eqb (get_or ids e 0) 0 then e else none

-- what the code has of a find is the rule's
abbrev pub taken_of : code.Taken → Taken
taken_of t = record { id = t.id; far = t.far }

-- span a has the area own and a plain id
unfoldable pub offers : List ℕ → List ℕ → ℕ → ℕ → Bool
offers areas ids own a = eqb (get_or areas a 256) own and plain (get_or ids a 0)

-- the number of rounds: no limit at level 0, where each but the last uses up an entry
unfoldable pub most_at : ℕ → ℕ → ℕ
most_at level fill = when eqb level 0 then suc fill else 8

-- ---------------------------------------------------------------- the workspace

-- the k entries from a on
unfoldable pub list_at : List ℕ → ℕ → ℕ → List ℕ
list_at ws a zero = []
list_at ws a (suc k) = get_or ws a 0 ∷ list_at ws (a + 1) k

pub record Change : Type 0 where
  pub span : ℕ
  pub id : ℕ
  pub far : ℕ

-- the k changes from e on
unfoldable pub changes_at : List ℕ → ℕ → ℕ → List Change
changes_at ws e zero = []
changes_at ws e (suc k) = record { span = get_or ws e 0; id = get_or ws (e + 1) 0; far = get_or ws (e + 2) 0 } ∷ changes_at ws (e + 3) k

unfoldable pub applied : List Change → Marks → Marks
applied [] out = out
applied (c ∷ cs) out = applied cs (put out c.span c.id c.far)

-- the flag at i falls, and the change of span s is noted at c
unfoldable pub noted : ℕ → ℕ → ℕ → ℕ → ℕ → List ℕ → List ℕ
noted i c s id far ws = set (set (set (set ws i 0) c s) (c + 1) id) (c + 2) far

-- the flag of span s, with the flags from f on, is v, unless s is a used entry
unfoldable pub flagged : ℕ → ℕ → ℕ → List ℕ → List ℕ
flagged f s v ws = when eqb s none then ws else set ws (f + s) v

-- ---------------------------------------------------------------- what holds of the workspace

-- where the sections lie
pub record Sizes (n a e b : ℕ) (ids ws : List ℕ) : Type 0 where
  pub few : n ≤ most_spans
  pub idents : length ids ≡ n
  pub low : n ≤ a
  pub apart : a + n ≤ e
  pub past : e + 4 * n ≤ b
  pub room : b + 4 * n ≤ length ws
  pub close : b ≤ last_place

-- the section i .. z lies past the n source distances
pub record Past (n i z : ℕ) (ws : List ℕ) : Type 0 where
  pub few : n ≤ most_spans
  pub low : n ≤ i
  pub room : z ≤ length ws
  pub close : z ≤ last_place

-- what span s is lent to look around: a net, and source distances before it
pub record Sight (b : ℕ) (areas ids ws : List ℕ) (s : ℕ) : Type 0 where
  pub closed : Closed (net_at b areas ws)
  pub room : b + 4 * length areas ≤ length ws
  pub close : b ≤ last_place
  pub idents : length ids ≡ length areas
  pub low : length areas ≤ b
  pub span : s < length areas

-- an entry is used or a span
pub record Entries (n a fill : ℕ) (ws : List ℕ) : Type 0 where
  pub filled : fill ≤ n
  pub spans : (j : ℕ) → j < fill → (get_or ws (a + j) 0 ≡ none → ⊥) → get_or ws (a + j) 0 < n

-- but for source distances and the stack all is as it was
pub record Kept (n a fill : ℕ) (ws ws' : List ℕ) : Type 0 where
  pub size : length ws' ≡ length ws
  pub same : (x : ℕ) → n ≤ x → (x < a) ⊎ (a + fill ≤ x) → get_or ws' x 0 ≡ get_or ws x 0

-- what an expansion is lent besides the net, and gives back
pub record Given (n a e b fill : ℕ) (ids ws : List ℕ) : Type 0 where
  pub sizes : Sizes n a e b ids ws
  pub entries : Entries n a fill ws
  pub clear : Clear e (e + 4 * n) ws

-- ---------------------------------------------------------------- what holds between rounds

-- an unused entry is a span with no id
abbrev pub Unheld : ℕ → List ℕ → ℕ → Type 0
Unheld n ids s = (s ≡ none → ⊥) → (s < n) × (get_or ids s 0 ≡ 0)

pub record Ok (n : ℕ) (p : Spread) : Type 0 where
  pub idents : length p.marks.ids ≡ n
  pub entries : All (Unheld n p.marks.ids) p.stack

-- ---------------------------------------------------------------- the whole

-- j entries of the stack are looked at: those that have an id are marked used
pub record Using (n a fill : ℕ) (ids ws₀ ws : List ℕ) (j : ℕ) : Type 0 where
  pub within : j ≤ fill
  pub size : length ws ≡ length ws₀
  pub marks : take n ws ≡ take n ws₀
  pub stack : map (fresh ids) (list_at ws₀ a fill) ≡ list_at ws a j ++ map (fresh ids) (list_at ws (a + j) (fill - j))
  pub unseen : (x : ℕ) → (x < a) ⊎ (a + j ≤ x) → get_or ws x 0 ≡ get_or ws₀ x 0

-- ---------------------------------------------------------------- the last expansion's stack

-- walkable, with no id
abbrev pub vacant : List ℕ → List ℕ → ℕ → Bool
vacant areas ids s = walkable areas s and eqb (get_or ids s 0) 0

-- span s goes to place i
unfoldable pub push_at : List ℕ → List ℕ → ℕ → ℕ → List ℕ → List ℕ
push_at areas ids s i ws = when vacant areas ids s then set ws i s else ws

unfoldable pub fill_at : List ℕ → List ℕ → ℕ → ℕ → ℕ
fill_at areas ids s fill = when vacant areas ids s then fill + 1 else fill

-- s spans of n are looked at, and fill of them stacked at n
pub record Filling (n : ℕ) (areas ids ws₀ ws : List ℕ) (s fill : ℕ) : Type 0 where
  pub within : s ≤ n
  pub few : fill ≤ s
  pub size : length ws ≡ length ws₀
  pub marks : take n ws ≡ take n ws₀
  pub stack : keep (λ x. vacant areas ids x) (tab n 0 (λ x. x)) ≡ list_at ws n fill ++ keep (λ x. vacant areas ids x) (tab (n - s) s (λ x. x))
  pub spans : (j : ℕ) → j < fill → get_or ws (n + j) 0 < n
  pub unseen : (x : ℕ) → n + fill ≤ x → get_or ws x 0 ≡ get_or ws₀ x 0

-- what the last expansion is lent besides the net
pub record Last (n e b : ℕ) (ids ws : List ℕ) : Type 0 where
  pub sizes : Sizes n n e b ids ws
  pub stack : Clear n (n + n) ws
  pub clear : Clear e (e + 4 * n) ws
