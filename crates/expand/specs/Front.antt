-- Rounds by their frontier. A flag is up for each span that stands in the stack with no id and is not noted as a change; changes of all rounds stand
-- in one queue.
use Rattle.std.specs.Prelude.{◌≡◌, Bool, true, false, ◌⊎◌, List, map, ℕ, ◌+◌, ◌-◌, ◌*◌, ◌≤◌, ◌<◌, length, get_or, take}
use Rattle.rules.specs.Field.{none}
use Rattle.rules.specs.Net.{Net, near}
use Rattle.rules.specs.Base.{any}
use Rattle.rules.specs.Growth.{Marks, finds, takes, strays, Spread, rounds, rounds_stray}
use Rattle.rules.specs.Refusals.{most_spans}
use Rattle.laws.proofs.NextId.{zeros}
use Rattle.space.specs.Space.{Clear}
use Rattle.net.specs.Table.{net_at, last_place}
use Rattle.flood.specs.Stack.{marks_at}
use Rattle.expand.specs.Layout.{fresh, list_at, changes_at, applied, Sizes, Entries, Ok, Using}

-- the flag of span x is up
abbrev pub Up : ℕ → ℕ → List ℕ → ℕ → Type 0
Up n e ws x = get_or ws (e + 3 * n + x) 0 ≡ 0 → ⊥

-- x stands in the stack
pub record Entry (ws : List ℕ) (a fill x : ℕ) : Type 0 where
  pub at : ℕ
  pub below : at < fill
  pub is : get_or ws (a + at) 0 ≡ x

-- x stands among the changes lo .. hi
pub record Queued (ws : List ℕ) (e lo hi x : ℕ) : Type 0 where
  pub at : ℕ
  pub from : lo ≤ at
  pub to : at < hi
  pub is : get_or ws (e + 3 * at) 0 ≡ x

-- the change of span s that the rule makes in marks m
pub record Found (N : Net) (m : Marks) (n s id far : ℕ) : Type 0 where
  pub span : s < n
  pub found : finds N m s ≡ true
  pub id_is : id ≡ (takes N m s).id
  pub far_is : far ≡ (takes N m s).far

-- change i
abbrev pub FoundAt : Net → Marks → ℕ → ℕ → List ℕ → ℕ → Type 0
FoundAt N m n e ws i = Found N m n (get_or ws (e + 3 * i) 0) (get_or ws (e + 3 * i + 1) 0) (get_or ws (e + 3 * i + 2) 0)

-- ---------------------------------------------------------------- tries

-- what a try is lent besides the net: with k changes noted, there is room for one of every span whose flag is up
pub record Board (n e b k : ℕ) (ids ws : List ℕ) : Type 0 where
  pub few : n ≤ most_spans
  pub idents : length ids ≡ n
  pub low : n ≤ e
  pub past : e + 4 * n ≤ b
  pub room : b + 4 * n ≤ length ws
  pub close : b ≤ last_place
  pub most : k ≤ n
  pub free : k ≤ zeros (list_at ws (e + 3 * n) n)

-- a span whose flag is up computes a sum above 65,535
pub record Strayed (area : List ℕ) (e b : ℕ) (ids ws : List ℕ) : Type 0 where
  pub at : ℕ
  pub span : at < length area
  pub up : Up (length area) e ws at
  pub strays : strays (net_at b area ws) (marks_at (length area) ids ws) at ≡ true

-- what tries leave: a flag falls only as its span is noted, with what the rule finds for it; o tells whether a sum exceeded 65,535 before, o' after
pub record Moved (area : List ℕ) (e b : ℕ) (ids ws : List ℕ) (k : ℕ) (o : Bool) (ws' : List ℕ) (k' : ℕ) (o' : Bool) : Type 0 where
  pub size : length ws' ≡ length ws
  pub marks : take (length area) ws' ≡ take (length area) ws
  pub more : k ≤ k'
  pub free : k' ≤ zeros (list_at ws' (e + 3 * length area) (length area))
  pub kept : (x : ℕ) → length area ≤ x → x < e + 3 * k → get_or ws' x 0 ≡ get_or ws x 0
  pub past : (x : ℕ) → e + 3 * k' ≤ x → x < e + 3 * length area → get_or ws' x 0 ≡ get_or ws x 0
  pub beyond : (x : ℕ) → e + 4 * length area ≤ x → get_or ws' x 0 ≡ get_or ws x 0
  pub down : (x : ℕ) → x < length area → Up (length area) e ws' x → Up (length area) e ws x
  pub fall : (x : ℕ) → x < length area → Up (length area) e ws x → Up (length area) e ws' x ⊎ Queued ws' e k k' x
  pub inside : (i : ℕ) → k ≤ i → i < k' → get_or ws' (e + 3 * i) 0 < length area
  pub lit : (i : ℕ) → k ≤ i → i < k' → Up (length area) e ws (get_or ws' (e + 3 * i) 0)
  pub right : (i : ℕ) → k ≤ i → i < k' → FoundAt (net_at b area ws) (marks_at (length area) ids ws) (length area) e ws' i
  pub stray : o' ≡ true → (o ≡ true) ⊎ Strayed area e b ids ws
  pub still : o' ≡ false → o ≡ false
  pub calm : o' ≡ false → (i : ℕ) → k ≤ i → i < k' → strays (net_at b area ws) (marks_at (length area) ids ws) (get_or ws' (e + 3 * i) 0) ≡ false

-- span x is tried: if its flag is still up, it finds nothing, and with o' false computes no sum above 65,535
pub record Tried (area : List ℕ) (e b : ℕ) (ids ws ws' : List ℕ) (o' : Bool) (x : ℕ) : Type 0 where
  pub calm : o' ≡ false → x < length area → Up (length area) e ws' x → strays (net_at b area ws) (marks_at (length area) ids ws) x ≡ false
  pub cold : x < length area → Up (length area) e ws' x → finds (net_at b area ws) (marks_at (length area) ids ws) x ≡ false

-- the neighbours of span s in the first d directions are tried
pub record Sides (area : List ℕ) (e b : ℕ) (ids ws ws' : List ℕ) (o' : Bool) (s d : ℕ) : Type 0 where
  pub few : d ≤ 4
  pub tried : (k : ℕ) → k < d → Tried area e b ids ws ws' o' (near (net_at b area ws) s k)

-- all neighbours of the changes lo .. i are tried
pub record Beside (area : List ℕ) (e b : ℕ) (ids ws ws' : List ℕ) (o' : Bool) (lo i : ℕ) : Type 0 where
  pub tried : (j : ℕ) → lo ≤ j → j < i → Sides area e b ids ws ws' o' (get_or ws (e + 3 * j) 0) 4

-- each change lo .. hi is of a span
pub record Spans (n e lo hi : ℕ) (ws : List ℕ) : Type 0 where
  pub order : lo ≤ hi
  pub span : (i : ℕ) → lo ≤ i → i < hi → get_or ws (e + 3 * i) 0 < n

-- the entries before j are tried
pub record Entered (area : List ℕ) (a e b : ℕ) (ids ws ws' : List ℕ) (o' : Bool) (j : ℕ) : Type 0 where
  pub tried : (i : ℕ) → i < j → Tried area e b ids ws ws' o' (get_or ws (a + i) 0)

-- ---------------------------------------------------------------- writes

-- the changes lo .. i are made
pub record Writing (n e lo hi : ℕ) (ids₀ ws₀ ids ws : List ℕ) (i : ℕ) : Type 0 where
  pub order : lo ≤ i
  pub within : i ≤ hi
  pub size₁ : length ids ≡ length ids₀
  pub size₂ : length ws ≡ length ws₀
  pub kept : (x : ℕ) → n ≤ x → get_or ws x 0 ≡ get_or ws₀ x 0
  pub marks : marks_at n ids ws ≡ applied (changes_at ws₀ (e + 3 * lo) (i - lo)) (marks_at n ids₀ ws₀)

-- ---------------------------------------------------------------- flags of entries

-- with the flags from f on, those of the entries before j are v
pub record Flagging (n a f fill v : ℕ) (ws₀ ws : List ℕ) (j : ℕ) : Type 0 where
  pub within : j ≤ fill
  pub size : length ws ≡ length ws₀
  pub same : (x : ℕ) → (x < f) ⊎ (f + n ≤ x) → get_or ws x 0 ≡ get_or ws₀ x 0
  pub done : (i : ℕ) → i < j → (get_or ws₀ (a + i) 0 ≡ none → ⊥) → get_or ws (f + get_or ws₀ (a + i) 0) 0 ≡ v
  pub else : (x : ℕ) → x < n → (get_or ws (f + x) 0 ≡ get_or ws₀ (f + x) 0) ⊎ Entry ws₀ a j x

-- before the rounds, in one walk: of the entries before j those that have an id are marked used, with which alone the workspace is `used`, and the flags
-- of the others are up
pub record Entering (a f fill : ℕ) (ids ws₀ ws : List ℕ) (j : ℕ) : Type 0 where
  pub used : List ℕ
  pub marked : Using (length ids) a fill ids ws₀ used j
  pub raised : Flagging (length ids) a f fill 1 used ws j

-- after them: the flags of the entries before j are down, with which alone the workspace is `dim`, and those that have an id are marked used
pub record Leaving (a f fill : ℕ) (ids ws₀ ws : List ℕ) (j : ℕ) : Type 0 where
  pub dim : List ℕ
  pub lowered : Flagging (length ids) a f fill 0 ws₀ dim j
  pub marked : Using (length ids) a fill ids dim ws j

-- ---------------------------------------------------------------- rounds

-- the stack is marked once, at the end; until then an entry is used if it has an id
unfoldable pub front_of : ℕ → ℕ → ℕ → List ℕ → List ℕ → Spread
front_of n a fill ids ws = record { marks = marks_at n ids ws; stack = map (fresh ids) (list_at ws a fill) }

-- flags are set: up for the spans of the stack, none of which has an id
pub record Lit (n a e b fill : ℕ) (ids ws : List ℕ) : Type 0 where
  pub sizes : Sizes n a e b ids ws
  pub entries : Entries n a fill ws
  pub clear : Clear e (e + 3 * n) ws
  pub ok : Ok n (front_of n a fill ids ws)
  pub bare : (x : ℕ) → x < n → Entry ws a fill x → get_or ids x 0 ≡ 0
  pub only : (x : ℕ) → x < n → Up n e ws x → Entry ws a fill x
  pub up : (x : ℕ) → x < n → Entry ws a fill x → Up n e ws x

-- where the sections lie, and how high the stack is
pub record Begun (n a e b fill : ℕ) (ids ws : List ℕ) : Type 0 where
  pub sizes : Sizes n a e b ids ws
  pub filled : fill ≤ n

-- what the next round changes is noted in lo .. hi, and flags are up for what is left of the stack after it
pub record Front (N : Net) (n a e fill : ℕ) (ids ws : List ℕ) (lo hi : ℕ) : Type 0 where
  pub ok : Ok n (front_of n a fill ids ws)
  pub right : (i : ℕ) → lo ≤ i → i < hi → FoundAt N (marks_at n ids ws) n e ws i
  pub entry : (i : ℕ) → lo ≤ i → i < hi → Entry ws a fill (get_or ws (e + 3 * i) 0) × (get_or ids (get_or ws (e + 3 * i) 0) 0 ≡ 0)
  pub cold : (x : ℕ) → x < n → Up n e ws x → Entry ws a fill x × (get_or ids x 0 ≡ 0) × (finds N (marks_at n ids ws) x ≡ false)
  pub all : (x : ℕ) → x < n → Entry ws a fill x → get_or ids x 0 ≡ 0 → Up n e ws x ⊎ Queued ws e lo hi x

-- o tells whether a sum exceeds 65,535 in all rounds, as far as they have come
pub record Watched (N : Net) (most : ℕ) (p₀ : Spread) (o : Bool) (more : ℕ) (p : Spread) : Type 0 where
  pub yes : o ≡ true → rounds_stray N most p₀ ≡ true
  pub no : o ≡ false → rounds_stray N most p₀ ≡ rounds_stray N more p
  pub calm : o ≡ false → any (strays N p.marks) p.stack ≡ false

-- the rounds that are still to come give what all of them give
pub record Going (area : List ℕ) (a e b fill most : ℕ) (ids₀ ws₀ ids ws : List ℕ) (lo hi : ℕ) (o : Bool) (more : ℕ) : Type 0 where
  pub some : 0 < more
  pub order : lo ≤ hi
  pub size₁ : length ids ≡ length ids₀
  pub size₂ : length ws ≡ length ws₀
  pub kept : (x : ℕ) → length area ≤ x → x < e → get_or ws x 0 ≡ get_or ws₀ x 0
  pub beyond : (x : ℕ) → e + 4 * length area ≤ x → get_or ws x 0 ≡ get_or ws₀ x 0
  pub rest : (x : ℕ) → e + 3 * hi ≤ x → x < e + 3 * length area → get_or ws x 0 ≡ 0
  pub free : hi ≤ zeros (list_at ws (e + 3 * length area) (length area))
  pub front : Front (net_at b area ws₀) (length area) a e fill ids ws lo hi
  pub same : rounds (net_at b area ws₀) more (front_of (length area) a fill ids ws) ≡ rounds (net_at b area ws₀) most (front_of (length area) a fill ids₀ ws₀)
  pub watched : Watched (net_at b area ws₀) most (front_of (length area) a fill ids₀ ws₀) o more (front_of (length area) a fill ids ws)

-- what the rounds leave, with k changes in the queue
pub record Gone (area : List ℕ) (a e b fill most : ℕ) (ids₀ ws₀ ids ws : List ℕ) (k : ℕ) (o : Bool) : Type 0 where
  pub size₁ : length ids ≡ length ids₀
  pub size₂ : length ws ≡ length ws₀
  pub kept : (x : ℕ) → length area ≤ x → x < e → get_or ws x 0 ≡ get_or ws₀ x 0
  pub beyond : (x : ℕ) → e + 4 * length area ≤ x → get_or ws x 0 ≡ get_or ws₀ x 0
  pub few : k ≤ length area
  pub rest : (x : ℕ) → e + 3 * k ≤ x → x < e + 3 * length area → get_or ws x 0 ≡ 0
  pub only : (x : ℕ) → x < length area → Up (length area) e ws x → Entry ws a fill x
  pub ok : Ok (length area) (front_of (length area) a fill ids ws)
  pub same : front_of (length area) a fill ids ws ≡ rounds (net_at b area ws₀) most (front_of (length area) a fill ids₀ ws₀)
  pub stray : o ≡ rounds_stray (net_at b area ws₀) most (front_of (length area) a fill ids₀ ws₀)

-- ---------------------------------------------------------------- the end

-- flags of entries and the k changes are zeroed, and the stack is marked
pub record Settled (n a e fill k : ℕ) (ids ws ws' : List ℕ) : Type 0 where
  pub size : length ws' ≡ length ws
  pub marks : take n ws' ≡ take n ws
  pub stack : list_at ws' a fill ≡ map (fresh ids) (list_at ws a fill)
  pub queue : (x : ℕ) → e ≤ x → x < e + 3 * k → get_or ws' x 0 ≡ 0
  pub rest : (x : ℕ) → (x < a) ⊎ (a + fill ≤ x) → (x < e) ⊎ (e + 3 * k ≤ x) → (x < e + 3 * n) ⊎ (e + 4 * n ≤ x) → get_or ws' x 0 ≡ get_or ws x 0
  pub down : (i : ℕ) → i < fill → (get_or ws (a + i) 0 ≡ none → ⊥) → get_or ws' (e + 3 * n + get_or ws (a + i) 0) 0 ≡ 0
  pub else : (x : ℕ) → x < n → (get_or ws' (e + 3 * n + x) 0 ≡ get_or ws (e + 3 * n + x) 0) ⊎ Entry ws a fill x
