-- What growth does, as a log: each step of the plain rules (Growth) with all that it began with, the latest first.
-- The log is what happened: replayed it gives the grown ids (`log_replays`), and each step begins with what the step before it left (`log_is_growth`).
use Rattle.std.specs.Prelude.{ℕ, zero, suc, ◌+◌, ◌*◌, ◌-◌, ◌/◌, ◌%◌, ◌≤◌, ◌<◌, ◌≡◌, true, false, not, ◌⊎◌, List, [], ◌∷◌, map, length, get_or, eqb}
use Rattle.rules.specs.Base.{◌and◌, when◌then◌else◌, upto, any}
use Rattle.rules.specs.Field.{Field, none}
use Rattle.rules.specs.Net.{Net, net_of, spans, near, corner, area_of}
use Rattle.rules.specs.Growth.{Marks, id_of, put, painted, first_id, blank, finds, Spread, round, expand}
use Rattle.rules.specs.Growth.{Seed, Flow, sees, objects, visit, flood, Turn, loaded, turn}
use Rattle.rooms.specs.Rooms.{Plain}

-- a round of an expansion that changes something; a flood that begins at a span; a flood that visits a span, which is off its stack
pub data Event : Type 0 where
  rounded : Spread → Event
  seeded : Seed → ℕ → Marks → Event
  popped : Seed → ℕ → Flow → Event

-- ---------------------------------------------------------------- the log, from l on

unfoldable pub rounds_log : Net → ℕ → Spread → List Event → List Event
rounds_log N zero p l = l
rounds_log N (suc k) p l =
    let rest = rounds_log N k (round N p) (rounded p ∷ l) in
    when any (finds N p.marks) p.stack then rest else l

unfoldable pub expand_log : Net → ℕ → Marks → List ℕ → List Event → List Event
expand_log N level m es l =
    rounds_log N (when eqb level 0 then suc (length es) else 8)
    (record { marks = m; stack = map (λ e. when eqb (id_of m e) 0 then e else none) es }) l

unfoldable pub flow_log : Net → List ℕ → Seed → ℕ → List ℕ → Marks → ℕ → List Event → List Event
flow_log N dist q zero todo m n l = l
flow_log N dist q (suc k) [] m n l = l
flow_log N dist q (suc k) (c ∷ cs) m n l =
    let f = visit N dist q c (record { todo = cs; marks = m; count = n }) in
    flow_log N dist q k f.todo f.marks f.count (popped q c (record { todo = cs; marks = m; count = n }) ∷ l)

unfoldable pub flood_log : Net → List ℕ → ℕ → ℕ → Marks → ℕ → List Event → List Event
flood_log N dist level id m s l =
    flow_log N dist (record { area = area_of N s; id = id; limit = level - 2 }) (5 * spans N + 5) (s ∷ []) (put m s id 0) 0
    (seeded (record { area = area_of N s; id = id; limit = level - 2 }) s m ∷ l)

unfoldable pub floods_log : Net → List ℕ → ℕ → List ℕ → Marks → ℕ → List Event → List Event
floods_log N dist level [] m id l = l
floods_log N dist level (e ∷ es) m id l =
    let f = flood N dist level id m e in
    let hit = floods_log N dist level es f.marks (when eqb f.count 0 then id else suc id) (flood_log N dist level id m e l) in
    let miss = floods_log N dist level es m id l in
    when not (eqb e none) and eqb (id_of m e) 0 then hit else miss

unfoldable pub turn_log : Net → List ℕ → ℕ → ℕ → Turn → List Event → List Event
turn_log N dist top k t l =
    let level = top - 2 * (k + 1) in
    let j = k % 8 in
    let entries = get_or (loaded N dist level j t) j [] in
    let e = expand N level t.marks entries in
    floods_log N dist level e.stack e.marks t.next (expand_log N level t.marks entries l)

unfoldable pub turns_log : Net → List ℕ → ℕ → ℕ → Turn → List Event → List Event
turns_log N dist top zero t l = l
turns_log N dist top (suc k) t l = turn_log N dist top k (upto k (turn N dist top) t) (turns_log N dist top k t l)

-- all of growth
unfoldable pub growth_log : Field → List ℕ → ℕ → ℕ → List Event
growth_log F dist most b =
    let N = net_of F in
    let top = 2 * ((most + 1) / 2) in
    let start : Turn = record { marks = painted F b; stacks = []; next = first_id b } in
    let t = upto (top / 2) (turn N dist top) start in
    expand_log N 0 t.marks (blank N.areas t.marks.ids) (turns_log N dist top (top / 2) start [])

-- the marks with which growth ends: their ids are the grown ones
unfoldable pub last_marks : Field → List ℕ → ℕ → ℕ → Marks
last_marks F dist most b =
    let N = net_of F in
    let top = 2 * ((most + 1) / 2) in
    let t = upto (top / 2) (turn N dist top) (record { marks = painted F b; stacks = []; next = first_id b }) in
    (expand N 0 t.marks (blank N.areas t.marks.ids)).marks

-- ---------------------------------------------------------------- the log is what happened

-- the marks that the log l leads to from the marks m₀, by the plain rule of each step
unfoldable pub replay : Net → List ℕ → Marks → List Event → Marks
replay N dist m₀ [] = m₀
replay N dist m₀ (rounded p ∷ l) = (round N (record { marks = replay N dist m₀ l; stack = p.stack })).marks
replay N dist m₀ (seeded q s m ∷ l) = put (replay N dist m₀ l) s q.id 0
replay N dist m₀ (popped q c f ∷ l) = (visit N dist q c (record { todo = f.todo; marks = replay N dist m₀ l; count = f.count })).marks

-- The log l leads from the marks m₀ to the flood f of seed q, whose stack is empty where no flood is under way: each step begins with what the step before it
-- left, marks, stack and count, so that no visit is left out, and between floods no span waits to be visited.
abbrev pub Past : Net → List ℕ → Marks → List Event → Seed → Flow → Type 0
Past N dist m₀ [] q f = (f.todo ≡ []) × (f.marks ≡ m₀)
Past N dist m₀ (rounded p ∷ l) q f =
    (f.todo ≡ []) × (f.marks ≡ (round N p).marks) × ((r : Seed) × (n : ℕ) × Past N dist m₀ l r (record { todo = []; marks = p.marks; count = n }))
Past N dist m₀ (seeded r s m ∷ l) q f =
    (q ≡ r) × (r.area ≡ area_of N s) × (id_of m s ≡ 0) × (f ≡ record { todo = s ∷ []; marks = put m s r.id 0; count = 0 })
    × ((r' : Seed) × (n : ℕ) × Past N dist m₀ l r' (record { todo = []; marks = m; count = n }))
Past N dist m₀ (popped r c g ∷ l) q f =
    (q ≡ r) × (f ≡ visit N dist r c g) × Past N dist m₀ l r (record { todo = c ∷ g.todo; marks = g.marks; count = g.count })

-- ---------------------------------------------------------------- what is read off a log

-- of no event
abbrev pub Never : (Event → Type 0) → List Event → Type 0
Never P [] = Unit {0}
Never P (e ∷ l) = (P e → ⊥) × Never P l

-- of some event
abbrev pub Once : (Event → Type 0) → List Event → Type 0
Once P [] = ⊥
Once P (e ∷ l) = P e ⊎ Once P l

-- Q holds of the latest event of which P holds, and there is one
abbrev pub Latest : (Event → Type 0) → (Event → Type 0) → List Event → Type 0
Latest P Q [] = ⊥
Latest P Q (e ∷ l) = (P e × Q e) ⊎ ((P e → ⊥) × Latest P Q l)

-- at a round span s takes an id: it has none before it, and one after it
abbrev pub Takes : Net → ℕ → Event → Type 0
Takes N s (rounded p) = (id_of p.marks s ≡ 0) × (id_of (round N p).marks s ≡ 0 → ⊥)
Takes N s (seeded q t m) = ⊥
Takes N s (popped q c f) = ⊥

-- the neighbour of span s in direction d has its area and an id that is neither 0 nor flagged; and its source distance plus 2
abbrev pub Offers : Net → Marks → ℕ → ℕ → Type 0
Offers N m s d = (area_of N (near N s d) ≡ area_of N s) × Plain (id_of m (near N s d))

abbrev pub sum_of : Net → Marks → ℕ → ℕ → ℕ
sum_of N m s d = get_or m.src (near N s d) 0 + 2

-- "its same-area neighbours in direction order; it takes the id of the first with the least source distance plus 2, among nonzero unflagged ids":
-- of all neighbours of span s, a is that one
pub record Chosen (N : Net) (m : Marks) (s a : ℕ) : Type 0 where
  pub dir : ℕ
  pub four : dir < 4
  pub there : a ≡ near N s dir
  pub area : area_of N a ≡ area_of N s
  pub room : Plain (id_of m a)
  pub least : (d : ℕ) → d < 4 → Offers N m s d → sum_of N m s dir ≤ sum_of N m s d
  pub first : (d : ℕ) → d < dir → Offers N m s d → sum_of N m s dir < sum_of N m s d

-- at a round span s takes the id r from span a
abbrev pub From : Net → ℕ → ℕ → ℕ → Event → Type 0
From N s a r (rounded p) = Chosen N p.marks s a × (id_of p.marks a ≡ r) × (id_of (round N p).marks s ≡ r)
From N s a r (seeded q t m) = ⊥
From N s a r (popped q c f) = ⊥

-- a flood visits span s and gives it back
abbrev pub GivesBack : Net → ℕ → Event → Type 0
GivesBack N s (rounded p) = ⊥
GivesBack N s (seeded q t m) = ⊥
GivesBack N s (popped q c f) = (c ≡ s) × (objects N f.marks q s ≡ true)

-- span o objects where a flood of seed q visits span c: in the first direction in which c sees anything, a neighbour of the area and of another nonzero id; or,
-- where the neighbour has the area and no such id, the corner
pub record Objection (N : Net) (m : Marks) (q : Seed) (c o : ℕ) : Type 0 where
  pub dir : ℕ
  pub four : dir < 4
  pub nothing : (d : ℕ) → d < dir → sees N m q c d ≡ 0
  pub next : area_of N (near N c dir) ≡ q.area
  pub which : (o ≡ near N c dir) ⊎ ((o ≡ corner N c dir) × ((id_of m (near N c dir) ≡ 0) ⊎ (id_of m (near N c dir) ≡ q.id)))
  pub area : area_of N o ≡ q.area
  pub some : id_of m o ≡ 0 → ⊥
  pub other : id_of m o ≡ q.id → ⊥

-- it is the flood of id r, and o objects
abbrev pub By : Net → ℕ → ℕ → Event → Type 0
By N r o (rounded p) = ⊥
By N r o (seeded q t m) = ⊥
By N r o (popped q c f) = (q.id ≡ r) × (area_of N c ≡ q.area) × Objection N f.marks q c o

-- a flood of id r visits span s, meets no objection, and counts it
abbrev pub Counts : Net → List ℕ → ℕ → ℕ → Event → Type 0
Counts N dist s r (rounded p) = ⊥
Counts N dist s r (seeded q t m) = ⊥
Counts N dist s r (popped q c f) = (c ≡ s) × (q.id ≡ r) × (objects N f.marks q s ≡ false) × ((visit N dist q s f).count ≡ suc f.count)
