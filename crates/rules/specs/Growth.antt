-- Flood and expansion, rules 1 to 5.
use Rattle.std.specs.Prelude.{ℕ, zero, suc, ◌+◌, ◌*◌, ◌-◌, ◌/◌, ◌%◌, Bool, false, not, List, [], ◌∷◌, ◌++◌, map, length, get_or, set, replicate, leb, ltb, eqb}
use Rattle.rules.specs.Base.{◌and◌, ◌or◌, when◌then◌else◌, upto, tab, keep, any}
use Rattle.rules.specs.Field.{Field, none, cell_of}
use Rattle.rules.specs.Net.{Net, net_of, spans, near, corner, area_of}

-- an id with 0x8000 in it
abbrev pub flagged : ℕ → Bool
flagged r = leb 0x8000 r

-- an id that is neither 0 nor flagged
abbrev pub plain : ℕ → Bool
plain r = not (eqb r 0) and not (flagged r)

-- "0 = not walkable"
unfoldable pub walkable : List ℕ → ℕ → Bool
walkable areas s = not (eqb (get_or areas s 256) 0)

-- the ids of the spans, and their source distances
pub record Marks : Type 0 where
  pub ids : List ℕ
  pub src : List ℕ

abbrev pub id_of : Marks → ℕ → ℕ
id_of m s = get_or m.ids s 0

unfoldable pub put : Marks → ℕ → ℕ → ℕ → Marks
put m s r d = record { ids = set m.ids s r; src = set m.src s d }

-- ---------------------------------------------------------------- 1. painting

-- "walkable spans are painted with 0x8000 plus 1 (left columns), 2 (right), 3 (low rows), 4 (high rows), later paint over earlier,
-- each strip clipped to the field": the last strip that holds the span is looked for first
unfoldable pub paint_of : Field → ℕ → ℕ → ℕ
paint_of F b s =
    let c = cell_of F.count s in
    let x = c % F.w in
    let z = c / F.w in
    when not (walkable F.area s) then 0 else
    when leb (F.h - b) z then 0x8004 else
    when ltb z b then 0x8003 else
    when leb (F.w - b) x then 0x8002 else
    when ltb x b then 0x8001 else 0

-- "If border size is above 0"; source distance "0 at the start"
unfoldable pub painted : Field → ℕ → Marks
painted F b = record {
  ids = when eqb b 0 then replicate (length F.area) 0 else tab (length F.area) 0 (paint_of F b);
  src = replicate (length F.area) 0;
}

-- "Next id is 1. If border size is above 0, .. next id is then 5."
unfoldable pub first_id : ℕ → ℕ
first_id b = when eqb b 0 then 1 else 5

-- ---------------------------------------------------------------- 2. sorting

-- "every walkable span of id 0 .. in scan order"
unfoldable pub blank : List ℕ → List ℕ → List ℕ
blank areas ids = keep (λ s. walkable areas s and eqb (get_or ids s 0) 0) (tab (length areas) 0 (λ s. s))

-- "to the stack numbered (level/2 − distance/2, not below 0, both halves rounded down) if below 8"
unfoldable pub sorted : List ℕ → List ℕ → List ℕ → ℕ → List (List ℕ)
sorted areas dist ids level = let all = blank areas ids in tab 8 0 (λ j. keep (λ s. eqb (level / 2 - get_or dist s 0 / 2) j) all)

-- "what remains of the stack": unused entries of id 0; a used entry is none
unfoldable pub remains : List ℕ → List ℕ → List ℕ
remains ids es = keep (λ e. not (eqb e none) and eqb (get_or ids e 0) 0) es

-- ---------------------------------------------------------------- 3. expansion

-- what an entry has found so far
pub record Taken : Type 0 where
  pub id : ℕ
  pub far : ℕ

-- "looks at its same-area neighbours in direction order; it takes the id of the first with the least source distance plus 2,
-- among nonzero unflagged ids, and that sum": entry s looks in direction d
unfoldable pub look : Net → Marks → ℕ → ℕ → Taken → Taken
look N m s d t =
    let a = near N s d in
    let f = get_or m.src a 0 + 2 in
    when eqb (area_of N a) (area_of N s) and plain (id_of m a) and ltb f t.far then record { id = id_of m a; far = f } else t

unfoldable pub takes : Net → Marks → ℕ → Taken
takes N m s = upto 4 (look N m s) (record { id = 0; far = 65535 })

-- an unused entry that finds an id
unfoldable pub finds : Net → Marks → ℕ → Bool
finds N m e = not (eqb e none) and not (eqb (takes N m e).id 0)

-- "All are written together at the round's end.": what entry e finds in m is written into out
unfoldable pub wrote : Net → Marks → ℕ → Marks → Marks
wrote N m e out = let t = takes N m e in when finds N m e then put out e t.id t.far else out

unfoldable pub written : Net → Marks → List ℕ → Marks → Marks
written N m [] out = out
written N m (e ∷ es) out = written N m es (wrote N m e out)

pub record Spread : Type 0 where
  pub marks : Marks
  pub stack : List ℕ

-- "In each round every unused entry looks"; one that found an id is used from then on
unfoldable pub round : Net → Spread → Spread
round N p = record {
  marks = written N p.marks p.stack p.marks;
  stack = map (λ e. when finds N p.marks e then none else e) p.stack;
}

-- "A round in which nothing changed ends it": at most k rounds
unfoldable pub rounds : Net → ℕ → Spread → Spread
rounds N zero p = p
rounds N (suc k) p = let rest = rounds N k (round N p) in when any (finds N p.marks) p.stack then rest else p

-- "first, entries that have an id are marked used. .. at a level above 0, so does the eighth round."
-- At level 0 a round for each entry and one more is no limit (`expand_settles`).
unfoldable pub expand : Net → ℕ → Marks → List ℕ → Spread
expand N level m es =
    rounds N (when eqb level 0 then suc (length es) else 8)
    (record { marks = m; stack = map (λ e. when eqb (id_of m e) 0 then e else none) es })

-- "source distances in expansion may pass 65,535 .. Refuse instead: .. when a sum that expansion computes would exceed 65,535":
-- entry s computes one for each same-area neighbour of a nonzero unflagged id
unfoldable pub exceeds : Net → Marks → ℕ → ℕ → Bool
exceeds N m s d =
    let a = near N s d in
    eqb (area_of N a) (area_of N s) and plain (id_of m a) and ltb 65535 (get_or m.src a 0 + 2)

-- an unused entry that computes such a sum
unfoldable pub strays : Net → Marks → ℕ → Bool
strays N m e = not (eqb e none) and (exceeds N m e 0 or exceeds N m e 1 or exceeds N m e 2 or exceeds N m e 3)

-- in one of at most k rounds, up to the one in which nothing changed
unfoldable pub rounds_stray : Net → ℕ → Spread → Bool
rounds_stray N zero p = false
rounds_stray N (suc k) p =
    let rest = rounds_stray N k (round N p) in
    any (strays N p.marks) p.stack or any (finds N p.marks) p.stack and rest

unfoldable pub expand_strays : Net → ℕ → Marks → List ℕ → Bool
expand_strays N level m es =
    rounds_stray N (when eqb level 0 then suc (length es) else 8)
    (record { marks = m; stack = map (λ e. when eqb (id_of m e) 0 then e else none) es })

-- ---------------------------------------------------------------- 4. flood

-- what a flood has from its seed
pub record Seed : Type 0 where
  pub area : ℕ
  pub id : ℕ
  pub limit : ℕ

-- a flood under way
pub record Flow : Type 0 where
  pub todo : List ℕ
  pub marks : Marks
  pub count : ℕ

-- "another nonzero id"
abbrev pub other : ℕ → ℕ → Bool
other id r = not (eqb r 0) and not (eqb r id)

-- "A popped span goes through directions 0 to 3 over same-area neighbours: a flagged neighbour ends the looking with no objection;
-- another nonzero id there is an objection; so is another nonzero id on its corner neighbour, if that has the area too, flagged ids
-- included.": what span c sees in direction d: 0 go on looking, 1 stop looking with no objection, 2 an objection
unfoldable pub sees : Net → Marks → Seed → ℕ → ℕ → ℕ
sees N m q c d =
    let t = near N c d in
    let u = corner N c d in
    when not (eqb (area_of N t) q.area) then 0 else
    when flagged (id_of m t) then 1 else
    when other q.id (id_of m t) then 2 else
    when eqb (area_of N u) q.area and other q.id (id_of m u) then 2 else 0

-- the first that is not 0
unfoldable pub or_else : ℕ → ℕ → ℕ
or_else zero b = b
or_else (suc a) b = suc a

unfoldable pub objects : Net → Marks → Seed → ℕ → Bool
objects N m q c = eqb (or_else (sees N m q c 0) (or_else (sees N m q c 1) (or_else (sees N m q c 2) (sees N m q c 3)))) 2

-- "its same-area neighbours of id 0 and distance at least the limit get the id and are pushed, in direction order";
-- source distance "0 .. after a flood"
unfoldable pub pushed : Net → List ℕ → Seed → ℕ → ℕ → Flow → Flow
pushed N dist q c d f =
    let t = near N c d in
    when eqb (area_of N t) q.area and eqb (id_of f.marks t) 0 and leb q.limit (get_or dist t 0)
    then record { todo = t ∷ f.todo; marks = put f.marks t q.id 0; count = f.count }
    else f

-- "With an objection the span returns to id 0. Otherwise it counts, and its .. neighbours .. are pushed"
unfoldable pub visit : Net → List ℕ → Seed → ℕ → Flow → Flow
visit N dist q c f =
    when objects N f.marks q c
    then record { todo = f.todo; marks = record { ids = set f.marks.ids c 0; src = f.marks.src }; count = f.count }
    else upto 4 (pushed N dist q c) (record { todo = f.todo; marks = f.marks; count = suc f.count })

-- "The flood is last in, first out"; the first number is fuel, which never ends it (`flood_ends`)
unfoldable pub flow : Net → List ℕ → Seed → ℕ → List ℕ → Marks → ℕ → Flow
flow N dist q zero todo m n = record { todo = todo; marks = m; count = n }
flow N dist q (suc k) [] m n = record { todo = []; marks = m; count = n }
flow N dist q (suc k) (c ∷ cs) m n =
    let f = visit N dist q c (record { todo = cs; marks = m; count = n }) in
    flow N dist q k f.todo f.marks f.count

-- "its limit is level − 2, not below 0"
unfoldable pub flood : Net → List ℕ → ℕ → ℕ → Marks → ℕ → Flow
flood N dist level id m s =
    flow N dist (record { area = area_of N s; id = id; limit = level - 2 }) (5 * spans N + 5) (s ∷ []) (put m s id 0) 0

pub record Ids : Type 0 where
  pub marks : Marks
  pub next : ℕ

-- "Flood from each unused entry of id 0, in stack order, with the next id; only success advances it. .. Count 0 is failure."
unfoldable pub floods : Net → List ℕ → ℕ → List ℕ → Marks → ℕ → Ids
floods N dist level [] m id = record { marks = m; next = id }
floods N dist level (e ∷ es) m id =
    let f = flood N dist level id m e in
    let hit = floods N dist level es f.marks (when eqb f.count 0 then id else suc id) in
    let miss = floods N dist level es m id in
    when not (eqb e none) and eqb (id_of m e) 0 then hit else miss

-- "ids, when a successful flood would make the next id 0x8000"
unfoldable pub floods_run_out : Net → List ℕ → ℕ → List ℕ → Marks → ℕ → Bool
floods_run_out N dist level [] m id = false
floods_run_out N dist level (e ∷ es) m id =
    let f = flood N dist level id m e in
    let last = not (eqb f.count 0) and eqb (suc id) 0x8000 in
    let hit = floods_run_out N dist level es f.marks (when eqb f.count 0 then id else suc id) in
    let miss = floods_run_out N dist level es m id in
    when not (eqb e none) and eqb (id_of m e) 0 then last or hit else miss

-- ---------------------------------------------------------------- turns

pub record Turn : Type 0 where
  pub marks : Marks
  pub stacks : List (List ℕ)
  pub next : ℕ

-- "At turn 0 all stacks are emptied and every walkable span of id 0 goes .. to the stack .. At other turns, what remains of the
-- stack before is appended to this turn's."
unfoldable pub loaded : Net → List ℕ → ℕ → ℕ → Turn → List (List ℕ)
loaded N dist level j t =
    when eqb j 0 then sorted N.areas dist t.marks.ids level
    else set t.stacks j (get_or t.stacks j [] ++ remains t.marks.ids (get_or t.stacks (j - 1) []))

-- "While it is above 0, a turn (2 to 4) begins by lowering it by 2. The turn number counts 0 to 7 and round.":
-- turn k of all, from 0, has level top - 2 (k + 1) and number k % 8
unfoldable pub turn : Net → List ℕ → ℕ → ℕ → Turn → Turn
turn N dist top k t =
    let level = top - 2 * (k + 1) in
    let j = k % 8 in
    let stacks = loaded N dist level j t in
    let e = expand N level t.marks (get_or stacks j []) in
    let r = floods N dist level e.stack e.marks t.next in
    record { marks = r.marks; stacks = set stacks j e.stack; next = r.next }

-- "12 for ids, 13 for distances"; "The first met in the order of the rules is given, and not otherwise.": turn k, 0 for neither
unfoldable pub turn_stops : Net → List ℕ → ℕ → ℕ → Turn → ℕ
turn_stops N dist top k t =
    let level = top - 2 * (k + 1) in
    let j = k % 8 in
    let entries = get_or (loaded N dist level j t) j [] in
    let e = expand N level t.marks entries in
    when expand_strays N level t.marks entries then 13 else
    when floods_run_out N dist level e.stack e.marks t.next then 12 else 0

-- k turns from t on
unfoldable pub turns_stop : Net → List ℕ → ℕ → ℕ → Turn → ℕ
turns_stop N dist top zero t = 0
turns_stop N dist top (suc k) t = or_else (turns_stop N dist top k t) (turn_stops N dist top k (upto k (turn N dist top) t))

pub record Grown : Type 0 where
  pub ids : List ℕ
  pub next : ℕ

-- "Level starts at max_distance rounded up to even."
-- 5. "Last, all walkable spans of id 0 are expanded at level 0, with no limit of rounds."
unfoldable pub grown : Field → List ℕ → ℕ → ℕ → Grown
grown F dist most b =
    let N = net_of F in
    let top = 2 * ((most + 1) / 2) in
    let t = upto (top / 2) (turn N dist top) (record { marks = painted F b; stacks = []; next = first_id b }) in
    record { ids = (expand N 0 t.marks (blank N.areas t.marks.ids)).marks.ids; next = t.next }

-- what stops growth: 12, 13, or 0 for neither
unfoldable pub stops : Field → List ℕ → ℕ → ℕ → ℕ
stops F dist most b =
    let N = net_of F in
    let top = 2 * ((most + 1) / 2) in
    let start : Turn = record { marks = painted F b; stacks = []; next = first_id b } in
    let t = upto (top / 2) (turn N dist top) start in
    or_else (turns_stop N dist top (top / 2) start) (when expand_strays N 0 t.marks (blank N.areas t.marks.ids) then 13 else 0)
