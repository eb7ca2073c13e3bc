-- Up to 32,000 spans neither ids nor source distances run out: growth does not stop (`never_stops`).
-- No source distance passes twice the number of spans that have an id (`Low`): a round that changes something gives an id to a span that had none, and
-- raises the greatest by 2 at most; a flood sets some to 0 and takes no id from a span. The next id and the spans of id 0 together do not grow.
use Prim.Native.Nat.{ℕ, zero, suc, ◌+◌, ◌-◌, ◌*◌, ◌/◌, ◌%◌, ◌≤◌, ◌<◌}
use native.Mathlib.Omega.{arith}
use native.Mathlib.Nat.{le_refl}
use mathlib.Core.Path.{◌≡◌, refl, sym, ap, ◌∙◌}
use mathlib.Core.Bool.{Bool, true, false, true≢false, false≢true}
use mathlib.Core.List.{List, [], ◌∷◌}
use lib.ListN.{length, get_or, set, length-set}
use lib.Seq.{get_or-set_same, get_or-set_other}
use lib.Dec.{eqb}
use borrow.Author.Tests.{eqb-true, eqb-false, ne_eqb, lt-leb, le-ltb, not-true}
use Rattle.rules.specs.Base.{◌and◌, ◌or◌, when◌then◌else◌, upto, any}
use Rattle.rules.specs.Field.{Field, none}
use Rattle.rules.specs.Net.{Net, net_of, spans, area_of, near}
use Rattle.rules.specs.Growth.{Marks, id_of, put, Taken, look, takes, finds, exceeds, strays, wrote, written, Spread, round, rounds, rounds_stray, expand, expand_strays, Seed, Flow, objects, pushed, visit, flow, flood, floods, Ids, or_else, Turn, loaded, turn, turn_stops, turns_stop, blank, painted, first_id, stops}
use Rattle.laws.proofs.Basics.{both, either, and_no, if-ind, upto-ind, All, get_or-set_cases, map_all, zeros-at}
use Rattle.laws.proofs.Lengths.{written-length, painted-length}
use Rattle.laws.proofs.NextId.{zeros, zeros_le, zeros_down, zeros-lower, flood-zeros, if_add, ids_suffice}
use Rattle.laws.proofs.Grows.{Inside, Down, expand_down, down_zeros, Room, blank_inside, loaded_inside, turn_room, first_few}

-- no source distance passes twice the number of spans that have an id
pub record Low (n : ℕ) (m : Marks) : Type 0 where
  pub bound : (x : ℕ) → get_or m.src x 0 + 2 * zeros m.ids ≤ 2 * n

-- ---------------------------------------------------------------- an id given

zeros_given : (l : List ℕ) (i v : ℕ) → (v ≡ 0 → ⊥) → zeros (set l i v) ≤ zeros l
zeros_given l i v z = zeros_down l (set l i v) (length-set l i v) (λ t e h. get_or-set_cases l i v t (λ r. r ≡ 0 → get_or l t 0 ≡ 0) (λ _ k. absurd (z k)) (λ k. k) e)

zeros_new : (l : List ℕ) (i v : ℕ) → i < length l → get_or l i 0 ≡ 0 → (v ≡ 0 → ⊥) → zeros (set l i v) < zeros l
zeros_new l i v h e z =
    zeros-lower l (set l i v) i (length-set l i v) (λ t k g. get_or-set_cases l i v t (λ r. r ≡ 0 → get_or l t 0 ≡ 0) (λ _ o. absurd (z o)) (λ o. o) k) h e
    (λ k. z (sym (get_or-set_same l i v 0 h) ∙ k))

-- ---------------------------------------------------------------- how far an id is taken from

module _ (N : Net) (m : Marks) (b : ℕ) (low : (x : ℕ) → get_or m.src x 0 + 2 ≤ b) where
  look_low : (s d : ℕ) (t : Taken) → ((t.id ≡ 0 → ⊥) → t.far ≤ b) → ((look N m s d t).id ≡ 0 → ⊥) → (look N m s d t).far ≤ b
  unfolding look
  look_low s d t h = if-ind (λ (r : Taken). (r.id ≡ 0 → ⊥) → r.far ≤ b) _ (λ _ _. low _) (λ _. h)

  takes_low : (s : ℕ) → ((takes N m s).id ≡ 0 → ⊥) → (takes N m s).far ≤ b
  unfolding takes
  takes_low s = upto-ind (λ _ (r : Taken). (r.id ≡ 0 → ⊥) → r.far ≤ b) (look N m s) _ 4 (λ z. absurd (z refl)) (λ k x h p. look_low s k x p)

  -- no sum is above what they allow
  none-exceeds : b ≤ 65535 → (s d : ℕ) → exceeds N m s d ≡ false
  unfolding exceeds
  none-exceeds h s d = let a = near N s d in rw (le-ltb 65535 (get_or m.src a 0 + 2) (omega (arith, low a))) (and_no _)

  none-strays : b ≤ 65535 → (s : ℕ) → strays N m s ≡ false
  unfolding strays ◌or◌
  none-strays h s = rw (none-exceeds h s 0, none-exceeds h s 1, none-exceeds h s 2, none-exceeds h s 3) (and_no _)

none_of : (p : ℕ → Bool) → ((x : ℕ) → p x ≡ false) → (l : List ℕ) → any p l ≡ false
unfolding any ◌or◌
none_of p h [] = refl
none_of p h (x ∷ l) = rw (h x) (none_of p h l)

-- ---------------------------------------------------------------- what a round writes

module _ (N : Net) (m : Marks) where
  pub finds_id : (s : ℕ) → finds N m s ≡ true → (takes N m s).id ≡ 0 → ⊥
  unfolding finds
  finds_id s z = eqb-false _ _ (not-true _ (both _ _ z).1)

  -- a span that finds nothing is not written
  pub written_keeps : (x : ℕ) → finds N m x ≡ false → (es : List ℕ) (out : Marks) → get_or (written N m es out).ids x 0 ≡ get_or out.ids x 0
  unfolding written wrote put
  written_keeps x z [] out = refl
  written_keeps x z (s ∷ es) out =
      written_keeps x z es (wrote N m s out)
      ∙ if-ind (λ (r : Marks). get_or r.ids x 0 ≡ get_or out.ids x 0) (finds N m s)
      (λ y. get_or-set_other out.ids s x _ 0 (λ g. true≢false (sym y ∙ ap (finds N m) (sym g) ∙ z)))
      (λ _. refl)

  written_fewer : (es : List ℕ) (out : Marks) → zeros (written N m es out).ids ≤ zeros out.ids
  unfolding written wrote put
  written_fewer [] out = le_refl _
  written_fewer (s ∷ es) out =
      let a : zeros (wrote N m s out).ids ≤ zeros out.ids
      = if-ind (λ (r : Marks). zeros r.ids ≤ zeros out.ids) (finds N m s) (λ z. zeros_given out.ids s _ (finds_id s z)) (λ _. le_refl _) in
      omega (arith, a, written_fewer es (wrote N m s out))

  -- an unused entry is a span with no id
  abbrev Bare : ℕ → ℕ → Type 0
  Bare n e = (e ≡ none → ⊥) → (e < n) × (id_of m e ≡ 0)

  -- a round that changes something gives an id to one span more
  written_grows : (n : ℕ) → length m.ids ≡ n → (es : List ℕ) → All (Bare n) es → any (finds N m) es ≡ true → zeros (written N m es m).ids < zeros m.ids
  unfolding any written wrote finds put
  written_grows n l [] b = λ z. absurd (false≢true z)
  written_grows n l (s ∷ es) b =
      if-ind (λ (r : Marks). (finds N m s or any (finds N m) es) ≡ true → zeros (written N m es r).ids < zeros m.ids) (finds N m s)
      (λ y z.
      let d = b.0 (eqb-false _ _ (not-true _ (both _ _ y).0)) in
      let a = zeros_new m.ids s (takes N m s).id (omega (arith, d.0)) d.1 (finds_id s y) in
      omega (arith, a, written_fewer es (put m s (takes N m s).id (takes N m s).far)))
      (λ y z. either (zeros (written N m es m).ids < zeros m.ids) (finds N m s) (any (finds N m) es) z (λ q. absurd (true≢false (sym q ∙ y))) (λ q. written_grows n l es b.1 q))

  written_low : (b : ℕ) → ((s : ℕ) → finds N m s ≡ true → (takes N m s).far ≤ b) → (es : List ℕ) (out : Marks)
      → ((x : ℕ) → get_or out.src x 0 ≤ b) → (x : ℕ) → get_or (written N m es out).src x 0 ≤ b
  unfolding written wrote put
  written_low b f [] out h = h
  written_low b f (s ∷ es) out h =
      written_low b f es (wrote N m s out)
      (if-ind (λ (r : Marks). (x : ℕ) → get_or r.src x 0 ≤ b) (finds N m s) (λ z x. get_or-set_cases out.src s _ x (λ v. v ≤ b) (λ _. f s z) (h x)) (λ _. h))

-- ---------------------------------------------------------------- rounds

module _ (N : Net) (few : spans N ≤ 32000) where
  -- what holds between rounds
  record Held (p : Spread) : Type 0 where
    size : length p.marks.ids ≡ spans N
    bare : All (Bare N p.marks (spans N)) p.stack
    low : Low (spans N) p.marks

  held-round : (p : Spread) → Held p → any (finds N p.marks) p.stack ≡ true → Held (round N p)
  unfolding round
  held-round p o z =
      let m = p.marks in
      let q : zeros m.ids ≤ spans N = omega (arith, zeros_le m.ids, o.size) in
      let g = written_grows N m (spans N) o.size p.stack o.bare z in
      let f : (s : ℕ) → finds N m s ≡ true → (takes N m s).far ≤ 2 * spans N + 2 - 2 * zeros m.ids
      = λ s y. takes_low N m (2 * spans N + 2 - 2 * zeros m.ids) (λ x. omega (arith, o.low.bound x)) s (finds_id N m s y) in
      record {
        size = written-length N m p.stack m ∙ o.size;
        bare = map_all (Bare N m (spans N)) (λ e. (e ≡ none → ⊥) → (e < spans N) × (get_or (written N m p.stack m).ids e 0 ≡ 0)) _ p.stack (λ s h. still p s h) o.bare;
        low = record { bound = λ x. let h = written_low N m (2 * spans N + 2 - 2 * zeros m.ids) f p.stack m (λ y. omega (arith, o.low.bound y)) x in omega arith };
      }
    where
      still : (p : Spread) (s : ℕ) → Bare N p.marks (spans N) s
          → let r = (when finds N p.marks s then none else s) in (r ≡ none → ⊥) → (r < spans N) × (get_or (written N p.marks p.stack p.marks).ids r 0 ≡ 0)
      still p s h =
          if-ind (λ (r : ℕ). (r ≡ none → ⊥) → (r < spans N) × (get_or (written N p.marks p.stack p.marks).ids r 0 ≡ 0)) (finds N p.marks s)
          (λ y k. absurd (k refl))
          (λ y k. let d = h k in (d.0, written_keeps N p.marks s y p.stack p.marks ∙ d.1))

  held_calm : (p : Spread) → Held p → any (strays N p.marks) p.stack ≡ false
  held_calm p o = none_of (strays N p.marks) (none-strays N p.marks 65535 (λ x. omega (arith, o.low.bound x)) (omega arith)) p.stack

  rounds_calm : (k : ℕ) (p : Spread) → Held p → (rounds_stray N k p ≡ false) × Low (spans N) (rounds N k p).marks
  unfolding rounds_stray rounds ◌or◌ ◌and◌
  rounds_calm zero p o = (refl, o.low)
  rounds_calm (suc k) p o =
      rw (held_calm p o)
      (go (any (finds N p.marks) p.stack) (λ z. rounds_calm k (round N p) (held-round p o z)))
    where
      calm_on : (b : Bool) → (b ≡ true → (rounds_stray N k (round N p) ≡ false) × Low (spans N) (rounds N k (round N p)).marks) → b and rounds_stray N k (round N p) ≡ false
      calm_on true h = rw (h refl).0 refl
      calm_on false h = refl

      go : (b : Bool) → (b ≡ true → (rounds_stray N k (round N p) ≡ false) × Low (spans N) (rounds N k (round N p)).marks)
          → (b and rounds_stray N k (round N p) ≡ false) × Low (spans N) (when b then rounds N k (round N p) else p).marks
      go b h = (calm_on b h, if-ind (λ (q : Spread). Low (spans N) q.marks) b (λ z. (h z).1) (λ _. o.low))

  expand_calm : (level : ℕ) (m : Marks) (es : List ℕ) → length m.ids ≡ spans N → All (Inside N) es → Low (spans N) m
      → (expand_strays N level m es ≡ false) × Low (spans N) (expand N level m es).marks
  unfolding expand_strays expand
  expand_calm level m es n al l =
      rounds_calm _ _ (record {
        size = n;
        bare = map_all (Inside N) (Bare N m (spans N)) _ es (λ s h. if-ind (Bare N m (spans N)) (eqb (id_of m s) 0) (λ z k. (h k, eqb-true _ _ z)) (λ _ k. absurd (k refl))) al;
        low = l;
      })

-- ---------------------------------------------------------------- floods

-- no source distance is higher than before
abbrev Lower : Marks → Marks → Type 0
Lower m m' = (x : ℕ) → get_or m'.src x 0 ≤ get_or m.src x 0

put-lower : (m m₀ : Marks) (t r : ℕ) → Lower m₀ m → Lower m₀ (put m t r 0)
unfolding put
put-lower m m₀ t r h x = get_or-set_cases m.src t 0 x (λ v. v ≤ get_or m₀.src x 0) (λ _. omega arith) (h x)

module _ (N : Net) (dist : List ℕ) (q : Seed) (m₀ : Marks) where
  pushed-lower : (c d : ℕ) (f : Flow) → Lower m₀ f.marks → Lower m₀ (pushed N dist q c d f).marks
  unfolding pushed
  pushed-lower c d f h = if-ind (λ (g : Flow). Lower m₀ g.marks) _ (λ _. put-lower f.marks m₀ _ q.id h) (λ _. h)

  visit-lower : (c : ℕ) (f : Flow) → Lower m₀ f.marks → Lower m₀ (visit N dist q c f).marks
  unfolding visit
  visit-lower c f h =
      if-ind (λ (g : Flow). Lower m₀ g.marks) (objects N f.marks q c) (λ _. h)
      (λ _. upto-ind (λ k (g : Flow). Lower m₀ g.marks) (pushed N dist q c) _ 4 h (λ k g _ p. pushed-lower c k g p))

  flow-lower : (k : ℕ) (todo : List ℕ) (m : Marks) (n : ℕ) → Lower m₀ m → Lower m₀ (flow N dist q k todo m n).marks
  unfolding flow
  flow-lower zero todo m n h = h
  flow-lower (suc k) [] m n h = h
  flow-lower (suc k) (c ∷ cs) m n h = flow-lower k _ _ _ (visit-lower c (record { todo = cs; marks = m; count = n }) h)

flood-lower : (N : Net) (dist : List ℕ) (level id : ℕ) (m : Marks) (s : ℕ) → Lower m (flood N dist level id m s).marks
unfolding flood
flood-lower N dist level id m s = flow-lower N dist _ m _ _ _ _ (put-lower m m s id (λ x. le_refl _))

module _ (N : Net) (dist : List ℕ) (level : ℕ) (bytes : (s : ℕ) → s < spans N → area_of N s < 256) where
  floods_low : (es : List ℕ) → All (Inside N) es → (m : Marks) (id : ℕ) → 0 < id → id + zeros m.ids < 0x8000 → length m.ids ≡ spans N → Low (spans N) m
      → Low (spans N) (floods N dist level es m id).marks
  unfolding floods
  floods_low [] al m id p b n l = l
  floods_low (e ∷ es) al m id p b n l =
      if-ind (λ (r : Ids). Low (spans N) r.marks) _
      (λ t.
      let t2 = both _ _ t in
      let inside : e < spans N = al.0 (eqb-false _ _ (not-true _ t2.0)) in
      let f = flood N dist level id m e in
      let o = flood-zeros N dist level id m e (ne_eqb id 0 (omega arith)) (lt-leb 0x8000 id (omega arith)) inside (λ k. omega (arith, bytes e inside)) n (eqb-true _ _ t2.1) in
      let k = if_add (eqb f.count 0) id in
      floods_low es al.1 f.marks (when eqb f.count 0 then id else suc id) (omega arith) (omega arith) o.0
      (record { bound = λ x. omega (arith, l.bound x, flood-lower N dist level id m e x, o.1) }))
      (λ _. floods_low es al.1 m id p b n l)

-- ---------------------------------------------------------------- turns

module _ (N : Net) (dist : List ℕ) (few : spans N ≤ 32000) (bytes : (s : ℕ) → s < spans N → area_of N s < 256) (first : ℕ) (five : first ≤ 5) where
  record Ample (t : Turn) : Type 0 where
    room : Room N first t
    low : Low (spans N) t.marks

  ample_turn : (top k : ℕ) (t : Turn) → Ample t → (turn_stops N dist top k t ≡ 0) × Ample (turn N dist top k t)
  unfolding turn turn_stops when◌then◌else◌ Down
  ample_turn top k t h =
      let level = top - 2 * (k + 1) in
      let j = k % 8 in
      let es = get_or (loaded N dist level j t) j [] in
      let ins = loaded_inside N dist level j t h.room.inside j in
      let e = expand N level t.marks es in
      let c = expand_calm N few level t.marks es h.room.size ins h.low in
      let ex = expand_down N level t.marks es ins in
      let z = down_zeros N t.marks e.marks ex.0 in
      let o : turn_stops N dist top k t ≡ 0
      = rw (c.0, ids_suffice N dist level bytes e.stack ex.1 e.marks t.next h.room.some (omega (arith, h.room.room)) (ex.0.0 ∙ h.room.size)) refl in (
        o,
        record {
          room = turn_room N dist bytes first top k t o h.room;
          low = floods_low N dist level bytes e.stack ex.1 e.marks t.next h.room.some (omega (arith, h.room.room)) (ex.0.0 ∙ h.room.size) c.1;
        },
      )

  ample_turns : (top n : ℕ) (t : Turn) → Ample t → (turns_stop N dist top n t ≡ 0) × Ample (upto n (turn N dist top) t)
  unfolding turns_stop or_else upto
  ample_turns top zero t h = (refl, h)
  ample_turns top (suc n) t h =
      let r = ample_turns top n t h in
      let q = ample_turn top n _ r.1 in
      (rw r.0 q.0, q.1)

-- "at most 32,000 spans are never refused 12 or 13"
pub never_stops : (F : Field) (dist : List ℕ) (most b : ℕ) → ((s : ℕ) → s < spans (net_of F) → area_of (net_of F) s < 256) → spans (net_of F) ≤ 32000
    → stops F dist most b ≡ 0
unfolding stops painted or_else when◌then◌else◌
never_stops F dist most b bytes few =
    let N = net_of F in
    let top = 2 * ((most + 1) / 2) in
    let first = first_few b in
    let start : Turn = record { marks = painted F b; stacks = []; next = first_id b } in
    let size : length (painted F b).ids ≡ spans N = painted-length F b in
    let r = ample_turns N dist few bytes (first_id b) first.1 top (top / 2) start (record {
      room = record { size = size; some = first.0; plain = omega arith; room = omega (arith, zeros_le (painted F b).ids); inside = λ j. tt };
      low = record { bound = λ x. omega (arith, zeros_le (painted F b).ids, zeros-at (spans N) x) };
    }) in
    let t = upto (top / 2) (turn N dist top) start in
    let c = expand_calm N few 0 t.marks (blank N.areas t.marks.ids) r.1.room.size (blank_inside N t.marks.ids) r.1.low in
    rw (r.0, c.0) refl
