-- The log is what happened: replayed from the painted marks, by the plain rule of each step, it gives the grown ids, for every field. Assumes nothing.
use Prim.Native.Nat.{ℕ, zero, suc, ◌+◌, ◌*◌, ◌-◌, ◌/◌}
use mathlib.Core.Path.{◌≡◌, refl, ap, ◌∙◌}
use mathlib.Core.Bool.{not}
use mathlib.Core.List.{List, [], ◌∷◌}
use lib.Dec.{eqb}
use Rattle.rules.specs.Base.{◌and◌, upto, any}
use Rattle.rules.specs.Field.{Field, none}
use Rattle.rules.specs.Net.{Net, net_of, area_of}
use Rattle.rules.specs.Growth.{Marks, id_of, put, painted, first_id, blank, finds, Spread, round, rounds, expand, Seed, Flow, visit, flow, flood, Ids, floods, Turn, turn, grown}
use Rattle.laws.proofs.Basics.{if_ind₂}
use Rattle.reasons.specs.Log.{Event, rounded, seeded, popped, rounds_log, expand_log, flow_log, flood_log, floods_log, turn_log, turns_log, growth_log, last_marks, replay}

module _ (N : Net) (dist : List ℕ) (m₀ : Marks) where
  abbrev Comes : List Event → Marks → Type 0
  Comes l m = replay N dist m₀ l ≡ m

  round_comes : (p : Spread) (l : List Event) → Comes l p.marks → Comes (rounded p ∷ l) (round N p).marks
  unfolding replay
  round_comes p l h = ap (λ (m : Marks). (round N (record { marks = m; stack = p.stack })).marks) h

  rounds_comes : (k : ℕ) (p : Spread) (l : List Event) → Comes l p.marks → Comes (rounds_log N k p l) (rounds N k p).marks
  unfolding rounds_log rounds
  rounds_comes zero p l h = h
  rounds_comes (suc k) p l h =
      if_ind₂ (λ (x : List Event) (q : Spread). Comes x q.marks) (any (finds N p.marks) p.stack)
      (λ _. rounds_comes k (round N p) (rounded p ∷ l) (round_comes p l h)) (λ _. h)

  expand_comes : (level : ℕ) (m : Marks) (es : List ℕ) (l : List Event) → Comes l m → Comes (expand_log N level m es l) (expand N level m es).marks
  unfolding expand_log expand
  expand_comes level m es l h = rounds_comes _ _ l h

  visit_comes : (q : Seed) (c : ℕ) (f : Flow) (l : List Event) → Comes l f.marks → Comes (popped q c f ∷ l) (visit N dist q c f).marks
  unfolding replay
  visit_comes q c f l h = ap (λ (m : Marks). (visit N dist q c (record { todo = f.todo; marks = m; count = f.count })).marks) h

  flow_comes : (q : Seed) (k : ℕ) (todo : List ℕ) (m : Marks) (n : ℕ) (l : List Event) → Comes l m → Comes (flow_log N dist q k todo m n l) (flow N dist q k todo m n).marks
  unfolding flow_log flow
  flow_comes q zero todo m n l h = h
  flow_comes q (suc k) [] m n l h = h
  flow_comes q (suc k) (c ∷ cs) m n l h = flow_comes q k _ _ _ _ (visit_comes q c (record { todo = cs; marks = m; count = n }) l h)

  seed_comes : (q : Seed) (s : ℕ) (m : Marks) (l : List Event) → Comes l m → Comes (seeded q s m ∷ l) (put m s q.id 0)
  unfolding replay
  seed_comes q s m l h = ap (λ (x : Marks). put x s q.id 0) h

  flood_comes : (level id : ℕ) (m : Marks) (s : ℕ) (l : List Event) → Comes l m → Comes (flood_log N dist level id m s l) (flood N dist level id m s).marks
  unfolding flood_log flood
  flood_comes level id m s l h = flow_comes _ _ _ _ _ _ (seed_comes (record { area = area_of N s; id = id; limit = level - 2 }) s m l h)

  floods_comes : (level : ℕ) (es : List ℕ) (m : Marks) (id : ℕ) (l : List Event) → Comes l m → Comes (floods_log N dist level es m id l) (floods N dist level es m id).marks
  unfolding floods_log floods
  floods_comes level [] m id l h = h
  floods_comes level (e ∷ es) m id l h =
      if_ind₂ (λ (x : List Event) (i : Ids). Comes x i.marks) (not (eqb e none) and eqb (id_of m e) 0)
      (λ _. floods_comes level es _ _ _ (flood_comes level id m e l h)) (λ _. floods_comes level es m id l h)

  turn_comes : (top k : ℕ) (t : Turn) (l : List Event) → Comes l t.marks → Comes (turn_log N dist top k t l) (turn N dist top k t).marks
  unfolding turn_log turn
  turn_comes top k t l h = floods_comes _ _ _ _ _ (expand_comes _ t.marks _ l h)

  turns_comes : (top k : ℕ) (t : Turn) (l : List Event) → Comes l t.marks → Comes (turns_log N dist top k t l) (upto k (turn N dist top) t).marks
  unfolding turns_log upto
  turns_comes top zero t l h = h
  turns_comes top (suc k) t l h = turn_comes top k (upto k (turn N dist top) t) (turns_log N dist top k t l) (turns_comes top k t l h)

-- to the marks with which growth ends
pub replays_last : (F : Field) (dist : List ℕ) (most b : ℕ) → replay (net_of F) dist (painted F b) (growth_log F dist most b) ≡ last_marks F dist most b
unfolding growth_log last_marks replay
replays_last F dist most b =
    let top = 2 * ((most + 1) / 2) in
    let start : Turn = record { marks = painted F b; stacks = []; next = first_id b } in
    let t = upto (top / 2) (turn (net_of F) dist top) start in
    expand_comes (net_of F) dist (painted F b) 0 t.marks (blank (net_of F).areas t.marks.ids) _ (turns_comes (net_of F) dist (painted F b) top (top / 2) start [] refl)

pub last_is_grown : (F : Field) (dist : List ℕ) (most b : ℕ) → (last_marks F dist most b).ids ≡ (grown F dist most b).ids
unfolding last_marks grown
last_is_grown F dist most b = refl

pub log_replays : (F : Field) (dist : List ℕ) (most b : ℕ) → (replay (net_of F) dist (painted F b) (growth_log F dist most b)).ids ≡ (grown F dist most b).ids
log_replays F dist most b = ap (λ (m : Marks). m.ids) (replays_last F dist most b) ∙ last_is_grown F dist most b
