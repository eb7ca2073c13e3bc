-- Expansion keeps the ids below the next, since an entry takes the id of a neighbour.
-- Assumes nothing.
use Prim.Native.Nat.{ℕ, zero, suc, ◌<◌}
use mathlib.Core.Path.{◌∙◌}
use mathlib.Core.List.{List, [], ◌∷◌}
use borrow.Author.Tests.{leb-false, not-true}
use Rattle.rules.specs.Net.{Net, spans, near}
use Rattle.rules.specs.Growth.{Marks, id_of, put, Taken, look, takes, finds, wrote, written, Spread, round, rounds, expand}
use Rattle.laws.proofs.Basics.{both, if-ind, upto-ind, get_or-set_cases, All}
use Rattle.laws.proofs.Grows.{Inside, Down, expand_down}
use Rattle.growth.specs.Floods.{IdsBelowNext}

abbrev Below : ℕ → Marks → Type 0
Below next m = (x : ℕ) → id_of m x < 0x8000 → id_of m x < next

module _ (N : Net) (next : ℕ) (pos : 0 < next) where
  look_below : (m : Marks) → Below next m → (s d : ℕ) (t : Taken) → t.id < next → (look N m s d t).id < next
  unfolding look
  look_below m h s d t b =
      if-ind (λ (v : Taken). v.id < next) _
      (λ e. h (near N s d) (leb-false 0x8000 _ (not-true _ (both _ _ (both _ _ (both _ _ e).0).1).1)))
      (λ _. b)

  takes_below : (m : Marks) → Below next m → (s : ℕ) → (takes N m s).id < next
  unfolding takes
  takes_below m h s = upto-ind (λ k (t : Taken). t.id < next) (look N m s) _ 4 pos (λ k t _ p. look_below m h s k t p)

  wrote_below : (m : Marks) → Below next m → (e : ℕ) (out : Marks) → Below next out → Below next (wrote N m e out)
  unfolding wrote put
  wrote_below m h e out o =
      if-ind (λ (v : Marks). Below next v) (finds N m e)
      (λ _ x. get_or-set_cases out.ids e (takes N m e).id x (λ v. v < 0x8000 → v < next) (λ _ _. takes_below m h e) (o x))
      (λ _. o)

  written_below : (m : Marks) → Below next m → (es : List ℕ) (out : Marks) → Below next out → Below next (written N m es out)
  unfolding written
  written_below m h [] out o = o
  written_below m h (e ∷ es) out o = written_below m h es (wrote N m e out) (wrote_below m h e out o)

  rounds_below : (k : ℕ) (p : Spread) → Below next p.marks → Below next (rounds N k p).marks
  unfolding rounds round
  rounds_below zero p h = h
  rounds_below (suc k) p h =
      if-ind (λ (v : Spread). Below next v.marks) _
      (λ _. rounds_below k (round N p) (written_below p.marks h p.stack p.marks h))
      (λ _. h)

  expand_below : (level : ℕ) (m : Marks) (es : List ℕ) → Below next m → Below next (expand N level m es).marks
  unfolding expand
  expand_below level m es h = rounds_below _ _ h

pub expand_ids_below : (N : Net) (level next : ℕ) (m : Marks) (es : List ℕ) → All (Inside N) es → IdsBelowNext (spans N) next m.ids → IdsBelowNext (spans N) next (expand N level m es).marks.ids
unfolding Down
expand_ids_below N level next m es al v =
    let d = (expand_down N level m es al).0 in
    record {
      size = d.0 ∙ v.size;
      some = v.some;
      below = expand_below N next v.some level m es v.below;
      plain = v.plain;
    }
