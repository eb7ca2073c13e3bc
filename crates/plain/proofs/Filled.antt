-- A room filled span by span: what is left to fill gives what the whole filling gives, and spans that wait together with spans without an id fall,
-- so the rule's fuel, one for each span, is not used up. Assumes nothing.
use Prim.Native.Nat.{ℕ, ◌+◌, ◌-◌, ◌≤◌, ◌<◌}
use native.Mathlib.Omega.{arith}
use mathlib.Core.Path.{◌≡◌, refl, sym, ap, ◌∙◌}
use mathlib.Core.List.{List, [], ◌∷◌}
use lib.ListN.{length, get_or, set, drop, length-set}
use lib.Seq.{get_or-set_same, drop-set-lt}
use Rattle.rules.specs.Base.{upto}
use Rattle.rules.specs.Plain.{Fill, joins, fill, room_from}
use Rattle.space.specs.Space.{tally, stack_at}
use Rattle.space.proofs.Laws.{length-stack_at, stack_at_pop, tally_le}
use Rattle.net.specs.Table.{net_at}
use Rattle.net.proofs.Tables.{spans-at, area_at}
use Rattle.plain.specs.Stack.{Held, Filling, fill_at, Waits}
use Rattle.plain.proofs.FillLaws.{left, fewer, joins_all, fill-turn, fill_done}
use Rattle.plain.proofs.Joining.{net_kept, held_kept}

-- ---------------------------------------------------------------- the start

-- the first span waits, and has the id
module _ (ids ws : List ℕ) (n s id : ℕ) (w : Waits n ids s) (pos : 0 < id) (room : n ≤ length ws) where
  start_stack : stack_at (set ws 0 s) 0 1 ≡ s ∷ []
  unfolding stack_at
  start_stack = rw (get_or-set_same ws 0 s 0 (omega (arith, w.span)))

  pub start-fill : fill_at (set ids s id) (set ws 0 s) 1 ≡ record { todo = s ∷ []; ids = set ids s id }
  unfolding fill_at
  start-fill = rw start_stack

  pub start_filling : Filling n (fill_at (set ids s id) (set ws 0 s) 1)
  start_filling =
      let f = fewer ids s id (omega (arith, w.span, w.size)) w.empty pos in
      rw start-fill (record { size = length-set ids s id ∙ w.size; inside = (w.span, tt); fits = omega (arith, f, tally_le 0 ids, w.size) })

  pub start_past : drop n (set ws 0 s) ≡ drop n ws
  start_past = drop-set-lt n ws 0 s (omega (arith, w.span))

-- ---------------------------------------------------------------- the loop

-- what is left to fill
abbrev pub goes : ℕ → List ℕ → List ℕ → ℕ → ℕ → ℕ → Fill → Fill
goes table ar ws area id k f = fill (net_at table ar ws) area id k f.todo f.ids

pub record Running (table : ℕ) (ar : List ℕ) (area id : ℕ) (ids₀ ws₀ : List ℕ) (ids ws : List ℕ) (top : ℕ) : Type 0 where
  pub held : Held table ar ws
  pub size : length ids ≡ length ids₀
  pub long : length ws ≡ length ws₀
  pub past : drop (length ar) ws ≡ drop (length ar) ws₀
  pub filling : Filling (length ar) (fill_at ids ws top)
  pub fuel : ℕ
  pub enough : top + tally 0 ids ≤ fuel
  pub same : goes table ar ws₀ area id (length ar) (fill_at ids₀ ws₀ 1) ≡ goes table ar ws₀ area id fuel (fill_at ids ws top)

left_at : (ids ws : List ℕ) (top : ℕ) → left (fill_at ids ws top) ≡ top + tally 0 ids
unfolding fill_at
left_at ids ws top = rw (length-stack_at ws 0 top)

pub running_start : (table : ℕ) (ar : List ℕ) (area id : ℕ) (ids ws : List ℕ) → Held table ar ws → Filling (length ar) (fill_at ids ws 1)
    → Running table ar area id ids ws ids ws 1
running_start table ar area id ids ws v f =
    record { held = v; size = refl; long = refl; past = refl; filling = f; fuel = length ar; enough = omega (arith, f.fits, left_at ids ws 1); same = refl }

-- the last of those that wait, and the others
popped : (ids ws : List ℕ) (top : ℕ) → 0 < top → fill_at ids ws top ≡ record { todo = get_or ws (top - 1) 0 ∷ stack_at ws 0 (top - 1); ids = ids }
unfolding fill_at
popped ids ws top h =
    let e : 0 + (top - 1) ≡ top - 1 = omega arith in
    let p = rw e at (stack_at_pop ws 0 top h) in
    rw p

module _ (table : ℕ) (ar : List ℕ) (area id : ℕ) (ids₀ ws₀ : List ℕ) (ids ws : List ℕ) (top : ℕ) (v : Running table ar area id ids₀ ws₀ ids ws top) where
  pub top_in : top ≤ length ar
  top_in = omega (arith, v.filling.fits, left_at ids ws top)

  -- the end: nothing waits
  pub running_done : top ≡ 0 → ids ≡ (goes table ar ws₀ area id (length ar) (fill_at ids₀ ws₀ 1)).ids
  unfolding fill_at stack_at
  running_done z =
      let s = rw z at v.same in
      sym (ap (λ (f : Fill). f.ids) (s ∙ fill_done (net_at table ar ws₀) area id v.fuel ids))

  -- the span that is looked at, and what waits without it
  module _ (more : 0 < top) (c : ℕ) (at : c ≡ get_or ws (top - 1) 0) where
    whole : Filling (length ar) (record { todo = c ∷ stack_at ws 0 (top - 1); ids = ids })
    whole = rw (at, ← popped ids ws top more) v.filling

    pub span_in_lem : c < length ar
    span_in_lem = whole.inside.0

    pub rest_held : Filling (length ar) (fill_at ids ws (top - 1))
    unfolding fill_at
    rest_held = record { size = whole.size; inside = whole.inside.1; fits = omega (arith, whole.fits) }

    -- it has looked in its four directions, which left ids', ws' and top'
    module _ (byte : area < 256) (pos : 0 < id) (ids' ws' : List ℕ) (top' : ℕ)
        (e : fill_at ids' ws' top' ≡ upto 4 (joins (net_at table ar ws) area id c) (fill_at ids ws (top - 1))) where
      kept : Filling (length ar) (fill_at ids' ws' top') × (left (fill_at ids' ws' top') ≡ left (fill_at ids ws (top - 1)))
      kept =
          let r = joins_all (net_at table ar ws) area id byte pos c 4 (fill_at ids ws (top - 1)) (rw (spans-at table ar ws) rest_held) in
          rw e (rw (spans-at table ar ws) at r)

      pub running_falls : top' + tally 0 ids' < top + tally 0 ids
      running_falls = omega (arith, kept.1, left_at ids' ws' top', left_at ids ws (top - 1))

      turned : goes table ar ws₀ area id v.fuel (fill_at ids ws top) ≡ goes table ar ws₀ area id (v.fuel - 1) (fill_at ids' ws' top')
      unfolding fill_at
      turned =
          let n : net_at table ar ws ≡ net_at table ar ws₀ = net_kept table ar ws₀ ws v.held.past v.past in
          let f = rw n at e in
          let p = popped ids ws top more in
          ap (goes table ar ws₀ area id v.fuel) p
          ∙ ap (λ (x : ℕ). fill (net_at table ar ws₀) area id v.fuel (x ∷ stack_at ws 0 (top - 1)) ids) (sym at)
          ∙ fill-turn (net_at table ar ws₀) area id v.fuel c (stack_at ws 0 (top - 1)) ids (omega (arith, v.enough))
          ∙ ap (goes table ar ws₀ area id (v.fuel - 1)) (sym f)

      pub running_on : length ids' ≡ length ids → length ws' ≡ length ws → drop (length ar) ws' ≡ drop (length ar) ws → Running table ar area id ids₀ ws₀ ids' ws' top'
      running_on l g u = record {
        held = held_kept table ar ws ws' v.held g u;
        size = l ∙ v.size;
        long = g ∙ v.long;
        past = u ∙ v.past;
        filling = kept.0;
        fuel = v.fuel - 1;
        enough = omega (arith, v.enough, running_falls);
        same = v.same ∙ turned;
      }

-- the whole: from the first span on
pub filled_is : (table : ℕ) (ar : List ℕ) (id s : ℕ) (ids ws : List ℕ) → Held table ar ws → Waits (length ar) ids s → 0 < id → (ids' : List ℕ)
    → ids' ≡ (goes table ar (set ws 0 s) (get_or ar s 0) id (length ar) (fill_at (set ids s id) (set ws 0 s) 1)).ids
    → ids' ≡ (room_from (net_at table ar ws) id ids s).ids
unfolding room_from
filled_is table ar id s ids ws v w pos ids' e =
    let room : length ar ≤ length ws = omega (arith, v.past, v.room) in
    let n = net_kept table ar ws (set ws 0 s) v.past (start_past ids ws (length ar) s id w pos room) in
    rw (area_at table ar ws s w.span, spans-at table ar ws) (rw (n, start-fill ids ws (length ar) s id w pos room) at e)
