-- The ids never run out: the next id after all turns is at most the first and the number of spans.
-- Through every expansion and flood a span with an id keeps one, and each success gives one to a span of id 0: next id and spans of id 0 together do not grow.
use Prim.Native.Nat.{ℕ, zero, suc, ◌+◌, ◌*◌, ◌-◌, ◌/◌, ◌%◌, ◌≤◌, ◌<◌}
use native.Mathlib.Omega.{arith}
use native.Mathlib.Decide.{ℕ_discrete}
use mathlib.Core.Path.{◌≡◌, refl, ◌∙◌}
use mathlib.Core.Bool.{Bool, true, false}
use mathlib.Core.Logic.{◌⊎◌, inl, inr}
use mathlib.Core.List.{List, [], ◌∷◌}
use lib.ListN.{length, get_or, length-set}
use lib.Dec.{eqb}
use borrow.Author.Tests.{eqb-false, not-true}
use Rattle.rules.specs.Base.{when◌then◌else◌, upto}
use Rattle.rules.specs.Field.{Field, none}
use Rattle.rules.specs.Net.{Net, net_of, spans, area_of}
use Rattle.rules.specs.Growth.{Marks, id_of, put, finds, wrote, written, Spread, round, rounds, expand, expand_strays, floods_run_out, or_else, Turn, loaded, turn, turn_stops, turns_stop, sorted, remains, blank, painted, first_id, grown, stops}
use Rattle.laws.proofs.Basics.{both, if-ind, upto-ind, All, get_or-set_cases, tab-each, set_cases, keep_all, append_all, map_all, tab_all}
use Rattle.laws.proofs.Lengths.{painted-length}
use Rattle.laws.proofs.NextId.{zeros, zeros_le, zeros_down, floods_next}

-- the first that is not 0 is none
first-none : (a b : ℕ) → or_else a b ≡ 0 → (a ≡ 0) × (b ≡ 0)
unfolding or_else
first-none zero b e = (refl, e)
first-none (suc a) b e = absurd (omega arith)

-- ---------------------------------------------------------------- an expansion

abbrev pub Inside : Net → ℕ → Type 0
Inside N e = (e ≡ none → ⊥) → e < spans N

module _ (N : Net) where
  -- no span loses its id
  unfoldable pub Down : Marks → Marks → Type 0
  Down out x = (length x.ids ≡ length out.ids) × ((t : ℕ) → id_of x t ≡ 0 → id_of out t ≡ 0)

  wrote_down : (m : Marks) (e : ℕ) (out : Marks) → Down out (wrote N m e out)
  unfolding wrote finds put Down
  wrote_down m e out =
      if-ind (λ (x : Marks). Down out x) _
      (λ f. (
        length-set out.ids e _,
        λ t. get_or-set_cases out.ids e _ t (λ r. r ≡ 0 → id_of out t ≡ 0) (λ _ k. absurd (eqb-false _ _ (not-true _ (both _ _ f).1) k)) (λ k. k),
      ))
      (λ _. (refl, λ t k. k))

  written_down : (m : Marks) (es : List ℕ) (out : Marks) → Down out (written N m es out)
  unfolding written Down
  written_down m [] out = (refl, λ t k. k)
  written_down m (e ∷ es) out =
      let r = written_down m es (wrote N m e out) in
      let s = wrote_down m e out in
      (r.0 ∙ s.0, λ t k. s.1 t (r.1 t k))

  rounds_down : (k : ℕ) (p : Spread) → All (Inside N) p.stack → Down p.marks (rounds N k p).marks × All (Inside N) (rounds N k p).stack
  unfolding rounds round Down
  rounds_down zero p h = ((refl, λ t k. k), h)
  rounds_down (suc k) p h =
      if-ind (λ (x : Spread). Down p.marks x.marks × All (Inside N) x.stack) _
      (λ _.
      let s = written_down p.marks p.stack p.marks in
      let r = rounds_down k (round N p) (map_all (Inside N) (Inside N) _ p.stack (λ x i. if-ind (Inside N) _ (λ _ n. absurd (n refl)) (λ _. i)) h) in
      ((r.0.0 ∙ s.0, λ t j. s.1 t (r.0.1 t j)), r.1))
      (λ _. ((refl, λ t k. k), h))

  pub expand_down : (level : ℕ) (m : Marks) (es : List ℕ) → All (Inside N) es → Down m (expand N level m es).marks × All (Inside N) (expand N level m es).stack
  unfolding expand
  expand_down level m es h = rounds_down _ _ (map_all (Inside N) (Inside N) _ es (λ x i. if-ind (Inside N) _ (λ _. i) (λ _ n. absurd (n refl))) h)

  pub down_zeros : (m x : Marks) → Down m x → zeros x.ids ≤ zeros m.ids
  unfolding Down
  down_zeros m x h = zeros_down m.ids x.ids h.0 (λ t k _. h.1 t k)

  -- ---------------------------------------------------------------- turns

  pub record Room (first : ℕ) (t : Turn) : Type 0 where
    pub size : length t.marks.ids ≡ spans N
    pub some : 0 < t.next
    pub plain : t.next < 0x8000
    pub room : t.next + zeros t.marks.ids ≤ first + spans N
    pub inside : (j : ℕ) → All (Inside N) (get_or t.stacks j [])

  pub blank_inside : (ids : List ℕ) → All (Inside N) (blank N.areas ids)
  unfolding blank
  blank_inside ids = keep_all (Inside N) _ _ (tab_all (Inside N) (spans N) 0 (λ i g _. omega arith))

  remains_inside : (ids es : List ℕ) → All (Inside N) es → All (Inside N) (remains ids es)
  unfolding remains
  remains_inside ids es h = keep_all (Inside N) _ es h

  pub loaded_inside : (dist : List ℕ) (level j : ℕ) (t : Turn) → ((i : ℕ) → All (Inside N) (get_or t.stacks i []))
      → (i : ℕ) → All (Inside N) (get_or (loaded N dist level j t) i [])
  unfolding loaded sorted
  loaded_inside dist level j t h i =
      if-ind (λ (s : List (List ℕ)). All (Inside N) (get_or s i [])) _
      (λ _. tab-each (All (Inside N)) 8 0 _ [] i tt (λ a. keep_all (Inside N) _ _ (blank_inside t.marks.ids)))
      (λ _. set_cases t.stacks j _ [] i (All (Inside N)) (append_all (Inside N) (get_or t.stacks j []) (remains t.marks.ids (get_or t.stacks (j - 1) [])) (h j) (remains_inside t.marks.ids (get_or t.stacks (j - 1) []) (h (j - 1)))) (h i))

  -- a turn that does not stop
  pub turn_goes : (dist : List ℕ) (top k : ℕ) (t : Turn) → turn_stops N dist top k t ≡ 0
      → let level = top - 2 * (k + 1) in
      let entries = get_or (loaded N dist level (k % 8) t) (k % 8) [] in
      let e = expand N level t.marks entries in
      (expand_strays N level t.marks entries ≡ false) × (floods_run_out N dist level e.stack e.marks t.next ≡ false)
  unfolding turn_stops when◌then◌else◌
  turn_goes dist top k t o =
      let level = top - 2 * (k + 1) in
      let entries = get_or (loaded N dist level (k % 8) t) (k % 8) [] in
      let e = expand N level t.marks entries in
      neither_stops (expand_strays N level t.marks entries) (floods_run_out N dist level e.stack e.marks t.next) o
    where
      neither_stops : (a b : Bool) → ◌≡◌ {A = ℕ} (when a then 13 else when b then 12 else 0) 0 → (a ≡ false) × (b ≡ false)
      neither_stops true b o = absurd (omega arith)
      neither_stops false true o = absurd (omega arith)
      neither_stops false false o = (refl, refl)

  pub turn_room : (dist : List ℕ) → ((s : ℕ) → s < spans N → area_of N s < 256) → (first top k : ℕ) (t : Turn) → turn_stops N dist top k t ≡ 0
      → Room first t → Room first (turn N dist top k t)
  unfolding turn Down
  turn_room dist bytes first top k t o h =
      let level = top - 2 * (k + 1) in
      let j = k % 8 in
      let stacks = loaded N dist level j t in
      let ins = loaded_inside dist level j t h.inside in
      let e = expand N level t.marks (get_or stacks j []) in
      let ex = expand_down level t.marks (get_or stacks j []) (ins j) in
      let z = down_zeros t.marks e.marks ex.0 in
      let r = floods_next N dist level bytes e.stack ex.1 e.marks t.next h.some h.plain (ex.0.0 ∙ h.size) (turn_goes dist top k t o).1 in
      record {
        size = r.1;
        some = omega (arith, r.2, h.some);
        plain = r.3;
        room = omega (arith, r.0, h.room);
        inside = λ i. set_cases stacks j e.stack [] i (All (Inside N)) ex.1 (ins i);
      }

  -- turns that do not stop have none that does
  pub turns_go : (dist : List ℕ) (top : ℕ) (start : Turn) (n : ℕ) → turns_stop N dist top n start ≡ 0
      → (k : ℕ) → k < n → turn_stops N dist top k (upto k (turn N dist top) start) ≡ 0
  unfolding turns_stop
  turns_go dist top start zero o k h = absurd (omega arith)
  turns_go dist top start (suc n) o k h =
      let r = first-none _ _ o in
      elim (ℕ_discrete k n) [ yes e ↦ rw e r.1 | no e ↦ turns_go dist top start n r.0 k (omega arith) ]

pub first_few : (b : ℕ) → (0 < first_id b) × (first_id b ≤ 5)
unfolding first_id
first_few b = if-ind (λ r. (0 < r) × (r ≤ 5)) (eqb b 0) (λ _. omega arith) (λ _. omega arith)

-- growth that does not stop: no turn does, and the last expansion does not
pub record Unstopped (F : Field) (dist : List ℕ) (most b : ℕ) : Type 0 where
  pub turns : turns_stop (net_of F) dist (2 * ((most + 1) / 2)) (2 * ((most + 1) / 2) / 2) (record { marks = painted F b; stacks = []; next = first_id b }) ≡ 0
  pub last : let t = upto (2 * ((most + 1) / 2) / 2) (turn (net_of F) dist (2 * ((most + 1) / 2))) (record { marks = painted F b; stacks = []; next = first_id b }) in
      expand_strays (net_of F) 0 t.marks (blank (net_of F).areas t.marks.ids) ≡ false

thirteen : (a : Bool) → ◌≡◌ {A = ℕ} (when a then 13 else 0) 0 → a ≡ false
unfolding when◌then◌else◌
thirteen true e = absurd (omega arith)
thirteen false e = refl

pub unstopped : (F : Field) (dist : List ℕ) (most b : ℕ) → stops F dist most b ≡ 0 → Unstopped F dist most b
unfolding stops
unstopped F dist most b o = let r = first-none _ _ o in record { turns = r.0; last = thirteen _ r.1 }

-- where growth does not stop, the next id is not flagged, and at most the first and the number of spans
pub grown_room : (F : Field) (dist : List ℕ) (most b : ℕ) → ((s : ℕ) → s < spans (net_of F) → area_of (net_of F) s < 256) → stops F dist most b ≡ 0
    → ((grown F dist most b).next < 0x8000) × ((grown F dist most b).next ≤ first_id b + spans (net_of F))
unfolding grown upto
grown_room F dist most b bytes o =
    let N = net_of F in
    let top = 2 * ((most + 1) / 2) in
    let first : (0 < first_id b) × (first_id b ≤ 5) = first_few b in
    let start : Turn = record { marks = painted F b; stacks = []; next = first_id b } in
    let size : length (painted F b).ids ≡ spans N = painted-length F b in
    let go = turns_go N dist top start (top / 2) (unstopped F dist most b o).turns in
    let r = upto-ind (λ k (t : Turn). (t ≡ upto k (turn N dist top) start) × Room N (first_id b) t) (turn N dist top) start (top / 2)
    (refl, record { size = size; some = first.0; plain = omega arith; room = omega (arith, zeros_le (painted F b).ids); inside = λ j. tt })
    (λ k t g h. (rw h.0 refl, turn_room N dist bytes (first_id b) top k t (rw h.0 (go k g)) h.1)) in
    (r.1.plain, omega (arith, r.1.room))

-- ---------------------------------------------------------------- the numbers that stop it

abbrev pub StopNumber : ℕ → Type 0
StopNumber r = (r ≡ 0) ⊎ ((r ≡ 12) ⊎ (r ≡ 13))

or_number : (a b : ℕ) → StopNumber a → StopNumber b → StopNumber (or_else a b)
unfolding or_else
or_number zero b p q = q
or_number (suc a) b p q = p

turn_number : (N : Net) (dist : List ℕ) (top k : ℕ) (t : Turn) → StopNumber (turn_stops N dist top k t)
unfolding turn_stops
turn_number N dist top k t = if-ind StopNumber _ (λ _. inr (inr refl)) (λ _. if-ind StopNumber _ (λ _. inr (inl refl)) (λ _. inl refl))

turns_number : (N : Net) (dist : List ℕ) (top k : ℕ) (t : Turn) → StopNumber (turns_stop N dist top k t)
unfolding turns_stop
turns_number N dist top zero t = inl refl
turns_number N dist top (suc k) t = or_number _ _ (turns_number N dist top k t) (turn_number N dist top k _)

pub stop_number : (F : Field) (dist : List ℕ) (most b : ℕ) → StopNumber (stops F dist most b)
unfolding stops
stop_number F dist most b = or_number _ _ (turns_number (net_of F) dist _ _ _) (if-ind StopNumber _ (λ _. inr (inr refl)) (λ _. inl refl))
