-- Where growth is done, no walkable span without an id has a neighbour of its area with a room's id: the last expansion ends because nothing changes, so such a span found
-- nothing, and a sum that is too great to be taken would be 65,535, which no source distance plus 2 is, as source distances are even; greater ones stop growth (13).
use Prim.Native.Nat.{ℕ, zero, suc, ◌+◌, ◌*◌, ◌/◌, ◌≤◌, ◌<◌}
use native.Mathlib.Omega.{arith}
use native.Mathlib.Decide.{ℕ_discrete}
use mathlib.Core.Path.{◌≡◌, refl, sym, ap, ◌∙◌}
use mathlib.Core.Bool.{Bool, true, false, not, true≢false, false≢true}
use mathlib.Core.List.{List, [], ◌∷◌, map}
use lib.ListN.{length, get_or, length-map}
use lib.Dec.{eqb}
use borrow.Author.Tests.{eqb-true, eqb-false, eq-eqb, ne_eqb, ltb-false, not-true, not-false}
use Rattle.rules.specs.Base.{◌and◌, when◌then◌else◌, upto, tab, keep, any, many}
use Rattle.rules.specs.Field.{Field, none}
use Rattle.rules.specs.Net.{Net, net_of, spans, near, area_of}
use Rattle.rules.specs.Growth.{Marks, id_of, put, walkable, painted, blank, takes, finds, wrote, written, Spread, round, rounds, expand, exceeds, strays, rounds_stray, expand_strays}
use Rattle.rules.specs.Growth.{first_id, Seed, Flow, pushed, visit, flow, flood, Ids, floods, Turn, turn, stops}
use Rattle.rules.specs.Records.{has}
use Rattle.laws.proofs.Basics.{many_le, both, neither, either, or_left, or_right, and_both, if-ind, upto-ind, four_ways, All, store_cases, any-many, zeros-at}
use Rattle.laws.proofs.Grows.{unstopped}
use Rattle.laws.proofs.Lengths.{painted-length, turn-length}
use Rattle.rooms.proofs.Joins.{true_plain}
use Rattle.reasons.specs.Log.{last_marks, Offers, sum_of}
use Rattle.reasons.proofs.Sources.{and_false, takes_none, takes-sum}
use Rattle.reasons.proofs.Written.{Waits, start_waits, finds-takes, round_size, round_took, round_keeps, round_waits}

-- ---------------------------------------------------------------- entries

has-tab : (n at x : ℕ) → at ≤ x → x < at + n → has (tab n at (λ s. s)) x ≡ true
unfolding tab any
has-tab zero at x l h = absurd (omega arith)
has-tab (suc n) at x l h =
    elim (ℕ_discrete x at) [
      | yes e ↦ or_left (eqb x at) (any (eqb x) (tab n (suc at) (λ s. s))) (eq-eqb x at e)
      | no e ↦ or_right (eqb x at) (any (eqb x) (tab n (suc at) (λ s. s))) (has-tab n (suc at) x (omega arith) (omega arith))
    ]

has-keep : (p : ℕ → Bool) (l : List ℕ) (x : ℕ) → has l x ≡ true → p x ≡ true → has (keep p l) x ≡ true
unfolding any keep
has-keep p [] x h e = h
has-keep p (y ∷ l) x h e =
    if-ind (λ (k : List ℕ). has k x ≡ true) (p y)
    (λ _. either (has (y ∷ keep p l) x ≡ true) (eqb x y) (any (eqb x) l) h (λ q. or_left (eqb x y) (any (eqb x) (keep p l)) q)
    (λ q. or_right (eqb x y) (any (eqb x) (keep p l)) (has-keep p l x q e)))
    (λ f. either (has (keep p l) x ≡ true) (eqb x y) (any (eqb x) l) h
    (λ q. absurd (true≢false (sym e ∙ ap p (eqb-true x y q) ∙ f))) (λ q. has-keep p l x q e))

-- an entry that is not marked stays
has-marked : (f : ℕ → Bool) (l : List ℕ) (x : ℕ) → has l x ≡ true → f x ≡ false → has (map (λ e. when f e then none else e) l) x ≡ true
unfolding any
has-marked f [] x h e = h
has-marked f (y ∷ l) x h e =
    either (has (map (λ e. when f e then none else e) (y ∷ l)) x ≡ true) (eqb x y) (any (eqb x) l) h
    (λ q.
    let k : y ≡ x = sym (eqb-true x y q) in
    or_left (eqb x (when f y then none else y)) _
    (if-ind (λ (v : ℕ). eqb x v ≡ true) (f y) (λ t. absurd (true≢false (sym t ∙ ap f k ∙ e))) (λ _. eq-eqb x y (sym k))))
    (λ q. or_right (eqb x (when f y then none else y)) _ (has-marked f l x q e))

any_none : (p : ℕ → Bool) (l : List ℕ) (x : ℕ) → any p l ≡ false → has l x ≡ true → p x ≡ false
unfolding any
any_none p [] x e h = absurd (false≢true h)
any_none p (y ∷ l) x e h =
    let w = neither (p y) (any p l) e in
    either (p x ≡ false) (eqb x y) (any (eqb x) l) h (λ q. ap p (eqb-true x y q) ∙ w.0) (λ q. any_none p l x w.1 q)

-- ---------------------------------------------------------------- source distances are even

abbrev Even : Marks → Type 0
Even m = (t : ℕ) → (k : ℕ) × (get_or m.src t 0 ≡ k + k)

module _ (N : Net) where
  sum_even : (m : Marks) (e : ℕ) → Even m → ((takes N m e).id ≡ 0 → ⊥) → (k : ℕ) × ((takes N m e).far ≡ k + k)
  sum_even m e h z =
      let w = takes-sum N m e z in
      let k = h (near N e w.0) in
      (suc k.0, omega (arith, w.1, k.1))

  wrote_even : (m : Marks) (e : ℕ) (out : Marks) → Even m → Even out → Even (wrote N m e out)
  unfolding wrote put finds
  wrote_even m e out h g =
      if-ind (λ (x : Marks). Even x) _
      (λ f t.
      let w = sum_even m e h (eqb-false _ _ (not-true _ (both _ _ f).1)) in
      store_cases out.src e _ 0 t (λ v. (k : ℕ) × (v ≡ k + k)) (λ _. w) (g t))
      (λ _. g)

  written_even : (m : Marks) (es : List ℕ) (out : Marks) → Even m → Even out → Even (written N m es out)
  unfolding written
  written_even m [] out h g = g
  written_even m (e ∷ es) out h g = written_even m es (wrote N m e out) h (wrote_even m e out h g)

  rounds_even : (k : ℕ) (p : Spread) → Even p.marks → Even (rounds N k p).marks
  unfolding rounds round
  rounds_even zero p h = h
  rounds_even (suc k) p h =
      if-ind (λ (x : Spread). Even x.marks) _ (λ _. rounds_even k (round N p) (written_even p.marks p.stack p.marks h h)) (λ _. h)

  expand_even : (level : ℕ) (m : Marks) (es : List ℕ) → Even m → Even (expand N level m es).marks
  unfolding expand
  expand_even level m es h = rounds_even _ _ h

  put_even : (m : Marks) (s r : ℕ) → Even m → Even (put m s r 0)
  unfolding put
  put_even m s r h t = store_cases m.src s 0 0 t (λ v. (k : ℕ) × (v ≡ k + k)) (λ _. (0, refl)) (h t)

  module _ (dist : List ℕ) where
    visit_even : (q : Seed) (c : ℕ) (f : Flow) → Even f.marks → Even (visit N dist q c f).marks
    unfolding visit pushed
    visit_even q c f h =
        if-ind (λ (x : Flow). Even x.marks) _ (λ _. h)
        (λ _. upto-ind (λ _ (x : Flow). Even x.marks) (pushed N dist q c) _ 4 h
        (λ d x _ p. if-ind (λ (v : Flow). Even v.marks) _ (λ _. put_even x.marks (near N c d) q.id p) (λ _. p)))

    flow_even : (q : Seed) (k : ℕ) (todo : List ℕ) (m : Marks) (n : ℕ) → Even m → Even (flow N dist q k todo m n).marks
    unfolding flow
    flow_even q zero todo m n h = h
    flow_even q (suc k) [] m n h = h
    flow_even q (suc k) (c ∷ cs) m n h = flow_even q k _ _ _ (visit_even q c (record { todo = cs; marks = m; count = n }) h)

    flood_even : (level id : ℕ) (m : Marks) (s : ℕ) → Even m → Even (flood N dist level id m s).marks
    unfolding flood
    flood_even level id m s h = flow_even _ _ _ _ _ (put_even m s id h)

    floods_even : (level : ℕ) (es : List ℕ) (m : Marks) (id : ℕ) → Even m → Even (floods N dist level es m id).marks
    unfolding floods
    floods_even level [] m id h = h
    floods_even level (e ∷ es) m id h =
        if-ind (λ (x : Ids). Even x.marks) _ (λ _. floods_even level es _ _ (flood_even level id m e h)) (λ _. floods_even level es m id h)

    turn_even : (top k : ℕ) (t : Turn) → Even t.marks → Even (turn N dist top k t).marks
    unfolding turn
    turn_even top k t h = floods_even _ _ _ _ (expand_even _ t.marks _ h)

-- ---------------------------------------------------------------- one round

-- an unused entry
abbrev vacant : ℕ → Bool
vacant e = not (eqb e none)

finds-vacant : (N : Net) (m : Marks) (e : ℕ) → finds N m e ≡ true → vacant e ≡ true
unfolding finds
finds-vacant N m e f = (both _ _ f).0

-- one more entry, marked or not (b), unused or not (u)
one_more_lem : (b u : Bool) (A B C : ℕ) → (b ≡ true → u ≡ true) → A + B ≡ C
    → (when (when b then false else u) then suc A else A) + (when b then suc B else B) ≡ (when u then suc C else C)
unfolding when◌then◌else◌
one_more_lem true true A B C k r = omega arith
one_more_lem true false A B C k r = absurd (false≢true (k refl))
one_more_lem false true A B C k r = omega arith
one_more_lem false false A B C k r = r

vacant-marked : (b : Bool) (e : ℕ) → vacant (when b then none else e) ≡ (when b then false else vacant e)
unfolding when◌then◌else◌
vacant-marked true e = refl
vacant-marked false e = refl

-- an unused entry for each that f marks
marks_used : (f : ℕ → Bool) → ((e : ℕ) → f e ≡ true → vacant e ≡ true) → (es : List ℕ)
    → many vacant (map (λ e. when f e then none else e) es) + many f es ≡ many vacant es
unfolding many
marks_used f h [] = refl
marks_used f h (e ∷ es) = rw (vacant-marked (f e) e) (one_more_lem (f e) (vacant e) _ _ _ (h e) (marks_used f h es))

round_stack : (N : Net) (p : Spread) (s : ℕ) → has p.stack s ≡ true → finds N p.marks s ≡ false → has (round N p).stack s ≡ true
unfolding round
round_stack N p s h e = has-marked (finds N p.marks) p.stack s h e

-- a round that changes something uses up an entry
fewer : (N : Net) (p : Spread) (k : ℕ) → many vacant p.stack < suc k → any (finds N p.marks) p.stack ≡ true → many vacant (round N p).stack < k
unfolding round
fewer N p k l t = omega (arith, any-many (finds N p.marks) p.stack t, marks_used (finds N p.marks) (finds-vacant N p.marks) p.stack)

-- an entry of id 0 stays
has_zero : (m : Marks) (l : List ℕ) (x : ℕ) → has l x ≡ true → id_of m x ≡ 0 → has (map (λ e. when eqb (id_of m e) 0 then e else none) l) x ≡ true
unfolding any
has_zero m [] x h e = h
has_zero m (y ∷ l) x h e =
    either (has (map (λ e. when eqb (id_of m e) 0 then e else none) (y ∷ l)) x ≡ true) (eqb x y) (any (eqb x) l) h
    (λ q.
    let k : x ≡ y = eqb-true x y q in
    or_left (eqb x (when eqb (id_of m y) 0 then y else none)) _
    (if-ind (λ (v : ℕ). eqb x v ≡ true) (eqb (id_of m y) 0) (λ _. q) (λ f. absurd (eqb-false _ _ f (ap (id_of m) (sym k) ∙ e)))))
    (λ q. or_right (eqb x (when eqb (id_of m y) 0 then y else none)) _ (has_zero m l x q e))

finds-none : (N : Net) (m : Marks) (s : ℕ) → finds N m s ≡ false → (s ≡ none → ⊥) → (takes N m s).id ≡ 0
unfolding finds ◌and◌
finds-none N m s f n = eqb-true _ _ (not-false _ (rw (ne_eqb s none n) at f))

strays-each : (N : Net) (m : Marks) (s : ℕ) → (s ≡ none → ⊥) → strays N m s ≡ false
    → (exceeds N m s 0 ≡ false) × (exceeds N m s 1 ≡ false) × (exceeds N m s 2 ≡ false) × (exceeds N m s 3 ≡ false)
unfolding strays
strays-each N m s n e =
    let a = neither _ _ (and_false _ _ e (ap not (ne_eqb s none n))) in
    let b = neither _ _ a.0 in
    let c = neither _ _ b.0 in
    (c.0, c.1, b.1, a.1)

exceeds-sum : (N : Net) (m : Marks) (s d : ℕ) → exceeds N m s d ≡ false → Offers N m s d → sum_of N m s d ≤ 65535
unfolding exceeds
exceeds-sum N m s d e o = ltb-false _ _ (and_false _ _ e (and_both _ _ (eq-eqb _ _ o.0) (true_plain _ o.1)))

-- an unused entry that does not stray computes no sum above 65,535
strays-sum : (N : Net) (m : Marks) (s : ℕ) → (s ≡ none → ⊥) → strays N m s ≡ false → (d : ℕ) → d < 4 → Offers N m s d → sum_of N m s d ≤ 65535
strays-sum N m s n e =
    let w = strays-each N m s n e in
    four_ways (λ d. Offers N m s d → sum_of N m s d ≤ 65535) (exceeds-sum N m s 0 w.0) (exceeds-sum N m s 1 w.1) (exceeds-sum N m s 2 w.2) (exceeds-sum N m s 3 w.3)

odd : (k x : ℕ) → x ≡ k + k + 2 → 65535 ≤ x → x ≤ 65535 → ⊥
odd k x e g h = omega arith

-- ---------------------------------------------------------------- the last expansion

module _ (N : Net) (s : ℕ) (inside : s < spans N) (few : spans N ≤ 65535) where
  some_span : s ≡ none → ⊥
  some_span e = omega arith

  -- an id that the span has stays
  rounds-keep : (k : ℕ) (p : Spread) → All (Waits p.marks) p.stack → (id_of p.marks s ≡ 0 → ⊥) → id_of (rounds N k p).marks s ≡ 0 → ⊥
  unfolding rounds
  rounds-keep zero p w z = z
  rounds-keep (suc k) p w z =
      if-ind (λ (x : Spread). id_of x.marks s ≡ 0 → ⊥) _
      (λ _. rounds-keep k (round N p) (round_waits N p w) (λ e. z (sym (round_keeps N p w s some_span z) ∙ e))) (λ _. z)

  -- what the last round leaves: the span in the stack, finding nothing, with no sum that is too great
  record Ends (x : Spread) : Type 0 where
    finds-not : finds N x.marks s ≡ false
    strays-not : strays N x.marks s ≡ false

  rounds-end : (k : ℕ) (p : Spread) → All (Waits p.marks) p.stack → length p.marks.ids ≡ spans N → many vacant p.stack < k → rounds_stray N k p ≡ false
      → has p.stack s ≡ true → id_of (rounds N k p).marks s ≡ 0 → Ends (rounds N k p)
  unfolding rounds rounds_stray
  rounds-end zero p w size l o h = absurd (omega arith)
  rounds-end (suc k) p w size l o h =
      let u = neither _ _ o in
      if-ind (λ (x : Spread). id_of x.marks s ≡ 0 → Ends x) (any (finds N p.marks) p.stack)
      (λ t z.
      let rest : rounds_stray N k (round N p) ≡ false = and_false _ _ u.1 t in
      rounds-end k (round N p) (round_waits N p w) (round_size N p ∙ size) (fewer N p k l t) rest (stays t z) z)
      (λ t z. record { finds-not = any_none (finds N p.marks) p.stack s t h; strays-not = any_none (strays N p.marks) p.stack s u.0 h })
    where
      stays : any (finds N p.marks) p.stack ≡ true → id_of (rounds N k (round N p)).marks s ≡ 0 → has (round N p).stack s ≡ true
      stays t z = go (finds N p.marks s) refl
        where
          go : (b : Bool) → finds N p.marks s ≡ b → has (round N p).stack s ≡ true
          go true e =
              absurd (rounds-keep k (round N p) (round_waits N p w)
              (λ q. finds-takes N p.marks s e (sym (round_took N p s h e (rw size inside)) ∙ q)) z)
          go false e = round_stack N p s h e

  -- a span of id 0 that is walkable stands in the stack from the first, and is in no reach of a room at the end
  module _ (m : Marks) (even : Even m) (size : length m.ids ≡ spans N) (walks : area_of N s ≡ 0 → ⊥) where
    abbrev es : List ℕ
    es = blank N.areas m.ids

    abbrev last : Marks
    last = (expand N 0 m es).marks

    abbrev begin : Spread
    begin = record { marks = m; stack = map (λ e. when eqb (id_of m e) 0 then e else none) es }

    begin_waits : All (Waits m) (map (λ e. when eqb (id_of m e) 0 then e else none) es)
    begin_waits = start_waits m es

    few_vacant : many vacant (map (λ e. when eqb (id_of m e) 0 then e else none) es) < suc (length es)
    few_vacant = let h = many_le vacant (map (λ e. when eqb (id_of m e) 0 then e else none) es) in omega (arith, length-map es (λ e. when eqb (id_of m e) 0 then e else none))

    module _ (o : expand_strays N 0 m es ≡ false) (z : id_of last s ≡ 0) where
      at_first : id_of m s ≡ 0
      unfolding expand when◌then◌else◌
      at_first = elim (ℕ_discrete (id_of m s) 0) [ yes e ↦ e | no e ↦ absurd (rounds-keep (suc (length es)) begin begin_waits e z) ]

      -- it waits
      in_blank : has es s ≡ true
      unfolding blank walkable area_of
      in_blank =
          has-keep (λ x. walkable N.areas x and eqb (get_or m.ids x 0) 0) (tab (spans N) 0 (λ x. x)) s (has-tab (spans N) 0 s (omega arith) (omega arith))
          (and_both _ _ (ap not (ne_eqb (get_or N.areas s 256) 0 walks)) (eq-eqb (id_of m s) 0 at_first))

      in_stack : has (map (λ e. when eqb (id_of m e) 0 then e else none) es) s ≡ true
      in_stack = has_zero m es s in_blank at_first

      ends : Ends (expand N 0 m es)
      unfolding expand expand_strays when◌then◌else◌
      ends = rounds-end (suc (length es)) begin begin_waits size few_vacant o in_stack z

      -- no neighbour of its area has a room's id
      pub out_of_reach : (d : ℕ) → d < 4 → Offers N last s d → ⊥
      out_of_reach d l f =
          let t : (takes N last s).id ≡ 0 = finds-none N last s ends.finds-not some_span in
          let k = expand_even N 0 m es even (near N s d) in
          odd k.0 (sum_of N last s d) (omega (arith, k.1)) (takes_none N last s t d l f) (strays-sum N last s some_span ends.strays-not d l f)

-- ---------------------------------------------------------------- all of growth

painted_even : (F : Field) (b : ℕ) → Even (painted F b)
unfolding painted
painted_even F b t = (0, zeros-at (length F.area) t)

-- a walkable span that has no id when growth is done has no neighbour of its area with a room's id
pub settled : (F : Field) (dist : List ℕ) (most b s : ℕ) → stops F dist most b ≡ 0 → s < spans (net_of F) → spans (net_of F) ≤ 65535 → (area_of (net_of F) s ≡ 0 → ⊥)
    → id_of (last_marks F dist most b) s ≡ 0 → (d : ℕ) → d < 4 → Offers (net_of F) (last_marks F dist most b) s d → ⊥
unfolding last_marks
settled F dist most b s o inside few walks =
    let N = net_of F in
    let top = 2 * ((most + 1) / 2) in
    let start : Turn = record { marks = painted F b; stacks = []; next = first_id b } in
    let t = upto (top / 2) (turn N dist top) start in
    let even : Even t.marks = upto-ind (λ _ (x : Turn). Even x.marks) (turn N dist top) start (top / 2) (painted_even F b) (λ k x _ p. turn_even N dist top k x p) in
    let size : length t.marks.ids ≡ spans N =
    upto-ind (λ _ (x : Turn). length x.marks.ids ≡ spans N) (turn N dist top) start (top / 2) (painted-length F b) (λ k x _ p. turn-length N dist top k x ∙ p) in
    λ z. out_of_reach N s inside few t.marks even size walks (unstopped F dist most b o).last z
