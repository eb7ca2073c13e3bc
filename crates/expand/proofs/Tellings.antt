-- What an expansion does to the watched span. Whose id it takes is read as the rule reads it; it stands among a round's changes exactly if the rule's
-- round changes it (`change_queued`, `queued_change`); and what the rounds to come tell is what all of them tell. Assumes nothing.
use mathlib.Core.Path.{◌≡◌, refl, sym, ap, ◌∙◌}
use mathlib.Core.Bool.{Bool, true, false, true≢false}
use mathlib.Core.List.{List, map}
use Prim.Native.Nat.{ℕ, zero, suc, ◌+◌, ◌-◌, ◌*◌, ◌≤◌, ◌<◌}
use native.Mathlib.Omega.{arith}
use Rattle.std.specs.Option.{MatchOption}
use Rattle.std.proofs.Common.{Option, Some, None}
use native.Mathlib.Decide.{ℕ_discrete}
use lib.ListN.{length, get_or}
use lib.Dec.{eqb}
use Rattle.rules.specs.Base.{◌and◌, when◌then◌else◌, any}
use Rattle.rules.specs.Field.{none}
use Rattle.rules.specs.Net.{Net, spans, near}
use Rattle.rules.specs.Growth.{Marks, takes, finds, Spread, round}
use Rattle.rules.specs.Refusals.{most_spans}
use Rattle.rules.specs.Reasons.{Story, took_from, gives, source, round_tells, rounds_tell}
use Rattle.laws.proofs.Basics.{and_both, both, if-ind}
use Rattle.net.specs.Table.{net_at, Closed}
use Rattle.net.proofs.Tables.{near-at, spans-at}
use Rattle.flood.specs.Stack.{marks_at}
use Rattle.expand.specs.Layout.{offers, Sight, fresh, list_at}
use Rattle.expand.specs.Front.{Queued, Board, Spans, Front, front_of}
use Rattle.expand.specs.Told.{Sought, source_at, RoundTold}
use Rattle.expand.proofs.Waves.{has, keep_in, keep_out, changes}
use Rattle.expand.proofs.Fronts.{change_queued, queued_change}
use Rattle.expand.proofs.Looks.{none₁, guard, at-far}

-- ---------------------------------------------------------------- whose id a span takes

module _ (table : ℕ) (ar ids ws : List ℕ) (s own d a far : ℕ) (v : Sight table ar ids ws s) (h : d < 4) (q : own ≡ get_or ar s 0) (n : a ≡ get_or ws (table + (4 * s + d)) 0)
    (b : Bool) (o : b ≡ offers ar ids own a) where
  pub gives_none : b ≡ false → false ≡ gives (net_at table ar ws) (marks_at (length ar) ids ws) s far d
  unfolding gives
  gives_none y = sym (none₁ _ _ (guard table ar ids ws s own d a v h q n b o ∙ y))

  pub gives_sum : b ≡ true → a < length ar → (r : Bool) → r ≡ eqb (get_or ws a 0 + 2) far → r ≡ gives (net_at table ar ws) (marks_at (length ar) ids ws) s far d
  unfolding gives ◌and◌
  gives_sum y i r e =
      rw (guard table ar ids ws s own d a v h q n b o ∙ y, at-far table ar ids ws s own d a v h q n b o (record { id = 0; far = 0 }) false y i _ refl) e

-- the neighbour in direction d, as read
pub side_is : (table : ℕ) (ar ids ws : List ℕ) (s : ℕ) → Sight table ar ids ws s → (d : ℕ) → d < 4 → (o : ℕ) → o ≡ get_or ws (table + (4 * s + d)) 0 → o ≡ near (net_at table ar ws) s d
side_is table ar ids ws s v d h o e = e ∙ sym (near-at table ar ws s d v.room v.span h)

-- the neighbour in the first of k directions from d that has the sum, or else in the one past them
pub source_from : Net → Marks → ℕ → ℕ → ℕ → ℕ → ℕ
source_from N m s far zero d = near N s d
source_from N m s far (suc k) d = when gives N m s far d then near N s d else source_from N m s far k (d + 1)

-- at direction d of the first three: what is left to look at gives what all give
pub record Looking (N : Net) (m : Marks) (s far d : ℕ) : Type 0 where
  pub few : d ≤ 3
  pub same : source_at N m s far ≡ source_from N m s far (3 - d) d

pub source_start : (N : Net) (m : Marks) (s far : ℕ) → Looking N m s far 0
unfolding source_at source_from
source_start N m s far = record { few = omega arith; same = refl }

module _ (N : Net) (m : Marks) (s far d : ℕ) (v : Looking N m s far d) where
  module _ (h : d < 3) (a : Bool) (ea : a ≡ gives N m s far d) where
    left : 3 - d ≡ suc (3 - (d + 1))
    left = omega arith

    now_at : source_at N m s far ≡ when a then near N s d else source_from N m s far (3 - (d + 1)) (d + 1)
    unfolding source_from
    now_at = rw ea (rw left at v.same)

    pub source_here : a ≡ true → (o : ℕ) → o ≡ near N s d → o ≡ source_at N m s far
    unfolding when◌then◌else◌
    source_here z o eo = eo ∙ sym (rw z at now_at)

    pub source_on : a ≡ false → Looking N m s far (d + 1)
    unfolding when◌then◌else◌
    source_on z = record { few = omega arith; same = rw z at now_at }

  pub source_last : 3 ≤ d → (o : ℕ) → o ≡ near N s 3 → o ≡ source_at N m s far
  unfolding source_from
  source_last h o eo =
      let z : d ≡ 3 = omega (arith, v.few) in
      eo ∙ sym (rw z at v.same)

source_is : (N : Net) (m : Marks) (s far : ℕ) → far ≡ (takes N m s).far → source_at N m s far ≡ source N m s
unfolding source_at source
source_is N m s far e = rw e

-- ---------------------------------------------------------------- the queue

-- as `find` gives it
pub sought_first : (ws : List ℕ) (e lo hi s : ℕ) (r : Option ℕ)
    → MatchOption r ((k : ℕ) → lo ≤ k → k < hi → get_or ws (e + 3 * k) 0 ≡ s → ⊥)
    (λ i. (lo ≤ i) × (i < hi) × (get_or ws (e + 3 * i) 0 ≡ s) × ((k : ℕ) → lo ≤ k → k < i → get_or ws (e + 3 * k) 0 ≡ s → ⊥)) → Sought ws e lo hi s r
sought_first ws e lo hi s (Some i) h = record { found = λ j z. let e : i ≡ j = cc in rw (← e) (h.0, h.1, h.2); nowhere = λ z. cc }
sought_first ws e lo hi s None h = record { found = λ j z. cc; nowhere = λ _ q. h q.at q.from q.to q.is }

-- what is queued is a span
pub queued_span : (ws : List ℕ) (n e lo hi s : ℕ) → Spans n e lo hi ws → Queued ws e lo hi s → s < n
queued_span ws n e lo hi s v q = rw q.is at (v.span q.at q.from q.to)

-- and so is what was sought and found
pub sought_span : (ws : List ℕ) (n e lo hi s i : ℕ) (r : Option ℕ) → Spans n e lo hi ws → Sought ws e lo hi s r → r ≡ Some i → s < n
sought_span ws n e lo hi s i r v k z = let f = k.found i z in rw f.2 at (v.span i f.0 f.1)

module _ (N : Net) (m : Marks) (ws : List ℕ) (n e lo hi : ℕ) (y : Story) (v : Spans n e lo hi ws) where
  -- a build that watches no span
  pub told_none : n ≤ most_spans → y.span ≡ 65535 → RoundTold N m ws e lo hi y y
  told_none h z = record { took = λ q. absurd (let l = queued_span ws n e lo hi y.span v q in omega arith); still = λ _. refl }

  module _ (r : Option ℕ) (k : Sought ws e lo hi y.span r) where
    pub told_still : r ≡ None → RoundTold N m ws e lo hi y y
    told_still z = record { took = λ q. absurd (k.nowhere z q); still = λ _. refl }

    -- the change that was found is the watched span's
    pub told_took : (i : ℕ) → r ≡ Some i → (far : ℕ) → far ≡ get_or ws (e + 3 * i + 2) 0 → (o : ℕ) → o ≡ source_at N m y.span far
        → RoundTold N m ws e lo hi y (record { span = y.span; from = o; gave = y.gave; objecting = y.objecting })
    unfolding took_from
    told_took i z far ef o eo =
        let f = k.found i z in
        record {
          took = λ _. record { at = i; from = f.0; to = f.1; is = f.2; told = rw (← ef, ← eo) refl };
          still = λ g. absurd (g (record { at = i; from = f.0; to = f.1; is = f.2 }));
        }

-- and whose id it takes is a number of 16 bits: a span, or none
near-small : (N : Net) (s d : ℕ) → Closed N → s < spans N → d < 4 → near N s d < 65536
near-small N s d c h l = elim (ℕ_discrete (near N s d) none) [
  | yes z ↦ omega arith
  | no z ↦ omega (arith, c.inside s d h l z, c.few)
]

source-small : (N : Net) (m : Marks) (s far : ℕ) → Closed N → s < spans N → source_at N m s far < 65536
unfolding source_at
source-small N m s far c h =
    let side : (d : ℕ) → d < 4 → near N s d < 65536 = λ d l. near-small N s d c h l in
    if-ind (λ x. x < 65536) (gives N m s far 0) (λ _. side 0 (omega arith)) (λ _.
    if-ind (λ x. x < 65536) (gives N m s far 1) (λ _. side 1 (omega arith)) (λ _.
    if-ind (λ x. x < 65536) (gives N m s far 2) (λ _. side 2 (omega arith)) (λ _. side 3 (omega arith))))

pub told-small : (b : ℕ) (ar ids ws : List ℕ) (s far o : ℕ) → Sight b ar ids ws s → o ≡ source_at (net_at b ar ws) (marks_at (length ar) ids ws) s far → o < 65536
told-small b ar ids ws s far o v e =
    let h : s < spans (net_at b ar ws) = rw (spans-at b ar ws) v.span in
    omega (arith, e, source-small (net_at b ar ws) (marks_at (length ar) ids ws) s far v.closed h)

pub told_sight : (b : ℕ) (ar ids ws : List ℕ) (e k s : ℕ) → Closed (net_at b ar ws) → Board (length ar) e b k ids ws → s < length ar → Sight b ar ids ws s
told_sight b ar ids ws e k s c v h = record { closed = c; room = v.room; close = v.close; idents = v.idents; low = omega (arith, v.low, v.past); span = h }

-- ---------------------------------------------------------------- rounds

-- what the rule's round changes is an entry that finds an id
in_changes : (N : Net) (n a fill : ℕ) (ids ws : List ℕ) (s : ℕ) → has s (map (fresh ids) (list_at ws a fill)) ≡ true → finds N (marks_at n ids ws) s ≡ true
    → has s (changes N (front_of n a fill ids ws)) ≡ true
unfolding changes front_of
in_changes N n a fill ids ws s h f = keep_in (finds N (marks_at n ids ws)) s (map (fresh ids) (list_at ws a fill)) h f

of_changes : (N : Net) (n a fill : ℕ) (ids ws : List ℕ) (s : ℕ) → has s (changes N (front_of n a fill ids ws)) ≡ true
    → (has s (map (fresh ids) (list_at ws a fill)) ≡ true) × (finds N (marks_at n ids ws) s ≡ true)
unfolding changes front_of
of_changes N n a fill ids ws s h = keep_out (finds N (marks_at n ids ws)) s (map (fresh ids) (list_at ws a fill)) h

-- so the watched span stands among the changes exactly if the round changes it
pub front_told : (N : Net) (n a e fill : ℕ) (ids ws : List ℕ) (lo hi : ℕ) → Front N n a e fill ids ws lo hi → lo ≤ hi → n ≤ length ws → n ≤ most_spans
    → (y y' : Story) → RoundTold N (marks_at n ids ws) ws e lo hi y y' → y' ≡ round_tells N (front_of n a fill ids ws) y
unfolding round_tells front_of
front_told N n a e fill ids ws lo hi v o room few y y' r =
    let s = y.span in
    let p = finds N (marks_at n ids ws) in
    let l = map (fresh ids) (list_at ws a fill) in
    if-ind (λ (x : Story). y' ≡ x) (has s l and p s)
    (λ z.
    let c = both (has s l) (p s) z in
    let t = r.took (change_queued N n a e fill ids ws lo hi v o room few s (in_changes N n a fill ids ws s c.0 c.1)).1 in
    let f : get_or ws (e + 3 * t.at + 2) 0 ≡ (takes N (marks_at n ids ws) s).far = rw t.is at (v.right t.at t.from t.to).far_is in
    t.told ∙ ap (λ (x : ℕ). took_from x y) (source_is N (marks_at n ids ws) s (get_or ws (e + 3 * t.at + 2) 0) f))
    (λ z. r.still (λ q. let k = of_changes N n a fill ids ws s (queued_change N n a e fill ids ws lo hi v o room few s q) in true≢false (sym (and_both (has s l) (p s) k.0 k.1) ∙ z)))

module _ (N : Net) (k : ℕ) (p : Spread) (y : Story) where
  pub tells_on : any (finds N p.marks) p.stack ≡ true → rounds_tell N (suc k) p y ≡ rounds_tell N k (round N p) (round_tells N p y)
  unfolding rounds_tell when◌then◌else◌
  tells_on h = rw h

  pub tells_off : any (finds N p.marks) p.stack ≡ false → rounds_tell N (suc k) p y ≡ y
  unfolding rounds_tell when◌then◌else◌
  tells_off h = rw h

pub tells_none : (N : Net) (p : Spread) (y : Story) → rounds_tell N 0 p y ≡ y
unfolding rounds_tell
tells_none N p y = refl
