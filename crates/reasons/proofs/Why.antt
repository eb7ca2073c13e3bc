-- "Every reason is what the rules did in that very build": each field of an answer, of an outcome that is not refused, is what the log of that build, its grown ids
-- and its records say (specs/Why.antt). It holds because the story is what the log has of the span (`growth_known`), and the reason told is the first that applies.
use Prim.Native.Nat.{ℕ, suc, ◌+◌, ◌-◌, ◌≤◌, ◌<◌}
use native.Mathlib.Omega.{arith}
use native.Mathlib.Nat.{zero-add}
use mathlib.Core.Path.{◌≡◌, refl, sym, ap, ◌∙◌}
use mathlib.Core.Bool.{not}
use mathlib.Core.Logic.{◌↔◌, ◌⊎◌, inl, inr}
use mathlib.Core.List.{List, [], ◌∷◌}
use lib.ListN.{length, get_or}
use lib.Dec.{eqb, leb, ltb}
use borrow.Author.Tests.{eqb-true, eqb-false, ltb-true, ltb-false, leb-true, leb-false, not-true, not-false}
use Rattle.rules.specs.Base.{tab}
use Rattle.rules.specs.Field.{Field, Bytes, spans, none, area_of}
use Rattle.rules.specs.Field as field
use Rattle.rules.specs.Net.{net_of, near}
use Rattle.rules.specs.Net as net
use Rattle.rules.specs.Refusals.{too_many, region_refusal}
use Rattle.rules.specs.Growth.{Seed, id_of, plain, walkable, paint_of, painted, grown, stops}
use Rattle.rules.specs.Records.{Rec, fresh, at, counted, add_span, records}
use Rattle.rules.specs.Filter.{filtered}
use Rattle.rules.specs.Numbering.{dense, formed}
use Rattle.rules.specs.Outcomes.{Sizes, RegionOutcome, region_outcome}
use Rattle.rules.specs.Reasons.{story, Reason, reason_of, reason_number, strip_of, group_of, least_of, grown_of, from_of, final_of, gone_with, explain_refusal, ExplainOutcome, unexplained, explains, explain_outcome}
use Rattle.laws.proofs.Basics.{if-ind, upto-ind, tab-at, zeros-at}
use Rattle.laws.proofs.Cells.{Passed, passed}
use Rattle.laws.proofs.Nets.{near_net, linked}
use Rattle.rooms.specs.Rooms.{Plain}
use Rattle.rooms.proofs.Listing.{at_set}
use Rattle.rooms.proofs.Rooms.{accepted}
use Rattle.reasons.specs.First.{grown_id, kept_records, built, final_id, First, bare, strip, missed, small, flood, spread}
use Rattle.reasons.specs.Log.{Event, rounded, seeded, popped, growth_log, last_marks, replay, Past, Never, Once, Latest, Takes, From, Counts}
use Rattle.reasons.specs.Why.{column_of, row_of, OnStrip, on_left, on_right, on_low, on_high, PaintedBy, NeverReached, ExpandedFrom, FloodedBy, GaveBack, FilteredOut, Means}
use Rattle.reasons.proofs.Groups.{gone_removed}
use Rattle.reasons.proofs.Finals.{grow, final_painted}
use Rattle.reasons.proofs.Logged.{Source, still, took, Returned, never, gave, Known, growth_known}
use Rattle.reasons.proofs.Settled.{settled}
use Rattle.reasons.proofs.Replays.{replays_last, last_is_grown}
use Rattle.reasons.proofs.Reasons.{one_reason, has_room_reason, no_room_reason, painted_reason}

roomless_small : (n : ℕ) → (n ≡ 1) ⊎ ((n ≡ 3) ⊎ (n ≡ 4)) → n < 5
roomless_small n (inl e) = omega arith
roomless_small n (inr (inl e)) = omega arith
roomless_small n (inr (inr e)) = omega arith

-- ---------------------------------------------------------------- the fields of a reason

module _ (F : Field) (dist : List ℕ) (most : ℕ) (z : Sizes) (s : ℕ) where
  abbrev r : ℕ
  r = grown_id F dist most z s

  abbrev recs : List Rec
  recs = records F (grown F dist most z.border).ids (grown F dist most z.border).next

  abbrev why : Reason
  why = reason_of F dist most z s

  record Fields (c : Reason) : Type 0 where
    painted : reason_number c ≡ 2 → strip_of c ≡ r - 0x8000
    filtered : reason_number c ≡ 4 → (group_of c ≡ gone_with z.least r (length recs) recs) × (least_of c ≡ z.least)
    flooded : reason_number c ≡ 5 → grown_of c ≡ r
    expanded : reason_number c ≡ 6 → (grown_of c ≡ r) × (from_of c ≡ (story F dist most z.border s).from)
    bare : reason_number c < 5 → final_of c ≡ 0

  fields : Fields why
  unfolding reason_of
  fields =
      if-ind (λ (c : Reason). Fields c) _
      (λ _. record { painted = λ e. absurd (omega arith); filtered = λ e. absurd (omega arith); flooded = λ e. absurd (omega arith); expanded = λ e. absurd (omega arith); bare = λ _. refl })
      (λ _. if-ind (λ (c : Reason). Fields c) _
      (λ _. record { painted = λ _. refl; filtered = λ e. absurd (omega arith); flooded = λ e. absurd (omega arith); expanded = λ e. absurd (omega arith); bare = λ _. refl })
      (λ _. if-ind (λ (c : Reason). Fields c) _
      (λ _. record { painted = λ e. absurd (omega arith); filtered = λ e. absurd (omega arith); flooded = λ e. absurd (omega arith); expanded = λ e. absurd (omega arith); bare = λ _. refl })
      (λ _. if-ind (λ (c : Reason). Fields c) _
      (λ _. record { painted = λ e. absurd (omega arith); filtered = λ _. (refl, refl); flooded = λ e. absurd (omega arith); expanded = λ e. absurd (omega arith); bare = λ _. refl })
      (λ _. if-ind (λ (c : Reason). Fields c) _
      (λ _. record { painted = λ e. absurd (omega arith); filtered = λ e. absurd (omega arith); flooded = λ _. refl; expanded = λ e. absurd (omega arith); bare = λ l. absurd (omega arith) })
      (λ _. record { painted = λ e. absurd (omega arith); filtered = λ e. absurd (omega arith); flooded = λ e. absurd (omega arith); expanded = λ _. (refl, refl); bare = λ l. absurd (omega arith) })))))

  -- ---------------------------------------------------------------- what each reason says of the grown id

  abbrev from : ℕ
  from = (story F dist most z.border s).from

  is_bare : (n : ℕ) → First F dist most z s n → n ≡ 1 → get_or F.area s 256 ≡ 0
  is_bare n (bare e a) k = a
  is_bare n (strip e a b) k = absurd (omega arith)
  is_bare n (missed e a b d) k = absurd (omega arith)
  is_bare n (small e a b d j) k = absurd (omega arith)
  is_bare n (flood e a b d j f) k = absurd (omega arith)
  is_bare n (spread e a b d j f) k = absurd (omega arith)

  is_painted : (n : ℕ) → First F dist most z s n → n ≡ 2 → 0x8000 ≤ r
  is_painted n (bare e a) k = absurd (omega arith)
  is_painted n (strip e a b) k = b
  is_painted n (missed e a b d) k = absurd (omega arith)
  is_painted n (small e a b d j) k = absurd (omega arith)
  is_painted n (flood e a b d j f) k = absurd (omega arith)
  is_painted n (spread e a b d j f) k = absurd (omega arith)

  is_missed : (n : ℕ) → First F dist most z s n → n ≡ 3 → (get_or F.area s 256 ≡ 0 → ⊥) × (r ≡ 0)
  is_missed n (bare e a) k = absurd (omega arith)
  is_missed n (strip e a b) k = absurd (omega arith)
  is_missed n (missed e a b d) k = (a, d)
  is_missed n (small e a b d j) k = absurd (omega arith)
  is_missed n (flood e a b d j f) k = absurd (omega arith)
  is_missed n (spread e a b d j f) k = absurd (omega arith)

  is_small : (n : ℕ) → First F dist most z s n → n ≡ 4 → Plain r × ((at (kept_records F dist most z) r).id ≡ 0)
  is_small n (bare e a) k = absurd (omega arith)
  is_small n (strip e a b) k = absurd (omega arith)
  is_small n (missed e a b d) k = absurd (omega arith)
  is_small n (small e a b d j) k = ((omega arith, b), j)
  is_small n (flood e a b d j f) k = absurd (omega arith)
  is_small n (spread e a b d j f) k = absurd (omega arith)

  is_flooded : (n : ℕ) → First F dist most z s n → n ≡ 5 → Plain r × (from ≡ none)
  is_flooded n (bare e a) k = absurd (omega arith)
  is_flooded n (strip e a b) k = absurd (omega arith)
  is_flooded n (missed e a b d) k = absurd (omega arith)
  is_flooded n (small e a b d j) k = absurd (omega arith)
  is_flooded n (flood e a b d j f) k = ((omega arith, b), f)
  is_flooded n (spread e a b d j f) k = absurd (omega arith)

  is_expanded : (n : ℕ) → First F dist most z s n → n ≡ 6 → Plain r × (from ≡ none → ⊥)
  is_expanded n (bare e a) k = absurd (omega arith)
  is_expanded n (strip e a b) k = absurd (omega arith)
  is_expanded n (missed e a b d) k = absurd (omega arith)
  is_expanded n (small e a b d j) k = absurd (omega arith)
  is_expanded n (flood e a b d j f) k = absurd (omega arith)
  is_expanded n (spread e a b d j f) k = ((omega arith, b), f)

  abbrev Roomless : ℕ → Type 0
  Roomless n = (n ≡ 1) ⊎ ((n ≡ 3) ⊎ (n ≡ 4))

  abbrev Roomy : ℕ → Type 0
  Roomy n = (n ≡ 5) ⊎ (n ≡ 6)

  which : (n : ℕ) → First F dist most z s n → (n ≡ 2 → ⊥) → Roomless n ⊎ Roomy n
  which n (bare e a) k = inl (inl e)
  which n (strip e a b) k = absurd (k e)
  which n (missed e a b d) k = inl (inr (inl e))
  which n (small e a b d j) k = inl (inr (inr e))
  which n (flood e a b d j f) k = inr (inl e)
  which n (spread e a b d j f) k = inr (inr e)

  told : First F dist most z s (reason_number why)
  told = (one_reason F dist most z s (reason_number why)).1 refl

-- ---------------------------------------------------------------- records, paint, refusals

counted_id : (F : Field) (ids : List ℕ) (k : ℕ) (q : Rec) → (counted F ids k q).id ≡ q.id
unfolding counted
counted_id F ids k q = refl

fresh_id : (n x : ℕ) → x < n → (at (tab n 0 fresh) x).id ≡ x
unfolding at fresh
fresh_id n x h = ap (λ (q : Rec). q.id) (tab-at n 0 fresh x (fresh 0) h ∙ ap fresh (zero-add x))

-- each record is made with its own id, and keeps it as its spans are counted
records_id : (F : Field) (ids : List ℕ) (next x : ℕ) → x < suc next → (at (records F ids next) x).id ≡ x
unfolding records add_span
records_id F ids next x h =
    upto-ind (λ _ (rs : List Rec). (at rs x).id ≡ x) (add_span F ids) (tab (suc next) 0 fresh) (spans F) (fresh_id (suc next) x h)
    (λ k rs _ p.
    let i = get_or ids k 0 in
    if-ind (λ (q : List Rec). (at q x).id ≡ x) (plain i)
    (λ _. at_set rs i (counted F ids k (at rs i)) x (λ (q : Rec). q.id ≡ x) (λ e. counted_id F ids k (at rs i) ∙ ap (λ (y : ℕ). (at rs y).id) (sym e) ∙ p) p)
    (λ _. p))

-- rule 1's paint v, of strip j: where the span lies on it, and on none that is painted later
record Strip (F : Field) (b s j : ℕ) : Type 0 where
  walks : area_of F s ≡ 0 → ⊥
  strips : (1 ≤ j) × (j ≤ 4)
  on : OnStrip F b s j
  over : (i : ℕ) → j < i → OnStrip F b s i → ⊥

abbrev Paints : Field → ℕ → ℕ → ℕ → Type 0
Paints F b s v = (j : ℕ) → v ≡ 0x8000 + j → 0x8000 ≤ v → Strip F b s j

none_later : (F : Field) (b s i : ℕ) → (i ≡ 1 → ⊥) → (i ≡ 2 → F.w - b ≤ column_of F s → ⊥) → (i ≡ 3 → row_of F s < b → ⊥) → (i ≡ 4 → F.h - b ≤ row_of F s → ⊥) → OnStrip F b s i → ⊥
none_later F b s i p q r t (on_left e h) = p e
none_later F b s i p q r t (on_right e h) = q e h
none_later F b s i p q r t (on_low e h) = r e h
none_later F b s i p q r t (on_high e h) = t e h

paint_strip : (F : Field) (b s : ℕ) → Paints F b s (paint_of F b s)
unfolding paint_of walkable field.area_of
paint_strip F b s =
    if-ind (Paints F b s) _ (λ _ j e h. absurd (omega arith))
    (λ w.
    let walks : get_or F.area s 256 ≡ 0 → ⊥ = eqb-false _ _ (not-true _ (not-false _ w)) in
    if-ind (Paints F b s) (leb (F.h - b) (row_of F s))
    (λ t j e _.
    let k : j ≡ 4 = omega arith in
    record {
      walks = walks;
      strips = (omega arith, omega arith);
      on = on_high k (leb-true _ _ t);
      over = λ i l. none_later F b s i (λ x. omega arith) (λ x _. omega arith) (λ x _. omega arith) (λ x _. omega arith);
    })
    (λ t4. if-ind (Paints F b s) (ltb (row_of F s) b)
    (λ t j e _.
    let k : j ≡ 3 = omega arith in
    record {
      walks = walks;
      strips = (omega arith, omega arith);
      on = on_low k (ltb-true _ _ t);
      over = λ i l. none_later F b s i (λ x. omega arith) (λ x _. omega arith) (λ x _. omega arith) (λ x y. omega (arith, leb-false (F.h - b) (row_of F s) t4));
    })
    (λ t3. if-ind (Paints F b s) (leb (F.w - b) (column_of F s))
    (λ t j e _.
    let k : j ≡ 2 = omega arith in
    record {
      walks = walks;
      strips = (omega arith, omega arith);
      on = on_right k (leb-true _ _ t);
      over = λ i l. none_later F b s i (λ x. omega arith) (λ x _. omega arith) (λ x y. omega (arith, ltb-false (row_of F s) b t3)) (λ x y. omega (arith, leb-false (F.h - b) (row_of F s) t4));
    })
    (λ t2. if-ind (Paints F b s) (ltb (column_of F s) b)
    (λ t j e _.
    let k : j ≡ 1 = omega arith in
    record {
      walks = walks;
      strips = (omega arith, omega arith);
      on = on_left k (ltb-true _ _ t);
      over = λ i l. none_later F b s i (λ x. omega arith) (λ x y. omega (arith, leb-false (F.w - b) (column_of F s) t2)) (λ x y. omega (arith, ltb-false (row_of F s) b t3)) (λ x y. omega (arith, leb-false (F.h - b) (row_of F s) t4));
    })
    (λ _ j e h. absurd (omega arith))))))

-- a flagged id of the start is the paint
painted_flag : (F : Field) (b s k : ℕ) → s < spans F → 0x8000 ≤ k → id_of (painted F b) s ≡ k → PaintedBy F b s (k - 0x8000)
unfolding painted
painted_flag F b s k h f =
    if-ind (λ (l : List ℕ). get_or l s 0 ≡ k → PaintedBy F b s (k - 0x8000)) (eqb b 0)
    (λ _ e. absurd (let y = zeros-at (spans F) s in omega arith))
    (λ n e.
    let nz : b ≡ 0 → ⊥ = eqb-false _ _ n in
    let p : paint_of F b s ≡ k = sym (tab-at (spans F) 0 (paint_of F b) s 0 h ∙ ap (paint_of F b) (zero-add s)) ∙ e in
    let w = paint_strip F b s (k - 0x8000) (omega arith) (omega arith) in
    record { border = omega arith; walks = w.walks; strips = w.strips; on = w.on; over = w.over; paint = omega arith })

-- what an outcome that is not refused rests on
record Taken (F : Field) (dist : List ℕ) (most : ℕ) (z : Sizes) (s : ℕ) (work trail₀ : List ℕ) (o : ExplainOutcome) : Type 0 where
  refusal : explain_refusal F (length trail₀) (length work) dist most s ≡ 0
  stop : stops F dist most z.border ≡ 0
  is : o ≡ explains (spans F) (reason_of F dist most z s) (story F dist most z.border s) (length work)

taken : (F : Field) (dist : List ℕ) (most : ℕ) (z : Sizes) (s : ℕ) (work trail₀ : List ℕ) → (explain_outcome F dist most z s work trail₀).refused ≡ 0
    → Taken F dist most z s work trail₀ (explain_outcome F dist most z s work trail₀)
unfolding explain_outcome unexplained
taken F dist most z s work trail₀ =
    let r = explain_refusal F (length trail₀) (length work) dist most s in
    let stop = stops F dist most z.border in
    if-ind (λ (o : ExplainOutcome). o.refused ≡ 0 → Taken F dist most z s work trail₀ o) (not (eqb r 0)) (λ e h. absurd (eqb-false _ _ (not-true _ e) h))
    (λ e. if-ind (λ (o : ExplainOutcome). o.refused ≡ 0 → Taken F dist most z s work trail₀ o) (not (eqb stop 0)) (λ u h. absurd (eqb-false _ _ (not-true _ u) h))
    (λ u _. record { refusal = eqb-true _ _ (not-false _ e); stop = eqb-true _ _ (not-false _ u); is = refl }))

-- 1 to 8 and 14 let the call pass
passes : (F : Field) (own work : ℕ) (dist : List ℕ) (most s : ℕ) → explain_refusal F own work dist most s ≡ 0 → Passed F (length dist ∷ own ∷ []) × (s < spans F)
unfolding explain_refusal
passes F own work dist most s =
    let lens = length dist ∷ own ∷ [] in
    if-ind (λ (k : ℕ). k ≡ 0 → Passed F lens × (s < spans F)) (not (eqb (region_refusal F lens work dist most) 0)) (λ e h. absurd (eqb-false _ _ (not-true _ e) h))
    (λ e. if-ind (λ (k : ℕ). k ≡ 0 → Passed F lens × (s < spans F)) (ltb s (spans F))
    (λ l _. (passed F lens (accepted F lens work dist most (eqb-true _ _ (not-false _ e))), ltb-true _ _ l)) (λ _ h. absurd (omega arith)))

few_spans : (F : Field) (lens : List ℕ) → Passed F lens → spans F ≤ 65535
unfolding too_many
few_spans F lens ok = omega (arith, ltb-false 65000 (spans F) ok.many)

-- the latest event of which P holds
latest {κ} : (P Q : Event → Type 0) (X : Type κ) → ((e : Event) → P e → Q e → X) → (l : List Event) → Latest P Q l → X
latest P Q X f [] h = absurd h
latest P Q X f (e ∷ l) (inl h) = f e h.0 h.1
latest P Q X f (e ∷ l) (inr h) = latest P Q X f l h.1

-- a neighbour of the area
record Beside (F : Field) (s a : ℕ) : Type 0 where
  dir : ℕ
  four : dir < 4
  there : a ≡ near (net_of F) s dir
  area : net.area_of (net_of F) a ≡ net.area_of (net_of F) s

chosen_beside : (F : Field) (s a r : ℕ) (e : Event) → From (net_of F) s a r e → Beside F s a
chosen_beside F s a r (rounded p) h = record { dir = h.0.dir; four = h.0.four; there = h.0.there; area = h.0.area }
chosen_beside F s a r (seeded q t m) h = absurd h
chosen_beside F s a r (popped q c f) h = absurd h

field_area : (F : Field) (a s : ℕ) → area_of F a ≡ area_of F s → net.area_of (net_of F) a ≡ net.area_of (net_of F) s
unfolding net.area_of field.area_of
field_area F a s e = e

net_walks : (F : Field) (s : ℕ) → (get_or F.area s 256 ≡ 0 → ⊥) → net.area_of (net_of F) s ≡ 0 → ⊥
unfolding net.area_of
net_walks F s h = h

net_area : (F : Field) (a s : ℕ) → net.area_of (net_of F) a ≡ net.area_of (net_of F) s → area_of F a ≡ area_of F s
unfolding net.area_of field.area_of
net_area F a s e = e

-- the ids of the region entry
region_ids : (F : Field) (dist : List ℕ) (most : ℕ) (z : Sizes) (work ids₀ : List ℕ) → (region_outcome dense F dist most z work ids₀).refused ≡ 0
    → (region_outcome dense F dist most z work ids₀).ids ≡ (formed dense (built F dist most z)).ids
unfolding region_outcome
region_ids F dist most z work ids₀ =
    let r = region_refusal F (length dist ∷ length ids₀ ∷ []) (length work) dist most in
    let stop = stops F dist most z.border in
    if-ind (λ (v : RegionOutcome). v.refused ≡ 0 → v.ids ≡ (formed dense (built F dist most z)).ids) (not (eqb r 0)) (λ e h. absurd (eqb-false _ _ (not-true _ e) h))
    (λ _. if-ind (λ (v : RegionOutcome). v.refused ≡ 0 → v.ids ≡ (formed dense (built F dist most z)).ids) (not (eqb stop 0))
    (λ e h. absurd (eqb-false _ _ (not-true _ e) h)) (λ _ _. refl))

-- ---------------------------------------------------------------- every reason is what the rules did

module _ (F : Field) (dist : List ℕ) (most : ℕ) (z : Sizes) (s : ℕ) (work trail₀ : List ℕ) (bytes : Bytes F) (ok : (explain_outcome F dist most z s work trail₀).refused ≡ 0) where
  -- the answer
  abbrev o : ExplainOutcome
  o = explain_outcome F dist most z s work trail₀

  abbrev b : ℕ
  b = z.border

  abbrev own : ℕ
  own = grown_id F dist most z s

  rests_on : Taken F dist most z s work trail₀ o
  rests_on = taken F dist most z s work trail₀ ok

  pass : Passed F (length dist ∷ length trail₀ ∷ []) × (s < spans F)
  pass = passes F (length trail₀) (length work) dist most s rests_on.refusal

  inside : s < spans F
  inside = pass.1

  few : spans F ≤ 65535
  few = few_spans F (length dist ∷ length trail₀ ∷ []) pass.0

  known : Known (net_of F) dist (painted F b) s (growth_log F dist most b) (last_marks F dist most b) (story F dist most b s)
  known = growth_known F dist most b bytes rests_on.stop s inside few

  -- at the end of growth
  id_is : (t : ℕ) → id_of (last_marks F dist most b) t ≡ get_or (grown F dist most b).ids t 0
  id_is t = ap (λ (l : List ℕ). get_or l t 0) (last_is_grown F dist most b)

  -- the numbers of the answer
  record Answer (x : ExplainOutcome) : Type 0 where
    reason : x.reason ≡ reason_number (why F dist most z s)
    strip : x.strip ≡ strip_of (why F dist most z s)
    group : x.group ≡ group_of (why F dist most z s)
    least : x.least ≡ least_of (why F dist most z s)
    grown : x.grown ≡ grown_of (why F dist most z s)
    from : x.from ≡ from_of (why F dist most z s)
    number : x.number ≡ final_of (why F dist most z s)
    gave : x.gave ≡ (story F dist most b s).gave
    objecting : x.objecting ≡ (story F dist most b s).objecting

  explains_answer : Answer (explains (spans F) (reason_of F dist most z s) (story F dist most b s) (length work))
  unfolding explains
  explains_answer = record { reason = refl; strip = refl; group = refl; least = refl; grown = refl; from = refl; number = refl; gave = refl; objecting = refl }

  answer : Answer o
  answer = rw rests_on.is explains_answer

  first : (n : ℕ) → o.reason ≡ n → First F dist most z s (reason_number (why F dist most z s)) × (reason_number (why F dist most z s) ≡ n)
  first n e = (told F dist most z s, sym answer.reason ∙ e)

  -- the log of that very build: each step begins with what the step before it left, from the painted marks to the last ones
  pub log_is_growth : (q : Seed) × (n : ℕ)
      × Past (net_of F) dist (painted F b) (growth_log F dist most b) q (record { todo = []; marks = replay (net_of F) dist (painted F b) (growth_log F dist most b); count = n })
  log_is_growth = rw (replays_last F dist most b) known.past

  -- 1: "not walkable"
  pub not-walkable : o.reason ≡ 1 → area_of F s ≡ 0
  unfolding field.area_of
  not-walkable e = let w = first 1 e in is_bare F dist most z s _ w.0 w.1

  -- 2: "painted by which strip"
  pub painted_strip : o.reason ≡ 2 → PaintedBy F b s o.strip
  painted_strip e =
      let w = first 2 e in
      let f = is_painted F dist most z s _ w.0 w.1 in
      rw (answer.strip ∙ (fields F dist most z s).painted w.1) (painted_flag F b s own inside f (known.flag own f (id_is s)))

  -- a span without an id took none
  rested : (a r : ℕ) → Source (net_of F) dist (painted F b) s (growth_log F dist most b) a r → (Plain r → ⊥) → Never (Takes (net_of F) s) (growth_log F dist most b)
  rested a r (still x y n) e = n
  rested a r (took x p n) e = absurd (e p)

  -- 3: "never reached"
  pub never_reached_lem : o.reason ≡ 3 → NeverReached F dist most b s
  unfolding field.area_of
  never_reached_lem e =
      let w = first 3 e in
      let q = is_missed F dist most z s _ w.0 w.1 in
      record {
        walks = q.0;
        own = q.1;
        apart = λ d l a p.
            let e : near (net_of F) s d ≡ field.near F s d = near_net F (linked F (length dist ∷ length trail₀ ∷ []) pass.0) s d l in
            settled F dist most b s rests_on.stop inside few (net_walks F s q.0) (id_is s ∙ q.1) d l (rw (e, id_is (field.near F s d)) (field_area F (field.near F s d) s a, p));
        uncounted = λ k c. let i = known.counted k c in omega (arith, id_is s, q.1);
        untaken = rested (story F dist most b s).from known.got known.heard.from (λ p. omega (arith, (known.same p).0, id_is s, q.1));
      }

  -- 4: "removed by the filter, with its group's count and the least area"
  pub filtered_out_lem : o.reason ≡ 4 → FilteredOut F dist most z s o.group × (o.least ≡ z.least)
  unfolding filtered
  filtered_out_lem e =
      let w = first 4 e in
      let q = is_small F dist most z s _ w.0 w.1 in
      let f = (fields F dist most z s).filtered w.1 in
      let range = (grow F dist most z bytes rests_on.stop).range own s q.0 refl in
      let live : (at (recs F dist most z s) own).id ≡ 0 → ⊥ =
      λ y. omega (arith, records_id F (grown F dist most b).ids (grown F dist most b).next own (omega (arith, range.1)), q.0) in
      (rw (answer.group ∙ f.0) (gone_removed z.least own (length (recs F dist most z s)) (recs F dist most z s) live q.1), answer.least ∙ f.1)

  -- 5: "its flood id, .. flooded"
  pub flooded_by : o.reason ≡ 5 → FloodedBy F dist most b s o.grown
  flooded_by e =
      let w = first 5 e in
      let q = is_flooded F dist most z s _ w.0 w.1 in
      let k : o.grown ≡ own = answer.grown ∙ (fields F dist most z s).flooded w.1 in
      rw k (record {
        room = q.0;
        own = refl;
        counted = rw (id_is s) at (known.room (rw (id_is s) q.0) q.1);
        only = λ k c. sym (known.counted k c).1 ∙ id_is s;
        untaken = untaken (story F dist most b s).from known.got known.heard.from q.1;
      })
    where
      untaken : (a r : ℕ) → Source (net_of F) dist (painted F b) s (growth_log F dist most b) a r → a ≡ none → Never (Takes (net_of F) s) (growth_log F dist most b)
      untaken a r (still x y n) e = n
      untaken a r (took x y n) e = absurd (omega (arith, few))

  -- 6: "its flood id, .. expanded, and for expansion the span whose id it took"
  pub expanded_from : o.reason ≡ 6 → ExpandedFrom F dist most b s o.from o.grown
  expanded_from e =
      let w = first 6 e in
      let q = is_expanded F dist most z s _ w.0 w.1 in
      let f = (fields F dist most z s).expanded w.1 in
      rw (answer.grown ∙ f.0, answer.from ∙ f.1) (go (story F dist most b s).from known.got known.heard.from known.same known.alone q.1)
    where
      go : (a r : ℕ) → Source (net_of F) dist (painted F b) s (growth_log F dist most b) a r
          → (Plain r → (id_of (last_marks F dist most b) s ≡ r) × (id_of (last_marks F dist most b) a ≡ r))
          → (Plain r → (k : ℕ) → Once (Counts (net_of F) dist s k) (growth_log F dist most b) → ⊥) → (a ≡ none → ⊥) → ExpandedFrom F dist most b s a own
      go a r (still x y n) k j e = absurd (e x)
      go a r (took x p n) k j e =
          let i = k p in
          let is : own ≡ r = sym (id_is s) ∙ i.0 in
          let c = latest (Takes (net_of F) s) (From (net_of F) s a r) (Beside F s a) (λ e _ h. chosen_beside F s a r e h) (growth_log F dist most b) n in
          rw is (record {
            dir = c.dir;
            four = c.four;
            there = c.there ∙ near_net F (linked F (length dist ∷ length trail₀ ∷ []) pass.0) s c.dir c.four;
            area = net_area F a s c.area;
            room = p;
            own = is;
            its = sym (id_is a) ∙ i.1;
            taken = n;
            uncounted = j p;
          })

  -- "The last flood that gave the span back, if any, is named too, by its id, with the objecting span."
  pub gave_back_lem : GaveBack F dist most b s o.gave o.objecting
  gave_back_lem = rw (answer.gave, answer.objecting) (go (story F dist most b s).gave (story F dist most b s).objecting known.heard.back)
    where
      go : (g j : ℕ) → Returned (net_of F) dist (painted F b) s (growth_log F dist most b) g j → GaveBack F dist most b s g j
      go g j (never x y n) = record { last = λ e. absurd (e x); none = λ _. (y, n) }
      go g j (gave x n) = record { last = λ _. n; none = λ e. absurd (omega arith) }

  -- all of it: "Every reason is what the rules did in that very build"
  pub explained_means : Means F dist most z s o
  explained_means = record { bare = not-walkable; painted = painted_strip; missed = never_reached_lem; removed = filtered_out_lem; flooded = flooded_by; expanded = expanded_from; back = gave_back_lem }

  -- "then the final number": the id that the region entry gives the span in the dense form, if it gives any
  module _ (work' ids₀ : List ℕ) (goes : (region_outcome dense F dist most z work' ids₀).refused ≡ 0) where
    abbrev final : ℕ
    final = get_or (region_outcome dense F dist most z work' ids₀).ids s 0

    final_is : final ≡ final_id F dist most z s
    final_is = ap (λ (l : List ℕ). get_or l s 0) (region_ids F dist most z work' ids₀ goes)

    room_known : (((o.reason ≡ 5) ⊎ (o.reason ≡ 6)) ↔ Plain final) × (((o.reason ≡ 5) ⊎ (o.reason ≡ 6)) → o.number ≡ final)
    room_known = rw (answer.reason, answer.number, final_is) (has_room_reason F dist most z s bytes rests_on.stop inside)

    -- 5 and 6 exactly if it is neither 0 nor flagged
    pub explained_room : ((o.reason ≡ 5) ⊎ (o.reason ≡ 6)) ↔ Plain final
    explained_room = room_known.0

    -- 1, 3 and 4 exactly if it is 0
    pub explained-none : ((o.reason ≡ 1) ⊎ ((o.reason ≡ 3) ⊎ (o.reason ≡ 4))) ↔ (final ≡ 0)
    explained-none = rw (answer.reason, final_is) (no_room_reason F dist most z s bytes rests_on.stop inside)

    -- 2 exactly if it is flagged, and the strip is its low part then
    pub explained_strip : ((o.reason ≡ 2) ↔ (0x8000 ≤ final)) × (o.reason ≡ 2 → final ≡ 0x8000 + o.strip)
    explained_strip = (
      rw (answer.reason, final_is) (painted_reason F dist most z s bytes rests_on.stop inside),
      λ e.
          let w = first 2 e in
          let f = is_painted F dist most z s _ w.0 w.1 in
          let k : o.strip ≡ own - 0x8000 = answer.strip ∙ (fields F dist most z s).painted w.1 in
          let i : final ≡ own = final_is ∙ final_painted F dist most z bytes rests_on.stop s inside f in
          omega arith,
    )

    -- the number is that id, and 0 where it is flagged
    pub explained_number : ((o.reason ≡ 2 → ⊥) → o.number ≡ final) × (o.reason ≡ 2 → o.number ≡ 0)
    explained_number = (
      λ n. cases (which F dist most z s _ (told F dist most z s) (λ e. n (answer.reason ∙ e))),
      λ e. answer.number ∙ (fields F dist most z s).bare (omega (arith, answer.reason)),
    )
      where
        small_number : (reason_number (why F dist most z s) < 5) → o.number ≡ 0
        small_number l = answer.number ∙ (fields F dist most z s).bare l

        cases : Roomless F dist most z s (reason_number (why F dist most z s)) ⊎ Roomy F dist most z s (reason_number (why F dist most z s)) → o.number ≡ final
        cases (inl h) = small_number (roomless_small _ h) ∙ sym (explained-none.0 (rw answer.reason h))
        cases (inr h) = room_known.1 (rw answer.reason h)
