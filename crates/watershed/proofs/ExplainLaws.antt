-- What `explain_span` tells, reason by reason: the rule's cases read in its order, and the numbers of each.
-- Each law is one way out of a function. Assumes nothing.
use Prim.Native.Nat.{ℕ, zero, suc, ◌+◌, ◌-◌, ◌≤◌, ◌<◌}
use native.Mathlib.Omega.{arith}
use mathlib.Core.Path.{◌≡◌, refl, sym, ap, ◌∙◌}
use mathlib.Core.Bool.{true, false, not}
use mathlib.Core.List.{List, [], ◌∷◌, ◌++◌}
use lib.ListN.{length, get_or, take, drop, replicate}
use lib.Seq.{take_at}
use lib.Dec.{ltb, eqb}
use borrow.Author.Tests.{eq-eqb, ne_eqb, eqb-true, eqb-false, ltb-true, lt-ltb, le-ltb, le-leb, lt-leb, not-true, not-false}
use Rattle.rules.specs.Base.{when◌then◌else◌}
use Rattle.rules.specs.Field.{Field, none, spans}
use Rattle.rules.specs.Refusals.{refusal, region_refusal}
use Rattle.rules.specs.Growth.{grown, stops}
use Rattle.rules.specs.Records.{Rec, at, records}
use Rattle.rules.specs.Filter.{filtered}
use Rattle.rules.specs.Numbering.{dense, regions, formed}
use Rattle.rules.specs.Outcomes.{Sizes}
use Rattle.rules.specs.Reasons.{Story, story, gone_with, mergings, trail, Reason, not_walkable, painted_by, never_reached, filtered_out, reason_of, explain_refusal, ExplainOutcome, unexplained, explains, explain_outcome}
use Rattle.laws.proofs.Basics.{if-ind, get_d_any}
use Rattle.checker.specs.Answer.{number_of, verdict_number}
use Rattle.checker.specs.declared.Refusal.{Refusal}
use Rattle.std.specs.Prelude.{Result, Ok, Err}
use Rattle.checker.proofs.Numbers.{number_pos}
use Rattle.records.specs.Stock.{Built}
use Rattle.merge.proofs.ToldLaws.{part_length}
use Rattle.reasons.specs.Why.{Means}
use Rattle.watershed.specs.declared.explain.Explanation.{Explanation}
use Rattle.watershed.specs.Into.{numbers_of, ExplainsInto, ExplainsMeant}
use Rattle.watershed.specs.Explain.{explained, without_room, with_room, room_reason, Living, Explains}

-- ---------------------------------------------------------------- the refusal

module _ (F : Field) (own work : ℕ) (dist : List ℕ) (most s : ℕ) (v : Result Unit Refusal) (e : verdict_number v ≡ region_refusal F (length dist ∷ own ∷ []) work dist most) where
  abbrev first : ℕ
  first = region_refusal F (length dist ∷ own ∷ []) work dist most

  pub explain_refused : (r : Refusal) → v ≡ Err r → (k : ℕ) → k ≡ number_of r → k ≡ explain_refusal F own work dist most s
  unfolding explain_refusal when◌then◌else◌
  explain_refused r y k q =
      let n : number_of r ≡ first = ap verdict_number (sym y) ∙ e in
      let f : not (eqb first 0) ≡ true = rw (ne_eqb first 0 (λ z. omega (arith, number_pos r))) refl in
      rw f (q ∙ n)

  module _ (y : v ≡ Ok tt) where
    passes : not (eqb first 0) ≡ false
    passes = rw (eq-eqb first 0 (sym e ∙ ap verdict_number y)) refl

    pub explain_passes : s < spans F → 0 ≡ explain_refusal F own work dist most s
    unfolding explain_refusal when◌then◌else◌
    explain_passes h = rw (passes, lt-ltb s (spans F) h)

    pub explain_no_span : spans F ≤ s → 14 ≡ explain_refusal F own work dist most s
    unfolding explain_refusal when◌then◌else◌
    explain_no_span h = rw (passes, le-ltb s (spans F) h)

-- ---------------------------------------------------------------- the reason

module _ (F : Field) (dist : List ℕ) (most : ℕ) (z : Sizes) (s : ℕ) where
  abbrev grown_id : ℕ
  grown_id = get_or (grown F dist most z.border).ids s 0

  abbrev recs : List Rec
  recs = records F (grown F dist most z.border).ids (grown F dist most z.border).next

  abbrev kept : List Rec
  kept = filtered z.least recs

  abbrev number : ℕ
  number = get_or (formed dense (regions F z.least z.merge (grown F dist most z.border).ids (grown F dist most z.border).next)).ids s 0

  pub not-walkable : get_or F.area s 256 ≡ 0 → reason_of F dist most z s ≡ not_walkable
  unfolding reason_of when◌then◌else◌
  not-walkable a = rw (eq-eqb _ _ a)

  module _ (a : get_or F.area s 256 ≡ 0 → ⊥) where
    pub painted : 0x8000 ≤ grown_id → reason_of F dist most z s ≡ painted_by (grown_id - 0x8000)
    unfolding reason_of when◌then◌else◌
    painted p = rw (ne_eqb _ _ a, le-leb 0x8000 grown_id p)

    module _ (p : grown_id < 0x8000) where
      pub never_reached_lem : grown_id ≡ 0 → reason_of F dist most z s ≡ never_reached
      unfolding reason_of when◌then◌else◌
      never_reached_lem r = rw (ne_eqb _ _ a, lt-leb 0x8000 grown_id p, eq-eqb _ _ r)

      module _ (r : grown_id ≡ 0 → ⊥) where
        pub filtered_out_lem : (at kept grown_id).id ≡ 0 → reason_of F dist most z s ≡ filtered_out (gone_with z.least grown_id (length recs) recs) z.least
        unfolding reason_of when◌then◌else◌
        filtered_out_lem k = rw (ne_eqb _ _ a, lt-leb 0x8000 grown_id p, ne_eqb _ _ r, eq-eqb _ _ k)

        pub has_room : ((at kept grown_id).id ≡ 0 → ⊥)
            → reason_of F dist most z s ≡ room_reason grown_id (story F dist most z.border s).from (trail (mergings z.merge (suc (length kept)) kept []) grown_id) number
        unfolding reason_of room_reason when◌then◌else◌
        has_room k = rw (ne_eqb _ _ a, lt-leb 0x8000 grown_id p, ne_eqb _ _ r, ne_eqb _ _ k)

-- the same of the grown ids as the code has them
module _ (F : Field) (dist : List ℕ) (most : ℕ) (z : Sizes) (s : ℕ) (ids : List ℕ) (g : ids ≡ (grown F dist most z.border).ids) (h : s < length F.area) where
  walkable : (get_or F.area s 0 ≡ 0 → ⊥) → get_or F.area s 256 ≡ 0 → ⊥
  walkable a e = a (sym (get_d_any F.area s 256 0 h) ∙ e)

  pub not-walkable-at : get_or F.area s 0 ≡ 0 → reason_of F dist most z s ≡ not_walkable
  not-walkable-at a = not-walkable F dist most z s (get_d_any F.area s 256 0 h ∙ a)

  pub painted-at : (get_or F.area s 0 ≡ 0 → ⊥) → 0x8000 ≤ get_or ids s 0 → reason_of F dist most z s ≡ painted_by (get_or ids s 0 - 0x8000)
  painted-at a p = rw g (painted F dist most z s (walkable a) (rw (← g) p))

  pub never_reached-at : (get_or F.area s 0 ≡ 0 → ⊥) → get_or ids s 0 < 0x8000 → get_or ids s 0 ≡ 0 → reason_of F dist most z s ≡ never_reached
  never_reached-at a p r = never_reached_lem F dist most z s (walkable a) (rw (← g) p) (rw (← g) r)

  module _ (L : Living F.area ids s) where
    some : grown_id F dist most z s ≡ 0 → ⊥
    some e = L.some (ap (λ (l : List ℕ). get_or l s 0) g ∙ e)

    plain : grown_id F dist most z s < 0x8000
    plain = rw (← g) L.plain

    pub filtered_out_at : (id group : ℕ) → id ≡ (at (kept F dist most z s) (grown_id F dist most z s)).id → id ≡ 0
        → group ≡ gone_with z.least (grown_id F dist most z s) (length (recs F dist most z s)) (recs F dist most z s)
        → reason_of F dist most z s ≡ filtered_out group z.least
    filtered_out_at id group e k q = rw q (filtered_out_lem F dist most z s (walkable L.walkable) plain some (sym e ∙ k))

    pub has_room_at : (id r a k : ℕ) (t : List ℕ) → id ≡ (at (kept F dist most z s) (grown_id F dist most z s)).id → (id ≡ 0 → ⊥) → r ≡ get_or ids s 0
        → a ≡ (story F dist most z.border s).from
        → t ≡ trail (mergings z.merge (suc (length (kept F dist most z s))) (kept F dist most z s) []) (grown_id F dist most z s) → k ≡ number F dist most z s
        → reason_of F dist most z s ≡ room_reason r a t k
    has_room_at id r a k t e o u v q n = rw (u, v, q, n, g) (has_room F dist most z s (walkable L.walkable) plain some (λ i. o (e ∙ i)))

-- ---------------------------------------------------------------- the numbers of a reason

-- reasons 1 to 4 leave zeros
pub no_room_told : (x : Explanation) (n k : ℕ) (y : Story) (c c' : Reason) (f : List ℕ → ExplainOutcome) (l : List ℕ) → ((m : List ℕ) → explained x [] m ≡ f m) → l ≡ replicate k 0 → k ≡ n
    → f (replicate n 0) ≡ explains n c y 0 → c' ≡ c → explained x [] l ≡ explains n c' y 0
no_room_told x n k y c c' f l u e h t q = u l ∙ rw (e, h, q) t

-- reasons 5 and 6 leave the trail
pub room_told : (x : Explanation) (n k : ℕ) (y : Story) (c c' : Reason) (t l : List ℕ) → l ≡ t ++ replicate (k - length t) 0 → k ≡ n
    → explained x [] (t ++ replicate (n - length t) 0) ≡ explains n c y 0 → c' ≡ c → explained x [] l ≡ explains n c' y 0
room_told x n k y c c' t l e h u q = rw (e, h, q) u

module _ (n : ℕ) (y : Story) where
  all : n - 0 ≡ n
  all = omega arith

  pub tells_not-walkable : without_room 1 0 0 0 y (replicate n 0) ≡ explains n not_walkable y 0
  unfolding without_room explains
  tells_not-walkable = rw all refl

  pub tells_painted : (k : ℕ) → without_room 2 k 0 0 y (replicate n 0) ≡ explains n (painted_by k) y 0
  unfolding without_room explains
  tells_painted k = rw all refl

  pub tells_never_reached : without_room 3 0 0 0 y (replicate n 0) ≡ explains n never_reached y 0
  unfolding without_room explains
  tells_never_reached = rw all refl

  pub tells_filtered_out : (k l : ℕ) → without_room 4 0 k l y (replicate n 0) ≡ explains n (filtered_out k l) y 0
  unfolding without_room explains
  tells_filtered_out k l = rw all refl

  module _ (id a long k : ℕ) (t : List ℕ) (e : long ≡ length t) where
    pub tells_flooded : a ≡ none → with_room 5 0 id long k y (t ++ replicate (n - length t) 0) ≡ explains n (room_reason id a t k) y 0
    unfolding with_room explains room_reason when◌then◌else◌
    tells_flooded h = rw (eq-eqb a none h, e) refl

    pub tells_expanded : (a ≡ none → ⊥) → with_room 6 a id long k y (t ++ replicate (n - length t) 0) ≡ explains n (room_reason id a t k) y 0
    unfolding with_room explains room_reason when◌then◌else◌
    tells_expanded h = rw (ne_eqb a none h, e) refl

-- ---------------------------------------------------------------- the outcome

-- an outcome with another workspace
abbrev over : List ℕ → ExplainOutcome → ExplainOutcome
over ws o = record {
  refused = o.refused;
  reason = o.reason;
  strip = o.strip;
  group = o.group;
  least = o.least;
  grown = o.grown;
  from = o.from;
  length = o.length;
  number = o.number;
  gave = o.gave;
  objecting = o.objecting;
  workspace = ws;
  trail = o.trail;
}

module _ (F : Field) (dist : List ℕ) (most : ℕ) (z : Sizes) (s work : ℕ) (trail₀ : List ℕ) (x : Explanation) (ws l : List ℕ) (q : ws ≡ replicate work 0) where
  pub explains_stop : (stop : ℕ) → stop ≡ stops F dist most z.border → (stop ≡ 0 → ⊥) → ((u v : List ℕ) → explained x u v ≡ unexplained stop u v) → l ≡ trail₀
      → Explains F dist most z s work trail₀ (explained x ws l)
  explains_stop stop e o u b = record { stopped = λ _. u ws l ∙ rw (e, q, b) refl; told = λ k. absurd (o (e ∙ k)) }

  pub explains_reason : (y : Story) → stops F dist most z.border ≡ 0 → y ≡ story F dist most z.border s → explained x [] l ≡ explains (spans F) (reason_of F dist most z s) y 0
      → Explains F dist most z s work trail₀ (explained x ws l)
  unfolding explains
  explains_reason y o e u = record {
    stopped = λ k. absurd (k o);
    told = λ _. rw q (ap (over (replicate work 0)) u ∙ rw e refl);
  }

module _ (F : Field) (dist : List ℕ) (most : ℕ) (z : Sizes) (s : ℕ) (ws l : List ℕ) where
  abbrev own : ℕ
  own = explain_refusal F (length l) (length ws) dist most s

  -- 1 to 8 come before 14
  abbrev before : ℕ
  before = region_refusal F (length dist ∷ length l ∷ []) (length ws) dist most

  pub outcome_refused : (k : ℕ) → k ≡ own → (k ≡ 0 → ⊥) → (o : ExplainOutcome) → o ≡ unexplained k ws l → o ≡ explain_outcome F dist most z s ws l
  unfolding explain_outcome when◌then◌else◌
  outcome_refused k e h o u =
      let f : not (eqb own 0) ≡ true = rw (ne_eqb own 0 (λ y. h (e ∙ y))) refl in
      rw f (u ∙ rw e refl)

  pub outcome-told : (k : ℕ) → k ≡ own → k ≡ 0 → (o : ExplainOutcome) → Explains F dist most z s (length ws) l o → o ≡ explain_outcome F dist most z s ws l
  unfolding explain_outcome when◌then◌else◌
  outcome-told k e h o u =
      let f : not (eqb own 0) ≡ false = rw (eq-eqb own 0 (sym e ∙ h)) refl in
      rw f (either (stops F dist most z.border) refl)
    where
      either : (stop : ℕ) → stop ≡ stops F dist most z.border
          → o ≡ (when not (eqb (stops F dist most z.border) 0) then unexplained (stops F dist most z.border) (replicate (length ws) 0) l
          else explains (spans F) (reason_of F dist most z s) (story F dist most z.border s) (length ws))
      either zero p =
          let g : not (eqb (stops F dist most z.border) 0) ≡ false = rw (eq-eqb (stops F dist most z.border) 0 (sym p)) refl in
          rw g (u.told (sym p))
      either (suc n) p =
          let c : stops F dist most z.border ≡ 0 → ⊥ = λ y. omega (arith, p, y) in
          let g : not (eqb (stops F dist most z.border) 0) ≡ true = rw (ne_eqb (stops F dist most z.border) 0 c) refl in
          rw g (u.stopped c)

  -- nothing is refused
  pub none_refused : (k : ℕ) → k ≡ own → k ≡ 0 → (region_refusal F (length dist ∷ length l ∷ []) (length ws) dist most ≡ 0) × (s < spans F)
  unfolding explain_refusal
  none_refused k e h =
      if-ind (λ (x : ℕ). x ≡ 0 → (before ≡ 0) × (s < spans F)) (not (eqb before 0)) (λ t x. absurd (eqb-false _ _ (not-true _ t) x))
      (λ t. if-ind (λ (x : ℕ). x ≡ 0 → (before ≡ 0) × (s < spans F)) (ltb s (spans F)) (λ u _. (eqb-true _ _ (not-false _ t), ltb-true _ _ u)) (λ _ x. absurd (omega arith)))
      (sym e ∙ h)

-- ---------------------------------------------------------------- parts

-- the records lie in the part that is lent
pub built_in : (F : Field) (ids : List ℕ) (next end : ℕ) (ws ys : List ℕ) → end ≤ length ws → length ys ≡ length (take end ws) → Built F ids next (take end ws) ys
    → Built F ids next (take end ws) (take end (ys ++ drop end ws))
built_in F ids next end ws ys h n B = rw (take_at ys (drop end ws) end (n ∙ part_length end ws h)) B

zeros_past : (n k : ℕ) → drop k (replicate {A = ℕ} n 0) ≡ replicate (n - k) 0
zeros_past n zero = let e : n - 0 ≡ n = omega arith in rw e refl
zeros_past zero (suc k) = let e : 0 - suc k ≡ 0 = omega arith in rw e refl
zeros_past (suc n) (suc k) = let e : suc n - suc k ≡ n - k = omega arith in rw e (zeros_past n k)

-- a trail over zeros
pub trail_laid : (t l m : List ℕ) (r : ℕ) → m ≡ replicate (length l) 0 → r ≡ 0 + length t → (x : List ℕ) → x ≡ take 0 m ++ (t ++ drop r m) → length t ≤ length l
    → (r ≡ length t) × (x ≡ t ++ replicate (length l - length t) 0)
trail_laid t l m r e q x w h =
    let k : r ≡ length t = omega (arith, q) in
    (k, w ∙ rw (e, k, zeros_past (length l) (length t)) refl)

-- ---------------------------------------------------------------- with the numbers in a list

module _ (F : Field) (dist : List ℕ) (most : ℕ) (z : Sizes) (s : ℕ) (w₀ t₀ a₀ : List ℕ) where
  pub into_other : (k : ℕ) → (length a₀ ≡ 11 → ⊥) → k ≡ refusal F ((spans F + 1) ∷ (spans F + 1) ∷ []) → ExplainsInto F dist most z s w₀ t₀ a₀ k w₀ t₀ a₀
  into_other k n e = record {
    refused = λ h. absurd (n h);
    numbers = λ h. absurd (n h);
    workspace = λ h. absurd (n h);
    trail = λ h. absurd (n h);
    other = λ _. e;
    as_was = λ _. (refl, refl, refl);
  }

  pub meant_other : (k : ℕ) → (length a₀ ≡ 11 → ⊥) → ExplainsMeant F dist most z s w₀ t₀ a₀ k
  meant_other k n = record { means = λ h. absurd (n h) }

  pub into_told : (x : Explanation) (w t a : List ℕ) → length a₀ ≡ 11 → explained x w t ≡ explain_outcome F dist most z s w₀ t₀ → a ≡ numbers_of (explained x [] [])
      → ExplainsInto F dist most z s w₀ t₀ a₀ x.refusal w t a
  into_told x w t a n e f = record {
    refused = λ _. ap (λ (o : ExplainOutcome). o.refused) e;
    numbers = λ _. f ∙ ap numbers_of e;
    workspace = λ _. ap (λ (o : ExplainOutcome). o.workspace) e;
    trail = λ _. ap (λ (o : ExplainOutcome). o.trail) e;
    other = λ h. absurd (h n);
    as_was = λ h. absurd (h n);
  }

  pub meant_told : (x : Explanation) (w t : List ℕ) → explained x w t ≡ explain_outcome F dist most z s w₀ t₀
      → (x.refusal ≡ 0 → Means F dist most z s (explained x w t)) → ExplainsMeant F dist most z s w₀ t₀ a₀ x.refusal
  meant_told x w t e g = record { means = λ _ k. rw (← e) (g k) }
