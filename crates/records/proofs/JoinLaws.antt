-- The ids of a cell's other spans join, one after the other: what is left joins the list so far, to the same end.
-- There is room: the span itself does not join, and no other joins twice.
use Prim.Native.Nat.{ℕ, suc, ◌+◌, ◌-◌, ◌≤◌, ◌<◌}
use native.Mathlib.Omega.{arith}
use native.Mathlib.Decide.{ℕ_discrete, dec_lt}
use mathlib.Core.Path.{◌≡◌, refl, sym, ◌∙◌}
use mathlib.Core.Bool.{Bool, true, false, not}
use mathlib.Core.List.{List, map}
use lib.ListN.{length, get_or, take}
use lib.Dec.{eqb}
use Rattle.rules.specs.Base.{◌and◌, when◌then◌else◌, keep, tab}
use Rattle.rules.specs.Field.{Field, cell_of}
use Rattle.rules.specs.Growth.{plain}
use Rattle.rules.specs.Records.{has, once, once_all, others}
use Rattle.laws.proofs.Basics.{if-ind}
use Rattle.records.specs.Cell.{others_from, join_one, JoinedOne, JoinedAll, Lies, Near, Unchanged, Prior, Roomy, Joining}
use Rattle.records.specs.declared.cell.Spans.{Spans}
use Rattle.records.proofs.CellLaws.{join_self, join_not, join_yes}
use Rattle.records.proofs.KnownLaws.{once_keeps}

-- the rule's others are those of the cell
pub others_from_lem : (F : Field) (ids : List ℕ) (s : ℕ) → others F ids s ≡ others_from ids s (get_or F.count (cell_of F.count s) 0) (get_or F.index (cell_of F.count s) 0)
unfolding others others_from
others_from_lem F ids s = refl

others-step : (ids : List ℕ) (s n t : ℕ) (l : List ℕ) → once_all l (others_from ids s (suc n) t) ≡ once_all (join_one ids s t l) (others_from ids s n (suc t))
unfolding others_from join_one keep tab once_all when◌then◌else◌ ◌and◌
others-step ids s n t l =
    let x = get_or ids t 0 in
    let r = keep (λ t. not (eqb t s)) (tab n (suc t) (λ t. t)) in
    let rest = keep plain (map (λ t. get_or ids t 0) r) in
    if-ind (λ (y : List ℕ). once_all l (keep plain (map (λ t. get_or ids t 0) y)) ≡ once_all (when not (eqb t s) and plain x then once l x else l) rest) (not (eqb t s))
    (λ e. rw e (if-ind (λ (y : List ℕ). once_all l y ≡ once_all (when plain x then once l x else l) rest) (plain x) (λ f. rw f refl) (λ f. rw f refl)))
    (λ e. rw e refl)

-- what is listed stays listed
join_keeps : (ids : List ℕ) (s t : ℕ) (l : List ℕ) (v : ℕ) → has l v ≡ true → has (join_one ids s t l) v ≡ true
unfolding join_one
join_keeps ids s t l v e = if-ind (λ (x : List ℕ). has x v ≡ true) (not (eqb t s) and plain (get_or ids t 0)) (λ _. once_keeps l (get_or ids t 0) v e) (λ _. e)

once-listed : (part : List ℕ) (len r : ℕ) → len ≤ length part → has (take len part) r ≡ true → JoinedOne (once (take len part) r) len part len
unfolding once when◌then◌else◌
once-listed part len r h z = record { same = rw z; low = omega arith; high = omega arith; within = h }

-- a layer that did not change joins to no effect
pub join_listed : (ids part : List ℕ) (s t u len : ℕ) → len ≤ length part → Unchanged ids (take len part) s t u → get_or ids t 0 ≡ get_or ids u 0
    → JoinedOne (join_one ids s t (take len part)) len part len
join_listed ids part s t u len h U e = elim (ℕ_discrete t s) [ yes z ↦ join_self ids part s t len h z | no z ↦ go z (plain (get_or ids t 0)) refl ]
  where
    go : (t ≡ s → ⊥) → (b : Bool) → plain (get_or ids t 0) ≡ b → JoinedOne (join_one ids s t (take len part)) len part len
    go z true y = join_yes ids part s t len h z y part len (once-listed part len (get_or ids t 0) h (U.listed z e y))
    go z false y = join_not ids part s t len h z y

-- such a layer of a span near the prior cell's, as the list has what it had
pub join_unchanged : (ids part₀ part : List ℕ) (s len k j : ℕ) (cell prior : Spans) → Roomy ids part₀ s cell.from cell.size len
    → Lies ids prior → Prior ids (take len part₀) s cell prior → Joining ids part₀ s cell.from cell.size len part k j → j < cell.size
    → Near ids s cell prior → (t : ℕ) → t ≡ cell.from + j → Unchanged ids (take k part) s t (prior.from + j)
join_unchanged ids part₀ part s len k j cell prior R L P J h n t e = rw e (record {
  spans = R.spans;
  inside = omega (arith, n.size, L.inside (omega (arith, n.size)));
  listed = λ d q y. J.keeps _ (P.listed n j h d q y);
})

module _ (ids part₀ : List ℕ) (s from size len : ℕ) (R : Roomy ids part₀ s from size len) where
  pub join_start : Joining ids part₀ s from size len part₀ len 0
  join_start =
      let a : from + 0 ≡ from = omega arith in
      let b : size - 0 ≡ size = omega arith in
      record { low = omega arith; length' = refl; same = rw (a, b); keeps = λ v e. e; within = omega (arith, R.room, R.lower, R.upper); room₁ = λ _. omega (arith, R.room); room₂ = λ h. absurd (omega (arith, R.lower)) }

  module _ (part : List ℕ) (k j : ℕ) (J : Joining ids part₀ s from size len part k j) (h : j < size) where
    room_there : (k ≤ length part) × ((from + j ≡ s → ⊥) → k < length part)
    room_there =
        elim (dec_lt s (from + j)) [
          | yes g ↦ (let r = J.room₂ g in (omega arith, λ _. omega arith))
          | no g ↦ (let r = J.room₁ (omega arith) in (omega arith, λ n. omega (arith, n, R.upper)))
        ]

    next_there : (part' : List ℕ) (k' : ℕ) → JoinedOne (join_one ids s (from + j) (take k part)) k part' k' → (from + j ≡ s → k' ≡ k) → length part' ≡ length part → Joining ids part₀ s from size len part' k' (j + 1)
    next_there part' k' D z n = record {
      low = omega arith;
      length' = n ∙ J.length';
      same =
          let a : size - j ≡ suc (size - (j + 1)) = omega arith in
          let b : from + (j + 1) ≡ suc (from + j) = omega arith in
          J.same ∙ rw (a, b, D.same) (others-step ids s (size - (j + 1)) (from + j) (take k part));
      keeps = λ v e. rw D.same (join_keeps ids s (from + j) (take k part) v (J.keeps v e));
      within = D.within;
      room₁ = λ g. (let r = J.room₁ (omega arith) in omega (arith, D.high, n));
      room₂ = λ g. elim (ℕ_discrete (from + j) s) [
        | yes e ↦ (let r = J.room₁ (omega arith) in let q = z e in omega (arith, n))
        | no e ↦ (let r = J.room₂ (omega (arith, e)) in omega (arith, D.high, n))
      ];
    }

    -- the span in layer j, as the code has it
    module _ (t : ℕ) (e : t ≡ from + j) where
      pub join_room : (k ≤ length part) × ((t ≡ s → ⊥) → k < length part)
      join_room = rw e room_there

      pub join_next : (part' : List ℕ) (k' : ℕ) → JoinedOne (join_one ids s t (take k part)) k part' k' → (t ≡ s → k' ≡ k) → length part' ≡ length part
          → Joining ids part₀ s from size len part' k' (j + 1)
      join_next part' k' D z n = next_there part' k' (rw e at D) (rw e at z) n

  pub join_end : (part : List ℕ) (k j : ℕ) → Joining ids part₀ s from size len part k j → size ≤ j → JoinedAll (once_all (take len part₀) (others_from ids s size from)) len part k
  unfolding others_from tab keep once_all
  join_end part k j J h =
      let a : size - j ≡ 0 = omega arith in
      record { same = sym (J.same ∙ rw a refl); within = J.within }
