-- What a refresh and a build that are not refused leave: a field that is not, lists with a number for each span, a rectangle in the field and low values.
-- Each test that did not meet the input is a field of `accepted`.
use Prim.Native.Nat.{ℕ, zero, suc, ◌≤◌, ◌<◌}
use native.Mathlib.Omega.{arith}
use mathlib.Core.Path.{◌≡◌, refl}
use mathlib.Core.Bool.{false, not}
use mathlib.Core.List.{List, [], ◌∷◌}
use lib.ListN.{length}
use lib.Dec.{eqb}
use borrow.Author.Tests.{eqb-true, ne_eqb, ltb-false, leb-false, not-false}
use Rattle.rules.specs.Base.{when◌then◌else◌, every}
use Rattle.rules.specs.Field.{Field, spans, near, con_of}
use Rattle.rules.specs.Refusals.{too_wide, too_many, wrong_length, wrong_cells, wrong_reach, wrong_back, good_con, good_back, refusal}
use Rattle.rules.specs.Distance.{start, pass1, raw, blur}
use Rattle.rules.specs.Refresh.{Rect, repainted, wrong_rect, wrong_stored, refresh_refusal, StagesOutcome, stages_outcome}
use Rattle.laws.proofs.Basics.{both, neither, if-ind}
use Rattle.laws.proofs.Cells.{fell, passed}

-- the entry's own three lists hold a number for each span
pub three_lengths : (F : Field) (a b c : ℕ) → refusal F (a ∷ b ∷ c ∷ []) ≡ 0 → (a ≡ spans F) × (b ≡ spans F) × (c ≡ spans F)
unfolding wrong_length every
three_lengths F a b c e =
    let v = both _ _ (both _ _ (not-false _ (passed F (a ∷ b ∷ c ∷ []) e).lengths)).1 in
    let u = both _ _ v.0 in
    (eqb-true _ _ (both _ _ u.0).1, eqb-true _ _ u.1, eqb-true _ _ v.1)

-- ---------------------------------------------------------------- the refresh

-- a number, if it is not 0, or else the rest, that came to 0
went_on : (k r : ℕ) → (when not (eqb k 0) then k else r) ≡ 0 → (k ≡ 0) × (r ≡ 0)
unfolding when◌then◌else◌
went_on zero r e = (refl, e)
went_on (suc k) r e = let f : eqb (suc k) 0 ≡ false = ne_eqb (suc k) 0 (λ z. omega arith) in let z : suc k ≡ 0 = rw f at e in absurd (omega arith)

pub record Accepted (F : Field) (q : Rect) (p r b : List ℕ) : Type 0 where
  pub field : refusal F (length p ∷ length r ∷ length b ∷ []) ≡ 0
  pub rect : wrong_rect F q ≡ false
  pub stored : wrong_stored p r ≡ false

pub accepted : (F : Field) (q : Rect) (p r b : List ℕ) → refresh_refusal F q p r b ≡ 0 → Accepted F q p r b
unfolding refresh_refusal
accepted F q p r b e =
    let a = went_on (refusal F (length p ∷ length r ∷ length b ∷ [])) _ e in
    let c = fell _ _ _ (omega arith) a.1 in
    let d = fell _ _ _ (omega arith) c.1 in
    record { field = a.0; rect = c.0; stored = d.0 }

-- and the other way round
pub accepts : (F : Field) (q : Rect) (p r b : List ℕ) → Accepted F q p r b → refresh_refusal F q p r b ≡ 0
unfolding refresh_refusal when◌then◌else◌
accepts F q p r b v = rw (v.field, v.rect, v.stored)

-- rows z0 to z1 are rows of the field
pub rows_in : (F : Field) (q : Rect) → wrong_rect F q ≡ false → (q.z0 ≤ q.z1) × (q.z1 < F.h)
unfolding wrong_rect
rows_in F q e =
    let a = neither _ _ e in
    let b = neither _ _ a.0 in
    let c = neither _ _ b.0 in
    (ltb-false _ _ c.1, leb-false _ _ a.1)

-- ---------------------------------------------------------------- the build

pub build_accepted : (F : Field) (p r b : List ℕ) → (stages_outcome F p r b).refused ≡ 0 → refusal F (length p ∷ length r ∷ length b ∷ []) ≡ 0
unfolding stages_outcome
build_accepted F p r b =
    if-ind (λ (o : StagesOutcome). o.refused ≡ 0 → refusal F (length p ∷ length r ∷ length b ∷ []) ≡ 0) (eqb (refusal F (length p ∷ length r ∷ length b ∷ [])) 0)
    (λ e _. eqb-true _ _ e)
    (λ _ e. e)

-- what it writes then
module _ (F : Field) (p r b : List ℕ) (e : refusal F (length p ∷ length r ∷ length b ∷ []) ≡ 0) where
  pub built-pass1 : (stages_outcome F p r b).pass1 ≡ pass1 F (start F)
  unfolding stages_outcome when◌then◌else◌
  built-pass1 = rw e

  pub built-raw : (stages_outcome F p r b).raw ≡ raw F
  unfolding stages_outcome when◌then◌else◌
  built-raw = rw e

  pub built_blurred : (stages_outcome F p r b).blurred ≡ blur F (raw F)
  unfolding stages_outcome when◌then◌else◌
  built_blurred = rw e

-- the refusals do not look at area codes
pub repainted-refusal : (F : Field) (area lens : List ℕ) → length area ≡ spans F → refusal (repainted F area) lens ≡ refusal F lens
unfolding refusal too_wide too_many wrong_length wrong_cells wrong_reach wrong_back good_con good_back near con_of
repainted-refusal F area lens e = rw e
