-- What mending gives, of the rules alone: a mended field is sound, a sound one stays as it is with nothing listed, so mending twice is mending once.
-- A connection that stays keeps its answer, so all that is left passes both tests of connections. Assumes nothing.
use Prim.Native.Nat.{ℕ, zero, suc, ◌+◌, ◌*◌, ◌/◌, ◌%◌, ◌≤◌, ◌<◌}
use native.Mathlib.Omega.{arith}
use native.Mathlib.Nat.{le_refl, div-add-mod'}
use mathlib.Core.Path.{◌≡◌, refl, sym, ap, ◌∙◌}
use mathlib.Core.Bool.{Bool, true, false, not}
use mathlib.Core.List.{List, []}
use lib.ListN.{length}
use lib.Dec.{eqb, leb}
use borrow.Author.Tests.{eq-eqb, le-ltb, ltb-false, leb-true, not-false, eqb-true, eqb-false}
use Rattle.rules.specs.Base.{◌or◌, ◌and◌, when◌then◌else◌, every}
use Rattle.rules.specs.Field.{Field, spans, con_of}
use Rattle.rules.specs.Refusals.{good_con, good_back, too_wide, too_many, wrong_length, wrong_cells, wrong_reach, wrong_back, refusal, most_spans}
use Rattle.rules.specs.Mend.{stays, stays_at, mended_at, mended_con, mended, relinked, changes_to, changed_to, changed, MendOutcome, mend_refusal, mend_outcome}
use Rattle.laws.proofs.Basics.{both, and_both, every-at, every_all, tab-at, length-tab}
use Rattle.laws.proofs.Cells.{passed}
use Rattle.field.specs.Lent.{Celled}
use Rattle.field.proofs.Passed.{reached_of}
use Rattle.mend.specs.Answer.{before_links}
use Rattle.mend.proofs.StepLaws.{span_of, way_of}
use Rattle.mend.proofs.WalkLaws.{celled_on}
use Rattle.mend.proofs.Keeping.{Loses, none_stays, stays_on}
use Rattle.mend.proofs.Walked.{way_in, span_in_lem, mended_loses, mended_is}
use Rattle.mend.proofs.Before.{ends_celled}

-- ---------------------------------------------------------------- a field with cells in order whose connections all stay is sound

module _ (F : Field) (ok : Celled F) where
  narrow : too_wide F ≡ false
  unfolding too_wide ◌or◌
  narrow = rw (le-ltb 256 F.w ok.narrow, le-ltb 256 F.h ok.short)

  few : too_many F ≡ false
  unfolding too_many
  few = le-ltb most_spans (spans F) ok.few

  ordered : wrong_cells F ≡ false
  unfolding wrong_cells
  ordered = rw ok.cells

  module _ (all : (s d : ℕ) → s < spans F → d < 4 → stays F s d ≡ true) where
    reach_all : wrong_reach F ≡ false
    unfolding wrong_reach stays
    reach_all = ap not (every_all (spans F) (λ s. every 4 (good_con F s)) (λ s h. every_all 4 (good_con F s) (λ d l. (both _ _ (all s d h l)).0)))

    back_all : wrong_back F ≡ false
    unfolding wrong_back stays
    back_all = ap not (every_all (spans F) (λ s. every 4 (good_back F s)) (λ s h. every_all 4 (good_back F s) (λ d l. (both _ _ (all s d h l)).1)))

    sound_all : refusal F [] ≡ 0
    unfolding refusal when◌then◌else◌ wrong_length ◌and◌ every
    sound_all =
        rw (
          narrow,
          few,
          eq-eqb (length F.index) (F.w * F.h) ok.indexed,
          eq-eqb (length F.count) (F.w * F.h) ok.counted,
          eq-eqb (length F.con) (4 * spans F) ok.linked,
          ordered,
          reach_all,
          back_all,
        )

-- ---------------------------------------------------------------- a mended field is sound

module _ (F : Field) (ok : Celled F) where
  mended-length : length (mended_con F) ≡ 4 * spans F
  unfolding mended_con
  mended-length = length-tab (4 * spans F) 0 (mended_at F)

  mended-celled : Celled (relinked F (mended_con F))
  mended-celled =
      celled_on F.w F.h F.index F.count F.area F.con (mended_con F) ok (mended-length ∙ sym ok.linked)

  mended_con_lem : (s d : ℕ) → s < spans F → d < 4 → con_of (relinked F (mended_con F)) s d ≡ mended_at F (4 * s + d)
  unfolding con_of mended_con
  mended_con_lem s d h l =
      let z : 0 + (4 * s + d) ≡ 4 * s + d = omega arith in
      tab-at (4 * spans F) 0 (mended_at F) (4 * s + d) 255 (omega arith) ∙ ap (mended_at F) z

  mended_some : (s d : ℕ) → s < spans F → d < 4 → Loses F s d (con_of (relinked F (mended_con F)) s d)
  mended_some s d h l = rw (mended_con_lem s d h l) (rw (span_of s d l, way_of s d l) at (mended_loses F (4 * s + d)))

  -- a connection that stays is the same, and one that does not is none
  mended_kept : (s d : ℕ) → s < spans F → d < 4 → stays F s d ≡ true → con_of (relinked F (mended_con F)) s d ≡ con_of F s d
  unfolding mended_at stays_at con_of when◌then◌else◌
  mended_kept s d h l e = mended_con_lem s d h l ∙ rw (span_of s d l, way_of s d l, e)

  mended_cut : (s d : ℕ) → s < spans F → d < 4 → stays F s d ≡ false → con_of (relinked F (mended_con F)) s d ≡ 255
  unfolding mended_at stays_at when◌then◌else◌
  mended_cut s d h l e = mended_con_lem s d h l ∙ rw (span_of s d l, way_of s d l, e)

  mended-stays : (s d : ℕ) → s < spans F → d < 4 → stays (relinked F (mended_con F)) s d ≡ true
  mended-stays s d h l = by (stays F s d) refl
    where
      by : (b : Bool) → stays F s d ≡ b → stays (relinked F (mended_con F)) s d ≡ true
      by true e = stays_on F ok (mended_con F) mended-celled mended_some s d h l (mended_kept s d h l e) e
      by false e = none_stays (relinked F (mended_con F)) s d (mended_cut s d h l e)

  -- "The result is never refused 5 or 6"
  pub mended_sound : refusal (mended F) [] ≡ 0
  unfolding mended
  mended_sound = sound_all (relinked F (mended_con F)) mended-celled mended-stays

-- ---------------------------------------------------------------- a sound field stays as it is

-- where all stay, nothing changes
module _ (F : Field) (n : ℕ) (all : (i : ℕ) → i < n → stays_at F i ≡ true) where
  nothing-changed : (i : ℕ) → i ≤ n → changed_to F i ≡ 0
  unfolding changed_to when◌then◌else◌
  nothing-changed zero h = refl
  nothing-changed (suc i) h = rw (all i (omega arith)) (nothing-changed i (omega arith))

  nothing-listed : (i : ℕ) → i ≤ n → changes_to F i ≡ []
  unfolding changes_to when◌then◌else◌
  nothing-listed zero h = refl
  nothing-listed (suc i) h = rw (all i (omega arith)) (nothing-listed i (omega arith))

module _ (F : Field) (ok : refusal F [] ≡ 0) where
  sound_stays : (s d : ℕ) → s < spans F → d < 4 → stays F s d ≡ true
  unfolding wrong_reach wrong_back stays
  sound_stays s d h l =
      let v = passed F [] ok in
      and_both _ _
      (every-at 4 (good_con F s) (every-at (spans F) (λ s. every 4 (good_con F s)) (not-false _ v.reach) s h) d l)
      (every-at 4 (good_back F s) (every-at (spans F) (λ s. every 4 (good_back F s)) (not-false _ v.back) s h) d l)

  sound_stays-at : (i : ℕ) → i < 4 * spans F → stays_at F i ≡ true
  unfolding stays_at
  sound_stays-at i h = sound_stays (i / 4) (i % 4) (span_in_lem i (spans F) h) (way_in i)

  sound_con : mended_con F ≡ F.con
  unfolding mended_at when◌then◌else◌
  sound_con = sym (mended_is F F.con (reached_of F [] ok).celled.linked (λ p h. rw (sound_stays-at p h)))

  -- "a sound field comes back unchanged with an empty list"
  pub sound_same : (changes : List ℕ) → mend_outcome F changes ≡ record { refused = 0; count = 0; con = F.con; changes = changes }
  unfolding mend_outcome mend_refusal when◌then◌else◌ ◌and◌
  sound_same changes =
      let z : 0 ≤ length changes / 3 = omega arith in
      rw (
        ok,
        nothing-changed F (4 * spans F) sound_stays-at (4 * spans F) (le_refl (4 * spans F)),
        nothing-listed F (4 * spans F) sound_stays-at (4 * spans F) (le_refl (4 * spans F)),
        le-ltb (length changes / 3) 0 z,
        sound_con,
      )

-- ---------------------------------------------------------------- of the outcome

-- an outcome that is no refusal
chosen : (r : ℕ) (done left : MendOutcome) → left.refused ≡ r
    → (when eqb r 0 then done else left).refused ≡ 0 → (r ≡ 0) × ((when eqb r 0 then done else left).con ≡ done.con)
unfolding when◌then◌else◌
chosen r done left e = by (eqb r 0) refl
  where
    by : (b : Bool) → eqb r 0 ≡ b → (when b then done else left).refused ≡ 0 → (r ≡ 0) × ((when b then done else left).con ≡ done.con)
    by true f g = (eqb-true r 0 f, refl)
    by false f g = absurd (eqb-false r 0 f (sym e ∙ g))

none_before : (u x : ℕ) → (when leb 1 u and leb u 4 then u else x) ≡ 0 → before_links u ≡ 0
unfolding before_links when◌then◌else◌
none_before u x = by (leb 1 u and leb u 4) refl
  where
    by : (b : Bool) → (leb 1 u and leb u 4) ≡ b → (when b then u else x) ≡ 0 → (when b then u else 0) ≡ 0
    by true f g = g
    by false f g = refl

chosen_count : (r : ℕ) (done left : MendOutcome) → left.refused ≡ r
    → (when eqb r 0 then done else left).refused ≡ 0 → (when eqb r 0 then done else left).count ≡ done.count
unfolding when◌then◌else◌
chosen_count r done left e = by (eqb r 0) refl
  where
    by : (b : Bool) → eqb r 0 ≡ b → (when b then done else left).refused ≡ 0 → (when b then done else left).count ≡ done.count
    by true f g = refl
    by false f g = absurd (eqb-false r 0 f (sym e ∙ g))

none_full : (u : ℕ) (c : Bool) → (when leb 1 u and leb u 4 then u else when c then 27 else 0) ≡ 0 → c ≡ false
unfolding when◌then◌else◌
none_full u c = by (leb 1 u and leb u 4) refl c
  where
    by : (b : Bool) → (leb 1 u and leb u 4) ≡ b → (c : Bool) → (when b then u else when c then 27 else 0) ≡ 0 → c ≡ false
    by true f c g = absurd (omega (arith, leb-true 1 u (both _ _ f).0))
    by false f true g = absurd (omega arith)
    by false f false g = refl

module _ (F : Field) (changes : List ℕ) (done : (mend_outcome F changes).refused ≡ 0) where
  -- the changes have their places
  pub mend_fits : 3 * (mend_outcome F changes).count ≤ length changes
  unfolding mend_outcome mend_refusal
  mend_fits =
      let r = (chosen (mend_refusal F (length changes)) _ _ refl done).0 in
      let q : changed F ≤ length changes / 3 = ltb-false _ _ (none_full (refusal F []) _ r) in
      let c : (mend_outcome F changes).count ≡ changed F = chosen_count (mend_refusal F (length changes)) _ _ refl done in
      rw c (omega (arith, div-add-mod' (length changes) 3))

  mend_celled : Celled F
  unfolding mend_outcome mend_refusal
  mend_celled = ends_celled F (none_before (refusal F []) _ (chosen (mend_refusal F (length changes)) _ _ refl done).0)

  mend_con : (mend_outcome F changes).con ≡ mended_con F
  unfolding mend_outcome
  mend_con = (chosen (mend_refusal F (length changes)) _ _ refl done).1

  -- "The result is never refused 5 or 6": nor anything else
  pub mend_sound : refusal (relinked F (mend_outcome F changes).con) [] ≡ 0
  unfolding mended
  mend_sound = rw mend_con (mended_sound F mend_celled)

  -- "mending twice is mending once"
  pub mend_twice : (again : List ℕ)
      → mend_outcome (relinked F (mend_outcome F changes).con) again ≡ record { refused = 0; count = 0; con = (mend_outcome F changes).con; changes = again }
  mend_twice again = sound_same (relinked F (mend_outcome F changes).con) mend_sound again
