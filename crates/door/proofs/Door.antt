-- "Where the stored lists are those of the field before the edit, all of them and max_distance afterwards equal a build from nothing".
-- A build's values are at most 510, so nothing is refused; the rest is `Redone`.
use Prim.Native.Nat.{ℕ, ◌≤◌, ◌<◌}
use native.Mathlib.Omega.{arith}
use native.Mathlib.Decide.{dec_lt}
use mathlib.Core.Path.{◌≡◌, refl, sym, ◌∙◌}
use mathlib.Core.Bool.{false}
use mathlib.Core.List.{List, [], ◌∷◌}
use lib.ListN.{length, get_or, get_or-eq_default}
use Rattle.rules.specs.Base.{◌or◌, when◌then◌else◌}
use Rattle.rules.specs.Field.{Field, spans, Bytes}
use Rattle.rules.specs.Refusals.{refusal}
use Rattle.rules.specs.Distance.{start, far, pass1, raw, blur}
use Rattle.rules.specs.Refresh.{Rect, repainted, wrong_rect, wrong_stored, refresh_refusal, refreshed, refresh_outcome, stages_outcome}
use Rattle.laws.proofs.Basics.{get_d_any}
use Rattle.laws.proofs.Cells.{passed}
use Rattle.laws.proofs.Lengths.{start-length, pass1-length, raw-length, blur-length}
use Rattle.meaning.proofs.Sums.{pass1-at_most_510, raw_low}
use Rattle.meaning.proofs.Blurred.{none_above}
use Rattle.door.specs.Edit.{Edited, AsBuilt}
use Rattle.door.proofs.Accepted.{three_lengths, accepts, rows_in, build_accepted, built-pass1, built-raw, built_blurred, repainted-refusal}
use Rattle.door.proofs.Redone.{refreshed-pass1, refreshed-raw, refreshed_blurred, refreshed_most}

-- what is read of a list of at most 510
low_read : (n : ℕ) (l : List ℕ) → length l ≡ n → ((t : ℕ) → t < n → far l t ≤ 510) → (i : ℕ) → get_or l i 0 ≤ 510
low_read n l e h i =
    elim (dec_lt i (length l)) [
      | yes g ↦ rw (get_d_any l i 0 65535 g) (h i (omega arith))
      | no g ↦ let z : get_or l i 0 ≡ 0 = get_or-eq_default l 0 (omega arith) in omega arith
    ]

module _ (F : Field) (lens : List ℕ) (ok : refusal F lens ≡ 0) (bytes : Bytes F) where
  -- 31 is not given for the lists of a build
  build_not_31 : wrong_stored (pass1 F (start F)) (raw F) ≡ false
  unfolding wrong_stored ◌or◌
  build_not_31 =
      let v = passed F lens ok in
      rw (
        none_above (pass1 F (start F)) 510 (low_read (spans F) (pass1 F (start F)) (pass1-length F (start F) ∙ start-length F) (pass1-at_most_510 F lens v bytes)),
        none_above (raw F) 510 (low_read (spans F) (raw F) (raw-length F) (raw_low F lens v bytes)),
      )

module _ (F : Field) (bytes : Bytes F) (q : Rect) (rect : wrong_rect F q ≡ false) (area : List ℕ) (edit : Edited F q area) (p r b : List ℕ)
    (none : refusal F (length p ∷ length r ∷ length b ∷ []) ≡ 0) where
  none' : refusal (repainted F area) (length p ∷ length r ∷ length b ∷ []) ≡ 0
  none' = repainted-refusal F area (length p ∷ length r ∷ length b ∷ []) edit.size ∙ none

  nothing_refused : refresh_refusal (repainted F area) q (pass1 F (start F)) (raw F) (blur F (raw F)) ≡ 0
  unfolding wrong_rect
  nothing_refused =
      let n = three_lengths F (length p) (length r) (length b) none in
      let np : length (pass1 F (start F)) ≡ length p = pass1-length F (start F) ∙ start-length F ∙ sym n.0 in
      let nr : length (raw F) ≡ length r = raw-length F ∙ sym n.1 in
      let nb : length (blur F (raw F)) ≡ length b = blur-length F (raw F) ∙ sym n.2 in
      accepts (repainted F area) q (pass1 F (start F)) (raw F) (blur F (raw F))
      (record { field = rw (np, nr, nb) none'; rect = rect; stored = build_not_31 F (length p ∷ length r ∷ length b ∷ []) none bytes })

  refreshed_as_built : AsBuilt (refresh_outcome (repainted F area) q (pass1 F (start F)) (raw F) (blur F (raw F))) (stages_outcome (repainted F area) p r b)
  unfolding refresh_outcome stages_outcome refreshed when◌then◌else◌
  refreshed_as_built =
      let z = rows_in F q rect in
      let v = passed F (length p ∷ length r ∷ length b ∷ []) none in
      let v' = passed (repainted F area) (length p ∷ length r ∷ length b ∷ []) none' in
      rw (nothing_refused, none')
      (record {
        refused = refl;
        most = refreshed_most F _ v q area edit _ v' z.0 z.1;
        pass1 = refreshed-pass1 F _ v q area edit _ v' z.0 z.1;
        raw = refreshed-raw F _ v q area edit _ v' z.0 z.1;
        blurred = refreshed_blurred F _ v q area edit _ v' z.0 z.1;
      })

-- build, edit and refresh; or edit and build
pub refresh_is_build : (F : Field) → Bytes F → (q : Rect) → wrong_rect F q ≡ false → (area : List ℕ) → Edited F q area → (p r b : List ℕ) → (stages_outcome F p r b).refused ≡ 0
    → AsBuilt (refresh_outcome (repainted F area) q (stages_outcome F p r b).pass1 (stages_outcome F p r b).raw (stages_outcome F p r b).blurred) (stages_outcome (repainted F area) p r b)
refresh_is_build F bytes q rect area edit p r b e =
    let none = build_accepted F p r b e in
    rw (built-pass1 F p r b none, built-raw F p r b none, built_blurred F p r b none) (refreshed_as_built F bytes q rect area edit p r b none)
