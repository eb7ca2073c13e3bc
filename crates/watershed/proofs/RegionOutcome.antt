-- The region entry's two ways out are the two cases of its outcome, and an outcome has one answer.
-- A verdict's number is 0 exactly where nothing is refused, and no two refusals have the same number.
use Prim.Native.Nat.{ℕ, ◌+◌, ◌*◌, ◌≤◌}
use native.Mathlib.Omega.{arith}
use native.Mathlib.Decide.{dec_lt}
use mathlib.Core.Path.{◌≡◌, refl, sym, ap, ◌∙◌}
use mathlib.Core.Bool.{true, false, not}
use mathlib.Core.Logic.{⊎_elim, ◌⊎◌}
use mathlib.Core.List.{List, [], ◌∷◌}
use lib.ListN.{length, replicate}
use lib.Dec.{eqb}
use borrow.Author.Tests.{eq-eqb, ne_eqb}
use Rattle.rules.specs.Base.{when◌then◌else◌}
use Rattle.rules.specs.Field.{Field, Bytes, spans}
use Rattle.rules.specs.Refusals.{region_refusal}
use Rattle.rules.specs.Growth.{first_id, grown, stops}
use Rattle.rules.specs.Numbering.{Form, Regions, regions, formed}
use Rattle.rules.specs.Outcomes.{Sizes, RegionOutcome, region_outcome}
use Rattle.laws.proofs.Grows.{stop_number}
use Rattle.rooms.specs.Dense.{shifted}
use Rattle.rooms.proofs.Rooms.{accepted, entry_rooms}
use Rattle.rooms.proofs.Dense.{formed_is}
use Rattle.rooms.proofs.Entry.{first_some}
use Rattle.checker.specs.Answer.{number_of, verdict_number}
use Rattle.checker.specs.declared.Refusal.{Refusal}
use Rattle.std.specs.Prelude.{Result, Ok, Err}
use Rattle.field.proofs.Passed.{sound_of, own_lengths}
use Rattle.numbering.specs.declared.Regions as numbering
use Rattle.watershed.specs.Answer.{regions_refused_by, regions_of, max_region_in, overlaps_in, cut_in, AnswersRegions}
use Rattle.watershed.specs.Stages.{Admitted, Finds}
use Rattle.watershed.proofs.FarLaws.{short_seven}
use Rattle.checker.proofs.Numbers.{number_pos, number_same}

-- nothing is refused: the workspace is long enough
roomy : (F : Field) (lens : List ℕ) (work : ℕ) (dist : List ℕ) (most : ℕ) → region_refusal F lens work dist most ≡ 0 → 128 * spans F + 4096 ≤ work
roomy F lens work dist most e = elim (dec_lt work (128 * spans F + 4096)) [
  | yes h ↦ absurd (omega (arith, short_seven F lens work dist most (accepted F lens work dist most e) h, e))
  | no h ↦ omega (arith, h)
]

pub admitted_by : (F : Field) (dist : List ℕ) (most : ℕ) (ws ids : List ℕ) → region_refusal F (length dist ∷ length ids ∷ []) (length ws) dist most ≡ 0 → Admitted F dist ws ids
admitted_by F dist most ws ids none =
    let p = accepted F (length dist ∷ length ids ∷ []) (length ws) dist most none in
    let l = own_lengths F (length dist) (length ids) p in
    record {
      sound = sound_of F (length dist ∷ length ids ∷ []) p;
      distances = l.0;
      idents = l.1;
      room = roomy F (length dist ∷ length ids ∷ []) (length ws) dist most none;
    }

-- ---------------------------------------------------------------- the two ways out

module _ (F : Field) (dist : List ℕ) (most : ℕ) (ws ids : List ℕ) (v : Result Unit Refusal)
    (e : verdict_number v ≡ region_refusal F (length dist ∷ length ids ∷ []) (length ws) dist most) where
  pub regions_refused : (form : Form) (z : Sizes) (r : Refusal) → v ≡ Err r → AnswersRegions (region_outcome form F dist most z ws ids) (Err r) ws ids
  unfolding region_outcome when◌then◌else◌
  regions_refused form z r y =
      let n : number_of r ≡ region_refusal F (length dist ∷ length ids ∷ []) (length ws) dist most = ap verdict_number (sym y) ∙ e in
      let f : not (eqb (region_refusal F (length dist ∷ length ids ∷ []) (length ws) dist most) 0) ≡ true
      = rw (ne_eqb (region_refusal F (length dist ∷ length ids ∷ []) (length ws) dist most) 0 (λ k. omega (arith, number_pos r))) refl in
      record { refused = rw f n; most = rw f; over = rw f; cut = rw f; workspace = rw f; ids = rw f }

  module _ (y : v ≡ Ok tt) where
    none : region_refusal F (length dist ∷ length ids ∷ []) (length ws) dist most ≡ 0
    none = sym e ∙ ap verdict_number y

    pub admitted : Admitted F dist ws ids
    admitted = admitted_by F dist most ws ids none

    passes : not (eqb (region_refusal F (length dist ∷ length ids ∷ []) (length ws) dist most) 0) ≡ false
    passes = rw (eq-eqb (region_refusal F (length dist ∷ length ids ∷ []) (length ws) dist most) 0 none) refl

    -- what the stages find, g, where growth is stopped
    module _ (z : Sizes) (stop : ℕ) (v₁ : Regions) (g : Finds F dist most z ids stop v₁) (ws' : List ℕ) (q : ws' ≡ replicate (length ws) 0) where
      pub regions_stopped : (form : Form) (r : Refusal) → number_of r ≡ stop → (stop ≡ 0 → ⊥) → AnswersRegions (region_outcome form F dist most z ws ids) (Err r) ws' v₁.ids
      unfolding region_outcome when◌then◌else◌
      regions_stopped form r e o =
          let p : not (eqb (stops F dist most z.border) 0) ≡ true = rw (ne_eqb (stops F dist most z.border) 0 (λ k. o (g.stops ∙ k))) refl in
          record {
            refused = rw (passes, p) (e ∙ g.stops);
            most = rw (passes, p);
            over = rw (passes, p);
            cut = rw (passes, p);
            workspace = rw (passes, p) q;
            ids = rw (passes, p) (g.back o);
          }

    -- what they find, as a result x: a refusal is handed on
    module _ (z : Sizes) (x : Result numbering.Regions Refusal) (ids₁ : List ℕ) (g : Finds F dist most z ids (regions_refused_by x) (regions_of x ids₁))
        (ws' : List ℕ) (q : ws' ≡ replicate (length ws) 0) where
      pub regions_handed : (form : Form) (r : Refusal) → x ≡ Err r → AnswersRegions (region_outcome form F dist most z ws ids) (Err r) ws' ids₁
      regions_handed form r t =
          let e : number_of r ≡ regions_refused_by x = ap regions_refused_by (sym t) in
          regions_stopped z (regions_refused_by x) (regions_of x ids₁) g ws' q form r e (λ k. omega (arith, number_pos r, e, k))

      -- and what the form makes of it, y, where it is not
      pub regions_done : (form : Form) (v y : numbering.Regions) (ids' : List ℕ) → x ≡ Ok v → Bytes F
          → record { ids = ids'; most = y.max_region; over = y.overlaps; cut = y.cut } ≡ shifted form (first_id z.border) (record { ids = ids₁; most = v.max_region; over = v.overlaps; cut = v.cut })
          → AnswersRegions (region_outcome form F dist most z ws ids) (Ok y) ws' ids'
      unfolding region_outcome when◌then◌else◌
      regions_done form v y ids' t bytes s =
          let o : regions_refused_by x ≡ 0 = ap regions_refused_by t in
          let goes : stops F dist most z.border ≡ 0 = sym g.stops ∙ o in
          let rooms = entry_rooms F (length dist ∷ length ids ∷ []) (length ws) dist most none bytes z.border z.least z.merge goes in
          let p : record { ids = ids'; most = y.max_region; over = y.overlaps; cut = y.cut } ≡ formed form (regions F z.least z.merge (grown F dist most z.border).ids (grown F dist most z.border).next) =
          s ∙ ap (shifted form (first_id z.border)) (ap (λ (a : Result numbering.Regions Refusal). regions_of a ids₁) (sym t) ∙ g.done o) ∙ sym (formed_is form F (first_id z.border) _ rooms (first_some z.border)) in
          let f : not (eqb (stops F dist most z.border) 0) ≡ false = rw (eq-eqb (stops F dist most z.border) 0 goes) refl in
          record {
            refused = rw (passes, f);
            most = rw (passes, f) (ap (λ (g : Regions). g.most) p);
            over = rw (passes, f) (ap (λ (g : Regions). g.over) p);
            cut = rw (passes, f) (ap (λ (g : Regions). g.cut) p);
            workspace = rw (passes, f) q;
            ids = rw (passes, f) (ap (λ (g : Regions). g.ids) p);
          }

-- 12 or 13
pub stop_is : (F : Field) (dist : List ℕ) (most border stop : ℕ) → stop ≡ stops F dist most border → (stop ≡ 0 → ⊥) → (stop ≡ 12) ⊎ (stop ≡ 13)
stop_is F dist most border stop e o = rw e (⊎_elim (λ (k : stops F dist most border ≡ 0). absurd (o (e ∙ k))) (λ k. k) (stop_number F dist most border))

-- ---------------------------------------------------------------- one answer

answer_same : (a b : Result numbering.Regions Refusal) → regions_refused_by a ≡ regions_refused_by b → max_region_in a ≡ max_region_in b → overlaps_in a ≡ overlaps_in b → cut_in a ≡ cut_in b → a ≡ b
answer_same (Err r) (Err s) e f g h = ap Err (number_same r s e)
answer_same (Err r) (Ok v) e f g h = absurd (omega (arith, number_pos r))
answer_same (Ok v) (Err s) e f g h = absurd (omega (arith, number_pos s))
answer_same (Ok v) (Ok y) e f g h = ap Ok (numbers_same v y f g h)
  where
    numbers_same : (v y : numbering.Regions) → v.max_region ≡ y.max_region → v.overlaps ≡ y.overlaps → v.cut ≡ y.cut → v ≡ y
    numbers_same v y f g h = rw (f, g, h)

-- two results that satisfy the promise of `build_regions` coincide
pub one_region_answer : (o : RegionOutcome) (a b : Result numbering.Regions Refusal) (l m x y : List ℕ) → AnswersRegions o a l m → AnswersRegions o b x y → (a ≡ b) × (l ≡ x) × (m ≡ y)
one_region_answer o a b l m x y p q = (
  answer_same a b (p.refused ∙ sym q.refused) (p.most ∙ sym q.most) (p.over ∙ sym q.over) (p.cut ∙ sym q.cut),
  p.workspace ∙ sym q.workspace,
  p.ids ∙ sym q.ids,
)
