-- An entry's answer, taken apart into numbers, is the outcome:
-- each number is that of the answer, and the answer's is the outcome's.
use Prim.Native.Nat.{ℕ}
use mathlib.Core.Path.{◌≡◌, sym, ap, ◌∙◌}
use mathlib.Core.List.{List}
use Rattle.rules.specs.Field.{Field}
use Rattle.rules.specs.Numbering.{Form}
use Rattle.rules.specs.Outcomes.{DistanceOutcome, RegionOutcome}
use Rattle.rules.specs.Mend.{MendOutcome}
use Rattle.rules.specs.Refresh.{StagesOutcome}
use Rattle.std.specs.Prelude.{Result}
use Rattle.checker.specs.declared.Refusal.{Refusal}
use Rattle.refresh.specs.Answer.{stages_refused_by, stages_most_in, stages_given}
use Rattle.numbering.specs.declared.Regions as numbering
use Rattle.watershed.specs.Answer.{refused_by, most_in, Answers, GivesDistances, regions_refused_by, max_region_in, overlaps_in, cut_in, AnswersRegions, GivesRooms}
use Rattle.mend.specs.declared.MendRefusal.{MendRefusal}
use Rattle.mend.specs.Answer.{mend_refused_by, changes_in, outcome}
use Rattle.gussetraft.specs.declared.Distances.{Distances}
use Rattle.gussetraft.specs.declared.Regions.{Regions}
use Rattle.gussetraft.specs.declared.Mending.{Mending}
use Rattle.gussetraft.specs.Exported.{Gives, LeavesDistances, GivesRegions, LeavesRooms, GivesMending, GivesStages}

pub gives_distances : (o : DistanceOutcome) (a : Result ℕ Refusal) (r : Distances) (raw blurred : List ℕ) → Answers o a raw blurred
    → r.refusal ≡ refused_by a → r.max_distance ≡ most_in a → Gives o r raw blurred
gives_distances o a r raw blurred p e f = record { refusal = e ∙ p.refused; most = f ∙ p.most; first = p.raw; second = p.blurred }

pub leaves_distances : (F : Field) (a : Result ℕ Refusal) (r : Distances) (raw blurred : List ℕ) → GivesDistances F a raw blurred
    → r.refusal ≡ refused_by a → r.max_distance ≡ most_in a → LeavesDistances F r raw blurred
leaves_distances F a r raw blurred g e f = record { meant = λ z. rw f (g.meant (sym e ∙ z)) }

pub gives-regions : (o : RegionOutcome) (a : Result numbering.Regions Refusal) (r : Regions) (ws ids : List ℕ) → AnswersRegions o a ws ids
    → r.refusal ≡ regions_refused_by a → r.max_region ≡ max_region_in a → r.overlaps ≡ overlaps_in a → r.cut ≡ cut_in a → GivesRegions o r ws ids
gives-regions o a r ws ids p e f g h =
    record { refusal = e ∙ p.refused; most = f ∙ p.most; over = g ∙ p.over; cut = h ∙ p.cut; cleared = p.workspace; numbers = p.ids }

pub leaves_rooms : (form : Form) (F : Field) (border : ℕ) (a : Result numbering.Regions Refusal) (r : Regions) (ids : List ℕ) → GivesRooms form F border a ids
    → r.refusal ≡ regions_refused_by a → r.max_region ≡ max_region_in a → LeavesRooms form F border r ids
leaves_rooms form F border a r ids g e f = record { rooms = λ z. rw f (g.rooms (sym e ∙ z)) }

pub gives_mending : (o : MendOutcome) (a : Result ℕ MendRefusal) (r : Mending) (con changes : List ℕ) → outcome a con changes ≡ o
    → r.refusal ≡ mend_refused_by a → r.count ≡ changes_in a → GivesMending o r con changes
gives_mending o a r con changes p e f =
    record {
      refusal = e ∙ ap (λ v. v.refused) p;
      many = f ∙ ap (λ v. v.count) p;
      left = ap (λ v. v.con) p;
      listed = ap (λ v. v.changes) p;
    }

pub gives_stages : (o : StagesOutcome) (a : Result ℕ Refusal) (r : Distances) (p l b : List ℕ) → stages_given a p l b ≡ o
    → r.refusal ≡ stages_refused_by a → r.max_distance ≡ stages_most_in a → GivesStages o r p l b
gives_stages o a r p l b q e f =
    record {
      refusal = e ∙ ap (λ v. v.refused) q;
      most = f ∙ ap (λ v. v.most) q;
      first = ap (λ v. v.pass1) q;
      second = ap (λ v. v.raw) q;
      third = ap (λ v. v.blurred) q;
    }
