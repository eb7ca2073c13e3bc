-- What no refusal leaves: a field whose lists have their lengths and whose connections may be followed.
-- Each of the tests 1 to 6 that did not meet the field is a field of `passed`, read as what the code needs of it. Assumes nothing.
use Prim.Native.Nat.{ℕ, ◌*◌, ◌≤◌}
use mathlib.Core.Path.{◌≡◌}
use mathlib.Core.Bool.{true, false}
use mathlib.Core.List.{List, [], ◌∷◌}
use lib.ListN.{length}
use borrow.Author.Tests.{eqb-true, eq-eqb, ltb-false, not-false}
use Rattle.rules.specs.Base.{◌and◌, when◌then◌else◌, every}
use Rattle.rules.specs.Field.{Field, spans}
use Rattle.rules.specs.Refusals.{good_cells, good_con, too_wide, too_many, wrong_length, wrong_cells, wrong_reach, refusal, most_spans}
use Rattle.laws.proofs.Basics.{both, neither, every-at}
use Rattle.laws.proofs.Cells.{passed}
use Rattle.field.specs.Lent.{Celled, Reached, Sound}
use Rattle.field.proofs.Loops.{product_small}

-- what refusal 3 leaves
pub record Lengths (F : Field) : Type 0 where
  pub indexed : length F.index ≡ F.w * F.h
  pub counted : length F.count ≡ F.w * F.h
  pub linked : length F.con ≡ 4 * spans F

pub lengths : (F : Field) (lens : List ℕ) → wrong_length F lens ≡ false → Lengths F
unfolding wrong_length
lengths F lens e =
    let a = both _ _ (not-false _ e) in
    let b = both _ _ a.0 in
    let c = both _ _ b.0 in
    record { indexed = eqb-true _ _ c.0; counted = eqb-true _ _ c.1; linked = eqb-true _ _ b.1 }

pub celled_of : (F : Field) (lens : List ℕ) → F.w ≤ 256 → F.h ≤ 256 → spans F ≤ most_spans → wrong_length F lens ≡ false
    → good_cells F.index F.count 0 (spans F) ≡ true → Celled F
celled_of F lens p q n e g =
    let l = lengths F lens e in
    record {
      narrow = p;
      short = q;
      grid = product_small F.w F.h p q;
      few = n;
      indexed = l.indexed;
      counted = l.counted;
      linked = l.linked;
      cells = g;
    }

-- no refusal leaves a field whose connections may be followed
pub reached_of : (F : Field) (lens : List ℕ) → refusal F lens ≡ 0 → Reached F
unfolding too_wide too_many wrong_cells wrong_reach
reached_of F lens e =
    let v = passed F lens e in
    let w = neither _ _ v.wide in
    record {
      celled = celled_of F lens (ltb-false _ _ w.0) (ltb-false _ _ w.1) (ltb-false _ _ v.many) v.lengths (not-false _ v.cells);
      reach = λ s d h g. every-at 4 (good_con F s) (every-at (spans F) (λ s. every 4 (good_con F s)) (not-false _ v.reach) s h) d g;
    }

-- what an entry's own lists are does not make the field unsound
pub sound_of : (F : Field) (lens : List ℕ) → refusal F lens ≡ 0 → Sound F
unfolding refusal when◌then◌else◌ wrong_length ◌and◌ every
sound_of F lens e =
    let v = passed F lens e in
    let l = lengths F lens v.lengths in
    rw (
      v.wide,
      v.many,
      eq-eqb (length F.index) (F.w * F.h) l.indexed,
      eq-eqb (length F.count) (F.w * F.h) l.counted,
      eq-eqb (length F.con) (4 * spans F) l.linked,
      v.cells,
      v.reach,
      v.back,
    )

pub sound_reached : (F : Field) → Sound F → Reached F
sound_reached F e = reached_of F [] e

-- the entry's own two lists hold a number for each span
pub own_lengths : (F : Field) (a b : ℕ) → refusal F (a ∷ b ∷ []) ≡ 0 → (a ≡ spans F) × (b ≡ spans F)
unfolding wrong_length every
own_lengths F a b e =
    let v = passed F (a ∷ b ∷ []) e in
    let r = both _ _ (both _ _ (not-false _ v.lengths)).1 in
    (eqb-true _ _ (both _ _ r.0).1, eqb-true _ _ r.1)
