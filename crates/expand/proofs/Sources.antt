-- A round keeps what holds between rounds (`Ok`): an entry that found an id is used, and one that did not has none still.
-- Assumes nothing.
use mathlib.Core.Path.{◌≡◌, refl, ap, ◌∙◌}
use mathlib.Core.Bool.{true, false}
use mathlib.Core.Logic.{◌⊎◌, inl, inr}
use mathlib.Core.List.{List, [], ◌∷◌, map}
use Prim.Native.Nat.{ℕ, ◌<◌}
use lib.ListN.{get_or}
use lib.Dec.{eqb}
use borrow.Author.Tests.{eqb-true}
use Rattle.rules.specs.Base.{any}
use Rattle.rules.specs.Field.{none}
use Rattle.rules.specs.Net.{Net}
use Rattle.rules.specs.Growth.{Marks, finds, written, Spread, round}
use Rattle.laws.proofs.Basics.{neither, if-ind, map_all}
use Rattle.laws.proofs.Lengths.{written-length}
use Rattle.laws.proofs.Suffice.{written_keeps}
use Rattle.space.proofs.Laws.{cases}
use Rattle.expand.specs.Layout.{left, fresh, Unheld, Ok}
use Rattle.expand.proofs.Halves.{left_yes, left_no, wrote_no}

-- ---------------------------------------------------------------- entries

pub fresh_unheld : (n : ℕ) (ids : List ℕ) (s : ℕ) → ((s ≡ none → ⊥) → s < n) → Unheld n ids (fresh ids s)
unfolding fresh
fresh_unheld n ids s h = if-ind (λ y. Unheld n ids y) (eqb (get_or ids s 0) 0) (λ z k. (h k, eqb-true _ _ z)) (λ z k. absurd (k refl))

-- ---------------------------------------------------------------- what a round writes

module _ (N : Net) (m : Marks) where
  pub written_none : (es : List ℕ) (out : Marks) → any (finds N m) es ≡ false → written N m es out ≡ out
  unfolding any written
  written_none [] out z = refl
  written_none (s ∷ es) out z =
      let d = neither _ _ z in
      ap (λ (o : Marks). written N m es o) (wrote_no N m s out d.0) ∙ written_none es out d.1

  pub left-none : (es : List ℕ) → any (finds N m) es ≡ false → map (left N m) es ≡ es
  unfolding any
  left-none [] z = refl
  left-none (s ∷ es) z =
      let d = neither _ _ z in
      rw (left_no N m s d.0, left-none es d.1)

-- ---------------------------------------------------------------- rounds

module _ (N : Net) (p : Spread) where
  -- the rule's round, by the name of what it leaves of an entry
  pub round_is : round N p ≡ record { marks = written N p.marks p.stack p.marks; stack = map (left N p.marks) p.stack }
  unfolding round left
  round_is = refl

  pub round_still : any (finds N p.marks) p.stack ≡ false → round N p ≡ p
  round_still z = round_is ∙ rw (written_none N p.marks p.stack p.marks z, left-none N p.marks p.stack z)

  pub ok_round : (n : ℕ) → Ok n p → Ok n (round N p)
  ok_round n o =
      let m = p.marks in
      rw round_is (record {
        idents = written-length N m p.stack m ∙ o.idents;
        entries = map_all (Unheld n m.ids) (Unheld n (written N m p.stack m).ids) (left N m) p.stack (λ s h. still s h (cases (finds N m s))) o.entries;
      })
    where
      still : (s : ℕ) → Unheld n p.marks.ids s → (finds N p.marks s ≡ true) ⊎ (finds N p.marks s ≡ false)
          → Unheld n (written N p.marks p.stack p.marks).ids (left N p.marks s)
      still s h (inl y) k = absurd (k (left_yes N p.marks s y))
      still s h (inr y) k =
          let q = left_no N p.marks s y in
          let d = h (λ g. k (q ∙ g)) in
          rw q (d.0, written_keeps N p.marks s y p.stack p.marks ∙ d.1)
