-- What a round of expansion writes: an entry that finds an id gets it, and every other span keeps its own. Assumes nothing.
use Prim.Native.Nat.{ℕ, ◌<◌}
use native.Mathlib.Decide.{ℕ_discrete}
use mathlib.Core.Path.{◌≡◌, refl, sym, ap, ◌∙◌}
use mathlib.Core.Bool.{Bool, true, false, true≢false, false≢true}
use mathlib.Core.List.{List, [], ◌∷◌, map}
use lib.ListN.{length, length-set}
use lib.Seq.{get_or-set_same, get_or-set_other}
use lib.Dec.{eqb}
use borrow.Author.Tests.{eqb-true, eqb-false, eq-eqb, not-true}
use Rattle.rules.specs.Base.{when◌then◌else◌, any}
use Rattle.rules.specs.Field.{none}
use Rattle.rules.specs.Net.{Net}
use Rattle.rules.specs.Growth.{Marks, id_of, put, takes, finds, wrote, written, Spread, round}
use Rattle.rules.specs.Records.{has}
use Rattle.laws.proofs.Basics.{both, neither, either, if-ind, All, map_all}
use Rattle.laws.proofs.Lengths.{written-length}

-- what holds of each entry holds of one
pub has_all : (P : ℕ → Type 0) (es : List ℕ) (t : ℕ) → All P es → has es t ≡ true → P t
unfolding any
has_all P [] t h e = absurd (false≢true e)
has_all P (x ∷ es) t h e = either (P t) (eqb t x) (any (eqb t) es) e (λ q. let k : t ≡ x = eqb-true t x q in rw k h.0) (λ q. has_all P es t h.1 q)

module _ (N : Net) (m : Marks) where
  wrote_size : (e : ℕ) (out : Marks) → length (wrote N m e out).ids ≡ length out.ids
  unfolding wrote put
  wrote_size e out = if-ind (λ (x : Marks). length x.ids ≡ length out.ids) _ (λ _. length-set out.ids e _) (λ _. refl)

  wrote-other : (e : ℕ) (out : Marks) (t : ℕ) → (t ≡ e → ⊥) → id_of (wrote N m e out) t ≡ id_of out t
  unfolding wrote put
  wrote-other e out t n = if-ind (λ (x : Marks). id_of x t ≡ id_of out t) _ (λ _. get_or-set_other out.ids e t _ 0 n) (λ _. refl)

  wrote_own : (e : ℕ) (out : Marks) → finds N m e ≡ true → e < length out.ids → id_of (wrote N m e out) e ≡ (takes N m e).id
  unfolding wrote put
  wrote_own e out f l = if-ind (λ (x : Marks). id_of x e ≡ (takes N m e).id) _ (λ _. get_or-set_same out.ids e _ 0 l) (λ g. absurd (true≢false (sym f ∙ g)))

  wrote_still : (e : ℕ) (out : Marks) (t : ℕ) → finds N m t ≡ false → id_of (wrote N m e out) t ≡ id_of out t
  unfolding wrote put
  wrote_still e out t f =
      if-ind (λ (x : Marks). id_of x t ≡ id_of out t) _
      (λ g. get_or-set_other out.ids e t _ 0 (λ q. true≢false (sym g ∙ ap (finds N m) (sym q) ∙ f))) (λ _. refl)

  written_still : (es : List ℕ) (out : Marks) (t : ℕ) → finds N m t ≡ false → id_of (written N m es out) t ≡ id_of out t
  unfolding written
  written_still [] out t f = refl
  written_still (e ∷ es) out t f = written_still es (wrote N m e out) t f ∙ wrote_still e out t f

  written_out : (es : List ℕ) (out : Marks) (t : ℕ) → has es t ≡ false → id_of (written N m es out) t ≡ id_of out t
  unfolding written any
  written_out [] out t f = refl
  written_out (e ∷ es) out t f =
      let w = neither (eqb t e) (any (eqb t) es) f in
      written_out es (wrote N m e out) t w.1 ∙ wrote-other e out t (λ q. true≢false (sym (eq-eqb t e q) ∙ w.0))

  -- once written it stays
  written-holds : (es : List ℕ) (out : Marks) (t : ℕ) → finds N m t ≡ true → t < length out.ids → id_of out t ≡ (takes N m t).id
      → id_of (written N m es out) t ≡ (takes N m t).id
  unfolding written
  written-holds [] out t f l h = h
  written-holds (e ∷ es) out t f l h =
      written-holds es (wrote N m e out) t f (rw (wrote_size e out) l)
      (elim (ℕ_discrete t e) [ yes q ↦ rw (← q) (wrote_own t out f l) | no q ↦ wrote-other e out t q ∙ h ])

  written_took : (es : List ℕ) (out : Marks) (t : ℕ) → has es t ≡ true → finds N m t ≡ true → t < length out.ids → id_of (written N m es out) t ≡ (takes N m t).id
  unfolding written any
  written_took [] out t h f l = absurd (false≢true h)
  written_took (e ∷ es) out t h f l =
      let size : t < length (wrote N m e out).ids = rw (wrote_size e out) l in
      elim (ℕ_discrete t e) [
        | yes q ↦ written-holds es (wrote N m e out) t f size (rw (← q) (wrote_own t out f l))
        | no q ↦ written_took es (wrote N m e out) t (either (has es t ≡ true) (eqb t e) (any (eqb t) es) h (λ k. absurd (q (eqb-true t e k))) (λ k. k)) f size
      ]

-- an entry that waits has no id
abbrev pub Waits : Marks → ℕ → Type 0
Waits m e = (e ≡ none → ⊥) → id_of m e ≡ 0

-- an expansion begins with entries that wait
pub start_waits : (m : Marks) (es : List ℕ) → All (Waits m) (map (λ e. when eqb (id_of m e) 0 then e else none) es)
start_waits m [] = tt
start_waits m (e ∷ es) = (if-ind (λ (x : ℕ). Waits m x) (eqb (id_of m e) 0) (λ k _. eqb-true _ _ k) (λ _ n. absurd (n refl)), start_waits m es)

pub finds-takes : (N : Net) (m : Marks) (e : ℕ) → finds N m e ≡ true → (takes N m e).id ≡ 0 → ⊥
unfolding finds
finds-takes N m e f = eqb-false _ _ (not-true _ (both _ _ f).1)

pub round_size : (N : Net) (p : Spread) → length (round N p).marks.ids ≡ length p.marks.ids
unfolding round
round_size N p = written-length N p.marks p.stack p.marks

module _ (N : Net) (p : Spread) where
  -- a span that stands in the stack and finds an id
  pub round_took : (t : ℕ) → has p.stack t ≡ true → finds N p.marks t ≡ true → t < length p.marks.ids → id_of (round N p).marks t ≡ (takes N p.marks t).id
  unfolding round
  round_took t h f l = written_took N p.marks p.stack p.marks t h f l

  pub round_out : (t : ℕ) → has p.stack t ≡ false → id_of (round N p).marks t ≡ id_of p.marks t
  unfolding round
  round_out t h = written_out N p.marks p.stack p.marks t h

  pub round_still : (t : ℕ) → finds N p.marks t ≡ false → id_of (round N p).marks t ≡ id_of p.marks t
  unfolding round
  round_still t h = written_still N p.marks p.stack p.marks t h

  module _ (w : All (Waits p.marks) p.stack) where
    -- a span that has an id keeps it
    pub round_keeps : (t : ℕ) → (t ≡ none → ⊥) → (id_of p.marks t ≡ 0 → ⊥) → id_of (round N p).marks t ≡ id_of p.marks t
    round_keeps t n z = go (has p.stack t) refl
      where
        go : (b : Bool) → has p.stack t ≡ b → id_of (round N p).marks t ≡ id_of p.marks t
        go true e = absurd (z (has_all (Waits p.marks) p.stack t w e n))
        go false e = round_out t e

    pub round_waits : All (Waits (round N p).marks) (round N p).stack
    unfolding round
    round_waits =
        map_all (Waits p.marks) (Waits (written N p.marks p.stack p.marks)) (λ e. when finds N p.marks e then none else e) p.stack
        (λ e k. if-ind (λ (x : ℕ). Waits (written N p.marks p.stack p.marks) x) (finds N p.marks e) (λ _ n. absurd (n refl))
        (λ f n. written_still N p.marks p.stack p.marks e f ∙ k n)) w
