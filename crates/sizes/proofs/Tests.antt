-- Refusals 9 and 10, and the ids that are shown, as the code asks for them: each law is one way out of a function. Assumes nothing.
use Prim.Native.Nat.{ℕ, ◌≤◌, ◌<◌}
use native.Mathlib.Omega.{arith}
use mathlib.Core.Path.{◌≡◌, ap, ◌∙◌}
use mathlib.Core.Bool.{Bool, true, false, ◌||◌}
use mathlib.Core.List.{List}
use lib.ListN.{length}
use lib.Dec.{ltb}
use borrow.Author.Tests.{eq-eqb, ne_eqb, le-leb, lt-leb}
use Rattle.rules.specs.Base.{◌and◌, ◌or◌, any}
use Rattle.rules.specs.Sizes.{wrong_scale, too_great, wrong_ids, shown}
use Rattle.laws.proofs.Basics.{code_or}

module _ (k : ℕ) where
  pub scale_none : k ≡ 0 → true ≡ wrong_scale k
  unfolding wrong_scale ◌or◌
  scale_none e = rw (eq-eqb k 0 e)

  pub scale_some : (k ≡ 0 → ⊥) → (r : Bool) → r ≡ ltb 256 k → r ≡ wrong_scale k
  unfolding wrong_scale ◌or◌
  scale_some e r q = rw (ne_eqb k 0 e) q

module _ (most r : ℕ) where
  pub great_flagged : 0x8000 ≤ r → false ≡ too_great most r
  unfolding too_great ◌and◌
  great_flagged h = rw (le-leb 0x8000 r h)

  pub great_plain : r < 0x8000 → (b : Bool) → b ≡ ltb most r → b ≡ too_great most r
  unfolding too_great ◌and◌
  great_plain h b q = rw (lt-leb 0x8000 r h) q

pub or_great : (found x : Bool) (most r : ℕ) → x ≡ too_great most r → (b : Bool) → b ≡ (found || x) → b ≡ (found or too_great most r)
or_great found x most r e b q = q ∙ code_or found x ∙ ap (λ y. found or y) e

module _ (n : ℕ) (ids : List ℕ) (most : ℕ) where
  pub ids_long : (length ids ≡ n → ⊥) → true ≡ wrong_ids n ids most
  unfolding wrong_ids ◌or◌
  ids_long e = rw (ne_eqb (length ids) n e)

  pub ids_held : length ids ≡ n → (b : Bool) → b ≡ any (too_great most) ids → b ≡ wrong_ids n ids most
  unfolding wrong_ids ◌or◌
  ids_held e b q = rw (eq-eqb (length ids) n e) q

module _ (most id : ℕ) where
  pub shown-none : id ≡ 0 → false ≡ shown most id
  unfolding shown ◌and◌
  shown-none e = rw (lt-leb 1 id (omega arith))

  -- from 1 on
  module _ (z : id ≡ 0 → ⊥) where
    pub shown_past : most < id → false ≡ shown most id
    unfolding shown ◌and◌
    shown_past h = rw (le-leb 1 id (omega arith), lt-leb id most h)

    pub shown-flagged : id ≤ most → 0x8000 ≤ id → false ≡ shown most id
    unfolding shown ◌and◌
    shown-flagged h g = rw (le-leb 1 id (omega arith), le-leb id most h, le-leb 0x8000 id g)

    pub shown_is : id ≤ most → id < 0x8000 → true ≡ shown most id
    unfolding shown ◌and◌
    shown_is h g = rw (le-leb 1 id (omega arith), le-leb id most h, lt-leb 0x8000 id g)
