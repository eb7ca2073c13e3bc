-- One connection as the code has it: its place in the list, the test that decides it, and the three ways that a step ends.
-- Span and direction are the number's two digits to base 4. Assumes nothing.
use Prim.Native.Nat.{ℕ, ◌+◌, ◌*◌, ◌/◌, ◌%◌, ◌≤◌, ◌<◌}
use native.Mathlib.Omega.{arith}
use native.Mathlib.Nat.{mul_comm}
use lib.Arith.{digits_div, digits_mod}
use mathlib.Core.Path.{◌≡◌, sym, ap, ◌∙◌}
use mathlib.Core.Bool.{Bool, true, false, not}
use mathlib.Core.List.{List}
use lib.ListN.{length, get_or, set}
use borrow.Author.Tests.{lt-ltb, le-ltb}
use mir.Val.{Fits}
use mir.Syntax.{w64}
use Rattle.rules.specs.Base.{when◌then◌else◌}
use Rattle.rules.specs.Field.{con_of}
use Rattle.rules.specs.Mend.{stays, stays_at}
use Rattle.laws.proofs.Basics.{in_list, get_d_any}
use Rattle.laws.proofs.Passes.{wide_pos}
use Rattle.field.specs.Lent.{lent, Celled}
use Rattle.field.proofs.Places.{layer_stands}
use Rattle.mend.specs.Walk.{state, ground, noted, step, Ready}

-- ---------------------------------------------------------------- the test

module _ (w h : ℕ) (is ks ar cs : List ℕ) (ok : Celled (lent w h is ks ar cs)) (c j : ℕ) (g : j < get_or ks c 0) where
  cell_in : c < w * h
  cell_in = omega (arith, in_list ks c (omega arith), ok.counted)

  pub cell-wide : 0 < w
  cell-wide = wide_pos w h c cell_in

  pub cell-small : c < 65536
  cell-small = omega (arith, cell_in, ok.grid)

  pub old_con : (old d : ℕ) → d < 4 → old ≡ get_or cs (4 * (get_or is c 0 + j) + d) 0 → old ≡ con_of (lent w h is ks ar cs) (get_or is c 0 + j) d
  unfolding con_of
  old_con old d l e =
      e ∙ get_d_any cs (4 * (get_or is c 0 + j) + d) 0 255 (omega (arith, (layer_stands (lent w h is ks ar cs) ok c j g).span, ok.linked))

pub inside_is : (a b : Bool) → a ≡ b → not a ≡ not b
inside_is a b e = ap not e

-- ---------------------------------------------------------------- numbers of connections

pub span_of : (s d : ℕ) → d < 4 → (4 * s + d) / 4 ≡ s
span_of s d l = rw (mul_comm 4 s) (digits_div s l)

pub way_of : (s d : ℕ) → d < 4 → (4 * s + d) % 4 ≡ d
way_of s d l = rw (mul_comm 4 s) (digits_mod s l)

-- ---------------------------------------------------------------- one step

module _ (w h : ℕ) (is ks ar cs ch : List ℕ) (room k m : ℕ) (ok : Ready (lent w h is ks ar cs) ch room k m) (c j s d : ℕ) (g : j < get_or ks c 0)
    (e : s ≡ get_or is c 0 + j) (l : d < 4) where
  link_span : s < length ar
  link_span = omega (arith, (layer_stands (lent w h is ks ar cs) ok.celled c j g).span)

  pub link_four : Fits w64 (4 * s)
  link_four = omega (arith, link_span, ok.celled.few)

  pub link_fits : Fits w64 (4 * s + d)
  link_fits = omega (arith, link_span, ok.celled.few)

  pub link_room : 4 * s + d < length cs
  link_room = omega (arith, link_span, ok.celled.linked)

  pub link_small : s < 65536
  link_small = omega (arith, link_span, ok.celled.few)

  pub link_old : (old : ℕ) → old ≡ get_or cs (4 * s + d) 0 → old ≡ get_or cs (4 * (get_or is c 0 + j) + d) 0
  link_old old f = rw (← e) f

  module _ (r : Bool) (f : r ≡ stays (lent w h is ks ar cs) (get_or is c 0 + j) d) where
    decides : stays_at (lent w h is ks ar cs) (4 * s + d) ≡ r
    unfolding stays_at
    decides = rw (span_of s d l, way_of s d l, e) (sym f)

    pub step_stays : r ≡ true → state cs ch k ≡ step (ground w h is ks ar) room (4 * s + d) (state cs ch k)
    unfolding step when◌then◌else◌
    step_stays z = rw (decides, z)

    module _ (z : r ≡ false) where
      pub step_full : room ≤ k → state cs ch (k + 1) ≡ step (ground w h is ks ar) room (4 * s + d) (state cs ch k)
      unfolding step when◌then◌else◌
      step_full q = rw (decides, z, le-ltb k room q)

      module _ (q : k < room) where
        pub place_in : 3 * k + 2 < length ch
        place_in = omega (arith, ok.places)

        pub step_made : (old : ℕ) (ch' : List ℕ) → old ≡ get_or cs (4 * s + d) 0 → ch' ≡ noted ch k s d old
            → state (set cs (4 * s + d) 255) ch' (k + 1) ≡ step (ground w h is ks ar) room (4 * s + d) (state cs ch k)
        unfolding step when◌then◌else◌
        step_made old ch' f p =
            let v : old ≡ get_or cs (4 * s + d) 255 = f ∙ get_d_any cs (4 * s + d) 0 255 link_room in
            rw (decides, z, lt-ltb k room q, span_of s d l, way_of s d l, ← v, p)
