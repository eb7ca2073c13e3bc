-- The net of a field has the field's neighbours, at every span and direction; past the spans neither has one.
-- It holds because number 4 s + d of the list is made for s and d, and past the connections there is none.
use Prim.Native.Nat.{ℕ, ◌+◌, ◌*◌, ◌/◌, ◌%◌, ◌≤◌, ◌<◌}
use native.Mathlib.Omega.{arith}
use native.Mathlib.Nat.{mul_comm, zero-add}
use native.Mathlib.Decide.{dec_lt}
use mathlib.Core.Path.{◌≡◌, sym, ◌∙◌}
use mathlib.Core.List.{List}
use borrow.Author.Tests.{eqb-true, not-false}
use lib.ListN.{length, get_or, get_or-eq_default}
use lib.Arith.{digits_div, digits_mod}
use Rattle.rules.specs.Field.{Field, Bytes, none, con_of}
use Rattle.rules.specs.Field as field
use Rattle.rules.specs.Net.{spans, near, area_of, neighbours_of, net_of}
use Rattle.rules.specs.Refusals.{wrong_length}
use Rattle.laws.proofs.Basics.{both, tab-at, length-tab}
use Rattle.laws.proofs.Cells.{Passed, near_none}

pub neighbours_length : (F : Field) → length (neighbours_of F) ≡ 4 * field.spans F
unfolding neighbours_of
neighbours_length F = length-tab (4 * field.spans F) 0 _

-- number 4 s + d belongs to span s and direction d
pub slot : (s d : ℕ) → d < 4 → ((4 * s + d) / 4 ≡ s) × ((4 * s + d) % 4 ≡ d)
slot s d h = rw (mul_comm 4 s) (digits_div s h, digits_mod s h)

made : (F : Field) (s d : ℕ) → d < 4 → s < field.spans F → get_or (neighbours_of F) (4 * s + d) none ≡ field.near F s d
unfolding neighbours_of
made F s d h g = tab-at (4 * field.spans F) 0 (λ i. field.near F (i / 4) (i % 4)) (4 * s + d) none (omega arith) ∙ rw (zero-add, (slot s d h).0, (slot s d h).1)

-- past the spans there is no connection
beyond : (F : Field) → length F.con ≡ 4 * field.spans F → (s d : ℕ) → field.spans F ≤ s → con_of F s d ≡ 255
unfolding con_of
beyond F l s d g = get_or-eq_default F.con 255 (omega arith)

pub near_net : (F : Field) → length F.con ≡ 4 * field.spans F → (s d : ℕ) → d < 4 → near (net_of F) s d ≡ field.near F s d
unfolding near
near_net F l s d h = elim (dec_lt s (field.spans F)) [
  | yes g ↦ made F s d h g
  | no g ↦ get_or-eq_default (neighbours_of F) none (omega (arith, neighbours_length F)) ∙ sym (near_none F s d (beyond F l s d (omega arith)))
]

-- refusal 3 ruled out: four connections a span
pub linked : (F : Field) (lens : List ℕ) → Passed F lens → length F.con ≡ 4 * field.spans F
unfolding wrong_length
linked F lens ok = let a = both _ _ (not-false _ ok.lengths) in let b = both _ _ a.0 in eqb-true _ _ b.1

-- and its areas
pub net_bytes : (F : Field) → Bytes F → (s : ℕ) → s < spans (net_of F) → area_of (net_of F) s < 256
unfolding area_of field.area_of
net_bytes F bytes = bytes
