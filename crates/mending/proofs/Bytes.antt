-- One byte after another: a change past the end of the file changes nothing, as in the rule's `set`.
-- Assumes nothing.
use Prim.Native.Nat.{ℕ, zero, suc, ◌+◌, ◌*◌, ◌≤◌}
use native.Mathlib.Omega.{arith}
use native.Mathlib.Numerals.{add-one}
use mathlib.Core.Path.{◌≡◌, refl, sym, ap, ◌∙◌}
use mathlib.Core.List.{List, [], ◌∷◌}
use Rattle.std.specs.Prelude.{Result, Ok}
use lib.ListN.{length, get_or, set}
use Rattle.rules.specs.Base.{upto}
use Rattle.rules.specs.Field.{Field, cell_of}
use Rattle.rules.specs.Mend.{mend_outcome}
use Rattle.mend.specs.Answer.{outcome}
use Rattle.mend.specs.declared.MendRefusal.{MendRefusal}
use Rattle.mend.proofs.Calls.{call_fits}
use Rattle.mending.specs.Patch.{con_place, byte_mended, bytes_mended}

set_past : (l : List ℕ) (i v : ℕ) → length l ≤ i → set l i v ≡ l
set_past [] zero v h = refl
set_past [] (suc i) v h = refl
set_past (x ∷ l) zero v h = absurd (omega arith)
set_past (x ∷ l) (suc i) v h = ap (λ (m : List ℕ). x ∷ m) (set_past l i v (omega arith))

module _ (bytes count changes : List ℕ) (k s d c : ℕ) (p : s ≡ get_or changes (3 * k) 0) (q : d ≡ get_or changes (3 * k + 1) 0) (e : c ≡ cell_of count s) where
  at_is : 11 + 2 * (c + 1) + 6 * s + 2 + d ≡ con_place count (get_or changes (3 * k) 0) (get_or changes (3 * k + 1) 0)
  unfolding con_place
  at_is = rw (← p, ← q, ← e)

  pub byte_made : set bytes (11 + 2 * (c + 1) + 6 * s + 2 + d) 255 ≡ byte_mended count changes k bytes
  unfolding byte_mended
  byte_made = rw at_is

  pub byte_past : length bytes ≤ 11 + 2 * (c + 1) + 6 * s + 2 + d → bytes ≡ byte_mended count changes k bytes
  byte_past h = sym (set_past bytes (11 + 2 * (c + 1) + 6 * s + 2 + d) 255 h) ∙ byte_made

pub bytes_none : (count changes bytes : List ℕ) → bytes ≡ bytes_mended count changes 0 bytes
unfolding bytes_mended upto
bytes_none count changes bytes = refl

pub bytes_one : (count changes bytes b b' : List ℕ) (k : ℕ) → b ≡ bytes_mended count changes k bytes → b' ≡ byte_mended count changes k b
    → b' ≡ bytes_mended count changes (k + 1) bytes
unfolding bytes_mended upto
bytes_one count changes bytes b b' k e f = rw (add-one k, ← e) f

pub bytes_all : (count changes bytes b : List ℕ) (k made : ℕ) → b ≡ bytes_mended count changes k bytes → k ≤ made → made ≤ k
    → b ≡ bytes_mended count changes made bytes
bytes_all count changes bytes b k made e p q = let z : k ≡ made = omega arith in rw (← z) e

-- the changes that a call made have their places in the list as it leaves it
pub room_left : (F : Field) (changes : List ℕ) (a : Result ℕ MendRefusal) (con l : List ℕ) (k : ℕ) → outcome a con l ≡ mend_outcome F changes → a ≡ Ok k
    → length l ≡ length changes → 3 * k ≤ length l
room_left F changes a con l k e z p = rw p (call_fits F changes a con l k e z)
