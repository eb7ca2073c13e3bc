-- A field's file and any file, as the code's ways out have them: each case of an answer is the rule's.
-- Assumes nothing.
use Prim.Native.Nat.{ℕ, ◌*◌, ◌≤◌}
use native.Mathlib.Omega.{arith}
use mathlib.Core.Path.{◌≡◌, sym, ap, subst, ◌∙◌}
use mathlib.Core.List.{List}
use Rattle.std.specs.Prelude.{Result, Ok, Err}
use lib.ListN.{length}
use borrow.Author.Tests.{ne_eqb}
use Rattle.rules.specs.Base.{when◌then◌else◌}
use Rattle.rules.specs.Field as rules
use Rattle.rules.specs.File.{read_file}
use Rattle.rules.specs.Mend.{mend_outcome}
use Rattle.checker.proofs.Numbers.{number_pos}
use Rattle.mend.specs.Answer.{mend_number, outcome}
use Rattle.mend.specs.declared.MendRefusal.{MendRefusal}
use Rattle.mend.specs.declared.MendRefusal.TheVariants.{Field, NoRoom}
use Rattle.file.specs.Reads.{file_number, first, reading_of, Reads}
use Rattle.file.specs.declared.read.FileRefusal.{FileRefusal}
use Rattle.file.specs.declared.read.Header.{Header}
use Rattle.mending.specs.Patch.{MendedFile, filed, bytes_mended, field_mended, read_mended, mended_file, Placed}
use Rattle.mending.specs.declared.whole.Mended.{Mended}
use Rattle.mending.specs.declared.whole.FiledRefusal.{FiledRefusal}
use Rattle.mending.specs.declared.whole.FiledRefusal.TheVariants as why

mend-number_pos : (r : MendRefusal) → mend_number r ≡ 0 → ⊥
mend-number_pos (Field r) e = omega (arith, number_pos r, e)
mend-number_pos NoRoom e = omega (arith, e)

module _ (F : rules.Field) (changes bytes con l : List ℕ) (a : Result ℕ MendRefusal) (e : outcome a con l ≡ mend_outcome F changes) where
  as_case : (b : Result ℕ MendRefusal) → a ≡ b → mend_outcome F changes ≡ outcome b con l
  as_case b z = sym e ∙ ap (λ (v : Result ℕ MendRefusal). outcome v con l) z

  pub field_refused : (r : MendRefusal) → a ≡ Err r → filed (Err (why.Field r)) bytes ≡ field_mended F changes bytes
  unfolding field_mended when◌then◌else◌
  field_refused r z = rw (as_case (Err r) z, ne_eqb (mend_number r) 0 (mend-number_pos r))

  pub field_made : (k : ℕ) → a ≡ Ok k → (bytes' : List ℕ) → bytes' ≡ bytes_mended F.count l k bytes
      → ◌≡◌ {A = MendedFile} (record { number = 0; bytes = bytes' }) (field_mended F changes bytes)
  unfolding field_mended when◌then◌else◌
  field_made k z bytes' f = rw (as_case (Ok k) z, f)

module _ (bytes changes is ks ar cs is' ks' ar' cs' : List ℕ) (x : Result (Header × ℕ) FileRefusal) (b : Reads bytes is ks ar cs x is' ks' ar' cs') where
  read_case : (y : Result (Header × ℕ) FileRefusal) → x ≡ y → read_file bytes ≡ reading_of y is' ks' ar' cs'
  read_case y u = sym b.same ∙ ap (λ (v : Result (Header × ℕ) FileRefusal). reading_of v is' ks' ar' cs') u

  pub file_refused : (k : FileRefusal) → x ≡ Err k → ◌≡◌ {A = MendedFile} (record { number = file_number k; bytes = bytes }) (mended_file bytes changes)
  unfolding mended_file read_mended
  file_refused k u = rw (read_case (Err k) u)

  pub file_described : (t : Header) (n : ℕ) → x ≡ Ok (t, n) → (y : MendedFile)
      → y ≡ field_mended (first t.w t.h (t.w * t.h) n is' ks' ar' cs') changes bytes → y ≡ mended_file bytes changes
  unfolding mended_file read_mended
  file_described t n u y f = rw (read_case (Ok (t, n)) u) f

-- the changes of an answer that made some
pub placed_made : (r : Result Mended FiledRefusal) (changes : List ℕ) → Placed r changes → (m : Mended) → r ≡ Ok m → 3 * m.changes ≤ length changes
placed_made r changes p m e = subst (λ (v : Result Mended FiledRefusal). Placed v changes) e p
