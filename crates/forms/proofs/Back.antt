-- "Convert old to new and back; each way returns the very bytes it began with. So one result has one stored form."
-- The bytes are read back as they were written (Bytes), ids and runs alike (Runs). Assumes nothing.
use Prim.Native.Nat.{ℕ, ◌≤◌}
use native.Mathlib.Omega.{arith}
use mathlib.Core.Path.{◌≡◌, refl, sym, ap, ◌∙◌}
use mathlib.Core.Bool.{Bool, true, false, not}
use mathlib.Core.List.{List, ◌++◌}
use lib.ListN.{length, take, drop}
use Rattle.rules.specs.Base.{◌and◌, when◌then◌else◌}
use Rattle.rules.specs.Stored.{old_bytes, old_fine, old_ids, runs_of, spread, longest, new_bytes, marks_fit, new_fine, new_runs, right_numbers, packed, unpacked, pack_refusal, read_refusal, given_out, pack_outcome, unpack_outcome}
use Rattle.laws.proofs.Basics.{both, All}
use Rattle.forms.proofs.Runs.{spread_runs, longest_runs, sized_runs, runs_spread}
use Rattle.forms.proofs.Bytes.{Byte, old_written, old_read, old_again, old_short, Reads, new_reads, Again, new_again, from_below, fit_below}
use Rattle.forms.proofs.Room.{gives, given_done, accepted}

-- ---------------------------------------------------------------- the refusals of a file alone

choice : (b : Bool) → ◌≡◌ {A = ℕ} (when b then 0 else 22) 0 → b ≡ true
unfolding when◌then◌else◌
choice true e = refl
choice false e = absurd (omega arith)

pub pack_fine : (f : List ℕ) → pack_refusal f ≡ 0 → (old_fine f ≡ true) × (marks_fit 0 0 (runs_of (old_ids f)) ≡ true)
unfolding pack_refusal
pack_fine f e = both (old_fine f) (marks_fit 0 0 (runs_of (old_ids f))) (choice (old_fine f and marks_fit 0 0 (runs_of (old_ids f))) e)

-- what a full read accepts
pub record Read (g : List ℕ) : Type 0 where
  pub fine : new_fine g ≡ true
  pub long : longest (new_runs g) ≡ true
  pub right : right_numbers g ≡ true

choices : (b c d : Bool) → ◌≡◌ {A = ℕ} (when not b then 22 else when not c then 23 else when not d then 25 else 0) 0 → (b ≡ true) × (c ≡ true) × (d ≡ true)
unfolding when◌then◌else◌
choices true true true e = (refl, refl, refl)
choices true true false e = absurd (omega arith)
choices true false d e = absurd (omega arith)
choices false c d e = absurd (omega arith)

pub read_fine : (g : List ℕ) → read_refusal g ≡ 0 → Read g
unfolding read_refusal
read_fine g e = let p = choices (new_fine g) (longest (new_runs g)) (right_numbers g) e in record { fine = p.0; long = p.1; right = p.2 }

-- ---------------------------------------------------------------- the bytes

packed_reads : (f : List ℕ) → All Byte f → marks_fit 0 0 (runs_of (old_ids f)) ≡ true → Reads 0 0 (runs_of (old_ids f)) (packed f)
unfolding packed new_bytes
packed_reads f a m = new_reads (runs_of (old_ids f)) 0 0 (sized_runs (old_ids f) (old_short f a)) (omega arith) m

pub packed_runs : (f : List ℕ) → All Byte f → marks_fit 0 0 (runs_of (old_ids f)) ≡ true → new_runs (packed f) ≡ runs_of (old_ids f)
unfolding new_runs
packed_runs f a m = (packed_reads f a m).runs

pub pack_back : (f : List ℕ) → All Byte f → pack_refusal f ≡ 0 → unpacked (packed f) ≡ f
unfolding unpacked
pack_back f a e =
    let p = pack_fine f e in
    ap (λ rs. old_bytes (spread rs)) (packed_runs f a p.1) ∙ ap old_bytes (spread_runs (old_ids f)) ∙ old_again f a p.0

pub pack_accepted : (f : List ℕ) → All Byte f → pack_refusal f ≡ 0 → read_refusal (packed f) ≡ 0
unfolding read_refusal new_fine right_numbers when◌then◌else◌
pack_accepted f a e =
    let m = (pack_fine f e).1 in
    let r = packed_reads f a m in
    rw (r.fine, packed_runs f a m, longest_runs (old_ids f), r.right)

unpacked_fine : (g : List ℕ) → old_fine (unpacked g) ≡ true
unfolding unpacked
unpacked_fine g = old_written (spread (new_runs g))

module _ (g : List ℕ) (a : All Byte g) (e : Read g) where
  again : Again 0 0 g
  unfolding new_fine
  again = new_again g 0 0 a (omega arith) e.fine

  unpacked_runs : runs_of (old_ids (unpacked g)) ≡ new_runs g
  unfolding unpacked new_runs
  unpacked_runs = ap runs_of (old_read (spread (new_runs g))) ∙ runs_spread (new_runs g) again.sized e.long

  pub unpack_back : packed (unpacked g) ≡ g
  unfolding packed new_bytes new_runs right_numbers
  unpack_back = ap new_bytes unpacked_runs ∙ sym (from_below 0 0 (new_runs g) (omega arith)) ∙ again.same e.right

  pub unpack_accepted : pack_refusal (unpacked g) ≡ 0
  unfolding pack_refusal new_runs when◌then◌else◌ ◌and◌
  unpack_accepted =
      let f : old_fine (unpacked g) ≡ true = unpacked_fine g in
      let m : marks_fit 0 0 (runs_of (old_ids (unpacked g))) ≡ true = ap (marks_fit 0 0) unpacked_runs ∙ sym (fit_below 0 0 (new_runs g) (omega arith)) ∙ again.fits in
      rw (f, m)

-- ---------------------------------------------------------------- through the outcomes

-- unpack (pack f) ≡ f: of a list with room for f, for every file f that pack accepts
pub unpack_pack : (f out₀ out₁ : List ℕ) → All Byte f → (pack_outcome f out₀).refused ≡ 0 → length f ≤ length out₁
    → unpack_outcome (take (pack_outcome f out₀).long (pack_outcome f out₀).out) out₁ ≡ gives 0 (length f) (f ++ drop (length f) out₁)
unfolding pack_outcome unpack_outcome
unpack_pack f out₀ out₁ a e h =
    let d = accepted (pack_refusal f) (packed f) out₀ e in
    let b = pack_back f a d.fine in
    ap (λ g. given_out (read_refusal g) (unpacked g) out₁) d.bytes
    ∙ ap (λ r. given_out r (unpacked (packed f)) out₁) (pack_accepted f a d.fine)
    ∙ ap (λ t. given_out 0 t out₁) b
    ∙ given_done f out₁ h

-- pack (unpack g) ≡ g: of a list with room for g, for every file g that unpack accepts
pub pack_unpack : (g out₀ out₁ : List ℕ) → All Byte g → (unpack_outcome g out₀).refused ≡ 0 → length g ≤ length out₁
    → pack_outcome (take (unpack_outcome g out₀).long (unpack_outcome g out₀).out) out₁ ≡ gives 0 (length g) (g ++ drop (length g) out₁)
unfolding pack_outcome unpack_outcome
pack_unpack g out₀ out₁ a e h =
    let d = accepted (read_refusal g) (unpacked g) out₀ e in
    let u = read_fine g d.fine in
    let b = unpack_back g a u in
    ap (λ f. given_out (pack_refusal f) (packed f) out₁) d.bytes
    ∙ ap (λ r. given_out r (packed (unpacked g)) out₁) (unpack_accepted g a u)
    ∙ ap (λ t. given_out 0 t out₁) b
    ∙ given_done g out₁ h

-- "So one result has one stored form": new files that unpack to the same bytes are equal
pub one_form : (g h out₀ out₁ : List ℕ) → All Byte g → All Byte h → (unpack_outcome g out₀).refused ≡ 0 → (unpack_outcome h out₁).refused ≡ 0
    → take (unpack_outcome g out₀).long (unpack_outcome g out₀).out ≡ take (unpack_outcome h out₁).long (unpack_outcome h out₁).out → g ≡ h
unfolding unpack_outcome
one_form g h out₀ out₁ a b p q e =
    let d = accepted (read_refusal g) (unpacked g) out₀ p in
    let k = accepted (read_refusal h) (unpacked h) out₁ q in
    sym (unpack_back g a (read_fine g d.fine)) ∙ ap packed (sym d.bytes ∙ e ∙ k.bytes) ∙ unpack_back h b (read_fine h k.fine)

not_full : (b : Bool) → ◌≡◌ {A = ℕ} (when b then 0 else 22) 24 → ⊥
unfolding when◌then◌else◌
not_full true e = omega arith
not_full false e = omega arith

not_full_2 : (b c d : Bool) → ◌≡◌ {A = ℕ} (when not b then 22 else when not c then 23 else when not d then 25 else 0) 24 → ⊥
unfolding when◌then◌else◌
not_full_2 true true true e = omega arith
not_full_2 true true false e = omega arith
not_full_2 true false d e = omega arith
not_full_2 false c d e = omega arith

-- "in that order": what pack gives is 22, 24 or 0, and what unpack gives 22, 23, 25, 24 or 0, as the definitions say; a file's own refusal is never 24
pub pack_not_full : (f : List ℕ) → pack_refusal f ≡ 24 → ⊥
unfolding pack_refusal
pack_not_full f e = not_full (old_fine f and marks_fit 0 0 (runs_of (old_ids f))) e

pub read_not_full : (g : List ℕ) → read_refusal g ≡ 24 → ⊥
unfolding read_refusal
read_not_full g e = not_full_2 (new_fine g) (longest (new_runs g)) (right_numbers g) e
