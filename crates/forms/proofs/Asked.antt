-- What the reader of one stretch says of a stored result: the full reader's answer, so entry `span` of the ids, or 26; which stretch it tells; and how many kind 7
-- records it looks at. Each look leaves half of the stretches at most. Assumes nothing.
use Prim.Native.Nat.{ℕ, zero, suc, ◌+◌, ◌-◌, ◌*◌, ◌/◌, ◌%◌, ◌^◌, ◌≤◌, ◌<◌}
use native.Mathlib.Omega.{arith}
use native.Mathlib.Nat.{pow-suc}
use native.Mathlib.Decide.{ℕ_discrete}
use mathlib.Core.Path.{◌≡◌, refl, sym, ap, subst, ◌∙◌}
use mathlib.Core.List.{List, [], ◌∷◌}
use lib.ListN.{length, take, drop}
use lib.Dec.{eqb, ltb, leb}
use borrow.Author.Tests.{eq-eqb, ne_eqb, ltb-true, ltb-false}
use Rattle.rules.specs.Base.{◌and◌, when◌then◌else◌}
use Rattle.rules.specs.Stored.{IdOutcome, old_ids, spread, new_runs, packed, pack_refusal, read_refusal, pack_outcome, unpack_outcome, unpacked, mark_at, marks_in, chosen, spans_before, within, id_at, id_whole}
use Rattle.laws.proofs.Basics.{if-ind, All}
use Rattle.forms.proofs.Runs.{spread_runs}
use Rattle.forms.proofs.Bytes.{Byte}
use Rattle.forms.proofs.Room.{accepted}
use Rattle.forms.proofs.Back.{pack_fine, pack_accepted, packed_runs}
use Rattle.forms.proofs.Told.{found, Told, whole_told, Held, whole_stretch, unpacked_ids}
use Rattle.forms.proofs.Same.{same_answer}
use Rattle.forms.proofs.Only.{looked, looked_at, SameMark, SameStretch, only_these}

-- ---------------------------------------------------------------- the id of a span

-- of a file that the full reader accepts: entry `span` of the ids that its runs stand for, or 26
pub id_told : (file : List ℕ) (span : ℕ) → read_refusal file ≡ 0 → Told (spread (new_runs file)) span (id_at file span)
id_told file span e = subst (Told (spread (new_runs file)) span) (sym (same_answer file span e)) (whole_told file span e)

-- and the stretch that it tells is that of the run that holds the span
pub id_stretch : (file : List ℕ) (span : ℕ) → read_refusal file ≡ 0 → (j : ℕ) × Held (new_runs file) span j × ((id_at file span).stretch ≡ j / 64)
id_stretch file span e = subst (λ (o : IdOutcome). (j : ℕ) × Held (new_runs file) span j × (o.stretch ≡ j / 64)) (sym (same_answer file span e)) (whole_stretch file span e)

-- of a file that unpack accepts, with out₀ the list lent to it: both readers tell the ids in what unpack wrote
pub unpack_told : (file out₀ : List ℕ) (span : ℕ) → (unpack_outcome file out₀).refused ≡ 0
    → let ids = old_ids (take (unpack_outcome file out₀).long (unpack_outcome file out₀).out) in Told ids span (id_at file span) × Told ids span (id_whole file span)
unfolding unpack_outcome
unpack_told file out₀ span e =
    let r = (accepted (read_refusal file) (unpacked file) out₀ e).fine in (
      subst (λ l. Told l span (id_at file span)) (sym (unpacked_ids file out₀ e)) (id_told file span r),
      subst (λ l. Told l span (id_whole file span)) (sym (unpacked_ids file out₀ e)) (whole_told file span r),
    )

-- of an old file that pack accepts: both readers, asked of what pack wrote, tell the ids of the old file
pub pack_told : (file out₀ : List ℕ) (span : ℕ) → All Byte file → (pack_outcome file out₀).refused ≡ 0
    → let stored = take (pack_outcome file out₀).long (pack_outcome file out₀).out in Told (old_ids file) span (id_at stored span) × Told (old_ids file) span (id_whole stored span)
unfolding pack_outcome
pack_told file out₀ span a e =
    let d = accepted (pack_refusal file) (packed file) out₀ e in
    let r = pack_accepted file a d.fine in
    let l : spread (new_runs (packed file)) ≡ old_ids file = ap spread (packed_runs file a (pack_fine file d.fine).1) ∙ spread_runs (old_ids file) in (
      subst (λ g. Told (old_ids file) span (id_at g span)) (sym d.bytes) (subst (λ l. Told l span (id_at (packed file) span)) l (id_told (packed file) span r)),
      subst (λ g. Told (old_ids file) span (id_whole g span)) (sym d.bytes) (subst (λ l. Told l span (id_whole (packed file) span)) l (whole_told (packed file) span r)),
    )

-- ---------------------------------------------------------------- the stretch that is told

tells : (c : ℕ) (bytes : List ℕ) (p s span : ℕ) → (within p c bytes s span).stretch ≡ p
unfolding within
tells zero bytes p s span = refl
tells (suc c) [] p s span = refl
tells (suc c) (k ∷ []) p s span = refl
tells (suc c) (k ∷ x ∷ []) p s span = refl
tells (suc c) (k ∷ x ∷ y ∷ []) p s span = refl
tells (suc c) (k ∷ x ∷ y ∷ z ∷ []) p s span = refl
tells (suc c) (k ∷ x ∷ y ∷ z ∷ w ∷ rest) p s span =
    if-ind (λ (o : IdOutcome). o.stretch ≡ p) (eqb k 6 and ltb 0 (z + 256 * w))
    (λ _. if-ind (λ (o : IdOutcome). o.stretch ≡ p) (ltb span (s + (z + 256 * w))) (λ _. refl) (λ _. tells c rest p (s + (z + 256 * w)) span))
    (λ _. refl)

-- "says which stretch it read", on every file: the one that the halving chose, and before one is chosen, stretch 0 with 22
pub stretch_told : (file : List ℕ) (span : ℕ) → length file % 5 ≡ 1 → (id_at file span).stretch ≡ chosen file span
unfolding id_at when◌then◌else◌
stretch_told file span o = rw (eq-eqb (length file % 5) 1 o) (tells 64 (drop (325 * chosen file span) file) (chosen file span) (spans_before file (chosen file span)) span)

pub no_stretch : (file : List ℕ) (span : ℕ) → (length file % 5 ≡ 1 → ⊥) → id_at file span ≡ found 22 0 0
unfolding id_at when◌then◌else◌
no_stretch file span n = rw (ne_eqb (length file % 5) 1 n)

-- and it is the one that was read: with the kind 7 records that were looked at it decides the answer, whatever the other bytes are
pub only_told : (l m : List ℕ) (span : ℕ) → length l ≡ length m → All (SameMark l m) (looked_at l span) → SameStretch l m (id_at l span).stretch → id_at l span ≡ id_at m span
only_told l m span e a f = elim (ℕ_discrete (length l % 5) 1) [
  | yes o ↦ only_these l m span e a (subst (SameStretch l m) (stretch_told l span o) f)
  | no n ↦ no_stretch l span n ∙ sym (no_stretch m span (λ o. n (ap (λ z. z % 5) e ∙ o)))
]

-- ---------------------------------------------------------------- the kind 7 records that are looked at

-- of fewer than 2 to the b stretches, b at most
looks : (k b : ℕ) (l : List ℕ) (span lo hi : ℕ) → hi - lo < 2 ^ b → length (looked k l span lo hi) ≤ b
unfolding looked
looks zero b l span lo hi h = omega arith
looks (suc k) zero l span lo hi h =
    if-ind (λ (m : List ℕ). length m ≤ 0) (ltb lo hi)
    (λ y. absurd (omega (arith, ltb-true lo hi y)))
    (λ _. omega arith)
looks (suc k) (suc b) l span lo hi h =
    let mid = (lo + hi) / 2 in
    let g = pow-suc 2 b in
    if-ind (λ (m : List ℕ). length m ≤ suc b) (ltb lo hi)
    (λ y. let d = ltb-true lo hi y in
    let next : length (when leb (mark_at l mid) span then looked k l span (suc mid) hi else looked k l span lo mid) ≤ b =
    if-ind (λ (m : List ℕ). length m ≤ b) (leb (mark_at l mid) span)
    (λ _. looks k b l span (suc mid) hi (omega arith))
    (λ _. looks k b l span lo mid (omega arith)) in
    omega arith)
    (λ _. omega arith)

marks_le : (l : List ℕ) → (marks_in l ≤ length l / 325) × (marks_in l ≤ 4294967295)
unfolding marks_in
marks_le l =
    if-ind (λ (m : ℕ). (m ≤ length l / 325) × (m ≤ 4294967295)) (ltb 4294967295 (length l / 325))
    (λ e. (omega (arith, ltb-true 4294967295 (length l / 325) e), omega arith))
    (λ e. (omega arith, omega (arith, ltb-false 4294967295 (length l / 325) e)))

-- of a file with fewer than 2 to the b kind 7 records, at most b are looked at: by halves
pub few_looks : (b : ℕ) (file : List ℕ) (span : ℕ) → length file / 325 < 2 ^ b → length (looked_at file span) ≤ b
unfolding looked_at
few_looks b file span h = looks (marks_in file) b file span 0 (marks_in file) (omega (arith, marks_le file))

-- and of any file 32
pub at_most_32 : (file : List ℕ) (span : ℕ) → length (looked_at file span) ≤ 32
unfolding looked_at
at_most_32 file span = looks (marks_in file) 32 file span 0 (marks_in file) (omega (arith, marks_le file))

-- "reading one stretch only", with no word of how: there are b kind 7 records at most which, with the stretch that is told, decide the answer
pub reads_little : (b : ℕ) (l : List ℕ) (span : ℕ) → length l / 325 < 2 ^ b
    → (ks : List ℕ) × (length ks ≤ b) × ((m : List ℕ) → length l ≡ length m → All (SameMark l m) ks → SameStretch l m (id_at l span).stretch → id_at l span ≡ id_at m span)
reads_little b l span h = (looked_at l span, few_looks b l span h, λ m e a f. only_told l m span e a f)
