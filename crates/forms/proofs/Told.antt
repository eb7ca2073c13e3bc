-- What the full reader's answer means: of a file that it accepts, with l the ids that its runs stand for, a span has entry `span` of l, and one that l has no entry
-- for is refused 26, no other; the stretch told is that of the run that holds the span. By induction over the runs: those before a span hold the spans before it.
-- Assumes nothing.
use Prim.Native.Nat.{ℕ, zero, suc, ◌+◌, ◌*◌, ◌-◌, ◌/◌, ◌≤◌, ◌<◌}
use native.Mathlib.Omega.{arith}
use mathlib.Core.Path.{◌≡◌, refl, sym, ap, subst, ◌∙◌}
use mathlib.Core.List.{List, [], ◌∷◌, ◌++◌}
use lib.ListN.{length, get_or, replicate, take}
use lib.Dec.{eqb, ltb}
use borrow.Author.Tests.{eqb-true, eqb-false, eq-eqb, ltb-true, ltb-false}
use Rattle.rules.specs.Base.{when◌then◌else◌}
use Rattle.rules.specs.Stored.{Run, IdOutcome, old_ids, spread, new_runs, unpacked, read_refusal, unpack_outcome, seek, id_whole}
use Rattle.laws.proofs.Basics.{if-ind}
use Rattle.forms.proofs.Bytes.{old_read}
use Rattle.forms.proofs.Room.{accepted}

-- an answer
abbrev pub found : ℕ → ℕ → ℕ → IdOutcome
found r id p = record { refused = r; id = id; stretch = p }

-- of a result of ids l: the id of the span where l has one, 26 where it has none, "and only then"
pub record Told (l : List ℕ) (span : ℕ) (o : IdOutcome) : Type 0 where
  pub given : span < length l → (o.refused ≡ 0) × (o.id ≡ get_or l span 0)
  pub beyond : length l ≤ span → (o.refused ≡ 26) × (o.id ≡ 0)
  pub only : o.refused ≡ 26 → length l ≤ span

-- ---------------------------------------------------------------- one run, and what follows it

run_long : (k x : ℕ) (l : List ℕ) → length (replicate k x ++ l) ≡ k + length l
run_long zero x l = omega arith
run_long (suc k) x l = omega (arith, run_long k x l)

run_at : (k x : ℕ) (l : List ℕ) (i : ℕ) → i < k → get_or (replicate k x ++ l) i 0 ≡ x
run_at zero x l i h = absurd (omega arith)
run_at (suc k) x l zero h = refl
run_at (suc k) x l (suc i) h = run_at k x l i (omega arith)

run_past : (k x : ℕ) (l : List ℕ) (i : ℕ) → k ≤ i → get_or (replicate k x ++ l) i 0 ≡ get_or l (i - k) 0
run_past zero x l i h = let e : i ≡ i - 0 = omega arith in ap (λ z. get_or l z 0) e
run_past (suc k) x l zero h = absurd (omega arith)
run_past (suc k) x l (suc i) h = let e : i - k ≡ suc i - suc k = omega arith in run_past k x l i (omega arith) ∙ ap (λ z. get_or l z 0) e

module _ (k x : ℕ) (l : List ℕ) (i : ℕ) where
  -- the run holds it
  told_here : (p : ℕ) → i < k → Told (replicate k x ++ l) i (found 0 x p)
  told_here p h = record {
    given = λ _. (refl, sym (run_at k x l i h));
    beyond = λ g. absurd (omega (arith, run_long k x l));
    only = λ e. absurd (omega arith);
  }

  -- or it is past the run
  told_past : (o : IdOutcome) → k ≤ i → Told l (i - k) o → Told (replicate k x ++ l) i o
  told_past o h t =
      let e = run_long k x l in
      record {
        given = λ g. let q = t.given (omega arith) in (q.0, q.1 ∙ sym (run_past k x l i h));
        beyond = λ g. t.beyond (omega arith);
        only = λ g. let q = t.only g in omega arith;
      }

none_told : (i p : ℕ) → Told [] i (found 26 0 p)
none_told i p = record { given = λ h. absurd (omega arith); beyond = λ h. (refl, refl); only = λ e. omega arith }

-- ---------------------------------------------------------------- all runs

pub seek-told : (rs : List Run) (p t s span : ℕ) → s ≤ span → Told (spread rs) (span - s) (seek p t s rs span)
unfolding seek spread
seek-told [] p t s span h = none_told (span - s) p
seek-told (r ∷ rs) p t s span h =
    if-ind (Told (replicate r.long r.id ++ spread rs) (span - s)) (ltb span (s + r.long))
    (λ e. told_here r.long r.id (spread rs) (span - s) p (omega (arith, ltb-true span (s + r.long) e)))
    (λ e.
    let g = ltb-false span (s + r.long) e in
    let z : span - (s + r.long) ≡ span - s - r.long = omega arith in
    told_past r.long r.id (spread rs) (span - s) _ (omega arith)
    (if-ind (Told (spread rs) (span - s - r.long)) (eqb (suc t) 64)
    (λ _. subst (λ i. Told (spread rs) i (seek (suc p) 0 (s + r.long) rs span)) z (seek-told rs (suc p) 0 (s + r.long) span g))
    (λ _. subst (λ i. Told (spread rs) i (seek p (suc t) (s + r.long) rs span)) z (seek-told rs p (suc t) (s + r.long) span g))))

-- the full reader's answer is that of the ids which the runs of the file stand for
pub whole_told : (file : List ℕ) (span : ℕ) → read_refusal file ≡ 0 → Told (spread (new_runs file)) span (id_whole file span)
unfolding id_whole when◌then◌else◌
whole_told file span e =
    let z : span - 0 ≡ span = omega arith in
    rw (eq-eqb (read_refusal file) 0 e) (subst (λ i. Told (spread (new_runs file)) i (seek 0 0 0 (new_runs file) span)) z (seek-told (new_runs file) 0 0 0 span (omega arith)))

-- ---------------------------------------------------------------- the stretch that it tells

-- run j holds the span, counted from 0; or it is the number of all runs, for a span beyond them
pub record Held (rs : List Run) (span j : ℕ) : Type 0 where
  pub least : j ≤ length rs
  pub starts : length (spread (take j rs)) ≤ span
  pub ends : j < length rs → span < length (spread (take (suc j) rs))

none-held : (i : ℕ) → Held [] i 0
unfolding spread
none-held i = record { least = omega arith; starts = omega arith; ends = λ h. absurd (omega arith) }

held_here : (r : Run) (rs : List Run) (i : ℕ) → i < r.long → Held (r ∷ rs) i 0
unfolding spread
held_here r rs i h = record { least = omega arith; starts = omega arith; ends = λ _. omega (arith, run_long r.long r.id []) }

held_past : (r : Run) (rs : List Run) (i j : ℕ) → r.long ≤ i → Held rs (i - r.long) j → Held (r ∷ rs) i (suc j)
unfolding spread
held_past r rs i j h w =
    let a = run_long r.long r.id (spread (take j rs)) in
    let b = run_long r.long r.id (spread (take (suc j) rs)) in
    record { least = omega (arith, w.least); starts = omega (arith, w.starts); ends = λ g. let q = w.ends (omega arith) in omega arith }

-- after p stretches and t runs of the next: run j is the (64·p + t + j)th of all
abbrev Stretch : List Run → ℕ → ℕ → IdOutcome → Type 0
Stretch rs i before o = (j : ℕ) × Held rs i j × (o.stretch ≡ (before + j) / 64)

next_stretch : (r : Run) (rs : List Run) (i before : ℕ) (o : IdOutcome) → r.long ≤ i → Stretch rs (i - r.long) (suc before) o → Stretch (r ∷ rs) i before o
next_stretch r rs i before o h w = let e : suc before + w.0 ≡ before + suc w.0 = omega arith in (suc w.0, held_past r rs i w.0 h w.1, w.2 ∙ ap (λ z. z / 64) e)

seek_stretch : (rs : List Run) (p t s span : ℕ) → t < 64 → s ≤ span → Stretch rs (span - s) (64 * p + t) (seek p t s rs span)
unfolding seek
seek_stretch [] p t s span b h = (0, none-held (span - s), omega arith)
seek_stretch (r ∷ rs) p t s span b h =
    if-ind (Stretch (r ∷ rs) (span - s) (64 * p + t)) (ltb span (s + r.long))
    (λ e. (0, held_here r rs (span - s) (omega (arith, ltb-true span (s + r.long) e)), omega arith))
    (λ e.
    let g = ltb-false span (s + r.long) e in
    let z : span - (s + r.long) ≡ span - s - r.long = omega arith in
    next_stretch r rs (span - s) (64 * p + t) (when eqb (suc t) 64 then seek (suc p) 0 (s + r.long) rs span else seek p (suc t) (s + r.long) rs span) (omega arith)
    (if-ind (Stretch rs (span - s - r.long) (suc (64 * p + t))) (eqb (suc t) 64)
    (λ u.
    let v : 64 * suc p + 0 ≡ suc (64 * p + t) = omega (arith, eqb-true (suc t) 64 u) in
    subst (λ i. Stretch rs i (suc (64 * p + t)) (seek (suc p) 0 (s + r.long) rs span)) z
    (subst (λ k. Stretch rs (span - (s + r.long)) k (seek (suc p) 0 (s + r.long) rs span)) v (seek_stretch rs (suc p) 0 (s + r.long) span (omega arith) g)))
    (λ u.
    let n = eqb-false (suc t) 64 u in
    let v : 64 * p + suc t ≡ suc (64 * p + t) = omega arith in
    subst (λ i. Stretch rs i (suc (64 * p + t)) (seek p (suc t) (s + r.long) rs span)) z
    (subst (λ k. Stretch rs (span - (s + r.long)) k (seek p (suc t) (s + r.long) rs span)) v (seek_stretch rs p (suc t) (s + r.long) span (omega (arith, n)) g)))))

-- "After every 64 runs": the stretch of the run that holds the span
pub whole_stretch : (file : List ℕ) (span : ℕ) → read_refusal file ≡ 0 → (j : ℕ) × Held (new_runs file) span j × ((id_whole file span).stretch ≡ j / 64)
unfolding id_whole when◌then◌else◌
whole_stretch file span e =
    let z : span - 0 ≡ span = omega arith in
    let w = seek_stretch (new_runs file) 0 0 0 span (omega arith) (omega arith) in
    let v : 64 * 0 + 0 + w.0 ≡ w.0 = omega arith in
    rw (eq-eqb (read_refusal file) 0 e) (w.0, subst (λ i. Held (new_runs file) i w.0) z w.1, w.2 ∙ ap (λ i. i / 64) v)

-- ---------------------------------------------------------------- the ids that unpack gives

-- of a file that unpack accepts: the ids in the old form that it wrote
pub unpacked_ids : (file out₀ : List ℕ) → (unpack_outcome file out₀).refused ≡ 0
    → old_ids (take (unpack_outcome file out₀).long (unpack_outcome file out₀).out) ≡ spread (new_runs file)
unfolding unpack_outcome unpacked
unpacked_ids file out₀ e = ap old_ids (accepted (read_refusal file) (unpacked file) out₀ e).bytes ∙ old_read (spread (new_runs file))
