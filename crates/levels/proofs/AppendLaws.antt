-- Appending entry by entry is appending what remains.
-- The stack before is not written while it is read, so entry i is the one that it had at the start.
use Prim.Native.Nat.{ℕ, zero, suc, ◌+◌, ◌-◌, ◌*◌, ◌≤◌, ◌<◌}
use native.Mathlib.Omega.{arith}
use native.Mathlib.Numerals.{add-one}
use mathlib.Core.Path.{◌≡◌, sym, ap, ◌∙◌}
use mathlib.Core.List.{List, [], ◌∷◌, ◌++◌}
use lib.ListN.{length, get_or, take, length-append}
use lib.Seq.{take-suc, take_all, get_or-set_same, get_or-set_other}
use borrow.Author.Tests.{eq-eqb, ne_eqb}
use Rattle.rules.specs.Base.{◌and◌, keep}
use Rattle.rules.specs.Field.{none}
use Rattle.rules.specs.Growth.{remains}
use Rattle.laws.proofs.Basics.{and_no, all_at}
use Rattle.levels.specs.Levels.{stack_count, levels_at, Fills, StackPart, Entry, appended, Stacked, Moved}
use Rattle.levels.proofs.LevelLaws.{fill_is, entry_is, moved_none, moved_then, moved_part}
use Rattle.levels.proofs.CarryLaws.{appended-none, appended-appended, remains_few, stacked_room, stacked_append}
use Rattle.levels.proofs.SortLaws.{keep_append, keep_one, keep_no}

-- ---------------------------------------------------------------- one entry

remains_used : (ids : List ℕ) (e : ℕ) → e ≡ none → remains ids (e ∷ []) ≡ []
unfolding remains ◌and◌
remains_used ids e h = keep_no _ e (rw (eq-eqb e none h))

remains-taken : (ids : List ℕ) (e : ℕ) → (get_or ids e 0 ≡ 0 → ⊥) → remains ids (e ∷ []) ≡ []
unfolding remains
remains-taken ids e h = keep_no _ e (rw (ne_eqb _ 0 h) (and_no _))

remains-one : (ids : List ℕ) (e : ℕ) → (e ≡ none → ⊥) → get_or ids e 0 ≡ 0 → remains ids (e ∷ []) ≡ e ∷ []
unfolding remains ◌and◌
remains-one ids e h z = keep_one _ e (rw (ne_eqb e none h, eq-eqb _ 0 z))

module _ (ws : List ℕ) (n j : ℕ) (fs ids : List ℕ) (e : ℕ) where
  append-none : Fills n fs → remains ids (e ∷ []) ≡ [] → Moved n ws fs ws fs (appended j (remains ids (e ∷ [])) (levels_at ws n fs))
  append-none f h = moved_none ws n fs _ f (sym (rw h (appended-none j (levels_at ws n fs))))

  pub append_used : Fills n fs → e ≡ none → Moved n ws fs ws fs (appended j (remains ids (e ∷ [])) (levels_at ws n fs))
  append_used f h = append-none f (remains_used ids e h)

  pub append-taken : Fills n fs → (get_or ids e 0 ≡ 0 → ⊥) → Moved n ws fs ws fs (appended j (remains ids (e ∷ [])) (levels_at ws n fs))
  append-taken f h = append-none f (remains-taken ids e h)

  pub append-put : (ws' fs' : List ℕ) → (e ≡ none → ⊥) → get_or ids e 0 ≡ 0 → Moved n ws fs ws' fs' (appended j (e ∷ []) (levels_at ws n fs))
      → Moved n ws fs ws' fs' (appended j (remains ids (e ∷ [])) (levels_at ws n fs))
  append-put ws' fs' h z m = rw (remains-one ids e h z) m

-- ---------------------------------------------------------------- the loop

take_few : (i : ℕ) (es : List ℕ) → length (take i es) ≤ i
take_few zero es = omega arith
take_few (suc i) [] = omega arith
take_few (suc i) (e ∷ es) = omega (arith, take_few i es)

remains_more : (ids es : List ℕ) (i : ℕ) → i < length es → remains ids (take (i + 1) es) ≡ remains ids (take i es) ++ remains ids (get_or es i 0 ∷ [])
unfolding remains
remains_more ids es i h = rw (add-one i, take-suc es i 0 h) (keep_append _ (take i es) (get_or es i 0 ∷ []))

-- ws₀ and fs₀: at the loop's start
module _ (n j : ℕ) (ws₀ fs₀ ids : List ℕ) (r : StackPart n ws₀) (f₀ : Fills n fs₀) (p : 0 < j) (h : j < stack_count) (s : Stacked n (levels_at ws₀ n fs₀) (j - 1)) where
  abbrev start : List (List ℕ)
  start = levels_at ws₀ n fs₀

  abbrev src : List ℕ
  src = get_or start (j - 1) []

  abbrev after : ℕ → List (List ℕ)
  after i = appended j (remains ids (take i src)) start

  count : length src ≡ get_or fs₀ (j - 1) 0
  count = fill_is ws₀ n fs₀ (j - 1) r f₀ (omega arith)

  pub append-start : Moved n ws₀ fs₀ ws₀ fs₀ (after 0)
  unfolding remains keep
  append-start = moved_none ws₀ n fs₀ (after 0) f₀ (sym (appended-none j start))

  -- what stands after i entries
  at_j : (i : ℕ) → get_or (after i) j [] ≡ get_or start j [] ++ remains ids (take i src)
  unfolding appended
  at_j i = get_or-set_same start j _ [] (omega (arith, s.eight))

  at_src : (i : ℕ) → get_or (after i) (j - 1) [] ≡ src
  unfolding appended
  at_src i = get_or-set_other start j (j - 1) _ [] (λ e. omega arith)

  module _ (i : ℕ) (ws fs : List ℕ) (m : Moved n ws₀ fs₀ ws fs (after i)) (g : i < get_or fs₀ (j - 1) 0) where
    pub append_room : get_or fs j 0 < n
    append_room =
        let a = fill_is ws n fs j (moved_part r m) m.kept.fits h in
        let b : length (get_or (levels_at ws n fs) j []) ≡ length (get_or start j []) + length (remains ids (take i src)) =
        rw (m.same, at_j i) (length-append (get_or start j []) (remains ids (take i src))) in
        omega (arith, stacked_room n j start s p h, remains_few ids (take i src), take_few i src, count)

    -- the entry that is read
    entry : get_or ws ((j - 1) * n + i) 0 ≡ get_or src i 0
    entry =
        let c = fill_is ws n fs (j - 1) (moved_part r m) m.kept.fits (omega arith) in
        let d : length (get_or (levels_at ws n fs) (j - 1) []) ≡ length src = rw m.same (ap length (at_src i)) in
        sym (entry_is ws n fs (j - 1) i m.kept.fits (omega arith) (omega (arith, count))) ∙ rw m.same (ap (λ (q : List ℕ). get_or q i 0) (at_src i))

    pub append-span : Entry n (get_or ws ((j - 1) * n + i) 0)
    append-span = rw entry (all_at _ src i (s.inside (j - 1)) (omega (arith, count)))

    pub append_more : (ws' fs' : List ℕ) → Moved n ws fs ws' fs' (appended j (remains ids (get_or ws ((j - 1) * n + i) 0 ∷ [])) (levels_at ws n fs))
        → Moved n ws₀ fs₀ ws' fs' (after (i + 1))
    append_more ws' fs' q =
        let one = get_or src i 0 ∷ [] in
        let both = appended-appended j (remains ids (take i src)) (remains ids one) start (omega (arith, s.eight)) in
        let e : appended j (remains ids (get_or ws ((j - 1) * n + i) 0 ∷ [])) (levels_at ws n fs) ≡ after (i + 1) =
        rw (entry, m.same, both, remains_more ids src i (omega (arith, count))) in
        moved_then m (rw e at q)

  module _ (i : ℕ) (ws fs : List ℕ) (m : Moved n ws₀ fs₀ ws fs (after i)) (g : get_or fs₀ (j - 1) 0 ≤ i) where
    pub append_done : levels_at ws n fs ≡ appended j (remains ids (get_or (levels_at ws₀ n fs₀) (j - 1) [])) (levels_at ws₀ n fs₀)
    append_done = m.same ∙ rw (take_all i src (omega (arith, count)))

    pub append_stacked : Stacked n (levels_at ws n fs) j
    append_stacked = rw append_done (stacked_append n j ids start s p h)
