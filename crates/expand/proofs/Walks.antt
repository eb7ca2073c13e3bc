-- The walks before and after the rounds, entry by entry. Marking an entry and setting its flag touch places that the other does not look at any more, so that
-- one walk does what two would (`Entering`, `Leaving`). Assumes nothing.
use mathlib.Core.Path.{◌≡◌, refl, sym, ap, ◌∙◌}
use mathlib.Core.Logic.{inl, inr}
use mathlib.Core.List.{List}
use Prim.Native.Nat.{ℕ, ◌+◌, ◌≤◌, ◌<◌}
use native.Mathlib.Omega.{arith}
use native.Mathlib.Decide.{ℕ_discrete}
use lib.ListN.{length, get_or, set, length-set, get_or-eq_default}
use lib.Seq.{get_or-set_same, get_or-set_other, set-get_or}
use Rattle.rules.specs.Field.{none}
use Rattle.rules.specs.Refusals.{most_spans}
use Rattle.expand.specs.Layout.{fresh, flagged, Past, Entries, Using}
use Rattle.expand.specs.Front.{Entering, Leaving}
use Rattle.expand.proofs.Sources.{fresh_unheld}
use Rattle.expand.proofs.Waves.{fresh_zero, fresh_some}
use Rattle.expand.proofs.Stacks.{using_start, using_next, using_beside}
use Rattle.expand.proofs.Flagged.{flagged_no, flagged_yes, flagging_start, flagging_next, flagging_beside}

-- ---------------------------------------------------------------- one entry

fresh_used : (ids : List ℕ) (e : ℕ) → length ids ≤ most_spans → e ≡ none → fresh ids e ≡ none
fresh_used ids e l z = let d : length ids ≤ e = omega arith in fresh_zero ids e (get_or-eq_default ids 0 d) ∙ z

length-flagged : (f s v : ℕ) (ws : List ℕ) → length (flagged f s v ws) ≡ length ws
length-flagged f s v ws = elim (ℕ_discrete s none) [
  | yes z ↦ ap length (flagged_no f s v ws z)
  | no z ↦ ap length (flagged_yes f s v ws z) ∙ length-set ws (f + s) v
]

-- entry s, at i, as the code has it
module _ (ids ws : List ℕ) (f i s : ℕ) (q : s ≡ get_or ws i 0) where
  same : s ≡ fresh ids s → set ws i (fresh ids s) ≡ ws
  same h = rw (← h, q) (set-get_or ws i 0)

  pub enter_used : length ids ≤ most_spans → s ≡ none → ws ≡ flagged f (fresh ids (get_or ws i 0)) 1 (set ws i (fresh ids (get_or ws i 0)))
  enter_used l z = let e = fresh_used ids s l z in rw (← q) (sym (flagged_no f (fresh ids s) 1 _ e ∙ same (z ∙ sym e)))

  pub enter_free : (r : ℕ) → r ≡ get_or ids s 0 → r ≡ 0 → (s ≡ none → ⊥) → set ws (f + s) 1 ≡ flagged f (fresh ids (get_or ws i 0)) 1 (set ws i (fresh ids (get_or ws i 0)))
  enter_free r o z k =
      let e = fresh_zero ids s (sym o ∙ z) in
      rw (← q, e) (ap (λ (l : List ℕ). set l (f + s) 1) (sym (rw e at (same (sym e)))) ∙ sym (flagged_yes f s 1 (set ws i s) k))

  pub enter_held : (r : ℕ) → r ≡ get_or ids s 0 → (r ≡ 0 → ⊥) → set ws i none ≡ flagged f (fresh ids (get_or ws i 0)) 1 (set ws i (fresh ids (get_or ws i 0)))
  enter_held r o z =
      let e = fresh_some ids s (λ g. z (o ∙ g)) in
      rw (← q, e) (sym (flagged_no f none 1 (set ws i none) refl))

  pub leave_used : length ids ≤ most_spans → s ≡ none → ws ≡ set (flagged f (get_or ws i 0) 0 ws) i (fresh ids (get_or ws i 0))
  leave_used l z = rw (← q) (sym (ap (λ (x : List ℕ). set x i (fresh ids s)) (flagged_no f s 0 ws z) ∙ same (z ∙ sym (fresh_used ids s l z))))

  pub leave_free : (r : ℕ) → r ≡ get_or ids s 0 → r ≡ 0 → (s ≡ none → ⊥) → i < f → set ws (f + s) 0 ≡ set (flagged f (get_or ws i 0) 0 ws) i (fresh ids (get_or ws i 0))
  leave_free r o z k h =
      let e = fresh_zero ids s (sym o ∙ z) in
      let g : s ≡ get_or (set ws (f + s) 0) i 0 = q ∙ sym (get_or-set_other ws (f + s) i 0 0 (λ y. omega arith)) in
      rw (← q, e) (sym (ap (λ (x : List ℕ). set x i s) (flagged_yes f s 0 ws k) ∙ ap (set (set ws (f + s) 0) i) g ∙ set-get_or (set ws (f + s) 0) i 0))

  pub leave_held : (r : ℕ) → r ≡ get_or ids s 0 → (r ≡ 0 → ⊥) → (s ≡ none → ⊥) → set (set ws (f + s) 0) i none ≡ set (flagged f (get_or ws i 0) 0 ws) i (fresh ids (get_or ws i 0))
  leave_held r o z k =
      let e = fresh_some ids s (λ g. z (o ∙ g)) in
      rw (← q, e) (ap (λ (x : List ℕ). set x i none) (sym (flagged_yes f s 0 ws k)))

-- a span in the stack has a flag
pub flag_in : (ids ws : List ℕ) (f i s : ℕ) → s ≡ get_or ws i 0 → f + length ids ≤ length ws → ((get_or ws i 0 ≡ none → ⊥) → get_or ws i 0 < length ids) → (s ≡ none → ⊥) → f + s < length ws
flag_in ids ws f i s q room h z = let l : s < length ids = rw q (h (λ g. z (q ∙ g))) in omega arith

-- ---------------------------------------------------------------- all entries

module _ (a f fill : ℕ) (ids ws₀ : List ℕ) where
  pub entering_start : Entering a f fill ids ws₀ ws₀ 0
  entering_start = record { used = ws₀; marked = using_start a fill ids ws₀; raised = flagging_start (length ids) a f fill 1 ws₀ }

  pub leaving_start : Leaving a f fill ids ws₀ ws₀ 0
  leaving_start = record { dim = ws₀; lowered = flagging_start (length ids) a f fill 0 ws₀; marked = using_start a fill ids ws₀ }

  module _ (z : Past (length ids) a (f + length ids) ws₀) (apart : a + length ids ≤ f) (es : Entries (length ids) a fill ws₀) (ws : List ℕ) (j : ℕ) (h : j < fill) where
    module _ (v : Entering a f fill ids ws₀ ws j) where
      size : length ws ≡ length ws₀
      size = v.raised.size ∙ v.marked.size

      entry_raised : get_or ws (a + j) 0 ≡ get_or v.used (a + j) 0
      entry_raised = v.raised.same (a + j) (inl (omega (arith, es.filled)))

      entry_first : get_or ws (a + j) 0 ≡ get_or ws₀ (a + j) 0
      entry_first = entry_raised ∙ v.marked.unseen (a + j) (inr (omega arith))

      pub entering_at : a + j < length ws
      entering_at = omega (arith, es.filled, z.room, size)

      pub entering_room : f + length ids ≤ length ws
      entering_room = omega (arith, z.room, size)

      pub entering_span : (get_or ws (a + j) 0 ≡ none → ⊥) → get_or ws (a + j) 0 < length ids
      entering_span y = rw entry_first (es.spans j h (λ q. y (entry_first ∙ q)))

      pub entering_next : (ws' : List ℕ) → ws' ≡ flagged f (fresh ids (get_or ws (a + j) 0)) 1 (set ws (a + j) (fresh ids (get_or ws (a + j) 0))) → Entering a f fill ids ws₀ ws' (j + 1)
      entering_next ws' q = rw q (go (fresh ids (get_or ws (a + j) 0)) refl)
        where
          go : (y : ℕ) → y ≡ fresh ids (get_or ws (a + j) 0) → Entering a f fill ids ws₀ (flagged f y 1 (set ws (a + j) y)) (j + 1)
          go y o =
              let low : a + fill ≤ f = omega (arith, es.filled) in
              let long : a + fill ≤ length v.used = omega (arith, es.filled, z.room, v.marked.size) in
              let t = flagging_beside (length ids) a f fill 1 v.used ws j v.raised low h y entering_at in
              let span : (y ≡ none → ⊥) → y < length ids = λ k. (rw (sym o) at (fresh_unheld (length ids) ids (get_or ws (a + j) 0) entering_span) k).0 in
              record {
                used = set v.used (a + j) y;
                marked = using_next a fill ids ws₀ v.used j v.marked h z.low long y (o ∙ ap (fresh ids) entry_raised);
                raised = flagging_next (length ids) a f fill 1 (set v.used (a + j) y) (set ws (a + j) y) j t low h y (sym (get_or-set_same ws (a + j) y 0 entering_at)) span
                    (omega (arith, entering_room, length-set ws (a + j) y));
              }

    module _ (v : Leaving a f fill ids ws₀ ws j) where
      size_left : length ws ≡ length ws₀
      size_left = v.marked.size ∙ v.lowered.size

      entry_dim : get_or ws (a + j) 0 ≡ get_or v.dim (a + j) 0
      entry_dim = v.marked.unseen (a + j) (inr (omega arith))

      entry_was : get_or ws (a + j) 0 ≡ get_or ws₀ (a + j) 0
      entry_was = entry_dim ∙ v.lowered.same (a + j) (inl (omega (arith, es.filled)))

      pub leaving_room : f + length ids ≤ length ws
      leaving_room = omega (arith, z.room, size_left)

      pub leaving_span : (get_or ws (a + j) 0 ≡ none → ⊥) → get_or ws (a + j) 0 < length ids
      leaving_span y = rw entry_was (es.spans j h (λ q. y (entry_was ∙ q)))

      -- the flag of the entry falls, in both
      marked_beside : (s : ℕ) → ((s ≡ none → ⊥) → s < length ids) → Using (length ids) a fill ids (flagged f s 0 v.dim) (flagged f s 0 ws) j
      marked_beside s span = elim (ℕ_discrete s none) [
        | yes y ↦ rw (flagged_no f s 0 v.dim y, flagged_no f s 0 ws y) v.marked
        | no y ↦ (let l = span y in rw (flagged_yes f s 0 v.dim y, flagged_yes f s 0 ws y)
            (using_beside a fill ids v.dim ws j v.marked (f + s) 0 (omega (arith, z.low)) (omega (arith, es.filled)) (omega (arith, leaving_room))))
      ]

      -- and leaves the stack
      flagged_before : (s : ℕ) → get_or (flagged f s 0 ws) (a + j) 0 ≡ get_or ws (a + j) 0
      flagged_before s = elim (ℕ_discrete s none) [
        | yes y ↦ ap (λ (l : List ℕ). get_or l (a + j) 0) (flagged_no f s 0 ws y)
        | no y ↦ ap (λ (l : List ℕ). get_or l (a + j) 0) (flagged_yes f s 0 ws y) ∙ get_or-set_other ws (f + s) (a + j) 0 0 (λ e. omega (arith, es.filled))
      ]

      pub leaving_next : (ws' : List ℕ) → ws' ≡ set (flagged f (get_or ws (a + j) 0) 0 ws) (a + j) (fresh ids (get_or ws (a + j) 0)) → Leaving a f fill ids ws₀ ws' (j + 1)
      leaving_next ws' q = rw q (go (get_or ws (a + j) 0) refl leaving_span)
        where
          go : (s : ℕ) → s ≡ get_or ws (a + j) 0 → ((s ≡ none → ⊥) → s < length ids) → Leaving a f fill ids ws₀ (set (flagged f s 0 ws) (a + j) (fresh ids s)) (j + 1)
          go s o span =
              let long : a + fill ≤ length (flagged f s 0 ws) = omega (arith, es.filled, z.room, size_left, length-flagged f s 0 ws) in
              record {
                dim = flagged f s 0 v.dim;
                lowered = flagging_next (length ids) a f fill 0 ws₀ v.dim j v.lowered (omega (arith, es.filled)) h s (o ∙ entry_dim) span (omega (arith, z.room, v.lowered.size));
                marked = using_next a fill ids (flagged f s 0 v.dim) (flagged f s 0 ws) j (marked_beside s span) h z.low long (fresh ids s) (ap (fresh ids) (o ∙ sym (flagged_before s)));
              }

  pub entering_end : (ws : List ℕ) (j : ℕ) → Entering a f fill ids ws₀ ws j → fill ≤ j → Entering a f fill ids ws₀ ws fill
  entering_end ws j v h = let q : j ≡ fill = omega (arith, v.marked.within) in rw q at v

  pub leaving_end : (ws : List ℕ) (j : ℕ) → Leaving a f fill ids ws₀ ws j → fill ≤ j → Leaving a f fill ids ws₀ ws fill
  leaving_end ws j v h = let q : j ≡ fill = omega (arith, v.marked.within) in rw q at v
