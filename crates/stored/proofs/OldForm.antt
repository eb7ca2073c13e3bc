-- The old form from its ids: what is left to write after i spans, and how long the whole is. Assumes nothing.
use Prim.Native.Nat.{ℕ, ◌+◌, ◌*◌, ◌≤◌, ◌<◌}
use native.Mathlib.Omega.{arith}
use native.Mathlib.Numerals.{add-one}
use mathlib.Core.Path.{◌≡◌, refl}
use mathlib.Core.List.{List, [], ◌∷◌, ◌++◌}
use lib.ListN.{length, get_or, drop, drop_of_length-le}
use lib.Seq.{drop-cons}
use Rattle.rules.specs.Stored.{two, span_record, old_bytes}
use Rattle.file.specs.Written.{Room, Wrote}
use Rattle.stored.proofs.Fits.{Writes, writes_first, writes_room, writes_next, writes_done}

left_next : (l : List ℕ) (i : ℕ) → i < length l → old_bytes (drop i l) ≡ span_record (get_or l i 0) ++ old_bytes (drop (i + 1) l)
unfolding old_bytes
left_next l i h = rw (drop-cons l i 0 h, add-one i)

left_end : (l : List ℕ) (i : ℕ) → length l ≤ i → old_bytes (drop i l) ≡ 4 ∷ []
unfolding old_bytes
left_end l i h = rw (drop_of_length-le l h)

pub old_first : (l out : List ℕ) → length (old_bytes l) ≤ length out → Writes out (old_bytes l) 0 (old_bytes (drop 0 l)) out
old_first l out h = writes_first out (old_bytes l) (old_bytes (drop 0 l)) h refl

module _ (l out₀ : List ℕ) (at i : ℕ) (out : List ℕ) (w : Writes out₀ (old_bytes l) at (old_bytes (drop i l)) out) where
  here_room : i < length l → Room out at (span_record (get_or l i 0))
  here_room h = writes_room out₀ (old_bytes l) at (old_bytes (drop i l)) out w (span_record (get_or l i 0)) (old_bytes (drop (i + 1) l)) (left_next l i h)

  -- the records of spans have one length
  pub old_room : (x : ℕ) → i < length l → Room out at (span_record x)
  unfolding span_record two
  old_room x h = record { fits = (here_room h).fits }

  pub old_next : i < length l → (r : ℕ) (out' : List ℕ) → Wrote out at (span_record (get_or l i 0)) r out' → Writes out₀ (old_bytes l) r (old_bytes (drop (i + 1) l)) out'
  old_next h = writes_next out₀ (old_bytes l) at (old_bytes (drop i l)) out w (span_record (get_or l i 0)) (old_bytes (drop (i + 1) l)) (left_next l i h)

  pub old_end_room : length l ≤ i → Room out at (4 ∷ [])
  old_end_room h = writes_room out₀ (old_bytes l) at (old_bytes (drop i l)) out w (4 ∷ []) [] (left_end l i h)

  pub old_done : length l ≤ i → (r : ℕ) (out' : List ℕ) → Wrote out at (4 ∷ []) r out' → Wrote out₀ 0 (old_bytes l) r out'
  old_done h r out' g = writes_done out₀ (old_bytes l) r out' (writes_next out₀ (old_bytes l) at (old_bytes (drop i l)) out w (4 ∷ []) [] (left_end l i h) r out' g)

-- for those who make room
pub old_length : (l : List ℕ) → length (old_bytes l) ≡ 3 * length l + 1
unfolding old_bytes span_record two
old_length [] = refl
old_length (x ∷ l) = omega (arith, old_length l)
