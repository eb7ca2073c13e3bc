-- Room and writing: what is left of a text fits what is left of the room, and is written after what was written.
-- A part of the text is taken from both. Assumes nothing.
use Prim.Native.Nat.{ℕ, ◌+◌, ◌-◌, ◌≤◌, ◌<◌}
use native.Mathlib.Omega.{arith}
use mathlib.Core.Path.{◌≡◌, refl, sym, ap, ◌∙◌}
use mathlib.Core.Bool.{false}
use mathlib.Core.List.{List, [], ◌++◌}
use lib.ListN.{length, length-append}
use lib.Dec.{leb}
use borrow.Author.Tests.{lt-leb, le-leb, leb-true}
use Rattle.laws.proofs.Basics.{same_test}
use Rattle.file.specs.Written.{written, Room, Wrote}
use Rattle.file.proofs.Writing.{written_more, written-length, written_none}

-- ---------------------------------------------------------------- room

-- whether the whole fits the room is whether the rest fits what is left
pub record Fits (whole : List ℕ) (room : ℕ) (rest : List ℕ) (left : ℕ) : Type 0 where
  pub same : leb (length whole) room ≡ leb (length rest) left

pub fits_whole : (whole : List ℕ) (room : ℕ) (rest : List ℕ) → whole ≡ rest → Fits whole room rest room
fits_whole whole room rest e = record { same = ap (λ t. leb (length t) room) e }

module _ (whole : List ℕ) (room : ℕ) (rest : List ℕ) (left : ℕ) (f : Fits whole room rest left) (t rest' : List ℕ) (e : rest ≡ t ++ rest') where
  total : length rest ≡ length t + length rest'
  total = ap length e ∙ length-append t rest'

  pub fits_part : length t ≤ left → Fits whole room rest' (left - length t)
  fits_part h = record {
    same = f.same ∙ same_test (leb (length rest) left) (leb (length rest') (left - length t))
        (λ p. le-leb (length rest') (left - length t) (omega (arith, total, leb-true (length rest) left p)))
        (λ p. le-leb (length rest) left (omega (arith, total, leb-true (length rest') (left - length t) p)));
  }

  pub fits_not : left < length t → false ≡ leb (length whole) room
  fits_not h = sym (f.same ∙ lt-leb (length rest) left (omega (arith, total)))

-- ---------------------------------------------------------------- writing

-- the rest, written from here on, gives what the whole gives
pub record Writes (out₀ whole : List ℕ) (at : ℕ) (rest out : List ℕ) : Type 0 where
  pub same : written out at rest ≡ written out₀ 0 whole
  pub ends : at + length rest ≡ length whole
  pub long : length out ≡ length out₀
  pub room : length whole ≤ length out₀

pub writes_first : (out₀ whole rest : List ℕ) → length whole ≤ length out₀ → whole ≡ rest → Writes out₀ whole 0 rest out₀
writes_first out₀ whole rest h e = record { same = ap (written out₀ 0) (sym e); ends = omega (arith, ap length e); long = refl; room = h }

module _ (out₀ whole : List ℕ) (at : ℕ) (rest out : List ℕ) (w : Writes out₀ whole at rest out) (t rest' : List ℕ) (e : rest ≡ t ++ rest') where
  sum : length rest ≡ length t + length rest'
  sum = ap length e ∙ length-append t rest'

  pub writes_room : Room out at t
  writes_room = record { fits = omega (arith, sum, w.ends, w.long, w.room) }

  pub writes_next : (r : ℕ) (out' : List ℕ) → Wrote out at t r out' → Writes out₀ whole r rest' out'
  writes_next r out' g = record {
    same = ap (λ l. written l r rest') g.bytes ∙ ap (λ k. written (written out at t) k rest') g.ends
        ∙ written_more out at t rest' (omega (arith, sum, length-append t rest', w.ends, w.long, w.room)) ∙ ap (written out at) (sym e) ∙ w.same;
    ends = omega (arith, sum, w.ends, g.ends);
    long = ap length g.bytes ∙ written-length out at t writes_room.fits ∙ w.long;
    room = w.room;
  }

-- nothing is left
pub writes_done : (out₀ whole : List ℕ) (at : ℕ) (out : List ℕ) → Writes out₀ whole at [] out → Wrote out₀ 0 whole at out
writes_done out₀ whole at out w = record { ends = omega (arith, w.ends); bytes = sym (written_none out at) ∙ w.same }
