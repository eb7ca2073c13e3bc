-- Laws of `written`: nothing written, one text after another, one byte more.
use Prim.Native.Nat.{ℕ, ◌+◌, ◌≤◌}
use native.Mathlib.Omega.{arith}
use native.Mathlib.Numerals.{add-one}
use mathlib.Core.Path.{◌≡◌, refl, sym, ap, ◌∙◌}
use mathlib.Core.List.{List, [], ◌∷◌, ◌++◌, append_assoc}
use lib.ListN.{length, set, take, drop, length-append, length-drop, take-append-drop}
use borrow.Rule.Slice.PartMut.{put_mid}
use lib.Seq.{length-take-le, take_at, drop_at, drop-drop, set_split}
use Rattle.file.specs.Written.{written, Room, Wrote}

-- nothing
pub written_none : (out : List ℕ) (at : ℕ) → written out at [] ≡ out
unfolding written
written_none out at = let e : at + 0 ≡ at = omega arith in rw e (take-append-drop at out)

module _ (out : List ℕ) (at : ℕ) (t : List ℕ) (h : at + length t ≤ length out) where
  pub written-length : length (written out at t) ≡ length out
  unfolding written
  written-length = simp (length-append, length-drop) (omega (arith, length-take-le at out (omega arith)))

  head : length (take at out ++ t) ≡ at + length t
  head = length-append (take at out) t ∙ ap (λ (k : ℕ). k + length t) (length-take-le at out (omega arith))

  pub written-take : take (at + length t) (written out at t) ≡ take at out ++ t
  unfolding written
  written-take = rw (← append_assoc (take at out) t (drop (at + length t) out)) (take_at (take at out ++ t) (drop (at + length t) out) (at + length t) head)

  pub written-drop : drop (at + length t) (written out at t) ≡ drop (at + length t) out
  unfolding written
  written-drop = rw (← append_assoc (take at out) t (drop (at + length t) out)) (drop_at (take at out ++ t) (drop (at + length t) out) (at + length t) head)

-- a text after another
pub written_more : (out : List ℕ) (at : ℕ) (t u : List ℕ) → at + length (t ++ u) ≤ length out
    → written (written out at t) (at + length t) u ≡ written out at (t ++ u)
unfolding written
written_more out at t u h =
    let n = length-append t u in
    let g : at + length t ≤ length out = omega arith in
    let e : at + length t + length u ≡ at + length (t ++ u) = omega arith in
    let p : drop (at + length t + length u) (written out at t) ≡ drop (at + length (t ++ u)) out =
    sym (drop-drop (length u) (at + length t) (written out at t)) ∙ ap (drop (length u)) (written-drop out at t g) ∙ drop-drop (length u) (at + length t) out ∙ ap (λ (k : ℕ). drop k out) e in
    let q : take (at + length t) (written out at t) ≡ take at out ++ t = written-take out at t g in
    ap (λ (l : List ℕ). l ++ (u ++ drop (at + length t + length u) (written out at t))) q ∙ ap (λ (l : List ℕ). (take at out ++ t) ++ (u ++ l)) p
    ∙ append_assoc (take at out) t (u ++ drop (at + length (t ++ u)) out) ∙ ap (λ (l : List ℕ). take at out ++ l) (sym (append_assoc t u (drop (at + length (t ++ u)) out)))

-- one byte
pub written_byte : (out : List ℕ) (at b : ℕ) → Room out at (b ∷ []) → set out at b ≡ written out at (b ∷ [])
unfolding written
written_byte out at b h = rw (add-one at) (set_split out at b (omega (arith, h.fits)))

-- a text copied over a part of its length
pub copied : (out t u : List ℕ) (at k : ℕ) → u ≡ t → k ≡ length t → Wrote out at t (at + length t) (put_mid at k out u)
unfolding written
copied out t u at k e f = record { ends = refl; bytes = rw (e, f, drop-drop (length t) at out) refl }

-- ---------------------------------------------------------------- one text after another, as the code has it

pub room_first : (out : List ℕ) (at : ℕ) (t u : List ℕ) → Room out at (t ++ u) → Room out at t
room_first out at t u h = record { fits = omega (arith, h.fits, length-append t u) }

module _ (out : List ℕ) (at : ℕ) (t u : List ℕ) (h : Room out at (t ++ u)) (r : ℕ) (out' : List ℕ) (g : Wrote out at t r out') where
  kept : length out' ≡ length out
  kept = ap length g.bytes ∙ written-length out at t (room_first out at t u h).fits

  pub room_then : Room out' r u
  room_then = record { fits = omega (arith, h.fits, length-append t u, g.ends, kept) }

  pub wrote_then : (s : ℕ) (out'' : List ℕ) → Wrote out' r u s out'' → Wrote out at (t ++ u) s out''
  wrote_then s out'' k = record {
    ends = omega (arith, length-append t u, g.ends, k.ends);
    bytes = k.bytes ∙ ap (λ (l : List ℕ). written l r u) g.bytes ∙ ap (λ (j : ℕ). written (written out at t) j u) g.ends ∙ written_more out at t u h.fits;
  }
