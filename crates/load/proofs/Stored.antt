-- The loader's numbers in a list of 17: read and written they are the loader's, and each call gives what its outcome says.
-- Assumes nothing.
use Prim.Native.Nat.{ℕ, zero, suc}
use native.Mathlib.Omega.{arith}
use mathlib.Core.Path.{◌≡◌, refl, ap, ◌∙◌}
use mathlib.Core.List.{List, [], ◌∷◌}
use lib.ListN.{length, get_or}
use borrow.Author.Tests.{eq-eqb, ne_eqb}
use Rattle.rules.specs.Base.{when◌then◌else◌, tab}
use Rattle.rules.specs.Load.{Loader, Loading, load_begin, load_end, load_piece, piece_refusal}
use Rattle.load.specs.declared.Loader.{Loader as Code}
use Rattle.load.specs.Numbers.{loader_of, loading}
use Rattle.load.proofs.Pieces.{refusal_cut}
use Rattle.load.specs.declared.into.LoadAnswer.{LoadAnswer}
use Rattle.load.specs.Into.{numbers_of, loader_in, position_of, left, refused3, begin_outcome, end_outcome, loading_in, piece_outcome, Given, GivenPiece}

-- ---------------------------------------------------------------- a list by its elements

tab_shift : (n at : ℕ) (f : ℕ → ℕ) → tab n (suc at) f ≡ tab n at (λ i. f (suc i))
unfolding tab
tab_shift zero at f = refl
tab_shift (suc n) at f = ap (λ (r : List ℕ). f (suc at) ∷ r) (tab_shift n (suc at) f)

list_tab : (l : List ℕ) → tab (length l) 0 (λ i. get_or l i 0) ≡ l
unfolding tab
list_tab [] = refl
list_tab (x ∷ l) = ap (λ (r : List ℕ). x ∷ r) (tab_shift (length l) 0 (λ i. get_or (x ∷ l) i 0) ∙ list_tab l)

seventeen : (l : List ℕ) → length l ≡ 17 → tab 17 0 (λ i. get_or l i 0) ≡ l
seventeen l e = rw e at (list_tab l)

-- ---------------------------------------------------------------- read and written

-- the numbers that were read are the numbers
pub numbers_read : (ns : List ℕ) → length ns ≡ 17 → numbers_of (loader_in ns) ≡ ns
unfolding numbers_of loader_in tab
numbers_read ns e = seventeen ns e

-- the loader that was written is the loader
pub loader_written : (l : Loader) → loader_in (numbers_of l) ≡ l
unfolding numbers_of loader_in
loader_written l = refl

-- ---------------------------------------------------------------- what a call gives

pub none_said : (l : Loader) → l.refusal ≡ 0 → 0 ≡ position_of l
unfolding position_of when◌then◌else◌
none_said l e = rw (eq-eqb l.refusal 0 e)

pub some_said : (l : Loader) → (l.refusal ≡ 0 → ⊥) → l.position ≡ position_of l
unfolding position_of when◌then◌else◌
some_said l n = rw (ne_eqb l.refusal 0 n)

no_three : ◌≡◌ {A = ℕ} 3 0 → ⊥
no_three e = omega arith

module _ (r : LoadAnswer) (ns ns' : List ℕ) where
  given_left : (l : Loader) → r.refusal ≡ l.refusal → r.position ≡ position_of l → ns' ≡ numbers_of l → Given (left l) r ns'
  unfolding left
  given_left l e f g = record { refusal = e; position = f; numbers = g }

  given_3 : r.refusal ≡ 3 → r.position ≡ 0 → Given (refused3 ns) r ns
  unfolding refused3
  given_3 e f = record { refusal = e; position = f; numbers = refl }

  module _ (odd : length ns ≡ 17 → ⊥) (e : r.refusal ≡ 3) (f : r.position ≡ 0) where
    pub begin_3 : (cells spans : ℕ) → Given (begin_outcome cells spans ns) r ns
    unfolding begin_outcome when◌then◌else◌
    begin_3 cells spans = rw (ne_eqb (length ns) 17 odd) (given_3 e f)

    pub end_3 : Given (end_outcome ns) r ns
    unfolding end_outcome when◌then◌else◌
    end_3 = rw (ne_eqb (length ns) 17 odd) (given_3 e f)

    pub piece_3 : (piece index count area con : List ℕ) → GivenPiece (piece_outcome piece ns index count area con) r ns index count area con
    unfolding piece_outcome when◌then◌else◌
    piece_3 piece index count area con = rw (ne_eqb (length ns) 17 odd) (record { said = given_3 e f; indices = refl; counts = refl; areas = refl; cons = refl })

  module _ (right : length ns ≡ 17) where
    module _ (l : Loader) (e : r.refusal ≡ l.refusal) (f : r.position ≡ position_of l) (g : ns' ≡ numbers_of l) where
      pub begin_given : (cells spans : ℕ) → l ≡ load_begin cells spans → Given (begin_outcome cells spans ns) r ns'
      unfolding begin_outcome when◌then◌else◌
      begin_given cells spans q = rw (eq-eqb (length ns) 17 right, ← q) (given_left l e f g)

      pub end_given : (k : Loader) → k ≡ loader_in ns → l ≡ load_end k → Given (end_outcome ns) r ns'
      unfolding end_outcome when◌then◌else◌
      end_given k p q = rw (eq-eqb (length ns) 17 right, ← p, ← q) (given_left l e f g)

  module _ (piece index count area con index' count' area' con' : List ℕ) (right : length ns ≡ 17) (k : Code) (p : loader_of k ≡ loader_in ns) where
    abbrev x : Loading
    x = loading k index count area con

    same-loading : x ≡ loading_in ns index count area con
    unfolding loading_in
    same-loading = rw p refl

    pub piece_taken : (l : Code) → (0 ≡ piece_refusal x) × (loading l index' count' area' con' ≡ load_piece piece x)
        → r.refusal ≡ l.refusal → r.position ≡ position_of (loader_of l) → ns' ≡ numbers_of (loader_of l)
        → GivenPiece (piece_outcome piece ns index count area con) r ns' index' count' area' con'
    unfolding piece_outcome when◌then◌else◌
    piece_taken l q e f g =
        rw (eq-eqb (length ns) 17 right, ← same-loading, ← q.0, ← q.1) (record { said = given_left (loader_of l) e f g; indices = refl; counts = refl; areas = refl; cons = refl })

    pub piece_short : (3 ≡ piece_refusal x) × (loading k index' count' area' con' ≡ load_piece piece x) → r.refusal ≡ 3 → r.position ≡ 0
        → GivenPiece (piece_outcome piece ns index count area con) r ns index' count' area' con'
    unfolding piece_outcome when◌then◌else◌
    piece_short q e f =
        let y : loading k index' count' area' con' ≡ x = q.1 ∙ refusal_cut piece x (λ e. no_three (q.0 ∙ e)) in
        rw (eq-eqb (length ns) 17 right, ← same-loading, ← q.0)
        (record {
          said = given_3 e f;
          indices = ap (λ (z : Loading). z.index) y;
          counts = ap (λ (z : Loading). z.count) y;
          areas = ap (λ (z : Loading). z.area) y;
          cons = ap (λ (z : Loading). z.con) y;
        })
