-- What is written into a lent list from a place on.
use Rattle.std.specs.Prelude.{ℕ, ◌+◌, ◌≤◌, ◌≡◌, List, ◌++◌, length, take, drop}

-- out with a text from `at` on, and all else as it was
unfoldable pub written : List ℕ → ℕ → List ℕ → List ℕ
written out at t = take at out ++ (t ++ drop (at + length t) out)

-- there is room for it
pub record Room (out : List ℕ) (at : ℕ) (t : List ℕ) : Type 0 where
  pub fits : at + length t ≤ length out

-- it was written, and r is the place after it
pub record Wrote (out : List ℕ) (at : ℕ) (t : List ℕ) (r : ℕ) (out' : List ℕ) : Type 0 where
  pub ends : r ≡ at + length t
  pub bytes : out' ≡ written out at t
