-- Rows redone, as the code goes: rows that are redone whatever they come to, then rows until one comes out as stored.
use Rattle.std.specs.Prelude.{ℕ, ◌+◌, ◌-◌, ◌≤◌, ◌<◌, ◌≡◌, ◌⊎◌, List, length}
use Rattle.rules.specs.Base.{upto}
use Rattle.rules.specs.Field.{Field, spans}
use Rattle.rules.specs.Distance.{far}
use Rattle.rules.specs.Rows.{downto, pass1_row, blur_row}
use Rattle.rules.specs.Refresh.{Redone, from_pass1, onward, backward}
use Rattle.door.specs.Edit.{row_of}

abbrev pub redone : List ℕ → ℕ → Redone
redone values end = record { values = values; end = end }

-- rows a to b, b not included: of pass 1, and of pass 2 with the pass 1 values p
unfoldable pub pass1_rows : Field → ℕ → ℕ → List ℕ → List ℕ
pass1_rows F a b l = upto (b - a) (λ i. pass1_row F (a + i)) l

unfoldable pub pass2_rows : Field → List ℕ → ℕ → ℕ → List ℕ → List ℕ
pass2_rows F p a b l = downto (b - a) (λ i. from_pass1 F p (a + i)) l

-- of the blur of raw values r
unfoldable pub blur_till : Field → List ℕ → ℕ → ℕ → List ℕ → List ℕ
blur_till F r a b m = upto (b - a) (λ i. blur_row F r (a + i)) m

-- m is l, but for rows a to b, b not included
pub record Kept (F : Field) (a b : ℕ) (l m : List ℕ) : Type 0 where
  pub size : length m ≡ length l
  pub held : (s : ℕ) → s < spans F → (row_of F s < a) ⊎ (b ≤ row_of F s) → far m s ≡ far l s

-- what the passes leave of the lists p₀, r₀ and k₀: the rows that they redid, and the third list but for these rows
pub record Passed (z0 z1 : ℕ) (F : Field) (p₀ r₀ k₀ p r k : List ℕ) (first last top : ℕ) : Type 0 where
  pub begins : first ≡ z0 - 1
  pub pass1 : redone p last ≡ onward F z1 (F.h - first) first p₀
  pub pass2 : redone r top ≡ backward F (first + 1) p (last + 1) r₀
  pub past : top ≤ first
  pub before : first ≤ last
  pub within : last < F.h
  pub size : length r ≡ spans F
  pub kept : Kept F top (last + 1) k₀ k
