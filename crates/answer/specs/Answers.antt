-- What the program lends, and what is printed after the distance entry.
use Rattle.std.specs.Prelude.{ℕ, ◌+◌, ◌*◌, ◌≤◌, ◌≡◌, List, length, eqb}
use Rattle.rules.specs.Base.{when◌then◌else◌}
use Rattle.rules.specs.Field.{Field}
use Rattle.rules.specs.Numbering.{dense}
use Rattle.rules.specs.Outcomes.{Sizes, region_outcome}
use Rattle.rules.specs.Listing.{listing, refused_line}

-- room for the lists of the two entries, as large as a file can make them, and for what is printed
pub record Buffers (raw blurred workspace ids out : List ℕ) : Type 0 where
  pub raws : 200 ≤ length raw
  pub blurs : 200 ≤ length blurred
  pub work : 29696 ≤ length workspace
  pub idents : 200 ≤ length ids
  pub room : 4096 ≤ length out

-- a field no larger than a file may have it
pub record Fitting (w h : ℕ) (area ids out : List ℕ) : Type 0 where
  pub cells : w * h ≤ 1024
  pub spans : length area ≤ 200
  pub idents : length ids ≡ length area
  pub room : 4096 ≤ length out

-- the entries' own lists are as long as the rule lends them
pub record Own (area raw blurred workspace : List ℕ) : Type 0 where
  pub raws : length raw ≡ length area
  pub blurs : length blurred ≡ length area
  pub work : length workspace ≡ 128 * length area + 4096

-- what the rule prints of the region entry's outcome
unfoldable pub second : Field → List ℕ → ℕ → Sizes → List ℕ → List ℕ → List ℕ
second F dist most z work ids =
    let b = region_outcome dense F dist most z work ids in
    when eqb b.refused 0 then listing F most b else refused_line b.refused
