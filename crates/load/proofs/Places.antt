-- The positions in the request's words, on a file of one cell with one span, by computation: each kind of place, at the byte that a reader counts.
-- Assumes nothing.
use Prim.Native.Nat.{ℕ}
use mathlib.Core.Path.{◌≡◌, refl}
use mathlib.Core.List.{List, [], ◌∷◌, ◌++◌}
use lib.ListN.{take, set}
use Rattle.rules.specs.Base.{when◌then◌else◌}
use Rattle.rules.specs.File.{word}
use Rattle.rules.specs.Load.{Placed, refused_at, describes, read_on_at, read_file_at}

-- header (1 by 1, three sizes), cell, span, end
pub file : List ℕ
file = 1 ∷ 1 ∷ 0 ∷ 1 ∷ 0 ∷ 0 ∷ 0 ∷ 8 ∷ 0 ∷ 20 ∷ 0 ∷ 2 ∷ 1 ∷ 3 ∷ 7 ∷ 255 ∷ 255 ∷ 255 ∷ 255 ∷ 4 ∷ []

-- the refusal and the position; 0 and 0 where there is none
pub refusal : Placed → ℕ
refusal (refused_at n p F) = n
refusal (describes L) = 0

pub position : Placed → ℕ
position (refused_at n p F) = p
position (describes L) = 0

pub record Gives (bytes : List ℕ) (n p : ℕ) : Type 0 where
  pub number : refusal (read_file_at 1024 200 bytes) ≡ n
  pub place : position (read_file_at 1024 200 bytes) ≡ p

pub record Places : Type 0 where
  pub whole : Gives file 0 0
  -- "the kind byte of the record at fault": header, cell, span, end
  pub header : Gives (set file 0 2) 20 0
  pub cell : Gives (set file 11 3) 20 11
  pub span : Gives (set file 13 2) 20 13
  pub end : Gives (set file 19 3) 20 19
  pub unknown : Gives (set file 13 5) 20 13
  -- the same where its body is cut
  pub cut_body : Gives (take 14 (set file 13 2)) 20 13
  -- "the first byte after the end record"
  pub after : Gives (file ++ (4 ∷ [])) 20 20
  -- "for a file cut short, the number of bytes received": none, in the header, before and in a body, before the end
  pub none : Gives [] 20 0
  pub in_header : Gives (take 10 file) 20 10
  pub before_count : Gives (take 12 file) 20 12
  pub in_span : Gives (take 17 file) 20 17
  pub before_end : Gives (take 19 file) 20 19
  -- 21 at the header and at the cell that passes it, once the record is whole
  pub cells : Gives (take 11 (set file 2 5)) 21 0
  pub cells_cut : Gives (take 10 (set file 2 5)) 20 10
  pub spans : Gives (take 13 (set file 12 201)) 21 11
  pub spans_cut : Gives (take 12 (set file 12 201)) 20 12

pub places : Places
unfolding file refusal position read_file_at read_on_at word when◌then◌else◌
places = record {
  whole = record { number = refl; place = refl };
  header = record { number = refl; place = refl };
  cell = record { number = refl; place = refl };
  span = record { number = refl; place = refl };
  end = record { number = refl; place = refl };
  unknown = record { number = refl; place = refl };
  cut_body = record { number = refl; place = refl };
  after = record { number = refl; place = refl };
  none = record { number = refl; place = refl };
  in_header = record { number = refl; place = refl };
  before_count = record { number = refl; place = refl };
  in_span = record { number = refl; place = refl };
  before_end = record { number = refl; place = refl };
  cells = record { number = refl; place = refl };
  cells_cut = record { number = refl; place = refl };
  spans = record { number = refl; place = refl };
  spans_cut = record { number = refl; place = refl };
}
