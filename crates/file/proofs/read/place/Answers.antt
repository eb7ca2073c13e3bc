-- `read::place` meets its contract: the loader tells the place (`whole_place` in `Told.antt`).
-- Elements of the file are bytes: that is what the slice's rule gives.
use Rattle.file.proofs.Told.{whole_place}
use native.Mathlib.Omega.{arith}
use borrow.Author.Rules.{rules}
use Rattle.file.proofs.read.place.Goals as goal

pub returns : goal.returns
returns c = whole_place _ _ _ _ _ _ _ _ _ _ c.load_whole-l.ensures (record { cells₁ = search rules; cells₂ = search rules; spans₁ = search rules; spans₂ = search rules }) (λ i. omega (arith, c.type_inv.bytes i)) _ c.place_in.ensures
