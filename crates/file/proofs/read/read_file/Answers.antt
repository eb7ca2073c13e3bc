-- `read::read_file` meets its contract: the loader tells what the rule's reading says (`whole_reads` in `Told.antt`).
-- Elements of the file are bytes: that is what the slice's rule gives.
use Rattle.file.proofs.Told.{whole_short, whole_reads}
use native.Mathlib.Omega.{arith}
use Rattle.file.proofs.read.read_file.Goals as goal

pub reading-requires : goal.reading-requires
reading-requires c = whole_short _ _ _ _ _ _ _ _ _ _ c.load_whole.ensures c.requires (λ i. omega (arith, c.type_inv.bytes i))

pub returns : goal.returns
returns c = whole_reads _ _ _ _ _ _ _ _ _ _ c.load_whole.ensures c.requires (λ i. omega (arith, c.type_inv.bytes i)) _ c.reading.ensures
