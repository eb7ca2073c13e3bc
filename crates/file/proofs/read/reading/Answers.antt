-- `read::reading` meets its contract: its three ways out are the answer's three cases.
use Rattle.file.proofs.Told.{header_short, reading_loaded, reading_large, reading_bad}
use Rattle.file.proofs.read.reading.Goals as goal

pub header_of-requires : goal.header_of-requires
header_of-requires c = search header_short

pub returns-in-0 : goal.returns-in-0
returns-in-0 c = search reading_loaded

pub returns-in-21 : goal.returns-in-21
returns-in-21 c = search reading_large

pub returns-in_default : goal.returns-in_default
returns-in_default c = search reading_bad
