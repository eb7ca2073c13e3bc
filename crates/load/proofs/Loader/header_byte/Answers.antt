-- `Loader::header_byte` meets its contract: the tenth byte ends the header.
use Rattle.load.proofs.Ways.{header_on, header-last}
use Rattle.load.proofs.Loader.header_byte.Goals as goal

pub returns-then-self-lt9 : goal.returns-then-self-lt9
returns-then-self-lt9 c = search header_on

pub returns-else-self-lt9 : goal.returns-else-self-lt9
returns-else-self-lt9 c = search header-last
