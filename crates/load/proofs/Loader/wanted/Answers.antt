-- `Loader::wanted` meets its contract: its four ways out are those of the rule.
-- Each is a law of `Ways.antt` over the tests that led there.
use Rattle.load.proofs.Ways.{wants_header, wants_span, wants_cell, wants_end}
use Rattle.load.proofs.Loader.wanted.Goals as goal

pub returns-then-self-eq0 : goal.returns-then-self-eq0
returns-then-self-eq0 c = search wants_header

pub returns-then-self-gt0 : goal.returns-then-self-gt0
returns-then-self-gt0 c = search wants_span

pub returns-then-self-grid : goal.returns-then-self-grid
returns-then-self-grid c = search wants_cell

pub returns-else-self-grid : goal.returns-else-self-grid
returns-else-self-grid c = search wants_end
