-- The code's loader in the rule's words, and document 02's numbers of its answers.
use Rattle.std.specs.Prelude.{ℕ, List, Result, Ok, Err, eqb}
use Rattle.rules.specs.Base.{when◌then◌else◌}
use Rattle.rules.specs.Load as rule
use Rattle.load.specs.declared.Loader.{Loader}
use Rattle.load.specs.declared.TooShort.{TooShort}
use Rattle.load.specs.declared.bytes.Refusal.{Refusal}
use Rattle.load.specs.declared.bytes.Refusal.TheVariants.{Malformed, TooLarge}

-- the numbers, one by one
abbrev pub loader_of : Loader → rule.Loader
loader_of l = record {
  most_cells = l.most_cells;
  most_spans = l.most_spans;
  kind = l.kind;
  got = l.got;
  start = l.start;
  received = l.received;
  w = l.w;
  h = l.h;
  border = l.border;
  least = l.least;
  merge = l.merge;
  cells = l.cells;
  spans = l.spans;
  due = l.due;
  refusal = l.refusal;
  position = l.position;
  ended = l.ended;
}

-- with the lists that it is lent
abbrev pub loading : Loader → List ℕ → List ℕ → List ℕ → List ℕ → rule.Loading
loading l index count area con = record { loader = loader_of l; index = index; count = count; area = area; con = con }

-- the number of a file's refusal
abbrev pub number_of : Refusal → ℕ
number_of Malformed = 20
number_of TooLarge = 21

-- the refusal of a call itself
abbrev pub piece_refused_by : Result Loader TooShort → ℕ
piece_refused_by (Ok l) = 0
piece_refused_by (Err e) = 3

-- the loader after a call
abbrev pub loader_after : Loader → Result Loader TooShort → Loader
loader_after l (Ok m) = m
loader_after l (Err e) = l

-- the end, of a loader that is going
unfoldable pub ended_by : rule.Loader → rule.Loader
ended_by l = when eqb l.kind 4 then rule.closed l else rule.refusing 20 l.received l
