-- The calls with the loader's numbers in a lent list of 17; another length is refused 3, and nothing changes.
use Rattle.std.specs.Prelude.{ℕ, ◌≡◌, List, [], ◌∷◌, length, get_or, eqb}
use Rattle.rules.specs.Base.{when◌then◌else◌}
use Rattle.rules.specs.Load.{Loader, Loading, load_begin, load_end, load_piece, piece_refusal}
use Rattle.load.specs.declared.into.LoadAnswer.{LoadAnswer}

-- the numbers of a loader, in order
unfoldable pub numbers_of : Loader → List ℕ
numbers_of l =
    l.most_cells ∷ l.most_spans ∷ l.kind ∷ l.got ∷ l.start ∷ l.received ∷ l.w ∷ l.h ∷ l.border ∷ l.least ∷ l.merge
    ∷ l.cells ∷ l.spans ∷ l.due ∷ l.refusal ∷ l.position ∷ l.ended ∷ []

-- the loader of these numbers
unfoldable pub loader_in : List ℕ → Loader
loader_in ns = record {
  most_cells = get_or ns 0 0;
  most_spans = get_or ns 1 0;
  kind = get_or ns 2 0;
  got = get_or ns 3 0;
  start = get_or ns 4 0;
  received = get_or ns 5 0;
  w = get_or ns 6 0;
  h = get_or ns 7 0;
  border = get_or ns 8 0;
  least = get_or ns 9 0;
  merge = get_or ns 10 0;
  cells = get_or ns 11 0;
  spans = get_or ns 12 0;
  due = get_or ns 13 0;
  refusal = get_or ns 14 0;
  position = get_or ns 15 0;
  ended = get_or ns 16 0;
}

-- the position that is told: 0 where nothing is refused
unfoldable pub position_of : Loader → ℕ
position_of l = when eqb l.refusal 0 then 0 else l.position

-- what a call gives and leaves: the refusal, its position and the loader's numbers
pub record Outcome : Type 0 where
  pub refusal : ℕ
  pub position : ℕ
  pub numbers : List ℕ

-- a loader as it is left
unfoldable pub left : Loader → Outcome
left l = record { refusal = l.refusal; position = position_of l; numbers = numbers_of l }

-- a call refused 3
unfoldable pub refused3 : List ℕ → Outcome
refused3 ns = record { refusal = 3; position = 0; numbers = ns }

unfoldable pub begin_outcome : ℕ → ℕ → List ℕ → Outcome
begin_outcome cells spans ns = when eqb (length ns) 17 then left (load_begin cells spans) else refused3 ns

unfoldable pub end_outcome : List ℕ → Outcome
end_outcome ns = when eqb (length ns) 17 then left (load_end (loader_in ns)) else refused3 ns

-- a call with a piece: the loading that it is lent
unfoldable pub loading_in : List ℕ → List ℕ → List ℕ → List ℕ → List ℕ → Loading
loading_in ns index count area con = record { loader = loader_in ns; index = index; count = count; area = area; con = con }

-- and what it leaves: with the lists
pub record PieceOutcome : Type 0 where
  pub said : Outcome
  pub index : List ℕ
  pub count : List ℕ
  pub area : List ℕ
  pub con : List ℕ

-- the loader's numbers are those of the rule's loading, or, where the call is refused, what they were
unfoldable pub piece_outcome : List ℕ → List ℕ → List ℕ → List ℕ → List ℕ → List ℕ → PieceOutcome
piece_outcome piece ns index count area con =
    let x = loading_in ns index count area con in
    let y = load_piece piece x in
    when eqb (length ns) 17 then
    (when eqb (piece_refusal x) 0 then record { said = left y.loader; index = y.index; count = y.count; area = y.area; con = y.con }
    else record { said = refused3 ns; index = index; count = count; area = area; con = con })
    else record { said = refused3 ns; index = index; count = count; area = area; con = con }

-- the promises: each number is the outcome's, and so is each list at exit
pub record Given (o : Outcome) (r : LoadAnswer) (ns : List ℕ) : Type 0 where
  pub refusal : r.refusal ≡ o.refusal
  pub position : r.position ≡ o.position
  pub numbers : ns ≡ o.numbers

pub record GivenPiece (o : PieceOutcome) (r : LoadAnswer) (ns index count area con : List ℕ) : Type 0 where
  pub said : Given o.said r ns
  pub indices : index ≡ o.index
  pub counts : count ≡ o.count
  pub areas : area ≡ o.area
  pub cons : con ≡ o.con
