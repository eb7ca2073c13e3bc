-- A loading as its caller sees it: calls one after the other, each lent what the one before it left. They are related by the promises of the calls alone, so what
-- is proved of them holds of whatever the calls return and leave.
use Rattle.std.specs.Prelude.{ℕ, ◌*◌, ◌≤◌, ◌<◌, ◌≡◌, List, [], ◌∷◌, length, get_or, eqb}
use Rattle.rules.specs.Base.{when◌then◌else◌}
use Rattle.rules.specs.Outcomes.{Sizes}
use Rattle.rules.specs.Load.{Told, refused_told, loaded_told}
use Rattle.load.specs.declared.into.LoadAnswer.{LoadAnswer}
use Rattle.load.specs.Into.{begin_outcome, piece_outcome, end_outcome, Given, GivenPiece}

-- a list of bytes
pub record AllBytes (l : List ℕ) : Type 0 where
  pub small : (i : ℕ) → get_or l i 0 < 256

-- numbers of 32 bits
pub record Limits (M N : ℕ) : Type 0 where
  pub cells : M ≤ 4294967295
  pub spans : N ≤ 4294967295

-- what a caller holds between two calls
pub record Held : Type 0 where
  pub numbers : List ℕ
  pub index : List ℕ
  pub count : List ℕ
  pub area : List ℕ
  pub con : List ℕ

-- lists that take a field of so many cells and spans
pub record Room (M N : ℕ) (x : Held) : Type 0 where
  pub indices : M ≤ length x.index
  pub counts : M ≤ length x.count
  pub areas : N ≤ length x.area
  pub cons : 4 * N ≤ length x.con

-- a begin for so many cells and spans, that answered r and left y: the lists are not lent
pub record BeginCall (cells spans : ℕ) (x : Held) (r : LoadAnswer) (y : Held) : Type 0 where
  pub given : Given (begin_outcome cells spans x.numbers) r y.numbers
  pub limits : Limits cells spans
  pub indices : y.index ≡ x.index
  pub counts : y.count ≡ x.count
  pub areas : y.area ≡ x.area
  pub cons : y.con ≡ x.con

-- a call with a piece
pub record PieceCall (piece : List ℕ) (x : Held) (r : LoadAnswer) (y : Held) : Type 0 where
  pub given : GivenPiece (piece_outcome piece x.numbers x.index x.count x.area x.con) r y.numbers y.index y.count y.area y.con
  pub bytes : AllBytes piece

-- an end
pub record EndCall (x : Held) (r : LoadAnswer) (y : Held) : Type 0 where
  pub given : Given (end_outcome x.numbers) r y.numbers
  pub indices : y.index ≡ x.index
  pub counts : y.count ≡ x.count
  pub areas : y.area ≡ x.area
  pub cons : y.con ≡ x.con

-- calls with these pieces, one after the other, whatever each answers
pub data PieceCalls : List (List ℕ) → Held → Held → Type 0 where
  none : {x : Held} → PieceCalls [] x x
  more : {p : List ℕ} {ps : List (List ℕ)} {x y z : Held} (r : LoadAnswer) → PieceCall p x r y → PieceCalls ps y z → PieceCalls (p ∷ ps) x z

-- calls with pieces and ends in any order, with what each answers
pub data Calls : Held → List LoadAnswer → Held → Type 0 where
  stay : {x : Held} → Calls x [] x
  piece : {p : List ℕ} {x y z : Held} {r : LoadAnswer} {rs : List LoadAnswer} → PieceCall p x r y → Calls y rs z → Calls x (r ∷ rs) z
  end : {x y z : Held} {r : LoadAnswer} {rs : List LoadAnswer} → EndCall x r y → Calls y rs z → Calls x (r ∷ rs) z

-- what a caller is told by an answer and by what it holds then: a refusal with its position, or the numbers of the field; and the lists
unfoldable pub told_in : LoadAnswer → Held → Told
told_in r x =
    let ns = x.numbers in
    let z : Sizes = record { border = get_or ns 8 0; least = get_or ns 9 0; merge = get_or ns 10 0 } in
    when eqb r.refusal 0 then loaded_told (get_or ns 6 0) (get_or ns 7 0) z (get_or ns 12 0) x.index x.count x.area x.con
    else refused_told r.refusal r.position x.index x.count x.area x.con
