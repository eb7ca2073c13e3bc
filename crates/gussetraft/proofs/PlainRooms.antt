-- The answer of plain rooms, taken apart into numbers, is the outcome; and two results that satisfy the promise coincide: it is an equation for each
-- number and for each lent list at exit. Assumes nothing.
use Prim.Native.Nat.{ℕ}
use mathlib.Core.Path.{◌≡◌, sym, ap, ◌∙◌}
use mathlib.Core.List.{List}
use Rattle.rules.specs.Field.{Field}
use Rattle.rules.specs.Plain.{RoomsOutcome}
use Rattle.std.specs.Prelude.{Result}
use Rattle.checker.specs.declared.Refusal.{Refusal}
use Rattle.plain.specs.Answer.{rooms_refused_by, rooms_most_in, outcome, GivesPlainRooms}
use Rattle.gussetraft.specs.declared.roomids.Rooms.{Rooms}
use Rattle.gussetraft.specs.PlainRooms.{GivesRooms, LeavesPlainRooms}

pub gives_rooms : (o : RoomsOutcome) (a : Result ℕ Refusal) (r : Rooms) (ws ids : List ℕ) → outcome a ws ids ≡ o
    → r.refusal ≡ rooms_refused_by a → r.max_region ≡ rooms_most_in a → GivesRooms o r ws ids
gives_rooms o a r ws ids p e f =
    record {
      refusal = e ∙ ap (λ v. v.refused) p;
      most = f ∙ ap (λ v. v.most) p;
      cleared = ap (λ v. v.workspace) p;
      numbers = ap (λ v. v.ids) p;
    }

pub leaves-plain_rooms : (F : Field) (border : ℕ) (a : Result ℕ Refusal) (r : Rooms) (ids : List ℕ) → GivesPlainRooms F border a ids
    → r.refusal ≡ rooms_refused_by a → r.max_region ≡ rooms_most_in a → LeavesPlainRooms F border r ids
leaves-plain_rooms F border a r ids g e f = record { rooms = λ z. rw f (g.rooms (sym e ∙ z)) }

rooms_same : (a b : Rooms) → a.refusal ≡ b.refusal → a.max_region ≡ b.max_region → a ≡ b
rooms_same a b e f = rw (e, f)

-- `gussetraft_build_rooms`
pub one_rooms_answer : (o : RoomsOutcome) (a b : Rooms) (l m x y : List ℕ) → GivesRooms o a l m → GivesRooms o b x y → (a ≡ b) × (l ≡ x) × (m ≡ y)
one_rooms_answer o a b l m x y p q = (
  rooms_same a b (p.refusal ∙ sym q.refusal) (p.most ∙ sym q.most),
  p.cleared ∙ sym q.cleared,
  p.numbers ∙ sym q.numbers,
)
