-- The calls from end to end: begin, any pieces, end tell what reading the joined bytes as one file comes to; after a refusal of the file or after an end each further
-- call gives the same answer and changes nothing. All of it is read off the promises of the calls, for lists of any length and whatever the lists held.
use Prim.Native.Nat.{ℕ, zero, suc, ◌+◌, ◌*◌, ◌<◌}
use native.Mathlib.Omega.{arith}
use native.Mathlib.Decide.{ℕ_discrete}
use mathlib.Core.Path.{◌≡◌, refl, sym, ap, ◌∙◌}
use mathlib.Core.Bool.{true, false}
use mathlib.Core.List.{List, [], ◌∷◌, ◌++◌}
use mathlib.Core.Logic.{◌⊎◌, inl, inr}
use lib.ListN.{length, get_or, replicate}
use lib.Dec.{leb, eqb}
use borrow.Author.Tests.{eq-eqb, ne_eqb, le-leb, leb-true}
use Rattle.rules.specs.Base.{◌and◌, when◌then◌else◌}
use Rattle.rules.specs.File.{Level}
use Rattle.rules.specs.Load as rule
use Rattle.rules.specs.Load.{Placed, refused_at, describes, read_file_at, Loading, load_begin, load_end, load_piece, piece_refusal, going, roomy, feed, with, told, told_by, refused_told}
use Rattle.laws.proofs.Basics.{both}
use Rattle.load.specs.Into.{numbers_of, loader_in, position_of, left, refused3, loading_in, Outcome, PieceOutcome, begin_outcome, end_outcome, Given, GivenPiece}
use Rattle.load.specs.Calls.{Held, Room, BeginCall, PieceCall, EndCall, PieceCalls, none, more, Calls, stay, piece, end, told_in}
use Rattle.load.specs.declared.into.LoadAnswer.{LoadAnswer}
use Rattle.load.proofs.Pieces.{in_pieces, joined, roomy_is, loads, room_stays, end_ends}
use Rattle.load.proofs.Stored.{loader_written}
use Rattle.load.proofs.Loads.{tell, pieces_tell}
use Rattle.load.proofs.Ended.{piece_ended, begin_not-ended, answered_0}
use Rattle.load.proofs.Exact.{told_exactly, position_exact, last_of, Ends, file_ends}
use Rattle.load.proofs.OneAnswer.{answers_same, numbers_17, written-loading, left_by_lem, call_odd, call_short, call_taken, same_answer, call_changes_nothing, end_call_changes_nothing}

-- the loading that a caller holds
abbrev pub held : Held → Loading
held x = loading_in x.numbers x.index x.count x.area x.con

-- ---------------------------------------------------------------- a call with a piece

-- what a call that is not refused 3 leaves is the rule's loading
from_left : (Y : Loading) (r : LoadAnswer) (ns i c a o : List ℕ) → GivenPiece (left_by_lem Y) r ns i c a o → loading_in ns i c a o ≡ Y
unfolding left_by_lem left
from_left Y r ns i c a o g = rw (g.said.numbers, g.indices, g.counts, g.areas, g.cons) (written-loading Y)

left_17 : (Y : Loading) (r : LoadAnswer) (ns i c a o : List ℕ) → GivenPiece (left_by_lem Y) r ns i c a o → length ns ≡ 17
unfolding left_by_lem left
left_17 Y r ns i c a o g = rw g.said.numbers (numbers_17 Y.loader)

-- what was given, where the outcome is another's
piece_as : (o o' : PieceOutcome) (r : LoadAnswer) (ns i c a v : List ℕ) → o ≡ o' → GivenPiece o r ns i c a v → GivenPiece o' r ns i c a v
piece_as o o' r ns i c a v e g = rw (← e) g

given_as : (o o' : Outcome) (r : LoadAnswer) (ns : List ℕ) → o ≡ o' → Given o r ns → Given o' r ns
given_as o o' r ns e g = rw (← e) g

-- a call with a piece that has its 17 numbers and room
record Went (p : List ℕ) (x y : Held) : Type 0 where
  loads : held y ≡ load_piece p (held x)
  right : length y.numbers ≡ 17

went : (p : List ℕ) (x y : Held) (r : LoadAnswer) → PieceCall p x r y → length x.numbers ≡ 17 → piece_refusal (held x) ≡ 0 → Went p x y
went p x y r k e f =
    let g = piece_as _ _ r _ _ _ _ _ (call_taken x.numbers x.index x.count x.area x.con p e f) k.given in
    record { loads = from_left (load_piece p (held x)) r _ _ _ _ _ g; right = left_17 (load_piece p (held x)) r _ _ _ _ _ g }

went_room : (p : List ℕ) (x y : Held) → Went p x y → piece_refusal (held x) ≡ 0 → piece_refusal (held y) ≡ 0
went_room p x y w f = ap piece_refusal (w.loads ∙ loads p (held x) f) ∙ room_stays p (held x) f

-- the pieces one after the other
record AllWent (ps : List (List ℕ)) (x y : Held) : Type 0 where
  loads : held y ≡ in_pieces ps (held x)
  right : length y.numbers ≡ 17

all_went : {ps : List (List ℕ)} {x y : Held} → PieceCalls ps x y → length x.numbers ≡ 17 → piece_refusal (held x) ≡ 0 → AllWent ps x y
unfolding in_pieces
all_went none e f = record { loads = refl; right = e }
all_went (more {p = p} {ps = ps} {x = x} {y = y} {z = z} r k ks) e f =
    let w = went p x y r k e f in
    let v = all_went ks w.right (went_room p x y w f) in
    record { loads = v.loads ∙ ap (in_pieces ps) w.loads; right = v.right }

-- without room a call with a piece is refused 3 and changes nothing
held_same : (x y : Held) → y.numbers ≡ x.numbers → y.index ≡ x.index → y.count ≡ x.count → y.area ≡ x.area → y.con ≡ x.con → y ≡ x
held_same x y a b c d e = rw (a, b, c, d, e)

-- a call refused 3: that answer, and nothing is changed
pub record Refused3 (x : Held) (r : LoadAnswer) (y : Held) : Type 0 where
  pub refusal : r.refusal ≡ 3
  pub position : r.position ≡ 0
  pub same : y ≡ x

was : Held → PieceOutcome
was x = record { said = refused3 x.numbers; index = x.index; count = x.count; area = x.area; con = x.con }

as_it_was : (x y : Held) (r : LoadAnswer) → GivenPiece (was x) r y.numbers y.index y.count y.area y.con → Refused3 x r y
unfolding was refused3
as_it_was x y r g = record { refusal = g.said.refusal; position = g.said.position; same = held_same x y g.said.numbers g.indices g.counts g.areas g.cons }

-- a loader of another length than 17 is told by each call
pub piece_odd : (p : List ℕ) (x y : Held) (r : LoadAnswer) → PieceCall p x r y → (length x.numbers ≡ 17 → ⊥) → Refused3 x r y
unfolding was
piece_odd p x y r k n = as_it_was x y r (piece_as _ _ r _ _ _ _ _ (call_odd x.numbers x.index x.count x.area x.con p n) k.given)

-- a list that is too short is told by each call with a piece too
pub piece_short : (p : List ℕ) (x y : Held) (r : LoadAnswer) → PieceCall p x r y → (piece_refusal (held x) ≡ 0 → ⊥) → Refused3 x r y
unfolding was
piece_short p x y r k f =
    elim (ℕ_discrete (length x.numbers) 17) [
      | yes e ↦ as_it_was x y r (piece_as _ _ r _ _ _ _ _ (call_short x.numbers x.index x.count x.area x.con p e f) k.given)
      | no n ↦ piece_odd p x y r k n
    ]

all_short : {ps : List (List ℕ)} {x y : Held} → PieceCalls ps x y → (piece_refusal (held x) ≡ 0 → ⊥) → y ≡ x
all_short none f = refl
all_short (more {p = p} {x = x} {y = y} r k ks) f =
    let t = (piece_short p x y r k f).same in
    all_short ks (λ e. f (ap (λ (u : Held). piece_refusal (held u)) (sym t) ∙ e)) ∙ t

-- ---------------------------------------------------------------- begin and end

begun : ℕ → ℕ → Held → Loading
begun cells spans x = record { loader = load_begin cells spans; index = x.index; count = x.count; area = x.area; con = x.con }

begin_right : (cells spans : ℕ) (ns : List ℕ) → length ns ≡ 17 → begin_outcome cells spans ns ≡ left (load_begin cells spans)
unfolding begin_outcome when◌then◌else◌
begin_right cells spans ns e = rw (eq-eqb (length ns) 17 e)

end-right : (ns : List ℕ) → length ns ≡ 17 → end_outcome ns ≡ left (load_end (loader_in ns))
unfolding end_outcome when◌then◌else◌
end-right ns e = rw (eq-eqb (length ns) 17 e)

left_numbers : (l : rule.Loader) (r : LoadAnswer) (ns : List ℕ) → Given (left l) r ns → ns ≡ numbers_of l
unfolding left
left_numbers l r ns g = g.numbers

left_said : (l : rule.Loader) (r : LoadAnswer) (ns : List ℕ) → Given (left l) r ns → (r.refusal ≡ l.refusal) × (r.position ≡ position_of l)
unfolding left
left_said l r ns g = (g.refusal, g.position)

loading_of : (l : rule.Loader) (ns i c a o : List ℕ) → ns ≡ numbers_of l → loading_in ns i c a o ≡ record { loader = l; index = i; count = c; area = a; con = o }
unfolding loading_in
loading_of l ns i c a o e = rw (e, loader_written l)

record Began (cells spans : ℕ) (x y : Held) : Type 0 where
  begins : held y ≡ begun cells spans x
  right : length y.numbers ≡ 17

lists_as : (l : rule.Loader) (i c a o i' c' a' o' : List ℕ) → i ≡ i' → c ≡ c' → a ≡ a' → o ≡ o'
    → ◌≡◌ {A = Loading} (record { loader = l; index = i; count = c; area = a; con = o }) (record { loader = l; index = i'; count = c'; area = a'; con = o' })
lists_as l i c a o i' c' a' o' p q s t = rw (p, q, s, t)

began : (cells spans : ℕ) (x y : Held) (r : LoadAnswer) → BeginCall cells spans x r y → length x.numbers ≡ 17 → Began cells spans x y
unfolding begun
began cells spans x y r k e =
    let g = left_numbers _ r y.numbers (given_as _ _ r y.numbers (begin_right cells spans x.numbers e) k.given) in
    record {
      begins = loading_of (load_begin cells spans) y.numbers y.index y.count y.area y.con g ∙ lists_as _ _ _ _ _ _ _ _ _ k.indices k.counts k.areas k.cons;
      right = ap length g ∙ numbers_17 (load_begin cells spans);
    }

-- the answer and the numbers say what the loader says
told_by_lem : (l : rule.Loader) (r : LoadAnswer) (ns i c a o : List ℕ) → ns ≡ numbers_of l → r.refusal ≡ l.refusal → r.position ≡ position_of l
    → told_in r (record { numbers = ns; index = i; count = c; area = a; con = o }) ≡ told (record { loader = l; index = i; count = c; area = a; con = o })
unfolding told_in told numbers_of position_of when◌then◌else◌
told_by_lem l r ns i c a o e f g =
    elim (ℕ_discrete l.refusal 0) [
      | yes q ↦
          let t : eqb r.refusal 0 ≡ true = eq-eqb r.refusal 0 (f ∙ q) in
          rw (e, t, eq-eqb l.refusal 0 q) refl
      | no n ↦
          let t : eqb r.refusal 0 ≡ false = ne_eqb r.refusal 0 (λ q. n (sym f ∙ q)) in
          let u : r.position ≡ l.position = (rw (ne_eqb l.refusal 0 n) at g) in
          rw (t, ne_eqb l.refusal 0 n, f, u) refl
    ]

-- an end tells what the rule tells of the loading that was held
end_tells : (x y : Held) (r : LoadAnswer) → EndCall x r y → length x.numbers ≡ 17 → told_in r y ≡ tell [] (held x)
unfolding tell feed with loading_in
end_tells x y r k e =
    let l = load_end (loader_in x.numbers) in
    let g = given_as _ _ r y.numbers (end-right x.numbers e) k.given in
    let s = left_said l r y.numbers g in
    told_by_lem l r y.numbers y.index y.count y.area y.con (left_numbers l r y.numbers g) s.0 s.1
    ∙ ap told (lists_as l _ _ _ _ _ _ _ _ k.indices k.counts k.areas k.cons)

-- ---------------------------------------------------------------- bytes, joined

append_bytes : (xs ys : List ℕ) → ((i : ℕ) → get_or xs i 0 < 256) → ((i : ℕ) → get_or ys i 0 < 256) → (i : ℕ) → get_or (xs ++ ys) i 0 < 256
append_bytes [] ys f g i = g i
append_bytes (x ∷ xs) ys f g zero = f 0
append_bytes (x ∷ xs) ys f g (suc i) = append_bytes xs ys (λ j. f (suc j)) g i

joined_bytes : {ps : List (List ℕ)} {x y : Held} → PieceCalls ps x y → (i : ℕ) → get_or (joined ps) i 0 < 256
unfolding joined
joined_bytes none i = omega arith
joined_bytes (more {p = p} {ps = ps} r k ks) i = append_bytes p (joined ps) k.bytes.small (joined_bytes ks) i

-- ---------------------------------------------------------------- from end to end

room_begun : (cells spans : ℕ) (x : Held) → Room cells spans x → piece_refusal (begun cells spans x) ≡ 0
unfolding begun piece_refusal going roomy load_begin when◌then◌else◌ ◌and◌
room_begun cells spans x m =
    rw (le-leb cells (length x.index) m.indices, le-leb cells (length x.count) m.counts, le-leb spans (length x.area) m.areas, le-leb (4 * spans) (length x.con) m.cons) refl

begun_room : (cells spans : ℕ) (x : Held) → piece_refusal (begun cells spans x) ≡ 0 → Room cells spans x
unfolding begun piece_refusal going roomy load_begin when◌then◌else◌ ◌and◌
begun_room cells spans x e =
    let b = roomy_is (leb cells (length x.index) and leb cells (length x.count) and leb spans (length x.area) and leb (4 * spans) (length x.con)) e in
    let b₁ = both _ _ b in
    let b₂ = both _ _ b₁.0 in
    let b₃ = both _ _ b₂.0 in
    record { indices = leb-true _ _ b₃.0; counts = leb-true _ _ b₃.1; areas = leb-true _ _ b₂.1; cons = leb-true _ _ b₁.1 }

nothing-loaded : (cells spans : ℕ) (x : Held) → tell [] (begun cells spans x) ≡ refused_told 20 0 x.index x.count x.area x.con
unfolding begun tell feed load_begin load_end going rule.refusing with told when◌then◌else◌ ◌and◌
nothing-loaded cells spans x = refl

-- the loader's last number is whether the end was declared
last_number : (x : Held) → (held x).loader.ended ≡ get_or x.numbers 16 0
unfolding loading_in loader_in
last_number x = refl

piece_not_declared : (p : List ℕ) (x y : Held) (r : LoadAnswer) → PieceCall p x r y → get_or y.numbers 16 0 ≡ get_or x.numbers 16 0
piece_not_declared p x y r k =
    elim (ℕ_discrete (piece_refusal (held x)) 0) [
      | yes f ↦
          elim (ℕ_discrete (length x.numbers) 17) [
            | yes e ↦ sym (last_number y) ∙ ap (λ (u : Loading). u.loader.ended) (went p x y r k e f).loads ∙ piece_ended p (held x) ∙ last_number x
            | no n ↦ ap (λ (u : Held). get_or u.numbers 16 0) (piece_odd p x y r k n).same
          ]
      | no n ↦ ap (λ (u : Held). get_or u.numbers 16 0) (piece_short p x y r k n).same
    ]

pieces_not_declared : {ps : List (List ℕ)} {x y : Held} → PieceCalls ps x y → get_or y.numbers 16 0 ≡ get_or x.numbers 16 0
pieces_not_declared none = refl
pieces_not_declared (more {p = p} {x = x} {y = y} r k ks) = pieces_not_declared ks ∙ piece_not_declared p x y r k

begin_not_declared : (cells spans : ℕ) (x y : Held) (r : LoadAnswer) → BeginCall cells spans x r y → length x.numbers ≡ 17 → get_or y.numbers 16 0 ≡ 0
unfolding begun
begin_not_declared cells spans x y r k e =
    sym (last_number y) ∙ ap (λ (u : Loading). u.loader.ended) (began cells spans x y r k e).begins ∙ begin_not-ended cells spans

pieces_17 : {ps : List (List ℕ)} {x y : Held} → PieceCalls ps x y → length x.numbers ≡ 17 → length y.numbers ≡ 17
pieces_17 none e = e
pieces_17 (more {p = p} {x = x} {y = y} r k ks) e =
    pieces_17 ks (elim (ℕ_discrete (piece_refusal (held x)) 0) [
      | yes f ↦ (went p x y r k e f).right
      | no n ↦ ap (λ (u : Held). length u.numbers) (piece_short p x y r k n).same ∙ e
    ])

end_declares : (x y : Held) (r : LoadAnswer) → EndCall x r y → length x.numbers ≡ 17 → get_or x.numbers 16 0 ≡ 0 → r.refusal ≡ 0 → get_or y.numbers 16 0 ≡ 1
unfolding numbers_of loader_in
end_declares x y r k e f h =
    let l = loader_in x.numbers in
    let g = given_as _ _ r y.numbers (end-right x.numbers e) k.given in
    let a = answered_0 l f (sym (left_said (load_end l) r y.numbers g).0 ∙ h) in
    ap (λ (ns : List ℕ). get_or ns 16 0) (left_numbers (load_end l) r y.numbers g) ∙ a.1

-- an answer 0 tells no refusal
loaded-not_refused : (r : LoadAnswer) (x : Held) (n p : ℕ) (i c a o : List ℕ) → r.refusal ≡ 0 → told_in r x ≡ refused_told n p i c a o → ⊥
unfolding told_in when◌then◌else◌
loaded-not_refused r x n p i c a o e t =
    let u = (rw (eq-eqb r.refusal 0 e) at t) in
    let z : ◌≡◌ {A = ℕ} 0 1 = cc in
    omega arith

-- a whole file: the end is declared, the last byte is the end record, and the file describes a level
pub record Complete (cells spans : ℕ) (file : List ℕ) (x : Held) : Type 0 where
  pub declared : get_or x.numbers 16 0 ≡ 1
  pub last : last_of file ≡ 4
  pub level : Level
  pub whole : read_file_at cells spans file ≡ describes level

complete_by : (cells spans : ℕ) (file : List ℕ) (r : LoadAnswer) (x : Held) (i c a o : List ℕ) (t : Placed) → read_file_at cells spans file ≡ t → Ends file t → r.refusal ≡ 0
    → told_in r x ≡ told_by i c a o t → get_or x.numbers 16 0 ≡ 1 → Complete cells spans file x
unfolding told_by Ends
complete_by cells spans file r x i c a o (refused_at n p F) e f g h d = absurd (loaded-not_refused r x n _ _ _ _ _ g h)
complete_by cells spans file r x i c a o (describes L) e f g h d = record { declared = d; last = f; level = L; whole = e }

-- x is what the caller holds before the begin, x₁ after it, x₂ after the pieces and x₃ after the end, which answers r
module _ (cells spans : ℕ) (ps : List (List ℕ)) (x x₁ x₂ x₃ : Held) (r₁ r : LoadAnswer) (right : length x.numbers ≡ 17)
    (begins : BeginCall cells spans x r₁ x₁) (pieces : PieceCalls ps x₁ x₂) (ends : EndCall x₂ r x₃) where
  abbrev file : List ℕ
  file = joined ps

  start : Began cells spans x x₁
  start = began cells spans x x₁ r₁ begins right

  -- "However it is cut, the field, the refusal and the byte position of the refusal are those of the whole file."
  pub calls_tell : Room cells spans x → told_in r x₃ ≡ told_by x.index x.count x.area x.con (read_file_at cells spans file)
  unfolding begun
  calls_tell m =
      let f : piece_refusal (held x₁) ≡ 0 = ap piece_refusal start.begins ∙ room_begun cells spans x m in
      let w = all_went pieces start.right f in
      let b = begins.limits in
      end_tells x₂ x₃ r ends w.right ∙ ap (tell []) (w.loads ∙ ap (in_pieces ps) start.begins)
      ∙ pieces_tell cells spans x.index x.count x.area x.con b.cells b.spans m.indices m.counts m.areas m.cons ps (joined_bytes pieces)

  -- with the position as it is
  pub calls_tell_exactly : Room cells spans x → 12 + 2 * cells + 6 * spans < 4294967295
      → told_in r x₃ ≡ told_exactly x.index x.count x.area x.con (read_file_at cells spans file)
  calls_tell_exactly m h = calls_tell m ∙ position_exact cells spans file x.index x.count x.area x.con h

  -- lists without room: every call with a piece was refused 3 and changed nothing, so the end finds a file without bytes
  pub calls_without_room : (Room cells spans x → ⊥) → told_in r x₃ ≡ refused_told 20 0 x.index x.count x.area x.con
  calls_without_room n =
      let f : piece_refusal (held x₁) ≡ 0 → ⊥ = λ e. n (begun_room cells spans x (ap piece_refusal (sym start.begins) ∙ e)) in
      let q : x₂ ≡ x₁ = all_short pieces f in
      end_tells x₂ x₃ r ends (ap (λ (u : Held). length u.numbers) q ∙ start.right)
      ∙ ap (λ (u : Held). tell [] (held u)) q ∙ ap (tell []) start.begins ∙ nothing-loaded cells spans x

  -- ---------------------------------------------------------------- "A file is complete only when its end is declared."

  -- until then the loader's number for it, the last, is 0
  pub not_declared_yet : get_or x₂.numbers 16 0 ≡ 0
  not_declared_yet = pieces_not_declared pieces ∙ begin_not_declared cells spans x x₁ r₁ begins right

  -- and an end that is answered 0 declares it: the joined bytes are a whole file, whose last byte is the end record
  pub answered_0_is_complete : r.refusal ≡ 0 → Complete cells spans file x₃
  answered_0_is_complete e =
      elim (ℕ_discrete (piece_refusal (begun cells spans x)) 0) [
        | yes f ↦ complete_by cells spans file r x₃ _ _ _ _ _ refl (file_ends cells spans file) e (calls_tell (begun_room cells spans x f))
            (end_declares x₂ x₃ r ends (pieces_17 pieces start.right) not_declared_yet e)
        | no n ↦ absurd (loaded-not_refused r x₃ 20 0 _ _ _ _ e (calls_without_room (λ m. n (room_begun cells spans x m))))
      ]

-- ---------------------------------------------------------------- "After a refusal or a declared end every further call gets the same answer and changes nothing."

-- the loader's numbers as a call left them that answered r, where no call changes them any more: refused or ended, or no loader at all
data Still (r : LoadAnswer) (ns : List ℕ) : Type 0 where
  over : length ns ≡ 17 → going (loader_in ns) ≡ false → r.refusal ≡ (loader_in ns).refusal → r.position ≡ position_of (loader_in ns) → Still r ns
  odd : (length ns ≡ 17 → ⊥) → r.refusal ≡ 3 → r.position ≡ 0 → Still r ns

-- what every further call does, whatever lists it is lent
pub record Same (r : LoadAnswer) (x : Held) (r' : LoadAnswer) (y : Held) : Type 0 where
  pub answer : r' ≡ r
  pub nothing : y ≡ x

said_same : (ns : List ℕ) (right : length ns ≡ 17) (o : going (loader_in ns) ≡ false) (r r' : LoadAnswer) (ms : List ℕ) → r.refusal ≡ (loader_in ns).refusal
    → r.position ≡ position_of (loader_in ns) → Given (same_answer ns right o) r' ms → (r' ≡ r) × (ms ≡ ns)
unfolding same_answer
said_same ns right o r r' ms e f g = (answers_same r' r (g.refusal ∙ sym e) (g.position ∙ sym f), g.numbers)

still_piece : (r : LoadAnswer) (p : List ℕ) (x y : Held) (r' : LoadAnswer) → Still r x.numbers → PieceCall p x r' y → Same r x r' y
still_piece r p x y r' (over e o a b) k =
    let g = piece_as _ _ r' _ _ _ _ _ (call_changes_nothing x.numbers e o p x.index x.count x.area x.con) k.given in
    let s = said_same x.numbers e o r r' y.numbers a b g.said in
    record { answer = s.0; nothing = held_same x y s.1 g.indices g.counts g.areas g.cons }
still_piece r p x y r' (odd n a b) k =
    let t = piece_odd p x y r' k n in
    record { answer = answers_same r' r (t.refusal ∙ sym a) (t.position ∙ sym b); nothing = t.same }

end_odd : (ns : List ℕ) → (length ns ≡ 17 → ⊥) → end_outcome ns ≡ refused3 ns
unfolding end_outcome when◌then◌else◌
end_odd ns n = rw (ne_eqb (length ns) 17 n)

given_3 : (ns : List ℕ) (r : LoadAnswer) (ms : List ℕ) → Given (refused3 ns) r ms → (r.refusal ≡ 3) × (r.position ≡ 0) × (ms ≡ ns)
unfolding refused3
given_3 ns r ms g = (g.refusal, g.position, g.numbers)

still_end : (r : LoadAnswer) (x y : Held) (r' : LoadAnswer) → Still r x.numbers → EndCall x r' y → Same r x r' y
still_end r x y r' (over e o a b) k =
    let s = said_same x.numbers e o r r' y.numbers a b (given_as _ _ r' _ (end_call_changes_nothing x.numbers e o) k.given) in
    record { answer = s.0; nothing = held_same x y s.1 k.indices k.counts k.areas k.cons }
still_end r x y r' (odd n a b) k =
    let s = given_3 x.numbers r' y.numbers (given_as _ _ r' _ (end_odd x.numbers n) k.given) in
    record { answer = answers_same r' r (s.0 ∙ sym a) (s.1 ∙ sym b); nothing = held_same x y s.2 k.indices k.counts k.areas k.cons }

-- any further calls, one after the other
still_calls : (r : LoadAnswer) {x y : Held} {rs : List LoadAnswer} → Calls x rs y → Still r x.numbers → (rs ≡ replicate (length rs) r) × (y ≡ x)
still_calls r stay s = (refl, refl)
still_calls r (piece {p = p} {x = x} {y = y} {r = r'} {rs = rs} k ks) s =
    let t = still_piece r p x y r' s k in
    let u = still_calls r ks (rw t.nothing s) in
    (rw (t.answer, ← u.0) refl, u.1 ∙ t.nothing)
still_calls r (end {x = x} {y = y} {r = r'} {rs = rs} k ks) s =
    let t = still_end r x y r' s k in
    let u = still_calls r ks (rw t.nothing s) in
    (rw (t.answer, ← u.0) refl, u.1 ∙ t.nothing)

refused_stops : (l : rule.Loader) → (l.refusal ≡ 0 → ⊥) → going l ≡ false
unfolding going ◌and◌
refused_stops l n = rw (ne_eqb l.refusal 0 n)

still_left : (l : rule.Loader) (r : LoadAnswer) (ns : List ℕ) → Given (left l) r ns → going l ≡ false → Still r ns
still_left l r ns g o =
    let e = left_numbers l r ns g in
    let s = left_said l r ns g in
    let q : loader_in ns ≡ l = ap loader_in e ∙ loader_written l in
    over (ap length e ∙ numbers_17 l) (ap going q ∙ o) (s.0 ∙ ap (λ (m : rule.Loader). m.refusal) (sym q)) (s.1 ∙ ap position_of (sym q))

left_given : (Y : Loading) (r : LoadAnswer) (ns i c a o : List ℕ) → GivenPiece (left_by_lem Y) r ns i c a o → Given (left Y.loader) r ns
unfolding left_by_lem
left_given Y r ns i c a o g = g.said

piece_still : (p : List ℕ) (x y : Held) (r : LoadAnswer) → PieceCall p x r y → (r.refusal ≡ 0 → ⊥) → (r.refusal ≡ 3 → ⊥) → Still r y.numbers
piece_still p x y r k n m =
    elim (ℕ_discrete (piece_refusal (held x)) 0) [
      | yes f ↦
          elim (ℕ_discrete (length x.numbers) 17) [
            | yes e ↦
                let Y = load_piece p (held x) in
                let g = left_given Y r y.numbers _ _ _ _ (piece_as _ _ r _ _ _ _ _ (call_taken x.numbers x.index x.count x.area x.con p e f) k.given) in
                still_left Y.loader r y.numbers g (refused_stops Y.loader (λ q. n ((left_said Y.loader r y.numbers g).0 ∙ q)))
            | no q ↦ absurd (m (piece_odd p x y r k q).refusal)
          ]
      | no q ↦ absurd (m (piece_short p x y r k q).refusal)
    ]

end_still : (x y : Held) (r : LoadAnswer) → EndCall x r y → Still r y.numbers
end_still x y r k =
    elim (ℕ_discrete (length x.numbers) 17) [
      | yes e ↦ still_left (load_end (loader_in x.numbers)) r y.numbers (given_as _ _ r _ (end-right x.numbers e) k.given) (end_ends (loader_in x.numbers))
      | no n ↦
          let s = given_3 x.numbers r y.numbers (given_as _ _ r _ (end_odd x.numbers n) k.given) in
          odd (λ q. n (ap length (sym s.2) ∙ q)) s.0 s.1
    ]

file_refusal : (n : ℕ) → (n ≡ 20) ⊎ (n ≡ 21) → (n ≡ 0 → ⊥) × (n ≡ 3 → ⊥)
file_refusal n (inl e) = ((λ q. omega arith), (λ q. omega arith))
file_refusal n (inr e) = ((λ q. omega arith), (λ q. omega arith))

-- after a call with a piece that said 20 or 21: every further call, in any order, gives that answer, and numbers and lists stay
pub after_a_refusal : (p : List ℕ) (x y z : Held) (r : LoadAnswer) (rs : List LoadAnswer) → PieceCall p x r y → (r.refusal ≡ 20) ⊎ (r.refusal ≡ 21) → Calls y rs z
    → (rs ≡ replicate (length rs) r) × (z ≡ y)
after_a_refusal p x y z r rs k h ks = let f = file_refusal r.refusal h in still_calls r ks (piece_still p x y r k f.0 f.1)

-- after an end, whatever it said
pub after_an_end : (x y z : Held) (r : LoadAnswer) (rs : List LoadAnswer) → EndCall x r y → Calls y rs z → (rs ≡ replicate (length rs) r) × (z ≡ y)
after_an_end x y z r rs k ks = still_calls r ks (end_still x y r k)

-- and so where a further call is lent other lists, of any length: they are not touched
pub other_lists_after_a_refusal : (p q : List ℕ) (x y x' y' : Held) (r r' : LoadAnswer) → PieceCall p x r y → (r.refusal ≡ 20) ⊎ (r.refusal ≡ 21) → x'.numbers ≡ y.numbers
    → PieceCall q x' r' y' → Same r x' r' y'
other_lists_after_a_refusal p q x y x' y' r r' k h e k' = let f = file_refusal r.refusal h in still_piece r q x' y' r' (rw e (piece_still p x y r k f.0 f.1)) k'

pub other_lists_after_an_end : (q : List ℕ) (x y x' y' : Held) (r r' : LoadAnswer) → EndCall x r y → x'.numbers ≡ y.numbers → PieceCall q x' r' y' → Same r x' r' y'
other_lists_after_an_end q x y x' y' r r' k e k' = still_piece r q x' y' r' (rw e (end_still x y r k)) k'
