-- "However it is cut": a piece cut in two is the two pieces, and any pieces are one; after a refusal or a declared end nothing changes.
-- A loader keeps its limits and the lists their lengths, so a call that had room still has it after a piece.
use Prim.Native.Nat.{ℕ, ◌*◌}
use native.Mathlib.Omega.{arith}
use mathlib.Core.Path.{◌≡◌, refl, sym, ap, ◌∙◌}
use mathlib.Core.Bool.{Bool, true, false}
use mathlib.Core.List.{List, [], ◌∷◌, ◌++◌}
use lib.ListN.{length, length-set}
use lib.Dec.{ltb, eqb}
use borrow.Author.Tests.{ne_eqb}
use native.Mathlib.Decide.{ℕ_discrete}
use Rattle.rules.specs.Base.{◌and◌, when◌then◌else◌}
use Rattle.rules.specs.Load.{Loader, Loading, going, refusing, onward, counted, wanted, kind_byte, sized, headed, header_byte, cell_on, cell_byte, span_on, span_byte, with}
use Rattle.rules.specs.Load.{taken, byte_in, feed, closed, load_end, roomy, piece_refusal, load_piece}
use Rattle.laws.proofs.Basics.{if-ind, both}

-- ---------------------------------------------------------------- bytes

-- a piece cut in two
pub feed-append : (xs ys : List ℕ) (x : Loading) → feed (xs ++ ys) x ≡ feed ys (feed xs x)
unfolding feed
feed-append [] ys x = refl
feed-append (b ∷ xs) ys x = feed-append xs ys (byte_in x b)

-- nothing changes
pub byte_nothing : (x : Loading) (b : ℕ) → going x.loader ≡ false → byte_in x b ≡ x
unfolding byte_in when◌then◌else◌
byte_nothing x b e = rw e

pub feed-nothing : (piece : List ℕ) (x : Loading) → going x.loader ≡ false → feed piece x ≡ x
unfolding feed
feed-nothing [] x e = refl
feed-nothing (b ∷ piece) x e = rw (byte_nothing x b e) (feed-nothing piece x e)

-- ---------------------------------------------------------------- what stays

-- the limits and the lengths
pub record Kept (x y : Loading) : Type 0 where
  pub cells : y.loader.most_cells ≡ x.loader.most_cells
  pub spans : y.loader.most_spans ≡ x.loader.most_spans
  pub indices : length y.index ≡ length x.index
  pub counts : length y.count ≡ length x.count
  pub areas : length y.area ≡ length x.area
  pub cons : length y.con ≡ length x.con

-- of the numbers alone
record Limits (l m : Loader) : Type 0 where
  cells : m.most_cells ≡ l.most_cells
  spans : m.most_spans ≡ l.most_spans

limits : (l m : Loader) → m.most_cells ≡ l.most_cells → m.most_spans ≡ l.most_spans → Limits l m
limits l m e f = record { cells = e; spans = f }

with_kept : (x : Loading) (l : Loader) → Limits x.loader l → Kept x (with x l)
unfolding with
with_kept x l e = record { cells = e.cells; spans = e.spans; indices = refl; counts = refl; areas = refl; cons = refl }

kind_limits : (l : Loader) (b : ℕ) → Limits l (kind_byte l b)
unfolding kind_byte onward refusing
kind_limits l b = if-ind (λ (m : Loader). Limits l m) (eqb b (wanted l)) (λ _. limits l _ refl refl) (λ _. limits l _ refl refl)

headed_limits : (l m : Loader) → Limits l m → Limits l (headed m)
unfolding headed onward refusing
headed_limits l m e =
    if-ind (λ (k : Loader). Limits l k) (ltb m.most_cells (m.w * m.h)) (λ _. limits l _ e.cells e.spans) (λ _. limits l _ e.cells e.spans)

header_limits : (l : Loader) (b : ℕ) → Limits l (header_byte l b)
unfolding header_byte onward sized
header_limits l b = if-ind (λ (m : Loader). Limits l m) (ltb l.got 9) (λ _. limits l _ refl refl) (λ _. headed_limits l _ (limits l _ refl refl))

span_limits : (l : Loader) → Limits l (span_on l)
unfolding span_on onward counted
span_limits l = if-ind (λ (m : Loader). Limits l m) (ltb l.got 4) (λ _. limits l _ refl refl) (λ _. limits l _ refl refl)

cell_kept : (x : Loading) (b : ℕ) → Kept x (cell_byte x b)
unfolding cell_byte refusing cell_on onward counted
cell_kept x b =
    if-ind (λ (y : Loading). Kept x y) (ltb x.loader.most_spans _) (λ _. record { cells = refl; spans = refl; indices = refl; counts = refl; areas = refl; cons = refl })
    (λ _. record { cells = refl; spans = refl; indices = simp length-set; counts = simp length-set; areas = refl; cons = refl })

span_kept : (x : Loading) (b : ℕ) → Kept x (span_byte x b)
unfolding span_byte
span_kept x b =
    let e = span_limits x.loader in
    if-ind (λ (y : Loading). Kept x y) (eqb x.loader.got 0) (λ _. record { cells = e.cells; spans = e.spans; indices = refl; counts = refl; areas = simp length-set; cons = refl })
    (λ _. record { cells = e.cells; spans = e.spans; indices = refl; counts = refl; areas = refl; cons = simp length-set })

refusing_limits : (l : Loader) → Limits l (refusing 20 l.received l)
unfolding refusing
refusing_limits l = limits l _ refl refl

taken_kept : (x : Loading) (b : ℕ) → Kept x (taken x b)
unfolding taken
taken_kept x b =
    let l = x.loader in
    if-ind (λ (y : Loading). Kept x y) (eqb l.kind 0) (λ _. with_kept x _ (kind_limits l b))
    (λ _. if-ind (λ (y : Loading). Kept x y) (eqb l.kind 1) (λ _. with_kept x _ (header_limits l b))
    (λ _. if-ind (λ (y : Loading). Kept x y) (eqb l.kind 2) (λ _. cell_kept x b)
    (λ _. if-ind (λ (y : Loading). Kept x y) (eqb l.kind 3) (λ _. span_kept x b) (λ _. with_kept x _ (refusing_limits l)))))

byte_kept : (x : Loading) (b : ℕ) → Kept x (byte_in x b)
unfolding byte_in
byte_kept x b =
    if-ind (λ (y : Loading). Kept x y) (going x.loader) (λ _. taken_kept x b)
    (λ _. record { cells = refl; spans = refl; indices = refl; counts = refl; areas = refl; cons = refl })

kept_then : (x y z : Loading) → Kept x y → Kept y z → Kept x z
kept_then x y z p q = record {
  cells = q.cells ∙ p.cells;
  spans = q.spans ∙ p.spans;
  indices = q.indices ∙ p.indices;
  counts = q.counts ∙ p.counts;
  areas = q.areas ∙ p.areas;
  cons = q.cons ∙ p.cons;
}

pub feed_kept : (piece : List ℕ) (x : Loading) → Kept x (feed piece x)
unfolding feed
feed_kept [] x = record { cells = refl; spans = refl; indices = refl; counts = refl; areas = refl; cons = refl }
feed_kept (b ∷ piece) x = kept_then x (byte_in x b) (feed piece (byte_in x b)) (byte_kept x b) (feed_kept piece (byte_in x b))

roomy_kept : (x y : Loading) → Kept x y → roomy y ≡ roomy x
unfolding roomy
roomy_kept x y k = rw (k.cells, k.spans, k.indices, k.counts, k.areas, k.cons) refl

-- ---------------------------------------------------------------- the end

closed_ends : (l : Loader) → going l ≡ true → going (closed l) ≡ false
unfolding going closed ◌and◌
closed_ends l e = rw (both (eqb l.refusal 0) (eqb l.ended 0) e).0

refused_ends : (l : Loader) → going (refusing 20 l.received l) ≡ false
unfolding going refusing ◌and◌
refused_ends l = refl

-- ---------------------------------------------------------------- calls

-- a call that is not refused itself
pub loads : (piece : List ℕ) (x : Loading) → piece_refusal x ≡ 0 → load_piece piece x ≡ feed piece x
unfolding load_piece when◌then◌else◌
loads piece x e = rw e

-- one that is
leaves : (piece : List ℕ) (x : Loading) → (piece_refusal x ≡ 0 → ⊥) → load_piece piece x ≡ x
unfolding load_piece when◌then◌else◌
leaves piece x n = rw (ne_eqb (piece_refusal x) 0 n)

over_room : (x : Loading) → going x.loader ≡ false → piece_refusal x ≡ 0
unfolding piece_refusal when◌then◌else◌
over_room x e = rw e

-- room stays
pub roomy_is : (b : Bool) → ◌≡◌ {A = ℕ} (when b then 0 else 3) 0 → b ≡ true
unfolding when◌then◌else◌
roomy_is true q = refl
roomy_is false q = absurd (omega arith)

room_by : (x y : Loading) (g : Bool) → going x.loader ≡ g → roomy y ≡ roomy x → (g ≡ false → going y.loader ≡ false) → piece_refusal x ≡ 0 → piece_refusal y ≡ 0
unfolding piece_refusal when◌then◌else◌
room_by x y true e r s h =
    let k : roomy x ≡ true = roomy_is (roomy x) (rw e at h) in
    if-ind (λ (n : ℕ). n ≡ 0) (going y.loader) (λ _. rw (r, k)) (λ _. refl)
room_by x y false e r s h = rw (s refl)

pub room_stays : (piece : List ℕ) (x : Loading) → piece_refusal x ≡ 0 → piece_refusal (feed piece x) ≡ 0
room_stays piece x h =
    room_by x (feed piece x) (going x.loader) refl (roomy_kept x (feed piece x) (feed_kept piece x)) (λ e. ap (λ (y : Loading). going y.loader) (feed-nothing piece x e) ∙ e) h

-- "However it is cut, the field, the refusal and the byte position of the refusal are those of the whole file.": a piece cut in two is the two pieces
pub cut_in_two : (xs ys : List ℕ) (x : Loading) → load_piece ys (load_piece xs x) ≡ load_piece (xs ++ ys) x
cut_in_two xs ys x =
    elim (ℕ_discrete (piece_refusal x) 0) [
      | yes e ↦ rw (loads xs x e, loads (xs ++ ys) x e, loads ys (feed xs x) (room_stays xs x e)) (sym (feed-append xs ys x))
      | no n ↦ rw (leaves xs x n, leaves (xs ++ ys) x n) (leaves ys x n)
    ]

-- and so is the refusal of the call itself, for a list that is too short
pub refusal_cut : (xs : List ℕ) (x : Loading) → (piece_refusal x ≡ 0 → ⊥) → load_piece xs x ≡ x
refusal_cut xs x n = leaves xs x n

-- the pieces one after the other
unfoldable pub in_pieces : List (List ℕ) → Loading → Loading
in_pieces [] x = x
in_pieces (p ∷ ps) x = in_pieces ps (load_piece p x)

unfoldable pub joined : List (List ℕ) → List ℕ
joined [] = []
joined (p ∷ ps) = p ++ joined ps

-- "an empty piece too"
pub empty_piece : (x : Loading) → load_piece [] x ≡ x
unfolding load_piece feed
empty_piece x = if-ind (λ (y : Loading). y ≡ x) (eqb (piece_refusal x) 0) (λ _. refl) (λ _. refl)

-- "in pieces of any length": any cutting leaves what the whole leaves
pub any_pieces : (ps : List (List ℕ)) (x : Loading) → in_pieces ps x ≡ load_piece (joined ps) x
unfolding in_pieces joined
any_pieces [] x = sym (empty_piece x)
any_pieces (p ∷ ps) x = any_pieces ps (load_piece p x) ∙ cut_in_two p (joined ps) x

-- "After a refusal or a declared end every further call gets the same answer and changes nothing."
pub piece_changes_nothing : (piece : List ℕ) (x : Loading) → going x.loader ≡ false → (piece_refusal x ≡ 0) × (load_piece piece x ≡ x)
piece_changes_nothing piece x e = (over_room x e, loads piece x (over_room x e) ∙ feed-nothing piece x e)

pub end_changes_nothing : (l : Loader) → going l ≡ false → load_end l ≡ l
unfolding load_end when◌then◌else◌
end_changes_nothing l e = rw e

-- a declared end is the end: the loader is refused or closed
pub end_ends : (l : Loader) → going (load_end l) ≡ false
unfolding load_end
end_ends l =
    if-ind (λ (m : Loader). going m ≡ false) (going l) (λ e. if-ind (λ (m : Loader). going m ≡ false) (eqb l.kind 4) (λ _. closed_ends l e) (λ _. refused_ends l))
    (λ e. e)
