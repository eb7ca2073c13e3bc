-- "A file is complete only when its end is declared.": no byte declares it, and a declared end is answered 0 only where the end record was read.
-- Every step of the rule hands `ended` on; a file that is not refused has the end record as its last byte.
use Prim.Native.Nat.{ℕ, ◌*◌}
use native.Mathlib.Omega.{arith}
use native.Mathlib.Decide.{ℕ_discrete}
use mathlib.Core.Path.{◌≡◌, refl, sym, ap, ◌∙◌}
use mathlib.Core.Bool.{Bool, true, false, true≢false}
use mathlib.Core.List.{List, [], ◌∷◌}
use lib.Dec.{ltb, eqb}
use borrow.Author.Tests.{eqb-true, eq-eqb, ne_eqb}
use Rattle.rules.specs.Base.{◌and◌, when◌then◌else◌}
use Rattle.rules.specs.Load.{Loader, Loading, load_begin, going, refusing, onward, counted, wanted, kind_byte, sized, headed, header_byte}
use Rattle.rules.specs.Load.{cell_on, cell_byte, span_on, span_byte, with, taken, byte_in, feed, closed, load_end, piece_refusal, load_piece}
use Rattle.laws.proofs.Basics.{if-ind, both}
use Rattle.load.proofs.Pieces.{in_pieces, end_changes_nothing}

-- ---------------------------------------------------------------- no byte declares the end

-- the end is declared in m exactly as in l
unfoldable Hands : Loader → Loader → Type 0
Hands l m = m.ended ≡ l.ended

kind_hands : (l : Loader) (b : ℕ) → Hands l (kind_byte l b)
unfolding Hands kind_byte onward refusing
kind_hands l b = if-ind (λ (m : Loader). Hands l m) (eqb b (wanted l)) (λ _. refl) (λ _. refl)

headed_hands : (l m : Loader) → Hands l m → Hands l (headed m)
unfolding Hands headed onward refusing
headed_hands l m e = if-ind (λ (k : Loader). Hands l k) (ltb m.most_cells (m.w * m.h)) (λ _. e) (λ _. e)

header_hands : (l : Loader) (b : ℕ) → Hands l (header_byte l b)
unfolding Hands header_byte onward sized
header_hands l b = if-ind (λ (m : Loader). Hands l m) (ltb l.got 9) (λ _. refl) (λ _. headed_hands l _ refl)

span_hands : (l : Loader) → Hands l (span_on l)
unfolding Hands span_on onward counted
span_hands l = if-ind (λ (m : Loader). Hands l m) (ltb l.got 4) (λ _. refl) (λ _. refl)

-- the same of loadings
unfoldable Leaves : Loading → Loading → Type 0
unfolding Hands
Leaves x y = Hands x.loader y.loader

with-leaves : (x : Loading) (l : Loader) → Hands x.loader l → Leaves x (with x l)
unfolding Leaves with
with-leaves x l e = e

cell-leaves : (x : Loading) (b : ℕ) → Leaves x (cell_byte x b)
unfolding Leaves Hands cell_byte refusing cell_on onward counted
cell-leaves x b = if-ind (λ (y : Loading). Leaves x y) (ltb x.loader.most_spans _) (λ _. refl) (λ _. refl)

span-leaves : (x : Loading) (b : ℕ) → Leaves x (span_byte x b)
unfolding Leaves span_byte
span-leaves x b = if-ind (λ (y : Loading). Leaves x y) (eqb x.loader.got 0) (λ _. span_hands x.loader) (λ _. span_hands x.loader)

refusing_hands : (l : Loader) → Hands l (refusing 20 l.received l)
unfolding Hands refusing
refusing_hands l = refl

taken-leaves : (x : Loading) (b : ℕ) → Leaves x (taken x b)
unfolding taken
taken-leaves x b =
    let l = x.loader in
    if-ind (λ (y : Loading). Leaves x y) (eqb l.kind 0) (λ _. with-leaves x _ (kind_hands l b))
    (λ _. if-ind (λ (y : Loading). Leaves x y) (eqb l.kind 1) (λ _. with-leaves x _ (header_hands l b))
    (λ _. if-ind (λ (y : Loading). Leaves x y) (eqb l.kind 2) (λ _. cell-leaves x b)
    (λ _. if-ind (λ (y : Loading). Leaves x y) (eqb l.kind 3) (λ _. span-leaves x b) (λ _. with-leaves x _ (refusing_hands l)))))

byte_ended : (x : Loading) (b : ℕ) → (byte_in x b).loader.ended ≡ x.loader.ended
unfolding byte_in Leaves Hands
byte_ended x b = if-ind (λ (y : Loading). Leaves x y) (going x.loader) (λ _. taken-leaves x b) (λ _. refl)

-- bytes leave it as it is, whatever the loader
pub feed-ended : (bytes : List ℕ) (x : Loading) → (feed bytes x).loader.ended ≡ x.loader.ended
unfolding feed
feed-ended [] x = refl
feed-ended (b ∷ bytes) x = feed-ended bytes (byte_in x b) ∙ byte_ended x b

-- and so does a call with a piece
pub piece_ended : (piece : List ℕ) (x : Loading) → (load_piece piece x).loader.ended ≡ x.loader.ended
unfolding load_piece Leaves Hands
piece_ended piece x = if-ind (λ (y : Loading). Leaves x y) (eqb (piece_refusal x) 0) (λ _. feed-ended piece x) (λ _. refl)

pub pieces_ended : (ps : List (List ℕ)) (x : Loading) → (in_pieces ps x).loader.ended ≡ x.loader.ended
unfolding in_pieces
pieces_ended [] x = refl
pieces_ended (p ∷ ps) x = pieces_ended ps (load_piece p x) ∙ piece_ended p x

-- before the first byte it is not declared
pub begin_not-ended : (cells spans : ℕ) → (load_begin cells spans).ended ≡ 0
unfolding load_begin
begin_not-ended cells spans = refl

-- so from there on it is not declared, whatever the pieces, until `load_end`
pub not-ended_until_declared : (cells spans : ℕ) (ps : List (List ℕ)) (index count area con : List ℕ)
    → (in_pieces ps (record { loader = load_begin cells spans; index = index; count = count; area = area; con = con })).loader.ended ≡ 0
not-ended_until_declared cells spans ps index count area con = pieces_ended ps _ ∙ begin_not-ended cells spans

-- ---------------------------------------------------------------- a declared end

-- what an end says of a loader that is going: complete exactly if the end record was read, else cut short
pub record Declared (l m : Loader) : Type 0 where
  pub complete : l.kind ≡ 4 → (m.refusal ≡ 0) × (m.ended ≡ 1)
  pub short : (l.kind ≡ 4 → ⊥) → (m.refusal ≡ 20) × (m.position ≡ l.received) × (m.ended ≡ 0)

closed_complete : (l : Loader) → going l ≡ true → ((closed l).refusal ≡ 0) × ((closed l).ended ≡ 1)
unfolding going closed
closed_complete l g = (eqb-true l.refusal 0 (both (eqb l.refusal 0) (eqb l.ended 0) g).0, refl)

refusing_short : (l : Loader) → going l ≡ true
    → ((refusing 20 l.received l).refusal ≡ 20) × ((refusing 20 l.received l).position ≡ l.received) × ((refusing 20 l.received l).ended ≡ 0)
unfolding going refusing
refusing_short l g = (refl, refl, eqb-true l.ended 0 (both (eqb l.refusal 0) (eqb l.ended 0) g).1)

pub end_declared : (l : Loader) → going l ≡ true → Declared l (load_end l)
unfolding load_end when◌then◌else◌
end_declared l g =
    record {
      complete = λ k. rw (g, eq-eqb l.kind 4 k) (closed_complete l g);
      short = λ k. rw (g, ne_eqb l.kind 4 k) (refusing_short l g);
    }

not_going : (l : Loader) → going l ≡ false → l.ended ≡ 0 → l.refusal ≡ 0 → ⊥
unfolding going ◌and◌
not_going l g e f = let h : true ≡ false = (rw (eq-eqb l.refusal 0 f, eq-eqb l.ended 0 e) at g) in true≢false h

-- an end that was not declared before is answered 0 only where the end record was read, and it is declared then
pub answered_0 : (l : Loader) → l.ended ≡ 0 → (load_end l).refusal ≡ 0 → (l.kind ≡ 4) × ((load_end l).ended ≡ 1)
answered_0 l e f = by (going l) refl
  where
    by : (b : Bool) → going l ≡ b → (l.kind ≡ 4) × ((load_end l).ended ≡ 1)
    by true g =
        let d = end_declared l g in
        elim (ℕ_discrete l.kind 4) [
          | yes k ↦ (k, (d.complete k).1)
          | no k ↦ let z = (d.short k).0 in absurd (omega arith)
        ]
    by false g = absurd (not_going l g e (ap (λ (m : Loader). m.refusal) (sym (end_changes_nothing l g)) ∙ f))
