-- Two results that satisfy a promise of the loader coincide, and the calls with the numbers in a list go from call to call as the rule's loading does.
-- The promises are equations, a loader is its numbers, and the numbers that a call writes are those that the next one reads.
use Prim.Native.Nat.{ℕ}
use native.Mathlib.Omega.{arith}
use native.Mathlib.Decide.{ℕ_discrete}
use mathlib.Core.Path.{◌≡◌, refl, sym, ap, ◌∙◌}
use mathlib.Core.List.{List, ◌++◌}
use lib.ListN.{length}
use borrow.Author.Tests.{eq-eqb, ne_eqb}
use Rattle.rules.specs.Base.{when◌then◌else◌}
use Rattle.rules.specs.Load as rule
use mathlib.Core.Bool.{false}
use Rattle.rules.specs.Load.{Loading, load_piece, piece_refusal, going}
use Rattle.load.specs.Numbers.{loader_of, loading, piece_refused_by, loader_after}
use Rattle.load.specs.Into.{numbers_of, loader_in, position_of, left, refused3, loading_in, Outcome, PieceOutcome, end_outcome, piece_outcome, Given, GivenPiece}
use Rattle.load.specs.declared.Loader.{Loader}
use Rattle.std.specs.Prelude.{Result, Ok, Err}
use Rattle.load.specs.declared.TooShort.{TooShort}
use Rattle.load.specs.declared.into.LoadAnswer.{LoadAnswer}
use Rattle.load.proofs.Pieces.{cut_in_two, room_stays, loads, piece_changes_nothing, end_changes_nothing}
use Rattle.load.proofs.Stored.{loader_written, numbers_read}

-- ---------------------------------------------------------------- one result

code_of : rule.Loader → Loader
code_of l = record {
  most_cells = l.most_cells;
  most_spans = l.most_spans;
  kind = l.kind;
  got = l.got;
  start = l.start;
  received = l.received;
  w = l.w;
  h = l.h;
  border = l.border;
  least = l.least;
  merge = l.merge;
  cells = l.cells;
  spans = l.spans;
  due = l.due;
  refusal = l.refusal;
  position = l.position;
  ended = l.ended;
}

-- `load_begin`, `load_end`: a loader is its numbers
pub one_loader : (l m : Loader) → loader_of l ≡ loader_of m → l ≡ m
unfolding code_of
one_loader l m e = ap code_of e

three_none : ◌≡◌ {A = ℕ} 0 3 → ⊥
three_none e = omega arith

one_answer : (l : Loader) (a b : Result Loader TooShort) → piece_refused_by a ≡ piece_refused_by b → loader_of (loader_after l a) ≡ loader_of (loader_after l b) → a ≡ b
one_answer l (Ok m) (Ok n) e f = ap Ok (one_loader m n f)
one_answer l (Ok m) (Err u) e f = absurd (three_none e)
one_answer l (Err u) (Ok n) e f = absurd (three_none (sym e))
one_answer l (Err u) (Err v) e f = refl

-- `load_piece`
pub one_piece : (l : Loader) (k : ℕ) (y : Loading) (a b : Result Loader TooShort) (i c s o i' c' s' o' : List ℕ) → piece_refused_by a ≡ k → piece_refused_by b ≡ k
    → loading (loader_after l a) i c s o ≡ y → loading (loader_after l b) i' c' s' o' ≡ y → (a ≡ b) × (i ≡ i') × (c ≡ c') × (s ≡ s') × (o ≡ o')
one_piece l k y a b i c s o i' c' s' o' e f p q =
    let u = p ∙ sym q in (
      one_answer l a b (e ∙ sym f) (ap (λ (x : Loading). x.loader) u),
      ap (λ (x : Loading). x.index) u,
      ap (λ (x : Loading). x.count) u,
      ap (λ (x : Loading). x.area) u,
      ap (λ (x : Loading). x.con) u,
    )

pub answers_same : (a b : LoadAnswer) → a.refusal ≡ b.refusal → a.position ≡ b.position → a ≡ b
answers_same a b e f = rw (e, f)

-- `gussetraft_load_begin_into`, `gussetraft_load_end_into`
pub one_given : (o : Outcome) (a b : LoadAnswer) (ms ns : List ℕ) → Given o a ms → Given o b ns → (a ≡ b) × (ms ≡ ns)
one_given o a b ms ns p q = (answers_same a b (p.refusal ∙ sym q.refusal) (p.position ∙ sym q.position), p.numbers ∙ sym q.numbers)

-- `gussetraft_load_piece_into`
pub one_given_piece : (o : PieceOutcome) (a b : LoadAnswer) (ms i c s v ns i' c' s' v' : List ℕ) → GivenPiece o a ms i c s v → GivenPiece o b ns i' c' s' v'
    → (a ≡ b) × (ms ≡ ns) × (i ≡ i') × (c ≡ c') × (s ≡ s') × (v ≡ v')
one_given_piece o a b ms i c s v ns i' c' s' v' p q =
    let u = one_given o.said a b ms ns p.said q.said in (
      u.0,
      u.1,
      p.indices ∙ sym q.indices,
      p.counts ∙ sym q.counts,
      p.areas ∙ sym q.areas,
      p.cons ∙ sym q.cons,
    )

-- ---------------------------------------------------------------- from call to call

pub numbers_17 : (l : rule.Loader) → length (numbers_of l) ≡ 17
unfolding numbers_of
numbers_17 l = refl

pub written-loading : (y : Loading) → loading_in (numbers_of y.loader) y.index y.count y.area y.con ≡ y
unfolding loading_in
written-loading y = rw (loader_written y.loader) refl

-- what a call leaves, by what it is lent
unfoldable pub left_by_lem : Loading → PieceOutcome
left_by_lem y = record { said = left y.loader; index = y.index; count = y.count; area = y.area; con = y.con }

module _ (ns index count area con : List ℕ) where
  abbrev pub x : Loading
  x = loading_in ns index count area con

  abbrev pub as_was : PieceOutcome
  as_was = record { said = refused3 ns; index = index; count = count; area = area; con = con }

  pub call_odd : (piece : List ℕ) → (length ns ≡ 17 → ⊥) → piece_outcome piece ns index count area con ≡ as_was
  unfolding piece_outcome when◌then◌else◌
  call_odd piece n = rw (ne_eqb (length ns) 17 n)

  pub call_short : (piece : List ℕ) → length ns ≡ 17 → (piece_refusal x ≡ 0 → ⊥) → piece_outcome piece ns index count area con ≡ as_was
  unfolding piece_outcome when◌then◌else◌
  call_short piece e n = rw (eq-eqb (length ns) 17 e, ne_eqb (piece_refusal x) 0 n)

  pub call_taken : (piece : List ℕ) → length ns ≡ 17 → piece_refusal x ≡ 0 → piece_outcome piece ns index count area con ≡ left_by_lem (load_piece piece x)
  unfolding piece_outcome left_by_lem when◌then◌else◌
  call_taken piece e f = rw (eq-eqb (length ns) 17 e, f) refl

-- the next call, on what a call left
unfoldable pub next : List ℕ → PieceOutcome → PieceOutcome
next piece o = piece_outcome piece o.said.numbers o.index o.count o.area o.con

next_odd : (piece ns index count area con : List ℕ) → next piece (as_was ns index count area con) ≡ piece_outcome piece ns index count area con
unfolding next refused3
next_odd piece ns index count area con = refl

next_left : (piece : List ℕ) (y : Loading) → piece_refusal y ≡ 0 → next piece (left_by_lem y) ≡ left_by_lem (load_piece piece y)
unfolding next left_by_lem left
next_left piece y e =
    let w = written-loading y in
    call_taken (numbers_of y.loader) y.index y.count y.area y.con piece (numbers_17 y.loader) (rw w e) ∙ rw w refl

-- two calls with two pieces are one call with both, whatever the list and the lists hold and however long they are
pub two_calls : (xs ys ns index count area con : List ℕ) → next ys (piece_outcome xs ns index count area con) ≡ piece_outcome (xs ++ ys) ns index count area con
two_calls xs ys ns index count area con =
    let x = loading_in ns index count area con in
    elim (ℕ_discrete (length ns) 17) [
      | yes e ↦
          elim (ℕ_discrete (piece_refusal x) 0) [
            | yes f ↦
                let g : piece_refusal (load_piece xs x) ≡ 0 = rw (loads xs x f) (room_stays xs x f) in
                rw (call_taken ns index count area con xs e f, call_taken ns index count area con (xs ++ ys) e f) (next_left ys (load_piece xs x) g ∙ ap left_by_lem (cut_in_two xs ys x))
            | no f ↦
                rw (call_short ns index count area con xs e f, call_short ns index count area con (xs ++ ys) e f) (next_odd ys ns index count area con ∙ call_short ns index count area con ys e f)
          ]
      | no n ↦ rw (call_odd ns index count area con xs n, call_odd ns index count area con (xs ++ ys) n) (next_odd ys ns index count area con ∙ call_odd ns index count area con ys n)
    ]

-- ---------------------------------------------------------------- after a refusal or a declared end

module _ (ns : List ℕ) (right : length ns ≡ 17) (over : going (loader_in ns) ≡ false) where
  -- the loader's own answer, and its numbers as they were
  unfoldable pub same_answer : Outcome
  same_answer = record { refusal = (loader_in ns).refusal; position = position_of (loader_in ns); numbers = ns }

  left-same : left (loader_in ns) ≡ same_answer
  unfolding left same_answer
  left-same = rw (numbers_read ns right) refl

  -- "every further call gets the same answer and changes nothing"
  pub call_changes_nothing : (piece index count area con : List ℕ)
      → piece_outcome piece ns index count area con ≡ record { said = same_answer; index = index; count = count; area = area; con = con }
  unfolding left_by_lem loading_in
  call_changes_nothing piece index count area con =
      let x = loading_in ns index count area con in
      let t = piece_changes_nothing piece x over in
      call_taken ns index count area con piece right t.0 ∙ ap left_by_lem t.1 ∙ rw left-same refl

  pub end_call_changes_nothing : end_outcome ns ≡ same_answer
  unfolding end_outcome when◌then◌else◌
  end_call_changes_nothing = rw (eq-eqb (length ns) 17 right, end_changes_nothing (loader_in ns) over) left-same
