-- A table's entry is written: four numbers, each in its own column. The others keep theirs, since no two of these places are the same.
-- The halves of a number give it back.
use Prim.Native.Nat.{ℕ, ◌+◌, ◌*◌, ◌/◌, ◌%◌, ◌≤◌, ◌<◌}
use native.Mathlib.Omega.{arith}
use native.Mathlib.Nat.{div-add-mod'}
use mathlib.Core.Path.{◌≡◌, ◌∙◌}
use mathlib.Core.List.{List}
use lib.ListN.{length, get_or, set, length-set}
use lib.Seq.{get_or-set_same, get_or-set_other}
use Rattle.space.specs.Space.{Frame}
use Rattle.space.proofs.Laws.{frame_then, frame_set}
use Rattle.table.specs.View.{wide, Placed}
use Rattle.table.proofs.ViewLaws.{wide-same}

-- the stores of `set_wide`
abbrev pub put : List ℕ → ℕ → ℕ → ℕ → List ℕ
put ws m a v = set (set ws a (v % 65536)) (a + m) (v / 65536)

module _ (ws : List ℕ) (m a v : ℕ) where
  pub put_other : (j : ℕ) → (j ≡ a → ⊥) → (j ≡ a + m → ⊥) → get_or (put ws m a v) j 0 ≡ get_or ws j 0
  put_other j p q = get_or-set_other (set ws a (v % 65536)) (a + m) j (v / 65536) 0 q ∙ get_or-set_other ws a j (v % 65536) 0 p

  pub put-wide : 0 < m → a + m < length ws → wide (put ws m a v) m a ≡ v
  unfolding wide
  put-wide z h =
      let low : get_or (put ws m a v) a 0 ≡ v % 65536 =
      get_or-set_other (set ws a (v % 65536)) (a + m) a (v / 65536) 0 (λ e. omega arith) ∙ get_or-set_same ws a (v % 65536) 0 (omega arith) in
      let high : get_or (put ws m a v) (a + m) 0 ≡ v / 65536 = get_or-set_same (set ws a (v % 65536)) (a + m) (v / 65536) 0 (rw (length-set ws a (v % 65536)) h) in
      rw (low, high) (omega (arith, div-add-mod' v 65536))

  pub put_frame : (b e : ℕ) → b ≤ a → a + m < e → Frame b e ws (put ws m a v)
  put_frame b e h g = frame_then (frame_set b e a (v % 65536) ws h (omega arith)) (frame_set b e (a + m) (v / 65536) (set ws a (v % 65536)) (omega arith) g)

  put-wide-other : (b : ℕ) → (b ≡ a → ⊥) → (b ≡ a + m → ⊥) → (b + m ≡ a → ⊥) → wide (put ws m a v) m b ≡ wide ws m b
  put-wide-other b p q r = wide-same ws (put ws m a v) m b (put_other b p q) (put_other (b + m) r (λ e. p (omega arith)))

module _ (ws ws₁ ws₂ : List ℕ) (m s r a e : ℕ) (h : s + 4 * m ≤ length ws) (g : r < m) (l : length ws₁ ≡ length ws)
    (p : ws₁ ≡ put ws m (s + r) a) (q : ws₂ ≡ put ws₁ m (s + 2 * m + r) e) where
  first_in_lem : s + r + m < length ws
  first_in_lem = omega arith

  second_in : s + 2 * m + r + m < length ws₁
  second_in = rw l (omega arith)

  one : (b : ℕ) → (b ≡ s + r → ⊥) → (b ≡ s + r + m → ⊥) → (b + m ≡ s + r → ⊥) → wide ws₁ m b ≡ wide ws m b
  one b x y z = rw p (put-wide-other ws m (s + r) a b x y z)

  two : (b : ℕ) → (b ≡ s + 2 * m + r → ⊥) → (b ≡ s + 2 * m + r + m → ⊥) → (b + m ≡ s + 2 * m + r → ⊥) → wide ws₂ m b ≡ wide ws₁ m b
  two b x y z = rw q (put-wide-other ws₁ m (s + 2 * m + r) e b x y z)

  one_here : wide ws₁ m (s + r) ≡ a
  one_here = rw p (put-wide ws m (s + r) a (omega arith) first_in_lem)

  two_here : wide ws₂ m (s + 2 * m + r) ≡ e
  two_here = rw q (put-wide ws₁ m (s + 2 * m + r) e (omega arith) second_in)

  one_frame : Frame s (s + 4 * m) ws ws₁
  one_frame = rw p (put_frame ws m (s + r) a s (s + 4 * m) (omega arith) (omega arith))

  two_frame : Frame s (s + 4 * m) ws₁ ws₂
  two_frame = rw q (put_frame ws₁ m (s + 2 * m + r) e s (s + 4 * m) (omega arith) (omega arith))

  pub placed : Placed m s r a e ws ws₂
  placed = record {
    start = two (s + r) (λ e. omega arith) (λ e. omega arith) (λ e. omega arith) ∙ one_here;
    stop = two_here;
    starts = λ x k n. two (s + x) (λ e. omega arith) (λ e. omega arith) (λ e. omega arith) ∙ one (s + x) (λ e. n (omega arith)) (λ e. omega arith) (λ e. omega arith);
    stops = λ x k n. two (s + 2 * m + x) (λ e. n (omega arith)) (λ e. omega arith) (λ e. omega arith)
        ∙ one (s + 2 * m + x) (λ e. omega arith) (λ e. omega arith) (λ e. omega arith);
    kept = frame_then one_frame two_frame;
  }
