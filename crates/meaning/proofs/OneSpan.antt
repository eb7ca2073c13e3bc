-- With one span a cell every raw value is the cost of the cheapest chain: no move leads to a span whose value and the move's cost are less together.
-- For the moves of pass 2 that is what the pass left. For a move of pass 1, to u: u's value is either from pass 1, or came in pass 2 from a span that
-- the first span also comes to, at no more cost, by a move of pass 2 and another; a span that lacks a neighbour on that way has 0.
use Prim.Native.Nat.{ℕ, zero, suc, ◌+◌, ◌*◌, ◌≤◌, ◌<◌}
use native.Mathlib.Omega.{arith}
use native.Mathlib.Decide.{dec_lt}
use mathlib.Core.Path.{◌≡◌}
use mathlib.Core.List.{List}
use lib.ListN.{get_or, get_or-eq_default}
use Rattle.rules.specs.Field.{Field, spans, near, Bytes}
use Rattle.rules.specs.Refusals.{refusal}
use Rattle.rules.specs.Distance.{start, far, pass1, raw}
use Rattle.laws.proofs.Basics.{four_ways, get_d_any}
use Rattle.laws.proofs.Lengths.{raw-length}
use Rattle.laws.proofs.Cells.{Passed, passed}
use Rattle.laws.proofs.Passes.{start_edge}
use Rattle.meaning.specs.Moves.{Single, Turns, left_up, up_right, right_down, down_left, Move, straight, cornering, Chain, ended, moved, Cheapest}
use Rattle.meaning.proofs.Places.{few, cell, cell_in, near_cases, through, cell-left, cell_down, cell-right, cell-up, back}
use Rattle.meaning.proofs.Chains.{raw_is_a_chain's_cost}
use Rattle.meaning.proofs.Passes.{least_le, least_cases}
use Rattle.meaning.proofs.Sums.{raw_low}
use Rattle.meaning.proofs.Settled.{settled1, one_in_cell, settled2}

module _ (F : Field) (lens : List ℕ) (ok : Passed F lens) (bytes : Bytes F) (single : Single F) where
  -- the value after pass 1, and after both
  abbrev f : ℕ → ℕ
  f s = far (pass1 F (start F)) s

  abbrev g : ℕ → ℕ
  g s = far (raw F) s

  fixed1 : (s : ℕ) → s < spans F → (f s ≤ far (start F) s) × (f s ≤ f (near F s 0) + 2) × (f s ≤ f (near F (near F s 0) 3) + 3) × (f s ≤ f (near F s 3) + 2) × (f s ≤ f (near F (near F s 3) 2) + 3)
  fixed1 s h = least_le _ _ _ _ _ _ (settled1 F lens ok s h)

  fixed2 : (s : ℕ) → s < spans F → (g s ≤ f s) × (g s ≤ g (near F s 2) + 2) × (g s ≤ g (near F (near F s 2) 1) + 3) × (g s ≤ g (near F s 1) + 2) × (g s ≤ g (near F (near F s 1) 0) + 3)
  fixed2 s h = least_le _ _ _ _ _ _ (settled2 F lens ok single s h)

  -- where a value of pass 2 came from
  came : (P : Type 0) (u : ℕ) → u < spans F → (g u ≡ f u → P) → (g u ≡ g (near F u 2) + 2 → P) → (g u ≡ g (near F (near F u 2) 1) + 3 → P)
      → (g u ≡ g (near F u 1) + 2 → P) → (g u ≡ g (near F (near F u 1) 0) + 3 → P) → P
  came P u h = least_cases _ _ _ _ _ _ (settled2 F lens ok single u h) P

  zero_stays : (s : ℕ) → s < spans F → far (start F) s ≡ 0 → g s ≡ 0
  zero_stays s h e = omega (arith, (fixed1 s h).0, (fixed2 s h).0)

  low : (s : ℕ) → s < spans F → g s ≤ 65535
  low s h = omega (arith, raw_low F lens ok bytes s h)

  past : (t : ℕ) → (t < spans F → ⊥) → g t ≡ 65535
  past t n = get_or-eq_default (raw F) 65535 (omega (arith, raw-length F))

  -- a span has 0, or a neighbour in each direction
  zero_or : (P : Type 0) (s d : ℕ) → s < spans F → d < 4 → (g s ≡ 0 → P) → (near F s d < spans F → P) → P
  zero_or P s d h i a b =
      near_cases F lens ok P s d h i (λ e. a (zero_stays s h (start_edge F s d (few F lens ok) h (bytes s h) i e))) b

  -- a bound by the value of t, where t is a span or far away
  there_or : (P : Type 0) (s t : ℕ) → s < spans F → (g s ≤ g t → P) → (t < spans F → P) → P
  there_or P s t h a b = elim (dec_lt t (spans F)) [ yes i ↦ b i | no i ↦ a (omega (arith, low s h, past t i)) ]

  -- ---------------------------------------------------------------- neighbour 0

  left : (k s : ℕ) → s < spans F → F.w * F.h ≤ cell F lens ok s + k → g s ≤ g (near F s 0) + 2
  left zero s h i = absurd (omega (arith, cell_in F lens ok s h))
  left (suc k) s h i =
      there_or (g s ≤ g (near F s 0) + 2) s (near F s 0) h (λ z. omega arith)
      (λ j.
      let u = near F s 0 in
      let b : near F (near F s 0) 2 ≡ s = back F lens ok s 0 h (omega arith) j in
      came (g s ≤ g (near F s 0) + 2) (near F s 0) j
      (λ z. omega (arith, (fixed2 s h).0, (fixed1 s h).1))
      (λ z. let y = rw b at z in omega arith)
      (λ z. let y = rw b at z in omega (arith, (fixed2 s h).3))
      (λ z. there_or (g s ≤ g u + 2) s (near F u 1) h (λ y. omega arith) (λ l. below s h j l (λ y. omega arith) (λ y. omega arith)))
      (λ z. there_or (g s ≤ g u + 2) s (near F (near F u 1) 0) h (λ y. omega arith)
      (λ m. let l = through F lens ok u 1 0 j (omega arith) m in
      let c = cell_down F lens ok u j l in
      below s h j l (λ y. omega arith) (λ y. omega (arith, left k (near F u 1) l (omega (arith, cell-left F lens ok s h j))))))
      )
    where
      -- the span below neighbour 0 is the corner neighbour, or the value is at most 2
      below : (s : ℕ) → s < spans F → near F s 0 < spans F → near F (near F s 0) 1 < spans F
          → (g s ≤ 2 → g s ≤ g (near F s 0) + 2) → (g s ≤ g (near F (near F s 0) 1) + 3 → g s ≤ g (near F s 0) + 2) → g s ≤ g (near F s 0) + 2
      below s h j l a b =
          zero_or (g s ≤ g (near F s 0) + 2) s 1 h (omega arith) (λ z. a (omega arith))
          (λ m. zero_or (g s ≤ g (near F s 0) + 2) (near F s 1) 0 m (omega arith) (λ z. a (omega (arith, (fixed2 s h).3)))
          (λ o.
          let e : near F (near F s 1) 0 ≡ near F (near F s 0) 1 = one_in_cell F lens ok single _ _ o l (omega (arith, (cell-left F lens ok (near F s 1) m o).0, cell_down F lens ok s h m, (cell-left F lens ok s h j).0, cell_down F lens ok (near F s 0) j l)) in
          b (rw e at (fixed2 s h).4)))

  left_all : (s : ℕ) → s < spans F → g s ≤ g (near F s 0) + 2
  left_all s h = left (F.w * F.h) s h (omega arith)

  -- ---------------------------------------------------------------- neighbour 3

  up : (k s : ℕ) → s < spans F → F.w * F.h ≤ cell F lens ok s + k → g s ≤ g (near F s 3) + 2
  up zero s h i = absurd (omega (arith, cell_in F lens ok s h))
  up (suc k) s h i =
      there_or (g s ≤ g (near F s 3) + 2) s (near F s 3) h (λ z. omega arith)
      (λ j.
      let u = near F s 3 in
      let b : near F (near F s 3) 1 ≡ s = back F lens ok s 3 h (omega arith) j in
      let cu = cell-up F lens ok s h j in
      came (g s ≤ g u + 2) (near F s 3) j
      (λ z. omega (arith, (fixed2 s h).0, (fixed1 s h).3))
      (λ z. there_or (g s ≤ g u + 2) s (near F u 2) h (λ y. omega arith)
      (λ l. zero_or (g s ≤ g u + 2) s 2 h (omega arith) (λ y. omega arith)
      (λ m. zero_or (g s ≤ g u + 2) (near F s 2) 3 m (omega arith) (λ y. omega (arith, (fixed2 s h).1))
      (λ o.
      let cq = cell-right F lens ok s h m in
      let e : near F (near F s 2) 3 ≡ near F u 2 = one_in_cell F lens ok single _ _ o l (omega (arith, cell-up F lens ok (near F s 2) m o, (cell-right F lens ok u j l).0)) in
      let r : g (near F s 2) ≤ g (near F u 2) + 2 = rw e at (up k (near F s 2) m (omega arith)) in
      omega (arith, (fixed2 s h).1)))))
      (λ z. there_or (g s ≤ g u + 2) s (near F (near F u 2) 1) h (λ y. omega arith)
      (λ l. zero_or (g s ≤ g u + 2) s 2 h (omega arith) (λ y. omega arith)
      (λ m.
      let n = through F lens ok u 2 1 j (omega arith) l in
      let e : near F (near F u 2) 1 ≡ near F s 2 = one_in_cell F lens ok single _ _ l m (omega (arith, (cell-right F lens ok u j n).0, cell_down F lens ok (near F u 2) n l, (cell-right F lens ok s h m).0)) in
      let y = rw e at z in
      omega (arith, (fixed2 s h).1))))
      (λ z. let y = rw b at z in omega arith)
      (λ z. let y = rw b at z in omega (arith, left_all s h)))

  up_all : (s : ℕ) → s < spans F → g s ≤ g (near F s 3) + 2
  up_all s h = up (F.w * F.h) s h (omega arith)

  -- ---------------------------------------------------------------- neighbour 0's neighbour 3

  up_left : (s : ℕ) → s < spans F → g s ≤ g (near F (near F s 0) 3) + 3
  up_left s h =
      there_or (g s ≤ g (near F (near F s 0) 3) + 3) s (near F (near F s 0) 3) h (λ z. omega arith)
      (λ j.
      let a = near F s 0 in
      let u = near F (near F s 0) 3 in
      let i = through F lens ok s 0 3 h (omega arith) j in
      let ca = cell-left F lens ok s h i in
      let cu = cell-up F lens ok a i j in
      let b : near F (near F (near F s 0) 3) 1 ≡ near F s 0 = back F lens ok a 3 i (omega arith) j in
      came (g s ≤ g u + 3) u j
      (λ z. omega (arith, (fixed2 s h).0, (fixed1 s h).2))
      (λ z. there_or (g s ≤ g u + 3) s (near F u 2) h (λ y. omega arith)
      (λ l. zero_or (g s ≤ g u + 3) s 3 h (omega arith) (λ y. omega arith)
      (λ m.
      let e : near F u 2 ≡ near F s 3 = one_in_cell F lens ok single _ _ l m (omega (arith, (cell-right F lens ok u j l).0, cell-up F lens ok s h m)) in
      let y = rw e at z in
      omega (arith, up_all s h))))
      (λ z. there_or (g s ≤ g u + 3) s (near F (near F u 2) 1) h (λ y. omega arith)
      (λ o. zero_or (g s ≤ g u + 3) s 3 h (omega arith) (λ y. omega arith)
      (λ m.
      let l = through F lens ok u 2 1 j (omega arith) o in
      let e : near F u 2 ≡ near F s 3 = one_in_cell F lens ok single _ _ l m (omega (arith, (cell-right F lens ok u j l).0, cell-up F lens ok s h m)) in
      let c : near F (near F s 3) 1 ≡ s = back F lens ok s 3 h (omega arith) m in
      let y = rw c at (rw e at z) in
      omega arith)))
      (λ z. let y = rw b at z in omega (arith, left_all s h))
      (λ z. let y = rw b at z in omega (arith, left_all s h, left_all a i)))

  -- ---------------------------------------------------------------- neighbour 3's neighbour 2

  up-right_of : (k s : ℕ) → s < spans F → F.w * F.h ≤ cell F lens ok s + k → g s ≤ g (near F (near F s 3) 2) + 3
  up-right_of zero s h i = absurd (omega (arith, cell_in F lens ok s h))
  up-right_of (suc k) s h i =
      there_or (g s ≤ g (near F (near F s 3) 2) + 3) s (near F (near F s 3) 2) h (λ z. omega arith)
      (λ j.
      let v = near F s 3 in
      let u = near F (near F s 3) 2 in
      let n = through F lens ok s 3 2 h (omega arith) j in
      let cv = cell-up F lens ok s h n in
      let cu = cell-right F lens ok v n j in
      zero_or (g s ≤ g u + 3) s 2 h (omega arith) (λ y. omega arith)
      (λ m.
      let cq = cell-right F lens ok s h m in
      let c : near F (near F s 2) 0 ≡ s = back F lens ok s 2 h (omega arith) m in
      came (g s ≤ g u + 3) u j
      (λ z. omega (arith, (fixed2 s h).0, (fixed1 s h).4))
      (λ z. zero_or (g s ≤ g u + 3) (near F s 2) 3 m (omega arith) (λ y. omega (arith, (fixed2 s h).1))
      (λ o.
      let e : near F (near F s 2) 3 ≡ u = one_in_cell F lens ok single _ _ o j (omega (arith, cell-up F lens ok (near F s 2) m o)) in
      let r : g (near F s 2) ≤ g (near F u 2) + 3 = rw e at (up-right_of k (near F s 2) m (omega arith)) in
      omega (arith, (fixed2 s h).1)))
      (λ z. there_or (g s ≤ g u + 3) s (near F (near F u 2) 1) h (λ y. omega arith)
      (λ l. zero_or (g s ≤ g u + 3) (near F s 2) 2 m (omega arith) (λ y. omega (arith, (fixed2 s h).1))
      (λ o.
      let p = through F lens ok u 2 1 j (omega arith) l in
      let e : near F (near F u 2) 1 ≡ near F (near F s 2) 2 = one_in_cell F lens ok single _ _ l o (omega (arith, (cell-right F lens ok u j p).0, cell_down F lens ok (near F u 2) p l, (cell-right F lens ok (near F s 2) m o).0)) in
      let y = rw e at z in
      omega (arith, (fixed2 s h).1, (fixed2 (near F s 2) m).1))))
      (λ z. there_or (g s ≤ g u + 3) s (near F u 1) h (λ y. omega arith)
      (λ l.
      let e : near F u 1 ≡ near F s 2 = one_in_cell F lens ok single _ _ l m (omega (arith, cell_down F lens ok u j l)) in
      let y = rw e at z in
      omega (arith, (fixed2 s h).1)))
      (λ z. there_or (g s ≤ g u + 3) s (near F (near F u 1) 0) h (λ y. omega arith)
      (λ o.
      let l = through F lens ok u 1 0 j (omega arith) o in
      let e : near F u 1 ≡ near F s 2 = one_in_cell F lens ok single _ _ l m (omega (arith, cell_down F lens ok u j l)) in
      let y = rw c at (rw e at z) in
      omega arith))))

  -- ---------------------------------------------------------------- moves and chains

  no_shorter : {s t k : ℕ} → Move F s t k → s < spans F → (t < spans F) × (g s ≤ g t + k)
  no_shorter {s = s} (straight d i j) h =
      (j, four_ways (λ d. g s ≤ g (near F s d) + 2) (left_all s h) (fixed2 s h).3 (fixed2 s h).1 (up_all s h) d i)
  no_shorter {s = s} (cornering d e r i j) h = (j, turned r)
    where
      turned : {d e : ℕ} → Turns d e → g s ≤ g (near F (near F s d) e) + 3
      turned left_up = up_left s h
      turned up_right = up-right_of (F.w * F.h) s h (omega arith)
      turned right_down = (fixed2 s h).2
      turned down_left = (fixed2 s h).4

  no_cheaper : {s c : ℕ} → Chain F s c → s < spans F → g s ≤ c
  no_cheaper {s = s} (ended i e) h = omega (arith, zero_stays s h e)
  no_cheaper (moved m r) h = let a = no_shorter m h in omega (arith, no_cheaper r a.0)

pub one-span-raw_is_cheapest : (F : Field) (lens : List ℕ) → refusal F lens ≡ 0 → Bytes F → Single F → (s : ℕ) → s < spans F → Cheapest F s (get_or (raw F) s 0)
one-span-raw_is_cheapest F lens ok bytes single s h =
    record {
      chain = raw_is_a_chain's_cost F lens ok bytes s h;
      least = λ c r. rw (get_d_any (raw F) s 0 65535 (omega (arith, raw-length F))) (no_cheaper F lens (passed F lens ok) bytes single r h);
    }
