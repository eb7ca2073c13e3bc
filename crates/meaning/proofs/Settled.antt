-- What the passes leave: pass 1 on every field that is not refused, since it comes to what a span reads before it comes to the span; pass 2
-- on a field with one span a cell.
use Prim.Native.Nat.{ℕ, suc, ◌+◌, ◌*◌, ◌-◌, ◌<◌}
use native.Mathlib.Omega.{arith}
use native.Mathlib.Decide.{ℕ_discrete}
use mathlib.Core.Path.{◌≡◌, refl, ap, ◌∙◌}
use mathlib.Core.List.{List}
use lib.ListN.{get_or}
use Rattle.rules.specs.Base.{upto}
use Rattle.rules.specs.Field.{Field, spans, near}
use Rattle.rules.specs.Distance.{start, lower, pass1, pass2, raw}
use Rattle.laws.proofs.Basics.{upto-ind}
use Rattle.laws.proofs.Lengths.{start-length, pass1-length}
use Rattle.laws.proofs.Cells.{Passed, before, cell_of_at, cell_of_lem}
use Rattle.meaning.specs.Moves.{Single}
use Rattle.meaning.proofs.Places.{cell, within-cell, cell_in, in_order, layer_in, some_column, through, cell-left, cell_down, cell-right, cell-up}
use Rattle.meaning.proofs.Passes.{Settled, Reads, After, turn-none, turn_of}

module _ (F : Field) (lens : List ℕ) (ok : Passed F lens) where
  -- ---------------------------------------------------------------- pass 1

  pub reads1 : (s : ℕ) → s < spans F → Reads F 0 3 3 2 (λ t. t) s
  reads1 s h =
      record {
        first = λ i. in_order F lens ok s _ h i (omega (arith, (cell-left F lens ok s h i).0));
        second = λ i.
            let j = through F lens ok s 0 3 h (omega arith) i in
            in_order F lens ok s _ h i (omega (arith, (cell-left F lens ok s h j).0, cell-up F lens ok (near F s 0) j i));
        third = λ i. in_order F lens ok s _ h i (omega (arith, cell-up F lens ok s h i, some_column F lens ok s h));
        fourth = λ i.
            let j = through F lens ok s 3 2 h (omega arith) i in
            let r = cell-right F lens ok (near F s 3) j i in
            in_order F lens ok s _ h i (omega (arith, cell-up F lens ok s h j));
      }

  pub settled1 : (s : ℕ) → s < spans F → Settled F 0 3 3 2 (start F) (pass1 F (start F)) s
  unfolding pass1
  settled1 s h =
      (upto-ind (After F 0 3 3 2 (λ t. t) (start F)) (lower F 0 3 3 2) (start F) (spans F)
      (record { size = start-length F; done = λ t i g. absurd (omega arith); todo = λ t i g. refl })
      (λ k l g v. turn_of F 0 3 3 2 (λ t. t) reads1 (λ s t i j e. e) (start F) k k l g refl v)
      ).done s h h

  -- ---------------------------------------------------------------- pass 2

  module _ (single : Single F) where
    -- a cell's spans are one
    pub one_in_cell : (s t : ℕ) → s < spans F → t < spans F → cell F lens ok s ≡ cell F lens ok t → s ≡ t
    one_in_cell s t h g e =
        let a = within-cell F lens ok s h in
        let b = within-cell F lens ok t g in
        let c : before F.count (cell F lens ok s) ≡ before F.count (cell F lens ok t) = ap (before F.count) e in
        omega (arith, single (cell F lens ok s), single (cell F lens ok t))

    -- the turn of a span in pass 2
    turn2 : ℕ → ℕ
    turn2 s = F.w * F.h - 1 - cell F lens ok s

    reads2 : (s : ℕ) → s < spans F → Reads F 2 1 1 0 turn2 s
    unfolding turn2
    reads2 s h =
        record {
          first = λ i. later (near F s 2) i (omega (arith, (cell-right F lens ok s h i).0));
          second = λ i.
              let j = through F lens ok s 2 1 h (omega arith) i in
              later _ i (omega (arith, (cell-right F lens ok s h j).0, cell_down F lens ok (near F s 2) j i));
          third = λ i. later _ i (omega (arith, cell_down F lens ok s h i, some_column F lens ok s h));
          fourth = λ i.
              let j = through F lens ok s 1 0 h (omega arith) i in
              let r = cell-left F lens ok (near F s 1) j i in
              later _ i (omega (arith, cell_down F lens ok s h j));
        }
      where
        later : (t : ℕ) → t < spans F → cell F lens ok s < cell F lens ok t → turn2 t < turn2 s
        later t i g = omega (arith, cell_in F lens ok t i)

    same_turn : (s t : ℕ) → s < spans F → t < spans F → turn2 s ≡ turn2 t → s ≡ t
    unfolding turn2
    same_turn s t h g e = one_in_cell s t h g (omega (arith, cell_in F lens ok s h, cell_in F lens ok t g))

    -- cell c, which has one span or none
    cell-turn : (m : List ℕ) (k c : ℕ) (l : List ℕ) → c + suc k ≡ F.w * F.h → After F 2 1 1 0 turn2 m k l
        → After F 2 1 1 0 turn2 m (suc k) (upto (get_or F.count c 0) (λ j l. lower F 2 1 1 0 (get_or F.index c 0 + j) l) l)
    unfolding upto turn2
    cell-turn m k c l g v =
        elim (ℕ_discrete (get_or F.count c 0) 0) [
          | yes e ↦ rw e (turn-none F 2 1 1 0 turn2 reads2 same_turn m k l
              (λ s h i. let y : cell F lens ok s ≡ c = omega (arith, cell_in F lens ok s h) in let n : get_or F.count (cell F lens ok s) 0 ≡ 0 = rw y e in omega (arith, within-cell F lens ok s h)) v)
          | no e ↦
              let one : get_or F.count c 0 ≡ 1 = omega (arith, single c) in
              let u = get_or F.index c 0 + 0 in
              let h : u < spans F = layer_in F lens ok c 0 (omega arith) in
              let b : u ≡ before F.count c + 0 = omega (arith, (cell_of_lem F lens ok c).starts (omega arith)) in
              let y : cell F lens ok u ≡ c = rw b (cell_of_at F.count c 0 (omega arith)) in
              rw one (turn_of F 2 1 1 0 turn2 reads2 same_turn m k u l h (omega arith) v)
        ]

    pub settled2 : (s : ℕ) → s < spans F → Settled F 2 1 1 0 (pass1 F (start F)) (raw F) s
    unfolding raw pass2 turn2
    settled2 s h =
        (upto-ind (After F 2 1 1 0 turn2 (pass1 F (start F))) _ (pass1 F (start F)) (F.w * F.h)
        (record { size = pass1-length F (start F) ∙ start-length F; done = λ t i g. absurd (omega arith); todo = λ t i g. refl })
        (λ k l g v. cell-turn (pass1 F (start F)) k (F.w * F.h - 1 - k) l (omega arith) v)
        ).done s h (omega (arith, cell_in F lens ok s h))
