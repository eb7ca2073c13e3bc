-- Flags of a stack's entries, one after another (`Flagging`): the flag of each entry before j is v, and any other is as it was. Assumes nothing.
use mathlib.Core.Path.{◌≡◌, refl, sym, ◌∙◌}
use mathlib.Core.Logic.{⊎_elim, inl, inr}
use mathlib.Core.List.{List}
use Prim.Native.Nat.{ℕ, ◌+◌, ◌≤◌, ◌<◌}
use native.Mathlib.Omega.{arith}
use native.Mathlib.Decide.{ℕ_discrete, dec_lt}
use lib.ListN.{length, get_or, set, length-set}
use lib.Seq.{get_or-set_same, get_or-set_other}
use borrow.Author.Tests.{eq-eqb, ne_eqb}
use Rattle.rules.specs.Base.{when◌then◌else◌}
use Rattle.rules.specs.Field.{none}
use Rattle.expand.specs.Layout.{flagged}
use Rattle.expand.specs.Front.{Entry, Flagging}

module _ (f s v : ℕ) (ws : List ℕ) where
  pub flagged_no : s ≡ none → flagged f s v ws ≡ ws
  unfolding flagged when◌then◌else◌
  flagged_no z = rw (eq-eqb _ _ z)

  pub flagged_yes : (s ≡ none → ⊥) → flagged f s v ws ≡ set ws (f + s) v
  unfolding flagged when◌then◌else◌
  flagged_yes z = rw (ne_eqb _ _ z)

module _ (n a f fill v : ℕ) (ws₀ : List ℕ) where
  pub flagging_start : Flagging n a f fill v ws₀ ws₀ 0
  flagging_start = record { within = omega arith; size = refl; same = λ x y. refl; done = λ i h. absurd (omega arith); else = λ x h. inl refl }

  module _ (ws : List ℕ) (j : ℕ) (t : Flagging n a f fill v ws₀ ws j) (apart : a + fill ≤ f) (h : j < fill) where
    entry_same : get_or ws (a + j) 0 ≡ get_or ws₀ (a + j) 0
    entry_same = t.same (a + j) (inl (omega arith))

    more : (x : ℕ) → Entry ws₀ a j x → Entry ws₀ a (j + 1) x
    more x y = record { at = y.at; below = omega (arith, y.below); is = y.is }

    -- the flag of the next entry, s, is v
    pub flagging_next : (s : ℕ) → s ≡ get_or ws (a + j) 0 → ((s ≡ none → ⊥) → s < n) → f + n ≤ length ws → Flagging n a f fill v ws₀ (flagged f s v ws) (j + 1)
    flagging_next s q span room = elim (ℕ_discrete s none) [
      | yes y ↦ rw (flagged_no f s v ws y) (skip (sym q ∙ y))
      | no y ↦ (let l = span y in rw (flagged_yes f s v ws y) (go s (q ∙ entry_same) l (omega arith)))
    ]
      where
        skip : get_or ws (a + j) 0 ≡ none → Flagging n a f fill v ws₀ ws (j + 1)
        skip y = record {
          within = omega arith;
          size = t.size;
          same = t.same;
          done = λ i l u. elim (dec_lt i j) [
            | yes g ↦ t.done i g u
            | no g ↦ let r : i ≡ j = omega arith in absurd (u (rw r (sym entry_same ∙ y)))
          ];
          else = λ x l. ⊎_elim (λ (g : get_or ws (f + x) 0 ≡ get_or ws₀ (f + x) 0). inl g) (λ (g : Entry ws₀ a j x). inr (more x g)) (t.else x l);
        }

        go : (s : ℕ) → s ≡ get_or ws₀ (a + j) 0 → s < n → f + s < length ws → Flagging n a f fill v ws₀ (set ws (f + s) v) (j + 1)
        go s r l k = record {
          within = omega arith;
          size = length-set ws _ _ ∙ t.size;
          same = λ x y. get_or-set_other ws (f + s) x v 0 (λ g. ⊎_elim (λ (o : x < f). omega arith) (λ (o : f + n ≤ x). omega arith) y) ∙ t.same x y;
          done = λ i o u. elim (ℕ_discrete (get_or ws₀ (a + i) 0) s) [
            | yes g ↦ rw g (get_or-set_same ws (f + s) v 0 k)
            | no g ↦ elim (dec_lt i j) [
              | yes m ↦ get_or-set_other ws (f + s) (f + get_or ws₀ (a + i) 0) v 0 (λ y. g (omega arith)) ∙ t.done i m u
              | no m ↦ let y : i ≡ j = omega arith in absurd (g (rw y (sym r)))
            ]
          ];
          else = λ x o. elim (ℕ_discrete x s) [
            | yes g ↦ inr (record { at = j; below = omega arith; is = sym r ∙ sym g })
            | no g ↦ ⊎_elim
                (λ (y : get_or ws (f + x) 0 ≡ get_or ws₀ (f + x) 0). inl (get_or-set_other ws (f + s) (f + x) v 0 (λ z. g (omega arith)) ∙ y))
                (λ (y : Entry ws₀ a j x). inr (more x y)) (t.else x o)
          ];
        }

    -- place a + j of the stack, whose flag is not set yet, is set to y in both
    pub flagging_beside : (y : ℕ) → a + j < length ws → Flagging n a f fill v (set ws₀ (a + j) y) (set ws (a + j) y) j
    flagging_beside y room = record {
      within = t.within;
      size = length-set ws (a + j) y ∙ t.size ∙ sym (length-set ws₀ (a + j) y);
      same = λ x o. elim (ℕ_discrete x (a + j)) [
        | yes e ↦ rw e (get_or-set_same ws (a + j) y 0 room ∙ sym (get_or-set_same ws₀ (a + j) y 0 (omega (arith, t.size))))
        | no e ↦ get_or-set_other ws (a + j) x y 0 e ∙ t.same x o ∙ sym (get_or-set_other ws₀ (a + j) x y 0 e)
      ];
      done = λ i l u.
          let e = before i l in
          rw e (get_or-set_other ws (a + j) (f + get_or ws₀ (a + i) 0) y 0 (λ z. omega arith) ∙ t.done i l (λ z. u (e ∙ z)));
      else = λ x l. ⊎_elim
          (λ (z : get_or ws (f + x) 0 ≡ get_or ws₀ (f + x) 0). inl (get_or-set_other ws (a + j) (f + x) y 0 (λ e. omega arith) ∙ z ∙ sym (get_or-set_other ws₀ (a + j) (f + x) y 0 (λ e. omega arith))))
          (λ (z : Entry ws₀ a j x). inr (record { at = z.at; below = z.below; is = before z.at z.below ∙ z.is })) (t.else x l);
    }
      where
        before : (i : ℕ) → i < j → get_or (set ws₀ (a + j) y) (a + i) 0 ≡ get_or ws₀ (a + i) 0
        before i l = get_or-set_other ws₀ (a + j) (a + i) y 0 (λ e. omega arith)
