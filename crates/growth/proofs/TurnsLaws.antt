-- Turn after turn: what k turns leave, with the next turn, is what k + 1 turns leave (`SomeTurns`). Assumes nothing.
use Prim.Native.Nat.{ℕ, zero, suc, ◌+◌, ◌-◌, ◌*◌, ◌%◌, ◌≤◌, ◌<◌}
use native.Mathlib.Decide.{ℕ_discrete}
use native.Mathlib.Omega.{arith}
use mathlib.Core.Path.{◌≡◌, refl, sym, ap, ◌∙◌}
use mathlib.Core.List.{List, []}
use lib.ListN.{length}
use Rattle.rules.specs.Base.{upto}
use Rattle.rules.specs.Net.{Net}
use Rattle.rules.specs.Growth.{or_else, Turn, turn, turn_stops, turns_stop}
use Rattle.rules.specs.Reasons.{Story, turn_tells, turns_tell}
use Rattle.net.specs.declared.Sections.{Sections}
use Rattle.net.specs.Table.{net_at}
use Rattle.flood.specs.Stack.{marks_at}
use Rattle.growth.specs.Turns.{stacks_at, Between, Turned, TurnTold, turn_at, stops_at, tells_at, begun, turns_of, SomeTurns, AllTurns}
use Rattle.growth.proofs.KeptLaws.{kept_net, kept_between}

turn_at_lem : (N : Net) (dist : List ℕ) (top k : ℕ) (t : Turn) → turn N dist top k t ≡ turn_at N dist (top - 2 * (k + 1)) (k % 8) t
unfolding turn turn_at
turn_at_lem N dist top k t = refl

stops_at_lem : (N : Net) (dist : List ℕ) (top k : ℕ) (t : Turn) → turn_stops N dist top k t ≡ stops_at N dist (top - 2 * (k + 1)) (k % 8) t
unfolding turn_stops stops_at
stops_at_lem N dist top k t = refl

tells_at_lem : (N : Net) (dist : List ℕ) (top k : ℕ) (t : Turn) (y : Story) → turn_tells N dist top k t y ≡ tells_at N dist (top - 2 * (k + 1)) (k % 8) t y
unfolding turn_tells tells_at
tells_at_lem N dist top k t y = refl

or-first : (a b r : ℕ) → 0 < r → a ≡ r → or_else a b ≡ r
unfolding or_else
or-first zero b r p e = absurd (omega arith)
or-first (suc a) b r p e = e

-- the first turn that is stopped stops them all
stopped_on : (N : Net) (dist : List ℕ) (top : ℕ) (t : Turn) (k n r : ℕ) → k ≤ n → 0 < r → turns_stop N dist top k t ≡ r → turns_stop N dist top n t ≡ r
unfolding turns_stop
stopped_on N dist top t k zero r h p e = let z : k ≡ 0 = omega arith in rw z at e
stopped_on N dist top t k (suc n) r h p e =
    elim (ℕ_discrete k (suc n)) [
      | yes q ↦ rw q at e
      | no q ↦ or-first _ _ r p (stopped_on N dist top t k n r (omega arith) p e)
    ]

module _ (ar con dist : List ℕ) (at : Sections) (count next : ℕ) (ids ws : List ℕ) (b : Between ar con at next [] 7 ids ws) where
  pub told-first : (y : Story) → y ≡ turns_tell (net_at at.table ar ws) dist (2 * count) 0 (begun (length ar) ids ws next) y
  unfolding turns_tell
  told-first y = refl

  -- no turn yet: the turn before the first has number 7, so its stacks are thrown away
  pub turns_start : (fs : List ℕ) → SomeTurns ar con dist at count next ids ws 0 next fs 7 ids ws
  unfolding upto turns_stop
  turns_start fs = record {
    turn = refl;
    between = kept_between ar con at next [] 7 ids ws b ws refl (λ x h. refl) next fs 7 ids b.turn b.ids_below
        (record { fits = λ h. absurd (h refl); stacked = λ h. absurd (h refl) });
    size = refl;
    past = λ x h. refl;
    same = record { marks = refl; id = refl; stacks = λ h. absurd (h refl) };
    goes = refl;
  }

  module _ (k id : ℕ) (fs : List ℕ) (j : ℕ) (ids₁ ws₁ : List ℕ) (v : SomeTurns ar con dist at count next ids ws k id fs j ids₁ ws₁) where
    module _ (level : ℕ) (e : level ≡ 2 * count - 2 * (k + 1)) (id' stop : ℕ) (fs' : List ℕ) (j' : ℕ) (ids₂ ws₂ : List ℕ)
        (t : Turned ar con dist at id fs j level ids₁ ws₁ id' stop fs' j' ids₂ ws₂) where
      abbrev N : Net
      N = net_at at.table ar ws

      abbrev start : Turn
      start = record { marks = marks_at (length ar) ids ws; stacks = []; next = next }

      net_is : net_at at.table ar ws₁ ≡ N
      net_is = kept_net ar con at next [] 7 ids ws b ws₁ v.size v.past

      stop_is : turns_stop N dist (2 * count) (suc k) start ≡ stop
      unfolding turns_stop or_else
      stop_is = rw v.goes (stops_at_lem N dist (2 * count) k _ ∙ sym (t.stops (turns_of N dist count (length ar) ids ws next k) v.same ∙ rw (net_is, v.turn, e)))

      pub turns_next : stop ≡ 0 → SomeTurns ar con dist at count next ids ws (suc k) id' fs' j' ids₂ ws₂
      unfolding upto
      turns_next z =
          let u = t.went z in
          let q = u.same (turns_of N dist count (length ar) ids ws next k) v.same in
          let r : turns_of N dist count (length ar) ids ws next (suc k) ≡ record { marks = marks_at (length ar) ids₂ ws₂; stacks = stacks_at (length ar) ws₂ fs'; next = id' }
          = turn_at_lem N dist (2 * count) k _ ∙ sym (q ∙ rw (net_is, v.turn, e)) in
          record {
            turn = omega (arith, u.turn, v.turn);
            between = u.between;
            size = t.size ∙ v.size;
            past = λ x h. t.past x h ∙ v.past x h;
            same = record { marks = ap (λ (z : Turn). z.marks) r; id = ap (λ (z : Turn). z.next) r; stacks = λ _. ap (λ (z : Turn). z.stacks) r };
            goes = stop_is ∙ z;
          }

      pub turns_told : stop ≡ 0 → (y₀ y y' : Story) → y ≡ turns_tell N dist (2 * count) k start y₀ → TurnTold ar dist at.table id fs j level ids₁ ws₁ stop y y'
          → y' ≡ turns_tell N dist (2 * count) (suc k) start y₀
      unfolding turns_tell
      turns_told z y₀ y y' p q =
          let r = q.told z (turns_of N dist count (length ar) ids ws next k) v.same in
          r ∙ rw (net_is, v.turn, e, ← p) (sym (tells_at_lem N dist (2 * count) k _ y))

      pub turns_stopped : suc k ≤ count → (stop ≡ 0 → ⊥) → (last : ℕ) → AllTurns ar dist at.table count next ids ws last stop ids₂ ws₂
      turns_stopped h z last = record {
        past = λ x h. t.past x h ∙ v.past x h;
        stops = sym (stopped_on N dist (2 * count) start (suc k) count stop h (omega arith) stop_is);
        ids_below = λ q. absurd (z q);
        marks = λ q. absurd (z q);
        id = λ q. absurd (z q);
      }

    pub turns_end : k ≡ count → AllTurns ar dist at.table count next ids ws id 0 ids₁ ws₁
    turns_end e = record {
      past = v.past;
      stops = sym (rw e at v.goes);
      ids_below = λ _. v.between.ids_below;
      marks = λ _. sym v.same.marks ∙ rw e;
      id = λ _. sym v.same.id ∙ rw e;
    }
