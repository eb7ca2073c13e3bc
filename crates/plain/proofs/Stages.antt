-- The entry's stages one after the other: what each leaves is what the next asks, and what the last gives is the rule's. The caller's ids stand
-- between the stack and the table, where none of them writes. Assumes nothing.
use Prim.Native.Nat.{ℕ, ◌+◌, ◌-◌, ◌*◌, ◌≤◌, ◌<◌}
use native.Mathlib.Omega.{arith}
use mathlib.Core.Path.{◌≡◌, refl, ap, ◌∙◌}
use mathlib.Core.List.{List, []}
use lib.ListN.{length, take, drop, replicate, length-replicate}
use Rattle.rules.specs.Base.{upto}
use Rattle.rules.specs.Field.{Field}
use Rattle.rules.specs.Net.{net_of}
use Rattle.rules.specs.Growth.{painted}
use Rattle.rules.specs.Refusals.{most_spans}
use Rattle.rules.specs.Plain.{Rooms, begins, plain_rooms, most_rooms}
use Rattle.laws.proofs.Lengths.{painted-length}
use Rattle.space.specs.Space.{sec, Frame}
use Rattle.space.proofs.Laws.{sec_before}
use Rattle.field.specs.Lent.{lent, Reached}
use Rattle.field.proofs.Passed.{sound_reached}
use Rattle.paint.specs.Paint.{Plot}
use Rattle.net.specs.Table.{net_at}
use Rattle.net.proofs.Fills.{mutual_of}
use Rattle.plain.specs.Stack.{Held, rooms_at}
use Rattle.plain.specs.Stages.{Admitted, Finds}

-- a part from a to e, lent
pub part_is : (a n e : ℕ) (ws l : List ℕ) → e ≡ a + n → l ≡ sec a (e - a) ws → l ≡ sec a n ws
part_is a n e ws l p q = let k : e - a ≡ n = omega arith in q ∙ rw k

module _ (w h : ℕ) (is ks ar cs ws ids : List ℕ) (a : Admitted (lent w h is ks ar cs) ws ids) where
  abbrev F : Field
  F = lent w h is ks ar cs

  pub field_reached : Reached (lent w h is ks ar cs)
  field_reached = sound_reached F a.sound

  pub field_few : length ar ≤ most_spans
  field_few = field_reached.celled.few

  pub cells_are : length ks ≡ w * h
  cells_are = field_reached.celled.counted

  pub plot_of : Plot is ks (length ar)
  plot_of = record { F = F; lens = []; ok = a.sound; index_is = refl; count_is = refl; n_is = refl }

  pub zeros_are : (ids₁ : List ℕ) → ids₁ ≡ replicate (length ids) 0 → ids₁ ≡ replicate (length ar) 0
  zeros_are ids₁ e = e ∙ ap (λ (k : ℕ). replicate k 0) a.idents

  pub zeros_long : (ids₁ : List ℕ) → ids₁ ≡ replicate (length ids) 0 → length ids₁ ≡ length ar
  zeros_long ids₁ e = ap length e ∙ length-replicate (length ids) (let z : ℕ = 0 in z) ∙ a.idents

  -- painted, with the table filled
  module _ (border : ℕ) (ids₂ : List ℕ) (q : (G : Field) → G.w ≡ w → G.h ≡ h → G.count ≡ ks → G.area ≡ ar → ids₂ ≡ (painted G border).ids)
      (ws₁ ws₂ : List ℕ) (long₁ : length ws₁ ≡ length ws) (long₂ : length ws₂ ≡ length ws₁)
      (m : net_at (2 * length ar) ar ws₂ ≡ net_of (lent w h is ks ar cs)) (f : Frame (2 * length ar) (2 * length ar + 4 * length ar) ws₁ ws₂) where
    painted_ids : ids₂ ≡ (painted F border).ids
    painted_ids = q F refl refl refl refl

    pub held : Held (2 * length ar) ar ws₂
    held = record {
      closed = rw m (mutual_of F a.sound).closed;
      room = omega (arith, long₁, long₂, a.room);
      place = omega (arith, field_few);
      past = omega arith;
    }

    pub painted_long : length ids₂ ≡ length ar
    painted_long = ap length painted_ids ∙ painted-length F border

    -- and numbered
    module _ (kept : sec (length ar) (length ids) ws₁ ≡ ids) (most : ℕ) (ids₃ ws₃ : List ℕ) (u : drop (length ar) ws₃ ≡ drop (length ar) ws₂)
        (e : rooms_at ids₃ most ≡ upto (length ar) (begins (net_at (2 * length ar) ar ws₂)) (rooms_at ids₂ 0)) where
      rule : rooms_at ids₃ most ≡ plain_rooms F border
      unfolding plain_rooms
      rule = e ∙ rw (m, painted_ids)

      pub finds_rooms : most ≤ most_rooms → Finds (lent w h is ks ar cs) border ids most ids₃
      finds_rooms l = record { rooms = ap (λ (r : Rooms). r.most) rule; done = λ _. ap (λ (r : Rooms). r.ids) rule; back = λ g. absurd (omega arith) }

      -- what stands before the table is what was kept
      pub kept_ids : sec (length ar) (length ids) ws₃ ≡ ids
      kept_ids = ap (take (length ids)) u ∙ sec_before (length ar) (length ids) f (omega (arith, a.idents)) ∙ kept

      pub finds-none : (ids₄ : List ℕ) (n : ℕ) → n ≡ length ids → ids₄ ≡ sec (length ar) n ws₃ → most_rooms < most → Finds (lent w h is ks ar cs) border ids most ids₄
      finds-none ids₄ n s p g = record { rooms = ap (λ (r : Rooms). r.most) rule; done = λ l. absurd (omega arith); back = λ _. p ∙ rw s kept_ids }
