-- After the turns the level stacks are zeroed, and all is there for the last expansion. Assumes nothing.
use Prim.Native.Nat.{ℕ, zero, suc, ◌*◌, ◌≤◌}
use native.Mathlib.Omega.{arith}
use mathlib.Core.Path.{◌≡◌, refl, sym, ap, ◌∙◌}
use mathlib.Core.Bool.{Bool, true, false}
use mathlib.Core.List.{List, []}
use lib.ListN.{length, get_or, drop, replicate}
use Rattle.rules.specs.Base.{when◌then◌else◌}
use Rattle.rules.specs.Net.{Net}
use Rattle.rules.specs.Growth.{Marks, expand, expand_strays, or_else, blank, turns_stop}
use Rattle.rules.specs.Reasons.{Story, begins, expand_tells, turns_tell}
use Rattle.space.specs.Space.{Frame, Clear}
use Rattle.space.proofs.Laws.{get_d_after}
use Rattle.net.specs.declared.Sections.{Sections}
use Rattle.net.specs.Table.{net_at, Mutual}
use Rattle.flood.specs.Stack.{marks_at}
use Rattle.expand.specs.Layout.{Last}
use Rattle.expand.proofs.Lists.{marks_same}
use Rattle.growth.specs.Turns.{Between, begun, turns_of, AllTurns}
use Rattle.growth.specs.Grow.{turns_for, stops_of, tells_of, Grew, Settled}
use Rattle.growth.proofs.FloodLaws.{past_same}
use Rattle.growth.proofs.KeptLaws.{few_spans, flags_clear, kept_net}

or_some : (a b : ℕ) → (a ≡ 0 → ⊥) → or_else a b ≡ a
unfolding or_else
or_some zero b z = absurd (z refl)
or_some (suc a) b z = refl

-- the turns are stopped
pub grew_stopped : (ar dist : List ℕ) (table most next : ℕ) (ids ws : List ℕ) (count : ℕ) → count ≡ turns_for most → (id stop : ℕ) (ids₁ ws₁ : List ℕ)
    → AllTurns ar dist table count next ids ws id stop ids₁ ws₁ → (stop ≡ 0 → ⊥) → Grew ar dist table most next ids ws id stop ids₁ ws₁
unfolding stops_of
grew_stopped ar dist table most next ids ws count c id stop ids₁ ws₁ e z = record {
  past = e.past;
  stops = rw c at e.stops ∙ sym (or_some _ _ (λ q. z (e.stops ∙ rw c q)));
  stacks = λ q. absurd (z q);
  marks = λ q. absurd (z q);
  id = λ q. absurd (z q);
}

module _ (ar con dist : List ℕ) (at : Sections) (most next : ℕ) (ids ws : List ℕ) (v : Between ar con at next [] 7 ids ws) (count : ℕ) (c : count ≡ turns_for most)
    (id stop : ℕ) (ids₁ ws₁ : List ℕ) (size₁ : length ws₁ ≡ length ws) (e : AllTurns ar dist at.table count next ids ws id stop ids₁ ws₁) (g : stop ≡ 0)
    (ws₂ : List ℕ) (size₂ : length ws₂ ≡ length ws₁) (z : Clear (length ar) at.changes ws₂) (f : Frame (length ar) at.changes ws₁ ws₂) where
  past₂ : (x : ℕ) → 9 * length ar ≤ x → get_or ws₂ x 0 ≡ get_or ws x 0
  past₂ x h = get_d_after x f (omega (arith, v.laid.changes)) ∙ e.past x h

  net₂ : net_at at.table ar ws₂ ≡ net_at at.table ar ws
  net₂ = kept_net ar con at next [] 7 ids ws v ws₂ (size₂ ∙ size₁) past₂

  marks₂ : marks_at (length ar) ids₁ ws₂ ≡ (turns_of (net_at at.table ar ws) dist (turns_for most) (length ar) ids ws next (turns_for most)).marks
  marks₂ = marks_same (length ar) ids₁ ws₁ ws₂ f.before ∙ e.marks g ∙ rw c

  pub last_mutual : Mutual (net_at at.table ar ws₂)
  last_mutual = rw net₂ v.both_ways

  pub last_ready : Last (length ar) at.changes at.table ids₁ ws₂
  last_ready = record {
    sizes = record {
      few = few_spans ar con at next [] 7 ids ws v;
      idents = (e.ids_below g).size;
      low = omega arith;
      apart = omega (arith, v.laid.changes);
      past = omega (arith, v.laid.changes, v.laid.past);
      room = omega (arith, v.lent.room, size₁, size₂);
      close = v.lent.place;
    };
    stack = record { blank = λ x l u. z.blank x l (omega (arith, v.laid.changes)) };
    clear = record { blank = λ x l u. past₂ x (omega (arith, v.laid.changes)) ∙ (flags_clear ar con at next [] 7 ids ws v).blank x l u };
  }

  module _ (ids₃ ws₃ : List ℕ) (m : marks_at (length ar) ids₃ ws₃ ≡ (expand (net_at at.table ar ws₂) 0 (marks_at (length ar) ids₁ ws₂) (blank ar ids₁)).marks)
      (o : Bool) (q : o ≡ expand_strays (net_at at.table ar ws₂) 0 (marks_at (length ar) ids₁ ws₂) (blank ar ids₁))
      (d : drop (length ar) ws₃ ≡ drop (length ar) ws₂) where
    past₃ : (x : ℕ) → 9 * length ar ≤ x → get_or ws₃ x 0 ≡ get_or ws x 0
    past₃ x h = past_same (length ar) x ws₂ ws₃ (omega arith) d ∙ past₂ x h

    last_stop : (when o then 13 else 0) ≡ stops_of (net_at at.table ar ws) ar dist (turns_for most) (record { marks = marks_at (length ar) ids ws; stacks = []; next = next })
    unfolding stops_of or_else
    last_stop =
        let none : turns_stop (net_at at.table ar ws) dist (2 * turns_for most) (turns_for most) (record { marks = marks_at (length ar) ids ws; stacks = []; next = next }) ≡ 0
        = sym (rw c at e.stops) ∙ g in
        rw none (ap (λ (y : Bool). when y then 13 else 0) (q ∙ strays_is _ _ _ _ net₂ marks₂))
      where
        strays_is : (N N' : Net) (x y : Marks) → N ≡ N' → x ≡ y → expand_strays N 0 x (blank ar x.ids) ≡ expand_strays N' 0 y (blank ar y.ids)
        strays_is N N' x y p q = rw (p, q)

    -- the last expansion is stopped
    pub grew_strayed : (last : ℕ) → o ≡ true → Grew ar dist at.table most next ids ws last 13 ids₃ ws₃
    unfolding when◌then◌else◌
    grew_strayed last y = record {
      past = past₃;
      stops = rw y at last_stop;
      stacks = λ q. absurd (omega arith);
      marks = λ q. absurd (omega arith);
      id = λ q. absurd (omega arith);
    }

    pub grew : o ≡ false → Grew ar dist at.table most next ids ws id stop ids₃ ws₃
    unfolding when◌then◌else◌
    grew y = record {
      past = past₃;
      stops = g ∙ rw y at last_stop;
      stacks = λ _. record { blank = λ x l u. past_same (length ar) x ws₂ ws₃ l d ∙ z.blank x l (omega (arith, v.laid.changes)) };
      marks = λ _. m ∙ last_is _ _ _ _ net₂ marks₂;
      id = λ _. e.id g ∙ rw c;
    }
      where
        last_is : (N N' : Net) (x y : Marks) → N ≡ N' → x ≡ y → (expand N 0 x (blank ar x.ids)).marks ≡ (expand N' 0 y (blank ar y.ids)).marks
        last_is N N' x y p q = rw (p, q)

  pub grew_told : (y₀ y₁ y₂ : Story) → y₁ ≡ turns_tell (net_at at.table ar ws) dist (2 * count) count (begun (length ar) ids ws next) y₀
      → y₂ ≡ expand_tells (net_at at.table ar ws₂) 0 (marks_at (length ar) ids₁ ws₂) (blank ar ids₁) y₁
      → y₂ ≡ tells_of (net_at at.table ar ws) ar dist (turns_for most) (begun (length ar) ids ws next) y₀
  unfolding tells_of
  grew_told y₀ y₁ y₂ p q = q ∙ tells_is _ _ _ _ y₁ _ net₂ marks₂ (rw c at p)
    where
      tells_is : (N N' : Net) (x y : Marks) (t t' : Story) → N ≡ N' → x ≡ y → t ≡ t' → expand_tells N 0 x (blank ar x.ids) t ≡ expand_tells N' 0 y (blank ar y.ids) t'
      tells_is N N' x y t t' p q r = rw (p, q, r)

-- ---------------------------------------------------------------- what is handed on

pub settled_stop : (s next stop : ℕ) (y y' : Story) (ids ws ids' ws' : List ℕ) → (stop ≡ 0 → ⊥) → ids' ≡ replicate (length ids) 0 → Clear 0 (9 * length ids) ws'
    → Frame 0 (9 * length ids) ws ws' → y' ≡ begins s → Settled s next stop y ids ws 0 stop y' ids' ws'
settled_stop s next stop y y' ids ws ids' ws' o e z f t = record {
  same = refl;
  past = λ x h. get_d_after x f h;
  sources = record { blank = λ x l u. z.blank x l (omega arith) };
  id = λ q. absurd (o q);
  told = λ q. absurd (o q);
  kept = λ q. absurd (o q);
  stacks = λ q. absurd (o q);
  no_id = λ _. refl;
  untold = λ _. t;
  no_ids = λ _. e;
  no_stacks = λ _. z;
}

pub settled_go : (s next stop : ℕ) (y : Story) (ids ws ws' : List ℕ) → stop ≡ 0 → Clear 0 (length ids) ws' → Frame 0 (length ids) ws ws' → Settled s next stop y ids ws next stop y ids ws'
settled_go s next stop y ids ws ws' o z f = record {
  same = refl;
  past = λ x h. get_d_after x f (omega arith);
  sources = z;
  id = λ _. refl;
  told = λ _. refl;
  kept = λ _. refl;
  stacks = λ _ x h. get_d_after x f h;
  no_id = λ q. absurd (q o);
  untold = λ q. absurd (q o);
  no_ids = λ q. absurd (q o);
  no_stacks = λ q. absurd (q o);
}
