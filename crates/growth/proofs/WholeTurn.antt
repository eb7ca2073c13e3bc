-- A turn: the stacks are loaded, the turn's is expanded and flooded from, and all is there for the next. Assumes nothing.
use Prim.Native.Nat.{ℕ, ◌+◌, ◌-◌, ◌*◌, ◌≤◌, ◌<◌}
use native.Mathlib.Omega.{arith}
use native.Mathlib.Nat.{mod-lt}
use native.Mathlib.Decide.{ℕ_discrete}
use mathlib.Core.Path.{◌≡◌, sym, ap, ◌∙◌}
use mathlib.Core.Bool.{Bool, true, false}
use mathlib.Core.List.{List, []}
use lib.ListN.{length, get_or, set}
use lib.Dec.{eqb}
use borrow.Author.Tests.{eq-eqb, ne_eqb}
use Rattle.rules.specs.Base.{when◌then◌else◌}
use Rattle.rules.specs.Net.{Net}
use Rattle.rules.specs.Growth.{Marks, sorted, remains, Turn, loaded, Spread, expand, expand_strays, Ids, floods, floods_run_out}
use Rattle.rules.specs.Reasons.{Story, expand_tells, floods_tell}
use Rattle.space.specs.Space.{sec}
use Rattle.net.specs.declared.Sections.{Sections}
use Rattle.net.specs.Table.{net_at}
use Rattle.flood.specs.Stack.{marks_at}
use Rattle.expand.proofs.Lists.{marks_same}
use Rattle.levels.specs.Levels.{appended}
use Rattle.levels.proofs.TurnLaws.{loaded-first, loaded_next}
use Rattle.growth.specs.Turns.{after, stacks_at, stack_of, Loaded, Ready, Expanded, Flooded, Between, TurnIs, Turned, TurnTold, turn_at, stops_at, tells_at}
use Rattle.growth.proofs.KeptLaws.{kept_net, kept_between}

turn_eq : {a a' : Marks} {s s' : List (List ℕ)} {n n' : ℕ} → a ≡ a' → s ≡ s' → n ≡ n' → ◌≡◌ {A = Turn} (record { marks = a; stacks = s; next = n }) (record { marks = a'; stacks = s'; next = n' })
turn_eq p q r = rw (p, q, r)

-- what is loaded is the rule's, for the rule's turn that stands there
module _ (b : ℕ) (ar dist ids : List ℕ) (level : ℕ) (fs : List ℕ) (j : ℕ) (ws fs' : List ℕ) (j' : ℕ) (ws₁ : List ℕ) (next : ℕ) (t : Turn) (small : j < 8)
    (l : Loaded ar dist ids level fs j ws fs' j' ws₁) (o : TurnIs (length ar) next fs j ids ws t) where
  ids_are : t.marks.ids ≡ ids
  ids_are = ap (λ (m : Marks). m.ids) o.marks

  first_is : after j ≡ 0 → loaded (net_at b ar ws) dist level (after j) t ≡ sorted ar dist ids level
  unfolding net_at
  first_is z = rw (z, ← ids_are) (loaded-first (net_at b ar ws) dist level t)

  later_is : (after j ≡ 0 → ⊥)
      → loaded (net_at b ar ws) dist level (after j) t ≡ appended (after j) (remains ids (get_or (stacks_at (length ar) ws fs) j [])) (stacks_at (length ar) ws fs)
  later_is z =
      let p : 0 < after j = omega arith in
      let q : after j - 1 ≡ j = omega arith in
      loaded_next (net_at b ar ws) dist level (after j) t p ∙ rw (q, ids_are, o.stacks z)

  load_is : stacks_at (length ar) ws₁ fs' ≡ loaded (net_at b ar ws) dist level j' t
  load_is = rw l.turn (elim (ℕ_discrete (after j) 0) [
    | yes z ↦ l.first z ∙ sym (first_is z)
    | no z ↦ l.later z ∙ sym (later_is z)
  ])

module _ (ar con dist : List ℕ) (at : Sections) (next : ℕ) (fs : List ℕ) (j level : ℕ) (ids ws : List ℕ) (v : Between ar con at next fs j ids ws)
    (fs' : List ℕ) (j' : ℕ) (ws₁ : List ℕ) (size₁ : length ws₁ ≡ length ws) (l : Loaded ar dist ids level fs j ws fs' j' ws₁) where
  marks₁ : marks_at (length ar) ids ws₁ ≡ marks_at (length ar) ids ws
  marks₁ = marks_same (length ar) ids ws ws₁ l.marks

  net₁ : net_at at.table ar ws₁ ≡ net_at at.table ar ws
  net₁ = kept_net ar con at next fs j ids ws v ws₁ size₁ l.past

  number : j' < 8
  number = rw l.turn (mod-lt (j + 1) (omega arith))

  pub ready_turn : Ready ar con at next fs' j' ids ws₁
  ready_turn = record {
    between = kept_between ar con at next fs j ids ws v ws₁ size₁ l.past next fs' j' ids number v.ids_below
        (record { fits = λ _. l.fits; stacked = λ _. rw l.turn l.stacked });
    fits = l.fits;
    stacked = rw l.turn l.stacked;
  }

  abbrev N : Net
  N = net_at at.table ar ws

  -- the turn's entries, as the rule has them
  abbrev entries : Turn → List ℕ
  entries t = get_or (loaded N dist level j' t) j' []

  loaded_is : (t : Turn) → TurnIs (length ar) next fs j ids ws t → stacks_at (length ar) ws₁ fs' ≡ loaded N dist level j' t
  loaded_is t o = load_is at.table ar dist ids level fs j ws fs' j' ws₁ next t v.turn l o

  -- the expansion strays
  strays_is : (t : Turn) → TurnIs (length ar) next fs j ids ws t → (y : Bool)
      → y ≡ expand_strays (net_at at.table ar ws₁) level (marks_at (length ar) ids ws₁) (get_or (stacks_at (length ar) ws₁ fs') j' []) → y ≡ expand_strays N level t.marks (entries t)
  strays_is t o y e = e ∙ rw (net₁, marks₁, loaded_is t o, ← o.marks)

  pub turn_strayed : (ids₂ ws₂ : List ℕ) → Expanded ar con at next fs' j' level ids ws₁ ids₂ ws₂
      → (y : Bool) → y ≡ expand_strays (net_at at.table ar ws₁) level (marks_at (length ar) ids ws₁) (get_or (stacks_at (length ar) ws₁ fs') j' []) → y ≡ true
      → (id : ℕ) (fs₃ : List ℕ) (j₃ : ℕ) → Turned ar con dist at next fs j level ids ws id 13 fs₃ j₃ ids₂ ws₂
  unfolding stops_at when◌then◌else◌
  turn_strayed ids₂ ws₂ x y e z id fs₃ j₃ = record {
    size = x.size ∙ size₁;
    past = λ z h. x.past z h ∙ l.past z h;
    stops = λ t o. rw (← l.turn, sym (strays_is t o y e) ∙ z);
    went = λ q. absurd (omega arith);
  }

  module _ (ids₂ ws₂ : List ℕ) (x : Expanded ar con at next fs' j' level ids ws₁ ids₂ ws₂)
      (y : Bool) (ye : y ≡ expand_strays (net_at at.table ar ws₁) level (marks_at (length ar) ids ws₁) (get_or (stacks_at (length ar) ws₁ fs') j' [])) (yf : y ≡ false)
      (next' : ℕ) (ids₃ ws₃ : List ℕ) (f : Flooded ar con dist at next fs' j' level ids₂ ws₂ next' ids₃ ws₃) where
    net₂ : net_at at.table ar ws₂ ≡ N
    net₂ = kept_net ar con at next fs j ids ws v ws₂ (x.size ∙ size₁) (λ z h. x.past z h ∙ l.past z h)

    past₃ : (z : ℕ) → 9 * length ar ≤ z → get_or ws₃ z 0 ≡ get_or ws z 0
    past₃ z h = f.past z (omega arith) ∙ x.past z h ∙ l.past z h

    module _ (t : Turn) (o : TurnIs (length ar) next fs j ids ws t) where
      rule_expand : record { marks = marks_at (length ar) ids₂ ws₂; stack = stack_of (length ar) fs' j' ws₂ } ≡ expand N level t.marks (entries t)
      rule_expand = x.same ∙ rw (net₁, marks₁, loaded_is t o, ← o.marks)

      rule_out : floods_run_out (net_at at.table ar ws₂) dist level (stack_of (length ar) fs' j' ws₂) (marks_at (length ar) ids₂ ws₂) next
          ≡ floods_run_out N dist level (expand N level t.marks (entries t)).stack (expand N level t.marks (entries t)).marks t.next
      rule_out = rw (net₂, ← ap (λ (z : Spread). z.stack) rule_expand, ← ap (λ (z : Spread). z.marks) rule_expand, o.id)

      stops_is : (r : ℕ) → r ≡ (when eqb next' 0x8000 then 12 else 0) → r ≡ stops_at N dist level j' t
      unfolding stops_at when◌then◌else◌
      stops_is r q = q ∙ rw (sym (strays_is t o y ye) ∙ yf, f.out ∙ rule_out)

    pub turn_out : next' ≡ 0x8000 → (id : ℕ) (fs₃ : List ℕ) (j₃ : ℕ) → Turned ar con dist at next fs j level ids ws id 12 fs₃ j₃ ids₃ ws₃
    unfolding when◌then◌else◌
    turn_out z id fs₃ j₃ = record {
      size = f.size ∙ x.size ∙ size₁;
      past = past₃;
      stops = λ t o. rw (← l.turn) (stops_is t o 12 (rw (eq-eqb next' 0x8000 z)));
      went = λ q. absurd (omega arith);
    }

    module _ (z : next' ≡ 0x8000 → ⊥) where
      kept_on : floods_run_out (net_at at.table ar ws₂) dist level (stack_of (length ar) fs' j' ws₂) (marks_at (length ar) ids₂ ws₂) next ≡ false
      kept_on = sym f.out ∙ ne_eqb next' 0x8000 z

      rule : (t : Turn) → TurnIs (length ar) next fs j ids ws t
          → record { marks = marks_at (length ar) ids₃ ws₃; stacks = stacks_at (length ar) ws₃ fs'; next = next' } ≡ turn_at N dist level j' t
      unfolding turn_at
      rule t o =
          let e = rule_expand t o in
          let r : record { marks = marks_at (length ar) ids₃ ws₃; next = next' } ≡ floods N dist level (expand N level t.marks (entries t)).stack (expand N level t.marks (entries t)).marks t.next
          = f.same kept_on ∙ rw (net₂, ← ap (λ (z : Spread). z.stack) e, ← ap (λ (z : Spread). z.marks) e, o.id) in
          let k : stacks_at (length ar) ws₃ fs' ≡ set (loaded N dist level j' t) j' (expand N level t.marks (entries t)).stack
          = f.stacks ∙ x.stacks ∙ rw (loaded_is t o, ap (λ (z : Spread). z.stack) e) in
          turn_eq (ap (λ (z : Ids). z.marks) r) k (ap (λ (z : Ids). z.next) r)

      pub turned : Turned ar con dist at next fs j level ids ws next' 0 fs' j' ids₃ ws₃
      unfolding when◌then◌else◌
      turned = record {
        size = f.size ∙ x.size ∙ size₁;
        past = past₃;
        stops = λ t o. rw (← l.turn) (stops_is t o 0 (rw (ne_eqb next' 0x8000 z)));
        went = λ _. record { turn = l.turn; between = (f.ready kept_on).between; same = λ t o. rule t o ∙ rw l.turn };
      }

      pub turn-told : (a fill : ℕ) → a ≡ length ar + j' * length ar → fill ≡ get_or fs' j' 0 → (y₀ y₁ y₂ : Story)
          → y₁ ≡ expand_tells (net_at at.table ar ws₁) level (marks_at (length ar) ids ws₁) (get_or (stacks_at (length ar) ws₁ fs') j' []) y₀
          → y₂ ≡ floods_tell (net_at at.table ar ws₂) dist level (sec a fill ws₂) (marks_at (length ar) ids₂ ws₂) next y₁
          → TurnTold ar dist at.table next fs j level ids ws 0 y₀ y₂
      unfolding tells_at
      turn-told a fill ea ef y₀ y₁ y₂ p q = record {
        told = λ _ t o.
            let e = rule_expand t o in
            let p' : y₁ ≡ expand_tells N level t.marks (entries t) y₀ = p ∙ rw (net₁, marks₁, loaded_is t o, ← o.marks) in
            let q' : y₂ ≡ floods_tell N dist level (expand N level t.marks (entries t)).stack (expand N level t.marks (entries t)).marks t.next y₁
            = q ∙ rw (ea, ef, net₂, ← ap (λ (z : Spread). z.stack) e, ← ap (λ (z : Spread). z.marks) e, o.id) in
            rw (← l.turn) (rw p' at q');
      }

-- a turn that is stopped tells nothing
pub stopped_told : (ar dist : List ℕ) (table next : ℕ) (fs : List ℕ) (j level : ℕ) (ids ws : List ℕ) (stop : ℕ) (y y' : Story) → 0 < stop
    → TurnTold ar dist table next fs j level ids ws stop y y'
stopped_told ar dist table next fs j level ids ws stop y y' h = record { told = λ z. absurd (omega arith) }
