-- Painted, with the table of neighbours in place, all is there for the turns; and what they leave is the rule's growth. Assumes nothing.
use Prim.Native.Nat.{ℕ, ◌+◌, ◌*◌, ◌/◌, ◌≤◌, ◌<◌}
use native.Mathlib.Omega.{arith}
use native.Mathlib.Decide.{ℕ_discrete, dec_lt}
use mathlib.Core.Path.{◌≡◌, refl, sym, ap, ◌∙◌}
use mathlib.Core.List.{List, []}
use lib.ListN.{length, get_or, take, replicate, length-replicate, get_or-replicate}
use lib.Seq.{get_or-take, length-take-le, ext_get_or}
use Rattle.rules.specs.Base.{upto}
use Rattle.rules.specs.Field.{Field}
use Rattle.rules.specs.Net.{net_of}
use Rattle.rules.specs.Growth.{Marks, Turn, turn, expand, blank, painted, first_id, grown, stops}
use Rattle.rules.specs.Reasons.{Story, begins, story}
use Rattle.rules.specs.Refusals.{most_spans}
use Rattle.laws.proofs.Lengths.{painted-length}
use Rattle.laws.proofs.Grows.{first_few}
use Rattle.rooms.proofs.Growing.{painted_grow}
use Rattle.space.specs.Space.{Frame, Clear}
use Rattle.space.proofs.Laws.{get_or_before, get_d_after}
use Rattle.field.specs.Lent.{lent, Reached}
use Rattle.field.proofs.Passed.{sound_reached}
use Rattle.paint.specs.Paint.{Plot}
use Rattle.net.specs.declared.Sections.{Sections}
use Rattle.net.specs.Table.{net_at}
use Rattle.net.proofs.Tables.{net_same}
use Rattle.net.proofs.Fills.{net_lent, mutual_of}
use Rattle.flood.specs.Stack.{marks_at}
use Rattle.growth.specs.Floods.{IdsBelowNext}
use Rattle.growth.specs.Turns.{SectionsFor, Between, begun, turns_of}
use Rattle.growth.specs.Grow.{turns_for, stops_of, tells_of, Grew, growth_room, Poised, Settled, Full, Whole}

marks_eq : {a a' s s' : List ℕ} → a ≡ a' → s ≡ s' → ◌≡◌ {A = Marks} (record { ids = a; src = s }) (record { ids = a'; src = s' })
marks_eq p q = rw (p, q)

module _ (w h : ℕ) (is ks ar cs : List ℕ) (b : ℕ) (ids ws : List ℕ) (p : Poised w h is ks ar cs b ids ws) where
  pub reached-first : Reached (lent w h is ks ar cs)
  reached-first = sound_reached (lent w h is ks ar cs) p.sound

  pub cells_first : length ks ≡ w * h
  cells_first = reached-first.celled.counted

  pub few_first : length ar ≤ most_spans
  few_first = reached-first.celled.few

  pub size_first : length ids ≡ length ar
  size_first = ap length p.none ∙ length-replicate (length ar) (let z : ℕ = 0 in z)

  pub plot_first : Plot is ks (length ar)
  plot_first = record { F = lent w h is ks ar cs; lens = []; ok = p.sound; index_is = refl; count_is = refl; n_is = refl }

module _ (w h : ℕ) (is ks ar cs dist : List ℕ) (b most border : ℕ) (ids ws : List ℕ) (p : Poised w h is ks ar cs b ids ws)
    (first : ℕ) (r : first ≡ first_id border) (ids₁ : List ℕ) (q : (F : Field) → F.w ≡ w → F.h ≡ h → F.count ≡ ks → F.area ≡ ar → ids₁ ≡ (painted F border).ids)
    (ws₁ : List ℕ) (m : net_at b ar ws₁ ≡ net_of (lent w h is ks ar cs)) (f : Frame b (b + 4 * length ar) ws ws₁) (size : length ws₁ ≡ length ws) where
  abbrev G : Field
  G = lent w h is ks ar cs

  painted_ids : ids₁ ≡ (painted G border).ids
  painted_ids = q G refl refl refl refl

  zero₁ : (x : ℕ) → x < growth_room (length ar) → get_or ws₁ x 0 ≡ 0
  zero₁ x l = get_or_before x f (omega (arith, p.past)) ∙ p.clear.blank x (omega arith) l

  source₁ : take (length ar) ws₁ ≡ replicate (length ar) 0
  source₁ =
      let t : length (take (length ar) ws₁) ≡ length ar = length-take-le (length ar) ws₁ (omega (arith, p.room, size)) in
      ext_get_or 0 (take (length ar) ws₁) (replicate (length ar) 0) (t ∙ sym (length-replicate (length ar) (let z : ℕ = 0 in z)))
      (λ i l. get_or-take (length ar) ws₁ i 0 (omega (arith, l, t)) ∙ zero₁ i (omega (arith, l, t, p.past)) ∙ sym (get_or-replicate (length ar) i 0 0 (omega (arith, l, t))))

  marks₁ : marks_at (length ar) ids₁ ws₁ ≡ painted G border
  unfolding painted
  marks₁ = marks_eq painted_ids source₁

  below₁ : IdsBelowNext (length ar) first ids₁
  below₁ =
      let n : length ids₁ ≡ length ar = rw painted_ids (painted-length G border) in
      record {
        size = n;
        some = omega (arith, r, first_few border);
        below = λ x l. elim (ℕ_discrete (get_or ids₁ x 0) 0) [
          | yes e ↦ omega (arith, e, r, first_few border)
          | no e ↦ let g = (painted_grow G border).range (get_or ids₁ x 0) x (omega (arith, e), l) (rw painted_ids) in omega (arith, r, g.1)
        ];
        plain = omega (arith, r, first_few border);
      }

  pub between_first : (at : Sections) → SectionsFor (length ar) at → at.table ≡ b → Between ar cs at first [] 7 ids₁ ws₁
  between_first at la e =
      let room : at.table + 4 * length ar ≤ length ws₁ = omega (arith, p.room, size) in
      let net : net_at at.table ar ws₁ ≡ net_of G = rw e m in
      record {
        lent = net_lent G (reached-first w h is ks ar cs b ids ws p) at.table ws₁ net room (omega (arith, p.close));
        both_ways = rw net (mutual_of G p.sound);
        laid = la;
        turn = omega arith;
        ids_below = below₁;
        changes = record { blank = λ x l u. zero₁ x (omega (arith, p.past, la.changes)) };
        stack = record { zeros = λ x l u. zero₁ x (omega (arith, p.past, la.stack)) };
        left = record { fits = λ z. absurd (z refl); stacked = λ z. absurd (z refl) };
      }

  same_turns : turns_of (net_at b ar ws₁) dist (turns_for most) (length ar) ids₁ ws₁ first (turns_for most)
      ≡ upto (2 * turns_for most / 2) (turn (net_of G) dist (2 * turns_for most)) (record { marks = painted G border; stacks = []; next = first_id border })
  same_turns = let e : 2 * turns_for most / 2 ≡ turns_for most = omega arith in rw (m, marks₁, r, e)

  abbrev T : Turn
  T = turns_of (net_at b ar ws₁) dist (turns_for most) (length ar) ids₁ ws₁ first (turns_for most)

  rule_ids : (expand (net_at b ar ws₁) 0 T.marks (blank ar T.marks.ids)).marks.ids ≡ (grown G dist most border).ids
  unfolding grown
  rule_ids = rw (same_turns, m)

  rule_next : T.next ≡ (grown G dist most border).next
  unfolding grown
  rule_next = ap (λ (v : Turn). v.next) same_turns

  rule_stops : stops_of (net_at b ar ws₁) ar dist (turns_for most) (record { marks = marks_at (length ar) ids₁ ws₁; stacks = []; next = first }) ≡ stops G dist most border
  unfolding stops_of stops
  rule_stops = let e : 2 * turns_for most / 2 ≡ turns_for most = omega arith in rw (m, marks₁, r, e)

  pub rule_story : (s : ℕ) (y : Story) → y ≡ begins s → (table : ℕ) → table ≡ b
      → tells_of (net_at table ar ws₁) ar dist (turns_for most) (begun (length ar) ids₁ ws₁ first) y ≡ story G dist most border s
  unfolding tells_of story
  rule_story s y q table tb = let e : 2 * turns_for most / 2 ≡ turns_for most = omega arith in rw (tb, q, m, marks₁, r, e)

  pub full : (table next stop : ℕ) (ids₂ ws₂ ws₃ : List ℕ) → table ≡ b → Grew ar dist table most first ids₁ ws₁ next stop ids₂ ws₂ → length ws₃ ≡ length ws₂ → length ws₂ ≡ length ws₁
      → Clear 0 (length ar) ws₃ → Frame 0 (length ar) ws₂ ws₃ → Full G dist most border b ws next stop ids₂ ws₃
  full table next stop ids₂ ws₂ ws₃ tb g₀ s₃ s₂ z y =
      let g : Grew ar dist b most first ids₁ ws₁ next stop ids₂ ws₂ = rw tb at g₀ in
      record {
        after = λ x l. get_d_after x y (omega (arith, p.past)) ∙ g.past x (omega (arith, p.past)) ∙ get_d_after x f l;
        stops = g.stops ∙ rule_stops;
        ids = λ o. ap (λ (v : Marks). v.ids) (g.marks o) ∙ rule_ids;
        id = λ o. g.id o ∙ rule_next;
        clear = λ o. record {
          blank = λ x l u. elim (dec_lt x (length ar)) [
            | yes k ↦ z.blank x l k
            | no k ↦ get_d_after x y (omega arith) ∙ elim (dec_lt x (9 * length ar)) [
              | yes j ↦ (g.stacks o).blank x (omega arith) j
              | no j ↦ g.past x (omega arith) ∙ zero₁ x u
            ]
          ];
        };
        net = λ o. net_same b ar ws₁ ws₃ (omega (arith, p.room, size)) (s₃ ∙ s₂) (λ x l. get_d_after x y (omega (arith, p.past)) ∙ g.past x (omega (arith, p.past))) ∙ m;
      }

  -- of what is handed on (Settled)
  module _ (table next stop : ℕ) (ids₂ ws₂ : List ℕ) (tb : table ≡ b) (g₀ : Grew ar dist table most first ids₁ ws₁ next stop ids₂ ws₂) (s₂ : length ws₂ ≡ length ws₁)
      (n₂ : length ids₂ ≡ length ids₁) (s : ℕ) (y₂ : Story) (next₃ stop₃ : ℕ) (y₃ : Story) (ids₃ ws₃ : List ℕ) (s₃ : length ws₃ ≡ length ws₂)
      (t : Settled s next stop y₂ ids₂ ws₂ next₃ stop₃ y₃ ids₃ ws₃) where
    sized : length ids₂ ≡ length ar
    sized = n₂ ∙ below₁.size

    came : Grew ar dist b most first ids₁ ws₁ next stop ids₂ ws₂
    came = rw tb at g₀

    past₃ : (x : ℕ) → 9 * length ar ≤ x → get_or ws₃ x 0 ≡ get_or ws₁ x 0
    past₃ x l = t.past x (omega (arith, sized)) ∙ came.past x l

    blank₃ : (x : ℕ) → x < 9 * length ar → get_or ws₃ x 0 ≡ 0
    blank₃ x u = elim (ℕ_discrete stop 0) [
      | yes o ↦ elim (dec_lt x (length ar)) [
        | yes k ↦ t.sources.blank x (omega arith) (omega (arith, sized))
        | no k ↦ t.stacks o x (omega (arith, sized)) ∙ (came.stacks o).blank x (omega arith) u
      ]
      | no o ↦ (t.no_stacks o).blank x (omega arith) (omega (arith, sized))
    ]

    pub whole : Whole G dist most border b ws next₃ stop₃ ids₃ ws₃
    whole =
        record {
          after = λ x l. past₃ x (omega (arith, p.past)) ∙ get_d_after x f l;
          between = λ x l u. past₃ x (omega arith) ∙ get_or_before x f u;
          stops = t.same ∙ came.stops ∙ rule_stops;
          ids = λ o. t.kept (sym t.same ∙ o) ∙ ap (λ (v : Marks). v.ids) (came.marks (sym t.same ∙ o)) ∙ rule_ids;
          id = λ o. t.id (sym t.same ∙ o) ∙ came.id (sym t.same ∙ o) ∙ rule_next;
          no_ids = λ o. t.no_ids (λ q. o (t.same ∙ q)) ∙ ap (λ (n : ℕ). replicate n 0) sized;
          no_id = λ o. t.no_id (λ q. o (t.same ∙ q));
          clear = record {
            blank = λ x l u. elim (dec_lt x (9 * length ar)) [
              | yes j ↦ blank₃ x j
              | no j ↦ past₃ x (omega arith) ∙ zero₁ x u
            ];
          };
          net = net_same b ar ws₁ ws₃ (omega (arith, p.room, size)) (s₃ ∙ s₂) (λ x l. past₃ x (omega (arith, p.past))) ∙ m;
        }

    pub full_settled : Full G dist most border b ws next₃ stop₃ ids₃ ws₃
    full_settled = record { after = whole.after; stops = whole.stops; ids = whole.ids; id = whole.id; clear = λ _. whole.clear; net = λ _. whole.net }
