-- What the request says of plain rooms holds of the rule's, in every field that is not refused and has at most 32,767 rooms; and of what a call
-- leaves. It holds because painted ids are flagged and numbers are not, so that "unflagged" is "left alone by the paint". Assumes nothing.
use Prim.Native.Nat.{ℕ, ◌≤◌, ◌<◌}
use native.Mathlib.Omega.{arith}
use native.Mathlib.Decide.{ℕ_discrete, dec_lt}
use mathlib.Core.Path.{◌≡◌, refl, sym, ◌∙◌}
use mathlib.Core.List.{List}
use lib.ListN.{get_or}
use Rattle.rules.specs.Field.{Field, Bytes}
use Rattle.rules.specs.Field as field
use Rattle.rules.specs.Net.{net_of, near, area_of}
use Rattle.rules.specs.Growth.{painted}
use Rattle.rules.specs.Refusals.{refusal}
use Rattle.rules.specs.Plain.{plain_rooms, most_rooms}
use Rattle.laws.proofs.Cells.{passed}
use Rattle.laws.proofs.Lengths.{painted-length}
use Rattle.laws.proofs.Nets.{near_net, linked, net_bytes}
use Rattle.laws.proofs.Strides.{answered}
use Rattle.rooms.specs.Rooms.{Joined, stay, goes}
use Rattle.rooms.specs.Linked.{Linked}
use Rattle.rooms.proofs.Joins.{joined-head, joined_sym, joined-map}
use Rattle.rooms.proofs.Forward.{forward}
use Rattle.rooms.proofs.Growing.{painted_grow}
use Rattle.plain.specs.PlainRooms.{Open, PlainRooms}
use Rattle.plain.proofs.Numbered.{most_spans_lem}
use Rattle.plain.proofs.Spreading.{Class}
use Rattle.plain.proofs.Scanning.{Scanned, scan_all}

module _ (F : Field) (lens : List ℕ) (ok : refusal F lens ≡ 0) (bytes : Bytes F) (border : ℕ) where
  abbrev base : List ℕ
  base = (painted F border).ids

  abbrev ids : List ℕ
  ids = (plain_rooms F border).ids

  abbrev most : ℕ
  most = (plain_rooms F border).most

  -- the rule's rooms, scanned whole
  scanned : Scanned (net_of F) (painted F border).ids (field.spans F) (plain_rooms F border)
  unfolding plain_rooms
  scanned = scan_all (net_of F) (answered F lens (passed F lens ok)) (net_bytes F bytes) (painted F border).ids (painted-length F border)

  -- paint is flagged
  paint_flagged : (s : ℕ) → (get_or base s 0 ≡ 0 → ⊥) → 0x8000 ≤ get_or base s 0
  paint_flagged s z = elim (dec_lt (get_or base s 0) 0x8000) [
    | yes l ↦ let r = (painted_grow F border).range (get_or base s 0) s (omega (arith, z), l) refl in absurd (omega (arith, r))
    | no l ↦ omega (arith, l)
  ]

  -- what has no flag was left alone by the paint
  alone : (s : ℕ) → get_or ids s 0 < 0x8000 → get_or base s 0 ≡ 0
  alone s l = elim (ℕ_discrete (get_or base s 0) 0) [ yes e ↦ e | no e ↦ absurd (omega (arith, l, scanned.old s e, paint_flagged s e)) ]

  area_is : (s : ℕ) → area_of (net_of F) s ≡ field.area_of F s
  unfolding area_of field.area_of
  area_is s = refl

  abbrev O : ℕ → ℕ → Type 0
  O = Open F ids

  open_class : (a u : ℕ) → O a u → Class (net_of F) base a u
  open_class a u o = record { span = o.span; area = area_is u ∙ o.area; free = alone u o.unflagged }

  -- an unflagged walkable span has an id
  some_id : (a s : ℕ) → (a ≡ 0 → ⊥) → O a s → get_or ids s 0 ≡ 0 → ⊥
  some_id a s z o = scanned.done s o.span (alone s o.unflagged) (λ e. z (sym o.area ∙ sym (area_is s) ∙ e))

  -- and its neighbour of the area has the same
  along : (a s t : ℕ) → (a ≡ 0 → ⊥) → Joined F (O a) s t → (get_or ids s 0 ≡ get_or ids t 0) × O a s
  along a s t z (stay o) = (refl, o)
  along a s t z (goes d h o r) =
      let n : near (net_of F) s d ≡ field.near F s d = near_net F (linked F lens (passed F lens ok)) s d h in
      let p = along a (field.near F s d) t z r in
      let c = open_class a s o in
      let u = open_class a (field.near F s d) p.1 in
      let e : get_or ids (near (net_of F) s d) 0 ≡ get_or ids s 0 =
      scanned.closed s d h c.free (some_id a s z o) (rw n u.free) (rw n (u.area ∙ sym c.area)) in
      (sym (rw n at e) ∙ p.0, o)

  link : (a s t : ℕ) → (a ≡ 0 → ⊥) → (b : ℕ) → O a s → O b t → get_or ids s 0 ≡ get_or ids t 0 → Linked (net_of F) (Class (net_of F) base a) s t
  link a s t z b o p e =
      let c = open_class a s o in
      let nz = some_id a s z o in
      let l = scanned.one (get_or ids s 0) s t (omega (arith, nz)) c.free (alone t p.unflagged) refl (sym e) in
      rw c.area at l

  module _ (few : most ≤ most_rooms) where
    class_open : (a u : ℕ) → Class (net_of F) base a u → O a u
    class_open a u c = record { span = c.span; unflagged = omega (arith, scanned.range u c.free, few); area = sym (area_is u) ∙ c.area }

    pub plain_rooms_lem : PlainRooms F border (plain_rooms F border).ids (plain_rooms F border).most
    plain_rooms_lem = record {
      size = scanned.size;
      paint = scanned.old;
      flagged = λ s l. elim (ℕ_discrete (get_or base s 0) 0) [ yes e ↦ absurd (omega (arith, scanned.range s e, few, l)) | no e ↦ scanned.old s e ];
      bare = λ s a. scanned.bare s ((painted_grow F border).bare s (area_is s ∙ a)) (area_is s ∙ a);
      same = λ a s t z j. (along a s t z j).0;
      join = λ a s t z o p e. forward F lens (passed F lens ok) (O a) (λ u q. q.span) s t (joined-map (net_of F) (class_open a) (link a s t z a o p e));
      apart = λ a b s t z y o p e. sym (joined-head (net_of F) (Class (net_of F) base a) (joined_sym (net_of F) (Class (net_of F) base a) (link a s t z b o p e))).area ∙ area_is t ∙ p.area;
      used = λ a s z o. let n = some_id a s z o in (omega (arith, n), scanned.range s (alone s o.unflagged));
      borne = λ k p l. let w = scanned.borne k p l in (w.0, w.1, w.3);
      few = few;
      order = λ j k s p l q e. let w = scanned.order j k s p l (alone s (rw e q)) e in (w.0, w.1, w.3);
    }

-- at most 32,767 spans never have too many rooms
pub few_spans_few_rooms : (F : Field) (border : ℕ) → field.spans F ≤ most_rooms → (plain_rooms F border).most ≤ most_rooms
unfolding plain_rooms
few_spans_few_rooms F border l = let h = most_spans_lem (net_of F) (field.spans F) (record { ids = (painted F border).ids; most = 0 }) refl in omega (arith, h)
