-- Rooms in scan order: after k spans those before k have their rooms, a room is closed under its neighbours, its spans are joined, and rooms are numbered
-- by their first spans. A new room keeps all this, since its spans had no id before. Assumes nothing.
use Prim.Native.Nat.{ℕ, suc, ◌+◌, ◌%◌, ◌≤◌, ◌<◌}
use native.Mathlib.Omega.{arith}
use native.Mathlib.Decide.{ℕ_discrete, dec_lt}
use mathlib.Core.Path.{◌≡◌, refl, sym, ap, ◌∙◌}
use mathlib.Core.Bool.{true≢false}
use mathlib.Core.List.{List}
use lib.ListN.{length, get_or}
use borrow.Author.Tests.{eqb-true, eqb-false, eq-eqb, ne_eqb, not-true}
use Rattle.rules.specs.Base.{upto}
use Rattle.rules.specs.Net.{Net, spans, near, area_of}
use Rattle.rules.specs.Growth.{walkable}
use Rattle.rules.specs.Plain.{Rooms, begins}
use Rattle.laws.proofs.Basics.{both, and_both, if-ind, upto-ind}
use Rattle.laws.proofs.FloodEnds.{has_area}
use Rattle.laws.proofs.Strides.{Answered}
use Rattle.rooms.specs.Linked.{Linked}
use Rattle.rooms.proofs.Joins.{joined-head, joined_trans, joined_sym}
use Rattle.plain.proofs.Spreading.{Class, Side, keeps, takes, Leaves, room_leaves}

-- after k spans
pub record Scanned (N : Net) (base : List ℕ) (k : ℕ) (v : Rooms) : Type 0 where
  pub size : length v.ids ≡ spans N
  pub old : (t : ℕ) → (get_or base t 0 ≡ 0 → ⊥) → get_or v.ids t 0 ≡ get_or base t 0
  pub range : (t : ℕ) → get_or base t 0 ≡ 0 → get_or v.ids t 0 ≤ v.most
  pub bare : (t : ℕ) → get_or base t 0 ≡ 0 → area_of N t ≡ 0 → get_or v.ids t 0 ≡ 0
  pub closed : (t d : ℕ) → d < 4 → get_or base t 0 ≡ 0 → (get_or v.ids t 0 ≡ 0 → ⊥) → get_or base (near N t d) 0 ≡ 0 → area_of N (near N t d) ≡ area_of N t
      → get_or v.ids (near N t d) 0 ≡ get_or v.ids t 0
  pub one : (j s t : ℕ) → 0 < j → get_or base s 0 ≡ 0 → get_or base t 0 ≡ 0 → get_or v.ids s 0 ≡ j → get_or v.ids t 0 ≡ j → Linked N (Class N base (area_of N s)) s t
  pub borne : (j : ℕ) → 0 < j → j ≤ v.most → (s : ℕ) × (s < k) × (get_or base s 0 ≡ 0) × (get_or v.ids s 0 ≡ j)
  pub done : (t : ℕ) → t < k → get_or base t 0 ≡ 0 → (area_of N t ≡ 0 → ⊥) → get_or v.ids t 0 ≡ 0 → ⊥
  pub order : (j i s : ℕ) → 0 < j → j < i → get_or base s 0 ≡ 0 → get_or v.ids s 0 ≡ i → (t : ℕ) × (t < s) × (get_or base t 0 ≡ 0) × (get_or v.ids t 0 ≡ j)

-- at first
pub scan_start : (N : Net) (base : List ℕ) → length base ≡ spans N → Scanned N base 0 (record { ids = base; most = 0 })
scan_start N base e = record {
  size = e;
  old = λ t z. refl;
  range = λ t z. omega arith;
  bare = λ t z a. z;
  closed = λ t d h z nz y a. absurd (nz z);
  one = λ j s t p z y e f. absurd (omega arith);
  borne = λ j p l. absurd (omega arith);
  done = λ t l z a y. omega arith;
  order = λ j i s p l z e. absurd (omega arith);
}

-- no room is begun
pub scan_pass : (N : Net) (base : List ℕ) (k : ℕ) (v : Rooms) → Scanned N base k v → ((area_of N k ≡ 0 → ⊥) → get_or v.ids k 0 ≡ 0 → ⊥) → Scanned N base (suc k) v
scan_pass N base k v h no_room = record {
  size = h.size;
  old = h.old;
  range = h.range;
  bare = h.bare;
  closed = h.closed;
  one = h.one;
  borne = λ j p l. let w = h.borne j p l in (w.0, omega (arith, w.1), w.2, w.3);
  done = λ t l z a. elim (ℕ_discrete t k) [ yes e ↦ rw e (no_room (rw e at a)) | no e ↦ h.done t (omega arith) z a ];
  order = h.order;
}

module _ (N : Net) (ok : Answered N) (base : List ℕ) (k : ℕ) (v : Rooms) (h : Scanned N base k v) (byte : area_of N k < 256) (some : area_of N k ≡ 0 → ⊥) (free : get_or base k 0 ≡ 0)
    (ids : List ℕ) (l : Leaves N base v.ids (area_of N k) (suc v.most) k ids) where
  -- one that had an id keeps it
  kept : (t : ℕ) → (get_or v.ids t 0 ≡ 0 → ⊥) → get_or ids t 0 ≡ get_or v.ids t 0
  kept t z = by (get_or ids t 0) (l.side t)
    where
      by : (x : ℕ) → Side N base v.ids (area_of N k) (suc v.most) k t x → x ≡ get_or v.ids t 0
      by x (keeps e) = e
      by x (takes b e p) = absurd (z b)

  -- one that has an older number had it before
  older : (t j : ℕ) → get_or base t 0 ≡ 0 → get_or ids t 0 ≡ j → (j ≡ suc v.most → ⊥) → get_or v.ids t 0 ≡ j
  older t j z e n = by (get_or ids t 0) (l.side t) e
    where
      by : (x : ℕ) → Side N base v.ids (area_of N k) (suc v.most) k t x → x ≡ j → get_or v.ids t 0 ≡ j
      by x (keeps e) q = sym e ∙ q
      by x (takes b e p) q = absurd (n (sym q ∙ e))

  -- one that has the new number had none, and is joined to the first
  record New (t : ℕ) : Type 0 where
    none : get_or v.ids t 0 ≡ 0
    link : Linked N (Class N base (area_of N k)) t k

  newer : (t : ℕ) → get_or base t 0 ≡ 0 → get_or ids t 0 ≡ suc v.most → New t
  newer t z e = by (get_or ids t 0) (l.side t) e
    where
      by : (x : ℕ) → Side N base v.ids (area_of N k) (suc v.most) k t x → x ≡ suc v.most → New t
      by x (keeps e) q = absurd (omega (arith, h.range t z, sym e ∙ q))
      by x (takes b e p) q = record { none = b; link = p }

  new_area : (t : ℕ) → New t → area_of N t ≡ area_of N k
  new_area t n = (joined-head N (Class N base (area_of N k)) n.link).area

  new_late : (t : ℕ) → get_or base t 0 ≡ 0 → New t → k ≤ t
  new_late t z n = elim (dec_lt t k) [
    | yes y ↦ absurd (h.done t y z (λ a. some (sym (new_area t n) ∙ a)) n.none)
    | no y ↦ omega arith
  ]

  -- a neighbour of a new one
  new_closed : (t d : ℕ) → d < 4 → get_or base t 0 ≡ 0 → get_or base (near N t d) 0 ≡ 0 → area_of N (near N t d) ≡ area_of N t → get_or ids t 0 ≡ suc v.most → New t
      → get_or ids (near N t d) 0 ≡ suc v.most
  new_closed t d hd z y a e n = by (get_or ids u 0) (l.side u) (l.shut t d hd n.none e ua)
    where
      u : ℕ
      u = near N t d

      ua : area_of N (near N t d) ≡ area_of N k
      ua = a ∙ new_area t n

      u_in : near N t d < spans N
      u_in = has_area N (near N t d) (area_of N k) (λ q. omega arith) ua

      back : near N (near N t d) ((d + 2) % 4) ≡ t
      back = ok.back t d (joined-head N (Class N base (area_of N k)) n.link).span hd (λ q. omega (arith, u_in, ok.few, q))

      by : (x : ℕ) → Side N base v.ids (area_of N k) (suc v.most) k (near N t d) x → (x ≡ 0 → ⊥) → x ≡ suc v.most
      by x (takes b q p) nz = q
      by x (keeps q) nz =
          let c : get_or v.ids (near N (near N t d) ((d + 2) % 4)) 0 ≡ get_or v.ids (near N t d) 0 =
          h.closed (near N t d) ((d + 2) % 4) (omega arith) y (λ w. nz (q ∙ w)) (rw back z) (rw back (sym a)) in
          let c' : get_or v.ids t 0 ≡ get_or v.ids (near N t d) 0 = rw back at c in
          absurd (nz (q ∙ sym c' ∙ n.none))

  pub scan_room : Scanned N base (suc k) (record { ids = ids; most = suc v.most })
  scan_room = record {
    size = l.size;
    old = λ t z. kept t (λ e. z (sym (h.old t z) ∙ e)) ∙ h.old t z;
    range = λ t z. elim (ℕ_discrete (get_or ids t 0) (suc v.most)) [
      | yes e ↦ omega (arith, e)
      | no e ↦ omega (arith, older t (get_or ids t 0) z refl e, h.range t z)
    ];
    bare = λ t z a. elim (ℕ_discrete (get_or ids t 0) (suc v.most)) [
      | yes e ↦ absurd (some (sym (new_area t (newer t z e)) ∙ a))
      | no e ↦ sym (older t (get_or ids t 0) z refl e) ∙ h.bare t z a
    ];
    closed = λ t d hd z nz y a. elim (ℕ_discrete (get_or ids t 0) (suc v.most)) [
      | yes e ↦ new_closed t d hd z y a e (newer t z e) ∙ sym e
      | no e ↦
          let b = older t (get_or ids t 0) z refl e in
          let nb : get_or v.ids t 0 ≡ 0 → ⊥ = λ q. nz (sym b ∙ q) in
          let c = h.closed t d hd z nb y a in
          kept (near N t d) (λ q. nb (sym c ∙ q)) ∙ c ∙ b
    ];
    one = λ j s t p z y e f. elim (ℕ_discrete j (suc v.most)) [
      | yes q ↦
          let m = newer s z (e ∙ q) in
          let n = newer t y (f ∙ q) in
          rw (new_area s m) (joined_trans N (Class N base (area_of N k)) m.link (joined_sym N (Class N base (area_of N k)) n.link))
      | no q ↦ h.one j s t p z y (older s j z e q) (older t j y f q)
    ];
    borne = λ j p q. elim (ℕ_discrete j (suc v.most)) [
      | yes e ↦ (k, omega arith, free, l.here ∙ sym e)
      | no e ↦
          let w = h.borne j p (omega arith) in
          (w.0, omega (arith, w.1), w.2, kept w.0 (λ z. omega (arith, sym w.3 ∙ z)) ∙ w.3)
    ];
    done = λ t q z a y. elim (ℕ_discrete t k) [
      | yes e ↦ let w : suc v.most ≡ 0 = sym l.here ∙ ap (λ (x : ℕ). get_or ids x 0) (sym e) ∙ y in omega (arith, w)
      | no e ↦ let n = h.done t (omega arith) z a in n (sym (kept t n) ∙ y)
    ];
    order = λ j i s p q z e. elim (ℕ_discrete i (suc v.most)) [
      | yes x ↦
          let n = newer s z (e ∙ x) in
          let w = h.borne j p (omega arith) in
          (w.0, omega (arith, w.1, new_late s z n), w.2, kept w.0 (λ y. omega (arith, sym w.3 ∙ y)) ∙ w.3)
      | no x ↦
          let w = h.order j i s p q z (older s i z e x) in
          (w.0, w.1, w.2, kept w.0 (λ y. omega (arith, sym w.3 ∙ y)) ∙ w.3)
    ];
  }

module _ (N : Net) (ok : Answered N) (bytes : (s : ℕ) → s < spans N → area_of N s < 256) (base : List ℕ) where
  scan_next : (k : ℕ) (v : Rooms) → k < spans N → Scanned N base k v → Scanned N base (suc k) (begins N k v)
  unfolding begins walkable area_of
  scan_next k v i h =
      let free : (t : ℕ) → get_or v.ids t 0 ≡ 0 → get_or base t 0 ≡ 0 =
      λ t z. elim (ℕ_discrete (get_or base t 0) 0) [ yes e ↦ e | no e ↦ absurd (e (sym (h.old t e) ∙ z)) ] in
      if-ind (λ (r : Rooms). Scanned N base (suc k) r) _
      (λ e.
      let a = both _ _ e in
      let some : area_of N k ≡ 0 → ⊥ = eqb-false _ _ (not-true _ a.0) in
      let empty : get_or v.ids k 0 ≡ 0 = eqb-true _ _ a.1 in
      scan_room N ok base k v h (bytes k i) some (free k empty) _ (room_leaves N base v.ids (suc v.most) k (bytes k i) (omega arith) h.size free i empty))
      (λ e. scan_pass N base k v h (λ a z. true≢false (sym (and_both _ _ (rw (ne_eqb _ _ a)) (eq-eqb _ _ z)) ∙ e)))

  pub scan_all : length base ≡ spans N → Scanned N base (spans N) (upto (spans N) (begins N) (record { ids = base; most = 0 }))
  scan_all e = upto-ind (Scanned N base) (begins N) (record { ids = base; most = 0 }) (spans N) (scan_start N base e) (λ k v i h. scan_next k v i h)
