-- What the filling of one room leaves: its spans had no id and are joined to the first by spans of its class, the others are as they were, and no
-- neighbour of its area is left without an id, once nothing waits. Assumes nothing.
use Prim.Native.Nat.{ℕ, zero, suc, ◌<◌}
use native.Mathlib.Omega.{arith}
use native.Mathlib.Decide.{ℕ_discrete}
use mathlib.Core.Path.{◌≡◌, refl, sym, ap, ◌∙◌}
use mathlib.Core.Bool.{true≢false}
use mathlib.Core.List.{List, [], ◌∷◌}
use lib.ListN.{length, get_or, set, length-set}
use lib.Seq.{get_or-set_same, get_or-set_other}
use borrow.Author.Tests.{eqb-true, eq-eqb}
use Rattle.rules.specs.Base.{upto}
use Rattle.rules.specs.Net.{Net, spans, near, area_of}
use Rattle.rules.specs.Plain.{Fill, joins, fill, room_from}
use Rattle.laws.proofs.Basics.{both, and_both, if-ind, upto-ind, All, get_or-set_cases}
use Rattle.laws.proofs.FloodEnds.{has_area}
use Rattle.rooms.specs.Linked.{Linked, stay, comes}
use Rattle.space.proofs.Laws.{tally_le}
use Rattle.plain.specs.Stack.{Filling}
use Rattle.plain.proofs.FillLaws.{fewer, fill_ends}

-- a span of the area that the paint left alone
pub record Class (N : Net) (base : List ℕ) (a u : ℕ) : Type 0 where
  pub span : u < spans N
  pub area : area_of N u ≡ a
  pub free : get_or base u 0 ≡ 0

-- span t, which had an id in ids, now has v: as it was, or the room's
pub data Side (N : Net) (base ids : List ℕ) (area id from : ℕ) (t v : ℕ) : Type 0 where
  keeps : v ≡ get_or ids t 0 → Side N base ids area id from t v
  takes : get_or ids t 0 ≡ 0 → v ≡ id → Linked N (Class N base area) t from → Side N base ids area id from t v

-- no neighbour of the area in direction d is without an id
abbrev pub Shut : Net → ℕ → List ℕ → ℕ → ℕ → Type 0
Shut N area ids t d = area_of N (near N t d) ≡ area → get_or ids (near N t d) 0 ≡ 0 → ⊥

-- between looks: span c has looked in k directions, every other span of the room that does not wait in all four
pub record Spread (N : Net) (base ids₀ : List ℕ) (area id from c k : ℕ) (f : Fill) : Type 0 where
  pub size : length f.ids ≡ spans N
  pub side : (t : ℕ) → Side N base ids₀ area id from t (get_or f.ids t 0)
  pub here : get_or f.ids from 0 ≡ id
  pub wait : All (λ x. Linked N (Class N base area) x from) f.todo
  pub shut : (t d : ℕ) → d < 4 → get_or ids₀ t 0 ≡ 0 → get_or f.ids t 0 ≡ id → All (λ x. x ≡ t → ⊥) f.todo → (t ≡ c → d < k) → Shut N area f.ids t d

side_zero : (N : Net) (base ids₀ : List ℕ) (area id from t v : ℕ) → Side N base ids₀ area id from t v → v ≡ 0 → get_or ids₀ t 0 ≡ 0
side_zero N base ids₀ area id from t v (keeps e) z = sym e ∙ z
side_zero N base ids₀ area id from t v (takes b e l) z = b

module _ (N : Net) (base ids₀ : List ℕ) (area id from : ℕ) (byte : area < 256) (pos : 0 < id)
    (old : (t : ℕ) → get_or ids₀ t 0 ≡ 0 → get_or base t 0 ≡ 0) where
  -- an id that is not 0 stays so
  stays_some : (ids : List ℕ) (t u : ℕ) → get_or (set ids t id) u 0 ≡ 0 → get_or ids u 0 ≡ 0
  stays_some ids t u = get_or-set_cases ids t id u (λ v. v ≡ 0 → get_or ids u 0 ≡ 0) (λ _ e. absurd (omega arith)) (λ e. e)

  -- the neighbour gets the id and waits
  took : (c k : ℕ) (f : Fill) → k < 4 → Linked N (Class N base area) c from → area_of N (near N c k) ≡ area → get_or f.ids (near N c k) 0 ≡ 0
      → Spread N base ids₀ area id from c k f
      → Spread N base ids₀ area id from c (suc k) (record { todo = near N c k ∷ f.todo; ids = set f.ids (near N c k) id })
  took c k f hk l a z h =
      let t' = near N c k in
      let ids = f.ids in
      let i : t' < spans N = has_area N t' area (λ w. omega arith) a in
      let b : get_or ids₀ t' 0 ≡ 0 = side_zero N base ids₀ area id from t' _ (h.side t') z in
      let l' : Linked N (Class N base area) t' from = comes c k hk refl (record { span = i; area = a; free = old t' b }) l in
      record {
        size = length-set ids t' id ∙ h.size;
        side = λ t. get_or-set_cases ids t' id t (Side N base ids₀ area id from t) (λ x. takes (ap (λ (y : ℕ). get_or ids₀ y 0) x ∙ b) refl (rw x l')) (h.side t);
        here = get_or-set_cases ids t' id from (λ v. v ≡ id) (λ _. refl) h.here;
        wait = (l', h.wait);
        shut = λ t d hd o e al pr.
            let e' : get_or ids t 0 ≡ id = sym (get_or-set_other ids t' t id 0 (λ x. al.0 (sym x))) ∙ e in
            let go : (t ≡ c → d < k) → Shut N area (set ids t' id) t d = λ pr' ar y. h.shut t d hd o e' al.1 pr' ar (stays_some ids t' (near N t d) y) in
            elim (ℕ_discrete t c) [
              | yes x ↦ elim (ℕ_discrete d k) [
                | yes y ↦ λ ar w.
                    let n : near N t d ≡ t' = rw (x, y) in
                    let q : get_or (set ids t' id) t' 0 ≡ 0 = ap (λ (p : ℕ). get_or (set ids t' id) p 0) (sym n) ∙ w in
                    absurd (omega (arith, get_or-set_same ids t' id 0 (omega (arith, i, h.size)), q))
                | no y ↦ go (λ _. omega (arith, pr x, y))
              ]
              | no x ↦ go (λ p. absurd (x p))
            ];
      }

  -- nothing to do there
  passed : (c k : ℕ) (f : Fill) → Shut N area f.ids c k → Spread N base ids₀ area id from c k f → Spread N base ids₀ area id from c (suc k) f
  passed c k f no_more h = record {
    size = h.size;
    side = h.side;
    here = h.here;
    wait = h.wait;
    shut = λ t d hd o e al pr. elim (ℕ_discrete t c) [
      | yes x ↦ elim (ℕ_discrete d k) [
        | yes y ↦ rw (x, y) no_more
        | no y ↦ h.shut t d hd o e al (λ _. omega (arith, pr x, y))
      ]
      | no x ↦ h.shut t d hd o e al (λ p. absurd (x p))
    ];
  }

  joins-spread : (c k : ℕ) (f : Fill) → k < 4 → Linked N (Class N base area) c from → Spread N base ids₀ area id from c k f
      → Spread N base ids₀ area id from c (suc k) (joins N area id c k f)
  unfolding joins
  joins-spread c k f hk l h =
      if-ind (λ (g : Fill). Spread N base ids₀ area id from c (suc k) g) _
      (λ e. let a = both _ _ e in took c k f hk l (eqb-true _ _ a.0) (eqb-true _ _ a.1) h)
      (λ e. passed c k f (λ a z. true≢false (sym (and_both _ _ (eq-eqb _ _ a) (eq-eqb _ _ z)) ∙ e)) h)

  -- the next span is looked from, and all of it is done
  visit-spread : (c₀ c : ℕ) (cs ids : List ℕ) → Spread N base ids₀ area id from c₀ 4 (record { todo = c ∷ cs; ids = ids })
      → Spread N base ids₀ area id from c 4 (upto 4 (joins N area id c) (record { todo = cs; ids = ids }))
  visit-spread c₀ c cs ids h =
      upto-ind (λ k (g : Fill). Spread N base ids₀ area id from c k g) (joins N area id c) (record { todo = cs; ids = ids }) 4
      (record {
        size = h.size;
        side = h.side;
        here = h.here;
        wait = h.wait.1;
        shut = λ t d hd o e al pr. h.shut t d hd o e ((λ x. omega (arith, pr (sym x))), al) (λ _. hd);
      })
      (λ k g hk p. joins-spread c k g hk h.wait.0 p)

  fill-spread : (k c : ℕ) (todo ids : List ℕ) → Spread N base ids₀ area id from c 4 (record { todo = todo; ids = ids })
      → (c' : ℕ) × Spread N base ids₀ area id from c' 4 (fill N area id k todo ids)
  unfolding fill
  fill-spread zero c todo ids h = (c, h)
  fill-spread (suc k) c [] ids h = (c, h)
  fill-spread (suc k) c (x ∷ xs) ids h = fill-spread k x _ _ (visit-spread c x xs ids h)

-- what a whole room leaves
pub record Leaves (N : Net) (base ids₀ : List ℕ) (area id from : ℕ) (ids : List ℕ) : Type 0 where
  pub size : length ids ≡ spans N
  pub side : (t : ℕ) → Side N base ids₀ area id from t (get_or ids t 0)
  pub here : get_or ids from 0 ≡ id
  pub shut : (t d : ℕ) → d < 4 → get_or ids₀ t 0 ≡ 0 → get_or ids t 0 ≡ id → Shut N area ids t d

module _ (N : Net) (base ids₀ : List ℕ) (id from : ℕ) (byte : area_of N from < 256) (pos : 0 < id) (size : length ids₀ ≡ spans N)
    (old : (t : ℕ) → get_or ids₀ t 0 ≡ 0 → get_or base t 0 ≡ 0) (inside : from < spans N) (empty : get_or ids₀ from 0 ≡ 0) where
  begun : Filling (spans N) (record { todo = from ∷ []; ids = set ids₀ from id })
  begun = record {
    size = length-set ids₀ from id ∙ size;
    inside = (inside, tt);
    fits = omega (arith, fewer ids₀ from id (omega (arith, size)) empty pos, tally_le 0 ids₀, size);
  }

  -- the fuel is never used up
  pub room_ends : (room_from N id ids₀ from).todo ≡ []
  unfolding room_from
  room_ends = (fill_ends N (area_of N from) id byte pos (spans N) (from ∷ []) (set ids₀ from id) begun begun.fits).0

  pub room_leaves : Leaves N base ids₀ (area_of N from) id from (room_from N id ids₀ from).ids
  unfolding room_from
  room_leaves =
      let area = area_of N from in
      let first : Linked N (Class N base area) from from = stay (record { span = inside; area = refl; free = old from empty }) in
      let r = fill-spread N base ids₀ area id from byte pos old (spans N) from (from ∷ []) (set ids₀ from id)
      (record {
        size = length-set ids₀ from id ∙ size;
        side = λ t. get_or-set_cases ids₀ from id t (Side N base ids₀ area id from t) (λ x. takes (ap (λ (y : ℕ). get_or ids₀ y 0) x ∙ empty) refl (rw x first)) (keeps refl);
        here = get_or-set_same ids₀ from id 0 (omega (arith, size));
        wait = (first, tt);
        shut = λ t d hd o e al pr. absurd (al.0 (elim (ℕ_discrete t from) [ yes x ↦ sym x | no x ↦ absurd (omega (arith, e, get_or-set_other ids₀ from t id 0 x)) ]));
      }) in
      let h = r.1 in
      let ends = (fill_ends N area id byte pos (spans N) (from ∷ []) (set ids₀ from id) begun begun.fits).0 in
      record { size = h.size; side = h.side; here = h.here; shut = λ t d hd o e. h.shut t d hd o e (rw ends tt) (λ _. hd) }
