-- Whether one record may take another, read from the workspace. The floors of an id are looked for along the row of the records that bear it (`Looked`):
-- a walk from the first meets all of them, so the rule's search through all records finds a floor where the walk does. Assumes nothing.
use Prim.Native.Nat.{ℕ, zero, suc, ◌+◌, ◌*◌, ◌≤◌, ◌<◌}
use native.Mathlib.Omega.{arith}
use native.Mathlib.Decide.{ℕ_discrete}
use mathlib.Core.Path.{◌≡◌, refl, sym, ap, ◌∙◌}
use mathlib.Core.Logic.{⊎_elim}
use mathlib.Core.Bool.{Bool, true, false, not}
use mathlib.Core.List.{List, [], ◌∷◌}
use lib.ListN.{drop_of_length-le, length, get_or, drop}
use lib.Dec.{eqb, leb}
use borrow.Author.Tests.{eq-eqb, ne_eqb}
use Rattle.rules.specs.Base.{◌and◌, ◌or◌, any, many}
use Rattle.rules.specs.Records.{Rec, at, fresh}
use Rattle.laws.proofs.Basics.{tab-at, any_more, any_past}
use Rattle.space.proofs.Laws.{cases}
use Rattle.table.proofs.ViewLaws.{map-tab, view-length, view-at, view-drop}
use Rattle.table.specs.View.{list_at, rec_at, view, Below, Held}
use Rattle.pool.specs.Bearers.{next_of, Bearers, Borne}
use Rattle.pool.proofs.BearerLaws.{steps, Walked, walk_start, walk_next, walk_falls, walk_end}
use Rattle.pool.specs.Fixed.{floor_is, floor_in, ids_of, suits_f}

-- ---- searches

pub any-end : (p : ℕ → Bool) (l : List ℕ) (i : ℕ) → any p l ≡ any p (drop i l) → length l ≤ i → false ≡ any p l
any-end p l i e h = sym (e ∙ any_past p l i h)

module _ (ids l : List ℕ) (b i f : ℕ) (e : any (floor_is ids b) l ≡ any (floor_is ids b) (drop i l)) (h : i < length l) (q : f ≡ get_or l i 0) where
  pub floor_here : get_or ids f 0 ≡ b → true ≡ any (floor_is ids b) l
  unfolding floor_is ◌or◌
  floor_here g = sym (e ∙ any_more (floor_is ids b) l i h ∙ rw (← q, eq-eqb (get_or ids f 0) b g) refl)

  pub floor_next : (get_or ids f 0 ≡ b → ⊥) → any (floor_is ids b) l ≡ any (floor_is ids b) (drop (i + 1) l)
  unfolding floor_is ◌or◌
  floor_next g = e ∙ any_more (floor_is ids b) l i h ∙ rw (← q, ne_eqb (get_or ids f 0) b g) refl

  pub floor_in_lem : Below (length ids) l → f < length ids
  floor_in_lem w = rw q (w.below i h)

-- ---- a floor through the present ids

-- record i and those after it
record From (ws : List ℕ) (m s t a b i : ℕ) : Type 0 where
  pub all : floor_in ws (view ws m s t) a b ≡ floor_in ws (drop i (view ws m s t)) a b

module _ (ws : List ℕ) (m s t a b : ℕ) where
  from_first : From ws m s t a b 0
  from_first = record { all = refl }

  other_record : (i : ℕ) → i < m → (get_or ws i 0 ≡ a → ⊥) → From ws m s t a b i → From ws m s t a b (i + 1)
  unfolding floor_in rec_at ◌and◌ ◌or◌
  other_record i h n e = record { all = e.all ∙ rw (view-drop ws m s t i h, ne_eqb (get_or ws i 0) a n) refl }

  found_here : (i : ℕ) → i < m → get_or ws i 0 ≡ a → From ws m s t a b i → any (floor_is ws b) (list_at ws m t i) ≡ true → true ≡ floor_in ws (view ws m s t) a b
  unfolding floor_in rec_at ◌and◌ ◌or◌
  found_here i h n e z = sym (e.all ∙ rw (view-drop ws m s t i h, eq-eqb (get_or ws i 0) a n, z) refl)

  found_next : (i : ℕ) → i < m → get_or ws i 0 ≡ a → From ws m s t a b i → any (floor_is ws b) (list_at ws m t i) ≡ false → From ws m s t a b (i + 1)
  unfolding floor_in rec_at ◌and◌ ◌or◌
  found_next i h n e z = record { all = e.all ∙ rw (view-drop ws m s t i h, eq-eqb (get_or ws i 0) a n, z) refl }

  found_end : (i : ℕ) → m ≤ i → From ws m s t a b i → false ≡ floor_in ws (view ws m s t) a b
  unfolding floor_in
  found_end i h e =
      let w : length (view ws m s t) ≤ i = rw (view-length ws m s t) h in
      sym (e.all ∙ rw (drop_of_length-le (view ws m s t) w) refl)

  -- one of id a has the floor
  some_from : (k i y : ℕ) → i + k ≡ y → y < m → get_or ws y 0 ≡ a → any (floor_is ws b) (list_at ws m t y) ≡ true → From ws m s t a b i → true ≡ floor_in ws (view ws m s t) a b
  some_from zero i y e g n h f = let z : i ≡ y = omega arith in found_here i (omega arith) (rw z n) f (rw z h)
  some_from (suc k) i y e g n h f = elim (ℕ_discrete (get_or ws i 0) a) [
    | yes d ↦ ⊎_elim
        (λ (q : any (floor_is ws b) (list_at ws m t i) ≡ true). found_here i (omega arith) d f q)
        (λ (q : any (floor_is ws b) (list_at ws m t i) ≡ false). some_from k (i + 1) y (omega arith) g n h (found_next i (omega arith) d f q))
        (cases (any (floor_is ws b) (list_at ws m t i)))
    | no d ↦ some_from k (i + 1) y (omega arith) g n h (other_record i (omega arith) d f)
  ]

  -- none of id a has it
  none_from : (k i : ℕ) → i + k ≡ m → ((z : ℕ) → z < m → get_or ws z 0 ≡ a → any (floor_is ws b) (list_at ws m t z) ≡ false) → From ws m s t a b i → false ≡ floor_in ws (view ws m s t) a b
  none_from zero i e h f = found_end i (omega arith) f
  none_from (suc k) i e h f = none_from k (i + 1) (omega arith) h (elim (ℕ_discrete (get_or ws i 0) a) [
    | yes d ↦ found_next i (omega arith) d f (h i (omega arith) d)
    | no d ↦ other_record i (omega arith) d f
  ])

-- record z has no floor of id b
abbrev Without : List ℕ → ℕ → ℕ → ℕ → Type 0
Without ws m b z = any (floor_is ws b) (list_at ws m (11 * m) z) ≡ false

-- the walk over the records of id a, at y: those before it have no floor of id b
pub record Looked (m a b : ℕ) (ws : List ℕ) (y : ℕ) : Type 0 where
  pub walked : Walked (Without ws m b) m a ws y
  pub some : a ≡ 0 → ⊥

pub look-start : (ws : List ℕ) (m a b : ℕ) → Bearers m ws → Borne m a ws → Looked m a b ws a
look-start ws m a b B (g, e, z) = record { walked = walk_start (Without ws m b) m a ws B g e z; some = z }

module _ (ws : List ℕ) (m a b y : ℕ) (W : Looked m a b ws y) where
  module _ (n : y ≡ 0 → ⊥) where
    pub look_in : y < m
    look_in = (W.walked.here n).0

    pub look_falls : (y' : ℕ) → y' ≡ next_of ws m y → steps m ws m y' < steps m ws m y
    look_falls y' e = rw e (walk_falls (Without ws m b) (Without ws m b) m a y ws W.walked W.some n)

    module _ (l : List ℕ) (d : l ≡ list_at ws m (11 * m) y) (r : Bool) (q : r ≡ any (floor_is ws b) l) where
      pub look_found : r ≡ true → true ≡ floor_in ws (view ws m (7 * m) (11 * m)) a b
      look_found h = some_from ws m (7 * m) (11 * m) a b y 0 y (omega arith) look_in (W.walked.here n).1 (rw (← d) (sym q ∙ h)) (from_first ws m (7 * m) (11 * m) a b)

      pub look_next : r ≡ false → (y' : ℕ) → y' ≡ next_of ws m y → Looked m a b ws y'
      look_next h y' e = record {
        walked = rw e (walk_next (Without ws m b) (Without ws m b) m a y ws W.walked W.some n (λ _ _ _ v. v) (rw (← d) (sym q ∙ h)));
        some = W.some;
      }

  pub look_none : y ≡ 0 → false ≡ floor_in ws (view ws m (7 * m) (11 * m)) a b
  look_none e = none_from ws m (7 * m) (11 * m) a b m 0 (omega arith) (walk_end (Without ws m b) m a y ws W.walked e) (from_first ws m (7 * m) (11 * m) a b)

-- the id of a live record
pub live_borne : (ws : List ℕ) (m i : ℕ) → Bearers m ws → i < m → (get_or ws i 0 ≡ 0 → ⊥) → Borne m (get_or ws i 0) ws
live_borne ws m i B g l = ((B.owner i g l).0, (B.owner i g l).1, l)

pub floors_below : (ws : List ℕ) (m s t i : ℕ) (l : List ℕ) → Held m s t ws → i < m → l ≡ list_at ws m t i → Below (length ws) l
floors_below ws m s t i l h g e =
    let p : Below m l = rw e (h.floored i g) in
    record { below = λ x w. omega (arith, p.below x w, h.floors.room, h.floors.past) }

-- ---- whether a may take b

-- the ids that a floor is looked up in: m of them are enough
any-agrees : (m b : ℕ) (ids ids' : List ℕ) → ((f : ℕ) → f < m → get_or ids f 0 ≡ get_or ids' f 0) → (l : List ℕ) → Below m l → any (floor_is ids b) l ≡ any (floor_is ids' b) l
unfolding any floor_is
any-agrees m b ids ids' g [] w = refl
any-agrees m b ids ids' g (x ∷ l) w =
    rw (g x (w.below 0 (omega arith)), any-agrees m b ids ids' g l (record { below = λ y h. w.below (suc y) (omega arith) }))

floor_in-agrees : (m a b : ℕ) (ids ids' : List ℕ) → ((f : ℕ) → f < m → get_or ids f 0 ≡ get_or ids' f 0) → (rs : List Rec)
    → ((i : ℕ) → i < length rs → Below m (get_or rs i (fresh 0)).floors) → floor_in ids rs a b ≡ floor_in ids' rs a b
unfolding floor_in
floor_in-agrees m a b ids ids' g [] w = refl
floor_in-agrees m a b ids ids' g (r ∷ rs) w =
    rw (any-agrees m b ids ids' g r.floors (w 0 (omega arith)), floor_in-agrees m a b ids ids' g rs (λ i h. w (suc i) (omega arith)))

pub ids_at : (ws : List ℕ) (m s t i : ℕ) → i < m → get_or (ids_of (view ws m s t)) i 0 ≡ get_or ws i 0
unfolding ids_of view rec_at
ids_at ws m s t i h = ap (λ (l : List ℕ). get_or l i 0) (map-tab m 0 (rec_at ws m s t) (λ (r : Rec). r.id)) ∙ tab-at m 0 (λ (r : ℕ). get_or ws r 0) i 0 h ∙ ap (λ (j : ℕ). get_or ws j 0) (omega arith)

floors_of : (ws : List ℕ) (m s t : ℕ) → Held m s t ws → (i : ℕ) → i < m → Below m (at (view ws m s t) i).floors
unfolding rec_at
floors_of ws m s t h i g = rw (view-at ws m s t i g) (h.floored i g)

floor_in-view : (ws : List ℕ) (m s t a b : ℕ) → Held m s t ws → floor_in ws (view ws m s t) a b ≡ floor_in (ids_of (view ws m s t)) (view ws m s t) a b
unfolding at
floor_in-view ws m s t a b h =
    floor_in-agrees m a b ws (ids_of (view ws m s t)) (λ f g. sym (ids_at ws m s t f g)) (view ws m s t) (λ i g. floors_of ws m s t h i (rw (view-length ws m s t) at g))

module _ (ws : List ℕ) (m s t i j : ℕ) where
  pub suits_area : (get_or ws (2 * m + i) 0 ≡ get_or ws (2 * m + j) 0 → ⊥) → false ≡ suits_f (view ws m s t) (rec_at ws m s t i) (rec_at ws m s t j)
  unfolding suits_f rec_at ◌and◌
  suits_area n = rw (ne_eqb (get_or ws (2 * m + i) 0) (get_or ws (2 * m + j) 0) n)

  module _ (e : get_or ws (2 * m + i) 0 ≡ get_or ws (2 * m + j) 0) (l : List ℕ) (k : ℕ) (f : l ≡ list_at ws m s i) (g : k ≡ many (eqb (get_or ws j 0)) l) where
    pub suits-many : leb k 1 ≡ false → false ≡ suits_f (view ws m s t) (rec_at ws m s t i) (rec_at ws m s t j)
    unfolding suits_f rec_at ◌and◌
    suits-many n = rw (eq-eqb (get_or ws (2 * m + i) 0) (get_or ws (2 * m + j) 0) e, ← f, ← g, n)

    pub suits_end : leb k 1 ≡ true → Held m s t ws → (r : Bool) → r ≡ floor_in ws (view ws m s t) (get_or ws i 0) (get_or ws j 0) → not r ≡ suits_f (view ws m s t) (rec_at ws m s t i) (rec_at ws m s t j)
    unfolding suits_f rec_at ◌and◌
    suits_end n h r q = rw (eq-eqb (get_or ws (2 * m + i) 0) (get_or ws (2 * m + j) 0) e, ← f, ← g, n, ← floor_in-view ws m s t (get_or ws i 0) (get_or ws j 0) h, ← q) refl
