-- Edge tests as the code makes them: the id across, solid or not, the first solid direction of four; each answer is the rule's.
-- They hold because a missing neighbour is past every list, where the id is 0.
use Prim.Native.Nat.{ℕ, suc, ◌+◌, ◌*◌, ◌-◌, ◌≤◌, ◌<◌}
use native.Mathlib.Omega.{arith}
use mathlib.Core.Path.{◌≡◌, refl, sym, ap, ◌∙◌}
use mathlib.Core.Bool.{Bool, true, false, not}
use mathlib.Core.List.{List}
use lib.ListN.{get_or, get_or-eq_default}
use lib.Dec.{eqb, ltb}
use borrow.Author.Tests.{eq-eqb, ne_eqb, lt-ltb, ltb-true}
use Rattle.rules.specs.Base.{◌and◌, when◌then◌else◌}
use Rattle.rules.specs.Field.{none}
use Rattle.rules.specs.Net.{Net}
use Rattle.rules.specs.Contour.{across, solid, first_solid}
use Rattle.laws.proofs.Basics.{if-ind}
use Rattle.net.specs.Table.{net_at, Closed, AtSpan}
use Rattle.net.proofs.Tables.{near_is, net_few}
use Rattle.contour.specs.Ways.{first_from, edge_of}
use Rattle.contour.specs.Walks.{back_at}
use Rattle.std.proofs.Common.{Option, Some, None}

-- ---------------------------------------------------------------- one edge

-- where there is no span there is no id
pub id_none : (table : ℕ) (ids ws : List ℕ) → Closed (net_at table ids ws) → get_or ids none 0 ≡ 0
id_none table ids ws k = get_or-eq_default ids 0 (omega (arith, net_few table ids ws k))

module _ (table : ℕ) (ids ws cons : List ℕ) (s d : ℕ) (v : AtSpan table ids ws cons s) (g : d < 4) where
  pub across-none : get_or cons d 0 ≡ 255 → 0 ≡ across (net_at table ids ws) ids s d
  unfolding across
  across-none k = rw (v.opens.shut d g k) (sym (id_none table ids ws v.closed))

  pub across_some : (t : ℕ) → t ≡ get_or ws (table + (4 * s + d)) 0 → get_or ids t 0 ≡ across (net_at table ids ws) ids s d
  unfolding across
  across_some t e = ap (λ (x : ℕ). get_or ids x 0) (sym (near_is table ids ws cons s d t v g e))

pub solid_read : (N : Net) (ids : List ℕ) (s d r : ℕ) → r ≡ across N ids s d → not (eqb r (get_or ids s 0)) ≡ solid N ids s d
unfolding solid
solid_read N ids s d r e = ap (λ (x : ℕ). not (eqb x (get_or ids s 0))) e

-- ---------------------------------------------------------------- a direction of a number

pub edge_at : (k d : ℕ) → Some d ≡ edge_of k → (k ≡ d) × (d < 4)
unfolding edge_of
edge_at k d =
    if-ind (λ (x : Option ℕ). Some d ≡ x → (k ≡ d) × (d < 4)) (ltb k 4)
    (λ t e. let q : k ≡ d = cc in (q, rw (← q) (ltb-true k 4 t)))
    (λ _ e. let z : ◌≡◌ {A = ℕ} 0 1 = cc in absurd (omega arith))

pub edge_none : (k : ℕ) → None ≡ edge_of k → ltb k 4 ≡ false
unfolding edge_of
edge_none k =
    if-ind (λ (x : Option ℕ). None ≡ x → ltb k 4 ≡ false) (ltb k 4)
    (λ _ e. let z : ◌≡◌ {A = ℕ} 0 1 = cc in absurd (omega arith))
    (λ f _. f)

-- ---------------------------------------------------------------- the first solid direction

pub first_from_lem : (N : Net) (ids : List ℕ) (s : ℕ) → first_solid N ids s ≡ first_from N ids s 4 0
unfolding first_solid first_from
first_from_lem N ids s = refl

module _ (N : Net) (ids : List ℕ) (s d : ℕ) (e : first_solid N ids s ≡ first_from N ids s (4 - d) d) where
  pub first_end : 4 ≤ d → None ≡ edge_of (first_solid N ids s)
  unfolding first_from edge_of when◌then◌else◌
  first_end g =
      let q : 4 - d ≡ 0 = omega arith in
      let z : first_solid N ids s ≡ 4 = e ∙ rw q refl in
      rw z refl

  module _ (g : d < 4) (b : Bool) (f : b ≡ solid N ids s d) where
    rest : 4 - d ≡ suc (4 - (d + 1))
    rest = omega arith

    pub first_found : b ≡ true → Some d ≡ edge_of (first_solid N ids s)
    unfolding first_from edge_of when◌then◌else◌
    first_found t =
        let z : solid N ids s d ≡ true = sym f ∙ t in
        let y : first_solid N ids s ≡ d = e ∙ rw (rest, z) in
        rw (y, lt-ltb d 4 g) refl

    pub first_more : b ≡ false → first_solid N ids s ≡ first_from N ids s (4 - (d + 1)) (d + 1)
    unfolding first_from when◌then◌else◌
    first_more t =
        let z : solid N ids s d ≡ false = sym f ∙ t in
        e ∙ rw (rest, z)

-- ---------------------------------------------------------------- back at the start

pub back_no : (s d x y : ℕ) → (x ≡ s → ⊥) → false ≡ back_at s d x y
unfolding back_at ◌and◌
back_no s d x y h = rw (ne_eqb x s h)

pub back_dir : (s d x y : ℕ) → x ≡ s → eqb y d ≡ back_at s d x y
unfolding back_at ◌and◌
back_dir s d x y h = rw (eq-eqb x s h)
