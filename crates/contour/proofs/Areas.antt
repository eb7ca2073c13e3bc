-- A contour reads no area: two nets with the same neighbours have the same edges and contours.
-- It holds because each reads the net by `near` alone.
use Prim.Native.Nat.{ℕ, zero, suc}
use mathlib.Core.Path.{◌≡◌, refl, ap}
use mathlib.Core.List.{List}
use lib.ListN.{length}
use Rattle.rules.specs.Net.{Net, near}
use Rattle.rules.specs.Contour.{across, solid, first_solid, Walker, stride, walk, trim, walk_from, contour, cut_short}
use Rattle.net.specs.Table.{net_at}
use Rattle.contour.specs.Ways.{Ways}

module _ (l a b ids : List ℕ) where
  abbrev N : Net
  N = record { neighbours = l; areas = a }

  abbrev M : Net
  M = record { neighbours = l; areas = b }

  pub first_areas : (s : ℕ) → first_solid N ids s ≡ first_solid M ids s
  unfolding near across solid first_solid
  first_areas s = refl

  stride_areas : (v : Walker) → stride N ids v ≡ stride M ids v
  unfolding near across solid stride
  stride_areas v = refl

  walk_areas : (s d k : ℕ) (v : Walker) → walk N ids s d k v ≡ walk M ids s d k v
  unfolding walk
  walk_areas s d zero v = refl
  walk_areas s d (suc k) v = rw (stride_areas v, walk_areas s d k (stride M ids v))

  from_areas : (s d : ℕ) → walk_from N ids s d ≡ walk_from M ids s d
  unfolding near across walk_from
  from_areas s d = walk_areas s d 40000 _

  pub contour_areas : (s d : ℕ) → contour N ids s d ≡ contour M ids s d
  unfolding contour
  contour_areas s d = ap (λ (v : Walker). trim v.listed) (from_areas s d)

  pub cut_areas : (s d : ℕ) → cut_short N ids s d ≡ cut_short M ids s d
  unfolding cut_short
  cut_areas s d = rw (from_areas s d)

-- so ids may stand where the areas are
pub ways_areas : (table : ℕ) (con ar ids ws : List ℕ) → length ids ≡ length ar → Ways table con ar ws → Ways table con ids ws
unfolding net_at near
ways_areas table con ar ids ws e w = record {
  lent = record {
    closed = record { few = rw e w.lent.closed.few; inside = rw e w.lent.closed.inside };
    opens = rw e (λ s h. record { shut = (w.lent.opens s h).shut; leads = (w.lent.opens s h).leads });
    linked = rw e w.lent.linked;
    room = rw e w.lent.room;
    place = w.lent.place;
  };
  answers = record { back = rw e w.answers.back };
}
