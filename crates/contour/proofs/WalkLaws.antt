-- The walk's loop: after k strides without coming back, what is left of the rule's walk from here is the whole walk.
-- There is room for what is listed because a walk that is not back has been at no place twice (`been_space`).
use Prim.Native.Nat.{ℕ, suc, ◌+◌, ◌*◌, ◌-◌, ◌≤◌, ◌<◌}
use native.Mathlib.Omega.{arith}
use native.Mathlib.Numerals.{add-one}
use mathlib.Core.Path.{◌≡◌, refl, sym, ap, ◌∙◌}
use mathlib.Core.Bool.{Bool, true, false, not}
use mathlib.Core.List.{List}
use lib.ListN.{length, get_or}
use lib.Dec.{eqb}
use Rattle.rules.specs.Base.{◌and◌, when◌then◌else◌}
use Rattle.rules.specs.Net.{Net, spans}
use Rattle.rules.specs.Contour.{stride, walk, trim, walk_from, contour, cut_short, Walker as RWalker}
use Rattle.laws.proofs.Strides.{Answered}
use Rattle.space.specs.Space.{sec}
use Rattle.space.proofs.Laws.{length-sec}
use Rattle.net.specs.Table.{net_at, last_place}
use Rattle.net.proofs.Tables.{spans-at, lent_same}
use Rattle.contour.specs.Ways.{Ways}
use Rattle.contour.specs.Walks.{most_strides, first, back_at, Been}
use Rattle.contour.specs.Pool.{view, Laid, pooled, Standing, Start, Stridden, Begun, Walked, Trimmed}
use Rattle.contour.specs.declared.walker.Walker.{Walker}
use Rattle.contour.specs.declared.walk.Pool.{Pool}
use Rattle.contour.proofs.Room.{been_first, been_next, been_on, been_space}
use Rattle.contour.proofs.PoolLaws.{laid_whole}

-- what holds after k strides without coming back, of a walk whose first id is listed in ws₀
pub record Going (pool : Pool) (ids ws₀ : List ℕ) (s d start : ℕ) (ws : List ℕ) (v : Walker) (k : ℕ) : Type 0 where
  pub low : k ≤ most_strides
  pub laid : Laid ws₀ pool.at (4 * length ids) start v.end ws
  pub order : start < v.end
  pub net : net_at pool.table ids ws ≡ net_at pool.table ids ws₀
  pub been : Been (net_at pool.table ids ws₀) ids s d k (view pool.at start ws v)
  pub same :
      let N = net_at pool.table ids ws₀ in
      walk N ids s d most_strides (first N ids s d) ≡ walk N ids s d (most_strides - k) (view pool.at start ws v)

module _ (N : Net) (ids : List ℕ) (s d : ℕ) (v u : RWalker) (e : u ≡ stride N ids v) where
  walk_go : (m : ℕ) → back_at s d u.span u.dir ≡ false → walk N ids s d (suc m) v ≡ walk N ids s d m u
  unfolding walk back_at when◌then◌else◌
  walk_go m b = let z : (eqb (stride N ids v).span s and eqb (stride N ids v).dir d) ≡ false = rw (← e) b in rw (z, ← e)

  walk-back : (m : ℕ) → back_at s d u.span u.dir ≡ true → walk N ids s d (suc m) v ≡ u
  unfolding walk back_at when◌then◌else◌
  walk-back m b = let z : (eqb (stride N ids v).span s and eqb (stride N ids v).dir d) ≡ true = rw (← e) b in rw (z, ← e)

walk_none : (N : Net) (ids : List ℕ) (s d m : ℕ) (v : RWalker) → m ≡ 0 → walk N ids s d m v ≡ v
unfolding walk
walk_none N ids s d m v e = rw e

laid_then : (p q r : List ℕ) (at size start e f : ℕ) → Laid p at size start e q → Laid q at size start f r → Laid p at size start f r
laid_then p q r at size start e f a b = record {
  order = b.order;
  within = b.within;
  inside = b.inside;
  same = b.same ∙ a.same;
  before = λ i h. b.before i h ∙ a.before i h;
  blank = b.blank;
  after = λ i h. b.after i h ∙ a.after i h;
}

-- the ways of a walk are mutual, as the strides need them
pub ways_answered : (table : ℕ) (cs ids ws : List ℕ) → Ways table cs ids ws → Answered (net_at table ids ws)
ways_answered table cs ids ws w = record { few = w.lent.closed.few; back = w.answers.back }

-- and stay where the net stays
pub ways_same : (table : ℕ) (cs ids ws ws' : List ℕ) → length ws' ≡ length ws → net_at table ids ws' ≡ net_at table ids ws → Ways table cs ids ws → Ways table cs ids ws'
ways_same table cs ids ws ws' e n w = record { lent = lent_same table ids cs ws ws' e n w.lent; answers = rw n w.answers }

module _ (pool : Pool) (cs ids ws₀ : List ℕ) (s d start : ℕ) (st : Start pool cs ids s start ws₀) (hd : d < 4) (p : List ℕ) (v₀ : Walker) (b : Begun pool ids ws₀ s d start p v₀) where
  abbrev N : Net
  N = net_at pool.table ids p

  ok : Answered N
  ok = rw b.net (ways_answered pool.table cs ids ws₀ st.ways)

  size : length ids ≡ spans N
  size = sym (spans-at pool.table ids p)

  within : s < spans N
  within = rw (spans-at pool.table ids p) st.span

  first-same : view pool.at start p v₀ ≡ first N ids s d
  first-same = rw b.net b.same

  pub going_start : Going pool ids p s d start p v₀ 0
  going_start = record {
    low = omega arith;
    laid = record {
      order = b.laid.order;
      within = b.laid.within;
      inside = b.laid.inside;
      same = refl;
      before = λ i h. refl;
      blank = b.laid.blank;
      after = λ i h. refl;
    };
    order = b.order;
    net = refl;
    been = rw first-same (been_first N ok ids size (get_or ids s 0) st.own s d within hd refl);
    same = rw first-same refl;
  }

  module _ (ws : List ℕ) (v : Walker) (k : ℕ) (g : Going pool ids p s d start ws v k) where
    pub going_stand : Standing pool cs ids v ws
    unfolding view
    going_stand =
        let o = been_on N ok ids size (get_or ids s 0) st.own s d within hd refl k _ g.been in
        let l = lent_same pool.table ids cs ws₀ p b.laid.same b.net st.ways.lent in
        record {
          lent = lent_same pool.table ids cs p ws g.laid.same g.net l;
          apart = st.apart;
          span = rw (← spans-at pool.table ids p) o.span;
          dir = o.dir;
          own = λ z. st.own (sym o.id ∙ z);
          room = rw g.net (λ n.
              let r = been_space N ok ids size (get_or ids s 0) st.own s d within hd refl k _ g.been n in
              let z = length-sec (pool.at + start) (v.end - start) ws (omega (arith, g.laid.order, g.laid.within, g.laid.inside)) in
              omega (arith, r, z, st.room, g.order));
        }

    module _ (ws' : List ℕ) (u : Walker) (t : Stridden pool ids ws v ws' u) (h : k < most_strides) where
      fuel : most_strides - k ≡ suc (most_strides - (k + 1))
      fuel = omega arith

      strode : view pool.at start ws' u ≡ stride N ids (view pool.at start ws v)
      strode = rw (← g.net) (t.same start g.laid.order)

      pub going_next : (x : Bool) → x ≡ back_at s d u.span.0 u.dir → x ≡ false → Going pool ids p s d start ws' u (k + 1)
      unfolding view
      going_next x f z =
          let away : back_at s d u.span.0 u.dir ≡ false = sym f ∙ z in
          record {
            low = omega arith;
            laid = t.laid p start g.laid;
            order = omega (arith, g.order, t.order);
            net = t.net ∙ g.net;
            been =
                rw (strode, add-one k)
                (been_next N ok ids size (get_or ids s 0) st.own s d within hd refl k _ g.been (rw (← strode) away));
            same = g.same ∙ rw fuel (walk_go N ids s d _ _ strode _ away);
          }

      pub going-back : (x : Bool) → x ≡ back_at s d u.span.0 u.dir → x ≡ true → Walked pool ids ws₀ s d start ws' u
      unfolding view
      going-back x f z =
          let home : back_at s d u.span.0 u.dir ≡ true = sym f ∙ z in
          record {
            same = rw (← b.net) (sym (g.same ∙ rw fuel (walk-back N ids s d _ _ strode _ home)));
            laid = laid_then _ _ _ _ _ _ _ _ b.laid (t.laid p start g.laid);
            order = omega (arith, g.order, t.order);
          }

    pub going_end : most_strides ≤ k → Walked pool ids ws₀ s d start ws v
    going_end h = record {
      same = rw (← b.net) (sym (g.same ∙ walk_none N ids s d _ _ (omega arith)));
      laid = laid_then _ _ _ _ _ _ _ _ b.laid g.laid;
      order = g.order;
    }

-- the list, trimmed
module _ (pool : Pool) (cs ids ws₀ : List ℕ) (s d start : ℕ) (st : Start pool cs ids s start ws₀) (ws : List ℕ) (v : Walker) (k : Walked pool ids ws₀ s d start ws v) where
  pub trim_there : (pool.at ≤ last_place) × (start < v.end) × (pool.at + v.end ≤ length ws)
  trim_there = (omega (arith, st.apart, st.ways.lent.place), k.order, omega (arith, k.laid.within, k.laid.inside))

  -- a walk that is not back was cut short
  pub cut_is : (b : Bool) → b ≡ back_at s d v.span.0 v.dir → not b ≡ cut_short (net_at pool.table ids ws₀) ids s d
  unfolding cut_short walk_from first view back_at
  cut_is b e = ap not e ∙ ap (λ (x : RWalker). not (eqb x.span s and eqb x.dir d)) k.same

  module _ (ws' : List ℕ) (r : ℕ) (t : Trimmed pool.at ws start v.end ws' r) where
    contour_is : sec (pool.at + start) (r - start) ws' ≡ contour (net_at pool.table ids ws₀) ids s d
    unfolding contour walk_from first view
    contour_is = t.same ∙ ap (λ (x : RWalker). trim x.listed) k.same

    pub contour_pool : ws' ≡ pooled ws₀ pool.at (4 * length ids) start (contour (net_at pool.table ids ws₀) ids s d)
    contour_pool = rw (← contour_is) (laid_whole ws₀ ws' pool.at (4 * length ids) start r (t.laid ws₀ (4 * length ids) k.laid))

    pub contour-end : r ≡ start + length (contour (net_at pool.table ids ws₀) ids s d)
    contour-end =
        let y = t.laid ws₀ (4 * length ids) k.laid in
        let z = length-sec (pool.at + start) (r - start) ws' (omega (arith, y.order, y.within, y.inside)) in
        rw (← contour_is) (omega (arith, z, y.order))
