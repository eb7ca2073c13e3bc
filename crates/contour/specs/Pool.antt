-- The walker's list as a part of the pool, and what the walk leaves there.
use Rattle.std.specs.Prelude.{◌≡◌, List, ◌++◌, ℕ, ◌+◌, ◌-◌, ◌*◌, ◌%◌, ◌≤◌, ◌<◌, length, get_or, take, replicate, eqb}
use borrow.Rule.Slice.PartMut.{put_mid, mid_of}
use Rattle.rules.specs.Base.{many}
use Rattle.rules.specs.Contour.{across, stride, walk, trim, Walker as RWalker}
use Rattle.space.specs.Space.{sec}
use Rattle.field.specs.declared.place.SpanIx.{SpanIx}
use Rattle.net.specs.Table.{net_at, Lent}
use Rattle.contour.specs.Ways.{Ways}
use Rattle.contour.specs.Walks.{most_strides, first}
use Rattle.contour.specs.declared.walker.Walker.{Walker}
use Rattle.contour.specs.declared.walk.Pool.{Pool}

abbrev pub turned : Walker → Walker
turned v = record { span = v.span; dir = (v.dir + 1) % 4; last = v.last; end = v.end }

abbrev pub stepped : Walker → SpanIx → Walker
stepped v to = record { span = to; dir = (v.dir + 3) % 4; last = v.last; end = v.end }

abbrev pub noted : Walker → ℕ → Walker
noted v r = record { span = v.span; dir = v.dir; last = r; end = v.end + 1 }

-- the walker of the rules: its list is the part of the pool, which begins at `at`, from start on
unfoldable pub view : ℕ → ℕ → List ℕ → Walker → RWalker
view at start ws v = record { span = v.span.0; dir = v.dir; last = v.last; listed = sec (at + start) (v.end - start) ws }

-- a list that ends at e lies in the pool, so many numbers from `at` on, from start on, with zeros after it; what is before it and what is past
-- the pool is that of ws₀
pub record Laid (ws₀ : List ℕ) (at size start e : ℕ) (ws : List ℕ) : Type 0 where
  pub order : start ≤ e
  pub within : e ≤ size
  pub inside : at + size ≤ length ws
  pub same : length ws ≡ length ws₀
  pub before : (i : ℕ) → i < at + start → get_or ws i 0 ≡ get_or ws₀ i 0
  pub blank : (i : ℕ) → e ≤ i → i < size → get_or ws (at + i) 0 ≡ 0
  pub after : (i : ℕ) → at + size ≤ i → get_or ws i 0 ≡ get_or ws₀ i 0

-- l from start on, and zeros after it
unfoldable pub lay : List ℕ → ℕ → List ℕ → List ℕ
lay pool start l = take start pool ++ (l ++ replicate (length pool - (start + length l)) 0)

-- the pool, so many numbers from `at` on, with the list l from start on
unfoldable pub pooled : List ℕ → ℕ → ℕ → ℕ → List ℕ → List ℕ
pooled ws at size start l = put_mid at size ws (lay (mid_of at size ws) start l)

-- a walker on a span of some region, with room for one more
pub record Standing (pool : Pool) (con ids : List ℕ) (v : Walker) (ws : List ℕ) : Type 0 where
  pub lent : Lent pool.table ids con ws
  pub apart : pool.at + 4 * length ids ≤ pool.table
  pub span : v.span.0 < length ids
  pub dir : v.dir < 4
  pub own : get_or ids v.span.0 0 ≡ 0 → ⊥
  pub room : (across (net_at pool.table ids ws) ids v.span.0 v.dir ≡ v.last → ⊥) → v.end < 4 * length ids

-- a start: a span of a region, room for four ids a span of it, and zeros there
pub record Start (pool : Pool) (con ids : List ℕ) (s start : ℕ) (ws : List ℕ) : Type 0 where
  pub ways : Ways pool.table con ids ws
  pub apart : pool.at + 4 * length ids ≤ pool.table
  pub span : s < length ids
  pub own : get_or ids s 0 ≡ 0 → ⊥
  pub room : start + 4 * many (eqb (get_or ids s 0)) ids ≤ 4 * length ids
  pub blank : (i : ℕ) → start ≤ i → i < 4 * length ids → get_or ws (pool.at + i) 0 ≡ 0

-- what a stride leaves
pub record Stridden (pool : Pool) (ids ws : List ℕ) (v : Walker) (ws' : List ℕ) (u : Walker) : Type 0 where
  pub same : (start : ℕ) → start ≤ v.end → view pool.at start ws' u ≡ stride (net_at pool.table ids ws) ids (view pool.at start ws v)
  pub net : net_at pool.table ids ws' ≡ net_at pool.table ids ws
  pub laid : (ws₀ : List ℕ) (start : ℕ) → Laid ws₀ pool.at (4 * length ids) start v.end ws → Laid ws₀ pool.at (4 * length ids) start u.end ws'
  pub order : v.end ≤ u.end

-- what the start leaves
pub record Begun (pool : Pool) (ids ws : List ℕ) (s d start : ℕ) (ws' : List ℕ) (u : Walker) : Type 0 where
  pub same : view pool.at start ws' u ≡ first (net_at pool.table ids ws) ids s d
  pub net : net_at pool.table ids ws' ≡ net_at pool.table ids ws
  pub laid : Laid ws pool.at (4 * length ids) start u.end ws'
  pub order : start < u.end

-- what the walk leaves, before the list is trimmed
pub record Walked (pool : Pool) (ids ws : List ℕ) (s d start : ℕ) (ws' : List ℕ) (u : Walker) : Type 0 where
  pub same :
      let N = net_at pool.table ids ws in
      view pool.at start ws' u ≡ walk N ids s d most_strides (first N ids s d)
  pub laid : Laid ws pool.at (4 * length ids) start u.end ws'
  pub order : start < u.end

-- what trimming leaves
pub record Trimmed (at : ℕ) (ws : List ℕ) (start e : ℕ) (ws' : List ℕ) (r : ℕ) : Type 0 where
  pub same : sec (at + start) (r - start) ws' ≡ trim (sec (at + start) (e - start) ws)
  pub laid : (ws₀ : List ℕ) (size : ℕ) → Laid ws₀ at size start e ws → Laid ws₀ at size start r ws'
