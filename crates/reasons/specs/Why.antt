-- What each reason means, of the build itself: of its log (Log), its grown ids and its records.
use Rattle.std.specs.Prelude.{ℕ, suc, ◌+◌, ◌-◌, ◌/◌, ◌%◌, ◌≤◌, ◌<◌, ◌≡◌, true, false, List, [], ◌∷◌, length, get_or, set}
use Rattle.rules.specs.Base.{upto, any}
use Rattle.rules.specs.Field.{Field, cell_of, near, area_of}
use Rattle.rules.specs.Net.{net_of}
use Rattle.rules.specs.Growth.{flagged, paint_of, grown}
use Rattle.rules.specs.Records.{Rec, at, has, records}
use Rattle.rules.specs.Filter.{seen, gather, total, filter_one}
use Rattle.rules.specs.Outcomes.{Sizes}
use Rattle.rules.specs.Reasons.{ExplainOutcome}
use Rattle.rooms.specs.Rooms.{Plain, Bears}
use Rattle.reasons.specs.Log.{growth_log, Never, Once, Latest, Takes, From, GivesBack, By, Counts}
use Rattle.reasons.specs.First.{grown_id}

-- the column and the row of a span
abbrev pub column_of : Field → ℕ → ℕ
column_of F s = cell_of F.count s % F.w

abbrev pub row_of : Field → ℕ → ℕ
row_of F s = cell_of F.count s / F.w

-- "1 (left columns), 2 (right), 3 (low rows), 4 (high rows), .. each strip clipped to the field": span s lies on strip k of a border of b
pub data OnStrip (F : Field) (b s k : ℕ) : Type 0 where
  on_left : k ≡ 1 → column_of F s < b → OnStrip F b s k
  on_right : k ≡ 2 → F.w - b ≤ column_of F s → OnStrip F b s k
  on_low : k ≡ 3 → row_of F s < b → OnStrip F b s k
  on_high : k ≡ 4 → F.h - b ≤ row_of F s → OnStrip F b s k

-- "painted by which strip": span s is walkable and lies on strip k, and on none that is painted later; so the paint of rule 1 gives it k
pub record PaintedBy (F : Field) (b s k : ℕ) : Type 0 where
  pub border : 0 < b
  pub walks : area_of F s ≡ 0 → ⊥
  pub strips : (1 ≤ k) × (k ≤ 4)
  pub on : OnStrip F b s k
  pub over : (j : ℕ) → k < j → OnStrip F b s j → ⊥
  pub paint : paint_of F b s ≡ 0x8000 + k

-- "never reached": span s is walkable and has no id when growth is done, and no neighbour of its area has an id that is neither 0 nor flagged; no flood counted it,
-- and at no round it took an id
pub record NeverReached (F : Field) (dist : List ℕ) (most b s : ℕ) : Type 0 where
  pub walks : area_of F s ≡ 0 → ⊥
  pub own : Bears (grown F dist most b).ids 0 s
  pub apart : (d : ℕ) → d < 4 → area_of F (near F s d) ≡ area_of F s → Plain (get_or (grown F dist most b).ids (near F s d) 0) → ⊥
  pub uncounted : (k : ℕ) → Once (Counts (net_of F) dist s k) (growth_log F dist most b) → ⊥
  pub untaken : Never (Takes (net_of F) s) (growth_log F dist most b)

-- "expanded, and for expansion the span whose id it took": span a is a neighbour of span s and has its area, both have the id r when growth is done, and s took it
-- from a at the last round at which it took an id; no flood counted s
pub record ExpandedFrom (F : Field) (dist : List ℕ) (most b s a r : ℕ) : Type 0 where
  pub dir : ℕ
  pub four : dir < 4
  pub there : a ≡ near F s dir
  pub area : area_of F a ≡ area_of F s
  pub room : Plain r
  pub own : Bears (grown F dist most b).ids r s
  pub its : Bears (grown F dist most b).ids r a
  pub taken : Latest (Takes (net_of F) s) (From (net_of F) s a r) (growth_log F dist most b)
  pub uncounted : (k : ℕ) → Once (Counts (net_of F) dist s k) (growth_log F dist most b) → ⊥

-- "flooded": span s has the id r when growth is done, a flood of that id and of no other visited it, met no objection and counted it, and at no round
-- it took an id
pub record FloodedBy (F : Field) (dist : List ℕ) (most b s r : ℕ) : Type 0 where
  pub room : Plain r
  pub own : Bears (grown F dist most b).ids r s
  pub counted : Once (Counts (net_of F) dist s r) (growth_log F dist most b)
  pub only : (k : ℕ) → Once (Counts (net_of F) dist s k) (growth_log F dist most b) → k ≡ r
  pub untaken : Never (Takes (net_of F) s) (growth_log F dist most b)

-- "The last flood that gave the span back, if any, is named too, by its id, with the objecting span.": g is its id and o the span, both 0 for none
pub record GaveBack (F : Field) (dist : List ℕ) (most b s g o : ℕ) : Type 0 where
  pub last : (g ≡ 0 → ⊥) → Latest (GivesBack (net_of F) s) (By (net_of F) g o) (growth_log F dist most b)
  pub none : g ≡ 0 → (o ≡ 0) × Never (GivesBack (net_of F) s) (growth_log F dist most b)

-- the group that is gathered from record i of rs
abbrev pub gathered : ℕ → List Rec → List ℕ
gathered i rs = (gather (suc (length rs)) (i ∷ []) (set rs i (seen (at rs i))) []).found

-- record r of rs loses its id in the filter, at the turn of some record, in the group that is gathered from that one; count is the group's, below the
-- least area, and none of the group lists a flagged id
pub record RemovedWith (least : ℕ) (rs : List Rec) (r count : ℕ) : Type 0 where
  pub turn : ℕ
  pub live : (at (upto turn (filter_one least) rs) r).id ≡ 0 → ⊥
  pub gone : (at (upto (suc turn) (filter_one least) rs) r).id ≡ 0
  pub member : has (gathered turn (upto turn (filter_one least) rs)) r ≡ true
  pub is : count ≡ total (upto turn (filter_one least) rs) (gathered turn (upto turn (filter_one least) rs))
  pub below : count < least
  pub bare : any (λ j. any flagged (at (upto turn (filter_one least) rs) j).list) (gathered turn (upto turn (filter_one least) rs)) ≡ false

-- "removed by the filter, with its group's count and the least area": so it goes with the record of span s
abbrev pub FilteredOut : Field → List ℕ → ℕ → Sizes → ℕ → ℕ → Type 0
FilteredOut F dist most z s count =
    RemovedWith z.least (records F (grown F dist most z.border).ids (grown F dist most z.border).next) (grown_id F dist most z s) count

-- what an answer says of span s
pub record Means (F : Field) (dist : List ℕ) (most : ℕ) (z : Sizes) (s : ℕ) (o : ExplainOutcome) : Type 0 where
  pub bare : o.reason ≡ 1 → area_of F s ≡ 0
  pub painted : o.reason ≡ 2 → PaintedBy F z.border s o.strip
  pub missed : o.reason ≡ 3 → NeverReached F dist most z.border s
  pub removed : o.reason ≡ 4 → FilteredOut F dist most z s o.group × (o.least ≡ z.least)
  pub flooded : o.reason ≡ 5 → FloodedBy F dist most z.border s o.grown
  pub expanded : o.reason ≡ 6 → ExpandedFrom F dist most z.border s o.from o.grown
  pub back : GaveBack F dist most z.border s o.gave o.objecting
