-- "Why has this span no room? .. For a chosen span tell the reason". "Every reason is what the rules did in that very build": each rule here goes along the
-- plain rule's own states (Growth, Filter, Merge) and notes what it did to the span.
use Rattle.std.specs.Prelude.{ℕ, zero, suc, ◌+◌, ◌*◌, ◌-◌, ◌/◌, ◌%◌, Bool, not, List, [], ◌∷◌, ◌++◌, map, length, get_or, set, replicate, ltb, eqb}
use Rattle.rules.specs.Base.{◌and◌, when◌then◌else◌, upto, any}
use Rattle.rules.specs.Field.{Field, none, spans}
use Rattle.rules.specs.Net.{Net, net_of, near, corner, area_of}
use Rattle.rules.specs.Net as net
use Rattle.rules.specs.Refusals.{region_refusal}
use Rattle.rules.specs.Growth.{plain, flagged, Marks, id_of, put, painted, first_id, blank, takes, finds, Spread, round, expand, Seed, other, sees, objects, visit, flood, Turn, loaded, turn, grown, stops}
use Rattle.rules.specs.Records.{Rec, at, has, records}
use Rattle.rules.specs.Filter.{seen, gather, total, filter_one, filtered}
use Rattle.rules.specs.Merge.{Merge, merge_one}
use Rattle.rules.specs.Numbering.{dense, regions, formed}
use Rattle.rules.specs.Outcomes.{Sizes}

-- ---------------------------------------------------------------- what growth did to one span

-- the span; the span whose id it took at an expansion, `none` until it took one; and "the last flood that gave the span back, if any, .. by its id, with the
-- objecting span", 0 until there was one
pub record Story : Type 0 where
  pub span : ℕ
  pub from : ℕ
  pub gave : ℕ
  pub objecting : ℕ

unfoldable pub begins : ℕ → Story
begins s = record { span = s; from = none; gave = 0; objecting = 0 }

unfoldable pub took_from : ℕ → Story → Story
took_from a y = record { span = y.span; from = a; gave = y.gave; objecting = y.objecting }

unfoldable pub gave_back : ℕ → ℕ → Story → Story
gave_back id o y = record { span = y.span; from = y.from; gave = id; objecting = o }

-- "it takes the id of the first with the least source distance plus 2": the neighbour of entry s in direction d has the sum far
unfoldable pub gives : Net → Marks → ℕ → ℕ → ℕ → Bool
gives N m s far d = eqb (area_of N (near N s d)) (area_of N s) and plain (id_of m (near N s d)) and eqb (get_or m.src (near N s d) 0 + 2) far

-- "for expansion the span whose id it took": the first neighbour with the least sum
unfoldable pub source : Net → Marks → ℕ → ℕ
source N m s =
    when gives N m s (takes N m s).far 0 then near N s 0 else
    when gives N m s (takes N m s).far 1 then near N s 1 else
    when gives N m s (takes N m s).far 2 then near N s 2 else near N s 3

-- a round, in which the span takes an id if it stands in the stack, unused, and finds one
unfoldable pub round_tells : Net → Spread → Story → Story
round_tells N p y = when has p.stack y.span and finds N p.marks y.span then took_from (source N p.marks y.span) y else y

unfoldable pub rounds_tell : Net → ℕ → Spread → Story → Story
rounds_tell N zero p y = y
rounds_tell N (suc k) p y =
    let rest = rounds_tell N k (round N p) (round_tells N p y) in
    when any (finds N p.marks) p.stack then rest else y

unfoldable pub expand_tells : Net → ℕ → Marks → List ℕ → Story → Story
expand_tells N level m es y =
    rounds_tell N (when eqb level 0 then suc (length es) else 8)
    (record { marks = m; stack = map (λ e. when eqb (id_of m e) 0 then e else none) es }) y

-- "the objecting span": the neighbour whose other id span c sees in direction d, or else its corner
unfoldable pub objector : Net → Marks → Seed → ℕ → ℕ → ℕ
objector N m q c d = when other q.id (id_of m (near N c d)) then near N c d else corner N c d

-- the first in the order of looking
unfoldable pub objecting : Net → Marks → Seed → ℕ → ℕ
objecting N m q c =
    when eqb (sees N m q c 0) 2 then objector N m q c 0 else
    when eqb (sees N m q c 1) 2 then objector N m q c 1 else
    when eqb (sees N m q c 2) 2 then objector N m q c 2 else objector N m q c 3

-- "With an objection the span returns to id 0": a visit of span c
unfoldable pub visit_tells : Net → Marks → Seed → ℕ → Story → Story
visit_tells N m q c y = when eqb c y.span and objects N m q c then gave_back q.id (objecting N m q c) y else y

unfoldable pub flow_tells : Net → List ℕ → Seed → ℕ → List ℕ → Marks → ℕ → Story → Story
flow_tells N dist q zero todo m n y = y
flow_tells N dist q (suc k) [] m n y = y
flow_tells N dist q (suc k) (c ∷ cs) m n y =
    let f = visit N dist q c (record { todo = cs; marks = m; count = n }) in
    flow_tells N dist q k f.todo f.marks f.count (visit_tells N m q c y)

unfoldable pub flood_tells : Net → List ℕ → ℕ → ℕ → Marks → ℕ → Story → Story
flood_tells N dist level id m s y =
    flow_tells N dist (record { area = area_of N s; id = id; limit = level - 2 }) (5 * net.spans N + 5) (s ∷ []) (put m s id 0) 0 y

unfoldable pub floods_tell : Net → List ℕ → ℕ → List ℕ → Marks → ℕ → Story → Story
floods_tell N dist level [] m id y = y
floods_tell N dist level (e ∷ es) m id y =
    let f = flood N dist level id m e in
    let hit = floods_tell N dist level es f.marks (when eqb f.count 0 then id else suc id) (flood_tells N dist level id m e y) in
    let miss = floods_tell N dist level es m id y in
    when not (eqb e none) and eqb (id_of m e) 0 then hit else miss

-- turn k of all, from t
unfoldable pub turn_tells : Net → List ℕ → ℕ → ℕ → Turn → Story → Story
turn_tells N dist top k t y =
    let level = top - 2 * (k + 1) in
    let j = k % 8 in
    let entries = get_or (loaded N dist level j t) j [] in
    let e = expand N level t.marks entries in
    floods_tell N dist level e.stack e.marks t.next (expand_tells N level t.marks entries y)

-- k turns from t on
unfoldable pub turns_tell : Net → List ℕ → ℕ → ℕ → Turn → Story → Story
turns_tell N dist top zero t y = y
turns_tell N dist top (suc k) t y = turn_tells N dist top k (upto k (turn N dist top) t) (turns_tell N dist top k t y)

-- all of growth
unfoldable pub story : Field → List ℕ → ℕ → ℕ → ℕ → Story
story F dist most b s =
    let N = net_of F in
    let top = 2 * ((most + 1) / 2) in
    let start : Turn = record { marks = painted F b; stacks = []; next = first_id b } in
    let t = upto (top / 2) (turn N dist top) start in
    expand_tells N 0 t.marks (blank N.areas t.marks.ids) (turns_tell N dist top (top / 2) start (begins s))

-- ---------------------------------------------------------------- filter and merge

-- "its group's count": the total of the gathering from record i, which is held against the least area
unfoldable pub group_count : ℕ → List Rec → ℕ
group_count i rs = total rs (gather (suc (length rs)) (i ∷ []) (set rs i (seen (at rs i))) []).found

-- "removed by the filter": the count of the group with which record r loses its id, as the first k records have their turn
unfoldable pub gone_with : ℕ → ℕ → ℕ → List Rec → ℕ
gone_with least r zero rs = 0
gone_with least r (suc k) rs =
    let before = upto k (filter_one least) rs in
    when not (eqb (at before r).id 0) and eqb (at (filter_one least k before) r).id 0 then group_count k before
    else gone_with least r k rs

-- a merge: an id that was absorbed, and the id that absorbed it
pub record Merging : Type 0 where
  pub old : ℕ
  pub new : ℕ

-- record i has its turn: if it merges, what its id was and what it is now
unfoldable pub merge_tells : ℕ → ℕ → Merge → List Merging → List Merging
merge_tells area i g l =
    let g' = merge_one area i g in
    when eqb g'.merges g.merges then l else l ++ (record { old = (at g.recs i).id; new = (at g'.recs i).id } ∷ [])

-- the first k records of a round
unfoldable pub round_merges : ℕ → ℕ → Merge → List Merging → List Merging
round_merges area zero g l = l
round_merges area (suc k) g l = merge_tells area k (upto k (merge_one area) g) (round_merges area k g l)

-- all merges, in the order in which they happen: `merged`, round by round
unfoldable pub mergings : ℕ → ℕ → List Rec → List Merging → List Merging
mergings area zero rs l = l
mergings area (suc k) rs l =
    let start : Merge = record { recs = rs; merges = 0 } in
    let g = upto (length rs) (merge_one area) start in
    let rest = mergings area k g.recs (round_merges area (length rs) start l) in
    when eqb g.merges 0 then l else rest

-- "the trail of merges from the flood's id to the last": the id, then each id that it became by a merge
unfoldable pub trail : List Merging → ℕ → List ℕ
trail [] r = r ∷ []
trail (x ∷ xs) r = when eqb x.old r then r ∷ trail xs x.new else trail xs r

-- ---------------------------------------------------------------- the reason

-- "not walkable; painted by which strip; never reached; removed by the filter, with its group's count and the least area; or its flood id, whether flooded
-- or expanded, and for expansion the span whose id it took, and the trail of merges .., then the final number"
pub data Reason : Type 0 where
  not_walkable : Reason
  painted_by : ℕ → Reason
  never_reached : Reason
  filtered_out : ℕ → ℕ → Reason
  flooded : ℕ → List ℕ → ℕ → Reason
  expanded : ℕ → ℕ → List ℕ → ℕ → Reason

-- "exactly one first reason applies": the first of these
unfoldable pub reason_of : Field → List ℕ → ℕ → Sizes → ℕ → Reason
reason_of F dist most z s =
    let g = grown F dist most z.border in
    let r = get_or g.ids s 0 in
    let recs = records F g.ids g.next in
    let kept = filtered z.least recs in
    let ids = trail (mergings z.merge (suc (length kept)) kept []) r in
    let number = get_or (formed dense (regions F z.least z.merge g.ids g.next)).ids s 0 in
    let a = (story F dist most z.border s).from in
    when eqb (get_or F.area s 256) 0 then not_walkable else
    when flagged r then painted_by (r - 0x8000) else
    when eqb r 0 then never_reached else
    when eqb (at kept r).id 0 then filtered_out (gone_with z.least r (length recs) recs) z.least else
    when eqb a none then flooded r ids number else expanded r a ids number

-- the numbers of a reason: "Numbers that a reason does not have are 0"
abbrev pub reason_number : Reason → ℕ
reason_number not_walkable = 1
reason_number (painted_by p) = 2
reason_number never_reached = 3
reason_number (filtered_out c l) = 4
reason_number (flooded r t k) = 5
reason_number (expanded r a t k) = 6

abbrev pub strip_of : Reason → ℕ
strip_of not_walkable = 0
strip_of (painted_by p) = p
strip_of never_reached = 0
strip_of (filtered_out c l) = 0
strip_of (flooded r t k) = 0
strip_of (expanded r a t k) = 0

abbrev pub group_of : Reason → ℕ
group_of not_walkable = 0
group_of (painted_by p) = 0
group_of never_reached = 0
group_of (filtered_out c l) = c
group_of (flooded r t k) = 0
group_of (expanded r a t k) = 0

abbrev pub least_of : Reason → ℕ
least_of not_walkable = 0
least_of (painted_by p) = 0
least_of never_reached = 0
least_of (filtered_out c l) = l
least_of (flooded r t k) = 0
least_of (expanded r a t k) = 0

abbrev pub grown_of : Reason → ℕ
grown_of not_walkable = 0
grown_of (painted_by p) = 0
grown_of never_reached = 0
grown_of (filtered_out c l) = 0
grown_of (flooded r t k) = r
grown_of (expanded r a t k) = r

abbrev pub from_of : Reason → ℕ
from_of not_walkable = 0
from_of (painted_by p) = 0
from_of never_reached = 0
from_of (filtered_out c l) = 0
from_of (flooded r t k) = 0
from_of (expanded r a t k) = a

abbrev pub trail_of : Reason → List ℕ
trail_of not_walkable = []
trail_of (painted_by p) = []
trail_of never_reached = []
trail_of (filtered_out c l) = []
trail_of (flooded r t k) = t
trail_of (expanded r a t k) = t

abbrev pub final_of : Reason → ℕ
final_of not_walkable = 0
final_of (painted_by p) = 0
final_of never_reached = 0
final_of (filtered_out c l) = 0
final_of (flooded r t k) = k
final_of (expanded r a t k) = k

-- ---------------------------------------------------------------- the entry

-- "14 for a span number not below n, after 1 to 8"; "The trail goes into a lent list of n numbers (another length is 3)": trail is its length
unfoldable pub explain_refusal : Field → ℕ → ℕ → List ℕ → ℕ → ℕ → ℕ
explain_refusal F trail work dist most s =
    let r = region_refusal F (length dist ∷ trail ∷ []) work dist most in
    when not (eqb r 0) then r else
    when ltb s (spans F) then 0 else 14

pub record ExplainOutcome : Type 0 where
  pub refused : ℕ
  pub reason : ℕ
  pub strip : ℕ
  pub group : ℕ
  pub least : ℕ
  pub grown : ℕ
  pub from : ℕ
  pub length : ℕ
  pub number : ℕ
  pub gave : ℕ
  pub objecting : ℕ
  pub workspace : List ℕ
  pub trail : List ℕ

-- a refusal, with its number alone
unfoldable pub unexplained : ℕ → List ℕ → List ℕ → ExplainOutcome
unexplained r work trail = record {
  refused = r;
  reason = 0;
  strip = 0;
  group = 0;
  least = 0;
  grown = 0;
  from = 0;
  length = 0;
  number = 0;
  gave = 0;
  objecting = 0;
  workspace = work;
  trail = trail;
}

-- "The trail goes into a lent list of n numbers .., zeros after it."; "The last flood that gave the span back, if any, is named too, by its id, with the
-- objecting span."
unfoldable pub explains : ℕ → Reason → Story → ℕ → ExplainOutcome
explains n c y work = record {
  refused = 0;
  reason = reason_number c;
  strip = strip_of c;
  group = group_of c;
  least = least_of c;
  grown = grown_of c;
  from = from_of c;
  length = length (trail_of c);
  number = final_of c;
  gave = y.gave;
  objecting = y.objecting;
  workspace = replicate work 0;
  trail = trail_of c ++ replicate (n - length (trail_of c)) 0;
}

-- "Refusals: 14 .., after 1 to 8; with A6 in place, 12 and 13 follow as there.": these leave the workspace zeroed
unfoldable pub explain_outcome : Field → List ℕ → ℕ → Sizes → ℕ → List ℕ → List ℕ → ExplainOutcome
explain_outcome F dist most z s work₀ trail₀ =
    let r = explain_refusal F (length trail₀) (length work₀) dist most s in
    let stop = stops F dist most z.border in
    when not (eqb r 0) then unexplained r work₀ trail₀ else
    when not (eqb stop 0) then unexplained stop (replicate (length work₀) 0) trail₀ else
    explains (spans F) (reason_of F dist most z s) (story F dist most z.border s) (length work₀)
