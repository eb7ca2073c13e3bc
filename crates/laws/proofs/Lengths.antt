-- Lengths are kept: distances, grown ids and the result have one number for each span, and the records run from 0 to the next id.
-- Every step stores into a list, maps it, or makes it for the spans.
use Prim.Native.Nat.{ℕ, zero, suc, ◌*◌}
use mathlib.Core.Path.{◌≡◌, refl, ◌∙◌}
use mathlib.Core.List.{List, [], ◌∷◌}
use lib.ListN.{length, set, length-set, length-replicate, length-map}
use lib.Dec.{eqb}
use Rattle.rules.specs.Base.{upto, tab}
use Rattle.rules.specs.Field.{Field, spans}
use Rattle.rules.specs.Net.{Net, net_of}
use Rattle.rules.specs.Distance.{start, lower, pass1, pass2, raw, blur}
use Rattle.rules.specs.Growth.{Marks, put, painted, wrote, written, Spread, round, rounds, expand, Seed, Flow, pushed, visit, flow, flood, Ids, floods, Turn, turn, grown}
use Rattle.rules.specs.Records.{Rec, fresh, add_span, records}
use Rattle.rules.specs.Filter.{Gather, reach, gather, remove_all, filter_one, filtered}
use Rattle.rules.specs.Merge.{Merge, merge_one, merged}
use Rattle.rules.specs.Numbering.{numbered, regions}
use Rattle.laws.proofs.Basics.{if-ind, upto-ind, length-tab}

-- ---------------------------------------------------------------- distances

pub lower-length : (F : Field) (a b c e s : ℕ) (l : List ℕ) → length (lower F a b c e s l) ≡ length l
unfolding lower
lower-length F a b c e s l = simp length-set

pub pass1-length : (F : Field) (l : List ℕ) → length (pass1 F l) ≡ length l
unfolding pass1
pass1-length F l = upto-ind (λ k x. length x ≡ length l) (lower F 0 3 3 2) l (spans F) refl (λ k x h p. lower-length F 0 3 3 2 k x ∙ p)

pub pass2-length : (F : Field) (l : List ℕ) → length (pass2 F l) ≡ length l
unfolding pass2
pass2-length F l =
    upto-ind (λ k x. length x ≡ length l) _ l (F.w * F.h) refl
    (λ k x h p. upto-ind (λ j y. length y ≡ length l) _ x _ p (λ j y g q. lower-length F 2 1 1 0 _ y ∙ q))

pub start-length : (F : Field) → length (start F) ≡ spans F
unfolding start
start-length F = length-tab (spans F) 0 _

pub raw-length : (F : Field) → length (raw F) ≡ spans F
unfolding raw
raw-length F = pass2-length F _ ∙ pass1-length F _ ∙ start-length F

pub blur-length : (F : Field) (l : List ℕ) → length (blur F l) ≡ spans F
unfolding blur
blur-length F l = length-tab (spans F) 0 _

-- ---------------------------------------------------------------- growth

pub painted-length : (F : Field) (b : ℕ) → length (painted F b).ids ≡ spans F
unfolding painted
painted-length F b = if-ind (λ (l : List ℕ). length l ≡ spans F) (eqb b 0) (λ _. length-replicate (spans F) _) (λ _. length-tab (spans F) 0 _)

module _ (N : Net) where
  wrote-length : (m : Marks) (e : ℕ) (out : Marks) → length (wrote N m e out).ids ≡ length out.ids
  unfolding wrote put
  wrote-length m e out = if-ind (λ (x : Marks). length x.ids ≡ length out.ids) _ (λ _. length-set out.ids e _) (λ _. refl)

  pub written-length : (m : Marks) (es : List ℕ) (out : Marks) → length (written N m es out).ids ≡ length out.ids
  unfolding written
  written-length m [] out = refl
  written-length m (e ∷ es) out = written-length m es (wrote N m e out) ∙ wrote-length m e out

  rounds-length : (k : ℕ) (p : Spread) → length (rounds N k p).marks.ids ≡ length p.marks.ids
  unfolding rounds round
  rounds-length zero p = refl
  rounds-length (suc k) p =
      if-ind (λ (x : Spread). length x.marks.ids ≡ length p.marks.ids) _
      (λ _. rounds-length k (round N p) ∙ written-length p.marks p.stack p.marks)
      (λ _. refl)

  pub expand-length : (level : ℕ) (m : Marks) (es : List ℕ) → length (expand N level m es).marks.ids ≡ length m.ids
  unfolding expand
  expand-length level m es = rounds-length _ _

  module _ (dist : List ℕ) where
    visit-length : (q : Seed) (c : ℕ) (f : Flow) → length (visit N dist q c f).marks.ids ≡ length f.marks.ids
    unfolding visit pushed put
    visit-length q c f =
        if-ind (λ (x : Flow). length x.marks.ids ≡ length f.marks.ids) _
        (λ _. length-set f.marks.ids c 0)
        (λ _. upto-ind (λ k (x : Flow). length x.marks.ids ≡ length f.marks.ids) (pushed N dist q c) _ 4 refl
        (λ k x _ p. if-ind (λ (y : Flow). length y.marks.ids ≡ length f.marks.ids) _ (λ _. length-set x.marks.ids _ _ ∙ p) (λ _. p)))

    flow-length : (q : Seed) (k : ℕ) (todo : List ℕ) (m : Marks) (n : ℕ) → length (flow N dist q k todo m n).marks.ids ≡ length m.ids
    unfolding flow
    flow-length q zero todo m n = refl
    flow-length q (suc k) [] m n = refl
    flow-length q (suc k) (c ∷ cs) m n = flow-length q k _ _ _ ∙ visit-length q c (record { todo = cs; marks = m; count = n })

    pub flood-length : (level id : ℕ) (m : Marks) (s : ℕ) → length (flood N dist level id m s).marks.ids ≡ length m.ids
    unfolding flood put
    flood-length level id m s = flow-length _ _ _ _ _ ∙ length-set m.ids s id

    pub floods-length : (level : ℕ) (es : List ℕ) (m : Marks) (id : ℕ) → length (floods N dist level es m id).marks.ids ≡ length m.ids
    unfolding floods
    floods-length level [] m id = refl
    floods-length level (e ∷ es) m id =
        if-ind (λ (x : Ids). length x.marks.ids ≡ length m.ids) _
        (λ _. floods-length level es _ _ ∙ flood-length level id m e)
        (λ _. floods-length level es m id)

    pub turn-length : (top k : ℕ) (t : Turn) → length (turn N dist top k t).marks.ids ≡ length t.marks.ids
    unfolding turn
    turn-length top k t = floods-length _ _ _ _ ∙ expand-length _ t.marks _

pub grown-length : (F : Field) (dist : List ℕ) (most b : ℕ) → length (grown F dist most b).ids ≡ spans F
unfolding grown
grown-length F dist most b =
    expand-length (net_of F) 0 _ _
    ∙ upto-ind (λ k (t : Turn). length t.marks.ids ≡ spans F) (turn (net_of F) dist _) _ _ (painted-length F b) (λ k t _ p. turn-length (net_of F) dist _ k t ∙ p)

-- ---------------------------------------------------------------- records

pub records-length : (F : Field) (ids : List ℕ) (next : ℕ) → length (records F ids next) ≡ suc next
unfolding records add_span
records-length F ids next =
    upto-ind (λ k (x : List Rec). length x ≡ suc next) (add_span F ids) (tab (suc next) 0 fresh) (spans F) (length-tab (suc next) 0 fresh)
    (λ k x _ p. if-ind (λ (y : List Rec). length y ≡ suc next) _ (λ _. length-set x _ _ ∙ p) (λ _. p))

reach-length : (l : List ℕ) (g : Gather) → length (reach l g).recs ≡ length g.recs
unfolding reach
reach-length [] g = refl
reach-length (r ∷ l) g = reach-length l _ ∙ if-ind (λ (q : Gather). length q.recs ≡ length g.recs) _ (λ _. refl) (λ _. length-set g.recs r _)

pub gather-length : (k : ℕ) (todo : List ℕ) (rs : List Rec) (found : List ℕ) → length (gather k todo rs found).recs ≡ length rs
unfolding gather
gather-length zero todo rs found = refl
gather-length (suc k) [] rs found = refl
gather-length (suc k) (i ∷ is) rs found = gather-length k _ _ _ ∙ reach-length _ _

pub remove_all-length : (l : List ℕ) (rs : List Rec) → length (remove_all l rs) ≡ length rs
unfolding remove_all
remove_all-length [] rs = refl
remove_all-length (i ∷ l) rs = remove_all-length l _ ∙ length-set rs i _

pub filter_one-length : (least i : ℕ) (rs : List Rec) → length (filter_one least i rs) ≡ length rs
unfolding filter_one
filter_one-length least i rs =
    let g = gather-length (suc (length rs)) (i ∷ []) _ [] ∙ length-set rs i _ in
    if-ind (λ (q : List Rec). length q ≡ length rs) _ (λ _. refl) (λ _. if-ind (λ (q : List Rec). length q ≡ length rs) _ (λ _. remove_all-length _ _ ∙ g) (λ _. g))

pub filtered-length : (least : ℕ) (rs : List Rec) → length (filtered least rs) ≡ length rs
unfolding filtered
filtered-length least rs = upto-ind (λ k (x : List Rec). length x ≡ length rs) (filter_one least) rs (length rs) refl (λ k x _ p. filter_one-length least k x ∙ p)

pub merge_one-length : (area i : ℕ) (g : Merge) → length (merge_one area i g).recs ≡ length g.recs
unfolding merge_one
merge_one-length area i g =
    if-ind (λ (x : Merge). length x.recs ≡ length g.recs) _ (λ _. refl)
    (λ _. length-map (set (set g.recs _ _) i _) _ ∙ length-set (set g.recs _ _) i _ ∙ length-set g.recs _ _)

pub merged-length : (area k : ℕ) (rs : List Rec) → length (merged area k rs) ≡ length rs
unfolding merged
merged-length area zero rs = refl
merged-length area (suc k) rs =
    let round : length (upto (length rs) (merge_one area) (record { recs = rs; merges = 0 })).recs ≡ length rs =
    upto-ind (λ i (x : Merge). length x.recs ≡ length rs) (merge_one area) (record { recs = rs; merges = 0 }) (length rs) refl (λ i x _ p. merge_one-length area i x ∙ p) in
    if-ind (λ (x : List Rec). length x ≡ length rs) _ (λ _. refl) (λ _. merged-length area k _ ∙ round)

-- ---------------------------------------------------------------- the result

pub numbered-length : (rs : List Rec) (ids : List ℕ) → length (numbered rs ids).ids ≡ length ids
unfolding numbered
numbered-length rs ids = length-map ids _

pub regions-length : (F : Field) (least area : ℕ) (ids : List ℕ) (next : ℕ) → length (regions F least area ids next).ids ≡ length ids
unfolding regions
regions-length F least area ids next = numbered-length _ ids
