-- Merges noted in their order, from a place on past the records. The rule's tellings, over records with floors that stay: those bear the same ids.
use Rattle.std.specs.Prelude.{ℕ, zero, suc, ◌+◌, ◌*◌, ◌≤◌, ◌≡◌, List, [], ◌∷◌, ◌++◌, length, get_or, take, drop, eqb}
use Rattle.rules.specs.Base.{when◌then◌else◌, upto}
use Rattle.rules.specs.Records.{Rec, at}
use Rattle.rules.specs.Filter.{filtered}
use Rattle.rules.specs.Merge.{Merge, merged}
use Rattle.rules.specs.Numbering.{Regions, numbered}
use Rattle.rules.specs.Reasons.{Merging, gone_with, mergings}
use Rattle.space.specs.Space.{Frame}
use Rattle.table.specs.Map.{spare_at}
use Rattle.table.specs.View.{recs_of}
use Rattle.filter.specs.Group.{Calm}
use Rattle.pool.specs.Fixed.{merge_one_f, merged_f}
use Rattle.pool.specs.Forms.{PoolIn, LaidIn}
use Rattle.pool.proofs.MergeLaws.{owners}
use Rattle.merge.specs.Rounds.{round_at, AtRest}
use Rattle.merge.specs.declared.merge.Round.{Round}
use Rattle.merge.specs.declared.told.Noted.{Noted}

-- the k merges noted from b on
unfoldable pub mergings_at : List ℕ → ℕ → ℕ → List Merging
mergings_at ws b zero = []
mergings_at ws b (suc k) = mergings_at ws b k ++ (record { old = get_or ws (b + 2 * k) 0; new = get_or ws (b + 2 * k + 1) 0 } ∷ [])

-- record i has its turn
unfoldable pub tells_f : ℕ → ℕ → Merge → List Merging → List Merging
tells_f area i g l =
    let g' = merge_one_f area i g in
    when eqb g'.merges g.merges then l else l ++ (record { old = (at g.recs i).id; new = (at g'.recs i).id } ∷ [])

unfoldable pub round_merges_f : ℕ → ℕ → Merge → List Merging → List Merging
round_merges_f area zero g l = l
round_merges_f area (suc k) g l = tells_f area k (upto k (merge_one_f area) g) (round_merges_f area k g l)

unfoldable pub mergings_f : ℕ → ℕ → List Rec → List Merging → List Merging
mergings_f area zero rs l = l
mergings_f area (suc k) rs l =
    let start : Merge = record { recs = rs; merges = 0 } in
    let g = upto (length rs) (merge_one_f area) start in
    let rest = mergings_f area k g.recs (round_merges_f area (length rs) start l) in
    when eqb g.merges 0 then l else rest

-- the records before `end`, with so many merges in the round
abbrev pub merge_at : ℕ → ℕ → List ℕ → ℕ → Merge
merge_at m end ws merges = round_at m (take end ws) merges

-- what a record's turn leaves: all past the records stays
pub record MergedIn (area i m end : ℕ) (ws : List ℕ) (g : Round) (ws' : List ℕ) (r : Round) : Type 0 where
  pub same : merge_at m end ws' r.merges ≡ merge_one_f area i (merge_at m end ws g.merges)
  pub pool : PoolIn m r.half (take end ws')
  pub more : r.merges ≤ g.merges + 1
  pub sized : r.half.size ≡ g.half.size
  pub laid : LaidIn m r.half (take end ws')
  pub past : drop end ws' ≡ drop end ws

-- past the records there is room to note all merges
abbrev pub Noting : ℕ → ℕ → List ℕ → Type 0
Noting m end ws = end + 2 * m ≤ length ws

-- the same with its merge noted, where there is room
pub record NotedOne (area i m end : ℕ) (ws : List ℕ) (g : Noted) (ws' : List ℕ) (r : Noted) : Type 0 where
  pub same : merge_at m end ws' r.round.merges ≡ merge_one_f area i (merge_at m end ws g.round.merges)
  pub pool : PoolIn m r.round.half (take end ws')
  pub more : r.round.merges ≤ g.round.merges + 1
  pub sized : r.round.half.size ≡ g.round.half.size
  pub laid : LaidIn m r.round.half (take end ws')
  pub few : r.count + owners m (recs_of (take end ws') m) ≤ m
  pub told : Noting m end ws → mergings_at ws' end r.count ≡ tells_f area i (merge_at m end ws g.round.merges) (mergings_at ws end g.count)

-- what the first i records of a round leave
pub record NotedRound (area i m size end : ℕ) (ws : List ℕ) (count : ℕ) (ws' : List ℕ) (r : Noted) : Type 0 where
  pub same : merge_at m end ws' r.round.merges ≡ upto i (merge_one_f area) (merge_at m end ws 0)
  pub less : r.round.merges ≤ i
  pub sized : r.round.half.size ≡ size
  pub pool : PoolIn m r.round.half (take end ws')
  pub laid : LaidIn m r.round.half (take end ws')
  pub few : r.count + owners m (recs_of (take end ws') m) ≤ m
  pub told : Noting m end ws → mergings_at ws' end r.count ≡ round_merges_f area i (merge_at m end ws 0) (mergings_at ws end count)

-- what all rounds leave
pub record NotedAll (area m end : ℕ) (ws ws' : List ℕ) (count : ℕ) : Type 0 where
  pub same : recs_of (take end ws') m ≡ merged_f area (suc m) (recs_of (take end ws) m)
  pub rest : AtRest m (take end ws')
  pub few : count ≤ m
  pub told : Noting m end ws → mergings_at ws' end count ≡ mergings_f area (suc m) (recs_of (take end ws) m) []

-- what the filter leaves of the records before `end`, with the count k of the group with which record r is gone
pub record FilteredIn (least r m end : ℕ) (ws ws' : List ℕ) (k : ℕ) : Type 0 where
  pub same : recs_of (take end ws') m ≡ filtered least (recs_of (take end ws) m)
  pub calm : Calm m (take end ws')
  pub frame : Frame 0 (spare_at m) (take end ws) (take end ws')
  pub gone : k ≡ gone_with least r m (recs_of (take end ws) m)

-- what filter, merge and numbering come to, and what became of record r: its id after the filter, the count of its group, the merges noted from `end` on
pub record ToldRegions (least area m end r : ℕ) (ws ids ws' : List ℕ) (found : Regions) (id group merges : ℕ) : Type 0 where
  pub regions : found ≡ numbered (merged area (suc m) (filtered least (recs_of (take end ws) m))) ids
  pub id_is : id ≡ (at (filtered least (recs_of (take end ws) m)) r).id
  pub gone : group ≡ gone_with least r m (recs_of (take end ws) m)
  pub few : merges ≤ m
  pub told : mergings_at ws' end merges ≡ mergings area (suc m) (filtered least (recs_of (take end ws) m)) []
