-- The numbering on columns is the rule's. Assumes nothing.
use Prim.Native.Nat.{ℕ, zero, suc, ◌+◌, ◌-◌, ◌*◌, ◌≤◌, ◌<◌}
use native.Mathlib.Omega.{arith}
use mathlib.Core.Path.{◌≡◌, refl, sym, ap, ◌∙◌}
use mathlib.Core.Bool.{Bool, true, false, not}
use mathlib.Core.List.{List, [], ◌∷◌, map}
use lib.ListN.{length, get_or, take, drop, get_or-map}
use lib.Seq.{drop-cons, take-take}
use lib.Dec.{eqb}
use Rattle.rules.specs.Base.{when◌then◌else◌, tab}
use Rattle.rules.specs.Growth.{flagged}
use Rattle.rules.specs.Records.{Rec, at, fresh, once}
use Rattle.rules.specs.Numbering.{live, overlaps, cuts, number_of, numbered, Regions}
use Rattle.space.specs.Space.{Frame, sec}
use Rattle.space.proofs.Laws.{sec_before, sec-after}
use Rattle.table.specs.View.{rec_at, view, recs_of}
use Rattle.numbering.specs.Number.{step_live, live_ids, renumber, nonzero, numbered_by, Numbers, Column, Stand}
use Rattle.table.proofs.ViewLaws.{map-tab}
use Rattle.pool.proofs.HasLaws.{regions_eq, map_same}

live_is : (rs : List Rec) (l : List ℕ) → live rs l ≡ live_ids (map (λ (r : Rec). r.id) rs) l
unfolding live live_ids step_live
live_is [] l = refl
live_is (r ∷ rs) l = live_is rs (when eqb r.id 0 then l else once l r.id)

-- a column is a part
column_is : (n k a : ℕ) (ws : List ℕ) → a + k + n ≤ length ws → tab n k (λ r. get_or ws (a + r) 0) ≡ take n (drop (a + k) ws)
unfolding tab
column_is zero k a ws h = refl
column_is (suc n) k a ws h =
    let w : a + k < length ws = omega arith in
    let e : a + suc k ≡ suc (a + k) = omega arith in
    rw (drop-cons ws (a + k) 0 w) (ap (λ (l : List ℕ). get_or ws (a + k) 0 ∷ l) (rw e at (column_is n (suc k) a ws (omega arith))))

over_by : (x n y z : ℕ) → y ≡ z → (when not (eqb x 0) then suc y else y) ≡ (when eqb x 0 then z else suc z)
unfolding when◌then◌else◌
over_by x n y z e = go (eqb x 0) e
  where
    go : (b : Bool) → y ≡ z → (when not b then suc y else y) ≡ (when b then z else suc z)
    go true e = e
    go false e = ap suc e

overs_are : (ws : List ℕ) (m s t n k : ℕ) → overlaps (tab n k (rec_at ws m s t)) ≡ nonzero (tab n k (λ r. get_or ws (3 * m + r) 0))
unfolding tab overlaps nonzero rec_at
overs_are ws m s t zero k = refl
overs_are ws m s t (suc n) k = over_by (get_or ws (3 * m + k) 0) n _ _ (overs_are ws m s t n (suc k))

cuts_are : (ws : List ℕ) (m s t n k : ℕ) → cuts (tab n k (rec_at ws m s t)) ≡ nonzero (tab n k (λ r. get_or ws (15 * m + r) 0))
unfolding tab cuts nonzero rec_at
cuts_are ws m s t zero k = refl
cuts_are ws m s t (suc n) k = over_by (get_or ws (15 * m + k) 0) n _ _ (cuts_are ws m s t n (suc k))

id_at_lem : (rs : List Rec) (r : ℕ) → (at rs r).id ≡ get_or (map (λ (q : Rec). q.id) rs) r 0
unfolding at fresh
id_at_lem rs r = sym (get_or-map (λ (q : Rec). q.id) rs r (fresh 0))

column-first : (n k : ℕ) (ws : List ℕ) → k + n ≤ length ws → tab n k (λ r. get_or ws r 0) ≡ take n (drop k ws)
unfolding tab
column-first zero k ws h = refl
column-first (suc n) k ws h =
    let w : k < length ws = omega arith in
    rw (drop-cons ws k 0 w) (ap (λ (l : List ℕ). get_or ws k 0 ∷ l) (column-first n (suc k) ws (omega arith)))

module _ (ws : List ℕ) (m s t : ℕ) (h : 16 * m ≤ length ws) where
  ids_are : map (λ (q : Rec). q.id) (view ws m s t) ≡ take m ws
  unfolding view rec_at
  ids_are = map-tab m 0 (rec_at ws m s t) (λ (q : Rec). q.id) ∙ column-first m 0 ws (omega arith)

  overs_is : overlaps (view ws m s t) ≡ nonzero (sec (3 * m) m ws)
  unfolding view
  overs_is =
      let z : 3 * m + 0 ≡ 3 * m = omega arith in
      overs_are ws m s t m 0 ∙ ap nonzero (rw z at (column_is m 0 (3 * m) ws (omega arith)))

  cuts_is : cuts (view ws m s t) ≡ nonzero (sec (15 * m) m ws)
  unfolding view
  cuts_is =
      let z : 15 * m + 0 ≡ 15 * m = omega arith in
      cuts_are ws m s t m 0 ∙ ap nonzero (rw z at (column_is m 0 (15 * m) ws (omega arith)))

  lives_are : live (view ws m s t) [] ≡ live_ids (take m ws) []
  lives_are = live_is (view ws m s t) [] ∙ ap (λ (q : List ℕ). live_ids q []) ids_are

  span_is_lem : (r : ℕ) → (when flagged r then r else number_of (live (view ws m s t) []) (at (view ws m s t) r).id) ≡ renumber (take m ws) r
  unfolding renumber
  span_is_lem r = rw (lives_are, id_at_lem (view ws m s t) r, ids_are) refl

  pub numbered_is : (ids : List ℕ) → numbered (view ws m s t) ids ≡ numbered_by (take m ws) (sec (3 * m) m ws) (sec (15 * m) m ws) ids
  unfolding numbered numbered_by
  numbered_is ids = regions_eq _ _ _ _ _ _ _ _ (map_same _ _ ids span_is_lem) (ap length lives_are) overs_is cuts_is

module _ (ws ws' : List ℕ) (m b : ℕ) (c : Column m b ws) (f : Frame b (b + m) ws ws') where
  ids_kept : take m ws' ≡ take m ws
  ids_kept = sym (take-take m b ws' c.apart) ∙ ap (take m) f.before ∙ take-take m b ws c.apart

  pub marked-after : (k : ℕ) → Numbers m b ws' (live_ids (take m ws) []) k → Stand m b ws' (live_ids (take m ws') [])
  marked-after k n = rw ids_kept (record { marks = n.marks })

pub number_done : (ws ws' ids ids' : List ℕ) (m k o u : ℕ) → Column m (5 * m) ws → 16 * m ≤ length ws → Frame (5 * m) (5 * m + m) ws ws'
    → Numbers m (5 * m) ws' (live_ids (take m ws) []) k → ids' ≡ map (renumber (take m ws')) ids
    → o ≡ nonzero (take ((3 * m + m) - 3 * m) (drop (3 * m) ws')) → u ≡ nonzero (take ((15 * m + m) - 15 * m) (drop (15 * m) ws'))
    → ◌≡◌ {A = Regions} (record { ids = ids'; most = k; over = o; cut = u }) (numbered (recs_of ws m) ids)
unfolding numbered_by recs_of
number_done ws ws' ids ids' m k o u c g f n e q t =
    let w : (3 * m + m) - 3 * m ≡ m = omega arith in
    let v : (15 * m + m) - 15 * m ≡ m = omega arith in
    regions_eq _ _ _ _ _ _ _ _ (rw (ids_kept ws ws' m (5 * m) c f) at e) n.many
    (q ∙ ap (λ (j : ℕ). nonzero (take j (drop (3 * m) ws'))) w ∙ ap nonzero (sec_before (3 * m) m f (omega arith)))
    (t ∙ ap (λ (j : ℕ). nonzero (take j (drop (15 * m) ws'))) v ∙ ap nonzero (sec-after (15 * m) m f (omega arith)))
    ∙ sym (numbered_is ws m (7 * m) (11 * m) g ids)
