-- A round by its frontier: what is noted are the round's changes (`Front`), so writing them gives the rule's round, and trying beside them notes the next
-- round's. A span that is not beside a change finds what it found. Assumes nothing.
use mathlib.Core.Path.{◌≡◌, refl, sym, ap, ◌∙◌}
use mathlib.Core.Bool.{Bool, true, false, true≢false}
use mathlib.Core.Logic.{⊎_elim}
use mathlib.Core.List.{List, [], ◌∷◌, map}
use Prim.Native.Nat.{ℕ, zero, suc, ◌+◌, ◌-◌, ◌*◌, ◌%◌, ◌≤◌, ◌<◌}
use native.Mathlib.Omega.{arith}
use native.Mathlib.Nat.{add-zero}
use native.Mathlib.Decide.{ℕ_discrete}
use lib.ListN.{length, get_or, take}
use lib.Seq.{length-take-le}
use Rattle.rules.specs.Base.{any}
use Rattle.rules.specs.Field.{none}
use Rattle.rules.specs.Net.{Net, near}
use Rattle.rules.specs.Growth.{Marks, put, finds, strays, wrote, written, Spread, round, rounds}
use Rattle.rules.specs.Refusals.{most_spans}
use Rattle.laws.proofs.Basics.{All}
use Rattle.space.proofs.Laws.{cases}
use Rattle.net.specs.Table.{net_at, Mutual}
use Rattle.flood.specs.Stack.{marks_at}
use Rattle.expand.specs.Layout.{fresh, list_at, changes_at, applied, Unheld, Ok}
use Rattle.expand.specs.Front.{Up, Entry, Queued, Found, FoundAt, Strayed, Moved, Beside, Writing, front_of, Front}
use Rattle.expand.proofs.Lists.{list_at_cong, marks_same}
use Rattle.expand.proofs.Halves.{finds_used, wrote_yes}
use Rattle.expand.proofs.Sources.{ok_round}
use Rattle.laws.proofs.Suffice.{written_keeps}
use Rattle.expand.proofs.Waves.{has, has_nil, has-head, has-tail, has_split, keep_in, keep_out, any_in, any_out, changes, strays_used, still_nothing, still_calm, fresh_zero, fresh_some, round-fresh, wave_marks, round-left, rounds_on, rounds_off}

-- ---------------------------------------------------------------- entries of the stack

has_all : (P : ℕ → Type 0) (x : ℕ) (l : List ℕ) → All P l → has x l ≡ true → P x
has_all P x [] p h = absurd (has_nil x h)
has_all P x (e ∷ l) p h = has_split (P x) x e l h (λ z. rw z p.0) (has_all P x l p.1)

entry_tail : (ws : List ℕ) (a k x : ℕ) → Entry ws (a + 1) k x → Entry ws a (suc k) x
entry_tail ws a k x e = let q : a + 1 + e.at ≡ a + suc e.at = omega arith in record { at = suc e.at; below = omega (arith, e.below); is = rw q at e.is }

has_entry : (ids ws : List ℕ) (a k x : ℕ) → (x ≡ none → ⊥) → has x (map (fresh ids) (list_at ws a k)) ≡ true → Entry ws a k x × (get_or ids x 0 ≡ 0)
unfolding list_at
has_entry ids ws a zero x n h = absurd (has_nil x h)
has_entry ids ws a (suc k) x n h =
    has_split (Entry ws a (suc k) x × (get_or ids x 0 ≡ 0)) x (fresh ids (get_or ws a 0)) (map (fresh ids) (list_at ws (a + 1) k)) h
    (λ q. elim (ℕ_discrete (get_or ids (get_or ws a 0) 0) 0) [
      | yes z ↦ (let y : x ≡ get_or ws a 0 = q ∙ fresh_zero ids (get_or ws a 0) z in (record { at = 0; below = omega arith; is = rw (add-zero a) (sym y) }, rw y z))
      | no z ↦ absurd (n (q ∙ fresh_some ids (get_or ws a 0) z))
    ])
    (λ q. let r = has_entry ids ws (a + 1) k x n q in (entry_tail ws a k x r.0, r.1))

has-at : (ids ws : List ℕ) (a k x j : ℕ) → j < k → get_or ws (a + j) 0 ≡ x → get_or ids x 0 ≡ 0 → has x (map (fresh ids) (list_at ws a k)) ≡ true
unfolding list_at
has-at ids ws a zero x j h e z = absurd (omega arith)
has-at ids ws a (suc k) x zero h e z =
    let y : get_or ws a 0 ≡ x = rw (add-zero a) at e in
    rw (y, fresh_zero ids x z) (has-head x _)
has-at ids ws a (suc k) x (suc j) h e z =
    let q : a + suc j ≡ a + 1 + j = omega arith in
    has-tail x _ _ (has-at ids ws (a + 1) k x j (omega arith) (rw q at e) z)

entry_has : (ids ws : List ℕ) (a k x : ℕ) → Entry ws a k x → get_or ids x 0 ≡ 0 → has x (map (fresh ids) (list_at ws a k)) ≡ true
entry_has ids ws a k x e z = has-at ids ws a k x e.at e.below e.is z

pub entry_on : (ws ws' : List ℕ) (a k x : ℕ) → ((y : ℕ) → a ≤ y → y < a + k → get_or ws' y 0 ≡ get_or ws y 0) → Entry ws a k x → Entry ws' a k x
entry_on ws ws' a k x h e = record { at = e.at; below = e.below; is = h (a + e.at) (omega arith) (omega (arith, e.below)) ∙ e.is }

-- ---------------------------------------------------------------- the queue

-- the spans of the k changes from c on
unfoldable spans_at : List ℕ → ℕ → ℕ → List ℕ
spans_at ws c zero = []
spans_at ws c (suc k) = get_or ws c 0 ∷ spans_at ws (c + 3) k

queue_tail : (ws : List ℕ) (c k x : ℕ) → Queued ws (c + 3) 0 k x → Queued ws c 0 (suc k) x
queue_tail ws c k x q = let e : c + 3 + 3 * q.at ≡ c + 3 * suc q.at = omega arith in record { at = suc q.at; from = omega arith; to = omega (arith, q.to); is = rw e at q.is }

has_queued : (ws : List ℕ) (c k x : ℕ) → has x (spans_at ws c k) ≡ true → Queued ws c 0 k x
unfolding spans_at
has_queued ws c zero x h = absurd (has_nil x h)
has_queued ws c (suc k) x h =
    has_split (Queued ws c 0 (suc k) x) x (get_or ws c 0) (spans_at ws (c + 3) k) h
    (λ q. let e : c + 3 * 0 ≡ c = omega arith in record { at = 0; from = omega arith; to = omega arith; is = rw e (sym q) })
    (λ q. queue_tail ws c k x (has_queued ws (c + 3) k x q))

queue_at : (ws : List ℕ) (c k x i : ℕ) → i < k → get_or ws (c + 3 * i) 0 ≡ x → has x (spans_at ws c k) ≡ true
unfolding spans_at
queue_at ws c zero x i h e = absurd (omega arith)
queue_at ws c (suc k) x zero h e = let q : c + 3 * 0 ≡ c = omega arith in rw (rw q at e) (has-head x _)
queue_at ws c (suc k) x (suc i) h e = let q : c + 3 * suc i ≡ c + 3 + 3 * i = omega arith in has-tail x _ _ (queue_at ws (c + 3) k x i (omega arith) (rw q at e))

wrote_found : (N : Net) (m : Marks) (n s id far : ℕ) (out : Marks) → Found N m n s id far → wrote N m s out ≡ put out s id far
wrote_found N m n s id far out r = wrote_yes N m s out r.found ∙ rw (r.id_is, r.far_is)

-- changes that the rule makes, made, are what it writes
applied-written : (N : Net) (m : Marks) (n : ℕ) (ws : List ℕ) (c k : ℕ) (out : Marks) → ((i : ℕ) → i < k → FoundAt N m n c ws i) → applied (changes_at ws c k) out ≡ written N m (spans_at ws c k) out
unfolding changes_at applied spans_at written
applied-written N m n ws c zero out h = refl
applied-written N m n ws c (suc k) out h =
    let e₀ : c + 3 * 0 ≡ c = omega arith in
    let r : Found N m n (get_or ws c 0) (get_or ws (c + 1) 0) (get_or ws (c + 2) 0) = rw e₀ at (h 0 (omega arith)) in
    applied-written N m n ws (c + 3) k (put out (get_or ws c 0) (get_or ws (c + 1) 0) (get_or ws (c + 2) 0))
    (λ i l. let e : c + 3 * suc i ≡ c + 3 + 3 * i = omega arith in rw e at (h (suc i) (omega arith)))
    ∙ ap (λ (o : Marks). written N m (spans_at ws (c + 3) k) o) (sym (wrote_found N m n (get_or ws c 0) (get_or ws (c + 1) 0) (get_or ws (c + 2) 0) out r))

-- ---------------------------------------------------------------- the next changes

pub front_marks : (n a fill : ℕ) (ids ws : List ℕ) → (front_of n a fill ids ws).marks ≡ marks_at n ids ws
unfolding front_of
front_marks n a fill ids ws = refl

marks_ids : (n : ℕ) (ids ws : List ℕ) → (marks_at n ids ws).ids ≡ ids
marks_ids n ids ws = refl

pub front_same : (n a fill : ℕ) (ids ws ws' : List ℕ) → take n ws' ≡ take n ws → ((x : ℕ) → a ≤ x → x < a + fill → get_or ws' x 0 ≡ get_or ws x 0) → front_of n a fill ids ws' ≡ front_of n a fill ids ws
unfolding front_of
front_same n a fill ids ws ws' t h = rw (marks_same n ids ws ws' t, list_at_cong ws ws' a fill h)

front_sized : (n a fill : ℕ) (ids ws : List ℕ) → n ≤ length ws → length (front_of n a fill ids ws).marks.src ≡ n
unfolding front_of
front_sized n a fill ids ws h = length-take-le n ws h

front_begun : (n a fill : ℕ) (ids ws : List ℕ) → (front_of n a fill ids ws).stack ≡ map (fresh (front_of n a fill ids ws).marks.ids) (list_at ws a fill)
unfolding front_of
front_begun n a fill ids ws = refl

front_eq : (n a fill : ℕ) (ids ws : List ℕ) (r : Spread) → marks_at n ids ws ≡ r.marks → map (fresh ids) (list_at ws a fill) ≡ r.stack → front_of n a fill ids ws ≡ r
unfolding front_of
front_eq n a fill ids ws r p q = rw (p, q)

front_has : (n a fill : ℕ) (ids ws : List ℕ) (x : ℕ) → Entry ws a fill x → get_or ids x 0 ≡ 0 → has x (front_of n a fill ids ws).stack ≡ true
unfolding front_of
front_has n a fill ids ws x y z = entry_has ids ws a fill x y z

round_keeps : (N : Net) (n a fill : ℕ) (ids ws : List ℕ) (x : ℕ) → finds N (marks_at n ids ws) x ≡ false → get_or (round N (front_of n a fill ids ws)).marks.ids x 0 ≡ get_or ids x 0
unfolding round front_of
round_keeps N n a fill ids ws x z = written_keeps N (marks_at n ids ws) x z (map (fresh ids) (list_at ws a fill)) (marks_at n ids ws)

-- tries of every span that could find something, where flags are up for the stack's spans, note the changes of the round
module _ (ar : List ℕ) (a e b fill : ℕ) (ids ws : List ℕ) (k : ℕ) (w : Bool) (ws' : List ℕ) (k' : ℕ) (w' : Bool)
    (lo : length ar ≤ a) (lie : a + length ar ≤ e) (few : fill ≤ length ar)
    (ok : Ok (length ar) (front_of (length ar) a fill ids ws)) (v : Moved ar e b ids ws k w ws' k' w')
    (only : (x : ℕ) → x < length ar → Up (length ar) e ws x → Entry ws a fill x × (get_or ids x 0 ≡ 0))
    (up : (x : ℕ) → x < length ar → Entry ws a fill x → get_or ids x 0 ≡ 0 → Up (length ar) e ws x)
    (cold : (x : ℕ) → x < length ar → Up (length ar) e ws' x → finds (net_at b ar ws) (marks_at (length ar) ids ws) x ≡ false) where
  stays : (y : ℕ) → a ≤ y → y < a + fill → get_or ws' y 0 ≡ get_or ws y 0
  stays y g u = v.kept y (omega arith) (omega arith)

  pub front_tried : Front (net_at b ar ws) (length ar) a e fill ids ws' k k'
  front_tried =
      let m = marks_same (length ar) ids ws ws' v.marks in
      record {
        ok = rw (front_same (length ar) a fill ids ws ws' v.marks stays) ok;
        right = λ i g u. rw m (v.right i g u);
        entry = λ i g u. let o = only _ (v.inside i g u) (v.lit i g u) in (entry_on ws ws' a fill _ stays o.0, o.1);
        cold = λ x h u. let o = only x h (v.down x h u) in (entry_on ws ws' a fill x stays o.0, o.1, rw m (cold x h u));
        all = λ x h y z. v.fall x h (up x h (entry_on ws' ws a fill x (λ y g u. sym (stays y g u)) y) z);
      }

  -- a span that was tried and computes a sum above 65,535 is an entry of the round
  pub front_stray : Strayed ar e b ids ws → any (strays (net_at b ar ws) (marks_at (length ar) ids ws)) (front_of (length ar) a fill ids ws').stack ≡ true
  front_stray y =
      let o = only y.at y.span y.up in
      any_in (strays (net_at b ar ws) (marks_at (length ar) ids ws)) y.at (front_of (length ar) a fill ids ws').stack
      (front_has (length ar) a fill ids ws' y.at (entry_on ws ws' a fill y.at stays o.0) o.1) y.strays

  -- and where no tried span does, no entry does
  pub front_calm : w' ≡ false → ((x : ℕ) → x < length ar → Up (length ar) e ws' x → strays (net_at b ar ws) (marks_at (length ar) ids ws) x ≡ false)
      → any (strays (net_at b ar ws) (marks_at (length ar) ids ws)) (front_of (length ar) a fill ids ws').stack ≡ false
  unfolding front_of
  front_calm q calm =
      any_out (strays (net_at b ar ws) (marks_at (length ar) ids ws)) (map (fresh ids) (list_at ws' a fill)) (λ x h z.
      let s : x ≡ none → ⊥ = λ y. strays_used (net_at b ar ws) (marks_at (length ar) ids ws) x y z in
      let t = has_entry ids ws' a fill x s h in
      let i = (has_all (Unheld (length ar) ids) x (map (fresh ids) (list_at ws' a fill)) front_tried.ok.entries h s).0 in
      ⊎_elim (λ (u : Up (length ar) e ws' x). true≢false (sym z ∙ calm x i u))
      (λ (u : Queued ws' e k k' x). true≢false (sym z ∙ rw u.is at (v.calm q u.at u.from u.to)))
      (front_tried.all x i t.0 t.1))

-- ---------------------------------------------------------------- the changes written

module _ (N : Net) (n a e fill : ℕ) (ids ws : List ℕ) (lo hi : ℕ) (v : Front N n a e fill ids ws lo hi) (o : lo ≤ hi) (room : n ≤ length ws) (few : n ≤ most_spans) where
  -- what the round changes stands in the queue
  pub change_queued : (x : ℕ) → has x (changes N (front_of n a fill ids ws)) ≡ true → (x < n) × Queued ws e lo hi x
  unfolding changes front_of
  change_queued x h =
      let k = keep_out (finds N (marks_at n ids ws)) x (map (fresh ids) (list_at ws a fill)) h in
      let s : x ≡ none → ⊥ = λ y. finds_used N (marks_at n ids ws) x y k.1 in
      let t = has_entry ids ws a fill x s k.0 in
      let i = (has_all (Unheld n ids) x (map (fresh ids) (list_at ws a fill)) v.ok.entries k.0 s).0 in
      (i, ⊎_elim (λ (u : Up n e ws x). absurd (true≢false (sym k.1 ∙ (v.cold x i u).2))) (λ (q : Queued ws e lo hi x). q) (v.all x i t.0 t.1))

  pub queued_change : (x : ℕ) → Queued ws e lo hi x → has x (changes N (front_of n a fill ids ws)) ≡ true
  unfolding changes front_of
  queued_change x q =
      let r = v.right q.at q.from q.to in
      let t = v.entry q.at q.from q.to in
      keep_in (finds N (marks_at n ids ws)) x (map (fresh ids) (list_at ws a fill)) (entry_has ids ws a fill x (rw q.is at t.0) (rw q.is at t.1)) (rw q.is at r.found)

  shift : (x : ℕ) → Queued ws (e + 3 * lo) 0 (hi - lo) x → Queued ws e lo hi x
  shift x q = let c : e + 3 * lo + 3 * q.at ≡ e + 3 * (lo + q.at) = omega arith in record { at = lo + q.at; from = omega arith; to = omega (arith, q.to); is = rw c at q.is }

  module _ (ids₁ ws₁ : List ℕ) (u : Writing n e lo hi ids ws ids₁ ws₁ hi) (low : n ≤ a) where
    pub round_marks : marks_at n ids₁ ws₁ ≡ (round N (front_of n a fill ids ws)).marks
    unfolding front_of
    round_marks =
        u.marks
        ∙ applied-written N (marks_at n ids ws) n ws (e + 3 * lo) (hi - lo) (marks_at n ids ws)
        (λ i h. let c : e + 3 * (lo + i) ≡ e + 3 * lo + 3 * i = omega arith in rw c at (v.right (lo + i) (omega arith) (omega arith)))
        ∙ wave_marks N n (front_of n a fill ids ws) v.ok (spans_at ws (e + 3 * lo) (hi - lo)) (front_sized n a fill ids ws room)
        (λ x h. queued_change x (shift x (has_queued ws (e + 3 * lo) (hi - lo) x h)))
        (λ x h.
        let q = (change_queued x h).1 in
        let c : e + 3 * q.at ≡ e + 3 * lo + 3 * (q.at - lo) = omega (arith, q.from) in
        queue_at ws (e + 3 * lo) (hi - lo) x (q.at - lo) (omega (arith, q.from, q.to)) (rw c at q.is))

    stands : (y : ℕ) → a ≤ y → y < a + fill → get_or ws₁ y 0 ≡ get_or ws y 0
    stands y g h = u.kept y (omega arith)

    round_ids : ids₁ ≡ (round N (front_of n a fill ids ws)).marks.ids
    round_ids = sym (marks_ids n ids₁ ws₁) ∙ ap (λ (m : Marks). m.ids) round_marks

    -- the round, made
    pub front_round : front_of n a fill ids₁ ws₁ ≡ round N (front_of n a fill ids ws)
    front_round = front_eq n a fill ids₁ ws₁ (round N (front_of n a fill ids ws)) round_marks
        (ap (λ (l : List ℕ). map (fresh ids₁) l) (list_at_cong ws ws₁ a fill stands)
        ∙ rw (← round_ids) at (sym (round-fresh N n (front_of n a fill ids ws) v.ok (list_at ws a fill) (front_begun n a fill ids ws))))

    pub round_ok : Ok n (front_of n a fill ids₁ ws₁)
    round_ok = rw front_round (ok_round N (front_of n a fill ids ws) n v.ok)

    kept_id : (x : ℕ) → finds N (marks_at n ids ws) x ≡ false → get_or ids₁ x 0 ≡ get_or ids x 0
    kept_id x z = ap (λ (l : List ℕ). get_or l x 0) round_ids ∙ round_keeps N n a fill ids ws x z

    same_flag : (x : ℕ) → n ≤ e → get_or ws₁ (e + 3 * n + x) 0 ≡ get_or ws (e + 3 * n + x) 0
    same_flag x g = u.kept (e + 3 * n + x) (omega arith)

    -- flags are up for what is left of the stack
    pub round_only : n ≤ e → (x : ℕ) → x < n → Up n e ws₁ x → Entry ws₁ a fill x × (get_or ids₁ x 0 ≡ 0)
    round_only g x h y =
        let c = v.cold x h (λ z. y (same_flag x g ∙ z)) in
        (entry_on ws ws₁ a fill x stands c.0, kept_id x c.2 ∙ c.1)

    pub round_up : n ≤ e → (x : ℕ) → x < n → Entry ws₁ a fill x → get_or ids₁ x 0 ≡ 0 → Up n e ws₁ x
    round_up g x h y z =
        let s : x ≡ none → ⊥ = λ q. omega arith in
        let f : finds N (front_of n a fill ids ws).marks x ≡ false = round-left N (front_of n a fill ids ws) x s (rw front_round at (front_has n a fill ids₁ ws₁ x y z)) in
        let f' : finds N (marks_at n ids ws) x ≡ false = rw (front_marks n a fill ids ws) at f in
        let t = entry_on ws₁ ws a fill x (λ y g h. sym (stands y g h)) y in
        ⊎_elim (λ (p : Up n e ws x). λ (q : get_or ws₁ (e + 3 * n + x) 0 ≡ 0). p (sym (same_flag x g) ∙ q))
        (λ (p : Queued ws e lo hi x). absurd (true≢false (sym (rw p.is at (v.right p.at p.from p.to).found) ∙ f')))
        (v.all x h t (sym (kept_id x f') ∙ z))

-- ---------------------------------------------------------------- beside the changes

module _ (ar : List ℕ) (a e b fill : ℕ) (ids ws : List ℕ) (lo hi : ℕ) (N : Net) (v : Front N (length ar) a e fill ids ws lo hi)
    (o : lo ≤ hi) (room : length ar ≤ length ws) (few : length ar ≤ most_spans) (low : length ar ≤ a) (lie : a + length ar ≤ e) (fit : fill ≤ length ar)
    (ids₁ ws₁ : List ℕ) (u : Writing (length ar) e lo hi ids ws ids₁ ws₁ hi) (q₁ : net_at b ar ws₁ ≡ N) (x : Mutual N) (sized : length N.areas ≡ length ar)
    (w : Bool) (ws₂ : List ℕ) (k : ℕ) (w₂ : Bool) (m : Moved ar e b ids₁ ws₁ hi w ws₂ k w₂) (t : Beside ar e b ids₁ ws₁ ws₂ w₂ lo hi) where
  ok₁ : Ok (length ar) (front_of (length ar) a fill ids₁ ws₁)
  ok₁ = round_ok N (length ar) a e fill ids ws lo hi v o room few ids₁ ws₁ u low

  only₁ : (s : ℕ) → s < length ar → Up (length ar) e ws₁ s → Entry ws₁ a fill s × (get_or ids₁ s 0 ≡ 0)
  only₁ = round_only N (length ar) a e fill ids ws lo hi v o room few ids₁ ws₁ u low (omega arith)

  up₁ : (s : ℕ) → s < length ar → Entry ws₁ a fill s → get_or ids₁ s 0 ≡ 0 → Up (length ar) e ws₁ s
  up₁ = round_up N (length ar) a e fill ids ws lo hi v o room few ids₁ ws₁ u low (omega arith)

  -- a span whose flag is still up finds nothing: it found nothing before, and was tried if a neighbour changed
  next_cold : (s : ℕ) → s < length ar → Up (length ar) e ws₂ s → finds N (marks_at (length ar) ids₁ ws₁) s ≡ false
  next_cold s h y =
      ⊎_elim
      (λ (z : finds N (marks_at (length ar) ids₁ ws₁) s ≡ true). absurd (true≢false (sym z ∙ rw (← round_marks N (length ar) a e fill ids ws lo hi v o room few ids₁ ws₁ u low) at still z)))
      (λ (z : finds N (marks_at (length ar) ids₁ ws₁) s ≡ false). z)
      (cases (finds N (marks_at (length ar) ids₁ ws₁) s))
    where
      flag : Up (length ar) e ws s
      flag z = m.down s h y (u.kept (e + 3 * length ar + s) (omega arith) ∙ z)

      tried : (d : ℕ) → d < 4 → has (near N s d) (changes N (front_of (length ar) a fill ids ws)) ≡ true → finds N (marks_at (length ar) ids₁ ws₁) s ≡ false
      tried d g z =
          let c = change_queued N (length ar) a e fill ids ws lo hi v o room few (near N s d) z in
          let q = c.1 in
          let r = x.answered.back s d (rw sized h) g (λ p. omega (arith, c.0)) in
          let j : get_or ws₁ (e + 3 * q.at) 0 ≡ near N s d = u.kept (e + 3 * q.at) (omega arith) ∙ q.is in
          (rw (j, q₁, r) at ((t.tried q.at q.from q.to).tried ((d + 2) % 4) (omega arith)).cold) h y

      still : finds N (marks_at (length ar) ids₁ ws₁) s ≡ true → finds N (round N (front_of (length ar) a fill ids ws)).marks s ≡ false
      still z =
          still_nothing N (front_of (length ar) a fill ids ws) s (rw (front_marks (length ar) a fill ids ws) (v.cold s h flag).2)
          (λ d g.
          ⊎_elim (λ (p : has (near N s d) (changes N (front_of (length ar) a fill ids ws)) ≡ true). absurd (true≢false (sym z ∙ tried d g p)))
          (λ (p : has (near N s d) (changes N (front_of (length ar) a fill ids ws)) ≡ false). p)
          (cases (has (near N s d) (changes N (front_of (length ar) a fill ids ws)))))

  -- nor does it compute a sum above 65,535, if no entry did before
  next_calm : w₂ ≡ false → any (strays N (front_of (length ar) a fill ids ws).marks) (front_of (length ar) a fill ids ws).stack ≡ false
      → (s : ℕ) → s < length ar → Up (length ar) e ws₂ s → strays N (marks_at (length ar) ids₁ ws₁) s ≡ false
  next_calm q calm s h y =
      ⊎_elim
      (λ (z : strays N (marks_at (length ar) ids₁ ws₁) s ≡ true). absurd (true≢false (sym z ∙ rw (← round_marks N (length ar) a e fill ids ws lo hi v o room few ids₁ ws₁ u low) at still z)))
      (λ (z : strays N (marks_at (length ar) ids₁ ws₁) s ≡ false). z)
      (cases (strays N (marks_at (length ar) ids₁ ws₁) s))
    where
      flag : Up (length ar) e ws s
      flag z = m.down s h y (u.kept (e + 3 * length ar + s) (omega arith) ∙ z)

      before : strays N (front_of (length ar) a fill ids ws).marks s ≡ false
      before =
          let c = v.cold s h flag in
          ⊎_elim
          (λ (z : strays N (front_of (length ar) a fill ids ws).marks s ≡ true).
          absurd (true≢false (sym (any_in (strays N (front_of (length ar) a fill ids ws).marks) s (front_of (length ar) a fill ids ws).stack (front_has (length ar) a fill ids ws s c.0 c.1) z) ∙ calm)))
          (λ (z : strays N (front_of (length ar) a fill ids ws).marks s ≡ false). z)
          (cases (strays N (front_of (length ar) a fill ids ws).marks s))

      tried : (d : ℕ) → d < 4 → has (near N s d) (changes N (front_of (length ar) a fill ids ws)) ≡ true → strays N (marks_at (length ar) ids₁ ws₁) s ≡ false
      tried d g z =
          let c = change_queued N (length ar) a e fill ids ws lo hi v o room few (near N s d) z in
          let p = c.1 in
          let r = x.answered.back s d (rw sized h) g (λ p. omega (arith, c.0)) in
          let j : get_or ws₁ (e + 3 * p.at) 0 ≡ near N s d = u.kept (e + 3 * p.at) (omega arith) ∙ p.is in
          (rw (j, q₁, r) at ((t.tried p.at p.from p.to).tried ((d + 2) % 4) (omega arith)).calm) q h y

      still : strays N (marks_at (length ar) ids₁ ws₁) s ≡ true → strays N (round N (front_of (length ar) a fill ids ws)).marks s ≡ false
      still z =
          still_calm N (front_of (length ar) a fill ids ws) s before
          (λ d g.
          ⊎_elim (λ (p : has (near N s d) (changes N (front_of (length ar) a fill ids ws)) ≡ true). absurd (true≢false (sym z ∙ tried d g p)))
          (λ (p : has (near N s d) (changes N (front_of (length ar) a fill ids ws)) ≡ false). p)
          (cases (has (near N s d) (changes N (front_of (length ar) a fill ids ws)))))

  pub front_next : Front N (length ar) a e fill ids₁ ws₂ hi k
  front_next = rw q₁ at (front_tried ar a e b fill ids₁ ws₁ hi w ws₂ k w₂ low (omega arith) fit ok₁ m only₁ up₁ (λ s h y. rw q₁ (next_cold s h y)))

  pub next_stray : Strayed ar e b ids₁ ws₁ → any (strays N (front_of (length ar) a fill ids₁ ws₂).marks) (front_of (length ar) a fill ids₁ ws₂).stack ≡ true
  next_stray y = rw (front_marks (length ar) a fill ids₁ ws₂, marks_same (length ar) ids₁ ws₁ ws₂ m.marks)
      (rw q₁ at (front_stray ar a e b fill ids₁ ws₁ hi w ws₂ k w₂ low (omega arith) fit ok₁ m only₁ up₁ (λ s h y. rw q₁ (next_cold s h y)) y))

  pub next_still : w₂ ≡ false → any (strays N (front_of (length ar) a fill ids ws).marks) (front_of (length ar) a fill ids ws).stack ≡ false
      → any (strays N (front_of (length ar) a fill ids₁ ws₂).marks) (front_of (length ar) a fill ids₁ ws₂).stack ≡ false
  next_still q calm = rw (front_marks (length ar) a fill ids₁ ws₂, marks_same (length ar) ids₁ ws₁ ws₂ m.marks)
      (rw q₁ at (front_calm ar a e b fill ids₁ ws₁ hi w ws₂ k w₂ low (omega arith) fit ok₁ m only₁ up₁ (λ s h y. rw q₁ (next_cold s h y)) q (λ s h y. rw q₁ (next_calm q calm s h y))))

-- ---------------------------------------------------------------- rounds

module _ (N : Net) (n a e fill : ℕ) (ids ws : List ℕ) (lo hi : ℕ) (v : Front N n a e fill ids ws lo hi) (room : n ≤ length ws) (few : n ≤ most_spans) where
  -- something is noted exactly if an entry finds something
  pub front_still : hi ≤ lo → lo ≤ hi → any (finds N (front_of n a fill ids ws).marks) (front_of n a fill ids ws).stack ≡ false
  unfolding changes
  front_still g o =
      any_out (finds N (front_of n a fill ids ws).marks) (front_of n a fill ids ws).stack
      (λ x y z. let q = (change_queued N n a e fill ids ws lo hi v o room few x (keep_in (finds N (front_of n a fill ids ws).marks) x (front_of n a fill ids ws).stack y z)).1 in omega (arith, q.from, q.to))

  pub front_finds : lo < hi → any (finds N (front_of n a fill ids ws).marks) (front_of n a fill ids ws).stack ≡ true
  unfolding changes
  front_finds g =
      let c = queued_change N n a e fill ids ws lo hi v (omega arith) room few (get_or ws (e + 3 * lo) 0) (record { at = lo; from = omega arith; to = g; is = refl }) in
      let p = keep_out (finds N (front_of n a fill ids ws).marks) (get_or ws (e + 3 * lo) 0) (front_of n a fill ids ws).stack c in
      any_in (finds N (front_of n a fill ids ws).marks) (get_or ws (e + 3 * lo) 0) (front_of n a fill ids ws).stack p.0 p.1

  -- with nothing noted, that is all
  pub front_off : (k : ℕ) → hi ≤ lo → lo ≤ hi → 0 < k → rounds N k (front_of n a fill ids ws) ≡ front_of n a fill ids ws
  front_off k g o h = let s : k ≡ suc (k - 1) = omega arith in rw s (rounds_off N (k - 1) (front_of n a fill ids ws) (front_still g o))

  pub front_on : (k : ℕ) → lo < hi → 0 < k → rounds N k (front_of n a fill ids ws) ≡ rounds N (k - 1) (round N (front_of n a fill ids ws))
  front_on k g h =
      let s : k ≡ suc (k - 1) = omega arith in
      ap (λ (j : ℕ). rounds N j (front_of n a fill ids ws)) s ∙ rounds_on N (k - 1) (front_of n a fill ids ws) (front_finds g)
