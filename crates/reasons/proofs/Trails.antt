-- A trail begins with the id and ends with what the id has become when the merges are over; and it has a place for each of its numbers in a list of one number a span:
-- each merge leaves one record with spans fewer, and the absorber has spans. Assumes nothing.
use Prim.Native.Nat.{ℕ, zero, suc, ◌+◌, ◌≤◌, ◌<◌}
use native.Mathlib.Omega.{arith}
use native.Mathlib.Decide.{ℕ_discrete}
use mathlib.Core.Path.{◌≡◌, refl, sym, ap, ◌∙◌}
use mathlib.Core.Bool.{Bool, true, false}
use mathlib.Core.List.{List, [], ◌∷◌, ◌++◌}
use lib.ListN.{length, get_or, length-append}
use lib.Dec.{eqb}
use borrow.Author.Tests.{eq-eqb, ne_eqb, eqb-false, not-false}
use Rattle.rules.specs.Base.{when◌then◌else◌, upto}
use Rattle.rules.specs.Records.{Rec, fresh, at, has}
use Rattle.rules.specs.Merge.{picked, Merge, merge_one, merged}
use Rattle.rules.specs.Reasons.{Merging, merge_tells, round_merges, mergings, trail}
use Rattle.laws.proofs.Basics.{both, neither, if-ind, upto-ind, tally}
use Rattle.laws.proofs.MergeEnds.{Live, Ready, spanned, spanned_yes, Falls, one_falls, round_falls, picked-live, has-none}
use Rattle.rooms.proofs.Merging.{ren, after, after_id, after_count, after_empty}
use Rattle.laws.proofs.LiveRecords.{live_in}
use Rattle.reasons.specs.Traced.{last_of}

-- ---------------------------------------------------------------- what an id becomes

became : List Merging → ℕ → ℕ
became [] r = r
became (x ∷ xs) r = became xs (ren x.old x.new r)

pub ren_hit : (a b x : ℕ) → x ≡ a → ren a b x ≡ b
unfolding when◌then◌else◌
ren_hit a b x e = rw (eq-eqb x a e)

pub ren_miss : (a b x : ℕ) → (x ≡ a → ⊥) → ren a b x ≡ x
unfolding when◌then◌else◌
ren_miss a b x n = rw (ne_eqb x a n)

trail_hit : (x : Merging) (xs : List Merging) (r : ℕ) → x.old ≡ r → trail (x ∷ xs) r ≡ r ∷ trail xs x.new
unfolding trail when◌then◌else◌
trail_hit x xs r e = rw (eq-eqb x.old r e)

trail_miss : (x : Merging) (xs : List Merging) (r : ℕ) → (x.old ≡ r → ⊥) → trail (x ∷ xs) r ≡ trail xs r
unfolding trail when◌then◌else◌
trail_miss x xs r n = rw (ne_eqb x.old r n)

-- "the trail of merges from the flood's id": it begins there
pub trail-first : (ms : List Merging) (r : ℕ) → get_or (trail ms r) 0 0 ≡ r
unfolding trail
trail-first [] r = refl
trail-first (x ∷ xs) r =
    elim (ℕ_discrete x.old r) [ yes e ↦ ap (λ (l : List ℕ). get_or l 0 0) (trail_hit x xs r e) | no n ↦ ap (λ (l : List ℕ). get_or l 0 0) (trail_miss x xs r n) ∙ trail-first xs r ]

trail_some : (ms : List Merging) (r : ℕ) → 0 < length (trail ms r)
unfolding trail
trail_some [] r = omega arith
trail_some (x ∷ xs) r =
    elim (ℕ_discrete x.old r) [ yes e ↦ rw (trail_hit x xs r e) (omega arith) | no n ↦ rw (trail_miss x xs r n) (trail_some xs r) ]

last_cons : (x : ℕ) (l : List ℕ) → 0 < length l → last_of (x ∷ l) ≡ last_of l
unfolding last_of
last_cons x [] h = absurd (omega arith)
last_cons x (y ∷ l) h = refl

last_is : (ms : List Merging) (r : ℕ) → last_of (trail ms r) ≡ became ms r
unfolding trail last_of became
last_is [] r = refl
last_is (x ∷ xs) r =
    elim (ℕ_discrete x.old r) [
      | yes e ↦ ap last_of (trail_hit x xs r e) ∙ last_cons r (trail xs x.new) (trail_some xs x.new) ∙ last_is xs x.new ∙ ap (became xs) (sym (ren_hit x.old x.new r (sym e)))
      | no n ↦ ap last_of (trail_miss x xs r n) ∙ last_is xs r ∙ ap (became xs) (sym (ren_miss x.old x.new r (λ e. n (sym e))))
    ]

became_then : (ms : List Merging) (x : Merging) (r : ℕ) → became (ms ++ (x ∷ [])) r ≡ ren x.old x.new (became ms r)
unfolding became
became_then [] x r = refl
became_then (y ∷ ms) x r = became_then ms x (ren y.old y.new r)

-- ---------------------------------------------------------------- one record's turn

-- what is told of a turn that leaves g'
abbrev told_of : ℕ → Merge → List Merging → Merge → List Merging
told_of i g l g' = when eqb g'.merges g.merges then l else l ++ (record { old = (at g.recs i).id; new = (at g'.recs i).id } ∷ [])

still : (i : ℕ) (g : Merge) (l : List Merging) → told_of i g l g ≡ l
unfolding when◌then◌else◌
still i g l = rw (eq-eqb g.merges g.merges refl)

goes : (i : ℕ) (g : Merge) (l : List Merging) (rs : List Rec) → told_of i g l (record { recs = rs; merges = suc g.merges }) ≡ l ++ (record { old = (at g.recs i).id; new = (at rs i).id } ∷ [])
unfolding when◌then◌else◌
goes i g l rs = rw (ne_eqb (suc g.merges) g.merges (λ e. omega arith))

-- record x bears what r has become, before the turn and after it
one_became : (area i : ℕ) (g : Merge) (l : List Merging) (x r : ℕ) → became l r ≡ (at g.recs x).id → became (merge_tells area i g l) r ≡ (at (merge_one area i g).recs x).id
unfolding merge_tells merge_one
one_became area i g l x r h =
    if-ind (λ (g' : Merge). became (told_of i g l g') r ≡ (at g'.recs x).id) _
    (λ _. ap (λ (m : List Merging). became m r) (still i g l) ∙ h)
    (λ e.
    let rs = g.recs in
    let a = at rs i in
    let p = picked rs a a.list (record { size = 65536; id = a.id }) in
    let z : a.id ≡ 0 → ⊥ = eqb-false _ _ (neither _ _ (neither _ _ (neither _ _ (neither _ _ (neither _ _ e).0).0).0).0).0 in
    ap (λ (m : List Merging). became m r) (goes i g l (after rs i a.id p.id))
    ∙ became_then l (record { old = a.id; new = (at (after rs i a.id p.id) i).id }) r
    ∙ ap (λ (n : ℕ). ren a.id n (became l r)) (after_id rs i a.id p.id z i ∙ ren_hit a.id p.id a.id refl)
    ∙ ap (ren a.id p.id) h ∙ sym (after_id rs i a.id p.id z x))

round_became : (area k : ℕ) (g : Merge) (l : List Merging) (x r : ℕ) → became l r ≡ (at g.recs x).id → became (round_merges area k g l) r ≡ (at (upto k (merge_one area) g).recs x).id
unfolding round_merges upto
round_became area zero g l x r h = h
round_became area (suc k) g l x r h = one_became area k (upto k (merge_one area) g) (round_merges area k g l) x r (round_became area k g l x r h)

either : (b : Bool) (l l' : List Merging) (rs rs' : List Rec) (x r : ℕ) → became l r ≡ (at rs x).id → became l' r ≡ (at rs' x).id → became (when b then l else l') r ≡ (at (when b then rs else rs') x).id
unfolding when◌then◌else◌
either true l l' rs rs' x r p q = p
either false l l' rs rs' x r p q = q

all_became : (area k : ℕ) (rs : List Rec) (l : List Merging) (x r : ℕ) → became l r ≡ (at rs x).id → became (mergings area k rs l) r ≡ (at (merged area k rs) x).id
unfolding mergings merged
all_became area zero rs l x r h = h
all_became area (suc k) rs l x r h =
    let start : Merge = record { recs = rs; merges = 0 } in
    let g = upto (length rs) (merge_one area) start in
    either (eqb g.merges 0) l (mergings area k g.recs (round_merges area (length rs) start l)) rs (merged area k g.recs) x r h
    (all_became area k g.recs (round_merges area (length rs) start l) x r (round_became area (length rs) start l x r h))

-- "to the last": a trail ends with the id that the record has when the merges are over
pub trail_ends : (area k : ℕ) (rs : List Rec) (x r : ℕ) → (at rs x).id ≡ r → last_of (trail (mergings area k rs []) r) ≡ (at (merged area k rs) x).id
unfolding became
trail_ends area k rs x r e = last_is (mergings area k rs []) r ∙ all_became area k rs [] x r (sym e)

-- ---------------------------------------------------------------- how long a trail can be

trail-length : (ms : List Merging) (r : ℕ) → length (trail ms r) ≤ suc (length ms)
unfolding trail
trail-length [] r = omega arith
trail-length (x ∷ xs) r =
    elim (ℕ_discrete x.old r) [
      | yes e ↦ rw (trail_hit x xs r e) (omega (arith, trail-length xs x.new))
      | no n ↦ rw (trail_miss x xs r n) (omega (arith, trail-length xs r))
    ]

-- one more is told for each merge
one_told : (area i : ℕ) (g : Merge) (l : List Merging) → length (merge_tells area i g l) + g.merges ≤ length l + (merge_one area i g).merges
unfolding merge_tells merge_one
one_told area i g l =
    if-ind (λ (g' : Merge). length (told_of i g l g') + g.merges ≤ length l + g'.merges) _
    (λ _. rw (still i g l) (omega arith))
    (λ _. rw (goes i g l _) (simp length-append (omega arith)))

round-told : (area k : ℕ) (g : Merge) (l : List Merging) → length (round_merges area k g l) + g.merges ≤ length l + (upto k (merge_one area) g).merges
unfolding round_merges upto
round-told area zero g l = omega arith
round-told area (suc k) g l = omega (arith, one_told area k (upto k (merge_one area) g) (round_merges area k g l), round-told area k g l)

either_few : (b : Bool) (l l' : List Merging) (rs rs' : List Rec) (n : ℕ) → length l + tally spanned rs ≤ n → length l' + tally spanned rs' ≤ n
    → length (when b then l else l') + tally spanned (when b then rs else rs') ≤ n
unfolding when◌then◌else◌
either_few true l l' rs rs' n p q = p
either_few false l l' rs rs' n p q = q

all_told : (area k : ℕ) (rs : List Rec) (l : List Merging) → Ready rs → length (mergings area k rs l) + tally spanned (merged area k rs) ≤ length l + tally spanned rs
unfolding mergings merged
all_told area zero rs l R = omega arith
all_told area (suc k) rs l R =
    let start : Merge = record { recs = rs; merges = 0 } in
    let g = upto (length rs) (merge_one area) start in
    let f = round_falls area rs R in
    either_few (eqb g.merges 0) l (mergings area k g.recs (round_merges area (length rs) start l)) rs (merged area k g.recs) (length l + tally spanned rs) (omega arith)
    (omega (arith, all_told area k g.recs (round_merges area (length rs) start l) f.ready, f.sum, round-told area (length rs) start l))

-- ---------------------------------------------------------------- a record with spans is left

-- a live record with spans bears its own number
pub record Owns (rs : List Rec) : Type 0 where
  pub own : (x : ℕ) → Live rs x → ((at rs x).count ≡ 0 → ⊥) → (at rs x).id ≡ x

pub some_spanned : (rs : List Rec) (x : ℕ) → ((at rs x).count ≡ 0 → ⊥) → 0 < tally spanned rs
unfolding at fresh tally when◌then◌else◌
some_spanned [] x h = absurd (h refl)
some_spanned (r ∷ rs) zero h = rw (spanned_yes r h) (omega arith)
some_spanned (r ∷ rs) (suc x) h = if-ind (λ (n : ℕ). 0 < n) (spanned r) (λ _. omega arith) (λ _. some_spanned rs x h)

-- n absorbs i, whose id is a
merged_owns : (rs : List Rec) (i a n : ℕ) → Owns rs → (at rs i).id ≡ a → Live rs i → ((at rs i).count ≡ 0 → ⊥) → (n ≡ a → ⊥) → Live rs n → ((at rs n).count ≡ 0 → ⊥)
    → Owns (after rs i a n) × (0 < tally spanned (after rs i a n))
merged_owns rs i a n O ia li ci ne ln cn = (record { own = own_after }, some_spanned (after rs i a n) n count_n)
  where
    az : a ≡ 0 → ⊥
    az e = li (ia ∙ e)

    ai : a ≡ i
    ai = sym ia ∙ O.own i li ci

    count_n : (at (after rs i a n) n).count ≡ 0 → ⊥
    count_n = after_count rs i a n az n (λ k. k ≡ 0 → ⊥) cn (λ _ z. ci (omega arith)) (λ e. absurd (ne (e ∙ sym ai)))

    live_back : (x : ℕ) → Live (after rs i a n) x → Live rs x
    live_back x h e = h (after_id rs i a n az x ∙ ren_miss a n (at rs x).id (λ q. az (sym q ∙ e)) ∙ e)

    own_after : (x : ℕ) → Live (after rs i a n) x → ((at (after rs i a n) x).count ≡ 0 → ⊥) → (at (after rs i a n) x).id ≡ x
    own_after x lx cx =
        elim (ℕ_discrete x i) [
          | yes e ↦ absurd (cx (ap (λ (y : ℕ). (at (after rs i a n) y).count) e ∙ after_empty rs i a n az (live_in rs i li)))
          | no e ↦ after_count rs i a n az x (λ k. (k ≡ 0 → ⊥) → (at (after rs i a n) x).id ≡ x)
              (λ c. let q = O.own x (live_back x lx) c in after_id rs i a n az x ∙ ap (ren a n) q ∙ ren_miss a n x (λ z. e (z ∙ ai)))
              (λ z _. after_id rs i a n az x ∙ ap (λ (y : ℕ). ren a n (at rs y).id) z ∙ ap (ren a n) (O.own n ln cn) ∙ ren_miss a n n ne ∙ sym z)
              (λ z. absurd (e z)) cx
        ]

one_owns : (area i : ℕ) (g : Merge) → Ready g.recs → Owns g.recs → 0 < tally spanned g.recs → Owns (merge_one area i g).recs × (0 < tally spanned (merge_one area i g).recs)
unfolding merge_one
one_owns area i g R O s =
    if-ind (λ (x : Merge). Owns x.recs × (0 < tally spanned x.recs)) _ (λ _. (O, s))
    (λ e.
    let rs = g.recs in
    let a = at rs i in
    let p = picked rs a a.list (record { size = 65536; id = a.id }) in
    let lists = neither _ _ e in
    let other = neither _ _ lists.0 in
    let spans = neither _ _ (neither _ _ other.0).0 in
    let live : Live rs i = eqb-false _ _ (neither _ _ spans.0).0 in
    let some : a.count ≡ 0 → ⊥ = eqb-false _ _ spans.1 in
    let apart : p.id ≡ a.id → ⊥ = eqb-false _ _ other.1 in
    let found = picked-live rs a R.named a.id a.list (record { size = 65536; id = a.id }) (λ n. absurd (n refl)) apart in
    let listed : has (at rs p.id).list a.id ≡ true = (both _ _ (not-false _ lists.1)).0 in
    let more : (at rs p.id).count ≡ 0 → ⊥ = λ z. has-none _ a.id listed (R.bare p.id found.1 z) in
    merged_owns rs i a.id p.id O refl live some apart found.1 more)

-- what every merge keeps, beside how many there were
record Kept (most : ℕ) (g : Merge) : Type 0 where
  falls : Falls most g
  owns : Owns g.recs
  some : 0 < tally spanned g.recs

one_kept : (area most i : ℕ) (g : Merge) → Kept most g → Kept most (merge_one area i g)
one_kept area most i g h = record { falls = one_falls area most i g h.falls; owns = turn.0; some = turn.1 }
  where
    turn : Owns (merge_one area i g).recs × (0 < tally spanned (merge_one area i g).recs)
    turn = one_owns area i g h.falls.ready h.owns h.some

all_some : (area k : ℕ) (rs : List Rec) → Ready rs → Owns rs → 0 < tally spanned rs → 0 < tally spanned (merged area k rs)
unfolding merged
all_some area zero rs R O s = s
all_some area (suc k) rs R O s =
    let start : Merge = record { recs = rs; merges = 0 } in
    let g = upto (length rs) (merge_one area) start in
    let h = upto-ind (λ i (x : Merge). Kept (tally spanned rs) x) (merge_one area) start (length rs) (record { falls = record { ready = R; sum = omega arith }; owns = O; some = s })
    (λ i x _ p. one_kept area (tally spanned rs) i x p) in
    if-ind (λ (x : List Rec). 0 < tally spanned x) _ (λ _. s) (λ _. all_some area k g.recs h.falls.ready h.owns h.some)

-- so there are fewer merges than records with spans, and a trail has no more numbers than there are such records
pub trail_fits : (area k : ℕ) (rs : List Rec) (r : ℕ) → Ready rs → Owns rs → 0 < tally spanned rs → length (trail (mergings area k rs []) r) ≤ tally spanned rs
trail_fits area k rs r R O s = omega (arith, trail-length (mergings area k rs []) r, all_told area k rs [] R, all_some area k rs R O s)
