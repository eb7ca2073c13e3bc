-- Laws of the numbering. Assumes nothing.
use Prim.Native.Nat.{ℕ, zero, suc, ◌+◌, ◌≤◌, ◌<◌}
use native.Mathlib.Omega.{arith}
use native.Mathlib.Numerals.{add-one}
use native.Mathlib.Decide.{ℕ_discrete}
use mathlib.Core.Path.{◌≡◌, refl, sym, ap, ◌∙◌}
use mathlib.Core.Logic.{⊎_elim}
use mathlib.Core.Bool.{Bool, true, false, true≢false, false≢true}
use mathlib.Core.List.{List, [], ◌∷◌, ◌++◌}
use lib.ListN.{length, get_or, set, take, length-append}
use lib.Seq.{take-suc, get_or-set_same, get_or-set_other, get_or-take}
use lib.Dec.{eqb}
use borrow.Author.Tests.{eq-eqb, ne_eqb, le-leb, lt-leb}
use Rattle.rules.specs.Base.{◌or◌, when◌then◌else◌, any, many}
use Rattle.rules.specs.Records.{has, once}
use Rattle.rules.specs.Merge.{place}
use Rattle.rules.specs.Numbering.{number_of}
use Rattle.space.specs.Space.{Frame}
use Rattle.space.proofs.Laws.{get_or_before, cases}
use Rattle.table.proofs.SearchLaws.{has_cons, has-head, place_other, place-first}
use Rattle.pool.proofs.HasLaws.{or-first, has_end}
use Rattle.pool.specs.Lists.{map_to}
use Rattle.pool.proofs.ListLaws.{map_to-at}
use Rattle.numbering.specs.Number.{step_live, live_ids, num_in, renumber, nonzero, Numbers, Column, Blank, Stand, Spans}
use Rattle.laws.proofs.Basics.{or_yes, or_no}

-- ---- an id's number

place-last : (l : List ℕ) (r : ℕ) → has l r ≡ false → place (l ++ (r ∷ [])) r ≡ length l
place-last [] r h = place-first r [] r refl
place-last (x ∷ l) r h =
    elim (ℕ_discrete x r) [
      | yes e ↦ absurd (true≢false (sym (has-head l r) ∙ ap (λ (y : ℕ). has (y ∷ l) r) (sym e) ∙ h))
      | no e ↦ place_other x (l ++ (r ∷ [])) r e ∙ ap suc (place-last l r (sym (has_cons x l r e) ∙ h))
    ]

place_in : (l : List ℕ) (r v : ℕ) → has l v ≡ true → place (l ++ (r ∷ [])) v ≡ place l v
unfolding any
place_in [] r v h = absurd (false≢true h)
place_in (x ∷ l) r v h =
    elim (ℕ_discrete x v) [
      | yes e ↦ place-first x (l ++ (r ∷ [])) v e ∙ sym (place-first x l v e)
      | no e ↦ place_other x (l ++ (r ∷ [])) v e ∙ ap suc (place_in l r v (sym (has_cons x l v e) ∙ h)) ∙ sym (place_other x l v e)
    ]

num_in_yes : (l : List ℕ) (v : ℕ) → has l v ≡ true → num_in l v ≡ suc (place l v)
unfolding num_in when◌then◌else◌
num_in_yes l v h = rw h

num_in_no : (l : List ℕ) (v : ℕ) → has l v ≡ false → num_in l v ≡ 0
unfolding num_in when◌then◌else◌
num_in_no l v h = rw h

num_in-same : (l : List ℕ) (r : ℕ) → has l r ≡ false → num_in (l ++ (r ∷ [])) r ≡ suc (length l)
num_in-same l r h = num_in_yes (l ++ (r ∷ [])) r (has_end l r r ∙ rw (eq-eqb r r refl) (or_yes (has l r))) ∙ ap suc (place-last l r h)

num_in-other : (l : List ℕ) (r v : ℕ) → (v ≡ r → ⊥) → num_in (l ++ (r ∷ [])) v ≡ num_in l v
num_in-other l r v n =
    let e : has (l ++ (r ∷ [])) v ≡ has l v = has_end l r v ∙ rw (ne_eqb v r n) (or_no (has l v)) in
    ⊎_elim (λ (h : has l v ≡ true). num_in_yes (l ++ (r ∷ [])) v (e ∙ h) ∙ ap suc (place_in l r v h) ∙ sym (num_in_yes l v h))
    (λ (h : has l v ≡ false). num_in_no (l ++ (r ∷ [])) v (e ∙ h) ∙ sym (num_in_no l v h))
    (cases (has l v))

-- ---- a record more

step_zero : (l : List ℕ) (r : ℕ) → r ≡ 0 → step_live l r ≡ l
unfolding step_live when◌then◌else◌
step_zero l r e = rw (eq-eqb r 0 e)

step_old : (l : List ℕ) (r : ℕ) → has l r ≡ true → step_live l r ≡ l
unfolding step_live once when◌then◌else◌
step_old l r h = go (eqb r 0) h
  where
    go : (b : Bool) → has l r ≡ true → (when b then l else when has l r then l else l ++ (r ∷ [])) ≡ l
    go true h = refl
    go false h = rw h

step_new : (l : List ℕ) (r : ℕ) → (r ≡ 0 → ⊥) → has l r ≡ false → step_live l r ≡ l ++ (r ∷ [])
unfolding step_live once when◌then◌else◌
step_new l r n h = rw (ne_eqb r 0 n, h)

pub column_in : (m b : ℕ) (ws : List ℕ) (i r : ℕ) → Column m b ws → i < m → r ≡ get_or ws i 0 → b + r < length ws
column_in m b ws i r c h e = omega (arith, c.room, c.ids i h)

module _ (m b : ℕ) (ws : List ℕ) (i r k : ℕ) (c : Column m b ws) (h : i < m) (e : r ≡ get_or ws i 0) where
  pub numbers_none : r ≡ 0 → (l : List ℕ) → Numbers m b ws l k → Numbers m b ws (step_live l (get_or ws i 0)) k
  numbers_none z l n = rw (← e, step_zero l r z) n

  pub numbers_old : (get_or ws (b + r) 0 ≡ 0 → ⊥) → (l : List ℕ) → Numbers m b ws l k → Numbers m b ws (step_live l (get_or ws i 0)) k
  numbers_old z l n =
      let v : r < m = omega (arith, c.ids i h) in
      ⊎_elim (λ (y : has l r ≡ true). rw (← e, step_old l r y) n)
      (λ (y : has l r ≡ false). absurd (z (n.marks r v ∙ num_in_no l r y)))
      (cases (has l r))

  pub numbers_new : (r ≡ 0 → ⊥) → get_or ws (b + r) 0 ≡ 0 → (l : List ℕ) → Numbers m b ws l k → Numbers m b (set ws (b + r) (k + 1)) (step_live l (get_or ws i 0)) (k + 1)
  numbers_new nz z l n =
      let v : r < m = omega (arith, c.ids i h) in
      let w : b + r < length ws = column_in m b ws i r c h e in
      ⊎_elim (λ (y : has l r ≡ true). absurd (let g = sym (n.marks r v ∙ num_in_yes l r y) ∙ z in omega arith))
      (λ (y : has l r ≡ false). rw (← e, step_new l r nz y) (record {
        marks = λ u hu. elim (ℕ_discrete u r) [
          | yes d ↦ rw d (get_or-set_same ws (b + r) (k + 1) 0 w ∙ add-one k ∙ ap suc n.many ∙ sym (num_in-same l r y))
          | no d ↦ get_or-set_other ws (b + r) (b + u) (k + 1) 0 (λ p. d (omega arith)) ∙ n.marks u hu ∙ sym (num_in-other l r u d)
        ];
        many = ap (λ (j : ℕ). j + 1) n.many ∙ sym (length-append l (r ∷ []));
      }))
      (cases (has l r))

-- ---- all records

live_end : (xs : List ℕ) (x : ℕ) (l : List ℕ) → live_ids (xs ++ (x ∷ [])) l ≡ step_live (live_ids xs l) x
unfolding live_ids
live_end [] x l = refl
live_end (y ∷ xs) x l = live_end xs x (step_live l y)

num_in_empty : (v : ℕ) → 0 ≡ num_in [] v
unfolding num_in any when◌then◌else◌
num_in_empty v = refl

pub numbers_start : (m b : ℕ) (ws : List ℕ) → Blank m b ws → Numbers m b ws (live_ids (take 0 ws) []) 0
unfolding live_ids
numbers_start m b ws e = record { marks = λ v h. e.blank v h ∙ num_in_empty v; many = refl }

module _ (m b : ℕ) (ws₀ ws : List ℕ) (c : Column m b ws₀) (f : Frame b (b + m) ws₀ ws) (s : length ws ≡ length ws₀) where
  pub column_kept : Column m b ws
  column_kept = record { room = rw s c.room; apart = c.apart; few = c.few; ids = λ i h. rw (get_or_before i f (omega (arith, c.apart))) (c.ids i h) }

  pub numbers_go : (ws' : List ℕ) (i k r : ℕ) → i < m → Numbers m b ws (live_ids (take i ws₀) []) k
      → ((l : List ℕ) → Numbers m b ws l k → Numbers m b ws' (step_live l (get_or ws i 0)) r) → Numbers m b ws' (live_ids (take (i + 1) ws₀) []) r
  numbers_go ws' i k r h n g =
      let w : i < length ws₀ = omega (arith, c.room, c.apart) in
      let d : get_or ws i 0 ≡ get_or ws₀ i 0 = get_or_before i f (omega (arith, c.apart)) in
      let t : live_ids (take (i + 1) ws₀) [] ≡ step_live (live_ids (take i ws₀) []) (get_or ws i 0) =
      ap (λ (j : ℕ). live_ids (take j ws₀) []) (add-one i) ∙ ap (λ (q : List ℕ). live_ids q []) (take-suc ws₀ i 0 w) ∙ live_end (take i ws₀) (get_or ws₀ i 0) [] ∙ ap (step_live (live_ids (take i ws₀) [])) (sym d) in
      rw t (g _ n)

pub numbers_end : (m b : ℕ) (ws₀ ws : List ℕ) (i k : ℕ) → i ≤ m → m ≤ i → Numbers m b ws (live_ids (take i ws₀) []) k → Numbers m b ws (live_ids (take m ws₀) []) k
numbers_end m b ws₀ ws i k h g n = let e : i ≡ m = omega arith in rw e at n

-- ---- live ids hold every nonzero id, and not 0

step-none : (l : List ℕ) (r : ℕ) → has l 0 ≡ false → has (step_live l r) 0 ≡ false
step-none l r h =
    elim (ℕ_discrete r 0) [
      | yes e ↦ rw (step_zero l r e) h
      | no e ↦ ⊎_elim (λ (y : has l r ≡ true). rw (step_old l r y) h)
          (λ (y : has l r ≡ false). rw (step_new l r e y) (has_end l r 0 ∙ rw (h, ne_eqb 0 r (λ z. e (sym z))) (or_no false)))
          (cases (has l r))
    ]

live-none : (xs l : List ℕ) → has l 0 ≡ false → has (live_ids xs l) 0 ≡ false
unfolding live_ids
live-none [] l h = h
live-none (x ∷ xs) l h = live-none xs (step_live l x) (step-none l x h)

step_keeps : (l : List ℕ) (r v : ℕ) → has l v ≡ true → has (step_live l r) v ≡ true
step_keeps l r v h =
    elim (ℕ_discrete r 0) [
      | yes e ↦ rw (step_zero l r e) h
      | no e ↦ ⊎_elim (λ (y : has l r ≡ true). rw (step_old l r y) h)
          (λ (y : has l r ≡ false). rw (step_new l r e y) (has_end l r v ∙ ap (λ (b : Bool). b or eqb v r) h ∙ true_or (eqb v r)))
          (cases (has l r))
    ]
  where
    true_or : (b : Bool) → true or b ≡ true
    true_or b = or-first b

live_keeps : (xs l : List ℕ) (v : ℕ) → has l v ≡ true → has (live_ids xs l) v ≡ true
unfolding live_ids
live_keeps [] l v h = h
live_keeps (x ∷ xs) l v h = live_keeps xs (step_live l x) v (step_keeps l x v h)

step_gets : (l : List ℕ) (r : ℕ) → (r ≡ 0 → ⊥) → has (step_live l r) r ≡ true
step_gets l r e =
    ⊎_elim (λ (y : has l r ≡ true). rw (step_old l r y) y)
    (λ (y : has l r ≡ false). rw (step_new l r e y) (has_end l r r ∙ rw (eq-eqb r r refl) (or_yes (has l r))))
    (cases (has l r))

live_gets : (xs l : List ℕ) (i : ℕ) → (get_or xs i 0 ≡ 0 → ⊥) → has (live_ids xs l) (get_or xs i 0) ≡ true
unfolding live_ids
live_gets [] l i h = absurd (h refl)
live_gets (x ∷ xs) l zero h = live_keeps xs (step_live l x) x (step_gets l x h)
live_gets (x ∷ xs) l (suc i) h = live_gets xs (step_live l x) i h

none_empty : has [] 0 ≡ false
unfolding any
none_empty = refl

-- the table gives what the rule gives
num_in_is : (rids : List ℕ) (r : ℕ) → num_in (live_ids rids []) (get_or rids r 0) ≡ number_of (live_ids rids []) (get_or rids r 0)
unfolding number_of when◌then◌else◌
num_in_is rids r =
    elim (ℕ_discrete (get_or rids r 0) 0) [
      | yes e ↦ rw (e) (num_in_no (live_ids rids []) 0 (live-none rids [] none_empty))
      | no e ↦ rw (ne_eqb (get_or rids r 0) 0 e) (num_in_yes (live_ids rids []) (get_or rids r 0) (live_gets rids [] r e))
    ]

pub flagged-stays : (rids : List ℕ) (r : ℕ) → 32768 ≤ r → r ≡ renumber rids r
unfolding renumber when◌then◌else◌
flagged-stays rids r h = rw (le-leb 32768 r h)

pub new_id : (m b : ℕ) (ws : List ℕ) (r i : ℕ) → Column m b ws → Stand m b ws (live_ids (take m ws) []) → (r < 32768 → r < m) → r < 32768 → i ≡ get_or ws r 0
    → get_or ws (b + i) 0 ≡ renumber (take m ws) r
unfolding renumber when◌then◌else◌
new_id m b ws r i c k f h e =
    let q : i ≡ get_or (take m ws) r 0 = e ∙ sym (get_or-take m ws r 0 (f h)) in
    rw (lt-leb 32768 r h) (k.marks i (rw e (c.ids r (f h))) ∙ ap (num_in (live_ids (take m ws) [])) q ∙ num_in_is (take m ws) r ∙ refl)

-- ---- how many are not 0

pub nonzero_is : (l : List ℕ) → many (eqb 0) l + nonzero l ≡ length l
unfolding many nonzero when◌then◌else◌
nonzero_is [] = refl
nonzero_is (x ∷ l) = elim (ℕ_discrete x 0) [
  | yes h ↦ rw (eq-eqb 0 x (sym h), eq-eqb x 0 h) (omega (arith, nonzero_is l))
  | no h ↦ rw (ne_eqb 0 x (λ e. h (sym e)), ne_eqb x 0 h) (omega (arith, nonzero_is l))
]

pub span_below : (m s : ℕ) (f : ℕ → ℕ) (ids₀ ids : List ℕ) → Spans m ids₀ → ids ≡ map_to f s ids₀ → get_or ids s 0 < 32768 → get_or ids s 0 < m
span_below m s f ids₀ ids b e h =
    let q : get_or ids s 0 ≡ get_or ids₀ s 0 = ap (λ (y : List ℕ). get_or y s 0) e ∙ map_to-at f s s ids₀ (omega arith) in
    rw q (b.below s (rw (← q) h))
