-- What a span takes from its cell its record keeps: floors only join, overlap is only set (`Grows`). So once a cell is done, its records have all that its
-- spans take from it, and so have those of a cell with the same ids (`Known`); where some layers have the same, they have these (`Prior`). Assumes nothing.
use Prim.Native.Nat.{ℕ, zero, suc, ◌+◌, ◌-◌, ◌≤◌, ◌<◌}
use native.Mathlib.Omega.{arith}
use native.Mathlib.Decide.{ℕ_discrete, dec_lt}
use mathlib.Core.Path.{◌≡◌, refl, sym, ap, ◌∙◌}
use mathlib.Core.Bool.{Bool, true, false, not, false≢true}
use mathlib.Core.List.{List, [], ◌∷◌, ◌++◌, map}
use lib.ListN.{length, get_or, length-set}
use lib.Seq.{get_or-set_same}
use lib.Dec.{eqb}
use borrow.Author.Tests.{eq-eqb, ne_eqb, eqb-true}
use Rattle.rules.specs.Base.{◌or◌, when◌then◌else◌, upto, keep, tab, any}
use Rattle.rules.specs.Net.{Net}
use Rattle.rules.specs.Growth.{plain}
use Rattle.rules.specs.Records.{Rec, fresh, at, has, once, once_all}
use Rattle.laws.proofs.Basics.{if-ind, or_left, or_right, or_no, or_yes, store_cases}
use Rattle.table.proofs.ViewLaws.{rec_eq}
use Rattle.records.specs.Cell.{twin, twins, others_from, Alike, Within, Near, Prior}
use Rattle.records.specs.Rows.{plus_one, overlaid, floored, celled, contoured, Took, Known}
use Rattle.records.specs.Build.{added}
use Rattle.records.specs.declared.cell.Spans.{Spans}
use Rattle.records.proofs.CellLaws.{twins-alone, others-alone}

-- ---------------------------------------------------------------- a list that ids join once

has_more : (l : List ℕ) (r v : ℕ) → has l v ≡ true → has (l ++ (r ∷ [])) v ≡ true
unfolding any ◌or◌
has_more [] r v e = or_right (eqb v r) false e
has_more (x ∷ l) r v e = go (eqb v x) (has_more l r v) e
  where
    go : (b : Bool) → (has l v ≡ true → has (l ++ (r ∷ [])) v ≡ true) → (b or has l v) ≡ true → (b or has (l ++ (r ∷ [])) v) ≡ true
    go true h z = refl
    go false h z = h z

has_last : (l : List ℕ) (r : ℕ) → has (l ++ (r ∷ [])) r ≡ true
unfolding any
has_last [] r = or_left (eqb r r) false (eq-eqb r r refl)
has_last (x ∷ l) r = or_right (eqb r x) (has (l ++ (r ∷ [])) r) (has_last l r)

pub once_keeps : (l : List ℕ) (r v : ℕ) → has l v ≡ true → has (once l r) v ≡ true
unfolding once
once_keeps l r v e = if-ind (λ (x : List ℕ). has x v ≡ true) (has l r) (λ _. e) (λ _. has_more l r v e)

once-has : (l : List ℕ) (r : ℕ) → has (once l r) r ≡ true
unfolding once
once-has l r = if-ind (λ (x : List ℕ). has x r ≡ true) (has l r) (λ y. y) (λ _. has_last l r)

all_keep : (l o : List ℕ) (v : ℕ) → has l v ≡ true → has (once_all l o) v ≡ true
unfolding once_all
all_keep l [] v e = e
all_keep l (r ∷ o) v e = all_keep (once l r) o v (once_keeps l r v e)

-- all that joins is listed
all_have : (l o : List ℕ) (v : ℕ) → has o v ≡ true → has (once_all l o) v ≡ true
unfolding once_all any ◌or◌
all_have l [] v e = absurd (false≢true e)
all_have l (r ∷ o) v e = go (eqb v r) refl (all_have (once l r) o v) e
  where
    go : (b : Bool) → eqb v r ≡ b → (has o v ≡ true → has (once_all (once l r) o) v ≡ true) → (b or has o v) ≡ true → has (once_all (once l r) o) v ≡ true
    go true q h z = let s : v ≡ r = eqb-true v r q in all_keep (once l r) o v (rw s (once-has l r))
    go false q h z = h z

-- what is listed joins to no effect
all_same : (l o : List ℕ) → ((v : ℕ) → has o v ≡ true → has l v ≡ true) → once_all l o ≡ l
unfolding once_all once any when◌then◌else◌
all_same l [] h = refl
all_same l (r ∷ o) h =
    let z = h r (or_left (eqb r r) (has o r) (eq-eqb r r refl)) in
    rw z (all_same l o (λ v e. h v (or_right (eqb v r) (has o v) e)))

-- ---------------------------------------------------------------- records keep what they have

pub record Grows (x y : Rec) : Type 0 where
  pub floors : (v : ℕ) → has x.floors v ≡ true → has y.floors v ≡ true
  pub overlap : x.overlap ≡ true → y.overlap ≡ true

grows_still : (x : Rec) → Grows x x
grows_still x = record { floors = λ v e. e; overlap = λ e. e }

grows_then : (x y z : Rec) → Grows x y → Grows y z → Grows x z
grows_then x y z g h = record { floors = λ v e. h.floors v (g.floors v e); overlap = λ e. h.overlap (g.overlap e) }

took_then : (ids : List ℕ) (s n t : ℕ) (x y : Rec) → Took ids s n t x → Grows x y → Took ids s n t y
took_then ids s n t x y k g = record { floors = λ v e. g.floors v (k.floors v e); overlap = λ e. g.overlap (k.overlap e) }

module _ (N : Net) (ids : List ℕ) (s n t : ℕ) (x : Rec) where
  grows_counted : Grows x (contoured N ids s (celled ids s n t x))
  unfolding contoured celled floored overlaid plus_one
  grows_counted = record { floors = λ v e. all_keep x.floors (others_from ids s n t) v e; overlap = λ e. or_left x.overlap (twins ids s (get_or ids s 0) n t) e }

  took_counted : Took ids s n t (contoured N ids s (celled ids s n t x))
  unfolding contoured celled floored overlaid plus_one
  took_counted = record { floors = λ v e. all_have x.floors (others_from ids s n t) v e; overlap = λ e. or_right x.overlap (twins ids s (get_or ids s 0) n t) e }

-- a record that has what the span takes is only counted
pub celled_took : (ids : List ℕ) (s n t : ℕ) (x : Rec) → Took ids s n t x → plus_one x ≡ celled ids s n t x
unfolding celled floored overlaid plus_one
celled_took ids s n t x k =
    rec_eq _ _ _ _ _ _ _ _ _ _ _ _ _ _ _ _ refl refl refl refl (set_already x.overlap (twins ids s (get_or ids s 0) n t) k.overlap) refl (sym (all_same x.floors (others_from ids s n t) k.floors)) refl
  where
    set_already : (a b : Bool) → (b ≡ true → a ≡ true) → a ≡ a or b
    set_already a true h = rw (h refl) (sym (or_yes true))
    set_already a false h = sym (or_no a)

-- ---------------------------------------------------------------- the spans of a cell

module _ (N : Net) (ids : List ℕ) (cell : Spans) where
  grows_added : (s : ℕ) (rs : List Rec) (i : ℕ) → Grows (at rs i) (at (added N ids cell s rs) i)
  unfolding added at
  grows_added s rs i =
      let r = get_or ids s 0 in
      let y = contoured N ids s (celled ids s cell.size cell.from (at rs r)) in
      if-ind (λ (l : List Rec). Grows (at rs i) (at l i)) (plain r)
      (λ _. store_cases rs r y (fresh 0) i (λ (z : Rec). Grows (at rs i) z) (λ e. rw e (grows_counted N ids s cell.size cell.from (at rs r))) (grows_still (at rs i)))
      (λ _. grows_still (at rs i))

  took_added : (s : ℕ) (rs : List Rec) → plain (get_or ids s 0) ≡ true → get_or ids s 0 < length rs
      → Took ids s cell.size cell.from (at (added N ids cell s rs) (get_or ids s 0))
  unfolding added at when◌then◌else◌
  took_added s rs pl h =
      let r = get_or ids s 0 in
      let y = contoured N ids s (celled ids s cell.size cell.from (at rs r)) in
      rw (pl, get_or-set_same rs r y (fresh 0) h) (took_counted N ids s cell.size cell.from (at rs r))

  length-added : (s : ℕ) (rs : List Rec) → length (added N ids cell s rs) ≡ length rs
  unfolding added
  length-added s rs = if-ind (λ (l : List Rec). length l ≡ length rs) (plain (get_or ids s 0)) (λ _. length-set rs _ _) (λ _. refl)

  abbrev run : ℕ → List Rec → List Rec
  run k rs = upto k (λ i. added N ids cell (cell.from + i)) rs

  length_run : (k : ℕ) (rs : List Rec) → length (run k rs) ≡ length rs
  unfolding upto
  length_run zero rs = refl
  length_run (suc k) rs = length-added (cell.from + k) (run k rs) ∙ length_run k rs

  grows_run : (k : ℕ) (rs : List Rec) (i : ℕ) → Grows (at rs i) (at (run k rs) i)
  unfolding upto
  grows_run zero rs i = grows_still (at rs i)
  grows_run (suc k) rs i = grows_then (at rs i) (at (run k rs) i) _ (grows_run k rs i) (grows_added (cell.from + k) (run k rs) i)

  -- what is known of any cell stays known
  pub known_run : (other : Spans) (k : ℕ) (rs : List Rec) → Known ids other rs → Known ids other (run k rs)
  known_run other k rs v = record { took = λ s l u pl. took_then ids s other.size other.from _ _ (v.took s l u pl) (grows_run k rs (get_or ids s 0)) }

  -- after k spans of the cell the records of these have what they take
  took_run : (k : ℕ) (rs : List Rec) → ((x : ℕ) → plain (get_or ids x 0) ≡ true → get_or ids x 0 < length rs) → (s : ℕ) → cell.from ≤ s → s < cell.from + k → plain (get_or ids s 0) ≡ true
      → Took ids s cell.size cell.from (at (run k rs) (get_or ids s 0))
  unfolding upto
  took_run zero rs b s l u pl = absurd (omega arith)
  took_run (suc k) rs b s l u pl = elim (dec_lt s (cell.from + k)) [
    | yes h ↦ took_then ids s cell.size cell.from _ _ (took_run k rs b s l h pl) (grows_added (cell.from + k) (run k rs) (get_or ids s 0))
    | no h ↦ (let e : s ≡ cell.from + k = omega arith in
        let g : get_or ids s 0 < length (run k rs) = omega (arith, b s pl, length_run k rs) in
        rw e (took_added (cell.from + k) (run k rs) (rw e at pl) (rw e at g)))
  ]

  pub known_made : (rs : List Rec) → ((x : ℕ) → plain (get_or ids x 0) ≡ true → get_or ids x 0 < length rs) → Known ids cell (run cell.size rs)
  known_made rs b = record { took = λ s l u pl. took_run cell.size rs b s l u pl }

-- a cell with one span, or none
pub known_few : (ids : List ℕ) (cell : Spans) (rs : List Rec) → cell.size ≤ 1 → Known ids cell rs
unfolding any
known_few ids cell rs z = record { took = λ s l u pl. alone s cell.size cell.from (omega arith) (omega arith) }
  where
    alone : (s n t : ℕ) → n ≡ 1 → t ≡ s → Took ids s n t (at rs (get_or ids s 0))
    alone s n t p q = rw (p, q) (record {
      floors = λ v e. absurd (false≢true (rw (others-alone ids s) at e));
      overlap = λ e. absurd (false≢true (rw (twins-alone ids s (get_or ids s 0)) at e));
    })

-- ---------------------------------------------------------------- two cells with the same ids

module _ (ids : List ℕ) (s v : ℕ) where
  others_alike : (n t u : ℕ) → ((i : ℕ) → i < n → get_or ids (t + i) 0 ≡ get_or ids (u + i) 0) → ((i : ℕ) → i < n → eqb (t + i) s ≡ eqb (u + i) v) → others_from ids s n t ≡ others_from ids v n u
  unfolding others_from keep tab when◌then◌else◌
  others_alike zero t u h k = refl
  others_alike (suc n) t u h k =
      let a : t + 0 ≡ t = omega arith in
      let b : u + 0 ≡ u = omega arith in
      let g : get_or ids t 0 ≡ get_or ids u 0 = rw (a, b) at (h 0 (omega arith)) in
      let e : eqb t s ≡ eqb u v = rw (a, b) at (k 0 (omega arith)) in
      let on : (x : ℕ) (i : ℕ) → suc x + i ≡ x + suc i = λ x i. omega arith in
      let ih = others_alike n (suc t) (suc u) (λ i l. rw (on t i, on u i) (h (suc i) (omega arith))) (λ i l. rw (on t i, on u i) (k (suc i) (omega arith))) in
      let p = keep (λ x. not (eqb x s)) (tab n (suc t) (λ x. x)) in
      let q = keep (λ x. not (eqb x v)) (tab n (suc u) (λ x. x)) in
      rw e (both (not (eqb u v)) t u p q g ih)
    where
      both : (c : Bool) (t u : ℕ) (p q : List ℕ) → get_or ids t 0 ≡ get_or ids u 0 → keep plain (map (λ x. get_or ids x 0) p) ≡ keep plain (map (λ x. get_or ids x 0) q)
          → keep plain (map (λ x. get_or ids x 0) (when c then t ∷ p else p)) ≡ keep plain (map (λ x. get_or ids x 0) (when c then u ∷ q else q))
      both true t u p q g e = rw (g, e) refl
      both false t u p q g e = e

  twins_alike : (own n t u : ℕ) → ((i : ℕ) → i < n → get_or ids (t + i) 0 ≡ get_or ids (u + i) 0) → ((i : ℕ) → i < n → eqb (t + i) s ≡ eqb (u + i) v) → twins ids s own n t ≡ twins ids v own n u
  unfolding twins twin
  twins_alike own zero t u h k = refl
  twins_alike own (suc n) t u h k =
      let a : t + 0 ≡ t = omega arith in
      let b : u + 0 ≡ u = omega arith in
      let g : get_or ids t 0 ≡ get_or ids u 0 = rw (a, b) at (h 0 (omega arith)) in
      let e : eqb t s ≡ eqb u v = rw (a, b) at (k 0 (omega arith)) in
      let on : (x : ℕ) (i : ℕ) → x + 1 + i ≡ x + suc i = λ x i. omega arith in
      let ih = twins_alike own n (t + 1) (u + 1) (λ i l. rw (on t i, on u i) (h (suc i) (omega arith))) (λ i l. rw (on t i, on u i) (k (suc i) (omega arith))) in
      rw (e, g, ih) refl

pub known_alike : (ids : List ℕ) (a b : Spans) (rs : List Rec) → Known ids a rs → Alike ids a b → Known ids b rs
known_alike ids a b rs k e = record { took = λ s l u pl. go s (s - b.from) (omega arith) (omega arith) pl }
  where
    at_layer : (i j : ℕ) → eqb (a.from + i) (a.from + j) ≡ eqb (b.from + i) (b.from + j)
    at_layer i j = elim (ℕ_discrete i j) [
      | yes z ↦ eq-eqb _ _ (ap (λ x. a.from + x) z) ∙ sym (eq-eqb _ _ (ap (λ x. b.from + x) z))
      | no z ↦ ne_eqb _ _ (λ (y : a.from + i ≡ a.from + j). z (omega arith)) ∙ sym (ne_eqb _ _ (λ (y : b.from + i ≡ b.from + j). z (omega arith)))
    ]

    go : (s j : ℕ) → s ≡ b.from + j → j < b.size → plain (get_or ids s 0) ≡ true → Took ids s b.size b.from (at rs (get_or ids s 0))
    go s j q h pl =
        let same = e.same j h in
        let t = k.took (a.from + j) (omega arith) (omega (arith, e.size)) (rw (same, ← q) pl) in
        let o : others_from ids (a.from + j) a.size a.from ≡ others_from ids (b.from + j) b.size b.from
        = rw e.size (others_alike ids (a.from + j) (b.from + j) b.size a.from b.from e.same (λ i _. at_layer i j)) in
        let w : twins ids (a.from + j) (get_or ids (a.from + j) 0) a.size a.from ≡ twins ids (b.from + j) (get_or ids (b.from + j) 0) b.size b.from
        = rw (e.size, same) (twins_alike ids (a.from + j) (b.from + j) (get_or ids (b.from + j) 0) b.size a.from b.from e.same (λ i _. at_layer i j)) in
        rw q (record {
          floors = λ v y. rw (← same) (t.floors v (rw o y));
          overlap = λ y. rw (← same) (t.overlap (rw w y));
        })

-- ---------------------------------------------------------------- two cells with some layers the same

-- the id of another span, if it is plain, is one of the others'
others_have : (ids : List ℕ) (s n t j : ℕ) → j < n → (t + j ≡ s → ⊥) → plain (get_or ids (t + j) 0) ≡ true → has (others_from ids s n t) (get_or ids (t + j) 0) ≡ true
unfolding others_from keep tab any when◌then◌else◌
others_have ids s zero t j h k pl = absurd (omega arith)
others_have ids s (suc n) t zero h k pl =
    let a : t + 0 ≡ t = omega arith in
    let e : eqb t s ≡ false = ne_eqb t s (λ z. k (omega arith)) in
    let p : plain (get_or ids t 0) ≡ true = rw a at pl in
    let r = keep (λ x. not (eqb x s)) (tab n (suc t) (λ x. x)) in
    rw (a, e, p) (or_left (eqb (get_or ids t 0) (get_or ids t 0)) (has (keep plain (map (λ x. get_or ids x 0) r)) (get_or ids t 0)) (eq-eqb (get_or ids t 0) (get_or ids t 0) refl))
others_have ids s (suc n) t (suc j) h k pl =
    let a : t + suc j ≡ suc t + j = omega arith in
    let r = keep (λ x. not (eqb x s)) (tab n (suc t) (λ x. x)) in
    let ih = others_have ids s n (suc t) j (omega arith) (λ z. k (omega arith)) (rw a at pl) in
    rw a (later (not (eqb t s)) t r (get_or ids (suc t + j) 0) ih)
  where
    later : (c : Bool) (t : ℕ) (r : List ℕ) (v : ℕ) → has (keep plain (map (λ x. get_or ids x 0) r)) v ≡ true → has (keep plain (map (λ x. get_or ids x 0) (when c then t ∷ r else r))) v ≡ true
    later true t r v e = if-ind (λ (y : List ℕ). has y v ≡ true) (plain (get_or ids t 0)) (λ _. or_right (eqb v (get_or ids t 0)) (has (keep plain (map (λ x. get_or ids x 0) r)) v) e) (λ _. e)
    later false t r v e = e

-- what the record of a span has from a cell that is known
pub prior_known : (ids : List ℕ) (s : ℕ) (cell prior : Spans) (rs : List Rec) → Within ids s cell → plain (get_or ids s 0) ≡ true → Known ids prior rs
    → Prior ids (at rs (get_or ids s 0)).floors s cell prior
prior_known ids s cell prior rs w pl k = record { listed = λ n j h d e y. go n j h d e y }
  where
    go : Near ids s cell prior → (j : ℕ) → j < cell.size → (cell.from + j ≡ s → ⊥) → get_or ids (cell.from + j) 0 ≡ get_or ids (prior.from + j) 0
        → plain (get_or ids (cell.from + j) 0) ≡ true → has (at rs (get_or ids s 0)).floors (get_or ids (cell.from + j) 0) ≡ true
    go n j h d e y =
        let u = prior.from + (s - cell.from) in
        let t = k.took u (omega arith) (omega (arith, n.size, w.lower, w.upper)) (rw n.same pl) in
        let o = others_have ids u prior.size prior.from j (omega (arith, n.size)) (λ z. d (omega (arith, w.lower))) (rw e at y) in
        rw (e, ← n.same) (t.floors (get_or ids (prior.from + j) 0) o)
