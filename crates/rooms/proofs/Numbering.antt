-- Numbers are given to classes one to one, without a gap. Assumes nothing.
use Prim.Native.Nat.{ℕ, zero, suc, ◌-◌, ◌≤◌, ◌<◌}
use native.Mathlib.Omega.{arith}
use native.Mathlib.Decide.{ℕ_discrete}
use mathlib.Core.Path.{◌≡◌, refl, sym, ap, ◌∙◌}
use mathlib.Core.Bool.{Bool, true, false, true≢false, false≢true}
use mathlib.Core.List.{List, [], ◌∷◌, ◌++◌}
use lib.ListN.{length, get_or, length-append, get_or-append}
use lib.Seq.{get_or-append_seam}
use lib.Dec.{eqb}
use borrow.Author.Tests.{eqb-true, eqb-false, eq-eqb}
use Rattle.rules.specs.Base.{◌or◌, when◌then◌else◌, upto, any}
use Rattle.rules.specs.Records.{Rec, at, has, once}
use Rattle.rules.specs.Merge.{place}
use Rattle.rules.specs.Numbering.{live}
use Rattle.laws.proofs.Basics.{either, if-ind, upto-ind, All, All_map, Distinct, nonzero_in, append_all, or_right, all_at}
use Rattle.rooms.proofs.Merging.{any_none}

-- ---------------------------------------------------------------- lists

or_map : (a b c : Bool) → (b ≡ true → c ≡ true) → a or b ≡ true → a or c ≡ true
unfolding ◌or◌
or_map true b c f e = refl
or_map false b c f e = f e

any_left : (p : ℕ → Bool) (l ys : List ℕ) → any p l ≡ true → any p (l ++ ys) ≡ true
unfolding any
any_left p [] ys e = absurd (false≢true e)
any_left p (x ∷ l) ys e = or_map (p x) (any p l) (any p (l ++ ys)) (any_left p l ys) e

any_last : (p : ℕ → Bool) (l : List ℕ) (x : ℕ) → p x ≡ true → any p (l ++ (x ∷ [])) ≡ true
unfolding any ◌or◌
any_last p [] x e = rw e
any_last p (y ∷ l) x e = or_right (p y) _ (any_last p l x e)

distinct_last : (l : List ℕ) (x : ℕ) → Distinct l → All (λ y. eqb x y ≡ false) l → Distinct (l ++ (x ∷ []))
distinct_last [] x d h = (tt, tt)
distinct_last (y ∷ l) x d h = (append_all (λ z. z ≡ y → ⊥) l (x ∷ []) d.0 (eqb-false x y h.0, tt), distinct_last l x d.1 h.1)

pub place_in : (l : List ℕ) (c : ℕ) → any (eqb c) l ≡ true → (place l c < length l) × (get_or l (place l c) 0 ≡ c)
unfolding any place
place_in [] c e = absurd (false≢true e)
place_in (x ∷ l) c e =
    if-ind (λ (n : ℕ). (n < suc (length l)) × (get_or (x ∷ l) n 0 ≡ c)) (eqb x c)
    (λ k. (omega arith, eqb-true x c k))
    (λ k.
    let r = place_in l c (either _ (eqb c x) (any (eqb c) l) e (λ q. absurd (eqb-false x c k (sym (eqb-true c x q)))) (λ q. q)) in
    (omega (arith, r.0), r.1))

pub place_at : (l : List ℕ) (i : ℕ) → Distinct l → i < length l → place l (get_or l i 0) ≡ i
unfolding place
place_at [] i d h = absurd (omega arith)
place_at (x ∷ l) zero d h = if-ind (λ (n : ℕ). n ≡ 0) (eqb x x) (λ _. refl) (λ k. absurd (eqb-false x x k refl))
place_at (x ∷ l) (suc i) d h =
    if-ind (λ (n : ℕ). n ≡ suc i) (eqb x (get_or l i 0))
    (λ k. absurd (all_at (λ y. y ≡ x → ⊥) l i d.0 (omega arith) (sym (eqb-true _ _ k))))
    (λ _. ap suc (place_at l i d.1 (omega arith)))

pub place-left : (l ys : List ℕ) (c : ℕ) → any (eqb c) l ≡ true → place (l ++ ys) c ≡ place l c
unfolding any place
place-left [] ys c e = absurd (false≢true e)
place-left (x ∷ l) ys c e =
    if-ind (λ (n : ℕ). place (x ∷ (l ++ ys)) c ≡ n) (eqb x c)
    (λ k. if-ind (λ (n : ℕ). n ≡ 0) (eqb x c) (λ _. refl) (λ q. absurd (true≢false (sym k ∙ q))))
    (λ k. if-ind (λ (n : ℕ). n ≡ suc (place l c)) (eqb x c) (λ q. absurd (true≢false (sym q ∙ k)))
    (λ _. ap suc (place-left l ys c (either _ (eqb c x) (any (eqb c) l) e (λ q. absurd (eqb-false x c k (sym (eqb-true c x q)))) (λ q. q)))))

-- ---------------------------------------------------------------- live ids as a loop

pub add : (ℕ → ℕ) → ℕ → List ℕ → List ℕ
add f k l = when eqb (f k) 0 then l else once l (f k)

upto_front {ℓ} : {A : Type ℓ} (n : ℕ) (f : ℕ → A → A) (a : A) → upto (suc n) f a ≡ upto n (λ k. f (suc k)) (f 0 a)
unfolding upto
upto_front zero f a = refl
upto_front (suc n) f a = ap (f (suc n)) (upto_front n f a)

pub live-upto : (rs : List Rec) (l : List ℕ) → live rs l ≡ upto (length rs) (add (λ j. (at rs j).id)) l
unfolding live upto at add
live-upto [] l = refl
live-upto (r ∷ rs) l = live-upto rs _ ∙ sym (upto_front (length rs) (add (λ j. (at (r ∷ rs) j).id)) l)

-- r is the id of a record below k
pub record Made (f : ℕ → ℕ) (k r : ℕ) : Type 0 where
  pub some : r ≡ 0 → ⊥
  pub rec : ℕ
  pub under : rec < k
  pub is : f rec ≡ r

-- the numbers given to the first k records; f: their ids
pub record Counting (f : ℕ → ℕ) (first k : ℕ) (l : List ℕ) : Type 0 where
  pub made : All (Made f k) l
  pub each : (i : ℕ) → i < k → (f i ≡ 0 → ⊥) → has l (f i) ≡ true
  pub apart : Distinct l
  pub low : (i : ℕ) → suc i < first → suc i < k → get_or l i 0 ≡ suc i
  pub start : k ≤ first → length l ≡ k - 1

module _ (f : ℕ → ℕ) (first : ℕ) (self : (j : ℕ) → j < first → f j ≡ j) where
  made_more : (k : ℕ) (l : List ℕ) → All (Made f k) l → All (Made f (suc k)) l
  made_more k l h = All_map l (λ r x. record { some = x.some; rec = x.rec; under = omega (arith, x.under); is = x.is }) h

  add_new : (k : ℕ) (l : List ℕ) → Counting f first k l → (f k ≡ 0 → ⊥) → has l (f k) ≡ false → Counting f first (suc k) (l ++ (f k ∷ []))
  add_new k l h z n = record {
    made = append_all (Made f (suc k)) l (f k ∷ []) (made_more k l h.made) (record { some = z; rec = k; under = omega arith; is = refl }, tt);
    each = λ i g x. elim (ℕ_discrete i k) [
      | yes e ↦ any_last (eqb (f i)) l (f k) (eq-eqb _ _ (ap f e))
      | no e ↦ any_left (eqb (f i)) l (f k ∷ []) (h.each i (omega arith) x)
    ];
    apart = distinct_last l (f k) h.apart (any_none (eqb (f k)) l n);
    low = λ i a b. elim (ℕ_discrete (suc i) k) [
      | yes e ↦
          let q : length l ≡ i = h.start (omega arith) ∙ omega arith in
          let s : get_or (l ++ (f k ∷ [])) (length l) 0 ≡ f k = get_or-append_seam l (f k) [] 0 in
          ap (λ (y : ℕ). get_or (l ++ (f k ∷ [])) y 0) (sym q) ∙ s ∙ self k (omega arith) ∙ sym e
      | no e ↦ let old = h.low i a (omega arith) in get_or-append l (f k ∷ []) 0 i (nonzero_in l i (λ x. omega arith)) ∙ old
    ];
    start = λ g.
        let q = h.start (omega arith) in
        let m = length-append l (f k ∷ []) in
        let nz : k ≡ 0 → ⊥ = λ e. z (self k g ∙ e) in
        omega arith;
  }

  -- a record below the first id is met for the first time
  not_yet : (k : ℕ) (l : List ℕ) → Counting f first k l → k < first → has l (f k) ≡ true → ⊥
  not_yet k l h g e =
      let p = place_in l (f k) e in
      let m = all_at (Made f k) l (place l (f k)) h.made p.0 in
      let a : f m.rec ≡ k = m.is ∙ p.1 ∙ self k g in
      let b = self m.rec (omega (arith, m.under)) in
      omega (arith, m.under)

  pub add_count : (k : ℕ) (l : List ℕ) → Counting f first k l → Counting f first (suc k) (add f k l)
  unfolding add once
  add_count k l h =
      if-ind (λ (x : List ℕ). Counting f first (suc k) x) (eqb (f k) 0)
      (λ e.
      let z : f k ≡ 0 = eqb-true _ _ e in
      record {
        made = made_more k l h.made;
        each = λ i g x. elim (ℕ_discrete i k) [ yes q ↦ absurd (x (ap f q ∙ z)) | no q ↦ h.each i (omega arith) x ];
        apart = h.apart;
        low = λ i a b. elim (ℕ_discrete (suc i) k) [ yes q ↦ absurd (let s = self k (omega arith) in omega arith) | no q ↦ h.low i a (omega arith) ];
        start = λ g. let s = self k g in let q = h.start (omega arith) in omega arith;
      })
      (λ e. if-ind (λ (x : List ℕ). Counting f first (suc k) x) (has l (f k))
      (λ y. record {
        made = made_more k l h.made;
        each = λ i g x. elim (ℕ_discrete i k) [ yes q ↦ rw q y | no q ↦ h.each i (omega arith) x ];
        apart = h.apart;
        low = λ i a b. elim (ℕ_discrete (suc i) k) [ yes q ↦ absurd (not_yet k l h (omega arith) y) | no q ↦ h.low i a (omega arith) ];
        start = λ g. absurd (not_yet k l h g y);
      })
      (λ y. add_new k l h (eqb-false _ _ e) y))

  pub counting : (k : ℕ) → Counting f first k (upto k (add f) [])
  counting k =
      upto-ind (Counting f first) (add f) [] k
      (record { made = tt; each = λ i g. absurd (omega arith); apart = tt; low = λ i a b. absurd (omega arith); start = λ g. omega arith })
      (λ j l _ h. add_count j l h)

  -- a last record whose id no other has
  pub add_last : (k : ℕ) → (f k ≡ 0 → ⊥) → ((i : ℕ) → i < k → f i ≡ f k → ⊥) → upto (suc k) (add f) [] ≡ upto k (add f) [] ++ (f k ∷ [])
  unfolding upto add once
  add_last k z n =
      let l = upto k (add f) [] in
      let h = counting k in
      if-ind (λ (x : List ℕ). x ≡ l ++ (f k ∷ [])) (eqb (f k) 0) (λ e. absurd (z (eqb-true _ _ e)))
      (λ _. if-ind (λ (x : List ℕ). x ≡ l ++ (f k ∷ [])) (has l (f k))
      (λ y.
      let p = place_in l (f k) y in
      let m = all_at (Made f k) l (place l (f k)) h.made p.0 in
      absurd (n m.rec m.under (m.is ∙ p.1)))
      (λ _. refl))
