-- One span's id by way of the kind 7 records: the halving, the numbers, and one stretch.
-- The halving's fuel is never seen: it is no less than the stretches that are left. Assumes nothing.
use Prim.Native.Nat.{ℕ, zero, suc, min, ◌+◌, ◌*◌, ◌-◌, ◌/◌, ◌%◌, ◌≤◌, ◌<◌}
use native.Mathlib.Omega.{arith}
use mathlib.Core.Path.{◌≡◌, refl, sym, ap, subst, ◌∙◌}
use mathlib.Core.Bool.{Bool, true, false}
use mathlib.Core.List.{List}
use lib.ListN.{length, get_or, drop}
use lib.Dec.{eqb, ltb}
use borrow.Author.Tests.{eq-eqb, ne_eqb, lt-ltb, le-ltb, le-leb, lt-leb, ltb-true, ltb-false}
use Rattle.rules.specs.Base.{when◌then◌else◌}
use Rattle.rules.specs.File.{word}
use Rattle.rules.specs.Stored.{IdOutcome, four_of, marks_in, mark_at, halving, chosen, spans_before, within, id_at, id_whole, read_refusal, new_fine, new_runs, seek}
use Rattle.laws.proofs.Basics.{if-ind}
use Rattle.std.specs.Prelude.{Result, Ok, Err}
use Rattle.stored.specs.Records.{long_word, spans_after}
use Rattle.stored.specs.Answer.{stored_number, checked_number, CheckedAs}
use Rattle.stored.specs.declared.StoredRefusal.{StoredRefusal}
use Rattle.stored.proofs.Places.{drop-last}
use Rattle.stored.proofs.NewPlaces.{drop_record}
use Rattle.stored.proofs.Ends.{number_some}
use Rattle.stored.specs.Ids.{holds, is_run, ends_at}

pub mark_is : (l : List ℕ) (k r : ℕ) → r ≡ long_word l (325 * k + 321) → r ≡ mark_at l k
unfolding long_word word mark_at four_of
mark_is l k r e =
    let a : 325 * k + 321 + 1 ≡ 325 * k + 322 = omega arith in
    let b : 325 * k + 321 + 2 ≡ 325 * k + 323 = omega arith in
    let c : 325 * k + 323 + 1 ≡ 325 * k + 324 = omega arith in
    e ∙ rw (a, b, c) (omega arith)

pub marks_least : (l : List ℕ) (r : ℕ) → r ≡ min 4294967295 (length l / 325) → r ≡ marks_in l
unfolding marks_in
marks_least l r e = if-ind (λ z. r ≡ z) (ltb 4294967295 (length l / 325)) (λ p. omega (arith, ltb-true 4294967295 (length l / 325) p)) (λ p. omega (arith, ltb-false 4294967295 (length l / 325) p))

pub record Halves (l : List ℕ) (span lo hi : ℕ) : Type 0 where
  pub fuel : ℕ
  pub enough : hi ≤ lo + fuel
  pub same : chosen l span ≡ halving fuel l span lo hi
  pub within : (lo ≤ hi) × (hi ≤ length l / 325) × (hi ≤ 4294967295)

pub halves-first : (l : List ℕ) (span hi : ℕ) → hi ≡ marks_in l → hi ≤ length l / 325 → hi ≤ 4294967295 → Halves l span 0 hi
unfolding chosen
halves-first l span hi e h g = record {
  fuel = marks_in l;
  enough = omega arith;
  same = ap (λ z. halving (marks_in l) l span 0 z) (sym e);
  within = (omega arith, h, g);
}

halving_up : (k : ℕ) (l : List ℕ) (span lo hi : ℕ) → lo < hi → mark_at l ((lo + hi) / 2) ≤ span → halving (suc k) l span lo hi ≡ halving k l span (suc ((lo + hi) / 2)) hi
unfolding halving when◌then◌else◌
halving_up k l span lo hi h g = rw (lt-ltb lo hi h, le-leb (mark_at l ((lo + hi) / 2)) span g)

halving_down : (k : ℕ) (l : List ℕ) (span lo hi : ℕ) → lo < hi → span < mark_at l ((lo + hi) / 2) → halving (suc k) l span lo hi ≡ halving k l span lo ((lo + hi) / 2)
unfolding halving when◌then◌else◌
halving_down k l span lo hi h g = rw (lt-ltb lo hi h, lt-leb (mark_at l ((lo + hi) / 2)) span g)

halving_stop : (k : ℕ) (l : List ℕ) (span lo hi : ℕ) → hi ≤ lo → halving k l span lo hi ≡ lo
unfolding halving when◌then◌else◌
halving_stop zero l span lo hi h = refl
halving_stop (suc k) l span lo hi h = rw (le-ltb lo hi h)

one_less : (k : ℕ) → 0 < k → k ≡ suc (k - 1)
one_less k h = omega arith

module _ (l : List ℕ) (span lo hi n : ℕ) (w : Halves l span lo hi) (h : lo < hi) (e : n ≡ mark_at l ((lo + hi) / 2)) where
  spent : w.fuel ≡ suc (w.fuel - 1)
  spent = one_less w.fuel (omega (arith, w.enough))

  -- a look takes the lower half, or the upper
  pub halves_up : n ≤ span → Halves l span ((lo + hi) / 2 + 1) hi
  halves_up g =
      let s : suc ((lo + hi) / 2) ≡ (lo + hi) / 2 + 1 = omega arith in
      record {
        fuel = w.fuel - 1;
        enough = omega (arith, w.enough);
        same = w.same ∙ ap (λ z. halving z l span lo hi) spent ∙ halving_up (w.fuel - 1) l span lo hi h (omega (arith, e)) ∙ ap (λ z. halving (w.fuel - 1) l span z hi) s;
        within = (omega arith, w.within.1, w.within.2);
      }

  pub halves_down : span < n → Halves l span lo ((lo + hi) / 2)
  halves_down g = record {
    fuel = w.fuel - 1;
    enough = omega (arith, w.enough);
    same = w.same ∙ ap (λ z. halving z l span lo hi) spent ∙ halving_down (w.fuel - 1) l span lo hi h (omega (arith, e));
    within = (omega arith, omega (arith, w.within.1), omega (arith, w.within.2));
  }

pub halves_done : (l : List ℕ) (span lo hi : ℕ) → Halves l span lo hi → hi ≤ lo → lo ≡ chosen l span
halves_done l span lo hi w h = sym (w.same ∙ halving_stop w.fuel l span lo hi h)

pub before_none : (l : List ℕ) (p : ℕ) → p ≡ 0 → 0 ≡ spans_before l p
unfolding spans_before
before_none l p e = sym (ap (spans_before l) e)

before_suc : (l : List ℕ) (k : ℕ) → spans_before l (suc k) ≡ mark_at l k
unfolding spans_before
before_suc l k = refl

pub before_mark : (l : List ℕ) (p r : ℕ) → (p ≡ 0 → ⊥) → r ≡ mark_at l (p - 1) → r ≡ spans_before l p
before_mark l p r n e = e ∙ sym (before_suc l (p - 1)) ∙ ap (spans_before l) (sym (one_less p (omega arith)))

-- ---------------------------------------------------------------- one stretch

abbrev pub outcome : ℕ → ℕ → ℕ → IdOutcome
outcome r id p = record { refused = r; id = id; stretch = p }

ends_beyond : (l : List ℕ) (i p : ℕ) → get_or l i 0 ≡ 4 → outcome 26 0 p ≡ ends_at l i p
unfolding ends_at when◌then◌else◌
ends_beyond l i p e = rw (eq-eqb (get_or l i 0) 4 e)

ends_malformed : (l : List ℕ) (i p : ℕ) → (get_or l i 0 ≡ 4 → ⊥) → outcome 22 0 p ≡ ends_at l i p
unfolding ends_at when◌then◌else◌
ends_malformed l i p e = rw (ne_eqb (get_or l i 0) 4 e)

holds_is : (l : List ℕ) (i s span : ℕ) → holds l i 0 s span ≡ ltb span (s + word l (i + 3))
unfolding holds when◌then◌else◌
holds_is l i s span = refl

after_is : (l : List ℕ) (i s : ℕ) → spans_after l i 0 s ≡ s + word l (i + 3)
unfolding spans_after when◌then◌else◌
after_is l i s = refl

-- one record of a stretch
module _ (l : List ℕ) (p c j s span : ℕ) (o : length l % 5 ≡ 1) (h : j < length l / 5) where
  stretch_next : within p (suc c) (drop (5 * j) l) s span
      ≡ (when is_run l (5 * j) then (when ltb span (s + word l (5 * j + 3)) then outcome 0 (word l (5 * j + 1)) p else within p c (drop (5 * (j + 1)) l) (s + word l (5 * j + 3)) span) else outcome 22 0 p)
  unfolding within is_run word
  stretch_next = ap (λ z. within p (suc c) z s span) (drop_record l j o h)

pub record Within (l : List ℕ) (p before span left j s : ℕ) : Type 0 where
  pub same : within p 64 (drop (325 * p) l) before span ≡ within p left (drop (5 * j) l) s span
  pub place : j ≤ length l / 5
  pub most : left ≤ 64
  pub few : s ≤ 4294967295 + 65535 * (64 - left)

pub within_first : (l : List ℕ) (p before span : ℕ) → p ≤ length l / 325 → before ≤ 4294967295 → Within l p before span (65 * p + 64 - 65 * p) (65 * p) before
within_first l p before span h g =
    let e : 325 * p ≡ 5 * (65 * p) = omega arith in
    let f : 64 ≡ 65 * p + 64 - 65 * p = omega arith in
    subst (λ z. Within l p before span z (65 * p) before) f
    (record { same = ap (λ z. within p 64 (drop z l) before span) e; place = omega arith; most = omega arith; few = omega arith })

module _ (l : List ℕ) (p before span left j s : ℕ) (w : Within l p before span left j s) (o : length l % 5 ≡ 1) (g : 0 < left) where
  whole : within p 64 (drop (325 * p) l) before span ≡ within p (suc (left - 1)) (drop (5 * j) l) s span
  whole = w.same ∙ ap (λ z. within p z (drop (5 * j) l) s span) (one_less left g)

  within_end : (r : IdOutcome) → j ≡ length l / 5 → r ≡ ends_at l (5 * j) p → r ≡ within p 64 (drop (325 * p) l) before span
  unfolding within ends_at
  within_end r e f = f ∙ sym (whole ∙ ap (λ z. within p (suc (left - 1)) z s span) (drop-last l (5 * j) (omega arith)))

  pub within_beyond : j ≡ length l / 5 → get_or l (5 * j) 0 ≡ 4 → outcome 26 0 p ≡ within p 64 (drop (325 * p) l) before span
  within_beyond e f = within_end (outcome 26 0 p) e (ends_beyond l (5 * j) p f)

  pub within_cut : j ≡ length l / 5 → (get_or l (5 * j) 0 ≡ 4 → ⊥) → outcome 22 0 p ≡ within p 64 (drop (325 * p) l) before span
  within_cut e f = within_end (outcome 22 0 p) e (ends_malformed l (5 * j) p f)

  module _ (n : j ≡ length l / 5 → ⊥) where
    before_end : j < length l / 5
    before_end = omega (arith, w.place)

    pub within-other : (b : Bool) → b ≡ is_run l (5 * j) → b ≡ false → outcome 22 0 p ≡ within p 64 (drop (325 * p) l) before span
    unfolding when◌then◌else◌
    within-other b e f =
        sym (whole ∙ stretch_next l p (left - 1) j s span o before_end
        ∙ ap (λ z. when z then (when ltb span (s + word l (5 * j + 3)) then outcome 0 (word l (5 * j + 1)) p else within p (left - 1) (drop (5 * (j + 1)) l) (s + word l (5 * j + 3)) span) else outcome 22 0 p) (sym e ∙ f))

    module _ (b : Bool) (e : b ≡ is_run l (5 * j)) (f : b ≡ true) (d : Bool) (k : d ≡ holds l (5 * j) 0 s span) where
      run_here : within p 64 (drop (325 * p) l) before span ≡ (when d then outcome 0 (word l (5 * j + 1)) p else within p (left - 1) (drop (5 * (j + 1)) l) (s + word l (5 * j + 3)) span)
      unfolding when◌then◌else◌
      run_here =
          whole ∙ stretch_next l p (left - 1) j s span o before_end
          ∙ ap (λ z. when z then (when ltb span (s + word l (5 * j + 3)) then outcome 0 (word l (5 * j + 1)) p else within p (left - 1) (drop (5 * (j + 1)) l) (s + word l (5 * j + 3)) span) else outcome 22 0 p) (sym e ∙ f)
          ∙ ap (λ z. when z then outcome 0 (word l (5 * j + 1)) p else within p (left - 1) (drop (5 * (j + 1)) l) (s + word l (5 * j + 3)) span) (sym (holds_is l (5 * j) s span) ∙ sym k)

      pub within_found : (x : ℕ) → d ≡ true → x ≡ word l (5 * j + 1) → outcome 0 x p ≡ within p 64 (drop (325 * p) l) before span
      unfolding when◌then◌else◌
      within_found x q v = ap (λ z. outcome 0 z p) v ∙ sym (run_here ∙ ap (λ z. when z then outcome 0 (word l (5 * j + 1)) p else within p (left - 1) (drop (5 * (j + 1)) l) (s + word l (5 * j + 3)) span) q)

      within_next : (r : ℕ) → d ≡ false → r ≡ spans_after l (5 * j) 0 s → r ≤ s + 65535 → Within l p before span (left - 1) (j + 1) r
      unfolding when◌then◌else◌
      within_next r q v u = record {
        same = run_here ∙ ap (λ z. when z then outcome 0 (word l (5 * j + 1)) p else within p (left - 1) (drop (5 * (j + 1)) l) (s + word l (5 * j + 3)) span) q
            ∙ ap (λ z. within p (left - 1) (drop (5 * (j + 1)) l) z span) (sym (after_is l (5 * j) s) ∙ sym v);
        place = let b = before_end in omega arith;
        most = omega (arith, w.most);
        few = omega (arith, w.few, w.most);
      }

-- the next record, by its number
pub within_on : (l : List ℕ) (p before span j s r : ℕ) (b d : Bool) → Within l p before span (65 * p + 64 - j) j s → length l % 5 ≡ 1 → j < 65 * p + 64 → (j ≡ length l / 5 → ⊥) → b ≡ is_run l (5 * j) → b ≡ true
    → d ≡ holds l (5 * j) 0 s span → d ≡ false → r ≡ spans_after l (5 * j) 0 s → r ≤ s + 65535 → Within l p before span (65 * p + 64 - (j + 1)) (j + 1) r
within_on l p before span j s r b d w o g n e f k q v u =
    let x : 65 * p + 64 - j - 1 ≡ 65 * p + 64 - (j + 1) = omega arith in
    subst (λ z. Within l p before span z (j + 1) r) x (within_next l p before span (65 * p + 64 - j) j s w o (omega arith) n b e f d k r q v u)

pub within-wrong : (l : List ℕ) (p before span left j s : ℕ) → Within l p before span left j s → left ≤ 0 → outcome 25 0 p ≡ within p 64 (drop (325 * p) l) before span
unfolding within
within-wrong l p before span left j s w h =
    let z : left ≡ 0 = omega arith in
    sym (w.same ∙ ap (λ c. within p c (drop (5 * j) l) s span) z)

-- ---------------------------------------------------------------- the entry

pub id_odd : (l : List ℕ) (span : ℕ) → (length l % 5 ≡ 1 → ⊥) → outcome 22 0 0 ≡ id_at l span
unfolding id_at when◌then◌else◌
id_odd l span n = rw (ne_eqb (length l % 5) 1 n)

pub id_read : (l : List ℕ) (span p before : ℕ) (r : IdOutcome) → length l % 5 ≡ 1 → p ≡ chosen l span → before ≡ spans_before l p → r ≡ within p 64 (drop (325 * p) l) before span → r ≡ id_at l span
unfolding id_at when◌then◌else◌
id_read l span p before r o e f g =
    rw (eq-eqb (length l % 5) 1 o) (g ∙ ap (λ z. within p 64 (drop (325 * p) l) z span) f ∙ ap (λ z. within z 64 (drop (325 * z) l) (spans_before l z) span) e)

pub whole_refused : (l : List ℕ) (span : ℕ) (c : Result Unit StoredRefusal) (x : StoredRefusal) → CheckedAs l c → c ≡ Err x → outcome (stored_number x) 0 0 ≡ id_whole l span
unfolding id_whole when◌then◌else◌
whole_refused l span c x p e =
    let q : read_refusal l ≡ stored_number x = sym (ap checked_number (sym e) ∙ p.refusal) in
    let n : eqb (read_refusal l) 0 ≡ false = ne_eqb (read_refusal l) 0 (λ z. number_some x (sym q ∙ z)) in
    rw n (ap (λ z. outcome z 0 0) (sym q))

pub whole_found : (l : List ℕ) (span : ℕ) (c : Result Unit StoredRefusal) (r : IdOutcome) → CheckedAs l c → c ≡ Ok tt → r ≡ seek 0 0 0 (new_runs l) span → r ≡ id_whole l span
unfolding id_whole when◌then◌else◌
whole_found l span c r p e f =
    let q : read_refusal l ≡ 0 = sym p.refusal ∙ ap checked_number e in
    let n : eqb (read_refusal l) 0 ≡ true = eq-eqb (read_refusal l) 0 q in
    rw n f

pub whole_fine : (l : List ℕ) (c : Result Unit StoredRefusal) → CheckedAs l c → c ≡ Ok tt → new_fine l ≡ true
whole_fine l c p e = p.fine (sym p.refusal ∙ ap checked_number e)
