-- The code's walk is the rule: with no room it counts the changes, with room for all it makes and lists them.
-- After k connections: those before k are mended, the others as they came, and the list begins with the changes so far (`Written`). Assumes nothing.
use Prim.Native.Nat.{ℕ, zero, suc, ◌+◌, ◌*◌, ◌/◌, ◌%◌, ◌≤◌, ◌<◌}
use native.Mathlib.Omega.{arith}
use native.Mathlib.Nat.{mod-lt, div-add-mod', le_refl}
use native.Mathlib.Numerals.{add-one}
use native.Mathlib.Decide.{ℕ_discrete, dec_lt}
use mathlib.Core.Path.{◌≡◌, refl, sym, ap, ◌∙◌}
use mathlib.Core.Bool.{Bool, true, false}
use mathlib.Core.List.{List, [], ◌∷◌, ◌++◌}
use lib.ListN.{length, get_or, set, drop, length-set, length-append}
use lib.Seq.{get_or-set_same, get_or-set_other}
use lib.Dec.{ltb}
use borrow.Author.Tests.{le-ltb, ltb-false}
use Rattle.rules.specs.Base.{when◌then◌else◌, tab}
use Rattle.rules.specs.Field.{Field, spans, con_of}
use Rattle.rules.specs.Mend.{stays, stays_at, mended_at, mended_con, relinked, changes_to, changed_to, changes_of, changed}
use Rattle.laws.proofs.Basics.{if-ind, upto-ind, tab-at, length-tab}
use Rattle.field.specs.Lent.{lent, Celled}
use Rattle.mend.specs.Walk.{State, state, ground, noted, step, walk}
use Rattle.mend.proofs.StepLaws.{span_of, way_of}
use Rattle.mend.proofs.WalkLaws.{celled_on}
use Rattle.mend.proofs.Keeping.{Loses, same, loses, decides_same}

-- ---------------------------------------------------------------- numbers of connections

pub place_is : (i : ℕ) → 4 * (i / 4) + i % 4 ≡ i
place_is i = omega (arith, div-add-mod' i 4)

pub way_in : (i : ℕ) → i % 4 < 4
way_in i = mod-lt i (omega arith)

pub span_in_lem : (i n : ℕ) → i < 4 * n → i / 4 < n
span_in_lem i n h = omega (arith, place_is i)

-- ---------------------------------------------------------------- counting

pub changed_rise : (F : Field) (i n : ℕ) → i ≤ n → changed_to F i ≤ changed_to F n
unfolding changed_to
changed_rise F i zero h = let e : i ≡ 0 = omega arith in rw e (le_refl 0)
changed_rise F i (suc n) h =
    elim (ℕ_discrete i (suc n)) [
      | yes e ↦ rw e (le_refl (changed_to F (suc n)))
      | no e ↦ let r = changed_rise F i n (omega arith) in if-ind (λ k. changed_to F i ≤ k) (stays_at F n) (λ _. r) (λ _. omega arith)
    ]

counts : (b : Bool) (cs ch : List ℕ) (n : ℕ) (x : State)
    → (when b then state cs ch n else when ltb n 0 then x else state cs ch (n + 1)) ≡ state cs ch (when b then n else suc n)
unfolding when◌then◌else◌
counts true cs ch n x = refl
counts false cs ch n x = rw (le-ltb n 0 (omega arith), add-one n)

module _ (w h : ℕ) (is ks ar cs ch : List ℕ) where
  pub walk_counts : (m : ℕ) → walk (ground w h is ks ar) 0 0 m (state cs ch 0) ≡ state cs ch (changed_to (lent w h is ks ar cs) m)
  unfolding walk changed_to step
  walk_counts m =
      upto-ind (λ k v. v ≡ state cs ch (changed_to (lent w h is ks ar cs) k)) (λ j. step (ground w h is ks ar) 0 (0 + j)) (state cs ch 0) m refl
      (λ k v _ e. let z : 0 + k ≡ k = omega arith in rw (e, z) (counts (stays_at (lent w h is ks ar cs) k) cs ch (changed_to (lent w h is ks ar cs) k) _))

-- ---------------------------------------------------------------- listing

more : (b : Bool) (l : List ℕ) (n : ℕ) (x : ℕ × ℕ × ℕ) → length l ≡ 3 * n
    → length (when b then l else l ++ (x.0 ∷ x.1 ∷ x.2 ∷ [])) ≡ 3 * (when b then n else suc n)
unfolding when◌then◌else◌
more true l n x e = e
more false l n x e = length-append l (x.0 ∷ x.1 ∷ x.2 ∷ []) ∙ omega arith

pub changes_length : (F : Field) (i : ℕ) → length (changes_to F i) ≡ 3 * changed_to F i
unfolding changes_to changed_to
changes_length F zero = refl
changes_length F (suc i) = more (stays_at F i) (changes_to F i) (changed_to F i) (i / 4, i % 4, get_or F.con i 255) (changes_length F i)

-- three stores past a list are the three numbers added to it
noted_past : (xs l : List ℕ) (m : ℕ) (s d old : ℕ) → length xs ≡ m → m + 2 < length l
    → set (set (set (xs ++ drop m l) m s) (m + 1) d) (m + 2) old ≡ (xs ++ (s ∷ d ∷ old ∷ [])) ++ drop (m + 3) l
noted_past [] [] m s d old e h = absurd (omega arith)
noted_past [] (a ∷ []) m s d old e h = absurd (omega arith)
noted_past [] (a ∷ b ∷ []) m s d old e h = absurd (omega arith)
noted_past [] (a ∷ b ∷ c ∷ l) zero s d old e h = refl
noted_past [] (a ∷ b ∷ c ∷ l) (suc m) s d old e h = absurd (omega arith)
noted_past (x ∷ xs) [] m s d old e h = absurd (omega arith)
noted_past (x ∷ xs) (y ∷ l) zero s d old e h = absurd (omega arith)
noted_past (x ∷ xs) (y ∷ l) (suc m) s d old e h =
    let p : suc m + 1 ≡ suc (m + 1) = omega arith in
    let q : suc m + 2 ≡ suc (m + 2) = omega arith in
    let r : suc m + 3 ≡ suc (m + 3) = omega arith in
    rw (p, q, r) (ap (λ (z : List ℕ). x ∷ z) (noted_past xs l m s d old (omega arith) (omega arith)))

-- ---------------------------------------------------------------- writing

-- v after the first k connections
record Written (F : Field) (ch : List ℕ) (k : ℕ) (v : State) : Type 0 where
  long : length v.con ≡ length F.con
  mended : (p : ℕ) → p < k → get_or v.con p 255 ≡ mended_at F p
  rest : (p : ℕ) → k ≤ p → get_or v.con p 255 ≡ get_or F.con p 255
  notes : v.changes ≡ changes_to F k ++ drop (3 * changed_to F k) ch
  found : v.found ≡ changed_to F k

-- a mended connection is the same, or none where it does not stay
pub mended_loses : (F : Field) (i : ℕ) → Loses F (i / 4) (i % 4) (mended_at F i)
unfolding mended_at stays_at con_of
mended_loses F i =
    if-ind (Loses F (i / 4) (i % 4)) (stays F (i / 4) (i % 4))
    (λ _. same (ap (λ (p : ℕ). get_or F.con p 255) (sym (place_is i))))
    (λ e. loses refl e)

module _ (F : Field) (ok : Celled F) (ch : List ℕ) (k : ℕ) (v : State) (g : Written F ch k v) where
  still : Celled (relinked F v.con)
  still = celled_on F.w F.h F.index F.count F.area F.con v.con ok g.long

  so_far : (t e : ℕ) → t < spans F → e < 4 → Loses F t e (con_of (relinked F v.con) t e)
  unfolding con_of
  so_far t e _ l =
      let p = span_of t e l in
      let q = way_of t e l in
      elim (dec_lt (4 * t + e) k) [
        | yes h ↦ rw (g.mended (4 * t + e) h) (rw (p, q) at (mended_loses F (4 * t + e)))
        | no h ↦ same (g.rest (4 * t + e) (omega arith))
      ]

  now_same : con_of (relinked F v.con) (k / 4) (k % 4) ≡ con_of F (k / 4) (k % 4)
  unfolding con_of
  now_same = rw (place_is k) (g.rest k (le_refl k))

  now_decides : k < 4 * spans F → stays_at (relinked F v.con) k ≡ stays_at F k
  unfolding stays_at
  now_decides h = decides_same F ok v.con still so_far (k / 4) (k % 4) (span_in_lem k (spans F) h) (way_in k) now_same

  -- it stays
  written_same : stays_at F k ≡ true → Written F ch (suc k) v
  unfolding changes_to changed_to mended_at when◌then◌else◌
  written_same e =
      record {
        long = g.long;
        mended = λ p h. elim (ℕ_discrete p k) [ yes z ↦ rw (z, e) (g.rest k (le_refl k)) | no z ↦ g.mended p (omega arith) ];
        rest = λ p h. g.rest p (omega arith);
        notes = rw e g.notes;
        found = rw e g.found;
      }

  -- it becomes none, and is listed
  module _ (h : k < 4 * spans F) (e : stays_at F k ≡ false) (room : 3 * changed_to F k + 2 < length ch) where
    made : State
    made = state (set v.con k 255) (noted v.changes v.found (k / 4) (k % 4) (get_or v.con k 255)) (v.found + 1)

    here : k < length v.con
    here = omega (arith, g.long, ok.linked)

    written_notes : noted v.changes v.found (k / 4) (k % 4) (get_or v.con k 255) ≡ changes_to F (suc k) ++ drop (3 * changed_to F (suc k)) ch
    unfolding changes_to changed_to noted when◌then◌else◌
    written_notes =
        let z : 3 * suc (changed_to F k) ≡ 3 * changed_to F k + 3 = omega arith in
        rw (e, z, g.notes, g.found, g.rest k (le_refl k))
        (noted_past (changes_to F k) ch (3 * changed_to F k) (k / 4) (k % 4) (get_or F.con k 255) (changes_length F k) room)

    written_made : Written F ch (suc k) made
    unfolding changed_to mended_at when◌then◌else◌ made
    written_made =
        record {
          long = rw length-set g.long;
          mended = λ p l.
              elim (ℕ_discrete p k) [
                | yes z ↦ rw (z, e) (get_or-set_same v.con k 255 255 here)
                | no z ↦ get_or-set_other v.con k p 255 255 z ∙ g.mended p (omega arith)
              ];
          rest = λ p l. get_or-set_other v.con k p 255 255 (λ z. omega arith) ∙ g.rest p (omega arith);
          notes = written_notes;
          found = rw (e, add-one) (ap suc g.found);
        }

-- ---------------------------------------------------------------- all of it

list_ext : (l m : List ℕ) → length l ≡ length m → ((p : ℕ) → p < length l → get_or l p 255 ≡ get_or m p 255) → l ≡ m
list_ext [] [] e f = refl
list_ext [] (y ∷ m) e f = absurd (omega arith)
list_ext (x ∷ l) [] e f = absurd (omega arith)
list_ext (x ∷ l) (y ∷ m) e f =
    let p : x ≡ y = f 0 (omega arith) in
    let q : l ≡ m = list_ext l m (omega arith) (λ i h. f (suc i) (omega arith)) in
    rw (p, q)

-- connections that are the mended ones, place by place
pub mended_is : (F : Field) (l : List ℕ) → length l ≡ 4 * spans F → ((p : ℕ) → p < 4 * spans F → get_or l p 255 ≡ mended_at F p) → l ≡ mended_con F
unfolding mended_con
mended_is F l e f =
    list_ext l (tab (4 * spans F) 0 (mended_at F)) (e ∙ sym (length-tab (4 * spans F) 0 (mended_at F)))
    (λ p h. let g : p < 4 * spans F = omega arith in
    f p g ∙ sym (tab-at (4 * spans F) 0 (mended_at F) p 255 g ∙ ap (mended_at F) (let z : 0 + p ≡ p = omega arith in z)))

changed_more : (F : Field) (k : ℕ) → stays_at F k ≡ false → changed_to F (suc k) ≡ suc (changed_to F k)
unfolding changed_to when◌then◌else◌
changed_more F k e = rw e

written-state : (F : Field) (ch : List ℕ) (k : ℕ) (v : State) → Written F ch k v → k ≡ 4 * spans F → length F.con ≡ 4 * spans F
    → v ≡ state (mended_con F) (changes_of F ++ drop (length (changes_of F)) ch) (changed F)
written-state F ch k v g e l =
    let p : v.con ≡ mended_con F = mended_is F v.con (g.long ∙ l) (λ i h. g.mended i (omega arith)) in
    let q : v.changes ≡ changes_of F ++ drop (length (changes_of F)) ch = rw (changes_length F (4 * spans F), ← e) g.notes in
    let r : v.found ≡ changed F = rw (← e) g.found in
    rw (← p, ← q, ← r)

module _ (w h : ℕ) (is ks ar cs ch : List ℕ) (room : ℕ) (ok : Celled (lent w h is ks ar cs)) (some : changed (lent w h is ks ar cs) ≤ room)
    (places : 3 * room ≤ length ch) where
  step_writes : (k : ℕ) (v : State) → k < 4 * length ar → Written (lent w h is ks ar cs) ch k v
      → Written (lent w h is ks ar cs) ch (suc k) (step (ground w h is ks ar) room k v)
  unfolding step made
  step_writes k v l g =
      if-ind (Written (lent w h is ks ar cs) ch (suc k)) (stays_at (relinked (ground w h is ks ar) v.con) k)
      (λ e. written_same (lent w h is ks ar cs) ok ch k v g (sym (now_decides (lent w h is ks ar cs) ok ch k v g l) ∙ e))
      (λ e.
      let f : stays_at (lent w h is ks ar cs) k ≡ false = sym (now_decides (lent w h is ks ar cs) ok ch k v g l) ∙ e in
      let c : suc (changed_to (lent w h is ks ar cs) k) ≤ room =
      omega (arith, changed_more (lent w h is ks ar cs) k f, changed_rise (lent w h is ks ar cs) (suc k) (4 * length ar) (omega arith)) in
      if-ind (Written (lent w h is ks ar cs) ch (suc k)) (ltb v.found room)
      (λ _. written_made (lent w h is ks ar cs) ok ch k v g l f (omega arith))
      (λ z. absurd (omega (arith, ltb-false v.found room z, g.found))))

  pub walk_writes : walk (ground w h is ks ar) room 0 (4 * length ar) (state cs ch 0)
      ≡ state (mended_con (lent w h is ks ar cs)) (changes_of (lent w h is ks ar cs) ++ drop (length (changes_of (lent w h is ks ar cs))) ch)
      (changed (lent w h is ks ar cs))
  unfolding walk changes_to changed_to
  walk_writes =
      written-state (lent w h is ks ar cs) ch (4 * length ar) _
      (upto-ind (Written (lent w h is ks ar cs) ch) (λ j. step (ground w h is ks ar) room (0 + j)) (state cs ch 0) (4 * length ar)
      (record { long = refl; mended = λ p z. absurd (omega arith); rest = λ p z. refl; notes = refl; found = refl })
      (λ k v l g. let z : 0 + k ≡ k = omega arith in rw z (step_writes k v l g)))
      refl ok.linked
