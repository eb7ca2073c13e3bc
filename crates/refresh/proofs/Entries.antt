-- The entries' ways out are the cases of their outcomes. What is redone first, whatever it comes to, and then until a row comes out as stored, is what the
-- rule redoes; the rows of the blurred list that were used for comparing are blurred again.
use Prim.Native.Nat.{ℕ, zero, suc, ◌+◌, ◌-◌, ◌≤◌, ◌<◌, min}
use native.Mathlib.Omega.{arith}
use native.Mathlib.Decide.{dec_lt, ℕ_discrete}
use Rattle.std.specs.Prelude.{Ok, Err}
use mathlib.Core.Path.{◌≡◌, refl, sym, ap, ◌∙◌}
use mathlib.Core.Logic.{◌⊎◌, inl, inr}
use mathlib.Core.Bool.{Bool, true, false}
use mathlib.Core.List.{List, [], ◌∷◌}
use lib.ListN.{length, get_or}
use lib.Seq.{ext_get_or}
use lib.Dec.{eqb, leb, ltb}
use borrow.Author.Tests.{eq-eqb, ne_eqb, lt-leb, lt-ltb, le-ltb, le-leb, ltb-false}
use mir.Val.{Fits}
use mir.Syntax.{w16, w64}
use Rattle.rules.specs.Base.{◌and◌, ◌or◌, when◌then◌else◌, upto, every, any}
use Rattle.rules.specs.Field.{Field, spans}
use Rattle.rules.specs.Refusals.{refusal, wrong_length}
use Rattle.rules.specs.Distance.{start, far, pass1, pass2, raw, greatest, blur_at, blur}
use Rattle.rules.specs.Rows.{downto, pass1_row, blur_to, blur_row}
use Rattle.rules.specs.Refresh.{Rect, Rows, no_rows, Redone, onward, backward, from_pass1, one_more, blur_rows, redone1, redone2, refreshed, wrong_rect, wrong_stored, refresh_refusal, RefreshOutcome, refresh_outcome, stages_outcome}
use Rattle.laws.proofs.Basics.{neither, upto-ind}
use Rattle.laws.proofs.Cells.{passed}
use Rattle.field.specs.Lent.{lent, Sound}
use Rattle.field.proofs.Passed.{sound_of, sound_reached}
use Rattle.checker.specs.Answer.{number_of}
use Rattle.checker.specs.declared.Refusal.{Refusal}
use Rattle.checker.proofs.Numbers.{number_pos}
use Rattle.distance.specs.Value.{Low}
use Rattle.distance.proofs.Walks.{raw-end}
use Rattle.door.specs.Edit.{row_of}
use Rattle.door.proofs.Accepted.{three_lengths, Accepted, accepted, rows_in}
use Rattle.door.proofs.Places.{row_in}
use Rattle.door.proofs.Agree.{blur_stores, up_size, up_keeps, blur_stored}
use Rattle.door.proofs.Held.{blur_rows-held}
use Rattle.refresh.specs.Part.{part_to}
use Rattle.refresh.specs.Redo.{redone, pass1_rows, pass2_rows, Kept, Passed}
use Rattle.refresh.specs.Answer.{rect, stages_given, refresh_number_of, refresh_given, odd_length, own_refusal, refusal_of}
use Rattle.refresh.specs.declared.RefreshRefusal.{RefreshRefusal}
use Rattle.refresh.specs.declared.RefreshRefusal.TheVariants as own
use Rattle.refresh.proofs.Turns.{whole_copied}

-- ---------------------------------------------------------------- three lengths as two

module _ (n a b : ℕ) where
  pub odd_same : a ≡ n → b ≡ odd_length n a b
  unfolding odd_length when◌then◌else◌
  odd_same e = rw (eq-eqb a n e)

  pub odd_other : (a ≡ n → ⊥) → a ≡ odd_length n a b
  unfolding odd_length when◌then◌else◌
  odd_other e = rw (ne_eqb a n e)

odd_lengths : (F : Field) (a b c : ℕ) → wrong_length F (odd_length (spans F) a b ∷ c ∷ []) ≡ wrong_length F (a ∷ b ∷ c ∷ [])
unfolding wrong_length every odd_length when◌then◌else◌ ◌and◌
odd_lengths F a b c =
    elim (ℕ_discrete a (spans F)) [
      | yes e ↦ rw (eq-eqb a (spans F) e)
      | no e ↦ rw (ne_eqb a (spans F) e) (rw (ne_eqb a (spans F) e))
    ]

pub three_checked : (w h : ℕ) (is ks ar cs : List ℕ) (a b c o n : ℕ) → o ≡ odd_length (length ar) a b → n ≡ refusal (lent w h is ks ar cs) (o ∷ c ∷ [])
    → n ≡ refusal (lent w h is ks ar cs) (a ∷ b ∷ c ∷ [])
unfolding refusal
three_checked w h is ks ar cs a b c o n e g = rw (← odd_lengths (lent w h is ks ar cs) a b c, ← e) g

-- ---------------------------------------------------------------- the build

pub low_room : (F : Field) (p : List ℕ) → Low F p → spans F ≤ length p
low_room F p v = omega (arith, v.size)

module _ (F : Field) (p l m : List ℕ) (v : Low F p) (nl : length l ≡ spans F) (e : m ≡ part_to p 0 (spans F) l) where
  same_list : m ≡ p
  same_list = e ∙ whole_copied p l (spans F) v.size nl

  pub whole_low : Low F m
  whole_low = rw same_list v

  pub whole_pass2 : (n : List ℕ) → n ≡ pass2 F m → n ≡ pass2 F p
  whole_pass2 n g = g ∙ ap (pass2 F) same_list

-- ---------------------------------------------------------------- rows whatever they come to, then rows until one comes out as stored

step_on : (F : Field) (z1 k y : ℕ) (l : List ℕ) → y ≤ z1 → onward F z1 (suc k) y l ≡ onward F z1 k (suc y) (pass1_row F y l)
unfolding onward when◌then◌else◌ ◌and◌
step_on F z1 k y l h = rw (lt-leb (z1 + 1) y (omega arith))

skip_on : (F : Field) (z1 y n k : ℕ) (l : List ℕ) → y + n ≤ z1 + 1 → onward F z1 (n + k) y l ≡ onward F z1 k (y + n) (upto n (λ i. pass1_row F (y + i)) l)
unfolding upto
skip_on F z1 y zero k l h = let q : 0 + k ≡ k = omega arith in let r : y + 0 ≡ y = omega arith in rw (q, r)
skip_on F z1 y (suc n) k l h =
    let q : suc n + k ≡ n + suc k = omega arith in
    let r : suc (y + n) ≡ y + suc n = omega arith in
    ap (λ (i : ℕ). onward F z1 i y l) q
    ∙ skip_on F z1 y n (suc k) l (omega arith)
    ∙ step_on F z1 k (y + n) (upto n (λ i. pass1_row F (y + i)) l) (omega arith)
    ∙ ap (λ (i : ℕ). onward F z1 k i (pass1_row F (y + n) (upto n (λ i. pass1_row F (y + i)) l))) r

pub onward_all : (w h : ℕ) (is ks ar cs : List ℕ) (z1 first : ℕ) (z : Redone) (l m : List ℕ) → first ≤ z1 → z1 < h → m ≡ pass1_rows (lent w h is ks ar cs) first (z1 + 1) l
    → z ≡ onward (lent w h is ks ar cs) z1 (h - (z1 + 1)) (z1 + 1) m → z ≡ onward (lent w h is ks ar cs) z1 (h - first) first l
unfolding pass1_rows
onward_all w h is ks ar cs z1 first z l m i j e g =
    let n = z1 + 1 - first in
    let q : h - first ≡ n + (h - (z1 + 1)) = omega arith in
    let r : first + n ≡ z1 + 1 = omega arith in
    g
    ∙ ap (onward (lent w h is ks ar cs) z1 (h - (z1 + 1)) (z1 + 1)) e
    ∙ ap (λ (y : ℕ). onward (lent w h is ks ar cs) z1 (h - (z1 + 1)) y (upto n (λ i. pass1_row (lent w h is ks ar cs) (first + i)) l)) (sym r)
    ∙ sym (ap (λ (k : ℕ). onward (lent w h is ks ar cs) z1 k first l) q ∙ skip_on (lent w h is ks ar cs) z1 first n (h - (z1 + 1)) l (omega arith))

step_back : (F : Field) (z0 : ℕ) (p : List ℕ) (y : ℕ) (l : List ℕ) → z0 ≤ y → 0 < z0 → backward F z0 p (suc y) l ≡ backward F z0 p y (from_pass1 F p y l)
unfolding backward when◌then◌else◌ ◌and◌
step_back F z0 p y l h g = rw (lt-leb y (z0 - 1) (omega arith))

skip_back : (F : Field) (z0 : ℕ) (p : List ℕ) (n : ℕ) (l : List ℕ) → 0 < z0 → backward F z0 p (z0 + n) l ≡ backward F z0 p z0 (downto n (λ i. from_pass1 F p (z0 + i)) l)
unfolding downto
skip_back F z0 p zero l h = let q : z0 + 0 ≡ z0 = omega arith in rw q
skip_back F z0 p (suc n) l h =
    let q : z0 + suc n ≡ suc (z0 + n) = omega arith in
    ap (λ (y : ℕ). backward F z0 p y l) q ∙ step_back F z0 p (z0 + n) l (omega arith) h ∙ skip_back F z0 p n (from_pass1 F p (z0 + n) l) h

pub backward_all : (F : Field) (p : List ℕ) (first last : ℕ) (z : Redone) (l m : List ℕ) → first ≤ last → m ≡ pass2_rows F p (first + 1) (last + 1) l
    → z ≡ backward F (first + 1) p (first + 1) m → z ≡ backward F (first + 1) p (last + 1) l
unfolding pass2_rows
backward_all F p first last z l m h e g =
    let n = last + 1 - (first + 1) in
    let q : last + 1 ≡ first + 1 + n = omega arith in
    g
    ∙ ap (backward F (first + 1) p (first + 1)) e
    ∙ sym (ap (λ (y : ℕ). backward F (first + 1) p y l) q ∙ skip_back F (first + 1) p n l (omega arith))

-- where the rectangle begins with row 0 or with row 1, pass 2 may stop with row 0
back_clipped : (F : Field) (z0 first : ℕ) (p : List ℕ) → first ≡ z0 - 1 → (y : ℕ) (l : List ℕ) → backward F (first + 1) p y l ≡ backward F z0 p y l
unfolding backward
back_clipped F z0 first p e zero l = refl
back_clipped F z0 first p e (suc y) l =
    let q : first + 1 - 1 ≡ z0 - 1 = omega arith in
    rw (q, back_clipped F z0 first p e y (from_pass1 F p y l))

-- both passes, as the code has them
pub passes_done : (w h : ℕ) (is ks ar cs : List ℕ) (z0 z1 first last top : ℕ) (p₀ r₀ b₀ p r k k' : List ℕ) → z0 ≤ z1 → first ≡ z0 - 1
    → redone p last ≡ onward (lent w h is ks ar cs) z1 (h - first) first p₀ → z1 ≤ last → last < h → Kept (lent w h is ks ar cs) (z1 + 1) (last + 1) b₀ k
    → redone r top ≡ backward (lent w h is ks ar cs) (first + 1) p (last + 1) r₀ → top ≤ first → Low (lent w h is ks ar cs) r → Kept (lent w h is ks ar cs) top (first + 1) k k'
    → Passed z0 z1 (lent w h is ks ar cs) p₀ r₀ b₀ p r k' first last top
passes_done w h is ks ar cs z0 z1 first last top p₀ r₀ b₀ p r k k' order e one past within u two back low v =
    record {
      begins = e;
      pass1 = one;
      pass2 = two;
      past = back;
      before = omega arith;
      within = within;
      size = low.size;
      kept = record {
        size = v.size ∙ u.size;
        held = λ s i c. elim c [
          | inl d ↦ v.held s i (inl d) ∙ u.held s i (inl (omega arith))
          | inr d ↦ v.held s i (inr (omega arith)) ∙ u.held s i (inr d)
        ];
      };
    }

-- ---------------------------------------------------------------- the blur forgets what its rows held

module _ (F : Field) (ok : Sound F) (r : List ℕ) where
  record Blurring (a k : ℕ) (m : List ℕ) : Type 0 where
    size : length m ≡ spans F
    done : (s : ℕ) → s < spans F → a ≤ row_of F s → row_of F s < a + k → far m s ≡ blur_at F r s

  blurred_at : (v : Rows) (l : List ℕ) → length l ≡ spans F → Blurring v.first (suc v.last - v.first) (blur_rows F r v l)
  unfolding blur_rows blur_row
  blurred_at v l n =
      upto-ind (Blurring v.first) (λ i. blur_row F r (v.first + i)) l (suc v.last - v.first) (record { size = n; done = λ s i c d. absurd (omega arith) })
      (λ k x h u.
      let y = v.first + k in
      record {
        size = up_size F (blur_to F r) (blur_stores F r) y x ∙ u.size;
        done = λ s i c d. elim (ℕ_discrete (row_of F s) y) [
          | yes e ↦ blur_stored F [] (passed F [] ok) r y x u.size s i e
          | no e ↦ up_keeps F (blur_to F r) (blur_stores F r) [] (passed F [] ok) y s x e ∙ u.done s i c (omega arith)
        ];
      })

  blur_forgets : (v : Rows) (l m : List ℕ) → length l ≡ spans F → length m ≡ spans F → ((s : ℕ) → s < spans F → (row_of F s < v.first) ⊎ (v.last < row_of F s) → far m s ≡ far l s)
      → blur_rows F r v m ≡ blur_rows F r v l
  blur_forgets v l m nl nm same =
      let o = passed F [] ok in
      let a = blurred_at v l nl in
      let b = blurred_at v m nm in
      ext_get_or 65535 (blur_rows F r v m) (blur_rows F r v l) (b.size ∙ sym a.size)
      (λ s h.
      let i : s < spans F = omega (arith, b.size) in
      let outside : (row_of F s < v.first) ⊎ (v.last < row_of F s) → far (blur_rows F r v m) s ≡ far (blur_rows F r v l) s = λ c.
      blur_rows-held F [] o r v m s c ∙ same s i c ∙ sym (blur_rows-held F [] o r v l s c) in
      elim (dec_lt (row_of F s) v.first) [
        | yes c ↦ outside (inl c)
        | no c ↦ elim (dec_lt v.last (row_of F s)) [
          | yes d ↦ outside (inr d)
          | no d ↦ b.done s i (omega arith) (omega arith) ∙ sym (a.done s i (omega arith) (omega arith))
        ]
      ])

-- ---------------------------------------------------------------- the refresh

-- the outcome of what was redone
abbrev made : Field → ℕ → Redone → Redone → List ℕ → RefreshOutcome
made F first p r b =
    record {
      refused = 0;
      most = greatest r.values;
      pass1_rows = record { first = first; last = p.end };
      pass2_rows = record { first = r.end; last = p.end };
      blur_rows = one_more F (record { first = r.end; last = p.end });
      pass1 = p.values;
      raw = r.values;
      blurred = blur_rows F r.values (one_more F (record { first = r.end; last = p.end })) b;
    }

refreshed_made : (F : Field) (q : Rect) (p₀ r₀ b₀ : List ℕ) → refreshed F q p₀ r₀ b₀ ≡ made F (q.z0 - 1) (redone1 F q p₀) (redone2 F q (redone1 F q p₀) r₀) b₀
unfolding refreshed
refreshed_made F q p₀ r₀ b₀ = refl

module _ (w h : ℕ) (is ks ar cs : List ℕ) (ok : Sound (lent w h is ks ar cs)) (z0 z1 first last top : ℕ) (p₀ r₀ b₀ p r k : List ℕ)
    (v : Passed z0 z1 (lent w h is ks ar cs) p₀ r₀ b₀ p r k first last top) where
  -- the rows fit 16 bits, and are rows of the field
  pub first_number : Fits w16 first
  first_number = omega (arith, v.before, v.within, (sound_reached (lent w h is ks ar cs) ok).celled.short)

  pub last_number : Fits w16 last
  last_number = omega (arith, v.within, (sound_reached (lent w h is ks ar cs) ok).celled.short)

  pub top_number : Fits w16 top
  top_number = omega (arith, v.past, first_number)

  pub next_number : Fits w64 (last + 1)
  next_number = omega (arith, last_number)

  pub raw_size : length r ≡ length ar
  raw_size = v.size

  pub kept_size : length b₀ ≡ length ar → length k ≡ length ar
  kept_size e = v.kept.size ∙ e

  module _ (low high : ℕ) (low_is : low ≡ top - 1) (high_is : high ≡ min (last + 1) (h - 1)) where
    pub low_number : Fits w16 low
    low_number = omega (arith, top_number)

    pub high_number : Fits w16 high
    high_number = omega (arith, v.within, (sound_reached (lent w h is ks ar cs) ok).celled.short)

    pub low_high : low ≤ high
    low_high = omega (arith, v.past, v.before, v.within)

    pub high_in : high < h
    high_in = omega (arith, v.within)

  module _ (low high m : ℕ) (b : List ℕ) (low_is : low ≡ top - 1) (high_is : high ≡ min (last + 1) (h - 1)) (size : length b₀ ≡ length ar)
      (blurs : b ≡ blur_rows (lent w h is ks ar cs) r (record { first = low; last = high }) k) (most : m ≡ greatest r) where
    first_pass : redone1 (lent w h is ks ar cs) (rect 0 z0 0 z1) p₀ ≡ redone p last
    unfolding redone1
    first_pass = rw (← v.begins) (sym v.pass1)

    second_pass : redone2 (lent w h is ks ar cs) (rect 0 z0 0 z1) (redone p last) r₀ ≡ redone r top
    unfolding redone2
    second_pass =
        let q : suc last ≡ last + 1 = omega arith in
        rw q (sym (back_clipped (lent w h is ks ar cs) z0 first p v.begins (last + 1) r₀) ∙ sym v.pass2)

    rows_again : one_more (lent w h is ks ar cs) (record { first = top; last = last }) ≡ record { first = low; last = high }
    unfolding one_more
    rows_again = rw (← low_is, ← high_is)

    blur-again : b ≡ blur_rows (lent w h is ks ar cs) r (one_more (lent w h is ks ar cs) (record { first = top; last = last })) b₀
    blur-again =
        rw rows_again
        (blurs ∙ blur_forgets (lent w h is ks ar cs) ok r (record { first = low; last = high }) b₀ k size (v.kept.size ∙ size)
        (λ s i c. elim c [
          | inl d ↦ v.kept.held s i (inl (omega arith))
          | inr d ↦
              let g : row_of (lent w h is ks ar cs) s < h = row_in (lent w h is ks ar cs) [] (passed (lent w h is ks ar cs) [] ok) s i in
              v.kept.held s i (inr (omega arith))
        ]))

    pub all_refreshed : refresh_given (Ok (record { max_distance = m; pass1_first = first; pass1_last = last; pass2_first = top; pass2_last = last; blur_first = low; blur_last = high })) p r b
        ≡ refreshed (lent w h is ks ar cs) (rect 0 z0 0 z1) p₀ r₀ b₀
    all_refreshed =
        sym
        (refreshed_made (lent w h is ks ar cs) (rect 0 z0 0 z1) p₀ r₀ b₀
        ∙ ap (λ (x : Redone). made (lent w h is ks ar cs) (z0 - 1) x (redone2 (lent w h is ks ar cs) (rect 0 z0 0 z1) x r₀) b₀) first_pass
        ∙ ap (λ (x : Redone). made (lent w h is ks ar cs) (z0 - 1) (redone p last) x b₀) second_pass
        ∙ rw (← blur-again, rows_again, ← v.begins, ← most))

-- ---------------------------------------------------------------- refusals 11 and 31

module _ (p r : List ℕ) where
  pub stored_1 : (c : Bool) → c ≡ any (ltb 510) p → c ≡ true → true ≡ wrong_stored p r
  unfolding wrong_stored ◌or◌
  stored_1 c e f = rw (← e, f)

  pub stored_2 : (c d : Bool) → c ≡ any (ltb 510) p → c ≡ false → d ≡ any (ltb 510) r → d ≡ wrong_stored p r
  unfolding wrong_stored ◌or◌
  stored_2 c d e f g = rw (← e, f) g

module _ (F : Field) (x0 z0 x1 z1 : ℕ) where
  pub rect_empty : (x1 < x0) ⊎ ((x0 ≤ x1) × (z1 < z0)) → true ≡ wrong_rect F (rect x0 z0 x1 z1)
  unfolding wrong_rect ◌or◌
  rect_empty (inl e) = rw (lt-ltb x1 x0 e)
  rect_empty (inr e) = rw (le-ltb x1 x0 e.0, lt-ltb z1 z0 e.1)

  module _ (e : x0 ≤ x1) (f : z0 ≤ z1) where
    pub rect_wide : F.w ≤ x1 → leb F.w x1 ≡ wrong_rect F (rect x0 z0 x1 z1)
    unfolding wrong_rect ◌or◌
    rect_wide g = rw (le-ltb x1 x0 e, le-ltb z1 z0 f, le-leb F.w x1 g)

    pub rect_deep : x1 < F.w → leb F.h z1 ≡ wrong_rect F (rect x0 z0 x1 z1)
    unfolding wrong_rect ◌or◌
    rect_deep g = rw (le-ltb x1 x0 e, le-ltb z1 z0 f, lt-leb F.w x1 g)

none_above : (k : ℕ) (l : List ℕ) → any (ltb k) l ≡ false → (i d : ℕ) → i < length l → get_or l i d ≤ k
unfolding any
none_above k [] e i d h = absurd (omega arith)
none_above k (x ∷ l) e zero d h = ltb-false k x (neither _ _ e).0
none_above k (x ∷ l) e (suc i) d h = none_above k l (neither _ _ e).1 i d (omega arith)

-- ---------------------------------------------------------------- the refresh's refusals

module _ (F : Field) (q : Rect) (p r : List ℕ) (own : ℕ) where
  pub check_refused : (c : Refusal) → number_of c ≡ refusal F (length p ∷ length r ∷ own ∷ []) → number_of c ≡ refusal_of F q p r own
  unfolding refusal_of when◌then◌else◌
  check_refused c n = rw (ne_eqb (refusal F (length p ∷ length r ∷ own ∷ [])) 0 (λ k. omega (arith, number_pos c))) n

  module _ (none : 0 ≡ refusal F (length p ∷ length r ∷ own ∷ [])) (t : Bool) (f : t ≡ wrong_rect F q) where
    pub check_11 : t ≡ true → 11 ≡ refusal_of F q p r own
    unfolding refusal_of own_refusal when◌then◌else◌
    check_11 z = rw (← none, ← f, z)

    module _ (z : t ≡ false) (u : Bool) (g : u ≡ wrong_stored p r) where
      pub check_31 : u ≡ true → 31 ≡ refusal_of F q p r own
      unfolding refusal_of own_refusal when◌then◌else◌
      check_31 y = rw (← none, ← f, z, ← g, y)

      pub check_0 : u ≡ false → 0 ≡ refusal_of F q p r own
      unfolding refusal_of own_refusal when◌then◌else◌
      check_0 y = rw (← none, ← f, z, ← g, y)

-- the number is the rule's
refusal_is : (F : Field) (q : Rect) (p r b : List ℕ) → refusal_of F q p r (length b) ≡ refresh_refusal F q p r b
unfolding refusal_of refresh_refusal own_refusal
refusal_is F q p r b = refl

-- ---------------------------------------------------------------- the entries' ways out

refused_with : (F : Field) (q : Rect) (p r b : List ℕ) (n : ℕ) → refresh_refusal F q p r b ≡ n → (n ≡ 0 → ⊥)
    → refresh_outcome F q p r b ≡ record { refused = n; most = 0; pass1_rows = no_rows; pass2_rows = no_rows; blur_rows = no_rows; pass1 = p; raw = r; blurred = b }
unfolding refresh_outcome when◌then◌else◌
refused_with F q p r b n e h = rw (e, ne_eqb n 0 h)

pub number_over : (k : RefreshRefusal) → 0 < refresh_number_of k
number_over (own.Field r) = number_pos r
number_over own.WrongRect = omega arith
number_over own.WrongStored = omega arith

pub out_refused : (F : Field) (q : Rect) (p r b : List ℕ) (k : RefreshRefusal) → refresh_number_of k ≡ refusal_of F q p r (length b) → refresh_given (Err k) p r b ≡ refresh_outcome F q p r b
out_refused F q p r b k e = sym (refused_with F q p r b (refresh_number_of k) (sym (e ∙ refusal_is F q p r b)) (λ z. omega (arith, number_over k)))

module _ (F : Field) (p r b : List ℕ) (x0 z0 x1 z1 : ℕ) (e : 0 ≡ refusal_of F (rect x0 z0 x1 z1) p r (length b)) where
  none : refresh_refusal F (rect x0 z0 x1 z1) p r b ≡ 0
  none = sym (e ∙ refusal_is F (rect x0 z0 x1 z1) p r b)

  fine_all : Accepted F (rect x0 z0 x1 z1) p r b
  fine_all = accepted F (rect x0 z0 x1 z1) p r b none

  three : (length p ≡ spans F) × (length r ≡ spans F) × (length b ≡ spans F)
  three = three_lengths F (length p) (length r) (length b) fine_all.field

  pub fine_sound : Sound F
  fine_sound = sound_of F (length p ∷ length r ∷ length b ∷ []) fine_all.field

  pub fine_rows : (z0 ≤ z1) × (z1 < F.h)
  fine_rows = rows_in F (rect x0 z0 x1 z1) fine_all.rect

  pub fine_low1 : Low F p
  unfolding wrong_stored
  fine_low1 = record { size = three.0; low = λ s i. none_above 510 p (neither _ _ fine_all.stored).0 s 65535 (omega (arith, three.0)) }

  pub fine_low2 : Low F r
  unfolding wrong_stored
  fine_low2 = record { size = three.1; low = λ s i. none_above 510 r (neither _ _ fine_all.stored).1 s 65535 (omega (arith, three.1)) }

  pub fine_blurred : length b ≡ spans F
  fine_blurred = three.2

  pub out_done : (o : RefreshOutcome) → o ≡ refreshed F (rect 0 z0 0 z1) p r b → o ≡ refresh_outcome F (rect x0 z0 x1 z1) p r b
  unfolding refresh_outcome when◌then◌else◌ refreshed redone1 redone2
  out_done o j = rw none j

pub stages_refused : (F : Field) (p r b : List ℕ) (c : Refusal) → number_of c ≡ refusal F (length p ∷ length r ∷ length b ∷ []) → stages_given (Err c) p r b ≡ stages_outcome F p r b
unfolding stages_outcome when◌then◌else◌
stages_refused F p r b c n =
    let f : eqb (refusal F (length p ∷ length r ∷ length b ∷ [])) 0 ≡ false = ne_eqb (refusal F (length p ∷ length r ∷ length b ∷ [])) 0 (λ k. omega (arith, number_pos c)) in
    rw (f, n)

module _ (F : Field) (p r b : List ℕ) (none : 0 ≡ refusal F (length p ∷ length r ∷ length b ∷ [])) where
  pub stages_sound : Sound F
  stages_sound = sound_of F (length p ∷ length r ∷ length b ∷ []) (sym none)

  pub stages_sizes : (length p ≡ spans F) × (length r ≡ spans F) × (length b ≡ spans F)
  stages_sizes = three_lengths F (length p) (length r) (length b) (sym none)

  pub stages_done : (p' r' b' : List ℕ) (m : ℕ) → p' ≡ pass1 F (start F) → r' ≡ pass2 F p' → b' ≡ blur F r' → m ≡ greatest r' → stages_given (Ok m) p' r' b' ≡ stages_outcome F p r b
  unfolding stages_outcome when◌then◌else◌
  stages_done p' r' b' m i j k l =
      let q : r' ≡ raw F = raw-end F p' r' i j in
      rw (sym none, l, k, q, i)
