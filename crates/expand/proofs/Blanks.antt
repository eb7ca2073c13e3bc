-- The last expansion's stack: what is stacked, with what is still to be looked at, is the rule's list of walkable spans of id 0 (`Filling`).
-- A span is stacked once, so the stack fits; and clearing it leaves zeros, as there were. Assumes nothing.
use mathlib.Core.Path.{◌≡◌, refl, sym, ap, ◌∙◌}
use mathlib.Core.Bool.{Bool, true, false}
use mathlib.Core.Logic.{⊎_elim, inr}
use mathlib.Core.List.{List, [], ◌∷◌, ◌++◌, append-nil}
use Prim.Native.Nat.{ℕ, suc, ◌+◌, ◌-◌, ◌*◌, ◌≤◌, ◌<◌}
use native.Mathlib.Omega.{arith}
use native.Mathlib.Numerals.{add-one}
use native.Mathlib.Decide.{ℕ_discrete, dec_lt}
use lib.ListN.{length, get_or, set, drop, length-set, length-drop}
use lib.Seq.{ext_get_or, get_or-drop, get_or-set_same, get_or-set_other, take-set-le}
use borrow.Author.Tests.{eq-eqb, ne_eqb}
use Rattle.rules.specs.Base.{◌and◌, when◌then◌else◌, tab, keep}
use Rattle.rules.specs.Growth.{walkable, Spread, expand, expand_strays, blank}
use Rattle.rules.specs.Reasons.{Story, expand_tells}
use Rattle.laws.proofs.Basics.{and_no, get_d_any}
use Rattle.space.specs.Space.{sec, Frame, Clear}
use Rattle.space.proofs.Laws.{cases, get_d_after}
use Rattle.net.specs.Table.{net_at, Mutual}
use Rattle.net.proofs.Tables.{net_same}
use Rattle.flood.specs.Stack.{marks_at}
use Rattle.expand.specs.Layout.{list_at, vacant, push_at, fill_at, Kept, Given, Filling, Last}
use Rattle.expand.proofs.Lists.{list_at_cong, list_at_snoc, list_at-sec, seam, marks_same}
use Rattle.expand.proofs.Ends.{sizes_kept}

-- ---------------------------------------------------------------- one span

module _ (ar ids : List ℕ) (s : ℕ) where
  shut : get_or ar s 256 ≡ 0 → vacant ar ids s ≡ false
  unfolding walkable ◌and◌
  shut e = rw (eq-eqb (get_or ar s 256) 0 e)

  held : (get_or ids s 0 ≡ 0 → ⊥) → vacant ar ids s ≡ false
  held e = rw (ne_eqb (get_or ids s 0) 0 e) (and_no (walkable ar s))

  is_vacant : (get_or ar s 256 ≡ 0 → ⊥) → get_or ids s 0 ≡ 0 → vacant ar ids s ≡ true
  unfolding walkable ◌and◌
  is_vacant e z = rw (ne_eqb (get_or ar s 256) 0 e, eq-eqb (get_or ids s 0) 0 z)

  module _ (i fill : ℕ) (ws : List ℕ) where
    push_yes : vacant ar ids s ≡ true → push_at ar ids s i ws ≡ set ws i s
    unfolding push_at when◌then◌else◌
    push_yes z = rw z

    push_no : vacant ar ids s ≡ false → push_at ar ids s i ws ≡ ws
    unfolding push_at when◌then◌else◌
    push_no z = rw z

    fill_yes : vacant ar ids s ≡ true → fill_at ar ids s fill ≡ fill + 1
    unfolding fill_at when◌then◌else◌
    fill_yes z = rw z

    fill_no : vacant ar ids s ≡ false → fill_at ar ids s fill ≡ fill
    unfolding fill_at when◌then◌else◌
    fill_no z = rw z

-- as the code has it: a the area and r the id, as read
module _ (ar ids ws : List ℕ) (s fill a : ℕ) (h : s < length ar) (q : a ≡ get_or ar s 0) where
  own : get_or ar s 256 ≡ a
  own = get_d_any ar s 256 0 h ∙ sym q

  pub push_shut : a ≡ 0 → ws ≡ push_at ar ids s (length ar + fill) ws
  push_shut z = sym (push_no ar ids s (length ar + fill) fill ws (shut ar ids s (own ∙ z)))

  pub fill_shut : a ≡ 0 → fill ≡ fill_at ar ids s fill
  fill_shut z = sym (fill_no ar ids s (length ar + fill) fill ws (shut ar ids s (own ∙ z)))

  module _ (r : ℕ) (o : r ≡ get_or ids s 0) where
    pub push_held : (r ≡ 0 → ⊥) → ws ≡ push_at ar ids s (length ar + fill) ws
    push_held z = sym (push_no ar ids s (length ar + fill) fill ws (held ar ids s (λ e. z (o ∙ e))))

    pub fill-held : (r ≡ 0 → ⊥) → fill ≡ fill_at ar ids s fill
    fill-held z = sym (fill_no ar ids s (length ar + fill) fill ws (held ar ids s (λ e. z (o ∙ e))))

    module _ (y : a ≡ 0 → ⊥) (z : r ≡ 0) where
      found : vacant ar ids s ≡ true
      found = is_vacant ar ids s (λ e. y (sym own ∙ e)) (sym o ∙ z)

      pub push_vacant : set ws (length ar + fill) s ≡ push_at ar ids s (length ar + fill) ws
      push_vacant = sym (push_yes ar ids s (length ar + fill) fill ws found)

      pub fill-vacant : fill + 1 ≡ fill_at ar ids s fill
      fill-vacant = sym (fill_yes ar ids s (length ar + fill) fill ws found)

-- ---------------------------------------------------------------- all spans

tab_next : (n s : ℕ) → s < n → tab (n - s) s (λ (x : ℕ). x) ≡ s ∷ tab (n - (s + 1)) (s + 1) (λ (x : ℕ). x)
unfolding tab
tab_next n s h =
    let e : n - s ≡ suc (n - (s + 1)) = omega arith in
    rw (e, add-one s)

keep_yes : (p : ℕ → Bool) (x : ℕ) (l : List ℕ) → p x ≡ true → keep p (x ∷ l) ≡ x ∷ keep p l
unfolding keep when◌then◌else◌
keep_yes p x l z = rw z

keep_no : (p : ℕ → Bool) (x : ℕ) (l : List ℕ) → p x ≡ false → keep p (x ∷ l) ≡ keep p l
unfolding keep when◌then◌else◌
keep_no p x l z = rw z

module _ (n : ℕ) (ar ids ws₀ : List ℕ) where
  filling_begins : Filling n ar ids ws₀ ws₀ 0 0
  unfolding list_at
  filling_begins = let e : n - 0 ≡ n = omega arith in record { within = omega arith; few = omega arith; size = refl; marks = refl; stack = rw e; spans = λ j h. absurd (omega arith); unseen = λ x l. refl }

  module _ (ws : List ℕ) (s fill : ℕ) (v : Filling n ar ids ws₀ ws s fill) (h : s < n) where
    filling_skip : vacant ar ids s ≡ false → Filling n ar ids ws₀ ws (s + 1) fill
    filling_skip z = record {
      within = omega arith;
      few = omega (arith, v.few);
      size = v.size;
      marks = v.marks;
      stack = rw (tab_next n s h, keep_no (λ x. vacant ar ids x) s (tab (n - (s + 1)) (s + 1) (λ (x : ℕ). x)) z) at v.stack;
      spans = v.spans;
      unseen = v.unseen;
    }

    filling_push : 2 * n ≤ length ws → vacant ar ids s ≡ true → Filling n ar ids ws₀ (set ws (n + fill) s) (s + 1) (fill + 1)
    filling_push r z =
        let W = set ws (n + fill) s in
        let i : n + fill < length ws = omega (arith, v.few) in
        let b : list_at W n (fill + 1) ≡ list_at ws n fill ++ (s ∷ [])
        = list_at_snoc W n fill ∙ rw (list_at_cong ws W n fill (λ x l u. get_or-set_other ws (n + fill) x s 0 (λ g. omega arith)), get_or-set_same ws (n + fill) s 0 i) in
        record {
          within = omega arith;
          few = omega (arith, v.few);
          size = length-set ws (n + fill) s ∙ v.size;
          marks = take-set-le n ws (n + fill) s (omega arith) ∙ v.marks;
          stack = rw (tab_next n s h, keep_yes (λ x. vacant ar ids x) s (tab (n - (s + 1)) (s + 1) (λ (x : ℕ). x)) z) at v.stack
              ∙ seam (list_at ws n fill) s (keep (λ x. vacant ar ids x) (tab (n - (s + 1)) (s + 1) (λ (x : ℕ). x))) ∙ rw b;
          spans = λ j l. elim (ℕ_discrete j fill) [
            | yes g ↦ rw (g, get_or-set_same ws (n + fill) s 0 i) h
            | no g ↦ rw (get_or-set_other ws (n + fill) (n + j) s 0 (λ y. omega arith)) (v.spans j (omega arith))
          ];
          unseen = λ x l. get_or-set_other ws (n + fill) x s 0 (λ g. omega arith) ∙ v.unseen x (omega arith);
        }

    filling_step : 2 * n ≤ length ws₀ → (ws' : List ℕ) (fill' : ℕ) → ws' ≡ push_at ar ids s (n + fill) ws → fill' ≡ fill_at ar ids s fill → Filling n ar ids ws₀ ws' (s + 1) fill'
    filling_step r ws' fill' a b =
        ⊎_elim
        (λ (y : vacant ar ids s ≡ true). rw (a ∙ push_yes ar ids s (n + fill) fill ws y, b ∙ fill_yes ar ids s (n + fill) fill ws y) (filling_push (omega (arith, v.size)) y))
        (λ (y : vacant ar ids s ≡ false). rw (a ∙ push_no ar ids s (n + fill) fill ws y, b ∙ fill_no ar ids s (n + fill) fill ws y) (filling_skip y))
        (cases (vacant ar ids s))

-- as the loop asks
module _ (ar ids ws₀ : List ℕ) where
  pub filling_start : Filling (length ar) ar ids ws₀ ws₀ 0 0
  filling_start = filling_begins (length ar) ar ids ws₀

  module _ (ws : List ℕ) (s fill : ℕ) (v : Filling (length ar) ar ids ws₀ ws s fill) where
    pub filling_room : 2 * length ar ≤ length ws₀ → 2 * length ar ≤ length ws
    filling_room h = omega (arith, v.size)

    pub filling_next : s < length ar → 2 * length ar ≤ length ws₀ → (ws' : List ℕ) (fill' : ℕ) → ws' ≡ push_at ar ids s (length ar + fill) ws → fill' ≡ fill_at ar ids s fill
        → Filling (length ar) ar ids ws₀ ws' (s + 1) fill'
    filling_next h r ws' fill' a b = filling_step (length ar) ar ids ws₀ ws s fill v h r ws' fill' a b

    pub filling_end : length ar ≤ s → Filling (length ar) ar ids ws₀ ws (length ar) fill
    filling_end h = let e : s ≡ length ar = omega (arith, v.within) in rw e at v

-- ---------------------------------------------------------------- the whole

module _ (ar : List ℕ) (e b : ℕ) (ids ws ws₁ : List ℕ) (fill : ℕ) (v : Filling (length ar) ar ids ws ws₁ (length ar) fill) where
  filled_list : list_at ws₁ (length ar) fill ≡ blank ar ids
  unfolding tab keep blank
  filled_list = let z : length ar - length ar ≡ 0 = omega arith in sym (append-nil _) ∙ sym (rw z at v.stack)

  module _ (g : Last (length ar) e b ids ws) where
    filled_past : (x : ℕ) → b ≤ x → get_or ws₁ x 0 ≡ get_or ws x 0
    filled_past x l = v.unseen x (omega (arith, v.few, g.sizes.apart, g.sizes.past))

    filled_net : net_at b ar ws₁ ≡ net_at b ar ws
    filled_net = net_same b ar ws ws₁ g.sizes.room v.size filled_past

    pub filled_mutual : Mutual (net_at b ar ws) → Mutual (net_at b ar ws₁)
    filled_mutual x = rw filled_net x

    pub filled_given : Given (length ar) (length ar) e b fill ids ws₁
    filled_given = record {
      sizes = sizes_kept ids ws₁ g.sizes refl v.size;
      entries = record { filled = v.few; spans = λ j h z. v.spans j h };
      clear = record { blank = λ x l u. v.unseen x (omega (arith, v.few, g.sizes.apart)) ∙ g.clear.blank x l u };
    }

    filled_room : length ar + fill ≤ length ws₁
    filled_room = omega (arith, v.few, v.size, g.sizes.apart, g.sizes.past, g.sizes.room)

    pub last-strays : (o : Bool) → o ≡ expand_strays (net_at b ar ws₁) 0 (marks_at (length ar) ids ws₁) (sec (length ar) fill ws₁)
        → o ≡ expand_strays (net_at b ar ws) 0 (marks_at (length ar) ids ws) (blank ar ids)
    last-strays o r = r ∙ rw (filled_net, marks_same (length ar) ids ws ws₁ v.marks, ← list_at-sec ws₁ (length ar) fill filled_room, filled_list)

    pub last-told : (y s : Story) → s ≡ expand_tells (net_at b ar ws₁) 0 (marks_at (length ar) ids ws₁) (sec (length ar) fill ws₁) y
        → s ≡ expand_tells (net_at b ar ws) 0 (marks_at (length ar) ids ws) (blank ar ids) y
    last-told y s r = r ∙ rw (filled_net, marks_same (length ar) ids ws ws₁ v.marks, ← list_at-sec ws₁ (length ar) fill filled_room, filled_list)

    module _ (ids₂ ws₂ : List ℕ) (k : Kept (length ar) (length ar) fill ws₁ ws₂) (ws₃ : List ℕ) (size : length ws₃ ≡ length ws₂)
        (q : Clear (length ar) (length ar + fill) ws₃) (cleared : Frame (length ar) (length ar + fill) ws₂ ws₃) where
      cleared_marks : marks_at (length ar) ids₂ ws₃ ≡ marks_at (length ar) ids₂ ws₂
      cleared_marks = marks_same (length ar) ids₂ ws₂ ws₃ cleared.before

      pub last_view : record { marks = marks_at (length ar) ids₂ ws₂; stack = sec (length ar) fill ws₂ } ≡ expand (net_at b ar ws₁) 0 (marks_at (length ar) ids ws₁) (sec (length ar) fill ws₁)
          → marks_at (length ar) ids₂ ws₃ ≡ (expand (net_at b ar ws) 0 (marks_at (length ar) ids ws) (blank ar ids)).marks
      last_view r =
          cleared_marks ∙ ap (λ (p : Spread). p.marks) r
          ∙ rw (filled_net, marks_same (length ar) ids ws ws₁ v.marks, ← list_at-sec ws₁ (length ar) fill filled_room, filled_list)

      last_size : length ws₃ ≡ length ws
      last_size = size ∙ k.size ∙ v.size

      pub last_kept : drop (length ar) ws₃ ≡ drop (length ar) ws
      last_kept =
          ext_get_or 0 (drop (length ar) ws₃) (drop (length ar) ws) (length-drop (length ar) ws₃ ∙ ap (λ (x : ℕ). x - length ar) last_size ∙ sym (length-drop (length ar) ws))
          (λ i _. get_or-drop (length ar) ws₃ i 0 ∙ at (length ar + i) (omega arith) ∙ sym (get_or-drop (length ar) ws i 0))
        where
          at : (x : ℕ) → length ar ≤ x → get_or ws₃ x 0 ≡ get_or ws x 0
          at x l = elim (dec_lt x (length ar + fill)) [
            | yes u ↦ q.blank x l u ∙ sym (g.stack.blank x l (omega (arith, v.few)))
            | no u ↦ get_d_after x cleared (omega arith) ∙ k.same x l (inr (omega arith)) ∙ v.unseen x (omega arith)
          ]
