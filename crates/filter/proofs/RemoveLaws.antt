-- Laws of what is done with a group that is found, and of the whole filter. A removal writes the columns 0 to 2m only;
-- that a group's total and lists are read after the gathering and not before makes no difference, since that writes neither.
use Prim.Native.Nat.{ℕ, ◌+◌, ◌-◌, ◌*◌, ◌≤◌, ◌<◌}
use native.Mathlib.Omega.{arith}
use native.Mathlib.Decide.{ℕ_discrete, dec_lt}
use mathlib.Core.Path.{◌≡◌, refl, sym, ap, ◌∙◌}
use mathlib.Core.Bool.{Bool, true, false, not}
use mathlib.Core.List.{List, [], ◌∷◌}
use lib.ListN.{length, get_or, set, replicate, length-set, length-replicate, get_or-replicate}
use lib.Seq.{get_or-set_same, get_or-set_other}
use lib.Dec.{ltb}
use borrow.Author.Tests.{le-leb, lt-leb, lt-ltb, le-ltb}
use borrow.Rule.Slice.PartMut.{put_mid, mid_of}
use Rattle.rules.specs.Base.{when◌then◌else◌, ◌and◌, ◌or◌, any}
use Rattle.rules.specs.Growth.{flagged}
use Rattle.rules.specs.Records.{Rec, at}
use Rattle.rules.specs.Filter.{removed, total, remove_all}
use Rattle.space.specs.Space.{Frame, sec}
use Rattle.space.proofs.Laws.{frame_then, frame_set, frame_wider, frame_put, get_or_before, get_d_after, sec-put, length-sec, get_or-sec}
use Rattle.table.specs.View.{part, list_at, rec_at, recs_of, Held}
use Rattle.table.proofs.ViewLaws.{view-at, view-set, list_past, held_past, rec_past, part_cons, part_none, recs_at, part-after}
use Rattle.filter.specs.Group.{lists_flagged, any_flagged, small, remove_small, Found, Calm}
use Rattle.filter.proofs.GroupLaws.{recs_spare, held_spare}

-- ---- the next of those found

module _ (ws : List ℕ) (m f k : ℕ) (H : Held m (7 * m) (11 * m) ws) (h : f ≤ m) (g : k < f) where
  found_cons : part (6 * m + k) (6 * m + f) ws ≡ get_or ws (6 * m + k) 0 ∷ part (6 * m + (k + 1)) (6 * m + f) ws
  found_cons =
      let e : 6 * m + k + 1 ≡ 6 * m + (k + 1) = omega arith in
      part_cons (6 * m + k) (6 * m + f) ws (omega arith) (omega (arith, H.floors.room)) ∙ ap (λ (j : ℕ). get_or ws (6 * m + k) 0 ∷ part j (6 * m + f) ws) e

  module _ (i : ℕ) (q : i ≡ get_or ws (6 * m + k) 0) where
    pub next_below : Found m f ws → i < m
    next_below D = rw q (D.found k g)

    pub next_count : Found m f ws → m + i < length ws
    next_count D = omega (arith, next_below D, H.floors.room)

    count_at_lem : i < m → (at (recs_of ws m) i).count ≡ get_or ws (m + i) 0
    unfolding rec_at
    count_at_lem b = ap (λ (r : Rec). r.count) (recs_at ws m i b)

    lists_at : i < m → (at (recs_of ws m) i).list ≡ list_at ws m (7 * m) i
    unfolding rec_at
    lists_at b = ap (λ (r : Rec). r.list) (recs_at ws m i b)

    pub total_go : (sum c : ℕ) → Found m f ws → c ≡ get_or ws (m + i) 0
        → sum + total (recs_of ws m) (part (6 * m + k) (6 * m + f) ws) ≡ total (recs_of ws m) (part (6 * m) (6 * m + f) ws)
        → sum + c + total (recs_of ws m) (part (6 * m + (k + 1)) (6 * m + f) ws) ≡ total (recs_of ws m) (part (6 * m) (6 * m + f) ws)
    unfolding total
    total_go sum c D p e =
        let w : total (recs_of ws m) (part (6 * m + k) (6 * m + f) ws) ≡ c + total (recs_of ws m) (part (6 * m + (k + 1)) (6 * m + f) ws) =
        ap (total (recs_of ws m)) (found_cons ∙ ap (λ (j : ℕ). j ∷ part (6 * m + (k + 1)) (6 * m + f) ws) (sym q)) ∙ ap (λ (j : ℕ). j + total (recs_of ws m) (part (6 * m + (k + 1)) (6 * m + f) ws)) (count_at_lem (next_below D) ∙ sym p) in
        omega arith

    module _ (l : List ℕ) (b : Bool) (D : Found m f ws) (p : l ≡ list_at ws m (7 * m) i) (r : b ≡ lists_flagged l)
        (e : any_flagged (recs_of ws m) (part (6 * m) (6 * m + f) ws) ≡ any_flagged (recs_of ws m) (part (6 * m + k) (6 * m + f) ws)) where
      flag_more : any_flagged (recs_of ws m) (part (6 * m + k) (6 * m + f) ws) ≡ b or any_flagged (recs_of ws m) (part (6 * m + (k + 1)) (6 * m + f) ws)
      unfolding any_flagged lists_flagged any
      flag_more =
          ap (any (λ j. any flagged (at (recs_of ws m) j).list)) (found_cons ∙ ap (λ (j : ℕ). j ∷ part (6 * m + (k + 1)) (6 * m + f) ws) (sym q))
          ∙ ap (λ (x : Bool). x or any (λ j. any flagged (at (recs_of ws m) j).list) (part (6 * m + (k + 1)) (6 * m + f) ws)) (ap (any flagged) (lists_at (next_below D) ∙ sym p) ∙ sym r)

      pub flag_here : b ≡ true → true ≡ any_flagged (recs_of ws m) (part (6 * m) (6 * m + f) ws)
      unfolding ◌or◌
      flag_here z = sym (e ∙ flag_more ∙ rw z refl)

      pub flag_next : b ≡ false → any_flagged (recs_of ws m) (part (6 * m) (6 * m + f) ws) ≡ any_flagged (recs_of ws m) (part (6 * m + (k + 1)) (6 * m + f) ws)
      unfolding ◌or◌
      flag_next z = e ∙ flag_more ∙ rw z refl

pub total-start : (m f : ℕ) (ws : List ℕ) → 0 + total (recs_of ws m) (part (6 * m + 0) (6 * m + f) ws) ≡ total (recs_of ws m) (part (6 * m) (6 * m + f) ws)
total-start m f ws = let e : 6 * m + 0 ≡ 6 * m = omega arith in rw e (omega arith)

pub total_done : (m f k sum : ℕ) (ws : List ℕ) → f ≤ k → sum + total (recs_of ws m) (part (6 * m + k) (6 * m + f) ws) ≡ total (recs_of ws m) (part (6 * m) (6 * m + f) ws)
    → sum ≡ total (recs_of ws m) (part (6 * m) (6 * m + f) ws)
unfolding total
total_done m f k sum ws h e =
    let z : total (recs_of ws m) (part (6 * m + k) (6 * m + f) ws) ≡ 0 = rw (part_none (6 * m + k) (6 * m + f) ws (omega arith)) refl in
    omega arith

pub flag_start : (m f : ℕ) (ws : List ℕ) → any_flagged (recs_of ws m) (part (6 * m) (6 * m + f) ws) ≡ any_flagged (recs_of ws m) (part (6 * m + 0) (6 * m + f) ws)
flag_start m f ws = let e : 6 * m + 0 ≡ 6 * m = omega arith in rw e refl

pub flag_none : (m f k : ℕ) (ws : List ℕ) → f ≤ k → any_flagged (recs_of ws m) (part (6 * m) (6 * m + f) ws) ≡ any_flagged (recs_of ws m) (part (6 * m + k) (6 * m + f) ws)
    → false ≡ any_flagged (recs_of ws m) (part (6 * m) (6 * m + f) ws)
unfolding any_flagged any
flag_none m f k ws h e = sym (e ∙ rw (part_none (6 * m + k) (6 * m + f) ws (omega arith)) refl)

-- ---- one list

above_flagged : (x : ℕ) → ltb 32767 x ≡ flagged x
above_flagged x = elim (dec_lt 32767 x) [
  | yes h ↦ lt-ltb 32767 x h ∙ sym (le-leb 32768 x (omega arith))
  | no h ↦ le-ltb 32767 x (omega arith) ∙ sym (lt-leb 32768 x (omega arith))
]

-- an id above the last unflagged one is flagged
pub lists_above : (l : List ℕ) → any (ltb 32767) l ≡ lists_flagged l
unfolding lists_flagged any
lists_above [] = refl
lists_above (x ∷ l) = rw (above_flagged x) (ap (λ b. flagged x or b) (lists_above l))

-- ---- whether it is small

module _ (least t : ℕ) (rs : List Rec) (l : List ℕ) (q : t ≡ total rs l) where
  pub large : least ≤ t → false ≡ small least rs l
  unfolding small ◌and◌
  large h = rw (← q, le-ltb t least h)

  pub small_by : t < least → (b : Bool) → b ≡ any_flagged rs l → not b ≡ small least rs l
  unfolding small ◌and◌
  small_by h b p = rw (← q, lt-ltb t least h, ← p) refl

-- ---- one record removed

removed_is : (ws ws' : List ℕ) (m r : ℕ) → get_or ws' r 0 ≡ 0 → get_or ws' (m + r) 0 ≡ 0 → get_or ws' (2 * m + r) 0 ≡ get_or ws (2 * m + r) 0
    → get_or ws' (3 * m + r) 0 ≡ get_or ws (3 * m + r) 0 → get_or ws' (4 * m + r) 0 ≡ get_or ws (4 * m + r) 0
    → list_at ws' m (7 * m) r ≡ list_at ws m (7 * m) r → list_at ws' m (11 * m) r ≡ list_at ws m (11 * m) r
    → get_or ws' (15 * m + r) 0 ≡ get_or ws (15 * m + r) 0 → rec_at ws' m (7 * m) (11 * m) r ≡ removed (rec_at ws m (7 * m) (11 * m) r)
unfolding rec_at removed
removed_is ws ws' m r p₁ p₂ p₃ p₄ p₅ p₆ p₇ p₈ = rw (p₁, p₂, p₃, p₄, p₅, p₆, p₇, p₈)

module _ (ws : List ℕ) (m i : ℕ) (H : Held m (7 * m) (11 * m) ws) (h : i < m) where
  abbrev ws₁ : List ℕ
  ws₁ = set ws (m + i) 0

  abbrev ws₂ : List ℕ
  ws₂ = set ws₁ i 0

  pub remove_in : m + i < length ws
  remove_in = omega (arith, H.floors.room)

  pub remove_in_2 : i < length ws₁
  remove_in_2 = rw (length-set ws (m + i) 0) (omega (arith, H.floors.room))

  pub remove_frame : Frame 0 (2 * m) ws ws₂
  remove_frame = frame_then (frame_set 0 (2 * m) (m + i) 0 ws (omega arith) (omega arith)) (frame_set 0 (2 * m) i 0 ws₁ (omega arith) (omega arith))

  remove_length : length ws₂ ≡ length ws
  remove_length = length-set ws₁ i 0 ∙ length-set ws (m + i) 0

  gone : get_or ws₂ i 0 ≡ 0
  gone = get_or-set_same ws₁ i 0 0 remove_in_2

  other : (j : ℕ) → (j ≡ i → ⊥) → (j ≡ m + i → ⊥) → get_or ws₂ j 0 ≡ get_or ws j 0
  other j a b = get_or-set_other ws₁ i j 0 0 a ∙ get_or-set_other ws (m + i) j 0 0 b

  pub remove_held : Held m (7 * m) (11 * m) ws₂
  remove_held = held_past m (7 * m) (11 * m) H remove_frame (omega arith) remove_length (λ r g. elim (ℕ_discrete r i) [
    | yes e ↦ rw (e, gone) (omega arith)
    | no e ↦ rw (other r e (λ q. omega arith)) (H.ids r g)
  ])

  pub remove_recs : recs_of ws₂ m ≡ set (recs_of ws m) i (removed (at (recs_of ws m) i))
  unfolding recs_of
  remove_recs =
      rw (view-at ws m (7 * m) (11 * m) i h)
      (view-set ws ws₂ m (7 * m) (11 * m) i (removed (rec_at ws m (7 * m) (11 * m) i)) h
      (removed_is ws ws₂ m i gone (get_or-set_other ws₁ i (m + i) 0 0 (λ e. omega arith) ∙ get_or-set_same ws (m + i) 0 0 remove_in)
      (get_d_after (2 * m + i) remove_frame (omega arith)) (get_d_after (3 * m + i) remove_frame (omega arith)) (get_d_after (4 * m + i) remove_frame (omega arith))
      (list_past m (7 * m) H.lists remove_frame (omega arith) remove_length i h) (list_past m (11 * m) H.floors remove_frame (omega arith) remove_length i h)
      (get_d_after (15 * m + i) remove_frame (omega arith)))
      (λ j g n.
      rec_past m (7 * m) (11 * m) H remove_frame (omega arith) remove_length j g (other j n (λ e. omega arith)) (other (m + j) (λ e. omega arith) (λ e. n (omega arith)))
      (get_d_after (2 * m + j) remove_frame (omega arith)) (get_d_after (3 * m + j) remove_frame (omega arith)) (get_d_after (4 * m + j) remove_frame (omega arith))))

-- ---- all that are found

module _ (m f : ℕ) (ws₀ : List ℕ) where
  pub all_start : remove_all (part (6 * m) (6 * m + f) ws₀) (recs_of ws₀ m) ≡ remove_all (part (6 * m + 0) (6 * m + f) ws₀) (recs_of ws₀ m)
  all_start = let e : 6 * m + 0 ≡ 6 * m = omega arith in rw e refl

  module _ (ws : List ℕ) (k i : ℕ) (fr : Frame 0 (2 * m) ws₀ ws) (q : i ≡ get_or ws (6 * m + k) 0) (g : k < f) where
    pub all_below : Found m f ws₀ → i < m
    all_below D = rw (q, get_d_after (6 * m + k) fr (omega arith)) (D.found k g)

    pub all_go : (ws' : List ℕ) → f ≤ m → Held m (7 * m) (11 * m) ws → remove_all (part (6 * m) (6 * m + f) ws₀) (recs_of ws₀ m) ≡ remove_all (part (6 * m + k) (6 * m + f) ws) (recs_of ws m)
        → recs_of ws' m ≡ set (recs_of ws m) i (removed (at (recs_of ws m) i)) → Frame 0 (2 * m) ws ws'
        → remove_all (part (6 * m) (6 * m + f) ws₀) (recs_of ws₀ m) ≡ remove_all (part (6 * m + (k + 1)) (6 * m + f) ws') (recs_of ws' m)
    unfolding remove_all
    all_go ws' h H e r fr' =
        e ∙ ap (λ (l : List ℕ). remove_all l (recs_of ws m)) (found_cons ws m f k H h g ∙ ap (λ (j : ℕ). j ∷ part (6 * m + (k + 1)) (6 * m + f) ws) (sym q))
        ∙ ap (remove_all (part (6 * m + (k + 1)) (6 * m + f) ws)) (sym r) ∙ ap (λ (l : List ℕ). remove_all l (recs_of ws' m)) (sym (part-after (6 * m + (k + 1)) (6 * m + f) fr' (omega arith)))

  pub all_done : (ws : List ℕ) (k : ℕ) → f ≤ k → remove_all (part (6 * m) (6 * m + f) ws₀) (recs_of ws₀ m) ≡ remove_all (part (6 * m + k) (6 * m + f) ws) (recs_of ws m)
      → recs_of ws m ≡ remove_all (part (6 * m) (6 * m + f) ws₀) (recs_of ws₀ m)
  unfolding remove_all
  all_done ws k h e = sym (e ∙ rw (part_none (6 * m + k) (6 * m + f) ws (omega arith)) refl)

module _ (least m f : ℕ) (ws : List ℕ) (b : Bool) (q : b ≡ small least (recs_of ws m) (part (6 * m) (6 * m + f) ws)) where
  pub gone_all : (ws' : List ℕ) → b ≡ true → recs_of ws' m ≡ remove_all (part (6 * m) (6 * m + f) ws) (recs_of ws m) → recs_of ws' m ≡ remove_small least (recs_of ws m) (part (6 * m) (6 * m + f) ws)
  unfolding remove_small when◌then◌else◌
  gone_all ws' z e = rw (← q, z) e

  pub gone_none : b ≡ false → recs_of ws m ≡ remove_small least (recs_of ws m) (part (6 * m) (6 * m + f) ws)
  unfolding remove_small when◌then◌else◌
  gone_none z = rw (← q, z)

-- ---- the spare columns

module _ (ws ys : List ℕ) (m f : ℕ) (H : Held m (7 * m) (11 * m) ws) (h : f ≤ m) (y : ys ≡ replicate (length (mid_of (6 * m) ((6 * m + f) - 6 * m) ws)) 0) where
  abbrev zs : List ℕ
  zs = put_mid (6 * m) ((6 * m + f) - 6 * m) ws ys

  y_len : length ys ≡ (6 * m + f) - 6 * m
  y_len = ap length y ∙ length-replicate (length (mid_of (6 * m) ((6 * m + f) - 6 * m) ws)) 0 ∙ length-sec (6 * m) ((6 * m + f) - 6 * m) ws (omega (arith, H.floors.room))

  forget_near : Frame (6 * m) (6 * m + f) ws zs
  forget_near = frame_put (6 * m) (6 * m + f) ws ys (omega arith) (omega (arith, H.floors.room)) y_len

  pub forget_frame : Frame (5 * m) (7 * m) ws zs
  forget_frame = frame_wider (5 * m) (7 * m) forget_near (omega arith) (omega arith)

  module _ (l : length zs ≡ length ws) where
    pub forget_recs : recs_of zs m ≡ recs_of ws m
    forget_recs = recs_spare m H forget_frame l

    zeros-at : (x : ℕ) → x < f → get_or zs (6 * m + x) 0 ≡ 0
    zeros-at x k =
        let e : sec (6 * m + 0) f zs ≡ sec 0 f ys = sec-put (6 * m) ((6 * m + f) - 6 * m) 0 f ws ys (omega (arith, H.floors.room)) (omega (arith, y_len)) in
        let z : 6 * m + 0 ≡ 6 * m = omega arith in
        sym (get_or-sec (6 * m) f x zs k) ∙ ap (λ (u : List ℕ). get_or u x 0) (rw z at e) ∙ get_or-sec 0 f x ys k ∙ ap (λ (u : List ℕ). get_or u (0 + x) 0) y
        ∙ get_or-replicate (length (mid_of (6 * m) ((6 * m + f) - 6 * m) ws)) (0 + x) 0 0 (rw (length-sec (6 * m) ((6 * m + f) - 6 * m) ws (omega (arith, H.floors.room))) (omega arith))

    pub forget_calm : Found m f ws → ((x : ℕ) → x < m → get_or ws (5 * m + x) 0 ≡ 0) → Calm m zs
    forget_calm D b = record {
      held = held_spare m H forget_frame (omega arith) (omega arith) l;
      blank = λ x k. elim (dec_lt x m) [
        | yes g ↦ get_or_before (5 * m + x) forget_near (omega arith) ∙ b x g
        | no g ↦
            let e : 5 * m + x ≡ 6 * m + (x - m) = omega arith in
            rw e (elim (dec_lt (x - m) f) [
              | yes q ↦ zeros-at (x - m) q
              | no q ↦ get_d_after (6 * m + (x - m)) forget_near (omega arith) ∙ D.blank (x - m) (omega arith) (omega arith)
            ])
      ];
    }
