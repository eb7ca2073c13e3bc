-- Laws of the parts that the merge writes. Assumes nothing.
use Prim.Native.Nat.{ℕ, suc, ◌+◌, ◌-◌, ◌≤◌, ◌<◌}
use native.Mathlib.Omega.{arith}
use native.Mathlib.Decide.{ℕ_discrete}
use mathlib.Core.Path.{◌≡◌, refl, sym, ap, ◌∙◌}
use mathlib.Core.Logic.{⊎_elim}
use mathlib.Core.Bool.{true, false}
use mathlib.Core.List.{List, [], ◌∷◌, ◌++◌, map}
use lib.ListN.{length, get_or, set, take, drop, length-take}
use lib.Seq.{take-append-le, take_all, get_or-set_same, get_or-set_other, take-take, take-add, drop-drop, ext_get_or}
use borrow.Rule.Slice.PartMut.{put_mid, mid_of, same_len_mid}
use Rattle.rules.specs.Base.{when◌then◌else◌, any}
use Rattle.rules.specs.Records.{has}
use Rattle.rules.specs.Merge.{around, tidy, place}
use Rattle.laws.proofs.Basics.{drop-take}
use Rattle.space.specs.Space.{Frame}
use Rattle.space.proofs.Laws.{drop_mid, get_or_before, get_d_after, frame_then, frame_set, frame_wider, frame_put, length-sec, get_or-sec}
use Rattle.pool.specs.Lists.{swap_one}
use Rattle.pool.specs.Part.{CopyRoom, Copied, renamed_list}
use Rattle.table.specs.View.{part}
use Rattle.table.proofs.ViewLaws.{part_before, part-after}
use Rattle.table.proofs.SearchLaws.{has_cons, has-head, place_other, place-first}

-- ---- copies

pub copied_none : (a to : ℕ) (ws : List ℕ) → Copied a to 0 ws ws
copied_none a to ws = record { each = λ j h. absurd (omega arith) }

module _ (a e to z : ℕ) (ws₀ ws : List ℕ) (k : ℕ) (c : CopyRoom a e to z ws₀) (s : length ws ≡ length ws₀) (h : k < e - a) where
  pub copy_write : to + k < length ws
  copy_write = omega (arith, c.order, c.room, c.into)

  pub copy_frame : Frame to (to + (e - a)) ws₀ ws → Frame to (to + (e - a)) ws₀ (set ws (to + k) (get_or ws (a + k) 0))
  copy_frame f = frame_then f (frame_set to (to + (e - a)) (to + k) (get_or ws (a + k) 0) ws (omega arith) (omega arith))

  source : Frame to (to + (e - a)) ws₀ ws → get_or ws (a + k) 0 ≡ get_or ws₀ (a + k) 0
  source f =
      ⊎_elim (λ (l : e ≤ to). get_or_before (a + k) f (omega (arith, c.order)))
      (λ (l : z ≤ a). get_d_after (a + k) f (omega (arith, c.room)))
      c.apart

  pub copy_go : Frame to (to + (e - a)) ws₀ ws → Copied a to k ws₀ ws → Copied a to (k + 1) ws₀ (set ws (to + k) (get_or ws (a + k) 0))
  copy_go f g = record {
    each = λ j l. elim (ℕ_discrete j k) [
      | yes d ↦ rw d (get_or-set_same ws (to + k) (get_or ws (a + k) 0) 0 copy_write ∙ source f)
      | no d ↦ get_or-set_other ws (to + k) (to + j) (get_or ws (a + k) 0) 0 (λ p. d (omega arith)) ∙ g.each j (omega arith)
    ];
  }

pub copy_done : (a e to z : ℕ) (ws₀ ws : List ℕ) (k : ℕ) → CopyRoom a e to z ws₀ → length ws ≡ length ws₀ → e - a ≤ k → Copied a to k ws₀ ws
    → part to (to + (e - a)) ws ≡ part a e ws₀
unfolding part
copy_done a e to z ws₀ ws k c s h g =
    let w : (to + (e - a)) - to ≡ e - a = omega arith in
    let l₁ : length (take (e - a) (drop to ws)) ≡ e - a = length-sec to (e - a) ws (omega (arith, c.room, c.into)) in
    let l₂ : length (take (e - a) (drop a ws₀)) ≡ e - a = length-sec a (e - a) ws₀ (omega (arith, c.order, c.from)) in
    rw w (ext_get_or 0 (take (e - a) (drop to ws)) (take (e - a) (drop a ws₀)) (l₁ ∙ sym l₂) (λ j l.
    let b : j < e - a = rw l₁ at l in
    get_or-sec to (e - a) j ws b ∙ g.each j (omega arith) ∙ sym (get_or-sec a (e - a) j ws₀ b)))

-- ---- all but one entry

-- a part in two
part_split : (a b e : ℕ) (ws : List ℕ) → a ≤ b → b ≤ e → part a e ws ≡ part a b ws ++ part b e ws
unfolding part
part_split a b e ws h g =
    let w : e - a ≡ (b - a) + (e - b) = omega arith in
    let v : a + (b - a) ≡ b = omega arith in
    rw w (take-add (b - a) (e - b) (drop a ws) ∙ ap (λ (l : List ℕ). take (b - a) (drop a ws) ++ take (e - b) l) (drop-drop (b - a) a ws ∙ ap (λ (j : ℕ). drop j ws) v))

around_is : (a e k : ℕ) (ws : List ℕ) → a + k < e → around (part a e ws) k ≡ part (a + k + 1) e ws ++ part a (a + k) ws
unfolding around part
around_is a e k ws h =
    let w : (e - a) - suc k ≡ e - (a + k + 1) = omega arith in
    let v : a + suc k ≡ a + k + 1 = omega arith in
    let u : (a + k) - a ≡ k = omega arith in
    let p : drop (suc k) (take (e - a) (drop a ws)) ≡ take (e - (a + k + 1)) (drop (a + k + 1) ws) =
    drop-take (suc k) (e - a) (drop a ws) ∙ ap (λ (j : ℕ). take j (drop (suc k) (drop a ws))) w ∙ ap (take (e - (a + k + 1))) (drop-drop (suc k) a ws ∙ ap (λ (j : ℕ). drop j ws) v) in
    let q : take k (take (e - a) (drop a ws)) ≡ take ((a + k) - a) (drop a ws) = take-take k (e - a) (drop a ws) (omega arith) ∙ ap (λ (j : ℕ). take j (drop a ws)) (sym u) in
    rw (p, q) refl

module _ (a e k to z c d : ℕ) (ws : List ℕ) (C : CopyRoom a e to z ws) (h : a + k < e) (ec : c ≡ a + k + 1) (ed : d ≡ to + (e - c)) where
  module _ (ws₁ : List ℕ) (s₁ : length ws₁ ≡ length ws) where
    module _ (ws₂ : List ℕ) (f₁ : Frame to (to + (e - c)) ws ws₁) (p₁ : part to (to + (e - c)) ws₁ ≡ part c e ws)
        (f₂ : Frame d (d + ((a + k) - a)) ws₁ ws₂) (p₂ : part d (d + ((a + k) - a)) ws₂ ≡ part a (a + k) ws₁) where
      pub around_done : part to (d + k) ws₂ ≡ around (part a e ws) k
      around_done =
          let u : (a + k) - a ≡ k = omega arith in
          let first : part to d ws₂ ≡ part (a + k + 1) e ws =
          part_before to d f₂ (omega arith) (omega arith) ∙ ap (λ (j : ℕ). part to j ws₁) ed ∙ p₁ ∙ ap (λ (j : ℕ). part j e ws) ec in
          let second : part d (d + k) ws₂ ≡ part a (a + k) ws =
          ap (λ (j : ℕ). part d (d + j) ws₂) (sym u) ∙ p₂
          ∙ ⊎_elim (λ (l : e ≤ to). part_before a (a + k) f₁ (omega arith) (omega arith)) (λ (l : z ≤ a). part-after a (a + k) f₁ (omega (arith, C.room))) C.apart in
          part_split to d (d + k) ws₂ (omega arith) (omega arith) ∙ rw (first, second) (sym (around_is a e k ws h))

      pub around_frame : Frame to (d + k) ws ws₂
      around_frame =
          let u : (a + k) - a ≡ k = omega arith in
          frame_then (frame_wider to (d + k) f₁ (omega arith) (omega arith)) (frame_wider to (d + k) f₂ (omega arith) (omega arith))

-- ---- a list renamed

pub place_all : (l : List ℕ) (r : ℕ) → place l r ≡ length l → has l r ≡ false
unfolding place any
place_all [] r e = refl
place_all (x ∷ l) r e =
    elim (ℕ_discrete x r) [
      | yes q ↦ absurd (let z = sym (place-first x l r q) ∙ e in omega arith)
      | no q ↦
          let z : suc (place l r) ≡ suc (length l) = sym (place_other x l r q) ∙ e in
          has_cons x l r q ∙ place_all l r (omega arith)
    ]

pub place_some : (l : List ℕ) (r : ℕ) → (place l r ≡ length l → ⊥) → has l r ≡ true
unfolding place any
place_some [] r e = absurd (e refl)
place_some (x ∷ l) r e =
    elim (ℕ_discrete x r) [
      | yes q ↦ rw q (has-head l r)
      | no q ↦ has_cons x l r q ∙ place_some l r (λ z. e (place_other x l r q ∙ ap suc z))
    ]

pub part-put : (a k m : ℕ) (ws ys : List ℕ) → a ≤ length ws → m ≤ length ys → take m (drop a (put_mid a k ws ys)) ≡ take m ys
part-put a k m ws ys h g = ap (take m) (drop_mid a k ws ys h) ∙ take-append-le m ys (drop k (drop a ws)) g

pub renamed-none : (old new : ℕ) (l : List ℕ) → has l old ≡ false → renamed_list old new l ≡ l
unfolding renamed_list when◌then◌else◌
renamed-none old new l h = rw h

pub renamed_some : (old new : ℕ) (l : List ℕ) → has l old ≡ true → renamed_list old new l ≡ tidy (map (swap_one old new) l)
unfolding renamed_list when◌then◌else◌
renamed_some old new l h = rw h

module _ (ws : List ℕ) (a e old new k : ℕ) (h : a ≤ e) (g : e ≤ length ws) (q : k ≡ place (take (e - a) (drop a ws)) old) where
  pub rename_none : k ≡ e - a → part a e ws ≡ renamed_list old new (part a e ws)
  unfolding part
  rename_none z = sym (renamed-none old new (take (e - a) (drop a ws)) (place_all _ old (sym q ∙ z ∙ sym (length-sec a (e - a) ws (omega arith)))))

  module _ (n : k ≡ e - a → ⊥) (ys₁ ys₂ : List ℕ) (m : ℕ) (l₁ : length ys₁ ≡ length (mid_of a (e - a) ws)) (l₂ : length ys₂ ≡ length (mid_of a (e - a) (put_mid a (e - a) ws ys₁)))
      (p₁ : ys₁ ≡ map (swap_one old new) (mid_of a (e - a) ws)) (p₂ : take m ys₂ ≡ tidy (mid_of a (e - a) (put_mid a (e - a) ws ys₁)))
      (le : m ≤ length (mid_of a (e - a) (put_mid a (e - a) ws ys₁))) where
    n₁ : length ys₁ ≡ e - a
    n₁ = l₁ ∙ length-sec a (e - a) ws (omega arith)

    len₁ : length (put_mid a (e - a) ws ys₁) ≡ length ws
    len₁ = same_len_mid a (e - a) ws ys₁ l₁

    mid₁ : mid_of a (e - a) (put_mid a (e - a) ws ys₁) ≡ ys₁
    mid₁ = part-put a (e - a) (e - a) ws ys₁ (omega arith) (omega (arith, n₁)) ∙ take_all (e - a) ys₁ (omega (arith, n₁))

    n₂ : length ys₂ ≡ e - a
    n₂ = l₂ ∙ ap length mid₁ ∙ n₁

    m_le : m ≤ e - a
    m_le = omega (arith, ap length mid₁, n₁)

    pub rename_some : part a (a + m) (put_mid a (e - a) (put_mid a (e - a) ws ys₁) ys₂) ≡ renamed_list old new (part a e ws)
    unfolding part
    rename_some =
        let w : (a + m) - a ≡ m = omega arith in
        rw w (part-put a (e - a) m (put_mid a (e - a) ws ys₁) ys₂ (omega (arith, len₁)) (omega (arith, n₂, m_le)) ∙ p₂ ∙ ap tidy (mid₁ ∙ p₁)
        ∙ sym (renamed_some old new (take (e - a) (drop a ws)) (place_some (take (e - a) (drop a ws)) old (λ z. n (q ∙ z ∙ length-sec a (e - a) ws (omega arith))))))

    pub rename_frame : Frame a e ws (put_mid a (e - a) (put_mid a (e - a) ws ys₁) ys₂)
    rename_frame = frame_then (frame_put a e ws ys₁ h g n₁) (frame_put a e (put_mid a (e - a) ws ys₁) ys₂ h (rw len₁ g) n₂)

pub part_le : (a e m : ℕ) (l : List ℕ) → a ≤ e → m ≤ length (take (e - a) l) → a + m ≤ e
part_le a e m l h g = omega (arith, length-take (e - a) l)

-- the same, as the code has it
module _ (a e k to z : ℕ) (ws : List ℕ) (C : CopyRoom a e to z ws) (h : a + k < e) where
  module _ (ws₁ ws₂ : List ℕ) (s₁ : length ws₁ ≡ length ws) (f₁ : Frame to (to + (e - (a + k + 1))) ws ws₁) (p₁ : part to (to + (e - (a + k + 1))) ws₁ ≡ part (a + k + 1) e ws)
      (f₂ : Frame (to + (e - (a + k + 1))) (to + (e - (a + k + 1)) + ((a + k) - a)) ws₁ ws₂)
      (p₂ : part (to + (e - (a + k + 1))) (to + (e - (a + k + 1)) + ((a + k) - a)) ws₂ ≡ part a (a + k) ws₁) where
    pub around_3 : part to (to + (e - (a + k + 1)) + k) ws₂ ≡ around (part a e ws) k
    around_3 = around_done a e k to z (a + k + 1) (to + (e - (a + k + 1))) ws C h refl refl ws₁ s₁ ws₂ f₁ p₁ f₂ p₂

    pub around_4 : Frame to (to + (e - (a + k + 1)) + k) ws ws₂
    around_4 = around_frame a e k to z (a + k + 1) (to + (e - (a + k + 1))) ws C h refl refl ws₁ s₁ ws₂ f₁ p₁ f₂ p₂

-- ---- two lists joined

mid_is : (a e : ℕ) (ws : List ℕ) → mid_of a (e - a) ws ≡ part a e ws
unfolding part
mid_is a e ws = refl

part-put-at : (a k m : ℕ) (ws ys : List ℕ) → a ≤ length ws → m ≤ length ys → part a (a + m) (put_mid a k ws ys) ≡ take m ys
unfolding part
part-put-at a k m ws ys h g = let w : (a + m) - a ≡ m = omega arith in rw w (part-put a k m ws ys h g)

module _ (a e k b f j to z : ℕ) (ws : List ℕ) (C : CopyRoom a e to z ws) (C' : CopyRoom b f to z ws) (h : a + k < e) (h' : b + j < f) (room : to + (e - a) + (f - b) ≤ z)
    (x : ℕ) (ws₁ : List ℕ) (ex : x + 1 ≡ to + (e - a)) (s₁ : length ws₁ ≡ length ws) where
  module _ (y : ℕ) (ws₂ : List ℕ) (ey : y + 1 ≡ x + (f - b)) (s₂ : length ws₂ ≡ length ws₁) (f₁ : Frame to x ws ws₁) (p₁ : part to x ws₁ ≡ around (part a e ws) k)
      (f₂ : Frame x y ws₁ ws₂) (p₂ : part x y ws₂ ≡ around (part b f ws₁) j) where
    pub join_order : to ≤ y
    join_order = omega arith

    pub join_within : y ≤ length ws₂
    join_within = omega (arith, C.into)

    joined_is : part to y ws₂ ≡ around (part a e ws) k ++ around (part b f ws) j
    joined_is =
        let q : part b f ws₁ ≡ part b f ws =
        ⊎_elim (λ (l : f ≤ to). part_before b f f₁ C'.order l) (λ (l : z ≤ b). part-after b f f₁ (omega arith)) C'.apart in
        part_split to x y ws₂ (omega arith) (omega arith) ∙ rw (part_before to x f₂ (omega arith) (omega arith), p₁, p₂, q) refl

    module _ (ys : List ℕ) (n : ℕ) (ly : length ys ≡ length (mid_of to (y - to) ws₂)) (t : take n ys ≡ tidy (mid_of to (y - to) ws₂)) (le : n ≤ length (mid_of to (y - to) ws₂)) where
      pub join_done : part to (to + n) (put_mid to (y - to) ws₂ ys) ≡ tidy (around (part a e ws) k ++ around (part b f ws) j)
      join_done = put-part ∙ t ∙ ap tidy (mid_part ∙ joined_is)
        where
          put-part : part to (to + n) (put_mid to (y - to) ws₂ ys) ≡ take n ys
          put-part = part-put-at to (y - to) n ws₂ ys (omega (arith, join_within)) (omega (arith, ly))

          mid_part : mid_of to (y - to) ws₂ ≡ part to y ws₂
          mid_part = mid_is to y ws₂

      pub join_frame : Frame to z ws (put_mid to (y - to) ws₂ ys)
      join_frame =
          let ny : length ys ≡ y - to = ly ∙ length-sec to (y - to) ws₂ (omega (arith, join_within)) in
          frame_then (frame_wider to z f₁ (omega arith) (omega arith)) (frame_then (frame_wider to z f₂ (omega arith) (omega arith)) (frame_wider to z (frame_put to y ws₂ ys join_order join_within ny) (omega arith) (omega arith)))
