-- The records seen in the workspace, after a change of it: a record is the same where its columns, its places in the tables and its parts are.
-- What is written below 7m leaves the tables and the parts alone.
use Prim.Native.Nat.{ℕ, zero, suc, ◌+◌, ◌-◌, ◌*◌, ◌≤◌, ◌<◌}
use native.Mathlib.Omega.{arith}
use native.Mathlib.Numerals.{add-one}
use native.Mathlib.Decide.{ℕ_discrete}
use mathlib.Core.Path.{◌≡◌, refl, sym, ap, ◌∙◌}
use mathlib.Core.Bool.{Bool}
use mathlib.Core.List.{List, [], ◌∷◌, map}
use lib.ListN.{length, get_or, set, take, drop, length-set}
use lib.Seq.{drop-cons, ext_get_or, get_or-set_same, get_or-set_other}
use Rattle.rules.specs.Base.{tab}
use Rattle.rules.specs.Records.{Rec, at, fresh}
use Rattle.laws.proofs.Basics.{tab-at, length-tab}
use Rattle.space.specs.Space.{Frame}
use Rattle.space.proofs.Laws.{get_d_after, length-sec, get_or-sec, sec-same, sec_before, sec-after}
use Rattle.table.specs.Map.{cuts_at}
use Rattle.table.specs.View.{part, wide, start_of, end_of, list_at, rec_at, view, Parts, Held, recs_of}

pub wide_is : (ws : List ℕ) (m a x y : ℕ) → x ≡ get_or ws a 0 → y ≡ get_or ws (a + m) 0 → x + 65536 * y ≡ wide ws m a
unfolding wide
wide_is ws m a x y e f = rw (e, f)

pub part_is : (ws : List ℕ) (m s r a e : ℕ) → a ≡ wide ws m (s + r) → e ≡ wide ws m (s + 2 * m + r) → take (e - a) (drop a ws) ≡ list_at ws m s r
unfolding list_at part
part_is ws m s r a e p q = rw (p, q)

module _ (ws : List ℕ) (m s r : ℕ) (p : Parts m s ws) (h : r < m) where
  pub part_order : (a e : ℕ) → a ≡ wide ws m (s + r) → e ≡ wide ws m (s + 2 * m + r) → a ≤ e
  part_order a e q w = omega (arith, p.order r h)

  pub part-within : (e : ℕ) → e ≡ wide ws m (s + 2 * m + r) → e ≤ length ws
  part-within e w = omega (arith, p.within r h)

  pub list_length : length (list_at ws m s r) ≡ end_of ws m s r - start_of ws m s r
  unfolding list_at part
  list_length = length-sec (start_of ws m s r) (end_of ws m s r - start_of ws m s r) ws (omega (arith, p.order r h, p.within r h))

-- ---- a part from its first number on

pub part_cons : (a e : ℕ) (ws : List ℕ) → a < e → e ≤ length ws → part a e ws ≡ get_or ws a 0 ∷ part (a + 1) e ws
unfolding part
part_cons a e ws h g =
    let p : e - a ≡ suc (e - (a + 1)) = omega arith in
    rw (drop-cons ws a 0 (omega arith), p, add-one a)

pub part_none : (a e : ℕ) (ws : List ℕ) → e ≤ a → part a e ws ≡ []
unfolding part
part_none a e ws h = let p : e - a ≡ 0 = omega arith in rw p

pub part_at : (a e i : ℕ) (ws : List ℕ) → i < e - a → get_or (part a e ws) i 0 ≡ get_or ws (a + i) 0
unfolding part
part_at a e i ws h = get_or-sec a (e - a) i ws h

pub part_length : (a e : ℕ) (ws : List ℕ) → a ≤ e → e ≤ length ws → length (part a e ws) ≡ e - a
unfolding part
part_length a e ws h g = length-sec a (e - a) ws (omega arith)

-- ---- the list of records

pub map-tab : {A B : Type 0} (n k : ℕ) (f : ℕ → A) (g : A → B) → map g (tab n k f) ≡ tab n k (λ i. g (f i))
unfolding tab
map-tab zero k f g = refl
map-tab (suc n) k f g = ap (λ (l : List _). g (f k) ∷ l) (map-tab n (suc k) f g)

pub view-length : (ws : List ℕ) (m s t : ℕ) → length (view ws m s t) ≡ m
unfolding view
view-length ws m s t = length-tab m 0 (rec_at ws m s t)

pub view-at : (ws : List ℕ) (m s t i : ℕ) → i < m → at (view ws m s t) i ≡ rec_at ws m s t i
unfolding view at
view-at ws m s t i h = tab-at m 0 (rec_at ws m s t) i (fresh 0) h ∙ ap (rec_at ws m s t) (omega arith)

pub view-drop : (ws : List ℕ) (m s t i : ℕ) → i < m → drop i (view ws m s t) ≡ rec_at ws m s t i ∷ drop (i + 1) (view ws m s t)
unfolding at
view-drop ws m s t i h =
    drop-cons (view ws m s t) i (fresh 0) (rw (view-length ws m s t) h) ∙ ap (λ (r : Rec). r ∷ drop (suc i) (view ws m s t)) (view-at ws m s t i h)
    ∙ ap (λ (j : ℕ). rec_at ws m s t i ∷ drop j (view ws m s t)) (sym (add-one i))

-- a list of m records by its elements
pub view_by : (ws : List ℕ) (m s t : ℕ) (rs : List Rec) → length rs ≡ m → ((i : ℕ) → i < m → rec_at ws m s t i ≡ at rs i) → view ws m s t ≡ rs
unfolding at
view_by ws m s t rs l h =
    let n = view-length ws m s t in
    ext_get_or (fresh 0) (view ws m s t) rs (n ∙ sym l) (λ i g. let g' : i < m = rw n at g in view-at ws m s t i g' ∙ h i g')

pub view-same : (ws ws' : List ℕ) (m s t : ℕ) → ((i : ℕ) → i < m → rec_at ws' m s t i ≡ rec_at ws m s t i) → view ws' m s t ≡ view ws m s t
view-same ws ws' m s t h = view_by ws' m s t (view ws m s t) (view-length ws m s t) (λ i g. h i g ∙ sym (view-at ws m s t i g))

-- one record is another
pub view-set : (ws ws' : List ℕ) (m s t r : ℕ) (x : Rec) → r < m → rec_at ws' m s t r ≡ x → ((i : ℕ) → i < m → (i ≡ r → ⊥) → rec_at ws' m s t i ≡ rec_at ws m s t i)
    → view ws' m s t ≡ set (view ws m s t) r x
unfolding at
view-set ws ws' m s t r x k e h =
    let n = view-length ws m s t in
    view_by ws' m s t (set (view ws m s t) r x) (length-set (view ws m s t) r x ∙ n) (λ i g.
    elim (ℕ_discrete i r) [
      | yes q ↦ rw q (e ∙ sym (get_or-set_same (view ws m s t) r x (fresh 0) (rw n k)))
      | no q ↦ h i g q ∙ sym (view-at ws m s t i g) ∙ sym (get_or-set_other (view ws m s t) r i x (fresh 0) q)
    ])

-- ---- the records, with their tables at 7m and 11m

pub recs_length : (ws : List ℕ) (m : ℕ) → length (recs_of ws m) ≡ m
unfolding recs_of
recs_length ws m = view-length ws m (7 * m) (11 * m)

pub recs_at : (ws : List ℕ) (m i : ℕ) → i < m → at (recs_of ws m) i ≡ rec_at ws m (7 * m) (11 * m) i
unfolding recs_of
recs_at ws m i h = view-at ws m (7 * m) (11 * m) i h

pub id_at_lem : (ws : List ℕ) (m r : ℕ) → r < m → (at (recs_of ws m) r).id ≡ get_or ws r 0
unfolding rec_at
id_at_lem ws m r h = ap (λ (q : Rec). q.id) (recs_at ws m r h)

-- ---- a part

pub part-after : {a e : ℕ} {ws ws' : List ℕ} (b c : ℕ) → Frame a e ws ws' → e ≤ b → part b c ws' ≡ part b c ws
unfolding part
part-after b c f h = sec-after b (c - b) f h

pub part_before : {a e : ℕ} {ws ws' : List ℕ} (b c : ℕ) → Frame a e ws ws' → b ≤ c → c ≤ a → part b c ws' ≡ part b c ws
unfolding part
part_before b c f h g = sec_before b (c - b) f (omega arith)

pub list_same : (ws ws' : List ℕ) (m s r : ℕ) → start_of ws' m s r ≡ start_of ws m s r → end_of ws' m s r ≡ end_of ws m s r → start_of ws m s r ≤ end_of ws m s r
    → end_of ws m s r ≤ length ws → length ws' ≡ length ws → ((k : ℕ) → start_of ws m s r ≤ k → k < end_of ws m s r → get_or ws' k 0 ≡ get_or ws k 0)
    → list_at ws' m s r ≡ list_at ws m s r
unfolding list_at part
list_same ws ws' m s r a b o w l e = rw (a, b) (sec-same ws ws' (start_of ws m s r) (end_of ws m s r - start_of ws m s r) (omega arith) l (λ k g h. e k g (omega arith)))

pub wide-same : (ws ws' : List ℕ) (m a : ℕ) → get_or ws' a 0 ≡ get_or ws a 0 → get_or ws' (a + m) 0 ≡ get_or ws (a + m) 0 → wide ws' m a ≡ wide ws m a
unfolding wide
wide-same ws ws' m a p q = rw (p, q)

-- ---- a record by its fields

pub rec_eq : (i i' c c' a a' : ℕ) (v v' o o' : Bool) (l l' f f' : List ℕ) (u u' : Bool) → i ≡ i' → c ≡ c' → a ≡ a' → v ≡ v' → o ≡ o' → l ≡ l' → f ≡ f' → u ≡ u'
    → ◌≡◌ {A = Rec} (record { id = i; count = c; area = a; visited = v; overlap = o; list = l; floors = f; cut = u })
    (record { id = i'; count = c'; area = a'; visited = v'; overlap = o'; list = l'; floors = f'; cut = u' })
rec_eq i i' c c' a a' v v' o o' l l' f f' u u' p₁ p₂ p₃ p₄ p₅ p₆ p₇ p₈ = rw (p₁, p₂, p₃, p₄, p₅, p₆, p₇, p₈)

pub rec_same : (ws ws' : List ℕ) (m s t r : ℕ) → get_or ws' r 0 ≡ get_or ws r 0 → get_or ws' (m + r) 0 ≡ get_or ws (m + r) 0 → get_or ws' (2 * m + r) 0 ≡ get_or ws (2 * m + r) 0
    → get_or ws' (3 * m + r) 0 ≡ get_or ws (3 * m + r) 0 → get_or ws' (4 * m + r) 0 ≡ get_or ws (4 * m + r) 0
    → list_at ws' m s r ≡ list_at ws m s r → list_at ws' m t r ≡ list_at ws m t r → get_or ws' (cuts_at m + r) 0 ≡ get_or ws (cuts_at m + r) 0
    → rec_at ws' m s t r ≡ rec_at ws m s t r
unfolding rec_at
rec_same ws ws' m s t r p₁ p₂ p₃ p₄ p₅ p₆ p₇ p₈ = rw (p₁, p₂, p₃, p₄, p₅, p₆, p₇, p₈)

-- ---- writing below 7m

module _ {a e : ℕ} {ws ws' : List ℕ} (m s : ℕ) (p : Parts m s ws) (f : Frame a e ws ws') (h : e ≤ 7 * m) (l : length ws' ≡ length ws) where
  start_past : (r : ℕ) → r < m → start_of ws' m s r ≡ start_of ws m s r
  start_past r g = wide-same ws ws' m (s + r) (get_d_after (s + r) f (omega (arith, p.past))) (get_d_after (s + r + m) f (omega (arith, p.past)))

  end_past : (r : ℕ) → r < m → end_of ws' m s r ≡ end_of ws m s r
  end_past r g = wide-same ws ws' m (s + 2 * m + r) (get_d_after (s + 2 * m + r) f (omega (arith, p.past))) (get_d_after (s + 2 * m + r + m) f (omega (arith, p.past)))

  pub list_past : (r : ℕ) → r < m → list_at ws' m s r ≡ list_at ws m s r
  list_past r g =
      list_same ws ws' m s r (start_past r g) (end_past r g) (p.order r g) (p.within r g) l (λ k d _. get_d_after k f (omega (arith, p.far r g)))

  pub parts_past : Parts m s ws'
  parts_past = record {
    room = rw l p.room;
    past = p.past;
    order = λ r g. rw (start_past r g, end_past r g) (p.order r g);
    within = λ r g. rw (end_past r g, l) (p.within r g);
    far = λ r g. rw (start_past r g) (p.far r g);
  }

module _ {a e : ℕ} {ws ws' : List ℕ} (m s t : ℕ) (H : Held m s t ws) (f : Frame a e ws ws') (h : e ≤ 7 * m) (l : length ws' ≡ length ws) where
  pub held_past : ((r : ℕ) → r < m → get_or ws' r 0 < m) → Held m s t ws'
  held_past i = record {
    few = H.few;
    lists = parts_past m s H.lists f h l;
    floors = parts_past m t H.floors f h l;
    ids = i;
    listed = λ r g. rw (list_past m s H.lists f h l r g) (H.listed r g);
    floored = λ r g. rw (list_past m t H.floors f h l r g) (H.floored r g);
  }

  -- a record whose columns are as they were
  pub rec_past : (r : ℕ) → r < m → get_or ws' r 0 ≡ get_or ws r 0 → get_or ws' (m + r) 0 ≡ get_or ws (m + r) 0 → get_or ws' (2 * m + r) 0 ≡ get_or ws (2 * m + r) 0
      → get_or ws' (3 * m + r) 0 ≡ get_or ws (3 * m + r) 0 → get_or ws' (4 * m + r) 0 ≡ get_or ws (4 * m + r) 0 → rec_at ws' m s t r ≡ rec_at ws m s t r
  rec_past r g p₁ p₂ p₃ p₄ p₅ =
      rec_same ws ws' m s t r p₁ p₂ p₃ p₄ p₅ (list_past m s H.lists f h l r g) (list_past m t H.floors f h l r g)
      (get_d_after (cuts_at m + r) f (omega arith))
