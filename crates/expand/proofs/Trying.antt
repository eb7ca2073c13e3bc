-- Tries, one after another (`Moved`): a flag falls only as its span is noted. The flags that are down are at least as many as the changes, so there is
-- room to note a span whose flag is up. Assumes nothing.
use mathlib.Core.Path.{◌≡◌, refl, sym, ap, ◌∙◌}
use mathlib.Core.Bool.{Bool, true, false}
use mathlib.Core.Logic.{⊎_elim, ◌⊎◌, inl, inr}
use mathlib.Core.List.{List}
use Prim.Native.Nat.{ℕ, ◌+◌, ◌*◌, ◌≤◌, ◌<◌}
use native.Mathlib.Omega.{arith}
use native.Mathlib.Decide.{ℕ_discrete, dec_lt}
use lib.ListN.{length, get_or, set, take, length-set}
use lib.Seq.{get_or-set_same, get_or-set_other, take-set-le}
use Rattle.rules.specs.Base.{◌or◌}
use Rattle.rules.specs.Field.{none}
use Rattle.rules.specs.Net.{near}
use Rattle.rules.specs.Growth.{takes, strays}
use Rattle.rules.specs.Refusals.{most_spans}
use Rattle.laws.proofs.Basics.{neither, either}
use Rattle.laws.proofs.NextId.{zeros, zeros_le, zeros-lower}
use Rattle.net.specs.Table.{net_at, last_place, Closed}
use Rattle.net.proofs.Tables.{net_same, near-at, net_inside}
use Rattle.flood.specs.Stack.{marks_at}
use Rattle.expand.specs.Layout.{list_at, noted, Sizes, Entries, Sight}
use Rattle.expand.specs.Front.{Up, Queued, Found, Board, Strayed, Moved, Tried, Sides, Beside, Spans, Entered}
use Rattle.expand.proofs.Lists.{length-list_at, get_or-list_at, four_else, four-first, four-second, four_third, four-last, marks_same}
use Rattle.expand.proofs.Halves.{zero_no, taken_yes}

-- ---------------------------------------------------------------- room

-- one flag falls, the others stay
zeros_fall : (ws ws' : List ℕ) (f n x : ℕ) → x < n → ((t : ℕ) → t < n → (t ≡ x → ⊥) → get_or ws' (f + t) 0 ≡ get_or ws (f + t) 0) → get_or ws' (f + x) 0 ≡ 0 → (get_or ws (f + x) 0 ≡ 0 → ⊥)
    → zeros (list_at ws f n) < zeros (list_at ws' f n)
zeros_fall ws ws' f n x h s z u =
    let l = length-list_at ws f n in
    let l' = length-list_at ws' f n in
    zeros-lower (list_at ws' f n) (list_at ws f n) x (l ∙ sym l')
    (λ t y g.
    let t< : t < n = omega arith in
    get_or-list_at ws' f n t t<
    ∙ elim (ℕ_discrete t x) [
      | yes e ↦ rw e z
      | no e ↦ s t t< e ∙ sym (get_or-list_at ws f n t t<) ∙ y
    ])
    (omega arith) (get_or-list_at ws' f n x h ∙ z) (λ y. u (sym (get_or-list_at ws f n x h) ∙ y))

-- ---------------------------------------------------------------- a change noted

-- the flag at i lies past the change at c, and both past the source distances
module _ (n i c s id far : ℕ) (ws : List ℕ) (hn : n ≤ c) (hi : c + 3 ≤ i) (room : i < length ws) where
  noted-length : length (noted i c s id far ws) ≡ length ws
  unfolding noted
  noted-length = simp length-set

  noted_else : (x : ℕ) → (x ≡ i → ⊥) → (x < c) ⊎ (c + 3 ≤ x) → get_or (noted i c s id far ws) x 0 ≡ get_or ws x 0
  unfolding noted
  noted_else x a u =
      four_else ws i c (c + 1) (c + 2) 0 s id far x a
      (λ g. ⊎_elim (λ (h : x < c). omega arith) (λ (h : c + 3 ≤ x). omega arith) u)
      (λ g. ⊎_elim (λ (h : x < c). omega arith) (λ (h : c + 3 ≤ x). omega arith) u)
      (λ g. ⊎_elim (λ (h : x < c). omega arith) (λ (h : c + 3 ≤ x). omega arith) u)

  noted_flag : get_or (noted i c s id far ws) i 0 ≡ 0
  unfolding noted
  noted_flag = four-first ws i c (c + 1) (c + 2) 0 s id far i refl room (λ q. omega arith) (λ q. omega arith) (λ q. omega arith)

  noted-span : get_or (noted i c s id far ws) c 0 ≡ s
  unfolding noted
  noted-span = four-second ws i c (c + 1) (c + 2) 0 s id far c refl (omega arith) (λ q. omega arith) (λ q. omega arith)

  noted_id : get_or (noted i c s id far ws) (c + 1) 0 ≡ id
  unfolding noted
  noted_id = four_third ws i c (c + 1) (c + 2) 0 s id far (c + 1) refl (omega arith) (λ q. omega arith)

  noted-far : get_or (noted i c s id far ws) (c + 2) 0 ≡ far
  unfolding noted
  noted-far = four-last ws i c (c + 1) (c + 2) 0 s id far (c + 2) refl (omega arith)

  noted_src : take n (noted i c s id far ws) ≡ take n ws
  unfolding noted
  noted_src =
      let w₁ = set ws i 0 in
      let w₂ = set w₁ c s in
      let w₃ = set w₂ (c + 1) id in
      take-set-le n w₃ (c + 2) far (omega arith) ∙ take-set-le n w₂ (c + 1) id (omega arith) ∙ take-set-le n w₁ c s (omega arith) ∙ take-set-le n ws i 0 (omega arith)

-- ---------------------------------------------------------------- one try

module _ (ar : List ℕ) (e b : ℕ) (ids ws : List ℕ) (k : ℕ) (o : Board (length ar) e b k ids ws) where
  -- nothing is noted, but a sum may exceed 65,535
  pub moved_nothing : (y y' : Bool) → (y' ≡ true → (y ≡ true) ⊎ Strayed ar e b ids ws) → (y' ≡ false → y ≡ false) → Moved ar e b ids ws k y ws k y'
  moved_nothing y y' stray still = record {
    size = refl;
    marks = refl;
    more = omega arith;
    free = o.free;
    kept = λ x l u. refl;
    past = λ x l u. refl;
    beyond = λ x l. refl;
    down = λ x h u. u;
    fall = λ x h u. inl u;
    inside = λ i l u. absurd (omega arith);
    lit = λ i l u. absurd (omega arith);
    right = λ i l u. absurd (omega arith);
    stray = stray;
    still = still;
    calm = λ _ i l u. absurd (omega arith);
  }

  pub moved_none : (y : Bool) → Moved ar e b ids ws k y ws k y
  moved_none y = moved_nothing y y (λ z. inl z) (λ z. z)

  module _ (x : ℕ) (h : x < length ar) (y : Up (length ar) e ws x) where
    -- the tries before gave w, and with this one it is c
    module _ (w c : Bool) (r : c ≡ w or strays (net_at b ar ws) (marks_at (length ar) ids ws) x) where
      stray_one : c ≡ true → (w ≡ true) ⊎ Strayed ar e b ids ws
      stray_one z = either ((w ≡ true) ⊎ Strayed ar e b ids ws) w (strays (net_at b ar ws) (marks_at (length ar) ids ws) x) (sym r ∙ z) (λ q. inl q) (λ q. inr (record { at = x; span = h; up = y; strays = q }))

      still_one : c ≡ false → (w ≡ false) × (strays (net_at b ar ws) (marks_at (length ar) ids ws) x ≡ false)
      still_one z = neither w (strays (net_at b ar ws) (marks_at (length ar) ids ws) x) (sym r ∙ z)

      -- it finds nothing
      pub moved_still : Moved ar e b ids ws k w ws k c
      moved_still = moved_nothing w c stray_one (λ z. (still_one z).0)

    pub spare : k < length ar
    spare =
        let r : e + 3 * length ar + x < length ws = omega (arith, o.past, o.room) in
        let z = zeros_fall ws (set ws (e + 3 * length ar + x) 0) (e + 3 * length ar) (length ar) x h (λ t g q. get_or-set_other ws (e + 3 * length ar + x) (e + 3 * length ar + t) 0 0 (λ p. q (omega arith))) (get_or-set_same ws (e + 3 * length ar + x) 0 0 r) y in
        omega (arith, o.free, z, zeros_le (list_at (set ws (e + 3 * length ar + x) 0) (e + 3 * length ar) (length ar)), length-list_at (set ws (e + 3 * length ar + x) 0) (e + 3 * length ar) (length ar))

    pub moved_one : (f id far : ℕ) → f ≡ e + 3 * length ar → Found (net_at b ar ws) (marks_at (length ar) ids ws) (length ar) x id far
        → (w c : Bool) → c ≡ w or strays (net_at b ar ws) (marks_at (length ar) ids ws) x
        → (ws' : List ℕ) → ws' ≡ noted (f + x) (e + 3 * k) x id far ws → Moved ar e b ids ws k w ws' (k + 1) c
    moved_one f id far p g w c r ws' q = rw (q, p) (go spare (omega (arith, o.low)) (omega (arith, spare)) (omega (arith, o.past, o.room)))
      where
        go : k < length ar → length ar ≤ e + 3 * k → e + 3 * k + 3 ≤ e + 3 * length ar + x → e + 3 * length ar + x < length ws
            → Moved ar e b ids ws k w (noted (e + 3 * length ar + x) (e + 3 * k) x id far ws) (k + 1) c
        go hk hn hi room =
            let W = noted (e + 3 * length ar + x) (e + 3 * k) x id far ws in
            let else' = noted_else (length ar) (e + 3 * length ar + x) (e + 3 * k) x id far ws hn hi room in
            let span' = noted-span (length ar) (e + 3 * length ar + x) (e + 3 * k) x id far ws hn hi room in
            record {
              size = noted-length (length ar) (e + 3 * length ar + x) (e + 3 * k) x id far ws hn hi room;
              marks = noted_src (length ar) (e + 3 * length ar + x) (e + 3 * k) x id far ws hn hi room;
              more = omega arith;
              free =
                  let z = zeros_fall ws W (e + 3 * length ar) (length ar) x h (λ t g q. else' (e + 3 * length ar + t) (λ p. q (omega arith)) (inr (omega arith))) (noted_flag (length ar) (e + 3 * length ar + x) (e + 3 * k) x id far ws hn hi room) y in
                  omega (arith, o.free, z);
              kept = λ z l u. else' z (λ p. omega arith) (inl u);
              past = λ z l u. else' z (λ p. omega arith) (inr (omega arith));
              beyond = λ z l. else' z (λ p. omega arith) (inr (omega arith));
              down = λ z l u. elim (ℕ_discrete z x) [
                | yes p ↦ rw p y
                | no p ↦ λ v. u (else' (e + 3 * length ar + z) (λ r. p (omega arith)) (inr (omega arith)) ∙ v)
              ];
              fall = λ z l u. elim (ℕ_discrete z x) [
                | yes p ↦ inr (record { at = k; from = omega arith; to = omega arith; is = span' ∙ sym p })
                | no p ↦ inl (λ v. u (sym (else' (e + 3 * length ar + z) (λ r. p (omega arith)) (inr (omega arith))) ∙ v))
              ];
              inside = λ i l u. let p : i ≡ k = omega arith in rw (p, span') h;
              lit = λ i l u. let p : i ≡ k = omega arith in rw (p, span') y;
              right = λ i l u.
                  let p : i ≡ k = omega arith in
                  rw (p, span', noted_id (length ar) (e + 3 * length ar + x) (e + 3 * k) x id far ws hn hi room, noted-far (length ar) (e + 3 * length ar + x) (e + 3 * k) x id far ws hn hi room) g;
              stray = stray_one w c r;
              still = λ z. (still_one w c r z).0;
              calm = λ z i l u. let p : i ≡ k = omega arith in rw (p, span') (still_one w c r z).1;
            }

    pub tried_one : (f id far : ℕ) → f ≡ e + 3 * length ar → (w : Bool) (ws' : List ℕ) → ws' ≡ noted (f + x) (e + 3 * k) x id far ws → Tried ar e b ids ws ws' w x
    tried_one f id far p w ws' q = record { calm = λ _ l u. absurd (down u); cold = λ l u. absurd (down u) }
      where
        down : Up (length ar) e ws' x → ⊥
        down u = u (rw (q, p)
            (noted_flag (length ar) (e + 3 * length ar + x) (e + 3 * k) x id far ws (omega (arith, o.low)) (omega (arith, spare)) (omega (arith, o.past, o.room))))

    pub note_room : e + 3 * k + 2 < length ws
    note_room = omega (arith, spare, o.past, o.room)

-- the flag is up, as the code tests it
pub up_is : (n e f x v : ℕ) (ws : List ℕ) → f ≡ e + 3 * n → v ≡ get_or ws (f + x) 0 → (v ≡ 0 → ⊥) → Up n e ws x
up_is n e f x v ws p q z y = z (q ∙ rw p y)

-- as the code has it
module _ (ar : List ℕ) (e b : ℕ) (ids ws : List ℕ) (x : ℕ) where
  pub board_sight : (k : ℕ) → Closed (net_at b ar ws) → Board (length ar) e b k ids ws → x < length ar → Sight b ar ids ws x
  board_sight k c o h = record { closed = c; room = o.room; close = o.close; idents = o.idents; low = omega (arith, o.low, o.past); span = h }

  pub tried_down : (w : Bool) (f v : ℕ) → f ≡ e + 3 * length ar → v ≡ get_or ws (f + x) 0 → v ≡ 0 → Tried ar e b ids ws ws w x
  tried_down w f v p q z = record { calm = λ _ h u. absurd (u (rw (← p) (sym q ∙ z))); cold = λ h u. absurd (u (rw (← p) (sym q ∙ z))) }

  pub tried_used : (w : Bool) (i s : ℕ) → s ≡ get_or ws i 0 → s ≡ none → length ar ≤ most_spans → Tried ar e b ids ws ws w (get_or ws i 0)
  tried_used w i s q z f = record { calm = λ _ h u. absurd (omega arith); cold = λ h u. absurd (omega arith) }

  pub tried_as : (w : Bool) (i s : ℕ) → s ≡ get_or ws i 0 → (ws' : List ℕ) → Tried ar e b ids ws ws' w s → Tried ar e b ids ws ws' w (get_or ws i 0)
  tried_as w i s q ws' t = rw (← q) t

  module _ (id far : ℕ) (g : record { id = id; far = far } ≡ takes (net_at b ar ws) (marks_at (length ar) ids ws) x) where
    pub tried_nothing : (w c : Bool) → c ≡ w or strays (net_at b ar ws) (marks_at (length ar) ids ws) x → id ≡ 0 → Tried ar e b ids ws ws c x
    tried_nothing w c r z = record { calm = λ q _ _. (neither w (strays (net_at b ar ws) (marks_at (length ar) ids ws) x) (sym r ∙ q)).1; cold = λ h u. zero_no (net_at b ar ws) (marks_at (length ar) ids ws) x id far g z }

    pub tried_found : x < length ar → length ar ≤ most_spans → (id ≡ 0 → ⊥) → Found (net_at b ar ws) (marks_at (length ar) ids ws) (length ar) x id far
    tried_found h f z = record {
      span = h;
      found = taken_yes (net_at b ar ws) (marks_at (length ar) ids ws) x id far g (λ q. omega arith) z;
      id_is = ap (λ (t : _). t.id) g;
      far_is = ap (λ (t : _). t.far) g;
    }

-- ---------------------------------------------------------------- one after another

module _ (ar : List ℕ) (e b : ℕ) (ids ws : List ℕ) (k : ℕ) (p : Bool) (ws₁ : List ℕ) (k₁ : ℕ) (p₁ : Bool) (o : Board (length ar) e b k ids ws)
    (v : Moved ar e b ids ws k p ws₁ k₁ p₁) where
  moved_past : (x : ℕ) → b ≤ x → get_or ws₁ x 0 ≡ get_or ws x 0
  moved_past x l = v.beyond x (omega (arith, o.past))

  -- the table is as it was
  moved_net : net_at b ar ws₁ ≡ net_at b ar ws
  moved_net = net_same b ar ws ws₁ o.room v.size moved_past

  pub moved_closed : Closed (net_at b ar ws) → Closed (net_at b ar ws₁)
  moved_closed x = rw moved_net x

  pub moved_board : Board (length ar) e b k₁ ids ws₁
  moved_board = record {
    few = o.few;
    idents = o.idents;
    low = o.low;
    past = o.past;
    room = omega (arith, o.room, v.size);
    close = o.close;
    most = omega (arith, v.free, zeros_le (list_at ws₁ (e + 3 * length ar) (length ar)), length-list_at ws₁ (e + 3 * length ar) (length ar));
    free = v.free;
  }

  moved_marks : marks_at (length ar) ids ws₁ ≡ marks_at (length ar) ids ws
  moved_marks = marks_same (length ar) ids ws ws₁ v.marks

  module _ (ws₂ : List ℕ) (k₂ : ℕ) (p₂ : Bool) (u : Moved ar e b ids ws₁ k₁ p₁ ws₂ k₂ p₂) where
    queued_on : (x : ℕ) → Queued ws₁ e k k₁ x → Queued ws₂ e k k₂ x
    queued_on x q = record {
      at = q.at;
      from = q.from;
      to = omega (arith, q.to, u.more);
      is = u.kept (e + 3 * q.at) (omega (arith, o.low)) (omega (arith, q.to)) ∙ q.is;
    }

    pub moved_then : Moved ar e b ids ws k p ws₂ k₂ p₂
    moved_then = record {
      size = u.size ∙ v.size;
      marks = u.marks ∙ v.marks;
      more = omega (arith, v.more, u.more);
      free = u.free;
      kept = λ x l h. u.kept x l (omega (arith, v.more)) ∙ v.kept x l h;
      past = λ x l h. u.past x l h ∙ v.past x (omega (arith, u.more)) h;
      beyond = λ x l. u.beyond x l ∙ v.beyond x l;
      down = λ x h y. v.down x h (u.down x h y);
      fall = λ x h y.
          ⊎_elim
          (λ (z : Up (length ar) e ws₁ x).
          ⊎_elim (λ (t : Up (length ar) e ws₂ x). inl t)
          (λ (t : Queued ws₂ e k₁ k₂ x). inr (record { at = t.at; from = omega (arith, t.from, v.more); to = t.to; is = t.is })) (u.fall x h z))
          (λ (z : Queued ws₁ e k k₁ x). inr (queued_on x z)) (v.fall x h y);
      inside = λ i l h. elim (dec_lt i k₁) [
        | yes g ↦ rw (u.kept (e + 3 * i) (omega (arith, o.low)) (omega arith)) (v.inside i l g)
        | no g ↦ u.inside i (omega arith) h
      ];
      lit = λ i l h. elim (dec_lt i k₁) [
        | yes g ↦ rw (u.kept (e + 3 * i) (omega (arith, o.low)) (omega arith)) (v.lit i l g)
        | no g ↦ v.down _ (u.inside i (omega arith) h) (u.lit i (omega arith) h)
      ];
      right = λ i l h. elim (dec_lt i k₁) [
        | yes g ↦ rw (u.kept (e + 3 * i) (omega (arith, o.low)) (omega arith), u.kept (e + 3 * i + 1) (omega (arith, o.low)) (omega arith), u.kept (e + 3 * i + 2) (omega (arith, o.low)) (omega arith)) (v.right i l g)
        | no g ↦ rw (moved_net, moved_marks) at (u.right i (omega arith) h)
      ];
      stray = λ z. ⊎_elim (λ (y : p₁ ≡ true). v.stray y)
          (λ (y : Strayed ar e b ids ws₁). inr (record { at = y.at; span = y.span; up = v.down y.at y.span y.up; strays = rw (moved_net, moved_marks) at y.strays }))
          (u.stray z);
      still = λ z. v.still (u.still z);
      calm = λ z i l h. elim (dec_lt i k₁) [
        | yes g ↦ rw (u.kept (e + 3 * i) (omega (arith, o.low)) (omega arith)) (v.calm (u.still z) i l g)
        | no g ↦ rw (moved_net, moved_marks) at (u.calm z i (omega arith) h)
      ];
    }

    -- what was tried stays so; and what is tried then counts from the start
    tried_on : (x : ℕ) → Tried ar e b ids ws ws₁ p₁ x → Tried ar e b ids ws ws₂ p₂ x
    tried_on x c = record { calm = λ z h y. c.calm (u.still z) h (u.down x h y); cold = λ h y. c.cold h (u.down x h y) }

    tried_then : (x : ℕ) → Tried ar e b ids ws₁ ws₂ p₂ x → Tried ar e b ids ws ws₂ p₂ x
    tried_then x c = record { calm = λ z h y. rw (moved_net, moved_marks) at (c.calm z h y); cold = λ h y. rw (moved_net, moved_marks) at (c.cold h y) }

    pub sides_next : (s d : ℕ) → Sides ar e b ids ws ws₁ p₁ s d → d < 4 → Tried ar e b ids ws₁ ws₂ p₂ (near (net_at b ar ws₁) s d) → Sides ar e b ids ws ws₂ p₂ s (d + 1)
    sides_next s d c h t = record {
      few = omega arith;
      tried = λ j y. elim (dec_lt j d) [
        | yes z ↦ tried_on _ (c.tried j z)
        | no z ↦ (let q : j ≡ d = omega arith in rw q (tried_then _ (rw moved_net at t)))
      ];
    }

    sides_on : (s : ℕ) → Sides ar e b ids ws ws₁ p₁ s 4 → Sides ar e b ids ws ws₂ p₂ s 4
    sides_on s c = record { few = c.few; tried = λ j y. tried_on _ (c.tried j y) }

    sides_then : (s : ℕ) → Sides ar e b ids ws₁ ws₂ p₂ s 4 → Sides ar e b ids ws ws₂ p₂ s 4
    sides_then s c = record { few = c.few; tried = λ j y. tried_then _ (rw moved_net at (c.tried j y)) }

    pub beside_next : (lo i s : ℕ) → Beside ar e b ids ws ws₁ p₁ lo i → i < k → s ≡ get_or ws₁ (e + 3 * i) 0 → Sides ar e b ids ws₁ ws₂ p₂ s 4 → Beside ar e b ids ws ws₂ p₂ lo (i + 1)
    beside_next lo i s c h q t = record {
      tried = λ j g y. elim (dec_lt j i) [
        | yes p ↦ sides_on _ (c.tried j g p)
        | no p ↦ (let r : j ≡ i = omega arith in
            let x : s ≡ get_or ws (e + 3 * i) 0 = q ∙ v.kept (e + 3 * i) (omega (arith, o.low)) (omega arith) in
            rw (r, ← x) (sides_then s t))
      ];
    }

    pub entered_next : (a fill j : ℕ) → Sizes (length ar) a e b ids ws → Entries (length ar) a fill ws → j < fill → Entered ar a e b ids ws ws₁ p₁ j
        → Tried ar e b ids ws₁ ws₂ p₂ (get_or ws₁ (a + j) 0) → Entered ar a e b ids ws ws₂ p₂ (j + 1)
    entered_next a fill j z f h c t = record {
      tried = λ i y. elim (dec_lt i j) [
        | yes p ↦ tried_on _ (c.tried i p)
        | no p ↦ (let r : i ≡ j = omega arith in
            let x : get_or ws₁ (a + j) 0 ≡ get_or ws (a + j) 0 = v.kept (a + j) (omega (arith, z.low)) (omega (arith, z.apart, f.filled)) in
            rw (r, ← x) (tried_then _ t))
      ];
    }

-- ---------------------------------------------------------------- the four directions of a span

module _ (ar : List ℕ) (e b : ℕ) (ids ws : List ℕ) (s d x k : ℕ) (c : Closed (net_at b ar ws)) (o : Board (length ar) e b k ids ws) (g : s < length ar) (h : d < 4)
    (q : x ≡ get_or ws (b + (4 * s + d)) 0) where
  side_is : near (net_at b ar ws) s d ≡ x
  side_is = near-at b ar ws s d o.room g h ∙ sym q

  pub side_inside : (x ≡ none → ⊥) → x < length ar
  side_inside z = net_inside b ar ws s d x c o.room g h q z

  pub side-none : (w : Bool) → x ≡ none → Tried ar e b ids ws ws w (near (net_at b ar ws) s d)
  side-none w z = record { calm = λ _ l u. absurd (omega (arith, side_is, o.few)); cold = λ l u. absurd (omega (arith, side_is, o.few)) }

  pub side_tried : (w : Bool) (ws' : List ℕ) → Tried ar e b ids ws ws' w x → Tried ar e b ids ws ws' w (near (net_at b ar ws) s d)
  side_tried w ws' t = rw side_is t

module _ (ar : List ℕ) (e b : ℕ) (ids ws : List ℕ) where
  pub board_slot : (s d k : ℕ) → Board (length ar) e b k ids ws → s < length ar → d < 4 → b + (4 * s + d) < length ws
  board_slot s d k o g h = omega (arith, o.room)

  pub board_small : (s k : ℕ) → Board (length ar) e b k ids ws → s < length ar → s < 65536
  board_small s k o g = omega (arith, o.few)

  pub sides_start : (w : Bool) (s : ℕ) → Sides ar e b ids ws ws w s 0
  sides_start w s = record { few = omega arith; tried = λ k h. absurd (omega arith) }

  pub sides_end : (w : Bool) (ws' : List ℕ) (s d : ℕ) → Sides ar e b ids ws ws' w s d → 4 ≤ d → Sides ar e b ids ws ws' w s 4
  sides_end w ws' s d v h = let q : d ≡ 4 = omega (arith, v.few) in rw q at v

  -- ---------------------------------------------------------------- changes, and entries, one after another

  pub beside_start : (w : Bool) (lo : ℕ) → Beside ar e b ids ws ws w lo lo
  beside_start w lo = record { tried = λ j g y. absurd (omega arith) }

  pub entered_start : (w : Bool) (a : ℕ) → Entered ar a e b ids ws ws w 0
  entered_start w a = record { tried = λ j y. absurd (omega arith) }

  pub beside_span : (k : ℕ) (w : Bool) (ws₁ : List ℕ) (k₁ : ℕ) (w₁ : Bool) → Board (length ar) e b k ids ws → Moved ar e b ids ws k w ws₁ k₁ w₁ → (lo i s : ℕ) → Spans (length ar) e lo k ws → lo ≤ i → i < k
      → s ≡ get_or ws₁ (e + 3 * i) 0 → s < length ar
  beside_span k w ws₁ k₁ w₁ o m lo i s v g h q = rw (q ∙ m.kept (e + 3 * i) (omega (arith, o.low)) (omega arith)) (v.span i g h)

  module _ (a fill j k₁ : ℕ) (w w₁ : Bool) (ws₁ : List ℕ) (m : Moved ar e b ids ws 0 w ws₁ k₁ w₁) (z : Sizes (length ar) a e b ids ws) (f : Entries (length ar) a fill ws) (h : j < fill) where
    pub entered_entry : (get_or ws₁ (a + j) 0 ≡ none → ⊥) → get_or ws₁ (a + j) 0 < length ar
    entered_entry y =
        let u = m.kept (a + j) (omega (arith, z.low)) (omega (arith, z.apart, f.filled)) in
        rw u (f.spans j h (λ q. y (u ∙ q)))

    pub entered_at : a + j < length ws₁
    entered_at = omega (arith, m.size, z.apart, z.past, z.room, f.filled)

  pub entered_small : (a fill j : ℕ) → Sizes (length ar) a e b ids ws → Entries (length ar) a fill ws → j < fill → a + j ≤ last_place
  entered_small a fill j z f h = omega (arith, z.apart, z.past, z.close, f.filled)

  pub beside_end : (w : Bool) (ws' : List ℕ) (lo i hi : ℕ) → Beside ar e b ids ws ws' w lo i → i ≤ hi → hi ≤ i → Beside ar e b ids ws ws' w lo hi
  beside_end w ws' lo i hi v g h = let q : i ≡ hi = omega arith in rw q at v

  pub entered_end : (a : ℕ) (w : Bool) (ws' : List ℕ) (j fill : ℕ) → Entered ar a e b ids ws ws' w j → j ≤ fill → fill ≤ j → Entered ar a e b ids ws ws' w fill
  entered_end a w ws' j fill v g h = let q : j ≡ fill = omega arith in rw q at v
