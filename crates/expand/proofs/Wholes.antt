-- All rounds: those still to come give what all of them give (`Going`). Flags and changes stand where zeros stood, so nothing but source distances
-- and those two sections differs. Assumes nothing.
use mathlib.Core.Path.{◌≡◌, refl, sym, ap, ◌∙◌}
use mathlib.Core.Bool.{Bool, true, false, false≢true}
use mathlib.Core.Logic.{⊎_elim}
use mathlib.Core.List.{List}
use Prim.Native.Nat.{ℕ, suc, ◌+◌, ◌-◌, ◌*◌, ◌≤◌, ◌<◌}
use native.Mathlib.Omega.{arith}
use lib.ListN.{length, get_or}
use Rattle.rules.specs.Base.{any}
use Rattle.rules.specs.Net.{Net}
use Rattle.rules.specs.Growth.{finds, strays, Spread, rounds, rounds_stray}
use Rattle.rules.specs.Reasons.{Story, round_tells, rounds_tell}
use Rattle.laws.proofs.NextId.{zeros, zeros_le}
use Rattle.space.proofs.Laws.{cases}
use Rattle.net.specs.Table.{net_at, Closed, Mutual}
use Rattle.net.proofs.Tables.{net_same, spans-at}
use Rattle.flood.specs.Stack.{marks_at}
use Rattle.expand.specs.Layout.{list_at, Past, Ok}
use Rattle.expand.specs.Front.{Up, Entry, Board, Strayed, Moved, Beside, Spans, Entered, Writing, front_of, Lit, Begun, Watched, Going, Gone}
use Rattle.expand.specs.Told.{RoundTold}
use Rattle.expand.proofs.Tellings.{front_told, tells_on, tells_off, tells_none}
use Rattle.expand.proofs.Lists.{list_at_cong, length-list_at, marks_same}
use Rattle.expand.proofs.Waves.{stray_first, stray_on, stray_off, stray_none, rounds-none}
use Rattle.expand.proofs.Fronts.{front_marks, front_same, front_tried, front_stray, front_calm, front_next, next_stray, next_still, front_round, round_ok, round_only, front_still, front_finds, front_off, front_on}

free_few : (ws : List ℕ) (f n k : ℕ) → k ≤ zeros (list_at ws f n) → k ≤ n
free_few ws f n k h = omega (arith, zeros_le (list_at ws f n), length-list_at ws f n)

strayed : (N : Net) (k : ℕ) (p : Spread) → 0 < k → any (strays N p.marks) p.stack ≡ true → rounds_stray N k p ≡ true
strayed N k p h z = let s : k ≡ suc (k - 1) = omega arith in rw s (stray_first N (k - 1) p z)

-- o is what all rounds give, if without a sum above 65,535 so far there is none to come
watched_end : (N : Net) (most : ℕ) (p₀ : Spread) (o : Bool) (more : ℕ) (p : Spread) → Watched N most p₀ o more p
    → (any (strays N p.marks) p.stack ≡ false → rounds_stray N more p ≡ false) → o ≡ rounds_stray N most p₀
watched_end N most p₀ true more p v h = sym (v.yes refl)
watched_end N most p₀ false more p v h = sym (v.no refl ∙ h (v.calm refl))

pub mutual_closed : (N : Net) → Mutual N → Closed N
mutual_closed N x = x.closed

module _ (ar : List ℕ) (a e b fill most : ℕ) (ids₀ ws₀ : List ℕ) (x : Mutual (net_at b ar ws₀)) (z : Lit (length ar) a e b fill ids₀ ws₀) where
  pub lit_board : Board (length ar) e b 0 ids₀ ws₀
  lit_board = record {
    few = z.sizes.few;
    idents = z.sizes.idents;
    low = omega (arith, z.sizes.low, z.sizes.apart);
    past = z.sizes.past;
    room = z.sizes.room;
    close = z.sizes.close;
    most = omega arith;
    free = omega arith;
  }

  module _ (ws : List ℕ) (k : ℕ) (w : Bool) (m : Moved ar e b ids₀ ws₀ 0 false ws k w) where
    moved_past : (s : ℕ) → b ≤ s → get_or ws s 0 ≡ get_or ws₀ s 0
    moved_past s h = m.beyond s (omega (arith, z.sizes.past))

    tried_net : net_at b ar ws ≡ net_at b ar ws₀
    tried_net = net_same b ar ws₀ ws z.sizes.room m.size moved_past

    same_front : front_of (length ar) a fill ids₀ ws ≡ front_of (length ar) a fill ids₀ ws₀
    same_front = front_same (length ar) a fill ids₀ ws₀ ws m.marks (λ y g u. m.kept y (omega (arith, z.sizes.low)) (omega (arith, z.sizes.apart, z.entries.filled)))

    pub tried_mutual : Mutual (net_at b ar ws)
    tried_mutual = rw tried_net x

    pub tried_begun : Begun (length ar) a e b fill ids₀ ws
    tried_begun = record {
      sizes = record { few = z.sizes.few; idents = z.sizes.idents; low = z.sizes.low; apart = z.sizes.apart; past = z.sizes.past; room = omega (arith, z.sizes.room, m.size); close = z.sizes.close };
      filled = z.entries.filled;
    }

    only_held : (s : ℕ) → s < length ar → Up (length ar) e ws₀ s → Entry ws₀ a fill s × (get_or ids₀ s 0 ≡ 0)
    only_held s g u = let n = z.only s g u in (n, z.bare s g n)

    module _ (t : Entered ar a e b ids₀ ws₀ ws w fill) where
      tried_cold : (s : ℕ) → s < length ar → Up (length ar) e ws s → finds (net_at b ar ws₀) (marks_at (length ar) ids₀ ws₀) s ≡ false
      tried_cold s g u = let n = z.only s g (m.down s g u) in (rw n.is at (t.tried n.at n.below).cold) g u

      tried_calm : w ≡ false → (s : ℕ) → s < length ar → Up (length ar) e ws s → strays (net_at b ar ws₀) (marks_at (length ar) ids₀ ws₀) s ≡ false
      tried_calm q s g u = let n = z.only s g (m.down s g u) in (rw n.is at (t.tried n.at n.below).calm) q g u

      first_stray : Strayed ar e b ids₀ ws₀ → any (strays (net_at b ar ws) (front_of (length ar) a fill ids₀ ws).marks) (front_of (length ar) a fill ids₀ ws).stack ≡ true
      first_stray y = rw (front_marks (length ar) a fill ids₀ ws, marks_same (length ar) ids₀ ws₀ ws m.marks, tried_net)
          (front_stray ar a e b fill ids₀ ws₀ 0 false ws k w z.sizes.low z.sizes.apart z.entries.filled z.ok m only_held (λ s g n _. z.up s g n) tried_cold y)

      first_calm : w ≡ false → any (strays (net_at b ar ws) (front_of (length ar) a fill ids₀ ws).marks) (front_of (length ar) a fill ids₀ ws).stack ≡ false
      first_calm q = rw (front_marks (length ar) a fill ids₀ ws, marks_same (length ar) ids₀ ws₀ ws m.marks, tried_net)
          (front_calm ar a e b fill ids₀ ws₀ 0 false ws k w z.sizes.low z.sizes.apart z.entries.filled z.ok m only_held (λ s g n _. z.up s g n) tried_cold q (tried_calm q))

      -- what the first round changes is noted
      pub going_start : 0 < most → Going ar a e b fill most ids₀ ws ids₀ ws 0 k w most
      going_start h = record {
        some = h;
        order = omega arith;
        size₁ = refl;
        size₂ = refl;
        kept = λ y l u. refl;
        beyond = λ y l. refl;
        rest = λ y l u. m.past y l u ∙ z.clear.blank y (omega arith) u;
        free = m.free;
        front = rw tried_net (front_tried ar a e b fill ids₀ ws₀ 0 false ws k w z.sizes.low z.sizes.apart z.entries.filled z.ok m only_held (λ s g n _. z.up s g n) tried_cold);
        same = refl;
        watched = record {
          yes = λ q. ⊎_elim (λ (y : false ≡ true). absurd (false≢true y)) (λ (y : Strayed ar e b ids₀ ws₀). strayed (net_at b ar ws) most (front_of (length ar) a fill ids₀ ws) h (first_stray y)) (m.stray q);
          no = λ _. refl;
          calm = first_calm;
        };
      }

    -- from before the first
    pub gone_from : (ids ws' : List ℕ) (r : ℕ) (o : Bool) → Gone ar a e b fill most ids₀ ws ids ws' r o → Gone ar a e b fill most ids₀ ws₀ ids ws' r o
    gone_from ids ws' r o g = record {
      size₁ = g.size₁;
      size₂ = g.size₂ ∙ m.size;
      kept = λ y l u. g.kept y l u ∙ m.kept y l (omega arith);
      beyond = λ y l. g.beyond y l ∙ m.beyond y l;
      few = g.few;
      rest = g.rest;
      only = g.only;
      ok = g.ok;
      same = rw tried_net at g.same ∙ ap (rounds (net_at b ar ws₀) most) same_front;
      stray = rw tried_net at g.stray ∙ ap (rounds_stray (net_at b ar ws₀) most) same_front;
    }

    pub told_from : (y s : Story) → s ≡ rounds_tell (net_at b ar ws) most (front_of (length ar) a fill ids₀ ws) y → s ≡ rounds_tell (net_at b ar ws₀) most (front_of (length ar) a fill ids₀ ws₀) y
    told_from y s t = rw tried_net at t ∙ ap (λ (p : Spread). rounds_tell (net_at b ar ws₀) most p y) same_front

-- rounds, from where the first one's changes are noted
module _ (ar : List ℕ) (a e b fill most : ℕ) (ids₀ ws₀ : List ℕ) (x : Mutual (net_at b ar ws₀)) (z : Begun (length ar) a e b fill ids₀ ws₀) where
  module _ (ids ws : List ℕ) (lo hi : ℕ) (w : Bool) (more : ℕ) (v : Going ar a e b fill most ids₀ ws₀ ids ws lo hi w more) where
    sized : length ids ≡ length ar
    sized = v.size₁ ∙ z.sizes.idents

    few_hi : hi ≤ length ar
    few_hi = free_few ws (e + 3 * length ar) (length ar) hi v.free

    room_ws : length ar ≤ length ws
    room_ws = omega (arith, z.sizes.room, v.size₂)

    pub going-part : Past (length ids) e (e + 3 * length ids) ws
    going-part = rw sized (record {
      few = z.sizes.few;
      low = omega (arith, z.sizes.low, z.sizes.apart);
      room = omega (arith, z.sizes.past, z.sizes.room, v.size₂);
      close = omega (arith, z.sizes.past, z.sizes.close);
    })

    pub going-spans : Spans (length ids) e lo hi ws
    going-spans = rw sized (record { order = v.order; span = λ i l u. (v.front.right i l u).span })

    pub going_few : hi ≤ length ids
    going_few = rw sized few_hi

    going_only : (s : ℕ) → s < length ar → Up (length ar) e ws s → Entry ws a fill s
    going_only s h u = (v.front.cold s h u).0

    net_now : net_at b ar ws ≡ net_at b ar ws₀
    net_now = net_same b ar ws₀ ws z.sizes.room v.size₂ (λ s h. v.beyond s (omega (arith, z.sizes.past)))

    -- what the watched span's story asks for
    pub going-closed : Closed (net_at b ar ws)
    going-closed = rw net_now x.closed

    pub going_board : Board (length ar) e b hi ids ws
    going_board = record {
      few = z.sizes.few;
      idents = sized;
      low = omega (arith, z.sizes.low, z.sizes.apart);
      past = z.sizes.past;
      room = omega (arith, z.sizes.room, v.size₂);
      close = z.sizes.close;
      most = few_hi;
      free = v.free;
    }

    pub going_changes : Spans (length ar) e lo hi ws
    going_changes = record { order = v.order; span = λ i l u. (v.front.right i l u).span }

    -- y₀ is the story before the rounds, y the one so far: what is left to tell is what is left of the whole
    pub told-end : (y₀ y : Story)
        → rounds_tell (net_at b ar ws₀) most (front_of (length ar) a fill ids₀ ws₀) y₀ ≡ rounds_tell (net_at b ar ws₀) more (front_of (length ar) a fill ids ws) y
        → hi ≤ lo → y ≡ rounds_tell (net_at b ar ws₀) most (front_of (length ar) a fill ids₀ ws₀) y₀
    told-end y₀ y t h =
        let s : more ≡ suc (more - 1) = omega (arith, v.some) in
        sym (t ∙ rw s (tells_off (net_at b ar ws₀) (more - 1) (front_of (length ar) a fill ids ws) y
        (front_still (net_at b ar ws₀) (length ar) a e fill ids ws lo hi v.front room_ws z.sizes.few h v.order)))

    -- nothing is noted
    pub going_end : hi ≤ lo → Gone ar a e b fill most ids₀ ws₀ ids ws hi w
    going_end h = record {
      size₁ = v.size₁;
      size₂ = v.size₂;
      kept = v.kept;
      beyond = v.beyond;
      few = few_hi;
      rest = v.rest;
      only = going_only;
      ok = v.front.ok;
      same = sym (front_off (net_at b ar ws₀) (length ar) a e fill ids ws lo hi v.front room_ws z.sizes.few more h v.order v.some) ∙ v.same;
      stray = watched_end (net_at b ar ws₀) most (front_of (length ar) a fill ids₀ ws₀) w more (front_of (length ar) a fill ids ws) v.watched (λ c.
          let s : more ≡ suc (more - 1) = omega (arith, v.some) in
          rw s (stray_off (net_at b ar ws₀) (more - 1) (front_of (length ar) a fill ids ws) c
          (front_still (net_at b ar ws₀) (length ar) a e fill ids ws lo hi v.front room_ws z.sizes.few h v.order)));
    }

    module _ (ids₁ ws₁ : List ℕ) (y : Writing (length ids) e lo hi ids ws ids₁ ws₁ hi) (g : lo < hi) where
      made : Writing (length ar) e lo hi ids ws ids₁ ws₁ hi
      made = rw sized at y

      low_e : length ar ≤ e
      low_e = omega (arith, z.sizes.low, z.sizes.apart)

      size_ws₁ : length ws₁ ≡ length ws₀
      size_ws₁ = made.size₂ ∙ v.size₂

      past₁ : (s : ℕ) → b ≤ s → get_or ws₁ s 0 ≡ get_or ws₀ s 0
      past₁ s h = made.kept s (omega (arith, z.sizes.past, low_e)) ∙ v.beyond s (omega (arith, z.sizes.past))

      net₁ : net_at b ar ws₁ ≡ net_at b ar ws₀
      net₁ = net_same b ar ws₀ ws₁ z.sizes.room size_ws₁ past₁

      pub written-closed : Closed (net_at b ar ws₁)
      written-closed = rw net₁ x.closed

      ok₁ : Ok (length ar) (front_of (length ar) a fill ids₁ ws₁)
      ok₁ = round_ok (net_at b ar ws₀) (length ar) a e fill ids ws lo hi v.front v.order room_ws z.sizes.few ids₁ ws₁ made z.sizes.low

      pub written_board : Board (length ar) e b hi ids₁ ws₁
      written_board = record {
        few = z.sizes.few;
        idents = made.size₁ ∙ sized;
        low = low_e;
        past = z.sizes.past;
        room = omega (arith, z.sizes.room, size_ws₁);
        close = z.sizes.close;
        most = few_hi;
        free = rw (list_at_cong ws ws₁ (e + 3 * length ar) (length ar) (λ s l u. made.kept s (omega (arith, low_e)))) v.free;
      }

      pub written-spans : Spans (length ar) e lo hi ws₁
      written-spans = record { order = v.order; span = λ i l u. rw (made.kept (e + 3 * i) (omega (arith, low_e))) (v.front.right i l u).span }

      same₁ : rounds (net_at b ar ws₀) (more - 1) (front_of (length ar) a fill ids₁ ws₁) ≡ rounds (net_at b ar ws₀) most (front_of (length ar) a fill ids₀ ws₀)
      same₁ =
          ap (rounds (net_at b ar ws₀) (more - 1)) (front_round (net_at b ar ws₀) (length ar) a e fill ids ws lo hi v.front v.order room_ws z.sizes.few ids₁ ws₁ made z.sizes.low)
          ∙ sym (front_on (net_at b ar ws₀) (length ar) a e fill ids ws lo hi v.front room_ws z.sizes.few more g v.some) ∙ v.same

      finds₁ : any (finds (net_at b ar ws₀) (front_of (length ar) a fill ids ws).marks) (front_of (length ar) a fill ids ws).stack ≡ true
      finds₁ = front_finds (net_at b ar ws₀) (length ar) a e fill ids ws lo hi v.front room_ws z.sizes.few g

      stray₁ : any (strays (net_at b ar ws₀) (front_of (length ar) a fill ids ws).marks) (front_of (length ar) a fill ids ws).stack ≡ false
          → rounds_stray (net_at b ar ws₀) more (front_of (length ar) a fill ids ws) ≡ rounds_stray (net_at b ar ws₀) (more - 1) (front_of (length ar) a fill ids₁ ws₁)
      stray₁ c =
          let s : more ≡ suc (more - 1) = omega (arith, v.some) in
          ap (λ (k : ℕ). rounds_stray (net_at b ar ws₀) k (front_of (length ar) a fill ids ws)) s
          ∙ stray_on (net_at b ar ws₀) (more - 1) (front_of (length ar) a fill ids ws) c finds₁
          ∙ ap (rounds_stray (net_at b ar ws₀) (more - 1)) (sym (front_round (net_at b ar ws₀) (length ar) a e fill ids ws lo hi v.front v.order room_ws z.sizes.few ids₁ ws₁ made z.sizes.low))

      told₁ : (y₀ s s' : Story)
          → rounds_tell (net_at b ar ws₀) most (front_of (length ar) a fill ids₀ ws₀) y₀ ≡ rounds_tell (net_at b ar ws₀) more (front_of (length ar) a fill ids ws) s
          → RoundTold (net_at b ar ws) (marks_at (length ar) ids ws) ws e lo hi s s'
          → rounds_tell (net_at b ar ws₀) most (front_of (length ar) a fill ids₀ ws₀) y₀ ≡ rounds_tell (net_at b ar ws₀) (more - 1) (front_of (length ar) a fill ids₁ ws₁) s'
      told₁ y₀ s s' t r =
          let q : more ≡ suc (more - 1) = omega (arith, v.some) in
          let f = front_told (net_at b ar ws₀) (length ar) a e fill ids ws lo hi v.front v.order room_ws z.sizes.few s s' (rw net_now at r) in
          t ∙ ap (λ (k : ℕ). rounds_tell (net_at b ar ws₀) k (front_of (length ar) a fill ids ws) s) q
          ∙ tells_on (net_at b ar ws₀) (more - 1) (front_of (length ar) a fill ids ws) s finds₁
          ∙ ap (λ (p : Spread). rounds_tell (net_at b ar ws₀) (more - 1) p (round_tells (net_at b ar ws₀) (front_of (length ar) a fill ids ws) s))
          (sym (front_round (net_at b ar ws₀) (length ar) a e fill ids ws lo hi v.front v.order room_ws z.sizes.few ids₁ ws₁ made z.sizes.low))
          ∙ ap (rounds_tell (net_at b ar ws₀) (more - 1) (front_of (length ar) a fill ids₁ ws₁)) (sym f)

      pub told-last : (y₀ s s' : Story)
          → rounds_tell (net_at b ar ws₀) most (front_of (length ar) a fill ids₀ ws₀) y₀ ≡ rounds_tell (net_at b ar ws₀) more (front_of (length ar) a fill ids ws) s
          → RoundTold (net_at b ar ws) (marks_at (length ar) ids ws) ws e lo hi s s'
          → more ≡ 1 → s' ≡ rounds_tell (net_at b ar ws₀) most (front_of (length ar) a fill ids₀ ws₀) y₀
      told-last y₀ s s' t r q =
          let p : more - 1 ≡ 0 = omega arith in
          sym (told₁ y₀ s s' t r ∙ rw p (tells_none (net_at b ar ws₀) (front_of (length ar) a fill ids₁ ws₁) s'))

      -- the last round is made
      pub going-last : more ≡ 1 → Gone ar a e b fill most ids₀ ws₀ ids₁ ws₁ hi w
      going-last q = record {
        size₁ = made.size₁ ∙ v.size₁;
        size₂ = size_ws₁;
        kept = λ s l u. made.kept s l ∙ v.kept s l u;
        beyond = λ s l. made.kept s (omega (arith, low_e)) ∙ v.beyond s l;
        few = few_hi;
        rest = λ s l u. made.kept s (omega (arith, low_e)) ∙ v.rest s l u;
        only = λ s h u. (round_only (net_at b ar ws₀) (length ar) a e fill ids ws lo hi v.front v.order room_ws z.sizes.few ids₁ ws₁ made z.sizes.low low_e s h u).0;
        ok = ok₁;
        same = let p : more - 1 ≡ 0 = omega arith in sym (rounds-none (net_at b ar ws₀) (front_of (length ar) a fill ids₁ ws₁)) ∙ rw p at same₁;
        stray = watched_end (net_at b ar ws₀) most (front_of (length ar) a fill ids₀ ws₀) w more (front_of (length ar) a fill ids ws) v.watched (λ c.
            let p : more - 1 ≡ 0 = omega arith in
            stray₁ c ∙ rw p (stray_none (net_at b ar ws₀) (front_of (length ar) a fill ids₁ ws₁)));
      }

      module _ (ws₂ : List ℕ) (k : ℕ) (w₂ : Bool) (m : Moved ar e b ids₁ ws₁ hi w ws₂ k w₂) (t : Beside ar e b ids₁ ws₁ ws₂ w₂ lo hi) where
        front₂ : front_of (length ar) a fill ids₁ ws₂ ≡ front_of (length ar) a fill ids₁ ws₁
        front₂ = front_same (length ar) a fill ids₁ ws₁ ws₂ m.marks (λ s l u. m.kept s (omega (arith, z.sizes.low)) (omega (arith, z.sizes.apart, z.filled)))

        strayed₂ : Strayed ar e b ids₁ ws₁ → any (strays (net_at b ar ws₀) (front_of (length ar) a fill ids₁ ws₂).marks) (front_of (length ar) a fill ids₁ ws₂).stack ≡ true
        strayed₂ = next_stray ar a e b fill ids ws lo hi (net_at b ar ws₀) v.front v.order room_ws z.sizes.few z.sizes.low z.sizes.apart z.filled ids₁ ws₁ made
            net₁ x (spans-at b ar ws₀) w ws₂ k w₂ m t

        -- what all rounds compute, once this one is made
        watched₂ : 0 < more - 1 → Watched (net_at b ar ws₀) most (front_of (length ar) a fill ids₀ ws₀) w₂ (more - 1) (front_of (length ar) a fill ids₁ ws₂)
        watched₂ h = record {
          yes = λ q. ⊎_elim (λ (y : w ≡ true). v.watched.yes y)
              (λ (y : Strayed ar e b ids₁ ws₁). ⊎_elim (λ (p : w ≡ true). v.watched.yes p)
              (λ (p : w ≡ false). no₁ p ∙ strayed (net_at b ar ws₀) (more - 1) (front_of (length ar) a fill ids₁ ws₂) h (strayed₂ y)) (cases w))
              (m.stray q);
          no = λ q. no₁ (m.still q);
          calm = λ q. next_still ar a e b fill ids ws lo hi (net_at b ar ws₀) v.front v.order room_ws z.sizes.few z.sizes.low z.sizes.apart z.filled ids₁ ws₁ made
              net₁ x (spans-at b ar ws₀) w ws₂ k w₂ m t q (v.watched.calm (m.still q));
        }
          where
            no₁ : w ≡ false → rounds_stray (net_at b ar ws₀) most (front_of (length ar) a fill ids₀ ws₀) ≡ rounds_stray (net_at b ar ws₀) (more - 1) (front_of (length ar) a fill ids₁ ws₂)
            no₁ p = v.watched.no p ∙ stray₁ (v.watched.calm p) ∙ ap (rounds_stray (net_at b ar ws₀) (more - 1)) (sym front₂)

        pub going_next : (more ≡ 1 → ⊥) → Going ar a e b fill most ids₀ ws₀ ids₁ ws₂ hi k w₂ (more - 1)
        going_next q = record {
          some = omega (arith, v.some);
          order = m.more;
          size₁ = made.size₁ ∙ v.size₁;
          size₂ = m.size ∙ size_ws₁;
          kept = λ s l u. m.kept s l (omega arith) ∙ made.kept s l ∙ v.kept s l u;
          beyond = λ s l. m.beyond s l ∙ made.kept s (omega (arith, low_e)) ∙ v.beyond s l;
          rest = λ s l u. m.past s l u ∙ made.kept s (omega (arith, low_e)) ∙ v.rest s (omega (arith, m.more)) u;
          free = m.free;
          front = front_next ar a e b fill ids ws lo hi (net_at b ar ws₀) v.front v.order room_ws z.sizes.few z.sizes.low z.sizes.apart z.filled ids₁ ws₁ made
              net₁ x (spans-at b ar ws₀) w ws₂ k w₂ m t;
          same = ap (rounds (net_at b ar ws₀) (more - 1)) front₂ ∙ same₁;
          watched = watched₂ (omega (arith, v.some));
        }

        pub told_next : (y₀ s s' : Story)
            → rounds_tell (net_at b ar ws₀) most (front_of (length ar) a fill ids₀ ws₀) y₀ ≡ rounds_tell (net_at b ar ws₀) more (front_of (length ar) a fill ids ws) s
            → RoundTold (net_at b ar ws) (marks_at (length ar) ids ws) ws e lo hi s s'
            → rounds_tell (net_at b ar ws₀) most (front_of (length ar) a fill ids₀ ws₀) y₀ ≡ rounds_tell (net_at b ar ws₀) (more - 1) (front_of (length ar) a fill ids₁ ws₂) s'
        told_next y₀ s s' t r = told₁ y₀ s s' t r ∙ ap (λ (p : Spread). rounds_tell (net_at b ar ws₀) (more - 1) p s') (sym front₂)
