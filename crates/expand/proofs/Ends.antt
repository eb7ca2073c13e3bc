-- An expansion as a whole. Before the rounds an unused entry is a span with no id, and its flag is up (`Lit`); after them, flags and changes are zeroed where
-- zeros stood before, and the stack is marked by the ids, which is what the rule's rounds leave of it. Assumes nothing.
use mathlib.Core.Path.{◌≡◌, refl, sym, ap, ◌∙◌}
use mathlib.Core.Logic.{⊎_elim, ◌⊎◌, inl, inr}
use mathlib.Core.Bool.{Bool}
use mathlib.Core.List.{List, map}
use Prim.Native.Nat.{ℕ, ◌+◌, ◌-◌, ◌*◌, ◌≤◌, ◌<◌}
use native.Mathlib.Omega.{arith}
use native.Mathlib.Numerals.{add-one}
use native.Mathlib.Decide.{ℕ_discrete, dec_lt}
use lib.ListN.{length, get_or, take}
use lib.Seq.{ext_get_or, get_or-take, length-take-le}
use borrow.Author.Tests.{eq-eqb, ne_eqb}
use Rattle.rules.specs.Base.{when◌then◌else◌}
use Rattle.rules.specs.Field.{none}
use Rattle.rules.specs.Net.{Net}
use Rattle.rules.specs.Growth.{Spread, rounds, rounds_stray, expand, expand_strays}
use Rattle.rules.specs.Reasons.{Story, rounds_tell, expand_tells}
use Rattle.laws.proofs.Basics.{All, map_all}
use Rattle.space.specs.Space.{sec, Frame, Clear}
use Rattle.space.proofs.Laws.{get_or_before, get_d_after}
use Rattle.net.specs.Table.{net_at, Mutual}
use Rattle.net.proofs.Tables.{net_same}
use Rattle.flood.specs.Stack.{marks_at}
use Rattle.expand.specs.Layout.{fresh, most_at, list_at, Sizes, Past, Entries, Kept, Given, Unheld, Ok, Using}
use Rattle.expand.specs.Front.{Up, Entry, Flagging, Entering, Leaving, front_of, Lit, Gone, Settled}
use Rattle.expand.proofs.Lists.{list_at_cong, length-list_at, list_at-sec, all_at, all_of, marks_same}
use Rattle.expand.proofs.Sources.{fresh_unheld}
use Rattle.expand.proofs.Waves.{fresh_twice, map_twice}
use Rattle.expand.proofs.Fronts.{front_same, entry_on}
use Rattle.expand.proofs.Stacks.{used_stack}

-- ---------------------------------------------------------------- sections

take_same : (n : ℕ) (ws ws' : List ℕ) → n ≤ length ws → length ws' ≡ length ws → ((x : ℕ) → x < n → get_or ws' x 0 ≡ get_or ws x 0) → take n ws' ≡ take n ws
take_same n ws ws' h l s =
    let p = length-take-le n ws h in
    let q = length-take-le n ws' (omega arith) in
    ext_get_or 0 (take n ws') (take n ws) (q ∙ sym p) (λ i g. let r : i < n = omega arith in get_or-take n ws' i 0 r ∙ s i r ∙ sym (get_or-take n ws i 0 r))

pub sizes_kept : {n a e b : ℕ} {ids ws : List ℕ} (ids' ws' : List ℕ) → Sizes n a e b ids ws → length ids' ≡ length ids → length ws' ≡ length ws → Sizes n a e b ids' ws'
sizes_kept ids' ws' z p q = record { few = z.few; idents = p ∙ z.idents; low = z.low; apart = z.apart; past = z.past; room = omega (arith, z.room); close = z.close }

-- the stack's section, and all that lies past it up to the flags' end
module _ (n a e b : ℕ) (ids ws : List ℕ) (z : Sizes n a e b ids ws) (f : ℕ) (p : f ≡ e + 3 * n) where
  pub sizes_part : Past (length ids) a (f + length ids) ws
  sizes_part = rw z.idents (record { few = z.few; low = z.low; room = omega (arith, z.past, z.room); close = omega (arith, z.past, z.close) })

  pub sizes_apart : a + length ids ≤ f
  sizes_apart = omega (arith, z.apart, z.idents)

pub entries_at : {n a e b fill : ℕ} {ids ws : List ℕ} → Sizes n a e b ids ws → Entries n a fill ws → Entries (length ids) a fill ws
entries_at z es = rw z.idents es

-- ---------------------------------------------------------------- before the rounds

module _ (n a e b fill : ℕ) (ids ws ws₁ : List ℕ) (y : Using (length ids) a fill ids ws ws₁ fill) (g : Given n a e b fill ids ws) where
  -- for n source distances
  used : Using n a fill ids ws ws₁ fill
  used = rw g.sizes.idents at y

  used_list : list_at ws₁ a fill ≡ map (fresh ids) (list_at ws a fill)
  used_list = used_stack n a fill ids ws ws₁ used

  unheld : All (Unheld n ids) (map (fresh ids) (list_at ws a fill))
  unheld = map_all (λ s. (s ≡ none → ⊥) → s < n) (Unheld n ids) (fresh ids) (list_at ws a fill) (fresh_unheld n ids) (all_of (λ s. (s ≡ none → ⊥) → s < n) ws a fill g.entries.spans)

  held_at : (j : ℕ) → j < fill → Unheld n ids (get_or ws₁ (a + j) 0)
  held_at = all_at (Unheld n ids) ws₁ a fill (rw used_list unheld)

  used_sizes : Sizes n a e b ids ws₁
  used_sizes = sizes_kept ids ws₁ g.sizes refl used.size

  used_entries : Entries n a fill ws₁
  used_entries = record { filled = g.entries.filled; spans = λ j h z. (held_at j h z).0 }

  used_front : front_of n a fill ids ws₁ ≡ front_of n a fill ids ws
  unfolding front_of
  used_front = rw (marks_same n ids ws ws₁ used.marks, used_list, map_twice (fresh ids) (fresh ids) (fresh ids) (list_at ws a fill) (fresh_twice ids ids (λ x h. h)))

  given_ok : Ok n (front_of n a fill ids ws)
  unfolding front_of
  given_ok = record { idents = g.sizes.idents; entries = unheld }

  -- past the stack all is as it was
  used_past : (x : ℕ) → a + fill ≤ x → get_or ws₁ x 0 ≡ get_or ws x 0
  used_past x h = used.unseen x (inr h)

  module _ (ws₂ : List ℕ) (f : Flagging n a (e + 3 * n) fill 1 ws₁ ws₂ fill) where
    in_stack : (x : ℕ) → a ≤ x → x < a + fill → get_or ws₂ x 0 ≡ get_or ws₁ x 0
    in_stack x l u = f.same x (inl (omega (arith, g.entries.filled, g.sizes.apart)))

    lit_front : front_of n a fill ids ws₂ ≡ front_of n a fill ids ws
    lit_front =
        front_same n a fill ids ws₁ ws₂ (take_same n ws₁ ws₂ (omega (arith, g.sizes.room, used.size)) f.size (λ x h. f.same x (inl (omega (arith, g.sizes.low, g.sizes.apart))))) in_stack
        ∙ used_front

    lit_past : (x : ℕ) → b ≤ x → get_or ws₂ x 0 ≡ get_or ws x 0
    lit_past x h = f.same x (inr (omega (arith, g.sizes.past))) ∙ used_past x (omega (arith, g.sizes.past, g.sizes.apart, g.entries.filled))

    lit : Lit n a e b fill ids ws₂
    lit = record {
      sizes = sizes_kept ids ws₂ used_sizes refl f.size;
      entries = record { filled = g.entries.filled; spans = λ j h z. let q = in_stack (a + j) (omega arith) (omega arith) in rw q (used_entries.spans j h (λ p. z (q ∙ p))) };
      clear = record { blank = λ x l u. f.same x (inl u) ∙ used_past x (omega (arith, g.sizes.apart, g.entries.filled)) ∙ g.clear.blank x l (omega arith) };
      ok = rw lit_front given_ok;
      bare = λ x h t. bare-at x h (entry_on ws₂ ws₁ a fill x (λ y l u. sym (in_stack y l u)) t);
      only = λ x h u. ⊎_elim
          (λ (q : get_or ws₂ (e + 3 * n + x) 0 ≡ get_or ws₁ (e + 3 * n + x) 0). absurd (u (q ∙ used_past (e + 3 * n + x) (omega (arith, g.sizes.apart, g.entries.filled)) ∙ g.clear.blank (e + 3 * n + x) (omega arith) (omega arith))))
          (λ (t : Entry ws₁ a fill x). entry_on ws₁ ws₂ a fill x in_stack t) (f.else x h);
      up = λ x h t. lit_at x h (entry_on ws₂ ws₁ a fill x (λ y l u. sym (in_stack y l u)) t);
    }
      where
        bare-at : (x : ℕ) → x < n → Entry ws₁ a fill x → get_or ids x 0 ≡ 0
        bare-at x h t = rw t.is at (held_at t.at t.below (λ q. omega (arith, t.is, g.sizes.few))).1

        lit_at : (x : ℕ) → x < n → Entry ws₁ a fill x → Up n e ws₂ x
        lit_at x h t z = let q : get_or ws₂ (e + 3 * n + x) 0 ≡ 1 = rw t.is at (f.done t.at t.below (λ q. omega (arith, t.is, g.sizes.few))) in omega arith

module _ (ar : List ℕ) (a e b fill : ℕ) (ids ws ws₁ : List ℕ) (y : Using (length ids) a fill ids ws ws₁ fill) (g : Given (length ar) a e b fill ids ws)
    (ws₂ : List ℕ) (f : Flagging (length ar) a (e + 3 * length ar) fill 1 ws₁ ws₂ fill) where
  lit_net : net_at b ar ws₂ ≡ net_at b ar ws
  lit_net = net_same b ar ws ws₂ g.sizes.room (f.size ∙ y.size) (lit_past (length ar) a e b fill ids ws ws₁ y g ws₂ f)

-- flags are up for n spans, the number of ids
pub raised_at : {n a f fill : ℕ} {ids ws ws₂ : List ℕ} (v : Entering a f fill ids ws ws₂ fill) → length ids ≡ n → Flagging n a f fill 1 v.used ws₂ fill
raised_at v i = rw i at v.raised

-- as the code has it, with the flags from p on
module _ (ar : List ℕ) (a e b fill p : ℕ) (ids ws ws₁ : List ℕ) (q : p ≡ e + 3 * length ar) (y : Using (length ids) a fill ids ws ws₁ fill) (g : Given (length ar) a e b fill ids ws)
    (ws₂ : List ℕ) (f : Flagging (length ar) a p fill 1 ws₁ ws₂ fill) where
  up_flags : Flagging (length ar) a (e + 3 * length ar) fill 1 ws₁ ws₂ fill
  up_flags = rw q at f

  pub lit_mutual : Mutual (net_at b ar ws) → Mutual (net_at b ar ws₂)
  lit_mutual x = rw (lit_net ar a e b fill ids ws ws₁ y g ws₂ up_flags) x

  pub lit_all : Lit (length ar) a e b fill ids ws₂
  lit_all = lit (length ar) a e b fill ids ws ws₁ y g ws₂ up_flags

-- ---------------------------------------------------------------- the number of rounds

pub most_free : (level fill : ℕ) → level ≡ 0 → fill + 1 ≡ most_at level fill
unfolding most_at when◌then◌else◌
most_free level fill z = rw (eq-eqb level 0 z) (add-one fill)

pub most_eight : (level fill : ℕ) → (level ≡ 0 → ⊥) → 8 ≡ most_at level fill
unfolding most_at when◌then◌else◌
most_eight level fill z = rw (ne_eqb level 0 z)

pub most_some : (level fill most : ℕ) → most ≡ most_at level fill → 0 < most
most_some level fill most q = elim (ℕ_discrete level 0) [
  | yes z ↦ omega (arith, most_free level fill z)
  | no z ↦ omega (arith, most_eight level fill z)
]

-- ---------------------------------------------------------------- the end

-- the flags, from r on, are down, the stack is marked, and the k changes are wiped
module _ (a e fill k r : ℕ) (ids ws ws₂ : List ℕ) (fl : r ≡ e + 3 * length ids) (z : a + length ids ≤ e) (h : k ≤ length ids) (p : Past (length ids) a (r + length ids) ws)
    (es : Entries (length ids) a fill ws) (v : Leaving a r fill ids ws ws₂ fill) where
  pub left_end : e + 3 * k ≤ length ws₂
  left_end = omega (arith, p.room, v.lowered.size, v.marked.size)

  -- with the flags' place written out
  dimmed : Flagging (length ids) a (e + 3 * length ids) fill 0 ws v.dim fill
  dimmed = rw fl at v.lowered

  dim_stack : (x : ℕ) → a ≤ x → x < a + fill → get_or v.dim x 0 ≡ get_or ws x 0
  dim_stack x l u = dimmed.same x (inl (omega (arith, es.filled)))

  module _ (ws₃ : List ℕ) (size : length ws₃ ≡ length ws₂) (q : Clear e (e + 3 * k) ws₃) (wiped : Frame e (e + 3 * k) ws₂ ws₃) where
    flag_is : (x : ℕ) → get_or ws₃ (e + 3 * length ids + x) 0 ≡ get_or v.dim (e + 3 * length ids + x) 0
    flag_is x = get_d_after (e + 3 * length ids + x) wiped (omega arith) ∙ v.marked.unseen (e + 3 * length ids + x) (inr (omega (arith, es.filled)))

    size₃ : length ws₃ ≡ length ws
    size₃ = size ∙ v.marked.size ∙ dimmed.size

    pub settled : Settled (length ids) a e fill k ids ws ws₃
    settled = record {
      size = size₃;
      marks = take_same (length ids) ws ws₃ (omega (arith, p.low, p.room)) size₃
          (λ x l. get_or_before x wiped (omega (arith, p.low)) ∙ v.marked.unseen x (inl (omega (arith, p.low))) ∙ dimmed.same x (inl (omega (arith, p.low))));
      stack = list_at_cong ws₂ ws₃ a fill (λ x l u. get_or_before x wiped (omega (arith, es.filled))) ∙ used_stack (length ids) a fill ids v.dim ws₂ v.marked
          ∙ ap (λ (t : List ℕ). map (fresh ids) t) (list_at_cong ws v.dim a fill dim_stack);
      queue = q.blank;
      rest = λ x s t u. ⊎_elim (λ (l : x < e). get_or_before x wiped l) (λ (l : e + 3 * k ≤ x). get_d_after x wiped l) t ∙ v.marked.unseen x s
          ∙ dimmed.same x (⊎_elim (λ (l : x < e + 3 * length ids). inl l) (λ (l : e + 4 * length ids ≤ x). inr (omega arith)) u);
      down = λ j l u. flag_is (get_or ws (a + j) 0) ∙ dimmed.done j l u;
      else = λ x l. ⊎_elim (λ (t : get_or v.dim (e + 3 * length ids + x) 0 ≡ get_or ws (e + 3 * length ids + x) 0). inl (flag_is x ∙ t)) (λ (t : Entry ws a fill x). inr t) (dimmed.else x l);
    }

pub settled_at : {n a e fill k : ℕ} {ids ws ws' : List ℕ} → length ids ≡ n → Settled (length ids) a e fill k ids ws ws' → Settled n a e fill k ids ws ws'
settled_at i s = rw i at s

-- ---------------------------------------------------------------- done

expand_is : (N : Net) (n a fill level : ℕ) (ids ws : List ℕ) → expand N level (marks_at n ids ws) (list_at ws a fill) ≡ rounds N (most_at level fill) (front_of n a fill ids ws)
unfolding expand most_at fresh front_of
expand_is N n a fill level ids ws = rw (length-list_at ws a fill)

strays_is : (N : Net) (n a fill level : ℕ) (ids ws : List ℕ) → expand_strays N level (marks_at n ids ws) (list_at ws a fill) ≡ rounds_stray N (most_at level fill) (front_of n a fill ids ws)
unfolding expand_strays most_at fresh front_of
strays_is N n a fill level ids ws = rw (length-list_at ws a fill)

tells_is : (N : Net) (n a fill level : ℕ) (ids ws : List ℕ) (y : Story) → expand_tells N level (marks_at n ids ws) (list_at ws a fill) y ≡ rounds_tell N (most_at level fill) (front_of n a fill ids ws) y
unfolding expand_tells most_at fresh front_of
tells_is N n a fill level ids ws y = rw (length-list_at ws a fill)

front_view : (n a fill : ℕ) (ids ws ws' : List ℕ) → take n ws' ≡ take n ws → list_at ws' a fill ≡ map (fresh ids) (list_at ws a fill) → a + fill ≤ length ws'
    → record { marks = marks_at n ids ws'; stack = sec a fill ws' } ≡ front_of n a fill ids ws
unfolding front_of
front_view n a fill ids ws ws' t s h = rw (← list_at-sec ws' a fill h, s, marks_same n ids ws ws' t)

front_entries : (n a fill : ℕ) (ids ws ws' : List ℕ) → list_at ws' a fill ≡ map (fresh ids) (list_at ws a fill) → fill ≤ n → Ok n (front_of n a fill ids ws) → Entries n a fill ws'
unfolding front_of
front_entries n a fill ids ws ws' s h o = record { filled = h; spans = λ j l z. (all_at (Unheld n ids) ws' a fill (rw s o.entries) j l z).0 }

kept_clear : (n a e fill : ℕ) (ws ws₂ : List ℕ) → fill ≤ n → a + n ≤ e → n ≤ a → Clear e (e + 4 * n) ws → Kept n a fill ws ws₂ → Clear e (e + 4 * n) ws₂
kept_clear n a e fill ws ws₂ h l o c k = record { blank = λ x g u. k.same x (omega arith) (inr (omega arith)) ∙ c.blank x g u }

module _ (ar : List ℕ) (a e b fill level p : ℕ) (ids ws ws₁ : List ℕ) (fl : p ≡ e + 3 * length ar) (y : Using (length ids) a fill ids ws ws₁ fill)
    (g : Given (length ar) a e b fill ids ws) (ws₂ : List ℕ) (f₀ : Flagging (length ar) a p fill 1 ws₁ ws₂ fill) (most : ℕ) (q : most ≡ most_at level fill)
    (ids₃ ws₃ : List ℕ) (k : ℕ) (o : Bool) (r : Gone ar a e b fill most ids ws₂ ids₃ ws₃ k o) where
  raised : Flagging (length ar) a (e + 3 * length ar) fill 1 ws₁ ws₂ fill
  raised = rw fl at f₀

  pub gone_sizes : Sizes (length ar) a e b ids₃ ws₃
  gone_sizes = sizes_kept ids₃ ws₃ g.sizes r.size₁ (r.size₂ ∙ raised.size ∙ y.size)

  gone_stack : (x : ℕ) → a ≤ x → x < a + fill → get_or ws₃ x 0 ≡ get_or ws₂ x 0
  gone_stack x l u = r.kept x (omega (arith, g.sizes.low)) (omega (arith, g.sizes.apart, g.entries.filled))

  pub gone_entries : Entries (length ar) a fill ws₃
  gone_entries =
      let t = (lit (length ar) a e b fill ids ws ws₁ y g ws₂ raised).entries in
      record { filled = g.entries.filled; spans = λ j h z. let p = gone_stack (a + j) (omega arith) (omega arith) in rw p (t.spans j h (λ v. z (p ∙ v))) }

  pub expanded_strays : o ≡ expand_strays (net_at b ar ws) level (marks_at (length ar) ids ws) (sec a fill ws)
  expanded_strays =
      let i : a + fill ≤ length ws = omega (arith, g.entries.filled, g.sizes.apart, g.sizes.past, g.sizes.room) in
      rw (lit_net ar a e b fill ids ws ws₁ y g ws₂ raised) at r.stray
      ∙ ap (rounds_stray (net_at b ar ws) most) (lit_front (length ar) a e b fill ids ws ws₁ y g ws₂ raised) ∙ ap (λ (m : ℕ). rounds_stray (net_at b ar ws) m (front_of (length ar) a fill ids ws)) q
      ∙ sym (strays_is (net_at b ar ws) (length ar) a fill level ids ws) ∙ ap (λ (t : List ℕ). expand_strays (net_at b ar ws) level (marks_at (length ar) ids ws) t) (list_at-sec ws a fill i)

  pub expanded_told : (y₀ s : Story) → s ≡ rounds_tell (net_at b ar ws₂) most (front_of (length ar) a fill ids ws₂) y₀
      → s ≡ expand_tells (net_at b ar ws) level (marks_at (length ar) ids ws) (sec a fill ws) y₀
  expanded_told y₀ s t =
      let i : a + fill ≤ length ws = omega (arith, g.entries.filled, g.sizes.apart, g.sizes.past, g.sizes.room) in
      rw (lit_net ar a e b fill ids ws ws₁ y g ws₂ raised) at t
      ∙ ap (λ (p : Spread). rounds_tell (net_at b ar ws) most p y₀) (lit_front (length ar) a e b fill ids ws ws₁ y g ws₂ raised)
      ∙ ap (λ (m : ℕ). rounds_tell (net_at b ar ws) m (front_of (length ar) a fill ids ws) y₀) q
      ∙ sym (tells_is (net_at b ar ws) (length ar) a fill level ids ws y₀)
      ∙ ap (λ (t : List ℕ). expand_tells (net_at b ar ws) level (marks_at (length ar) ids ws) t y₀) (list_at-sec ws a fill i)

  module _ (ws₄ : List ℕ) (s : Settled (length ar) a e fill k ids₃ ws₃ ws₄) where
    room₄ : a + fill ≤ length ws₄
    room₄ = omega (arith, s.size, r.size₂, raised.size, y.size, g.entries.filled, g.sizes.apart, g.sizes.past, g.sizes.room)

    pub expanded : record { marks = marks_at (length ar) ids₃ ws₄; stack = sec a fill ws₄ } ≡ expand (net_at b ar ws) level (marks_at (length ar) ids ws) (sec a fill ws)
    expanded =
        let i : a + fill ≤ length ws = omega (arith, g.entries.filled, g.sizes.apart, g.sizes.past, g.sizes.room) in
        front_view (length ar) a fill ids₃ ws₃ ws₄ s.marks s.stack room₄ ∙ rw (lit_net ar a e b fill ids ws ws₁ y g ws₂ raised) at r.same
        ∙ ap (rounds (net_at b ar ws) most) (lit_front (length ar) a e b fill ids ws ws₁ y g ws₂ raised) ∙ ap (λ (m : ℕ). rounds (net_at b ar ws) m (front_of (length ar) a fill ids ws)) q
        ∙ sym (expand_is (net_at b ar ws) (length ar) a fill level ids ws) ∙ ap (λ (t : List ℕ). expand (net_at b ar ws) level (marks_at (length ar) ids ws) t) (list_at-sec ws a fill i)

    flag_zero : (x : ℕ) → x < length ar → get_or ws₄ (e + 3 * length ar + x) 0 ≡ 0
    flag_zero x h = elim (ℕ_discrete (get_or ws₄ (e + 3 * length ar + x) 0) 0) [
      | yes z ↦ z
      | no z ↦ ⊎_elim
          (λ (t : get_or ws₄ (e + 3 * length ar + x) 0 ≡ get_or ws₃ (e + 3 * length ar + x) 0). dark (r.only x h (λ v. z (t ∙ v))))
          (λ (t : Entry ws₃ a fill x). dark t) (s.else x h)
    ]
      where
        dark : Entry ws₃ a fill x → get_or ws₄ (e + 3 * length ar + x) 0 ≡ 0
        dark t = rw t.is at (s.down t.at t.below (λ v. omega (arith, t.is, g.sizes.few)))

    pub expanded_kept : Kept (length ar) a fill ws ws₄
    expanded_kept = record {
      size = s.size ∙ r.size₂ ∙ raised.size ∙ y.size;
      same = λ x l u.
          elim (dec_lt x e) [
            | yes p ↦ s.rest x u (inl p) (inl (omega arith)) ∙ r.kept x l p ∙ raised.same x (inl (omega arith)) ∙ y.unseen x u
            | no p ↦ elim (dec_lt x (e + 4 * length ar)) [
              | no v ↦ s.rest x u (inr (omega (arith, r.few))) (inr (omega arith)) ∙ r.beyond x (omega arith) ∙ raised.same x (inr (omega arith)) ∙ y.unseen x u
              | yes v ↦ zero x (omega arith) v u ∙ sym (g.clear.blank x (omega arith) v)
            ]
          ];
    }
      where
        zero : (x : ℕ) → e ≤ x → x < e + 4 * length ar → (x < a) ⊎ (a + fill ≤ x) → get_or ws₄ x 0 ≡ 0
        zero x l v u =
            elim (dec_lt x (e + 3 * k)) [
              | yes p ↦ s.queue x l p
              | no p ↦ elim (dec_lt x (e + 3 * length ar)) [
                | yes o ↦ s.rest x u (inr (omega arith)) (inl o) ∙ r.rest x (omega arith) o
                | no o ↦ (let t : x ≡ e + 3 * length ar + (x - (e + 3 * length ar)) = omega arith in rw t (flag_zero (x - (e + 3 * length ar)) (omega arith)))
              ]
            ]

    pub expanded_given : Given (length ar) a e b fill ids₃ ws₄
    expanded_given = record {
      sizes = sizes_kept ids₃ ws₄ gone_sizes refl s.size;
      entries = front_entries (length ar) a fill ids₃ ws₃ ws₄ s.stack g.entries.filled r.ok;
      clear = kept_clear (length ar) a e fill ws ws₄ g.entries.filled g.sizes.apart g.sizes.low g.clear expanded_kept;
    }
