-- A flood keeps the ids below the next: a failed one changes no id, one that succeeds gives its id to spans that had none (`flood-leaves`). Ids run out
-- where the next id after an entry is the flag (`run_step`). Assumes nothing.
use Prim.Native.Nat.{ℕ, suc, ◌+◌, ◌-◌, ◌≤◌, ◌<◌}
use native.Mathlib.Omega.{arith}
use native.Mathlib.Decide.{ℕ_discrete}
use mathlib.Core.Path.{◌≡◌, refl, sym, ap, ◌∙◌}
use mathlib.Core.Bool.{Bool, true, false, not, true≢false}
use mathlib.Core.Logic.{⊎_elim, ◌⊎◌, inl, inr}
use native.Mathlib.Numerals.{add-one}
use mathlib.Core.List.{List, [], ◌∷◌}
use lib.ListN.{length, get_or, drop}
use lib.Dec.{eqb}
use borrow.Author.Tests.{eqb-true, eq-eqb, ne_eqb}
use Rattle.rules.specs.Base.{◌and◌, ◌or◌, when◌then◌else◌}
use Rattle.rules.specs.Field.{none}
use Rattle.rules.specs.Net.{Net, spans, area_of}
use Rattle.rules.specs.Growth.{Marks, id_of, Flow, flood, floods, floods_run_out, Ids}
use Rattle.rules.specs.Reasons.{Story, flood_tells, floods_tell}
use Rattle.rooms.proofs.Flooding.{flood-leaves}
use Rattle.net.specs.Table.{net_at, Lent}
use Rattle.net.proofs.Tables.{spans-at, area_at, net_same, lent_same}
use Rattle.flood.specs.Stack.{marks_at, Begins, Blank}
use lib.Seq.{get_or-drop, drop-cons}
use Rattle.space.specs.Space.{sec}
use Rattle.space.proofs.Laws.{tally-none, sec-drop}
use Rattle.growth.specs.Floods.{flood_one, one_tells, IdsBelowNext, FloodedFrom, EntriesAt}

-- the next id is borne by no span
pub next_begins : (n next e : ℕ) (ids : List ℕ) → IdsBelowNext n next ids → e < n → get_or ids e 0 ≡ 0 → Begins next e ids
next_begins n next e ids v h z = record {
  some = v.some;
  unused = tally-none next ids (λ x _ k. omega (arith, v.below x (omega (arith, v.plain))));
  within = omega (arith, v.size);
  empty = z;
}

-- a flood from a span of id 0 with the next id: the ids stay below the next id after it, if that is not flagged
pub flood_below : (N : Net) (dist : List ℕ) (level next e : ℕ) (m : Marks) → IdsBelowNext (spans N) next m.ids → e < spans N → area_of N e < 256 → id_of m e ≡ 0
    → (when eqb (flood N dist level next m e).count 0 then next else suc next) < 0x8000
    → IdsBelowNext (spans N) (when eqb (flood N dist level next m e).count 0 then next else suc next) (flood N dist level next m e).marks.ids
unfolding when◌then◌else◌
flood_below N dist level next e m v h a z =
    let f = flood N dist level next m e in
    let l = flood-leaves N dist level next m e v.some v.plain h (λ k. omega arith) v.size z (λ t k. omega (arith, v.below t (omega (arith, v.plain)))) in
    go (eqb f.count 0) f.marks.ids l.size
    (λ t k. elim (ℕ_discrete (get_or f.marks.ids t 0) next) [
      | yes q ↦ inr q
      | no q ↦ inl (v.below t (rw (l.old (get_or f.marks.ids t 0) t q refl) k), l.old (get_or f.marks.ids t 0) t q refl)
    ])
    (λ c t. l.lost (eqb-true _ _ c) t)
  where
    go : (c : Bool) (ids' : List ℕ) → length ids' ≡ spans N
        → ((t : ℕ) → get_or ids' t 0 < 0x8000 → ((get_or m.ids t 0 < next) × (get_or m.ids t 0 ≡ get_or ids' t 0)) ⊎ (get_or ids' t 0 ≡ next))
        → (c ≡ true → (t : ℕ) → get_or ids' t 0 ≡ get_or m.ids t 0)
        → (when c then next else suc next) < 0x8000
        → IdsBelowNext (spans N) (when c then next else suc next) ids'
    go true ids' s k w p = record { size = s; some = v.some; plain = p; below = λ x q. rw (w refl x) (v.below x (rw (w refl x) at q)) }
    go false ids' s k w p = record {
      size = s;
      some = omega arith;
      plain = p;
      below = λ x q. ⊎_elim (λ (p : (get_or m.ids x 0 < next) × (get_or m.ids x 0 ≡ get_or ids' x 0)). omega (arith, p.0, p.1)) (λ (p : get_or ids' x 0 ≡ next). omega arith) (k x q);
    }

-- ---------------------------------------------------------------- one entry, as the code has it

abbrev either_ids : Bool → Marks → Marks → ℕ → ℕ → Ids
either_ids t p q i j = when t then record { marks = p; next = i } else record { marks = q; next = j }

on_either : (N : Net) (dist : List ℕ) (level : ℕ) (es : List ℕ) (t : Bool) (p q : Marks) (i j : ℕ)
    → (when t then floods N dist level es p i else floods N dist level es q j)
    ≡ floods N dist level es (either_ids t p q i j).marks (either_ids t p q i j).next
unfolding when◌then◌else◌
on_either N dist level es true p q i j = refl
on_either N dist level es false p q i j = refl

run_either : (N : Net) (dist : List ℕ) (level : ℕ) (es : List ℕ) (t c : Bool) (p q : Marks) (id : ℕ) → id < 0x8000
    → (when t then (not c and eqb (suc id) 0x8000) or floods_run_out N dist level es p (when c then id else suc id) else floods_run_out N dist level es q id)
    ≡ eqb (either_ids t p q (when c then id else suc id) id).next 0x8000
    or floods_run_out N dist level es (either_ids t p q (when c then id else suc id) id).marks (either_ids t p q (when c then id else suc id) id).next
unfolding when◌then◌else◌ ◌and◌ ◌or◌
run_either N dist level es true true p q id h = rw (ne_eqb id 0x8000 (omega arith))
run_either N dist level es true false p q id h = refl
run_either N dist level es false c p q id h = rw (ne_eqb id 0x8000 (omega arith))

module _ (N : Net) (dist : List ℕ) (level e id : ℕ) (m : Marks) where
  pub one_used : e ≡ none → record { marks = m; next = id } ≡ flood_one N dist level e m id
  unfolding flood_one ◌and◌ when◌then◌else◌
  one_used h = rw (eq-eqb e none h)

  pub one-has_id : (e ≡ none → ⊥) → (id_of m e ≡ 0 → ⊥) → record { marks = m; next = id } ≡ flood_one N dist level e m id
  unfolding flood_one ◌and◌ when◌then◌else◌
  one-has_id h k = rw (ne_eqb e none h, ne_eqb (id_of m e) 0 k)

  pub one_failed : (e ≡ none → ⊥) → id_of m e ≡ 0 → (flood N dist level id m e).count ≡ 0
      → record { marks = (flood N dist level id m e).marks; next = id } ≡ flood_one N dist level e m id
  unfolding flood_one ◌and◌ when◌then◌else◌
  one_failed h k c = rw (ne_eqb e none h, eq-eqb (id_of m e) 0 k, eq-eqb _ _ c)

  pub one_won : (e ≡ none → ⊥) → id_of m e ≡ 0 → ((flood N dist level id m e).count ≡ 0 → ⊥)
      → record { marks = (flood N dist level id m e).marks; next = id + 1 } ≡ flood_one N dist level e m id
  unfolding flood_one ◌and◌ when◌then◌else◌
  one_won h k c = rw (ne_eqb e none h, eq-eqb (id_of m e) 0 k, ne_eqb _ _ c, add-one id)

  pub floods-step : (es : List ℕ) → floods N dist level (e ∷ es) m id ≡ floods N dist level es (flood_one N dist level e m id).marks (flood_one N dist level e m id).next
  unfolding floods flood_one
  floods-step es = on_either N dist level es (not (eqb e none) and eqb (id_of m e) 0) _ _ _ _

-- what a flood from an entry does to the watched span
tells_either : (N : Net) (dist : List ℕ) (level : ℕ) (es : List ℕ) (t : Bool) (p q : Marks) (i j : ℕ) (y z : Story)
    → (when t then floods_tell N dist level es p i y else floods_tell N dist level es q j z)
    ≡ floods_tell N dist level es (either_ids t p q i j).marks (either_ids t p q i j).next (when t then y else z)
unfolding when◌then◌else◌
tells_either N dist level es true p q i j y z = refl
tells_either N dist level es false p q i j y z = refl

module _ (N : Net) (dist : List ℕ) (level e id : ℕ) (m : Marks) (y : Story) where
  pub tells_used : e ≡ none → y ≡ one_tells N dist level e m id y
  unfolding one_tells ◌and◌ when◌then◌else◌
  tells_used h = rw (eq-eqb e none h)

  pub tells_has_id : (e ≡ none → ⊥) → (id_of m e ≡ 0 → ⊥) → y ≡ one_tells N dist level e m id y
  unfolding one_tells ◌and◌ when◌then◌else◌
  tells_has_id h k = rw (ne_eqb e none h, ne_eqb (id_of m e) 0 k)

  pub tells_flood : (e ≡ none → ⊥) → id_of m e ≡ 0 → (y' : Story) → y' ≡ flood_tells N dist level id m e y → y' ≡ one_tells N dist level e m id y
  unfolding one_tells ◌and◌ when◌then◌else◌
  tells_flood h k y' q = rw (ne_eqb e none h, eq-eqb (id_of m e) 0 k) q

  tells_step : (es : List ℕ)
      → floods_tell N dist level (e ∷ es) m id y ≡ floods_tell N dist level es (flood_one N dist level e m id).marks (flood_one N dist level e m id).next (one_tells N dist level e m id y)
  unfolding floods_tell flood_one one_tells
  tells_step es = tells_either N dist level es (not (eqb e none) and eqb (id_of m e) 0) _ _ _ _ _ _

-- ids run out at an entry, or at those after it
pub run_step : (N : Net) (dist : List ℕ) (level e id : ℕ) (m : Marks) (es : List ℕ) → id < 0x8000
    → floods_run_out N dist level (e ∷ es) m id
    ≡ eqb (flood_one N dist level e m id).next 0x8000 or floods_run_out N dist level es (flood_one N dist level e m id).marks (flood_one N dist level e m id).next
unfolding floods_run_out flood_one
run_step N dist level e id m es h =
    let f = flood N dist level id m e in
    run_either N dist level es (not (eqb e none) and eqb (id_of m e) 0) (eqb f.count 0) f.marks m id h

module _ (ar dist : List ℕ) (b e level next : ℕ) (ids ws ids' ws' : List ℕ) (r : ℕ)
    (q : record { todo = []; marks = marks_at (length ar) ids' ws'; count = r } ≡ flood (net_at b ar ws) dist level next (marks_at (length ar) ids ws) e) (z : get_or ids e 0 ≡ 0) where
  flooded_marks : marks_at (length ar) ids' ws' ≡ (flood (net_at b ar ws) dist level next (marks_at (length ar) ids ws) e).marks
  flooded_marks = ap (λ (g : Flow). g.marks) q

  flooded_count : r ≡ (flood (net_at b ar ws) dist level next (marks_at (length ar) ids ws) e).count
  flooded_count = ap (λ (g : Flow). g.count) q

  pub failed_one : (e ≡ none → ⊥) → r ≡ 0 → record { marks = marks_at (length ar) ids' ws'; next = next } ≡ flood_one (net_at b ar ws) dist level e (marks_at (length ar) ids ws) next
  failed_one h c = rw flooded_marks (one_failed (net_at b ar ws) dist level e next (marks_at (length ar) ids ws) h z (sym flooded_count ∙ c))

  pub won_one : (e ≡ none → ⊥) → (r ≡ 0 → ⊥) → record { marks = marks_at (length ar) ids' ws'; next = next + 1 } ≡ flood_one (net_at b ar ws) dist level e (marks_at (length ar) ids ws) next
  won_one h c = rw flooded_marks (one_won (net_at b ar ws) dist level e next (marks_at (length ar) ids ws) h z (λ k. c (flooded_count ∙ k)))

  module _ (v : IdsBelowNext (length ar) next ids) (h : e < length ar) (a : get_or ar e 0 < 256) where
    below_after : (when eqb r 0 then next else suc next) < 0x8000 → IdsBelowNext (length ar) (when eqb r 0 then next else suc next) ids'
    below_after p =
        let n = spans-at b ar ws in
        let s = flood_below (net_at b ar ws) dist level next e (marks_at (length ar) ids ws) (rw n v) (rw n h) (rw (area_at b ar ws e h) a) z (rw (← flooded_count) p) in
        let m : (flood (net_at b ar ws) dist level next (marks_at (length ar) ids ws) e).marks.ids ≡ ids' = sym (ap (λ (y : Marks). y.ids) flooded_marks) in
        rw (n, ← flooded_count, m) at s

    pub failed_below : r ≡ 0 → IdsBelowNext (length ar) next ids'
    unfolding when◌then◌else◌
    failed_below c = let s = rw (eq-eqb r 0 c) at below_after in s v.plain

    pub won_below : (r ≡ 0 → ⊥) → next + 1 < 0x8000 → IdsBelowNext (length ar) (next + 1) ids'
    unfolding when◌then◌else◌
    won_below c p = let s = rw (ne_eqb r 0 c) at below_after in rw (add-one next) (s (omega arith))

pub flag_not : (r : ℕ) → r ≤ 0x8000 → (r ≡ 0x8000 → ⊥) → r < 0x8000
flag_not r h z = omega arith

-- ---------------------------------------------------------------- the entries of a stack

-- what lies past the source distances stays
pub past_same : (n i : ℕ) (ws ws' : List ℕ) → n ≤ i → drop n ws' ≡ drop n ws → get_or ws' i 0 ≡ get_or ws i 0
past_same n i ws ws' h e =
    let k : n + (i - n) ≡ i = omega arith in
    rw (← k) (sym (get_or-drop n ws' (i - n) 0) ∙ ap (λ (l : List ℕ). get_or l (i - n) 0) e ∙ get_or-drop n ws (i - n) 0)

past_sec : (n : ℕ) (ws ws' : List ℕ) → drop n ws' ≡ drop n ws → (b k : ℕ) → n ≤ b → sec b k ws' ≡ sec b k ws
past_sec n ws ws' e b k g = rw (sec-drop b k n ws' g, sec-drop b k n ws g, e)

pub blank_past : (n f top : ℕ) (ws ws' : List ℕ) → n ≤ f → drop n ws' ≡ drop n ws → Blank n f top ws → Blank n f top ws'
blank_past n f top ws ws' h e v = record { zeros = λ i a k. past_same n i ws ws' (omega arith) e ∙ v.zeros i a k }

sec_cons : (j k : ℕ) (ws : List ℕ) → j < length ws → sec j (suc k) ws ≡ get_or ws j 0 ∷ sec (j + 1) k ws
sec_cons j k ws h = rw (drop-cons ws j 0 h, add-one j)

-- j entries are flooded from: the rest gives what all give
pub record FloodedTo (ar dist : List ℕ) (b a fill level next : ℕ) (ids₀ ws₀ ids ws : List ℕ) (j id : ℕ) : Type 0 where
  pub within : j ≤ fill
  pub size₁ : length ids ≡ length ids₀
  pub size₂ : length ws ≡ length ws₀
  pub past : drop (length ar) ws ≡ drop (length ar) ws₀
  pub ids_below : IdsBelowNext (length ar) id ids
  pub same : floods (net_at b ar ws₀) dist level (sec a fill ws₀) (marks_at (length ar) ids₀ ws₀) next
      ≡ floods (net_at b ar ws₀) dist level (sec (a + j) (fill - j) ws) (marks_at (length ar) ids ws) id
  pub out : floods_run_out (net_at b ar ws₀) dist level (sec a fill ws₀) (marks_at (length ar) ids₀ ws₀) next
      ≡ floods_run_out (net_at b ar ws₀) dist level (sec (a + j) (fill - j) ws) (marks_at (length ar) ids ws) id

-- y₀ is the watched span's story before the floods, y the one so far: the rest tells what all tell
pub record FloodsTold (ar dist : List ℕ) (b a fill level next : ℕ) (ids₀ ws₀ : List ℕ) (y₀ : Story) (ids ws : List ℕ) (j id : ℕ) (y : Story) : Type 0 where
  pub told : floods_tell (net_at b ar ws₀) dist level (sec a fill ws₀) (marks_at (length ar) ids₀ ws₀) next y₀
      ≡ floods_tell (net_at b ar ws₀) dist level (sec (a + j) (fill - j) ws) (marks_at (length ar) ids ws) id y

module _ (ar con dist : List ℕ) (b a fill level next : ℕ) (ids₀ ws₀ : List ℕ) (l : Lent b ar con ws₀) (en : EntriesAt (length ar) a fill ws₀) (ro : length ar ≤ b) where
  pub flooded_start : IdsBelowNext (length ar) next ids₀ → FloodedTo ar dist b a fill level next ids₀ ws₀ ids₀ ws₀ 0 next
  flooded_start v =
      let z : a + 0 ≡ a = omega arith in
      let y : fill - 0 ≡ fill = omega arith in
      record { within = omega arith; size₁ = refl; size₂ = refl; past = refl; ids_below = v; same = rw (z, y); out = rw (z, y) }

  pub told-start : (y : Story) → FloodsTold ar dist b a fill level next ids₀ ws₀ y ids₀ ws₀ 0 next y
  told-start y =
      let z : a + 0 ≡ a = omega arith in
      let k : fill - 0 ≡ fill = omega arith in
      record { told = rw (z, k) }

  module _ (ids ws : List ℕ) (j id : ℕ) (v : FloodedTo ar dist b a fill level next ids₀ ws₀ ids ws j id) where
    flooded_net : net_at b ar ws ≡ net_at b ar ws₀
    flooded_net = net_same b ar ws₀ ws l.room v.size₂ (λ x k. past_same (length ar) x ws₀ ws (omega arith) v.past)

    pub flooded_lent : Lent b ar con ws
    flooded_lent = lent_same b ar con ws₀ ws v.size₂ flooded_net l

    pub flooded_at : j < fill → a + j < length ws
    flooded_at h = omega (arith, en.room, v.size₂)

    pub flooded_entry : (e : ℕ) → j < fill → e ≡ get_or ws (a + j) 0 → (e ≡ none → ⊥) → e < length ar
    flooded_entry e h q k =
        let p = q ∙ past_same (length ar) (a + j) ws₀ ws (omega (arith, en.past)) v.past in
        rw p (en.entries.spans j h (λ z. k (p ∙ z)))

    -- the entry at j, and what is left after it
    entry_cons : (e : ℕ) → j < fill → e ≡ get_or ws (a + j) 0 → sec (a + j) (fill - j) ws ≡ e ∷ sec (a + j + 1) (fill - (j + 1)) ws
    entry_cons e h q = let u : fill - j ≡ suc (fill - (j + 1)) = omega arith in rw (u, q) (sec_cons (a + j) (fill - (j + 1)) ws (flooded_at h))

    module _ (ids' ws' : List ℕ) (e r : ℕ) (h : j < fill) (q : e ≡ get_or ws (a + j) 0) (k₁ : length ids' ≡ length ids) (k₂ : length ws' ≡ length ws)
        (m₀ : record { marks = marks_at (length ar) ids' ws'; next = r } ≡ flood_one (net_at b ar ws) dist level e (marks_at (length ar) ids ws) id)
        (d : drop (length ar) ws' ≡ drop (length ar) ws) where
      abbrev N : Net
      N = net_at b ar ws₀

      m : record { marks = marks_at (length ar) ids' ws'; next = r } ≡ flood_one N dist level e (marks_at (length ar) ids ws) id
      m = rw flooded_net at m₀

      rest : sec (a + j + 1) (fill - (j + 1)) ws ≡ sec (a + (j + 1)) (fill - (j + 1)) ws'
      rest = let w : a + (j + 1) ≡ a + j + 1 = omega arith in rw w (sym (past_sec (length ar) ws ws' d (a + j + 1) (fill - (j + 1)) (omega (arith, en.past))))

      -- ids run out here, or after it
      out_step : floods_run_out N dist level (sec a fill ws₀) (marks_at (length ar) ids₀ ws₀) next
          ≡ eqb r 0x8000 or floods_run_out N dist level (sec (a + (j + 1)) (fill - (j + 1)) ws') (marks_at (length ar) ids' ws') r
      out_step =
          v.out ∙ ap (λ (t : List ℕ). floods_run_out N dist level t (marks_at (length ar) ids ws) id) (entry_cons e h q)
          ∙ run_step N dist level e id (marks_at (length ar) ids ws) (sec (a + j + 1) (fill - (j + 1)) ws) v.ids_below.plain
          ∙ ap (λ (x : Ids). eqb x.next 0x8000 or floods_run_out N dist level (sec (a + j + 1) (fill - (j + 1)) ws) x.marks x.next) (sym m)
          ∙ ap (λ (t : List ℕ). eqb r 0x8000 or floods_run_out N dist level t (marks_at (length ar) ids' ws') r) rest

      pub flooded_next : IdsBelowNext (length ar) r ids' → FloodedTo ar dist b a fill level next ids₀ ws₀ ids' ws' (j + 1) r
      unfolding ◌or◌
      flooded_next s = record {
        within = omega arith;
        size₁ = k₁ ∙ v.size₁;
        size₂ = k₂ ∙ v.size₂;
        past = d ∙ v.past;
        ids_below = s;
        same =
            v.same ∙ ap (λ (t : List ℕ). floods N dist level t (marks_at (length ar) ids ws) id) (entry_cons e h q)
            ∙ floods-step N dist level e id (marks_at (length ar) ids ws) (sec (a + j + 1) (fill - (j + 1)) ws)
            ∙ ap (λ (x : Ids). floods N dist level (sec (a + j + 1) (fill - (j + 1)) ws) x.marks x.next) (sym m)
            ∙ ap (λ (t : List ℕ). floods N dist level t (marks_at (length ar) ids' ws') r) rest;
        out = out_step ∙ rw (ne_eqb r 0x8000 (λ z. omega (arith, s.plain)));
      }

      pub told_next : (y₀ y y' : Story) → FloodsTold ar dist b a fill level next ids₀ ws₀ y₀ ids ws j id y
          → y' ≡ one_tells (net_at b ar ws) dist level e (marks_at (length ar) ids ws) id y → FloodsTold ar dist b a fill level next ids₀ ws₀ y₀ ids' ws' (j + 1) r y'
      told_next y₀ y y' u t = record {
        told =
            u.told ∙ ap (λ (t : List ℕ). floods_tell N dist level t (marks_at (length ar) ids ws) id y) (entry_cons e h q)
            ∙ tells_step N dist level e id (marks_at (length ar) ids ws) y (sec (a + j + 1) (fill - (j + 1)) ws)
            ∙ ap (λ (x : Ids). floods_tell N dist level (sec (a + j + 1) (fill - (j + 1)) ws) x.marks x.next (one_tells N dist level e (marks_at (length ar) ids ws) id y)) (sym m)
            ∙ ap (λ (t : List ℕ). floods_tell N dist level t (marks_at (length ar) ids' ws') r (one_tells N dist level e (marks_at (length ar) ids ws) id y)) rest
            ∙ ap (floods_tell N dist level (sec (a + (j + 1)) (fill - (j + 1)) ws') (marks_at (length ar) ids' ws') r) (sym (rw flooded_net at t));
      }

      -- the next id is the flag
      pub flooded_out : r ≡ 0x8000 → FloodedFrom (net_at b ar ws₀) dist level (sec a fill ws₀) (length ar) next ids₀ ws₀ r ids' ws'
      unfolding ◌or◌
      flooded_out z =
          let o : floods_run_out N dist level (sec a fill ws₀) (marks_at (length ar) ids₀ ws₀) next ≡ true = out_step ∙ rw (eq-eqb r 0x8000 z) in
          record { out = eq-eqb r 0x8000 z ∙ sym o; past = d ∙ v.past; same = λ f. absurd (true≢false (sym o ∙ f)); below = λ f. absurd (true≢false (sym o ∙ f)) }

    pub flooded_end : fill ≤ j → FloodedFrom (net_at b ar ws₀) dist level (sec a fill ws₀) (length ar) next ids₀ ws₀ id ids ws
    unfolding floods floods_run_out
    flooded_end h =
        let z : fill - j ≡ 0 = omega arith in
        let o : floods_run_out (net_at b ar ws₀) dist level (sec a fill ws₀) (marks_at (length ar) ids₀ ws₀) next ≡ false = rw z at v.out in
        record { out = ne_eqb id 0x8000 (λ q. omega (arith, v.ids_below.plain)) ∙ sym o; past = v.past; same = λ _. sym (rw z at v.same); below = λ _. v.ids_below }

    pub told-end : (y₀ y : Story) → FloodsTold ar dist b a fill level next ids₀ ws₀ y₀ ids ws j id y → fill ≤ j
        → y ≡ floods_tell (net_at b ar ws₀) dist level (sec a fill ws₀) (marks_at (length ar) ids₀ ws₀) next y₀
    unfolding floods_tell
    told-end y₀ y u h = let z : fill - j ≡ 0 = omega arith in sym (rw z at u.told)
