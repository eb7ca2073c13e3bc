-- The list in the pool through a stride, the start and the trimming: what the code leaves there is the rule's walker and list.
-- What is past the list's end stays zero, and what is written lies in the pool, before the table: so the net stays.
use Prim.Native.Nat.{ℕ, zero, suc, ◌+◌, ◌*◌, ◌-◌, ◌≤◌, ◌<◌}
use native.Mathlib.Omega.{arith}
use native.Mathlib.Decide.{ℕ_discrete, dec_lt}
use mathlib.Core.Path.{◌≡◌, refl, sym, ap, ◌∙◌}
use mathlib.Core.Bool.{Bool, true, false}
use mathlib.Core.List.{List, [], ◌∷◌, ◌++◌}
use lib.ListN.{length, get_or, set, take, drop, replicate, length-set, length-drop, length-append, length-replicate, get_or-replicate}
use lib.Seq.{take-suc-set, drop-set-add, take-set-le, get_or-set_other, get_or-set_same, ext_get_or, take-take, get_or-append-add, length-take-le, take_at, drop_at}
use lib.Dec.{eqb, ltb}
use borrow.Author.Tests.{eqb-true, eq-eqb, ne_eqb, lt-ltb}
use borrow.Rule.Slice.PartMut.{put_mid, mid_of, same_len_mid}
use Rattle.rules.specs.Base.{◌and◌, when◌then◌else◌, many}
use Rattle.rules.specs.Net.{near}
use Rattle.rules.specs.Contour.{across, solid, stride, trim}
use Rattle.laws.proofs.Basics.{if-ind, both, tests, and_both}
use Rattle.space.specs.Space.{sec, Frame}
use Rattle.space.proofs.Laws.{length-sec, get_or-sec, sec-put, sec-take, sec_mid, frame_put, get_or_before, get_d_after}
use Rattle.field.specs.Lent.{cons_at}
use Rattle.field.specs.declared.place.SpanIx.{SpanIx}
use Rattle.net.specs.Table.{net_at, AtSpan}
use Rattle.net.proofs.Tables.{lent-span, near_is, net_same}
use Rattle.contour.specs.Walks.{first}
use Rattle.contour.specs.Pool.{turned, stepped, noted, view, Laid, lay, pooled, Standing, Start, Stridden, Begun, Trimmed}
use Rattle.contour.specs.declared.walker.Walker.{Walker}
use Rattle.contour.specs.declared.walk.Pool.{Pool}

-- ---------------------------------------------------------------- the list in the pool

-- one more at its end
pub sec_push : (ws : List ℕ) (at start e v : ℕ) → start ≤ e → at + e < length ws
    → sec (at + start) (e + 1 - start) (set ws (at + e) v) ≡ sec (at + start) (e - start) ws ++ (v ∷ [])
sec_push ws at start e v h g =
    let a = at + start in
    let q : at + e ≡ a + (e - start) = omega arith in
    let p : e + 1 - start ≡ suc (e - start) = omega arith in
    let l : e - start < length (drop a ws) = rw (length-drop a ws) (omega arith) in
    rw p (ap (λ (i : ℕ). take (suc (e - start)) (drop a (set ws i v))) q ∙ ap (take (suc (e - start))) (drop-set-add a ws (e - start) v)
    ∙ take-suc-set (drop a ws) (e - start) v l)

-- its last one dropped
pub sec_pop : (ws : List ℕ) (at start e v : ℕ) → start < e → at + e ≤ length ws
    → sec (at + start) (e - 1 - start) (set ws (at + (e - 1)) v) ≡ take (length (sec (at + start) (e - start) ws) - 1) (sec (at + start) (e - start) ws)
sec_pop ws at start e v h g =
    let a = at + start in
    let n : length (sec a (e - start) ws) ≡ e - start = length-sec a (e - start) ws (omega arith) in
    let q : at + (e - 1) ≡ a + (e - 1 - start) = omega arith in
    let p : e - start - 1 ≡ e - 1 - start = omega arith in
    rw (n, p)
    (ap (λ (i : ℕ). take (e - 1 - start) (drop a (set ws i v))) q ∙ ap (take (e - 1 - start)) (drop-set-add a ws (e - 1 - start) v)
    ∙ take-set-le (e - 1 - start) (drop a ws) (e - 1 - start) v (omega arith) ∙ sym (take-take (e - 1 - start) (e - start) (drop a ws) (omega arith)))

module _ (ws₀ ws : List ℕ) (at size start e : ℕ) (l : Laid ws₀ at size start e ws) where
  pub laid_push : (v : ℕ) → e < size → Laid ws₀ at size start (e + 1) (set ws (at + e) v)
  laid_push v h = record {
    order = omega (arith, l.order);
    within = omega arith;
    inside = rw (length-set ws (at + e) v) l.inside;
    same = length-set ws (at + e) v ∙ l.same;
    before = λ i g. get_or-set_other ws (at + e) i v 0 (λ z. omega (arith, l.order)) ∙ l.before i g;
    blank = λ i g k. get_or-set_other ws (at + e) (at + i) v 0 (λ z. omega arith) ∙ l.blank i (omega arith) k;
    after = λ i g. get_or-set_other ws (at + e) i v 0 (λ z. omega arith) ∙ l.after i g;
  }

  pub laid_pop : start < e → Laid ws₀ at size start (e - 1) (set ws (at + (e - 1)) 0)
  laid_pop h = record {
    order = omega arith;
    within = omega (arith, l.within);
    inside = rw (length-set ws (at + (e - 1)) 0) l.inside;
    same = length-set ws (at + (e - 1)) 0 ∙ l.same;
    before = λ i g. get_or-set_other ws (at + (e - 1)) i 0 0 (λ z. omega arith) ∙ l.before i g;
    blank = λ i g k. elim (ℕ_discrete i (e - 1)) [
      | yes z ↦ rw z (get_or-set_same ws (at + (e - 1)) 0 0 (omega (arith, l.within, l.inside)))
      | no z ↦ get_or-set_other ws (at + (e - 1)) (at + i) 0 0 (λ y. z (omega arith)) ∙ l.blank i (omega arith) k
    ];
    after = λ i g. get_or-set_other ws (at + (e - 1)) i 0 0 (λ z. omega (arith, l.within)) ∙ l.after i g;
  }

-- ---------------------------------------------------------------- the pool after a list

module _ (ws : List ℕ) (base size top : ℕ) (l : List ℕ) (h : base + size ≤ length ws) (g : top + length l ≤ size) where
  mid_length : length (mid_of base size ws) ≡ size
  mid_length = length-sec base size ws h

  front : length (take top (mid_of base size ws)) ≡ top
  front = length-take-le top (mid_of base size ws) (omega (arith, mid_length))

  lay-length : length (lay (mid_of base size ws) top l) ≡ size
  unfolding lay
  lay-length =
      let z = length-replicate (length (mid_of base size ws) - (top + length l)) (let o : ℕ = 0 in o) in
      length-append (take top (mid_of base size ws)) _ ∙ rw (length-append l _) (omega (arith, front, mid_length, z))

  pub pooled-length : length (pooled ws base size top l) ≡ length ws
  unfolding pooled
  pooled-length = same_len_mid base size ws (lay (mid_of base size ws) top l) (lay-length ∙ sym mid_length)

  pub pooled_frame : Frame base (base + size) ws (pooled ws base size top l)
  unfolding pooled
  pooled_frame =
      let q : base + size - base ≡ size = omega arith in
      rw q at (frame_put base (base + size) ws (lay (mid_of base size ws) top l) (omega arith) h (rw q lay-length))

  pub pooled_list : sec (base + top) (length l) (pooled ws base size top l) ≡ l
  unfolding pooled lay
  pooled_list =
      sec-put base size top (length l) ws (lay (mid_of base size ws) top l) (omega arith) (omega (arith, lay-length))
      ∙ ap (take (length l)) (drop_at (take top (mid_of base size ws)) _ top front) ∙ take_at l _ (length l) refl

  -- a list before it
  pub pooled_before : (a b : ℕ) → a ≤ b → b ≤ top → sec (base + a) (b - a) (pooled ws base size top l) ≡ sec (base + a) (b - a) ws
  unfolding pooled lay
  pooled_before a b k j =
      let m = mid_of base size ws in
      sec-put base size a (b - a) ws (lay m top l) (omega arith) (omega (arith, lay-length))
      ∙ sym (sec-take a (b - a) top (lay m top l) (omega arith)) ∙ ap (sec a (b - a)) (take_at (take top m) _ top front)
      ∙ sec-take a (b - a) top m (omega arith) ∙ sec_mid base size a (b - a) ws (omega arith)

  pub pooled-blank : (i : ℕ) → top + length l ≤ i → i < size → get_or (pooled ws base size top l) (base + i) 0 ≡ 0
  unfolding pooled lay
  pooled-blank i k j =
      let m = mid_of base size ws in
      let z = replicate (length m - (top + length l)) (let o : ℕ = 0 in o) in
      let q : base + 0 ≡ base = omega arith in
      let s : sec base size (put_mid base size ws (lay m top l)) ≡ sec 0 size (lay m top l) = rw q at (sec-put base size 0 size ws (lay m top l) (omega arith) (omega (arith, lay-length))) in
      let e : i ≡ top + (length l + (i - top - length l)) = omega arith in
      let f : length l + (i - top - length l) ≡ i - top = omega arith in
      sym (get_or-sec base size i (put_mid base size ws (lay m top l)) j) ∙ ap (λ (x : List ℕ). get_or x i 0) s
      ∙ get_or-sec 0 size i (lay m top l) j
      ∙ ap (λ (x : ℕ). get_or (lay m top l) x 0) (let y : 0 + i ≡ length (take top m) + (length l + (i - top - length l)) = omega (arith, front) in y)
      ∙ get_or-append-add (take top m) (l ++ z) (length l + (i - top - length l)) 0 ∙ get_or-append-add l z (i - top - length l) 0
      ∙ get_or-replicate (length m - (top + length l)) (i - top - length l) 0 0 (omega (arith, mid_length))

  pub pooled-at : (i : ℕ) → i < top → get_or (pooled ws base size top l) (base + i) 0 ≡ get_or ws (base + i) 0
  pooled-at i k =
      let y : base + 0 + i ≡ base + i = omega arith in
      let z : i < top - 0 = omega arith in
      let e = pooled_before 0 top (omega arith) (omega arith) in
      rw y at (sym (get_or-sec (base + 0) (top - 0) i (pooled ws base size top l) z) ∙ ap (λ (x : List ℕ). get_or x i 0) e ∙ get_or-sec (base + 0) (top - 0) i ws z)

-- the workspace whole
module _ (ws₀ ws : List ℕ) (at size start e : ℕ) (l : Laid ws₀ at size start e ws) where
  abbrev listed : List ℕ
  listed = sec (at + start) (e - start) ws

  listed-length : length listed ≡ e - start
  listed-length = length-sec (at + start) (e - start) ws (omega (arith, l.order, l.within, l.inside))

  there : at + size ≤ length ws₀
  there = omega (arith, l.inside, l.same)

  fits : start + length listed ≤ size
  fits = omega (arith, listed-length, l.order, l.within)

  listed_at : (i : ℕ) → at + start ≤ i → i < at + e → get_or ws i 0 ≡ get_or (pooled ws₀ at size start listed) i 0
  listed_at i a b =
      let j = i - (at + start) in
      let q : at + start + j ≡ i = omega arith in
      let m : j < e - start = omega arith in
      let k : j < length listed = omega (arith, listed-length) in
      rw (← q) (sym (get_or-sec (at + start) (e - start) j ws m) ∙ sym (ap (λ (x : List ℕ). get_or x j 0) (pooled_list ws₀ at size start listed there fits))
      ∙ get_or-sec (at + start) (length listed) j (pooled ws₀ at size start listed) k)

  each : (i : ℕ) → get_or ws i 0 ≡ get_or (pooled ws₀ at size start listed) i 0
  each i =
      let f = pooled_frame ws₀ at size start listed there fits in
      elim (dec_lt i at) [
        | yes a ↦ l.before i (omega arith) ∙ sym (get_or_before i f a)
        | no a ↦ elim (dec_lt i (at + start)) [
          | yes b ↦ (let q : at + (i - at) ≡ i = omega arith in l.before i b ∙ sym (rw q at (pooled-at ws₀ at size start listed there fits (i - at) (omega arith))))
          | no b ↦ elim (dec_lt i (at + e)) [
            | yes c ↦ listed_at i (omega arith) c
            | no c ↦ elim (dec_lt i (at + size)) [
              | yes d ↦ (let q : at + (i - at) ≡ i = omega arith in rw q at (l.blank (i - at) (omega arith) (omega arith)
                  ∙ sym (pooled-blank ws₀ at size start listed there fits (i - at) (omega (arith, listed-length, l.order)) (omega arith))))
              | no d ↦ l.after i (omega arith) ∙ sym (get_d_after i f (omega arith))
            ]
          ]
        ]
      ]

  pub laid_whole : ws ≡ pooled ws₀ at size start listed
  laid_whole = ext_get_or 0 ws (pooled ws₀ at size start listed) (l.same ∙ sym (pooled-length ws₀ at size start listed there fits)) (λ i _. each i)

-- ---------------------------------------------------------------- a stride

-- what is written in the pool leaves the net as it was
pool_net : (pool : Pool) (ids ws : List ℕ) (e v : ℕ) → pool.at + 4 * length ids ≤ pool.table → pool.table + 4 * length ids ≤ length ws → e < 4 * length ids
    → net_at pool.table ids (set ws (pool.at + e) v) ≡ net_at pool.table ids ws
pool_net pool ids ws e v a r h =
    net_same pool.table ids ws (set ws (pool.at + e) v) r (length-set ws (pool.at + e) v) (λ i g. get_or-set_other ws (pool.at + e) i v 0 (λ z. omega arith))

-- the four connections of the walker's span can be read
pub stand_con : (pool : Pool) (cs ids ws : List ℕ) (v : Walker) → Standing pool cs ids v ws → 4 * v.span.0 + 3 < length cs
stand_con pool cs ids ws v st = omega (arith, st.span, st.lent.linked)

module _ (pool : Pool) (cs cons ids ws : List ℕ) (v : Walker) (st : Standing pool cs ids v ws) (four : cons ≡ cons_at cs v.span.0) where
  abbrev S : ℕ
  S = v.span.0

  abbrev D : ℕ
  D = v.dir

  pub stand_at : AtSpan pool.table ids ws cons S
  stand_at = lent-span pool.table ids cs ws cons S st.lent st.span four

  pub stride-step : (b : Bool) → b ≡ solid (net_at pool.table ids ws) ids S D → b ≡ false
      → (to : SpanIx) → to.0 ≡ get_or ws (pool.table + (4 * S + D)) 0 → (u : Walker) → u ≡ stepped v to → Stridden pool ids ws v ws u
  unfolding view stride when◌then◌else◌
  stride-step b f t to g u e =
      let z : solid (net_at pool.table ids ws) ids S D ≡ false = sym f ∙ t in
      let m : near (net_at pool.table ids ws) S D ≡ to.0 = near_is pool.table ids ws cons S D to.0 stand_at st.dir g in
      rw e (record { same = λ start h. rw (z, m); net = refl; laid = λ ws₀ start l. l; order = omega arith })

  module _ (b : Bool) (f : b ≡ solid (net_at pool.table ids ws) ids S D) (t : b ≡ true) (r : ℕ) (g : r ≡ across (net_at pool.table ids ws) ids S D) where
    pub stride-turn : r ≡ v.last → (u : Walker) → u ≡ turned v → Stridden pool ids ws v ws u
    unfolding view stride when◌then◌else◌
    stride-turn q u e =
        let z : solid (net_at pool.table ids ws) ids S D ≡ true = sym f ∙ t in
        let a : across (net_at pool.table ids ws) ids S D ≡ v.last = sym g ∙ q in
        rw e (record { same = λ start h. rw (z, a, eq-eqb v.last v.last refl); net = refl; laid = λ ws₀ start l. l; order = omega arith })

    module _ (q : r ≡ v.last → ⊥) where
      -- one more id has room
      pub stand_room : v.end < 4 * length ids
      stand_room = st.room (λ z. q (g ∙ z))

      pub stand_in : pool.at + v.end < length ws
      stand_in = omega (arith, stand_room, st.apart, st.lent.room)

      pub stride_note : (u : Walker) → u ≡ turned (noted v r) → Stridden pool ids ws v (set ws (pool.at + v.end) r) u
      unfolding view stride when◌then◌else◌
      stride_note u e =
          let z : solid (net_at pool.table ids ws) ids S D ≡ true = sym f ∙ t in
          let a : across (net_at pool.table ids ws) ids S D ≡ r = sym g in
          rw e (record {
            same = λ start h. rw (z, a, ne_eqb r v.last q, sec_push ws pool.at start v.end r h stand_in);
            net = pool_net pool ids ws v.end r st.apart st.lent.room stand_room;
            laid = λ ws₀ start l. laid_push ws₀ ws pool.at (4 * length ids) start v.end l r stand_room;
            order = omega arith;
          })

-- ---------------------------------------------------------------- the start

many-one : (v : ℕ) (l : List ℕ) (s : ℕ) → s < length l → get_or l s 0 ≡ v → 0 < many (eqb v) l
unfolding many when◌then◌else◌
many-one v [] s h e = absurd (omega arith)
many-one v (x ∷ l) zero h e = rw (eq-eqb v x (sym e)) (omega arith)
many-one v (x ∷ l) (suc s) h e = go (eqb v x) (many-one v l s (omega arith) e)
  where
    go : (b : Bool) → 0 < many (eqb v) l → 0 < (when b then suc (many (eqb v) l) else many (eqb v) l)
    go true h = omega arith
    go false h = h

module _ (pool : Pool) (cs ids ws : List ℕ) (s start : ℕ) (st : Start pool cs ids s start ws) where
  pub start_con : 4 * s + 3 < length cs
  start_con = omega (arith, st.span, st.ways.lent.linked)

  pub start-at : (cons : List ℕ) → cons ≡ cons_at cs s → AtSpan pool.table ids ws cons s
  start-at cons e = lent-span pool.table ids cs ws cons s st.ways.lent st.span e

  start_room : start < 4 * length ids
  start_room = omega (arith, st.room, many-one (get_or ids s 0) ids s st.span refl)

  pub start_in : pool.at + start < length ws
  start_in = omega (arith, start_room, st.apart, st.ways.lent.room)

  pub start_laid : Laid ws pool.at (4 * length ids) start start ws
  start_laid = record {
    order = omega arith;
    within = omega (arith, start_room);
    inside = omega (arith, st.apart, st.ways.lent.room);
    same = refl;
    before = λ i g. refl;
    blank = st.blank;
    after = λ i g. refl;
  }

  pub begun : (d r : ℕ) (u : Walker) → r ≡ across (net_at pool.table ids ws) ids s d → u.span.0 ≡ s → u.dir ≡ d → u.last ≡ r → u.end ≡ start + 1
      → Begun pool ids ws s d start (set ws (pool.at + start) r) u
  unfolding view first
  begun d r u g a b j e = record {
    same =
        let z : sec (pool.at + start) (start - start) ws ≡ [] = (let k : start - start ≡ 0 = omega arith in rw k refl) in
        rw (a, b, j, e, sec_push ws pool.at start start r (omega arith) start_in, z, g);
    net = pool_net pool ids ws start r st.apart st.ways.lent.room start_room;
    laid = rw e (laid_push ws ws pool.at (4 * length ids) start start start_laid r start_room);
    order = rw e (omega arith);
  }

-- ---------------------------------------------------------------- trimming

module _ (at : ℕ) (ws : List ℕ) (start e : ℕ) (h : start < e) (g : at + e ≤ length ws) where
  abbrev list : List ℕ
  list = sec (at + start) (e - start) ws

  list_length : length list ≡ e - start
  list_length = length-sec (at + start) (e - start) ws (omega arith)

  list_first : get_or list 0 0 ≡ get_or ws (at + start) 0
  list_first =
      let q : at + start + 0 ≡ at + start = omega arith in
      rw q at (get_or-sec (at + start) (e - start) 0 ws (omega arith))

  list_last : get_or list (length list - 1) 0 ≡ get_or ws (at + (e - 1)) 0
  list_last =
      let q : at + start + (e - start - 1) ≡ at + (e - 1) = omega arith in
      rw list_length (rw q at (get_or-sec (at + start) (e - start) (e - start - 1) ws (omega arith)))

  pub trim_short : e - start < 2 → Trimmed at ws start e ws e
  unfolding trim
  trim_short k = record {
    same = if-ind (λ (x : List ℕ). list ≡ x) _ (λ t. absurd (omega (tests, (both _ _ t).0, list_length))) (λ _. refl);
    laid = λ ws₀ size l. l;
  }

  pub trim-other : (get_or ws (at + start) 0 ≡ get_or ws (at + (e - 1)) 0 → ⊥) → Trimmed at ws start e ws e
  unfolding trim
  trim-other n = record {
    same = if-ind (λ (x : List ℕ). list ≡ x) _ (λ t. absurd (n (sym list_first ∙ eqb-true _ _ (both _ _ t).1 ∙ list_last))) (λ _. refl);
    laid = λ ws₀ size l. l;
  }

  pub trim-drop : 2 ≤ e - start → get_or ws (at + start) 0 ≡ get_or ws (at + (e - 1)) 0 → Trimmed at ws start e (set ws (at + (e - 1)) 0) (e - 1)
  unfolding trim when◌then◌else◌
  trim-drop k n = record {
    same =
        let t : (ltb 1 (length list) and eqb (get_or list 0 0) (get_or list (length list - 1) 0)) ≡ true =
        and_both _ _ (lt-ltb 1 (length list) (omega (arith, list_length))) (eq-eqb _ _ (list_first ∙ n ∙ sym list_last)) in
        sec_pop ws at start e 0 h g ∙ rw t;
    laid = λ ws₀ size l. laid_pop ws₀ ws at size start e l h;
  }

pub noted_dir : (v u : Walker) (r : ℕ) → u ≡ noted v r → v.dir < 4 → u.dir < 4
noted_dir v u r e h = rw e h
