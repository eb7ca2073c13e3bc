-- Records: a record's area is its spans', and what it lists lies across an edge of its spans. Assumes nothing.
use Prim.Native.Nat.{ℕ, zero, suc, ◌-◌, ◌≤◌, ◌<◌}
use native.Mathlib.Omega.{arith}
use native.Mathlib.Nat.{zero-add}
use native.Mathlib.Decide.{dec_lt, ℕ_discrete}
use mathlib.Core.Path.{◌≡◌, refl, sym, ap, ◌∙◌}
use mathlib.Core.Bool.{true≢false}
use mathlib.Core.List.{List, [], ◌∷◌}
use lib.ListN.{length, get_or, set, length-set, get_or-eq_default}
use lib.Seq.{get_or-set_same}
use lib.Dec.{ltb}
use borrow.Author.Tests.{eqb-true, eqb-false, ltb-true, ltb-false, not-false}
use Rattle.rules.specs.Base.{when◌then◌else◌, upto, tab}
use Rattle.rules.specs.Field.{Field}
use Rattle.rules.specs.Net.{Net, net_of, spans, near, area_of}
use Rattle.rules.specs.Growth.{plain}
use Rattle.rules.specs.Contour.{across, solid, Walker, stride, walk, trim, walk_from, contour}
use Rattle.rules.specs.Records.{Rec, fresh, at, counted, add_span, records}
use Rattle.laws.proofs.Basics.{both, if-ind, upto-ind, All, All_map, nonzero_in, tab-at, tab-each, length-tab, append_all, take_all}
use Rattle.rooms.specs.Rooms.{Plain, Bears}
use Rattle.rooms.proofs.Joins.{plain_true, true_plain}
use Rattle.rooms.proofs.Expanding.{Grow}

-- ---------------------------------------------------------------- lists

pub at_set : (rs : List Rec) (i : ℕ) (v : Rec) (j : ℕ) (P : Rec → Type 0) → (j ≡ i → P v) → P (at rs j) → P (at (set rs i v) j)
unfolding at
at_set [] i v j P p q = q
at_set (x ∷ rs) zero v zero P p q = p refl
at_set (x ∷ rs) zero v (suc j) P p q = q
at_set (x ∷ rs) (suc i) v zero P p q = q
at_set (x ∷ rs) (suc i) v (suc j) P p q = at_set rs i v j P (λ e. p (ap suc e)) q

pub at_same : (rs : List Rec) (i : ℕ) (v : Rec) → i < length rs → at (set rs i v) i ≡ v
unfolding at
at_same rs i v h = get_or-set_same rs i v (fresh 0) h

pub at_past : (rs : List Rec) (j : ℕ) → length rs ≤ j → (at rs j).id ≡ 0
unfolding at fresh
at_past rs j h = ap (λ (r : Rec). r.id) (get_or-eq_default rs (fresh 0) h)

-- ---------------------------------------------------------------- the contour

-- r is the id across an edge of a span of id j
pub record Listed (N : Net) (ids : List ℕ) (j r : ℕ) : Type 0 where
  pub span : ℕ
  pub dir : ℕ
  pub inside : span < length ids
  pub four : dir < 4
  pub own : Bears ids j span
  pub there : get_or ids (near N span dir) 0 ≡ r

module _ (N : Net) (ids : List ℕ) (j : ℕ) (some : j ≡ 0 → ⊥) where
  record Walks (v : Walker) : Type 0 where
    own : Bears ids j v.span
    four : v.dir < 4
    list : All (Listed N ids j) v.listed

  edge : (s d : ℕ) → Bears ids j s → d < 4 → Listed N ids j (get_or ids (near N s d) 0)
  edge s d o h = record { span = s; dir = d; inside = nonzero_in ids s (λ z. some (sym o ∙ z)); four = h; own = o; there = refl }

  stride_walks : (v : Walker) → Walks v → Walks (stride N ids v)
  unfolding stride solid across
  stride_walks v h =
      if-ind (λ (x : Walker). Walks x) _
      (λ e. record {
        own = h.own;
        four = omega arith;
        list = if-ind (All (Listed N ids j)) _ (λ _. h.list)
            (λ _. append_all (Listed N ids j) v.listed _ h.list (edge v.span v.dir h.own h.four, tt));
      })
      (λ e. record { own = eqb-true _ _ (not-false _ e) ∙ h.own; four = omega arith; list = h.list })

  walk_walks : (s d k : ℕ) (v : Walker) → Walks v → Walks (walk N ids s d k v)
  unfolding walk
  walk_walks s d zero v h = h
  walk_walks s d (suc k) v h =
      let u = stride_walks v h in
      if-ind (λ (x : Walker). Walks x) _ (λ _. u) (λ _. walk_walks s d k (stride N ids v) u)

  trim_all : (P : ℕ → Type 0) (l : List ℕ) → All P l → All P (trim l)
  unfolding trim
  trim_all P l h = if-ind (All P) _ (λ _. take_all P (length l - 1) l h) (λ _. h)

  contour_list : (s d : ℕ) → Bears ids j s → d < 4 → All (Listed N ids j) (contour N ids s d)
  unfolding contour walk_from across
  contour_list s d o h =
      trim_all (Listed N ids j) _
      (walk_walks s d 40000 _ (record { own = o; four = h; list = (edge s d o h, tt) })).list

-- ---------------------------------------------------------------- what a record lists

module _ (F : Field) (ids : List ℕ) where
  counted_list : (k : ℕ) (r : Rec) (j : ℕ) → (j ≡ 0 → ⊥) → Bears ids j k → All (Listed (net_of F) ids j) r.list → All (Listed (net_of F) ids j) (counted F ids k r).list
  unfolding counted
  counted_list k r j some b h = if-ind (All (Listed (net_of F) ids j)) _ (λ e. contour_list (net_of F) ids j some k _ b (ltb-true _ _ (both _ _ e).1)) (λ _. h)

  add_list : (k : ℕ) (rs : List Rec) → ((j : ℕ) → All (Listed (net_of F) ids j) (at rs j).list) → (j : ℕ) → All (Listed (net_of F) ids j) (at (add_span F ids k rs) j).list
  unfolding add_span
  add_list k rs h j =
      let r = get_or ids k 0 in
      if-ind (λ (x : List Rec). All (Listed (net_of F) ids j) (at x j).list) (plain r)
      (λ e. at_set rs r (counted F ids k (at rs r)) j (λ (x : Rec). All (Listed (net_of F) ids j) x.list)
      (λ q. rw q (counted_list k (at rs r) r (λ z. let p = plain_true r e in omega arith) refl (h r))) (h j))
      (λ _. h j)

  new_list_lem : (n j : ℕ) → All (Listed (net_of F) ids j) (at (tab n 0 fresh) j).list
  unfolding at fresh
  new_list_lem n j = tab-each (λ (x : Rec). All (Listed (net_of F) ids j) x.list) n 0 fresh (fresh 0) j tt (λ _. tt)

  records_list : (next j : ℕ) → All (Listed (net_of F) ids j) (at (records F ids next) j).list
  unfolding records
  records_list next =
      upto-ind (λ _ (rs : List Rec). (j : ℕ) → All (Listed (net_of F) ids j) (at rs j).list) (add_span F ids) (tab (suc next) 0 fresh) (spans (net_of F)) (new_list_lem (suc next)) (λ k rs _ h. add_list k rs h)

  -- r is the id of a neighbour of a span of id j
  pub record Beside (j r : ℕ) : Type 0 where
    pub span : ℕ
    pub dir : ℕ
    pub inside : span < spans (net_of F)
    pub four : dir < 4
    pub own : Bears ids j span
    pub leads : near (net_of F) span dir < spans (net_of F)
    pub there : Bears ids r (near (net_of F) span dir)

  -- every listed id but 0 lies across a connection of the region
  pub listed-across : length ids ≡ spans (net_of F) → (next j : ℕ) → All (λ r. (r ≡ 0 → ⊥) → Beside j r) (at (records F ids next) j).list
  listed-across size next j = All_map {P = Listed (net_of F) ids j} {Q = λ r. (r ≡ 0 → ⊥) → Beside j r} (at (records F ids next) j).list beside (records_list next j)
    where
      beside : (r : ℕ) → Listed (net_of F) ids j r → (r ≡ 0 → ⊥) → Beside j r
      beside r l n = record {
        span = l.span;
        dir = l.dir;
        inside = omega (arith, l.inside);
        four = l.four;
        own = l.own;
        leads = omega (arith, nonzero_in ids (near (net_of F) l.span l.dir) (λ z. n (sym l.there ∙ z)));
        there = l.there;
      }

-- ---------------------------------------------------------------- records

-- empty records: those below the first id, and the last
pub data Outer (first next j : ℕ) : Type 0 where
  under : j < first → Outer first next j
  end : j ≡ next → Outer first next j

-- inside, as a pair of bounds
abbrev pub Inner : ℕ → ℕ → ℕ → Type 0
Inner first next j = (first ≤ j) × (j < next)

pub outer_inner : (first next j : ℕ) → Outer first next j → Inner first next j → ⊥
outer_inner first next j (under h) i = omega arith
outer_inner first next j (end h) i = omega arith

pub outer_le : (first next j : ℕ) → first ≤ next → Outer first next j → j ≤ next
outer_le first next j h (under k) = omega arith
outer_le first next j h (end k) = omega arith

module _ (F : Field) (first next : ℕ) (ids : List ℕ) (g : Grow (net_of F) first next ids) where
  -- after k spans
  record Filling (k : ℕ) (rs : List Rec) : Type 0 where
    size : length rs ≡ suc next
    own : (j : ℕ) → j ≤ next → (at rs j).id ≡ j
    idle : (j : ℕ) → Outer first next j → (at rs j).count ≡ 0
    area : (j : ℕ) → Plain j → ((at rs j).count ≡ 0 → ⊥) → (t : ℕ) → Bears ids j t → area_of (net_of F) t ≡ (at rs j).area
    full : (j : ℕ) → (length (at rs j).list ≡ 0 → ⊥) → (at rs j).count ≡ 0 → ⊥
    done : (s j : ℕ) → s < k → Plain j → Bears ids j s → (at rs j).count ≡ 0 → ⊥

  counted_area : (k : ℕ) (r : Rec) (j : ℕ) → Plain j → Bears ids j k → ((length r.list ≡ 0 → ⊥) → r.count ≡ 0 → ⊥)
      → ((r.count ≡ 0 → ⊥) → (t : ℕ) → Bears ids j t → area_of (net_of F) t ≡ r.area) → (t : ℕ) → Bears ids j t → area_of (net_of F) t ≡ (counted F ids k r).area
  unfolding counted
  counted_area k r j p b f h t c = if-ind (λ (x : ℕ). area_of (net_of F) t ≡ x) _ (λ _. g.one j t k p c b) (λ e. h (f (eqb-false _ _ e)) t c)

  counted_more : (k : ℕ) (r : Rec) → (counted F ids k r).count ≡ 0 → ⊥
  unfolding counted
  counted_more k r e = omega arith

  counted_id : (k : ℕ) (r : Rec) → (counted F ids k r).id ≡ r.id
  unfolding counted
  counted_id k r = refl

  add_filling : (k : ℕ) (rs : List Rec) → Filling k rs → Filling (suc k) (add_span F ids k rs)
  unfolding add_span
  add_filling k rs h =
      let r = get_or ids k 0 in
      let new = counted F ids k (at rs r) in
      if-ind (λ (x : List Rec). Filling (suc k) x) (plain r)
      (λ e.
      let p : Plain r = plain_true r e in
      let i = g.range r k p refl in
      record {
        size = length-set rs r new ∙ h.size;
        own = λ j l. at_set rs r new j (λ (x : Rec). x.id ≡ j) (λ q. counted_id k (at rs r) ∙ h.own r (omega arith) ∙ sym q) (h.own j l);
        idle = λ j o. at_set rs r new j (λ (x : Rec). x.count ≡ 0) (λ q. absurd (outer_inner first next j o (rw q i))) (h.idle j o);
        area = λ j pj. at_set rs r new j (λ (x : Rec). (x.count ≡ 0 → ⊥) → (t : ℕ) → Bears ids j t → area_of (net_of F) t ≡ x.area)
            (λ q _ t b. counted_area k (at rs r) r p refl (h.full r) (h.area r p) t (b ∙ q)) (h.area j pj);
        full = λ j. at_set rs r new j (λ (x : Rec). (length x.list ≡ 0 → ⊥) → x.count ≡ 0 → ⊥) (λ q _. counted_more k (at rs r)) (h.full j);
        done = λ s j l pj b. elim (ℕ_discrete j r) [
          | yes q ↦ λ z. counted_more k (at rs r) (sym (ap (λ (x : Rec). x.count) (ap (at (set rs r new)) q ∙ at_same rs r new (omega (arith, h.size)))) ∙ z)
          | no q ↦ at_set rs r new j (λ (x : Rec). x.count ≡ 0 → ⊥) (λ _. counted_more k (at rs r)) (h.done s j (low s j l b q) pj b)
        ];
      })
      (λ e. record {
        size = h.size;
        own = h.own;
        idle = h.idle;
        area = h.area;
        full = h.full;
        done = λ s j l pj b. h.done s j (low s j l b (λ q. true≢false (sym (true_plain j pj) ∙ ap plain q ∙ e))) pj b;
      })
    where
      low : (s j : ℕ) → s < suc k → Bears ids j s → (j ≡ get_or ids k 0 → ⊥) → s < k
      low s j l b q = elim (ℕ_discrete s k) [ yes e ↦ absurd (q (sym b ∙ ap (λ (y : ℕ). get_or ids y 0) e)) | no e ↦ omega arith ]

-- what the filter keeps
pub record Raw (N : Net) (first next : ℕ) (ids : List ℕ) (rs : List Rec) : Type 0 where
  pub size : length rs ≡ suc next
  pub own : (j : ℕ) → ((at rs j).id ≡ 0 → ⊥) → (at rs j).id ≡ j
  pub outer : (j : ℕ) → Outer first next j → (at rs j).id ≡ j
  pub idle : (j : ℕ) → Outer first next j → (at rs j).count ≡ 0
  pub area : (j : ℕ) → Plain j → (t : ℕ) → Bears ids j t → area_of N t ≡ (at rs j).area
  pub list : (j : ℕ) → All (Listed N ids j) (at rs j).list

fresh_at : (n j : ℕ) → at (tab n 0 fresh) j ≡ (when ltb j n then fresh j else fresh 0)
unfolding at
fresh_at n j =
    if-ind (λ (x : Rec). get_or (tab n 0 fresh) j (fresh 0) ≡ x) (ltb j n)
    (λ e. tab-at n 0 fresh j (fresh 0) (ltb-true _ _ e) ∙ ap fresh (zero-add j))
    (λ e. get_or-eq_default (tab n 0 fresh) (fresh 0) (let k = length-tab n 0 fresh in omega (arith, ltb-false)))

fresh_parts : (n j : ℕ) → ((at (tab n 0 fresh) j).count ≡ 0) × ((at (tab n 0 fresh) j).list ≡ [])
unfolding fresh
fresh_parts n j = rw (fresh_at n j) (if-ind (λ (x : Rec). (x.count ≡ 0) × (x.list ≡ [])) (ltb j n) (λ _. (refl, refl)) (λ _. (refl, refl)))

fresh_id : (n j : ℕ) → j < n → (at (tab n 0 fresh) j).id ≡ j
unfolding fresh
fresh_id n j h = rw (fresh_at n j) (if-ind (λ (x : Rec). x.id ≡ j) (ltb j n) (λ _. refl) (λ e. absurd (omega (arith, ltb-false))))

pub records-raw : (F : Field) (first next : ℕ) (ids : List ℕ) → Grow (net_of F) first next ids → Raw (net_of F) first next ids (records F ids next)
unfolding records
records-raw F first next ids g =
    let n = suc next in
    let start : Filling F first next ids g 0 (tab n 0 fresh) = record {
      size = length-tab n 0 fresh;
      own = λ j l. fresh_id n j (omega arith);
      idle = λ j o. (fresh_parts n j).0;
      area = λ j p c. absurd (c (fresh_parts n j).0);
      full = λ j c. absurd (c (ap length (fresh_parts n j).1));
      done = λ s j l. absurd (omega arith);
    } in
    let r = upto-ind (Filling F first next ids g) (add_span F ids) (tab n 0 fresh) (spans (net_of F)) start (λ k x _ h. add_filling F first next ids g k x h) in
    let rs = upto (spans (net_of F)) (add_span F ids) (tab n 0 fresh) in
    record {
      size = r.size;
      own = λ j z. elim (dec_lt next j) [ yes h ↦ absurd (z (at_past rs j (let q = r.size in omega arith))) | no h ↦ r.own j (omega arith) ];
      outer = λ j o. r.own j (outer_le first next j g.ahead o);
      idle = r.idle;
      area = λ j p t b. r.area j p (r.done t j (rw (← g.size) (nonzero_in ids t (λ z. let q : j ≡ 0 = sym b ∙ z in omega arith))) p b) t b;
      list = records_list F ids next;
    }
