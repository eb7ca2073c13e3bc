-- Lists renamed where they are, some of them and one after the other. A list that is renamed only gets shorter and starts where it did, so the lists lie apart
-- as they did; it holds no old then, so to rename it again leaves it. Links, and the records beside the places, are in no list: they stay.
use Prim.Native.Nat.{ℕ, suc, ◌+◌, ◌-◌, ◌*◌, ◌≤◌, ◌<◌}
use native.Mathlib.Omega.{arith}
use native.Mathlib.Decide.{ℕ_discrete, dec_lt}
use mathlib.Core.Path.{◌≡◌, refl, sym, ap, ◌∙◌}
use mathlib.Core.Logic.{⊎_elim, ◌⊎◌, inl, inr}
use mathlib.Core.Bool.{true, false}
use mathlib.Core.List.{List}
use lib.ListN.{length, get_or}
use Rattle.rules.specs.Records.{has}
use Rattle.space.proofs.Laws.{cases}
use Rattle.table.specs.View.{wide, start_of, end_of, list_at}
use Rattle.table.proofs.ViewLaws.{wide-same, list_same}
use Rattle.pool.specs.Pool.{new_list, Renamed, Passed, Rows, Free, Swept}
use Rattle.pool.specs.Links.{last_named, Linked}
use Rattle.pool.specs.Sweep.{SweptOf, NamedBy, Reached, RenamedFor, MetBeside}
use Rattle.pool.proofs.RenameLaws.{new_none, new_free, shrunk_apart}
use Rattle.pool.proofs.LinkLaws.{last_le, last-names, last_none}

module _ (m i n old new : ℕ) where
  -- ---- none, some, all

  -- nothing is written where M tells no list that counts
  sweep_stay : (M : ℕ → Type 0) (ws : List ℕ) → Rows m ws → ((x : ℕ) → (x ≡ i → ⊥) → (x ≡ n → ⊥) → M x → ⊥) → SweptOf m i n old new M ws ws
  sweep_stay M ws R f = record {
    same = λ _ _ _ _. refl;
    met = λ x _ a b _ h. absurd (f x a b h);
    none = λ _ _ _ _ h. h;
    starts = λ _ _. refl;
    order = λ x g. R.lists.order x g;
    upto = λ _ _. omega arith;
    stops = λ _ _ _. refl;
    kept = λ _ _. refl;
  }

  pub sweep_none : (ws : List ℕ) → Rows m ws → SweptOf m i n old new (λ _. ⊥) ws ws
  sweep_none ws R = sweep_stay (λ _. ⊥) ws R (λ _ _ _ h. h)

  module _ (M : ℕ → Type 0) (ws ws' : List ℕ) (W : SweptOf m i n old new M ws ws') where
    pub sweep_sub : (N : ℕ → Type 0) → ((x : ℕ) → N x → M x) → SweptOf m i n old new N ws ws'
    sweep_sub N f = record {
      same = W.same;
      met = λ x g a b z h. W.met x g a b z (f x h);
      none = W.none;
      starts = W.starts;
      order = W.order;
      upto = W.upto;
      stops = W.stops;
      kept = W.kept;
    }

    none_left : ((x : ℕ) → x < m → (x ≡ i → ⊥) → (x ≡ n → ⊥) → (get_or ws x 0 ≡ 0 → ⊥) → has (list_at ws m (7 * m) x) old ≡ true → M x)
        → (x : ℕ) → x < m → (x ≡ i → ⊥) → (x ≡ n → ⊥) → (get_or ws x 0 ≡ 0 → ⊥) → has (list_at ws' m (7 * m) x) old ≡ false
    none_left f x g a b z = ⊎_elim (λ (h : has (list_at ws m (7 * m) x) old ≡ true). W.met x g a b z (f x g a b z h))
        (λ (h : has (list_at ws m (7 * m) x) old ≡ false). W.none x g a b h) (cases (has (list_at ws m (7 * m) x) old))

    -- M tells all live records that list old
    pub sweep_done : ((x : ℕ) → x < m → (x ≡ i → ⊥) → (x ≡ n → ⊥) → (get_or ws x 0 ≡ 0 → ⊥) → has (list_at ws m (7 * m) x) old ≡ true → M x) → Swept m i n old new ws ws'
    sweep_done f = record {
      done = λ x g a b. record {
        order = W.order x g;
        upto = W.upto x g;
        list = sym (new_none old new (get_or ws x 0) (list_at ws' m (7 * m) x) (none_left f x g a b)) ∙ W.same x g a b;
      };
      starts = W.starts;
      stops = W.stops;
      kept = W.kept;
    }

    -- ---- what stays

    sweep_free : (j : ℕ) → Free m i n j ws → Free m i n j ws'
    sweep_free j f = record {
      table = f.table;
      lists = λ x g a b. ⊎_elim (λ (h : j < start_of ws m (7 * m) x). inl (omega (arith, W.starts x g)))
          (λ (h : end_of ws m (7 * m) x ≤ j). inr (omega (arith, W.upto x g))) (f.lists x g a b);
    }

    module _ (R : Rows m ws) where
      pub sweep_id : (x : ℕ) → x < m → get_or ws' x 0 ≡ get_or ws x 0
      sweep_id x g = W.kept x (record { table = inl (omega arith); lists = λ y k a b. inl (omega (arith, R.far y k)) })

      pub sweep_rows : length ws' ≡ length ws → Rows m ws'
      sweep_rows l = record {
        lists = record {
          room = rw l R.lists.room;
          past = R.lists.past;
          order = λ x g. rw (W.starts x g) (W.order x g);
          within = λ x g. rw l (omega (arith, W.upto x g, R.lists.within x g));
          far = λ x g. rw (W.starts x g) (R.lists.far x g);
        };
        far = λ x g. rw (W.starts x g) (R.far x g);
        apart = shrunk_apart m ws ws' R.apart W.starts W.upto;
      }

      -- one sweep after the other
      pub sweep_then : (N : ℕ → Type 0) (ws'' : List ℕ) → SweptOf m i n old new N ws' ws'' → SweptOf m i n old new (λ x. M x ⊎ N x) ws ws''
      sweep_then N ws'' K = record {
        same = λ x g a b. (rw (sweep_id x g) at (K.same x g a b)) ∙ W.same x g a b;
        met = λ x g a b z s. ⊎_elim (λ (h : M x). K.none x g a b (W.met x g a b z h)) (λ (h : N x). K.met x g a b (λ e. z (sym (sweep_id x g) ∙ e)) h) s;
        none = λ x g a b h. K.none x g a b (W.none x g a b h);
        starts = λ x g. K.starts x g ∙ W.starts x g;
        order = λ x g. omega (arith, K.order x g, W.starts x g);
        upto = λ x g. omega (arith, K.upto x g, W.upto x g);
        stops = λ x g s. K.stops x g s ∙ W.stops x g s;
        kept = λ j f. K.kept j (sweep_free j f) ∙ W.kept j f;
      }

  -- ---- one list

  module _ (ne : old ≡ new → ⊥) (x : ℕ) (ws ws' : List ℕ) (R : Rows m ws) (g : x < m) (l : length ws' ≡ length ws) where
    module _ (a : x ≡ i → ⊥) (b : x ≡ n → ⊥) (N : Renamed m x old new ws ws') where
      -- another list is as it was
      other_list : (y : ℕ) → y < m → (y ≡ x → ⊥) → list_at ws' m (7 * m) y ≡ list_at ws m (7 * m) y
      other_list y c d = list_same ws ws' m (7 * m) y (N.starts y c) (N.stops y c d) (R.lists.order y c) (R.lists.within y c) l (λ j u v. N.kept j (
        inr (omega (arith, R.far y c)),
        ⊎_elim (λ (w : end_of ws m (7 * m) y ≤ start_of ws m (7 * m) x). inl (omega arith)) (λ (w : end_of ws m (7 * m) x ≤ start_of ws m (7 * m) y). inr (omega arith)) (R.apart.apart y x c g d),
      ))

      free_now : (get_or ws x 0 ≡ 0 → ⊥) → has (list_at ws' m (7 * m) x) old ≡ false
      free_now z = ap (λ (k : List ℕ). has k old) N.shrunk.list ∙ new_free old new ne (get_or ws x 0) (list_at ws m (7 * m) x) z

      same_now : new_list old new (get_or ws x 0) (list_at ws' m (7 * m) x) ≡ new_list old new (get_or ws x 0) (list_at ws m (7 * m) x)
      same_now = new_none old new (get_or ws x 0) (list_at ws' m (7 * m) x) free_now ∙ N.shrunk.list

      none_now : has (list_at ws m (7 * m) x) old ≡ false → has (list_at ws' m (7 * m) x) old ≡ false
      none_now h = ap (λ (k : List ℕ). has k old) (N.shrunk.list ∙ new_none old new (get_or ws x 0) (list_at ws m (7 * m) x) (λ _. h)) ∙ h

      sweep_renamed : SweptOf m i n old new (λ y. y ≡ x) ws ws'
      sweep_renamed = record {
        same = λ y c _ _. elim (ℕ_discrete y x) [
          | yes d ↦ rw d same_now
          | no d ↦ ap (new_list old new (get_or ws y 0)) (other_list y c d)
        ];
        met = λ y c _ _ z d. rw d (free_now (rw d at z));
        none = λ y c _ _ h. elim (ℕ_discrete y x) [
          | yes d ↦ rw d (none_now (rw d at h))
          | no d ↦ ap (λ (k : List ℕ). has k old) (other_list y c d) ∙ h
        ];
        starts = N.starts;
        order = λ y c. elim (ℕ_discrete y x) [
          | yes d ↦ rw d N.shrunk.order
          | no d ↦ rw (N.stops y c d) (R.lists.order y c)
        ];
        upto = λ y c. elim (ℕ_discrete y x) [
          | yes d ↦ rw d N.shrunk.upto
          | no d ↦ rw (N.stops y c d) (omega arith)
        ];
        stops = λ y c s. N.stops y c (λ d. ⊎_elim (λ (w : y ≡ i). a (sym d ∙ w)) (λ (w : y ≡ n). b (sym d ∙ w)) s);
        kept = λ j f. N.kept j (f.table, f.lists x g a b);
      }

    pub sweep_one : Passed m x i n old new ws ws' → SweptOf m i n old new (λ y. y ≡ x) ws ws'
    sweep_one P = elim (ℕ_discrete x i) [
      | yes a ↦ rw (P.skipped (inl a)) (sweep_stay (λ y. y ≡ x) ws R (λ y c _ d. c (d ∙ a)))
      | no a ↦ elim (ℕ_discrete x n) [
        | yes b ↦ rw (P.skipped (inr b)) (sweep_stay (λ y. y ≡ x) ws R (λ y _ c d. c (d ∙ b)))
        | no b ↦ sweep_renamed a b (P.renamed a b)
      ]
    ]

-- ---- through linked places

-- the same with the links and the records beside the places
module _ (m i n old new p o from : ℕ) (M : ℕ → Type 0) (ws ws' : List ℕ) (T : Reached m i n p o from ws) (W : SweptOf m i n old new M ws ws') where
  past_free : (j : ℕ) → from ≤ j → Free m i n j ws
  past_free j h = record { table = inr (omega (arith, T.past, T.before)); lists = λ x g a b. inr (omega (arith, T.upto x g a b)) }

  beside_free : (q : ℕ) → q < p → Free m i n (o + q) ws
  beside_free q h = record {
    table = inr (omega (arith, T.past));
    lists = λ x g a b. ⊎_elim (λ (w : end_of ws m (7 * m) x ≤ o). inr (omega arith)) (λ (w : o + p ≤ start_of ws m (7 * m) x). inl (omega arith)) (T.apart x g a b);
  }

  pub sweep_link : (q : ℕ) → wide ws' p (from + q) ≡ wide ws p (from + q)
  sweep_link q = wide-same ws ws' p (from + q) (W.kept (from + q) (past_free (from + q) (omega arith))) (W.kept (from + q + p) (past_free (from + q + p) (omega arith)))

  pub sweep_linked : (k : ℕ) (named : ℕ → ℕ) → Linked m p from k named ws → Linked m p from k named ws'
  sweep_linked k named L = record {
    lasts = λ r g. wide-same ws ws' m (from + 2 * p + r) (W.kept (from + 2 * p + r) (past_free (from + 2 * p + r) (omega arith)))
        (W.kept (from + 2 * p + r + m) (past_free (from + 2 * p + r + m) (omega arith))) ∙ L.lasts r g;
    links = λ q g h. sweep_link q ∙ L.links q g h;
  }

  pub sweep_beside : (q : ℕ) → q < p → get_or ws' (o + q) 0 ≡ get_or ws (o + q) 0
  sweep_beside q h = W.kept (o + q) (beside_free q h)

  pub sweep_named : (k y : ℕ) (named : ℕ → ℕ) → k ≤ p → (x : ℕ) → NamedBy m k y o named ws x → NamedBy m k y o named ws' x
  sweep_named k y named h x N =
      let e = sweep_beside N.place (omega (arith, N.inside)) in
      record {
        place = N.place;
        inside = N.inside;
        names = N.names;
        beside = rw e N.beside;
        bears = rw e (sweep_id m i n old new M ws ws' W T.rows (get_or ws (o + N.place) 0) N.beside ∙ N.bears);
      }

  unfoldable pub sweep-reached : length ws' ≡ length ws → Reached m i n p o from ws'
  sweep-reached l = record {
    rows = sweep_rows m i n old new M ws ws' W T.rows l;
    ids = λ r g. rw (sweep_id m i n old new M ws ws' W T.rows r g) (T.ids r g);
    places = T.places;
    few = T.few;
    named = T.named;
    linked = sweep_linked T.places T.named T.linked;
    into = rw l T.into;
    past = T.past;
    before = T.before;
    apart = λ x g a b. ⊎_elim (λ (w : end_of ws m (7 * m) x ≤ o). inl (omega (arith, W.upto x g)))
        (λ (w : o + p ≤ start_of ws m (7 * m) x). inr (omega (arith, W.starts x g))) (T.apart x g a b);
    upto = λ x g a b. omega (arith, W.upto x g, T.upto x g a b);
  }

-- ---- the record beside a place

module _ (m s i n old new y : ℕ) (ws : List ℕ) (e : y ≡ get_or ws s 0) where
  pub beside_nobody : m ≤ y → MetBeside m s i n old new ws ws
  beside_nobody h = record { nobody = λ _. refl; passed = λ g. absurd (omega arith) }

  pub beside_passed : (x : ℕ) → x ≡ get_or ws y 0 → y < m → (ws' : List ℕ) → Passed m x i n old new ws ws' → MetBeside m s i n old new ws ws'
  beside_passed x d h ws' P = record { nobody = λ g. absurd (omega arith); passed = λ _. rw (← e, ← d) P }

module _ (m x y : ℕ) (ws : List ℕ) (ids : (r : ℕ) → r < m → get_or ws r 0 < m) (h : y < m) (d : x ≡ get_or ws y 0) where
  pub beside_in : x < m
  beside_in = rw d (ids y h)

-- that record's list is met
sweep_beside_one : (m s i n old new : ℕ) (ws ws' : List ℕ) → (old ≡ new → ⊥) → Rows m ws → ((r : ℕ) → r < m → get_or ws r 0 < m) → length ws' ≡ length ws
    → MetBeside m s i n old new ws ws' → SweptOf m i n old new (λ x. (get_or ws s 0 < m) × (x ≡ get_or ws (get_or ws s 0) 0)) ws ws'
sweep_beside_one m s i n old new ws ws' ne R ids l N = elim (dec_lt (get_or ws s 0) m) [
  | yes g ↦ sweep_sub m i n old new (λ x. x ≡ get_or ws (get_or ws s 0) 0) ws ws'
      (sweep_one m i n old new ne (get_or ws (get_or ws s 0) 0) ws ws' R (ids (get_or ws s 0) g) l (N.passed g)) (λ x. (get_or ws s 0 < m) × (x ≡ get_or ws (get_or ws s 0) 0)) (λ x h. h.1)
  | no g ↦ rw (N.nobody (omega arith)) (sweep_stay m i n old new (λ x. (get_or ws s 0 < m) × (x ≡ get_or ws (get_or ws s 0) 0)) ws R (λ x _ _ h. absurd (g h.0)))
]

-- ---- all places that named y

-- a place from q on
pub record NamedFrom (m k y o q : ℕ) (named : ℕ → ℕ) (ws : List ℕ) (x : ℕ) : Type 0 where
  pub by : NamedBy m k y o named ws x
  pub late : q ≤ by.place

-- q is the last place that is left, and the places from q on are met
pub record WalkedFor (m i n y old new p o from q k : ℕ) (named : ℕ → ℕ) (ws ws' : List ℕ) : Type 0 where
  pub inside : q ≤ k
  pub names : (j : ℕ) → q ≡ suc j → named j ≡ y
  pub swept : SweptOf m i n old new (NamedFrom m k y o q named ws) ws ws'

-- however the places are linked
pub record Walked (m i n y old new p o from q : ℕ) (ws ws' : List ℕ) : Type 0 where
  pub few : q ≤ p
  pub each : (k : ℕ) (named : ℕ → ℕ) → k ≤ p → Linked m p from k named ws → WalkedFor m i n y old new p o from q k named ws ws'

module _ (m i n y old new p o from : ℕ) (ws₀ : List ℕ) (T : Reached m i n p o from ws₀) (h : y < m) where
  module _ (q : ℕ) (e : q ≡ wide ws₀ m (from + 2 * p + y)) where
    walked-last : (k : ℕ) (named : ℕ → ℕ) → k ≤ p → Linked m p from k named ws₀ → WalkedFor m i n y old new p o from q k named ws₀ ws₀
    walked-last k named _ L =
        let d : q ≡ last_named named y k = e ∙ L.lasts y h in
        record {
          inside = rw d (last_le named y k);
          names = λ j f. last-names named y k j (sym d ∙ f);
          swept = sweep_stay m i n old new (NamedFrom m k y o q named ws₀) ws₀ T.rows (λ x _ _ N.
              last_none named y k N.by.place (rw d at N.late) N.by.inside N.by.names);
        }

    pub walked_none : Walked m i n y old new p o from q ws₀ ws₀
    walked_none = record { few = omega (arith, (walked-last T.places T.named T.few T.linked).inside, T.few); each = walked-last }

  module _ (q : ℕ) (ws : List ℕ) (l : length ws ≡ length ws₀) (K : Walked m i n y old new p o from q ws₀ ws) where
    -- as the places are linked
    here : WalkedFor m i n y old new p o from q T.places T.named ws₀ ws
    here = K.each T.places T.named T.few T.linked

    reached_here : Reached m i n p o from ws
    reached_here = sweep-reached m i n old new p o from (NamedFrom m T.places y o q T.named ws₀) ws₀ ws T here.swept l

    pub walked_rows : Rows m ws
    walked_rows = reached_here.rows

    pub walked_ids : (r : ℕ) → r < m → get_or ws r 0 < m
    walked_ids = reached_here.ids

    pub walked_all : q ≡ 0 → RenamedFor m i n y old new p o from ws₀ ws
    walked_all z = record {
      each = λ k named g L. sweep_sub m i n old new (NamedFrom m k y o q named ws₀) ws₀ ws (K.each k named g L).swept (NamedBy m k y o named ws₀) (λ x N.
          record { by = N; late = omega arith });
    }

    -- a turn of the loop: the record beside place q - 1 is met
    module _ (ne : old ≡ new → ⊥) (z : q ≡ 0 → ⊥) (ws' : List ℕ) (l' : length ws' ≡ length ws) (N : MetBeside m (o + (q - 1)) i n old new ws ws') (q' : ℕ) (e : q' ≡ wide ws' p (from + (q - 1))) where
      module _ (k : ℕ) (named : ℕ → ℕ) (g : k ≤ p) (L : Linked m p from k named ws₀) where
        walked : WalkedFor m i n y old new p o from q k named ws₀ ws
        walked = K.each k named g L

        below : q - 1 < k
        below = omega (arith, walked.inside)

        -- what the record beside place q - 1 bears
        abbrev Beside : ℕ → Type 0
        Beside x = (get_or ws (o + (q - 1)) 0 < m) × (x ≡ get_or ws (get_or ws (o + (q - 1)) 0) 0)

        both : SweptOf m i n old new (λ x. NamedFrom m k y o q named ws₀ x ⊎ Beside x) ws₀ ws'
        both = sweep_then m i n old new (NamedFrom m k y o q named ws₀) ws₀ ws walked.swept T.rows Beside ws'
            (sweep_beside_one m (o + (q - 1)) i n old new ws ws' ne walked_rows walked_ids l' N)

        names_here : named (q - 1) ≡ y
        names_here = walked.names (q - 1) (omega arith)

        -- the next place is the last before q - 1 that named y
        next_is : q' ≡ last_named named y (q - 1)
        next_is = e ∙ sweep_link m i n old new p o from (λ x. NamedFrom m k y o q named ws₀ x ⊎ Beside x) ws₀ ws' T both (q - 1) ∙ L.links (q - 1) below (rw names_here h)
            ∙ ap (λ (r : ℕ). last_named named r (q - 1)) names_here

        next_below : q' < q
        next_below = omega (arith, next_is, last_le named y (q - 1))

        beside_here : (x : ℕ) (B : NamedBy m k y o named ws₀ x) → B.place ≡ q - 1 → Beside x
        beside_here x B f =
            let c : get_or ws (o + (q - 1)) 0 ≡ get_or ws₀ (o + B.place) 0 =
            sweep_beside m i n old new p o from (NamedFrom m k y o q named ws₀) ws₀ ws T walked.swept (q - 1) (omega (arith, below)) ∙ ap (λ (j : ℕ). get_or ws₀ (o + j) 0) (sym f) in
            let d = sweep_id m i n old new (NamedFrom m k y o q named ws₀) ws₀ ws walked.swept T.rows (get_or ws₀ (o + B.place) 0) B.beside in
            (rw c B.beside, rw (c, d) (sym B.bears))

        met_from : (x : ℕ) → NamedFrom m k y o q' named ws₀ x → NamedFrom m k y o q named ws₀ x ⊎ Beside x
        met_from x B = elim (dec_lt B.by.place q) [
          | yes c ↦ elim (ℕ_discrete B.by.place (q - 1)) [
            | yes f ↦ inr (beside_here x B.by f)
            | no f ↦ absurd (last_none named y (q - 1) B.by.place (omega (arith, B.late, next_is)) (omega arith) B.by.names)
          ]
          | no c ↦ inl (record { by = B.by; late = omega arith })
        ]

        walked_on : WalkedFor m i n y old new p o from q' k named ws₀ ws'
        walked_on = record {
          inside = omega (arith, next_below, below);
          names = λ j f. last-names named y (q - 1) j (sym next_is ∙ f);
          swept = sweep_sub m i n old new (λ x. NamedFrom m k y o q named ws₀ x ⊎ Beside x) ws₀ ws' both (NamedFrom m k y o q' named ws₀) met_from;
        }

      pub walked_less : q' < q
      walked_less = next_below T.places T.named T.few T.linked

      pub walked_go : Walked m i n y old new p o from q' ws₀ ws'
      walked_go = record { few = omega (arith, walked_less, K.few); each = walked_on }
