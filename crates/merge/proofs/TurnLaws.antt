-- A record's turn, a round, and the rounds. The picked neighbour bears its own number, so it is another record and live;
-- each merge leaves one record fewer that bears its own number, so the rounds end.
use Prim.Native.Nat.{ℕ, zero, suc, ◌+◌, ◌*◌, ◌≤◌, ◌<◌}
use native.Mathlib.Omega.{arith}
use mathlib.Core.Path.{◌≡◌, refl, sym, ap, ◌∙◌}
use mathlib.Core.Logic.{⊎_elim, ◌⊎◌, inl, inr}
use mathlib.Core.Bool.{Bool, true, false, not, true≢false, false≢true}
use mathlib.Core.List.{List}
use lib.ListN.{length, get_or}
use borrow.Author.Tests.{eq-eqb, ne_eqb, eqb-false, not-true}
use Rattle.rules.specs.Base.{◌and◌, ◌or◌, when◌then◌else◌, upto}
use Rattle.rules.specs.Records.{Rec, at, has}
use Rattle.rules.specs.Merge.{Pick, place, Merge, merge_one}
use Rattle.laws.proofs.Basics.{neither, if-ind}
use Rattle.table.specs.View.{list_at, rec_at, view, recs_of}
use Rattle.table.proofs.ViewLaws.{view-at, list_length, recs_length, recs_at}
use Rattle.pool.specs.Alike.{Rep, Reps, Joined}
use Rattle.pool.specs.Fixed.{picked_f, may_merge, try_merge, merged_pair, merge_one_f, merged_f}
use Rattle.pool.specs.Pool.{len_at, Pool, Listed}
use Rattle.pool.specs.Forms.{PoolIn, LaidIn}
use Rattle.pool.specs.declared.Half.{Half}
use Rattle.pool.proofs.PartLaws.{place_all, place_some}
use Rattle.pool.proofs.MergeLaws.{one_f, pick_f, first_pick, pick_rep, round_alike, round_falls, owners, owners_most}
use Rattle.merge.specs.Rounds.{first_half, AtRest}

-- ---- whether each lists the other

pub place_none : (ws l : List ℕ) (m i r k : ℕ) → l ≡ list_at ws m (7 * m) i → k ≡ place l r → k ≡ length l → has (list_at ws m (7 * m) i) r ≡ false
place_none ws l m i r k q e n = rw (← q) (place_all l r (sym e ∙ n))

not_both : (a b : Bool) (g x : Merge) → (a ≡ false) ⊎ (b ≡ false) → g ≡ (when not (a and b) then g else x)
unfolding ◌and◌ when◌then◌else◌
not_both false b g x e = refl
not_both true false g x e = refl
not_both true true g x e = ⊎_elim (λ (p : true ≡ false). absurd (true≢false p)) (λ (p : true ≡ false). absurd (true≢false p)) e

is_both : (a b : Bool) (g x : Merge) → a ≡ true → b ≡ true → x ≡ (when not (a and b) then g else x)
unfolding ◌and◌ when◌then◌else◌
is_both a b g x p q = rw (p, q)

merge_eq : (a a' : List Rec) (b b' : ℕ) → a ≡ a' → b ≡ b' → ◌≡◌ {A = Merge} (record { recs = a; merges = b }) (record { recs = a'; merges = b' })
merge_eq a a' b b' p q = rw (p, q)

module _ (m p h o i n : ℕ) (ws : List ℕ) (P : Pool m p h o ws) (hi : i < m) (hn : n < m) (c : ℕ) where
  id_of_lem : (x : ℕ) → x < m → (at (recs_of ws m) x).id ≡ get_or ws x 0
  unfolding rec_at
  id_of_lem x g = ap (λ (r : Rec). r.id) (recs_at ws m x g)

  list_of : (x : ℕ) → x < m → (at (recs_of ws m) x).list ≡ list_at ws m (7 * m) x
  unfolding rec_at
  list_of x g = ap (λ (r : Rec). r.list) (recs_at ws m x g)

  len_of : (x : ℕ) → x < m → length (list_at ws m (7 * m) x) ≡ len_at ws m x
  unfolding len_at
  len_of x g = list_length ws m (7 * m) x P.held.lists g

  lists_other : (x y k : ℕ) → x < m → y < m → k ≡ place (list_at ws m (7 * m) x) (get_or ws y 0) → k < length (list_at ws m (7 * m) x) → has (at (recs_of ws m) x).list (at (recs_of ws m) y).id ≡ true
  lists_other x y k gx gy e l = rw (list_of x gx, id_of_lem y gy) (place_some (list_at ws m (7 * m) x) (get_or ws y 0) (λ z. omega arith))

  lists_not : (x y : ℕ) → x < m → y < m → has (list_at ws m (7 * m) x) (get_or ws y 0) ≡ false → has (at (recs_of ws m) x).list (at (recs_of ws m) y).id ≡ false
  lists_not x y gx gy e = rw (list_of x gx, id_of_lem y gy) e

  pub try_none : has (list_at ws m (7 * m) n) (get_or ws i 0) ≡ false → record { recs = recs_of ws m; merges = c } ≡ try_merge i n (record { recs = recs_of ws m; merges = c })
  unfolding try_merge
  try_none d = not_both _ _ _ _ (inl (lists_not n i hn hi d))

  pub try_none_2 : has (list_at ws m (7 * m) i) (get_or ws n 0) ≡ false → record { recs = recs_of ws m; merges = c } ≡ try_merge i n (record { recs = recs_of ws m; merges = c })
  unfolding try_merge
  try_none_2 d = not_both _ _ _ _ (inr (lists_not i n hi hn d))

  module _ (k : ℕ) (e : (k ≡ place (list_at ws m (7 * m) n) (get_or ws i 0)) × (k < length (list_at ws m (7 * m) n)))
      (j : ℕ) (e' : (j ≡ place (list_at ws m (7 * m) i) (get_or ws n 0)) × (j < length (list_at ws m (7 * m) i))) where
    pub try_listed : (i ≡ n → ⊥) → (get_or ws i 0 ≡ 0 → ⊥) → (get_or ws n 0 ≡ 0 → ⊥) → (get_or ws i 0 ≡ n → ⊥) → Listed m n k i j ws
    try_listed ne a b x = record {
      pair = record {
        first = hn;
        second = hi;
        apart = ne;
        lists = omega (arith, len_of n hn, e.1);
        lists' = omega (arith, len_of i hi, e'.1);
      };
      live = a;
      live' = b;
      other = x;
      first = e.0;
      first' = e'.0;
    }

    pub try_some : (ws' : List ℕ) → recs_of ws' m ≡ merged_pair (recs_of ws m) i (get_or ws i 0) n
        → record { recs = recs_of ws' m; merges = c + 1 } ≡ try_merge i n (record { recs = recs_of ws m; merges = c })
    unfolding try_merge
    try_some ws' r =
        merge_eq _ _ _ _ (r ∙ ap (λ (y : ℕ). merged_pair (recs_of ws m) i y n) (sym (id_of_lem i hi))) (omega arith)
        ∙ is_both _ _ (record { recs = recs_of ws m; merges = c }) _ (lists_other n i k hn hi e.0 e.1) (lists_other i n j hi hn e'.0 e'.1)

-- ---- a record's turn

turn_by : (a b c d e : Bool) (t u : Bool) (g x : Merge) → not (a or b or c or d) ≡ false → g ≡ (when a or b or c or d or e or not (t and u) then g else x)
unfolding ◌or◌ when◌then◌else◌
turn_by true b c d e t u g x h = refl
turn_by false true c d e t u g x h = refl
turn_by false false true d e t u g x h = refl
turn_by false false false true e t u g x h = refl
turn_by false false false false e t u g x h = absurd (true≢false h)

turn-same : (a b c d e : Bool) (t u : Bool) (g x : Merge) → e ≡ true → g ≡ (when a or b or c or d or e or not (t and u) then g else x)
unfolding ◌or◌ when◌then◌else◌
turn-same true b c d e t u g x h = refl
turn-same false true c d e t u g x h = refl
turn-same false false true d e t u g x h = refl
turn-same false false false true e t u g x h = refl
turn-same false false false false e t u g x h = rw h

turn_go : (a b c d e : Bool) (t u : Bool) (g x y : Merge) → not (a or b or c or d) ≡ true → e ≡ false → y ≡ (when not (t and u) then g else x) → y ≡ (when a or b or c or d or e or not (t and u) then g else x)
unfolding ◌or◌ when◌then◌else◌
turn_go true b c d e t u g x y h z q = absurd (false≢true h)
turn_go false true c d e t u g x y h z q = absurd (false≢true h)
turn_go false false true d e t u g x y h z q = absurd (false≢true h)
turn_go false false false true e t u g x y h z q = absurd (false≢true h)
turn_go false false false false e t u g x y h z q = rw z q

module _ (m p h o i area : ℕ) (ws : List ℕ) (P : Pool m p h o ws) (hi : i < m) (c : ℕ) (b : Bool) (may : b ≡ may_merge area (rec_at ws m (7 * m) (11 * m) i)) where
  at_i : at (recs_of ws m) i ≡ rec_at ws m (7 * m) (11 * m) i
  unfolding recs_of
  at_i = view-at ws m (7 * m) (11 * m) i hi

  may_at : b ≡ may_merge area (at (recs_of ws m) i)
  may_at = may ∙ ap (may_merge area) (sym at_i)

  pub one-not : b ≡ false → record { recs = recs_of ws m; merges = c } ≡ merge_one_f area i (record { recs = recs_of ws m; merges = c })
  unfolding merge_one_f may_merge
  one-not z = turn_by _ _ _ _ _ _ _ _ _ (sym may_at ∙ z)

  module _ (z : b ≡ true) where
    own_is : (at (recs_of ws m) i).id ≡ get_or ws i 0
    unfolding rec_at
    own_is = ap (λ (r : Rec). r.id) at_i

    count_is : (at (recs_of ws m) i).count ≡ get_or ws (m + i) 0
    unfolding rec_at
    count_is = ap (λ (r : Rec). r.count) at_i

    -- it may be merged: it is live and has spans
    live_is : (get_or ws i 0 ≡ 0 → ⊥) × (get_or ws (m + i) 0 ≡ 0 → ⊥)
    unfolding may_merge
    live_is =
        let t = neither _ _ (not-true _ (sym may_at ∙ z)) in
        let u = neither _ _ t.0 in
        let v = neither _ _ u.0 in
        ((λ e. eqb-false _ _ v.0 (own_is ∙ e)), (λ e. eqb-false _ _ u.1 (count_is ∙ e)))

    pub turn-live : get_or ws i 0 ≡ 0 → ⊥
    turn-live = live_is.0

    module _ (size id : ℕ)
        (q : ◌≡◌ {A = Pick} (record { size = size; id = id }) (picked_f (view ws m (7 * m) (11 * m)) (rec_at ws m (7 * m) (11 * m) i) (list_at ws m (7 * m) i) (record { size = 65536; id = get_or ws i 0 }))) where
      picked_is : id ≡ (picked_f (recs_of ws m) (at (recs_of ws m) i) (at (recs_of ws m) i).list (record { size = 65536; id = (at (recs_of ws m) i).id })).id
      unfolding recs_of rec_at
      picked_is = ap (λ (y : Pick). y.id) q ∙ ap (λ (r : Rec). (picked_f (recs_of ws m) r r.list (record { size = 65536; id = r.id })).id) (sym at_i)

      pub one_own : id ≡ get_or ws i 0 → record { recs = recs_of ws m; merges = c } ≡ merge_one_f area i (record { recs = recs_of ws m; merges = c })
      unfolding merge_one_f
      one_own e = turn-same _ _ _ _ _ _ _ _ _ (eq-eqb _ _ (sym picked_is ∙ e ∙ sym own_is))

      pub one_tried : (id ≡ get_or ws i 0 → ⊥) → (ws' : List ℕ) (c' : ℕ) → record { recs = recs_of ws' m; merges = c' } ≡ try_merge i id (record { recs = recs_of ws m; merges = c })
          → record { recs = recs_of ws' m; merges = c' } ≡ merge_one_f area i (record { recs = recs_of ws m; merges = c })
      unfolding merge_one_f may_merge try_merge merged_pair
      one_tried d ws' c' e =
          turn_go _ _ _ _ _ _ _ _ _ _ (sym may_at ∙ z) (ne_eqb _ _ (λ w. d (picked_is ∙ w ∙ own_is)))
          (e ∙ ap (λ (y : ℕ). try_merge i y (record { recs = recs_of ws m; merges = c })) picked_is)

      module _ (R : Reps (recs_of ws m)) (d : id ≡ get_or ws i 0 → ⊥) where
        rep_i : Rep (recs_of ws m) i
        rep_i =
            let e : (at (recs_of ws m) i).id ≡ i = R.own i (λ w. live_is.0 (sym own_is ∙ w)) (λ w. live_is.1 (sym count_is ∙ w)) in
            (e, λ w. live_is.0 (sym own_is ∙ e ∙ w))

        rep_n : Rep (recs_of ws m) id
        unfolding pick_f first_pick
        rep_n = rw (picked_is) (pick_rep (recs_of ws m) i R rep_i (λ w. d (picked_is ∙ w ∙ own_is)))

        pub turn_apart : i ≡ id → ⊥
        turn_apart e = d (sym e ∙ sym rep_i.0 ∙ own_is)

        pub turn-live_2 : id < m → get_or ws id 0 ≡ 0 → ⊥
        unfolding recs_of rec_at
        turn-live_2 g e = rep_n.1 (sym rep_n.0 ∙ ap (λ (r : Rec). r.id) (view-at ws m (7 * m) (11 * m) id g) ∙ e)

-- ---- a round

-- at every turn the two are alike
pub joined_at : (area m i : ℕ) (ws₀ ws : List ℕ) (c : ℕ) → Joined (recs_of ws₀ m) → record { recs = recs_of ws m; merges = c } ≡ upto i (merge_one_f area) (record { recs = recs_of ws₀ m; merges = 0 })
    → Joined (recs_of ws m)
joined_at area m i ws₀ ws c j e =
    let b = round_alike area i (record { recs = j.rs; merges = 0 }) (record { recs = recs_of ws₀ m; merges = 0 }) (record { recs = j.alike; merges = refl }) in
    record { rs = (upto i (merge_one area) (record { recs = j.rs; merges = 0 })).recs; alike = rw (ap (λ (g : Merge). g.recs) e) b.recs }

-- ---- the rounds

-- a turn merges, or leaves all as it was
one_still : (area i : ℕ) (g : Merge) → (merge_one_f area i g).merges ≡ 0 → merge_one_f area i g ≡ g
one_still area i g =
    rw (one_f area i g) (if-ind (λ (x : Merge). x.merges ≡ 0 → x ≡ g) _ (λ _ _. refl) (λ _ e. absurd (omega arith)))

pub one_grows : (area i : ℕ) (g : Merge) → g.merges ≤ (merge_one_f area i g).merges
one_grows area i g = rw (one_f area i g) (if-ind (λ (x : Merge). g.merges ≤ x.merges) _ (λ _. omega arith) (λ _. omega arith))

round_still : (area k : ℕ) (g : Merge) → (upto k (merge_one_f area) g).merges ≡ 0 → upto k (merge_one_f area) g ≡ g
unfolding upto
round_still area zero g e = refl
round_still area (suc k) g e =
    let r = upto k (merge_one_f area) g in
    let z : r.merges ≡ 0 = omega (arith, one_grows area k r) in
    one_still area k r e ∙ round_still area k g z

merged_more : (area k : ℕ) (rs : List Rec) → ((upto (length rs) (merge_one_f area) (record { recs = rs; merges = 0 })).merges ≡ 0 → ⊥)
    → merged_f area (suc k) rs ≡ merged_f area k (upto (length rs) (merge_one_f area) (record { recs = rs; merges = 0 })).recs
unfolding merged_f when◌then◌else◌
merged_more area k rs n = rw (ne_eqb _ 0 n)

merged-last : (area k : ℕ) (rs : List Rec) → (upto (length rs) (merge_one_f area) (record { recs = rs; merges = 0 })).merges ≡ 0 → merged_f area (suc k) rs ≡ rs
unfolding merged_f when◌then◌else◌
merged-last area k rs n = rw (eq-eqb _ 0 n)

-- before each round
pub record Rounds (area m : ℕ) (ws₀ ws : List ℕ) : Type 0 where
  pub joined : Joined (recs_of ws m)
  pub fuel : ℕ
  pub enough : owners m (recs_of ws m) ≤ fuel
  pub same : merged_f area (suc m) (recs_of ws₀ m) ≡ merged_f area (suc fuel) (recs_of ws m)

pub rounds-start : (area m : ℕ) (ws : List ℕ) → Joined (recs_of ws m) → Rounds area m ws ws
rounds-start area m ws j = record { joined = j; fuel = m; enough = owners_most m (recs_of ws m); same = refl }

module _ (area m : ℕ) (ws₀ ws ws' : List ℕ) (c : ℕ) (e : record { recs = recs_of ws' m; merges = c } ≡ upto m (merge_one_f area) (record { recs = recs_of ws m; merges = 0 }))
    (T : Rounds area m ws₀ ws) where
  out : upto (length (recs_of ws m)) (merge_one_f area) (record { recs = recs_of ws m; merges = 0 }) ≡ record { recs = recs_of ws' m; merges = c }
  out = ap (λ (k : ℕ). upto k (merge_one_f area) (record { recs = recs_of ws m; merges = 0 })) (recs_length ws m) ∙ sym e

  -- one record fewer bears its own number for each merge
  falls_by : owners m (recs_of ws' m) + c ≤ owners m (recs_of ws m)
  falls_by =
      let f = round_falls area m m (record { recs = T.joined.rs; merges = 0 }) (record { recs = recs_of ws m; merges = 0 }) (record { recs = T.joined.alike; merges = refl }) (omega arith) in
      omega (arith, f, ap (λ (g : Merge). owners m g.recs) e, ap (λ (g : Merge). g.merges) e)

  more : (fuel : ℕ) → (c ≡ 0 → ⊥) → owners m (recs_of ws m) ≤ fuel → merged_f area (suc m) (recs_of ws₀ m) ≡ merged_f area (suc fuel) (recs_of ws m)
      → (k : ℕ) × (owners m (recs_of ws' m) ≤ k) × (merged_f area (suc m) (recs_of ws₀ m) ≡ merged_f area (suc k) (recs_of ws' m))
  more zero n h q = absurd (omega (arith, falls_by))
  more (suc k) n h q = (
    k,
    omega (arith, falls_by),
    q ∙ merged_more area (suc k) (recs_of ws m) (λ z. n (sym (ap (λ (g : Merge). g.merges) out) ∙ z)) ∙ ap (merged_f area (suc k)) (ap (λ (g : Merge). g.recs) out),
  )

  pub rounds_falls : (c ≡ 0 → ⊥) → owners m (recs_of ws' m) < owners m (recs_of ws m)
  rounds_falls n = omega (arith, falls_by)

  pub rounds_go : (c ≡ 0 → ⊥) → Rounds area m ws₀ ws'
  rounds_go n =
      let b = more T.fuel n T.enough T.same in
      record { joined = joined_at area m m ws ws' c T.joined e; fuel = b.0; enough = b.1; same = b.2 }

  pub rounds_done : c ≡ 0 → recs_of ws' m ≡ merged_f area (suc m) (recs_of ws₀ m)
  rounds_done z =
      let w : (upto (length (recs_of ws m)) (merge_one_f area) (record { recs = recs_of ws m; merges = 0 })).merges ≡ 0 = ap (λ (g : Merge). g.merges) out ∙ z in
      sym (ap (λ (g : Merge). g.recs) out) ∙ ap (λ (g : Merge). g.recs) (round_still area (length (recs_of ws m)) (record { recs = recs_of ws m; merges = 0 }) w)
      ∙ sym (T.same ∙ merged-last area T.fuel (recs_of ws m) w)

-- before the first merge
module _ (m n : ℕ) (half : Half) (e : half ≡ first_half m n) (ws : List ℕ) where
  pub half_pool : PoolIn m (first_half m n) ws → PoolIn m half ws
  half_pool P = rw e P

  pub half_laid : LaidIn m (first_half m n) ws → LaidIn m half ws
  half_laid L = rw e L

-- after the last
pub pool_rest : (m p h o : ℕ) (ws : List ℕ) → Pool m p h o ws → AtRest m ws
pool_rest m p h o ws P = record { held = P.held; blank = P.blank }
