-- The lists that can name old: those of the records beside the places that named old, or a record that bears it by now. The walk goes over old's row; those
-- before y in it have had their places met (`Searching`), and a list that no place mentions does not name old.
use Prim.Native.Nat.{ℕ, ◌+◌, ◌*◌, ◌≤◌, ◌<◌}
use native.Mathlib.Omega.{arith}
use mathlib.Core.Path.{◌≡◌, refl, sym, ◌∙◌}
use mathlib.Core.Logic.{⊎_elim, ◌⊎◌, inl, inr}
use mathlib.Core.List.{List}
use lib.ListN.{length, get_or}
use Rattle.pool.specs.Bearers.{next_of}
use Rattle.pool.specs.Pool.{Swept}
use Rattle.pool.specs.Sweep.{SweptOf, NamedBy, Reached, RenamedFor, Searched}
use Rattle.pool.proofs.BearerLaws.{steps, steps_fall, next_done}
use Rattle.pool.proofs.SweepLaws.{sweep_none, sweep_sub, sweep_then, sweep_done, sweep_linked, sweep_named, sweep-reached}

-- the places of y's number are met after those of the ones before it
sweep_next : (m i n y old new p o from : ℕ) (M : ℕ → Type 0) (ws₀ ws ws' : List ℕ) (T : Reached m i n p o from ws₀) → SweptOf m i n old new M ws₀ ws
    → RenamedFor m i n y old new p o from ws ws' → SweptOf m i n old new (λ x. M x ⊎ NamedBy m T.places y o T.named ws₀ x) ws₀ ws'
sweep_next m i n y old new p o from M ws₀ ws ws' T W N =
    let K = N.each T.places T.named T.few (sweep_linked m i n old new p o from M ws₀ ws T W T.places T.named T.linked) in
    sweep_sub m i n old new (λ x. M x ⊎ NamedBy m T.places y o T.named ws x) ws₀ ws'
    (sweep_then m i n old new M ws₀ ws W T.rows (NamedBy m T.places y o T.named ws) ws' K) (λ x. M x ⊎ NamedBy m T.places y o T.named ws₀ x)
    (λ x s. ⊎_elim (λ (h : M x). inl h) (λ (h : NamedBy m T.places y o T.named ws₀ x). inr (sweep_named m i n old new p o from M ws₀ ws T W T.places y T.named T.few x h)) s)

-- a place of a record before y in old's row has x beside it
pub record MetTo (m k o old y : ℕ) (named rank : ℕ → ℕ) (ws : List ℕ) (x : ℕ) : Type 0 where
  pub who : ℕ
  pub inside : who < m
  pub bore : get_or ws who 0 ≡ old
  pub done : (y ≡ 0) ⊎ (rank who < rank y)
  pub by : NamedBy m k who o named ws x

-- at y of old's row
pub record Searching (m i n old new p o from : ℕ) (ws₀ ws : List ℕ) (y : ℕ) : Type 0 where
  pub searched : Searched m i n old p o from ws₀
  pub here : (y ≡ 0 → ⊥) → (y < m) × (get_or ws₀ y 0 ≡ old)
  pub swept : SweptOf m i n old new (MetTo m searched.reached.places o old y searched.reached.named searched.bearers.rank ws₀) ws₀ ws

pub search_start : (m i n old new p o from : ℕ) (ws : List ℕ) → Searched m i n old p o from ws → Searching m i n old new p o from ws ws old
search_start m i n old new p o from ws S = record {
  searched = S;
  here = λ _. (S.borne.0, S.borne.1);
  swept = sweep_sub m i n old new (λ _. ⊥) ws ws (sweep_none m i n old new ws S.reached.rows) _ (λ x t.
      ⊎_elim (λ (e : old ≡ 0). S.borne.2 e)
      (λ (e : S.bearers.rank t.who < S.bearers.rank old). omega (arith, S.bearers.start old S.borne.0 (λ w. S.borne.2 (sym S.borne.1 ∙ w)) S.borne.1)) t.done);
}

module _ (m i n old new p o from : ℕ) (ws₀ ws : List ℕ) (y : ℕ) (S : Searching m i n old new p o from ws₀ ws y) (l : length ws ≡ length ws₀) where
  abbrev K : Searched m i n old p o from ws₀
  K = S.searched

  pub search_reached : Reached m i n p o from ws
  search_reached = sweep-reached m i n old new p o from _ ws₀ ws K.reached S.swept l

  pub search_done : y ≡ 0 → Swept m i n old new ws₀ ws
  search_done e = sweep_done m i n old new _ ws₀ ws S.swept (λ x g a b z h.
      let t = K.tells x g a b z h in
      record {
        who = K.reached.named t.place;
        inside = t.names;
        bore = t.is;
        done = inl e;
        by = record { place = t.place; inside = t.inside; names = refl; beside = t.beside; bears = t.bears };
      })

  module _ (z : y ≡ 0 → ⊥) where
    pub search_in : y < m
    search_in = (S.here z).0

    live : get_or ws₀ y 0 ≡ 0 → ⊥
    live e = K.borne.2 (sym (S.here z).1 ∙ e)

    module _ (ws' : List ℕ) (N : RenamedFor m i n y old new p o from ws ws') (l' : length ws' ≡ length ws) where
      met_next : SweptOf m i n old new
          (λ x. MetTo m K.reached.places o old y K.reached.named K.bearers.rank ws₀ x ⊎ NamedBy m K.reached.places y o K.reached.named ws₀ x) ws₀ ws'
      met_next = sweep_next m i n y old new p o from _ ws₀ ws ws' K.reached S.swept N

      pub search_room : 6 * m + m ≤ length ws'
      search_room = omega (arith, K.reached.rows.lists.room)

      module _ (y' : ℕ) (e : y' ≡ next_of ws' m y) where
        next_is : next_of ws₀ m y ≡ y'
        next_is = sym (e ∙ met_next.kept (6 * m + y) (record { table = inl (omega (arith, search_in)); lists = λ x g a b. inl (omega (arith, search_in, K.reached.rows.far x g)) }))

        pub search_falls : steps m ws₀ m y' < steps m ws₀ m y
        search_falls = rw (← next_is) (steps_fall m ws₀ K.bearers y search_in live)

        pub search_next : Searching m i n old new p o from ws₀ ws' y'
        search_next = record {
          searched = K;
          here = λ w.
              let u : next_of ws₀ m y ≡ 0 → ⊥ = (λ v. w (sym next_is ∙ v)) in
              let b = K.bearers.after y search_in live u in
              rw (← next_is) (b.inside, b.bears ∙ (S.here z).1);
          swept = sweep_sub m i n old new _ ws₀ ws' met_next _ (λ x t.
              let w : (next_of ws₀ m y ≡ 0) ⊎ (K.bearers.rank t.who < K.bearers.rank (next_of ws₀ m y)) = rw next_is t.done in
              ⊎_elim
              (λ (u : K.bearers.rank t.who < K.bearers.rank y). inl (record { who = t.who; inside = t.inside; bore = t.bore; done = inr u; by = t.by }))
              (λ (u : t.who ≡ y). inr (rw u at t.by))
              (next_done m ws₀ K.bearers y t.who search_in t.inside live (t.bore ∙ sym (S.here z).1) w));
        }
