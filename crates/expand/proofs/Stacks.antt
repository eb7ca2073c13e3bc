-- Entries that have an id are marked used (`Using`: those still to be looked at, marked, give the whole stack marked). Assumes nothing.
use mathlib.Core.Path.{◌≡◌, refl, sym, ◌∙◌}
use mathlib.Core.Logic.{⊎_elim, inl, inr}
use mathlib.Core.List.{List, [], ◌∷◌, ◌++◌, map, append-nil}
use Prim.Native.Nat.{ℕ, ◌+◌, ◌-◌, ◌≤◌, ◌<◌}
use native.Mathlib.Omega.{arith}
use native.Mathlib.Nat.{add-zero}
use native.Mathlib.Decide.{ℕ_discrete}
use lib.ListN.{length, get_or, set, length-set}
use lib.Seq.{get_or-set_same, get_or-set_other, take-set-le}
use Rattle.expand.specs.Layout.{fresh, list_at, Using}
use Rattle.expand.proofs.Lists.{list_at_cong, list_at_snoc, list_at_next, seam}

-- ---------------------------------------------------------------- all entries

module _ (a fill : ℕ) (ids ws₀ : List ℕ) where
  pub using_start : Using (length ids) a fill ids ws₀ ws₀ 0
  unfolding list_at
  using_start =
      let p : fill - 0 ≡ fill = omega arith in
      record { within = omega arith; size = refl; marks = refl; stack = rw (add-zero a, p); unseen = λ x l. refl }

  module _ (ws : List ℕ) (j : ℕ) (v : Using (length ids) a fill ids ws₀ ws j) where
    -- the next entry is marked, which lies past the source distances
    pub using_next : j < fill → length ids ≤ a → a + fill ≤ length ws → (y : ℕ) → y ≡ fresh ids (get_or ws (a + j) 0)
        → Using (length ids) a fill ids ws₀ (set ws (a + j) y) (j + 1)
    using_next h low room y₀ o₀ = go y₀ o₀ (omega arith) (omega arith)
      where
        go : (y : ℕ) → y ≡ fresh ids (get_or ws (a + j) 0) → a + j < length ws → length ids ≤ a + j → Using (length ids) a fill ids ws₀ (set ws (a + j) y) (j + 1)
        go y o r l =
            let W = set ws (a + j) y in
            let t : list_at W a (j + 1) ≡ list_at ws a j ++ (y ∷ [])
            = list_at_snoc W a j ∙ rw (list_at_cong ws W a j (λ x l u. get_or-set_other ws (a + j) x y 0 (λ g. omega arith)), get_or-set_same ws (a + j) y 0 r) in
            let c : list_at W (a + (j + 1)) (fill - (j + 1)) ≡ list_at ws (a + (j + 1)) (fill - (j + 1))
            = list_at_cong ws W _ _ (λ x l u. get_or-set_other ws (a + j) x y 0 (λ g. omega arith)) in
            record {
              within = omega arith;
              size = length-set ws (a + j) y ∙ v.size;
              marks = take-set-le (length ids) ws (a + j) y l ∙ v.marks;
              stack = rw (list_at_next ws a j fill h, ← o) at v.stack ∙ seam (list_at ws a j) y (map (fresh ids) (list_at ws (a + (j + 1)) (fill - (j + 1)))) ∙ rw (t, c);
              unseen = λ x u. get_or-set_other ws (a + j) x y 0 (λ g. ⊎_elim (λ (k : x < a). omega arith) (λ (k : a + (j + 1) ≤ x). omega arith) u)
                  ∙ v.unseen x (⊎_elim (λ (k : x < a). inl k) (λ (k : a + (j + 1) ≤ x). inr (omega arith)) u);
            }

    -- place i, past the stack, is set to x in both
    pub using_beside : (i x : ℕ) → length ids ≤ i → a + fill ≤ i → i < length ws → Using (length ids) a fill ids (set ws₀ i x) (set ws i x) j
    using_beside i x low past room =
        let off : (l : List ℕ) (y k : ℕ) → y + k ≤ a + fill → list_at (set l i x) y k ≡ list_at l y k = λ l y k h. list_at_cong l (set l i x) y k (λ z g u. get_or-set_other l i z x 0 (λ e. omega arith)) in
        record {
          within = v.within;
          size = length-set ws i x ∙ v.size ∙ sym (length-set ws₀ i x);
          marks = take-set-le (length ids) ws i x low ∙ v.marks ∙ sym (take-set-le (length ids) ws₀ i x low);
          stack = rw (off ws₀ a fill (omega arith), off ws a j (omega (arith, v.within)), off ws (a + j) (fill - j) (omega (arith, v.within))) v.stack;
          unseen = λ z u. elim (ℕ_discrete z i) [
            | yes e ↦ rw e (get_or-set_same ws i x 0 room ∙ sym (get_or-set_same ws₀ i x 0 (omega (arith, v.size))))
            | no e ↦ get_or-set_other ws i z x 0 e ∙ v.unseen z u ∙ sym (get_or-set_other ws₀ i z x 0 e)
          ];
        }

-- all are marked
pub used_stack : (n a fill : ℕ) (ids ws ws₁ : List ℕ) → Using n a fill ids ws ws₁ fill → list_at ws₁ a fill ≡ map (fresh ids) (list_at ws a fill)
unfolding list_at
used_stack n a fill ids ws ws₁ v = let p : fill - fill ≡ 0 = omega arith in sym (rw (rw p at v.stack) (append-nil (list_at ws₁ a fill)))
