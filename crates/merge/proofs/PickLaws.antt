-- Laws of the picking. Assumes nothing.
use Prim.Native.Nat.{ℕ, ◌+◌, ◌≤◌, ◌<◌}
use native.Mathlib.Omega.{arith}
use native.Mathlib.Decide.{dec_lt}
use native.Mathlib.Numerals.{add-one}
use mathlib.Core.Path.{◌≡◌, refl, sym, ap, ◌∙◌}
use mathlib.Core.Bool.{Bool, true, false}
use mathlib.Core.List.{List, []}
use lib.ListN.{drop_of_length-le, length, get_or, drop}
use lib.Seq.{drop-cons}
use borrow.Author.Tests.{le-leb, lt-leb}
use Rattle.rules.specs.Base.{when◌then◌else◌}
use Rattle.rules.specs.Records.{Rec, at}
use Rattle.rules.specs.Merge.{Pick}
use Rattle.table.specs.View.{list_at, rec_at, view, Under, Held}
use Rattle.pool.specs.Fixed.{better, pick_one, picked_f}
use Rattle.table.proofs.ViewLaws.{view-at}

rec_pick : (ws : List ℕ) (m s t r n : ℕ) → n ≡ get_or ws (m + r) 0 → ◌≡◌ {A = Pick} (record { size = n; id = get_or ws r 0 }) (record { size = (rec_at ws m s t r).count; id = (rec_at ws m s t r).id })
unfolding rec_at
rec_pick ws m s t r n e = rw e

module _ (ws : List ℕ) (m s t i r : ℕ) (p : Pick) where
  pub pick-flagged : 32768 ≤ r → p ≡ pick_one (view ws m s t) (rec_at ws m s t i) r (rec_at ws m s t r) p
  unfolding pick_one when◌then◌else◌
  pick-flagged h = rw (le-leb 32768 r h)

  module _ (h : r < 32768) (b : Bool) (q : b ≡ better (view ws m s t) (rec_at ws m s t i) (rec_at ws m s t r) p.size) where
    pub pick-stays : b ≡ false → p ≡ pick_one (view ws m s t) (rec_at ws m s t i) r (rec_at ws m s t r) p
    unfolding pick_one when◌then◌else◌
    pick-stays z = rw (lt-leb 32768 r h, ← q, z)

    pub pick_moves : b ≡ true → (n : ℕ) → n ≡ get_or ws (m + r) 0 → ◌≡◌ {A = Pick} (record { size = n; id = get_or ws r 0 }) (pick_one (view ws m s t) (rec_at ws m s t i) r (rec_at ws m s t r) p)
    unfolding pick_one when◌then◌else◌
    pick_moves z n e = rw (lt-leb 32768 r h, ← q, z) (rec_pick ws m s t r n e)

-- ---- all of the list

skip : (rs : List Rec) (a : Rec) (r : ℕ) (b : Rec) (p : Pick) → 32768 ≤ r → p ≡ pick_one rs a r b p
unfolding pick_one when◌then◌else◌
skip rs a r b p h = rw (le-leb 32768 r h)

module _ (ws : List ℕ) (m s t i k : ℕ) (l : List ℕ) (held : Held m s t ws) (g : i < m) (e : l ≡ list_at ws m s i) (h : k < length l) where
  pub pick-listed : get_or l k 0 < 32768 → get_or l k 0 < m
  pick-listed w = let u : Under m l = rw e (held.listed i g) in u.under k h w

  picked_more : (p : Pick) → picked_f (view ws m s t) (rec_at ws m s t i) (drop k l) p
      ≡ picked_f (view ws m s t) (rec_at ws m s t i) (drop (k + 1) l) (pick_one (view ws m s t) (rec_at ws m s t i) (get_or l k 0) (at (view ws m s t) (get_or l k 0)) p)
  unfolding picked_f
  picked_more p = rw (drop-cons l k 0 h, add-one k)

  -- a flagged entry is not looked up
  picked-at : (p : Pick) → pick_one (view ws m s t) (rec_at ws m s t i) (get_or l k 0) (at (view ws m s t) (get_or l k 0)) p
      ≡ pick_one (view ws m s t) (rec_at ws m s t i) (get_or l k 0) (rec_at ws m s t (get_or l k 0)) p
  picked-at p =
      elim (dec_lt (get_or l k 0) 32768) [
        | yes w ↦ rw (view-at ws m s t (get_or l k 0) (pick-listed w)) refl
        | no w ↦ both_flagged (omega arith)
      ]
    where
      both_flagged : 32768 ≤ get_or l k 0 → pick_one (view ws m s t) (rec_at ws m s t i) (get_or l k 0) (at (view ws m s t) (get_or l k 0)) p
          ≡ pick_one (view ws m s t) (rec_at ws m s t i) (get_or l k 0) (rec_at ws m s t (get_or l k 0)) p
      both_flagged w = sym (skip (view ws m s t) (rec_at ws m s t i) (get_or l k 0) (at (view ws m s t) (get_or l k 0)) p w) ∙ skip (view ws m s t) (rec_at ws m s t i) (get_or l k 0) (rec_at ws m s t (get_or l k 0)) p w

  pub picked_go : (p₀ p p' : Pick) → picked_f (view ws m s t) (rec_at ws m s t i) l p₀ ≡ picked_f (view ws m s t) (rec_at ws m s t i) (drop k l) p
      → p' ≡ pick_one (view ws m s t) (rec_at ws m s t i) (get_or l k 0) (rec_at ws m s t (get_or l k 0)) p
      → picked_f (view ws m s t) (rec_at ws m s t i) l p₀ ≡ picked_f (view ws m s t) (rec_at ws m s t i) (drop (k + 1) l) p'
  picked_go p₀ p p' a b = a ∙ picked_more p ∙ ap (picked_f (view ws m s t) (rec_at ws m s t i) (drop (k + 1) l)) (picked-at p ∙ sym b)

pub picked-end : (ws : List ℕ) (m s t i k : ℕ) (l : List ℕ) (p₀ p : Pick) → l ≡ list_at ws m s i → length l ≤ k
    → picked_f (view ws m s t) (rec_at ws m s t i) l p₀ ≡ picked_f (view ws m s t) (rec_at ws m s t i) (drop k l) p
    → p ≡ picked_f (view ws m s t) (rec_at ws m s t i) (list_at ws m s i) p₀
unfolding picked_f
picked-end ws m s t i k l p₀ p e h a = let d : drop k l ≡ [] = drop_of_length-le l h in rw (← e) (sym (rw d at a))

pub own_id : (ws : List ℕ) (m s t i : ℕ) → Held m s t ws → i < m → get_or ws i 0 < m
own_id ws m s t i h g = h.ids i g
