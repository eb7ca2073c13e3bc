-- Changes, made one after another: what is made so far gives the marks that those changes give (`Writing`). Changes stand past the source distances, so
-- none is written over. Assumes nothing.
use mathlib.Core.Path.{◌≡◌, refl, sym, ap, ◌∙◌}
use mathlib.Core.List.{List}
use Prim.Native.Nat.{ℕ, ◌+◌, ◌-◌, ◌*◌, ◌≤◌, ◌<◌}
use native.Mathlib.Omega.{arith}
use lib.ListN.{length, get_or, set, length-set}
use lib.Seq.{get_or-set_other, take-set-lt}
use Rattle.rules.specs.Growth.{Marks, put}
use Rattle.flood.specs.Stack.{marks_at}
use Rattle.net.specs.Table.{last_place}
use Rattle.expand.specs.Layout.{changes_at, applied, Past}
use Rattle.expand.specs.Front.{Spans, Writing}
use Rattle.expand.proofs.Lists.{changes_at_snoc, applied_snoc}

-- a change made, as the code makes it
put_marks : (n : ℕ) (ids ws : List ℕ) (s id far : ℕ) → s < n → marks_at n (set ids s id) (set ws s far) ≡ put (marks_at n ids ws) s id far
unfolding put
put_marks n ids ws s id far h = rw (take-set-lt n ws s far h)

next_change : (ws : List ℕ) (e lo i : ℕ) (m : Marks) → lo ≤ i
    → applied (changes_at ws (e + 3 * lo) (i + 1 - lo)) m
    ≡ put (applied (changes_at ws (e + 3 * lo) (i - lo)) m) (get_or ws (e + 3 * i) 0) (get_or ws (e + 3 * i + 1) 0) (get_or ws (e + 3 * i + 2) 0)
next_change ws e lo i m h =
    let p : i + 1 - lo ≡ i - lo + 1 = omega arith in
    let q : e + 3 * lo + 3 * (i - lo) ≡ e + 3 * i = omega arith in
    rw p (ap (λ (l : List _). applied l m) (changes_at_snoc ws (e + 3 * lo) (i - lo)) ∙ rw q (applied_snoc (changes_at ws (e + 3 * lo) (i - lo)) _ m))

module _ (e lo hi : ℕ) (ids₀ ws₀ : List ℕ) where
  pub writing_start : lo ≤ hi → Writing (length ids₀) e lo hi ids₀ ws₀ ids₀ ws₀ lo
  unfolding changes_at applied
  writing_start h = let p : lo - lo ≡ 0 = omega arith in record { order = omega arith; within = h; size₁ = refl; size₂ = refl; kept = λ x l. refl; marks = rw p }

  module _ (ids ws : List ℕ) (i : ℕ) (v : Writing (length ids₀) e lo hi ids₀ ws₀ ids ws i) (z : Past (length ids₀) e (e + 3 * length ids₀) ws₀) (p : Spans (length ids₀) e lo hi ws₀) where
    pub writing_span : i < hi → get_or ws (e + 3 * i) 0 < length ids
    writing_span h = omega (arith, v.kept (e + 3 * i) (omega (arith, z.low)), p.span i v.order h, v.size₁)

    pub writing_at : i < hi → hi ≤ length ids₀ → e + 3 * i + 2 < length ws
    writing_at h g = omega (arith, z.room, v.size₂)

    pub writing_small : i < hi → hi ≤ length ids₀ → e + 3 * i ≤ last_place
    writing_small h g = omega (arith, z.close)

    pub writing_wide : length ids ≤ length ws
    writing_wide = omega (arith, z.low, z.room, v.size₁, v.size₂)

    pub writing_next : i < hi → (ids' ws' : List ℕ) → ids' ≡ set ids (get_or ws (e + 3 * i) 0) (get_or ws (e + 3 * i + 1) 0) → ws' ≡ set ws (get_or ws (e + 3 * i) 0) (get_or ws (e + 3 * i + 2) 0)
        → Writing (length ids₀) e lo hi ids₀ ws₀ ids' ws' (i + 1)
    writing_next h ids' ws' q r =
        let s : get_or ws (e + 3 * i) 0 < length ids₀ = omega (arith, v.kept (e + 3 * i) (omega (arith, z.low)), p.span i v.order h) in
        rw (q, r) (record {
          order = omega (arith, v.order);
          within = omega arith;
          size₁ = length-set ids _ _ ∙ v.size₁;
          size₂ = length-set ws _ _ ∙ v.size₂;
          kept = λ x l. get_or-set_other ws (get_or ws (e + 3 * i) 0) x (get_or ws (e + 3 * i + 2) 0) 0 (λ y. omega arith) ∙ v.kept x l;
          marks = put_marks (length ids₀) ids ws _ _ _ s
              ∙ rw (v.marks, v.kept (e + 3 * i) (omega (arith, z.low)), v.kept (e + 3 * i + 1) (omega (arith, z.low)), v.kept (e + 3 * i + 2) (omega (arith, z.low)))
              (sym (next_change ws₀ e lo i (marks_at (length ids₀) ids₀ ws₀) v.order));
        })

    pub writing_end : hi ≤ i → Writing (length ids₀) e lo hi ids₀ ws₀ ids ws hi
    writing_end h = let q : i ≡ hi = omega (arith, v.within) in rw q at v
