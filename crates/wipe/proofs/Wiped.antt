-- Bits that are put together are 0 only where each is, and a workspace that is zeros before i and from i on is zeros.
-- Assumes nothing.
use Prim.Native.Nat.{ℕ, ◌-◌, ◌≤◌}
use native.Mathlib.Omega.{arith}
use native.Mathlib.Decide.{dec_lt}
use mathlib.Core.Path.{◌≡◌, refl, sym, ap, ◌∙◌}
use mathlib.Core.List.{List, [], ◌∷◌}
use Rattle.std.specs.List.{fold}
use lib.ListN.{length, replicate, length-replicate, get_or-replicate}
use lib.Seq.{ext_get_or}
use lib.Bits.{bit_or, or_add_and, and_le_l, and_le_r}
use Rattle.space.specs.Space.{Clear, Frame}
use Rattle.space.proofs.Laws.{get_or_before, part_clear, part_frame}
use borrow.Rule.Slice.PartMut.{put_mid, mid_of, same_len_mid}

or-none : (a b : ℕ) → bit_or a b ≡ 0 → (a ≡ 0) × (b ≡ 0)
or-none a b e = (omega (arith, or_add_and a b, and_le_r a b), omega (arith, or_add_and a b, and_le_l a b))

or_fold : (a : ℕ) (l : List ℕ) → fold bit_or a l ≡ 0 → (a ≡ 0) × (l ≡ replicate (length l) 0)
or_fold a [] e = (e, refl)
or_fold a (x ∷ xs) e =
    let p = or_fold (bit_or a x) xs e in
    let q = or-none a x p.0 in
    (q.0, ap (λ (y : ℕ). y ∷ xs) q.1 ∙ ap (λ (ys : List ℕ). 0 ∷ ys) p.1)

pub folded : (l : List ℕ) (all : ℕ) → all ≡ fold bit_or 0 l → all ≡ 0 → l ≡ replicate (length l) 0
folded l all e z = (or_fold 0 l (sym e ∙ z)).1

-- one block more
pub record Wiped (ws₀ ws : List ℕ) (i : ℕ) : Type 0 where
  pub low : i ≤ length ws
  pub size : length ws ≡ length ws₀
  pub clear : Clear 0 i ws

pub wiped_start : (ws : List ℕ) → Wiped ws ws 0
wiped_start ws = record { low = omega arith; size = refl; clear = record { blank = λ x _ u. absurd (omega arith) } }

wiped_next : (ws₀ ws ws' : List ℕ) (i e : ℕ) → Wiped ws₀ ws i → e ≤ length ws → i ≤ e → length ws' ≡ length ws → Clear i e ws' → Frame i e ws ws' → Wiped ws₀ ws' e
wiped_next ws₀ ws ws' i e w h l n c f = record {
  low = omega (arith, n);
  size = n ∙ w.size;
  clear = record {
    blank = λ x o u. elim (dec_lt x i) [
      | yes k ↦ get_or_before x f k ∙ w.clear.blank x o k
      | no k ↦ c.blank x (omega arith) u
    ];
  };
}

-- a part that came back as zeros
pub wiped_block : (ws₀ ws ys : List ℕ) (i e : ℕ) → Wiped ws₀ ws i → i ≤ e → e ≤ length ws → ys ≡ replicate (length (mid_of i (e - i) ws)) 0 → Wiped ws₀ (put_mid i (e - i) ws ys) e
wiped_block ws₀ ws ys i e w l h q =
    let n : length ys ≡ length (mid_of i (e - i) ws) = ap length q ∙ length-replicate _ (let o : ℕ = 0 in o) in
    wiped_next ws₀ ws (put_mid i (e - i) ws ys) i e w h l (same_len_mid i (e - i) ws ys n) (part_clear i e ws ys l h q) (part_frame i e ws ys l h q)

pub wiped_all : (ws₀ ws : List ℕ) (e : ℕ) → Wiped ws₀ ws e → e ≡ length ws₀ → ws ≡ replicate (length ws₀) 0
wiped_all ws₀ ws e w h =
    ext_get_or 0 ws (replicate (length ws₀) 0) (w.size ∙ sym (length-replicate (length ws₀) (let o : ℕ = 0 in o)))
    (λ x u. w.clear.blank x (omega arith) (omega (arith, w.size)) ∙ sym (get_or-replicate (length ws₀) x (let o : ℕ = 0 in o) 0 (omega (arith, w.size))))
