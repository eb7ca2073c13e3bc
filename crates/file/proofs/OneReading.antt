-- Two results that satisfy the promise of `read_file` coincide: the lists are given by equations, and the answer can be read off the rule's reading.
-- Assumes nothing.
use Prim.Native.Nat.{ℕ, ◌≤◌}
use native.Mathlib.Omega.{arith}
use mathlib.Core.Path.{◌≡◌, refl, sym, ap, ◌∙◌}
use mathlib.Core.List.{List}
use lib.ListN.{length}
use Rattle.std.specs.Prelude.{Result, Ok, Err}
use lib.Seq.{length-take-le}
use Rattle.rules.specs.File.{Level, refused, described}
use Rattle.file.specs.Reads.{file_number, Lists, reading_of, Few, Reads}
use Rattle.file.specs.declared.read.FileRefusal.{FileRefusal}
use Rattle.file.specs.declared.read.FileRefusal.TheVariants.{Malformed, TooLarge}
use Rattle.file.specs.declared.read.Header.{Header}

number_same : (x y : FileRefusal) → file_number x ≡ file_number y → x ≡ y
number_same Malformed Malformed e = refl
number_same Malformed TooLarge e = absurd (omega arith)
number_same TooLarge Malformed e = absurd (omega arith)
number_same TooLarge TooLarge e = refl

refused_same : (m n : ℕ) → refused m ≡ refused n → m ≡ n
refused_same m n e = cc

described_same : (a b : Level) → described a ≡ described b → a ≡ b
described_same a b e = cc

never : (n : ℕ) (a : Level) → refused n ≡ described a → ⊥
never n a e = let z : ◌≡◌ {A = ℕ} 0 1 = cc in omega arith

abbrev header : ℕ → ℕ → ℕ → ℕ → ℕ → Header
header w h b l m = record { w = w; h = h; border = b; least = l; merge = m }

header-same : (t u : Header) → t.w ≡ u.w → t.h ≡ u.h → t.border ≡ u.border → t.least ≡ u.least → t.merge ≡ u.merge → t ≡ u
header-same t u w h b l m =
    ap (λ (x : ℕ). header x t.h t.border t.least t.merge) w ∙ ap (λ (x : ℕ). header u.w x t.border t.least t.merge) h
    ∙ ap (λ (x : ℕ). header u.w u.h x t.least t.merge) b ∙ ap (λ (x : ℕ). header u.w u.h u.border x t.merge) l
    ∙ ap (λ (x : ℕ). header u.w u.h u.border u.least x) m

module _ (index count area con : List ℕ) (long : 200 ≤ length area) where
  answer_same : (a b : Result (Header × ℕ) FileRefusal) → Few a → Few b → reading_of a index count area con ≡ reading_of b index count area con → a ≡ b
  answer_same (Err x) (Err y) f g e = ap Err (number_same x y (refused_same (file_number x) (file_number y) e))
  answer_same (Err x) (Ok (u, m)) f g e = absurd (never (file_number x) _ e)
  answer_same (Ok (t, n)) (Err y) f g e = absurd (never (file_number y) _ (sym e))
  answer_same (Ok (t, n)) (Ok (u, m)) f g e =
      let v = described_same _ _ e in
      let k : n ≡ m =
      sym (length-take-le n area (omega (arith, f.1))) ∙ ap (λ (x : Level). length x.field.area) v ∙ length-take-le m area (omega (arith, g.1)) in
      let s : t ≡ u =
      header-same t u (ap (λ (x : Level). x.field.w) v) (ap (λ (x : Level). x.field.h) v) (ap (λ (x : Level). x.sizes.border) v)
      (ap (λ (x : Level). x.sizes.least) v) (ap (λ (x : Level). x.sizes.merge) v) in
      ap (λ (x : Header). Ok (x, n)) s ∙ ap (λ (x : ℕ). Ok (u, x)) k

-- a call keeps the lengths of what it is lent, so the lists at exit are as long as it requires
pub one_reading : (bytes index count area con : List ℕ) (a b : Result (Header × ℕ) FileRefusal) (index₁ count₁ area₁ con₁ index₂ count₂ area₂ con₂ : List ℕ) → Lists index₁ count₁ area₁ con₁
    → Reads bytes index count area con a index₁ count₁ area₁ con₁ → Reads bytes index count area con b index₂ count₂ area₂ con₂
    → (a ≡ b) × (index₁ ≡ index₂) × (count₁ ≡ count₂) × (area₁ ≡ area₂) × (con₁ ≡ con₂)
one_reading bytes index count area con a b index₁ count₁ area₁ con₁ index₂ count₂ area₂ con₂ l p q =
    let i : index₁ ≡ index₂ = p.indices ∙ sym q.indices in
    let k : count₁ ≡ count₂ = p.counts ∙ sym q.counts in
    let s : area₁ ≡ area₂ = p.areas ∙ sym q.areas in
    let c : con₁ ≡ con₂ = p.cons ∙ sym q.cons in
    let e : reading_of a index₁ count₁ area₁ con₁ ≡ reading_of b index₁ count₁ area₁ con₁ = p.same ∙ rw (i, k, s, c) (sym q.same) in
    (answer_same index₁ count₁ area₁ con₁ l.spans₁ a b p.few q.few e, i, k, s, c)
