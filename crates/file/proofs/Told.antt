-- What a loader tells of a whole file is what the rule's reading says: the answer, the place, and every list.
-- The loader tells `read_file_at` (`loader_tells`), and a field that it describes is within the limits (`file_fine`).
use Prim.Native.Nat.{ℕ, ◌*◌, ◌≤◌, ◌<◌}
use native.Mathlib.Omega.{arith}
use mathlib.Core.Path.{◌≡◌, refl, sym, ap, subst, ◌∙◌}
use mathlib.Core.Logic.{◌⊎◌, ⊎_elim}
use mathlib.Core.List.{List}
use lib.ListN.{length, get_or, take, drop}
use lib.Seq.{take_at}
use lib.Dec.{eqb}
use Rattle.std.specs.Prelude.{Result, Ok, Err, Option, Some, None}
use borrow.Author.Tests.{eq-eqb, ne_eqb, eqb-true, eqb-false}
use Rattle.rules.specs.Base.{when◌then◌else◌}
use Rattle.rules.specs.Field.{Field}
use Rattle.rules.specs.Outcomes.{Sizes}
use Rattle.rules.specs.File.{Level, refused, described, read_file}
use Rattle.rules.specs.Load.{Placed, refused_at, describes, read_file_at, reading_by, field_by, load_begin, load_end, feed, with, over, Told, refused_told, loaded_told, told, capped, told_by}
use Rattle.laws.proofs.Basics.{if-ind}
use Rattle.load.specs.declared.Loader.{Loader}
use Rattle.load.specs.Numbers.{loader_of, loading}
use Rattle.load.proofs.Loads.{tell, loader_tells}
use Rattle.load.proofs.Whole.{place-left_out}
use Rattle.load.proofs.Fine.{Measured, Fine, file_fine}
use Rattle.file.specs.Reads.{sizes_of, Lists, first, header, held, Reads, reading_in, Few, Short, place_by, place_in, begun, finished, Whole}
use Rattle.file.specs.declared.read.FileRefusal.{FileRefusal}
use Rattle.file.specs.declared.read.FileRefusal.TheVariants.{Malformed, TooLarge}
use Rattle.file.specs.declared.read.Header.{Header}

-- ---------------------------------------------------------------- the loading

pub whole_loaded : (bytes index count area con : List ℕ) (l₀ l₁ l₂ : Loader) (index' count' area' con' : List ℕ) → loader_of l₀ ≡ load_begin 1024 200
    → loading l₁ index' count' area' con' ≡ feed bytes (loading l₀ index count area con) → loader_of l₂ ≡ load_end (loader_of l₁)
    → Whole bytes index count area con l₂ index' count' area' con'
unfolding begun finished with
whole_loaded bytes index count area con l₀ l₁ l₂ index' count' area' con' e f g = record { loads = rw (← e, ← f) (rw g refl) }

-- ---------------------------------------------------------------- a loader's answer, as the code has it

module _ (l : Loader) where
  pub header_short : (l.refusal ≡ 0 → Short l) → l.refusal ≡ 0 → Short l
  header_short f e = f e

  pub reading_loaded : (t : Header) → l.refusal ≡ 0 → t ≡ header l → Ok (t, l.spans) ≡ reading_in l
  unfolding reading_in when◌then◌else◌
  reading_loaded t e f = rw (eq-eqb l.refusal 0 e, f) refl

  pub reading_large : l.refusal ≡ 21 → Err TooLarge ≡ reading_in l
  unfolding reading_in when◌then◌else◌
  reading_large e = rw e refl

  pub reading_bad : (l.refusal ≡ 0 → ⊥) → (l.refusal ≡ 21 → ⊥) → Err Malformed ≡ reading_in l
  unfolding reading_in when◌then◌else◌
  reading_bad n m = rw (ne_eqb l.refusal 0 n, ne_eqb l.refusal 21 m)

  pub place_none : l.refusal ≡ 0 → None ≡ place_in l
  unfolding place_in when◌then◌else◌
  place_none e = rw (eq-eqb l.refusal 0 e)

  pub place_some : (l.refusal ≡ 0 → ⊥) → Some l.position ≡ place_in l
  unfolding place_in when◌then◌else◌
  place_some n = rw (ne_eqb l.refusal 0 n)

-- ---------------------------------------------------------------- what is told

never : (w h : ℕ) (z : Sizes) (n : ℕ) (i c a o : List ℕ) (m p : ℕ) (j d b q : List ℕ) → loaded_told w h z n i c a o ≡ refused_told m p j d b q → ⊥
never w h z n i c a o m p j d b q e = let y : ◌≡◌ {A = ℕ} 0 1 = cc in omega arith

-- the two sorts of what is told
told_no : (l : Loader) (index count area con : List ℕ) (n p : ℕ) (i c a o : List ℕ) → told (loading l index count area con) ≡ refused_told n p i c a o
    → (l.refusal ≡ 0 → ⊥) × (l.refusal ≡ n) × (l.position ≡ p) × (index ≡ i) × (count ≡ c) × (area ≡ a) × (con ≡ o)
unfolding told
told_no l index count area con n p i c a o =
    if-ind (λ (t : Told). t ≡ refused_told n p i c a o → (l.refusal ≡ 0 → ⊥) × (l.refusal ≡ n) × (l.position ≡ p) × (index ≡ i) × (count ≡ c) × (area ≡ a) × (con ≡ o))
    (eqb l.refusal 0) (λ e q. absurd (never _ _ _ _ _ _ _ _ _ _ _ _ _ _ q)) (λ e q. (eqb-false l.refusal 0 e, cc, cc, cc, cc, cc, cc))

told_yes : (l : Loader) (index count area con : List ℕ) (w h : ℕ) (z : Sizes) (n : ℕ) (i c a o : List ℕ) → told (loading l index count area con) ≡ loaded_told w h z n i c a o
    → (l.refusal ≡ 0) × (l.w ≡ w) × (l.h ≡ h) × (◌≡◌ {A = Sizes} (record { border = l.border; least = l.least; merge = l.merge }) z) × (l.spans ≡ n)
    × (index ≡ i) × (count ≡ c) × (area ≡ a) × (con ≡ o)
unfolding told
told_yes l index count area con w h z n i c a o =
    if-ind (λ (t : Told). t ≡ loaded_told w h z n i c a o → (l.refusal ≡ 0) × (l.w ≡ w) × (l.h ≡ h) × (◌≡◌ {A = Sizes} (record { border = l.border; least = l.least; merge = l.merge }) z)
    × (l.spans ≡ n) × (index ≡ i) × (count ≡ c) × (area ≡ a) × (con ≡ o))
    (eqb l.refusal 0) (λ e q. (eqb-true l.refusal 0 e, cc, cc, cc, cc, cc, cc, cc, cc)) (λ e q. absurd (never _ _ _ _ _ _ _ _ _ _ _ _ _ _ (sym q)))

take-over : (l old : List ℕ) (n : ℕ) → n ≡ length l → take n (over l old) ≡ l
unfolding over
take-over l old n e = take_at l (drop (length l) old) n (sym e)

module _ (bytes index count area con : List ℕ) (l : Loader) (index' count' area' con' : List ℕ) (whole : Whole bytes index count area con l index' count' area' con')
    (lists : Lists index count area con) (small : (i : ℕ) → get_or bytes i 0 < 256) where
  tells : told (loading l index' count' area' con') ≡ told_by index count area con (read_file_at 1024 200 bytes)
  unfolding tell begun finished
  tells =
      ap told whole.loads
      ∙ loader_tells 1024 200 index count area con (omega arith) (omega arith) lists.cells₁ lists.cells₂ lists.spans₁ (omega (arith, lists.spans₂)) bytes small

  -- ---------------------------------------------------------------- the place

  place_by_lem : (p : Placed) → told (loading l index' count' area' con') ≡ told_by index count area con p → place_in l ≡ place_by p
  unfolding told_by place_by place_in when◌then◌else◌
  place_by_lem (refused_at n p F) e = let t = told_no l index' count' area' con' n (capped p) _ _ _ _ e in rw (ne_eqb l.refusal 0 t.0, t.2) refl
  place_by_lem (describes L) e = let t = told_yes l index' count' area' con' _ _ _ _ _ _ _ _ e in rw (eq-eqb l.refusal 0 t.0) refl

  pub whole_place : (r : Option ℕ) → r ≡ place_in l → r ≡ place_by (read_file_at 1024 200 bytes)
  whole_place r e = e ∙ place_by_lem (read_file_at 1024 200 bytes) tells

  -- ---------------------------------------------------------------- the answer

  -- numbers of 16 bits
  short_by : (p : Placed) → Fine 1024 200 p → told (loading l index' count' area' con') ≡ told_by index count area con p → l.refusal ≡ 0 → Short l
  unfolding told_by Fine
  short_by (refused_at n p F) f e q = let t = told_no l index' count' area' con' n (capped p) _ _ _ _ e in absurd (t.0 q)
  short_by (describes L) f e q =
      let t = told_yes l index' count' area' con' _ _ _ _ _ _ _ _ e in
      let b = ap (λ (z : Sizes). z.border) t.3 in
      let k = ap (λ (z : Sizes). z.least) t.3 in
      let m = ap (λ (z : Sizes). z.merge) t.3 in
      record {
        w = omega (arith, f.w, t.1);
        h = omega (arith, f.h, t.2);
        border = omega (arith, f.border, b);
        least = omega (arith, f.least, k);
        merge = omega (arith, f.merge, m);
      }

  pub whole_short : l.refusal ≡ 0 → Short l
  whole_short = short_by (read_file_at 1024 200 bytes) (file_fine 1024 200 bytes small) tells

  -- every part of the promise, for what reading the file comes to
  refused_reads : (n q : ℕ) (F : Field) → refused_at n q F ≡ read_file_at 1024 200 bytes → (n ≡ 20) ⊎ (n ≡ 21)
      → told (loading l index' count' area' con') ≡ told_by index count area con (refused_at n q F) → Reads bytes index count area con (reading_in l) index' count' area' con'
  unfolding told_by reading_in held field_by reading_by when◌then◌else◌
  refused_reads n q F p f e =
      let t = told_no l index' count' area' con' n (capped q) _ _ _ _ e in
      let r : refused n ≡ read_file bytes = ap reading_by p ∙ place-left_out bytes in
      ⊎_elim
      (λ a.
      let m : l.refusal ≡ 21 → ⊥ = λ b. omega (arith, t.1) in
      rw (ne_eqb l.refusal 0 t.0, ne_eqb l.refusal 21 m)
      (record { same = rw a at r; few = tt; indices = rw (← p) t.3; counts = rw (← p) t.4; areas = rw (← p) t.5; cons = rw (← p) t.6 }))
      (λ a.
      let m : l.refusal ≡ 21 = t.1 ∙ a in
      rw (ne_eqb l.refusal 0 t.0, eq-eqb l.refusal 21 m)
      (record { same = rw a at r; few = tt; indices = rw (← p) t.3; counts = rw (← p) t.4; areas = rw (← p) t.5; cons = rw (← p) t.6 }))
      f

  -- the field that the lists hold is the field
  level_is : (L : Level) → Measured 1024 200 L → (w h n : ℕ) → w ≡ L.field.w → h ≡ L.field.h → n ≡ length L.field.area
      → first w h (w * h) n (over L.field.index index) (over L.field.count count) (over L.field.area area) (over L.field.con con) ≡ L.field
  level_is L f w h n e g k =
      let i : w * h ≡ length L.field.index = rw (e, g) (sym f.indices) in
      let c : w * h ≡ length L.field.count = rw (e, g) (sym f.counts) in
      let o : 4 * n ≡ length L.field.con = rw k (sym f.cons) in
      rw (take-over L.field.index index (w * h) i, take-over L.field.count count (w * h) c, take-over L.field.area area n k, take-over L.field.con con (4 * n) o, e, g) refl

  loaded_reads : (L : Level) → describes L ≡ read_file_at 1024 200 bytes → Measured 1024 200 L → told (loading l index' count' area' con') ≡ told_by index count area con (describes L)
      → Reads bytes index count area con (reading_in l) index' count' area' con'
  unfolding told_by reading_in held field_by reading_by when◌then◌else◌
  loaded_reads L p f e =
      let t = told_yes l index' count' area' con' _ _ _ _ _ _ _ _ e in
      let r : described L ≡ read_file bytes = ap reading_by p ∙ place-left_out bytes in
      let v : first l.w l.h (l.w * l.h) l.spans index' count' area' con' ≡ L.field = rw (t.5, t.6, t.7, t.8) (level_is L f l.w l.h l.spans t.1 t.2 t.4) in
      let u : ◌≡◌ {A = Level} (record { field = first l.w l.h (l.w * l.h) l.spans index' count' area' con'; sizes = sizes_of (header l) }) L = rw (v, t.3) refl in
      let few : (l.w * l.h ≤ 1024) × (l.spans ≤ 200) = rw (t.1, t.2, t.4) (f.cells, f.spans) in
      rw (eq-eqb l.refusal 0 t.0)
      (record { same = ap described u ∙ r; few = few; indices = rw (← p) t.5; counts = rw (← p) t.6; areas = rw (← p) t.7; cons = rw (← p) t.8 })

  reads_by : (p : Placed) → p ≡ read_file_at 1024 200 bytes → Fine 1024 200 p → told (loading l index' count' area' con') ≡ told_by index count area con p
      → Reads bytes index count area con (reading_in l) index' count' area' con'
  unfolding Fine
  reads_by (refused_at n q F) p f e = refused_reads n q F p f e
  reads_by (describes L) p f e = loaded_reads L p f e

  pub whole_reads : (r : Result (Header × ℕ) FileRefusal) → r ≡ reading_in l → Reads bytes index count area con r index' count' area' con'
  whole_reads r e = rw e (reads_by (read_file_at 1024 200 bytes) refl (file_fine 1024 200 bytes small) tells)

-- ---------------------------------------------------------------- a described field

-- it is no larger than a file may have it, by the reading that it is of
pub few_of : (x : Result (Header × ℕ) FileRefusal) → Few x → (p : Header × ℕ) → x ≡ Ok p → Few (Ok p)
few_of x f p u = subst (λ (v : Result (Header × ℕ) FileRefusal). Few v) u f
