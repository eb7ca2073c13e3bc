-- Half of the connections tell of all. Where each in direction d is answered, those who answer are as many as those who ask, since an answer names one span.
-- So if no more spans have a connection the other way, each of these is an answer, and is itself answered by the connection that asked.
use Prim.Native.Nat.{ℕ, zero, suc, ◌+◌, ◌*◌, ◌-◌, ◌/◌, ◌%◌, ◌≤◌, ◌<◌}
use native.Mathlib.Omega.{arith}
use native.Mathlib.Nat.{mod-lt, div-add-mod', div-lt_iff_lt-mul, mul_comm, suc-mul}
use native.Mathlib.Numerals.{add-one}
use native.Mathlib.Decide.{ℕ_discrete}
use lib.Arith.{digits_div, digits_mod}
use mathlib.Core.Path.{◌≡◌, refl, sym, ap, ◌∙◌}
use mathlib.Core.Bool.{Bool, true, false, not, true≢false}
use lib.ListN.{length, get_or}
use lib.Dec.{eqb}
use borrow.Author.Tests.{eq-eqb, ne_eqb, eqb-true, eqb-false, lt-ltb, ltb-true, leb-false, lt-leb, not-true, not-false}
use Rattle.rules.specs.Base.{◌and◌, ◌or◌, when◌then◌else◌, every}
use Rattle.rules.specs.Field.{Field, spans, cell_of, cell_to, leaves, con_of, near}
use Rattle.rules.specs.Refusals.{good_con, good_back}
use Rattle.rules.specs.Mend.{stays}
use Rattle.laws.proofs.Basics.{both, either, and_no, and_both, same_test, if-ind, every-at, every_all}
use Rattle.laws.proofs.Cells.{cell_of_in, near_none, near_is}
use Rattle.laws.proofs.Passes.{wide_pos}
use Rattle.field.specs.Lent.{Stands, Celled}
use Rattle.checker.specs.Links.{reach_at, back_at, half_at, how_many, links_in}
use Rattle.field.proofs.Loops.{and_yes, every_ext, every-and}
use Rattle.field.proofs.Places.{layer_stands, cell_is, sum_is, stands_in}
use Rattle.checker.proofs.Answered.{there_back}
use Rattle.checker.proofs.Counted.{many_ext, has_link, low_links, high_links}

-- ---------------------------------------------------------------- how many are taken to how many

-- q, but not of y
unfoldable without : (ℕ → Bool) → ℕ → ℕ → Bool
without q y z = q z and not (eqb z y)

without-same : (q : ℕ → Bool) (y : ℕ) → without q y y ≡ false
unfolding without
without-same q y = rw (eq-eqb y y refl) (and_no (q y))

without_other : (q : ℕ → Bool) (y z : ℕ) → (z ≡ y → ⊥) → without q y z ≡ q z
unfolding without
without_other q y z n = rw (ne_eqb z y n) (and_yes (q z))

-- one fewer
many-without : (m : ℕ) (q : ℕ → Bool) (y : ℕ) → y < m → q y ≡ true → how_many m q ≡ suc (how_many m (without q y))
unfolding how_many when◌then◌else◌
many-without zero q y h e = absurd (omega arith)
many-without (suc m) q y h e =
    elim (ℕ_discrete m y) [
      | yes g ↦ let f : q m ≡ true = rw g e in let k : without q y m ≡ false = rw g (without-same q y) in
          rw (f, k) (ap suc (many_ext m q (without q y) (λ z l. sym (without_other q y z (λ u. omega arith)))))
      | no g ↦ rw (without_other q y m g) (more (q m) (many-without m q y (omega arith) e))
    ]
  where
    more : (b : Bool) → how_many m q ≡ suc (how_many m (without q y))
        → (when b then suc (how_many m q) else how_many m q) ≡ suc (when b then suc (how_many m (without q y)) else how_many m (without q y))
    more true r = ap suc r
    more false r = r

-- f takes each that p holds of to one that q holds of, and no two to the same
record Takes (n m : ℕ) (p q : ℕ → Bool) (f : ℕ → ℕ) : Type 0 where
  into : (x : ℕ) → x < n → p x ≡ true → f x < m
  holds : (x : ℕ) → x < n → p x ≡ true → q (f x) ≡ true
  apart : (x y : ℕ) → x < n → y < n → p x ≡ true → p y ≡ true → f x ≡ f y → x ≡ y

many-takes : (n m : ℕ) (p q : ℕ → Bool) (f : ℕ → ℕ) → Takes n m p q f → how_many n p ≤ how_many m q
unfolding how_many
many-takes zero m p q f t = omega arith
many-takes (suc n) m p q f t =
    if-ind (λ k. k ≤ how_many m q) (p n)
    (λ e.
    let r = many-takes n m p (without q (f n)) f
    (record {
      into = λ x h g. t.into x (omega arith) g;
      holds = λ x h g. without_other q (f n) (f x) (λ u. absurd (omega (arith, t.apart x n (omega arith) (omega arith) g e u))) ∙ t.holds x (omega arith) g;
      apart = λ x y h k. t.apart x y (omega arith) (omega arith);
    }) in
    omega (arith, many-without m q (f n) (t.into n (omega arith) e) (t.holds n (omega arith) e)))
    (λ e.
    many-takes n m p q f
    (record { into = λ x h. t.into x (omega arith); holds = λ x h. t.holds x (omega arith); apart = λ x y h k. t.apart x y (omega arith) (omega arith) }))

-- where as many are taken to, each is
many_onto : (n m : ℕ) (p q : ℕ → Bool) (f : ℕ → ℕ) → Takes n m p q f → how_many m q ≤ how_many n p
    → (y : ℕ) → y < m → q y ≡ true → ((x : ℕ) → x < n → p x ≡ true → f x ≡ y → ⊥) → ⊥
many_onto n m p q f t l y h e g =
    let r = many-takes n m p (without q y) f
    (record { into = t.into; holds = λ x i k. without_other q y (f x) (g x i k) ∙ t.holds x i k; apart = t.apart }) in
    omega (arith, many-without m q y h e)

-- ---------------------------------------------------------------- a connection and its answer

-- how many spans have a connection in direction d
abbrev ways : Field → ℕ → ℕ
ways F d = how_many (spans F) (has_link F d)

-- span s has a connection in direction d, which is answered
module _ (F : Field) (ok : Celled F) (s d : ℕ) (h : s < spans F) (l : d < 4) (e : has_link F d s ≡ true) (g : stays F s d ≡ true) where
  some_con : con_of F s d ≡ 255 → ⊥
  unfolding has_link
  some_con = eqb-false _ _ (not-true _ e)

  leads_in : (leaves F.w F.h (cell_of F.count s) d ≡ false) × (con_of F s d < get_or F.count (cell_to F.w (cell_of F.count s) d) 0)
  unfolding stays good_con
  leads_in =
      either _ _ _ (both _ _ g).0
      (λ z. absurd (some_con (eqb-true _ _ z)))
      (λ z. let b = both _ _ z in (not-true _ b.0, ltb-true _ _ b.1))

  -- to a span of the cell across
  pub stands_there : Stands F (cell_to F.w (cell_of F.count s) d) (near F s d)
  stands_there = rw (near_is F s d some_con) (layer_stands F ok (cell_to F.w (cell_of F.count s) d) (con_of F s d) leads_in.1)

  -- which leads back
  pub leads_back : near F (near F s d) ((d + 2) % 4) ≡ s
  unfolding stays good_back
  leads_back = either _ _ _ (both _ _ g).1 (λ z. absurd (some_con (eqb-true _ _ z))) (λ z. eqb-true _ _ z)

  pub answer_some : con_of F (near F s d) ((d + 2) % 4) ≡ 255 → ⊥
  answer_some z = omega (arith, near_none F (near F s d) ((d + 2) % 4) z, leads_back, ok.few)

  answers : has_link F ((d + 2) % 4) (near F s d) ≡ true
  unfolding has_link
  answers = rw (ne_eqb _ _ answer_some)

-- each connection in direction d is answered
module _ (F : Field) (ok : Celled F) (d : ℕ) (l : d < 4) (a : every (spans F) (λ s. stays F s d) ≡ true) where
  asks : Takes (spans F) (spans F) (has_link F d) (has_link F ((d + 2) % 4)) (λ s. near F s d)
  asks =
      record {
        into = λ s h e. (stands_there F ok s d h l e (every-at _ _ a s h)).span;
        holds = λ s h e. answers F ok s d h l e (every-at _ _ a s h);
        apart = λ s t h g e f z.
            sym (leads_back F ok s d h l e (every-at _ _ a s h)) ∙ ap (λ (x : ℕ). near F x ((d + 2) % 4)) z ∙ leads_back F ok t d g l f (every-at _ _ a t g);
      }

  asked_least : ways F d ≤ ways F ((d + 2) % 4)
  asked_least = many-takes _ _ _ _ _ asks

-- ---------------------------------------------------------------- an answer is answered

-- the way back does not leave the grid
back_in : (w h c d : ℕ) → c < w * h → d < 4 → leaves w h c d ≡ false → leaves w h (cell_to w c d) ((d + 2) % 4) ≡ false
unfolding leaves cell_to
back_in w h c zero g l e =
    let p = mod-lt c (wide_pos w h c g) in
    let f : (c % w ≡ 0) → ⊥ = eqb-false _ _ e in
    let q : c - 1 ≡ c / w * w + (c % w - 1) = omega (arith, div-add-mod' c w) in
    let r : (c - 1) % w ≡ c % w - 1 = ap (λ (x : ℕ). x % w) q ∙ digits_mod (c / w) (omega arith) in
    lt-leb w ((c - 1) % w + 1) (omega arith)
back_in w h c (suc zero) g l e =
    let p = mod-lt c (wide_pos w h c g) in
    let y : (c / w + 1) * w ≡ c / w * w + w = rw add-one (suc-mul (c / w) w) in
    let q : c + w ≡ (c / w + 1) * w + c % w = omega (arith, div-add-mod' c w) in
    let r : (c + w) / w ≡ c / w + 1 = ap (λ (x : ℕ). x / w) q ∙ digits_div (c / w + 1) p in
    ne_eqb ((c + w) / w) 0 (λ z. omega arith)
back_in w h c (suc (suc zero)) g l e =
    let f : c % w + 1 < w = leb-false _ _ e in
    let q : c + 1 ≡ c / w * w + (c % w + 1) = omega (arith, div-add-mod' c w) in
    let r : (c + 1) % w ≡ c % w + 1 = ap (λ (x : ℕ). x % w) q ∙ digits_mod (c / w) f in
    ne_eqb ((c + 1) % w) 0 (λ z. omega arith)
back_in w h c (suc (suc (suc zero))) g l e =
    let p = mod-lt c (wide_pos w h c g) in
    let f : (c / w ≡ 0) → ⊥ = eqb-false _ _ e in
    let k : suc (c / w - 1) ≡ c / w = omega arith in
    let y : c / w * w ≡ (c / w - 1) * w + w = rw k at (suc-mul (c / w - 1) w) in
    let q : c - w ≡ (c / w - 1) * w + c % w = omega (arith, div-add-mod' c w) in
    let r : (c - w) / w ≡ c / w - 1 = ap (λ (x : ℕ). x / w) q ∙ digits_div (c / w - 1) p in
    let y : c / w < h = (div-lt_iff_lt-mul (wide_pos w h c g)).1 (rw (mul_comm h w) g) in
    lt-leb h ((c - w) / w + 1) (omega arith)
back_in w h c (suc (suc (suc (suc d)))) g l e = absurd (omega arith)

-- a span is a layer of its cell
layer_of_lem : (F : Field) → Celled F → (s k : ℕ) → s < spans F → get_or F.index (cell_of F.count s) 0 + k ≡ s → k < get_or F.count (cell_of F.count s) 0
layer_of_lem F ok s k h e =
    let r = cell_of_in F.count s (rw (sum_is F ok) h) in
    omega (arith, r.0, r.1, (cell_is F ok (cell_of F.count s)).starts (omega arith))

-- so that the answer is good: it stays in the grid, names a layer, and is answered
module _ (F : Field) (ok : Celled F) (s d : ℕ) (h : s < spans F) (l : d < 4) (e : has_link F d s ≡ true) (g : stays F s d ≡ true) where
  out_in : leaves F.w F.h (cell_of F.count s) d ≡ false
  out_in = (leads_in F ok s d h l e g).0

  -- the cell that it stands in, seen from there
  home : cell_to F.w (cell_of F.count (near F s d)) ((d + 2) % 4) ≡ cell_of F.count s
  home = rw (stands_there F ok s d h l e g).cell (there_back F.w F.h (cell_of F.count s) d out_in l)

  answer_in : leaves F.w F.h (cell_of F.count (near F s d)) ((d + 2) % 4) ≡ false
  answer_in =
      rw (stands_there F ok s d h l e g).cell
      (back_in F.w F.h (cell_of F.count s) d (stands_in F ok (cell_of F.count s) s (record { span = h; cell = refl })) l out_in)

  answer_layer : con_of F (near F s d) ((d + 2) % 4) < get_or F.count (cell_of F.count s) 0
  answer_layer =
      layer_of_lem F ok s (con_of F (near F s d) ((d + 2) % 4)) h
      (rw (← home) (sym (near_is F (near F s d) ((d + 2) % 4) (answer_some F ok s d h l e g)) ∙ leads_back F ok s d h l e g))

  pub answer_good : stays F (near F s d) ((d + 2) % 4) ≡ true
  unfolding stays good_con good_back ◌or◌ ◌and◌
  answer_good =
      rw (ne_eqb _ _ (answer_some F ok s d h l e g), answer_in, home, lt-ltb _ _ answer_layer, leads_back F ok s d h l e g)
      (eq-eqb _ _ (ap (near F s) (turn-back d l)))
    where
      turn-back : (d : ℕ) → d < 4 → ((d + 2) % 4 + 2) % 4 ≡ d
      turn-back zero k = refl
      turn-back (suc zero) k = refl
      turn-back (suc (suc zero)) k = refl
      turn-back (suc (suc (suc zero))) k = refl
      turn-back (suc (suc (suc (suc d)))) k = absurd (omega arith)

-- a span with no connection passes
none-good : (F : Field) (s d : ℕ) → has_link F d s ≡ false → stays F s d ≡ true
unfolding has_link stays good_con good_back ◌or◌ ◌and◌
none-good F s d e = let z : eqb (con_of F s d) 255 ≡ true = not-false _ e in rw z

-- where no more than those have a connection the other way, each of these is an answer
module _ (F : Field) (ok : Celled F) (d : ℕ) (l : d < 4) (a : every (spans F) (λ s. stays F s d) ≡ true)
    (m : ways F ((d + 2) % 4) ≤ ways F d) where
  half_fits : every (spans F) (λ s. stays F s ((d + 2) % 4)) ≡ true
  half_fits = every_all _ _ (λ t h. good t h _ _ refl refl)
    where
      good : (t : ℕ) → t < spans F → (b c : Bool) → has_link F ((d + 2) % 4) t ≡ b → stays F t ((d + 2) % 4) ≡ c → c ≡ true
      good t h b true e f = refl
      good t h false false e f = absurd (true≢false (sym (none-good F t ((d + 2) % 4) e) ∙ f))
      good t h true false e f =
          absurd (many_onto _ _ _ _ _ (asks F ok d l a) m t h e
          (λ s k g z. true≢false (sym (answer_good F ok s d k l g (every-at _ _ a s k)) ∙ ap (λ (x : ℕ). stays F x ((d + 2) % 4)) z ∙ f)))

-- ---------------------------------------------------------------- the four directions by two of them and the numbers

-- both refusals of one span
unfoldable link_at : Field → ℕ → Bool
link_at F s = every 4 (stays F s)

module _ (F : Field) (ok : Celled F) where
  -- one direction of what holds of all
  one_way : (d : ℕ) → d < 4 → every (spans F) (link_at F) ≡ true → every (spans F) (λ s. stays F s d) ≡ true
  unfolding link_at
  one_way d l a = every_all _ _ (λ s h. every-at 4 (stays F s) (every-at _ _ a s h) d l)

  halves_of : every (spans F) (link_at F) ≡ true → every (spans F) (half_at F) ≡ true
  unfolding half_at
  halves_of a =
      every_all _ _ (λ s h. and_both _ _ (every-at _ _ (one_way 0 (omega arith) a) s h) (every-at _ _ (one_way 1 (omega arith) a) s h))

  four_ways : every (spans F) (λ s. stays F s 0) ≡ true → every (spans F) (λ s. stays F s 1) ≡ true
      → every (spans F) (λ s. stays F s 2) ≡ true → every (spans F) (λ s. stays F s 3) ≡ true → every (spans F) (link_at F) ≡ true
  unfolding link_at every ◌and◌
  four_ways a b c e =
      every_all (spans F) (link_at F) (λ s h. rw (every-at _ _ a s h, every-at _ _ b s h, every-at _ _ c s h) (every-at _ _ e s h))

  module _ (a : every (spans F) (half_at F) ≡ true) where
    half_0 : every (spans F) (λ s. stays F s 0) ≡ true
    unfolding half_at
    half_0 = every_all _ _ (λ s h. (both _ _ (every-at _ _ a s h)).0)

    half_1 : every (spans F) (λ s. stays F s 1) ≡ true
    unfolding half_at
    half_1 = every_all _ _ (λ s h. (both _ _ (every-at _ _ a s h)).1)

    least_0 : ways F 0 ≤ ways F 2
    least_0 = asked_least F ok 0 (omega arith) half_0

    least_1 : ways F 1 ≤ ways F 3
    least_1 = asked_least F ok 1 (omega arith) half_1

    fitting : ways F 0 + ways F 1 ≡ ways F 2 + ways F 3 → every (spans F) (link_at F) ≡ true
    fitting e =
        let u : ways F 2 ≤ ways F 0 = omega (arith, least_0, least_1) in
        let v : ways F 3 ≤ ways F 1 = omega (arith, least_0, least_1) in
        four_ways half_0 half_1 (half_fits F ok 0 (omega arith) half_0 u) (half_fits F ok 1 (omega arith) half_1 v)

    fitted : every (spans F) (link_at F) ≡ true → ways F 0 + ways F 1 ≡ ways F 2 + ways F 3
    fitted e =
        let u : ways F 2 ≤ ways F 0 = asked_least F ok 2 (omega arith) (one_way 2 (omega arith) e) in
        let v : ways F 3 ≤ ways F 1 = asked_least F ok 3 (omega arith) (one_way 3 (omega arith) e) in
        omega (arith, least_0, least_1)

    same_links : eqb (ways F 0 + ways F 1) (ways F 2 + ways F 3) ≡ every (spans F) (link_at F)
    same_links = same_test _ _ (λ e. fitting (eqb-true _ _ e)) (λ e. eq-eqb _ _ (fitted e))

  -- both refusals of every span
  all_links : every (spans F) (link_at F) ≡ every (spans F) (reach_at F) and every (spans F) (back_at F)
  unfolding link_at stays reach_at back_at
  all_links =
      every_ext (spans F) (link_at F) (λ s. reach_at F s and back_at F s) (λ s _. every-and 4 (good_con F s) (good_back F s))
      ∙ every-and (spans F) (reach_at F) (back_at F)

  -- the walk of the half fails, or passes and the numbers decide
  module _ (r : Bool) (e : r ≡ every (spans F) (half_at F)) where
    pub halves_halt : r ≡ false → r ≡ every (spans F) (reach_at F) and every (spans F) (back_at F)
    halves_halt z = z ∙ rw (← all_links) (sym (not_all (every (spans F) (link_at F)) refl))
      where
        not_all : (b : Bool) → every (spans F) (link_at F) ≡ b → b ≡ false
        not_all true q = absurd (true≢false (sym (halves_of q) ∙ sym e ∙ z))
        not_all false q = refl

    pub halves-end : (a b : ℕ) → r ≡ true → a ≡ links_in F.con 2 0 (length F.con) → b ≡ links_in F.con 0 0 (length F.con)
        → eqb a b ≡ every (spans F) (reach_at F) and every (spans F) (back_at F)
    halves-end a b z p q = rw (p, q, low_links F ok.linked, high_links F ok.linked) (same_links (sym e ∙ z)) ∙ all_links
