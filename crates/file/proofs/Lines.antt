-- The lines that are written piece by piece: each piece has room where the line has, and the pieces are the rule's line.
-- A line is at most 51 bytes, a cell at most 2 and 6 for each of its spans, so a listing fits in 4,096.
use Prim.Native.Nat.{ℕ, zero, suc, ◌+◌, ◌/◌, ◌%◌, ◌≤◌}
use native.Mathlib.Omega.{arith}
use mathlib.Core.Path.{◌≡◌, refl, sym, ap, subst, ◌∙◌}
use mathlib.Core.List.{List, [], ◌∷◌, ◌++◌, append_assoc}
use lib.ListN.{length, take, drop, length-append, take-append-drop}
use lib.Dec.{ltb}
use Rattle.rules.specs.Base.{when◌then◌else◌, tab}
use Rattle.rules.specs.Listing.{digits, decimal, text, refused_line}
use Rattle.laws.proofs.Basics.{if-ind}
use Rattle.file.specs.Written.{Room, Wrote}
use Rattle.file.specs.Shown.{named, heading, Prints}
use Rattle.file.proofs.Writing.{written-take, written-drop, room_first, room_then, wrote_then}

-- what is written from the first byte on
pub prints : (out t : List ℕ) (r : ℕ) (out' : List ℕ) → Room out 0 t → Wrote out 0 t r out' → Prints out t r out'
prints out t r out' h g = record {
  ends = omega (arith, g.ends);
  bytes = rw (g.ends, g.bytes) (written-take out 0 t h.fits);
  rest = rw (g.ends, g.bytes) (written-drop out 0 t h.fits);
}

-- two results that satisfy the promise of `write_refused` or of `write_listing` coincide
pub one-print : (out t : List ℕ) (r s : ℕ) (out₁ out₂ : List ℕ) → Prints out t r out₁ → Prints out t s out₂ → (r ≡ s) × (out₁ ≡ out₂)
one-print out t r s out₁ out₂ p q =
    let e : r ≡ s = p.ends ∙ sym q.ends in
    let a : take r out₁ ≡ take r out₂ = p.bytes ∙ rw e (sym q.bytes) in
    let b : drop r out₁ ≡ drop r out₂ = p.rest ∙ rw e (sym q.rest) in
    (e, sym (take-append-drop r out₁) ∙ ap (λ (l : List ℕ). l ++ drop r out₁) a ∙ ap (λ (l : List ℕ). take r out₂ ++ l) b ∙ take-append-drop r out₂)

-- ---------------------------------------------------------------- the names, as the code has them

pub name_refused : ◌≡◌ {A = List ℕ} (114 ∷ 101 ∷ 102 ∷ 117 ∷ 115 ∷ 101 ∷ 100 ∷ 32 ∷ []) (text "refused ")
unfolding text tab
name_refused = refl

pub name_distance : ◌≡◌ {A = List ℕ} (109 ∷ 97 ∷ 120 ∷ 95 ∷ 100 ∷ 105 ∷ 115 ∷ 116 ∷ 97 ∷ 110 ∷ 99 ∷ 101 ∷ 32 ∷ []) (text "max_distance ")
unfolding text tab
name_distance = refl

pub name_region : ◌≡◌ {A = List ℕ} (32 ∷ 109 ∷ 97 ∷ 120 ∷ 95 ∷ 114 ∷ 101 ∷ 103 ∷ 105 ∷ 111 ∷ 110 ∷ 32 ∷ []) (text " max_region ")
unfolding text tab
name_region = refl

pub name_overlaps : ◌≡◌ {A = List ℕ} (32 ∷ 111 ∷ 118 ∷ 101 ∷ 114 ∷ 108 ∷ 97 ∷ 112 ∷ 115 ∷ 32 ∷ []) (text " overlaps ")
unfolding text tab
name_overlaps = refl

pub name_cut : ◌≡◌ {A = List ℕ} (32 ∷ 99 ∷ 117 ∷ 116 ∷ 32 ∷ []) (text " cut ")
unfolding text tab
name_cut = refl

-- ---------------------------------------------------------------- lengths

pub digits-length : (k v : ℕ) → length (digits k v) ≤ k
unfolding digits
digits-length zero v = omega arith
digits-length (suc k) v =
    let m : length (when ltb v 10 then [] else digits k (v / 10)) ≤ k = if-ind (λ (l : List ℕ). length l ≤ k) (ltb v 10) (λ _. omega arith) (λ _. digits-length k (v / 10)) in
    omega (arith, length-append (when ltb v 10 then [] else digits k (v / 10)) ((48 + v % 10) ∷ []))

named-length : (name : List ℕ) (v : ℕ) → length (named name v) ≤ length name + 5
unfolding named
named-length name v = omega (arith, length-append name (decimal v), digits-length 5 v)

-- ---------------------------------------------------------------- `refused` and its number

module _ (out : List ℕ) (n : ℕ) (long : 4096 ≤ length out) (name : List ℕ) (e : name ≡ text "refused ") where
  line : refused_line n ≡ named name n ++ (10 ∷ [])
  unfolding refused_line named
  line = rw e (sym (append_assoc (text "refused ") (decimal n) (10 ∷ [])))

  eight : length name ≡ 8
  unfolding text tab
  eight = rw e refl

  line_room : Room out 0 (named name n ++ (10 ∷ []))
  line_room = record { fits = omega (arith, length-append (named name n) (10 ∷ []), named-length name n, eight) }

  pub refused_room : Room out 0 (named name n)
  refused_room = room_first out 0 (named name n) (10 ∷ []) line_room

  module _ (r : ℕ) (out' : List ℕ) (g : Wrote out 0 (named name n) r out') where
    pub refused_end : Room out' r (10 ∷ [])
    refused_end = room_then out 0 (named name n) (10 ∷ []) line_room r out' g

    pub refused_done : (s : ℕ) (out'' : List ℕ) → Wrote out' r (10 ∷ []) s out'' → Prints out (refused_line n) s out''
    refused_done s out'' k =
        subst (λ (l : List ℕ). Prints out l s out'') (sym line) (prints out (named name n ++ (10 ∷ [])) s out'' line_room (wrote_then out 0 (named name n) (10 ∷ []) line_room r out' g s out'' k))

-- ---------------------------------------------------------------- the first line

pub heading-length : (most region over cut : ℕ) → length (heading most region over cut) ≤ 61
unfolding heading text tab
heading-length most region over cut =
    let a = named (text "max_distance ") most in
    let b = named (text " max_region ") region in
    let c = named (text " overlaps ") over in
    let d = named (text " cut ") cut in
    omega (
      arith,
      length-append a (b ++ (c ++ (d ++ (10 ∷ [])))),
      length-append b (c ++ (d ++ (10 ∷ []))),
      length-append c (d ++ (10 ∷ [])),
      length-append d (10 ∷ []),
      named-length (text "max_distance ") most,
      named-length (text " max_region ") region,
      named-length (text " overlaps ") over,
      named-length (text " cut ") cut,
    )

module _ (out : List ℕ) (most region over cut : ℕ) (h : Room out 0 (heading most region over cut)) (n₁ n₂ n₃ n₄ : List ℕ)
    (e₁ : n₁ ≡ text "max_distance ") (e₂ : n₂ ≡ text " max_region ") (e₃ : n₃ ≡ text " overlaps ") (e₄ : n₄ ≡ text " cut ") where
  -- the pieces from the third and from the fourth on
  abbrev last₃ : List ℕ
  last₃ = named n₄ cut ++ (10 ∷ [])

  abbrev last₂ : List ℕ
  last₂ = named n₃ over ++ last₃

  pieces : heading most region over cut ≡ named n₁ most ++ (named n₂ region ++ last₂)
  unfolding heading
  pieces = rw (e₁, e₂, e₃, e₄) refl

  all : Room out 0 (named n₁ most ++ (named n₂ region ++ last₂))
  all = subst (λ (l : List ℕ). Room out 0 l) pieces h

  pub heading_room : Room out 0 (named n₁ most)
  heading_room = room_first out 0 (named n₁ most) _ all

  module _ (a : ℕ) (out₁ : List ℕ) (w₁ : Wrote out 0 (named n₁ most) a out₁) where
    left₁ : Room out₁ a (named n₂ region ++ last₂)
    left₁ = room_then out 0 (named n₁ most) _ all a out₁ w₁

    pub heading_room₁ : Room out₁ a (named n₂ region)
    heading_room₁ = room_first out₁ a (named n₂ region) _ left₁

    module _ (b : ℕ) (out₂ : List ℕ) (w₂ : Wrote out₁ a (named n₂ region) b out₂) where
      left₂ : Room out₂ b last₂
      left₂ = room_then out₁ a (named n₂ region) _ left₁ b out₂ w₂

      pub heading_room₂ : Room out₂ b (named n₃ over)
      heading_room₂ = room_first out₂ b (named n₃ over) _ left₂

      module _ (c : ℕ) (out₃ : List ℕ) (w₃ : Wrote out₂ b (named n₃ over) c out₃) where
        left₃ : Room out₃ c last₃
        left₃ = room_then out₂ b (named n₃ over) _ left₂ c out₃ w₃

        pub heading_room₃ : Room out₃ c (named n₄ cut)
        heading_room₃ = room_first out₃ c (named n₄ cut) _ left₃

        module _ (d : ℕ) (out₄ : List ℕ) (w₄ : Wrote out₃ c (named n₄ cut) d out₄) where
          pub heading_room₄ : Room out₄ d (10 ∷ [])
          heading_room₄ = room_then out₃ c (named n₄ cut) _ left₃ d out₄ w₄

          pub heading_done : (s : ℕ) (out₅ : List ℕ) → Wrote out₄ d (10 ∷ []) s out₅ → Wrote out 0 (heading most region over cut) s out₅
          heading_done s out₅ w₅ =
              let x = wrote_then out₃ c (named n₄ cut) (10 ∷ []) left₃ d out₄ w₄ s out₅ w₅ in
              let y = wrote_then out₂ b (named n₃ over) last₃ left₂ c out₃ w₃ s out₅ x in
              let z = wrote_then out₁ a (named n₂ region) last₂ left₁ b out₂ w₂ s out₅ y in
              subst (λ (l : List ℕ). Wrote out 0 l s out₅) (sym pieces) (wrote_then out 0 (named n₁ most) (named n₂ region ++ last₂) all a out₁ w₁ s out₅ z)
