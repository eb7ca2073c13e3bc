-- Rounds by their frontier: an entry that found nothing finds something in the next round only if a neighbour of it changed, so the next changes stand
-- beside the last (`still_nothing`). The order of changes does not matter (`written-set`), and the stack follows from the ids (`round-fresh`). Assumes nothing.
use Prim.Native.Nat.{ℕ, zero, suc, ◌<◌}
use native.Mathlib.Omega.{arith}
use native.Mathlib.Decide.{ℕ_discrete}
use mathlib.Core.Path.{◌≡◌, refl, sym, ap, ◌∙◌}
use mathlib.Core.Bool.{Bool, true, false, true≢false, false≢true}
use mathlib.Core.Logic.{⊎_elim, ◌⊎◌, inl, inr}
use mathlib.Core.List.{List, [], ◌∷◌, map}
use lib.ListN.{length, get_or, set, length-set}
use lib.Seq.{get_or-set_same, get_or-set_other, ext_get_or}
use lib.Dec.{eqb}
use borrow.Author.Tests.{eqb-true, eq-eqb, ne_eqb}
use Rattle.rules.specs.Base.{◌and◌, ◌or◌, when◌then◌else◌, upto, any, keep}
use Rattle.rules.specs.Field.{none}
use Rattle.rules.specs.Net.{Net, near}
use Rattle.rules.specs.Growth.{Marks, put, Taken, look, takes, finds, exceeds, strays, wrote, written, Spread, round, rounds, rounds_stray}
use Rattle.laws.proofs.Basics.{both, neither, either, and_both, or_left, or_right, same_test, if-ind, All, All_both}
use Rattle.space.proofs.Laws.{cases}
use Rattle.expand.specs.Layout.{left, fresh, Unheld, Ok}
use Rattle.expand.proofs.Halves.{finds_used, left_yes, left_no, wrote_yes}
use Rattle.expand.proofs.Sources.{round_is}
use Rattle.laws.proofs.Suffice.{finds_id, written_keeps}

-- ---------------------------------------------------------------- membership

-- x stands in the list
abbrev pub has : ℕ → List ℕ → Bool
has x l = any (eqb x) l

pub has_cons : (x e : ℕ) (l : List ℕ) → has x (e ∷ l) ≡ eqb x e or has x l
unfolding any
has_cons x e l = refl

pub has_nil : (x : ℕ) → has x [] ≡ true → ⊥
unfolding any
has_nil x z = false≢true z

pub has-head : (x : ℕ) (l : List ℕ) → has x (x ∷ l) ≡ true
has-head x l = has_cons x x l ∙ or_left (eqb x x) (has x l) (eq-eqb x x refl)

pub has-tail : (x e : ℕ) (l : List ℕ) → has x l ≡ true → has x (e ∷ l) ≡ true
has-tail x e l h = has_cons x e l ∙ or_right (eqb x e) (has x l) h

pub has_split : (P : Type 0) (x e : ℕ) (l : List ℕ) → has x (e ∷ l) ≡ true → (x ≡ e → P) → (has x l ≡ true → P) → P
has_split P x e l h f g = either P (eqb x e) (has x l) (sym (has_cons x e l) ∙ h) (λ z. f (eqb-true x e z)) g

keep_go : (b : Bool) (x e : ℕ) (l : List ℕ) → any (eqb x) (when b then e ∷ l else l) ≡ (b and eqb x e) or any (eqb x) l
unfolding any ◌or◌ ◌and◌ when◌then◌else◌
keep_go true x e l = refl
keep_go false x e l = refl

keep_cons : (p : ℕ → Bool) (e : ℕ) (es : List ℕ) (x : ℕ) → has x (keep p (e ∷ es)) ≡ (p e and eqb x e) or has x (keep p es)
unfolding keep
keep_cons p e es x = keep_go (p e) x e (keep p es)

pub keep_in : (p : ℕ → Bool) (x : ℕ) (l : List ℕ) → has x l ≡ true → p x ≡ true → has x (keep p l) ≡ true
keep_in p x [] h q = absurd (has_nil x h)
keep_in p x (e ∷ l) h q =
    let r = keep_in p x l in
    keep_cons p e l x
    ∙ has_split ((p e and eqb x e) or has x (keep p l) ≡ true) x e l h
    (λ z. or_left (p e and eqb x e) (has x (keep p l)) (and_both (p e) (eqb x e) (ap p (sym z) ∙ q) (eq-eqb x e z)))
    (λ z. or_right (p e and eqb x e) (has x (keep p l)) (r z q))

pub keep_out : (p : ℕ → Bool) (x : ℕ) (l : List ℕ) → has x (keep p l) ≡ true → (has x l ≡ true) × (p x ≡ true)
unfolding keep
keep_out p x [] h = absurd (has_nil x h)
keep_out p x (e ∷ l) h =
    let r = keep_out p x l in
    either ((has x (e ∷ l) ≡ true) × (p x ≡ true)) (p e and eqb x e) (has x (keep p l)) (sym (keep_cons p e l x) ∙ h)
    (λ z.
    let b = both (p e) (eqb x e) z in
    (has_cons x e l ∙ or_left (eqb x e) (has x l) b.1, ap p (eqb-true x e b.1) ∙ b.0))
    (λ z. (has-tail x e l (r z).0, (r z).1))

pub any_in : (p : ℕ → Bool) (x : ℕ) (l : List ℕ) → has x l ≡ true → p x ≡ true → any p l ≡ true
unfolding any
any_in p x [] h q = absurd (false≢true h)
any_in p x (e ∷ l) h q =
    let r = any_in p x l in
    either (p e or any p l ≡ true) (eqb x e) (any (eqb x) l) h
    (λ z. or_left (p e) (any p l) (ap p (sym (eqb-true x e z)) ∙ q))
    (λ z. or_right (p e) (any p l) (r z q))

pub any_out : (p : ℕ → Bool) (l : List ℕ) → ((x : ℕ) → has x l ≡ true → p x ≡ true → ⊥) → any p l ≡ false
unfolding any ◌or◌
any_out p [] h = refl
any_out p (e ∷ l) h =
    let b : p e ≡ false = ⊎_elim (λ (z : p e ≡ true). absurd (h e (has-head e l) z)) (λ (z : p e ≡ false). z) (cases (p e)) in
    rw b (any_out p l (λ x y. h x (has-tail x e l y)))

-- ---------------------------------------------------------------- an entry sees its neighbours only

-- span a is the same in both
abbrev pub Alike : Marks → Marks → ℕ → Type 0
Alike m m' a = (get_or m'.ids a 0 ≡ get_or m.ids a 0) × (get_or m'.src a 0 ≡ get_or m.src a 0)

look_local : (N : Net) (m m' : Marks) (s d : ℕ) (t : Taken) → Alike m m' (near N s d) → look N m' s d t ≡ look N m s d t
unfolding look
look_local N m m' s d t h = rw (h.0, h.1)

takes_local : (N : Net) (m m' : Marks) (s : ℕ) → ((d : ℕ) → d < 4 → Alike m m' (near N s d)) → takes N m' s ≡ takes N m s
unfolding takes upto
takes_local N m m' s h =
    rw (
      look_local N m m' s 0 _ (h 0 (omega arith)),
      look_local N m m' s 1 _ (h 1 (omega arith)),
      look_local N m m' s 2 _ (h 2 (omega arith)),
      look_local N m m' s 3 _ (h 3 (omega arith)),
    )

finds_local : (N : Net) (m m' : Marks) (s : ℕ) → ((d : ℕ) → d < 4 → Alike m m' (near N s d)) → finds N m' s ≡ finds N m s
unfolding finds
finds_local N m m' s h = rw (takes_local N m m' s h)

exceeds_local : (N : Net) (m m' : Marks) (s d : ℕ) → Alike m m' (near N s d) → exceeds N m' s d ≡ exceeds N m s d
unfolding exceeds
exceeds_local N m m' s d h = rw (h.0, h.1)

strays_local : (N : Net) (m m' : Marks) (s : ℕ) → ((d : ℕ) → d < 4 → Alike m m' (near N s d)) → strays N m' s ≡ strays N m s
unfolding strays
strays_local N m m' s h =
    rw (
      exceeds_local N m m' s 0 (h 0 (omega arith)),
      exceeds_local N m m' s 1 (h 1 (omega arith)),
      exceeds_local N m m' s 2 (h 2 (omega arith)),
      exceeds_local N m m' s 3 (h 3 (omega arith)),
    )

-- a used entry computes nothing
pub strays_used : (N : Net) (m : Marks) (s : ℕ) → s ≡ none → strays N m s ≡ true → ⊥
unfolding strays ◌and◌
strays_used N m s h z = false≢true (rw (eq-eqb s none h) at z)

-- ---------------------------------------------------------------- a round writes the entries that find an id, and no other span

-- what a round changes
unfoldable pub changes : Net → Spread → List ℕ
changes N p = keep (finds N p.marks) p.stack

wrote_alike : (N : Net) (m : Marks) (e : ℕ) (out : Marks) (x : ℕ) → finds N m e and eqb x e ≡ false → Alike out (wrote N m e out) x
unfolding wrote put
wrote_alike N m e out x h =
    if-ind (λ (r : Marks). Alike out r x) (finds N m e)
    (λ z.
    let n : (x ≡ e → ⊥) = λ q. true≢false (sym (and_both (finds N m e) (eqb x e) z (eq-eqb x e q)) ∙ h) in
    (get_or-set_other out.ids e x _ 0 n, get_or-set_other out.src e x _ 0 n))
    (λ _. (refl, refl))

alike_then : (a b c : Marks) (x : ℕ) → Alike a b x → Alike b c x → Alike a c x
alike_then a b c x f g = (g.0 ∙ f.0, g.1 ∙ f.1)

-- a span that is not among the changes stays
written_alike : (N : Net) (m : Marks) (x : ℕ) (es : List ℕ) (out : Marks) → has x (keep (finds N m) es) ≡ false → Alike out (written N m es out) x
unfolding written
written_alike N m x [] out h = (refl, refl)
written_alike N m x (e ∷ es) out h =
    let d = neither _ _ (sym (keep_cons (finds N m) e es x) ∙ h) in
    alike_then out (wrote N m e out) (written N m es (wrote N m e out)) x (wrote_alike N m e out x d.0) (written_alike N m x es (wrote N m e out) d.1)

round_alike : (N : Net) (p : Spread) (x : ℕ) → has x (changes N p) ≡ false → Alike p.marks (round N p).marks x
unfolding round changes
round_alike N p x h = written_alike N p.marks x p.stack p.marks h

-- an entry that found nothing, and beside which nothing changed, still finds nothing
pub still_nothing : (N : Net) (p : Spread) (e : ℕ) → finds N p.marks e ≡ false → ((d : ℕ) → d < 4 → has (near N e d) (changes N p) ≡ false)
    → finds N (round N p).marks e ≡ false
still_nothing N p e z h = finds_local N p.marks (round N p).marks e (λ d l. round_alike N p _ (h d l)) ∙ z

-- nor does it compute a sum above 65,535 then, if it did not before
pub still_calm : (N : Net) (p : Spread) (e : ℕ) → strays N p.marks e ≡ false → ((d : ℕ) → d < 4 → has (near N e d) (changes N p) ≡ false)
    → strays N (round N p).marks e ≡ false
still_calm N p e z h = strays_local N p.marks (round N p).marks e (λ d l. round_alike N p _ (h d l)) ∙ z

-- ---------------------------------------------------------------- the order of the changes does not matter

wrote_in : (N : Net) (m : Marks) (e : ℕ) (out : Marks) (x : ℕ) → x < length out.ids → x < length out.src
    → (x < length (wrote N m e out).ids) × (x < length (wrote N m e out).src)
unfolding wrote put
wrote_in N m e out x h g =
    if-ind (λ (r : Marks). (x < length r.ids) × (x < length r.src)) (finds N m e)
    (λ _. (rw (length-set out.ids e (takes N m e).id) h, rw (length-set out.src e (takes N m e).far) g)) (λ _. (h, g))

wrote_here : (N : Net) (m : Marks) (e : ℕ) (out : Marks) → finds N m e ≡ true → e < length out.ids → e < length out.src
    → (get_or (wrote N m e out).ids e 0 ≡ (takes N m e).id) × (get_or (wrote N m e out).src e 0 ≡ (takes N m e).far)
unfolding wrote put when◌then◌else◌
wrote_here N m e out z h g = rw z (get_or-set_same out.ids e _ 0 h, get_or-set_same out.src e _ 0 g)

pub lengths : (N : Net) (m : Marks) (es : List ℕ) (out : Marks)
    → (length (written N m es out).ids ≡ length out.ids) × (length (written N m es out).src ≡ length out.src)
unfolding written wrote put
lengths N m [] out = (refl, refl)
lengths N m (e ∷ es) out =
    let r = lengths N m es (wrote N m e out) in
    let o : (length (wrote N m e out).ids ≡ length out.ids) × (length (wrote N m e out).src ≡ length out.src)
    = if-ind (λ (k : Marks). (length k.ids ≡ length out.ids) × (length k.src ≡ length out.src)) (finds N m e) (λ _. (length-set out.ids e _, length-set out.src e _)) (λ _. (refl, refl)) in
    (r.0 ∙ o.0, r.1 ∙ o.1)

marks_eq : (i j s t : List ℕ) → i ≡ j → s ≡ t → ◌≡◌ {A = Marks} (record { ids = i; src = s }) (record { ids = j; src = t })
marks_eq i j s t e f = rw (e, f)

marks_ext : (a b : Marks) → length a.ids ≡ length b.ids → length a.src ≡ length b.src → ((x : ℕ) → x < length a.ids → get_or a.ids x 0 ≡ get_or b.ids x 0)
    → ((x : ℕ) → x < length a.src → get_or a.src x 0 ≡ get_or b.src x 0) → a ≡ b
marks_ext a b l k f g =
    let i : a.ids ≡ b.ids = ext_get_or 0 a.ids b.ids l f in
    let s : a.src ≡ b.src = ext_get_or 0 a.src b.src k g in
    marks_eq a.ids b.ids a.src b.src i s

nothing : (x : ℕ) (p : ℕ → Bool) → has x (keep p []) ≡ true → ⊥
unfolding keep any
nothing x p z = false≢true z

-- span x after the writes of a list
written_at : (N : Net) (m : Marks) (x : ℕ) (es : List ℕ) (out : Marks) → x < length out.ids → x < length out.src → has x (keep (finds N m) es) ≡ true
    → (get_or (written N m es out).ids x 0 ≡ (takes N m x).id) × (get_or (written N m es out).src x 0 ≡ (takes N m x).far)
unfolding written
written_at N m x [] out h g z = absurd (nothing x (finds N m) z)
written_at N m x (e ∷ es) out h g z =
    ⊎_elim
    (λ (y : has x (keep (finds N m) es) ≡ true). written_at N m x es (wrote N m e out) (wrote_in N m e out x h g).0 (wrote_in N m e out x h g).1 y)
    (λ (y : has x (keep (finds N m) es) ≡ false).
    let w : finds N m e and eqb x e ≡ true = either (finds N m e and eqb x e ≡ true) (finds N m e and eqb x e) (has x (keep (finds N m) es)) (sym (keep_cons (finds N m) e es x) ∙ z) (λ k. k) (λ k. absurd (true≢false (sym k ∙ y))) in
    let b = both (finds N m e) (eqb x e) w in
    let q = eqb-true x e b.1 in
    let a = written_alike N m x es (wrote N m e out) y in
    let c = wrote_here N m e out b.0 (rw q at h) (rw q at g) in
    (a.0 ∙ rw q c.0, a.1 ∙ rw q c.1))
    (cases (has x (keep (finds N m) es)))

-- two lists with the same changes leave the same marks, in whatever order and however often a span stands in them
pub written-set : (N : Net) (m : Marks) (es cs : List ℕ) (out : Marks) → length out.src ≡ length out.ids
    → ((x : ℕ) → has x (keep (finds N m) es) ≡ has x (keep (finds N m) cs)) → written N m es out ≡ written N m cs out
written-set N m es cs out l h = marks_ext (written N m es out) (written N m cs out)
    ((lengths N m es out).0 ∙ sym (lengths N m cs out).0) ((lengths N m es out).1 ∙ sym (lengths N m cs out).1)
    (λ x i. (same x (rw (lengths N m es out).0 at i) (cases (has x (keep (finds N m) cs)))).0)
    (λ x i. (same x (rw l at (rw (lengths N m es out).1 at i)) (cases (has x (keep (finds N m) cs)))).1)
  where
    same : (x : ℕ) → x < length out.ids → (has x (keep (finds N m) cs) ≡ true) ⊎ (has x (keep (finds N m) cs) ≡ false)
        → (get_or (written N m es out).ids x 0 ≡ get_or (written N m cs out).ids x 0) × (get_or (written N m es out).src x 0 ≡ get_or (written N m cs out).src x 0)
    same x i (inl y) =
        let j : x < length out.src = rw l i in
        let a = written_at N m x es out i j (h x ∙ y) in
        let b = written_at N m x cs out i j y in
        (a.0 ∙ sym b.0, a.1 ∙ sym b.1)
    same x i (inr y) =
        let a = written_alike N m x es out (h x ∙ y) in
        let b = written_alike N m x cs out y in
        (a.0 ∙ sym b.0, a.1 ∙ sym b.1)

-- ---------------------------------------------------------------- the stack follows from the ids

pub fresh_used : (ids : List ℕ) (e : ℕ) → e ≡ none → fresh ids e ≡ none
unfolding fresh
fresh_used ids e h = if-ind (λ r. r ≡ none) (eqb (get_or ids e 0) 0) (λ _. h) (λ _. refl)

pub fresh_zero : (ids : List ℕ) (e : ℕ) → get_or ids e 0 ≡ 0 → fresh ids e ≡ e
unfolding fresh when◌then◌else◌
fresh_zero ids e h = rw (eq-eqb _ _ h)

pub fresh_some : (ids : List ℕ) (e : ℕ) → (get_or ids e 0 ≡ 0 → ⊥) → fresh ids e ≡ none
unfolding fresh when◌then◌else◌
fresh_some ids e h = rw (ne_eqb _ _ h)

-- freshening by fewer ids first changes nothing
pub fresh_twice : (ids ids' : List ℕ) → ((x : ℕ) → (get_or ids x 0 ≡ 0 → ⊥) → get_or ids' x 0 ≡ 0 → ⊥) → (e : ℕ) → fresh ids' (fresh ids e) ≡ fresh ids' e
fresh_twice ids ids' h e =
    elim (ℕ_discrete (get_or ids e 0) 0) [
      | yes z ↦ rw (fresh_zero ids e z)
      | no z ↦ rw (fresh_some ids e z) (fresh_used ids' none refl ∙ sym (fresh_some ids' e (h e z)))
    ]

map_each : (P : ℕ → Type 0) (f g : ℕ → ℕ) (es : List ℕ) → ((e : ℕ) → P e → f e ≡ g e) → All P es → map f es ≡ map g es
map_each P f g [] h p = refl
map_each P f g (e ∷ es) h p = rw (h e p.0, map_each P f g es h p.1)

pub map_twice : (f g k : ℕ → ℕ) (es : List ℕ) → ((e : ℕ) → f (g e) ≡ k e) → map f (map g es) ≡ map k es
map_twice f g k [] h = refl
map_twice f g k (e ∷ es) h = rw (h e, map_twice f g k es h)

module _ (N : Net) (m : Marks) where
  wrote-stays : (x e : ℕ) (out : Marks) → (get_or out.ids x 0 ≡ 0 → ⊥) → get_or (wrote N m e out).ids x 0 ≡ 0 → ⊥
  unfolding wrote put
  wrote-stays x e out h =
      if-ind (λ (r : Marks). get_or r.ids x 0 ≡ 0 → ⊥) (finds N m e)
      (λ z. set-stays out.ids e (takes N m e).id x (finds_id N m e z) h)
      (λ _. h)
    where
      set-stays : (l : List ℕ) (i v x : ℕ) → (v ≡ 0 → ⊥) → (get_or l x 0 ≡ 0 → ⊥) → get_or (set l i v) x 0 ≡ 0 → ⊥
      set-stays [] i v x z h = h
      set-stays (y ∷ l) zero v zero z h = z
      set-stays (y ∷ l) zero v (suc x) z h = h
      set-stays (y ∷ l) (suc i) v zero z h = h
      set-stays (y ∷ l) (suc i) v (suc x) z h = set-stays l i v x z h

  written-stays : (x : ℕ) (es : List ℕ) (out : Marks) → (get_or out.ids x 0 ≡ 0 → ⊥) → get_or (written N m es out).ids x 0 ≡ 0 → ⊥
  unfolding written
  written-stays x [] out h = h
  written-stays x (e ∷ es) out h = written-stays x es (wrote N m e out) (wrote-stays x e out h)

  wrote-length : (e : ℕ) (out : Marks) → length (wrote N m e out).ids ≡ length out.ids
  unfolding wrote put
  wrote-length e out = if-ind (λ (r : Marks). length r.ids ≡ length out.ids) (finds N m e) (λ _. length-set out.ids e _) (λ _. refl)

  put-at : (e : ℕ) (out : Marks) (r d : ℕ) → e < length out.ids → get_or (put out e r d).ids e 0 ≡ r
  unfolding put
  put-at e out r d h = get_or-set_same out.ids e r 0 h

  written_found : (es : List ℕ) (out : Marks) (n : ℕ) → length out.ids ≡ n → All (λ e. finds N m e ≡ true → e < n) es
      → All (λ e. finds N m e ≡ true → get_or (written N m es out).ids e 0 ≡ 0 → ⊥) es
  unfolding written
  written_found [] out n l p = tt
  written_found (e ∷ es) out n l p = (
    λ z. written-stays e es (wrote N m e out) (here e out z (rw l (p.0 z))),
    written_found es (wrote N m e out) n (wrote-length e out ∙ l) p.1,
  )
    where
      here : (e : ℕ) (out : Marks) → finds N m e ≡ true → e < length out.ids → get_or (wrote N m e out).ids e 0 ≡ 0 → ⊥
      here e out z h y = finds_id N m e z (sym (put-at e out (takes N m e).id (takes N m e).far h) ∙ rw (wrote_yes N m e out z) at y)

module _ (N : Net) (n : ℕ) (p : Spread) (o : Ok n p) where
  round-tidy : (round N p).stack ≡ map (fresh (round N p).marks.ids) p.stack
  round-tidy =
      let m = p.marks in
      rw (round_is N p)
      (map_each (λ e. Unheld n m.ids e × (finds N m e ≡ true → get_or (written N m p.stack m).ids e 0 ≡ 0 → ⊥)) (left N m) (fresh (written N m p.stack m).ids) p.stack
      (λ e h. at e h (cases (finds N m e)))
      (All_both _ _ p.stack o.entries (written_found N m p.stack m n o.idents (spans_of p.stack o.entries))))
    where
      spans_of : (es : List ℕ) → All (Unheld n p.marks.ids) es → All (λ e. finds N p.marks e ≡ true → e < n) es
      spans_of [] q = tt
      spans_of (e ∷ es) q = (λ z. (q.0 (λ y. finds_used N p.marks e y z)).0, spans_of es q.1)

      at : (e : ℕ) → Unheld n p.marks.ids e × (finds N p.marks e ≡ true → get_or (written N p.marks p.stack p.marks).ids e 0 ≡ 0 → ⊥)
          → (finds N p.marks e ≡ true) ⊎ (finds N p.marks e ≡ false)
          → left N p.marks e ≡ fresh (written N p.marks p.stack p.marks).ids e
      at e h (inl z) = left_yes N p.marks e z ∙ sym (fresh_some (written N p.marks p.stack p.marks).ids e (h.1 z))
      at e h (inr z) =
          left_no N p.marks e z
          ∙ elim (ℕ_discrete e none) [
            | yes y ↦ y ∙ sym (fresh_used (written N p.marks p.stack p.marks).ids e y)
            | no y ↦ sym (fresh_zero (written N p.marks p.stack p.marks).ids e (written_keeps N p.marks e z p.stack p.marks ∙ (h.0 y).1))
          ]

  -- a round's stack, from the stack at the start
  pub round-fresh : (es : List ℕ) → p.stack ≡ map (fresh p.marks.ids) es → (round N p).stack ≡ map (fresh (round N p).marks.ids) es
  unfolding round
  round-fresh es e =
      round-tidy ∙ ap (λ (l : List ℕ). map (fresh (round N p).marks.ids) l) e
      ∙ map_twice (fresh (round N p).marks.ids) (fresh p.marks.ids) (fresh (round N p).marks.ids) es
      (fresh_twice p.marks.ids (round N p).marks.ids (λ x h. written-stays N p.marks x p.stack p.marks h))

  -- a list with the members of the changes makes the round's marks
  pub wave_marks : (cs : List ℕ) → length p.marks.src ≡ n → ((x : ℕ) → has x cs ≡ true → has x (changes N p) ≡ true) → ((x : ℕ) → has x (changes N p) ≡ true → has x cs ≡ true)
      → written N p.marks cs p.marks ≡ (round N p).marks
  unfolding changes round
  wave_marks cs l f g =
      written-set N p.marks cs p.stack p.marks (l ∙ sym o.idents)
      (λ x. same_test _ _
      (λ z. f x (keep_out (finds N p.marks) x cs z).0)
      (λ z. keep_in (finds N p.marks) x cs (g x z) (keep_out (finds N p.marks) x p.stack z).1))

-- an entry that is left found nothing
left_one : (p : ℕ → Bool) (x e : ℕ) → (x ≡ none → ⊥) → (b : Bool) → p e ≡ b → x ≡ (when b then none else e) → p x ≡ false
unfolding when◌then◌else◌
left_one p x e n true z y = absurd (n y)
left_one p x e n false z y = rw y z

left_out : (p : ℕ → Bool) (x : ℕ) (es : List ℕ) → (x ≡ none → ⊥) → has x (map (λ e. when p e then none else e) es) ≡ true → p x ≡ false
left_out p x [] n h = absurd (has_nil x h)
left_out p x (e ∷ es) n h =
    let r = left_out p x es n in
    has_split (p x ≡ false) x (when p e then none else e) (map (λ e. when p e then none else e) es) h (λ q. left_one p x e n (p e) refl q) r

pub round-left : (N : Net) (p : Spread) (x : ℕ) → (x ≡ none → ⊥) → has x (round N p).stack ≡ true → finds N p.marks x ≡ false
unfolding round
round-left N p x n h = left_out (finds N p.marks) x p.stack n h

-- ---------------------------------------------------------------- rounds

module _ (N : Net) (k : ℕ) (p : Spread) where
  pub rounds_on : any (finds N p.marks) p.stack ≡ true → rounds N (suc k) p ≡ rounds N k (round N p)
  unfolding rounds when◌then◌else◌
  rounds_on z = rw z

  pub rounds_off : any (finds N p.marks) p.stack ≡ false → rounds N (suc k) p ≡ p
  unfolding rounds when◌then◌else◌
  rounds_off z = rw z

  pub stray_first : any (strays N p.marks) p.stack ≡ true → rounds_stray N (suc k) p ≡ true
  unfolding rounds_stray ◌or◌
  stray_first z = rw z

  pub stray_on : any (strays N p.marks) p.stack ≡ false → any (finds N p.marks) p.stack ≡ true → rounds_stray N (suc k) p ≡ rounds_stray N k (round N p)
  unfolding rounds_stray ◌or◌ ◌and◌
  stray_on z f = rw (z, f)

  pub stray_off : any (strays N p.marks) p.stack ≡ false → any (finds N p.marks) p.stack ≡ false → rounds_stray N (suc k) p ≡ false
  unfolding rounds_stray ◌or◌ ◌and◌
  stray_off z f = rw (z, f)

pub stray_none : (N : Net) (p : Spread) → rounds_stray N 0 p ≡ false
unfolding rounds_stray
stray_none N p = refl

pub rounds-none : (N : Net) (p : Spread) → rounds N 0 p ≡ p
unfolding rounds
rounds-none N p = refl
