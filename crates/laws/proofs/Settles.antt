-- The fuel of an expansion with no limit of rounds is never seen: it ends because nothing changes.
-- A round that changes something uses up an entry, and there is a round for each entry and one more.
use Prim.Native.Nat.{ℕ, zero, suc, ◌+◌, ◌≤◌, ◌<◌, suc-le-suc}
use native.Mathlib.Omega.{arith}
use mathlib.Core.Path.{◌≡◌, refl}
use mathlib.Core.Bool.{Bool, true, false, not, false≢true}
use mathlib.Core.List.{List, [], ◌∷◌, map}
use lib.ListN.{length, length-map}
use lib.Dec.{eqb}
use Rattle.rules.specs.Base.{when◌then◌else◌, any, many}
use Rattle.rules.specs.Field.{none}
use Rattle.rules.specs.Net.{Net}
use Rattle.rules.specs.Growth.{Marks, Spread, finds, round, rounds, expand}
use Rattle.laws.proofs.Basics.{both, if-ind, many_le, any-many}

pub unused : ℕ → Bool
unused e = not (eqb e none)

unused_none : unused none ≡ false
unfolding unused
unused_none = refl

-- one entry more, marked or not (b), unused or not (u)
more : (b u : Bool) (A B C : ℕ) → (b ≡ true → u ≡ true) → A + B ≡ C
    → (when (when b then false else u) then suc A else A) + (when b then suc B else B) ≡ (when u then suc C else C)
unfolding when◌then◌else◌
more true true A B C k r = omega arith
more true false A B C k r = absurd (false≢true (k refl))
more false true A B C k r = omega arith
more false false A B C k r = r

spare : (b : Bool) (e : ℕ) → unused (when b then none else e) ≡ (when b then false else unused e)
unfolding when◌then◌else◌
spare true e = unused_none
spare false e = refl

-- an unused entry for each that f marks
pub marked : (f : ℕ → Bool) → ((e : ℕ) → f e ≡ true → unused e ≡ true) → (es : List ℕ)
    → many unused (map (λ e. when f e then none else e) es) + many f es ≡ many unused es
unfolding many
marked f h [] = refl
marked f h (e ∷ es) = rw (spare (f e) e) (more (f e) (unused e) _ _ _ (h e) (marked f h es))

finds_unused : (N : Net) (m : Marks) (e : ℕ) → finds N m e ≡ true → unused e ≡ true
unfolding finds unused
finds_unused N m e h = (both _ _ h).0

pub settles : (N : Net) (k : ℕ) (p : Spread) → many unused p.stack < k
    → any (finds N (rounds N k p).marks) (rounds N k p).stack ≡ false
unfolding rounds round
settles N zero p h = absurd (omega arith)
settles N (suc k) p h =
    if-ind (λ (r : Spread). any (finds N r.marks) r.stack ≡ false) _
    (λ e. settles N k (round N p) (omega (arith, any-many (finds N p.marks) p.stack e, marked (finds N p.marks) (finds_unused N p.marks) p.stack)))
    (λ e. e)

many-map_le : (p : ℕ → Bool) (f : ℕ → ℕ) (es : List ℕ) → many p (map f es) ≤ length es
many-map_le p f es = omega (arith, many_le p (map f es), length-map es f)

-- the rules' expansion at level 0
pub expand_settles : (N : Net) (m : Marks) (es : List ℕ)
    → any (finds N (expand N 0 m es).marks) (expand N 0 m es).stack ≡ false
unfolding expand when◌then◌else◌
expand_settles N m es = settles N (suc (length es)) _ (suc-le-suc (many-map_le unused _ es))
