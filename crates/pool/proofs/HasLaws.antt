-- Where an id stands in a list, and whether it does, entry by entry; and two laws on equal results that no one stage owns.
use Prim.Native.Nat.{ℕ}
use mathlib.Core.Path.{◌≡◌, refl, sym, ap, ◌∙◌}
use mathlib.Core.Bool.{Bool, true}
use mathlib.Core.List.{List, [], ◌∷◌, ◌++◌, map}
use lib.Dec.{eqb}
use Rattle.rules.specs.Base.{◌or◌, any}
use Rattle.rules.specs.Records.{has}
use Rattle.rules.specs.Numbering.{Regions}
use Rattle.laws.proofs.Basics.{or_no, or_swap}

pub or-first : (b : Bool) → true or b ≡ true
unfolding ◌or◌
or-first b = refl

pub has_end : (l : List ℕ) (r v : ℕ) → has (l ++ (r ∷ [])) v ≡ has l v or eqb v r
unfolding any ◌or◌
has_end [] r v = or_no (eqb v r)
has_end (x ∷ l) r v = ap (λ (b : Bool). eqb v x or b) (has_end l r v) ∙ sym (or_swap (eqb v x) (has l v) (eqb v r))

-- no entry is v
pub map_same : (f g : ℕ → ℕ) (l : List ℕ) → ((x : ℕ) → f x ≡ g x) → map f l ≡ map g l
map_same f g [] h = refl
map_same f g (x ∷ l) h = rw (h x, map_same f g l h)

pub regions_eq : (a a' : List ℕ) (b b' c c' d d' : ℕ) → a ≡ a' → b ≡ b' → c ≡ c' → d ≡ d'
    → ◌≡◌ {A = Regions} (record { ids = a; most = b; over = c; cut = d }) (record { ids = a'; most = b'; over = c'; cut = d' })
regions_eq a a' b b' c c' d d' p q r t = rw (p, q, r, t)
