-- Records with the rule's floors, and records with floors that stay: what is the same in both, and what the ids of live records are.
use Rattle.std.specs.Prelude.{ℕ, ◌≡◌, true, false, List, length}
use Rattle.rules.specs.Growth.{flagged}
use Rattle.rules.specs.Records.{Rec, at, has}

-- a record of present id k has a floor whose present id is j
pub record FloorOf (fs : List Rec) (k j : ℕ) : Type 0 where
  pub who : ℕ
  pub floor : ℕ
  pub bears : (at fs who).id ≡ k
  pub holds : has (at fs who).floors floor ≡ true
  pub is : (at fs floor).id ≡ j

-- k bears its own number
abbrev pub Rep : List Rec → ℕ → Type 0
Rep fs k = ((at fs k).id ≡ k) × (k ≡ 0 → ⊥)

-- rs are the rule's records, fs those with the floors that stay
pub record Floors (rs fs : List Rec) : Type 0 where
  pub sound : (k j : ℕ) → Rep fs k → Rep fs j → has (at rs k).floors j ≡ true → FloorOf fs k j
  pub full : (k j : ℕ) → Rep fs k → Rep fs j → FloorOf fs k j → has (at rs k).floors j ≡ true

pub record Same (a b : Rec) : Type 0 where
  pub id : a.id ≡ b.id
  pub count : a.count ≡ b.count
  pub area : a.area ≡ b.area
  pub visited : a.visited ≡ b.visited
  pub overlap : a.overlap ≡ b.overlap
  pub list : a.list ≡ b.list
  pub cut : a.cut ≡ b.cut

-- a live record with spans bears its own number, and what a live record lists is dead or does so
pub record Reps (fs : List Rec) : Type 0 where
  pub own : (x : ℕ) → ((at fs x).id ≡ 0 → ⊥) → ((at fs x).count ≡ 0 → ⊥) → (at fs x).id ≡ x
  pub listed : (x : ℕ) → ((at fs x).id ≡ 0 → ⊥) → (r : ℕ) → has (at fs x).list r ≡ true → flagged r ≡ false → ((at fs r).id ≡ 0 → ⊥) → (at fs r).id ≡ r

pub record Alike (rs fs : List Rec) : Type 0 where
  pub size : length rs ≡ length fs
  pub same : (x : ℕ) → Same (at rs x) (at fs x)
  pub floors : Floors rs fs
  pub reps : Reps fs

-- there are records with the rule's floors that are like these
pub record Joined (fs : List Rec) : Type 0 where
  pub rs : List Rec
  pub alike : Alike rs fs
