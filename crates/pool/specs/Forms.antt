-- What Pool.antt says of numbers, of the forms that the code has them in: a half of the pool, a pair of records, an id's new name.
use Rattle.std.specs.Prelude.{ℕ, ◌≡◌, List}
use Rattle.table.specs.View.{list_in}
use Rattle.pool.specs.Pool.{joined_list, Pool, Laid, Standing, EachLists, Listed, Swept, Sources, Carried, Absorbed, Relisted}
use Rattle.pool.specs.Links.{LinkRoom}
use Rattle.pool.specs.Sweep.{Reached, RenamedFor, Searched}
use Rattle.pool.specs.Lists.{swap_one}
use Rattle.pool.specs.Bearers.{Owners}
use Rattle.pool.specs.declared.Half.{Half}
use Rattle.pool.specs.declared.Pair.{Pair}
use Rattle.pool.specs.declared.Renaming.{Renaming}

-- ---- of a half

abbrev pub PoolIn : ℕ → Half → List ℕ → Type 0
PoolIn m half ws = Pool m half.size half.now half.other ws

abbrev pub LaidIn : ℕ → Half → List ℕ → Type 0
LaidIn m half ws = Laid m half.size half.now half.other half.top half.links (λ y. y) ws

abbrev pub StandingIn : ℕ → Half → List ℕ → Type 0
StandingIn m half ws = Standing m half.size half.now half.other ws

-- the places of the half, up to its top, can be linked
abbrev pub LinkRoomIn : ℕ → Half → List ℕ → Type 0
LinkRoomIn m half ws = LinkRoom m half.size half.now half.top half.links ws

-- ---- of a pair

abbrev pub PairIn : ℕ → Pair → List ℕ → Type 0
PairIn m pair ws = EachLists m pair.absorber pair.entry pair.absorbed pair.back ws

abbrev pub ListedIn : ℕ → Pair → List ℕ → Type 0
ListedIn m pair ws = Listed m pair.absorber pair.entry pair.absorbed pair.back ws

-- all lists but the pair's can be carried to `to` and on
abbrev pub OthersTo : ℕ → Pair → ℕ → ℕ → List ℕ → Type 0
OthersTo m pair to limit ws = Sources m pair.absorbed pair.absorber to limit ws

-- each of the two bears its own number
abbrev pub OwnersIn : ℕ → Pair → List ℕ → Type 0
OwnersIn m pair ws = Owners m pair.absorber pair.absorbed ws

-- all lists but the pair's can be reached through linked places
abbrev pub ReachedIn : ℕ → Pair → Half → List ℕ → Type 0
ReachedIn m pair half ws = Reached m pair.absorbed pair.absorber half.size half.other half.links ws

-- ---- of a pair, and its renaming

-- the absorbed one's number becomes the absorber's
abbrev pub NamesOf : Pair → Renaming → Type 0
NamesOf pair names = (names.old ≡ pair.absorbed) × (names.new ≡ pair.absorber)

-- the lists are renamed, and the ids are to be
abbrev pub LaidAs : ℕ → Half → Renaming → List ℕ → Type 0
LaidAs m half names ws = Laid m half.size half.now half.other half.top half.links (swap_one names.old names.new) ws

-- wherever another list than the pair's names old, linked places tell
abbrev pub SearchedIn : ℕ → Pair → Half → Renaming → List ℕ → Type 0
SearchedIn m pair half names ws = Searched m pair.absorbed pair.absorber names.old half.size half.other half.links ws

abbrev pub joined_of : ℕ → Pair → Renaming → List ℕ → List ℕ
joined_of m pair names ws = joined_list (list_in ws m pair.absorber) (list_in ws m pair.absorbed) pair.entry pair.back names.old names.new

abbrev pub AbsorbedIn : ℕ → Pair → Renaming → ℕ → ℕ → ℕ → List ℕ → List ℕ → Type 0
AbsorbedIn m pair names to limit e ws ws' =
    Absorbed m pair.absorber pair.entry pair.absorbed pair.back names.old names.new to limit e ws ws'

-- all but the pair are carried to `to` and on, up to `end`
abbrev pub OthersCarried : ℕ → Pair → Renaming → ℕ → ℕ → ℕ → List ℕ → List ℕ → Type 0
OthersCarried m pair names to end limit ws ws' = Carried m pair.absorbed pair.absorber 0 names.old names.new to end limit ws ws'

-- all but the pair are renamed where they are
abbrev pub OthersRenamed : ℕ → Pair → Renaming → List ℕ → List ℕ → Type 0
OthersRenamed m pair names ws ws' = Swept m pair.absorbed pair.absorber names.old names.new ws ws'

-- all lists stand in the half where those of `half` go
abbrev pub RelistedIn : ℕ → Pair → Renaming → Half → Half → List ℕ → List ℕ → Type 0
RelistedIn m pair names half to ws ws' =
    Relisted m half.size pair.absorber pair.entry pair.absorbed pair.back names.old names.new to.now to.other half.links ws ws'

-- the lists of the records beside the places that named y are renamed where they are
abbrev pub NamedRenamed : ℕ → ℕ → Pair → Half → Renaming → List ℕ → List ℕ → Type 0
NamedRenamed m y pair half names ws ws' =
    RenamedFor m pair.absorbed pair.absorber y names.old names.new half.size half.other half.links ws ws'
