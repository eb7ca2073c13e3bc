-- Plain rooms: one id for each set of spans that are joined, with no distances, filter or merge; and the outcome of their entry on ANY input.
use Rattle.std.specs.Prelude.{ℕ, zero, suc, not, List, [], ◌∷◌, length, get_or, set, replicate, ltb, eqb}
use Rattle.rules.specs.Base.{◌and◌, when◌then◌else◌, upto}
use Rattle.rules.specs.Field.{Field}
use Rattle.rules.specs.Net.{Net, net_of, spans, near, area_of}
use Rattle.rules.specs.Refusals.{refusal, too_short}
use Rattle.rules.specs.Growth.{walkable, painted}

-- a room that is being filled: the spans that wait to be looked at from, and the ids of all
pub record Fill : Type 0 where
  pub todo : List ℕ
  pub ids : List ℕ

-- "walkable spans of one area joined by connections": span c of a room with this area and id looks in direction d.
-- "painted spans taking no part and joining nothing": they have an id, and so are passed by
unfoldable pub joins : Net → ℕ → ℕ → ℕ → ℕ → Fill → Fill
joins N area id c d f =
    let t = near N c d in
    when eqb (area_of N t) area and eqb (get_or f.ids t 0) 0
    then record { todo = t ∷ f.todo; ids = set f.ids t id }
    else f

-- one span after the other; the first number is fuel, which never ends it (`room_ends`)
unfoldable pub fill : Net → ℕ → ℕ → ℕ → List ℕ → List ℕ → Fill
fill N area id zero todo ids = record { todo = todo; ids = ids }
fill N area id (suc k) [] ids = record { todo = []; ids = ids }
fill N area id (suc k) (c ∷ cs) ids =
    let f = upto 4 (joins N area id c) (record { todo = cs; ids = ids }) in
    fill N area id k f.todo f.ids

-- the room of span s, which has no id yet
unfoldable pub room_from : Net → ℕ → List ℕ → ℕ → Fill
room_from N id ids s = fill N (area_of N s) id (spans N) (s ∷ []) (set ids s id)

-- the ids, and how many rooms there are
pub record Rooms : Type 0 where
  pub ids : List ℕ
  pub most : ℕ

-- "one id per set .., numbered from 1 in scan order of the first span": span s begins a room if it is walkable and none before has it
unfoldable pub begins : Net → ℕ → Rooms → Rooms
begins N s v =
    let f = room_from N (suc v.most) v.ids s in
    when walkable N.areas s and eqb (get_or v.ids s 0) 0 then record { ids = f.ids; most = suc v.most } else v

-- "Border paint as before"; "max_region is the greatest id, 0 for none"
unfoldable pub plain_rooms : Field → ℕ → Rooms
plain_rooms F b = let N = net_of F in upto (spans N) (begins N) (record { ids = (painted F b).ids; most = 0 })

-- "with more than 32,767 rooms, 12"
abbrev pub most_rooms : ℕ
most_rooms = 32767

-- 1 to 7, 0 for none of them; work is the length of the workspace
unfoldable pub rooms_refusal : Field → List ℕ → ℕ → ℕ
rooms_refusal F lens work =
    let r = refusal F lens in
    when not (eqb r 0) then r else
    when too_short F work then 7 else 0

pub record RoomsOutcome : Type 0 where
  pub refused : ℕ
  pub most : ℕ
  pub workspace : List ℕ
  pub ids : List ℕ

-- "Refusals: 1 to 7; with more than 32,767 rooms, 12 as in A6.": "the id list is as before the call and the workspace is zeroed"
unfoldable pub rooms_outcome : Field → ℕ → List ℕ → List ℕ → RoomsOutcome
rooms_outcome F b work₀ ids₀ =
    let r = rooms_refusal F (length ids₀ ∷ []) (length work₀) in
    let v = plain_rooms F b in
    when not (eqb r 0) then record { refused = r; most = 0; workspace = work₀; ids = ids₀ } else
    when ltb most_rooms v.most then record { refused = 12; most = 0; workspace = replicate (length work₀) 0; ids = ids₀ } else
    record { refused = 0; most = v.most; workspace = replicate (length work₀) 0; ids = v.ids }
