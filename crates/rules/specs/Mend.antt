-- The mending of a hand-edited field, and its outcome on ANY input.
use Rattle.std.specs.Prelude.{ℕ, zero, suc, ◌*◌, ◌/◌, ◌%◌, Bool, List, [], ◌∷◌, ◌++◌, length, get_or, drop, leb, ltb, eqb}
use Rattle.rules.specs.Base.{◌and◌, when◌then◌else◌, tab}
use Rattle.rules.specs.Field.{Field, spans}
use Rattle.rules.specs.Refusals.{refusal, good_con, good_back}

-- "keeps exactly the connections that lead to an existing span and are answered from it": what refusals 5 and 6 ask of one connection; none stays none
unfoldable pub stays : Field → ℕ → ℕ → Bool
stays F s d = good_con F s d and good_back F s d

-- number i of the connections, four a span, is that of span i / 4 in direction i % 4
unfoldable pub stays_at : Field → ℕ → Bool
stays_at F i = stays F (i / 4) (i % 4)

-- "and sets every other to none"
unfoldable pub mended_at : Field → ℕ → ℕ
mended_at F i = when stays_at F i then get_or F.con i 255 else 255

unfoldable pub mended_con : Field → List ℕ
mended_con F = tab (4 * spans F) 0 (mended_at F)

-- the field with other connections
abbrev pub relinked : Field → List ℕ → Field
relinked F con = record { w = F.w; h = F.h; index = F.index; count = F.count; area = F.area; con = con }

-- the field mended
unfoldable pub mended : Field → Field
mended F = relinked F (mended_con F)

-- "It lists each change: span, direction, old layer, in span and direction order.": those of the first i connections
unfoldable pub changes_to : Field → ℕ → List ℕ
changes_to F zero = []
changes_to F (suc i) = when stays_at F i then changes_to F i else changes_to F i ++ ((i / 4) ∷ (i % 4) ∷ get_or F.con i 255 ∷ [])

-- and how many
unfoldable pub changed_to : Field → ℕ → ℕ
changed_to F zero = 0
changed_to F (suc i) = when stays_at F i then changed_to F i else suc (changed_to F i)

-- of all
abbrev pub changes_of : Field → List ℕ
changes_of F = changes_to F (4 * spans F)

abbrev pub changed : Field → ℕ
changed F = changed_to F (4 * spans F)

-- "Refusals: 1 to 4 as before, then 27 for a list without room, exactly when the changes outnumber its places"; a place is three numbers, len is their number
unfoldable pub mend_refusal : Field → ℕ → ℕ
mend_refusal F len =
    let r = refusal F [] in
    when leb 1 r and leb r 4 then r else
    when ltb (len / 3) (changed F) then 27 else 0

pub record MendOutcome : Type 0 where
  pub refused : ℕ
  pub count : ℕ
  pub con : List ℕ
  pub changes : List ℕ

-- "nothing is written then. Places past the last change keep what they held."; "`count` is 0 where refused"
unfoldable pub mend_outcome : Field → List ℕ → MendOutcome
mend_outcome F changes₀ =
    let r = mend_refusal F (length changes₀) in
    let l = changes_of F in
    when eqb r 0
    then record { refused = 0; count = changed F; con = mended_con F; changes = l ++ drop (length l) changes₀ }
    else record { refused = r; count = 0; con = F.con; changes = changes₀ }
