-- What a result of growth, or of a turn, says. A stop has the number that refuses the call; of a result that is one, 0 stands for the next id and the story is that of before.
use Rattle.std.specs.Prelude.{ℕ, List, [], Result, Ok, Err}
use Rattle.rules.specs.Reasons.{Story}
use Rattle.flood.specs.Stories.{story_of}
use Rattle.growth.specs.declared.turns.Growth.{Growth}
use Rattle.growth.specs.declared.turns.TurnResult.{TurnResult}
use Rattle.growth.specs.declared.turns.Stop.{Stop}
use Rattle.growth.specs.declared.turns.Stop.TheVariants.{NoIds, NoSum}

abbrev pub stop_number : Stop → ℕ
stop_number NoIds = 12
stop_number NoSum = 13

-- 0 where nothing stops it
abbrev pub stop_of : {A : Type 0} → Result A Stop → ℕ
stop_of (Ok _) = 0
stop_of (Err s) = stop_number s

abbrev pub next_of : Result Growth Stop → ℕ
next_of (Ok g) = g.next
next_of (Err _) = 0

-- the story of the watched span, which was y
abbrev pub story_in : Story → Result Growth Stop → Story
story_in y (Ok g) = story_of g.story
story_in y (Err _) = y

-- the same of a turn
abbrev pub turn_next : Result TurnResult Stop → ℕ
turn_next (Ok t) = t.next
turn_next (Err _) = 0

abbrev pub turn_story : Story → Result TurnResult Stop → Story
turn_story y (Ok t) = story_of t.story
turn_story y (Err _) = y

-- its stacks' fills and its number
abbrev pub fills_in : Result TurnResult Stop → List ℕ
fills_in (Ok t) = t.stacks.fills
fills_in (Err _) = []

abbrev pub number_in : Result TurnResult Stop → ℕ
number_in (Ok t) = t.stacks.turn
number_in (Err _) = 0
