-- What the code has of a story is the rule's.
use Rattle.rules.specs.Reasons.{Story}
use Rattle.flood.specs.declared.story.Story as code

abbrev pub story_of : code.Story → Story
story_of y = record { span = y.span; from = y.from; gave = y.gave; objecting = y.objecting }
