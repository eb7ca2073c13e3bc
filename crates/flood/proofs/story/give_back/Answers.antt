-- Another span is passed by; the watched one objects, and the objecting span is the rule's (Stories).
use borrow.Author.Rules.{rules}
use Rattle.flood.proofs.Stories.{visit-other, visit-back}
use Rattle.flood.proofs.story.give_back.Goals as goal

pub returns-then-span-story : goal.returns-then-span-story
returns-then-span-story c = search (rules, visit-other)

pub objecting-requires : goal.objecting-requires
objecting-requires c = c.requires.at_span

pub returns : goal.returns
returns c = visit-back _ _ _ _ _ c.if-span-story.false c.requires.span_value _ c.objecting.ensures
