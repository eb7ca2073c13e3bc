-- Each stage's list is what the next requires.
use Rattle.field.proofs.Passed.{sound_reached}
use borrow.Author.Rules.{rules}
use Rattle.refresh.proofs.build_stages.Goals as goal

pub spread-requires : goal.spread-requires
spread-requires c = (search (rules, sound_reached), search rules)

pub pass1-requires : goal.pass1-requires
pass1-requires c = (search (rules, sound_reached), search rules, search rules)

pub box_blur-requires : goal.box_blur-requires
box_blur-requires c = (search (rules, sound_reached), search rules, search rules)
