-- The three ways that a step ends: it stays, it is counted alone, it is set to none and noted.
use mathlib.Core.Path.{refl}
use Rattle.mend.proofs.StepLaws.{link_four, link_fits, link_room, link_small, link_old, step_stays, step_full, place_in, step_made}
use borrow.Author.Rules.{rules}
use Rattle.mend.proofs.mend_link.Goals as goal

pub overflow_mul-i : goal.overflow_mul-i
overflow_mul-i c = search (rules, link_four)

pub overflow_add-i : goal.overflow_add-i
overflow_add-i c = search (rules, link_fits)

pub bounds-con-i : goal.bounds-con-i
bounds-con-i c = search (rules, link_room)

pub link_stays-requires : goal.link_stays-requires
link_stays-requires c = search (rules, link_old)

pub returns-then-link_stays : goal.returns-then-link_stays
returns-then-link_stays c = search (rules, step_stays)

pub returns-then-room-k : goal.returns-then-room-k
returns-then-room-k c = search (rules, step_full)

pub bounds-con-i-2 : goal.bounds-con-i-2
bounds-con-i-2 c = search (rules, link_room)

pub note-requires : goal.note-requires
note-requires c = (search (rules, place_in), search rules, search (rules, link_small), search rules)

pub returns : goal.returns
returns c = step_made _ _ _ _ _ _ _ _ _ _ c.requires.ready.0 _ _ _ _ c.requires.ready.1 c.requires.s_value.0 c.requires.s_value.1 _ c.link_stays.ensures
    c.if-link_stays.false c.if-room-k.false _ _ refl c.note.ensures
