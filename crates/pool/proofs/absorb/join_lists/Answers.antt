-- `pool::absorb::join_lists` meets its contract. Two lists joined apart from both, and renamed.
use Rattle.pool.proofs.AbsorbLaws.{join_first, join_second, join_entry, join_entry_2, join_room, join_top, joined_list_lem, joined_short, joined_frame}
use Rattle.pool.proofs.absorb.join_lists.Goals as goal

pub join-end-requires : goal.join-end-requires
join-end-requires c = record {
  copy_room = (join_first _ _ _ _ _ _ _ _ c.requires.0 c.requires.1 _ _ _ _ c.start_of.ensures.0 c.end_of.ensures.0 c.start_of-2.ensures.0 c.end_of-2.ensures.0, join_second _ _ _ _ _ _ _ _ c.requires.0 c.requires.1 _ _ _ _ c.start_of.ensures.0 c.end_of.ensures.0 c.start_of-2.ensures.0 c.end_of-2.ensures.0);
  first_bound = (join_entry _ _ _ _ _ _ _ _ c.requires.0 c.requires.1 _ _ _ _ c.start_of.ensures.0 c.end_of.ensures.0 c.start_of-2.ensures.0 c.end_of-2.ensures.0, join_entry_2 _ _ _ _ _ _ _ _ c.requires.0 c.requires.1 _ _ _ _ c.start_of.ensures.0 c.end_of.ensures.0 c.start_of-2.ensures.0 c.end_of-2.ensures.0, join_room _ _ _ _ _ _ _ _ c.requires.0 c.requires.1 _ _ _ _ c.start_of.ensures.0 c.end_of.ensures.0 c.start_of-2.ensures.0 c.end_of-2.ensures.0);
}

pub replace_neighbour-requires : goal.replace_neighbour-requires
replace_neighbour-requires c = (c.join-end.ensures.lower_bound.0, join_top _ _ _ _ _ _ _ _ c.requires.0 c.requires.1 _ _ _ _ c.start_of.ensures.0 c.end_of.ensures.0 c.start_of-2.ensures.0 c.end_of-2.ensures.0 c.join-end.new.ws _ c.join-end.auto.ws c.join-end.ensures.lower_bound)

pub returns : goal.returns
returns c = record {
  ws_after = joined_list_lem _ _ _ _ _ _ _ _ c.requires.0 c.requires.1 _ _ _ _ c.start_of.ensures.0 c.end_of.ensures.0 c.start_of-2.ensures.0 c.end_of-2.ensures.0 _ _ _ _ _ _ c.join-end.ensures.ws_after c.join-end.ensures.lower_bound c.join-end.ensures.frame c.replace_neighbour.ensures.ws_after c.replace_neighbour.ensures.lower_bound c.replace_neighbour.ensures.frame;
  lower_bound = joined_short _ _ _ _ _ _ _ _ c.requires.0 c.requires.1 _ _ _ _ c.start_of.ensures.0 c.end_of.ensures.0 c.start_of-2.ensures.0 c.end_of-2.ensures.0 _ _ _ _ _ _ c.join-end.ensures.ws_after c.join-end.ensures.lower_bound c.join-end.ensures.frame c.replace_neighbour.ensures.ws_after c.replace_neighbour.ensures.lower_bound c.replace_neighbour.ensures.frame;
  frame = joined_frame _ _ _ _ _ _ _ _ c.requires.0 c.requires.1 _ _ _ _ c.start_of.ensures.0 c.end_of.ensures.0 c.start_of-2.ensures.0 c.end_of-2.ensures.0 _ _ _ _ _ _ c.join-end.ensures.ws_after c.join-end.ensures.lower_bound c.join-end.ensures.frame c.replace_neighbour.ensures.ws_after c.replace_neighbour.ensures.lower_bound c.replace_neighbour.ensures.frame;
}
