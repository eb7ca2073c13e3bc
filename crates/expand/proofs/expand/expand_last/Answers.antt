-- The stack holds the rule's list, is expanded at level 0, and is cleared; so past the source distances all is as it was (Blanks).
use borrow.Author.Rules.{rules}
use Rattle.expand.proofs.Blanks.{filled_mutual, filled_given, last_view, last-strays, last_kept, last-told}
use Rattle.expand.proofs.expand.expand_last.Goals as goal

pub expand_regions-r-requires : goal.expand_regions-r-requires
expand_regions-r-requires c = record {
  fact = (search (rules, filled_mutual), search rules);
  given = search (rules, filled_given);
}

pub returns : goal.returns
returns c = record {
  ws_after = last_view _ _ _ _ _ _ _ c.fill_stack-fill.ensures c.requires.last _ _ c.expand_regions-r.ensures.kept _ c.clear_part.auto.ws c.clear_part.ensures.0 c.clear_part.ensures.1 c.expand_regions-r.ensures.ws_after;
  strays_value = last-strays _ _ _ _ _ _ _ c.fill_stack-fill.ensures c.requires.last _ c.expand_regions-r.ensures.strays_value;
  ws_unchanged = last_kept _ _ _ _ _ _ _ c.fill_stack-fill.ensures c.requires.last c.expand_regions-r.new.ids _ c.expand_regions-r.ensures.kept _ c.clear_part.auto.ws c.clear_part.ensures.0 c.clear_part.ensures.1;
  story_value = last-told _ _ _ _ _ _ _ c.fill_stack-fill.ensures c.requires.last _ _ c.expand_regions-r.ensures.story_value;
}
