-- Before the rounds an unused entry is a span of id 0 with its flag up, and what they give is the rule's expansion once the stack is marked (Ends).
use native.Mathlib.Omega.{arith}
use Rattle.expand.proofs.Ends.{sizes_part, sizes_apart, entries_at, raised_at, lit_mutual, lit_all, most_some, gone_sizes, gone_entries, settled_at, expanded, expanded_strays, expanded_kept, expanded_given, expanded_told}
use Rattle.expand.proofs.expand.expand_regions.Goals as goal

pub enter_all-requires : goal.enter_all-requires
enter_all-requires c = (sizes_part _ _ _ _ _ _ c.requires.given.sizes _ c.requires.fact.1, sizes_apart _ _ _ _ _ _ c.requires.given.sizes _ c.requires.fact.1, entries_at c.requires.given.sizes c.requires.given.entries)

pub rounds-t-requires : goal.rounds-t-requires
rounds-t-requires c = let v = raised_at c.enter_all.ensures c.requires.given.sizes.idents in
    record {
      fact = (lit_mutual _ _ _ _ _ _ _ _ _ c.requires.fact.1 c.enter_all.ensures.marked c.requires.given _ v c.requires.fact.0, c.requires.fact.1, most_some _ _ _ c.most_rounds-most.ensures);
      lit = lit_all c.args.area.now _ _ _ _ _ _ _ _ c.requires.fact.1 c.enter_all.ensures.marked c.requires.given _ v;
    }

pub settle-requires : goal.settle-requires
settle-requires c = let v = raised_at c.enter_all.ensures c.requires.given.sizes.idents in
    let z = gone_sizes _ _ _ _ _ c.args.level _ _ _ _ c.requires.fact.1 c.enter_all.ensures.marked c.requires.given _ v _ c.most_rounds-most.ensures _ _ _ _ c.rounds-t.ensures.fact_2 in
    (omega (arith, c.requires.fact.1, z.idents), omega (arith, z.apart, z.idents), omega (arith, c.rounds-t.ensures.fact_2.few, z.idents), sizes_part _ _ _ _ _ _ z _ c.requires.fact.1, entries_at z (gone_entries _ _ _ _ _ c.args.level _ _ _ _ c.requires.fact.1 c.enter_all.ensures.marked c.requires.given _ v _ c.most_rounds-most.ensures _ _ _ _ c.rounds-t.ensures.fact_2))

pub returns : goal.returns
returns c = let v = raised_at c.enter_all.ensures c.requires.given.sizes.idents in
    let x = settled_at (gone_sizes _ _ _ _ _ c.args.level _ _ _ _ c.requires.fact.1 c.enter_all.ensures.marked c.requires.given _ v _ c.most_rounds-most.ensures _ _ _ _ c.rounds-t.ensures.fact_2).idents c.settle.ensures in
    record {
      ws_after = expanded _ _ _ _ _ c.args.level _ _ _ _ c.requires.fact.1 c.enter_all.ensures.marked c.requires.given _ v _ c.most_rounds-most.ensures _ _ _ _ c.rounds-t.ensures.fact_2 _ x;
      strays_value = expanded_strays _ _ _ _ _ c.args.level _ _ _ _ c.requires.fact.1 c.enter_all.ensures.marked c.requires.given _ v _ c.most_rounds-most.ensures _ _ _ _ c.rounds-t.ensures.fact_2;
      kept = expanded_kept _ _ _ _ _ c.args.level _ _ _ _ c.requires.fact.1 c.enter_all.ensures.marked c.requires.given _ v _ c.most_rounds-most.ensures _ _ _ _ c.rounds-t.ensures.fact_2 _ x;
      given_2 = expanded_given _ _ _ _ _ c.args.level _ _ _ _ c.requires.fact.1 c.enter_all.ensures.marked c.requires.given _ v _ c.most_rounds-most.ensures _ _ _ _ c.rounds-t.ensures.fact_2 _ x;
      story_value = expanded_told _ _ _ _ _ c.args.level _ _ _ _ c.requires.fact.1 c.enter_all.ensures.marked c.requires.given _ v _ c.most_rounds-most.ensures _ _ _ _ c.rounds-t.ensures.fact_2 _ _ c.rounds-t.ensures.story_value;
    }
