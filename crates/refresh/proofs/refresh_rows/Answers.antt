-- The passes are the rule's, and the blur forgets what the rows held that were used for comparing.
use Rattle.refresh.proofs.Entries.{first_number, last_number, top_number, next_number, raw_size, kept_size, low_number, high_number, low_high, high_in, all_refreshed}
use borrow.Author.Rules.{rules}
use Rattle.refresh.proofs.refresh_rows.Goals as goal

pub overflow_add-last : goal.overflow_add-last
overflow_add-last c = search (rules, next_number)

pub blur_rows-requires : goal.blur_rows-requires
blur_rows-requires c = (search rules, search (rules, low_high), search (rules, high_in), search (rules, raw_size), search (rules, kept_size))

pub overflow_cast-result : goal.overflow_cast-result
overflow_cast-result c = first_number _ _ _ _ _ _ c.requires.0 _ _ _ _ _ _ _ _ _ _ _ c.redo_passes-first.ensures

pub overflow_cast-result-2 : goal.overflow_cast-result-2
overflow_cast-result-2 c = last_number _ _ _ _ _ _ c.requires.0 _ _ _ _ _ _ _ _ _ _ _ c.redo_passes-first.ensures

pub overflow_cast-result-3 : goal.overflow_cast-result-3
overflow_cast-result-3 c = top_number _ _ _ _ _ _ c.requires.0 _ _ _ _ _ _ _ _ _ _ _ c.redo_passes-first.ensures

pub overflow_cast-result-4 : goal.overflow_cast-result-4
overflow_cast-result-4 c = last_number _ _ _ _ _ _ c.requires.0 _ _ _ _ _ _ _ _ _ _ _ c.redo_passes-first.ensures

pub overflow_cast-result-5 : goal.overflow_cast-result-5
overflow_cast-result-5 c = low_number _ _ _ _ _ _ c.requires.0 _ _ _ _ _ _ _ _ _ _ _ c.redo_passes-first.ensures _ _ c.saturating_sub-low.ensures c.min-high.ensures

pub overflow_cast-result-6 : goal.overflow_cast-result-6
overflow_cast-result-6 c = high_number _ _ _ _ _ _ c.requires.0 _ _ _ _ _ _ _ _ _ _ _ c.redo_passes-first.ensures _ _ c.saturating_sub-low.ensures c.min-high.ensures

pub returns : goal.returns
returns c = all_refreshed _ _ _ _ _ _ c.requires.0 _ _ _ _ _ _ _ _ _ _ _ c.redo_passes-first.ensures _ _ _ _ c.saturating_sub-low.ensures c.min-high.ensures c.requires.5 c.blur_rows.ensures c.greatest.ensures
