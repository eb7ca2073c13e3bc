-- Each pass says which rows it redid; the kept list is as it was outside them.
use Rattle.refresh.proofs.Turns.{kept_size}
use Rattle.refresh.proofs.Entries.{passes_done}
use borrow.Author.Rules.{rules}
use Rattle.refresh.proofs.redo_passes.Goals as goal

pub redo_pass2-top-requires : goal.redo_pass2-top-requires
redo_pass2-top-requires c = (search rules, search rules, search rules, search rules, search rules, search (rules, kept_size))

pub returns : goal.returns
returns c = passes_done _ _ _ _ _ _ _ _ _ _ _ _ _ _ _ _ _ _ c.requires.1 c.saturating_sub-first.ensures c.redo_pass1-last.ensures.0 c.redo_pass1-last.ensures.1 c.redo_pass1-last.ensures.2 c.redo_pass1-last.ensures.4 c.redo_pass2-top.ensures.0 c.redo_pass2-top.ensures.1 c.redo_pass2-top.ensures.2 c.redo_pass2-top.ensures.3
