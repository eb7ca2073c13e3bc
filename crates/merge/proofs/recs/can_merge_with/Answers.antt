-- `merge::recs::can_merge_with` meets its contract: the rule's three tests, in its order.
use mathlib.Core.Path.{sym, ◌∙◌}
use mathlib.Core.Bool.{false≢true}
use Rattle.merge.proofs.SuitLaws.{live_borne, suits_area, suits-many, suits_end}
use borrow.Author.Rules.{rules}
use borrow.Author.Tests.{ne_eqb}
use Rattle.merge.proofs.recs.can_merge_with.Goals as goal
use Rattle.merge.proofs.recs.can_merge_with.Goals.{then-ws-m, else-ws-m}

pub floor_in-requires : goal.floor_in-requires
floor_in-requires c = (search rules, search rules, search live_borne)

pub returns-then-many-le1 : goal.returns-then-many-le1
returns-then-many-le1 c = elim c.if-ws-m.branch [
  | then-ws-m w ↦ suits_end _ _ _ _ _ _ w.if-ws-m.true _ _ w.list_of.ensures w.many.ensures (sym w.value-is ∙ c.if-many-le1.true) c.requires.0 _ c.floor_in.ensures
  | else-ws-m w ↦ absurd (false≢true (sym (ne_eqb _ _ w.if-ws-m.false) ∙ sym w.value-is ∙ c.if-many-le1.true))
]

pub returns-else-many-le1 : goal.returns-else-many-le1
returns-else-many-le1 c = elim c.if-ws-m.branch [
  | then-ws-m w ↦ c.if-many-le1.false ∙ suits-many _ _ _ _ _ _ w.if-ws-m.true _ _ w.list_of.ensures w.many.ensures (sym w.value-is ∙ c.if-many-le1.false)
  | else-ws-m w ↦ c.if-many-le1.false ∙ suits_area _ _ _ _ _ _ w.if-ws-m.false
]
