-- The rule's contour is its walk, trimmed: what the walk leaves is the rule's list, and what `trim` makes of it the rule's trimmed list.
-- The pool before the list and its zeros after it are as the walk left them. The walk was cut short where its last walker is not back.
use Rattle.contour.proofs.WalkLaws.{trim_there, cut_is, contour_pool, contour-end}
use Rattle.contour.proofs.walk.walk_contour.Goals as goal

pub trim-requires : goal.trim-requires
trim-requires c = trim_there _ _ _ _ _ _ _ c.requires.0 _ _ c.walk-v.ensures

pub returns : goal.returns
returns c = record {
  ws_after = contour_pool _ _ _ _ _ _ _ c.requires.0 _ _ c.walk-v.ensures _ _ c.trim.ensures;
  end_value = contour-end _ _ _ _ _ _ _ c.requires.0 _ _ c.walk-v.ensures _ _ c.trim.ensures;
  cut_value = cut_is _ _ _ _ _ _ _ c.requires.0 _ _ c.walk-v.ensures _ c.at-back.ensures;
}
