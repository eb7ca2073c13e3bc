-- `load_piece` meets its contract: refused, nothing changes; otherwise the piece is fed.
-- Each way out is a law of `Ways.antt`.
use Rattle.load.proofs.Ways.{piece_short, piece_going, piece_over}
use Rattle.load.proofs.load_piece.Goals as goal
use Rattle.load.proofs.load_piece.Goals.{else-is_going-via-then-is_going+else-not-is_roomy, else-is_going-via-else-is_going}

pub returns-then-not-is_roomy : goal.returns-then-not-is_roomy
returns-then-not-is_roomy c = piece_short _ _ _ _ _ _ _ c.is_going.ensures c.if-is_going.true c.is_roomy.ensures c.if-not-is_roomy.true _

pub returns : goal.returns
returns c =
    elim c.else-is_going.branch [
      | else-is_going-via-then-is_going+else-not-is_roomy w ↦ piece_going _ _ _ _ _ _ _ c.feed.ensures _ _ c.is_going.ensures w.if-is_going.true w.is_roomy.ensures w.if-not-is_roomy.false
      | else-is_going-via-else-is_going w ↦ piece_over _ _ _ _ _ _ _ c.feed.ensures _ c.is_going.ensures w.if-is_going.false
    ]
