-- A flag that is down, a span that finds nothing and one that is noted: in each case what tries leave (Trying); there is room to note a span whose flag is up.
use mathlib.Core.Path.{refl}
use borrow.Author.Rules.{rules}
use Rattle.expand.specs.Front.{Up}
use lib.ListN.{length}
use Rattle.expand.proofs.Trying.{board_sight, moved_none, moved_still, note_room, up_is, tried_down, tried_nothing, tried_found, moved_one, tried_one}
use Rattle.expand.proofs.tries.try_span.Goals as goal

pub returns-then-ws-i-eq0 : goal.returns-then-ws-i-eq0
returns-then-ws-i-eq0 c = record {
  fact = search (rules, moved_none);
  tried = search (rules, tried_down);
}

pub takes-f-requires : goal.takes-f-requires
takes-f-requires c = search (rules, board_sight)

pub returns-then-f : goal.returns-then-f
returns-then-f c = let up : Up (length c.args.area.now) c.args.at.changes c.args.ws.now c.args.span.0 = up_is _ _ _ c.args.span.0 _ c.args.ws.now c.requires.closed.1 refl c.if-ws-i-eq0.false in
    record {
      fact = moved_still _ _ _ _ _ _ c.requires.board.0 _ c.requires.board.1 up _ _ c.takes-f.ensures.1;
      tried = tried_nothing _ _ _ _ _ _ _ _ c.takes-f.ensures.0 _ _ c.takes-f.ensures.1 c.if-f.true;
    }

pub note-requires : goal.note-requires
note-requires c = let up : Up (length c.args.area.now) c.args.at.changes c.args.ws.now c.args.span.0 = up_is _ _ _ c.args.span.0 _ c.args.ws.now c.requires.closed.1 refl c.if-ws-i-eq0.false in
    (search rules, note_room c.args.area.now _ _ _ _ _ c.requires.board.0 _ c.requires.board.1 up, search rules, search rules)

pub returns : goal.returns
returns c = let up : Up (length c.args.area.now) c.args.at.changes c.args.ws.now c.args.span.0 = up_is _ _ _ c.args.span.0 _ c.args.ws.now c.requires.closed.1 refl c.if-ws-i-eq0.false in
    record {
      fact = moved_one _ _ _ _ _ _ c.requires.board.0 _ c.requires.board.1 up _ _ _ c.requires.closed.1
          (tried_found _ c.args.at.changes _ _ _ _ _ _ c.takes-f.ensures.0 c.requires.board.1 c.requires.board.0.few c.if-f.false) _ _ c.takes-f.ensures.1 _ c.note.ensures;
      tried = tried_one _ _ _ _ _ _ c.requires.board.0 _ c.requires.board.1 up _ _ _ c.requires.closed.1 _ _ c.note.ensures;
    }
