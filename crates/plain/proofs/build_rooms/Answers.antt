-- The arms are the cases of the outcome. A sound verdict gives what the stages require; a refusal is given before anything is written, or where
-- there are too many rooms.
use mathlib.Core.Path.{◌∙◌, ap}
use Prim.Native.Nat.{ℕ}
use lib.ListN.{replicate}
use borrow.Author.Rules.{rules}
use Rattle.plain.proofs.Checks.{rooms_admitted}
use Rattle.plain.proofs.Outcome.{rooms_refused, rooms_run_out, rooms_done}
use Rattle.plain.proofs.Calls.{lent_bytes, call_gives-plain_rooms, refused_no_rooms}
use Rattle.plain.proofs.build_rooms.Goals as goal

pub find_rooms-most-requires : goal.find_rooms-most-requires
find_rooms-most-requires c = rooms_admitted _ _ _ _ c.check_rooms.ensures c.in_ok-check_rooms.was

pub returns-then-most-gt-MOST_ROOMS : goal.returns-then-most-gt-MOST_ROOMS
returns-then-most-gt-MOST_ROOMS c = record {
  ids_after = rooms_run_out _ _ c.args.workspace.now c.args.ids.now _ c.check_rooms.ensures c.in_ok-check_rooms.was _ _ c.find_rooms-most.ensures _
      (c.clear.ensures ∙ ap (λ (n : ℕ). replicate n 0) c.find_rooms-most.auto.ws) c.if-most-gt-MOST_ROOMS.true;
  rooms = refused_no_rooms _ _ _ _;
}

pub returns-in_err-check_rooms : goal.returns-in_err-check_rooms
returns-in_err-check_rooms c = record {
  ids_after = search (rules, rooms_refused);
  rooms = search (rules, refused_no_rooms);
}

pub returns : goal.returns
returns c = let done = rooms_done _ _ c.args.workspace.now c.args.ids.now _ c.check_rooms.ensures c.in_ok-check_rooms.was _ _ c.find_rooms-most.ensures _
    (c.clear.ensures ∙ ap (λ (n : ℕ). replicate n 0) c.find_rooms-most.auto.ws) c.if-most-gt-MOST_ROOMS.false in
    record {
      ids_after = done;
      rooms = call_gives-plain_rooms _ _ c.args.workspace.now c.args.ids.now _ _ _ done (lent_bytes _ _ _ _ c.args.field.now.area.now _ c.codes_are_bytes.ensures);
    }
