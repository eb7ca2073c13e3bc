-- The ways out are the cases of the outcome, in the form that is asked for. A field that is not refused gives what the stages require; a refusal is given before
-- anything is written, or where growth is stopped.
use Rattle.watershed.specs.Form.{form_of}
use Rattle.watershed.proofs.RegionOutcome.{regions_refused, admitted, regions_handed, regions_done}
use Rattle.watershed.proofs.Rooms.{refused_no_rooms, call_gives_rooms}
use borrow.Author.Rules.{rules}
use Rattle.watershed.proofs.regions.build_form.Goals as goal

pub find_regions-requires : goal.find_regions-requires
find_regions-requires c = admitted _ _ _ _ _ _ c.check_regions.ensures c.in_ok-check_regions.was

pub returns-in_err-check_regions : goal.returns-in_err-check_regions
returns-in_err-check_regions c = record {
  fact = search (rules, regions_refused);
  rooms = search (rules, refused_no_rooms);
}

pub returns-in_err-r : goal.returns-in_err-r
returns-in_err-r c = record {
  fact =
      let stopped = regions_handed _ _ _ c.args.workspace.now c.args.ids.now _ c.check_regions.ensures c.in_ok-check_regions.was _ _ _ c.find_regions.ensures.fact _
      c.find_regions.ensures.ws_after (form_of c.args.form) _ c.in_err-r.was in
      search (rules, stopped);
  rooms = search (rules, refused_no_rooms);
}

pub returns : goal.returns
returns c = let done = regions_done _ _ _ c.args.workspace.now c.args.ids.now _ c.check_regions.ensures c.in_ok-check_regions.was _ _ _ c.find_regions.ensures.fact _ c.find_regions.ensures.ws_after _ _ _ _ c.in_ok-r.was c.find_regions.ensures.bytes c.give_form.ensures in
    record {
      fact = done;
      rooms = call_gives_rooms _ _ _ _ _ c.args.workspace.now c.args.ids.now _ _ _ c.find_regions.ensures.bytes done;
    }
