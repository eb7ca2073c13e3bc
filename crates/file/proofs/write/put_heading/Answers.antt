-- `write::put_heading` meets its contract: five pieces, each written after the one before it, are the rule's line.
-- The byte strings are the rule's texts, by computation.
use Rattle.file.proofs.Lines.{heading_room, heading_room₁, heading_room₂, heading_room₃, heading_room₄, heading_done, name_distance, name_region, name_overlaps, name_cut}
use Rattle.file.proofs.write.put_heading.Goals as goal

pub put_named-a-requires : goal.put_named-a-requires
put_named-a-requires c = search (heading_room, name_distance, name_region, name_overlaps, name_cut)

pub put_named-b-requires : goal.put_named-b-requires
put_named-b-requires c = search (heading_room₁, name_distance, name_region, name_overlaps, name_cut)

pub put_named-c-requires : goal.put_named-c-requires
put_named-c-requires c = search (heading_room₂, name_distance, name_region, name_overlaps, name_cut)

pub put_named-d-requires : goal.put_named-d-requires
put_named-d-requires c = search (heading_room₃, name_distance, name_region, name_overlaps, name_cut)

pub put-requires : goal.put-requires
put-requires c = search (heading_room₄, name_distance, name_region, name_overlaps, name_cut)

pub returns : goal.returns
returns c = heading_done _ _ _ _ _ c.requires _ _ _ _ name_distance name_region name_overlaps name_cut _ _ c.put_named-a.ensures _ _ c.put_named-b.ensures _ _ c.put_named-c.ensures _ _ c.put_named-d.ensures _ _ c.put.ensures
