-- The field that a caller lends, as the rules have it.
use Rattle.rules.specs.Field.{Field}
use Rattle.field.specs.declared.lent.Heightfield.{Heightfield}

abbrev pub seen : Heightfield → Field
seen f = record { w = f.w; h = f.h; index = f.index.now; count = f.count.now; area = f.area.now; con = f.con.now }
