-- The field but for its connections, as the code passes it on.
use Rattle.std.specs.Prelude.{ℕ, List}
use Rattle.rules.specs.Field.{Field}
use Rattle.field.specs.Lent.{lent}
use Rattle.mend.specs.Walk.{ground}
use Rattle.mend.specs.declared.grid.Grid.{Grid}

-- without connections
abbrev pub bare : Grid → Field
bare g = ground g.w g.h g.index.now g.count.now g.area.now

-- with connections con
abbrev pub linked : Grid → List ℕ → Field
linked g con = lent g.w g.h g.index.now g.count.now g.area.now con
