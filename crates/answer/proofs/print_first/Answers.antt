-- `answer::print_first` meets its contract: the parts that are lent are as long as asked, since the lists are.
use native.Mathlib.Omega.{arith}
use lib.ListN.{length-take}
use Rattle.answer.proofs.print_first.Goals as goal

pub print_field-requires : goal.print_field-requires
print_field-requires c = record {
  fitting = record {
    cells = c.requires.2.0;
    spans = simp length-take (omega (arith, c.requires.2.1));
    idents = simp length-take (omega (arith, c.requires.0.spans₁, c.requires.1.idents, c.requires.2.1));
    room = c.requires.1.room;
  };
  own = record {
    raws = simp length-take (omega (arith, c.requires.0.spans₁, c.requires.1.raws, c.requires.2.1));
    blurs = simp length-take (omega (arith, c.requires.0.spans₁, c.requires.1.blurs, c.requires.2.1));
    work = simp length-take (omega (arith, c.requires.0.spans₁, c.requires.1.work, c.requires.2.1));
  };
}
