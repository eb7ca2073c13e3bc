-- Pass 1 leaves no value above 510, which pass 2 requires; both read the cells that are written first.
use Rattle.distance.proofs.Walks.{raw-end}
use borrow.Author.Rules.{rules}
use Rattle.distance.proofs.distances.calculate_distance_field.Goals as goal

pub returns : goal.returns
returns c = (search (rules, raw-end), search rules)
