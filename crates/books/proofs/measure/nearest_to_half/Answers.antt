use Rattle.books.specs.Mid.{found_bounded}
use Rattle.books.proofs.measure.nearest_to_half.Goals as goal

pub returns-clause-bound : goal.returns-clause-bound
returns-clause-bound c = found_bounded _ _ _ _ _ c.in_ok-price.ensures
