use Rattle.price.proofs.Neighbours.{worked_cases}
use Rattle.price.proofs.laws.worked_cases.Goals as goal

pub returns : goal.returns
returns c = worked_cases
