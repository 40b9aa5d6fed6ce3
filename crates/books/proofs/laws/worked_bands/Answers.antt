use Rattle.books.proofs.Cases.{worked_cases}
use Rattle.books.proofs.laws.worked_bands.Goals as goal

pub returns : goal.returns
returns c = worked_cases
