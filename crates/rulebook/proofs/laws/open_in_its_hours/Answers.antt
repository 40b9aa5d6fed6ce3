use Rattle.rulebook.proofs.Opening.{open_exactly_in_its_hours}
use Rattle.rulebook.proofs.laws.open_in_its_hours.Goals as goal

pub returns : goal.returns
returns c = open_exactly_in_its_hours
