use Rattle.days.proofs.Days.{worked_days}
use Rattle.days.proofs.laws.worked_days.Goals as goal

pub returns : goal.returns
returns c = worked_days
