use Rattle.price.proofs.Told.{sets_hold_what_they_say}
use Rattle.price.proofs.laws.sets_as_told.Goals as goal

pub returns : goal.returns
returns c = sets_hold_what_they_say
