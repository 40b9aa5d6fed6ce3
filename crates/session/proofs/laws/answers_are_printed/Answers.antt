use Rattle.session.proofs.Wholes.{answers_are_printed}
use Rattle.session.proofs.laws.answers_are_printed.Goals as goal

pub returns : goal.returns
returns c = answers_are_printed
