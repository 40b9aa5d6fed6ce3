use Rattle.session.proofs.Wholes.{pieces_are_the_whole}
use Rattle.session.proofs.laws.pieces_are_the_whole.Goals as goal

pub returns : goal.returns
returns c = pieces_are_the_whole
