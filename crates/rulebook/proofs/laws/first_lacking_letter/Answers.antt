use Rattle.rulebook.proofs.Lackings.{the_first_lacking_letter_is_told}
use Rattle.rulebook.proofs.laws.first_lacking_letter.Goals as goal

pub returns : goal.returns
returns c = the_first_lacking_letter_is_told
