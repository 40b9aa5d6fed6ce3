use Rattle.books.proofs.Cases.{the_mid_price_is_nearest}
use Rattle.books.proofs.laws.mid_price_is_nearest.Goals as goal

pub returns : goal.returns
returns c = the_mid_price_is_nearest
