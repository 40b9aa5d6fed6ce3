use Rattle.std.proofs.Common.{rules}
use Rattle.price.proofs.Search.{beside_closest}
use Rattle.price.proofs.near.beside.Goals as goal

pub returns : goal.returns
returns c = beside_closest _ _ _ _ _ c.args.fraction.positive (search rules)

pub returns-in_err-price : goal.returns-in_err-price
returns-in_err-price c = beside_closest _ _ _ _ _ c.args.fraction.positive (search rules)
