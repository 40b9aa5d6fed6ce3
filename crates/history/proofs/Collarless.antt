-- Where there is no collar.
use Rattle.std.proofs.Common.{◌*◌, leb, arith}
use Rattle.std.proofs.lemmas.Bool.{and_parts, and_from, leb-true, le-leb}
use Rattle.price.specs.Sets.{last_end}
use Rattle.history.specs.Law.{NoCollarTakesNothing}
use Rattle.history.proofs.Next.{same}

pub no_collar_takes_nothing : NoCollarTakesNothing
no_collar_takes_nothing rules bounds number figures prices within is price = same _ _
    (λ inside. (and_parts _ _ inside).0)
    (λ there.
    let ends = (and_parts (prices.on_grid price) _ there).1 in
    let (above, below) = and_parts (leb prices.low (1000 * price)) (leb (1000 * price) prices.high) ends in
    let least = leb-true prices.low (1000 * price) above in
    let most = leb-true (1000 * price) prices.high below in
    let low = bounds.low_least number figures prices within is in
    let high = bounds.high_most number figures prices within is in
    and_from _ _ there (and_from _ _ (le-leb 1000 (1000 * price) (omega arith)) (le-leb (1000 * price) last_end (omega arith))))
