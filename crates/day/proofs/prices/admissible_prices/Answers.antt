use Rattle.std.proofs.Common.{arith}
use Rattle.std.proofs.lemmas.Bool.Decides.{nat_tests}
use Rattle.day.proofs.Admitting.{ends_fit}
use Rattle.day.proofs.prices.admissible_prices.Goals as goal

-- the ends of a rulebook's band fit, so the limit over it is never refused
pub returns-in_err-limit : goal.returns-in_err-limit
returns-in_err-limit g c =
    let fit = ends_fit (g.R.Rulebook.meaning c.args.book.now) (g.met.R.Rulebook.sound c.args.book.now)
    c.args.contract.now.product c.args.contract.now.figures _ c.in_ok-band.ensures in
    grind (arith, nat_tests, fit.0, fit.1, c.in_err-limit.ensures)
