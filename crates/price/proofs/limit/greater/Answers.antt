use Rattle.price.proofs.Quotients.{greater_fraction, greater_end}
use Rattle.price.proofs.limit.greater.Goals as goal

pub returns-then-end-divisor : goal.returns-then-end-divisor
returns-then-end-divisor c =
    greater_fraction _ _ _ c.args.fraction.positive
    (simp (c.numerator.ensures, c.divisor.ensures) at c.if-end-divisor.true)

pub returns-else-end-divisor : goal.returns-else-end-divisor
returns-else-end-divisor c =
    simp (c.thousandths.ensures.0, c.thousandths.ensures.1)
    (greater_end _ _ _ (simp (c.numerator.ensures, c.divisor.ensures) at c.if-end-divisor.false))
