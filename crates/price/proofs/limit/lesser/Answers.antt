use Rattle.price.proofs.Quotients.{lesser_fraction, lesser_end}
use Rattle.price.proofs.limit.lesser.Goals as goal

pub returns-then-numerator-end : goal.returns-then-numerator-end
returns-then-numerator-end c =
    lesser_fraction _ _ _ c.args.fraction.positive
    (simp (c.numerator.ensures, c.divisor.ensures) at c.if-numerator-end.true)

pub returns-else-numerator-end : goal.returns-else-numerator-end
returns-else-numerator-end c =
    simp (c.thousandths.ensures.0, c.thousandths.ensures.1)
    (lesser_end _ _ _ (simp (c.numerator.ensures, c.divisor.ensures) at c.if-numerator-end.false))
