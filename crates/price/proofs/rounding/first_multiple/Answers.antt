use Rattle.std.proofs.Common.{arith}
use Rattle.price.proofs.Quotients.{first_multiple, first_within}
use Rattle.price.proofs.rounding.first_multiple.Goals as goal

pub overflow_mul-result : goal.overflow_mul-result
overflow_mul-result c =
    simp c.div_ceil.ensures (omega (arith, first_within c.args.step c.args.least c.requires.positive))

pub returns : goal.returns
returns c = simp c.div_ceil.ensures (first_multiple c.args.step c.args.least c.requires.positive)
