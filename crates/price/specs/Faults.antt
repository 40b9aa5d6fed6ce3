-- The faults of this crate: the number under which each is refused, and its words.
use Rattle.std.specs.Prelude.{ℕ, List, codes}
use Rattle.price.specs.declared.faults.PriceFault.{PriceFault}
use Rattle.price.specs.declared.faults.PriceFault.TheVariants.{FractionOutsideLimits, GridOutOfBounds}

abbrev pub number : PriceFault → ℕ
number FractionOutsideLimits = 11
number GridOutOfBounds = 18

abbrev pub words : PriceFault → List ℕ
words FractionOutsideLimits = codes "11: the fraction is outside its limits"
words GridOutOfBounds = codes "18: a step, a price or an end is out of its bounds"
