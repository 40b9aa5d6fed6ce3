-- What a broker gets who asks a set of prices for n / d: both numbers with the nearest price, or the number of the refusal.
use Rattle.std.specs.Prelude.{ℕ, ℤ, Ok, Err, Option, Result}
use Rattle.price.specs.Closest.{closest}
use Rattle.price.specs.Makers.{fraction}
use Rattle.price.specs.Sets.{PriceSet}

abbrev pub with_nearest : PriceSet → Result (ℕ × ℕ) ℕ → Result (ℕ × ℕ × Option (ℕ × ℤ)) ℕ
with_nearest set (Ok (n, d)) = Ok (n, d, closest set n d)
with_nearest set (Err number) = Err number

abbrev pub quoted : PriceSet → ℕ → ℕ → Result (ℕ × ℕ × Option (ℕ × ℤ)) ℕ
quoted set n d = with_nearest set (fraction n d)
