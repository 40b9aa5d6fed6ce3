-- Price sets. A price is a whole number of pips; a set says of every number whether it is among its prices.
use Rattle.std.specs.Prelude.{◌≡◌, ℕ, ◌*◌, ◌%◌, ◌≤◌, Bool, true, ◌&&◌, ◌==◌, nat_le}

infix 4 ◌among◌
abbrev pub PriceSet : Type 0
PriceSet = ℕ → Bool

abbrev pub ◌among◌ : ℕ → PriceSet → Type 0
price among set = set price ≡ true

-- the last price that any grid holds
abbrev pub last_price : ℕ
last_price = 500_000_000_000_000

-- the last end that a limit may have, in thousandths of a pip
abbrev pub last_end : ℕ
last_end = 220_000_000_000_000

-- the prices of a set lie from 1 to the last price
pub record Prices (set : PriceSet) : Type 0 where
  pub positive : (price : ℕ) → price among set → 1 ≤ price
  pub bounded : (price : ℕ) → price among set → price ≤ last_price

-- every positive multiple of a step, up to the last price
abbrev pub multiples : ℕ → PriceSet
multiples step price = nat_le 1 price && (nat_le price last_price && price % step == 0)

-- one price and no other
abbrev pub single : ℕ → PriceSet
single price other = other == price

-- the prices of a set from a low end to a high end, both in thousandths of a pip
abbrev pub between : ℕ → ℕ → PriceSet → PriceSet
between low high set price = set price && (nat_le low (1000 * price) && nat_le (1000 * price) high)
