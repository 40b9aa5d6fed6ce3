-- What a row of a book makes of figures: the letters that it needs, and its prices in thousandths of a pip.
use Rattle.std.specs.Prelude.{◌≡◌, ℕ, ◌+◌, ◌-◌, ◌*◌, ◌≤◌, max, Bool, true, false, not, ◌&&◌, ◌||◌, Some, None, Option, nat_le}
use Rattle.price.specs.declared.StepGrid.{StepGrid}
use Rattle.price.specs.Makers.{from_to}
use Rattle.price.specs.Sets.{multiples}
use Rattle.rulebook.specs.declared.Band.{Band}
use Rattle.rulebook.specs.declared.Letter.{Letter}
use Rattle.rulebook.specs.declared.Letter.TheVariants.{U, H}
use Rattle.rulebook.specs.Letters.{same}
use Rattle.rulebook.specs.Sheets.{Sheet}
use Rattle.rulebook.specs.Meaning.{PricesInBand, Product}
use Rattle.books.specs.declared.rows.Centre.{Centre}
use Rattle.books.specs.declared.rows.Centre.TheVariants.{TradingPrice, LastPrice, ReferencePrice, TheoreticalPrice}
use Rattle.books.specs.declared.rows.Row.{Row}
use Rattle.books.specs.Reference.{amount, trading_price, last_or_reference, apart}

-- the letter that a centre cannot do without
abbrev pub centre_letter : Centre → Letter
centre_letter TradingPrice = U
centre_letter LastPrice = U
centre_letter ReferencePrice = U
centre_letter TheoreticalPrice = H

abbrev pub is_swing : Option (Letter × Letter) → Letter → Bool
is_swing None letter = false
is_swing (Some (one, other)) letter = same letter one || same letter other

-- a row needs every letter of its centre and of its width
abbrev pub needs : Row → Letter → Bool
needs row letter = same letter (centre_letter row.centre) || (same letter row.of || is_swing row.swing letter)

abbrev pub centre : Centre → Option ℕ → Sheet → ℕ
centre TradingPrice None figures = last_or_reference figures
centre TradingPrice (Some step) figures = trading_price step figures
centre LastPrice step figures = last_or_reference figures
centre ReferencePrice step figures = amount (figures U)
centre TheoreticalPrice step figures = amount (figures H)

abbrev pub swing : Option (Letter × Letter) → Sheet → ℕ
swing None figures = 0
swing (Some (one, other)) figures = apart (amount (figures one)) (amount (figures other))

abbrev pub width : Row → Sheet → ℕ
width row figures = row.weight * amount (figures row.of) + 1000 * swing row.swing figures

-- the ends of a band: as wide either side, and never below one unit
abbrev pub ends : ℕ → ℕ → ℕ → PricesInBand
ends unit centre width = record {
  on_grid = multiples unit;
  low = max (1000 * centre - width) (1000 * unit);
  high = 1000 * centre + width;
}

abbrev pub row_product : Row → Product
row_product row = record {
  hours = row.hours;
  needs = needs row;
  prices = λ figures. ends row.unit (centre row.centre row.auction_step figures) (width row figures);
}

-- a band over a step grid, by the set of its prices
abbrev pub band_of : Band StepGrid → PricesInBand
band_of band = record { on_grid = multiples band.grid.step; low = band.low; high = band.high }

-- the numbers of a row are small enough for every figure
abbrev pub step_stands : Centre → Option ℕ → Bool
step_stands TradingPrice None = false
step_stands TradingPrice (Some step) = from_to 1 100_000 step
step_stands LastPrice step = true
step_stands ReferencePrice step = true
step_stands TheoreticalPrice step = true

abbrev pub is_trading : Centre → Bool
is_trading TradingPrice = true
is_trading LastPrice = false
is_trading ReferencePrice = false
is_trading TheoreticalPrice = false

-- a row with a swing has a lesser weight, and none has a swing about T
abbrev pub weight_stands : Centre → Option (Letter × Letter) → ℕ → Bool
weight_stands centre None weight = nat_le weight 320
weight_stands centre (Some letters) weight = not (is_trading centre) && nat_le weight 200

pub record Small (row : Row) : Type 0 where
  pub one_unit : 1 ≤ row.unit
  pub unit_fits : row.unit ≤ 10_000
  pub weight_fits : weight_stands row.centre row.swing row.weight ≡ true
  pub step_fits : step_stands row.centre row.auction_step ≡ true
