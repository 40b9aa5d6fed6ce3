-- What a rulebook means.
use Rattle.std.specs.Prelude.{◌≡◌, ℕ, ◌≤◌, Bool, cond, ◌&&◌, List, [], ◌∷◌, Some, None, Ok, Err, Option, Result}
use Rattle.price.specs.Sets.{PriceSet, Prices, last_end}
use Rattle.rulebook.specs.declared.letters.Letter.{Letter}
use Rattle.rulebook.specs.declared.hours.HoursClass.{HoursClass}
use Rattle.rulebook.specs.declared.faults.RuleFault.{RuleFault}
use Rattle.rulebook.specs.declared.faults.RuleFault.TheVariants.{ProductAbsent, LetterLacking}
use Rattle.rulebook.specs.declared.band.Band.{Band}
use Rattle.rulebook.specs.Letters.{letters}
use Rattle.rulebook.specs.Sheets.{Sheet, is_blank, WithinLimits}

-- the prices of a product: those of a set from a low to a high end, in thousandths of a pip
pub record PricesInBand : Type 0 where
  pub on_grid : PriceSet
  pub low : ℕ
  pub high : ℕ

-- a product that the book has: it alone determines the hours and the letters that are needed, its figures the prices
pub record Product : Type 0 where
  pub hours : HoursClass
  pub needs : Letter → Bool
  pub prices : Sheet → PricesInBand

-- whether a halt binds, and the product of each number, none where it is absent
pub record Meaning : Type 0 where
  pub halt_binds : Bool
  pub product : ℕ → Option Product

-- the first of the letters that passes a test
abbrev pub first : (Letter → Bool) → List Letter → Option Letter
first test [] = None
first test (letter ∷ later) = cond (test letter) (Some letter) (first test later)

-- the first letter, by rank, that is needed and blank
abbrev pub lacking : (Letter → Bool) → Sheet → Option Letter
lacking needs figures = first (λ letter. needs letter && is_blank (figures letter)) letters

abbrev pub hours_of_product : Option Product → Result HoursClass RuleFault
hours_of_product None = Err ProductAbsent
hours_of_product (Some product) = Ok product.hours

abbrev pub unless_lacking : Option Letter → PricesInBand → Result PricesInBand RuleFault
unless_lacking None prices = Ok prices
unless_lacking (Some letter) prices = Err (LetterLacking letter)

abbrev pub prices_of_product : Option Product → Sheet → Result PricesInBand RuleFault
prices_of_product None figures = Err ProductAbsent
prices_of_product (Some product) figures = unless_lacking (lacking product.needs figures) (product.prices figures)

-- what a rulebook answers of a product
abbrev pub hours_of : Meaning → ℕ → Result HoursClass RuleFault
hours_of rules number = hours_of_product (rules.product number)

-- what it answers of a product with its figures
abbrev pub prices_of : Meaning → ℕ → Sheet → Result PricesInBand RuleFault
prices_of rules number figures = prices_of_product (rules.product number) figures

-- a band with its grid by the set of its prices
abbrev pub in_band : {G : Type 0} → (G → PriceSet) → Result (Band G) RuleFault → Result PricesInBand RuleFault
in_band holds (Ok band) = Ok (record { on_grid = holds band.grid; low = band.low; high = band.high })
in_band holds (Err fault) = Err fault

-- what every rulebook owes: the prices of its grids are prices, and each end lies from 1,000 to the last end
pub record Sound (rules : Meaning) : Type 0 where
  pub priced : (number : ℕ) (figures : Sheet) (prices : PricesInBand) → WithinLimits figures
      → prices_of rules number figures ≡ Ok prices → Prices prices.on_grid
  pub low_least : (number : ℕ) (figures : Sheet) (prices : PricesInBand) → WithinLimits figures
      → prices_of rules number figures ≡ Ok prices → 1000 ≤ prices.low
  pub low_most : (number : ℕ) (figures : Sheet) (prices : PricesInBand) → WithinLimits figures
      → prices_of rules number figures ≡ Ok prices → prices.low ≤ last_end
  pub high_least : (number : ℕ) (figures : Sheet) (prices : PricesInBand) → WithinLimits figures
      → prices_of rules number figures ≡ Ok prices → 1000 ≤ prices.high
  pub high_most : (number : ℕ) (figures : Sheet) (prices : PricesInBand) → WithinLimits figures
      → prices_of rules number figures ≡ Ok prices → prices.high ≤ last_end
