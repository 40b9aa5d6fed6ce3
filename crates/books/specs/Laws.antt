-- The books against the exchange's rules.
use Rattle.std.specs.Prelude.{◌≡◌, ℕ, ◌<◌, ◌≤◌, true, ◌⊎◌, Some, None, Ok, Option}
use Rattle.price.specs.Sets.{◌among◌, between}
use Rattle.rulebook.specs.declared.Letter.{Letter}
use Rattle.rulebook.specs.declared.Letter.TheVariants.{B, O, U, H, K}
use Rattle.rulebook.specs.declared.HoursClass.TheVariants.{B as ClassB}
use Rattle.rulebook.specs.Sheets.{Sheet, WithinLimits}
use Rattle.rulebook.specs.Meaning.{PricesInBand, Product, Meaning, hours_of, prices_of}
use Rattle.books.specs.Reference.{mid_price, MidPrice}
use Rattle.books.specs.Exchange.{MeasuredFrom, trading_on, last_traded, reference, theoretical, Rule, Admits, single_issue_rule, flexible_rule, AdmitsSettlement}
use Rattle.books.specs.Books.{single_issue, flexible, compression}

-- the prices on a book's grid and inside its band are exactly those that are admitted
abbrev pub Exactly : Meaning → ℕ → Sheet → (ℕ → Type 0) → Type 0
Exactly rules number figures Admitted =
    (prices : PricesInBand) → prices_of rules number figures ≡ Ok prices → (price : ℕ)
    → (price among between prices.low prices.high prices.on_grid → Admitted price)
    × (Admitted price → price among between prices.low prices.high prices.on_grid)

-- for every row and all figures, and nothing rounded
pub record BooksAdmitWhatTheRulesAdmit : Type 0 where
  pub single_issue_trading : (number : ℕ) (figures : Sheet) → WithinLimits figures
      → Exactly single_issue number figures (Admits (single_issue_rule number) figures)
  pub flexible_trading : (number : ℕ) (figures : Sheet) → WithinLimits figures
      → Exactly flexible number figures (Admits (flexible_rule number) figures)
  pub compression_trading : (number : ℕ) (figures : Sheet) → WithinLimits figures
      → Exactly compression number figures (AdmitsSettlement figures)

-- the letter that the price measured from cannot do without
abbrev pub starting_letter : MeasuredFrom → Letter
starting_letter (trading_on step) = U
starting_letter last_traded = U
starting_letter reference = U
starting_letter theoretical = H

abbrev pub Moves : Option (Letter × Letter) → Letter → Type 0
Moves None letter = ⊥
Moves (Some (one, other)) letter = (letter ≡ one) ⊎ (letter ≡ other)

-- a rule names a letter: the one it is measured from, the one it takes a share of, or one that moves it
abbrev pub Names : Rule → Letter → Type 0
Names rule letter = (letter ≡ starting_letter rule.from) ⊎ ((letter ≡ rule.share_of) ⊎ Moves rule.moved letter)

-- a book that has the products 1 to a last one, each with the hours of its rule, and needing the letters that it names
pub record HasItsProducts (last : ℕ) (rule : ℕ → Rule) (rules : Meaning) : Type 0 where
  pub present : (number : ℕ) → 1 ≤ number → number ≤ last → hours_of rules number ≡ Ok (rule number).hours
  pub absent : (number : ℕ) → (number ≡ 0) ⊎ (last < number) → rules.product number ≡ None
  pub needed : (number : ℕ) (product : Product) (letter : Letter) → rules.product number ≡ Some product
      → Names (rule number) letter → product.needs letter ≡ true
  pub no_other : (number : ℕ) (product : Product) (letter : Letter) → rules.product number ≡ Some product
      → product.needs letter ≡ true → Names (rule number) letter

-- a book that has the products 1 to a last one, each with hours B, and needing the settlement price alone
pub record HasSettlementProducts (last : ℕ) (rules : Meaning) : Type 0 where
  pub present : (number : ℕ) → 1 ≤ number → number ≤ last → hours_of rules number ≡ Ok ClassB
  pub absent : (number : ℕ) → (number ≡ 0) ⊎ (last < number) → rules.product number ≡ None
  pub needed : (number : ℕ) (product : Product) → rules.product number ≡ Some product → product.needs K ≡ true
  pub no_other : (number : ℕ) (product : Product) (letter : Letter) → rules.product number ≡ Some product
      → product.needs letter ≡ true → letter ≡ K

pub record BooksHaveTheirProducts : Type 0 where
  pub single_issue_trading : HasItsProducts 22 single_issue_rule single_issue
  pub flexible_trading : HasItsProducts 4 flexible_rule flexible
  pub compression_trading : HasSettlementProducts 2 compression

-- the mid-price is the nearest multiple of the auction step to half the sum of bid and offer
abbrev pub TheMidPriceIsNearest : Type 0
TheMidPriceIsNearest =
    (step : ℕ) (figures : Sheet) → 1 ≤ step → step ≤ 100_000
    → MidPrice step (figures B) (figures O) (mid_price step figures)
