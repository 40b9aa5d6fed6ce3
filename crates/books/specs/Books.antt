-- The meaning of each book, and how a rule of the exchange is written as a row: shares in thousandths.
use Rattle.std.specs.Prelude.{ℕ, ◌*◌, true, false, cond, Some, None, Ok, Err, Option, Result}
use Rattle.price.specs.Makers.{from_to}
use Rattle.price.specs.Sets.{single}
use Rattle.rulebook.specs.declared.Letter.{Letter}
use Rattle.rulebook.specs.declared.Letter.TheVariants.{K}
use Rattle.rulebook.specs.declared.HoursClass.TheVariants.{B}
use Rattle.rulebook.specs.declared.RuleFault.{RuleFault}
use Rattle.rulebook.specs.declared.RuleFault.TheVariants.{ProductAbsent, LetterLacking}
use Rattle.rulebook.specs.Letters.{same}
use Rattle.rulebook.specs.Sheets.{Sheet}
use Rattle.rulebook.specs.Meaning.{Meaning, Product, lacking}
use Rattle.books.specs.declared.rows.Centre.{Centre}
use Rattle.books.specs.declared.rows.Centre.TheVariants.{TradingPrice, LastPrice, ReferencePrice, TheoreticalPrice}
use Rattle.books.specs.declared.rows.Row.{Row}
use Rattle.books.specs.Reference.{amount}
use Rattle.books.specs.Exchange.{Share, percent, half_a_percent, MeasuredFrom, trading_on, last_traded, reference, theoretical, Rule, single_issue_rule, flexible_rule}
use Rattle.books.specs.Rows.{needs, centre, row_product}

abbrev pub thousandths : Share → ℕ
thousandths (percent n) = 10 * n
thousandths half_a_percent = 5

abbrev pub centre_of : MeasuredFrom → Centre
centre_of (trading_on step) = TradingPrice
centre_of last_traded = LastPrice
centre_of reference = ReferencePrice
centre_of theoretical = TheoreticalPrice

abbrev pub step_of : MeasuredFrom → Option ℕ
step_of (trading_on step) = Some step
step_of last_traded = None
step_of reference = None
step_of theoretical = None

abbrev pub written : Rule → Row
written rule = record {
  unit = rule.unit;
  centre = centre_of rule.from;
  weight = thousandths rule.share;
  of = rule.share_of;
  swing = rule.moved;
  auction_step = step_of rule.from;
  hours = rule.hours;
}

-- a book of so many products, each with its row
abbrev pub row_in : ℕ → (ℕ → Rule) → ℕ → Result Row RuleFault
row_in last rule number = cond (from_to 1 last number) (Ok (written (rule number))) (Err ProductAbsent)

abbrev pub product_of : Result Row RuleFault → Option Product
product_of (Ok row) = Some (row_product row)
product_of (Err fault) = None

abbrev pub product_in : ℕ → (ℕ → Rule) → ℕ → Option Product
product_in last rule number = product_of (row_in last rule number)

-- the price that the prices of a row are measured from, or the first letter that it lacks
abbrev pub centre_unless : Option Letter → ℕ → Result ℕ RuleFault
centre_unless None price = Ok price
centre_unless (Some letter) price = Err (LetterLacking letter)

abbrev pub entry_centre : Result Row RuleFault → Sheet → Result ℕ RuleFault
entry_centre (Ok row) figures =
    centre_unless (lacking (needs row) figures) (centre row.centre row.auction_step figures)
entry_centre (Err fault) figures = Err fault

abbrev pub single_issue : Meaning
single_issue = record { halt_binds = true; product = product_in 22 single_issue_rule }

abbrev pub flexible : Meaning
flexible = record { halt_binds = true; product = product_in 4 flexible_rule }

-- the previous settlement price, from 1,000 times it to 1,000 times it
abbrev pub at_settlement : Product
at_settlement = record {
  hours = B;
  needs = λ letter. same letter K;
  prices = λ figures. record {
    on_grid = single (amount (figures K));
    low = 1000 * amount (figures K);
    high = 1000 * amount (figures K);
  };
}

-- a halt does not bind compression trading
abbrev pub compression : Meaning
compression = record { halt_binds = false; product = λ number. cond (from_to 1 2 number) (Some at_settlement) None }
