-- The board: how a day stands, as far as calls are answered by it.
use Rattle.std.specs.Prelude.{ℕ, Bool, ◌&&◌, Option, Result, nat_le}
use Rattle.price.specs.Sets.{PriceSet}
use Rattle.rulebook.specs.declared.RuleFault.{RuleFault}
use Rattle.rulebook.specs.Meaning.{Meaning, PricesInBand, hours_of, prices_of}
use Rattle.rulebook.specs.Sheets.{Sheet}
use Rattle.history.specs.declared.calls.Entry.{Entry}
use Rattle.history.specs.History.{History, minute, listed, product, figures, collar, halted}
use Rattle.history.specs.Prices.{admissible_in, closing_in}
use Rattle.history.specs.Orders.{order, orders, waits, ends, counters}

pub record Board : Type 0 where
  pub minute : ℕ
  -- how many contracts are listed, and of each its product, figures, collar and whether it is halted
  pub listed : ℕ
  pub product : ℕ → ℕ
  pub figures : ℕ → Sheet
  pub collar : ℕ → Option (ℕ × ℕ)
  pub halted : ℕ → Bool
  -- how many orders were accepted, and of each its entry, the end of the hours in which it came and whether it waits
  pub orders : ℕ
  pub entry : ℕ → Entry
  pub until : ℕ → ℕ
  pub waits : ℕ → Bool

-- the board as the history says it
abbrev pub board : Meaning → History → Board
board rules h = record {
  minute = minute h;
  listed = listed h;
  product = product h;
  figures = figures h;
  collar = collar h;
  halted = halted h;
  orders = orders h;
  entry = λ k. (order h k).entry;
  until = ends rules h;
  waits = waits rules h;
}

-- what the rulebook says of a contract's prices
abbrev pub band_on : Meaning → Board → ℕ → Result PricesInBand RuleFault
band_on rules b contract = prices_of rules (b.product contract) (b.figures contract)

abbrev pub admissible_on : Meaning → Board → ℕ → PriceSet
admissible_on rules b contract = admissible_in (band_on rules b contract) (b.collar contract)

-- when the hours of a contract that hold the present minute end
abbrev pub closing_on : Meaning → Board → ℕ → Option ℕ
closing_on rules b contract = closing_in (hours_of rules (b.product contract)) b.minute

-- an order waits and counters an entry
abbrev pub meets_on : Board → Entry → ℕ → Bool
meets_on b entry k = b.waits k && counters (b.entry k) entry

-- an order lapses by a minute
abbrev pub lapses_on : Board → ℕ → ℕ → Bool
lapses_on b to k = b.waits k && nat_le (b.until k) to
