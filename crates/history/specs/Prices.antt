-- Which prices are admissible: on the rulebook's grid, inside its band and inside the collar.
use Rattle.std.specs.Prelude.{ℕ, ◌*◌, Bool, false, ◌&&◌, is_some, Some, None, Ok, Err, Option, Result}
use Rattle.price.specs.Makers.{from_to}
use Rattle.price.specs.Sets.{PriceSet, between, last_end}
use Rattle.rulebook.specs.declared.HoursClass.{HoursClass}
use Rattle.rulebook.specs.declared.RuleFault.{RuleFault}
use Rattle.rulebook.specs.Hours.{closing}
use Rattle.rulebook.specs.Meaning.{Meaning, PricesInBand, hours_of, prices_of}
use Rattle.history.specs.History.{History, minute, product, figures, collar, halted}

-- inside a collar, whose ends are pips; without one, from one pip to the last end
abbrev pub inside_collar : Option (ℕ × ℕ) → PriceSet → PriceSet
inside_collar None set = between 1000 last_end set
inside_collar (Some (low, high)) set = between (1000 * low) (1000 * high) set

abbrev pub admissible_in : Result PricesInBand RuleFault → Option (ℕ × ℕ) → PriceSet
admissible_in (Ok prices) ends = inside_collar ends (between prices.low prices.high prices.on_grid)
admissible_in (Err fault) ends = λ price. false

-- what the rulebook says of a contract's prices as the day stands
abbrev pub band_now : Meaning → History → ℕ → Result PricesInBand RuleFault
band_now rules h contract = prices_of rules (product h contract) (figures h contract)

abbrev pub admissible : Meaning → History → ℕ → PriceSet
admissible rules h contract = admissible_in (band_now rules h contract) (collar h contract)

-- when the hours of a contract that hold the present minute end; none while it is closed
abbrev pub closing_in : Result HoursClass RuleFault → ℕ → Option ℕ
closing_in (Ok class) now = closing class now
closing_in (Err fault) now = None

abbrev pub open_until : Meaning → History → ℕ → Option ℕ
open_until rules h contract = closing_in (hours_of rules (product h contract)) (minute h)

abbrev pub is_open : Meaning → History → ℕ → Bool
is_open rules h contract = is_some (open_until rules h contract)

-- halted, by a halt that binds
abbrev pub is_stopped : Meaning → History → ℕ → Bool
is_stopped rules h contract = halted h contract && rules.halt_binds

abbrev pub is_fraction : ℕ → ℕ → Bool
is_fraction n d = from_to 0 1_000_000_000_000_000 n && from_to 1 10_000 d
