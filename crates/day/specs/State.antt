-- The day as it is stored: the minute, the contracts and the orders, and the board that they make.
use Rattle.std.specs.Prelude.{ℕ, ◌-◌, ◌*◌, Bool, true, false, cond, List, [], map, length, Some, None, Ok, Err, vec_items, Option, Result, ◌==◌, slice_index_or, slice_get}
use Rattle.price.specs.declared.Limit.{Limit}
use Rattle.price.specs.Sets.{PriceSet, between, last_end}
use Rattle.rulebook.specs.declared.RuleFault.{RuleFault}
use Rattle.rulebook.specs.Meaning.{Meaning, PricesInBand, prices_of}
use Rattle.rulebook.specs.Sheets.{Sheet, sheet, all_blank}
use Rattle.history.specs.declared.DayFault.{DayFault}
use Rattle.history.specs.declared.DayFault.TheVariants.{Rule, CollarOutsideLimits}
use Rattle.history.specs.History.{collar_of}
use Rattle.history.specs.Prices.{inside_collar}
use Rattle.history.specs.Orders.{no_entry}
use Rattle.history.specs.Board.{Board}
use Rattle.history.specs.Rulings.{no_collar}
use Rattle.day.specs.declared.collar.Collar.{Collar}
use Rattle.day.specs.declared.contract.Contract.{Contract}
use Rattle.day.specs.declared.order.Status.{Status}
use Rattle.day.specs.declared.order.Status.TheVariants.{Waiting, Traded, Withdrawn, Lapsed}
use Rattle.day.specs.declared.order.Order.{Order}
use Rattle.day.specs.declared.ledger.Ledger.{Ledger}
use Rattle.day.specs.declared.state.Day.{Day}

-- what is said of a contract
pub record Terms : Type 0 where
  pub product : ℕ
  pub figures : Sheet
  pub collar : Option (ℕ × ℕ)
  pub halted : Bool

abbrev pub collar_ends : Option Collar → Option (ℕ × ℕ)
collar_ends None = None
collar_ends (Some collar) = Some (collar.low, collar.high)

abbrev pub terms : Contract → Terms
terms contract = record {
  product = contract.product;
  figures = sheet contract.figures;
  collar = collar_ends contract.collar;
  halted = contract.halted;
}

-- a contract as it is listed
abbrev pub just_listed : ℕ → Terms
just_listed product = record { product = product; figures = all_blank; collar = None; halted = false }

pub record State : Type 0 where
  pub minute : ℕ
  pub contracts : List Terms
  pub orders : List Order

-- where a ledger stands
abbrev pub state_of : Ledger → State
state_of ledger = record { minute = ledger.minute; contracts = map terms (vec_items ledger.contracts); orders = vec_items ledger.orders }

abbrev pub view : {R G : Type 0} → Day R G → State
view day = state_of day.ledger

abbrev pub fresh : State
fresh = record { minute = 0; contracts = []; orders = [] }

-- the item of a number from 1 on
abbrev pub numbered : {A : Type 0} → A → List A → ℕ → A
numbered nothing list number = cond (number == 0) nothing (slice_index_or list (number - 1) nothing)

-- the item of a number from 1 on, if there is one
abbrev pub item_of : {A : Type 0} → List A → ℕ → Option A
item_of list number = cond (number == 0) None (slice_get list (number - 1))

abbrev pub contract_at : State → ℕ → Terms
contract_at s contract = numbered (just_listed 0) s.contracts contract

abbrev pub no_order : Order
no_order = record { entry = no_entry; until = 0; status = Lapsed }

abbrev pub order_at : State → ℕ → Order
order_at s number = numbered no_order s.orders number

abbrev pub is_waiting : Status → Bool
is_waiting Waiting = true
is_waiting Traded = false
is_waiting Withdrawn = false
is_waiting Lapsed = false

abbrev pub board_of : State → Board
board_of s = record {
  minute = s.minute;
  listed = length s.contracts;
  product = λ contract. (contract_at s contract).product;
  figures = λ contract. (contract_at s contract).figures;
  collar = λ contract. (contract_at s contract).collar;
  halted = λ contract. (contract_at s contract).halted;
  orders = length s.orders;
  entry = λ number. (order_at s number).entry;
  until = λ number. (order_at s number).until;
  waits = λ number. is_waiting (order_at s number).status;
}

-- making a collar
abbrev pub collar_told : Result (Option Collar) DayFault → Result (Option (ℕ × ℕ)) DayFault
collar_told (Ok collar) = Ok (collar_ends collar)
collar_told (Err fault) = Err fault

abbrev pub collar_for : ℕ → ℕ → Result (Option (ℕ × ℕ)) DayFault
collar_for low high = cond (no_collar low high) (Err CollarOutsideLimits) (Ok (collar_of low high))

-- the ends of a collar in thousandths of a pip, or the widest
abbrev pub collar_limits : Option (ℕ × ℕ) → ℕ × ℕ
collar_limits None = (1000, last_end)
collar_limits (Some (low, high)) = (1000 * low, 1000 * high)

-- two limits over a grid, by the set of their prices
abbrev pub set_of : {G : Type 0} → (G → PriceSet) → Result (Limit (Limit G)) DayFault → Result PriceSet DayFault
set_of holds (Ok pile) =
    Ok (between pile.low pile.high (between pile.grid.low pile.grid.high (holds pile.grid.grid)))
set_of holds (Err fault) = Err fault

abbrev pub in_collar : Option (ℕ × ℕ) → Result PricesInBand RuleFault → Result PriceSet DayFault
in_collar collar (Ok prices) = Ok (inside_collar collar (between prices.low prices.high prices.on_grid))
in_collar collar (Err fault) = Err (Rule fault)

-- what the rulebook says of a contract's prices
abbrev pub band_for : Meaning → Terms → Result PricesInBand RuleFault
band_for rules contract = prices_of rules contract.product contract.figures

-- the admissible prices of a contract, or why it has none
abbrev pub admissible_set : Meaning → Terms → Result PriceSet DayFault
admissible_set rules contract = in_collar contract.collar (band_for rules contract)
