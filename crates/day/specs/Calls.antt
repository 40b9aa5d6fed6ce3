-- What each accepted call makes of the day, and how a call's result reads as an answer.
use Rattle.std.specs.Prelude.{ℕ, ◌-◌, Bool, true, false, cond, not, ◌&&◌, List, [], ◌∷◌, ◌++◌, map, length, ℤ, is_some, Some, None, Ok, Err, Option, Result, ◌==◌, nat_le, slice_set}
use Rattle.std.specs.Option.{unwrap_or}
use Rattle.rulebook.specs.declared.Letter.{Letter}
use Rattle.rulebook.specs.Meaning.{Meaning, hours_of}
use Rattle.history.specs.declared.Entry.{Entry}
use Rattle.history.specs.declared.Call.{Call}
use Rattle.history.specs.declared.Call.TheVariants.{List as Listing, Post, Collar, Clock, Halt, Lift, Ask, Enter, Withdraw}
use Rattle.history.specs.declared.Answer.{Answer}
use Rattle.history.specs.declared.Answer.TheVariants.{Listed, Done, Lapsed, Price, Ordered, Refused}
use Rattle.history.specs.declared.DayFault.{DayFault}
use Rattle.history.specs.declared.DayFault.TheVariants.{Figure, EntryOutsideLimits, ContractNotListed, NotOpen, Halted, PriceNotAdmissible, OrdersFull, NoSuchOrder}
use Rattle.history.specs.declared.EntryField.TheVariants.{Quantity, Participant, Counterparty}
use Rattle.rulebook.specs.declared.FigureFault.TheVariants.{UnknownLetter, ValueOverLimit}
use Rattle.history.specs.History.{letter_named, takes, posted_under, collar_of}
use Rattle.history.specs.Orders.{first, counters}
use Rattle.history.specs.Prices.{closing_in}
use Rattle.history.specs.Board.{closing_on, meets_on}
use Rattle.history.specs.Rulings.{◌when◌, outside}
use Rattle.day.specs.declared.contract.Contract.{Contract}
use Rattle.day.specs.declared.order.Status.{Status}
use Rattle.day.specs.declared.order.Status.TheVariants.{Waiting, Traded, Withdrawn, Lapsed as Over}
use Rattle.day.specs.declared.order.Order.{Order}
use Rattle.day.specs.State.{Terms, terms, just_listed, State, numbered, no_order, contract_at, order_at, is_waiting, board_of, admissible_set}

-- results as answers
abbrev pub as_listed : Result ℕ DayFault → Answer
as_listed (Ok contract) = Listed contract
as_listed (Err fault) = Refused fault

abbrev pub as_done : Result (Unit {0}) DayFault → Answer
as_done (Ok done) = Done
as_done (Err fault) = Refused fault

abbrev pub as_lapsed : Result ℕ DayFault → Answer
as_lapsed (Ok count) = Lapsed count
as_lapsed (Err fault) = Refused fault

abbrev pub as_price : Result (ℕ × ℤ) DayFault → Answer
as_price (Ok (price, distance)) = Price price distance
as_price (Err fault) = Refused fault

abbrev pub as_ordered : Result (ℕ × ℕ) DayFault → Answer
as_ordered (Ok (order, partner)) = Ordered order partner
as_ordered (Err fault) = Refused fault

-- the letter of a character under which a value may be posted
abbrev pub letter_unless : Option Letter → ℕ → Result Letter DayFault
letter_unless None value = Err (Figure UnknownLetter)
letter_unless (Some letter) value = cond (takes letter value) (Ok letter) (Err (Figure ValueOverLimit))

abbrev pub letter_for : ℕ → ℕ → Result Letter DayFault
letter_for letter value = letter_unless (letter_named letter) value

-- a contract by its number
abbrev pub found : Result Contract DayFault → Result Terms DayFault
found (Ok contract) = Ok (terms contract)
found (Err fault) = Err fault

abbrev pub finding_in : List Terms → ℕ → Result Terms DayFault
finding_in contracts number =
    cond (outside (length contracts) number) (Err ContractNotListed) (Ok (numbered (just_listed 0) contracts number))

abbrev pub finding : State → ℕ → Result Terms DayFault
finding s contract = finding_in s.contracts contract

-- the day with one more contract
abbrev pub with_one_more : State → Terms → State
with_one_more s contract = record { minute = s.minute; contracts = s.contracts ++ (contract ∷ []); orders = s.orders }

-- the day with other terms for a contract
abbrev pub with_terms : State → ℕ → Terms → State
with_terms s contract changed = record { minute = s.minute; contracts = slice_set s.contracts (contract - 1) changed; orders = s.orders }

abbrev pub with_figures : Terms → Option Letter → ℕ → Terms
with_figures t letter value =
    record { product = t.product; figures = posted_under letter t.figures value; collar = t.collar; halted = t.halted }

abbrev pub with_collar : Terms → ℕ → ℕ → Terms
with_collar t low high = record { product = t.product; figures = t.figures; collar = collar_of low high; halted = t.halted }

abbrev pub with_halt : Terms → Bool → Terms
with_halt t halted = record { product = t.product; figures = t.figures; collar = t.collar; halted = halted }

-- an order with another status
abbrev pub marked : Order → Status → Order
marked order status = record { entry = order.entry; until = order.until; status = status }

-- a waiting order whose hours have ended by a minute
abbrev pub is_due : ℕ → Order → Bool
is_due to order = is_waiting order.status && nat_le order.until to

abbrev pub due_at : List Order → ℕ → ℕ → Bool
due_at orders to number = is_due to (numbered no_order orders number)

-- a waiting order that counters an entry
abbrev pub meets : Order → Entry → Bool
meets order entry = is_waiting order.status && counters order.entry entry

abbrev pub meets_at : List Order → Entry → ℕ → Bool
meets_at orders entry number = meets (numbered no_order orders number) entry

-- an order when the clock comes to a minute: one that waits lapses where its hours have ended
abbrev pub clocked : ℕ → Order → Order
clocked to order = cond (is_due to order) (marked order Over) order

abbrev pub partner_on : State → Entry → ℕ
partner_on s entry = first (meets_on (board_of s) entry) (length s.orders)

-- the day at another minute
abbrev pub at_minute : State → ℕ → State
at_minute s to = record { minute = to; contracts = s.contracts; orders = s.orders }

-- the day with its orders as the clock leaves them
abbrev pub with_clocked : State → ℕ → State
with_clocked s to = record { minute = s.minute; contracts = s.contracts; orders = map (clocked to) s.orders }

-- an order by its number
abbrev pub ordering : State → ℕ → Result Order DayFault
ordering s number = cond (outside (length s.orders) number) (Err NoSuchOrder) (Ok (order_at s number))

-- the day with another status for an order
abbrev pub with_marked : State → ℕ → Status → State
with_marked s number status =
    record { minute = s.minute; contracts = s.contracts; orders = slice_set s.orders (number - 1) (marked (order_at s number) status) }

-- the day with one more order
abbrev pub with_order : State → Order → State
with_order s order = record { minute = s.minute; contracts = s.contracts; orders = s.orders ++ (order ∷ []) }

-- the day when an order comes: it waits, or it trades with its partner
abbrev pub paired : State → ℕ → Entry → ℕ → State
paired s partner entry until =
    cond (partner == 0)
    (with_order s (record { entry = entry; until = until; status = Waiting }))
    (with_order (with_marked s partner Traded) (record { entry = entry; until = until; status = Traded }))

-- refused for a fault, if there is one
abbrev pub deny : {A : Type 0} → Option DayFault → Result A DayFault → Result A DayFault
deny None rest = rest
deny (Some fault) rest = Err fault

abbrev pub then : {A B : Type 0} → Result A DayFault → (A → Result B DayFault) → Result B DayFault
then (Ok value) rest = rest value
then (Err fault) rest = Err fault

-- the checks of an entry's own fields
abbrev pub within_limits : Entry → Result (Unit {0}) DayFault
within_limits entry =
    deny (EntryOutsideLimits Quantity when outside 10_000 entry.quantity)
    (deny (EntryOutsideLimits Participant when outside 9_999 entry.participant)
    (deny (EntryOutsideLimits Counterparty when outside 9_999 entry.counterparty) (Ok tt)))

-- the checks of an entry against its contract: with the set of its admissible prices, the end of the hours
abbrev pub admitted_at : Meaning → State → Terms → Entry → Result ℕ DayFault
admitted_at rules s contract entry =
    then (admissible_set rules contract) (λ set.
    deny (NotOpen when not (is_some (closing_in (hours_of rules contract.product) s.minute)))
    (deny (Halted when (contract.halted && rules.halt_binds))
    (deny (PriceNotAdmissible when not (set entry.price))
    (Ok (unwrap_or (closing_in (hours_of rules contract.product) s.minute) 0)))))

-- the checks of an entry against the contract that it names
abbrev pub admitted_by_contract : Meaning → State → Entry → Result ℕ DayFault
admitted_by_contract rules s entry = then (finding s entry.contract) (λ contract. admitted_at rules s contract entry)

-- all checks of an entry
abbrev pub admitted : Meaning → State → Entry → Result ℕ DayFault
admitted rules s entry =
    then (within_limits entry) (λ _.
    then (admitted_by_contract rules s entry) (λ until.
    deny (OrdersFull when nat_le 256 (length s.orders)) (Ok until)))

-- the answer to an entry that came so far
abbrev pub entered : Result ℕ DayFault → Answer → Answer
entered (Ok until) answer = answer
entered (Err fault) answer = Refused fault

-- the day that an entry leaves
abbrev pub after_entry : Result ℕ DayFault → State → Entry → State
after_entry (Ok until) s entry = paired s (partner_on s entry) entry until
after_entry (Err fault) s entry = s

-- the call that halts a contract, or lifts its halt
abbrev pub halting : ℕ → Bool → Call
halting contract true = Halt contract
halting contract false = Lift contract

-- the day after an accepted call
abbrev pub changed : Meaning → State → Call → State
changed rules s (Listing product) = with_one_more s (just_listed product)
changed rules s (Post contract letter value) =
    with_terms s contract (with_figures (contract_at s contract) (letter_named letter) value)
changed rules s (Collar contract low high) = with_terms s contract (with_collar (contract_at s contract) low high)
changed rules s (Clock to) = record { minute = to; contracts = s.contracts; orders = map (clocked to) s.orders }
changed rules s (Halt contract) = with_terms s contract (with_halt (contract_at s contract) true)
changed rules s (Lift contract) = with_terms s contract (with_halt (contract_at s contract) false)
changed rules s (Ask contract n d) = s
changed rules s (Enter entry) = paired s (partner_on s entry) entry (unwrap_or (closing_on rules (board_of s) entry.contract) 0)
changed rules s (Withdraw number participant) = with_marked s number Withdrawn
