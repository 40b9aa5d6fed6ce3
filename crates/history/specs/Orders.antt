-- The orders of a day, which of them wait, and which counter each other.
use Rattle.std.specs.Prelude.{ℕ, zero, suc, Bool, true, false, cond, not, ◌&&◌, ◌||◌, ◌==◌, nat_lt}
use Rattle.std.specs.Option.{unwrap_or}
use Rattle.rulebook.specs.Meaning.{Meaning}
use Rattle.history.specs.declared.calls.Side.{Side}
use Rattle.history.specs.declared.calls.Side.TheVariants.{Bid, Offer}
use Rattle.history.specs.declared.calls.Entry.{Entry}
use Rattle.history.specs.declared.calls.Call.{Call}
use Rattle.history.specs.declared.calls.Call.TheVariants.{List, Post, Collar, Clock, Halt, Lift, Ask, Enter, Withdraw}
use Rattle.history.specs.declared.answers.Answer.TheVariants.{Listed, Done, Lapsed, Price, Ordered, Refused}
use Rattle.history.specs.History.{History, opened, after, accepted, minute}
use Rattle.history.specs.Prices.{open_until}

-- an order as it came: its entry, the day before it came, and the partner that its answer named, 0 for none
pub record Order : Type 0 where
  pub entry : Entry
  pub before : History
  pub partner : ℕ

abbrev pub no_entry : Entry
no_entry = record { side = Bid; contract = 0; price = 0; quantity = 0; participant = 0; counterparty = 0 }

abbrev pub entry_of : Call → Entry
entry_of (List product) = no_entry
entry_of (Post contract letter value) = no_entry
entry_of (Collar contract low high) = no_entry
entry_of (Clock minute) = no_entry
entry_of (Halt contract) = no_entry
entry_of (Lift contract) = no_entry
entry_of (Ask contract n d) = no_entry
entry_of (Enter entry) = entry
entry_of (Withdraw order participant) = no_entry

-- how many orders were accepted
abbrev pub orders : History → ℕ
orders opened = 0
orders (after h call (Listed contract)) = orders h
orders (after h call Done) = orders h
orders (after h call (Lapsed count)) = orders h
orders (after h call (Price price distance)) = orders h
orders (after h call (Ordered number partner)) = suc (orders h)
orders (after h call (Refused fault)) = orders h

-- the order of a number
abbrev pub order : History → ℕ → Order
order opened k = record { entry = no_entry; before = opened; partner = 0 }
order (after h call (Listed contract)) k = order h k
order (after h call Done) k = order h k
order (after h call (Lapsed count)) k = order h k
order (after h call (Price price distance)) k = order h k
order (after h call (Ordered number partner)) k =
    cond (k == number) (record { entry = entry_of call; before = h; partner = partner }) (order h k)
order (after h call (Refused fault)) k = order h k

-- there is an order of this number
abbrev pub known : History → ℕ → Bool
known h k = not (k == 0 || nat_lt (orders h) k)

-- the answer of a later enter names it as its partner
abbrev pub taken : History → ℕ → Bool
taken opened k = false
taken (after h call (Listed contract)) k = taken h k
taken (after h call Done) k = taken h k
taken (after h call (Lapsed count)) k = taken h k
taken (after h call (Price price distance)) k = taken h k
taken (after h call (Ordered number partner)) k = k == partner || taken h k
taken (after h call (Refused fault)) k = taken h k

-- an accepted withdraw names it
abbrev pub withdraws : ℕ → Call → Bool
withdraws k (List product) = false
withdraws k (Post contract letter value) = false
withdraws k (Collar contract low high) = false
withdraws k (Clock minute) = false
withdraws k (Halt contract) = false
withdraws k (Lift contract) = false
withdraws k (Ask contract n d) = false
withdraws k (Enter entry) = false
withdraws k (Withdraw order participant) = k == order

abbrev pub withdrawn : History → ℕ → Bool
withdrawn opened k = false
withdrawn (after h call answer) k = (accepted answer && withdraws k call) || withdrawn h k

-- the end of the hours in which an entry comes, and in which an order came
abbrev pub hours_end : Meaning → History → Entry → ℕ
hours_end rules h entry = unwrap_or (open_until rules h entry.contract) 0

abbrev pub ends : Meaning → History → ℕ → ℕ
ends rules h k = hours_end rules (order h k).before (order h k).entry

-- an order waits: accepted without a partner, taken by none since, not withdrawn, and before the end of its hours
unfoldable pub waits : Meaning → History → ℕ → Bool
waits rules h k =
    known h k && ((order h k).partner == 0 && (not (taken h k) && (not (withdrawn h k) && nat_lt (minute h) (ends rules h k))))

abbrev pub opposite : Side → Side → Bool
opposite Bid Bid = false
opposite Bid Offer = true
opposite Offer Bid = true
opposite Offer Offer = false

-- two entries counter each other: contract, price and quantity agree, the sides differ, and each names the other's participant
unfoldable pub counters : Entry → Entry → Bool
counters one other =
    one.contract == other.contract && (one.price == other.price && (one.quantity == other.quantity
    && (opposite one.side other.side
    && (one.counterparty == other.participant && other.counterparty == one.participant))))

-- the least of the numbers 1 to n that passes a test, 0 for none
unfoldable pub first : (ℕ → Bool) → ℕ → ℕ
first test zero = 0
first test (suc n) = cond (first test n == 0) (cond (test (suc n)) (suc n) 0) (first test n)

-- how many of the numbers 1 to n pass a test
unfoldable pub how_many : (ℕ → Bool) → ℕ → ℕ
how_many test zero = 0
how_many test (suc n) = cond (test (suc n)) (suc (how_many test n)) (how_many test n)

-- an order waits and counters an entry
abbrev pub meets : Meaning → History → Entry → ℕ → Bool
meets rules h entry k = waits rules h k && counters (order h k).entry entry

-- the earliest waiting order that counters an entry, 0 for none
abbrev pub earliest : Meaning → History → Entry → ℕ
earliest rules h entry = first (meets rules h entry) (orders h)
