-- What each call is answered after a history, and the days that are so answered.
use Rattle.std.specs.Prelude.{◌≡◌, ℕ, suc, Bool, cond, not, ◌&&◌, ◌||◌, ℤ, is_some, Some, None, Ok, Err, Option, Result, ◌==◌, nat_le, nat_lt}
use Rattle.price.specs.declared.PriceFault.TheVariants.{FractionOutsideLimits}
use Rattle.price.specs.Closest.{closest}
use Rattle.rulebook.specs.declared.Letter.{Letter}
use Rattle.rulebook.specs.declared.FigureFault.TheVariants.{UnknownLetter, ValueOverLimit}
use Rattle.rulebook.specs.declared.RuleFault.{RuleFault}
use Rattle.rulebook.specs.Meaning.{Meaning, PricesInBand, hours_of}
use Rattle.history.specs.declared.calls.Call.{Call}
use Rattle.history.specs.declared.calls.Call.TheVariants.{List, Post, Collar, Clock, Halt, Lift, Ask, Enter, Withdraw}
use Rattle.history.specs.declared.answers.Answer.{Answer}
use Rattle.history.specs.declared.answers.Answer.TheVariants.{Listed, Done, Lapsed, Price as Priced, Ordered, Refused}
use Rattle.history.specs.declared.faults.EntryField.TheVariants.{Quantity, Participant, Counterparty}
use Rattle.history.specs.declared.faults.DayFault.{DayFault}
use Rattle.history.specs.declared.faults.DayFault.TheVariants.{Price, Figure, Rule, MinuteOverLimit, CollarOutsideLimits, EntryOutsideLimits, ContractNotListed, ContractsFull, MinuteBeforePresent, HaltUnchanged, NoAdmissiblePrice, NotOpen, Halted, PriceNotAdmissible, OrdersFull, NoSuchOrder, AnotherParticipants, NotWaiting}
use Rattle.history.specs.History.{History, opened, after, letter_named, takes}
use Rattle.history.specs.Prices.{admissible_in, is_fraction}
use Rattle.history.specs.Orders.{how_many, first}
use Rattle.history.specs.Board.{Board, board, band_on, admissible_on, closing_on, meets_on, lapses_on}

infixr 20 ◌otherwise◌
infix 25 ◌when◌
-- a fault, where it applies
abbrev pub ◌when◌ : DayFault → Bool → Option DayFault
fault when applies = cond applies (Some fault) None

-- refused for a fault, if there is one
abbrev pub refuse : Option DayFault → Answer → Answer
refuse None answer = answer
refuse (Some fault) answer = Refused fault

abbrev pub ◌otherwise◌ : (Answer → Answer) → Answer → Answer
refusal otherwise answer = refusal answer

-- the fault that a rulebook answers, if any
abbrev pub by_the_book : {A : Type 0} → Result A RuleFault → Option DayFault
by_the_book (Ok said) = None
by_the_book (Err fault) = Some (Rule fault)

-- not from 1 to a top
abbrev pub outside : ℕ → ℕ → Bool
outside top value = value == 0 || nat_lt top value

abbrev pub unlisted : Board → ℕ → Bool
unlisted b contract = outside b.listed contract

abbrev pub figure_fault : Option Letter → ℕ → Option DayFault
figure_fault None value = Some (Figure UnknownLetter)
figure_fault (Some letter) value = Figure ValueOverLimit when not (takes letter value)

-- neither 0 and 0, nor 1 <= low <= high <= 220,000,000,000
abbrev pub no_collar : ℕ → ℕ → Bool
no_collar low high = not ((low == 0 && high == 0) || (nat_le 1 low && (nat_le low high && nat_le high 220_000_000_000)))

abbrev pub priced : Option (ℕ × ℤ) → Answer
priced None = Refused NoAdmissiblePrice
priced (Some (price, distance)) = Priced price distance

-- the nearest admissible price to n / d, where the rulebook has a band
unfoldable pub quoted : Result PricesInBand RuleFault → Option (ℕ × ℕ) → ℕ → ℕ → Answer
quoted band ends n d = refuse (by_the_book band) (priced (closest (admissible_in band ends) n d))

-- the first refusal that applies, or else what the call does
abbrev pub ruled_on : Meaning → Board → Call → Answer
ruled_on rules b (List product) =
    refuse (by_the_book (hours_of rules product)) otherwise
    refuse (ContractsFull when nat_le 32 b.listed) otherwise
    Listed (suc b.listed)
ruled_on rules b (Post contract letter value) =
    refuse (figure_fault (letter_named letter) value) otherwise
    refuse (ContractNotListed when unlisted b contract) otherwise
    Done
ruled_on rules b (Collar contract low high) =
    refuse (CollarOutsideLimits when no_collar low high) otherwise
    refuse (ContractNotListed when unlisted b contract) otherwise
    Done
ruled_on rules b (Clock to) =
    refuse (MinuteOverLimit when nat_lt 1800 to) otherwise
    refuse (MinuteBeforePresent when nat_lt to b.minute) otherwise
    Lapsed (how_many (lapses_on b to) b.orders)
ruled_on rules b (Halt contract) =
    refuse (ContractNotListed when unlisted b contract) otherwise
    refuse (HaltUnchanged when b.halted contract) otherwise
    Done
ruled_on rules b (Lift contract) =
    refuse (ContractNotListed when unlisted b contract) otherwise
    refuse (HaltUnchanged when not (b.halted contract)) otherwise
    Done
ruled_on rules b (Ask contract n d) =
    refuse (Price FractionOutsideLimits when not (is_fraction n d)) otherwise
    refuse (ContractNotListed when unlisted b contract) otherwise
    quoted (band_on rules b contract) (b.collar contract) n d
ruled_on rules b (Enter entry) =
    refuse (EntryOutsideLimits Quantity when outside 10_000 entry.quantity) otherwise
    refuse (EntryOutsideLimits Participant when outside 9_999 entry.participant) otherwise
    refuse (EntryOutsideLimits Counterparty when outside 9_999 entry.counterparty) otherwise
    refuse (ContractNotListed when unlisted b entry.contract) otherwise
    refuse (by_the_book (band_on rules b entry.contract)) otherwise
    refuse (NotOpen when not (is_some (closing_on rules b entry.contract))) otherwise
    refuse (Halted when b.halted entry.contract && rules.halt_binds) otherwise
    refuse (PriceNotAdmissible when not (admissible_on rules b entry.contract entry.price)) otherwise
    refuse (OrdersFull when nat_le 256 b.orders) otherwise
    Ordered (suc b.orders) (first (meets_on b entry) b.orders)
ruled_on rules b (Withdraw k participant) =
    refuse (NoSuchOrder when outside b.orders k) otherwise
    refuse (AnotherParticipants when not (participant == (b.entry k).participant)) otherwise
    refuse (NotWaiting when not (b.waits k)) otherwise
    Done

-- what a call is answered after a history
abbrev pub ruled : Meaning → History → Call → Answer
ruled rules h call = ruled_on rules (board rules h) call

-- the answer to a call is the one that the history before it fixes
abbrev pub Fixed : Meaning → History → Call → Answer → Type 0
Fixed rules h call answer = answer ≡ ruled rules h call

-- every answer of the day is fixed by the history before it
abbrev pub Lawful : Meaning → History → Type 0
Lawful rules opened = Unit {0}
Lawful rules (after h call answer) = Lawful rules h × Fixed rules h call answer
