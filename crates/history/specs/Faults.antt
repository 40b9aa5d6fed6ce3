-- The number under which each fault of a day is refused, and its place.
use Rattle.std.specs.Prelude.{ℕ, Some, None, Option}
use Rattle.price.specs.Faults.{number as price_number}
use Rattle.rulebook.specs.Faults.{figure_number, rule_number, rule_place}
use Rattle.history.specs.declared.faults.EntryField.{EntryField}
use Rattle.history.specs.declared.faults.EntryField.TheVariants.{Quantity, Participant, Counterparty}
use Rattle.history.specs.declared.faults.DayFault.{DayFault}
use Rattle.history.specs.declared.faults.DayFault.TheVariants.{Price, Figure, Rule, MinuteOverLimit, CollarOutsideLimits, EntryOutsideLimits, ContractNotListed, ContractsFull, MinuteBeforePresent, HaltUnchanged, NoAdmissiblePrice, NotOpen, Halted, PriceNotAdmissible, OrdersFull, NoSuchOrder, AnotherParticipants, NotWaiting}
use Rattle.history.specs.declared.answers.Answer.{Answer}
use Rattle.history.specs.declared.answers.Answer.TheVariants.{Listed, Done, Lapsed, Price as Priced, Ordered, Refused}

abbrev pub number : DayFault → ℕ
number (Price fault) = price_number fault
number (Figure fault) = figure_number fault
number (Rule fault) = rule_number fault
number MinuteOverLimit = 15
number CollarOutsideLimits = 16
number (EntryOutsideLimits field) = 17
number ContractNotListed = 21
number ContractsFull = 22
number MinuteBeforePresent = 23
number HaltUnchanged = 24
number NoAdmissiblePrice = 26
number NotOpen = 27
number Halted = 28
number PriceNotAdmissible = 29
number OrdersFull = 30
number NoSuchOrder = 31
number AnotherParticipants = 32
number NotWaiting = 33

abbrev pub field_place : EntryField → ℕ
field_place Quantity = 1
field_place Participant = 2
field_place Counterparty = 3

abbrev pub place : DayFault → ℕ
place (Price fault) = 0
place (Figure fault) = 0
place (Rule fault) = rule_place fault
place MinuteOverLimit = 0
place CollarOutsideLimits = 0
place (EntryOutsideLimits field) = field_place field
place ContractNotListed = 0
place ContractsFull = 0
place MinuteBeforePresent = 0
place HaltUnchanged = 0
place NoAdmissiblePrice = 0
place NotOpen = 0
place Halted = 0
place PriceNotAdmissible = 0
place OrdersFull = 0
place NoSuchOrder = 0
place AnotherParticipants = 0
place NotWaiting = 0

-- of an answer: the number and the place of the refusal, none where the call was accepted
abbrev pub refusal : Answer → Option (ℕ × ℕ)
refusal (Listed contract) = None
refusal Done = None
refusal (Lapsed count) = None
refusal (Priced price distance) = None
refusal (Ordered order partner) = None
refusal (Refused fault) = Some (number fault, place fault)
