-- The number under which each line is refused, its place, and the layer that refuses.
use Rattle.std.specs.Prelude.{ℕ}
use Rattle.history.specs.Faults.{number as day_number, place as day_place}
use Rattle.history.specs.declared.faults.DayFault.{DayFault}
use Rattle.history.specs.declared.faults.DayFault.TheVariants.{Price, Figure, Rule, MinuteOverLimit, CollarOutsideLimits, EntryOutsideLimits, ContractNotListed, ContractsFull, MinuteBeforePresent, HaltUnchanged, NoAdmissiblePrice, NotOpen, Halted, PriceNotAdmissible, OrdersFull, NoSuchOrder, AnotherParticipants, NotWaiting}
use Rattle.reply.specs.declared.faults.Layer.{Layer}
use Rattle.reply.specs.declared.faults.Layer.TheVariants.{Line, Rulebook, Day as TheDay}
use Rattle.reply.specs.declared.faults.LineFault.{LineFault}
use Rattle.reply.specs.declared.faults.LineFault.TheVariants.{LineTooLong, NotACommand, WrongNumberOfFields, BadField, Day as OfDay}

-- L, R or D
abbrev pub letter : Layer → ℕ
letter Line = 76
letter Rulebook = 82
letter TheDay = 68

abbrev pub number : LineFault → ℕ
number LineTooLong = 1
number NotACommand = 2
number WrongNumberOfFields = 3
number (BadField position) = 4
number (OfDay fault) = day_number fault

abbrev pub place : LineFault → ℕ
place LineTooLong = 0
place NotACommand = 0
place WrongNumberOfFields = 0
place (BadField position) = position
place (OfDay fault) = day_place fault

-- what a rulebook raises is the rulebook's, everything else of a day the day's
abbrev pub day_layer : DayFault → Layer
day_layer (Price fault) = TheDay
day_layer (Figure fault) = TheDay
day_layer (Rule fault) = Rulebook
day_layer MinuteOverLimit = TheDay
day_layer CollarOutsideLimits = TheDay
day_layer (EntryOutsideLimits field) = TheDay
day_layer ContractNotListed = TheDay
day_layer ContractsFull = TheDay
day_layer MinuteBeforePresent = TheDay
day_layer HaltUnchanged = TheDay
day_layer NoAdmissiblePrice = TheDay
day_layer NotOpen = TheDay
day_layer Halted = TheDay
day_layer PriceNotAdmissible = TheDay
day_layer OrdersFull = TheDay
day_layer NoSuchOrder = TheDay
day_layer AnotherParticipants = TheDay
day_layer NotWaiting = TheDay

abbrev pub layer : LineFault → Layer
layer LineTooLong = Line
layer NotACommand = Line
layer WrongNumberOfFields = Line
layer (BadField position) = Line
layer (OfDay fault) = day_layer fault
