-- One more call of a lawful day: the ways in which it can be answered.
use Rattle.std.proofs.Common.{◌≡◌, ℕ, suc, ◌≤◌, Bool, true, false, not, ◌&&◌, eqb, ltb, leb, ℤ, is_some, Some, None, Option, Result, sym, refl, subst}
use Rattle.std.proofs.lemmas.Bool.{ltb-false, not-false}
use Rattle.price.specs.Closest.{closest}
use Rattle.rulebook.specs.declared.RuleFault.{RuleFault}
use Rattle.rulebook.specs.Meaning.{Meaning, PricesInBand, hours_of}
use Rattle.history.specs.declared.calls.Entry.{Entry}
use Rattle.history.specs.declared.calls.Call.{Call}
use Rattle.history.specs.declared.calls.Call.TheVariants.{List, Post, Collar, Clock, Halt, Lift, Ask, Enter, Withdraw}
use Rattle.history.specs.declared.answers.Answer.{Answer}
use Rattle.history.specs.declared.answers.Answer.TheVariants.{Listed, Done, Lapsed, Price, Ordered, Refused}
use Rattle.history.specs.declared.faults.EntryField.TheVariants.{Quantity, Participant, Counterparty}
use Rattle.history.specs.declared.faults.DayFault.{DayFault}
use Rattle.history.specs.declared.faults.DayFault.TheVariants.{Price as Fraction, MinuteOverLimit, CollarOutsideLimits, EntryOutsideLimits, ContractNotListed, ContractsFull, MinuteBeforePresent, HaltUnchanged, NotOpen, Halted, PriceNotAdmissible, OrdersFull, NoSuchOrder, AnotherParticipants, NotWaiting}
use Rattle.price.specs.declared.PriceFault.TheVariants.{FractionOutsideLimits}
use Rattle.history.specs.History.{History, minute, letter_named}
use Rattle.history.specs.Prices.{admissible_in, admissible, is_open, is_stopped, is_fraction}
use Rattle.history.specs.Orders.{orders, earliest, how_many, first}
use Rattle.history.specs.Board.{Board, board, band_on, admissible_on, closing_on, meets_on, lapses_on}
use Rattle.history.specs.Rulings.{◌when◌, refuse, by_the_book, outside, unlisted, figure_fault, priced, quoted, no_collar, ruled}

-- what held of the day when an entry was accepted
pub record Taken (rules : Meaning) (h : History) (entry : Entry) : Type 0 where
  pub opens : is_open rules h entry.contract ≡ true
  pub runs : is_stopped rules h entry.contract ≡ false
  pub admitted : admissible rules h entry.contract entry.price ≡ true

pub data Step (rules : Meaning) (h : History) : Call → Answer → Type 0 where
  refused : (call : Call) (fault : DayFault) → Step rules h call (Refused fault)
  lists : (product contract : ℕ) → by_the_book (hours_of rules product) ≡ None → Step rules h (List product) (Listed contract)
  posts : (contract letter value : ℕ) → Step rules h (Post contract letter value) Done
  collars : (contract low high : ℕ) → no_collar low high ≡ false → Step rules h (Collar contract low high) Done
  clocks : (to count : ℕ) → minute h ≤ to → Step rules h (Clock to) (Lapsed count)
  halts : (contract : ℕ) → Step rules h (Halt contract) Done
  lifts : (contract : ℕ) → Step rules h (Lift contract) Done
  asks : (contract n d price : ℕ) (distance : ℤ) → Step rules h (Ask contract n d) (Price price distance)
  enters : (entry : Entry) → Taken rules h entry → Step rules h (Enter entry) (Ordered (suc (orders h)) (earliest rules h entry))
  withdraws : (k participant : ℕ) → outside (orders h) k ≡ false → Step rules h (Withdraw k participant) Done

module _ (rules : Meaning) (h : History) where
  or_else : (call : Call) (fault : Option DayFault) (answer : Answer) → (fault ≡ None → Step rules h call answer)
      → Step rules h call (refuse fault answer)
  or_else call None answer rest = rest refl
  or_else call (Some fault) answer rest = refused call fault

  -- the same of a ground
  unless_when : (call : Call) (fault : DayFault) (ground : Bool) (answer : Answer) → (ground ≡ false → Step rules h call answer)
      → Step rules h call (refuse (fault when ground) answer)
  unless_when call fault true answer rest = refused call fault
  unless_when call fault false answer rest = rest refl

  found : (contract n d : ℕ) (found : Option (ℕ × ℤ)) → Step rules h (Ask contract n d) (priced found)
  found contract n d None = refused _ _
  found contract n d (Some (price, distance)) = asks contract n d price distance

  asked : (contract n d : ℕ) (band : Result PricesInBand RuleFault) (ends : Option (ℕ × ℕ))
      → Step rules h (Ask contract n d) (quoted band ends n d)
  unfolding quoted
  asked contract n d band ends =
      or_else (Ask contract n d) (by_the_book band) (priced (closest (admissible_in band ends) n d))
      (λ _. found contract n d (closest (admissible_in band ends) n d))

  abbrev b : Board
  b = board rules h

  view : (call : Call) → Step rules h call (ruled rules h call)
  view (List product) =
      let last = refuse (ContractsFull when leb 32 b.listed) (Listed (suc b.listed)) in
      or_else (List product) (by_the_book (hours_of rules product)) last
      (λ there. unless_when _ ContractsFull (leb 32 b.listed) (Listed (suc b.listed)) (λ _. lists product _ there))
  view (Post contract letter value) =
      let last = refuse (ContractNotListed when unlisted b contract) Done in
      or_else (Post contract letter value) (figure_fault (letter_named letter) value) last
      (λ _. unless_when _ ContractNotListed (unlisted b contract) Done (λ _. posts contract letter value))
  view (Collar contract low high) =
      let last = refuse (ContractNotListed when unlisted b contract) Done in
      unless_when (Collar contract low high) CollarOutsideLimits (no_collar low high) last
      (λ within. unless_when _ ContractNotListed (unlisted b contract) Done (λ _. collars contract low high within))
  view (Clock to) =
      let lapsed = Lapsed (how_many (lapses_on b to) b.orders) in
      let last = refuse (MinuteBeforePresent when ltb to b.minute) lapsed in
      unless_when (Clock to) MinuteOverLimit (ltb 1800 to) last
      (λ _. unless_when _ MinuteBeforePresent (ltb to b.minute) lapsed (λ later. clocks to _ (ltb-false to (minute h) later)))
  view (Halt contract) =
      let last = refuse (HaltUnchanged when b.halted contract) Done in
      unless_when (Halt contract) ContractNotListed (unlisted b contract) last
      (λ _. unless_when _ HaltUnchanged (b.halted contract) Done (λ _. halts contract))
  view (Lift contract) =
      let last = refuse (HaltUnchanged when not (b.halted contract)) Done in
      unless_when (Lift contract) ContractNotListed (unlisted b contract) last
      (λ _. unless_when _ HaltUnchanged (not (b.halted contract)) Done (λ _. lifts contract))
  view (Ask contract n d) =
      let last = quoted (band_on rules b contract) (b.collar contract) n d in
      unless_when (Ask contract n d) (Fraction FractionOutsideLimits) (not (is_fraction n d)) (refuse (ContractNotListed when unlisted b contract) last)
      (λ _. unless_when _ ContractNotListed (unlisted b contract) last (λ _. asked contract n d (band_on rules b contract) (b.collar contract)))
  view (Enter entry) =
      let contract = entry.contract in
      let answer = Ordered (suc b.orders) (first (meets_on b entry) b.orders) in
      let c9 = refuse (OrdersFull when leb 256 b.orders) answer in
      let c8 = refuse (PriceNotAdmissible when not (admissible_on rules b contract entry.price)) c9 in
      let c7 = refuse (Halted when (b.halted contract && rules.halt_binds)) c8 in
      let c6 = refuse (NotOpen when not (is_some (closing_on rules b contract))) c7 in
      let c5 = refuse (by_the_book (band_on rules b contract)) c6 in
      let c4 = refuse (ContractNotListed when unlisted b contract) c5 in
      let c3 = refuse (EntryOutsideLimits Counterparty when outside 9_999 entry.counterparty) c4 in
      let c2 = refuse (EntryOutsideLimits Participant when outside 9_999 entry.participant) c3 in
      unless_when (Enter entry) (EntryOutsideLimits Quantity) (outside 10_000 entry.quantity) c2
      (λ _. unless_when _ (EntryOutsideLimits Participant) (outside 9_999 entry.participant) c3
      (λ _. unless_when _ (EntryOutsideLimits Counterparty) (outside 9_999 entry.counterparty) c4
      (λ _. unless_when _ ContractNotListed (unlisted b contract) c5
      (λ _. or_else _ (by_the_book (band_on rules b contract)) c6
      (λ _. unless_when _ NotOpen (not (is_some (closing_on rules b contract))) c7
      (λ opens. unless_when _ Halted (b.halted contract && rules.halt_binds) c8
      (λ runs. unless_when _ PriceNotAdmissible (not (admissible_on rules b contract entry.price)) c9
      (λ admitted. unless_when _ OrdersFull (leb 256 b.orders) answer
      (λ _. enters entry (record { opens = not-false _ opens; runs = runs; admitted = not-false _ admitted }))))))))))
  view (Withdraw k participant) =
      let c3 = refuse (NotWaiting when not (b.waits k)) Done in
      let c2 = refuse (AnotherParticipants when not (eqb participant (b.entry k).participant)) c3 in
      unless_when (Withdraw k participant) NoSuchOrder (outside b.orders k) c2
      (λ there. unless_when _ AnotherParticipants (not (eqb participant (b.entry k).participant)) c3
      (λ _. unless_when _ NotWaiting (not (b.waits k)) Done (λ _. withdraws k participant there)))

  pub step : (call : Call) (answer : Answer) → answer ≡ ruled rules h call → Step rules h call answer
  step call answer fixed = subst (λ (a : Answer). Step rules h call a) (sym fixed) (view call)
