-- The checks of an entry, one after the other, against the rulings.
use Rattle.std.proofs.Common.{◌≡◌, ℕ, suc, Bool, true, false, cond, not, ◌&&◌, leb, length, is_ok, is_some, Some, None, Ok, Err, Option, Result, unwrap_or, sym, refl, ap, ◌∙◌, subst}
use Rattle.rulebook.specs.declared.RuleFault.{RuleFault}
use Rattle.rulebook.specs.Meaning.{Meaning, PricesInBand, hours_of}
use Rattle.history.specs.declared.Entry.{Entry}
use Rattle.history.specs.declared.Call.TheVariants.{Enter}
use Rattle.history.specs.declared.Answer.{Answer}
use Rattle.history.specs.declared.Answer.TheVariants.{Ordered, Refused}
use Rattle.history.specs.declared.DayFault.{DayFault}
use Rattle.history.specs.declared.DayFault.TheVariants.{EntryOutsideLimits, ContractNotListed, NotOpen, Halted, PriceNotAdmissible, OrdersFull}
use Rattle.history.specs.declared.EntryField.TheVariants.{Quantity, Participant, Counterparty}
use Rattle.history.specs.History.{accepted}
use Rattle.history.specs.Prices.{admissible_in, closing_in}
use Rattle.history.specs.Rulings.{◌when◌, refuse, by_the_book, outside}
use Rattle.day.specs.State.{Terms, State, contract_at, in_collar, band_for, admissible_set}
use Rattle.day.specs.Calls.{partner_on, paired, deny, then, within_limits, admitted_at, admitted_by_contract, admitted, entered, after_entry, changed}
use Rattle.day.specs.Following.{answered, left}
use Rattle.day.specs.Laws.{EntriesFollowTheRulings}

-- the checks of hours, halt, price and room
last_checks : (closed halted outside_set full : Bool) (until : ℕ) (answer : Answer)
    → entered (then (deny (NotOpen when closed) (deny (Halted when halted) (deny (PriceNotAdmissible when outside_set) (Ok until)))) (λ (u : ℕ). deny (OrdersFull when full) (Ok u))) answer
    ≡ refuse (NotOpen when closed) (refuse (Halted when halted) (refuse (PriceNotAdmissible when outside_set) (refuse (OrdersFull when full) answer)))
last_checks true halted outside_set full until answer = refl
last_checks false true outside_set full until answer = refl
last_checks false false true full until answer = refl
last_checks false false false true until answer = refl
last_checks false false false false until answer = refl

-- those, and before them what the rulebook says
by_band : (band : Result PricesInBand RuleFault) (collar : Option (ℕ × ℕ)) (price : ℕ) (closed halted full : Bool) (until : ℕ) (answer : Answer)
    → entered (then (then (in_collar collar band) (λ set. deny (NotOpen when closed) (deny (Halted when halted) (deny (PriceNotAdmissible when not (set price)) (Ok until))))) (λ (u : ℕ). deny (OrdersFull when full) (Ok u))) answer
    ≡ refuse (by_the_book band) (refuse (NotOpen when closed) (refuse (Halted when halted) (refuse (PriceNotAdmissible when not (admissible_in band collar price)) (refuse (OrdersFull when full) answer))))
by_band (Ok prices) collar price closed halted full until answer =
    last_checks closed halted (not (admissible_in (Ok prices) collar price)) full until answer
by_band (Err fault) collar price closed halted full until answer = refl

-- the checks of the fields and of the contract
first_checks : (quantity participant counterparty missing : Bool) (contract : Terms) (rest : Terms → Result ℕ DayFault) (room : ℕ → Result ℕ DayFault) (answer : Answer)
    → entered (then (deny (EntryOutsideLimits Quantity when quantity) (deny (EntryOutsideLimits Participant when participant) (deny (EntryOutsideLimits Counterparty when counterparty) (Ok tt)))) (λ (_ : Unit {0}). then (then (cond missing (Err ContractNotListed) (Ok contract)) rest) room)) answer
    ≡ refuse (EntryOutsideLimits Quantity when quantity) (refuse (EntryOutsideLimits Participant when participant) (refuse (EntryOutsideLimits Counterparty when counterparty) (refuse (ContractNotListed when missing) (entered (then (rest contract) room) answer))))
first_checks true participant counterparty missing contract rest room answer = refl
first_checks false true counterparty missing contract rest room answer = refl
first_checks false false true missing contract rest room answer = refl
first_checks false false false true contract rest room answer = refl
first_checks false false false false contract rest room answer = refl

-- accepted until a minute, or refused
abbrev Until : ℕ → Result ℕ DayFault → Type 0
Until until result = (u : ℕ) → result ≡ Ok u → u ≡ until

until_itself : (until : ℕ) → Until until (Ok until)
until_itself until u is = cc

until_denied : (until : ℕ) (fault : Option DayFault) (rest : Result ℕ DayFault) → Until until rest → Until until (deny fault rest)
until_denied until None rest fits = fits
until_denied until (Some fault) rest fits = λ u is. cc

until_then : {A : Type 0} (until : ℕ) (first : Result A DayFault) (rest : A → Result ℕ DayFault)
    → ((value : A) → Until until (rest value)) → Until until (then first rest)
until_then until (Ok value) rest fits = fits value
until_then until (Err fault) rest fits = λ u is. cc

until_room : (until : ℕ) (result : Result ℕ DayFault) (full : Bool) → Until until result
    → Until until (then result (λ (u : ℕ). deny (OrdersFull when full) (Ok u)))
until_room until (Ok value) full fits =
    until_denied until (OrdersFull when full) (Ok value) (subst (λ (v : ℕ). Until until (Ok v)) (sym (fits value refl)) (until_itself until))
until_room until (Err fault) full fits = λ u is. cc

until_found : (until : ℕ) (missing : Bool) (contract : Terms) (rest : Terms → Result ℕ DayFault) → Until until (rest contract)
    → Until until (then (cond missing (Err ContractNotListed) (Ok contract)) rest)
until_found until true contract rest fits = λ u is. cc
until_found until false contract rest fits = fits

module _ (rules : Meaning) (s : State) (entry : Entry) where
  abbrev contract : Terms
  contract = contract_at s entry.contract

  abbrev ends : Option ℕ
  ends = closing_in (hours_of rules contract.product) s.minute

  abbrev full : Bool
  full = leb 256 (length s.orders)

  abbrev refused_first : Answer → Answer
  refused_first answer =
      refuse (EntryOutsideLimits Quantity when outside 10_000 entry.quantity)
      (refuse (EntryOutsideLimits Participant when outside 9_999 entry.participant)
      (refuse (EntryOutsideLimits Counterparty when outside 9_999 entry.counterparty)
      (refuse (ContractNotListed when outside (length s.contracts) entry.contract) answer)))

  ruled : (answer : Answer) → entered (admitted rules s entry) answer
      ≡ refused_first (refuse (by_the_book (band_for rules contract)) (refuse (NotOpen when not (is_some ends)) (refuse (Halted when (contract.halted && rules.halt_binds)) (refuse (PriceNotAdmissible when not (admissible_in (band_for rules contract) contract.collar entry.price)) (refuse (OrdersFull when full) answer)))))
  ruled answer =
      first_checks (outside 10_000 entry.quantity) (outside 9_999 entry.participant) (outside 9_999 entry.counterparty) (outside (length s.contracts) entry.contract)
      contract (λ (c : Terms). admitted_at rules s c entry) (λ (u : ℕ). deny (OrdersFull when full) (Ok u)) answer
      ∙ ap refused_first (by_band (band_for rules contract) contract.collar entry.price (not (is_some ends)) (contract.halted && rules.halt_binds) full (unwrap_or ends 0) answer)

  until_end : Until (unwrap_or ends 0) (admitted rules s entry)
  until_end =
      let end = unwrap_or ends 0 in
      until_then end (within_limits entry) (λ (_ : Unit {0}). then (admitted_by_contract rules s entry) (λ (u : ℕ). deny (OrdersFull when full) (Ok u)))
      (λ _. until_room end (admitted_by_contract rules s entry) full
      (until_found end (outside (length s.contracts) entry.contract) contract (λ (c : Terms). admitted_at rules s c entry)
      (until_then end (admissible_set rules contract) _ (λ set.
      until_denied end (NotOpen when not (is_some ends)) _
      (until_denied end (Halted when (contract.halted && rules.halt_binds)) _
      (until_denied end (PriceNotAdmissible when not (set entry.price)) _ (until_itself end)))))))

  abbrev pub numbered : Answer
  numbered = Ordered (suc (length s.orders)) (partner_on s entry)

  left_by : (answer : Answer) → answer ≡ answered rules s (Enter entry) → cond (accepted answer) (changed rules s (Enter entry)) s ≡ left rules s (Enter entry)
  left_by answer is = λ i. cond (accepted (is i)) (changed rules s (Enter entry)) s

  -- an entry that is refused: its answer, and the day that it leaves
  pub refusal : (fault : DayFault) → Err fault ≡ admitted rules s entry → Refused fault ≡ answered rules s (Enter entry)
  refusal fault is = ap (λ (r : Result ℕ DayFault). entered r numbered) is ∙ ruled numbered

  pub left_by_refusal : (fault : DayFault) → Err fault ≡ admitted rules s entry → s ≡ left rules s (Enter entry)
  left_by_refusal fault is = left_by (Refused fault) (refusal fault is)

  -- the same of one that is accepted
  pub acceptance : (until : ℕ) → Ok until ≡ admitted rules s entry → numbered ≡ answered rules s (Enter entry)
  acceptance until is = ap (λ (r : Result ℕ DayFault). entered r numbered) is ∙ ruled numbered

  pub left_by_acceptance : (until : ℕ) → Ok until ≡ admitted rules s entry → paired s (partner_on s entry) entry until ≡ left rules s (Enter entry)
  left_by_acceptance until is =
      ap (λ (v : ℕ). paired s (partner_on s entry) entry v) (until_end until (sym is)) ∙ left_by numbered (acceptance until is)

  left_as : (result : Result ℕ DayFault) → Until (unwrap_or ends 0) result
      → after_entry result s entry ≡ cond (is_ok result) (changed rules s (Enter entry)) s
  left_as (Ok u) fits = ap (λ (v : ℕ). paired s (partner_on s entry) entry v) (fits u refl)
  left_as (Err fault) fits = refl

pub entries_follow_the_rulings : EntriesFollowTheRulings
entries_follow_the_rulings = record {
  answer = λ rules s entry. ruled rules s entry (Ordered (suc (length s.orders)) (partner_on s entry));
  after = λ rules s entry. left_as rules s entry (admitted rules s entry) (until_end rules s entry);
}
