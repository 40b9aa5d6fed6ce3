-- A day's history, the calls with their answers, and what it says of the minute and of each contract.
use Rattle.std.specs.Prelude.{ℕ, suc, Bool, true, false, cond, ◌&&◌, Some, None, Option, ◌==◌, nat_le}
use Rattle.rulebook.specs.declared.Letter.{Letter}
use Rattle.rulebook.specs.Letters.{letter_of, most}
use Rattle.rulebook.specs.Sheets.{Sheet, all_blank, with_figure}
use Rattle.history.specs.declared.calls.Call.{Call}
use Rattle.history.specs.declared.calls.Call.TheVariants.{List, Post, Collar, Clock, Halt, Lift, Ask, Enter, Withdraw}
use Rattle.history.specs.declared.answers.Answer.{Answer}
use Rattle.history.specs.declared.answers.Answer.TheVariants.{Listed, Done, Lapsed, Price, Ordered, Refused}

-- a day just opened, and a day after one more call and its answer
pub data History : Type 0 where
  opened : History
  after : History → Call → Answer → History

abbrev pub accepted : Answer → Bool
accepted (Listed contract) = true
accepted Done = true
accepted (Lapsed count) = true
accepted (Price price distance) = true
accepted (Ordered order partner) = true
accepted (Refused fault) = false

-- the minute: that of the last accepted clock, 0 before any
abbrev pub minute_by : ℕ → Call → ℕ
minute_by before (List product) = before
minute_by before (Post contract letter value) = before
minute_by before (Collar contract low high) = before
minute_by before (Clock minute) = minute
minute_by before (Halt contract) = before
minute_by before (Lift contract) = before
minute_by before (Ask contract n d) = before
minute_by before (Enter entry) = before
minute_by before (Withdraw order participant) = before

abbrev pub minute : History → ℕ
minute opened = 0
minute (after h call answer) = cond (accepted answer) (minute_by (minute h) call) (minute h)

-- how many contracts are listed
abbrev pub listed_by : ℕ → Call → ℕ
listed_by before (List product) = suc before
listed_by before (Post contract letter value) = before
listed_by before (Collar contract low high) = before
listed_by before (Clock minute) = before
listed_by before (Halt contract) = before
listed_by before (Lift contract) = before
listed_by before (Ask contract n d) = before
listed_by before (Enter entry) = before
listed_by before (Withdraw order participant) = before

abbrev pub listed : History → ℕ
listed opened = 0
listed (after h call answer) = cond (accepted answer) (listed_by (listed h) call) (listed h)

-- the product that a contract was listed as; asked of listed contracts only
abbrev pub product_by : ℕ → ℕ → ℕ → Call → ℕ
product_by contract next before (List product) = cond (contract == next) product before
product_by contract next before (Post other letter value) = before
product_by contract next before (Collar other low high) = before
product_by contract next before (Clock minute) = before
product_by contract next before (Halt other) = before
product_by contract next before (Lift other) = before
product_by contract next before (Ask other n d) = before
product_by contract next before (Enter entry) = before
product_by contract next before (Withdraw order participant) = before

abbrev pub product : History → ℕ → ℕ
product opened contract = 0
product (after h call answer) contract =
    cond (accepted answer) (product_by contract (suc (listed h)) (product h contract) call) (product h contract)

-- the letter of a character, if it has one
unfoldable pub letter_named : ℕ → Option Letter
letter_named character = letter_of character

-- a value may be posted under a letter
unfoldable pub takes : Letter → ℕ → Bool
takes letter value = nat_le value (most letter)

-- a contract's figures: the last accepted post under each letter
abbrev pub posted_under : Option Letter → Sheet → ℕ → Sheet
posted_under None before value = before
posted_under (Some letter) before value = with_figure before letter value

abbrev pub figures_by : ℕ → Sheet → Call → Sheet
figures_by contract before (List product) = before
figures_by contract before (Post other letter value) = cond (contract == other) (posted_under (letter_named letter) before value) before
figures_by contract before (Collar other low high) = before
figures_by contract before (Clock minute) = before
figures_by contract before (Halt other) = before
figures_by contract before (Lift other) = before
figures_by contract before (Ask other n d) = before
figures_by contract before (Enter entry) = before
figures_by contract before (Withdraw order participant) = before

abbrev pub figures : History → ℕ → Sheet
figures opened contract = all_blank
figures (after h call answer) contract = cond (accepted answer) (figures_by contract (figures h contract) call) (figures h contract)

-- a contract's collar: that of the last accepted collar, which 0 and 0 removes
abbrev pub collar_of : ℕ → ℕ → Option (ℕ × ℕ)
collar_of low high = cond (low == 0 && high == 0) None (Some (low, high))

abbrev pub collar_by : ℕ → Option (ℕ × ℕ) → Call → Option (ℕ × ℕ)
collar_by contract before (List product) = before
collar_by contract before (Post other letter value) = before
collar_by contract before (Collar other low high) = cond (contract == other) (collar_of low high) before
collar_by contract before (Clock minute) = before
collar_by contract before (Halt other) = before
collar_by contract before (Lift other) = before
collar_by contract before (Ask other n d) = before
collar_by contract before (Enter entry) = before
collar_by contract before (Withdraw order participant) = before

abbrev pub collar : History → ℕ → Option (ℕ × ℕ)
collar opened contract = None
collar (after h call answer) contract = cond (accepted answer) (collar_by contract (collar h contract) call) (collar h contract)

-- a contract is halted where the last accepted halt or lift of it was a halt
abbrev pub halted_by : ℕ → Bool → Call → Bool
halted_by contract before (List product) = before
halted_by contract before (Post other letter value) = before
halted_by contract before (Collar other low high) = before
halted_by contract before (Clock minute) = before
halted_by contract before (Halt other) = cond (contract == other) true before
halted_by contract before (Lift other) = cond (contract == other) false before
halted_by contract before (Ask other n d) = before
halted_by contract before (Enter entry) = before
halted_by contract before (Withdraw order participant) = before

abbrev pub halted : History → ℕ → Bool
halted opened contract = false
halted (after h call answer) contract = cond (accepted answer) (halted_by contract (halted h contract) call) (halted h contract)
