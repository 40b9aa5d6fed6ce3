-- Worked days under the single-issue book: histories, and what they say.
use Rattle.std.specs.Prelude.{◌≡◌, ℕ, true, false, List, [], ◌∷◌, pos}
use Rattle.rulebook.specs.declared.Letter.TheVariants.{U}
use Rattle.rulebook.specs.declared.RuleFault.TheVariants.{LetterLacking}
use Rattle.books.specs.Books.{single_issue}
use Rattle.history.specs.declared.Side.{Side}
use Rattle.history.specs.declared.Side.TheVariants.{Bid, Offer}
use Rattle.history.specs.declared.Entry.{Entry}
use Rattle.history.specs.declared.Call.{Call}
use Rattle.history.specs.declared.Call.TheVariants.{List as Listing, Post, Clock, Ask, Enter, Withdraw}
use Rattle.history.specs.declared.Answer.{Answer}
use Rattle.history.specs.declared.Answer.TheVariants.{Listed, Done, Lapsed, Price, Ordered, Refused}
use Rattle.history.specs.declared.DayFault.TheVariants.{Rule, MinuteBeforePresent, NotOpen, NotWaiting}
use Rattle.history.specs.History.{History, opened, after}
use Rattle.history.specs.Prices.{is_open}
use Rattle.history.specs.Orders.{waits}
use Rattle.history.specs.Rulings.{Fixed, Lawful}
use Rattle.history.specs.Law.{added, Trade}

-- the code of the letter U
abbrev pub letter_u : ℕ
letter_u = 85

-- an order for contract 1 of ten
abbrev pub for_ten : Side → ℕ → ℕ → ℕ → Entry
for_ten side price participant counterparty = record {
  side = side;
  contract = 1;
  price = price;
  quantity = 10;
  participant = participant;
  counterparty = counterparty;
}

-- a day in Nikkei 225 futures on which two orders trade
abbrev pub calls : List Call
calls =
    Listing 5
    ∷ Ask 1 5 1
    ∷ Post 1 letter_u 400_000_000
    ∷ Clock 500
    ∷ Enter (for_ten Offer 390_000_000 7 8)
    ∷ Enter (for_ten Bid 390_000_000 8 7)
    ∷ Ask 1 431_999_999 1
    ∷ Clock 400
    ∷ Withdraw 2 8
    ∷ []

abbrev pub answers : List Answer
answers =
    Listed 1
    ∷ Refused (Rule (LetterLacking U))
    ∷ Done
    ∷ Lapsed 0
    ∷ Ordered 1 0
    ∷ Ordered 2 1
    ∷ Price 431_999_999 (pos 0)
    ∷ Refused MinuteBeforePresent
    ∷ Refused NotWaiting
    ∷ []

abbrev pub trading_day : History
trading_day = added opened calls answers

-- one contract at a reference price, and the clock at a minute
abbrev pub listed_at : ℕ → ℕ → ℕ → History
listed_at product price minute =
    added opened (Listing product ∷ Post 1 letter_u price ∷ Clock minute ∷ []) (Listed 1 ∷ Done ∷ Lapsed 0 ∷ [])

-- 10-year JGB futures
abbrev pub bond_bid : Entry
bond_bid = for_ten Bid 1_400_150 7 8

-- Nikkei 225 futures with an order of minute 989
abbrev pub waiting_day : History
waiting_day = after (listed_at 5 400_000_000 989) (Enter (for_ten Bid 390_000_000 7 8)) (Ordered 1 0)

pub record WorkedDays : Type 0 where
  -- the trading day is lawful, and its two orders are a trade
  pub lawful : Lawful single_issue trading_day
  pub traded : Trade trading_day 1 2
  -- an entry in JGB futures is accepted at minute 914 and refused as not open at 915
  pub open_at_914 : Lawful single_issue (listed_at 1 1_400_150 914) × Fixed single_issue (listed_at 1 1_400_150 914) (Enter bond_bid) (Ordered 1 0)
  pub closed_at_915 : Lawful single_issue (listed_at 1 1_400_150 915) × Fixed single_issue (listed_at 1 1_400_150 915) (Enter bond_bid) (Refused NotOpen)
  -- an order of minute 989 waits; it lapses at clock 990, and also at a jump to 1,005, where the contract is open
  -- again, and not at 989
  pub waits_at_989 : Lawful single_issue waiting_day × (waits single_issue waiting_day 1 ≡ true)
  pub lapses_at_990 : Fixed single_issue waiting_day (Clock 990) (Lapsed 1) × (waits single_issue (after waiting_day (Clock 990) (Lapsed 1)) 1 ≡ false)
  pub lapses_at_1005 : Fixed single_issue waiting_day (Clock 1_005) (Lapsed 1) × (waits single_issue (after waiting_day (Clock 1_005) (Lapsed 1)) 1 ≡ false)
  pub open_at_1005 : is_open single_issue (after waiting_day (Clock 1_005) (Lapsed 1)) 1 ≡ true
  pub stays_at_989 : Fixed single_issue waiting_day (Clock 989) (Lapsed 0)
