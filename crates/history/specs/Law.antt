-- The law of the day: what holds of every lawful history, under every rulebook.
use Rattle.std.specs.Prelude.{◌≡◌, ℕ, ◌<◌, true, false, ◌⊎◌, List, [], ◌∷◌, Some, None, Ok, Err, ◌≢◌}
use Rattle.price.specs.Sets.{◌among◌, between}
use Rattle.price.specs.Questions.{signed_distance, Worse}
use Rattle.rulebook.specs.declared.RuleFault.TheVariants.{ProductAbsent}
use Rattle.rulebook.specs.Meaning.{Meaning, Product, PricesInBand, lacking, unless_lacking, hours_of, prices_of, Sound as Bounded}
use Rattle.rulebook.specs.Sheets.{Sheet, WithinLimits}
use Rattle.history.specs.declared.calls.Call.{Call}
use Rattle.history.specs.declared.calls.Call.TheVariants.{Ask, Withdraw}
use Rattle.history.specs.declared.answers.Answer.{Answer}
use Rattle.history.specs.declared.answers.Answer.TheVariants.{Done, Price, Refused}
use Rattle.history.specs.declared.faults.DayFault.TheVariants.{NoAdmissiblePrice}
use Rattle.history.specs.History.{History, opened, after, minute, product, figures}
use Rattle.history.specs.Prices.{inside_collar, band_now, admissible, is_open, is_stopped, is_fraction}
use Rattle.history.specs.Orders.{order, known, waits, ends, counters, opposite}
use Rattle.history.specs.Board.{board}
use Rattle.history.specs.Rulings.{unlisted, Fixed, Lawful}

-- a history with calls and their answers added, in turn
abbrev pub added : History → List Call → List Answer → History
added h [] answers = h
added h (call ∷ calls) [] = h
added h (call ∷ calls) (answer ∷ answers) = added (after h call answer) calls answers

-- a call was made and answered after a history, within the day
abbrev pub Made : History → History → Call → Answer → Type 0
Made opened before call answer = ⊥
Made (after h made given) before call answer =
    ((h ≡ before) × (made ≡ call) × (given ≡ answer)) ⊎ Made h before call answer

-- what an ask may be answered: no price exactly when none is admissible, else the nearest with its distance
abbrev pub AskedRight : Meaning → History → ℕ → ℕ → ℕ → Answer → Type 0
AskedRight rules h contract n d answer =
    ((answer ≡ Refused NoAdmissiblePrice) × ((price : ℕ) → price among admissible rules h contract → ⊥))
    ⊎ ((best : ℕ) × (answer ≡ Price best (signed_distance n d best)) × (best among admissible rules h contract)
    × ((price : ℕ) → price among admissible rules h contract → (price ≢ best) → Worse n d price best))

-- two orders are a trade: the answer of the later names the earlier as its partner
pub record Trade (h : History) (earlier later : ℕ) : Type 0 where
  pub accepted : known h later ≡ true
  pub named : (order h later).partner ≡ earlier
  pub somebody : 0 < earlier

-- what holds of a trade
pub record Joined (rules : Meaning) (h : History) (earlier later : ℕ) : Type 0 where
  pub in_order : (0 < earlier) × (earlier < later)
  -- one bid and one offer, which counter each other
  pub sides : opposite (order h earlier).entry.side (order h later).entry.side ≡ true
  pub counter : counters (order h earlier).entry (order h later).entry ≡ true
  -- when the later came, the earlier waited, and no order before it waited that counters the later
  pub waited : waits rules (order h later).before earlier ≡ true
  pub earliest : (k : ℕ) → k < earlier → waits rules (order h later).before k ≡ true
      → counters (order h k).entry (order h later).entry ≡ false
  -- the price was admissible, and the contract open and under no halt that binds
  pub at_a_price : (order h later).entry.price among admissible rules (order h later).before (order h later).entry.contract
  pub was_open : is_open rules (order h later).before (order h later).entry.contract ≡ true
  pub unhalted : is_stopped rules (order h later).before (order h later).entry.contract ≡ false

-- two pairs of orders have an order in common
abbrev pub ShareAnOrder : ℕ → ℕ → ℕ → ℕ → Type 0
ShareAnOrder j k i m = ((j ≡ i) ⊎ (j ≡ m)) ⊎ ((k ≡ i) ⊎ (k ≡ m))

pub record Sound (rules : Meaning) (h : History) : Type 0 where
  -- every ask of a listed contract with its figures posted and a fraction within its limits was answered right
  pub asks : (before : History) (contract n d : ℕ) (answer : Answer) (prices : PricesInBand)
      → Made h before (Ask contract n d) answer → is_fraction n d ≡ true → unlisted (board rules before) contract ≡ false
      → band_now rules before contract ≡ Ok prices → AskedRight rules before contract n d answer
  -- every trade is a right one, and no order is in two
  pub trades : (earlier later : ℕ) → Trade h earlier later → Joined rules h earlier later
  pub once : (j k i m : ℕ) → Trade h j k → Trade h i m → ShareAnOrder j k i m → (j ≡ i) × (k ≡ m)
  -- no two waiting orders counter each other
  pub none_left : (j k : ℕ) → waits rules h j ≡ true → waits rules h k ≡ true
      → counters (order h j).entry (order h k).entry ≡ false
  -- its participant can withdraw an order exactly while it waits
  pub withdrawable : (k : ℕ) → known h k ≡ true → (answer : Answer)
      → Fixed rules h (Withdraw k (order h k).entry.participant) answer
      → (answer ≡ Done → waits rules h k ≡ true) × (waits rules h k ≡ true → answer ≡ Done)
  -- none waits past the end of the hours in which it came
  pub in_hours : (k : ℕ) → waits rules h k ≡ true → minute h < ends rules h k

abbrev pub Law : Type 0
Law = (rules : Meaning) (h : History) → Lawful rules h → Sound rules h

-- where there is no collar nothing is taken away: under every rulebook that keeps its bounds the band lies inside
abbrev pub NoCollarTakesNothing : Type 0
NoCollarTakesNothing =
    (rules : Meaning) → Bounded rules → (number : ℕ) (figures : Sheet) (prices : PricesInBand) → WithinLimits figures
    → prices_of rules number figures ≡ Ok prices → (price : ℕ)
    → inside_collar None (between prices.low prices.high prices.on_grid) price ≡ between prices.low prices.high prices.on_grid price

-- the rulebook has the product that a contract was listed as
pub record HasProduct (rules : Meaning) (h : History) (contract : ℕ) : Type 0 where
  pub its : Product
  pub known : rules.product (product h contract) ≡ Some its
  pub hours : hours_of rules (product h contract) ≡ Ok its.hours
  -- what it says of the prices: a band where no needed letter is blank, else the first such letter
  pub prices : band_now rules h contract ≡ unless_lacking (lacking its.needs (figures h contract)) (its.prices (figures h contract))
  -- and never that the product is absent
  pub never_absent : band_now rules h contract ≢ Err ProductAbsent

-- in every lawful day, under every rulebook, a contract that is listed has a product: so what the rulebook says of its prices
-- is a band, or the first letter that is lacking; never that the product is absent
abbrev pub ListedContractsHaveProducts : Type 0
ListedContractsHaveProducts =
    (rules : Meaning) (h : History) → Lawful rules h → (contract : ℕ) → unlisted (board rules h) contract ≡ false
    → HasProduct rules h contract
