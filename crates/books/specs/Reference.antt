-- The prices that a block is measured from: the mid-price, and what the figures give where it is not asked for.
use Rattle.std.specs.Prelude.{◌≡◌, ℕ, ◌+◌, ◌-◌, Bool, false, cond, ℤ, Some, None, Option, ◌==◌}
use Rattle.std.specs.Option.{option_or, unwrap_or}
use Rattle.price.specs.Closest.{closest}
use Rattle.price.specs.Questions.{Nearest}
use Rattle.price.specs.Sets.{multiples}
use Rattle.rulebook.specs.declared.Letter.TheVariants.{B, O, L, U, M}
use Rattle.rulebook.specs.Sheets.{Sheet}

infixl 5 ◌else◌
-- the first, or the second where the first is blank
abbrev pub ◌else◌ : Option ℕ → Option ℕ → Option ℕ
first else second = option_or first second

-- a figure as a number, 0 while blank
abbrev pub amount : Option ℕ → ℕ
amount figure = unwrap_or figure 0

abbrev pub price_of : Option (ℕ × ℤ) → Option ℕ
price_of None = None
price_of (Some (price, signed)) = Some price

-- the nearest multiple of a step to half of a sum
abbrev pub nearest_multiple : ℕ → ℕ → Option ℕ
nearest_multiple step sum = price_of (closest (multiples step) sum 2)

-- the mid-price of a bid and an offer, where both are posted: the nearest multiple of the auction step to half their sum
abbrev pub mid : ℕ → Option ℕ → Option ℕ → Option ℕ
mid step None offer = None
mid step (Some bid) None = None
mid step (Some bid) (Some offer) = nearest_multiple step (bid + offer)

abbrev pub mid_price : ℕ → Sheet → Option ℕ
mid_price step figures = mid step (figures B) (figures O)

-- M at 2 chooses the last traded price; blank or at 1 it chooses the mid-price
abbrev pub chooses_last : Option ℕ → Bool
chooses_last None = false
chooses_last (Some choice) = choice == 2

-- T: the mid-price, else the last price, else the reference price; M can put the last price first
abbrev pub trading_price : ℕ → Sheet → ℕ
trading_price step figures =
    amount (cond (chooses_last (figures M))
    (figures L else mid_price step figures else figures U)
    (mid_price step figures else figures L else figures U))

-- S: the last price, else the reference price
abbrev pub last_or_reference : Sheet → ℕ
last_or_reference figures = amount (figures L else figures U)

-- how far apart two figures are
abbrev pub apart : ℕ → ℕ → ℕ
apart a b = (a - b) + (b - a)

-- what the mid-price of a sheet is, by the relation of the nearest price
abbrev pub MidPrice : ℕ → Option ℕ → Option ℕ → Option ℕ → Type 0
MidPrice step None offer price = price ≡ None
MidPrice step (Some bid) None price = price ≡ None
MidPrice step (Some bid) (Some offer) None = ⊥
MidPrice step (Some bid) (Some offer) (Some price) =
    (signed : ℤ) × Nearest (multiples step) (bid + offer) 2 (Some (price, signed))
