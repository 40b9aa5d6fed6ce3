-- What the grid and the rulebook owe, as the order check and the pile of limits use it.
use Rattle.std.proofs.Common.{◌≡◌, ℕ, ◌≤◌, ℤ, Ok, Option, sym, subst}
use Rattle.price.specs.Sets.{PriceSet, Prices, last_end}
use Rattle.price.specs.Questions.{Nearest}
use Rattle.price.specs.Closest.{closest}
use Rattle.price.proofs.Search.{closest_is_nearest}
use Rattle.rulebook.specs.declared.Figures.{Figures}
use Rattle.rulebook.specs.Meaning.{PricesInBand, Meaning, prices_of, Sound}
use Rattle.rulebook.specs.Sheets.{sheet}
use Rattle.rulebook.proofs.Sheet.{within_limits}

pub found_nearest : (set : PriceSet) (n d : ℕ) (found : Option (ℕ × ℤ)) → Prices set → found ≡ closest set n d → Nearest set n d found
found_nearest set n d found prices is = subst (Nearest set n d) (sym is) (closest_is_nearest set n d prices)

-- the ends of a band fit a limit
pub ends_fit : (rules : Meaning) → Sound rules → (product : ℕ) (figures : Figures) (prices : PricesInBand)
    → Ok prices ≡ prices_of rules product (sheet figures) → (prices.low ≤ last_end) × (prices.high ≤ last_end)
ends_fit rules sound product figures prices is = (
  sound.low_most product (sheet figures) prices (within_limits figures) (sym is),
  sound.high_most product (sheet figures) prices (within_limits figures) (sym is),
)
