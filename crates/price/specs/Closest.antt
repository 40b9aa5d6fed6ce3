-- The nearest price as a function, so that answers can be told by equality: what a search of all prices from 1 up ends with.
-- `Laws` has the theorem that it is what `Nearest` names.
use Rattle.std.specs.Prelude.{◌≡◌, ℕ, zero, suc, ◌≤◌, cond, ℤ, Some, None, Option, nat_le}
use Rattle.price.specs.Questions.{GreatestAtOrBelow, LeastAtOrAbove, distance, signed_distance}
use Rattle.price.specs.Sets.{PriceSet, Prices, last_price}

-- of a lower and a higher price, if any, the nearer to n / d, and the higher where they are equally near
abbrev pub nearer : ℕ → ℕ → Option ℕ → Option ℕ → Option ℕ
nearer n d lower None = lower
nearer n d None (Some higher) = Some higher
nearer n d (Some lower) (Some higher) =
    cond (nat_le (distance n d higher) (distance n d lower)) (Some higher) (Some lower)

-- the nearest to n / d among the prices of a set from 1 to a top
unfoldable pub nearest_to_top : ℕ → PriceSet → ℕ → ℕ → Option ℕ
nearest_to_top zero set n d = None
nearest_to_top (suc top) set n d =
    cond (set (suc top)) (nearer n d (nearest_to_top top set n d) (Some (suc top))) (nearest_to_top top set n d)

-- a price together with its signed distance
abbrev pub with_distance : ℕ → ℕ → Option ℕ → Option (ℕ × ℤ)
with_distance n d None = None
with_distance n d (Some price) = Some (price, signed_distance n d price)

-- the nearest price of a set to n / d
unfoldable pub closest : PriceSet → ℕ → ℕ → Option (ℕ × ℤ)
closest set n d = with_distance n d (nearest_to_top last_price set n d)

-- a price, if any, up to the last price
abbrev pub Bounded : Option ℕ → Type 0
Bounded found = (price : ℕ) → found ≡ Some price → price ≤ last_price

-- the nearest price of every set whose prices beside n / d are these
abbrev pub NearestBeside : ℕ → ℕ → Option ℕ → Option ℕ → Option (ℕ × ℤ) → Type 0
NearestBeside n d below above answer =
    (set : PriceSet) → Prices set → GreatestAtOrBelow set n d below → LeastAtOrAbove set n d above
    → answer ≡ closest set n d
