-- The three questions about a price set and a fraction n / d that are answered with a price.
use Rattle.std.specs.Prelude.{◌≡◌, ℕ, ◌+◌, ◌-◌, ◌*◌, ◌<◌, ◌≤◌, ◌⊎◌, ℤ, pos, ◌-ℤ◌, Some, None, Option, ◌≢◌}
use Rattle.price.specs.Sets.{PriceSet, ◌among◌}

-- the greatest price of the set at or below n / d, or none where every price is above
abbrev pub GreatestAtOrBelow : PriceSet → ℕ → ℕ → Option ℕ → Type 0
GreatestAtOrBelow set n d None = (price : ℕ) → price among set → n < price * d
GreatestAtOrBelow set n d (Some greatest) =
    (greatest among set) × (greatest * d ≤ n) × ((price : ℕ) → price among set → price * d ≤ n → price ≤ greatest)

-- the least price of the set at or above n / d, or none where every price is below
abbrev pub LeastAtOrAbove : PriceSet → ℕ → ℕ → Option ℕ → Type 0
LeastAtOrAbove set n d None = (price : ℕ) → price among set → price * d < n
LeastAtOrAbove set n d (Some least) =
    (least among set) × (n ≤ least * d) × ((price : ℕ) → price among set → n ≤ price * d → least ≤ price)

-- how far a price is from n / d, in parts of d
abbrev pub distance : ℕ → ℕ → ℕ → ℕ
distance n d price = (price * d - n) + (n - price * d)

-- a price is worse than another: farther from n / d, or as far and lower
abbrev pub Worse : ℕ → ℕ → ℕ → ℕ → Type 0
Worse n d price other =
    (distance n d other < distance n d price) ⊎ ((distance n d other ≡ distance n d price) × (price < other))

-- the signed distance of a price from n / d, in parts of d: above is positive
abbrev pub signed_distance : ℕ → ℕ → ℕ → ℤ
signed_distance n d price = pos (price * d) -ℤ pos n

-- the nearest price of the set to n / d with its signed distance, every other price being worse; none for an empty set
abbrev pub Nearest : PriceSet → ℕ → ℕ → Option (ℕ × ℤ) → Type 0
Nearest set n d None = (price : ℕ) → price among set → ⊥
Nearest set n d (Some (nearest, signed)) =
    (nearest among set) × (signed ≡ signed_distance n d nearest)
    × ((price : ℕ) → price among set → (price ≢ nearest) → Worse n d price nearest)
