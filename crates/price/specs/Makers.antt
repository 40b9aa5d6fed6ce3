-- What each maker answers: the parts of what it made, or the number of the refusal.
use Rattle.std.specs.Prelude.{ℕ, Bool, cond, ◌&&◌, Ok, Err, Result, nat_le}
use Rattle.price.specs.declared.faults.PriceFault.{PriceFault}
use Rattle.price.specs.Faults.{number}
use Rattle.price.specs.Sets.{last_price, last_end}

-- an answer by its parts or its number
abbrev pub told : {A B : Type 0} → (A → B) → Result A PriceFault → Result B ℕ
told parts (Ok made) = Ok (parts made)
told parts (Err fault) = Err (number fault)

-- a number from one bound to another
abbrev pub from_to : ℕ → ℕ → ℕ → Bool
from_to low high value = nat_le low value && nat_le value high

-- a fraction: n from 0 to 1,000,000,000,000,000 over d from 1 to 10,000
abbrev pub fraction : ℕ → ℕ → Result (ℕ × ℕ) ℕ
fraction n d = cond (from_to 0 1_000_000_000_000_000 n && from_to 1 10_000 d) (Ok (n, d)) (Err 11)

-- a step grid: a step from 1 to 100,000 pips
abbrev pub step_grid : ℕ → Result ℕ ℕ
step_grid step = cond (from_to 1 100_000 step) (Ok step) (Err 18)

-- a single-price grid: a price from 1 to the last
abbrev pub single_price : ℕ → Result ℕ ℕ
single_price price = cond (from_to 1 last_price price) (Ok price) (Err 18)

-- a limit over a grid: two ends from 0 to the last end, in either order
abbrev pub limit : {G : Type 0} → G → ℕ → ℕ → Result (G × ℕ × ℕ) ℕ
limit grid low high =
    cond (from_to 0 last_end low && from_to 0 last_end high) (Ok (grid, low, high)) (Err 18)
