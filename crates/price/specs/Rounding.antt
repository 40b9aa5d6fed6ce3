-- Whole numbers, multiples and ends beside a fraction n / d, each by what it divides: the numbers on either side of it.
use Rattle.std.specs.Prelude.{◌≡◌, ℕ, ◌*◌, ◌%◌, ◌≤◌}

-- a whole number is at or below n / d exactly when it is at most the floor
abbrev pub Floor : ℕ → ℕ → ℕ → Type 0
Floor n d floor = (whole : ℕ) → (whole * d ≤ n → whole ≤ floor) × (whole ≤ floor → whole * d ≤ n)

-- a whole number is at or above n / d exactly when it is at least the ceiling
abbrev pub Ceiling : ℕ → ℕ → ℕ → Type 0
Ceiling n d ceiling = (whole : ℕ) → (n ≤ whole * d → ceiling ≤ whole) × (ceiling ≤ whole → n ≤ whole * d)

-- the last multiple of a step up to a number, 0 where it is the only one
abbrev pub LastMultiple : ℕ → ℕ → ℕ → Type 0
LastMultiple step most last =
    (last % step ≡ 0) × (last ≤ most) × ((other : ℕ) → other % step ≡ 0 → other ≤ most → other ≤ last)

-- the first multiple of a step from a number on
abbrev pub FirstMultiple : ℕ → ℕ → ℕ → Type 0
FirstMultiple step least first =
    (first % step ≡ 0) × (least ≤ first) × ((other : ℕ) → other % step ≡ 0 → least ≤ other → first ≤ other)

-- m / e is the lesser of n / d and an end in thousandths: at or below it means at or below both
abbrev pub Lesser : ℕ → ℕ → ℕ → ℕ → ℕ → Type 0
Lesser n d end m e =
    (price : ℕ) → (price * e ≤ m → (price * d ≤ n) × (1000 * price ≤ end)) × (price * d ≤ n → 1000 * price ≤ end → price * e ≤ m)

-- m / e is the greater of n / d and an end in thousandths: at or above it means at or above both
abbrev pub Greater : ℕ → ℕ → ℕ → ℕ → ℕ → Type 0
Greater n d end m e =
    (price : ℕ) → (m ≤ price * e → (n ≤ price * d) × (end ≤ 1000 * price)) × (n ≤ price * d → end ≤ 1000 * price → m ≤ price * e)
