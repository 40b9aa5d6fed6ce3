-- The limits of the figures by their place from 0, as a test that the type of the figures keeps.
use Rattle.std.specs.Prelude.{ℕ, Bool, true, cond, ◌&&◌, Some, None, Option, ◌==◌, nat_le}

-- blank, or from 1 to 100,000,000,000; the last one, the choice, to 2
abbrev pub fits : ℕ → Option ℕ → Bool
fits place None = true
fits place (Some value) = nat_le 1 value && nat_le value (cond (place == 12) 2 100_000_000_000)
