-- The number that a field writes.
use Rattle.std.specs.Prelude.{ℕ, ◌+◌, ◌-◌, ◌*◌, cond, ◌||◌, List, [], ◌∷◌, length, Some, None, Option, ◌==◌, nat_lt}
use Rattle.std.specs.Str.{all_ascii_digits}

-- the digits in base ten, after a number that stands before them
abbrev pub worth : ℕ → List ℕ → ℕ
worth n [] = n
worth n (byte ∷ bytes) = worth (n * 10 + (byte - 48)) bytes

abbrev pub digits_in : List ℕ → Option ℕ
digits_in bytes = cond (all_ascii_digits bytes) (Some (worth 0 bytes)) None

-- 1 to 16 digits, leading zeros among them
abbrev pub number_in : List ℕ → Option ℕ
number_in bytes = cond (length bytes == 0 || nat_lt 16 (length bytes)) None (digits_in bytes)
