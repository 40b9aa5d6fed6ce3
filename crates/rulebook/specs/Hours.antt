-- The hours of each class: minutes from midnight at the start of the business day; 1,800 is 06:00 the next day.
use Rattle.std.specs.Prelude.{ℕ, cond, ◌&&◌, List, [], ◌∷◌, Some, None, Option, nat_le, nat_lt}
use Rattle.rulebook.specs.declared.hours.HoursClass.{HoursClass}
use Rattle.rulebook.specs.declared.hours.HoursClass.TheVariants.{A, B, C, D, E}

-- each from its first minute to just before its last
abbrev pub hours : HoursClass → List (ℕ × ℕ)
hours A = (500, 915) ∷ (925, 1800) ∷ []
hours B = (500, 990) ∷ (1005, 1800) ∷ []
hours C = (500, 990) ∷ (1005, 1140) ∷ []
hours D = (500, 990) ∷ []
hours E = (500, 990) ∷ (1005, 1080) ∷ []

-- when the hours that hold a minute end; none while closed
abbrev pub ending : List (ℕ × ℕ) → ℕ → Option ℕ
ending [] minute = None
ending ((first, last) ∷ later) minute = cond (nat_le first minute && nat_lt minute last) (Some last) (ending later minute)

abbrev pub closing : HoursClass → ℕ → Option ℕ
closing class minute = ending (hours class) minute
