-- The sheet of a contract's figures: what is posted under each letter, if anything.
use Rattle.std.specs.Prelude.{◌≡◌, ℕ, ◌-◌, ◌≤◌, Bool, true, false, cond, Some, None, Ok, Err, Option, Result, ◌==◌, nat_le, slice_index_or}
use Rattle.rulebook.specs.declared.faults.FigureFault.{FigureFault}
use Rattle.rulebook.specs.declared.faults.FigureFault.TheVariants.{ValueOverLimit}
use Rattle.rulebook.specs.declared.letters.Letter.{Letter}
use Rattle.rulebook.specs.declared.figures.Figures.{Figures}
use Rattle.rulebook.specs.Letters.{rank, same, most}

abbrev pub Sheet : Type 0
Sheet = Letter → Option ℕ

abbrev pub sheet : Figures → Sheet
sheet figures letter = slice_index_or figures.values (rank letter - 1) None

abbrev pub all_blank : Sheet
all_blank letter = None

-- a value that is posted; 0 blanks
abbrev pub posted : ℕ → Option ℕ
posted value = cond (value == 0) None (Some value)

-- the sheet after a value is posted under a letter
abbrev pub with_figure : Sheet → Letter → ℕ → Sheet
with_figure before letter value other = cond (same other letter) (posted value) (before other)

-- what posting a value is answered
abbrev pub posting : Letter → ℕ → Result (Unit {0}) FigureFault
posting letter value = cond (nat_le value (most letter)) (Ok tt) (Err ValueOverLimit)

-- the sheet that it leaves: with the value, or as it was where the value is over the letter's most
abbrev pub after_posting : Sheet → Letter → ℕ → Sheet
after_posting before letter value = cond (nat_le value (most letter)) (with_figure before letter value) before

abbrev pub is_blank : Option ℕ → Bool
is_blank None = true
is_blank (Some value) = false

-- every figure is blank or from 1 to the most of its letter
pub record WithinLimits (figures : Sheet) : Type 0 where
  pub positive : (letter : Letter) (value : ℕ) → figures letter ≡ Some value → 1 ≤ value
  pub bounded : (letter : Letter) (value : ℕ) → figures letter ≡ Some value → value ≤ most letter
