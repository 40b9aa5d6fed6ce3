-- What holds of every sheet of figures and of every class of hours.
use Rattle.std.specs.Prelude.{◌≡◌, ℕ, ◌<◌, ◌≤◌, Bool, true, ◌⊎◌, List, [], ◌∷◌, Some, None, Option}
use Rattle.rulebook.specs.declared.letters.Letter.{Letter}
use Rattle.rulebook.specs.declared.hours.HoursClass.{HoursClass}
use Rattle.rulebook.specs.declared.hours.HoursClass.TheVariants.{A}
use Rattle.rulebook.specs.Letters.{rank}
use Rattle.rulebook.specs.Sheets.{Sheet}
use Rattle.rulebook.specs.Hours.{hours, closing}
use Rattle.rulebook.specs.Meaning.{lacking}

-- a letter is lacking: needed and blank
abbrev pub Lacks : (Letter → Bool) → Sheet → Letter → Type 0
Lacks needs figures letter = (needs letter ≡ true) × (figures letter ≡ None)

-- the first letter by rank that is lacking, or none where every needed letter is posted
abbrev pub FirstLacking : (Letter → Bool) → Sheet → Option Letter → Type 0
FirstLacking needs figures None = (letter : Letter) → Lacks needs figures letter → ⊥
FirstLacking needs figures (Some letter) =
    Lacks needs figures letter × ((other : Letter) → rank other < rank letter → Lacks needs figures other → ⊥)

pub record TheFirstLackingLetterIsTold : Type 0 where
  pub told : (needs : Letter → Bool) (figures : Sheet) → FirstLacking needs figures (lacking needs figures)
  pub only : (needs : Letter → Bool) (figures : Sheet) (answer : Option Letter)
      → FirstLacking needs figures answer → answer ≡ lacking needs figures

-- hours from a first minute to a last one are among those of a list
abbrev pub Among : List (ℕ × ℕ) → ℕ → ℕ → Type 0
Among [] from until = ⊥
Among ((first, last) ∷ later) from until = ((first ≡ from) × (last ≡ until)) ⊎ Among later from until

pub record OpenExactlyInItsHours : Type 0 where
  -- where a class closes at a minute, that is the end of hours of its that hold the minute
  pub inside : (class : HoursClass) (minute last : ℕ) → closing class minute ≡ Some last
      → (first : ℕ) × Among (hours class) first last × (first ≤ minute) × (minute < last)
  -- where it is closed, none of its hours hold the minute
  pub outside : (class : HoursClass) (minute first last : ℕ) → closing class minute ≡ None
      → Among (hours class) first last → first ≤ minute → minute < last → ⊥
  -- bond futures are open at minute 914, and closed at 915
  pub bonds_at_914 : closing A 914 ≡ Some 915
  pub bonds_at_915 : closing A 915 ≡ None
