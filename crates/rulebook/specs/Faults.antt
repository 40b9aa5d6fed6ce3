-- The faults of figures and of rulebooks: the number of each, and its place.
use Rattle.std.specs.Prelude.{ℕ}
use Rattle.rulebook.specs.declared.faults.FigureFault.{FigureFault}
use Rattle.rulebook.specs.declared.faults.FigureFault.TheVariants.{UnknownLetter, ValueOverLimit}
use Rattle.rulebook.specs.declared.faults.RuleFault.{RuleFault}
use Rattle.rulebook.specs.declared.faults.RuleFault.TheVariants.{ProductAbsent, LetterLacking}
use Rattle.rulebook.specs.Letters.{rank}

abbrev pub figure_number : FigureFault → ℕ
figure_number UnknownLetter = 12
figure_number ValueOverLimit = 13

abbrev pub rule_number : RuleFault → ℕ
rule_number ProductAbsent = 14
rule_number (LetterLacking letter) = 25

abbrev pub rule_place : RuleFault → ℕ
rule_place ProductAbsent = 0
rule_place (LetterLacking letter) = rank letter
