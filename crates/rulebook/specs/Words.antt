-- How letters and faults are written.
use Rattle.std.specs.Prelude.{ℕ, List, ◌++◌, codes}
use Rattle.rulebook.specs.declared.letters.Letter.{Letter}
use Rattle.rulebook.specs.declared.letters.Letter.TheVariants.{B, O, L, U, V, W, X, Y, Z, H, I, K, M}
use Rattle.rulebook.specs.declared.faults.FigureFault.{FigureFault}
use Rattle.rulebook.specs.declared.faults.FigureFault.TheVariants.{UnknownLetter, ValueOverLimit}
use Rattle.rulebook.specs.declared.faults.RuleFault.{RuleFault}
use Rattle.rulebook.specs.declared.faults.RuleFault.TheVariants.{ProductAbsent, LetterLacking}

abbrev pub letter_text : Letter → List ℕ
letter_text B = codes "B"
letter_text O = codes "O"
letter_text L = codes "L"
letter_text U = codes "U"
letter_text V = codes "V"
letter_text W = codes "W"
letter_text X = codes "X"
letter_text Y = codes "Y"
letter_text Z = codes "Z"
letter_text H = codes "H"
letter_text I = codes "I"
letter_text K = codes "K"
letter_text M = codes "M"

abbrev pub figure_words : FigureFault → List ℕ
figure_words UnknownLetter = codes "unknown letter"
figure_words ValueOverLimit = codes "value over its limit"

abbrev pub rule_words : RuleFault → List ℕ
rule_words ProductAbsent = codes "no such product"
rule_words (LetterLacking letter) = codes "figure " ++ (letter_text letter ++ codes " is lacking")
