-- The laws of a session.
use Rattle.std.specs.Prelude.{◌≡◌, ℕ, List, length, take}
use Rattle.rulebook.specs.Meaning.{Meaning}
use Rattle.day.specs.State.{State, fresh}
use Rattle.trading.specs.Runs.{all_answered}
use Rattle.reply.specs.declared.LineFault.{LineFault}
use Rattle.reply.specs.declared.Reply.TheVariants.{Refused}
use Rattle.line.specs.Lines.{lines, ended}
use Rattle.session.specs.Talk.{reply, left_by_line, printed, left_by_lines, calls_in, printed_by}
use Rattle.session.specs.Pieces.{most_read, Standing, beginning, fed, all_text, all_fed, joined}

-- however an input is cut into pieces, what is printed for them, and the day in the end, are those of the first 65,536
-- bytes as a whole; and no ended line is held back
pub record PiecesAreTheWhole : Type 0 where
  pub text : (rules : Meaning) (pieces : List (List ℕ))
      → all_text rules beginning pieces ≡ printed rules fresh (lines (take most_read (joined pieces)))
  pub day : (rules : Meaning) (pieces : List (List ℕ))
      → all_fed rules beginning pieces ≡ left_by_lines rules fresh (lines (take most_read (joined pieces)))
  pub none_held_back : (rules : Meaning) (t : Standing) (piece : List ℕ) → length (ended (fed rules t piece).held) ≡ 0

-- what is printed for lines is what the answers to their calls say, those that stand in the lawful history
abbrev pub AnswersArePrinted : Type 0
AnswersArePrinted =
    (rules : Meaning) (s : State) (lines : List (List ℕ)) → printed rules s lines ≡ printed_by lines (all_answered rules s (calls_in lines))

-- a line that is refused leaves the day exactly as it was
abbrev pub RefusedLinesChangeNothing : Type 0
RefusedLinesChangeNothing =
    (rules : Meaning) (s : State) (line : List ℕ) (fault : LineFault) → reply rules s line ≡ Refused fault → left_by_line rules s line ≡ s
