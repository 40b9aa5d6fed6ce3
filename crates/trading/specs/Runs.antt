-- A list of calls on a day: what they answer and leave, and the history that they make.
use Rattle.std.specs.Prelude.{List, [], ◌∷◌, Ok, Err, Result}
use Rattle.rulebook.specs.Meaning.{Meaning}
use Rattle.history.specs.declared.Call.{Call}
use Rattle.history.specs.declared.Answer.{Answer}
use Rattle.history.specs.declared.Answer.TheVariants.{Refused}
use Rattle.history.specs.declared.DayFault.{DayFault}
use Rattle.history.specs.History.{History}
use Rattle.history.specs.Law.{Sound}
use Rattle.day.specs.State.{State}
use Rattle.day.specs.Following.{answered, left, Brings}

-- an answer, or why there is none
abbrev pub answer_of : Result Answer DayFault → Answer
answer_of (Ok answer) = answer
answer_of (Err fault) = Refused fault

-- the answers to a list of calls, each by the day as the calls before it leave it, and the day that they leave
abbrev pub all_answered : Meaning → State → List Call → List Answer
all_answered rules s [] = []
all_answered rules s (call ∷ calls) = answered rules s call ∷ all_answered rules (left rules s call) calls

abbrev pub all_left : Meaning → State → List Call → State
all_left rules s [] = s
all_left rules s (call ∷ calls) = all_left rules (left rules s call) calls

-- a history that upholds the law: it brings the day to where it stands, and it is sound
pub record Upheld (rules : Meaning) (h : History) (s : State) : Type 0 where
  pub brings : Brings rules h s
  pub sound : Sound rules h
