-- A day and its history: what calls answer and leave, and where a history brings a day.
use Rattle.std.specs.Prelude.{◌≡◌, cond}
use Rattle.rulebook.specs.Meaning.{Meaning}
use Rattle.history.specs.declared.Call.{Call}
use Rattle.history.specs.declared.Answer.{Answer}
use Rattle.history.specs.History.{History, accepted}
use Rattle.history.specs.Board.{board}
use Rattle.history.specs.Rulings.{ruled_on, Lawful}
use Rattle.day.specs.State.{State, board_of}
use Rattle.day.specs.Calls.{changed}

-- the answer to a call, as the rulings fix it for the day before it
abbrev pub answered : Meaning → State → Call → Answer
answered rules s call = ruled_on rules (board_of s) call

-- the day that a call leaves: the changed day where it is accepted, the same day where it is refused
abbrev pub left : Meaning → State → Call → State
left rules s call = cond (accepted (answered rules s call)) (changed rules s call) s

-- a history brings a day to where it stands: every answer in it is the one that the history before it fixes, and
-- minute, contracts and orders of the day are what the history says
pub record Brings (rules : Meaning) (h : History) (s : State) : Type 0 where
  pub lawful : Lawful rules h
  pub shown : board_of s ≡ board rules h
