-- The laws of the day: every call takes a day on with its history.
use Rattle.rulebook.specs.Meaning.{Meaning}
use Rattle.history.specs.declared.Call.{Call}
use Rattle.history.specs.History.{History, opened, after}
use Rattle.day.specs.State.{State, fresh}
use Rattle.day.specs.Following.{answered, left, Brings}
use Rattle.trading.specs.Runs.{Upheld}

-- under every rulebook: the empty history brings a fresh day to where it stands, and whatever history brought a day to
-- where a call finds it, with that call and its answer added it is lawful and sound, and brings the day to where the
-- call leaves it
pub record CallsFollowTheHistory : Type 0 where
  pub start : (rules : Meaning) → Brings rules opened fresh
  pub onward : (rules : Meaning) (h : History) (s : State) (call : Call) → Brings rules h s
      → Upheld rules (after h call (answered rules s call)) (left rules s call)
