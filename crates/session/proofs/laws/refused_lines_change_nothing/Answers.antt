use Rattle.std.proofs.Common.{◌≡◌, cond, Ok, Err, Result, refl, arith}
use Rattle.std.proofs.lemmas.Grind.{common_steps}
use Rattle.history.specs.declared.Call.{Call}
use Rattle.history.specs.declared.Answer.{Answer}
use Rattle.history.specs.History.{accepted}
use Rattle.rulebook.specs.Meaning.{Meaning}
use Rattle.day.specs.State.{State}
use Rattle.day.specs.Calls.{changed}
use Rattle.day.specs.Following.{answered}
use Rattle.reply.specs.declared.LineFault.{LineFault}
use Rattle.reply.specs.declared.Reply.TheVariants.{Refused}
use Rattle.line.specs.Commands.{said}
use Rattle.session.specs.Talk.{replied, reply_by, left_by}
use Rattle.session.proofs.laws.refused_lines_change_nothing.Goals as goal

-- a call whose reply is a refusal was not accepted
same_after : (s next : State) (call : Call) (answer : Answer) (fault : LineFault) → replied call answer ≡ Refused fault → cond (accepted answer) next s ≡ s
same_after s next call answer fault is = grind (arith, common_steps)

by_said : (rules : Meaning) (s : State) (fault : LineFault) (r : Result Call LineFault) → reply_by rules s r ≡ Refused fault → left_by rules s r ≡ s
by_said rules s fault (Ok call) is = same_after s (changed rules s call) call (answered rules s call) fault is
by_said rules s fault (Err other) is = refl

pub returns : goal.returns
returns c rules s line fault is = by_said rules s fault (said line) is
