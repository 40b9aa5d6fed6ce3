-- What lines are replied, each by the day as the lines before it leave it.
use Rattle.std.specs.Prelude.{ℕ, List, [], ◌∷◌, ◌++◌, pos, Ok, Err, Result}
use Rattle.rulebook.specs.Meaning.{Meaning}
use Rattle.history.specs.declared.Call.{Call}
use Rattle.history.specs.declared.Call.TheVariants.{List as Listing, Post, Collar, Clock, Halt, Lift, Ask, Enter, Withdraw}
use Rattle.history.specs.declared.Answer.{Answer}
use Rattle.history.specs.declared.Answer.TheVariants.{Listed as Numbered, Done, Lapsed as Counted, Price, Ordered as Taken, Refused as Denied}
use Rattle.history.specs.History.{History}
use Rattle.history.specs.Law.{added}
use Rattle.day.specs.State.{State}
use Rattle.day.specs.Following.{answered, left, Brings}
use Rattle.trading.specs.Runs.{all_answered, Upheld}
use Rattle.reply.specs.declared.LineFault.{LineFault}
use Rattle.reply.specs.declared.LineFault.TheVariants.{Day}
use Rattle.reply.specs.declared.Reply.{Reply}
use Rattle.reply.specs.declared.Reply.TheVariants.{Listed, Posted, Collared, Lapsed, Halted, Lifted, Priced, Ordered, Withdrawn, Refused}
use Rattle.line.specs.Commands.{said}
use Rattle.reply.specs.Replies.{text}

-- the reply to a call that is carried out without a number to tell; the calls that have numbers to tell are never answered so
abbrev pub carried_out : Call → Reply
carried_out (Listing product) = Listed 0
carried_out (Post contract letter value) = Posted
carried_out (Collar contract low high) = Collared
carried_out (Clock minute) = Lapsed 0
carried_out (Halt contract) = Halted
carried_out (Lift contract) = Lifted
carried_out (Ask contract n d) = Priced 0 (pos 0)
carried_out (Enter entry) = Ordered 0 0
carried_out (Withdraw order participant) = Withdrawn

-- the reply to a call by its answer; a refusal is passed on whole
abbrev pub replied : Call → Answer → Reply
replied call (Numbered contract) = Listed contract
replied call Done = carried_out call
replied call (Counted orders) = Lapsed orders
replied call (Price price distance) = Priced price distance
replied call (Taken order partner) = Ordered order partner
replied call (Denied fault) = Refused (Day fault)

-- what a line says is replied, and the day that it leaves: the same day where it says no call
abbrev pub reply_by : Meaning → State → Result Call LineFault → Reply
reply_by rules s (Ok call) = replied call (answered rules s call)
reply_by rules s (Err fault) = Refused fault

abbrev pub left_by : Meaning → State → Result Call LineFault → State
left_by rules s (Ok call) = left rules s call
left_by rules s (Err fault) = s

abbrev pub reply : Meaning → State → List ℕ → Reply
reply rules s line = reply_by rules s (said line)

abbrev pub left_by_line : Meaning → State → List ℕ → State
left_by_line rules s line = left_by rules s (said line)

-- the bytes that are printed for lines, and the day that they leave
abbrev pub printed : Meaning → State → List (List ℕ) → List ℕ
printed rules s [] = []
printed rules s (line ∷ lines) = text (reply rules s line) ++ printed rules (left_by_line rules s line) lines

abbrev pub left_by_lines : Meaning → State → List (List ℕ) → State
left_by_lines rules s [] = s
left_by_lines rules s (line ∷ lines) = left_by_lines rules (left_by_line rules s line) lines

-- the calls that lines make
abbrev pub with_call : Result Call LineFault → List Call → List Call
with_call (Ok call) calls = call ∷ calls
with_call (Err fault) calls = calls

abbrev pub calls_in : List (List ℕ) → List Call
calls_in [] = []
calls_in (line ∷ lines) = with_call (said line) (calls_in lines)

-- what is printed for lines by the answers to their calls, in turn; a line that says no call has its own fault
abbrev pub next_text : Result Call LineFault → List Answer → List ℕ
next_text (Ok call) [] = []
next_text (Ok call) (answer ∷ answers) = text (replied call answer)
next_text (Err fault) answers = text (Refused fault)

abbrev pub answers_after : Result Call LineFault → List Answer → List Answer
answers_after (Ok call) [] = []
answers_after (Ok call) (answer ∷ answers) = answers
answers_after (Err fault) answers = answers

abbrev pub printed_by : List (List ℕ) → List Answer → List ℕ
printed_by [] answers = []
printed_by (line ∷ lines) answers = next_text (said line) answers ++ printed_by lines (answers_after (said line) answers)

-- a reply, or why there is none
abbrev pub reply_of : Result Reply LineFault → Reply
reply_of (Ok said) = said
reply_of (Err fault) = Refused fault

-- the law of the day, for the calls that lines make: for whatever history brought the day to where the lines find it, the
-- history with these calls and their answers added is lawful and sound, and brings the day to where they leave it
abbrev pub LawfulOn : Meaning → State → List (List ℕ) → State → Type 0
LawfulOn rules s lines end =
    (h : History) → Brings rules h s → Upheld rules (added h (calls_in lines) (all_answered rules s (calls_in lines))) end
