use Rattle.std.proofs.Common.{◌≡◌, ◌+◌, ◌++◌, drop, vec_len, vec_capacity}
use Rattle.day.specs.State.{view}
use Rattle.trading.specs.Runs.{all_answered, all_left}
use Rattle.trading.proofs.running.make_all.Given as goal

-- the calls that are left give the rest of the answers, and the day
abbrev pub invariant-loop-call : goal.invariant-loop-call
invariant-loop-call g l =
    let rules = g.R.Rulebook.meaning l.initial.day.book in
    let rest = drop l.call-index l.calls in
    record {
      answers : l.answers.items ++ all_answered rules (view l.day) rest ≡ l.initial.answers.items ++ all_answered rules (view l.initial.day) l.calls;
      after : all_left rules (view l.day) rest ≡ all_left rules (view l.initial.day) l.calls;
      book : l.day.book ≡ l.initial.day.book;
      capacity : vec_capacity l.answers ≡ vec_capacity l.initial.answers;
      len : vec_len l.answers ≡ vec_len l.initial.answers + l.call-index;
    }
