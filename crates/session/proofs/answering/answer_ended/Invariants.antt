use Rattle.std.proofs.Common.{◌≡◌, ◌+◌, ◌*◌, ◌≤◌, ◌++◌, length, vec_items, vec_len, vec_capacity}
use Rattle.day.specs.State.{view}
use Rattle.line.specs.Lines.{ended, unended}
use Rattle.line.specs.Readers.{unread}
use Rattle.session.specs.Talk.{printed, left_by_lines}
use Rattle.session.proofs.answering.answer_ended.Given as goal

-- the lines that are left give the rest of the bytes, and the day
abbrev pub invariant-loop-line : goal.invariant-loop-line
invariant-loop-line g l =
    (vec_items l.out ++ printed (g.R.Rulebook.meaning l.initial.day.book) (view l.day) (ended (unread l.reader))
    ≡ vec_items l.initial.out ++ printed (g.R.Rulebook.meaning l.initial.day.book) (view l.initial.day) (ended l.input))
    × (left_by_lines (g.R.Rulebook.meaning l.initial.day.book) (view l.day) (ended (unread l.reader))
    ≡ left_by_lines (g.R.Rulebook.meaning l.initial.day.book) (view l.initial.day) (ended l.input))
    × (l.day.book ≡ l.initial.day.book)
    × (vec_capacity l.out ≡ vec_capacity l.initial.out)
    × (unended (unread l.reader) ≡ unended l.input)
    × (44 * length (ended (unread l.reader)) + vec_len l.out ≤ 44 * length (ended l.input) + vec_len l.initial.out)

abbrev pub decreases-loop-line : goal.decreases-loop-line
decreases-loop-line g l = length (ended (unread l.reader))
