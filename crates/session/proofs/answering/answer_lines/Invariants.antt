use Rattle.std.proofs.Common.{◌≡◌, ◌+◌, ◌*◌, ◌≤◌, ◌++◌, length, vec_items, vec_len, vec_capacity}
use Rattle.day.specs.State.{view}
use Rattle.line.specs.Lines.{lines}
use Rattle.line.specs.Readers.{lines_left}
use Rattle.session.specs.Talk.{printed, left_by_lines}
use Rattle.session.proofs.answering.answer_lines.Given as goal

-- the lines that are left give the rest of the bytes, and the day
abbrev pub invariant-loop-line : goal.invariant-loop-line
invariant-loop-line g l =
    (vec_items l.out ++ printed (g.R.Rulebook.meaning l.initial.day.book) (view l.day) (lines_left l.line-iterator)
    ≡ vec_items l.initial.out ++ printed (g.R.Rulebook.meaning l.initial.day.book) (view l.initial.day) (lines l.input))
    × (left_by_lines (g.R.Rulebook.meaning l.initial.day.book) (view l.day) (lines_left l.line-iterator)
    ≡ left_by_lines (g.R.Rulebook.meaning l.initial.day.book) (view l.initial.day) (lines l.input))
    × (l.day.book ≡ l.initial.day.book)
    × (vec_capacity l.out ≡ vec_capacity l.initial.out)
    × (44 * length (lines_left l.line-iterator) + vec_len l.out ≤ 44 * length (lines l.input) + vec_len l.initial.out)
